-- A call says one thing only: the kind, what it tells and what it announces; and so does a history. Assumes nothing.
use Rattle.std.specs.Prelude.{Some, None, Option}
use mathlib.Core.List.{[], ◌∷◌}
use mathlib.Core.Logic.{inl, inr}
use mathlib.Core.Path.{◌≡◌, refl, sym, ap, ◌∙◌, subst}
use Prim.Native.Nat.{ℕ, ◌≤◌}
use native.Mathlib.Omega.{arith}
use Rattle.beacon.specs.Beacons.{Told}
use Rattle.element.specs.declared.channel_switch.ChannelSwitch.{ChannelSwitch}
use Rattle.element.specs.declared.power_constraint.PowerConstraint.{PowerConstraint}
use Rattle.frame.specs.Announcements.{announcement_in}
use Rattle.frame.specs.Frames.{Kind, beacon, probe_response, action}
use Rattle.pending.specs.declared.Switch.{Switch}
use Rattle.claims.specs.Histories.{Call, frame, advance, ask, History, clock_from, Listener, clock_of, Says, Tells, Announces, Constrains, Latest, Throughout}
use Rattle.claims.specs.Standing.{NoAnnouncement, LastAnnounced, Switches, at_once_lem, reached, NoSwitch, Counts, ChannelIs, LastConstrained, PowerIs, PendingIs}
use Rattle.claims.specs.Tbtts.{CountedTo}
use Rattle.claims.proofs.CountingTbtts.{one_moment}
use Rattle.claims.proofs.Following.{Sound}

is_switch : {w v : ChannelSwitch} → Some w ≡ Some v → w ≡ v
is_switch e = cc

pub no_switch_said : {A : Type 0} {w : ChannelSwitch} → None ≡ Some w → A
no_switch_said e = absurd (let z : ◌≡◌ {A = ℕ} 0 1 = cc in omega arith)

pub is_power : {p q : PowerConstraint} → Some p ≡ Some q → p ≡ q
is_power e = cc

pub no_power_said : {A : Type 0} {p : PowerConstraint} → None ≡ Some p → A
no_power_said e = absurd (let z : ◌≡◌ {A = ℕ} 0 1 = cc in omega arith)

abbrev switch_of : ℕ → ℕ → ℕ → Switch
switch_of at mode channel = record { at = at; mode = mode; channel = channel }

same_switch : (p q : Switch) → p.at ≡ q.at → p.mode ≡ q.mode → p.channel ≡ q.channel → p ≡ q
same_switch p q a m c =
    let same : switch_of p.at p.mode p.channel ≡ switch_of q.at q.mode q.channel = rw (a, m, c) in
    same

says_one : (k : Kind) (a b : Told) → Says k a → Says k b → a ≡ b
says_one (beacon t) a b x y = sym x ∙ y
says_one (probe_response t) a b x y = sym x ∙ y
says_one (action body) a b x y = absurd x

-- ---- a call

module _ (l : Listener) (sound : Sound l) (c : Call) (h : History) where
  pub announces_one : (w v : ChannelSwitch) → Announces l c h w → Announces l c h v → w ≡ v
  announces_one w v (k, x, e) (k', y, f) = is_switch (sym e ∙ ap announcement_in (sound.one_kind c h k k' x y) ∙ f)

  pub tells_one : (a b : Told) → Tells l c h a → Tells l c h b → a ≡ b
  tells_one a b (k, x, e) (k', y, f) = says_one k' a b (subst (λ (z : Kind). Says z a) (sound.one_kind c h k k' x y) e) f

-- ---- the latest of some calls

module _ {X : Type 0} (P : Call → History → Type 0) (Q : X → Call → History → Type 0) (apart : (x : X) (c : Call) (h : History) → Q x c h → P c h → ⊥) where
  latest_one : ((x y : X) (c : Call) (h : History) → Q x c h → Q y c h → x ≡ y) → (h : History) (x y : X) → Latest P (Q x) h → Latest P (Q y) h → x ≡ y
  unfolding Latest
  latest_one one [] x y v w = absurd v
  latest_one one (c ∷ h) x y (inl v) (inl w) = one x y c h v w
  latest_one one (c ∷ h) x y (inl v) (inr w) = absurd (apart x c h v w.0)
  latest_one one (c ∷ h) x y (inr v) (inl w) = absurd (apart y c h w v.0)
  latest_one one (c ∷ h) x y (inr v) (inr w) = latest_one one h x y v.1 w.1

  none_throughout : (h : History) (x : X) → Throughout P h → Latest P (Q x) h → ⊥
  unfolding Latest Throughout
  none_throughout [] x all v = v
  none_throughout (c ∷ h) x all (inl v) = apart x c h v all.0
  none_throughout (c ∷ h) x all (inr v) = none_throughout h x all.1 v.1

-- ---- a history

module _ (l : Listener) (sound : Sound l) (pos : 1 ≤ l.interval) where
  pub announced_one : (h : History) (x y : ℕ × ChannelSwitch) → LastAnnounced l h x.0 x.1 → LastAnnounced l h y.0 y.1 → x ≡ y
  announced_one =
      latest_one (NoAnnouncement l) (λ x c g. Announces l c g x.1 × CountedTo l.interval (clock_of l g) x.1.count x.0)
      (λ x c g v none. none x.1 v.0)
      one
    where
      one : (x y : ℕ × ChannelSwitch) (c : Call) (g : History) → Announces l c g x.1 × CountedTo l.interval (clock_of l g) x.1.count x.0
          → Announces l c g y.1 × CountedTo l.interval (clock_of l g) y.1.count y.0 → x ≡ y
      one (at, w) (at', v) c g (a, m) (b, n) =
          let same : w ≡ v = announces_one l sound c g w v a b in
          let moment : at ≡ at' =
          one_moment l.interval pos (clock_of l g) w.count at at' m
          (subst (λ (z : ChannelSwitch). CountedTo l.interval (clock_of l g) z.count at') (sym same) n) in
          cc

  -- a frame leaves the clock where it is
  announced_still : (c : Call) (h : History) (w : ChannelSwitch) → Announces l c h w → clock_of l (c ∷ h) ≡ clock_of l h
  unfolding clock_from
  announced_still (frame f) h w a = refl
  announced_still (advance n) h w a = absurd (sound.advance_unheard n h a.0 a.1)
  announced_still (ask n) h w a = refl

  pub switches_one : (c : Call) (h : History) (w v : ChannelSwitch) → Switches l c h w → Switches l c h v → w ≡ v
  switches_one c h w v (at_once_lem a e) (at_once_lem b f) = announces_one l sound c h w v a b
  switches_one c h w v (at_once_lem a e) (reached at y le) = absurd (omega (arith, announced_still c h w a, y.1))
  switches_one c h w v (reached at x le) (at_once_lem b f) = absurd (omega (arith, announced_still c h v b, x.1))
  switches_one c h w v (reached at x le) (reached at' y le') = ap (λ (z : ℕ × ChannelSwitch). z.1) (announced_one h (at, w) (at', v) x.0 y.0)

  pub counts_one : (h : History) (x y : Told × ℕ) → Counts l h x.0 x.1 → Counts l h y.0 y.1 → x ≡ y
  counts_one =
      latest_one (λ c g. ((z : Told) → Tells l c g z → ⊥) × NoSwitch l c g) (λ x c g. Tells l c g x.0 × (x.1 ≡ clock_of l g) × NoSwitch l c g)
      (λ x c g v none. none.0 x.0 v.0)
      one
    where
      one : (x y : Told × ℕ) (c : Call) (g : History) → Tells l c g x.0 × (x.1 ≡ clock_of l g) × NoSwitch l c g
          → Tells l c g y.0 × (y.1 ≡ clock_of l g) × NoSwitch l c g → x ≡ y
      one (a, t) (b, t') c g (x, e, i) (y, f, j) =
          let same : a ≡ b = tells_one l sound c g a b x y in
          let when : t ≡ t' = e ∙ sym f in
          cc

  constrained_one : (h : History) (p q : PowerConstraint) → LastConstrained l h p → LastConstrained l h q → p ≡ q
  constrained_one =
      latest_one (λ c g. ((x : PowerConstraint) → Constrains l c g x → ⊥) × NoSwitch l c g) (λ p c g. Constrains l c g p × NoSwitch l c g)
      (λ p c g v none. none.0 p v.0)
      (λ p q c g v w. is_power (sym v.0.2 ∙ ap (λ (x : Told). x.notice.power) (tells_one l sound c g v.0.0 w.0.0 v.0.1 w.0.1) ∙ w.0.2))

  -- ---- the fields

  module _ (h : History) where
    abbrev LastSwitched : ℕ → Type 0
    LastSwitched n = Latest (NoSwitch l) (λ c g. (w : ChannelSwitch) × Switches l c g w × (n ≡ w.channel)) h

    never_switched : (n : ℕ) → Throughout (NoSwitch l) h → LastSwitched n → ⊥
    never_switched n =
        none_throughout (NoSwitch l) (λ m c g. (w : ChannelSwitch) × Switches l c g w × (m ≡ w.channel)) (λ m c g v none. none v.0 v.1) h n

    switched_one : (m n : ℕ) → LastSwitched m → LastSwitched n → m ≡ n
    switched_one m n =
        latest_one (NoSwitch l) (λ k c g. (w : ChannelSwitch) × Switches l c g w × (k ≡ w.channel)) (λ k c g v none. none v.0 v.1)
        (λ m' n' c g v w. v.2 ∙ ap (λ (z : ChannelSwitch). z.channel) (switches_one c g v.0 w.0 v.1 w.1) ∙ sym w.2)
        h m n

    pub channel_one : (m n : ℕ) → ChannelIs l h m → ChannelIs l h n → m ≡ n
    channel_one m n (inl (x, e)) (inl (y, f)) = e ∙ sym f
    channel_one m n (inl (x, e)) (inr y) = absurd (never_switched n x y)
    channel_one m n (inr x) (inl (y, f)) = absurd (never_switched m y x)
    channel_one m n (inr x) (inr y) = switched_one m n x y

    pub power_one : (p q : Option PowerConstraint) → PowerIs l h p → PowerIs l h q → p ≡ q
    power_one None None x y = refl
    power_one None (Some q) x y = absurd (x q y)
    power_one (Some p) None x y = absurd (y p x)
    power_one (Some p) (Some q) x y = ap Some (constrained_one h p q x y)

    pub pending_one : (p q : Option Switch) → PendingIs l h p → PendingIs l h q → p ≡ q
    pending_one None None x y = refl
    pending_one None (Some q) x (w, y, e, f) = absurd (x q.at w y)
    pending_one (Some p) None (w, x, e, f) y = absurd (y p.at w x)
    pending_one (Some p) (Some q) (w, x, e, f) (v, y, e', f') =
        let same = announced_one h (p.at, w) (q.at, v) x.0 y.0 in
        let one : w ≡ v = ap (λ (z : ℕ × ChannelSwitch). z.1) same in
        ap Some
        (same_switch p q (ap (λ (z : ℕ × ChannelSwitch). z.0) same)
        (sym e ∙ ap (λ (z : ChannelSwitch). z.mode) one ∙ e') (sym f ∙ ap (λ (z : ChannelSwitch). z.channel) one ∙ f'))
