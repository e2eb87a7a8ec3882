-- The owner that the calls make, call by call, is the one that the history tells of: what is kept as a count and a flag follows from when a beacon last set the count
-- to 0 and how many TBTTs have passed since (02, Five). Assumes nothing.
use Rattle.std.specs.Prelude.{Some, None, Option}
use mathlib.Core.Bool.{Bool, true, false, ◌&&◌}
use mathlib.Core.List.{List}
use mathlib.Core.Logic.{⊎_elim}
use mathlib.Core.Path.{◌≡◌, refl, sym, ap, ap₂, ◌∙◌}
use Prim.Native.Nat.{ℕ, zero, suc, ◌+◌, ◌-◌, ◌≤◌}
use native.Mathlib.Omega.{arith}
use borrow.Author.Tests.{ne_eqb, lt-leb}
use lib.Dec.{leb, eqb}
use Rattle.answer.proofs.Booleans.{either}
use Rattle.answer.specs.Checks.{pick}
use Rattle.element.specs.IbssDfs.{Dfs}
use Rattle.header.specs.Headers.{same}
use Rattle.member.specs.Members.{named_by}
use Rattle.owner.specs.Owners.{new_owner, is_owner, heard_from, at_tbtt, past_tbtts}
use Rattle.owner.proofs.TbttByTbtt.{none_past}
use Rattle.owner.specs.Tbtts.{is_tbtt, tbtts_in}
use Rattle.owner.specs.declared.Owner.{Owner}
use Rattle.claims.specs.Reigns.{Reign, reign_of, Reigning, nobody, reigns, passed_by, missed_by, at_unit, over_units, owns, naming_at, heard_at}
use Rattle.claims.specs.MemberRecords.{owner_told}

-- an owner that the calls so far can have made
abbrev pub Lasting : Reigning → ℕ → Type 0
Lasting nobody t = Unit {0}
Lasting (reigns r) t = (r.since ≤ t) × (1 ≤ r.recovery)

-- an owner by its fields
abbrev owner_as : Reign → ℕ → Bool → Owner
owner_as r misses heard = record { address = r.owner; recovery = r.recovery; misses = misses; heard = heard }

-- the same with one miss more, if it is not given up there
abbrev missed_once : Reign → ℕ → Option Owner
missed_once r n = pick (leb r.recovery (n + 1)) None (Some (owner_as r (n + 1) false))

-- many TBTTs, and one more
pub one_more : (n : ℕ) (o : Option Owner) → past_tbtts (suc n) o ≡ at_tbtt (past_tbtts n o)
unfolding past_tbtts
one_more zero o = refl
one_more (suc n) o = one_more n (at_tbtt o)

module _ (b : ℕ) where
  none_in : (t : ℕ) → tbtts_in b t 0 ≡ 0
  unfolding tbtts_in
  none_in t = refl

  -- ---- one unit more

  module _ (r : Reign) (u : ℕ) (past : r.since ≤ u) where
    unit_counted : passed_by b r (suc u) ≡ passed_by b r u + pick (is_tbtt b (suc u)) 1 0
    unfolding tbtts_in
    unit_counted =
        ap (tbtts_in b r.since) (let e : suc u - r.since ≡ suc (u - r.since) = omega arith in e)
        ∙ ap (λ (m : ℕ). passed_by b r u + pick (is_tbtt b m) 1 0) (let e : r.since + suc (u - r.since) ≡ suc u = omega arith in e)

    -- no TBTT: nothing changes
    plain_unit : is_tbtt b (suc u) ≡ false → owner_told b (suc u) (at_unit b (suc u) (reigns r)) ≡ owner_told b u (reigns r)
    plain_unit n =
        let same_count : passed_by b r (suc u) ≡ passed_by b r u = unit_counted ∙ ap (λ (t : Bool). passed_by b r u + pick t 1 0) n ∙ (let e : passed_by b r u + 0 ≡ passed_by b r u = omega arith in e) in
        ap (λ (t : Bool). owner_told b (suc u) (pick (t && leb r.recovery (missed_by b r (suc u))) nobody (reigns r))) n
        ∙ ap (λ (k : ℕ). Some (owner_as r (k - pick r.by_owner 1 0) (r.by_owner && eqb k 0))) same_count

    -- a TBTT
    tbtt_unit : 1 ≤ r.recovery → is_tbtt b (suc u) ≡ true → owner_told b (suc u) (at_unit b (suc u) (reigns r)) ≡ at_tbtt (owner_told b u (reigns r))
    tbtt_unit some y =
        let one-passed : passed_by b r (suc u) ≡ passed_by b r u + 1 = unit_counted ∙ ap (λ (t : Bool). passed_by b r u + pick t 1 0) y in
        ap (λ (t : Bool). owner_told b (suc u) (pick (t && leb r.recovery (missed_by b r (suc u))) nobody (reigns r))) y
        ∙ told_if (leb r.recovery (missed_by b r (suc u)))
        ∙ ap (λ (k : ℕ). pick (leb r.recovery (k - pick r.by_owner 1 0)) None (Some (owner_as r (k - pick r.by_owner 1 0) (r.by_owner && eqb k 0)))) one-passed
        ∙ by_beacon r.by_owner (passed_by b r u)
      where
        told_if : (ends : Bool) → owner_told b (suc u) (pick ends nobody (reigns r)) ≡ pick ends None (owner_told b (suc u) (reigns r))
        told_if true = refl
        told_if false = refl

        -- by whether the latest beacon that set the count to 0 was the owner's, and how many TBTTs had passed since
        by_beacon : (own : Bool) (k : ℕ)
            → pick (leb r.recovery (k + 1 - pick own 1 0)) None (Some (owner_as r (k + 1 - pick own 1 0) (own && eqb (k + 1) 0)))
            ≡ at_tbtt (Some (owner_as r (k - pick own 1 0) (own && eqb k 0)))
        by_beacon false k =
            ap (λ (m : ℕ). pick (leb r.recovery m) None (Some (owner_as r m false))) (let e : k + 1 - 0 ≡ k - 0 + 1 = omega arith in e)
        by_beacon true zero = ap (λ (t : Bool). pick t None (Some (owner_as r 0 false))) (lt-leb r.recovery 0 some)
        by_beacon true (suc k) =
            ap₂ (λ (m : ℕ) (t : Bool). pick (leb r.recovery m) None (Some (owner_as r m t)))
            (let e : suc k + 1 - 1 ≡ suc k - 1 + 1 = omega arith in e)
            (ne_eqb (suc k + 1) 0 (λ (e : suc k + 1 ≡ 0). omega arith))
            ∙ ap (λ (t : Bool). at_tbtt (Some (owner_as r (suc k - 1) t))) (sym (ne_eqb (suc k) 0 (λ (e : suc k ≡ 0). omega arith)))

  unit_told : (w : Reigning) (u : ℕ) → Lasting w u
      → owner_told b (suc u) (at_unit b (suc u) w) ≡ pick (is_tbtt b (suc u)) (at_tbtt (owner_told b u w)) (owner_told b u w)
  unit_told nobody u l = by (is_tbtt b (suc u))
    where
      by : (t : Bool) → ◌≡◌ {A = Option Owner} None (pick t (at_tbtt None) None)
      by true = refl
      by false = refl
  unit_told (reigns r) u l =
      ⊎_elim
      (λ (y : is_tbtt b (suc u) ≡ true).
      tbtt_unit r u l.0 l.1 y ∙ ap (λ (t : Bool). pick t (at_tbtt (owner_told b u (reigns r))) (owner_told b u (reigns r))) (sym y))
      (λ (n : is_tbtt b (suc u) ≡ false).
      plain_unit r u l.0 n ∙ ap (λ (t : Bool). pick t (at_tbtt (owner_told b u (reigns r))) (owner_told b u (reigns r))) (sym n))
      (either (is_tbtt b (suc u)))

  later_lasts : (w : Reigning) (t u : ℕ) → t ≤ u → Lasting w t → Lasting w u
  later_lasts nobody t u h l = tt
  later_lasts (reigns r) t u h l = (omega (arith, l.0), l.1)

  unit_lasts : (w : Reigning) (u v : ℕ) → Lasting w v → Lasting (at_unit b u w) v
  unit_lasts nobody u v l = tt
  unit_lasts (reigns r) u v l = by (is_tbtt b u && leb r.recovery (missed_by b r u))
    where
      by : (t : Bool) → Lasting (pick t nobody (reigns r)) v
      by true = tt
      by false = l

  -- ---- an advance

  pub units_last : (w : Reigning) (t n : ℕ) → Lasting w t → Lasting (over_units b t n w) (t + n)
  unfolding over_units
  units_last w t zero l = later_lasts w t (t + 0) (omega arith) l
  units_last w t (suc n) l =
      unit_lasts (over_units b t n w) (t + suc n) (t + suc n) (later_lasts (over_units b t n w) (t + n) (t + suc n) (omega arith) (units_last w t n l))

  -- unit by unit, and at each TBTT one step
  pub units_told : (w : Reigning) (t n : ℕ) → Lasting w t → owner_told b (t + n) (over_units b t n w) ≡ past_tbtts (tbtts_in b t n) (owner_told b t w)
  unfolding over_units tbtts_in
  units_told w t zero l = ap (λ (u : ℕ). owner_told b u w) (let e : t + 0 ≡ t = omega arith in e) ∙ sym (none_past (owner_told b t w))
  units_told w t (suc n) l =
      let next : t + suc n ≡ suc (t + n) = omega arith in
      let here = over_units b t n w in
      let before = units_told w t n l in
      ap (λ (u : ℕ). owner_told b u (at_unit b u here)) next
      ∙ unit_told here (t + n) (units_last w t n l)
      ∙ ap₂ (λ (u : ℕ) (o : Option Owner). pick (is_tbtt b u) (at_tbtt o) o) (sym next) before
      ∙ by (is_tbtt b (t + suc n)) (tbtts_in b t n)
    where
      by : (at : Bool) (k : ℕ) → pick at (at_tbtt (past_tbtts k (owner_told b t w))) (past_tbtts k (owner_told b t w)) ≡ past_tbtts (k + pick at 1 0) (owner_told b t w)
      by true k = sym (one_more k (owner_told b t w)) ∙ ap (λ (m : ℕ). past_tbtts m (owner_told b t w)) (let e : suc k ≡ k + 1 = omega arith in e)
      by false k = ap (λ (m : ℕ). past_tbtts m (owner_told b t w)) (let e : k ≡ k + 0 = omega arith in e)

  -- ---- a beacon at t

  module _ (t : ℕ) where
    pub owns_told : (w : Reigning) (a : List ℕ) → owns w a ≡ is_owner (owner_told b t w) a
    owns_told nobody a = refl
    owns_told (reigns r) a = refl

    -- a beacon that sets the count to 0 has missed nothing yet
    just_now : (own : Bool) (a : List ℕ) (recovery : ℕ)
        → owner_told b t (reigns (reign_of a recovery t own)) ≡ Some (record { address = a; recovery = recovery; misses = 0; heard = own })
    just_now own a recovery =
        ap (λ (k : ℕ). Some (owner_as (reign_of a recovery t own) (k - pick own 1 0) (own && eqb k 0))) (ap (tbtts_in b t) (let e : t - t ≡ 0 = omega arith in e) ∙ none_in t) ∙ ap Some (by own)
      where
        by : (x : Bool)
            → owner_as (reign_of a recovery t own) (0 - pick x 1 0) (x && eqb 0 0) ≡ record { address = a; recovery = recovery; misses = 0; heard = x }
        by true = refl
        by false = refl

    pub naming_told : (w : Reigning) (d : Option Dfs) → owner_told b t (naming_at t d w) ≡ named_by (owner_told b t w) d
    naming_told w None = refl
    naming_told nobody (Some d) = just_now false d.owner d.recovery
    naming_told (reigns r) (Some d) = by (same d.owner r.owner)
      where
        by : (as_before_lem : Bool)
            → owner_told b t (reigns (pick as_before_lem (reign_of r.owner d.recovery r.since r.by_owner) (reign_of d.owner d.recovery t false)))
            ≡ Some (pick as_before_lem
            (record { address = r.owner; recovery = d.recovery; misses = missed_by b r t; heard = r.by_owner && eqb (passed_by b r t) 0 })
            (new_owner d.owner d.recovery))
        by true = refl
        by false = just_now false d.owner d.recovery

    pub heard_told : (w : Reigning) (a : List ℕ) → owner_told b t (heard_at t a w) ≡ heard_from (owner_told b t w) a
    heard_told nobody a = refl
    heard_told (reigns r) a = by (same a r.owner)
      where
        by : (from_owner : Bool)
            → owner_told b t (reigns (pick from_owner (reign_of r.owner r.recovery t true) r))
            ≡ Some (pick from_owner (record { address = r.owner; recovery = r.recovery; misses = 0; heard = true }) (owner_as r (missed_by b r t) (r.by_owner && eqb (passed_by b r t) 0)))
        by true = just_now true r.owner r.recovery
        by false = refl

    pub naming_lasts : (w : Reigning) (d : Dfs) → 1 ≤ d.recovery → Lasting w t → Lasting (naming_at t (Some d) w) t
    naming_lasts nobody d some l = (omega arith, some)
    naming_lasts (reigns r) d some l = by (same d.owner r.owner)
      where
        by : (as_before_lem : Bool) → Lasting (reigns (pick as_before_lem (reign_of r.owner d.recovery r.since r.by_owner) (reign_of d.owner d.recovery t false))) t
        by true = (l.0, some)
        by false = (omega arith, some)

    pub hearing_lasts : (w : Reigning) (a : List ℕ) → Lasting w t → Lasting (heard_at t a w) t
    hearing_lasts nobody a l = tt
    hearing_lasts (reigns r) a l = by (same a r.owner)
      where
        by : (from_owner : Bool) → Lasting (reigns (pick from_owner (reign_of r.owner r.recovery t true) r)) t
        by true = (omega arith, l.1)
        by false = l
