-- Frames to two different stations of a table at one moment may be taken in either order, and so may a frame to one and a question of the other (02, Seven: "frames to
-- two different stations at one moment may be taken in either order"); of two frames to one station the order can matter. Over the code's own results. Assumes nothing.
use Rattle.std.specs.Prelude.{Ok, Err}
use mathlib.Core.Bool.{Bool, true, false}
use mathlib.Core.List.{List, [], ◌∷◌, ◌++◌, map}
use mathlib.Core.Logic.{⊎_elim}
use mathlib.Core.Path.{◌≡◌, refl, sym, ap, ap₂, ◌∙◌}
use Prim.Native.Nat.{ℕ}
use native.Mathlib.Omega.{arith}
use lib.ListN.{replicate}
use Rattle.answer.proofs.Booleans.{either, or_go}
use Rattle.answer.specs.Checks.{Outcome, pick, and_then, checked}
use Rattle.answer.specs.Faults.{Placed, verdict_of}
use Rattle.action.specs.Openings.{opens_with}
use Rattle.element.specs.ChannelSwitch.{switch_means}
use Rattle.frame.specs.Actions.{action_means}
use Rattle.frame.specs.Frames.{Sent, frame_means}
use Rattle.header.specs.Headers.{same, da, to_all, foreign_header, foreign_address, header_means, management_means, address_means}
use Rattle.octets.specs.Elements.{fixed}
use Rattle.row.specs.Rows.{is_of}
use Rattle.row.specs.declared.Row.{Row}
use Rattle.single_body.specs.Singles.{single}
use Rattle.station.specs.Asking.{permission_of}
use Rattle.station.specs.Taking.{announced, informed, take_means as station_takes}
use Rattle.walk.specs.Elements.{elements_after, elements_in}
use Rattle.walk.specs.Handed.{passing, handing}
use Rattle.walk.specs.Required.{required, nothing_left}
use Rattle.station.specs.declared.Station.{Station}
use Rattle.table.proofs.Neighbours.{of_another}
use Rattle.table.proofs.Readers.{sent_to_all}
use Rattle.table.proofs.StaysApart.{some_same}
use Rattle.table.specs.Tables.{with_rows, on_first, station_of, reader_of, hearing, heard_rows, take_means, taken, take_of, ask_means}
use Rattle.table.specs.Validity.{ValidTable}
use Rattle.table.specs.declared.Table.{Table}
use Rattle.claims.specs.Moments.{ours}
use Rattle.claims.specs.Records.{record_from}
use Rattle.claims.specs.TableHistories.{made_for, history_of, history_for, Stay, joined_at}
use Rattle.claims.specs.TableRuns.{take, question, TableAnswer, judged, asked, TableMade, Does}
use Rattle.claims.proofs.TableDemand3.{row_arrives}
use Rattle.claims.proofs.TableMeans.{ap_kept, interval_kept, does_means}
use Rattle.claims.proofs.TableRows.{hearing_keeps, to_another}
use Rattle.claims.proofs.WhoIsJoined.{heard_seats}

-- ---- two rows changed in either order

module _ (p q : Row → Bool) (f g : Row → Row) (apart : (w : Row) → p w ≡ true → q w ≡ false) (keeps : (w : Row) → q (f w) ≡ q w) (keeps' : (w : Row) → p (g w) ≡ p w) where
  abbrev first_by : (r : Row → Bool) (h : Row → Row) (b : Bool) (w : Row) (ws : List Row) → List Row
  first_by r h b w ws = pick b (h w ∷ ws) (w ∷ on_first r h ws)

  exchanged : (ws : List Row) → on_first q g (on_first p f ws) ≡ on_first p f (on_first q g ws)
  unfolding on_first
  exchanged [] = refl
  exchanged (w ∷ ws) =
      ⊎_elim
      (λ (y : p w ≡ true).
      let other = apart w y in
      ap (λ (b : Bool). on_first q g (first_by p f b w ws)) y ∙ ap (λ (b : Bool). first_by q g b (f w) ws) (keeps w ∙ other)
      ∙ ap (λ (b : Bool). first_by p f b w (on_first q g ws)) (sym y) ∙ ap (λ (b : Bool). on_first p f (first_by q g b w ws)) (sym other))
      (λ (n : p w ≡ false).
      ap (λ (b : Bool). on_first q g (first_by p f b w ws)) n
      ∙ ⊎_elim
      (λ (y : q w ≡ true).
      ap (λ (b : Bool). first_by q g b w (on_first p f ws)) y ∙ ap (λ (b : Bool). first_by p f b (g w) ws) (sym (keeps' w ∙ n))
      ∙ ap (λ (b : Bool). on_first p f (first_by q g b w ws)) (sym y))
      (λ (m : q w ≡ false).
      ap (λ (b : Bool). first_by q g b w (on_first p f ws)) m ∙ ap (λ (vs : List Row). w ∷ vs) (exchanged ws)
      ∙ ap (λ (b : Bool). first_by p f b w (on_first q g ws)) (sym n) ∙ ap (λ (b : Bool). on_first p f (first_by q g b w ws)) (sym m))
      (either (q w)))
      (either (p w))

-- ---- a frame that is not sent to all ones

module _ (f : List ℕ) where
  abbrev read_in : Table → Placed Sent
  read_in t = frame_means (reader_of t f) t.ap t.interval f

  abbrev verdict_by : Placed Sent → TableAnswer
  verdict_by o = judged (verdict_of o)

  -- what was read of it changes the row of its DA
  abbrev rows_by : Placed Sent → List Row → List Row
  rows_by (Err x) ws = ws
  rows_by (Ok x) ws = on_first (is_of (da f)) (hearing x.kind) ws

  taken_by : to_all f ≡ false → (t : Table) → (judged (take_of t f).verdict ≡ verdict_by (read_in t)) × ((take_of t f).table ≡ with_rows t (rows_by (read_in t) t.rows))
  unfolding take_means
  taken_by alone t = by (read_in t) refl
    where
      by : (o : Placed Sent) → read_in t ≡ o
          → (judged (taken t (and_then o (λ x. Ok (with_rows t (heard_rows f x t.rows))))).verdict ≡ verdict_by o)
          × ((taken t (and_then o (λ x. Ok (with_rows t (heard_rows f x t.rows))))).table ≡ with_rows t (rows_by o t.rows))
      by (Err x) e = (refl, refl)
      by (Ok x) e = (
        refl,
        ap (λ (b : Bool). with_rows t (pick b (map (hearing x.kind) t.rows) (on_first (is_of (da f)) (hearing x.kind) t.rows)))
            (sym (sent_to_all (reader_of t f) t.ap t.interval f x e) ∙ alone),
      )

  -- it is read alike after another frame: who is joined is the same
  read_after : (t : Table) → ValidTable t → (g : List ℕ) → read_in (take_of t g).table ≡ read_in t
  unfolding reader_of
  read_after t v g =
      ap₂ (λ (a : List ℕ) (b : ℕ). frame_means (reader_of (take_of t g).table f) a b f) (ap_kept t (take g)) (interval_kept t (take g))
      ∙ ap (λ (b : Bool). frame_means (pick b (da f) (replicate 6 255)) t.ap t.interval f) (some_same (da f) t.rows (take_of t g).table.rows (heard_seats t v g))

module _ (f g : List ℕ) (two : same (da f) (da g) ≡ false) where
  rows_exchanged : (o o' : Placed Sent) (ws : List Row) → rows_by g o' (rows_by f o ws) ≡ rows_by f o (rows_by g o' ws)
  rows_exchanged (Err x) o' ws = refl
  rows_exchanged (Ok x) (Err y) ws = refl
  rows_exchanged (Ok x) (Ok y) ws =
      exchanged (is_of (da f)) (is_of (da g)) (hearing x.kind) (hearing y.kind) (λ w. of_another (da g) (da f) two w) (hearing_keeps (da g) x.kind) (hearing_keeps (da f) y.kind) ws

module _ (t : Table) (v : ValidTable t) (f : List ℕ) (alone : to_all f ≡ false) where
  -- two frames, to two addresses; where one of them is not joined, its frame changes nothing
  module _ (g : List ℕ) (alone' : to_all g ≡ false) (two : same (da f) (da g) ≡ false) where
    pub frames_exchanged : (x y x' y' : TableAnswer) (mid last mid' last' : Table) → Does t (take f) x mid → Does mid (take g) y last → Does t (take g) y' mid' → Does mid' (take f) x' last'
        → (x ≡ x') × (y ≡ y') × (last ≡ last')
    frames_exchanged x y x' y' mid last mid' last' one two-later other other-later =
        let m = does_means t (take f) x mid v one in
        let n = does_means mid (take g) y last m.valid two-later in
        let m' = does_means t (take g) y' mid' v other in
        let n' = does_means mid' (take f) x' last' m'.valid other-later in
        let read-f : read_in f mid' ≡ read_in f t = ap (read_in f) m'.leaves ∙ read_after f t v g in
        let read-g : read_in g mid ≡ read_in g t = ap (read_in g) m.leaves ∙ read_after g t v f in
        let rows-f : mid ≡ with_rows t (rows_by f (read_in f t) t.rows) = m.leaves ∙ (taken_by f alone t).1 in
        let rows_g : mid' ≡ with_rows t (rows_by g (read_in g t) t.rows) = m'.leaves ∙ (taken_by g alone' t).1 in (
          m.answers ∙ (taken_by f alone t).0 ∙ ap (verdict_by f) (sym read-f) ∙ sym (n'.answers ∙ (taken_by f alone mid').0),
          n.answers ∙ (taken_by g alone' mid).0 ∙ ap (verdict_by g) read-g ∙ sym (m'.answers ∙ (taken_by g alone' t).0),
          n.leaves ∙ (taken_by g alone' mid).1 ∙ ap₂ (λ (u : Table) (o : Placed Sent). with_rows u (rows_by g o u.rows)) rows-f read-g
              ∙ ap (with_rows t) (rows_exchanged f g two (read_in f t) (read_in g t) t.rows)
              ∙ sym (n'.leaves ∙ (taken_by f alone mid').1 ∙ ap₂ (λ (u : Table) (o : Placed Sent). with_rows u (rows_by f o u.rows)) rows_g read-f),
        )

  -- a frame to one, and a question of another
  pub question_exchanged : (own : List ℕ) → same (da f) own ≡ false → (n : ℕ) (x a x' a' : TableAnswer) (mid last mid' last' : Table)
      → Does t (take f) x mid → Does mid (question own n) a last → Does t (question own n) a' mid' → Does mid' (take f) x' last'
      → (x ≡ x') × (a ≡ a') × (last ≡ last')
  unfolding ask_means
  question_exchanged own two n x a x' a' mid last mid' last' one later other other-later =
      let m = does_means t (take f) x mid v one in
      let q = does_means mid (question own n) a last m.valid later in
      let q' = does_means t (question own n) a' mid' v other in
      let m' = does_means mid' (take f) x' last' q'.valid other-later in
      let still : station_of mid own ≡ station_of t own = ap (λ (u : Table). station_of u own) m.leaves ∙ to_another t v own f (or_go (to_all f) alone ∙ two) in (
        m.answers ∙ ap (λ (u : Table). judged (take_of u f).verdict) (sym q'.leaves) ∙ sym m'.answers,
        q.answers ∙ ap (λ (o : Outcome Station). asked (and_then o (λ s. Ok (permission_of s n)))) still ∙ sym q'.answers,
        q.leaves ∙ m.leaves ∙ ap (λ (u : Table). (take_of u f).table) (sym q'.leaves) ∙ sym m'.leaves,
      )

-- ---- two frames to one station: announcements of a switch at once, to channel 44 and to channel 48

abbrev switch_to : ℕ → List ℕ
switch_to channel = (208 ∷ 0 ∷ 0 ∷ 0 ∷ []) ++ ours.own ++ ours.ap ++ ours.ap ++ (0 ∷ 0 ∷ 0 ∷ 4 ∷ 37 ∷ 3 ∷ 0 ∷ channel ∷ 0 ∷ [])

abbrev both_made : ℕ → TableAnswer → ℕ → TableAnswer → List TableMade
both_made first r second s = record { call = take (switch_to second); answer = s } ∷ record { call = take (switch_to first); answer = r } ∷ []

abbrev OurStay : List TableMade → List TableMade → Table → Type 0
OurStay before after t = Stay ours.ap ours.interval ours.own ours.channel before after t

-- in a table that it joined at moment 0 the two orders leave two different tables
pub order_matters : (before : List TableMade) → joined_at before ≡ 0 → (x y x' y' : TableAnswer) (t u : Table)
    → OurStay before (both_made 44 x 48 y) t → OurStay before (both_made 48 x' 44 y') u → t ≡ u → ⊥
unfolding made_for history_of record_from station_takes frame_means header_means management_means address_means foreign_header foreign_address to_all checked elements_in elements_after switch_means fixed action_means opens_with required handing passing nothing_left single announced informed
order_matters before none x y x' y' t u one other e =
    let at-48 : channel_in (station_of t ours.own) ≡ 48 = ap channel_in (row_arrives ours.ap ours.interval ours.own ours.channel before (both_made 44 x 48 y) t one ∙ at_zero (both_made 44 x 48 y)) in
    let at-44 : channel_in (station_of u ours.own) ≡ 44 = ap channel_in (row_arrives ours.ap ours.interval ours.own ours.channel before (both_made 48 x' 44 y') u other ∙ at_zero (both_made 48 x' 44 y')) in
    let same : ◌≡◌ {A = ℕ} 48 44 = sym at-48 ∙ ap (λ (z : Table). channel_in (station_of z ours.own)) e ∙ at-44 in
    omega (arith, same)
  where
    channel_in : Outcome Station → ℕ
    channel_in (Err r) = 0
    channel_in (Ok s) = s.channel

    at_zero : (after : List TableMade)
        → ◌≡◌ {A = Outcome Station} (Ok (record_from (joined_at before) ours (history_for ours.own after))) (Ok (record_from 0 ours (history_for ours.own after)))
    at_zero after = ap (λ (m : ℕ). Ok (record_from m ours (history_for ours.own after))) none
