-- What is told of a record is its line, and the parts that it leaves are those of the lister after it. Assumes nothing.
use mathlib.Core.Bool.{true, false}
use mathlib.Core.List.{List}
use mathlib.Core.Path.{◌≡◌, refl, sym, ap, ◌∙◌, subst}
use Prim.Native.Nat.{ℕ, ◌≤◌}
use native.Mathlib.Omega.{arith}
use Rattle.answer.proofs.Booleans.{clash}
use Rattle.answer.specs.declared.Refusal.{Refusal}
use Rattle.apart.specs.Apart.{whole_of}
use Rattle.apart.specs.declared.columns.Columns.{Columns}
use Rattle.beacon.specs.Beacons.{quiet_limit}
use Rattle.capture_record.specs.Entries.{entry_told}
use Rattle.capture_record.specs.declared.entry.Entry.{Entry}
use Rattle.pen.specs.declared.words.Word.{Word}
use Rattle.station.proofs.Clearing.{nothing_clear}
use Rattle.station.specs.Asking.{permission_of}
use Rattle.station.specs.Clear.{Clear}
use Rattle.station.specs.Validity.{Valid}
use Rattle.station.specs.declared.Station.{Station}
use Rattle.capture.specs.CodeTerms.Following.{Answered, line_for, Follows}
use Rattle.capture.specs.CodeTerms.Parts.{lister_of, PartsOf, noted_with, asked, FollowedAs, NotedAs}
use Rattle.capture.specs.Listers.{without, following, Sound}
use Rattle.capture.specs.Lists.{line, refusal, no_station, noted}
use Rattle.capture.specs.declared.noting.Noted.{Noted}
use Rattle.capture.specs.declared.parts.Parts.{Parts}
use Rattle.capture.specs.declared.response.Response.{Response}
use Rattle.capture.proofs.Answering.{an_ask}
use Rattle.capture.proofs.StaysSound.{sound_without, sound_following}

module _ (p : Parts) (n : ℕ) (c : Columns) {after : Columns} {contents : List ℕ} {entry : Entry} {r : Noted} where
  told : (a : Answered) (clear : ℕ) → line_for a ≡ noted (lister_of p n c) (entry_told contents entry) → Follows (lister_of p n c) a.lister
      → r ≡ noted_with a.word a.answer r.parts clear → PartsOf a.lister r.parts after → (a.lister.active ≡ true → Clear a.lister.station clear)
      → NotedAs (lister_of p n c) contents entry r after
  told a clear says follows e parts clears =
      record {
        answered = a;
        says = says;
        follows = follows;
        word = ap (λ (x : Noted). x.word) e;
        number = ap (λ (x : Noted). x.number) e;
        offset = ap (λ (x : Noted). x.offset) e;
        parts = parts;
        clears = λ y. subst (λ (k : ℕ). Clear a.lister.station k) (sym (ap (λ (x : Noted). x.clear) e)) (clears y);
      }

  pub dropped : (word : Word) (x : Refusal) → line (without (lister_of p n c)) word (refusal x) ≡ noted (lister_of p n c) (entry_told contents entry)
      → r ≡ noted_with word (refusal x) r.parts 0 → ((m : ℕ) (d : Columns) → lister_of r.parts m d ≡ without (lister_of p m d)) → r.parts.apart.count ≡ 0
      → NotedAs (lister_of p n c) contents entry r after
  dropped word x says e same none =
      told (record { lister = without (lister_of p n c); word = word; answer = refusal x }) 0 says (sound_without (lister_of p n c)) e
      (record { few = omega (arith, none); same = λ m. same m after })
      (λ y. clash (sym y))

  pub followed : (word : Word) (answer : Response) (s : Station) → line (following (lister_of p n c) s) word answer ≡ noted (lister_of p n c) (entry_told contents entry)
      → Valid s → FollowedAs p word answer s r after → NotedAs (lister_of p n c) contents entry r after
  followed word answer s says valid h =
      let same = ap (λ (x : Noted). x.parts) h.told in
      told (record { lister = following (lister_of p n c) s; word = word; answer = answer }) 0 says (sound_following (lister_of p n c) s valid)
      (h.told ∙ ap (λ (q : Parts). noted_with word answer q 0) (sym same))
      (record {
        few = h.few;
        same =
            λ m.
            ap (λ (q : Parts). lister_of q m after) same
            ∙ ap (λ (x : Station). record { lines = m; blocks = p.blocks; damaged = p.damaged; active = true; station = x }) h.station;
      })
      (λ y. nothing_clear s)

-- what changes nothing
module _ (p : Parts) (n : ℕ) (c : Columns) {contents : List ℕ} {entry : Entry} {r : Noted} (few : p.apart.count ≤ quiet_limit) (sound : Sound (lister_of p n c)) where
  unchanged : (word : Word) (answer : Response) (clear : ℕ) → line (lister_of p n c) word answer ≡ noted (lister_of p n c) (entry_told contents entry)
      → r ≡ noted_with word answer p clear → (p.active ≡ true → Clear (whole_of p.apart c) clear) → NotedAs (lister_of p n c) contents entry r c
  unchanged word answer clear says e clears =
      let same = ap (λ (x : Noted). x.parts) e in
      told p n c (record { lister = lister_of p n c; word = word; answer = answer }) clear says
      (record { sound = sound; same_lines = refl; same_blocks = refl; same_damaged = refl })
      (e ∙ ap (λ (q : Parts). noted_with word answer q clear) (sym same))
      (subst (λ (q : Parts). PartsOf (lister_of p n c) q c) (sym same) (record { few = few; same = λ m. refl }))
      clears

  pub unstarted : p.active ≡ false → (word : Word) → no_station (lister_of p n c) word ≡ noted (lister_of p n c) (entry_told contents entry)
      → r ≡ noted_with word (refusal Refusal.NoStation) p 0 → NotedAs (lister_of p n c) contents entry r c
  unstarted idle word says e = unchanged word (refusal Refusal.NoStation) 0 says e (λ y. clash (sym y ∙ idle))

-- a question to the station
pub asked_told : (p : Parts) (n : ℕ) (c : Columns) {contents : List ℕ} {units : ℕ} {r : Noted} → p.apart.count ≤ quiet_limit → Sound (lister_of p n c) → p.active ≡ true
    → r ≡ asked (whole_of p.apart c) units p r.clear → Clear (whole_of p.apart c) r.clear → NotedAs (lister_of p n c) contents (Entry.Ask units) r c
asked_told p n c {contents} {units} {r} few sound there e clears =
    unchanged p n c few sound Word.Ask (Response.Question (permission_of (whole_of p.apart c) units)) r.clear (an_ask (lister_of p n c) there units) e (λ y. clears)
