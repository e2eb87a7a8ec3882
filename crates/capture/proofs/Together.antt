-- The lister with its station taken apart is the lister that it was. Assumes nothing.
use mathlib.Core.Bool.{Bool, true, false}
use mathlib.Core.List.{List}
use mathlib.Core.Logic.{⊎_elim}
use mathlib.Core.Path.{◌≡◌, refl, sym, ap, ap₂, ◌∙◌, subst}
use Prim.Native.Nat.{ℕ, ◌≤◌}
use lib.Dec.{lit≤}
use Rattle.answer.proofs.Booleans.{clash, either}
use Rattle.apart.proofs.Parts.{put_back, put_back_valid, few_rows}
use Rattle.apart.specs.Apart.{apart_of, whole_of, HoldsSchedules, HeardAs}
use Rattle.apart.specs.declared.columns.Columns.{Columns}
use Rattle.apart.specs.declared.Apart.{Apart}
use Rattle.apart.specs.declared.Told.{Told}
use Rattle.beacon.specs.Beacons.{quiet_limit}
use Rattle.capture_record.specs.Entries.{hearing}
use Rattle.capture_record.specs.declared.entry.Entry.{Entry}
use Rattle.pen.specs.declared.words.Word.{Word}
use Rattle.station.specs.Starting.{blank}
use Rattle.station.specs.Stations.{slotted, in_use}
use Rattle.station.specs.Taking.{take_of}
use Rattle.station.specs.Validity.{Valid}
use Rattle.station.specs.declared.Station.{Station}
use Rattle.capture.specs.CodeTerms.Following.{Answered, line_for, Follows}
use Rattle.capture.specs.CodeTerms.Noting.{heard_by}
use Rattle.capture.specs.CodeTerms.Parts.{lister_of, PartsOf}
use Rattle.capture.specs.Listers.{following, Sound}
use Rattle.capture.specs.Lists.{line, noted}
use Rattle.capture.specs.declared.lister.Lister.{Lister}
use Rattle.capture.specs.declared.parts.Parts.{Parts}
use Rattle.capture.specs.declared.response.Response.{Response}
use Rattle.capture.proofs.Answering.{a_frame}
use Rattle.capture.proofs.StaysSound.{sound_following}
use Rattle.answer.specs.Faults.{Verdict}

-- where there is no station, no schedule is in use
module _ (s : Station) (none : s ≡ blank) where
  none_few : s.count ≤ quiet_limit
  none_few = subst (λ (x : Station). x.count ≤ quiet_limit) (sym none) (lit≤ tt)

  none_back : (c : Columns) → HoldsSchedules s c → whole_of (apart_of s) c ≡ s
  none_back c h = put_back s c h none_few (subst (λ (x : Station). slotted (in_use x) ≡ x.schedules) (sym none) refl)

module _ (l : Lister) (sound : Sound l) where
  few : l.station.count ≤ quiet_limit
  few =
      ⊎_elim (λ (y : l.active ≡ true). (sound.followed y).few) (λ (n : l.active ≡ false). none_few l.station (sound.idle n)) (either l.active)

  back : (c : Columns) → HoldsSchedules l.station c → whole_of (apart_of l.station) c ≡ l.station
  back c h =
      ⊎_elim
      (λ (y : l.active ≡ true). put_back_valid l.station c h (sound.followed y))
      (λ (n : l.active ≡ false). none_back l.station (sound.idle n) c h)
      (either l.active)

  abbrev parts_with : Apart → Parts
  parts_with a = record { blocks = l.blocks; damaged = l.damaged; active = l.active; apart = a }

  pub parts_of : (a : Apart) (c : Columns) → a ≡ apart_of l.station → HoldsSchedules l.station c → PartsOf l (parts_with a) c
  parts_of a c e h =
      subst (λ (x : Apart). PartsOf l (parts_with x) c) (sym e)
      (record {
        few = few;
        same = λ n. ap (λ (s : Station). record { lines = n; blocks = l.blocks; damaged = l.damaged; active = l.active; station = s }) (back c h);
      })

-- ---- a frame that the station hears

-- a record that is heard is a frame, and a station is there
pub is_frame : (b : Bool) (y : Entry) → heard_by b y ≡ true → (y ≡ Entry.Frame) × (b ≡ true)
is_frame b Entry.Malformed e = clash (sym e)
is_frame b Entry.Start e = clash (sym e)
is_frame b (Entry.Advance n) e = clash (sym e)
is_frame b Entry.Frame e = (refl, e)
is_frame b (Entry.Ask n) e = clash (sym e)

-- where none is heard, a frame has no station
pub no_hearer : (b : Bool) (y : Entry) → heard_by b y ≡ false → y ≡ Entry.Frame → b ≡ false
no_hearer b y e f = sym (ap (heard_by b) f) ∙ e

module _ (p : Parts) (c : Columns) (there : p.active ≡ true) (f : List ℕ) (t : Told) (after : Columns) (h : HeardAs f p.apart c t after) where
  abbrev hearer : Station
  hearer = whole_of p.apart c

  abbrev pub heard_parts : Parts
  heard_parts = record { blocks = p.blocks; damaged = p.damaged; active = p.active; apart = t.apart }

  -- the lister before its line
  abbrev pub answered : ℕ → Answered
  answered n = record { lister = following (lister_of p n c) (take_of hearer f).station; word = Word.Frame; answer = Response.Frame t.verdict }

  pub frame_says : (n : ℕ) → line_for (answered n) ≡ noted (lister_of p n c) (hearing f)
  frame_says n =
      ap (λ (v : Verdict). line (following (lister_of p n c) (take_of hearer f).station) Word.Frame (Response.Frame v)) h.verdict
      ∙ a_frame (lister_of p n c) there f

  pub frame_follows : (n : ℕ) → Follows (lister_of p n c) (answered n).lister
  frame_follows n = sound_following (lister_of p n c) (take_of hearer f).station (subst Valid h.station h.valid)

  pub frame_same : (n : ℕ) → lister_of heard_parts n after ≡ following (lister_of p n c) (take_of hearer f).station
  frame_same n =
      ap₂ (λ (b : Bool) (x : Station). record { lines = n; blocks = p.blocks; damaged = p.damaged; active = b; station = x }) there h.station

  pub frame_few : t.apart.count ≤ quiet_limit
  frame_few = few_rows t.apart after h.valid
