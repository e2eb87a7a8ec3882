-- A frame of an IBSS beside the same frame from an AP at its BSSID, as 01 reads it (02, Five). Assumes nothing.
use Rattle.std.specs.Prelude.{Ok, Err, Option}
use mathlib.Core.Bool.{Bool, false}
use mathlib.Core.List.{List}
use mathlib.Core.Path.{◌≡◌, refl, sym, ap, ap₂, subst, ◌∙◌}
use Prim.Native.Nat.{ℕ}
use lib.ListN.{length}
use Rattle.answer.proofs.Judged.{never, followed}
use Rattle.answer.proofs.Placing.{nowhere_value, past_value}
use Rattle.answer.specs.Checks.{Outcome, and_then}
use Rattle.answer.specs.Faults.{Placed, nowhere, placed_past}
use Rattle.beacon.proofs.InIbss.{sound_read, accepted_in_01}
use Rattle.beacon.specs.Beacons.{Told, beacon_means}
use Rattle.beacon.specs.IbssBeacons.{ToldInIbss, besides, ibss_beacon_means}
use Rattle.element.specs.IbssDfs.{Dfs}
use Rattle.header.proofs.Heard.{is_subtype}
use Rattle.header.proofs.SentBy.{heard_as_from_ap, same_body, individual}
use Rattle.header.specs.Headers.{header_length, body_of, sa, header_means, from_ap}
use Rattle.header.specs.declared.Head.{Head}
use Rattle.header.specs.declared.address.Cell.{Cell}
use Rattle.header.specs.declared.management.Subtype.{Subtype}
use Rattle.octets.specs.Numbers.{octet, bit}
use Rattle.frame.specs.Allowed.{KindAllowed}
use Rattle.frame.specs.Frames.{Kind, beacon, Sent, kind_of, sent, frame_means}
use Rattle.frame.specs.IbssFrames.{KindInIbss, SentInIbss, nameless, kind_in_ibss, sent_in_ibss, ibss_frame_means, SoundOf, DfsSoundIn}
use Rattle.frame.proofs.Allowing.{kind_allowed}

-- a body that 01 reads, with this element 41 beside it
abbrev named : Option Dfs → Placed Kind → Placed KindInIbss
named d o = and_then o (λ k. Ok (record { kind = k; dfs = d }))

-- ---- a body, by its subtype

module _ (b : ℕ) (body : List ℕ) where
  nameless_kind : (o : Placed Kind) (k : KindInIbss) → nameless o ≡ Ok k → o ≡ Ok k.kind
  nameless_kind (Err x) k e = absurd (never e)
  nameless_kind (Ok j) k e = ap Ok (let same : j ≡ k.kind = cc in same)

  -- an accepted one is what 01 accepts
  kind_in_01 : (s : Subtype) (k : KindInIbss) → kind_in_ibss b s body ≡ Ok k → kind_of b s body ≡ Ok k.kind
  kind_in_01 Subtype.Beacon k e =
      let p = followed (ibss_beacon_means b body) _ k e in
      ap (λ (o : Placed Told). and_then o (λ t. Ok (beacon t))) (accepted_in_01 b body p.0 p.1)
      ∙ ap Ok (let same : beacon p.0.told ≡ k.kind = cc p.2 in same)
  kind_in_01 Subtype.ProbeResponse k e = nameless_kind (kind_of b Subtype.ProbeResponse body) k e
  kind_in_01 Subtype.Action k e = nameless_kind (kind_of b Subtype.Action body) k e

  -- with sound elements 41, any is what it is to 01, a refusal and its place too
  kind_sound : (s : Subtype) (d : Option Dfs) → SoundOf s d body → kind_in_ibss b s body ≡ named d (kind_of b s body)
  kind_sound Subtype.Beacon d h =
      ap (λ (o : Placed ToldInIbss). and_then o (λ t. Ok (record { kind = beacon t.told; dfs = t.dfs }))) (sound_read b body d h) ∙ by (beacon_means b body)
    where
      by : (o : Placed Told)
          → and_then (besides d o) (λ t. Ok (record { kind = beacon t.told; dfs = t.dfs })) ≡ named d (and_then o (λ t. Ok (beacon t)))
      by (Err x) = refl
      by (Ok t) = refl
  kind_sound Subtype.ProbeResponse d h = ap (λ (x : Option Dfs). named x (kind_of b Subtype.ProbeResponse body)) (sym h)
  kind_sound Subtype.Action d h = ap (λ (x : Option Dfs). named x (kind_of b Subtype.Action body)) (sym h)

-- ---- a frame

-- an accepted frame says nothing that is not allowed, and it is from whom SA says
module _ (own bss : List ℕ) (b : ℕ) (f : List ℕ) (x : SentInIbss) (e : ibss_frame_means own bss b f ≡ Ok x) where
  -- its header and its body
  record Parts : Type 0 where
    head : Head
    body : KindInIbss
    of_header : header_means Cell.Ibss own bss f ≡ Ok head
    of_body : kind_in_ibss b head.subtype (body_of f) ≡ Ok body
    together : record { sender = sa f; sent = record { to_all = head.to_all; kind = body.kind }; dfs = body.dfs } ≡ x

  parts : Parts
  unfolding ibss_frame_means
  parts =
      let p = followed (nowhere (header_means Cell.Ibss own bss f)) _ x e in
      let q = followed (placed_past header_length (kind_in_ibss b p.0.subtype (body_of f))) _ x p.2 in
      record {
        head = p.0;
        body = q.0;
        of_header = nowhere_value (header_means Cell.Ibss own bss f) p.1;
        of_body = past_value header_length (kind_in_ibss b p.0.subtype (body_of f)) q.1;
        together = cc q.2;
      }

  pub ibss_allowed : KindAllowed b x.sent.kind
  ibss_allowed =
      subst (λ (y : SentInIbss). KindAllowed b y.sent.kind) parts.together
      (kind_allowed b parts.head.subtype (body_of f) parts.body.kind (kind_in_01 b (body_of f) parts.head.subtype parts.body parts.of_body))

  pub its_sender : x.sender ≡ sa f
  its_sender = ap (λ (y : SentInIbss). y.sender) (sym parts.together)

  pub from_individual : bit 0 (octet 0 (sa f)) ≡ false
  from_individual = individual own bss f parts.head parts.of_header

module _ (own a : List ℕ) (six : length a ≡ 6) (b : ℕ) (f : List ℕ) where
  abbrev after_head : List ℕ → Head → Placed Sent
  after_head body h = sent h.to_all (placed_past header_length (kind_of b h.subtype body))

  -- from an individual address, 01's reading of the same frame from the AP has the same header and the same body
  as_from_ap_lem : bit 0 (octet 0 (sa f)) ≡ false → frame_means own a b (from_ap a f) ≡ and_then (nowhere (header_means Cell.Ibss own a f)) (after_head (body_of f))
  unfolding frame_means
  as_from_ap_lem single =
      ap₂ (λ (o : Outcome Head) (body : List ℕ). and_then (nowhere o) (after_head body)) (sym (heard_as_from_ap a six f own single)) (same_body a six f)

  -- an accepted frame is accepted by 01 from the AP
  pub accepted_from_ap : (x : SentInIbss) → ibss_frame_means own a b f ≡ Ok x → frame_means own a b (from_ap a f) ≡ Ok x.sent
  accepted_from_ap x e =
      let p = parts own a b f x e in
      as_from_ap_lem (from_individual own a b f x e)
      ∙ ap (λ (o : Outcome Head). and_then (nowhere o) (after_head (body_of f))) p.of_header
      ∙ ap (λ (o : Placed Kind). sent p.head.to_all (placed_past header_length o)) (kind_in_01 b (body_of f) p.head.subtype p.body p.of_body)
      ∙ ap (λ (y : SentInIbss). Ok y.sent) p.together

  -- from an individual address and with sound elements 41, any frame is to a station of the IBSS what 01 reads of it from the AP, a refusal and its place too
  pub sound_from_ap : (d : Option Dfs) → bit 0 (octet 0 (sa f)) ≡ false → DfsSoundIn d f
      → ibss_frame_means own a b f ≡ and_then (frame_means own a b (from_ap a f)) (λ s. Ok (record { sender = sa f; sent = s; dfs = d }))
  unfolding ibss_frame_means
  sound_from_ap d single h =
      by (header_means Cell.Ibss own a f) refl ∙ ap (λ (o : Placed Sent). and_then o (λ s. Ok (record { sender = sa f; sent = s; dfs = d }))) (sym (as_from_ap_lem single))
    where
      by_kind : (to_all : Bool) (o : Placed Kind)
          → sent_in_ibss (sa f) to_all (placed_past header_length (named d o)) ≡ and_then (sent to_all (placed_past header_length o)) (λ s. Ok (record { sender = sa f; sent = s; dfs = d }))
      by_kind to_all (Err r) = refl
      by_kind to_all (Ok k) = refl

      by : (o : Outcome Head) → header_means Cell.Ibss own a f ≡ o
          → and_then (nowhere o) (λ h. sent_in_ibss (sa f) h.to_all (placed_past header_length (kind_in_ibss b h.subtype (body_of f))))
          ≡ and_then (and_then (nowhere o) (after_head (body_of f))) (λ s. Ok (record { sender = sa f; sent = s; dfs = d }))
      by (Err r) e = refl
      by (Ok g) e =
          ap (λ (o : Placed KindInIbss). sent_in_ibss (sa f) g.to_all (placed_past header_length o))
          (kind_sound b (body_of f) g.subtype d (subst (λ (s : Subtype). SoundOf s d (body_of f)) (is_subtype Cell.Ibss own a f g e) h))
          ∙ by_kind g.to_all (kind_of b g.subtype (body_of f))
