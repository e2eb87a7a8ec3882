-- What the element 41 of an accepted frame may say: a recovery interval of 1 or more, and only in a beacon (02, Five). Assumes nothing.
use Rattle.std.specs.Prelude.{Ok, Some, None, Option}
use mathlib.Core.List.{List}
use mathlib.Core.Logic.{◌⊎◌, inl, inr}
use mathlib.Core.Path.{◌≡◌, refl, sym, ap, ◌∙◌, subst}
use Prim.Native.Nat.{ℕ, ◌≤◌}
use native.Mathlib.Omega.{arith}
use borrow.Author.Tests.{eqb-false}
use lib.Dec.{eqb}
use lib.ListN.{drop}
use Rattle.answer.proofs.Booleans.{neither}
use Rattle.answer.proofs.Judged.{followed}
use Rattle.answer.proofs.Placing.{past_value}
use Rattle.answer.specs.Faults.{Placed, nowhere, placed_past}
use Rattle.beacon.proofs.InIbss.{accepted_sound}
use Rattle.beacon.specs.Beacons.{Told, fixed_length}
use Rattle.beacon.specs.IbssBeacons.{ToldInIbss, ibss_beacon_means, OneDfs, DfsSound}
use Rattle.element.proofs.DfsContents.{opened}
use Rattle.element.specs.IbssDfs.{Dfs, dfs_means}
use Rattle.header.specs.Headers.{header_length, body_of, sa, header_means}
use Rattle.header.specs.declared.address.Cell.{Cell}
use Rattle.header.specs.declared.management.Subtype.{Subtype}
use Rattle.walk.specs.Elements.{Elements, end, cut_header, cut_contents, more, elements_in}
use Rattle.frame.specs.Frames.{beacon, kind_of}
use Rattle.frame.specs.IbssFrames.{KindInIbss, SentInIbss, kind_in_ibss, ibss_frame_means}

is_kind : {j k : KindInIbss} → ◌≡◌ {A = Placed KindInIbss} (Ok j) (Ok k) → j ≡ k
is_kind e = cc

-- what an accepted element 41 says
contents_recovery : (c : List ℕ) (d : Dfs) → dfs_means c ≡ Ok d → 1 ≤ d.recovery
contents_recovery c d e = let some = eqb-false d.recovery 0 (neither (eqb d.recovery 0) _ (opened c d e).2).0 in omega (arith, some)

one_recovery : (d : Dfs) (es : Elements) → OneDfs d es → 1 ≤ d.recovery
unfolding OneDfs
one_recovery d end h = absurd h
one_recovery d (cut_header o) h = absurd h
one_recovery d (cut_contents id) h = absurd h
one_recovery d (more id c es) (inl h) = contents_recovery c d h.1
one_recovery d (more id c es) (inr h) = one_recovery d es h.1

-- a body: with no element 41, or a beacon with one that says so
abbrev Names : KindInIbss → Type 0
Names k = (k.dfs ≡ None) ⊎ ((told : Told) × (d : Dfs) × (k.kind ≡ beacon told) × (k.dfs ≡ Some d) × (1 ≤ d.recovery))

kind_names : (b : ℕ) (s : Subtype) (body : List ℕ) (k : KindInIbss) → kind_in_ibss b s body ≡ Ok k → Names k
kind_names b Subtype.Beacon body k e =
    let p = followed (ibss_beacon_means b body) _ k e in
    by p.0 (accepted_sound b body p.0 p.1) p.2
  where
    by : (t : ToldInIbss) → DfsSound t.dfs (elements_in (drop fixed_length body))
        → ◌≡◌ {A = Placed KindInIbss} (Ok (record { kind = beacon t.told; dfs = t.dfs })) (Ok k) → Names k
    by t sound g = by_dfs t.dfs refl sound
      where
        same : record { kind = beacon t.told; dfs = t.dfs } ≡ k
        same = is_kind g

        by_dfs : (d : Option Dfs) → t.dfs ≡ d → DfsSound d (elements_in (drop fixed_length body)) → Names k
        by_dfs None y z = inl (ap (λ (x : KindInIbss). x.dfs) (sym same) ∙ y)
        by_dfs (Some d) y z =
            inr (t.told, d, ap (λ (x : KindInIbss). x.kind) (sym same), ap (λ (x : KindInIbss). x.dfs) (sym same) ∙ y, one_recovery d (elements_in (drop fixed_length body)) z)
kind_names b Subtype.ProbeResponse body k e = let p = followed (kind_of b Subtype.ProbeResponse body) _ k e in inl (ap (λ (x : KindInIbss). x.dfs) (sym (is_kind p.2)))
kind_names b Subtype.Action body k e = let p = followed (kind_of b Subtype.Action body) _ k e in inl (ap (λ (x : KindInIbss). x.dfs) (sym (is_kind p.2)))

-- ---- a frame

module _ (own bss : List ℕ) (b : ℕ) (f : List ℕ) (x : SentInIbss) (e : ibss_frame_means own bss b f ≡ Ok x) where
  -- it has no element 41 that is read, or is a beacon with one
  pub sent_names : (x.dfs ≡ None) ⊎ ((told : Told) × (d : Dfs) × (x.sent.kind ≡ beacon told) × (x.dfs ≡ Some d) × (1 ≤ d.recovery))
  unfolding ibss_frame_means
  sent_names =
      let p = followed (nowhere (header_means Cell.Ibss own bss f)) _ x e in
      let q = followed (placed_past header_length (kind_in_ibss b p.0.subtype (body_of f))) _ x p.2 in
      let same : record { sender = sa f; sent = record { to_all = p.0.to_all; kind = q.0.kind }; dfs = q.0.dfs } ≡ x = cc q.2 in
      subst (λ (y : SentInIbss). (y.dfs ≡ None) ⊎ ((told : Told) × (d : Dfs) × (y.sent.kind ≡ beacon told) × (y.dfs ≡ Some d) × (1 ≤ d.recovery))) same
      (kind_names b p.0.subtype (body_of f) q.0 (past_value header_length (kind_in_ibss b p.0.subtype (body_of f)) q.1))
