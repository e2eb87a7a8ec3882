-- From a body's outcome to the frame of an IBSS that is handed out. Assumes nothing.
use Rattle.std.specs.Prelude.{Ok, Some, None, Option, option_map}
use mathlib.Core.List.{List}
use mathlib.Core.Path.{◌≡◌, refl, sym, ap, ap₂, ◌∙◌}
use Prim.Native.Nat.{ℕ}
use Rattle.answer.proofs.Judged.{followed}
use Rattle.beacon.specs.Laid.{dfs_heard}
use Rattle.beacon.specs.declared.HeardDfs.{HeardDfs}
use Rattle.element.specs.IbssDfs.{Dfs, dfs_fields}
use Rattle.element.specs.declared.ibss_dfs.IbssDfs.{IbssDfs}
use Rattle.header.specs.Headers.{sa}
use Rattle.frame.specs.CodeTerms.InIbss.{heard_laid}
use Rattle.frame.specs.IbssFrames.{ibss_frame_means}
use Rattle.frame.specs.IbssLaid.{ibss_laid}
use Rattle.frame.specs.Laid.{received, frame_of, quiets_of}
use Rattle.frame.specs.declared.Received.{Received}
use Rattle.frame.specs.declared.ibss.HeardInIbss.{HeardInIbss}
use Rattle.frame.proofs.FromAp.{its_sender}

abbrev heard : Received → Option HeardDfs → HeardInIbss
heard v d = record { received = v; dfs = d }

-- the element 41 of what was heard
dfs_of : (i : ℕ) (d : Option Dfs) → option_map (λ (n : HeardDfs). n.dfs) (option_map (dfs_heard i) d) ≡ option_map dfs_fields d
dfs_of i None = refl
dfs_of i (Some d) = refl

-- a frame that was heard: its sender is who SA says
pub handed_out : (own bss : List ℕ) (b : ℕ) (f : List ℕ) {v : HeardInIbss} → Ok v ≡ heard_laid 0 (ibss_frame_means own bss b f)
    → record { received = Ok v.received; sender = sa f; dfs = option_map (λ (n : HeardDfs). n.dfs) v.dfs } ≡ ibss_laid (ibss_frame_means own bss b f)
handed_out own bss b f {v} e =
    let p = followed (ibss_frame_means own bss b f) _ v (sym e) in
    let s = p.0 in
    let r : Received = received (frame_of s.sent.kind) s.sent.to_all (quiets_of s.sent.kind) in
    let same : v ≡ heard r (option_map (dfs_heard 0) s.dfs) = cc p.2 in
    ap (λ (v : HeardInIbss). record { received = Ok v.received; sender = sa f; dfs = option_map (λ (n : HeardDfs). n.dfs) v.dfs }) same
    ∙ ap₂ (λ (sender : List ℕ) (d : Option IbssDfs). record { received = Ok r; sender = sender; dfs = d }) (sym (its_sender own bss b f s p.1)) (dfs_of 0 s.dfs)
    ∙ ap ibss_laid (sym p.1)
