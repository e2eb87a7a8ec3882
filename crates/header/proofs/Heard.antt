-- What an accepted header says of the frame, and which headers are accepted. Assumes nothing.
use Rattle.std.specs.Prelude.{Ok}
use mathlib.Core.Bool.{Bool, false}
use mathlib.Core.List.{List}
use mathlib.Core.Path.{◌≡◌, sym, ap, ◌∙◌}
use Prim.Native.Nat.{ℕ, ◌≤◌}
use borrow.Author.Tests.{ltb-false, le-ltb}
use lib.ListN.{length}
use Rattle.answer.proofs.Judged.{passed, kept, followed, past, done}
use Rattle.header.specs.Headers.{header_length, longest_frame, subtype, subtype_of, to_all, foreign_header, foreign_address, management_means, address_means, header_means}
use Rattle.header.specs.declared.Head.{Head}
use Rattle.header.specs.declared.address.Cell.{Cell}
use Rattle.header.specs.declared.management.Subtype.{Subtype}

module _ (cell : Cell) (own bss f : List ℕ) where
  module _ (h : Head) (e : header_means cell own bss f ≡ Ok h) where
    of_management : (s : Subtype) × (management_means f ≡ Ok s)
    unfolding header_means
    of_management = let p = followed (management_means f) _ h e in (p.0, p.1)

    -- it has a whole header, and so a body from there on
    pub has_header : header_length ≤ length f
    unfolding management_means
    has_header = ltb-false (length f) header_length (passed _ _ _ of_management.1).0

    pub not_too_long : length f ≤ longest_frame
    unfolding management_means
    not_too_long = ltb-false longest_frame (length f) (passed _ _ _ (passed _ _ _ of_management.1).1).0

    pub is_subtype : subtype_of (subtype f) ≡ h.subtype
    unfolding header_means management_means
    is_subtype =
        let m = followed (management_means f) _ h e in
        let t = followed (address_means cell own bss f) _ h m.2 in
        let is : subtype_of (subtype f) ≡ m.0 = kept _ (passed _ _ _ (passed _ _ _ (passed _ _ _ m.1).1).1).1 in
        let same : m.0 ≡ h.subtype = cc t.2 in
        is ∙ same

  -- past each check
  pub heard_as : (s : Subtype) (t : Bool) → header_length ≤ length f → length f ≤ longest_frame → foreign_header f ≡ false → foreign_address cell own bss f ≡ false
      → subtype_of (subtype f) ≡ s → to_all f ≡ t → header_means cell own bss f ≡ Ok (record { subtype = s; to_all = t })
  unfolding header_means management_means address_means
  heard_as s t long short header address is to =
      let managed : management_means f ≡ Ok s =
      sym (past _ _ _ (le-ltb (length f) header_length long) (past _ _ _ (le-ltb longest_frame (length f) short) (past _ _ _ header (ap Ok (sym is) ∙ done _)))) in
      let addressed : address_means cell own bss f ≡ Ok t = sym (past _ _ _ address (ap Ok (sym to) ∙ done _)) in
      rw (managed, addressed)
