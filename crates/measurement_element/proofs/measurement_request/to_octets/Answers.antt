-- `measurement_request::to_octets` meets its contract: the octets lie in front.
use Rattle.std.proofs.Common.{refl}
use Rattle.measurement_element.proofs.RequestLayout.{laid_out}
use Rattle.measurement_element.proofs.measurement_request.to_octets.Goals as goal

pub returns : goal.returns
returns c =
    let r = c.args.request in (
      refl,
      rw (c.to_octets-s.ensures, c.span_of.ensures, c.mode_of.ensures, c.size_of.ensures)
          (laid_out r.matter r.token r.kind),
      rw (c.to_octets-s.ensures, c.span_of.ensures, c.mode_of.ensures, c.size_of.ensures),
    )
