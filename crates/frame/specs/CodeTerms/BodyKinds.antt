-- The subtypes by how their bodies are read: those of a beacon and of a probe response are the same.
use Rattle.header.specs.declared.management.Subtype.{Subtype}
use Rattle.frame.specs.Laid.{notice_subtype}
use Rattle.frame.specs.declared.BodyKind.{BodyKind}

abbrev pub kind_subtype : BodyKind → Subtype
kind_subtype (BodyKind.Notice probe) = notice_subtype probe
kind_subtype BodyKind.Action = Subtype.Action
