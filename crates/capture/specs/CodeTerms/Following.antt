-- A line before it is written, and what every record and every block leave of the lister.
use Rattle.std.specs.Prelude.{◌≡◌, length}
use Rattle.capture.specs.Listers.{Sound, Fits}
use Rattle.capture.specs.Lists.{Told, line}
use Rattle.capture.specs.declared.lister.Lister.{Lister}
use Rattle.capture.specs.declared.listing.Put.{Put}
use Rattle.capture.specs.declared.response.Response.{Response}
use Rattle.pen.specs.declared.words.Word.{Word}

-- the lister before the line that tells this word and this answer
pub record Answered : Type 0 where
  pub lister : Lister
  pub word : Word
  pub answer : Response

abbrev pub line_for : Answered → Told
line_for a = line a.lister a.word a.answer

-- a record leaves a sound lister, and the counts as they are
pub record Follows (l next : Lister) : Type 0 where
  pub sound : Sound next
  pub same_lines : next.lines ≡ l.lines
  pub same_blocks : next.blocks ≡ l.blocks
  pub same_damaged : next.damaged ≡ l.damaged

-- what the lines of a block leave
pub record Fed (l : Lister) (told : Told) (put : Put) : Type 0 where
  pub same : put.lister ≡ told.lister
  pub many : put.count ≡ length told.text
  pub fits : Fits put.lister
