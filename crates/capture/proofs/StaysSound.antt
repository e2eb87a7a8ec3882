-- What a record leaves of the lister. Assumes nothing.
use mathlib.Core.Bool.{false}
use mathlib.Core.Path.{◌≡◌, refl, sym, ◌∙◌}
use Rattle.answer.proofs.Booleans.{clash}
use Rattle.station.specs.Validity.{Valid}
use Rattle.station.specs.Starting.{blank}
use Rattle.station.specs.declared.Station.{Station}
use Rattle.capture.specs.CodeTerms.Following.{Follows}
use Rattle.capture.specs.Listers.{without, following, Sound}
use Rattle.capture.specs.declared.lister.Lister.{Lister}

pub none_sound : {l : Lister} → l.active ≡ false → l.station ≡ blank → Sound l
none_sound a s = record { followed = λ e. clash (sym e ∙ a); idle = λ e. s }

pub sound_without : (l : Lister) → Follows l (without l)
sound_without l = record { sound = none_sound refl refl; same_lines = refl; same_blocks = refl; same_damaged = refl }

pub sound_following : (l : Lister) (s : Station) → Valid s → Follows l (following l s)
sound_following l s v = record { sound = record { followed = λ e. v; idle = λ e. clash e }; same_lines = refl; same_blocks = refl; same_damaged = refl }
