-- No time within the duration makes over 255.
use Rattle.std.proofs.Common.{arith, ◌*◌, ◌+◌, ◌<◌, ◌/◌, ◌%◌, min}
use Rattle.std.proofs.Math.Nat.{lt_of_mul-lt-mul_left}
use Rattle.std.proofs.lemmas.Grind.{div_ceil_times}
use Rattle.fraction.proofs.share.Goals as goal

pub overflow_cast-result : goal.overflow_cast-result
overflow_cast-result c =
    let time = c.from.result in
    let whole = 1024 * c.from-whole.result in
    let over : whole * (255 * time / whole + min 1 (255 * time % whole)) < whole * 256 =
    omega (arith, div_ceil_times (255 * time) whole (omega arith)) in
    omega (arith, lt_of_mul-lt-mul_left whole over)
