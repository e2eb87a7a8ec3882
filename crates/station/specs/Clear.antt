-- Up to which moment questions are granted while nothing but the clock changes (01, "The station").
use Rattle.std.specs.Prelude.{false, ◌≡◌, ℕ, ◌+◌, ◌<◌, ◌≤◌}
use Rattle.answer.specs.Checks.{pick}
use Rattle.pending.specs.Waiting.{silences, up_to, comes_before}
use Rattle.station.specs.Asking.{quiet, first_quiet}
use Rattle.station.specs.Stations.{unit_limit}
use Rattle.station.specs.declared.Station.{Station}

-- nothing stands against sending from the clock on and before c: no unit is quiet, no switch comes, and none silences
pub record Clear (s : Station) (c : ℕ) : Type 0 where
  pub free : (u : ℕ) → s.clock ≤ u → u < c → quiet s u ≡ false
  pub unsilenced : s.clock < c → silences s.pending ≡ false
  pub before_switch : comes_before s.pending c ≡ false

-- the first quiet unit or the switch, as far as the longest question reaches
unfoldable pub clear_until : Station → ℕ
clear_until s = pick (silences s.pending) s.clock (first_quiet s (up_to s.pending (s.clock + unit_limit)))
