-- A reply as the reader would hear it from the other side: the same frame with DA and SA exchanged, so that the AP sends it to the station.
-- (With the reader's own two addresses exchanged instead, a reply would be refused: its BSSID is the AP's, by 01.)
use Rattle.std.specs.Prelude.{List, ◌++◌, ℕ, take, drop}
use Rattle.header.specs.Headers.{da, sa}

abbrev pub exchanged : List ℕ → List ℕ
exchanged f = ((take 4 f ++ sa f) ++ da f) ++ drop 16 f
