-- What the programs know of a file that was read.
use Prim.Native.Nat.{ℕ, ◌≤◌}
use mathlib.Core.Path.{◌≡◌}
use mathlib.Core.List.{List}
use lib.ListN.{length, take}
use Rattle.std.specs.Prelude.{Option, Some}
use Rattle.program_files.specs.Counts.{HoldsContents}

-- What was read is a part of the area.
pub contents_within : (r : Option ℕ) (n : ℕ) (area : List ℕ) → r ≡ Some n → HoldsContents r area → n ≤ length area
contents_within r n area e h = (h.counts n e).within

pub contents_taken : (r : Option ℕ) (n : ℕ) (area : List ℕ) → r ≡ Some n → HoldsContents r area → n ≡ length (take n area)
contents_taken r n area e h = (h.counts n e).taken
