-- What the program knows of a log that was read.
use Prim.Native.Nat.{ℕ, ◌≤◌}
use native.Mathlib.Omega.{arith}
use mathlib.Core.Path.{◌≡◌}
use mathlib.Core.List.{List}
use lib.ListN.{length, take, length-take}
use Rattle.log_course.specs.declared.Followed.{Followed}
use Rattle.program_log.specs.Parts.{InPart}
use Rattle.program_log.specs.declared.Part.{Part}

-- The bytes that were read last are a part of the area.
pub part_taken : (r : Part) (followed : Followed) (bytes : ℕ) (part : List ℕ) → r ≡ Part.Over followed bytes → InPart r part → bytes ≡ length (take bytes part)
part_taken r followed bytes part e there = there.read followed bytes e

pub part_within : (r : Part) (followed : Followed) (bytes : ℕ) (part : List ℕ) → r ≡ Part.Over followed bytes → InPart r part → bytes ≤ length part
part_within r followed bytes part e there = omega (arith, there.read followed bytes e, length-take bytes part)
