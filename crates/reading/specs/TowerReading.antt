-- 01, 'Tower file' and 'Why a call is turned down': the tower of a file, or why there is none.
use Rattle.std.specs.Prelude.{ℕ, List}
use Rattle.base.specs.Answers.{Answer, ◌if◌else◌}
use Rattle.std.specs.Prelude.{Ok}
use Rattle.base.specs.declared.Refusal.TheVariants.{TowerSize, Range, Action, Target, Mask}
use Rattle.logic.specs.Tower.{Tower, tower_of, no_header, bad_counts, bad_size, bad_actions, bad_targets, bad_masks}

-- the order of 01: 1 if under 8 bytes; 2; 1; 3; 4; 5
unfoldable pub read_tower : List ℕ → Answer Tower
read_tower bytes =
    TowerSize if no_header bytes else
    Range if bad_counts bytes else
    TowerSize if bad_size bytes else
    Action if bad_actions bytes else
    Target if bad_targets bytes else
    Mask if bad_masks bytes else
    Ok (tower_of bytes)
