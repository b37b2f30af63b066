-- A closed instance of removal (01, 'Where a maker goes wrong', first line): a pair is removed if a player's action leads to a removed one, though
-- it has an action of ours that goes on.
use Prim.Native.Nat.{ℕ}
use mathlib.Core.Path.{◌≡◌, refl}
use mathlib.Core.List.{List, [], ◌∷◌}
use Rattle.base.specs.Text.{ascii}
use Rattle.std.specs.Prelude.{Ok}
use Rattle.outcome.specs.Make.{made_file}
use Rattle.outcome.proofs.ElevenOutcomes.{opened}

-- State 2 has the mark, so every step from it breaks `always !p0`. From state 1 the player's action 2 leads there, and our action 0 back to 0.
forced_tower : List ℕ
forced_tower =
    3 ∷ 3 ∷ 1 ∷ 0 ∷ 8 ∷ 0 ∷ 14 ∷ 0
    ∷ 1 ∷ 1 ∷ 1 ∷ 1 ∷ 1 ∷ 0
    ∷ 0 ∷ 0 ∷ 0 ∷ 1 ∷ 255
    ∷ 0 ∷ 0 ∷ 0 ∷ 255 ∷ 2
    ∷ 1 ∷ 0 ∷ 0 ∷ 255 ∷ 255
    ∷ []

-- So the made table has the one row of state 0, with action 0 alone.
forced_removed : made_file forced_tower (ascii "always !p0\n")
    ≡ Ok (1 ∷ 0 ∷ 1 ∷ 0 ∷ 12 ∷ 0 ∷ 16 ∷ 0 ∷ 3 ∷ 0 ∷ 3 ∷ 0 ∷ 0 ∷ 1 ∷ 0 ∷ 0 ∷ 0 ∷ 0 ∷ 0 ∷ [])
unfolding opened forced_tower
forced_removed = refl
