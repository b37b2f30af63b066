-- 02, item 4: the lines that `why_not` prints where a run is shown.
use Rattle.std.specs.Prelude.{ℕ, List, [], ◌∷◌}
use Rattle.base.specs.Lists.{joined}
use Rattle.base.specs.Text.{ascii}
use Rattle.logic.specs.Tower.{Tower}
use Rattle.logic.specs.Runs.{trace, moment, time_at}
use Rattle.logic.specs.declared.Tick.{Tick}
use Rattle.logic.specs.declared.Position.{Position}
use Rattle.program_texts.specs.Decimal.{decimal}

-- the line of the book that the run breaks, the position, and the length of the run
unfoldable pub broken_line : ℕ → Position → ℕ → List ℕ
broken_line line place length =
    joined (ascii "broken " ∷ decimal line ∷ ascii " " ∷ decimal place.0 ∷ ascii " " ∷ decimal length ∷ ascii "\n" ∷ [])

-- position, time, state and action
unfoldable pub numbers_line : Position → Tick → ℕ → ℕ → List ℕ
numbers_line i t x a =
    joined (decimal i.0 ∷ ascii " " ∷ decimal t.0 ∷ ascii " " ∷ decimal x ∷ ascii " " ∷ decimal a ∷ ascii "\n" ∷ [])

-- position i of a run: T(i), the state there and the action that leaves it
unfoldable pub step_line : Tower → List ℕ → Position → List ℕ
step_line tower w i =
    numbers_line i (time_at tower (trace tower w) i) (moment (trace tower w) i).state (moment (trace tower w) i).action
