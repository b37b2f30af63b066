-- The paper's listing of the small tower's table 1, and lines of refusals, computed from the definitions.
use mathlib.Core.Path.{◌≡◌, refl}
use mathlib.Core.List.{List, [], ◌∷◌}
use Prim.Native.Nat.{ℕ}
use Rattle.base.specs.Lists.{joined}
use Rattle.base.specs.Text.{byte, ascii}
use Rattle.base.specs.Recursion.{to_depth, run}
use Rattle.base.specs.Answers.{refused}
use Rattle.logic.specs.Tables.{Step, Row}
use Rattle.program_texts.specs.Decimal.{digit, decimal_step, decimal}
use Rattle.program_listing.specs.Lines.{line_end, head_line, step_text, steps_text, row_line, sizes_line, inside_text, refusal_line}

abbrev step : ℕ → ℕ → Step
step a t = record { action = a; target = t }

abbrev row : ℕ → List Step → Row
row x steps = record { state = x; steps = steps }

small_tower_listing : joined (
    head_line 5 6
    ∷ row_line 0 (row 0 (step 0 1 ∷ step 2 2 ∷ []))
    ∷ row_line 1 (row 1 (step 1 3 ∷ []))
    ∷ row_line 2 (row 2 (step 3 4 ∷ []))
    ∷ row_line 3 (row 0 (step 2 2 ∷ []))
    ∷ row_line 4 (row 0 (step 0 1 ∷ []))
    ∷ [])
    ≡ ascii "rows 5 steps 6\n0 0 0>1 2>2\n1 1 1>3\n2 2 3>4\n3 0 2>2\n4 0 0>1\n"
unfolding joined ascii to_depth run digit decimal_step decimal line_end head_line step_text steps_text row_line
small_tower_listing = refl

a_refusal : refusal_line (refused 6 120 []) ≡ ascii "refused 6 120\n"
unfolding joined ascii to_depth run digit decimal_step decimal line_end inside_text refusal_line
a_refusal = refl

a_reason : refusal_line (refused 14 3 (byte "c" ∷ [])) ≡ ascii "refused 14 3 c\n"
unfolding joined ascii to_depth run digit decimal_step decimal line_end inside_text refusal_line
a_reason = refl

a_book : sizes_line 2 10 ≡ ascii "lines 2 nodes 10\n"
unfolding joined ascii to_depth run digit decimal_step decimal line_end sizes_line
a_book = refl
