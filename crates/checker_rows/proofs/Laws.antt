-- What the rows make of a table is the checker's answer as far as the rows decide it.
use Prim.Native.Nat.{ℕ}
use mathlib.Core.Path.{◌≡◌, refl, ◌∙◌, ap}
use mathlib.Core.Bool.{Bool, true, false}
use mathlib.Core.List.{List, [], ◌∷◌}
use lib.ListN.{length}
use Rattle.base.specs.Choice.{pick}
use Rattle.base.specs.Lists.{below}
use Rattle.base.specs.Answers.{Answer}
use Rattle.base.specs.declared.Reason.TheVariants.{Start, Withheld, WrongStep, Stopped}
use Rattle.logic.specs.Tower.{Tower}
use Rattle.logic.specs.Tables.{Table}
use Rattle.outcome.specs.Check.{Finding, ◌found_if◌else◌, wrong_start, stopped, judge_row, judge_rows, rows_judged}
use Rattle.checker_rows.specs.RowVerdict.{some_withheld, some_wrong_step, row_verdict, rows_from, rows_verdict, answer_after}
use Rattle.std.specs.Prelude.{Result, Err}
use Rattle.base.specs.declared.Reason.{Reason}

-- One row.
pub judge_row_after : (tower : Tower) (table : Table) (r : ℕ) (v : Result (Unit {0}) Reason) (after : Answer Finding)
    → judge_row tower table r (answer_after v after) ≡ answer_after (row_verdict tower table r v) after
unfolding judge_row row_verdict some_withheld some_wrong_step ◌found_if◌else◌ answer_after
judge_row_after tower table r v after =
    go (some_withheld tower table r) (some_wrong_step tower table r) (stopped tower table r)
  where
    go : (b c d : Bool)
        → (Withheld r found_if b else WrongStep r found_if c else Stopped r found_if d else answer_after v after)
        ≡ answer_after
        (pick b (λ _. Err (Withheld r)) (λ _. pick c (λ _. Err (WrongStep r)) (λ _. pick d (λ _. Err (Stopped r)) (λ _. v)))) after
    go true c d = refl
    go false true d = refl
    go false false true = refl
    go false false false = refl

-- The rows in turn.
pub judge_rows_after : (tower : Tower) (table : Table) (rs : List ℕ) (after : Answer Finding)
    → judge_rows tower table rs after ≡ answer_after (rows_from tower table rs) after
unfolding judge_rows rows_from answer_after
judge_rows_after tower table [] after = refl
judge_rows_after tower table (r ∷ rs) after =
    ap (judge_row tower table r) (judge_rows_after tower table rs after) ∙ judge_row_after tower table r (rows_from tower table rs) after

-- What the rows say, and else what comes after them.
pub rows_after : (tower : Tower) (table : Table) (after : Answer Finding) → rows_judged tower table after ≡ answer_after (rows_verdict tower table) after
unfolding rows_verdict ◌found_if◌else◌ answer_after
rows_after tower table after = go (wrong_start tower table)
  where
    go : (b : Bool)
        → (Start found_if b else judge_rows tower table (below (length table)) after)
        ≡ answer_after (pick b (λ _. Err Start) (λ _. rows_from tower table (below (length table)))) after
    go true = refl
    go false = judge_rows_after tower table (below (length table)) after
