-- The lines of a run, computed from the definitions: action 0 takes 3 ticks and leads from state 0 to state 1, action 1 takes 5 and leads back.
use mathlib.Core.Path.{◌≡◌, refl}
use mathlib.Core.Bool.{false}
use Rattle.std.specs.Prelude.{None, Some}
use mathlib.Core.List.{List, [], ◌∷◌}
use Prim.Native.Nat.{ℕ, ◌-◌}
use lib.Dec.{eqb}
use Rattle.base.specs.Choice.{pick}
use Rattle.base.specs.Lists.{joined}
use Rattle.base.specs.Text.{ascii}
use Rattle.base.specs.Recursion.{to_depth, run}
use Rattle.logic.specs.Time.{ticks, plus, position}
use Rattle.logic.specs.Tower.{Tower}
use Rattle.logic.specs.Runs.{trace_from, trace, moment, duration, sum_ticks, time_at}
use Rattle.program_texts.specs.Decimal.{digit, decimal_step, decimal}
use Rattle.program_run.specs.RunLines.{broken_line, numbers_line, step_line}

abbrev there_and_back : Tower
there_and_back =
    record {
      states = 2;
      actions = 2;
      marks = 0;
      start = 0;
      kind = λ a. 1;
      step_length = λ x a. pick (eqb a 0) (λ _. ticks 3) (λ _. ticks 5);
      marked = λ x k. false;
      target = λ x a. pick (eqb x a) (λ _. Some (1 - x)) (λ _. None);
    }

abbrev step : ℕ → List ℕ
step i = step_line there_and_back (0 ∷ 1 ∷ 0 ∷ []) (position i)

a_run : joined (broken_line 1 (position 0) 3 ∷ step 0 ∷ step 1 ∷ step 2 ∷ []) ≡ ascii "broken 1 0 3\n0 0 0 0\n1 3 1 1\n2 8 0 0\n"
unfolding joined ascii to_depth run digit decimal_step decimal plus trace_from trace moment duration sum_ticks time_at broken_line numbers_line step_line
a_run = refl
