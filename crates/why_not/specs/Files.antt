-- What the program finds out of the contents of a tower file, a book and a table file.
use Rattle.std.specs.Prelude.{◌≡◌, List, ℕ, length, take}
use Rattle.std.specs.Prelude.{Ok}
use Rattle.base.specs.declared.Refusal.TheVariants.{Output}
use Rattle.base.specs.Answers.{WhyAnswer, run_shown}
use Rattle.std.specs.Prelude.{Err}
use Rattle.base.specs.declared.Rejection.TheVariants as Rejected
use Rattle.why_outcome.specs.Why.{Shown, shows, why_file, why_answer}
use Rattle.program_run.specs.Walking.{RunInList}

-- The answer is that of the definition, and where a run is shown the list begins with it. The program's areas and its list of 1,000 bytes are long
-- enough for every tower, book and table: 15 and 16 never come.
pub record ShownFiles (answer : WhyAnswer) (tower text table list : List ℕ) : Type 0 where
  pub answered : answer ≡ why_answer (why_file tower text table 1000)
  pub never_short : answer ≡ Err (Rejected.Refused Output) → ⊥
  pub begins : (s : Shown) → why_file tower text table 1000 ≡ Ok (shows s) → take (length s.run) list ≡ s.run
  pub in_list : (n line place : ℕ) → answer ≡ run_shown n line place → RunInList tower list n
