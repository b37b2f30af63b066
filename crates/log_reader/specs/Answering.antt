-- What the log reader promises.
use Rattle.std.specs.Prelude.{ℕ, ◌≡◌, List, ltb}
use Rattle.base.specs.Choice.{pick}
use Rattle.base.specs.Answers.{log_said}
use Rattle.std.specs.Prelude.{Ok}
use Rattle.base.specs.declared.Refusal.TheVariants.{Log}
use Rattle.base.specs.Answers.{LogAnswer}
use Rattle.std.specs.Prelude.{Err}
use Rattle.base.specs.declared.Rejection.TheVariants as Rejected
use Rattle.outcome.specs.Log.{comes_to, log_answer, log_outcome}
use Rattle.log_course.specs.declared.Followed.{Followed}

-- the answer for a log of so many bytes that has been followed so far
unfoldable pub answer_of : Followed → ℕ → LogAnswer
answer_of f length = pick (ltb f.next length) (λ _. Err (Rejected.Refused (Log f.line.0))) (λ _. log_answer (Ok (comes_to f.course)))

-- The answer is the outcome's, and so are its number and values in the paper.
pub record ReadsLog (r : LogAnswer) (tower table log : List ℕ) : Type 0 where
  pub answer : r ≡ log_outcome tower table log
  pub said : log_said r ≡ log_said (log_outcome tower table log)
