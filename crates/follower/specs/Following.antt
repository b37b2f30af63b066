-- What the follower promises.
use Rattle.std.specs.Prelude.{ℕ, ◌≡◌, List}
use Rattle.base.specs.Answers.{follow_said}
use Rattle.base.specs.Answers.{FollowAnswer}
use Rattle.outcome.specs.Follow.{follow_outcome}

-- The answer is the outcome's, and so are its number and values in the paper.
pub record Follows (r : FollowAnswer) (table : List ℕ) (row action : ℕ) : Type 0 where
  pub answer : r ≡ follow_outcome table row action
  pub said : follow_said r ≡ follow_said (follow_outcome table row action)
