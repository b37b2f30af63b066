-- What the checker promises.
use Rattle.std.specs.Prelude.{ℕ, ◌≡◌, List, [], ◌∷◌}
use Rattle.base.specs.Answers.{verdict_said}
use Rattle.base.specs.Answers.{Verdict}
use Rattle.outcome.specs.Check.{check_outcome}

-- The whole outcome: the answer, and what the six areas hold at the end.
pub record Checks (r : Verdict) (tower text table nodes pairs index graph sets room nodes_after pairs_after index_after graph_after sets_after room_after : List ℕ) : Type 0 where
  pub answer : r ≡ (check_outcome tower text table (nodes ∷ pairs ∷ index ∷ graph ∷ sets ∷ room ∷ [])).answer
  pub said : verdict_said r ≡ verdict_said (check_outcome tower text table (nodes ∷ pairs ∷ index ∷ graph ∷ sets ∷ room ∷ [])).answer
  pub areas : nodes_after ∷ pairs_after ∷ index_after ∷ graph_after ∷ sets_after ∷ room_after ∷ []
      ≡ (check_outcome tower text table (nodes ∷ pairs ∷ index ∷ graph ∷ sets ∷ room ∷ [])).areas
