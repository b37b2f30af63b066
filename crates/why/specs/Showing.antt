-- What the functions of this crate promise, from the run on back to the whole outcome.
use Rattle.std.specs.Prelude.{ℕ, ◌≡◌, List, [], ◌∷◌, length}
use Rattle.base.specs.Answers.{why_said}
use Rattle.std.specs.Prelude.{Ok}
use Rattle.base.specs.declared.Reason.TheVariants.{Broken}
use Rattle.base.specs.Answers.{WhyAnswer}
use Rattle.outcome.specs.Check.{not_good, checked_file}
use Rattle.why_outcome.specs.Why.{why_file, why_answer, why_list, why_outcome}
use Rattle.checker_runs.specs.Examining.{BrokenFound}

-- The checker says 14 e of these files, and the graph's first broken step is this one.
pub record ToldBroken (tower text table nodes graph : List ℕ) (n i a : ℕ) : Type 0 where
  pub found : BrokenFound tower text table nodes graph n i a
  pub told : checked_file tower text table ≡ Ok (not_good Broken)

-- It does so of some book and some table.
pub record ToldBrokenSome (tower nodes graph : List ℕ) (n i a : ℕ) : Type 0 where
  pub text : List ℕ
  pub table : List ℕ
  pub is : ToldBroken tower text table nodes graph n i a

-- The answer and the list, for whatever book and table it is.
pub record ShowsRun (r : WhyAnswer) (tower nodes graph : List ℕ) (n i a : ℕ) (list list_after : List ℕ) : Type 0 where
  pub answer : (text table : List ℕ) → ToldBroken tower text table nodes graph n i a → r ≡ why_answer (why_file tower text table (length list))
  pub written : (text table : List ℕ) → ToldBroken tower text table nodes graph n i a
      → list_after ≡ why_list (why_file tower text table (length list)) list

-- The answer for the three files, and the list.
pub record ShowsFiles (r : WhyAnswer) (tower text table list list_after : List ℕ) : Type 0 where
  pub answer : r ≡ why_answer (why_file tower text table (length list))
  pub written : list_after ≡ why_list (why_file tower text table (length list)) list

-- The whole outcome: the answer, and what the list and the six areas hold at the end.
pub record Explains (r : WhyAnswer) (tower text table list nodes pairs index graph sets room list_after nodes_after pairs_after index_after graph_after sets_after room_after : List ℕ) : Type 0 where
  pub answer : r ≡ (why_outcome tower text table list (nodes ∷ pairs ∷ index ∷ graph ∷ sets ∷ room ∷ [])).answer
  pub said : why_said r ≡ why_said (why_outcome tower text table list (nodes ∷ pairs ∷ index ∷ graph ∷ sets ∷ room ∷ [])).answer
  pub written : list_after ≡ (why_outcome tower text table list (nodes ∷ pairs ∷ index ∷ graph ∷ sets ∷ room ∷ [])).list
  pub areas : nodes_after ∷ pairs_after ∷ index_after ∷ graph_after ∷ sets_after ∷ room_after ∷ []
      ≡ (why_outcome tower text table list (nodes ∷ pairs ∷ index ∷ graph ∷ sets ∷ room ∷ [])).areas
