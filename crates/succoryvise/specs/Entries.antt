-- The whole outcome of an entry, as a caller in another language sees it: the answer as numbers, and what the output and the lent areas hold at
-- the end.
use Rattle.std.specs.Prelude.{ℕ, ◌≡◌, List, [], ◌∷◌}
use Rattle.base.specs.Answers.{book_said, make_said, verdict_said, why_said}
use Rattle.outcome.specs.ReadBook.{read_outcome}
use Rattle.outcome.specs.Make.{make_outcome}
use Rattle.outcome.specs.Check.{check_outcome}
use Rattle.why_outcome.specs.Why.{why_outcome}
use Rattle.answer_numbers.specs.Shown.{shown}
use Rattle.answer_numbers.specs.declared.Answer.{Answer}

-- The book reader.
pub record BookShown (a : Answer) (marks : ℕ) (text nodes nodes_after : List ℕ) : Type 0 where
  pub answer : a ≡ shown (book_said (read_outcome marks text (nodes ∷ [])).answer)
  pub areas : nodes_after ∷ [] ≡ (read_outcome marks text (nodes ∷ [])).areas

-- The maker.
pub record MakeShown (a : Answer) (tower text out nodes pairs index graph sets room flags classes out_after nodes_after pairs_after index_after graph_after sets_after room_after flags_after classes_after : List ℕ) : Type 0 where
  pub answer : a ≡ shown (make_said (make_outcome tower text out (nodes ∷ pairs ∷ index ∷ graph ∷ sets ∷ room ∷ flags ∷ classes ∷ [])).answer)
  pub output : out_after ≡ (make_outcome tower text out (nodes ∷ pairs ∷ index ∷ graph ∷ sets ∷ room ∷ flags ∷ classes ∷ [])).output
  pub areas : nodes_after ∷ pairs_after ∷ index_after ∷ graph_after ∷ sets_after ∷ room_after ∷ flags_after ∷ classes_after ∷ []
      ≡ (make_outcome tower text out (nodes ∷ pairs ∷ index ∷ graph ∷ sets ∷ room ∷ flags ∷ classes ∷ [])).areas

-- The checker.
pub record CheckShown (a : Answer) (tower text table nodes pairs index graph sets room nodes_after pairs_after index_after graph_after sets_after room_after : List ℕ) : Type 0 where
  pub answer : a ≡ shown (verdict_said (check_outcome tower text table (nodes ∷ pairs ∷ index ∷ graph ∷ sets ∷ room ∷ [])).answer)
  pub areas : nodes_after ∷ pairs_after ∷ index_after ∷ graph_after ∷ sets_after ∷ room_after ∷ []
      ≡ (check_outcome tower text table (nodes ∷ pairs ∷ index ∷ graph ∷ sets ∷ room ∷ [])).areas

-- The entry that shows why.
pub record WhyShown (a : Answer) (tower text table list nodes pairs index graph sets room list_after nodes_after pairs_after index_after graph_after sets_after room_after : List ℕ) : Type 0 where
  pub answer : a ≡ shown (why_said (why_outcome tower text table list (nodes ∷ pairs ∷ index ∷ graph ∷ sets ∷ room ∷ [])).answer)
  pub written : list_after ≡ (why_outcome tower text table list (nodes ∷ pairs ∷ index ∷ graph ∷ sets ∷ room ∷ [])).list
  pub areas : nodes_after ∷ pairs_after ∷ index_after ∷ graph_after ∷ sets_after ∷ room_after ∷ []
      ≡ (why_outcome tower text table list (nodes ∷ pairs ∷ index ∷ graph ∷ sets ∷ room ∷ [])).areas
