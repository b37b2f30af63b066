-- What the functions of the maker promise, from the book that is read on back to the whole outcome.
use Rattle.std.specs.Prelude.{ℕ, ◌≡◌, List, [], ◌∷◌}
use Rattle.base.specs.Answers.{make_said}
use Rattle.base.specs.Answers.{MakeAnswer}
use Rattle.outcome.specs.Make.{make_outcome}
use Rattle.book_progression.specs.NodeBytes.{IsHeld}
use Rattle.maker_rows.specs.Rows.{made_table_file, Ends}

-- The made table of the book that the area holds is the file, or there is none, or its pairs are too many, or one is over_full.
pub record TableMade (r : MakeAnswer) (tower nodes out after : List ℕ) : Type 0 where
  pub says : (h : IsHeld nodes) → Ends (made_table_file tower h.book) out r after

-- The whole outcome: the answer, and what the output and the eight areas hold at the end.
pub record Makes (r : MakeAnswer) (tower text out nodes pairs index graph sets room flags classes out_after nodes_after pairs_after index_after graph_after sets_after room_after flags_after classes_after : List ℕ) : Type 0 where
  pub answer : r ≡ (make_outcome tower text out (nodes ∷ pairs ∷ index ∷ graph ∷ sets ∷ room ∷ flags ∷ classes ∷ [])).answer
  pub said : make_said r ≡ make_said (make_outcome tower text out (nodes ∷ pairs ∷ index ∷ graph ∷ sets ∷ room ∷ flags ∷ classes ∷ [])).answer
  pub output : out_after ≡ (make_outcome tower text out (nodes ∷ pairs ∷ index ∷ graph ∷ sets ∷ room ∷ flags ∷ classes ∷ [])).output
  pub areas : nodes_after ∷ pairs_after ∷ index_after ∷ graph_after ∷ sets_after ∷ room_after ∷ flags_after ∷ classes_after ∷ []
      ≡ (make_outcome tower text out (nodes ∷ pairs ∷ index ∷ graph ∷ sets ∷ room ∷ flags ∷ classes ∷ [])).areas
