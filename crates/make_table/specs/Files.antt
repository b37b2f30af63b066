-- What the program makes of the contents of a tower file and a book.
use Rattle.std.specs.Prelude.{◌≡◌, List, ℕ, length, take}
use Rattle.base.specs.Answers.{Answer}
use Rattle.std.specs.Prelude.{Err, Ok}
use Rattle.base.specs.Answers.{MakeAnswer}
use Rattle.outcome.specs.Make.{made_file}

-- the answer with a file, or with the refusal in its place
unfoldable pub made_answer : Answer (List ℕ) → MakeAnswer
made_answer (Err why) = Err why
made_answer (Ok file) = Ok (length file)

-- The answer is that of the definition, and the output begins with the file of the made table. The program's areas and output are long
-- enough for every tower and every book: 15 and 16 never come.
pub record MadeFile (answer : MakeAnswer) (tower text out : List ℕ) : Type 0 where
  pub answered : answer ≡ made_answer (made_file tower text)
  pub begins : (file : List ℕ) → made_file tower text ≡ Ok file → take (length file) out ≡ file
