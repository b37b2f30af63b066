-- 01, 'Why a call is turned down', of the book: the right answer for a text, in the words of the rules by which books are spelled.
use Rattle.std.specs.Prelude.{ℕ, ◌≤◌, ◌<◌, ◌≡◌, true, false, List, ◌++◌, length}
use Rattle.base.specs.Answers.{Answer}
use Rattle.std.specs.Prelude.{Err, Ok}
use Rattle.base.specs.declared.Refusal.TheVariants.{Grammar, Number, Mark, Limit, Timed}
use Rattle.logic.specs.Book.{timed_right, Rule, Book}
use Rattle.reading.specs.BookReading.{most_bytes, usual_bound, over_number, over_mark, over_limit}
use Rattle.reading.specs.Spelling.{SpellsLine, SpellsBook, WithinLimits, BookOf}

-- The text begins with lines of these rules, which no limit turns down, and then has the rest, which is not empty.
pub record BegunWith (marks : ℕ) (text : List ℕ) (before : Book) (rest : List ℕ) : Type 0 where
  pub begun : List ℕ
  pub brackets : ℕ
  pub spells : SpellsBook usual_bound before brackets begun
  pub limits : WithinLimits marks before brackets
  pub all : text ≡ begun ++ rest
  pub more_bytes : 1 ≤ length rest
  pub few_bytes : length text ≤ most_bytes

-- The rest begins with a line of this rule, with so many brackets.
pub record NextLine (rest : List ℕ) (rule : Rule) (brackets : ℕ) : Type 0 where
  pub line : List ℕ
  pub behind : List ℕ
  pub spells : SpellsLine usual_bound rule brackets line
  pub all : rest ≡ line ++ behind

-- The right answer and why it is the right one: 9 for the length first, and then the first line that is turned down, by the first number that fits it.
pub data RightBook (marks : ℕ) (text : List ℕ) : Answer Book → Type 0 where
  too_long : most_bytes < length text → RightBook marks text (Err (Limit 0))
  no_line_there : (before : Book) (rest : List ℕ) → BegunWith marks text before rest → ((rule : Rule) (b : ℕ) → NextLine rest rule b → ⊥)
      → RightBook marks text (Err (Grammar (length before)))
  number_over : (before : Book) (rest : List ℕ) (rule : Rule) (b : ℕ) → BegunWith marks text before rest → NextLine rest rule b
      → over_number rule.formula ≡ true → RightBook marks text (Err (Number (length before)))
  mark_over : (before : Book) (rest : List ℕ) (rule : Rule) (b : ℕ) → BegunWith marks text before rest → NextLine rest rule b
      → over_number rule.formula ≡ false → over_mark marks rule.formula ≡ true → RightBook marks text (Err (Mark (length before)))
  limit_over : (before : Book) (rest : List ℕ) (rule : Rule) (b : ℕ) → BegunWith marks text before rest → NextLine rest rule b
      → over_number rule.formula ≡ false → over_mark marks rule.formula ≡ false → over_limit before rule.formula b ≡ true
      → RightBook marks text (Err (Limit (length before)))
  timed_wrong : (before : Book) (rest : List ℕ) (rule : Rule) (b : ℕ) → BegunWith marks text before rest → NextLine rest rule b
      → over_number rule.formula ≡ false → over_mark marks rule.formula ≡ false → over_limit before rule.formula b ≡ false
      → timed_right rule.formula ≡ false → RightBook marks text (Err (Timed (length before)))
  whole_book : (book : Book) → BookOf marks text book → RightBook marks text (Ok book)
