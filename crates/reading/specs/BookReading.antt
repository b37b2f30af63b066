-- 01, 'Rule book' and 'Why a call is turned down': lines, limits, and the book of a text or why there is none.
use Rattle.std.specs.Prelude.{ℕ, ◌+◌, ◌-◌, Bool, false, ◌||◌, not, List, [], ◌∷◌, ◌++◌, length, drop, leb, ltb}
use Rattle.base.specs.Choice.{pick}
use Rattle.base.specs.Lists.{begins}
use Rattle.base.specs.Text.{byte, ascii}
use Rattle.base.specs.Recursion.{run}
use Rattle.base.specs.Answers.{Answer, ◌if◌else◌, ◌then◌}
use Rattle.std.specs.Prelude.{Err, Ok}
use Rattle.base.specs.declared.Refusal.TheVariants.{Grammar, Number, Mark, Limit, Timed}
use Rattle.logic.specs.Book.{Formula, constant, proposition, and, or, next, always_for, until, timed_right, size, nodes, Form, at_start, everywhere, Book}
use Rattle.reading.specs.Tokens.{stands, skip}
use Rattle.reading.specs.Grammar.{Parsed, bad, got, formula_at}

-- the most bytes, nodes and open brackets of a book, and the largest number
unfoldable pub most_bytes : ℕ
most_bytes = 4096

unfoldable pub most_nodes : ℕ
most_nodes = 60

unfoldable pub most_brackets : ℕ
most_brackets = 16

unfoldable pub most_ticks : ℕ
most_ticks = 254

-- a number left out after A, E or U
unfoldable pub usual_bound : ℕ
usual_bound = 20

-- A line that was read: its form, formula and open brackets, and the position after its byte 10.
pub data Line : Type 0 where
  no_line : Line
  line : Form → Formula → (brackets next : ℕ) → Line

-- the formula and the end of a line
unfoldable pub ended : List ℕ → Form → Parsed → Line
ended s form bad = no_line
ended s form (got f brackets p) = pick (stands s p (byte "\n")) (λ _. line form f brackets (p + 1)) (λ _. no_line)

-- a line that begins with this word at p, at least one space behind it; else what another form makes of it
unfoldable pub worded : ℕ → List ℕ → ℕ → List ℕ → Form → Line → Line
worded usual s p word form other =
    pick (begins (word ++ (byte " " ∷ [])) (drop p s))
    (λ _. ended s form (formula_at usual s (skip s (p + length word))))
    (λ _. other)

-- the line at p, of one of the forms that a book may have
unfoldable pub line_at : ℕ → List ℕ → ℕ → Line
line_at usual s p = worded usual s p (ascii "always") everywhere (worded usual s p (ascii "start") at_start no_line)

-- 7: a number above 254
unfoldable pub over_number : Formula → Bool
over_number (constant b) = false
over_number (proposition w k) = false
over_number (and f g) = over_number f || over_number g
over_number (or f g) = over_number f || over_number g
over_number (next c t g) = ltb most_ticks t.0 || over_number g
over_number (always_for t g) = ltb most_ticks t.0 || over_number g
over_number (until t f g) = ltb most_ticks t.0 || (over_number f || over_number g)

-- 8: a mark at or above P
unfoldable pub over_mark : ℕ → Formula → Bool
over_mark marks (constant b) = false
over_mark marks (proposition w k) = leb marks k
over_mark marks (and f g) = over_mark marks f || over_mark marks g
over_mark marks (or f g) = over_mark marks f || over_mark marks g
over_mark marks (next c t g) = over_mark marks g
over_mark marks (always_for t g) = over_mark marks g
over_mark marks (until t f g) = over_mark marks f || over_mark marks g

-- 9: with this line over 60 nodes in the book, or over 16 open brackets in it
unfoldable pub over_limit : Book → Formula → ℕ → Bool
over_limit before f brackets = ltb most_nodes (length (nodes before) + size f) || ltb most_brackets brackets

-- How far the reading of a book has come: the rules read so far, and the position of the next line.
pub record ReadSoFar : Type 0 where
  pub rules : Book
  pub place : ℕ

-- a line in number order: 6, 7, 8, 9, 10, its number as place; or how far the reading has come with it
unfoldable pub judge_line : ℕ → Book → Line → Answer ReadSoFar
judge_line marks before no_line = Err (Grammar (length before))
judge_line marks before (line form f brackets p) =
    Number (length before) if over_number f else
    Mark (length before) if over_mark marks f else
    Limit (length before) if over_limit before f brackets else
    Timed (length before) if not (timed_right f) else
    Ok (record { rules = before ++ (record { form = form; formula = f } ∷ []); place = p })

-- the lines from here on, one after the other, to the end of the text
unfoldable pub lines_step : ℕ → ℕ → List ℕ → ReadSoFar → (ReadSoFar → Answer Book) → Answer Book
lines_step usual marks s here more =
    pick (leb (length s) here.place)
    (λ _. Ok here.rules)
    (λ _. judge_line marks here.rules (line_at usual s here.place) then more)

unfoldable pub read_lines : ℕ → ℕ → List ℕ → Answer Book
read_lines usual marks s =
    run (λ here. length s - here.place) (λ here. Err (Grammar (length here.rules))) (lines_step usual marks s) (record { rules = []; place = 0 })

-- the book of a text under P marks: 9 for its length first, then by line
unfoldable pub read_book : ℕ → List ℕ → Answer Book
read_book marks s = Limit 0 if ltb most_bytes (length s) else read_lines usual_bound marks s
