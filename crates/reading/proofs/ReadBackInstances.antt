-- Texts and the formulas that they are read as, computed: each connective, each level, each way of spacing, texts that are no line, and the answers for whole books.
use Prim.Native.Nat.{ℕ}
use Prim.Native.String.{String}
use mathlib.Core.Path.{◌≡◌, refl}
use mathlib.Core.Bool.{true, false}
use mathlib.Core.List.{List, [], ◌∷◌, ◌++◌, map}
use lib.ListN.{length}
use Rattle.base.specs.Lists.{leading, begins, joined}
use Rattle.base.specs.Text.{ascii}
use Rattle.base.specs.Recursion.{run}
use Rattle.base.specs.Recursion as Deep
use Rattle.base.specs.Answers.{Answer, ◌if◌else◌, ◌then◌}
use Rattle.std.specs.Prelude.{Err, Ok}
use Rattle.base.specs.declared.Refusal.TheVariants.{Grammar, Number, Mark, Limit, Timed}
use Rattle.logic.specs.Time.{ticks}
use Rattle.logic.specs.Book.{no_more, less, no_less, more, Formula, constant, proposition, and, or, next, always_for, until, within, at_start, everywhere}
use Rattle.logic.specs.Book.{timed, timed_right, parts, size, nodes, Book}
use Rattle.reading.specs.Tokens.{stands, skip, is_digit, digits, value, numeral, number_token, mark_named, mark_at, mark_token, with_equals, comparison_token}
use Rattle.reading.specs.Grammar.{connectives, connective, Parsed, got, onward, behind, bounded, compared_with, number_or_usual, bound_at, formula_one, formula_two}
use Rattle.reading.specs.Grammar.{joining, bracketed, two_parts, with_bound, led, marked_unit, unit_at, read_level, read_step, rank, calls_left, formula_at}
use Rattle.reading.specs.BookReading.{most_bytes, most_nodes, most_brackets, most_ticks, usual_bound, Line, no_line, line, ended, worded, line_at, over_number, over_mark, over_limit, judge_line, lines_step, read_lines, read_book}

-- A text, the formula that it spells, and how many brackets stand open in it at most.
record Instance : Type 0 where
  text : String
  formula : Formula
  brackets : ℕ

abbrev spelling : String → Formula → ℕ → Instance
spelling text f b = record { text = text; formula = f; brackets = b }

-- what is read at the beginning of the text with byte 10 behind it, and what is to be read
unfoldable read_there : Instance → Parsed
unfolding ascii run Deep.to_depth leading stands skip is_digit digits value numeral number_token mark_named mark_at mark_token with_equals comparison_token connectives connective usual_bound onward behind bounded compared_with number_or_usual bound_at formula_one formula_two joining bracketed two_parts with_bound led marked_unit unit_at read_level read_step rank calls_left formula_at within
read_there i = formula_at usual_bound (ascii i.text ++ ascii "\n") 0

unfoldable wanted_there : Instance → Parsed
wanted_there i = got i.formula i.brackets (length (ascii i.text))

-- the mark k
abbrev p : ℕ → Formula
p k = proposition true k

-- constants and marks
units : List Instance
units =
    spelling "T" (constant true) 0
    ∷ spelling "F" (constant false) 0
    ∷ spelling "p0" (p 0) 0
    ∷ spelling "p12" (p 12) 0
    ∷ spelling "p07" (p 7) 0
    ∷ spelling "!p3" (proposition false 3) 0
    ∷ []

units_read : map read_there units ≡ map wanted_there units
unfolding read_there wanted_there units
units_read = refl

-- `&` binds before `|`, both group from the left, and brackets group otherwise
levels : List Instance
levels =
    spelling "p0 & p1" (and (p 0) (p 1)) 0
    ∷ spelling "p0 | p1" (or (p 0) (p 1)) 0
    ∷ spelling "p0 & p1 & p2" (and (and (p 0) (p 1)) (p 2)) 0
    ∷ spelling "p0 | p1 | p2" (or (or (p 0) (p 1)) (p 2)) 0
    ∷ spelling "p0 & (p1 & p2)" (and (p 0) (and (p 1) (p 2))) 1
    ∷ spelling "p0 | (p1 | p2)" (or (p 0) (or (p 1) (p 2))) 1
    ∷ spelling "p0 | p1 & p2" (or (p 0) (and (p 1) (p 2))) 0
    ∷ spelling "p0 & p1 | p2" (or (and (p 0) (p 1)) (p 2)) 0
    ∷ spelling "(p0 | p1) & p2" (and (or (p 0) (p 1)) (p 2)) 1
    ∷ spelling "p0 & (p1 | p2)" (and (p 0) (or (p 1) (p 2))) 1
    ∷ spelling "p0 & p1 | p2 & p3 | p4" (or (or (and (p 0) (p 1)) (and (p 2) (p 3))) (p 4)) 0
    ∷ []

levels_read : map read_there levels ≡ map wanted_there levels
unfolding read_there wanted_there levels
levels_read = refl

-- each connective with a bound, and the bound left out
bounds : List Instance
bounds =
    spelling "N <= 5 p0" (next no_more (ticks 5) (p 0)) 0
    ∷ spelling "N < 5 p0" (next less (ticks 5) (p 0)) 0
    ∷ spelling "N >= 5 p0" (next no_less (ticks 5) (p 0)) 0
    ∷ spelling "N > 5 p0" (next more (ticks 5) (p 0)) 0
    ∷ spelling "A 0 p0" (always_for (ticks 0) (p 0)) 0
    ∷ spelling "A 254 p0" (always_for (ticks 254) (p 0)) 0
    ∷ spelling "A 007 p0" (always_for (ticks 7) (p 0)) 0
    ∷ spelling "A p0" (always_for (ticks 20) (p 0)) 0
    ∷ spelling "E 3 p0" (until (ticks 3) (constant true) (p 0)) 0
    ∷ spelling "E p0" (until (ticks 20) (constant true) (p 0)) 0
    ∷ spelling "U 3 (p0, p1)" (until (ticks 3) (p 0) (p 1)) 1
    ∷ spelling "U (p0, p1)" (until (ticks 20) (p 0) (p 1)) 1
    ∷ []

bounds_read : map read_there bounds ≡ map wanted_there bounds
unfolding read_there wanted_there bounds
bounds_read = refl

-- N, A, E and U take the next unit; brackets in brackets
nested : List Instance
nested =
    spelling "A 3 p0 & p1" (and (always_for (ticks 3) (p 0)) (p 1)) 0
    ∷ spelling "A 3 (p0 & p1)" (always_for (ticks 3) (and (p 0) (p 1))) 1
    ∷ spelling "A 1 E 2 N > 3 !p0" (always_for (ticks 1) (until (ticks 2) (constant true) (next more (ticks 3) (proposition false 0)))) 0
    ∷ spelling "A A E p0" (always_for (ticks 20) (always_for (ticks 20) (until (ticks 20) (constant true) (p 0)))) 0
    ∷ spelling "((p0))" (p 0) 2
    ∷ spelling "(T) & ((F) | (p0))" (and (constant true) (or (constant false) (p 0))) 2
    ∷ spelling "U 1 (U 2 (T, p0) | p1, (p2) & p3)" (until (ticks 1) (or (until (ticks 2) (constant true) (p 0)) (p 1)) (and (p 2) (p 3))) 2
    ∷ []

nested_read : map read_there nested ≡ map wanted_there nested
unfolding read_there wanted_there nested
nested_read = refl

-- no space, one or several between two tokens
unfoldable spaced : Formula
spaced = or (and (next no_more (ticks 5) (p 0)) (always_for (ticks 3) (p 1))) (until (ticks 2) (or (p 0) (constant false)) (p 1))

spacings : List Instance
spacings =
    spelling "N<=5p0&A3p1|U2(p0|F,p1)" spaced 1
    ∷ spelling "N <= 5 p0 & A 3 p1 | U 2 (p0 | F, p1)" spaced 1
    ∷ spelling "N  <=   5  p0   &  A   3  p1  |   U  2   (  p0  |   F  ,   p1   )" spaced 1
    ∷ spelling "N<= 5p0 &A 3p1| U2 (p0 |F ,p1)" spaced 1
    ∷ []

spacings_read : map read_there spacings ≡ map wanted_there spacings
unfolding read_there wanted_there spacings spaced
spacings_read = refl

-- ---- lines

unfoldable line_there : String → Line
unfolding read_there line_at worded ended begins
line_there text = line_at usual_bound (ascii text) 0

-- a line begins with its word, has at least one space behind that, and ends right behind the last token
lines_read :
    map line_there
    ("always p0\n"
    ∷ "always   p0\n"
    ∷ "start !p1\nalways p0\n"
    ∷ "always(p0)\n"
    ∷ " always p0\n"
    ∷ "always p0 \n"
    ∷ "always p0"
    ∷ "always p 0\n"
    ∷ "always ! p0\n"
    ∷ "always &\n"
    ∷ [])
    ≡ line everywhere (p 0) 0 10
    ∷ line everywhere (p 0) 0 12
    ∷ line at_start (proposition false 1) 0 10
    ∷ no_line
    ∷ no_line
    ∷ no_line
    ∷ no_line
    ∷ no_line
    ∷ no_line
    ∷ no_line
    ∷ []
unfolding line_there
lines_read = refl

-- ---- books

unfoldable answer_there : ℕ → String → Answer Book
unfolding line_there over_number over_mark over_limit judge_line lines_step read_lines read_book most_bytes most_nodes most_brackets most_ticks ◌if◌else◌ ◌then◌ nodes size parts joined timed timed_right
answer_there marks text = read_book marks (ascii text)

-- the paper's examples under 3 marks; the first line that is turned down gives the number and the place
answers_read :
    map (answer_there 3)
    (""
    ∷ "always !p0 | E 3 p1\nstart N <= 1 T\n"
    ∷ "always &\n"
    ∷ "start A 255 T\n"
    ∷ "start p3\n"
    ∷ "start (((((((((((((((((T)))))))))))))))))\n"
    ∷ "start U 1 (T, E 1 p0)\n"
    ∷ "start E 1 p0 | E 1 p1\n"
    ∷ "start T\nstart A 255 p3\nalways &\n"
    ∷ "start T\nstart p3 & E 1 (A 1 T)\n"
    ∷ [])
    ≡ Ok []
    ∷ Ok
    (record { form = everywhere; formula = or (proposition false 0) (until (ticks 3) (constant true) (p 1)) }
    ∷ record { form = at_start; formula = next no_more (ticks 1) (constant true) }
    ∷ [])
    ∷ Err (Grammar 0)
    ∷ Err (Number 0)
    ∷ Err (Mark 0)
    ∷ Err (Limit 0)
    ∷ Err (Timed 0)
    ∷ Ok
    (record { form = at_start; formula = or (until (ticks 1) (constant true) (p 0)) (until (ticks 1) (constant true) (p 1)) } ∷ [])
    ∷ Err (Number 1)
    ∷ Err (Mark 1)
    ∷ []
unfolding answer_there
answers_read = refl
