-- 01, 'Rule book': how formulas, lines and books are written, rule by rule.
-- Nothing here reads a text: each rule says how the bytes of a whole are put together from those of its parts.
use Rattle.std.specs.Prelude.{ℕ, suc, ◌+◌, ◌*◌, ◌/◌, ◌%◌, ◌≤◌, ◌<◌, max, ◌≡◌, Bool, true, false, length, replicate, ltb}
use mathlib.Core.List.{List, [], ◌∷◌, ◌++◌, Memᴰ}
use Rattle.base.specs.Choice.{pick}
use Rattle.base.specs.Lists.{joined}
use Rattle.base.specs.Text.{byte, ascii}
use Rattle.logic.specs.Time.{ticks}
use Rattle.logic.specs.Book.{Comparison, no_more, less, no_less, more, Formula, constant, proposition, and, or, next, always_for, until, within}
use Rattle.logic.specs.Book.{nodes, Form, at_start, everywhere, Rule, Book, FitBook}
use Rattle.reading.specs.BookReading.{most_bytes, most_nodes, most_brackets, usual_bound, over_number, over_mark}

-- ---- tokens

-- so many spaces; none is none
abbrev pub spaces : ℕ → List ℕ
spaces n = replicate n (byte " ")

-- the byte of a digit
unfoldable pub digit : ℕ → ℕ
digit d = byte "0" + d

-- A number in one to three digits, zeros in front allowed: how many digits, the number, and the bytes.
pub data Digits : (count number : ℕ) → List ℕ → Type 0 where
  one_digit : (a : ℕ) → a < 10 → Digits 1 a (digit a ∷ [])
  two_digits : (a b : ℕ) → a < 10 → b < 10 → Digits 2 (10 * a + b) (digit a ∷ digit b ∷ [])
  three_digits : (a b c : ℕ) → a < 10 → b < 10 → c < 10 → Digits 3 (100 * a + 10 * b + c) (digit a ∷ digit b ∷ digit c ∷ [])

-- What stands behind A, E or U: a number with any spaces before it, or nothing, which means the usual bound.
pub data BoundText (usual : ℕ) : (number : ℕ) → List ℕ → Type 0 where
  number_written : (gap : ℕ) {count number : ℕ} {text : List ℕ} → Digits count number text → BoundText usual number (spaces gap ++ text)
  left_out : BoundText usual usual []

-- one of `<=` `<` `>=` `>`
unfoldable pub sign : Comparison → List ℕ
sign no_more = ascii "<="
sign less = ascii "<"
sign no_less = ascii ">="
sign more = ascii ">"

-- `!` for a mark that is not wanted
unfoldable pub negation : Bool → List ℕ
negation true = []
negation false = ascii "!"

-- ---- formulas

-- What a text is: one unit; units joined by `&`; or such texts joined by `|`.
pub data Shape : Type 0 where
  one_unit and_units or_units : Shape

-- The bytes spell the formula in that shape, and so many brackets stand open in them at most.
-- `joined` puts pieces one behind the other; i, j, k, l and m are numbers of spaces.
pub data Spells (usual : ℕ) : Shape → Formula → (brackets : ℕ) → List ℕ → Type 0 where
  -- `T` and `F`
  spells_true : Spells usual one_unit (constant true) 0 (ascii "T")
  spells_false : Spells usual one_unit (constant false) 0 (ascii "F")
  -- `p` and one or two digits, `!` before it or not
  spells_mark : (wanted : Bool) {count k : ℕ} {number : List ℕ} → Digits count k number → count ≤ 2
      → Spells usual one_unit (proposition wanted k) 0 (joined (negation wanted ∷ ascii "p" ∷ number ∷ []))
  -- `N`, a comparison, a number and a unit
  spells_next : (i : ℕ) (c : Comparison) (j : ℕ) {count t : ℕ} {number : List ℕ} (k : ℕ) {g : Formula} {b : ℕ} {part : List ℕ}
      → Digits count t number → Spells usual one_unit g b part
      → Spells usual one_unit (next c (ticks t) g) b (joined (ascii "N" ∷ spaces i ∷ sign c ∷ spaces j ∷ number ∷ spaces k ∷ part ∷ []))
  -- `A` or `E`, a bound and a unit
  spells_always : {t : ℕ} {bound : List ℕ} (k : ℕ) {g : Formula} {b : ℕ} {part : List ℕ} → BoundText usual t bound → Spells usual one_unit g b part
      → Spells usual one_unit (always_for (ticks t) g) b (joined (ascii "A" ∷ bound ∷ spaces k ∷ part ∷ []))
  spells_within : {t : ℕ} {bound : List ℕ} (k : ℕ) {g : Formula} {b : ℕ} {part : List ℕ} → BoundText usual t bound → Spells usual one_unit g b part
      → Spells usual one_unit (within (ticks t) g) b (joined (ascii "E" ∷ bound ∷ spaces k ∷ part ∷ []))
  -- `U`, a bound, and two parts in brackets with a comma between them
  spells_until : {t : ℕ} {bound : List ℕ} (i j k l m : ℕ) {f g : Formula} {b c : ℕ} {first second : List ℕ}
      → BoundText usual t bound → Spells usual or_units f b first → Spells usual or_units g c second
      → Spells usual one_unit (until (ticks t) f g) (suc (max b c))
      (joined (ascii "U" ∷ bound ∷ spaces i ∷ ascii "(" ∷ spaces j ∷ first ∷ spaces k ∷ ascii "," ∷ spaces l ∷ second ∷ spaces m ∷ ascii ")" ∷ []))
  -- any formula in brackets
  spells_bracketed : (i j : ℕ) {f : Formula} {b : ℕ} {text : List ℕ} → Spells usual or_units f b text
      → Spells usual one_unit f (suc b) (joined (ascii "(" ∷ spaces i ∷ text ∷ spaces j ∷ ascii ")" ∷ []))
  -- a unit alone; or `&`, grouped from the left
  spells_unit : {f : Formula} {b : ℕ} {text : List ℕ} → Spells usual one_unit f b text → Spells usual and_units f b text
  spells_and : (i j : ℕ) {f g : Formula} {b c : ℕ} {first second : List ℕ} → Spells usual and_units f b first → Spells usual one_unit g c second
      → Spells usual and_units (and f g) (max b c) (joined (first ∷ spaces i ∷ ascii "&" ∷ spaces j ∷ second ∷ []))
  -- no `|` at all; or `|`, grouped from the left
  spells_ands : {f : Formula} {b : ℕ} {text : List ℕ} → Spells usual and_units f b text → Spells usual or_units f b text
  spells_or : (i j : ℕ) {f g : Formula} {b c : ℕ} {first second : List ℕ} → Spells usual or_units f b first → Spells usual and_units g c second
      → Spells usual or_units (or f g) (max b c) (joined (first ∷ spaces i ∷ ascii "|" ∷ spaces j ∷ second ∷ []))

-- ---- lines and books

-- the word that a line begins with
unfoldable pub word : Form → List ℕ
word at_start = ascii "start"
word everywhere = ascii "always"

-- The bytes are a line of the rule: its word, at least one space, the formula, and byte 10 right behind it.
pub data SpellsLine (usual : ℕ) : Rule → (brackets : ℕ) → List ℕ → Type 0 where
  spells_line : (form : Form) (i : ℕ) {f : Formula} {b : ℕ} {text : List ℕ} → Spells usual or_units f b text
      → SpellsLine usual (record { form = form; formula = f }) b (joined (word form ∷ spaces (suc i) ∷ text ∷ ascii "\n" ∷ []))

-- The bytes are the lines of the book, and so many brackets stand open in them at most.
pub data SpellsBook (usual : ℕ) : Book → (brackets : ℕ) → List ℕ → Type 0 where
  spells_none : SpellsBook usual [] 0 []
  spells_more : {rule : Rule} {book : Book} {b c : ℕ} {line text : List ℕ} → SpellsLine usual rule b line → SpellsBook usual book c text
      → SpellsBook usual (rule ∷ book) (max b c) (line ++ text)

-- A book that no limit turns down under so many marks, 7 to 10 by number, with so many open brackets at most in its lines.
pub record WithinLimits (marks : ℕ) (book : Book) (brackets : ℕ) : Type 0 where
  pub numbers : (rule : Rule) → Memᴰ rule book → over_number rule.formula ≡ false
  pub propositions : (rule : Rule) → Memᴰ rule book → over_mark marks rule.formula ≡ false
  pub few_nodes : length (nodes book) ≤ most_nodes
  pub few_brackets : brackets ≤ most_brackets
  pub timed : FitBook book

-- The text is one of the book, by the rules and within the limits.
pub record BookOf (marks : ℕ) (text : List ℕ) (book : Book) : Type 0 where
  pub brackets : ℕ
  pub spells : SpellsBook usual_bound book brackets text
  pub limits : WithinLimits marks book brackets
  pub few_bytes : length text ≤ most_bytes

-- ---- one spelling of every formula

-- a number below 1000 in the fewest digits
unfoldable pub number_text : ℕ → List ℕ
number_text n =
    pick (ltb n 10) (λ _. digit n ∷ []) (λ _.
    pick (ltb n 100) (λ _. digit (n / 10) ∷ digit (n % 10) ∷ []) (λ _.
    digit (n / 100) ∷ digit (n / 10 % 10) ∷ digit (n % 10) ∷ []))

-- where `&` wants brackets, and where `|` does
unfoldable pub and_bracketed : Shape → Bool
and_bracketed one_unit = true
and_bracketed and_units = false
and_bracketed or_units = false

unfoldable pub or_bracketed : Shape → Bool
or_bracketed one_unit = true
or_bracketed and_units = true
or_bracketed or_units = false

-- the text in brackets, if so; and one bracket more
unfoldable pub bracketed_if : Bool → List ℕ → List ℕ
bracketed_if true text = joined (ascii "(" ∷ text ∷ ascii ")" ∷ [])
bracketed_if false text = text

unfoldable pub counted_if : Bool → ℕ → ℕ
counted_if true brackets = suc brackets
counted_if false brackets = brackets

-- the formula where a text of that shape may stand: the fewest brackets, and one space between two tokens but beside brackets and before a comma
unfoldable pub text_as : Shape → Formula → List ℕ
text_as shape (constant true) = ascii "T"
text_as shape (constant false) = ascii "F"
text_as shape (proposition wanted k) = joined (negation wanted ∷ ascii "p" ∷ number_text k ∷ [])
text_as shape (and f g) = bracketed_if (and_bracketed shape) (joined (text_as and_units f ∷ ascii " & " ∷ text_as one_unit g ∷ []))
text_as shape (or f g) = bracketed_if (or_bracketed shape) (joined (text_as or_units f ∷ ascii " | " ∷ text_as and_units g ∷ []))
text_as shape (next c t g) = joined (ascii "N " ∷ sign c ∷ ascii " " ∷ number_text t.0 ∷ ascii " " ∷ text_as one_unit g ∷ [])
text_as shape (always_for t g) = joined (ascii "A " ∷ number_text t.0 ∷ ascii " " ∷ text_as one_unit g ∷ [])
text_as shape (until t f g) =
    joined (ascii "U " ∷ number_text t.0 ∷ ascii " (" ∷ text_as or_units f ∷ ascii ", " ∷ text_as or_units g ∷ ascii ")" ∷ [])

-- how many brackets stand open in that at most
unfoldable pub brackets_in : Shape → Formula → ℕ
brackets_in shape (constant b) = 0
brackets_in shape (proposition wanted k) = 0
brackets_in shape (and f g) = counted_if (and_bracketed shape) (max (brackets_in and_units f) (brackets_in one_unit g))
brackets_in shape (or f g) = counted_if (or_bracketed shape) (max (brackets_in or_units f) (brackets_in and_units g))
brackets_in shape (next c t g) = brackets_in one_unit g
brackets_in shape (always_for t g) = brackets_in one_unit g
brackets_in shape (until t f g) = suc (max (brackets_in or_units f) (brackets_in or_units g))

-- a formula as it is written behind the word of a line, and its brackets
unfoldable pub formula_text : Formula → List ℕ
formula_text f = text_as or_units f

unfoldable pub formula_brackets : Formula → ℕ
formula_brackets f = brackets_in or_units f

-- a book, a line for each rule, and its brackets
unfoldable pub book_text : Book → List ℕ
book_text [] = []
book_text (rule ∷ book) = joined (word rule.form ∷ ascii " " ∷ formula_text rule.formula ∷ ascii "\n" ∷ []) ++ book_text book

unfoldable pub book_brackets : Book → ℕ
book_brackets [] = 0
book_brackets (rule ∷ book) = max (formula_brackets rule.formula) (book_brackets book)
