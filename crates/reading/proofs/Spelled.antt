-- Every formula and every book has a spelling: the one that `formula_text` and `book_text` write down is made by the rules.
use Prim.Native.Nat.{ℕ, ◌+◌, ◌*◌, ◌/◌, ◌%◌, ◌≤◌, ◌<◌}
use native.Mathlib.Omega.{arith}
use native.Mathlib.Decide.{dec_lt}
use mathlib.Core.Path.{◌≡◌, refl, subst}
use mathlib.Core.Bool.{true, false, ◌||◌}
use mathlib.Core.List.{List, [], ◌∷◌, Memᴰ}
use lib.Dec.{ltb}
use borrow.Author.Tests.{lt-ltb, le-ltb, ltb-false, leb-false}
use Rattle.base.specs.Lists.{joined}
use Rattle.base.specs.Text.{ascii}
use Rattle.base.proofs.Lists.{or_fails_left, or_fails_right}
use Rattle.logic.specs.Book.{Formula, constant, proposition, and, or, next, always_for, until, Rule, Book}
use Rattle.reading.specs.BookReading.{most_ticks, over_number, over_mark}
use Rattle.reading.specs.Spelling.{digit, Digits, one_digit, two_digits, three_digits, number_written, Shape, one_unit, and_units, or_units}
use Rattle.reading.specs.Spelling.{Spells, spells_true, spells_false, spells_mark, spells_next, spells_always, spells_until, spells_bracketed, spells_unit, spells_and, spells_ands, spells_or}
use Rattle.reading.specs.Spelling.{SpellsBook, spells_none, spells_more, spells_line, number_text, and_bracketed, or_bracketed, bracketed_if, counted_if, text_as, brackets_in, formula_text, formula_brackets, book_text, book_brackets}

-- A number in digits, with no more of them than it needs.
record Numbered (n : ℕ) : Type 0 where
  count : ℕ
  written : Digits count n (number_text n)
  few : n < 100 → count ≤ 2

text_one : (n : ℕ) → n < 10 → number_text n ≡ digit n ∷ []
unfolding number_text
text_one n l = rw (lt-ltb n 10 l)

text_two : (n : ℕ) → 10 ≤ n → n < 100 → number_text n ≡ digit (n / 10) ∷ digit (n % 10) ∷ []
unfolding number_text
text_two n l m = rw (le-ltb n 10 l, lt-ltb n 100 m)

text_three : (n : ℕ) → 100 ≤ n → number_text n ≡ digit (n / 100) ∷ digit (n / 10 % 10) ∷ digit (n % 10) ∷ []
unfolding number_text
text_three n l = rw (le-ltb n 10 (omega arith), le-ltb n 100 l)

two_back : (n : ℕ) → n < 100 → Digits 2 n (digit (n / 10) ∷ digit (n % 10) ∷ [])
two_back n l =
    let e : 10 * (n / 10) + n % 10 ≡ n = omega arith in
    subst (λ (m : ℕ). Digits 2 m (digit (n / 10) ∷ digit (n % 10) ∷ [])) e (two_digits (n / 10) (n % 10) (omega arith) (omega arith))

three_back : (n : ℕ) → n < 1000 → Digits 3 n (digit (n / 100) ∷ digit (n / 10 % 10) ∷ digit (n % 10) ∷ [])
three_back n l =
    let e : 100 * (n / 100) + 10 * (n / 10 % 10) + n % 10 ≡ n = omega arith in
    subst (λ (m : ℕ). Digits 3 m (digit (n / 100) ∷ digit (n / 10 % 10) ∷ digit (n % 10) ∷ [])) e
    (three_digits (n / 100) (n / 10 % 10) (n % 10) (omega arith) (omega arith) (omega arith))

numbered : (n : ℕ) → n < 1000 → Numbered n
numbered n l = elim (dec_lt n 10) [
  | yes small ↦ record { count = 1; written = rw (text_one n small) (one_digit n small); few = λ _. omega arith }
  | no large ↦
      elim (dec_lt n 100) [
        | yes small ↦ record { count = 2; written = rw (text_two n (omega arith) small) (two_back n small); few = λ _. omega arith }
        | no larger ↦ record { count = 3; written = rw (text_three n (omega arith)) (three_back n l); few = λ small. absurd (omega arith) }
      ]
]

-- ---- shapes

unit_as : {usual : ℕ} (shape : Shape) {f : Formula} {b : ℕ} {text : List ℕ} → Spells usual one_unit f b text → Spells usual shape f b text
unit_as one_unit h = h
unit_as and_units h = spells_unit h
unit_as or_units h = spells_ands (spells_unit h)

and_as : {usual : ℕ} (shape : Shape) {f : Formula} {b : ℕ} {text : List ℕ} → Spells usual and_units f b text
    → Spells usual shape f (counted_if (and_bracketed shape) b) (bracketed_if (and_bracketed shape) text)
unfolding and_bracketed bracketed_if counted_if joined ascii
and_as one_unit h = spells_bracketed 0 0 (spells_ands h)
and_as and_units h = h
and_as or_units h = spells_ands h

or_as : {usual : ℕ} (shape : Shape) {f : Formula} {b : ℕ} {text : List ℕ} → Spells usual or_units f b text
    → Spells usual shape f (counted_if (or_bracketed shape) b) (bracketed_if (or_bracketed shape) text)
unfolding or_bracketed bracketed_if counted_if joined ascii
or_as one_unit h = spells_bracketed 0 0 h
or_as and_units h = spells_unit (spells_bracketed 0 0 h)
or_as or_units h = h

-- ---- formulas

small_number : (t : ℕ) → ltb most_ticks t ≡ false → t < 1000
unfolding most_ticks
small_number t e = omega (arith, ltb-false 254 t e)

-- Every formula within the limits is spelled by the rules in each shape.
spells_as : {usual : ℕ} (marks : ℕ) → marks ≤ 100 → (shape : Shape) (f : Formula) → over_number f ≡ false → over_mark marks f ≡ false
    → Spells usual shape f (brackets_in shape f) (text_as shape f)
unfolding text_as brackets_in over_number over_mark joined ascii
spells_as marks le shape (constant true) numbers propositions = unit_as shape spells_true
spells_as marks le shape (constant false) numbers propositions = unit_as shape spells_false
spells_as marks le shape (proposition wanted k) numbers propositions =
    let d = numbered k (omega (arith, leb-false marks k propositions)) in
    unit_as shape (spells_mark wanted d.written (d.few (omega (arith, leb-false marks k propositions))))
spells_as marks le shape (and f g) numbers propositions =
    and_as shape
    (spells_and 1 1 (spells_as marks le and_units f (or_fails_left (over_number f) (over_number g) numbers) (or_fails_left (over_mark marks f) (over_mark marks g) propositions))
    (spells_as marks le one_unit g (or_fails_right (over_number f) (over_number g) numbers) (or_fails_right (over_mark marks f) (over_mark marks g) propositions)))
spells_as marks le shape (or f g) numbers propositions =
    or_as shape
    (spells_or 1 1 (spells_as marks le or_units f (or_fails_left (over_number f) (over_number g) numbers) (or_fails_left (over_mark marks f) (over_mark marks g) propositions))
    (spells_as marks le and_units g (or_fails_right (over_number f) (over_number g) numbers) (or_fails_right (over_mark marks f) (over_mark marks g) propositions)))
spells_as marks le shape (next c t g) numbers propositions =
    let d = numbered t.0 (small_number t.0 (or_fails_left (ltb most_ticks t.0) (over_number g) numbers)) in
    unit_as shape
    (spells_next 1 c 1 1 d.written (spells_as marks le one_unit g (or_fails_right (ltb most_ticks t.0) (over_number g) numbers) propositions))
spells_as marks le shape (always_for t g) numbers propositions =
    let d = numbered t.0 (small_number t.0 (or_fails_left (ltb most_ticks t.0) (over_number g) numbers)) in
    unit_as shape
    (spells_always 1 (number_written 1 d.written)
    (spells_as marks le one_unit g (or_fails_right (ltb most_ticks t.0) (over_number g) numbers) propositions))
spells_as marks le shape (until t f g) numbers propositions =
    let d = numbered t.0 (small_number t.0 (or_fails_left (ltb most_ticks t.0) (over_number f || over_number g) numbers)) in
    let parts = or_fails_right (ltb most_ticks t.0) (over_number f || over_number g) numbers in
    unit_as shape
    (spells_until 1 0 0 1 0 (number_written 1 d.written)
    (spells_as marks le or_units f (or_fails_left (over_number f) (over_number g) parts) (or_fails_left (over_mark marks f) (over_mark marks g) propositions))
    (spells_as marks le or_units g (or_fails_right (over_number f) (over_number g) parts) (or_fails_right (over_mark marks f) (over_mark marks g) propositions)))

pub formula_spells : {usual marks : ℕ} → marks ≤ 100 → (f : Formula) → over_number f ≡ false → over_mark marks f ≡ false → Spells usual or_units f (formula_brackets f) (formula_text f)
unfolding formula_text formula_brackets
formula_spells {marks = marks} le f numbers propositions = spells_as marks le or_units f numbers propositions

-- Every book within the limits is spelled by the rules.
pub book_spells : {usual marks : ℕ} → marks ≤ 100 → (book : Book) → ((rule : Rule) → Memᴰ rule book → over_number rule.formula ≡ false)
    → ((rule : Rule) → Memᴰ rule book → over_mark marks rule.formula ≡ false) → SpellsBook usual book (book_brackets book) (book_text book)
unfolding book_text book_brackets ascii
book_spells le [] numbers propositions = spells_none
book_spells le (rule ∷ book) numbers propositions =
    spells_more
    (spells_line rule.form 0
    (formula_spells le rule.formula (numbers rule (Memᴰ.head refl)) (propositions rule (Memᴰ.head refl))))
    (book_spells le book (λ other m. numbers other (Memᴰ.tail m)) (λ other m. propositions other (Memᴰ.tail m)))
