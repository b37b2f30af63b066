-- What callers need: a book that was read is held within its limits, and a state of a tower file has the marks of its mask.
use Prim.Native.Nat.{ℕ, ◌≤◌}
use native.Mathlib.Omega.{arith}
use mathlib.Core.Path.{◌≡◌, refl}
use mathlib.Core.Bool.{false}
use mathlib.Core.List.{List, Memᴰ}
use borrow.Author.Tests.{leb-false, lt-leb}
use Rattle.std.specs.Prelude.{Ok}
use Rattle.base.proofs.Lists.{or_fails_left, or_fails_right, or_neither}
use Rattle.logic.specs.Tower.{most_marks}
use Rattle.logic.specs.Book.{Formula, constant, proposition, and, or, next, always_for, until, Rule, Book}
use Rattle.reading.specs.BookArea.{HoldsBook}
use Rattle.reading.specs.BookReading.{over_mark, read_book}
use Rattle.reading.proofs.BookLines.{each_rule, book_fit}
use Rattle.book_progression.specs.NodeBytes.{HeldBook}
use Rattle.book_progression.proofs.BookHeld.{Low}

-- ---- a book that was read

-- fewer marks allow fewer formulas
fewer_marks : (marks more : ℕ) → marks ≤ more → (f : Formula) → over_mark marks f ≡ false → over_mark more f ≡ false
unfolding over_mark
fewer_marks marks more le (constant b) e = refl
fewer_marks marks more le (proposition w k) e = lt-leb more k (omega (arith, leb-false marks k e))
fewer_marks marks more le (and f g) e =
    or_neither (fewer_marks marks more le f (or_fails_left (over_mark marks f) (over_mark marks g) e))
    (fewer_marks marks more le g (or_fails_right (over_mark marks f) (over_mark marks g) e))
fewer_marks marks more le (or f g) e =
    or_neither (fewer_marks marks more le f (or_fails_left (over_mark marks f) (over_mark marks g) e))
    (fewer_marks marks more le g (or_fails_right (over_mark marks f) (over_mark marks g) e))
fewer_marks marks more le (next c t g) e = fewer_marks marks more le g e
fewer_marks marks more le (always_for t g) e = fewer_marks marks more le g e
fewer_marks marks more le (until t f g) e =
    or_neither (fewer_marks marks more le f (or_fails_left (over_mark marks f) (over_mark marks g) e))
    (fewer_marks marks more le g (or_fails_right (over_mark marks f) (over_mark marks g) e))

-- the numbers and marks of a book that was read
book_low : (marks : ℕ) → marks ≤ most_marks → (text : List ℕ) (book : Book) → read_book marks text ≡ Ok book → (rule : Rule) → Memᴰ rule book
    → Low rule.formula
book_low marks few text book e =
    each_rule (λ rule. Low rule.formula) marks
    (λ before rule well. record { numbers = well.numbers; marks = fewer_marks marks most_marks few rule.formula well.propositions }) text book e

-- An area that holds a book which was read holds it within the limits.
pub held_read : (marks : ℕ) (text area : List ℕ) (book : Book) → marks ≤ most_marks → read_book marks text ≡ Ok book → HoldsBook area book
    → HeldBook area book
held_read marks text area book few e holds =
    record {
      holds = holds;
      fit = book_fit marks text book e;
      numbers = λ rule m. (book_low marks few text book e rule m).numbers;
      marks = λ rule m. (book_low marks few text book e rule m).marks;
    }
