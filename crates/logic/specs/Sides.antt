-- The books of 01: there at most one side of `|` may be timed. 02, item 3: 'Books without two timed sides give the bytes they gave.'
use Rattle.std.specs.Prelude.{◌≡◌, Bool, true, ◌&&◌, not}
use mathlib.Core.List.{Memᴰ}
use Rattle.logic.specs.Book.{Formula, constant, proposition, and, or, next, always_for, until, timed, Rule, Book}

-- No `|` has two timed sides.
unfoldable pub one_sided : Formula → Bool
one_sided (constant b) = true
one_sided (proposition w k) = true
one_sided (and f g) = one_sided f && one_sided g
one_sided (or f g) = not (timed f && timed g) && (one_sided f && one_sided g)
one_sided (next c t g) = one_sided g
one_sided (always_for t g) = one_sided g
one_sided (until t f g) = one_sided f && one_sided g

-- Every rule of the book is so.
unfoldable pub OneSided : Book → Type 0
OneSided book = (rule : Rule) → Memᴰ rule book → one_sided rule.formula ≡ true
