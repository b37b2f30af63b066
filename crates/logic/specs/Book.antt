-- 01, 'Rule book': formulas, the rules of a book, and the nodes. How a book is written down is the reader's matter.
use Rattle.std.specs.Prelude.{ℕ, ◌+◌, ◌-◌, Bool, true, false, ◌&&◌, ◌||◌, not, ◌≡◌, length, leb, ltb}
use mathlib.Core.List.{List, [], ◌∷◌, ◌++◌, map, Memᴰ}
use Rattle.base.specs.Lists.{joined}
use Rattle.logic.specs.declared.Tick.{Tick}

-- The comparison of a next: of `<=` `<` `>=` `>`
pub data Comparison : Type 0 where
  no_more less no_less more : Comparison

-- 'd is ~ t'
unfoldable pub compares : Comparison → Tick → Tick → Bool
compares no_more d t = leb d.0 t.0
compares less d t = ltb d.0 t.0
compares no_less d t = leb t.0 d.0
compares more d t = ltb t.0 d.0

-- A formula of the metric temporal logic in positive normal form.
pub data Formula : Type 0 where
  -- `T` and `F`
  constant : Bool → Formula
  -- `p` and a number: the mark is on the state; with `!` before it, `proposition false`: it is not
  proposition : (wanted : Bool) (mark : ℕ) → Formula
  -- `&` and `|`
  and or : Formula → Formula → Formula
  -- `N ~t g`
  next : Comparison → Tick → Formula → Formula
  -- `A t g`
  always_for : Tick → Formula → Formula
  -- `U t (f, g)`
  until : Tick → Formula → Formula → Formula

-- `E t g` means `U t (T, g)`
unfoldable pub within : Tick → Formula → Formula
within t g = until t (constant true) g

-- The forms of line a book may have: the rule holds at position 0, or at every position.
pub data Form : Type 0 where
  at_start everywhere : Form

-- One line of a book.
pub record Rule : Type 0 where
  pub form : Form
  pub formula : Formula

abbrev pub Book : Type 0
Book = List Rule

-- A timed formula holds N, A, E or U.
unfoldable pub timed : Formula → Bool
timed (constant b) = false
timed (proposition w k) = false
timed (and f g) = timed f || timed g
timed (or f g) = timed f || timed g
timed (next c t g) = true
timed (always_for t g) = true
timed (until t f g) = true

-- The second part of U is not timed (02, item 3).
unfoldable pub timed_right : Formula → Bool
timed_right (constant b) = true
timed_right (proposition w k) = true
timed_right (and f g) = timed_right f && timed_right g
timed_right (or f g) = timed_right f && timed_right g
timed_right (next c t g) = timed_right g
timed_right (always_for t g) = timed_right g
timed_right (until t f g) = not (timed g) && (timed_right f && timed_right g)

-- Every rule of the book has its timed formulas where they may be.
unfoldable pub FitBook : Book → Type 0
FitBook book = (rule : Rule) → Memᴰ rule book → timed_right rule.formula ≡ true

-- Nodes by example. `always !p0 | E 3 p1` has five, in reading order with operands first:
--   0: `!p0`   1: `T`   2: `p1`   3: `U 3 (T, p1)`, which `E 3 p1` means   4: the whole, a `|`
-- A second line of five parts has the numbers 5 to 9. Node 4 has its second part in node 3, the one before it; node 3 has three parts, so
-- the first part of node 4 is node 4 - 1 - 3, which is 0.

-- The parts of a formula are its nodes, in reading order with operands first; the formula itself is the last.
unfoldable pub parts : Formula → List Formula
parts (constant b) = constant b ∷ []
parts (proposition w k) = proposition w k ∷ []
parts (and f g) = parts f ++ (parts g ++ (and f g ∷ []))
parts (or f g) = parts f ++ (parts g ++ (or f g ∷ []))
parts (next c t g) = parts g ++ (next c t g ∷ [])
parts (always_for t g) = parts g ++ (always_for t g ∷ [])
parts (until t f g) = parts f ++ (parts g ++ (until t f g ∷ []))

-- how many nodes a formula has
unfoldable pub size : Formula → ℕ
size f = length (parts f)

-- the nodes of a book, counted over the whole of it
unfoldable pub nodes : Book → List Formula
nodes book = joined (map (λ rule. parts rule.formula) book)

-- Where node k is a formula of two parts, the second part is the node before it, and the first stands before all of the second's.
-- A formula of one part has it in the node before.
unfoldable pub second_part : ℕ → ℕ
second_part k = k - 1

unfoldable pub first_part : ℕ → Formula → ℕ
first_part k second = k - 1 - size second

-- the number of a formula whose nodes begin with number n
unfoldable pub root : ℕ → Formula → ℕ
root n f = n + size f - 1
