-- What the readers of formulas answer and leave in the area.
use Rattle.std.specs.Prelude.{ℕ, suc, ◌+◌, ◌-◌, ◌*◌, ◌<◌, max, ◌≡◌, Bool, List, eqb, length}
use Rattle.std.specs.Prelude.{Option, None, Some}
use Rattle.base.specs.Choice.{pick}
use Rattle.base.specs.Text.{byte}
use Rattle.base.specs.Recursion.{run}
use Rattle.logic.specs.Time.{ticks}
use Rattle.logic.specs.Book.{Formula, until, within}
use Rattle.reading.specs.Tokens.{skip, mark_at}
use Rattle.reading.specs.Grammar.{Parsed, bad, got, onward, behind, Level, or_level, and_level, unit_level, or_rest, and_rest, Connective, connective, connectives, bound_at, with_bound, two_parts, marked_unit, read_step, calls_left}
use Rattle.book_nodes.specs.State.{State, state_of, usual_in, absorb, bounded_node, and_node, or_node}

-- what one of the readers reads at a position
unfoldable pub parse : ℕ → List ℕ → Level → ℕ → Parsed
parse usual s level p = run (calls_left s) (λ _. bad) (read_step usual s) (record { level = level; place = p })

-- The answer of a reader that should read x, where there is room for so many brackets: none if that is not of the grammar, and then
-- nothing is said of the area; else the position after it, and the formula is absorbed.
pub data Reads (x : Parsed) (room : ℕ) (a z : List ℕ) : Option ℕ → Type 0 where
  not_of : x ≡ bad → Reads x room a z None
  is_read : (f : Formula) (brackets q : ℕ) → x ≡ got f brackets q → state_of z ≡ absorb room brackets f (state_of a) → Reads x room a z (Some q)

-- The two connectives that join what stands on both sides, and for each: the whole, what is joined, what is still to be joined, and its byte.
pub data Joint : Type 0 where
  by_or by_and : Joint

abbrev pub whole_of : Joint → Level
whole_of by_or = or_level
whole_of by_and = and_level

abbrev pub operand_of : Joint → Level
operand_of by_or = and_level
operand_of by_and = unit_level

abbrev pub rest_of : Joint → Formula → ℕ → Level
rest_of by_or f b = or_rest f b
rest_of by_and f b = and_rest f b

abbrev pub sign_of : Joint → ℕ
sign_of by_or = 124
sign_of by_and = 38

abbrev pub node_of : Joint → ℕ → ℕ → State → State
node_of by_or first t st = or_node first t st
node_of by_and first t st = and_node first t st

-- What was joined between two turns of a loop: if the area held a formula absorbed by some state where the loop began, it
-- now holds what was joined to it, and the rest is still to be joined.
pub record Joins (j : Joint) (s : List ℕ) (at room p : ℕ) (a : List ℕ) (q : ℕ) (z : List ℕ) : Type 0 where
  pub ahead : at < q
  pub long : length z ≡ length a
  pub from : (st : State) (f : Formula) (b : ℕ) → state_of a ≡ absorb room b f st
      → (g : Formula) × (c : ℕ) × (parse st.usual s (rest_of j f b) p ≡ parse st.usual s (rest_of j g c) q) × (state_of z ≡ absorb room c g st)

-- the bytes left, with a level number: falls at every call
abbrev pub left_at : List ℕ → ℕ → ℕ → ℕ
left_at s level p = 10 * (suc (length s) - p) + level

-- the code of the node of a mark
unfoldable pub mark_code : Bool → ℕ
mark_code wanted = pick wanted (λ _. 3) (λ _. 2)

-- What reading a mark answers and leaves, wherever there is room for any number of brackets.
pub record Marks (r : Option ℕ) (wanted : Bool) (s : List ℕ) (p : ℕ) (a z : List ℕ) : Type 0 where
  pub reads : (room : ℕ) → Reads (marked_unit (mark_at wanted s p)) room a z r

-- a connective with a bound, whose letter is at p
unfoldable pub with_connective : ℕ → List ℕ → ℕ → Option Connective → Parsed
with_connective usual s p None = bad
with_connective usual s p (Some c) = with_bound s c (bound_at usual c.bound s (p + 1)) (parse usual s)

-- what follows a connective that begins with byte b at p
unfoldable pub led_at : ℕ → List ℕ → ℕ → ℕ → Parsed
led_at usual s p b = with_connective usual s p (connective connectives b)

-- What it answers and leaves, if the byte is neither `T` nor `F`.
pub record LetterLeads (r : Option ℕ) (b : ℕ) (s : List ℕ) (p room : ℕ) (a z : List ℕ) : Type 0 where
  pub reads : Reads (led_at (usual_in a) s p b) room a z r

-- the code of the node of `A`, or of `N` with the comparison of this code
unfoldable pub one_code : ℕ → ℕ → ℕ
one_code b code = pick (eqb b (byte "A")) (λ _. 11) (λ _. code)

-- What reading the part of a connective with one part answers, and that the node with this code and bound is put behind it.
pub data ReadsOne (x : Parsed) (code amount room : ℕ) (a z : List ℕ) : Option ℕ → Type 0 where
  not_one : x ≡ bad → ReadsOne x code amount room a z None
  one_read : (g : Formula) (brackets q : ℕ) → x ≡ got g brackets q → state_of z ≡ bounded_node code amount 0 (absorb room brackets g (state_of a))
      → ReadsOne x code amount room a z (Some q)

-- the part of `E t g` behind its bound, and the formula
unfoldable pub within_at : ℕ → List ℕ → ℕ → ℕ → Parsed
within_at usual s p amount = onward (parse usual s unit_level (skip s p)) (λ g brackets q. got (within (ticks amount) g) brackets q)

-- the parts of `U` behind its bound, and the formula
unfoldable pub until_at : ℕ → List ℕ → ℕ → ℕ → Parsed
until_at usual s p amount = two_parts s p (parse usual s) (λ f g. until (ticks amount) f g)

-- from the comma of `U` on, its first part and the brackets open in that read already
unfoldable pub second_at : ℕ → List ℕ → ℕ → ℕ → Formula → ℕ → Parsed
second_at usual s p amount f b =
    behind s p (byte ",") (λ u.
    onward (parse usual s or_level (skip s u)) (λ g c v. behind s v (byte ")") (λ w. got (until (ticks amount) f g) (suc (max b c)) w)))

-- The answer of reading that, from the state in which the first part was absorbed.
pub data Ended (x : Parsed) (room : ℕ) (st : State) (z : List ℕ) : Option ℕ → Type 0 where
  not_ended : x ≡ bad → Ended x room st z None
  is_ended : (f : Formula) (brackets q : ℕ) → x ≡ got f (suc brackets) q → state_of z ≡ absorb room brackets f st → Ended x room st z (Some q)

pub record Seconds (r : Option ℕ) (s : List ℕ) (p amount room : ℕ) (a z : List ℕ) : Type 0 where
  pub from : (st : State) (f : Formula) (b : ℕ) → state_of a ≡ absorb room b f st → Ended (second_at st.usual s p amount f b) room st z r
