-- 01, 'Rule book': the grammar. Or-level, and_level and unit readers call each other; `read_step` is one call of any of them.
-- `usual` is the bound in ticks where a number is left out after A, E or U.
use Rattle.std.specs.Prelude.{ℕ, suc, ◌+◌, ◌-◌, ◌*◌, max, true, false, List, [], ◌∷◌, length, eqb}
use Rattle.std.specs.Prelude.{Option, None, Some}
use Rattle.base.specs.Choice.{pick}
use Rattle.base.specs.Text.{byte}
use Rattle.base.specs.Bytes.{byte_at}
use Rattle.base.specs.Recursion.{run}
use Rattle.logic.specs.Time.{ticks}
use Rattle.logic.specs.Book.{Comparison, no_more, Formula, constant, and, or, next, always_for, until, within}
use Rattle.logic.specs.declared.Tick.{Tick}
use Rattle.reading.specs.Tokens.{stands, skip, Token, number_token, mark_token, comparison_token}

-- What may follow a connective: nothing, a comparison and a number, or a number that may be left out.
pub data Bound : Type 0 where
  no_bound compared optional : Bound

pub record Connective : Type 0 where
  pub letter : ℕ
  pub parts : ℕ
  pub bound : Bound

-- The connectives stand in one fixed table: byte, number of parts, bound.
unfoldable pub connectives : List Connective
connectives =
    record { letter = byte "T"; parts = 0; bound = no_bound }
    ∷ record { letter = byte "F"; parts = 0; bound = no_bound }
    ∷ record { letter = byte "p"; parts = 0; bound = no_bound }
    ∷ record { letter = byte "&"; parts = 2; bound = no_bound }
    ∷ record { letter = byte "|"; parts = 2; bound = no_bound }
    ∷ record { letter = byte "N"; parts = 1; bound = compared }
    ∷ record { letter = byte "A"; parts = 1; bound = optional }
    ∷ record { letter = byte "E"; parts = 1; bound = optional }
    ∷ record { letter = byte "U"; parts = 2; bound = optional }
    ∷ []

-- the connective with this letter
unfoldable pub connective : List Connective → ℕ → Option Connective
connective [] b = None
connective (c ∷ rows) b = pick (eqb c.letter b) (λ _. Some c) (λ _. connective rows b)

-- What reading at a position gives: nothing of the grammar, or a formula, how many brackets stand open in it at most, and the position after it.
pub data Parsed : Type 0 where
  bad : Parsed
  got : Formula → (brackets next : ℕ) → Parsed

-- go on with what was read
unfoldable pub onward : Parsed → (Formula → ℕ → ℕ → Parsed) → Parsed
onward bad go = bad
onward (got f brackets p) go = go f brackets p

-- go on behind byte b, spaces before it passed over, if it stands there
unfoldable pub behind : List ℕ → ℕ → ℕ → (ℕ → Parsed) → Parsed
behind s p b go = pick (stands s (skip s p) b) (λ _. go (skip s p + 1)) (λ _. bad)

-- A bound that was read.
pub record BoundRead : Type 0 where
  pub comparison : Comparison
  pub amount : Tick
  pub next : ℕ

-- a number token as a bound
unfoldable pub bounded : Comparison → Option (Token ℕ) → Option BoundRead
bounded c None = None
bounded c (Some t) = Some (record { comparison = c; amount = ticks t.said; next = t.next })

-- behind a comparison, spaces passed over, its number
unfoldable pub compared_with : List ℕ → Option (Token Comparison) → Option BoundRead
compared_with s None = None
compared_with s (Some c) = bounded c.said (number_token s (skip s c.next))

-- the number at q, or the usual bound where none is written; then nothing of the text is used
unfoldable pub number_or_usual : ℕ → ℕ → Option (Token ℕ) → Option BoundRead
number_or_usual usual p None = Some (record { comparison = no_more; amount = ticks usual; next = p })
number_or_usual usual p (Some t) = bounded no_more (Some t)

-- the bound behind a connective's letter, which ends at p
unfoldable pub bound_at : ℕ → Bound → List ℕ → ℕ → Option BoundRead
bound_at usual no_bound s p = None
bound_at usual compared s p = compared_with s (comparison_token s (skip s p))
bound_at usual optional s p = number_or_usual usual p (number_token s (skip s p))

-- the formula of a connective with a bound: of one part, or of two
unfoldable pub formula_one : ℕ → BoundRead → Formula → Formula
formula_one letter b g =
    pick (eqb letter (byte "N"))
    (λ _. next b.comparison b.amount g)
    (λ _. pick (eqb letter (byte "A")) (λ _. always_for b.amount g) (λ _. within b.amount g))

unfoldable pub formula_two : BoundRead → Formula → Formula → Formula
formula_two b f g = until b.amount f g

-- What a reader is to read: a formula whose units are joined by `|` and `&`, one joined by `&` alone, or a unit;
-- or, with a formula read already and the brackets open in it, what `|` or `&` still joins to it.
pub data Level : Type 0 where
  or_level and_level unit_level : Level
  or_rest and_rest : Formula → ℕ → Level

-- A call of a reader: what to read, and where.
pub record Call : Type 0 where
  pub level : Level
  pub place : ℕ

abbrev pub Reader : Type 0
Reader = Level → ℕ → Parsed

-- join what follows byte b to f, from the left: `join` is `or` or `and`, `operand` reads what is joined, `rest` goes on
unfoldable pub joining : List ℕ → ℕ → Formula → ℕ → ℕ → (Formula → Formula → Formula) → (ℕ → Parsed) → (Formula → ℕ → ℕ → Parsed) → Parsed
joining s b f brackets p join operand rest =
    pick (stands s (skip s p) b)
    (λ _. onward (operand (skip s (skip s p + 1))) (λ g more q. rest (join f g) (max brackets more) q))
    (λ _. got f brackets p)

-- a formula in brackets, the opening one at p
unfoldable pub bracketed : List ℕ → ℕ → Reader → Parsed
bracketed s p read =
    onward (read or_level (skip s (p + 1))) (λ f brackets q. behind s q (byte ")") (λ r. got f (suc brackets) r))

-- the two parts of U, `(f, g)`, from p on
unfoldable pub two_parts : List ℕ → ℕ → Reader → (Formula → Formula → Formula) → Parsed
two_parts s p read make =
    behind s p (byte "(") (λ q.
    onward (read or_level (skip s q)) (λ f b r.
    behind s r (byte ",") (λ u.
    onward (read or_level (skip s u)) (λ g c v.
    behind s v (byte ")") (λ w. got (make f g) (suc (max b c)) w)))))

-- the parts of a connective whose bound was read
unfoldable pub with_bound : List ℕ → Connective → Option BoundRead → Reader → Parsed
with_bound s c None read = bad
with_bound s c (Some b) read =
    pick (eqb c.parts 1)
    (λ _. onward (read unit_level (skip s b.next)) (λ g brackets q. got (formula_one c.letter b g) brackets q))
    (λ _. two_parts s b.next read (formula_two b))

-- a unit that is led by the letter of a connective at p
unfoldable pub led : ℕ → List ℕ → ℕ → Option Connective → Reader → Parsed
led usual s p None read = bad
led usual s p (Some c) read =
    pick (stands s p (byte "T")) (λ _. got (constant true) 0 (p + 1)) (λ _.
    pick (stands s p (byte "F")) (λ _. got (constant false) 0 (p + 1)) (λ _.
    with_bound s c (bound_at usual c.bound s (p + 1)) read))

-- a mark, if one stands there
unfoldable pub marked_unit : Option (Token Formula) → Parsed
marked_unit None = bad
marked_unit (Some t) = got t.said 0 t.next

-- a unit at p: a formula in brackets, a mark, or what a connective leads
unfoldable pub unit_at : ℕ → List ℕ → ℕ → Reader → Parsed
unit_at usual s p read =
    pick (stands s p (byte "(")) (λ _. bracketed s p read) (λ _.
    pick (stands s p (byte "!")) (λ _. marked_unit (mark_token s p)) (λ _.
    pick (stands s p (byte "p")) (λ _. marked_unit (mark_token s p)) (λ _.
    led usual s p (connective connectives (byte_at s p)) read)))

-- one call of a reader, with the calls that it makes as a parameter
unfoldable pub read_level : ℕ → List ℕ → Level → ℕ → Reader → Parsed
read_level usual s or_level p read = onward (read and_level p) (λ f b q. read (or_rest f b) q)
read_level usual s (or_rest f b) p read = joining s (byte "|") f b p or (read and_level) (λ g c q. read (or_rest g c) q)
read_level usual s and_level p read = onward (read unit_level p) (λ f b q. read (and_rest f b) q)
read_level usual s (and_rest f b) p read = joining s (byte "&") f b p and (read unit_level) (λ g c q. read (and_rest g c) q)
read_level usual s unit_level p read = unit_at usual s p read

unfoldable pub read_step : ℕ → List ℕ → Call → (Call → Parsed) → Parsed
read_step usual s call read = read_level usual s call.level call.place (λ level p. read (record { level = level; place = p }))

-- the level's number: an or_level call makes an and_level call at the same place, and that a unit call
unfoldable pub rank : Level → ℕ
rank unit_level = 0
rank (and_rest f b) = 1
rank and_level = 1
rank (or_rest f b) = 2
rank or_level = 2

-- the bytes left, with the level number: falls at every call
unfoldable pub calls_left : List ℕ → Call → ℕ
calls_left s call = 3 * (suc (length s) - call.place) + rank call.level

-- the formula at position p
unfoldable pub formula_at : ℕ → List ℕ → ℕ → Parsed
formula_at usual s p = run (calls_left s) (λ _. bad) (read_step usual s) (record { level = or_level; place = p })
