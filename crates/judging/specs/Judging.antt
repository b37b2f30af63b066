-- 02, item 4: whether a formula is kept at a position of a run, as a test that can be computed. Proved equal to the logic (`proofs/Judged.antt`);
-- no progression is in it.
use Rattle.std.specs.Prelude.{ℕ, Bool, true, ◌&&◌, ◌||◌, not, List, [], ◌∷◌, length, drop}
use Rattle.std.specs.Bool.{beq}
use Rattle.base.specs.Choice.{pick}
use Rattle.base.specs.Lists.{every, below, place_of}
use Rattle.logic.specs.Time.{minus, at_most, position}
use Rattle.logic.specs.Tower.{Tower}
use Rattle.logic.specs.Book.{Formula, constant, proposition, and, or, next, always_for, until, compares, Form, at_start, everywhere, Book}
use Rattle.logic.specs.Runs.{Moment, Trace, trace, duration}
use Rattle.logic.specs.declared.Tick.{Tick}
use Rattle.logic.specs.declared.Position.{Position}

-- ---- formulas; a run from one of its positions on is what is left of it there

-- the part passes its test at every position that the time left still holds
unfoldable pub passes_for : Tower → (Trace → Bool) → Trace → Tick → Bool
passes_for tower g [] t = true
passes_for tower g (m ∷ run) t =
    g (m ∷ run) && pick (at_most (duration tower m) t) (λ _. passes_for tower g run (minus t (duration tower m))) (λ _. true)

-- the second part passes in time and the first part at every position before; or the run ends in time and the first part passes to its end
unfoldable pub passes_until : Tower → (Trace → Bool) → (Trace → Bool) → Trace → Tick → Bool
passes_until tower f g [] t = true
passes_until tower f g (m ∷ run) t =
    g (m ∷ run) || (f (m ∷ run) && (at_most (duration tower m) t && passes_until tower f g run (minus t (duration tower m))))

-- a test of the first action of what is left of a run; it passes where nothing is left
unfoldable pub if_left : Trace → (Moment → Trace → Bool) → Bool
if_left [] test = true
if_left (m ∷ run) test = test m run

-- the formula is kept at the first position of what is left of a run; where nothing is left every formula is
unfoldable pub judged : Tower → Formula → Trace → Bool
judged tower (constant b) = λ run. if_left run (λ m rest. b)
judged tower (proposition wanted k) = λ run. if_left run (λ m rest. beq (tower.marked m.state k) wanted)
judged tower (and f g) = λ run. judged tower f run && judged tower g run
judged tower (or f g) = λ run. judged tower f run || judged tower g run
judged tower (next c t g) = λ run. if_left run (λ m rest. compares c (duration tower m) t && judged tower g rest)
judged tower (always_for t g) = λ run. passes_for tower (judged tower g) run t
judged tower (until t f g) = λ run. passes_until tower (judged tower f) (judged tower g) run t

-- the formula is kept at position i of a run
unfoldable pub judged_at : Tower → Trace → Formula → Position → Bool
judged_at tower run f i = judged tower f (drop i.0 run)

-- ---- rules

-- the lowest position where the formula is not kept; the length of the run if it is kept everywhere
unfoldable pub lowest_position : Tower → Trace → Formula → ℕ
lowest_position tower run f = place_of (λ i. not (judged_at tower run f (position i))) (below (length run))

-- the run keeps the rule
unfoldable pub judged_rule : Tower → Trace → Form → Formula → Bool
judged_rule tower run everywhere f = every (λ i. judged_at tower run f (position i)) (below (length run))
judged_rule tower run at_start f = judged_at tower run f (position 0)

-- the run breaks some rule of the book
unfoldable pub judged_broken : Tower → Book → List ℕ → Bool
judged_broken tower book w = not (every (λ rule. judged_rule tower (trace tower w) rule.form rule.formula) book)

-- the lowest line that the run breaks; the number of lines if it breaks none
unfoldable pub lowest_line : Tower → Book → List ℕ → ℕ
lowest_line tower book w = place_of (λ rule. not (judged_rule tower (trace tower w) rule.form rule.formula)) book

-- where the run breaks a rule: an `always` rule at the lowest position where it isn't kept, a `start` rule at 0
unfoldable pub broken_place : Tower → Trace → Form → Formula → Position
broken_place tower run everywhere f = position (lowest_position tower run f)
broken_place tower run at_start f = position 0
