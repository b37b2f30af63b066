-- 01, 'Runs and broken rules': runs, positions, T(i), kept and broken. The logic is that of document 004, with whole ticks.
use Rattle.std.specs.Prelude.{ℕ, ◌<◌, ◌≡◌, ◌⊎◌, true, length, get_or, take}
use Rattle.std.specs.Prelude.{unwrap_or}
use Rattle.std.specs.Prelude.{Option, Some}
use Rattle.base.specs.Options.{bind}
use mathlib.Core.List.{List, [], ◌∷◌, map, Memᴰ}
use Rattle.logic.specs.Time.{ticks, plus, AtMost, position, after, From, Before}
use Rattle.logic.specs.Tower.{Tower}
use Rattle.logic.specs.Book.{Formula, constant, proposition, and, or, next, always_for, until, compares, Form, at_start, everywhere, Rule, Book}
use Rattle.logic.specs.declared.Tick.{Tick}
use Rattle.logic.specs.declared.Position.{Position}

-- where a list of actions leads from x by the given moves; nothing once a move is not there. Towers, tables and pairs all move so.
unfoldable pub leads : {X : Type 0} → (X → ℕ → Option X) → X → List ℕ → Option X
leads move x [] = Some x
leads move x (a ∷ w) = bind (move x a) (λ y. leads move y w)

-- A run is a list of actions, each enabled.
unfoldable pub IsRun : Tower → List ℕ → Type 0
IsRun tower w = (x : ℕ) × (leads tower.target tower.start w ≡ Some x)

-- One action of a run with the state that it leaves.
pub record Moment : Type 0 where
  pub state : ℕ
  pub action : ℕ

abbrev pub Trace : Type 0
Trace = List Moment

-- the actions of a run from state x, each with the state that it leaves
unfoldable pub trace_from : Tower → ℕ → List ℕ → Trace
trace_from tower x [] = []
trace_from tower x (a ∷ w) = record { state = x; action = a } ∷ trace_from tower (unwrap_or (tower.target x a) x) w

unfoldable pub trace : Tower → List ℕ → Trace
trace tower w = trace_from tower tower.start w

-- the action that leaves position i, with the state at i
unfoldable pub moment : Trace → Position → Moment
moment run i = get_or run i.0 (record { state = 0; action = 0 })

-- In a run of n actions, positions below n are judged.
unfoldable pub Judged : Trace → Position → Type 0
Judged run i = i.0 < length run

-- position n
unfoldable pub end : Trace → Position
end run = position (length run)

-- the length of an action of a run
unfoldable pub duration : Tower → Moment → Tick
duration tower m = tower.step_length m.state m.action

-- the sum of the lengths
unfoldable pub sum_ticks : List Tick → Tick
sum_ticks [] = ticks 0
sum_ticks (d ∷ ds) = plus d (sum_ticks ds)

-- T(i): position i follows i actions, and T(i) is the sum of their lengths.
unfoldable pub time_at : Tower → Trace → Position → Tick
time_at tower run i = sum_ticks (map (duration tower) (take i.0 run))

-- T(j) ≤ T(i) + t
unfoldable pub InTime : Tower → Trace → Position → Position → Tick → Type 0
InTime tower run i j t = AtMost (time_at tower run j) (plus (time_at tower run i) t)

-- A formula is kept at judged position i.
unfoldable pub KeptAt : Tower → Trace → Formula → Position → Type 0
KeptAt tower run (constant b) i = b ≡ true
KeptAt tower run (proposition wanted k) i = tower.marked (moment run i).state k ≡ wanted
KeptAt tower run (and f g) i = KeptAt tower run f i × KeptAt tower run g i
KeptAt tower run (or f g) i = KeptAt tower run f i ⊎ KeptAt tower run g i
KeptAt tower run (next c t g) i =
    (compares c (duration tower (moment run i)) t ≡ true) × (Judged run (after i) → KeptAt tower run g (after i))
KeptAt tower run (always_for t g) i = (j : Position) → From i j → Judged run j → InTime tower run i j t → KeptAt tower run g j
KeptAt tower run (until t f g) i =
    ((j : Position) × From i j × Judged run j × KeptAt tower run g j × InTime tower run i j t
    × ((k : Position) → From i k → Before k j → KeptAt tower run f k))
    ⊎ (((k : Position) → From i k → Judged run k → KeptAt tower run f k) × InTime tower run i (end run) t)

-- A formula is kept at position i: at position n every formula is.
unfoldable pub Kept : Tower → Trace → Formula → Position → Type 0
Kept tower run f i = Judged run i → KeptAt tower run f i

-- A rule is kept: an `always` rule at every position, a `start` rule at position 0.
unfoldable pub KeptRule : Tower → Trace → Form → Formula → Type 0
KeptRule tower run everywhere f = (i : Position) → Kept tower run f i
KeptRule tower run at_start f = Kept tower run f (position 0)

-- Every rule of the book is kept along the run.
unfoldable pub Unbroken : Tower → Book → List ℕ → Type 0
Unbroken tower book w = (rule : Rule) → Memᴰ rule book → KeptRule tower (trace tower w) rule.form rule.formula

-- A run is broken if some rule isn't kept.
unfoldable pub Broken : Tower → Book → List ℕ → Type 0
Broken tower book w = ¬ Unbroken tower book w
