-- 01, 'Runs and broken rules', 'Positions count actions and ticks count time, and the two are never added or compared':
-- the operations of each, and none that takes both.
use Rattle.std.specs.Prelude.{ℕ, suc, ◌+◌, ◌-◌, ◌≤◌, ◌<◌, max, min, Bool, leb, eqb}
use Rattle.logic.specs.declared.Tick.{Tick}
use Rattle.logic.specs.declared.Position.{Position}

-- n ticks
abbrev pub ticks : ℕ → Tick
ticks n = record { 0 = n }

-- one time and another after it
unfoldable pub plus : Tick → Tick → Tick
plus d e = ticks (d.0 + e.0)

-- what is left of a time after another
unfoldable pub minus : Tick → Tick → Tick
minus r d = ticks (r.0 - d.0)

-- the first is at most the second
unfoldable pub at_most : Tick → Tick → Bool
at_most d e = leb d.0 e.0

-- the first is at most the second, as a statement
unfoldable pub AtMost : Tick → Tick → Type 0
AtMost d e = d.0 ≤ e.0

-- the same number of ticks
unfoldable pub same_ticks : Tick → Tick → Bool
same_ticks d e = eqb d.0 e.0

-- the larger and the smaller of two times
unfoldable pub longer : Tick → Tick → Tick
longer d e = ticks (max d.0 e.0)

unfoldable pub shorter : Tick → Tick → Tick
shorter d e = ticks (min d.0 e.0)

-- position i
abbrev pub position : ℕ → Position
position i = record { 0 = i }

-- the next position
unfoldable pub after : Position → Position
after i = position (suc i.0)

-- the second position is the first or a later one
unfoldable pub From : Position → Position → Type 0
From i j = i.0 ≤ j.0

-- the first position is earlier than the second
unfoldable pub Before : Position → Position → Type 0
Before i j = i.0 < j.0
