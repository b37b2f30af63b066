-- What was pending before 02, item 3, as sets of one alternative: a broken step leaves none.
use Rattle.std.specs.Prelude.{Option, None, Some}
use Rattle.std.specs.Prelude.{[], ◌∷◌}
use Rattle.pending.specs.Pending.{Pending}
use Rattle.pending.specs.Pairs as Old
use Rattle.alternatives.specs.Alternatives.{Alternatives, these, broken}
use Rattle.alternatives.specs.Pairs.{Pair}

-- what is there as the one alternative; broken where nothing is
unfoldable pub single : Option Pending → Alternatives
single None = broken
single (Some p) = these (p ∷ [])

-- a pair with what is pending as its one alternative
unfoldable pub one : Old.Pair → Pair
one v = record { state = v.state; pending = v.pending ∷ [] }
