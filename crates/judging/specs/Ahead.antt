-- A run judged from its last position back: for A, where its part next fails; for U, where it next ends or its first part fails. One look at each
-- position serves every bound.
use Rattle.std.specs.Prelude.{Bool, false, [], ◌∷◌, Option, Some, None, option_map}
use Rattle.base.specs.Choice.{pick}
use Rattle.logic.specs.Time.{ticks, plus, at_most}
use Rattle.logic.specs.Tower.{Tower}
use Rattle.logic.specs.Runs.{Trace, duration}
use Rattle.logic.specs.declared.Tick.{Tick}

-- What is waited for from a position of a run on: in how many ticks it comes, if it does. It comes here, or never:
abbrev pub here : Option Tick
here = Some (ticks 0)

abbrev pub never : Option Tick
never = None

-- the same, seen from one action of length d before
unfoldable pub seen_before : Tick → Option Tick → Option Tick
seen_before d ahead = option_map (plus d) ahead

-- it comes within t
unfoldable pub comes_within : Option Tick → Tick → Bool
comes_within None t = false
comes_within (Some ahead) t = at_most ahead t

-- where the part of an A next fails
unfoldable pub fails_ahead : Tower → (Trace → Bool) → Trace → Option Tick
fails_ahead tower g [] = never
fails_ahead tower g (m ∷ run) = pick (g (m ∷ run)) (λ _. seen_before (duration tower m) (fails_ahead tower g run)) (λ _. here)

-- where a U next ends, be it with the run; it never does where its first part fails before
unfoldable pub ends_ahead : Tower → (Trace → Bool) → (Trace → Bool) → Trace → Option Tick
ends_ahead tower f g [] = here
ends_ahead tower f g (m ∷ run) =
    pick (g (m ∷ run)) (λ _. here) (λ _.
    pick (f (m ∷ run)) (λ _. seen_before (duration tower m) (ends_ahead tower f g run)) (λ _. never))
