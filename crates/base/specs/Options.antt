-- What is made of an optional value.
use Rattle.std.specs.Prelude.{Option, Some, None}

-- what f makes of the value that is there
unfoldable pub bind : {A B : Type 0} → Option A → (A → Option B) → Option B
bind None f = None
bind (Some a) f = f a
