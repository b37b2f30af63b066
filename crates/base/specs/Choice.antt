-- Choices in definitions.
use Rattle.std.specs.Prelude.{Bool, true, false}

-- `pick b (λ _. x) (λ _. y)` is x if b holds, and else y. Each arm waits until it is chosen.
abbrev pub pick {ℓ} : {X : Type ℓ} → Bool → (Unit {0} → X) → (Unit {0} → X) → X
pick true x y = x tt
pick false x y = y tt
