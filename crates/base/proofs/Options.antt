-- Optional values: what an equation with one says of it.
use mathlib.Core.Path.{◌≡◌, refl, ap, ◌∙◌}
use mathlib.Core.Logic.{◌↔◌}
use Rattle.std.specs.Prelude.{Option, Some, None, option_map}
use Rattle.base.specs.Options.{bind}

-- A value is one value.
pub some-injective : {A : Type 0} (a b : A) → Some a ≡ Some b → a ≡ b
some-injective a b e = cc

-- Nothing is not a value.
pub none-ne-some : {A : Type 0} (a : A) → ◌≡◌ {A = Option A} None (Some a) → ⊥
none-ne-some a e = cc

-- A value under a map comes of a value.
pub map-eq-some_iff : {A B : Type 0} (f : A → B) (o : Option A) {b : B} → (option_map f o ≡ Some b) ↔ ((a : A) × (o ≡ Some a) × (f a ≡ b))
map-eq-some_iff f None {b} = (λ e. absurd (none-ne-some b e), λ t. absurd (none-ne-some t.0 t.1))
map-eq-some_iff f (Some a) {b} = (λ e. (a, refl, some-injective (f a) b e), λ t. ap {B = Option _} Some (ap f (some-injective a t.0 t.1) ∙ t.2))

-- What f makes of a value comes of a value.
pub bind-eq-some_iff : {A B : Type 0} (o : Option A) (g : A → Option B) {x : B} → (bind o g ≡ Some x) ↔ ((y : A) × (o ≡ Some y) × (g y ≡ Some x))
unfolding bind
bind-eq-some_iff None g {x} = (λ e. absurd (none-ne-some x e), λ t. absurd (none-ne-some t.0 t.1))
bind-eq-some_iff (Some a) g {x} = (λ e. (a, refl, e), λ t. ap (λ o. bind o g) t.1 ∙ t.2)
