-- The laws of refusal chains: when 'r if b else o' and 'o then f' give a value, and when they refuse.
use mathlib.Core.Path.{◌≡◌, refl}
use mathlib.Core.Bool.{Bool, true, false}
use Prim.Native.Nat.{ℕ}
use native.Mathlib.Omega.{arith}
use Rattle.base.specs.Answers.{Answer, ◌if◌else◌, ◌then◌}
use Rattle.std.specs.Prelude.{Err, Ok}
use Rattle.base.specs.declared.Refusal.{Refusal}

-- what gives two values gives one
pub give_one : {A : Type 0} {x y : A} → ◌≡◌ {A = Answer A} (Ok x) (Ok y) → x ≡ y
give_one e = cc

module _ {A : Type 0} where
  -- what gives a value refuses nothing
  pub gives_not_refuses {ℓ} : {C : Type ℓ} {o : Answer A} {x : A} {r : Refusal} → o ≡ Ok x → o ≡ Err r → C
  gives_not_refuses e f = let z : ◌≡◌ {A = ℕ} 0 1 = cc in absurd (omega arith)

  -- a chain goes on where its test fails
  pub if_on : (r : Refusal) {b : Bool} (o : Answer A) → b ≡ false → (r if b else o) ≡ o
  unfolding ◌if◌else◌
  if_on r o e = rw e

  -- a chain refuses where its test holds
  pub if_refuses : (r : Refusal) {b : Bool} (o : Answer A) → b ≡ true → (r if b else o) ≡ Err r
  unfolding ◌if◌else◌
  if_refuses r o e = rw e

  -- a chain that gives a value passed its test
  pub if_gives : (r : Refusal) (b : Bool) (o : Answer A) {x : A} → (r if b else o) ≡ Ok x → (b ≡ false) × (o ≡ Ok x)
  unfolding ◌if◌else◌
  if_gives r true o e = gives_not_refuses e refl
  if_gives r false o e = (refl, e)

-- what goes on with a value gives one
pub then_gives : {A B : Type 0} (o : Answer A) (f : A → Answer B) {x : B} → (o then f) ≡ Ok x → (a : A) × (o ≡ Ok a) × (f a ≡ Ok x)
unfolding ◌then◌
then_gives (Err r) f e = gives_not_refuses e refl
then_gives (Ok a) f e = (a, refl, e)

-- a value goes on
pub then_on : {A B : Type 0} {o : Answer A} (f : A → Answer B) {a : A} → o ≡ Ok a → (o then f) ≡ f a
unfolding ◌then◌
then_on f e = rw e

-- a refusal stays
pub then_stays : {A B : Type 0} {o : Answer A} (f : A → Answer B) {r : Refusal} → o ≡ Err r → (o then f) ≡ Err r
unfolding ◌then◌
then_stays f e = rw e
