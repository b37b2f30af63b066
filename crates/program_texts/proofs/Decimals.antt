-- Numbers as text: one more digit, and how many there are.
use Prim.Native.Nat.{ℕ, zero, suc, ◌/◌, ◌%◌, ◌^◌, ◌≤◌, ◌<◌}
use mathlib.Core.Path.{◌≡◌, refl, sym, ◌∙◌, ap}
use mathlib.Core.Bool.{Bool, true, false}
use mathlib.Core.List.{List, [], ◌∷◌, ◌++◌}
use native.Mathlib.Omega.{arith}
use native.Mathlib.Decide.{dec_lt}
use lib.ListN.{length, length-append}
use lib.Dec.{ltb}
use borrow.Author.Tests.{lt-ltb, le-ltb}
use Rattle.base.specs.Choice.{pick}
use Rattle.base.proofs.Recursion.{Falls, run_eq}
use Rattle.program_texts.specs.Decimal.{digit, decimal_step, decimal}

-- A step asks for a smaller number alone.
falls : Falls {X = ℕ} {R = List ℕ} (λ n. n) (λ _. []) decimal_step (λ n text. Unit {0})
unfolding decimal_step
falls = record {
  at_stop = λ n. tt;
  kept = λ n f k. tt;
  same = λ n f g k h. same n f g h (ltb n 10) refl;
}
  where
    same : (n : ℕ) (f g : ℕ → List ℕ) → ((m : ℕ) → m < n → f m ≡ g m) → (b : Bool) → ltb n 10 ≡ b
        → pick b (λ _. digit n ∷ []) (λ _. f (n / 10) ++ (digit (n % 10) ∷ [])) ≡ pick b (λ _. digit n ∷ []) (λ _. g (n / 10) ++ (digit (n % 10) ∷ []))
    same n f g h true e = refl
    same n f g h false e = ap (λ l. l ++ (digit (n % 10) ∷ [])) (h (n / 10) (elim (dec_lt n 10) [
      | yes l ↦ absurd (let z : ◌≡◌ {A = Bool} true false = sym (lt-ltb n 10 l) ∙ e in let y : ◌≡◌ {A = ℕ} 0 1 = cc in omega arith)
      | no l ↦ omega arith
    ]))

decimal_eq : (n : ℕ) → decimal n ≡ decimal_step n decimal
unfolding decimal
decimal_eq n = run_eq (λ n. n) (λ _. []) decimal_step (λ n text. Unit {0}) falls n

-- A number below 10 is one digit.
pub decimal_one : (n : ℕ) → n < 10 → decimal n ≡ digit n ∷ []
unfolding decimal_step
decimal_one n l = decimal_eq n ∙ rw (lt-ltb n 10 l)

-- Any other has the digits of n / 10 and one more.
pub decimal_more : (n : ℕ) → 10 ≤ n → decimal n ≡ decimal (n / 10) ++ (digit (n % 10) ∷ [])
unfolding decimal_step
decimal_more n l = decimal_eq n ∙ rw (le-ltb n 10 l)

-- A number below 10 ^ (k + 1) has at most k + 1 digits.
pub few_digits : (k n : ℕ) → n < 10 ^ suc k → length (decimal n) ≤ suc k
few_digits zero n l = rw (decimal_one n (omega arith)) (omega arith)
few_digits (suc k) n l = elim (dec_lt n 10) [
  | yes s ↦ rw (decimal_one n s) (omega arith)
  | no s ↦ rw (decimal_more n (omega arith), length-append (decimal (n / 10)) (digit (n % 10) ∷ [])) (omega (arith, few_digits k (n / 10) (omega arith)))
]
