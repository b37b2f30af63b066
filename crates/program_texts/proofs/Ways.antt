-- A law for each way through the code.
use Prim.Native.Nat.{ℕ, suc, ◌+◌, ◌/◌, ◌%◌, ◌≤◌, ◌<◌}
use mathlib.Core.Path.{◌≡◌, refl, sym, ◌∙◌, ap}
use mathlib.Core.List.{List, [], ◌∷◌}
use native.Mathlib.Omega.{arith}
use native.Mathlib.Numerals.{add-one}
use lib.ListN.{length, get_or, drop, set}
use lib.Seq.{drop-cons, drop-length}
use borrow.Author.Tests.{lt-ltb, le-ltb}
use Rattle.program_texts.specs.Decimal.{digit, decimal}
use Rattle.program_texts.specs.Putting.{filled, put_byte, put, Puts}
use Rattle.program_texts.proofs.Decimals.{decimal_one, decimal_more}
use Rattle.program_texts.proofs.Fitting.{puts_then}

-- ---- a byte

pub byte_full : (out : List ℕ) (at b : ℕ) → length out ≤ at → Puts at (b ∷ []) out at out
unfolding put put_byte
byte_full out at b l = record { left = rw (le-ltb at (length out) l) }

pub byte_stored : (out : List ℕ) (at b : ℕ) → at < length out → Puts (at + 1) (b ∷ []) out at (set out at b)
unfolding put put_byte
byte_stored out at b l = record { left = rw (lt-ltb at (length out) l, add-one at) }

-- ---- bytes

-- What is left of the bytes, put from here on, gives what all of them give.
pub record Going (bytes out₀ : List ℕ) (at : ℕ) (out : List ℕ) (next i : ℕ) : Type 0 where
  pub inside : i ≤ length bytes
  pub same_length : length out ≡ length out₀
  pub rest : put (filled out next) (drop i bytes) ≡ put (filled out₀ at) bytes

pub going_start : (bytes out : List ℕ) (at : ℕ) → Going bytes out at out at 0
going_start bytes out at = record { inside = omega arith; same_length = refl; rest = refl }

pub going_on : (bytes out₀ out after : List ℕ) (at next i r : ℕ) → Going bytes out₀ at out next i → i < length bytes
    → Puts r (get_or bytes i 0 ∷ []) out next after → length after ≡ length out → Going bytes out₀ at after r (i + 1)
unfolding put
going_on bytes out₀ out after at next i r g l p e =
    record {
      inside = omega arith;
      same_length = e ∙ g.same_length;
      rest = rw (add-one i) (ap (λ f. put f (drop (suc i) bytes)) p.left ∙ ap (put (filled out next)) (sym (drop-cons bytes i 0 l)) ∙ g.rest);
    }

pub going_end : (bytes out₀ out : List ℕ) (at next i : ℕ) → Going bytes out₀ at out next i → length bytes ≤ i → Puts next bytes out₀ at out
unfolding put
going_end bytes out₀ out at next i g l =
    let e : i ≡ length bytes = omega (arith, g.inside) in
    record { left = ap (λ k. put (filled out next) k) (sym (drop-length bytes)) ∙ ap (λ k. put (filled out next) (drop k bytes)) (sym e) ∙ g.rest }

-- ---- numbers

pub decimal_small : (out after : List ℕ) (at n d r : ℕ) → n < 10 → d ≡ digit n → Puts r (d ∷ []) out at after → Puts r (decimal n) out at after
decimal_small out after at n d r l e p = rw (decimal_one n l, ← e) p

pub decimal_behind : (out mid after : List ℕ) (at n d r s : ℕ) → 10 ≤ n → Puts r (decimal (n / 10)) out at mid → d ≡ digit (n % 10)
    → Puts s (d ∷ []) mid r after → Puts s (decimal n) out at after
decimal_behind out mid after at n d r s l p e q = rw (decimal_more n l, ← e) (puts_then r s at (decimal (n / 10)) (d ∷ []) out mid after p q)

-- The number falls: t is the measure of this call.
pub tenth_below : (n t : ℕ) → n ≡ t → 10 ≤ n → n / 10 < t
tenth_below n t e l = omega arith
