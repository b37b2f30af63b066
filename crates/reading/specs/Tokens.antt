-- 01, 'Rule book': tokens, each read as long as it can be. Positions here are those of bytes in the book; past its end every byte is 0, which no token has.
use Rattle.std.specs.Prelude.{ℕ, zero, suc, ◌+◌, ◌-◌, ◌*◌, Bool, true, false, ◌&&◌, List, drop, leb, eqb}
use Rattle.std.specs.Prelude.{Option, None, Some}
use Rattle.base.specs.Choice.{pick}
use Rattle.base.specs.Lists.{leading}
use Rattle.base.specs.Text.{byte}
use Rattle.base.specs.Bytes.{byte_at}
use Rattle.logic.specs.Book.{Comparison, no_more, less, no_less, more, Formula, proposition}

-- byte b stands at p
unfoldable pub stands : List ℕ → ℕ → ℕ → Bool
stands s p b = eqb (byte_at s p) b

-- the position after the spaces at p
unfoldable pub skip : List ℕ → ℕ → ℕ
skip s p = p + leading (eqb (byte " ")) (drop p s)

unfoldable pub is_digit : ℕ → Bool
is_digit b = leb (byte "0") b && leb b (byte "9")

-- how many digits stand at p, counted up to n
unfoldable pub digits : ℕ → List ℕ → ℕ → ℕ
digits zero s p = 0
digits (suc n) s p = pick (is_digit (byte_at s p)) (λ _. suc (digits n s (p + 1))) (λ _. 0)

-- the number that n digits at p spell
unfoldable pub value : ℕ → List ℕ → ℕ → ℕ
value zero s p = 0
value (suc n) s p = 10 * value n s p + (byte_at s (p + n) - byte "0")

-- A token that was read: what it says, and the position after it.
pub record Token (A : Type 0) : Type 0 where
  pub said : A
  pub next : ℕ

-- a number of up to so many digits at p, at least one
unfoldable pub numeral : ℕ → List ℕ → ℕ → Option (Token ℕ)
numeral most s p =
    pick (is_digit (byte_at s p))
    (λ _. Some (record { said = value (digits most s p) s p; next = p + digits most s p }))
    (λ _. None)

-- a number: one to three digits
unfoldable pub number_token : List ℕ → ℕ → Option (Token ℕ)
number_token s p = numeral 3 s p

-- a mark's number, wanted on the state or not
unfoldable pub mark_named : Bool → Option (Token ℕ) → Option (Token Formula)
mark_named wanted None = None
mark_named wanted (Some t) = Some (record { said = proposition wanted t.said; next = t.next })

-- `p` and one or two digits
unfoldable pub mark_at : Bool → List ℕ → ℕ → Option (Token Formula)
mark_at wanted s p = pick (stands s p (byte "p")) (λ _. mark_named wanted (numeral 2 s (p + 1))) (λ _. None)

-- a mark, negated by `!` before it; all of it is one token
unfoldable pub mark_token : List ℕ → ℕ → Option (Token Formula)
mark_token s p = pick (stands s p (byte "!")) (λ _. mark_at false s (p + 1)) (λ _. mark_at true s p)

-- the longer comparison at p if `=` follows, and else the shorter one
unfoldable pub with_equals : List ℕ → ℕ → Comparison → Comparison → Token Comparison
with_equals s p long short =
    pick (stands s (p + 1) (byte "="))
    (λ _. record { said = long; next = p + 2 })
    (λ _. record { said = short; next = p + 1 })

-- one of `<=` `<` `>=` `>`
unfoldable pub comparison_token : List ℕ → ℕ → Option (Token Comparison)
comparison_token s p =
    pick (stands s p (byte "<")) (λ _. Some (with_equals s p no_more less)) (λ _.
    pick (stands s p (byte ">")) (λ _. Some (with_equals s p no_less more)) (λ _. None))
