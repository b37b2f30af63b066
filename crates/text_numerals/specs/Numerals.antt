-- What the reader of numbers answers: the definition of reading/specs/Tokens.antt, as a value of the code's type; and what it asks for.
use Rattle.std.specs.Prelude.{ℕ, zero, suc, ◌+◌, ◌-◌, ◌≤◌, ◌<◌, ◌≡◌, false, List, length}
use Rattle.std.specs.Prelude.{Option, None, Some}
use Rattle.base.specs.Bytes.{byte_at}
use Rattle.reading.specs.Tokens.{Token, is_digit, digits, value}
use Rattle.text_numerals.specs.declared.Number.{Number}

unfoldable pub numeral_told : Option (Token ℕ) → Option Number
numeral_told None = None
numeral_told (Some t) = Some (record { said = t.said; next = t.next })

-- what n digits spell: nothing where there are none
unfoldable pub spelled : ℕ → ℕ → ℕ → Option Number
spelled zero said next = None
spelled (suc n) said next = Some (record { said = said; next = next })

-- Such a byte stands at p or behind it, so that what stops there at the latest stops before the text ends.
pub record Ahead (Such : ℕ → Type 0) (s : List ℕ) (p : ℕ) : Type 0 where
  pub last : ℕ
  pub ahead : p ≤ last
  pub inside : last < length s
  pub such : Such (byte_at s last)

-- A number at p stops before the text ends: a byte that is no digit is ahead.
abbrev pub Stops : List ℕ → ℕ → Type 0
Stops s p = Ahead (λ b. is_digit b ≡ false) s p

-- The digits of a number as far as they were read: n of at most so many, from p on.
pub record Spelling (s : List ℕ) (p most n said next : ℕ) : Type 0 where
  pub few : n ≤ most
  pub here : next ≡ p + n
  pub told : said ≡ value n s p
  pub rest : digits most s p ≡ n + digits (most - n) s next
