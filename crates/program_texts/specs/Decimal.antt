-- Numbers as text.
use Rattle.std.specs.Prelude.{ℕ, ◌+◌, ◌/◌, ◌%◌, List, [], ◌∷◌, ◌++◌, ltb}
use Rattle.base.specs.Choice.{pick}
use Rattle.base.specs.Text.{byte}
use Rattle.base.specs.Recursion.{run}

-- the character of a digit
unfoldable pub digit : ℕ → ℕ
digit d = byte "0" + d

-- a number below 10 is its digit; any other is the digits of n / 10, and behind them the last one
unfoldable pub decimal_step : ℕ → (ℕ → List ℕ) → List ℕ
decimal_step n rest = pick (ltb n 10) (λ _. digit n ∷ []) (λ _. rest (n / 10) ++ (digit (n % 10) ∷ []))

-- a number in decimal digits, with no zero in front
unfoldable pub decimal : ℕ → List ℕ
decimal n = run (λ n. n) (λ _. []) decimal_step n
