-- What the token readers answer: the definitions of reading/specs, as values of the code's types.
use Rattle.std.specs.Prelude.{ℕ, ◌+◌, List}
use Rattle.std.specs.Prelude.{Option, None, Some}
use Rattle.base.specs.Choice.{pick}
use Rattle.base.specs.Text.{byte}
use Rattle.logic.specs.Book as Logic
use Rattle.reading.specs.Tokens.{stands, skip, Token}
use Rattle.reading.specs.Grammar.{Bound, no_bound, compared, optional, Connective, BoundRead, bound_at}
use Rattle.reading.specs.BookArea.{comparison_code}
use Rattle.book_tokens.specs.declared.Compared.{Compared}
use Rattle.book_tokens.specs.declared.Bounded.{Bounded}
use Rattle.book_tokens.specs.declared.BoundKind.{BoundKind}
use Rattle.book_tokens.specs.declared.BoundKind.TheVariants as Kind
use Rattle.book_tokens.specs.declared.Row.{Row}

-- the position behind byte b, spaces before it passed over, if it stands there
unfoldable pub place_behind : List ℕ → ℕ → ℕ → Option ℕ
place_behind s p b = pick (stands s (skip s p) b) (λ _. Some (skip s p + 1)) (λ _. None)

unfoldable pub token_told : Token Logic.Comparison → Compared
token_told t = record { code = comparison_code t.said; next = t.next }

unfoldable pub comparison_told : Option (Token Logic.Comparison) → Option Compared
comparison_told None = None
comparison_told (Some t) = Some (token_told t)

unfoldable pub bound_told : Option BoundRead → Option Bounded
bound_told None = None
bound_told (Some b) = Some (record { code = comparison_code b.comparison; amount = b.amount.0; next = b.next })

-- which bound a connective has
unfoldable pub bound_kind : Bound → BoundKind
bound_kind no_bound = Kind.NoBound
bound_kind compared = Kind.Compared
bound_kind optional = Kind.Optional

-- a row of the table
unfoldable pub row_told : Connective → Row
row_told c = record { letter = c.letter; parts = c.parts; bound = bound_kind c.bound }

unfoldable pub led_told : Option Connective → Option Row
led_told None = None
led_told (Some c) = Some (row_told c)

-- a comparison at p of two lengths, as codes: the longer one if `=` follows
unfoldable pub longer_told : List ℕ → ℕ → ℕ → ℕ → Compared
longer_told s p long short =
    pick (stands s (p + 1) (byte "=")) (λ _. record { code = long; next = p + 1 + 1 }) (λ _. record { code = short; next = p + 1 })

-- the bound of a connective by its kind
unfoldable pub bound_by : ℕ → BoundKind → List ℕ → ℕ → Option Bounded
bound_by usual Kind.NoBound s p = None
bound_by usual Kind.Compared s p = bound_told (bound_at usual compared s p)
bound_by usual Kind.Optional s p = bound_told (bound_at usual optional s p)
