-- What the reader of lines answers: the definition of reading/specs/LogReading.antt, as a value of the code's type; and what it asks for.
use Rattle.std.specs.Prelude.{ℕ, ◌+◌, ◌≡◌, List}
use Rattle.std.specs.Prelude.{Option, None, Some}
use Rattle.base.specs.Choice.{pick}
use Rattle.reading.specs.Tokens.{Token, stands}
use Rattle.reading.specs.declared.Stroke.{Stroke}
use Rattle.text_numerals.specs.Numerals.{Ahead}
use Rattle.text_numerals.specs.declared.Number.{Number}
use Rattle.log_lines.specs.declared.LogLine.{LogLine}

-- a number with byte b behind it
unfoldable pub ended : List ℕ → Number → ℕ → Option Number
ended s n b = pick (stands s n.next b) (λ _. Some (record { said = n.said; next = n.next + 1 })) (λ _. None)

unfoldable pub line_told : Option (Token Stroke) → Option LogLine
line_told None = None
line_told (Some t) = Some (record { stroke = t.said; next = t.next })

-- A line at p stops before the log ends: byte 10 is ahead.
abbrev pub LineEnds : List ℕ → ℕ → Type 0
LineEnds s p = Ahead (λ b. b ≡ 10) s p
