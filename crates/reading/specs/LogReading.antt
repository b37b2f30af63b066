-- 02, item 2, 'Reading the stroke log': the lines of a log. Positions here are those of bytes in the log; past its end every byte is 0, which no
-- line has.
use Rattle.std.specs.Prelude.{ℕ, ◌+◌, ◌-◌, List, [], ◌∷◌, length, leb, ltb}
use Rattle.std.specs.Prelude.{Option, None, Some}
use Rattle.base.specs.Options.{bind}
use Rattle.base.specs.Choice.{pick}
use Rattle.base.specs.Lists.{only_if}
use Rattle.base.specs.Text.{byte}
use Rattle.base.specs.Recursion.{run}
use Rattle.base.specs.Answers.{Answer, ◌if◌else◌}
use Rattle.std.specs.Prelude.{Ok}
use Rattle.base.specs.declared.Refusal.TheVariants.{Log}
use Rattle.logic.specs.Time.{ticks}
use Rattle.reading.specs.Tokens.{stands, Token, numeral}
use Rattle.reading.specs.declared.Stroke.{Stroke}

-- the largest tick
abbrev pub most_tick : ℕ
most_tick = 4294967295

-- a number of up to so many digits at p, and this byte behind it
unfoldable pub field_at : ℕ → ℕ → List ℕ → ℕ → Option (Token ℕ)
field_at most behind s p =
    bind (numeral most s p) (λ n.
    pick (stands s n.next behind) (λ _. Some (record { said = n.said; next = n.next + 1 })) (λ _. None))

-- 'each line is a tick of 1 to 10 decimal digits (up to 4,294,967,295), one space, an action number in one or two digits, and byte 10'
unfoldable pub stroke_at : List ℕ → ℕ → Option (Token Stroke)
stroke_at s p =
    bind (only_if (λ t. leb t.said most_tick) (field_at 10 (byte " ") s p)) (λ t.
    bind (field_at 2 (byte "\n") s t.next) (λ a.
    Some (record { said = record { tick = ticks t.said; action = a.said }; next = a.next })))

-- How far the reading of a log has come: the lines read, and the position of the next.
pub record LogRead : Type 0 where
  pub strokes : List Stroke
  pub next : ℕ

-- a line before those that are read behind it
unfoldable pub with_line : Stroke → LogRead → LogRead
with_line s rest = record { strokes = s ∷ rest.strokes; next = rest.next }

-- the line at p and those behind it; nothing where it is not of the form
unfoldable pub line_and : ℕ → (ℕ → LogRead) → Option (Token Stroke) → LogRead
line_and p more None = record { strokes = []; next = p }
line_and p more (Some t) = with_line t.said (more t.next)

-- the lines from p on, one after the other, to the end of the log or to the first that is not of the form
unfoldable pub log_step : List ℕ → ℕ → (ℕ → LogRead) → LogRead
log_step s p more = pick (leb (length s) p) (λ _. record { strokes = []; next = p }) (λ _. line_and p more (stroke_at s p))

unfoldable pub log_from : List ℕ → ℕ → LogRead
log_from s p = run (λ p. length s - p) (λ p. record { strokes = []; next = p }) (log_step s) p

-- the lines of a log; 19 at the first that is not of the form, whose number is that of the lines before it
unfoldable pub read_log : List ℕ → Answer (List Stroke)
read_log s = Log (length (log_from s 0).strokes) if ltb (log_from s 0).next (length s) else Ok (log_from s 0).strokes
