-- 02, item 6: the `ticks` line, which sets the number that is meant where none is written after A, E or U. No entry reads it yet.
use Rattle.std.specs.Prelude.{ℕ, ◌+◌, Bool, not, List, ltb}
use Rattle.std.specs.Prelude.{Option, None, Some}
use Rattle.base.specs.Choice.{pick}
use Rattle.base.specs.Lists.{begins}
use Rattle.base.specs.Text.{byte, ascii}
use Rattle.base.specs.Answers.{Answer, ◌if◌else◌}
use Rattle.std.specs.Prelude.{Err, Ok}
use Rattle.base.specs.declared.Refusal.TheVariants.{Grammar, Number}
use Rattle.reading.specs.Tokens.{stands, skip, Token, number_token}
use Rattle.reading.specs.BookReading.{most_ticks}
use Rattle.book_heading.specs.declared.Headed.{Headed}

-- without a `ticks` line
unfoldable pub usual_bound : ℕ
usual_bound = 40

-- the text begins with the word of a `ticks` line and a space
unfoldable pub has_ticks : List ℕ → Bool
has_ticks s = begins (ascii "ticks ") s

-- the number of the first rule's line: a `ticks` line counts as line 0
unfoldable pub first_rule : List ℕ → ℕ
first_rule s = pick (has_ticks s) (λ _. 1) (λ _. 0)

-- a `ticks` line with the number that was read behind its word: 6, then 7
unfoldable pub ticks_line : List ℕ → Option (Token ℕ) → Answer Headed
ticks_line s None = Err (Grammar 0)
ticks_line s (Some n) =
    Grammar 0 if not (stands s n.next (byte "\n")) else
    Number 0 if ltb most_ticks n.said else
    Ok (record { usual = n.said; place = n.next + 1 })

-- what the text begins with
unfoldable pub heading : List ℕ → Answer Headed
heading s =
    pick (has_ticks s)
    (λ _. ticks_line s (number_token s (skip s 5)))
    (λ _. Ok (record { usual = usual_bound; place = 0 }))
