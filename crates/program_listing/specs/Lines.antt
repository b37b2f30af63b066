-- 01, 'Small-tower table': the lines that the programs print.
use Rattle.std.specs.Prelude.{ℕ, List, [], ◌∷◌, map, eqb}
use Rattle.base.specs.Choice.{pick}
use Rattle.base.specs.Lists.{joined}
use Rattle.base.specs.Text.{byte, ascii}
use Rattle.base.specs.Answers.{rejection_said, Said, answered, refused, refusal_said, reason_said}
use Rattle.base.specs.Answers.{LogAnswer}
use Rattle.std.specs.Prelude.{Ok, Err}
use Rattle.base.specs.declared.Rejection.TheVariants as Rejected
use Rattle.base.specs.declared.LogEnd.{LogEnd}
use Rattle.base.specs.declared.LogEnd.TheVariants as Ends
use Rattle.logic.specs.Tables.{Step, Row}
use Rattle.program_texts.specs.Decimal.{decimal}

-- what ends a line
unfoldable pub line_end : List ℕ
line_end = 10 ∷ []

-- the counts of a table
unfoldable pub head_line : ℕ → ℕ → List ℕ
head_line rows steps = joined (ascii "rows " ∷ decimal rows ∷ ascii " steps " ∷ decimal steps ∷ line_end ∷ [])

-- an action with its target row
unfoldable pub step_text : Step → List ℕ
step_text s = joined (ascii " " ∷ decimal s.action ∷ ascii ">" ∷ decimal s.target ∷ [])

-- the steps of a row
unfoldable pub steps_text : List Step → List ℕ
steps_text steps = joined (map step_text steps)

-- a row of a table: its number, its state, and each action with its target row
unfoldable pub row_line : ℕ → Row → List ℕ
row_line r row = joined (decimal r ∷ ascii " " ∷ decimal row.state ∷ steps_text row.steps ∷ line_end ∷ [])

-- the numbers of a book's lines and nodes
unfoldable pub sizes_line : ℕ → ℕ → List ℕ
sizes_line lines nodes = joined (ascii "lines " ∷ decimal lines ∷ ascii " nodes " ∷ decimal nodes ∷ line_end ∷ [])

-- the letter inside a 14, behind a space
unfoldable pub inside_text : List ℕ → List ℕ
inside_text [] = []
inside_text (letter ∷ more) = byte " " ∷ letter ∷ []

-- what the papers say of a refusal: `refused`, number, place; and the letter inside a 14
unfoldable pub refusal_line : Said → List ℕ
refusal_line (answered values) = []
refusal_line (refused number place inside) =
    joined (ascii "refused " ∷ decimal number ∷ ascii " " ∷ decimal place ∷ inside_text inside ∷ line_end ∷ [])

-- a word and a number
unfoldable pub named_line : List ℕ → ℕ → List ℕ
named_line word n = joined (word ∷ decimal n ∷ line_end ∷ [])

-- what a log comes to: the final row, or the first line that does not fit
abbrev pub end_line : LogEnd → List ℕ
end_line (Ends.Row row) = named_line (ascii "row ") row
end_line (Ends.Line line) = named_line (ascii "line ") line

-- the same, or why the log was not read
unfoldable pub log_line : LogAnswer → List ℕ
log_line (Ok end) = end_line end
log_line (Err why) = refusal_line (rejection_said why)

-- ---- the same by numbers

-- the letter inside a 14, behind a space; 0 is no letter
unfoldable pub letter_text : ℕ → List ℕ
letter_text l = pick (eqb l 0) (λ _. []) (λ _. byte " " ∷ l ∷ [])

-- number, place and letter of a refusal
unfoldable pub refused_line : ℕ → ℕ → ℕ → List ℕ
refused_line number place letter =
    joined (ascii "refused " ∷ decimal number ∷ ascii " " ∷ decimal place ∷ letter_text letter ∷ line_end ∷ [])
