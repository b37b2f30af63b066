-- 01, 'Why a call is turned down', and 02: the number, place and values of every answer.
use Rattle.std.specs.Prelude.{ℕ, Bool, List, [], ◌∷◌, Option, Some, None, Result, Ok, Err}
use Rattle.base.specs.Choice.{pick}
use Rattle.base.specs.Text.{byte}
use Rattle.base.specs.declared.Reason.{Reason}
use Rattle.base.specs.declared.Reason.TheVariants.{Start, Withheld, WrongStep, Stopped, Broken}
use Rattle.base.specs.declared.Refusal.{Refusal}
use Rattle.base.specs.declared.Refusal.TheVariants.{TowerSize, Range, Action, Target, Mask, Grammar, Number, Mark, Limit, Timed, Pairs, NoTable, Layout, Area, Output, Outside, NotAllowed, Log, Alternatives}
use Rattle.base.specs.declared.Rejection.{Rejection}
use Rattle.base.specs.declared.Rejection.TheVariants as Rejected
use Rattle.base.specs.declared.BookSize.{BookSize}
use Rattle.base.specs.declared.LogEnd.{LogEnd}
use Rattle.base.specs.declared.LogEnd.TheVariants as Ends
use Rattle.base.specs.declared.BrokenRun.{BrokenRun}

-- What a definition gives: a value, or the refusal in its place.
abbrev pub Answer : Type 0 → Type 0
Answer A = Result A Refusal

-- What each entry answers, as the code has it.
abbrev pub BookAnswer : Type 0
BookAnswer = Answer BookSize

abbrev pub MakeAnswer : Type 0
MakeAnswer = Answer ℕ

abbrev pub Verdict : Type 0
Verdict = Result (Unit {0}) Rejection

abbrev pub FollowAnswer : Type 0
FollowAnswer = Answer ℕ

abbrev pub LogAnswer : Type 0
LogAnswer = Result LogEnd Rejection

abbrev pub WhyAnswer : Type 0
WhyAnswer = Result (Option BrokenRun) Rejection

-- a book of so many lines and nodes is read
abbrev pub book_of_size : ℕ → ℕ → BookAnswer
book_of_size lines nodes = Ok (record { lines = lines; nodes = nodes })

-- a run of this length is shown, with the line that it breaks and the position
abbrev pub run_shown : ℕ → ℕ → ℕ → WhyAnswer
run_shown length line position = Ok (Some (record { length = length; line = line; position = position }))

-- What the papers say of an answer: its values; or number and place of a refusal, with the reason's letter inside a 14.
pub data Said : Type 0 where
  answered : (values : List ℕ) → Said
  refused : (number place : ℕ) (inside : List ℕ) → Said

-- a reason's place: the row for b to d, otherwise 0
abbrev pub row_of : Reason → ℕ
row_of Start = 0
row_of (Withheld row) = row
row_of (WrongStep row) = row
row_of (Stopped row) = row
row_of Broken = 0

-- a reason's letter
abbrev pub letter_of : Reason → ℕ
letter_of Start = byte "a"
letter_of (Withheld row) = byte "b"
letter_of (WrongStep row) = byte "c"
letter_of (Stopped row) = byte "d"
letter_of Broken = byte "e"

-- the number of every refusal
abbrev pub refusal_number : Refusal → ℕ
refusal_number TowerSize = 1
refusal_number Range = 2
refusal_number Action = 3
refusal_number Target = 4
refusal_number Mask = 5
refusal_number (Grammar line) = 6
refusal_number (Number line) = 7
refusal_number (Mark line) = 8
refusal_number (Limit line) = 9
refusal_number (Timed line) = 10
refusal_number Pairs = 11
refusal_number NoTable = 12
refusal_number Layout = 13
refusal_number Area = 15
refusal_number Output = 16
refusal_number Outside = 17
refusal_number NotAllowed = 18
refusal_number (Log line) = 19
refusal_number Alternatives = 20

-- its place: the line for 6 to 10 and for 19, otherwise 0
abbrev pub refusal_place : Refusal → ℕ
refusal_place TowerSize = 0
refusal_place Range = 0
refusal_place Action = 0
refusal_place Target = 0
refusal_place Mask = 0
refusal_place (Grammar line) = line
refusal_place (Number line) = line
refusal_place (Mark line) = line
refusal_place (Limit line) = line
refusal_place (Timed line) = line
refusal_place Pairs = 0
refusal_place NoTable = 0
refusal_place Layout = 0
refusal_place Area = 0
refusal_place Output = 0
refusal_place Outside = 0
refusal_place NotAllowed = 0
refusal_place (Log line) = line
refusal_place Alternatives = 0

-- what is said of a refusal
unfoldable pub refusal_said : Refusal → Said
refusal_said r = refused (refusal_number r) (refusal_place r) []

-- 14, with the reason's row as its place and the letter inside
unfoldable pub reason_said : Reason → Said
reason_said reason = refused 14 (row_of reason) (letter_of reason ∷ [])

-- what is said of a rejection
abbrev pub rejection_said : Rejection → Said
rejection_said (Rejected.NotGood reason) = reason_said reason
rejection_said (Rejected.Refused r) = refusal_said r

-- the book reader's values: how many lines and how many nodes
unfoldable pub book_said : BookAnswer → Said
book_said (Ok size) = answered (size.lines ∷ size.nodes ∷ [])
book_said (Err r) = refusal_said r

-- the maker's value: the length of the table in bytes
unfoldable pub make_said : MakeAnswer → Said
make_said (Ok bytes) = answered (bytes ∷ [])
make_said (Err r) = refusal_said r

-- the checker has no value but that the table is good
unfoldable pub verdict_said : Verdict → Said
verdict_said (Ok good) = answered []
verdict_said (Err why) = rejection_said why

-- the follower's value: the target row
unfoldable pub follow_said : FollowAnswer → Said
follow_said (Ok row) = answered (row ∷ [])
follow_said (Err r) = refusal_said r

-- the log reader's values: 0 and the final row, or 1 and the first line that does not fit
abbrev pub end_said : LogEnd → Said
end_said (Ends.Row row) = answered (0 ∷ row ∷ [])
end_said (Ends.Line line) = answered (1 ∷ line ∷ [])

unfoldable pub log_said : LogAnswer → Said
log_said (Ok end) = end_said end
log_said (Err why) = rejection_said why

-- the values where a broken run is shown: its length, the line and the position; for a good table there are none, as in the checker's answer
abbrev pub run_said : Option BrokenRun → Said
run_said None = answered []
run_said (Some run) = answered (run.length ∷ run.line ∷ run.position ∷ [])

unfoldable pub why_said : WhyAnswer → Said
why_said (Ok found) = run_said found
why_said (Err why) = rejection_said why

infixr 10 ◌if◌else◌
infixr 10 ◌then◌
-- 'r if b else o': refused with r if b holds, and else o
unfoldable pub ◌if◌else◌ : {A : Type 0} → Refusal → Bool → Answer A → Answer A
◌if◌else◌ r b o = pick b (λ _. Err r) (λ _. o)

-- 'o then f': what f makes of the value that o gives, or o's refusal
unfoldable pub ◌then◌ : {A B : Type 0} → Answer A → (A → Answer B) → Answer B
Err r then f = Err r
Ok a then f = f a
