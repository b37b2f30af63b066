-- 02, item 4, in the words of the logic: what the entry that shows why is to answer, and what the list is to hold; without computing either.
use Rattle.std.specs.Prelude.{ℕ, ◌≤◌, ◌<◌, ◌≡◌, List, [], ◌∷◌, ◌++◌, length, drop}
use Rattle.base.specs.declared.Reason.TheVariants.{Broken}
use Rattle.base.specs.declared.Refusal.TheVariants.{Output}
use Rattle.base.specs.Answers.{Verdict, WhyAnswer, run_shown}
use Rattle.std.specs.Prelude.{Ok, Err, None}
use Rattle.base.specs.declared.Rejection.TheVariants as Rejected
use Rattle.logic.specs.Tower.{Tower}
use Rattle.logic.specs.Book.{Book}
use Rattle.logic.specs.Tables.{Table}
use Rattle.logic.specs.Why.{ShowsWhy}
use Rattle.logic.specs.declared.Position.{Position}
use Rattle.outcome.specs.Calls.{FitFiles, FitTable}
use Rattle.outcome.specs.EveryCall.{check_numbers}
use Rattle.outcome.specs.RightAnswer.{RightCheck}

-- the checker's answer as an answer of this entry
unfoldable pub own_answer : Verdict → WhyAnswer
own_answer (Ok tt) = Ok None
own_answer (Err (Rejected.NotGood reason)) = Err (Rejected.NotGood reason)
own_answer (Err (Rejected.Refused r)) = Err (Rejected.Refused r)

-- The checker says 14 e of the table in the files, and this run, this line and this position show why.
pub record Explained (tower_file text file : List ℕ) (areas : List (List ℕ)) (w : List ℕ) (k : ℕ) (i : Position) : Type 0 where
  pub tower : Tower
  pub book : Book
  pub table : Table
  pub fit : FitFiles tower_file text tower book
  pub laid : FitTable tower file table
  pub turned_down : RightCheck tower_file text file areas (Err (Rejected.NotGood Broken))
  pub why : ShowsWhy tower book table w k i

-- The right answer, with what the list holds then: 'On any other outcome the tool gives the checker's own answer'; 16 'if the list is shorter than
-- the run'; and else the run in 'a lent list, whose later bytes stay', with its length, the line and the position.
pub data RightWhy (tower_file text file list : List ℕ) (areas : List (List ℕ)) : WhyAnswer → List ℕ → Type 0 where
  why_own : (v : Verdict) → RightCheck tower_file text file areas v → (v ≡ Err (Rejected.NotGood Broken) → ⊥)
      → RightWhy tower_file text file list areas (own_answer v) list
  why_room : (w : List ℕ) (k : ℕ) (i : Position) → Explained tower_file text file areas w k i → length list < length w
      → RightWhy tower_file text file list areas (Err (Rejected.Refused Output)) list
  why_shown : (w : List ℕ) (k : ℕ) (i : Position) → Explained tower_file text file areas w k i → length w ≤ length list
      → RightWhy tower_file text file list areas (run_shown (length w) k i.0) (w ++ drop (length w) list)

-- the numbers that the entry may refuse with, in the papers' order: the checker's, and 16 last
unfoldable pub why_numbers : List ℕ
why_numbers = check_numbers ++ (16 ∷ [])
