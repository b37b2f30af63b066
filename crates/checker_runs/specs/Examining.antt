-- What is found of the three files, and what the functions that examine them promise, from the steps on back to the whole.
use Rattle.std.specs.Prelude.{ℕ, ◌≡◌, List}
use Rattle.base.specs.Answers.{Answer, ◌if◌else◌, ◌then◌}
use Rattle.std.specs.Prelude.{Option, Some, None, Result, Ok, Err}
use Rattle.base.specs.declared.Reason.{Reason}
use Rattle.base.specs.declared.Refusal.{Refusal}
use Rattle.base.specs.declared.Rejection.{Rejection}
use Rattle.base.specs.declared.Reason.TheVariants as Why
use Rattle.base.specs.declared.Refusal.TheVariants.{Pairs, Alternatives}
use Rattle.base.specs.Answers.{Verdict}
use Rattle.base.specs.declared.Rejection.TheVariants as Rejected
use Rattle.logic.specs.Tower.{Tower, FitTower, tower_of}
use Rattle.logic.specs.Book.{Book}
use Rattle.logic.specs.Tables.{Table, rows_tower}
use Rattle.reading.specs.BookReading.{read_book}
use Rattle.reading.specs.TableReading.{read_table, table_of}
use Rattle.alternatives.specs.Pairs.{over_alternatives}
use Rattle.outcome.specs.Check.{Finding, good_table, ◌found_if◌else◌, over_items, some_broken, judge, verdict, checked_file}
use Rattle.book_progression.specs.NodeBytes.{IsHeld}
use Rattle.pair_graph.specs.Steps.{HoldsGraph}
use Rattle.pair_search.specs.Explored.{HoldsPairs}
use Rattle.checker_runs.specs.declared.BrokenStep.{BrokenStep}
use Rattle.checker_runs.specs.Breaks.{FirstBreak, NoBreak}

-- What is found, as the code has it.
abbrev pub Examined : Type 0
Examined = Result (Option BrokenStep) Rejection

-- of n pairs, the first broken step is that of pair i by action a
abbrev pub broken_step : ℕ → ℕ → ℕ → Examined
broken_step n i a = Ok (Some (record { pairs = n; pair = i; action = a }))

-- the checker's answer by it
abbrev pub verdict_of : Examined → Verdict
verdict_of (Ok None) = Ok tt
verdict_of (Ok (Some step)) = Err (Rejected.NotGood Why.Broken)
verdict_of (Err why) = Err why

-- ---- a broken step

-- A step is broken: the files are read, the area holds the book, the graph is that of the n pairs of the table as a tower, and the first broken
-- step is that of pair i by action a.
pub record BrokenFound (tower text table nodes graph : List ℕ) (n i a : ℕ) : Type 0 where
  pub fit : FitTower tower
  pub layout : read_table (tower_of tower) table ≡ Ok (table_of table)
  pub held : IsHeld nodes
  pub read : read_book (tower_of tower).marks text ≡ Ok held.book
  pub graph_held : HoldsPairs (rows_tower (tower_of tower) (table_of table)) nodes graph n
  pub first : FirstBreak graph n (tower_of tower).actions i a

-- What is known besides the checker's answer: that a broken step is as it was found, and that every other reason is one from a to d.
abbrev pub FoundBy : (tower text table nodes graph : List ℕ) → Examined → Type 0
FoundBy tower text table nodes graph (Ok None) = Unit {0}
FoundBy tower text table nodes graph (Err (Rejected.NotGood reason)) = reason ≡ Why.Broken → ⊥
FoundBy tower text table nodes graph (Err (Rejected.Refused r)) = Unit {0}
FoundBy tower text table nodes graph (Ok (Some step)) = BrokenFound tower text table nodes graph step.pairs step.pair step.action

-- ---- the functions

-- A search that met n pairs has left a graph of so many, with so many actions.
pub record Searched (found : Answer ℕ) (actions : ℕ) (graph : List ℕ) : Type 0 where
  pub pairs_held : (n : ℕ) → found ≡ Ok n → HoldsGraph n actions graph

-- How a search ended, and what is found of it: the refusal that it ended with (11 or 20), the first broken step, or that none is broken.
pub data FoundExamined (graph : List ℕ) (actions : ℕ) : Answer ℕ → Examined → Type 0 where
  turned_down : (r : Refusal) → FoundExamined graph actions (Err r) (Err (Rejected.Refused r))
  first_broken : (n i a : ℕ) → FirstBreak graph n actions i a → FoundExamined graph actions (Ok n) (broken_step n i a)
  none_broken : (n : ℕ) → NoBreak graph n actions → FoundExamined graph actions (Ok n) (Ok None)

-- what is asked behind the rows: 11, 20, then e
unfoldable pub runs_answer : Tower → Book → Table → Answer Finding
runs_answer tower book table =
    Pairs if over_items tower book table else
    Alternatives if over_alternatives (rows_tower tower table) book else
    Why.Broken found_if some_broken (rows_tower tower table) book else
    Ok good_table

-- the answer for a table file, where tower and book are read
unfoldable pub checked_table : Tower → Book → List ℕ → Answer Finding
checked_table tower book table = read_table tower table then λ rows. judge tower book rows

-- The table file, for the book that the area holds, and for every text of it.
pub record TableExamined (r : Examined) (tower table nodes graph : List ℕ) : Type 0 where
  pub says : (h : IsHeld nodes) → verdict_of r ≡ verdict (checked_table (tower_of tower) h.book table)
  pub found : (text : List ℕ) (h : IsHeld nodes) → read_book (tower_of tower).marks text ≡ Ok h.book
      → FoundBy tower text table nodes graph r

-- The three files: what the checker answers by it, that any reason but e is one from a to d, and with e the broken step.
pub record Examines (r : Examined) (tower text table nodes graph : List ℕ) : Type 0 where
  pub says : verdict_of r ≡ verdict (checked_file tower text table)
  pub earlier : (reason : Reason) → r ≡ Err (Rejected.NotGood reason) → reason ≡ Why.Broken → ⊥
  pub found : (n i a : ℕ) → r ≡ broken_step n i a → BrokenFound tower text table nodes graph n i a
