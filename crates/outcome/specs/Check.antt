-- The checker's outcome: 15, tower, book, 13, 14 a, 14 b to d by row, 11 counted over rows with what is pending, 20, 14 e.
use Rattle.std.specs.Prelude.{ℕ, Bool, ◌&&◌, not, List, [], ◌∷◌, length, eqb}
use Rattle.base.specs.Choice.{pick}
use Rattle.base.specs.Lists.{every, some_of, below, is_there, there_with}
use Rattle.base.specs.Bytes.{long_enough, cleared}
use Rattle.base.specs.Answers.{Answer, ◌if◌else◌, ◌then◌}
use Rattle.std.specs.Prelude.{Err, Ok}
use Rattle.base.specs.declared.Reason.{Reason}
use Rattle.base.specs.declared.Reason.TheVariants.{Start, Withheld, Stopped, Broken}
use Rattle.base.specs.declared.Reason.TheVariants as Why
use Rattle.base.specs.declared.Refusal.TheVariants.{Pairs, Area, Alternatives}
use Rattle.base.specs.Answers.{Verdict}
use Rattle.base.specs.declared.Rejection.TheVariants as Rejected
use Rattle.logic.specs.Tower.{Tower, controllable, goes_on}
use Rattle.logic.specs.Book.{Book}
use Rattle.logic.specs.Tables.{Step, Table, row_at, move, rows_tower}
use Rattle.reading.specs.TowerReading.{read_tower}
use Rattle.reading.specs.BookReading.{read_book}
use Rattle.reading.specs.TableReading.{read_table}
use Rattle.alternatives.specs.Pairs.{Pair, pair_step, pairs, over_pairs, over_alternatives}
use Rattle.outcome.specs.Areas.{check_areas}

-- What is found of a table that is judged: that it is good, or the first reason why not.
pub data Finding : Type 0 where
  good_table : Finding
  not_good : Reason → Finding

infixr 10 ◌found_if◌else◌
-- 'q found_if b else o': reason q is found if b holds, and else o
unfoldable pub ◌found_if◌else◌ : Reason → Bool → Answer Finding → Answer Finding
◌found_if◌else◌ q b o = pick b (λ _. Ok (not_good q)) (λ _. o)

-- ---- reasons a to d

-- (a) Row 0 has not the tower's start state.
unfoldable pub wrong_start : Tower → Table → Bool
wrong_start tower table = not (eqb (row_at table 0).state tower.start)

-- (b) Action a is enabled in row r, may not be withheld, and is not allowed.
unfoldable pub withheld : Tower → Table → ℕ → ℕ → Bool
withheld tower table r a =
    is_there (tower.target (row_at table r).state a) && not (controllable (tower.kind a)) && not (is_there (move table r a))

-- (c) The step of row r is by an action that is not enabled, or its target row has another state than the one reached.
unfoldable pub wrong_step : Tower → Table → ℕ → Step → Bool
wrong_step tower table r s =
    not (there_with (eqb (row_at table s.target).state) (tower.target (row_at table r).state s.action))

-- (d) No step of row r is by an action that counts as going on.
unfoldable pub stopped : Tower → Table → ℕ → Bool
stopped tower table r = every (λ s. not (goes_on (tower.kind s.action))) (row_at table r).steps

-- the first reason of a row, in the order b, c, d; or what comes after
unfoldable pub judge_row : Tower → Table → ℕ → Answer Finding → Answer Finding
judge_row tower table r after =
    Withheld r found_if some_of (withheld tower table r) (below tower.actions) else
    Why.WrongStep r found_if some_of (wrong_step tower table r) (row_at table r).steps else
    Stopped r found_if stopped tower table r else
    after

-- the rows in turn
unfoldable pub judge_rows : Tower → Table → List ℕ → Answer Finding → Answer Finding
judge_rows tower table [] after = after
judge_rows tower table (r ∷ rs) after = judge_row tower table r (judge_rows tower table rs after)

-- 14 a; 14 b to d by row; or what comes after
abbrev pub rows_judged : Tower → Table → Answer Finding → Answer Finding
rows_judged tower table after = Start found_if wrong_start tower table else judge_rows tower table (below (length table)) after

-- ---- 11, 20 and reason e: rows with what is pending, which are the pairs of the table as a tower

-- 11: the rows with what is pending that are reached over unbroken allowed steps count over 1,000
unfoldable pub over_items : Tower → Book → Table → Bool
over_items tower book table = over_pairs (rows_tower tower table) book

-- an action that is enabled in the pair's state makes a broken step; this is asked only where 20 has found no pair over_full
unfoldable pub broken_step : Tower → Book → Pair → ℕ → Bool
broken_step tower book v a = is_there (tower.target v.state a) && not (is_there (pair_step tower book v a))

-- a step of the pair is broken
unfoldable pub breaks : Tower → Book → Pair → Bool
breaks tower book v = some_of (broken_step tower book v) (below tower.actions)

-- some run of the tower is broken
unfoldable pub some_broken : Tower → Book → Bool
some_broken tower book = some_of (breaks tower book) (pairs tower book)

-- ---- the verdict

-- a table for a tower and a book: 14 a to d; 11; 20, over rows that are tried by each allowed action; 14 e, that some allowed run is broken
unfoldable pub judge : Tower → Book → Table → Answer Finding
judge tower book table =
    rows_judged tower table
    (Pairs if over_items tower book table else
    Alternatives if over_alternatives (rows_tower tower table) book else
    Broken found_if some_broken (rows_tower tower table) book else
    Ok good_table)

-- files of a tower, a book and a table
unfoldable pub checked_file : List ℕ → List ℕ → List ℕ → Answer Finding
checked_file tower text table =
    read_tower tower then λ t.
    read_book t.marks text then λ book.
    read_table t table then λ rows.
    judge t book rows

-- the checker's answer: a refusal, good, or 14 with its reason
unfoldable pub verdict : Answer Finding → Verdict
verdict (Err r) = Err (Rejected.Refused r)
verdict (Ok good_table) = Ok tt
verdict (Ok (not_good reason)) = Err (Rejected.NotGood reason)

-- How a call of the checker ends: the answer, and what the lent areas hold then.
pub record CheckOutcome : Type 0 where
  pub answer : Verdict
  pub areas : List (List ℕ)

unfoldable pub check_outcome : List ℕ → List ℕ → List ℕ → List (List ℕ) → CheckOutcome
check_outcome tower text table areas =
    pick (long_enough check_areas areas)
    (λ _. record { answer = verdict (checked_file tower text table); areas = cleared areas })
    (λ _. record { answer = verdict (Err Area); areas = areas })
