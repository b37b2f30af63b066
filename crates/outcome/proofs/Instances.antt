-- Closed instances, so that nothing above holds of nothing: a good table for the small tower under its book 1, a call that makes it in areas of
-- the lengths that are asked for, and no table of any length for any tower under `start F`.
use Prim.Native.Nat.{ℕ}
use mathlib.Core.Path.{◌≡◌, refl, ◌∙◌, ap}
use mathlib.Core.Bool.{true, false}
use Rattle.std.specs.Prelude.{Some}
use mathlib.Core.List.{List, [], ◌∷◌, map}
use native.Mathlib.Omega.{arith}
use lib.ListN.{length, replicate, length-replicate}
use lib.Dec.{leb}
use borrow.Author.Tests.{le-leb}
use Rattle.base.specs.Bytes.{long_enough, cleared}
use Rattle.base.proofs.Lists.{and_both}
use Rattle.base.specs.Text.{ascii}
use Rattle.std.specs.Prelude.{Err, Ok}
use Rattle.base.specs.declared.Refusal.TheVariants.{NoTable}
use Rattle.logic.specs.Tower.{Tower}
use Rattle.logic.specs.Book.{constant, at_start, Book}
use Rattle.logic.specs.Runs.{leads, Broken}
use Rattle.logic.specs.Tables.{Table, Allows, AllowsFrom, AllowsAction, GoesOn, NoneBroken, Good}
use Rattle.logic.specs.Tables as Tables
use Rattle.logic.proofs.Leads.{leads_one}
use Rattle.pending.proofs.Theorems.{start_false_breaks}
use Rattle.outcome.specs.Areas.{book_areas, make_areas, check_areas}
use Rattle.outcome.specs.Calls.{MadeCall}
use Rattle.outcome.specs.Check.{good_table, checked_file}
use Rattle.outcome.specs.Make.{made_file, written}
use Rattle.outcome.specs.Shown.{HoldsGood, MadeWell, MakesTable}
use Rattle.outcome.specs.Follow.{stepped, row_after, follow_answer, follow_outcome}
use Rattle.outcome.specs.FollowChain.{Chain}
use Rattle.base.specs.Lists.{every, joined}
use Rattle.outcome.specs.SmallTower.{small_tower, book_1, made, table, table_1}
use Rattle.outcome.proofs.ElevenOutcomes.{opened, file_1, ends_made, bytes_so}
use Rattle.outcome.proofs.Demands.{makes, makes_well}
use Rattle.outcome.proofs.Answering.{accepted_holds}

-- the checker's definition accepts table 1 under book 1
accepted_1 : checked_file small_tower (ascii book_1) table_1 ≡ Ok good_table
unfolding opened table_1
accepted_1 = refl

-- So there is a good table for the small tower under book 1: the very bytes of outcome 1 hold one.
pub good_table_exists : HoldsGood small_tower (ascii book_1) table_1
good_table_exists = accepted_holds small_tower (ascii book_1) table_1 accepted_1

-- ---- a call that made a table

-- areas of the lengths that are asked for
abbrev zero_areas : List ℕ → List (List ℕ)
zero_areas lengths = map (λ n. replicate n 0) lengths

-- are long enough
areas_enough : (lengths : List ℕ) → long_enough lengths (zero_areas lengths) ≡ true
unfolding long_enough
areas_enough [] = refl
areas_enough (n ∷ lengths) =
    and_both (le-leb n (length (replicate n 0)) (omega (arith, length-replicate {A = ℕ} n 0))) (areas_enough lengths)

-- an output of 60 bytes
abbrev sixty : List ℕ
sixty = replicate 60 170

-- There is a made call: the maker, called for the small tower and book 1 with real areas, makes the 50 bytes of outcome 1.
pub made_call_exists : MadeCall small_tower (ascii book_1) 50 table_1
unfolding made table table_1 written
made_call_exists =
    record {
      output = sixty;
      areas = zero_areas make_areas;
      answer = ap (λ z. z.answer) ends;
      bytes =
          bytes_so sixty (zero_areas make_areas) (zero_areas check_areas) (omega arith) (areas_enough make_areas) (areas_enough check_areas) book_1
          table_1 (omega arith) file_1;
    }
  where
    ends : made sixty (zero_areas make_areas) book_1 ≡ written (Ok table_1) sixty (cleared (zero_areas make_areas))
    ends =
        ends_made sixty (zero_areas make_areas) (zero_areas check_areas) (omega arith) (areas_enough make_areas) (areas_enough check_areas) book_1
        table_1 (omega arith) file_1

-- So its bytes hold the made table of the logic.
pub made_well_exists : MadeWell small_tower (ascii book_1) 50 table_1
made_well_exists = makes_well small_tower (ascii book_1) 50 table_1 made_call_exists

-- And `makes` has something to hold of: what it asks for is met there.
pub makes_exists : (tower : Tower) × ((book : Book) × MakesTable small_tower (ascii book_1) tower book)
makes_exists =
    let well = made_well_exists in (
      well.tower,
      (well.book, makes small_tower (ascii book_1) well.tower well.book well.fit well.few well.narrow well.table well.made.good),
    )

-- A chain of the follower's answers, as the listing of outcome 1 shows it: from row 0 by action 0 to row 1, by 1 to row 3, by 2 to row 2.
pub chain_exists : Chain table_1 0 (0 ∷ 1 ∷ 2 ∷ []) 2
unfolding opened table_1 Chain follow_outcome follow_answer row_after stepped
chain_exists = (1, refl, (3, refl, (2, refl, refl)))

-- No area is above 64 KiB.
pub areas_small : every (λ n. leb n 65536) (joined (book_areas ∷ check_areas ∷ make_areas ∷ [])) ≡ true
unfolding opened book_areas check_areas make_areas
areas_small = refl

-- ---- no table

-- the book `start F`
abbrev pub start_false : Book
start_false = record { form = at_start; formula = constant false } ∷ []

-- Under `start F` no table of any length is good, for any tower: a good table goes on, and one action breaks the rule.
pub start_false_none : (tower : Tower) (table : Table) → Good tower start_false table → ⊥
unfolding GoesOn AllowsAction NoneBroken Allows AllowsFrom Broken
start_false_none tower table good =
    let (a, (s, allowed), on) = good.d 0 good.is_table.some_row in
    start_false_breaks tower a (good.e (a ∷ []) (s, allowed_run a s allowed))
  where
    allowed_run : (a s : ℕ) → Tables.move table 0 a ≡ Some s → leads (Tables.move table) 0 (a ∷ []) ≡ Some s
    allowed_run a s e = leads_one (Tables.move table) 0 a ∙ e

-- and the maker's definition says 12 for it
start_false_refused : made_file small_tower (ascii "start F\n") ≡ Err NoTable
unfolding opened
start_false_refused = refl
