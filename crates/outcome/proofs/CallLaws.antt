-- From the outcomes on bytes to the answers on towers, books and tables.
use Prim.Native.Nat.{ℕ, ◌+◌, ◌≤◌}
use mathlib.Core.Path.{◌≡◌, refl, sym, ◌∙◌, ap, subst}
use mathlib.Core.Bool.{Bool, true, false}
use mathlib.Core.List.{List}
use native.Mathlib.Omega.{arith}
use lib.ListN.{length, take, drop}
use lib.Seq.{sets, sets-eq, take_at}
use lib.Dec.{ltb}
use borrow.Author.Tests.{ltb-false}
use Rattle.base.specs.Choice.{pick}
use Rattle.base.specs.Bytes.{long_enough, cleared}
use Rattle.base.specs.Answers.{Answer, ◌if◌else◌, ◌then◌}
use Rattle.std.specs.Prelude.{Err, Ok}
use Rattle.base.proofs.Lists.{whether}
use Rattle.base.proofs.Answers.{give_one, gives_not_refuses, if_gives, then_gives, then_on}
use Rattle.base.specs.declared.Refusal.{Refusal}
use Rattle.base.specs.declared.Refusal.TheVariants.{Area, Output}
use Rattle.logic.specs.Tower.{Tower, layout_of}
use Rattle.logic.specs.Book.{Book}
use Rattle.logic.specs.Tables.{Table}
use Rattle.logic.specs.TableFile.{table_file}
use Rattle.reading.specs.TowerReading.{read_tower}
use Rattle.reading.specs.BookReading.{read_book}
use Rattle.reading.specs.TableReading.{read_table}
use Rattle.outcome.specs.Areas.{make_areas, check_areas}
use Rattle.outcome.specs.Make.{MakeOutcome, table_for, made_file, fitting, written, make_outcome}
use Rattle.outcome.specs.Check.{Finding, good_table, not_good, CheckOutcome, judge, checked_file, verdict, check_outcome}
use Rattle.outcome.specs.Calls.{FitFiles, FitTable, MadeCall}

-- ---- the maker

-- a file that is written to an output that holds it stands at its beginning
front : (output file : List ℕ) → length file ≤ length output → take (length file) (sets output 0 file) ≡ file
front output file le =
    ap (take (length file)) (sets-eq file output 0 (omega arith)) ∙ take_at file (drop (0 + length file) output) (length file) refl

-- what is written and answered is made: the answer's length and the output's beginning are those of the file
written_made : (o : Answer (List ℕ)) (output : List ℕ) (areas : List (List ℕ)) (n : ℕ) → (written o output areas).answer ≡ Ok n
    → (file : List ℕ) × (o ≡ Ok file) × (length file ≡ n) × ((written o output areas).output ≡ sets output 0 file)
unfolding written
written_made (Err r) output areas n e = let z : ◌≡◌ {A = ℕ} 0 1 = cc in absurd (omega arith)
written_made (Ok file) output areas n e = (file, refl, let z : length file ≡ n = cc in z, refl)

-- a file that fits the output is no longer than it
fitting_out : (room : ℕ) (file f : List ℕ) → fitting room file ≡ Ok f → (length f ≤ room) × (file ≡ f)
unfolding fitting
fitting_out room file f e =
    let (fits, same) = if_gives Output (ltb room (length file)) (Ok file) e in
    let g : file ≡ f = give_one same in (subst (λ z. length z ≤ room) g (ltb-false room (length file) fits), g)

-- A call that made a table made the file.
pub made_call : (tower_file text : List ℕ) (n : ℕ) (file : List ℕ) → MadeCall tower_file text n file
    → (made_file tower_file text ≡ Ok file) × (length file ≡ n)
made_call tower_file text n file call =
    go (long_enough make_areas call.areas) (unfold make_outcome in call.answer) (unfold make_outcome in call.bytes)
  where
    within : Answer (List ℕ)
    within = made_file tower_file text then λ f. fitting (length call.output) f

    outcome : Bool → MakeOutcome
    outcome b = pick b (λ _. written within call.output (cleared call.areas)) (λ _. written (Err Area) call.output call.areas)

    made : (f : List ℕ) → within ≡ Ok f → length f ≡ n → take n (sets call.output 0 f) ≡ file
        → (made_file tower_file text ≡ Ok file) × (length file ≡ n)
    made f e len bytes =
        let (g, there, fits) = then_gives (made_file tower_file text) (λ f. fitting (length call.output) f) e in
        let (room, same) = fitting_out (length call.output) g f fits in
        let is : f ≡ file = sym (front call.output f room) ∙ ap (λ m. take m (sets call.output 0 f)) len ∙ bytes in
        (there ∙ ap Ok (same ∙ is), ap length (sym is) ∙ len)

    go : (b : Bool) → (outcome b).answer ≡ Ok n → take n (outcome b).output ≡ file → (made_file tower_file text ≡ Ok file) × (length file ≡ n)
    go true e bytes =
        let (f, there, len, out) = written_made within call.output (cleared call.areas) n e in made f there len (ap (take n) (sym out) ∙ bytes)
    go false e bytes = let (f, there, len, out) = written_made (Err Area) call.output call.areas n e in gives_not_refuses there refl

-- The file is that of the table for the tower and the book.
pub file_of : (tower_file text file : List ℕ) (tower : Tower) (book : Book) → FitFiles tower_file text tower book
    → made_file tower_file text ≡ Ok file
    → (table : Table) × (table_for tower book ≡ Ok table) × (table_file (layout_of tower_file) tower.states tower.actions table ≡ file)
unfolding made_file
file_of tower_file text file tower book fit e =
    let reads = sym (then_on _ fit.tower_read ∙ then_on _ fit.book_read) ∙ e in
    let (table, made, same) = then_gives (table_for tower book) (λ table. Ok (table_file (layout_of tower_file) tower.states tower.actions table)) reads in
    (table, made, give_one same)

-- And a table for the tower and the book is written so.
pub of_file : (tower_file text : List ℕ) (tower : Tower) (book : Book) → FitFiles tower_file text tower book → (o : Answer Table)
    → table_for tower book ≡ o → made_file tower_file text ≡ (o then λ table. Ok (table_file (layout_of tower_file) tower.states tower.actions table))
unfolding made_file
of_file tower_file text tower book fit o e =
    then_on _ fit.tower_read ∙ then_on _ fit.book_read ∙ ap (λ o. o then λ table. Ok (table_file (layout_of tower_file) tower.states tower.actions table)) e

-- how a call of the maker ends on fit files
ending : (tower_file text output : List ℕ) (areas : List (List ℕ)) (tower : Tower) (book : Book) → FitFiles tower_file text tower book
    → long_enough make_areas areas ≡ true → (o : Answer Table) → table_for tower book ≡ o
    → make_outcome tower_file text output areas
    ≡ written ((o then λ table. Ok (table_file (layout_of tower_file) tower.states tower.actions table)) then λ file. fitting (length output) file) output (cleared areas)
unfolding make_outcome
ending tower_file text output areas tower book fit enough o e =
    rw (enough, of_file tower_file text tower book fit o e)

-- A refusal by 11 or 12 is the answer.
pub refused_call : (tower_file text output : List ℕ) (areas : List (List ℕ)) (tower : Tower) (book : Book) → FitFiles tower_file text tower book
    → long_enough make_areas areas ≡ true → (r : Refusal) → table_for tower book ≡ Err r
    → (make_outcome tower_file text output areas).answer ≡ Err r
unfolding written ◌then◌
refused_call tower_file text output areas tower book fit enough r e =
    ap (λ z. z.answer) (ending tower_file text output areas tower book fit enough (Err r) e)

-- a file that is not written for want of room is refused with 16
no_room : (b : Bool) (file output : List ℕ) (areas : List (List ℕ)) (r : Refusal)
    → (written (Output if b else Ok file) output areas).answer ≡ Err r → Output ≡ r
unfolding written ◌if◌else◌
no_room true file output areas r e = cc
no_room false file output areas r e = let z : ◌≡◌ {A = ℕ} 0 1 = cc in absurd (omega arith)

-- And only that: an answer that is neither 15 nor 16 says why there is no table.
pub call_refused : (tower_file text output : List ℕ) (areas : List (List ℕ)) (tower : Tower) (book : Book) → FitFiles tower_file text tower book
    → (r : Refusal) → (Area ≡ r → ⊥) → (Output ≡ r → ⊥) → (make_outcome tower_file text output areas).answer ≡ Err r
    → table_for tower book ≡ Err r
call_refused tower_file text output areas tower book fit r not_area not_output e =
    whether (long_enough make_areas areas) (λ enough. go (table_for tower book) refl enough) (λ short. absurd (not_area (no_area short)))
  where
    no_area : long_enough make_areas areas ≡ false → Area ≡ r
    no_area short =
        let f : (make_outcome tower_file text output areas).answer ≡ Err Area = short_call short in
        let g : Err Area ≡ Err r = sym f ∙ e in cc
      where
        short_call : long_enough make_areas areas ≡ false → (make_outcome tower_file text output areas).answer ≡ Err Area
        short_call short = unfold make_outcome written in (rw short)

    go : (o : Answer Table) → table_for tower book ≡ o → long_enough make_areas areas ≡ true → table_for tower book ≡ Err r
    go (Err q) h enough =
        let f : Err q ≡ Err r = sym (refused_call tower_file text output areas tower book fit enough q h) ∙ e in
        let g : q ≡ r = cc in h ∙ ap Err g
    go (Ok table) h enough =
        let f = sym (ap (λ z. z.answer) (ending tower_file text output areas tower book fit enough (Ok table) h)) ∙ e in
        absurd (not_output (room f))
      where
        file : List ℕ
        file = table_file (layout_of tower_file) tower.states tower.actions table

        room : (written ((Ok table then λ table. Ok (table_file (layout_of tower_file) tower.states tower.actions table)) then λ file. fitting (length output) file) output (cleared areas)).answer ≡ Err r
            → Output ≡ r
        room f = no_room (ltb (length output) (length file)) file output (cleared areas) r (unfold fitting ◌then◌ in f)

-- ---- the checker

-- What is checked on fit files is the table for their tower and their book.
pub checks : (tower_file text file : List ℕ) (tower : Tower) (book : Book) (table : Table) → FitFiles tower_file text tower book
    → FitTable tower file table → checked_file tower_file text file ≡ judge tower book table
unfolding checked_file FitTable
checks tower_file text file tower book table fit laid =
    then_on _ fit.tower_read ∙ then_on _ fit.book_read ∙ then_on _ laid

-- The answer is what the table is judged to be.
pub check_call : (tower_file text file : List ℕ) (areas : List (List ℕ)) (tower : Tower) (book : Book) (table : Table)
    → FitFiles tower_file text tower book → FitTable tower file table → long_enough check_areas areas ≡ true
    → (check_outcome tower_file text file areas).answer ≡ verdict (judge tower book table)
unfolding check_outcome
check_call tower_file text file areas tower book table fit laid enough =
    rw enough (ap verdict (checks tower_file text file tower book table fit laid))

-- only what is found to be good is called good
verdict_good : (o : Answer Finding) → verdict o ≡ Ok tt → o ≡ Ok good_table
unfolding verdict
verdict_good (Err r) e = let z : ◌≡◌ {A = ℕ} 0 1 = cc in absurd (omega arith)
verdict_good (Ok good_table) e = refl
verdict_good (Ok (not_good q)) e = let z : ◌≡◌ {A = ℕ} 0 1 = cc in absurd (omega arith)

-- An accepted table is one for fit files, and judged to be good.
pub accepted_call : (tower_file text file : List ℕ) (areas : List (List ℕ)) → (check_outcome tower_file text file areas).answer ≡ Ok tt
    → checked_file tower_file text file ≡ Ok good_table
unfolding check_outcome
accepted_call tower_file text file areas e = go (long_enough check_areas areas) e
  where
    go : (b : Bool)
        → (pick {X = CheckOutcome} b (λ _. record { answer = verdict (checked_file tower_file text file); areas = cleared areas })
        (λ _. record { answer = verdict (Err Area); areas = areas })).answer
        ≡ Ok tt
        → checked_file tower_file text file ≡ Ok good_table
    go true f = verdict_good (checked_file tower_file text file) f
    go false f = gives_not_refuses (verdict_good (Err Area) f) refl

pub accepted_files : (tower_file text file : List ℕ) → checked_file tower_file text file ≡ Ok good_table
    → (tower : Tower) × ((book : Book) × ((table : Table) × FitFiles tower_file text tower book × FitTable tower file table × (judge tower book table ≡ Ok good_table)))
unfolding checked_file FitTable
accepted_files tower_file text file e =
    let (tower, a, e1) = then_gives (read_tower tower_file) _ e in
    let (book, b, e2) = then_gives (read_book tower.marks text) _ e1 in
    let (table, c, e3) = then_gives (read_table tower file) _ e2 in
    (tower, (book, (table, record { tower_read = a; book_read = b }, c, e3)))
