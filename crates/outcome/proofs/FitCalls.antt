-- What fit files give, and what a call shows of its files: one that made a table, or said 11, 20 or 12, had fit files.
use Prim.Native.Nat.{ℕ, ◌≤◌, ◌<◌}
use mathlib.Core.Path.{◌≡◌, refl, sym, ◌∙◌, ap, subst}
use mathlib.Core.Logic.{◌↔◌}
use mathlib.Core.Bool.{true}
use mathlib.Core.List.{List, [], ◌∷◌, ◌++◌}
use native.Mathlib.Omega.{arith}
use native.Mathlib.Nat.{zero-add}
use lib.ListN.{length, drop}
use lib.Seq.{sets, sets-eq}
use lib.Dec.{ltb}
use borrow.Author.Tests.{ltb-true, lt-ltb, le-ltb}
use Rattle.base.specs.Lists.{some_of}
use Rattle.base.specs.Bytes.{long_enough}
use Rattle.base.specs.Answers.{Answer, ◌then◌}
use Rattle.std.specs.Prelude.{Err, Ok}
use Rattle.base.proofs.Lists.{whether, never_both}
use Rattle.base.proofs.Answers.{gives_not_refuses, if_on, if_refuses, then_gives, then_on, then_stays}
use Rattle.base.specs.declared.Refusal.{Refusal}
use Rattle.base.specs.declared.Refusal.TheVariants.{Area, Output}
use Rattle.logic.specs.Tower.{Tower, layout_of}
use Rattle.logic.specs.Book.{Book}
use Rattle.logic.specs.Tables.{Table, IsTable, IsMade}
use Rattle.logic.specs.TableFile.{table_file}
use Rattle.reading.specs.TowerReading.{read_tower}
use Rattle.reading.specs.BookReading.{read_book}
use Rattle.reading.proofs.FitInput.{tower_fits, table_read}
use Rattle.reading.proofs.BookLines.{book_fit}
use Rattle.reading.proofs.TableReading.{laid_out_fits}
use Rattle.outcome.specs.Areas.{make_areas}
use Rattle.outcome.specs.Make.{table_for, made_file, fitting, written, make_outcome}
use Rattle.alternatives.specs.Pairs.{most_pairs}
use Rattle.outcome.specs.Reached.{ReachedPair, MoreThan, GivesOver}
use Rattle.outcome.specs.Calls.{FitFiles, Fit, FitTable, MadeCall}
use Rattle.outcome.specs.VerdictRight.{Judgeable}
use Rattle.outcome.specs.MadeRight.{Makeable, GivenTable}
use Rattle.outcome.specs.Shown.{MakesTable}
use Rattle.outcome.proofs.Counted.{over_pairs_iff, over_alternatives_iff}
use Rattle.outcome.proofs.Maker.{table_made}
use Rattle.outcome.proofs.Accepted.{given_table}
use Rattle.outcome.proofs.CallLaws.{made_call, file_of, of_file}
use Rattle.outcome.proofs.Refusals.{One, tower_only, book_only, make_enough, make_output, make_short}

-- ---- what fit files give

pub makeable : (tower_file text : List ℕ) (tower : Tower) (book : Book) → FitFiles tower_file text tower book → Makeable tower book
makeable tower_file text tower book fit =
    record { listed = (tower_fits tower_file tower fit.tower_read).listed; fit = book_fit tower.marks text book fit.book_read }

-- bytes that are read as a table hold one
pub laid_table : (tower : Tower) (file : List ℕ) (table : Table) → FitTable tower file table → IsTable table
unfolding FitTable
laid_table tower file table laid =
    let (is_laid, states, actions, same) = table_read tower file table laid in subst IsTable same (laid_out_fits file is_laid).is_table

pub judgeable : (tower_file text file : List ℕ) (tower : Tower) (book : Book) (table : Table) → FitFiles tower_file text tower book
    → FitTable tower file table → Judgeable tower book table
judgeable tower_file text file tower book table fit laid =
    let able = makeable tower_file text tower book fit in
    record { listed = able.listed; fit = able.fit; is_table = laid_table tower file table laid }

-- ---- what a call shows

-- files from which a table file is made are fit
made_fit : (tower_file text file : List ℕ) → made_file tower_file text ≡ Ok file → Fit tower_file text
unfolding made_file
made_fit tower_file text file e =
    let (tower, a, e1) = then_gives (read_tower tower_file) _ e in
    let (book, b, e2) = then_gives (read_book tower.marks text) _ e1 in
    record { tower = tower; book = book; fit = record { tower_read = a; book_read = b } }

-- From a made call.
pub call_fit : (tower_file text : List ℕ) (n : ℕ) (file : List ℕ) → MadeCall tower_file text n file → Fit tower_file text
call_fit tower_file text n file call = made_fit tower_file text file (made_call tower_file text n file call).0

-- one tower is in a file
pub one_tower : (tower_file : List ℕ) (tower other : Tower) → read_tower tower_file ≡ Ok tower → read_tower tower_file ≡ Ok other → tower ≡ other
one_tower tower_file tower other e f = give_one (sym e ∙ f)
  where
    give_one : ◌≡◌ {A = Answer _} (Ok tower) (Ok other) → tower ≡ other
    give_one g = cc

-- the numbers that are about the files
abbrev pub of_files : List ℕ
of_files = 1 ∷ 2 ∷ 3 ∷ 4 ∷ 5 ∷ 6 ∷ 7 ∷ 8 ∷ 9 ∷ 10 ∷ 15 ∷ []

-- what is answered as a refusal was refused
written_refused : (o : Answer (List ℕ)) (output : List ℕ) (areas : List (List ℕ)) (r : Refusal)
    → (written o output areas).answer ≡ Err r → o ≡ Err r
unfolding written
written_refused (Err q) output areas r e = let f : q ≡ r = cc in ap Err f
written_refused (Ok file) output areas r e = let z : ◌≡◌ {A = ℕ} 0 1 = cc in absurd (omega arith)

refuse_one : {q r : Refusal} → ◌≡◌ {A = Answer (List ℕ)} (Err q) (Err r) → q ≡ r
refuse_one e = cc

-- a refusal with another number comes from files that are fit
chain_fit : (tower_file text : List ℕ) (room : ℕ) (r : Refusal) → (One of_files r → ⊥)
    → (made_file tower_file text then λ file. fitting room file) ≡ Err r → Fit tower_file text
unfolding One some_of made_file
chain_fit tower_file text room r not_of_files e = by_tower (read_tower tower_file) refl
  where
    bad_tower : (q : Refusal) → read_tower tower_file ≡ Err q → q ≡ r
    bad_tower q f = refuse_one (sym (then_stays _ (then_stays _ f)) ∙ e)

    bad_book : (tower : Tower) (q : Refusal) → read_tower tower_file ≡ Ok tower → read_book tower.marks text ≡ Err q → q ≡ r
    bad_book tower q f g = refuse_one (sym (then_stays _ (then_on _ f ∙ then_stays _ g)) ∙ e)

    by_book : (tower : Tower) → read_tower tower_file ≡ Ok tower → (o : Answer Book) → read_book tower.marks text ≡ o → Fit tower_file text
    by_book tower f (Err q) g =
        absurd (not_of_files (subst (One of_files) (bad_book tower q f g)
        ((book_only (One of_files) (λ l. refl) (λ l. refl) (λ l. refl) (λ l. refl) (λ l. refl) tower.marks text).only q g)))
    by_book tower f (Ok book) g = record { tower = tower; book = book; fit = record { tower_read = f; book_read = g } }

    by_tower : (o : Answer Tower) → read_tower tower_file ≡ o → Fit tower_file text
    by_tower (Err q) f =
        absurd (not_of_files (subst (One of_files) (bad_tower q f) ((tower_only (One of_files) refl refl refl refl refl tower_file).only q f)))
    by_tower (Ok tower) f = by_book tower f (read_book tower.marks text) refl

-- From a refusal whose number is not about the files, such as 11, 20 and 12.
pub refused_fit : (tower_file text output : List ℕ) (areas : List (List ℕ)) (r : Refusal) → (One of_files r → ⊥)
    → (make_outcome tower_file text output areas).answer ≡ Err r → Fit tower_file text
unfolding One some_of
refused_fit tower_file text output areas r not_of_files e =
    whether (long_enough make_areas areas)
    (λ enough.
    chain_fit tower_file text (length output) r not_of_files
    (written_refused _ output [] r (sym (make_enough tower_file text output areas enough).0 ∙ e)))
    (λ short.
    let f : Err Area ≡ Err r = sym (make_short tower_file text output areas short).0 ∙ e in
    let g : Area ≡ r = cc in
    absurd (not_of_files (subst (One of_files) g refl)))

-- ---- what a call that made a table wrote: the file of a table that is given

pub record CallWrote (tower_file : List ℕ) (n : ℕ) (file : List ℕ) (tower : Tower) (book : Book) : Type 0 where
  pub table : Table
  pub given : GivenTable tower book table
  pub few : MoreThan most_pairs (ReachedPair tower book) → ⊥
  pub narrow : GivesOver tower book → ⊥
  pub same : table_file (layout_of tower_file) tower.states tower.actions table ≡ file
  pub size : length file ≡ n

-- a table is given only where there are not too many pairs
table_few : (tower : Tower) (book : Book) → Makeable tower book → (table : Table) → table_for tower book ≡ Ok table
    → MoreThan most_pairs (ReachedPair tower book) → ⊥
table_few tower book able table is many =
    never_both ((over_pairs_iff tower book able.listed).1 many) (table_made tower book able table is).few

-- and none of them gives over 16 alternatives
table_narrow : (tower : Tower) (book : Book) → Makeable tower book → (table : Table) → table_for tower book ≡ Ok table → GivesOver tower book → ⊥
table_narrow tower book able table is wide =
    let made = table_made tower book able table is in
    never_both ((over_alternatives_iff tower book able.listed made.few).1 wide) made.narrow

pub wrote : (tower_file text file : List ℕ) (n : ℕ) (tower : Tower) (book : Book) → FitFiles tower_file text tower book
    → MadeCall tower_file text n file → CallWrote tower_file n file tower book
wrote tower_file text file n tower book fit call =
    let (gives, size) = made_call tower_file text n file call in
    let (table, is, same) = file_of tower_file text file tower book fit gives in
    let able = makeable tower_file text tower book fit in
    record {
      table = table;
      given = given_table tower book able table is;
      few = table_few tower book able table is;
      narrow = table_narrow tower book able table is;
      same = same;
      size = size;
    }

-- ---- the maker makes

-- how a file that is there is written: where it fits, and 16 where it does not
module _ (file output : List ℕ) where
  fits_in : length file ≤ length output
      → ((written (fitting (length output) file) output []).answer ≡ Ok (length file))
      × ((written (fitting (length output) file) output []).output ≡ file ++ drop (length file) output)
  unfolding written fitting
  fits_in le =
      let e = if_on Output (Ok file) (le-ltb (length output) (length file) le) in
      let front : sets output 0 file ≡ file ++ drop (length file) output =
      sets-eq file output 0 (omega arith) ∙ ap (λ k. file ++ drop k output) (zero-add (length file)) in
      (ap (λ o. (written o output []).answer) e, ap (λ o. (written o output []).output) e ∙ front)

  no_room : ((written (fitting (length output) file) output []).answer ≡ Err Output) ↔ (length output < length file)
  unfolding written fitting
  no_room = (
    λ e.
        whether (ltb (length output) (length file)) (λ short. ltb-true (length output) (length file) short)
        (λ room. gives_not_refuses refl (sym (if_on Output (Ok file) room) ∙ written_refused _ output [] Output e)),
    λ lt. ap (λ o. (written o output []).answer) (if_refuses Output (Ok file) (lt-ltb (length output) (length file) lt)),
  )

-- a file that is made and fits is answered by its length
pub file_answered : (tower_file text output : List ℕ) (areas : List (List ℕ)) (file : List ℕ) → long_enough make_areas areas ≡ true
    → made_file tower_file text ≡ Ok file → length file ≤ length output
    → (make_outcome tower_file text output areas).answer ≡ Ok (length file)
file_answered tower_file text output areas file enough e le =
    (make_enough tower_file text output areas enough).0
    ∙ ap (λ o. (written o output []).answer) (then_on (λ f. fitting (length output) f) e) ∙ (fits_in file output le).0

pub file_no_room : (tower_file text output : List ℕ) (areas : List (List ℕ)) (file : List ℕ) → long_enough make_areas areas ≡ true
    → made_file tower_file text ≡ Ok file → length output < length file
    → (make_outcome tower_file text output areas).answer ≡ Err Output
file_no_room tower_file text output areas file enough e lt =
    (make_enough tower_file text output areas enough).0
    ∙ ap (λ o. (written o output []).answer) (then_on (λ f. fitting (length output) f) e) ∙ (no_room file output).1 lt

-- a table for the tower and the book of fit files is the answer
module _ (tower_file text : List ℕ) (tower : Tower) (book : Book) (fit : FitFiles tower_file text tower book) (table : Table)
    (gives : table_for tower book ≡ Ok table) (output : List ℕ) (areas : List (List ℕ)) (enough : long_enough make_areas areas ≡ true) where
  abbrev its_bytes : List ℕ
  its_bytes = table_file (layout_of tower_file) tower.states tower.actions table

  chain : (made_file tower_file text then λ f. fitting (length output) f) ≡ fitting (length output) its_bytes
  chain = then_on _ (of_file tower_file text tower book fit (Ok table) gives ∙ then_on _ refl)

  said : (make_outcome tower_file text output areas).answer ≡ (written (fitting (length output) its_bytes) output []).answer
  said = (make_enough tower_file text output areas enough).0 ∙ ap (λ o. (written o output []).answer) chain

  pub table_answered : length its_bytes ≤ length output → (make_outcome tower_file text output areas).answer ≡ Ok (length its_bytes)
  table_answered le = said ∙ (fits_in its_bytes output le).0

  table_written : length its_bytes ≤ length output → (make_outcome tower_file text output areas).output ≡ its_bytes ++ drop (length its_bytes) output
  table_written le =
      make_output tower_file text output areas enough ∙ ap (λ o. (written o output []).output) chain ∙ (fits_in its_bytes output le).1

  pub table_no_room : length output < length its_bytes → (make_outcome tower_file text output areas).answer ≡ Err Output
  table_no_room lt = said ∙ (no_room its_bytes output).1 lt

  table_room : (make_outcome tower_file text output areas).answer ≡ Err Output → length output < length its_bytes
  table_room e = (no_room its_bytes output).0 (sym said ∙ e)

pub makes_table : (tower_file text : List ℕ) (tower : Tower) (book : Book) → FitFiles tower_file text tower book
    → (table : Table) → IsMade tower book table → table_for tower book ≡ Ok table → MakesTable tower_file text tower book
makes_table tower_file text tower book fit table is gives =
    record {
      table = table;
      file = table_file (layout_of tower_file) tower.states tower.actions table;
      made = is;
      its_file = refl;
      answered = λ output areas enough le. table_answered tower_file text tower book fit table gives output areas enough le;
      written = λ output areas enough le. table_written tower_file text tower book fit table gives output areas enough le;
      no_room = λ output areas enough. (
        λ e. table_room tower_file text tower book fit table gives output areas enough e,
        λ lt. table_no_room tower_file text tower book fit table gives output areas enough lt,
      );
    }
