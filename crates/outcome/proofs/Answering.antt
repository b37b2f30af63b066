-- The proofs of the letter's sentences, which Demands.antt states in order.
use Prim.Native.Nat.{ℕ, ◌≤◌, ◌<◌}
use mathlib.Core.Path.{◌≡◌, refl, sym, ◌∙◌, ap, subst}
use mathlib.Core.Logic.Iff
use mathlib.Core.Logic.{◌↔◌, ◌⊎◌, inl, inr}
use mathlib.Core.Bool.{true}
use mathlib.Core.List.{List, []}
use native.Mathlib.Omega.{arith}
use lib.ListN.{length}
use lib.Dec.{ltb}
use borrow.Author.Tests.{ltb-true, ltb-false, lt-ltb, le-ltb}
use Rattle.base.specs.Lists.{some_of}
use Rattle.base.specs.Bytes.{long_enough}
use Rattle.base.specs.Answers.{Answer}
use Rattle.std.specs.Prelude.{Err, Ok}
use Rattle.base.proofs.Lists.{whether, never_both}
use Rattle.base.proofs.Answers.{if_on, if_refuses, then_on, then_stays}
use Rattle.base.specs.declared.Reason.{Reason}
use Rattle.base.specs.declared.Reason.TheVariants.{Broken}
use Rattle.base.specs.declared.Refusal.{Refusal}
use Rattle.base.specs.declared.Refusal.TheVariants.{Range, Pairs, NoTable, Layout, Output, Alternatives}
use Rattle.base.specs.Answers.{BookAnswer, MakeAnswer, Verdict}
use Rattle.base.specs.declared.Rejection.TheVariants as Rejected
use Rattle.logic.specs.Tower.{Tower, layout_of, most_marks}
use Rattle.logic.specs.Book.{Book}
use Rattle.logic.specs.Tables.{Table, rows_tower, Allows, Good, GoodAllow, IsMade}
use Rattle.logic.specs.TableFile.{table_file}
use Rattle.logic.proofs.Canonical.{good_follows, made_fewest}
use Rattle.logic.proofs.TableFile.{Fits, made_fits}
use Rattle.reading.specs.TowerReading.{read_tower}
use Rattle.reading.specs.BookReading.{read_book}
use Rattle.reading.specs.TableReading.{rows_of, table_of, read_table}
use Rattle.reading.proofs.FitInput.{tower_fits, table_read, laid_out_read}
use Rattle.reading.proofs.HeldTable.{FileHolds, file_holds}
use Rattle.reading.proofs.TableReading.{file_laid_out, file_table, made_same_file}
use Rattle.alternatives.specs.Pairs.{most_pairs}
use Rattle.outcome.specs.Areas.{book_areas, make_areas, check_areas}
use Rattle.outcome.specs.ReadBook.{book_answer, book_under, read_outcome}
use Rattle.outcome.specs.Check.{Finding, good_table, judge, checked_file, verdict, check_outcome}
use Rattle.outcome.specs.Make.{table_for, made_file, written, make_outcome}
use Rattle.outcome.specs.Reached.{ReachedPair, ReachedItem, MoreThan, GivesOver}
use Rattle.outcome.specs.Calls.{FitFiles, Fit, FitTable, MadeCall}
use Rattle.outcome.specs.VerdictRight.{Judgeable, FirstReason, by_rows, too_many, too_wide, reason_e, good}
use Rattle.outcome.specs.MadeRight as Right
use Rattle.outcome.specs.MadeRight.{RightTable}
use Rattle.outcome.specs.RightAnswer.{RightRead, read_area, read_range, read_refused, read_given, RightMake, make_area, make_tower, make_book, make_pairs, make_wide, make_none, make_room, make_made, RightCheck, check_area, check_tower, check_book, check_layout, check_judged}
use Rattle.outcome.specs.Shown.{HoldsGood, NoneGood, TooManyPairs, TooManyAlternatives, MadeWell, EqualExactly, FewestRows, MakesTable}
use Rattle.outcome.proofs.Checker.{Many, Wide, judged, judge_is, accepted_good, good_accepted}
use Rattle.outcome.proofs.Maker.{table_right, table_only, no_table_out, over_out, wide_out}
use Rattle.outcome.proofs.CallLaws.{made_call, refused_call, call_refused, check_call, accepted_files}
use Rattle.outcome.proofs.Refusals.{One, make_enough, make_short, check_enough, check_short, book_enough, book_short}
use Rattle.outcome.proofs.Refusals.{table_only as layout_only}
use Rattle.outcome.proofs.FitCalls.{makeable, judgeable, of_files, call_fit, one_tower, refused_fit, CallWrote, wrote, table_answered, table_no_room, makes_table}

-- ---- the book reader

module _ (marks : ℕ) (text : List ℕ) (areas : List (List ℕ)) where
  -- with areas that are long enough: 2, or what the book is read as
  reads_over : long_enough book_areas areas ≡ true → most_marks < marks → (read_outcome marks text areas).answer ≡ Err Range
  unfolding book_answer book_under
  reads_over enough over =
      (book_enough marks text areas enough).0 ∙ ap book_answer (if_refuses Range _ (lt-ltb most_marks marks over))

  reads_as : long_enough book_areas areas ≡ true → marks ≤ most_marks → (read_outcome marks text areas).answer ≡ book_answer (read_book marks text)
  unfolding book_under
  reads_as enough few = (book_enough marks text areas enough).0 ∙ ap book_answer (if_on Range _ (le-ltb most_marks marks few))

  read_by : long_enough book_areas areas ≡ true → marks ≤ most_marks → (o : Answer Book) → read_book marks text ≡ o
      → RightRead marks text areas (book_answer o)
  unfolding book_answer
  read_by enough few (Err r) e = read_refused enough few r e
  read_by enough few (Ok book) e = read_given enough few book e

  pub read_right : RightRead marks text areas (read_outcome marks text areas).answer
  read_right =
      whether (long_enough book_areas areas)
      (λ enough.
      whether (ltb most_marks marks)
      (λ over.
      let more = ltb-true most_marks marks over in
      subst (RightRead marks text areas) (sym (reads_over enough more)) (read_range enough more))
      (λ few.
      let no_more = ltb-false most_marks marks few in
      subst (RightRead marks text areas) (sym (reads_as enough no_more)) (read_by enough no_more (read_book marks text) refl)))
      (λ short. subst (RightRead marks text areas) (sym (book_short marks text areas short).0) (read_area short))

  pub read_only : (x : BookAnswer) → RightRead marks text areas x → (read_outcome marks text areas).answer ≡ x
  unfolding book_answer
  read_only _ (read_area short) = (book_short marks text areas short).0
  read_only _ (read_range enough over) = reads_over enough over
  read_only _ (read_refused enough few r e) = reads_as enough few ∙ ap book_answer e
  read_only _ (read_given enough few book e) = reads_as enough few ∙ ap book_answer e

-- ---- the checker

-- files that are judged well hold a good table
pub accepted_holds : (tower_file text file : List ℕ) → checked_file tower_file text file ≡ Ok good_table → HoldsGood tower_file text file
accepted_holds tower_file text file e =
    let (tower, (book, (table, fit, laid, j))) = accepted_files tower_file text file e in
    record {
      tower = tower;
      book = book;
      table = table;
      fit = fit;
      laid = laid;
      good = accepted_good tower book table (judgeable tower_file text file tower book table fit laid) j;
    }

pub good_or_size : (tower_file text file : List ℕ) (areas : List (List ℕ)) → long_enough check_areas areas ≡ true
    → (holds : HoldsGood tower_file text file)
    → ((check_outcome tower_file text file areas).answer ≡ Ok tt)
    ⊎ ((((check_outcome tower_file text file areas).answer ≡ Err (Rejected.Refused Pairs))
    × MoreThan most_pairs (ReachedItem holds.tower holds.book holds.table))
    ⊎ (((check_outcome tower_file text file areas).answer ≡ Err (Rejected.Refused Alternatives))
    × GivesOver (rows_tower holds.tower holds.table) holds.book))
unfolding verdict
good_or_size tower_file text file areas enough holds =
    go (good_accepted holds.tower holds.book holds.table known holds.good)
  where
    known : Judgeable holds.tower holds.book holds.table
    known = judgeable tower_file text file holds.tower holds.book holds.table holds.fit holds.laid

    says : (check_outcome tower_file text file areas).answer ≡ verdict (judge holds.tower holds.book holds.table)
    says = check_call tower_file text file areas holds.tower holds.book holds.table holds.fit holds.laid enough

    go : ((judge holds.tower holds.book holds.table ≡ Ok good_table) × (Many holds.tower holds.book holds.table known → ⊥)
        × (Wide holds.tower holds.book holds.table known → ⊥))
        ⊎ (((judge holds.tower holds.book holds.table ≡ Err Pairs) × Many holds.tower holds.book holds.table known)
        ⊎ ((judge holds.tower holds.book holds.table ≡ Err Alternatives) × Wide holds.tower holds.book holds.table known))
        → ((check_outcome tower_file text file areas).answer ≡ Ok tt)
        ⊎ ((((check_outcome tower_file text file areas).answer ≡ Err (Rejected.Refused Pairs)) × Many holds.tower holds.book holds.table known)
        ⊎ (((check_outcome tower_file text file areas).answer ≡ Err (Rejected.Refused Alternatives)) × Wide holds.tower holds.book holds.table known))
    go (inl (e, few, narrow)) = inl (says ∙ ap verdict e)
    go (inr (inl (e, many))) = inr (inl (says ∙ ap verdict e, many))
    go (inr (inr (e, wide))) = inr (inr (says ∙ ap verdict e, wide))

pub checks : (tower_file text file : List ℕ) (areas : List (List ℕ)) (tower : Tower) (book : Book) (table : Table)
    → FitFiles tower_file text tower book → FitTable tower file table → long_enough check_areas areas ≡ true
    → (MoreThan most_pairs (ReachedItem tower book table) → ⊥) → (GivesOver (rows_tower tower table) book → ⊥)
    → ((check_outcome tower_file text file areas).answer ≡ Ok tt)
    ⊎ ((why : Reason) × ((check_outcome tower_file text file areas).answer ≡ Err (Rejected.NotGood why)))
unfolding verdict
checks tower_file text file areas tower book table fit laid enough few narrow =
    go (judge tower book table) (judged tower book table (judgeable tower_file text file tower book table fit laid))
    (check_call tower_file text file areas tower book table fit laid enough)
  where
    go : (o : Answer Finding) → FirstReason tower book table o → (check_outcome tower_file text file areas).answer ≡ verdict o
        → ((check_outcome tower_file text file areas).answer ≡ Ok tt)
        ⊎ ((why : Reason) × ((check_outcome tower_file text file areas).answer ≡ Err (Rejected.NotGood why)))
    go o (by_rows q first) e = inr (q, e)
    go o (too_many right many) e = absurd (few many)
    go o (too_wide right not_many wide) e = absurd (narrow wide)
    go o (reason_e right not_many not_wide wrong) e = inr (Broken, e)
    go o (good g not_many not_wide) e = inl e

-- the checker's answer in every case
module _ (tower_file text file : List ℕ) (areas : List (List ℕ)) where
  checks_as : long_enough check_areas areas ≡ true → (o : Answer Finding) → checked_file tower_file text file ≡ o
      → (check_outcome tower_file text file areas).answer ≡ verdict o
  checks_as enough o e = (check_enough tower_file text file areas enough).0 ∙ ap verdict e

  tower_refused : (r : Refusal) → read_tower tower_file ≡ Err r → checked_file tower_file text file ≡ Err r
  unfolding checked_file
  tower_refused r e = then_stays _ e

  book_refused : (tower : Tower) (r : Refusal) → read_tower tower_file ≡ Ok tower → read_book tower.marks text ≡ Err r
      → checked_file tower_file text file ≡ Err r
  unfolding checked_file
  book_refused tower r e f = then_on _ e ∙ then_stays _ f

  table_refused : (tower : Tower) (book : Book) (r : Refusal) → FitFiles tower_file text tower book → read_table tower file ≡ Err r
      → checked_file tower_file text file ≡ Err r
  unfolding checked_file
  table_refused tower book r fit e = then_on _ fit.tower_read ∙ then_on _ fit.book_read ∙ then_stays _ e

  -- a table is refused with 13 alone
  only_layout : (tower : Tower) (r : Refusal) → read_table tower file ≡ Err r → Layout ≡ r
  only_layout tower r e = (layout_only (λ q. Layout ≡ q) refl tower file).only r e

  pub check_right : RightCheck tower_file text file areas (check_outcome tower_file text file areas).answer
  unfolding verdict
  check_right =
      whether (long_enough check_areas areas) (λ enough. by_tower enough (read_tower tower_file) refl)
      (λ short. subst (RightCheck tower_file text file areas) (sym (check_short tower_file text file areas short).0) (check_area short))
    where
      by_table : long_enough check_areas areas ≡ true → (tower : Tower) (book : Book) → FitFiles tower_file text tower book → (o : Answer Table)
          → read_table tower file ≡ o → RightCheck tower_file text file areas (check_outcome tower_file text file areas).answer
      by_table enough tower book fit (Err r) e =
          let layout : read_table tower file ≡ Err Layout = e ∙ ap Err (sym (only_layout tower r e)) in
          subst (RightCheck tower_file text file areas)
          (sym (checks_as enough (Err Layout) (table_refused tower book Layout fit layout))) (check_layout enough tower book fit layout)
      by_table enough tower book fit (Ok table) e =
          let laid : FitTable tower file table = unfold FitTable in e in
          subst (RightCheck tower_file text file areas) (sym (check_call tower_file text file areas tower book table fit laid enough))
          (check_judged enough tower book table fit laid (judge tower book table)
          (judged tower book table (judgeable tower_file text file tower book table fit laid)))

      by_book : long_enough check_areas areas ≡ true → (tower : Tower) → read_tower tower_file ≡ Ok tower → (o : Answer Book)
          → read_book tower.marks text ≡ o → RightCheck tower_file text file areas (check_outcome tower_file text file areas).answer
      by_book enough tower e (Err r) f =
          subst (RightCheck tower_file text file areas) (sym (checks_as enough (Err r) (book_refused tower r e f))) (check_book enough tower r e f)
      by_book enough tower e (Ok book) f =
          by_table enough tower book (record { tower_read = e; book_read = f }) (read_table tower file) refl

      by_tower : long_enough check_areas areas ≡ true → (o : Answer Tower) → read_tower tower_file ≡ o
          → RightCheck tower_file text file areas (check_outcome tower_file text file areas).answer
      by_tower enough (Err r) e =
          subst (RightCheck tower_file text file areas) (sym (checks_as enough (Err r) (tower_refused r e))) (check_tower enough r e)
      by_tower enough (Ok tower) e = by_book enough tower e (read_book tower.marks text) refl

  pub check_only : (x : Verdict) → RightCheck tower_file text file areas x → (check_outcome tower_file text file areas).answer ≡ x
  unfolding verdict
  check_only _ (check_area short) = (check_short tower_file text file areas short).0
  check_only _ (check_tower enough r e) = checks_as enough (Err r) (tower_refused r e)
  check_only _ (check_book enough tower r e f) = checks_as enough (Err r) (book_refused tower r e f)
  check_only _ (check_layout enough tower book fit e) = checks_as enough (Err Layout) (table_refused tower book Layout fit e)
  check_only _ (check_judged enough tower book table fit laid o first) =
      check_call tower_file text file areas tower book table fit laid enough
      ∙ ap verdict (judge_is tower book table (judgeable tower_file text file tower book table fit laid) o first)

-- ---- the maker

pub makes : (tower_file text : List ℕ) (tower : Tower) (book : Book) → FitFiles tower_file text tower book
    → (MoreThan most_pairs (ReachedPair tower book) → ⊥) → (GivesOver tower book → ⊥) → (table : Table) → Good tower book table
    → MakesTable tower_file text tower book
makes tower_file text tower book fit few narrow table is_good =
    go (table_for tower book) (table_right tower book (makeable tower_file text tower book fit)) refl
  where
    go : (o : Answer Table) → RightTable tower book o → table_for tower book ≡ o → MakesTable tower_file text tower book
    go o (Right.too_many many) e = absurd (few many)
    go o (Right.too_wide not_many wide) e = absurd (narrow wide)
    go o (Right.none_good not_many not_wide lost) e = absurd (lost table is_good)
    go o (Right.made t not_many not_wide is) e = makes_table tower_file text tower book fit t is e

-- the maker's answer in every case
module _ (tower_file text output : List ℕ) (areas : List (List ℕ)) where
  -- a refusal of the files is the answer
  pub made_refused : long_enough make_areas areas ≡ true → (r : Refusal) → made_file tower_file text ≡ Err r
      → (make_outcome tower_file text output areas).answer ≡ Err r
  unfolding written
  made_refused enough r e =
      (make_enough tower_file text output areas enough).0 ∙ ap (λ o. (written o output []).answer) (then_stays _ e)

  tower_unmade : (r : Refusal) → read_tower tower_file ≡ Err r → made_file tower_file text ≡ Err r
  unfolding made_file
  tower_unmade r e = then_stays _ e

  book_unmade : (tower : Tower) (r : Refusal) → read_tower tower_file ≡ Ok tower → read_book tower.marks text ≡ Err r
      → made_file tower_file text ≡ Err r
  unfolding made_file
  book_unmade tower r e f = then_on _ e ∙ then_stays _ f

  -- a made table is given
  made_given : (tower : Tower) (book : Book) → FitFiles tower_file text tower book → (MoreThan most_pairs (ReachedPair tower book) → ⊥)
      → (GivesOver tower book → ⊥) → (table : Table) → IsMade tower book table → table_for tower book ≡ Ok table
  made_given tower book fit few narrow table is =
      table_only tower book (makeable tower_file text tower book fit) (Ok table) (Right.made table few narrow is)

  pub make_right : RightMake tower_file text output areas (make_outcome tower_file text output areas).answer
  make_right =
      whether (long_enough make_areas areas) (λ enough. by_tower enough (read_tower tower_file) refl)
      (λ short. subst (RightMake tower_file text output areas) (sym (make_short tower_file text output areas short).0) (make_area short))
    where
      answer_by : (x : MakeAnswer) → (make_outcome tower_file text output areas).answer ≡ x → RightMake tower_file text output areas x
          → RightMake tower_file text output areas (make_outcome tower_file text output areas).answer
      answer_by x e right = subst (RightMake tower_file text output areas) (sym e) right

      by_table : long_enough make_areas areas ≡ true → (tower : Tower) (book : Book) → FitFiles tower_file text tower book → (o : Answer Table)
          → RightTable tower book o → table_for tower book ≡ o
          → RightMake tower_file text output areas (make_outcome tower_file text output areas).answer
      by_table enough tower book fit _ (Right.too_many many) e =
          answer_by (Err Pairs) (refused_call tower_file text output areas tower book fit enough Pairs e) (make_pairs enough tower book fit many)
      by_table enough tower book fit _ (Right.too_wide few wide) e =
          answer_by (Err Alternatives) (refused_call tower_file text output areas tower book fit enough Alternatives e)
          (make_wide enough tower book fit few wide)
      by_table enough tower book fit _ (Right.none_good few narrow lost) e =
          answer_by (Err NoTable) (refused_call tower_file text output areas tower book fit enough NoTable e)
          (make_none enough tower book fit few narrow lost)
      by_table enough tower book fit _ (Right.made table few narrow is) e =
          whether (ltb (length output) (length (table_file (layout_of tower_file) tower.states tower.actions table)))
          (λ short.
          let lt = ltb-true (length output) (length (table_file (layout_of tower_file) tower.states tower.actions table)) short in
          answer_by (Err Output) (table_no_room tower_file text tower book fit table e output areas enough lt) (make_room enough tower book fit few narrow table is lt))
          (λ room.
          let le = ltb-false (length output) (length (table_file (layout_of tower_file) tower.states tower.actions table)) room in
          answer_by (Ok (length (table_file (layout_of tower_file) tower.states tower.actions table)))
          (table_answered tower_file text tower book fit table e output areas enough le) (make_made enough tower book fit few narrow table is le))

      by_book : long_enough make_areas areas ≡ true → (tower : Tower) → read_tower tower_file ≡ Ok tower → (o : Answer Book)
          → read_book tower.marks text ≡ o → RightMake tower_file text output areas (make_outcome tower_file text output areas).answer
      by_book enough tower e (Err r) f = answer_by (Err r) (made_refused enough r (book_unmade tower r e f)) (make_book enough tower r e f)
      by_book enough tower e (Ok book) f =
          let fit : FitFiles tower_file text tower book = record { tower_read = e; book_read = f } in
          by_table enough tower book fit (table_for tower book) (table_right tower book (makeable tower_file text tower book fit)) refl

      by_tower : long_enough make_areas areas ≡ true → (o : Answer Tower) → read_tower tower_file ≡ o
          → RightMake tower_file text output areas (make_outcome tower_file text output areas).answer
      by_tower enough (Err r) e = answer_by (Err r) (made_refused enough r (tower_unmade r e)) (make_tower enough r e)
      by_tower enough (Ok tower) e = by_book enough tower e (read_book tower.marks text) refl

  pub make_only : (x : MakeAnswer) → RightMake tower_file text output areas x → (make_outcome tower_file text output areas).answer ≡ x
  make_only _ (make_area short) = (make_short tower_file text output areas short).0
  make_only _ (make_tower enough r e) = made_refused enough r (tower_unmade r e)
  make_only _ (make_book enough tower r e f) = made_refused enough r (book_unmade tower r e f)
  make_only _ (make_pairs enough tower book fit many) =
      refused_call tower_file text output areas tower book fit enough Pairs
      (table_only tower book (makeable tower_file text tower book fit) (Err Pairs) (Right.too_many many))
  make_only _ (make_wide enough tower book fit few wide) =
      refused_call tower_file text output areas tower book fit enough Alternatives
      (table_only tower book (makeable tower_file text tower book fit) (Err Alternatives) (Right.too_wide few wide))
  make_only _ (make_none enough tower book fit few narrow lost) =
      refused_call tower_file text output areas tower book fit enough NoTable
      (table_only tower book (makeable tower_file text tower book fit) (Err NoTable) (Right.none_good few narrow lost))
  make_only _ (make_room enough tower book fit few narrow table is lt) =
      table_no_room tower_file text tower book fit table (made_given tower book fit few narrow table is) output areas enough lt
  make_only _ (make_made enough tower book fit few narrow table is le) =
      table_answered tower_file text tower book fit table (made_given tower book fit few narrow table is) output areas enough le

pub same_made : (tower_file text : List ℕ) (n m : ℕ) (file other_file : List ℕ) → MadeCall tower_file text n file
    → MadeCall tower_file text m other_file → (n ≡ m) × (file ≡ other_file)
same_made tower_file text n m file other_file call other_call =
    let (one, size) = made_call tower_file text n file call in
    let (two, other_size) = made_call tower_file text m other_file other_call in
    let same : file ≡ other_file = give_one (sym one ∙ two) in
    (sym size ∙ ap length same ∙ other_size, same)
  where
    give_one : ◌≡◌ {A = Answer _} (Ok file) (Ok other_file) → file ≡ other_file
    give_one e = cc

-- a refusal whose number is neither about the files nor 16 says why there is no table for their tower and their book
refused_table : (tower_file text output : List ℕ) (areas : List (List ℕ)) (r : Refusal) → (One of_files r → ⊥) → (Output ≡ r → ⊥)
    → (make_outcome tower_file text output areas).answer ≡ Err r → (it : Fit tower_file text) × (table_for it.tower it.book ≡ Err r)
unfolding One some_of
refused_table tower_file text output areas r not_of_files not_output e =
    let it = refused_fit tower_file text output areas r not_of_files e in
    (it, call_refused tower_file text output areas it.tower it.book it.fit r (λ f. not_of_files (subst (One of_files) f refl)) not_output e)

pub none_exists : (tower_file text output : List ℕ) (areas : List (List ℕ))
    → (make_outcome tower_file text output areas).answer ≡ Err NoTable → NoneGood tower_file text
unfolding One some_of
none_exists tower_file text output areas e =
    of_table
    (refused_table tower_file text output areas NoTable (λ f. never_both f refl) (λ f. let z : ◌≡◌ {A = ℕ} 0 1 = cc in omega arith) e)
  where
    of_table : (it : Fit tower_file text) × (table_for it.tower it.book ≡ Err NoTable) → NoneGood tower_file text
    of_table (it, f) =
        record {
          tower = it.tower;
          book = it.book;
          fit = it.fit;
          no_table = no_table_out it.tower it.book (makeable tower_file text it.tower it.book it.fit) f;
        }

pub beyond_size : (tower_file text output : List ℕ) (areas : List (List ℕ))
    → (make_outcome tower_file text output areas).answer ≡ Err Pairs → TooManyPairs tower_file text
unfolding One some_of
beyond_size tower_file text output areas e =
    of_table (refused_table tower_file text output areas Pairs (λ f. never_both f refl) (λ f. let z : ◌≡◌ {A = ℕ} 0 1 = cc in omega arith) e)
  where
    of_table : (it : Fit tower_file text) × (table_for it.tower it.book ≡ Err Pairs) → TooManyPairs tower_file text
    of_table (it, f) =
        record {
          tower = it.tower;
          book = it.book;
          fit = it.fit;
          many = over_out it.tower it.book (makeable tower_file text it.tower it.book it.fit) f;
        }

pub beyond_alternatives : (tower_file text output : List ℕ) (areas : List (List ℕ))
    → (make_outcome tower_file text output areas).answer ≡ Err Alternatives → TooManyAlternatives tower_file text
unfolding One some_of
beyond_alternatives tower_file text output areas e =
    of_table
    (refused_table tower_file text output areas Alternatives (λ f. never_both f refl) (λ f. let z : ◌≡◌ {A = ℕ} 0 1 = cc in omega arith) e)
  where
    of_table : (it : Fit tower_file text) × (table_for it.tower it.book ≡ Err Alternatives) → TooManyAlternatives tower_file text
    of_table (it, f) =
        let (few, wide) = wide_out it.tower it.book (makeable tower_file text it.tower it.book it.fit) f in
        record { tower = it.tower; book = it.book; fit = it.fit; few = few; wide = wide }

-- ---- what was made

-- what was made for the tower and the book of fit files
well_for : (tower_file text : List ℕ) (n : ℕ) (file : List ℕ) (tower : Tower) (book : Book) → FitFiles tower_file text tower book
    → CallWrote tower_file n file tower book → MadeWell tower_file text n file
well_for tower_file text n file tower book fit it =
    record {
      tower = tower;
      book = book;
      table = table;
      fit = fit;
      few = it.few;
      narrow = it.narrow;
      size = it.size;
      laid = laid;
      made = it.given.made;
      accepted = λ areas enough.
          check_call tower_file text file areas tower book table fit laid enough ∙ (unfold verdict in (ap verdict it.given.accepted));
      rows = ap rows_of (sym it.same) ∙ holds.rows;
    }
  where
    table : Table
    table = it.table

    fits : Fits (layout_of tower_file) tower.states tower.actions table
    fits = made_fits (layout_of tower_file) tower book table (tower_fits tower_file tower fit.tower_read) it.given.made it.given.few_rows

    holds : FileHolds (layout_of tower_file) tower.states tower.actions table (table_file (layout_of tower_file) tower.states tower.actions table)
    holds = file_holds (layout_of tower_file) tower.states tower.actions table fits

    laid : FitTable tower file table
    laid =
        subst (λ bytes. FitTable tower bytes table) it.same
        (unfold FitTable in
        (laid_out_read tower (table_file (layout_of tower_file) tower.states tower.actions table) (file_laid_out (layout_of tower_file) tower.states tower.actions table fits)
        holds.for_states holds.for_actions
        ∙ ap Ok (file_table (layout_of tower_file) tower.states tower.actions table fits)))

pub makes_well : (tower_file text : List ℕ) (n : ℕ) (file : List ℕ) → MadeCall tower_file text n file → MadeWell tower_file text n file
makes_well tower_file text n file call = of_fit (call_fit tower_file text n file call)
  where
    of_fit : Fit tower_file text → MadeWell tower_file text n file
    of_fit it =
        well_for tower_file text n file it.tower it.book it.fit (wrote tower_file text file n it.tower it.book it.fit call)

-- so the bytes hold a good table
pub made_holds : (tower_file text : List ℕ) (n : ℕ) (file : List ℕ) → MadeCall tower_file text n file → HoldsGood tower_file text file
made_holds tower_file text n file call = of_well (makes_well tower_file text n file call)
  where
    of_well : MadeWell tower_file text n file → HoldsGood tower_file text file
    of_well well =
        record {
          tower = well.tower;
          book = well.book;
          table = well.table;
          fit = well.fit;
          laid = well.laid;
          good = well.made.good;
        }

-- the table in the bytes allows just the runs that good tables allow
pub just_the_runs : (tower_file text : List ℕ) (n : ℕ) (file : List ℕ) (well : MadeWell tower_file text n file) (w : List ℕ)
    → Allows (table_of file) w ↔ GoodAllow well.tower well.book w
just_the_runs tower_file text n file well w =
    let (laid, states, actions, is) = table_read well.tower file well.table (unfold FitTable in well.laid) in
    subst (λ t. Allows t w ↔ GoodAllow well.tower well.book w) (sym is) (well.made.runs w)

pub same_bytes : (tower_file text other_text : List ℕ) (n m : ℕ) (file other_file : List ℕ) → MadeCall tower_file text n file
    → MadeCall tower_file other_text m other_file → EqualExactly tower_file text other_text n m file other_file
same_bytes tower_file text other_text n m file other_file call other_call =
    of_fit (call_fit tower_file text n file call) (call_fit tower_file other_text m other_file other_call)
  where
    of_both : (tower : Tower) (book other_book : Book) → FitFiles tower_file text tower book → FitFiles tower_file other_text tower other_book
        → EqualExactly tower_file text other_text n m file other_file
    of_both tower book other_book fit other_fit =
        record {
          tower = tower;
          book = book;
          other_book = other_book;
          fit = fit;
          other_fit = other_fit;
          exactly =
              go (wrote tower_file text file n tower book fit call) (wrote tower_file other_text other_file m tower other_book other_fit other_call);
        }
      where
        go : CallWrote tower_file n file tower book → CallWrote tower_file m other_file tower other_book
            → ((n ≡ m) × (file ≡ other_file)) ↔ ((w : List ℕ) → GoodAllow tower book w ↔ GoodAllow tower other_book w)
        go one two = (
          λ (sizes, bytes). files.1 (one.same ∙ bytes ∙ sym two.same),
          λ runs.
              let bytes : file ≡ other_file = sym one.same ∙ files.0 runs ∙ two.same in
              (sym one.size ∙ ap length bytes ∙ two.size, bytes),
        )
          where
            files : ((w : List ℕ) → GoodAllow tower book w ↔ GoodAllow tower other_book w)
                ↔ (table_file (layout_of tower_file) tower.states tower.actions one.table ≡ table_file (layout_of tower_file) tower.states tower.actions two.table)
            files =
                made_same_file (layout_of tower_file) tower book other_book one.table two.table (tower_fits tower_file tower fit.tower_read) one.given.made
                two.given.made one.given.few_rows two.given.few_rows

    of_fit : Fit tower_file text → Fit tower_file other_text → EqualExactly tower_file text other_text n m file other_file
    of_fit it other =
        of_both it.tower it.book other.book it.fit
        (subst (λ t. FitFiles tower_file other_text t other.book)
        (one_tower tower_file other.tower it.tower other.fit.tower_read it.fit.tower_read) other.fit)

pub fewest_rows : (tower_file text : List ℕ) (n : ℕ) (file : List ℕ) → MadeCall tower_file text n file → FewestRows tower_file file
fewest_rows tower_file text n file call = of_well (makes_well tower_file text n file call)
  where
    of_well : MadeWell tower_file text n file → FewestRows tower_file file
    of_well well =
        record {
          tower = well.tower;
          tower_read = well.fit.tower_read;
          fewest = λ any_book other is_good same.
              let (laid, states, actions, is) = table_read well.tower file well.table (unfold FitTable in well.laid) in
              subst (λ k. k ≤ length other) (sym well.rows)
              (made_fewest well.tower well.book well.table other well.made (good_follows well.tower any_book other is_good)
              (λ w. Iff.trans (subst (λ z. Allows other w ↔ Allows z w) is (same w)) (well.made.runs w)));
        }
