-- Which refusals the definitions can give at all, for every input; and what becomes of the lent areas.
use Prim.Native.Nat.{ℕ, zero, suc, ◌-◌}
use mathlib.Core.Path.{◌≡◌, refl, sym, ◌∙◌, ap, subst}
use mathlib.Core.Bool.{Bool, true, false, ◌||◌, not}
use Rattle.std.specs.Prelude.{Option, None, Some}
use mathlib.Core.List.{List, [], ◌∷◌}
use native.Mathlib.Omega.{arith}
use lib.ListN.{length}
use lib.Dec.{leb, ltb, eqb}
use Rattle.base.specs.Choice.{pick}
use Rattle.base.specs.Lists.{some_of, below}
use Rattle.base.specs.Bytes.{long_enough, cleared}
use Rattle.base.specs.Recursion.{to_depth, run}
use Rattle.base.specs.Answers.{Said, answered, refused, row_of, letter_of, refusal_number, refusal_place, refusal_said, reason_said, book_said, make_said, verdict_said, follow_said, log_said, Answer, ◌if◌else◌, ◌then◌}
use Rattle.std.specs.Prelude.{Err, Ok}
use Rattle.base.specs.declared.Reason.{Reason}
use Rattle.base.specs.declared.Reason.TheVariants.{Start, Withheld, Stopped, Broken}
use Rattle.base.specs.declared.Reason.TheVariants as Why
use Rattle.base.specs.declared.Refusal.{Refusal}
use Rattle.base.specs.declared.Refusal.TheVariants.{TowerSize, Range, Action, Target, Mask, Grammar, Number, Mark, Limit, Timed, Pairs, NoTable, Layout, Area, Output, Outside, NotAllowed, Log, Alternatives}
use Rattle.base.specs.declared.Rejection.TheVariants as Rejected
use Rattle.base.proofs.Lists.{whether, never_both, or_right}
use Rattle.base.proofs.Answers.{gives_not_refuses}
use Rattle.logic.specs.Tower.{Tower, most_marks, tower_of, no_header, bad_counts, bad_size, bad_actions, bad_targets, bad_masks}
use Rattle.logic.specs.Book.{Book, timed_right}
use Rattle.logic.specs.Tables.{Table, move}
use Rattle.reading.specs.TowerReading.{read_tower}
use Rattle.reading.specs.BookReading.{Line, no_line, line, line_at, ReadSoFar, most_bytes, usual_bound, over_number, over_mark, over_limit, judge_line, lines_step, read_lines, read_book}
use Rattle.reading.specs.TableReading.{laid_out, rows_of, table_actions, table_of, read_table}
use Rattle.reading.specs.LogReading.{log_from, read_log}
use Rattle.alternatives.specs.Pairs.{first_pair, over_pairs, over_alternatives}
use Rattle.outcome.specs.Areas.{book_areas, make_areas, check_areas}
use Rattle.outcome.specs.Game.{safe}
use Rattle.outcome.specs.Rows.{made_table}
use Rattle.outcome.specs.ReadBook.{book_answer, book_under, read_outcome}
use Rattle.outcome.specs.Make.{table_for, made_file, fitting, written, make_outcome}
use Rattle.outcome.specs.Check.{Finding, good_table, not_good, ◌found_if◌else◌, judge_row, judge_rows, rows_judged, judge, checked_file, verdict, check_outcome}
use Rattle.outcome.specs.Follow.{stepped, row_after, follow_answer, follow_outcome}
use Rattle.outcome.specs.Log.{LogFinding, wrong_table, comes_to, log_after, logged_file, log_answer, log_outcome}
use Rattle.outcome.specs.Log.{misfits}
use Rattle.outcome.specs.EveryCall.{book_numbers, make_numbers, check_numbers, follow_numbers, log_numbers, RefusesWith, AreasRight}

-- ---- the refusals of a chain

-- Every refusal that the answer may be has the property.
pub record Only {A : Type 0} (P : Refusal → Type 0) (o : Answer A) : Type 0 where
  pub only : (r : Refusal) → o ≡ Err r → P r

module _ (P : Refusal → Type 0) where
  refuse_only : {A : Type 0} (r : Refusal) → P r → Only {A = A} P (Err r)
  refuse_only r p = record { only = λ s e. let f : r ≡ s = cc in subst P f p }

  give_only : {A : Type 0} (x : A) → Only P (Ok x)
  give_only x = record { only = λ s e. gives_not_refuses refl e }

  if_only : {A : Type 0} (r : Refusal) (b : Bool) (o : Answer A) → P r → Only P o → Only P (r if b else o)
  unfolding ◌if◌else◌
  if_only r true o p rest = refuse_only r p
  if_only r false o p rest = rest

  then_only : {A B : Type 0} (o : Answer A) (f : A → Answer B) → Only P o → ((x : A) → Only P (f x)) → Only P (o then f)
  unfolding ◌then◌
  then_only (Err r) f known rest = refuse_only r (known.only r refl)
  then_only (Ok x) f known rest = rest x

  pick_only : {A : Type 0} (b : Bool) (o p : Answer A) → Only P o → Only P p → Only P (pick b (λ _. o) (λ _. p))
  pick_only true o p k l = k
  pick_only false o p k l = l

  -- the tower: 1 to 5
  pub tower_only : P TowerSize → P Range → P Action → P Target → P Mask → (bytes : List ℕ) → Only P (read_tower bytes)
  unfolding read_tower
  tower_only size range action target mask bytes =
      if_only TowerSize (no_header bytes) _ size
      (if_only Range (bad_counts bytes) _ range
      (if_only TowerSize (bad_size bytes) _ size
      (if_only Action (bad_actions bytes) _ action
      (if_only Target (bad_targets bytes) _ target
      (if_only Mask (bad_masks bytes) _ mask
      (give_only (tower_of bytes)))))))

  -- the book: 6 to 10
  module _ (grammar : (l : ℕ) → P (Grammar l)) (number : (l : ℕ) → P (Number l)) (mark : (l : ℕ) → P (Mark l)) (limit : (l : ℕ) → P (Limit l))
      (timed : (l : ℕ) → P (Timed l)) (marks : ℕ) (text : List ℕ) where
    line_only : (before : Book) (l : Line) → Only P (judge_line marks before l)
    unfolding judge_line
    line_only before no_line = refuse_only (Grammar (length before)) (grammar (length before))
    line_only before (line form f brackets p) =
        if_only (Number (length before)) (over_number f) _ (number (length before))
        (if_only (Mark (length before)) (over_mark marks f) _ (mark (length before))
        (if_only (Limit (length before)) (over_limit before f brackets) _ (limit (length before))
        (if_only (Timed (length before)) (not (timed_right f)) _ (timed (length before))
        (give_only _))))

    left : ReadSoFar → ℕ
    left here = length text - here.place

    stuck : ReadSoFar → Answer Book
    stuck here = Err (Grammar (length here.rules))

    rest_only : (n : ℕ) (here : ReadSoFar) → Only P (to_depth left stuck (lines_step usual_bound marks text) n here)
    unfolding to_depth stuck lines_step
    rest_only zero here = refuse_only (Grammar (length here.rules)) (grammar (length here.rules))
    rest_only (suc n) here =
        pick_only (leb (length text) here.place) _ _ (give_only here.rules)
        (then_only (judge_line marks here.rules (line_at usual_bound text here.place)) _ (line_only here.rules (line_at usual_bound text here.place))
        (λ on. rest_only n on))

    pub book_only : Only P (read_book marks text)
    unfolding read_book read_lines run left stuck
    book_only =
        if_only (Limit 0) (ltb most_bytes (length text)) _ (limit 0) (rest_only (suc (length text - 0)) (record { rules = []; place = 0 }))

  -- the table: 13
  pub table_only : P Layout → (tower : Tower) (bytes : List ℕ) → Only P (read_table tower bytes)
  unfolding read_table
  table_only layout tower bytes =
      if_only Layout (not (laid_out bytes)) _ layout
      (if_only Layout _ _ layout (give_only (table_of bytes)))

  -- the log: 19
  pub lines_only : ((l : ℕ) → P (Log l)) → (log : List ℕ) → Only P (read_log log)
  unfolding read_log
  lines_only form log = if_only (Log (length (log_from log 0).strokes)) _ _ (form (length (log_from log 0).strokes)) (give_only _)

  -- the maker: 11, 20, 12, 16
  made_only : P Pairs → P Alternatives → P NoTable → (tower : Tower) (book : Book) → Only P (table_for tower book)
  unfolding table_for
  made_only pairs alternatives no_table tower book =
      if_only Pairs (over_pairs tower book) _ pairs
      (if_only Alternatives (over_alternatives tower book) _ alternatives
      (if_only NoTable (not (safe tower book (first_pair tower book))) _ no_table (give_only (made_table tower book))))

  fitting_only : P Output → (room : ℕ) (file : List ℕ) → Only P (fitting room file)
  unfolding fitting
  fitting_only output room file = if_only Output (ltb room (length file)) _ output (give_only file)

  -- the checker: 11, 20
  found_only : (q : Reason) (b : Bool) (o : Answer Finding) → Only P o → Only P (q found_if b else o)
  unfolding ◌found_if◌else◌
  found_only q true o rest = give_only (not_good q)
  found_only q false o rest = rest

  module _ (tower : Tower) (table : Table) where
    rows_only : (rs : List ℕ) (after : Answer Finding) → Only P after → Only P (judge_rows tower table rs after)
    unfolding judge_rows judge_row
    rows_only [] after rest = rest
    rows_only (r ∷ rs) after rest =
        found_only (Withheld r) _ _ (found_only (Why.WrongStep r) _ _ (found_only (Stopped r) _ _ (rows_only rs after rest)))

    rows_judged_only : (after : Answer Finding) → Only P after → Only P (rows_judged tower table after)
    rows_judged_only after rest = found_only Start _ _ (rows_only (below (length table)) after rest)

    judge_only : P Pairs → P Alternatives → (book : Book) → Only P (judge tower book table)
    unfolding judge
    judge_only pairs alternatives book =
        rows_judged_only _ (if_only Pairs _ _ pairs (if_only Alternatives _ _ alternatives (found_only Broken _ _ (give_only good_table))))

-- ---- the numbers

-- a refusal whose number is one of these
unfoldable pub One : List ℕ → Refusal → Type 0
One numbers r = some_of (eqb (refusal_number r)) numbers ≡ true

-- what is refused is refused with its number
refused_with : (numbers : List ℕ) (n p : ℕ) (letters : List ℕ) → some_of (eqb n) numbers ≡ true → RefusesWith numbers (refused n p letters)
unfolding RefusesWith
refused_with numbers n p letters one number place inside e = let f : n ≡ number = cc in subst (λ k. some_of (eqb k) numbers ≡ true) f one

-- values are no refusal
answered_with : (numbers values : List ℕ) → RefusesWith numbers (answered values)
unfolding RefusesWith
answered_with numbers values number place inside e = let z : ◌≡◌ {A = ℕ} 0 1 = cc in absurd (omega arith)

-- where a refusal is said as itself, the numbers are those of the refusals, and of what is said of a value
said_only : {A : Type 0} (say : Answer A → Said) (numbers : List ℕ) → ((r : Refusal) → say (Err r) ≡ refusal_said r)
    → ((x : A) → RefusesWith numbers (say (Ok x))) → (o : Answer A) → Only (One numbers) o → RefusesWith numbers (say o)
unfolding One refusal_said
said_only say numbers refusals values (Err r) only =
    subst (RefusesWith numbers) (sym (refusals r)) (refused_with numbers (refusal_number r) (refusal_place r) [] (only.only r refl))
said_only say numbers refusals values (Ok x) only = values x

-- ---- a call: 15 if an area is too short, and else what the files say

module _ {X : Type 0} (say : X → Said) (numbers lengths : List ℕ) (areas after : List (List ℕ)) (inner answer at_15 : X)
    (is_15 : say at_15 ≡ refused 15 0 []) (others : RefusesWith numbers (say inner))
    (enough : long_enough lengths areas ≡ true → (answer ≡ inner) × (after ≡ cleared areas))
    (short : long_enough lengths areas ≡ false → (answer ≡ at_15) × (after ≡ areas)) where
  call_refuses : RefusesWith (15 ∷ numbers) (say answer)
  unfolding RefusesWith some_of
  call_refuses number place inside e =
      whether (long_enough lengths areas)
      (λ yes_it_is. or_right (eqb number 15) (others number place inside (ap say (sym (enough yes_it_is).0) ∙ e)))
      (λ it_is_not.
      let f : refused 15 0 [] ≡ refused number place inside = sym is_15 ∙ ap say (sym (short it_is_not).0) ∙ e in
      let g : 15 ≡ number = cc in
      subst (λ n. (eqb n 15 || some_of (eqb n) numbers) ≡ true) g refl)

  call_areas : some_of (eqb 15) numbers ≡ false → AreasRight lengths areas (answer ≡ at_15) after
  unfolding RefusesWith
  call_areas no_15 =
      record {
        exactly = (too_short, λ s. (short s).0);
        untouched = λ e. (short (too_short e)).1;
        zero = λ other. whether (long_enough lengths areas) (λ s. (enough s).1) (λ s. absurd (other (short s).0));
      }
    where
      too_short : answer ≡ at_15 → long_enough lengths areas ≡ false
      too_short e =
          whether (long_enough lengths areas)
          (λ s. never_both (others 15 0 [] (ap say (sym (enough s).0 ∙ e) ∙ is_15)) no_15)
          (λ s. s)

-- ---- the book reader

book_inner : (marks : ℕ) (text : List ℕ) → RefusesWith (2 ∷ 6 ∷ 7 ∷ 8 ∷ 9 ∷ 10 ∷ []) (book_said (book_answer (book_under marks text)))
unfolding One some_of book_said book_answer book_under
book_inner marks text =
    said_only (λ o. book_said (book_answer o)) (2 ∷ 6 ∷ 7 ∷ 8 ∷ 9 ∷ 10 ∷ []) (λ r. refl) (λ book. answered_with _ _) (book_under marks text)
    (if_only (One (2 ∷ 6 ∷ 7 ∷ 8 ∷ 9 ∷ 10 ∷ [])) Range (ltb most_marks marks) _ refl
    (book_only (One (2 ∷ 6 ∷ 7 ∷ 8 ∷ 9 ∷ 10 ∷ [])) (λ l. refl) (λ l. refl) (λ l. refl) (λ l. refl) (λ l. refl) marks text))

module _ (marks : ℕ) (text : List ℕ) (areas : List (List ℕ)) where
  pub book_enough : long_enough book_areas areas ≡ true
      → ((read_outcome marks text areas).answer ≡ book_answer (book_under marks text)) × ((read_outcome marks text areas).areas ≡ cleared areas)
  unfolding read_outcome
  book_enough e = (rw e refl, rw e refl)

  pub book_short : long_enough book_areas areas ≡ false
      → ((read_outcome marks text areas).answer ≡ Err Area) × ((read_outcome marks text areas).areas ≡ areas)
  unfolding read_outcome
  book_short e = (rw e refl, rw e refl)

  pub book_refuses : RefusesWith book_numbers (book_said (read_outcome marks text areas).answer)
  unfolding book_numbers book_said refusal_said
  book_refuses =
      call_refuses book_said (2 ∷ 6 ∷ 7 ∷ 8 ∷ 9 ∷ 10 ∷ []) book_areas areas (read_outcome marks text areas).areas (book_answer (book_under marks text))
      (read_outcome marks text areas).answer (Err Area) refl (book_inner marks text) book_enough book_short

  pub book_areas_right : AreasRight book_areas areas ((read_outcome marks text areas).answer ≡ Err Area) (read_outcome marks text areas).areas
  unfolding book_said refusal_said some_of
  book_areas_right =
      call_areas book_said (2 ∷ 6 ∷ 7 ∷ 8 ∷ 9 ∷ 10 ∷ []) book_areas areas (read_outcome marks text areas).areas (book_answer (book_under marks text))
      (read_outcome marks text areas).answer (Err Area) refl (book_inner marks text) book_enough book_short refl

-- ---- the maker

abbrev making : List ℕ
making = 1 ∷ 2 ∷ 3 ∷ 4 ∷ 5 ∷ 6 ∷ 7 ∷ 8 ∷ 9 ∷ 10 ∷ 11 ∷ 20 ∷ 12 ∷ 16 ∷ []

module _ (tower_file text output : List ℕ) where
  abbrev make_chain : Answer (List ℕ)
  make_chain = made_file tower_file text then λ file. fitting (length output) file

  make_only : Only (One making) make_chain
  unfolding One some_of made_file
  make_only =
      then_only (One making) (made_file tower_file text) _
      (then_only (One making) (read_tower tower_file) _ (tower_only (One making) refl refl refl refl refl tower_file)
      (λ tower.
      then_only (One making) (read_book tower.marks text) _
      (book_only (One making) (λ l. refl) (λ l. refl) (λ l. refl) (λ l. refl) (λ l. refl) tower.marks text)
      (λ book.
      then_only (One making) (table_for tower book) _ (made_only (One making) refl refl refl tower book)
      (λ table. give_only (One making) _))))
      (λ file. fitting_only (One making) refl (length output) file)

  -- what is said of a call does not depend on the areas
  said_made : Answer (List ℕ) → Said
  said_made o = make_said (written o output []).answer

  make_inner : RefusesWith making (make_said (written make_chain output []).answer)
  unfolding said_made written make_said
  make_inner = said_only said_made making (λ r. refl) (λ file. answered_with _ _) make_chain make_only

  -- neither the answer nor the output that a call ends with depends on the areas, and the areas end as they are handed on
  written_answer : (o : Answer (List ℕ)) (areas lent : List (List ℕ)) → (written o output areas).answer ≡ (written o output lent).answer
  unfolding written
  written_answer (Err r) areas lent = refl
  written_answer (Ok file) areas lent = refl

  written_output : (o : Answer (List ℕ)) (areas lent : List (List ℕ)) → (written o output areas).output ≡ (written o output lent).output
  unfolding written
  written_output (Err r) areas lent = refl
  written_output (Ok file) areas lent = refl

  written_areas : (o : Answer (List ℕ)) (areas : List (List ℕ)) → (written o output areas).areas ≡ areas
  unfolding written
  written_areas (Err r) areas = refl
  written_areas (Ok file) areas = refl

  module _ (areas : List (List ℕ)) where
    pub make_enough : long_enough make_areas areas ≡ true
        → ((make_outcome tower_file text output areas).answer ≡ (written make_chain output []).answer)
        × ((make_outcome tower_file text output areas).areas ≡ cleared areas)
    unfolding make_outcome
    make_enough e = (rw e (written_answer make_chain (cleared areas) []), rw e (written_areas make_chain (cleared areas)))

    pub make_output : long_enough make_areas areas ≡ true
        → (make_outcome tower_file text output areas).output ≡ (written make_chain output []).output
    unfolding make_outcome
    make_output e = rw e (written_output make_chain (cleared areas) [])

    pub make_short : long_enough make_areas areas ≡ false
        → ((make_outcome tower_file text output areas).answer ≡ Err Area) × ((make_outcome tower_file text output areas).areas ≡ areas)
    unfolding make_outcome written
    make_short e = (rw e refl, rw e refl)

    make_short_output : long_enough make_areas areas ≡ false → (make_outcome tower_file text output areas).output ≡ output
    unfolding make_outcome written
    make_short_output e = rw e refl

    pub make_refuses : RefusesWith make_numbers (make_said (make_outcome tower_file text output areas).answer)
    unfolding make_numbers make_said refusal_said
    make_refuses =
        call_refuses make_said making make_areas areas (make_outcome tower_file text output areas).areas (written make_chain output []).answer
        (make_outcome tower_file text output areas).answer (Err Area) refl make_inner make_enough make_short

    pub make_areas_right : AreasRight make_areas areas ((make_outcome tower_file text output areas).answer ≡ Err Area)
        (make_outcome tower_file text output areas).areas
    unfolding make_said refusal_said some_of
    make_areas_right =
        call_areas make_said making make_areas areas (make_outcome tower_file text output areas).areas (written make_chain output []).answer
        (make_outcome tower_file text output areas).answer (Err Area) refl make_inner make_enough make_short refl

    refused_written : (o : Answer (List ℕ)) (r : Refusal) → (written o output []).answer ≡ Err r → (written o output []).output ≡ output
    unfolding written
    refused_written (Err q) r e = refl
    refused_written (Ok file) r e = let z : ◌≡◌ {A = ℕ} 0 1 = cc in absurd (omega arith)

    -- A refusal changes no byte of the output.
    pub make_keeps_output : (r : Refusal) → (make_outcome tower_file text output areas).answer ≡ Err r
        → (make_outcome tower_file text output areas).output ≡ output
    make_keeps_output r e =
        whether (long_enough make_areas areas)
        (λ s. make_output s ∙ refused_written make_chain r (sym (make_enough s).0 ∙ e))
        (λ s. make_short_output s)

-- The answer of the maker does not depend on what areas and output hold, only on how long they are.
pub make_same_answer : (tower_file text output other : List ℕ) (areas lent : List (List ℕ)) → long_enough make_areas areas ≡ true
    → long_enough make_areas lent ≡ true → length output ≡ length other
    → (make_outcome tower_file text output areas).answer ≡ (make_outcome tower_file text other lent).answer
make_same_answer tower_file text output other areas lent enough lent_enough same =
    (make_enough tower_file text output areas enough).0 ∙ answers (made_file tower_file text then λ file. fitting (length output) file)
    ∙ ap (λ n. (written (made_file tower_file text then λ file. fitting n file) other []).answer) same
    ∙ sym (make_enough tower_file text other lent lent_enough).0
  where
    answers : (o : Answer (List ℕ)) → (written o output []).answer ≡ (written o other []).answer
    answers (Err r) = unfold written in refl
    answers (Ok file) = unfold written in refl

-- ---- the checker

abbrev checking : List ℕ
checking = 1 ∷ 2 ∷ 3 ∷ 4 ∷ 5 ∷ 6 ∷ 7 ∷ 8 ∷ 9 ∷ 10 ∷ 13 ∷ 14 ∷ 11 ∷ 20 ∷ []

-- 14 is one of them
finding_with : (x : Finding) → RefusesWith checking (verdict_said (verdict (Ok x)))
unfolding verdict verdict_said reason_said some_of
finding_with good_table = answered_with checking []
finding_with (not_good q) = refused_with checking 14 (row_of q) (letter_of q ∷ []) refl

module _ (tower_file text file : List ℕ) where
  check_only : Only (One checking) (checked_file tower_file text file)
  unfolding One some_of checked_file
  check_only =
      then_only (One checking) (read_tower tower_file) _ (tower_only (One checking) refl refl refl refl refl tower_file)
      (λ tower.
      then_only (One checking) (read_book tower.marks text) _
      (book_only (One checking) (λ l. refl) (λ l. refl) (λ l. refl) (λ l. refl) (λ l. refl) tower.marks text)
      (λ book.
      then_only (One checking) (read_table tower file) _ (table_only (One checking) refl tower file)
      (λ table. judge_only (One checking) tower table refl refl book)))

  check_inner : RefusesWith checking (verdict_said (verdict (checked_file tower_file text file)))
  unfolding verdict verdict_said
  check_inner =
      said_only (λ o. verdict_said (verdict o)) checking (λ r. refl) finding_with (checked_file tower_file text file) check_only

  module _ (areas : List (List ℕ)) where
    pub check_enough : long_enough check_areas areas ≡ true
        → ((check_outcome tower_file text file areas).answer ≡ verdict (checked_file tower_file text file))
        × ((check_outcome tower_file text file areas).areas ≡ cleared areas)
    unfolding check_outcome
    check_enough e = (rw e refl, rw e refl)

    pub check_short : long_enough check_areas areas ≡ false
        → ((check_outcome tower_file text file areas).answer ≡ Err (Rejected.Refused Area)) × ((check_outcome tower_file text file areas).areas ≡ areas)
    unfolding check_outcome verdict
    check_short e = (rw e refl, rw e refl)

    pub check_refuses : RefusesWith check_numbers (verdict_said (check_outcome tower_file text file areas).answer)
    unfolding check_numbers verdict_said refusal_said
    check_refuses =
        call_refuses verdict_said checking check_areas areas (check_outcome tower_file text file areas).areas
        (verdict (checked_file tower_file text file)) (check_outcome tower_file text file areas).answer (Err (Rejected.Refused Area)) refl check_inner
        check_enough check_short

    pub check_areas_right : AreasRight check_areas areas ((check_outcome tower_file text file areas).answer ≡ Err (Rejected.Refused Area))
        (check_outcome tower_file text file areas).areas
    unfolding verdict_said refusal_said some_of
    check_areas_right =
        call_areas verdict_said checking check_areas areas (check_outcome tower_file text file areas).areas
        (verdict (checked_file tower_file text file)) (check_outcome tower_file text file areas).answer (Err (Rejected.Refused Area)) refl check_inner
        check_enough check_short refl

-- ---- the follower

stepped_only : (P : Refusal → Type 0) → P NotAllowed → (o : Option ℕ) → Only P (stepped o)
unfolding stepped
stepped_only P not_allowed None = refuse_only P NotAllowed not_allowed
stepped_only P not_allowed (Some row) = give_only P row

pub follow_refuses : (file : List ℕ) (row action : ℕ) → RefusesWith follow_numbers (follow_said (follow_outcome file row action))
unfolding One some_of follow_numbers follow_said follow_answer follow_outcome row_after
follow_refuses file row action =
    said_only (λ o. follow_said (follow_answer o)) (13 ∷ 17 ∷ 18 ∷ []) (λ r. refl) (λ s. answered_with _ _) (row_after file row action)
    (if_only (One (13 ∷ 17 ∷ 18 ∷ [])) Layout (not (laid_out file)) _ refl
    (if_only (One (13 ∷ 17 ∷ 18 ∷ [])) Outside (leb (rows_of file) row || leb (table_actions file) action) _ refl
    (stepped_only (One (13 ∷ 17 ∷ 18 ∷ [])) refl (move (table_of file) row action))))

-- ---- the log reader

abbrev logging : List ℕ
logging = 1 ∷ 2 ∷ 3 ∷ 4 ∷ 5 ∷ 13 ∷ 14 ∷ 19 ∷ []

-- 14 is one of them
log_finding_with : (x : LogFinding) → RefusesWith logging (log_said (log_answer (Ok x)))
unfolding log_answer log_said reason_said some_of
log_finding_with (wrong_table q) = refused_with logging 14 (row_of q) (letter_of q ∷ []) refl
log_finding_with (comes_to (Ok here)) = answered_with logging _
log_finding_with (comes_to (Err first)) = answered_with logging _

log_after_only : (tower : Tower) (table : Table) (log : List ℕ) (x : Finding) → Only (One logging) (log_after tower table log x)
unfolding One some_of log_after
log_after_only tower table log (not_good q) = give_only (One logging) _
log_after_only tower table log good_table =
    then_only (One logging) (read_log log) _ (lines_only (One logging) (λ l. refl) log) (λ strokes. give_only (One logging) _)

pub log_refuses : (tower_file file log : List ℕ) → RefusesWith log_numbers (log_said (log_outcome tower_file file log))
unfolding One some_of log_numbers log_said log_answer log_outcome logged_file
log_refuses tower_file file log =
    said_only (λ o. log_said (log_answer o)) logging (λ r. refl) log_finding_with (logged_file tower_file file log)
    (then_only (One logging) (read_tower tower_file) _ (tower_only (One logging) refl refl refl refl refl tower_file)
    (λ tower.
    then_only (One logging) (read_table tower file) _ (table_only (One logging) refl tower file)
    (λ table.
    then_only (One logging) (rows_judged tower table (Ok good_table)) _
    (rows_judged_only (One logging) tower table (Ok good_table) (give_only (One logging) good_table))
    (λ finding. log_after_only tower table log finding))))
