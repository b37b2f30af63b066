-- The entry's answer and what the list holds then are the right ones, and no others are; which numbers it refuses with, and what becomes of the areas.
use Prim.Native.Nat.{ℕ, ◌≤◌, ◌<◌}
use mathlib.Core.Path.{◌≡◌, refl, sym, ◌∙◌, ap, subst}
use mathlib.Core.Bool.{Bool, true, false, ◌||◌}
use mathlib.Core.List.{List, [], ◌∷◌, ◌++◌}
use native.Mathlib.Omega.{arith}
use lib.ListN.{length, drop}
use lib.Dec.{ltb, eqb}
use borrow.Author.Tests.{ltb-true, ltb-false, lt-ltb, le-ltb}
use Rattle.base.specs.Lists.{some_of}
use Rattle.base.specs.Bytes.{long_enough, cleared}
use Rattle.base.specs.Answers.{refusal_said, verdict_said, why_said, Answer}
use Rattle.std.specs.Prelude.{Err, Ok}
use Rattle.base.specs.declared.Reason.{Reason}
use Rattle.base.specs.declared.Reason.TheVariants.{Broken}
use Rattle.base.specs.declared.Reason.TheVariants as Why
use Rattle.base.specs.declared.Refusal.{Refusal}
use Rattle.base.specs.declared.Refusal.TheVariants.{Area, Output}
use Rattle.base.specs.Answers.{Verdict, WhyAnswer, run_shown}
use Rattle.base.specs.declared.Rejection.TheVariants as Rejected
use Rattle.base.proofs.Lists.{whether, false_by, true_by, some_append}
use Rattle.base.proofs.Answers.{if_on, if_refuses, then_on}
use Rattle.logic.specs.Tower.{Tower, Listed}
use Rattle.logic.specs.Book.{Book}
use Rattle.logic.specs.Tables.{Table, rows_tower, NoneBroken}
use Rattle.logic.specs.Why.{AllowedBroken, Soonest, ShowsWhy}
use Rattle.logic.specs.declared.Position.{Position}
use Rattle.logic.proofs.Canonical.{FollowsRuns}
use Rattle.alternatives.specs.Pairs.{most_pairs, over_alternatives}
use Rattle.alternatives.proofs.Theorems.{tried_unbroken}
use Rattle.judging.specs.Judging.{lowest_line}
use Rattle.outcome.specs.Areas.{check_areas}
use Rattle.outcome.specs.Calls.{FitFiles, FitTable}
use Rattle.outcome.specs.Check.{Finding, good_table, not_good, over_items, some_broken, judge, checked_file, verdict}
use Rattle.outcome.specs.EveryCall.{check_numbers, RefusesWith, AreasRight}
use Rattle.outcome.specs.Reached.{ReachedItem, MoreThan, GivesOver}
use Rattle.outcome.specs.RightAnswer.{RightCheck}
use Rattle.outcome.specs.VerdictRight.{Judgeable, RightBelow, FirstOfRows, reason_a, reason_b, reason_c, reason_d, FirstReason, by_rows, too_many, too_wide, reason_e, good}
use Rattle.outcome.proofs.Answering.{check_right, check_only}
use Rattle.outcome.proofs.CallLaws.{check_call}
use Rattle.outcome.proofs.Checker.{right_follows, right_listed, judged, few_in}
use Rattle.outcome.proofs.Counted.{over_full_items_iff}
use Rattle.outcome.proofs.FitCalls.{judgeable}
use Rattle.outcome.proofs.Items.{all_walked}
use Rattle.outcome.proofs.Refusals.{check_enough, check_short, check_refuses, check_areas_right}
use Rattle.why_outcome.specs.Why.{Shown, shows, shown_run, place_in, shown_of, shown_in, why_behind, why_file, why_answer, why_list, why_outcome}
use Rattle.why_outcome.specs.WhyRight.{own_answer, Explained, RightWhy, why_own, why_room, why_shown, why_numbers}
use Rattle.why_outcome.proofs.Files.{Earlier, why_by}
use Rattle.why_outcome.proofs.Breaking.{SizedRight, some_broken_run}
use Rattle.why_outcome.proofs.Explained.{shown_soonest, shows_why, line_only, place_only, run_only, soonest_few}

-- ---- where the checker says 14 e

-- what is known if the reason is e
abbrev IfBroken : Type 0 → Reason → Type 0
IfBroken X Why.Start = Unit {0}
IfBroken X (Why.Withheld r) = Unit {0}
IfBroken X (Why.WrongStep r) = Unit {0}
IfBroken X (Why.Stopped r) = Unit {0}
IfBroken X Broken = X

-- What is known of a table of which the checker says so.
pub record FailsAtE (tower : Tower) (book : Book) (table : Table) : Type 0 where
  pub right : RightBelow tower table (length table)
  pub few : MoreThan most_pairs (ReachedItem tower book table) → ⊥
  pub narrow : GivesOver (rows_tower tower table) book → ⊥
  pub wrong : NoneBroken tower book table → ⊥

module _ (tower : Tower) (book : Book) (table : Table) where
  abbrev Told : Answer Finding → Type 0
  Told (Err r) = Unit {0}
  Told (Ok good_table) = Unit {0}
  Told (Ok (not_good q)) = IfBroken (FailsAtE tower book table) q

  of_rows : (q : Reason) → FirstOfRows tower table q → IfBroken (FailsAtE tower book table) q
  of_rows _ (reason_a wrong) = tt
  of_rows _ (reason_b r low right wrong) = tt
  of_rows _ (reason_c r low right b wrong) = tt
  of_rows _ (reason_d r low right b c wrong) = tt

  told : (o : Answer Finding) → FirstReason tower book table o → Told o
  told _ (by_rows q first) = of_rows q first
  told _ (too_many right many) = tt
  told _ (too_wide right few wide) = tt
  told _ (reason_e right few narrow wrong) = record { right = right; few = few; narrow = narrow; wrong = wrong }
  told _ (good is few narrow) = tt

  -- Where it says 14 e, this is known.
  pub turned_down : Judgeable tower book table → judge tower book table ≡ Ok (not_good Broken) → FailsAtE tower book table
  turned_down known e = told (Ok (not_good Broken)) (subst (FirstReason tower book table) e (judged tower book table known))

  module _ (known : Judgeable tower book table) (down : FailsAtE tower book table) where
    pub follows : FollowsRuns tower table
    follows = right_follows tower book table known down.right

    listed : Listed (rows_tower tower table)
    listed = right_listed tower book table known down.right

    few : over_items tower book table ≡ false
    few = few_in tower book table known down.right down.few

    -- The same as tests: rows with what is pending are not too many, and none is over_full;
    pub turned : SizedRight tower book table
    turned =
        record {
          known = known;
          right = down.right;
          few = few;
          narrow =
              false_by (over_alternatives (rows_tower tower table) book)
              (λ e. down.narrow ((over_full_items_iff tower book table listed few).0 e));
        }

    -- and some step is broken.
    pub broken_found : some_broken (rows_tower tower table) book ≡ true
    unfolding NoneBroken
    broken_found =
        true_by (some_broken (rows_tower tower table) book)
        (λ whole.
        down.wrong (λ w allowed.
        let (v, e) = all_walked tower book table follows listed few whole w allowed in
        tried_unbroken tower book known.fit w v e))

    -- What is shown is a soonest run of the kind.
    pub soonest_shown : Soonest (AllowedBroken tower book table) (shown_run tower book table)
    unfolding Listed rows_tower
    soonest_shown =
        let (v, is, short) = some_broken_run tower book table turned broken_found in
        shown_soonest tower book table (λ r s a e. listed r a s e) v is short

-- ---- the files

module _ (tower_file text file : List ℕ) (tower : Tower) (book : Book) (table : Table) (fit : FitFiles tower_file text tower book)
    (laid : FitTable tower file table) (e : judge tower book table ≡ Ok (not_good Broken)) where
  abbrev run : List ℕ
  run = shown_run tower book table

  known : Judgeable tower book table
  known = judgeable tower_file text file tower book table fit laid

  soonest : Soonest (AllowedBroken tower book table) run
  soonest = soonest_shown tower book table known (turned_down tower book table known e)

  -- What is shown is right.
  pub explained : (areas : List (List ℕ)) → long_enough check_areas areas ≡ true
      → Explained tower_file text file areas run (lowest_line tower book run) (place_in tower book run (lowest_line tower book run))
  unfolding verdict
  explained areas enough =
      record {
        tower = tower;
        book = book;
        table = table;
        fit = fit;
        laid = laid;
        turned_down =
            subst (RightCheck tower_file text file areas)
            (check_call tower_file text file areas tower book table fit laid enough ∙ ap verdict e) (check_right tower_file text file areas);
        why = shows_why tower book table run soonest;
      }

  -- Where the list has room for the run it is shown, and else it is 16.
  abbrev shown : Shown
  shown = shown_of tower book run

  pub files_why : (room : ℕ) → why_file tower_file text file room ≡ shown_in room shown
  unfolding why_file FitTable why_behind
  files_why room = then_on _ fit.tower_read ∙ then_on _ fit.book_read ∙ then_on _ laid ∙ then_on _ e

  pub no_room : (room : ℕ) → room < length run → shown_in room shown ≡ Err Output
  unfolding shown_in shown_of
  no_room room short = if_refuses Output _ (lt-ltb room (length run) short)

  pub with_room : (room : ℕ) → length run ≤ room → shown_in room shown ≡ Ok (shows shown)
  unfolding shown_in shown_of
  with_room room long = if_on Output _ (le-ltb room (length run) long)

  -- No other run, line and position are right.
  pub shown_only : (w : List ℕ) (k : ℕ) (i : Position) → ShowsWhy tower book table w k i
      → (w ≡ run) × (k ≡ lowest_line tower book run) × (i ≡ place_in tower book run (lowest_line tower book run))
  shown_only w k i why =
      let same = run_only tower book table run w k i soonest why in (
        same,
        line_only tower book table w k i why ∙ ap (lowest_line tower book) same,
        place_only tower book table w k i why ∙ ap (λ v. place_in tower book v (lowest_line tower book v)) same,
      )

-- ---- the right answer

-- Only 14 e is 14 e.
not_area : ◌≡◌ {A = Verdict} (Err (Rejected.Refused Area)) (Err (Rejected.NotGood Broken)) → ⊥
not_area e = let z : ◌≡◌ {A = ℕ} 0 1 = cc in omega arith

earlier_not : (q : Reason) → Earlier q → ◌≡◌ {A = Verdict} (Err (Rejected.NotGood q)) (Err (Rejected.NotGood Broken)) → ⊥
unfolding Earlier
earlier_not Why.Start h e = let z : ◌≡◌ {A = ℕ} 0 1 = cc in omega arith
earlier_not (Why.Withheld r) h e = let z : ◌≡◌ {A = ℕ} 0 1 = cc in omega arith
earlier_not (Why.WrongStep r) h e = let z : ◌≡◌ {A = ℕ} 0 1 = cc in omega arith
earlier_not (Why.Stopped r) h e = let z : ◌≡◌ {A = ℕ} 0 1 = cc in omega arith
earlier_not Broken h e = h

pub broken_finding : (o : Answer Finding) → verdict o ≡ Err (Rejected.NotGood Broken) → o ≡ Ok (not_good Broken)
unfolding verdict
broken_finding (Err r) e = let z : ◌≡◌ {A = ℕ} 0 1 = cc in absurd (omega arith)
broken_finding (Ok good_table) e = let z : ◌≡◌ {A = ℕ} 0 1 = cc in absurd (omega arith)
broken_finding (Ok (not_good q)) e = let same : q ≡ Broken = cc in ap (λ r. Ok (not_good r)) same

-- The checker's own answer, where it is not 14 e.
pub own_only : (tower_file text file list : List ℕ) (v : Verdict) → (v ≡ Err (Rejected.NotGood Broken) → ⊥) → verdict (checked_file tower_file text file) ≡ v
    → (why_answer (why_file tower_file text file (length list)) ≡ own_answer v) × (why_list (why_file tower_file text file (length list)) list ≡ list)
unfolding why_answer why_list verdict own_answer
own_only tower_file text file list v other e =
    why_by tower_file text file (length list)
    (λ o w. verdict o ≡ v → (why_answer w ≡ own_answer v) × (why_list w list ≡ list))
    (λ r f. (ap own_answer f, refl)) (λ f. (ap own_answer f, refl)) (λ q earlier f. (ap own_answer f, refl))
    (λ tower book table fit laid f g. absurd (other (sym g))) e

module _ (tower_file text file list : List ℕ) (areas : List (List ℕ)) where
  abbrev Right : WhyAnswer → List ℕ → Type 0
  Right = RightWhy tower_file text file list areas

  -- With areas that are long enough, and too short.
  pub why_enough : long_enough check_areas areas ≡ true
      → ((why_outcome tower_file text file list areas).answer ≡ why_answer (why_file tower_file text file (length list)))
      × ((why_outcome tower_file text file list areas).list ≡ why_list (why_file tower_file text file (length list)) list)
      × ((why_outcome tower_file text file list areas).areas ≡ cleared areas)
  unfolding why_outcome
  why_enough e = (rw e refl, rw e refl, rw e refl)

  pub why_short : long_enough check_areas areas ≡ false
      → ((why_outcome tower_file text file list areas).answer ≡ Err (Rejected.Refused Area))
      × ((why_outcome tower_file text file list areas).list ≡ list) × ((why_outcome tower_file text file list areas).areas ≡ areas)
  unfolding why_outcome why_answer
  why_short e = (rw e refl, rw e refl, rw e refl)

  -- the checker's own answer is right
  checker_right : long_enough check_areas areas ≡ true → (o : Answer Finding) → checked_file tower_file text file ≡ o
      → RightCheck tower_file text file areas (verdict o)
  checker_right enough o e =
      subst (RightCheck tower_file text file areas) ((check_enough tower_file text file areas enough).0 ∙ ap verdict e) (check_right tower_file text file areas)

  right_enough : long_enough check_areas areas ≡ true
      → Right (why_answer (why_file tower_file text file (length list))) (why_list (why_file tower_file text file (length list)) list)
  unfolding why_answer why_list verdict own_answer shown_of
  right_enough enough =
      why_by tower_file text file (length list)
      (λ o w. checked_file tower_file text file ≡ o → Right (why_answer w) (why_list w list))
      (λ r e. why_own (Err (Rejected.Refused r)) (checker_right enough (Err r) e) (λ f. let z : ◌≡◌ {A = ℕ} 0 1 = cc in omega arith))
      (λ e. why_own (Ok tt) (checker_right enough (Ok good_table) e) (λ f. let z : ◌≡◌ {A = ℕ} 0 1 = cc in omega arith))
      (λ q earlier e. why_own (Err (Rejected.NotGood q)) (checker_right enough (Ok (not_good q)) e) (earlier_not q earlier))
      (λ tower book table fit laid e f. by tower book table fit laid e) refl
    where
      by : (tower : Tower) (book : Book) (table : Table) → FitFiles tower_file text tower book → FitTable tower file table
          → judge tower book table ≡ Ok (not_good Broken)
          → Right (why_answer (shown_in (length list) (shown_of tower book (shown_run tower book table))))
          (why_list (shown_in (length list) (shown_of tower book (shown_run tower book table))) list)
      by tower book table fit laid e =
          let ex = explained tower_file text file tower book table fit laid e areas enough in
          whether (ltb (length list) (length (shown_run tower book table)))
          (λ short.
          let lt = ltb-true (length list) (length (shown_run tower book table)) short in
          subst (λ o. Right (why_answer o) (why_list o list))
          (sym (no_room tower_file text file tower book table fit laid e (length list) lt)) (why_room _ _ _ ex lt))
          (λ long.
          let le = ltb-false (length list) (length (shown_run tower book table)) long in
          subst (λ o. Right (why_answer o) (why_list o list))
          (sym (with_room tower_file text file tower book table fit laid e (length list) le)) (why_shown _ _ _ ex le))

  -- The answer is right, with what the list holds.
  pub why_right : Right (why_outcome tower_file text file list areas).answer (why_outcome tower_file text file list areas).list
  unfolding own_answer
  why_right =
      whether (long_enough check_areas areas)
      (λ enough.
      let (a, l, z) = why_enough enough in
      subst (λ x. Right x (why_outcome tower_file text file list areas).list) (sym a)
      (subst (Right (why_answer (why_file tower_file text file (length list)))) (sym l) (right_enough enough)))
      (λ short.
      let (a, l, z) = why_short short in
      subst (λ x. Right x (why_outcome tower_file text file list areas).list) (sym a)
      (subst (Right (Err (Rejected.Refused Area))) (sym l)
      (why_own (Err (Rejected.Refused Area))
      (subst (RightCheck tower_file text file areas) (check_short tower_file text file areas short).0 (check_right tower_file text file areas)) not_area)))

  -- the areas are long enough where the checker says 14 e
  told_enough : RightCheck tower_file text file areas (Err (Rejected.NotGood Broken)) → long_enough check_areas areas ≡ true
  told_enough right =
      true_by (long_enough check_areas areas)
      (λ short. not_area (sym (check_short tower_file text file areas short).0 ∙ check_only tower_file text file areas (Err (Rejected.NotGood Broken)) right))

  -- and then its finding is this
  told_finding : (w : List ℕ) (k : ℕ) (i : Position) (ex : Explained tower_file text file areas w k i)
      → judge ex.tower ex.book ex.table ≡ Ok (not_good Broken)
  told_finding w k i ex =
      broken_finding (judge ex.tower ex.book ex.table)
      (sym (check_call tower_file text file areas ex.tower ex.book ex.table ex.fit ex.laid (told_enough ex.turned_down))
      ∙ check_only tower_file text file areas (Err (Rejected.NotGood Broken)) ex.turned_down)

  -- What is shown has at most 1,000 actions.
  pub explained_few : (w : List ℕ) (k : ℕ) (i : Position) → Explained tower_file text file areas w k i → length w ≤ most_pairs
  explained_few w k i ex =
      let able = judgeable tower_file text file ex.tower ex.book ex.table ex.fit ex.laid in
      let down = turned_down ex.tower ex.book ex.table able (told_finding w k i ex) in
      let (v, is, short) =
      some_broken_run ex.tower ex.book ex.table (turned ex.tower ex.book ex.table able down) (broken_found ex.tower ex.book ex.table able down) in
      soonest_few ex.tower ex.book ex.table w v ex.why.run is short

  -- No other answer is right, and nothing else in the list.
  pub why_only : (x : WhyAnswer) (l : List ℕ) → Right x l
      → ((why_outcome tower_file text file list areas).answer ≡ x) × ((why_outcome tower_file text file list areas).list ≡ l)
  unfolding why_answer why_list own_answer shown_of
  why_only _ _ (why_own v right other) =
      whether (long_enough check_areas areas)
      (λ enough.
      let (a, b, z) = why_enough enough in
      let (c, d) = own_only tower_file text file list v other (sym (check_enough tower_file text file areas enough).0 ∙ check_only tower_file text file areas v right) in
      (a ∙ c, b ∙ d))
      (λ short.
      let (a, b, z) = why_short short in
      (a ∙ ap own_answer (sym (check_short tower_file text file areas short).0 ∙ check_only tower_file text file areas v right), b))
  why_only _ _ (why_room w k i ex lt) =
      let enough = told_enough ex.turned_down in
      let e = told_finding w k i ex in
      let (a, b, z) = why_enough enough in
      let (same, at_line, at_place) = shown_only tower_file text file ex.tower ex.book ex.table ex.fit ex.laid e w k i ex.why in
      let file_is =
      files_why tower_file text file ex.tower ex.book ex.table ex.fit ex.laid e (length list)
      ∙ no_room tower_file text file ex.tower ex.book ex.table ex.fit ex.laid e (length list) (subst (λ v. length list < length v) same lt) in
      (a ∙ ap why_answer file_is, b ∙ ap (λ o. why_list o list) file_is)
  why_only _ _ (why_shown w k i ex le) =
      let enough = told_enough ex.turned_down in
      let e = told_finding w k i ex in
      let (a, b, z) = why_enough enough in
      let (same, at_line, at_place) = shown_only tower_file text file ex.tower ex.book ex.table ex.fit ex.laid e w k i ex.why in
      let file_is =
      files_why tower_file text file ex.tower ex.book ex.table ex.fit ex.laid e (length list)
      ∙ with_room tower_file text file ex.tower ex.book ex.table ex.fit ex.laid e (length list) (subst (λ v. length v ≤ length list) same le) in (
        a ∙ ap why_answer file_is ∙ shown_same (length (shown_run ex.tower ex.book ex.table)) (length w) _ k _ i.0 (ap length (sym same)) (sym at_line) (ap (λ p. p.0) (sym at_place)),
        b ∙ ap (λ o. why_list o list) file_is ∙ ap (λ v. v ++ drop (length v) list) (sym same),
      )
    where
      shown_same : (n m k l p q : ℕ) → n ≡ m → k ≡ l → p ≡ q → run_shown n k p ≡ run_shown m l q
      shown_same n m k l p q e f g = cc

  -- ---- which numbers, and the areas

  said_own : (v : Verdict) → why_said (own_answer v) ≡ verdict_said v
  unfolding why_said own_answer verdict_said
  said_own (Ok tt) = refl
  said_own (Err (Rejected.NotGood reason)) = refl
  said_own (Err (Rejected.Refused r)) = refl

  with_16 : (number : ℕ) → some_of (eqb number) check_numbers ≡ true → some_of (eqb number) why_numbers ≡ true
  unfolding why_numbers
  with_16 number e = some_append (eqb number) check_numbers (16 ∷ []) ∙ ap (λ (b : Bool). b || some_of (eqb number) (16 ∷ [])) e

  numbers : (x : WhyAnswer) (l : List ℕ) → Right x l → RefusesWith why_numbers (why_said x)
  unfolding RefusesWith why_said refusal_said
  numbers _ _ (why_own v right other) number place inside e =
      with_16 number
      (subst (λ u. RefusesWith check_numbers (verdict_said u)) (check_only tower_file text file areas v right) (check_refuses tower_file text file areas)
      number place inside (sym (said_own v) ∙ e))
  numbers _ _ (why_room w k i ex lt) number place inside e =
      let is : 16 ≡ number = cc in subst (λ n. some_of (eqb n) why_numbers ≡ true) is (unfold why_numbers check_numbers some_of in refl)
  numbers _ _ (why_shown w k i ex le) number place inside e = let z : ◌≡◌ {A = ℕ} 0 1 = cc in absurd (omega arith)

  -- It refuses with no other number.
  pub why_refuses : RefusesWith why_numbers (why_said (why_outcome tower_file text file list areas).answer)
  why_refuses = numbers _ _ why_right

  area_only : (x : WhyAnswer) (l : List ℕ) → Right x l → x ≡ Err (Rejected.Refused Area) → long_enough check_areas areas ≡ false
  unfolding own_answer
  area_only _ _ (why_own v right other) e =
      (check_areas_right tower_file text file areas).exactly.0 (check_only tower_file text file areas v right ∙ own_area v e)
    where
      own_area : (v : Verdict) → own_answer v ≡ Err (Rejected.Refused Area) → v ≡ Err (Rejected.Refused Area)
      own_area (Ok tt) e = let z : ◌≡◌ {A = ℕ} 0 1 = cc in absurd (omega arith)
      own_area (Err (Rejected.NotGood reason)) e = let z : ◌≡◌ {A = ℕ} 0 1 = cc in absurd (omega arith)
      own_area (Err (Rejected.Refused r)) e = let same : r ≡ Area = cc in ap (λ r. Err (Rejected.Refused r)) same
  area_only _ _ (why_room w k i ex lt) e = let z : ◌≡◌ {A = ℕ} 0 1 = cc in absurd (omega arith)
  area_only _ _ (why_shown w k i ex le) e = let z : ◌≡◌ {A = ℕ} 0 1 = cc in absurd (omega arith)

  -- 15 is answered exactly if an area is too short, and then every area is as it was; else every area is zero.
  pub why_areas_right : AreasRight check_areas areas ((why_outcome tower_file text file list areas).answer ≡ Err (Rejected.Refused Area))
      (why_outcome tower_file text file list areas).areas
  why_areas_right =
      record {
        exactly = (area_only _ _ why_right, λ short. (why_short short).0);
        untouched = λ e. (why_short (area_only _ _ why_right e)).2;
        zero = λ other. whether (long_enough check_areas areas) (λ enough. (why_enough enough).2) (λ short. absurd (other (why_short short).0));
      }

  refused_list : (x : WhyAnswer) (l : List ℕ) → Right x l → (r : Refusal) → x ≡ Err (Rejected.Refused r) → l ≡ list
  refused_list _ _ (why_own v right other) r e = refl
  refused_list _ _ (why_room w k i ex lt) r e = refl
  refused_list _ _ (why_shown w k i ex le) r e = let z : ◌≡◌ {A = ℕ} 0 1 = cc in absurd (omega arith)

  -- A refusal changes no byte of the list.
  pub why_keeps_list : (r : Refusal) → (why_outcome tower_file text file list areas).answer ≡ Err (Rejected.Refused r)
      → (why_outcome tower_file text file list areas).list ≡ list
  why_keeps_list r e = refused_list _ _ why_right r e
