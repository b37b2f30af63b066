-- The areas and the list are long enough, so that 15 and 16 never come; and what is shown is a run of the tower.
use Prim.Native.Nat.{ℕ, ◌≤◌}
use mathlib.Core.Path.{◌≡◌, refl, sym, ◌∙◌, ap, subst}
use mathlib.Core.Bool.{true, false}
use mathlib.Core.List.{List, [], ◌∷◌, ◌++◌}
use native.Mathlib.Omega.{arith}
use lib.ListN.{length, take, drop, length-append}
use lib.Seq.{take_at}
use borrow.Author.Tests.{le-leb}
use Rattle.base.specs.Lists.{some_of}
use Rattle.base.specs.Bytes.{long_enough}
use Rattle.base.specs.Answers.{Answer, refusal_said, verdict_said}
use Rattle.std.specs.Prelude.{Err, Ok}
use Rattle.base.specs.declared.Reason.TheVariants.{Broken}
use Rattle.base.specs.declared.Refusal.TheVariants.{Output}
use Rattle.base.specs.Answers.{Verdict, WhyAnswer, run_shown}
use Rattle.std.specs.Prelude.{None, Some}
use Rattle.base.specs.declared.Rejection.TheVariants as Rejected
use Rattle.logic.specs.Tower.{Tower, tower_of}
use Rattle.logic.specs.Runs.{IsRun}
use Rattle.logic.specs.Tables.{AllowsFrom, Allows}
use Rattle.logic.specs.declared.Position.{Position}
use Rattle.logic.proofs.Canonical.{FollowsRuns, arrives}
use Rattle.alternatives.specs.Pairs.{most_pairs}
use Rattle.outcome.specs.Areas.{check_areas, book_area, pairs_area, index_area, graph_area, sets_area, room_area}
use Rattle.outcome.specs.Check.{Finding, good_table, not_good, judge, verdict}
use Rattle.outcome.specs.EveryCall.{check_numbers, RefusesWith}
use Rattle.outcome.specs.RightAnswer.{RightCheck}
use Rattle.outcome.proofs.Answering.{check_only}
use Rattle.outcome.proofs.CallLaws.{check_call}
use Rattle.outcome.proofs.FitCalls.{judgeable}
use Rattle.outcome.proofs.Refusals.{check_refuses}
use Rattle.file_tower.proofs.Laws.{reads_fit, fit_reads}
use Rattle.why_outcome.specs.Why.{Shown, shows, why_file, why_answer, why_list, why_outcome}
use Rattle.why_outcome.specs.WhyRight.{own_answer, Explained, RightWhy, why_own, why_room, why_shown}
use Rattle.why_outcome.proofs.Answering.{turned_down, explained_few, why_enough, why_right}
use Rattle.why.specs.Showing.{Explains}
use Rattle.program_run.specs.Walking.{RunInList}
use Rattle.why_not.specs.Files.{ShownFiles}

-- ---- show

enough : (a b c d e f : List ℕ) → length a ≡ book_area → length b ≡ pairs_area → length c ≡ index_area → length d ≡ graph_area
    → length e ≡ sets_area → length f ≡ room_area → long_enough check_areas (a ∷ b ∷ c ∷ d ∷ e ∷ f ∷ []) ≡ true
unfolding long_enough check_areas
enough a b c d e f p q r s t u =
    rw (
      le-leb book_area (length a) (omega arith),
      le-leb pairs_area (length b) (omega arith),
      le-leb index_area (length c) (omega arith),
      le-leb graph_area (length d) (omega arith),
      le-leb sets_area (length e) (omega arith),
      le-leb room_area (length f) (omega arith),
    )

-- Only 14 e is found where the checker says so.
broken_finding : (o : Answer Finding) → verdict o ≡ Err (Rejected.NotGood Broken) → o ≡ Ok (not_good Broken)
unfolding verdict
broken_finding (Err r) e = let z : ◌≡◌ {A = ℕ} 0 1 = cc in absurd (omega arith)
broken_finding (Ok good_table) e = let z : ◌≡◌ {A = ℕ} 0 1 = cc in absurd (omega arith)
broken_finding (Ok (not_good q)) e = let same : q ≡ Broken = cc in ap (λ r. Ok (not_good r)) same

module _ (tower text table list : List ℕ) (areas : List (List ℕ)) (long : long_enough check_areas areas ≡ true) (size : length list ≡ 1000) where
  abbrev Right : WhyAnswer → List ℕ → Type 0
  Right = RightWhy tower text table list areas

  -- The checker never says 16,
  check_not_16 : (v : Verdict) → RightCheck tower text table areas v → own_answer v ≡ Err (Rejected.Refused Output) → ⊥
  unfolding own_answer RefusesWith verdict_said refusal_said check_numbers some_of
  check_not_16 (Ok tt) right e = let z : ◌≡◌ {A = ℕ} 0 1 = cc in omega arith
  check_not_16 (Err (Rejected.NotGood q)) right e = let z : ◌≡◌ {A = ℕ} 0 1 = cc in omega arith
  check_not_16 (Err (Rejected.Refused r)) right e =
      let same : r ≡ Output = cc in
      let said = ap verdict_said (check_only tower text table areas (Err (Rejected.Refused r)) right) ∙ ap refusal_said same in
      let found : false ≡ true = check_refuses tower text table areas 16 0 [] said in
      let z : ◌≡◌ {A = ℕ} 0 1 = cc in omega arith

  -- and the list is not shorter than the run.
  not_16 : (x : WhyAnswer) (l : List ℕ) → Right x l → x ≡ Err (Rejected.Refused Output) → ⊥
  unfolding most_pairs
  not_16 _ _ (why_own v right other) e = check_not_16 v right e
  not_16 _ _ (why_room w k i ex lt) e = omega (arith, explained_few tower text table list areas w k i ex)
  not_16 _ _ (why_shown w k i ex le) e = let z : ◌≡◌ {A = ℕ} 0 1 = cc in omega arith

  -- The run is one of the tower's.
  shown_run_is : (w : List ℕ) (k : ℕ) (i : Position) (ex : Explained tower text table areas w k i) → IsRun ex.tower w
  unfolding IsRun Allows AllowsFrom
  shown_run_is w k i ex =
      let known = judgeable tower text table ex.tower ex.book ex.table ex.fit ex.laid in
      let found = broken_finding (judge ex.tower ex.book ex.table)
      (sym (check_call tower text table areas ex.tower ex.book ex.table ex.fit ex.laid long)
      ∙ check_only tower text table areas (Err (Rejected.NotGood Broken)) ex.turned_down) in
      let right = (turned_down ex.tower ex.book ex.table known found).right in
      let follows : FollowsRuns ex.tower ex.table =
      record { is_table = known.is_table; start = right.a; steps = λ r low. (right.rows r low).c } in
      let (r, led) = ex.why.run.is.allowed in
      (_, (arrives ex.tower ex.table follows w r led).state)

  shown_in_list : (w : List ℕ) (k : ℕ) (i : Position) → Explained tower text table areas w k i → length w ≤ length list
      → RunInList tower (w ++ drop (length w) list) (length w)
  unfolding most_pairs
  shown_in_list w k i ex le =
      let fit = reads_fit tower ex.fit.tower_read in
      let same : ex.tower ≡ tower_of tower = cc (ex.fit.tower_read, fit_reads fit) in
      let whole : take (length w) (w ++ drop (length w) list) ≡ w = take_at w (drop (length w) list) (length w) refl in
      record {
        fit = fit;
        few = explained_few tower text table list areas w k i ex;
        room = omega (arith, length-append w (drop (length w) list));
        is = rw whole (subst (λ (t : Tower). IsRun t w) same (shown_run_is w k i ex));
      }

  abbrev InList : WhyAnswer → List ℕ → Type 0
  InList (Ok (Some run)) l = RunInList tower l run.length
  InList (Ok None) l = Unit {0}
  InList (Err (Rejected.NotGood q)) l = Unit {0}
  InList (Err (Rejected.Refused r)) l = Unit {0}

  in_list : (x : WhyAnswer) (l : List ℕ) → Right x l → InList x l
  unfolding own_answer
  in_list _ _ (why_own (Ok tt) right other) = tt
  in_list _ _ (why_own (Err (Rejected.NotGood q)) right other) = tt
  in_list _ _ (why_own (Err (Rejected.Refused r)) right other) = tt
  in_list _ _ (why_room w k i ex lt) = tt
  in_list _ _ (why_shown w k i ex le) = shown_in_list w k i ex le

  abbrev answer : WhyAnswer
  answer = (why_outcome tower text table list areas).answer

  abbrev after : List ℕ
  after = (why_outcome tower text table list areas).list

  begins : (s : Shown) → why_file tower text table 1000 ≡ Ok (shows s) → take (length s.run) after ≡ s.run
  unfolding why_list
  begins s e =
      let holds : after ≡ s.run ++ drop (length s.run) list =
      (why_enough tower text table list areas long).1 ∙ ap (λ n. why_list (why_file tower text table n) list) size ∙ ap (λ o. why_list o list) e in
      ap (take (length s.run)) holds ∙ take_at s.run (drop (length s.run) list) (length s.run) refl

  shown_files : ShownFiles answer tower text table after
  shown_files =
      let right = why_right tower text table list areas in
      record {
        answered = (why_enough tower text table list areas long).0 ∙ ap (λ n. why_answer (why_file tower text table n)) size;
        never_short = not_16 answer after right;
        begins = begins;
        in_list = λ n line place e. subst (λ x. InList x after) e (in_list answer after right);
      }

pub show_way : (r : WhyAnswer) (tower text table list a b c d e f after a' b' c' d' e' f' : List ℕ)
    → Explains r tower text table list a b c d e f after a' b' c' d' e' f' → length list ≡ 1000
    → length a ≡ book_area → length b ≡ pairs_area → length c ≡ index_area → length d ≡ graph_area → length e ≡ sets_area → length f ≡ room_area
    → ShownFiles r tower text table after
show_way r tower text table list a b c d e f after a' b' c' d' e' f' explains size p q s t u v =
    let areas = a ∷ b ∷ c ∷ d ∷ e ∷ f ∷ [] in
    subst (λ (x : WhyAnswer). ShownFiles x tower text table after) (sym explains.answer)
    (subst (λ (l : List ℕ). ShownFiles (why_outcome tower text table list areas).answer tower text table l) (sym explains.written)
    (shown_files tower text table list areas (enough a b c d e f p q s t u v) size))

-- ---- tell

pub told_run : (answer : WhyAnswer) (n line place : ℕ) (tower text table list : List ℕ) → ShownFiles answer tower text table list
    → answer ≡ run_shown n line place → RunInList tower list n
told_run answer n line place tower text table list shown e = shown.in_list n line place e
