-- A law for each way through this crate's code: from what is known there, the answer and the list are what the definitions say.
use Prim.Native.Nat.{ℕ, ◌≤◌, ◌<◌}
use native.Mathlib.Omega.{arith}
use mathlib.Core.Path.{◌≡◌, refl, sym, ◌∙◌, ap, ap₂, subst}
use mathlib.Core.Bool.{Bool, true, false}
use mathlib.Core.List.{List, [], ◌∷◌, ◌++◌}
use lib.ListN.{length, take, drop, length-append}
use lib.Seq.{take-append_seam}
use lib.Dec.{ltb}
use Rattle.base.specs.Choice.{pick}
use Rattle.base.specs.Bytes.{long_enough, cleared}
use Rattle.base.specs.Answers.{why_said, Answer}
use Rattle.std.specs.Prelude.{Err, Ok}
use Rattle.base.specs.declared.Reason.{Reason}
use Rattle.base.specs.declared.Reason.TheVariants.{Broken}
use Rattle.base.specs.declared.Refusal.{Refusal}
use Rattle.base.specs.declared.Refusal.TheVariants.{Area, Output}
use Rattle.base.specs.Answers.{Verdict, WhyAnswer, run_shown}
use Rattle.std.specs.Prelude.{None}
use Rattle.base.specs.declared.Rejection.{Rejection}
use Rattle.base.specs.declared.Rejection.TheVariants as Rejected
use Rattle.base.proofs.Answers.{if_on, if_refuses}
use Rattle.first_runs.proofs.Sooner.{length_snoc}
use Rattle.logic.specs.Tower.{tower_of}
use Rattle.logic.specs.Runs.{trace, IsRun}
use Rattle.logic.specs.Tables.{row_at, rows_tower, Allows, AllowsFrom}
use Rattle.logic.specs.Why.{Soonest, AllowedBroken, rule_at}
use Rattle.logic.specs.declared.Position.{Position}
use Rattle.logic.proofs.Canonical.{arrives}
use Rattle.judging.specs.Judging.{lowest_line, broken_place}
use Rattle.judging.proofs.Judged.{lowest_line_is}
use Rattle.reading.specs.TableReading.{table_of}
use Rattle.alternatives.specs.Pairs.{most_pairs}
use Rattle.outcome.specs.Areas.{check_areas}
use Rattle.outcome.specs.Check.{checked_file, verdict}
use Rattle.pair_graph.specs.Steps.{HoldsGraph}
use Rattle.search_areas.specs.Lent.{LentCleared}
use Rattle.why_outcome.specs.Why.{WhyFinding, own, shows, shown_run, place_in, shown_of, shown_in, why_file, why_answer, why_list, why_outcome}
use Rattle.why_outcome.specs.WhyRight.{own_answer}
use Rattle.why_outcome.proofs.Answering.{files_why, turned_down, follows, soonest_shown, own_only, broken_finding}
use Rattle.checker_runs.specs.Examining.{verdict_of, Examines}
use Rattle.std.specs.Prelude.{Option, Some}
use Rattle.checker_runs.specs.Examining.{Examined, broken_step}
use Rattle.why_path.specs.Ways.{room_for, list_with, StepsNoted, MetFromLower, RunWritten}
use Rattle.why_lines.specs.Lines.{RunGiven, RunJudged}
use Rattle.why_lines.specs.declared.Place.{Place}
use Rattle.why.specs.Showing.{ToldBroken, ToldBrokenSome, ShowsRun, ShowsFiles, Explains}
use Rattle.why.proofs.Runs.{fit, laid, finding, known, from_lower_pairs, way_to, way_shown}

-- ---- show_run

module _ (tower nodes graph : List ℕ) (n i a actions : ℕ) (some_table : ToldBrokenSome tower nodes graph n i a)
    (at_actions : actions ≡ (tower_of tower).actions) where
  -- The graph is there, every pair but the first is met from a lower one, and the broken step is one of its steps.
  pub write_held : HoldsGraph n actions graph
  unfolding rows_tower
  write_held = subst (λ m. HoldsGraph n m graph) (sym at_actions) some_table.is.found.graph_held.holds

  pub write_lower : MetFromLower n actions graph
  write_lower =
      subst (λ m. MetFromLower n m graph) (sym at_actions)
      (from_lower_pairs tower some_table.text some_table.table nodes graph n i a some_table.is)

  pub write_pair : i < n
  write_pair = some_table.is.found.first.pair

  pub write_action : a < actions
  write_action = subst (λ m. a < m) (sym at_actions) some_table.is.found.first.action

  module _ (r : Option ℕ) (ways list list_after : List ℕ) (wrote : RunWritten r n actions graph i a ways list list_after) where
    module _ (text table : List ℕ) (down : ToldBroken tower text table nodes graph n i a) where
      abbrev run : List ℕ
      run = shown_run (tower_of tower) down.found.held.book (table_of table)

      most : (tower_of tower).actions ≤ 16
      most = omega (arith, write_held.actions_most, at_actions)

      noted : StepsNoted n (tower_of tower).actions graph 0 ways
      noted = subst (λ m. StepsNoted n m graph 0 ways) at_actions wrote.noted

      -- What was written is the run that is shown, if there was room for it.
      written_run : (r ≡ room_for list run) × (list_after ≡ list_with list run)
      written_run =
          let (w, way, short) = way_to tower text table nodes graph n i a down ways noted most in
          let same = way_shown tower text table nodes graph n i a down ways noted most w way in
          (wrote.says w way ∙ ap (room_for list) (sym same), wrote.written w way ∙ ap (list_with list) (sym same))

      too_short : (b : Bool) (k : ℕ) → None ≡ pick b (λ _. None) (λ _. Some k) → b ≡ true
      too_short true k e = refl
      too_short false k e = let z : ◌≡◌ {A = ℕ} 0 1 = cc in absurd (omega arith)

      room_there : (b : Bool) (k size : ℕ) → Some size ≡ pick b (λ _. None) (λ _. Some k) → (b ≡ false) × (size ≡ k)
      room_there true k size e = let z : ◌≡◌ {A = ℕ} 0 1 = cc in absurd (omega arith)
      room_there false k size e = let same : size ≡ k = cc in (refl, same)

      abbrev file : ℕ → Answer WhyFinding
      file room = why_file tower text table room

      shown_file : (room : ℕ) → file room ≡ shown_in room (shown_of (tower_of tower) down.found.held.book run)
      shown_file room =
          files_why tower text table (tower_of tower) down.found.held.book (table_of table)
          (fit tower text table nodes graph n i a down) (laid tower text table nodes graph n i a down) (finding tower text table nodes graph n i a down) room

      -- where it is too short,
      module _ (e : r ≡ None) where
        less : ltb (length list) (length run) ≡ true
        unfolding room_for
        less = too_short (ltb (length list) (length run)) (length run) (sym e ∙ written_run.0)

        short_file : file (length list) ≡ Err Output
        unfolding shown_in shown_of
        short_file = shown_file (length list) ∙ if_refuses Output (Ok (shows (shown_of (tower_of tower) down.found.held.book run))) less

        short_list : list_after ≡ list
        unfolding list_with
        short_list = written_run.1 ∙ (rw less refl)

      -- and where it has room
      module _ (size : ℕ) (e : r ≡ Some size) where
        there : (ltb (length list) (length run) ≡ false) × (size ≡ length run)
        unfolding room_for
        there = room_there (ltb (length list) (length run)) (length run) size (sym e ∙ written_run.0)

        long_file : file (length list) ≡ Ok (shows (shown_of (tower_of tower) down.found.held.book run))
        unfolding shown_in shown_of
        long_file = shown_file (length list) ∙ if_on Output (Ok (shows (shown_of (tower_of tower) down.found.held.book run))) there.0

        long_list : list_after ≡ run ++ drop (length run) list
        unfolding list_with
        long_list = let enough = there.0 in written_run.1 ∙ (rw enough refl)

        front : take size list_after ≡ run
        front = ap (take size) long_list ∙ ap (λ k. take k (run ++ drop (length run) list)) there.1 ∙ take-append_seam run (drop (length run) list)

        soonest : Soonest (AllowedBroken (tower_of tower) down.found.held.book (table_of table)) run
        soonest =
            let able = known tower text table nodes graph n i a down in
            soonest_shown (tower_of tower) down.found.held.book (table_of table) able
            (turned_down (tower_of tower) down.found.held.book (table_of table) able (finding tower text table nodes graph n i a down))

        is_run : IsRun (tower_of tower) run
        unfolding IsRun Allows AllowsFrom
        is_run =
            let able = known tower text table nodes graph n i a down in
            let follow =
            follows (tower_of tower) down.found.held.book (table_of table) able
            (turned_down (tower_of tower) down.found.held.book (table_of table) able (finding tower text table nodes graph n i a down)) in
            let (s, led) = soonest.is.allowed in
            ((row_at (table_of table) s).state, (arrives (tower_of tower) (table_of table) follow run s led).state)

        can_judge : RunGiven tower nodes list_after size
        unfolding most_pairs
        can_judge =
            let (w, way, short) = way_to tower text table nodes graph n i a down ways noted most in
            let same = way_shown tower text table nodes graph n i a down ways noted most w way in
            let low = down.found.first.pair in
            record {
              fit = down.found.fit;
              held = down.found.held;
              some_position = omega (arith, there.1, ap length same, length_snoc w a);
              few = omega (arith, there.1, ap length same, length_snoc w a, write_held.pairs_most);
              run_room = omega (arith, there.1, ap length long_list, length-append run (drop (length run) list));
              is = subst (IsRun (tower_of tower)) (sym front) is_run;
            }

    -- 16.
    pub run_short : r ≡ None → ShowsRun (Err (Rejected.Refused Output)) tower nodes graph n i a list list_after
    unfolding why_answer why_list
    run_short e =
        record {
          answer = λ text table down. sym (ap why_answer (short_file text table down e));
          written = λ text table down. short_list text table down e ∙ sym (ap (λ o. why_list o list) (short_file text table down e));
        }

    -- The run can be judged,
    pub run_judgeable : (size : ℕ) → r ≡ Some size → RunGiven tower nodes list_after size
    run_judgeable size e = can_judge some_table.text some_table.table some_table.is size e

    -- and is shown with its line and its position.
    pub run_told : (size : ℕ) (place : Place) → r ≡ Some size → RunJudged place tower nodes list_after size
        → ShowsRun (run_shown size place.line place.position.0) tower nodes graph n i a list list_after
    unfolding why_answer why_list shown_of place_in
    run_told size place e judged =
        record {
          answer = λ text table down. by text table down;
          written = λ text table down. long_list text table down size e ∙ sym (ap (λ o. why_list o list) (long_file text table down size e));
        }
      where
        by : (text table : List ℕ) (down : ToldBroken tower text table nodes graph n i a)
            → run_shown size place.line place.position.0 ≡ why_answer (why_file tower text table (length list))
        by text table down =
            let h = down.found.held in
            let at_line = judged.line h ∙ ap (lowest_line (tower_of tower) h.book) (front text table down size e) in
            let low =
            (lowest_line_is (tower_of tower) h.book (run text table down) (soonest text table down size e).is.broken).inside in
            let at_place = judged.place h (subst (λ k. k < length h.book) (sym at_line) low) in
            shown_same size (length (run text table down)) place.line (lowest_line (tower_of tower) h.book (run text table down))
            place.position (place_in (tower_of tower) h.book (run text table down) (lowest_line (tower_of tower) h.book (run text table down)))
            (there text table down size e).1 at_line
            (at_place ∙ ap₂ (λ w k. broken_place (tower_of tower) (trace (tower_of tower) w) (rule_at h.book k).form (rule_at h.book k).formula) (front text table down size e) at_line)
            ∙ sym (ap why_answer (long_file text table down size e))
          where
            shown_same : (m k : ℕ) (l j : ℕ) (p q : Position) → m ≡ k → l ≡ j → p ≡ q → run_shown m l p.0 ≡ run_shown k j q.0
            shown_same m k l j p q e f g = let h = ap (λ x. x.0) g in cc

-- ---- show_files

module _ (tower text table : List ℕ) (r : Examined) (nodes graph : List ℕ) (n i a : ℕ) (found : Examines r tower text table nodes graph)
    (e : r ≡ broken_step n i a) where
  told : ToldBroken tower text table nodes graph n i a
  told =
      record {
        found = found.found n i a e;
        told = broken_finding (checked_file tower text table) (sym found.says ∙ ap verdict_of e);
      }

  -- Where it is 14 e, the run decides.
  pub files_told : ToldBrokenSome tower nodes graph n i a
  files_told = record { text = text; table = table; is = told }

  pub files_shown : (x : WhyAnswer) (list after : List ℕ) → ShowsRun x tower nodes graph n i a list after → ShowsFiles x tower text table list after
  files_shown x list after shown = record { answer = shown.answer text table told; written = shown.written text table told }

module _ (tower text table list : List ℕ) (r : Examined) (nodes graph : List ℕ) (found : Examines r tower text table nodes graph) where
  -- the checker's own answer, where it is not 14 e
  own_shown : (v : Verdict) → (v ≡ Err (Rejected.NotGood Broken) → ⊥) → verdict (checked_file tower text table) ≡ v
      → ShowsFiles (own_answer v) tower text table list list
  own_shown v other e =
      let (answer, written) = own_only tower text table list v other e in record { answer = sym answer; written = sym written }

  pub files_good : r ≡ Ok None → ShowsFiles (Ok None) tower text table list list
  unfolding own_answer
  files_good e =
      own_shown (Ok tt) (λ f. let z : ◌≡◌ {A = ℕ} 0 1 = cc in omega arith) (sym found.says ∙ ap verdict_of e)

  files_wrong : (reason : Reason) → r ≡ Err (Rejected.NotGood reason) → ShowsFiles (Err (Rejected.NotGood reason)) tower text table list list
  unfolding own_answer
  files_wrong reason e =
      own_shown (Err (Rejected.NotGood reason)) (λ f. let same : reason ≡ Broken = cc in found.earlier reason e same) (sym found.says ∙ ap verdict_of e)

  files_refused : (why : Refusal) → r ≡ Err (Rejected.Refused why) → ShowsFiles (Err (Rejected.Refused why)) tower text table list list
  unfolding own_answer
  files_refused why e =
      own_shown (Err (Rejected.Refused why)) (λ f. let z : ◌≡◌ {A = ℕ} 0 1 = cc in omega arith) (sym found.says ∙ ap verdict_of e)

  -- The answer stays, whatever the rejection is.
  pub files_rejected : (why : Rejection) (x : WhyAnswer) → r ≡ Err why → x ≡ Err why → ShowsFiles x tower text table list list
  files_rejected (Rejected.NotGood reason) x e f = rw f (files_wrong reason e)
  files_rejected (Rejected.Refused why) x e f = rw f (files_refused why e)

-- ---- show

module _ (tower text table list nodes pairs index graph sets room : List ℕ) (b : Bool)
    (is_b : b ≡ long_enough check_areas (nodes ∷ pairs ∷ index ∷ graph ∷ sets ∷ room ∷ [])) where
  -- 15 changes nothing.
  pub too_short_areas : b ≡ false
      → Explains (Err (Rejected.Refused Area)) tower text table list nodes pairs index graph sets room list nodes pairs index graph sets room
  unfolding why_outcome why_answer
  too_short_areas e =
      let short = sym is_b ∙ e in
      record { answer = rw short refl; said = rw short refl; written = rw short refl; areas = rw short refl }

  -- Every other answer leaves zeros.
  pub explained_all : (r : WhyAnswer) (after n p k g s m n₁ p₁ k₁ g₁ s₁ m₁ : List ℕ) → b ≡ true → ShowsFiles r tower text table list after
      → LentCleared n₁ p₁ k₁ g₁ s₁ m₁ n p k g s m
      → length n₁ ≡ length nodes → length p₁ ≡ length pairs → length k₁ ≡ length index → length g₁ ≡ length graph
      → length s₁ ≡ length sets → length m₁ ≡ length room
      → Explains r tower text table list nodes pairs index graph sets room after n p k g s m
  unfolding why_outcome cleared
  explained_all r after n p k g s m n₁ p₁ k₁ g₁ s₁ m₁ e f zero nl pl kl gl sl ml =
      let enough = sym is_b ∙ e in
      record {
        answer = rw enough f.answer;
        said = rw enough (ap why_said f.answer);
        written = rw enough f.written;
        areas =
            rw (enough, zero.nodes_zero, zero.pairs_zero, zero.index_zero, zero.graph_zero, zero.sets_zero, zero.room_zero, nl, pl, kl, gl, sl, ml) refl;
      }
