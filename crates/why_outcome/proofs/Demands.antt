-- 02, item 4, each sentence above its theorems, and demand 1 of the letter for this entry. They are about the outcome on bytes with which the entry's
-- contract is an equation: `why_outcome`. Where the words stand: `Soonest`, `AllowedBroken`, `LowestLine`, `BrokenAt`, `ShowsWhy`: logic/specs/Why ·
-- `RightWhy`, `Explained`, `own_answer`: specs/WhyRight · `ShownWell`: specs/WhyShown. The proofs are in Answering.antt and Explained.antt.
use Prim.Native.Nat.{ℕ}
use mathlib.Core.Path.{◌≡◌, refl, sym, ◌∙◌, ap, subst}
use mathlib.Core.Logic.{◌↔◌, ◌⊎◌, inl, inr}
use mathlib.Core.Bool.{true}
use mathlib.Core.List.{List, ◌++◌}
use lib.ListN.{length, drop}
use Rattle.base.specs.Bytes.{long_enough}
use Rattle.base.specs.Answers.{why_said}
use Rattle.base.specs.declared.Reason.TheVariants.{Broken}
use Rattle.base.specs.declared.Refusal.{Refusal}
use Rattle.base.specs.declared.Refusal.TheVariants.{Area, Output}
use Rattle.base.specs.Answers.{Verdict, WhyAnswer, run_shown}
use Rattle.std.specs.Prelude.{Some, Ok, Err, None}
use Rattle.base.specs.declared.Rejection.TheVariants as Rejected
use Rattle.logic.specs.Why.{Sooner}
use Rattle.logic.specs.declared.Position.{Position}
use Rattle.alternatives.specs.Pairs.{most_pairs}
use Rattle.outcome.specs.Areas.{check_areas}
use Rattle.outcome.specs.Check.{check_outcome}
use Rattle.outcome.specs.EveryCall.{RefusesWith, AreasRight}
use Rattle.outcome.specs.RightAnswer.{RightCheck}
use Rattle.outcome.proofs.Answering.{check_right, check_only}
use Rattle.why_outcome.specs.Why.{why_file, why_answer, why_outcome}
use Rattle.why_outcome.specs.WhyRight.{own_answer, Explained, RightWhy, why_own, why_room, why_shown, why_numbers}
use Rattle.why_outcome.specs.WhyShown.{ShownWell}
use Rattle.why_outcome.proofs.Answering as Answering
use Rattle.why_outcome.proofs.Explained.{soonest_some, soonest_beginnings}

module _ (tower_file text file list : List ℕ) (areas : List (List ℕ)) where
  -- ---- Demand 1: 'the call refuses with the number that our paper gives; if it is fit .., the call answers.'

  -- The answer is x and the list then l exactly if they are the right ones of the cases in specs/WhyRight.antt. '16 comes last, if the list is
  -- shorter than the run.'
  pub whys_exactly : (x : WhyAnswer) (l : List ℕ)
      → (((why_outcome tower_file text file list areas).answer ≡ x) × ((why_outcome tower_file text file list areas).list ≡ l))
      ↔ RightWhy tower_file text file list areas x l
  whys_exactly x l = (
    λ (e, f).
        subst (λ y. RightWhy tower_file text file list areas y l) e
        (subst (RightWhy tower_file text file list areas (why_outcome tower_file text file list areas).answer) f
        (Answering.why_right tower_file text file list areas)),
    Answering.why_only tower_file text file list areas x l,
  )

  -- 15 is answered exactly if an area is too short, and then every area is as it was. In every other case every area is zero over its whole length.
  pub why_areas_right : AreasRight check_areas areas ((why_outcome tower_file text file list areas).answer ≡ Err (Rejected.Refused Area))
      (why_outcome tower_file text file list areas).areas
  why_areas_right = Answering.why_areas_right tower_file text file list areas

  -- It refuses with no number that the paper does not list for it.
  pub why_refuses : RefusesWith why_numbers (why_said (why_outcome tower_file text file list areas).answer)
  why_refuses = Answering.why_refuses tower_file text file list areas

  -- 'A refusal changes no byte of the output'.
  pub why_keeps_list : (r : Refusal) → (why_outcome tower_file text file list areas).answer ≡ Err (Rejected.Refused r)
      → (why_outcome tower_file text file list areas).list ≡ list
  why_keeps_list r e = Answering.why_keeps_list tower_file text file list areas r e

  -- ---- 02, item 4: 'On any other outcome the tool gives the checker's own answer.' The list is then as it was.

  pub own_else : (v : Verdict) → (check_outcome tower_file text file areas).answer ≡ v → (v ≡ Err (Rejected.NotGood Broken) → ⊥)
      → ((why_outcome tower_file text file list areas).answer ≡ own_answer v) × ((why_outcome tower_file text file list areas).list ≡ list)
  own_else v e other =
      Answering.why_only tower_file text file list areas (own_answer v) list
      (why_own v (subst (RightCheck tower_file text file areas) e (check_right tower_file text file areas)) other)

  -- ---- 'For a table turned down with 14 e, its keeper wants to see a shortest allowed run that is broken; among those of one length, the first by
  -- action numbers compared from the left. The tool also gives the lowest line that the run breaks and, for an `always` line, the lowest position
  -- where it isn't kept; for a `start` line, 0. Each of these is proved.'

  well : (w : List ℕ) (k : ℕ) (i : Position) → Explained tower_file text file areas w k i
      → ShownWell tower_file text file list (w ++ drop (length w) list) (length w) k i.0
  unfolding Sooner most_pairs
  well w k i ex =
      record {
        tower = ex.tower;
        book = ex.book;
        table = ex.table;
        fit = ex.fit;
        laid = ex.laid;
        run = w;
        size = refl;
        written = refl;
        allowed = ex.why.run.is.allowed;
        broken = ex.why.run.is.broken;
        shortest = λ v allowed broken less. ex.why.run.none_sooner v (record { allowed = allowed; broken = broken }) (inl less);
        first = λ v allowed broken same lower. ex.why.run.none_sooner v (record { allowed = allowed; broken = broken }) (inr (same, lower));
        beginnings = soonest_beginnings ex.tower ex.book ex.table w ex.why.run;
        some_action = soonest_some ex.tower ex.book ex.table w ex.why.run;
        few_actions = Answering.explained_few tower_file text file list areas w k i ex;
        line = ex.why.line.inside;
        line_broken = ex.why.line.broken;
        lower_kept = ex.why.line.lower;
        place = ex.why.place;
      }

  abbrev ShownBy : WhyAnswer → List ℕ → Type 0
  ShownBy (Ok (Some run)) l = ShownWell tower_file text file list l run.length run.line run.position
  ShownBy (Ok None) l = Unit {0}
  ShownBy (Err (Rejected.NotGood reason)) l = Unit {0}
  ShownBy (Err (Rejected.Refused r)) l = Unit {0}

  shown_by : (x : WhyAnswer) (l : List ℕ) → RightWhy tower_file text file list areas x l → ShownBy x l
  unfolding own_answer
  shown_by _ _ (why_own (Ok tt) right other) = tt
  shown_by _ _ (why_own (Err (Rejected.NotGood reason)) right other) = tt
  shown_by _ _ (why_own (Err (Rejected.Refused r)) right other) = tt
  shown_by _ _ (why_room w k i ex lt) = tt
  shown_by _ _ (why_shown w k i ex le) = well w k i ex

  pub shows_well : (n k p : ℕ) → (why_outcome tower_file text file list areas).answer ≡ run_shown n k p
      → ShownWell tower_file text file list (why_outcome tower_file text file list areas).list n k p
  shows_well n k p e =
      subst (λ x. ShownBy x (why_outcome tower_file text file list areas).list) e (shown_by _ _ (Answering.why_right tower_file text file list areas))

  -- And so it is for every table that is turned down with 14 e: the run is shown, or the list is too short for it.
  pub shown_or_room : (check_outcome tower_file text file areas).answer ≡ Err (Rejected.NotGood Broken)
      → ((n k p : ℕ) × ((why_outcome tower_file text file list areas).answer ≡ run_shown n k p))
      ⊎ ((why_outcome tower_file text file list areas).answer ≡ Err (Rejected.Refused Output))
  shown_or_room e = by _ _ (Answering.why_right tower_file text file list areas) refl
    where
      by : (x : WhyAnswer) (l : List ℕ) → RightWhy tower_file text file list areas x l → (why_outcome tower_file text file list areas).answer ≡ x
          → ((n k p : ℕ) × ((why_outcome tower_file text file list areas).answer ≡ run_shown n k p))
          ⊎ ((why_outcome tower_file text file list areas).answer ≡ Err (Rejected.Refused Output))
      by _ _ (why_own v right other) f = absurd (other (sym (check_only tower_file text file areas v right) ∙ e))
      by _ _ (why_room w k i ex lt) f = inr f
      by _ _ (why_shown w k i ex le) f = inl (length w, k, i.0, f)

-- 'and no entry relies on its caller to have tested anything.' The answer depends on how long list and areas are alone.
pub same_why : (tower_file text file list other : List ℕ) (areas lent : List (List ℕ)) → long_enough check_areas areas ≡ true
    → long_enough check_areas lent ≡ true → length list ≡ length other
    → (why_outcome tower_file text file list areas).answer ≡ (why_outcome tower_file text file other lent).answer
same_why tower_file text file list other areas lent enough lent_enough same =
    (Answering.why_enough tower_file text file list areas enough).0
    ∙ ap (λ n. why_answer (why_file tower_file text file n)) same
    ∙ sym (Answering.why_enough tower_file text file other lent lent_enough).0
