-- A law for each way through the entry: from what is known there, answer and areas are what the definitions say.
use Prim.Native.Nat.{ℕ}
use mathlib.Core.Path.{◌≡◌, sym, ◌∙◌, ap}
use mathlib.Core.Bool.{Bool, true, false}
use mathlib.Core.List.{List, [], ◌∷◌}
use lib.ListN.{length}
use Rattle.base.specs.Bytes.{long_enough, cleared}
use Rattle.base.specs.Answers.{verdict_said}
use Rattle.base.specs.declared.Refusal.TheVariants.{Area}
use Rattle.base.specs.Answers.{Verdict}
use Rattle.std.specs.Prelude.{Err}
use Rattle.base.specs.declared.Rejection.TheVariants as Rejected
use Rattle.outcome.specs.Areas.{check_areas}
use Rattle.outcome.specs.Check.{verdict, check_outcome}
use Rattle.search_areas.specs.Lent.{LentCleared}
use Rattle.checker_runs.specs.Examining.{verdict_of, Examines}
use Rattle.checker_runs.specs.Examining.{Examined}
use Rattle.checker.specs.Checking.{Checks}

-- ---- answer

-- Each case is that of the definition.
pub answered : (x y : Examined) (r : Verdict) → x ≡ y → r ≡ verdict_of y → r ≡ verdict_of x
answered x y r e f = f ∙ ap verdict_of (sym e)

-- ---- check

module _ (tower text table nodes pairs index graph sets room : List ℕ) (b : Bool)
    (is_b : b ≡ long_enough check_areas (nodes ∷ pairs ∷ index ∷ graph ∷ sets ∷ room ∷ [])) where
  -- 15 changes nothing.
  pub too_short : b ≡ false
      → Checks (Err (Rejected.Refused Area)) tower text table nodes pairs index graph sets room nodes pairs index graph sets room
  unfolding check_outcome verdict
  too_short e =
      let short = sym is_b ∙ e in
      record { answer = rw short; said = rw short; areas = rw short }

  -- Every other answer leaves zeros.
  pub checked_all : (r : Verdict) (x : Examined) (n p k g s m n₁ p₁ k₁ g₁ s₁ m₁ : List ℕ) → b ≡ true → r ≡ verdict_of x
      → Examines x tower text table n₁ g₁ → LentCleared n₁ p₁ k₁ g₁ s₁ m₁ n p k g s m
      → length n₁ ≡ length nodes → length p₁ ≡ length pairs → length k₁ ≡ length index → length g₁ ≡ length graph
      → length s₁ ≡ length sets → length m₁ ≡ length room
      → Checks r tower text table nodes pairs index graph sets room n p k g s m
  unfolding check_outcome cleared
  checked_all r x n p k g s m n₁ p₁ k₁ g₁ s₁ m₁ e f of zero nl pl kl gl sl ml =
      let enough = sym is_b ∙ e in
      let right = f ∙ of.says in
      record {
        answer = rw enough right;
        said = rw enough (ap verdict_said right);
        areas =
            rw (enough, zero.nodes_zero, zero.pairs_zero, zero.index_zero, zero.graph_zero, zero.sets_zero, zero.room_zero, nl, pl, kl, gl, sl, ml);
      }
