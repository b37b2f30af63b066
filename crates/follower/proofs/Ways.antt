-- A law for each way through the follower: from what is known there, the answer is the follower's outcome.
use Prim.Native.Nat.{ℕ, ◌≤◌, ◌<◌}
use mathlib.Core.Path.{◌≡◌, sym, ◌∙◌, ap}
use mathlib.Core.Bool.{Bool, true, false, not, ◌||◌, or-true}
use mathlib.Core.List.{List}
use lib.Dec.{leb}
use borrow.Author.Tests.{le-leb, lt-leb}
use Rattle.base.specs.Answers.{Answer, ◌if◌else◌}
use Rattle.std.specs.Prelude.{Err, Ok}
use Rattle.base.specs.declared.Refusal.TheVariants.{Layout, Outside, NotAllowed}
use Rattle.base.specs.Answers.{FollowAnswer}
use Rattle.base.proofs.Answers.{if_on, if_refuses}
use Rattle.logic.specs.Tables.{move}
use Rattle.reading.specs.TableReading.{laid_out, rows_of, table_actions, table_of}
use Rattle.base.specs.Answers.{follow_said}
use Rattle.follower.specs.Following.{Follows}
use Rattle.outcome.specs.Follow.{stepped, row_after, follow_answer, follow_outcome}
use Rattle.std.specs.Prelude.{Option, Some, None}
use Rattle.file_table.proofs.Laws.{target_row, target_nothing}

-- An answer that is the outcome's is promised.
pub promised : (r : FollowAnswer) (table : List ℕ) (row action : ℕ) → r ≡ follow_outcome table row action → Follows r table row action
promised r table row action e = record { answer = e; said = ap follow_said e }

module _ (table : List ℕ) (row action : ℕ) where
  -- What the definition gives is what the follower answers.
  answered : (o : Answer ℕ) → row_after table row action ≡ o → follow_answer o ≡ follow_outcome table row action
  unfolding follow_outcome
  answered o e = sym (ap follow_answer e)

  -- what follows the test of the layout
  after_layout : laid_out table ≡ true
      → row_after table row action
      ≡ (Outside if leb (rows_of table) row || leb (table_actions table) action else stepped (move (table_of table) row action))
  unfolding row_after
  after_layout h = if_on Layout _ (ap not h)

  -- Refused with 13.
  pub not_laid_out : (b : Bool) → b ≡ laid_out table → b ≡ false → Err Layout ≡ follow_outcome table row action
  unfolding follow_answer row_after
  not_laid_out b e f = answered (Err Layout) (if_refuses Layout _ (ap not (sym e ∙ f)))

  module _ (b : Bool) (e : b ≡ laid_out table) (f : b ≡ true) (n : ℕ) (g : n ≡ rows_of table) where
    -- Refused with 17 for the row.
    pub row_outside : n ≤ row → Err Outside ≡ follow_outcome table row action
    unfolding follow_answer
    row_outside h =
        answered (Err Outside) (after_layout (sym e ∙ f) ∙ if_refuses Outside _ (rw (← g, le-leb n row h)))

    module _ (m : ℕ) (k : m ≡ table_actions table) where
      -- Refused with 17 for the action.
      pub action_outside : m ≤ action → Err Outside ≡ follow_outcome table row action
      unfolding follow_answer
      action_outside h =
          answered (Err Outside) (after_layout (sym e ∙ f) ∙ if_refuses Outside _ (rw (← k, le-leb m action h) (or-true (leb (rows_of table) row))))

      module _ (h : row < n) (i : action < m) (answer : Option ℕ) (t : answer ≡ (move (table_of table) row action)) where
        -- what follows the tests of row and action
        after_tests : row_after table row action ≡ stepped (move (table_of table) row action)
        after_tests = after_layout (sym e ∙ f) ∙ if_on Outside _ (rw (← g, ← k, lt-leb n row h, lt-leb m action i))

        -- The action leads to a row.
        pub followed : (next : ℕ) → answer ≡ Some next → Ok next ≡ follow_outcome table row action
        unfolding follow_answer stepped
        followed next r = answered (Ok next) (after_tests ∙ ap stepped (target_row (move (table_of table) row action) answer next t r))

        -- Refused with 18.
        pub not_allowed : answer ≡ None → Err NotAllowed ≡ follow_outcome table row action
        unfolding follow_answer stepped
        not_allowed r = answered (Err NotAllowed) (after_tests ∙ ap stepped (target_nothing (move (table_of table) row action) answer t r))
