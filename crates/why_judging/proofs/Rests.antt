-- A run as bytes: what is left of it from a position on, the lengths of its steps, and what is ahead.
use Prim.Native.Nat.{ℕ, suc, ◌+◌, ◌-◌, ◌*◌, ◌≤◌, ◌<◌}
use native.Mathlib.Omega.{arith}
use native.Mathlib.Numerals.{add-one}
use mathlib.Core.Path.{◌≡◌, refl, sym, ap, ◌∙◌}
use mathlib.Core.Bool.{Bool, true, false, ◌&&◌}
use mathlib.Core.List.{List, [], ◌∷◌}
use lib.ListN.{get_or, set}
use lib.Dec.{eqb}
use mir.Syntax.{w8}
use mir.Val.{Fits}
use borrow.Author.Tests.{lt-leb}
use Rattle.base.specs.Lists.{count_from}
use Rattle.base.specs.Bytes.{byte_at}
use Rattle.logic.specs.Time.{ticks, plus, minus, at_most}
use Rattle.logic.specs.Tower.{Tower, tower_of, length_of, layout_of}
use Rattle.logic.specs.Book.{Formula}
use Rattle.logic.specs.Runs.{duration, Kept, Judged}
use Rattle.logic.specs.declared.Tick.{Tick}
use Rattle.judging.specs.Judging.{judged}
use Rattle.judging.specs.Ahead.{here, never, seen_before, comes_within}
use Rattle.std.specs.Prelude.{Option, Some, None}
use Rattle.judging.proofs.Judged.{judged_kept}
use Rattle.judging.proofs.Aheads.{plus_at_most, seen_within}
use Rattle.why_judging.specs.Judgement.{never_far, ComesIn, state_in, moment_in, rest_in, RunHeld, kept_byte}

-- ---- what is left of a run

module _ (run states : List ℕ) (n i : ℕ) where
  -- Past the last position nothing is left.
  pub rest_none : n ≤ i → rest_in run states n i ≡ []
  unfolding rest_in count_from
  rest_none l = let none_left : n - i ≡ 0 = omega arith in rw none_left

  -- Up to it what is left begins with one action.
  pub rest_some : i < n → rest_in run states n i ≡ moment_in run states i ∷ rest_in run states n (i + 1)
  unfolding rest_in count_from
  rest_some l = let more : n - i ≡ suc (n - (i + 1)) = omega arith in rw (more, add-one i)

-- Where nothing is left every formula is kept.
pub judged_none : (tower : Tower) (f : Formula) → judged tower f [] ≡ true
unfolding Kept Judged
judged_none tower f = (judged_kept tower f []).1 (λ inside. absurd (omega arith))

-- ---- states and actions

module _ (tower run states : List ℕ) (n i : ℕ) where
  -- The state at a position and the action that leaves it are the tower's.
  pub state_low : (x : ℕ) → x ≡ state_in states i → RunHeld tower run states n → i < n → x < (tower_of tower).states
  state_low x e held l = omega (arith, held.states_low i l)

  pub action_low : RunHeld tower run states n → i < n → byte_at run i < (tower_of tower).actions
  action_low held l = held.actions_low i l

module _ (tower run states : List ℕ) (i : ℕ) (d : Tick) where
  -- The length of the step that leaves a position,
  pub step_is : (x : ℕ) → x ≡ state_in states i → d ≡ (tower_of tower).step_length x (byte_at run i)
      → d ≡ duration (tower_of tower) (moment_in run states i)
  unfolding duration moment_in
  step_is x at_x e = e ∙ ap (λ y. (tower_of tower).step_length y (byte_at run i)) at_x

  -- which is one byte.
  pub step_short : d ≡ duration (tower_of tower) (moment_in run states i) → ((j : ℕ) → Fits w8 (get_or tower j 0)) → d.0 ≤ 65536
  unfolding duration moment_in tower_of length_of
  step_short e bytes = omega (arith, bytes ((layout_of tower).header + 2 * byte_at run i), ap (λ (t : Tick). t.0) e)

-- ---- what is ahead

-- It comes here,
pub comes_here : ComesIn (ticks 0) here
unfolding comes_within
comes_here = record { says = λ t low. refl }

-- or never,
pub comes_never : ComesIn never_far never
unfolding comes_within at_most
comes_never = record { says = λ t low. lt-leb 65536 t.0 (omega arith) }

-- or an action later than from the next position.
pub comes_later : (d far : Tick) (ahead : Option Tick) → ComesIn far ahead → ComesIn (plus d far) (seen_before d ahead)
unfolding minus
comes_later d far ahead next =
    record {
      says = λ t low. plus_at_most d far t ∙ ap (λ b. at_most d t && b) (next.says (minus t d) (omega arith)) ∙ sym (seen_within d t ahead);
    }

-- ---- a byte that is written

module _ (kept : List ℕ) (p : ℕ) (b : Bool) where
  -- 1 is written for a formula that is kept, and else 0.
  pub put_kept_yes : b ≡ true → set kept p 1 ≡ set kept p (kept_byte b)
  put_kept_yes e = rw e

  pub put_kept_no : b ≡ false → set kept p 0 ≡ set kept p (kept_byte b)
  put_kept_no e = rw e

-- What a byte says.
pub byte_says : (b whether : Bool) (byte : ℕ) → b ≡ eqb byte 1 → byte ≡ kept_byte whether → b ≡ whether
byte_says b true byte e f = e ∙ rw f
byte_says b false byte e f = e ∙ rw f
