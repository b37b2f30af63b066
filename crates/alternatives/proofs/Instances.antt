-- Small cases, computed: what is kept, what is counted, and what is looked at. No theorem about meaning can see the number 16, nor which part
-- was looked at.
use Prim.Native.Nat.{ℕ}
use mathlib.Core.Path.{◌≡◌, refl}
use mathlib.Core.Bool.{true}
use Rattle.std.specs.Prelude.{None, Some}
use mathlib.Core.List.{List, [], ◌∷◌, map}
use lib.ListN.{length, replicate, set}
use lib.Dec.{eqb}
use Rattle.base.specs.Lists.{some_of, count_from, below}
use Rattle.logic.specs.Time.{ticks, minus, at_most, same_ticks}
use Rattle.logic.specs.Tower.{Tower}
use Rattle.logic.specs.Book.{Formula, constant, proposition, or, always_for, until, timed, first_part, second_part}
use Rattle.pending.specs.Pending.{Pending, holds, fresh}
use Rattle.alternatives.specs.Least.{without, placed, with_one_more, with_more, least}
use Rattle.alternatives.specs.Alternatives.{first_cell, later_cells, no_more_ticks, no_more_cell, asks_no_more, cell_number, earlier, set_of, both_cells, both, together, Alternatives, over, these, broken, most_alternatives, counted, combined, joined_with}
use Rattle.alternatives.specs.Progression.{nothing_pending, alone_pending, if_so, alternatives_of}
use Rattle.alternatives.specs.Pairs.{pair_weight}

-- 17 nodes, each `A 9 T`, and the first n alternatives in which one of them is alone pending
promise : Formula
promise = always_for (ticks 9) (constant true)

unfoldable promises : List Formula
unfolding promise
promises = replicate 17 promise

unfoldable alone : ℕ → Pending
alone k = set (replicate 17 None) k (Some (ticks 8))

unfoldable first_ones : ℕ → Alternatives
first_ones n = these (map alone (below n))

-- how many are left; 99 where they are over 16
unfoldable left : Alternatives → ℕ
left over = 99
left (these ps) = length ps

-- every definition on the way, opened
unfoldable opened : ℕ
unfolding promise promises alone first_ones left count_from below some_of at_most same_ticks without placed with_one_more with_more least first_cell later_cells no_more_ticks no_more_cell asks_no_more cell_number earlier set_of together most_alternatives counted combined joined_with
opened = 0

-- 16 are let through,
sixteen_stay : left (joined_with promises (first_ones 15) (these (alone 15 ∷ []))) ≡ 16
unfolding opened
sixteen_stay = refl

-- 17 are not,
seventeen_over : left (joined_with promises (first_ones 16) (these (alone 16 ∷ []))) ≡ 99
unfolding opened
seventeen_over = refl

-- and one that is dropped does not count.
dropped_not_counted : left (joined_with promises (first_ones 16) (these (alone 3 ∷ []))) ≡ 16
unfolding opened
dropped_not_counted = refl

-- Of two numbers of A the smaller is kept, of U the larger: the alternative that asks less.
less_of_always : set_of (promise ∷ []) ((Some (ticks 5) ∷ []) ∷ (Some (ticks 3) ∷ []) ∷ []) ≡ (Some (ticks 3) ∷ []) ∷ []
unfolding opened
less_of_always = refl

less_of_until : set_of (until (ticks 9) (constant true) (constant true) ∷ []) ((Some (ticks 5) ∷ []) ∷ (Some (ticks 3) ∷ []) ∷ [])
    ≡ (Some (ticks 5) ∷ []) ∷ []
unfolding opened
less_of_until = refl

-- Over 16 stays so where the other part has broken, on either side.
broken_then_over : combined promises broken over ≡ over
unfolding combined
broken_then_over = refl

over_then_broken : combined promises over broken ≡ over
unfolding combined
over_then_broken = refl

-- a tower of one state that has mark 0, with one action of one tick
unfoldable one_state : Tower
one_state =
    record {
      states = 1;
      actions = 1;
      marks = 1;
      start = 0;
      kind = λ a. 1;
      step_length = λ x a. ticks 1;
      marked = λ x k. eqb k 0;
      target = λ x a. Some 0;
    }

-- Where the untimed side of `|` holds the timed side is not looked at.
untimed_side_holds : alternatives_of one_state promises 0 (ticks 1) (or (proposition true 0) promise) 3 (ticks 0) ≡ nothing_pending promises
unfolding opened one_state alternatives_of holds timed
untimed_side_holds = refl

-- An action that takes all the ticks left leaves A with 0,
always_to_zero : alternatives_of one_state promises 0 (ticks 1) promise 3 (ticks 1) ≡ alone_pending promises 3 (ticks 0)
unfolding opened one_state alternatives_of alone_pending nothing_pending holds if_so both both_cells fresh minus second_part
always_to_zero = refl

-- and U, which is still in time.
until_to_zero : alternatives_of one_state promises 0 (ticks 1) (until (ticks 9) (constant true) (proposition true 1)) 3 (ticks 1)
    ≡ alone_pending promises 3 (ticks 0)
unfolding opened one_state alternatives_of alone_pending nothing_pending holds if_so both both_cells fresh minus first_part
until_to_zero = refl

-- A pair counts once for each of its alternatives.
two_count : pair_weight (record { state = 0; pending = alone 0 ∷ alone 1 ∷ [] }) ≡ 2
unfolding pair_weight
two_count = refl
