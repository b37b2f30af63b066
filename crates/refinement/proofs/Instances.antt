-- Small cases, computed: how many passes are made over three pairs in a row.
use Prim.Native.Nat.{ℕ, zero, suc}
use mathlib.Core.Path.{◌≡◌, refl}
use mathlib.Core.Bool.{Bool, true, false}
use Rattle.base.specs.Lists.{every, some_of, count_from, below, same_option, place_of}
use Rattle.pair_graph.specs.Graph.{Graph, Move, not_enabled, to, allowed_to}
use Rattle.pair_graph.specs.Counting.{count}
use Rattle.refinement.specs.Passes.{alike_now, pass, partition, separates, passes, rows, first_of_class, classes}

-- the one action leads from pair 0 to 1, from 1 to 2, and is not enabled in 2
unfoldable onward : ℕ → Move
onward zero = to 1
onward (suc zero) = to 2
onward (suc (suc i)) = not_enabled

unfoldable chain : Graph
chain = record { pairs = 3; actions = 1; state = λ i. 0; kind = λ a. 0; move = λ i a. onward i }

-- all pairs are safe
unfoldable all_safe : ℕ → Bool
all_safe i = true

-- the first two are
unfoldable two_safe : ℕ → Bool
two_safe zero = true
two_safe (suc zero) = true
two_safe (suc (suc i)) = false

-- none is
unfoldable none_safe : ℕ → Bool
none_safe i = false

-- every definition on the way, opened
unfoldable opened : ℕ
unfolding every some_of count_from below same_option place_of allowed_to count alike_now pass partition separates passes rows first_of_class classes onward chain all_safe two_safe none_safe
opened = 0

-- The first pass separates the last pair, the second the other two, the third nothing: as many passes as rows.
three_passes : passes chain all_safe ≡ 3
unfolding opened
three_passes = refl

three_rows : rows chain all_safe ≡ 3
unfolding opened
three_rows = refl

-- There are one, two and three classes, and no more.
class_1 : classes chain all_safe (partition chain all_safe 0) ≡ 1
unfolding opened
class_1 = refl

class_2 : classes chain all_safe (partition chain all_safe 1) ≡ 2
unfolding opened
class_2 = refl

class_3 : classes chain all_safe (partition chain all_safe 2) ≡ 3
unfolding opened
class_3 = refl

class_last : classes chain all_safe (partition chain all_safe 3) ≡ 3
unfolding opened
class_last = refl

-- A pair that is not safe is no row, and no step to it is allowed.
two_passes : passes chain two_safe ≡ 2
unfolding opened
two_passes = refl

two_rows : rows chain two_safe ≡ 2
unfolding opened
two_rows = refl

-- Without rows one pass is made, which is why some theorems ask for a row.
one_pass : passes chain none_safe ≡ 1
unfolding opened
one_pass = refl

no_rows : rows chain none_safe ≡ 0
unfolding opened
no_rows = refl
