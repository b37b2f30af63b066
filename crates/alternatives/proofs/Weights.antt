-- What pairs count towards the limit of the search: each has an alternative, so that it counts once or more.
use Prim.Native.Nat.{◌<◌, ◌≤◌}
use mathlib.Core.Path.{◌≡◌, refl, ap}
use mathlib.Core.Bool.{false}
use mathlib.Core.List.{[], map, Memᴰ}
use native.Mathlib.Omega.{arith}
use lib.ListN.{length}
use borrow.Author.Tests.{ltb-false}
use Rattle.base.specs.Lists.{below, total}
use Rattle.base.proofs.Lists.{present_map_out}
use Rattle.base.proofs.Search.{Few, Reached, start, onward, length_weight, search_reached}
use Rattle.logic.specs.Tower.{Tower}
use Rattle.logic.specs.Book.{Book}
use Rattle.pending.specs.Pending.{first_pending}
use Rattle.alternatives.specs.Progression.{first_set}
use Rattle.alternatives.specs.Pairs.{Pair, same_pair, first_pair, pair_step, pair_followers, pair_weight, most_pairs, pairs, over_pairs}
use Rattle.alternatives.proofs.Steps.{Standing, pair_step_out}

-- A pair that has an alternative counts.
pub standing_heavy : (v : Pair) → Standing v → 0 < pair_weight v
unfolding pair_weight
standing_heavy v stands = omega (arith, ap length stands.are)

-- The first pair has one.
pub first_standing : (tower : Tower) (book : Book) → Standing (first_pair tower book)
unfolding first_pair first_set
first_standing tower book = record { first = first_pending book; others = []; are = refl }

module _ (tower : Tower) (book : Book) where
  -- Every pair that is reached has one.
  pub reached_standing : {v : Pair} → Reached (pair_followers tower book) (first_pair tower book) v → Standing v
  unfolding pair_followers
  reached_standing start = first_standing tower book
  reached_standing (onward {y = y} {z = z} r m) =
      let (a, n, e) = present_map_out (pair_step tower book y) (below tower.actions) m in (pair_step_out tower book y z a e).2

  -- So each of the pairs counts.
  pub pairs_heavy : (v : Pair) → Memᴰ v (pairs tower book) → 0 < pair_weight v
  unfolding pairs
  pairs_heavy v m =
      standing_heavy v (reached_standing (search_reached same_pair (pair_followers tower book) pair_weight most_pairs (first_pair tower book) m))

  module _ (few : over_pairs tower book ≡ false) where
    -- Where it is not 11, they count at most 1,000,
    pub pairs_few : Few pair_weight most_pairs (pairs tower book)
    unfolding over_pairs
    pairs_few = record { heavy = pairs_heavy; light = ltb-false most_pairs (total (map pair_weight (pairs tower book))) few }

    -- and are at most so many.
    pub pairs_most : length (pairs tower book) ≤ 1000
    unfolding most_pairs
    pairs_most = omega (arith, pairs_few.light, length_weight pair_weight (pairs tower book) pairs_heavy)
