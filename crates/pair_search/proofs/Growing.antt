-- The actions of a pair in turn: what is left of them decides what is new in the end.
use Prim.Native.Nat.{ℕ, ◌+◌, ◌-◌, ◌*◌, ◌≤◌, ◌<◌}
use native.Mathlib.Omega.{arith}
use mathlib.Core.Path.{◌≡◌, refl, sym, ◌∙◌, ap}
use mathlib.Core.Bool.{Bool}
use mathlib.Core.List.{List, ◌++◌, map, map-append, append-nil}
use lib.ListN.{length}
use Rattle.base.specs.Lists.{count_from, below, present, total}
use Rattle.base.specs.Search.{new_ones}
use Rattle.base.proofs.Lists.{total_append}
use Rattle.logic.specs.Tower.{Tower}
use Rattle.logic.specs.Book.{Book}
use Rattle.alternatives.specs.Pairs.{Pair, same_pair, pair_weight, alternatives_by, over_full, pair_step, pair_followers}
use Rattle.book_progression.specs.NodeBytes.{IsHeld}
use Rattle.set_index.specs.Entries.{index_size, entries_size, entry_first, entry_at, Indexed}
use Rattle.pair_sets.proofs.Entries.{equal_numbers}
use Rattle.pair_graph.specs.Steps.{graph_size}
use Rattle.pair_trial.specs.Walked.{walked, Searchable}
use Rattle.pair_trial.specs.Trial.{pair_of, pair_in, Waits, Trying}
use Rattle.pair_step.specs.Stepped.{pairs_of, with_one, PairsFilled, RightGraph, Searching, Stepped}
use Rattle.pair_step.proofs.PairEntries.{weighed, filled_few}
use Rattle.pair_search.specs.Explored.{with_new, Grown}
use Rattle.pair_search.proofs.Turns.{numbers_cons, one_more}

-- ---- the actions by their numbers

-- what the actions from number a on lead to from v, as far as there are any
abbrev led_to : Tower → Book → Pair → ℕ → ℕ → List Pair
led_to tower book v a end = present (map (pair_step tower book v) (count_from a (end - a)))

-- ---- the loop

-- At action a of pair i: the areas hold n pairs, and the actions that are left decide what is new in the end.
pub record Growing (tower : Tower) (nodes : List ℕ) (wide : Bool) (first : List ℕ) (i met end a : ℕ) (area index graph : List ℕ) (n : ℕ) : Type 0 where
  pub low : i < met
  pub last : end ≡ tower.actions
  pub inside : a ≤ end
  pub least : met ≤ n
  pub most : n ≤ 1000
  pub light : entry_first area n ≤ 1000
  pub filled : PairsFilled tower nodes wide area n
  pub indexed : Indexed area index n
  pub right : RightGraph tower nodes area n graph (i + 1) (16 * i + a)
  pub room : index_size ≤ length index
  pub graph_room : graph_size ≤ length graph
  pub kept : (j : ℕ) → j < met → entry_at area j ≡ entry_at first j
  pub grown : (h : IsHeld nodes)
      → pairs_of nodes area n
      ++ new_ones same_pair (pairs_of nodes area n) (led_to tower h.book (pair_in nodes first i) a end)
      ≡ with_new tower h.book (pairs_of nodes first met) (pair_in nodes first i)

pub grow_start : (tower table : List ℕ) (rows : Bool) (nodes : List ℕ) (wide : Bool) (area index graph room : List ℕ) (i met end : ℕ)
    → Searching tower table rows nodes wide area met index graph room i (i + 1) (16 * i) → end ≡ (walked tower table rows).actions
    → Growing (walked tower table rows) nodes wide area i met end 0 area index graph met
unfolding with_new pair_followers below
grow_start tower table rows nodes wide area index graph room i met end was last =
    let ready = was.turning in
    record {
      low = ready.low;
      last = last;
      inside = omega arith;
      least = omega arith;
      most = ready.most;
      light = ready.light;
      filled = ready.filled;
      indexed = ready.indexed;
      right = record { states = ready.right.states; says = λ h j b l k. ready.right.says h j b l (omega arith) };
      room = ready.index_room;
      graph_room = ready.graph_room;
      kept = λ j l. refl;
      grown = λ h. ap (λ (z : ℕ). pairs_of nodes area met
          ++ new_ones same_pair (pairs_of nodes area met)
          (present (map (pair_step (walked tower table rows) h.book (pair_in nodes area i)) (count_from 0 z)))) none_before;
    }
  where
    none_before : end - 0 ≡ (walked tower table rows).actions
    none_before = omega (arith, last)

module _ (tower : Tower) (nodes : List ℕ) (wide : Bool) (first : List ℕ) (i met end a : ℕ) (area index graph : List ℕ) (n : ℕ)
    (g : Growing tower nodes wide first i met end a area index graph n) where
  pub grow_listed : a < end → a < tower.actions
  grow_listed l = omega (arith, g.last)

  -- No more actions are left.
  pub grow_end : Searchable tower → end ≤ a → Grown n tower nodes wide first i met area index graph
  unfolding count_from present new_ones
  grow_end bounds l =
      record {
        least = g.least;
        most = omega (arith, g.most);
        filled = g.filled;
        indexed = g.indexed;
        kept = g.kept;
        done = λ few h. sym (append-nil (pairs_of nodes area n)) ∙ (rw none_left at (g.grown h));
        right = λ few. record {
          states = g.right.states;
          says = λ h j b m k. g.right.says h j b m (omega (arith, g.last, g.inside, bounds.actions_most));
        };
        many = λ over h. absurd (omega (arith, g.light));
      }
    where
      none_left : end - a ≡ 0
      none_left = omega arith

  module _ (m : ℕ) (after later later_graph : List ℕ) (l : a < end)
      (stepped : Stepped m tower nodes wide area i a n after later later_graph) where
    kept_on : (j : ℕ) → j < met → entry_at after j ≡ entry_at first j
    kept_on j k = stepped.kept j (omega (arith, g.least)) ∙ g.kept j k

    -- There is a head behind the last pair.
    pub grow_head : m ≤ 1001
    grow_head = omega (arith, stepped.most, g.most)

    pub grow_size : entries_size ≤ length after
    grow_size = stepped.filled.size

    grown_on : (h : IsHeld nodes)
        → pairs_of nodes after m
        ++ new_ones same_pair (pairs_of nodes after m) (led_to tower h.book (pair_in nodes first i) (a + 1) end)
        ≡ with_new tower h.book (pairs_of nodes first met) (pair_in nodes first i)
    grown_on h =
        one_more same_pair (pairs_of nodes area n) (pair_step tower h.book (pair_in nodes first i) a)
        (map (pair_step tower h.book (pair_in nodes first i)) (count_from (a + 1) (end - (a + 1)))) (pairs_of nodes after m)
        (stepped.grown h ∙ ap (λ z. with_one same_pair (pairs_of nodes area n) (pair_step tower h.book (pair_of nodes z) a)) (g.kept i g.low))
        ∙ ap (λ z. pairs_of nodes area n
        ++ new_ones same_pair (pairs_of nodes area n) (present (map (pair_step tower h.book (pair_in nodes first i)) z)))
        (sym (numbers_cons a end l))
        ∙ g.grown h

    pub grow_more : (x : ℕ) → x ≡ entry_first after m → x ≤ 1000 → length later ≡ length index → length later_graph ≡ length graph
        → Growing tower nodes wide first i met end (a + 1) after later later_graph m
    grow_more x at_x few kept_index kept_graph =
        record {
          low = g.low;
          last = g.last;
          inside = omega arith;
          least = omega (arith, g.least, stepped.least);
          most = filled_few tower nodes wide after m stepped.filled (omega arith);
          light = omega arith;
          filled = stepped.filled;
          indexed = stepped.indexed;
          right = record { states = stepped.right.states; says = λ h j b k p. stepped.right.says h j b k (omega arith) };
          room = omega (arith, g.room);
          graph_room = omega (arith, g.graph_room);
          kept = kept_on;
          grown = grown_on;
        }

    -- They count too many.
    pub grow_many : (x : ℕ) → x ≡ entry_first after m → 1000 < x → Grown m tower nodes wide first i met after later later_graph
    grow_many x at_x over =
        record {
          least = omega (arith, g.least, stepped.least);
          most = grow_head;
          filled = stepped.filled;
          indexed = stepped.indexed;
          kept = kept_on;
          done = λ small h. absurd (omega arith);
          right = λ small. absurd (omega arith);
          many = λ big h. heavy h (weighed nodes after m stepped.filled.start stepped.filled.rising) big (weights h);
        }
      where
        -- those that are still to come
        coming : IsHeld nodes → List Pair
        coming h = new_ones same_pair (pairs_of nodes after m) (led_to tower h.book (pair_in nodes first i) (a + 1) end)

        weights : (h : IsHeld nodes)
            → total (map pair_weight (with_new tower h.book (pairs_of nodes first met) (pair_in nodes first i)))
            ≡ total (map pair_weight (pairs_of nodes after m)) + total (map pair_weight (coming h))
        weights h =
            ap (λ vs. total (map pair_weight vs)) (sym (grown_on h))
            ∙ ap total (map-append pair_weight (pairs_of nodes after m) (coming h))
            ∙ total_append (map pair_weight (pairs_of nodes after m)) (map pair_weight (coming h))

        heavy : (h : IsHeld nodes) → total (map pair_weight (pairs_of nodes after m)) ≡ entry_first after m → 1000 < entry_first after m
            → total (map pair_weight (with_new tower h.book (pairs_of nodes first met) (pair_in nodes first i)))
            ≡ total (map pair_weight (pairs_of nodes after m)) + total (map pair_weight (coming h))
            → 1000 < total (map pair_weight (with_new tower h.book (pairs_of nodes first met) (pair_in nodes first i)))
        heavy h e l f = omega arith

-- ---- what waits of a pair

-- It waits while the entry stays.
waits_still : (tower : Tower) (nodes first area : List ℕ) (i : ℕ) (room : List ℕ) (a : ℕ) → entry_at area i ≡ entry_at first i
    → Waits tower nodes first i room a → Waits tower nodes area i room a
waits_still tower nodes first area i room a same w =
    record {
      few = w.few;
      place = w.place;
      is = λ h. ap (λ z. alternatives_by tower h.book (pair_of nodes z) a) same ∙ w.is h;
    }

pub trying_still : (tower : Tower) (nodes first area : List ℕ) (i : ℕ) (room : List ℕ) (k : ℕ) → entry_at area i ≡ entry_at first i
    → Trying tower nodes first i room k → Trying tower nodes area i room k
trying_still tower nodes first area i room k same trying =
    record {
      waits = λ a y l e.
          waits_still tower nodes first area i room a same
          (trying.waits a y l (ap (λ (z : ℕ). tower.target z a) (sym (equal_numbers area first i i same)) ∙ e));
    }

-- What is asked before the next action is followed.
pub grow_ready : (tower table : List ℕ) (rows : Bool) (nodes : List ℕ) (wide : Bool) (first index₀ graph₀ room : List ℕ) (i met end a : ℕ)
    (area index graph : List ℕ) (n : ℕ) → Growing (walked tower table rows) nodes wide first i met end a area index graph n
    → Searching tower table rows nodes wide first met index₀ graph₀ room i (i + 1) (16 * i)
    → Searching tower table rows nodes wide area n index graph room i (i + 1) (16 * i + a)
grow_ready tower table rows nodes wide first index₀ graph₀ room i met end a area index graph n g was =
    record {
      turning =
          record {
            world = was.turning.world;
            width = was.turning.width;
            filled = g.filled;
            light = g.light;
            indexed = g.indexed;
            right = g.right;
            index_room = g.room;
            graph_room = g.graph_room;
            low = omega (arith, g.low, g.least);
            most = g.most;
          };
      spare = λ h. ap (λ z. over_full (walked tower table rows) h.book (pair_of nodes z)) (g.kept i g.low) ∙ was.spare h;
      waiting = λ e. trying_still (walked tower table rows) nodes first area i room (walked tower table rows).actions (g.kept i g.low) (was.waiting e);
      space = was.space;
    }
