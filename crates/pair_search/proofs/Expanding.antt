-- One turn of the search: a pair is stepped from by no action where it is over_full, and else expanded.
use Prim.Native.Nat.{ℕ, ◌+◌, ◌*◌, ◌≤◌, ◌<◌}
use native.Mathlib.Omega.{arith}
use native.Mathlib.Decide.{dec_lt}
use mathlib.Core.Path.{◌≡◌, refl, sym, ◌∙◌, ap, subst}
use mathlib.Core.Logic.{inl}
use mathlib.Core.Bool.{Bool, true, false, ◌||◌}
use Rattle.std.specs.Prelude.{Option, None, Some}
use mathlib.Core.List.{List, [], ◌∷◌, ◌++◌, map, append-nil}
use lib.ListN.{length}
use Rattle.base.specs.Lists.{below, present}
use Rattle.base.specs.Search.{new_ones}
use Rattle.base.proofs.Lists.{or_right}
use Rattle.logic.specs.Tower.{Tower}
use Rattle.logic.specs.Book.{Book}
use Rattle.alternatives.specs.Pairs.{Pair, same_pair, over_full, pair_step, pair_followers}
use Rattle.book_progression.specs.NodeBytes.{IsHeld}
use Rattle.area_bytes.proofs.Numbers.{stored, stored_read, stored_beside, length_stored}
use Rattle.set_index.specs.Entries.{entry_number, entry_first}
use Rattle.set_index.proofs.Laws.{first_rises}
use Rattle.pair_graph.specs.Steps.{cell, state_in, move_of, move_at, graph_size}
use Rattle.pair_trial.specs.Walked.{walked}
use Rattle.pair_trial.specs.Trial.{pair_in, room_size, Trial, AllTried}
use Rattle.pair_step.specs.Stepped.{pairs_of, SaysMove, moves_not, moves_broken, RightGraph, Turning, Searching, blocked_number, Blocked}
use Rattle.pair_step.proofs.PairEntries.{state_of_pair, entry_spare}
use Rattle.pair_search.specs.Explored.{with_new, Grown, Turned}

-- ---- the state of a pair

-- The state of pair i is written beside the rest of the graph.
module _ (tower : Tower) (nodes area : List ℕ) (n i x : ℕ) (graph after : List ℕ)
    (written : after ≡ stored graph (32000 + 2 * i) x) (at_x : x ≡ entry_number area i) (right : RightGraph tower nodes area n graph i (16 * i))
    (space : graph_size ≤ length graph) (low : i < 1000) (small : x < 65536) where
  pub right_state : RightGraph tower nodes area n after (i + 1) (16 * i)
  right_state =
      record {
        states = λ j l. states j l (dec_lt j i);
        says = λ h j a l k.
            subst (λ z. SaysMove tower h.book nodes area n (pair_in nodes area j) a z) (sym (move_beside j a k)) (right.says h j a l k);
      }
    where
      states : (j : ℕ) → j < i + 1 → Dec (j < i) → state_in after j ≡ entry_number area j
      states j l (yes k) = rw written (stored_beside graph (32000 + 2 * i) x (32000 + 2 * j) (inl (omega arith))) ∙ right.states j k
      states j l (no k) =
          let same : j ≡ i = omega arith in
          rw (same, written) (stored_read graph (32000 + 2 * i) x (omega arith) small ∙ at_x)

      move_beside : (j a : ℕ) → 16 * j + a < 16 * i → move_at after j a ≡ move_at graph j a
      move_beside j a k =
          unfold move_at cell in
          ap move_of (rw written (stored_beside graph (32000 + 2 * i) x (2 * (16 * j + a)) (inl (omega arith))))

module _ (tower table : List ℕ) (rows : Bool) (nodes : List ℕ) (wide : Bool) (area : List ℕ) (n i x : ℕ) (index graph after : List ℕ)
    (written : after ≡ stored graph (32000 + 2 * i) x) (at_x : x ≡ entry_number area i)
    (was : Turning tower table rows nodes wide area n index graph i i (16 * i)) where
  state_right : RightGraph (walked tower table rows) nodes area n after (i + 1) (16 * i)
  state_right =
      right_state (walked tower table rows) nodes area n i x graph after written at_x was.right was.graph_room (omega (arith, was.low, was.most))
      (omega (arith, at_x, was.filled.states i was.low, was.world.files.search.states_most))

  state_long : length after ≡ length graph
  state_long = ap length written ∙ length_stored graph (32000 + 2 * i) x

  -- Before it is expanded.
  pub state_written : (room : List ℕ) → Searching tower table rows nodes wide area n index graph room i i (16 * i)
      → Searching tower table rows nodes wide area n index after room i (i + 1) (16 * i)
  state_written room s =
      record {
        turning =
            record {
              world = was.world;
              width = was.width;
              filled = was.filled;
              light = was.light;
              indexed = was.indexed;
              right = state_right;
              index_room = was.index_room;
              graph_room = omega (arith, was.graph_room, state_long);
              low = was.low;
              most = was.most;
            };
        spare = s.spare;
        waiting = s.waiting;
        space = s.space;
      }

-- ---- an over_full pair

no_step : (tower : Tower) (book : Book) (v : Pair) (a : ℕ) → over_full tower book v ≡ true → pair_step tower book v a ≡ None
unfolding pair_step
no_step tower book v a full = rw full

none_present : {X : Type 0} (f : ℕ → Option X) (ns : List ℕ) → ((a : ℕ) → f a ≡ None) → present (map f ns) ≡ []
unfolding present
none_present f [] e = refl
none_present f (a ∷ ns) e = rw (e a) (none_present f ns e)

-- It has no followers, so that nothing is new.
none_new : (tower : Tower) (book : Book) (seen : List Pair) (v : Pair) → over_full tower book v ≡ true → seen ≡ with_new tower book seen v
unfolding with_new pair_followers new_ones
none_new tower book seen v full =
    sym (append-nil seen)
    ∙ ap (λ vs. seen ++ new_ones same_pair seen vs) (sym (none_present (pair_step tower book v) (below tower.actions) (λ a. no_step tower book v a full)))

-- What its moves say.
blocked_says : (tower : Tower) (book : Book) (nodes area : List ℕ) (n : ℕ) (v : Pair) (a : ℕ) → over_full tower book v ≡ true → (o : Option ℕ)
    → tower.target v.state a ≡ o → SaysMove tower book nodes area n v a (move_of (blocked_number o))
unfolding move_of blocked_number
blocked_says tower book nodes area n v a full None e = moves_not e
blocked_says tower book nodes area n v a full (Some y) e = moves_broken y e (no_step tower book v a full)

-- ---- the ways of a turn

or_itself : (b : Bool) → b ≡ (b || false)
or_itself true = refl
or_itself false = refl

module _ (tower table : List ℕ) (rows : Bool) (nodes : List ℕ) (wide : Bool) (area : List ℕ) (n : ℕ) (index graph : List ℕ) (i : ℕ) where
  -- What is asked before it is tried,
  pub trial_ready : Turning tower table rows nodes wide area n index graph i i (16 * i) → Trial tower table rows nodes area i
  trial_ready was =
      record {
        world = was.world;
        size = was.filled.size;
        state = was.filled.states i was.low;
        rising = was.filled.rising i was.low;
        inside = omega (arith, was.light, firsts);
        low = omega (arith, was.low, was.most);
      }
    where
      firsts : entry_first area (i + 1) ≤ entry_first area n
      firsts = first_rises area n was.filled.rising (i + 1) n (omega (arith, was.low)) (omega arith)

  -- blocked,
  pub block_number : Turning tower table rows nodes wide area n index graph i i (16 * i) → entry_number area i < (walked tower table rows).states
  block_number was = was.filled.states i was.low

  pub block_low : Turning tower table rows nodes wide area n index graph i i (16 * i) → i < 1000
  block_low was = omega (arith, was.low, was.most)

  pub block_space : (after : List ℕ) (x : ℕ) → after ≡ stored graph (32000 + 2 * i) x → Turning tower table rows nodes wide area n index graph i i (16 * i)
      → graph_size ≤ length after
  block_space after x written was = omega (arith, was.graph_room, ap length written, length_stored graph (32000 + 2 * i) x)

  -- and expanded.
  pub expand_tried : (full : Bool) (room : List ℕ) → AllTried full (walked tower table rows) nodes area i room → full ≡ false
      → Turning tower table rows nodes wide area n index graph i i (16 * i) → room_size ≤ length room
      → Searching tower table rows nodes wide area n index graph room i i (16 * i)
  expand_tried full room tried e was space =
      record { turning = was; spare = λ h. sym (tried.says h) ∙ e; waiting = λ _. tried.waiting e; space = space }

  pub narrow_spare : Turning tower table rows nodes wide area n index graph i i (16 * i) → wide ≡ false
      → (h : IsHeld nodes) → over_full (walked tower table rows) h.book (pair_in nodes area i) ≡ false
  narrow_spare was e = entry_spare (walked tower table rows) nodes wide area n i e was.filled was.low was.width

  pub expand_narrow : (room : List ℕ) → Turning tower table rows nodes wide area n index graph i i (16 * i) → wide ≡ false → room_size ≤ length room
      → Searching tower table rows nodes wide area n index graph room i i (16 * i)
  expand_narrow room was e space =
      record {
        turning = was;
        spare = narrow_spare was e;
        waiting = λ f. absurd (let z : ◌≡◌ {A = ℕ} 0 1 = cc in omega arith);
        space = space;
      }

  module _ (was : Turning tower table rows nodes wide area n index graph i i (16 * i)) where
    -- It is over_full.
    pub turned_full : (x : ℕ) (before full : Bool) (room middle after : List ℕ)
        → Blocked (walked tower table rows) area i (walked tower table rows).actions middle after → middle ≡ stored graph (32000 + 2 * i) x
        → x ≡ entry_number area i → AllTried full (walked tower table rows) nodes area i room → full ≡ true
        → Turned (record { met = n; over = true }) before (walked tower table rows) nodes wide area i n area index after
    turned_full x before full room middle after blocked written at_x tried e =
        record {
          grown =
              record {
                least = omega arith;
                most = omega (arith, was.most);
                filled = was.filled;
                indexed = was.indexed;
                kept = λ j l. refl;
                done = λ light h. none_new (walked tower table rows) h.book (pairs_of nodes area n) (pair_in nodes area i) (is_full h);
                right = λ light. record { states = λ j l. blocked.states j ∙ right.states j l; says = λ h j a l k. said h j a l (dec_lt (16 * j + a) (16 * i)) k };
                many = λ heavy h. absurd (omega (arith, was.light));
              };
          is_over = λ h. sym (or_right before (is_full h));
        }
      where
        is_full : (h : IsHeld nodes) → over_full (walked tower table rows) h.book (pair_in nodes area i) ≡ true
        is_full h = sym (tried.says h) ∙ e

        right : RightGraph (walked tower table rows) nodes area n middle (i + 1) (16 * i)
        right = state_right tower table rows nodes wide area n i x index graph middle written at_x was

        said : (h : IsHeld nodes) (j a : ℕ) → a < (walked tower table rows).actions → Dec (16 * j + a < 16 * i) → 16 * j + a < 16 * (i + 1)
            → SaysMove (walked tower table rows) h.book nodes area n (pair_in nodes area j) a (move_at after j a)
        said h j a l (yes m) k =
            subst (λ z. SaysMove (walked tower table rows) h.book nodes area n (pair_in nodes area j) a z) (sym (blocked.before j a m)) (right.says h j a l m)
        said h j a l (no m) k =
            let same : j ≡ i = omega (arith, was.world.files.search.actions_most) in
            rw (same, blocked.moves a l)
            (blocked_says (walked tower table rows) h.book nodes area n (pair_in nodes area i) a (is_full h)
            ((walked tower table rows).target (entry_number area i) a) (ap (λ (z : ℕ). (walked tower table rows).target z a) (state_of_pair nodes area i)))

-- It is not.
pub tried_spare : (full : Bool) (tower : Tower) (nodes area : List ℕ) (i : ℕ) (room : List ℕ) → AllTried full tower nodes area i room → full ≡ false
    → (h : IsHeld nodes) → over_full tower h.book (pair_in nodes area i) ≡ false
tried_spare full tower nodes area i room tried e h = sym (tried.says h) ∙ e

pub turned_on : (m : ℕ) (before : Bool) (tower : Tower) (nodes : List ℕ) (wide : Bool) (area : List ℕ) (i n : ℕ) (after index graph : List ℕ)
    → Grown m tower nodes wide area i n after index graph → ((h : IsHeld nodes) → over_full tower h.book (pair_in nodes area i) ≡ false)
    → Turned (record { met = m; over = before }) before tower nodes wide area i n after index graph
turned_on m before tower nodes wide area i n after index graph grown spare =
    record { grown = grown; is_over = λ h. or_itself before ∙ ap (λ (b : Bool). before || b) (sym (spare h)) }
