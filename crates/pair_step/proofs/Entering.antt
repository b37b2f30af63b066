-- What is pending behind a step: what waits of it; or asked of progression, or taken over from an earlier action whose step is as long.
use Prim.Native.Nat.{ℕ, zero, suc, ◌+◌, ◌-◌, ◌*◌, ◌≤◌, ◌<◌}
use native.Mathlib.Omega.{arith}
use mathlib.Core.Path.{◌≡◌, refl, sym, ◌∙◌, ap, subst}
use mathlib.Core.Bool.{Bool, true, false}
use Rattle.std.specs.Prelude.{None, Some}
use mathlib.Core.List.{List, [], ◌∷◌}
use lib.ListN.{length}
use lib.Dec.{eqb}
use borrow.Author.Tests.{eqb-true}
use Rattle.base.specs.Bytes.{byte_at, number_at}
use Rattle.base.specs.Lists.{below, count_from}
use Rattle.logic.specs.Tower.{Tower, FitTower, tower_of, mask_of}
use Rattle.logic.specs.Book.{Book}
use Rattle.logic.specs.declared.Tick.{Tick}
use Rattle.alternatives.specs.Alternatives.{Alternatives, over, these, broken}
use Rattle.alternatives.specs.Progression.{progressed_set}
use Rattle.alternatives.specs.Pairs.{Pair, alternatives_by, over_full, pair_at, pair_step}
use Rattle.alternatives.proofs.Steps.{tried_step_at, pair_step_spare, pair_step_out}
use Rattle.reading.specs.BookArea.{nodes_in}
use Rattle.book_progression.specs.NodeBytes.{IsHeld}
use Rattle.file_tower.proofs.Laws.{fit_bounds}
use Rattle.set_bytes.specs.SetBytes.{set_in}
use Rattle.set_index.specs.Entries.{entry_number, entry_first, entry_at}
use Rattle.pair_sets.specs.PairSets.{entry_set, held_set, Stays, Entered, Followed, Open}
use Rattle.pair_sets.proofs.Entries.{set_of_entry}
use Rattle.pair_graph.specs.Graph as Graph
use Rattle.pair_graph.specs.Graph.{Move, to}
use Rattle.pair_graph.specs.Steps.{cell, move_of, move_at, is_enabled}
use Rattle.pair_graph.proofs.Moves.{high_move}
use Rattle.pair_trial.specs.Walked.{walked, tower_state, Files}
use Rattle.pair_trial.specs.Trial.{pair_of, pair_in, waiting_set}
use Rattle.pair_trial.proofs.Walking.{walked_length, walked_marks, action_below}
use Rattle.pair_step.specs.Stepped.{PairsFilled, WideRight, SaysMove, moves_not, moves_broken, moves_to, Searching, Earlier, MoveLeads, TakenOver, taken_broken, taken_from, Single, RoomFor, NextEntered}
use Rattle.pair_step.proofs.PairEntries.{pending_of_pair, filled_open, entry_spare, entry_few}

-- ---- earlier

-- There is room for the move of an action before a.
pub action_room_below : (tower : List ℕ) (b a : ℕ) → FitTower tower → b < a → a < (tower_of tower).actions → b < 16
action_room_below tower b a fit l k = omega (arith, (fit_bounds fit).actions_most)

-- An earlier action is enabled, and its step is as long.
pub earlier_found : (tower graph : List ℕ) (x i a b : ℕ) (d e : Tick) (q r : Bool) → e ≡ (tower_of tower).step_length x b
    → d ≡ (tower_of tower).step_length x a → q ≡ eqb e.0 d.0 → q ≡ true → r ≡ is_enabled (move_at graph i b) → r ≡ true → b < a → Earlier b tower graph x i a
earlier_found tower graph x i a b d e q r at_e at_d is_q yes_q is_r yes_r l =
    record {
      before = l;
      enabled = sym is_r ∙ yes_r;
      same_length = sym at_e ∙ ap (λ (n : ℕ). record { 0 = n }) (eqb-true e.0 d.0 (sym is_q ∙ yes_q)) ∙ at_d;
    }

-- ---- take_over

-- A number below 2 of an enabled action is that of a broken step.
low_broken : (m : ℕ) → m < 2 → is_enabled (move_of m) ≡ true → move_of m ≡ Graph.broken
unfolding move_of is_enabled
low_broken zero l e = let z : ◌≡◌ {A = ℕ} 0 1 = cc in absurd (omega arith)
low_broken (suc zero) l e = refl
low_broken (suc (suc m)) l e = absurd (omega arith)

module _ (nodes : List ℕ) (graph area : List ℕ) (i b number n m : ℕ) (is_m : m ≡ number_at 2 graph (cell i b)) where
  move_is : move_at graph i b ≡ move_of m
  unfolding move_at
  move_is = ap move_of (sym is_m)

  -- The step is broken.
  pub take_broken : m < 2 → MoveLeads graph area i b n → TakenOver nodes graph area i b number n area false
  take_broken l leads = taken_broken (move_is ∙ low_broken m l (ap is_enabled (sym move_is) ∙ leads.enabled)) refl

  -- It leads to one of the pairs.
  pub take_inside : 2 ≤ m → MoveLeads graph area i b n → m - 2 < n
  take_inside l leads = leads.inside (m - 2) (move_is ∙ high_move m l)

  pub take_few : 2 ≤ m → MoveLeads graph area i b n → entry_first area (m - 2 + 1) ≤ entry_first area (m - 2) + 16
  take_few l leads = leads.few (m - 2) (move_is ∙ high_move m l)

  pub take_copied : (after : List ℕ) → 2 ≤ m → Entered true nodes area number n (these (entry_set nodes area (m - 2))) after
      → TakenOver nodes graph area i b number n after true
  take_copied after l copied = taken_from (m - 2) (move_is ∙ high_move m l) copied

-- ---- enter_waiting

stays_itself : (nodes area : List ℕ) (n : ℕ) → Stays nodes area n area
stays_itself nodes area n = record { size = refl; kept = λ j l. refl; heads = λ h. h; blank = λ b. b }

-- Nothing waits: the step is broken.
pub waiting_none : (nodes area room : List ℕ) (a number n : ℕ) → byte_at room (30720 + a) ≡ 0
    → Entered false nodes area number n (these (waiting_set nodes room a)) area
unfolding waiting_set set_in below count_from
waiting_none nodes area room a number n e =
    record {
      stays = stays_itself nodes area n;
      holds = λ f. absurd (let z : ◌≡◌ {A = ℕ} 0 1 = cc in omega arith);
      none_left = λ _. ap (λ (k : ℕ). these (set_in room (nodes_in nodes) (15360 + 960 * byte_at room (30736 + a)) k)) e;
    }

pub waiting_room : (room : List ℕ) (a : ℕ) → RoomFor room a → 15360 + 960 * byte_at room (30736 + a) + 960 ≤ length room
waiting_room room a ready = omega (arith, ready.place, ready.low, ready.space)

pub waiting_taken : (nodes area room : List ℕ) (a number n : ℕ) (after : List ℕ)
    → Entered true nodes area number n (these (set_in room (nodes_in nodes) (15360 + 960 * byte_at room (30736 + a)) (byte_at room (30720 + a)))) after
    → Entered true nodes area number n (these (waiting_set nodes room a)) after
unfolding waiting_set
waiting_taken nodes area room a number n after entered = entered

-- ---- enter_single

pub state_inside : (tower : Tower) (nodes : List ℕ) (wide : Bool) (area : List ℕ) (i n x : ℕ) → x ≡ entry_number area i
    → PairsFilled tower nodes wide area n → i < n → x < tower.states
state_inside tower nodes wide area i n x e filled low = rw e (filled.states i low)

-- What comes of what an entry holds.
by_entry : (tower : Tower) (nodes area : List ℕ) (i a : ℕ) (book : Book)
    → alternatives_by tower book (pair_in nodes area i) a
    ≡ progressed_set tower book (entry_number area i) (tower.step_length (entry_number area i) a) (held_set nodes (entry_at area i))
unfolding alternatives_by pair_of entry_at
by_entry tower nodes area i a book = refl

-- What a move says of a step that is not broken, and of one that is, where the pair is not over_full.
pair_at_none : (y : ℕ) (s : Alternatives) → (s ≡ over → ⊥) → pair_at y s ≡ None → s ≡ broken
unfolding pair_at
pair_at_none y over few e = absurd (few refl)
pair_at_none y (these []) few e = refl
pair_at_none y (these (p ∷ ps)) few e = let z : ◌≡◌ {A = ℕ} 0 1 = cc in absurd (omega arith)

-- The pair that a move names is the one that the action leads to.
pub says_leads : (tower : Tower) (book : Book) (nodes area : List ℕ) (n : ℕ) (v : Pair) (a j : ℕ) (m : Move) → SaysMove tower book nodes area n v a m
    → m ≡ to j → (j < n) × (pair_step tower book v a ≡ Some (pair_in nodes area j))
says_leads tower book nodes area n v a j _ (moves_not e) f = let z : ◌≡◌ {A = ℕ} 0 1 = cc in absurd (omega arith)
says_leads tower book nodes area n v a j _ (moves_broken y e g) f = let z : ◌≡◌ {A = ℕ} 0 1 = cc in absurd (omega arith)
says_leads tower book nodes area n v a j _ (moves_to k l e) f =
    let same : k ≡ j = cc in
    (omega arith, e ∙ ap (λ (z : ℕ). Some (pair_in nodes area z)) same)

module _ (tower : Tower) (book : Book) (nodes area : List ℕ) (n : ℕ) (v : Pair) (a : ℕ) (spare : over_full tower book v ≡ false)
    (few : alternatives_by tower book v a ≡ over → ⊥) where
  says_broken : (m : Move) → SaysMove tower book nodes area n v a m → m ≡ Graph.broken → alternatives_by tower book v a ≡ broken
  says_broken _ (moves_not e) f = let z : ◌≡◌ {A = ℕ} 0 1 = cc in absurd (omega arith)
  says_broken _ (moves_broken y e g) f =
      pair_at_none y (alternatives_by tower book v a) few
      (sym (tried_step_at tower book v a y e) ∙ sym (pair_step_spare tower book v a spare) ∙ g)
  says_broken _ (moves_to j l e) f = let z : ◌≡◌ {A = ℕ} 0 1 = cc in absurd (omega arith)

says_to : (tower : Tower) (book : Book) (nodes area : List ℕ) (n : ℕ) (v : Pair) (a j : ℕ) (m : Move) → SaysMove tower book nodes area n v a m
    → m ≡ to j → (j < n) × (alternatives_by tower book v a ≡ these (pair_in nodes area j).pending)
says_to tower book nodes area n v a j m says f =
    let (l, e) = says_leads tower book nodes area n v a j m says f in
    (l, (pair_step_out tower book v (pair_in nodes area j) a e).1)

module _ (tower table : List ℕ) (rows : Bool) (nodes area : List ℕ) (n : ℕ) (graph : List ℕ) (i a : ℕ)
    (ready : Single tower table rows nodes area n graph i a) where
  pub single_files : Files tower table rows
  single_files = ready.world.files

  pub single_open : Open nodes area n
  single_open = filled_open (walked tower table rows) nodes false area n ready.world.held ready.filled ready.light

  pub single_one : entry_first area (i + 1) ≡ entry_first area i + 1
  single_one = ready.filled.single refl i ready.low

  pub single_action : a < (tower_of tower).actions
  single_action = action_below tower table rows a ready.listed

  pub single_low : i < 1000
  single_low = omega (arith, ready.low, ready.most)

  narrow : WideRight false nodes
  narrow = record { says = λ _ h. ready.sided h }

  module _ (b z : ℕ) (earlier : Earlier b tower graph z i a) where
    -- what the move of the earlier action says
    earlier_says : (h : IsHeld nodes)
        → SaysMove (walked tower table rows) h.book nodes area n (pair_in nodes area i) b (move_at graph i b)
    earlier_says h = ready.right.says h i b (omega (arith, ready.listed)) (omega (arith, earlier.before))

    earlier_to : (h : IsHeld nodes) (j : ℕ) → move_at graph i b ≡ to j
        → (j < n) × (alternatives_by (walked tower table rows) h.book (pair_in nodes area i) b ≡ these (pair_in nodes area j).pending)
    earlier_to h j e =
        says_to (walked tower table rows) h.book nodes area n (pair_in nodes area i) b j (move_at graph i b) (earlier_says h) e

    pub earlier_leads : MoveLeads graph area i b n
    earlier_leads =
        record {
          enabled = earlier.enabled;
          inside = λ j e. (earlier_to ready.world.held j e).0;
          few = λ j e. omega (arith, ready.filled.single refl j (earlier_to ready.world.held j e).0);
        }

    pub earlier_room : b < 16
    earlier_room = omega (arith, earlier.before, ready.listed, ready.world.files.search.actions_most)

    module _ (x : ℕ) (at-z : z ≡ tower_state table rows x) (at_x : x ≡ entry_number area i) where
      -- the steps are of one length
      one_length : (walked tower table rows).step_length (entry_number area i) b ≡ (walked tower table rows).step_length (entry_number area i) a
      one_length =
          ap (λ (y : ℕ). (walked tower table rows).step_length y b) (sym at_x)
          ∙ walked_length tower table rows x b
          ∙ ap (λ (y : ℕ). (tower_of tower).step_length y b) (sym at-z)
          ∙ earlier.same_length
          ∙ ap (λ (y : ℕ). (tower_of tower).step_length y a) at-z
          ∙ sym (walked_length tower table rows x a)
          ∙ ap (λ (y : ℕ). (walked tower table rows).step_length y a) at_x

      same_by : (h : IsHeld nodes)
          → alternatives_by (walked tower table rows) h.book (pair_in nodes area i) b
          ≡ alternatives_by (walked tower table rows) h.book (pair_in nodes area i) a
      unfolding alternatives_by pair_of entry_at
      same_by h = ap (λ d. progressed_set (walked tower table rows) h.book (entry_number area i) d (held_set nodes (entry_at area i))) one_length

      -- What is pending is taken over.
      pub enter_taken : (number : ℕ) (after : List ℕ) (r : Bool) → TakenOver nodes graph area i b number n after r
          → NextEntered r (walked tower table rows) nodes area i a number n after
      enter_taken number after _ (taken_broken e same) =
          record {
            stays = stays;
            headed = λ f. absurd (let y : ◌≡◌ {A = ℕ} 0 1 = cc in omega arith);
            says = λ h. record {
              stays = stays;
              holds = λ f. absurd (let y : ◌≡◌ {A = ℕ} 0 1 = cc in omega arith);
              none_left = λ _. sym (same_by h)
                  ∙ says_broken (walked tower table rows) h.book nodes area n (pair_in nodes area i) b
                  (entry_spare (walked tower table rows) nodes false area n i refl ready.filled ready.low narrow h)
                  (entry_few (walked tower table rows) nodes false area n i refl ready.filled ready.low narrow h b)
                  (move_at graph i b) (earlier_says h) e;
            };
          }
        where
          stays : Stays nodes area n after
          stays = subst (Stays nodes area n) (sym same) (stays_itself nodes area n)
      enter_taken number after _ (taken_from j e copied) =
          record {
            stays = copied.stays;
            headed = λ f. (copied.holds refl).headed;
            says = λ h. subst (λ s. Entered true nodes area number n s after) (pending_is h) copied;
          }
        where
          pending_is : (h : IsHeld nodes)
              → these (entry_set nodes area j) ≡ alternatives_by (walked tower table rows) h.book (pair_in nodes area i) a
          pending_is h = ap these (pending_of_pair nodes area j h) ∙ sym (earlier_to h j e).1 ∙ same_by h

-- Progression is asked.
pub enter_asked : (tower table : List ℕ) (rows : Bool) (nodes area : List ℕ) (i a x z mask number n : ℕ) (d : Tick) (r : Bool)
    (graph after : List ℕ) → Followed r nodes mask d area i number n after → z ≡ tower_state table rows x → x ≡ entry_number area i
    → d ≡ (tower_of tower).step_length z a → mask ≡ mask_of tower z → Single tower table rows nodes area n graph i a
    → NextEntered r (walked tower table rows) nodes area i a number n after
unfolding walked_marks
enter_asked tower table rows nodes area i a x z mask number n d r graph after followed at-z at_x at_d at_mask ready =
    record {
      stays = followed.stays;
      headed = followed.headed;
      says = λ h. subst (λ s. Entered r nodes area number n s after) (sym (came h))
          ((subst (λ (y : ℕ). Followed r nodes y d area i number n after) (at_mask ∙ ap (mask_of tower) at-z) followed).says h.book h.held
          (ready.sided h) (walked_marks tower table rows x));
    }
  where
    same_length : (walked tower table rows).step_length x a ≡ d
    same_length = walked_length tower table rows x a ∙ ap (λ (y : ℕ). (tower_of tower).step_length y a) (sym at-z) ∙ sym at_d

    came : (h : IsHeld nodes)
        → alternatives_by (walked tower table rows) h.book (pair_in nodes area i) a
        ≡ progressed_set (walked tower table rows) h.book x d (entry_set nodes area i)
    came h =
        by_entry (walked tower table rows) nodes area i a h.book
        ∙ ap (λ (y : ℕ). progressed_set (walked tower table rows) h.book y ((walked tower table rows).step_length y a) (held_set nodes (entry_at area i))) (sym at_x)
        ∙ ap (λ y. progressed_set (walked tower table rows) h.book x y (held_set nodes (entry_at area i))) same_length
        ∙ ap (progressed_set (walked tower table rows) h.book x d) (sym (set_of_entry nodes area i h))

-- ---- enter

module _ (tower table : List ℕ) (rows : Bool) (nodes : List ℕ) (wide : Bool) (area : List ℕ) (n : ℕ) (index graph room : List ℕ) (i a : ℕ)
    (was : Searching tower table rows nodes wide area n index graph room i (i + 1) (16 * i + a)) where
  pub enter_open : Open nodes area n
  enter_open =
      filled_open (walked tower table rows) nodes wide area n was.turning.world.held was.turning.filled was.turning.light

  pub enter_room : (y : ℕ) → (walked tower table rows).target (entry_number area i) a ≡ Some y → wide ≡ true
      → a < (walked tower table rows).actions → RoomFor room a
  enter_room y goes e listed =
      let waits = (was.waiting e).waits a y listed goes in
      record {
        few = waits.few;
        place = waits.place;
        low = omega (arith, was.turning.world.files.search.actions_most);
        space = was.space;
      }

  -- The number of the state that is reached takes two bytes at most.
  pub target_small : (y : ℕ) → (walked tower table rows).target (entry_number area i) a ≡ Some y → y < 65536
  target_small y goes =
      let bounds = was.turning.world.files.search in
      omega (arith, bounds.states_most, bounds.targets (entry_number area i) a y (was.turning.filled.states i was.turning.low) goes)

  pub enter_waited : (number : ℕ) (b : Bool) (after : List ℕ) → Entered b nodes area number n (these (waiting_set nodes room a)) after → wide ≡ true
      → a < (walked tower table rows).actions → (walked tower table rows).target (entry_number area i) a ≡ Some number
      → NextEntered b (walked tower table rows) nodes area i a number n after
  enter_waited number b after entered e listed goes =
      record {
        stays = entered.stays;
        headed = λ f. (entered.holds f).headed;
        says = λ h. subst (λ s. Entered b nodes area number n s after) (sym (((was.waiting e).waits a number listed goes).is h)) entered;
      }

  pub single_ready : wide ≡ false → a < (walked tower table rows).actions → Single tower table rows nodes area n graph i a
  single_ready e listed =
      record {
        world = was.turning.world;
        sided = λ h. was.turning.width.says e h;
        filled = subst (λ (w : Bool). PairsFilled (walked tower table rows) nodes w area n) e was.turning.filled;
        light = was.turning.light;
        right = was.turning.right;
        graph_room = was.turning.graph_room;
        low = was.turning.low;
        most = was.turning.most;
        listed = listed;
      }
