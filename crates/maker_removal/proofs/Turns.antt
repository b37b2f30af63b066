-- Removal under way: what a visit of a pair leaves, each pair once, the predecessors of one pair, and the worklist to its end.
use Prim.Native.Nat.{ℕ, ◌+◌, ◌-◌, ◌*◌, ◌/◌, ◌≤◌, ◌<◌}
use native.Mathlib.Omega.{arith}
use native.Mathlib.Decide.{ℕ_discrete}
use mathlib.Core.Path.{◌≡◌, refl, sym, ◌∙◌, ap, subst}
use mathlib.Core.Bool.{Bool, true, false, ◌&&◌, not}
use mathlib.Core.List.{List}
use lib.ListN.{length, set, length-set}
use lib.Seq.{get_or-set_other}
use borrow.Author.Tests.{not-true}
use Rattle.base.specs.Bytes.{number_at}
use Rattle.base.proofs.Lists.{never_both, and_left, and_right, true_by}
use Rattle.logic.specs.Tower.{Tower, tower_of}
use Rattle.area_chains.specs.Chains.{head_in, link_in}
use Rattle.area_chains.proofs.Walks.{Walking, walk_node, walk_start, walk_first, walk_on, walk_falls, walk_ahead}
use Rattle.pair_graph.specs.Graph.{to}
use Rattle.pair_graph.specs.Steps.{move_at, graph_of, safe_in, HoldsGraph}
use Rattle.pair_graph.specs.Predecessors.{CellTo, Listed}
use Rattle.pair_graph.specs.Counting.{count}
use Rattle.pair_graph.proofs.Counting.{count_most}
use Rattle.pair_graph.proofs.Lists.{cell_in, SameLists, listed_same}
use Rattle.maker_removal.specs.Removal.{fine_at, RemovalInput, PairInput, live_in, Worklist, HoldsAll, Removing, none_ahead}
use Rattle.maker_removal.specs.Removal.{from, CellAhead, AllSafe, Pushed, has_to_go, Visited, Worked, Removed}
use Rattle.maker_removal.proofs.FinePairs.{fine_out, fine_in, fine_along, fine_more}
use Rattle.maker_removal.proofs.Flags.{safe_live, room_for, pushed_safe, pushed_not_safe, pushed_live, pushed_count, pushed_list}
use Rattle.maker_removal.proofs.Flags.{taken_there, taken_safe, taken_live, taken_count, taken_list}

-- ---- what is given

-- A pair of what is ready can be judged.
pub ready_judged : (tower : List ℕ) (n : ℕ) (graph area : List ℕ) (i : ℕ) → RemovalInput tower n graph area → i < n → PairInput tower n graph area i
ready_judged tower n graph area i given l =
    record {
      fit = given.fit;
      flagged = record { graph = given.held; flagged = omega (arith, given.held.pairs_most, given.room) };
      there = l;
    }

-- There is room on the worklist for a safe pair.
pub ready_room : (tower : List ℕ) (n : ℕ) (graph area : List ℕ) (i height : ℕ) (r : Bool) → RemovalInput tower n graph area
    → Worklist n area height → i < n → r ≡ safe_in area i → r ≡ true → height < 1000
ready_room tower n graph area i height r given w l e f = room_for n area i height given.held.pairs_most w l (sym e ∙ f)

-- ---- pairs that have to go

module _ (tower : Tower) (graph area : List ℕ) (i : ℕ) where
  -- A pair that has to go is safe so far,
  pub goer_safe : has_to_go tower graph area i ≡ true → safe_in area i ≡ true
  unfolding has_to_go
  goer_safe e = and_left (safe_in area i) (not (fine_at tower graph (safe_in area) i)) e

  -- and not fine among the safe.
  goer_not_fine : has_to_go tower graph area i ≡ true → fine_at tower graph (safe_in area) i ≡ false
  unfolding has_to_go
  goer_not_fine e =
      not-true (fine_at tower graph (safe_in area) i) (and_right (safe_in area i) (not (fine_at tower graph (safe_in area) i)) e)

  -- A safe pair that does not have to go is fine among the safe.
  stayer_fine : has_to_go tower graph area i ≡ false → safe_in area i ≡ true → fine_at tower graph (safe_in area) i ≡ true
  unfolding has_to_go
  stayer_fine e safe = go (safe_in area i) (fine_at tower graph (safe_in area) i) e safe
    where
      go : (k f : Bool) → (k && not f) ≡ false → k ≡ true → f ≡ true
      go true true e k = refl
      go true false e k = never_both refl e
      go false f e k = never_both k refl

  -- ---- a visit

  -- The pair stays.
  stays_so : (height : ℕ) → has_to_go tower graph area i ≡ false → Visited tower graph i height area area height
  stays_so height e =
      record {
        goes = false;
        answer = sym e;
        same = λ _. refl;
        entries_same = λ _. refl;
        pushed = λ z. never_both z refl;
        one_more = λ z. never_both z refl;
      }

  -- It is not safe.
  pub visit_removed : (r : Bool) (height : ℕ) → r ≡ safe_in area i → r ≡ false → Visited tower graph i height area area height
  unfolding has_to_go
  visit_removed r height e f = let h : safe_in area i ≡ false = sym e ∙ f in stays_so height (rw h)

  module _ (r q : Bool) (height : ℕ) (is_r : r ≡ safe_in area i) (safe : r ≡ true) (is_q : q ≡ fine_at tower graph (safe_in area) i) where
    -- It is safe and fine.
    pub visit_fine : q ≡ true → Visited tower graph i height area area height
    unfolding has_to_go
    visit_fine f =
        let h : safe_in area i ≡ true = sym is_r ∙ safe in
        let g : fine_at tower graph (safe_in area) i ≡ true = sym is_q ∙ f in
        stays_so height (rw (h, g))

    -- It is safe and not fine.
    pub visit_pushed : (after : List ℕ) → q ≡ false → Pushed i height area after → Visited tower graph i height area after (height + 1)
    unfolding has_to_go
    visit_pushed after f p =
        let h : safe_in area i ≡ true = sym is_r ∙ safe in
        let g : fine_at tower graph (safe_in area) i ≡ false = sym is_q ∙ f in
        record {
          goes = true;
          answer = rw (h, g);
          same = λ z. never_both refl z;
          entries_same = λ z. never_both refl z;
          pushed = λ _. p;
          one_more = λ _. refl;
        }

-- ---- what a visit keeps

module _ (tower : Tower) (n : ℕ) (graph : List ℕ) (i height : ℕ) (area after : List ℕ) (held : HoldsGraph n tower.actions graph)
    (l : i < n) where
  -- Whatever is fine among itself stays safe where a pair goes that has to go.
  goer_holds : has_to_go tower graph area i ≡ true → Pushed i height area after → HoldsAll tower n graph area → HoldsAll tower n graph after
  goer_holds goes p holds = record { all = all }
    where
      all : (other : ℕ → Bool) → ((k : ℕ) → k < n → other k ≡ true → fine_at tower graph other k ≡ true) → (k : ℕ) → k < n
          → other k ≡ true → safe_in after k ≡ true
      all other fine k m e =
          elim (ℕ_discrete k i) [
            | yes same ↦ never_both
                (fine_more tower n graph other (safe_in area) i held l (holds.all other fine)
                (fine i l (subst (λ x. other x ≡ true) same e)))
                (goer_not_fine tower graph area i goes)
            | no differs ↦ pushed_safe n i height area after held.pairs_most l p k m differs ∙ holds.all other fine k m e
          ]

  lists_pushed : Pushed i height area after → SameLists area after
  lists_pushed p = record { same = λ q from below. p.before q below (λ e. omega (arith, held.pairs_most)) }

  module _ (Ahead Later : ℕ → Type 0) (closer : (k : ℕ) → (k ≡ i → ⊥) → Ahead k → Later k) (s : Removing tower n graph Ahead area height) where
    -- A pair that stays is behind.
    stay : has_to_go tower graph area i ≡ false → Removing tower n graph Later area height
    stay stays = record { listed = s.listed; worklist = s.worklist; holds = s.holds; fine = fine }
      where
        fine : (k : ℕ) → k < n → safe_in area k ≡ true → (Later k → ⊥) → fine_at tower graph (live_in area) k ≡ true
        fine k m safe behind =
            elim (ℕ_discrete k i) [
              | yes same ↦ fine_along tower graph (safe_in area) (live_in area) k (λ a j o t. safe_live area j)
                  (stayer_fine tower graph area k (subst (λ x. has_to_go tower graph area x ≡ false) (sym same) stays) safe)
              | no other ↦ s.fine k m safe (λ ahead. behind (closer k other ahead))
            ]

    -- So is one that goes.
    go : has_to_go tower graph area i ≡ true → Pushed i height area after → Removing tower n graph Later after (height + 1)
    go goes p =
        let most = held.pairs_most in
        let safe = goer_safe tower graph area i goes in
        record {
          listed = listed_same n tower.actions graph area after most (lists_pushed p) s.listed;
          worklist = pushed_list n i height area after most l p safe s.worklist;
          holds = goer_holds goes p s.holds;
          fine = fine;
        }
      where
        fine : (k : ℕ) → k < n → safe_in after k ≡ true → (Later k → ⊥) → fine_at tower graph (live_in after) k ≡ true
        fine k m safe behind =
            elim (ℕ_discrete k i) [
              | yes same ↦ never_both safe
                  (subst (λ x. safe_in after x ≡ false) (sym same) (pushed_not_safe n i height area after held.pairs_most l p))
              | no other ↦ fine_more tower n graph (live_in area) (live_in after) k held m
                  (λ j o live. pushed_live n i height area after held.pairs_most l p (goer_safe tower graph area i goes) j o ∙ live)
                  (s.fine k m (sym (pushed_safe n i height area after held.pairs_most l p k m other) ∙ safe)
                  (λ ahead. behind (closer k other ahead)))
            ]

    -- So is one that was looked at, whether it stays or goes.
    visited : (r : ℕ) → Visited tower graph i height area after r → Removing tower n graph Later after r
    visited r v = ways v.goes refl
      where
        ways : (b : Bool) → v.goes ≡ b → Removing tower n graph Later after r
        ways true e =
            subst (Removing tower n graph Later after) (sym (v.one_more e)) (go (sym v.answer ∙ e) (v.pushed e))
        ways false e =
            subst (λ z. Removing tower n graph Later z r) (sym (v.same e))
            (subst (Removing tower n graph Later area) (sym (v.entries_same e)) (stay (sym v.answer ∙ e)))

  -- There is not more to do than before.
  visited_less : (r : ℕ) → Visited tower graph i height area after r → count (safe_in after) n + r ≤ count (safe_in area) n + height
  visited_less r v = ways v.goes refl
    where
      ways : (b : Bool) → v.goes ≡ b → count (safe_in after) n + r ≤ count (safe_in area) n + height
      ways true e =
          omega (
            arith,
            v.one_more e,
            pushed_count n i height area after held.pairs_most l (v.pushed e) (goer_safe tower graph area i (sym v.answer ∙ e)),
          )
      ways false e =
          subst (λ z. count (safe_in z) n + r ≤ count (safe_in area) n + height) (sym (v.same e)) (omega (arith, v.entries_same e))

-- ---- each pair once

-- What is ready stays so.
ready_after : {tower : List ℕ} {n : ℕ} {graph : List ℕ} (old area : List ℕ) → RemovalInput tower n graph old → length area ≡ length old
    → RemovalInput tower n graph area
ready_after old area given long = record { fit = given.fit; held = given.held; room = omega (arith, given.room, long) }

-- The graph is one with the number of actions that was read.
pub graph_read : (tower : List ℕ) (n m : ℕ) (graph : List ℕ) → m ≡ (tower_of tower).actions → HoldsGraph n (tower_of tower).actions graph
    → HoldsGraph n m graph
graph_read tower n m graph e held = rw e held

-- Where all pairs are safe, removal begins.
pub begun : (tower : Tower) (n m : ℕ) (graph area after : List ℕ) → m ≡ tower.actions → HoldsGraph n tower.actions graph
    → Listed n m graph (16 * n) area → AllSafe n area after → Removing tower n graph (from 0) after 0
unfolding from
begun tower n m graph area after read held listed_so h =
    let listed : Listed n tower.actions graph (16 * n) area = subst (λ x. Listed n x graph (16 * n) area) read listed_so in
    record {
      listed =
          listed_same n tower.actions graph area after held.pairs_most
          (record { same = λ p l m. h.behind p (omega (arith, held.pairs_most)) }) listed;
      worklist =
          record {
            pairs = λ k l. absurd (omega arith);
            removed = λ k l. absurd (omega arith);
            waiting = λ i l live e. never_both (h.safe i l) e;
            room = omega (arith, count_most (safe_in after) n);
          };
      holds = record { all = λ other fine i l e. h.safe i l };
      fine = λ i l e none. absurd (none (omega arith));
    }

-- The pairs below i have been looked at.
pub record ScanningCells (tower : Tower) (n : ℕ) (graph old : List ℕ) (i : ℕ) (area : List ℕ) (height : ℕ) : Type 0 where
  pub state : Removing tower n graph (from i) area height
  pub long : length area ≡ length old

pub scan_start : (tower : Tower) (n : ℕ) (graph area : List ℕ) → Removing tower n graph (from 0) area 0 → ScanningCells tower n graph area 0 area 0
scan_start tower n graph area s = record { state = s; long = refl }

module _ (tower : List ℕ) (n : ℕ) (graph old : List ℕ) (i : ℕ) (area : List ℕ) (height : ℕ) (given : RemovalInput tower n graph old)
    (h : ScanningCells (tower_of tower) n graph old i area height) where
  -- One more has.
  pub scan_more : (after : List ℕ) (r : ℕ) → i < n → Visited (tower_of tower) graph i height area after r → length after ≡ length area
      → ScanningCells (tower_of tower) n graph old (i + 1) after r
  unfolding from
  scan_more after r l v long =
      record {
        state =
            visited (tower_of tower) n graph i height area after given.held l (from i) (from (i + 1))
            (λ k other ahead. omega (arith, other)) h.state r v;
        long = long ∙ h.long;
      }

-- All have been looked at.
pub scan_end : (tower : Tower) (n : ℕ) (graph old : List ℕ) (i : ℕ) (area : List ℕ) (height : ℕ) → ScanningCells tower n graph old i area height
    → n ≤ i → Removing tower n graph none_ahead area height
unfolding from
scan_end tower n graph old i area height h l =
    record {
      listed = h.state.listed;
      worklist = h.state.worklist;
      holds = h.state.holds;
      fine = λ k m safe none. h.state.fine k m safe (λ ahead. omega arith);
    }

-- ---- the predecessors of a pair

-- The walk through the list of pair j has come to cell `at`, with at most so much to do.
pub record Following (tower : Tower) (n : ℕ) (graph : List ℕ) (j most : ℕ) (old : List ℕ) (at : ℕ) (area : List ℕ) (height : ℕ) : Type 0 where
  pub state : Removing tower n graph (CellAhead tower.actions graph j at) area height
  pub walk : Walking (CellTo tower.actions graph) n (16 * n) j at
  pub less : count (safe_in area) n + height ≤ most
  pub long : length area ≡ length old

-- It begins at the head.
pub follow_start : (tower : Tower) (n : ℕ) (graph : List ℕ) (j at : ℕ) (area : List ℕ) (height : ℕ) → at ≡ head_in 1000 area j → j < n
    → Removing tower n graph (CellAhead tower.actions graph j (head_in 1000 area j)) area height
    → Following tower n graph j (count (safe_in area) n + height) area at area height
follow_start tower n graph j at area height e l s =
    record {
      state = subst (λ x. Removing tower n graph (CellAhead tower.actions graph j x) area height) (sym e) s;
      walk =
          walk_start (CellTo tower.actions graph) n (head_in 1000 area) (link_in 3000 area) (16 * n) j s.listed.chained l at e;
      less = omega arith;
      long = refl;
    }

module _ (tower : List ℕ) (n : ℕ) (graph : List ℕ) (j most : ℕ) (old : List ℕ) (at : ℕ) (area : List ℕ) (height : ℕ)
    (given : RemovalInput tower n graph old) (h : Following (tower_of tower) n graph j most old at area height) where
  pub follow_ready : RemovalInput tower n graph area
  follow_ready = ready_after old area given h.long

  -- The next cell is one of the graph's,
  pub follow_cell : 0 < at → at - 1 < 16 * 1000
  follow_cell l = omega (arith, (walk_node (CellTo (tower_of tower).actions graph) n (16 * n) j at h.walk l).there, given.held.pairs_most)

  -- and its pair one of the pairs.
  pub follow_pair : (i : ℕ) → 0 < at → i ≡ (at - 1) / 16 → i < n
  follow_pair i l e = omega (arith, (walk_node (CellTo (tower_of tower).actions graph) n (16 * n) j at h.walk l).there)

  module _ (next : ℕ) (l : 0 < at) (k : j < n) (to_next : next ≡ link_in 3000 area (at - 1)) where
    -- The walk comes closer to its end.
    pub follow_falls : next < at
    follow_falls =
        walk_falls (CellTo (tower_of tower).actions graph) n (head_in 1000 area) (link_in 3000 area) (16 * n) j h.state.listed.chained k
        at next h.walk l to_next

    onward : Walking (CellTo (tower_of tower).actions graph) n (16 * n) j next
    onward =
        walk_on (CellTo (tower_of tower).actions graph) n (head_in 1000 area) (link_in 3000 area) (16 * n) j h.state.listed.chained k
        at next h.walk l to_next

    -- The pair of the cell was looked at.
    pub follow_more : (i : ℕ) (after : List ℕ) (r : ℕ) → i ≡ (at - 1) / 16 → Visited (tower_of tower) graph i height area after r
        → length after ≡ length area → Following (tower_of tower) n graph j most old next after r
    follow_more i after r is_i v long =
        record {
          state =
              visited (tower_of tower) n graph i height area after given.held (follow_pair i l is_i)
              (CellAhead (tower_of tower).actions graph j at) (CellAhead (tower_of tower).actions graph j next) nearer h.state r v;
          walk = onward;
          less =
              omega (
                arith,
                visited_less (tower_of tower) n graph i height area after given.held (follow_pair i l is_i) r v,
                h.less,
              );
          long = long ∙ h.long;
        }
      where
        -- A cell that is ahead is this one or still ahead.
        nearer : (x : ℕ) → (x ≡ i → ⊥) → CellAhead (tower_of tower).actions graph j at x
            → CellAhead (tower_of tower).actions graph j next x
        nearer x other ahead =
            record {
              action = ahead.action;
              listed = ahead.listed;
              below =
                  walk_ahead (CellTo (tower_of tower).actions graph) n (head_in 1000 area) (link_in 3000 area) (16 * n) j
                  h.state.listed.chained k at next h.walk l to_next (16 * x + ahead.action)
                  (cell_in graph (tower_of tower).actions x ahead.action j given.held.actions_most ahead.listed ahead.leads)
                  ahead.below
                  (λ e. other (omega (arith, ahead.listed, given.held.actions_most)));
              leads = ahead.leads;
            }

-- At the end no pair is ahead.
pub follow_end : (tower : Tower) (n : ℕ) (graph : List ℕ) (j most : ℕ) (old : List ℕ) (at : ℕ) (area : List ℕ) (height : ℕ)
    → Following tower n graph j most old at area height → at ≤ 0 → Worked tower n graph most area height
follow_end tower n graph j most old at area height h l =
    record {
      state =
          record {
            listed = h.state.listed;
            worklist = h.state.worklist;
            holds = h.state.holds;
            fine = λ k m safe none. h.state.fine k m safe (λ ahead. omega (arith, ahead.below));
          };
      less = h.less;
    }

-- ---- the worklist

-- What is ready stays so when a flag is written.
pub take_ready : (tower : List ℕ) (n : ℕ) (graph area : List ℕ) (j v : ℕ) → RemovalInput tower n graph area → RemovalInput tower n graph (set area j v)
take_ready tower n graph area j v given = ready_after area (set area j v) given (length-set area j v)

module _ (tower : List ℕ) (n : ℕ) (graph area : List ℕ) (height j : ℕ) (given : RemovalInput tower n graph area)
    (s : Removing (tower_of tower) n graph none_ahead area height) (some : 0 < height)
    (is_j : j ≡ number_at 2 area (35000 + 2 * (height - 1))) where
  -- The pair on top is one of the pairs.
  pub take_there : j < n
  take_there = taken_there n height area j s.worklist some is_j

  -- It has a flag.
  pub take_flag : j < length area
  take_flag = omega (arith, take_there, given.held.pairs_most, given.room)

  lists_taken : SameLists area (set area j 0)
  lists_taken = record { same = λ p l m. get_or-set_other area j p 0 0 (λ e. omega (arith, take_there, given.held.pairs_most)) }

  still_listed : Listed n (tower_of tower).actions graph (16 * n) (set area j 0)
  still_listed = listed_same n (tower_of tower).actions graph area (set area j 0) given.held.pairs_most lists_taken s.listed

  -- Once it is gone, the pairs with a move to it are ahead.
  pub take_removing : Removing (tower_of tower) n graph (CellAhead (tower_of tower).actions graph j (head_in 1000 (set area j 0) j))
      (set area j 0) (height - 1)
  unfolding none_ahead
  take_removing =
      record {
        listed = still_listed;
        worklist = taken_list n height area j s.worklist some is_j given.held.pairs_most given.room;
        holds =
            record {
              all = λ other fine k m e.
                  taken_safe n height area j s.worklist some is_j given.held.pairs_most given.room k ∙ s.holds.all other fine k m e;
            };
        fine = fine;
      }
    where
      fine : (k : ℕ) → k < n → safe_in (set area j 0) k ≡ true
          → (CellAhead (tower_of tower).actions graph j (head_in 1000 (set area j 0) j) k → ⊥)
          → fine_at (tower_of tower) graph (live_in (set area j 0)) k ≡ true
      fine k m safe none =
          fine_along (tower_of tower) graph (live_in area) (live_in (set area j 0)) k along
          (s.fine k m (sym (taken_safe n height area j s.worklist some is_j given.held.pairs_most given.room k) ∙ safe) (λ z. z))
        where
          along : (a x : ℕ) → a < (tower_of tower).actions → move_at graph k a ≡ to x → live_in area x ≡ true
              → live_in (set area j 0) x ≡ true
          along a x o t live =
              elim (ℕ_discrete x j) [
                | yes same ↦ absurd (none (record {
                  action = a;
                  listed = o;
                  below =
                      walk_first (CellTo (tower_of tower).actions graph) n (head_in 1000 (set area j 0)) (link_in 3000 (set area j 0))
                      (16 * n) j still_listed.chained take_there (head_in 1000 (set area j 0) j) refl (16 * k + a)
                      (omega (arith, given.held.actions_most))
                      (cell_in graph (tower_of tower).actions k a j given.held.actions_most o (t ∙ ap to same));
                  leads = t ∙ ap to same;
                }))
                | no other ↦ taken_live n height area j s.worklist some is_j given.held.pairs_most given.room x other ∙ live
              ]

  -- As many pairs are safe as before.
  pub take_worked : (after : List ℕ) (r : ℕ)
      → Worked (tower_of tower) n graph (count (safe_in (set area j 0)) n + (height - 1)) after r
      → Worked (tower_of tower) n graph (count (safe_in area) n + (height - 1)) after r
  take_worked after r w =
      record {
        state = w.state;
        less =
            omega (arith, w.less, taken_count n height area j s.worklist some is_j given.held.pairs_most given.room);
      }

-- The worklist has come to this height.
pub record Working (tower : Tower) (n : ℕ) (graph old area : List ℕ) (height : ℕ) : Type 0 where
  pub state : Removing tower n graph none_ahead area height
  pub long : length area ≡ length old

pub work_start : (tower : Tower) (n : ℕ) (graph area : List ℕ) (height : ℕ) → Removing tower n graph none_ahead area height
    → Working tower n graph area area height
work_start tower n graph area height s = record { state = s; long = refl }

pub work_ready : (tower : List ℕ) (n : ℕ) (graph old area : List ℕ) (height : ℕ) → RemovalInput tower n graph old
    → Working (tower_of tower) n graph old area height → RemovalInput tower n graph area
work_ready tower n graph old area height given h = ready_after old area given h.long

module _ (tower : Tower) (n : ℕ) (graph area after : List ℕ) (height r : ℕ)
    (w : Worked tower n graph (count (safe_in area) n + (height - 1)) after r) where
  -- It goes on.
  pub work_more : (old : List ℕ) → Working tower n graph old area height → length after ≡ length area → Working tower n graph old after r
  work_more old h long = record { state = w.state; long = long ∙ h.long }

-- With nothing on the worklist just the safe pairs are live: they are the largest set of pairs that are fine among themselves.
pub work_end : (tower : List ℕ) (n : ℕ) (graph old area : List ℕ) (height : ℕ) → RemovalInput tower n graph old
    → Working (tower_of tower) n graph old area height → height ≤ 0 → Removed (tower_of tower) n graph area
unfolding graph_of none_ahead
work_end tower n graph old area height given h l =
    record {
      largest =
          record {
            fine = λ i m safe. fine_out (tower_of tower) n graph (safe_in area) i
                (fine_more (tower_of tower) n graph (live_in area) (safe_in area) i given.held m live_safe (h.state.fine i m safe (λ z. z)));
            holds_all = λ other fine. h.state.holds.all other (λ i m e. fine_in (tower_of tower) n graph other i (fine i m e));
          };
      listed = h.state.listed;
    }
  where
    live_safe : (k : ℕ) → k < n → live_in area k ≡ true → safe_in area k ≡ true
    live_safe k m live =
        true_by (safe_in area k) (λ e. let o = h.state.worklist.waiting k m live e in omega (arith, o.within))
