-- One action of a pair: what is left in the areas on each way.
use Prim.Native.Nat.{ℕ, ◌+◌, ◌*◌, ◌≤◌, ◌<◌}
use native.Mathlib.Omega.{arith}
use native.Mathlib.Numerals.{add-two}
use native.Mathlib.Decide.{dec_lt}
use mathlib.Core.Path.{◌≡◌, refl, sym, ◌∙◌, ap, ap₂, subst}
use mathlib.Core.Logic.{inl, inr}
use mathlib.Core.Bool.{Bool, true, false}
use Rattle.std.specs.Prelude.{None, Some}
use Rattle.base.specs.Options.{bind}
use mathlib.Core.List.{List, [], ◌∷◌}
use lib.ListN.{length}
use mir.Syntax.{w64}
use mir.Val.{Fits}
use Rattle.logic.specs.Tower.{Tower}
use Rattle.logic.specs.Book.{Book}
use Rattle.pending.specs.Pending.{Pending}
use Rattle.alternatives.specs.Alternatives.{these}
use Rattle.alternatives.specs.Pairs.{Pair, same_pair, alternatives_by, over_full, pair_at, tried_step, pair_step}
use Rattle.alternatives.proofs.Steps.{tried_step_at, pair_step_spare}
use Rattle.book_progression.specs.NodeBytes.{IsHeld}
use Rattle.std.specs.Prelude.{Option}
use Rattle.file_tower.proofs.Laws.{state_reached, none_reached}
use Rattle.area_bytes.proofs.Numbers.{stored, stored_read, stored_beside}
use Rattle.set_index.specs.Entries.{entries_size, entry_number, entry_first, entry_at, Headed, Indexed}
use Rattle.pair_sets.specs.PairSets.{entry_set, Holds, Noted}
use Rattle.pair_sets.specs.declared.Place.{Place}
use Rattle.pair_sets.proofs.Entries.{entry_set_length, equal_numbers, holds_first}
use Rattle.pair_sets.proofs.Seen.{stays_indexed}
use Rattle.pair_graph.specs.Graph.{Move, to}
use Rattle.pair_graph.specs.Steps.{move_of, cell, move_at, state_in, graph_size}
use Rattle.pair_trial.specs.Walked.{walked, Searchable}
use Rattle.pair_trial.specs.Trial.{pair_of, pair_in}
use Rattle.pair_step.specs.Stepped.{pairs_of, with_one, PairsFilled, SaysMove, moves_not, moves_broken, moves_to, RightGraph, Searching, NextEntered, ActionFollowed, Stepped}
use Rattle.pair_step.specs.declared.Way.{Way}
use Rattle.pair_step.proofs.PairEntries.{pairs_same, state_of_pair, pending_of_pair, noted_pairs, filled_stays, one_left, entry_single}

-- ---- what the callees of `look_up` want

-- The index is still that of the entries before n.
pub still_indexed : (b : Bool) (tower : Tower) (nodes area : List ℕ) (i a y n : ℕ) (after index : List ℕ)
    → NextEntered b tower nodes area i a y n after → Indexed area index n → Indexed after index n
still_indexed b tower nodes area i a y n after index entered indexed = stays_indexed nodes area n after index entered.stays indexed

-- The area is as long as it was.
pub still_room : (b : Bool) (tower : Tower) (nodes : List ℕ) (wide : Bool) (area : List ℕ) (i a y n : ℕ) (after : List ℕ)
    → NextEntered b tower nodes area i a y n after → PairsFilled tower nodes wide area n → entries_size ≤ length after
still_room b tower nodes wide area i a y n after entered filled = omega (arith, entered.stays.size, filled.size)

pub still_headed : (b : Bool) (tower : Tower) (nodes area : List ℕ) (i a y n : ℕ) (after : List ℕ)
    → NextEntered b tower nodes area i a y n after → b ≡ true → Headed after n
still_headed b tower nodes area i a y n after entered e = entered.headed e

-- The number of a move fits.
pub move_fits : (out : Place) (area : List ℕ) (n k : ℕ) (index : List ℕ) → k ≤ 2 → Noted out area n index → n ≤ 1000 → Fits w64 (out.at + k)
move_fits out area n k index few noted most = omega (arith, noted.inside, noted.most)

-- ---- the ways of `follow`

-- The number of the move to pair j.
pub move_more : (j : ℕ) → move_of (j + 2) ≡ to j
move_more j = unfold move_of in (rw (add-two j))

module _ (tower : Tower) (nodes : List ℕ) (wide : Bool) (area : List ℕ) (i a n x : ℕ) (r : Option ℕ) (at_r : r ≡ (tower.target x a))
    (at_x : x ≡ entry_number area i) where
  -- The action is not enabled.
  pub follow_not : (index : List ℕ) → r ≡ None → PairsFilled tower nodes wide area n → Indexed area index n
      → ((h : IsHeld nodes) → over_full tower h.book (pair_in nodes area i) ≡ false)
      → ActionFollowed (record { code = 0; met = n }) tower nodes wide area i a n area index
  unfolding with_one tried_step bind move_of
  follow_not index is filled indexed spare =
      record {
        least = omega arith;
        most = omega arith;
        filled = filled;
        indexed = indexed;
        kept = λ j l. refl;
        small = omega arith;
        grown = λ h. sym (rw (pair_step_spare tower h.book (pair_in nodes area i) a (spare h), nowhere));
        says = λ h. moves_not nowhere;
      }
    where
      nowhere : tower.target (pair_in nodes area i).state a ≡ None
      nowhere = ap (λ (z : ℕ). tower.target z a) (state_of_pair nodes area i ∙ sym at_x) ∙ none_reached (tower.target x a) r at_r is

-- It is.
pub follow_goes : (tower : Tower) (area : List ℕ) (i a x y : ℕ) (r : Option ℕ) → r ≡ (tower.target x a) → x ≡ entry_number area i
    → r ≡ Some y → tower.target (entry_number area i) a ≡ Some y
follow_goes tower area i a x y r at_r at_x is = ap (λ (z : ℕ). tower.target z a) (sym at_x) ∙ state_reached (tower.target x a) r y at_r is

-- ---- the ways of `look_up`

-- Alternatives that are left make a pair.
pair_at_left : (y : ℕ) (ps : List Pending) → 0 < length ps → pair_at y (these ps) ≡ Some (record { state = y; pending = ps })
unfolding pair_at
pair_at_left y [] l = absurd (omega arith)
pair_at_left y (p ∷ ps) l = refl

module _ (tower table : List ℕ) (rows : Bool) (nodes : List ℕ) (wide : Bool) (area : List ℕ) (n : ℕ) (index graph room : List ℕ) (i a y : ℕ) (b : Bool)
    (after : List ℕ) (entered : NextEntered b (walked tower table rows) nodes area i a y n after)
    (was : Searching tower table rows nodes wide area n index graph room i (i + 1) (16 * i + a))
    (goes : (walked tower table rows).target (entry_number area i) a ≡ Some y) where
  leads : (walked tower table rows).target (pair_in nodes area i).state a ≡ Some y
  leads = ap (λ (z : ℕ). (walked tower table rows).target z a) (state_of_pair nodes area i) ∙ goes

  -- the pair that it leads to
  step_pair : (h : IsHeld nodes)
      → pair_step (walked tower table rows) h.book (pair_in nodes area i) a
      ≡ pair_at y (alternatives_by (walked tower table rows) h.book (pair_in nodes area i) a)
  step_pair h =
      pair_step_spare (walked tower table rows) h.book (pair_in nodes area i) a (was.spare h)
      ∙ tried_step_at (walked tower table rows) h.book (pair_in nodes area i) a y leads

  still_filled : PairsFilled (walked tower table rows) nodes wide after n
  still_filled = filled_stays (walked tower table rows) nodes wide area n after was.turning.filled was.turning.light entered.stays

  -- The step is broken.
  pub looked_broken : b ≡ false → ActionFollowed (record { code = 1; met = n }) (walked tower table rows) nodes wide area i a n after index
  unfolding with_one move_of
  looked_broken f =
      record {
        least = omega arith;
        most = omega arith;
        filled = still_filled;
        indexed = stays_indexed nodes area n after index entered.stays was.turning.indexed;
        kept = entered.stays.kept;
        small = omega arith;
        grown = λ h. pairs_same nodes after area n entered.stays.kept ∙ sym (rw (nothing h));
        says = λ h. moves_broken y leads (nothing h);
      }
    where
      nothing : (h : IsHeld nodes) → pair_step (walked tower table rows) h.book (pair_in nodes area i) a ≡ None
      nothing h = unfold pair_at in (step_pair h ∙ ap (pair_at y) ((entered.says h).none_left f))

  -- It leads to entry n.
  module _ (later : List ℕ) (out : Place) (noted : Noted out after n later) (f : b ≡ true) where
    holds : (h : IsHeld nodes) → Holds nodes y n (alternatives_by (walked tower table rows) h.book (pair_in nodes area i) a) after
    holds h = (entered.says h).holds f

    some_left : 0 < length (entry_set nodes after n)
    some_left = omega (arith, entry_set_length nodes after n, (entered.headed f).rising n (omega arith))

    leads_here : (h : IsHeld nodes) → pair_step (walked tower table rows) h.book (pair_in nodes area i) a ≡ Some (pair_in nodes after n)
    leads_here h =
        step_pair h ∙ ap (pair_at y) (holds h).set_is ∙ pair_at_left y (entry_set nodes after n) some_left
        ∙ ap Some (pair_is h)
      where
        pair_is : (h : IsHeld nodes) → record { state = y; pending = entry_set nodes after n } ≡ pair_in nodes after n
        pair_is h =
            ap₂ (λ s ps. record { state = s; pending = ps }) (sym (state_of_pair nodes after n ∙ (holds h).number_is)) (pending_of_pair nodes after n h)

    new_single : wide ≡ false → entry_first after (n + 1) ≡ entry_first after n + 1
    new_single e =
        let h = was.turning.world.held in
        let one = one_left (walked tower table rows) h.book (was.turning.width.says e h) (pair_in nodes area i) a (entry_set nodes after n)
        (entry_single (walked tower table rows) nodes wide area n i e was.turning.filled was.turning.low) (holds h).set_is some_left in
        holds_first nodes y n (alternatives_by (walked tower table rows) h.book (pair_in nodes area i) a) after (holds h) (entry_set nodes after n)
        (holds h).set_is
        ∙ ap (λ (k : ℕ). entry_first after n + k) one

    pub looked_up : ActionFollowed (record { code = out.at + 2; met = out.met }) (walked tower table rows) nodes wide area i a n after later
    looked_up =
        record {
          least = noted.least;
          most = noted.most;
          filled =
              record {
                size = still_filled.size;
                states = λ j l. elim (dec_lt j n) [
                  | yes k ↦ still_filled.states j k
                  | no k ↦ (
                      let e : j ≡ n = omega (arith, noted.most) in
                      rw (e, (holds was.turning.world.held).number_is)
                      (was.turning.world.files.search.targets (entry_number area i) a y (was.turning.filled.states i was.turning.low) goes))
                ];
                start = still_filled.start;
                rising = λ j l. (entered.headed f).rising j (omega (arith, noted.most));
                single = λ e j l. elim (dec_lt j n) [
                  | yes k ↦ still_filled.single e j k
                  | no k ↦ (let same : j ≡ n = omega (arith, noted.most) in rw same (new_single e))
                ];
                blank = still_filled.blank;
              };
          indexed = noted.indexed;
          kept = entered.stays.kept;
          small = omega (arith, noted.inside, noted.most, was.turning.most);
          grown = λ h.
              noted_pairs nodes h after n later out still_filled.blank noted
              ∙ ap (λ z. with_one same_pair z (Some (pair_in nodes after n))) (pairs_same nodes after area n entered.stays.kept)
              ∙ ap (with_one same_pair (pairs_of nodes area n)) (sym (leads_here h));
          says = λ h. subst (λ z. SaysMove (walked tower table rows) h.book nodes after out.met (pair_in nodes area i) a z) (sym (move_more out.at))
              (moves_to out.at noted.inside
              (leads_here h ∙ ap Some (ap (pair_of nodes) (sym noted.equal))));
        }

-- ---- the move

-- There is room for it.
pub pair_room_below : (i n : ℕ) → i < n → n ≤ 1000 → i < 1000
pair_room_below i n low most = omega arith

pub move_room_below : (tower : Tower) (a : ℕ) → Searchable tower → a < tower.actions → a < 16
move_room_below tower a bounds listed = omega (arith, bounds.actions_most)

pub cell_inside : (i a : ℕ) (graph : List ℕ) → i < 1000 → a < 16 → graph_size ≤ length graph → cell i a + 1 < length graph
unfolding cell
cell_inside i a graph l k room = omega arith

-- What a move says stays true while more pairs are met.
says_still : (tower : Tower) (book : Book) (nodes area : List ℕ) (n : ℕ) (v : Pair) (a : ℕ) (after : List ℕ) (m : ℕ) → n ≤ m
    → ((j : ℕ) → j < n → entry_at after j ≡ entry_at area j) → (move : Move) → SaysMove tower book nodes area n v a move
    → SaysMove tower book nodes after m v a move
says_still tower book nodes area n v a after m l kept _ (moves_not e) = moves_not e
says_still tower book nodes area n v a after m l kept _ (moves_broken y e f) = moves_broken y e f
says_still tower book nodes area n v a after m l kept _ (moves_to j k e) =
    moves_to j (omega arith) (e ∙ ap (λ z. Some (pair_of nodes z)) (sym (kept j k)))

module _ (tower : Tower) (nodes : List ℕ) (wide : Bool) (area : List ℕ) (i a n : ℕ) (graph after index after_graph : List ℕ) (way : Way)
    (followed : ActionFollowed way tower nodes wide area i a n after index) (written : after_graph ≡ stored graph (cell i a) way.code)
    (right : RightGraph tower nodes area n graph (i + 1) (16 * i + a)) (bounds : Searchable tower) (listed : a < tower.actions) (low : i < n)
    (most : n ≤ 1000) (room : graph_size ≤ length graph) where
  -- a move says of its pair what it said of it before
  says_after : (h : IsHeld nodes) (j b : ℕ) → j < n → (move : Move)
      → SaysMove tower h.book nodes area n (pair_in nodes area j) b move
      → SaysMove tower h.book nodes after way.met (pair_in nodes after j) b move
  says_after h j b l move s =
      subst (λ z. SaysMove tower h.book nodes after way.met z b move) (ap (pair_of nodes) (sym (followed.kept j l)))
      (says_still tower h.book nodes area n (pair_in nodes area j) b after way.met followed.least followed.kept move s)

  -- the move that was written
  written_move : move_at after_graph i a ≡ move_of way.code
  unfolding move_at
  written_move =
      ap move_of
      (rw written
      (stored_read graph (cell i a) way.code
      (cell_inside i a graph (pair_room_below i n low most) (move_room_below tower a bounds listed) room) followed.small))

  -- a move before it
  move_before : (j b : ℕ) → 16 * j + b < 16 * i + a → move_at after_graph j b ≡ move_at graph j b
  unfolding move_at cell
  move_before j b l = ap move_of (rw written (stored_beside graph (2 * (16 * i + a)) way.code (2 * (16 * j + b)) (inl (omega arith))))

  -- a state
  state_beside : (j : ℕ) → state_in after_graph j ≡ state_in graph j
  unfolding cell
  state_beside j =
      rw written
      (stored_beside graph (2 * (16 * i + a)) way.code (32000 + 2 * j) (inr (omega (arith, move_room_below tower a bounds listed))))

  pub step_done : Stepped way.met tower nodes wide area i a n after index after_graph
  step_done =
      record {
        least = followed.least;
        most = followed.most;
        filled = followed.filled;
        indexed = followed.indexed;
        kept = followed.kept;
        grown = followed.grown;
        right =
            record {
              states = λ j l. state_beside j ∙ right.states j l ∙ sym (equal_numbers after area j j (followed.kept j (omega arith)));
              says = λ h j b l k. said h j b l k (dec_lt (16 * j + b) (16 * i + a));
            };
      }
    where
      said : (h : IsHeld nodes) (j b : ℕ) → b < tower.actions → 16 * j + b < 16 * i + a + 1
          → Dec (16 * j + b < 16 * i + a)
          → SaysMove tower h.book nodes after way.met (pair_in nodes after j) b (move_at after_graph j b)
      said h j b l k (yes m) =
          let inside : j < n = omega (arith, bounds.actions_most) in
          subst (λ z. SaysMove tower h.book nodes after way.met (pair_in nodes after j) b z) (sym (move_before j b m))
          (says_after h j b inside (move_at graph j b) (right.says h j b l m))
      said h j b l k (no m) =
          let same_place : j ≡ i = omega (arith, bounds.actions_most) in
          let same_action : b ≡ a = omega (arith, bounds.actions_most) in
          rw (same_place, same_action, written_move)
          (subst (λ z. SaysMove tower h.book nodes after way.met z a (move_of way.code))
          (ap (pair_of nodes) (sym (followed.kept i low))) (followed.says h))
