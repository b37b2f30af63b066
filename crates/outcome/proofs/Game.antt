-- The safety game: whatever a good table reaches is never removed, and what is never removed is fine. So a good table exists exactly if the
-- first pair is safe.
use Prim.Native.Nat.{ℕ, zero, suc, ◌<◌}
use mathlib.Core.Path.{◌≡◌, refl, sym, ◌∙◌, ap, ap₂, fun_ext}
use mathlib.Core.Bool.{Bool, true, false, ◌&&◌, ◌||◌, not}
use Rattle.std.specs.Prelude.{Option, None, Some}
use mathlib.Core.List.{List, [], ◌∷◌, ◌++◌, Memᴰ}
use lib.ListN.{length}
use Rattle.base.specs.Lists.{every, some_of, below, is_there, there_with}
use Rattle.base.proofs.Lists.{whether, and_both, and_left, and_right, or_left, or_right, not_in, below_every, below_some, there_not, there_with_in, whether_there, some_one, present_map_in, below_mem}
use Rattle.base.proofs.Search.{search_reached, search_finds}
use Rattle.base.proofs.Search as Search
use Rattle.base.proofs.Rounds.{Falling, rest_round_rests}
use Rattle.logic.specs.Tower.{Tower, controllable, goes_on, Listed}
use Rattle.logic.specs.Book.{Book}
use Rattle.logic.specs.Runs.{leads, IsRun, Unbroken}
use Rattle.logic.specs.Tables.{Table, row_at, move, AllowsAction, AllowsFrom, Allows, NoneWithheld, GoesOn, StepsRight, NoneBroken, Good}
use Rattle.logic.proofs.Leads.{snoc_in, snoc_out}
use Rattle.logic.proofs.Canonical.{good_arrives, good_run}
use Rattle.alternatives.proofs.Weights.{pairs_few}
use Rattle.alternatives.specs.Pairs.{Pair, same_pair, first_pair, pair_step, pair_followers, pairs, over_pairs, pair_weight, most_pairs}
use Rattle.alternatives.proofs.Same.{same_pair_eq, same_pair_refl}
use Rattle.alternatives.proofs.Steps.{pair_step_listed}
use Rattle.outcome.specs.Game.{forced_right, can_go, fine, safe_through, last_removal, safe}

module _ (tower : Tower) (book : Book) where
  -- where a list of actions leads over unbroken steps
  abbrev pub Met : List ℕ → Pair → Type 0
  Met w v = leads (pair_step tower book) (first_pair tower book) w ≡ Some v

  -- what the theorem of progression gives of a tower and a book
  pub record Exact : Type 0 where
    pub steps : (w : List ℕ) → IsRun tower w → Unbroken tower book w → (v : Pair) × Met w v
    pub state : (w : List ℕ) (v : Pair) → Met w v → leads tower.target tower.start w ≡ Some v.state

module _ (tower : Tower) (book : Book) (listed : Listed tower) (exact : Exact tower book) (table : Table) (good : Good tower book table) where
  -- a row and a pair that one allowed run leads to
  pub record Together (w : List ℕ) (r : ℕ) (v : Pair) : Type 0 where
    pub row : leads (move table) 0 w ≡ Some r
    pub pair : Met tower book w v

  module _ (w : List ℕ) (r : ℕ) (v : Pair) (at : Together w r v) where
    inside : r < length table
    inside = (good_arrives tower book table good w r at.row).row

    same_state : (row_at table r).state ≡ v.state
    same_state = some_one (good_arrives tower book table good w r at.row).state (exact.state w v at.pair)

    -- an allowed action leads on in both
    pub onward : (a s : ℕ) → move table r a ≡ Some s → (u : Pair) × (pair_step tower book v a ≡ Some u) × Together (w ++ (a ∷ [])) s u
    unfolding Allows AllowsFrom NoneBroken
    onward a s e =
        let row : leads (move table) 0 (w ++ (a ∷ [])) ≡ Some s = snoc_in (move table) 0 r s w a at.row e in
        let next = exact.steps (w ++ (a ∷ [])) (good_run tower book table good (w ++ (a ∷ [])) (s, row)) (good.e (w ++ (a ∷ [])) (s, row)) in
        step next.0 next.1 row
      where
        step : (u : Pair) → Met tower book (w ++ (a ∷ [])) u → leads (move table) 0 (w ++ (a ∷ [])) ≡ Some s
            → (u : Pair) × (pair_step tower book v a ≡ Some u) × Together (w ++ (a ∷ [])) s u
        step u met row =
            let out = snoc_out (pair_step tower book) (first_pair tower book) u w a met in
            (u, ap (λ z. pair_step tower book z a) (some_one at.pair out.1) ∙ out.2, record { row = row; pair = met })

  -- an action that may not be withheld stays inside whatever holds of the pairs that the table reaches
  forced : (staying : Pair → Bool) (w : List ℕ) (r : ℕ) (v : Pair) → Together w r v
      → ((u : List ℕ) (s : ℕ) (z : Pair) → Together u s z → staying z ≡ true) → (a : ℕ) → forced_right tower book staying v a ≡ true
  unfolding forced_right NoneWithheld AllowsAction
  forced staying w r v at all a =
      whether (controllable (tower.kind a))
      (λ yes_ours. or_left _ (or_left _ yes_ours))
      (λ not_ours.
      whether_there (tower.target v.state a)
      (λ nowhere. or_left _ (or_right (controllable (tower.kind a)) (not_in (there_not nowhere))))
      (λ y e.
      let allowed = good.b r (inside w r v at) a y (ap (λ x. tower.target x a) (same_state w r v at) ∙ e) not_ours in
      let next = onward w r v at a allowed.0 allowed.1 in
      or_right (controllable (tower.kind a) || not (is_there (tower.target v.state a)))
      (there_with_in staying next.1 (all (w ++ (a ∷ [])) allowed.0 next.0 next.2))))

  goes : (staying : Pair → Bool) (w : List ℕ) (r : ℕ) (v : Pair) → Together w r v
      → ((u : List ℕ) (s : ℕ) (z : Pair) → Together u s z → staying z ≡ true) → some_of (can_go tower book staying v) (below tower.actions) ≡ true
  unfolding can_go GoesOn AllowsAction StepsRight Listed
  goes staying w r v at all =
      let (a, allowed, on) = good.d r (inside w r v at) in
      let next = onward w r v at a allowed.0 allowed.1 in
      let enabled = good.c r (inside w r v at) a allowed.0 allowed.1 in
      below_some (can_go tower book staying v) tower.actions a (listed (row_at table r).state a _ enabled)
      (and_both on (there_with_in staying next.1 (all (w ++ (a ∷ [])) allowed.0 next.0 next.2)))

  -- Whatever a good table reaches is left after every round.
  pub good_stays : (n : ℕ) (w : List ℕ) (r : ℕ) (v : Pair) → Together w r v → safe_through tower book n v ≡ true
  unfolding safe_through fine
  good_stays zero w r v at = refl
  good_stays (suc n) w r v at =
      and_both (good_stays n w r v at)
      (and_both
      (below_every (forced_right tower book (safe_through tower book n) v) tower.actions
      (λ a lt. forced (safe_through tower book n) w r v at (good_stays n) a))
      (goes (safe_through tower book n) w r v at (good_stays n)))

-- ---- what is left at the end is fine

module _ (tower : Tower) (book : Book) (listed : Listed tower) (few : over_pairs tower book ≡ false) where
  -- the steps of a pair that is met are met
  pub met_step : (v : Pair) (a : ℕ) (w : Pair) → Memᴰ v (pairs tower book) → pair_step tower book v a ≡ Some w → Memᴰ w (pairs tower book)
  unfolding pairs pair_followers
  met_step v a w m e =
      search_finds same_pair (pair_followers tower book) pair_weight most_pairs (first_pair tower book) same_pair_eq same_pair_refl
      (pairs_few tower book few)
      (Search.onward
      (search_reached same_pair (pair_followers tower book) pair_weight most_pairs (first_pair tower book) m)
      (present_map_in (pair_step tower book v) (below tower.actions) (below_mem tower.actions a (pair_step_listed tower book listed v w a e)) e))

  -- a pair is fine among the staying, whichever of two tests that agree on its steps says what stays
  fine_along : (staying other : Pair → Bool) (v : Pair) → ((a : ℕ) (w : Pair) → pair_step tower book v a ≡ Some w → staying w ≡ other w)
      → fine tower book staying v ≡ fine tower book other v
  unfolding fine
  fine_along staying other v same =
      ap₂ ◌&&◌
      (ap (λ test. every test (below tower.actions)) (fun_ext λ a. forced_along a))
      (ap (λ test. some_of test (below tower.actions)) (fun_ext λ a. going_along a))
    where
      step_along : (a : ℕ) (o : Option Pair) → pair_step tower book v a ≡ o → there_with staying o ≡ there_with other o
      step_along a None e = unfold there_with in refl
      step_along a (Some w) e = unfold there_with in same a w e

      forced_along : (a : ℕ) → forced_right tower book staying v a ≡ forced_right tower book other v a
      forced_along a =
          unfold forced_right in
          (ap (λ b. controllable (tower.kind a) || not (is_there (tower.target v.state a)) || b) (step_along a (pair_step tower book v a) refl))

      going_along : (a : ℕ) → can_go tower book staying v a ≡ can_go tower book other v a
      going_along a = unfold can_go in (ap (λ b. goes_on (tower.kind a) && b) (step_along a (pair_step tower book v a) refl))

  -- the rounds of removal only remove, and once a round removes none, no later one does
  removal_falls : Falling (safe_through tower book) (pairs tower book)
  unfolding safe_through
  removal_falls =
      record {
        falls = λ k v m e. and_left (safe_through tower book k v) (fine tower book (safe_through tower book k) v) e;
        rests = λ k same v m.
            ap₂ ◌&&◌ (same v m)
            (fine_along (safe_through tower book k) (safe_through tower book (suc k)) v (λ a w e. same w (met_step v a w m e)));
      }

  -- A pair that is never removed is fine among those that are never removed.
  pub safe_fine : (v : Pair) → Memᴰ v (pairs tower book) → safe tower book v ≡ true → fine tower book (safe tower book) v ≡ true
  unfolding safe last_removal safe_through
  safe_fine v m e =
      and_right (safe_through tower book (last_removal tower book) v) (fine tower book (safe_through tower book (last_removal tower book)) v)
      (sym (rest_round_rests (safe_through tower book) (pairs tower book) removal_falls v m) ∙ e)
