-- Rows with what is pending, the pairs of the table as a tower: the search over them finds a broken step exactly if some allowed run is broken.
use Prim.Native.Nat.{ℕ, ◌≤◌, ◌<◌}
use mathlib.Core.Path.{◌≡◌, refl, sym, ◌∙◌, ap, subst}
use mathlib.Core.Bool.{true, false, not}
use Rattle.std.specs.Prelude.{None, Some}
use mathlib.Core.List.{List, [], ◌∷◌, ◌++◌}
use lib.ListN.{length, get_or-eq_default}
use lib.Dec.{ltb}
use borrow.Author.Tests.{ltb-true, ltb-false}
use Rattle.base.specs.Lists.{below, is_there}
use Rattle.base.proofs.Lists.{whether, true_by, not_in, never_both, and_both, and_fails_left, and_fails_right, some_none, none_of, below_mem, is_there_in, is_there_out, none-some, some_one}
use Rattle.logic.specs.Tower.{Tower, Listed}
use Rattle.logic.specs.Book.{Book, FitBook}
use Rattle.logic.specs.Runs.{leads}
use Rattle.logic.specs.Tables.{Table, row_at, step_to, move, rows_tower, AllowsFrom, Allows, GoodStart, StepsRight, NoneBroken}
use Rattle.logic.proofs.Leads.{leads_nil, leads_one, leads_in, leads_out, snoc_in}
use Rattle.logic.proofs.Canonical.{FollowsRuns}
use Rattle.pending.specs.Pending.{Pending}
use Rattle.alternatives.specs.Alternatives.{these}
use Rattle.alternatives.specs.Progression.{first_set}
use Rattle.alternatives.specs.Pairs.{Pair, first_pair, alternatives_by, tried_step, over_full, pair_step, pairs, over_alternatives}
use Rattle.alternatives.specs.Asks.{FulfilsOne}
use Rattle.alternatives.proofs.Marks.{progressed_set_same}
use Rattle.alternatives.proofs.Steps.{Standing, tried_step_out, tried_step_in, pair_step_out, pair_step_spare, pair_leads_state, spare_not_over, one_not_over, meets_on, meets_leads}
use Rattle.alternatives.proofs.Theorems.{unbroken_first}
use Rattle.outcome.specs.Check.{over_items, broken_step, breaks, some_broken}
use Rattle.outcome.specs.Reached.{ReachedPair, ReachedItem}
use Rattle.outcome.proofs.Counted.{pairs_reached, pairs_all}

-- Only a row of the table has allowed actions.
pub move_inside : (table : Table) (r a s : ℕ) → move table r a ≡ Some s → r < length table
move_inside table r a s e =
    whether (ltb r (length table)) (λ here. ltb-true r (length table) here)
    (λ past. none-some (outside (ltb-false r (length table) past)) e)
  where
    outside : length table ≤ r → move table r a ≡ None
    outside h = unfold move row_at step_to in (rw (get_or-eq_default table (record { state = 0; steps = [] }) h) refl)

-- Where a table follows a tower, what it allows is one of the tower's actions.
pub rows_listed : (tower : Tower) (table : Table) → Listed tower → FollowsRuns tower table → Listed (rows_tower tower table)
unfolding Listed rows_tower StepsRight
rows_listed tower table listed follows r a s e =
    listed (row_at table r).state a (row_at table s).state (follows.steps r (move_inside table r a s e) a s e)

module _ (tower : Tower) (book : Book) (table : Table) where
  -- the table as a tower
  abbrev rows : Tower
  rows = rows_tower tower table

  -- the pair of a row with what is pending: the row's state
  abbrev pub pair_of : ℕ → List Pending → Pair
  pair_of r ps = record { state = (row_at table r).state; pending = ps }

  -- What comes of a row's alternatives is what comes of them in its state.
  pub item_by : (v : Pair) (a : ℕ) → alternatives_by rows book v a ≡ alternatives_by tower book (pair_of v.state v.pending) a
  unfolding rows_tower alternatives_by
  item_by v a =
      progressed_set_same rows tower v.state (row_at table v.state).state (λ k. refl)
      (tower.step_length (row_at table v.state).state a) book v.pending

  -- A step of a row with what is pending is by an allowed action, and what is pending progresses as the row's state is left.
  item_step_out : (v w : Pair) (a : ℕ) → pair_step rows book v a ≡ Some w
      → (move table v.state a ≡ Some w.state)
      × (alternatives_by tower book (pair_of v.state v.pending) a ≡ these w.pending) × Standing w
  unfolding rows_tower
  item_step_out v w a e = let (to, next, stands) = pair_step_out rows book v w a e in (to, sym (item_by v a) ∙ next, stands)

  -- From a row that is not over_full it is a step where alternatives are left.
  item_step_in : (v w : Pair) (a : ℕ) → over_full rows book v ≡ false → move table v.state a ≡ Some w.state
      → alternatives_by tower book (pair_of v.state v.pending) a ≡ these w.pending → Standing w → pair_step rows book v a ≡ Some w
  unfolding rows_tower
  item_step_in v w a spare to next stands =
      pair_step_spare rows book v a spare ∙ tried_step_in rows book v w a to (item_by v a ∙ next) stands

  -- One that is reached lies at the end of a run that the table allows and that goes over unbroken steps.
  pub record RunTo (v : Pair) : Type 0 where
    pub run : List ℕ
    pub row : leads (move table) 0 run ≡ Some v.state
    pub pair : leads (tried_step tower book) (first_pair tower book) run ≡ Some (pair_of v.state v.pending)

  module _ (follows : FollowsRuns tower table) where
    -- An allowed action is enabled in the row's state.
    pub item_enabled : (r a s : ℕ) → move table r a ≡ Some s → tower.target (row_at table r).state a ≡ Some (row_at table s).state
    unfolding StepsRight
    item_enabled r a s to = follows.steps r (move_inside table r a s to) a s to

    -- It is a step that is tried from its pair.
    pub item_pair : (v w : Pair) (a : ℕ) → pair_step rows book v a ≡ Some w
        → tried_step tower book (pair_of v.state v.pending) a ≡ Some (pair_of w.state w.pending)
    item_pair v w a e =
        let (to, next, stands) = item_step_out v w a e in
        tried_step_in tower book (pair_of v.state v.pending) (pair_of w.state w.pending) a
        (item_enabled v.state a w.state to) next (record { first = stands.first; others = stands.others; are = stands.are })

    -- ---- no broken step is found, so no allowed run is broken

    module _ (listed : Listed rows) (few : over_items tower book table ≡ false) (whole : some_broken rows book ≡ false) where
      -- an allowed action makes an unbroken step from all that are reached: they are looked at, since they are not too many
      unbroken : (v : Pair) (a t : ℕ) → ReachedPair rows book v → move table v.state a ≡ Some t
          → is_there (pair_step rows book v a) ≡ true
      unfolding some_broken breaks broken_step rows_tower Listed over_items
      unbroken v a t reached to =
          let sound : breaks rows book v ≡ false = some_none (breaks rows book) whole (pairs_all rows book listed few v reached) in
          let here : broken_step rows book v a ≡ false =
          some_none (broken_step rows book v) sound (below_mem tower.actions a (listed v.state a t to)) in
          true_by (is_there (pair_step rows book v a)) (λ gone. never_both (and_both (is_there_in to) (not_in gone)) here)

      -- from a row with what is pending that is reached, every run that the table allows goes on over unbroken steps
      walks : (w : List ℕ) (v : Pair) (s : ℕ) → ReachedPair rows book v → leads (move table) v.state w ≡ Some s
          → (u : Pair) × (leads (tried_step tower book) (pair_of v.state v.pending) w ≡ Some u)
      walks [] v s reached e = (pair_of v.state v.pending, leads_nil (tried_step tower book) (pair_of v.state v.pending))
      walks (a ∷ w) v s reached e =
          let (t, to, on) = leads_out (move table) v.state s a w e in
          let (z, step) = is_there_out (pair_step rows book v a) (unbroken v a t reached to) in
          let same : t ≡ z.state = some_one to (item_step_out v z a step).0 in
          let (u, rest) = walks w z s (further v a z reached step) (subst (λ y. leads (move table) y w ≡ Some s) same on) in
          (u, leads_in (tried_step tower book) (pair_of v.state v.pending) (pair_of z.state z.pending) u a w (item_pair v z a step) rest)
        where
          further : (v : Pair) (a : ℕ) (z : Pair) → ReachedPair rows book v → pair_step rows book v a ≡ Some z → ReachedPair rows book z
          further v a z reached step =
              unfold ReachedPair in
              (reached.0 ++ (a ∷ []), snoc_in (pair_step rows book) (first_pair rows book) v z reached.0 a reached.1 step)

      -- from row 0 on, every allowed run goes on over unbroken steps
      pub all_walked : (w : List ℕ) → Allows table w → (v : Pair) × (leads (tried_step tower book) (first_pair tower book) w ≡ Some v)
      unfolding Allows AllowsFrom first_pair GoodStart rows_tower ReachedPair
      all_walked w (s, e) =
          let (v, on) = walks w (first_pair rows book) s ([], leads_nil (pair_step rows book) (first_pair rows book)) e in
          (v, ap (λ x. leads (tried_step tower book) (record { state = x; pending = first_set book }) w) (sym follows.start) ∙ on)

    -- ---- a broken step is found, so some allowed run is broken

    -- Where rows with what is pending lead, so do their pairs.
    pub pairs_lead : (v u : Pair) (w : List ℕ) → leads (pair_step rows book) v w ≡ Some u
        → leads (tried_step tower book) (pair_of v.state v.pending) w ≡ Some (pair_of u.state u.pending)
    pairs_lead v u [] e =
        leads_nil (tried_step tower book) (pair_of v.state v.pending)
        ∙ ap (λ z. Some (pair_of z.state z.pending)) (some_one (leads_nil (pair_step rows book) v) e)
    pairs_lead v u (a ∷ w) e =
        let (z, step, rest) = leads_out (pair_step rows book) v u a w e in
        leads_in (tried_step tower book) (pair_of v.state v.pending) (pair_of z.state z.pending) (pair_of u.state u.pending) a w
        (item_pair v z a step) (pairs_lead z u w rest)

    pub run_to : (v : Pair) → ReachedItem tower book table v → RunTo v
    unfolding ReachedItem ReachedPair first_pair rows_tower GoodStart
    run_to v (w, e) =
        record {
          run = w;
          row = pair_leads_state rows book (first_pair rows book) v w e;
          pair =
              ap (λ x. leads (tried_step tower book) (record { state = x; pending = first_set book }) w) (sym follows.start)
              ∙ pairs_lead (first_pair rows book) v w e;
        }

    -- From a row that is not over_full an allowed action makes a step that leads on, if what is pending there meets it.
    pub meets_steps : FitBook book → Listed rows → (v : Pair) (a t : ℕ) → over_full rows book v ≡ false → move table v.state a ≡ Some t
        → FulfilsOne tower book (row_at table v.state).state v.pending (a ∷ []) → (w : Pair) × (pair_step rows book v a ≡ Some w)
    unfolding rows_tower
    meets_steps fit listed v a t spare to meets =
        let (u, led) =
        meets_leads tower book fit (pair_of v.state v.pending) (a ∷ []) (row_at table t).state
        (one_not_over tower book (pair_of v.state v.pending) a (λ many. spare_not_over rows book listed v a t spare to (item_by v a ∙ many)))
        (leads_one tower.target (row_at table v.state).state a ∙ item_enabled v.state a t to) meets in
        let (goes, next, stands) =
        tried_step_out tower book (pair_of v.state v.pending) u a (sym (leads_one (tried_step tower book) (pair_of v.state v.pending) a) ∙ led) in (
          record { state = t; pending = u.pending },
          item_step_in v (record { state = t; pending = u.pending }) a spare to next
              (record { first = stands.first; others = stands.others; are = stands.are }),
        )

    module _ (fit : FitBook book) (listed : Listed rows) (None : NoneBroken tower book table) where
      -- behind a run to a row with what is pending, what is pending there meets every allowed action
      meets_allowed : (v : Pair) (a t : ℕ) → RunTo v → move table v.state a ≡ Some t
          → FulfilsOne tower book (row_at table v.state).state v.pending (a ∷ [])
      unfolding NoneBroken Allows AllowsFrom first_pair
      meets_allowed v a t before to =
          (meets_on tower book fit (first_pair tower book) (pair_of v.state v.pending) before.run (a ∷ []) before.pair).0
          ((unbroken_first tower book fit (before.run ++ (a ∷ []))).0
          (None (before.run ++ (a ∷ [])) (t, snoc_in (move table) 0 v.state t before.run a before.row to)))

      -- so an allowed action makes an unbroken step from a row that is not over_full
      step_whole : (v : Pair) (a t : ℕ) → over_full rows book v ≡ false → RunTo v → move table v.state a ≡ Some t
          → is_there (pair_step rows book v a) ≡ true
      step_whole v a t spare before to = let (w, e) = meets_steps fit listed v a t spare to (meets_allowed v a t before to) in is_there_in e

      -- where no allowed run is broken and none of them is over_full, no step is broken
      pub none_found : over_alternatives rows book ≡ false → some_broken rows book ≡ false
      unfolding some_broken breaks over_alternatives ReachedItem
      none_found narrow =
          none_of (breaks rows book) (pairs rows book)
          (λ v m.
          let before = run_to v (pairs_reached rows book listed v m) in
          none_of (broken_step rows book v) (below rows.actions) (λ a here. sound v a (some_none (over_full rows book) narrow m) before))
        where
          sound : (v : Pair) (a : ℕ) → over_full rows book v ≡ false → RunTo v → broken_step rows book v a ≡ false
          sound v a spare before =
              unfold broken_step rows_tower in
              (whether (is_there (move table v.state a))
              (λ allowed.
              let (t, to) = is_there_out (move table v.state a) allowed in
              and_fails_right (is_there (move table v.state a)) (ap not (step_whole v a t spare before to)))
              (λ not_allowed. and_fails_left (not (is_there (pair_step rows book v a))) not_allowed))
