-- The rows that pairs make, by meaning: two met pairs are one row exactly if their states are equal and the same allowed runs lead on.
use Prim.Native.Nat.{ℕ, zero, suc, ◌<◌}
use mathlib.Core.Path.{◌≡◌, refl, sym, ap, ◌∙◌}
use mathlib.Core.Logic.{◌↔◌, ◌⊎◌, inl, inr}
use mathlib.Core.Bool.{true, false}
use Rattle.std.specs.Prelude.{Option, None, Some}
use mathlib.Core.List.Memᴰ
use mathlib.Core.List.{List, [], ◌∷◌, map, Memᴰ}
use borrow.Author.Tests.{eqb-true, eq-eqb}
use native.Mathlib.Decide.{dec_lt}
use Rattle.base.specs.Lists.{is_there, same_option}
use Rattle.base.proofs.Lists.{IsSame, options_same, and_left, and_right, and_both, every_below, below_every, same_option_out, some_one, joined_in, joined_out, mem_along, same_truth, is_there_in, there_not, whether_there, only_if_out, never_both}
use Rattle.base.proofs.Rounds.{Falling, rest_round_rests}
use Rattle.logic.specs.Tower.{Tower, Listed}
use Rattle.logic.specs.Book.{Book}
use Rattle.logic.specs.Runs.{leads}
use Rattle.logic.proofs.Leads.{leads_nil, leads_step, leads_stuck, leads_one}
use Rattle.alternatives.specs.Pairs.{Pair, pair_step, pairs, first_pair, over_pairs}
use Rattle.alternatives.proofs.Steps.{pair_step_out}
use Rattle.outcome.specs.Game.{safe, safe_step, fine}
use Rattle.outcome.specs.Rows.{Two, alike_for, twos, last_split, one_row}

-- What is known where a table is made: the tower's actions are listed, the pairs are not too many, the first is safe; steps from met pairs
-- are met, and a safe pair that is met is fine among the safe ones.
pub record Known (tower : Tower) (book : Book) : Type 0 where
  pub listed : Listed tower
  pub few : over_pairs tower book ≡ false
  pub first_safe : safe tower book (first_pair tower book) ≡ true
  pub met_step : (v : Pair) (a : ℕ) (w : Pair) → Memᴰ v (pairs tower book) → pair_step tower book v a ≡ Some w
      → Memᴰ w (pairs tower book)
  pub safe_fine : (v : Pair) → Memᴰ v (pairs tower book) → safe tower book v ≡ true → fine tower book (safe tower book) v ≡ true

module _ (tower : Tower) (book : Book) where
  -- What is not told apart in n + 1 steps is not told apart in n.
  pub alike_less : (n : ℕ) (v w : Pair) → alike_for tower book (suc n) v w ≡ true → alike_for tower book n v w ≡ true
  unfolding alike_for
  alike_less n v w e = and_left (alike_for tower book n v w) _ e

  -- Not told apart in n + 1 steps: what an action leads to is not told apart in n.
  pub alike_steps : (n : ℕ) (v w : Pair) → alike_for tower book (suc n) v w ≡ true → (a : ℕ) → a < tower.actions
      → same_option (alike_for tower book n) (safe_step tower book v a) (safe_step tower book w a) ≡ true
  unfolding alike_for
  alike_steps n v w e a l =
      every_below (λ a. same_option (alike_for tower book n) (safe_step tower book v a) (safe_step tower book w a)) tower.actions a
      (and_right (alike_for tower book n v w) _ e) l

  -- Not told apart in n steps, and neither is what each action leads to: not told apart in n + 1.
  pub alike_more : (n : ℕ) (v w : Pair) → alike_for tower book n v w ≡ true
      → ((a : ℕ) → a < tower.actions → same_option (alike_for tower book n) (safe_step tower book v a) (safe_step tower book w a) ≡ true)
      → alike_for tower book (suc n) v w ≡ true
  unfolding alike_for
  alike_more n v w e h =
      and_both e
      (below_every (λ a. same_option (alike_for tower book n) (safe_step tower book v a) (safe_step tower book w a)) tower.actions h)

  -- Not to be told apart in n steps is an equivalence.
  pub alike_same : (n : ℕ) → IsSame (alike_for tower book n)
  unfolding alike_for
  alike_same zero =
      record {
        itself = λ v. eq-eqb v.state v.state refl;
        turned = λ v w e. eq-eqb w.state v.state (sym (eqb-true v.state w.state e));
        chained = λ v w x e f. eq-eqb v.state x.state (eqb-true v.state w.state e ∙ eqb-true w.state x.state f);
      }
  alike_same (suc n) = on (alike_same n) (options_same (alike_for tower book n) (alike_same n))
    where
      on : IsSame (alike_for tower book n) → IsSame (same_option (alike_for tower book n)) → IsSame (alike_for tower book (suc n))
      on is are =
          record {
            itself = λ v. alike_more n v v (is.itself v) (λ a l. are.itself (safe_step tower book v a));
            turned = λ v w e. alike_more n w v (is.turned v w (alike_less n v w e))
                (λ a l. are.turned (safe_step tower book v a) (safe_step tower book w a) (alike_steps n v w e a l));
            chained = λ v w x e f. alike_more n v x (is.chained v w x (alike_less n v w e) (alike_less n w x f))
                (λ a l. are.chained (safe_step tower book v a) (safe_step tower book w a) (safe_step tower book x a)
                (alike_steps n v w e a l) (alike_steps n w x f a l));
          }

  -- Pairs that are not told apart have equal states.
  pub alike_state : (n : ℕ) (v w : Pair) → alike_for tower book n v w ≡ true → v.state ≡ w.state
  unfolding alike_for
  alike_state zero v w e = eqb-true v.state w.state e
  alike_state (suc n) v w e = alike_state n v w (alike_less n v w e)

  -- To be one row is an equivalence.
  pub one_row_same : IsSame (one_row tower book)
  unfolding one_row
  one_row_same = alike_same (last_split tower book)

  -- One row has one state.
  pub one_row_state : (v w : Pair) → one_row tower book v w ≡ true → v.state ≡ w.state
  unfolding one_row
  one_row_state v w e = alike_state (last_split tower book) v w e

  -- Every two of a list are among its twos.
  pub twos_mem : {v w : Pair} {vs : List Pair} → Memᴰ v vs → Memᴰ w vs → Memᴰ (record { one = v; other = w }) (twos vs)
  unfolding twos
  twos_mem {v} {w} {vs} m n =
      joined_in (Memᴰ.map (λ (y : Pair). record { one = v; other = y }) n)
      (Memᴰ.map (λ (x : Pair). map (λ (y : Pair). record { one = x; other = y }) vs) m)

  -- The twos of a list are of its members.
  pub mem_twos : {two : Two} {vs : List Pair} → Memᴰ two (twos vs) → Memᴰ two.one vs × Memᴰ two.other vs
  unfolding twos
  mem_twos {two} {vs} m =
      let (twos_of, n, k) = joined_out (map (λ (x : Pair). map (λ (y : Pair). record { one = x; other = y }) vs) vs) m in
      let (v, i, e) = Memᴰ.of_map (λ (x : Pair). map (λ (y : Pair). record { one = x; other = y }) vs) vs n in
      let (w, j, f) = Memᴰ.of_map (λ (y : Pair). record { one = v; other = y }) vs (mem_along (sym e) k) in
      (Memᴰ.cast (ap (λ (t : Two). t.one) (sym f)) i, Memᴰ.cast (ap (λ (t : Two). t.other) (sym f)) j)

  -- What an allowed action leads to is the pair's step, and safe.
  pub safe_step_out : (v : Pair) (a : ℕ) (w : Pair) → safe_step tower book v a ≡ Some w
      → (pair_step tower book v a ≡ Some w) × (safe tower book w ≡ true)
  unfolding safe_step
  safe_step_out v a w e = only_if_out (safe tower book) (pair_step tower book v a) e

  -- An allowed action leads to the state that it leads to in the tower.
  pub safe_step_target : (v : Pair) (a : ℕ) (w : Pair) → safe_step tower book v a ≡ Some w → tower.target v.state a ≡ Some w.state
  safe_step_target v a w e = (pair_step_out tower book v w a (safe_step_out v a w e).0).0

  -- The same allowed runs lead on from both.
  abbrev pub SameOn : Pair → Pair → Type 0
  SameOn v w = (u : List ℕ) → is_there (leads (safe_step tower book) v u) ≡ is_there (leads (safe_step tower book) w u)

  -- An allowed action leads from equal states to equal states.
  pub safe_step_state : (v w x y : Pair) (a : ℕ) → v.state ≡ w.state → safe_step tower book v a ≡ Some x
      → safe_step tower book w a ≡ Some y → x.state ≡ y.state
  safe_step_state v w x y a e f g =
      some_one (safe_step_target v a x f) (ap (λ (s : ℕ). tower.target s a) e ∙ safe_step_target w a y g)

  -- Where the same runs lead on, the same actions are allowed.
  same_on_one : (v w : Pair) → SameOn v w → (a : ℕ) → is_there (safe_step tower book v a) ≡ is_there (safe_step tower book w a)
  same_on_one v w h a =
      ap (λ (o : Option Pair). is_there o) (sym (leads_one (safe_step tower book) v a)) ∙ h (a ∷ [])
      ∙ ap (λ (o : Option Pair). is_there o) (leads_one (safe_step tower book) w a)

  -- Where the same runs lead on, they do so behind an action.
  same_on_step : (v w x y : Pair) (a : ℕ) → SameOn v w → safe_step tower book v a ≡ Some x → safe_step tower book w a ≡ Some y → SameOn x y
  same_on_step v w x y a h f g u =
      ap (λ (o : Option Pair). is_there o) (sym (leads_step (safe_step tower book) v x a u f)) ∙ h (a ∷ u)
      ∙ ap (λ (o : Option Pair). is_there o) (leads_step (safe_step tower book) w y a u g)

  -- Pairs with equal state from which the same runs lead on are not told apart in n steps.
  pub runs_alike : (n : ℕ) (v w : Pair) → v.state ≡ w.state → SameOn v w → alike_for tower book n v w ≡ true
  unfolding alike_for same_option
  runs_alike zero v w e h = eq-eqb v.state w.state e
  runs_alike (suc n) v w e h =
      alike_more n v w (runs_alike n v w e h) (λ a l. both (runs_alike n) a (safe_step tower book v a) (safe_step tower book w a) refl refl)
    where
      both : ((x y : Pair) → x.state ≡ y.state → SameOn x y → alike_for tower book n x y ≡ true) → (a : ℕ) (o p : Option Pair)
          → safe_step tower book v a ≡ o → safe_step tower book w a ≡ p → same_option (alike_for tower book n) o p ≡ true
      both ih a None None f g = refl
      both ih a None (Some y) f g = never_both (same_on_one v w h a ∙ is_there_in g) (there_not f)
      both ih a (Some x) None f g = never_both (sym (same_on_one v w h a) ∙ is_there_in f) (there_not g)
      both ih a (Some x) (Some y) f g = ih x y (safe_step_state v w x y a e f g) (same_on_step v w x y a h f g)

  -- Pairs with equal state from which the same runs lead on are one row.
  pub runs_one_row : (v w : Pair) → v.state ≡ w.state → SameOn v w → one_row tower book v w ≡ true
  unfolding one_row
  runs_one_row v w e h = runs_alike (last_split tower book) v w e h

  module _ (known : Known tower book) where
    -- Steps that are allowed lead from met pairs to met pairs.
    pub safe_met : (v : Pair) (a : ℕ) (w : Pair) → Memᴰ v (pairs tower book) → safe_step tower book v a ≡ Some w
        → Memᴰ w (pairs tower book)
    safe_met v a w m e = known.met_step v a w m (safe_step_out v a w e).0

    -- Only the tower's actions are allowed.
    pub safe_listed : (v : Pair) (a : ℕ) (w : Pair) → safe_step tower book v a ≡ Some w → a < tower.actions
    unfolding Listed
    safe_listed v a w e = known.listed v.state a w.state (safe_step_target v a w e)

    -- No other action is allowed.
    pub unlisted_none : (v : Pair) (a : ℕ) → ¬ (a < tower.actions) → safe_step tower book v a ≡ None
    unlisted_none v a l = whether_there (safe_step tower book v a) (λ e. e) (λ w e. absurd (l (safe_listed v a w e)))

    -- Where a round tells no two met pairs apart, the next tells none apart.
    splits_rest : (k : ℕ) → ((two : Two) → Memᴰ two (twos (pairs tower book))
        → alike_for tower book k two.one two.other ≡ alike_for tower book (suc k) two.one two.other)
        → (v w : Pair) → Memᴰ v (pairs tower book) → Memᴰ w (pairs tower book)
        → alike_for tower book (suc k) v w ≡ true → alike_for tower book (suc (suc k)) v w ≡ true
    unfolding same_option
    splits_rest k still v w m n e =
        alike_more (suc k) v w e (λ a l. go a (safe_step tower book v a) (safe_step tower book w a) refl refl (alike_steps k v w e a l))
      where
        go : (a : ℕ) (o p : Option Pair) → safe_step tower book v a ≡ o → safe_step tower book w a ≡ p
            → same_option (alike_for tower book k) o p ≡ true → same_option (alike_for tower book (suc k)) o p ≡ true
        go a None None f g h = h
        go a None (Some y) f g h = h
        go a (Some x) None f g h = h
        go a (Some x) (Some y) f g h =
            sym (still (record { one = x; other = y }) (twos_mem (safe_met v a x m f) (safe_met w a y n g))) ∙ h

    -- The rounds of splitting fall, and rest once they rest.
    splits_fall : Falling (λ n two. alike_for tower book n two.one two.other) (twos (pairs tower book))
    splits_fall =
        record {
          falls = λ k two _ e. alike_less k two.one two.other e;
          rests = λ k still two m.
              same_truth (alike_for tower book (suc k) two.one two.other) (alike_for tower book (suc (suc k)) two.one two.other)
              (splits_rest k still two.one two.other (mem_twos m).0 (mem_twos m).1)
              (alike_less (suc k) two.one two.other);
        }

    -- From two met pairs that are one row each action leads to one row, or from neither anywhere.
    pub one_row_step : (v w : Pair) → Memᴰ v (pairs tower book) → Memᴰ w (pairs tower book)
        → one_row tower book v w ≡ true → (a : ℕ)
        → same_option (one_row tower book) (safe_step tower book v a) (safe_step tower book w a) ≡ true
    unfolding same_option one_row last_split
    one_row_step v w m n e a = go (dec_lt a tower.actions)
      where
        go : Dec (a < tower.actions) → same_option (one_row tower book) (safe_step tower book v a) (safe_step tower book w a) ≡ true
        go (yes l) =
            alike_steps (last_split tower book) v w
            (sym (rest_round_rests (λ n two. alike_for tower book n two.one two.other) (twos (pairs tower book)) splits_fall
            (record { one = v; other = w }) (twos_mem m n)) ∙ e) a l
        go (no l) = rw (unlisted_none v a l, unlisted_none w a l)

    -- From two met pairs that are one row the same runs lead on.
    pub one_row_runs : (v w : Pair) → Memᴰ v (pairs tower book) → Memᴰ w (pairs tower book)
        → one_row tower book v w ≡ true → SameOn v w
    one_row_runs v w m n e [] = is_there_in (leads_nil (safe_step tower book) v) ∙ sym (is_there_in (leads_nil (safe_step tower book) w))
    one_row_runs v w m n e (a ∷ u) =
        go (λ x y k l f. one_row_runs x y k l f u)
        (same_option_out (one_row tower book) (safe_step tower book v a) (safe_step tower book w a) (one_row_step v w m n e a))
      where
        go : ((x y : Pair) → Memᴰ x (pairs tower book) → Memᴰ y (pairs tower book) → one_row tower book x y ≡ true
            → is_there (leads (safe_step tower book) x u) ≡ is_there (leads (safe_step tower book) y u))
            → ((safe_step tower book v a ≡ None) × (safe_step tower book w a ≡ None))
            ⊎ ((x : Pair) × ((y : Pair) × (safe_step tower book v a ≡ Some x) × (safe_step tower book w a ≡ Some y)
            × (one_row tower book x y ≡ true)))
            → is_there (leads (safe_step tower book) v (a ∷ u)) ≡ is_there (leads (safe_step tower book) w (a ∷ u))
        go ih (inl (f, g)) = rw (leads_stuck (safe_step tower book) v a u f, leads_stuck (safe_step tower book) w a u g)
        go ih (inr (x, (y, f, g, h))) =
            rw (leads_step (safe_step tower book) v x a u f, leads_step (safe_step tower book) w y a u g)
            (ih x y (safe_met v a x m f) (safe_met w a y n g) h)

    -- Two met pairs are one row exactly if their states are equal and the same allowed runs lead on.
    pub one_row_means : (v w : Pair) → Memᴰ v (pairs tower book) → Memᴰ w (pairs tower book)
        → one_row tower book v w ≡ true ↔ ((v.state ≡ w.state) × SameOn v w)
    one_row_means v w m n =
        (λ e. (one_row_state v w e, one_row_runs v w m n e), λ h. runs_one_row v w h.0 h.1)
