-- Partitions and passes: what the tests say, that every partition is an equivalence, and that a pass looks at rows alone.
use Prim.Native.Nat.{ℕ, zero, suc, ◌<◌}
use mathlib.Core.Path.{◌≡◌, refl, sym, ◌∙◌}
use mathlib.Core.Bool.{Bool, true, ◌&&◌, not}
use Rattle.std.specs.Prelude.{Option, None, Some}
use lib.Dec.{eqb}
use borrow.Author.Tests.{eqb-true, eq-eqb, not-true}
use Rattle.base.specs.Lists.{every, some_of, below, same_option}
use Rattle.base.proofs.Lists.{never_both, same_truth, not_in, and_left, and_right, and_both, every_below, below_every, some_below, below_some, IsSame, options_same}
use Rattle.pair_graph.specs.Graph.{Graph, to, allowed_to, AlikeNow, SafePair}
use Rattle.pair_graph.proofs.Moves.{allowed_out}
use Rattle.refinement.specs.Passes.{alike_now, pass, partition, Separates, separates}

-- Moves lead to pairs.
abbrev pub Targets : Graph → Type 0
Targets graph = (i a j : ℕ) → i < graph.pairs → a < graph.actions → graph.move i a ≡ to j → j < graph.pairs

module _ (graph : Graph) (safe : ℕ → Bool) where
  -- ---- what the tests say

  -- the pair that an allowed action leads to
  abbrev step : ℕ → ℕ → Option ℕ
  step i a = allowed_to safe (graph.move i a)

  -- the action leads to one class
  abbrev steps_alike : (ℕ → ℕ → Bool) → ℕ → ℕ → ℕ → Bool
  steps_alike same i j a = same_option same (step i a) (step j a)

  -- Two pairs look alike by the test: they do,
  pub alike_out : (same : ℕ → ℕ → Bool) (i j : ℕ) → alike_now graph safe same i j ≡ true → AlikeNow graph safe same i j
  unfolding alike_now
  alike_out same i j e =
      let states = and_left (eqb (graph.state i) (graph.state j)) (every (steps_alike same i j) (below graph.actions)) e in
      let steps = and_right (eqb (graph.state i) (graph.state j)) (every (steps_alike same i j) (below graph.actions)) e in
      record {
        state = eqb-true (graph.state i) (graph.state j) states;
        steps = λ a l. every_below (steps_alike same i j) graph.actions a steps l;
      }

  -- and back.
  pub alike_in : (same : ℕ → ℕ → Bool) (i j : ℕ) → AlikeNow graph safe same i j → alike_now graph safe same i j ≡ true
  unfolding alike_now
  alike_in same i j h =
      and_both (eq-eqb (graph.state i) (graph.state j) h.state) (below_every (steps_alike same i j) graph.actions h.steps)

  -- A pass parts only what was together,
  pub pass_before : (same : ℕ → ℕ → Bool) (i j : ℕ) → pass graph safe same i j ≡ true → same i j ≡ true
  unfolding pass
  pass_before same i j e = and_left (same i j) (alike_now graph safe same i j) e

  -- keeps together only what looks alike,
  pub pass_alike : (same : ℕ → ℕ → Bool) (i j : ℕ) → pass graph safe same i j ≡ true → AlikeNow graph safe same i j
  unfolding pass
  pass_alike same i j e = alike_out same i j (and_right (same i j) (alike_now graph safe same i j) e)

  -- and keeps all of that.
  pub pass_keeps : (same : ℕ → ℕ → Bool) (i j : ℕ) → same i j ≡ true → AlikeNow graph safe same i j → pass graph safe same i j ≡ true
  unfolding pass
  pass_keeps same i j e h = and_both e (alike_in same i j h)

  -- the pass behind the first k parts the two
  abbrev parts : ℕ → ℕ → ℕ → Bool
  parts k i j = partition graph safe k i j && not (partition graph safe (suc k) i j)

  -- it parts i from some row
  abbrev parts_some : ℕ → ℕ → Bool
  parts_some k i = some_of (λ j. safe j && parts k i j) (below graph.pairs)

  -- A pass separates rows by the test: it does,
  pub separates_out : (k : ℕ) → separates graph safe k ≡ true → Separates graph safe k
  unfolding separates
  separates_out k e =
      let (i, li, p) = some_below (λ i. safe i && parts_some k i) graph.pairs e in
      let (j, lj, q) = some_below (λ j. safe j && parts k i j) graph.pairs (and_right (safe i) (parts_some k i) p) in
      let r = and_right (safe j) (parts k i j) q in
      record {
        first = i;
        second = j;
        first_safe = record { there = li; is_safe = and_left (safe i) (parts_some k i) p };
        second_safe = record { there = lj; is_safe = and_left (safe j) (parts k i j) q };
        together = and_left (partition graph safe k i j) (not (partition graph safe (suc k) i j)) r;
        apart =
            not-true (partition graph safe (suc k) i j)
            (and_right (partition graph safe k i j) (not (partition graph safe (suc k) i j)) r);
      }

  -- and back.
  pub separates_in : (k : ℕ) → Separates graph safe k → separates graph safe k ≡ true
  unfolding separates
  separates_in k s =
      below_some (λ i. safe i && parts_some k i) graph.pairs s.first s.first_safe.there
      (and_both s.first_safe.is_safe
      (below_some (λ j. safe j && parts k s.first j) graph.pairs s.second s.second_safe.there
      (and_both s.second_safe.is_safe (and_both s.together (not_in s.apart)))))

  -- ---- partitions

  -- A pass over an equivalence gives one.
  pass_is : (same : ℕ → ℕ → Bool) → IsSame same → IsSame (pass graph safe same)
  pass_is same is =
      let steps = options_same same is in
      record {
        itself =
            λ i. pass_keeps same i i (is.itself i) (record { state = refl; steps = λ a l. steps.itself (step i a) });
        turned =
            λ i j e.
            let h = pass_alike same i j e in
            pass_keeps same j i (is.turned i j (pass_before same i j e))
            (record { state = sym h.state; steps = λ a l. steps.turned (step i a) (step j a) (h.steps a l) });
        chained =
            λ i j k e f.
            let h = pass_alike same i j e in
            let g = pass_alike same j k f in
            pass_keeps same i k (is.chained i j k (pass_before same i j e) (pass_before same j k f))
            (record {
              state = h.state ∙ g.state;
              steps = λ a l. steps.chained (step i a) (step j a) (step k a) (h.steps a l) (g.steps a l);
            });
      }

  -- Every partition is an equivalence.
  pub partition_same : (k : ℕ) → IsSame (partition graph safe k)
  unfolding partition
  partition_same zero = record { itself = λ i. refl; turned = λ i j e. refl; chained = λ i j l e f. refl }
  partition_same (suc k) = pass_is (partition graph safe k) (partition_same k)

  -- What a pass leaves together was together before it.
  pub partition_finer : (k i j : ℕ) → partition graph safe (suc k) i j ≡ true → partition graph safe k i j ≡ true
  unfolding partition
  partition_finer k i j e = pass_before (partition graph safe k) i j e

  -- ---- rows alone

  module _ (targets : Targets graph) where
    -- An allowed step from a row leads to a row.
    led_safe : (i a j : ℕ) → SafePair graph safe i → a < graph.actions → step i a ≡ Some j → SafePair graph safe j
    led_safe i a j s l e =
        let (leads, ends) = allowed_out safe (graph.move i a) j e in
        record { there = targets i a j s.there l leads; is_safe = ends }

    -- Rows that look alike do so where more rows are together.
    pub alike_more : (same other : ℕ → ℕ → Bool)
        → ((i j : ℕ) → SafePair graph safe i → SafePair graph safe j → same i j ≡ true → other i j ≡ true)
        → (i j : ℕ) → SafePair graph safe i → SafePair graph safe j → AlikeNow graph safe same i j → AlikeNow graph safe other i j
    unfolding same_option
    alike_more same other more i j si sj h =
        record { state = h.state; steps = λ a l. go a l (step i a) (step j a) refl refl (h.steps a l) }
      where
        go : (a : ℕ) → a < graph.actions → (o p : Option ℕ) → step i a ≡ o → step j a ≡ p → same_option same o p ≡ true
            → same_option other o p ≡ true
        go a l None None f g e = refl
        go a l None (Some y) f g e = never_both e refl
        go a l (Some x) None f g e = never_both e refl
        go a l (Some x) (Some y) f g e = more x y (led_safe i a x si l f) (led_safe j a y sj l g) e

    -- A pass keeps together more rows where more are.
    pass_more : (same other : ℕ → ℕ → Bool)
        → ((i j : ℕ) → SafePair graph safe i → SafePair graph safe j → same i j ≡ true → other i j ≡ true)
        → (i j : ℕ) → SafePair graph safe i → SafePair graph safe j → pass graph safe same i j ≡ true → pass graph safe other i j ≡ true
    pass_more same other more i j si sj e =
        pass_keeps other i j (more i j si sj (pass_before same i j e)) (alike_more same other more i j si sj (pass_alike same i j e))

    -- A pass over partitions that agree on rows gives such.
    pub pass_same : (same other : ℕ → ℕ → Bool)
        → ((i j : ℕ) → SafePair graph safe i → SafePair graph safe j → same i j ≡ other i j)
        → (i j : ℕ) → SafePair graph safe i → SafePair graph safe j → pass graph safe same i j ≡ pass graph safe other i j
    pass_same same other agree i j si sj =
        same_truth (pass graph safe same i j) (pass graph safe other i j)
        (pass_more same other (λ k l sk sl e. sym (agree k l sk sl) ∙ e) i j si sj)
        (pass_more other same (λ k l sk sl e. agree k l sk sl ∙ e) i j si sj)
