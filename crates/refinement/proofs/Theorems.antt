-- 02, item 5, sentence by sentence, each above its theorem; and that the rows which the passes leave are those of the made table.
use Prim.Native.Nat.{ℕ, zero, suc, ◌+◌, ◌≤◌, ◌<◌}
use native.Mathlib.Omega.{arith}
use native.Mathlib.Nat.{add-zero}
use mathlib.Core.Path.{◌≡◌, refl, sym, ap, ◌∙◌, subst}
use mathlib.Core.Bool.{Bool, true, false, not}
use lib.Dec.{eqb}
use lib.ListN.{get_or}
use borrow.Author.Tests.{eqb-true, eq-eqb, not-true, not-false}
use Rattle.base.specs.Lists.{below, place_of}
use Rattle.base.proofs.Lists.{never_both, same_truth, true_by, not_in, length_below, get_or_below, place_of_le, place_of_at, place_of_before, place_of_first}
use Rattle.pair_graph.specs.Graph.{Graph, AlikeNow, SafePair, Classes}
use Rattle.refinement.specs.Passes.{partition, Separates, separates, passes, rows, classes}
use Rattle.refinement.proofs.Partitions.{Targets, separates_out, separates_in, pass_alike, pass_keeps, partition_finer, alike_more, pass_same}
use Rattle.refinement.proofs.Counts.{more_classes, classes_most, rows_most, some_class}

module _ (graph : Graph) (safe : ℕ → Bool) where
  -- ---- a pass that separates nothing

  -- It gives the partition that it was made of.
  still : (m : ℕ) → separates graph safe m ≡ false → (i j : ℕ) → SafePair graph safe i → SafePair graph safe j
      → partition graph safe (suc m) i j ≡ partition graph safe m i j
  still m e i j si sj =
      same_truth (partition graph safe (suc m) i j) (partition graph safe m i j) (partition_finer graph safe m i j)
      (λ t. true_by (partition graph safe (suc m) i j) (λ f. never_both (separates_in graph safe m (parted t f)) e))
    where
      parted : partition graph safe m i j ≡ true → partition graph safe (suc m) i j ≡ false → Separates graph safe m
      parted t f = record { first = i; second = j; first_safe = si; second_safe = sj; together = t; apart = f }

  module _ (targets : Targets graph) where
    -- 'none after it would': after a pass that separates nothing, any number of further passes gives the same partition.
    pub nothing_after : (m : ℕ) → separates graph safe m ≡ false → (d i j : ℕ) → SafePair graph safe i → SafePair graph safe j
        → partition graph safe (m + d) i j ≡ partition graph safe m i j
    unfolding partition
    nothing_after m e zero i j si sj = ap (λ k. partition graph safe k i j) (add-zero m)
    nothing_after m e (suc d) i j si sj =
        let next : m + suc d ≡ suc (m + d) = omega arith in
        ap (λ k. partition graph safe k i j) next
        ∙ pass_same graph safe targets (partition graph safe (m + d)) (partition graph safe m) (nothing_after m e d) i j si sj
        ∙ still m e i j si sj

  -- ---- how many passes there are

  -- Behind m passes of which each separates rows there are more than m classes.
  classes_grow : (m i : ℕ) → SafePair graph safe i → ((k : ℕ) → k < m → separates graph safe k ≡ true)
      → m < classes graph safe (partition graph safe m)
  classes_grow zero i s h = some_class graph safe i s (partition graph safe 0)
  classes_grow (suc m) i s h =
      let ih = classes_grow m i s (λ k l. h k (omega arith)) in
      let more = more_classes graph safe m (separates_out graph safe m (h m (omega arith))) in
      omega arith

  -- If each of the first m passes separates rows, m is less than the number of rows,
  pub rows_room : (m i : ℕ) → SafePair graph safe i → ((k : ℕ) → k < m → separates graph safe k ≡ true) → m < rows graph safe
  rows_room m i s h = omega (arith, classes_grow m i s h, classes_most graph safe (partition graph safe m))

  -- and so less than the number of pairs.
  pub passes_room : (m i : ℕ) → SafePair graph safe i → ((k : ℕ) → k < m → separates graph safe k ≡ true) → m < graph.pairs
  passes_room m i s h = omega (arith, rows_room m i s h, rows_most graph safe)

  -- the test that the passes end at
  abbrev ends : ℕ → Bool
  ends k = not (separates graph safe k)

  -- 'the loop leaves after the first pass that separates nothing': if each of the first m passes separates rows and the next one does not,
  -- m + 1 are made.
  pub passes_are : (m i : ℕ) → SafePair graph safe i → ((k : ℕ) → k < m → separates graph safe k ≡ true) → separates graph safe m ≡ false
      → passes graph safe ≡ suc m
  unfolding passes
  passes_are m i s h e =
      ap suc
      (place_of_first ends (below graph.pairs) m 0 (omega (arith, room, length_below graph.pairs))
      (ap ends (get_or_below graph.pairs m 0 room) ∙ not_in e)
      (λ k l. ap ends (get_or_below graph.pairs k 0 (omega (arith, room))) ∙ ap not (h k l)))
    where
      room : m < graph.pairs
      room = passes_room m i s h

  -- how many passes come before the last
  abbrev last : ℕ
  last = place_of ends (below graph.pairs)

  -- Each of them separates rows.
  earlier : (k : ℕ) → k < last → separates graph safe k ≡ true
  earlier k l =
      not-false (separates graph safe k)
      (ap ends (sym (get_or_below graph.pairs k 0 (omega (arith, place_of_le ends (below graph.pairs), length_below graph.pairs))))
      ∙ place_of_before ends (below graph.pairs) k 0 l)

  -- 'each pass before it separates some rows' (and so gives more classes, `more_classes` in Counts),
  pub passes_before : (k : ℕ) → suc k < passes graph safe → Separates graph safe k
  unfolding passes
  passes_before k l = separates_out graph safe k (earlier k (omega arith))

  -- and the last does not.
  pub passes_last : (i : ℕ) → SafePair graph safe i → (m : ℕ) → passes graph safe ≡ suc m → separates graph safe m ≡ false
  unfolding passes
  passes_last i s m e =
      not-true (separates graph safe m)
      (ap ends (sym (get_or_below graph.pairs m 0 room) ∙ ap (λ p. get_or (below graph.pairs) p 0) (sym is))
      ∙ place_of_at ends (below graph.pairs) 0 (omega (arith, room, length_below graph.pairs)))
    where
      is : last ≡ m
      is = omega arith

      room : m < graph.pairs
      room = subst (λ p. p < graph.pairs) is (passes_room last i s earlier)

  -- Never more passes are made than there are rows.
  pub passes_most : (i : ℕ) → SafePair graph safe i → passes graph safe ≤ rows graph safe
  unfolding passes
  passes_most i s = omega (arith, rows_room last i s earlier)

  module _ (targets : Targets graph) where
    -- 'none after it would': whatever further passes are made after the last leave the partition as it is.
    pub none_after_last : (i : ℕ) → SafePair graph safe i → (d k l : ℕ) → SafePair graph safe k → SafePair graph safe l
        → partition graph safe (passes graph safe + d) k l ≡ partition graph safe (passes graph safe) k l
    unfolding passes
    none_after_last i s d k l sk sl =
        let e : separates graph safe last ≡ false = passes_last i s last refl in
        let later : suc last + d ≡ last + suc d = omega arith in
        ap (λ n. partition graph safe n k l) later
        ∙ nothing_after targets last e (suc d) k l sk sl
        ∙ sym (still last e k l sk sl)

    -- ---- the right classes

    -- Rows that are never told apart are in one class of every partition.
    together : (same : ℕ → ℕ → Bool)
        → ((i j : ℕ) → SafePair graph safe i → SafePair graph safe j → same i j ≡ true → AlikeNow graph safe same i j)
        → (k i j : ℕ) → SafePair graph safe i → SafePair graph safe j → same i j ≡ true → partition graph safe k i j ≡ true
    unfolding partition
    together same now zero i j si sj e = refl
    together same now (suc k) i j si sj e =
        pass_keeps graph safe (partition graph safe k) i j (together same now k i j si sj e)
        (alike_more graph safe targets same (partition graph safe k) (together same now k) i j si sj (now i j si sj e))

    -- Classes that say what a pass which separates nothing leaves are the right ones.
    pub right_classes : (class : ℕ → ℕ) (m : ℕ) → separates graph safe m ≡ false
        → ((i j : ℕ) → SafePair graph safe i → SafePair graph safe j → eqb (class i) (class j) ≡ partition graph safe (suc m) i j)
        → Classes graph safe class
    unfolding partition
    right_classes class m e says =
        record {
          stable =
              λ i j si sj same.
              alike_more graph safe targets (partition graph safe m) (λ k l. eqb (class k) (class l))
              (λ k l sk sl t. says k l sk sl ∙ still m e k l sk sl ∙ t) i j si sj
              (pass_alike graph safe (partition graph safe m) i j (sym (says i j si sj) ∙ eq-eqb (class i) (class j) same));
          coarsest =
              λ same now i j si sj t.
              eqb-true (class i) (class j) (says i j si sj ∙ together same now (suc m) i j si sj t);
        }
