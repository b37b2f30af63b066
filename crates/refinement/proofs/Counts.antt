-- Counting rows and classes: a pass that separates rows gives more classes, and there are no more classes than rows.
use Prim.Native.Nat.{ℕ, suc, ◌≤◌, ◌<◌}
use native.Mathlib.Omega.{arith}
use native.Mathlib.Decide.{dec_lt}
use mathlib.Core.Path.{◌≡◌, refl, ap, ◌∙◌, subst}
use mathlib.Core.Bool.{Bool, true, false, ◌&&◌, not}
use lib.ListN.{get_or}
use borrow.Author.Tests.{not-true}
use Rattle.base.specs.Lists.{every, below, place_of}
use Rattle.base.proofs.Lists.{whether, never_both, false_by, not_in, and_left, and_right, and_both, every_below, below_every, length_below, get_or_below, below_mem, place_of_found, place_of_at, place_of_before, IsSame}
use Rattle.pair_graph.specs.Graph.{Graph, SafePair}
use Rattle.pair_graph.specs.Counting.{count}
use Rattle.pair_graph.proofs.Counting.{count_there, count_most, count_le, count_more}
use Rattle.refinement.specs.Passes.{partition, Separates, rows, first_of_class, classes}
use Rattle.refinement.proofs.Partitions.{partition_same, partition_finer}

-- ---- numbers that pass a test

-- The lowest number up to x that passes a test.
record Lowest (test : ℕ → Bool) (x : ℕ) : Type 0 where
  number : ℕ
  most : number ≤ x
  passes : test number ≡ true
  before : (j : ℕ) → j < number → test j ≡ false

-- There is one where x passes it.
lowest : (test : ℕ → Bool) (x : ℕ) → test x ≡ true → Lowest test x
lowest test x e = by (place_of test (below (suc x))) refl
  where
    found : place_of test (below (suc x)) < suc x
    found = subst (λ n. place_of test (below (suc x)) < n) (length_below (suc x)) (place_of_found test (below_mem (suc x) x (omega arith)) e)

    by : (p : ℕ) → place_of test (below (suc x)) ≡ p → Lowest test x
    by p is =
        record {
          number = p;
          most = omega (arith, found);
          passes =
              subst (λ n. test n ≡ true) (ap (λ n. get_or (below (suc x)) n 0) is ∙ get_or_below (suc x) p 0 (omega (arith, found)))
              (place_of_at test (below (suc x)) 0 (omega (arith, found, length_below (suc x))));
          before =
              λ j l.
              subst (λ n. test n ≡ false) (get_or_below (suc x) j 0 (omega (arith, found)))
              (place_of_before test (below (suc x)) j 0 (omega arith));
        }

module _ (graph : Graph) (safe : ℕ → Bool) where
  -- ---- the first of a class

  -- no row before i is of its class
  abbrev alone : (ℕ → ℕ → Bool) → ℕ → Bool
  alone same i = every (λ j. not (safe j && same j i)) (below i)

  -- A first of its class is a row,
  first_safe : (same : ℕ → ℕ → Bool) (i : ℕ) → first_of_class graph safe same i ≡ true → safe i ≡ true
  unfolding first_of_class
  first_safe same i e = and_left (safe i) (alone same i) e

  -- no row before it is of its class,
  first_out : (same : ℕ → ℕ → Bool) (i j : ℕ) → first_of_class graph safe same i ≡ true → j < i → safe j ≡ true → same j i ≡ true → ⊥
  unfolding first_of_class
  first_out same i j e l s t =
      never_both (and_both s t)
      (not-true (safe j && same j i) (every_below (λ j. not (safe j && same j i)) i j (and_right (safe i) (alone same i) e) l))

  -- and that is all.
  first_in : (same : ℕ → ℕ → Bool) (i : ℕ) → safe i ≡ true → ((j : ℕ) → j < i → safe j ≡ true → same j i ≡ true → ⊥)
      → first_of_class graph safe same i ≡ true
  unfolding first_of_class
  first_in same i s h =
      and_both s
      (below_every (λ j. not (safe j && same j i)) i
      (λ j l. not_in (false_by (safe j && same j i) (λ e. h j l (and_left (safe j) (same j i) e) (and_right (safe j) (same j i) e)))))

  -- A row that is the first of the class of x.
  record FirstOf (same : ℕ → ℕ → Bool) (x : ℕ) : Type 0 where
    row : ℕ
    there : row < graph.pairs
    with_it : same row x ≡ true
    first : first_of_class graph safe same row ≡ true

  -- Every class of rows has a first.
  first_row : (same : ℕ → ℕ → Bool) → IsSame same → (x : ℕ) → SafePair graph safe x → FirstOf same x
  first_row same is x s = by (lowest (λ j. safe j && same j x) x (and_both s.is_safe (is.itself x)))
    where
      by : Lowest (λ j. safe j && same j x) x → FirstOf same x
      by low =
          let m = low.number in
          let joined = and_right (safe m) (same m x) low.passes in
          record {
            row = m;
            there = omega (arith, s.there, low.most);
            with_it = joined;
            first =
                first_in same m (and_left (safe m) (same m x) low.passes)
                (λ j l safe_j e. never_both (and_both safe_j (is.chained j m x e joined)) (low.before j l));
          }

  -- ---- more classes

  module _ (k : ℕ) where
    -- the partition before the pass behind the first k
    abbrev old : ℕ → ℕ → Bool
    old = partition graph safe k

    -- and after it
    abbrev new : ℕ → ℕ → Bool
    new = partition graph safe (suc k)

    -- A first of its class stays one.
    first_stays : (i : ℕ) → first_of_class graph safe old i ≡ true → first_of_class graph safe new i ≡ true
    first_stays i e =
        first_in new i (first_safe old i e) (λ j l s t. first_out old i j e l s (partition_finer graph safe k j i t))

    -- A row that is parted from the first of its class gets a first that was none.
    first_comes : (m x : ℕ) → first_of_class graph safe old m ≡ true → SafePair graph safe x → old m x ≡ true → new m x ≡ false
        → classes graph safe old < classes graph safe new
    unfolding classes
    first_comes m x first s was is_not = by (first_row new (partition_same graph safe (suc k)) x s)
      where
        by : FirstOf new x → count (first_of_class graph safe old) graph.pairs < count (first_of_class graph safe new) graph.pairs
        by f =
            count_more (first_of_class graph safe old) (first_of_class graph safe new) graph.pairs f.row (λ i l. first_stays i) f.there
            (false_by (first_of_class graph safe old f.row) no_first) f.first
          where
            is : IsSame old
            is = partition_same graph safe k

            joined : old f.row m ≡ true
            joined = is.chained f.row x m (partition_finer graph safe k f.row x f.with_it) (is.turned m x was)

            apart : (f.row ≡ m → ⊥)
            apart e = never_both (subst (λ r. new r x ≡ true) e f.with_it) is_not

            no_first : first_of_class graph safe old f.row ≡ true → ⊥
            no_first e = go (dec_lt m f.row)
              where
                go : Dec (m < f.row) → ⊥
                go (yes l) = first_out old f.row m e l (first_safe old m first) (is.turned f.row m joined)
                go (no l) =
                    first_out old m f.row first (omega (arith, apart)) (first_safe old f.row e) joined

    -- A pass that separates rows gives more classes: the first row of the class before is parted from one of the two.
    pub more_classes : Separates graph safe k → classes graph safe old < classes graph safe new
    more_classes s = by (first_row old is s.first s.first_safe)
      where
        is : IsSame old
        is = partition_same graph safe k

        by : FirstOf old s.first → classes graph safe old < classes graph safe new
        by f =
            whether (new f.row s.first)
            (λ e.
            first_comes f.row s.second f.first s.second_safe (is.chained f.row s.first s.second f.with_it s.together)
            (false_by (new f.row s.second) (λ g. never_both (onward e g) s.apart)))
            (λ e. first_comes f.row s.first f.first s.first_safe f.with_it e)
          where
            new_is : IsSame new
            new_is = partition_same graph safe (suc k)

            onward : new f.row s.first ≡ true → new f.row s.second ≡ true → new s.first s.second ≡ true
            onward e g = new_is.chained s.first f.row s.second (new_is.turned f.row s.first e) g

  -- ---- how many

  -- There are no more classes than rows,
  pub classes_most : (same : ℕ → ℕ → Bool) → classes graph safe same ≤ rows graph safe
  unfolding classes rows
  classes_most same = count_le (first_of_class graph safe same) safe graph.pairs (λ i l. first_safe same i)

  -- no more rows than pairs,
  pub rows_most : rows graph safe ≤ graph.pairs
  unfolding rows
  rows_most = count_most safe graph.pairs

  -- and a class where there is a row.
  pub some_class : (i : ℕ) → SafePair graph safe i → (same : ℕ → ℕ → Bool) → 0 < classes graph safe same
  unfolding classes
  some_class i s same = by (lowest safe i s.is_safe)
    where
      by : Lowest safe i → 0 < count (first_of_class graph safe same) graph.pairs
      by low =
          count_there (first_of_class graph safe same) graph.pairs low.number (omega (arith, s.there, low.most))
          (first_in same low.number low.passes (λ j l safe_j e. never_both safe_j (low.before j l)))
