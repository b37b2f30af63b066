-- Laws of the list of rows: what it holds after a pair is met, and that it is what a search meets.
use Prim.Native.Nat.{ℕ, zero, suc, ◌+◌, ◌*◌, ◌≤◌, ◌<◌}
use native.Mathlib.Omega.{arith}
use native.Mathlib.Decide.{dec_lt}
use mathlib.Core.Path.{◌≡◌, refl, sym, ◌∙◌, ap, ap₂}
use mathlib.Core.Bool.{Bool, true, false}
use Rattle.std.specs.Prelude.{Option, None, Some}
use mathlib.Core.List.{List, [], ◌∷◌, ◌++◌, Memᴰ, append-nil}
use lib.ListN.{length, get_or, drop, length-append, get_or-append}
use lib.Seq.{append_snoc, drop-cons, drop-append-le, drop-length, get_or_at}
use lib.Dec.{eqb}
use borrow.Author.Tests.{eqb-true, eq-eqb, ne_eqb, le-ltb}
use Rattle.base.specs.Choice.{pick}
use Rattle.base.specs.Lists.{below, present, some_of, place_of}
use Rattle.base.specs.Bytes.{number_at}
use Rattle.base.specs.Search.{Apart, new_ones, search_on, search_from, once}
use Rattle.base.proofs.Lists.{IsSame, never_both, false_by, true_by, or_fails_left, or_fails_right, or_neither, some_append, mem_get_or, below_mem, length_below, place_of_append_left, place_of_append_right}
use Rattle.base.proofs.Search.{apart_few, total_once}
use Rattle.pair_graph.specs.Steps.{class_in}
use Rattle.maker_order.specs.Orders.{classes_part, same_in, order_at, order_of, of_class, mark_in, grown, RowsNumbered}
use Rattle.base.proofs.Bytes.{number_at_take}

-- ---- pairs of one class

-- To be of one class is an equivalence.
pub same_is : (part : List ℕ) → IsSame (same_in part)
unfolding same_in
same_is part =
    record {
      itself = λ i. eq-eqb (class_in part i) (class_in part i) refl;
      turned = λ i j e. eq-eqb (class_in part j) (class_in part i) (sym (eqb-true (class_in part i) (class_in part j) e));
      chained = λ i j k e f.
          eq-eqb (class_in part i) (class_in part k)
          (eqb-true (class_in part i) (class_in part j) e ∙ eqb-true (class_in part j) (class_in part k) f);
    }

-- The class of a pair is read from the area.
pub class_read : (area : List ℕ) (j : ℕ) → j < 1000 → class_in (classes_part area) j ≡ number_at 2 area (2 * j)
class_read area j h = number_at_take 2 order_at area (2 * j) (omega arith)

-- One more that is of no class seen keeps them apart.
pub apart_snoc : (part xs : List ℕ) (y : ℕ) → Apart (same_in part) xs → some_of (same_in part y) xs ≡ false
    → Apart (same_in part) (xs ++ (y ∷ []))
unfolding Apart some_of
apart_snoc part [] y a e = (refl, tt)
apart_snoc part (x ∷ xs) y a e = (
  some_append (same_in part x) xs (y ∷ []) ∙ or_neither a.0 (or_neither (false_by (same_in part x y) turn) refl),
  apart_snoc part xs y a.1 (or_fails_right (same_in part y x) (some_of (same_in part y) xs) e),
)
  where
    turn : same_in part x y ≡ true → ⊥
    turn p = never_both ((same_is part).turned x y p) (or_fails_left (same_in part y x) (some_of (same_in part y) xs) e)

-- Pairs below n that are apart are at most n.
pub apart_below : (part xs : List ℕ) (n : ℕ) → Apart (same_in part) xs → ((y : ℕ) → Memᴰ y xs → y < n) → length xs ≤ n
apart_below part xs n a h =
    let few = apart_few (same_is part) xs (below n) a (λ y m. (y, below_mem n y (h y m), (same_is part).itself y)) in
    omega (arith, length_below n)

-- ---- the list of rows

-- The list has as many pairs as rows.
pub length_order : (area : List ℕ) (rows : ℕ) → length (order_of area rows) ≡ rows
unfolding order_of
length_order area zero = refl
length_order area (suc k) =
    let e = length-append (order_of area k) (number_at 2 area (order_at + 2 * k) ∷ []) in
    omega (arith, length_order area k)

-- The pair of row r is read from the area.
pub order_read : (area : List ℕ) (rows r : ℕ) → r < rows → get_or (order_of area rows) r 0 ≡ number_at 2 area (order_at + 2 * r)
unfolding order_of
order_read area zero r h = absurd (omega arith)
order_read area (suc k) r h = go (dec_lt r k) (λ l. order_read area k r l)
  where
    last : ℕ
    last = number_at 2 area (order_at + 2 * k)

    go : Dec (r < k) → (r < k → get_or (order_of area k) r 0 ≡ number_at 2 area (order_at + 2 * r))
        → get_or (order_of area k ++ (last ∷ [])) r 0 ≡ number_at 2 area (order_at + 2 * r)
    go (yes l) ih = get_or-append (order_of area k) (last ∷ []) 0 r (omega (arith, length_order area k)) ∙ ih l
    go (no l) ih =
        let e : k ≡ r = omega arith in
        get_or_at (order_of area k) last [] 0 r (length_order area k ∙ e) ∙ ap (λ m. number_at 2 area (order_at + 2 * m)) e

-- Areas that agree on the rows hold the same list.
pub order_same : (area after : List ℕ) (rows : ℕ)
    → ((k : ℕ) → k < rows → number_at 2 after (order_at + 2 * k) ≡ number_at 2 area (order_at + 2 * k)) → order_of after rows ≡ order_of area rows
unfolding order_of
order_same area after zero h = refl
order_same area after (suc k) h =
    ap₂ (λ (l : List ℕ) (m : ℕ). l ++ (m ∷ [])) (order_same area after k (λ m l. h m (omega arith))) (h k (omega arith))

-- The pair of a row is one of the pairs.
pub row_below : (n : ℕ) (area : List ℕ) (rows r : ℕ) → RowsNumbered n area rows → r < rows → number_at 2 area (order_at + 2 * r) < n
row_below n area rows r h l =
    let b = h.pairs_below (get_or (order_of area rows) r 0) (mem_get_or (order_of area rows) r 0 (omega (arith, length_order area rows))) in
    omega (arith, order_read area rows r l)

-- ---- the row of a class

-- A class with a row.
pub mark_some : (part seen : List ℕ) (c : ℕ) → some_of (of_class part c) seen ≡ true → mark_in part seen c ≡ suc (place_of (of_class part c) seen)
unfolding mark_in
mark_some part seen c e = rw e

-- A class with none.
pub mark_none : (part seen : List ℕ) (c : ℕ) → some_of (of_class part c) seen ≡ false → mark_in part seen c ≡ 0
unfolding mark_in
mark_none part seen c e = rw e

-- A class's mark is 0: no pair seen is of it.
pub none_marked : (part seen : List ℕ) (c : ℕ) → mark_in part seen c ≡ 0 → some_of (of_class part c) seen ≡ false
none_marked part seen c e = false_by (some_of (of_class part c) seen) (λ p. omega (arith, mark_some part seen c p))

-- A class's mark is not 0: a pair seen is of it.
pub some_marked : (part seen : List ℕ) (c : ℕ) → (mark_in part seen c ≡ 0 → ⊥) → some_of (of_class part c) seen ≡ true
some_marked part seen c e = true_by (some_of (of_class part c) seen) (λ p. e (mark_none part seen c p))

-- The pairs of pair j's class.
pub of_same : (part : List ℕ) (c j : ℕ) → class_in part j ≡ c → of_class part c ≡ same_in part j
unfolding of_class same_in
of_same part c j e = ap (λ (d : ℕ). λ (i : ℕ). eqb d (class_in part i)) (sym e)

-- The class of a new pair gets the next row.
pub mark_new : (part seen : List ℕ) (c j : ℕ) → class_in part j ≡ c → some_of (of_class part c) seen ≡ false
    → mark_in part (seen ++ (j ∷ [])) c ≡ suc (length seen)
unfolding of_class some_of place_of
mark_new part seen c j e none_seen =
    let itself : eqb c (class_in part j) ≡ true = eq-eqb c (class_in part j) (sym e) in
    let found : some_of (of_class part c) (seen ++ (j ∷ [])) ≡ true =
    some_append (of_class part c) seen (j ∷ []) ∙ rw (none_seen, itself) in
    let place : place_of (of_class part c) (j ∷ []) ≡ 0 = rw itself in
    mark_some part (seen ++ (j ∷ [])) c found
    ∙ ap suc (place_of_append_right (of_class part c) seen (j ∷ []) none_seen ∙ omega arith)

-- Any other class keeps its row.
pub mark_other : (part seen : List ℕ) (c j : ℕ) → (class_in part j ≡ c → ⊥) → mark_in part (seen ++ (j ∷ [])) c ≡ mark_in part seen c
unfolding of_class some_of
mark_other part seen c j e = go (some_of (of_class part c) seen) refl
  where
    apart : eqb c (class_in part j) ≡ false
    apart = ne_eqb c (class_in part j) (λ p. e (sym p))

    go : (b : Bool) → some_of (of_class part c) seen ≡ b → mark_in part (seen ++ (j ∷ [])) c ≡ mark_in part seen c
    go true p =
        let found : some_of (of_class part c) (seen ++ (j ∷ [])) ≡ true = some_append (of_class part c) seen (j ∷ []) ∙ rw p in
        mark_some part (seen ++ (j ∷ [])) c found ∙ ap suc (place_of_append_left (of_class part c) seen (j ∷ []) p)
        ∙ sym (mark_some part seen c p)
    go false p =
        let none_found : some_of (of_class part c) (seen ++ (j ∷ [])) ≡ false =
        some_append (of_class part c) seen (j ∷ []) ∙ rw (p, apart) in
        mark_none part (seen ++ (j ∷ [])) c none_found ∙ sym (mark_none part seen c p)

-- ---- what is new

-- Nothing more.
pub grown_none : (part seen : List ℕ) → grown part seen [] ≡ seen
unfolding grown new_ones
grown_none part seen = append-nil seen

-- A pair of a class seen is not new.
pub grown_known : (part seen : List ℕ) (j : ℕ) → some_of (same_in part j) seen ≡ true → grown part seen (j ∷ []) ≡ seen
unfolding grown new_ones
grown_known part seen j e = rw e (append-nil seen)

-- A pair of another class is.
pub grown_new : (part seen : List ℕ) (j : ℕ) → some_of (same_in part j) seen ≡ false → grown part seen (j ∷ []) ≡ seen ++ (j ∷ [])
unfolding grown new_ones
grown_new part seen j e = rw e

-- One after the other.
grown_cons : (part seen : List ℕ) (j : ℕ) (js : List ℕ) → grown part seen (j ∷ js) ≡ grown part (grown part seen (j ∷ [])) js
unfolding grown new_ones
grown_cons part seen j js = go (some_of (same_in part j) seen) refl
  where
    go : (b : Bool) → some_of (same_in part j) seen ≡ b
        → seen ++ pick b (λ _. new_ones (same_in part) seen js) (λ _. j ∷ new_ones (same_in part) (seen ++ (j ∷ [])) js)
        ≡ grown part (grown part seen (j ∷ [])) js
    go true e = rw (grown_known part seen j e)
    go false e = rw (grown_new part seen j e) (sym (append_snoc seen j (new_ones (same_in part) (seen ++ (j ∷ [])) js)))

-- None of those seen is lost.
pub grown_longer : (part seen others : List ℕ) → length seen ≤ length (grown part seen others)
unfolding grown
grown_longer part seen others = omega (arith, length-append seen (new_ones (same_in part) seen others))

-- What is there first, and then the others.
pub grown_present : (part seen : List ℕ) (o : Option ℕ) (js : List ℕ)
    → grown part seen (present (o ∷ []) ++ js) ≡ grown part (grown part seen (present (o ∷ []))) js
unfolding present
grown_present part seen None js = rw (grown_none part seen)
grown_present part seen (Some j) js = grown_cons part seen j js

-- ---- the search

module _ (part : List ℕ) (follow : ℕ → List ℕ) (n : ℕ) where
  -- A turn of the search: the next of those seen is looked at.
  pub search_turn : (seen : List ℕ) (r k : ℕ) → r < length seen → length seen ≤ n
      → search_on (same_in part) follow once n (suc k) seen (drop r seen)
      ≡ search_on (same_in part) follow once n k (grown part seen (follow (get_or seen r 0))) (drop (suc r) (grown part seen (follow (get_or seen r 0))))
  unfolding search_on grown
  search_turn seen r k l few =
      let more = new_ones (same_in part) seen (follow (get_or seen r 0)) in
      rw (drop-cons seen r 0 l, total_once seen, le-ltb n (length seen) few, drop-append-le (suc r) seen more l)

  -- None is left to look at.
  pub search_done : (seen : List ℕ) (k : ℕ) → search_on (same_in part) follow once n (suc k) seen (drop (length seen) seen) ≡ seen
  unfolding search_on
  search_done seen k = rw (drop-length seen)

  -- At first pair 0 is seen, and not looked at.
  pub search_start : search_on (same_in part) follow once n (suc n) (0 ∷ []) (0 ∷ []) ≡ search_from (same_in part) follow once n 0
  unfolding search_from
  search_start = refl
