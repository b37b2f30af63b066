-- The ways through the code: what it knows at a need, and what follows.
use Prim.Native.Nat.{ℕ, suc, ◌+◌, ◌-◌, ◌*◌, ◌≤◌, ◌<◌}
use native.Mathlib.Omega.{arith}
use native.Mathlib.Decide.{dec_lt, ℕ_discrete}
use native.Mathlib.Numerals.{add-one}
use mathlib.Core.Path.{◌≡◌, refl, sym, ◌∙◌, ap, subst}
use mathlib.Core.Logic.{◌⊎◌, inl, inr, ⊎_elim}
use mathlib.Core.Bool.{Bool, true, false}
use mathlib.Core.List.Memᴰ
use mathlib.Core.List.{List, [], ◌∷◌, ◌++◌, Memᴰ}
use lib.ListN.{length, get_or, take, drop, replicate, length-append, length-drop, length-replicate}
use lib.Seq.{take-take, take-append-le, length-take-le}
use mir.Syntax.{w64}
use mir.Val.{Fits}
use Rattle.base.specs.Lists.{present, some_of}
use Rattle.base.specs.Bytes.{number_at}
use Rattle.base.specs.Search.{Apart, search_on, search_from, once}
use Rattle.pair_graph.specs.Steps.{class_in, led_to, FlaggedGraph}
use Rattle.std.specs.Prelude.{Option, Some, None}
use Rattle.pair_graph.proofs.Moves.{led_some, led_none, allowed_below}
use Rattle.maker_order.specs.Orders.{followers, order_at, marks_at, classes_part, same_in, order_of, of_class, mark_in, grown, RowsNumbered, Grows, Classed, Cleared, InOrder}
use Rattle.area_bytes.proofs.Clearing.{part_byte}
use Rattle.area_bytes.proofs.Numbers.{stored, stored_read, stored_beside, take_stored, length_stored}
use Rattle.maker_order.proofs.Rest.{rest, rest_all, rest_next, rest_none}
use Rattle.maker_order.proofs.Orders.{class_read, apart_snoc, apart_below, length_order, order_read, order_same, row_below, none_marked, some_marked, of_same, mark_new, mark_other, grown_none, grown_known, grown_new, grown_present, grown_longer, search_turn, search_done, search_start}

-- ---- meeting a pair

-- Meeting none.
pub meets_none : (n : ℕ) (area : List ℕ) (rows : ℕ) → RowsNumbered n area rows → Grows n area rows [] area rows
meets_none n area rows h =
    record { same_length = refl; same_classes = refl; numbered = h; order = sym (grown_none (classes_part area) (order_of area rows)) }

module _ (n : ℕ) (area : List ℕ) (rows j : ℕ) (h : RowsNumbered n area rows) (l : j < n) where
  abbrev part : List ℕ
  part = classes_part area

  abbrev seen : List ℕ
  seen = order_of area rows

  module _ (c : ℕ) (is_c : c ≡ number_at 2 area (2 * j)) where
    -- The class of j is read.
    class_is : class_in part j ≡ c
    class_is = class_read area j (omega arith) ∙ sym is_c

    -- It is below 1,000,
    pub class_small : c < 1000
    class_small = omega (arith, class_is, h.classes j l)

    -- so the place of its mark fits,
    pub mark_fits : Fits w64 (2000 + 2 * n + 2 * c)
    mark_fits = omega (arith, class_small)

    pub class_fits : Fits w64 (2 * c)
    class_fits = omega (arith, class_small)

    -- and the mark is there.
    pub mark_there : 2000 + 2 * n + 2 * c + 1 < length area
    mark_there = omega (arith, class_small)

    module _ (m : ℕ) (is_m : m ≡ number_at 2 area (2000 + 2 * n + 2 * c)) where
      mark_is : mark_in part seen c ≡ m
      mark_is = sym (h.marks c class_small) ∙ sym is_m

      -- The class has a row.
      pub meets_known : (m ≡ 0 → ⊥) → Grows n area rows (j ∷ []) area rows
      meets_known f =
          let known = some_marked part seen c (λ e. f (sym mark_is ∙ e)) in
          let e = grown_known part seen j (subst (λ (test : ℕ → Bool). some_of test seen ≡ true) (of_same part c j class_is) known) in
          record { same_length = refl; same_classes = refl; numbered = h; order = sym e }

      module _ (new : m ≡ 0) where
        none_of_class : some_of (of_class part c) seen ≡ false
        none_of_class = none_marked part seen c (mark_is ∙ new)

        none_same : some_of (same_in part j) seen ≡ false
        none_same = subst (λ (test : ℕ → Bool). some_of test seen ≡ false) (of_same part c j class_is) none_of_class

        both_apart : Apart (same_in part) (seen ++ (j ∷ []))
        both_apart = apart_snoc part seen j h.apart none_same

        both_below : (y : ℕ) → Memᴰ y (seen ++ (j ∷ [])) → y < n
        both_below y m =
            ⊎_elim (h.pairs_below y) (λ k. let e = Memᴰ.eq_of_singleton k in omega arith) (Memᴰ.append_cases seen m)

        -- There is another row to come.
        pub row_left : rows < n
        row_left =
            let few = apart_below part (seen ++ (j ∷ [])) n both_apart both_below in
            omega (arith, length-append seen (j ∷ []), length_order area rows)

        module _ (y : List ℕ) (is_y : y ≡ stored area (2000 + 2 * rows) j) where
          module _ (z : List ℕ) (is_z : z ≡ stored y (2000 + 2 * n + 2 * c) (rows + 1)) where
            abbrev mark : ℕ
            mark = 2000 + 2 * n + 2 * c

            same_part : classes_part z ≡ part
            same_part =
                ap (take order_at) is_z ∙ take_stored order_at y mark (rows + 1) (omega arith)
                ∙ ap (take order_at) is_y ∙ take_stored order_at area (2000 + 2 * rows) j (omega arith)

            long : length z ≡ length area
            long =
                ap length is_z ∙ length_stored y mark (rows + 1) ∙ ap length is_y ∙ length_stored area (2000 + 2 * rows) j

            -- what was seen is as it was
            old_rows : order_of z rows ≡ seen
            old_rows = order_same area z rows (λ k b. old k b)
              where
                old : (k : ℕ) → k < rows → number_at 2 z (order_at + 2 * k) ≡ number_at 2 area (order_at + 2 * k)
                old k b =
                    ap (λ (l : List ℕ). number_at 2 l (order_at + 2 * k)) is_z
                    ∙ stored_beside y mark (rows + 1) (order_at + 2 * k) (inl (omega (arith, row_left)))
                    ∙ ap (λ (l : List ℕ). number_at 2 l (order_at + 2 * k)) is_y
                    ∙ stored_beside area (2000 + 2 * rows) j (order_at + 2 * k) (inl (omega arith))

            -- and j is the next
            new_row : number_at 2 z (order_at + 2 * rows) ≡ j
            new_row =
                ap (λ (l : List ℕ). number_at 2 l (order_at + 2 * rows)) is_z
                ∙ stored_beside y mark (rows + 1) (order_at + 2 * rows) (inl (omega (arith, row_left)))
                ∙ ap (λ (l : List ℕ). number_at 2 l (order_at + 2 * rows)) is_y
                ∙ stored_read area (2000 + 2 * rows) j (omega (arith, row_left)) (omega arith)

            all_rows : order_of z (rows + 1) ≡ seen ++ (j ∷ [])
            unfolding order_of
            all_rows = rw (add-one rows, old_rows, new_row)

            all_marks : (d : ℕ) → d < 1000 → number_at 2 z (marks_at n + 2 * d) ≡ mark_in part (seen ++ (j ∷ [])) d
            all_marks d b = go (ℕ_discrete c d)
              where
                go : Dec (c ≡ d) → number_at 2 z (marks_at n + 2 * d) ≡ mark_in part (seen ++ (j ∷ [])) d
                go (yes e) =
                    let k : mark + 1 < length y = omega (arith, mark_there, ap length is_y, length_stored area (2000 + 2 * rows) j) in
                    let new_mark = stored_read y mark (rows + 1) k (omega (arith, row_left)) in
                    let here : marks_at n + 2 * d ≡ mark = omega arith in
                    let f = mark_new part seen c j class_is none_of_class in
                    rw (here, is_z, ← e) (new_mark ∙ sym (f ∙ omega (arith, length_order area rows)))
                go (no e) =
                    let f = mark_other part seen d j (λ p. e (sym class_is ∙ p)) in
                    ap (λ (l : List ℕ). number_at 2 l (marks_at n + 2 * d)) is_z
                    ∙ stored_beside y mark (rows + 1) (marks_at n + 2 * d) (beside (dec_lt c d))
                    ∙ ap (λ (l : List ℕ). number_at 2 l (marks_at n + 2 * d)) is_y
                    ∙ stored_beside area (2000 + 2 * rows) j (marks_at n + 2 * d) (inr (omega (arith, row_left)))
                    ∙ h.marks d b ∙ sym f
                  where
                    beside : Dec (c < d) → (marks_at n + 2 * d + 1 < mark) ⊎ (mark + 1 < marks_at n + 2 * d)
                    beside (yes k) = inr (omega arith)
                    beside (no k) = inl (omega arith)

            -- It is the next row.
            pub meets_new : Grows n area rows (j ∷ []) z (rows + 1)
            meets_new =
                record {
                  same_length = long;
                  same_classes = same_part;
                  numbered =
                      record {
                        pairs = h.pairs;
                        few = omega (arith, row_left);
                        room = omega (arith, long);
                        classes = λ i k. rw same_part (h.classes i k);
                        pairs_below = rw all_rows both_below;
                        apart = rw (same_part, all_rows) both_apart;
                        marks = rw (same_part, all_rows) all_marks;
                      };
                  order = all_rows ∙ sym (grown_new part seen j none_same);
                }

-- An action that leads nowhere.
pub meets_nothing : (graph flags : List ℕ) (n : ℕ) (area : List ℕ) (rows i a : ℕ) (r : Option ℕ) → RowsNumbered n area rows
    → r ≡ (led_to graph flags i a) → r ≡ None → Grows n area rows (present (led_to graph flags i a ∷ [])) area rows
unfolding present
meets_nothing graph flags n area rows i a r h e f =
    let o = led_none (led_to graph flags i a) r e f in
    rw o (meets_none n area rows h)

-- An action that leads to a pair: it is one of the n,
pub led_pair_below : (graph flags : List ℕ) (n actions i a j : ℕ) (r : Option ℕ) → FlaggedGraph n actions graph flags → i < n → a < actions
    → r ≡ (led_to graph flags i a) → r ≡ Some j → j < n
led_pair_below graph flags n actions i a j r moves l k e f =
    allowed_below graph flags n actions i a j moves l k (led_some (led_to graph flags i a) r j e f)

-- and is met.
pub meets_led : (graph flags : List ℕ) (n : ℕ) (area : List ℕ) (rows i a j : ℕ) (r : Option ℕ) (z : List ℕ) (s : ℕ)
    → r ≡ (led_to graph flags i a) → r ≡ Some j → Grows n area rows (j ∷ []) z s
    → Grows n area rows (present (led_to graph flags i a ∷ [])) z s
unfolding present
meets_led graph flags n area rows i a j r z s e f g =
    let o = led_some (led_to graph flags i a) r j e f in
    rw o g

-- ---- expanding a row

-- From so many rows in the area at first, the actions below a are done.
pub record Expanding (graph flags : List ℕ) (n actions i : ℕ) (first : List ℕ) (rows_first : ℕ) (area : List ℕ) (rows a : ℕ) : Type 0 where
  pub same_length : length area ≡ length first
  pub same_classes : classes_part area ≡ classes_part first
  pub numbered : RowsNumbered n area rows
  pub left : grown (classes_part first) (order_of area rows) (rest (led_to graph flags i) actions a)
      ≡ grown (classes_part first) (order_of first rows_first) (followers graph flags actions i)

-- At first none is done.
pub expand_start : (graph flags : List ℕ) (n actions i : ℕ) (area : List ℕ) (rows : ℕ) → RowsNumbered n area rows
    → Expanding graph flags n actions i area rows area rows 0
unfolding followers
expand_start graph flags n actions i area rows h =
    record { same_length = refl; same_classes = refl; numbered = h; left = rw (rest_all (led_to graph flags i) actions) }

-- One more is done.
pub expand_more : (graph flags : List ℕ) (n actions i : ℕ) (first : List ℕ) (rows_first : ℕ) (area : List ℕ) (rows a : ℕ) (z : List ℕ) (s : ℕ)
    → Expanding graph flags n actions i first rows_first area rows a → a < actions
    → Grows n area rows (present (led_to graph flags i a ∷ [])) z s → Expanding graph flags n actions i first rows_first z s (a + 1)
expand_more graph flags n actions i first rows_first area rows a z s h l g =
    let f = led_to graph flags i in
    let part = classes_part first in
    let step : order_of z s ≡ grown part (order_of area rows) (present (f a ∷ [])) =
    g.order ∙ ap (λ (p : List ℕ). grown p (order_of area rows) (present (f a ∷ []))) h.same_classes in
    record {
      same_length = g.same_length ∙ h.same_length;
      same_classes = g.same_classes ∙ h.same_classes;
      numbered = g.numbered;
      left =
          ap (λ (l : List ℕ). grown part l (rest f actions (a + 1))) step
          ∙ sym (grown_present part (order_of area rows) (f a) (rest f actions (a + 1)))
          ∙ ap (grown part (order_of area rows)) (sym (rest_next f actions a l)) ∙ h.left;
    }

-- All are done.
pub expand_end : (graph flags : List ℕ) (n actions i : ℕ) (first : List ℕ) (rows_first : ℕ) (area : List ℕ) (rows a : ℕ)
    → Expanding graph flags n actions i first rows_first area rows a → actions ≤ a
    → Grows n first rows_first (followers graph flags actions i) area rows
expand_end graph flags n actions i first rows_first area rows a h l =
    let part = classes_part first in
    record {
      same_length = h.same_length;
      same_classes = h.same_classes;
      numbered = h.numbered;
      order =
          sym (grown_none part (order_of area rows))
          ∙ ap (grown part (order_of area rows)) (sym (rest_none (led_to graph flags i) actions a l)) ∙ h.left;
    }

-- ---- clearing the marks

-- An area with zeros in the place of the marks.
pub marks_cleared : (n : ℕ) (area zeros : List ℕ) → 2000 + 2 * n + 2000 ≤ length area
    → zeros ≡ replicate (length (take (2000 + 2 * n + 2000 - (2000 + 2 * n)) (drop (2000 + 2 * n) area))) 0
    → Cleared n area (take (2000 + 2 * n) area ++ (zeros ++ drop (2000 + 2 * n + 2000 - (2000 + 2 * n)) (drop (2000 + 2 * n) area)))
unfolding number_at
marks_cleared n area zeros room e =
    let start = 2000 + 2 * n in
    let behind = drop (start + 2000 - start) (drop start area) in
    let before = length-take-le start area (omega arith) in
    let left = length-drop start area in
    let many : length (take (start + 2000 - start) (drop start area)) ≡ 2000 = length-take-le (start + 2000 - start) (drop start area) (omega arith) ∙ omega arith in
    rw (e, many)
    (record {
      same_length = simp (length-append, length-replicate, length-drop) (omega arith);
      same_classes = take-append-le order_at (take start area) (replicate 2000 0 ++ behind) (omega arith) ∙ take-take order_at start area (omega arith);
      marks = λ c l. omega (
        arith,
        part_byte (take start area) behind 2000 (start + 2 * c) (omega arith) (omega arith),
        part_byte (take start area) behind 2000 (start + 2 * c + 1) (omega arith) (omega arith),
      );
    })

-- With the marks cleared there are no rows.
pub no_rows : (n : ℕ) (area now : List ℕ) → Classed n area → Cleared n area now → RowsNumbered n now 0
unfolding order_of Apart mark_in some_of
no_rows n area now h clear =
    record {
      pairs = h.pairs;
      few = omega arith;
      room = omega (arith, clear.same_length);
      classes = λ i l. rw clear.same_classes (h.classes i l);
      pairs_below = λ y m. absurd (Memᴰ.not-nil m);
      apart = tt;
      marks = clear.marks;
    }

-- ---- the search

-- From the rows of the area at first, those below r are expanded.
pub record SearchingRows (graph flags : List ℕ) (n actions : ℕ) (first area : List ℕ) (rows r : ℕ) : Type 0 where
  pub same_length : length area ≡ length first
  pub same_classes : classes_part area ≡ classes_part first
  pub numbered : RowsNumbered n area rows
  pub done : r ≤ rows
  pub left : search_on (same_in (classes_part first)) (followers graph flags actions) once n (suc n - r) (order_of area rows)
      (drop r (order_of area rows))
      ≡ search_from (same_in (classes_part first)) (followers graph flags actions) once n 0

-- At first pair 0 is the one row, and is not expanded.
pub searching_start : (graph flags : List ℕ) (n actions : ℕ) (area : List ℕ) (rows : ℕ) → RowsNumbered n area rows → order_of area rows ≡ 0 ∷ []
    → SearchingRows graph flags n actions area area rows 0
searching_start graph flags n actions area rows h e =
    let fuel : suc n - 0 ≡ suc n = omega arith in
    record {
      same_length = refl;
      same_classes = refl;
      numbered = h;
      done = omega arith;
      left = rw (e, fuel) (search_start (classes_part area) (followers graph flags actions) n);
    }

-- The next row is expanded.
pub searching_more : (graph flags : List ℕ) (n actions : ℕ) (first area : List ℕ) (rows r i : ℕ) (z : List ℕ) (s : ℕ)
    → SearchingRows graph flags n actions first area rows r → r < rows → i ≡ number_at 2 area (2000 + 2 * r)
    → Grows n area rows (followers graph flags actions i) z s → SearchingRows graph flags n actions first z s (r + 1)
searching_more graph flags n actions first area rows r i z s h l is_i g =
    let part = classes_part first in
    let follow = followers graph flags actions in
    let seen = order_of area rows in
    let len = length_order area rows in
    let at : get_or seen r 0 ≡ i = order_read area rows r l ∙ sym is_i in
    let grow : grown part seen (follow (get_or seen r 0)) ≡ order_of z s =
    ap (λ (j : ℕ). grown part seen (follow j)) at ∙ ap (λ (p : List ℕ). grown p seen (follow i)) (sym h.same_classes) ∙ sym g.order in
    let turn = search_turn part follow n seen r (n - r) (omega arith) (omega arith) in
    let fuel : suc n - r ≡ suc (n - r) = omega arith in
    let fuel_next : suc n - (r + 1) ≡ n - r = omega arith in
    let left = rw fuel at h.left in
    let longer = grown_longer part seen (follow (get_or seen r 0)) in
    record {
      same_length = g.same_length ∙ h.same_length;
      same_classes = g.same_classes ∙ h.same_classes;
      numbered = g.numbered;
      done = omega (arith, length_order z s, ap length grow);
      left = rw (fuel_next, add-one r) (ap (λ (l : List ℕ). search_on (same_in part) follow once n (n - r) l (drop (suc r) l)) (sym grow) ∙ sym turn ∙ left);
    }

-- All rows are expanded.
pub searching_end : (graph flags : List ℕ) (n actions : ℕ) (first area : List ℕ) (rows r : ℕ)
    → SearchingRows graph flags n actions first area rows r → rows ≤ r → InOrder graph flags n actions first area rows
searching_end graph flags n actions first area rows r h l =
    let part = classes_part first in
    let follow = followers graph flags actions in
    let seen = order_of area rows in
    let end : r ≡ length seen = omega (arith, length_order area rows) in
    let fuel : suc n - length seen ≡ suc (n - length seen) = omega (arith, length_order area rows) in
    record {
      same_length = h.same_length;
      same_classes = h.same_classes;
      numbered = h.numbered;
      order = sym (search_done part follow n seen (n - length seen)) ∙ (rw (end, fuel) at h.left);
    }

-- What is read there is one of the pairs.
pub listed_below : (n : ℕ) (area : List ℕ) (rows r i : ℕ) → RowsNumbered n area rows → r < rows → i ≡ number_at 2 area (2000 + 2 * r) → i < n
listed_below n area rows r i h l e = omega (arith, row_below n area rows r h l)

-- ---- all in all

-- Pair 0 is the first row.
pub first_row : (n : ℕ) (area : List ℕ) (z : List ℕ) (s : ℕ) → Grows n area 0 (0 ∷ []) z s → order_of z s ≡ 0 ∷ []
unfolding order_of some_of
first_row n area z s g = g.order ∙ grown_new (classes_part area) [] 0 refl

-- The rows after pair 0 are in order.
pub ordered : (graph flags : List ℕ) (n actions : ℕ) (area now first z : List ℕ) (s rows : ℕ) → Cleared n area now
    → Grows n now 0 (0 ∷ []) first s → InOrder graph flags n actions first z rows → InOrder graph flags n actions area z rows
ordered graph flags n actions area now first z s rows clear g o =
    let e = g.same_classes ∙ clear.same_classes in
    record {
      same_length = o.same_length ∙ g.same_length ∙ clear.same_length;
      same_classes = o.same_classes ∙ e;
      numbered = o.numbered;
      order = rw e at o.order;
    }
