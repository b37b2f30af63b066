-- What the loops keep: what is done so far and what is left come to the whole.
use Prim.Native.Nat.{ℕ, ◌+◌, ◌*◌, ◌≤◌, ◌<◌}
use native.Mathlib.Omega.{arith}
use native.Mathlib.Numerals.{add-one}
use mathlib.Core.Path.{◌≡◌, sym, ◌∙◌, ap, ap₂, subst}
use mathlib.Core.List.{List, [], ◌∷◌, Memᴰ}
use lib.ListN.{length, get_or, drop, length-append}
use lib.Seq.{drop-cons, drop-length}
use mir.Syntax.{w64}
use mir.Val.{Fits}
use Rattle.base.specs.Lists.{present}
use Rattle.base.specs.Bytes.{number_at}
use Rattle.base.proofs.Lists.{mem_get_or}
use Rattle.pair_graph.specs.Steps.{pair_room, led_to, FlaggedGraph}
use Rattle.maker_order.specs.Orders.{followers, classes_part, order_of}
use Rattle.maker_order.proofs.Rest.{rest, rest_all, rest_next, rest_none}
use Rattle.maker_order.proofs.Orders.{length_order, order_read, row_below}
use Rattle.maker_file.specs.Writing.{steps_total, Laid, IsRow}
use Rattle.maker_file.proofs.Tables.{followers_few, total_cons, total_nil, total_few}

-- ---- counting the steps of a pair

-- The actions below a are counted.
pub record Counting (graph flags : List ℕ) (actions i count a : ℕ) : Type 0 where
  pub whole : count + length (rest (led_to graph flags i) actions a) ≡ length (followers graph flags actions i)

pub counting_start : (graph flags : List ℕ) (actions i : ℕ) → Counting graph flags actions i 0 0
unfolding followers
counting_start graph flags actions i = record { whole = omega (arith, ap length (rest_all (led_to graph flags i) actions)) }

-- What is left when action a is counted.
counting_next : (graph flags : List ℕ) (actions i count a c : ℕ) → Counting graph flags actions i count a → a < actions
    → c ≡ length (present (led_to graph flags i a ∷ []))
    → count + c + length (rest (led_to graph flags i) actions (a + 1)) ≡ length (followers graph flags actions i)
counting_next graph flags actions i count a c h l e =
    let f = led_to graph flags i in
    let long = ap length (rest_next f actions a l) ∙ length-append (present (f a ∷ [])) (rest f actions (a + 1)) in
    omega (arith, h.whole)

pub counting_more : (graph flags : List ℕ) (actions i count a c : ℕ) → Counting graph flags actions i count a → a < actions
    → c ≡ length (present (led_to graph flags i a ∷ [])) → Counting graph flags actions i (count + c) (a + 1)
counting_more graph flags actions i count a c h l e = record { whole = counting_next graph flags actions i count a c h l e }

-- The count fits.
pub counting_fits : (graph flags : List ℕ) (n actions i count a c : ℕ) → FlaggedGraph n actions graph flags
    → Counting graph flags actions i count a → a < actions → c ≡ length (present (led_to graph flags i a ∷ [])) → Fits w64 (count + c)
counting_fits graph flags n actions i count a c moves h l e =
    omega (arith, counting_next graph flags actions i count a c h l e, followers_few graph flags actions i, moves.graph.actions_most)

pub counting_end : (graph flags : List ℕ) (actions i count a : ℕ) → Counting graph flags actions i count a → actions ≤ a
    → count ≡ length (followers graph flags actions i)
counting_end graph flags actions i count a h l = omega (arith, h.whole, ap length (rest_none (led_to graph flags i) actions a l))

-- ---- the rows in order

module _ (graph flags area : List ℕ) (n actions rows : ℕ) (laid : Laid graph flags area n actions rows) where
  abbrev order : List ℕ
  order = order_of area rows

  abbrev part : List ℕ
  part = classes_part area

  -- There are at most 1,000 rows.
  pub laid_few : rows ≤ 1000
  laid_few = omega (arith, laid.numbered.few, laid.numbered.pairs)

  -- All steps are at most 16,000.
  pub laid_total : steps_total graph flags actions order ≤ 16000
  laid_total = omega (arith, laid_few, total_few graph flags actions order laid.held.graph.actions_most, length_order area rows)

  module _ (r : ℕ) (l : r < rows) where
    module _ (i : ℕ) (is_i : i ≡ number_at 2 area (2000 + 2 * r)) where
      pair_is : get_or order r 0 ≡ i
      pair_is = order_read area rows r l ∙ sym is_i

      -- It is one of the n.
      pub pair_below : i < n
      pair_below = omega (arith, row_below n area rows r laid.numbered l)

      pub pair_inside : i < pair_room
      pair_inside = omega (arith, pair_below, laid.held.graph.pairs_most)

      -- It stands for a row.
      pub pair_is_row : IsRow area rows i
      pair_is_row = record { listed = subst (λ (j : ℕ). Memᴰ j order) pair_is (mem_get_or order r 0 (omega (arith, length_order area rows))) }

      -- The rows from r on: this one, and the others.
      pub next_pair : drop r order ≡ i ∷ drop (r + 1) order
      next_pair =
          drop-cons order r 0 (omega (arith, length_order area rows))
          ∙ ap₂ (λ (j : ℕ) (k : ℕ). j ∷ drop k order) pair_is (sym (add-one r))

  -- None is left.
  pub no_pair : (r : ℕ) → r ≡ rows → drop r order ≡ []
  no_pair r e = ap (λ (k : ℕ). drop k order) (e ∙ sym (length_order area rows)) ∙ drop-length order

-- A row's pair is one of the n.
pub row_pair_below : (graph flags area : List ℕ) (n actions rows i : ℕ) → Laid graph flags area n actions rows → IsRow area rows i → i < n
row_pair_below graph flags area n actions rows i laid row = laid.numbered.pairs_below i row.listed

-- ---- counting all steps

-- The steps of the rows below r are counted.
pub record Totalling (graph flags area : List ℕ) (actions rows total r : ℕ) : Type 0 where
  pub done : r ≤ rows
  pub whole : total + steps_total graph flags actions (drop r (order_of area rows)) ≡ steps_total graph flags actions (order_of area rows)

pub totalling_start : (graph flags area : List ℕ) (actions rows : ℕ) → Totalling graph flags area actions rows 0 0
totalling_start graph flags area actions rows = record { done = omega arith; whole = omega arith }

module _ (graph flags area : List ℕ) (n actions rows : ℕ) (laid : Laid graph flags area n actions rows) (total r i c : ℕ)
    (h : Totalling graph flags area actions rows total r) (l : r < rows) (is_i : i ≡ number_at 2 area (2000 + 2 * r))
    (is_c : c ≡ length (followers graph flags actions i)) where
  pub totalling_next : total + c + steps_total graph flags actions (drop (r + 1) (order_of area rows)) ≡ steps_total graph flags actions (order_of area rows)
  totalling_next =
      let e = ap (steps_total graph flags actions) (next_pair graph flags area n actions rows laid r l i is_i)
      ∙ total_cons graph flags actions i (drop (r + 1) (order_of area rows)) in
      omega (arith, h.whole)

  pub totalling_more : Totalling graph flags area actions rows (total + c) (r + 1)
  totalling_more = record { done = omega arith; whole = totalling_next }

  -- The sum fits.
  pub totalling_fits : Fits w64 (total + c)
  totalling_fits = omega (arith, totalling_next, laid_total graph flags area n actions rows laid)

pub totalling_end : (graph flags area : List ℕ) (n actions rows : ℕ) → Laid graph flags area n actions rows → (total r : ℕ)
    → Totalling graph flags area actions rows total r → rows ≤ r → total ≡ steps_total graph flags actions (order_of area rows)
totalling_end graph flags area n actions rows laid total r h l =
    let e = ap (steps_total graph flags actions) (no_pair graph flags area n actions rows laid r (omega (arith, h.done)))
    ∙ total_nil graph flags actions in
    omega (arith, h.whole)
