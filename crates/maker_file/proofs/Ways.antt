-- The ways through the code: what it knows at a need, and what follows.
use Prim.Native.Nat.{ℕ, suc, ◌+◌, ◌-◌, ◌*◌, ◌^◌, ◌≤◌, ◌<◌}
use native.Mathlib.Omega.{arith}
use mathlib.Core.Path.{◌≡◌, refl, sym, ◌∙◌, ap, ap₂}
use mathlib.Core.Bool.{Bool, true}
use Rattle.std.specs.Prelude.{Some}
use mathlib.Core.List.{List, [], ◌∷◌, ◌++◌}
use lib.ListN.{length}
use lib.Seq.{sets, length-sets}
use mir.Syntax.{w64}
use mir.Val.{Fits}
use Rattle.base.specs.Lists.{below, present, joined, some_of, place_of}
use Rattle.base.specs.Bytes.{number_at, number_bytes}
use Rattle.base.proofs.Bytes.{length_number_bytes}
use Rattle.base.proofs.Lists.{mem_along, present_map_in, below_mem, some_of_mem}
use Rattle.base.specs.Search.{search_from, once}
use Rattle.base.proofs.Search.{few_once, search_closed}
use Rattle.logic.specs.Tables.{Step}
use Rattle.logic.specs.declared.FileLayout.{FileLayout}
use Rattle.logic.specs.TableFile.{rows_at, steps_at, header_bytes, step_bytes}
use Rattle.pair_graph.specs.Steps.{class_in, led_to}
use Rattle.maker_order.specs.Orders.{followers, classes_part, same_in, order_of, of_class}
use Rattle.std.specs.Prelude.{Option, None}
use Rattle.maker_order.proofs.Orders.{same_is, class_read, length_order, mark_some, of_same}
use Rattle.pair_graph.proofs.Moves.{led_some, led_none, allowed_below}
use Rattle.maker_file.specs.Writing.{step_in, step_from, Laid, IsRow, RowsMarked, Wrote, WroteCounts, WroteHeader}
use Rattle.maker_file.proofs.Tables.{sets_append, no_steps, one_step}
use Rattle.maker_file.proofs.Going.{row_pair_below}

-- ---- one step more or none

pub no_step : (graph flags : List ℕ) (i a : ℕ) (r : Option ℕ) → r ≡ (led_to graph flags i a) → r ≡ None
    → 0 ≡ length (present (led_to graph flags i a ∷ []))
unfolding present
no_step graph flags i a r e f = let o = led_none (led_to graph flags i a) r e f in rw o

pub a_step : (graph flags : List ℕ) (i a j : ℕ) (r : Option ℕ) → r ≡ (led_to graph flags i a) → r ≡ Some j
    → 1 ≡ length (present (led_to graph flags i a ∷ []))
unfolding present
a_step graph flags i a j r e f = let o = led_some (led_to graph flags i a) r j e f in rw o

-- ---- the row of a class

-- The mark is there.
pub mark_place : (area : List ℕ) (n j c : ℕ) → RowsMarked area n j → c ≡ number_at 2 area (2 * j) → 2000 + 2 * n + 2 * c + 1 < length area
mark_place area n j c h e = rw e h.mark_there

-- It is not 0.
pub mark_least : (area : List ℕ) (n j c m : ℕ) → RowsMarked area n j → c ≡ number_at 2 area (2 * j)
    → m ≡ number_at 2 area (2000 + 2 * n + 2 * c) → 1 ≤ m
mark_least area n j c m h e f = rw (f, e) h.marked

pub row_read : (area : List ℕ) (n j c m : ℕ) → RowsMarked area n j → c ≡ number_at 2 area (2 * j)
    → m ≡ number_at 2 area (2000 + 2 * n + 2 * c) → m - 1 + 1 ≡ number_at 2 area (2000 + 2 * n + 2 * number_at 2 area (2 * j))
row_read area n j c m h e f =
    let g : m ≡ number_at 2 area (2000 + 2 * n + 2 * number_at 2 area (2 * j)) = f ∙ ap (λ k. number_at 2 area (2000 + 2 * n + 2 * k)) e in
    omega (arith, mark_least area n j c m h e f)

module _ (graph flags area : List ℕ) (n actions rows i a j : ℕ) (r : Option ℕ) (laid : Laid graph flags area n actions rows) (row : IsRow area rows i)
    (l : a < actions) (is_r : r ≡ (led_to graph flags i a)) (is_to : r ≡ Some j) where
  led_is : led_to graph flags i a ≡ Some j
  led_is = led_some (led_to graph flags i a) r j is_r is_to

  target_below : j < n
  target_below = allowed_below graph flags n actions i a j laid.held (row_pair_below graph flags area n actions rows i laid row) l led_is

  class_is : class_in (classes_part area) j ≡ number_at 2 area (2 * j)
  class_is = class_read area j (omega (arith, target_below, laid.numbered.pairs))

  class_small : number_at 2 area (2 * j) < 1000
  class_small = omega (arith, class_is, laid.numbered.classes j target_below)

  -- The target's class has a row.
  target_met : some_of (same_in (classes_part area) j) (order_of area rows) ≡ true
  unfolding followers
  target_met =
      let part = classes_part area in
      let few = laid.numbered.few in
      let long : length (search_from (same_in part) (followers graph flags actions) once n 0) ≤ n =
      omega (arith, ap length laid.order, length_order area rows) in
      let follows = present_map_in (led_to graph flags i) (below actions) (below_mem actions a l) led_is in
      let (z, m, e) = search_closed (same_in part) (followers graph flags actions) once n 0 (same_is part) (few_once n _ long) (mem_along laid.order row.listed) follows in
      some_of_mem (same_in part j) (mem_along (sym laid.order) m) e

  mark_is : number_at 2 area (2000 + 2 * n + 2 * number_at 2 area (2 * j)) ≡ suc (place_of (same_in (classes_part area) j) (order_of area rows))
  mark_is =
      let part = classes_part area in
      let c = number_at 2 area (2 * j) in
      let same = of_same part c j class_is in
      let found : some_of (of_class part c) (order_of area rows) ≡ true =
      ap (λ (test : ℕ → Bool). some_of test (order_of area rows)) same ∙ target_met in
      laid.numbered.marks c class_small ∙ mark_some part (order_of area rows) c found
      ∙ ap (λ (test : ℕ → Bool). suc (place_of test (order_of area rows))) same

  -- So it is marked.
  pub target_marked : RowsMarked area n j
  target_marked =
      record {
        class_there = omega (arith, target_below, laid.numbered.pairs, laid.numbered.room);
        mark_there = omega (arith, class_small, laid.numbered.pairs, laid.numbered.room);
        marked = omega (arith, mark_is);
      }

  -- One step.
  steps_one : (t : ℕ) → t + 1 ≡ number_at 2 area (2000 + 2 * n + 2 * number_at 2 area (2 * j))
      → present (step_from graph flags (classes_part area) (order_of area rows) i a ∷ []) ≡ record { action = a; target = t } ∷ []
  unfolding step_from step_in present
  steps_one t e =
      let same : place_of (same_in (classes_part area) j) (order_of area rows) ≡ t = omega (arith, mark_is) in
      rw (led_is, same)

  -- There is room for it.
  pub step_room : (p : ℕ) (out : List ℕ)
      → p + 3 * length (present (step_from graph flags (classes_part area) (order_of area rows) i a ∷ [])) ≤ length out → p + 3 ≤ length out
  unfolding step_from step_in present
  step_room p out h = let e = rw led_is at h in omega arith

  pub step_fits : (p : ℕ) (out : List ℕ)
      → p + 3 * length (present (step_from graph flags (classes_part area) (order_of area rows) i a ∷ [])) ≤ length out → length out < 2 ^ 64
      → Fits w64 (p + 3)
  step_fits p out h f = omega (arith, step_room p out h)

  -- It is written.
  pub wrote_one : (p t : ℕ) (out z : List ℕ) → t + 1 ≡ number_at 2 area (2000 + 2 * n + 2 * number_at 2 area (2 * j))
      → z ≡ sets out p (number_bytes 1 a ++ number_bytes 2 t)
      → Wrote (present (step_from graph flags (classes_part area) (order_of area rows) i a ∷ [])) out p z (p + 3)
  unfolding step_bytes
  wrote_one p t out z e is_z =
      let s : Step = record { action = a; target = t } in
      rw (steps_one t e) (record {
        same_length = ap length is_z ∙ length-sets out p (number_bytes 1 a ++ number_bytes 2 t);
        left = is_z ∙ ap (sets out p) (sym (one_step s));
        behind = omega arith;
      })

-- No step is written.
pub wrote_none : (graph flags area : List ℕ) (rows i a : ℕ) (r : Option ℕ) (p : ℕ) (out : List ℕ) → r ≡ (led_to graph flags i a) → r ≡ None
    → Wrote (present (step_from graph flags (classes_part area) (order_of area rows) i a ∷ [])) out p out p
unfolding step_from step_in present
wrote_none graph flags area rows i a r p out is_r f =
    let o = led_none (led_to graph flags i a) r is_r f in
    rw o (record { same_length = refl; left = ap (sets out p) (sym no_steps); behind = omega arith })

-- ---- the pieces as bytes

-- A number, and what is written behind it.
pub behind_written : (l mid z : List ℕ) (p width n : ℕ) (rest : List ℕ) → z ≡ sets mid (p + width) rest → mid ≡ sets l p (number_bytes width n)
    → z ≡ sets l p (number_bytes width n ++ rest)
behind_written l mid z p width n rest e f =
    let long = length_number_bytes width n in
    let place : p + width ≡ p + length (number_bytes width n) = omega arith in
    e ∙ ap₂ (λ (k : List ℕ) (q : ℕ). sets k q rest) f place ∙ sym (sets_append l p (number_bytes width n) rest)

-- The header.
pub counts_written : (l mid z : List ℕ) (rows total place : ℕ) → z ≡ sets mid 4 (number_bytes 2 12 ++ number_bytes 2 place)
    → mid ≡ sets l 0 (number_bytes 2 rows ++ number_bytes 2 total) → WroteCounts rows total place l z
unfolding rows_at
counts_written l mid z rows total place e f = record { left = e ∙ ap (λ k. sets k 4 (number_bytes 2 12 ++ number_bytes 2 place)) f }

pub header_written : (l mid z : List ℕ) (layout : FileLayout) (rows total place states actions : ℕ)
    → z ≡ sets mid 8 (number_bytes 2 states ++ number_bytes 2 actions) → WroteCounts rows total place l mid → place ≡ steps_at layout rows
    → WroteHeader layout rows total states actions l z
unfolding header_bytes joined number_bytes rows_at
header_written l mid z layout rows total place states actions e w at = record { left = rw (e, w.left, at) }
