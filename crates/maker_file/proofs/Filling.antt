-- What the loops that fill the output keep: to write what is left is to write the whole.
use Prim.Native.Nat.{ℕ, ◌+◌, ◌*◌, ◌≤◌, ◌<◌}
use native.Mathlib.Omega.{arith}
use native.Mathlib.Nat.{mul-zero, mul-suc, mul-le-mul}
use native.Mathlib.Numerals.{add-one}
use mathlib.Core.Path.{◌≡◌, refl, sym, ◌∙◌, ap, ap₂, subst}
use Rattle.std.specs.Prelude.{Option}
use mathlib.Core.List.{List, [], ◌∷◌, ◌++◌, map, append_assoc}
use lib.ListN.{length, drop, length-append, length-map}
use lib.Seq.{sets, length-sets}
use borrow.Author.Tests.{lt-ltb, le-ltb}
use mir.Syntax.{w64}
use mir.Val.{Fits}
use Rattle.base.specs.Lists.{present}
use Rattle.base.specs.Bytes.{number_at, number_bytes}
use Rattle.base.proofs.Bytes.{length_number_bytes, piece_inside}
use Rattle.logic.specs.Tables.{Step, Row}
use Rattle.logic.specs.declared.FileLayout.{FileLayout}
use Rattle.logic.specs.TableFile.{rows_at, row_size, steps_at, header_bytes, row_bytes, table_file}
use Rattle.logic.proofs.TableFile.{length_header, length_row_bytes}
use Rattle.pair_graph.specs.Steps.{class_in, state_in}
use Rattle.maker_order.specs.Orders.{followers, classes_part, order_of, Classed, InOrder}
use Rattle.maker_order.proofs.Rest.{rest, rest_all, rest_next, rest_none}
use Rattle.maker_order.proofs.Orders.{class_read, length_order}
use Rattle.maker_file.specs.Writing.{table_in, Writable, ShortNumbers, WritesTable, step_from, steps_in, row_in, packed, steps_total, bytes_of_steps, Laid, Wrote, WroteHeader, WroteRows, WroteFile}
use Rattle.std.specs.Prelude.{Some, None}
use Rattle.maker_file.proofs.Tables.{sets_append, length_steps, packed_cons, packed_nil, length_packed, no_steps, bytes_append, length_bytes, file_parts, file_long}
use Rattle.maker_file.proofs.Same.{table_same}
use Rattle.maker_file.proofs.Going.{Totalling, totalling_start, totalling_more, laid_few, laid_total, next_pair, no_pair}

-- ---- steps

-- The steps ss are left to write at p, and with them the whole is written.
pub record Filling (ss whole : List Step) (first : List ℕ) (start : ℕ) (out : List ℕ) (p : ℕ) : Type 0 where
  pub same_length : length out ≡ length first
  pub left : sets out p (bytes_of_steps ss) ≡ sets first start (bytes_of_steps whole)
  pub behind : p + 3 * length ss ≡ start + 3 * length whole

-- At first all are left.
filling_start : (whole : List Step) (out : List ℕ) (p : ℕ) → Filling whole whole out p out p
filling_start whole out p = record { same_length = refl; left = refl; behind = refl }

-- Some of them are written.
filling_more : (ss ts whole : List Step) (first : List ℕ) (start : ℕ) (out : List ℕ) (p : ℕ) (z : List ℕ) (q : ℕ)
    → Filling (ss ++ ts) whole first start out p → Wrote ss out p z q → Filling ts whole first start z q
filling_more ss ts whole first start out p z q h w =
    record {
      same_length = w.same_length ∙ h.same_length;
      left =
          ap₂ (λ (l : List ℕ) (k : ℕ). sets l k (bytes_of_steps ts)) w.left (w.behind ∙ ap (λ (k : ℕ). p + k) (sym (length_bytes ss)))
          ∙ sym (sets_append out p (bytes_of_steps ss) (bytes_of_steps ts))
          ∙ ap (sets out p) (sym (bytes_append ss ts)) ∙ h.left;
      behind = omega (arith, w.behind, h.behind, length-append ss ts);
    }

-- None is left.
filling_end : (whole : List Step) (first : List ℕ) (start : ℕ) (out : List ℕ) (p : ℕ) → Filling [] whole first start out p
    → Wrote whole first start out p
filling_end whole first start out p h =
    record {
      same_length = h.same_length;
      left = ap (sets out p) (sym no_steps) ∙ h.left;
      behind = omega (arith, h.behind);
    }

-- ---- the steps of a pair

module _ (graph flags area : List ℕ) (actions rows i : ℕ) where
  abbrev step : ℕ → Option Step
  step = step_from graph flags (classes_part area) (order_of area rows) i

  abbrev all : List Step
  all = steps_in graph flags (classes_part area) (order_of area rows) actions i

  pub pair_start : (out : List ℕ) (p : ℕ) → Filling (rest step actions 0) all out p out p
  unfolding steps_in
  pair_start out p = rw (rest_all step actions) (filling_start all out p)

  module _ (first : List ℕ) (start : ℕ) (out : List ℕ) (p a : ℕ) (h : Filling (rest step actions a) all first start out p) where
    -- There is room for the next.
    pub pair_room : a < actions → start + 3 * length all ≤ length first → p + 3 * length (present (step a ∷ [])) ≤ length out
    pair_room l room =
        let e = ap length (rest_next step actions a l) ∙ length-append (present (step a ∷ [])) (rest step actions (a + 1)) in
        omega (arith, h.behind, h.same_length)

    pub pair_more : (z : List ℕ) (q : ℕ) → a < actions → Wrote (present (step a ∷ [])) out p z q
        → Filling (rest step actions (a + 1)) all first start z q
    pair_more z q l w =
        filling_more (present (step a ∷ [])) (rest step actions (a + 1)) all first start out p z q
        (subst (λ (ss : List Step). Filling ss all first start out p) (rest_next step actions a l) h) w

    pub pair_end : actions ≤ a → Wrote all first start out p
    pair_end l = filling_end all first start out p (subst (λ (ss : List Step). Filling ss all first start out p) (rest_none step actions a l) h)

-- ---- the steps of all rows

-- The steps of the rows from r on are left.
pub record Packing (graph flags area : List ℕ) (actions rows : ℕ) (first : List ℕ) (start : ℕ) (out : List ℕ) (p r : ℕ) : Type 0 where
  pub done : r ≤ rows
  pub filling : Filling (packed graph flags (classes_part area) (order_of area rows) actions (drop r (order_of area rows)))
      (packed graph flags (classes_part area) (order_of area rows) actions (order_of area rows)) first start out p

pub packing_start : (graph flags area : List ℕ) (actions rows : ℕ) (out : List ℕ) (p : ℕ) → Packing graph flags area actions rows out p out p 0
packing_start graph flags area actions rows out p =
    record {
      done = omega arith;
      filling = filling_start (packed graph flags (classes_part area) (order_of area rows) actions (order_of area rows)) out p;
    }

module _ (graph flags area : List ℕ) (n actions rows : ℕ) (laid : Laid graph flags area n actions rows) (first : List ℕ) (start : ℕ)
    (out : List ℕ) (p r : ℕ) (h : Packing graph flags area actions rows first start out p r) where
  abbrev pairs : List ℕ → List Step
  pairs = packed graph flags (classes_part area) (order_of area rows) actions

  module _ (i : ℕ) (l : r < rows) (is_i : i ≡ number_at 2 area (2000 + 2 * r)) where
    abbrev here : List Step
    here = steps_in graph flags (classes_part area) (order_of area rows) actions i

    next_steps : pairs (drop r (order_of area rows)) ≡ here ++ pairs (drop (r + 1) (order_of area rows))
    next_steps =
        ap pairs (next_pair graph flags area n actions rows laid r l i is_i)
        ∙ packed_cons graph flags (classes_part area) (order_of area rows) actions i (drop (r + 1) (order_of area rows))

    -- There is room for the row's steps.
    pub packing_room : start + 3 * steps_total graph flags actions (order_of area rows) ≤ length first → p + 3 * length here ≤ length out
    packing_room room =
        let e = ap length next_steps ∙ length-append here (pairs (drop (r + 1) (order_of area rows))) in
        let whole = length_packed graph flags (classes_part area) (order_of area rows) actions (order_of area rows) in
        omega (arith, h.filling.behind, h.filling.same_length)

  pub packing_end : rows ≤ r → Wrote (pairs (order_of area rows)) first start out p
  packing_end l =
      let e = ap pairs (no_pair graph flags area n actions rows laid r (omega (arith, h.done)))
      ∙ packed_nil graph flags (classes_part area) (order_of area rows) actions in
      filling_end (pairs (order_of area rows)) first start out p
      (subst (λ (ss : List Step). Filling ss (pairs (order_of area rows)) first start out p) e h.filling)

-- The row's steps are written.
pub packing_more : (graph flags area : List ℕ) (n actions rows : ℕ) (first : List ℕ) (start : ℕ) (out : List ℕ) (p r i : ℕ) (z : List ℕ) (q : ℕ)
    → Packing graph flags area actions rows first start out p r
    → Wrote (steps_in graph flags (classes_part area) (order_of area rows) actions i) out p z q → i ≡ number_at 2 area (2000 + 2 * r) → r < rows
    → Laid graph flags area n actions rows → Packing graph flags area actions rows first start z q (r + 1)
packing_more graph flags area n actions rows first start out p r i z q h w is_i l laid =
    let pairs = packed graph flags (classes_part area) (order_of area rows) actions in
    record {
      done = omega arith;
      filling =
          filling_more (steps_in graph flags (classes_part area) (order_of area rows) actions i) (pairs (drop (r + 1) (order_of area rows)))
          (pairs (order_of area rows)) first start out p z q
          (subst (λ (ss : List Step). Filling ss (pairs (order_of area rows)) first start out p)
          (next_steps graph flags area n actions rows laid first start out p r h i l is_i) h.filling) w;
    }

-- ---- the rows

-- The place of the first row.
first_row : (layout : FileLayout) → steps_at layout 0 ≡ rows_at
unfolding steps_at
first_row layout = omega (arith, mul-zero (row_size layout))

-- The place of the next row.
next_row : (layout : FileLayout) (r : ℕ) → steps_at layout (r + 1) ≡ steps_at layout r + row_size layout
unfolding steps_at
next_row layout r = omega (arith, mul-suc (row_size layout) r, ap (λ n. row_size layout * n) (add-one r))

-- A row behind so many bytes of rows.
row_behind : (layout : FileLayout) (r rows : ℕ) → r < rows → steps_at layout r + row_size layout ≤ steps_at layout rows
unfolding steps_at
row_behind layout r rows l = omega (arith, piece_inside (row_size layout) rows r l)

-- Where there is room for the whole there is room for the header.
pub header_room : (layout : FileLayout) (rows total : ℕ) (out : List ℕ) → steps_at layout rows + 3 * total ≤ length out → rows_at ≤ length out
unfolding steps_at
header_room layout rows total out h = omega arith

-- The steps come behind the rows' bytes.
steps_behind : (layout : FileLayout) (n : ℕ) (rows : List Row) → length rows ≡ n → steps_at layout n ≡ rows_at + length (row_bytes layout 0 rows)
unfolding steps_at
steps_behind layout n rows e = rw (← e) (ap (λ (k : ℕ). rows_at + k) (sym (length_row_bytes layout 0 rows)))

-- The rows end early enough for their places to be numbers.
pub rows_small : (layout : FileLayout) (rows : ℕ) → ShortNumbers layout → rows ≤ 1000 → steps_at layout rows ≤ 5012
unfolding steps_at rows_at row_size
rows_small layout rows short few =
    let size : layout.width + 3 ≤ 5 = omega (arith, short.most) in
    let all : (layout.width + 3) * rows ≤ 5 * 1000 = mul-le-mul size few in
    omega arith

-- The rows from r on are left, behind so many steps.
pub record ListingSteps (layout : FileLayout) (graph flags area : List ℕ) (actions rows : ℕ) (first out : List ℕ) (count r : ℕ) : Type 0 where
  pub same_length : length out ≡ length first
  pub totalling : Totalling graph flags area actions rows count r
  pub left : sets out (steps_at layout r)
      (row_bytes layout count (map (row_in graph flags (classes_part area) (order_of area rows) actions) (drop r (order_of area rows))))
      ≡ sets first rows_at (row_bytes layout 0 (map (row_in graph flags (classes_part area) (order_of area rows) actions) (order_of area rows)))

pub listing_start : (layout : FileLayout) (graph flags area : List ℕ) (actions rows : ℕ) (out : List ℕ)
    → ListingSteps layout graph flags area actions rows out out 0 0
listing_start layout graph flags area actions rows out =
    let row = row_in graph flags (classes_part area) (order_of area rows) actions in
    record {
      same_length = refl;
      totalling = totalling_start graph flags area actions rows;
      left = ap (λ (p : ℕ). sets out p (row_bytes layout 0 (map row (order_of area rows)))) (first_row layout);
    }

-- A row and those behind it, as bytes.
row_bytes_cons : (layout : FileLayout) (first s c : ℕ) (row : Row) (rows : List Row) → s ≡ row.state → c ≡ length row.steps
    → row_bytes layout first (row ∷ rows)
    ≡ (number_bytes layout.width s ++ (number_bytes 1 c ++ number_bytes 2 first)) ++ row_bytes layout (first + c) rows
unfolding row_bytes
row_bytes_cons layout first s c row rows e f = rw (e, f) (simp append_assoc)

row_length : (layout : FileLayout) (s c f : ℕ)
    → length (number_bytes layout.width s ++ (number_bytes 1 c ++ number_bytes 2 f)) ≡ row_size layout
unfolding row_size
row_length layout s c f =
    simp (length-append, length_number_bytes) (omega arith)

module _ (layout : FileLayout) (graph flags area : List ℕ) (n actions rows : ℕ) (first out : List ℕ) (count r : ℕ)
    (laid : Laid graph flags area n actions rows) (h : ListingSteps layout graph flags area actions rows first out count r) where
  pub listing_more : (i c s p : ℕ) (z : List ℕ) → r < rows → i ≡ number_at 2 area (2000 + 2 * r) → c ≡ length (followers graph flags actions i)
      → s ≡ state_in graph i → p ≡ steps_at layout r
      → z ≡ sets out p (number_bytes layout.width s ++ (number_bytes 1 c ++ number_bytes 2 count))
      → ListingSteps layout graph flags area actions rows first z (count + c) (r + 1)
  unfolding row_in
  listing_more i c s p z l is_i is_c is-s is_p is_z =
      let part = classes_part area in
      let order = order_of area rows in
      let row = row_in graph flags part order actions in
      let others = map row (drop (r + 1) order) in
      let here : List ℕ = number_bytes layout.width s ++ (number_bytes 1 c ++ number_bytes 2 count) in
      let bytes : row_bytes layout count (map row (drop r order)) ≡ here ++ row_bytes layout (count + c) others =
      ap (λ (is : List ℕ). row_bytes layout count (map row is)) (next_pair graph flags area n actions rows laid r l i is_i)
      ∙ row_bytes_cons layout count s c (row i) others is-s (is_c ∙ sym (length_steps graph flags part order actions i)) in
      let place : steps_at layout (r + 1) ≡ steps_at layout r + length here =
      next_row layout r ∙ ap (λ (k : ℕ). steps_at layout r + k) (sym (row_length layout s c count)) in
      let written : z ≡ sets out (steps_at layout r) here = is_z ∙ ap (λ (q : ℕ). sets out q here) is_p in
      record {
        same_length = ap length written ∙ length-sets out (steps_at layout r) here ∙ h.same_length;
        totalling = totalling_more graph flags area n actions rows laid count r i c h.totalling l is_i is_c;
        left =
            ap₂ (λ (l : List ℕ) (k : ℕ). sets l k (row_bytes layout (count + c) others)) written place
            ∙ sym (sets_append out (steps_at layout r) here (row_bytes layout (count + c) others))
            ∙ ap (sets out (steps_at layout r)) (sym bytes) ∙ h.left;
      }

  pub listing_end : rows ≤ r → WroteRows layout graph flags area actions rows first out
  unfolding row_bytes
  listing_end l =
      let row = row_in graph flags (classes_part area) (order_of area rows) actions in
      let e = ap (λ (is : List ℕ). row_bytes layout count (map row is)) (no_pair graph flags area n actions rows laid r (omega (arith, h.totalling.done))) in
      record { same_length = h.same_length; left = sym (ap (sets out (steps_at layout r)) e) ∙ h.left }

-- A row is there as a whole.
pub row_place : (layout : FileLayout) (graph flags area : List ℕ) (actions rows : ℕ) (first out : List ℕ) (count r p : ℕ)
    → ListingSteps layout graph flags area actions rows first out count r → r < rows → steps_at layout rows ≤ length first → p ≡ steps_at layout r
    → p + layout.width + 3 ≤ length out
unfolding row_size
row_place layout graph flags area actions rows first out count r p h l room e =
    omega (arith, h.same_length, row_behind layout r rows l)

-- ---- the whole

-- Header, rows and steps, one behind the other, are the file.
pub file_written : (layout : FileLayout) (graph flags area : List ℕ) (n states actions rows total p : ℕ) (out l₁ l₂ z : List ℕ) (q : ℕ)
    → Laid graph flags area n actions rows → total ≡ steps_total graph flags actions (order_of area rows) → p ≡ steps_at layout rows
    → WroteHeader layout rows total states actions out l₁ → WroteRows layout graph flags area actions rows l₁ l₂
    → Wrote (packed graph flags (classes_part area) (order_of area rows) actions (order_of area rows)) l₂ p z q
    → WroteFile layout graph flags area states actions rows out z q
file_written layout graph flags area n states actions rows total p out l₁ l₂ z q laid is_total is_p w₁ w₂ w₃ =
    let part = classes_part area in
    let order = order_of area rows in
    let row = row_in graph flags part order actions in
    let len = length_order area rows in
    let head = header_bytes layout rows total states actions in
    let lines = row_bytes layout 0 (map row order) in
    let tail = bytes_of_steps (packed graph flags part order actions order) in
    let whole : table_file layout states actions (map row order) ≡ head ++ (lines ++ tail) =
    file_parts layout states actions graph flags part order order
    ∙ ap₂ (λ (k : ℕ) (m : ℕ). header_bytes layout k m states actions ++ (lines ++ tail)) len (sym is_total) in
    let rows_long : length (map row order) ≡ rows = length-map order row ∙ len in
    let lines_end : p ≡ rows_at + length lines = is_p ∙ steps_behind layout rows (map row order) rows_long in
    let head_end : rows_at ≡ 0 + length head = omega (arith, length_header layout rows total states actions) in
    let packed_long = length_packed graph flags part order actions order in
    let size = ap (λ (m : ℕ). steps_at layout m + 3 * steps_total graph flags actions order) len in
    record {
      left =
          w₃.left
          ∙ ap₂ (λ (l : List ℕ) (k : ℕ). sets l k tail) w₂.left lines_end
          ∙ sym (sets_append l₁ rows_at lines tail)
          ∙ ap₂ (λ (l : List ℕ) (k : ℕ). sets l k (lines ++ tail)) w₁.left head_end
          ∙ sym (sets_append out 0 head (lines ++ tail)) ∙ ap (sets out 0) (sym whole);
      long = omega (arith, w₃.behind, file_long layout states actions graph flags part order order);
    }

module _ (graph flags classes : List ℕ) (n actions : ℕ) (given : Writable graph flags classes n actions) where
  classes_agree : (i : ℕ) → i < n → class_in classes i ≡ class_in (classes_part classes) i
  classes_agree i l = sym (class_read classes i (omega (arith, given.held.graph.pairs_most)))

  pub classes_given : Classed n classes
  classes_given =
      record {
        least = given.least;
        pairs = given.held.graph.pairs_most;
        room = given.classes_there;
        classes = λ i l. subst (λ (c : ℕ). c < 1000) (classes_agree i l) (given.class_numbers i l);
      }

  module _ (area : List ℕ) (rows : ℕ) (ordered : InOrder graph flags n actions classes area rows) where
    -- The rows are in order.
    pub laid_out : Laid graph flags area n actions rows
    laid_out = record { held = given.held; numbered = ordered.numbered; order = rw ordered.same_classes ordered.order }

    -- The table of the graph is the one that is written.
    table_is : table_in graph flags classes n actions
        ≡ map (row_in graph flags (classes_part area) (order_of area rows) actions) (order_of area rows)
    table_is =
        table_same graph flags classes (classes_part area) n actions given.held given.least
        (λ i l. classes_agree i l ∙ ap (λ (part : List ℕ). class_in part i) (sym ordered.same_classes))
        (order_of area rows) laid_out.order ordered.numbered.pairs_below

    module _ (layout : FileLayout) (states total p : ℕ) (is_total : total ≡ steps_total graph flags actions (order_of area rows))
        (is_p : p ≡ steps_at layout rows) where
      file_length : length (table_file layout states actions (table_in graph flags classes n actions)) ≡ p + 3 * total
      file_length =
          let e = ap (λ t. length (table_file layout states actions t)) table_is in
          let f = file_long layout states actions graph flags (classes_part area) (order_of area rows) (order_of area rows) in
          let g = ap (steps_at layout) (length_order area rows) in
          omega arith

      -- The numbers on the way to the length fit.
      pub size_fits : ShortNumbers layout → Fits w64 (p + 3 * total)
      size_fits short =
          omega (
            arith,
            rows_small layout rows short (laid_few graph flags area n actions rows laid_out),
            laid_total graph flags area n actions rows laid_out,
          )

      -- There is no room.
      pub writes_nothing : (out : List ℕ) → length out < p + 3 * total
          → WritesTable (table_file layout states actions (table_in graph flags classes n actions)) out None out
      writes_nothing out l =
          let less = lt-ltb (length out) (length (table_file layout states actions (table_in graph flags classes n actions))) (omega (arith, file_length)) in
          record { answered = rw less; left = rw less }

      -- The file is written.
      pub writes_file : (out z : List ℕ) (size : ℕ) → p + 3 * total ≤ length out
          → WroteFile layout graph flags area states actions rows out z size
          → WritesTable (table_file layout states actions (table_in graph flags classes n actions)) out (Some size) z
      writes_file out z size l w =
          let file = table_file layout states actions in
          let enough = le-ltb (length out) (length (file (table_in graph flags classes n actions))) (omega (arith, file_length)) in
          record {
            answered = rw enough (ap (λ r. Some r) (w.long ∙ sym (ap (λ t. length (file t)) table_is)));
            left = rw enough (w.left ∙ sym (ap (λ t. sets out 0 (file t)) table_is));
          }

    pub steps_size_fits : (total : ℕ) → total ≡ steps_total graph flags actions (order_of area rows) → Fits w64 (3 * total)
    steps_size_fits total e = omega (arith, laid_total graph flags area n actions rows laid_out)
