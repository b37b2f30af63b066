-- A law for each way through the reader's code: from what is known there, the answer is what the definitions say.
use Prim.Native.Nat.{ℕ, suc, ◌+◌, ◌-◌, ◌*◌, ◌^◌, ◌≤◌, ◌<◌, min}
use mathlib.Core.Path.{◌≡◌, refl, sym, ◌∙◌, ap}
use mathlib.Core.Bool.{Bool, true, false, ◌&&◌, and-false, and-true}
use mathlib.Core.List.{List}
use Rattle.std.specs.Prelude.{Option, None, Some}
use native.Mathlib.Omega.{arith}
use native.Mathlib.Decide.{dec_lt, ℕ_discrete}
use native.Mathlib.Nat.{mul-le-mul}
use lib.ListN.{length, get_or}
use lib.Dec.{leb, ltb, eqb}
use borrow.Author.Tests.{lt-ltb, le-ltb, lt-leb, le-leb, eq-eqb, ne_eqb, ltb-true}
use mir.Syntax.{w8, w64}
use mir.Val.{Fits}
use Rattle.base.specs.Bytes.{number_at}
use Rattle.base.proofs.Lists.{and_left, and_right, and_fails_left, and_fails_right, false_by}
use Rattle.logic.specs.declared.FileLayout.{FileLayout}
use Rattle.logic.specs.Tower.{most_actions, in_range}
use Rattle.logic.specs.Tables.{step_to, move}
use Rattle.logic.specs.TableFile.{most_rows, rows_at, row_size, step_size, steps_at}
use Rattle.reading.specs.TableReading.{rows_of, steps_of, table_states, table_actions, table_layout, row_place, row_state, row_count, row_first, step_place, step_action, step_target, header_right, steps_right, rows_right, laid_out, table_of}
use Rattle.reading.proofs.TableHeader.{table_layout_fits, header_out}
use Rattle.file_table.specs.Layout.{laid_out_for, counts_right, offsets_right, places_right, step_right, row_right}
use Rattle.file_table.proofs.Laws.{rows_within, laid_out_known, steps_from, move_read, step_to_from, step_to_each, steps_low, steps_ascend}

-- ---- counts_right

module _ (bytes : List ℕ) where
  -- The number of rows is out of range.
  pub rows_out_of_range : (n : ℕ) (b : Bool) → n ≡ rows_of bytes → b ≡ in_range most_rows n → b ≡ false → false ≡ counts_right bytes
  unfolding counts_right
  rows_out_of_range n b e f g = sym (rw (← e, ← f, g))

  -- S is out of range.
  pub states_out_of_range : (n : ℕ) (k : FileLayout) (b : Bool) → n ≡ table_states bytes → k ≡ table_layout bytes → b ≡ in_range k.most n
      → b ≡ false → false ≡ counts_right bytes
  unfolding counts_right
  states_out_of_range n k b e is_k f g = sym (rw (← e, ← is_k, ← f, g, and-false))

  -- Rows and S are in range: A decides.
  pub actions_left : (n m a : ℕ) (k : FileLayout) (b c d : Bool) → n ≡ rows_of bytes → b ≡ in_range most_rows n → b ≡ true
      → m ≡ table_states bytes → k ≡ table_layout bytes → c ≡ in_range k.most m → c ≡ true → a ≡ table_actions bytes
      → d ≡ in_range most_actions a → d ≡ counts_right bytes
  unfolding counts_right
  actions_left n m a k b c d e f g h is_k i j l q = q ∙ sym (rw (← e, ← f, g, ← h, ← is_k, ← i, j, ← l))

-- ---- offsets_right, places_right

-- Where the steps begin.
steps_place : (bytes : List ℕ) (n p : ℕ) → n ≡ rows_of bytes → p ≡ row_place bytes n → steps_at (table_layout bytes) (rows_of bytes) ≡ p
unfolding row_place steps_at
steps_place bytes n p is-n is_p = sym (rw is-n at is_p)

module _ (bytes : List ℕ) where
  -- The offset of rows is wrong.
  pub rows_offset_wrong : (o : ℕ) → o ≡ number_at 2 bytes 4 → (o ≡ rows_at → ⊥) → false ≡ offsets_right bytes
  unfolding offsets_right
  rows_offset_wrong o e h = sym (rw (← e, ne_eqb o rows_at h))

  -- It is right: the offset of steps decides.
  pub steps_offset_left : (o q n p : ℕ) → o ≡ number_at 2 bytes 4 → o ≡ rows_at → q ≡ number_at 2 bytes 6 → p ≡ row_place bytes n
      → n ≡ rows_of bytes → eqb q p ≡ offsets_right bytes
  unfolding offsets_right
  steps_offset_left o q n p e h f is_p is-n = sym (rw (← e, eq-eqb o rows_at h, ← f, steps_place bytes n p is-n is_p))

  -- An offset is wrong.
  pub offsets_wrong : (b : Bool) → b ≡ offsets_right bytes → b ≡ false → false ≡ places_right bytes
  unfolding places_right
  offsets_wrong b e f = sym (rw (← e, f))

  -- Both offsets are right: the length decides.
  pub size_left : (b : Bool) (n p m : ℕ) → b ≡ offsets_right bytes → b ≡ true → p ≡ row_place bytes n → n ≡ rows_of bytes
      → m ≡ steps_of bytes → eqb (length bytes) (p + step_size * m) ≡ places_right bytes
  unfolding places_right step_place
  size_left b n p m e f is_p is-n x = sym (rw (← e, f, steps_place bytes n p is-n is_p, ← x))

-- The places that the header gives fit.
module _ (bytes : List ℕ) (small : (p : ℕ) → Fits w8 (get_or bytes p 0)) where
  -- The bytes of all steps.
  pub steps_fit : (m : ℕ) → m ≡ steps_of bytes → Fits w64 (step_size * m)
  unfolding number_at step_size
  steps_fit m e = omega (arith, small 2, small 3)

  -- The place behind the last step.
  pub size_fits : (n p m : ℕ) → n ≡ rows_of bytes → p ≡ row_place bytes n → m ≡ steps_of bytes → Fits w64 (p + step_size * m)
  unfolding number_at row_place rows_at row_size step_size
  size_fits n p m e is_p f =
      let few : n ≤ 65536 = omega (arith, small 0, small 1) in
      let size : (table_layout bytes).width + 3 ≤ 5 = omega (arith, (table_layout_fits bytes).few_bytes) in
      let rows : ((table_layout bytes).width + 3) * n ≤ 5 * 65536 = mul-le-mul size few in
      omega (arith, small 2, small 3)

-- ---- header_right

-- The header's tests in the order in which the reader makes them.
header_tests : (bytes : List ℕ) → header_right bytes ≡ (leb rows_at (length bytes) && counts_right bytes && places_right bytes)
unfolding header_right counts_right places_right offsets_right
header_tests bytes =
    reorder (leb rows_at (length bytes)) (in_range most_rows (rows_of bytes)) (eqb (number_at 2 bytes 4) rows_at)
    (eqb (number_at 2 bytes 6) (steps_at (table_layout bytes) (rows_of bytes))) (in_range (table_layout bytes).most (table_states bytes))
    (in_range most_actions (table_actions bytes)) (eqb (length bytes) (step_place bytes (steps_of bytes)))
  where
    reorder : (a b c d e f g : Bool) → (a && b && c && d && e && f && g) ≡ (a && (b && e && f) && (c && d && g))
    reorder false b c d e f g = refl
    reorder true false c d e f g = refl
    reorder true true c d false f g = ap (λ x. x && f && g) (and-false (c && d))
    reorder true true c d true false g = ap (λ x. x && g) (and-false (c && d && true))
    reorder true true c d true true g = ap (λ x. x && true && g) (and-true (c && d)) ∙ ap (λ x. x && g) (and-true (c && d))

module _ (bytes : List ℕ) where
  -- The header is not whole.
  pub header_short : length bytes < rows_at → false ≡ header_right bytes
  header_short h = sym (rw (header_tests bytes, lt-leb rows_at (length bytes) h))

  -- A count is out of range.
  pub counts_wrong : (b : Bool) → b ≡ counts_right bytes → b ≡ false → false ≡ header_right bytes
  counts_wrong b e f = sym (rw (header_tests bytes, ← e, f, and-false))

  -- The header is whole and its counts are in range: the places decide.
  pub places_left : (b c : Bool) → rows_at ≤ length bytes → b ≡ counts_right bytes → b ≡ true → c ≡ places_right bytes → c ≡ header_right bytes
  places_left b c l e f g = g ∙ sym (rw (header_tests bytes, le-leb rows_at (length bytes) l, ← e, f))

-- ---- fields of a step

-- The byte at a step's place is its action.
pub step_action_read : (bytes : List ℕ) (i p : ℕ) → p ≡ step_place bytes i → get_or bytes p 0 ≡ step_action bytes i
unfolding step_action
step_action_read bytes i p e = ap (λ q. get_or bytes q 0) e

-- The number behind it is the target row.
pub step_target_read : (bytes : List ℕ) (i p n : ℕ) → p ≡ step_place bytes i → n ≡ number_at 2 bytes (p + 1) → n ≡ step_target bytes i
unfolding step_target
step_target_read bytes i p n e f = f ∙ ap (λ q. number_at 2 bytes (q + 1)) e

-- ---- step_right

module _ (bytes : List ℕ) (low i a : ℕ) (e : a ≡ step_action bytes i) where
  -- The action comes too early in the row.
  pub step_too_low : a < low → false ≡ step_right bytes low i
  unfolding step_right
  step_too_low h = sym (rw (← e, lt-leb low a h))

  -- The action is none of the table.
  pub step_too_high : (n : ℕ) → n ≡ table_actions bytes → n ≤ a → false ≡ step_right bytes low i
  unfolding step_right
  step_too_high n f h =
      sym (rw (← e, ← f, le-ltb a n h, and-false))

  -- The action is right: the target row decides.
  pub step_target_left : (n t m : ℕ) → low ≤ a → n ≡ table_actions bytes → a < n → t ≡ step_target bytes i → m ≡ rows_of bytes
      → ltb t m ≡ step_right bytes low i
  unfolding step_right
  step_target_left n t m h f g k l = sym (rw (← e, ← f, ← k, ← l, le-leb low a h, lt-ltb a n g))

-- ---- steps_right

-- At step i, with `low` the least action there may be: what is left to test decides about all.
pub record StepsLeft (bytes : List ℕ) (first count end low i : ℕ) : Type 0 where
  pub inside : i ≤ end
  pub same : steps_right bytes low i (end - i) ≡ steps_right bytes 0 first count

-- One step more: the test of the first, and the rest.
steps_cons : (bytes : List ℕ) (low i n : ℕ)
    → steps_right bytes low i (suc n) ≡ (step_right bytes low i && steps_right bytes (step_action bytes i + 1) (i + 1) n)
unfolding steps_right step_right
steps_cons bytes low i n = refl

-- What is left at step i: the test of this step, and what is left behind it.
steps_at_once : (bytes : List ℕ) (low i end : ℕ) → i < end
    → steps_right bytes low i (end - i) ≡ (step_right bytes low i && steps_right bytes (step_action bytes i + 1) (i + 1) (end - (i + 1)))
steps_at_once bytes low i end h = let e : end - i ≡ suc (end - (i + 1)) = omega arith in rw e (steps_cons bytes low i (end - (i + 1)))

-- Before the first step all is left.
pub steps_start : (bytes : List ℕ) (first count : ℕ) → StepsLeft bytes first count (first + count) 0 first
steps_start bytes first count =
    record { inside = omega arith; same = let e : first + count - first ≡ count = omega arith in rw e }

module _ (bytes : List ℕ) (first count end low i : ℕ) (left : StepsLeft bytes first count end low i) where
  -- A step that is not right decides.
  pub steps_stop : (b : Bool) → i < end → b ≡ step_right bytes low i → b ≡ false → false ≡ steps_right bytes 0 first count
  steps_stop b h e f = sym (sym left.same ∙ steps_at_once bytes low i end h ∙ and_fails_left _ (sym e ∙ f))

  -- Past a right step the rest is left.
  pub steps_next : (b : Bool) (a : ℕ) → i < end → b ≡ step_right bytes low i → b ≡ true → a ≡ step_action bytes i
      → StepsLeft bytes first count end (a + 1) (i + 1)
  steps_next b a h e f g =
      record {
        inside = omega arith;
        same = rw g (sym (sym left.same ∙ steps_at_once bytes low i end h ∙ rw (← e, f)));
      }

  -- Past the last step nothing is left.
  pub steps_end : end ≤ i → true ≡ steps_right bytes 0 first count
  unfolding steps_right
  steps_end h = let e : end - i ≡ 0 = omega arith in rw e at left.same

-- The next action has a number: those of right steps are below A.
pub low_fits : (bytes : List ℕ) (low i a : ℕ) (b : Bool) → header_right bytes ≡ true → b ≡ step_right bytes low i → b ≡ true
    → a ≡ step_action bytes i → Fits w64 (a + 1)
unfolding most_actions step_right
low_fits bytes low i a b h e f g =
    let right = sym e ∙ f in
    let low_right = leb low (step_action bytes i) in
    let action_right = ltb (step_action bytes i) (table_actions bytes) in
    let below = and_right low_right action_right (and_left (low_right && action_right) (ltb (step_target bytes i) (rows_of bytes)) right) in
    omega (arith, (header_out bytes h).few_actions, ltb-true (step_action bytes i) (table_actions bytes) below)

-- ---- row_right

module _ (bytes : List ℕ) (first r : ℕ) where
  -- The state is none of the tower.
  pub row_state_high : (t s : ℕ) → t ≡ table_states bytes → s ≡ row_state bytes r → t ≤ s → false ≡ row_right bytes first r
  unfolding row_right
  row_state_high t s e f h = sym (rw (← e, ← f, le-ltb s t h))

  -- The first step is not the one behind those before.
  pub row_not_packed : (i : ℕ) → i ≡ row_first bytes r → (i ≡ first → ⊥) → false ≡ row_right bytes first r
  unfolding row_right
  row_not_packed i e h = sym (rw (← e, ne_eqb i first h, and-false))

  -- State and first step are right: the steps decide.
  pub row_steps_left : (t s i n : ℕ) (b : Bool) → t ≡ table_states bytes → s ≡ row_state bytes r → s < t → i ≡ row_first bytes r → i ≡ first
      → n ≡ row_count bytes r → b ≡ steps_right bytes 0 first n → b ≡ row_right bytes first r
  unfolding row_right
  row_steps_left t s i n b e f h g k l m = m ∙ sym (rw (← e, ← f, ← g, ← l, lt-ltb s t h, eq-eqb i first k))

-- ---- rows_right

-- At row r, with `first` steps before it: what is left to test decides about all.
pub record RowsLeft (bytes : List ℕ) (first r : ℕ) : Type 0 where
  pub inside : r ≤ rows_of bytes
  pub within : first ≤ steps_of bytes
  pub same : rows_right bytes first r (rows_of bytes - r) ≡ rows_right bytes 0 0 (rows_of bytes)

-- One row more: the test of the first, and the rest.
rows_cons : (bytes : List ℕ) (first r n : ℕ)
    → rows_right bytes first r (suc n) ≡ (row_right bytes first r && rows_right bytes (first + row_count bytes r) (r + 1) n)
unfolding rows_right row_right
rows_cons bytes first r n = refl

-- What is left at row r: the test of this row, and what is left behind it.
rows_at_once : (bytes : List ℕ) (first r : ℕ) → r < rows_of bytes
    → rows_right bytes first r (rows_of bytes - r)
    ≡ (row_right bytes first r && rows_right bytes (first + row_count bytes r) (r + 1) (rows_of bytes - (r + 1)))
rows_at_once bytes first r h =
    let e : rows_of bytes - r ≡ suc (rows_of bytes - (r + 1)) = omega arith in rw e (rows_cons bytes first r (rows_of bytes - (r + 1)))

-- Before row 0 all is left.
pub rows_start : (bytes : List ℕ) → RowsLeft bytes 0 0
rows_start bytes = record { inside = omega arith; within = omega arith; same = let e : rows_of bytes - 0 ≡ rows_of bytes = omega arith in rw e }

module _ (bytes : List ℕ) (first r m n : ℕ) (left : RowsLeft bytes first r) (e : n ≡ row_count bytes r) where
  -- A row that has more steps than are left decides.
  pub rows_too_many : (s : ℕ) → s ≡ steps_of bytes → m ≡ rows_of bytes → r < m → s - first < n → false ≡ rows_right bytes 0 0 (rows_of bytes)
  rows_too_many s f g h l =
      let rest = rows_right bytes (first + row_count bytes r) (r + 1) (rows_of bytes - (r + 1)) in
      let within = rows_within bytes (rows_of bytes - (r + 1)) (first + row_count bytes r) (r + 1) in
      let over = false_by rest (λ right. omega (arith, left.within, within right)) in
      sym
      (sym left.same
      ∙ rows_at_once bytes first r (omega arith)
      ∙ and_fails_right (row_right bytes first r) over)

  -- A row that is not right decides.
  pub rows_stop : (b : Bool) → m ≡ rows_of bytes → r < m → b ≡ row_right bytes first r → b ≡ false
      → false ≡ rows_right bytes 0 0 (rows_of bytes)
  rows_stop b g h f l = sym (sym left.same ∙ rows_at_once bytes first r (omega arith) ∙ and_fails_left _ (sym f ∙ l))

  -- Past a right row the rest is left.
  pub rows_next : (s : ℕ) (b : Bool) → s ≡ steps_of bytes → n ≤ s - first → m ≡ rows_of bytes → r < m → b ≡ row_right bytes first r → b ≡ true
      → RowsLeft bytes (first + n) (r + 1)
  rows_next s b k l g h f t =
      record {
        inside = omega arith;
        within = omega (arith, left.within);
        same = rw e (sym (sym left.same ∙ rows_at_once bytes first r (omega arith) ∙ rw (← f, t)));
      }

-- Past the last row the total of the steps decides.
pub rows_end : (bytes : List ℕ) (first r m s : ℕ) → RowsLeft bytes first r → m ≡ rows_of bytes → m ≤ r → s ≡ steps_of bytes
    → eqb first s ≡ rows_right bytes 0 0 (rows_of bytes)
unfolding rows_right
rows_end bytes first r m s left g h k =
    let e : rows_of bytes - r ≡ 0 = omega (arith, left.inside) in rw k (rw e at left.same)

-- ---- laid_out

-- A wrong header decides.
pub header_wrong : (bytes : List ℕ) (b : Bool) → b ≡ header_right bytes → b ≡ false → false ≡ laid_out bytes
unfolding laid_out
header_wrong bytes b e f = sym (rw (← e, f))

-- Behind a right header the rows decide.
pub header_then_rows : (bytes : List ℕ) (b c : Bool) → b ≡ header_right bytes → b ≡ true → c ≡ rows_right bytes 0 0 (rows_of bytes)
    → c ≡ laid_out bytes
unfolding laid_out
header_then_rows bytes b c e f g = g ∙ sym (rw (← e, f))

-- ---- step_to

pub reachable_all : (n a : ℕ) → n ≤ a → n ≡ min n (a + 1)
reachable_all n a h = omega arith

pub reachable_some : (n a : ℕ) → a < n → a + 1 ≡ min n (a + 1)
reachable_some n a h = omega arith

-- The steps of the row, of which `first` is the first, have greater actions from step i on.
pub record GreaterFrom (bytes : List ℕ) (row a first i : ℕ) : Type 0 where
  pub is_first : first ≡ row_first bytes row
  pub inside : row < rows_of bytes
  pub from : first ≤ i
  pub to : i ≤ first + row_count bytes row
  pub last : first + row_count bytes row ≤ steps_of bytes
  pub right : steps_right bytes 0 first (row_count bytes row) ≡ true
  pub greater : (j : ℕ) → i ≤ j → j < first + row_count bytes row → a < step_action bytes j

module _ (bytes : List ℕ) (row a first n m : ℕ) (out : laid_out bytes ≡ true) (inside : row < rows_of bytes)
    (is_first : first ≡ row_first bytes row) (is-n : n ≡ row_count bytes row) (is_m : m ≡ min n (a + 1)) where
  row_steps : steps_right bytes 0 first (row_count bytes row) ≡ true
  row_steps = rw is_first ((laid_out_known bytes out).row row inside).steps

  -- At first those behind all that may have the action.
  pub greater_start : GreaterFrom bytes row a first (first + m)
  greater_start =
      record {
        is_first = is_first;
        inside = inside;
        from = omega arith;
        to = omega arith;
        last = omega (arith, ((laid_out_known bytes out).row row inside).last);
        right = row_steps;
        greater = λ j l g. omega (arith, steps_low bytes (row_count bytes row) 0 first row_steps j (omega arith) g);
      }

  -- Their number fits.
  pub row_end_fits : length bytes < 2 ^ 64 → Fits w64 (first + m)
  unfolding step_place step_size
  row_end_fits g = omega (arith, ((laid_out_known bytes out).row row inside).last, (laid_out_known bytes out).header.size)

module _ (bytes : List ℕ) (row a first i : ℕ) (g : GreaterFrom bytes row a first i) where
  pub step_inside : first < i → i - 1 < steps_of bytes
  step_inside l = omega (arith, g.to, g.last)

  moves_by : move (table_of bytes) row a ≡ step_to (steps_from bytes first (row_count bytes row)) a
  moves_by = rw g.is_first (move_read bytes row a g.inside)

  -- A step with the action leads to its target row.
  pub step_found : (x t : ℕ) → first < i → x ≡ step_action bytes (i - 1) → x ≡ a → t ≡ step_target bytes (i - 1)
      → Some t ≡ (move (table_of bytes) row a)
  step_found x t l is_x e is_t =
      let each = (step_to_each bytes (row_count bytes row) 0 first g.right (i - 1) (omega arith) (omega (arith, g.to))).1 in
      rw (moves_by, ← e, is_x, each, is_t)

  -- Where no step has the action it is not allowed.
  none_has : ((j : ℕ) → first ≤ j → j < first + row_count bytes row → step_action bytes j ≡ a → ⊥)
      → None ≡ (move (table_of bytes) row a)
  none_has none_is = rw moves_by (go (step_to (steps_from bytes first (row_count bytes row)) a) refl)
    where
      go : (o : Option ℕ) → step_to (steps_from bytes first (row_count bytes row)) a ≡ o → None ≡ o
      go None e = refl
      go (Some t) e =
          let s = step_to_from bytes (row_count bytes row) first a t e in
          absurd (none_is s.at s.from s.below s.action)

  -- what the step before step i and those from step i on say of step j
  at_last : (P : ℕ → Type 0) → P (i - 1) → ((j : ℕ) → i ≤ j → P j) → (j : ℕ) → i - 1 ≤ j → P j
  at_last P here rest j l =
      elim (ℕ_discrete j (i - 1)) [ yes same ↦ rw same here | no other ↦ rest j (omega arith) ]

  -- A step with a lower action: those before it have lower ones still.
  pub step_lower : (x : ℕ) → first < i → x ≡ step_action bytes (i - 1) → x < a → None ≡ (move (table_of bytes) row a)
  step_lower x l is_x lower =
      none_has (λ j from to e.
      elim (dec_lt j (i - 1)) [
        | yes d ↦ omega (arith, steps_ascend bytes (row_count bytes row) 0 first g.right j (i - 1) from d (omega (arith, g.to)))
        | no d ↦
            at_last (λ k. k < first + row_count bytes row → step_action bytes k ≡ a → ⊥) (λ _ here. omega arith)
            (λ k above below here. omega (arith, g.greater k above below)) j (omega arith) to e
      ])

  -- A step with a greater action is passed over.
  pub step_greater : (x : ℕ) → first < i → x ≡ step_action bytes (i - 1) → (x ≡ a → ⊥) → a ≤ x → GreaterFrom bytes row a first (i - 1)
  step_greater x l is_x other least =
      record {
        is_first = g.is_first;
        inside = g.inside;
        from = omega arith;
        to = omega (arith, g.to);
        last = g.last;
        right = g.right;
        greater = at_last (λ j. j < first + row_count bytes row → a < step_action bytes j) (λ _. omega arith) g.greater;
      }

  -- Past the first step the action is not allowed.
  pub steps_past : i ≤ first → None ≡ (move (table_of bytes) row a)
  steps_past l = none_has (λ j from to e. omega (arith, g.greater j (omega arith) to))

-- ---- laid out for a tower

pub not_laid_for : (bytes : List ℕ) (s a : ℕ) (b : Bool) → b ≡ laid_out bytes → b ≡ false → false ≡ laid_out_for bytes s a
unfolding laid_out_for
not_laid_for bytes s a b e f = sym (and_fails_left (eqb (table_states bytes) s && eqb (table_actions bytes) a) (sym e ∙ f))

pub other_states : (bytes : List ℕ) (s a n : ℕ) → n ≡ table_states bytes → (n ≡ s → ⊥) → false ≡ laid_out_for bytes s a
unfolding laid_out_for
other_states bytes s a n e f =
    sym (and_fails_right (laid_out bytes)
    (and_fails_left (eqb (table_actions bytes) a) (ap (λ z. eqb z s) (sym e) ∙ ne_eqb n s f)))

pub other_actions : (bytes : List ℕ) (s a n m : ℕ) (b : Bool) → b ≡ laid_out bytes → b ≡ true → n ≡ table_states bytes → n ≡ s
    → m ≡ table_actions bytes → eqb m a ≡ laid_out_for bytes s a
unfolding laid_out_for
other_actions bytes s a n m b e f g h k =
    sym (rw (← e, f, ← g, ← k, eq-eqb n s h))
