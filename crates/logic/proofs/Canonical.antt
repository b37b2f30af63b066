-- Tables as such: where their runs lead, that first_met rows are reached, that a table in canonical form is fixed by its runs, and that none
-- with those runs has fewer rows.
use Prim.Native.Nat.{ℕ, suc, ◌≤◌, ◌<◌}
use native.Mathlib.Omega.{arith}
use native.Mathlib.Decide.{ℕ_discrete}
use mathlib.Core.Path.{◌≡◌, refl, sym, ◌∙◌, ap}
use mathlib.Core.Logic.{◌↔◌, ◌⊎◌, inl, inr}
use Rattle.std.specs.Prelude.{Option, None, Some}
use mathlib.Core.List.Memᴰ
use mathlib.Core.List.{List, [], ◌∷◌, ◌++◌, Memᴰ, append_assoc}
use lib.ListN.{length, length-append}
use lib.Seq.{get_or_at}
use borrow.Author.Tests.{eq-eqb, ne_eqb}
use Rattle.base.proofs.Pigeonhole.{pigeonhole}
use Rattle.logic.specs.Tower.{Tower}
use Rattle.logic.specs.Book.{Book}
use Rattle.logic.specs.Runs.{leads, IsRun}
use Rattle.logic.specs.Tables.{Step, Row, Table, row_at, step_to, move, AllowsFrom, Allows, Once, IsTable, GoodStart, StepsRight, Good, GoodAllow, OneRow, Ascending, Meets, FirstMet, IsMade}
use Rattle.logic.proofs.Leads.{leads_nil, leads_out, leads_in, append_in, append_out, leads_one, snoc_in}

-- ---- steps

-- Steps with equal action and target are equal.
pub step_equal : (s t : Step) → s.action ≡ t.action → s.target ≡ t.target → s ≡ t
step_equal s t e f = ap (λ a. record { action = a; target = s.target }) e ∙ ap (λ b. record { action = t.action; target = b }) f

-- Rows with equal state and steps are equal.
pub row_equal : (s t : Row) → s.state ≡ t.state → s.steps ≡ t.steps → s ≡ t
row_equal s t e f = ap (λ a. record { state = a; steps = s.steps }) e ∙ ap (λ b. record { state = t.state; steps = b }) f

no_step : (a p : ℕ) → step_to [] a ≡ Some p → ⊥
unfolding step_to
no_step a p e = let z : ◌≡◌ {A = ℕ} 0 1 = cc in omega arith

-- An action finds the first step that has it.
pub step_here : (s : Step) (steps : List Step) (a : ℕ) → s.action ≡ a → step_to (s ∷ steps) a ≡ Some s.target
unfolding step_to
step_here s steps a e = rw (eq-eqb _ _ e)

-- An action that the first step has not is looked for in the others.
pub step_past : (s : Step) (steps : List Step) (a : ℕ) → (s.action ≡ a → ⊥) → step_to (s ∷ steps) a ≡ step_to steps a
unfolding step_to
step_past s steps a n = rw (ne_eqb _ _ n)

-- The steps behind the first ascend too.
pub ascending_rest : (s : Step) (steps : List Step) → Ascending (s ∷ steps) → Ascending steps
unfolding Ascending
ascending_rest s [] h = tt
ascending_rest s (t ∷ steps) h = h.1

-- In ascending steps every action behind the first step is above it.
pub ascending_above : (s : Step) (steps : List Step) (a p : ℕ) → Ascending (s ∷ steps) → step_to steps a ≡ Some p → s.action < a
unfolding Ascending
ascending_above s [] a p h e = absurd (no_step a p e)
ascending_above s (t ∷ steps) a p h e = go (ℕ_discrete t.action a) (ascending_above t steps a p h.1)
  where
    go : Dec (t.action ≡ a) → (step_to steps a ≡ Some p → t.action < a) → s.action < a
    go (yes f) ih = omega (arith, h.0)
    go (no n) ih = omega (arith, h.0, ih (sym (step_past t steps a n) ∙ e))

-- In ascending steps every step behind the first has a higher action.
pub ascending_mem : (s t : Step) (steps : List Step) → Ascending (s ∷ steps) → Memᴰ t steps → s.action < t.action
unfolding Ascending
ascending_mem s t [] h i = absurd (Memᴰ.not-nil i)
ascending_mem s t (u ∷ steps) h i = go (Memᴰ.cases_cons i) (ascending_mem u t steps h.1)
  where
    go : (t ≡ u) ⊎ Memᴰ t steps → (Memᴰ t steps → u.action < t.action) → s.action < t.action
    go (inl e) ih = rw e h.0
    go (inr k) ih = omega (arith, h.0, ih k)

-- What an action leads to is the target of a step with that action.
pub step_member : (steps : List Step) (a p : ℕ) → step_to steps a ≡ Some p
    → (s : Step) × Memᴰ s steps × (s.action ≡ a) × (s.target ≡ p)
step_member [] a p e = absurd (no_step a p e)
step_member (s ∷ steps) a p e = go (ℕ_discrete s.action a) (step_member steps a p)
  where
    go : Dec (s.action ≡ a) → (step_to steps a ≡ Some p → (t : Step) × Memᴰ t steps × (t.action ≡ a) × (t.target ≡ p))
        → (t : Step) × Memᴰ t (s ∷ steps) × (t.action ≡ a) × (t.target ≡ p)
    go (yes f) ih = (s, Memᴰ.head refl, f, cc (e, step_here s steps a f))
    go (no n) ih = let (t, i, f, g) = ih (sym (step_past s steps a n) ∙ e) in (t, Memᴰ.tail i, f, g)

-- Ascending actions are distinct.
pub ascending_once : (steps : List Step) → Ascending steps → Once steps
unfolding Once
ascending_once [] h = tt
ascending_once (s ∷ steps) h = (go (step_to steps s.action) refl, ascending_once steps (ascending_rest s steps h))
  where
    go : (o : Option ℕ) → step_to steps s.action ≡ o → step_to steps s.action ≡ None
    go None e = e
    go (Some p) e = absurd (omega (arith, ascending_above s steps s.action p h e))

-- Where actions are distinct, every step is found by its action.
pub step_found : (s : Step) (steps : List Step) → Once steps → Memᴰ s steps → step_to steps s.action ≡ Some s.target
unfolding Once
step_found s [] o m = absurd (Memᴰ.not-nil m)
step_found s (t ∷ steps) o m = go (Memᴰ.cases_cons m) (step_found s steps o.1) (ℕ_discrete t.action s.action)
  where
    go : (s ≡ t) ⊎ Memᴰ s steps → (Memᴰ s steps → step_to steps s.action ≡ Some s.target) → Dec (t.action ≡ s.action)
        → step_to (t ∷ steps) s.action ≡ Some s.target
    go (inl e) ih d = step_here t steps s.action (ap (λ x. x.action) (sym e)) ∙ ap (λ x. Some x.target) (sym e)
    go (inr k) ih (yes f) = let g = ih k in let h = o.0 in let z : ◌≡◌ {A = ℕ} 0 1 = cc in absurd (omega arith)
    go (inr k) ih (no n) = step_past t steps s.action n ∙ ih k

-- ---- where runs lead

-- The row behind the rows before it.
pub row_behind : (before : List Row) (row : Row) (rows : List Row) (r : ℕ) → length before ≡ r → row_at (before ++ row ∷ rows) r ≡ row
unfolding row_at
row_behind before row rows r e = get_or_at before row rows _ r e

-- Runs of a table lead to its rows.
pub leads_inside : (table : Table) → IsTable table → (r s : ℕ) (w : List ℕ) → r < length table → leads (move table) r w ≡ Some s
    → s < length table
leads_inside table is r s [] lt e = let f : Some s ≡ Some r = sym e ∙ leads_nil (move table) r in let g : s ≡ r = cc in omega arith
leads_inside table is r s (a ∷ w) lt e =
    let (t, f, g) = leads_out (move table) r s a w e in leads_inside table is t s w (is.targets r a t lt f) g

-- A table that follows a tower: it begins where the tower does, and each of its steps is the tower's.
pub record FollowsRuns (tower : Tower) (table : Table) : Type 0 where
  pub is_table : IsTable table
  pub start : GoodStart tower table
  pub steps : (r : ℕ) → r < length table → StepsRight tower table r

-- Where a table follows a tower, a run of the one leads to the state of the row to which it leads in the other.
pub follows_leads : (tower : Tower) (table : Table) → FollowsRuns tower table → (r s : ℕ) (w : List ℕ) → r < length table
    → leads (move table) r w ≡ Some s → leads tower.target (row_at table r).state w ≡ Some (row_at table s).state
unfolding StepsRight
follows_leads tower table f r s [] lt e =
    let g : Some s ≡ Some r = sym e ∙ leads_nil (move table) r in
    let h : r ≡ s = cc in leads_nil tower.target (row_at table r).state ∙ ap (λ x. Some (row_at table x).state) h
follows_leads tower table f r s (a ∷ w) lt e =
    let (t, g, h) = leads_out (move table) r s a w e in
    leads_in tower.target (row_at table r).state (row_at table t).state (row_at table s).state a w (f.steps r lt a t g)
    (follows_leads tower table f t s w (f.is_table.targets r a t lt g) h)

-- What an allowed run of a table that follows the tower leads to.
pub record Arrives (tower : Tower) (table : Table) (w : List ℕ) (r : ℕ) : Type 0 where
  pub row : r < length table
  pub state : leads tower.target tower.start w ≡ Some (row_at table r).state

-- A run that leads to row r of the table leads to the state of row r in the tower.
pub arrives : (tower : Tower) (table : Table) → FollowsRuns tower table → (w : List ℕ) (r : ℕ) → leads (move table) 0 w ≡ Some r
    → Arrives tower table w r
unfolding GoodStart
arrives tower table f w r e =
    record {
      row = leads_inside table f.is_table 0 r w f.is_table.some_row e;
      state = rw (← f.start) (follows_leads tower table f 0 r w f.is_table.some_row e);
    }

-- A good table follows its tower.
pub good_follows : (tower : Tower) (book : Book) (table : Table) → Good tower book table → FollowsRuns tower table
good_follows tower book table g = record { is_table = g.is_table; start = g.a; steps = g.c }

-- In a good table an allowed run leads to a row, and in the tower to the state of that row.
pub good_arrives : (tower : Tower) (book : Book) (table : Table) → Good tower book table → (w : List ℕ) (r : ℕ)
    → leads (move table) 0 w ≡ Some r → Arrives tower table w r
good_arrives tower book table g = arrives tower table (good_follows tower book table g)

-- What a good table allows is a run of the tower.
pub good_run : (tower : Tower) (book : Book) (table : Table) → Good tower book table → (w : List ℕ) → Allows table w → IsRun tower w
unfolding Allows AllowsFrom IsRun
good_run tower book table g w (r, e) = ((row_at table r).state, (good_arrives tower book table g w r e).state)

-- ---- first_met rows are reached

-- Some run leads to row r.
abbrev pub Reached : Table → ℕ → Type 0
Reached table r = (w : List ℕ) × (leads (move table) 0 w ≡ Some r)

-- What holds below m and at m holds below m + 1.
pub below_suc : (P : ℕ → Type 0) (m : ℕ) → ((k : ℕ) → k < m → P k) → P m → (k : ℕ) → k < suc m → P k
below_suc P m h top k lt = go (ℕ_discrete m k)
  where
    go : Dec (m ≡ k) → P k
    go (yes e) = rw e at top
    go (no n) = h k (omega arith)

-- What holds of the rows met before some steps and of the targets of those holds of the rows met after them.
pub meets_all : (P : ℕ → Type 0) (steps : List Step) (m n : ℕ) → Meets m steps n → ((k : ℕ) → k < m → P k)
    → ((s : Step) → Memᴰ s steps → P s.target) → (k : ℕ) → k < n → P k
unfolding Meets
meets_all P [] m n e h each k lt = h k (omega arith)
meets_all P (s ∷ steps) m n (inl (lt, rest)) h each k l =
    meets_all P steps m n rest h (λ t i. each t (Memᴰ.tail i)) k l
meets_all P (s ∷ steps) m n (inr (e, rest)) h each k l =
    meets_all P steps (suc m) n rest (below_suc P m h (rw e at (each s (Memᴰ.head refl)))) (λ t i. each t (Memᴰ.tail i)) k l

reached_from : (table : Table) → IsTable table → (before rows : List Row) (r m : ℕ) → table ≡ before ++ rows → length before ≡ r
    → FirstMet r m rows → ((k : ℕ) → k < m → Reached table k) → (k : ℕ) → k < length table → Reached table k
unfolding FirstMet move
reached_from table is before [] r m e l h each k lt = each k (omega (arith, length-append before [], ap length e))
reached_from table is before (row ∷ rows) r m e l h each k lt =
    reached_from table is (before ++ (row ∷ [])) rows (suc r) h.1.0 (e ∙ sym (append_assoc before (row ∷ []) rows))
    (omega (arith, length-append before (row ∷ []))) h.1.2
    (meets_all (Reached table) row.steps m h.1.0 h.1.1 each next_row) k lt
  where
    here : row_at table r ≡ row
    here = ap (λ t. row_at t r) e ∙ row_behind before row rows r l

    inside : r < length table
    inside = omega (arith, length-append before (row ∷ rows), ap length e)

    next_row : (s : Step) → Memᴰ s row.steps → Reached table s.target
    next_row s i =
        let (w, to) = each r h.0 in
        let once : Once row.steps = rw here at (is.once r inside) in
        (w ++ (s.action ∷ []), snoc_in (move table) 0 r s.target w s.action to (rw here (step_found s row.steps once i)))

-- Every row of a table whose rows are numbered as first met is reached.
pub first_met_reached : (table : Table) → IsTable table → FirstMet 0 1 table → (r : ℕ) → r < length table → Reached table r
first_met_reached table is h = reached_from table is [] table 0 1 refl refl h start
  where
    start : (k : ℕ) → k < 1 → Reached table k
    start k lt = let e : 0 ≡ k = omega arith in ([], leads_nil (move table) 0 ∙ ap {B = Option ℕ} Some e)

-- ---- alike rows of two tables

-- Row r of the one table and row s of the other have equal state and equal allowed runs onward.
pub record Alike (table : Table) (r : ℕ) (other : Table) (s : ℕ) : Type 0 where
  pub row : r < length table
  pub other_row : s < length other
  pub state : (row_at table r).state ≡ (row_at other s).state
  pub runs : (w : List ℕ) → AllowsFrom table r w ↔ AllowsFrom other s w

-- Two tables allow the same runs.
abbrev pub SameRuns : Table → Table → Type 0
SameRuns table other = (w : List ℕ) → Allows table w ↔ Allows other w

-- Rows to which one run leads, in two tables that follow one tower and allow the same runs, are alike.
pub met_alike : (tower : Tower) (table other : Table) → FollowsRuns tower table → FollowsRuns tower other → SameRuns table other
    → (w : List ℕ) (r s : ℕ) → leads (move table) 0 w ≡ Some r → leads (move other) 0 w ≡ Some s → Alike table r other s
unfolding Allows AllowsFrom
met_alike tower table other f g same w r s e h =
    record {
      row = (arrives tower table f w r e).row;
      other_row = (arrives tower other g w s h).row;
      state = states (arrives tower table f w r e).state (arrives tower other g w s h).state;
      runs = λ u. (onward table other r s (λ v. (same v).0) e h u, onward other table s r (λ v. (same v).1) h e u);
    }
  where
    states : {x y : ℕ} → leads tower.target tower.start w ≡ Some x → leads tower.target tower.start w ≡ Some y → x ≡ y
    states a b = cc

    onward : (t u : Table) (p q : ℕ) → ((v : List ℕ) → Allows t v → Allows u v) → leads (move t) 0 w ≡ Some p → leads (move u) 0 w ≡ Some q
        → (v : List ℕ) → AllowsFrom t p v → AllowsFrom u q v
    onward t u p q give a b v (x, c) =
        let (y, d) = give (w ++ v) (x, append_in (move t) 0 p x w v a c) in
        let (z, i, j) = append_out (move u) 0 y w v d in
        let k : z ≡ q = cc in (y, rw k at j)

-- A step of a row is matched by one of any row that is alike, and leads to alike rows.
pub alike_step : (tower : Tower) (table other : Table) → FollowsRuns tower table → FollowsRuns tower other → (r s a p : ℕ)
    → Alike table r other s → move table r a ≡ Some p → (q : ℕ) × (move other s a ≡ Some q) × Alike table p other q
unfolding AllowsFrom StepsRight
alike_step tower table other f g r s a p l e = (q, to, found)
  where
    there : AllowsFrom other s (a ∷ [])
    there = (l.runs (a ∷ [])).0 (p, leads_one (move table) r a ∙ e)

    q : ℕ
    q = there.0

    to : move other s a ≡ Some q
    to = sym (leads_one (move other) s a) ∙ there.1

    target : tower.target (row_at table r).state a ≡ Some (row_at table p).state
    target = f.steps r l.row a p e

    other_target : tower.target (row_at table r).state a ≡ Some (row_at other q).state
    other_target = rw l.state (g.steps s l.other_row a q to)

    onward : (t u : Table) (i j k m : ℕ) → ((v : List ℕ) → AllowsFrom t i v → AllowsFrom u j v) → move t i a ≡ Some k → move u j a ≡ Some m
        → (v : List ℕ) → AllowsFrom t k v → AllowsFrom u m v
    onward t u i j k m give b c v (x, d) =
        let (y, h) = give (a ∷ v) (x, leads_in (move t) i k x a v b d) in
        let (z, n, o) = leads_out (move u) j y a v h in
        let same : z ≡ m = cc in (y, rw same at o)

    found : Alike table p other q
    found =
        record {
          row = f.is_table.targets r a p l.row e;
          other_row = g.is_table.targets s a q l.other_row to;
          state = cc (target, other_target);
          runs = λ w.
              (onward table other r s p q (λ v. (l.runs v).0) e to w, onward other table s r q p (λ v. (l.runs v).1) to e w);
        }

-- Alike the other way round.
pub alike_turned : (table other : Table) (r s : ℕ) → Alike table r other s → Alike other s table r
alike_turned table other r s l =
    record { row = l.other_row; other_row = l.row; state = sym l.state; runs = λ w. ((l.runs w).1, (l.runs w).0) }

-- ---- canonical tables

-- A table in canonical form: it follows the tower, no two of its rows are one row, its actions ascend, and its rows are numbered as first met.
pub record Canonical (tower : Tower) (table : Table) : Type 0 where
  pub follows : FollowsRuns tower table
  pub apart : (r s : ℕ) → r < length table → s < length table → OneRow table r s → r ≡ s
  pub ascending : (r : ℕ) → r < length table → Ascending (row_at table r).steps
  pub first_met : FirstMet 0 1 table

-- The made table is in canonical form.
pub made_canonical : (tower : Tower) (book : Book) (table : Table) → IsMade tower book table → Canonical tower table
made_canonical tower book table m =
    record { follows = good_follows tower book table m.good; apart = m.apart; ascending = m.ascending; first_met = m.first_met }

-- At most one row of a canonical table is alike to a given row.
pub alike_one : (tower : Tower) (table other : Table) → Canonical tower table → (r p s : ℕ) → Alike table r other s → Alike table p other s
    → r ≡ p
alike_one tower table other c r p s l k =
    c.apart r p l.row k.row (record {
      state = l.state ∙ sym k.state;
      runs = λ w. (λ x. (k.runs w).1 ((l.runs w).0 x), λ x. (l.runs w).1 ((k.runs w).0 x));
    })

-- Each action has a step in both lists or in none, and the targets are linked.
record Paired (L : ℕ → ℕ → Type 0) (xs ys : List Step) : Type 0 where
  there : (a p : ℕ) → step_to xs a ≡ Some p → (q : ℕ) × (step_to ys a ≡ Some q) × L p q
  back : (a q : ℕ) → step_to ys a ≡ Some q → (p : ℕ) × (step_to xs a ≡ Some p) × L p q

-- A link that a row has with at most one on each side.
record OneToOne (L : ℕ → ℕ → Type 0) : Type 0 where
  left : (p q r : ℕ) → L p r → L q r → p ≡ q
  right : (p q r : ℕ) → L r p → L r q → p ≡ q

-- The same steps, the same number of rows met, and each of those linked to itself.
record SameSteps (L : ℕ → ℕ → Type 0) (xs ys : List Step) (m n : ℕ) : Type 0 where
  same : xs ≡ ys
  met : m ≡ n
  linked : (k : ℕ) → k < m → L k k

-- In ascending steps no action is below the first.
first_lowest : (s : Step) (steps : List Step) (a p : ℕ) → Ascending (s ∷ steps) → step_to (s ∷ steps) a ≡ Some p → s.action ≤ a
first_lowest s steps a p h e = go (ℕ_discrete s.action a)
  where
    go : Dec (s.action ≡ a) → s.action ≤ a
    go (yes f) = omega arith
    go (no n) = omega (arith, ascending_above s steps a p h (sym (step_past s steps a n) ∙ e))

module _ (L : ℕ → ℕ → Type 0) where
  paired_heads : (s t : Step) (xs ys : List Step) → Ascending (s ∷ xs) → Ascending (t ∷ ys) → Paired L (s ∷ xs) (t ∷ ys)
      → (s.action ≡ t.action) × L s.target t.target
  paired_heads s t xs ys up ups p = (sym equal, rw same at there.2)
    where
      there : (q : ℕ) × (step_to (t ∷ ys) s.action ≡ Some q) × L s.target q
      there = p.there s.action s.target (step_here s xs s.action refl)

      back : (q : ℕ) × (step_to (s ∷ xs) t.action ≡ Some q) × L q t.target
      back = p.back t.action t.target (step_here t ys t.action refl)

      equal : t.action ≡ s.action
      equal =
          omega (arith, first_lowest t ys s.action there.0 ups there.1, first_lowest s xs t.action back.0 up back.1)

      same : there.0 ≡ t.target
      same = cc (there.1, step_here t ys s.action equal)

  paired_rests : (s t : Step) (xs ys : List Step) → Ascending (s ∷ xs) → Ascending (t ∷ ys) → s.action ≡ t.action
      → Paired L (s ∷ xs) (t ∷ ys) → Paired L xs ys
  paired_rests s t xs ys up ups e p =
      record {
        there = λ a i f.
            let above = ascending_above s xs a i up f in
            let (q, g, l) = p.there a i (step_past s xs a (λ x. omega arith) ∙ f) in
            (q, sym (step_past t ys a (λ x. omega arith)) ∙ g, l);
        back = λ a i f.
            let above = ascending_above t ys a i ups f in
            let (q, g, l) = p.back a i (step_past t ys a (λ x. omega arith) ∙ f) in
            (q, sym (step_past s xs a (λ x. omega arith)) ∙ g, l);
      }

  one_more : (s t : Step) (xs ys : List Step) (n k : ℕ) → s.action ≡ t.action → s.target ≡ t.target → SameSteps L xs ys n k
      → SameSteps L (s ∷ xs) (t ∷ ys) n k
  one_more s t xs ys n k e f h =
      record { same = cc (step_equal s t e f, h.same); met = h.met; linked = h.linked }

  same_steps : OneToOne L → (xs ys : List Step) (m n k : ℕ) → Ascending xs → Ascending ys → Meets m xs n → Meets m ys k
      → ((i : ℕ) → i < m → L i i) → Paired L xs ys → SameSteps L xs ys n k
  unfolding Meets
  same_steps one [] [] m n k up ups e f h p = record { same = refl; met = omega arith; linked = λ i lt. h i (omega arith) }
  same_steps one [] (t ∷ ys) m n k up ups e f h p =
      let (q, g, l) = p.back t.action t.target (step_here t ys t.action refl) in absurd (no_step t.action q g)
  same_steps one (s ∷ xs) [] m n k up ups e f h p =
      let (q, g, l) = p.there s.action s.target (step_here s xs s.action refl) in absurd (no_step s.action q g)
  same_steps one (s ∷ xs) (t ∷ ys) m n k up ups e f h p =
      go e f
      (λ i. same_steps one xs ys i n k (ascending_rest s xs up) (ascending_rest t ys ups))
    where
      heads : (s.action ≡ t.action) × L s.target t.target
      heads = paired_heads s t xs ys up ups p

      rests : Paired L xs ys
      rests = paired_rests s t xs ys up ups heads.0 p

      go : ((s.target < m) × Meets m xs n) ⊎ ((s.target ≡ m) × Meets (suc m) xs n)
          → ((t.target < m) × Meets m ys k) ⊎ ((t.target ≡ m) × Meets (suc m) ys k)
          → ((i : ℕ) → Meets i xs n → Meets i ys k → ((j : ℕ) → j < i → L j j) → Paired L xs ys → SameSteps L xs ys n k)
          → SameSteps L (s ∷ xs) (t ∷ ys) n k
      go (inl (lt, a)) (inl (less, b)) ih =
          one_more s t xs ys n k heads.0 (one.right s.target t.target s.target (h s.target lt) heads.1) (ih m a b h rests)
      go (inl (lt, a)) (inr (i, b)) ih =
          absurd (omega (arith, one.right s.target t.target s.target (h s.target lt) heads.1))
      go (inr (i, a)) (inl (lt, b)) ih =
          absurd (omega (arith, one.left s.target t.target t.target heads.1 (h t.target lt)))
      go (inr (i, a)) (inr (j, b)) ih =
          one_more s t xs ys n k heads.0 (i ∙ sym j)
          (ih (suc m) a b (below_suc (λ x. L x x) m h (rw (i, j) at heads.1)) rests)

rows_paired : (tower : Tower) (table other : Table) → FollowsRuns tower table → FollowsRuns tower other → (r : ℕ) → Alike table r other r
    → Paired (λ p q. Alike table p other q) (row_at table r).steps (row_at other r).steps
unfolding move
rows_paired tower table other f g r l =
    record {
      there = λ a p e. alike_step tower table other f g r r a p l e;
      back = λ a q e.
          let (p, h, k) = alike_step tower other table g f r r a q (alike_turned table other r r l) e in
          (p, h, alike_turned other table q p k);
    }

alike_one_to_one : (tower : Tower) (table other : Table) → Canonical tower table → Canonical tower other
    → OneToOne (λ p q. Alike table p other q)
alike_one_to_one tower table other c d =
    record {
      left = λ p q r. alike_one tower table other c p q r;
      right = λ p q r l k. alike_one tower other table d p q r (alike_turned table other r p l) (alike_turned table other r q k);
    }

same_rows : (tower : Tower) (table other : Table) → Canonical tower table → Canonical tower other → (before above xs ys : List Row) (r m : ℕ)
    → table ≡ before ++ xs → other ≡ above ++ ys → length before ≡ r → length above ≡ r → FirstMet r m xs → FirstMet r m ys
    → ((k : ℕ) → k < m → Alike table k other k) → xs ≡ ys
unfolding FirstMet
same_rows tower table other c d before above [] [] r m e f l k h g each = refl
same_rows tower table other c d before above [] (y ∷ ys) r m e f l k h g each = absurd (omega (arith, g.0))
same_rows tower table other c d before above (x ∷ xs) [] r m e f l k h g each = absurd (omega (arith, h.0))
same_rows tower table other c d before above (x ∷ xs) (y ∷ ys) r m e f l k (lt, (n, h, hs)) (less, (i, g, gs)) each =
    cc (
      row_equal x y state steps.same,
      same_rows tower table other c d (before ++ (x ∷ [])) (above ++ (y ∷ [])) xs ys (suc r) n (e ∙ sym (append_assoc before (x ∷ []) xs))
          (f ∙ sym (append_assoc above (y ∷ []) ys)) (omega (arith, length-append before (x ∷ []))) (omega (arith, length-append above (y ∷ [])))
          hs (rw (← steps.met) at gs) steps.linked,
    )
  where
    alike : Alike table r other r
    alike = each r lt

    here : row_at table r ≡ x
    here = ap (λ t. row_at t r) e ∙ row_behind before x xs r l

    there : row_at other r ≡ y
    there = ap (λ t. row_at t r) f ∙ row_behind above y ys r k

    state : x.state ≡ y.state
    state = cc (alike.state, here, there)

    steps : SameSteps (λ p q. Alike table p other q) x.steps y.steps n i
    steps =
        same_steps (λ p q. Alike table p other q) (alike_one_to_one tower table other c d) x.steps y.steps m n i
        (rw here at (c.ascending r alike.row)) (rw there at (d.ascending r alike.other_row)) h g each
        (rw (here, there) at (rows_paired tower table other c.follows d.follows r alike))

-- Two canonical tables for one tower that allow the same runs are equal.
pub canonical_unique : (tower : Tower) (table other : Table) → Canonical tower table → Canonical tower other → SameRuns table other
    → table ≡ other
canonical_unique tower table other c d same =
    same_rows tower table other c d [] [] table other 0 1 refl refl refl refl c.first_met d.first_met start
  where
    start : (k : ℕ) → k < 1 → Alike table k other k
    start k lt =
        let e : 0 ≡ k = omega arith in
        rw e at (met_alike tower table other c.follows d.follows same [] 0 0 (leads_nil (move table) 0) (leads_nil (move other) 0))

-- Under two books, made tables are equal if good tables allow the same runs.
pub made_unique : (tower : Tower) (book other_book : Book) (table other : Table) → IsMade tower book table → IsMade tower other_book other
    → ((w : List ℕ) → GoodAllow tower book w ↔ GoodAllow tower other_book w) → table ≡ other
made_unique tower book other_book table other m n same =
    canonical_unique tower table other (made_canonical tower book table m) (made_canonical tower other_book other n) (λ w.
    (λ x. (n.runs w).1 ((same w).0 ((m.runs w).0 x)), λ x. (m.runs w).1 ((same w).1 ((n.runs w).0 x))))

-- ---- fewest rows

-- No table that follows the tower and allows the runs of a canonical one has fewer rows.
pub fewest : (tower : Tower) (table other : Table) → Canonical tower table → FollowsRuns tower other → SameRuns table other
    → length table ≤ length other
unfolding Allows AllowsFrom
fewest tower table other c g same =
    pigeonhole (λ r s. Alike table r other s) (length table) (length other) give (λ i k j. alike_one tower table other c i k j)
  where
    give : (r : ℕ) → r < length table → (s : ℕ) × (s < length other) × Alike table r other s
    give r lt =
        let (w, e) = first_met_reached table c.follows.is_table c.first_met r lt in
        let (s, f) = (same w).0 (r, e) in
        let alike = met_alike tower table other c.follows g same w r s e f in (s, alike.other_row, alike)

-- No table that follows the tower and allows just the runs that good tables allow has fewer rows than the made one.
pub made_fewest : (tower : Tower) (book : Book) (table other : Table) → IsMade tower book table → FollowsRuns tower other
    → ((w : List ℕ) → Allows other w ↔ GoodAllow tower book w) → length table ≤ length other
made_fewest tower book table other m g same =
    fewest tower table other (made_canonical tower book table m) g (λ w.
    (λ x. (same w).1 ((m.runs w).0 x), λ x. (m.runs w).1 ((same w).0 x)))
