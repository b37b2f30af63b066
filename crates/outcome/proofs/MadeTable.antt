-- The made table: its rows are those of the pairs that allowed actions lead to, it is laid out in the one canonical way, and its runs are
-- exactly those that lead over allowed actions from the first pair.
use Prim.Native.Nat.{ℕ, zero, suc, ◌≤◌, ◌<◌}
use mathlib.Core.Path.{◌≡◌, refl, sym, ap, subst, ◌∙◌}
use mathlib.Core.Logic.{◌⊎◌, inl, inr}
use mathlib.Core.Bool.{true, ◌||◌, not}
use Rattle.std.specs.Prelude.{option_map}
use Rattle.std.specs.Prelude.{Option, None, Some}
use Rattle.base.proofs.Options.{map-eq-some_iff}
use mathlib.Core.List.{List, [], ◌∷◌, map, Memᴰ}
use lib.ListN.{length, get_or, length-map}
use native.Mathlib.Omega.{arith}
use Rattle.base.specs.Lists.{every, below, is_there, there_with, same_option}
use Rattle.base.proofs.Lists.{Rising, same_truth, never_both, and_left, and_right, or_cases, is_there_in, is_there_out, whether_there, none-some, some_one, there_with_out, only_if_in, every_below, some_below, below_mem, mem_below, present_map_out, present_map_in, present_map_same, below_ascending}
use borrow.Author.Tests.{not-true}
use Rattle.base.proofs.Search.{MeetsAll, MetInOrder, few_once, search_order}
use Rattle.base.specs.Search.{once}
use Rattle.logic.specs.Tower.{Tower, Listed, controllable, goes_on}
use Rattle.logic.specs.Book.{Book}
use Rattle.logic.specs.Runs.{leads}
use Rattle.logic.specs.Tables.{Step, Row, row_at, step_to, move, AllowsAction, AllowsFrom, IsTable, GoodStart, NoneWithheld, StepsRight, GoesOn, OneRow, Ascending, Meets, FirstMet}
use Rattle.logic.specs.TableFile.{most_rows}
use Rattle.logic.proofs.Leads.{leads_nil, leads_step, leads_stuck}
use Rattle.logic.proofs.Canonical.{ascending_once, step_found}
use Rattle.alternatives.specs.Pairs.{Pair, pairs, first_pair, pair_step}
use Rattle.outcome.specs.Game.{forced_right, can_go, fine, safe, safe_step}
use Rattle.outcome.specs.Rows.{one_row, safe_followers, row_pairs, row_step, made_row, made_table}
use Rattle.outcome.proofs.Reasons.{step_in}
use Rattle.outcome.proofs.Alike.{Known, one_row_same, one_row_state, safe_step_target, safe_listed, one_row_step, runs_one_row}
use Rattle.outcome.proofs.RowPairs.{row_number, Led, pair_of, led_first, led_step, led_all, led_stands, rows_few, rows_limit, row_inside, row_one, pair_led, pairs_apart, row_of_pair, rows_some, pair_first, row_first, row_same}

-- ---- rows and steps

-- What stands at an index of a mapped list.
get_or_map_at : {X Y : Type 0} (f : X → Y) (xs : List X) (i : ℕ) (d : X) (e : Y) → i < length xs → get_or (map f xs) i e ≡ f (get_or xs i d)
get_or_map_at f [] i d e l = absurd (omega arith)
get_or_map_at f (x ∷ xs) zero d e l = refl
get_or_map_at f (x ∷ xs) (suc i) d e l = get_or_map_at f xs i d e (omega arith)

-- Steps whose actions rise are ascending.
rising_ascending : (steps : List Step) → Rising (λ s. s.action) steps → Ascending steps
unfolding Rising Ascending
rising_ascending [] h = tt
rising_ascending (s ∷ []) h = tt
rising_ascending (s ∷ t ∷ steps) h = (h.0, rising_ascending (t ∷ steps) h.1)

-- Steps meet rows as their targets do.
meets_targets : (steps : List Step) (m n : ℕ) → MeetsAll m (map (λ (s : Step). s.target) steps) n → Meets m steps n
unfolding MeetsAll Meets
meets_targets [] m n h = h
meets_targets (s ∷ steps) m n (inl (l, h)) = inl (l, meets_targets steps m n h)
meets_targets (s ∷ steps) m n (inr (e, h)) = inr (e, meets_targets steps (suc m) n h)

module _ (tower : Tower) (book : Book) where
  -- A step made for an action is there if the action is allowed, and leads to the row of the pair reached.
  row_step_out : (a : ℕ) (o : Option Pair) (s : Step) → row_step tower book a o ≡ Some s
      → (w : Pair) × (o ≡ Some w) × (s ≡ record { action = a; target = row_number tower book w })
  unfolding row_step row_number
  row_step_out a None s e = none-some refl e
  row_step_out a (Some w) s e = (w, refl, some_one e refl)

  row_step_target : (a : ℕ) (o : Option Pair)
      → option_map (λ (s : Step). s.target) (row_step tower book a o) ≡ option_map (row_number tower book) o
  unfolding row_step row_number
  row_step_target a None = refl
  row_step_target a (Some w) = refl

  row_step_action : (v : Pair) (a : ℕ) (s : Step) → row_step tower book a (safe_step tower book v a) ≡ Some s → s.action ≡ a
  row_step_action v a s e =
      let (w, f, g) = row_step_out a (safe_step tower book v a) s e in ap (λ (t : Step). t.action) g

  -- The steps of a made row ascend.
  pub made_ascending : (v : Pair) → Ascending (made_row tower book v).steps
  unfolding made_row
  made_ascending v =
      rising_ascending (made_row tower book v).steps
      (below_ascending (λ a. row_step tower book a (safe_step tower book v a)) (λ s. s.action) (row_step_action v) tower.actions)

  -- The targets of a made row are the rows of the pair's followers, in order.
  made_targets : (v : Pair)
      → map (λ (s : Step). s.target) (made_row tower book v).steps ≡ map (row_number tower book) (safe_followers tower book v)
  unfolding made_row safe_followers
  made_targets v =
      present_map_same (λ a. row_step tower book a (safe_step tower book v a)) (safe_step tower book v) (λ (s : Step). s.target)
      (row_number tower book) (λ a. row_step_target a (safe_step tower book v a)) (below tower.actions)

  -- A step of a made row is that of an allowed action.
  pub made_step_out : (v : Pair) (s : Step) → Memᴰ s (made_row tower book v).steps
      → (a : ℕ) × (w : Pair) × (a < tower.actions) × (safe_step tower book v a ≡ Some w)
      × (s ≡ record { action = a; target = row_number tower book w })
  unfolding made_row
  made_step_out v s m =
      let (a, n, e) = present_map_out (λ a. row_step tower book a (safe_step tower book v a)) (below tower.actions) m in
      let (w, f, g) = row_step_out a (safe_step tower book v a) s e in
      (a, w, mem_below tower.actions n, f, g)

  -- Rows whose followers' rows are met in order are numbered as first met.
  rows_met : (vs : List Pair) (r m : ℕ)
      → MetInOrder r m (map (λ (v : Pair). map (row_number tower book) (safe_followers tower book v)) vs)
      → FirstMet r m (map (made_row tower book) vs)
  unfolding MetInOrder FirstMet
  rows_met [] r m h = h
  rows_met (v ∷ vs) r m (l, (n, h, g)) = (
    l,
    (
      n,
      meets_targets (made_row tower book v).steps m n (subst (λ ps. MeetsAll m ps n) (sym (made_targets v)) h),
      rows_met vs (suc r) n g,
    ),
  )

  -- ---- the table's rows

  -- There is a row for each of the rows' pairs.
  length_made : length (made_table tower book) ≡ length (row_pairs tower book)
  unfolding made_table
  length_made = length-map (row_pairs tower book) (made_row tower book)

  -- Row r is that of its pair.
  pub row_made : (r : ℕ) → r < length (row_pairs tower book) → row_at (made_table tower book) r ≡ made_row tower book (pair_of tower book r)
  unfolding made_table row_at pair_of
  row_made r l =
      get_or_map_at (made_row tower book) (row_pairs tower book) r (first_pair tower book) (record { state = 0; steps = [] }) l

  -- Row r has the state of its pair.
  row_made_state : (r : ℕ) → r < length (row_pairs tower book) → (row_at (made_table tower book) r).state ≡ (pair_of tower book r).state
  unfolding made_row
  row_made_state r l = ap (λ (row : Row). row.state) (row_made r l)

  -- Options that make one row have one number, or neither has one.
  map_same : (o p : Option Pair) → same_option (one_row tower book) o p ≡ true
      → option_map (row_number tower book) o ≡ option_map (row_number tower book) p
  unfolding same_option
  map_same None None e = refl
  map_same None (Some y) e = never_both e refl
  map_same (Some x) None e = never_both e refl
  map_same (Some x) (Some y) e = ap {B = Option ℕ} Some (row_same tower book x y e)

  module _ (known : Known tower book) where
    -- An allowed action leads in a made row to the row of the pair that it leads to.
    pub made_step : (v : Pair) (a : ℕ)
        → step_to (made_row tower book v).steps a ≡ option_map (row_number tower book) (safe_step tower book v a)
    unfolding made_row row_step row_number
    made_step v a = go (safe_step tower book v a) refl
      where
        go : (o : Option Pair) → safe_step tower book v a ≡ o
            → step_to (made_row tower book v).steps a ≡ option_map (row_number tower book) o
        go None e =
            whether_there (step_to (made_row tower book v).steps a) (λ f. f)
            (λ p f.
            let (s, m, g, _) = step_in (made_row tower book v).steps a p f in
            let (b, w, l, h, k) = made_step_out v s m in
            none-some e (ap (safe_step tower book v) (sym g ∙ ap (λ (t : Step). t.action) k) ∙ h))
        go (Some w) e =
            step_found (record { action = a; target = row_number tower book w }) (made_row tower book v).steps
            (ascending_once (made_row tower book v).steps (made_ascending v))
            (present_map_in (λ a. row_step tower book a (safe_step tower book v a)) (below tower.actions)
            (below_mem tower.actions a (safe_listed tower book known v a w e)) (ap (row_step tower book a) e))

    -- Row r moves as its pair does.
    row_made_move : (r : ℕ) → r < length (row_pairs tower book) → (a : ℕ)
        → move (made_table tower book) r a ≡ option_map (row_number tower book) (safe_step tower book (pair_of tower book r) a)
    unfolding move
    row_made_move r l a = ap (λ (row : Row). step_to row.steps a) (row_made r l) ∙ made_step (pair_of tower book r) a

    module _ (v : Pair) (led : Led tower book v) where
      -- The row of a pair that is led to has its state.
      pub made_state : (row_at (made_table tower book) (row_number tower book v)).state ≡ v.state
      made_state =
          row_made_state (row_number tower book v) (row_inside tower book known v led)
          ∙ sym (one_row_state tower book v (pair_of tower book (row_number tower book v)) (row_one tower book known v led))

      -- The row of a pair that is led to moves as the pair does.
      pub made_move : (a : ℕ)
          → move (made_table tower book) (row_number tower book v) a ≡ option_map (row_number tower book) (safe_step tower book v a)
      made_move a =
          let r : ℕ = row_number tower book v in
          let l = row_inside tower book known v led in
          row_made_move r l a
          ∙ sym
          (map_same (safe_step tower book v a) (safe_step tower book (pair_of tower book r) a)
          (one_row_step tower book known v (pair_of tower book r) (led_stands tower book known v led).met
          (led_stands tower book known (pair_of tower book r) (pair_led tower book r l)).met (row_one tower book known v led) a))

    -- The runs from the row of a pair that is led to are those that lead on from the pair.
    pub made_leads : (w : List ℕ) (v : Pair) → Led tower book v
        → leads (move (made_table tower book)) (row_number tower book v) w
        ≡ option_map (row_number tower book) (leads (safe_step tower book) v w)
    made_leads [] v led =
        leads_nil (move (made_table tower book)) (row_number tower book v)
        ∙ ap (option_map (row_number tower book)) (sym (leads_nil (safe_step tower book) v))
    made_leads (a ∷ w) v led = go (safe_step tower book v a) refl (λ y f. made_leads w y (led_step tower book v a y led f))
      where
        go : (o : Option Pair) → safe_step tower book v a ≡ o
            → ((y : Pair) → safe_step tower book v a ≡ Some y
            → leads (move (made_table tower book)) (row_number tower book y) w
            ≡ option_map (row_number tower book) (leads (safe_step tower book) y w))
            → leads (move (made_table tower book)) (row_number tower book v) (a ∷ w)
            ≡ option_map (row_number tower book) (leads (safe_step tower book) v (a ∷ w))
        go None e ih =
            leads_stuck (move (made_table tower book)) (row_number tower book v) a w
            (made_move v led a ∙ ap (option_map (row_number tower book)) e)
            ∙ ap (option_map (row_number tower book)) (sym (leads_stuck (safe_step tower book) v a w e))
        go (Some y) e ih =
            leads_step (move (made_table tower book)) (row_number tower book v) (row_number tower book y) a w
            (made_move v led a ∙ ap (option_map (row_number tower book)) e)
            ∙ ih y e
            ∙ ap (option_map (row_number tower book)) (sym (leads_step (safe_step tower book) v y a w e))

    -- The runs of the made table are those that lead over allowed actions from the first pair, to the row of the pair reached.
    pub made_runs : (w : List ℕ) → leads (move (made_table tower book)) 0 w
        ≡ option_map (row_number tower book) (leads (safe_step tower book) (first_pair tower book) w)
    made_runs w =
        ap (λ (r : ℕ). leads (move (made_table tower book)) r w) (sym (row_first tower book known))
        ∙ made_leads w (first_pair tower book) (led_first tower book)

    -- ---- what holds of every row

    -- The runs from row r are those that lead on from its pair.
    row_leads : (r : ℕ) → r < length (row_pairs tower book) → (w : List ℕ)
        → leads (move (made_table tower book)) r w
        ≡ option_map (row_number tower book) (leads (safe_step tower book) (pair_of tower book r) w)
    row_leads r l w =
        ap (λ (s : ℕ). leads (move (made_table tower book)) s w) (sym (row_of_pair tower book known r l))
        ∙ made_leads w (pair_of tower book r) (pair_led tower book r l)

    -- An action is allowed in row r if it is so from its pair.
    allowed_in : (r : ℕ) → r < length (row_pairs tower book) → (a : ℕ) (w : Pair) → safe_step tower book (pair_of tower book r) a ≡ Some w
        → AllowsAction (made_table tower book) r a
    unfolding AllowsAction
    allowed_in r l a w e = (row_number tower book w, row_made_move r l a ∙ ap (option_map (row_number tower book)) e)

    -- An action that is allowed in row r leads from its pair.
    allowed_out : (r : ℕ) → r < length (row_pairs tower book) → (a s : ℕ) → move (made_table tower book) r a ≡ Some s
        → (w : Pair) × (safe_step tower book (pair_of tower book r) a ≡ Some w) × (row_number tower book w ≡ s)
    allowed_out r l a s e =
        (map-eq-some_iff (row_number tower book) (safe_step tower book (pair_of tower book r) a)).0 (sym (row_made_move r l a) ∙ e)

    -- What an allowed action leads to from the pair of a row is led to.
    next_led : (r : ℕ) → r < length (row_pairs tower book) → (a : ℕ) (w : Pair) → safe_step tower book (pair_of tower book r) a ≡ Some w
        → Led tower book w
    next_led r l a w e = led_step tower book (pair_of tower book r) a w (pair_led tower book r l) e

    -- (c) In every row the allowed actions are the tower's.
    made_right : (r : ℕ) → r < length (row_pairs tower book) → StepsRight tower (made_table tower book) r
    unfolding StepsRight
    made_right r l a s e =
        let (w, f, g) = allowed_out r l a s e in
        ap (λ x. tower.target x a) (row_made_state r l)
        ∙ safe_step_target tower book (pair_of tower book r) a w f
        ∙ ap {B = Option ℕ} Some (sym (made_state w (next_led r l a w f)) ∙ ap (λ t. (row_at (made_table tower book) t).state) g)

    -- The pair of a row is fine.
    row_fine : (r : ℕ) → r < length (row_pairs tower book) → fine tower book (safe tower book) (pair_of tower book r) ≡ true
    row_fine r l =
        let s = led_stands tower book known (pair_of tower book r) (pair_led tower book r l) in
        known.safe_fine (pair_of tower book r) s.met s.is_safe

    -- A step that is safe is allowed.
    safe_allowed : (r : ℕ) → r < length (row_pairs tower book) → (a : ℕ)
        → there_with (safe tower book) (pair_step tower book (pair_of tower book r) a) ≡ true → AllowsAction (made_table tower book) r a
    unfolding safe_step
    safe_allowed r l a e =
        let (w, f, g) = there_with_out (safe tower book) (pair_step tower book (pair_of tower book r) a) e in
        allowed_in r l a w (only_if_in (safe tower book) f g)

    -- (b) In no row is an action withheld that may not be.
    made_withheld : (r : ℕ) → r < length (row_pairs tower book) → NoneWithheld tower (made_table tower book) r
    unfolding NoneWithheld fine forced_right Listed
    made_withheld r l a y e ours =
        go
        (or_cases (controllable (tower.kind a) || not (is_there (tower.target v.state a)))
        (there_with (safe tower book) (pair_step tower book v a)) right)
      where
        v : Pair
        v = pair_of tower book r

        enabled : tower.target v.state a ≡ Some y
        enabled = ap (λ x. tower.target x a) (sym (row_made_state r l)) ∙ e

        right : forced_right tower book (safe tower book) v a ≡ true
        right =
            every_below (forced_right tower book (safe tower book) v) tower.actions a
            (and_left (every (forced_right tower book (safe tower book) v) (below tower.actions)) _ (row_fine r l))
            (known.listed v.state a y enabled)

        not_so : (controllable (tower.kind a) ≡ true) ⊎ (not (is_there (tower.target v.state a)) ≡ true)
            → AllowsAction (made_table tower book) r a
        not_so (inl p) = never_both p ours
        not_so (inr p) = never_both (is_there_in enabled) (not-true (is_there (tower.target v.state a)) p)

        go : ((controllable (tower.kind a) || not (is_there (tower.target v.state a))) ≡ true)
            ⊎ (there_with (safe tower book) (pair_step tower book v a) ≡ true) → AllowsAction (made_table tower book) r a
        go (inl p) = not_so (or_cases (controllable (tower.kind a)) (not (is_there (tower.target v.state a))) p)
        go (inr p) = safe_allowed r l a p

    -- (d) In every row some action is allowed.
    made_goes : (r : ℕ) → r < length (row_pairs tower book) → GoesOn tower (made_table tower book) r
    unfolding GoesOn fine can_go
    made_goes r l =
        let v = pair_of tower book r in
        let (a, k, e) = some_below (can_go tower book (safe tower book) v) tower.actions
        (and_right (every (forced_right tower book (safe tower book) v) (below tower.actions)) _ (row_fine r l)) in (
          a,
          safe_allowed r l a (and_right (goes_on (tower.kind a)) (there_with (safe tower book) (pair_step tower book v a)) e),
          and_left (goes_on (tower.kind a)) (there_with (safe tower book) (pair_step tower book v a)) e,
        )

    -- Targets are rows.
    made_inside : (r a s : ℕ) → r < length (row_pairs tower book) → move (made_table tower book) r a ≡ Some s
        → s < length (row_pairs tower book)
    made_inside r a s l e =
        let (w, f, g) = allowed_out r l a s e in
        omega (arith, row_inside tower book known w (next_led r l a w f), g)

    -- Rows with equal state and equal allowed runs onward are one.
    made_apart : (r s : ℕ) → r < length (row_pairs tower book) → s < length (row_pairs tower book)
        → OneRow (made_table tower book) r s → r ≡ s
    unfolding AllowsFrom
    made_apart r s k l one =
        pairs_apart tower book r s k l
        (runs_one_row tower book (pair_of tower book r) (pair_of tower book s)
        (sym (row_made_state r k) ∙ one.state ∙ row_made_state s l)
        (λ w. same_truth _ _ (on r s k l w (one.runs w).0) (on s r l k w (one.runs w).1)))
      where
        on : (p q : ℕ) → p < length (row_pairs tower book) → q < length (row_pairs tower book) → (w : List ℕ)
            → (AllowsFrom (made_table tower book) p w → AllowsFrom (made_table tower book) q w)
            → is_there (leads (safe_step tower book) (pair_of tower book p) w) ≡ true
            → is_there (leads (safe_step tower book) (pair_of tower book q) w) ≡ true
        on p q i j w h e =
            let (y, f) = is_there_out (leads (safe_step tower book) (pair_of tower book p) w) e in
            let (t, g) = h (row_number tower book y, row_leads p i w ∙ ap (option_map (row_number tower book)) f) in
            let (z, m, n) =
            (map-eq-some_iff (row_number tower book) (leads (safe_step tower book) (pair_of tower book q) w)).0 (sym (row_leads q j w) ∙ g) in
            is_there_in m

    -- The rows are numbered as first met.
    made_first_met : FirstMet 0 1 (made_table tower book)
    unfolding made_table row_pairs row_number
    made_first_met =
        rows_met (row_pairs tower book) 0 1
        (search_order (one_row tower book) (safe_followers tower book) once (length (pairs tower book)) (first_pair tower book)
        (one_row_same tower book) (few_once (length (pairs tower book)) (row_pairs tower book) (rows_few tower book known)))

    -- (a) Row 0 has the tower's start state.
    made_start : GoodStart tower (made_table tower book)
    unfolding GoodStart first_pair
    made_start = row_made_state 0 (rows_some tower book) ∙ ap (λ (v : Pair). v.state) (pair_first tower book)

    -- Allowed actions are the tower's.
    made_action : (r a s : ℕ) → r < length (row_pairs tower book) → move (made_table tower book) r a ≡ Some s → a < tower.actions
    made_action r a s l e = let (w, f, g) = allowed_out r l a s e in safe_listed tower book known (pair_of tower book r) a w f

-- What the made table is: a table that begins at the start, follows the tower, withholds only what may be withheld and goes on in every row.
-- Its rows are apart and numbered as first met, its actions ascend, and it is small enough for its file. Its runs are those that lead over
-- allowed actions from the first pair, each to the row of the pair reached.
pub record MadeSo (tower : Tower) (book : Book) : Type 0 where
  pub is_table : IsTable (made_table tower book)
  pub a : GoodStart tower (made_table tower book)
  pub b : (r : ℕ) → r < length (made_table tower book) → NoneWithheld tower (made_table tower book) r
  pub c : (r : ℕ) → r < length (made_table tower book) → StepsRight tower (made_table tower book) r
  pub d : (r : ℕ) → r < length (made_table tower book) → GoesOn tower (made_table tower book) r
  pub apart : (r s : ℕ) → r < length (made_table tower book) → s < length (made_table tower book)
      → OneRow (made_table tower book) r s → r ≡ s
  pub ascending : (r : ℕ) → r < length (made_table tower book) → Ascending (row_at (made_table tower book) r).steps
  pub first_met : FirstMet 0 1 (made_table tower book)
  pub few : length (made_table tower book) ≤ most_rows
  pub action : (r a s : ℕ) → r < length (made_table tower book) → move (made_table tower book) r a ≡ Some s → a < tower.actions
  pub runs : (w : List ℕ) → leads (move (made_table tower book)) 0 w
      ≡ option_map (row_number tower book) (leads (safe_step tower book) (first_pair tower book) w)

-- The made table is so.
pub made_so : (tower : Tower) (book : Book) → Known tower book → MadeSo tower book
made_so tower book known =
    record {
      is_table =
          record {
            some_row = omega (arith, n, rows_some tower book);
            targets = λ r a s l e. omega (arith, n, made_inside tower book known r a s (at r l) e);
            once = λ r l. ascending_once (row_at (made_table tower book) r).steps (up r l);
          };
      a = made_start tower book known;
      b = λ r l. made_withheld tower book known r (at r l);
      c = λ r l. made_right tower book known r (at r l);
      d = λ r l. made_goes tower book known r (at r l);
      apart = λ r s k l one. made_apart tower book known r s (at r k) (at s l) one;
      ascending = up;
      first_met = made_first_met tower book known;
      few = omega (arith, n, rows_limit tower book known);
      action = λ r a s l e. made_action tower book known r a s (at r l) e;
      runs = made_runs tower book known;
    }
  where
    n : length (made_table tower book) ≡ length (row_pairs tower book)
    n = length_made tower book

    at : (r : ℕ) → r < length (made_table tower book) → r < length (row_pairs tower book)
    at r l = omega (arith, n)

    up : (r : ℕ) → r < length (made_table tower book) → Ascending (row_at (made_table tower book) r).steps
    up r l =
        subst (λ (row : Row). Ascending row.steps) (sym (row_made tower book r (at r l)))
        (made_ascending tower book (pair_of tower book r))

-- What holds of the start state and passes on along enabled actions holds of the state of every row.
pub made_states : (tower : Tower) (book : Book) (P : ℕ → Type 0) → P tower.start → ((x a y : ℕ) → P x → tower.target x a ≡ Some y → P y)
    → (r : ℕ) → r < length (made_table tower book) → P (row_at (made_table tower book) r).state
unfolding first_pair
made_states tower book P first pass r l =
    let k : r < length (row_pairs tower book) = omega (arith, length_made tower book) in
    subst P (sym (row_made_state tower book r k))
    (led_all tower book (λ (v : Pair). P v.state) first
    (λ v a w p e. pass v.state a w.state p (safe_step_target tower book v a w e))
    (pair_of tower book r) (pair_led tower book r k))
