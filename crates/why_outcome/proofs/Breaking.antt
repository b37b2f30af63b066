-- Runs of a table that end with a broken step, over the numbers of its pairs, and its allowed runs that are broken: the soonest of one kind is the
-- soonest of the other. Where a step is broken, some allowed run of at most 1,000 actions is.
use Prim.Native.Nat.{ℕ, ◌≤◌, ◌<◌}
use mathlib.Core.Path.{◌≡◌, refl, sym, ap, subst, ◌∙◌}
use mathlib.Core.Logic.{◌⊎◌, inl, inr}
use mathlib.Core.Bool.{Bool, true, false, not}
use Rattle.std.specs.Prelude.{Option, None, Some}
use mathlib.Core.List.{List, [], ◌∷◌, ◌++◌}
use native.Mathlib.Omega.{arith}
use lib.ListN.{length, length-append}
use borrow.Author.Tests.{not-true}
use Rattle.base.specs.Lists.{is_there}
use Rattle.base.proofs.Lists.{not_in, and_left, and_right, and_both, some_none, some_at, some_below, mem_index, is_there_in, is_there_out, not_there, there_not, none-some, some_one, whether_there}
use Rattle.logic.specs.Tower.{Tower, Listed}
use Rattle.logic.specs.Book.{Book}
use Rattle.logic.specs.Runs.{leads, Unbroken, Broken}
use Rattle.logic.specs.Tables.{Table, move, rows_tower, AllowsFrom, Allows, GoodStart}
use Rattle.logic.specs.Why.{Sooner, Soonest, AllowedBroken}
use Rattle.logic.proofs.Leads.{leads_nil, leads_in, leads_out, snoc_in}
use Rattle.logic.proofs.Canonical.{FollowsRuns}
use Rattle.first_runs.proofs.Sooner.{length_snoc, sooner_trans}
use Rattle.first_runs.proofs.Ways.{EndsBroken, way_there, way_leads}
use Rattle.alternatives.specs.Progression.{first_set}
use Rattle.alternatives.specs.Pairs.{Pair, first_pair, tried_step, over_full, pair_step, pairs, over_pairs, over_alternatives, most_pairs}
use Rattle.alternatives.proofs.Steps.{pair_step_out, pair_leads_state, meets_on}
use Rattle.alternatives.proofs.Theorems.{unbroken_first, tried_unbroken}
use Rattle.alternatives.proofs.Weights.{pairs_most}
use Rattle.outcome.specs.Check.{over_items, broken_step, breaks, some_broken}
use Rattle.outcome.specs.VerdictRight.{Judgeable, RightBelow}
use Rattle.outcome.proofs.Checker.{right_follows, right_listed}
use Rattle.outcome.proofs.Items.{pair_of, pairs_lead, meets_steps}
use Rattle.why_outcome.proofs.Numbering.{pair_number, number_of, go, some_pair, number_first, number_inside, number_is, number_mem, go_to, step_number, leads_pairs, led_number, pairs_numbered}

-- action a makes a broken step from pair number i
unfoldable pub number_breaks : Tower → Book → ℕ → ℕ → Bool
number_breaks tower book i a = broken_step tower book (pair_number tower book i) a

-- What is known of a table that comes as far as 14 e: it is judged, a to d hold in all rows, and it is neither 11 nor 20.
pub record SizedRight (tower : Tower) (book : Book) (table : Table) : Type 0 where
  pub known : Judgeable tower book table
  pub right : RightBelow tower table (length table)
  pub few : over_items tower book table ≡ false
  pub narrow : over_alternatives (rows_tower tower table) book ≡ false

-- ---- Runs in order

-- A run up to one of its actions comes no later than the run.
part_sooner : (part rest : List ℕ) (a : ℕ)
    → (part ++ (a ∷ []) ≡ part ++ (a ∷ rest)) ⊎ Sooner (part ++ (a ∷ [])) (part ++ (a ∷ rest))
unfolding Sooner
part_sooner part [] a = inl refl
part_sooner part (b ∷ rest) a = inr (inl (omega (arith, length_snoc part a, length-append part (a ∷ b ∷ rest))))

-- What comes no later than a run that is sooner comes sooner.
sooner_than : (u v w : List ℕ) → (u ≡ v) ⊎ Sooner u v → Sooner v w → Sooner u w
sooner_than u v w (inl e) s = subst (λ (x : List ℕ). Sooner x w) (sym e) s
sooner_than u v w (inr l) s = sooner_trans u v w l s

-- ---- Broken steps

-- A broken step is by an enabled action, and leads to no pair;
pub broken_step_out : (tower : Tower) (book : Book) (v : Pair) (a : ℕ) → broken_step tower book v a ≡ true
    → (y : ℕ) × (tower.target v.state a ≡ Some y) × (pair_step tower book v a ≡ None)
unfolding broken_step
broken_step_out tower book v a e =
    let there = and_left (is_there (tower.target v.state a)) (not (is_there (pair_step tower book v a))) e in
    let gone = and_right (is_there (tower.target v.state a)) (not (is_there (pair_step tower book v a))) e in
    let (y, to) = is_there_out (tower.target v.state a) there in
    (y, to, not_there (pair_step tower book v a) (not-true (is_there (pair_step tower book v a)) gone))

-- and every such step is broken.
pub broken_step_in : (tower : Tower) (book : Book) (v : Pair) (a y : ℕ) → tower.target v.state a ≡ Some y → pair_step tower book v a ≡ None
    → broken_step tower book v a ≡ true
unfolding broken_step
broken_step_in tower book v a y to gone = and_both (is_there_in to) (not_in (there_not gone))

module _ (tower : Tower) (book : Book) (table : Table) (turned : SizedRight tower book table) where
  -- the table as a tower
  abbrev rows : Tower
  rows = rows_tower tower table

  -- how many pairs it has
  abbrev count : ℕ
  count = length (pairs rows book)

  -- the pair of the tower for one of the rows
  abbrev under : Pair → Pair
  under v = pair_of tower book table v.state v.pending

  follows : FollowsRuns tower table
  follows = right_follows tower book table turned.known turned.right

  -- What is allowed is one of the tower's actions.
  pub turned_listed : Listed (rows_tower tower table)
  turned_listed = right_listed tower book table turned.known turned.right

  -- The pairs are not too many.
  pub turned_few : over_pairs rows book ≡ false
  unfolding over_items
  turned_few = turned.few

  -- From the first pair on.
  first_lead : (u : Pair) (w : List ℕ) → leads (pair_step rows book) (first_pair rows book) w ≡ Some u
      → leads (tried_step tower book) (first_pair tower book) w ≡ Some (under u)
  unfolding first_pair rows_tower GoodStart
  first_lead u w e =
      ap (λ x. leads (tried_step tower book) (record { state = x; pending = first_set book }) w) (sym follows.start)
      ∙ pairs_lead tower book table follows (first_pair rows book) u w e

  -- The table leads to their rows.
  first_row : (u : Pair) (w : List ℕ) → leads (pair_step rows book) (first_pair rows book) w ≡ Some u → leads (move table) 0 w ≡ Some u.state
  unfolding first_pair rows_tower
  first_row u w e = pair_leads_state rows book (first_pair rows book) u w e

  -- ---- From a broken step to a broken run

  -- A run to a pair that is not over_full, with a step that is broken there, is broken.
  step_broken : (run : List ℕ) (v : Pair) (a t : ℕ) → leads (pair_step rows book) (first_pair rows book) run ≡ Some v
      → over_full rows book v ≡ false → move table v.state a ≡ Some t → pair_step rows book v a ≡ None
      → Unbroken tower book (run ++ (a ∷ [])) → ⊥
  unfolding first_pair
  step_broken run v a t led spare to gone unbroken =
      let (w, step) =
      meets_steps tower book table follows turned.known.fit turned_listed v a t spare to
      ((meets_on tower book turned.known.fit (first_pair tower book) (under v) run (a ∷ []) (first_lead v run led)).0
      ((unbroken_first tower book turned.known.fit (run ++ (a ∷ []))).0 unbroken)) in
      none-some gone step

  -- A run that ends with a broken step is allowed and broken.
  pub ends_broken_allowed : (v : List ℕ) → EndsBroken (go rows book) (number_breaks rows book) v → AllowedBroken tower book table v
  unfolding number_breaks Allows AllowsFrom Broken rows_tower over_alternatives
  ends_broken_allowed v ends = by (broken_step_out rows book (pair_number rows book ends.place) ends.action ends.broken)
    where
      u : Pair
      u = pair_number rows book ends.place

      led : leads (pair_step rows book) (first_pair rows book) ends.run ≡ Some u
      led = leads_pairs rows book turned_listed turned_few ends.run ends.place ends.led

      spare : over_full rows book u ≡ false
      spare =
          some_none (over_full rows book) turned.narrow
          (number_mem rows book ends.place (led_number rows book turned_listed turned_few ends.run ends.place ends.led))

      by : (t : ℕ) × (move table u.state ends.action ≡ Some t) × (pair_step rows book u ends.action ≡ None)
          → AllowedBroken tower book table v
      by (t, to, gone) =
          record {
            allowed = subst (Allows table) (sym ends.is)
                (t, snoc_in (move table) 0 u.state t ends.run ends.action (first_row u ends.run led) to);
            broken = λ unbroken.
                step_broken ends.run u ends.action t led spare to gone (subst (Unbroken tower book) ends.is unbroken);
          }

  -- ---- From a broken run to a broken step

  -- Numbers lead from i along a part of the run, and the next action makes a broken step.
  record PartBroken (i : ℕ) (w : List ℕ) : Type 0 where
    part : List ℕ
    rest : List ℕ
    action : ℕ
    place : ℕ
    is : w ≡ part ++ (action ∷ rest)
    led : leads (go rows book) i part ≡ Some place
    broken : number_breaks rows book place action ≡ true

  -- Numbers lead along all of the run, or along a part up to a broken step.
  abbrev Walked : ℕ → List ℕ → Type 0
  Walked i w = ((j : ℕ) × (leads (go rows book) i w ≡ Some j)) ⊎ PartBroken i w

  -- It is so behind a step.
  walked_on : (a : ℕ) (w : List ℕ) (i k : ℕ) → go rows book i a ≡ Some k → Walked k w → Walked i (a ∷ w)
  walked_on a w i k step (inl (j, e)) = inl (j, leads_in (go rows book) i k j a w step e)
  walked_on a w i k step (inr p) =
      inr (record {
        part = a ∷ p.part;
        rest = p.rest;
        action = p.action;
        place = p.place;
        is = ap (λ (u : List ℕ). a ∷ u) p.is;
        led = leads_in (go rows book) i k p.place a p.part step p.led;
        broken = p.broken;
      })

  -- It is so of every allowed run.
  walked : (w : List ℕ) (i s : ℕ) → i < count → leads (move table) (pair_number rows book i).state w ≡ Some s → Walked i w
  unfolding number_breaks rows_tower
  walked [] i s l e = inl (i, leads_nil (go rows book) i)
  walked (a ∷ w) i s l e =
      let v = pair_number rows book i in
      let (y, to, on) = leads_out (move table) v.state s a w e in
      whether_there (pair_step rows book v a)
      (λ gone.
      inr (record {
        part = [];
        rest = w;
        action = a;
        place = i;
        is = refl;
        led = leads_nil (go rows book) i;
        broken = broken_step_in rows book v a y to gone;
      }))
      (λ z step.
      let m = step_number rows book turned_listed turned_few i a z l step in
      let k = number_of rows book z in
      let same : z ≡ pair_number rows book k = number_is rows book z m in
      let at : y ≡ (pair_number rows book k).state = some_one to (pair_step_out rows book v z a step).0 ∙ ap (λ (x : Pair). x.state) same in
      walked_on a w i k (go_to rows book i a k (step ∙ ap {B = Option Pair} Some same) l (number_inside rows book z m))
      (walked w k s (number_inside rows book z m) (ap (λ (x : ℕ). leads (move table) x w) (sym at) ∙ on)))

  -- Where numbers lead along a run it is unbroken.
  walked_unbroken : (w : List ℕ) (j : ℕ) → leads (go rows book) 0 w ≡ Some j → Unbroken tower book w
  walked_unbroken w j e =
      let v = pair_number rows book j in
      tried_unbroken tower book turned.known.fit w (under v) (first_lead v w (leads_pairs rows book turned_listed turned_few w j e))

  -- No later than an allowed run that is broken comes one that ends with a broken step.
  pub allowed_broken_ends : (v : List ℕ) → AllowedBroken tower book table v
      → (u : List ℕ) × EndsBroken (go rows book) (number_breaks rows book) u × ((u ≡ v) ⊎ Sooner u v)
  unfolding Allows AllowsFrom Broken first_pair rows_tower
  allowed_broken_ends v bad =
      let (s, e) = bad.allowed in
      by (walked v 0 s (some_pair rows book) (ap (λ (x : Pair). leads (move table) x.state v) (number_first rows book) ∙ e))
    where
      by : Walked 0 v → (u : List ℕ) × EndsBroken (go rows book) (number_breaks rows book) u × ((u ≡ v) ⊎ Sooner u v)
      by (inl (j, e)) = absurd (bad.broken (walked_unbroken v j e))
      by (inr p) =
          let u = p.part ++ (p.action ∷ []) in (
            u,
            record { run = p.part; action = p.action; place = p.place; is = refl; led = p.led; broken = p.broken },
            subst (λ (x : List ℕ). (u ≡ x) ⊎ Sooner u x) (sym p.is) (part_sooner p.part p.rest p.action),
          )

  -- The soonest run that ends with a broken step is the soonest allowed run that is broken.
  pub soonest_allowed : (w : List ℕ) → Soonest (EndsBroken (go rows book) (number_breaks rows book)) w
      → Soonest (AllowedBroken tower book table) w
  soonest_allowed w first =
      record {
        is = ends_broken_allowed w first.is;
        none_sooner = λ v bad l.
            let (u, ends, no_later) = allowed_broken_ends v bad in
            first.none_sooner u ends (sooner_than u v w no_later l);
      }

  -- ---- Some run

  -- Where a step is broken, some number breaks something;
  pub some_broken_number : some_broken rows book ≡ true
      → (i a : ℕ) × (i < count) × (a < tower.actions) × (number_breaks rows book i a ≡ true)
  unfolding some_broken breaks number_breaks pair_number rows_tower
  some_broken_number e =
      let (v, m, b) = some_at (breaks rows book) (pairs rows book) e in
      let (i, l, same) = mem_index (first_pair rows book) m in
      let (a, k, f) = some_below (broken_step rows book v) tower.actions b in
      (i, a, l, k, ap (λ (x : Pair). broken_step rows book x a) same ∙ f)

  -- a number is led to by no more actions than itself,
  short_way : (i : ℕ) → i < count → (w : List ℕ) × (leads (go rows book) 0 w ≡ Some i) × (length w ≤ i)
  short_way i l =
      let (from, action, numbered) = pairs_numbered rows book turned_listed turned_few in
      let (w, way, short) = way_there numbered i l in
      (w, way_leads numbered i l w way, short)

  -- so that some run of at most 1,000 actions ends with a broken step,
  pub some_broken_ends : some_broken rows book ≡ true
      → (w : List ℕ) × EndsBroken (go rows book) (number_breaks rows book) w × (length w ≤ most_pairs)
  unfolding most_pairs
  some_broken_ends e = by (some_broken_number e)
    where
      by : (i a : ℕ) × (i < count) × (a < tower.actions) × (number_breaks rows book i a ≡ true)
          → (w : List ℕ) × EndsBroken (go rows book) (number_breaks rows book) w × (length w ≤ 1000)
      by (i, a, l, k, b) =
          let (w, led, short) = short_way i l in (
            w ++ (a ∷ []),
            record { run = w; action = a; place = i; is = refl; led = led; broken = b },
            omega (arith, length_snoc w a, pairs_most rows book turned_few),
          )

  -- and is an allowed run that is broken.
  pub some_broken_run : some_broken rows book ≡ true → (w : List ℕ) × AllowedBroken tower book table w × (length w ≤ most_pairs)
  some_broken_run e = let (w, ends, short) = some_broken_ends e in (w, ends_broken_allowed w ends, short)
