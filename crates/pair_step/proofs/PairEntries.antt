-- The pairs of an area: their parts, their weight, and an entry that is looked up among them.
use Prim.Native.Nat.{ℕ, zero, suc, ◌+◌, ◌-◌, ◌≤◌, ◌<◌}
use native.Mathlib.Omega.{arith}
use native.Mathlib.Numerals.{add-one}
use mathlib.Core.Path.{◌≡◌, refl, sym, ◌∙◌, ap}
use mathlib.Core.Bool.{Bool, false}
use Rattle.std.specs.Prelude.{Option, None, Some}
use mathlib.Core.List.{List, [], ◌∷◌, ◌++◌, map, map-append}
use lib.ListN.{length, get_or}
use Rattle.base.specs.Lists.{below, count_from, total}
use Rattle.base.proofs.Lists.{total_append}
use Rattle.logic.specs.Tower.{Tower}
use Rattle.logic.specs.Book.{Book}
use Rattle.pending.specs.Pending.{Pending, progressed}
use Rattle.logic.specs.Sides.{OneSided}
use Rattle.alternatives.specs.Alternatives.{over, these}
use Rattle.alternatives.specs.Progression.{progressed_set}
use Rattle.alternatives.specs.OneAlternative.{single, one}
use Rattle.alternatives.specs.Pairs.{Pair, same_pair, pair_weight, alternatives_by, over_full}
use Rattle.alternatives.proofs.Same.{same_pair_eq, same_pair_refl}
use Rattle.alternatives.proofs.OneAlternative.{progressed_one}
use Rattle.alternatives.proofs.OnePairs.{full_one}
use Rattle.book_progression.specs.NodeBytes.{IsHeld}
use Rattle.set_index.specs.Entries.{most_entries, entry_number, entry_first, Entry, entry_at, entries_of, Heads}
use Rattle.set_index.proofs.Laws.{entry_number_is, heads_few}
use Rattle.pair_sets.specs.PairSets.{entry_set, held_set, Blank, Stays, Noted, Open}
use Rattle.pair_sets.specs.declared.Place.{Place}
use Rattle.pair_sets.proofs.Entries.{held_length, set_of_entry, equal_numbers, equal_counts}
use Rattle.pair_sets.proofs.Seen.{values_length, values_at, values_same, values_more, noted_values}
use Rattle.pair_trial.specs.Trial.{pair_of, pair_in}
use Rattle.pair_step.specs.Stepped.{pairs_of, with_one, PairsFilled, WideRight}

module _ (nodes : List ℕ) where
  pub pairs_length : (area : List ℕ) (n : ℕ) → length (pairs_of nodes area n) ≡ n
  unfolding pairs_of
  pairs_length area n = values_length (pair_of nodes) area n

  pub pairs_at : (area : List ℕ) (n i : ℕ) → i < n → get_or (pairs_of nodes area n) i (pair_in nodes area 0) ≡ pair_in nodes area i
  unfolding pairs_of
  pairs_at area n i l = values_at (pair_of nodes) area n i l

  -- Areas with the same entries have the same pairs.
  pub pairs_same : (one other : List ℕ) (n : ℕ) → ((j : ℕ) → j < n → entry_at one j ≡ entry_at other j) → pairs_of nodes one n ≡ pairs_of nodes other n
  unfolding pairs_of
  pairs_same one other n agree = values_same (pair_of nodes) one other n agree

  -- One pair more.
  pub pairs_more : (area : List ℕ) (n : ℕ) → pairs_of nodes area (n + 1) ≡ pairs_of nodes area n ++ (pair_in nodes area n ∷ [])
  unfolding pairs_of
  pairs_more area n = values_more (pair_of nodes) area n

  pub pairs_none : (area : List ℕ) → pairs_of nodes area 0 ≡ []
  unfolding pairs_of entries_of below count_from
  pairs_none area = refl

  -- ---- the parts of a pair

  pub state_of_pair : (area : List ℕ) (i : ℕ) → (pair_in nodes area i).state ≡ entry_number area i
  unfolding pair_of
  state_of_pair area i = entry_number_is area i

  pub pending_of_pair : (area : List ℕ) (i : ℕ) → IsHeld nodes → entry_set nodes area i ≡ (pair_in nodes area i).pending
  unfolding pair_of
  pending_of_pair area i held = set_of_entry nodes area i held

  pub count_of_pair : (area : List ℕ) (i : ℕ) → length (pair_in nodes area i).pending ≡ entry_first area (i + 1) - entry_first area i
  unfolding pair_of
  count_of_pair area i = held_length nodes area i

  weight_of_pair : (area : List ℕ) (i : ℕ) → pair_weight (pair_in nodes area i) ≡ entry_first area (i + 1) - entry_first area i
  unfolding pair_weight
  weight_of_pair area i = count_of_pair area i

  -- They count as many alternatives as lie before the next entry.
  pub weighed : (area : List ℕ) (n : ℕ) → entry_first area 0 ≡ 0 → ((j : ℕ) → j < n → entry_first area j < entry_first area (j + 1))
      → total (map pair_weight (pairs_of nodes area n)) ≡ entry_first area n
  unfolding total
  weighed area zero start rising = ap (λ (vs : List Pair). total (map pair_weight vs)) (pairs_none area) ∙ sym start
  weighed area (suc n) start rising =
      let before = weighed area n start (λ j l. rising j (omega arith)) in
      let more = ap (map pair_weight) (pairs_more area n) ∙ map-append pair_weight (pairs_of nodes area n) (pair_in nodes area n ∷ []) in
      let all : total (map pair_weight (pairs_of nodes area (n + 1))) ≡ entry_first area (n + 1) =
      ap total more ∙ total_append (map pair_weight (pairs_of nodes area n)) (pair_weight (pair_in nodes area n) ∷ [])
      ∙ omega (arith, weight_of_pair area n, rising n (omega arith)) in
      ap (λ (k : ℕ). total (map pair_weight (pairs_of nodes area k))) (sym (add-one n)) ∙ all ∙ ap (entry_first area) (add-one n)

-- An element that is there, whatever stands for one that is not.
pub get_or_there : {X : Type 0} (xs : List X) (i : ℕ) (d e : X) → i < length xs → get_or xs i d ≡ get_or xs i e
get_or_there [] i d e l = absurd (omega arith)
get_or_there (x ∷ xs) zero d e l = refl
get_or_there (x ∷ xs) (suc i) d e l = get_or_there xs i d e (omega arith)

-- Entry n is looked up: the pairs are then those of before, with this one if it is new.
pub noted_pairs : (nodes : List ℕ) → IsHeld nodes → (area : List ℕ) (n : ℕ) (index : List ℕ) (out : Place) → Blank nodes area → Noted out area n index
    → pairs_of nodes area out.met ≡ with_one same_pair (pairs_of nodes area n) (Some (pair_in nodes area n))
unfolding pairs_of with_one
noted_pairs nodes held area n index out blank noted =
    noted_values (pair_of nodes) same_pair same_pair_eq same_pair_refl nodes held (λ x y e. number_same x y e) (λ x y e. set_same x y e) area n index out
    blank noted
  where
    number_same : (x y : Entry) → pair_of nodes x ≡ pair_of nodes y → x.number ≡ y.number
    number_same x y e = unfold pair_of in (ap (λ (v : Pair). v.state) e)

    set_same : (x y : Entry) → pair_of nodes x ≡ pair_of nodes y → held_set nodes x ≡ held_set nodes y
    set_same x y e = unfold pair_of in (ap (λ (v : Pair). v.pending) e)

-- ---- the heads of the pairs

pub filled_heads : (tower : Tower) (nodes : List ℕ) (wide : Bool) (area : List ℕ) (n : ℕ) → PairsFilled tower nodes wide area n
    → entry_first area n ≤ 1000 → Heads area n
filled_heads tower nodes wide area n filled light = record { start = filled.start; rising = filled.rising; inside = light }

-- They are at most 1,000.
pub filled_few : (tower : Tower) (nodes : List ℕ) (wide : Bool) (area : List ℕ) (n : ℕ) → PairsFilled tower nodes wide area n
    → entry_first area n ≤ 1000 → n ≤ most_entries
filled_few tower nodes wide area n filled light = heads_few area n (filled_heads tower nodes wide area n filled light)

-- So another entry may be written.
pub filled_open : (tower : Tower) (nodes : List ℕ) (wide : Bool) (area : List ℕ) (n : ℕ) → IsHeld nodes → PairsFilled tower nodes wide area n
    → entry_first area n ≤ 1000 → Open nodes area n
filled_open tower nodes wide area n held filled light =
    record {
      held = held;
      room = filled.size;
      heads = filled_heads tower nodes wide area n filled light;
      most = filled_few tower nodes wide area n filled light;
    }

-- What is written behind them leaves them filled.
pub filled_stays : (tower : Tower) (nodes : List ℕ) (wide : Bool) (area : List ℕ) (n : ℕ) (after : List ℕ) → PairsFilled tower nodes wide area n
    → entry_first area n ≤ 1000 → Stays nodes area n after → PairsFilled tower nodes wide after n
filled_stays tower nodes wide area n after filled light stays =
    record {
      size = omega (arith, filled.size, stays.size);
      states = λ j l. rw (equal_numbers after area j j (stays.kept j l)) (filled.states j l);
      start = heads.start;
      rising = heads.rising;
      single = λ e j l. omega (arith, equal_counts after area j j (stays.kept j l), filled.single e j l, heads.rising j l);
      blank = stays.blank filled.blank;
    }
  where
    heads : Heads after n
    heads = stays.heads (filled_heads tower nodes wide area n filled light)

-- ---- pairs of one alternative

list_of_one : (ps : List Pending) → length ps ≡ 1 → (p : Pending) × (ps ≡ p ∷ [])
list_of_one [] e = absurd (omega arith)
list_of_one (p ∷ []) e = (p, refl)
list_of_one (p ∷ (q ∷ ps)) e = absurd (omega arith)

single_one : (o : Option Pending) (qs : List Pending) → single o ≡ these qs → 0 < length qs → length qs ≡ 1
unfolding single
single_one None qs e l = let f : ◌≡◌ {A = List Pending} [] qs = cc in absurd (omega (arith, ap length f))
single_one (Some p) qs e l = let f : (p ∷ []) ≡ qs = cc in sym (ap length f)

single_few : (o : Option Pending) → single o ≡ over → ⊥
unfolding single
single_few None e = let z : ◌≡◌ {A = ℕ} 0 1 = cc in omega arith
single_few (Some p) e = let z : ◌≡◌ {A = ℕ} 0 1 = cc in omega arith

module _ (tower : Tower) (book : Book) (sided : OneSided book) where
  -- Such a pair is not over_full.
  one_spare : (v : Pair) → length v.pending ≡ 1 → over_full tower book v ≡ false
  unfolding one
  one_spare v e =
      let (p, is) = list_of_one v.pending e in
      ap (λ ps. over_full tower book (record { state = v.state; pending = ps })) is ∙ full_one tower book sided (record { state = v.state; pending = p })

  -- It gives over 16 by no action.
  one_few : (v : Pair) (a : ℕ) → length v.pending ≡ 1 → alternatives_by tower book v a ≡ over → ⊥
  unfolding alternatives_by
  one_few v a e f =
      let (p, is) = list_of_one v.pending e in
      single_few (progressed tower book v.state (tower.step_length v.state a) p)
      (sym (progressed_one tower book v.state (tower.step_length v.state a) p sided)
      ∙ ap (progressed_set tower book v.state (tower.step_length v.state a)) (sym is) ∙ f)

  -- What comes of it is one alternative, if any.
  pub one_left : (v : Pair) (a : ℕ) (qs : List Pending) → length v.pending ≡ 1 → alternatives_by tower book v a ≡ these qs → 0 < length qs
      → length qs ≡ 1
  unfolding alternatives_by
  one_left v a qs e f l =
      let (p, is) = list_of_one v.pending e in
      single_one (progressed tower book v.state (tower.step_length v.state a) p) qs
      (sym (progressed_one tower book v.state (tower.step_length v.state a) p sided)
      ∙ ap (progressed_set tower book v.state (tower.step_length v.state a)) (sym is) ∙ f) l

-- So it is with the entries, where no `|` of the book has two timed sides.
module _ (tower : Tower) (nodes : List ℕ) (wide : Bool) (area : List ℕ) (n i : ℕ) (e : wide ≡ false)
    (filled : PairsFilled tower nodes wide area n) (low : i < n) where
  pub entry_single : length (pair_in nodes area i).pending ≡ 1
  entry_single =
      let counted : entry_first area (i + 1) - entry_first area i ≡ 1 = omega (arith, filled.single e i low) in
      count_of_pair nodes area i ∙ counted

  pub entry_spare : WideRight wide nodes → (h : IsHeld nodes) → over_full tower h.book (pair_in nodes area i) ≡ false
  entry_spare width h = one_spare tower h.book (width.says e h) (pair_in nodes area i) entry_single

  pub entry_few : WideRight wide nodes → (h : IsHeld nodes) (a : ℕ) → alternatives_by tower h.book (pair_in nodes area i) a ≡ over → ⊥
  entry_few width h a = one_few tower h.book (width.says e h) (pair_in nodes area i) a entry_single
