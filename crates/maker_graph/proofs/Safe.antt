-- The largest set of pairs that are fine among themselves are the safe pairs.
use Prim.Native.Nat.{ℕ, zero, suc, ◌<◌}
use mathlib.Core.Path.{◌≡◌, refl, sym, ◌∙◌, ap, subst}
use mathlib.Core.Logic.{◌⊎◌, inl, inr}
use mathlib.Core.Bool.{Bool, true, false, ◌&&◌, ◌||◌, not}
use Rattle.std.specs.Prelude.{None}
use mathlib.Core.List.{Memᴰ}
use native.Mathlib.Omega.{arith}
use lib.ListN.{length}
use borrow.Author.Tests.{not-true}
use Rattle.base.specs.Lists.{every, some_of, below, is_there, there_with}
use Rattle.base.proofs.Lists.{whether, never_both, same_truth, and_both, and_left, and_right, or_left, or_right, or_cases, not_in, below_every, below_some, every_below, some_below, is_there_in, there_not, there_with_in, there_with_out, whether_there, none-some, some_one, mem_get_or}
use Rattle.logic.specs.Tower.{Tower, controllable, goes_on, Listed}
use Rattle.logic.specs.Book.{Book}
use Rattle.alternatives.specs.Pairs.{Pair, first_pair, pair_step, pairs, over_pairs}
use Rattle.alternatives.proofs.Steps.{pair_step_out}
use Rattle.outcome.specs.Game.{forced_right, can_go, fine, safe_through, last_removal, safe}
use Rattle.outcome.proofs.Game.{safe_fine}
use Rattle.pair_graph.specs.Graph.{Move, not_enabled, broken, to, Graph, LeadsTo, led, Fine, Largest}
use Rattle.pair_graph.specs.GraphOf.{numbered, SaysStep, says_not_enabled, says_broken, says_to, GraphOf}

-- a move that leads to a safe pair is one to it
pub led_out : (staying : ℕ → Bool) (m : Move) → LeadsTo staying m → (j : ℕ) × (m ≡ to j) × (staying j ≡ true)
led_out staying m (led j k) = (j, refl, k)

-- an action that is not enabled makes no step
pub not_enabled_none : (tower : Tower) (book : Book) (i a : ℕ) → tower.target (numbered tower book i).state a ≡ None
    → pair_step tower book (numbered tower book i) a ≡ None
not_enabled_none tower book i a e =
    whether_there (pair_step tower book (numbered tower book i) a) (λ f. f)
    (λ w f. none-some e (pair_step_out tower book (numbered tower book i) w a f).0)

-- a broken step leads to none
broken_led {ℓ} : {C : Type ℓ} (staying : ℕ → Bool) → LeadsTo staying broken → C
broken_led staying l = let (j, e, k) = led_out staying broken l in let z : ◌≡◌ {A = ℕ} 0 1 = cc in absurd (omega arith)

module _ (tower : Tower) (book : Book) (graph : Graph) (of : GraphOf tower book graph) where
  -- a move that leads to a safe pair is a step to it
  led_step : (staying : ℕ → Bool) (test : Pair → Bool) (i a : ℕ) (m : Move) → ((j : ℕ) → j < length (pairs tower book) → staying j ≡ true → test (numbered tower book j) ≡ true)
      → SaysStep tower book i a m → LeadsTo staying m → there_with test (pair_step tower book (numbered tower book i) a) ≡ true
  led_step staying test i a not_enabled all _ x4 = elim x4 [ ]
  led_step staying test i a broken all _ x5 = elim x5 [ ]
  led_step staying test i a (to j) all (says_to _ lt e) (led _ k) = there_with_in test e (all j lt k)

  module _ (staying : ℕ → Bool) (test : Pair → Bool)
      (agree : (j : ℕ) → j < length (pairs tower book) → staying j ≡ true → test (numbered tower book j) ≡ true) (i : ℕ) (lt : i < graph.pairs) where
    -- an action that may not be withheld stays inside
    forced_in : Fine graph staying i → (a : ℕ) → a < tower.actions → forced_right tower book test (numbered tower book i) a ≡ true
    unfolding forced_right
    forced_in is a la =
        whether (controllable (tower.kind a)) (λ ours. or_left _ (or_left _ ours))
        (λ not_ours. go (graph.move i a) refl (of.moves i a lt (omega (arith, of.actions))) (ap controllable (of.kinds a) ∙ not_ours))
      where
        go : (m : Move) → graph.move i a ≡ m → SaysStep tower book i a m → controllable (graph.kind a) ≡ false
            → (controllable (tower.kind a) || not (is_there (tower.target (numbered tower book i).state a))
            || there_with test (pair_step tower book (numbered tower book i) a)) ≡ true
        go not_enabled e (says_not_enabled none_there) forced =
            or_left _ (or_right (controllable (tower.kind a)) (not_in (there_not none_there)))
        go broken e (says_broken y there stopped) forced = broken_led staying (subst (LeadsTo staying) e (is.forced a (omega (arith, of.actions)) forced (λ f. clash (sym f ∙ e))))
          where
            clash : not_enabled ≡ broken → ⊥
            clash f = let z : ◌≡◌ {A = ℕ} 0 1 = cc in omega arith
        go (to j) e says forced =
            or_right (controllable (tower.kind a) || not (is_there (tower.target (numbered tower book i).state a)))
            (led_step staying test i a (to j) agree says (subst (LeadsTo staying) e (is.forced a (omega (arith, of.actions)) forced (λ f. clash (sym f ∙ e)))))
          where
            clash : not_enabled ≡ to j → ⊥
            clash f = let z : ◌≡◌ {A = ℕ} 0 1 = cc in omega arith

    -- some action goes on inside
    goes_in : Fine graph staying i → some_of (can_go tower book test (numbered tower book i)) (below tower.actions) ≡ true
    unfolding can_go
    goes_in is =
        below_some (can_go tower book test (numbered tower book i)) tower.actions is.action (omega (arith, of.actions, is.listed))
        (and_both (ap goes_on (sym (of.kinds is.action)) ∙ is.goes)
        (led_step staying test i is.action (graph.move i is.action) agree (of.moves i is.action lt is.listed) is.leads))

    fine_in : Fine graph staying i → fine tower book test (numbered tower book i) ≡ true
    unfolding fine
    fine_in is = and_both (below_every (forced_right tower book test (numbered tower book i)) tower.actions (forced_in is)) (goes_in is)

  -- what stays and is fine among what stays is left after every round
  safe_rounds : (staying : ℕ → Bool) → ((i : ℕ) → i < graph.pairs → staying i ≡ true → Fine graph staying i)
      → (n i : ℕ) → i < graph.pairs → staying i ≡ true → safe_through tower book n (numbered tower book i) ≡ true
  unfolding safe_through
  safe_rounds staying all zero i lt k = refl
  safe_rounds staying all (suc n) i lt k =
      and_both (safe_rounds staying all n i lt k)
      (fine_in staying (safe_through tower book n) (λ j l e. safe_rounds staying all n j (omega (arith, of.count)) e) i lt (all i lt k))

  -- ---- and what is safe is fine among the safe

  module _ (listed : Listed tower) (few : over_pairs tower book ≡ false) where
    -- a pair with a number is met
    met : (i : ℕ) → i < graph.pairs → Memᴰ (numbered tower book i) (pairs tower book)
    unfolding numbered
    met i lt = mem_get_or (pairs tower book) i (first_pair tower book) (omega (arith, of.count))

    -- the safe pairs by number
    abbrev safe_number : ℕ → Bool
    safe_number i = safe tower book (numbered tower book i)

    -- a step to a safe pair is a move to one
    step_led : (i a : ℕ) (m : Move) → SaysStep tower book i a m → there_with (safe tower book) (pair_step tower book (numbered tower book i) a) ≡ true
        → LeadsTo safe_number m
    step_led i a not_enabled (says_not_enabled e) h =
        let (w, f, k) = there_with_out (safe tower book) (pair_step tower book (numbered tower book i) a) h in
        none-some (not_enabled_none tower book i a e) f
    step_led i a broken (says_broken y e g) h =
        let (w, f, k) = there_with_out (safe tower book) (pair_step tower book (numbered tower book i) a) h in none-some g f
    step_led i a (to j) (says_to _ lt e) h =
        let (w, f, k) = there_with_out (safe tower book) (pair_step tower book (numbered tower book i) a) h in
        led j (ap (safe tower book) (some_one e f) ∙ k)

    module _ (i : ℕ) (lt : i < graph.pairs) (is_safe : safe_number i ≡ true) where
      both : (every (forced_right tower book (safe tower book) (numbered tower book i)) (below tower.actions)
          && some_of (can_go tower book (safe tower book) (numbered tower book i)) (below tower.actions)) ≡ true
      both = unfold fine in (safe_fine tower book listed few (numbered tower book i) (met i lt) is_safe)

      forced_out : (a : ℕ) → a < graph.actions → controllable (graph.kind a) ≡ false → (graph.move i a ≡ not_enabled → ⊥)
          → LeadsTo safe_number (graph.move i a)
      unfolding forced_right
      forced_out a la not_ours enabled =
          step_led i a (graph.move i a) (of.moves i a lt la)
          (third
          (or_cases (controllable (tower.kind a) || not (is_there (tower.target (numbered tower book i).state a)))
          (there_with (safe tower book) (pair_step tower book (numbered tower book i) a))
          (every_below (forced_right tower book (safe tower book) (numbered tower book i)) tower.actions a
          (and_left (every (forced_right tower book (safe tower book) (numbered tower book i)) (below tower.actions))
          (some_of (can_go tower book (safe tower book) (numbered tower book i)) (below tower.actions)) both) (omega (arith, of.actions)))))
        where
          -- the action is enabled, and not ours
          neither : ((controllable (tower.kind a) || not (is_there (tower.target (numbered tower book i).state a))) ≡ true) → ⊥
          neither e = go (or_cases (controllable (tower.kind a)) (not (is_there (tower.target (numbered tower book i).state a))) e)
            where
              enabled_there : (m : Move) → graph.move i a ≡ m → SaysStep tower book i a m → is_there (tower.target (numbered tower book i).state a) ≡ true
              enabled_there not_enabled f (says_not_enabled g) = absurd (enabled f)
              enabled_there broken f (says_broken y g h) = is_there_in g
              enabled_there (to j) f (says_to _ l g) = is_there_in (pair_step_out tower book (numbered tower book i) (numbered tower book j) a g).0

              go : (controllable (tower.kind a) ≡ true) ⊎ (not (is_there (tower.target (numbered tower book i).state a)) ≡ true) → ⊥
              go (inl f) = never_both f (sym (ap controllable (of.kinds a)) ∙ not_ours)
              go (inr f) = never_both (enabled_there (graph.move i a) refl (of.moves i a lt la)) (not-true (is_there (tower.target (numbered tower book i).state a)) f)

          third : ((controllable (tower.kind a) || not (is_there (tower.target (numbered tower book i).state a))) ≡ true)
              ⊎ (there_with (safe tower book) (pair_step tower book (numbered tower book i) a) ≡ true)
              → there_with (safe tower book) (pair_step tower book (numbered tower book i) a) ≡ true
          third (inl e) = absurd (neither e)
          third (inr e) = e

      going_out : (a : ℕ) × (a < tower.actions) × (can_go tower book (safe tower book) (numbered tower book i) a ≡ true)
      going_out =
          some_below (can_go tower book (safe tower book) (numbered tower book i)) tower.actions
          (and_right (every (forced_right tower book (safe tower book) (numbered tower book i)) (below tower.actions))
          (some_of (can_go tower book (safe tower book) (numbered tower book i)) (below tower.actions)) both)

      safe_is_fine : Fine graph safe_number i
      safe_is_fine = go going_out
        where
          go : (a : ℕ) × (a < tower.actions) × (can_go tower book (safe tower book) (numbered tower book i) a ≡ true) → Fine graph safe_number i
          go (a, la, e) =
              let goes : (goes_on (tower.kind a) && there_with (safe tower book) (pair_step tower book (numbered tower book i) a)) ≡ true = unfold can_go in e in
              record {
                forced = forced_out;
                action = a;
                listed = omega (arith, of.actions);
                goes = ap goes_on (of.kinds a) ∙ and_left (goes_on (tower.kind a)) (there_with (safe tower book) (pair_step tower book (numbered tower book i) a)) goes;
                leads =
                    step_led i a (graph.move i a) (of.moves i a lt (omega (arith, of.actions)))
                    (and_right (goes_on (tower.kind a)) (there_with (safe tower book) (pair_step tower book (numbered tower book i) a)) goes);
              }

    -- The largest set is that of the safe pairs.
    pub largest_safe : (staying : ℕ → Bool) → Largest graph staying → (i : ℕ) → i < graph.pairs → staying i ≡ safe tower book (numbered tower book i)
    largest_safe staying largest i lt =
        same_truth (staying i) (safe_number i)
        (λ k. unfold safe in (safe_rounds staying largest.fine (last_removal tower book) i lt k))
        (λ s. largest.holds_all safe_number safe_is_fine i lt s)
