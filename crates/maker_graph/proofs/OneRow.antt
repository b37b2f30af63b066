-- The classes of safe pairs are the rows: two safe pairs are of one class exactly if they make one row.
use Prim.Native.Nat.{ℕ, zero, suc, ◌<◌}
use mathlib.Core.Path.{◌≡◌, refl, sym, ◌∙◌, ap₂, subst}
use mathlib.Core.Bool.{Bool, true, false}
use Rattle.std.specs.Prelude.{Option, None, Some, option_map}
use mathlib.Core.List.{Memᴰ}
use native.Mathlib.Omega.{arith}
use lib.ListN.{length}
use lib.Dec.{eqb}
use borrow.Author.Tests.{eqb-true, eq-eqb}
use Rattle.base.specs.Choice.{pick}
use Rattle.base.specs.Lists.{same_option, only_if}
use Rattle.base.proofs.Lists.{same_truth, mem_get_or}
use Rattle.logic.specs.Tower.{Tower}
use Rattle.logic.specs.Book.{Book}
use Rattle.alternatives.specs.Pairs.{first_pair, pair_step, pairs}
use Rattle.outcome.specs.Game.{safe, safe_step}
use Rattle.outcome.specs.Rows.{alike_for, last_split, one_row}
use Rattle.outcome.proofs.Alike.{Known, alike_more, one_row_state, one_row_step}
use Rattle.pair_graph.specs.Graph.{Move, not_enabled, broken, to, Graph, allowed_to, AlikeNow, SafePair, Classes}
use Rattle.pair_graph.specs.GraphOf.{numbered, SaysStep, says_not_enabled, says_broken, says_to, GraphOf}
use Rattle.maker_graph.proofs.Safe.{not_enabled_none}

-- What is known of the graph when its classes are looked at: it is that of the pairs, and the flagged ones are the safe.
pub record SafeGraph (tower : Tower) (book : Book) (graph : Graph) (staying : ℕ → Bool) : Type 0 where
  pub known : Known tower book
  pub of : GraphOf tower book graph
  pub safes : (i : ℕ) → i < graph.pairs → staying i ≡ safe tower book (numbered tower book i)

-- a test on values, asked of their images
same_option_map : {X Y : Type 0} (f : X → Y) (same : Y → Y → Bool) (o p : Option X)
    → same_option same (option_map f o) (option_map f p) ≡ same_option (λ x y. same (f x) (f y)) o p
unfolding same_option
same_option_map f same None None = refl
same_option_map f same None (Some y) = refl
same_option_map f same (Some x) None = refl
same_option_map f same (Some x) (Some y) = refl

module _ (tower : Tower) (book : Book) (graph : Graph) (staying : ℕ → Bool) (g : SafeGraph tower book graph staying) where
  module _ (i a : ℕ) where
    none_safe : pair_step tower book (numbered tower book i) a ≡ None → safe_step tower book (numbered tower book i) a ≡ None
    unfolding safe_step only_if
    none_safe e = rw e

    some_safe : (j : ℕ) → j < length (pairs tower book) → pair_step tower book (numbered tower book i) a ≡ Some (numbered tower book j)
        → safe_step tower book (numbered tower book i) a ≡ option_map (numbered tower book) (allowed_to staying (to j))
    unfolding safe_step only_if allowed_to
    some_safe j l e = rw (e, g.safes j (omega (arith, g.of.count))) (go (safe tower book (numbered tower book j)))
      where
        go : (b : Bool) → pick b (λ _. Some (numbered tower book j)) (λ _. None) ≡ option_map (numbered tower book) (pick b (λ _. Some j) (λ _. None))
        go true = refl
        go false = refl

  -- an allowed step of a number is one of its pair
  pub allowed_step : (i a : ℕ) → i < graph.pairs → a < graph.actions
      → safe_step tower book (numbered tower book i) a ≡ option_map (numbered tower book) (allowed_to staying (graph.move i a))
  allowed_step i a lt la = go (graph.move i a) (g.of.moves i a lt la)
    where
      go : (m : Move) → SaysStep tower book i a m
          → safe_step tower book (numbered tower book i) a ≡ option_map (numbered tower book) (allowed_to staying m)
      go not_enabled (says_not_enabled e) = unfold allowed_to in (none_safe i a (not_enabled_none tower book i a e))
      go broken (says_broken y e f) = unfold allowed_to in (none_safe i a f)
      go (to j) (says_to _ l e) = some_safe i a j l e

  -- what an allowed step leads to is there and kept
  pub allowed_safe : (i a j : ℕ) → i < graph.pairs → a < graph.actions → allowed_to staying (graph.move i a) ≡ Some j → SafePair graph staying j
  allowed_safe i a j lt la e = go (graph.move i a) (g.of.moves i a lt la) e
    where
      pick_out : (b : Bool) (k : ℕ) → pick b (λ _. Some k) (λ _. None) ≡ Some j → (b ≡ true) × (k ≡ j)
      pick_out true k f = (refl, let z : k ≡ j = cc in z)
      pick_out false k f = let z : ◌≡◌ {A = ℕ} 0 1 = cc in absurd (omega arith)

      go : (m : Move) → SaysStep tower book i a m → allowed_to staying m ≡ Some j → SafePair graph staying j
      go not_enabled says f = let h : None ≡ Some j = unfold allowed_to in f in let z : ◌≡◌ {A = ℕ} 0 1 = cc in absurd (omega arith)
      go broken says f = let h : None ≡ Some j = unfold allowed_to in f in let z : ◌≡◌ {A = ℕ} 0 1 = cc in absurd (omega arith)
      go (to k) (says_to _ l s) f =
          let (b, same) = pick_out (staying k) k (unfold allowed_to in f) in
          subst (SafePair graph staying) same (record { there = omega (arith, g.of.count); is_safe = b })

  module _ (class : ℕ → ℕ) (classes : Classes graph staying class) where
    -- two of one class are alike for any number of steps
    class_alike : (n i j : ℕ) → SafePair graph staying i → SafePair graph staying j → class i ≡ class j
        → alike_for tower book n (numbered tower book i) (numbered tower book j) ≡ true
    class_alike zero i j ki kj e =
        unfold alike_for in
        (eq-eqb (numbered tower book i).state (numbered tower book j).state
        (sym (g.of.states i ki.there) ∙ (classes.stable i j ki kj e).state ∙ g.of.states j kj.there))
    class_alike (suc n) i j ki kj e =
        alike_more tower book n (numbered tower book i) (numbered tower book j) (class_alike n i j ki kj e)
        (λ a la. step a (omega (arith, g.of.actions)) (λ k l kk kl f. class_alike n k l kk kl f))
      where
        step : (a : ℕ) → a < graph.actions
            → ((k l : ℕ) → SafePair graph staying k → SafePair graph staying l → class k ≡ class l → alike_for tower book n (numbered tower book k) (numbered tower book l) ≡ true)
            → same_option (alike_for tower book n) (safe_step tower book (numbered tower book i) a) (safe_step tower book (numbered tower book j) a) ≡ true
        step a la ih =
            rw (allowed_step i a ki.there la, allowed_step j a kj.there la)
            (go (allowed_to staying (graph.move i a)) (allowed_to staying (graph.move j a)) refl refl ((classes.stable i j ki kj e).steps a la))
          where
            go : (o p : Option ℕ) → allowed_to staying (graph.move i a) ≡ o → allowed_to staying (graph.move j a) ≡ p
                → same_option (λ k l. eqb (class k) (class l)) o p ≡ true
                → same_option (alike_for tower book n) (option_map (numbered tower book) o) (option_map (numbered tower book) p) ≡ true
            go None None eo ep f = unfold same_option in refl
            go None (Some l) eo ep f = unfold same_option in f
            go (Some k) None eo ep f = unfold same_option in f
            go (Some k) (Some l) eo ep f =
                unfold same_option in
                (ih k l (allowed_safe i a k ki.there la eo) (allowed_safe j a l kj.there la ep) (eqb-true (class k) (class l) (unfold same_option in f)))

    -- Two safe pairs are of one class exactly if they make one row.
    pub class_row : (i j : ℕ) → SafePair graph staying i → SafePair graph staying j → eqb (class i) (class j) ≡ one_row tower book (numbered tower book i) (numbered tower book j)
    class_row i j ki kj =
        same_truth (eqb (class i) (class j)) (one_row tower book (numbered tower book i) (numbered tower book j))
        (λ e. unfold one_row in (class_alike (last_split tower book) i j ki kj (eqb-true (class i) (class j) e)))
        (λ e. eq-eqb (class i) (class j) (classes.coarsest rows alike i j ki kj e))
      where
        rows : ℕ → ℕ → Bool
        rows k l = one_row tower book (numbered tower book k) (numbered tower book l)

        met : (k : ℕ) → k < graph.pairs → Memᴰ (numbered tower book k) (pairs tower book)
        met k lt = unfold numbered in (mem_get_or (pairs tower book) k (first_pair tower book) (omega (arith, g.of.count)))

        alike : (k l : ℕ) → SafePair graph staying k → SafePair graph staying l → rows k l ≡ true → AlikeNow graph staying rows k l
        alike k l kk kl e =
            record {
              state = g.of.states k kk.there ∙ one_row_state tower book (numbered tower book k) (numbered tower book l) e ∙ sym (g.of.states l kl.there);
              steps = λ a la.
                  sym (same_option_map (numbered tower book) (one_row tower book) (allowed_to staying (graph.move k a)) (allowed_to staying (graph.move l a)))
                  ∙ ap₂ (same_option (one_row tower book)) (sym (allowed_step k a kk.there la)) (sym (allowed_step l a kl.there la))
                  ∙ one_row_step tower book g.known (numbered tower book k) (numbered tower book l) (met k kk.there) (met l kl.there) e a;
            }
