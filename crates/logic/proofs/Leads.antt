-- The laws of `leads`, for any moves: what a list of actions leads to, step by step and part by part.
use Prim.Native.Nat.{ℕ}
use mathlib.Core.Path.{◌≡◌, refl, sym, ◌∙◌, ap}
use Rattle.std.specs.Prelude.{Option, None, Some}
use Rattle.base.specs.Options.{bind}
use Rattle.base.proofs.Options.{bind-eq-some_iff}
use mathlib.Core.List.{List, [], ◌∷◌, ◌++◌}
use Rattle.logic.specs.Runs.{leads}

module _ {X : Type 0} (move : X → ℕ → Option X) where
  -- The empty list of actions leads nowhere else.
  pub leads_nil : (x : X) → leads move x [] ≡ Some x
  unfolding leads
  leads_nil x = refl

  -- Where the first action is there, the rest decides.
  pub leads_step : (x y : X) (a : ℕ) (w : List ℕ) → move x a ≡ Some y → leads move x (a ∷ w) ≡ leads move y w
  unfolding leads bind
  leads_step x y a w e = rw e

  -- Where the first action is not there, nothing is led to.
  pub leads_stuck : (x : X) (a : ℕ) (w : List ℕ) → move x a ≡ None → leads move x (a ∷ w) ≡ None
  unfolding leads bind
  leads_stuck x a w e = rw e

  -- A step and what leads on from it make one longer way.
  pub leads_in : (x y z : X) (a : ℕ) (w : List ℕ) → move x a ≡ Some y → leads move y w ≡ Some z → leads move x (a ∷ w) ≡ Some z
  leads_in x y z a w e f = leads_step x y a w e ∙ f

  -- What leads somewhere takes its first step and leads on from there.
  pub leads_out : (x z : X) (a : ℕ) (w : List ℕ) → leads move x (a ∷ w) ≡ Some z
      → (y : X) × (move x a ≡ Some y) × (leads move y w ≡ Some z)
  unfolding leads
  leads_out x z a w e = (bind-eq-some_iff (move x a) (λ y. leads move y w)).0 e

  -- One action leads where its move does.
  pub leads_one : (x : X) (a : ℕ) → leads move x (a ∷ []) ≡ move x a
  unfolding leads
  leads_one x a = bind_some (move x a)
    where
      bind_some : (o : Option X) → bind o (λ y. Some y) ≡ o
      bind_some None = unfold bind in refl
      bind_some (Some y) = unfold bind in refl

  -- Two lists of actions, one after the other.
  pub leads_append : (x : X) (w u : List ℕ) → leads move x (w ++ u) ≡ bind (leads move x w) (λ y. leads move y u)
  unfolding leads bind
  leads_append x [] u = refl
  leads_append x (a ∷ w) u = go (move x a) (λ y. leads_append y w u)
    where
      go : (o : Option X) → ((y : X) → leads move y (w ++ u) ≡ bind (leads move y w) (λ z. leads move z u))
          → bind o (λ y. leads move y (w ++ u)) ≡ bind (bind o (λ y. leads move y w)) (λ y. leads move y u)
      go None ih = refl
      go (Some y) ih = ih y

  -- Behind a list of actions that leads to y, the rest leads on from y.
  pub leads_past : (x y : X) (w u : List ℕ) → leads move x w ≡ Some y → leads move x (w ++ u) ≡ leads move y u
  unfolding bind
  leads_past x y w u e = leads_append x w u ∙ ap (λ o. bind o (λ z. leads move z u)) e

  -- A way and one that leads on from its end make one longer way.
  pub append_in : (x y z : X) (w u : List ℕ) → leads move x w ≡ Some y → leads move y u ≡ Some z → leads move x (w ++ u) ≡ Some z
  append_in x y z w u e f = leads_past x y w u e ∙ f

  -- A way in two parts has a place between them.
  pub append_out : (x z : X) (w u : List ℕ) → leads move x (w ++ u) ≡ Some z
      → (y : X) × (leads move x w ≡ Some y) × (leads move y u ≡ Some z)
  append_out x z w u e = (bind-eq-some_iff (leads move x w) (λ y. leads move y u)).0 (sym (leads_append x w u) ∙ e)

  -- One more action at the end.
  pub leads_snoc : (x : X) (w : List ℕ) (a : ℕ) → leads move x (w ++ (a ∷ [])) ≡ bind (leads move x w) (λ y. move y a)
  unfolding bind
  leads_snoc x w a = leads_append x w (a ∷ []) ∙ go (leads move x w)
    where
      go : (o : Option X) → bind o (λ y. leads move y (a ∷ [])) ≡ bind o (λ y. move y a)
      go None = refl
      go (Some y) = leads_one y a

  -- A way and one more move make a longer way.
  pub snoc_in : (x y z : X) (w : List ℕ) (a : ℕ) → leads move x w ≡ Some y → move y a ≡ Some z → leads move x (w ++ (a ∷ [])) ≡ Some z
  snoc_in x y z w a e f = leads_past x y w (a ∷ []) e ∙ leads_one y a ∙ f

  -- A way of one action more has a place before its last move.
  pub snoc_out : (x z : X) (w : List ℕ) (a : ℕ) → leads move x (w ++ (a ∷ [])) ≡ Some z
      → (y : X) × (leads move x w ≡ Some y) × (move y a ≡ Some z)
  snoc_out x z w a e = (bind-eq-some_iff (leads move x w) (λ y. move y a)).0 (sym (leads_snoc x w a) ∙ e)
