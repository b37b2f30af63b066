-- What an A leaves where it stays pending before its part progresses: the same as behind it.
use Prim.Native.Nat.{ℕ, ◌<◌}
use native.Mathlib.Omega.{arith}
use mathlib.Core.Path.{◌≡◌, refl, sym, ap}
use mathlib.Core.Bool.{Bool, true, false}
use Rattle.std.specs.Prelude.{Option, None, Some}
use Rattle.base.specs.Options.{bind}
use mathlib.Core.List.{List}
use lib.ListN.{get_or}
use lib.Seq.{get_or-set_other, set_comm}
use Rattle.base.specs.Choice.{pick}
use Rattle.logic.specs.Time.{minus, at_most}
use Rattle.logic.specs.Tower.{Tower}
use Rattle.logic.specs.Book.{Formula, constant, proposition, and, or, next, always_for, until, compares, timed, first_part, second_part}
use Rattle.logic.specs.declared.Tick.{Tick}
use Rattle.pending.specs.Pending.{Pending, holds, fresh, coming, put, provided, progress}
use Rattle.book_progression.specs.NodeBytes.{Stored}

-- Two nodes become pending in either order.
put_put : (f g : Formula) (k j : ℕ) (r s : Tick) (p : Pending) → j < k → put g j s (put f k r p) ≡ put f k r (put g j s p)
unfolding put
put_put f g k j r s p below =
    rw (
      get_or-set_other p k j (Some (coming f r (get_or p k None))) None (λ e. omega arith),
      get_or-set_other p j k (Some (coming g s (get_or p j None))) None (λ e. omega arith),
    )
    (set_comm p k j _ _ (λ e. omega arith))

-- A step commutes with a change of what is pending: the change may be made before it or behind it.
abbrev Commutes : (Pending → Pending) → (Pending → Option Pending) → Type 0
Commutes change step = (p : Pending) → step (change p) ≡ bind (step p) (λ q. Some (change q))

module _ (change : Pending → Pending) where
  commutes_some : (step : Pending → Pending) → ((p : Pending) → step (change p) ≡ change (step p)) → Commutes change (λ p. Some (step p))
  unfolding bind
  commutes_some step same p = ap (λ q. Some q) (same p)

  commutes_provided : (b : Bool) (step : Pending → Option Pending) → Commutes change step → Commutes change (λ p. provided b (step p))
  unfolding bind provided
  commutes_provided true step one p = one p
  commutes_provided false step one p = refl

  commutes_pick : (b : Bool) (step other : Pending → Option Pending) → Commutes change step → Commutes change other
      → Commutes change (λ p. pick b (λ _. step p) (λ _. other p))
  commutes_pick true step other one two p = one p
  commutes_pick false step other one two p = two p

  commutes_bind : (step then : Pending → Option Pending) → Commutes change step → Commutes change then → Commutes change (λ p. bind (step p) then)
  unfolding bind
  commutes_bind step then one two p = rw (one p) (go (step p))
    where
      go : (o : Option Pending) → bind (bind o (λ q. Some (change q))) then ≡ bind (bind o then) (λ q. Some (change q))
      go None = refl
      go (Some q) = two q

module _ (bytes : List ℕ) (tower : Tower) (x : ℕ) (d : Tick) (f : Formula) (k : ℕ) (r : Tick) where
  -- node k becomes pending
  abbrev putting : Pending → Pending
  putting p = put f k r p

  -- a lower node becomes pending,
  commutes_put : (g : Formula) (j : ℕ) (s : Tick) → j < k → Commutes putting (λ p. Some (put g j s p))
  commutes_put g j s below = commutes_some putting (λ p. put g j s p) (λ p. put_put f g k j r s p below)

  -- or stays so,
  commutes_stay : (g : Formula) (j : ℕ) (s : Tick) (b : Bool) → j < k → Commutes putting (λ p. Some (pick b (λ _. put g j s p) (λ _. p)))
  commutes_stay g j s true below = commutes_put g j s below
  commutes_stay g j s false below = commutes_some putting (λ p. p) (λ p. refl)

  -- or progresses.
  commutes_progress : (g : Formula) (j : ℕ) (s : Tick) → Stored bytes g j → j < k → Commutes putting (λ p. progress tower x d g j s p)
  unfolding progress Stored
  commutes_progress (constant b) j s stored below =
      commutes_provided putting (holds tower x (constant b)) (λ p. Some p) (commutes_some putting (λ p. p) (λ p. refl))
  commutes_progress (proposition w m) j s stored below =
      commutes_provided putting (holds tower x (proposition w m)) (λ p. Some p) (commutes_some putting (λ p. p) (λ p. refl))
  commutes_progress (and g h) j s stored below =
      commutes_bind putting _ _ (commutes_progress g (first_part j h) (fresh g) stored.1 (omega (arith, stored.3)))
      (commutes_progress h (second_part j) (fresh h) stored.2 (omega (arith, stored.4)))
  commutes_progress (or g h) j s stored below =
      commutes_pick putting (timed g) _ _
      (commutes_pick putting (holds tower x h) _ _ (commutes_some putting (λ p. p) (λ p. refl))
      (commutes_progress g (first_part j h) (fresh g) stored.1 (omega (arith, stored.3))))
      (commutes_pick putting (holds tower x g) _ _ (commutes_some putting (λ p. p) (λ p. refl))
      (commutes_progress h (second_part j) (fresh h) stored.2 (omega (arith, stored.4))))
  commutes_progress (next c t g) j s stored below =
      commutes_provided putting (compares c d t) _ (commutes_put g (second_part j) (fresh g) (omega (arith, stored.2)))
  commutes_progress (always_for t g) j s stored below =
      commutes_bind putting _ _ (commutes_progress g (second_part j) (fresh g) stored.1 (omega (arith, stored.2)))
      (commutes_stay (always_for t g) j (minus s d) (at_most d s) below)
  commutes_progress (until t g h) j s stored below =
      commutes_pick putting (holds tower x h) _ _ (commutes_some putting (λ p. p) (λ p. refl))
      (commutes_provided putting (at_most d s) _
      (commutes_bind putting _ _ (commutes_progress g (first_part j h) (fresh g) stored.1 (omega (arith, stored.3)))
      (commutes_put (until t g h) j (minus s d) below)))

bind_some : (o : Option Pending) → bind o (λ p. Some p) ≡ o
unfolding bind
bind_some None = refl
bind_some (Some p) = refl

-- An A may stay before its part progresses.
pub always_first : (bytes : List ℕ) (tower : Tower) (x : ℕ) (d t : Tick) (g : Formula) (k : ℕ) (r : Tick) (p : Pending) → Stored bytes (always_for t g) k
    → progress tower x d (always_for t g) k r p
    ≡ progress tower x d g (second_part k) (fresh g) (pick (at_most d r) (λ _. put (always_for t g) k (minus r d) p) (λ _. p))
unfolding progress Stored
always_first bytes tower x d t g k r p stored = go (at_most d r)
  where
    go : (b : Bool) → bind (progress tower x d g (second_part k) (fresh g) p) (λ q. Some (pick b (λ _. put (always_for t g) k (minus r d) q) (λ _. q)))
        ≡ progress tower x d g (second_part k) (fresh g) (pick b (λ _. put (always_for t g) k (minus r d) p) (λ _. p))
    go true = sym (commutes_progress bytes tower x d (always_for t g) k (minus r d) g (second_part k) (fresh g) stored.1 stored.2 p)
    go false = bind_some (progress tower x d g (second_part k) (fresh g) p)
