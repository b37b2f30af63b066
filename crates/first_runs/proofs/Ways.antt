-- Numbered places: the run by which each place was first met leads there, is the soonest that does, and such runs are in the order of the places.
-- So the first step that breaks something ends the soonest run that ends so.
use Prim.Native.Nat.{ℕ, zero, suc, ◌≤◌, ◌<◌}
use mathlib.Core.Path.{◌≡◌, refl, sym, ap, subst, ◌∙◌}
use mathlib.Core.Logic.{◌⊎◌, inl, inr, ⊎_elim}
use mathlib.Core.Bool.{Bool, true}
use Rattle.std.specs.Prelude.{Option, Some}
use mathlib.Core.List.{List, [], ◌∷◌, ◌++◌, append-nil}
use native.Mathlib.Omega.{arith}
use native.Mathlib.Nat.{eq-or-lt_of_le, eq-zero-or-pos}
use lib.ListN.{length}
use lib.Seq.{append_snoc}
use Rattle.base.proofs.Lists.{some_one}
use Rattle.logic.specs.Runs.{leads}
use Rattle.logic.specs.Why.{Sooner, Soonest}
use Rattle.logic.proofs.Leads.{leads_nil, snoc_in, snoc_out}
use Rattle.first_runs.specs.Numbered.{NoLater, Numbered, WayTo, way_start, way_on}
use Rattle.first_runs.proofs.Sooner.{length_snoc, sooner_trans, sooner_snoc, sooner_last, sooner_not_self}

-- The run ends with an action that breaks something at the place that the actions before it lead to.
pub record EndsBroken (go : ℕ → ℕ → Option ℕ) (breaks : ℕ → ℕ → Bool) (v : List ℕ) : Type 0 where
  pub run : List ℕ
  pub action : ℕ
  pub place : ℕ
  pub is : v ≡ run ++ (action ∷ [])
  pub led : leads go 0 run ≡ Some place
  pub broken : breaks place action ≡ true

-- ---- Runs from their ends

-- What holds of a run and stays so with an action more holds of it with any actions behind it.
by_more : (Has : List ℕ → Type 0) → ((u : List ℕ) (a : ℕ) → Has u → Has (u ++ (a ∷ []))) → (u v : List ℕ) → Has u → Has (u ++ v)
by_more Has on u [] h = subst Has (sym (append-nil u)) h
by_more Has on u (a ∷ v) h = subst Has (append_snoc u a v) (by_more Has on (u ++ (a ∷ [])) v (on u a h))

-- What holds of the empty run and stays so with an action more holds of all runs.
by_last : (Has : List ℕ → Type 0) → Has [] → ((u : List ℕ) (a : ℕ) → Has u → Has (u ++ (a ∷ []))) → (v : List ℕ) → Has v
by_last Has first on v = by_more Has on [] v first

-- Of two runs of which the first comes no later, the second does not come sooner.
not_before : (u v : List ℕ) → (u ≡ v) ⊎ Sooner u v → Sooner v u → ⊥
not_before u v (inl e) s = sooner_not_self v (rw e at s)
not_before u v (inr l) s = sooner_not_self u (sooner_trans u v u l s)

-- The empty run comes sooner than any with an action at its end.
empty_sooner : (u : List ℕ) (a : ℕ) → Sooner [] (u ++ (a ∷ []))
unfolding Sooner
empty_sooner u a = inl (omega (arith, length_snoc u a))

-- Of two steps, each with a run before it, the earlier one ends the sooner run, or both runs are the same: where the first place is the earlier one
-- the first run is the sooner one, and x, which leads to the second place, comes no later than the second run.
step_order : (i a k b : ℕ) (w x u : List ℕ) → NoLater i a k b → (i < k → Sooner w x) → (i ≡ k → w ≡ x) → (x ≡ u) ⊎ Sooner x u
    → ((w ++ (a ∷ [])) ≡ (u ++ (b ∷ []))) ⊎ Sooner (w ++ (a ∷ [])) (u ++ (b ∷ []))
unfolding NoLater
step_order i a k b w x u (inl l) before same (inl e) = inr (sooner_snoc w u a b (rw (← e) (before l)))
step_order i a k b w x u (inl l) before same (inr s) = inr (sooner_snoc w u a b (sooner_trans w x u (before l) s))
step_order i a k b w x u (inr (d, l)) before same (inl e) = rw (same d ∙ e) (⊎_elim
    (λ c. inl (ap (λ (z : ℕ). u ++ (z ∷ [])) c))
    (λ m. inr (sooner_last u a b m))
    (eq-or-lt_of_le l))
step_order i a k b w x u (inr (d, l)) before same (inr s) = inr (sooner_snoc w u a b (rw (same d) s))

-- ---- Ways

module _ (from action : ℕ → ℕ) where
  -- The way to place 0 is the empty run.
  way_zero : (j : ℕ) (w : List ℕ) → WayTo from action j w → j ≡ 0 → w ≡ []
  way_zero _ _ way_start e = refl
  way_zero _ _ (way_on j u l p) e = absurd (omega arith)

  -- The way to a later place is the way to the place that it was met from, and the action.
  way_last : (j : ℕ) (w : List ℕ) → WayTo from action j w → 0 < j
      → (u : List ℕ) × WayTo from action (from j) u × (w ≡ u ++ (action j ∷ []))
  way_last _ _ way_start l = absurd (omega arith)
  way_last _ _ (way_on j u k p) l = (u, p, refl)

  -- There is one way to a place.
  pub way_one : (j : ℕ) (u v : List ℕ) → WayTo from action j u → WayTo from action j v → u ≡ v
  way_one _ _ v way_start q = sym (way_zero 0 v q refl)
  way_one _ _ v (way_on j w l p) q =
      let (z, r, e) = way_last j v q l in
      ap (λ (t : List ℕ). t ++ (action j ∷ [])) (way_one (from j) w z p r) ∙ sym e

module _ {go : ℕ → ℕ → Option ℕ} {n : ℕ} {from action : ℕ → ℕ} (numbered : Numbered go n from action) where
  -- What a place was met from is a place.
  from_there : (j : ℕ) → 0 < j → j < n → from j < n
  from_there j l k = let e = (numbered.met j l k).earlier in omega arith

  -- Of the places below a number, there is a way to each, of no more actions than its own number.
  way_below : (most j : ℕ) → j < most → j < n → (w : List ℕ) × WayTo from action j w × (length w ≤ j)
  way_below zero j l k = absurd (omega arith)
  way_below (suc most) zero l k = ([], way_start, omega arith)
  way_below (suc most) (suc j) l k =
      more (way_below most (from (suc j)) (omega (arith, near)) (from_there (suc j) (omega arith) k))
    where
      near : from (suc j) < suc j
      near = (numbered.met (suc j) (omega arith) k).earlier

      more : (w : List ℕ) × WayTo from action (from (suc j)) w × (length w ≤ from (suc j))
          → (w : List ℕ) × WayTo from action (suc j) w × (length w ≤ suc j)
      more (w, p, m) = (w ++ (action (suc j) ∷ []), way_on (suc j) w (omega arith) p, omega (arith, near, length_snoc w (action (suc j))))

  -- There is a way to each place, of no more actions than its number.
  pub way_there : (j : ℕ) → j < n → (w : List ℕ) × WayTo from action j w × (length w ≤ j)
  way_there j l = way_below (suc j) j (omega arith) l

  -- The way to a place leads there.
  pub way_leads : (j : ℕ) → j < n → (w : List ℕ) → WayTo from action j w → leads go 0 w ≡ Some j
  way_leads _ l _ way_start = leads_nil go 0
  way_leads _ l _ (way_on j w k p) =
      snoc_in go 0 (from j) j w (action j) (way_leads (from j) (from_there j k l) w p) (numbered.met j k l).leads

  -- Whatever a run leads to is a place.
  pub led_inside : (v : List ℕ) (j : ℕ) → leads go 0 v ≡ Some j → j < n
  led_inside = by_last (λ v. (j : ℕ) → leads go 0 v ≡ Some j → j < n) first on
    where
      first : (j : ℕ) → leads go 0 [] ≡ Some j → j < n
      first j e = let z = some_one e (leads_nil go 0) in omega (arith, numbered.some_place)

      on : (u : List ℕ) (a : ℕ) → ((j : ℕ) → leads go 0 u ≡ Some j → j < n) → (j : ℕ) → leads go 0 (u ++ (a ∷ [])) ≡ Some j → j < n
      on u a h j e = let (k, f, s) = snoc_out go 0 j u a e in numbered.inside k a j (h k f) s

  -- Ways that are the same lead to one place.
  way_place : (i j : ℕ) → i < n → j < n → (u v : List ℕ) → WayTo from action i u → WayTo from action j v → u ≡ v → i ≡ j
  way_place i j l k u v p q e = some_one (way_leads i l u p) (ap (leads go 0) e ∙ way_leads j k v q)

  -- The way to an earlier place is sooner, if it is so with the place that the later one was met from.
  order_on : (i j : ℕ) → i < j → j < n → 0 < j → (u v : List ℕ) → WayTo from action i u → WayTo from action (from j) v
      → ((h : ℕ) (w : List ℕ) → h < from j → WayTo from action h w → Sooner w v) → Sooner u (v ++ (action j ∷ []))
  order_on i j l k m u v p q ih = ⊎_elim start (λ z. later z (way_last from action i u p z)) (eq-zero-or-pos i)
    where
      start : i ≡ 0 → Sooner u (v ++ (action j ∷ []))
      start e = rw (way_zero from action i u p e) (empty_sooner v (action j))

      apart : u ≡ v ++ (action j ∷ []) → ⊥
      apart e = let z = way_place i j (omega arith) k u (v ++ (action j ∷ [])) p (way_on j v m q) e in omega arith

      later : 0 < i → (w : List ℕ) × WayTo from action (from i) w × (u ≡ w ++ (action i ∷ [])) → Sooner u (v ++ (action j ∷ []))
      later z (w, r, e) =
          ⊎_elim (λ d. absurd (apart (e ∙ d))) (λ s. rw e s)
          (step_order (from i) (action i) (from j) (action j) w v v
          ((numbered.met i z (omega arith)).first (from j) (action j) j (numbered.met j m k).leads (omega arith))
          (λ x. ih (from i) w x r) (λ d. way_one from action (from j) w v (rw d at r) q) (inl refl))

  -- The way to an earlier place is sooner.
  pub way_order : (i j : ℕ) → i < j → j < n → (u v : List ℕ) → WayTo from action i u → WayTo from action j v → Sooner u v
  way_order i _ l k u _ p way_start = absurd (omega arith)
  way_order i _ l k u _ p (way_on j v m q) =
      order_on i j l k m u v p q (λ h w x r. way_order h (from j) x (from_there j m k) w v r q)

  -- A step that comes no later than another ends a run that comes no later: the way to its place, against any run to the other's place.
  step_no_later : (i a k b : ℕ) → k < n → NoLater i a k b → (w u : List ℕ) → WayTo from action i w
      → ((x : List ℕ) → WayTo from action k x → (x ≡ u) ⊎ Sooner x u)
      → ((w ++ (a ∷ [])) ≡ (u ++ (b ∷ []))) ⊎ Sooner (w ++ (a ∷ [])) (u ++ (b ∷ []))
  step_no_later i a k b l no_later w u p ih = held (way_there k l)
    where
      held : (x : List ℕ) × WayTo from action k x × (length x ≤ k)
          → ((w ++ (a ∷ [])) ≡ (u ++ (b ∷ []))) ⊎ Sooner (w ++ (a ∷ [])) (u ++ (b ∷ []))
      held (x, q, m) =
          step_order i a k b w x u no_later (λ z. way_order i k z l w x p q) (λ d. way_one from action k w x (rw d at p) q) (ih x q)

  -- No run with a step to place j at its end comes sooner than the way there, if none to the place before the step does.
  no_later_on : (u : List ℕ) (a k : ℕ) → k < n → ((x : List ℕ) → WayTo from action k x → (x ≡ u) ⊎ Sooner x u) → (j : ℕ) → go k a ≡ Some j
      → (w : List ℕ) → WayTo from action j w → (w ≡ u ++ (a ∷ [])) ⊎ Sooner w (u ++ (a ∷ []))
  no_later_on u a k l ih _ s _ way_start = inr (empty_sooner u a)
  no_later_on u a k l ih _ s _ (way_on j w m q) =
      step_no_later (from j) (action j) k a l ((numbered.met j m (numbered.inside k a j l s)).first k a j s (omega arith)) w u q ih

  -- The way to a place comes no later than any run that leads there.
  pub way_no_later : (j : ℕ) (w v : List ℕ) → WayTo from action j w → leads go 0 v ≡ Some j → (w ≡ v) ⊎ Sooner w v
  way_no_later j w v p e =
      by_last (λ u. (i : ℕ) (z : List ℕ) → WayTo from action i z → leads go 0 u ≡ Some i → (z ≡ u) ⊎ Sooner z u) first on v j w p e
    where
      first : (j : ℕ) (w : List ℕ) → WayTo from action j w → leads go 0 [] ≡ Some j → (w ≡ []) ⊎ Sooner w []
      first j w p e = inl (way_zero from action j w p (some_one e (leads_nil go 0)))

      on : (u : List ℕ) (a : ℕ) → ((j : ℕ) (w : List ℕ) → WayTo from action j w → leads go 0 u ≡ Some j → (w ≡ u) ⊎ Sooner w u)
          → (j : ℕ) (w : List ℕ) → WayTo from action j w → leads go 0 (u ++ (a ∷ [])) ≡ Some j
          → (w ≡ u ++ (a ∷ [])) ⊎ Sooner w (u ++ (a ∷ []))
      on u a h j w p e =
          let (k, f, s) = snoc_out go 0 j u a e in
          no_later_on u a k (led_inside u k f) (λ x q. h k x q f) j s w p

  -- No run leads to a place sooner than the way there.
  pub way_soonest : (j : ℕ) (w v : List ℕ) → WayTo from action j w → leads go 0 v ≡ Some j → Sooner v w → ⊥
  way_soonest j w v p e s = not_before w v (way_no_later j w v p e) s

  -- ---- Broken steps

  -- The first step that breaks something ends the soonest run that ends so, behind the way to its place.
  pub break_soonest : (breaks : ℕ → ℕ → Bool) (i a : ℕ) → i < n → breaks i a ≡ true
      → ((k b : ℕ) → k < n → breaks k b ≡ true → NoLater i a k b)
      → (w : List ℕ) → WayTo from action i w → Soonest (EndsBroken go breaks) (w ++ (a ∷ []))
  break_soonest breaks i a l e first w p =
      record {
        is = record { run = w; action = a; place = i; is = refl; led = way_leads i l w p; broken = e };
        none_sooner = sooner;
      }
    where
      sooner : (v : List ℕ) → EndsBroken go breaks v → Sooner v (w ++ (a ∷ [])) → ⊥
      sooner v h s =
          let u = h.run in
          let k = h.place in
          let b = h.action in
          let m = led_inside u k h.led in
          not_before (w ++ (a ∷ [])) (u ++ (b ∷ []))
          (step_no_later i a k b m (first k b m h.broken) w u p (λ x q. way_no_later k x u q h.led)) (rw h.is at s)
