-- The order of runs, shorter ones first and then by action numbers compared from the left: it is strict and total, and it is kept where an action
-- is added at the end. So there is one soonest run of a kind.
use Prim.Native.Nat.{ℕ, suc, ◌<◌}
use mathlib.Core.Path.{◌≡◌, refl, sym, ap₂, ◌∙◌}
use mathlib.Core.Logic.{◌⊎◌, inl, inr, ⊎_elim, ◌↔◌}
use mathlib.Core.List.{List, [], ◌∷◌, ◌++◌}
use native.Mathlib.Omega.{arith}
use native.Mathlib.Decide.{dec_lt}
use lib.ListN.{length, length-append}
use Rattle.logic.specs.Why.{Lower, Sooner, Soonest}

-- ---- Lower

-- Lower than one that is lower than a third.
pub lower_trans : (u v w : List ℕ) → Lower u v → Lower v w → Lower u w
unfolding Lower
lower_trans [] v w p q = absurd p
lower_trans (a ∷ u) [] w p q = absurd p
lower_trans (a ∷ u) (b ∷ v) [] p q = absurd q
lower_trans (a ∷ u) (b ∷ v) (c ∷ w) (inl l) (inl k) = inl (omega arith)
lower_trans (a ∷ u) (b ∷ v) (c ∷ w) (inl l) (inr (e, k)) = inl (omega arith)
lower_trans (a ∷ u) (b ∷ v) (c ∷ w) (inr (e, l)) (inl k) = inl (omega arith)
lower_trans (a ∷ u) (b ∷ v) (c ∷ w) (inr (e, l)) (inr (f, k)) = inr (e ∙ f, lower_trans u v w l k)

-- The lower run stays so, whatever is added to both at the end.
lower_snoc : (u v : List ℕ) (a b : ℕ) → Lower u v → Lower (u ++ (a ∷ [])) (v ++ (b ∷ []))
unfolding Lower
lower_snoc [] v a b p = absurd p
lower_snoc (c ∷ u) [] a b p = absurd p
lower_snoc (c ∷ u) (d ∷ v) a b (inl l) = inl l
lower_snoc (c ∷ u) (d ∷ v) a b (inr (e, l)) = inr (e, lower_snoc u v a b l)

-- With the lower action at the end, a run is lower.
lower_last : (u : List ℕ) (a b : ℕ) → a < b → Lower (u ++ (a ∷ [])) (u ++ (b ∷ []))
unfolding Lower
lower_last [] a b l = inl l
lower_last (c ∷ u) a b l = inr (refl, lower_last u a b l)

-- No run is lower than itself.
pub lower_not_self : (u : List ℕ) → Lower u u → ⊥
unfolding Lower
lower_not_self [] p = p
lower_not_self (a ∷ u) (inl l) = omega arith
lower_not_self (a ∷ u) (inr (e, l)) = lower_not_self u l

-- Of two runs of one length, one is lower, or they are the same.
lower_compare : (u v : List ℕ) → length u ≡ length v → Lower u v ⊎ ((u ≡ v) ⊎ Lower v u)
unfolding Lower
lower_compare [] [] e = inr (inl refl)
lower_compare [] (b ∷ v) e = absurd (omega arith)
lower_compare (a ∷ u) [] e = absurd (omega arith)
lower_compare (a ∷ u) (b ∷ v) e = go (dec_lt a b) (dec_lt b a) (lower_compare u v (omega arith))
  where
    rest : a ≡ b → Lower u v ⊎ ((u ≡ v) ⊎ Lower v u) → Lower (a ∷ u) (b ∷ v) ⊎ (((a ∷ u) ≡ (b ∷ v)) ⊎ Lower (b ∷ v) (a ∷ u))
    rest d (inl l) = inl (inr (d, l))
    rest d (inr (inl f)) = inr (inl (ap₂ (λ (c : ℕ) (w : List ℕ). c ∷ w) d f))
    rest d (inr (inr l)) = inr (inr (inr (sym d, l)))

    go : Dec (a < b) → Dec (b < a) → Lower u v ⊎ ((u ≡ v) ⊎ Lower v u)
        → Lower (a ∷ u) (b ∷ v) ⊎ (((a ∷ u) ≡ (b ∷ v)) ⊎ Lower (b ∷ v) (a ∷ u))
    go (yes l) d ih = inl (inl l)
    go (no l) (yes k) ih = inr (inr (inl k))
    go (no l) (no k) ih = rest (omega arith) ih

-- ---- Sooner

-- Sooner than one that is sooner than a third.
pub sooner_trans : (u v w : List ℕ) → Sooner u v → Sooner v w → Sooner u w
unfolding Sooner
sooner_trans u v w (inl l) (inl k) = inl (omega arith)
sooner_trans u v w (inl l) (inr (e, k)) = inl (omega arith)
sooner_trans u v w (inr (e, l)) (inl k) = inl (omega arith)
sooner_trans u v w (inr (e, l)) (inr (f, k)) = inr (e ∙ f, lower_trans u v w l k)

-- A run with one action more is one longer.
pub length_snoc : (u : List ℕ) (a : ℕ) → length (u ++ (a ∷ [])) ≡ suc (length u)
length_snoc u a = let e = length-append u (a ∷ []) in omega arith

-- The sooner run stays so, whatever is added to both at the end.
pub sooner_snoc : (u v : List ℕ) (a b : ℕ) → Sooner u v → Sooner (u ++ (a ∷ [])) (v ++ (b ∷ []))
unfolding Sooner
sooner_snoc u v a b (inl l) = inl (omega (arith, length_snoc u a, length_snoc v b))
sooner_snoc u v a b (inr (e, l)) = inr (omega (arith, length_snoc u a, length_snoc v b), lower_snoc u v a b l)

-- With the lower action at the end, a run comes sooner.
pub sooner_last : (u : List ℕ) (a b : ℕ) → a < b → Sooner (u ++ (a ∷ [])) (u ++ (b ∷ []))
unfolding Sooner
sooner_last u a b l = inr (omega (arith, length_snoc u a, length_snoc u b), lower_last u a b l)

-- A run comes sooner than with an action more.
pub sooner_longer : (u : List ℕ) (a : ℕ) → Sooner u (u ++ (a ∷ []))
unfolding Sooner
sooner_longer u a = inl (omega (arith, length_snoc u a))

-- No run comes sooner than itself.
pub sooner_not_self : (u : List ℕ) → Sooner u u → ⊥
unfolding Sooner
sooner_not_self u (inl l) = omega arith
sooner_not_self u (inr (e, l)) = lower_not_self u l

-- Of two runs one comes sooner, or they are the same.
pub sooner_compare : (u v : List ℕ) → Sooner u v ⊎ ((u ≡ v) ⊎ Sooner v u)
unfolding Sooner
sooner_compare u v = go (dec_lt (length u) (length v)) (dec_lt (length v) (length u))
  where
    alike : length u ≡ length v → Lower u v ⊎ ((u ≡ v) ⊎ Lower v u) → Sooner u v ⊎ ((u ≡ v) ⊎ Sooner v u)
    alike e (inl l) = inl (inr (e, l))
    alike e (inr (inl f)) = inr (inl f)
    alike e (inr (inr l)) = inr (inr (inr (sym e, l)))

    go : Dec (length u < length v) → Dec (length v < length u) → Sooner u v ⊎ ((u ≡ v) ⊎ Sooner v u)
    go (yes l) d = inl (inl l)
    go (no l) (yes k) = inr (inr (inl k))
    go (no l) (no k) = let e : length u ≡ length v = omega arith in alike e (lower_compare u v e)

-- ---- Soonest

-- There is one soonest run of a kind.
pub soonest_one : (Kind : List ℕ → Type 0) (u v : List ℕ) → Soonest Kind u → Soonest Kind v → u ≡ v
soonest_one Kind u v p q =
    ⊎_elim
    (λ l. absurd (q.none_sooner u p.is l))
    (⊎_elim (λ e. e) (λ l. absurd (p.none_sooner v q.is l)))
    (sooner_compare u v)

-- Of two kinds that come to the same, the soonest run of one is that of the other.
pub soonest_same : (Kind Other : List ℕ → Type 0) → ((w : List ℕ) → Kind w ↔ Other w) → (w : List ℕ) → Soonest Kind w → Soonest Other w
soonest_same Kind Other same w p =
    record {
      is = (same w).0 p.is;
      none_sooner = λ v k l. p.none_sooner v ((same v).1 k) l;
    }
