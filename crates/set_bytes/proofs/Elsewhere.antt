-- An alternative stays where only other bytes have changed.
use Prim.Native.Nat.{ℕ, zero, suc, ◌+◌, ◌-◌, ◌≤◌, ◌<◌}
use native.Mathlib.Omega.{arith}
use mathlib.Core.Path.{◌≡◌, refl, sym, ◌∙◌, ap, ap₂}
use mathlib.Core.List.{List, [], ◌∷◌, map}
use lib.ListN.{length, get_or, take, drop}
use lib.Seq.{take-take, drop-drop}
use Rattle.book_progression.specs.PendingBytes.{pending_of, part}
use Rattle.book_progression.specs.Promises.{Beside}
use Rattle.alternative_bytes.specs.AlternativeBytes.{alternative_in}

-- Bytes that end in the first k are read from them.
inside : (l : List ℕ) (p n k : ℕ) → p + n ≤ k → take n (drop p (take k l)) ≡ take n (drop p l)
inside l zero n k low = take-take n k l (omega arith)
inside l (suc p) n zero low = absurd (omega arith)
inside [] (suc p) n (suc k) low = refl
inside (x ∷ l) (suc p) n (suc k) low = inside l p n k (omega arith)

-- An alternative that ends in the first k bytes is read from them.
pub alternative_before : (area after : List ℕ) (k n p : ℕ) → take k after ≡ take k area → p + n ≤ k
    → alternative_in after n p ≡ alternative_in area n p
unfolding alternative_in part
alternative_before area after k n p same low =
    ap pending_of (sym (inside after p n k low) ∙ ap (λ (l : List ℕ). take n (drop p l)) same ∙ inside area p n k low)

-- What has changed within a part has changed within a larger one.
pub beside_wider : (area : List ℕ) (p n : ℕ) (after : List ℕ) (to k : ℕ) → Beside area p n after → to ≤ p → p + n ≤ to + k
    → Beside area to k after
beside_wider area p n after to k beside low high =
    record {
      size = beside.size;
      before = sym (nearer after) ∙ ap (take to) beside.before ∙ nearer area;
      behind = further after ∙ ap (drop (to + k - (p + n))) beside.behind ∙ sym (further area);
    }
  where
    nearer : (l : List ℕ) → take to (take p l) ≡ take to l
    nearer l = take-take to p l low

    further : (l : List ℕ) → drop (to + k) l ≡ drop (to + k - (p + n)) (drop (p + n) l)
    further l =
        let e : to + k ≡ p + n + (to + k - (p + n)) = omega arith in
        ap (λ (x : ℕ). drop x l) e ∙ sym (drop-drop (to + k - (p + n)) (p + n) l)

-- Functions that agree on the elements of a list have the same values there.
pub map_same : {X : Type 0} (f g : ℕ → X) (xs : List ℕ) → ((i : ℕ) → i < length xs → f (get_or xs i 0) ≡ g (get_or xs i 0)) → map f xs ≡ map g xs
map_same f g [] h = refl
map_same f g (x ∷ xs) h = ap₂ ◌∷◌ (h 0 (omega arith)) (map_same f g xs (λ i l. h (suc i) (omega arith)))
