-- A candidate takes its place among the chosen: where it belongs, and what is there behind the place that was made.
use Prim.Native.Nat.{ℕ, zero, suc, ◌+◌, ◌-◌, ◌*◌, ◌≤◌, ◌<◌}
use native.Mathlib.Omega.{arith}
use native.Mathlib.Decide.{dec_lt}
use mathlib.Core.Path.{◌≡◌, refl, sym, ◌∙◌, ap, ap₂}
use mathlib.Core.Bool.{Bool, true, false}
use mathlib.Core.List.{List, [], ◌∷◌, ◌++◌, map, map-append}
use lib.ListN.{length, get_or, set, take, drop, length-set, length-append, length-drop, get_or-append}
use lib.Seq.{get_or-set_same, get_or-set_other, get_or-take, get_or-drop, get_or-append-add, length-take-le, ext_get_or}
use Rattle.pending.specs.Pending.{Pending}
use Rattle.alternatives.specs.Least.{placed}
use Rattle.alternatives.specs.Alternatives.{asks_no_more, earlier}
use Rattle.alternative_bytes.specs.AlternativeBytes.{alternative_in}
use Rattle.set_bytes.specs.SetBytes.{candidate, chosen}
use Rattle.set_bytes.specs.Promises.{Below, IsPlace, Moved, Placed}
use Rattle.set_bytes.proofs.Chosen.{chosen_length, chosen_at}

-- ---- where it belongs

-- Candidate c is not earlier than any of the first i.
pub record NotEarlier (n : ℕ) (room order : List ℕ) (i c : ℕ) : Type 0 where
  pub says : (j : ℕ) → j < i → earlier (candidate room n c) (candidate room n (get_or order j 0)) ≡ false

pub place_start : (n : ℕ) (room order : List ℕ) (c : ℕ) → NotEarlier n room order 0 c
place_start n room order c = record { says = λ j l. absurd (omega arith) }

module _ (b : Bool) (n : ℕ) (room order : List ℕ) (i c : ℕ) (going : NotEarlier n room order i c)
    (answer : b ≡ earlier (alternative_in room n (60 * c)) (alternative_in room n (60 * get_or order i 0))) where
  says : earlier (candidate room n c) (candidate room n (get_or order i 0)) ≡ b
  unfolding candidate
  says = sym answer

  pub place_next : b ≡ false → NotEarlier n room order (i + 1) c
  place_next is = record { says = λ j l. go j l (dec_lt j i) }
    where
      go : (j : ℕ) → j < i + 1 → Dec (j < i) → earlier (candidate room n c) (candidate room n (get_or order j 0)) ≡ false
      go j l (yes d) = going.says j d
      go j l (no d) = let e : j ≡ i = omega arith in rw e (says ∙ is)

  pub place_found : (m : ℕ) → b ≡ true → i < m → IsPlace i n room order m c
  place_found m is low = record { most = omega arith; before = going.says; at = λ l. says ∙ is }

pub place_end : (n : ℕ) (room order : List ℕ) (i m c : ℕ) → NotEarlier n room order i c → m ≤ i → IsPlace m n room order m c
place_end n room order i m c going all =
    record { most = omega arith; before = λ j l. going.says j (omega arith); at = λ l. absurd (omega arith) }

-- ---- what is there behind the place that was made

map_take : {X : Type 0} (f : ℕ → X) (k : ℕ) (xs : List ℕ) → map f (take k xs) ≡ take k (map f xs)
map_take f zero xs = refl
map_take f (suc k) [] = refl
map_take f (suc k) (x ∷ xs) = ap₂ ◌∷◌ refl (map_take f k xs)

map_drop : {X : Type 0} (f : ℕ → X) (k : ℕ) (xs : List ℕ) → map f (drop k xs) ≡ drop k (map f xs)
map_drop f zero xs = refl
map_drop f (suc k) [] = refl
map_drop f (suc k) (x ∷ xs) = map_drop f k xs

-- What takes its place stands before the first that it is earlier than.
placed_at : {X : Type 0} (no_more before : X → X → Bool) (x d : X) (ys : List X) (i : ℕ) → i ≤ length ys
    → ((j : ℕ) → j < i → before x (get_or ys j d) ≡ false) → (i < length ys → before x (get_or ys i d) ≡ true)
    → placed no_more before x ys ≡ take i ys ++ (x ∷ drop i ys)
unfolding placed
placed_at no_more before x d [] zero le not_yet here = refl
placed_at no_more before x d [] (suc i) le not_yet here = absurd (omega arith)
placed_at no_more before x d (y ∷ ys) zero le not_yet here = let e = here (omega arith) in rw e
placed_at {X} no_more before x d (y ∷ ys) (suc i) le not_yet here =
    let e = not_yet 0 (omega arith) in
    let ih = placed_at no_more before x d ys i (omega arith) (λ j l. not_yet (suc j) (omega arith)) (λ l. here (omega arith)) in
    rw e (ap (λ (l : List X). y ∷ l) ih)

module _ (order : List ℕ) (m at c : ℕ) (after : List ℕ) (moved : Moved order m at after) (le : at ≤ m) (fits : m < length order) where
  new_before : (j : ℕ) → j < at → get_or (set after at c) j 0 ≡ get_or order j 0
  new_before j l = get_or-set_other after at j c 0 (λ e. omega arith) ∙ moved.before j l

  new_here : get_or (set after at c) at 0 ≡ c
  new_here = get_or-set_same after at c 0 (omega (arith, moved.size))

  new_behind : (j : ℕ) → at ≤ j → j < m → get_or (set after at c) (j + 1) 0 ≡ get_or order j 0
  new_behind j l k = get_or-set_other after at (j + 1) c 0 (λ e. omega arith) ∙ moved.behind j l k

  numbers : take (m + 1) (set after at c) ≡ take at (take m order) ++ (c ∷ drop at (take m order))
  numbers =
      ext_get_or 0 (take (m + 1) (set after at c)) new (size_new ∙ sym size_all) (λ i l.
      let low : i < m + 1 = omega (arith, size_new) in
      get_or-take (m + 1) (set after at c) i 0 low ∙ there i low (dec_lt i at))
    where
      new : List ℕ
      new = take at (take m order) ++ (c ∷ drop at (take m order))

      size_m : length (take m order) ≡ m
      size_m = length-take-le m order (omega arith)

      size_at : length (take at (take m order)) ≡ at
      size_at = length-take-le at (take m order) (omega (arith, size_m))

      size_new : length (take (m + 1) (set after at c)) ≡ m + 1
      size_new = length-take-le (m + 1) (set after at c) (omega (arith, length-set after at c, moved.size))

      size_all : length (take at (take m order) ++ (c ∷ drop at (take m order))) ≡ m + 1
      size_all =
          omega (arith, length-append (take at (take m order)) (c ∷ drop at (take m order)), size_at, length-drop at (take m order), size_m)

      later : (k : ℕ) → at + k < m + 1 → get_or (set after at c) (at + k) 0 ≡ get_or (c ∷ drop at (take m order)) k 0
      later zero l = let e : at + 0 ≡ at = omega arith in rw e new_here
      later (suc k) l =
          let e : at + suc k ≡ at + k + 1 = omega arith in
          ap (λ (p : ℕ). get_or (set after at c) p 0) e ∙ new_behind (at + k) (omega arith) (omega arith)
          ∙ sym (get_or-drop at (take m order) k 0 ∙ get_or-take m order (at + k) 0 (omega arith))

      there : (i : ℕ) → i < m + 1 → Dec (i < at) → get_or (set after at c) i 0 ≡ get_or (take at (take m order) ++ (c ∷ drop at (take m order))) i 0
      there i low (yes d) =
          new_before i d
          ∙ sym (get_or-append (take at (take m order)) (c ∷ drop at (take m order)) 0 i (omega (arith, size_at))
          ∙ get_or-take at (take m order) i 0 d ∙ get_or-take m order i 0 (omega arith))
      there i low (no d) =
          let e : length (take at (take m order)) + (i - at) ≡ i = omega (arith, size_at) in
          let f : at + (i - at) ≡ i = omega arith in
          ap (λ (p : ℕ). get_or (set after at c) p 0) (sym f) ∙ later (i - at) (omega arith)
          ∙ sym (get_or-append-add (take at (take m order)) (c ∷ drop at (take m order)) (i - at) 0)
          ∙ ap (λ (p : ℕ). get_or (take at (take m order) ++ (c ∷ drop at (take m order))) p 0) e

  below_new : Below order m c → Below (set after at c) (m + 1) (c + 1)
  below_new below = record { low = λ j l. go j l (dec_lt j at) (dec_lt at j) }
    where
      go : (j : ℕ) → j < m + 1 → Dec (j < at) → Dec (at < j) → get_or (set after at c) j 0 < c + 1
      go j l (yes d) e = omega (arith, new_before j d, below.low j (omega arith))
      go j l (no d) (yes e) =
          let f : j - 1 + 1 ≡ j = omega arith in
          omega (arith, ap (λ (p : ℕ). get_or (set after at c) p 0) f, new_behind (j - 1) (omega arith) (omega arith), below.low (j - 1) (omega arith))
      go j l (no d) (no e) = let f : j ≡ at = omega arith in rw f (omega (arith, new_here))

pub placed_there : (n : ℕ) (room order : List ℕ) (m at c : ℕ) (after : List ℕ) → Moved order m at after → IsPlace at n room order m c
    → m < length order → Placed n room order m c (set after at c)
unfolding chosen
placed_there n room order m at c after moved place fits =
    record {
      size = length-set after at c ∙ moved.size;
      below = below_new order m at c after moved place.most fits;
      says = λ fs.
          ap (map cand) (numbers order m at c after moved place.most fits)
          ∙ map-append cand (take at (take m order)) (c ∷ drop at (take m order))
          ∙ ap₂ (λ (xs ys : List Pending). xs ++ (cand c ∷ ys)) (map_take cand at (take m order)) (map_drop cand at (take m order))
          ∙ sym (placed_at (asks_no_more fs) earlier (cand c) (cand 0) (chosen room n order m) at (omega (arith, place.most, size))
          (λ j l. ap (earlier (cand c)) (chosen_at room n order m j (omega (arith, place.most))) ∙ place.before j l)
          (λ l. ap (earlier (cand c)) (chosen_at room n order m at (omega (arith, size))) ∙ place.at (omega (arith, size))));
    }
  where
    cand : ℕ → Pending
    cand = candidate room n

    size : length (chosen room n order m) ≡ m
    size = chosen_length room n order m (omega arith)
