-- Sets of alternatives in an area: one more of them, how many there are, and what they do not depend on.
use Prim.Native.Nat.{ℕ, ◌+◌, ◌*◌, ◌≤◌, ◌<◌}
use native.Mathlib.Omega.{arith}
use native.Mathlib.Numerals.{add-one}
use mathlib.Core.Path.{◌≡◌, refl, sym, ◌∙◌, ap}
use mathlib.Core.List.{List, [], ◌∷◌, ◌++◌, map, map-append, append-nil, append_assoc}
use lib.ListN.{length, length-map}
use borrow.Author.Tests.{lt-ltb, le-ltb}
use Rattle.base.specs.Lists.{count_from, below}
use Rattle.base.proofs.Lists.{count_from_next, length_below, get_or_below}
use Rattle.logic.specs.Book.{Formula}
use Rattle.pending.specs.Pending.{Pending}
use Rattle.alternatives.specs.Alternatives.{over, these, most_alternatives, both, together}
use Rattle.alternative_bytes.specs.AlternativeBytes.{alternative_in}
use Rattle.set_bytes.specs.SetBytes.{alternative_size, set_in, answered, copy_of, copies_of, pair_of, row_of, pairs_of}
use Rattle.set_bytes.proofs.Elsewhere.{map_same}

below_next : (n : ℕ) → below (n + 1) ≡ below n ++ (n ∷ [])
unfolding below
below_next n =
    let e : 0 + n ≡ n = omega arith in
    ap below (add-one n) ∙ count_from_next 0 n ∙ ap (λ (i : ℕ). count_from 0 n ++ (i ∷ [])) e

-- One alternative more.
pub set_next : (area : List ℕ) (n at k : ℕ)
    → set_in area n at (k + 1) ≡ set_in area n at k ++ (alternative_in area n (at + alternative_size * k) ∷ [])
unfolding set_in
set_next area n at k =
    let f : ℕ → Pending = λ i. alternative_in area n (at + alternative_size * i) in
    ap (map f) (below_next k) ∙ map-append f (below k) (k ∷ [])

-- There are as many as are counted.
pub set_length : (area : List ℕ) (n at count : ℕ) → length (set_in area n at count) ≡ count
unfolding set_in
set_length area n at count = length-map (below count) (λ i. alternative_in area n (at + alternative_size * i)) ∙ length_below count

-- What an answer says: at most 16, or over.
pub answered_these : (area : List ℕ) (n at count : ℕ) → count ≤ 16 → answered area n at count ≡ these (set_in area n at count)
unfolding answered most_alternatives
answered_these area n at count few = let e = le-ltb 16 count few in rw e refl

pub answered_over : (area : List ℕ) (n at count : ℕ) → 16 < count → answered area n at count ≡ over
unfolding answered most_alternatives
answered_over area n at count many = let e = lt-ltb 16 count many in rw e refl

-- Sets whose alternatives are the same are the same.
pub set_same : (area after : List ℕ) (n at k : ℕ)
    → ((i : ℕ) → i < k → alternative_in after n (at + alternative_size * i) ≡ alternative_in area n (at + alternative_size * i))
    → set_in after n at k ≡ set_in area n at k
unfolding set_in
set_same area after n at k same =
    map_same (λ i. alternative_in after n (at + alternative_size * i)) (λ i. alternative_in area n (at + alternative_size * i)) (below k) (λ i l.
    let low : i < k = omega (arith, length_below k) in
    let e = get_or_below k i 0 low in
    rw e (same i low))

-- ---- what is gathered, by the nodes

pub copies_next : (area : List ℕ) (n p a : ℕ) (fs : List Formula)
    → copies_of area n p (a + 1) fs ≡ copies_of area n p a fs ++ copy_of area n (p + alternative_size * a) fs
unfolding copies_of copy_of
copies_next area n p a fs = set_next area n p a

pub row_next : (area : List ℕ) (n p q b : ℕ) (fs : List Formula)
    → row_of area n p q (b + 1) fs ≡ row_of area n p q b fs ++ pair_of area n p (q + alternative_size * b) fs
unfolding row_of pair_of
row_next area n p q b fs =
    let f = both fs (alternative_in area n p) in
    ap (map f) (set_next area n q b) ∙ map-append f (set_in area n q b) (alternative_in area n (q + alternative_size * b) ∷ [])

together_next : (fs : List Formula) (ps : List Pending) (p : Pending) (qs : List Pending)
    → together fs (ps ++ (p ∷ [])) qs ≡ together fs ps qs ++ map (both fs p) qs
unfolding together
together_next fs [] p qs = append-nil (map (both fs p) qs)
together_next fs (x ∷ ps) p qs =
    ap (λ (l : List Pending). map (both fs x) qs ++ l) (together_next fs ps p qs)
    ∙ sym (append_assoc (map (both fs x) qs) (together fs ps qs) (map (both fs p) qs))

pub pairs_next : (area : List ℕ) (n p a q b : ℕ) (fs : List Formula)
    → pairs_of area n p (a + 1) q b fs ≡ pairs_of area n p a q b fs ++ row_of area n (p + alternative_size * a) q b fs
unfolding pairs_of row_of
pairs_next area n p a q b fs =
    ap (λ (ps : List Pending). together fs ps (set_in area n q b)) (set_next area n p a)
    ∙ together_next fs (set_in area n p a) (alternative_in area n (p + alternative_size * a)) (set_in area n q b)
