-- The bytes of alternatives: what is left when some are written, and when two that say the same are equal.
use Prim.Native.Nat.{ℕ, zero, suc, ◌+◌, ◌-◌, ◌*◌, ◌≤◌, ◌<◌}
use native.Mathlib.Omega.{arith}
use native.Mathlib.Nat.{add-zero}
use native.Mathlib.Decide.{dec_lt}
use mathlib.Core.Path.{◌≡◌, refl, sym, ◌∙◌, ap, ap₂}
use mathlib.Core.Logic.{◌⊎◌, inl, inr}
use mathlib.Core.List.{List, ◌∷◌, map, map-map}
use lib.ListN.{length, get_or, take, drop}
use lib.Seq.{get_or-take, get_or-drop, take-take, ext_get_or}
use Rattle.base.specs.Bytes.{byte_at}
use Rattle.base.specs.Lists.{count_from, below}
use Rattle.pending.specs.Pending.{Pending}
use Rattle.reading.specs.BookArea.{nodes_in}
use Rattle.book_progression.specs.PendingBytes.{pending_of, part}
use Rattle.book_progression.specs.NodeBytes.{IsHeld}
use Rattle.book_progression.specs.Promises.{Beside}
use Rattle.book_progression.proofs.Cells.{pending_eq}
use Rattle.book_progression.proofs.Areas.{part_length, part_at}
use Rattle.alternative_bytes.specs.AlternativeBytes.{alternative_in}
use Rattle.set_bytes.specs.SetBytes.{set_in}
use Rattle.set_index.specs.Entries.{alternative_bytes, alternatives_room, entries_size, alternative_at, alternatives_at}
use Rattle.set_index.proofs.Laws.{alternative_same}
use Rattle.pair_sets.specs.PairSets.{Blank}

-- ---- lists of values at numbers that follow one another

module _ {X : Type 0} (f g : ℕ → X) where
  -- Values that agree make equal lists,
  pub map_from : (a b n : ℕ) → ((i : ℕ) → i < n → f (a + i) ≡ g (b + i)) → map f (count_from a n) ≡ map g (count_from b n)
  unfolding count_from
  map_from a b zero agree = refl
  map_from a b (suc n) agree =
      let here : f a ≡ g b = ap f (sym (add-zero a)) ∙ agree 0 (omega arith) ∙ ap g (add-zero b) in
      ap₂ ◌∷◌ here (map_from (suc a) (suc b) n (λ i l.
      let one : suc a + i ≡ a + suc i = omega arith in
      let other : suc b + i ≡ b + suc i = omega arith in
      ap f one ∙ agree (suc i) (omega arith) ∙ ap g (sym other)))

  -- and equal lists are of values that agree.
  pub from_map : (a b n : ℕ) → map f (count_from a n) ≡ map g (count_from b n) → (i : ℕ) → i < n → f (a + i) ≡ g (b + i)
  unfolding count_from
  from_map a b zero e i l = absurd (omega arith)
  from_map a b (suc n) e zero l =
      let here : f a ≡ g b = cc in
      ap f (add-zero a) ∙ here ∙ ap g (sym (add-zero b))
  from_map a b (suc n) e (suc i) l =
      let rest : map f (count_from (suc a) n) ≡ map g (count_from (suc b) n) = cc in
      let one : suc a + i ≡ a + suc i = omega arith in
      let other : suc b + i ≡ b + suc i = omega arith in
      ap f (sym one) ∙ from_map (suc a) (suc b) n rest i (omega arith) ∙ ap g other

-- ---- bytes

-- Bytes beside a part that was written stay.
pub beside_byte : (area : List ℕ) (to n : ℕ) (after : List ℕ) → Beside area to n after → (p : ℕ) → (p < to) ⊎ (to + n ≤ p)
    → byte_at after p ≡ byte_at area p
beside_byte area to n after b p (inl l) =
    sym (get_or-take to after p 0 l) ∙ ap (λ (z : List ℕ). get_or z p 0) b.before ∙ get_or-take to area p 0 l
beside_byte area to n after b p (inr l) =
    let e : to + n + (p - (to + n)) ≡ p = omega arith in
    ap (byte_at after) (sym e) ∙ sym (get_or-drop (to + n) after (p - (to + n)) 0)
    ∙ ap (λ (z : List ℕ). get_or z (p - (to + n)) 0) b.behind
    ∙ get_or-drop (to + n) area (p - (to + n)) 0
    ∙ ap (byte_at area) e

-- Alternatives whose bytes are the same are the same,
pub alternative_by : (one other : List ℕ) (n p q : ℕ) → p + n ≤ length one → q + n ≤ length other
    → ((k : ℕ) → k < n → byte_at one (p + k) ≡ byte_at other (q + k)) → alternative_in one n p ≡ alternative_in other n q
unfolding alternative_in
alternative_by one other n p q fits room same =
    ap pending_of (ext_get_or 0 (part one p n) (part other q n) (part_length one p n fits ∙ sym (part_length other q n room)) (λ k l.
    let inside : k < n = omega (arith, part_length one p n fits) in
    part_at one p n k inside ∙ same k inside ∙ sym (part_at other q n k inside)))

-- and the other way round.
pub cells_same : (one other : List ℕ) (n p q : ℕ) → alternative_in one n p ≡ alternative_in other n q
    → (k : ℕ) → k < n → byte_at one (p + k) ≡ byte_at other (q + k)
unfolding alternative_in
cells_same one other n p q e k l =
    sym (part_at one p n k l) ∙ ap (λ (z : List ℕ). get_or z k 0) (pending_eq (part one p n) (part other q n) e) ∙ part_at other q n k l

-- So it is with sets of them.
pub set_by : (one other : List ℕ) (n p q count : ℕ) → n ≤ alternative_bytes → p + alternative_bytes * count ≤ length one
    → q + alternative_bytes * count ≤ length other
    → ((k : ℕ) → k < alternative_bytes * count → byte_at one (p + k) ≡ byte_at other (q + k))
    → set_in one n p count ≡ set_in other n q count
unfolding set_in below
set_by one other n p q count few fits room same =
    map_from (λ i. alternative_in one n (p + 60 * i)) (λ i. alternative_in other n (q + 60 * i)) 0 0 count (λ i l.
    alternative_by one other n (p + 60 * (0 + i)) (q + 60 * (0 + i)) (omega arith) (omega arith) (λ k m.
    let here : p + 60 * (0 + i) + k ≡ p + (60 * i + k) = omega arith in
    let there : q + 60 * (0 + i) + k ≡ q + (60 * i + k) = omega arith in
    rw (here, there) (same (60 * i + k) (omega arith))))

-- ---- alternatives as they stand in the area

-- what the first n bytes of one say
abbrev said : ℕ → List ℕ → Pending
said n bytes = pending_of (take n bytes)

-- An alternative is what the first of its bytes say.
alternative_said : (area : List ℕ) (n s : ℕ) → n ≤ alternative_bytes → alternative_in area n (alternative_bytes * s) ≡ said n (alternative_at area s)
unfolding alternative_in part alternative_at
alternative_said area n s few = ap pending_of (sym (take-take n 60 (drop (60 * s) area) few))

pub set_said : (area : List ℕ) (n s count : ℕ) → n ≤ alternative_bytes
    → set_in area n (alternative_bytes * s) count ≡ map (λ bytes. pending_of (take n bytes)) (alternatives_at area s count)
unfolding set_in below alternatives_at
set_said area n s count few =
    map_from (λ i. alternative_in area n (60 * s + 60 * i)) (λ i. said n (alternative_at area i)) 0 s count (λ i l.
    let place : 60 * s + 60 * (0 + i) ≡ 60 * (s + i) = omega arith in
    ap (alternative_in area n) place ∙ alternative_said area n (s + i) few)
    ∙ sym (map-map (said n) (alternative_at area) (count_from s count))

-- Where the bytes behind the nodes' are zero, alternatives that say the same are equal.
module _ (nodes area : List ℕ) (held : IsHeld nodes) (blank : Blank nodes area) (room : entries_size ≤ length area) where
  alternatives_equal : (s t : ℕ) → s < alternatives_room → t < alternatives_room
      → alternative_in area (nodes_in nodes) (60 * s) ≡ alternative_in area (nodes_in nodes) (60 * t) → alternative_at area s ≡ alternative_at area t
  alternatives_equal s t one other e =
      alternative_same area area s t (omega arith) (omega arith) (λ k l. at k l (dec_lt k (nodes_in nodes)))
    where
      at : (k : ℕ) → k < 60 → Dec (k < nodes_in nodes) → byte_at area (60 * s + k) ≡ byte_at area (60 * t + k)
      at k l (yes low) = cells_same area area (nodes_in nodes) (60 * s) (60 * t) e k low
      at k l (no high) = blank.zeros s k one (omega arith) l ∙ sym (blank.zeros t k other (omega arith) l)

  pub sets_equal : (s t count : ℕ) → s + count ≤ alternatives_room → t + count ≤ alternatives_room
      → set_in area (nodes_in nodes) (60 * s) count ≡ set_in area (nodes_in nodes) (60 * t) count
      → alternatives_at area s count ≡ alternatives_at area t count
  unfolding set_in below alternatives_at
  sets_equal s t count one other e =
      map_from (alternative_at area) (alternative_at area) s t count (λ i l.
      let here : 60 * s + 60 * (0 + i) ≡ 60 * (s + i) = omega arith in
      let there : 60 * t + 60 * (0 + i) ≡ 60 * (t + i) = omega arith in
      alternatives_equal (s + i) (t + i) (omega arith) (omega arith)
      (ap (alternative_in area (nodes_in nodes)) (sym here)
      ∙ from_map (λ j. alternative_in area (nodes_in nodes) (60 * s + 60 * j)) (λ j. alternative_in area (nodes_in nodes) (60 * t + 60 * j)) 0 0 count e i l
      ∙ ap (alternative_in area (nodes_in nodes)) there))
