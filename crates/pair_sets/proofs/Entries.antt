-- Entries: what they hold, and when two that hold the same are equal.
use Prim.Native.Nat.{ℕ, zero, suc, ◌+◌, ◌-◌, ◌*◌, ◌≤◌}
use native.Mathlib.Omega.{arith}
use native.Mathlib.Numerals.{add-one}
use mathlib.Core.Path.{◌≡◌, refl, sym, ◌∙◌, ap, subst}
use mathlib.Core.List.{List, [], ◌∷◌, map, map-append}
use lib.ListN.{length, take, length-map}
use Rattle.base.specs.Lists.{below, count_from, total}
use Rattle.base.proofs.Lists.{total_append}
use Rattle.pending.specs.Pending.{Pending}
use Rattle.alternatives.specs.Alternatives.{Alternatives, these}
use Rattle.alternatives.specs.Progression.{first_set}
use Rattle.reading.specs.BookArea.{nodes_in}
use Rattle.book_progression.specs.PendingBytes.{pending_of}
use Rattle.book_progression.specs.NodeBytes.{IsHeld}
use Rattle.set_bytes.specs.SetBytes.{set_in}
use Rattle.set_bytes.proofs.Sets.{set_length}
use Rattle.set_index.specs.Entries.{alternatives_room, entries_size, entry_number, entry_first, Entry, entry_at, entries_of, alternatives_at, Heads}
use Rattle.set_index.proofs.Laws.{alternatives_length, entry_number_is, entry_alternatives_are, entry_same, entries_more, heads_fewer}
use Rattle.pair_sets.specs.PairSets.{entry_set, held_set, Blank, Holds, First}
use Rattle.pair_sets.proofs.Alternatives.{set_said, sets_equal}

-- ---- what an entry holds

-- It has as many alternatives as lie before the next one.
pub entry_set_length : (nodes area : List ℕ) (i : ℕ) → length (entry_set nodes area i) ≡ entry_first area (i + 1) - entry_first area i
unfolding entry_set
entry_set_length nodes area i =
    set_length area (nodes_in nodes) (60 * entry_first area i) (entry_first area (i + 1) - entry_first area i)

-- They are what its bytes say.
pub set_of_entry : (nodes area : List ℕ) (i : ℕ) → IsHeld nodes → entry_set nodes area i ≡ held_set nodes (entry_at area i)
unfolding entry_set held_set entry_at
set_of_entry nodes area i held =
    set_said area (nodes_in nodes) (entry_first area i) (entry_first area (i + 1) - entry_first area i) held.few

-- So equal entries hold the same,
pub equal_numbers : (one other : List ℕ) (i j : ℕ) → entry_at one i ≡ entry_at other j → entry_number one i ≡ entry_number other j
equal_numbers one other i j e = sym (entry_number_is one i) ∙ ap (λ (z : Entry). z.number) e ∙ entry_number_is other j

-- and entries that hold the same are equal.
pub entries_equal : (nodes area : List ℕ) (i j : ℕ) → IsHeld nodes → Blank nodes area → entries_size ≤ length area
    → entry_first area (i + 1) ≤ alternatives_room → entry_first area (j + 1) ≤ alternatives_room
    → entry_first area i ≤ entry_first area (i + 1) → entry_first area j ≤ entry_first area (j + 1)
    → entry_number area i ≡ entry_number area j → entry_set nodes area i ≡ entry_set nodes area j → entry_at area i ≡ entry_at area j
unfolding entry_set
entries_equal nodes area i j held blank room fits_i fits_j rising_i rising_j numbers sets =
    entry_same area area i j numbers (go (entry_first area (i + 1) - entry_first area i) (entry_first area (j + 1) - entry_first area j)
    (omega arith) (omega arith) counts sets)
  where
    counts : entry_first area (i + 1) - entry_first area i ≡ entry_first area (j + 1) - entry_first area j
    counts = sym (entry_set_length nodes area i) ∙ ap length sets ∙ entry_set_length nodes area j

    go : (m n : ℕ) → entry_first area i + m ≤ 1016 → entry_first area j + n ≤ 1016 → m ≡ n
        → set_in area (nodes_in nodes) (60 * entry_first area i) m ≡ set_in area (nodes_in nodes) (60 * entry_first area j) n
        → alternatives_at area (entry_first area i) m ≡ alternatives_at area (entry_first area j) n
    go m n k l e same =
        sets_equal nodes area held blank room (entry_first area i) (entry_first area j) m k (omega arith)
        (same ∙ ap (set_in area (nodes_in nodes) (60 * entry_first area j)) (sym e))
        ∙ ap (alternatives_at area (entry_first area j)) e

-- ---- how many alternatives they have

-- As many as lie from where the entry begins to where the next does.
pub held_length : (nodes area : List ℕ) (i : ℕ) → length (held_set nodes (entry_at area i)) ≡ entry_first area (i + 1) - entry_first area i
unfolding held_set
held_length nodes area i =
    length-map (entry_at area i).alternatives (λ bytes. pending_of (take (nodes_in nodes) bytes))
    ∙ ap (λ (z : List (List ℕ)). length z) (entry_alternatives_are area i)
    ∙ alternatives_length area (entry_first area i) (entry_first area (i + 1) - entry_first area i)

-- So equal entries have as many.
pub equal_counts : (one other : List ℕ) (i j : ℕ) → entry_at one i ≡ entry_at other j
    → entry_first one (i + 1) - entry_first one i ≡ entry_first other (j + 1) - entry_first other j
equal_counts one other i j e = sym (held_length [] one i) ∙ ap (λ (z : Entry). length (held_set [] z)) e ∙ held_length [] other j

no_entries : (area : List ℕ) → entries_of area 0 ≡ []
unfolding entries_of below count_from
no_entries area = refl

-- The first n have as many as lie before entry n.
pub weights : (nodes area : List ℕ) (n : ℕ) → Heads area n
    → total (map (λ (z : Entry). length (held_set nodes z)) (entries_of area n)) ≡ entry_first area n
unfolding total
weights nodes area zero heads =
    ap (λ (zs : List Entry). total (map (λ (z : Entry). length (held_set nodes z)) zs)) (no_entries area) ∙ sym heads.start
weights nodes area (suc n) heads =
    let before = weights nodes area n (heads_fewer area (suc n) n heads (omega arith)) in
    let here = held_length nodes area n in
    let more = ap (map weight) (entries_more area n) ∙ map-append weight (entries_of area n) (entry_at area n ∷ []) in
    let next : total (map weight (entries_of area (n + 1))) ≡ entry_first area (n + 1) =
    ap total more ∙ total_append (map weight (entries_of area n)) (weight (entry_at area n) ∷ [])
    ∙ omega (arith, heads.rising n (omega arith)) in
    subst (λ k. total (map weight (entries_of area k)) ≡ entry_first area k) (add-one n) next
  where
    weight : Entry → ℕ
    weight z = length (held_set nodes z)

-- ---- entry n, when it is written

these_one : (ps qs : List Pending) → these ps ≡ these qs → ps ≡ qs
these_one ps qs e = cc

module _ (nodes : List ℕ) (number n : ℕ) (s : Alternatives) (after : List ℕ) (holds : Holds nodes number n s after) where
  -- It ends behind as many alternatives.
  pub holds_first : (ps : List Pending) → s ≡ these ps → entry_first after (n + 1) ≡ entry_first after n + length ps
  holds_first ps e =
      let same = ap (λ (z : List Pending). length z) (these_one (entry_set nodes after n) ps (sym holds.set_is ∙ e)) in
      omega (arith, entry_set_length nodes after n, holds.headed.rising n (omega arith))

-- The first entry has one.
pub first_one : (nodes : List ℕ) (number : ℕ) (area : List ℕ) → IsHeld nodes → First nodes number area → entry_first area 1 ≡ 1
unfolding first_set
first_one nodes number area held first =
    let same = ap (λ (z : List Pending). length z) (first.says held.book held.held) in
    let start = first.headed.start in
    let rises = first.headed.rising 0 (omega arith) in
    omega (arith, entry_set_length nodes area 0)
