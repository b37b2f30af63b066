-- What entries stand for, such as pairs: those of the first n, and one that is looked up among them.
use Prim.Native.Nat.{ℕ, ◌+◌, ◌≤◌, ◌<◌}
use native.Mathlib.Omega.{arith}
use native.Mathlib.Decide.{dec_lt}
use mathlib.Core.Path.{◌≡◌, sym, ◌∙◌, ap}
use mathlib.Core.Bool.{Bool, true, false}
use mathlib.Core.List.Memᴰ
use mathlib.Core.List.{List, [], ◌∷◌, ◌++◌, map, map-append}
use lib.ListN.{length, get_or, length-map, get_or-map}
use Rattle.base.specs.Choice.{pick}
use Rattle.base.specs.Lists.{some_of, below}
use Rattle.base.proofs.Lists.{some_of_mem, none_of, mem_get_or, mem_below, false_by}
use Rattle.book_progression.specs.NodeBytes.{IsHeld}
use Rattle.set_index.specs.Entries.{Entry, entry_at, entries_of, Indexed}
use Rattle.set_index.proofs.Laws.{entry_number_is, entries_length, entries_at, entries_more, entries_same, indexed_same}
use Rattle.pair_sets.specs.PairSets.{held_set, Blank, Stays, Noted}
use Rattle.pair_sets.specs.declared.Place.{Place}
use Rattle.pair_sets.proofs.Entries.{set_of_entry}

-- ---- the first n

module _ {X : Type 0} (value : Entry → X) where
  pub values_length : (area : List ℕ) (n : ℕ) → length (map value (entries_of area n)) ≡ n
  values_length area n = length-map (entries_of area n) value ∙ entries_length area n

  pub values_at : (area : List ℕ) (n i : ℕ) → i < n → get_or (map value (entries_of area n)) i (value (entry_at area 0)) ≡ value (entry_at area i)
  values_at area n i l = get_or-map value (entries_of area n) i (entry_at area 0) ∙ ap value (entries_at area n i l)

  -- Areas with the same entries stand for the same.
  pub values_same : (one other : List ℕ) (n : ℕ) → ((j : ℕ) → j < n → entry_at one j ≡ entry_at other j)
      → map value (entries_of one n) ≡ map value (entries_of other n)
  values_same one other n agree = ap (map value) (entries_same one other n agree)

  pub values_more : (area : List ℕ) (n : ℕ) → map value (entries_of area (n + 1)) ≡ map value (entries_of area n) ++ (value (entry_at area n) ∷ [])
  values_more area n = ap (map value) (entries_more area n) ∙ map-append value (entries_of area n) (entry_at area n ∷ [])

  -- ---- looking up entry n

  -- It is one of those before it, or one more, where what is equal has the same number and the same alternatives.
  module _ (same : X → X → Bool) (same_eq : (x y : X) → same x y ≡ true → x ≡ y) (same_refl : (x : X) → same x x ≡ true) (nodes : List ℕ)
      (held : IsHeld nodes) (numbers : (x y : Entry) → value x ≡ value y → x.number ≡ y.number)
      (sets : (x y : Entry) → value x ≡ value y → held_set nodes x ≡ held_set nodes y) (area : List ℕ) (n : ℕ) (index : List ℕ) (out : Place)
      (blank : Blank nodes area) (noted : Noted out area n index) where
    old_one : out.met ≤ n → some_of (same (value (entry_at area n))) (map value (entries_of area n)) ≡ true
    old_one l =
        some_of_mem (same (value (entry_at area n)))
        (mem_get_or (map value (entries_of area n)) out.at (value (entry_at area 0)) (omega (arith, values_length area n, noted.inside)))
        (ap (same (value (entry_at area n))) (values_at area n out.at (omega (arith, noted.inside)) ∙ ap value noted.equal)
        ∙ same_refl (value (entry_at area n)))

    new_one : n < out.met → some_of (same (value (entry_at area n))) (map value (entries_of area n)) ≡ false
    unfolding entries_of
    new_one l =
        none_of (same (value (entry_at area n))) (map value (entries_of area n)) (λ x m.
        let (entry, here, e) = Memᴰ.of_map value (entries_of area n) m in
        let (j, low, f) = Memᴰ.of_map (entry_at area) (below n) here in
        other x j (mem_below n low) (ap value f ∙ e))
      where
        other : (x : X) (j : ℕ) → j < n → value (entry_at area j) ≡ x → same (value (entry_at area n)) x ≡ false
        other x j low e =
            false_by (same (value (entry_at area n)) x) (λ t.
            let equal = e ∙ sym (same_eq (value (entry_at area n)) x t) in
            noted.fresh l nodes held blank j low
            (sym (entry_number_is area j) ∙ numbers (entry_at area j) (entry_at area n) equal ∙ entry_number_is area n)
            (set_of_entry nodes area j held ∙ sets (entry_at area j) (entry_at area n) equal ∙ sym (set_of_entry nodes area n held)))

    -- The first `met` are those of before, with this one if it is new.
    pub noted_values : map value (entries_of area out.met)
        ≡ pick (some_of (same (value (entry_at area n))) (map value (entries_of area n))) (λ _. map value (entries_of area n))
        (λ _. map value (entries_of area n) ++ (value (entry_at area n) ∷ []))
    noted_values = elim (dec_lt n out.met) [
      | yes l ↦ (
          let e : out.met ≡ n + 1 = omega (arith, noted.most) in
          ap (λ k. map value (entries_of area k)) e ∙ values_more area n ∙ sym (rw (new_one l)))
      | no l ↦ (
          let e : out.met ≡ n = omega (arith, noted.least) in
          ap (λ k. map value (entries_of area k)) e ∙ sym (rw (old_one (omega arith))))
    ]

-- ---- what is asked before the next entry is written

-- The entries before n stay, so the index is still theirs.
pub stays_indexed : (nodes area : List ℕ) (n : ℕ) (after index : List ℕ) → Stays nodes area n after → Indexed area index n → Indexed after index n
stays_indexed nodes area n after index stays indexed = indexed_same area after index n (λ i l. sym (stays.kept i l)) indexed
