-- Chains in an area: one that is cleared has none, and a number that is put at the head of its bucket stands in its chain.
use Prim.Native.Nat.{ℕ, zero, suc, ◌+◌, ◌*◌, ◌≤◌, ◌<◌}
use native.Mathlib.Omega.{arith}
use native.Mathlib.Numerals.{add-one}
use native.Mathlib.Decide.{dec_lt}
use mathlib.Core.Path.{◌≡◌, refl, sym, ◌∙◌}
use mathlib.Core.Logic.{◌⊎◌, inl, inr}
use mathlib.Core.List.{List}
use lib.ListN.{length, take, replicate}
use lib.Seq.{sets}
use Rattle.base.specs.Bytes.{number_at, number_bytes}
use Rattle.area_bytes.proofs.Clearing.{cleared_byte}
use Rattle.area_bytes.proofs.Numbers.{stored, stored_read, stored_beside, take_stored, length_stored}
use Rattle.area_chains.specs.Chains.{Chained, head_in, link_in, added, Apart}
use Rattle.area_chains.proofs.Walks.{chained_none, chained_more}

-- A cleared area has empty chains.
pub cleared_chains : (Stands : ℕ → ℕ → Type 0) (buckets heads_at links_at size : ℕ) (area : List ℕ) → area ≡ replicate size 0
    → Chained Stands buckets (head_in heads_at area) (link_in links_at area) 0
unfolding head_in number_at
cleared_chains Stands buckets heads_at links_at size area e =
    chained_none Stands buckets (head_in heads_at area) (link_in links_at area) (λ h l. rw e (zeros h))
  where
    zeros : (h : ℕ) → head_in heads_at (replicate size 0) h ≡ 0
    zeros h = omega (arith, cleared_byte size (heads_at + 2 * h), cleared_byte size (heads_at + 2 * h + 1))

module _ (heads_at buckets links_at numbers : ℕ) (area : List ℕ) (h k : ℕ) (apart : Apart heads_at buckets links_at numbers)
    (heads_room : heads_at + 2 * buckets ≤ length area) (links_room : links_at + 2 * numbers ≤ length area) (small : h < buckets)
    (within : k < numbers) where
  -- the area with the link written, and with both
  abbrev one : List ℕ
  one = stored area (links_at + 2 * k) (head_in heads_at area h)

  abbrev both : List ℕ
  both = stored one (heads_at + 2 * h) (k + 1)

  -- a head and a link lie apart
  beside : (g l : ℕ) → g < buckets → l < numbers → (links_at + 2 * l + 1 < heads_at + 2 * g) ⊎ (heads_at + 2 * g + 1 < links_at + 2 * l)
  unfolding Apart
  beside g l sg sl = go apart
    where
      go : (heads_at + 2 * buckets ≤ links_at) ⊎ (links_at + 2 * numbers ≤ heads_at)
          → (links_at + 2 * l + 1 < heads_at + 2 * g) ⊎ (heads_at + 2 * g + 1 < links_at + 2 * l)
      go (inl a) = inr (omega arith)
      go (inr a) = inl (omega arith)

  other_side : {p q r s : ℕ} → (p < q) ⊎ (r < s) → (r < s) ⊎ (p < q)
  other_side (inl a) = inr a
  other_side (inr a) = inl a

  either : (a b : ℕ) → (a ≡ b → ⊥) → (heads_at + 2 * a + 1 < heads_at + 2 * b) ⊎ (heads_at + 2 * b + 1 < heads_at + 2 * a)
  either a b other = elim (dec_lt a b) [ yes l ↦ inl (omega arith) | no l ↦ inr (omega (arith, other)) ]

  either_link : (a b : ℕ) → (a ≡ b → ⊥) → (links_at + 2 * a + 1 < links_at + 2 * b) ⊎ (links_at + 2 * b + 1 < links_at + 2 * a)
  either_link a b other = elim (dec_lt a b) [ yes l ↦ inl (omega arith) | no l ↦ inr (omega (arith, other)) ]

  head_here : k + 1 < 65536 → head_in heads_at both h ≡ suc k
  unfolding head_in
  head_here fits =
      let long = length_stored area (links_at + 2 * k) (number_at 2 area (heads_at + 2 * h)) in
      stored_read one (heads_at + 2 * h) (k + 1) (omega arith) fits ∙ add-one k

  head_else : (g : ℕ) → g < buckets → (g ≡ h → ⊥) → head_in heads_at both g ≡ head_in heads_at area g
  unfolding head_in
  head_else g l other =
      stored_beside one (heads_at + 2 * h) (k + 1) (heads_at + 2 * g) (either g h other)
      ∙ stored_beside area (links_at + 2 * k) (number_at 2 area (heads_at + 2 * h)) (heads_at + 2 * g) (other_side (beside g k l within))

  link_here : head_in heads_at area h < 65536 → link_in links_at both k ≡ head_in heads_at area h
  unfolding link_in head_in
  link_here fits =
      stored_beside one (heads_at + 2 * h) (k + 1) (links_at + 2 * k) (beside h k small within)
      ∙ stored_read area (links_at + 2 * k) (number_at 2 area (heads_at + 2 * h)) (omega arith) fits

  link_else : (l : ℕ) → l < k → link_in links_at both l ≡ link_in links_at area l
  unfolding link_in head_in
  link_else l less =
      stored_beside one (heads_at + 2 * h) (k + 1) (links_at + 2 * l) (beside h l small (omega arith))
      ∙ stored_beside area (links_at + 2 * k) (number_at 2 area (heads_at + 2 * h)) (links_at + 2 * l)
      (either_link l k (λ e. omega arith))

  -- Number k, put at the head of its bucket, stands in its chain.
  pub added_chains : (Stands : ℕ → ℕ → Type 0) (after : List ℕ) → k + 1 < 65536
      → Chained Stands buckets (head_in heads_at area) (link_in links_at area) k → Stands k h → ((g : ℕ) → Stands k g → g ≡ h)
      → after ≡ added heads_at links_at area h k → Chained Stands buckets (head_in heads_at after) (link_in links_at after) (k + 1)
  unfolding added
  added_chains Stands after fits c s only e =
      rw e
      (chained_more Stands buckets (head_in heads_at area) (link_in links_at area) (head_in heads_at both) (link_in links_at both) k h c
      small s only (link_here (before (head_in heads_at area h) refl)) link_else (head_here fits) head_else)
    where
      before : (x : ℕ) → x ≡ head_in heads_at area h → head_in heads_at area h < 65536
      before zero e = omega arith
      before (suc j) e = omega (arith, (c.heads h j small (sym e)).there)

-- What the stores write.
pub both_written : (heads_at links_at : ℕ) (area : List ℕ) (h k before : ℕ) (one both : List ℕ) → before ≡ head_in heads_at area h
    → one ≡ sets area (links_at + 2 * k) (number_bytes 2 before) → both ≡ sets one (heads_at + 2 * h) (number_bytes 2 (k + 1))
    → both ≡ added heads_at links_at area h k
unfolding added
both_written heads_at links_at area h k before one both e f g = rw (g, f, e)

-- What lies before heads and links is as it was.
pub added_front : (heads_at links_at : ℕ) (area : List ℕ) (h k p : ℕ) → p ≤ heads_at → p ≤ links_at
    → take p (added heads_at links_at area h k) ≡ take p area
unfolding added
added_front heads_at links_at area h k p l m =
    take_stored p (stored area (links_at + 2 * k) (head_in heads_at area h)) (heads_at + 2 * h) (k + 1) (omega arith)
    ∙ take_stored p area (links_at + 2 * k) (head_in heads_at area h) (omega arith)
