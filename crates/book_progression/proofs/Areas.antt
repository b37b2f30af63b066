-- Parts of an area: one is lent and comes back.
use Prim.Native.Nat.{ℕ, ◌+◌, ◌-◌, ◌≤◌, ◌<◌}
use native.Mathlib.Omega.{arith}
use mathlib.Core.Path.{◌≡◌, refl, sym, ◌∙◌, ap}
use mathlib.Core.Logic.{◌⊎◌, inl, inr}
use mathlib.Core.List.{List, ◌++◌}
use lib.ListN.{length, get_or, set, take, drop, length-set}
use lib.Seq.{length-take-le, get_or-take, get_or-drop, ext_get_or, take_at, drop_at, take-set-le, drop-set-lt}
use borrow.Rule.Slice.PartMut.{put_mid, post_of, same_len_mid, mid_len, take_put, drop_put}
use Rattle.book_progression.specs.PendingBytes.{part}
use Rattle.book_progression.specs.Promises.{Parts, Beside}

-- ---- a part is lent and comes back

module _ (area : List ℕ) (to n : ℕ) where
  -- What is lent is the part,
  pub lent : take (to + n - to) (drop to area) ≡ part area to n
  unfolding part
  lent = let same : to + n - to ≡ n = omega arith in rw same

  -- of n bytes.
  pub lent_length : to + n ≤ length area → length (take (to + n - to) (drop to area)) ≡ n
  lent_length fits = mid_len to (to + n) area fits ∙ omega arith

  pub part_length : to + n ≤ length area → length (part area to n) ≡ n
  part_length fits = ap length (sym lent) ∙ lent_length fits

  -- a byte of the part
  pub part_at : (i : ℕ) → i < n → get_or (part area to n) i 0 ≡ get_or area (to + i) 0
  unfolding part
  part_at i low = get_or-take n (drop to area) i 0 low ∙ get_or-drop to area i 0

  module _ (z : List ℕ) (fits : to + n ≤ length area) (size : length z ≡ n) where
    -- When it is back, the part is what was left in it, and the rest is as it was.
    pub part_back : part (put_mid to (to + n - to) area z) to n ≡ z
    unfolding part
    part_back =
        ap (take n) (drop_at (take to area) (z ++ post_of to (to + n - to) area) to (length-take-le to area (omega arith)))
        ∙ take_at z (post_of to (to + n - to) area) n size

    pub beside_back : Beside area to n (put_mid to (to + n - to) area z)
    beside_back =
        record {
          size = same_len_mid to (to + n - to) area z (size ∙ sym (lent_length fits));
          before = take_put to (to + n - to) area z (omega arith);
          behind = drop_put to (to + n) area z (omega arith) fits (size ∙ omega arith);
        }

pub beside_none : (area : List ℕ) (to n : ℕ) → Beside area to n area
beside_none area to n = record { size = refl; before = refl; behind = refl }

-- A byte is stored in the part.
pub beside_set : (area : List ℕ) (to n k v : ℕ) → k < n → Beside area to n (set area (to + k) v)
beside_set area to n k v low =
    record {
      size = length-set area (to + k) v;
      before = take-set-le to area (to + k) v (omega arith);
      behind = drop-set-lt (to + n) area (to + k) v (omega arith);
    }

pub beside_both : (area : List ℕ) (to n : ℕ) (mid after : List ℕ) → Beside area to n mid → Beside mid to n after → Beside area to n after
beside_both area to n mid after one two =
    record { size = two.size ∙ one.size; before = two.before ∙ one.before; behind = two.behind ∙ one.behind }

-- Two parts that do not meet: a change of one leaves the other.
module _ (area : List ℕ) (from to n : ℕ) (after : List ℕ) (parts : Parts (length area) n from to) (beside : Beside area to n after) where
  pub apart_at : (i : ℕ) → i < n → get_or after (from + i) 0 ≡ get_or area (from + i) 0
  apart_at i low = go parts.apart
    where
      go : (from + n ≤ to) ⊎ (to + n ≤ from) → get_or after (from + i) 0 ≡ get_or area (from + i) 0
      go (inl le) =
          let inside : from + i < to = omega arith in
          sym (get_or-take to after (from + i) 0 inside) ∙ ap (λ l. get_or l (from + i) 0) beside.before ∙ get_or-take to area (from + i) 0 inside
      go (inr le) =
          let place : to + n + (from + i - (to + n)) ≡ from + i = omega arith in
          ap (λ x. get_or after x 0) (sym place) ∙ sym (get_or-drop (to + n) after (from + i - (to + n)) 0)
          ∙ ap (λ l. get_or l (from + i - (to + n)) 0) beside.behind
          ∙ get_or-drop (to + n) area (from + i - (to + n)) 0 ∙ ap (λ x. get_or area x 0) place

  pub apart_part : part after from n ≡ part area from n
  apart_part =
      ext_get_or 0 (part after from n) (part area from n) (there ∙ sym (part_length area from n parts.from_fits))
      (λ i low. let inside : i < n = omega (arith, there) in
      part_at after from n i inside ∙ apart_at i inside ∙ sym (part_at area from n i inside))
    where
      there : length (part after from n) ≡ n
      there = part_length after from n (omega (arith, parts.from_fits, beside.size))

-- The area may have changed meanwhile.
pub parts_still : (size n from to now m : ℕ) → m ≡ n → Parts size n from to → now ≡ size → Parts now m from to
parts_still size n from to now m all was same = rw (same, all) was
