-- A law for each way through the code.
use Prim.Native.Nat.{ℕ, zero, suc, ◌+◌, ◌-◌, ◌*◌, ◌%◌, ◌≤◌, ◌<◌}
use native.Mathlib.Omega.{arith}
use native.Mathlib.Nat.{add-zero, mul-le-mul}
use native.Mathlib.Numerals.{add-one}
use native.Mathlib.Decide.{dec_lt, ℕ_discrete}
use mathlib.Core.Path.{◌≡◌, refl, sym, ◌∙◌, ap, ap₂, subst}
use mathlib.Core.Logic.{◌⊎◌, inl, inr}
use mathlib.Core.Bool.{Bool, true, false, ◌&&◌, true≢false}
use mathlib.Core.List.{List, map}
use lib.ListN.{length, get_or}
use lib.Dec.{eqb}
use borrow.Author.Tests.{eqb-true, eqb-false, eq-eqb}
use mir.Syntax.{w8, w64}
use mir.Val.{Fits}
use Rattle.base.specs.Bytes.{number_at}
use Rattle.base.specs.Lists.{same_list, total}
use Rattle.base.proofs.Lists.{whether, false_by}
use Rattle.area_bytes.proofs.Numbers.{number_bound, same_bytes}
use Rattle.area_chains.specs.Chains.{head_in, link_in, added, Apart}
use Rattle.area_chains.proofs.Walks.{Walking, walk_start, walk_first, walk_on, walk_falls, walk_ahead}
use Rattle.area_chains.proofs.Additions.{added_chains}
use Rattle.std.specs.Prelude.{Some, None}
use Rattle.set_index.specs.Entries.{alternative_bytes, alternatives_room, entries_size, buckets, index_size}
use Rattle.set_index.specs.Entries.{entry_number, entry_first, alternative_at, alternatives_at, Entry, entry_at, same_entry, FoundEntry, found_entry, no_entry}
use Rattle.set_index.specs.Entries.{Headed, alternative_fours, multiplier, hash_upto, alternative_hash, hash_of, hashed, IsNew, Indexed}
use Rattle.set_index.proofs.Laws.{alternative_byte, alternative_same, alternatives_length, alternatives_cons, alternatives_none}
use Rattle.set_index.proofs.Laws.{entry_number_is, entry_alternatives_are}
use Rattle.set_index.proofs.Laws.{same_alternative_out, same_alternative_in, same_entry_out, headed_first}
use Rattle.set_index.proofs.Laws.{found_at, found_none, hash_below}

-- ---- numbers of an alternative

-- A number of an alternative is one of the area.
alternative_number : (width : ℕ) (entries : List ℕ) (s k : ℕ) → k + width ≤ alternative_bytes
    → number_at width (alternative_at entries s) k ≡ number_at width entries (60 * s + k)
unfolding number_at
alternative_number zero entries s k l = refl
alternative_number (suc width) entries s k l =
    let here = alternative_byte entries s k (omega arith) in
    let behind = alternative_number width entries s (k + 1) (omega arith) in
    let place : 60 * s + (k + 1) ≡ 60 * s + k + 1 = omega arith in
    rw (here, behind, place)

-- ---- the hash of an alternative

-- The loop over the numbers of alternative s, k of which have gone into h; m is the next multiplier.
pub record HashingAlternative (entries : List ℕ) (s h m k : ℕ) : Type 0 where
  pub small : h < 1152921504606846976 * (k + 1)
  pub small_multiplier : m < 268435456
  pub most : k ≤ alternative_fours
  pub so_far : h ≡ hash_upto (alternative_at entries s) k
  pub next : m ≡ multiplier k

pub hashing_start : (entries : List ℕ) (s : ℕ) → HashingAlternative entries s 0 48271 0
unfolding hash_upto multiplier
hashing_start entries s =
    record { small = omega arith; small_multiplier = omega arith; most = omega arith; so_far = refl; next = refl }

module _ (entries : List ℕ) (s h m k w : ℕ) (g : HashingAlternative entries s h m k) (is-w : w ≡ number_at 4 entries (60 * s + 4 * k))
    (bytes : (j : ℕ) → Fits w8 (get_or entries j 0)) where
  -- A product is small,
  product : m * w ≤ 268435455 * 4294967295
  product =
      let one : m ≤ 268435455 = omega (arith, g.small_multiplier) in
      let other : w ≤ 4294967295 = omega (arith, number_bound 4 entries (60 * s + 4 * k) bytes) in
      mul-le-mul one other

  pub product_fits : Fits w64 (m * w)
  product_fits = omega (arith, product)

  -- and so is the sum.
  pub sum_fits : k < 15 → Fits w64 (h + m * w)
  sum_fits l = omega (arith, product, g.small)

  pub hashing_more : k < 15 → HashingAlternative entries s (h + m * w) (m * 48271 % 268435456) (k + 1)
  unfolding hash_upto multiplier
  hashing_more l =
      let number = alternative_number 4 entries s (4 * k) (omega arith) in
      record {
        small = omega (arith, product, g.small);
        small_multiplier = omega arith;
        most = omega arith;
        so_far = rw (add-one k, number, ← is-w, ← g.so_far, ← g.next) refl;
        next = rw (add-one k, ← g.next) refl;
      }

-- All numbers.
pub hashing_end : (entries : List ℕ) (s h m k : ℕ) → HashingAlternative entries s h m k → 15 ≤ k
    → h % 3079 ≡ alternative_hash (alternative_at entries s)
unfolding alternative_hash
hashing_end entries s h m k g l =
    let all : k ≡ 15 = omega (arith, g.most) in
    ap (λ x. x % 3079) (g.so_far ∙ ap (hash_upto (alternative_at entries s)) all)

-- ---- the hash of an entry

-- The sum of the hashes of n alternatives from s on.
abbrev pub hashes : List ℕ → ℕ → ℕ → ℕ
hashes entries s n = total (map alternative_hash (alternatives_at entries s n))

-- The loop over the alternatives of entry i, which has come to s: with the hashes of those that are left h is the sum of all.
pub record HashingEntry (entries : List ℕ) (i end h s : ℕ) : Type 0 where
  pub small : h ≤ 34163176669184 + 3079 * s
  pub most : s ≤ end
  pub room : end ≤ alternatives_room
  pub last : end ≡ entry_first entries (i + 1)
  pub left : h + hashes entries s (end - s)
      ≡ 521288629 * entry_number entries i + hashes entries (entry_first entries i) (end - entry_first entries i)

-- A hash is small.
alternative_below : (bytes : List ℕ) (r : ℕ) → r ≡ alternative_hash bytes → r < 3079
unfolding alternative_hash
alternative_below bytes r e = omega arith

-- The number of the entry.
pub number_product : (l : List ℕ) (i w : ℕ) → w ≡ entry_number l i → ((j : ℕ) → Fits w8 (get_or l j 0)) → Fits w64 (521288629 * w)
number_product l i w e bytes = omega (arith, number_bound 2 l (60960 + 4 * i) bytes)

pub entry_start : (entries : List ℕ) (i end w s : ℕ) → end ≡ entry_first entries (i + 1) → w ≡ entry_number entries i
    → s ≡ entry_first entries i → Headed entries i → ((j : ℕ) → Fits w8 (get_or entries j 0)) → HashingEntry entries i end (521288629 * w) s
entry_start entries i end w s is_end is-w is-s headed bytes =
    record {
      small = omega (arith, number_bound 2 entries (60960 + 4 * i) bytes);
      most = omega (arith, headed.rising i (omega arith));
      room = omega (arith, headed.inside);
      last = is_end;
      left = ap₂ (λ (a b : ℕ). 521288629 * a + hashes entries b (end - b)) is-w is-s;
    }

module _ (entries : List ℕ) (i end h s : ℕ) (g : HashingEntry entries i end h s) where
  -- The next alternative is within the area.
  pub next_alternative : s < end → s < 1016
  next_alternative l = omega (arith, g.room)

  -- A hash more.
  pub entry_sum_fits : (r : ℕ) → r ≡ alternative_hash (alternative_at entries s) → s < end → Fits w64 (h + r)
  entry_sum_fits r e l = omega (arith, g.small, g.room, alternative_below (alternative_at entries s) r e)

  pub entry_more : (r : ℕ) → r ≡ alternative_hash (alternative_at entries s) → s < end → HashingEntry entries i end (h + r) (s + 1)
  unfolding total
  entry_more r e l =
      let one_less : end - s ≡ suc (end - (s + 1)) = omega arith in
      let next : hashes entries s (end - s) ≡ r + hashes entries (s + 1) (end - (s + 1)) =
      rw (one_less, alternatives_cons entries s (end - (s + 1)), ← e) refl in
      record {
        small = omega (arith, g.small, alternative_below (alternative_at entries s) r e);
        most = omega arith;
        room = g.room;
        last = g.last;
        left = omega (arith, g.left);
      }

  -- All alternatives.
  pub entry_end : end ≤ s → h % 3079 ≡ hash_of (entry_at entries i)
  unfolding hash_of entry_at total
  entry_end l =
      let none : end - s ≡ 0 = omega arith in
      let zero : hashes entries s (end - s) ≡ 0 = rw (none, alternatives_none entries s) refl in
      let all : h ≡ 521288629 * entry_number entries i + hashes entries (entry_first entries i) (end - entry_first entries i) =
      omega (arith, g.left) in
      ap (λ x. x % 3079) (all ∙ ap (λ (e : ℕ). 521288629 * entry_number entries i + hashes entries (entry_first entries i) (e - entry_first entries i)) g.last)

-- ---- equal alternatives

-- The loop over the bytes of alternatives s and t, the first k of which are equal.
pub record ComparingBytes (entries : List ℕ) (s t k : ℕ) : Type 0 where
  pub most : k ≤ alternative_bytes
  pub equal : (m : ℕ) → m < k → get_or entries (60 * s + m) 0 ≡ get_or entries (60 * t + m) 0

-- Before the first bytes.
bytes_start : (entries : List ℕ) (s t : ℕ) → ComparingBytes entries s t 0
bytes_start entries s t = record { most = omega arith; equal = λ m l. absurd (omega arith) }

-- the next eight bytes are equal
bytes_next : (entries : List ℕ) (s t k last x y : ℕ) → ComparingBytes entries s t k → last ≤ k → last + 8 ≤ alternative_bytes
    → x ≡ number_at 8 entries (60 * s + last) → y ≡ number_at 8 entries (60 * t + last) → x ≡ y
    → ((n : ℕ) → Fits w8 (get_or entries n 0)) → ComparingBytes entries s t (last + 8)
bytes_next entries s t k last x y g less most e f same bytes =
    record {
      most = most;
      equal = λ m l. elim (dec_lt m k) [
        | yes before ↦ g.equal m before
        | no not_before ↦ (
            let p : 60 * s + last + (m - last) ≡ 60 * s + m = omega arith in
            let q : 60 * t + last + (m - last) ≡ 60 * t + m = omega arith in
            rw (← p, ← q) (same_bytes 8 entries (60 * s + last) (60 * t + last) bytes (sym e ∙ same ∙ f) (m - last) (omega arith)))
      ];
    }

-- eight bytes that are not equal
differ_at : (entries : List ℕ) (s t k x y : ℕ) → k ≤ 52 → x ≡ number_at 8 entries (60 * s + k) → y ≡ number_at 8 entries (60 * t + k)
    → (x ≡ y → ⊥) → same_list eqb (alternative_at entries s) (alternative_at entries t) ≡ false
differ_at entries s t k x y l e f apart =
    false_by (same_list eqb (alternative_at entries s) (alternative_at entries t)) (λ same. apart
    (e ∙ sym (alternative_number 8 entries s k (omega arith))
    ∙ ap (λ (bytes : List ℕ). number_at 8 bytes k) (same_alternative_out (alternative_at entries s) (alternative_at entries t) same)
    ∙ alternative_number 8 entries t k (omega arith) ∙ sym f))

-- all bytes are equal
bytes_all : (entries : List ℕ) (s t : ℕ) → ComparingBytes entries s t alternative_bytes → s < alternatives_room → t < alternatives_room
    → entries_size ≤ length entries → same_list eqb (alternative_at entries s) (alternative_at entries t) ≡ true
bytes_all entries s t g room room' long =
    same_alternative_in (alternative_at entries s) (alternative_at entries t)
    (alternative_same entries entries s t (omega arith) (omega arith) g.equal)

-- The same loop, with what it has found so far: these bytes and the last eight are equal, or the alternatives are not.
pub record ComparedBytes (entries : List ℕ) (s t k : ℕ) (equal : Bool) : Type 0 where
  pub same : equal ≡ true → ComparingBytes entries s t k
  pub last : equal ≡ true → number_at 8 entries (60 * s + 52) ≡ number_at 8 entries (60 * t + 52)
  pub apart : equal ≡ false → same_list eqb (alternative_at entries s) (alternative_at entries t) ≡ false

-- The last eight bytes come first.
pub compared_start : (entries : List ℕ) (s t x y : ℕ) → x ≡ number_at 8 entries (60 * s + 52) → y ≡ number_at 8 entries (60 * t + 52)
    → ComparedBytes entries s t 0 (eqb x y)
compared_start entries s t x y e f =
    record {
      same = λ _. bytes_start entries s t;
      last = λ yes_they_are. sym e ∙ eqb-true x y yes_they_are ∙ f;
      apart = λ they_are_not. differ_at entries s t 52 x y (omega arith) e f (eqb-false x y they_are_not);
    }

module _ (entries : List ℕ) (s t k : ℕ) (equal : Bool) (g : ComparedBytes entries s t (8 * k) equal) where
  -- The next eight bytes are not equal, or they are.
  pub compared_next : (after : Bool) (x y : ℕ) → k < 7 → x ≡ number_at 8 entries (60 * s + 8 * k) → y ≡ number_at 8 entries (60 * t + 8 * k)
      → ((n : ℕ) → Fits w8 (get_or entries n 0)) → ((x ≡ y → ⊥) × (after ≡ false)) ⊎ ((x ≡ y) × (after ≡ equal))
      → ComparedBytes entries s t (8 * (k + 1)) after
  compared_next after x y l e f bytes (inl (apart, is_after)) =
      record {
        same = λ no. absurd (true≢false (sym no ∙ is_after));
        last = λ no. absurd (true≢false (sym no ∙ is_after));
        apart = λ _. differ_at entries s t (8 * k) x y (omega arith) e f apart;
      }
  compared_next after x y l e f bytes (inr (same, is_after)) =
      let eight_more : 8 * k + 8 ≡ 8 * (k + 1) = omega arith in
      record {
        same = λ so_far. subst (ComparingBytes entries s t) eight_more
            (bytes_next entries s t (8 * k) (8 * k) x y (g.same (sym is_after ∙ so_far)) (omega arith) (omega arith) e f same bytes);
        last = λ so_far. g.last (sym is_after ∙ so_far);
        apart = λ no. g.apart (sym is_after ∙ no);
      }

  -- All have been compared.
  pub compared_end : 7 ≤ k → s < alternatives_room → t < alternatives_room → entries_size ≤ length entries
      → ((n : ℕ) → Fits w8 (get_or entries n 0)) → equal ≡ same_list eqb (alternative_at entries s) (alternative_at entries t)
  compared_end l room room' long bytes =
      whether equal
      (λ yes_they_are. yes_they_are ∙ sym (bytes_all entries s t
      (bytes_next entries s t (8 * k) 52 (number_at 8 entries (60 * s + 52)) (number_at 8 entries (60 * t + 52)) (g.same yes_they_are) (omega arith)
      (omega arith) refl refl (g.last yes_they_are) bytes) room room' long))
      (λ they_are_not. they_are_not ∙ sym (g.apart they_are_not))

-- Whether n alternatives from s on and from t on are equal.
abbrev pub alike : List ℕ → ℕ → ℕ → ℕ → Bool
alike entries s t n = same_list (same_list eqb) (alternatives_at entries s n) (alternatives_at entries t n)

-- The loop over alternatives from s on and from t on, the first k of which are equal: those that are left decide.
pub record ComparingAlternatives (entries : List ℕ) (s t count k : ℕ) : Type 0 where
  pub most : k ≤ count
  pub left : alike entries (s + k) (t + k) (count - k) ≡ alike entries s t count

pub alternatives_start : (entries : List ℕ) (s t count : ℕ) → ComparingAlternatives entries s t count 0
alternatives_start entries s t count =
    record { most = omega arith; left = let e : count - 0 ≡ count = omega arith in rw (add-zero s, add-zero t, e) refl }

module _ (entries : List ℕ) (s t count k : ℕ) (g : ComparingAlternatives entries s t count k) where
  -- the next ones and those behind them
  next_alike : k < count
      → alike entries s t count
      ≡ (same_list eqb (alternative_at entries (s + k)) (alternative_at entries (t + k)) && alike entries (s + (k + 1)) (t + (k + 1)) (count - (k + 1)))
  unfolding same_list
  next_alike l =
      let one_less : count - k ≡ suc (count - (k + 1)) = omega arith in
      let p : s + k + 1 ≡ s + (k + 1) = omega arith in
      let q : t + k + 1 ≡ t + (k + 1) = omega arith in
      sym g.left
      ∙ rw (one_less, alternatives_cons entries (s + k) (count - (k + 1)), alternatives_cons entries (t + k) (count - (k + 1)), p, q) refl

  -- The next ones are equal.
  pub alternatives_more : (b : Bool) → k < count → b ≡ same_list eqb (alternative_at entries (s + k)) (alternative_at entries (t + k))
      → b ≡ true → ComparingAlternatives entries s t count (k + 1)
  alternatives_more b l is_b e =
      let same : same_list eqb (alternative_at entries (s + k)) (alternative_at entries (t + k)) ≡ true = sym is_b ∙ e in
      record { most = omega arith; left = sym (next_alike l ∙ rw same refl) }

  -- The next ones are not.
  pub alternatives_differ : (b : Bool) → k < count → b ≡ same_list eqb (alternative_at entries (s + k)) (alternative_at entries (t + k))
      → b ≡ false → false ≡ same_list (same_list eqb) (alternatives_at entries s count) (alternatives_at entries t count)
  alternatives_differ b l is_b e =
      let apart : same_list eqb (alternative_at entries (s + k)) (alternative_at entries (t + k)) ≡ false = sym is_b ∙ e in
      sym (next_alike l ∙ rw apart refl)

  -- All are.
  pub alternatives_end : count ≤ k → true ≡ same_list (same_list eqb) (alternatives_at entries s count) (alternatives_at entries t count)
  unfolding same_list
  alternatives_end l =
      let none : count - k ≡ 0 = omega arith in
      sym (rw (none, alternatives_none entries (s + k), alternatives_none entries (t + k)) refl) ∙ g.left

-- ---- equal entries

-- The numbers are not equal.
pub numbers_differ : (entries : List ℕ) (i j x y : ℕ) → x ≡ entry_number entries i → y ≡ entry_number entries j → (x ≡ y → ⊥)
    → false ≡ same_entry (entry_at entries i) (entry_at entries j)
numbers_differ entries i j x y e f apart =
    sym (false_by (same_entry (entry_at entries i) (entry_at entries j)) (λ same.
    apart (e ∙ numbers (same_entry_out (entry_at entries i) (entry_at entries j) same) ∙ sym f)))
  where
    numbers : entry_at entries i ≡ entry_at entries j → entry_number entries i ≡ entry_number entries j
    numbers p = sym (entry_number_is entries i) ∙ ap (λ (z : Entry). z.number) p ∙ entry_number_is entries j

module _ (entries : List ℕ) (i j s t e f : ℕ) (is-s : s ≡ entry_first entries i) (is_t : t ≡ entry_first entries j)
    (is-e : e ≡ entry_first entries (i + 1)) (is_f : f ≡ entry_first entries (j + 1)) where
  -- There are more of the one than of the other.
  pub counts_differ : (f - t ≡ e - s → ⊥) → false ≡ same_entry (entry_at entries i) (entry_at entries j)
  counts_differ apart =
      sym (false_by (same_entry (entry_at entries i) (entry_at entries j)) (λ same.
      apart (omega (arith, counts (same_entry_out (entry_at entries i) (entry_at entries j) same)))))
    where
      counts : entry_at entries i ≡ entry_at entries j
          → entry_first entries (i + 1) - entry_first entries i ≡ entry_first entries (j + 1) - entry_first entries j
      counts p =
          sym (ap length (entry_alternatives_are entries i) ∙ alternatives_length entries (entry_first entries i) (entry_first entries (i + 1) - entry_first entries i))
          ∙ ap (λ (z : Entry). length z.alternatives) p
          ∙ ap length (entry_alternatives_are entries j) ∙ alternatives_length entries (entry_first entries j) (entry_first entries (j + 1) - entry_first entries j)

  -- There are as many: they decide.
  pub counts_same : (x y : ℕ) (r : Bool) → r ≡ same_list (same_list eqb) (alternatives_at entries s (e - s)) (alternatives_at entries t (e - s))
      → x ≡ entry_number entries i → y ≡ entry_number entries j → x ≡ y → f - t ≡ e - s
      → r ≡ same_entry (entry_at entries i) (entry_at entries j)
  unfolding same_entry entry_at
  counts_same x y r is_r is_x is_y same many =
      let numbers = eq-eqb (entry_number entries i) (entry_number entries j) (sym is_x ∙ same ∙ is_y) in
      is_r ∙ rw (← is-s, ← is_t, ← is-e, ← is_f, many, numbers) refl

pub own_inside : (entries : List ℕ) (i s e : ℕ) → Headed entries i → s ≡ entry_first entries i → e ≡ entry_first entries (i + 1)
    → s + (e - s) ≤ 1016
own_inside entries i s e headed is-s is-e = omega (arith, headed.rising i (omega arith), headed.inside)

pub other_inside : (entries : List ℕ) (i j t f n : ℕ) → Headed entries i → t ≡ entry_first entries j → f ≡ entry_first entries (j + 1)
    → f - t ≡ n → j ≤ i → t + n ≤ 1016
other_inside entries i j t f n headed is_t is_f many l =
    omega (arith, headed.rising j l, headed_first entries i headed (j + 1) (omega arith))

-- ---- heads and links

-- What belongs to a bucket lies within the index, wherever a table of two-byte numbers begins.
pub bucket_there : (entry : Entry) (index : List ℕ) (start h : ℕ) → h ≡ hash_of entry → index_size ≤ length index → start ≤ 2000
    → start + 2 * h + 1 < length index
bucket_there entry index start h e room l = omega (arith, hash_below entry)

-- What is read at the head of an entry's bucket.
pub head_read : (entry : Entry) (index : List ℕ) (h r : ℕ) → h ≡ hash_of entry → r ≡ head_in 0 index h → r ≡ head_in 0 index (hash_of entry)
head_read entry index h r e f = f ∙ ap (head_in 0 index) e

-- Entry n is added to the index.
pub add_entry : (entries index after : List ℕ) (n h : ℕ) → Indexed entries index n → IsNew entries n → n ≤ 1000 → index_size ≤ length index
    → h ≡ hash_of (entry_at entries n) → after ≡ added 0 6160 index h n → Indexed entries after (n + 1)
unfolding Apart
add_entry entries index after n h indexed new few room e f =
    let small = hash_below (entry_at entries n) in
    record {
      chained =
          added_chains 0 buckets 6160 1001 index h n (inl (omega arith)) (omega arith) (omega arith) (omega arith) (omega arith)
          (hashed entries) after (omega arith) indexed.chained (sym e) (λ g s. sym s ∙ sym e) f;
      distinct = λ j l. elim (dec_lt j n) [
        | yes before ↦ indexed.distinct j before
        | no here ↦ let last : j ≡ n = omega arith in rw last new
      ];
    }

-- Entry 0 is a new one.
pub none_before : (entries : List ℕ) → IsNew entries 0
none_before entries = record { other = λ i l. absurd (omega arith) }

-- ---- a search along a chain

-- Of the entries from `at` on none is equal to entry n; the walk through the bucket has come to `at`.
pub record SearchingBucket (entries : List ℕ) (n at : ℕ) : Type 0 where
  pub under : at ≤ n
  pub none : (i : ℕ) → at ≤ i → i < n → same_entry (entry_at entries n) (entry_at entries i) ≡ false
  pub walk : Walking (hashed entries) buckets n (hash_of (entry_at entries n)) at

module _ (entries index : List ℕ) (n : ℕ) (indexed : Indexed entries index n) where
  -- the hash of the entry that is looked up
  abbrev h : ℕ
  h = hash_of (entry_at entries n)

  -- an entry that is equal has the same hash
  equal_hashed : (i : ℕ) → same_entry (entry_at entries n) (entry_at entries i) ≡ true → hashed entries i h
  equal_hashed i e = ap hash_of (sym (same_entry_out (entry_at entries n) (entry_at entries i) e))

  -- The chain begins at the head of the bucket.
  pub find_start : (at : ℕ) → at ≡ head_in 0 index (hash_of (entry_at entries n)) → SearchingBucket entries n at
  find_start at e =
      let begin =
      walk_start (hashed entries) buckets (head_in 0 index) (link_in 6160 index) n h indexed.chained (hash_below (entry_at entries n)) at e in
      record {
        under = within at begin;
        none = λ i k l. false_by (same_entry (entry_at entries n) (entry_at entries i)) (λ same.
            omega (
              arith,
              walk_first (hashed entries) buckets (head_in 0 index) (link_in 6160 index) n h indexed.chained
                  (hash_below (entry_at entries n)) at e i l (equal_hashed i same),
            ));
        walk = begin;
      }
    where
      within : (x : ℕ) → Walking (hashed entries) buckets n h x → x ≤ n
      within zero w = omega arith
      within (suc i) w = (w.node i refl).there

  module _ (at : ℕ) (b : Bool) (g : SearchingBucket entries n at) (l : 0 < at)
      (is_b : b ≡ same_entry (entry_at entries n) (entry_at entries (at - 1))) where
    -- The entry is equal to the one that is looked up; then none before it is.
    pub find_hit : b ≡ true → FoundEntry entries n (Some (at - 1))
    find_hit t =
        let low : at - 1 < n = omega (arith, g.under) in
        let hit = sym is_b ∙ t in
        found_entry (at - 1) low (found_at entries n (at - 1) low hit (λ i k. false_by (same_entry (entry_at entries n) (entry_at entries i)) (λ same.
        (indexed.distinct (at - 1) low).other i k
        (sym (same_entry_out (entry_at entries n) (entry_at entries i) same)
        ∙ same_entry_out (entry_at entries n) (entry_at entries (at - 1)) hit))))

    module _ (r : ℕ) (to_next : r ≡ link_in 6160 index (at - 1)) where
      -- A link leads to an entry further in front.
      pub find_less : r < at
      find_less =
          walk_falls (hashed entries) buckets (head_in 0 index) (link_in 6160 index) n h indexed.chained (hash_below (entry_at entries n))
          at r g.walk l to_next

      -- between the two none is equal
      between : (i : ℕ) → r ≤ i → i < at - 1 → same_entry (entry_at entries n) (entry_at entries i) ≡ false
      between i k m =
          false_by (same_entry (entry_at entries n) (entry_at entries i)) (λ same.
          omega (
            arith,
            walk_ahead (hashed entries) buckets (head_in 0 index) (link_in 6160 index) n h indexed.chained
                (hash_below (entry_at entries n)) at r g.walk l to_next i (equal_hashed i same) (omega arith)
                (λ e. omega arith),
          ))

      -- It is not equal.
      pub find_miss : b ≡ false → SearchingBucket entries n r
      find_miss t =
          let less = find_less in
          let under = g.under in
          record {
            under = omega arith;
            none = λ i k m. elim (dec_lt i (at - 1)) [
              | yes before ↦ between i k before
              | no not_before ↦ (
                  elim (ℕ_discrete i (at - 1)) [ yes here ↦ rw here (sym is_b ∙ t) | no not_here ↦ g.none i (omega arith) m ])
            ];
            walk = walk_on (hashed entries) buckets (head_in 0 index) (link_in 6160 index) n h indexed.chained (hash_below (entry_at entries n))
                at r g.walk l to_next;
          }

-- The chain has ended.
pub find_end : (entries : List ℕ) (n at : ℕ) → SearchingBucket entries n at → at ≤ 0 → FoundEntry entries n None
find_end entries n at g l = no_entry (found_none entries n (λ i k. g.none i (omega arith) k))
