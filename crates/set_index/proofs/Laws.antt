-- What callers may use: entries and their bytes, heads that are written, the answer of a search for an entry, and when an index is one of the
-- entries.
use Prim.Native.Nat.{ℕ, zero, suc, ◌+◌, ◌-◌, ◌*◌, ◌≤◌, ◌<◌}
use native.Mathlib.Omega.{arith}
use native.Mathlib.Nat.{add-zero, zero-add}
use native.Mathlib.Numerals.{add-one}
use native.Mathlib.Decide.{dec_lt}
use mathlib.Core.Path.{◌≡◌, refl, sym, ◌∙◌, ap, ap₂}
use mathlib.Core.Logic.{inl, inr}
use mathlib.Core.Bool.{true, false}
use mathlib.Core.List.{List, [], ◌∷◌, ◌++◌, map, map-append}
use lib.ListN.{length, get_or, take, drop, replicate, length-take, length-drop, length-map}
use lib.ListN.{get_or-map}
use lib.Seq.{sets, get_or-take, get_or-drop, length-take-le, ext_get_or}
use lib.Dec.{eqb}
use borrow.Author.Tests.{eqb-true, eq-eqb}
use Rattle.base.specs.Bytes.{byte_at, number_at, number_bytes}
use Rattle.base.specs.Lists.{count_from, below, place_of, same_list}
use Rattle.base.proofs.Lists.{count_from_next, never_both, and_left, and_right, and_both, same_list_eq, eq_same_list}
use Rattle.base.proofs.Lists.{length_count_from, length_below, get_or_below}
use Rattle.base.proofs.Lists.{place_of_le, place_of_at, place_of_before, place_of_first}
use Rattle.area_bytes.proofs.Numbers.{stored, stored_read, stored_beside, byte_beside, length_stored}
use Rattle.area_bytes.proofs.Clearing.{cleared_byte}
use Rattle.area_chains.specs.Chains.{head_in, link_in}
use Rattle.area_chains.proofs.Walks.{chained_stands}
use Rattle.area_chains.proofs.Additions.{cleared_chains}
use Rattle.std.specs.Prelude.{None}
use Rattle.set_index.specs.Entries.{alternative_bytes, most_entries, most_alternatives, alternatives_room, entry_heads, entries_size}
use Rattle.set_index.specs.Entries.{entry_number, entry_first, alternative_at, alternatives_at, Entry, entry_at, entries_of, same_entry, FoundEntry, no_entry}
use Rattle.set_index.specs.Entries.{Headed, Heads, SameBefore, buckets, hash_of, hashed, IsNew, Indexed}

-- ---- alternatives

-- The bytes of an alternative are those of the area from its place on.
pub alternative_byte : (area : List ℕ) (s k : ℕ) → k < alternative_bytes
    → get_or (alternative_at area s) k 0 ≡ get_or area (alternative_bytes * s + k) 0
unfolding alternative_at
alternative_byte area s k l = get_or-take 60 (drop (60 * s) area) k 0 l ∙ get_or-drop (60 * s) area k 0

-- An alternative that ends within the area has all its bytes.
pub alternative_length : (area : List ℕ) (s : ℕ) → alternative_bytes * s + alternative_bytes ≤ length area
    → length (alternative_at area s) ≡ alternative_bytes
unfolding alternative_at
alternative_length area s l =
    let e = length-drop (60 * s) area in
    length-take-le 60 (drop (60 * s) area) (omega arith)

-- Areas of one length that agree on its bytes have the same alternative.
pub alternative_agree : (one other : List ℕ) (s : ℕ) → length one ≡ length other
    → ((p : ℕ) → alternative_bytes * s ≤ p → p < alternative_bytes * (s + 1) → byte_at one p ≡ byte_at other p)
    → alternative_at one s ≡ alternative_at other s
unfolding alternative_at
alternative_agree one other s same_length agree =
    let e = length-take 60 (drop (60 * s) one) in
    let f = length-take 60 (drop (60 * s) other) in
    let g = length-drop (60 * s) one in
    let h = length-drop (60 * s) other in
    ext_get_or 0 (take 60 (drop (60 * s) one)) (take 60 (drop (60 * s) other)) (omega arith) (λ k m.
    let small : k < 60 = omega arith in
    let before : 60 * s + k < 60 * (s + 1) = omega arith in
    get_or-take 60 (drop (60 * s) one) k 0 small ∙ get_or-drop (60 * s) one k 0 ∙ agree (60 * s + k) (omega arith) before
    ∙ sym (get_or-drop (60 * s) other k 0) ∙ sym (get_or-take 60 (drop (60 * s) other) k 0 small))

-- Alternatives within their areas are equal if their bytes are, wherever they stand.
pub alternative_same : (one other : List ℕ) (s t : ℕ) → alternative_bytes * s + alternative_bytes ≤ length one
    → alternative_bytes * t + alternative_bytes ≤ length other
    → ((k : ℕ) → k < alternative_bytes → byte_at one (alternative_bytes * s + k) ≡ byte_at other (alternative_bytes * t + k))
    → alternative_at one s ≡ alternative_at other t
alternative_same one other s t room room' same =
    let long = alternative_length one s room in
    let long' = alternative_length other t room' in
    ext_get_or 0 (alternative_at one s) (alternative_at other t) (omega arith) (λ k l.
    let small : k < 60 = omega arith in
    alternative_byte one s k small ∙ same k small ∙ sym (alternative_byte other t k small))

-- There are n of them in n from s on,
pub alternatives_length : (area : List ℕ) (s n : ℕ) → length (alternatives_at area s n) ≡ n
unfolding alternatives_at
alternatives_length area s n = length-map (count_from s n) (alternative_at area) ∙ length_count_from s n

-- the k-th of which is alternative s + k,
pub alternatives_nth : (area : List ℕ) (s n k : ℕ) (d : List ℕ) → k < n → get_or (alternatives_at area s n) k d ≡ alternative_at area (s + k)
unfolding alternatives_at count_from
alternatives_nth area s zero k d l = absurd (omega arith)
alternatives_nth area s (suc n) zero d l = ap (alternative_at area) (sym (add-zero s))
alternatives_nth area s (suc n) (suc k) d l =
    let place : suc s + k ≡ s + suc k = omega arith in
    alternatives_nth area (suc s) n k d (omega arith) ∙ ap (alternative_at area) place

-- and alternative s is the first.
pub alternatives_cons : (area : List ℕ) (s n : ℕ) → alternatives_at area s (suc n) ≡ alternative_at area s ∷ alternatives_at area (s + 1) n
unfolding alternatives_at count_from
alternatives_cons area s n = rw (add-one s)

pub alternatives_none : (area : List ℕ) (s : ℕ) → alternatives_at area s 0 ≡ []
unfolding alternatives_at count_from
alternatives_none area s = refl

-- One more comes behind the others.
pub alternatives_more : (area : List ℕ) (s n : ℕ)
    → alternatives_at area s (n + 1) ≡ alternatives_at area s n ++ (alternative_at area (s + n) ∷ [])
unfolding alternatives_at
alternatives_more area s n = rw (add-one n, count_from_next s n) (map-append (alternative_at area) (count_from s n) ((s + n) ∷ []))

count_same : {X : Type 0} (f g : ℕ → X) (k n : ℕ) → ((i : ℕ) → k ≤ i → i < k + n → f i ≡ g i) → map f (count_from k n) ≡ map g (count_from k n)
unfolding count_from
count_same f g k zero agree = refl
count_same f g k (suc n) agree =
    let here = agree k (omega arith) (omega arith) in
    let rest = count_same f g (suc k) n (λ i l m. agree i (omega arith) (omega arith)) in
    rw (here, rest)

-- Areas of one length that agree on their bytes have the same alternatives.
pub alternatives_agree : (one other : List ℕ) (s n : ℕ) → length one ≡ length other
    → ((p : ℕ) → alternative_bytes * s ≤ p → p < alternative_bytes * (s + n) → byte_at one p ≡ byte_at other p)
    → alternatives_at one s n ≡ alternatives_at other s n
unfolding alternatives_at
alternatives_agree one other s n same_length agree =
    count_same (alternative_at one) (alternative_at other) s n (λ i l m.
    alternative_agree one other i same_length (λ p k o. agree p (omega arith) (omega arith)))

-- ---- entries

abbrev entry : ℕ → List (List ℕ) → Entry
entry n xs = record { number = n; alternatives = xs }

-- What an entry has.
pub entry_number_is : (area : List ℕ) (i : ℕ) → (entry_at area i).number ≡ entry_number area i
unfolding entry_at
entry_number_is area i = refl

pub entry_alternatives_are : (area : List ℕ) (i : ℕ)
    → (entry_at area i).alternatives ≡ alternatives_at area (entry_first area i) (entry_first area (i + 1) - entry_first area i)
unfolding entry_at
entry_alternatives_are area i = refl

-- Equal numbers and equal alternatives make equal entries.
pub entry_same : (one other : List ℕ) (i j : ℕ) → entry_number one i ≡ entry_number other j
    → alternatives_at one (entry_first one i) (entry_first one (i + 1) - entry_first one i)
    ≡ alternatives_at other (entry_first other j) (entry_first other (j + 1) - entry_first other j)
    → entry_at one i ≡ entry_at other j
unfolding entry_at
entry_same one other i j e f = ap₂ entry e f

-- The first n entries are n.
pub entries_length : (area : List ℕ) (n : ℕ) → length (entries_of area n) ≡ n
unfolding entries_of
entries_length area n = length-map (below n) (entry_at area) ∙ length_below n

-- The i-th of the first n entries is entry i.
pub entries_at : (area : List ℕ) (n i : ℕ) → i < n → get_or (entries_of area n) i (entry_at area 0) ≡ entry_at area i
unfolding entries_of
entries_at area n i l = get_or-map (entry_at area) (below n) i 0 ∙ ap (entry_at area) (get_or_below n i 0 l)

-- One entry more comes behind the others.
pub entries_more : (area : List ℕ) (n : ℕ) → entries_of area (n + 1) ≡ entries_of area n ++ (entry_at area n ∷ [])
unfolding entries_of below
entries_more area n = rw (add-one n, count_from_next 0 n, zero-add n) (map-append (entry_at area) (count_from 0 n) (n ∷ []))

-- Areas with the same entries before n have the same first n entries.
pub entries_same : (one other : List ℕ) (n : ℕ) → ((i : ℕ) → i < n → entry_at one i ≡ entry_at other i)
    → entries_of one n ≡ entries_of other n
unfolding entries_of below
entries_same one other n agree = count_same (entry_at one) (entry_at other) 0 n (λ i l m. agree i (omega arith))

-- The test decides equality of alternatives: what passes it is equal,
pub same_alternative_out : (x y : List ℕ) → same_list eqb x y ≡ true → x ≡ y
same_alternative_out x y e = same_list_eq eqb eqb-true x y e

-- and what is equal passes it.
pub same_alternative_in : (x y : List ℕ) → x ≡ y → same_list eqb x y ≡ true
same_alternative_in x y e = eq_same_list eqb (λ a. eq-eqb a a refl) e

-- So does the one of entries: what passes it is equal,
pub same_entry_out : (x y : Entry) → same_entry x y ≡ true → x ≡ y
unfolding same_entry
same_entry_out x y e =
    let tests = same_list (same_list eqb) x.alternatives y.alternatives in
    let numbers = eqb-true x.number y.number (and_left (eqb x.number y.number) tests e) in
    let alternatives =
    same_list_eq (same_list eqb) same_alternative_out x.alternatives y.alternatives
    (and_right (eqb x.number y.number) tests e) in
    ap₂ entry numbers alternatives

-- and what is equal passes it.
pub same_entry_in : (x y : Entry) → x ≡ y → same_entry x y ≡ true
unfolding same_entry
same_entry_in x y e =
    and_both (eq-eqb x.number y.number (ap (λ (z : Entry). z.number) e))
    (eq_same_list (same_list eqb) (λ a. same_alternative_in a a refl) (ap (λ (z : Entry). z.alternatives) e))

-- ---- heads

-- Where each of n entries has an alternative, a later one begins no earlier,
pub first_rises : (area : List ℕ) (n : ℕ) → ((i : ℕ) → i < n → entry_first area i < entry_first area (i + 1)) → (i j : ℕ) → i ≤ j → j ≤ n
    → entry_first area i ≤ entry_first area j
first_rises area n rising i zero l m = let e : i ≡ 0 = omega arith in rw e (omega arith)
first_rises area n rising i (suc j) l m = elim (dec_lt i (suc j)) [
  | yes before ↦ omega (arith, first_rises area n rising i j (omega arith) (omega arith), next)
  | no not_before ↦ let e : i ≡ suc j = omega arith in rw e (omega arith)
]
  where
    next : entry_first area j < entry_first area (suc j)
    next = rw (← add-one j) (rising j (omega arith))

-- and there are as many alternatives as entries or more.
pub first_most : (area : List ℕ) (n : ℕ) → ((i : ℕ) → i < n → entry_first area i < entry_first area (i + 1)) → n ≤ entry_first area n
first_most area zero rising = omega arith
first_most area (suc n) rising =
    omega (arith, first_most area n (λ i l. rising i (omega arith)), next)
  where
    next : entry_first area n < entry_first area (suc n)
    next = rw (← add-one n) (rising n (omega arith))

-- No more entries than there may be.
pub heads_few : (area : List ℕ) (n : ℕ) → Heads area n → n ≤ most_entries
heads_few area n heads = omega (arith, first_most area n heads.rising, heads.inside)

-- Each entry begins where there is room for alternatives.
pub heads_first : (area : List ℕ) (n : ℕ) → Heads area n → (i : ℕ) → i ≤ n → entry_first area i ≤ most_alternatives
heads_first area n heads i l = omega (arith, first_rises area n heads.rising i n l (omega arith), heads.inside)

-- Fewer heads are right too.
pub heads_fewer : (area : List ℕ) (n m : ℕ) → Heads area n → m ≤ n → Heads area m
heads_fewer area n m heads l =
    record { start = heads.start; rising = λ i k. heads.rising i (omega arith); inside = heads_first area n heads m l }

-- With the one that is looked up: where each begins and ends.
pub headed_rising : (area : List ℕ) (n : ℕ) → Headed area n → (i : ℕ) → i < n + 1 → entry_first area i < entry_first area (i + 1)
headed_rising area n headed i l = headed.rising i (omega arith)

pub headed_first : (area : List ℕ) (n : ℕ) → Headed area n → (i : ℕ) → i ≤ n + 1 → entry_first area i ≤ alternatives_room
headed_first area n headed i l =
    omega (arith, first_rises area (n + 1) (headed_rising area n headed) i (n + 1) l (omega arith), headed.inside)

-- In a cleared area there is no entry.
pub heads_cleared : (area : List ℕ) (size : ℕ) → area ≡ replicate size 0 → Heads area 0
unfolding number_at
heads_cleared area size e =
    record { start = rw e none_there; rising = λ i l. absurd (omega arith); inside = rw e (omega (arith, none_there)) }
  where
    none_there : entry_first (replicate size 0) 0 ≡ 0
    none_there = omega (arith, cleared_byte size 60962, cleared_byte size 60963)

-- ---- areas that agree

-- Two numbers whose two bytes are the same are the same.
two_agree : (one other : List ℕ) (p : ℕ) → byte_at one p ≡ byte_at other p → byte_at one (p + 1) ≡ byte_at other (p + 1)
    → number_at 2 one p ≡ number_at 2 other p
unfolding number_at
two_agree one other p e f = omega arith

-- Areas of one length have the same entries before n if they agree on the bytes of their alternatives and on the heads up to that of entry n.
pub before_by : (one other : List ℕ) (n : ℕ) → length one ≡ length other
    → ((p : ℕ) → p < alternative_bytes * entry_first one n → byte_at one p ≡ byte_at other p)
    → ((p : ℕ) → entry_heads ≤ p → p < entry_heads + 4 * n + 4 → byte_at one p ≡ byte_at other p) → SameBefore one other n
before_by one other n lengths bytes heads =
    record {
      lengths = lengths;
      numbers = λ i l. two_agree one other (60960 + 4 * i) (heads (60960 + 4 * i) (omega arith) (omega arith))
          (heads (60960 + 4 * i + 1) (omega arith) (omega arith));
      firsts = λ i l. two_agree one other (60960 + 4 * i + 2) (heads (60960 + 4 * i + 2) (omega arith) (omega arith))
          (heads (60960 + 4 * i + 2 + 1) (omega arith) (omega arith));
      bytes = bytes;
    }

-- What agrees with an area agrees with whatever that agrees with.
pub before_chained : (one other third : List ℕ) (n : ℕ) → SameBefore one other n → SameBefore other third n → SameBefore one third n
before_chained one other third n a b =
    record {
      lengths = a.lengths ∙ b.lengths;
      numbers = λ i l. a.numbers i l ∙ b.numbers i l;
      firsts = λ i l. a.firsts i l ∙ b.firsts i l;
      bytes = λ p l. a.bytes p l ∙ b.bytes p (omega (arith, a.firsts n (omega arith)));
    }

-- Such areas have the same entries before n,
pub entries_agree : (one other : List ℕ) (n : ℕ) → ((i : ℕ) → i < n → entry_first one i < entry_first one (i + 1)) → SameBefore one other n
    → (i : ℕ) → i < n → entry_at one i ≡ entry_at other i
entries_agree one other n rising a i l =
    entry_same one other i i (a.numbers i l)
    (alternatives_agree one other (entry_first one i) (entry_first one (i + 1) - entry_first one i) a.lengths (λ p k m.
    a.bytes p (omega (arith, rising i l, first_rises one n rising (i + 1) n (omega arith) (omega arith))))
    ∙ ap₂ (λ (s t : ℕ). alternatives_at other s (t - s)) (a.firsts i (omega arith)) (a.firsts (i + 1) (omega arith)))

-- and the heads of the one are right if those of the other are.
pub heads_agree : (one other : List ℕ) (n : ℕ) → SameBefore one other n → Heads one n → Heads other n
heads_agree one other n a heads =
    record {
      start = omega (arith, a.firsts 0 (omega arith), heads.start);
      rising = λ i l. omega (arith, a.firsts i (omega arith), a.firsts (i + 1) (omega arith), heads.rising i l);
      inside = omega (arith, a.firsts n (omega arith), heads.inside);
    }

-- ---- a head that is written

-- The head of entry n, as `put_head` writes it.
module _ (before after : List ℕ) (n number end : ℕ)
    (written : after ≡ sets (sets before (entry_heads + 4 * n) (number_bytes 2 number)) (entry_heads + 4 * n + 6) (number_bytes 2 end)) where
  -- the area with the number written
  abbrev numbered : List ℕ
  numbered = stored before (60960 + 4 * n) number

  pub put_length : length after ≡ length before
  put_length =
      ap length written ∙ length_stored numbered (60960 + 4 * n + 6) end ∙ length_stored before (60960 + 4 * n) number

  -- The number and the end are read back.
  pub put_number : n ≤ most_entries → entries_size ≤ length before → number < 65536 → entry_number after n ≡ number
  put_number few room small =
      rw written
      (stored_beside numbered (60960 + 4 * n + 6) end (60960 + 4 * n) (inl (omega arith))
      ∙ stored_read before (60960 + 4 * n) number (omega arith) small)

  pub put_end : n ≤ most_entries → entries_size ≤ length before → end < 65536 → entry_first after (n + 1) ≡ end
  put_end few room small =
      let long = length_stored before (60960 + 4 * n) number in
      let place : 60960 + 4 * (n + 1) + 2 ≡ 60960 + 4 * n + 6 = omega arith in
      rw (written, place) (stored_read numbered (60960 + 4 * n + 6) end (omega arith) small)

  -- Other numbers and firsts are as they were,
  pub put_numbers : (i : ℕ) → i < n → entry_number after i ≡ entry_number before i
  put_numbers i l =
      rw written
      (stored_beside numbered (60960 + 4 * n + 6) end (60960 + 4 * i) (inl (omega arith))
      ∙ stored_beside before (60960 + 4 * n) number (60960 + 4 * i) (inl (omega arith)))

  pub put_firsts : (i : ℕ) → i ≤ n → entry_first after i ≡ entry_first before i
  put_firsts i l =
      rw written
      (stored_beside numbered (60960 + 4 * n + 6) end (60960 + 4 * i + 2) (inl (omega arith)) ∙ elim (dec_lt i n) [
        | yes less ↦ stored_beside before (60960 + 4 * n) number (60960 + 4 * i + 2) (inl (omega arith))
        | no same ↦ stored_beside before (60960 + 4 * n) number (60960 + 4 * i + 2) (inr (omega arith))
      ])

  -- and so are the bytes of all alternatives,
  pub put_bytes : (p : ℕ) → p < entry_heads → byte_at after p ≡ byte_at before p
  put_bytes p l =
      rw written
      (byte_beside numbered (60960 + 4 * n + 6) end p (λ e. omega arith) (λ e. omega arith)
      ∙ byte_beside before (60960 + 4 * n) number p (λ e. omega arith) (λ e. omega arith))

  module _ (heads : Heads before n) where
    -- so that the entries before n are as they were,
    pub put_before : SameBefore before after n
    put_before =
        record {
          lengths = sym put_length;
          numbers = λ i l. sym (put_numbers i l);
          firsts = λ i l. sym (put_firsts i l);
          bytes = λ p l. sym (put_bytes p (omega (arith, heads.inside)));
        }

    pub put_heads : Heads after n
    put_heads = heads_agree before after n put_before heads

    -- and entry n has its head.
    pub put_headed : entries_size ≤ length before → entry_first before n < end → end ≤ alternatives_room → Headed after n
    put_headed room more most =
        let is_end = put_end (heads_few before n heads) room (omega arith) in
        record {
          start = put_heads.start;
          rising = λ i l. elim (dec_lt i n) [
            | yes less ↦ put_heads.rising i less
            | no not_less ↦ let e : i ≡ n = omega arith in rw e (omega (arith, put_firsts n (omega arith)))
          ];
          inside = omega arith;
        }

-- ---- the answer of a search for entry n among the first n

-- The answer is at most n.
pub found_most : (area : List ℕ) (n : ℕ) → place_of (same_entry (entry_at area n)) (entries_of area n) ≤ n
found_most area n = omega (arith, place_of_le (same_entry (entry_at area n)) (entries_of area n), entries_length area n)

-- An answer below n is the number of an entry that is equal.
pub found_equal : (area : List ℕ) (n r : ℕ) → r ≡ place_of (same_entry (entry_at area n)) (entries_of area n) → r < n
    → entry_at area r ≡ entry_at area n
found_equal area n r e l =
    let test = same_entry (entry_at area n) in
    let many = entries_length area n in
    let passes = place_of_at test (entries_of area n) (entry_at area 0) (omega arith) in
    sym (same_entry_out (entry_at area n) (entry_at area r) (ap test (sym (entries_at area n r l)) ∙ rw e passes))

-- No entry before the answer is equal.
pub found_first : (area : List ℕ) (n r i : ℕ) → r ≡ place_of (same_entry (entry_at area n)) (entries_of area n) → i < r
    → entry_at area i ≡ entry_at area n → ⊥
found_first area n r i e l same =
    let test = same_entry (entry_at area n) in
    let most = found_most area n in
    let fails = place_of_before test (entries_of area n) i (entry_at area 0) (omega arith) in
    never_both (same_entry_in (entry_at area n) (entry_at area i) (sym same))
    (ap test (sym (entries_at area n i (omega arith))) ∙ fails)

-- The answer is r if entry r is equal and no entry before it is.
pub found_at : (area : List ℕ) (n r : ℕ) → r < n → same_entry (entry_at area n) (entry_at area r) ≡ true
    → ((i : ℕ) → i < r → same_entry (entry_at area n) (entry_at area i) ≡ false)
    → r ≡ place_of (same_entry (entry_at area n)) (entries_of area n)
found_at area n r l hit none =
    let test = same_entry (entry_at area n) in
    let many = entries_length area n in
    sym (place_of_first test (entries_of area n) r (entry_at area 0) (omega arith) (ap test (entries_at area n r l) ∙ hit)
    (λ i m. ap test (entries_at area n i (omega arith)) ∙ none i m))

-- The answer is n if no entry before n is equal.
pub found_none : (area : List ℕ) (n : ℕ) → ((i : ℕ) → i < n → same_entry (entry_at area n) (entry_at area i) ≡ false)
    → n ≡ place_of (same_entry (entry_at area n)) (entries_of area n)
found_none area n none = go (dec_lt r n)
  where
    r : ℕ
    r = place_of (same_entry (entry_at area n)) (entries_of area n)

    go : Dec (r < n) → n ≡ r
    go (yes l) = never_both (same_entry_in (entry_at area n) (entry_at area r) (sym (found_equal area n r refl l))) (none r l)
    go (no m) = omega (arith, found_most area n)

-- ---- hashes

-- A hash is below the number of buckets.
pub hash_below : (one : Entry) → hash_of one < buckets
unfolding hash_of
hash_below one = omega arith

-- ---- the index

-- The index depends on the entries before n alone.
pub indexed_same : (one other index : List ℕ) (n : ℕ) → ((i : ℕ) → i < n → entry_at one i ≡ entry_at other i) → Indexed one index n
    → Indexed other index n
indexed_same one other index n agree indexed =
    record {
      chained =
          chained_stands (hashed one) (hashed other) buckets (head_in 0 index) (link_in 6160 index) n
          (λ i h l e. ap hash_of (sym (agree i l)) ∙ e) (λ i h l e. ap hash_of (agree i l) ∙ e) indexed.chained;
      distinct = λ j l. record {
        other = λ i k e. (indexed.distinct j l).other i k (agree i (omega arith) ∙ e ∙ sym (agree j l));
      };
    }

-- A cleared area is an index of no entries.
pub indexed_cleared : (area index : List ℕ) (size : ℕ) → index ≡ replicate size 0 → Indexed area index 0
indexed_cleared area index size e =
    record { chained = cleared_chains (hashed area) buckets 0 6160 size index e; distinct = λ j l. absurd (omega arith) }

-- An entry that was not found is a new one.
pub not_found_new : (area : List ℕ) (n : ℕ) → FoundEntry area n None → IsNew area n
not_found_new area n (no_entry is_n) = record { other = λ i k same. found_first area n n i is_n k same }
