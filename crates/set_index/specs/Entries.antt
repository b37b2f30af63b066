-- Entries in a lent area, each a number and one alternative or more, and an index by which one is found again without a comparison with all of
-- them. The alternatives lie one behind the other, 60 bytes each; behind them every entry has a head: its number, and its first alternative. The
-- alternatives of an entry end where those of the next begin.
use Rattle.std.specs.Prelude.{ℕ, zero, suc, ◌+◌, ◌-◌, ◌*◌, ◌%◌, ◌≤◌, ◌<◌, ◌≡◌, Bool, ◌&&◌, List, map, length, take, drop, eqb, Option, Some, None}
use Rattle.base.specs.Bytes.{byte_at, number_at}
use Rattle.base.specs.Lists.{count_from, below, place_of, same_list, total}
use Rattle.area_chains.specs.Chains.{Chained, head_in, link_in}

-- ---- where things lie

-- the bytes of an alternative
abbrev pub alternative_bytes : ℕ
alternative_bytes = 60

-- the most entries there may be beside the one that is looked up, the most alternatives they may have, and the most with its own
abbrev pub most_entries : ℕ
most_entries = 1000

abbrev pub most_alternatives : ℕ
most_alternatives = 1000

abbrev pub alternatives_room : ℕ
alternatives_room = 1016

-- where the heads of the entries begin, and the bytes of the area that holds them
abbrev pub entry_heads : ℕ
entry_heads = 60960

abbrev pub entries_size : ℕ
entries_size = 64968

-- ---- entries

-- the number of entry i, and its first alternative
abbrev pub entry_number : List ℕ → ℕ → ℕ
entry_number area i = number_at 2 area (entry_heads + 4 * i)

abbrev pub entry_first : List ℕ → ℕ → ℕ
entry_first area i = number_at 2 area (entry_heads + 4 * i + 2)

-- the bytes of alternative s, and of n alternatives from s on
unfoldable pub alternative_at : List ℕ → ℕ → List ℕ
alternative_at area s = take alternative_bytes (drop (alternative_bytes * s) area)

unfoldable pub alternatives_at : List ℕ → ℕ → ℕ → List (List ℕ)
alternatives_at area s n = map (alternative_at area) (count_from s n)

-- A number and the bytes of some alternatives.
pub record Entry : Type 0 where
  pub number : ℕ
  pub alternatives : List (List ℕ)

-- entry i
unfoldable pub entry_at : List ℕ → ℕ → Entry
entry_at area i =
    record {
      number = entry_number area i;
      alternatives = alternatives_at area (entry_first area i) (entry_first area (i + 1) - entry_first area i);
    }

-- the first n entries, in order
unfoldable pub entries_of : List ℕ → ℕ → List Entry
entries_of area n = map (entry_at area) (below n)

-- two entries are equal, byte by byte
unfoldable pub same_entry : Entry → Entry → Bool
same_entry x y = eqb x.number y.number && same_list (same_list eqb) x.alternatives y.alternatives

-- The heads of n entries and of the one that is looked up are right: each entry has an alternative or more, the first begins at 0, and all are
-- within the area.
pub record Headed (area : List ℕ) (n : ℕ) : Type 0 where
  pub start : entry_first area 0 ≡ 0
  pub rising : (i : ℕ) → i ≤ n → entry_first area i < entry_first area (i + 1)
  pub inside : entry_first area (n + 1) ≤ alternatives_room

-- The heads of n entries are right, before the one that is looked up is written.
pub record Heads (area : List ℕ) (n : ℕ) : Type 0 where
  pub start : entry_first area 0 ≡ 0
  pub rising : (i : ℕ) → i < n → entry_first area i < entry_first area (i + 1)
  pub inside : entry_first area n ≤ most_alternatives

-- Two areas have the same bytes wherever the first n entries stand, and entry n begins at the same alternative.
pub record SameBefore (one other : List ℕ) (n : ℕ) : Type 0 where
  pub lengths : length one ≡ length other
  pub numbers : (i : ℕ) → i < n → entry_number one i ≡ entry_number other i
  pub firsts : (i : ℕ) → i ≤ n → entry_first one i ≡ entry_first other i
  pub bytes : (p : ℕ) → p < alternative_bytes * entry_first one n → byte_at one p ≡ byte_at other p

-- ---- the hash of an entry

-- how many different hashes there are
abbrev pub buckets : ℕ
buckets = 3079

-- how many four-byte numbers an alternative has
abbrev pub alternative_fours : ℕ
alternative_fours = 15

-- what number k of them is multiplied by: powers, cut to 28 bits, so that no sum of the products is too large
unfoldable pub multiplier : ℕ → ℕ
multiplier zero = 48271
multiplier (suc k) = multiplier k * 48271 % 268435456

-- the sum of the first k of those numbers, each with its multiplier
unfoldable pub hash_upto : List ℕ → ℕ → ℕ
hash_upto bytes zero = 0
hash_upto bytes (suc k) = hash_upto bytes k + multiplier k * number_at 4 bytes (4 * k)

-- the hash of an alternative, and of an entry
unfoldable pub alternative_hash : List ℕ → ℕ
alternative_hash bytes = hash_upto bytes alternative_fours % buckets

unfoldable pub hash_of : Entry → ℕ
hash_of entry = (521288629 * entry.number + total (map alternative_hash entry.alternatives)) % buckets

-- entry i has the hash h
abbrev pub hashed : List ℕ → ℕ → ℕ → Type 0
hashed area i h = hash_of (entry_at area i) ≡ h

-- ---- the index

-- its bytes
abbrev pub index_size : ℕ
index_size = 8192

-- where the heads of its buckets begin, and where the links
abbrev pub heads_at : ℕ
heads_at = 0

abbrev pub links_at : ℕ
links_at = 6160

-- The answer of a search for entry n among the first n: the first of them that is equal to it, if one is.
pub data FoundEntry (area : List ℕ) (n : ℕ) : Option ℕ → Type 0 where
  found_entry : (r : ℕ) → r < n → r ≡ place_of (same_entry (entry_at area n)) (entries_of area n) → FoundEntry area n (Some r)
  no_entry : n ≡ place_of (same_entry (entry_at area n)) (entries_of area n) → FoundEntry area n None

-- Entry n is equal to none before it.
pub record IsNew (area : List ℕ) (n : ℕ) : Type 0 where
  pub other : (i : ℕ) → i < n → entry_at area i ≡ entry_at area n → ⊥

-- The index is one of the first n entries, no two of which are equal: a bucket for each hash, with the entries that have it.
pub record Indexed (area index : List ℕ) (n : ℕ) : Type 0 where
  pub chained : Chained (hashed area) buckets (head_in heads_at index) (link_in links_at index) n
  pub distinct : (j : ℕ) → j < n → IsNew area j
