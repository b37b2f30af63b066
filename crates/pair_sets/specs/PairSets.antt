-- Entries of a lent area that hold a pair: the number of its state, and its alternatives, a byte for each node of the book that lies in another
-- area. The bytes behind them stay zero, so that entries which hold the same are equal.
use Rattle.std.specs.Prelude.{ℕ, ◌+◌, ◌-◌, ◌*◌, ◌≤◌, ◌<◌, ◌≡◌, Bool, true, false, ◌⊎◌, List, map, length, take}
use Rattle.base.specs.Bytes.{byte_at}
use Rattle.logic.specs.Book.{Book}
use Rattle.logic.specs.declared.Tick.{Tick}
use Rattle.pending.specs.Pending.{Pending}
use Rattle.logic.specs.Sides.{OneSided}
use Rattle.alternatives.specs.Alternatives.{Alternatives, these, broken}
use Rattle.alternatives.specs.Progression.{progressed_set, first_set}
use Rattle.reading.specs.BookArea.{nodes_in}
use Rattle.book_progression.specs.PendingBytes.{pending_of}
use Rattle.book_progression.specs.NodeBytes.{HeldBook, IsHeld, MarkedState}
use Rattle.set_bytes.specs.SetBytes.{set_in}
use Rattle.set_index.specs.Entries.{alternative_bytes, alternatives_room, entries_size, entry_number, entry_first, Entry, entry_at, Heads, Headed, Indexed}
use Rattle.pair_sets.specs.declared.Place.{Place}

-- the alternatives of entry i
unfoldable pub entry_set : List ℕ → List ℕ → ℕ → List Pending
entry_set nodes area i =
    set_in area (nodes_in nodes) (alternative_bytes * entry_first area i) (entry_first area (i + 1) - entry_first area i)

-- the alternatives that the bytes of an entry say
unfoldable pub held_set : List ℕ → Entry → List Pending
held_set nodes entry = map (λ bytes. pending_of (take (nodes_in nodes) bytes)) entry.alternatives

-- In every alternative the bytes behind the nodes' are zero.
pub record Blank (nodes area : List ℕ) : Type 0 where
  pub zeros : (s p : ℕ) → s < alternatives_room → nodes_in nodes ≤ p → p < alternative_bytes → byte_at area (alternative_bytes * s + p) ≡ 0

-- The entries before n stay.
pub record Stays (nodes area : List ℕ) (n : ℕ) (after : List ℕ) : Type 0 where
  pub size : length after ≡ length area
  pub kept : (j : ℕ) → j < n → entry_at after j ≡ entry_at area j
  pub heads : Heads area n → Heads after n
  pub blank : Blank nodes area → Blank nodes after

-- Entry n holds the number, and the alternatives s.
pub record Holds (nodes : List ℕ) (number n : ℕ) (s : Alternatives) (after : List ℕ) : Type 0 where
  pub headed : Headed after n
  pub number_is : entry_number after n ≡ number
  pub set_is : s ≡ these (entry_set nodes after n)

-- Entry n holds the number and the alternatives s, unless s has none; the entries before n stay.
pub record Entered (b : Bool) (nodes area : List ℕ) (number n : ℕ) (s : Alternatives) (after : List ℕ) : Type 0 where
  pub stays : Stays nodes area n after
  pub holds : b ≡ true → Holds nodes number n s after
  pub none_left : b ≡ false → s ≡ broken

-- A state with these marks is left by a step of length d, under a book in which no `|` has two timed sides: entry n holds the number, and what
-- comes of the one alternative of entry i.
pub record Followed (b : Bool) (nodes : List ℕ) (mask : ℕ) (d : Tick) (area : List ℕ) (i number n : ℕ) (after : List ℕ) : Type 0 where
  pub stays : Stays nodes area n after
  pub headed : b ≡ true → Headed after n
  pub says : (book : Book) → HeldBook nodes book → OneSided book → (at : MarkedState mask)
      → Entered b nodes area number n (progressed_set at.tower book at.state d (entry_set nodes area i)) after

-- Entry n is one of the first `met`: that at `at` is equal to it. There is one more than n if none of the first n holds the same.
pub record Noted (out : Place) (area : List ℕ) (n : ℕ) (index : List ℕ) : Type 0 where
  pub indexed : Indexed area index out.met
  pub least : n ≤ out.met
  pub most : out.met ≤ n + 1
  pub inside : out.at < out.met
  pub equal : entry_at area out.at ≡ entry_at area n
  pub fresh : n < out.met → (nodes : List ℕ) → IsHeld nodes → Blank nodes area → (j : ℕ) → j < n → entry_number area j ≡ entry_number area n
      → entry_set nodes area j ≡ entry_set nodes area n → ⊥

-- Entry 0 holds the number, and what is pending when the run begins.
pub record First (nodes : List ℕ) (number : ℕ) (area : List ℕ) : Type 0 where
  pub size : entries_size ≤ length area
  pub blank : Blank nodes area
  pub headed : Headed area 0
  pub number_is : entry_number area 0 ≡ number
  pub says : (book : Book) → HeldBook nodes book → entry_set nodes area 0 ≡ first_set book

-- What is asked before entry n is written: the heads of n entries are right, and there is room.
pub record Open (nodes area : List ℕ) (n : ℕ) : Type 0 where
  pub held : IsHeld nodes
  pub room : entries_size ≤ length area
  pub heads : Heads area n
  pub most : n ≤ 1000

-- ---- the alternatives of an entry, before its head is written

-- So many alternatives from t on have the bytes of those from s on. Every other byte stays.
pub record Repeated (area : List ℕ) (s t count : ℕ) (after : List ℕ) : Type 0 where
  pub size : length after ≡ length area
  pub beside : (p : ℕ) → (p < alternative_bytes * t) ⊎ (alternative_bytes * (t + count) ≤ p) → byte_at after p ≡ byte_at area p
  pub same : (p : ℕ) → p < alternative_bytes * count → byte_at after (alternative_bytes * t + p) ≡ byte_at area (alternative_bytes * s + p)

-- So many alternatives from t on are those from `at` on of another area, of n bytes each. Every other byte stays, those behind the n too.
pub record Taken (n : ℕ) (area : List ℕ) (t : ℕ) (room : List ℕ) (at count : ℕ) (after : List ℕ) : Type 0 where
  pub size : length after ≡ length area
  pub beside : (p : ℕ) → (p < alternative_bytes * t) ⊎ (alternative_bytes * (t + count) ≤ p) → byte_at after p ≡ byte_at area p
  pub behind : (s p : ℕ) → n ≤ p → p < alternative_bytes → byte_at after (alternative_bytes * s + p) ≡ byte_at area (alternative_bytes * s + p)
  pub is : set_in after n (alternative_bytes * t) count ≡ set_in room n at count
