-- What waits in the room: how it is put there, and when it stays.
use Prim.Native.Nat.{ℕ, ◌+◌, ◌-◌, ◌*◌, ◌≤◌, ◌<◌}
use native.Mathlib.Omega.{arith}
use mathlib.Core.Path.{◌≡◌, refl, sym, ◌∙◌, ap, ap₂}
use mathlib.Core.Logic.{◌⊎◌, inl, inr}
use mathlib.Core.List.{List, [], ◌∷◌, ◌++◌}
use lib.ListN.{length, get_or, set, length-set}
use lib.Seq.{get_or-drop, get_or-set_same, get_or-set_other}
use mir.Syntax.{w8}
use mir.Val.{Fits}
use Rattle.base.specs.Bytes.{byte_at}
use Rattle.base.specs.Lists.{count_from, below}
use Rattle.pending.specs.Pending.{Pending}
use Rattle.reading.specs.BookArea.{nodes_in}
use Rattle.book_progression.specs.NodeBytes.{IsHeld}
use Rattle.alternative_bytes.specs.Promises.{Copied}
use Rattle.set_bytes.specs.SetBytes.{set_in}
use Rattle.set_bytes.specs.Promises.{Candidates}
use Rattle.set_bytes.proofs.Elsewhere.{alternative_before}
use Rattle.set_bytes.proofs.Sets.{set_next, set_same}
use Rattle.book_alternatives.specs.Offers.{sets_size}
use Rattle.pair_sets.proofs.Alternatives.{beside_byte, set_by}
use Rattle.pair_trial.specs.Trial.{room_size, waiting_set, OthersWait, SetAside, WaitsFor, Shared}

-- ---- set_aside

-- The first j are copied, where `first` was in the room.
pub record Copying (n : ℕ) (sets : List ℕ) (left : ℕ) (first : List ℕ) (to j : ℕ) (room : List ℕ) : Type 0 where
  pub few : n ≤ 60
  pub least : left ≤ 16
  pub space : to + 960 ≤ length first
  pub long : length room ≡ length first
  pub done : j ≤ left
  pub beside : (p : ℕ) → (p < to) ⊎ (to + 60 * left ≤ p) → byte_at room p ≡ byte_at first p
  pub is : set_in room n to j ≡ set_in sets n 58560 j

pub copying_start : (n : ℕ) (sets : List ℕ) (left : ℕ) (room : List ℕ) (to : ℕ) → n ≤ 60 → left ≤ 16 → to + 960 ≤ length room
    → Copying n sets left room to 0 room
unfolding set_in below count_from
copying_start n sets left room to few least space =
    record {
      few = few;
      least = least;
      space = space;
      long = refl;
      done = omega arith;
      beside = λ p l. refl;
      is = refl;
    }

module _ (n : ℕ) (sets : List ℕ) (left : ℕ) (first : List ℕ) (to j : ℕ) (room : List ℕ) (c : Copying n sets left first to j room) where
  -- There is room for the next.
  pub copying_to : j < left → to + 60 * j + n ≤ length room
  copying_to l = omega (arith, c.long, c.space, c.few, c.least)

  pub copying_from : j < left → sets_size ≤ length sets → 58560 + 60 * j + n ≤ length sets
  copying_from l fits = omega (arith, c.few, c.least)

  pub copying_next : (after : List ℕ) → Copied n sets (58560 + 60 * j) room (to + 60 * j) after → j < left
      → Copying n sets left first to (j + 1) after
  copying_next after copied l =
      record {
        few = c.few;
        least = c.least;
        space = c.space;
        long = copied.beside.size ∙ c.long;
        done = omega arith;
        beside = λ p side. beside_byte room (to + 60 * j) n after copied.beside p (far p side) ∙ c.beside p side;
        is =
            set_next after n to j
            ∙ ap₂ (λ (xs : List Pending) (x : Pending). xs ++ (x ∷ [])) (before ∙ c.is) copied.is
            ∙ sym (set_next sets n 58560 j);
      }
    where
      far : (p : ℕ) → (p < to) ⊎ (to + 60 * left ≤ p) → (p < to + 60 * j) ⊎ (to + 60 * j + n ≤ p)
      far p (inl m) = inl (omega arith)
      far p (inr m) = inr (omega (arith, c.few))

      before : set_in after n to j ≡ set_in room n to j
      before =
          set_same room after n to j (λ i m.
          alternative_before room after (to + 60 * j) n (to + 60 * i) copied.beside.before (omega (arith, c.few)))

  pub copying_end : left ≤ j → SetAside n sets left first to room
  copying_end l =
      let e : left ≡ j = omega (arith, c.done) in
      record { size = c.long; beside = c.beside; is = rw e c.is }

-- ---- what waits stays

-- Sets of the room whose bytes are the same are the same.
room_set : (nodes one other : List ℕ) (p q count : ℕ) → IsHeld nodes → count ≤ 16 → p + 960 ≤ length one → q + 960 ≤ length other
    → ((k : ℕ) → k < 960 → byte_at one (p + k) ≡ byte_at other (q + k))
    → set_in one (nodes_in nodes) p count ≡ set_in other (nodes_in nodes) q count
room_set nodes one other p q count held few fits room same =
    set_by one other (nodes_in nodes) p q count held.few (omega arith) (omega arith) (λ k l. same k (omega arith))

-- What waits of an action before a stays.
pub still_waits : (nodes room after : List ℕ) (a b : ℕ) → IsHeld nodes → OthersWait a room after → b < a → a < 16 → room_size ≤ length room
    → byte_at room (30720 + b) ≤ 16 → byte_at room (30736 + b) ≤ b → waiting_set nodes after b ≡ waiting_set nodes room b
unfolding waiting_set
still_waits nodes room after a b held others l few space count place =
    ap₂ (λ (x y : ℕ). set_in after (nodes_in nodes) (15360 + 960 * x) y) (others.places b l) (others.counts b l)
    ∙ room_set nodes after room (15360 + 960 * byte_at room (30736 + b)) (15360 + 960 * byte_at room (30736 + b)) (byte_at room (30720 + b))
    held count (omega (arith, others.size)) (omega arith) (λ k m. others.sets (15360 + 960 * byte_at room (30736 + b) + k) (omega arith) (omega arith))

-- What waits of b waits of a.
pub waits_too : (nodes room after : List ℕ) (a b : ℕ) → IsHeld nodes → Shared a b room after → b < a → a < 16 → room_size ≤ length room
    → byte_at room (30720 + b) ≤ 16 → byte_at room (30736 + b) ≤ b → waiting_set nodes after a ≡ waiting_set nodes room b
unfolding waiting_set
waits_too nodes room after a b held shared l few space count place =
    ap₂ (λ (x y : ℕ). set_in after (nodes_in nodes) (15360 + 960 * x) y) shared.place shared.count
    ∙ room_set nodes after room (15360 + 960 * byte_at room (30736 + b)) (15360 + 960 * byte_at room (30736 + b)) (byte_at room (30720 + b))
    held count (omega (arith, shared.others.size)) (omega arith) (λ k m. shared.others.sets (15360 + 960 * byte_at room (30736 + b) + k) (omega arith) (omega arith))

-- Where only candidates have changed, what waits stays; and what stays along two changes stays.
pub candidates_wait : (a : ℕ) (room middle after : List ℕ) → a ≤ 16 → Candidates room 0 middle → OthersWait a middle after → OthersWait a room after
candidates_wait a room middle after few candidates others =
    record {
      size = others.size ∙ candidates.size;
      sets = λ p l m. others.sets p l m ∙ behind p l;
      counts = λ b l. others.counts b l ∙ behind (30720 + b) (omega arith);
      places = λ b l. others.places b l ∙ behind (30736 + b) (omega arith);
    }
  where
    behind : (p : ℕ) → 15360 ≤ p → byte_at middle p ≡ byte_at room p
    behind p l =
        let e : 15360 + (p - 15360) ≡ p = omega arith in
        ap (byte_at middle) (sym e) ∙ sym (get_or-drop 15360 middle (p - 15360) 0)
        ∙ ap (λ (z : List ℕ). get_or z (p - 15360) 0) candidates.behind
        ∙ get_or-drop 15360 room (p - 15360) 0 ∙ ap (byte_at room) e

-- ---- wait_for

-- A byte that was written, and one that was not.
pub two_bytes_same : (room : List ℕ) (p q v w : ℕ) → p < length room → (p ≡ q → ⊥) → byte_at (set (set room p v) q w) p ≡ v
two_bytes_same room p q v w l other =
    get_or-set_other (set room p v) q p w 0 other ∙ get_or-set_same room p v 0 l

two_bytes_last : (room : List ℕ) (p q v w : ℕ) → q < length room → byte_at (set (set room p v) q w) q ≡ w
two_bytes_last room p q v w l = get_or-set_same (set room p v) q w 0 (omega (arith, length-set room p v))

two_bytes_other : (room : List ℕ) (p q v w r : ℕ) → (r ≡ p → ⊥) → (r ≡ q → ⊥) → byte_at (set (set room p v) q w) r ≡ byte_at room r
two_bytes_other room p q v w r no_p no_q = get_or-set_other (set room p v) q r w 0 no_q ∙ get_or-set_other room p r v 0 no_p

two_bytes_long : (room : List ℕ) (p q v w : ℕ) → length (set (set room p v) q w) ≡ length room
two_bytes_long room p q v w = length-set (set room p v) q w ∙ length-set room p v

-- A number that is at most 16 is a byte.
pub small_byte : (n : ℕ) → n ≤ 16 → Fits w8 n
small_byte n l = omega arith

pub cells_few : (nodes : List ℕ) (n : ℕ) → n ≡ nodes_in nodes → IsHeld nodes → n ≤ 60
cells_few nodes n e held = omega (arith, held.few)

pub second_behind : (n : ℕ) (sets : List ℕ) (left a to p v : ℕ) (room middle : List ℕ) → SetAside n sets left room to middle → a < 16 → room_size ≤ length room
    → 30736 + a < length (set middle p v)
second_behind n sets left a to p v room middle aside low space = omega (arith, length-set middle p v, aside.size)

pub waits_for : (nodes sets : List ℕ) (n left a : ℕ) (room middle : List ℕ) → SetAside n sets left room (15360 + 960 * a) middle → n ≡ nodes_in nodes
    → IsHeld nodes → left ≤ 16 → a < 16 → room_size ≤ length room
    → WaitsFor nodes sets left a room (set (set middle (30720 + a) left) (30736 + a) a)
unfolding waiting_set
waits_for nodes sets n left a room middle aside is-n held few low space =
    record {
      others =
          record {
            size = two_bytes_long middle (30720 + a) (30736 + a) left a ∙ aside.size;
            sets = λ p l m. two_bytes_other middle (30720 + a) (30736 + a) left a p (λ e. omega arith) (λ e. omega arith) ∙ aside.beside p (inl (omega arith));
            counts = λ b l. two_bytes_other middle (30720 + a) (30736 + a) left a (30720 + b) (λ e. omega arith) (λ e. omega arith) ∙ aside.beside (30720 + b) (inr (omega arith));
            places = λ b l. two_bytes_other middle (30720 + a) (30736 + a) left a (30736 + b) (λ e. omega arith) (λ e. omega arith) ∙ aside.beside (30736 + b) (inr (omega arith));
          };
      count = counted;
      place = placed;
      is =
          ap₂ (λ (x y : ℕ). set_in after (nodes_in nodes) (15360 + 960 * x) y) placed counted
          ∙ room_set nodes after middle (15360 + 960 * a) (15360 + 960 * a) left held few
          (omega (arith, two_bytes_long middle (30720 + a) (30736 + a) left a, aside.size)) (omega (arith, aside.size))
          (λ k l. two_bytes_other middle (30720 + a) (30736 + a) left a (15360 + 960 * a + k) (λ e. omega arith) (λ e. omega arith))
          ∙ ap (λ (k : ℕ). set_in middle k (15360 + 960 * a) left) (sym is-n)
          ∙ aside.is
          ∙ ap (λ (k : ℕ). set_in sets k 58560 left) is-n;
    }
  where
    after : List ℕ
    after = set (set middle (30720 + a) left) (30736 + a) a

    counted : byte_at after (30720 + a) ≡ left
    counted = two_bytes_same middle (30720 + a) (30736 + a) left a (omega (arith, aside.size)) (λ e. omega arith)

    placed : byte_at after (30736 + a) ≡ a
    placed = two_bytes_last middle (30720 + a) (30736 + a) left a (omega (arith, aside.size))

-- ---- share

-- The second numbers lie within the room too.
pub second_there : (room : List ℕ) (a b p v : ℕ) → b < a → a < 16 → room_size ≤ length room → 30736 + b < length (set room p v)
second_there room a b p v l low space = omega (arith, length-set room p v)

pub second_here : (room : List ℕ) (a p v : ℕ) → a < 16 → room_size ≤ length room → 30736 + a < length (set room p v)
second_here room a p v low space = omega (arith, length-set room p v)

pub shared_both : (room : List ℕ) (a b : ℕ) → b < a → a < 16 → room_size ≤ length room
    → Shared a b room (set (set room (30720 + a) (byte_at room (30720 + b))) (30736 + a) (byte_at (set room (30720 + a) (byte_at room (30720 + b))) (30736 + b)))
shared_both room a b l low space =
    record {
      others =
          record {
            size = two_bytes_long room (30720 + a) (30736 + a) count place;
            sets = λ p m k. two_bytes_other room (30720 + a) (30736 + a) count place p (λ e. omega arith) (λ e. omega arith);
            counts = λ c k. two_bytes_other room (30720 + a) (30736 + a) count place (30720 + c) (λ e. omega arith) (λ e. omega arith);
            places = λ c k. two_bytes_other room (30720 + a) (30736 + a) count place (30736 + c) (λ e. omega arith) (λ e. omega arith);
          };
      count = two_bytes_same room (30720 + a) (30736 + a) count place (omega arith) (λ e. omega arith);
      place =
          two_bytes_last room (30720 + a) (30736 + a) count place (omega arith)
          ∙ get_or-set_other room (30720 + a) (30736 + b) count 0 (λ e. omega arith);
    }
  where
    count : ℕ
    count = byte_at room (30720 + b)

    place : ℕ
    place = byte_at (set room (30720 + a) count) (30736 + b)

-- The room is as long as it was.
pub room_still : (before after : List ℕ) → length after ≡ length before → room_size ≤ length before → room_size ≤ length after
room_still before after e l = omega arith
