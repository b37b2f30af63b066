-- The reader's state in its area: what each store makes of it.
use Prim.Native.Nat.{ℕ, suc, ◌+◌, ◌-◌, ◌*◌, ◌%◌, ◌≤◌, ◌<◌, min}
use native.Mathlib.Omega.{arith}
use native.Mathlib.Numerals.{towards_suc}
use mathlib.Core.Path.{◌≡◌, refl, sym, ◌∙◌, ap}
use mathlib.Core.Bool.{Bool, true, false, not}
use mathlib.Core.List.{List, [], ◌∷◌}
use lib.ListN.{length, get_or, set, take}
use lib.Seq.{sets, length-sets, take-set-le, take-set-lt, get_or-set_same, get_or-set_other}
use lib.Dec.{eqb, leb, ltb}
use borrow.Author.Tests.{lt-ltb, le-ltb, le-leb, lt-leb, eqb-true, eqb-false, ne_eqb}
use Rattle.base.specs.Choice.{pick}
use Rattle.base.specs.Bytes.{byte_at}
use Rattle.book_nodes.specs.State.{fault_at, timed_at, marks_at, usual_at, State, state_of, usual_in, put_bytes, stored, noted, noted_if, told_timed, last_node, leaf, and_node, or_node, bounded_node, until_node, mark_node, opened, Opens}
use Rattle.reading.specs.BookReading.{most_nodes, most_ticks}
use Rattle.reading.specs.BookArea.{node_count_at}

-- A run of stores below a place leaves what stands from there on, and keeps within what is taken.
take_sets : (vs : List ℕ) (n i : ℕ) (l : List ℕ) → i + length vs ≤ n → take n (sets l i vs) ≡ sets (take n l) i vs
take_sets [] n i l le = refl
take_sets (v ∷ vs) n i l le =
    take_sets vs n (suc i) (set l i v) (omega arith) ∙ ap (λ (k : List ℕ). sets k (suc i) vs) (take-set-lt n l i v (omega arith))

get_or_sets_above : (vs : List ℕ) (i j : ℕ) (l : List ℕ) → i + length vs ≤ j → get_or (sets l i vs) j 0 ≡ get_or l j 0
get_or_sets_above [] i j l le = refl
get_or_sets_above (v ∷ vs) i j l le =
    get_or_sets_above vs (suc i) j (set l i v) (omega arith) ∙ get_or-set_other l i j v 0 (λ e. omega arith)

-- A store, seen at any place.
pub byte_set : (a : List ℕ) (i j v : ℕ) → i < length a → byte_at (set a i v) j ≡ pick (eqb i j) (λ _. v) (λ _. byte_at a j)
byte_set a i j v lt = go (eqb i j) refl
  where
    go : (b : Bool) → eqb i j ≡ b → byte_at (set a i v) j ≡ pick (eqb i j) (λ _. v) (λ _. byte_at a j)
    go true e = let same = eqb-true i j e in rw (e, ← same) (get_or-set_same a i v 0 lt)
    go false e = rw e (get_or-set_other a i j v 0 (λ same. eqb-false i j e (sym same)))

abbrev pub state : List ℕ → (count fault t marks usual : ℕ) → State
state kept count fault t marks usual =
    record { nodes = record { kept = kept; count = count }; fault = fault; is_timed = t; marks = marks; usual = usual }

-- A run of stores among the nodes and lines leaves the reader's own bytes.
pub state_sets : (vs : List ℕ) (i : ℕ) (a : List ℕ) → i + length vs ≤ node_count_at
    → state_of (sets a i vs)
    ≡ state (sets (take node_count_at a) i vs) (byte_at a node_count_at) (byte_at a fault_at) (byte_at a timed_at) (byte_at a marks_at) (byte_at a usual_at)
unfolding state_of
state_sets vs i a le =
    rw (
      take_sets vs node_count_at i a le,
      get_or_sets_above vs i node_count_at a le,
      get_or_sets_above vs i fault_at a (omega arith),
      get_or_sets_above vs i timed_at a (omega arith),
      get_or_sets_above vs i marks_at a (omega arith),
      get_or_sets_above vs i usual_at a (omega arith),
    )

-- A store behind the nodes and lines leaves them and all other bytes.
pub state_set : (a : List ℕ) (i v : ℕ) → node_count_at ≤ i → i < length a
    → state_of (set a i v)
    ≡ state (take node_count_at a) (pick (eqb i node_count_at) (λ _. v) (λ _. byte_at a node_count_at)) (pick (eqb i fault_at) (λ _. v) (λ _. byte_at a fault_at))
    (pick (eqb i timed_at) (λ _. v) (λ _. byte_at a timed_at)) (pick (eqb i marks_at) (λ _. v) (λ _. byte_at a marks_at))
    (pick (eqb i usual_at) (λ _. v) (λ _. byte_at a usual_at))
unfolding state_of
state_set a i v le lt =
    rw (
      take-set-le node_count_at a i v le,
      byte_set a i node_count_at v lt,
      byte_set a i fault_at v lt,
      byte_set a i timed_at v lt,
      byte_set a i marks_at v lt,
      byte_set a i usual_at v lt,
    )

-- Whether the formula read last is timed is stored.
pub state_timed : (a : List ℕ) (v : ℕ) → 512 ≤ length a → state_of (set a timed_at v) ≡ told_timed v (state_of a)
unfolding state_of told_timed
state_timed a v le = state_set a timed_at v (omega arith) (omega arith)

-- ---- one more node

pub put_full : (a : List ℕ) (bytes : List ℕ) → 512 ≤ length a → 60 ≤ byte_at a node_count_at
    → state_of (set a node_count_at 61) ≡ stored bytes (state_of a)
unfolding stored put_bytes most_nodes state_of
put_full a bytes le full = state_set a node_count_at 61 (omega arith) (omega arith) ∙ rw (le-ltb (byte_at a node_count_at) 60 full)

put_bytes_at : (a vs : List ℕ) (n at : ℕ) → length vs ≡ 4 → n ≡ byte_at a node_count_at → n < 60 → at ≡ 4 * n
    → state (sets (take node_count_at a) at vs) (n + 1) (byte_at a fault_at) (byte_at a timed_at) (byte_at a marks_at) (byte_at a usual_at)
    ≡ stored vs (state_of a)
unfolding state_of stored put_bytes most_nodes
put_bytes_at a vs n at four e lt f = rw (← e, lt-ltb n 60 lt, f)

pub put_room : (a : List ℕ) (code number first second w : ℕ) → 512 ≤ length a → w ≡ byte_at a node_count_at → byte_at a node_count_at < 60
    → state_of (set (set (set (set (set a (4 * w) code) (4 * w + 1) number) (4 * w + 2) first) (4 * w + 3) second) node_count_at (byte_at a node_count_at + 1))
    ≡ stored (code ∷ number ∷ first ∷ second ∷ []) (state_of a)
put_room a code number first second w le e lt = go (4 * w) (ap (λ (k : ℕ). 4 * k) e)
  where
    go : (at : ℕ) → at ≡ 4 * byte_at a node_count_at
        → state_of (set (set (set (set (set a at code) (at + 1) number) (at + 2) first) (at + 3) second) node_count_at (byte_at a node_count_at + 1))
        ≡ stored (code ∷ number ∷ first ∷ second ∷ []) (state_of a)
    go at f =
        let vs : List ℕ = code ∷ number ∷ first ∷ second ∷ [] in
        let inner : set (set (set (set a at code) (at + 1) number) (at + 2) first) (at + 3) second ≡ sets a at vs = simp towards_suc in
        ap (λ (l : List ℕ). state_of (set l node_count_at (byte_at a node_count_at + 1))) inner
        ∙ state_set (sets a at vs) node_count_at (byte_at a node_count_at + 1) (omega arith) (omega (arith, length-sets a at vs))
        ∙ rw (
          take_sets vs node_count_at at a (omega arith),
          get_or_sets_above vs at fault_at a (omega arith),
          get_or_sets_above vs at timed_at a (omega arith),
          get_or_sets_above vs at marks_at a (omega arith),
          get_or_sets_above vs at usual_at a (omega arith),
        )
        (put_bytes_at a vs (byte_at a node_count_at) at refl refl lt f)

-- ---- notes

pub least_noted : (a : List ℕ) (k r : ℕ) → 512 ≤ length a → r ≡ min (byte_at a fault_at) k → state_of (set a fault_at r) ≡ noted k (state_of a)
unfolding noted state_of
least_noted a k r le e = let m : min k (byte_at a fault_at) ≡ r = omega arith in state_set a fault_at r (omega arith) (omega arith) ∙ rw m

pub timed_not : (a : List ℕ) (t : ℕ) → t ≡ (state_of a).is_timed → t ≡ 0
    → state_of a ≡ noted_if (not (eqb (state_of a).is_timed 0)) 10 (state_of a)
unfolding noted_if
timed_not a t e f = rw (← e, f)

pub timed_noted : (a z : List ℕ) (t : ℕ) → t ≡ (state_of a).is_timed → (t ≡ 0 → ⊥) → state_of z ≡ noted 10 (state_of a)
    → state_of z ≡ noted_if (not (eqb (state_of a).is_timed 0)) 10 (state_of a)
unfolding noted_if
timed_noted a z t e n f = rw (ne_eqb (state_of a).is_timed 0 (λ g. n (e ∙ g))) f

pub number_small : (a : List ℕ) (amount : ℕ) → amount ≤ 254 → state_of a ≡ noted_if (ltb 254 amount) 7 (state_of a)
unfolding noted_if
number_small a amount le = rw (le-ltb 254 amount le)

pub number_noted : (a z : List ℕ) (amount : ℕ) → 254 < amount → state_of z ≡ noted 7 (state_of a) → state_of z ≡ noted_if (ltb 254 amount) 7 (state_of a)
unfolding noted_if
number_noted a z amount lt f = rw (lt-ltb 254 amount lt) f

-- ---- reading

pub timed_read : (a : List ℕ) → byte_at a timed_at ≡ (state_of a).is_timed
unfolding state_of
timed_read a = refl

pub usual_read : (a : List ℕ) (w : ℕ) → w ≡ byte_at a usual_at → w ≡ (state_of a).usual
unfolding state_of
usual_read a w e = e

pub last_read : (a : List ℕ) (r : ℕ) → r ≡ byte_at a node_count_at - 1 → r ≡ last_node (state_of a)
unfolding state_of last_node
last_read a r e = e

-- ---- nodes

pub leaf_stored : (a y z : List ℕ) (code number : ℕ) → state_of y ≡ stored (code ∷ number ∷ 0 ∷ 0 ∷ []) (state_of a)
    → state_of z ≡ told_timed 0 (state_of y) → state_of z ≡ leaf code number (state_of a)
unfolding leaf
leaf_stored a y z code number e f = f ∙ ap (told_timed 0) e

pub and_untimed : (a z : List ℕ) (first t second : ℕ) → second ≡ last_node (state_of a)
    → state_of z ≡ stored (4 ∷ 0 ∷ first ∷ second ∷ []) (state_of a) → t ≡ 0 → state_of z ≡ and_node first t (state_of a)
unfolding and_node stored told_timed
and_untimed a z first t second e f g = rw g (f ∙ rw e)

pub and_timed : (a y z : List ℕ) (first t second : ℕ) → second ≡ last_node (state_of a)
    → state_of y ≡ stored (4 ∷ 0 ∷ first ∷ second ∷ []) (state_of a) → (t ≡ 0 → ⊥) → state_of z ≡ told_timed 1 (state_of y)
    → state_of z ≡ and_node first t (state_of a)
unfolding and_node
and_timed a y z first t second e f n g = rw (ne_eqb t 0 n, ← e) (g ∙ ap (told_timed 1) f)

pub or_untimed : (a z : List ℕ) (first t second : ℕ) → second ≡ last_node (state_of a) → t ≡ 0
    → state_of z ≡ stored (6 ∷ 0 ∷ first ∷ second ∷ []) (state_of a) → state_of z ≡ or_node first t (state_of a)
unfolding or_node
or_untimed a z first t second e g f = rw (g, ← e) f

pub or_timed : (a y z : List ℕ) (first t second : ℕ) → second ≡ last_node (state_of a) → (t ≡ 0 → ⊥)
    → state_of y ≡ stored (5 ∷ 0 ∷ first ∷ second ∷ []) (state_of a) → state_of z ≡ told_timed 1 (state_of y)
    → state_of z ≡ or_node first t (state_of a)
unfolding or_node
or_timed a y z first t second e n f g = rw (ne_eqb t 0 n, ← e) (g ∙ ap (told_timed 1) f)

pub bounded_stored : (a x y z : List ℕ) (code amount first second : ℕ) → second ≡ last_node (state_of a)
    → state_of x ≡ noted_if (ltb 254 amount) 7 (state_of a) → state_of y ≡ stored (code ∷ amount % 256 ∷ first ∷ second ∷ []) (state_of x)
    → state_of z ≡ told_timed 1 (state_of y) → state_of z ≡ bounded_node code amount first (state_of a)
unfolding bounded_node most_ticks
bounded_stored a x y z code amount first second e f g h = rw (h, g, f, e)

pub until_stored : (a y z : List ℕ) (amount first : ℕ) → state_of y ≡ noted_if (not (eqb (state_of a).is_timed 0)) 10 (state_of a)
    → state_of z ≡ bounded_node 12 amount first (state_of y) → state_of z ≡ until_node amount first (state_of a)
unfolding until_node
until_stored a y z amount first e f = rw (f, e)

marks_above : (a : List ℕ) (value w : ℕ) → w ≡ byte_at a marks_at → value < w → leb (state_of a).marks value ≡ false
unfolding state_of
marks_above a value w e lt = lt-leb (byte_at a marks_at) value (omega arith)

marks_within : (a : List ℕ) (value w : ℕ) → w ≡ byte_at a marks_at → w ≤ value → leb (state_of a).marks value ≡ true
unfolding state_of
marks_within a value w e le = le-leb (byte_at a marks_at) value (omega arith)

pub mark_known : (a : List ℕ) (value w : ℕ) → w ≡ byte_at a marks_at → value < w
    → state_of a ≡ noted_if (leb (state_of a).marks value) 8 (state_of a)
unfolding noted_if
mark_known a value w e lt = let h : leb (state_of a).marks value ≡ false = marks_above a value w e lt in rw h

pub mark_noted : (a z : List ℕ) (value w : ℕ) → w ≡ byte_at a marks_at → w ≤ value → state_of z ≡ noted 8 (state_of a)
    → state_of z ≡ noted_if (leb (state_of a).marks value) 8 (state_of a)
unfolding noted_if
mark_noted a z value w e le f = let h : leb (state_of a).marks value ≡ true = marks_within a value w e le in rw h f

pub mark_stored : (a y z : List ℕ) (code value : ℕ) → state_of y ≡ noted_if (leb (state_of a).marks value) 8 (state_of a)
    → state_of z ≡ leaf code (value % 256) (state_of y) → state_of z ≡ mark_node code value (state_of a)
unfolding mark_node
mark_stored a y z code value e f = rw (f, e)

pub opens_none : (room : ℕ) (a z : List ℕ) → room ≡ 0 → state_of z ≡ noted 9 (state_of a) → Opens 0 room a z
unfolding opened noted_if
opens_none room a z e f = record { inner = omega arith; state = rw e f }

pub opens_some : (room : ℕ) (a : List ℕ) → (room ≡ 0 → ⊥) → Opens (room - 1) room a a
unfolding opened noted_if
opens_some room a n = record { inner = refl; state = rw (ne_eqb room 0 n) }

-- ---- the bound where a number is left out stays

pub leaf_usual : (a z : List ℕ) (code number : ℕ) → state_of z ≡ leaf code number (state_of a) → usual_in z ≡ usual_in a
unfolding leaf stored told_timed
leaf_usual a z code number e = ap (λ (st : State). st.usual) e

pub opens_usual : {r room : ℕ} {a z : List ℕ} → Opens r room a z → usual_in z ≡ usual_in a
unfolding opened noted_if noted
opens_usual {room = room} {a = a} o = ap (λ (st : State). st.usual) o.state ∙ go (eqb room 0)
  where
    go : (b : Bool) → (pick b (λ _. noted 9 (state_of a)) (λ _. state_of a)).usual ≡ usual_in a
    go true = refl
    go false = refl
