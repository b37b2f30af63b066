-- How the state after a formula comes from the states after its parts.
use Prim.Native.Nat.{ℕ, zero, suc, ◌+◌, ◌-◌, ◌%◌, ◌≤◌, ◌<◌, min, max}
use native.Mathlib.Omega.{arith}
use mathlib.Core.Path.{◌≡◌, refl, sym, ◌∙◌, ap, ap₂}
use mathlib.Core.Bool.{Bool, true, false, ◌&&◌, ◌||◌, not}
use mathlib.Core.List.{List, [], ◌∷◌, ◌++◌}
use lib.ListN.{length}
use lib.Dec.{eqb, leb, ltb}
use borrow.Author.Tests.{lt-ltb, le-ltb, ltb-true, ltb-false, ne_eqb}
use Rattle.base.specs.Choice.{pick}
use Rattle.logic.specs.Time.{ticks}
use Rattle.logic.specs.Book.{Comparison, Formula, constant, proposition, and, or, next, always_for, until, timed, timed_right, parts, size, first_part, second_part}
use Rattle.reading.specs.BookReading.{most_nodes, most_ticks, over_number, over_mark}
use Rattle.reading.specs.BookArea.{node_code, node_number, node_first, node_second, comparison_code}
use Rattle.book_nodes.specs.State.{Nodes, State, state_of, usual_in, put_bytes, stored, noted, noted_if, told_timed, last_node, leaf, mark_node, opened, and_node, or_node, bounded_node, until_node, put_one, put_all, one_if, due, fault_of, absorb}

-- ---- nodes

pub put_all_append : (fs gs : List Formula) (n : Nodes) → put_all (fs ++ gs) n ≡ put_all gs (put_all fs n)
unfolding put_all
put_all_append [] gs n = refl
put_all_append (f ∷ fs) gs n = put_all_append fs gs (put_one f n)

put_bytes_room : (bytes : List ℕ) (n : Nodes) → n.count < 60 → (put_bytes bytes n).count ≡ n.count + 1
unfolding put_bytes most_nodes
put_bytes_room bytes n lt = rw (lt-ltb n.count 60 lt)

put_bytes_full : (bytes : List ℕ) (n : Nodes) → 60 ≤ n.count → (put_bytes bytes n).count ≡ 61
unfolding put_bytes most_nodes
put_bytes_full bytes n le = rw (le-ltb n.count 60 le)

one_room : (f : Formula) (n : Nodes) → n.count < 60 → (put_one f n).count ≡ n.count + 1
unfolding put_one
one_room f n lt = put_bytes_room (node_code f ∷ node_number f % 256 ∷ node_first n.count f ∷ node_second n.count f ∷ []) n lt

one_full : (f : Formula) (n : Nodes) → 60 ≤ n.count → (put_one f n).count ≡ 61
unfolding put_one
one_full f n le = put_bytes_full (node_code f ∷ node_number f % 256 ∷ node_first n.count f ∷ node_second n.count f ∷ []) n le

-- With 60 nodes there is no going back.
pub count_full : (fs : List Formula) (n : Nodes) → 60 ≤ n.count → 60 ≤ (put_all fs n).count
unfolding put_all
count_full [] n le = le
count_full (f ∷ fs) n le = count_full fs (put_one f n) (omega (arith, one_full f n le))

-- Where the count stays below 60, it counts.
pub count_known : (fs : List Formula) (n : Nodes) → (put_all fs n).count < 60 → (put_all fs n).count ≡ n.count + length fs
unfolding put_all
count_known [] n lt = omega arith
count_known (f ∷ fs) n lt = go (ltb n.count 60) refl (count_known fs (put_one f n) lt)
  where
    go : (b : Bool) → ltb n.count 60 ≡ b → (put_all fs (put_one f n)).count ≡ (put_one f n).count + length fs
        → (put_all fs (put_one f n)).count ≡ n.count + suc (length fs)
    go true e ih = omega (arith, ltb-true n.count 60 e, one_room f n (ltb-true n.count 60 e))
    go false e ih = absurd (omega (
      arith,
      one_full f n (ltb-false n.count 60 e),
      count_full fs (put_one f n)
          (omega (arith, one_full f n (ltb-false n.count 60 e))),
    ))

-- Bytes that are alike where there is room are put alike.
put_same : (bytes other : List ℕ) (n : Nodes) → (n.count < 60 → bytes ≡ other) → put_bytes bytes n ≡ put_bytes other n
unfolding put_bytes most_nodes
put_same bytes other n h = go (ltb n.count 60) refl
  where
    go : (b : Bool) → ltb n.count 60 ≡ b → put_bytes bytes n ≡ put_bytes other n
    go true e = rw (h (ltb-true n.count 60 e))
    go false e = rw e

put_last : (h : Formula) (n : Nodes)
    → put_all (h ∷ []) n ≡ put_bytes (node_code h ∷ node_number h % 256 ∷ node_first n.count h ∷ node_second n.count h ∷ []) n
unfolding put_all put_one
put_last h n = refl

part_numbers : (code number : ℕ) (g : Formula) (m : Nodes) → (put_all (parts g) m).count < 60
    → code ∷ number ∷ (m.count - 1) ∷ ((put_all (parts g) m).count - 1) ∷ []
    ≡ code ∷ number ∷ first_part (put_all (parts g) m).count g ∷ second_part (put_all (parts g) m).count ∷ []
unfolding first_part second_part size
part_numbers code number g m lt =
    let e : m.count - 1 ≡ (put_all (parts g) m).count - 1 - length (parts g) = omega (arith, count_known (parts g) m lt) in rw e

-- The node of a formula of two parts, after its parts.
put_two : (f g h : Formula) (n : Nodes) → parts h ≡ parts f ++ (parts g ++ (h ∷ [])) → ((k : ℕ) → node_first k h ≡ first_part k g)
    → ((k : ℕ) → node_second k h ≡ second_part k)
    → put_bytes (node_code h ∷ node_number h % 256 ∷ ((put_all (parts f) n).count - 1) ∷ ((put_all (parts g) (put_all (parts f) n)).count - 1) ∷ [])
    (put_all (parts g) (put_all (parts f) n))
    ≡ put_all (parts h) n
put_two f g h n e first second =
    put_same _ _ (put_all (parts g) (put_all (parts f) n)) (λ lt. bytes (put_all (parts f) n) lt)
    ∙ sym (ap (λ (l : List Formula). put_all l n) e ∙ put_all_append (parts f) (parts g ++ (h ∷ [])) n
    ∙ put_all_append (parts g) (h ∷ []) (put_all (parts f) n) ∙ put_last h (put_all (parts g) (put_all (parts f) n)))
  where
    bytes : (m : Nodes) → (put_all (parts g) m).count < 60
        → node_code h ∷ node_number h % 256 ∷ (m.count - 1) ∷ ((put_all (parts g) m).count - 1) ∷ []
        ≡ node_code h ∷ node_number h % 256 ∷ node_first (put_all (parts g) m).count h ∷ node_second (put_all (parts g) m).count h ∷ []
    bytes m lt = rw (first (put_all (parts g) m).count, second (put_all (parts g) m).count) (part_numbers (node_code h) (node_number h % 256) g m lt)

-- The node of a formula of one part, after its part.
put_next : (g h : Formula) (n : Nodes) → parts h ≡ parts g ++ (h ∷ []) → ((k : ℕ) → node_first k h ≡ 0)
    → ((k : ℕ) → node_second k h ≡ second_part k)
    → put_bytes (node_code h ∷ node_number h % 256 ∷ 0 ∷ ((put_all (parts g) n).count - 1) ∷ []) (put_all (parts g) n) ≡ put_all (parts h) n
unfolding second_part
put_next g h n e first second =
    sym (ap (λ (l : List Formula). put_all l n) e ∙ put_all_append (parts g) (h ∷ []) n ∙ put_last h (put_all (parts g) n)
    ∙ rw (first (put_all (parts g) n).count, second (put_all (parts g) n).count))

-- ---- faults

due_at_most : (b : Bool) (k : ℕ) → k ≤ 255 → due b k ≤ 255
unfolding due
due_at_most true k h = h
due_at_most false k h = omega arith

due_or : (a b : Bool) (k : ℕ) → k ≤ 255 → due (a || b) k ≡ min (due a k) (due b k)
unfolding due
due_or true true k h = omega arith
due_or true false k h = omega arith
due_or false true k h = omega arith
due_or false false k h = refl

due_not_and : (a b : Bool) (k : ℕ) → k ≤ 255 → due (not (a && b)) k ≡ min (due (not a) k) (due (not b) k)
unfolding due
due_not_and true true k h = refl
due_not_and true false k h = omega arith
due_not_and false true k h = omega arith
due_not_and false false k h = omega arith

not_not : (b : Bool) → not (not b) ≡ b
not_not true = refl
not_not false = refl

-- Too many brackets in one part or in the other.
due_max : (room b c k : ℕ) → k ≤ 255 → due (ltb room (max b c)) k ≡ min (due (ltb room b) k) (due (ltb room c) k)
due_max room b c k h = go (ltb room b) (ltb room c) refl refl
  where
    go : (x y : Bool) → ltb room b ≡ x → ltb room c ≡ y → due (ltb room (max b c)) k ≡ min (due (ltb room b) k) (due (ltb room c) k)
    go x y e f = rw (e, f, either x y e f) (due_or x y k h)
      where
        either : (x y : Bool) → ltb room b ≡ x → ltb room c ≡ y → ltb room (max b c) ≡ (x || y)
        either true y e f = lt-ltb room (max b c) (omega (arith, ltb-true room b e))
        either false true e f = lt-ltb room (max b c) (omega (arith, ltb-true room c f))
        either false false e f = le-ltb room (max b c) (omega (arith, ltb-false room b e, ltb-false room c f))

due_known : (b : Bool) (k : ℕ) → k ≤ 255 → k ≤ due b k
unfolding due
due_known true k h = omega arith
due_known false k h = h

pub due_true : (k : ℕ) → due true k ≡ k
unfolding due
due_true k = refl

pub due_false : (k : ℕ) → due false k ≡ 255
unfolding due
due_false k = refl

suc_sub : (n : ℕ) → suc n - 1 ≡ n
suc_sub n = omega arith

shifted : (m n : ℕ) → ltb (suc m) (suc n) ≡ ltb m n
shifted m n = go (ltb m n) refl
  where
    go : (b : Bool) → ltb m n ≡ b → ltb (suc m) (suc n) ≡ ltb m n
    go true e = lt-ltb (suc m) (suc n) (omega (arith, ltb-true m n e)) ∙ sym e
    go false e = le-ltb (suc m) (suc n) (omega (arith, ltb-false m n e)) ∙ sym e

within_255 : (b : Bool) (k : ℕ) → k ≤ 255 → min (due b k) (due false k) ≡ due b k
within_255 b k h = omega (arith, due_false k, due_at_most b k h)

-- One bracket more, where there is room for one less.
due_suc : (room b k : ℕ) → k ≤ 255 → due (ltb room (suc b)) k ≡ min (due (ltb (room - 1) b) k) (due (eqb room 0) k)
due_suc zero b k h = rw (lt-ltb 0 (suc b) (omega arith)) (omega (arith, due_true k, due_known (ltb (0 - 1) b) k h))
due_suc (suc room) b k h =
    ap (λ (x : Bool). due x k) (shifted room b)
    ∙ sym (ap₂ (λ (x y : ℕ). min x y) (ap (λ (m : ℕ). due (ltb m b) k) (suc_sub room)) (ap (λ (x : Bool). due x k) (ne_eqb (suc room) 0 (λ e. omega arith)))
    ∙ within_255 (ltb room b) k h)

fault_at_most : (marks room b : ℕ) (f : Formula) → fault_of marks room b f ≤ 255
unfolding fault_of
fault_at_most marks room b f = omega (arith, due_at_most (over_number f) 7 (omega arith))

same_state : {m n : Nodes} {x y t u k w : ℕ} → m ≡ n → x ≡ y → t ≡ u
    → ◌≡◌ {A = State} (record { nodes = m; fault = x; is_timed = t; marks = k; usual = w }) (record { nodes = n; fault = y; is_timed = u; marks = k; usual = w })
same_state e f g = rw (e, f, g)

-- A note changes the fault alone.
noted_as : (b : Bool) (k : ℕ) (st : State) → st.fault ≤ 255
    → noted_if b k st ≡ record { nodes = st.nodes; fault = min (due b k) st.fault; is_timed = st.is_timed; marks = st.marks; usual = st.usual }
unfolding noted_if noted due
noted_as true k st h = refl
noted_as false k st h = same_state {m = st.nodes} {t = st.is_timed} refl (omega arith) refl

-- ---- formulas

-- A constant.
pub absorb_constant : (room : ℕ) (b : Bool) (st : State) → st.fault ≤ 255 → leaf (one_if b) 0 st ≡ absorb room 0 (constant b) st
unfolding leaf stored told_timed absorb put_all put_one fault_of over_number over_mark due timed timed_right parts node_code node_number node_first node_second one_if
absorb_constant room b st h =
    let z = le-ltb room 0 (omega arith) in
    let m : min 255 (min 255 (min 255 255)) ≡ 255 = refl in
    rw z (same_state refl (omega arith) refl)

-- A mark.
pub absorb_mark : (room k : ℕ) (wanted : Bool) (st : State) → st.fault ≤ 255
    → mark_node (pick wanted (λ _. 3) (λ _. 2)) k st ≡ absorb room 0 (proposition wanted k) st
unfolding leaf mark_node stored told_timed absorb put_all put_one fault_of over_number over_mark timed timed_right parts node_code node_number node_first node_second one_if
absorb_mark room k wanted st h =
    let z = le-ltb room 0 (omega arith) in
    rw (z, noted_as (leb st.marks k) 8 st h)
    (same_state refl (omega (arith, due_false 7, due_false 9, due_false 10, due_at_most (leb st.marks k) 8 (omega arith))) refl)

min_assoc : (a b c : ℕ) → min (min a b) c ≡ min a (min b c)
min_assoc a b c = omega arith

min_swap : (a b c : ℕ) → min a (min b c) ≡ min b (min a c)
min_swap a b c = omega arith

-- Two least numbers of four are the least of the four lesser ones.
min_four : (a b c d p q r s x : ℕ)
    → min (min p (min q (min r s))) (min (min a (min b (min c d))) x) ≡ min (min (min a p) (min (min b q) (min (min c r) (min d s)))) x
min_four a b c d p q r s x =
    simp min_assoc
    (ap (λ (m : ℕ). min p (min q (min r m))) (min_swap s a (min b (min c (min d x))))
    ∙ ap (λ (m : ℕ). min p (min q m)) (min_swap r a (min s (min b (min c (min d x)))))
    ∙ ap (λ (m : ℕ). min p m) (min_swap q a (min r (min s (min b (min c (min d x))))))
    ∙ min_swap p a (min q (min r (min s (min b (min c (min d x))))))
    ∙ ap (λ (m : ℕ). min a (min p (min q (min r m)))) (min_swap s b (min c (min d x)))
    ∙ ap (λ (m : ℕ). min a (min p (min q m))) (min_swap r b (min s (min c (min d x))))
    ∙ ap (λ (m : ℕ). min a (min p m)) (min_swap q b (min r (min s (min c (min d x)))))
    ∙ ap (λ (m : ℕ). min a (min p (min b (min q (min r m))))) (min_swap s c (min d x))
    ∙ ap (λ (m : ℕ). min a (min p (min b (min q m)))) (min_swap r c (min s (min d x)))
    ∙ ap (λ (m : ℕ). min a (min p (min b (min q (min c (min r m)))))) (min_swap s d x))

fault_and : (marks room b c : ℕ) (f g : Formula) (x : ℕ)
    → min (fault_of marks room c g) (min (fault_of marks room b f) x) ≡ min (fault_of marks room (max b c) (and f g)) x
unfolding fault_of over_number over_mark timed_right
fault_and marks room b c f g x =
    rw (
      due_or (over_number f) (over_number g) 7 (omega arith),
      due_or (over_mark marks f) (over_mark marks g) 8 (omega arith),
      due_max room b c 9 (omega arith),
      due_not_and (timed_right f) (timed_right g) 10 (omega arith),
    )
    (min_four (due (over_number f) 7) (due (over_mark marks f) 8) (due (ltb room b) 9) (due (not (timed_right f)) 10)
    (due (over_number g) 7) (due (over_mark marks g) 8) (due (ltb room c) 9) (due (not (timed_right g)) 10) x)

one_if_or : (a b : Bool) → pick (eqb (one_if a) 0) (λ _. one_if b) (λ _. 1) ≡ one_if (a || b)
unfolding one_if
one_if_or true b = refl
one_if_or false b = refl

-- `&` of two formulas.
pub absorb_and : (room b c : ℕ) (f g : Formula) (st : State)
    → and_node (last_node (absorb room b f st)) (absorb room b f st).is_timed (absorb room c g (absorb room b f st))
    ≡ absorb room (max b c) (and f g) st
unfolding and_node stored told_timed last_node absorb timed parts node_first node_second node_code node_number
absorb_and room b c f g st =
    same_state (put_two f g (and f g) st.nodes and_parts (λ k. and_first k) (λ k. and_second k)) (fault_and st.marks room b c f g st.fault)
    (one_if_or (timed f) (timed g))
  where
    and_parts : parts (and f g) ≡ parts f ++ (parts g ++ (and f g ∷ []))
    and_parts = refl

    and_first : (k : ℕ) → node_first k (and f g) ≡ first_part k g
    and_first k = refl

    and_second : (k : ℕ) → node_second k (and f g) ≡ second_part k
    and_second k = refl

-- One of the four least numbers can be taken by itself.
min_last : (a b c e d x : ℕ) → min e (min (min a (min b (min c d))) x) ≡ min (min a (min b (min c (min e d)))) x
min_last a b c e d x =
    simp min_assoc
    (min_swap e a (min b (min c (min d x))) ∙ ap (λ (m : ℕ). min a m) (min_swap e b (min c (min d x)))
    ∙ ap (λ (m : ℕ). min a (min b m)) (min_swap e c (min d x)))

fault_or : (marks room b c : ℕ) (f g : Formula) (x : ℕ)
    → min (fault_of marks room c g) (min (fault_of marks room b f) x) ≡ min (fault_of marks room (max b c) (or f g)) x
unfolding fault_of over_number over_mark timed_right
fault_or marks room b c f g x = fault_and marks room b c f g x

fault_bound : (marks room b amount : ℕ) (g : Formula) (x : ℕ)
    → min (due (ltb 254 amount) 7) (min (fault_of marks room b g) x)
    ≡ min (min (due (ltb 254 amount || over_number g) 7) (min (due (over_mark marks g) 8) (min (due (ltb room b) 9) (due (not (timed_right g)) 10)))) x
unfolding fault_of
fault_bound marks room b amount g x = rw (due_or (ltb 254 amount) (over_number g) 7 (omega arith)) (simp min_assoc)

fault_until : (marks room b c amount : ℕ) (f g : Formula) (x : ℕ)
    → min (due (ltb 254 amount) 7) (min (due (timed g) 10) (min (fault_of marks room c g) (min (fault_of marks room b f) x)))
    ≡ min (fault_of marks room (max b c) (until (ticks amount) f g)) x
unfolding fault_of over_number over_mark timed_right most_ticks
fault_until marks room b c amount f g x =
    ap (λ (m : ℕ). min (due (ltb 254 amount) 7) (min (due (timed g) 10) m)) (fault_and marks room b c f g x)
    ∙ ap (λ (m : ℕ). min (due (ltb 254 amount) 7) m)
    (min_last (due (over_number f || over_number g) 7) (due (over_mark marks f || over_mark marks g) 8) (due (ltb room (max b c)) 9)
    (due (timed g) 10) (due (not (timed_right f && timed_right g)) 10) x)
    ∙ sym (rw (
      due_not_and (not (timed g)) (timed_right f && timed_right g) 10 (omega arith),
      not_not (timed g),
      due_or (ltb 254 amount) (over_number f || over_number g) 7 (omega arith),
    ) (simp min_assoc))

absorbed_fault : (room b : ℕ) (f : Formula) (st : State) → (absorb room b f st).fault ≤ 255
unfolding absorb
absorbed_fault room b f st = omega (arith, fault_at_most st.marks room b f)

bit_not_zero : (b : Bool) → not (eqb (one_if b) 0) ≡ b
unfolding one_if
bit_not_zero true = refl
bit_not_zero false = refl

or_node_timed : (first : ℕ) (st : State)
    → or_node first 1 st
    ≡ record {
      nodes = put_bytes (5 ∷ 0 ∷ first ∷ last_node st ∷ []) st.nodes;
      fault = st.fault;
      is_timed = 1;
      marks = st.marks;
      usual = st.usual;
    }
unfolding or_node stored told_timed
or_node_timed first st = refl

or_node_untimed : (first : ℕ) (st : State)
    → or_node first 0 st
    ≡ record {
      nodes = put_bytes (6 ∷ 0 ∷ first ∷ last_node st ∷ []) st.nodes;
      fault = st.fault;
      is_timed = st.is_timed;
      marks = st.marks;
      usual = st.usual;
    }
unfolding or_node stored
or_node_untimed first st = refl

or_bytes : (f g : Formula) (n : Nodes) (code : ℕ) → code ≡ node_code (or f g)
    → put_bytes (code ∷ 0 ∷ ((put_all (parts f) n).count - 1) ∷ ((put_all (parts g) (put_all (parts f) n)).count - 1) ∷ [])
    (put_all (parts g) (put_all (parts f) n))
    ≡ put_all (parts (or f g)) n
unfolding parts node_first node_second node_number
or_bytes f g n code e = rw e (put_two f g (or f g) n refl (λ k. refl) (λ k. refl))

or_first : (room b c : ℕ) (f g : Formula) (st : State) → timed f ≡ true
    → or_node (last_node (absorb room b f st)) (absorb room b f st).is_timed (absorb room c g (absorb room b f st))
    ≡ absorb room (max b c) (or f g) st
unfolding absorb last_node timed one_if node_code
or_first room b c f g st e =
    ap (λ (t : ℕ). or_node (last_node (absorb room b f st)) t (absorb room c g (absorb room b f st))) (ap one_if e)
    ∙ or_node_timed (last_node (absorb room b f st)) (absorb room c g (absorb room b f st))
    ∙ same_state (or_bytes f g st.nodes 5 (rw e)) (fault_or st.marks room b c f g st.fault) (rw e)

or_second : (room b c : ℕ) (f g : Formula) (st : State) → timed f ≡ false
    → or_node (last_node (absorb room b f st)) (absorb room b f st).is_timed (absorb room c g (absorb room b f st))
    ≡ absorb room (max b c) (or f g) st
unfolding absorb last_node timed one_if node_code
or_second room b c f g st e =
    ap (λ (t : ℕ). or_node (last_node (absorb room b f st)) t (absorb room c g (absorb room b f st))) (ap one_if e)
    ∙ or_node_untimed (last_node (absorb room b f st)) (absorb room c g (absorb room b f st))
    ∙ same_state (or_bytes f g st.nodes 6 (rw e)) (fault_or st.marks room b c f g st.fault) (rw e)

-- `|` of two formulas.
pub absorb_or : (room b c : ℕ) (f g : Formula) (st : State)
    → or_node (last_node (absorb room b f st)) (absorb room b f st).is_timed (absorb room c g (absorb room b f st))
    ≡ absorb room (max b c) (or f g) st
absorb_or room b c f g st = go (timed f) refl
  where
    go : (t : Bool) → timed f ≡ t
        → or_node (last_node (absorb room b f st)) (absorb room b f st).is_timed (absorb room c g (absorb room b f st))
        ≡ absorb room (max b c) (or f g) st
    go true e = or_first room b c f g st e
    go false e = or_second room b c f g st e

-- What a node with a bound makes of each part of the state.
bounded_fields : (code amount first : ℕ) (st : State) → st.fault ≤ 255
    → bounded_node code amount first st
    ≡ record {
      nodes = put_bytes (code ∷ amount % 256 ∷ first ∷ last_node st ∷ []) st.nodes;
      fault = min (due (ltb 254 amount) 7) st.fault;
      is_timed = 1;
      marks = st.marks;
      usual = st.usual;
    }
unfolding bounded_node told_timed stored most_ticks
bounded_fields code amount first st h =
    rw (noted_as (ltb 254 amount) 7 st h)

bounded_absorbed : (room b amount : ℕ) (g h : Formula) (st : State) → parts h ≡ parts g ++ (h ∷ []) → ((k : ℕ) → node_first k h ≡ 0)
    → ((k : ℕ) → node_second k h ≡ second_part k) → node_number h ≡ amount
    → min (due (ltb 254 amount) 7) (min (fault_of st.marks room b g) st.fault) ≡ min (fault_of st.marks room b h) st.fault
    → timed h ≡ true
    → record {
      nodes = put_bytes (node_code h ∷ amount % 256 ∷ 0 ∷ last_node (absorb room b g st) ∷ []) (absorb room b g st).nodes;
      fault = min (due (ltb 254 amount) 7) (absorb room b g st).fault;
      is_timed = 1;
      marks = (absorb room b g st).marks;
      usual = (absorb room b g st).usual;
    }
    ≡ absorb room b h st
unfolding absorb last_node one_if
bounded_absorbed room b amount g h st e first second number fault time =
    same_state (ap (λ (x : ℕ). put_bytes (node_code h ∷ x % 256 ∷ 0 ∷ ((put_all (parts g) st.nodes).count - 1) ∷ []) (put_all (parts g) st.nodes)) (sym number)
    ∙ put_next g h st.nodes e first second) fault (rw time)

-- A node with a bound and one part.
absorb_bounded : (room b amount : ℕ) (g h : Formula) (st : State) → parts h ≡ parts g ++ (h ∷ []) → ((k : ℕ) → node_first k h ≡ 0)
    → ((k : ℕ) → node_second k h ≡ second_part k) → node_number h ≡ amount
    → min (due (ltb 254 amount) 7) (min (fault_of st.marks room b g) st.fault) ≡ min (fault_of st.marks room b h) st.fault
    → timed h ≡ true → bounded_node (node_code h) amount 0 (absorb room b g st) ≡ absorb room b h st
absorb_bounded room b amount g h st e first second number fault time =
    bounded_fields (node_code h) amount 0 (absorb room b g st) (absorbed_fault room b g st)
    ∙ bounded_absorbed room b amount g h st e first second number fault time

fault_fold : (room b : ℕ) (h : Formula) (st : State)
    → min (min (due (over_number h) 7) (min (due (over_mark st.marks h) 8) (min (due (ltb room b) 9) (due (not (timed_right h)) 10)))) st.fault
    ≡ min (fault_of st.marks room b h) st.fault
unfolding fault_of
fault_fold room b h st = refl

open_order : (a b c d e x : ℕ) → min a (min b (min c (min d (min e x)))) ≡ min a (min b (min c (min e (min d x))))
open_order a b c d e x = ap (λ (m : ℕ). min a (min b (min c m))) (min_swap d e x)

fault_next : (room b amount : ℕ) (c : Comparison) (g : Formula) (st : State)
    → min (due (ltb 254 amount) 7) (min (fault_of st.marks room b g) st.fault)
    ≡ min (fault_of st.marks room b (next c (ticks amount) g)) st.fault
unfolding over_number over_mark timed_right most_ticks
fault_next room b amount c g st = fault_bound st.marks room b amount g st.fault ∙ fault_fold room b (next c (ticks amount) g) st

fault_always : (room b amount : ℕ) (g : Formula) (st : State)
    → min (due (ltb 254 amount) 7) (min (fault_of st.marks room b g) st.fault)
    ≡ min (fault_of st.marks room b (always_for (ticks amount) g)) st.fault
unfolding over_number over_mark timed_right most_ticks
fault_always room b amount g st = fault_bound st.marks room b amount g st.fault ∙ fault_fold room b (always_for (ticks amount) g) st

fault_open : (room b : ℕ) (f : Formula) (st : State)
    → min (fault_of st.marks (room - 1) b f) (min (due (eqb room 0) 9) st.fault) ≡ min (fault_of st.marks room (suc b) f) st.fault
unfolding fault_of
fault_open room b f st = rw (due_suc room b 9 (omega arith)) (simp min_assoc (open_order (due (over_number f) 7) (due (over_mark st.marks f) 8)
    (due (ltb (room - 1) b) 9) (due (not (timed_right f)) 10) (due (eqb room 0) 9) st.fault))

-- `N` of a formula.
pub absorb_next : (room b amount : ℕ) (c : Comparison) (g : Formula) (st : State)
    → bounded_node (comparison_code c) amount 0 (absorb room b g st) ≡ absorb room b (next c (ticks amount) g) st
unfolding parts node_first node_second node_number node_code timed
absorb_next room b amount c g st =
    absorb_bounded room b amount g (next c (ticks amount) g) st refl (λ k. refl) (λ k. refl) refl (fault_next room b amount c g st) refl

-- `A` of a formula.
pub absorb_always : (room b amount : ℕ) (g : Formula) (st : State)
    → bounded_node 11 amount 0 (absorb room b g st) ≡ absorb room b (always_for (ticks amount) g) st
unfolding parts node_first node_second node_number node_code timed
absorb_always room b amount g st =
    absorb_bounded room b amount g (always_for (ticks amount) g) st refl (λ k. refl) (λ k. refl) refl (fault_always room b amount g st) refl

until_bytes : (amount : ℕ) (f g : Formula) (n : Nodes)
    → put_bytes (12 ∷ amount % 256 ∷ ((put_all (parts f) n).count - 1) ∷ ((put_all (parts g) (put_all (parts f) n)).count - 1) ∷ [])
    (put_all (parts g) (put_all (parts f) n))
    ≡ put_all (parts (until (ticks amount) f g)) n
unfolding parts node_first node_second node_number node_code
until_bytes amount f g n = put_two f g (until (ticks amount) f g) n refl (λ k. refl) (λ k. refl)

until_whole : (room b c amount : ℕ) (f g : Formula) (st : State)
    → record {
      nodes = put_bytes
          (12 ∷ amount % 256 ∷ ((absorb room b f st).nodes.count - 1) ∷ ((absorb room c g (absorb room b f st)).nodes.count - 1) ∷ [])
          (absorb room c g (absorb room b f st)).nodes;
      fault = min (due (ltb 254 amount) 7)
          (min (due (not (eqb (absorb room c g (absorb room b f st)).is_timed 0)) 10) (absorb room c g (absorb room b f st)).fault);
      is_timed = 1;
      marks = (absorb room c g (absorb room b f st)).marks;
      usual = (absorb room c g (absorb room b f st)).usual;
    }
    ≡ absorb room (max b c) (until (ticks amount) f g) st
unfolding absorb timed one_if
until_whole room b c amount f g st =
    same_state (until_bytes amount f g st.nodes)
    (rw (bit_not_zero (timed g)) (fault_until st.marks room b c amount f g st.fault)) refl

until_absorbed : (room b c amount : ℕ) (f g : Formula) (st : State)
    → record {
      nodes = put_bytes
          (12 ∷ amount % 256 ∷ last_node (absorb room b f st)
          ∷ last_node (noted_if (not (eqb (absorb room c g (absorb room b f st)).is_timed 0)) 10 (absorb room c g (absorb room b f st))) ∷ [])
          (noted_if (not (eqb (absorb room c g (absorb room b f st)).is_timed 0)) 10 (absorb room c g (absorb room b f st))).nodes;
      fault = min (due (ltb 254 amount) 7)
          (noted_if (not (eqb (absorb room c g (absorb room b f st)).is_timed 0)) 10 (absorb room c g (absorb room b f st))).fault;
      is_timed = 1;
      marks = (noted_if (not (eqb (absorb room c g (absorb room b f st)).is_timed 0)) 10 (absorb room c g (absorb room b f st))).marks;
      usual = (noted_if (not (eqb (absorb room c g (absorb room b f st)).is_timed 0)) 10 (absorb room c g (absorb room b f st))).usual;
    }
    ≡ absorb room (max b c) (until (ticks amount) f g) st
unfolding last_node
until_absorbed room b c amount f g st =
    rw (noted_as (not (eqb (absorb room c g (absorb room b f st)).is_timed 0)) 10 (absorb room c g (absorb room b f st)) (absorbed_fault room c g (absorb room b f st)))
    (until_whole room b c amount f g st)

-- `U` of two formulas.
pub absorb_until : (room b c amount : ℕ) (f g : Formula) (st : State)
    → until_node amount (last_node (absorb room b f st)) (absorb room c g (absorb room b f st))
    ≡ absorb room (max b c) (until (ticks amount) f g) st
unfolding until_node
absorb_until room b c amount f g st =
    bounded_fields 12 amount (last_node (absorb room b f st))
    (noted_if (not (eqb (absorb room c g (absorb room b f st)).is_timed 0)) 10 (absorb room c g (absorb room b f st)))
    (rw (noted_as (not (eqb (absorb room c g (absorb room b f st)).is_timed 0)) 10 (absorb room c g (absorb room b f st)) (absorbed_fault room c g (absorb room b f st)))
    (omega (arith, absorbed_fault room c g (absorb room b f st))))
    ∙ until_absorbed room b c amount f g st

-- A formula in brackets.
pub absorb_open : (room b : ℕ) (f : Formula) (st : State) → st.fault ≤ 255 → absorb (room - 1) b f (opened room st) ≡ absorb room (suc b) f st
unfolding absorb opened
absorb_open room b f st h =
    rw (noted_as (eqb room 0) 9 st h)
    (same_state refl (fault_open room b f st) refl)

-- A formula that is absorbed leaves the bound that is meant where a number is left out.
pub absorb_usual : (z : List ℕ) (room b : ℕ) (f : Formula) (st : State) → state_of z ≡ absorb room b f st → usual_in z ≡ st.usual
unfolding absorb
absorb_usual z room b f st e = ap (λ (x : State). x.usual) e
