-- A node that is stored, by its code: which formula it is, and where its parts are stored.
use Prim.Native.Nat.{ℕ, ◌≤◌, ◌<◌}
use native.Mathlib.Omega.{arith}
use mathlib.Core.Path.{◌≡◌, refl, sym, ◌∙◌}
use mathlib.Core.Bool.{Bool, true, false}
use mathlib.Core.List.{List}
use mir.Syntax.{w8, w64}
use mir.Val.{Fits}
use lib.ListN.{get_or}
use lib.Dec.{ltb}
use borrow.Author.Tests.{lt-ltb, le-ltb}
use Rattle.logic.specs.Time.{ticks}
use Rattle.logic.specs.Book.{Comparison, no_more, less, no_less, more, Formula, constant, proposition, and, or, next, always_for, until, timed}
use Rattle.logic.specs.declared.Tick.{Tick}
use Rattle.pending.specs.Pending.{fresh}
use Rattle.reading.specs.BookArea.{comparison_code, node_code, node_number, node_first, node_second}
use Rattle.book_progression.specs.NodeBytes.{code_of, number_of, first_of, second_of, fresh_of, NodeIs, Stored, IsNode}

-- A byte fits a word.
pub cast_byte : (l : List ℕ) (i : ℕ) → ((j : ℕ) → Fits w8 (get_or l j 0)) → Fits w64 (get_or l i 0)
cast_byte l i h = omega (arith, h i)

-- The code of a comparison is one of four.
pub comparison_low : (c : Comparison) → 6 < comparison_code c
unfolding comparison_code
comparison_low no_more = omega arith
comparison_low less = omega arith
comparison_low no_less = omega arith
comparison_low more = omega arith

pub comparison_high : (c : Comparison) → comparison_code c < 11
unfolding comparison_code
comparison_high no_more = omega arith
comparison_high less = omega arith
comparison_high no_less = omega arith
comparison_high more = omega arith

-- What a node of each kind shows: its bytes, and its parts.
module _ (bytes : List ℕ) (k : ℕ) where
  -- A stored node, by its kind and the range of its code.
  pub by_kind : (P : Formula → Type 0) (f : Formula) → Stored bytes f k
      → ((b : Bool) → Stored bytes (constant b) k → code_of bytes k < 2 → P (constant b))
      → ((w : Bool) (m : ℕ) → Stored bytes (proposition w m) k → 1 < code_of bytes k → code_of bytes k < 4 → P (proposition w m))
      → ((g h : Formula) → Stored bytes (and g h) k → code_of bytes k ≡ 4 → P (and g h))
      → ((g h : Formula) → Stored bytes (or g h) k → 4 < code_of bytes k → code_of bytes k < 7 → P (or g h))
      → ((c : Comparison) (t : Tick) (g : Formula) → Stored bytes (next c t g) k → 6 < code_of bytes k → code_of bytes k < 11 → P (next c t g))
      → ((t : Tick) (g : Formula) → Stored bytes (always_for t g) k → code_of bytes k ≡ 11 → P (always_for t g))
      → ((t : Tick) (g h : Formula) → Stored bytes (until t g h) k → code_of bytes k ≡ 12 → P (until t g h))
      → P f
  unfolding Stored node_code
  by_kind P (constant true) s c m a o n l u = c true s (omega arith)
  by_kind P (constant false) s c m a o n l u = c false s (omega arith)
  by_kind P (proposition true i) s c m a o n l u = m true i s (omega arith) (omega arith)
  by_kind P (proposition false i) s c m a o n l u = m false i s (omega arith) (omega arith)
  by_kind P (and g h) s c m a o n l u = a g h s s.0.code
  by_kind P (or g h) s c m a o n l u = go (timed g) refl
    where
      go : (b : Bool) → timed g ≡ b → P (or g h)
      go true e = let code : code_of bytes k ≡ 5 = s.0.code ∙ rw e in o g h s (omega arith) (omega arith)
      go false e = let code : code_of bytes k ≡ 6 = s.0.code ∙ rw e in o g h s (omega arith) (omega arith)
  by_kind P (next c t g) s c' m a o n l u =
      n c t g s (omega (arith, s.0.code, comparison_low c)) (omega (arith, s.0.code, comparison_high c))
  by_kind P (always_for t g) s c m a o n l u = l t g s s.0.code
  by_kind P (until t g h) s c m a o n l u = u t g h s s.0.code

  -- Which formula it is, where the code says so.
  pub by_constant : (P : Formula → Type 0) (f : Formula) → Stored bytes f k → code_of bytes k < 2
      → ((b : Bool) → Stored bytes (constant b) k → P (constant b)) → P f
  by_constant P f s l give =
      by_kind P f s (λ b s _. give b s) (λ a b s lo up. absurd (omega arith)) (λ a b s at. absurd (omega arith)) (λ a b s lo up. absurd (omega arith))
      (λ a b c s lo up. absurd (omega arith)) (λ a b s at. absurd (omega arith)) (λ a b s lo up. absurd (omega arith))

  pub by_mark : (P : Formula → Type 0) (f : Formula) → Stored bytes f k → 1 < code_of bytes k → code_of bytes k < 4
      → ((w : Bool) (m : ℕ) → Stored bytes (proposition w m) k → P (proposition w m)) → P f
  by_mark P f s l h give =
      by_kind P f s (λ b s lo. absurd (omega arith)) (λ w m s _ _. give w m s) (λ a b s at. absurd (omega arith)) (λ a b s lo up. absurd (omega arith))
      (λ a b c s lo up. absurd (omega arith)) (λ a b s at. absurd (omega arith)) (λ a b s lo up. absurd (omega arith))

  pub by_and : (P : Formula → Type 0) (f : Formula) → Stored bytes f k → code_of bytes k ≡ 4
      → ((g h : Formula) → Stored bytes (and g h) k → P (and g h)) → P f
  by_and P f s e give =
      by_kind P f s (λ b s lo. absurd (omega arith)) (λ a b s lo up. absurd (omega arith)) (λ g h s _. give g h s) (λ a b s lo up. absurd (omega arith))
      (λ a b c s lo up. absurd (omega arith)) (λ a b s at. absurd (omega arith)) (λ a b s lo up. absurd (omega arith))

  pub by_or : (P : Formula → Type 0) (f : Formula) → Stored bytes f k → 4 < code_of bytes k → code_of bytes k < 7
      → ((g h : Formula) → Stored bytes (or g h) k → P (or g h)) → P f
  by_or P f s l h give =
      by_kind P f s (λ b s lo. absurd (omega arith)) (λ a b s lo up. absurd (omega arith)) (λ a b s at. absurd (omega arith)) (λ g h s _ _. give g h s)
      (λ a b c s lo up. absurd (omega arith)) (λ a b s at. absurd (omega arith)) (λ a b s lo up. absurd (omega arith))

  pub by_next : (P : Formula → Type 0) (f : Formula) → Stored bytes f k → 6 < code_of bytes k → code_of bytes k < 11
      → ((c : Comparison) (t : Tick) (g : Formula) → Stored bytes (next c t g) k → P (next c t g)) → P f
  by_next P f s l h give =
      by_kind P f s (λ b s lo. absurd (omega arith)) (λ a b s lo up. absurd (omega arith)) (λ a b s at. absurd (omega arith)) (λ a b s lo up. absurd (omega arith))
      (λ c t g s _ _. give c t g s) (λ a b s at. absurd (omega arith)) (λ a b s lo up. absurd (omega arith))

  pub by_always : (P : Formula → Type 0) (f : Formula) → Stored bytes f k → code_of bytes k ≡ 11
      → ((t : Tick) (g : Formula) → Stored bytes (always_for t g) k → P (always_for t g)) → P f
  by_always P f s e give =
      by_kind P f s (λ b s lo. absurd (omega arith)) (λ a b s lo up. absurd (omega arith)) (λ a b s at. absurd (omega arith)) (λ a b s lo up. absurd (omega arith))
      (λ a b c s lo up. absurd (omega arith)) (λ t g s _. give t g s) (λ a b s lo up. absurd (omega arith))

  pub by_until : (P : Formula → Type 0) (f : Formula) → Stored bytes f k → code_of bytes k ≡ 12
      → ((t : Tick) (g h : Formula) → Stored bytes (until t g h) k → P (until t g h)) → P f
  by_until P f s e give =
      by_kind P f s (λ b s lo. absurd (omega arith)) (λ a b s lo up. absurd (omega arith)) (λ a b s at. absurd (omega arith)) (λ a b s lo up. absurd (omega arith))
      (λ a b c s lo up. absurd (omega arith)) (λ a b s at. absurd (omega arith)) (λ t g h s _. give t g h s)

  -- the bytes of a stored node
  pub stored_is : (f : Formula) → Stored bytes f k → NodeIs bytes k f
  unfolding Stored
  stored_is (constant b) s = s
  stored_is (proposition w m) s = s
  stored_is (and g h) s = s.0
  stored_is (or g h) s = s.0
  stored_is (next c t g) s = s.0
  stored_is (always_for t g) s = s.0
  stored_is (until t g h) s = s.0

  -- Where the parts are stored, by the numbers that the bytes give.
  module _ (p : ℕ) where
    pub and_first : (g h : Formula) → Stored bytes (and g h) k → p ≡ first_of bytes k → Stored bytes g p
    unfolding Stored node_first
    and_first g h s e = rw (e ∙ s.0.first) s.1

    pub or_first : (g h : Formula) → Stored bytes (or g h) k → p ≡ first_of bytes k → Stored bytes g p
    unfolding Stored node_first
    or_first g h s e = rw (e ∙ s.0.first) s.1

    pub until_first : (t : Tick) (g h : Formula) → Stored bytes (until t g h) k → p ≡ first_of bytes k → Stored bytes g p
    unfolding Stored node_first
    until_first t g h s e = rw (e ∙ s.0.first) s.1

    pub and_second : (g h : Formula) → Stored bytes (and g h) k → p ≡ second_of bytes k → Stored bytes h p
    unfolding Stored node_second
    and_second g h s e = rw (e ∙ s.0.second) s.2

    pub or_second : (g h : Formula) → Stored bytes (or g h) k → p ≡ second_of bytes k → Stored bytes h p
    unfolding Stored node_second
    or_second g h s e = rw (e ∙ s.0.second) s.2

    pub until_second : (t : Tick) (g h : Formula) → Stored bytes (until t g h) k → p ≡ second_of bytes k → Stored bytes h p
    unfolding Stored node_second
    until_second t g h s e = rw (e ∙ s.0.second) s.2

    pub next_part : (c : Comparison) (t : Tick) (g : Formula) → Stored bytes (next c t g) k → p ≡ second_of bytes k → Stored bytes g p
    unfolding Stored node_second
    next_part c t g s e = rw (e ∙ s.0.second) s.1

    pub always_part : (t : Tick) (g : Formula) → Stored bytes (always_for t g) k → p ≡ second_of bytes k → Stored bytes g p
    unfolding Stored node_second
    always_part t g s e = rw (e ∙ s.0.second) s.1

-- What is stored is a node.
pub is_node : (bytes : List ℕ) (k : ℕ) (f : Formula) → Stored bytes f k → IsNode bytes k
is_node bytes k f s = record { room = (stored_is bytes k f s).room; formula = f; stored = s }

-- A part of a node, by its number: a node too, and a lower one.
abbrev pub Part : List ℕ → ℕ → ℕ → Type 0
Part bytes k p = IsNode bytes p × (p < k)

module _ (bytes : List ℕ) (k p code : ℕ) where
  first_part_of : p ≡ first_of bytes k → code ≡ code_of bytes k → 3 < code → code < 7 → IsNode bytes k → Part bytes k p
  unfolding Stored node_first
  first_part_of e same low high node =
      by_kind bytes k (λ _. Part bytes k p) node.formula node.stored (λ b s lo. absurd (omega arith)) (λ a b s lo up. absurd (omega arith))
      (λ g h s _. (is_node bytes p g (and_first bytes k p g h s e), omega (arith, s.0.first, s.3)))
      (λ g h s _ _. (is_node bytes p g (or_first bytes k p g h s e), omega (arith, s.0.first, s.3)))
      (λ a b c s lo up. absurd (omega arith)) (λ a b s at. absurd (omega arith)) (λ a b c s at. absurd (omega arith))

  until_part_of : p ≡ first_of bytes k → code ≡ code_of bytes k → code ≡ 12 → IsNode bytes k → Part bytes k p
  unfolding Stored node_first
  until_part_of e same twelve node =
      by_until bytes k (λ _. Part bytes k p) node.formula node.stored (omega arith)
      (λ t g h s. (is_node bytes p g (until_first bytes k p t g h s e), omega (arith, s.0.first, s.3)))

  second_part_of : p ≡ second_of bytes k → code ≡ code_of bytes k → 3 < code → IsNode bytes k → Part bytes k p
  unfolding Stored node_second
  second_part_of e same low node =
      by_kind bytes k (λ _. Part bytes k p) node.formula node.stored (λ b s lo. absurd (omega arith)) (λ a b s lo up. absurd (omega arith))
      (λ g h s _. (is_node bytes p h (and_second bytes k p g h s e), omega (arith, s.0.second, s.4)))
      (λ g h s _ _. (is_node bytes p h (or_second bytes k p g h s e), omega (arith, s.0.second, s.4)))
      (λ c t g s _ _. (is_node bytes p g (next_part bytes k p c t g s e), omega (arith, s.0.second, s.2)))
      (λ t g s _. (is_node bytes p g (always_part bytes k p t g s e), omega (arith, s.0.second, s.2)))
      (λ t g h s _. (is_node bytes p h (until_second bytes k p t g h s e), omega (arith, s.0.second, s.4)))

  -- A node of two parts has a first one, a lower node;
  pub first_node : p ≡ first_of bytes k → code ≡ code_of bytes k → 3 < code → code < 7 → IsNode bytes k → IsNode bytes p
  first_node e same low high node = (first_part_of e same low high node).0

  pub first_below : p ≡ first_of bytes k → code ≡ code_of bytes k → 3 < code → code < 7 → IsNode bytes k → (t : ℕ) → k ≡ t
      → (p < t) × IsNode bytes p
  first_below e same low high node t is = (omega (arith, (first_part_of e same low high node).1), first_node e same low high node)

  pub until_node : p ≡ first_of bytes k → code ≡ code_of bytes k → code ≡ 12 → IsNode bytes k → IsNode bytes p
  until_node e same twelve node = (until_part_of e same twelve node).0

  pub until_below : p ≡ first_of bytes k → code ≡ code_of bytes k → code ≡ 12 → IsNode bytes k → (t : ℕ) → k ≡ t → (p < t) × IsNode bytes p
  until_below e same twelve node t is = (omega (arith, (until_part_of e same twelve node).1), until_node e same twelve node)

  -- and whichever has parts has a second or only one.
  pub second_node : p ≡ second_of bytes k → code ≡ code_of bytes k → 3 < code → IsNode bytes k → IsNode bytes p
  second_node e same low node = (second_part_of e same low node).0

  pub second_below : p ≡ second_of bytes k → code ≡ code_of bytes k → 3 < code → IsNode bytes k → (t : ℕ) → k ≡ t → (p < t) × IsNode bytes p
  second_below e same low node t is = (omega (arith, (second_part_of e same low node).1), second_node e same low node)

-- A leaf's code is one of the first four.
pub leaf_low : (bytes : List ℕ) (k code : ℕ) → code ≡ code_of bytes k → code_of bytes k ≤ 3 → code ≤ 3
leaf_low bytes k code same low = omega arith

-- A mark is one that a tower may have.
pub mark_low : (bytes : List ℕ) (k code m : ℕ) → IsNode bytes k → code ≡ code_of bytes k → code ≤ 3 → m ≡ number_of bytes k → m < 16
mark_low bytes k code m node same low e =
    let is = stored_is bytes k node.formula node.stored in
    let low' : node_code node.formula ≤ 3 = omega (arith, is.code) in
    omega (arith, is.number, is.mark low')

-- A number is at most 254.
pub number_low : (bytes : List ℕ) (k : ℕ) → IsNode bytes k → number_of bytes k ≤ 254
number_low bytes k node = let is = stored_is bytes k node.formula node.stored in omega (arith, is.number, is.bound)

-- the ticks that a new node starts with, by its code
pub fresh_none : (bytes : List ℕ) (k code : ℕ) → code ≡ code_of bytes k → code < 7 → ticks 0 ≡ ticks (fresh_of bytes k)
unfolding fresh_of
fresh_none bytes k code e l = let low : code_of bytes k < 7 = omega arith in rw (lt-ltb (code_of bytes k) 7 low)

pub fresh_bound : (bytes : List ℕ) (k code n : ℕ) → code ≡ code_of bytes k → 7 ≤ code → n ≡ number_of bytes k → ticks n ≡ ticks (fresh_of bytes k)
unfolding fresh_of
fresh_bound bytes k code n e l d = let high : 7 ≤ code_of bytes k = omega arith in rw (le-ltb (code_of bytes k) 7 high, d)

pub fresh_low : (bytes : List ℕ) (k : ℕ) → IsNode bytes k → fresh_of bytes k ≤ 254
unfolding fresh_of
fresh_low bytes k node = go (ltb (code_of bytes k) 7) refl
  where
    go : (b : Bool) → ltb (code_of bytes k) 7 ≡ b → fresh_of bytes k ≤ 254
    go true e = rw e (omega arith)
    go false e = rw e (number_low bytes k node)

-- They are those of the formula.
pub fresh_is : (bytes : List ℕ) (k : ℕ) (f : Formula) → Stored bytes f k → ticks (fresh_of bytes k) ≡ fresh f
unfolding fresh node_number Stored
fresh_is bytes k f stored =
    by_kind bytes k (λ f. ticks (fresh_of bytes k) ≡ fresh f) f stored
    (λ b s l. sym (fresh_none bytes k (code_of bytes k) refl (omega arith)))
    (λ w m s l u. sym (fresh_none bytes k (code_of bytes k) refl (omega arith)))
    (λ g h s e. sym (fresh_none bytes k (code_of bytes k) refl (omega arith)))
    (λ g h s l u. sym (fresh_none bytes k (code_of bytes k) refl (omega arith)))
    (λ c t g s l u. sym (fresh_bound bytes k (code_of bytes k) t.0 refl (omega arith) (sym s.0.number)))
    (λ t g s e. sym (fresh_bound bytes k (code_of bytes k) t.0 refl (omega arith) (sym s.0.number)))
    (λ t g h s e. sym (fresh_bound bytes k (code_of bytes k) t.0 refl (omega arith) (sym s.0.number)))
