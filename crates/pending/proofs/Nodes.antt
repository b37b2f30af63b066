-- Where the nodes of a formula stand among the nodes of a book: the parts of node k are the nodes that `first_part` and `second_part` say.
use Prim.Native.Nat.{ℕ, suc, ◌+◌, ◌<◌}
use native.Mathlib.Omega.{arith}
use native.Mathlib.Nat.{add-zero}
use mathlib.Core.Path.{◌≡◌, refl, sym, ◌∙◌, ap}
use mathlib.Core.Bool.{true, false, ◌&&◌, not, and-eq-true_iff}
use mathlib.Core.List.{List, [], ◌∷◌, ◌++◌, append_assoc, append-nil, Memᴰ}
use lib.ListN.{length, get_or, drop, length-append, length-drop}
use lib.Seq.{drop-drop, drop-append_seam, get_or-drop}
use Rattle.base.specs.Lists.{joined}
use Rattle.pending.specs.Pending.{root}
use Rattle.logic.specs.Book.{Comparison, Formula, constant, proposition, and, or, next, always_for, until, parts, size, nodes, first_part, second_part, Rule, Book, timed, timed_right, FitBook}
use Rattle.logic.specs.declared.Tick.{Tick}

-- The formulas fs stand in a row among all the nodes, the first with number n.
pub record Stand (all : List Formula) (n : ℕ) (fs : List Formula) : Type 0 where
  pub behind : List Formula
  pub here : drop n all ≡ fs ++ behind

-- A row in two parts has each of them.
pub stand_left : (all : List Formula) (n : ℕ) (xs ys : List Formula) → Stand all n (xs ++ ys) → Stand all n xs
stand_left all n xs ys s = record { behind = ys ++ s.behind; here = s.here ∙ append_assoc xs ys s.behind }

pub stand_right : (all : List Formula) (n : ℕ) (xs ys : List Formula) → Stand all n (xs ++ ys) → Stand all (n + length xs) ys
stand_right all n xs ys s =
    record {
      behind = s.behind;
      here = sym (drop-drop (length xs) n all) ∙ ap (drop (length xs)) (s.here ∙ append_assoc xs ys s.behind)
          ∙ drop-append_seam xs (ys ++ s.behind);
    }

-- The nodes of f stand in a row, and the last of them, f itself, is node k.
pub record Sits (all : List Formula) (f : Formula) (k : ℕ) : Type 0 where
  pub first : ℕ
  pub row : Stand all first (parts f)
  pub last : suc k ≡ first + size f

-- every formula is the last of its nodes
front : (f : Formula) → (before : List Formula) × (parts f ≡ before ++ (f ∷ []))
unfolding parts
front (constant b) = ([], refl)
front (proposition w k) = ([], refl)
front (and f g) = (parts f ++ parts g, sym (append_assoc (parts f) (parts g) _))
front (or f g) = (parts f ++ parts g, sym (append_assoc (parts f) (parts g) _))
front (next c t g) = (parts g, refl)
front (always_for t g) = (parts g, refl)
front (until t f g) = (parts f ++ parts g, sym (append_assoc (parts f) (parts g) _))

-- a formula has a node
size_pos : (f : Formula) → 0 < size f
unfolding size
size_pos f = let (before, e) = front f in omega (arith, ap length e, length-append before (f ∷ []))

-- the nodes of a formula of two parts
pub two_size : (h f g : Formula) → parts h ≡ parts f ++ (parts g ++ (h ∷ [])) → size h ≡ size f + size g + 1
unfolding size
two_size h f g e = omega (arith, ap length e, length-append (parts f) (parts g ++ (h ∷ [])), length-append (parts g) (h ∷ []))

-- one formula in a row of one
stand_one : (all : List Formula) (k : ℕ) (f : Formula) → Stand all k (f ∷ []) → (k < length all) × (get_or all k (constant false) ≡ f)
stand_one all k f s = (
  omega (arith, sym (length-drop k all) ∙ ap length s.here),
  ap (λ n. get_or all n (constant false)) (sym (add-zero k)) ∙ sym (get_or-drop k all 0 (constant false))
      ∙ ap (λ l. get_or l 0 (constant false)) s.here,
)

-- the formula itself stands as node k
sits_one : (all : List Formula) (f : Formula) (k : ℕ) → Sits all f k → Stand all k (f ∷ [])
unfolding size
sits_one all f k s = go (front f).0 (front f).1
  where
    go : (before : List Formula) → parts f ≡ before ++ (f ∷ []) → Stand all k (f ∷ [])
    go before e =
        let same : s.first + length before ≡ k = omega (arith, s.last, ap length e, length-append before (f ∷ [])) in
        rw same at (stand_right all s.first before (f ∷ []) (rw e at s.row))

-- A node that sits is one of the nodes.
pub sits_within : (all : List Formula) (f : Formula) (k : ℕ) → Sits all f k → k < length all
sits_within all f k s = (stand_one all k f (sits_one all f k s)).0

-- It is the formula itself.
pub sits_node : (all : List Formula) (f : Formula) (k : ℕ) → Sits all f k → get_or all k (constant false) ≡ f
sits_node all f k s = (stand_one all k f (sits_one all f k s)).1

module _ (all : List Formula) (h : Formula) (k : ℕ) (s : Sits all h k) where
  -- The first part of a formula of two sits where `first_part` says.
  pub sits_first : (f g : Formula) → parts h ≡ parts f ++ (parts g ++ (h ∷ [])) → Sits all f (first_part k g)
  unfolding first_part size
  sits_first f g e =
      record {
        first = s.first;
        row = stand_left all s.first (parts f) (parts g ++ (h ∷ [])) (rw e at s.row);
        last = omega (arith, s.last, two_size h f g e, size_pos f);
      }

  -- The second sits where `second_part` says.
  pub sits_second : (f g : Formula) → parts h ≡ parts f ++ (parts g ++ (h ∷ [])) → Sits all g (second_part k)
  unfolding second_part size
  sits_second f g e =
      record {
        first = s.first + size f;
        row = stand_left all (s.first + size f) (parts g) (h ∷ [])
            (stand_right all s.first (parts f) (parts g ++ (h ∷ [])) (rw e at s.row));
        last = omega (arith, s.last, two_size h f g e, size_pos g);
      }

  -- The one part of a formula of one sits there too.
  pub sits_only : (g : Formula) → parts h ≡ parts g ++ (h ∷ []) → Sits all g (second_part k)
  unfolding second_part size
  sits_only g e =
      record {
        first = s.first;
        row = stand_left all s.first (parts g) (h ∷ []) (rw e at s.row);
        last = omega (arith, s.last, ap length e, length-append (parts g) (h ∷ []), size_pos g);
      }

-- A property of formulas that a formula has only if its parts have it.
pub record Inherited (Has : Formula → Type 0) : Type 0 where
  pub and_parts : (f g : Formula) → Has (and f g) → Has f × Has g
  pub or_parts : (f g : Formula) → Has (or f g) → Has f × Has g
  pub next_part : (c : Comparison) (t : Tick) (g : Formula) → Has (next c t g) → Has g
  pub always_part : (t : Tick) (g : Formula) → Has (always_for t g) → Has g
  pub until_parts : (t : Tick) (f g : Formula) → Has (until t f g) → Has f × Has g

-- Every formula of the row fs sits where it stands, the first as node k, and has the property.
abbrev pub AllSit : (Formula → Type 0) → List Formula → List Formula → ℕ → Type 0
AllSit Has all [] k = Unit {0}
AllSit Has all (f ∷ fs) k = (Sits all f k × Has f) × AllSit Has all fs (suc k)

-- A formula whose nodes stand from number n on sits at its root.
pub sits_root : (all : List Formula) (f : Formula) (n : ℕ) → Stand all n (parts f) → Sits all f (root n f)
unfolding root
sits_root all f n s = record { first = n; row = s; last = omega (arith, size_pos f) }

module _ (Has : Formula → Type 0) (all : List Formula) where
  -- one row behind another
  all_append : (xs ys : List Formula) (k n : ℕ) → n ≡ k + length xs → AllSit Has all xs k → AllSit Has all ys n → AllSit Has all (xs ++ ys) k
  all_append [] ys k n e left right = let same : n ≡ k = omega arith in rw same at right
  all_append (x ∷ xs) ys k n e left right = (left.0, all_append xs ys (suc k) n (omega arith) left.1 right)

  -- a formula of two parts, from those of its parts
  two_sit : (h f g : Formula) (n : ℕ) → parts h ≡ parts f ++ (parts g ++ (h ∷ [])) → Stand all n (parts h) → Has h
      → (Stand all n (parts f) → AllSit Has all (parts f) n) → ((k : ℕ) → Stand all k (parts g) → AllSit Has all (parts g) k)
      → AllSit Has all (parts h) n
  unfolding size
  two_sit h f g n e s has first second =
      rw e (all_append (parts f) (parts g ++ (h ∷ [])) n (n + size f) refl
      (first (stand_left all n (parts f) (parts g ++ (h ∷ [])) row))
      (all_append (parts g) (h ∷ []) (n + size f) (n + size f + size g) refl (second (n + size f)
      (stand_left all (n + size f) (parts g) (h ∷ []) (stand_right all n (parts f) (parts g ++ (h ∷ [])) row)))
      ((sits, has), tt)))
    where
      row : Stand all n (parts f ++ (parts g ++ (h ∷ [])))
      row = rw e at s

      sits : Sits all h (n + size f + size g)
      sits =
          record {
            first = n;
            row = s;
            last = omega (arith, two_size h f g e);
          }

  -- and of one part
  one_sits : (h g : Formula) (n : ℕ) → parts h ≡ parts g ++ (h ∷ []) → Stand all n (parts h) → Has h
      → (Stand all n (parts g) → AllSit Has all (parts g) n) → AllSit Has all (parts h) n
  unfolding size
  one_sits h g n e s has only =
      rw e (all_append (parts g) (h ∷ []) n (n + size g) refl (only (stand_left all n (parts g) (h ∷ []) (rw e at s)))
      ((record { first = n; row = s; last = omega (arith, ap length e, length-append (parts g) (h ∷ [])) }, has), tt))

  module _ (inherited : Inherited Has) where
    -- all nodes of a formula sit where they stand
    parts_sit : (f : Formula) (n : ℕ) → Stand all n (parts f) → Has f → AllSit Has all (parts f) n
    unfolding parts size
    parts_sit (constant b) n s has = ((record { first = n; row = s; last = omega arith }, has), tt)
    parts_sit (proposition w k) n s has = ((record { first = n; row = s; last = omega arith }, has), tt)
    parts_sit (and f g) n s has =
        let (left, right) = inherited.and_parts f g has in
        two_sit (and f g) f g n refl s has (λ row. parts_sit f n row left) (λ k row. parts_sit g k row right)
    parts_sit (or f g) n s has =
        let (left, right) = inherited.or_parts f g has in
        two_sit (or f g) f g n refl s has (λ row. parts_sit f n row left) (λ k row. parts_sit g k row right)
    parts_sit (next c t g) n s has =
        one_sits (next c t g) g n refl s has (λ row. parts_sit g n row (inherited.next_part c t g has))
    parts_sit (always_for t g) n s has =
        one_sits (always_for t g) g n refl s has (λ row. parts_sit g n row (inherited.always_part t g has))
    parts_sit (until t f g) n s has =
        let (left, right) = inherited.until_parts t f g has in
        two_sit (until t f g) f g n refl s has (λ row. parts_sit f n row left) (λ k row. parts_sit g k row right)

    -- all nodes of a book's rules sit where they stand
    rules_sit : (rules : Book) (n : ℕ) → Stand all n (nodes rules) → ((rule : Rule) → Memᴰ rule rules → Has rule.formula)
        → AllSit Has all (nodes rules) n
    unfolding nodes joined size
    rules_sit [] n s has = tt
    rules_sit (rule ∷ rules) n s has =
        all_append (parts rule.formula) (nodes rules) n (n + size rule.formula) refl
        (parts_sit rule.formula n (stand_left all n (parts rule.formula) (nodes rules) s) (has rule (Memᴰ.head refl)))
        (rules_sit rules (n + size rule.formula) (stand_right all n (parts rule.formula) (nodes rules) s)
        (λ other listed. has other (Memᴰ.tail listed)))

-- Every node of a book sits where it stands, and has what the book's formulas have.
pub book_sits : (Has : Formula → Type 0) → Inherited Has → (book : Book)
    → ((rule : Rule) → Memᴰ rule book → Has rule.formula) → AllSit Has (nodes book) (nodes book) 0
book_sits Has inherited book has =
    rules_sit Has (nodes book) inherited book 0 (record { behind = []; here = sym (append-nil (nodes book)) }) has

-- The formula has its timed formulas where they may be.
abbrev pub TimedRight : Formula → Type 0
TimedRight f = timed_right f ≡ true

pub timed_inherited : Inherited TimedRight
unfolding timed_right
timed_inherited =
    record {
      and_parts = λ f g h. (and-eq-true_iff (timed_right f) (timed_right g)).0 h;
      or_parts = λ f g h. (and-eq-true_iff (timed_right f) (timed_right g)).0 h;
      next_part = λ c t g h. h;
      always_part = λ t g h. h;
      until_parts = λ t f g h. (and-eq-true_iff (timed_right f) (timed_right g)).0
          ((and-eq-true_iff (not (timed g)) (timed_right f && timed_right g)).0 h).1;
    }

pub fit_sits : (book : Book) → FitBook book → AllSit TimedRight (nodes book) (nodes book) 0
unfolding FitBook
fit_sits book fit = book_sits TimedRight timed_inherited book fit
