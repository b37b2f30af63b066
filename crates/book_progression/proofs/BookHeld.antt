-- A book that an area holds: every node is stored, and every line is the rule that it stands for.
use Prim.Native.Nat.{ℕ, zero, suc, ◌+◌, ◌*◌, ◌≤◌, ◌<◌}
use native.Mathlib.Omega.{arith}
use mathlib.Core.Path.{◌≡◌, refl, sym, ◌∙◌, ap, ap₂}
use mathlib.Core.Bool.{false, ◌||◌}
use mathlib.Core.Logic.{◌⊎◌, inl, inr}
use mathlib.Core.List.Memᴰ
use mathlib.Core.List.{List, [], ◌∷◌, ◌++◌, append-nil, Memᴰ}
use lib.ListN.{length, get_or, take, drop, length-append, length-take, length-drop, get_or-append}
use lib.Seq.{get_or-take, get_or-drop, get_or-append-add}
use lib.Dec.{ltb}
use borrow.Author.Tests.{ltb-false, leb-false}
use Rattle.base.specs.Lists.{joined}
use Rattle.base.proofs.Lists.{or_fails_left, or_fails_right, mem_get_or}
use Rattle.logic.specs.Tower.{most_marks}
use Rattle.logic.specs.Book.{Formula, constant, proposition, and, or, next, always_for, until, parts, size, nodes, root, first_part, second_part, at_start, Rule, Book}
use Rattle.pending.proofs.Nodes.{Stand, stand_left, stand_right, Sits, sits_within, sits_node, sits_first, sits_second, sits_only, sits_root, AllSit, TimedRight, fit_sits}
use Rattle.reading.specs.BookArea.{node_code, node_number, node_first, node_second, node_bytes, nodes_bytes, line_bytes, lines_bytes, nodes_in, lines_in}
use Rattle.reading.specs.BookReading.{over_number, over_mark, most_ticks}
use Rattle.book_progression.specs.NodeBytes.{NodeIs, Stored, HeldBook, IsHeld}
use Rattle.book_progression.specs.Promises.{AreNodes, HasNodes, LineIs, IsLine}
use Rattle.book_progression.proofs.Nodes.{comparison_low, is_node}

-- ---- the bytes of the nodes

nodes_length : (k : ℕ) (fs : List Formula) → length (nodes_bytes k fs) ≡ 4 * length fs
unfolding nodes_bytes node_bytes
nodes_length k [] = refl
nodes_length k (f ∷ fs) = omega (arith, nodes_length (suc k) fs)

-- byte j of node i
nodes_at : (fs : List Formula) (k i j n m : ℕ) → i < length fs → j < 4 → n ≡ 4 * i + j → m ≡ k + i
    → get_or (nodes_bytes k fs) n 0 ≡ get_or (node_bytes m (get_or fs i (constant false))) j 0
unfolding nodes_bytes node_bytes
nodes_at [] k i j n m low byte e at = absurd (omega arith)
nodes_at (f ∷ fs) k zero j n m low byte e at =
    let here : n ≡ j = omega arith in
    let same : m ≡ k = omega arith in
    ap (λ x. get_or (nodes_bytes k (f ∷ fs)) x 0) here ∙ get_or-append (node_bytes k f) (nodes_bytes (suc k) fs) 0 j byte
    ∙ ap (λ x. get_or (node_bytes x f) j 0) (sym same)
nodes_at (f ∷ fs) k (suc i) j n m low byte e at =
    let on : n ≡ 4 + (4 * i + j) = omega arith in
    ap (λ x. get_or (nodes_bytes k (f ∷ fs)) x 0) on ∙ get_or-append-add (node_bytes k f) (nodes_bytes (suc k) fs) (4 * i + j) 0
    ∙ nodes_at fs (suc k) i j (4 * i + j) m (omega arith) byte refl (omega arith)

-- ---- limits

-- Numbers and marks of a formula are low enough.
pub record Low (f : Formula) : Type 0 where
  pub numbers : over_number f ≡ false
  pub marks : over_mark most_marks f ≡ false

-- the parts of a low formula are low
both_low : (f g : Formula) → (over_number f || over_number g) ≡ false → (over_mark most_marks f || over_mark most_marks g) ≡ false → Low f × Low g
both_low f g n m = (
  record { numbers = or_fails_left (over_number f) (over_number g) n; marks = or_fails_left (over_mark most_marks f) (over_mark most_marks g) m },
  record { numbers = or_fails_right (over_number f) (over_number g) n; marks = or_fails_right (over_mark most_marks f) (over_mark most_marks g) m },
)

module _ (h : Formula) where
  abbrev LowParts : List Formula → Type 0
  LowParts fs = Memᴰ h fs → Low h

  one_low : (f : Formula) → Low f → LowParts (f ∷ [])
  one_low f low m = rw (Memᴰ.eq_of_singleton m) low

  join_low : (xs ys : List Formula) → LowParts xs → LowParts ys → LowParts (xs ++ ys)
  join_low xs ys left right m = go (Memᴰ.append_cases xs m)
    where
      go : Memᴰ h xs ⊎ Memᴰ h ys → Low h
      go (inl n) = left n
      go (inr n) = right n

  two_low : (f g : Formula) (w : Formula) → Low w → LowParts (parts f) → LowParts (parts g) → LowParts (parts f ++ (parts g ++ (w ∷ [])))
  two_low f g w low left right = join_low (parts f) (parts g ++ (w ∷ [])) left (join_low (parts g) (w ∷ []) right (one_low w low))

  parts_low : (f : Formula) → Low f → LowParts (parts f)
  unfolding parts over_number over_mark
  parts_low (constant b) low = one_low (constant b) low
  parts_low (proposition w k) low = one_low (proposition w k) low
  parts_low (and f g) low = let (l, r) = both_low f g low.numbers low.marks in two_low f g (and f g) low (parts_low f l) (parts_low g r)
  parts_low (or f g) low = let (l, r) = both_low f g low.numbers low.marks in two_low f g (or f g) low (parts_low f l) (parts_low g r)
  parts_low (next c t g) low =
      join_low (parts g) (next c t g ∷ [])
      (parts_low g (record { numbers = or_fails_right (ltb most_ticks t.0) (over_number g) low.numbers; marks = low.marks })) (one_low (next c t g) low)
  parts_low (always_for t g) low =
      join_low (parts g) (always_for t g ∷ [])
      (parts_low g (record { numbers = or_fails_right (ltb most_ticks t.0) (over_number g) low.numbers; marks = low.marks })) (one_low (always_for t g) low)
  parts_low (until t f g) low =
      let (l, r) = both_low f g (or_fails_right (ltb most_ticks t.0) (over_number f || over_number g) low.numbers) low.marks in
      two_low f g (until t f g) low (parts_low f l) (parts_low g r)

  nodes_low : (book : Book) → ((rule : Rule) → Memᴰ rule book → Low rule.formula) → LowParts (nodes book)
  unfolding nodes joined
  nodes_low [] low m = absurd (Memᴰ.not-nil m)
  nodes_low (rule ∷ rules) low m =
      join_low (parts rule.formula) (nodes rules) (parts_low rule.formula (low rule (Memᴰ.head refl)))
      (nodes_low rules (λ other n. low other (Memᴰ.tail n))) m

-- a bound is at most 254, and a mark is below 16
low_number : (f : Formula) → Low f → node_number f ≤ 254
unfolding node_number over_number over_mark most_ticks most_marks
low_number (constant b) low = omega arith
low_number (proposition w k) low = omega (arith, leb-false 16 k low.marks)
low_number (and f g) low = omega arith
low_number (or f g) low = omega arith
low_number (next c t g) low = ltb-false 254 t.0 (or_fails_left (ltb 254 t.0) (over_number g) low.numbers)
low_number (always_for t g) low = ltb-false 254 t.0 (or_fails_left (ltb 254 t.0) (over_number g) low.numbers)
low_number (until t f g) low = ltb-false 254 t.0 (or_fails_left (ltb 254 t.0) (over_number f || over_number g) low.numbers)

low_mark : (f : Formula) → Low f → node_code f ≤ 3 → node_number f < 16
unfolding node_code node_number over_number over_mark most_marks
low_mark (constant b) low few = omega arith
low_mark (proposition w k) low few = leb-false 16 k low.marks
low_mark (and f g) low few = omega arith
low_mark (or f g) low few = omega arith
low_mark (next c t g) low few = absurd (omega (arith, comparison_low c))
low_mark (always_for t g) low few = absurd (omega arith)
low_mark (until t f g) low few = absurd (omega arith)

-- ---- every node is stored

-- a formula has a node
some_parts : (f : Formula) → 0 < length (parts f)
unfolding parts
some_parts (constant b) = omega arith
some_parts (proposition w k) = omega arith
some_parts (and f g) = omega (arith, length-append (parts f) (parts g ++ (and f g ∷ [])), some_parts f)
some_parts (or f g) = omega (arith, length-append (parts f) (parts g ++ (or f g ∷ [])), some_parts f)
some_parts (next c t g) = omega (arith, length-append (parts g) (next c t g ∷ []), some_parts g)
some_parts (always_for t g) = omega (arith, length-append (parts g) (always_for t g ∷ []), some_parts g)
some_parts (until t f g) = omega (arith, length-append (parts f) (parts g ++ (until t f g ∷ [])), some_parts f)

-- what has a part before it is not the first node
not_first : (all : List Formula) (h : Formula) (k : ℕ) → Sits all h k → 1 < size h → 0 < k
not_first all h k s more = omega (arith, s.last)

two_more : (f g h : Formula) → parts h ≡ parts f ++ (parts g ++ (h ∷ [])) → 1 < size h
unfolding size
two_more f g h e = omega (arith, ap length e, length-append (parts f) (parts g ++ (h ∷ [])), length-append (parts g) (h ∷ []), some_parts f)

one_more : (g h : Formula) → parts h ≡ parts g ++ (h ∷ []) → 1 < size h
unfolding size
one_more g h e = omega (arith, ap length e, length-append (parts g) (h ∷ []), some_parts g)

module _ (bytes : List ℕ) (all : List Formula) (part : take (4 * length all) bytes ≡ nodes_bytes 0 all) where
  nodes_room : 4 * length all ≤ length bytes
  nodes_room = omega (arith, sym (length-take (4 * length all) bytes) ∙ ap length part ∙ nodes_length 0 all)

  byte_of : (i j n : ℕ) → i < length all → j < 4 → n ≡ 4 * i + j → get_or bytes n 0 ≡ get_or (node_bytes i (get_or all i (constant false))) j 0
  byte_of i j n low byte e =
      let inside : n < 4 * length all = omega arith in
      sym (get_or-take (4 * length all) bytes n 0 inside) ∙ ap (λ l. get_or l n 0) part ∙ nodes_at all 0 i j n i low byte e (omega arith)

  node_of : (f : Formula) (k : ℕ) → Sits all f k → Low f → NodeIs bytes k f
  unfolding node_bytes
  node_of f k s low =
      let within : k < length all = sits_within all f k s in
      record {
        room = omega (arith, nodes_room);
        code = byte_of k 0 (4 * k) within (omega arith) (omega arith) ∙ ap node_code (sits_node all f k s);
        number = byte_of k 1 (4 * k + 1) within (omega arith) refl ∙ ap node_number (sits_node all f k s);
        first = byte_of k 2 (4 * k + 2) within (omega arith) refl ∙ ap (node_first k) (sits_node all f k s);
        second = byte_of k 3 (4 * k + 3) within (omega arith) refl ∙ ap (node_second k) (sits_node all f k s);
        bound = low_number f low;
        mark = low_mark f low;
      }

  -- A formula that sits at k is stored there.
  pub stored_at : (f : Formula) (k : ℕ) → Sits all f k → Low f → Stored bytes f k
  unfolding Stored over_number over_mark first_part second_part parts
  stored_at (constant b) k s low = node_of (constant b) k s low
  stored_at (proposition w m) k s low = node_of (proposition w m) k s low
  stored_at (and f g) k s low =
      let (l, r) = both_low f g low.numbers low.marks in
      let some : 0 < k = not_first all (and f g) k s (two_more f g (and f g) refl) in (
        node_of (and f g) k s low,
        stored_at f (first_part k g) (sits_first all (and f g) k s f g refl) l,
        stored_at g (second_part k) (sits_second all (and f g) k s f g refl) r,
        omega arith,
        omega arith,
      )
  stored_at (or f g) k s low =
      let (l, r) = both_low f g low.numbers low.marks in
      let some : 0 < k = not_first all (or f g) k s (two_more f g (or f g) refl) in (
        node_of (or f g) k s low,
        stored_at f (first_part k g) (sits_first all (or f g) k s f g refl) l,
        stored_at g (second_part k) (sits_second all (or f g) k s f g refl) r,
        omega arith,
        omega arith,
      )
  stored_at (next c t g) k s low =
      let some : 0 < k = not_first all (next c t g) k s (one_more g (next c t g) refl) in (
        node_of (next c t g) k s low,
        stored_at g (second_part k) (sits_only all (next c t g) k s g refl)
            (record { numbers = or_fails_right (ltb most_ticks t.0) (over_number g) low.numbers; marks = low.marks }),
        omega arith,
      )
  stored_at (always_for t g) k s low =
      let some : 0 < k = not_first all (always_for t g) k s (one_more g (always_for t g) refl) in (
        node_of (always_for t g) k s low,
        stored_at g (second_part k) (sits_only all (always_for t g) k s g refl)
            (record { numbers = or_fails_right (ltb most_ticks t.0) (over_number g) low.numbers; marks = low.marks }),
        omega arith,
      )
  stored_at (until t f g) k s low =
      let (l, r) = both_low f g (or_fails_right (ltb most_ticks t.0) (over_number f || over_number g) low.numbers) low.marks in
      let some : 0 < k = not_first all (until t f g) k s (two_more f g (until t f g) refl) in (
        node_of (until t f g) k s low,
        stored_at f (first_part k g) (sits_first all (until t f g) k s f g refl) l,
        stored_at g (second_part k) (sits_second all (until t f g) k s f g refl) r,
        omega arith,
        omega arith,
      )

-- a node that is one of many that sit
pub sits_at : (all fs : List Formula) (k i n : ℕ) → AllSit TimedRight all fs k → i < length fs → n ≡ k + i → Sits all (get_or fs i (constant false)) n
sits_at all [] k i n sit low e = absurd (omega arith)
sits_at all (f ∷ fs) k zero n sit low e = let same : n ≡ k = omega arith in rw same sit.0.0
sits_at all (f ∷ fs) k (suc i) n sit low e = sits_at all fs (suc k) i n sit.1 (omega arith) (omega arith)

module _ (bytes : List ℕ) (book : Book) (held : HeldBook bytes book) where
  rules_low : (rule : Rule) → Memᴰ rule book → Low rule.formula
  rules_low rule m = record { numbers = held.numbers rule m; marks = held.marks rule m }

  -- The book's nodes are those that the bytes hold.
  pub held_nodes : (count : ℕ) → count ≡ nodes_in bytes → AreNodes bytes count (nodes book)
  held_nodes count all =
      record {
        all = sym (all ∙ held.holds.node_count);
        stored = λ k low. let within : k < length (nodes book) = omega (arith, all ∙ held.holds.node_count) in
            stored_at bytes (nodes book) held.holds.node_part (get_or (nodes book) k (constant false)) k
            (sits_at (nodes book) (nodes book) 0 k k (fit_sits book held.fit) within (omega arith))
            (nodes_low (get_or (nodes book) k (constant false)) book rules_low (mem_get_or (nodes book) k (constant false) within));
      }

-- The bytes hold so many nodes.
pub has_nodes : (bytes : List ℕ) (count : ℕ) → count ≡ nodes_in bytes → IsHeld bytes → HasNodes bytes count
has_nodes bytes count all is =
    record {
      nodes = λ k low. is_node bytes k (get_or (nodes is.book) k (constant false)) ((held_nodes bytes is.book is.held count all).stored k low);
    }

-- ---- every line is its rule

-- the rule of line i, and the number of the first of its nodes
unfoldable pub rule_at : Book → ℕ → Rule
rule_at book i = get_or book i (record { form = at_start; formula = constant false })

unfoldable pub nodes_before : Book → ℕ → ℕ
nodes_before book zero = 0
nodes_before [] (suc i) = 0
nodes_before (rule ∷ rules) (suc i) = size rule.formula + nodes_before rules i

-- The next line's nodes begin behind those of this one.
pub nodes_before_next : (book : Book) (i : ℕ) → i < length book → nodes_before book (suc i) ≡ nodes_before book i + size (rule_at book i).formula
unfolding nodes_before rule_at
nodes_before_next [] i low = absurd (omega arith)
nodes_before_next (rule ∷ rules) zero low = omega arith
nodes_before_next (rule ∷ rules) (suc i) low = omega (arith, nodes_before_next rules i (omega arith))

lines_length : (k n : ℕ) (book : Book) → length (lines_bytes k n book) ≡ 4 * length book
unfolding lines_bytes line_bytes
lines_length k n [] = refl
lines_length k n (rule ∷ rules) = omega (arith, lines_length (suc k) (n + size rule.formula) rules)

-- byte j of line i
lines_byte : (book : Book) (k n i j m t s : ℕ) → i < length book → j < 4 → m ≡ 4 * i + j → t ≡ k + i → s ≡ n + nodes_before book i
    → get_or (lines_bytes k n book) m 0 ≡ get_or (line_bytes t s (rule_at book i)) j 0
unfolding lines_bytes line_bytes rule_at nodes_before
lines_byte [] k n i j m t s low byte e at begins = absurd (omega arith)
lines_byte (rule ∷ rules) k n zero j m t s low byte e at begins =
    let here : m ≡ j = omega arith in
    let same : k ≡ t = omega arith in
    let first : n ≡ s = omega arith in
    ap (λ x. get_or (lines_bytes k n (rule ∷ rules)) x 0) here
    ∙ get_or-append (line_bytes k n rule) (lines_bytes (suc k) (n + size rule.formula) rules) 0 j byte
    ∙ ap₂ (λ x y. get_or (line_bytes x y rule) j 0) same first
lines_byte (rule ∷ rules) k n (suc i) j m t s low byte e at begins =
    let on : m ≡ 4 + (4 * i + j) = omega arith in
    ap (λ x. get_or (lines_bytes k n (rule ∷ rules)) x 0) on
    ∙ get_or-append-add (line_bytes k n rule) (lines_bytes (suc k) (n + size rule.formula) rules) (4 * i + j) 0
    ∙ lines_byte rules (suc k) (n + size rule.formula) i j (4 * i + j) t s (omega arith) byte refl (omega arith) (omega arith)

rule_stands : (all : List Formula) (rules : Book) (n i m : ℕ) → Stand all n (nodes rules) → i < length rules → m ≡ n + nodes_before rules i
    → Stand all m (parts (rule_at rules i).formula)
unfolding nodes joined rule_at nodes_before size
rule_stands all [] n i m s low e = absurd (omega arith)
rule_stands all (rule ∷ rules) n zero m s low e =
    let same : m ≡ n = omega arith in
    rw same (stand_left all n (parts rule.formula) (nodes rules) s)
rule_stands all (rule ∷ rules) n (suc i) m s low e =
    rule_stands all rules (n + length (parts rule.formula)) i m (stand_right all n (parts rule.formula) (nodes rules) s) (omega arith) (omega arith)

module _ (bytes : List ℕ) (book : Book) (held : HeldBook bytes book) where
  line_byte : (i j m n : ℕ) → i < length book → j < 4 → m ≡ 4 * i + j → n ≡ 240 + m
      → get_or bytes n 0 ≡ get_or (line_bytes i (nodes_before book i) (rule_at book i)) j 0
  line_byte i j m n low byte at e =
      ap (λ x. get_or bytes x 0) e ∙ sym (get_or-drop 240 bytes m 0) ∙ sym (get_or-take (4 * length book) (drop 240 bytes) m 0 (omega arith))
      ∙ ap (λ l. get_or l m 0) held.holds.line_part
      ∙ lines_byte book 0 0 i j m i (nodes_before book i) low byte at (omega arith) (omega arith)

  -- Line i is the book's rule i.
  pub held_line : (i : ℕ) → i < lines_in bytes → LineIs bytes i (rule_at book i) (nodes_before book i)
  unfolding rule_at line_bytes
  held_line i low =
      let within : i < length book = omega (arith, held.holds.line_count) in
      let sits = sits_root (nodes book) (rule_at book i).formula (nodes_before book i)
      (rule_stands (nodes book) book 0 i (nodes_before book i) (record { behind = []; here = sym (append-nil (nodes book)) }) within (omega arith)) in
      record {
        room = omega (arith, sym (length-take (4 * length book) (drop 240 bytes)) ∙ ap length held.holds.line_part ∙ lines_length 0 0 book, length-drop 240 bytes);
        form = line_byte i 0 (4 * i) (240 + 4 * i) within (omega arith) (omega arith) refl;
        place = line_byte i 1 (4 * i + 1) (240 + 4 * i + 1) within (omega arith) refl (omega arith);
        low = omega (arith, held.holds.node_count, sits_within (nodes book) (rule_at book i).formula (root (nodes_before book i) (rule_at book i).formula) sits);
        stored = stored_at bytes (nodes book) held.holds.node_part (rule_at book i).formula
            (root (nodes_before book i) (rule_at book i).formula) sits
            (rules_low bytes book held (rule_at book i) (mem_get_or book i (record { form = at_start; formula = constant false }) within));
      }

-- Every line is some rule.
pub is_line : (bytes : List ℕ) (i lines : ℕ) → lines ≡ lines_in bytes → IsHeld bytes → i < lines → IsLine bytes i
is_line bytes i lines all held low =
    let line = held_line bytes held.book held.held i (omega arith) in
    record { rule = rule_at held.book i; first = nodes_before held.book i; room = line.room; is = line }
