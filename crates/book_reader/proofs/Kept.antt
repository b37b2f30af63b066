-- What the area keeps of the nodes and lines of a book, as they are put down one after the other.
use Prim.Native.Nat.{ℕ, zero, suc, ◌+◌, ◌-◌, ◌*◌, ◌%◌, ◌≤◌, ◌<◌}
use native.Mathlib.Omega.{arith}
use native.Mathlib.Numerals.{add-one}
use native.Mathlib.Nat.{add-zero, add-suc, zero-add}
use mathlib.Core.Path.{◌≡◌, refl, sym, ◌∙◌, ap, ap₂}
use mathlib.Core.Bool.{Bool, true, false}
use mathlib.Core.List.{List, [], ◌∷◌, ◌++◌, append_assoc, append-nil}
use lib.ListN.{length, take, drop, set, length-append, length-drop}
use lib.Seq.{sets, sets-eq, length-sets, take_at, take-nil, take-take, take-set-le, drop-set-lt, drop-set-add, length-take-le}
use lib.Dec.{ltb}
use borrow.Author.Tests.{lt-ltb, le-ltb, ltb-true, ltb-false}
use Rattle.base.specs.Lists.{joined}
use Rattle.logic.specs.Book.{Formula, parts, size, nodes, root, Form, Rule, Book}
use Rattle.reading.specs.BookArea.{lines_at, node_count_at, node_code, node_number, node_first, node_second, node_bytes, nodes_bytes, form_code, traits_code, line_bytes, lines_bytes, nodes_in, lines_in, HoldsBook}
use Rattle.reading.specs.BookReading.{most_nodes}
use Rattle.book_nodes.specs.State.{Nodes, put_bytes, put_one, put_all}
use Rattle.book_reader.specs.Lines.{Keeps}

-- ---- runs of stores

-- What is taken to the end of a run of stores.
take_sets_end : (vs l : List ℕ) (i : ℕ) → i + length vs ≤ length l → take (i + length vs) (sets l i vs) ≡ take i l ++ vs
take_sets_end vs l i le =
    ap (take (i + length vs)) (sets-eq vs l i le)
    ∙ take_at (take i l ++ vs) (drop (i + length vs) l) (i + length vs) (length-append (take i l) vs ∙ ap (λ (n : ℕ). n + length vs) (length-take-le i l (omega arith)))

take_sets_below : (vs l : List ℕ) (i n : ℕ) → n ≤ i → take n (sets l i vs) ≡ take n l
take_sets_below [] l i n le = refl
take_sets_below (v ∷ vs) l i n le = take_sets_below vs (set l i v) (suc i) n (omega arith) ∙ take-set-le n l i v le

drop_sets_above : (vs l : List ℕ) (i n : ℕ) → i + length vs ≤ n → drop n (sets l i vs) ≡ drop n l
drop_sets_above [] l i n le = refl
drop_sets_above (v ∷ vs) l i n le = drop_sets_above vs (set l i v) (suc i) n (omega arith) ∙ drop-set-lt n l i v (omega arith)

drop_sets_add : (vs l : List ℕ) (i n : ℕ) → drop n (sets l (n + i) vs) ≡ sets (drop n l) i vs
drop_sets_add [] l i n = refl
drop_sets_add (v ∷ vs) l i n =
    ap (λ (k : ℕ). drop n (sets (set l (n + i) v) k vs)) (sym (add-suc n i)) ∙ drop_sets_add vs (set l (n + i) v) (suc i) n
    ∙ ap (λ (m : List ℕ). sets m (suc i) vs) (drop-set-add n l i v)

-- What is taken behind a start within what is taken.
pub take_drop_take : (m k n : ℕ) (l : List ℕ) → k + m ≤ n → take m (drop k (take n l)) ≡ take m (drop k l)
take_drop_take m zero n l le = take-take m n l (omega arith)
take_drop_take m (suc k) n [] le = ap (λ (x : List ℕ). take m (drop (suc k) x)) (take-nil {A = ℕ} n)
take_drop_take m (suc k) zero (x ∷ l) le = absurd (omega arith)
take_drop_take m (suc k) (suc n) (x ∷ l) le = take_drop_take m k n l (omega arith)

-- ---- nodes

-- Every number of a node fits its byte.
unfoldable pub AllSmall : List Formula → Type 0
AllSmall [] = Unit {0}
AllSmall (f ∷ fs) = (node_number f < 256) × AllSmall fs

one_bytes : ℕ → Formula → List ℕ
one_bytes k f = node_code f ∷ node_number f % 256 ∷ node_first k f ∷ node_second k f ∷ []

four : (f : Formula) (k : ℕ) → length (one_bytes k f) ≡ 4
unfolding one_bytes
four f k = refl

-- A small number is its byte.
small_bytes : (k : ℕ) (f : Formula) → node_number f < 256 → one_bytes k f ≡ node_bytes k f
unfolding one_bytes node_bytes
small_bytes k f lt = let e : node_number f % 256 ≡ node_number f = omega arith in rw e

put_one_room : (f : Formula) (n : Nodes) → n.count < 60
    → put_one f n ≡ record { kept = sets n.kept (4 * n.count) (one_bytes n.count f); count = n.count + 1 }
unfolding put_one put_bytes most_nodes one_bytes
put_one_room f n lt = rw (lt-ltb n.count 60 lt)

put_one_full : (f : Formula) (n : Nodes) → 60 ≤ n.count → put_one f n ≡ record { kept = n.kept; count = 61 }
unfolding put_one put_bytes most_nodes
put_one_full f n le = rw (le-ltb n.count 60 le)

one_length : (f : Formula) (n : Nodes) → length (put_one f n).kept ≡ length n.kept
one_length f n = go (ltb n.count 60) refl
  where
    go : (b : Bool) → ltb n.count 60 ≡ b → length (put_one f n).kept ≡ length n.kept
    go true e = ap (λ (m : Nodes). length m.kept) (put_one_room f n (ltb-true n.count 60 e)) ∙ length-sets n.kept (4 * n.count) (one_bytes n.count f)
    go false e = ap (λ (m : Nodes). length m.kept) (put_one_full f n (ltb-false n.count 60 e))

-- The area keeps its length.
pub kept_length : (fs : List Formula) (n : Nodes) → length (put_all fs n).kept ≡ length n.kept
unfolding put_all
kept_length [] n = refl
kept_length (f ∷ fs) n = kept_length fs (put_one f n) ∙ one_length f n

one_drop : (f : Formula) (n : Nodes) → drop lines_at (put_one f n).kept ≡ drop lines_at n.kept
one_drop f n = go (ltb n.count 60) refl
  where
    go : (b : Bool) → ltb n.count 60 ≡ b → drop lines_at (put_one f n).kept ≡ drop lines_at n.kept
    go true e =
        let lt = ltb-true n.count 60 e in
        ap (λ (m : Nodes). drop lines_at m.kept) (put_one_room f n lt) ∙ drop_sets_above (one_bytes n.count f) n.kept (4 * n.count) lines_at (omega (arith, four f n.count))
    go false e = ap (λ (m : Nodes). drop lines_at m.kept) (put_one_full f n (ltb-false n.count 60 e))

-- The lines stay as nodes are put down.
pub kept_lines : (fs : List Formula) (n : Nodes) → drop lines_at (put_all fs n).kept ≡ drop lines_at n.kept
unfolding put_all
kept_lines [] n = refl
kept_lines (f ∷ fs) n = kept_lines fs (put_one f n) ∙ one_drop f n

-- Up to 60 nodes are counted.
pub count_exact : (fs : List Formula) (n : Nodes) → n.count + length fs ≤ 60 → (put_all fs n).count ≡ n.count + length fs
unfolding put_all
count_exact [] n le = omega arith
count_exact (f ∷ fs) n le =
    let e = ap (λ (m : Nodes). m.count) (put_one_room f n (omega arith)) in
    let ih = count_exact fs (put_one f n) (omega arith) in
    omega arith

stays_61 : (fs : List Formula) (n : Nodes) → n.count ≡ 61 → (put_all fs n).count ≡ 61
unfolding put_all
stays_61 [] n e = e
stays_61 (f ∷ fs) n e = stays_61 fs (put_one f n) (ap (λ (m : Nodes). m.count) (put_one_full f n (omega arith)))

-- More than 60 nodes are 61.
pub count_over : (fs : List Formula) (n : Nodes) → n.count ≤ 60 → 60 < n.count + length fs → (put_all fs n).count ≡ 61
unfolding put_all
count_over [] n le lt = absurd (omega arith)
count_over (f ∷ fs) n le lt = go (λ l r. count_over fs (put_one f n) l r) (ltb n.count 60) refl
  where
    go : ((put_one f n).count ≤ 60 → 60 < (put_one f n).count + length fs → (put_all fs (put_one f n)).count ≡ 61) → (b : Bool)
        → ltb n.count 60 ≡ b → (put_all fs (put_one f n)).count ≡ 61
    go ih true e =
        let lt' = ltb-true n.count 60 e in
        let c = ap (λ (m : Nodes). m.count) (put_one_room f n lt') in
        ih (omega arith) (omega arith)
    go ih false e = stays_61 fs (put_one f n) (ap (λ (m : Nodes). m.count) (put_one_full f n (ltb-false n.count 60 e)))

-- The nodes that are put down stand behind those before.
pub kept_nodes : (fs : List Formula) (n : Nodes) → n.count + length fs ≤ 60 → 240 ≤ length n.kept → AllSmall fs
    → take (4 * (n.count + length fs)) (put_all fs n).kept ≡ take (4 * n.count) n.kept ++ nodes_bytes n.count fs
unfolding put_all AllSmall nodes_bytes
kept_nodes [] n le long small = rw (add-zero n.count) (sym (append-nil (take (4 * n.count) n.kept)))
kept_nodes (f ∷ fs) n le long (one, small) =
    let room = put_one_room f n (omega arith) in
    let c : (put_one f n).count ≡ n.count + 1 = ap (λ (m : Nodes). m.count) room in
    let k : (put_one f n).kept ≡ sets n.kept (4 * n.count) (one_bytes n.count f) = ap (λ (m : Nodes). m.kept) room in
    let ih = kept_nodes fs (put_one f n) (omega arith) (omega (arith, one_length f n)) small in
    step c k ih (omega arith)
  where
    step : (put_one f n).count ≡ n.count + 1 → (put_one f n).kept ≡ sets n.kept (4 * n.count) (one_bytes n.count f)
        → take (4 * ((put_one f n).count + length fs)) (put_all fs (put_one f n)).kept
        ≡ take (4 * (put_one f n).count) (put_one f n).kept ++ nodes_bytes (put_one f n).count fs
        → n.count < 60
        → take (4 * (n.count + suc (length fs))) (put_all fs (put_one f n)).kept
        ≡ take (4 * n.count) n.kept ++ (node_bytes n.count f ++ nodes_bytes (suc n.count) fs)
    step c k ih lt =
        let places : 4 * (n.count + suc (length fs)) ≡ 4 * ((put_one f n).count + length fs) = omega arith in
        ap (λ (m : ℕ). take m (put_all fs (put_one f n)).kept) places ∙ ih
        ∙ ap₂ (λ (x : List ℕ) (m : ℕ). x ++ nodes_bytes m fs) (front c k lt) (c ∙ add-one n.count)
        ∙ append_assoc (take (4 * n.count) n.kept) (node_bytes n.count f) (nodes_bytes (suc n.count) fs)
      where
        front : (put_one f n).count ≡ n.count + 1 → (put_one f n).kept ≡ sets n.kept (4 * n.count) (one_bytes n.count f) → n.count < 60
            → take (4 * (put_one f n).count) (put_one f n).kept ≡ take (4 * n.count) n.kept ++ node_bytes n.count f
        front c k lt =
            let place : 4 * (put_one f n).count ≡ 4 * n.count + length (one_bytes n.count f) = omega (arith, four f n.count) in
            ap₂ (λ (m : ℕ) (x : List ℕ). take m x) place k
            ∙ take_sets_end (one_bytes n.count f) n.kept (4 * n.count) (omega (arith, four f n.count))
            ∙ ap (λ (x : List ℕ). take (4 * n.count) n.kept ++ x) (small_bytes n.count f one)

-- ---- a book of one more rule

pub nodes_bytes_append : (k : ℕ) (fs gs : List Formula) → nodes_bytes k (fs ++ gs) ≡ nodes_bytes k fs ++ nodes_bytes (k + length fs) gs
unfolding nodes_bytes
nodes_bytes_append k [] gs = rw (add-zero k)
nodes_bytes_append k (f ∷ fs) gs =
    let e : suc k + length fs ≡ k + suc (length fs) = omega arith in
    ap (λ (x : List ℕ). node_bytes k f ++ x) (nodes_bytes_append (suc k) fs gs ∙ ap (λ (m : ℕ). nodes_bytes (suc k) fs ++ nodes_bytes m gs) e)
    ∙ sym (append_assoc (node_bytes k f) (nodes_bytes (suc k) fs) (nodes_bytes (k + suc (length fs)) gs))

-- The nodes of a book and one more rule.
pub nodes_append : (rules : Book) (rule : Rule) → nodes (rules ++ (rule ∷ [])) ≡ nodes rules ++ parts rule.formula
unfolding nodes joined
nodes_append [] rule = append-nil (parts rule.formula)
nodes_append (first ∷ rules) rule =
    ap (λ (x : List Formula). parts first.formula ++ x) (nodes_append rules rule)
    ∙ sym (append_assoc (parts first.formula) (nodes rules) (parts rule.formula))

nodes_cons : (first : Rule) (rules : Book) → length (nodes (first ∷ rules)) ≡ size first.formula + length (nodes rules)
unfolding nodes joined size
nodes_cons first rules = length-append (parts first.formula) (nodes rules)

no_nodes : (n : ℕ) → n + length (nodes []) ≡ n
unfolding nodes joined
no_nodes n = omega arith

lines_bytes_append : (i n : ℕ) (rules : Book) (rule : Rule)
    → lines_bytes i n (rules ++ (rule ∷ [])) ≡ lines_bytes i n rules ++ line_bytes (i + length rules) (n + length (nodes rules)) rule
unfolding lines_bytes line_bytes
lines_bytes_append i n [] rule = let e : n + length (nodes []) ≡ n = no_nodes n in rw (e, add-zero i)
lines_bytes_append i n (first ∷ rules) rule =
    let e : n + size first.formula + length (nodes rules) ≡ n + length (nodes (first ∷ rules)) = omega (arith, nodes_cons first rules) in
    let f : suc i + length rules ≡ i + suc (length rules) = omega arith in
    ap (λ (x : List ℕ). line_bytes i n first ++ x)
    (lines_bytes_append (suc i) (n + size first.formula) rules rule
    ∙ ap₂ (λ (k m : ℕ). lines_bytes (suc i) (n + size first.formula) rules ++ line_bytes k m rule) f e)

pub length_more : (rules : Book) (rule : Rule) → length (rules ++ (rule ∷ [])) ≡ length rules + 1
length_more rules rule = length-append rules (rule ∷ [])

root_of : (rules : Book) (f : Formula) (n : Nodes) → n.count ≡ length (nodes rules) → (put_all (parts f) n).count ≡ n.count + length (parts f)
    → (put_all (parts f) n).count - 1 ≡ root (length (nodes rules)) f
unfolding root size
root_of rules f n e g = omega arith

-- The bytes of one rule more, once its nodes and its line are put down.
pub keeps_more : (rules : Book) (form : Form) (f : Formula) (n : Nodes) → Keeps n.kept rules → n.count ≡ length (nodes rules)
    → length n.kept ≡ node_count_at → length (nodes rules) + size f ≤ 60 → length rules < 60 → AllSmall (parts f)
    → Keeps
    (sets (put_all (parts f) n).kept (lines_at + 4 * length rules) (form_code form ∷ ((put_all (parts f) n).count - 1) ∷ length rules ∷ traits_code f ∷ []))
    (rules ++ (record { form = form; formula = f } ∷ []))
unfolding size root line_bytes
keeps_more rules form f n h count long few lined small =
    let rule : Rule = record { form = form; formula = f } in
    let vs : List ℕ = form_code form ∷ ((put_all (parts f) n).count - 1) ∷ length rules ∷ traits_code f ∷ [] in
    let after : List ℕ = (put_all (parts f) n).kept in
    let len : length (nodes (rules ++ (rule ∷ []))) ≡ length (nodes rules) + length (parts f) =
    ap length (nodes_append rules rule) ∙ length-append (nodes rules) (parts f) in
    let exact : (put_all (parts f) n).count ≡ n.count + length (parts f) = count_exact (parts f) n (omega arith) in
    let size_after : length after ≡ node_count_at = kept_length (parts f) n ∙ long in
    let place : 4 * length (nodes (rules ++ (rule ∷ []))) ≡ 4 * (n.count + length (parts f)) = omega arith in
    let lines : 4 * length (rules ++ (rule ∷ [])) ≡ 4 * length rules + length vs = omega (arith, length_more rules rule) in
    record {
      node_part =
          ap (λ (m : ℕ). take m (sets after (lines_at + 4 * length rules) vs)) place
          ∙ take_sets_below vs after (lines_at + 4 * length rules) (4 * (n.count + length (parts f))) (omega arith)
          ∙ kept_nodes (parts f) n (omega arith) (omega arith) small
          ∙ ap₂ (λ (x : List ℕ) (m : ℕ). x ++ nodes_bytes m (parts f)) (ap (λ (m : ℕ). take (4 * m) n.kept) count ∙ h.node_part) count
          ∙ sym (ap (nodes_bytes 0) (nodes_append rules rule) ∙ nodes_bytes_append 0 (nodes rules) (parts f)
          ∙ ap (λ (m : ℕ). nodes_bytes 0 (nodes rules) ++ nodes_bytes m (parts f)) (zero-add (length (nodes rules))));
      line_part =
          ap₂ (λ (m : ℕ) (x : List ℕ). take m x) lines (drop_sets_add vs after (4 * length rules) lines_at)
          ∙ take_sets_end vs (drop lines_at after) (4 * length rules) (omega (arith, length-drop lines_at after))
          ∙ ap₂ (λ (x : List ℕ) (k : ℕ). x ++ (form_code form ∷ k ∷ length rules ∷ traits_code f ∷ []))
          (ap (take (4 * length rules)) (kept_lines (parts f) n) ∙ h.line_part) (root_of rules f n count exact)
          ∙ sym (lines_bytes_append 0 0 rules rule
          ∙ ap₂ (λ (k m : ℕ). lines_bytes 0 0 rules ++ line_bytes k m rule) (zero-add (length rules)) (zero-add (length (nodes rules))));
    }

-- An area whose first bytes are those of the rules, and that has their numbers, holds them.
pub holds_whole : (a : List ℕ) (rules : Book) → length (nodes rules) ≤ 60 → length rules ≤ 60 → Keeps (take node_count_at a) rules
    → nodes_in a ≡ length (nodes rules) → lines_in a ≡ length rules → HoldsBook a rules
holds_whole a rules few lined h nodes_told lines_told =
    record {
      node_part = sym (take-take (4 * length (nodes rules)) node_count_at a (omega arith)) ∙ h.node_part;
      line_part = sym (take_drop_take (4 * length rules) lines_at node_count_at a (omega arith)) ∙ h.line_part;
      node_count = nodes_told;
      line_count = lines_told;
    }

-- Any bytes are those of no rules.
pub keeps_none : (l : List ℕ) → Keeps l []
unfolding nodes joined nodes_bytes lines_bytes
keeps_none l = record { node_part = refl; line_part = refl }
