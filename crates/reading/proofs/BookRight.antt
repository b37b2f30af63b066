-- The book reader's answer is the right one, and no other is: 9 for the length, the book, or the first line that is turned down with its number.
use Prim.Native.Nat.{ℕ, zero, suc, ◌+◌, ◌-◌, ◌≤◌, ◌<◌, max}
use native.Mathlib.Omega.{arith}
use mathlib.Core.Path.{◌≡◌, refl, sym, ◌∙◌, ap, subst}
use mathlib.Core.Logic.{◌⊎◌, inl, inr}
use mathlib.Core.Bool.{true, false, not}
use mathlib.Core.List.{List, [], ◌∷◌, ◌++◌, append_assoc, append-nil}
use mathlib.Core.List.Memᴰ
use mathlib.Core.List.{Memᴰ}
use lib.ListN.{length, drop, length-append, length-drop, drop_of_length-le}
use lib.Seq.{drop-append_seam}
use lib.Dec.{leb, ltb}
use borrow.Author.Tests.{leb-true, leb-false, ltb-true, ltb-false, lt-ltb, lt-leb, not-true, not-false}
use Rattle.base.specs.Lists.{joined}
use Rattle.base.specs.Recursion.{run}
use Rattle.base.specs.Recursion as Deep
use Rattle.base.specs.Answers.{Answer, ◌if◌else◌, ◌then◌}
use Rattle.std.specs.Prelude.{Err, Ok}
use Rattle.base.specs.declared.Refusal.{Refusal}
use Rattle.base.specs.declared.Refusal.TheVariants.{Grammar, Number, Mark, Limit, Timed}
use Rattle.base.proofs.Lists.{or_fails_left, or_fails_right}
use Rattle.base.proofs.Answers.{give_one, gives_not_refuses, if_refuses}
use Rattle.logic.specs.Book.{Formula, size, nodes, timed_right, Form, Rule, Book, FitBook}
use Rattle.reading.specs.BookReading as Reading
use Rattle.reading.specs.BookReading.{most_bytes, most_nodes, most_brackets, usual_bound, line_at, over_number, over_mark, over_limit, ReadSoFar, judge_line, lines_step, read_lines, read_book}
use Rattle.reading.specs.Spelling.{SpellsLine, SpellsBook, spells_none, spells_more, WithinLimits, BookOf, book_text, book_brackets}
use Rattle.reading.specs.RightBook.{BegunWith, NextLine, RightBook, too_long, no_line_there, number_over, mark_over, limit_over, timed_wrong, whole_book}
use Rattle.reading.proofs.SpelledTokens.{pick_by}
use Rattle.reading.proofs.BookBack.{lines_deep, read_through, book_read, nodes_around, line_some}
use Rattle.reading.proofs.Spelled.{book_spells}
use Rattle.reading.proofs.ReadBack.{line_back, line_spelled, no_line_exactly}

-- ---- a right answer is the reader's

module _ (marks : ℕ) (text : List ℕ) where
  -- a line that is turned down behind lines that were read
  turned_down : (before : Book) (p m : ℕ) (w : Refusal) → p < length text → length text - p < m → judge_line marks before (line_at usual_bound text p) ≡ Err w
      → lines_deep marks text m (record { rules = before; place = p }) ≡ Err w
  unfolding lines_deep Deep.to_depth lines_step ◌then◌
  turned_down before p zero w lt l e = absurd (omega arith)
  turned_down before p (suc m) w lt l e = rw (lt-leb (length text) p lt, e)

  -- the rest of a text behind its first lines
  behind_begun : (begun rest : List ℕ) → text ≡ begun ++ rest → drop (length begun) text ≡ rest
  behind_begun begun rest all = ap (drop (length begun)) all ∙ drop-append_seam begun rest

  refused_at : (before : Book) (rest : List ℕ) (h : BegunWith marks text before rest) (w : Refusal)
      → judge_line marks before (line_at usual_bound text (length h.begun)) ≡ Err w → read_book marks text ≡ Err w
  refused_at before rest h w e =
      read_through rest h.spells h.limits h.few_bytes h.all (Err w) (λ m l.
      turned_down before (length h.begun) m w (omega (arith, ap (λ z. length z) h.all, length-append h.begun rest, h.more_bytes)) l e)

  -- the next line, as it is read
  next_read : (before : Book) (rest : List ℕ) (rule : Rule) (b : ℕ) (h : BegunWith marks text before rest) (k : NextLine rest rule b)
      → line_at usual_bound text (length h.begun) ≡ Reading.line rule.form rule.formula b (length h.begun + length k.line)
  next_read before rest rule b h k = line_back k.spells text (length h.begun) k.behind (behind_begun h.begun rest h.all ∙ k.all)

  judged : (before : Book) (rule : Rule) (b p q : ℕ) (w : Refusal) → line_at usual_bound text p ≡ Reading.line rule.form rule.formula b q
      → judge_line marks before (Reading.line rule.form rule.formula b q) ≡ Err w → judge_line marks before (line_at usual_bound text p) ≡ Err w
  judged before rule b p q w at e = ap (judge_line marks before) at ∙ e

  too_long_read : most_bytes < length text → read_book marks text ≡ Err (Limit 0)
  unfolding read_book
  too_long_read l = if_refuses (Limit 0) (read_lines usual_bound marks text) (lt-ltb most_bytes (length text) l)

-- what a line is turned down with
module _ (marks : ℕ) (before : Book) (form : Form) (f : Formula) (b q : ℕ) where
  down_number : over_number f ≡ true → judge_line marks before (Reading.line form f b q) ≡ Err (Number (length before))
  unfolding judge_line ◌if◌else◌
  down_number n = rw n

  down_mark : over_number f ≡ false → over_mark marks f ≡ true → judge_line marks before (Reading.line form f b q) ≡ Err (Mark (length before))
  unfolding judge_line ◌if◌else◌
  down_mark n m = rw (n, m)

  down_limit : over_number f ≡ false → over_mark marks f ≡ false → over_limit before f b ≡ true
      → judge_line marks before (Reading.line form f b q) ≡ Err (Limit (length before))
  unfolding judge_line ◌if◌else◌
  down_limit n m l = rw (n, m, l)

  down_timed : over_number f ≡ false → over_mark marks f ≡ false → over_limit before f b ≡ false → timed_right f ≡ false
      → judge_line marks before (Reading.line form f b q) ≡ Err (Timed (length before))
  unfolding judge_line ◌if◌else◌
  down_timed n m l t = rw (n, m, l, t)

down_grammar : (marks : ℕ) (before : Book) (l : Reading.Line) → l ≡ Reading.no_line → judge_line marks before l ≡ Err (Grammar (length before))
unfolding judge_line
down_grammar marks before l e = rw e

-- A right answer is the one that the reader gives.
pub right_only : (marks : ℕ) (text : List ℕ) (a : Answer Book) → RightBook marks text a → read_book marks text ≡ a
right_only marks text _ (too_long l) = too_long_read marks text l
right_only marks text _ (no_line_there before rest h none_there) =
    refused_at marks text before rest h (Grammar (length before))
    (down_grammar marks before (line_at usual_bound text (length h.begun))
    ((no_line_exactly usual_bound text (length h.begun)).1 (λ rule b line behind spells at.
    none_there rule b (record { line = line; behind = behind; spells = spells; all = sym (behind_begun marks text h.begun rest h.all) ∙ at }))))
right_only marks text _ (number_over before rest rule b h k n) =
    refused_at marks text before rest h (Number (length before))
    (judged marks text before rule b _ _ _ (next_read marks text before rest rule b h k) (down_number marks before rule.form rule.formula b _ n))
right_only marks text _ (mark_over before rest rule b h k n m) =
    refused_at marks text before rest h (Mark (length before))
    (judged marks text before rule b _ _ _ (next_read marks text before rest rule b h k) (down_mark marks before rule.form rule.formula b _ n m))
right_only marks text _ (limit_over before rest rule b h k n m l) =
    refused_at marks text before rest h (Limit (length before))
    (judged marks text before rule b _ _ _ (next_read marks text before rest rule b h k) (down_limit marks before rule.form rule.formula b _ n m l))
right_only marks text _ (timed_wrong before rest rule b h k n m l t) =
    refused_at marks text before rest h (Timed (length before))
    (judged marks text before rule b _ _ _ (next_read marks text before rest rule b h k) (down_timed marks before rule.form rule.formula b _ n m l t))
right_only marks text _ (whole_book book h) = book_read h

-- One answer at most is right.
pub right_one : (marks : ℕ) (text : List ℕ) (a b : Answer Book) → RightBook marks text a → RightBook marks text b → a ≡ b
right_one marks text a b h k = sym (right_only marks text a h) ∙ right_only marks text b k

-- ---- the reader's answer is right

-- A book with one line more.
record OneMore (before : Book) (rule : Rule) (b c : ℕ) (text : List ℕ) : Type 0 where
  brackets : ℕ
  spells : SpellsBook usual_bound (before ++ (rule ∷ [])) brackets text
  low : b ≤ 16 → c ≤ 16 → brackets ≤ 16

one_more : {before : Book} {b : ℕ} {begun : List ℕ} {rule : Rule} {c : ℕ} {line : List ℕ} → SpellsBook usual_bound before b begun → SpellsLine usual_bound rule c line
    → OneMore before rule b c (begun ++ line)
one_more {rule = rule} {c = c} {line = line} spells_none k =
    record {
      brackets = max c 0;
      spells = subst (λ (z : List ℕ). SpellsBook usual_bound (rule ∷ []) (max c 0) z) (append-nil line) (spells_more k spells_none);
      low = λ l m. omega arith;
    }
one_more {rule = rule} {c = c} {line = line} (spells_more {rule = r} {book = book} {b = d} {c = e} {line = first} {text = text} h others) k =
    go (one_more others k)
  where
    go : OneMore book rule e c (text ++ line) → OneMore (r ∷ book) rule (max d e) c (first ++ text ++ line)
    go n =
        record {
          brackets = max d n.brackets;
          spells = rw (append_assoc first text line) (spells_more h n.spells);
          low = λ l m. omega (arith, n.low (omega arith) m);
        }

-- what holds of each rule of a book and of one more
with_one : (P : Rule → Type 0) (before : Book) (rule : Rule) → ((r : Rule) → Memᴰ r before → P r) → P rule
    → (r : Rule) → Memᴰ r (before ++ (rule ∷ [])) → P r
with_one P before rule all one r m = go (Memᴰ.append_cases before m)
  where
    go : Memᴰ r before ⊎ Memᴰ r (rule ∷ []) → P r
    go (inl m) = all r m
    go (inr m) = rw (Memᴰ.eq_of_singleton m) one

-- The text up to p is read, and no limit turns it down.
record UpTo (marks : ℕ) (text : List ℕ) (before : Book) (p : ℕ) : Type 0 where
  begun : List ℕ
  brackets : ℕ
  spells : SpellsBook usual_bound before brackets begun
  limits : WithinLimits marks before brackets
  all : text ≡ begun ++ drop p text

nodes_one : (before : Book) (rule : Rule) → length (nodes (before ++ (rule ∷ []))) ≡ length (nodes before) + size rule.formula
unfolding nodes joined
nodes_one before rule = nodes_around before rule [] ∙ omega arith

no_rules : {marks : ℕ} → WithinLimits marks [] 0
unfolding FitBook nodes joined
no_rules =
    record {
      numbers = λ rule m. absurd (Memᴰ.not-nil m);
      propositions = λ rule m. absurd (Memᴰ.not-nil m);
      few_nodes = omega arith;
      few_brackets = omega arith;
      timed = λ rule m. absurd (Memᴰ.not-nil m);
    }

module _ (marks : ℕ) (text : List ℕ) (short : length text ≤ most_bytes) where
  -- one line more that no limit turns down
  up_to_more : (before : Book) (p : ℕ) (rule : Rule) (b q : ℕ) (line : List ℕ) → UpTo marks text before p → SpellsLine usual_bound rule b line
      → drop p text ≡ line ++ drop q text → over_number rule.formula ≡ false → over_mark marks rule.formula ≡ false
      → over_limit before rule.formula b ≡ false → timed_right rule.formula ≡ true → UpTo marks text (before ++ (rule ∷ [])) q
  unfolding over_limit most_nodes most_brackets FitBook
  up_to_more before p rule b q line h k at n m l t =
      let more_of = one_more h.spells k in
      let nodes_few = ltb-false 60 (length (nodes before) + size rule.formula)
      (or_fails_left (ltb 60 (length (nodes before) + size rule.formula)) (ltb 16 b) l) in
      let brackets_few = ltb-false 16 b (or_fails_right (ltb 60 (length (nodes before) + size rule.formula)) (ltb 16 b) l) in
      record {
        begun = h.begun ++ line;
        brackets = more_of.brackets;
        spells = more_of.spells;
        limits =
            record {
              numbers = with_one (λ r. over_number r.formula ≡ false) before rule h.limits.numbers n;
              propositions = with_one (λ r. over_mark marks r.formula ≡ false) before rule h.limits.propositions m;
              few_nodes = omega (arith, nodes_one before rule);
              few_brackets = more_of.low h.limits.few_brackets brackets_few;
              timed = with_one (λ r. timed_right r.formula ≡ true) before rule h.limits.timed t;
            };
        all = h.all ∙ ap (λ z. h.begun ++ z) at ∙ sym (append_assoc h.begun line (drop q text));
      }

  begun_with : (before : Book) (p : ℕ) → UpTo marks text before p → p < length text → BegunWith marks text before (drop p text)
  begun_with before p h lt =
      record {
        begun = h.begun;
        brackets = h.brackets;
        spells = h.spells;
        limits = h.limits;
        all = h.all;
        more_bytes = omega (arith, length-drop p text);
        few_bytes = short;
      }

  whole : (before : Book) (p : ℕ) → UpTo marks text before p → length text ≤ p → RightBook marks text (Ok before)
  whole before p h le =
      let e : text ≡ h.begun = h.all ∙ ap (λ z. h.begun ++ z) (drop_of_length-le text le) ∙ append-nil h.begun in
      whole_book before
      (record {
        brackets = h.brackets;
        spells = subst (λ (z : List ℕ). SpellsBook usual_bound before h.brackets z) (sym e) h.spells;
        limits = h.limits;
        few_bytes = short;
      })

  -- one line that is spelled, by its tests
  line_ways : (before : Book) (p : ℕ) (after : ReadSoFar → Answer Book) → UpTo marks text before p → p < length text
      → ((rules : Book) (q : ℕ) → p < q → UpTo marks text rules q → RightBook marks text (after (record { rules = rules; place = q })))
      → (rule : Rule) (b q : ℕ) (line : List ℕ) → SpellsLine usual_bound rule b line → drop p text ≡ line ++ drop q text → q ≡ p + length line
      → RightBook marks text (judge_line marks before (Reading.line rule.form rule.formula b q) then after)
  unfolding judge_line ◌if◌else◌ ◌then◌
  line_ways before p after h lt on rule b q line spells at end =
      let Q : Answer ReadSoFar → Type 0 = λ o. RightBook marks text (o then after) in
      let f = rule.formula in
      let begun = begun_with before p h lt in
      let next_line : NextLine (drop p text) rule b = record { line = line; behind = drop q text; spells = spells; all = at } in
      pick_by Q (over_number f) _ _ (λ n. number_over before (drop p text) rule b begun next_line n) (λ n.
      pick_by Q (over_mark marks f) _ _ (λ m. mark_over before (drop p text) rule b begun next_line n m) (λ m.
      pick_by Q (over_limit before f b) _ _ (λ l. limit_over before (drop p text) rule b begun next_line n m l) (λ l.
      pick_by Q (not (timed_right f)) _ _ (λ t. timed_wrong before (drop p text) rule b begun next_line n m l (not-true (timed_right f) t)) (λ t.
      on (before ++ (rule ∷ [])) q (omega (arith, end, line_some spells)) (up_to_more before p rule b q line h spells at n m l (not-false (timed_right f) t))))))

  -- one line, with what follows it
  line_right : (before : Book) (p : ℕ) (after : ReadSoFar → Answer Book) → UpTo marks text before p → p < length text
      → ((rules : Book) (q : ℕ) → p < q → UpTo marks text rules q → RightBook marks text (after (record { rules = rules; place = q })))
      → (l : Reading.Line) → line_at usual_bound text p ≡ l → RightBook marks text (judge_line marks before l then after)
  unfolding judge_line ◌if◌else◌ ◌then◌
  line_right before p after h lt on Reading.no_line e =
      no_line_there before (drop p text) (begun_with before p h lt)
      (λ rule b k. (no_line_exactly usual_bound text p).0 e rule b k.line k.behind k.spells k.all)
  line_right before p after h lt on (Reading.line form f b q) e =
      let (line, spells, at, end) = line_spelled usual_bound text p form f b q e in line_ways before p after h lt on (record { form = form; formula = f }) b q line spells at end

  -- the lines from p on
  lines_right : (n : ℕ) (before : Book) (p : ℕ) → UpTo marks text before p → length text - p < n
      → RightBook marks text (lines_deep marks text n (record { rules = before; place = p }))
  unfolding lines_deep Deep.to_depth lines_step
  lines_right zero before p h lt = absurd (omega arith)
  lines_right (suc n) before p h lt =
      pick_by (RightBook marks text) (leb (length text) p) _ _ (λ e. whole before p h (leb-true (length text) p e)) (λ e.
      line_right before p (λ here. lines_deep marks text n here) h (leb-false (length text) p e)
      (λ rules q further on. lines_right n rules q on (omega (arith, leb-false (length text) p e))) (line_at usual_bound text p) refl)

  start_right : RightBook marks text (read_lines usual_bound marks text)
  unfolding read_lines run lines_deep FitBook
  start_right =
      lines_right (suc (length text - 0)) [] 0
      (record {
        begun = [];
        brackets = 0;
        spells = spells_none;
        limits = no_rules;
        all = refl;
      }) (omega arith)

-- The reader's answer is the right one.
pub right_book : (marks : ℕ) (text : List ℕ) → RightBook marks text (read_book marks text)
unfolding read_book ◌if◌else◌
right_book marks text =
    pick_by (RightBook marks text) (ltb most_bytes (length text)) _ _ (λ e. too_long (ltb-true most_bytes (length text) e))
    (λ e. start_right marks text (ltb-false most_bytes (length text) e))

-- ---- books

-- a right answer that gives a book
right_gives : (marks : ℕ) (text : List ℕ) (a : Answer Book) → RightBook marks text a → (book : Book) → a ≡ Ok book → BookOf marks text book
right_gives marks text _ (too_long l) book e = gives_not_refuses e refl
right_gives marks text _ (no_line_there before rest h k) book e = gives_not_refuses e refl
right_gives marks text _ (number_over before rest rule b h k n) book e = gives_not_refuses e refl
right_gives marks text _ (mark_over before rest rule b h k n m) book e = gives_not_refuses e refl
right_gives marks text _ (limit_over before rest rule b h k n m l) book e = gives_not_refuses e refl
right_gives marks text _ (timed_wrong before rest rule b h k n m l t) book e = gives_not_refuses e refl
right_gives marks text _ (whole_book other h) book e = subst (BookOf marks text) (give_one e) h

-- A text is read as a book exactly if it is one of that book, by the rules and within the limits.
pub book_exactly : (marks : ℕ) (text : List ℕ) (book : Book)
    → (BookOf marks text book → read_book marks text ≡ Ok book) × (read_book marks text ≡ Ok book → BookOf marks text book)
book_exactly marks text book = (book_read, right_gives marks text (read_book marks text) (right_book marks text) book)

-- Every book within the limits is read back as it is written down.
pub book_text_back : (marks : ℕ) → marks ≤ 100 → (book : Book) → WithinLimits marks book (book_brackets book) → length (book_text book) ≤ most_bytes
    → read_book marks (book_text book) ≡ Ok book
book_text_back marks le book limits short =
    book_read
    (record {
      brackets = book_brackets book;
      spells = book_spells le book limits.numbers limits.propositions;
      limits = limits;
      few_bytes = short;
    })
