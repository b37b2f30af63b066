-- What is known of a book that was read: whatever holds of the empty book and passes along every line that was judged well.
use Prim.Native.Nat.{ℕ, zero, suc, ◌+◌, ◌-◌, ◌≤◌}
use native.Mathlib.Omega.{arith}
use mathlib.Core.Path.{◌≡◌, refl, ◌∙◌, ap, subst}
use mathlib.Core.Logic.{◌⊎◌, inl, inr}
use mathlib.Core.Bool.{Bool, true, false, not}
use mathlib.Core.List.{List, [], ◌∷◌, ◌++◌, map, map-append}
use mathlib.Core.List.Memᴰ
use mathlib.Core.List.{Memᴰ}
use lib.ListN.{length, length-append}
use lib.Dec.{leb, ltb}
use borrow.Author.Tests.{not-false, ltb-false}
use Rattle.base.specs.Choice.{pick}
use Rattle.base.specs.Lists.{joined}
use Rattle.base.specs.Recursion.{to_depth, run}
use Rattle.base.specs.Answers.{Answer, ◌then◌}
use Rattle.std.specs.Prelude.{Err, Ok}
use Rattle.base.specs.declared.Refusal.TheVariants.{Grammar, Number, Mark, Limit, Timed}
use Rattle.base.proofs.Lists.{or_fails_left, joined_append}
use Rattle.base.proofs.Answers.{give_one, gives_not_refuses, if_gives, then_gives}
use Rattle.logic.specs.Book.{Formula, parts, size, timed_right, nodes, Rule, Book, FitBook}
use Rattle.reading.specs.BookReading.{Line, no_line, line, line_at, over_number, over_mark, over_limit, judge_line, lines_step, read_lines, read_book}
use Rattle.reading.specs.BookReading.{ReadSoFar, most_bytes, most_nodes, most_brackets, usual_bound}

-- A rule that was judged well behind others.
pub record JudgedWell (marks : ℕ) (before : Book) (rule : Rule) : Type 0 where
  pub brackets : ℕ
  pub numbers : over_number rule.formula ≡ false
  pub propositions : over_mark marks rule.formula ≡ false
  pub limits : over_limit before rule.formula brackets ≡ false
  pub timed : timed_right rule.formula ≡ true

-- a book with one rule more
abbrev with_rule : Book → Rule → Book
with_rule before rule = before ++ (rule ∷ [])

-- ---- along the lines

module _ (P : Book → Type 0) (marks : ℕ) (along : (before : Book) (rule : Rule) → JudgedWell marks before rule → P before → P (with_rule before rule))
    (text : List ℕ) where
  along_line : (before : Book) (l : Line) (here : ReadSoFar) → P before → judge_line marks before l ≡ Ok here → P here.rules
  unfolding judge_line
  along_line before no_line here p e = gives_not_refuses e refl
  along_line before (line form f brackets q) here p e =
      let (a, e1) = if_gives (Number (length before)) (over_number f) _ e in
      let (b, e2) = if_gives (Mark (length before)) (over_mark marks f) _ e1 in
      let (c, e3) = if_gives (Limit (length before)) (over_limit before f brackets) _ e2 in
      let (d, e4) = if_gives (Timed (length before)) (not (timed_right f)) _ e3 in
      subst P (ap (λ z. z.rules) (give_one e4))
      (along before (record { form = form; formula = f })
      (record { brackets = brackets; numbers = a; propositions = b; limits = c; timed = not-false (timed_right f) d }) p)

  -- how much of the text is left, and what is said if the reading goes on for too long
  left : ReadSoFar → ℕ
  left here = length text - here.place

  stuck : ReadSoFar → Answer Book
  stuck here = Err (Grammar (length here.rules))

  along_rest : (n : ℕ) (here : ReadSoFar) (book : Book) → P here.rules → to_depth left stuck (lines_step usual_bound marks text) n here ≡ Ok book → P book
  unfolding to_depth stuck lines_step
  along_rest zero here book p e = gives_not_refuses e refl
  along_rest (suc n) here book p e = go (leb (length text) here.place) (λ on. along_rest n on book) e
    where
      more : ReadSoFar → Answer Book
      more on = to_depth left stuck (lines_step usual_bound marks text) n on

      go : (b : Bool) → ((on : ReadSoFar) → P on.rules → more on ≡ Ok book → P book)
          → pick b (λ _. Ok here.rules) (λ _. judge_line marks here.rules (line_at usual_bound text here.place) then more) ≡ Ok book → P book
      go true rest f = subst P (give_one f) p
      go false rest f =
          let (on, g, h) = then_gives (judge_line marks here.rules (line_at usual_bound text here.place)) more f in
          rest on (along_line here.rules (line_at usual_bound text here.place) on p g) h

  -- What passes along every line holds of the book that was read.
  pub along_lines : P [] → (book : Book) → read_book marks text ≡ Ok book → P book
  unfolding read_book read_lines run left stuck
  along_lines p book e =
      let (a, f) = if_gives (Limit 0) (ltb most_bytes (length text)) _ e in
      along_rest (suc (length text - 0)) (record { rules = []; place = 0 }) book p f

-- What a judgement says of each rule alone holds of every rule of the book that was read.
pub each_rule : (Q : Rule → Type 0) (marks : ℕ) → ((before : Book) (rule : Rule) → JudgedWell marks before rule → Q rule)
    → (text : List ℕ) (book : Book) → read_book marks text ≡ Ok book → (rule : Rule) → Memᴰ rule book → Q rule
each_rule Q marks one text book e =
    along_lines All marks next text (λ rule m. absurd (Memᴰ.not-nil m)) book e
  where
    All : Book → Type 0
    All rules = (rule : Rule) → Memᴰ rule rules → Q rule

    next : (before : Book) (rule : Rule) → JudgedWell marks before rule → All before → All (with_rule before rule)
    next before rule well all other m = go (Memᴰ.append_cases before m)
      where
        go : Memᴰ other before ⊎ Memᴰ other (rule ∷ []) → Q other
        go (inl m) = all other m
        go (inr m) = rw (Memᴰ.eq_of_singleton m) (one before rule well)

-- ---- what is so known

-- A book that was read has its timed formulas where they may be.
pub book_fit : (marks : ℕ) (text : List ℕ) (book : Book) → read_book marks text ≡ Ok book → FitBook book
unfolding FitBook
book_fit marks text book e = each_rule (λ rule. timed_right rule.formula ≡ true) marks (λ before rule well. well.timed) text book e

-- One rule more: its nodes come behind the others.
nodes_more : (before : Book) (rule : Rule) → length (nodes (with_rule before rule)) ≡ length (nodes before) + size rule.formula
unfolding nodes size joined
nodes_more before rule =
    let of : Rule → List Formula = λ r. parts r.formula in
    let e = ap (λ z. length (joined z)) (map-append of before (rule ∷ [])) ∙ ap length (joined_append (map of before) (of rule ∷ [])) in
    e ∙ length-append (joined (map of before)) (parts rule.formula ++ [])
    ∙ ap (λ z. length (joined (map of before)) + z) (length-append (parts rule.formula) [] ∙ omega arith)

few_more : (marks : ℕ) (before : Book) (rule : Rule) → JudgedWell marks before rule → length (nodes before) ≤ 60
    → length (nodes (with_rule before rule)) ≤ 60
unfolding over_limit most_nodes
few_more marks before rule well few =
    let small = ltb-false 60 (length (nodes before) + size rule.formula)
    (or_fails_left (ltb 60 (length (nodes before) + size rule.formula)) (ltb most_brackets well.brackets) well.limits) in
    omega (arith, nodes_more before rule)

-- A book that was read has at most 60 nodes.
pub book_few : (marks : ℕ) (text : List ℕ) (book : Book) → read_book marks text ≡ Ok book → length (nodes book) ≤ 60
unfolding nodes joined
book_few marks text book e = along_lines (λ rules. length (nodes rules) ≤ 60) marks (few_more marks) text (omega arith) book e
