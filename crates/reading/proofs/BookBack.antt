-- A line and a book that are spelled are read back.
use Prim.Native.Nat.{ℕ, zero, suc, ◌+◌, ◌-◌, ◌≤◌, ◌<◌, max}
use native.Mathlib.Omega.{arith}
use mathlib.Core.Path.{◌≡◌, refl, sym, ◌∙◌, ap, ap₂}
use mathlib.Core.Bool.{true, false}
use mathlib.Core.List.{List, [], ◌∷◌, ◌++◌, map, append_assoc, append-nil, map-append}
use mathlib.Core.List.{Memᴰ}
use lib.ListN.{length, drop, length-append}
use borrow.Author.Tests.{le-leb, lt-leb, le-ltb}
use Rattle.base.specs.Lists.{begins, joined}
use Rattle.base.specs.Text.{ascii}
use Rattle.base.specs.Recursion.{run}
use Rattle.base.specs.Recursion as Deep
use Rattle.base.specs.Answers.{Answer, ◌if◌else◌, ◌then◌}
use Rattle.std.specs.Prelude.{Err, Ok}
use Rattle.base.specs.declared.Refusal.TheVariants.{Grammar, Limit}
use Rattle.base.proofs.Lists.{joined_append}
use Rattle.base.proofs.Answers.{if_on}
use Rattle.logic.specs.Book.{Formula, parts, size, nodes, timed_right, at_start, everywhere, Rule, Book, FitBook}
use Rattle.reading.specs.Tokens.{stands, skip, is_digit}
use Rattle.reading.specs.Grammar.{got, formula_at}
use Rattle.reading.specs.BookReading as Reading
use Rattle.reading.specs.BookReading.{most_bytes, most_nodes, most_brackets, usual_bound, ended, worded, line_at, over_number, over_mark, over_limit, ReadSoFar, judge_line, lines_step, read_lines, read_book}
use Rattle.reading.specs.Spelling.{spaces, or_units, Spells, word, SpellsLine, spells_line, SpellsBook, spells_none, spells_more, WithinLimits, BookOf}
use Rattle.reading.proofs.TextPlaces.{Span, Pieces, span_inside, span_left, span_right, pieces, behind_piece, piece_byte, pieces_end}
use Rattle.reading.proofs.FormulaBack.{past_spaces, is_there, spelled_clear, formula_back}

-- ---- lines

module _ (usual : ℕ) (s : List ℕ) (p : ℕ) where
  -- a line of either word, by the formula behind the word
  everywhere_at : (i : ℕ) (ts : List (List ℕ)) (rest : List ℕ) (f : Formula) (b q : ℕ) → drop p s ≡ joined (ascii "always" ∷ spaces (suc i) ∷ ts) ++ rest
      → formula_at usual s (skip s (p + 6)) ≡ got f b q → stands s q 10 ≡ true → line_at usual s p ≡ Reading.line everywhere f b (q + 1)
  unfolding line_at worded ended begins joined ascii
  everywhere_at i ts rest f b q h g st = rw (h, g, st)

  start_at : (i : ℕ) (ts : List (List ℕ)) (rest : List ℕ) (f : Formula) (b q : ℕ) → drop p s ≡ joined (ascii "start" ∷ spaces (suc i) ∷ ts) ++ rest
      → formula_at usual s (skip s (p + 5)) ≡ got f b q → stands s q 10 ≡ true → line_at usual s p ≡ Reading.line at_start f b (q + 1)
  unfolding line_at worded ended begins joined ascii
  start_at i ts rest f b q h g st = rw (h, g, st)

-- the formula behind the word, and its end
formula_there : {usual : ℕ} {s : List ℕ} {q : ℕ} (i : ℕ) {f : Formula} {b : ℕ} {text rest : List ℕ} {e : ℕ} → Spells usual or_units f b text
    → Pieces s q (spaces (suc i) ∷ text ∷ ascii "\n" ∷ []) rest e
    → (formula_at usual s (skip s q) ≡ got f b (skip s q + length text)) × (stands s (skip s q + length text) 10 ≡ true) × (e ≡ skip s q + length text + 1)
unfolding joined ascii is_digit
formula_there {s = s} {q} i {text = text} {rest = rest} {e = e} spelled h =
    let here = past_spaces (suc i) (spelled_clear spelled) h in
    let spaced : Pieces s (skip s q) (text ∷ spaces 0 ∷ ascii "\n" ∷ []) rest e = record { text = here.text; ends = here.ends } in
    let end = behind_piece here in
    (formula_back spelled 0 10 spaced refl refl refl refl, is_there s (skip s q + length text) 10 (piece_byte end), pieces_end (behind_piece end))

-- A line that is spelled is read back.
pub line_read : {usual : ℕ} {rule : Rule} {b : ℕ} {text : List ℕ} → SpellsLine usual rule b text → {s : List ℕ} {p : ℕ} {rest : List ℕ} {e : ℕ} → Span s p text rest e
    → line_at usual s p ≡ Reading.line rule.form rule.formula b e
unfolding word ascii
line_read (spells_line everywhere i {f = f} {b = b} {text = text} spelled) {s} {p} {rest} {e} h =
    let h : Pieces s p (ascii "always" ∷ spaces (suc i) ∷ text ∷ ascii "\n" ∷ []) rest e = pieces _ h in
    let (g, st, end) = formula_there i spelled (behind_piece h) in
    everywhere_at _ s p i (text ∷ ascii "\n" ∷ []) rest f b _ h.text g st ∙ ap (Reading.line everywhere f b) (sym end)
line_read (spells_line at_start i {f = f} {b = b} {text = text} spelled) {s} {p} {rest} {e} h =
    let h : Pieces s p (ascii "start" ∷ spaces (suc i) ∷ text ∷ ascii "\n" ∷ []) rest e = pieces _ h in
    let (g, st, end) = formula_there i spelled (behind_piece h) in
    start_at _ s p i (text ∷ ascii "\n" ∷ []) rest f b _ h.text g st ∙ ap (Reading.line at_start f b) (sym end)

-- ---- books

-- the nodes of a book around one of its rules
pub nodes_around : (before : Book) (rule : Rule) (book : Book)
    → length (nodes (before ++ (rule ∷ book))) ≡ length (nodes before) + (size rule.formula + length (nodes book))
unfolding nodes size joined
nodes_around before rule book =
    let of : Rule → List Formula = λ r. parts r.formula in
    ap (λ z. length (joined z)) (map-append of before (rule ∷ book)) ∙ ap length (joined_append (map of before) (of rule ∷ map of book))
    ∙ length-append (joined (map of before)) (of rule ++ joined (map of book))
    ∙ ap (λ z. length (joined (map of before)) + z) (length-append (of rule) (joined (map of book)))

-- A rule that no limit turns down.
record FitRule (marks : ℕ) (rule : Rule) : Type 0 where
  numbers : over_number rule.formula ≡ false
  propositions : over_mark marks rule.formula ≡ false
  timed : timed_right rule.formula ≡ true

-- A line within the limits is judged well.
judged_well : (marks : ℕ) (before : Book) (rule : Rule) (b q : ℕ) → FitRule marks rule → length (nodes before) + size rule.formula ≤ 60 → b ≤ 16
    → judge_line marks before (Reading.line rule.form rule.formula b q) ≡ Ok (record { rules = before ++ (rule ∷ []); place = q })
unfolding judge_line ◌if◌else◌ over_limit most_nodes most_brackets
judged_well marks before rule b q fit few low =
    rw (fit.numbers, fit.propositions, le-ltb 60 (length (nodes before) + size rule.formula) few, le-ltb 16 b low, fit.timed)

-- a line has bytes
pub line_some : {usual : ℕ} {rule : Rule} {b : ℕ} {line : List ℕ} → SpellsLine usual rule b line → 1 ≤ length line
unfolding joined word ascii
line_some (spells_line everywhere i spelled) = omega arith
line_some (spells_line at_start i spelled) = omega arith

module _ (marks : ℕ) (s : List ℕ) where
  -- the lines from here on, at most n deep
  unfoldable pub lines_deep : ℕ → ReadSoFar → Answer Book
  lines_deep n here = Deep.to_depth (λ (h : ReadSoFar). length s - h.place) (λ h. Err (Grammar (length h.rules))) (lines_step usual_bound marks s) n here

  lines_end : (n : ℕ) (before : Book) (p : ℕ) → length s ≤ p → lines_deep (suc n) (record { rules = before; place = p }) ≡ Ok before
  unfolding lines_deep Deep.to_depth lines_step
  lines_end n before p le = rw (le-leb (length s) p le)

  lines_on : (n : ℕ) (before : Book) (p : ℕ) (on : ReadSoFar) → p < length s → judge_line marks before (line_at usual_bound s p) ≡ Ok on
      → lines_deep (suc n) (record { rules = before; place = p }) ≡ lines_deep n on
  unfolding lines_deep Deep.to_depth lines_step ◌then◌
  lines_on n before p on lt e = rw (lt-leb (length s) p lt, e)

  -- one line more
  line_more : (rule : Rule) (book : Book) (b c : ℕ) (line text rest : List ℕ) → SpellsLine usual_bound rule b line → (before : Book) (p e n : ℕ)
      → Span s p (line ++ text) rest e → length s - p < suc n → FitRule marks rule → length (nodes (before ++ (rule ∷ book))) ≤ 60 → max b c ≤ 16
      → lines_deep (suc n) (record { rules = before; place = p }) ≡ lines_deep n (record { rules = before ++ (rule ∷ []); place = p + length line })
  line_more rule book b c line text rest first before p e n h lt fit few low =
      let here = span_left line text h in
      let told = ap (judge_line marks before) (line_read first here)
      ∙ judged_well marks before rule b (p + length line) fit (omega (arith, nodes_around before rule book)) (omega (arith, low)) in
      lines_on n before p _ (omega (arith, span_inside here (line_some first), line_some first)) told

  line_shorter : {rule : Rule} {b : ℕ} {line : List ℕ} (text rest : List ℕ) (p n : ℕ) → {e : ℕ} → SpellsLine usual_bound rule b line → Span s p (line ++ text) rest e
      → length s - p < suc n → length s - (p + length line) < n
  line_shorter {line = line} text rest p n first h lt =
      let here = span_left line text h in
      omega (arith, span_inside here (line_some first), line_some first)

  -- the lines of a book, and then whatever is said of the rest
  lines_through : {book : Book} {c : ℕ} {text : List ℕ} → SpellsBook usual_bound book c text → (before : Book) (p e n : ℕ) (rest : List ℕ) → Span s p text rest e
      → length s - p < n → ((rule : Rule) → Memᴰ rule book → FitRule marks rule) → length (nodes (before ++ book)) ≤ 60 → c ≤ 16
      → (r : Answer Book) → ((m : ℕ) → length s - e < m → lines_deep m (record { rules = before ++ book; place = e }) ≡ r)
      → lines_deep n (record { rules = before; place = p }) ≡ r
  lines_through spells_none before p e n rest h lt fit few low r after =
      ap₂ (λ (z : Book) (q : ℕ). lines_deep n (record { rules = z; place = q })) (sym (append-nil before)) (omega (arith, h.ends)) ∙ after n (omega (arith, h.ends))
  lines_through (spells_more first others) before p e zero rest h lt fit few low r after = absurd (omega arith)
  lines_through (spells_more {rule = rule} {book = book} {b = b} {c = c} {line = line} {text = text} first others) before p e (suc n) rest h lt fit few low r after =
      line_more rule book b c line text rest first before p e n h lt (fit rule (Memᴰ.head refl)) few low
      ∙ lines_through others (before ++ (rule ∷ [])) (p + length line) e n rest (span_right line text h) (line_shorter text rest p n first h lt)
      (λ other m. fit other (Memᴰ.tail m)) (rw (append_assoc before (rule ∷ []) book) few) (omega (arith, low)) r
      (λ m l. ap (λ (z : Book). lines_deep m (record { rules = z; place = e })) (append_assoc before (rule ∷ []) book) ∙ after m l)

-- what no limit turns down, rule by rule
fit_rules : {marks : ℕ} {book : Book} {b : ℕ} → WithinLimits marks book b → (rule : Rule) → Memᴰ rule book → FitRule marks rule
unfolding FitBook
fit_rules limits rule m = record { numbers = limits.numbers rule m; propositions = limits.propositions rule m; timed = limits.timed rule m }

module _ {marks : ℕ} {text : List ℕ} {before : Book} {b : ℕ} {begun : List ℕ} (rest : List ℕ) (spells : SpellsBook usual_bound before b begun) (limits : WithinLimits marks before b)
    (short : length text ≤ most_bytes) (all : text ≡ begun ++ rest) where
  -- A text that begins with a book is read up to its end, and then on.
  pub read_through : (r : Answer Book)
      → ((m : ℕ) → length text - length begun < m → lines_deep marks text m (record { rules = before; place = length begun }) ≡ r) → read_book marks text ≡ r
  unfolding read_book read_lines run lines_deep most_bytes most_nodes most_brackets
  read_through r after =
      if_on (Limit 0) (read_lines usual_bound marks text) (le-ltb 4096 (length text) short)
      ∙ lines_through marks text spells [] 0 (length begun) (suc (length text - 0)) rest (record { text = all; ends = omega arith }) (omega arith)
      (fit_rules limits) limits.few_nodes limits.few_brackets r after

-- A book that is spelled within the limits is read back.
pub book_read : {marks : ℕ} {text : List ℕ} {book : Book} → BookOf marks text book → read_book marks text ≡ Ok book
book_read {marks} {text} {book} h = read_through [] h.spells h.limits h.few_bytes (sym (append-nil text)) (Ok book) last
  where
    last : (m : ℕ) → length text - length text < m → lines_deep marks text m (record { rules = book; place = length text }) ≡ Ok book
    last zero lt = absurd (omega arith)
    last (suc m) lt = lines_end marks text m book (length text) (omega arith)
