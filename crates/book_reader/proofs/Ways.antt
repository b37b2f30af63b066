-- The laws of the line readers and of the entry: one for each way through the code.
use Prim.Native.Nat.{ℕ, ◌+◌, ◌-◌, ◌*◌, ◌≤◌, ◌<◌}
use native.Mathlib.Omega.{arith}
use native.Mathlib.Numerals.{towards_suc}
use mathlib.Core.Path.{◌≡◌, refl, sym, ◌∙◌, ap}
use mathlib.Core.Bool.{Bool, true, false, not}
use mathlib.Core.List.{List, [], ◌∷◌, ◌++◌}
use lib.ListN.{length, set, take, drop, replicate, length-set, length-drop}
use lib.Seq.{sets, take-length, take-set-le, get_or-set_same, get_or-set_other}
use lib.Dec.{eqb, leb}
use borrow.Author.Tests.{lt-ltb, le-ltb, le-leb, lt-leb, leb-false, ne_eqb}
use Rattle.base.specs.Choice.{pick}
use Rattle.base.specs.Text.{ascii}
use Rattle.base.specs.Bytes.{byte_at, long_enough, cleared}
use Rattle.base.specs.Lists.{begins, joined}
use Rattle.base.specs.Answers.{book_said, Answer, ◌if◌else◌, ◌then◌}
use Rattle.std.specs.Prelude.{Option, None, Some, Err, Ok}
use Rattle.std.specs.Option.{ok_or}
use Rattle.std.specs.Result.{IsErrAnd}
use Rattle.std.specs.List.{starts_with}
use Rattle.base.specs.declared.Refusal.{Refusal}
use Rattle.base.specs.declared.Refusal.TheVariants.{Range, Grammar, Number, Mark, Limit, Timed, Area}
use Rattle.base.specs.Answers.{BookAnswer, book_of_size}
use Rattle.base.proofs.Recursion.{Falls, run_eq}
use Rattle.base.proofs.Answers.{give_one, gives_not_refuses, if_gives, then_on, then_stays}
use Rattle.logic.specs.Tower.{most_marks}
use Rattle.logic.specs.Book.{Formula, Form, at_start, everywhere, nodes}
use Rattle.logic.specs.Book as Logic
use Rattle.reading.specs.Tokens.{stands, skip}
use Rattle.reading.specs.Grammar.{bad, got, formula_at}
use Rattle.reading.specs.BookArea.{lines_at, node_count_at, line_count_at, HoldsBook, form_code}
use Rattle.reading.specs.BookReading as Reading
use Rattle.reading.specs.BookReading.{most_bytes, usual_bound, ReadSoFar, judge_line, line_at, worded, ended, lines_step, read_lines, read_book}
use Rattle.outcome.specs.Areas.{book_areas}
use Rattle.outcome.specs.ReadBook.{book_answer, book_under, read_outcome}
use Rattle.book_tokens.proofs.Laws.{begins_started}
use Rattle.book_nodes.specs.State.{absorb, fault_at, timed_at, marks_at, usual_at, state_of, usual_in, last_node}
use Rattle.book_nodes.proofs.Area.{byte_set, state, state_sets}
use Rattle.book_formula.specs.Parse.{Reads, not_of, is_read}
use Rattle.reading.proofs.SpelledLines.{line_ends}
use Rattle.book_reader.specs.declared.Line.{Line}
use Rattle.book_reader.specs.Lines.{LineRead, not_line, is_line, RestRead, judged, put_line, PutsLine, Keeps, HeldSoFar, Turned, turned_down, gone_on, Turns, lines_from, Coming, Answers, Outcome}
use Rattle.book_reader.proofs.Kept.{keeps_none, holds_whole}
use Rattle.book_reader.proofs.Judging.{Verdict, down, fine, line_judged, held_more}

-- ---- lines

ended_bad : (usual : ℕ) (s : List ℕ) (form : Form) (at : ℕ) → formula_at usual s (skip s at) ≡ bad → ended s form (formula_at usual s (skip s at)) ≡ Reading.no_line
unfolding ended
ended_bad usual s form at e = rw e

ended_not : (usual : ℕ) (s : List ℕ) (form : Form) (at : ℕ) (f : Formula) (b q : ℕ) → formula_at usual s (skip s at) ≡ got f b q → (byte_at s q ≡ 10 → ⊥)
    → ended s form (formula_at usual s (skip s at)) ≡ Reading.no_line
unfolding ended stands
ended_not usual s form at f b q e n = rw (e, ne_eqb (byte_at s q) 10 n)

ended_read : (usual : ℕ) (s : List ℕ) (form : Form) (at : ℕ) (f : Formula) (b q : ℕ) → formula_at usual s (skip s at) ≡ got f b q → byte_at s q ≡ 10
    → ended s form (formula_at usual s (skip s at)) ≡ Reading.line form f b (q + 1)
unfolding ended stands
ended_read usual s form at f b q e n = rw (e, n)

module _ (s : List ℕ) (at form k : ℕ) (a z : List ℕ) (e : k ≡ skip s at) where
  pub rest_bad : (x : Option Line) → x ≡ None → Reads (formula_at (usual_in a) s k) 16 a z None → RestRead x s at form a z
  rest_bad x none (not_of f) =
      record { reads = λ c d. rw none (not_line (ended_bad (usual_in a) s c at (ap (formula_at (usual_in a) s) (sym e) ∙ f))) }

  module _ (r : ℕ) (read : Reads (formula_at (usual_in a) s k) 16 a z (Some r)) (b : ℕ) (is_b : b ≡ byte_at s r) where
    pub rest_unended : (b ≡ 10 → ⊥) → RestRead None s at form a z
    rest_unended m = go read
      where
        go : Reads (formula_at (usual_in a) s k) 16 a z (Some r) → RestRead None s at form a z
        go (is_read f d _ g i) =
            record { reads = λ c o. not_line (ended_not (usual_in a) s c at f d r (ap (formula_at (usual_in a) s) (sym e) ∙ g) (λ j. m (is_b ∙ j))) }

    pub rest_read : b ≡ 10 → RestRead (Some (record { form = form; next = r + 1 })) s at form a z
    rest_read m = go read
      where
        go : Reads (formula_at (usual_in a) s k) 16 a z (Some r) → RestRead (Some (record { form = form; next = r + 1 })) s at form a z
        go (is_read f d _ g i) =
            record {
              reads = λ c o.
                  is_line c f d (record { form = form; next = r + 1 })
                  (ended_read (usual_in a) s c at f d r (ap (formula_at (usual_in a) s) (sym e) ∙ g) (sym is_b ∙ m)) o i;
            }

always_code : 1 ≡ form_code everywhere
unfolding form_code
always_code = refl

start_code : 0 ≡ form_code at_start
unfolding form_code
start_code = refl

line_first : (usual : ℕ) (s : List ℕ) (at : ℕ) → begins (97 ∷ 108 ∷ 119 ∷ 97 ∷ 121 ∷ 115 ∷ 32 ∷ []) (drop at s) ≡ true
    → line_at usual s at ≡ ended s everywhere (formula_at usual s (skip s (at + 6)))
unfolding line_at worded ascii
line_first usual s at e = rw e

line_second : (usual : ℕ) (s : List ℕ) (at : ℕ) → begins (97 ∷ 108 ∷ 119 ∷ 97 ∷ 121 ∷ 115 ∷ 32 ∷ []) (drop at s) ≡ false
    → begins (115 ∷ 116 ∷ 97 ∷ 114 ∷ 116 ∷ 32 ∷ []) (drop at s) ≡ true → line_at usual s at ≡ ended s at_start (formula_at usual s (skip s (at + 5)))
unfolding line_at worded ascii
line_second usual s at e f = rw (e, f)

line_third : (usual : ℕ) (s : List ℕ) (at : ℕ) → begins (97 ∷ 108 ∷ 119 ∷ 97 ∷ 121 ∷ 115 ∷ 32 ∷ []) (drop at s) ≡ false
    → begins (115 ∷ 116 ∷ 97 ∷ 114 ∷ 116 ∷ 32 ∷ []) (drop at s) ≡ false → line_at usual s at ≡ Reading.no_line
unfolding line_at worded ascii
line_third usual s at e f = rw (e, f)

-- The words that the rest of the text may start with.
abbrev always_word : List ℕ
always_word = 97 ∷ 108 ∷ 119 ∷ 97 ∷ 121 ∷ 115 ∷ 32 ∷ []

abbrev start_word : List ℕ
start_word = 115 ∷ 116 ∷ 97 ∷ 114 ∷ 116 ∷ 32 ∷ []

-- The rest of the text begins with a word.
rest_begins : (s : List ℕ) (at : ℕ) (word : List ℕ) (t : Bool) → t ≡ starts_with eqb (take (length s - at) (drop at s)) word → begins word (drop at s) ≡ t
rest_begins s at word t e =
    let rest : take (length s - at) (drop at s) ≡ drop at s = ap (λ (n : ℕ). take n (drop at s)) (sym (length-drop at s)) ∙ take-length (drop at s) in
    sym (begins_started word (drop at s) t (e ∙ ap (λ (l : List ℕ). starts_with eqb l word) rest))

module _ (s : List ℕ) (at : ℕ) (t : Bool) (a z : List ℕ) (r : Option Line) (is_t : t ≡ starts_with eqb (take (length s - at) (drop at s)) always_word) where
  pub line_always : t ≡ true → RestRead r s (at + 6) 1 a z → LineRead (line_at (usual_in a) s at) a z r
  line_always e h = rw (line_first (usual_in a) s at (rest_begins s at always_word t is_t ∙ e)) (h.reads everywhere always_code)

  module _ (other : t ≡ false) (u : Bool) (is_u : u ≡ starts_with eqb (take (length s - at) (drop at s)) start_word) where
    pub line_start : u ≡ true → RestRead r s (at + 5) 0 a z → LineRead (line_at (usual_in a) s at) a z r
    line_start e h =
        rw (line_second (usual_in a) s at (rest_begins s at always_word t is_t ∙ other)
        (rest_begins s at start_word u is_u ∙ e)) (h.reads at_start start_code)

module _ (s : List ℕ) (at : ℕ) (t u : Bool) (a : List ℕ) where
  pub line_none : t ≡ starts_with eqb (take (length s - at) (drop at s)) always_word → t ≡ false
      → u ≡ starts_with eqb (take (length s - at) (drop at s)) start_word → u ≡ false
      → LineRead (line_at (usual_in a) s at) a a None
  line_none e f g k =
      not_line (line_third (usual_in a) s at (rest_begins s at always_word t e ∙ f) (rest_begins s at start_word u g ∙ k))

-- ---- one line

-- The line is read with the usual bound.
usual_line : {marks : ℕ} {rules : Logic.Book} {lines : ℕ} (s : List ℕ) (at : ℕ) (a : List ℕ) → HeldSoFar marks rules lines a
    → line_at usual_bound s at ≡ line_at (usual_in a) s at
usual_line s at a held = ap (λ (u : ℕ). line_at u s at) (sym held.known_usual)

-- What a `?` passes on.
passed {ℓ} : {A : Type 0} (P : Answer A → Type ℓ) (r : Answer A) (w : Refusal) → IsErrAnd r (λ e. e ≡ w) → P (Err w) → P r
passed P (Ok x) w e h = absurd e
passed P (Err v) w e h = rw e h

-- The refusal in place of a line that is not there.
missing : (o : Option Line) (v w : Refusal) → Err v ≡ ok_or {T = Line} o w → o ≡ None → v ≡ w
missing None v w e f = cc
missing (Some l) v w e f = cc

pub one_bad : (s : List ℕ) (at line : ℕ) (o : Option Line) (r : Answer ℕ) (v w : Refusal) (a z : List ℕ) → IsErrAnd r (λ e. e ≡ w)
    → Err w ≡ ok_or {T = Line} o v → o ≡ None → v ≡ Grammar line → LineRead (line_at (usual_in a) s at) a z o → Turns r s at line a z
unfolding judge_line
one_bad s at line o r v w a z pass told none is_v read =
    passed (λ r. Turns r s at line a z) r w pass (rw (missing o w v told none, is_v) (go (rw none at read)))
  where
    go : LineRead (line_at (usual_in a) s at) a z None → Turns (Err (Grammar line)) s at line a z
    go (not_line e) =
        record {
          from = λ marks rules le inside held.
              turned_down (Grammar line) (ap (judge_line marks rules) (usual_line s at a held ∙ e) ∙ ap (λ (n : ℕ). Err (Grammar n)) held.count_lines);
        }

module _ (s : List ℕ) (at line : ℕ) (a y : List ℕ) (l : Line) (o : Option Line) (there : o ≡ Some l) (read_o : LineRead (line_at (usual_in a) s at) a y o) where
  read : LineRead (line_at (usual_in a) s at) a y (Some l)
  read = rw there at read_o

  pub one_refused : (r : Answer ℕ) (why : Refusal) → IsErrAnd r (λ e. e ≡ why) → Err why ≡ judged line l.next (state_of y) → Turns r s at line a y
  one_refused r why pass h = passed (λ r. Turns r s at line a y) r why pass (go read)
    where
      finish : (marks : ℕ) (rules : Logic.Book) (form : Form) (f : Formula) (b : ℕ) → Verdict (Err why) marks rules form f b l.next y
          → line_at usual_bound s at ≡ Reading.line form f b l.next
          → Turned (judge_line marks rules (line_at usual_bound s at)) marks line y (Err why)
      finish marks rules form f b (down w j k) d =
          let same : w ≡ why = cc in turned_down why (ap (judge_line marks rules) d ∙ j ∙ ap (λ (x : Refusal). Err x) same)
      finish marks rules form f b (fine j k m n p u) d = let x : ◌≡◌ {A = ℕ} 0 1 = cc in absurd (omega arith)

      go : LineRead (line_at (usual_in a) s at) a y (Some l) → Turns (Err why) s at line a y
      go (is_line form f b _ e k o) =
          record { from = λ marks rules le inside held. finish marks rules form f b (line_judged marks rules line a held form f b y o l.next (Err why) h) (usual_line s at a held ∙ e) }

  pub one_next : (after : ℕ) (z : List ℕ) → 512 ≤ length a → Ok after ≡ judged line l.next (state_of y) → PutsLine line l.form y z → Turns (Ok after) s at line a z
  one_next after z long h puts = go read
    where
      finish : (marks : ℕ) (rules : Logic.Book) (form : Form) (f : Formula) (b : ℕ) → state_of y ≡ absorb 16 b f (state_of a) → marks ≤ 16 → HeldSoFar marks rules line a
          → Verdict (Ok after) marks rules form f b l.next y
          → line_at usual_bound s at ≡ Reading.line form f b l.next → PutsLine line (form_code form) y z
          → Turned (judge_line marks rules (line_at usual_bound s at)) marks line z (Ok after)
      finish marks rules form f b o le held (down w j k) d p = let x : ◌≡◌ {A = ℕ} 0 1 = cc in absurd (omega arith)
      finish marks rules form f b o le held (fine j k m n u v) d p =
          let same : after ≡ l.next = cc in
          rw same
          (gone_on (rules ++ (record { form = form; formula = f } ∷ [])) l.next (ap (judge_line marks rules) d ∙ j)
          (held_more marks rules line a held form f b y o l.next z le long m n u v p))

      go : LineRead (line_at (usual_in a) s at) a y (Some l) → Turns (Ok after) s at line a z
      go (is_line form f b _ e k o) =
          record {
            from = λ marks rules le inside held.
                finish marks rules form f b o le held (line_judged marks rules line a held form f b y o l.next (Ok after) h) (usual_line s at a held ∙ e) (rw k at puts);
          }

-- ---- all lines

no_give {ℓ} : {C : Type ℓ} (marks : ℕ) (rules : Logic.Book) (pr : ReadSoFar) → judge_line marks rules Reading.no_line ≡ Ok pr → C
unfolding judge_line
no_give marks rules pr f = let x : ◌≡◌ {A = ℕ} 0 1 = cc in absurd (omega arith)

given_place : (rules : Logic.Book) (form : Form) (f : Formula) (q : ℕ) (pr : ReadSoFar)
    → ◌≡◌ {A = Answer _} (Ok (record { rules = rules ++ (record { form = form; formula = f } ∷ []); place = q })) (Ok pr) → q ≡ pr.place
given_place rules form f q pr e = ap (λ (x : ReadSoFar). x.place) (give_one e)

judge_given : (marks : ℕ) (rules : Logic.Book) (form : Form) (f : Formula) (b q : ℕ) (pr : ReadSoFar)
    → judge_line marks rules (Reading.line form f b q) ≡ Ok pr → q ≡ pr.place
unfolding judge_line
judge_given marks rules form f b q pr e =
    let (_, e2) = if_gives (Number (length rules)) (Reading.over_number f) _ e in
    let (_, e3) = if_gives (Mark (length rules)) (Reading.over_mark marks f) _ e2 in
    let (_, e4) = if_gives (Limit (length rules)) (Reading.over_limit rules f b) _ e3 in
    let (_, e5) = if_gives (Timed (length rules)) (not (Logic.timed_right f)) _ e4 in
    given_place rules form f q pr e5

judge_place : (marks : ℕ) (rules : Logic.Book) (x : Reading.Line) (s : List ℕ) (p : ℕ) (pr : ReadSoFar) → line_at usual_bound s p ≡ x
    → judge_line marks rules x ≡ Ok pr → (p < pr.place) × (pr.place ≤ length s)
judge_place marks rules Reading.no_line s p pr e f = no_give marks rules pr f
judge_place marks rules (Reading.line form f b q) s p pr e g = rw (judge_given marks rules form f b q pr g) at (line_ends usual_bound s p form f b q e)

then_refused : (w : Refusal) (f g : ReadSoFar → Answer Logic.Book) → (Err w then f) ≡ (Err w then g)
unfolding ◌then◌
then_refused w f g = refl

then_given : (pr : ReadSoFar) (f g : ReadSoFar → Answer Logic.Book) → f pr ≡ g pr → (Ok pr then f) ≡ (Ok pr then g)
unfolding ◌then◌
then_given pr f g e = e

lines_fall : (marks : ℕ) (s : List ℕ)
    → Falls (λ (here : ReadSoFar). length s - here.place) (λ here. Err (Grammar (length here.rules))) (lines_step usual_bound marks s) (λ here r. Unit {0})
unfolding lines_step
lines_fall marks s =
    record {
      at_stop = λ x. tt;
      kept = λ x f h. tt;
      same = λ x f g h agree. step x f g agree (leb (length s) x.place) refl;
    }
  where
    more : (x : ReadSoFar) (f g : ReadSoFar → Answer Logic.Book)
        → ((y : ReadSoFar) → length s - y.place < length s - x.place → f y ≡ g y) → x.place < length s
        → (o : Answer ReadSoFar) → judge_line marks x.rules (line_at usual_bound s x.place) ≡ o → (o then f) ≡ (o then g)
    more x f g agree lt (Err w) e = then_refused w f g
    more x f g agree lt (Ok pr) e =
        let (ahead, inside) = judge_place marks x.rules (line_at usual_bound s x.place) s x.place pr refl e in
        then_given pr f g (agree pr (omega arith))

    step : (x : ReadSoFar) (f g : ReadSoFar → Answer Logic.Book)
        → ((y : ReadSoFar) → length s - y.place < length s - x.place → f y ≡ g y)
        → (t : Bool) → leb (length s) x.place ≡ t
        → pick (leb (length s) x.place) (λ _. Ok x.rules) (λ _. judge_line marks x.rules (line_at usual_bound s x.place) then f)
        ≡ pick (leb (length s) x.place) (λ _. Ok x.rules) (λ _. judge_line marks x.rules (line_at usual_bound s x.place) then g)
    step x f g agree true e = rw e
    step x f g agree false e =
        rw e (more x f g agree (leb-false (length s) x.place e) (judge_line marks x.rules (line_at usual_bound s x.place)) refl)

lines_eq : (marks : ℕ) (s : List ℕ) (here : ReadSoFar) → lines_from marks s here ≡ lines_step usual_bound marks s here (lines_from marks s)
unfolding lines_from
lines_eq marks s here =
    run_eq (λ (h : ReadSoFar). length s - h.place) (λ h. Err (Grammar (length h.rules))) (lines_step usual_bound marks s) (λ h r. Unit {0}) (lines_fall marks s) here

lines_over : (marks : ℕ) (s : List ℕ) (rules : Logic.Book) (at : ℕ) → length s ≤ at → lines_from marks s (record { rules = rules; place = at }) ≡ Ok rules
unfolding lines_step
lines_over marks s rules at le = lines_eq marks s (record { rules = rules; place = at }) ∙ rw (le-leb (length s) at le)

lines_on : (marks : ℕ) (s : List ℕ) (rules : Logic.Book) (at : ℕ) → at < length s
    → lines_from marks s (record { rules = rules; place = at }) ≡ (judge_line marks rules (line_at usual_bound s at) then lines_from marks s)
unfolding lines_step
lines_on marks s rules at lt = lines_eq marks s (record { rules = rules; place = at }) ∙ rw (lt-leb (length s) at lt)

pub coming_start : (marks : ℕ) (s a : List ℕ) → HeldSoFar marks [] 0 a → Coming marks s 0 0 a a
unfolding lines_from read_lines
coming_start marks s a h = record { long = refl; rules = []; held = h; same = refl }

module _ (marks : ℕ) (s : List ℕ) (at lines : ℕ) (l a z : List ℕ) (le : marks ≤ 16) (h : Coming marks s at lines l a) (lt : at < length s) where
  pub coming_on : (next : ℕ) → Turns (Ok next) s at lines a z → length z ≡ length a → Coming marks s next (lines + 1) l z
  coming_on next turns len = finish (turns.from marks h.rules le lt h.held)
    where
      finish : Turned (judge_line marks h.rules (line_at usual_bound s at)) marks lines z (Ok next) → Coming marks s next (lines + 1) l z
      finish (gone_on rules _ f held) =
          record {
            long = len ∙ h.long;
            rules = rules;
            held = held;
            same = sym (lines_on marks s h.rules at lt ∙ then_on (lines_from marks s) f) ∙ h.same;
          }

  pub coming_less : (next : ℕ) → Turns (Ok next) s at lines a z → length s - next < length s - at
  coming_less next turns = finish (turns.from marks h.rules le lt h.held)
    where
      finish : Turned (judge_line marks h.rules (line_at usual_bound s at)) marks lines z (Ok next) → length s - next < length s - at
      finish (gone_on rules _ f held) =
          let (ahead, inside) = judge_place marks h.rules (line_at usual_bound s at) s at (record { rules = rules; place = next }) refl f in
          omega arith

read_whole : (marks : ℕ) (s : List ℕ) → length s ≤ 4096 → read_book marks s ≡ read_lines usual_bound marks s
unfolding read_book ◌if◌else◌ most_bytes
read_whole marks s le = rw (le-ltb 4096 (length s) le)

answers_refused : (marks : ℕ) (s z : List ℕ) (why : Refusal) → read_book marks s ≡ Err why → Answers (Err why) marks s z
unfolding book_answer
answers_refused marks s z why e =
    record { answer = sym (ap book_answer e); area = λ book f. gives_not_refuses f e }

answers_read : (marks : ℕ) (s z : List ℕ) (rules : Logic.Book) {lines n : ℕ} → read_book marks s ≡ Ok rules → length rules ≡ lines
    → n ≡ length (nodes rules) → HoldsBook z rules → Answers (book_of_size lines n) marks s z
unfolding book_answer
answers_read marks s z rules e f g h =
    record {
      answer = rw (← f, g) (sym (ap book_answer e));
      area = λ book k. let same : rules ≡ book = give_one (sym e ∙ k) in rw same at h;
    }

count_byte : (a : List ℕ) → byte_at a node_count_at ≡ (state_of a).nodes.count
unfolding state_of
count_byte a = refl

kept_book : (a : List ℕ) (rules : Logic.Book) → Keeps (state_of a).nodes.kept rules → Keeps (take node_count_at a) rules
unfolding state_of
kept_book a rules h = h

pub lines_refused : (marks : ℕ) (s : List ℕ) (at lines : ℕ) (l a z : List ℕ) (r : BookAnswer) (why : Refusal) → IsErrAnd r (λ e. e ≡ why) → marks ≤ 16
    → length s ≤ 4096 → Coming marks s at lines l a → at < length s → Turns (Err why) s at lines a z → Answers r marks s z
lines_refused marks s at lines l a z r why pass le few h lt turns =
    passed (λ r. Answers r marks s z) r why pass (finish (turns.from marks h.rules le lt h.held))
  where
    finish : Turned (judge_line marks h.rules (line_at usual_bound s at)) marks lines z (Err why) → Answers (Err why) marks s z
    finish (turned_down _ f) =
        answers_refused marks s z why
        (read_whole marks s few ∙ sym h.same ∙ lines_on marks s h.rules at lt ∙ then_stays (lines_from marks s) f)

pub lines_read : (marks : ℕ) (s : List ℕ) (at lines m n : ℕ) (l a : List ℕ) → 512 ≤ length l → length s ≤ 4096 → Coming marks s at lines l a
    → length s ≤ at → m ≡ lines → n ≡ byte_at (set a line_count_at m) node_count_at
    → Answers (book_of_size lines n) marks s (set a line_count_at m)
lines_read marks s at lines m n l a room few h le told e =
    let counted : byte_at (set a line_count_at m) node_count_at ≡ length (nodes h.rules) =
    get_or-set_other a line_count_at node_count_at m 0 (λ x. omega arith) ∙ count_byte a ∙ h.held.counted in
    answers_read marks s (set a line_count_at m) h.rules (read_whole marks s few ∙ sym h.same ∙ lines_over marks s h.rules at le)
    h.held.count_lines (e ∙ counted)
    (holds_whole (set a line_count_at m) h.rules h.held.few (omega (arith, h.held.lined, h.held.few))
    (rw (take-set-le node_count_at a line_count_at m (omega arith)) (kept_book a h.rules h.held.book)) counted
    (get_or-set_same a line_count_at m 0 (omega (arith, h.long)) ∙ told ∙ sym h.held.count_lines))

pub book_long : (marks : ℕ) (s z : List ℕ) → 4096 < length s → Answers (Err (Limit 0)) marks s z
unfolding read_book ◌if◌else◌ most_bytes
book_long marks s z lt = answers_refused marks s z (Limit 0) (rw (lt-ltb 4096 (length s) lt))

-- ---- the entry

pub under_over : (marks : ℕ) (s : List ℕ) → 16 < marks → Err Range ≡ book_answer (book_under marks s)
unfolding book_answer book_under ◌if◌else◌ most_marks
under_over marks s lt = rw (lt-ltb 16 marks lt)

pub under_book : (marks : ℕ) (s z : List ℕ) (r : BookAnswer) → marks ≤ 16 → Answers r marks s z → r ≡ book_answer (book_under marks s)
unfolding book_under ◌if◌else◌ most_marks
under_book marks s z r le h = h.answer ∙ rw (le-ltb 16 marks le)

pub outcome_short : (marks : ℕ) (s a : List ℕ) → length a < 512 → Outcome (Err Area) marks s a a
unfolding read_outcome long_enough book_areas
outcome_short marks s a lt =
    record {
      answer = rw (lt-leb 512 (length a) lt);
      said = rw (lt-leb 512 (length a) lt);
      areas = rw (lt-leb 512 (length a) lt);
    }

pub outcome_whole : (marks : ℕ) (s a y z : List ℕ) (r : BookAnswer) → 512 ≤ length a → r ≡ book_answer (book_under marks s)
    → length y ≡ length a → z ≡ replicate (length y) 0 → Outcome r marks s a z
unfolding read_outcome long_enough book_areas cleared
outcome_whole marks s a y z r le e len f =
    record {
      answer = rw (le-leb 512 (length a) le) e;
      said = rw (le-leb 512 (length a) le) (ap book_said e);
      areas = rw (le-leb 512 (length a) le, f, len);
    }

-- ---- stores

line_kept : (a : List ℕ) (line form root t : ℕ) → root ≡ last_node (state_of a) → t ≡ (state_of a).is_timed
    → state (sets (take node_count_at a) (lines_at + 4 * line) (form ∷ root ∷ line ∷ t ∷ [])) (byte_at a node_count_at) (byte_at a fault_at)
    (byte_at a timed_at) (byte_at a marks_at) (byte_at a usual_at)
    ≡ put_line line form (state_of a)
unfolding put_line state_of
line_kept a line form root t e f = rw (e, f)

pub line_put : (a : List ℕ) (line form root t : ℕ) → root ≡ last_node (state_of a) → t ≡ (state_of a).is_timed
    → PutsLine line form a
    (set (set (set (set a (lines_at + 4 * line) form) (lines_at + 4 * line + 1) root) (lines_at + 4 * line + 2) line) (lines_at + 4 * line + 3) t)
line_put a line form root t e f = record { put = λ lt. go (lines_at + 4 * line) refl lt }
  where
    go : (at : ℕ) → at ≡ lines_at + 4 * line → line < 60
        → state_of (set (set (set (set a at form) (at + 1) root) (at + 2) line) (at + 3) t) ≡ put_line line form (state_of a)
    go at is lt =
        let vs : List ℕ = form ∷ root ∷ line ∷ t ∷ [] in
        let inner : set (set (set (set a at form) (at + 1) root) (at + 2) line) (at + 3) t ≡ sets a at vs = simp towards_suc in
        rw inner (state_sets vs at a (omega arith) ∙ rw is (line_kept a line form root t e f))

-- The reader's own bytes before the first line.
started_bytes : (a : List ℕ) (m u j : ℕ) → 512 ≤ length a
    → byte_at (set (set (set (set a node_count_at 0) fault_at 255) marks_at m) usual_at u) j
    ≡ pick (eqb usual_at j) (λ _. u) (λ _.
    pick (eqb marks_at j) (λ _. m) (λ _. pick (eqb fault_at j) (λ _. 255) (λ _. pick (eqb node_count_at j) (λ _. 0) (λ _. byte_at a j))))
started_bytes a m u j long =
    let one : List ℕ = set a node_count_at 0 in
    let two : List ℕ = set one fault_at 255 in
    let three : List ℕ = set two marks_at m in
    let l1 = length-set a node_count_at 0 in
    let l2 = length-set one fault_at 255 in
    let l3 = length-set two marks_at m in
    rw (
      byte_set three usual_at j u (omega arith),
      byte_set two marks_at j m (omega arith),
      byte_set one fault_at j 255 (omega arith),
      byte_set a node_count_at j 0 (omega arith),
    )

pub started : (a : List ℕ) (marks u : ℕ) → 512 ≤ length a → marks ≤ 16 → u ≡ usual_bound
    → HeldSoFar marks [] 0 (set (set (set (set a node_count_at 0) fault_at 255) marks_at marks) usual_at u)
unfolding state_of nodes joined
started a marks u long le e =
    record {
      count_lines = refl;
      few = omega arith;
      lined = omega arith;
      counted = started_bytes a marks u node_count_at long;
      faultless = started_bytes a marks u fault_at long;
      known_marks = started_bytes a marks u marks_at long;
      known_usual = started_bytes a marks u usual_at long ∙ e;
      book = keeps_none _;
    }

pub judge_7 : (a : List ℕ) (line end : ℕ) → byte_at a fault_at ≡ 7 → Err (Number line) ≡ judged line end (state_of a)
unfolding judged state_of
judge_7 a line end e = rw e

pub judge_8 : (a : List ℕ) (line end : ℕ) → byte_at a fault_at ≡ 8 → Err (Mark line) ≡ judged line end (state_of a)
unfolding judged state_of
judge_8 a line end e = rw e

pub judge_9 : (a : List ℕ) (line end : ℕ) → (byte_at a fault_at ≡ 7 → ⊥) → (byte_at a fault_at ≡ 8 → ⊥) → 60 < byte_at a node_count_at
    → Err (Limit line) ≡ judged line end (state_of a)
unfolding judged state_of
judge_9 a line end n m lt = rw (ne_eqb (byte_at a fault_at) 7 n, ne_eqb (byte_at a fault_at) 8 m, lt-ltb 60 (byte_at a node_count_at) lt)

pub judge_brackets : (a : List ℕ) (line end : ℕ) → byte_at a node_count_at ≤ 60 → byte_at a fault_at ≡ 9 → Err (Limit line) ≡ judged line end (state_of a)
unfolding judged state_of
judge_brackets a line end le e = rw (e, le-ltb 60 (byte_at a node_count_at) le)

pub judge_10 : (a : List ℕ) (line end : ℕ) → byte_at a node_count_at ≤ 60 → byte_at a fault_at ≡ 10 → Err (Timed line) ≡ judged line end (state_of a)
unfolding judged state_of
judge_10 a line end le e = rw (e, le-ltb 60 (byte_at a node_count_at) le)

pub judge_none : (a : List ℕ) (line end : ℕ) → (byte_at a fault_at ≡ 7 → ⊥) → (byte_at a fault_at ≡ 8 → ⊥) → byte_at a node_count_at ≤ 60 → (byte_at a fault_at ≡ 9 → ⊥)
    → (byte_at a fault_at ≡ 10 → ⊥) → Ok end ≡ judged line end (state_of a)
unfolding judged state_of
judge_none a line end n m le o p =
    rw (
      ne_eqb (byte_at a fault_at) 7 n,
      ne_eqb (byte_at a fault_at) 8 m,
      le-ltb 60 (byte_at a node_count_at) le,
      ne_eqb (byte_at a fault_at) 9 o,
      ne_eqb (byte_at a fault_at) 10 p,
    )
