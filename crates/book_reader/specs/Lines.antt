-- What the line readers answer and leave in the area.
use Rattle.std.specs.Prelude.{ℕ, ◌+◌, ◌-◌, ◌*◌, ◌≤◌, ◌<◌, ◌≡◌, List, [], ◌∷◌, length, take, drop, eqb, ltb}
use Rattle.std.proofs.lemmas.List.Edits.{sets}
use Rattle.base.specs.Choice.{pick}
use Rattle.base.specs.Recursion.{run}
use Rattle.base.specs.Answers.{book_said, Answer}
use Rattle.std.specs.Prelude.{Option, None, Some, Err, Ok}
use Rattle.base.specs.declared.Refusal.{Refusal}
use Rattle.base.specs.declared.Refusal.TheVariants.{Grammar, Number, Mark, Limit, Timed}
use Rattle.base.specs.Answers.{BookAnswer}
use Rattle.logic.specs.Book.{Formula, Form, Book, nodes}
use Rattle.reading.specs.Tokens.{skip}
use Rattle.reading.specs.Grammar.{formula_at}
use Rattle.reading.specs.BookArea.{HoldsBook, form_code, node_size, lines_at, line_size, nodes_bytes, lines_bytes}
use Rattle.reading.specs.BookReading as Reading
use Rattle.reading.specs.BookReading.{usual_bound, ReadSoFar, judge_line, line_at, lines_step, read_lines, read_book}
use Rattle.outcome.specs.ReadBook.{book_answer, read_outcome}
use Rattle.book_nodes.specs.State.{State, state_of, usual_in, absorb, last_node}
use Rattle.book_reader.specs.declared.Line.{Line}

-- The answer of reading a line that should be x: nothing is said of the area where it is not of the grammar.
pub data LineRead (x : Reading.Line) (a z : List ℕ) : Option Line → Type 0 where
  not_line : x ≡ Reading.no_line → LineRead x a z None
  is_line : (form : Form) (f : Formula) (b : ℕ) (l : Line) → x ≡ Reading.line form f b l.next → l.form ≡ form_code form
      → state_of z ≡ absorb 16 b f (state_of a) → LineRead x a z (Some l)

-- The same of the rest of a line behind its word, for either form by its code.
pub record RestRead (r : Option Line) (s : List ℕ) (p code : ℕ) (a z : List ℕ) : Type 0 where
  pub reads : (form : Form) → code ≡ form_code form → LineRead (Reading.ended s form (formula_at (usual_in a) s (skip s p))) a z r

-- 7, 8, 9 and 10 by what is noted in the state, the line's number as place; or the position after it
unfoldable pub judged : ℕ → ℕ → State → Answer ℕ
judged line next st =
    pick (eqb st.fault 7) (λ _. Err (Number line)) (λ _.
    pick (eqb st.fault 8) (λ _. Err (Mark line)) (λ _.
    pick (ltb 60 st.nodes.count) (λ _. Err (Limit line)) (λ _.
    pick (eqb st.fault 9) (λ _. Err (Limit line)) (λ _.
    pick (eqb st.fault 10) (λ _. Err (Timed line)) (λ _. Ok next)))))

-- the state after a line of this form was put down as number i
unfoldable pub put_line : ℕ → ℕ → State → State
put_line i form st =
    record {
      nodes =
          record {
            kept = sets st.nodes.kept (lines_at + line_size * i) (form ∷ last_node st ∷ i ∷ st.is_timed ∷ []);
            count = st.nodes.count;
          };
      fault = st.fault;
      is_timed = st.is_timed;
      marks = st.marks;
      usual = st.usual;
    }

-- A line is put down, if there is room for it.
pub record PutsLine (line form : ℕ) (a z : List ℕ) : Type 0 where
  pub put : line < 60 → state_of z ≡ put_line line form (state_of a)

-- The bytes of nodes and lines are those of these rules.
pub record Keeps (kept : List ℕ) (rules : Book) : Type 0 where
  pub node_part : take (node_size * length (nodes rules)) kept ≡ nodes_bytes 0 (nodes rules)
  pub line_part : take (line_size * length rules) (drop lines_at kept) ≡ lines_bytes 0 0 rules

-- The area holds these rules, of which there are so many, and nothing is at fault.
pub record HeldSoFar (marks : ℕ) (rules : Book) (lines : ℕ) (a : List ℕ) : Type 0 where
  pub count_lines : length rules ≡ lines
  pub few : length (nodes rules) ≤ 60
  pub lined : length rules ≤ length (nodes rules)
  pub counted : (state_of a).nodes.count ≡ length (nodes rules)
  pub faultless : (state_of a).fault ≡ 255
  pub known_marks : (state_of a).marks ≡ marks
  pub known_usual : usual_in a ≡ usual_bound
  pub book : Keeps (state_of a).nodes.kept rules

-- How reading the next line ends: with a refusal, or with the rules held and the position of the next.
pub data Turned (x : Answer ReadSoFar) (marks lines : ℕ) (z : List ℕ) : Answer ℕ → Type 0 where
  turned_down : (why : Refusal) → x ≡ Err why → Turned x marks lines z (Err why)
  gone_on : (rules : Book) (q : ℕ) → x ≡ Ok (record { rules = rules; place = q }) → HeldSoFar marks rules (lines + 1) z
      → Turned x marks lines z (Ok q)

-- What reading one line answers and leaves, whatever rules are held.
pub record Turns (r : Answer ℕ) (s : List ℕ) (at lines : ℕ) (a z : List ℕ) : Type 0 where
  pub from : (marks : ℕ) (rules : Book) → marks ≤ 16 → at < length s → HeldSoFar marks rules lines a
      → Turned (judge_line marks rules (line_at usual_bound s at)) marks lines z r

-- the lines from here on
unfoldable pub lines_from : ℕ → List ℕ → ReadSoFar → Answer Book
lines_from marks s here =
    run (λ (here : ReadSoFar). length s - here.place) (λ here. Err (Grammar (length here.rules))) (lines_step usual_bound marks s) here

-- How far the reading has come between two lines.
pub record Coming (marks : ℕ) (s : List ℕ) (at lines : ℕ) (begun a : List ℕ) : Type 0 where
  pub long : length a ≡ length begun
  pub rules : Book
  pub held : HeldSoFar marks rules lines a
  pub same : lines_from marks s (record { rules = rules; place = at }) ≡ read_lines usual_bound marks s

-- What reading a whole book answers, and that the area holds a book that was read.
pub record Answers (r : BookAnswer) (marks : ℕ) (s : List ℕ) (z : List ℕ) : Type 0 where
  pub answer : r ≡ book_answer (read_book marks s)
  pub area : (book : Book) → read_book marks s ≡ Ok book → HoldsBook z book

-- The whole outcome of the book reader.
pub record Outcome (r : BookAnswer) (marks : ℕ) (s a z : List ℕ) : Type 0 where
  pub answer : r ≡ (read_outcome marks s (a ∷ [])).answer
  pub said : book_said r ≡ book_said (read_outcome marks s (a ∷ [])).answer
  pub areas : z ∷ [] ≡ (read_outcome marks s (a ∷ [])).areas
