-- From an entry's own answer to how it is shown.
use Prim.Native.Nat.{ℕ}
use mathlib.Core.Path.{◌≡◌, sym}
use mathlib.Core.List.{List}
use Rattle.base.specs.Answers.{Said, book_said, make_said, verdict_said, why_said}
use Rattle.base.specs.Answers.{BookAnswer, MakeAnswer, Verdict, WhyAnswer}
use Rattle.answer_numbers.specs.Shown.{shown}
use Rattle.answer_numbers.specs.declared.Answer.{Answer}
use Rattle.answer_numbers.proofs.Laws.{shown_by}
use Rattle.book_reader.specs.Lines.{Outcome}
use Rattle.checker.specs.Checking.{Checks}
use Rattle.maker.specs.Making.{Makes}
use Rattle.why.specs.Showing.{Explains}
use Rattle.succoryvise.specs.Entries.{BookShown, MakeShown, CheckShown, WhyShown}

-- What is shown of an answer is shown of the outcome that it is.
pub shown_of : {X : Type 0} (said : X → Said) (o outcome : X) (z : Answer) → o ≡ outcome → z ≡ shown (said o) → z ≡ shown (said outcome)
shown_of said o outcome z e g = shown_by said outcome o z (sym e) g

-- Four promises have the areas beside the answer, and two of them an output, too.
pub book_by : (o : BookAnswer) (marks : ℕ) (text nodes nodes_after : List ℕ) (z : Answer) → Outcome o marks text nodes nodes_after
    → z ≡ shown (book_said o) → BookShown z marks text nodes nodes_after
book_by o marks text nodes nodes_after z e g =
    record { answer = shown_of book_said _ _ z e.answer g; areas = e.areas }

pub make_by : (o : MakeAnswer)
    (tower text out nodes pairs index graph sets room flags classes out_after nodes_after pairs_after index_after graph_after sets_after room_after flags_after classes_after : List ℕ)
    (z : Answer)
    → Makes o tower text out nodes pairs index graph sets room flags classes out_after nodes_after pairs_after index_after graph_after sets_after room_after flags_after classes_after
    → z ≡ shown (make_said o)
    → MakeShown z tower text out nodes pairs index graph sets room flags classes out_after nodes_after pairs_after index_after graph_after sets_after room_after flags_after classes_after
make_by o tower text out nodes pairs index graph sets room flags classes out_after nodes_after pairs_after index_after graph_after sets_after room_after flags_after classes_after z e g =
    record { answer = shown_of make_said _ _ z e.answer g; output = e.output; areas = e.areas }

pub check_by : (o : Verdict) (tower text table nodes pairs index graph sets room nodes_after pairs_after index_after graph_after sets_after room_after : List ℕ) (z : Answer)
    → Checks o tower text table nodes pairs index graph sets room nodes_after pairs_after index_after graph_after sets_after room_after → z ≡ shown (verdict_said o)
    → CheckShown z tower text table nodes pairs index graph sets room nodes_after pairs_after index_after graph_after sets_after room_after
check_by o tower text table nodes pairs index graph sets room nodes_after pairs_after index_after graph_after sets_after room_after z e g =
    record { answer = shown_of verdict_said _ _ z e.answer g; areas = e.areas }

pub why_by : (o : WhyAnswer) (tower text table list nodes pairs index graph sets room list_after nodes_after pairs_after index_after graph_after sets_after room_after : List ℕ) (z : Answer)
    → Explains o tower text table list nodes pairs index graph sets room list_after nodes_after pairs_after index_after graph_after sets_after room_after → z ≡ shown (why_said o)
    → WhyShown z tower text table list nodes pairs index graph sets room list_after nodes_after pairs_after index_after graph_after sets_after room_after
why_by o tower text table list nodes pairs index graph sets room list_after nodes_after pairs_after index_after graph_after sets_after room_after z e g =
    record { answer = shown_of why_said _ _ z e.answer g; written = e.written; areas = e.areas }
