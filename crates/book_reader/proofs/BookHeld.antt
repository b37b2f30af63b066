-- What the crates above need: a book that was read lies in the area as progression takes it.
use Prim.Native.Nat.{ℕ, ◌≤◌}
use native.Mathlib.Omega.{arith}
use mathlib.Core.Path.{◌≡◌, refl, sym, ◌∙◌}
use mathlib.Core.List.{List}
use lib.ListN.{length}
use Rattle.base.specs.Answers.{Answer}
use Rattle.std.specs.Prelude.{Err, Ok}
use Rattle.base.specs.Answers.{BookAnswer, book_of_size}
use Rattle.logic.specs.Book.{Book}
use Rattle.logic.specs.Tower.{most_marks}
use Rattle.reading.specs.BookReading.{read_book}
use Rattle.reading.proofs.BookLines.{book_few}
use Rattle.outcome.specs.ReadBook.{book_answer}
use Rattle.book_progression.specs.NodeBytes.{IsHeld}
use Rattle.book_progression.proofs.Callers.{held_read}
use Rattle.book_reader.specs.Lines.{Answers}

-- The area holds the book of the text.
pub record BookHeld (marks : ℕ) (text nodes : List ℕ) : Type 0 where
  pub held : IsHeld nodes
  pub read : read_book marks text ≡ Ok held.book

-- Where a book is read into an area that is long enough.
module _ (marks : ℕ) (text first nodes : List ℕ) (a : BookAnswer) (lines count : ℕ) (answers : Answers a marks text nodes)
    (is : a ≡ book_of_size lines count) (low : marks ≤ 16) (kept : length nodes ≡ length first) (room : 512 ≤ length first) where
  pub book_held : BookHeld marks text nodes
  unfolding book_answer most_marks
  book_held = go (read_book marks text) refl (sym is ∙ answers.answer)
    where
      known : (book : Book) → read_book marks text ≡ Ok book → BookHeld marks text nodes
      known book e =
          let holds = answers.area book e in
          record {
            held =
                record {
                  book = book;
                  held = held_read marks text nodes book low e holds;
                  room = omega arith;
                  few = omega (arith, holds.node_count, book_few marks text book e);
                };
            read = e;
          }

      go : (o : Answer Book) → read_book marks text ≡ o → book_of_size lines count ≡ book_answer o → BookHeld marks text nodes
      go (Err q) p e = absurd (let z : ◌≡◌ {A = ℕ} 0 1 = cc in omega arith)
      go (Ok book) p e = known book p

  -- The area holds a book.
  pub is_held : IsHeld nodes
  is_held = book_held.held
