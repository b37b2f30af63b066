-- `book_progression::progress_line` meets its contract, by the laws of Lines.
use Rattle.book_progression.proofs.Lines.{line_starts, line_progresses, line_passes, line_node, line_ready}
use mathlib.Core.Path.{refl}
use borrow.Author.Rules.{rules}
use Rattle.book_progression.proofs.progress_line.Goals as goal

pub returns-then-book-at-ne-ALWAYS : goal.returns-then-book-at-ne-ALWAYS
returns-then-book-at-ne-ALWAYS c = line_starts _ _ _ _ refl _ _ (search rules)

pub passes-requires : goal.passes-requires
passes-requires c = line_node _ _ _ refl (search rules)

pub returns-then-passes : goal.returns-then-passes
returns-then-passes c = line_passes _ _ _ _ refl _ _ _ _ (search rules) refl c.passes.ensures (search rules)

pub fresh-requires : goal.fresh-requires
fresh-requires c = line_node _ _ _ refl (search rules)

pub progress-requires : goal.progress-requires
progress-requires c = line_ready _ _ _ _ _ refl (search rules) (search rules) (search rules)

pub returns : goal.returns
returns c = line_progresses _ _ _ _ refl _ _ _ _ _ _ (search rules) refl c.fresh.ensures (search rules)
