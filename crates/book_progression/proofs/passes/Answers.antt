-- `book_progression::passes` meets its contract, by the laws of Nodes and Progressing.
use borrow.Author.Rules.{rules}
use Rattle.book_progression.proofs.Nodes.{first_node}
use Rattle.book_progression.proofs.passes.Goals as goal

pub part_holds-requires : goal.part_holds-requires
part_holds-requires c = first_node _ _ _ _ c.first.ensures c.code.ensures (search rules) (search rules) (search rules)
