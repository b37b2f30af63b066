-- `file_tower::marks` meets its contract.
use borrow.Author.Rules.{rules}
use Rattle.file_tower.proofs.Laws.{fit_headed, tower_marks}
use Rattle.file_tower.proofs.marks.Goals as goal

ruleset all = (rules, fit_headed, tower_marks)

pub marks_of-requires : goal.marks_of-requires
marks_of-requires c = search all

pub returns : goal.returns
returns c = search all
