use Rattle.std.proofs.Common.{rules}
use Rattle.file_table.proofs.Laws.{header_of}
use Rattle.make_table.proofs.print_rows.Goals as goal

ruleset all = (rules, header_of)

pub rows-rows-requires : goal.rows-rows-requires
rows-rows-requires g c = search all
