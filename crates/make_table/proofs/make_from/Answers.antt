use Rattle.std.proofs.Common.{rules}
use Rattle.make_table.proofs.Ways.{made_within, made_taken, made_laid}
use Rattle.make_table.proofs.make_from.Goals as goal

ruleset all = (rules, made_within, made_taken, made_laid)

pub slice_bounds-finish-end : goal.slice_bounds-finish-end
slice_bounds-finish-end g c = search all

pub finish-requires : goal.finish-requires
finish-requires g c = search all

pub slice_bounds-out-end : goal.slice_bounds-out-end
slice_bounds-out-end g c = search all
