use Rattle.std.proofs.Common.{rules}
use Rattle.program_texts.proofs.Ways.{going_start, going_on, going_end}
use Rattle.program_texts.proofs.put_bytes.Goals as goal

ruleset all = (rules, going_start, going_on, going_end)

pub loop-byte-init : goal.loop-byte-init
loop-byte-init c = search all

pub loop-byte-preserved : goal.loop-byte-preserved
loop-byte-preserved c = search all

pub returns : goal.returns
returns c = search all
