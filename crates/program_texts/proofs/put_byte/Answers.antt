use Rattle.std.proofs.Common.{rules}
use Rattle.program_texts.proofs.Ways.{byte_full, byte_stored}
use Rattle.program_texts.proofs.put_byte.Goals as goal

ruleset all = (rules, byte_full, byte_stored)

pub returns-then-out-at : goal.returns-then-out-at
returns-then-out-at c = search all

pub returns : goal.returns
returns c = search all
