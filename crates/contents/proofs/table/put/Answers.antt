use Rattle.std.proofs.Common.{arith}
use Rattle.contents.proofs.Laws.Stored.{stored_part}
use Rattle.contents.proofs.table.put.Goals as goal

pub returns-clause-bytes : goal.returns-clause-bytes
returns-clause-bytes c =
    stored_part c.args.target.now c.args.source.now c.copy_from_slice.new.self c.args.at c.min-from.result c.min-count.result _
    c.min-from.ensures c.min-count.ensures (omega arith) c.copy_from_slice.ensures.after
