use Rattle.std.proofs.Common.{length, ap, ◌++◌}
use Rattle.std.proofs.lemmas.List.{drop-replicate}
use Rattle.protocol.specs.Types.{Own}
use Rattle.protocol.specs.Reply.{cut_reply}
use Rattle.protocol.proofs.reply.Reply.report.Goals as goal

pub returns : goal.returns
returns c =
    let n = length c.args.said.now in
    rw (c.cut.ensures, c.copy_from_slice.ensures.after)
    (ap (λ zeros. cut_reply (Own (c.args.said.now ++ zeros)) n c.args.allocation) (drop-replicate n 36 0))
