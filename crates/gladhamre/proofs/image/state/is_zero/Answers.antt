use Rattle.std.proofs.Common.{rules, ◌≡◌, bit_or}
use Rattle.std.proofs.iter.runs.Made.{chains}
use Rattle.std.specs.List.{fold}
use Rattle.gladhamre.proofs.Laws.Used.{zero_fold}
use Rattle.gladhamre.proofs.image.state.is_zero.Goals as goal

pub returns : goal.returns
returns c =
    let e : c.fold.result ≡ fold bit_or 0 c.args.words.now = search (rules, chains) in
    rw e (zero_fold c.args.words.now)
