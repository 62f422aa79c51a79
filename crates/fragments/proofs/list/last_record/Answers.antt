use Rattle.std.proofs.Common.{◌≤◌, length, arith}
use Rattle.fragments.proofs.Laws.List.{listed_le}
use Rattle.fragments.proofs.list.last_record.Goals as goal

pub bounds-fragments-saturating_sub : goal.bounds-fragments-saturating_sub
bounds-fragments-saturating_sub c =
    let fs = c.args.fragments in
    let few : length c.in_use-number.result.now ≤ length fs = rw c.in_use-number.ensures (listed_le fs) in
    omega arith
