use Rattle.std.proofs.Common.{rules}
use Rattle.fragments.specs.Check.{open_after}
use Rattle.fragments.proofs.fragment.Fragment.leaves_open.Goals as goal

pub returns : goal.returns
unfolding open_after
returns c = search rules
