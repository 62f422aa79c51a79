use Rattle.std.proofs.Common.{rules}
use Rattle.fragments.specs.Check.{within}
use Rattle.fragments.proofs.fragment.Fragment.is_within.Goals as goal

pub returns : goal.returns
unfolding within
returns c = search rules
