use Rattle.std.proofs.Common.{rules}
use Rattle.fragments.specs.Check.{continues}
use Rattle.fragments.proofs.fragment.Fragment.continues.Goals as goal

pub returns : goal.returns
unfolding continues
returns c = search rules
