use Rattle.std.proofs.Common.{rules}
use Rattle.fragments.specs.Check.{begins_list}
use Rattle.fragments.proofs.fragment.Fragment.begins_list.Goals as goal

pub returns : goal.returns
unfolding begins_list
returns c = search rules
