use Rattle.std.proofs.Common.{rules}
use Rattle.fragments.specs.Check.{ends_list}
use Rattle.fragments.proofs.fragment.Fragment.ends_list.Goals as goal

pub returns-then-finalized : goal.returns-then-finalized
unfolding ends_list
returns-then-finalized c = search rules

pub returns-then-is_tail : goal.returns-then-is_tail
unfolding ends_list
returns-then-is_tail c = search rules

pub returns : goal.returns
unfolding ends_list
returns c = search rules
