use Rattle.std.proofs.Common.{not, rules, tests}
use Rattle.std.proofs.lemmas.Iterator.{YieldsList-from_slice}
use Rattle.std.proofs.lemmas.Iterator.Consumers.{YieldsList-at}
use Rattle.std.proofs.lemmas.Iterator.Search.{any_from_yields_List, YieldsList-from_take_while}
use Rattle.fragments.specs.Fragment.{unused, is_incomplete_reserved}
use Rattle.fragments.proofs.Laws.List.{listed-is, some-is}
use Rattle.fragments.proofs.list.has_incomplete_reserved.Goals as goal

pub returns : goal.returns
returns c =
    let used = c.take_while.ensures in
    rw (some-is, listed-is)
    (any_from_yields_List is_incomplete_reserved _ _ _ c.any.ensures.ran
    (YieldsList-from_take_while _ (λ f. not (unused f)) (YieldsList-at used.source (YieldsList-from_slice c.args.fragments (cc))) used.closure used.done (λ x b q k. search (rules, tests)))
    (λ x b q k. search (rules, tests)))
