use Rattle.std.proofs.Common.{not, rules, tests}
use Rattle.std.proofs.lemmas.Iterator.{YieldsList-from_slice}
use Rattle.std.proofs.lemmas.Iterator.Consumers.{YieldsList-at, count_from_yields_List}
use Rattle.std.proofs.lemmas.Iterator.Search.{YieldsList-from_take_while}
use Rattle.std.proofs.lemmas.List.Folds.{length-prefix_len}
use Rattle.fragments.specs.Fragment.{unused}
use Rattle.fragments.proofs.Laws.List.{listed-is}
use Rattle.fragments.proofs.list.in_use.Goals as goal

pub returns : goal.returns
returns c =
    let fs = c.args.fragments.now in
    let n = count_from_yields_List c.take_while.result _ c.count-used.ensures.ran
    (YieldsList-from_take_while _ (λ f. not (unused f)) (YieldsList-at c.take_while.ensures.source (YieldsList-from_slice fs (cc))) c.take_while.ensures.closure c.take_while.ensures.done (λ x b q k. search (rules, tests))) in
    rw (n, length-prefix_len, listed-is)
