use Rattle.std.proofs.Common.{not, eqb, rules, tests}
use Rattle.std.proofs.lemmas.Iterator.{YieldsList-from_slice}
use Rattle.std.proofs.lemmas.Iterator.Consumers.{YieldsList-at, count_from_yields_List}
use Rattle.std.proofs.lemmas.Iterator.Search.{YieldsList-from_take_while}
use Rattle.std.proofs.lemmas.List.Folds.{length-prefix_len}
use Rattle.fragments.specs.Fragment.{unused}
use Rattle.fragments.proofs.Laws.List.{listed-is, first_of_session-is}
use Rattle.fragments.proofs.list.first_of_session.Goals as goal

pub returns : goal.returns
returns c =
    let used = c.take_while.ensures in
    let before = c.take_while-before.ensures in
    let n = count_from_yields_List c.take_while-before.result _ c.count.ensures.ran
    (YieldsList-from_take_while _ (λ f. not (eqb f.session c.args.session))
    (YieldsList-at before.source
    (YieldsList-from_take_while _ (λ f. not (unused f)) (YieldsList-at used.source (YieldsList-from_slice c.args.fragments (cc))) used.closure used.done (λ x b q k. search (rules, tests))))
    before.closure before.done (λ x b q k. search (rules, tests))) in
    rw (n, length-prefix_len, first_of_session-is, listed-is)
