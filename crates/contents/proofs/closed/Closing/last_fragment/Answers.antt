use Rattle.std.proofs.Common.{◌≡◌, ◌∙◌, unwrap_or, rules, tests}
use Rattle.std.proofs.lemmas.Iterator.{YieldsList-from_slice, items_from_drains}
use Rattle.std.proofs.lemmas.Iterator.Consumers.{YieldsList-at, YieldsList-from_copied, YieldsList-from_filter}
use Rattle.fragments.specs.Fragment.{unused_record}
use Rattle.contents.specs.Sessions.{is_closed}
use Rattle.contents.proofs.Laws.Sessions.{closed-is, last-is}
use Rattle.contents.proofs.closed.Closing.last_fragment.Goals as goal

pub returns : goal.returns
returns c =
    let a = c.args.self in
    let fs = c.args.records.now in
    let drained = c.last.ensures.ran.1 in
    let items = items_from_drains c.last.ensures.ran.0 (drained.1.0, drained.1.1, λ _. (drained.0, drained.1.2))
    (YieldsList-from_filter _ (is_closed a.finalized a.last) (YieldsList-at c.filter-closed.ensures.source (YieldsList-from_copied (YieldsList-at c.copied.ensures.source (YieldsList-from_slice fs (cc))))) c.filter-closed.ensures.closure (λ x b q k. search (rules, tests))) in
    let out : c.unwrap_or_default.result ≡ unwrap_or c.last.result unused_record = search rules in
    rw closed-is (out ∙ last-is unused_record c.last.ensures.ran.0 _ _ items c.last.ensures.ran.2)
