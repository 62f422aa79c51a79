use Rattle.std.proofs.Common.{◌+◌, ◌≡◌, ◌∙◌, ap, rules}
use Rattle.std.specs.List.{filter, sum_by}
use Rattle.std.proofs.lemmas.Iterator.{YieldsList-from_slice, YieldsList-from_map}
use Rattle.std.proofs.lemmas.Iterator.Consumers.{YieldsList-at, YieldsList-from_filter, sum_by_from_yields_List, fits_by_from_yields_list}
use borrow.Author.Tests.{tests}
use native.Mathlib.Omega.{arith}
use Rattle.features.specs.Feature.{features, is_asked}
use Rattle.features.proofs.Laws.Feature.{table}
use Rattle.features.proofs.Laws.Configuration.{descriptors_long, descriptors_most}
use Rattle.features.proofs.listing.configuration_length.Goals as goal

pub sum-descriptors-requires-clause-fits : goal.sum-descriptors-requires-clause-fits
sum-descriptors-requires-clause-fits c =
    fits_by_from_yields_list (λ f. 4 + f.length) _ c.map.result _
    (YieldsList-from_map _ (λ f. 4 + f.length)
    (YieldsList-at c.map.ensures.source
    (YieldsList-from_filter _ (is_asked c.args.request_type c.args.start)
    (YieldsList-at c.filter.ensures.source (YieldsList-from_slice features (c.iter.ensures.rest ∙ table)))
    c.filter.ensures.closure (λ x b q k. search (rules, tests))))
    c.map.ensures.closure (λ x b q k. search (rules, tests)))
    (omega (arith, descriptors_most c.args.request_type c.args.start))

-- the chain's sum
summed : (c : goal.After-sum-descriptors) → c.sum-descriptors.result ≡ sum_by (λ f. 4 + f.length) (filter (is_asked c.args.request_type c.args.start) features)
summed c =
    sum_by_from_yields_List (λ f. 4 + f.length) _ c.map.result c.sum-descriptors.result c.sum-descriptors.ensures.ran
    (YieldsList-from_map _ (λ f. 4 + f.length)
    (YieldsList-at c.map.ensures.source
    (YieldsList-from_filter _ (is_asked c.args.request_type c.args.start)
    (YieldsList-at c.filter.ensures.source (YieldsList-from_slice features (c.iter.ensures.rest ∙ table)))
    c.filter.ensures.closure (λ x b q k. search (rules, tests))))
    c.map.ensures.closure (λ x b q k. search (rules, tests)))

pub overflow_add-result : goal.overflow_add-result
overflow_add-result c = omega (arith, summed c, descriptors_most c.args.request_type c.args.start)

pub returns : goal.returns
returns c = ap (λ n. 8 + n) (summed c) ∙ descriptors_long c.args.request_type c.args.start
