use Rattle.features.proofs.Laws.Configuration.{Named}
use Rattle.features.proofs.listing.numbers.Given as goal

abbrev pub invariant-loop-f : goal.invariant-loop-f
invariant-loop-f l = Named l.request_type l.start l.f-index l.numbers l.count
