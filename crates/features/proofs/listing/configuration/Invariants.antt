use Rattle.features.proofs.Laws.Configuration.{Listed}
use Rattle.features.proofs.listing.configuration.Given as goal

abbrev pub invariant-loop-f : goal.invariant-loop-f
invariant-loop-f l = Listed l.request_type l.start l.f-index l.bytes l.length
