use Rattle.std.proofs.Common.{◌≡◌, ◌&&◌, drop}
use Rattle.fragments.specs.Fragment.{is_zero}
use Rattle.fragments.specs.List.{every}
use Rattle.fragments.proofs.check.are_zero.Given as goal

abbrev pub invariant-loop-f : goal.invariant-loop-f
invariant-loop-f l = every is_zero l.records ≡ (is_zero l.joined && every is_zero (drop l.f-index l.records))
