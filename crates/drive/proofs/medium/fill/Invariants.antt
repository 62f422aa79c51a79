use Rattle.drive.specs.Bytes.{splice, zeros}
use mathlib.Core.Path.{◌≡◌}
use Prim.Native.Nat.{◌*◌}
use Rattle.drive.proofs.medium.fill.Given as goal

abbrev pub invariant-loop-i : goal.invariant-loop-i
invariant-loop-i l = l.medium ≡ splice l.initial.medium (32768 * l.block.0) (zeros (32768 * l.i))
