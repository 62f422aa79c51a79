use mathlib.Core.Path.{◌≡◌}
use Prim.Native.Nat.{◌*◌, ◌≤◌}
use lib.ListN.{length, take, drop}
use Rattle.drive.specs.Bytes.{splice}
use Rattle.drive.proofs.gather.record_whole.Given as goal

abbrev pub invariant-loop-i : goal.invariant-loop-i
invariant-loop-i l =
    let k = l.i-iterator.count in
    record {
      size : l.i-iterator.iter.size ≡ 32768;
      within : 32768 * k ≤ length l.«data»;
      left : l.i-iterator.iter.rest.now ≡ drop (32768 * k) l.«data»;
      recorded : l.medium ≡ splice l.initial.medium (32768 * l.block.0) (take (32768 * k) l.«data»);
    }
