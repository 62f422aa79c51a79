use native.Mathlib.Omega.{arith}
use Rattle.drive.proofs.Laws.Bytes.{put-splice, length-padded}
use mathlib.Core.List.{◌++◌}
use lib.ListN.{length-append}
use Prim.Native.Nat.{◌+◌, ◌*◌}
use Rattle.drive.proofs.medium.record_parts.Goals as goal

pub returns : goal.returns
returns c =
    let s = c.args in
    let x = s.front.now ++ s.rest.now in
    let l = length-padded x (omega (arith, length-append s.front.now s.rest.now)) in
    put-splice s.medium.now (32768 * s.block.0) (32768 * s.block.0 + 32768) c.write_block.ensures (omega (arith, l))
