use native.Mathlib.Omega.{arith}
use mathlib.Core.Path.{◌≡◌, ◌∙◌}
use Prim.Native.Nat.{◌+◌, ◌<◌}
use Rattle.drive.proofs.Laws.Gather.{few-medium, few-pending, full-medium, full-pending}
use Rattle.drive.proofs.gather.gather.Goals as goal

pub returns-then-sectors-missing : goal.returns-then-sectors-missing
returns-then-sectors-missing c =
    let s = c.args in
    let few : s.held + s.sectors < 16 = omega (arith, c.from-held.ensures, c.missing-missing.ensures) in
    record {
      medium = few-medium s.held s.sectors s.pending.now s.«data».now few s.block.0 s.medium.now;
      pending = few-pending s.held s.sectors s.pending.now s.«data».now few c.put.new.target _ c.told-pending c.requires.1 (rw c.from-held.ensures at c.put.ensures) (rw c.from-held.ensures at c.clear_from.ensures);
    }

pub returns : goal.returns
returns c =
    let s = c.args in
    let k = c.missing-missing.result in
    let first = c.split_at.result.0.now in
    let rest = c.split_at.result.1.now in
    let full : s.held + k ≡ 16 = omega (arith, c.from-held.ensures, c.missing-missing.ensures) in
    record {
      medium =
          full-medium s.held s.sectors k s.pending.now s.«data».now first rest (omega arith) c.requires.1 full (omega arith) c.split_at.ensures.front c.split_at.ensures.back
          s.block.0 s.medium.now c.record_parts.new.medium _ (omega arith) (rw c.from-held.ensures at c.record_parts.ensures) c.record_whole.ensures;
      pending =
          full-pending s.held s.sectors k s.pending.now s.«data».now first rest (omega arith) c.requires.1 full (omega arith) c.split_at.ensures.front c.split_at.ensures.back
          _ _ (c.remainder-left.ensures ∙ c.chunks_exact.ensures.remainder) c.write_block.ensures;
    }
