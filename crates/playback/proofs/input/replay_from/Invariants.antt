use Rattle.playback.proofs.Laws.Outputs.{Sofar}
use Rattle.std.proofs.Common.{◌≡◌, ◌-◌, ◌≤◌, length, drop, take}
use Rattle.playback.proofs.input.replay_from.Given as goal

abbrev pub invariant-loop : goal.invariant-loop
invariant-loop g l =
    (length l.buffer ≡ 4096) × (l.at ≤ l.end) × (l.end ≤ 4096)
    × Sofar (g.R.Read.remaining l.fn.input) (g.R.Read.remaining l.input) (g.W.Write.contents l.fn.report) (g.W.Write.contents l.report)
    (g.E.Write.contents l.fn.errors) (g.E.Write.contents l.errors) (take (l.end - l.at) (drop l.at l.buffer)) l.replay
