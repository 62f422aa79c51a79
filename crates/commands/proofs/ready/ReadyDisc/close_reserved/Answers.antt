use Prim.Native.Nat.{◌+◌, ◌-◌}
use Rattle.decisions.specs.Plan.{plan}
use Rattle.disc.specs.Verdict.{accepted}
use Rattle.commands.specs.Types.{Fill}
use Rattle.protocol.specs.Reply.{no_reply}
use Rattle.fragments.specs.Fragment.{first_unrecorded}
use Rattle.commands.specs.Flush.{flush, flush_plan, flush_count}
use Rattle.commands.specs.Close.{close_incomplete, filled_record}
use Rattle.disc.specs.Records.{numbered}
use Rattle.commands.proofs.Laws.Flush.{flushed-numbers}
use Rattle.disc.proofs.Laws.Verdict.{accept_count}
use Rattle.commands.proofs.Laws.Write.{flush_count_most}
use Rattle.commands.proofs.Laws.Close.{fill_count}
use Rattle.disc.proofs.Laws.Apply.{accepted_verdict}
use Rattle.commands.proofs.Laws.Effect.{affected-filled}
use mathlib.Core.Path.{sym, ◌∙◌, ap}
use native.Mathlib.Omega.{arith}
use Rattle.commands.proofs.ready.ReadyDisc.close_reserved.Goals as goal

pub overflow_sub-blocks : goal.overflow_sub-blocks
overflow_sub-blocks c =
    let m = flushed-numbers c.args.self.now.disc c.args.entry.number c.args.self.now.ready c.requires.le_number in
    rw c.requires.record_value m.recorded

pub first_unrecorded-block-requires : goal.first_unrecorded-block-requires
first_unrecorded-block-requires c =
    let m = flushed-numbers c.args.self.now.disc c.args.entry.number c.args.self.now.ready c.requires.le_number in
    rw c.requires.record_value (omega (arith, m.ends, m.recorded))

pub filled-requires : goal.filled-requires
filled-requires c =
    let m = flushed-numbers c.args.self.now.disc c.args.entry.number c.args.self.now.ready c.requires.le_number in
    rw c.requires.record_value (m.recorded, omega (arith, m.ends), m.zeroed)

pub overflow_add-first : goal.overflow_add-first
overflow_add-first c =
    let m = flushed-numbers c.args.self.now.disc c.args.entry.number c.args.self.now.ready c.requires.le_number in
    rw (c.requires.record_value, c.requires.first_value) (omega (arith, m.ends, flush_count_most c.args.self.now.disc))

pub returns : goal.returns
unfolding close_incomplete
returns c =
    let d = c.args.self.now.disc in
    let n = c.args.entry.number in
    let r = c.args.self.now.ready in
    let g = numbered (flush d) n in
    rw (c.accepted.ensures, accepted_verdict, c.none.ensures, c.none-2.ensures, c.new.ensures, c.filled.ensures, c.new-plan.ensures, c.first_unrecorded-block.ensures, c.requires.record_value, c.requires.first_value)
    (ap (λ x. accepted x (flush_count d + (g.length - g.recorded)) no_reply (plan (flush_plan d) (Fill (first_unrecorded g) (g.length - g.recorded)))) (affected-filled d n (filled_record g) r c.requires.le_number.0)
    ∙ sym (accept_count d _ _ _ _ (fill_count d n r c.requires.le_number.0 c.requires.le_number.1)))
