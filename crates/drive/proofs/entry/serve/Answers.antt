use lib.ListN.{length}
use Rattle.drive.specs.Types.{CommandBlockLength, MediumSize}
use Rattle.drive.specs.Step.{drive, request}
use Rattle.drive.proofs.Laws.Step.{verdict-block, verdict-medium, verdict-pending, verdict-judge, both_lent, decided_feasible, decision_served, declined-served}
use mathlib.Core.Path.{◌∙◌}
use Rattle.drive.proofs.entry.serve.Goals as goal

pub returns-then-cdb-ne-CDB_LENGTH : goal.returns-then-cdb-ne-CDB_LENGTH
returns-then-cdb-ne-CDB_LENGTH c =
    let s = drive c.args.disc c.args.medium.now c.args.pending.now in
    let q = request c.args.cdb.now c.args.«data».now c.args.reply.now in
    declined-served s q CommandBlockLength _ (verdict-block s q c.if-cdb-ne-CDB_LENGTH.true) c.refused.ensures

pub returns-then-medium-disc : goal.returns-then-medium-disc
returns-then-medium-disc c =
    let s = drive c.args.disc c.args.medium.now c.args.pending.now in
    let q = request c.args.cdb.now c.args.«data».now c.args.reply.now in
    declined-served s q MediumSize _ (verdict-medium s q c.if-cdb-ne-CDB_LENGTH.false c.if-medium-disc.true) c.refused-then-medium-disc.ensures

pub returns-in_default : goal.returns-in_default
returns-in_default c =
    let s = drive c.args.disc c.args.medium.now c.args.pending.now in
    let q = request c.args.cdb.now c.args.«data».now c.args.reply.now in
    declined-served s q MediumSize _ (verdict-pending s q c.if-cdb-ne-CDB_LENGTH.false c.if-medium-disc.false c.in_default.ensures.cases) c.refused-in_default.ensures

pub carry_out-requires : goal.carry_out-requires
carry_out-requires c =
    let s = drive c.args.disc c.args.medium.now c.args.pending.now in
    let q = request c.args.cdb.now c.args.«data».now c.args.reply.now in
    let whole = c.in-Some.ensures.cases in
    let l = both_lent s.disc (length s.medium) (length s.pending) c.if-medium-disc.false whole.long in
    rw whole.same (decided_feasible s q c.decide-decision.result l c.decide-decision.ensures.verdict)

pub returns : goal.returns
returns c =
    let s = drive c.args.disc c.args.medium.now c.args.pending.now in
    let q = request c.args.cdb.now c.args.«data».now c.args.reply.now in
    let whole = c.in-Some.ensures.cases in
    let l = both_lent s.disc (length s.medium) (length s.pending) c.if-medium-disc.false whole.long in
    decision_served s q c.decide-decision.result _ _ _ _ (c.decide-decision.ensures.verdict ∙ verdict-judge s q c.if-cdb-ne-CDB_LENGTH.false l)
    (rw whole.same at c.carry_out.ensures)
