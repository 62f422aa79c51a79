use Rattle.std.proofs.Common.{rules, Err, None, Some}
use Rattle.std.proofs.lemmas.Result.{err_from_is_err_and}
use Rattle.drive.specs.Step.{request, response_of}
use Rattle.gladhamre.specs.Types.{UnsoundState}
use Rattle.gladhamre.specs.Image.{decode}
use Rattle.gladhamre.specs.Used.{words_of}
use Rattle.gladhamre.specs.Face.{lending}
use Rattle.gladhamre.proofs.Laws.Used.{words-short, taken, taken-state}
use Rattle.gladhamre.proofs.Laws.Face.{no-link, block-faced, lent-faced, unsound-faced, link-faced, step-faced}
use mathlib.Core.Path.{◌≡◌, refl, sym, ap, ◌∙◌}
use Rattle.gladhamre.proofs.answer.Goals as goal

pub returns-then-cdb-ne-CDB_LENGTH : goal.returns-then-cdb-ne-CDB_LENGTH
returns-then-cdb-ne-CDB_LENGTH c =
    let l = lending c.args.state.now c.args.medium.now c.args.pending.now in
    let q = request c.args.cdb.now c.args.«data».now c.args.reply.now in
    block-faced l q _ c.if-cdb-ne-CDB_LENGTH.true refl

pub returns-then-not-is_lent : goal.returns-then-not-is_lent
returns-then-not-is_lent c =
    let l = lending c.args.state.now c.args.medium.now c.args.pending.now in
    let q = request c.args.cdb.now c.args.«data».now c.args.reply.now in
    lent-faced l q c.if-cdb-ne-CDB_LENGTH.false _ (sym c.is_lent.ensures ∙ c.if-not-is_lent.true) refl

pub returns-in_default : goal.returns-in_default
returns-in_default c =
    let l = lending c.args.state.now c.args.medium.now c.args.pending.now in
    let q = request c.args.cdb.now c.args.«data».now c.args.reply.now in
    unsound-faced l q c.if-cdb-ne-CDB_LENGTH.false (sym c.is_lent.ensures ∙ c.if-not-is_lent.false) _ (words-short l.state c.in_default.ensures.cases) refl

pub returns-in_err-before : goal.returns-in_err-before
returns-in_err-before c =
    let l = lending c.args.state.now c.args.medium.now c.args.pending.now in
    let q = request c.args.cdb.now c.args.«data».now c.args.reply.now in
    let same = c.in-Some.ensures.cases.same in
    let handed = err_from_is_err_and c.from_residual.result c.from_residual.ensures.1 in
    let e : c.from_residual.result ≡ Err UnsoundState = handed.1 ∙ ap Err (handed.2 ∙ c.in_err-before.ensures.0) in
    let n : words_of c.in-Some.words.now ≡ None = search rules in
    rw (e, same) (unsound-faced l q c.if-cdb-ne-CDB_LENGTH.false (sym c.is_lent.ensures ∙ c.if-not-is_lent.false) _ (ap words_of (sym same) ∙ n) refl)

pub returns-in-Link : goal.returns-in-Link
returns-in-Link c =
    let l = lending c.args.state.now c.args.medium.now c.args.pending.now in
    let q = request c.args.cdb.now c.args.«data».now c.args.reply.now in
    let same = c.in-Some.ensures.cases.same in
    let n : words_of c.in-Some.words.now ≡ Some c.in_ok-before.before.used = search rules in
    let was : c.in_ok-before.before.words.now ≡ l.state = search rules in
    let served = rw was at c.serve-outcome.ensures in
    rw same (link-faced l q c.if-cdb-ne-CDB_LENGTH.false (sym c.is_lent.ensures ∙ c.if-not-is_lent.false) (response_of (decode l.state) c.serve-outcome.result) _ _ _ _
    (taken-state l.state _ (ap words_of (sym same) ∙ n)) served (search rules))

pub update-requires : goal.update-requires
update-requires c =
    let n : words_of c.in-Some.words.now ≡ Some c.in_ok-before.before.used = search rules in
    (taken c.in-Some.words.now _ n).state

pub returns : goal.returns
returns c =
    let l = lending c.args.state.now c.args.medium.now c.args.pending.now in
    let q = request c.args.cdb.now c.args.«data».now c.args.reply.now in
    let same = c.in-Some.ensures.cases.same in
    let n : words_of c.in-Some.words.now ≡ Some c.in_ok-before.before.used = search rules in
    let was : c.in_ok-before.before.words.now ≡ l.state = search rules in
    let served = rw was at c.serve-outcome.ensures in
    let written = rw same at c.update.ensures in
    step-faced l q c.if-cdb-ne-CDB_LENGTH.false (sym c.is_lent.ensures ∙ c.if-not-is_lent.false) (response_of (decode l.state) c.serve-outcome.result) _ _ _ _ _ _ _
    (taken-state l.state _ (ap words_of (sym same) ∙ n)) served refl refl refl (written ∙ rw (no-link c.serve-outcome.result.answer c.in_default-answer.not-Link))
