use Rattle.fragments.proofs.Laws.Tail.{tail_left}
use Rattle.fragments.proofs.Laws.Address.{wide-number}
use Rattle.decisions.specs.Plan.{plan}
use Rattle.disc.specs.Verdict.{accepted}
use Rattle.commands.specs.Types.{Nothing}
use Rattle.protocol.specs.Reply.{no_reply}
use Rattle.commands.specs.Flush.{flush, flush_plan, flush_count}
use Rattle.commands.specs.Close.{close_tail}
use Rattle.decisions.specs.Flushing.{closing_last}
use Rattle.fragments.specs.List.{limit}
use Rattle.fragments.specs.Fragment.{end, next_session_start}
use Rattle.disc.specs.Records.{used, last_record}
use Rattle.commands.proofs.Laws.Flush.{flush-sound, flush_pending}
use Rattle.commands.proofs.Laws.Session.{kept, kept_few, session-done}
use Rattle.disc.proofs.Laws.Apply.{accepted_verdict}
use Rattle.commands.proofs.Laws.Effect.{last-flushed, affected-session}
use Prim.Native.Nat.{◌<◌}
use mathlib.Core.Path.{◌≡◌, refl, sym, ◌∙◌, ap}
use native.Mathlib.Omega.{arith}
use Rattle.commands.proofs.ready.ReadyDisc.close_session.Goals as goal

pub last_kept-kept-requires : goal.last_kept-kept-requires
last_kept-kept-requires c =
    let d = c.args.self.now.disc in
    let fe = ap (λ x. x.entry) c.in_ok-first.ensures.ok.0 in
    record { flushed_value = fe; last_value = rw (fe, c.last-before.ensures) at c.over_last-last.ensures ∙ last-flushed d c.args.self.now.ready }

pub overflow_add-kept : goal.overflow_add-kept
overflow_add-kept c =
    let d = c.args.self.now.disc in
    let l = c.last_kept-kept.ensures in
    omega (arith, ap (λ x. x.number) l, kept_few (flush d) (flush-sound d c.args.self.now.ready) (flush_pending d) (λ e. c.if-kept-eq-LIMIT.false (ap (λ x. x.number) l ∙ e)))

pub overflow_add-kept-2 : goal.overflow_add-kept-2
overflow_add-kept-2 c =
    let d = c.args.self.now.disc in
    let m = kept (flush d) (flush-sound d c.args.self.now.ready) (flush_pending d) in
    omega (arith, ap (λ x. x.fragment.session) c.last_kept-kept.ensures, m.sessions)

pub returns : goal.returns
unfolding closing_last
returns c =
    let d = c.args.self.now.disc in
    let h = rw (c.is_only_tail.ensures, c.last-before.ensures) at c.if-self-is_only_tail.false in
    let i = c.in_ok-first.ensures.ok.1 in
    let l = c.last_kept-kept.ensures in
    let u : used (close_tail (flush d)) ≡ limit → ⊥ = λ e. c.if-kept-eq-LIMIT.false (ap (λ x. x.number) l ∙ e) in
    let n = wide-number (rw l at c.next_session_start-start.ensures) in
    let s = next_session_start (end (last_record (close_tail (flush d)))) in
    let w : s.0 < d.capacity = omega (arith, n, c.from.ensures, c.if-from-start.false) in
    let t = rw (c.next_session_start-start.ensures, l) at c.tail-tail.ensures in
    let fe = ap (λ x. x.entry) c.in_ok-first.ensures.ok.0 in
    let g = rw (fe, c.last-before.ensures) at c.over_last-last.ensures ∙ last-flushed d c.args.self.now.ready in
    rw (c.closing.ensures, accepted_verdict, t, tail_left _ _ _ s w, g, c.in_ok-first.ensures.ok.0)
    (ap (λ x. accepted x (flush_count d) no_reply (plan (flush_plan d) Nothing)) (affected-session d c.args.self.now.ready _ _ refl refl)
    ∙ sym (session-done d h i u c.args.self.now.ready (rw (n, c.from.ensures) at c.if-from-start.false)))
