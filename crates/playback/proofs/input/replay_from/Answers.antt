use Rattle.std.proofs.Common.{◌≡◌, ◌≤◌, ℕ, ◌+◌, ◌-◌, List, ◌++◌, length, arith, refl, sym, ap, ◌∙◌, inl, inr, take, drop}
use Rattle.playback.proofs.Laws.Inputs.{stop_few, held_length, found_within, held_after, held_front, still_long, came_in}
use Rattle.playback.proofs.Laws.Outputs.{at_end_before, sofar_first, sofar_played, sofar_read, sofar_over}
use Rattle.playback.proofs.input.replay_from.Goals as goal

pub loop-init : goal.loop-init
loop-init g c = (refl, omega arith, omega arith, sofar_first _ _ _ _ _ c.start-replay.ensures c.in_ok-write_all.ensures.bytes)

pub overflow_add-at : goal.overflow_add-at
overflow_add-at g c =
    let l = c.loop.invariant in
    omega (
      arith,
      l,
      found_within _ c.in-Ok.found (sym c.read_at.ensures ∙ c.in-Ok.is),
      held_length c.loop.buffer c.loop.at c.loop.end l.1 (omega (arith, l.0, l.2)),
    )

pub loop-preserved-in-Ok : goal.loop-preserved-in-Ok
loop-preserved-in-Ok g c =
    let l = c.loop.invariant in
    let found = sym c.read_at.ensures ∙ c.in-Ok.is in
    let within : c.loop.at + c.in-Ok.found.next ≤ c.loop.end =
    omega (
      arith,
      l.1,
      found_within _ c.in-Ok.found found,
      held_length c.loop.buffer c.loop.at c.loop.end l.1 (omega (arith, l.0, l.2)),
    ) in (
      l.0,
      within,
      l.2,
      sofar_played _ _ _ _ _ _ _ _ l.3 _ c.in-Ok.found c.play.result _ found
          (held_after c.loop.buffer c.loop.at c.loop.end c.in-Ok.found.next within) c.play.ensures c.in_ok-print-in-Ok.ensures,
    )

pub returns-in-BadMark-clause-told : goal.returns-in-BadMark-clause-told
returns-in-BadMark-clause-told g c =
    let f = c.finish in
    sofar_over _ _ _ _ _ _ _ _ c.loop.invariant.3 _ _ c.in-Err.stop f.result (sym c.read_at.ensures ∙ c.in-Err.is) (inl c.in-BadMark.is)
    f.ensures.ending f.ensures.printed f.ensures.told

pub returns-in-Ok-eq0-clause-told : goal.returns-in-Ok-eq0-clause-told
returns-in-Ok-eq0-clause-told g c =
    let f = c.finish-in-Ok-eq0 in
    let l = c.loop.invariant in
    let b = c.in-Ok-eq0.ensures.bytes in
    let stop = sym c.read_at.ensures ∙ c.in-Err.is in
    let held = held_length c.loop.buffer c.loop.at c.loop.end l.1 (omega (arith, l.0, l.2)) in
    sofar_over _ _ _ _ _ _ _ _ l.3 _ _ c.in-Err.stop f.result stop
    (inr (at_end_before _ _ _ _ c.in-Ok-eq0.field-0-test b.0 (b.1 c.in-Ok-eq0.field-0-test
    (omega (arith, l.0, held, c.read.auto.buf, stop_few _ 0 c.in-Err.stop stop c.in_default.not-BadMark)))))
    f.ensures.ending f.ensures.printed f.ensures.told

pub loop-preserved : goal.loop-preserved
loop-preserved g c =
    let l = c.loop.invariant in
    let k = c.loop.end - c.loop.at in
    let r = c.in-Ok-read.ensures in
    let moved = c.copy_within.new.self in
    let fits : c.loop.end ≤ length c.loop.buffer = omega (arith, l.0, l.2) in
    let long : length moved ≡ 4096 = c.copy_within.ensures.len ∙ l.0 in
    let front : take k moved ≡ take k (drop c.loop.at c.loop.buffer) =
    ap (take k) c.copy_within.ensures.after ∙ held_front c.loop.buffer c.loop.at c.loop.end l.1 fits in
    let held = held_length c.loop.buffer c.loop.at c.loop.end l.1 fits in (
      still_long moved c.read.new.buf k (4096 - k) (omega (arith, long, l.2)) (omega (arith, long, c.read.auto.buf)) ∙ long,
      omega arith,
      omega (arith, r.bound, c.read.auto.buf, long, l.2),
      sofar_read _ _ _ _ _ _ _ _ l.3 _ (take c.in-Ok-read.count c.read.new.buf) _
          (came_in (take k moved) c.read.new.buf _ k c.in-Ok-read.count (k + c.in-Ok-read.count - 0) (omega arith) (ap length front ∙ held) r.bound.0
          ∙ ap (λ (x : List ℕ). x ++ take c.in-Ok-read.count c.read.new.buf) front)
          r.bytes.0,
    )
