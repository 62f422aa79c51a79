use Rattle.std.proofs.Common.{◌≡◌, ◌≤◌, ◌∙◌, length, unwrap_or, refl, rules, arith}
use Rattle.std.proofs.lemmas.Iterator.{items_from_drains}
use Rattle.std.proofs.lemmas.Iterator.Consumers.{YieldsList-from_first}
use Rattle.fragments.specs.Fragment.{unused_record}
use Rattle.fragments.specs.List.{limit}
use Rattle.fragments.proofs.Laws.List.{array_length, listed_le}
use Rattle.contents.specs.Sessions.{last_session, sessions_left}
use Rattle.contents.specs.Contents.{toc_bytes}
use Rattle.contents.proofs.Laws.Sessions.{sessions-le, last-is}
use Rattle.contents.proofs.Laws.Contents.{PutEntries, sessions-put, last-put, table-put}
use Rattle.contents.proofs.table.write.Goals as goal
use Rattle.contents.proofs.table.write.Goals.{then-form-eq0, else-form-eq0}

pub put_sessions-at-requires : goal.put_sessions-at-requires
put_sessions-at-requires c =
    let fs = c.args.fragments in
    let rs = c.in_use-records.result.now in
    let l : length fs ≡ limit = search array_length in
    let few : length rs ≤ length fs = rw c.in_use-records.ensures (listed_le fs) in
    rw c.sessions-sessions.ensures (omega (arith, sessions-le c.args.finalized c.last_record-newest.result.fragment.session 0 rs))

pub returns : goal.returns
unfolding toc_bytes
returns c =
    let a = c.args in
    let rs = c.in_use-records.result.now in
    let k = c.last_record-newest.result.fragment.session in
    let ss = sessions_left c.sessions-sessions.result in
    let last : last_session a.fragments ≡ k = rw c.last_record-newest.ensures in
    let put =
    elim c.if-form-eq0.branch as (λ _. PutEntries a.reply.now a.finalized a.fragments rs ss k a.form a.time a.start last c.in_use-records.ensures c.sessions-sessions.ensures c.if-form-eq0.reply c.if-form-eq0.end) [
      | then-form-eq0 t ↦
          rw (t.reply-is, t.end-is)
          (sessions-put a.reply.now a.finalized a.fragments rs ss k a.form a.time a.start last c.in_use-records.ensures c.sessions-sessions.ensures _ _ _ _ _ c.last_fragment-last.result _
          t.if-form-eq0.true c.last_fragment-last.ensures t.put_sessions-at.ensures.place t.put_sessions-at.ensures.bytes t.end_address.ensures t.entry.ensures t.put-end.ensures.place t.put-end.ensures.bytes)
      | else-form-eq0 t ↦
          let drained = t.last.ensures.ran.1 in
          let items = items_from_drains t.last.ensures.ran.0 (drained.1.0, drained.1.1, λ _. (drained.0, drained.1.2)) (YieldsList-from_first (λ x. x) sessions_left ss refl) in
          let out : t.unwrap_or_default-first.result ≡ unwrap_or t.last.result unused_record = search rules in
          let first = out ∙ last-is unused_record t.last.ensures.ran.0 _ _ items t.last.ensures.ran.2 in
          rw (t.reply-is, t.end-is)
          (last-put a.reply.now a.finalized a.fragments rs ss k a.form a.time a.start last c.in_use-records.ensures c.sessions-sessions.ensures _ _ _ t.unwrap_or_default-first.result _
          t.if-form-eq0.false first t.first_sector-address.ensures t.entry-else-form-eq0.ensures t.put-end-else-form-eq0.ensures.place t.put-end-else-form-eq0.ensures.bytes)
    ] in
    table-put a.reply.now _ _ _ _ c.if-form-eq0.end _ put.0 put.1 (rw (last, ← c.in_use-records.ensures, ← c.last_fragment-last.ensures) c.header.ensures) c.put.ensures.bytes
