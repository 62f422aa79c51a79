-- A whole trace is split exactly into its records: nothing is skipped and nothing read twice.
use Rattle.std.proofs.Common.{◌≡◌, refl, sym, ap, ◌∙◌, ℕ, zero, suc, ◌+◌, ◌-◌, ◌≤◌, true, false, arith, List, [], ◌∷◌, ◌++◌, append_assoc, length, take, drop, length-drop, length-take, Result, Ok, Err, is_ok, eqb}
use mathlib.Core.Bool.{and-eq-true_iff}
use native.Mathlib.Nat.{not-suc-le-zero, le_of_suc-le-suc}
use borrow.Author.Tests.{eqb-true, eq-eqb}
use lib.ListN.{length-append, take-append-drop}
use lib.Seq.{take_at, drop_at, drop-cons, drop-drop}
use Rattle.trace.specs.Types.{Record, Stop}
use Rattle.trace.specs.Record.{cdb_of, reading_of, step_of, step_at}
use Rattle.trace.specs.Whole.{cdbs, position_after, trace_of, all_twelve, all_from, end_from, whole_cdbs, whole_end}
use Rattle.trace.proofs.Laws.Record.{Marked, record_marked, marked_record, step_none, step_end, step_record}

pub by_step {ℓ} : {P : Type ℓ} (s : Result Record Stop) → ((r : Record) → s ≡ Ok r → P) → ((w : Stop) → s ≡ Err w → P) → P
by_step (Ok r) record-case stop-case = record-case r refl
by_step (Err w) record-case stop-case = stop-case w refl

-- the step at a record: its command block stands after the mark, and the position goes after it
pub record Found (t : List ℕ) (at : ℕ) (r : Record) : Type 0 where
  pub marked : Marked (drop at t)
  pub cdb : r.cdb ≡ cdb_of (drop at t)
  pub next : r.next ≡ at + 14

pub record_found : (t : List ℕ) (at : ℕ) (r : Record) → step_at t at ≡ Ok r → Found t at r
unfolding step_at
record_found t at r h =
    let s = step_record (reading_of (drop at t)) at r h in
    let m = record_marked (drop at t) r.cdb s.0 in
    record { marked = m.0; cdb = m.1; next = s.1 }

-- what is left at a record is the mark, its command block, and what is left after it
marked_split : (l : List ℕ) → Marked l → l ≡ 0xA5 ∷ 0x5A ∷ cdb_of l ++ drop 14 l
marked_split l m =
    let long : 14 ≤ length l = m.long in
    drop-cons l 0 0 (omega arith)
    ∙ ap (λ (x : ℕ). x ∷ drop 1 l) m.first
    ∙ ap (λ (x : List ℕ). 0xA5 ∷ x) (drop-cons l 1 0 (omega arith) ∙ ap (λ (x : ℕ). x ∷ drop 2 l) m.second)
    ∙ ap (λ (x : List ℕ). 0xA5 ∷ 0x5A ∷ x) (sym (take-append-drop 12 (drop 2 l)) ∙ ap (λ (x : List ℕ). take 12 (drop 2 l) ++ x) (drop-drop 12 2 l))

-- the records read from a position on, put back after their marks, and what is left at the stop are the trace from that position on
pub split_from : (n : ℕ) (t : List ℕ) (at : ℕ) → trace_of (cdbs n t at) ++ drop (position_after n t at) t ≡ drop at t
unfolding cdbs position_after trace_of
split_from zero t at = refl
split_from (suc n) t at =
    by_step (step_at t at)
    (λ r h.
    let f = record_found t at r h in
    let l = drop at t in
    rw (h, f.cdb, f.next)
    (ap (λ (x : List ℕ). 0xA5 ∷ 0x5A ∷ x)
    (append_assoc (cdb_of l) (trace_of (cdbs n t (at + 14))) (drop (position_after n t (at + 14)) t)
    ∙ ap (λ (x : List ℕ). cdb_of l ++ x) (split_from n t (at + 14) ∙ sym (drop-drop 14 at t)))
    ∙ sym (marked_split l f.marked)))
    (λ w h. rw h)

-- for a whole trace
pub split : (t : List ℕ) → trace_of (whole_cdbs t) ++ drop (whole_end t) t ≡ t
split t = split_from (length t) t 0

-- each command block has twelve bytes
pub cdbs_twelve : (n : ℕ) (t : List ℕ) (at : ℕ) → all_twelve (cdbs n t at) ≡ true
unfolding cdbs all_twelve
cdbs_twelve zero t at = refl
cdbs_twelve (suc n) t at =
    by_step (step_at t at)
    (λ r h.
    let f = record_found t at r h in
    let l = drop at t in
    let k : length (cdb_of l) ≡ 12 = simp (length-take, length-drop 2 l) (omega (arith, f.marked.long)) in
    rw (h, f.cdb, eq-eqb (length (cdb_of l)) 12 k) (cdbs_twelve n t r.next))
    (λ w h. rw h)

-- where the reader stops there is no record
stop_from : (n : ℕ) (t : List ℕ) (at : ℕ) → length t ≤ at + n → is_ok (step_at t (position_after n t at)) ≡ false
unfolding position_after
stop_from zero t at h = rw (step_end t at (omega arith))
stop_from (suc n) t at h =
    by_step (step_at t at)
    (λ r e. rw (e, (record_found t at r e).next) (stop_from n t (at + 14) (omega arith)))
    (λ w e. rw (e, e))

pub whole_stops : (t : List ℕ) → is_ok (step_at t (whole_end t)) ≡ false
whole_stops t = stop_from (length t) t 0 (omega arith)

-- a record made of a command block is read back
made : (t : List ℕ) (at : ℕ) (b r : List ℕ) → length b ≡ 12 → drop at t ≡ 0xA5 ∷ 0x5A ∷ b ++ r
    → (step_at t at ≡ Ok (record { cdb = b; next = at + 14 })) × (drop (at + 14) t ≡ r)
unfolding step_at step_of
made t at b r h e =
    let m : Marked (0xA5 ∷ 0x5A ∷ b ++ r) = record { long = omega (arith, length-append b r); first = refl; second = refl } in (
      rw (e, marked_record _ m, take_at b r 12 h),
      sym (drop-drop 14 at t) ∙ rw e (drop_at b r 12 h),
    )

read-from :
    (bs : List (List ℕ)) (n : ℕ) (t : List ℕ) (at : ℕ) → all_twelve bs ≡ true → drop at t ≡ trace_of bs → length bs ≤ n
    → (cdbs n t at ≡ bs) × (position_after n t at ≡ at + length (trace_of bs))
unfolding cdbs position_after trace_of all_twelve
read-from [] zero t at a e h = (refl, omega arith)
read-from [] (suc n) t at a e h = (rw (step_none t at e), rw (step_none t at e) (omega arith))
read-from (b ∷ bs) zero t at a e h = absurd (not-suc-le-zero h)
read-from (b ∷ bs) (suc n) t at a e h =
    let w = (and-eq-true_iff (eqb (length b) 12) (all_twelve bs)).0 a in
    let m = made t at b (trace_of bs) (eqb-true (length b) 12 w.0) e in
    let r = read-from bs n t (at + 14) w.1 m.1 (le_of_suc-le-suc h) in (
      rw m.0 (ap (λ (x : List (List ℕ)). b ∷ x) r.0),
      rw m.0 (r.1 ∙ omega (arith, length-append b (trace_of bs), eqb-true (length b) 12 w.0)),
    )

-- there are no more records than bytes
fewer : (bs : List (List ℕ)) → length bs ≤ length (trace_of bs)
unfolding trace_of
fewer [] = omega arith
fewer (b ∷ bs) = omega (arith, fewer bs, length-append b (trace_of bs))

-- a trace made of command blocks is read as exactly those, and then it is at its end
pub read_back : (bs : List (List ℕ)) → all_twelve bs ≡ true → whole_cdbs (trace_of bs) ≡ bs
read_back bs a = (read-from bs (length (trace_of bs)) (trace_of bs) 0 a refl (fewer bs)).0

pub read_back-end : (bs : List (List ℕ)) → all_twelve bs ≡ true → whole_end (trace_of bs) ≡ length (trace_of bs)
read_back-end bs a = (read-from bs (length (trace_of bs)) (trace_of bs) 0 a refl (fewer bs)).1 ∙ omega arith

-- room for one record more changes nothing where there are no more bytes than records to come
enough :
    (n : ℕ) (t : List ℕ) (at : ℕ) → length t ≤ at + n → (cdbs (suc n) t at ≡ cdbs n t at) × (position_after (suc n) t at ≡ position_after n t at)
unfolding cdbs position_after
enough zero t at h = (rw (step_end t at (omega arith)), rw (step_end t at (omega arith)))
enough (suc n) t at h =
    by_step (step_at t at)
    (λ r e.
    let i = enough n t r.next (omega (arith, (record_found t at r e).next)) in
    (rw e (ap (λ (x : List (List ℕ)). r.cdb ∷ x) i.0), rw e i.1))
    (λ w e. (rw e, rw e))

-- one record more: the first of those from its position on, and then those after it
pub record Next (t : List ℕ) (at : ℕ) (r : Record) : Type 0 where
  pub more : all_from t at ≡ r.cdb ∷ all_from t r.next
  pub onward : end_from t at ≡ end_from t r.next

next_of : (t : List ℕ) (at m : ℕ) (r : Record) → step_at t at ≡ Ok r → length t ≡ suc m → Next t at r
unfolding cdbs position_after
next_of t at m r h q =
    let i = enough m t r.next (omega (arith, (record_found t at r h).next)) in
    record {
      more = rw (q, h) (ap (λ (x : List (List ℕ)). r.cdb ∷ x) (sym i.0));
      onward = rw (q, h) (sym i.1);
    }

pub whole_next : (t : List ℕ) (at : ℕ) (r : Record) → step_at t at ≡ Ok r → Next t at r
whole_next t at r h =
    next_of t at (length t - 1) r h (omega (arith, (record_found t at r h).marked.long, length-drop at t))

-- no record, so none from there on
none_of : (n : ℕ) (t : List ℕ) (at : ℕ) (w : Stop) → step_at t at ≡ Err w → (cdbs n t at ≡ []) × (position_after n t at ≡ at)
unfolding cdbs position_after
none_of zero t at w h = (refl, refl)
none_of (suc n) t at w h = (rw h, rw h)

pub whole_stop : (t : List ℕ) (at : ℕ) (w : Stop) → step_at t at ≡ Err w → (all_from t at ≡ []) × (end_from t at ≡ at)
whole_stop t at w h = none_of (length t) t at w h
