-- A trace that comes in parts: a record or a bad mark in the first part stands there in the whole, and where the first part is cut short
-- or at its end, its last bytes are read again with what comes.
use Rattle.std.proofs.Common.{◌≡◌, sym, ap, ◌∙◌, ℕ, zero, suc, ◌+◌, ◌≤◌, ◌<◌, arith, List, ◌∷◌, ◌++◌, length, take, drop, length-drop, Ok, Err}
use Rattle.std.proofs.lemmas.Bool.Decides.{nat_tests}
use lib.ListN.{length-append, get_or-append}
use lib.Seq.{drop-append-le, take-append-le, drop-drop}
use Rattle.trace.specs.Types.{Record, Reason, BadMark, End, Stop}
use Rattle.trace.specs.Record.{bad_mark, cdb_of, reading_of, reason_of, step_of, stopped, step_at}
use Rattle.trace.specs.Whole.{all_from, end_from, whole_cdbs, whole_end}
use Rattle.trace.proofs.Laws.Record.{Marked, marked_record, step_end, step_record, step_stop}
use Rattle.trace.proofs.Laws.Whole.{by_step, record_found, whole_next, whole_stop}

pub record_early : (a b : List ℕ) (at : ℕ) (r : Record) → step_at a at ≡ Ok r → step_at (a ++ b) at ≡ Ok r
unfolding step_at step_of
record_early a b at r h =
    let l = drop at a in
    let m = (record_found a at r h).marked in
    let long : 14 ≤ length l = m.long in
    let e : drop at (a ++ b) ≡ l ++ b = drop-append-le at a b (omega (arith, length-drop at a)) in
    let more : Marked (l ++ b) =
    record {
      long = omega (arith, length-append l b);
      first = get_or-append l b 0 0 (omega arith) ∙ m.first;
      second = get_or-append l b 0 1 (omega arith) ∙ m.second;
    } in
    let k : cdb_of (l ++ b) ≡ cdb_of l =
    ap (take 12) (drop-append-le 2 l b (omega arith)) ∙ take-append-le 12 (drop 2 l) b (omega (arith, length-drop 2 l)) in
    rw (e, marked_record (l ++ b) more, k) (rw (marked_record l m) at h)

not_empty : (l : List ℕ) (r : Reason) → reading_of l ≡ Err r → (r ≡ End → ⊥) → 0 < length l
unfolding reading_of
not_empty l r h q = grind (arith, nat_tests)

-- a wrong mark byte stays wrong
bad_more : (l b : List ℕ) → reading_of l ≡ Err BadMark → reading_of (l ++ b) ≡ Err BadMark
unfolding reading_of bad_mark
bad_more l b h = grind (arith, nat_tests, length-append l b, get_or-append l b 0)

pub bad_early : (a b : List ℕ) (at : ℕ) → reading_of (drop at a) ≡ Err BadMark → step_at (a ++ b) at ≡ stopped BadMark at
unfolding step_at step_of
bad_early a b at h =
    let some : 0 < length (drop at a) = not_empty (drop at a) BadMark h (λ e. absurd (let z : ◌≡◌ {A = ℕ} 0 1 = cc in omega arith)) in
    rw (drop-append-le at a b (omega (arith, length-drop at a)), bad_more (drop at a) b h)

-- the records of a trace that goes on are those of its first part, and then those from its stop on
record Goes (a b : List ℕ) (at : ℕ) : Type 0 where
  cdbs : all_from (a ++ b) at ≡ all_from a at ++ all_from (a ++ b) (end_from a at)
  end : end_from (a ++ b) at ≡ end_from (a ++ b) (end_from a at)

goes_stop : (a b : List ℕ) (at : ℕ) (w : Stop) → step_at a at ≡ Err w → Goes a b at
goes_stop a b at w h = let s = whole_stop a at w h in record { cdbs = rw (s.0, s.1); end = rw s.1 }

goes : (k : ℕ) (a b : List ℕ) (at : ℕ) → length a ≤ at + k → Goes a b at
goes zero a b at h = goes_stop a b at _ (step_end a at (omega arith))
goes (suc k) a b at h =
    by_step (step_at a at)
    (λ r e.
    let n = whole_next a at r e in
    let m = whole_next (a ++ b) at r (record_early a b at r e) in
    let i = goes k a b r.next (omega (arith, (record_found a at r e).next)) in
    record {
      cdbs = rw (n.more, n.onward) (m.more ∙ ap (λ (x : List (List ℕ)). r.cdb ∷ x) i.cdbs);
      end = rw n.onward (m.onward ∙ i.end);
    })
    (λ w e. goes_stop a b at w e)

-- reading from a position on is reading what is left there
shifted : (t : List ℕ) (p at : ℕ) → drop (p + at) t ≡ drop at (drop p t)
shifted t p at = sym (drop-drop at p t)

alike : (t : List ℕ) (p at : ℕ) → step_at t (p + at) ≡ step_of (reading_of (drop at (drop p t))) (p + at)
unfolding step_at
alike t p at = rw (shifted t p at)

alike_record : (t : List ℕ) (p at : ℕ) (r : Record) → step_at (drop p t) at ≡ Ok r → step_at t (p + at) ≡ Ok (record { cdb = r.cdb; next = p + at + 14 })
unfolding step_at step_of
alike_record t p at r h = alike t p at ∙ rw (step_record (reading_of (drop at (drop p t))) at r h).0

alike_stop : (t : List ℕ) (p at : ℕ) (w : Stop) → step_at (drop p t) at ≡ Err w → step_at t (p + at) ≡ stopped w.reason (p + at)
unfolding step_at step_of
alike_stop t p at w h = alike t p at ∙ rw (step_stop (reading_of (drop at (drop p t))) at w h).0

alike_reason : (t : List ℕ) (p at : ℕ) → reason_of (step_at t (p + at)) ≡ reason_of (step_at (drop p t) at)
alike_reason t p at =
    by_step (step_at (drop p t) at)
    (λ r h. rw (h, alike_record t p at r h))
    (λ w h. rw (h, alike_stop t p at w h))

record Left (t : List ℕ) (p at : ℕ) : Type 0 where
  cdbs : all_from t (p + at) ≡ all_from (drop p t) at
  end : end_from t (p + at) ≡ p + end_from (drop p t) at

left_stop : (t : List ℕ) (p at : ℕ) (w : Stop) → step_at (drop p t) at ≡ Err w → Left t p at
left_stop t p at w h =
    let s = whole_stop t (p + at) _ (alike_stop t p at w h) in
    let u = whole_stop (drop p t) at w h in
    record { cdbs = rw (s.0, u.0); end = rw (s.1, u.1) }

left_from : (k : ℕ) (t : List ℕ) (p at : ℕ) → length t ≤ p + at + k → Left t p at
left_from zero t p at h = left_stop t p at _ (step_end (drop p t) at (omega (arith, length-drop p t)))
left_from (suc k) t p at h =
    by_step (step_at (drop p t) at)
    (λ r e.
    let n = whole_next t (p + at) _ (alike_record t p at r e) in
    let m = whole_next (drop p t) at r e in
    let q : p + at + 14 ≡ p + r.next = omega (arith, (record_found (drop p t) at r e).next) in
    let i = left_from k t p r.next (omega (arith, (record_found (drop p t) at r e).next)) in
    record {
      cdbs = rw (n.more, m.more, q) (ap (λ (x : List (List ℕ)). r.cdb ∷ x) i.cdbs);
      end = rw (n.onward, m.onward, q) i.end;
    })
    (λ w e. left_stop t p at w e)

-- a trace that begins with a record: that record, and then those of what is left after it; the whole stops as that does
pub record AfterFirst (t : List ℕ) (r : Record) : Type 0 where
  pub cdbs : whole_cdbs t ≡ r.cdb ∷ whole_cdbs (drop r.next t)
  pub reason : reason_of (step_at t (whole_end t)) ≡ reason_of (step_at (drop r.next t) (whole_end (drop r.next t)))

pub after_first : (t : List ℕ) (r : Record) → step_at t 0 ≡ Ok r → AfterFirst t r
after_first t r e =
    let n = whole_next t 0 r e in
    let f = left_from (length t) t r.next 0 (omega arith) in
    let q : r.next + 0 ≡ r.next = omega arith in
    record {
      cdbs = n.more ∙ ap (λ (x : List (List ℕ)). r.cdb ∷ x) (ap (all_from t) (sym q) ∙ f.cdbs);
      reason =
          ap (λ (x : ℕ). reason_of (step_at t x)) (n.onward ∙ ap (end_from t) (sym q) ∙ f.end)
          ∙ alike_reason t r.next (whole_end (drop r.next t));
    }

-- where the reader stops it has not gone past the end
end-within : (k : ℕ) (t : List ℕ) (at : ℕ) → length t ≤ at + k → at ≤ length t → end_from t at ≤ length t
end-within zero t at h l = rw (whole_stop t at _ (step_end t at (omega arith))).1 l
end-within (suc k) t at h l =
    by_step (step_at t at)
    (λ r e.
    let f = record_found t at r e in
    rw (whole_next t at r e).onward (end-within k t r.next (omega (arith, f.next)) (omega (arith, f.next, f.marked.long, length-drop at t))))
    (λ w e. rw (whole_stop t at w e).1 l)

pub whole-within : (t : List ℕ) → whole_end t ≤ length t
whole-within t = end-within (length t) t 0 (omega arith) (omega arith)

-- a trace in two parts: the records of the first, and then those of what it leaves with the second after it; the whole stops as that does
pub record InParts (a b : List ℕ) : Type 0 where
  pub cdbs : whole_cdbs (a ++ b) ≡ whole_cdbs a ++ whole_cdbs (drop (whole_end a) a ++ b)
  pub reason :
      reason_of (step_at (a ++ b) (whole_end (a ++ b)))
      ≡ reason_of (step_at (drop (whole_end a) a ++ b) (whole_end (drop (whole_end a) a ++ b)))

pub in_parts : (a b : List ℕ) → InParts a b
in_parts a b =
    let e = whole_end a in
    let g = goes (length a) a b 0 (omega arith) in
    let f = left_from (length (a ++ b)) (a ++ b) e 0 (omega arith) in
    let q : e + 0 ≡ e = omega arith in
    let d : drop e (a ++ b) ≡ drop e a ++ b = drop-append-le e a b (whole-within a) in
    let l : all_from (a ++ b) e ≡ whole_cdbs (drop e a ++ b) = ap (all_from (a ++ b)) (sym q) ∙ f.cdbs ∙ ap whole_cdbs d in
    let n : end_from (a ++ b) e ≡ e + whole_end (drop e (a ++ b)) = ap (end_from (a ++ b)) (sym q) ∙ f.end in
    record {
      cdbs = g.cdbs ∙ ap (λ (x : List (List ℕ)). whole_cdbs a ++ x) l;
      reason =
          ap (λ (x : ℕ). reason_of (step_at (a ++ b) x)) (g.end ∙ n)
          ∙ alike_reason (a ++ b) e (whole_end (drop e (a ++ b)))
          ∙ ap (λ (x : List ℕ). reason_of (step_at x (whole_end x))) d;
    }
