-- Closing the tail, opening a session and finalizing: what they compute with and what they record.
use Prim.Native.Nat.{◌+◌, ◌-◌, ◌≤◌, ◌<◌}
use mathlib.Core.Path.{◌≡◌, refl, ◌∙◌, ap}
use mathlib.Core.Bool.{true, false, ◌&&◌, ◌||◌}
use native.Mathlib.Omega.{arith}
use borrow.Author.Tests.{eq-eqb, ne_eqb, le-ltb, lt-ltb}
use lib.Dec.{eqb, ltb}
use lib.ListN.{length, get_or, set, length-set}
use lib.Seq.{get_or-set_same, get_or-set_other}
use Rattle.commands.specs.Types.{Fragment, Disc, Nothing, IncompleteTrackInSession, EmptyTrack, NoMoreReservations, EndOfUserArea}
use Rattle.fragments.specs.Fragment.{unused_record, end, next_session_start, tail_from, shortened_record}
use Rattle.disc.specs.Records.{is_blank, used, last_record, with_record, has_tail, has_blank_tail, blank_tail_only}
use Rattle.fragments.specs.List.{limit, sum_recorded}
use Rattle.disc.specs.Rules.{at, Sound}
use Rattle.disc.specs.Ready.{Ready}
use Rattle.decisions.specs.Plan.{no_plan, plan}
use Rattle.disc.specs.Verdict.{rise, accepted, accept, refuse}
use Rattle.protocol.specs.Reply.{no_reply}
use Rattle.commands.specs.Flush.{flush, flush_plan, flush_count}
use Rattle.commands.specs.Close.{has_incomplete_reserved, close_tail, open_session, close_session, finalized, finalize}
use Rattle.fragments.proofs.Laws.Numbers.{equal_cases, below_limit}
use Rattle.fragments.proofs.Laws.Bool.{and-false, and_both, contradiction, by_cases, cond_yes, cond_no}
use Rattle.fragments.proofs.Laws.List.{listed_le, sum-set}
use Rattle.disc.proofs.Laws.Sound.{none_pending, used_most, session-most}
use Rattle.disc.proofs.Laws.Verdict.{accept_count}
use Rattle.commands.proofs.Laws.Flush.{flush-sum, flush_pending, flush-sound}
use Rattle.commands.proofs.Laws.Reserve.{blank_recorded, last_sum}
use Rattle.disc.proofs.Laws.Order.{drop-used, last-used}

-- the three ways of closing the tail
module _ (d : Disc) where
  pub kept-blank : has_blank_tail d ≡ true → close_tail d ≡ with_record d (used d) unused_record
  unfolding close_tail
  kept-blank b = cond_yes (has_blank_tail d) _ _ b

  pub kept-tail : has_blank_tail d ≡ false → has_tail d ≡ true → close_tail d ≡ with_record d (used d) (shortened_record (last_record d))
  unfolding close_tail
  kept-tail b t = cond_no (has_blank_tail d) _ _ b ∙ cond_yes (has_tail d) _ _ t

  pub kept_same : has_tail d ≡ false → close_tail d ≡ d
  unfolding close_tail
  kept_same t =
      cond_no (has_blank_tail d) _ _ (and-false (has_tail d) (is_blank d (used d) (last_record d)) t) ∙ cond_no (has_tail d) _ _ t

-- it records nothing
pub close_tail-sum : (d : Disc) → Sound d → sum_recorded (close_tail d).fragments ≡ sum_recorded d.fragments
close_tail-sum d s =
    by_cases (has_blank_tail d)
    (λ b. rw (kept-blank d b) (omega (arith, last_sum d unused_record s, blank_recorded d b)))
    (λ b.
    by_cases (has_tail d)
    (λ t. rw (kept-tail d b t) (omega (arith, last_sum d (shortened_record (last_record d)) s)))
    (λ t. rw (kept_same d t)))

-- with nothing pending a tail that is not blank has a block recorded
pub tail_written : (d : Disc) → d.pending ≡ 0 → has_tail d ≡ true → has_blank_tail d ≡ false → (last_record d).recorded ≡ 0 → ⊥
tail_written d p t b w = contradiction (and_both t (and_both (eq-eqb _ _ w) (eq-eqb _ _ (none_pending d (used d) p)))) b

-- what is known of the list with its tail closed: its records, the free place after them, and a small session number
pub record Kept (k : Disc) : Type 0 where
  pub array : length k.fragments ≡ limit
  pub free : at k (used k) ≡ unused_record
  pub sessions : (last_record k).session ≤ limit

module _ (d : Disc) (s : Sound d) (p : d.pending ≡ 0) where
  -- the blank tail is dropped
  kept-dropped : Kept (with_record d (used d) unused_record)
  kept-dropped =
      let n = used d in
      let fs = d.fragments in
      let gs = set fs (n - 1) unused_record in
      let slot : n - 1 < length fs = omega (arith, s.some, listed_le fs) in
      let gone = get_or-set_same fs (n - 1) unused_record unused_record slot in
      record {
        array = length-set fs (n - 1) unused_record ∙ s.array;
        free = ap (λ k. get_or gs k unused_record) (drop-used d s) ∙ gone;
        sessions =
            equal_cases n 1
            (λ e.
            let last : last_record (with_record d n unused_record) ≡ unused_record =
            ap (λ k. get_or gs (k - 1) unused_record) ((drop-used d s) ∙ ap (λ m. m - 1) e) ∙ (ap (λ m. get_or (set fs (m - 1) unused_record) 0 unused_record) e ∙ get_or-set_same fs 0 unused_record unused_record (omega arith)) in
            omega (arith, ap (λ f. f.session) last))
            (λ e.
            let index : used (with_record d n unused_record) - 1 ≡ n - 2 = omega (arith, (drop-used d s)) in
            let last : last_record (with_record d n unused_record) ≡ at d (n - 2) =
            ap (λ k. get_or gs k unused_record) index ∙ get_or-set_other fs (n - 1) (n - 2) unused_record unused_record (λ q. omega (arith, s.some)) in
            omega (arith, ap (λ f. f.session) last, session-most d s (n - 2) (omega (arith, s.some)), used_most d s));
      }

  -- the last record is another one in its place
  kept-replaced : (g : Fragment) → (g.length ≡ 0 → ⊥) → g.session ≡ (last_record d).session → Kept (with_record d (used d) g)
  kept-replaced g l e =
      let n = used d in
      let fs = d.fragments in
      let gs = set fs (n - 1) g in
      let slot : n - 1 < length fs = omega (arith, s.some, listed_le fs) in
      let u = last-used d s g l in
      record {
        array = length-set fs (n - 1) g ∙ s.array;
        free =
            ap (λ k. get_or gs k unused_record) u
            ∙ (get_or-set_other fs (n - 1) n g unused_record (λ q. omega (arith, s.some)) ∙ s.unused n (omega arith));
        sessions =
            let last : last_record (with_record d n g) ≡ g = ap (λ k. get_or gs (k - 1) unused_record) u ∙ get_or-set_same fs (n - 1) g unused_record slot in
            omega (arith, ap (λ f. f.session) last, session-most d s (n - 1) (omega (arith, s.some)), used_most d s, s.some);
      }

  pub kept : Kept (close_tail d)
  kept =
      by_cases (has_blank_tail d)
      (λ b. rw (kept-blank d b) kept-dropped)
      (λ b.
      by_cases (has_tail d)
      (λ t. rw (kept-tail d b t) (kept-replaced (shortened_record (last_record d)) (tail_written d p t b) refl))
      (λ t.
      rw (kept_same d t)
      (record {
        array = s.array;
        free = s.unused (used d) (omega arith);
        sessions = omega (arith, session-most d s (used d - 1) (omega (arith, s.some)), used_most d s, s.some);
      })))

pub kept_few : (d : Disc) → Sound d → d.pending ≡ 0 → (used (close_tail d) ≡ limit → ⊥) → used (close_tail d) < limit
kept_few d s p u = below_limit (within (kept d s p).array) u
  where
    within : length (close_tail d).fragments ≡ limit → used (close_tail d) ≤ limit
    within a = omega (arith, listed_le (close_tail d).fragments)

-- opening a session records nothing
pub open_sum : (k : Disc) → Kept k → used k < limit → sum_recorded (open_session k).fragments ≡ sum_recorded k.fragments
unfolding open_session
open_sum k e h =
    let n = used k in
    let g = tail_from k.capacity ((last_record k).session + 1) (next_session_start (end (last_record k))) in
    let next-index : n + 1 - 1 ≡ n = omega arith in
    let m = sum-set k.fragments n g unused_record (omega (arith, e.array)) in
    rw next-index (omega (arith, ap (λ f. f.recorded) e.free))

-- the outcomes of 010
module _ (d : Disc) where
  pub session-idle : (d.finalized || blank_tail_only d) ≡ true → close_session d ≡ accept d d no_reply no_plan
  unfolding close_session
  session-idle h = cond_yes (d.finalized || blank_tail_only d) _ _ h

  module _ (h : (d.finalized || blank_tail_only d) ≡ false) where
    pub session-incomplete : has_incomplete_reserved (flush d) ≡ true → close_session d ≡ refuse d IncompleteTrackInSession
    unfolding close_session
    session-incomplete i = cond_no (d.finalized || blank_tail_only d) _ _ h ∙ cond_yes (has_incomplete_reserved (flush d)) _ _ i

    module _ (i : has_incomplete_reserved (flush d) ≡ false) where
      pub session-full : used (close_tail (flush d)) ≡ limit → close_session d ≡ refuse d NoMoreReservations
      unfolding close_session
      session-full u =
          cond_no (d.finalized || blank_tail_only d) _ _ h
          ∙ (cond_no (has_incomplete_reserved (flush d)) _ _ i ∙ cond_yes (eqb (used (close_tail (flush d))) limit) _ _ (eq-eqb _ _ u))

      module _ (u : used (close_tail (flush d)) ≡ limit → ⊥) where
        pub session-past :
            d.capacity < (next_session_start (end (last_record (close_tail (flush d))))).0 + 1 → close_session d ≡ refuse d EndOfUserArea
        unfolding close_session
        session-past l =
            cond_no (d.finalized || blank_tail_only d) _ _ h
            ∙ (cond_no (has_incomplete_reserved (flush d)) _ _ i
            ∙ (cond_no (eqb (used (close_tail (flush d))) limit) _ _ (ne_eqb _ _ u)
            ∙ cond_yes (ltb d.capacity ((next_session_start (end (last_record (close_tail (flush d))))).0 + 1)) _ _ (lt-ltb _ _ l)))

        pub session-done :
            Ready d → (next_session_start (end (last_record (close_tail (flush d))))).0 + 1 ≤ d.capacity
            → close_session d ≡ accepted (open_session (close_tail (flush d))) (flush_count d) no_reply (plan (flush_plan d) Nothing)
        unfolding close_session
        session-done r l =
            let e = flush d in
            let k = close_tail e in
            let s = flush-sound d r in
            let few = kept_few e s (flush_pending d) u in
            let count : rise d (open_session k) ≡ flush_count d =
            omega (arith, open_sum k (kept e s (flush_pending d)) few, close_tail-sum e s, flush-sum d r) in
            cond_no (d.finalized || blank_tail_only d) _ _ h
            ∙ (cond_no (has_incomplete_reserved (flush d)) _ _ i
            ∙ (cond_no (eqb (used k) limit) _ _ (ne_eqb _ _ u)
            ∙ (cond_no (ltb d.capacity ((next_session_start (end (last_record k))).0 + 1)) _ _ (le-ltb _ _ l)
            ∙ accept_count d (open_session k) no_reply (plan (flush_plan d) Nothing) (flush_count d) count)))

-- the outcomes of 110
module _ (d : Disc) where
  pub finalize-idle : d.finalized ≡ true → finalize d ≡ accept d d no_reply no_plan
  unfolding finalize
  finalize-idle f = cond_yes d.finalized _ _ f

  module _ (f : d.finalized ≡ false) where
    pub finalize-incomplete : has_incomplete_reserved (flush d) ≡ true → finalize d ≡ refuse d IncompleteTrackInSession
    unfolding finalize
    finalize-incomplete i = cond_no d.finalized _ _ f ∙ cond_yes (has_incomplete_reserved (flush d)) _ _ i

    module _ (i : has_incomplete_reserved (flush d) ≡ false) where
      pub finalize-blank : (blank_tail_only d && eqb (last_record d).session 1) ≡ true → finalize d ≡ refuse d EmptyTrack
      unfolding finalize
      finalize-blank b =
          cond_no d.finalized _ _ f
          ∙ (cond_no (has_incomplete_reserved (flush d)) _ _ i ∙ cond_yes (blank_tail_only d && eqb (last_record d).session 1) _ _ b)

      pub finalize-done :
          Ready d → (blank_tail_only d && eqb (last_record d).session 1) ≡ false
          → finalize d ≡ accepted (finalized (close_tail (flush d))) (flush_count d) no_reply (plan (flush_plan d) Nothing)
      unfolding finalize
      finalize-done r b =
          let e = flush d in
          let count : rise d (finalized (close_tail e)) ≡ flush_count d = omega (arith, close_tail-sum e (flush-sound d r), flush-sum d r) in
          cond_no d.finalized _ _ f
          ∙ (cond_no (has_incomplete_reserved (flush d)) _ _ i
          ∙ (cond_no (blank_tail_only d && eqb (last_record d).session 1) _ _ b
          ∙ accept_count d (finalized (close_tail e)) no_reply (plan (flush_plan d) Nothing) (flush_count d) count))

pub kept_capacity : (d : Disc) → (close_tail d).capacity ≡ d.capacity
kept_capacity d =
    by_cases (has_blank_tail d)
    (λ b. rw (kept-blank d b))
    (λ b. by_cases (has_tail d) (λ t. rw (kept-tail d b t)) (λ t. rw (kept_same d t)))

pub kept_finalized : (d : Disc) → (close_tail d).finalized ≡ d.finalized
kept_finalized d =
    by_cases (has_blank_tail d)
    (λ b. rw (kept-blank d b))
    (λ b. by_cases (has_tail d) (λ t. rw (kept-tail d b t)) (λ t. rw (kept_same d t)))

pub kept_pending_lem : (d : Disc) → (close_tail d).pending ≡ d.pending
kept_pending_lem d =
    by_cases (has_blank_tail d)
    (λ b. rw (kept-blank d b))
    (λ b. by_cases (has_tail d) (λ t. rw (kept-tail d b t)) (λ t. rw (kept_same d t)))
