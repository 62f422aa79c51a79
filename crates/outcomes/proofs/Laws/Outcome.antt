-- What a command does to the list: accepted, it leaves a sound list and the capacity; refused, the disc but for the sense.
use Rattle.std.proofs.lemmas.Bool.Decides.{nat_tests}
use Prim.Native.Nat.{ℕ, ◌+◌, ◌-◌, ◌≤◌, ◌<◌, ◌/◌}
use mathlib.Core.Path.{◌≡◌, refl, sym, ◌∙◌, ap}
use mathlib.Core.Bool.{true, false, not, ◌&&◌, ◌||◌}
use native.Mathlib.Omega.{arith}
use borrow.Author.Tests.{eq-eqb, eqb-false, ltb-false, not-false}
use lib.Dec.{eqb, ltb}
use lib.ListN.{length, set}
use Rattle.outcomes.specs.Types.{Sense, Accepted, Drive, Lba, Kind, Reserved, Appended, Disc, Option, Some, None, Reply, Plan, Verdict, DriveRefusal, LinkRefusal, Link, Nothing, Command, Write, InvalidFieldInCommand, InvalidAddressForWrite, IncompleteTrackInSession, EmptyTrack, NoMoreReservations, EndOfUserArea, Read, Gather, Fill}
use Rattle.fragments.specs.Address.{first_sector, sectors_in}
use Rattle.protocol.specs.Answer.{no_sense, refusal_sense}
use Rattle.fragments.specs.Fragment.{end, complete, next_session_start, first_unrecorded, shortened_record}
use Rattle.disc.specs.Records.{is_blank, pending_in, used, is_listed, numbered, last_record, with_record, has_blank_tail, writable_at, blank_tail_only, with_sense}
use Rattle.fragments.specs.List.{limit}
use Rattle.disc.specs.Rules.{Sound}
use Rattle.disc.specs.Ready.{Ready}
use Rattle.protocol.specs.Lengths.{reply_room}
use Rattle.decisions.specs.Plan.{no_plan, plan}
use Rattle.disc.specs.Verdict.{rise, accepted, accept, refuse}
use Rattle.protocol.specs.Reply.{no_reply, said}
use Rattle.commands.specs.Flush.{flush, flush_plan, synchronize_cache}
use Rattle.commands.specs.Write.{flush_others, gather, write_to, write_found, write, Writable, flush_others_plan, grown_record}
use Rattle.commands.specs.Reserve.{split_tail, reserve}
use Rattle.commands.specs.Close.{filled_record, append_tail, close_incomplete, close_fragment, has_incomplete_reserved, close_tail, open_session, close_session, finalized, finalize, close}
use Rattle.commands.specs.Read.{all_readable, sending}
use Rattle.outcomes.specs.Recorded.{transfers}
use Rattle.outcomes.proofs.Laws.Pending.{Pending, pending_same, pending_sent, pending_none, pending_filled, pending-gathered, pending_split}
use Rattle.outcomes.proofs.Laws.Recorded.{Records, set-onward, flush-onward, others_onward, flush-records, both_record, nothing_records, sent-records}
use Rattle.fragments.proofs.Laws.Bool.{and_both, cond_cases, or_right, or_false_left, contradiction}
use Rattle.fragments.proofs.Laws.Numbers.{equal_cases}
use Rattle.disc.proofs.Laws.Records.{listed-number}
use Rattle.disc.proofs.Laws.Rules.{sound-rules, rules-sound}
use Rattle.commands.proofs.Laws.Flush.{used-limit, flush-sound, flush_capacity, flush-finalized, flush_pending, flush-used, flush-written}
use Rattle.commands.proofs.Laws.Write.{writable_found, others_sound, others-numbered, others-pending}
use Rattle.commands.proofs.Laws.Reserve.{reserve_cases}
use Rattle.commands.proofs.Laws.Close.{appended_last}
use Rattle.commands.proofs.Laws.Session.{kept_few, kept_capacity, kept_finalized, kept_pending_lem}
use Rattle.disc.proofs.Laws.Onward.{Onward, same_onward, onward-on, NoBlock, onward_as, onward-before, onward-after, list-onward}
use Rattle.outcomes.proofs.Laws.Plan.{Placed, placed_none, placed_flush, placed_gather, placed_fill, placed_send}
use Rattle.outcomes.proofs.Laws.Keep.{split-onward, fill_grows, shorten-onward, close_tail-onward, open-session-onward, gather_grows, split-sound, fill_sound, shorten-sound, close-tail-closed, open-session-sound, finalize-sound, only_blank, gather-sound, write_room}

-- a reply's bytes are there, and the command asks for room for them
pub record Room (c : Command) (r : Reply) : Type 0 where
  pub fits : r.length ≤ reply_room c
  pub whole : r.length ≤ length (said r.content)

pub data Outcome (d : Disc) (c : Command) : Verdict → Type 0 where
  done :
      (after : Disc) (r : Reply) (p : Plan) → Sound after → after.capacity ≡ d.capacity → Onward d after (Records p)
      → Placed d c p → Pending d p after → Room c r → Outcome d c (accept d after r p)
  refused : (r : DriveRefusal) → Outcome d c (refuse d r)

-- no reply has room everywhere
pub no_room : (c : Command) → Room c no_reply
unfolding said
no_room c = record { fits = omega arith; whole = omega arith }

-- an accepted command that leaves the list alone
pub same_outcome :
    (d : Disc) (c : Command) (r : Reply) → Room c r → Ready d → Outcome d c (accept d d r no_plan)
same_outcome d c r m k = grind (arith, nat_tests, done, sound-rules, nothing_records, same_onward, placed_none, pending_same)

-- a READ that is accepted
pub sent-outcome :
    (d : Disc) (a : Lba) (n : ℕ) → (n ≡ 0 → ⊥) → a.0 + n ≤ sectors_in d.capacity → all_readable d a n ≡ true → Ready d
    → Outcome d (Read a n) (accept d d no_reply (plan None (sending d a n)))
unfolding sending
sent-outcome d a n z h t k =
    let s = sound-rules d k.sound in
    done d no_reply (plan None (sending d a n)) s refl (sent-records d a _ _ _) (placed_send d a n s z h t) (pending_sent d a _ _ _) (no_room (Read a n))

-- and moves no byte
pub unchanged-outcome : (d : Disc) (c : Command) → Ready d → Outcome d c (accept d d no_reply no_plan)
unchanged-outcome d c r = same_outcome d c no_reply (no_room c) r

flush_done : (d : Disc) (c : Command) → Ready d → Outcome d c (accept d (flush d) no_reply (plan (flush_plan d) Nothing))
flush_done d c r =
    done (flush d) no_reply (plan (flush_plan d) Nothing) (flush-sound d r) (flush_capacity d)
    (flush-records d (flush d) (flush_plan d) (flush-onward d r)) (placed_flush d c r) (pending_none d (flush d) (flush_pending d)) (no_room c)

pub synchronize_outcome : (d : Disc) (c : Command) → Ready d → Outcome d c (synchronize_cache d)
unfolding synchronize_cache
synchronize_outcome d c r = flush_done d c r

-- WRITE
gather_capacity : (d : Disc) (number n : ℕ) → (gather (flush_others d number) number n).capacity ≡ d.capacity
unfolding gather flush_others
gather_capacity d number n = grind (arith, flush_capacity)

pub gathered_list :
    (d : Disc) (number n : ℕ)
    → (gather d number n).fragments ≡ set d.fragments (number - 1) (grown_record ((pending_in d number + n) / 16) (numbered d number))
unfolding gather
gathered_list d number n = refl

write-onward :
    (d : Disc) (a : Lba) (number n : ℕ) → Ready d → Writable d a number → a.0 + n ≤ (first_sector (end (numbered d number))).0
    → Onward d (gather (flush_others d number) number n)
    (Records (plan (flush_others_plan d number) (Gather (first_unrecorded (numbered d number)) (pending_in d number) n)))
unfolding transfers
write-onward d a number n r w h =
    let e = flush_others d number in
    let s = others_sound d number r in
    let k = gather e number n in
    let m = write_room d a number n r w h in
    let f = others-numbered d number r w.from in
    let blocks : (pending_in e number + n) / 16 ≡ (pending_in d number + n) / 16 = ap (λ x. (x + n) / 16) (others-pending d number r w.from) in
    let grown = set-onward e k (number - 1) ((pending_in e number + n) / 16) (grown_record ((pending_in e number + n) / 16) (numbered e number)) s (omega (arith, m.from, m.listed)) (gather_grows e number n s m) (gathered_list e number n) refl refl in
    both_record d k (flush_others_plan d number) (Gather (first_unrecorded (numbered d number)) (pending_in d number) n)
    (onward-on d e k _ _ (others_onward d number r)
    (onward_as e k _ _
    (λ x t. rw (blocks, ap (λ g. (first_unrecorded g).0) f) at t)
    (λ x t. rw (blocks, ap (λ g. (first_unrecorded g).0) f) t) grown))

found-outcome : (d : Disc) (a : Lba) (n : ℕ) → Ready d → (w : Option ℕ) → writable_at d a ≡ w → Outcome d (Write a n) (write_found d a n w)
unfolding write_found write_to
found-outcome d a n r (Some number) e =
    let w = writable_found d a number e in
    cond_cases (Outcome d (Write a n)) (ltb (first_sector (end (numbered d number))).0 (a.0 + n)) _ _ (λ h. refused EndOfUserArea)
    (λ h.
    done (gather (flush_others d number) number n) _ _
    (gather-sound (flush_others d number) number n (others_sound d number r) (write_room d a number n r w (ltb-false _ _ h)))
    (gather_capacity d number n)
    (write-onward d a number n r w (ltb-false _ _ h)) (placed_gather d a number n r w (ltb-false _ _ h))
    (pending-gathered d number n r w.from (omega (arith, w.listed, used-limit d r))) (no_room (Write a n)))
found-outcome d a n r None e = refused InvalidAddressForWrite

pub write-outcome : (d : Disc) (a : Lba) (n : ℕ) → Ready d → Outcome d (Write a n) (write d a n)
unfolding write
write-outcome d a n r = grind (arith, nat_tests, unchanged-outcome, refused, found-outcome)

-- RESERVE
split_capacity : (d : Disc) (b : ℕ) → (split_tail d b).capacity ≡ d.capacity
unfolding split_tail
split_capacity d b = refl

pub reserve-outcome : (d : Disc) (c : Command) (size : ℕ) → Ready d → Outcome d c (reserve d size)
reserve-outcome d c size r =
    let s = sound-rules d r.sound in
    reserve_cases (Outcome d c) d size r refused
    (λ b some f t w.
    done (split_tail d b) _ _ (split-sound d b s t w.free some w.start f) (split_capacity d b)
    (nothing_records d (split_tail d b) (split-onward d b s t w.free some w.start))
    (placed_none d c) (pending_split d b r t) (no_room c))

-- CLOSE 001
append_capacity : (d : Disc) (n : ℕ) → (append_tail d n).capacity ≡ d.capacity
unfolding append_tail
append_capacity d n = grind arith

pub append_pending : (d : Disc) (n : ℕ) → (append_tail d n).pending ≡ d.pending
unfolding append_tail
append_pending d n = grind arith

fill_records :
    (d : Disc) (n : ℕ) → Ready d → 1 ≤ n → n ≤ used (flush d)
    → Onward d (with_record (flush d) n (filled_record (numbered (flush d) n)))
    (Records
    (plan (flush_plan d) (Fill (first_unrecorded (numbered (flush d) n)) ((numbered (flush d) n).length - (numbered (flush d) n).recorded))))
unfolding transfers
fill_records d n r from to =
    let e = flush d in
    let s = flush-sound d r in
    let f = numbered e n in
    both_record d _ (flush_plan d) (Fill (first_unrecorded f) (f.length - f.recorded))
    (onward-on d e _ _ _ (flush-onward d r)
    (set-onward e (with_record e n (filled_record f)) (n - 1) (f.length - f.recorded) (filled_record f) s (omega arith) (fill_grows e n s from to) refl refl
    (let w = s.recorded (n - 1) (omega arith) in omega (arith, w))))

-- a disc with an incomplete fragment is not finalized
incomplete_open : (d : Disc) (n : ℕ) → Sound d → 1 ≤ n → n ≤ used d → complete (numbered d n) ≡ false → d.finalized ≡ false
incomplete_open d n s from to c = grind arith

incomplete_outcome :
    (d : Disc) (c : Command) (n : ℕ) → Ready d → 1 ≤ n → n ≤ used (flush d) → is_blank d n (numbered d n) ≡ false → complete (numbered (flush d) n) ≡ false
    → (k : Kind) → (numbered (flush d) n).kind ≡ k → Outcome d c (close_incomplete d (flush d) n k)
unfolding close_incomplete
incomplete_outcome d c n r from to b i Reserved e =
    done (with_record (flush d) n (filled_record (numbered (flush d) n))) _ _
    (fill_sound (flush d) n (flush-sound d r) (flush_pending d) from to) (flush_capacity d)
    (fill_records d n r from to)
    (placed_fill d c n r from to) (pending_filled d _ _ _ (flush_pending d)) (no_room c)
incomplete_outcome d c n r from to b i Appended e =
    let s = flush-sound d r in
    let last = appended_last (flush d) n s from to i e in
    let g = shortened_record (numbered (flush d) n) in
    let written : (last_record (flush d)).recorded ≡ 0 → ⊥ =
    λ w. flush-written d n r b (ap (λ m. (numbered (flush d) m).recorded) last ∙ w) in
    let same = ap (λ m. append_tail (with_record (flush d) m (shortened_record (numbered (flush d) m))) m) (sym last) in
    done (append_tail (with_record (flush d) n g) n) _ _
    (rw same at (shorten-sound (flush d) s (flush_pending d) written (incomplete_open (flush d) n s from to i)))
    (append_capacity (with_record (flush d) n g) n ∙ flush_capacity d)
    (flush-records d _ (flush_plan d)
    (onward-after d (flush d) _ _ (flush-onward d r) (rw same at (shorten-onward (flush d) s (flush_pending d) written))))
    (placed_flush d c r) (pending_none d _ (append_pending (with_record (flush d) n g) n ∙ flush_pending d)) (no_room c)

pub close_fragment-outcome : (d : Disc) (c : Command) (n : ℕ) → Ready d → Outcome d c (close_fragment d n)
unfolding close_fragment
close_fragment-outcome d c n r =
    cond_cases (Outcome d c) (not (is_listed d n)) _ _ (λ l. refused InvalidFieldInCommand)
    (λ l.
    let k = listed-number d n (not-false _ l) in
    cond_cases (Outcome d c) (is_blank d n (numbered d n)) _ _ (λ b. refused EmptyTrack)
    (λ b.
    cond_cases (Outcome d c) (complete (numbered (flush d) n)) _ _
    (λ i. flush_done d c r)
    (λ i. incomplete_outcome d c n r k.0 (omega (arith, k.1, flush-used d r)) b i (numbered (flush d) n).kind refl)))

-- CLOSE 010 and 110
two_kept :
    (d : Disc) → Ready d → (blank_tail_only d ≡ true → (last_record d).session ≡ 1 → ⊥) → has_blank_tail (flush d) ≡ true → 2 ≤ used (flush d)
two_kept d r n b =
    equal_cases (used (flush d)) 1
    (λ e. let k = only_blank d r b e in absurd (n k.0 k.1))
    (λ e. omega (arith, (flush-sound d r).some))

open_pending : (k : Disc) → (open_session k).pending ≡ k.pending
unfolding open_session
open_pending k = refl

open_capacity : (k : Disc) → (open_session k).capacity ≡ k.capacity
unfolding open_session
open_capacity k = refl

pub close_session-outcome : (d : Disc) (c : Command) → Ready d → Outcome d c (close_session d)
unfolding close_session
close_session-outcome d c r =
    let e = flush d in
    let s = flush-sound d r in
    let p = flush_pending d in
    let k = close_tail e in
    cond_cases (Outcome d c) (d.finalized || blank_tail_only d) _ _ (λ h. unchanged-outcome d c r)
    (λ h.
    cond_cases (Outcome d c) (has_incomplete_reserved e) _ _ (λ i. refused IncompleteTrackInSession)
    (λ i.
    cond_cases (Outcome d c) (eqb (used k) limit) _ _ (λ u. refused NoMoreReservations)
    (λ u.
    cond_cases (Outcome d c) (ltb d.capacity ((next_session_start (end (last_record k))).0 + 1)) _ _ (λ l. refused EndOfUserArea)
    (λ l.
    let t = close-tail-closed e s p i (two_kept d r (λ b q. contradiction (or_right d.finalized b) h)) in
    let same = kept_capacity e ∙ flush_capacity d in
    let few = kept_few e s p (eqb-false _ _ u) in
    let start : (next_session_start (end (last_record k))).0 < k.capacity =
    omega (arith, ltb-false d.capacity ((next_session_start (end (last_record k))).0 + 1) l, same) in
    done (open_session k) _ _
    (open-session-sound k t few start (kept_finalized e ∙ (flush-finalized d ∙ or_false_left d.finalized (blank_tail_only d) h)))
    (open_capacity k ∙ same)
    (flush-records d _ (flush_plan d)
    (onward-after d e _ _ (flush-onward d r) (onward-before e k _ NoBlock (close_tail-onward e s p) (open-session-onward k t few start))))
    (placed_flush d c r) (pending_none d _ (open_pending k ∙ (kept_pending_lem e ∙ p))) (no_room c)))))

pub finalize-outcome : (d : Disc) (c : Command) → Ready d → Outcome d c (finalize d)
unfolding finalize
finalize-outcome d c r =
    let e = flush d in
    let s = flush-sound d r in
    let p = flush_pending d in
    let k = close_tail e in
    cond_cases (Outcome d c) d.finalized _ _ (λ h. unchanged-outcome d c r)
    (λ h.
    cond_cases (Outcome d c) (has_incomplete_reserved e) _ _ (λ i. refused IncompleteTrackInSession)
    (λ i.
    cond_cases (Outcome d c) (blank_tail_only d && eqb (last_record d).session 1) _ _ (λ b. refused EmptyTrack)
    (λ b.
    let t = close-tail-closed e s p i (two_kept d r (λ t q. contradiction (and_both t (eq-eqb _ _ q)) b)) in
    done (finalized k) _ _ (finalize-sound k t (kept_pending_lem e ∙ p)) (kept_capacity e ∙ flush_capacity d)
    (flush-records d _ (flush_plan d) (list-onward d k (finalized k) _ refl (onward-after d e k _ (flush-onward d r) (close_tail-onward e s p))))
    (placed_flush d c r) (pending_none d _ (kept_pending_lem e ∙ p)) (no_room c))))

pub close-outcome : (d : Disc) (c : Command) (function n : ℕ) → Ready d → Outcome d c (close d function n)
unfolding close
close-outcome d c function n r = grind (arith, close_fragment-outcome, close_session-outcome, finalize-outcome, refused)

-- a sound list stays sound with another sense
pub sense-sound : (d : Disc) (q : Sense) → Sound d → Sound (with_sense d q)
sense-sound d q s = grind arith

-- so every command keeps the list sound and the capacity
pub outcome_ready : (d : Disc) (c : Command) (v : Verdict) → Ready d → Outcome d c v → Ready v.disc
unfolding accept accepted refuse
outcome_ready d c v r (done after q p s k o l g m) =
    record { sound = rules-sound (with_sense after no_sense) (sense-sound after no_sense s); range = rw k r.range }
outcome_ready d c v r (refused q) =
    record { sound = rules-sound (with_sense d (refusal_sense q)) (sense-sound d (refusal_sense q) (sound-rules d r.sound)); range = r.range }

pub outcome_capacity : (d : Disc) (c : Command) (v : Verdict) → Outcome d c v → v.disc.capacity ≡ d.capacity
unfolding accept accepted refuse
outcome_capacity d c v (done after q p s k o l g m) = k
outcome_capacity d c v (refused q) = refl

-- an accepted command clears the sense, a refused one changes the sense alone
pub outcome-accepted : (d : Disc) (c : Command) (v : Verdict) → Outcome d c v → v.answer ≡ Accepted → v.disc.sense ≡ no_sense
unfolding accept accepted refuse
outcome-accepted d c v (done after q p s k o l g m) e = refl
outcome-accepted d c v (refused q) e = absurd (let z : ◌≡◌ {A = ℕ} 0 1 = cc in omega arith)

pub outcome-refused : (d : Disc) (c : Command) (v : Verdict) (q : DriveRefusal) → Outcome d c v → v.answer ≡ Drive q → v ≡ refuse d q
unfolding accept accepted refuse
outcome-refused d c v q (done after x p s k o l g m) e = absurd (let z : ◌≡◌ {A = ℕ} 0 1 = cc in omega arith)
outcome-refused d c v q (refused x) e = let same : x ≡ q = cc in rw same

-- the drive gives no link refusal
pub outcome_answer : (d : Disc) (c : Command) (v : Verdict) (q : LinkRefusal) → Outcome d c v → v.answer ≡ Link q → ⊥
unfolding accept accepted refuse
outcome_answer d c v q (done after x p s k o l g m) e = let z : ◌≡◌ {A = ℕ} 0 1 = cc in omega arith
outcome_answer d c v q (refused x) e = let z : ◌≡◌ {A = ℕ} 0 1 = cc in omega arith

-- and recorded are the blocks that were recorded before it, and those of its plan
pub outcome-onward : (d : Disc) (c : Command) (v : Verdict) → Outcome d c v → Onward d v.disc (Records v.plan)
unfolding accept accepted refuse
outcome-onward d c v (done after q p s k o l g m) = list-onward d after (with_sense after no_sense) (Records p) refl o
outcome-onward d c v (refused q) = list-onward d d (with_sense d (refusal_sense q)) (Records no_plan) refl (nothing_records d d (same_onward d))

-- and its plan records blocks that were unrecorded before
pub outcome_placed : (d : Disc) (c : Command) (v : Verdict) → Outcome d c v → Placed d c v.plan
unfolding accept accepted refuse
outcome_placed d c v (done after q p s k o l g m) = l
outcome_placed d c v (refused q) = placed_none d c

-- the number of blocks recorded is the rise of the sum of W
pub outcome-rise : (d : Disc) (c : Command) (v : Verdict) → Outcome d c v → v.recorded ≡ rise d v.disc
unfolding accept accepted refuse
outcome-rise d c v (done after q p s k o l g m) = refl
outcome-rise d c v (refused q) = omega arith

pub outcome_room : (d : Disc) (c : Command) (v : Verdict) → Outcome d c v → Room c v.reply
unfolding accept accepted refuse
outcome_room d c v (done after q p s k o l g m) = m
outcome_room d c v (refused q) = no_room c

-- what is pending afterwards
pub outcome_pending : (d : Disc) (c : Command) (v : Verdict) → Outcome d c v → Pending d v.plan v.disc
unfolding accept accepted refuse
outcome_pending d c v (done after q p s k o l g m) =
    record { flushed = g.flushed; gathered = g.gathered; count = g.count; place = g.place }
outcome_pending d c v (refused q) = pending_same d _ refl (λ z. refl)
