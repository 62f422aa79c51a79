-- A fragment with sectors stays where it is, and records within the blocks that it had: every accepted command.
use Prim.Native.Nat.{ℕ, suc, ◌+◌, ◌-◌, ◌*◌, ◌≤◌, ◌<◌}
use mathlib.Core.Path.{◌≡◌, refl, sym, ap, ◌∙◌, subst}
use mathlib.Core.Bool.{true, false, not, ◌&&◌, ◌||◌}
use native.Mathlib.Omega.{arith}
use borrow.Author.Tests.{eqb-false, leb-true, leb-false, ltb-false, not-false}
use lib.Dec.{eqb, leb, ltb}
use Rattle.fragments.specs.Address.{lba, first_sector}
use Rattle.fragments.specs.Fragment.{end, complete, next_session_start, shortened_record}
use Rattle.disc.specs.Records.{is_blank, pending_in, used, is_listed, numbered, last_record, with_record, has_tail, has_blank_tail, writable_at, blank_tail_only, at_address}
use Rattle.fragments.specs.List.{limit}
use Rattle.disc.specs.Rules.{at, Sound}
use Rattle.disc.specs.Ready.{Ready}
use Rattle.decisions.specs.Plan.{no_plan}
use Rattle.disc.specs.Verdict.{accepted, accept, refuse}
use Rattle.protocol.specs.Reply.{no_reply}
use Rattle.commands.specs.Flush.{flush, synchronize_cache}
use Rattle.commands.specs.Read.{read}
use Rattle.commands.specs.Write.{flush_others, gather, Writable, write_to, write_found, write}
use Rattle.commands.specs.Reserve.{split_tail, reserve}
use Rattle.commands.specs.Close.{filled_record, append_tail, close_incomplete, close_fragment, has_incomplete_reserved, close_tail, open_session, close_session, finalized, finalize, close}
use Rattle.reporting.specs.Identity.{inquiry, get_configuration}
use Rattle.reporting.specs.Reports.{request_sense, read_capacity, read_disc_information, read_track_information, track_verdict, track_found, track_numbered}
use Rattle.commands.specs.Judge.{test_unit_ready, perform}
use Rattle.fragments.proofs.Laws.Bool.{by_cases, cond_cases}
use Rattle.fragments.proofs.Laws.Numbers.{equal_cases}
use Rattle.disc.proofs.Laws.Records.{listed-number}
use Rattle.disc.proofs.Laws.Rules.{sound-rules}
use Rattle.disc.proofs.Laws.Sound.{none_pending, other_pending}
use Rattle.disc.proofs.Laws.Readable.{reach-within}
use Rattle.disc.proofs.Laws.Grow.{Grown}
use Rattle.commands.proofs.Laws.Flush.{flush_grows, flush_pending, flush-sound, flush-used}
use Rattle.commands.proofs.Laws.Write.{writable_found, others_sound}
use Rattle.commands.proofs.Laws.Read.{read_cases}
use Rattle.commands.proofs.Laws.Reserve.{reserve_cases}
use Rattle.commands.proofs.Laws.Close.{appended_last}
use Rattle.commands.proofs.Laws.Session.{kept, kept_few, kept_pending_lem}
use Rattle.outcomes.proofs.Laws.Keep.{write_room, gather_grows, gather-sound, fill_grows, fill_sound}
use Rattle.outcomes.proofs.Laws.Outcome.{append_pending}
use Rattle.outcomes.proofs.Laws.Counts.{SameCounts, same_counts, counts-on, split-counts, split-start, shorten-counts, close-tail-counts, open_counts}
use Rattle.history.specs.Types.{Lba, Fragment, Kind, Reserved, Appended, Disc, Option, Some, None, Accepted, DriveRefusal, WriteProtected, InvalidFieldInCommand, AddressOutOfRange, InvalidOperationCode, InvalidAddressForWrite, IncompleteTrackInSession, EmptyTrack, NoMoreReservations, EndOfUserArea, Reply, Plan, Verdict, Command, TestUnitReady, RequestSense, Inquiry, ReadCapacity, Read, Write, SynchronizeCache, ReserveTrack, CloseTrackSession, GetConfiguration, ReadDiscInformation, ReadTrackInformation, Unlisted}

-- the sectors of the fragment with a number: recorded and pending ones
abbrev pub taken : Disc → ℕ → ℕ
taken d n = 16 * (numbered d n).recorded + pending_in d n

-- where it has any afterwards it starts as before, and they lie in the blocks that it had
pub record InPlace (d e : Disc) (n : ℕ) : Type 0 where
  pub start : (taken e n ≡ 0 → ⊥) → (numbered e n).start.0 ≡ (numbered d n).start.0
  pub within : taken e n ≤ 16 * (numbered d n).length

-- the sectors of a fragment of a sound list lie in it
pub taken_within : (d : Disc) (n : ℕ) → Sound d → 1 ≤ n → taken d n ≤ 16 * (numbered d n).length
taken_within d n s one =
    let number : suc (n - 1) ≡ n = omega (arith, one) in
    by_cases (leb n (used d))
    (λ t.
    let listed = leb-true n (used d) t in
    omega (arith, reach-within d s (n - 1) (omega (arith, listed, one)), ap (pending_in d) number))
    (λ t.
    let past = leb-false n (used d) t in
    let none = ap (λ (f : Fragment). f.recorded) (s.unused (n - 1) (omega (arith, past))) in
    let idle : pending_in d n ≡ 0 =
    equal_cases d.pending 0 (λ z. none_pending d n z) (λ z. other_pending d n (λ e. omega (arith, e, past, (s.owned z).listed))) in
    omega (arith, none, idle))

-- records that stay where they are and as long as they are
record SamePlaces (d e : Disc) : Type 0 where
  start : (i : ℕ) → (at e i).start.0 ≡ (at d i).start.0
  size : (i : ℕ) → (at e i).length ≡ (at d i).length

same_places : (d : Disc) → SamePlaces d d
same_places d = record { start = λ i. refl; size = λ i. refl }

places-on : (d e f : Disc) → SamePlaces d e → SamePlaces e f → SamePlaces d f
places-on d e f a b = grind arith

grown_places : (d e : Disc) → Grown d e → SamePlaces d e
grown_places d e g = record { start = g.start; size = g.size }

module _ (d : Disc) (n : ℕ) (r : Ready d) (one : 1 ≤ n) where
  places-placed : (e : Disc) → Sound e → SamePlaces d e → InPlace d e n
  places-placed e s p =
      record { start = λ z. p.start (n - 1); within = omega (arith, taken_within e n s one, p.size (n - 1)) }

  -- a change that records nothing, after one that keeps the places and leaves nothing pending
  counts-placed :
      (e f : Disc) → Sound e → SamePlaces d e → e.pending ≡ 0 → SameCounts e f → f.pending ≡ 0 → InPlace d f n
  counts-placed e f s p none same after = grind arith

  -- an accepted verdict
  abbrev Moved : Verdict → Type 0
  Moved v = v.answer ≡ Accepted → InPlace d v.disc n

  moved-refused : (x : DriveRefusal) → Moved (refuse d x)
  unfolding refuse
  moved-refused x e = absurd (let z : ◌≡◌ {A = ℕ} 0 1 = cc in omega arith)

  moved-accepted : (after : Disc) (reply : Reply) (w : Plan) → InPlace d after n → Moved (accept d after reply w)
  unfolding accept accepted
  moved-accepted after reply w p e = record { start = p.start; within = p.within }

  moved_same : (reply : Reply) (w : Plan) → Moved (accept d d reply w)
  moved_same reply w = moved-accepted d reply w (places-placed d (sound-rules d r.sound) (same_places d))

  flush-places : SamePlaces d (flush d)
  flush-places = grown_places d (flush d) (flush_grows d r)

  moved-flush : (after : Disc) (reply : Reply) (w : Plan) → SameCounts (flush d) after → after.pending ≡ 0 → Moved (accept d after reply w)
  moved-flush after reply w same none =
      moved-accepted after reply w (counts-placed (flush d) after (flush-sound d r) flush-places (flush_pending d) same none)

  others-places : (j : ℕ) → SamePlaces d (flush_others d j)
  unfolding flush_others
  others-places j = cond_cases (λ (e : Disc). SamePlaces d e) (eqb d.owner j) d (flush d) (λ t. same_places d) (λ t. flush-places)

  moved-gather :
      (a : Lba) (count j : ℕ) → Writable d a j → a.0 + count ≤ (first_sector (end (numbered d j))).0 → (reply : Reply) (w : Plan)
      → Moved (accept d (gather (flush_others d j) j count) reply w)
  moved-gather a count j w fits reply p =
      let e = flush_others d j in
      let room = write_room d a j count r w fits in
      let s = others_sound d j r in
      moved-accepted (gather e j count) reply p
      (places-placed (gather e j count) (gather-sound e j count s room)
      (places-on d e (gather e j count) (others-places j) (grown_places e (gather e j count) (gather_grows e j count s room))))

  moved-write-found : (a : Lba) (count : ℕ) (x : Option ℕ) → writable_at d a ≡ x → Moved (write_found d a count x)
  unfolding write_found write_to
  moved-write-found a count (Some j) e =
      cond_cases Moved (ltb (first_sector (end (numbered d j))).0 (a.0 + count)) _ _ (λ t. moved-refused EndOfUserArea)
      (λ t. moved-gather a count j (writable_found d a j e) (ltb-false _ _ t) no_reply _)
  moved-write-found a count None e = moved-refused InvalidAddressForWrite

  moved-write : (a : Lba) (count : ℕ) → Moved (write d a count)
  unfolding write
  moved-write a count =
      cond_cases Moved (eqb count 0) _ _ (λ z. moved_same no_reply no_plan)
      (λ z.
      cond_cases Moved d.finalized _ _ (λ f. moved-refused WriteProtected)
      (λ f. moved-write-found a count (writable_at d a) refl))

  -- RESERVE
  moved-split : (b : ℕ) → has_blank_tail d ≡ true → used d < limit → Moved (accept d (split_tail d b) no_reply no_plan)
  unfolding split_tail
  moved-split b t few =
      let s = sound-rules d r.sound in
      let count = (split-counts d s b t few).recorded (n - 1) in
      moved-accepted (split_tail d b) no_reply no_plan
      (record {
        start = λ z. split-start d s b n few (λ q. z (omega (arith, count, q)));
        within = omega (arith, taken_within d n s one, count);
      })

  moved-reserve : (size : ℕ) → Moved (reserve d size)
  moved-reserve size = reserve_cases Moved d size r moved-refused (λ b some f t w. moved-split b t w.free)

  -- CLOSE
  moved-incomplete :
      (j : ℕ) → 1 ≤ j → j ≤ used (flush d) → complete (numbered (flush d) j) ≡ false → (q : Kind) → (numbered (flush d) j).kind ≡ q
      → Moved (close_incomplete d (flush d) j q)
  unfolding close_incomplete
  moved-incomplete j from to i Reserved c =
      let e = flush d in
      let s = flush-sound d r in
      let f = with_record e j (filled_record (numbered e j)) in
      moved-accepted f no_reply _
      (places-placed f (fill_sound e j s (flush_pending d) from to) (places-on d e f flush-places (grown_places e f (fill_grows e j s from to))))
  moved-incomplete j from to i Appended c =
      let s = flush-sound d r in
      let last = appended_last (flush d) j s from to i c in
      moved-flush (append_tail (with_record (flush d) j (shortened_record (numbered (flush d) j))) j) no_reply _
      (subst (λ (i : ℕ). SameCounts (flush d) (append_tail (with_record (flush d) i (shortened_record (numbered (flush d) i))) i)) (sym last)
      (shorten-counts (flush d) s))
      (append_pending (with_record (flush d) j (shortened_record (numbered (flush d) j))) j ∙ flush_pending d)

  moved-close-fragment : (j : ℕ) → Moved (close_fragment d j)
  unfolding close_fragment
  moved-close-fragment j =
      cond_cases Moved (not (is_listed d j)) _ _ (λ t. moved-refused InvalidFieldInCommand)
      (λ t.
      let w = listed-number d j (not-false _ t) in
      cond_cases Moved (is_blank d j (numbered d j)) _ _ (λ b. moved-refused EmptyTrack)
      (λ b.
      cond_cases Moved (complete (numbered (flush d) j)) _ _ (λ i. moved-flush (flush d) no_reply _ (same_counts (flush d)) (flush_pending d))
      (λ i. moved-incomplete j w.0 (omega (arith, w.1, flush-used d r)) i (numbered (flush d) j).kind refl)))

  moved-close-session : Moved (close_session d)
  unfolding close_session open_session
  moved-close-session =
      let e = flush d in
      let s = flush-sound d r in
      let z = flush_pending d in
      let t = close_tail e in
      cond_cases Moved (d.finalized || blank_tail_only d) _ _ (λ q. moved_same no_reply no_plan)
      (λ q.
      cond_cases Moved (has_incomplete_reserved e) _ _ (λ i. moved-refused IncompleteTrackInSession)
      (λ i.
      cond_cases Moved (eqb (used t) limit) _ _ (λ u. moved-refused NoMoreReservations)
      (λ u.
      cond_cases Moved (ltb d.capacity ((next_session_start (end (last_record t))).0 + 1)) _ _ (λ g. moved-refused EndOfUserArea)
      (λ g.
      moved-flush (open_session t) no_reply _
      (counts-on e t (open_session t) (close-tail-counts e s) (open_counts t (kept e s z) (kept_few e s z (eqb-false _ _ u))))
      (kept_pending_lem e ∙ z)))))

  moved-finalize : Moved (finalize d)
  unfolding finalize
  moved-finalize =
      let e = flush d in
      let t = close_tail e in
      let same = close-tail-counts e (flush-sound d r) in
      cond_cases Moved d.finalized _ _ (λ f. moved_same no_reply no_plan)
      (λ f.
      cond_cases Moved (has_incomplete_reserved e) _ _ (λ i. moved-refused IncompleteTrackInSession)
      (λ i.
      cond_cases Moved (blank_tail_only d && eqb (last_record d).session 1) _ _ (λ b. moved-refused EmptyTrack)
      (λ b.
      moved-flush (finalized t) no_reply _ (record { recorded = same.recorded; zeroed = same.zeroed; start = same.start })
      (kept_pending_lem e ∙ flush_pending d))))

  moved-close : (function j : ℕ) → Moved (close d function j)
  unfolding close
  moved-close function j =
      cond_cases Moved (eqb function 0b001) _ _ (λ t. moved-close-fragment j)
      (λ t.
      cond_cases Moved (eqb function 0b010) _ _ (λ u. moved-close-session)
      (λ u. cond_cases Moved (eqb function 0b110) _ _ (λ v. moved-finalize) (λ v. moved-refused InvalidFieldInCommand)))

  -- the commands that change nothing
  moved-read : (a : Lba) (count : ℕ) → Moved (read d a count)
  moved-read a count = read_cases Moved d a count (moved_same no_reply no_plan) moved-refused (λ z l t. moved_same no_reply _)

  moved-track-found : (allocation : ℕ) (x : Option ℕ) → Moved (track_found d allocation x)
  unfolding track_found track_verdict
  moved-track-found allocation (Some j) = moved_same _ no_plan
  moved-track-found allocation None = moved-refused AddressOutOfRange

  moved-track : (addressType number allocation : ℕ) → Moved (read_track_information d addressType number allocation)
  unfolding read_track_information track_numbered track_verdict
  moved-track addressType number allocation =
      cond_cases Moved (eqb addressType 0) _ _ (λ t. moved-track-found allocation (at_address d (lba number)))
      (λ t.
      cond_cases Moved (eqb addressType 1) _ _
      (λ u.
      cond_cases Moved (eqb number 0xFF) _ _
      (λ f. cond_cases Moved (has_tail d) _ _ (λ a. moved_same _ no_plan) (λ a. moved-refused InvalidFieldInCommand))
      (λ f. cond_cases Moved (is_listed d number) _ _ (λ a. moved_same _ no_plan) (λ a. moved-refused InvalidFieldInCommand)))
      (λ u. moved-refused InvalidFieldInCommand))

  -- every command
  pub moved-performed : (c : Command) → Moved (perform d c)
  unfolding perform test_unit_ready request_sense inquiry get_configuration read_capacity read_disc_information synchronize_cache
  moved-performed TestUnitReady = moved_same no_reply no_plan
  moved-performed (RequestSense allocation) = moved_same _ no_plan
  moved-performed (Inquiry pageBit allocation) =
      cond_cases Moved (eqb pageBit 0) _ _ (λ t. moved_same _ no_plan) (λ t. moved-refused InvalidFieldInCommand)
  moved-performed ReadCapacity = moved_same _ no_plan
  moved-performed (Read a count) = moved-read a count
  moved-performed (Write a count) = moved-write a count
  moved-performed SynchronizeCache = moved-flush (flush d) no_reply _ (same_counts (flush d)) (flush_pending d)
  moved-performed (ReserveTrack size) = moved-reserve size
  moved-performed (CloseTrackSession function j) = moved-close function j
  moved-performed (GetConfiguration request_type start allocation) =
      cond_cases Moved (eqb request_type 3) _ _ (λ t. moved-refused InvalidFieldInCommand) (λ t. moved_same _ no_plan)
  moved-performed (ReadDiscInformation dataType allocation) =
      cond_cases Moved (eqb dataType 0) _ _ (λ t. moved_same _ no_plan) (λ t. moved-refused InvalidFieldInCommand)
  moved-performed (ReadTrackInformation addressType number allocation) = moved-track addressType number allocation
  moved-performed Unlisted = moved-refused InvalidOperationCode
