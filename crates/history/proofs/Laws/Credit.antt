-- Every accepted command: the accounts of all fragments after it agree with the drive after it.
use Prim.Native.Nat.{ℕ, ◌+◌, ◌-◌, ◌*◌, ◌/◌, ◌≤◌, ◌<◌}
use mathlib.Core.Path.{◌≡◌, refl, sym, ap, ◌∙◌, subst}
use mathlib.Core.Bool.{Bool, true, false, cond, not, ◌&&◌, ◌||◌}
use mathlib.Core.List.{List}
use native.Mathlib.Omega.{arith}
use borrow.Author.Tests.{eq-eqb, ne_eqb, eqb-true, eqb-false, leb-true, leb-false, ltb-false, not-false}
use lib.Dec.{eqb, leb, ltb}
use lib.ListN.{length}
use Rattle.fragments.specs.Address.{lba, first_sector, sectors_in}
use Rattle.fragments.specs.Fragment.{end, first_unrecorded, complete, is_reserved, next_session_start, shortened_record}
use Rattle.disc.specs.Records.{is_blank, pending_in, used, is_listed, numbered, last_record, with_record, has_tail, has_blank_tail, writable_at, blank_tail_only, at_address}
use Rattle.fragments.specs.List.{limit}
use Rattle.outcomes.specs.Recorded.{among}
use Rattle.disc.specs.Ready.{Ready}
use Rattle.outcomes.specs.Lent.{FlushFits, TransferFits}
use Rattle.decisions.specs.Plan.{no_plan, plan}
use Rattle.disc.specs.Verdict.{accepted, accept, refuse}
use Rattle.protocol.specs.Reply.{no_reply}
use Rattle.commands.specs.Flush.{flush, flush_plan, synchronize_cache}
use Rattle.commands.specs.Read.{sending, read}
use Rattle.commands.specs.Write.{flush_others, flush_others_plan, gather, Writable, write_to, write_found, write}
use Rattle.commands.specs.Reserve.{split_tail, reserve}
use Rattle.commands.specs.Close.{append_tail, close_incomplete, close_fragment, has_incomplete_reserved, close_tail, open_session, close_session, finalized, finalize, close}
use Rattle.reporting.specs.Identity.{inquiry, get_configuration}
use Rattle.reporting.specs.Reports.{request_sense, read_capacity, read_disc_information, read_track_information, track_verdict, track_found, track_numbered}
use Rattle.commands.specs.Judge.{test_unit_ready, perform}
use Rattle.fragments.proofs.Laws.Bool.{and_both, and_left, and_right, or_cases, contradiction, by_cases, cond_yes, cond_no, cond_cases}
use Rattle.fragments.proofs.Laws.Numbers.{equal_cases}
use Rattle.disc.proofs.Laws.Records.{listed-number}
use Rattle.outcomes.proofs.Laws.Recorded.{among-from, among_below, among_between}
use Rattle.disc.proofs.Laws.Rules.{sound-rules}
use Rattle.disc.proofs.Laws.Sound.{none_pending, disjoint, incomplete-room, pending-in-few}
use Rattle.commands.proofs.Laws.Flush.{flush_grows, flush_pending, flush-sound, flush-used, flush_capacity}
use Rattle.commands.proofs.Laws.Write.{writable_found, others-numbered, others-pending, others_sound}
use Rattle.commands.proofs.Laws.Read.{read_cases}
use Rattle.commands.proofs.Laws.Reserve.{reserve_cases}
use Rattle.commands.proofs.Laws.Close.{appended_last}
use Rattle.commands.proofs.Laws.Session.{kept, kept_few, kept_pending_lem}
use Rattle.outcomes.proofs.Laws.Keep.{write_room}
use Rattle.outcomes.proofs.Laws.Outcome.{append_pending}
use Rattle.drive.specs.Moves.{gathered_medium, gathered_pending, flushed_medium, flushed_pending, transferred_medium, transferred_pending, moved_medium, moved_pending}
use Rattle.drive.proofs.Laws.Kept.{length-flushed_medium, length-flushed_pending}
use Rattle.history.specs.Types.{Lba, Fragment, Kind, Reserved, Appended, Disc, Option, Some, None, Accepted, DriveRefusal, WriteProtected, InvalidFieldInCommand, AddressOutOfRange, InvalidOperationCode, InvalidAddressForWrite, IncompleteTrackInSession, EmptyTrack, NoMoreReservations, EndOfUserArea, Reply, Plan, Verdict, Nothing, Gather, Command, TestUnitReady, RequestSense, Inquiry, ReadCapacity, Read, Write, SynchronizeCache, ReserveTrack, CloseTrackSession, GetConfiguration, ReadDiscInformation, ReadTrackInformation, Unlisted}
use Rattle.history.specs.Account.{Account, extent_of, written, zeroed, flushed, filled, credited}
use Rattle.history.proofs.Laws.Account.{Holds, same_holds, zeroed_none, flushed_none}
use Rattle.history.proofs.Laws.Recording.{holds_as, holds_at, flush-holds, others-own, others-else, gather-holds-own, gather-holds-else, fill-holds-own, fill-holds-else}
use Rattle.outcomes.proofs.Laws.Counts.{SameCounts, same_counts, counts-on, split-counts, split-start, shorten-counts, close-tail-counts, open_counts, blank_only_none}

-- the fragment that a WRITE goes to is the one that its address lies in
module _ (d : Disc) (a : Lba) (j n : ℕ) (r : Ready d) (w : Writable d a j) where
  pub covers-own : n ≡ j → among (extent_of d n).first (extent_of d n).sectors a.0 ≡ true
  covers-own e =
      let s = sound-rules d r.sound in
      let room = incomplete-room d s (j - 1) (omega (arith, w.from, w.listed)) w.incomplete in
      let few = pending-in-few d s j in
      let x = extent_of d j in
      let from : x.first ≤ a.0 = omega (arith, w.here) in
      let below : a.0 < x.first + x.sectors = omega (arith, w.here, room, few) in
      subst (λ (i : ℕ). among (extent_of d i).first (extent_of d i).sectors a.0 ≡ true) (sym e)
      (among_between x.first x.sectors a.0 from below)

  pub covers-else : 1 ≤ n → (n ≡ j → ⊥) → among (extent_of d n).first (extent_of d n).sectors a.0 ≡ false
  covers-else one other =
      let s = sound-rules d r.sound in
      let x = extent_of d n in
      let room = incomplete-room d s (j - 1) (omega (arith, w.from, w.listed)) w.incomplete in
      let few = pending-in-few d s j in
      by_cases (among x.first x.sectors a.0)
      (λ t.
      let from = among-from x.first x.sectors a.0 t in
      let below = among_below x.first x.sectors a.0 t in
      absurd
      (by_cases (leb n (used d))
      (λ l.
      let listed = leb-true n (used d) l in
      let same =
      disjoint d s (n - 1) (j - 1) (a.0 / 16) (omega arith) (omega (arith, w.from, w.listed)) (omega (arith, from)) (omega (arith, below))
      (omega (arith, w.here)) (omega (arith, w.here, room, few)) in
      other (omega (arith, one, w.from, same)))
      (λ l.
      let none = s.unused (n - 1) (let b = leb-false n (used d) l in omega arith) in
      omega (arith, from, below, ap (λ (f : Fragment). f.length) none, ap (λ (f : Fragment). f.start.0) none))))
      (λ t. t)

-- three tests joined
all_three : {a b c : Bool} → a ≡ true → b ≡ true → c ≡ true → (a && b && c) ≡ true
all_three x y z = and_both (and_both x y) z

not_first : (a b c : Bool) → a ≡ false → (a && b && c) ≡ false
not_first a b c e = rw e

not_second : (a b c : Bool) → b ≡ false → (a && b && c) ≡ false
not_second true true c e = absurd (contradiction refl e)
not_second true false c e = refl
not_second false b c e = refl

not_third : (a b c : Bool) → c ≡ false → (a && b && c) ≡ false
not_third true true c e = e
not_third true false c e = refl
not_third false b c e = refl

-- a command on a disc that is ready, over a medium, a pending buffer and data; the fragment with number n and its account
module _
    (d : Disc) (m p sectors : List ℕ) (n : ℕ) (k : Account) (r : Ready d) (one : 1 ≤ n) (block : length p ≡ 32768)
    (medium : length m ≡ 32768 * d.capacity) (h : Holds d m p n k)
  where
    -- what a verdict, if it accepts, must make of the account
    abbrev Noted : Account → Verdict → Type 0
    Noted l v =
        v.answer ≡ Accepted → FlushFits (length m) v.plan.flush → TransferFits (length m) (length sectors) v.plan.transfer
        → Holds v.disc (moved_medium v.plan m p sectors) (moved_pending v.plan p sectors) n l

    noted-as : {x y : Account} (v : Verdict) → x ≡ y → Noted x v → Noted y v
    noted-as v e q = subst (λ (l : Account). Noted l v) e q

    noted-refused : (l : Account) (x : DriveRefusal) → Noted l (refuse d x)
    unfolding refuse
    noted-refused l x e f g = absurd (let z : ◌≡◌ {A = ℕ} 0 1 = cc in omega arith)

    noted-accepted :
        (l : Account) (after : Disc) (reply : Reply) (w : Plan)
        → (FlushFits (length m) w.flush → TransferFits (length m) (length sectors) w.transfer
        → Holds after (moved_medium w m p sectors) (moved_pending w p sectors) n l)
        → Noted l (accept d after reply w)
    unfolding accept accepted
    noted-accepted l after reply w q e f g = grind arith

    -- no change
    noted-same : (l : Account) (reply : Reply) → k ≡ l → Noted l (accept d d reply no_plan)
    unfolding moved_medium moved_pending flushed_medium flushed_pending transferred_medium transferred_pending
    noted-same l reply e = noted-accepted l d reply no_plan (λ f g. holds_as n refl refl refl e h)

    noted-sent : (a : Lba) (count : ℕ) → Noted k (accept d d no_reply (plan None (sending d a count)))
    unfolding moved_medium moved_pending flushed_medium flushed_pending transferred_medium transferred_pending sending
    noted-sent a count = noted-accepted k d no_reply (plan None (sending d a count)) (λ f g. h)

    -- a flush and nothing else to the bytes; then perhaps a change of the list that records nothing
    noted-flush : (after : Disc) (reply : Reply) → SameCounts (flush d) after → after.pending ≡ 0
        → Noted (flushed (extent_of d n) k) (accept d after reply (plan (flush_plan d) Nothing))
    unfolding moved_medium moved_pending transferred_medium transferred_pending
    noted-flush after reply same none =
        noted-accepted (flushed (extent_of d n) k) after reply (plan (flush_plan d) Nothing)
        (λ f g.
        same_holds (flush d) after _ _ n (flushed (extent_of d n) k) (same.recorded (n - 1)) (same.zeroed (n - 1))
        (λ z. same.start (n - 1) (λ q. z (omega (arith, q, none_pending (flush d) n (flush_pending d)))))
        (none_pending after n none ∙ sym (none_pending (flush d) n (flush_pending d)))
        (flush-holds d m p r block medium n k one h))

    -- WRITE
    others-capacity : (j : ℕ) → (flush_others d j).capacity ≡ d.capacity
    unfolding flush_others
    others-capacity j = cond_cases (λ (e : Disc). e.capacity ≡ d.capacity) (eqb d.owner j) d (flush d) (λ e. refl) (λ e. flush_capacity d)

    noted-gather :
        (a : Lba) (count j : ℕ) → (count ≡ 0 → ⊥) → Writable d a j → a.0 + count ≤ (first_sector (end (numbered d j))).0
        → Noted (credited n (extent_of d n) (Write a count) sectors k)
        (accept d (gather (flush_others d j) j count) no_reply
        (plan (flush_others_plan d j) (Gather (first_unrecorded (numbered d j)) (pending_in d j) count)))
    unfolding credited moved_medium moved_pending transferred_medium transferred_pending
    noted-gather a count j some w fits =
        noted-accepted _ _ no_reply _
        (λ f g.
        let e = flush_others d j in
        let m₁ = flushed_medium (flush_others_plan d j) m p in
        let p₁ = flushed_pending (flush_others_plan d j) p in
        let s = others_sound d j r in
        let room = write_room d a j count r w fits in
        let l : length m₁ ≡ 32768 * e.capacity = length-flushed_medium (flush_others_plan d j) m p block f ∙ (medium ∙ ap (λ (c : ℕ). 32768 * c) (sym (others-capacity j))) in
        let b : length p₁ ≡ 32768 = length-flushed_pending (flush_others_plan d j) p block in
        let x : length sectors ≡ 2048 * count = g.1 in
        let held = others-pending d j r w.from in
        let record_same = others-numbered d j r w.from in
        let here : a.0 ≡ 16 * ((numbered e j).start.0 + (numbered e j).recorded) + pending_in e j =
        omega (arith, w.here, held, ap (λ (v : Fragment). v.start.0) record_same, ap (λ (v : Fragment). v.recorded) record_same) in
        let first = cond_no (eqb count 0) k (cond (among (extent_of d n).first (extent_of d n).sectors a.0) (written a.0 count sectors k) (flushed (extent_of d n) k)) (ne_eqb count 0 some) in
        equal_cases n j
        (λ q.
        let done = gather-holds-own e m₁ p₁ sectors j count s room b l x a.0 here k (holds_at q (others-own d m p r block medium j n k one h q)) in
        holds_as n refl
        (ap (λ (i : ℕ). gathered_medium (first_unrecorded (numbered e j)).0 i count m₁ p₁ sectors) held
        ∙ ap (λ (v : Fragment). gathered_medium (first_unrecorded v).0 (pending_in d j) count m₁ p₁ sectors) record_same)
        (ap (λ (i : ℕ). gathered_pending i count p₁ sectors) held)
        (sym (first ∙ cond_yes (among (extent_of d n).first (extent_of d n).sectors a.0) (written a.0 count sectors k) (flushed (extent_of d n) k) (covers-own d a j n r w q)))
        (holds_at (sym q) done))
        (λ q.
        let done = gather-holds-else e m₁ p₁ sectors j count s room b l x n (flushed (extent_of d n) k) one q (others-else d m p r block medium j n k one h q) in
        holds_as n refl
        (ap (λ (i : ℕ). gathered_medium (first_unrecorded (numbered e j)).0 i count m₁ p₁ sectors) held
        ∙ ap (λ (v : Fragment). gathered_medium (first_unrecorded v).0 (pending_in d j) count m₁ p₁ sectors) record_same)
        (ap (λ (i : ℕ). gathered_pending i count p₁ sectors) held)
        (sym (first ∙ cond_no (among (extent_of d n).first (extent_of d n).sectors a.0) (written a.0 count sectors k) (flushed (extent_of d n) k) (covers-else d a j n r w one q)))
        done))

    noted-write-found :
        (a : Lba) (count : ℕ) → (count ≡ 0 → ⊥) → (x : Option ℕ) → writable_at d a ≡ x
        → Noted (credited n (extent_of d n) (Write a count) sectors k) (write_found d a count x)
    unfolding write_found write_to
    noted-write-found a count some (Some j) e =
        cond_cases (Noted (credited n (extent_of d n) (Write a count) sectors k)) (ltb (first_sector (end (numbered d j))).0 (a.0 + count)) _ _
        (λ t. noted-refused _ EndOfUserArea)
        (λ t. noted-gather a count j some (writable_found d a j e) (ltb-false _ _ t))
    noted-write-found a count some None e = noted-refused _ InvalidAddressForWrite

    noted-write : (a : Lba) (count : ℕ) → Noted (credited n (extent_of d n) (Write a count) sectors k) (write d a count)
    unfolding write credited
    noted-write a count =
        let l = credited n (extent_of d n) (Write a count) sectors k in
        cond_cases (Noted l) (eqb count 0) _ _ (λ z. noted-same l no_reply (sym (cond_yes (eqb count 0) k _ z)))
        (λ z.
        cond_cases (Noted l) d.finalized _ _ (λ f. noted-refused l WriteProtected)
        (λ f. noted-write-found a count (eqb-false count 0 z) (writable_at d a) refl))

    -- RESERVE
    noted-split : (b : ℕ) → has_blank_tail d ≡ true → used d < limit → Noted k (accept d (split_tail d b) no_reply no_plan)
    unfolding moved_medium moved_pending flushed_medium flushed_pending transferred_medium transferred_pending split_tail
    noted-split b t few =
        let s = sound-rules d r.sound in
        let same = split-counts d s b t few in
        noted-accepted k (split_tail d b) no_reply no_plan
        (λ f g.
        same_holds d (split_tail d b) m p n k (same.recorded (n - 1)) (same.zeroed (n - 1)) (split-start d s b n few) refl h)

    noted-reserve : (size : ℕ) → Noted k (reserve d size)
    noted-reserve size = reserve_cases (Noted k) d size r (noted-refused k) (λ b some f t w. noted-split b t w.free)

    -- CLOSE 001: with the function 001 the account is filled where the number is the fragment's and it is reserved
    abbrev closed : ℕ → ℕ → Account
    closed function j = credited n (extent_of d n) (CloseTrackSession function j) sectors k

    abbrev fills : ℕ → ℕ → Bool
    fills function j = eqb function 0b001 && eqb j n && (extent_of d n).reserved

    closed-filled : (function j : ℕ) → fills function j ≡ true → filled (extent_of d n) (flushed (extent_of d n) k) ≡ closed function j
    unfolding credited
    closed-filled function j t = grind arith

    closed-flushed : (function j : ℕ) → fills function j ≡ false → flushed (extent_of d n) k ≡ closed function j
    unfolding credited
    closed-flushed function j t = grind arith

    -- the drive after the flush
    abbrev flushed-medium : List ℕ
    flushed-medium = flushed_medium (flush_plan d) m p

    abbrev flushed-pending : List ℕ
    flushed-pending = flushed_pending (flush_plan d) p

    after-flush : Holds (flush d) flushed-medium flushed-pending n (flushed (extent_of d n) k)
    after-flush = flush-holds d m p r block medium n k one h

    same_size : (extent_of d n).sectors ≡ sectors_in (numbered (flush d) n).length
    same_size = ap (λ (c : ℕ). sectors_in c) (sym ((flush_grows d r).size (n - 1)))

    same_first : (extent_of d n).first ≡ 16 * (numbered (flush d) n).start.0
    same_first = ap (λ (c : ℕ). 16 * c) (sym ((flush_grows d r).start (n - 1)))

    same_kind : (j : ℕ) (q : Kind) → n ≡ j → (numbered (flush d) j).kind ≡ q → (extent_of d n).reserved ≡ is_reserved q
    same_kind j q e c =
        ap is_reserved (sym ((flush_grows d r).kind (n - 1)) ∙ (ap (λ (i : ℕ). (numbered (flush d) i).kind) e ∙ c))

    -- a complete fragment has nothing left to fill
    noted-complete :
        (j : ℕ) → complete (numbered (flush d) j) ≡ true → Noted (closed 0b001 j) (accept d (flush d) no_reply (plan (flush_plan d) Nothing))
    unfolding moved_medium moved_pending transferred_medium transferred_pending filled
    noted-complete j c =
        noted-accepted (closed 0b001 j) (flush d) no_reply (plan (flush_plan d) Nothing)
        (λ f g.
        by_cases (fills 0b001 j)
        (λ t.
        let same : j ≡ n = eqb-true j n (and_right (eqb 0b001 0b001) (eqb j n) (and_left (eqb 0b001 0b001 && eqb j n) (extent_of d n).reserved t)) in
        let whole : (numbered (flush d) n).recorded ≡ (numbered (flush d) n).length =
        eqb-true _ _ (subst (λ (i : ℕ). complete (numbered (flush d) i) ≡ true) same c) in
        let none : (extent_of d n).sectors - (flushed (extent_of d n) k).recorded ≡ 0 = omega (arith, same_size, after-flush.recorded, whole) in
        let settled : (flushed (extent_of d n) k).pending ≡ 0 = after-flush.pending ∙ none_pending (flush d) n (flush_pending d) in
        holds_as n refl refl refl (ap (λ (i : ℕ). zeroed (extent_of d n) i (flushed (extent_of d n) k)) (sym none) ∙ closed-filled 0b001 j t)
        (zeroed_none (flush d) flushed-medium flushed-pending n (extent_of d n) (flushed (extent_of d n) k) settled after-flush))
        (λ t. holds_as n refl refl refl (closed-flushed 0b001 j t) after-flush))

    noted-incomplete :
        (j : ℕ) → 1 ≤ j → j ≤ used (flush d) → complete (numbered (flush d) j) ≡ false → (q : Kind) → (numbered (flush d) j).kind ≡ q
        → Noted (closed 0b001 j) (close_incomplete d (flush d) j q)
    unfolding close_incomplete moved_medium moved_pending transferred_medium transferred_pending
    noted-incomplete j from to i Reserved c =
        let s = flush-sound d r in
        let none = flush_pending d in
        noted-accepted (closed 0b001 j) _ no_reply _
        (λ f g.
        let l : length flushed-medium ≡ 32768 * (flush d).capacity =
        length-flushed_medium (flush_plan d) m p block f ∙ (medium ∙ ap (λ (c : ℕ). 32768 * c) (sym (flush_capacity d))) in
        equal_cases n j
        (λ e.
        holds_as n refl refl refl (closed-filled 0b001 j (all_three refl (eq-eqb j n (sym e)) (same_kind j Reserved e c)))
        (holds_at (sym e)
        (fill-holds-own (flush d) flushed-medium flushed-pending j s from to none l (extent_of d n) (flushed (extent_of d n) k)
        (same_first ∙ ap (λ (i : ℕ). 16 * (numbered (flush d) i).start.0) e) (same_size ∙ ap (λ (i : ℕ). sectors_in (numbered (flush d) i).length) e)
        (holds_at e after-flush))))
        (λ e.
        holds_as n refl refl refl (closed-flushed 0b001 j (not_second (eqb 0b001 0b001) (eqb j n) (extent_of d n).reserved (ne_eqb j n (λ q. e (sym q)))))
        (fill-holds-else (flush d) flushed-medium flushed-pending j s from to none l n (flushed (extent_of d n) k) one e after-flush)))
    noted-incomplete j from to i Appended c =
        let s = flush-sound d r in
        let last = appended_last (flush d) j s from to i c in
        let keeps : flushed (extent_of d n) k ≡ closed 0b001 j =
        closed-flushed 0b001 j
        (equal_cases n j
        (λ e. not_third (eqb 0b001 0b001) (eqb j n) (extent_of d n).reserved (same_kind j Appended e c))
        (λ e. not_second (eqb 0b001 0b001) (eqb j n) (extent_of d n).reserved (ne_eqb j n (λ q. e (sym q))))) in
        noted-as (close_incomplete d (flush d) j Appended) keeps
        (noted-flush (append_tail (with_record (flush d) j (shortened_record (numbered (flush d) j))) j) no_reply
        (subst (λ (i : ℕ). SameCounts (flush d) (append_tail (with_record (flush d) i (shortened_record (numbered (flush d) i))) i)) (sym last)
        (shorten-counts (flush d) s))
        (append_pending (with_record (flush d) j (shortened_record (numbered (flush d) j))) j ∙ flush_pending d))

    noted-close-fragment : (j : ℕ) → Noted (closed 0b001 j) (close_fragment d j)
    unfolding close_fragment
    noted-close-fragment j =
        let l = closed 0b001 j in
        cond_cases (Noted l) (not (is_listed d j)) _ _ (λ t. noted-refused l InvalidFieldInCommand)
        (λ t.
        let w = listed-number d j (not-false _ t) in
        cond_cases (Noted l) (is_blank d j (numbered d j)) _ _ (λ b. noted-refused l EmptyTrack)
        (λ b.
        cond_cases (Noted l) (complete (numbered (flush d) j)) _ _ (λ i. noted-complete j i)
        (λ i. noted-incomplete j w.0 (omega (arith, w.1, flush-used d r)) i (numbered (flush d) j).kind refl)))

    -- CLOSE 010 and 110
    noted-idle : (reply : Reply) → d.pending ≡ 0 → Noted (flushed (extent_of d n) k) (accept d d reply no_plan)
    noted-idle reply z = noted-same (flushed (extent_of d n) k) reply (sym (flushed_none (extent_of d n) k (h.pending ∙ none_pending d n z)))

    noted-close-session : Noted (flushed (extent_of d n) k) (close_session d)
    unfolding close_session open_session
    noted-close-session =
        let e = flush d in
        let s = flush-sound d r in
        let z = flush_pending d in
        let t = close_tail e in
        let l = flushed (extent_of d n) k in
        cond_cases (Noted l) (d.finalized || blank_tail_only d) _ _
        (λ q.
        noted-idle no_reply
        (or_cases d.finalized (blank_tail_only d) (λ f. (sound-rules d r.sound).settled f) (λ b. blank_only_none d r b) q))
        (λ q.
        cond_cases (Noted l) (has_incomplete_reserved e) _ _ (λ i. noted-refused l IncompleteTrackInSession)
        (λ i.
        cond_cases (Noted l) (eqb (used t) limit) _ _ (λ u. noted-refused l NoMoreReservations)
        (λ u.
        cond_cases (Noted l) (ltb d.capacity ((next_session_start (end (last_record t))).0 + 1)) _ _ (λ g. noted-refused l EndOfUserArea)
        (λ g.
        noted-flush (open_session t) no_reply
        (counts-on e t (open_session t) (close-tail-counts e s) (open_counts t (kept e s z) (kept_few e s z (eqb-false _ _ u))))
        (kept_pending_lem e ∙ z)))))

    noted-finalize : Noted (flushed (extent_of d n) k) (finalize d)
    unfolding finalize
    noted-finalize =
        let e = flush d in
        let s = flush-sound d r in
        let z = flush_pending d in
        let t = close_tail e in
        let l = flushed (extent_of d n) k in
        let same = close-tail-counts e s in
        cond_cases (Noted l) d.finalized _ _ (λ f. noted-idle no_reply ((sound-rules d r.sound).settled f))
        (λ f.
        cond_cases (Noted l) (has_incomplete_reserved e) _ _ (λ i. noted-refused l IncompleteTrackInSession)
        (λ i.
        cond_cases (Noted l) (blank_tail_only d && eqb (last_record d).session 1) _ _ (λ b. noted-refused l EmptyTrack)
        (λ b.
        noted-flush (finalized t) no_reply (record { recorded = same.recorded; zeroed = same.zeroed; start = same.start })
        (kept_pending_lem e ∙ z))))

    noted-close : (function j : ℕ) → Noted (closed function j) (close d function j)
    unfolding close
    noted-close function j =
        let l = closed function j in
        cond_cases (Noted l) (eqb function 0b001) _ _
        (λ t. subst (λ (c : ℕ). Noted (closed c j) (close_fragment d j)) (sym (eqb-true function 0b001 t)) (noted-close-fragment j))
        (λ t.
        let keeps : flushed (extent_of d n) k ≡ l =
        closed-flushed function j (not_first (eqb function 0b001) (eqb j n) (extent_of d n).reserved t) in
        cond_cases (Noted l) (eqb function 0b010) _ _ (λ u. noted-as (close_session d) keeps noted-close-session)
        (λ u.
        cond_cases (Noted l) (eqb function 0b110) _ _ (λ v. noted-as (finalize d) keeps noted-finalize)
        (λ v. noted-refused l InvalidFieldInCommand)))

    -- 35h, and the commands that change nothing
    noted-synchronize : Noted (flushed (extent_of d n) k) (synchronize_cache d)
    unfolding synchronize_cache
    noted-synchronize = noted-flush (flush d) no_reply (same_counts (flush d)) (flush_pending d)

    noted_read : (a : Lba) (count : ℕ) → Noted k (read d a count)
    noted_read a count = read_cases (Noted k) d a count (noted-same k no_reply refl) (noted-refused k) (λ z l t. noted-sent a count)

    noted-track-found : (allocation : ℕ) (x : Option ℕ) → Noted k (track_found d allocation x)
    unfolding track_found track_verdict
    noted-track-found allocation (Some j) = noted-same k _ refl
    noted-track-found allocation None = noted-refused k AddressOutOfRange

    noted-track : (addressType number allocation : ℕ) → Noted k (read_track_information d addressType number allocation)
    unfolding read_track_information track_numbered track_verdict
    noted-track addressType number allocation =
        cond_cases (Noted k) (eqb addressType 0) _ _ (λ t. noted-track-found allocation (at_address d (lba number)))
        (λ t.
        cond_cases (Noted k) (eqb addressType 1) _ _
        (λ u.
        cond_cases (Noted k) (eqb number 0xFF) _ _
        (λ f. cond_cases (Noted k) (has_tail d) _ _ (λ a. noted-same k _ refl) (λ a. noted-refused k InvalidFieldInCommand))
        (λ f. cond_cases (Noted k) (is_listed d number) _ _ (λ a. noted-same k _ refl) (λ a. noted-refused k InvalidFieldInCommand)))
        (λ u. noted-refused k InvalidFieldInCommand))

    -- every command
    pub noted-performed : (c : Command) → Noted (credited n (extent_of d n) c sectors k) (perform d c)
    unfolding perform credited test_unit_ready request_sense inquiry get_configuration read_capacity read_disc_information
    noted-performed TestUnitReady = noted-same k no_reply refl
    noted-performed (RequestSense allocation) = noted-same k _ refl
    noted-performed (Inquiry pageBit allocation) =
        cond_cases (Noted k) (eqb pageBit 0) _ _ (λ t. noted-same k _ refl) (λ t. noted-refused k InvalidFieldInCommand)
    noted-performed ReadCapacity = noted-same k _ refl
    noted-performed (Read a count) = noted_read a count
    noted-performed (Write a count) = noted-write a count
    noted-performed SynchronizeCache = noted-synchronize
    noted-performed (ReserveTrack size) = noted-reserve size
    noted-performed (CloseTrackSession function j) = noted-close function j
    noted-performed (GetConfiguration request_type start allocation) =
        cond_cases (Noted k) (eqb request_type 3) _ _ (λ t. noted-refused k InvalidFieldInCommand) (λ t. noted-same k _ refl)
    noted-performed (ReadDiscInformation dataType allocation) =
        cond_cases (Noted k) (eqb dataType 0) _ _ (λ t. noted-same k _ refl) (λ t. noted-refused k InvalidFieldInCommand)
    noted-performed (ReadTrackInformation addressType number allocation) = noted-track addressType number allocation
    noted-performed Unlisted = noted-refused k InvalidOperationCode
