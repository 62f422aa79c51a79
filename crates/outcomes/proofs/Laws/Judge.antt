-- What the decision about a command does to the disc.
use Rattle.std.proofs.lemmas.Bool.Decides.{nat_tests}
use Prim.Native.Nat.{ℕ, ◌+◌, ◌/◌, ◌≤◌, min, ◌*◌}
use mathlib.Core.Path.{◌≡◌, refl, sym}
use mathlib.Core.Bool.{true, ◌||◌}
use mathlib.Core.List.{List}
use native.Mathlib.Omega.{arith}
use borrow.Author.Tests.{eq-eqb, ne_eqb}
use native.Mathlib.Nat.{le_refl}
use lib.ListN.{length, length-append}
use lib.Dec.{eqb}
use Rattle.outcomes.specs.Types.{Lba, Disc, Verdict, Option, Some, None, Command, TestUnitReady, RequestSense, Inquiry, ReadCapacity, Read, Write, SynchronizeCache, ReserveTrack, CloseTrackSession, GetConfiguration, ReadDiscInformation, ReadTrackInformation, Unlisted, InvalidOperationCode, InvalidFieldInCommand, AddressOutOfRange, BlankCheck, DriveRefusal, LinkRefusal, Accepted, Link, Drive, CommandBlockLength, TransferLength, WriteProtected, InvalidAddressForWrite, IncompleteTrackInSession, EmptyTrack, NoMoreReservations, EndOfUserArea, Send}
use Rattle.protocol.specs.Answer.{allowed_sense, no_sense, refusal_sense, is_refusal_sense}
use Rattle.protocol.specs.Command.{decode}
use Rattle.fragments.specs.List.{sum_recorded}
use Rattle.disc.specs.Records.{is_recorded, last_readable}
use Rattle.disc.specs.Sound.{allowed_state}
use Rattle.disc.specs.Blank.{in_range}
use Rattle.disc.specs.Ready.{Ready}
use Rattle.protocol.specs.Lengths.{lengths_fit, reply_room, inquiry_room, configuration_room, capacity_length, data_length}
use Rattle.decisions.specs.Plan.{no_plan}
use Rattle.disc.specs.Verdict.{refuse_link, refuse, accepted, accept, rise}
use Rattle.protocol.specs.Inquiry.{inquiry_bytes}
use Rattle.protocol.specs.Reply.{report, said}
use Rattle.commands.specs.Read.{read}
use Rattle.reporting.specs.Identity.{inquiry, get_configuration}
use Rattle.reporting.specs.Reports.{request_sense, read_capacity, disc_report, read_disc_information, track_report, track_verdict, track_found, track_numbered, read_track_information}
use Rattle.protocol.specs.Reports.{sense_bytes, capacity_bytes, disc_bytes, track_bytes}
use Rattle.commands.specs.Judge.{judge_as_asked, test_unit_ready, perform, judge_command, judge}
use mathlib.Core.Logic.{◌⊎◌, inl, inr}
use Rattle.outcomes.specs.Recorded.{records_block, flushes, transfers}
use Rattle.commands.specs.Write.{write}
use Rattle.commands.proofs.Laws.Judge.{allowed_ready}
use Rattle.outcomes.proofs.Laws.Pending.{Pending, pending_same}
use Rattle.fragments.proofs.Laws.Bool.{cond_cases, and_both, contradiction, by_cases}
use Rattle.disc.proofs.Laws.Rules.{sound-rules}
use Rattle.disc.proofs.Laws.Onward.{Onward, same_onward, onward-sum}
use Rattle.outcomes.proofs.Laws.Recorded.{Records, nothing_records}
use Rattle.outcomes.proofs.Laws.Plan.{Placed, placed_none, placed_fresh, moved_sends}
use Rattle.disc.proofs.Laws.Readable.{recorded_onward, recorded_held, held_recorded}
use Rattle.commands.proofs.Laws.Read.{Shared, read_cases}
use Rattle.outcomes.proofs.Laws.Accepts.{write_most}
use Rattle.outcomes.proofs.Laws.Outcome.{Outcome, refused, same_outcome, sent-outcome, unchanged-outcome, outcome-rise, synchronize_outcome, write-outcome, reserve-outcome, close-outcome, outcome_ready, outcome_answer, outcome-refused, outcome-accepted, outcome_capacity, outcome-onward, outcome_placed, done, outcome_pending}

-- READ and the reports leave the list alone
read-outcome : (d : Disc) (a : Lba) (n : ℕ) → Ready d → Outcome d (Read a n) (read d a n)
read-outcome d a n r =
    read_cases (Outcome d (Read a n)) d a n (unchanged-outcome d (Read a n) r) refused (λ z h t. sent-outcome d a n z h t r)

report-outcome :
    (d : Disc) (c : Command) (bytes : List ℕ) (n : ℕ) → min (length bytes) n ≤ reply_room c → Ready d
    → Outcome d c (accept d d (report bytes n) no_plan)
unfolding said
report-outcome d c bytes n m r = grind (arith, same_outcome, length-append)

sense-outcome : (d : Disc) (n : ℕ) → Ready d → Outcome d (RequestSense n) (request_sense d n)
unfolding request_sense sense_bytes reply_room
sense-outcome d n r = report-outcome d (RequestSense n) (sense_bytes d.sense) n (le_refl _) r

capacity_outcome : (d : Disc) → Ready d → Outcome d ReadCapacity (read_capacity d)
unfolding read_capacity reply_room
capacity_outcome d r = report-outcome d ReadCapacity (capacity_bytes (last_readable d)) capacity_length (le_refl _) r

inquiry-outcome : (d : Disc) (p n : ℕ) → Ready d → Outcome d (Inquiry p n) (inquiry d p n)
unfolding inquiry inquiry_bytes reply_room inquiry_room
inquiry-outcome d p n r =
    let c = Inquiry p n in
    cond_cases (Outcome d c) (eqb p 0) _ _ (λ e. report-outcome d c inquiry_bytes n (rw e (le_refl _)) r) (λ e. refused InvalidFieldInCommand)

configuration_outcome : (d : Disc) (t s n : ℕ) → Ready d → Outcome d (GetConfiguration t s n) (get_configuration d t s n)
unfolding get_configuration reply_room configuration_room said
configuration_outcome d t s n r = grind (arith, refused, same_outcome)

disc-outcome : (d : Disc) (t n : ℕ) → Ready d → Outcome d (ReadDiscInformation t n) (read_disc_information d t n)
unfolding read_disc_information disc_bytes reply_room
disc-outcome d t n r =
    let c = ReadDiscInformation t n in
    cond_cases (Outcome d c) (eqb t 0) _ _ (λ e. report-outcome d c (disc_bytes (disc_report d)) n (le_refl _) r) (λ e. refused InvalidFieldInCommand)

module _ (d : Disc) (t n m : ℕ) (r : Ready d) where
  track-report : (k : ℕ) → Outcome d (ReadTrackInformation t n m) (track_verdict d m k)
  unfolding track_verdict track_bytes reply_room
  track-report k = report-outcome d (ReadTrackInformation t n m) (track_bytes (track_report d k)) m (le_refl _) r

  found-report : (w : Option ℕ) → Outcome d (ReadTrackInformation t n m) (track_found d m w)
  unfolding track_found
  found-report (Some k) = track-report k
  found-report None = refused AddressOutOfRange

  track-outcome : Outcome d (ReadTrackInformation t n m) (read_track_information d t n m)
  unfolding read_track_information track_numbered
  track-outcome = grind (arith, nat_tests, found-report, track-report, refused)

ready_outcome : (d : Disc) → Ready d → Outcome d TestUnitReady (test_unit_ready d)
unfolding test_unit_ready
ready_outcome d r = unchanged-outcome d TestUnitReady r

-- every command keeps the list sound and the capacity, or changes the sense alone
pub perform-outcome : (d : Disc) (c : Command) → Ready d → Outcome d c (perform d c)
unfolding perform
perform-outcome d TestUnitReady r = ready_outcome d r
perform-outcome d (RequestSense n) r = sense-outcome d n r
perform-outcome d (Inquiry p n) r = inquiry-outcome d p n r
perform-outcome d ReadCapacity r = capacity_outcome d r
perform-outcome d (Read a n) r = read-outcome d a n r
perform-outcome d (Write a n) r = write-outcome d a n r
perform-outcome d SynchronizeCache r = synchronize_outcome d SynchronizeCache r
perform-outcome d (ReserveTrack n) r = reserve-outcome d (ReserveTrack n) n r
perform-outcome d (CloseTrackSession f n) r = close-outcome d (CloseTrackSession f n) f n r
perform-outcome d (GetConfiguration t s n) r = configuration_outcome d t s n r
perform-outcome d (ReadDiscInformation t n) r = disc-outcome d t n r
perform-outcome d (ReadTrackInformation t n m) r = track-outcome d t n m r
perform-outcome d Unlisted r = refused InvalidOperationCode

-- a decision is a link refusal, or what the drive makes of a disc that is ready: of any state, block and lengths
pub data Decided (d : Disc) (c : Command) (n m : ℕ) : Verdict → Type 0 where
  on_link : (q : LinkRefusal) → Decided d c n m (refuse_link d q)
  by_drive : in_range d.capacity ≡ true → allowed_state d ≡ true → lengths_fit c n m ≡ true → Decided d c n m (perform d c)

pub judge-decided : (d : Disc) (b : List ℕ) (n m : ℕ) → Decided d (decode b) n m (judge d b n m)
unfolding judge judge_command
judge-decided d b n m = grind (arith, nat_tests, on_link, by_drive)

-- the sense that an outcome leaves is allowed
refusal_allowed : (q : DriveRefusal) → allowed_sense (refusal_sense q) ≡ true
unfolding allowed_sense is_refusal_sense
refusal_allowed InvalidOperationCode = refl
refusal_allowed WriteProtected = refl
refusal_allowed InvalidFieldInCommand = refl
refusal_allowed AddressOutOfRange = refl
refusal_allowed BlankCheck = refl
refusal_allowed InvalidAddressForWrite = refl
refusal_allowed IncompleteTrackInSession = refl
refusal_allowed EmptyTrack = refl
refusal_allowed NoMoreReservations = refl
refusal_allowed EndOfUserArea = refl

outcome-sense : (d : Disc) (c : Command) (v : Verdict) → Outcome d c v → allowed_sense v.disc.sense ≡ true
unfolding accept accepted refuse allowed_sense
outcome-sense d c v (done after q p s k o l g m) = refl
outcome-sense d c v (refused q) = refusal_allowed q

-- what the drive makes of a command whose state the link let through
pub allowed-outcome : (d : Disc) (c : Command) → in_range d.capacity ≡ true → allowed_state d ≡ true → Outcome d c (perform d c)
allowed-outcome d c r a = perform-outcome d c (allowed_ready d r a)

-- a decision's laws, of any state, command and lengths
module _ {c : Command} {n m : ℕ} (d : Disc) where
  -- a link refusal changes nothing, a drive refusal the sense alone, an accepted command clears the sense
  pub decided-link : (v : Verdict) (q : LinkRefusal) → Decided d c n m v → v.answer ≡ Link q → v ≡ refuse_link d q
  unfolding refuse_link
  decided-link v q (on_link x) e = let same : x ≡ q = cc in rw same
  decided-link v q (by_drive r a l) e = absurd (outcome_answer d c _ q (allowed-outcome d c r a) e)

  pub decided-refused : (v : Verdict) (q : DriveRefusal) → Decided d c n m v → v.answer ≡ Drive q → v ≡ refuse d q
  unfolding refuse_link
  decided-refused v q (on_link x) e = absurd (let z : ◌≡◌ {A = ℕ} 0 1 = cc in omega arith)
  decided-refused v q (by_drive r a l) e = outcome-refused d c _ q (allowed-outcome d c r a) e

  pub decided-accepted : (v : Verdict) → Decided d c n m v → v.answer ≡ Accepted → v.disc.sense ≡ no_sense
  unfolding refuse_link
  decided-accepted v (on_link x) e = absurd (let z : ◌≡◌ {A = ℕ} 0 1 = cc in omega arith)
  decided-accepted v (by_drive r a l) e = outcome-accepted d c _ (allowed-outcome d c r a) e

  -- an accepted command got past the link
  pub decided-served : (v : Verdict) → Decided d c n m v → v.answer ≡ Accepted → (in_range d.capacity ≡ true) × (allowed_state d ≡ true)
  unfolding refuse_link
  decided-served v (on_link x) e = absurd (let z : ◌≡◌ {A = ℕ} 0 1 = cc in omega arith)
  decided-served v (by_drive r a l) e = (r, a)

  -- and was performed
  pub decided-performed : (v : Verdict) → Decided d c n m v → v.answer ≡ Accepted → v ≡ perform d c
  unfolding refuse_link
  decided-performed v (on_link x) e = absurd (let z : ◌≡◌ {A = ℕ} 0 1 = cc in omega arith)
  decided-performed v (by_drive r a l) e = refl

  -- every decision keeps a disc ready, its capacity, and every sector that was recorded
  pub decided-ready : (v : Verdict) → Ready d → Decided d c n m v → Ready v.disc
  unfolding refuse_link
  decided-ready v k (on_link x) = k
  decided-ready v k (by_drive r a l) = outcome_ready d c _ k (allowed-outcome d c r a)

  -- and a state that L3 lets through is let through again: its sense is none or a drive refusal's
  pub decided-allowed : (v : Verdict) → allowed_state d ≡ true → Decided d c n m v → allowed_state v.disc ≡ true
  unfolding refuse_link allowed_state
  decided-allowed v t (on_link x) = t
  decided-allowed v t (by_drive r a l) =
      let o = allowed-outcome d c r a in and_both (outcome_ready d c _ (allowed_ready d r a) o).sound (outcome-sense d c _ o)

  pub decided-capacity : (v : Verdict) → Decided d c n m v → v.disc.capacity ≡ d.capacity
  unfolding refuse_link
  decided-capacity v (on_link x) = refl
  decided-capacity v (by_drive r a l) = outcome_capacity d c _ (allowed-outcome d c r a)

  pub decided-onward : (v : Verdict) → Decided d c n m v → Onward d v.disc (Records v.plan)
  unfolding refuse_link
  decided-onward v (on_link x) = nothing_records d d (same_onward d)
  decided-onward v (by_drive r a l) = outcome-onward d c _ (allowed-outcome d c r a)

  -- the number of blocks recorded is the rise of the sum of W, which never falls
  pub decided-rise : (v : Verdict) → Decided d c n m v → v.recorded ≡ rise d v.disc
  unfolding refuse_link
  decided-rise v (on_link x) = omega arith
  decided-rise v (by_drive r a l) = outcome-rise d c _ (allowed-outcome d c r a)

  pub decided-sum : (v : Verdict) → Decided d c n m v → sum_recorded d.fragments ≤ sum_recorded v.disc.fragments
  unfolding refuse_link
  decided-sum v (on_link x) = omega arith
  decided-sum v (by_drive r a l) =
      onward-sum d (perform d c).disc _ (sound-rules d (allowed_ready d r a).sound) (outcome-onward d c _ (allowed-outcome d c r a))

  -- of a WRITE of k sectors it is 1 + k/16 at most
  pub decided-most : (v : Verdict) (a : Lba) (k : ℕ) → c ≡ Write a k → Decided d c n m v → v.recorded ≤ 1 + k / 16
  unfolding refuse_link perform
  decided-most v a k e (on_link x) = omega arith
  decided-most v a k e (by_drive r s l) = rw e (write_most d a k (allowed_ready d r s))

  -- the blocks that its plan records were unrecorded before, inside the medium, each time of one fragment
  pub decided-placed : (v : Verdict) → Decided d c n m v → Placed d c v.plan
  unfolding refuse_link
  decided-placed v (on_link x) = placed_none d c
  decided-placed v (by_drive r a l) = outcome_placed d c _ (allowed-outcome d c r a)

  -- exactly the blocks that were recorded and those of its plan are recorded then
  pub decided-recorded :
      (v : Verdict) (a : Lba) → Decided d c n m v → is_recorded v.disc a ≡ (is_recorded d a || records_block v.plan (a.0 / 16))
  decided-recorded v a w = grind (arith, nat_tests, held_recorded, recorded_held, decided-onward, recorded_onward)

  -- and those of its plan were not recorded before
  pub decided-fresh : (v : Verdict) (a : Lba) → Decided d c n m v → records_block v.plan (a.0 / 16) ≡ true → is_recorded d a ≡ true → ⊥
  unfolding refuse_link records_block flushes transfers
  decided-fresh v a (on_link x) t r = contradiction t refl
  decided-fresh v a (by_drive r s l) t k =
      placed_fresh d c (perform d c).plan a (sound-rules d (allowed_ready d r s).sound) (outcome_placed d c _ (allowed-outcome d c r s)) t k

  -- only a READ sends, sectors that are all readable: recorded ones of the medium, pending ones of the pending buffer
  pub decided-sends :
      {P : Type 0} (v : Verdict) (a : Lba) (k i p : ℕ) → Decided d c n m v → v.plan.transfer ≡ Send a k i p → ((l : ℕ) → Shared d a l k i p → P) → P
  decided-sends v a k i p w e f = moved_sends d c a k i p f (rw e at (decided-placed v w).moved)

  -- the sectors that are pending then
  pub decided-pending : (v : Verdict) → Decided d c n m v → Pending d v.plan v.disc
  unfolding refuse_link
  decided-pending v (on_link x) = pending_same d d refl (λ z. refl)
  decided-pending v (by_drive r a l) = outcome_pending d c _ (allowed-outcome d c r a)

  pub decided-stays : (v : Verdict) (a : Lba) → Decided d c n m v → is_recorded d a ≡ true → is_recorded v.disc a ≡ true
  decided-stays v a w t = recorded_onward d v.disc _ a (decided-onward v w) t

-- a command that the link lets through is performed
pub judge_performs :
    (d : Disc) (b : List ℕ) (n m : ℕ) (c : Command) → length b ≡ 12 → decode b ≡ c → in_range d.capacity ≡ true → allowed_state d ≡ true
    → lengths_fit c n m ≡ true → judge d b n m ≡ perform d c
unfolding judge judge_command
judge_performs d b n m c l e r a f = rw (eq-eqb (length b) 12 l, e, r, a, f)

-- with the lengths that it asks for L4 cannot come up
pub asked_fit : (c : Command) → lengths_fit c (data_length c) (reply_room c) ≡ true
unfolding lengths_fit
asked_fit c = grind arith

pub as_asked_performs :
    (d : Disc) (b : List ℕ) → length b ≡ 12 → in_range d.capacity ≡ true → allowed_state d ≡ true → judge_as_asked d b ≡ perform d (decode b)
as_asked_performs d b l r a = grind (arith, judge_performs, asked_fit)

pub judge-writes :
    (d : Disc) (b : List ℕ) (n m : ℕ) (a : Lba) (k : ℕ) → length b ≡ 12 → decode b ≡ Write a k → in_range d.capacity ≡ true
    → allowed_state d ≡ true → n ≡ 2048 * k → judge d b n m ≡ write d a k
unfolding perform lengths_fit data_length reply_room
judge-writes d b n m a k l e r s f = grind (arith, judge_performs)

pub judge_reads :
    (d : Disc) (b : List ℕ) (m : ℕ) (a : Lba) (k : ℕ) → length b ≡ 12 → decode b ≡ Read a k → in_range d.capacity ≡ true
    → allowed_state d ≡ true → 2048 * k ≤ m → judge d b 0 m ≡ read d a k
unfolding perform lengths_fit data_length reply_room
judge_reads d b m a k l e r s f = grind (arith, judge_performs)

pub perform-read : (d : Disc) (a : Lba) (k : ℕ) → perform d (Read a k) ≡ read d a k
unfolding perform
perform-read d a k = refl

-- a block of another length is L1; of a state that is in order L1 and L4 alone come up
pub judge-block : (d : Disc) (b : List ℕ) (n m : ℕ) → (length b ≡ 12 → ⊥) → judge d b n m ≡ refuse_link d CommandBlockLength
unfolding judge
judge-block d b n m h = rw (ne_eqb (length b) 12 h)

link_same : {y z : LinkRefusal} → Link y ≡ Link z → z ≡ y
link_same {y} {z} q = let p : y ≡ z = cc in sym p

pub judge_link :
    (d : Disc) (b : List ℕ) (n m : ℕ) (x : LinkRefusal) → in_range d.capacity ≡ true → allowed_state d ≡ true → (judge d b n m).answer ≡ Link x
    → (x ≡ CommandBlockLength) ⊎ (x ≡ TransferLength)
unfolding judge judge_command refuse_link
judge_link d b n m x r a e =
    by_cases (eqb (length b) 12)
    (λ w.
    by_cases (lengths_fit (decode b) n m)
    (λ l. absurd (outcome_answer d (decode b) (perform d (decode b)) x (allowed-outcome d (decode b) r a) (rw (w, r, a, l) at e)))
    (λ l. let q : Link TransferLength ≡ Link x = rw (w, r, a, l) at e in inr (link_same q)))
    (λ w. let q : Link CommandBlockLength ≡ Link x = rw w at e in inl (link_same q))

-- blocks with the same fields are decided alike, whatever stands in the bytes that no field reads
pub judge_decodes :
    (d : Disc) (b c : List ℕ) (n m : ℕ) → length b ≡ length c → decode b ≡ decode c → judge d b n m ≡ judge d c n m
unfolding judge
judge_decodes d b c n m l e = rw (l, e)
