-- What the history says is recorded and pending, and the state: every accepted command.
use Prim.Native.Nat.{ℕ, zero, suc, ◌+◌, ◌-◌, ◌*◌, ◌/◌, ◌%◌, ◌≤◌, ◌<◌}
use mathlib.Core.Path.{◌≡◌, refl, sym, ap, ◌∙◌, subst}
use mathlib.Core.Bool.{Bool, true, false, cond, not, ◌&&◌, ◌||◌}
use mathlib.Core.Logic.{⊎_elim}
use native.Mathlib.Omega.{arith}
use borrow.Author.Tests.{eq-eqb, ne_eqb, eqb-true, eqb-false, ltb-true, ltb-false, not-false}
use lib.Dec.{eqb, ltb}
use Rattle.fragments.specs.Address.{lba, first_sector}
use Rattle.fragments.specs.Fragment.{end, first_unrecorded, complete, is_reserved, next_session_start, shortened_record}
use Rattle.disc.specs.Records.{is_blank, pending_in, used, is_listed, numbered, last_record, with_record, has_tail, writable_at, blank_tail_only, at_address, is_recorded}
use Rattle.fragments.specs.List.{limit}
use Rattle.outcomes.specs.Recorded.{among, flushes, transfers, records_block, flushed_count, transferred_count, pending_block, transferred_block}
use Rattle.disc.specs.Ready.{Ready}
use Rattle.decisions.specs.Plan.{no_plan, plan}
use Rattle.disc.specs.Verdict.{accepted, accept, refuse}
use Rattle.protocol.specs.Reply.{no_reply}
use Rattle.commands.specs.Flush.{flush, flush_plan, synchronize_cache}
use Rattle.commands.specs.Read.{sending, read}
use Rattle.commands.specs.Write.{flush_others_plan, Writable, write_to, write_found, write}
use Rattle.commands.specs.Reserve.{split_tail, reserve}
use Rattle.commands.specs.Close.{filled_record, append_tail, close_incomplete, close_fragment, has_incomplete_reserved, close_tail, open_session, close_session, finalized, finalize, close}
use Rattle.reporting.specs.Identity.{inquiry, get_configuration}
use Rattle.reporting.specs.Reports.{request_sense, read_capacity, read_disc_information, read_track_information, track_verdict, track_found, track_numbered}
use Rattle.commands.specs.Judge.{test_unit_ready, perform}
use Rattle.fragments.proofs.Laws.Bool.{and-false, by_cases, or_left, or_right, or_cases, same_test, cond_yes, cond_no, cond_cases}
use Rattle.fragments.proofs.Laws.Numbers.{equal_cases}
use Rattle.disc.proofs.Laws.Readable.{recorded_held, held_recorded, recorded_onward}
use Rattle.commands.proofs.Laws.Read.{read_cases}
use Rattle.outcomes.proofs.Laws.Recorded.{among-from, among_below, among_between, flush-onward}
use Rattle.disc.proofs.Laws.Records.{listed-number}
use Rattle.disc.proofs.Laws.Rules.{sound-rules}
use Rattle.disc.proofs.Laws.Sound.{none_pending, other_pending, own_pending, writable-once, pending-in-few}
use Rattle.commands.proofs.Laws.Flush.{owner, flush_grows, flush-sound, flush-used}
use Rattle.commands.proofs.Laws.Write.{writable_found}
use Rattle.commands.proofs.Laws.Reserve.{reserve_cases}
use Rattle.outcomes.proofs.Laws.Counts.{blank_only_none}
use Rattle.history.specs.Types.{Lba, Fragment, Kind, Reserved, Appended, Disc, Option, Some, None, Accepted, DriveRefusal, WriteProtected, InvalidFieldInCommand, AddressOutOfRange, InvalidOperationCode, InvalidAddressForWrite, IncompleteTrackInSession, EmptyTrack, NoMoreReservations, EndOfUserArea, Reply, Flush, Plan, Verdict, Nothing, Gather, Fill, Command, TestUnitReady, RequestSense, Inquiry, ReadCapacity, Read, Write, SynchronizeCache, ReserveTrack, CloseTrackSession, GetConfiguration, ReadDiscInformation, ReadTrackInformation, Unlisted}
use Rattle.history.specs.Account.{extent_of}
use Rattle.history.specs.Past.{Past, block_recorded, sector_gathered, sectors_gathered, past_flushed, past_filled, past_after}
use Rattle.decisions.specs.Plan.{recording}

-- tests joined by ||
or_none : (a : Bool) → (a || false) ≡ a
or_none true = refl
or_none false = refl

or_assoc : (a b c : Bool) → ((a || b) || c) ≡ (a || (b || c))
or_assoc true b c = refl
or_assoc false b c = refl

or_absorbed : (a b : Bool) → (b ≡ true → a ≡ true) → (a || b) ≡ a
or_absorbed a b h = grind arith

no_second : (a b : Bool) → b ≡ false → (a && b) ≡ false
no_second true b e = e
no_second false b e = refl

-- sectors that gather one by one: so many blocks are recorded, and the rest is held
pub record Gathers (b n : ℕ) (h g : Past) : Type 0 where
  pub recorded : (k : ℕ) → g.recorded k ≡ (h.recorded k || among b ((h.held + n) / 16) k)
  pub held : g.held ≡ (h.held + n) % 16

among_empty : (b k : ℕ) → among b 0 k ≡ false
among_empty b k = grind arith

among_next : (b n k : ℕ) → (eqb k b || among (b + 1) n k) ≡ among b (n + 1) k
among_next b n k =
    same_test
    (λ t.
    or_cases (eqb k b) (among (b + 1) n k) (λ e. let same = eqb-true k b e in among_between b (n + 1) k (omega arith) (omega arith))
    (λ e. let from = among-from (b + 1) n k e in let below = among_below (b + 1) n k e in among_between b (n + 1) k (omega arith) (omega arith)) t)
    (λ t.
    let from = among-from b (n + 1) k t in
    let below = among_below b (n + 1) k t in
    equal_cases k b (λ e. or_left (among (b + 1) n k) (eq-eqb k b e))
    (λ e. or_right (eqb k b) (among_between (b + 1) n k (more from e) (omega (arith, below)))))
  where
    more : {b k : ℕ} → b ≤ k → (k ≡ b → ⊥) → b + 1 ≤ k
    more h e = omega arith

pub gathers : (a n b : ℕ) (h : Past) → h.held < 16 → a ≡ 16 * b + h.held → Gathers b n h (sectors_gathered a n h)
unfolding sectors_gathered
gathers a zero b h few here =
    let none : (h.held + 0) / 16 ≡ 0 = omega (arith, few) in
    record {
      recorded = λ k. sym (ap (λ (m : ℕ). h.recorded k || among b m k) none ∙ (ap (λ (x : Bool). h.recorded k || x) (among_empty b k) ∙ or_none (h.recorded k)));
      held = omega (arith, few);
    }
gathers a (suc n) b h few here =
    by_cases (eqb (h.held + 1) 16)
    (λ t.
    let full = eqb-true (h.held + 1) 16 t in
    let place : a / 16 ≡ b = omega (arith, here, few) in
    let one : Past = record { recorded = λ k. h.recorded k || eqb k (a / 16); held = 0; next = a + 1 } in
    let is : sector_gathered a h ≡ one = cond_yes (eqb (h.held + 1) 16) _ _ t in
    let i = gathers (a + 1) n (b + 1) one (omega arith) (omega (arith, here, full)) in
    let sum : (h.held + suc n) / 16 ≡ (0 + n) / 16 + 1 = omega (arith, full) in
    subst (λ (g : Past). Gathers b (suc n) h (sectors_gathered (a + 1) n g)) (sym is)
    (record {
      recorded =
          λ k.
          i.recorded k
          ∙ (ap (λ (x : ℕ). h.recorded k || eqb k x || among (b + 1) ((0 + n) / 16) k) place
          ∙ (or_assoc (h.recorded k) (eqb k b) (among (b + 1) ((0 + n) / 16) k)
          ∙ (ap (λ (x : Bool). h.recorded k || x) (among_next b ((0 + n) / 16) k) ∙ ap (λ (x : ℕ). h.recorded k || among b x k) (sym sum))));
      held = i.held ∙ omega (arith, full);
    }))
    (λ t.
    let less = eqb-false (h.held + 1) 16 t in
    let one : Past = record { recorded = h.recorded; held = h.held + 1; next = a + 1 } in
    let is : sector_gathered a h ≡ one = cond_no (eqb (h.held + 1) 16) _ _ t in
    let i = gathers (a + 1) n b one (short few less) (omega (arith, here)) in
    let sum : (h.held + 1) + n ≡ h.held + suc n = omega arith in
    subst (λ (g : Past). Gathers b (suc n) h (sectors_gathered (a + 1) n g)) (sym is)
    (record {
      recorded = λ k. i.recorded k ∙ ap (λ (x : ℕ). h.recorded k || among b (x / 16) k) sum;
      held = i.held ∙ ap (λ (x : ℕ). x % 16) sum;
    }))
  where
    short : {a : ℕ} → a < 16 → (a + 1 ≡ 16 → ⊥) → a + 1 < 16
    short h e = omega arith

-- the address after them
one_next : (a : ℕ) (h : Past) → (sector_gathered a h).next ≡ a + 1
one_next a h = grind arith

gathered_next : (a n : ℕ) (h : Past) → (sectors_gathered a (suc n) h).next ≡ a + suc n
unfolding sectors_gathered
gathered_next a zero h = one_next a h
gathered_next a (suc n) h = gathered_next (a + 1) n (sector_gathered a h) ∙ omega arith

pub gathers_next : (a n : ℕ) (h : Past) → 1 ≤ n → (sectors_gathered a n h).next ≡ a + n
gathers_next a zero h some = absurd (omega (arith, some))
gathers_next a (suc n) h some = gathered_next a n h

-- the history and the state: recorded blocks, how many sectors are pending, and the address after them
pub record Recalls (d : Disc) (h : Past) : Type 0 where
  pub recorded : (a : ℕ) → is_recorded d (lba a) ≡ h.recorded (a / 16)
  pub held : d.pending ≡ h.held
  pub next : (d.pending ≡ 0 → ⊥) → h.next ≡ 16 * pending_block d + d.pending

-- a plan by the history: it records the blocks that g has more than h
pub record Tells (d : Disc) (h g : Past) (p : Plan) : Type 0 where
  pub recorded : (k : ℕ) → (h.recorded k || records_block p k) ≡ g.recorded k
  pub held : transferred_count p.transfer (flushed_count p.flush h.held) ≡ g.held
  pub next : (g.held ≡ 0 → ⊥) → g.next ≡ 16 * transferred_block p.transfer (pending_block d) + g.held

module _ (d : Disc) (h : Past) (r : Ready d) (w : Recalls d h) where
  -- an accepted verdict
  abbrev Recalled : Past → Verdict → Type 0
  Recalled g v = v.answer ≡ Accepted → Tells d h g v.plan

  recalled-as : {f g : Past} (v : Verdict) → f ≡ g → Recalled f v → Recalled g v
  recalled-as v e q = subst (λ (g : Past). Recalled g v) e q

  recalled-refused : (g : Past) (x : DriveRefusal) → Recalled g (refuse d x)
  unfolding refuse
  recalled-refused g x e = absurd (let z : ◌≡◌ {A = ℕ} 0 1 = cc in omega arith)

  recalled-accepted : (g : Past) (after : Disc) (reply : Reply) (p : Plan) → Tells d h g p → Recalled g (accept d after reply p)
  unfolding accept accepted
  recalled-accepted g after reply p t e = t

  tells_none : Tells d h h no_plan
  unfolding records_block flushes transfers transferred_count flushed_count transferred_block
  tells_none = grind arith

  tells-sent : (a : Lba) (n : ℕ) → Tells d h h (plan None (sending d a n))
  unfolding records_block flushes transfers transferred_count flushed_count transferred_block sending
  tells-sent a n = grind arith

  recalled-same : (reply : Reply) → Recalled h (accept d d reply no_plan)
  recalled-same reply = recalled-accepted h d reply no_plan tells_none

  -- the flush
  flushed-idle : d.pending ≡ 0 → past_flushed h ≡ h
  unfolding past_flushed
  flushed-idle z = grind arith

  flushed-some : (d.pending ≡ 0 → ⊥) → past_flushed h ≡ block_recorded (pending_block d) h
  unfolding past_flushed
  flushed-some z =
      let few = (owner d r z).few in
      let place : h.next / 16 ≡ pending_block d = ap (λ (n : ℕ). n / 16) (w.next z) ∙ omega (arith, few) in
      cond_no (eqb h.held 0) h _ (ne_eqb h.held 0 (λ q. z (w.held ∙ q))) ∙ ap (λ (b : ℕ). block_recorded b h) place

  plan-idle : d.pending ≡ 0 → flush_plan d ≡ None
  unfolding flush_plan
  plan-idle z = cond_yes (eqb d.pending 0) _ _ (eq-eqb d.pending 0 z)

  plan-some : (d.pending ≡ 0 → ⊥) → flush_plan d ≡ Some (recording (first_unrecorded (numbered d d.owner)) d.pending)
  unfolding flush_plan
  plan-some z = cond_no (eqb d.pending 0) _ _ (ne_eqb d.pending 0 z)

  -- the blocks that it records, and that none is held then
  flush-tells : (k : ℕ) → (h.recorded k || flushes (flush_plan d) k) ≡ (past_flushed h).recorded k
  unfolding flushes
  flush-tells k =
      equal_cases d.pending 0
      (λ z.
      ap (λ (f : Option Flush). h.recorded k || flushes f k) (plan-idle z)
      ∙ (or_none (h.recorded k) ∙ sym (ap (λ (g : Past). g.recorded k) (flushed-idle z))))
      (λ z. ap (λ (f : Option Flush). h.recorded k || flushes f k) (plan-some z) ∙ sym (ap (λ (g : Past). g.recorded k) (flushed-some z)))

  flush-count : flushed_count (flush_plan d) h.held ≡ 0
  unfolding flushed_count
  flush-count =
      equal_cases d.pending 0 (λ z. ap (λ (f : Option Flush). flushed_count f h.held) (plan-idle z) ∙ (sym w.held ∙ z))
      (λ z. ap (λ (f : Option Flush). flushed_count f h.held) (plan-some z))

  flush-held : (past_flushed h).held ≡ 0
  flush-held =
      equal_cases d.pending 0 (λ z. ap (λ (g : Past). g.held) (flushed-idle z) ∙ (sym w.held ∙ z)) (λ z. ap (λ (g : Past). g.held) (flushed-some z))

  tells-flush : Tells d h (past_flushed h) (plan (flush_plan d) Nothing)
  unfolding records_block transfers transferred_count
  tells-flush =
      record {
        recorded = λ k. ap (λ (x : Bool). h.recorded k || x) (or_none (flushes (flush_plan d) k)) ∙ flush-tells k;
        held = flush-count ∙ sym flush-held;
        next = λ z. absurd (z flush-held);
      }

  recalled-flush : (after : Disc) (reply : Reply) → Recalled (past_flushed h) (accept d after reply (plan (flush_plan d) Nothing))
  recalled-flush after reply = recalled-accepted (past_flushed h) after reply _ tells-flush

  recalled-idle : (reply : Reply) → d.pending ≡ 0 → Recalled (past_flushed h) (accept d d reply no_plan)
  recalled-idle reply z = recalled-as (accept d d reply no_plan) (sym (flushed-idle z)) (recalled-same reply)

  -- what is recorded after it
  flushed-recorded : (a : ℕ) → is_recorded (flush d) (lba a) ≡ (past_flushed h).recorded (a / 16)
  flushed-recorded a =
      let o = flush-onward d r in
      let k = a / 16 in
      same_test
      (λ t. ⊎_elim (λ x. or_left (flushes (flush_plan d) k) (held_recorded d (lba a) x)) (λ x. or_right (is_recorded d (lba a)) x) (o.was k (recorded_held (flush d) (lba a) t)))
      (λ t.
      or_cases (is_recorded d (lba a)) (flushes (flush_plan d) k) (λ x. recorded_onward d (flush d) _ (lba a) o x)
      (λ x. held_recorded (flush d) (lba a) (o.adds k x)) t)
      ∙ (ap (λ (x : Bool). x || flushes (flush_plan d) k) (w.recorded a) ∙ flush-tells k)

  -- a block recorded in fragment j of the flushed disc
  held-block : (j k : ℕ) → 1 ≤ j → j ≤ used (flush d) → (numbered (flush d) j).start.0 ≤ k → k < (numbered (flush d) j).start.0 + (numbered (flush d) j).recorded
      → (past_flushed h).recorded k ≡ true
  held-block j k from to first below =
      let place : 16 * k / 16 ≡ k = omega arith in
      ap (λ (x : ℕ). (past_flushed h).recorded x) (sym place)
      ∙ (sym (flushed-recorded (16 * k))
      ∙ held_recorded (flush d) (lba (16 * k))
      (record { index = j - 1; listed = omega (arith, from, to); from = omega (arith, first); below = omega (arith, below) }))

  -- WRITE of one sector up, to fragment j: the held sectors stay where it goes on after them, and are flushed where it does not
  module _ (a : Lba) (n j : ℕ) (v : Writable d a j) (some : 1 ≤ n) where
    abbrev flushedElsewhere : Past
    flushedElsewhere = cond (eqb a.0 h.next) h (past_flushed h)

    -- as the plan has it
    record Meets (g : Past) : Type 0 where
      recorded : (k : ℕ) → (h.recorded k || flushes (flush_others_plan d j) k) ≡ g.recorded k
      held : g.held ≡ pending_in d j

    few-held : pending_in d j < 16
    few-held = pending-in-few d (sound-rules d r.sound) j

    same_meets : flush_others_plan d j ≡ None → d.pending ≡ pending_in d j → Meets h
    unfolding flushes
    same_meets skip own = grind arith

    flush-meets : flush_others_plan d j ≡ flush_plan d → pending_in d j ≡ 0 → Meets (past_flushed h)
    flush-meets whole none =
        record { recorded = λ k. ap (λ (f : Option Flush). h.recorded k || flushes f k) whole ∙ flush-tells k; held = flush-held ∙ sym none }

    own-plan : d.owner ≡ j → flush_others_plan d j ≡ None
    unfolding flush_others_plan
    own-plan e = grind arith

    other-plan : (d.owner ≡ j → ⊥) → flush_others_plan d j ≡ flush_plan d
    unfolding flush_others_plan
    other-plan e = grind arith

    meets : Meets flushedElsewhere
    meets =
        equal_cases d.pending 0
        (λ z.
        let one : flushedElsewhere ≡ past_flushed h =
        by_cases (eqb a.0 h.next) (λ t. cond_yes (eqb a.0 h.next) h (past_flushed h) t ∙ sym (flushed-idle z))
        (λ t. cond_no (eqb a.0 h.next) h (past_flushed h) t) in
        subst (λ (g : Past). Meets g) (sym (one ∙ flushed-idle z))
        (same_meets
        (equal_cases d.owner j own-plan (λ e. other-plan e ∙ plan-idle z)) (z ∙ sym (none_pending d j z))))
        (λ z.
        let o = owner d r z in
        let s = sound-rules d r.sound in
        equal_cases d.owner j
        (λ e.
        let own = own_pending d j e in
        let here : a.0 ≡ h.next =
        v.here
        ∙ (ap (λ (i : ℕ). 16 * ((numbered d i).start.0 + (numbered d i).recorded) + pending_in d j) (sym e)
        ∙ (ap (λ (i : ℕ). 16 * pending_block d + i) own ∙ sym (w.next z))) in
        subst (λ (g : Past). Meets g) (sym (cond_yes (eqb a.0 h.next) h (past_flushed h) (eq-eqb a.0 h.next here)))
        (same_meets (own-plan e) (sym own)))
        (λ e.
        let none = other_pending d j e in
        let away : a.0 ≡ h.next → ⊥ =
        λ q.
        e
        (let place : suc (d.owner - 1) ≡ d.owner = omega (arith, o.number) in
        let spot : suc (j - 1) ≡ j = omega (arith, v.from) in
        let same =
        writable-once d s (d.owner - 1) (j - 1) (omega (arith, o.number, o.listed)) (omega (arith, v.from, v.listed)) (s.owned z).incomplete v.incomplete
        (ap (λ (i : ℕ). 16 * pending_block d + pending_in d i) place
        ∙ (ap (λ (i : ℕ). 16 * pending_block d + i) (own_pending d d.owner refl)
        ∙ (sym (w.next z)
        ∙ (sym q ∙ (v.here ∙ ap (λ (i : ℕ). 16 * ((numbered d j).start.0 + (numbered d j).recorded) + pending_in d i) (sym spot)))))) in
        omega (arith, same, o.number, v.from)) in
        subst (λ (g : Past). Meets g) (sym (cond_no (eqb a.0 h.next) h (past_flushed h) (ne_eqb a.0 h.next away)))
        (flush-meets (other-plan e) none)))

    tells-gather : Tells d h (sectors_gathered a.0 n flushedElsewhere) (plan (flush_others_plan d j) (Gather (first_unrecorded (numbered d j)) (pending_in d j) n))
    unfolding records_block transfers transferred_count transferred_block
    tells-gather =
        let b = (first_unrecorded (numbered d j)).0 in
        let g = flushedElsewhere in
        let m = meets in
        let all = gathers a.0 n b g (omega (arith, m.held, few-held)) (omega (arith, v.here, m.held)) in
        let sum : g.held + n ≡ pending_in d j + n = omega (arith, m.held) in
        let count : (sectors_gathered a.0 n g).held ≡ (pending_in d j + n) % 16 = all.held ∙ ap (λ (x : ℕ). x % 16) sum in
        record {
          recorded =
              λ k.
              sym (or_assoc (h.recorded k) (flushes (flush_others_plan d j) k) (among b ((pending_in d j + n) / 16) k))
              ∙ (ap (λ (x : Bool). x || among b ((pending_in d j + n) / 16) k) (m.recorded k)
              ∙ (ap (λ (x : ℕ). g.recorded k || among b (x / 16) k) (sym sum) ∙ sym (all.recorded k)));
          held = sym count;
          next = λ z. gathers_next a.0 n g some ∙ omega (arith, v.here, count);
        }

  recalled-write-found :
      (a : Lba) (n : ℕ) → (n ≡ 0 → ⊥) → (x : Option ℕ) → writable_at d a ≡ x
      → Recalled (sectors_gathered a.0 n (cond (eqb a.0 h.next) h (past_flushed h))) (write_found d a n x)
  unfolding write_found write_to
  recalled-write-found a n z (Some j) e =
      cond_cases (Recalled _) (ltb (first_sector (end (numbered d j))).0 (a.0 + n)) _ _ (λ t. recalled-refused _ EndOfUserArea)
      (λ t. recalled-accepted _ _ no_reply _ (tells-gather a n j (writable_found d a j e) (some z)))
    where
      some : {n : ℕ} → (n ≡ 0 → ⊥) → 1 ≤ n
      some z = omega arith
  recalled-write-found a n z None e = recalled-refused _ InvalidAddressForWrite

  recalled-write : (a : Lba) (n : ℕ) → Recalled (past_after d (Write a n) h) (write d a n)
  unfolding write past_after
  recalled-write a n =
      let g = cond (eqb n 0) h (sectors_gathered a.0 n (cond (eqb a.0 h.next) h (past_flushed h))) in
      cond_cases (Recalled g) (eqb n 0) _ _ (λ z. recalled-as (accept d d no_reply no_plan) (sym (cond_yes (eqb n 0) h _ z)) (recalled-same no_reply))
      (λ z.
      cond_cases (Recalled g) d.finalized _ _ (λ f. recalled-refused g WriteProtected)
      (λ f.
      recalled-as (write_found d a n (writable_at d a)) (sym (cond_no (eqb n 0) h _ z))
      (recalled-write-found a n (eqb-false n 0 z) (writable_at d a) refl)))

  -- CLOSE: with the function 001 a reserved fragment is filled
  abbrev closedPast : ℕ → ℕ → Past
  closedPast function j = past_after d (CloseTrackSession function j) h

  closed-filled : (j : ℕ) → (extent_of d j).reserved ≡ true → past_filled (extent_of d j) (past_flushed h) ≡ closedPast 0b001 j
  unfolding past_after
  closed-filled j t = grind arith

  closed-flushed : (function j : ℕ) → (eqb function 0b001 && (extent_of d j).reserved) ≡ false → past_flushed h ≡ closedPast function j
  unfolding past_after
  closed-flushed function j t = grind arith

  -- block k of an extent
  module _ (j : ℕ) (from : 1 ≤ j) (to : j ≤ used (flush d)) where
    abbrev closing : Fragment
    closing = numbered (flush d) j

    same_start : closing.start.0 ≡ (numbered d j).start.0
    same_start = (flush_grows d r).start (j - 1)

    same_size : closing.length ≡ (numbered d j).length
    same_size = (flush_grows d r).size (j - 1)

    same_kind : (q : Kind) → closing.kind ≡ q → (extent_of d j).reserved ≡ is_reserved q
    same_kind q c = ap is_reserved (sym ((flush_grows d r).kind (j - 1)) ∙ c)

    in-extent : (k : ℕ) → among (extent_of d j).first (extent_of d j).sectors (16 * k) ≡ among closing.start.0 closing.length k
    in-extent k =
        let x = extent_of d j in
        same_test
        (λ t.
        let a = among-from x.first x.sectors (16 * k) t in
        let b = among_below x.first x.sectors (16 * k) t in
        among_between closing.start.0 closing.length k (omega (arith, a, same_start)) (omega (arith, b, same_start, same_size)))
        (λ t.
        let a = among-from closing.start.0 closing.length k t in
        let b = among_below closing.start.0 closing.length k t in
        among_between x.first x.sectors (16 * k) (omega (arith, a, same_start)) (omega (arith, b, same_start, same_size)))

    -- a complete one has nothing left to fill
    tells-complete : complete closing ≡ true → Tells d h (past_filled (extent_of d j) (past_flushed h)) (plan (flush_plan d) Nothing)
    tells-complete c =
        let t = tells-flush in
        let whole = eqb-true closing.recorded closing.length c in
        record {
          recorded =
              λ k.
              t.recorded k
              ∙ sym
              (or_absorbed ((past_flushed h).recorded k) (among (extent_of d j).first (extent_of d j).sectors (16 * k))
              (λ q.
              let y = sym (in-extent k) ∙ q in
              held-block j k from to (among-from closing.start.0 closing.length k y)
              (let below = among_below closing.start.0 closing.length k y in omega (arith, below, whole))));
          held = t.held;
          next = t.next;
        }

    -- an incomplete one is filled from its first unrecorded block on
    tells-fill :
        Tells d h (past_filled (extent_of d j) (past_flushed h)) (plan (flush_plan d) (Fill (first_unrecorded closing) (closing.length - closing.recorded)))
    unfolding records_block transfers transferred_count transferred_block
    tells-fill =
        let first = closing.start.0 in
        let done = closing.recorded in
        let b = first + done in
        let n = closing.length - done in
        let most = (flush-sound d r).recorded (j - 1) (omega (arith, from, to)) in
        record {
          recorded =
              λ k.
              sym (or_assoc (h.recorded k) (flushes (flush_plan d) k) (among b n k))
              ∙ (ap (λ (x : Bool). x || among b n k) (flush-tells k)
              ∙ (same_test
              (λ t.
              or_cases ((past_flushed h).recorded k) (among b n k) (λ x. or_left (among first closing.length k) x)
              (λ x.
              or_right ((past_flushed h).recorded k)
              (among_between first closing.length k
              (let from = among-from b n k x in omega (arith, from)) (let below = among_below b n k x in omega (arith, below, most)))) t)
              (λ t.
              or_cases ((past_flushed h).recorded k) (among first closing.length k) (λ x. or_left (among b n k) x)
              (λ x.
              let lower = among-from first closing.length k x in
              let upper = among_below first closing.length k x in
              by_cases (ltb k b) (λ y. or_left (among b n k) (held-block j k from to lower (ltb-true k b y)))
              (λ y. or_right ((past_flushed h).recorded k) (among_between b n k (ltb-false k b y) (omega (arith, upper, most))))) t)
              ∙ ap (λ (x : Bool). (past_flushed h).recorded k || x) (sym (in-extent k))));
          held = flush-count ∙ sym flush-held;
          next = λ z. absurd (z flush-held);
        }

    recalled-complete : complete closing ≡ true → Recalled (closedPast 0b001 j) (accept d (flush d) no_reply (plan (flush_plan d) Nothing))
    recalled-complete c =
        by_cases (extent_of d j).reserved
        (λ t. recalled-as (accept d (flush d) no_reply (plan (flush_plan d) Nothing)) (closed-filled j t) (recalled-accepted _ (flush d) no_reply _ (tells-complete c)))
        (λ t.
        recalled-as (accept d (flush d) no_reply (plan (flush_plan d) Nothing))
        (closed-flushed 0b001 j (no_second (eqb 0b001 0b001) (extent_of d j).reserved t)) (recalled-flush (flush d) no_reply))

    recalled-incomplete : (q : Kind) → closing.kind ≡ q → Recalled (closedPast 0b001 j) (close_incomplete d (flush d) j q)
    unfolding close_incomplete
    recalled-incomplete Reserved c =
        recalled-as
        (accept d (with_record (flush d) j (filled_record closing)) no_reply
        (plan (flush_plan d) (Fill (first_unrecorded closing) (closing.length - closing.recorded))))
        (closed-filled j (same_kind Reserved c)) (recalled-accepted _ _ no_reply _ tells-fill)
    recalled-incomplete Appended c =
        recalled-as (accept d (append_tail (with_record (flush d) j (shortened_record closing)) j) no_reply (plan (flush_plan d) Nothing))
        (closed-flushed 0b001 j (no_second (eqb 0b001 0b001) (extent_of d j).reserved (same_kind Appended c))) (recalled-flush _ no_reply)

  recalled-close-fragment : (j : ℕ) → Recalled (closedPast 0b001 j) (close_fragment d j)
  unfolding close_fragment
  recalled-close-fragment j =
      let g = closedPast 0b001 j in
      cond_cases (Recalled g) (not (is_listed d j)) _ _ (λ t. recalled-refused g InvalidFieldInCommand)
      (λ t.
      let u = listed-number d j (not-false _ t) in
      let to : j ≤ used (flush d) = omega (arith, u.1, flush-used d r) in
      cond_cases (Recalled g) (is_blank d j (numbered d j)) _ _ (λ b. recalled-refused g EmptyTrack)
      (λ b.
      cond_cases (Recalled g) (complete (numbered (flush d) j)) _ _ (λ i. recalled-complete j u.0 to i)
      (λ i. recalled-incomplete j u.0 to (numbered (flush d) j).kind refl)))

  recalled-close-session : Recalled (past_flushed h) (close_session d)
  unfolding close_session
  recalled-close-session =
      let g = past_flushed h in
      let t = close_tail (flush d) in
      cond_cases (Recalled g) (d.finalized || blank_tail_only d) _ _
      (λ q. recalled-idle no_reply (or_cases d.finalized (blank_tail_only d) (λ f. (sound-rules d r.sound).settled f) (λ b. blank_only_none d r b) q))
      (λ q.
      cond_cases (Recalled g) (has_incomplete_reserved (flush d)) _ _ (λ i. recalled-refused g IncompleteTrackInSession)
      (λ i.
      cond_cases (Recalled g) (eqb (used t) limit) _ _ (λ u. recalled-refused g NoMoreReservations)
      (λ u.
      cond_cases (Recalled g) (ltb d.capacity ((next_session_start (end (last_record t))).0 + 1)) _ _ (λ x. recalled-refused g EndOfUserArea)
      (λ x. recalled-flush (open_session t) no_reply))))

  recalled-finalize : Recalled (past_flushed h) (finalize d)
  unfolding finalize
  recalled-finalize =
      let g = past_flushed h in
      cond_cases (Recalled g) d.finalized _ _ (λ f. recalled-idle no_reply ((sound-rules d r.sound).settled f))
      (λ f.
      cond_cases (Recalled g) (has_incomplete_reserved (flush d)) _ _ (λ i. recalled-refused g IncompleteTrackInSession)
      (λ i.
      cond_cases (Recalled g) (blank_tail_only d && eqb (last_record d).session 1) _ _ (λ b. recalled-refused g EmptyTrack)
      (λ b. recalled-flush (finalized (close_tail (flush d))) no_reply)))

  recalled-close : (function j : ℕ) → Recalled (closedPast function j) (close d function j)
  unfolding close
  recalled-close function j =
      let g = closedPast function j in
      cond_cases (Recalled g) (eqb function 0b001) _ _
      (λ t. subst (λ (c : ℕ). Recalled (closedPast c j) (close_fragment d j)) (sym (eqb-true function 0b001 t)) (recalled-close-fragment j))
      (λ t.
      let keeps : past_flushed h ≡ g = closed-flushed function j (and-false (eqb function 0b001) (extent_of d j).reserved t) in
      cond_cases (Recalled g) (eqb function 0b010) _ _ (λ u. recalled-as (close_session d) keeps recalled-close-session)
      (λ u.
      cond_cases (Recalled g) (eqb function 0b110) _ _ (λ v. recalled-as (finalize d) keeps recalled-finalize)
      (λ v. recalled-refused g InvalidFieldInCommand)))

  -- the commands that record nothing
  recalled-reserve : (size : ℕ) → Recalled h (reserve d size)
  recalled-reserve size =
      reserve_cases (Recalled h) d size r (recalled-refused h)
      (λ b some f t w. recalled-accepted h (split_tail d b) no_reply no_plan tells_none)

  recalled-read : (a : Lba) (n : ℕ) → Recalled h (read d a n)
  recalled-read a n =
      read_cases (Recalled h) d a n (recalled-same no_reply) (recalled-refused h)
      (λ z l t. recalled-accepted h d no_reply (plan None (sending d a n)) (tells-sent a n))

  recalled-track-found : (allocation : ℕ) (x : Option ℕ) → Recalled h (track_found d allocation x)
  unfolding track_found track_verdict
  recalled-track-found allocation (Some j) = recalled-same _
  recalled-track-found allocation None = recalled-refused h AddressOutOfRange

  recalled-track : (addressType number allocation : ℕ) → Recalled h (read_track_information d addressType number allocation)
  unfolding read_track_information track_numbered track_verdict
  recalled-track addressType number allocation =
      cond_cases (Recalled h) (eqb addressType 0) _ _ (λ t. recalled-track-found allocation (at_address d (lba number)))
      (λ t.
      cond_cases (Recalled h) (eqb addressType 1) _ _
      (λ u.
      cond_cases (Recalled h) (eqb number 0xFF) _ _
      (λ f. cond_cases (Recalled h) (has_tail d) _ _ (λ a. recalled-same _) (λ a. recalled-refused h InvalidFieldInCommand))
      (λ f. cond_cases (Recalled h) (is_listed d number) _ _ (λ a. recalled-same _) (λ a. recalled-refused h InvalidFieldInCommand)))
      (λ u. recalled-refused h InvalidFieldInCommand))

  -- every command
  pub recalled-performed : (c : Command) → Recalled (past_after d c h) (perform d c)
  unfolding perform past_after test_unit_ready request_sense inquiry get_configuration read_capacity read_disc_information synchronize_cache
  recalled-performed TestUnitReady = recalled-same no_reply
  recalled-performed (RequestSense allocation) = recalled-same _
  recalled-performed (Inquiry pageBit allocation) =
      cond_cases (Recalled h) (eqb pageBit 0) _ _ (λ t. recalled-same _) (λ t. recalled-refused h InvalidFieldInCommand)
  recalled-performed ReadCapacity = recalled-same _
  recalled-performed (Read a n) = recalled-read a n
  recalled-performed (Write a n) = recalled-write a n
  recalled-performed SynchronizeCache = recalled-flush (flush d) no_reply
  recalled-performed (ReserveTrack size) = recalled-reserve size
  recalled-performed (CloseTrackSession function j) = recalled-close function j
  recalled-performed (GetConfiguration request_type start allocation) =
      cond_cases (Recalled h) (eqb request_type 3) _ _ (λ t. recalled-refused h InvalidFieldInCommand) (λ t. recalled-same _)
  recalled-performed (ReadDiscInformation dataType allocation) =
      cond_cases (Recalled h) (eqb dataType 0) _ _ (λ t. recalled-same _) (λ t. recalled-refused h InvalidFieldInCommand)
  recalled-performed (ReadTrackInformation addressType number allocation) = recalled-track addressType number allocation
  recalled-performed Unlisted = recalled-refused h InvalidOperationCode
