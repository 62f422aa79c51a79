-- A WRITE cut in two: the list after it.
use Prim.Native.Nat.{ℕ, suc, ◌<◌, ◌+◌, ◌-◌, ◌/◌, ◌%◌, ◌≤◌}
use mathlib.Core.Path.{◌≡◌, refl, sym, ◌∙◌, ap}
use mathlib.Core.Bool.{true, false, cond}
use native.Mathlib.Omega.{arith}
use borrow.Author.Tests.{eq-eqb, ne_eqb, eqb-true, le-ltb}
use lib.Dec.{eqb, ltb}
use lib.ListN.{length, set}
use lib.Seq.{get_or-set_same, set-set}
use Rattle.outcomes.specs.Types.{Lba, Fragment, Disc, Verdict, Accepted, Gather, Write, Block, Flush, Option, None, Plan}
use Rattle.fragments.specs.Fragment.{end, first_unrecorded}
use Rattle.disc.specs.Records.{pending_in, next_writable, used, numbered, with_sense}
use Rattle.fragments.specs.Address.{lba, first_sector, block}
use Rattle.protocol.specs.Answer.{no_sense}
use Rattle.disc.specs.Ready.{Ready}
use Rattle.decisions.specs.Plan.{plan}
use Rattle.disc.specs.Verdict.{accepted, accept}
use Rattle.protocol.specs.Reply.{no_reply}
use Rattle.commands.specs.Write.{flush_others, flush_others_plan, flush_others_count, grown_record, gather, write_to, write_found, write}
use Rattle.fragments.proofs.Laws.Bool.{cond_yes, cond_no, by_cases, contradiction}
use Rattle.disc.proofs.Laws.Rules.{sound-rules}
use Rattle.commands.proofs.Laws.Write.{takes-found, place, write_count, others-numbered, others-pending, others_used, others_sound, others_length}
use Rattle.fragments.proofs.Laws.Numbers.{order_cases}
use Rattle.disc.proofs.Laws.Sound.{starts-rise, writable-within}
use Rattle.disc.specs.Rules.{at}
use Rattle.commands.proofs.Laws.Flush.{flush_none}
use Rattle.disc.proofs.Laws.Grow.{grown-used}
use Rattle.outcomes.proofs.Laws.Keep.{gather_grows, write_room}
use Rattle.commands.specs.Flush.{flush_count, flush_plan}
use Rattle.outcomes.proofs.Laws.Outcome.{outcome_ready, write-outcome}
use Rattle.outcomes.proofs.Laws.Accepts.{Takes, takes-accepted}

-- the fragment and its pending sectors after gathering
module _ (d : Disc) (number n : ℕ) (from : 1 ≤ number) (slot : number ≤ length d.fragments) where
  pub gathered-record : numbered (gather d number n) number ≡ grown_record ((pending_in d number + n) / 16) (numbered d number)
  unfolding gather
  gathered-record = grind (arith, get_or-set_same)

  pub gathered-pending : pending_in (gather d number n) number ≡ (pending_in d number + n) % 16
  unfolding gather
  gathered-pending = grind arith

-- two records that differ in what is recorded
grown_path : (f : Fragment) {a b : ℕ} → a ≡ b → ◌≡◌ {A = Fragment} (record { session = f.session; start = f.start; length = f.length; recorded = a; zeroed = f.zeroed; kind = f.kind }) (record { session = f.session; start = f.start; length = f.length; recorded = b; zeroed = f.zeroed; kind = f.kind })
grown_path f e = grind arith

-- sixteen by sixteen, in two steps or in one
mod_cut : (x m : ℕ) → (x % 16 + m) % 16 ≡ (x + m) % 16
mod_cut x m = omega arith

div_cut : (x m : ℕ) → x / 16 + (x % 16 + m) / 16 ≡ (x + m) / 16
div_cut x m = omega arith

-- gathering twice is gathering the sum
pub gather-gather :
    (d : Disc) (number n m : ℕ) → 1 ≤ number → number ≤ length d.fragments → gather (gather d number n) number m ≡ gather d number (n + m)
unfolding gather
gather-gather d number n m from slot =
    let p = pending_in d number in
    let e = gather d number n in
    let f = numbered d number in
    let g = grown_record ((p + n) / 16) f in
    let held = gathered-pending d number n from slot in
    let sum : p + n + m ≡ p + (n + m) = omega arith in
    let pending : (pending_in e number + m) % 16 ≡ (p + (n + m)) % 16 =
    ap (λ x. (x + m) % 16) held ∙ (mod_cut (p + n) m ∙ ap (λ x. x % 16) sum) in
    let blocks : (p + n) / 16 + (pending_in e number + m) / 16 ≡ (p + (n + m)) / 16 =
    ap (λ x. (p + n) / 16 + (x + m) / 16) held ∙ (div_cut (p + n) m ∙ ap (λ x. x / 16) sum) in
    let recorded : f.recorded + (p + n) / 16 + (pending_in e number + m) / 16 ≡ f.recorded + (p + (n + m)) / 16 = omega (arith, blocks) in
    let record-sum : grown_record ((pending_in e number + m) / 16) (numbered e number) ≡ grown_record ((p + (n + m)) / 16) f =
    ap (λ x. grown_record ((pending_in e number + m) / 16) x) (gathered-record d number n from slot) ∙ grown_path f recorded in
    let list = ap (λ x. set e.fragments (number - 1) x) record-sum ∙ set-set d.fragments (number - 1) g (grown_record ((p + (n + m)) / 16) f) in
    λ i.
    record {
      capacity = d.capacity;
      finalized = d.finalized;
      sense = d.sense;
      pending = pending i;
      owner = cond (eqb (pending i) 0) 0 number;
      fragments = list i;
    }

-- an accepted WRITE of 1 up, by what it takes
module _ (d : Disc) (a : Lba) (n : ℕ) (r : Ready d) (z : n ≡ 0 → ⊥) (t : Takes d a n) where
  takes-open : d.finalized ≡ false
  takes-open =
      let s = sound-rules d r.sound in
      let w = t.here in
      by_cases d.finalized
      (λ f. absurd (contradiction (s.closed f (t.number - 1) (omega (arith, w.from, w.listed))) w.incomplete))
      (λ f. f)

  pub write_done :
      write d a n
      ≡ accept d (gather (flush_others d t.number) t.number n) no_reply
      (plan (flush_others_plan d t.number) (Gather (first_unrecorded (numbered d t.number)) (pending_in d t.number) n))
  unfolding write write_found write_to
  write_done =
      cond_no (eqb n 0) _ _ (ne_eqb _ _ z)
      ∙ (cond_no d.finalized _ _ takes-open
      ∙ (ap (λ w. write_found d a n w) (takes-found d a t.number r t.here)
      ∙ cond_no (ltb (first_sector (end (numbered d t.number))).0 (a.0 + n)) _ _ (le-ltb _ _ t.fits)))

  pub write-disc : (write d a n).disc ≡ with_sense (gather (flush_others d t.number) t.number n) no_sense
  unfolding accept accepted
  write-disc = ap (λ (v : Verdict). v.disc) write_done

  pub write-recorded : (write d a n).recorded ≡ flush_others_count d t.number + (pending_in d t.number + n) / 16
  unfolding accept accepted
  write-recorded =
      ap (λ (v : Verdict). v.recorded) write_done
      ∙ write_count d t.number n r t.here.from (place d a t.number r t.here).slot

-- gathering leaves nobody else's sectors pending, so the next WRITE to the fragment flushes nothing
module _ (d : Disc) (number n : ℕ) (from : 1 ≤ number) where
  gathered-alone : flush_others (with_sense (gather d number n) no_sense) number ≡ with_sense (gather d number n) no_sense
  unfolding flush_others gather
  gathered-alone =
      let held = (pending_in d number + n) % 16 in
      by_cases (eqb held 0)
      (λ z.
      let other : eqb (cond (eqb held 0) 0 number) number ≡ false = rw z (ne_eqb 0 number (λ q. omega arith)) in
      cond_no (eqb (cond (eqb held 0) 0 number) number) _ _ other ∙ flush_none _ (eqb-true held 0 z))
      (λ z.
      let own : eqb (cond (eqb held 0) 0 number) number ≡ true = rw z (eq-eqb number number refl) in
      cond_yes (eqb (cond (eqb held 0) 0 number) number) _ _ own)

  gathered-plan : flush_others_plan (with_sense (gather d number n) no_sense) number ≡ None
  unfolding flush_others_plan flush_plan gather
  gathered-plan = grind arith

  gathered-count : flush_others_count (with_sense (gather d number n) no_sense) number ≡ 0
  unfolding flush_others_count flush_count gather
  gathered-count = grind arith

-- the plans of two parts of a WRITE and of the whole
pub record CutPlans (one two all : Plan) (n m : ℕ) : Type 0 where
  pub flush : Option Flush
  pub from : Block
  pub held : ℕ
  pub first : one ≡ plan flush (Gather from held n)
  pub second : two ≡ plan None (Gather (block (from.0 + (held + n) / 16)) ((held + n) % 16) m)
  pub whole : all ≡ plan flush (Gather from held (n + m))

-- the second part of a WRITE that was cut in two takes what is left
module _ (d : Disc) (a : Lba) (n m : ℕ) (r : Ready d) (z : n ≡ 0 → ⊥) (y : m ≡ 0 → ⊥) (t : Takes d a (n + m)) where
  pub first-takes : Takes d a n
  first-takes = grind arith

  -- the disc between the parts
  pub between : Disc
  between = with_sense (gather (flush_others d t.number) t.number n) no_sense

  second-takes : Takes between (lba (a.0 + n)) m
  unfolding between
  second-takes =
      let k = t.number in
      let w = t.here in
      let e = flush_others d k in
      let p = place d a k r w in
      let slot : k ≤ length e.fragments = omega (arith, others_length d k, (sound-rules d r.sound).array, p.slot) in
      let f = numbered d k in
      let same : numbered (gather e k n) k ≡ grown_record ((pending_in d k + n) / 16) f =
      gathered-record e k n w.from slot
      ∙ (ap (λ x. grown_record ((x + n) / 16) (numbered e k)) (others-pending d k r w.from)
      ∙ ap (λ x. grown_record ((pending_in d k + n) / 16) x) (others-numbered d k r w.from)) in
      let held : pending_in (gather e k n) k ≡ (pending_in d k + n) % 16 =
      gathered-pending e k n w.from slot ∙ ap (λ x. (x + n) % 16) (others-pending d k r w.from) in
      let some_left : 1 ≤ m = omega arith in
      record {
        number = k;
        here =
            record {
              from = w.from;
              listed =
                  omega (arith, w.listed, others_used d k r, grown-used e (gather e k n) (others_sound d k r) (gather_grows e k n (others_sound d k r) (write_room d a k n r w (omega (arith, t.fits)))));
              incomplete =
                  rw same
                  (ne_eqb (f.recorded + (pending_in d k + n) / 16) f.length (λ q. omega (arith, t.fits, w.here)));
              here = rw (same, held) (omega (arith, w.here));
            };
        fits = rw same (omega (arith, t.fits));
      }

  between_is : (write d a n).disc ≡ between
  unfolding between first-takes
  between_is = write-disc d a n r z first-takes

  between-ready : Ready between
  between-ready = rw between_is at (outcome_ready d (Write a n) (write d a n) r (write-outcome d a n r))

  sum-some : n + m ≡ 0 → ⊥
  sum-some e = z (omega arith)

  second-disc : (write between (lba (a.0 + n)) m).disc ≡ (write d a (n + m)).disc
  unfolding between gather second-takes
  second-disc =
      let k = t.number in
      let e = flush_others d k in
      let slot : k ≤ length e.fragments =
      omega (arith, others_length d k, (sound-rules d r.sound).array, (place d a k r t.here).slot) in
      write-disc between (lba (a.0 + n)) m between-ready y second-takes
      ∙ (ap (λ x. with_sense (gather x k m) no_sense) (gathered-alone e k n t.here.from)
      ∙ (ap (λ x. with_sense x no_sense) (gather-gather e k n m t.here.from slot) ∙ sym (write-disc d a (n + m) r sum-some t)))

  second-recorded : (write d a n).recorded + (write between (lba (a.0 + n)) m).recorded ≡ (write d a (n + m)).recorded
  unfolding between first-takes second-takes
  second-recorded =
      let k = t.number in
      let e = flush_others d k in
      let p = pending_in d k in
      let slot : k ≤ length e.fragments =
      omega (arith, others_length d k, (sound-rules d r.sound).array, (place d a k r t.here).slot) in
      let held : pending_in (gather e k n) k ≡ (p + n) % 16 =
      gathered-pending e k n t.here.from slot ∙ ap (λ x. (x + n) % 16) (others-pending d k r t.here.from) in
      let one = write-recorded d a n r z first-takes in
      let two = write-recorded between (lba (a.0 + n)) m between-ready y second-takes in
      let whole = write-recorded d a (n + m) r sum-some t in
      let none = gathered-count e k n t.here.from in
      let part : (pending_in (gather e k n) k + m) / 16 ≡ ((p + n) % 16 + m) / 16 = ap (λ x. (x + m) / 16) held in
      let sum : (p + n + m) / 16 ≡ (p + (n + m)) / 16 = ap (λ x. x / 16) (omega arith) in
      omega (arith, div_cut (p + n) m)

  -- the plans of the parts and of the whole: the second part gathers where the first left off and flushes nothing
  pub cut-plans : CutPlans (write d a n).plan (write (write d a n).disc (lba (a.0 + n)) m).plan (write d a (n + m)).plan n m
  unfolding between first-takes second-takes accept accepted
  cut-plans =
      let k = t.number in
      let w = t.here in
      let e = flush_others d k in
      let p = pending_in d k in
      let slot : k ≤ length e.fragments =
      omega (arith, others_length d k, (sound-rules d r.sound).array, (place d a k r w).slot) in
      let held : pending_in (gather e k n) k ≡ (p + n) % 16 =
      gathered-pending e k n w.from slot ∙ ap (λ x. (x + n) % 16) (others-pending d k r w.from) in
      let same : numbered (gather e k n) k ≡ grown_record ((p + n) / 16) (numbered d k) =
      gathered-record e k n w.from slot
      ∙ (ap (λ x. grown_record ((x + n) / 16) (numbered e k)) (others-pending d k r w.from)
      ∙ ap (λ x. grown_record ((p + n) / 16) x) (others-numbered d k r w.from)) in
      let here : first_unrecorded (numbered (gather e k n) k) ≡ block ((first_unrecorded (numbered d k)).0 + (p + n) / 16) =
      ap first_unrecorded same ∙ ap block (omega arith) in
      let one = ap (λ (v : Verdict). v.plan) (write_done d a n r z first-takes) in
      let two = ap (λ (v : Verdict). v.plan) (write_done between (lba (a.0 + n)) m between-ready y second-takes) in
      let whole = ap (λ (v : Verdict). v.plan) (write_done d a (n + m) r sum-some t) in
      let second : plan (flush_others_plan between k) (Gather (first_unrecorded (numbered between k)) (pending_in between k) m)
      ≡ plan None (Gather (block ((first_unrecorded (numbered d k)).0 + (p + n) / 16)) ((p + n) % 16) m) =
      ap (λ x. plan x (Gather (first_unrecorded (numbered between k)) (pending_in between k) m)) (gathered-plan e k n w.from)
      ∙ (ap (λ x. plan None (Gather x (pending_in between k) m)) here
      ∙ ap (λ x. plan None (Gather (block ((first_unrecorded (numbered d k)).0 + (p + n) / 16)) x m)) held) in
      record {
        flush = flush_others_plan d k;
        from = first_unrecorded (numbered d k);
        held = p;
        first = one;
        second = ap (λ x. (write x (lba (a.0 + n)) m).plan) between_is ∙ (two ∙ second);
        whole = whole;
      }

  -- a WRITE that is accepted whole is accepted in two parts, with the same disc afterwards and counts that add up
  pub cut-accepted :
      ((write d a n).answer ≡ Accepted)
      × ((write (write d a n).disc (lba (a.0 + n)) m).answer ≡ Accepted)
      × ((write (write d a n).disc (lba (a.0 + n)) m).disc ≡ (write d a (n + m)).disc)
      × ((write d a n).recorded + (write (write d a n).disc (lba (a.0 + n)) m).recorded ≡ (write d a (n + m)).recorded)
  cut-accepted = (
    takes-accepted d a n r first-takes,
    rw between_is (takes-accepted between (lba (a.0 + n)) m between-ready second-takes),
    rw between_is second-disc,
    rw between_is second-recorded,
  )

-- the fragment after an accepted WRITE to it
module _ (d : Disc) (a : Lba) (n : ℕ) (r : Ready d) (z : n ≡ 0 → ⊥) (t : Takes d a n) where
  after-record : numbered (write d a n).disc t.number ≡ grown_record ((pending_in d t.number + n) / 16) (numbered d t.number)
  after-record =
      let k = t.number in
      let w = t.here in
      let e = flush_others d k in
      let slot : k ≤ length e.fragments =
      omega (arith, others_length d k, (sound-rules d r.sound).array, (place d a k r w).slot) in
      ap (λ x. numbered x k) (write-disc d a n r z t)
      ∙ (gathered-record e k n w.from slot
      ∙ (ap (λ x. grown_record ((x + n) / 16) (numbered e k)) (others-pending d k r w.from)
      ∙ ap (λ x. grown_record ((pending_in d k + n) / 16) x) (others-numbered d k r w.from)))

  after-used : used (write d a n).disc ≡ used d
  after-used =
      let k = t.number in
      let e = flush_others d k in
      ap used (write-disc d a n r z t)
      ∙ (grown-used e (gather e k n) (others_sound d k r) (gather_grows e k n (others_sound d k r) (write_room d a k n r t.here t.fits))
      ∙ others_used d k r)

-- and two parts that are accepted one after the other are accepted whole
module _ (d : Disc) (a : Lba) (n m : ℕ) (r : Ready d) (z : n ≡ 0 → ⊥) (t : Takes d a n) where
  -- the fragment between the parts: it stands where it stood
  after-start : (numbered (write d a n).disc t.number).start.0 ≡ (numbered d t.number).start.0
  after-start =
      ap (λ f. f.start.0) (after-record d a n r z t)

  after-length : (numbered (write d a n).disc t.number).length ≡ (numbered d t.number).length
  after-length = ap (λ f. f.length) (after-record d a n r z t)

  pub parts-takes : Takes (write d a n).disc (lba (a.0 + n)) m → Takes d a (n + m)
  parts-takes u =
      let e = (write d a n).disc in
      let ready = outcome_ready d (Write a n) (write d a n) r (write-outcome d a n r) in
      let s = sound-rules e ready.sound in
      let w = t.here in
      let v = u.here in
      let i = t.number - 1 in
      let j = u.number - 1 in
      let listed : i < used e = omega (arith, w.from, w.listed, after-used d a n r z t) in
      let listed-too : j < used e = omega (arith, v.from, v.listed) in
      let number : suc j ≡ u.number = omega (arith, v.from) in
      let within = writable-within e s j listed-too v.incomplete in
      let here : (next_writable e (suc j) (at e j)).0 ≡ a.0 + n =
      ap (λ k. (next_writable e k (at e j)).0) number ∙ sym v.here in
      let same : j ≡ i =
      order_cases j i
      (λ h. absurd (omega (arith, starts-rise e s j i h listed, within.1, here, after-start, w.here)))
      (λ h. h)
      (λ h. absurd (omega (arith, starts-rise e s i j h listed-too, within.0, here, after-start, after-length, t.fits))) in
      let equal : u.number ≡ t.number = omega (arith, w.from, v.from) in
      record {
        number = t.number;
        here = w;
        fits = omega (arith, u.fits, ap (λ k. (first_sector (end (numbered e k))).0) equal, after-start, after-length);
      }
