-- What a WRITE computes with and what it records.
use Prim.Native.Nat.{ℕ, zero, suc, ◌+◌, ◌-◌, ◌/◌, ◌^◌, ◌≤◌, ◌<◌}
use mathlib.Core.Path.{◌≡◌, sym, ◌∙◌, ap}
use mathlib.Core.Bool.{Bool, true, not, ◌&&◌}
use mathlib.Core.List.{List, [], ◌∷◌}
use native.Mathlib.Omega.{arith}
use borrow.Author.Tests.{eq-eqb, ne_eqb, eqb-true, eqb-false, not-true}
use lib.Dec.{eqb}
use lib.ListN.{length, get_or}
use lib.Seq.{get_or-set_other}
use Rattle.commands.specs.Types.{Lba, Fragment, Disc, Some}
use Rattle.fragments.specs.Fragment.{unused_record, end, complete}
use Rattle.disc.specs.Records.{pending_in, next_writable, used, records, numbered, writable_at}
use Rattle.fragments.specs.Address.{first_sector}
use Rattle.fragments.specs.List.{limit, sum_recorded, find}
use Rattle.disc.specs.Ready.{Ready}
use Rattle.disc.specs.Verdict.{rise}
use Rattle.commands.specs.Flush.{flush, flush_count}
use Rattle.commands.specs.Write.{flush_others, flush_others_count, grown_record, gather, Gathering, Writable}
use Rattle.fragments.proofs.Laws.Bool.{and_left, and_right, and_both, by_cases, cond_yes, cond_no}
use Rattle.fragments.proofs.Laws.List.{listed_at, sum-set, find_hit}
use Rattle.disc.proofs.Laws.Rules.{sound-rules}
use Rattle.disc.proofs.Laws.Sound.{incomplete-room, pending-in-few, writable-once}
use Rattle.commands.proofs.Laws.Flush.{used-limit, owner, numbers, flush-sum, flush-length, flush-sound, flush-used, flush_pending}
use Rattle.disc.specs.Rules.{Sound}
use mathlib.Core.Logic.{◌⊎◌, inl, inr}

-- the fragment that the search for a next writable address finds
pub writable_found : (d : Disc) (a : Lba) (n : ℕ) → writable_at d a ≡ Some n → Writable d a n
writable_found d a n e =
    let p : ℕ → Fragment → Bool = λ k f. not (complete f) && eqb a.0 (next_writable d k f).0 in
    let h = find_hit p 1 n (records d) e in
    let index : n - 1 ≡ h.index = omega (arith, h.number) in
    let same : numbered d n ≡ get_or (records d) h.index unused_record =
    ap (λ i. get_or d.fragments i unused_record) index ∙ sym (listed_at d.fragments h.index unused_record h.within) in
    let t : p n (numbered d n) ≡ true = rw same h.passes in
    record {
      from = omega (arith, h.number);
      listed = omega (arith, h.number, h.within);
      incomplete = not-true _ (and_left (not (complete (numbered d n))) _ t);
      here = eqb-true _ _ (and_right (not (complete (numbered d n))) _ t);
    }

-- a search finds something where a record passes
found_number : (p : ℕ → Fragment → Bool) (k i : ℕ) (rs : List Fragment) → i < length rs → p (k + i) (get_or rs i unused_record) ≡ true → (m : ℕ) × (find p k rs ≡ Some m)
unfolding find
found_number p k i [] h t = absurd (omega arith)
found_number p k zero (f ∷ fs) h t = let same : k + 0 ≡ k = omega arith in (k, cond_yes (p k f) _ _ (rw same at t))
found_number p k (suc i) (f ∷ fs) h t =
    by_cases (p k f)
    (λ q. (k, cond_yes (p k f) _ _ q))
    (λ q.
    let same : k + suc i ≡ k + 1 + i = omega arith in
    let r = found_number p (k + 1) i fs (omega arith) (rw same at t) in
    (r.0, cond_no (p k f) _ _ q ∙ r.1))

-- the search finds that very fragment, since no two have the same next writable address
pub takes-found : (d : Disc) (a : Lba) (number : ℕ) → Ready d → Writable d a number → writable_at d a ≡ Some number
takes-found d a number r w =
    let s = sound-rules d r.sound in
    let p : ℕ → Fragment → Bool = λ k f. not (complete f) && eqb a.0 (next_writable d k f).0 in
    let i = number - 1 in
    let l : i < used d = omega (arith, w.from, w.listed) in
    let index : 1 + i ≡ number = omega (arith, w.from) in
    let same : get_or (records d) i unused_record ≡ numbered d number = listed_at d.fragments i unused_record l in
    let t : p (1 + i) (get_or (records d) i unused_record) ≡ true =
    rw (index, same) (and_both {a = not (complete (numbered d number))} (ap not w.incomplete) (eq-eqb _ _ w.here)) in
    let m = found_number p 1 i (records d) l t in
    let v = writable_found d a m.0 m.1 in
    let j = m.0 - 1 in
    let suc-i : suc i ≡ number = omega (arith, w.from) in
    let suc-j : suc j ≡ m.0 = omega (arith, v.from) in
    let once =
    writable-once d s i j l (omega (arith, v.from, v.listed)) w.incomplete v.incomplete
    (ap (λ k. (next_writable d k (numbered d number)).0) suc-i ∙ (sym w.here ∙ (v.here ∙ ap (λ k. (next_writable d k (numbered d m.0)).0) (sym suc-j)))) in
    let equal : m.0 ≡ number = omega (arith, w.from, v.from) in
    m.1 ∙ ap Some equal

-- flushing other fragments leaves a fragment and its pending sectors alone
module _ (d : Disc) (n : ℕ) (r : Ready d) (from : 1 ≤ n) where
  pub others-numbered : numbered (flush_others d n) n ≡ numbered d n
  unfolding flush_others flush
  others-numbered =
      by_cases (eqb d.owner n)
      (λ e. rw e)
      (λ e.
      by_cases (eqb d.pending 0)
      (λ z. rw (e, z))
      (λ z.
      let o = owner d r (eqb-false _ _ z) in
      let other = eqb-false d.owner n e in
      rw (e, z) (get_or-set_other d.fragments (d.owner - 1) (n - 1) _ unused_record (λ q. other (omega (arith, o.number))))))

  pub others-pending : pending_in (flush_others d n) n ≡ pending_in d n
  unfolding flush_others flush
  others-pending =
      by_cases (eqb d.owner n)
      (λ e. rw (e, e))
      (λ e. by_cases (eqb d.pending 0) (λ z. rw (e, z, e)) (λ z. rw (e, z, ne_eqb 0 n (λ q. omega arith))))

  pub others-sum : sum_recorded (flush_others d n).fragments ≡ sum_recorded d.fragments + flush_others_count d n
  unfolding flush_others flush_others_count
  others-sum = by_cases (eqb d.owner n) (λ e. rw e (omega arith)) (λ e. rw e (flush-sum d r))

pub others_length : (d : Disc) (n : ℕ) → length (flush_others d n).fragments ≡ length d.fragments
unfolding flush_others
others_length d n = by_cases (eqb d.owner n) (λ e. rw e) (λ e. rw e (flush-length d))

-- gathering records one block for each sixteen sectors
pub gather-sum :
    (d : Disc) (number n : ℕ) → 1 ≤ number → number ≤ length d.fragments
    → sum_recorded (gather d number n).fragments ≡ sum_recorded d.fragments + (pending_in d number + n) / 16
unfolding gather
gather-sum d number n from slot =
    let f = numbered d number in
    let k = sum-set d.fragments (number - 1) (grown_record ((pending_in d number + n) / 16) f) unused_record (omega arith) in
    omega arith

-- what is known of the fragment that a WRITE goes to
pub record Place (d : Disc) (a : Lba) (number : ℕ) : Type 0 where
  pub slot : number ≤ limit
  pub ends : (numbered d number).start.0 + (numbered d number).length ≤ 143444
  pub room : (numbered d number).recorded < (numbered d number).length
  pub few : pending_in d number < 16
  pub pending : d.pending < 16
  pub near : a.0 < 2 ^ 24

pub place : (d : Disc) (a : Lba) (number : ℕ) → Ready d → Writable d a number → Place d a number
place d a number r w =
    let s = sound-rules d r.sound in
    let m = numbers d number r w.from w.listed in
    let room = incomplete-room d s (number - 1) (omega (arith, w.from, w.listed)) w.incomplete in
    let few = pending-in-few d s number in
    record {
      slot = omega (arith, w.listed, used-limit d r);
      ends = m.ends;
      room = room;
      few = few;
      pending = s.few;
      near = omega (arith, m.ends, w.here);
    }

-- and what follows where the WRITE fits
pub record Fit (d : Disc) (number n : ℕ) : Type 0 where
  pub sectors : n < 2 ^ 22
  pub blocks : (numbered d number).recorded + (pending_in d number + n) / 16 ≤ (numbered d number).length

pub fit :
    (d : Disc) (a : Lba) (number n : ℕ) → Place d a number → Writable d a number → a.0 + n ≤ (first_sector (end (numbered d number))).0
    → Fit d number n
fit d a number n p w h =
    record { sectors = omega (arith, p.ends, p.few); blocks = omega (arith, w.here, p.few) }

pub gathering :
    (d : Disc) (a : Lba) (number n : ℕ) → Ready d → Writable d a number
    → a.0 + n ≤ (first_sector (end (numbered d number))).0 → Gathering d number n
gathering d a number n r w h =
    let p = place d a number r w in
    let f = fit d a number n p w h in
    record {
      from = w.from;
      to = p.slot;
      sectors = omega (arith, f.sectors);
      pending = p.pending;
      blocks = omega (arith, f.blocks, p.ends);
    }

-- the count of an accepted WRITE
pub write_count :
    (d : Disc) (number n : ℕ) → Ready d → 1 ≤ number → number ≤ limit
    → rise d (gather (flush_others d number) number n) ≡ flush_others_count d number + (pending_in d number + n) / 16
write_count d number n r from slot =
    let e = flush_others d number in
    let g = gather-sum e number n from (rw (others_length d number, (sound-rules d r.sound).array) slot) in
    let p = others-pending d number r from in
    let q : (pending_in e number + n) / 16 ≡ (pending_in d number + n) / 16 = ap (λ k. (k + n) / 16) p in
    omega (arith, others-sum d number r from)

-- a flush records one block at the most
pub flush_count_most : (d : Disc) → flush_count d ≤ 1
unfolding flush_count
flush_count_most d = by_cases (eqb d.pending 0) (λ z. rw z (omega arith)) (λ z. rw z (omega arith))

pub others_count_most : (d : Disc) (n : ℕ) → flush_others_count d n ≤ 1
unfolding flush_others_count
others_count_most d n = by_cases (eqb d.owner n) (λ e. rw e (omega arith)) (λ e. rw e (flush_count_most d))

pub others_sound : (d : Disc) (n : ℕ) → Ready d → Sound (flush_others d n)
unfolding flush_others
others_sound d n r = by_cases (eqb d.owner n) (λ e. rw e (sound-rules d r.sound)) (λ e. rw e (flush-sound d r))

pub others_used : (d : Disc) (n : ℕ) → Ready d → used (flush_others d n) ≡ used d
unfolding flush_others
others_used d n r = by_cases (eqb d.owner n) (λ e. rw e) (λ e. rw e (flush-used d r))

pub others_alone : (d : Disc) (n : ℕ) → ((flush_others d n).pending ≡ 0) ⊎ ((flush_others d n).owner ≡ n)
unfolding flush_others
others_alone d n = by_cases (eqb d.owner n) (λ e. rw e (inr (eqb-true _ _ e))) (λ e. rw e (inl (flush_pending d)))
