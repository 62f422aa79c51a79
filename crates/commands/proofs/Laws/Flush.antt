-- What a flush computes with, what it records, and that it keeps a list sound.
use Prim.Native.Nat.{ℕ, ◌+◌, ◌-◌, ◌*◌, ◌≤◌, ◌<◌}
use mathlib.Core.Path.{refl, ◌≡◌, ◌∙◌, ap}
use mathlib.Core.Bool.{false}
use native.Mathlib.Omega.{arith}
use borrow.Author.Tests.{eq-eqb, ne_eqb, eqb-true, eqb-false}
use lib.Dec.{eqb}
use lib.ListN.{length, length-set}
use lib.Seq.{get_or-set_same}
use Rattle.commands.specs.Types.{Fragment, Disc}
use Rattle.fragments.specs.Fragment.{unused_record}
use Rattle.disc.specs.Records.{pending_in, is_blank, used, numbered}
use Rattle.fragments.specs.List.{limit, sum_recorded}
use Rattle.disc.specs.Ready.{Ready}
use Rattle.disc.specs.Rules.{Sound}
use Rattle.commands.specs.Flush.{flushed_record, flush, flush_count}
use Rattle.disc.specs.Verdict.{rise}
use Rattle.fragments.proofs.Laws.Bool.{and_both, contradiction, by_cases, cond_yes, cond_no}
use Rattle.fragments.proofs.Laws.List.{listed_le, sum-set}
use Rattle.disc.proofs.Laws.Rules.{sound-rules, rules-sound}
use Rattle.disc.proofs.Laws.Sound.{used_most, incomplete-room}
use Rattle.disc.proofs.Laws.Grow.{GrownRecord, Grown, set_grown, same_grown, grown-used, grown-sound}
use Rattle.disc.proofs.Laws.Blank.{range_most}

pub used-limit : (d : Disc) → Ready d → used d ≤ limit
used-limit d r = used_most d (sound-rules d r.sound)

-- the numbers of a record in use
pub record Numbers (d : Disc) (n : ℕ) : Type 0 where
  pub ends : (numbered d n).start.0 + (numbered d n).length ≤ 143444
  pub recorded : (numbered d n).recorded ≤ (numbered d n).length
  pub zeroed : (numbered d n).zeroed ≤ 16 * (numbered d n).recorded

pub numbers : (d : Disc) (n : ℕ) → Ready d → 1 ≤ n → n ≤ used d → Numbers d n
numbers d n r o l =
    let s = sound-rules d r.sound in
    let ends = s.ends (n - 1) (omega arith) in
    record {
      ends = omega (arith, range_most d.capacity r.range);
      recorded = s.recorded (n - 1) (omega arith);
      zeroed = s.zeroed (n - 1) (omega arith);
    }

-- the record that the pending sectors name
pub record Owner (d : Disc) : Type 0 where
  pub number : 1 ≤ d.owner
  pub listed : d.owner ≤ used d
  pub slot : d.owner ≤ limit
  pub few : d.pending < 16
  pub room : (numbered d d.owner).recorded < (numbered d d.owner).length
  pub fits : Numbers d d.owner

pub owner : (d : Disc) → Ready d → (d.pending ≡ 0 → ⊥) → Owner d
owner d r n =
    let s = sound-rules d r.sound in
    let o = s.owned n in
    let l = listed_le d.fragments in
    record {
      number = o.number;
      listed = o.listed;
      slot = omega (arith, o.listed, s.array);
      few = s.few;
      room = incomplete-room d s (d.owner - 1) (omega (arith, o.number, o.listed)) o.incomplete;
      fits = numbers d d.owner r o.number o.listed;
    }

-- a flush records a block if sectors are pending
pub flush-sum : (d : Disc) → Ready d → sum_recorded (flush d).fragments ≡ sum_recorded d.fragments + flush_count d
unfolding flush flush_count
flush-sum d r =
    by_cases (eqb d.pending 0)
    (λ z. rw z (omega arith))
    (λ z.
    let o = owner d r (eqb-false _ _ z) in
    let f = numbered d d.owner in
    let k = sum-set d.fragments (d.owner - 1) (flushed_record d.pending f) unused_record (omega (arith, o.slot, o.number, (sound-rules d r.sound).array)) in
    rw z (omega arith))

pub rise-flush : (d : Disc) → Ready d → rise d (flush d) ≡ flush_count d
rise-flush d r = omega (arith, flush-sum d r)

pub flush-length : (d : Disc) → length (flush d).fragments ≡ length d.fragments
unfolding flush
flush-length d = by_cases (eqb d.pending 0) (λ z. rw z) (λ z. rw z (simp length-set))

-- nothing recorded, nothing counted
pub rise_same : (d : Disc) → rise d d ≡ 0
rise_same d = omega arith

-- a flush keeps a list sound and the capacity
flush_grown : (n : ℕ) (f : Fragment) → n < 16 → f.recorded < f.length → f.zeroed ≤ 16 * f.recorded → GrownRecord f (flushed_record n f)
flush_grown n f few room z =
    record {
      session = refl;
      start = refl;
      size = refl;
      kind = refl;
      more = omega arith;
      recorded = omega arith;
      zeroed = omega arith;
    }

pub flush_grows : (d : Disc) → Ready d → Grown d (flush d)
unfolding flush
flush_grows d r =
    let s = sound-rules d r.sound in
    by_cases (eqb d.pending 0)
    (λ z. rw z (same_grown d s))
    (λ z.
    let o = owner d r (eqb-false d.pending 0 z) in
    let f = numbered d d.owner in
    rw z
    (set_grown d _ (d.owner - 1) (flushed_record d.pending f) s (omega (arith, o.number, o.listed)) refl refl refl
    (flush_grown d.pending f o.few o.room o.fits.zeroed)))

pub flush_pending : (d : Disc) → (flush d).pending ≡ 0
unfolding flush
flush_pending d = by_cases (eqb d.pending 0) (λ z. rw z (eqb-true _ _ z)) (λ z. rw z)

pub flush_owner : (d : Disc) → Ready d → (flush d).owner ≡ 0
unfolding flush
flush_owner d r =
    by_cases (eqb d.pending 0) (λ z. rw z ((sound-rules d r.sound).none (eqb-true _ _ z))) (λ z. rw z)

pub flush-sound : (d : Disc) → Ready d → Sound (flush d)
flush-sound d r =
    let p = flush_pending d in
    grown-sound d (flush d) (sound-rules d r.sound) (flush_grows d r)
    (omega arith)
    (λ q. flush_owner d r)
    (λ q. absurd (q p))
    (λ q. p)

pub flush-used : (d : Disc) → Ready d → used (flush d) ≡ used d
flush-used d r = grown-used d (flush d) (sound-rules d r.sound) (flush_grows d r)

pub flush_capacity : (d : Disc) → (flush d).capacity ≡ d.capacity
unfolding flush
flush_capacity d = by_cases (eqb d.pending 0) (λ z. rw z) (λ z. rw z)

pub flush-finalized : (d : Disc) → (flush d).finalized ≡ d.finalized
unfolding flush
flush-finalized d = by_cases (eqb d.pending 0) (λ z. rw z) (λ z. rw z)

pub flush_ready : (d : Disc) → Ready d → Ready (flush d)
flush_ready d r =
    record { sound = rules-sound (flush d) (flush-sound d r); range = rw (flush_capacity d) r.range }

-- the numbers of a record in use after the flush
pub flushed-numbers : (d : Disc) (n : ℕ) → Ready d → (1 ≤ n) × (n ≤ used (flush d)) → Numbers (flush d) n
flushed-numbers d n r l = numbers (flush d) n (flush_ready d r) l.0 l.1

-- nothing pending, nothing flushed
pub flush_none : (d : Disc) → d.pending ≡ 0 → flush d ≡ d
unfolding flush
flush_none d z = cond_yes (eqb d.pending 0) _ _ (eq-eqb _ _ z)

-- the block that is flushed is recorded
pub flush-records : (d : Disc) → Ready d → (d.pending ≡ 0 → ⊥) → (numbered (flush d) d.owner).recorded ≡ (numbered d d.owner).recorded + 1
unfolding flush
flush-records d r z =
    let o = owner d r z in
    let slot : d.owner - 1 < length d.fragments = omega (arith, o.slot, o.number, (sound-rules d r.sound).array) in
    rw (ne_eqb d.pending 0 z)
    (ap (λ f. f.recorded) (get_or-set_same d.fragments (d.owner - 1) (flushed_record d.pending (numbered d d.owner)) unused_record slot))

-- a fragment that is not blank has a block recorded after a flush
pub flush-written : (d : Disc) (n : ℕ) → Ready d → is_blank d n (numbered d n) ≡ false → (numbered (flush d) n).recorded ≡ 0 → ⊥
flush-written d n r b w =
    let more = (flush_grows d r).more (n - 1) in
    let before : (numbered d n).recorded ≡ 0 = omega arith in
    by_cases (eqb (pending_in d n) 0)
    (λ z. contradiction (and_both (eq-eqb _ _ before) z) b)
    (λ z.
    by_cases (eqb d.owner n)
    (λ e.
    let same = eqb-true d.owner n e in
    let some-pending : d.pending ≡ 0 → ⊥ = λ q. eqb-false _ _ z (cond_yes (eqb d.owner n) d.pending 0 e ∙ q) in
    omega (arith, flush-records d r some-pending, ap (λ m. (numbered (flush d) m).recorded) same))
    (λ e. eqb-false _ _ z (cond_no (eqb d.owner n) d.pending 0 e)))
