-- What RESERVE computes with, its outcomes, and that it records nothing.
use Prim.Native.Nat.{ℕ, ◌+◌, ◌-◌, ◌≤◌, ◌<◌}
use mathlib.Core.Path.{◌≡◌, ◌∙◌, ap}
use mathlib.Core.Bool.{true, false, not}
use native.Mathlib.Omega.{arith}
use borrow.Author.Tests.{eqb-true, eqb-false, eq-eqb, ne_eqb, le-leb, lt-leb, leb-false, not-false}
use lib.Dec.{eqb, leb}
use lib.ListN.{get_or, set, length-set}
use lib.Seq.{get_or-set_other}
use Rattle.commands.specs.Types.{Fragment, Disc, Verdict, DriveRefusal, WriteProtected, InvalidFieldInCommand, NoMoreReservations, EndOfUserArea}
use Rattle.fragments.specs.Fragment.{unused_record, end, next_fragment_start, tail_from, reserved_at}
use Rattle.disc.specs.Records.{pending_in, is_blank, used, last_record, with_record, has_tail, has_blank_tail}
use Rattle.fragments.specs.List.{limit, sum_recorded}
use Rattle.disc.specs.Ready.{Ready}
use Rattle.disc.specs.Rules.{Sound}
use Rattle.decisions.specs.Plan.{no_plan}
use Rattle.disc.specs.Verdict.{rise, accepted, accept, refuse}
use Rattle.protocol.specs.Reply.{no_reply}
use Rattle.fragments.specs.Address.{whole_blocks, left_over}
use Rattle.commands.specs.Reserve.{Splitting, split_tail, invalid_size, reserve}
use Rattle.fragments.proofs.Laws.Bool.{and_left, and_right, cond_no, cond_cases, or_false_left, or_false_right}
use Rattle.fragments.proofs.Laws.List.{listed_le, sum-set}
use Rattle.fragments.proofs.Laws.Numbers.{below_limit}
use Rattle.disc.proofs.Laws.Rules.{sound-rules}
use Rattle.disc.proofs.Laws.Verdict.{accept_count}
use Rattle.commands.proofs.Laws.Flush.{used-limit}

-- a blank tail has no block recorded
pub blank_recorded : (d : Disc) → has_blank_tail d ≡ true → (last_record d).recorded ≡ 0
blank_recorded d b =
    eqb-true _ _
    (and_left (eqb (last_record d).recorded 0) (eqb (pending_in d (used d)) 0) (and_right (has_tail d) (is_blank d (used d) (last_record d)) b))

-- the sum of recorded blocks where the last record is changed, and where one is put after it
pub last_sum :
    (d : Disc) (g : Fragment) → Sound d → sum_recorded (with_record d (used d) g).fragments + (last_record d).recorded ≡ sum_recorded d.fragments + g.recorded
last_sum d g s = sum-set d.fragments (used d - 1) g unused_record (omega (arith, s.some, s.array, listed_le d.fragments))

pub split_sum : (d : Disc) (b : ℕ) → Sound d → has_blank_tail d ≡ true → used d < limit → sum_recorded (split_tail d b).fragments ≡ sum_recorded d.fragments
unfolding split_tail
split_sum d b s t h =
    let n = used d in
    let f = reserved_at (last_record d) b in
    let g = tail_from d.capacity f.session (next_fragment_start (end f)) in
    let fs = set d.fragments (n - 1) f in
    let next-index : n + 1 - 1 ≡ n = omega arith in
    let len = length-set d.fragments (n - 1) f in
    let free : (get_or fs n unused_record).recorded ≡ 0 =
    ap (λ r. r.recorded) (get_or-set_other d.fragments (n - 1) n f unused_record (λ e. omega (arith, s.some)) ∙ s.unused n (omega arith)) in
    let first = last_sum d f s in
    let second = sum-set fs n g unused_record (omega (arith, s.array)) in
    rw next-index (omega (arith, blank_recorded d t))

-- the outcomes of RESERVE after its first tests
module _ (d : Disc) (size : ℕ) (f : d.finalized ≡ false) (z : invalid_size size ≡ false) (b : has_blank_tail d ≡ true) where
  pub reserve-full : used d ≡ limit → reserve d size ≡ refuse d NoMoreReservations
  unfolding reserve
  reserve-full u = rw (f, z, b, eq-eqb _ _ u)

  module _ (u : used d ≡ limit → ⊥) where
    pub reserve-past :
        d.capacity ≤ (next_fragment_start (end (reserved_at (last_record d) (whole_blocks size)))).0 → reserve d size ≡ refuse d EndOfUserArea
    unfolding reserve
    reserve-past h = rw (f, z, b, ne_eqb _ _ u, le-leb _ _ h)

    pub reserve-done :
        Sound d → (next_fragment_start (end (reserved_at (last_record d) (whole_blocks size)))).0 < d.capacity
        → reserve d size ≡ accepted (split_tail d (whole_blocks size)) 0 no_reply no_plan
    unfolding reserve
    reserve-done s h =
        let few : used d < limit = omega (arith, s.array, listed_le d.fragments) in
        let none : rise d (split_tail d (whole_blocks size)) ≡ 0 = omega (arith, split_sum d (whole_blocks size) s b few) in
        cond_no d.finalized _ _ f
        ∙ (cond_no (invalid_size size) _ _ z
        ∙ (cond_no (not (has_blank_tail d)) _ _ (ap not b)
        ∙ (cond_no (eqb (used d) limit) _ _ (ne_eqb _ _ u)
        ∙ (cond_no (leb d.capacity (next_fragment_start (end (reserved_at (last_record d) (whole_blocks size)))).0) _ _ (lt-leb _ _ h)
        ∙ accept_count d (split_tail d (whole_blocks size)) no_reply no_plan 0 none))))

-- a size that is not refused has a block
blocks_some : (size : ℕ) → invalid_size size ≡ false → 1 ≤ whole_blocks size
blocks_some size z =
    let some : size ≡ 0 → ⊥ = eqb-false size 0 (or_false_left (eqb size 0) (not (eqb (left_over size) 0)) z) in
    let whole : left_over size ≡ 0 = eqb-true _ _ (not-false _ (or_false_right (eqb size 0) (not (eqb (left_over size) 0)) z)) in
    omega arith

-- what the code that splits asks is there after RESERVE's tests
pub splitting :
    (d : Disc) (b : ℕ) → Ready d → (used d ≡ limit → ⊥) → (next_fragment_start (end (reserved_at (last_record d) b))).0 < d.capacity → Splitting d b
splitting d b r u h = record { from = (sound-rules d r.sound).some; free = below_limit (used-limit d r) u; start = h }

-- what holds of every refusal, and of the tail split where it can be, holds of RESERVE
pub reserve_cases {ℓ} :
    (P : Verdict → Type ℓ) (d : Disc) (size : ℕ) → Ready d → ((x : DriveRefusal) → P (refuse d x))
    → ((b : ℕ) → 1 ≤ b → d.finalized ≡ false → has_blank_tail d ≡ true → Splitting d b → P (accept d (split_tail d b) no_reply no_plan))
    → P (reserve d size)
unfolding reserve
reserve_cases P d size r refused split =
    let b = whole_blocks size in
    cond_cases P d.finalized _ _ (λ f. refused WriteProtected)
    (λ f.
    cond_cases P (invalid_size size) _ _ (λ z. refused InvalidFieldInCommand)
    (λ z.
    cond_cases P (not (has_blank_tail d)) _ _ (λ t. refused NoMoreReservations)
    (λ t.
    cond_cases P (eqb (used d) limit) _ _ (λ u. refused NoMoreReservations)
    (λ u.
    cond_cases P (leb d.capacity (next_fragment_start (end (reserved_at (last_record d) b))).0) _ _ (λ h. refused EndOfUserArea)
    (λ h.
    split b (blocks_some size z) f (not-false _ t) (splitting d b r (eqb-false _ _ u) (leb-false _ _ h)))))))
