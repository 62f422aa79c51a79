-- For the reader: when a WRITE and when a READ is accepted. When CLOSE 001 opens a new tail is said by `new-tail` of Keep; what 010 and 110 keep and
-- drop by `kept-blank`, `kept-tail` and `kept_same` of Session of `commands`, and what they make of it by `session-done` and `finalize-done`.
use Prim.Native.Nat.{ℕ, ◌+◌, ◌-◌, ◌≤◌, ◌<◌, ◌/◌}
use mathlib.Core.Path.{◌≡◌, refl, ap}
use mathlib.Core.Bool.{true}
use native.Mathlib.Omega.{arith}
use borrow.Author.Tests.{le-ltb, ltb-false}
use lib.Dec.{eqb, ltb}
use Rattle.outcomes.specs.Types.{Lba, Disc, Option, Some, None, Verdict, Accepted, Drive, EndOfUserArea}
use Rattle.fragments.specs.Address.{first_sector, lba, sectors_in}
use Rattle.fragments.specs.Fragment.{end}
use Rattle.disc.specs.Records.{pending_in, numbered, writable_at, is_readable}
use Rattle.disc.specs.Ready.{Ready}
use Rattle.decisions.specs.Plan.{plan}
use Rattle.disc.specs.Verdict.{accepted, accept, refuse}
use Rattle.protocol.specs.Reply.{no_reply}
use Rattle.commands.specs.Read.{sending, read}
use Rattle.commands.specs.Write.{flush_others_count, Writable, write_to, write_found, write}
use Rattle.fragments.proofs.Laws.Bool.{by_cases, cond_cases, contradiction}
use Rattle.disc.proofs.Laws.Rules.{sound-rules}
use Rattle.commands.proofs.Laws.Write.{writable_found, takes-found, place, write_count, flush_count_most}
use Rattle.commands.proofs.Laws.Read.{all_readable-at, at-all_readable, read-sent}

-- a WRITE of n at an address: the address is the next writable one of an incomplete fragment, and n sectors fit there
pub record Takes (d : Disc) (a : Lba) (n : ℕ) : Type 0 where
  pub number : ℕ
  pub here : Writable d a number
  pub fits : a.0 + n ≤ (first_sector (end (numbered d number))).0

-- accepted exactly when
pub takes-accepted : (d : Disc) (a : Lba) (n : ℕ) → Ready d → Takes d a n → (write d a n).answer ≡ Accepted
unfolding write write_found write_to accept accepted
takes-accepted d a n r t =
    let s = sound-rules d r.sound in
    let w = t.here in
    cond_cases (λ (v : Verdict). v.answer ≡ Accepted) (eqb n 0) _ _ (λ e. refl)
    (λ e.
    cond_cases (λ (v : Verdict). v.answer ≡ Accepted) d.finalized _ _
    (λ f. absurd (contradiction (s.closed f (t.number - 1) (omega (arith, w.from, w.listed))) w.incomplete))
    (λ f.
    rw (takes-found d a t.number r w)
    (cond_cases (λ (v : Verdict). v.answer ≡ Accepted) (ltb (first_sector (end (numbered d t.number))).0 (a.0 + n)) _ _
    (λ h. absurd (contradiction h (le-ltb _ _ t.fits)))
    (λ h. refl))))

found-takes : (d : Disc) (a : Lba) (n : ℕ) (w : Option ℕ) → writable_at d a ≡ w → (write_found d a n w).answer ≡ Accepted → Takes d a n
unfolding write_found write_to accept accepted refuse
found-takes d a n (Some number) e h =
    by_cases (ltb (first_sector (end (numbered d number))).0 (a.0 + n))
    (λ t. absurd (let k : Drive EndOfUserArea ≡ Accepted = rw t at h in let z : ◌≡◌ {A = ℕ} 0 1 = cc in omega arith))
    (λ t. record { number = number; here = writable_found d a number e; fits = ltb-false _ _ t })
found-takes d a n None e h = absurd (let z : ◌≡◌ {A = ℕ} 0 1 = cc in omega arith)

pub write-takes : (d : Disc) (a : Lba) (n : ℕ) → (n ≡ 0 → ⊥) → (write d a n).answer ≡ Accepted → Takes d a n
unfolding write refuse
write-takes d a n z e = grind (arith, found-takes)

-- a READ of 1 up within the disc is accepted exactly when every sector touched is readable
pub read_done :
    (d : Disc) (a : Lba) (n : ℕ) → (n ≡ 0 → ⊥) → a.0 + n ≤ sectors_in d.capacity
    → ((k : ℕ) → k < n → is_readable d (lba (a.0 + k)) ≡ true) → read d a n ≡ accept d d no_reply (plan None (sending d a n))
read_done d a n z h r = read-sent d a n z h (at-all_readable d a n r)

pub read-accepted :
    (d : Disc) (a : Lba) (n : ℕ) → (n ≡ 0 → ⊥) → a.0 + n ≤ sectors_in d.capacity
    → ((k : ℕ) → k < n → is_readable d (lba (a.0 + k)) ≡ true) → (read d a n).answer ≡ Accepted
unfolding read accept accepted
read-accepted d a n z h r = ap (λ (v : Verdict). v.answer) (read_done d a n z h r)

pub accepted-read :
    (d : Disc) (a : Lba) (n : ℕ) → (n ≡ 0 → ⊥) → (read d a n).answer ≡ Accepted
    → (a.0 + n ≤ sectors_in d.capacity) × ((k : ℕ) → k < n → is_readable d (lba (a.0 + k)) ≡ true)
unfolding read refuse
accepted-read d a n z e = grind (arith, all_readable-at)

-- a WRITE of n records at most 1 + n/16 blocks
gathered_most :
    (d : Disc) (number n : ℕ) → Ready d → flush_others_count d number + (pending_in d number + n) / 16 ≤ 1 + n / 16
unfolding flush_others_count
gathered_most d number n r =
    let s = sound-rules d r.sound in
    by_cases (eqb d.owner number)
    (λ e. rw e (omega (arith, s.few)))
    (λ e. rw e (omega (arith, flush_count_most d)))

found_most : (d : Disc) (a : Lba) (n : ℕ) → Ready d → (w : Option ℕ) → writable_at d a ≡ w → (write_found d a n w).recorded ≤ 1 + n / 16
unfolding write_found write_to accept accepted refuse
found_most d a n r (Some number) e =
    let w = writable_found d a number e in
    cond_cases (λ (v : Verdict). v.recorded ≤ 1 + n / 16) (ltb (first_sector (end (numbered d number))).0 (a.0 + n)) _ _
    (λ h. omega arith)
    (λ h. rw (write_count d number n r w.from (place d a number r w).slot) (gathered_most d number n r))
found_most d a n r None e = omega arith

pub write_most : (d : Disc) (a : Lba) (n : ℕ) → Ready d → (write d a n).recorded ≤ 1 + n / 16
unfolding write accept accepted refuse
write_most d a n r = grind (arith, found_most)

-- an accepted READ of 1 up sends its sectors
pub read_sends : (d : Disc) (a : Lba) (n : ℕ) → (read d a n).answer ≡ Accepted → (n ≡ 0 → ⊥) → (read d a n).plan.transfer ≡ sending d a n
unfolding accept accepted
read_sends d a n e z = grind (arith, accepted-read, read_done)
