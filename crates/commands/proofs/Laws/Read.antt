-- A run of readable sectors lies in one fragment, its recorded sectors first; what a READ of it sends.
use Prim.Native.Nat.{ℕ, zero, suc, ◌+◌, ◌-◌, ◌≤◌, ◌<◌}
use mathlib.Core.Path.{◌≡◌, refl, sym, ◌∙◌, ap}
use mathlib.Core.Bool.{true, false}
use native.Mathlib.Omega.{arith}
use borrow.Author.Tests.{ltb-true, ltb-false, lt-ltb, le-ltb, ne_eqb, eqb-false}
use lib.Dec.{eqb, ltb}
use Rattle.commands.specs.Types.{Lba, Disc, Option, Some, None, DriveRefusal, AddressOutOfRange, BlankCheck, Transfer, Send, Verdict}
use Rattle.fragments.specs.Address.{lba, sectors_in, left_over, first_sector, passes, sectors_before}
use Rattle.fragments.specs.Fragment.{first_unrecorded}
use Rattle.fragments.specs.List.{reach_found}
use Rattle.disc.specs.Records.{next_writable, used, numbered, at_address, reach_around, is_recorded, is_readable}
use Rattle.disc.specs.Rules.{at, Sound}
use Rattle.decisions.specs.Plan.{no_plan, plan}
use Rattle.disc.specs.Verdict.{accept, refuse}
use Rattle.protocol.specs.Reply.{no_reply}
use Rattle.commands.specs.Read.{all_readable, medium_share, sending, read}
use Rattle.fragments.proofs.Laws.Bool.{and_left, and_right, and_both, by_cases, cond_yes, cond_no, cond_cases}
use Rattle.fragments.proofs.Laws.Numbers.{order_cases, equal_cases}
use Rattle.disc.proofs.Laws.Sound.{starts-rise, other_pending, own_pending, pending-in-few}
use Rattle.disc.proofs.Laws.Readable.{reach, reach-within, readable_cases, at-readable, Located, located, located-index, located-recorded, nowhere-unreadable}

-- every sector of a run, by its place in the run and back
pub all_readable-at :
    (d : Disc) (a : Lba) (n : ℕ) → all_readable d a n ≡ true → (k : ℕ) → k < n → is_readable d (lba (a.0 + k)) ≡ true
unfolding all_readable
all_readable-at d a zero e k h = absurd (omega arith)
all_readable-at d a (suc n) e zero h =
    let z : a.0 + 0 ≡ a.0 = omega arith in
    rw z (and_left (is_readable d a) (all_readable d (lba (a.0 + 1)) n) e)
all_readable-at d a (suc n) e (suc k) h =
    let z : a.0 + suc k ≡ a.0 + 1 + k = omega arith in
    rw z (all_readable-at d (lba (a.0 + 1)) n (and_right (is_readable d a) (all_readable d (lba (a.0 + 1)) n) e) k (omega arith))

pub at-all_readable :
    (d : Disc) (a : Lba) (n : ℕ) → ((k : ℕ) → k < n → is_readable d (lba (a.0 + k)) ≡ true) → all_readable d a n ≡ true
unfolding all_readable
at-all_readable d a zero h = refl
at-all_readable d a (suc n) h =
    let z : a.0 + 0 ≡ a.0 = omega arith in
    and_both (rw z at (h 0 (omega arith)))
    (at-all_readable d (lba (a.0 + 1)) n
    (λ k l. let y : a.0 + 1 + k ≡ a.0 + suc k = omega arith in rw y (h (suc k) (omega arith))))

-- the medium's share is m where the first m sectors of the run are recorded, and the next one, if there is one, is not
share_is :
    (d : Disc) (a : Lba) (n m : ℕ) → m ≤ n → ((k : ℕ) → k < m → is_recorded d (lba (a.0 + k)) ≡ true)
    → (m < n → is_recorded d (lba (a.0 + m)) ≡ false) → medium_share d a n ≡ m
unfolding medium_share
share_is d a zero m h yes-below no-at = omega arith
share_is d a (suc n) zero h yes-below no-at =
    let z : a.0 + 0 ≡ a.0 = omega arith in
    cond_no (is_recorded d a) (1 + medium_share d (lba (a.0 + 1)) n) 0 (rw z at (no-at (omega arith)))
share_is d a (suc n) (suc m) h yes-below no-at =
    let z : a.0 + 0 ≡ a.0 = omega arith in
    let rest =
    share_is d (lba (a.0 + 1)) n m (omega arith)
    (λ k l. let y : a.0 + 1 + k ≡ a.0 + suc k = omega arith in rw y (yes-below (suc k) (omega arith)))
    (λ l. let y : a.0 + 1 + m ≡ a.0 + suc m = omega arith in rw y (no-at (omega arith))) in
    cond_yes (is_recorded d a) (1 + medium_share d (lba (a.0 + 1)) n) 0 (rw z at (yes-below 0 (omega arith))) ∙ omega (arith, rest)

pub share_recorded : (d : Disc) (a : Lba) (n k : ℕ) → k < medium_share d a n → is_recorded d (lba (a.0 + k)) ≡ true
unfolding medium_share
share_recorded d a zero k h = absurd (omega arith)
share_recorded d a (suc n) zero h =
    let z : a.0 + 0 ≡ a.0 = omega arith in
    by_cases (is_recorded d a) (λ t. rw z t) (λ t. absurd (let l : 0 < 0 = rw t at h in omega arith))
share_recorded d a (suc n) (suc k) h =
    let y : a.0 + suc k ≡ a.0 + 1 + k = omega arith in
    by_cases (is_recorded d a)
    (λ t.
    let l : suc k < 1 + medium_share d (lba (a.0 + 1)) n = rw t at h in
    rw y (share_recorded d (lba (a.0 + 1)) n k (omega (arith, l))))
    (λ t. absurd (let l : suc k < 0 = rw t at h in omega arith))

-- what the code sends of a run, from where its recorded sectors end
abbrev sending_before : Lba → ℕ → Lba → Transfer
sending_before a n end = let m = sectors_before a n end in Send a m (left_over (a.0 + m)) (n - m)

-- what is sent of a readable run: recorded sectors of the medium, then sectors of the pending buffer below the pending count, each the one
-- of its address
pub record Shared (d : Disc) (a : Lba) (n m i k : ℕ) : Type 0 where
  pub whole : m + k ≡ n
  pub recorded : (j : ℕ) → j < m → is_recorded d (lba (a.0 + j)) ≡ true
  pub unrecorded : (j : ℕ) → m ≤ j → j < n → is_recorded d (lba (a.0 + j)) ≡ false
  pub few : d.pending ≤ 16
  pub within : i + k ≤ 16
  pub held : (k ≡ 0 → ⊥) → i + k ≤ d.pending
  pub place : (k ≡ 0 → ⊥) → a.0 + m ≡ (first_sector (first_unrecorded (numbered d d.owner))).0 + i

module _ (d : Disc) (s : Sound d) where
  -- the sector after a record's readable ones is not readable
  end-unreadable : (i : ℕ) → i < used d → is_readable d (lba (reach d i)) ≡ true → ⊥
  end-unreadable i l e =
      let within = reach-within d s i l in
      readable_cases d s (lba (reach d i))
      (λ j m from below.
      let room = reach-within d s j m in
      order_cases i j
      (λ h. omega (arith, from, within, starts-rise d s i j h m))
      (λ h. let k = ap (reach d) h in omega (arith, below, k))
      (λ h. omega (arith, below, room, starts-rise d s j i h l)))
      e

  -- so a readable run that begins in a fragment ends in it
  run_ends :
      (a : Lba) (n i : ℕ) → i < used d → a.0 < reach d i → all_readable d a n ≡ true → a.0 + n ≤ reach d i
  run_ends a n i l below e =
      by_cases (ltb (reach d i) (a.0 + n))
      (λ h.
      let past = ltb-true (reach d i) (a.0 + n) h in
      let z : a.0 + (reach d i - a.0) ≡ reach d i = omega (arith, below) in
      absurd (end-unreadable i l (rw z at (all_readable-at d a n e (reach d i - a.0) (omega (arith, past, below))))))
      (λ h. ltb-false (reach d i) (a.0 + n) h)

  -- a run of one sector up is readable exactly where one record has it whole before the end of its readable sectors
  one-fragment :
      {P : Type 0} (a : Lba) (n : ℕ) → 1 ≤ n
      → ((i : ℕ) → i < used d → (first_sector (at d i).start).0 ≤ a.0 → a.0 + n ≤ reach d i → P) → all_readable d a n ≡ true → P
  one-fragment a n h k e =
      let z : a.0 + 0 ≡ a.0 = omega arith in
      readable_cases d s a (λ i l from below. k i l from (run_ends a n i l below e)) (rw z at (all_readable-at d a n e 0 (omega arith)))

  run-readable :
      (a : Lba) (n i : ℕ) → i < used d → (first_sector (at d i).start).0 ≤ a.0 → a.0 + n ≤ reach d i → all_readable d a n ≡ true
  run-readable a n i l from to =
      at-all_readable d a n (λ k m. at-readable d s (lba (a.0 + k)) i l (omega (arith, from)) (omega (arith, m, to)))

  -- in such a run
  module _ (a : Lba) (n i : ℕ) (l : i < used d) (from : (first_sector (at d i).start).0 ≤ a.0) (to : a.0 + n ≤ reach d i) where
    abbrev recorded_end : ℕ
    recorded_end = (first_sector (first_unrecorded (at d i))).0

    abbrev share : ℕ
    share = sectors_before a n (first_sector (first_unrecorded (at d i)))

    -- a sector is recorded exactly where it lies in the recorded blocks
    run-recorded : (k : ℕ) → k < n → is_recorded d (lba (a.0 + k)) ≡ ltb (a.0 + k) recorded_end
    run-recorded k h =
        let number : suc i - 1 ≡ i = omega arith in
        let w : Located d (a.0 + k) (suc i) =
        record {
          from = omega arith;
          listed = omega (arith, l);
          first = rw number (omega (arith, from));
          below = rw number (omega (arith, h, to, reach-within d s i l));
        } in
        located-recorded d (a.0 + k) s (suc i) w ∙ rw number (ap (ltb (a.0 + k)) (omega arith))

    share-before : medium_share d a n ≡ share
    share-before =
        share_is d a n share (omega arith)
        (λ k h. run-recorded k (omega (arith, h)) ∙ lt-ltb (a.0 + k) recorded_end (omega (arith, h)))
        (λ h. run-recorded share h ∙ le-ltb (a.0 + share) recorded_end (omega (arith, h)))

    -- the pending sectors are this fragment's where it has any of the run
    run-owner : share < n → d.owner ≡ suc i
    run-owner h =
        equal_cases d.owner (suc i) (λ e. e) (λ e. absurd (omega (arith, h, to, other_pending d (suc i) e)))

    run-shared : Shared d a n share (left_over (a.0 + share)) (n - share)
    run-shared =
        record {
          whole = omega arith;
          recorded = λ k h. run-recorded k (omega (arith, h)) ∙ lt-ltb (a.0 + k) recorded_end (omega (arith, h));
          unrecorded = λ k from below. run-recorded k below ∙ le-ltb (a.0 + k) recorded_end (omega (arith, from, below));
          few = omega (arith, s.few);
          within = equal_cases (n - share) 0 (λ z. omega (arith, z)) (λ z. omega (arith, placed z, few z));
          held = λ z. omega (arith, placed z, few z, own_pending d (suc i) (run-owner (omega (arith, z))), to);
          place =
              λ z.
              let index : d.owner - 1 ≡ i = omega (arith, run-owner (omega (arith, z))) in
              let k = ap (λ (j : ℕ). (first_sector (first_unrecorded (at d j))).0) index in
              omega (arith, k, placed z);
        }
      where
        few : (n - share ≡ 0 → ⊥) → a.0 + n < recorded_end + 16
        few z = omega (arith, to, pending-in-few d s (suc i))

        -- the first of them stands at its place in the block
        placed : (n - share ≡ 0 → ⊥) → a.0 + share ≡ recorded_end + left_over (a.0 + share)
        placed z = omega (arith, few z)

-- what is sent of a readable run is shared out so
pub shared :
    (d : Disc) → Sound d → (a : Lba) (n : ℕ) → (n ≡ 0 → ⊥) → all_readable d a n ≡ true
    → Shared d a n (medium_share d a n) (left_over (a.0 + medium_share d a n)) (n - medium_share d a n)
shared d s a n z e =
    one-fragment d s a n (omega arith)
    (λ i l from to. rw (share-before d s a n i l from to) (run-shared d s a n i l from to)) e

-- what holds of every refusal, of a READ of no sectors and of the run sent where it can be, holds of a READ
pub read_cases :
    (P : Verdict → Type 0) (d : Disc) (a : Lba) (n : ℕ) → P (accept d d no_reply no_plan) → ((r : DriveRefusal) → P (refuse d r))
    → ((n ≡ 0 → ⊥) → a.0 + n ≤ sectors_in d.capacity → all_readable d a n ≡ true → P (accept d d no_reply (plan None (sending d a n))))
    → P (read d a n)
unfolding read
read_cases P d a n none refused sent =
    cond_cases P (eqb n 0) _ _ (λ z. none)
    (λ z.
    cond_cases P (ltb (sectors_in d.capacity) (a.0 + n)) _ _ (λ p. refused AddressOutOfRange)
    (λ p.
    cond_cases P (all_readable d a n) _ _ (λ r. sent (eqb-false n 0 z) (ltb-false _ _ p) r) (λ r. refused BlankCheck)))

-- its outcomes within the disc
module _ (d : Disc) (a : Lba) (n : ℕ) (z : n ≡ 0 → ⊥) (h : a.0 + n ≤ sectors_in d.capacity) where
  pub read-sent : all_readable d a n ≡ true → read d a n ≡ accept d d no_reply (plan None (sending d a n))
  unfolding read
  read-sent r =
      cond_no (eqb n 0) _ _ (ne_eqb _ _ z)
      ∙ (cond_no (ltb (sectors_in d.capacity) (a.0 + n)) _ _ (le-ltb _ _ h) ∙ cond_yes (all_readable d a n) _ _ r)

  pub read-blank : all_readable d a n ≡ false → read d a n ≡ refuse d BlankCheck
  unfolding read
  read-blank r =
      cond_no (eqb n 0) _ _ (ne_eqb _ _ z)
      ∙ (cond_no (ltb (sectors_in d.capacity) (a.0 + n)) _ _ (le-ltb _ _ h) ∙ cond_no (all_readable d a n) _ _ r)

  -- the code's tests: where the recorded sectors of the fragment that the address lies in end, and where its readable ones do
  module _ (s : Sound d) where
    nowhere-read : at_address d a ≡ None → refuse d BlankCheck ≡ read d a n
    nowhere-read e =
        sym
        (read-blank
        (by_cases (all_readable d a n)
        (λ r.
        let same : a.0 + 0 ≡ a.0 = omega arith in
        absurd (nowhere-unreadable d a.0 s e (rw same at (all_readable-at d a n r 0 (omega (arith, z))))))
        (λ r. r)))

    module _ (number : ℕ) (e : at_address d a ≡ Some number) where
      here : Located d a.0 number
      here = located d a.0 number e

      index_listed : number - 1 < used d
      index_listed = omega (arith, here.from, here.listed)

      reaches : reach d (number - 1) ≡ (next_writable d number (numbered d number)).0
      reaches =
          let k : suc (number - 1) ≡ number = omega (arith, here.from) in
          ap (λ (m : ℕ). (next_writable d m (numbered d number)).0) k

      short-read : (next_writable d number (numbered d number)).0 < a.0 + n → refuse d BlankCheck ≡ read d a n
      short-read past =
          sym
          (read-blank
          (by_cases (all_readable d a n)
          (λ r.
          absurd
          (one-fragment d s a n (omega (arith, z))
          (λ i l from to.
          let same = located-index d a.0 s number i here l from (omega (arith, to, z, reach-within d s i l)) in
          let k = ap (reach d) same in
          omega (arith, k, to, past, reaches)) r))
          (λ r. r)))

      found-read :
          a.0 + n ≤ (next_writable d number (numbered d number)).0
          → accept d d no_reply (plan None (sending_before a n (first_sector (first_unrecorded (numbered d number))))) ≡ read d a n
      unfolding sending
      found-read within =
          let to : a.0 + n ≤ reach d (number - 1) = omega (arith, within, reaches) in
          let r = run-readable d s a n (number - 1) index_listed here.first to in
          sym (read-sent r ∙ rw (share-before d s a n (number - 1) index_listed here.first to))

    -- by what the search finds
    read-short-at :
        (x : Option ℕ) → at_address d a ≡ x → (reach_found d.fragments d.pending d.owner x).readable.0 < a.0 + n → refuse d BlankCheck ≡ read d a n
    read-short-at (Some number) e past = short-read number e past
    read-short-at None e past = nowhere-read e

    read-found-at :
        (x : Option ℕ) → at_address d a ≡ x
        → (let w = reach_found d.fragments d.pending d.owner x in
        a.0 + n ≤ w.readable.0 → accept d d no_reply (plan None (sending_before a n w.recorded)) ≡ read d a n)
    read-found-at (Some number) e within = found-read number e within
    read-found-at None e within = absurd (omega (arith, within, z))

    pub read_short : passes a n (reach_around d a).readable ≡ true → refuse d BlankCheck ≡ read d a n
    read_short t = read-short-at (at_address d a) refl (ltb-true (reach_around d a).readable.0 (a.0 + n) t)

    pub read_found :
        passes a n (reach_around d a).readable ≡ false
        → accept d d no_reply (plan None (sending_before a n (reach_around d a).recorded)) ≡ read d a n
    read_found t = read-found-at (at_address d a) refl (ltb-false (reach_around d a).readable.0 (a.0 + n) t)
