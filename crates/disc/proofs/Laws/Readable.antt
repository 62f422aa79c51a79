-- Which sectors are recorded, pending and readable: by the record that has them, and by the fragment that an address lies in.
use Rattle.std.proofs.lemmas.Bool.Decides.{nat_tests}
use Prim.Native.Nat.{ℕ, zero, suc, ◌+◌, ◌-◌, ◌*◌, ◌/◌, ◌≤◌, ◌<◌}
use mathlib.Core.Path.{◌≡◌, refl, sym, ◌∙◌, ap}
use mathlib.Core.Bool.{true, ◌&&◌}
use mathlib.Core.List.{List, [], ◌∷◌}
use native.Mathlib.Omega.{arith}
use borrow.Author.Tests.{leb-true, leb-false, le-leb, ltb-true, ltb-false, lt-ltb, eqb-true, eqb-false}
use lib.Dec.{eqb, leb, ltb}
use lib.ListN.{length, get_or, replicate}
use Rattle.disc.specs.Types.{Lba, Fragment, Disc, Some, None}
use Rattle.disc.specs.Blank.{blank}
use Rattle.fragments.specs.Address.{lba, sectors_in, first_sector}
use Rattle.fragments.specs.Fragment.{unused_record, end, first_unrecorded, last_readable_of, holds_recorded, holds}
use Rattle.fragments.specs.List.{limit, pending_of, highest_readable}
use Rattle.disc.specs.Records.{pending_in, next_writable, records, used, numbered, at_address, is_recorded, is_pending, is_readable, last_readable}
use Rattle.disc.specs.Rules.{at, Sound}
use Rattle.fragments.proofs.Laws.Bool.{and_left, and_right, and_both, by_cases, or_left, or_right, or_cases, same_test}
use Rattle.fragments.proofs.Laws.Numbers.{equal_cases}
use Rattle.fragments.proofs.Laws.List.{listed_at, some_cases, at_some, find_hit, find_none}
use Rattle.disc.proofs.Laws.Sound.{other_pending, own_pending, disjoint, writable-within}
use Rattle.disc.proofs.Laws.Onward.{Held, Onward}

-- a sector is recorded where a record in use holds it in its recorded blocks
module _ (d : Disc) (a : Lba) where
  pub recorded-cases :
      {P : Type 0} → ((i : ℕ) → i < used d → holds_recorded a (at d i) ≡ true → P) → is_recorded d a ≡ true → P
  recorded-cases k e =
      some_cases (holds_recorded a) (records d) unused_record
      (λ i l t. k i l (rw (listed_at d.fragments i unused_record l) at t)) e

  pub at-recorded : (i : ℕ) → i < used d → holds_recorded a (at d i) ≡ true → is_recorded d a ≡ true
  at-recorded i l t = grind (arith, at_some, listed_at)

-- the test, as two bounds
module _ (a : Lba) (f : Fragment) where
  pub recorded-from : holds_recorded a f ≡ true → (first_sector f.start).0 ≤ a.0
  recorded-from e = grind arith

  pub recorded-below : holds_recorded a f ≡ true → a.0 < (first_sector (first_unrecorded f)).0
  recorded-below e = grind arith

  pub recorded-between :
      (first_sector f.start).0 ≤ a.0 → a.0 < (first_sector (first_unrecorded f)).0 → holds_recorded a f ≡ true
  recorded-between h k = and_both (le-leb _ _ h) (lt-ltb _ _ k)

-- a sector is recorded where its block is
pub recorded_held : (d : Disc) (a : Lba) → is_recorded d a ≡ true → Held d (a.0 / 16)
recorded_held d a t =
    recorded-cases d a
    (λ i l h.
    record { index = i; listed = l; from = omega (arith, recorded-from a (at d i) h); below = omega (arith, recorded-below a (at d i) h) })
    t

pub held_recorded : (d : Disc) (a : Lba) → Held d (a.0 / 16) → is_recorded d a ≡ true
held_recorded d a h =
    at-recorded d a h.index h.listed
    (recorded-between a (at d h.index) (omega (arith, h.from)) (omega (arith, h.below)))

-- no sector of a blank disc is recorded
unused-at : (n i : ℕ) → get_or (replicate n unused_record) i unused_record ≡ unused_record
unused-at zero i = refl
unused-at (suc n) zero = refl
unused-at (suc n) (suc i) = unused-at n i

blank_record : (c i : ℕ) → (at (blank c) i).recorded ≡ 0
unfolding blank
blank_record c zero = refl
blank_record c (suc i) = ap (λ f. f.recorded) (unused-at (limit - 1) i)

pub blank_unrecorded : (c : ℕ) (a : Lba) → is_recorded (blank c) a ≡ true → ⊥
blank_unrecorded c a t = let h = recorded_held (blank c) a t in omega (arith, h.from, h.below, blank_record c h.index)

-- a recorded sector stays so while the list goes onward
pub recorded_onward : (d e : Disc) (B : ℕ → Type 0) (a : Lba) → Onward d e B → is_recorded d a ≡ true → is_recorded e a ≡ true
recorded_onward d e B a o =
    recorded-cases d a
    (λ i l t.
    let from = recorded-from a (at d i) t in
    let below = recorded-below a (at d i) t in
    let s = o.stays i l (λ z. omega (arith, from, below, z)) in
    at-recorded e a i s.listed
    (recorded-between a (at e i) (omega (arith, from, s.start)) (omega (arith, below, s.start, s.recorded))))

-- a pending sector comes after the recorded blocks of the fragment that the pending sectors belong to
pub record Waits (d : Disc) (a : ℕ) (f : Fragment) : Type 0 where
  pub from : (first_sector (first_unrecorded f)).0 ≤ a
  pub below : a < (first_sector (first_unrecorded f)).0 + d.pending

module _ (d : Disc) (a : Lba) where
  pub pending-waits : is_pending d a ≡ true → Waits d a.0 (numbered d d.owner)
  pending-waits t = grind arith

  pub waits-pending : (f : Fragment) → numbered d d.owner ≡ f → Waits d a.0 f → is_pending d a ≡ true
  waits-pending f e w = grind arith

-- where a record's readable sectors end
abbrev pub reach : Disc → ℕ → ℕ
reach d i = (next_writable d (suc i) (at d i)).0

module _ (d : Disc) (s : Sound d) where
  -- the record that the pending sectors belong to, by its index
  owner-index : (i : ℕ) → d.owner ≡ suc i → numbered d d.owner ≡ at d i
  owner-index i e = let k : d.owner - 1 ≡ i = omega (arith, e) in ap (λ (j : ℕ). get_or d.fragments j unused_record) k

  -- within the fragment
  pub reach-within : (i : ℕ) → i < used d → reach d i ≤ (first_sector (end (at d i))).0
  reach-within i l = grind (arith, nat_tests, writable-within)

  -- a sector is readable where a record in use has it before that end
  pub readable_cases :
      {P : Type 0} (a : Lba) → ((i : ℕ) → i < used d → (first_sector (at d i).start).0 ≤ a.0 → a.0 < reach d i → P)
      → is_readable d a ≡ true → P
  readable_cases a k e =
      or_cases (is_recorded d a) (is_pending d a)
      (λ t.
      recorded-cases d a
      (λ i l h. k i l (recorded-from a (at d i) h) (omega (arith, recorded-below a (at d i) h))) t)
      (λ t.
      let w = pending-waits d a t in
      let o = s.owned (λ z. omega (arith, z, w.from, w.below)) in
      let i = d.owner - 1 in
      let own = own_pending d (suc i) (omega (arith, o.number)) in
      k i (omega (arith, o.number, o.listed)) (omega (arith, w.from)) (omega (arith, w.below, own))) e

  pub at-readable : (a : Lba) (i : ℕ) → i < used d → (first_sector (at d i).start).0 ≤ a.0 → a.0 < reach d i → is_readable d a ≡ true
  at-readable a i l from below =
      by_cases (ltb a.0 (first_sector (first_unrecorded (at d i))).0)
      (λ t. or_left (is_pending d a) (at-recorded d a i l (recorded-between a (at d i) from (ltb-true _ _ t))))
      (λ t.
      let high = ltb-false a.0 (first_sector (first_unrecorded (at d i))).0 t in
      by_cases (eqb d.owner (suc i))
      (λ e.
      let same = eqb-true d.owner (suc i) e in
      let own = own_pending d (suc i) same in
      or_right (is_recorded d a)
      (waits-pending d a (at d i) (owner-index i same) (record { from = high; below = omega (arith, below, own) })))
      (λ e. absurd (omega (arith, below, high, other_pending d (suc i) (eqb-false d.owner (suc i) e)))))

  -- so it lies within the disc
  pub readable-inside : (a : Lba) → is_readable d a ≡ true → a.0 < sectors_in d.capacity
  readable-inside a t = readable_cases a (λ i l from below. omega (arith, below, reach-within i l, s.ends i l)) t

-- the fragment that an address lies in
module _ (d : Disc) (a : ℕ) where
  pub record Located (n : ℕ) : Type 0 where
    pub from : 1 ≤ n
    pub listed : n ≤ used d
    pub first : (first_sector (numbered d n).start).0 ≤ a
    pub below : a < (first_sector (end (numbered d n))).0

  pub located : (n : ℕ) → at_address d (lba a) ≡ Some n → Located n
  located n e =
      let x = find_hit (λ k f. holds (lba a) f) 1 n (records d) e in
      let index : n - 1 ≡ x.index = omega (arith, x.number) in
      let same : numbered d n ≡ get_or (records d) x.index unused_record =
      ap (λ i. get_or d.fragments i unused_record) index ∙ sym (listed_at d.fragments x.index unused_record x.within) in
      let t : holds (lba a) (numbered d n) ≡ true = rw same x.passes in
      let f = numbered d n in
      record {
        from = omega (arith, x.number);
        listed = omega (arith, x.number, x.within);
        first = leb-true _ _ (and_left (leb (first_sector f.start).0 a) (ltb a (first_sector (end f)).0) t);
        below = ltb-true _ _ (and_right (leb (first_sector f.start).0 a) (ltb a (first_sector (end f)).0) t);
      }

  module _ (s : Sound d) where
    -- no other record has its block
    pub located-index : (n i : ℕ) → Located n → i < used d → (first_sector (at d i).start).0 ≤ a → a < (first_sector (end (at d i))).0 → i ≡ n - 1
    located-index n i w l from below =
        disjoint d s i (n - 1) (a / 16) l (omega (arith, w.from, w.listed)) (omega (arith, from)) (omega (arith, below))
        (omega (arith, w.first)) (omega (arith, w.below))

    -- the fragment's recorded sectors are recorded, and no other sector of it
    pub located-recorded : (n : ℕ) → Located n → is_recorded d (lba a) ≡ ltb a ((first_sector (numbered d n).start).0 + 16 * (numbered d n).recorded)
    located-recorded n w =
        let f = numbered d n in
        same_test
        (λ t.
        recorded-cases d (lba a)
        (λ i l h.
        let from = recorded-from (lba a) (at d i) h in
        let below = recorded-below (lba a) (at d i) h in
        let same = located-index n i w l from (omega (arith, below, s.recorded i l)) in
        lt-ltb a ((first_sector f.start).0 + 16 * f.recorded) (let k = ap (λ j. (first_sector (first_unrecorded (at d j))).0) same in omega (arith, below, k))) t)
        (λ t.
        let below = ltb-true a ((first_sector f.start).0 + 16 * f.recorded) t in
        at-recorded d (lba a) (n - 1) (omega (arith, w.from, w.listed)) (recorded-between (lba a) f w.first (omega (arith, below))))

    -- its readable sectors end at its next writable address
    pub located-readable : (n : ℕ) → Located n → is_readable d (lba a) ≡ ltb a (next_writable d n (numbered d n)).0
    located-readable n w =
        let number : suc (n - 1) ≡ n = omega (arith, w.from) in
        let ends : reach d (n - 1) ≡ (next_writable d n (numbered d n)).0 = ap (λ (k : ℕ). (next_writable d k (numbered d n)).0) number in
        same_test
        (λ t.
        readable_cases d s (lba a)
        (λ i l from below.
        let same = located-index n i w l from (omega (arith, below, reach-within d s i l)) in
        lt-ltb a (next_writable d n (numbered d n)).0 (let k = ap (reach d) same in omega (arith, below, k, ends))) t)
        (λ t.
        let below = ltb-true a (next_writable d n (numbered d n)).0 t in
        at-readable d s (lba a) (n - 1) (omega (arith, w.from, w.listed)) w.first (omega (arith, below, ends)))

    -- and after the recorded ones they are its pending sectors
    pub located-pending :
        (n : ℕ) → Located n
        → (let e = (first_sector (numbered d n).start).0 + 16 * (numbered d n).recorded in is_pending d (lba a) ≡ (leb e a && ltb a (e + pending_in d n)))
    located-pending n w =
        let f = numbered d n in
        let e = (first_sector f.start).0 + 16 * f.recorded in
        let number : suc (n - 1) ≡ n = omega (arith, w.from) in
        same_test
        (λ t.
        let x = pending-waits d (lba a) t in
        let o = s.owned (λ z. omega (arith, z, x.from, x.below)) in
        let i = d.owner - 1 in
        let l : i < used d = omega (arith, o.number, o.listed) in
        let own = own_pending d (suc i) (omega (arith, o.number)) in
        let same = located-index n i w l (omega (arith, x.from)) (omega (arith, x.below, own, reach-within d s i l)) in
        let held = own_pending d n (omega (arith, same, w.from, o.number)) in
        let start = ap (λ (j : ℕ). (first_sector (first_unrecorded (at d j))).0) same in
        and_both (le-leb e a (omega (arith, x.from, start))) (lt-ltb a (e + pending_in d n) (omega (arith, x.below, start, held))))
        (λ t.
        let from = leb-true e a (and_left (leb e a) (ltb a (e + pending_in d n)) t) in
        let below = ltb-true a (e + pending_in d n) (and_right (leb e a) (ltb a (e + pending_in d n)) t) in
        equal_cases d.owner n
        (λ own.
        let same = ap (numbered d) own in
        waits-pending d (lba a) f same (record { from = omega (arith, from); below = omega (arith, below, own_pending d n own) }))
        (λ other. absurd (omega (arith, from, below, other_pending d n other))))

    pub nowhere-unreadable : at_address d (lba a) ≡ None → is_readable d (lba a) ≡ true → ⊥
    nowhere-unreadable e t =
        readable_cases d s (lba a)
        (λ i l from below.
        let f = at d i in
        let in_end : a < (first_sector (end f)).0 = omega (arith, below, reach-within d s i l) in
        let passes : holds (lba a) f ≡ true = and_both (le-leb (first_sector f.start).0 a from) (lt-ltb a (first_sector (end f)).0 in_end) in
        find_none (λ k g. holds (lba a) g) 1 (records d) e i l (rw (listed_at d.fragments i unused_record l) passes)) t

    pub nowhere-unrecorded : at_address d (lba a) ≡ None → is_recorded d (lba a) ≡ true → ⊥
    nowhere-unrecorded e t = nowhere-unreadable e (or_left (is_pending d (lba a)) t)

-- the highest readable address of a list: no record's last readable one is above it, and above 0 it is one of them
highest_most :
    (p o n : ℕ) (fs : List Fragment) (i : ℕ) → i < length fs
    → (last_readable_of (pending_of p o (n + i)) (get_or fs i unused_record)).0 ≤ (highest_readable p o n fs).0
unfolding highest_readable
highest_most p o n [] i h = absurd (omega arith)
highest_most p o n (f ∷ fs) zero h = grind (arith, nat_tests)
highest_most p o n (f ∷ fs) (suc i) h =
    let same : n + suc i ≡ n + 1 + i = omega arith in
    let rest = highest_most p o (n + 1) fs i (omega arith) in
    rw same (omega (arith, rest))

highest_is :
    {P : Type 0} (p o n : ℕ) (fs : List Fragment)
    → ((i : ℕ) → i < length fs → (last_readable_of (pending_of p o (n + i)) (get_or fs i unused_record)).0 ≡ (highest_readable p o n fs).0 → P)
    → 1 ≤ (highest_readable p o n fs).0 → P
unfolding highest_readable
highest_is p o n [] k h = absurd (omega (arith, h))
highest_is p o n (f ∷ fs) k h =
    let here = (last_readable_of (pending_of p o n) f).0 in
    let rest = (highest_readable p o (n + 1) fs).0 in
    by_cases (leb rest here)
    (λ t.
    let same : n + 0 ≡ n = omega arith in
    k 0 (omega arith) (rw same (let most = leb-true rest here t in omega (arith, most))))
    (λ t.
    let less = leb-false rest here t in
    highest_is p o (n + 1) fs
    (λ i l e. let same : n + suc i ≡ n + 1 + i = omega arith in k (suc i) (omega arith) (rw same (omega (arith, e, less)))) (omega (arith, h, less)))

-- 25h: every readable address is at most the last readable one, which is readable itself where any is
module _ (d : Disc) (s : Sound d) where
  -- a record's last readable address: 0 without any, else the one before its readable sectors' end
  last-cases :
      {P : Type 0} (i : ℕ) → ((last_readable_of (pending_in d (suc i)) (at d i)).0 ≡ 0 → reach d i ≡ (first_sector (at d i).start).0 → P)
      → ((last_readable_of (pending_in d (suc i)) (at d i)).0 ≡ reach d i - 1 → (first_sector (at d i).start).0 < reach d i → P) → P
  last-cases i none some = grind (arith, nat_tests)

  -- the same with the numbers that the walk along the list has
  record-last :
      (i : ℕ) → i < used d
      → last_readable_of (pending_of d.pending d.owner (1 + i)) (get_or (records d) i unused_record) ≡ last_readable_of (pending_in d (suc i)) (at d i)
  record-last i l =
      let number : 1 + i ≡ suc i = omega arith in
      ap (λ (k : ℕ). last_readable_of (pending_in d k) (get_or (records d) i unused_record)) number
      ∙ ap (last_readable_of (pending_in d (suc i))) (listed_at d.fragments i unused_record l)

  pub last-most : (a : Lba) → is_readable d a ≡ true → a.0 ≤ (last_readable d).0
  last-most a t =
      readable_cases d s a
      (λ i l from below.
      let most = highest_most d.pending d.owner 1 (records d) i l in
      let here = ap (λ (b : Lba). b.0) (record-last i l) in
      last-cases i
      (λ e none. absurd (omega (arith, none, from, below)))
      (λ e some. omega (arith, e, here, most, below))) t

  pub last-readable : (a : Lba) → is_readable d a ≡ true → is_readable d (last_readable d) ≡ true
  last-readable a t =
      equal_cases (last_readable d).0 0
      (λ z. let same : a.0 ≡ (last_readable d).0 = omega (arith, z, last-most a t) in rw (← same) t)
      (λ z.
      highest_is d.pending d.owner 1 (records d)
      (λ i l e.
      let here = ap (λ (b : Lba). b.0) (record-last i l) in
      last-cases i
      (λ f none. absurd (omega (arith, z, e, here, f)))
      (λ f some. at-readable d s (last_readable d) i l (omega (arith, e, here, f, some)) (omega (arith, e, here, f, some))))
      (omega (arith, z)))
