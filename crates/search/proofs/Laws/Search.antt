-- Eight looks find the fragment that an address lies in, and what a search finds depends on the records that it looks at alone.
use Prim.Native.Nat.{ℕ, zero, suc, ◌+◌, ◌-◌, ◌*◌, ◌^◌, ◌≤◌, ◌<◌}
use mathlib.Core.Path.{◌≡◌, refl, sym, ◌∙◌, ap}
use mathlib.Core.Bool.{true, false, ◌||◌}
use mathlib.Core.List.{List}
use native.Mathlib.Nat.{one-le-pow}
use native.Mathlib.Omega.{arith}
use borrow.Author.Tests.{leb-true, le-leb, ltb-true, ltb-false, lt-ltb, le-ltb, eq-eqb, ne_eqb}
use lib.Dec.{leb, ltb}
use lib.ListN.{length, get_or}
use Rattle.search.specs.Types.{Lba, Fragment, Option, Some, None, Entry, Sought, Side, Left, Right, Here}
use Rattle.search.specs.Search.{step, Search, ends, looks, finds, seen, SameAt, sought, middle, by_side, halve, enough, halving, held}
use Rattle.fragments.specs.Address.{first_sector}
use Rattle.fragments.specs.Fragment.{unused_record, unused, end, holds}
use Rattle.fragments.specs.List.{limit, listed, holder_of}
use Rattle.fragments.specs.Entry.{entry}
use Rattle.fragments.proofs.Laws.Bool.{and_left, and_right, and_both, or_left, or_right, by_cases, cond_yes, cond_no}
use Rattle.fragments.proofs.Laws.Numbers.{order_cases, equal_cases}
use Rattle.fragments.proofs.Laws.List.{use_cases, listed_le, listed_at, listed-used, find_hit, find_none}

-- a search makes no more looks than it is said to
pub seen_few : (n : ℕ) (fs : List Fragment) (s : Search n) → length (seen fs s) ≤ n
unfolding seen
seen_few n fs (ends _ h) = omega arith
seen_few (suc n) fs (looks _ i next) = omega (arith, seen_few n fs (next (get_or fs i unused_record)))

-- two lists with the same records there are the same to it
pub seen_decides :
    (n : ℕ) (fs gs : List Fragment) (s : Search n) → SameAt (seen fs s) fs gs → finds fs s ≡ finds gs s
unfolding seen finds
seen_decides n fs gs (ends _ h) same = refl
seen_decides (suc n) fs gs (looks _ i next) same =
    let here : get_or fs i unused_record ≡ get_or gs i unused_record = same 0 (omega arith) in
    rw (← here) (seen_decides n fs gs (next (get_or fs i unused_record)) (λ k l. same (suc k) (omega arith)))

-- what a step says of a record
module _ (a : Lba) (f : Fragment) where
  pub step-unused : f.length ≡ 0 → step a f ≡ Left
  step-unused off = cond_yes (unused f || ltb a.0 (first_sector f.start).0) Left _ (or_left _ (eq-eqb _ _ off))

  pub step-above : a.0 < (first_sector f.start).0 → step a f ≡ Left
  step-above above = cond_yes (unused f || ltb a.0 (first_sector f.start).0) Left _ (or_right (unused f) (lt-ltb _ _ above))

  module _ (on : f.length ≡ 0 → ⊥) (from : (first_sector f.start).0 ≤ a.0) where
    not_left : (unused f || ltb a.0 (first_sector f.start).0) ≡ false
    not_left = rw (ne_eqb _ _ on) (le-ltb _ _ from)

    pub step_past : (first_sector (end f)).0 ≤ a.0 → step a f ≡ Right
    step_past past =
        cond_no (unused f || ltb a.0 (first_sector f.start).0) Left _ not_left ∙ cond_no (ltb a.0 (first_sector (end f)).0) Here Right (le-ltb _ _ past)

    pub step-here : a.0 < (first_sector (end f)).0 → step a f ≡ Here
    step-here below =
        cond_no (unused f || ltb a.0 (first_sector f.start).0) Left _ not_left ∙ cond_yes (ltb a.0 (first_sector (end f)).0) Here Right (lt-ltb _ _ below)

-- so many looks more
abbrev pub after : ℕ → Sought → Sought
after k s = record { holder = s.holder; looks = s.looks + k }

pub after_none : (s : Sought) → s ≡ after 0 s
after_none s = ap (λ (n : ℕ). record { holder = s.holder; looks = n }) (omega arith)

pub after-after : (k : ℕ) (s : Sought) → after k (after 1 s) ≡ after (k + 1) s
after-after k s = ap (λ (n : ℕ). record { holder = s.holder; looks = n }) (omega arith)

-- a search by halving from step to step: it is over, no record is in question, or a look at the middle one leaves a side or finds it
module _ (fs : List Fragment) (a : Lba) (low high : ℕ) where
  abbrev looked : Fragment
  looked = get_or fs (middle low high) unused_record

  pub sought-over : sought fs (halve 0 a low high) ≡ record { holder = None; looks = 0 }
  unfolding finds seen halve
  sought-over = refl

  pub sought-none : (n : ℕ) → low ≡ high → sought fs (halve n a low high) ≡ record { holder = None; looks = 0 }
  unfolding finds seen halve
  sought-none zero e = refl
  sought-none (suc n) e = rw (eq-eqb low high e)

  -- how it goes on, by what the step says
  goes : ℕ → Side → Sought
  goes n t =
      sought fs (by_side t (halve n a low (middle low high)) (halve n a (middle low high + 1) high) (ends n (Some (entry (middle low high + 1) looked))))

  sought-next : (n : ℕ) → (low ≡ high → ⊥) → sought fs (halve (suc n) a low high) ≡ after 1 (goes n (step a looked))
  unfolding finds seen halve goes
  sought-next n e =
      let s = goes n (step a looked) in
      let one : suc s.looks ≡ s.looks + 1 = omega arith in
      rw (ne_eqb low high e) (ap (λ (k : ℕ). record { holder = s.holder; looks = k }) one)

  pub sought-left :
      (n : ℕ) → (low ≡ high → ⊥) → step a looked ≡ Left
      → sought fs (halve (suc n) a low high) ≡ after 1 (sought fs (halve n a low (middle low high)))
  unfolding goes
  sought-left n e t = sought-next n e ∙ ap (λ s. after 1 (goes n s)) t

  pub sought-right :
      (n : ℕ) → (low ≡ high → ⊥) → step a looked ≡ Right
      → sought fs (halve (suc n) a low high) ≡ after 1 (sought fs (halve n a (middle low high + 1) high))
  unfolding goes
  sought-right n e t = sought-next n e ∙ ap (λ s. after 1 (goes n s)) t

  pub sought-here :
      (n : ℕ) → (low ≡ high → ⊥) → step a looked ≡ Here
      → sought fs (halve (suc n) a low high) ≡ record { holder = Some (entry (middle low high + 1) looked); looks = 1 }
  unfolding goes finds seen
  sought-here n e t = sought-next n e ∙ ap (λ s. after 1 (goes n s)) t

-- what a search has found
abbrev held_in : Sought → Option Entry
held_in s = s.holder

-- along the list the records in use come first, and each ends before the next ones start
pub record Rising (fs : List Fragment) : Type 0 where
  pub first : (i : ℕ) → length (listed fs) ≤ i → (get_or fs i unused_record).length ≡ 0
  pub apart : (i j : ℕ) → i < j → j < length (listed fs) → (end (get_or fs i unused_record)).0 ≤ (get_or fs j unused_record).start.0

-- a record that holds an address, as bounds
module _ (a : Lba) (f : Fragment) where
  holds-from : holds a f ≡ true → (first_sector f.start).0 ≤ a.0
  holds-from t = leb-true _ _ (and_left (leb (first_sector f.start).0 a.0) (ltb a.0 (first_sector (end f)).0) t)

  holds-below : holds a f ≡ true → a.0 < (first_sector (end f)).0
  holds-below t = ltb-true _ _ (and_right (leb (first_sector f.start).0 a.0) (ltb a.0 (first_sector (end f)).0) t)

-- what the definition finds on such a list
module _ (fs : List Fragment) (a : Lba) (r : Rising fs) where
  abbrev at : ℕ → Fragment
  at i = get_or fs i unused_record

  -- a record at an index holds the address
  abbrev Holds : ℕ → Type 0
  Holds i = (i < length (listed fs)) × (holds a (at i) ≡ true)

  -- no two do
  holds-once : (i j : ℕ) → Holds i → Holds j → i ≡ j
  holds-once i j p q =
      order_cases i j
      (λ h. absurd (omega (arith, holds-below a (at i) p.1, holds-from a (at j) q.1, r.apart i j h q.0)))
      (λ h. h)
      (λ h. absurd (omega (arith, holds-below a (at j) q.1, holds-from a (at i) p.1, r.apart j i h p.0)))

  -- a record in use is one of those listed
  listed-index : (i : ℕ) → ((at i).length ≡ 0 → ⊥) → i < length (listed fs)
  listed-index i on =
      by_cases (ltb i (length (listed fs))) (λ t. ltb-true _ _ t) (λ t. absurd (on (r.first i (ltb-false _ _ t))))

  found-holds : (n : ℕ) → holder_of fs a ≡ Some n → (i : ℕ) × (n ≡ i + 1) × Holds i
  found-holds n e =
      let x = find_hit (λ k f. holds a f) 1 n (listed fs) e in
      (x.index, omega (arith, x.number), (x.within, rw (listed_at fs x.index unused_record x.within) at x.passes))

  found-is : (x : Option ℕ) → holder_of fs a ≡ x → (i : ℕ) → Holds i → x ≡ Some (i + 1)
  found-is (Some n) e i p =
      let y = found-holds n e in
      ap Some (omega (arith, y.1, holds-once y.0 i y.2 p))
  found-is None e i p =
      absurd (find_none (λ k f. holds a f) 1 (listed fs) e i p.0 (rw (listed_at fs i unused_record p.0) p.1))

  -- it finds the record that holds the address
  pub holder-is : (i : ℕ) → i < length (listed fs) → holds a (at i) ≡ true → holder_of fs a ≡ Some (i + 1)
  holder-is i l t = found-is (holder_of fs a) refl i (l, t)

  held-is : (i : ℕ) → Holds i → held fs (holder_of fs a) ≡ Some (entry (i + 1) (at i))
  held-is i p =
      let index : i + 1 - 1 ≡ i = omega arith in
      rw (holder-is i p.0 p.1) (ap (λ (j : ℕ). Some (entry (i + 1) (at j))) index)

  held_none : (x : Option ℕ) → holder_of fs a ≡ x → ((i : ℕ) → Holds i → ⊥) → held fs x ≡ None
  held_none (Some n) e none = let y = found-holds n e in absurd (none y.0 y.2)
  held_none None e none = refl

  -- the records from low to before high are in question: no other one holds the address
  abbrev Within : ℕ → ℕ → Type 0
  Within low high = (i : ℕ) → Holds i → (low ≤ i) × (i < high)

  -- a record that is not in use, or starts above the address, leaves those on its left
  unused-left : (m : ℕ) → (at m).length ≡ 0 → (i : ℕ) → Holds i → i < m
  unused-left m off i p =
      order_cases i m (λ h. h)
      (λ h. absurd (listed-used fs i p.0 (ap (λ j. (at j).length) h ∙ off)))
      (λ h. absurd (listed-used fs m (omega (arith, h, p.0)) off))

  above-left : (m : ℕ) → a.0 < (first_sector (at m).start).0 → (i : ℕ) → Holds i → i < m
  above-left m above i p =
      let from = holds-from a (at i) p.1 in
      order_cases i m (λ h. h)
      (λ h. absurd (let k = ap (λ j. (at j).start.0) h in omega (arith, k, from, above)))
      (λ h. absurd (omega (arith, from, above, r.apart m i h p.0)))

  -- one that ends before the address leaves those on its right
  past-right :
      (m : ℕ) → m < length (listed fs) → (first_sector (at m).start).0 ≤ a.0 → (first_sector (end (at m))).0 ≤ a.0
      → (i : ℕ) → Holds i → m < i
  past-right m l from past i p =
      let below = holds-below a (at i) p.1 in
      order_cases i m
      (λ h. absurd (omega (arith, below, from, r.apart i m h l)))
      (λ h. absurd (let k = ap (λ j. (end (at j)).0) h in omega (arith, k, below, past)))
      (λ h. h)

  none_within : (low high : ℕ) → high ≤ low → Within low high → None ≡ held fs (holder_of fs a)
  none_within low high e w =
      sym (held_none (holder_of fs a) refl (λ i p. let b = w i p in omega (arith, e, b.0, b.1)))

  -- n looks suffice for fewer than 2^n records in question
  halve-finds : (n low high : ℕ) → high < low + 2 ^ n → Within low high → finds fs (halve n a low high) ≡ held fs (holder_of fs a)
  halve-finds zero low high few w = ap held_in (sought-over fs a low high) ∙ none_within low high (omega (arith, few)) w
  halve-finds (suc n) low high few w =
      let m = middle low high in
      let double : 2 ^ suc n ≡ 2 * 2 ^ n = omega arith in
      let some : 1 ≤ 2 ^ n = one-le-pow n 2 (omega arith) in
      let left : ((i : ℕ) → Holds i → i < m) → finds fs (halve n a low m) ≡ held fs (holder_of fs a) =
      λ b. halve-finds n low m (omega (arith, few, double, some)) (λ i p. ((w i p).0, b i p)) in
      equal_cases low high
      (λ e. ap held_in (sought-none fs a low high (suc n) e) ∙ none_within low high (omega (arith, e)) w)
      (λ e.
      use_cases (at m)
      (λ off. ap held_in (sought-left fs a low high n e (step-unused a (at m) off)) ∙ left (unused-left m off))
      (λ on.
      by_cases (ltb a.0 (first_sector (at m).start).0)
      (λ t. let above = ltb-true _ _ t in ap held_in (sought-left fs a low high n e (step-above a (at m) above)) ∙ left (above-left m above))
      (λ t.
      let from = ltb-false a.0 (first_sector (at m).start).0 t in
      let l = listed-index m on in
      by_cases (ltb a.0 (first_sector (end (at m))).0)
      (λ u.
      ap held_in (sought-here fs a low high n e (step-here a (at m) on from (ltb-true _ _ u)))
      ∙ sym (held-is m (l, and_both (le-leb (first_sector (at m).start).0 a.0 from) u)))
      (λ u.
      let past = ltb-false a.0 (first_sector (end (at m))).0 u in
      ap held_in (sought-right fs a low high n e (step_past a (at m) on from past))
      ∙ halve-finds n (m + 1) high (omega (arith, few, double, some))
      (λ i p. (omega (arith, past-right m l from past i p), (w i p).1))))))

-- eight for the records of a disc
pub halving-finds :
    (fs : List Fragment) (a : Lba) → length fs ≡ limit → Rising fs → finds fs (halving a) ≡ held fs (holder_of fs a)
halving-finds fs a array r =
    halve-finds fs a r enough 0 limit (omega arith)
    (λ i p. (omega arith, omega (arith, p.0, listed_le fs, array)))
