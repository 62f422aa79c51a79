-- What a sound list gives beyond its rules: fragments lie apart, next writable addresses differ, numbers are small, and the recorded
-- blocks fit the disc.
use Rattle.std.proofs.lemmas.Bool.Decides.{nat_tests}
use Prim.Native.Nat.{ℕ, zero, suc, ◌+◌, ◌≤◌, ◌<◌}
use mathlib.Core.Path.{◌≡◌, refl, ◌∙◌, ap}
use mathlib.Core.Bool.{true, false}
use mathlib.Core.List.{List, [], ◌∷◌}
use mathlib.Core.Logic.{⊎_elim}
use native.Mathlib.Nat.{eq-or-lt_of_le}
use native.Mathlib.Omega.{arith}
use borrow.Author.Tests.{eq-eqb, ne_eqb, eqb-true, eqb-false}
use lib.Dec.{eqb, leb}
use Rattle.disc.specs.Types.{Fragment, Disc}
use Rattle.fragments.specs.Address.{first_sector}
use Rattle.fragments.specs.Fragment.{end, complete, is_zero}
use Rattle.disc.specs.Records.{pending_in, next_writable, used, is_listed, numbered}
use Rattle.fragments.specs.List.{limit, listed, sum_recorded, every}
use Rattle.disc.specs.Sound.{used_first, follows_from, in_order, ends_within, recorded_within}
use Rattle.disc.specs.Rules.{at, Follows, Sound}
use Rattle.fragments.proofs.Laws.Bool.{by_cases, cond_yes, cond_no}
use Rattle.fragments.proofs.Laws.Numbers.{below_suc, order_cases}
use Rattle.fragments.proofs.Laws.List.{use_cases, listed_off, listed-on, listed_le}
use Rattle.disc.proofs.Laws.Rules.{sound-tests, rules-sound}

-- at least the dividing block lies between a record and the next one; between sessions Closure and Intro do
pub apart : (p f : Fragment) → Follows p f → (end p).0 + 1 ≤ f.start.0
apart p f w = grind arith

sessions_apart : (p f : Fragment) → Follows p f → (f.session ≡ p.session → ⊥) → (end p).0 + 128 ≤ f.start.0
sessions_apart p f w n = ⊎_elim (λ h. absurd (n h.0)) (λ h. omega (arith, h.1)) w

step_session : (p f : Fragment) → Follows p f → p.session ≤ f.session
step_session p f w = grind arith

-- the pending sectors are those of one fragment, and no other one's
pub none_pending : (d : Disc) (n : ℕ) → d.pending ≡ 0 → pending_in d n ≡ 0
none_pending d n z = grind arith

pub other_pending : (d : Disc) (n : ℕ) → (d.owner ≡ n → ⊥) → pending_in d n ≡ 0
other_pending d n z = cond_no (eqb d.owner n) d.pending 0 (ne_eqb d.owner n z)

pub own_pending : (d : Disc) (n : ℕ) → d.owner ≡ n → pending_in d n ≡ d.pending
own_pending d n e = cond_yes (eqb d.owner n) d.pending 0 (eq-eqb d.owner n e)

module _ (d : Disc) (s : Sound d) where
  -- starts rise along the list, and fragments lie apart
  pub starts-rise : (i j : ℕ) → i < j → j < used d → (end (at d i)).0 + 1 ≤ (at d j).start.0
  starts-rise i zero h l = absurd (omega arith)
  starts-rise i (suc j) h l =
      let step = apart (at d j) (at d (suc j)) (s.next j l) in
      ⊎_elim
      (λ e. rw e step)
      (λ k. let before = starts-rise i j k (omega arith) in omega arith)
      (eq-or-lt_of_le (below_suc h))

  -- sessions never fall
  pub sessions-rise : (i j : ℕ) → i ≤ j → j < used d → (at d i).session ≤ (at d j).session
  sessions-rise i zero h l = let z : i ≡ 0 = omega arith in rw z (omega arith)
  sessions-rise i (suc j) h l =
      ⊎_elim
      (λ e. rw e (omega arith))
      (λ k.
      let before = sessions-rise i j (below_suc k) (omega arith) in
      omega (arith, step_session (at d j) (at d (suc j)) (s.next j l)))
      (eq-or-lt_of_le h)

  pub used_most : used d ≤ limit
  used_most = omega (arith, listed_le d.fragments, s.array)

  -- sessions rise by one at the most, so a record's is no higher than its number
  pub session-most : (i : ℕ) → i < used d → (at d i).session ≤ suc i
  session-most zero h = omega (arith, s.first_session)
  session-most (suc i) h = grind (arith, nat_tests, session-most i)

  -- no fragment's number and no session's reaches AAh
  pub numbers-below : (n : ℕ) → is_listed d n ≡ true → (n < 0xAA) × ((numbered d n).session < 0xAA)
  numbers-below n e = grind (arith, nat_tests, used_most, session-most)

  -- between fragments of different sessions lie Closure and Intro
  pub sessions-far : (i j : ℕ) → i < j → j < used d → ((at d j).session ≡ (at d i).session → ⊥) → (end (at d i)).0 + 128 ≤ (at d j).start.0
  sessions-far i zero h l n = absurd (omega arith)
  sessions-far i (suc j) h l n =
      let p = at d j in
      let step = s.next j l in
      let gap = apart p (at d (suc j)) step in
      ⊎_elim
      (λ e. rw e (sessions_apart p (at d (suc j)) step (rw e at n)))
      (λ k.
      by_cases (eqb p.session (at d i).session)
      (λ q.
      let far = sessions_apart p (at d (suc j)) step (λ z. n (z ∙ eqb-true _ _ q)) in
      let before = starts-rise i j k (omega arith) in
      omega arith)
      (λ q. let before = sessions-far i j k (omega arith) (eqb-false _ _ q) in omega arith))
      (eq-or-lt_of_le (below_suc h))

  -- a block lies in one fragment at the most
  pub disjoint :
      (i j b : ℕ) → i < used d → j < used d → (at d i).start.0 ≤ b → b < (end (at d i)).0 → (at d j).start.0 ≤ b → b < (end (at d j)).0
      → i ≡ j
  disjoint i j b hi hj a e k z =
      order_cases i j
      (λ h. absurd (omega (arith, starts-rise i j h hj)))
      (λ h. h)
      (λ h. absurd (omega (arith, starts-rise j i h hi)))

  -- an incomplete record has a block to record, and fewer sectors pending than that block has
  pub incomplete-room : (i : ℕ) → i < used d → complete (at d i) ≡ false → (at d i).recorded < (at d i).length
  incomplete-room i h e = strictly (s.recorded i h) (eqb-false _ _ e)
    where
      strictly : {a b : ℕ} → a ≤ b → (a ≡ b → ⊥) → a < b
      strictly l n = omega arith

  pub pending-in-few : (n : ℕ) → pending_in d n < 16
  pending-in-few n = grind arith

  -- a next writable address lies in its own fragment
  pub writable-within :
      (i : ℕ) → i < used d → complete (at d i) ≡ false
      → ((first_sector (at d i).start).0 ≤ (next_writable d (suc i) (at d i)).0) × ((next_writable d (suc i) (at d i)).0 < (first_sector (end (at d i))).0)
  writable-within i h e = grind (arith, nat_tests)

  -- so no two incomplete fragments have the same one
  pub writable-once :
      (i j : ℕ) → i < used d → j < used d → complete (at d i) ≡ false → complete (at d j) ≡ false
      → (next_writable d (suc i) (at d i)).0 ≡ (next_writable d (suc j) (at d j)).0 → i ≡ j
  writable-once i j hi hj ei ej e =
      let wi = writable-within i hi ei in
      let wj = writable-within j hj ej in
      order_cases i j
      (λ h. absurd (omega (arith, starts-rise i j h hj)))
      (λ h. h)
      (λ h. absurd (omega (arith, starts-rise j i h hi)))

-- the recorded blocks of a list that is in order fit after its first record
sum_fits :
    (c : ℕ) (p : Fragment) (rs : List Fragment)
    → follows_from p rs ≡ true → (end p).0 ≤ c → every (λ f. leb (end f).0 c) rs ≡ true → every (λ f. leb f.recorded f.length) rs ≡ true
    → (end p).0 + sum_recorded rs ≤ c
unfolding follows_from every sum_recorded
sum_fits c p [] o h e w = omega arith
sum_fits c p (f ∷ fs) o h e w = grind (arith, nat_tests, sum_fits c f fs)

zeros-sum : (fs : List Fragment) → every is_zero fs ≡ true → sum_recorded fs ≡ 0
unfolding every sum_recorded
zeros-sum [] e = refl
zeros-sum (f ∷ fs) e = grind (arith, nat_tests, zeros-sum fs)

-- unused records add nothing
pub sum-listed : (fs : List Fragment) → used_first fs ≡ true → sum_recorded fs ≡ sum_recorded (listed fs)
unfolding used_first listed sum_recorded
sum-listed [] u = refl
sum-listed (f ∷ fs) u =
    use_cases f
    (λ e. rw (listed_off f fs e) (zeros-sum (f ∷ fs) (rw (eq-eqb _ _ e) at u)))
    (λ e. rw (listed-on f fs e) (ap (λ n. f.recorded + n) (sum-listed fs (rw (ne_eqb _ _ e) at u))))

sum-records :
    (c : ℕ) (rs : List Fragment) → in_order rs ≡ true → ends_within c rs ≡ true → recorded_within rs ≡ true → sum_recorded rs ≤ c
unfolding in_order ends_within recorded_within every sum_recorded
sum-records c [] o e w = omega arith
sum-records c (f ∷ fs) o e w = grind (arith, nat_tests, end, leb, every, sum_fits)

-- the recorded blocks of all fragments together fit the disc
pub sum-within : (d : Disc) → Sound d → sum_recorded d.fragments ≤ d.capacity
sum-within d s = grind (arith, sound-tests, rules-sound, sum-listed, sum-records)
