-- The test `sound` and the rules at indices say the same.
use Rattle.std.proofs.lemmas.Bool.Decides.{nat_tests}
use Prim.Native.Nat.{ℕ, zero, suc, ◌+◌, ◌*◌, ◌≤◌, ◌<◌}
use mathlib.Core.Path.{◌≡◌, refl}
use mathlib.Core.Bool.{Bool, true, not, ◌&&◌, ◌||◌}
use mathlib.Core.List.{List, [], ◌∷◌}
use mathlib.Core.Logic.{inl, inr, ⊎_elim}
use native.Mathlib.Omega.{arith}
use borrow.Author.Tests.{eq-eqb, ne_eqb, eqb-true, eqb-false, le-leb, leb-true, ltb-true, not-true}
use lib.Dec.{eqb, leb, ltb}
use lib.ListN.{length, get_or}
use Rattle.disc.specs.Types.{Fragment, Disc}
use Rattle.fragments.specs.Fragment.{unused_record, end, complete, is_tail, is_zero}
use Rattle.fragments.specs.List.{limit, listed, every}
use Rattle.disc.specs.Records.{records, used, is_listed, numbered, last_record, has_tail}
use Rattle.disc.specs.Sound.{used_first, first_at_zero, follows, follows_from, in_order, ends_within, recorded_within, zeroed_within, incomplete_last, tail_last, tail_or_full, pending_named, finalized_complete, is_array, sound}
use Rattle.disc.specs.Rules.{at, Follows, Owned, Sound}
use Rattle.fragments.proofs.Laws.Bool.{and_left, and_right, and_both, by_cases, or_left, or_right, or_cases, contradiction}
use Rattle.fragments.proofs.Laws.List.{every-at, at_every, use_cases, listed_off, listed-on, listed_at}

-- a record whose every field is zero
pub zero_record : (f : Fragment) → is_zero f ≡ true → f ≡ unused_record
zero_record f e = grind arith

-- the unused records
pub zeros-at : (fs : List Fragment) (i : ℕ) → every is_zero fs ≡ true → get_or fs i unused_record ≡ unused_record
unfolding every
zeros-at [] i e = refl
zeros-at (f ∷ fs) zero e = zero_record f (and_left (is_zero f) (every is_zero fs) e)
zeros-at (f ∷ fs) (suc i) e = zeros-at fs i (and_right (is_zero f) (every is_zero fs) e)

pub used_first-at :
    (fs : List Fragment) (i : ℕ) → used_first fs ≡ true → length (listed fs) ≤ i → get_or fs i unused_record ≡ unused_record
unfolding used_first
used_first-at [] i u h = refl
used_first-at (f ∷ fs) zero u h =
    use_cases f
    (λ e. zeros-at (f ∷ fs) 0 (rw (eq-eqb _ _ e) at u))
    (λ e. absurd (let k : suc (length (listed fs)) ≤ 0 = rw (listed-on f fs e) at h in omega arith))
used_first-at (f ∷ fs) (suc i) u h =
    use_cases f
    (λ e. zeros-at (f ∷ fs) (suc i) (rw (eq-eqb _ _ e) at u))
    (λ e.
    let k : suc (length (listed fs)) ≤ suc i = rw (listed-on f fs e) at h in
    used_first-at fs i (rw (ne_eqb _ _ e) at u) (omega arith))

pub at-used_first :
    (fs : List Fragment) → ((i : ℕ) → length (listed fs) ≤ i → get_or fs i unused_record ≡ unused_record) → used_first fs ≡ true
unfolding used_first
at-used_first [] h = refl
at-used_first (f ∷ fs) h =
    use_cases f
    (λ e. rw (eq-eqb _ _ e) (at_every is_zero (f ∷ fs) unused_record (λ i l. rw (h i (rw (listed_off f fs e) (omega arith))))))
    (λ e. rw (ne_eqb _ _ e) (at-used_first fs (λ i l. h (suc i) (rw (listed-on f fs e) (omega arith)))))

-- the order of the records
pub follows_either : (p f : Fragment) → follows p f ≡ true → Follows p f
follows_either p f e = grind arith

pub either_follows : (p f : Fragment) → Follows p f → follows p f ≡ true
either_follows p f w = grind arith

pub follows-at :
    (p : Fragment) (rs : List Fragment) (i : ℕ) (d : Fragment)
    → follows_from p rs ≡ true → i < length rs → follows (get_or (p ∷ rs) i d) (get_or rs i d) ≡ true
unfolding follows_from
follows-at p [] i d e h = absurd (omega arith)
follows-at p (f ∷ fs) zero d e h = and_left (follows p f) (follows_from f fs) e
follows-at p (f ∷ fs) (suc i) d e h = grind (arith, nat_tests, follows-at f fs i d)

pub at_follows :
    (p : Fragment) (rs : List Fragment) (d : Fragment)
    → ((i : ℕ) → i < length rs → follows (get_or (p ∷ rs) i d) (get_or rs i d) ≡ true) → follows_from p rs ≡ true
unfolding follows_from
at_follows p [] d h = refl
at_follows p (f ∷ fs) d h = and_both (h 0 (omega arith)) (at_follows f fs d (λ i l. h (suc i) (omega arith)))

pub in_order-at :
    (rs : List Fragment) (i : ℕ) (d : Fragment) → in_order rs ≡ true → suc i < length rs → follows (get_or rs i d) (get_or rs (suc i) d) ≡ true
unfolding in_order
in_order-at [] i d e h = absurd (omega arith)
in_order-at (f ∷ fs) i d e h = follows-at f fs i d e (omega arith)

pub at-in_order :
    (rs : List Fragment) (d : Fragment)
    → ((i : ℕ) → suc i < length rs → follows (get_or rs i d) (get_or rs (suc i) d) ≡ true) → in_order rs ≡ true
unfolding in_order
at-in_order [] d h = refl
at-in_order (f ∷ fs) d h = at_follows f fs d (λ i l. h i (omega arith))

-- the tail
pub tail_at :
    (c : ℕ) (rs : List Fragment) (i : ℕ) (d : Fragment)
    → tail_last c rs ≡ true → i < length rs → is_tail (get_or rs i d) ≡ true → (suc i ≡ length rs) × ((end (get_or rs i d)).0 ≡ c)
unfolding tail_last
tail_at c [] i d e h t = absurd (omega arith)
tail_at c (f ∷ fs) zero d e h t = grind (arith, nat_tests)
tail_at c (f ∷ fs) (suc i) d e h t = grind (arith, nat_tests, tail_at c fs i d)

pub at_tail :
    (c : ℕ) (rs : List Fragment) (d : Fragment)
    → ((i : ℕ) → i < length rs → is_tail (get_or rs i d) ≡ true → (suc i ≡ length rs) × ((end (get_or rs i d)).0 ≡ c)) → tail_last c rs ≡ true
unfolding tail_last
at_tail c [] d h = refl
at_tail c (f ∷ fs) d h =
    by_cases (is_tail f)
    (λ a. let k = h 0 (omega arith) a in rw a (and_both (eq-eqb (length fs) 0 (omega arith)) (eq-eqb _ _ k.1)))
    (λ a. rw a (at_tail c fs d (λ i l t. let k = h (suc i) (omega arith) t in (omega (arith, k.0), k.1))))

-- the joined test, rule by rule
pub record Tests (d : Disc) : Type 0 where
  pub first : used_first d.fragments ≡ true
  pub begin : first_at_zero (records d) ≡ true
  pub order : in_order (records d) ≡ true
  pub ends : ends_within d.capacity (records d) ≡ true
  pub recorded : recorded_within (records d) ≡ true
  pub zeroed : zeroed_within (records d) ≡ true
  pub incomplete : incomplete_last (last_record d).session (records d) ≡ true
  pub tail : tail_last d.capacity (records d) ≡ true
  pub full : tail_or_full d ≡ true
  pub pending : pending_named d ≡ true
  pub closed : finalized_complete d ≡ true
  pub array : is_array d ≡ true

pub sound-tests : (d : Disc) → sound d ≡ true → Tests d
unfolding sound
sound-tests d e = grind arith

pub tests-sound : (d : Disc) → Tests d → sound d ≡ true
unfolding sound
tests-sound d t = grind arith

-- a test of every record in use, at an index and back
pub record_at : (p : Fragment → Bool) (d : Disc) (i : ℕ) → every p (records d) ≡ true → i < used d → p (at d i) ≡ true
record_at p d i e h = grind (arith, listed_at, every-at)

pub at_records : (p : Fragment → Bool) (d : Disc) → ((i : ℕ) → i < used d → p (at d i) ≡ true) → every p (records d) ≡ true
at_records p d h = at_every p (records d) unused_record (λ i l. rw (listed_at d.fragments i unused_record l) (h i l))

first-at :
    (rs : List Fragment) (d : Fragment)
    → first_at_zero rs ≡ true → (1 ≤ length rs) × ((get_or rs 0 d).session ≡ 1) × ((get_or rs 0 d).start.0 ≡ 0)
unfolding first_at_zero
first-at [] d e = absurd (contradiction e refl)
first-at (f ∷ fs) d e = grind (arith, nat_tests)

at_first :
    (rs : List Fragment) (d : Fragment) → 1 ≤ length rs → (get_or rs 0 d).session ≡ 1 → (get_or rs 0 d).start.0 ≡ 0 → first_at_zero rs ≡ true
unfolding first_at_zero
at_first [] d h s b = absurd (omega arith)
at_first (f ∷ fs) d h s b = and_both (eq-eqb _ _ s) (eq-eqb _ _ b)

-- the pending sectors
pending_some :
    (d : Disc) → pending_named d ≡ true → (d.pending ≡ 0 → ⊥)
    → (ltb d.pending 16 && is_listed d d.owner && not (complete (numbered d d.owner))) ≡ true
unfolding pending_named
pending_some d e z = rw (ne_eqb _ _ z) at e

pub pending_few : (d : Disc) → pending_named d ≡ true → d.pending < 16
pending_few d e =
    by_cases (eqb d.pending 0)
    (λ z. omega (arith, eqb-true d.pending 0 z))
    (λ z.
    let k = pending_some d e (eqb-false _ _ z) in
    ltb-true d.pending 16 (and_left (ltb d.pending 16) (is_listed d d.owner) (and_left (ltb d.pending 16 && is_listed d d.owner) _ k)))

pub pending_owned : (d : Disc) → pending_named d ≡ true → (d.pending ≡ 0 → ⊥) → Owned d
pending_owned d e z =
    let few = ltb d.pending 16 in
    let Some-number = not (eqb d.owner 0) in
    let k = pending_some d e z in
    let l = and_right few (is_listed d d.owner) (and_left (few && is_listed d d.owner) _ k) in
    let n = eqb-false d.owner 0 (not-true _ (and_left Some-number (leb d.owner (used d)) l)) in
    record {
      number = omega arith;
      listed = leb-true _ _ (and_right Some-number (leb d.owner (used d)) l);
      incomplete = not-true _ (and_right (few && is_listed d d.owner) _ k);
    }

pub owned_pending : (d : Disc) → d.pending < 16 → (d.pending ≡ 0 → d.owner ≡ 0) → ((d.pending ≡ 0 → ⊥) → Owned d) → pending_named d ≡ true
unfolding pending_named
owned_pending d few none owned = grind arith

pub sound-rules : (d : Disc) → sound d ≡ true → Sound d
unfolding ends_within recorded_within zeroed_within incomplete_last tail_or_full pending_named finalized_complete
sound-rules d e =
    let t = sound-tests d e in
    let begin = first-at (records d) unused_record t.begin in
    let zeroth = listed_at d.fragments 0 unused_record begin.0 in
    record {
      array = eqb-true _ _ t.array;
      some = begin.0;
      unused = λ i h. used_first-at d.fragments i t.first h;
      first_session = rw zeroth at begin.1;
      first_start = rw zeroth at begin.2;
      next =
          λ i h.
          follows_either (at d i) (at d (suc i))
          (rw (listed_at d.fragments i unused_record (omega arith), listed_at d.fragments (suc i) unused_record h)
          at (in_order-at (records d) i unused_record t.order h));
      ends = λ i h. leb-true _ _ (record_at (λ f. leb (end f).0 d.capacity) d i t.ends h);
      recorded = λ i h. leb-true _ _ (record_at (λ f. leb f.recorded f.length) d i t.recorded h);
      zeroed = λ i h. leb-true _ _ (record_at (λ f. leb f.zeroed (16 * f.recorded)) d i t.zeroed h);
      incomplete =
          λ i h n.
          or_cases (complete (at d i)) _
          (λ k. absurd (contradiction k n))
          (λ k. eqb-true _ _ k)
          (record_at (λ f. complete f || eqb f.session (last_record d).session) d i t.incomplete h);
      tail =
          λ i h a.
          let same = listed_at d.fragments i unused_record h in
          let k = tail_at d.capacity (records d) i unused_record t.tail h (rw same a) in
          (k.0, rw same at k.1);
      full =
          λ f a.
          let k : (eqb (used d) limit || leb d.capacity ((end (last_record d)).0 + 1)) ≡ true = rw (f, a) at t.full in
          or_cases (eqb (used d) limit) _ (λ m. inl (eqb-true _ _ m)) (λ m. inr (leb-true _ _ m)) k;
      few = pending_few d t.pending;
      none = λ z. eqb-true _ _ (rw (eq-eqb _ _ z) at t.pending);
      owned = pending_owned d t.pending;
      closed =
          λ f i h.
          let k : (every complete (records d) && eqb d.pending 0) ≡ true = rw f at t.closed in
          record_at complete d i (and_left (every complete (records d)) (eqb d.pending 0) k) h;
      settled =
          λ f.
          let k : (every complete (records d) && eqb d.pending 0) ≡ true = rw f at t.closed in
          eqb-true _ _ (and_right (every complete (records d)) (eqb d.pending 0) k);
    }

pub rules-sound : (d : Disc) → Sound d → sound d ≡ true
unfolding ends_within recorded_within zeroed_within incomplete_last tail_or_full finalized_complete
rules-sound d s =
    let fs = d.fragments in
    tests-sound d
    (record {
      first = at-used_first fs s.unused;
      begin =
          let zeroth = listed_at fs 0 unused_record s.some in
          at_first (records d) unused_record s.some (rw zeroth s.first_session) (rw zeroth s.first_start);
      order =
          at-in_order (records d) unused_record
          (λ i h.
          rw (listed_at fs i unused_record (omega arith), listed_at fs (suc i) unused_record h)
          (either_follows (at d i) (at d (suc i)) (s.next i h)));
      ends = at_records (λ f. leb (end f).0 d.capacity) d (λ i h. le-leb _ _ (s.ends i h));
      recorded = at_records (λ f. leb f.recorded f.length) d (λ i h. le-leb _ _ (s.recorded i h));
      zeroed = at_records (λ f. leb f.zeroed (16 * f.recorded)) d (λ i h. le-leb _ _ (s.zeroed i h));
      incomplete =
          at_records (λ f. complete f || eqb f.session (last_record d).session) d
          (λ i h. by_cases (complete (at d i)) (or_left _) (λ n. or_right (complete (at d i)) (eq-eqb _ _ (s.incomplete i h n))));
      tail =
          at_tail d.capacity (records d) unused_record
          (λ i h a. let same = listed_at fs i unused_record h in let k = s.tail i h (rw same at a) in (k.0, rw same k.1));
      full =
          by_cases d.finalized
          (λ f. rw f)
          (λ f.
          by_cases (has_tail d)
          (λ a. rw (f, a))
          (λ a. rw (f, a) (⊎_elim (λ m. or_left _ (eq-eqb _ _ m)) (λ m. or_right (eqb (used d) limit) (le-leb _ _ m)) (s.full f a))));
      pending = owned_pending d s.few s.none s.owned;
      closed =
          by_cases d.finalized
          (λ f. rw f (and_both (at_records complete d (s.closed f)) (eq-eqb _ _ (s.settled f))))
          (λ f. rw f);
      array = eq-eqb _ _ s.array;
    })
