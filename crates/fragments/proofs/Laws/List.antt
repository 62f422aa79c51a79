-- The list of records: its length, the records in use, tests of every record, and one step along it.
use Prim.Native.Nat.{ℕ, zero, suc, ◌+◌, ◌≤◌, ◌<◌}
use mathlib.Core.Path.{◌≡◌, refl, sym, ◌∙◌, ap}
use mathlib.Core.Bool.{Bool, true, false, not, ◌&&◌, ◌||◌}
use mathlib.Core.List.{List, [], ◌∷◌, map}
use native.Mathlib.Numerals.{add-one}
use native.Mathlib.Omega.{arith}
use borrow.Author.Tests.{eq-eqb, ne_eqb, eqb-true, eqb-false}
use lib.Dec.{eqb}
use lib.ListN.{length, get_or, set, drop, drop_of_length-le, length-map}
use lib.Seq.{drop-cons}
use Rattle.std.specs.List.{take_while, prefix_len, list_any}
use Rattle.std.proofs.lemmas.List.Sums.{take_while-cons}
use Rattle.fragments.specs.Types.{Fragment, Some, None}
use Rattle.fragments.specs.Address.{lba, later}
use Rattle.fragments.specs.Fragment.{unused, unused_record, last_readable_of}
use Rattle.fragments.specs.List.{limit, listed, every, some, find, sum_recorded, pending_of, highest_readable, first_of_session}
use Rattle.fragments.proofs.Laws.Bool.{and_left, and_right, and_both, or_left, or_right, or_cases, contradiction, by_cases}

-- a record's number stays below AAh, which is the lead-out's in a table of contents, and so below FFh, which 52h takes for the tail
pub limit_below : limit < 0xAA
limit_below = omega arith

-- the length of an array of structs, as what owning it tells has it
pub array_length : (X Y : Type 0) (f : X → Y) (l : List X) (n : ℕ) → length (map f l) ≡ n → length l ≡ n
array_length X Y f l n e = sym (length-map l f) ∙ e

pub every-step :
    (p : Fragment → Bool) (fs : List Fragment) (i : ℕ) (d : Fragment)
    → i < length fs → every p (drop i fs) ≡ (p (get_or fs i d) && every p (drop (i + 1) fs))
unfolding every
every-step p fs i d h = rw (add-one, drop-cons fs i d h)

pub every-end : (p : Fragment → Bool) (fs : List Fragment) (i : ℕ) → length fs ≤ i → every p (drop i fs) ≡ true
unfolding every
every-end p fs i h = rw (drop_of_length-le fs h)

-- a test of every record, at an index and back
pub every-at :
    (p : Fragment → Bool) (fs : List Fragment) (i : ℕ) (d : Fragment) → every p fs ≡ true → i < length fs → p (get_or fs i d) ≡ true
unfolding every
every-at p [] i d e h = absurd (omega arith)
every-at p (f ∷ fs) zero d e h = and_left (p f) (every p fs) e
every-at p (f ∷ fs) (suc i) d e h = every-at p fs i d (and_right (p f) (every p fs) e) (omega arith)

pub at_every :
    (p : Fragment → Bool) (fs : List Fragment) (d : Fragment) → ((i : ℕ) → i < length fs → p (get_or fs i d) ≡ true) → every p fs ≡ true
unfolding every
at_every p [] d h = refl
at_every p (f ∷ fs) d h = and_both (h 0 (omega arith)) (at_every p fs d (λ i l. h (suc i) (omega arith)))

pub every_implies :
    (p q : Fragment → Bool) (fs : List Fragment) → ((f : Fragment) → p f ≡ true → q f ≡ true) → every p fs ≡ true → every q fs ≡ true
unfolding every
every_implies p q [] h e = refl
every_implies p q (f ∷ fs) h e = and_both (h f (and_left (p f) (every p fs) e)) (every_implies p q fs h (and_right (p f) (every p fs) e))

-- a record is in use or not
pub use_cases {ℓ} : {P : Type ℓ} (f : Fragment) → (f.length ≡ 0 → P) → ((f.length ≡ 0 → ⊥) → P) → P
use_cases f off on = by_cases (eqb f.length 0) (λ e. off (eqb-true _ _ e)) (λ e. on (eqb-false _ _ e))

pub listed_none : listed [] ≡ []
unfolding listed
listed_none = refl

pub listed_off : (f : Fragment) (fs : List Fragment) → f.length ≡ 0 → listed (f ∷ fs) ≡ []
unfolding listed
listed_off f fs e = rw (eq-eqb _ _ e)

pub listed-on : (f : Fragment) (fs : List Fragment) → (f.length ≡ 0 → ⊥) → listed (f ∷ fs) ≡ f ∷ listed fs
unfolding listed
listed-on f fs e = rw (ne_eqb _ _ e)

-- in the words of std: the records in use are those before the first without a length, and the walks along them are std's
pub listed-is : (fs : List Fragment) → listed fs ≡ take_while (λ f. not (unused f)) fs
unfolding listed
listed-is [] = refl
listed-is (f ∷ fs) =
    by_cases (unused f) (λ e. rw e)
    (λ e. rw (take_while-cons (λ g. not (unused g)) f fs) (rw e (ap (λ (gs : List Fragment). f ∷ gs) (listed-is fs))))

pub some-is : (p : Fragment → Bool) (fs : List Fragment) → some p fs ≡ list_any p fs
unfolding some
some-is p [] = refl
some-is p (f ∷ fs) = ap (λ b. p f || b) (some-is p fs)

pub first_of_session-is :
    (s n : ℕ) (fs : List Fragment) → first_of_session s n fs ≡ prefix_len (λ f. not (eqb f.session s)) fs + n
unfolding first_of_session
first_of_session-is s n [] = omega arith
first_of_session-is s n (f ∷ fs) =
    by_cases (eqb f.session s) (λ e. rw e (omega arith)) (λ e. rw e (omega (arith, first_of_session-is s (n + 1) fs)))

pub listed_le : (fs : List Fragment) → length (listed fs) ≤ length fs
unfolding listed
listed_le [] = omega arith
listed_le (f ∷ fs) =
    use_cases f (λ e. rw (listed_off f fs e) (omega arith)) (λ e. rw (listed-on f fs e) (omega (arith, listed_le fs)))

-- a record in use, at its index
pub listed_at : (fs : List Fragment) (i : ℕ) (d : Fragment) → i < length (listed fs) → get_or (listed fs) i d ≡ get_or fs i d
unfolding listed
listed_at [] i d h = refl
listed_at (f ∷ fs) zero d h =
    use_cases f (λ e. absurd (let k : 0 < 0 = rw (listed_off f fs e) at h in omega arith)) (λ e. rw (listed-on f fs e))
listed_at (f ∷ fs) (suc i) d h =
    use_cases f
    (λ e. absurd (let k : suc i < 0 = rw (listed_off f fs e) at h in omega arith))
    (λ e.
    let k : suc i < suc (length (listed fs)) = rw (listed-on f fs e) at h in
    rw (listed-on f fs e) (listed_at fs i d (omega arith)))

pub listed-used : (fs : List Fragment) (i : ℕ) → i < length (listed fs) → (get_or fs i unused_record).length ≡ 0 → ⊥
unfolding listed
listed-used [] i h z = omega arith
listed-used (f ∷ fs) zero h z = let k : 0 < 0 = rw (listed_off f fs z) at h in omega arith
listed-used (f ∷ fs) (suc i) h z =
    use_cases f
    (λ e. let k : suc i < 0 = rw (listed_off f fs e) at h in omega arith)
    (λ e.
    let k : suc i < suc (length (listed fs)) = rw (listed-on f fs e) at h in
    listed-used fs i (omega arith) z)

-- the first index without a record in use is how many there are
pub listed_count :
    (fs : List Fragment) (n : ℕ)
    → ((i : ℕ) → i < n → (get_or fs i unused_record).length ≡ 0 → ⊥) → (get_or fs n unused_record).length ≡ 0 → length (listed fs) ≡ n
unfolding listed
listed_count [] zero h z = refl
listed_count [] (suc n) h z = absurd (h 0 (omega arith) refl)
listed_count (f ∷ fs) zero h z = rw (listed_off f fs z)
listed_count (f ∷ fs) (suc n) h z =
    rw (listed-on f fs (h 0 (omega arith))) (ap suc (listed_count fs n (λ i l. h (suc i) (omega arith)) z))

pub listed_stop : (fs : List Fragment) → (get_or fs (length (listed fs)) unused_record).length ≡ 0
unfolding listed
listed_stop [] = refl
listed_stop (f ∷ fs) =
    use_cases f (λ e. rw (listed_off f fs e) e) (λ e. rw (listed-on f fs e) (listed_stop fs))

-- one step along the records in use: none in use there, or one, for a session's first record and for the highest readable address
module _ (fs : List Fragment) (i : ℕ) (d : Fragment) (h : i < length fs) where
  pub listed-drop-off : (get_or fs i d).length ≡ 0 → listed (drop i fs) ≡ []
  listed-drop-off e = rw (drop-cons fs i d h) (listed_off (get_or fs i d) (drop (suc i) fs) e)

  pub listed-drop-on : ((get_or fs i d).length ≡ 0 → ⊥) → listed (drop i fs) ≡ get_or fs i d ∷ listed (drop (i + 1) fs)
  listed-drop-on e = rw (add-one, drop-cons fs i d h) (listed-on (get_or fs i d) (drop (suc i) fs) e)

  pub session-off : (s n : ℕ) → (get_or fs i d).length ≡ 0 → first_of_session s n (listed (drop i fs)) ≡ n
  unfolding first_of_session
  session-off s n e = rw (listed-drop-off e)

  pub session-here :
      (s n : ℕ) → ((get_or fs i d).length ≡ 0 → ⊥) → (get_or fs i d).session ≡ s → first_of_session s n (listed (drop i fs)) ≡ n
  unfolding first_of_session
  session-here s n e t = rw (listed-drop-on e) (rw (eq-eqb _ _ t))

  -- a record of another session is passed by
  pub session-on :
      (s n : ℕ) → ((get_or fs i d).length ≡ 0 → ⊥) → ((get_or fs i d).session ≡ s → ⊥)
      → first_of_session s n (listed (drop i fs)) ≡ first_of_session s (n + 1) (listed (drop (i + 1) fs))
  unfolding first_of_session
  session-on s n e t = rw (listed-drop-on e) (rw (ne_eqb _ _ t))

  pub highest-off : (p o n : ℕ) → (get_or fs i d).length ≡ 0 → highest_readable p o n (listed (drop i fs)) ≡ lba 0
  unfolding highest_readable
  highest-off p o n e = rw (listed-drop-off e)

  pub highest-more :
      (p o n : ℕ) → ((get_or fs i d).length ≡ 0 → ⊥)
      → highest_readable p o n (listed (drop i fs))
      ≡ later (last_readable_of (pending_of p o n) (get_or fs i d)) (highest_readable p o (n + 1) (listed (drop (i + 1) fs)))
  unfolding highest_readable
  highest-more p o n e = rw (listed-drop-on e)

-- and past the last record
pub listed-drop-end : (fs : List Fragment) (i : ℕ) → length fs ≤ i → listed (drop i fs) ≡ []
unfolding listed
listed-drop-end fs i h = rw (drop_of_length-le fs h)

pub session_end : (fs : List Fragment) (i s n : ℕ) → length fs ≤ i → first_of_session s n (listed (drop i fs)) ≡ n
unfolding first_of_session
session_end fs i s n h = rw (listed-drop-end fs i h)

pub highest-past : (fs : List Fragment) (i p o n : ℕ) → length fs ≤ i → highest_readable p o n (listed (drop i fs)) ≡ lba 0
unfolding highest_readable
highest-past fs i p o n h = rw (listed-drop-end fs i h)

-- the sum of the recorded blocks with one record changed
pub sum-set :
    (fs : List Fragment) (k : ℕ) (g d : Fragment)
    → k < length fs → sum_recorded (set fs k g) + (get_or fs k d).recorded ≡ sum_recorded fs + g.recorded
unfolding sum_recorded
sum-set [] k g d h = absurd (omega arith)
sum-set (f ∷ fs) zero g d h = omega arith
sum-set (f ∷ fs) (suc k) g d h = let r = sum-set fs k g d (omega arith) in omega arith

-- what a search finds: an index whose record passes the test
pub record Hit (p : ℕ → Fragment → Bool) (k n : ℕ) (rs : List Fragment) : Type 0 where
  pub index : ℕ
  pub number : n ≡ k + index
  pub within : index < length rs
  pub passes : p n (get_or rs index unused_record) ≡ true

pub find_hit : (p : ℕ → Fragment → Bool) (k n : ℕ) (rs : List Fragment) → find p k rs ≡ Some n → Hit p k n rs
unfolding find
find_hit p k n [] e = absurd (let z : ◌≡◌ {A = ℕ} 0 1 = cc in omega arith)
find_hit p k n (f ∷ fs) e =
    by_cases (p k f)
    (λ t.
    let w : Some k ≡ Some n = rw t at e in
    let same : k ≡ n = cc in
    record { index = 0; number = omega arith; within = omega arith; passes = rw (← same) t })
    (λ t.
    let h = find_hit p (k + 1) n fs (rw t at e) in
    record { index = suc h.index; number = omega (arith, h.number); within = omega (arith, h.within); passes = h.passes })

-- a search that finds nothing passes every record by
pub find_none :
    (p : ℕ → Fragment → Bool) (k : ℕ) (rs : List Fragment) → find p k rs ≡ None → (i : ℕ) → i < length rs
    → p (k + i) (get_or rs i unused_record) ≡ true → ⊥
unfolding find
find_none p k [] e i l t = omega (arith, l)
find_none p k (f ∷ fs) e zero l t =
    let here : k + 0 ≡ k = omega arith in
    let u : p k f ≡ true = rw here at t in
    let z : Some k ≡ None = rw u at e in
    let q : ◌≡◌ {A = ℕ} 0 1 = cc in
    omega arith
find_none p k (f ∷ fs) e (suc i) l t =
    let here : k + suc i ≡ (k + 1) + i = omega arith in
    by_cases (p k f)
    (λ u. let z : Some k ≡ None = rw u at e in let q : ◌≡◌ {A = ℕ} 0 1 = cc in omega arith)
    (λ u. find_none p (k + 1) fs (rw u at e) i (omega (arith, l)) (rw here at t))

-- one step of the walk for the highest readable address, and its end
pub highest-on :
    (fs : List Fragment) (i : ℕ) (d : Fragment) → i < length fs → (p o n : ℕ)
    → highest_readable p o n (drop i fs) ≡ later (last_readable_of (pending_of p o n) (get_or fs i d)) (highest_readable p o (n + 1) (drop (i + 1) fs))
unfolding highest_readable
highest-on fs i d h p o n = let e : i + 1 ≡ suc i = omega arith in rw (e, drop-cons fs i d h)

pub highest_end : (fs : List Fragment) (i p o n : ℕ) → length fs ≤ i → highest_readable p o n (drop i fs) ≡ lba 0
unfolding highest_readable
highest_end fs i p o n h = rw (drop_of_length-le fs h)

-- a test that some record in use passes, one step along the list, and past the last record
module _ (p : Fragment → Bool) (fs : List Fragment) (i : ℕ) (d : Fragment) (h : i < length fs) where
  pub some-off : (get_or fs i d).length ≡ 0 → some p (listed (drop i fs)) ≡ false
  unfolding some
  some-off e = rw (listed-drop-off fs i d h e)

  pub some-here : ((get_or fs i d).length ≡ 0 → ⊥) → p (get_or fs i d) ≡ true → some p (listed (drop i fs)) ≡ true
  unfolding some
  some-here e t = rw (listed-drop-on fs i d h e) (rw t)

  pub some-on : ((get_or fs i d).length ≡ 0 → ⊥) → p (get_or fs i d) ≡ false → some p (listed (drop i fs)) ≡ some p (listed (drop (i + 1) fs))
  unfolding some
  some-on e t = rw (listed-drop-on fs i d h e) (rw t)

pub some_end : (p : Fragment → Bool) (fs : List Fragment) (i : ℕ) → length fs ≤ i → some p (listed (drop i fs)) ≡ false
unfolding some
some_end p fs i h = rw (listed-drop-end fs i h)

-- a test that some record passes, at an index and back
pub some_cases :
    {P : Type 0} (p : Fragment → Bool) (fs : List Fragment) (d : Fragment)
    → ((i : ℕ) → i < length fs → p (get_or fs i d) ≡ true → P) → some p fs ≡ true → P
unfolding some
some_cases p [] d k e = absurd (contradiction e refl)
some_cases p (f ∷ fs) d k e =
    or_cases (p f) (some p fs) (λ h. k 0 (omega arith) h) (λ h. some_cases p fs d (λ i l t. k (suc i) (omega arith) t) h) e

pub at_some :
    (p : Fragment → Bool) (fs : List Fragment) (i : ℕ) (d : Fragment) → i < length fs → p (get_or fs i d) ≡ true → some p fs ≡ true
unfolding some
at_some p [] i d h e = absurd (omega arith)
at_some p (f ∷ fs) zero d h e = or_left (some p fs) e
at_some p (f ∷ fs) (suc i) d h e = or_right (p f) (at_some p fs i d (omega arith) e)
