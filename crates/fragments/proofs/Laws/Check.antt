-- The walk along the list, step by step.
use Prim.Native.Nat.{ℕ, suc, ◌+◌, ◌-◌, ◌≤◌, ◌<◌}
use mathlib.Core.Path.{◌≡◌, refl, sym, ◌∙◌, ap}
use mathlib.Core.Bool.{Bool, true, false, not, ◌&&◌, ◌||◌, and-false}
use mathlib.Core.List.{List, [], ◌∷◌}
use borrow.Author.Tests.{eq-eqb, ne_eqb, eqb-true, eqb-false}
use denote.Enum.Declared.{tag_of}
use lib.Bits.{bit_or}
use lib.Dec.{eqb}
use lib.ListN.{length, get_or, take, drop, drop_of_length-le}
use native.Mathlib.Numerals.{add-one}
use native.Mathlib.Omega.{arith}
use lib.Seq.{drop-cons, take_all}
use Rattle.fragments.specs.contracts.fragment.Kind.{the_type}
use Rattle.fragments.specs.Types.{Kind, Reserved, Appended, Fragment}
use Rattle.fragments.specs.Fragment.{fragment, unused, is_reserved, is_zero, end, complete, is_tail, next_fragment_start, next_session_start}
use Rattle.fragments.specs.List.{listed, every}
use Rattle.fragments.proofs.Laws.Bool.{cond_yes, cond_no, and_right, and_true, and_assoc, and_rows, or_cases, by_cases}
use Rattle.fragments.proofs.Laws.Numbers.{or_zero}
use Rattle.fragments.proofs.Laws.List.{use_cases, listed_none, listed_off, listed-on, every-step, every-end}
use Rattle.fragments.specs.Check.{within, begins_list, continues, open_after, ends_list, walk, list_sound, walk_in_use, in_use_sound}

-- the walk along the list is that along the records in use, and the rest zero
abbrev pub rest : List Fragment → List Fragment
rest fs = drop (length (listed fs)) fs

walk-is :
    (fs : List Fragment) (c : ℕ) (fin o : Bool) (p : Fragment)
    → walk c fin o p fs ≡ (walk_in_use c fin (eqb (length (rest fs)) 0) o p (listed fs) && every is_zero (rest fs))
unfolding walk walk_in_use every
walk-is [] c fin o p = rw listed_none (sym (and_true _))
walk-is (f ∷ fs) c fin o p =
    use_cases f
    (λ e.
    cond_yes (unused f) _ _ (eq-eqb _ _ e)
    ∙ rw (listed_off f fs e) (ap (λ b. walk_in_use c fin b o p [] && every is_zero (f ∷ fs)) (sym (ne_eqb (suc (length fs)) 0 (λ z. omega arith)))))
    (λ e.
    cond_no (unused f) _ _ (ne_eqb _ _ e)
    ∙ (ap (λ b. within c f && continues o p f && b) (walk-is fs c fin (open_after o p f) f)
    ∙ (and_assoc (within c f && continues o p f) (walk_in_use c fin (eqb (length (rest fs)) 0) (open_after o p f) f (listed fs)) (every is_zero (rest fs))
    ∙ rw (listed-on f fs e))))

begins_none : (f : Fragment) → f.length ≡ 0 → begins_list f ≡ false
unfolding begins_list
begins_none f e = rw (eq-eqb _ _ e)

list-is :
    (fs : List Fragment) (c : ℕ) (fin : Bool)
    → list_sound c fin fs ≡ (in_use_sound c fin (eqb (length (rest fs)) 0) (listed fs) && every is_zero (rest fs))
unfolding list_sound in_use_sound
list-is [] c fin = rw listed_none
list-is (f ∷ fs) c fin =
    use_cases f
    (λ e. rw (listed_off f fs e) (ap (λ b. b && within c f && walk c fin (not (complete f)) f fs) (begins_none f e)))
    (λ e.
    ap (λ b. begins_list f && within c f && b) (walk-is fs c fin (not (complete f)) f)
    ∙ (and_assoc (begins_list f && within c f) (walk_in_use c fin (eqb (length (rest fs)) 0) (not (complete f)) f (listed fs)) (every is_zero (rest fs))
    ∙ rw (listed-on f fs e)))

-- the same of two parts that are given
pub list-parts :
    (fs rs part : List Fragment) (c : ℕ) (fin empty sound : Bool)
    → rs ≡ listed fs → part ≡ drop (length rs) fs → empty ≡ eqb (length part) 0 → sound ≡ in_use_sound c fin empty rs
    → list_sound c fin fs ≡ (sound && every is_zero part)
list-parts fs rs part c fin empty sound r p m s = rw (s, m, p, r) (list-is fs c fin)

-- none in use, or a first one, and one step of the walk
pub none_sound : (fs : List Fragment) (c : ℕ) (fin full : Bool) → length fs < 1 → false ≡ in_use_sound c fin full fs
unfolding in_use_sound
none_sound [] c fin full h = refl
none_sound (f ∷ fs) c fin full h = absurd (omega arith)

pub some_sound :
    (fs : List Fragment) (d : Fragment) (c : ℕ) (fin full : Bool) → 1 ≤ length fs → in_use_sound c fin full fs
    ≡ (begins_list (get_or fs 0 d) && within c (get_or fs 0 d)
    && walk_in_use c fin full (not (complete (get_or fs 0 d))) (get_or fs 0 d) (take (length fs - 1) (drop 1 fs)))
unfolding in_use_sound
some_sound [] d c fin full h = absurd (omega arith)
some_sound (f ∷ fs) d c fin full h =
    let e : take (suc (length fs) - 1) fs ≡ fs = take_all _ fs (omega arith) in
    ap (λ gs. begins_list f && within c f && walk_in_use c fin full (not (complete f)) f gs) (sym e)

module _ (fs : List Fragment) (d : Fragment) (c : ℕ) (fin full : Bool) where
  pub walk-on :
      (i : ℕ) (o : Bool) (p : Fragment) → i < length fs → walk_in_use c fin full o p (drop i fs)
      ≡ (within c (get_or fs i d) && continues o p (get_or fs i d)
      && walk_in_use c fin full (open_after o p (get_or fs i d)) (get_or fs i d) (drop (i + 1) fs))
  unfolding walk_in_use
  walk-on i o p h = let e : i + 1 ≡ suc i = omega arith in rw (e, drop-cons fs i d h)

  pub walk_end : (i : ℕ) (o : Bool) (p : Fragment) → length fs ≤ i → walk_in_use c fin full o p (drop i fs) ≡ ends_list c fin full o p
  unfolding walk_in_use
  walk_end i o p h = rw (drop_of_length-le fs h)

-- the first record, and after it the walk along the others
pub list-start :
    (fs : List Fragment) (d : Fragment) (c : ℕ) (fin : Bool)
    → 0 < length fs → list_sound c fin fs
    ≡ (begins_list (get_or fs 0 d) && within c (get_or fs 0 d) && walk c fin (not (complete (get_or fs 0 d))) (get_or fs 0 d) (drop 1 fs))
unfolding list_sound
list-start [] d c fin h = absurd (omega arith)
list-start (f ∷ fs) d c fin h = refl

-- the record at an index of the walk along the whole list: none in use there, or one that must fit
module _ (fs : List Fragment) (i : ℕ) (d : Fragment) (h : i < length fs) (c : ℕ) (fin o : Bool) (p : Fragment) where
  pub walk-stop : (get_or fs i d).length ≡ 0 → walk c fin o p (drop i fs) ≡ (ends_list c fin false o p && every is_zero (drop i fs))
  unfolding walk
  walk-stop e = rw (drop-cons fs i d h) (rw (eq-eqb _ _ e))

  pub walk-more :
      ((get_or fs i d).length ≡ 0 → ⊥) → walk c fin o p (drop i fs)
      ≡ (within c (get_or fs i d) && continues o p (get_or fs i d) && walk c fin (open_after o p (get_or fs i d)) (get_or fs i d) (drop (i + 1) fs))
  unfolding walk
  walk-more e = rw (add-one, drop-cons fs i d h) (rw (ne_eqb _ _ e))

pub walk-past : (fs : List Fragment) (i c : ℕ) (fin o : Bool) (p : Fragment) → length fs ≤ i → walk c fin o p (drop i fs) ≡ ends_list c fin true o p
unfolding walk
walk-past fs i c fin o p h = rw (drop_of_length-le fs h)

-- that walk at its end: past the last record, or at the first one that is not in use
pub walk-over :
    (fs : List Fragment) (i end n c : ℕ) (fin o : Bool) (p : Fragment) (s : Bool)
    → length fs ≡ n → i ≡ end → end ≤ n → s ≡ walk c fin o p (drop i fs)
    → (end < n → s ≡ (ends_list c fin false o p && every is_zero (drop end fs)))
    → s ≡ (ends_list c fin (eqb end n) o p && every is_zero (drop i fs))
walk-over fs i end n c fin o p s l e m w stop =
    by_cases (eqb end n)
    (λ t.
    let at-end = eqb-true end n t in
    w
    ∙ (walk-past fs i c fin o p (omega arith)
    ∙ (sym (and_true (ends_list c fin true o p))
    ∙ (ap (λ b. ends_list c fin true o p && b) (sym (every-end is_zero fs i (omega arith)))
    ∙ ap (λ b. ends_list c fin b o p && every is_zero (drop i fs)) (sym t)))))
    (λ t.
    let before = eqb-false end n t in
    stop (omega arith)
    ∙ (ap (λ k. ends_list c fin false o p && every is_zero (drop k fs)) (sym e)
    ∙ ap (λ b. ends_list c fin b o p && every is_zero (drop i fs)) (sym t)))

-- a record whose fields are those of an unused one, in the order of the fields
rows : (a b c d e k : Bool) → (b && (c && (d && (e && (a && k))))) ≡ (a && b && c && d && e && k)
rows true b c d e k = simp (and_assoc, and_true)
rows false b c d e k = simp and-false

pub same_zero :
    (f : Fragment) → (eqb f.start.0 0 && (eqb f.length 0 && (eqb f.recorded 0 && (eqb f.zeroed 0 && (eqb f.session 0 && eqb (tag_of the_type f.kind) 0))))) ≡ is_zero f
same_zero f =
    rw (tag_zero f.kind) (rows (eqb f.session 0) (eqb f.start.0 0) (eqb f.length 0) (eqb f.recorded 0) (eqb f.zeroed 0) (is_reserved f.kind))
  where
    tag_zero : (k : Kind) → eqb (tag_of the_type k) 0 ≡ is_reserved k
    tag_zero Reserved = refl
    tag_zero Appended = refl

-- two records joined bit by bit
pub joined_zero :
    (a b : Fragment) (k : Kind)
    → is_reserved k ≡ (is_reserved a.kind && is_reserved b.kind)
    → is_zero (fragment (bit_or a.session b.session) (bit_or a.start.0 b.start.0) (bit_or a.length b.length) (bit_or a.recorded b.recorded) (bit_or a.zeroed b.zeroed) k)
    ≡ (is_zero a && is_zero b)
joined_zero a b k e =
    rw (
      or_zero a.session b.session,
      or_zero a.start.0 b.start.0,
      or_zero a.length b.length,
      or_zero a.recorded b.recorded,
      or_zero a.zeroed b.zeroed,
      e,
    )
    (and_rows (eqb a.session 0) (eqb a.start.0 0) (eqb a.length 0) (eqb a.recorded 0) (eqb a.zeroed 0) (is_reserved a.kind)
    (eqb b.session 0) (eqb b.start.0 0) (eqb b.length 0) (eqb b.recorded 0) (eqb b.zeroed 0) (is_reserved b.kind))

-- the rest of the records, joined, beside an outcome `e` that is known: one more of them, and all
pub rest_more :
    (fs : List Fragment) (i : ℕ) (d rest r : Fragment) (s e : Bool)
    → i < length fs → s ≡ (e && (is_zero rest && every is_zero (drop i fs))) → is_zero r ≡ (is_zero rest && is_zero (get_or fs i d))
    → s ≡ (e && (is_zero r && every is_zero (drop (i + 1) fs)))
rest_more fs i d rest r s e h so j =
    so
    ∙ ap (λ b. e && b)
    (ap (λ b. is_zero rest && b) (every-step is_zero fs i d h)
    ∙ (and_assoc (is_zero rest) (is_zero (get_or fs i d)) (every is_zero (drop (i + 1) fs)) ∙ ap (λ b. b && every is_zero (drop (i + 1) fs)) (sym j)))

pub rest_all :
    (fs : List Fragment) (i : ℕ) (rest : Fragment) (s e : Bool)
    → length fs ≤ i → s ≡ (e && (is_zero rest && every is_zero (drop i fs))) → (e && is_zero rest) ≡ s
rest_all fs i rest s e h so =
    sym (so ∙ ap (λ b. e && b) (ap (λ b. is_zero rest && b) (every-end is_zero fs i h) ∙ and_true (is_zero rest)))

-- a record that may stand after another leaves a block between them
pub continues_apart : (o : Bool) (p f : Fragment) → continues o p f ≡ true → (end p).0 + 1 ≤ f.start.0
unfolding continues
continues_apart o p f e =
    let same = eqb f.session p.session in
    let near = eqb f.start.0 (next_fragment_start (end p)).0 in
    let later = eqb f.session (p.session + 1) in
    let far = eqb f.start.0 (next_session_start (end p)).0 in
    or_cases (same && near) (not o && (later && far))
    (λ s. omega (arith, eqb-true f.start.0 (next_fragment_start (end p)).0 (and_right same near s)))
    (λ s. omega (arith, eqb-true f.start.0 (next_session_start (end p)).0 (and_right later far (and_right (not o) (later && far) s))))
    (and_right (not (is_tail p)) (same && near || not o && (later && far)) e)
