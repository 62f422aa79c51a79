-- The closed sessions of some records in the words of std, a turn of a walk along the sessions, and a turn of the two walks along the list:
-- for the last fragment of the closed sessions, and for the first one of the last closed session.
use Prim.Native.Nat.{ℕ, ◌+◌, ◌≤◌, ◌<◌}
use mathlib.Core.Path.{◌≡◌, refl, sym, ap}
use mathlib.Core.Bool.{Bool, true, false, cond, not, ◌&&◌}
use mathlib.Core.List.{List, [], ◌∷◌, map}
use native.Mathlib.Omega.{arith}
use lib.ListN.{length, get_or, drop}
use lib.Dec.{eqb}
use Rattle.std.proofs.lemmas.List.{map-id}
use Rattle.std.specs.Prelude.{Option, None, Some, unwrap_or}
use Rattle.std.specs.List.{filter, last_or}
use Rattle.contents.specs.Types.{Fragment}
use Rattle.fragments.specs.List.{listed}
use Rattle.fragments.proofs.Laws.Bool.{and_left, and_right, by_cases}
use Rattle.fragments.proofs.Laws.List.{listed-drop-off, listed-drop-on, listed-drop-end}
use Rattle.contents.specs.Sessions.{is_closed, closed_of, firsts, last_from}

pub closed-is : (z : Bool) (s : ℕ) (fs : List Fragment) → closed_of z s fs ≡ filter (is_closed z s) fs
unfolding closed_of
closed-is z s [] = refl
closed-is z s (f ∷ fs) = by_cases (is_closed z s f) (λ e. rw e (ap (λ (gs : List Fragment). f ∷ gs) (closed-is z s fs))) (λ e. rw e (closed-is z s fs))

-- the last item of a chain
last-or : (o : Option Fragment) (d : Fragment) (xs : List Fragment) → unwrap_or (last_or o xs) d ≡ last_from (unwrap_or o d) xs
unfolding last_from
last-or o d [] = refl
last-or o d (x ∷ xs) = last-or (Some x) d xs

pub last-is :
    (d : Fragment) (xs all : List Fragment) (o : Option Fragment) → map (λ x. x) xs ≡ all → o ≡ last_or None xs → unwrap_or o d ≡ last_from d all
last-is d xs all o items e = rw (e, ← items, map-id) (last-or None d xs)

not_true : (b : Bool) → not b ≡ true → b ≡ false
not_true true e = sym e
not_true false e = refl

-- one fragment more: it is the first one of a closed session, or is passed over; and none
module _ (z : Bool) (s b : ℕ) (fs rest : List Fragment) (f : Fragment) (more : fs ≡ f ∷ rest) where
  pub sessions-on :
      (not (eqb f.session b) && is_closed z s f) ≡ true → closed_of z s (firsts b fs) ≡ f ∷ closed_of z s (firsts f.session rest)
  unfolding firsts closed_of
  sessions-on e =
      let other : eqb f.session b ≡ false = not_true (eqb f.session b) (and_left _ _ e) in
      rw (more, other, and_right (not (eqb f.session b)) _ e)

  pub sessions-off : (not (eqb f.session b) && is_closed z s f) ≡ false → closed_of z s (firsts b fs) ≡ closed_of z s (firsts f.session rest)
  unfolding firsts closed_of
  sessions-off e =
      by_cases (eqb f.session b) (λ t. rw (more, t))
      (λ t. let open-one : is_closed z s f ≡ false = rw t at e in rw (more, t, open-one))

pub sessions_none : (z : Bool) (s b : ℕ) (fs : List Fragment) → length fs ≡ 0 → closed_of z s (firsts b fs) ≡ []
unfolding firsts closed_of
sessions_none z s b [] h = refl
sessions_none z s b (f ∷ fs) h = absurd (omega arith)

-- the closed sessions are no more than the fragments
pub sessions-le : (z : Bool) (s b : ℕ) (fs : List Fragment) → length (closed_of z s (firsts b fs)) ≤ length fs
unfolding firsts closed_of
sessions-le z s b [] = omega arith
sessions-le z s b (f ∷ fs) =
    let less = sessions-le z s f.session fs in
    by_cases (eqb f.session b) (λ e. rw e (omega (arith, less)))
    (λ e. by_cases (is_closed z s f) (λ q. rw (e, q) (omega (arith, less))) (λ q. rw (e, q) (omega (arith, less))))

-- one fragment more of the walk for the last one
pub last_next :
    (z : Bool) (s : ℕ) (f g : Fragment) (fs : List Fragment) → last_from g (closed_of z s (f ∷ fs)) ≡ last_from (cond (is_closed z s f) f g) (closed_of z s fs)
unfolding closed_of last_from
last_next z s f g fs = by_cases (is_closed z s f) (λ e. rw e) (λ e. rw e)

pub first_next :
    (z : Bool) (s b : ℕ) (f g : Fragment) (fs : List Fragment)
    → last_from g (closed_of z s (firsts b (f ∷ fs)))
    ≡ last_from (cond (eqb f.session b) g (cond (is_closed z s f) f g)) (closed_of z s (firsts f.session fs))
unfolding firsts
first_next z s b f g fs = by_cases (eqb f.session b) (λ e. rw e) (λ e. rw e (last_next z s f g (firsts f.session fs)))

-- a turn of a walk along the records of a disc, and its end
module _ (z : Bool) (s : ℕ) (fs : List Fragment) (i : ℕ) (d g : Fragment) where
  pub last_on :
      i < length fs → ((get_or fs i d).length ≡ 0 → ⊥)
      → last_from g (closed_of z s (listed (drop i fs))) ≡ last_from (cond (is_closed z s (get_or fs i d)) (get_or fs i d) g) (closed_of z s (listed (drop (i + 1) fs)))
  last_on h e = rw (listed-drop-on fs i d h e) (last_next z s (get_or fs i d) g (listed (drop (i + 1) fs)))

  pub last_off : i < length fs → (get_or fs i d).length ≡ 0 → last_from g (closed_of z s (listed (drop i fs))) ≡ g
  unfolding closed_of last_from
  last_off h e = rw (listed-drop-off fs i d h e)

  pub last_end : length fs ≤ i → last_from g (closed_of z s (listed (drop i fs))) ≡ g
  unfolding closed_of last_from
  last_end h = rw (listed-drop-end fs i h)

  pub first_on :
      (b : ℕ) → i < length fs → ((get_or fs i d).length ≡ 0 → ⊥)
      → last_from g (closed_of z s (firsts b (listed (drop i fs))))
      ≡ last_from (cond (eqb (get_or fs i d).session b) g (cond (is_closed z s (get_or fs i d)) (get_or fs i d) g))
      (closed_of z s (firsts (get_or fs i d).session (listed (drop (i + 1) fs))))
  first_on b h e = rw (listed-drop-on fs i d h e) (first_next z s b (get_or fs i d) g (listed (drop (i + 1) fs)))

  pub first_off : (b : ℕ) → i < length fs → (get_or fs i d).length ≡ 0 → last_from g (closed_of z s (firsts b (listed (drop i fs)))) ≡ g
  unfolding firsts closed_of last_from
  first_off b h e = rw (listed-drop-off fs i d h e)

  pub first-end : (b : ℕ) → length fs ≤ i → last_from g (closed_of z s (firsts b (listed (drop i fs)))) ≡ g
  unfolding firsts closed_of last_from
  first-end b h = rw (listed-drop-end fs i h)
