-- The walk along the list tests the rules of a sound list.
use Rattle.std.proofs.lemmas.Bool.Decides.{nat_tests}
use Prim.Native.Nat.{ℕ, suc, ◌+◌, ◌-◌, ◌≤◌, ◌<◌}
use mathlib.Core.Path.{◌≡◌, refl, sym, ◌∙◌}
use mathlib.Core.Bool.{Bool, true, false, not, ◌&&◌, ◌||◌, or-true, or-false, and-false as and_zero}
use mathlib.Core.List.{List, [], ◌∷◌}
use borrow.Author.Tests.{eq-eqb, ne_eqb, eqb-true, eqb-false, le-ltb, not-true}
use lib.ListN.{length, get_or}
use native.Mathlib.Omega.{arith}
use Rattle.fragments.proofs.Laws.Bool.{and_left, and_right, and_both, by_cases, or_left, or_right, or_cases, contradiction, same_test}
use Rattle.disc.specs.Types.{Fragment, Disc}
use lib.Dec.{eqb, leb, eqb-zero-suc, eqb-suc-suc}
use Rattle.fragments.specs.Fragment.{unused_record, unused, end, complete, is_tail, next_fragment_start, next_session_start, is_zero}
use Rattle.fragments.specs.List.{limit, every, listed}
use Rattle.disc.specs.Records.{records, used, numbered, has_tail}
use Rattle.fragments.specs.Address.{sectors_in}
use Rattle.disc.specs.Sound.{used_first, first_at_zero, follows, follows_from, in_order, ends_within, recorded_within, zeroed_within, incomplete_last, tail_last, tail_or_full, pending_named, finalized_complete, sound, owner_incomplete}
use Rattle.fragments.proofs.Laws.List.{every_implies, use_cases, listed_off, listed-on, listed_le}
use Rattle.disc.proofs.Laws.Rules.{used_first-at, Tests, sound-tests, tests-sound, pending_few, pending_owned, owned_pending, record_at}
use Rattle.fragments.specs.Check.{within, begins_list, continues, open_after, ends_list, walk, list_sound}

-- the last of p and the records after it
abbrev last_of : Fragment → List Fragment → Fragment
last_of p [] = p
last_of p (f ∷ fs) = last_of f fs

-- what the walk tests of the records rs after p; o says that a fragment of p's session is incomplete, full that none is free after rs
record Rest (c : ℕ) (fin full o : Bool) (p : Fragment) (rs : List Fragment) : Type 0 where
  follow : follows_from p rs ≡ true
  fit : every (within c) rs ≡ true
  session : o ≡ true → (last_of p rs).session ≡ p.session
  incomplete : every (λ f. complete f || eqb f.session (last_of p rs).session) rs ≡ true
  tail : tail_last c (p ∷ rs) ≡ true
  room : fin ≡ false → is_tail (last_of p rs) ≡ false → (full || leb c ((end (last_of p rs)).0 + 1)) ≡ true
  closed : fin ≡ true → o ≡ false
  all : fin ≡ true → every complete rs ≡ true

-- no record after p
ends-rest : (c : ℕ) (fin full o : Bool) (p : Fragment) → (complete p ≡ false → o ≡ true) → ends_list c fin full o p ≡ true → Rest c fin full o p []
unfolding ends_list follows_from every tail_last
ends-rest c true full o p m e = grind (arith, nat_tests)
ends-rest c false full o p m e = grind (arith, nat_tests)

rest-ends : (c : ℕ) (fin full o : Bool) (p : Fragment) → Rest c fin full o p [] → ends_list c fin full o p ≡ true
unfolding ends_list follows_from every tail_last
rest-ends c true full o p r = rw (r.closed refl)
rest-ends c false full o p r = grind (arith, nat_tests)

-- a record that follows is in the same session or in the next one
follows_cases :
    {P : Type 0} (p f : Fragment)
    → (f.session ≡ p.session → f.start.0 ≡ (next_fragment_start (end p)).0 → P)
    → (f.session ≡ p.session + 1 → f.start.0 ≡ (next_session_start (end p)).0 → P) → follows p f ≡ true → P
follows_cases p f here there e = grind arith

-- sessions never fall along a list
sessions-rise : (p : Fragment) (rs : List Fragment) → follows_from p rs ≡ true → p.session ≤ (last_of p rs).session
unfolding follows_from
sessions-rise p [] e = omega arith
sessions-rise p (f ∷ fs) e = grind (arith, nat_tests, sessions-rise f fs)

-- what `continues` says
continues-tail : (o : Bool) (p f : Fragment) → continues o p f ≡ true → is_tail p ≡ false
unfolding continues
continues-tail o p f e = not-true (is_tail p) (and_left (not (is_tail p)) _ e)

continues-follows : (o : Bool) (p f : Fragment) → continues o p f ≡ true → follows p f ≡ true
unfolding continues
continues-follows true p f e = grind (arith, nat_tests)
continues-follows false p f e = and_right (not (is_tail p)) (follows p f) e

continues_open : (o : Bool) (p f : Fragment) → o ≡ true → continues o p f ≡ true → f.session ≡ p.session
unfolding continues
continues_open true p f h e = grind (arith, nat_tests)
continues_open false p f h e = absurd (contradiction h refl)

open_incomplete : (o : Bool) (p f : Fragment) → complete f ≡ false → open_after o p f ≡ true
unfolding open_after
open_incomplete o p f e = rw e (or-true (eqb f.session p.session && o))

open_same : (o : Bool) (p f : Fragment) → o ≡ true → f.session ≡ p.session → open_after o p f ≡ true
unfolding open_after
open_same o p f h e = rw (h, eq-eqb _ _ e)

-- one record more
module _ (c : ℕ) (fin full o : Bool) (p f : Fragment) (rs : List Fragment) where
  step-rest : within c f ≡ true → continues o p f ≡ true → Rest c fin full (open_after o p f) f rs → Rest c fin full o p (f ∷ rs)
  unfolding follows_from every tail_last
  step-rest w k r =
      record {
        follow = and_both (continues-follows o p f k) r.follow;
        fit = and_both w r.fit;
        session = λ h. r.session (open_same o p f h (continues_open o p f h k)) ∙ continues_open o p f h k;
        incomplete =
            and_both
            (by_cases (complete f) (or_left _) (λ h. or_right (complete f) (eq-eqb _ _ (sym (r.session (open_incomplete o p f h))))))
            r.incomplete;
        tail = rw (continues-tail o p f k) r.tail;
        room = r.room;
        closed =
            λ h.
            by_cases o (λ t. absurd (contradiction (open_same o p f t (continues_open o p f t k)) (r.closed h))) (λ t. t);
        all =
            λ h.
            and_both (by_cases (complete f) (λ t. t) (λ t. absurd (contradiction (open_incomplete o p f t) (r.closed h)))) (r.all h);
      }

  module _ (r : Rest c fin full o p (f ∷ rs)) where
    rest-tail : is_tail p ≡ false
    unfolding tail_last
    rest-tail = grind arith

    rest-fit : within c f ≡ true
    unfolding every
    rest-fit = and_left (within c f) (every (within c) rs) r.fit

    rest-follows : follows p f ≡ true
    unfolding follows_from
    rest-follows = and_left (follows p f) (follows_from f rs) r.follow

    rest-continues : continues o p f ≡ true
    unfolding continues follows_from
    rest-continues =
        and_both {a = not (is_tail p)} (rw rest-tail)
        (follows_cases p f
        (λ s b. or_left _ (and_both (eq-eqb _ _ s) (eq-eqb _ _ b)))
        (λ s b. or_right (eqb f.session p.session && eqb f.start.0 (next_fragment_start (end p)).0) (and_both {a = not o} (by_cases o (λ t. absurd (omega (arith, r.session t, sessions-rise f rs (and_right (follows p f) (follows_from f rs) r.follow)))) (λ t. rw t)) (and_both (eq-eqb _ _ s) (eq-eqb _ _ b))))
        rest-follows)

    rest-step : Rest c fin full (open_after o p f) f rs
    unfolding follows_from every tail_last open_after
    rest-step =
        let fit-incomplete = r.incomplete in
        record {
          follow = and_right (follows p f) (follows_from f rs) r.follow;
          fit = and_right (within c f) (every (within c) rs) r.fit;
          session =
              λ h.
              or_cases (eqb f.session p.session && o) (not (complete f))
              (λ k. r.session (and_right (eqb f.session p.session) o k) ∙ sym (eqb-true _ _ (and_left (eqb f.session p.session) o k)))
              (λ k. or_cases (complete f) _ (λ t. absurd (contradiction t (not-true _ k))) (λ t. sym (eqb-true _ _ t)) (and_left (complete f || eqb f.session (last_of f rs).session) _ fit-incomplete))
              h;
          incomplete = and_right (complete f || eqb f.session (last_of f rs).session) _ fit-incomplete;
          tail = rw rest-tail at r.tail;
          room = r.room;
          closed = λ h. rw (r.closed h, and_left (complete f) (every complete rs) (r.all h)) (or-false _ ∙ and_zero (eqb f.session p.session));
          all = λ h. and_right (complete f) (every complete rs) (r.all h);
        }

-- the walk tests the rules, and no more
walk-rest :
    (fs : List Fragment) (c : ℕ) (fin o : Bool) (p : Fragment)
    → (complete p ≡ false → o ≡ true) → walk c fin o p fs ≡ true
    → (used_first fs ≡ true) × Rest c fin (eqb (length (listed fs)) (length fs)) o p (listed fs)
unfolding walk used_first listed
walk-rest [] c fin o p m e = (refl, ends-rest c fin true o p m e)
walk-rest (f ∷ fs) c fin o p m e =
    by_cases (unused f)
    (λ z.
    let k : (ends_list c fin false o p && every is_zero (f ∷ fs)) ≡ true = rw z at e in
    rw (z, eqb-zero-suc (length fs)) (
      and_right (ends_list c fin false o p) (every is_zero (f ∷ fs)) k,
      ends-rest c fin false o p m (and_left (ends_list c fin false o p) (every is_zero (f ∷ fs)) k),
    ))
    (λ z.
    let w = walk c fin (open_after o p f) f fs in
    let k : (within c f && continues o p f && w) ≡ true = rw z at e in
    let j = and_left (within c f && continues o p f) w k in
    let r =
    walk-rest fs c fin (open_after o p f) f (open_incomplete o p f) (and_right (within c f && continues o p f) w k) in
    rw (z, eqb-suc-suc (length (listed fs)) (length fs)) (
      r.0,
      step-rest c fin (eqb (length (listed fs)) (length fs)) o p f (listed fs)
          (and_left (within c f) (continues o p f) j)
          (and_right (within c f) (continues o p f) j)
          r.1,
    ))

rest-walk :
    (fs : List Fragment) (c : ℕ) (fin o : Bool) (p : Fragment)
    → used_first fs ≡ true → Rest c fin (eqb (length (listed fs)) (length fs)) o p (listed fs) → walk c fin o p fs ≡ true
unfolding walk used_first listed
rest-walk [] c fin o p u r = rest-ends c fin true o p r
rest-walk (f ∷ fs) c fin o p u r =
    by_cases (unused f)
    (λ z. rw z (and_both (rest-ends c fin false o p (rw (z, eqb-zero-suc (length fs)) at r)) (rw z at u)))
    (λ z.
    let full = eqb (length (listed fs)) (length fs) in
    let k : Rest c fin full o p (f ∷ listed fs) = rw (z, eqb-suc-suc (length (listed fs)) (length fs)) at r in
    rw z
    (and_both
    (and_both (rest-fit c fin full o p f (listed fs) k) (rest-continues c fin full o p f (listed fs) k))
    (rest-walk fs c fin (open_after o p f) f (rw z at u) (rest-step c fin full o p f (listed fs) k))))

-- the last record, by its index and along the list
last_of_lem : (p : Fragment) (gs : List Fragment) → get_or (p ∷ gs) (length (listed gs)) unused_record ≡ last_of p (listed gs)
unfolding listed
last_of_lem p [] = refl
last_of_lem p (f ∷ gs) = grind (arith, nat_tests, last_of_lem f gs)

-- the rules that speak of the records alone: rs are those in use, l the last of them, full says that none is free
record Parts (c : ℕ) (fin full : Bool) (rs : List Fragment) (l : Fragment) : Type 0 where
  begin : first_at_zero rs ≡ true
  order : in_order rs ≡ true
  fit : every (within c) rs ≡ true
  incomplete : incomplete_last l.session rs ≡ true
  tail : tail_last c rs ≡ true
  room : fin ≡ false → is_tail l ≡ false → (full || leb c ((end l).0 + 1)) ≡ true
  all : fin ≡ true → every complete rs ≡ true

module _ (c : ℕ) (fin full : Bool) (f : Fragment) (rs : List Fragment) where
  rest-parts : begins_list f ≡ true → within c f ≡ true → Rest c fin full (not (complete f)) f rs → Parts c fin full (f ∷ rs) (last_of f rs)
  unfolding begins_list first_at_zero in_order incomplete_last every
  rest-parts b w r = grind arith

  parts-begin : (f.length ≡ 0 → ⊥) → Parts c fin full (f ∷ rs) (last_of f rs) → begins_list f ≡ true
  unfolding begins_list first_at_zero
  parts-begin u t = grind arith

  parts-fit : Parts c fin full (f ∷ rs) (last_of f rs) → within c f ≡ true
  unfolding every
  parts-fit t = and_left (within c f) (every (within c) rs) t.fit

  parts-rest : Parts c fin full (f ∷ rs) (last_of f rs) → Rest c fin full (not (complete f)) f rs
  unfolding in_order incomplete_last every
  parts-rest t = grind arith

-- the records in use of a list, their last one, and whether none is free
ListParts : ℕ → Bool → List Fragment → Type 0
ListParts c fin fs =
    (used_first fs ≡ true)
    × Parts c fin (eqb (length (listed fs)) (length fs)) (listed fs) (get_or fs (length (listed fs) - 1) unused_record)

begins_used : (f : Fragment) → begins_list f ≡ true → f.length ≡ 0 → ⊥
unfolding begins_list
begins_used f b = grind arith

list_parts : (c : ℕ) (fin : Bool) (fs : List Fragment) → list_sound c fin fs ≡ true → ListParts c fin fs
unfolding list_sound used_first ListParts
list_parts c fin [] e = absurd (contradiction e refl)
list_parts c fin (f ∷ gs) e =
    let w = walk c fin (not (complete f)) f gs in
    let k = and_left (begins_list f && within c f) w e in
    let b = and_left (begins_list f) (within c f) k in
    let u = begins_used f b in
    let r = walk-rest gs c fin (not (complete f)) f (λ h. rw h) (and_right (begins_list f && within c f) w e) in
    let at_last : suc (length (listed gs)) - 1 ≡ length (listed gs) = omega arith in
    rw (ne_eqb f.length 0 u, listed-on f gs u, at_last, last_of_lem f gs, eqb-suc-suc (length (listed gs)) (length gs))
    (r.0, rest-parts c fin (eqb (length (listed gs)) (length gs)) f (listed gs) b (and_right (begins_list f) (within c f) k) r.1)

parts_list : (c : ℕ) (fin : Bool) (fs : List Fragment) → ListParts c fin fs → list_sound c fin fs ≡ true
unfolding list_sound used_first listed first_at_zero ListParts
parts_list c fin [] t = absurd (contradiction t.1.begin refl)
parts_list c fin (f ∷ gs) t =
    use_cases f
    (λ z. absurd (contradiction (rw (listed_off f gs z) at t.1.begin) refl))
    (λ u.
    let full = eqb (length (listed gs)) (length gs) in
    let at_last : suc (length (listed gs)) - 1 ≡ length (listed gs) = omega arith in
    let k : Parts c fin full (f ∷ listed gs) (last_of f (listed gs)) =
    rw (listed-on f gs u, at_last, last_of_lem f gs, eqb-suc-suc (length (listed gs)) (length gs)) at t.1 in
    and_both
    (and_both (parts-begin c fin full f (listed gs) u k) (parts-fit c fin full f (listed gs) k))
    (rest-walk gs c fin (not (complete f)) f (rw (ne_eqb f.length 0 u) at t.0) (parts-rest c fin full f (listed gs) k)))

-- the pending sectors as the code tests them
module _ (d : Disc) (e : owner_incomplete d ≡ true) (z : d.pending ≡ 0 → ⊥) where
  owner-few : d.pending < 16
  unfolding owner_incomplete
  owner-few = grind arith

  owner-number : d.owner ≡ 0 → ⊥
  unfolding owner_incomplete
  owner-number n = grind arith

  owner-open : complete (numbered d d.owner) ≡ false
  unfolding owner_incomplete
  owner-open = grind arith

  owner-listed : used_first d.fragments ≡ true → d.owner ≤ used d
  owner-listed u = grind (arith, used_first-at, owner-open)

owner_named : (d : Disc) → used_first d.fragments ≡ true → owner_incomplete d ≡ true → pending_named d ≡ true
unfolding owner_incomplete
owner_named d u e =
    owned_pending d
    (by_cases (eqb d.pending 0) (λ z. omega (arith, eqb-true d.pending 0 z)) (λ z. owner-few d e (eqb-false _ _ z)))
    (λ z. eqb-true _ _ (rw (eq-eqb _ _ z) at e))
    (λ z.
    let n = owner-number d e z in
    record { number = omega arith; listed = owner-listed d e z u; incomplete = owner-open d e z })

named_owner : (d : Disc) → length d.fragments ≡ limit → pending_named d ≡ true → owner_incomplete d ≡ true
unfolding owner_incomplete pending_named
named_owner d l e =
    by_cases (eqb d.pending 0)
    (λ z. rw z (rw z at e))
    (λ z.
    let o = pending_owned d e (eqb-false _ _ z) in
    rw (z, le-ltb 15 d.pending (omega (arith, pending_few d e)), ne_eqb d.owner 0 (λ n. omega (arith, o.number)), le-ltb limit d.owner (omega (arith, o.listed, listed_le d.fragments)), o.incomplete))

-- the rules about one record alone
module _ (c : ℕ) (f : Fragment) (e : within c f ≡ true) where
  within-ends : leb (end f).0 c ≡ true
  unfolding within
  within-ends = grind arith

  within-recorded : leb f.recorded f.length ≡ true
  unfolding within
  within-recorded = grind arith

  within-zeroed : leb f.zeroed (sectors_in f.recorded) ≡ true
  unfolding within
  within-zeroed = and_right (leb (end f).0 c && leb f.recorded f.length) _ e

every-within :
    (c : ℕ) (rs : List Fragment)
    → every (λ f. leb (end f).0 c) rs ≡ true → every (λ f. leb f.recorded f.length) rs ≡ true
    → every (λ f. leb f.zeroed (sectors_in f.recorded)) rs ≡ true → every (within c) rs ≡ true
unfolding every within
every-within c [] p q r = refl
every-within c (f ∷ fs) p q r = grind (arith, nat_tests, every-within c fs)

-- the code's check is the rules of a sound list, joined
module _ (d : Disc) (l : length d.fragments ≡ limit) where
  check-tests : list_sound d.capacity d.finalized d.fragments ≡ true → owner_incomplete d ≡ true → Tests d
  unfolding ListParts within ends_within recorded_within zeroed_within tail_or_full finalized_complete
  check-tests e o =
      let c = d.capacity in
      let p = list_parts c d.finalized d.fragments e in
      record {
        first = p.0;
        begin = p.1.begin;
        order = p.1.order;
        ends = every_implies (within c) (λ f. leb (end f).0 c) (records d) (within-ends c) p.1.fit;
        recorded = every_implies (within c) (λ f. leb f.recorded f.length) (records d) (within-recorded c) p.1.fit;
        zeroed = every_implies (within c) (λ f. leb f.zeroed (sectors_in f.recorded)) (records d) (within-zeroed c) p.1.fit;
        incomplete = p.1.incomplete;
        tail = p.1.tail;
        full =
            by_cases d.finalized (λ f. rw f)
            (λ f. by_cases (has_tail d) (λ a. rw (f, a)) (λ a. rw (f, a) (rw l at (p.1.room f a))));
        pending = owner_named d p.0 o;
        closed =
            by_cases d.finalized
            (λ f.
            rw f
            (and_both (p.1.all f)
            (by_cases (eqb d.pending 0) (λ z. z)
            (λ z.
            let n = eqb-false _ _ z in
            let k = owner-number d o n in
            absurd (contradiction (record_at complete d (d.owner - 1) (p.1.all f) (omega (arith, owner-listed d o n p.0))) (owner-open d o n))))))
            (λ f. rw f);
        array = eq-eqb _ _ l;
      }

  tests-check : Tests d → (list_sound d.capacity d.finalized d.fragments && owner_incomplete d) ≡ true
  unfolding ListParts ends_within recorded_within zeroed_within tail_or_full finalized_complete
  tests-check t =
      let c = d.capacity in
      and_both
      (parts_list c d.finalized d.fragments (
        t.first,
        record {
          begin = t.begin;
          order = t.order;
          fit = every-within c (records d) t.ends t.recorded t.zeroed;
          incomplete = t.incomplete;
          tail = t.tail;
          room = λ f a. rw l (rw (f, a) at t.full);
          all = λ f. and_left (every complete (records d)) (eqb d.pending 0) (rw f at t.closed);
        },
      ))
      (named_owner d l t.pending)

  pub check_sound : (list_sound d.capacity d.finalized d.fragments && owner_incomplete d) ≡ sound d
  check_sound =
      let a = list_sound d.capacity d.finalized d.fragments in
      same_test
      (λ h. tests-sound d (check-tests (and_left a (owner_incomplete d) h) (and_right a (owner_incomplete d) h)))
      (λ h. tests-check (sound-tests d h))

  -- the other way round, as the code's two tests one after another meet it
  pub sound_check : sound d ≡ (list_sound d.capacity d.finalized d.fragments && owner_incomplete d)
  sound_check = sym check_sound
