-- Changing the last record, dropping it and putting one after it keeps a list in order.
use Prim.Native.Nat.{ℕ, suc, ◌+◌, ◌-◌, ◌*◌, ◌≤◌, ◌<◌}
use mathlib.Core.Path.{◌≡◌, refl, sym, ◌∙◌, ap}
use mathlib.Core.Bool.{true, false}
use mathlib.Core.Logic.{◌⊎◌, inl, inr, ⊎_elim}
use native.Mathlib.Omega.{arith}
use lib.ListN.{length, get_or, set, length-set}
use lib.Seq.{get_or-set_same, get_or-set_other}
use Rattle.disc.specs.Types.{Fragment, Disc}
use Rattle.fragments.specs.Fragment.{unused_record, end, complete, is_tail}
use Rattle.fragments.specs.List.{limit}
use Rattle.disc.specs.Records.{used, last_record, with_record, has_tail}
use Rattle.disc.specs.Rules.{at, Follows, Owned, Sound}
use Rattle.fragments.proofs.Laws.Bool.{contradiction}
use Rattle.fragments.proofs.Laws.Numbers.{equal_cases}
use Rattle.fragments.proofs.Laws.List.{listed_le, listed-used, listed_count}
use Rattle.disc.proofs.Laws.Sound.{sessions-rise}

-- how many records are in use with the last one dropped, or another one in its place
module _ (d : Disc) (s : Sound d) where
  pub drop-used : used (with_record d (used d) unused_record) ≡ used d - 1
  drop-used =
      let n = used d in
      let fs = d.fragments in
      let slot : n - 1 < length fs = omega (arith, s.some, listed_le fs) in
      listed_count (set fs (n - 1) unused_record) (n - 1)
      (λ i h z.
      listed-used fs i (omega arith) (ap (λ f. f.length) (sym (get_or-set_other fs (n - 1) i unused_record unused_record (λ e. omega arith))) ∙ z))
      (ap (λ f. f.length) (get_or-set_same fs (n - 1) unused_record unused_record slot))

  pub last-used : (g : Fragment) → (g.length ≡ 0 → ⊥) → used (with_record d (used d) g) ≡ used d
  last-used g l =
      let n = used d in
      let fs = d.fragments in
      let slot : n - 1 < length fs = omega (arith, s.some, listed_le fs) in
      listed_count (set fs (n - 1) g) n
      (λ i h.
      equal_cases i (n - 1)
      (λ e z. l (ap (λ f. f.length) (sym (get_or-set_same fs (n - 1) g unused_record slot)) ∙ (rw e at z)))
      (λ e z. listed-used fs i h (ap (λ f. f.length) (sym (get_or-set_other fs (n - 1) i g unused_record e)) ∙ z)))
      (ap (λ f. f.length) (get_or-set_other fs (n - 1) n g unused_record (λ e. omega (arith, s.some)) ∙ s.unused n (omega arith)))

-- every rule of a sound list but the one that asks for a tail
pub record Ordered (d : Disc) : Type 0 where
  pub array : length d.fragments ≡ limit
  pub some : 1 ≤ used d
  pub unused : (i : ℕ) → used d ≤ i → at d i ≡ unused_record
  pub first_session : (at d 0).session ≡ 1
  pub first_start : (at d 0).start.0 ≡ 0
  pub next : (i : ℕ) → suc i < used d → Follows (at d i) (at d (suc i))
  pub ends : (i : ℕ) → i < used d → (end (at d i)).0 ≤ d.capacity
  pub recorded : (i : ℕ) → i < used d → (at d i).recorded ≤ (at d i).length
  pub zeroed : (i : ℕ) → i < used d → (at d i).zeroed ≤ 16 * (at d i).recorded
  pub incomplete : (i : ℕ) → i < used d → complete (at d i) ≡ false → (at d i).session ≡ (last_record d).session
  pub tail : (i : ℕ) → i < used d → is_tail (at d i) ≡ true → (suc i ≡ used d) × ((end (at d i)).0 ≡ d.capacity)
  pub few : d.pending < 16
  pub none : d.pending ≡ 0 → d.owner ≡ 0
  pub owned : (d.pending ≡ 0 → ⊥) → Owned d

-- the rules that are left: for a disc that is not finalized, and for one that is
pub open_sound :
    (d : Disc) → Ordered d → d.finalized ≡ false → (has_tail d ≡ false → (used d ≡ limit) ⊎ (d.capacity ≤ (end (last_record d)).0 + 1)) → Sound d
open_sound d o f full = grind arith

-- one record changed, by the cases of an index
at-changed :
    (d : Disc) (k : ℕ) (g : Fragment) (i : ℕ) (P : Fragment → Type 0)
    → k < length d.fragments → (i ≡ k → P g) → ((i ≡ k → ⊥) → P (at d i)) → P (get_or (set d.fragments k g) i unused_record)
at-changed d k g i P h here else = grind (arith, get_or-set_same, get_or-set_other)

-- another record in the place of the last one
pub record Replaces (d : Disc) (g : Fragment) : Type 0 where
  pub session : g.session ≡ (last_record d).session
  pub start : g.start.0 ≡ (last_record d).start.0
  pub size : g.length ≡ 0 → ⊥
  pub ends : (end g).0 ≤ d.capacity
  pub recorded : g.recorded ≤ g.length
  pub zeroed : g.zeroed ≤ 16 * g.recorded
  pub tailless : is_tail g ≡ false
  pub unowned : (d.pending ≡ 0 → ⊥) → d.owner ≡ used d → ⊥

module _ (d : Disc) (s : Sound d) (g : Fragment) (r : Replaces d g) where
  replaced-used : used (with_record d (used d) g) ≡ used d
  replaced-used = last-used d s g r.size

  place : used d - 1 < length d.fragments
  place = omega (arith, s.some, listed_le d.fragments)

  -- what holds of g, and of every other record, holds of the record at an index
  by_place :
      (i : ℕ) (P : Fragment → Type 0) → (i ≡ used d - 1 → P g) → ((i ≡ used d - 1 → ⊥) → P (at d i)) → P (at (with_record d (used d) g) i)
  by_place i P here else = at-changed d (used d - 1) g i P place here else

  replaced-last : last_record (with_record d (used d) g) ≡ g
  replaced-last = grind (arith, replaced-used, get_or-set_same, place)

  replaced-follows : (i : ℕ) → suc i < used d → Follows (at (with_record d (used d) g) i) (at (with_record d (used d) g) (suc i))
  replaced-follows i h =
      by_place i (λ p. Follows p (at (with_record d (used d) g) (suc i)))
      (λ q. absurd (omega arith))
      (λ n.
      by_place (suc i) (λ f. Follows (at d i) f)
      (λ q. ⊎_elim (λ w. inl (r.session ∙ (same-session q ∙ w.0), r.start ∙ (same_start q ∙ w.1))) (λ w. inr (r.session ∙ (same-session q ∙ w.0), r.start ∙ (same_start q ∙ w.1))) (s.next i h))
      (λ m. s.next i h))
    where
      same-session : suc i ≡ used d - 1 → (last_record d).session ≡ (at d (suc i)).session
      same-session q = ap (λ j. (at d j).session) (sym q)

      same_start : suc i ≡ used d - 1 → (last_record d).start.0 ≡ (at d (suc i)).start.0
      same_start q = ap (λ j. (at d j).start.0) (sym q)

  pub replace-last : Ordered (with_record d (used d) g)
  replace-last =
      let u = replaced-used in
      let l = replaced-last in
      record {
        array = length-set d.fragments (used d - 1) g ∙ s.array;
        some = omega (arith, s.some);
        unused =
            λ i h. by_place i (λ f. f ≡ unused_record) (λ q. absurd (omega (arith, s.some))) (λ n. s.unused i (omega arith));
        first_session =
            by_place 0 (λ f. f.session ≡ 1) (λ q. r.session ∙ (ap (λ j. (at d j).session) (sym q) ∙ s.first_session)) (λ n. s.first_session);
        first_start =
            by_place 0 (λ f. f.start.0 ≡ 0) (λ q. r.start ∙ (ap (λ j. (at d j).start.0) (sym q) ∙ s.first_start)) (λ n. s.first_start);
        next = λ i h. replaced-follows i (omega arith);
        ends = λ i h. by_place i (λ f. (end f).0 ≤ d.capacity) (λ q. r.ends) (λ n. s.ends i (omega arith));
        recorded = λ i h. by_place i (λ f. f.recorded ≤ f.length) (λ q. r.recorded) (λ n. s.recorded i (omega arith));
        zeroed = λ i h. by_place i (λ f. f.zeroed ≤ 16 * f.recorded) (λ q. r.zeroed) (λ n. s.zeroed i (omega arith));
        incomplete =
            λ i h.
            rw l
            (by_place i (λ f. complete f ≡ false → f.session ≡ g.session) (λ q c. refl)
            (λ n c. s.incomplete i (omega arith) c ∙ sym r.session));
        tail =
            λ i h.
            rw u
            (by_place i (λ f. is_tail f ≡ true → (suc i ≡ used d) × ((end f).0 ≡ d.capacity))
            (λ q t. absurd (contradiction t r.tailless))
            (λ n t. s.tail i (omega arith) t));
        few = s.few;
        none = s.none;
        owned =
            λ z.
            let o = s.owned z in
            let other = r.unowned z in
            record {
              number = o.number;
              listed = omega (arith, o.listed);
              incomplete =
                  by_place (d.owner - 1) (λ f. complete f ≡ false) (λ q. absurd (other (omega (arith, o.number, s.some)))) (λ n. o.incomplete);
            };
      }

-- the last record dropped, where another one is left
module _ (d : Disc) (s : Sound d) (two : 2 ≤ used d) (unowned : (d.pending ≡ 0 → ⊥) → d.owner ≡ used d → ⊥) where
  drop-place :
      (i : ℕ) (P : Fragment → Type 0)
      → (i ≡ used d - 1 → P unused_record) → ((i ≡ used d - 1 → ⊥) → P (at d i)) → P (at (with_record d (used d) unused_record) i)
  drop-place i P here else =
      at-changed d (used d - 1) unused_record i P (omega (arith, listed_le d.fragments)) here else

  dropped-last : last_record (with_record d (used d) unused_record) ≡ at d (used d - 2)
  dropped-last =
      let index : used (with_record d (used d) unused_record) - 1 ≡ used d - 2 = omega (arith, drop-used d s) in
      ap (λ j. at (with_record d (used d) unused_record) j) index
      ∙ get_or-set_other d.fragments (used d - 1) (used d - 2) unused_record unused_record (λ q. omega arith)

  pub drop-last : Ordered (with_record d (used d) unused_record)
  drop-last =
      let u = drop-used d s in
      let l = dropped-last in
      record {
        array = length-set d.fragments (used d - 1) unused_record ∙ s.array;
        some = omega arith;
        unused = λ i h. drop-place i (λ f. f ≡ unused_record) (λ q. refl) (λ n. s.unused i (omega arith));
        first_session = drop-place 0 (λ f. f.session ≡ 1) (λ q. absurd (omega arith)) (λ n. s.first_session);
        first_start = drop-place 0 (λ f. f.start.0 ≡ 0) (λ q. absurd (omega arith)) (λ n. s.first_start);
        next =
            λ i h.
            drop-place i (λ p. Follows p (at (with_record d (used d) unused_record) (suc i))) (λ q. absurd (omega arith))
            (λ n. drop-place (suc i) (λ f. Follows (at d i) f) (λ q. absurd (omega arith)) (λ m. s.next i (omega arith)));
        ends = λ i h. drop-place i (λ f. (end f).0 ≤ d.capacity) (λ q. absurd (omega arith)) (λ n. s.ends i (omega arith));
        recorded = λ i h. drop-place i (λ f. f.recorded ≤ f.length) (λ q. absurd (omega arith)) (λ n. s.recorded i (omega arith));
        zeroed = λ i h. drop-place i (λ f. f.zeroed ≤ 16 * f.recorded) (λ q. absurd (omega arith)) (λ n. s.zeroed i (omega arith));
        incomplete =
            λ i h.
            rw l
            (drop-place i (λ f. complete f ≡ false → f.session ≡ (at d (used d - 2)).session)
            (λ q. absurd (omega arith))
            (λ n c.
            let first = sessions-rise d s i (used d - 2) (omega arith) (omega arith) in
            let last = sessions-rise d s (used d - 2) (used d - 1) (omega arith) (omega arith) in
            omega (arith, s.incomplete i (omega arith) c)));
        tail =
            λ i h.
            drop-place i (λ f. is_tail f ≡ true → (suc i ≡ used (with_record d (used d) unused_record)) × ((end f).0 ≡ d.capacity))
            (λ q. absurd (omega arith))
            (λ n t. absurd (omega (arith, (s.tail i (omega arith) t).0)));
        few = s.few;
        none = s.none;
        owned =
            λ z.
            let o = s.owned z in
            let other = unowned z in
            record {
              number = o.number;
              listed = below_last d.owner (used d) o.listed other u;
              incomplete =
                  drop-place (d.owner - 1) (λ f. complete f ≡ false) (λ q. absurd (other (omega (arith, o.number)))) (λ n. o.incomplete);
            };
      }
    where
      below_last : (a b : ℕ) → a ≤ b → (a ≡ b → ⊥) → used (with_record d (used d) unused_record) ≡ b - 1 → a ≤ used (with_record d (used d) unused_record)
      below_last a b h n q = omega arith

-- a tail put after the last record
pub record Extends (d : Disc) (t : Fragment) : Type 0 where
  pub free : used d < limit
  pub follows : Follows (last_record d) t
  pub ends : (end t).0 ≡ d.capacity
  pub recorded : t.recorded ≡ 0
  pub zeroed : t.zeroed ≡ 0
  pub tail : is_tail t ≡ true
  -- no other tail is there, and a new session begins only after complete fragments
  pub tailless : has_tail d ≡ false
  pub closed : (t.session ≡ (last_record d).session → ⊥) → (i : ℕ) → i < used d → complete (at d i) ≡ true

module _ (d : Disc) (o : Ordered d) (t : Fragment) (x : Extends d t) where
  next-index : used d + 1 - 1 ≡ used d
  next-index = omega arith

  next_place :
      (i : ℕ) (P : Fragment → Type 0) → (i ≡ used d → P t) → ((i ≡ used d → ⊥) → P (at d i)) → P (at (with_record d (used d + 1) t) i)
  next_place i P here else =
      rw (ap (λ j. get_or (set d.fragments j t) i unused_record) next-index)
      (at-changed d (used d) t i P (omega (arith, x.free, o.array)) here else)

  tail-length : t.length ≡ 0 → ⊥
  tail-length z = grind arith

  pub extended-used : used (with_record d (used d + 1) t) ≡ suc (used d)
  extended-used =
      listed_count (with_record d (used d + 1) t).fragments (suc (used d))
      (λ i h.
      next_place i (λ f. f.length ≡ 0 → ⊥) (λ q. tail-length) (λ n. listed-used d.fragments i (below_next h n)))
      (next_place (suc (used d)) (λ f. f.length ≡ 0) (λ q. absurd (omega arith)) (λ n. ap (λ f. f.length) (o.unused (suc (used d)) (omega arith))))
    where
      below_next : {i : ℕ} → i < suc (used d) → (i ≡ used d → ⊥) → i < used d
      below_next h n = omega arith

  pub extended-last : last_record (with_record d (used d + 1) t) ≡ t
  extended-last =
      let index : used (with_record d (used d + 1) t) - 1 ≡ used d = omega (arith, extended-used) in
      ap (λ j. at (with_record d (used d + 1) t) j) index ∙ next_place (used d) (λ f. f ≡ t) (λ q. refl) (λ n. absurd (n refl))

  before-next : {i : ℕ} → i < suc (used d) → (i ≡ used d → ⊥) → i < used d
  before-next h n = omega arith

  extended-follows : (i : ℕ) → suc i < suc (used d) → Follows (at (with_record d (used d + 1) t) i) (at (with_record d (used d + 1) t) (suc i))
  extended-follows i h =
      next_place i (λ p. Follows p (at (with_record d (used d + 1) t) (suc i)))
      (λ q. absurd (omega arith))
      (λ n.
      next_place (suc i) (λ f. Follows (at d i) f)
      (λ q. let index : used d - 1 ≡ i = omega arith in rw index at x.follows)
      (λ m. o.next i (before-next h m)))

  extended-ordered : Ordered (with_record d (used d + 1) t)
  extended-ordered =
      let u = extended-used in
      let l = extended-last in
      record {
        array = length-set d.fragments (used d + 1 - 1) t ∙ o.array;
        some = omega arith;
        unused = λ i h. next_place i (λ f. f ≡ unused_record) (λ q. absurd (omega arith)) (λ n. o.unused i (omega arith));
        first_session = next_place 0 (λ f. f.session ≡ 1) (λ q. absurd (omega (arith, o.some))) (λ n. o.first_session);
        first_start = next_place 0 (λ f. f.start.0 ≡ 0) (λ q. absurd (omega (arith, o.some))) (λ n. o.first_start);
        next = λ i h. extended-follows i (omega arith);
        ends = λ i h. next_place i (λ f. (end f).0 ≤ d.capacity) (λ q. omega (arith, x.ends)) (λ n. o.ends i (before-next (rw u at h) n));
        recorded =
            λ i h. next_place i (λ f. f.recorded ≤ f.length) (λ q. omega (arith, x.recorded)) (λ n. o.recorded i (before-next (rw u at h) n));
        zeroed =
            λ i h. next_place i (λ f. f.zeroed ≤ 16 * f.recorded) (λ q. omega (arith, x.zeroed)) (λ n. o.zeroed i (before-next (rw u at h) n));
        incomplete =
            λ i h.
            rw l
            (next_place i (λ f. complete f ≡ false → f.session ≡ t.session)
            (λ q c. refl)
            (λ n c.
            let k = before-next (rw u at h) n in
            equal_cases t.session (last_record d).session
            (λ q. o.incomplete i k c ∙ sym q)
            (λ q. absurd (contradiction (x.closed q i k) c))));
        tail =
            λ i h.
            rw u
            (next_place i (λ f. is_tail f ≡ true → (suc i ≡ suc (used d)) × ((end f).0 ≡ d.capacity))
            (λ q a. (ap suc q, x.ends))
            (λ n a.
            let k = (o.tail i (before-next (rw u at h) n) a).0 in
            let index : i ≡ used d - 1 = omega (arith, o.some) in
            absurd (contradiction (rw index at a) x.tailless)));
        few = o.few;
        none = o.none;
        owned =
            λ z.
            let w = o.owned z in
            record {
              number = w.number;
              listed = omega (arith, w.listed);
              incomplete =
                  next_place (d.owner - 1) (λ f. complete f ≡ false) (λ q. absurd (omega (arith, w.number, w.listed))) (λ n. w.incomplete);
            };
      }

  -- the list is then sound: it has a tail
  pub extend-sound : d.finalized ≡ false → Sound (with_record d (used d + 1) t)
  extend-sound f =
      open_sound (with_record d (used d + 1) t) extended-ordered f
      (λ h. absurd (contradiction (ap is_tail extended-last ∙ x.tail) h))
