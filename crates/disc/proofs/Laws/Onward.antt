-- What is recorded stays recorded: a record with recorded blocks stays at its place and start and records no fewer; and which blocks are
-- recorded anew.
use Prim.Native.Nat.{ℕ, ◌+◌, ◌-◌, ◌≤◌, ◌<◌, suc}
use mathlib.Core.Path.{◌≡◌, sym, ◌∙◌, ap}
use native.Mathlib.Omega.{arith}
use lib.ListN.{length, get_or, set}
use lib.Seq.{get_or-set_same, get_or-set_other}
use mathlib.Core.Logic.{◌⊎◌, inl, inr, ⊎_elim}
use mathlib.Core.List.{List, [], ◌∷◌}
use borrow.Author.Tests.{ltb-true, ltb-false}
use lib.Dec.{ltb}
use Rattle.disc.specs.Types.{Fragment, Disc}
use Rattle.fragments.specs.Fragment.{unused_record, first_unrecorded}
use Rattle.disc.specs.Records.{used, last_record, with_record}
use Rattle.fragments.specs.List.{sum_recorded}
use Rattle.disc.specs.Rules.{at, Sound}
use Rattle.fragments.proofs.Laws.Bool.{by_cases}
use Rattle.fragments.proofs.Laws.Numbers.{equal_cases}
use Rattle.fragments.proofs.Laws.List.{listed_le}
use Rattle.disc.proofs.Laws.Grow.{Grown, grown-used}
use Rattle.disc.proofs.Laws.Order.{Ordered, Extends, extended-used, last-used, drop-used}

-- the record f is still at an index of e
pub record Stays (f : Fragment) (e : Disc) (i : ℕ) : Type 0 where
  pub listed : i < used e
  pub start : (at e i).start.0 ≡ f.start.0
  pub recorded : f.recorded ≤ (at e i).recorded

-- a block that a disc has recorded, with the index of its fragment
pub record Held (d : Disc) (x : ℕ) : Type 0 where
  pub index : ℕ
  pub listed : index < used d
  pub from : (at d index).start.0 ≤ x
  pub below : x < (first_unrecorded (at d index)).0

-- from d to e: recorded are the blocks that were recorded before, and those of B
pub record Onward (d e : Disc) (B : ℕ → Type 0) : Type 0 where
  pub stays : (i : ℕ) → i < used d → ((at d i).recorded ≡ 0 → ⊥) → Stays (at d i) e i
  pub was : (x : ℕ) → Held e x → (Held d x) ⊎ (B x)
  pub adds : (x : ℕ) → B x → Held e x

-- no block
abbrev pub NoBlock : ℕ → Type 0
NoBlock x = ⊥

pub same_onward : (d : Disc) → Onward d d NoBlock
same_onward d = grind arith

-- what is recorded stays so
held_stays : (d e : Disc) (x : ℕ) → ((i : ℕ) → i < used d → ((at d i).recorded ≡ 0 → ⊥) → Stays (at d i) e i) → Held d x → Held e x
held_stays d e x k h = grind arith

pub held_onward : (d e : Disc) (B : ℕ → Type 0) (x : ℕ) → Onward d e B → Held d x → Held e x
held_onward d e B x o h = held_stays d e x o.stays h

-- a disc with the same list, as one with another sense
pub list-onward : (d e k : Disc) (B : ℕ → Type 0) → e.fragments ≡ k.fragments → Onward d e B → Onward d k B
list-onward d e k B q o = grind arith

-- the blocks of B by another description
pub onward_as :
    (d e : Disc) (B C : ℕ → Type 0) → ((x : ℕ) → B x → C x) → ((x : ℕ) → C x → B x) → Onward d e B → Onward d e C
onward_as d e B C to back o = grind arith

pub onward-on :
    (d e k : Disc) (B C : ℕ → Type 0) → Onward d e B → Onward e k C → Onward d k (λ x. (B x) ⊎ (C x))
onward-on d e k B C o p =
    record {
      stays =
          λ i h n.
          let a = o.stays i h n in
          let b = p.stays i a.listed (some-recorded a.recorded n) in
          record { listed = b.listed; start = b.start ∙ a.start; recorded = omega (arith, a.recorded, b.recorded) };
      was = λ x h. ⊎_elim (λ b. ⊎_elim (λ c. inl c) (λ c. inr (inl c)) (o.was x b)) (λ b. inr (inr b)) (p.was x h);
      adds = λ x b. ⊎_elim (λ c. held_onward e k C x p (o.adds x c)) (λ c. p.adds x c) b;
    }
  where
    some-recorded : {a b : ℕ} → a ≤ b → (a ≡ 0 → ⊥) → b ≡ 0 → ⊥
    some-recorded h n e = n (omega arith)

-- a change that records nothing, before or after one that does
pub onward-before : (d e k : Disc) (C : ℕ → Type 0) → Onward d e NoBlock → Onward e k C → Onward d k C
onward-before d e k C o p = grind arith

pub onward-after : (d e k : Disc) (B : ℕ → Type 0) → Onward d e B → Onward e k NoBlock → Onward d k B
onward-after d e k B o p = grind arith

-- the blocks by which the records of e are longer recorded than those of d
pub record Grew (d e : Disc) (x : ℕ) : Type 0 where
  pub index : ℕ
  pub listed : index < used d
  pub from : (first_unrecorded (at d index)).0 ≤ x
  pub below : x < (first_unrecorded (at e index)).0

pub grown_onward : (d e : Disc) → Sound d → Grown d e → Onward d e (Grew d e)
grown_onward d e s g =
    let u = grown-used d e s g in
    record {
      stays = λ i h n. record { listed = omega (arith, u); start = g.start i; recorded = g.more i };
      was =
          λ x h.
          let i = h.index in
          let listed : i < used d = omega (arith, h.listed, u) in
          by_cases (ltb x (first_unrecorded (at d i)).0)
          (λ l. inl (record { index = i; listed = listed; from = omega (arith, h.from, g.start i); below = ltb-true _ _ l }))
          (λ l. inr (record { index = i; listed = listed; from = ltb-false _ _ l; below = h.below }));
      adds =
          λ x b.
          let i = b.index in
          record { index = i; listed = omega (arith, b.listed, u); from = omega (arith, b.from, g.start i); below = b.below };
    }

-- another record in the place of the last one, with as many blocks recorded
pub replace_onward :
    (d : Disc) (g : Fragment) → Sound d → (g.length ≡ 0 → ⊥) → g.start.0 ≡ (last_record d).start.0 → (last_record d).recorded ≡ g.recorded
    → Onward d (with_record d (used d) g) NoBlock
replace_onward d g s l b w =
    let k = used d - 1 in
    let fs = d.fragments in
    let e = with_record d (used d) g in
    let slot : k < length fs = omega (arith, s.some, listed_le fs) in
    let u = last-used d s g l in
    let here : (i : ℕ) → i ≡ k → at e i ≡ g =
    λ i q. ap (λ j. get_or (set fs k g) j unused_record) q ∙ get_or-set_same fs k g unused_record slot in
    let old : (i : ℕ) → i ≡ k → at d i ≡ last_record d = λ i q. ap (λ j. at d j) q in
    let else : (i : ℕ) → (i ≡ k → ⊥) → at e i ≡ at d i = λ i q. get_or-set_other fs k i g unused_record q in
    let start : (i : ℕ) → (at e i).start.0 ≡ (at d i).start.0 =
    λ i. equal_cases i k (λ q. ap (λ f. f.start.0) (here i q) ∙ (b ∙ sym (ap (λ f. f.start.0) (old i q)))) (λ q. ap (λ f. f.start.0) (else i q)) in
    let count : (i : ℕ) → (at e i).recorded ≡ (at d i).recorded =
    λ i. equal_cases i k (λ q. ap (λ f. f.recorded) (here i q) ∙ (sym w ∙ sym (ap (λ f. f.recorded) (old i q)))) (λ q. ap (λ f. f.recorded) (else i q)) in
    record {
      stays = λ i h n. record { listed = omega (arith, h, u); start = start i; recorded = omega (arith, count i) };
      was =
          λ x h.
          let i = h.index in
          inl (record { index = i; listed = omega (arith, h.listed, u); from = omega (arith, h.from, start i); below = omega (arith, h.below, start i, count i) });
      adds = λ x b. absurd b;
    }

-- the last record dropped, which has no block recorded
pub drop-onward : (d : Disc) → Sound d → (last_record d).recorded ≡ 0 → Onward d (with_record d (used d) unused_record) NoBlock
drop-onward d s z =
    let k = used d - 1 in
    let fs = d.fragments in
    let u = drop-used d s in
    let else : (i : ℕ) → (i ≡ k → ⊥) → at (with_record d (used d) unused_record) i ≡ at d i = λ i q. get_or-set_other fs k i unused_record unused_record q in
    record {
      stays =
          λ i h n.
          let other : i ≡ k → ⊥ = λ e. n (ap (λ j. (at d j).recorded) e ∙ z) in
          record { listed = omega (arith, s.some); start = ap (λ f. f.start.0) (else i other); recorded = omega (arith, ap (λ f. f.recorded) (else i other)) };
      was =
          λ x h.
          let i = h.index in
          let same = else i (λ q. omega (arith, h.listed, u, s.some)) in
          inl (record { index = i; listed = omega (arith, h.listed, u); from = omega (arith, h.from, ap (λ f. f.start.0) same); below = omega (arith, h.below, ap (λ f. f.start.0) same, ap (λ f. f.recorded) same) });
      adds = λ x b. absurd b;
    }

-- a tail put after the last record
pub extend_onward : (d : Disc) (o : Ordered d) (t : Fragment) (x : Extends d t) → Onward d (with_record d (used d + 1) t) NoBlock
extend_onward d o t x =
    let fs = d.fragments in
    let e = with_record d (used d + 1) t in
    let u = extended-used d o t x in
    let next-index : used d + 1 - 1 ≡ used d = omega arith in
    let slot : used d < length fs = omega (arith, x.free, o.array) in
    let at_set : (i : ℕ) → at e i ≡ get_or (set fs (used d) t) i unused_record = λ i. ap (λ j. get_or (set fs j t) i unused_record) next-index in
    let else : (i : ℕ) → (i ≡ used d → ⊥) → at e i ≡ at d i = λ i q. at_set i ∙ get_or-set_other fs (used d) i t unused_record q in
    let new : (i : ℕ) → i ≡ used d → at e i ≡ t =
    λ i q. at_set i ∙ (ap (λ j. get_or (set fs (used d) t) j unused_record) q ∙ get_or-set_same fs (used d) t unused_record slot) in
    record {
      stays =
          λ i h n.
          let same = else i (λ q. omega arith) in
          record { listed = omega arith; start = ap (λ f. f.start.0) same; recorded = omega (arith, ap (λ f. f.recorded) same) };
      was =
          λ y h.
          let i = h.index in
          equal_cases i (used d)
          (λ q. absurd (let f = new i q in omega (arith, h.from, h.below, ap (λ g. g.recorded) f, x.recorded)))
          (λ q.
          let same = else i q in
          inl (record { index = i; listed = omega (arith, h.listed, u); from = omega (arith, h.from, ap (λ f. f.start.0) same); below = omega (arith, h.below, ap (λ f. f.start.0) same, ap (λ f. f.recorded) same) }));
      adds = λ y b. absurd b;
    }

-- the recorded blocks of all fragments together never get fewer
sum_grows :
    (fs gs : List Fragment) → ((i : ℕ) → (get_or fs i unused_record).recorded ≤ (get_or gs i unused_record).recorded)
    → sum_recorded fs ≤ sum_recorded gs
unfolding sum_recorded
sum_grows [] gs h = omega arith
sum_grows (f ∷ fs) [] h = omega (arith, h 0, sum_grows fs [] (λ i. h (suc i)))
sum_grows (f ∷ fs) (g ∷ gs) h = omega (arith, h 0, sum_grows fs gs (λ i. h (suc i)))

pub onward-sum : (d e : Disc) (B : ℕ → Type 0) → Sound d → Onward d e B → sum_recorded d.fragments ≤ sum_recorded e.fragments
onward-sum d e B s o =
    sum_grows d.fragments e.fragments
    (λ i.
    by_cases (ltb i (used d))
    (λ l. equal_cases (at d i).recorded 0 (λ z. omega (arith, z)) (λ n. (o.stays i (ltb-true _ _ l) n).recorded))
    (λ l. let z : (at d i).recorded ≡ 0 = ap (λ (f : Fragment). f.recorded) (s.unused i (ltb-false _ _ l)) in omega (arith, z)))
