-- Recording blocks in records that stay where they are keeps a list sound.
use Rattle.std.proofs.lemmas.Bool.Decides.{nat_tests}
use Prim.Native.Nat.{ℕ, suc, ◌-◌, ◌*◌, ◌≤◌, ◌<◌}
use mathlib.Core.Path.{◌≡◌, refl, sym, ◌∙◌, ap}
use mathlib.Core.Bool.{true, false}
use mathlib.Core.List.{List}
use mathlib.Core.Logic.{inl, inr, ⊎_elim}
use native.Mathlib.Omega.{arith}
use lib.ListN.{length, get_or, set, length-set}
use lib.Seq.{get_or-set_same, get_or-set_other}
use Rattle.disc.specs.Types.{Fragment, Disc}
use Rattle.fragments.specs.Fragment.{unused_record, end, complete, is_tail}
use Rattle.disc.specs.Records.{used, last_record, has_tail}
use Rattle.disc.specs.Rules.{at, Follows, Owned, Sound}
use Rattle.fragments.proofs.Laws.Bool.{by_cases}
use Rattle.fragments.proofs.Laws.Numbers.{equal_cases}
use Rattle.fragments.proofs.Laws.List.{listed_le, listed-used, listed_count}

-- the disc e is d with blocks recorded: each record stays where it is, and what it records does not shrink
pub record Grown (d e : Disc) : Type 0 where
  pub capacity : e.capacity ≡ d.capacity
  pub finalized : e.finalized ≡ d.finalized
  pub array : length e.fragments ≡ length d.fragments
  pub session : (i : ℕ) → (at e i).session ≡ (at d i).session
  pub start : (i : ℕ) → (at e i).start.0 ≡ (at d i).start.0
  pub size : (i : ℕ) → (at e i).length ≡ (at d i).length
  pub kind : (i : ℕ) → (at e i).kind ≡ (at d i).kind
  pub more : (i : ℕ) → (at d i).recorded ≤ (at e i).recorded
  pub recorded : (i : ℕ) → i < used d → (at e i).recorded ≤ (at d i).length
  pub zeroed : (i : ℕ) → i < used d → (at e i).zeroed ≤ 16 * (at e i).recorded
  pub unused : (i : ℕ) → used d ≤ i → at e i ≡ unused_record

module _ (d e : Disc) (s : Sound d) (g : Grown d e) where
  pub grown-used : used e ≡ used d
  grown-used =
      listed_count e.fragments (used d)
      (λ i h z. listed-used d.fragments i h (sym (g.size i) ∙ z))
      (ap (λ f. f.length) (g.unused (used d) (omega arith)))

  grown-end : (i : ℕ) → (end (at e i)).0 ≡ (end (at d i)).0
  grown-end i = omega (arith, g.start i, g.size i)

  grown-follows : (i : ℕ) → Follows (at d i) (at d (suc i)) → Follows (at e i) (at e (suc i))
  grown-follows i w = grind arith

  -- a complete record stays complete
  pub grown-complete : (i : ℕ) → i < used d → complete (at d i) ≡ true → complete (at e i) ≡ true
  grown-complete i h c = grind (arith, nat_tests)

  grown-incomplete : (i : ℕ) → i < used d → complete (at e i) ≡ false → complete (at d i) ≡ false
  grown-incomplete i h c = grind (arith, nat_tests)

  grown-tail : (i : ℕ) → i < used d → is_tail (at e i) ≡ true → is_tail (at d i) ≡ true
  grown-tail i h t = grind (arith, nat_tests)

  grown-last : last_record e ≡ at e (used d - 1)
  grown-last = ap (λ n. at e (n - 1)) grown-used

  pub grown-sound :
      e.pending < 16 → (e.pending ≡ 0 → e.owner ≡ 0) → ((e.pending ≡ 0 → ⊥) → Owned e) → (e.finalized ≡ true → e.pending ≡ 0) → Sound e
  grown-sound few none owned settled =
      let u = grown-used in
      record {
        array = g.array ∙ s.array;
        some = omega (arith, s.some);
        unused = λ i h. g.unused i (omega arith);
        first_session = g.session 0 ∙ s.first_session;
        first_start = g.start 0 ∙ s.first_start;
        next = λ i h. grown-follows i (s.next i (omega arith));
        ends = λ i h. omega (arith, s.ends i (omega arith), grown-end i, g.capacity);
        recorded = λ i h. omega (arith, g.recorded i (omega arith), g.size i);
        zeroed = λ i h. g.zeroed i (omega arith);
        incomplete =
            λ i h c.
            g.session i
            ∙ (s.incomplete i (omega arith) (grown-incomplete i (omega arith) c)
            ∙ (sym (g.session (used d - 1)) ∙ sym (ap (λ f. f.session) grown-last)));
        tail =
            λ i h t.
            let k = s.tail i (omega arith) (grown-tail i (omega arith) t) in
            (omega (arith, k.0), omega (arith, k.1, grown-end i, g.capacity));
        full =
            λ f t.
            let last = ap (λ r. (end r).0) grown-last in
            let same = grown-end (used d - 1) in
            by_cases (has_tail d)
            (λ a. inr (omega (arith, (s.tail (used d - 1) (omega (arith, s.some)) a).1, g.capacity)))
            (λ a.
            ⊎_elim (λ m. inl (u ∙ m)) (λ m. inr (omega (arith, g.capacity))) (s.full (sym g.finalized ∙ f) a));
        few = few;
        none = none;
        owned = owned;
        closed = λ f i h. grown-complete i (omega arith) (s.closed (sym g.finalized ∙ f) i (omega arith));
        settled = settled;
      }

-- one record of a list changed: a relation between old and new that holds there and of every record to itself holds everywhere
pub set_relates :
    (fs : List Fragment) (k i : ℕ) (g : Fragment) (P : Fragment → Fragment → Type 0)
    → k < length fs → P (get_or fs k unused_record) g → ((f : Fragment) → P f f) → P (get_or fs i unused_record) (get_or (set fs k g) i unused_record)
set_relates fs k i g P h here else = grind (arith, get_or-set_same, get_or-set_other)

-- the disc with one record grown
pub record GrownRecord (f g : Fragment) : Type 0 where
  pub session : g.session ≡ f.session
  pub start : g.start.0 ≡ f.start.0
  pub size : g.length ≡ f.length
  pub kind : g.kind ≡ f.kind
  pub more : f.recorded ≤ g.recorded
  pub recorded : g.recorded ≤ f.length
  pub zeroed : g.zeroed ≤ 16 * g.recorded

pub set_grown :
    (d e : Disc) (k : ℕ) (g : Fragment)
    → Sound d → k < used d → e.capacity ≡ d.capacity → e.finalized ≡ d.finalized → e.fragments ≡ set d.fragments k g
    → GrownRecord (at d k) g → Grown d e
set_grown d e k g s h c f same r =
    let fs = d.fragments in
    let slot : k < length fs = omega (arith, listed_le fs) in
    record {
      capacity = c;
      finalized = f;
      array = ap length same ∙ length-set fs k g;
      session = λ i. rw same (set_relates fs k i g (λ a b. b.session ≡ a.session) slot r.session (λ a. refl));
      start = λ i. rw same (set_relates fs k i g (λ a b. b.start.0 ≡ a.start.0) slot r.start (λ a. refl));
      size = λ i. rw same (set_relates fs k i g (λ a b. b.length ≡ a.length) slot r.size (λ a. refl));
      kind = λ i. rw same (set_relates fs k i g (λ a b. b.kind ≡ a.kind) slot r.kind (λ a. refl));
      more = λ i. rw same (set_relates fs k i g (λ a b. a.recorded ≤ b.recorded) slot r.more (λ a. omega arith));
      recorded =
          λ i l.
          rw same
          (equal_cases i k
          (λ q. rw (q, get_or-set_same fs k g unused_record slot) r.recorded)
          (λ n. rw (get_or-set_other fs k i g unused_record n) (s.recorded i l)));
      zeroed =
          λ i l.
          rw same
          (equal_cases i k
          (λ q. rw (q, get_or-set_same fs k g unused_record slot) r.zeroed)
          (λ n. rw (get_or-set_other fs k i g unused_record n) (s.zeroed i l)));
      unused = λ i l. rw same (get_or-set_other fs k i g unused_record (λ q. omega arith) ∙ s.unused i l);
    }

-- no record changed
pub same_grown : (d : Disc) → Sound d → Grown d d
same_grown d s = grind arith
