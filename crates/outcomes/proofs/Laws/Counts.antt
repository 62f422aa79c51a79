-- Changes of the list that record nothing: each fragment keeps its counts, and its start where it has a block recorded.
use Rattle.std.proofs.lemmas.Bool.Decides.{nat_tests}
use Prim.Native.Nat.{ℕ, suc, zero, ◌+◌, ◌-◌, ◌≤◌, ◌<◌}
use mathlib.Core.Path.{◌≡◌, refl, sym, ap, ◌∙◌}
use mathlib.Core.Bool.{true, ◌&&◌}
use mathlib.Core.List.{List, [], ◌∷◌}
use native.Mathlib.Omega.{arith}
use borrow.Author.Tests.{ltb-true, eqb-true, eq-eqb}
use lib.Dec.{eqb, ltb}
use lib.ListN.{length, get_or, set, length-set}
use lib.Seq.{get_or-set_same, get_or-set_other}
use Rattle.fragments.specs.Fragment.{unused_record, end, next_fragment_start, reserved_at, shortened_record}
use Rattle.disc.specs.Records.{is_blank, pending_in, records, used, numbered, last_record, with_record, has_tail, has_blank_tail, blank_tail_only}
use Rattle.fragments.specs.List.{limit, first_of_session}
use Rattle.disc.specs.Ready.{Ready}
use Rattle.disc.specs.Rules.{at, Sound}
use Rattle.commands.specs.Reserve.{split_tail}
use Rattle.commands.specs.Close.{append_tail, close_tail, open_session}
use Rattle.fragments.proofs.Laws.Bool.{and_left, and_right, by_cases}
use Rattle.fragments.proofs.Laws.Numbers.{equal_cases}
use Rattle.fragments.proofs.Laws.List.{listed_le, listed_at}
use Rattle.disc.proofs.Laws.Rules.{sound-rules}
use Rattle.commands.proofs.Laws.Reserve.{blank_recorded}
use Rattle.commands.proofs.Laws.Session.{kept-blank, kept-tail, kept_same, Kept}
use Rattle.outcomes.proofs.Laws.Keep.{blank_unowned}
use Rattle.outcomes.specs.Types.{Fragment, Disc}

-- at every index the same blocks recorded and the same sectors zero-filled
pub record SameCounts (d e : Disc) : Type 0 where
  pub recorded : (i : ℕ) → (at e i).recorded ≡ (at d i).recorded
  pub zeroed : (i : ℕ) → (at e i).zeroed ≡ (at d i).zeroed
  pub start : (i : ℕ) → ((at d i).recorded ≡ 0 → ⊥) → (at e i).start.0 ≡ (at d i).start.0

pub same_counts : (d : Disc) → SameCounts d d
same_counts d = grind arith

pub counts-on : (d e f : Disc) → SameCounts d e → SameCounts e f → SameCounts d f
counts-on d e f a b = grind arith

-- one record in the place of another with the same counts
pub put-counts :
    (d : Disc) (n : ℕ) (g : Fragment) → n - 1 < length d.fragments → g.recorded ≡ (numbered d n).recorded → g.zeroed ≡ (numbered d n).zeroed
    → (((numbered d n).recorded ≡ 0 → ⊥) → g.start.0 ≡ (numbered d n).start.0) → SameCounts d (with_record d n g)
put-counts d n g slot count fill start =
    let fs = d.fragments in
    let e = with_record d n g in
    let here : (i : ℕ) → i ≡ n - 1 → at e i ≡ g =
    λ i q. ap (λ j. get_or (set fs (n - 1) g) j unused_record) q ∙ get_or-set_same fs (n - 1) g unused_record slot in
    let old : (i : ℕ) → i ≡ n - 1 → at d i ≡ numbered d n = λ i q. ap (λ j. at d j) q in
    let else : (i : ℕ) → (i ≡ n - 1 → ⊥) → at e i ≡ at d i = λ i q. get_or-set_other fs (n - 1) i g unused_record q in
    record {
      recorded =
          λ i.
          equal_cases i (n - 1) (λ q. ap (λ f. f.recorded) (here i q) ∙ (count ∙ sym (ap (λ f. f.recorded) (old i q)))) (λ q. ap (λ f. f.recorded) (else i q));
      zeroed =
          λ i.
          equal_cases i (n - 1) (λ q. ap (λ f. f.zeroed) (here i q) ∙ (fill ∙ sym (ap (λ f. f.zeroed) (old i q)))) (λ q. ap (λ f. f.zeroed) (else i q));
      start =
          λ i z.
          equal_cases i (n - 1)
          (λ q.
          ap (λ f. f.start.0) (here i q)
          ∙ (start (λ w. z (ap (λ f. f.recorded) (old i q) ∙ w)) ∙ sym (ap (λ f. f.start.0) (old i q))))
          (λ q. ap (λ f. f.start.0) (else i q));
    }

-- a record without counts in a free place
pub free_counts :
    (d : Disc) (n : ℕ) (g : Fragment) → n - 1 < length d.fragments → numbered d n ≡ unused_record → g.recorded ≡ 0 → g.zeroed ≡ 0
    → SameCounts d (with_record d n g)
free_counts d n g slot free count fill =
    put-counts d n g slot (count ∙ sym (ap (λ f. f.recorded) free)) (fill ∙ sym (ap (λ f. f.zeroed) free))
    (λ z. absurd (z (ap (λ f. f.recorded) free)))

module _ (d : Disc) (s : Sound d) where
  last-slot : used d - 1 < length d.fragments
  last-slot = omega (arith, s.some, listed_le d.fragments)

  -- a blank tail has no counts
  blank-zeroed : has_blank_tail d ≡ true → (last_record d).zeroed ≡ 0
  blank-zeroed b = let z = s.zeroed (used d - 1) (omega (arith, s.some)) in omega (arith, z, blank_recorded d b)

  blank-counts : (g : Fragment) → has_blank_tail d ≡ true → g.recorded ≡ 0 → g.zeroed ≡ 0 → SameCounts d (with_record d (used d) g)
  blank-counts g b count fill =
      put-counts d (used d) g last-slot (count ∙ sym (blank_recorded d b)) (fill ∙ sym (blank-zeroed b)) (λ z. absurd (z (blank_recorded d b)))

  -- the place after the last record is free, also with another record in the last one's place
  free-after : (g : Fragment) → numbered (with_record d (used d) g) (used d + 1) ≡ unused_record
  free-after g = grind (arith, get_or-set_other)

  slot-after : (g : Fragment) → used d < limit → used d + 1 - 1 < length (with_record d (used d) g).fragments
  slot-after g few = grind (arith, length-set)

  -- a fragment with a sector is a record in use
  index_listed : (n : ℕ) → ((numbered d n).recorded + pending_in d n ≡ 0 → ⊥) → n - 1 < used d
  index_listed n some = grind (arith, nat_tests)

  -- RESERVE
  pub split-counts : (b : ℕ) → has_blank_tail d ≡ true → used d < limit → SameCounts d (split_tail d b)
  unfolding split_tail
  split-counts b t few =
      let f = reserved_at (last_record d) b in
      let e = with_record d (used d) f in
      counts-on d e _ (blank-counts f t refl refl) (free_counts e (used d + 1) _ (slot-after f few) (free-after f) refl refl)

  -- and a fragment with sectors keeps its start: the new tail takes a free place
  pub split-start :
      (b n : ℕ) → used d < limit → ((numbered d n).recorded + pending_in d n ≡ 0 → ⊥) → (numbered (split_tail d b) n).start.0 ≡ (numbered d n).start.0
  unfolding split_tail
  split-start b n few some =
      let f = reserved_at (last_record d) b in
      let e = with_record d (used d) f in
      let listed : n - 1 < used d = index_listed n some in
      let here : numbered (split_tail d b) n ≡ numbered e n =
      get_or-set_other e.fragments (used d + 1 - 1) (n - 1) _ unused_record (λ q. omega (arith, q, listed)) in
      ap (λ g. g.start.0) here
      ∙ equal_cases (n - 1) (used d - 1)
      (λ q.
      ap (λ i. (get_or e.fragments i unused_record).start.0) q
      ∙ (ap (λ g. g.start.0) (get_or-set_same d.fragments (used d - 1) f unused_record last-slot) ∙ sym (ap (λ i. (at d i).start.0) q)))
      (λ q. ap (λ g. g.start.0) (get_or-set_other d.fragments (used d - 1) (n - 1) f unused_record q))

  -- CLOSE 001 on the tail
  pub shorten-counts : SameCounts d (append_tail (with_record d (used d) (shortened_record (last_record d))) (used d))
  unfolding append_tail
  shorten-counts =
      let f = shortened_record (last_record d) in
      let e = with_record d (used d) f in
      let short = put-counts d (used d) f last-slot refl refl (λ z. refl) in
      by_cases (ltb (next_fragment_start (end (numbered e (used d)))).0 e.capacity && ltb (used d) limit)
      (λ t.
      let few = ltb-true (used d) limit (and_right (ltb (next_fragment_start (end (numbered e (used d)))).0 e.capacity) (ltb (used d) limit) t) in
      rw t (counts-on d e _ short (free_counts e (used d + 1) _ (slot-after f few) (free-after f) refl refl)))
      (λ t. rw t short)

  -- CLOSE 010 and 110
  pub close-tail-counts : SameCounts d (close_tail d)
  close-tail-counts =
      by_cases (has_blank_tail d)
      (λ b. rw (kept-blank d b) (blank-counts unused_record b refl refl))
      (λ b.
      by_cases (has_tail d)
      (λ t. rw (kept-tail d b t) (put-counts d (used d) (shortened_record (last_record d)) last-slot refl refl (λ z. refl)))
      (λ t. rw (kept_same d t) (same_counts d)))

pub open_counts : (k : Disc) → Kept k → used k < limit → SameCounts k (open_session k)
unfolding open_session
open_counts k e few =
    let next-index : used k + 1 - 1 ≡ used k = omega arith in
    free_counts k (used k + 1) _ (omega (arith, few, e.array)) (ap (λ i. at k i) next-index ∙ e.free) refl refl

-- where the last session is only a blank tail nothing is pending: an incomplete fragment is in the last session
first_most :
    (rs : List Fragment) (i n m : ℕ) → i < length rs → (get_or rs i unused_record).session ≡ m → first_of_session m n rs ≤ n + i
unfolding first_of_session
first_most [] i n m h e = absurd (omega arith)
first_most (f ∷ fs) zero n m h e = rw (eq-eqb f.session m e) (omega arith)
first_most (f ∷ fs) (suc i) n m h e =
    by_cases (eqb f.session m) (λ t. rw t (omega arith))
    (λ t. rw t (let k = first_most fs i (n + 1) m (omega arith) e in omega (arith, k)))

pub blank_only_none : (d : Disc) → Ready d → blank_tail_only d ≡ true → d.pending ≡ 0
blank_only_none d r t =
    equal_cases d.pending 0 (λ z. z)
    (λ z.
    let s = sound-rules d r.sound in
    let o = s.owned z in
    let i = d.owner - 1 in
    let listed : i < used d = omega (arith, o.number, o.listed) in
    let last = (last_record d).session in
    let blank = and_left (has_blank_tail d) (eqb (first_of_session last 1 (records d)) (used d)) t in
    let first = eqb-true (first_of_session last 1 (records d)) (used d) (and_right (has_blank_tail d) (eqb (first_of_session last 1 (records d)) (used d)) t) in
    let most = first_most (records d) i 1 last listed (ap (λ f. f.session) (listed_at d.fragments i unused_record listed) ∙ s.incomplete i listed o.incomplete) in
    absurd
    (blank_unowned d (used d) (last_record d) (and_right (has_tail d) (is_blank d (used d) (last_record d)) blank) z
    (omega (arith, o.number, o.listed, most, first))))
