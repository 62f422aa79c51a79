-- The recorded bytes of a fragment, and what a stretch put into the medium makes of them.
use Prim.Native.Nat.{ℕ, ◌+◌, ◌-◌, ◌*◌, ◌≤◌, ◌<◌}
use mathlib.Core.Path.{◌≡◌, sym, ap, ◌∙◌}
use mathlib.Core.Logic.{◌⊎◌, inl, inr}
use mathlib.Core.List.{List, ◌++◌, append_assoc}
use native.Mathlib.Omega.{arith}
use lib.ListN.{length, get_or, set, take, drop, length-drop}
use lib.Seq.{take-add, drop_at, length-take-le, get_or-set_same, get_or-set_other}
use Rattle.fragments.specs.Fragment.{unused_record, end}
use Rattle.disc.specs.Records.{used, numbered}
use Rattle.disc.specs.Rules.{Sound}
use Rattle.fragments.proofs.Laws.Bool.{by_cases}
use Rattle.fragments.proofs.Laws.Numbers.{order_cases}
use Rattle.fragments.proofs.Laws.List.{listed_le}
use Rattle.disc.proofs.Laws.Sound.{starts-rise}
use Rattle.drive.specs.Bytes.{splice}
use Rattle.drive.proofs.Laws.Bytes.{length-splice, splice-take}
use Rattle.drive.proofs.Laws.Agree.{agree_run, kept_splice}
use borrow.Author.Tests.{leb-true, leb-false}
use lib.Dec.{leb}
use Rattle.history.specs.Types.{Fragment, Disc}

-- a run of bytes that a stretch is put after, and one that lies elsewhere
grown_run :
    (m x : List ℕ) (a w : ℕ) → (a + w) + length x ≤ length m → take (w + length x) (drop a (splice m (a + w) x)) ≡ take w (drop a m) ++ x
grown_run m x a w h =
    let s = splice m (a + w) x in
    let front : length (take a s) ≡ a = length-take-le a s (omega (arith, length-splice m (a + w) x h)) in
    let old : length (take a m) ≡ a = length-take-le a m (omega arith) in
    let sum : a + (w + length x) ≡ (a + w) + length x = omega arith in
    sym (drop_at (take a s) (take (w + length x) (drop a s)) a front)
    ∙ (ap (drop a) (sym (take-add a (w + length x) s))
    ∙ (ap (λ (n : ℕ). drop a (take n s)) sum
    ∙ (ap (drop a) (splice-take m (a + w) x (omega arith))
    ∙ (ap (λ (l : List ℕ). drop a (l ++ x)) (take-add a w m)
    ∙ (ap (drop a) (append_assoc (take a m) (take w (drop a m)) x) ∙ drop_at (take a m) (take w (drop a m) ++ x) a old)))))

kept_run :
    (m x : List ℕ) (s a w : ℕ) → s + length x ≤ length m → a + w ≤ length m → (a + w ≤ s) ⊎ (s + length x ≤ a)
    → take w (drop a (splice m s x)) ≡ take w (drop a m)
kept_run m x s a w h k out =
    let l = length-splice m s x h in
    agree_run (splice m s x) m a w (omega (arith, l)) l
    (λ i from below.
    kept_splice m s x i (omega arith)
    (elim out [ inl u ↦ inl (omega arith) | inr u ↦ inr (omega arith) ]))

-- the recorded bytes of the fragment with a number
abbrev pub region : Disc → List ℕ → ℕ → List ℕ
region d m n = take (32768 * (numbered d n).recorded) (drop (32768 * (numbered d n).start.0) m)

-- a record that is not in use has none
pub unlisted_none : (d : Disc) (n : ℕ) → Sound d → used d < n → numbered d n ≡ unused_record
unlisted_none d n s h = s.unused (n - 1) (omega arith)

-- one fragment, with the number j, becomes g, which has so many more blocks recorded; they hold x
pub record Grows (d e : Disc) (j blocks : ℕ) (g : Fragment) (m x : List ℕ) : Type 0 where
  pub sound : Sound d
  pub from : 1 ≤ j
  pub to : j ≤ used d
  pub changed : e.fragments ≡ set d.fragments (j - 1) g
  pub start : g.start.0 ≡ (numbered d j).start.0
  pub count : g.recorded ≡ (numbered d j).recorded + blocks
  pub room : (numbered d j).recorded + blocks ≤ (numbered d j).length
  pub medium : length m ≡ 32768 * d.capacity
  pub bytes : length x ≡ 32768 * blocks

-- the medium then: x stands after the blocks that were recorded
abbrev pub grown_medium : Disc → ℕ → List ℕ → List ℕ → List ℕ
grown_medium d j m x = splice m (32768 * ((numbered d j).start.0 + (numbered d j).recorded)) x

module _ (d e : Disc) (j blocks : ℕ) (g : Fragment) (m x : List ℕ) (w : Grows d e j blocks g m x) where
  pub grown-here : numbered e j ≡ g
  grown-here =
      ap (λ (l : List Fragment). get_or l (j - 1) unused_record) w.changed
      ∙ get_or-set_same d.fragments (j - 1) g unused_record (omega (arith, w.from, w.to, listed_le d.fragments))

  pub grown-else : (n : ℕ) → 1 ≤ n → (n ≡ j → ⊥) → numbered e n ≡ numbered d n
  grown-else n one other =
      ap (λ (l : List Fragment). get_or l (n - 1) unused_record) w.changed
      ∙ get_or-set_other d.fragments (j - 1) (n - 1) g unused_record (λ q. other (omega (arith, one, w.from, q)))

  inside : (end (numbered d j)).0 ≤ d.capacity
  inside = w.sound.ends (j - 1) (omega (arith, w.from, w.to))

  pub length-region : length (region d m j) ≡ 32768 * (numbered d j).recorded
  length-region =
      length-take-le (32768 * (numbered d j).recorded) (drop (32768 * (numbered d j).start.0) m)
      (omega (arith, length-drop (32768 * (numbered d j).start.0) m, inside, w.room, w.medium))

  -- its recorded bytes are those that it had and x; those of every other fragment stay
  pub grown-region : region e (grown_medium d j m x) j ≡ region d m j ++ x
  grown-region =
      let b = (numbered d j).start.0 in
      let k = (numbered d j).recorded in
      let at : 32768 * (b + k) ≡ 32768 * b + 32768 * k = omega arith in
      let size : 32768 * (numbered e j).recorded ≡ 32768 * k + length x =
      omega (arith, ap (λ (f : Fragment). f.recorded) grown-here, w.count, w.bytes) in
      let place : 32768 * (numbered e j).start.0 ≡ 32768 * b = omega (arith, ap (λ (f : Fragment). f.start.0) grown-here, w.start) in
      ap (λ (n : ℕ). take n (drop (32768 * (numbered e j).start.0) (grown_medium d j m x))) size
      ∙ (ap (λ (n : ℕ). take (32768 * k + length x) (drop n (grown_medium d j m x))) place
      ∙ (ap (λ (n : ℕ). take (32768 * k + length x) (drop (32768 * b) (splice m n x))) at
      ∙ grown_run m x (32768 * b) (32768 * k) (omega (arith, inside, w.room, w.medium, w.bytes))))

  pub kept-region : (n : ℕ) → 1 ≤ n → (n ≡ j → ⊥) → region e (grown_medium d j m x) n ≡ region d m n
  kept-region n one other =
      let f = grown-else n one other in
      let s = w.sound in
      let y = grown_medium d j m x in
      ap (λ (r : Fragment). take (32768 * r.recorded) (drop (32768 * r.start.0) y)) f
      ∙ by_cases (leb n (used d))
      (λ t.
      let listed = leb-true n (used d) t in
      let ends = s.ends (n - 1) (omega arith) in
      let most = s.recorded (n - 1) (omega arith) in
      kept_run m x (32768 * ((numbered d j).start.0 + (numbered d j).recorded)) (32768 * (numbered d n).start.0) (32768 * (numbered d n).recorded)
      (omega (arith, inside, w.room, w.medium, w.bytes)) (omega (arith, w.medium))
      (order_cases n j
      (λ less. inl (let r = starts-rise d s (n - 1) (j - 1) (omega arith) (omega (arith, w.from, w.to)) in omega arith))
      (λ same. absurd (other same))
      (λ more. inr (let r = starts-rise d s (j - 1) (n - 1) (omega (arith, w.from)) (omega arith) in omega (arith, w.room, w.bytes, w.from)))))
      (λ t.
      let none = unlisted_none d n s (leb-false n (used d) t) in
      ap (λ (r : Fragment). take (32768 * r.recorded) (drop (32768 * r.start.0) y)) none
      ∙ sym (ap (λ (r : Fragment). take (32768 * r.recorded) (drop (32768 * r.start.0) m)) none))

-- a list that changes without recording anything leaves the recorded bytes of a fragment that keeps its start
pub same_region :
    (d e : Disc) (m : List ℕ) (n : ℕ) → (numbered e n).recorded ≡ (numbered d n).recorded
    → (((numbered d n).recorded ≡ 0 → ⊥) → (numbered e n).start.0 ≡ (numbered d n).start.0) → region e m n ≡ region d m n
same_region d e m n count start = grind arith
