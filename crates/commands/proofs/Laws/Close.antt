-- What CLOSE computes with and what it records.
use Prim.Native.Nat.{ℕ, ◌+◌, ◌-◌, ◌≤◌}
use mathlib.Core.Path.{◌≡◌, ◌∙◌, ap}
use mathlib.Core.Bool.{true, false, not, ◌&&◌}
use native.Mathlib.Omega.{arith}
use borrow.Author.Tests.{ltb-true}
use lib.Dec.{ltb}
use lib.ListN.{length, get_or, set, length-set}
use lib.Seq.{get_or-set_other}
use Rattle.commands.specs.Types.{Kind, Disc, Appended, EmptyTrack}
use Rattle.fragments.specs.Fragment.{unused_record, end, complete, is_reserved, is_tail, next_fragment_start, tail_from, shortened_record}
use Rattle.disc.specs.Records.{is_blank, used, is_listed, numbered, with_record}
use Rattle.fragments.specs.List.{limit, sum_recorded}
use Rattle.disc.specs.Rules.{Sound}
use Rattle.disc.specs.Ready.{Ready}
use Rattle.disc.specs.Verdict.{rise, refuse}
use Rattle.commands.specs.Flush.{flush, flush_count, synchronize_cache}
use Rattle.commands.specs.Close.{filled_record, append_tail, close_incomplete, close_fragment}
use Rattle.fragments.proofs.Laws.Bool.{and_right, and_both, by_cases, cond_yes, cond_no}
use Rattle.fragments.proofs.Laws.List.{listed_le, sum-set}
use Rattle.commands.proofs.Laws.Flush.{flush-sum, flush-sound}

-- a tail put after a record adds no recorded block
pub append-sum :
    (d : Disc) (n : ℕ) → length d.fragments ≡ limit → (get_or d.fragments n unused_record).recorded ≡ 0
    → sum_recorded (append_tail d n).fragments ≡ sum_recorded d.fragments
unfolding append_tail
append-sum d n l z =
    let f = numbered d n in
    let start = next_fragment_start (end f) in
    let next-index : n + 1 - 1 ≡ n = omega arith in
    by_cases (ltb start.0 d.capacity && ltb n limit)
    (λ t.
    let few = ltb-true n limit (and_right (ltb start.0 d.capacity) (ltb n limit) t) in
    let k = sum-set d.fragments n (tail_from d.capacity f.session start) unused_record (omega arith) in
    rw (t, next-index) (omega arith))
    (λ t. rw t)

-- closing a reserved fragment records what it lacks, and the block of a flush
pub fill_count :
    (d : Disc) (n : ℕ) → Ready d → 1 ≤ n → n ≤ used (flush d)
    → rise d (with_record (flush d) n (filled_record (numbered (flush d) n)))
    ≡ flush_count d + ((numbered (flush d) n).length - (numbered (flush d) n).recorded)
fill_count d n r from listed =
    let e = flush d in
    let s = flush-sound d r in
    let f = numbered e n in
    let w = s.recorded (n - 1) (omega arith) in
    let k = sum-set e.fragments (n - 1) (filled_record f) unused_record (omega (arith, listed_le e.fragments)) in
    omega (arith, flush-sum d r)

-- closing a tail records the block of a flush alone
pub shorten_count :
    (d : Disc) (n : ℕ) → Ready d → n ≡ used (flush d)
    → rise d (append_tail (with_record (flush d) n (shortened_record (numbered (flush d) n))) n) ≡ flush_count d
shorten_count d n r last =
    let e = flush d in
    let s = flush-sound d r in
    let f = numbered e n in
    let g = shortened_record f in
    let some-record = s.some in
    let free : (get_or (set e.fragments (n - 1) g) n unused_record).recorded ≡ 0 =
    ap (λ r. r.recorded) (get_or-set_other e.fragments (n - 1) n g unused_record (λ q. omega arith) ∙ s.unused n (omega arith)) in
    let k = sum-set e.fragments (n - 1) g unused_record (omega (arith, listed_le e.fragments)) in
    let a = append-sum (with_record e n g) n (length-set e.fragments (n - 1) g ∙ s.array) free in
    omega (arith, flush-sum d r)

-- the outcomes of 001
module _ (d : Disc) (n : ℕ) (l : is_listed d n ≡ true) where
  pub close-blank : is_blank d n (numbered d n) ≡ true → close_fragment d n ≡ refuse d EmptyTrack
  unfolding close_fragment
  close-blank b = cond_no (not (is_listed d n)) _ _ (ap not l) ∙ cond_yes (is_blank d n (numbered d n)) _ _ b

  module _ (b : is_blank d n (numbered d n) ≡ false) where
    pub close-complete : complete (numbered (flush d) n) ≡ true → close_fragment d n ≡ synchronize_cache d
    unfolding close_fragment synchronize_cache
    close-complete c =
        cond_no (not (is_listed d n)) _ _ (ap not l)
        ∙ (cond_no (is_blank d n (numbered d n)) _ _ b ∙ cond_yes (complete (numbered (flush d) n)) _ _ c)

    pub close-incomplete :
        (k : Kind) → complete (numbered (flush d) n) ≡ false → (numbered (flush d) n).kind ≡ k → close_fragment d n ≡ close_incomplete d (flush d) n k
    unfolding close_fragment
    close-incomplete k c e =
        cond_no (not (is_listed d n)) _ _ (ap not l)
        ∙ (cond_no (is_blank d n (numbered d n)) _ _ b
        ∙ (cond_no (complete (numbered (flush d) n)) _ _ c ∙ ap (λ k. close_incomplete d (flush d) n k) e))

-- an incomplete appended fragment is the last one
pub appended_last : (d : Disc) (n : ℕ) → Sound d → 1 ≤ n → n ≤ used d → complete (numbered d n) ≡ false → (numbered d n).kind ≡ Appended → n ≡ used d
appended_last d n s from to c k =
    let t : is_tail (numbered d n) ≡ true = and_both {a = not (is_reserved (numbered d n).kind)} (rw k) (ap not c) in
    omega (arith, (s.tail (n - 1) (omega arith) t).0)
