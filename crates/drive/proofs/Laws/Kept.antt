-- What a plan leaves alone, and that stale bytes do not count in what it moves.
use mathlib.Core.Path.{◌≡◌, refl, sym, ap, ◌∙◌, subst}
use mathlib.Core.Bool.{true, false}
use mathlib.Core.Logic.{◌⊎◌, inl, inr, ⊎_elim}
use Prim.Native.Nat.{ℕ, ◌+◌, ◌*◌, ◌/◌, ◌%◌, ◌≤◌, ◌<◌}
use native.Mathlib.Omega.{arith}
use mathlib.Core.List.{List, []}
use lib.ListN.{length, get_or, take}
use borrow.Author.Tests.{eq-eqb, eqb-true}
use lib.Dec.{eqb}
use Rattle.outcomes.specs.Lent.{FlushFits, TransferFits}
use Rattle.outcomes.specs.Recorded.{flushes, transfers, records_block, flushed_count, transferred_count, among}
use Rattle.fragments.proofs.Laws.Bool.{or_right, contradiction, by_cases, or_false_left}
use Rattle.outcomes.proofs.Laws.Recorded.{among_between, among-from, among_below}
use Rattle.drive.specs.Types.{Flush, Option, None, Some, Transfer, Nothing, Send, Gather, Fill, Plan, Block}
use Rattle.std.proofs.lemmas.Grind.{common_steps}
use Rattle.drive.specs.Bytes.{zeros, padded}
use Rattle.drive.specs.Moves.{stream, gathered_medium, flushed_medium, flushed_pending, transferred_medium, transferred_pending, moved_medium, moved_pending}
use Rattle.drive.proofs.Laws.Bytes.{length-zeros, length-splice, length-padded}
use Rattle.drive.proofs.Laws.Moves.{length_whole, length-gathered-medium, length-gathered-pending, stale_stream, stale_pending_lem}
use Rattle.drive.proofs.Laws.Agree.{Agree, agree_splice, kept_splice}
use Rattle.decisions.specs.Plan.{recording}

-- a byte of the medium that is not in block b, nor in any of n blocks from b on
outside_blocks : (b n i : ℕ) → (b ≤ i / 32768 → i / 32768 < b + n → ⊥) → (i < 32768 * b) ⊎ (32768 * b + 32768 * n ≤ i)
outside_blocks b n i h = grind arith

-- a block of sectors of which some are missing
sectors-padded : (n : ℕ) (p : List ℕ) → n < 16 → length (padded (take (2048 * n) p)) ≡ 32768
sectors-padded n p h = length-padded (take (2048 * n) p) (grind (arith, common_steps))

-- lengths stay
pub length-flushed_medium : (f : Option Flush) (m p : List ℕ) → length p ≡ 32768 → FlushFits (length m) f → length (flushed_medium f m p) ≡ length m
unfolding flushed_medium
length-flushed_medium None m p h w = refl
length-flushed_medium (Some f) m p h w =
    let l = sectors-padded f.sectors p (omega arith) in
    length-splice m (32768 * f.block.0) (padded (take (2048 * f.sectors) p)) (omega (arith, l, w.2))

pub length-flushed_pending : (f : Option Flush) (p : List ℕ) → length p ≡ 32768 → length (flushed_pending f p) ≡ 32768
unfolding flushed_pending
length-flushed_pending None p h = h
length-flushed_pending (Some f) p h = length-padded [] (omega arith)

pub length-transferred_medium :
    (t : Transfer) (m p x : List ℕ) → length p ≡ 32768 → TransferFits (length m) (length x) t → length (transferred_medium t m p x) ≡ length m
unfolding transferred_medium
length-transferred_medium Nothing m p x h w = refl
length-transferred_medium (Send a n i k) m p x h w = refl
length-transferred_medium (Gather b held n) m p x h w = length-gathered-medium held n p x (omega (arith, w.0)) w.1 b.0 m w.3
length-transferred_medium (Fill b n) m p x h w =
    length-splice m (32768 * b.0) (zeros (32768 * n)) (omega (arith, length-zeros (32768 * n), w.1))

pub length-transferred_pending :
    (t : Transfer) (k : ℕ) (p x : List ℕ) → length p ≡ 32768 → TransferFits k (length x) t → length (transferred_pending t p x) ≡ 32768
unfolding transferred_pending
length-transferred_pending Nothing k p x h w = h
length-transferred_pending (Send a n i j) k p x h w = h
length-transferred_pending (Gather b held n) k p x h w = length-gathered-pending held n p x (omega (arith, w.0)) w.1
length-transferred_pending (Fill b n) k p x h w = h

-- every byte outside of the blocks that are recorded stays
pub flushed_kept :
    (f : Option Flush) (m p : List ℕ) (i : ℕ) → length p ≡ 32768 → FlushFits (length m) f → flushes f (i / 32768) ≡ false
    → get_or (flushed_medium f m p) i 0 ≡ get_or m i 0
unfolding flushed_medium flushes
flushed_kept None m p i h w none = refl
flushed_kept (Some f) m p i h w none =
    let l = sectors-padded f.sectors p (omega arith) in
    let out = outside_blocks f.block.0 1 i (λ u v. contradiction (eq-eqb (i / 32768) f.block.0 (omega arith)) none) in
    kept_splice m (32768 * f.block.0) (padded (take (2048 * f.sectors) p)) i (omega (arith, w.2))
    (⊎_elim (λ u. inl u) (λ u. inr (omega (arith, l, u))) out)

pub transferred_kept :
    (t : Transfer) (m p x : List ℕ) (i : ℕ) → length p ≡ 32768 → TransferFits (length m) (length x) t → transfers t (i / 32768) ≡ false
    → get_or (transferred_medium t m p x) i 0 ≡ get_or m i 0
unfolding transferred_medium transfers gathered_medium
transferred_kept Nothing m p x i h w none = refl
transferred_kept (Send a n j k) m p x i h w none = refl
transferred_kept (Gather b held n) m p x i h w none =
    let k = (held + n) / 16 in
    let y = take (32768 * k) (stream held p x) in
    let l : length y ≡ 32768 * k = length_whole held n p x (omega (arith, w.0)) w.1 in
    let out = outside_blocks b.0 k i (λ u v. contradiction (among_between b.0 k (i / 32768) u v) none) in
    kept_splice m (32768 * b.0) y i (omega (arith, w.3)) (⊎_elim (λ u. inl u) (λ u. inr (omega (arith, l, u))) out)
transferred_kept (Fill b n) m p x i h w none =
    let l = length-zeros (32768 * n) in
    let out = outside_blocks b.0 n i (λ u v. contradiction (among_between b.0 n (i / 32768) u v) none) in
    kept_splice m (32768 * b.0) (zeros (32768 * n)) i (omega (arith, w.1)) (⊎_elim (λ u. inl u) (λ u. inr (omega (arith, l, u))) out)

-- the same for a whole plan
module _ (w : Plan) (m p x : List ℕ) (hp : length p ≡ 32768) (flush : FlushFits (length m) w.flush)
    (transfer : TransferFits (length m) (length x) w.transfer) where
  between-medium : length (flushed_medium w.flush m p) ≡ length m
  between-medium = length-flushed_medium w.flush m p hp flush

  between-pending : length (flushed_pending w.flush p) ≡ 32768
  between-pending = length-flushed_pending w.flush p hp

  between-fits : TransferFits (length (flushed_medium w.flush m p)) (length x) w.transfer
  between-fits = subst (λ (k : ℕ). TransferFits k (length x) w.transfer) (sym between-medium) transfer

  pub length-moved-medium : length (moved_medium w m p x) ≡ length m
  unfolding moved_medium
  length-moved-medium =
      length-transferred_medium w.transfer (flushed_medium w.flush m p) (flushed_pending w.flush p) x between-pending between-fits
      ∙ between-medium

  pub length-moved-pending : length (moved_pending w p x) ≡ 32768
  unfolding moved_pending
  length-moved-pending = length-transferred_pending w.transfer (length m) (flushed_pending w.flush p) x between-pending transfer

  pub moved-kept : (i : ℕ) → records_block w (i / 32768) ≡ false → get_or (moved_medium w m p x) i 0 ≡ get_or m i 0
  unfolding moved_medium records_block
  moved-kept i none =
      let k = i / 32768 in
      let first : flushes w.flush k ≡ false = or_false_left (flushes w.flush k) (transfers w.transfer k) none in
      let then : transfers w.transfer k ≡ false =
      by_cases (transfers w.transfer k) (λ t. absurd (contradiction (or_right (flushes w.flush k) t) none)) (λ t. t) in
      transferred_kept w.transfer (flushed_medium w.flush m p) (flushed_pending w.flush p) x i between-pending between-fits then
      ∙ flushed_kept w.flush m p i hp flush first

-- stale bytes do not count: media that agree where R says so agree in the recorded blocks too
module _ (R : ℕ → Type 0) (m n p q : List ℕ) (hp : length p ≡ 32768) (hq : length q ≡ 32768) (hm : length m ≡ length n)
    (same : Agree R m n) where
  pub flushed-agree :
      (f : Option Flush) → FlushFits (length m) f → ((b : Block) (k : ℕ) → f ≡ Some (recording b k) → take (2048 * k) p ≡ take (2048 * k) q)
      → Agree (λ i. (R i) ⊎ (flushes f (i / 32768) ≡ true)) (flushed_medium f m p) (flushed_medium f n q)
  unfolding flushed_medium flushes
  flushed-agree None w payload = λ i r. ⊎_elim (λ u. same i u) (λ u. absurd (contradiction u refl)) r
  flushed-agree (Some f) w sectors =
      let x = padded (take (2048 * f.sectors) p) in
      let y : padded (take (2048 * f.sectors) q) ≡ x = ap padded (sym (sectors f.block f.sectors refl)) in
      let l = sectors-padded f.sectors p (omega arith) in
      rw y
      (agree_splice R (λ i. (R i) ⊎ (eqb (i / 32768) f.block.0 ≡ true)) m n (32768 * f.block.0) x (omega (arith, w.2)) (omega (arith, w.2, hm))
      (λ i r out. ⊎_elim (λ u. u) (λ u. absurd (let e = eqb-true (i / 32768) f.block.0 u in ⊎_elim (λ v. omega (arith, e, v)) (λ v. omega (arith, e, v, l)) out)) r) same)

  pub transferred-agree :
      (t : Transfer) (x : List ℕ) → TransferFits (length m) (length x) t
      → ((b : Block) (held k : ℕ) → t ≡ Gather b held k → take (2048 * held) p ≡ take (2048 * held) q)
      → Agree (λ i. (R i) ⊎ (transfers t (i / 32768) ≡ true)) (transferred_medium t m p x) (transferred_medium t n q x)
  unfolding transferred_medium transfers gathered_medium
  transferred-agree Nothing x w payload = λ i r. ⊎_elim (λ u. same i u) (λ u. absurd (contradiction u refl)) r
  transferred-agree (Send a k j l) x w payload = λ i r. ⊎_elim (λ u. same i u) (λ u. absurd (contradiction u refl)) r
  transferred-agree (Gather b held k) x w sectors =
      let c = (held + k) / 16 in
      let y = take (32768 * c) (stream held p x) in
      let z : take (32768 * c) (stream held q x) ≡ y = ap (take (32768 * c)) (sym (stale_stream held p q x (sectors b held k refl))) in
      let l : length y ≡ 32768 * c = length_whole held k p x (omega (arith, w.0)) w.1 in
      rw z
      (agree_splice R (λ i. (R i) ⊎ (among b.0 c (i / 32768) ≡ true)) m n (32768 * b.0) y (omega (arith, w.3)) (omega (arith, w.3, hm))
      (λ i r out.
      ⊎_elim (λ u. u)
      (λ u.
      absurd
      (let from = among-from b.0 c (i / 32768) u in
      let below = among_below b.0 c (i / 32768) u in
      ⊎_elim (λ v. omega (arith, from, v)) (λ v. omega (arith, below, v, l)) out)) r) same)
  transferred-agree (Fill b k) x w sectors =
      let l = length-zeros (32768 * k) in
      agree_splice R (λ i. (R i) ⊎ (among b.0 k (i / 32768) ≡ true)) m n (32768 * b.0) (zeros (32768 * k)) (omega (arith, w.1)) (omega (arith, w.1, hm))
      (λ i r out.
      ⊎_elim (λ u. u)
      (λ u.
      absurd
      (let from = among-from b.0 k (i / 32768) u in
      let below = among_below b.0 k (i / 32768) u in
      ⊎_elim (λ v. omega (arith, from, v)) (λ v. omega (arith, below, v, l)) out)) r) same

-- and the sectors that are pending then are the same
pub flushed_sectors :
    (f : Option Flush) (c : ℕ) (p q : List ℕ) → take (2048 * c) p ≡ take (2048 * c) q
    → take (2048 * flushed_count f c) (flushed_pending f p) ≡ take (2048 * flushed_count f c) (flushed_pending f q)
unfolding flushed_count flushed_pending
flushed_sectors None c p q e = e
flushed_sectors (Some f) c p q e = refl

pub transferred_sectors :
    (t : Transfer) (c : ℕ) (p q x : List ℕ) → ((b : Block) (held n : ℕ) → t ≡ Gather b held n → held ≡ c) → take (2048 * c) p ≡ take (2048 * c) q
    → take (2048 * transferred_count t c) (transferred_pending t p x) ≡ take (2048 * transferred_count t c) (transferred_pending t q x)
unfolding transferred_count transferred_pending
transferred_sectors Nothing c p q x h e = e
transferred_sectors (Send a n i k) c p q x h e = e
transferred_sectors (Gather b held n) c p q x h e =
    let k = h b held n refl in
    ap (take (2048 * ((held + n) % 16))) (stale_pending_lem held n p q x (rw k e))
transferred_sectors (Fill b n) c p q x h e = e
