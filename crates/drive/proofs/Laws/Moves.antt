-- Laws of the bytes of a WRITE, a flush and a fill.
use mathlib.Core.Path.{◌≡◌, refl, sym, ap, ◌∙◌}
use Prim.Native.Nat.{ℕ, ◌+◌, ◌-◌, ◌*◌, ◌/◌, ◌%◌, ◌≤◌}
use native.Mathlib.Omega.{arith}
use mathlib.Core.List.{List, [], ◌∷◌, ◌++◌, append_assoc}
use lib.ListN.{length, take, drop, length-drop}
use lib.Seq.{drop-drop, take-add, drop-append-le, length-take-le}
use Rattle.std.proofs.lemmas.Grind.{common_steps}
use types.Run.{OneOf, miss}
use denote.Enum.Declared.{tag_of}
use Rattle.decisions.specs.contracts.plan.Transfer.{the_type}
use Rattle.decisions.specs.Plan.{recording}
use Rattle.drive.specs.Types.{Block, Option, Some, Flush, Transfer, Nothing, Send, Gather, Fill, Plan}
use Rattle.drive.specs.Bytes.{zeros, splice, padded}
use Rattle.drive.specs.Moves.{transferred_medium, transferred_pending, moved_medium, moved_pending, flushed_medium, flushed_pending, stream, gathered_medium, gathered_pending}
use Rattle.drive.proofs.Laws.Bytes.{length-zeros, zeros_add, padded_nil, splice_nil, splice-splice, length-splice, length-padded, take-padded}

-- what n sectors after those held come to
module _ (held n : ℕ) (pending sectors : List ℕ) (hp : 2048 * held ≤ length pending) (hx : length sectors ≡ 2048 * n) where
  pub length-stream : length (stream held pending sectors) ≡ 2048 * (held + n)
  unfolding stream
  length-stream = grind (arith, common_steps)

  pub length_whole : length (take (32768 * ((held + n) / 16)) (stream held pending sectors)) ≡ 32768 * ((held + n) / 16)
  length_whole = length-take-le (32768 * ((held + n) / 16)) (stream held pending sectors) (omega (arith, length-stream))

  pub length_rest : length (drop (32768 * ((held + n) / 16)) (stream held pending sectors)) ≡ 2048 * ((held + n) % 16)
  length_rest = length-drop (32768 * ((held + n) / 16)) (stream held pending sectors) ∙ omega (arith, length-stream)

  pub length-gathered-pending : length (gathered_pending held n pending sectors) ≡ 32768
  unfolding gathered_pending
  length-gathered-pending = length-padded (drop (32768 * ((held + n) / 16)) (stream held pending sectors)) (omega (arith, length_rest))

  -- the pending sectors afterwards
  pub take-gathered-pending :
      take (2048 * ((held + n) % 16)) (gathered_pending held n pending sectors) ≡ drop (32768 * ((held + n) / 16)) (stream held pending sectors)
  unfolding gathered_pending
  take-gathered-pending = take-padded (drop (32768 * ((held + n) / 16)) (stream held pending sectors)) (2048 * ((held + n) % 16)) length_rest

  pub length-gathered-medium :
      (b : ℕ) (medium : List ℕ) → 32768 * (b + (held + n) / 16) ≤ length medium
      → length (gathered_medium b held n medium pending sectors) ≡ length medium
  unfolding gathered_medium
  length-gathered-medium b medium h =
      length-splice medium (32768 * b) (take (32768 * ((held + n) / 16)) (stream held pending sectors)) (omega (arith, length_whole))

-- n + k sectors gather as n and then k
module _
    (held n k : ℕ) (pending x y : List ℕ) (hp : 2048 * held ≤ length pending) (hx : length x ≡ 2048 * n) (hy : length y ≡ 2048 * k)
  where
    second : stream ((held + n) % 16) (gathered_pending held n pending x) y ≡ drop (32768 * ((held + n) / 16)) (stream held pending (x ++ y))
    unfolding stream
    second =
        ap (λ (l : List ℕ). l ++ y) (take-gathered-pending held n pending x hp hx)
        ∙ sym (drop-append-le (32768 * ((held + n) / 16)) (take (2048 * held) pending ++ x) y (omega (arith, length-stream held n pending x hp hx)))
        ∙ ap (drop (32768 * ((held + n) / 16))) (append_assoc (take (2048 * held) pending) x y)

    first : take (32768 * ((held + n) / 16)) (stream held pending x) ≡ take (32768 * ((held + n) / 16)) (stream held pending (x ++ y))
    unfolding stream
    first = grind (arith, common_steps)

    whole-blocks : 32768 * ((held + n) / 16) + 32768 * (((held + n) % 16 + k) / 16) ≡ 32768 * ((held + (n + k)) / 16)
    whole-blocks = omega arith

    pub cut-pending :
        gathered_pending ((held + n) % 16) k (gathered_pending held n pending x) y ≡ gathered_pending held (n + k) pending (x ++ y)
    unfolding gathered_pending
    cut-pending = ap padded (rw (second, drop-drop, whole-blocks))

    pub cut-medium :
        (b : ℕ) (medium : List ℕ) → 32768 * b ≤ length medium
        → gathered_medium (b + (held + n) / 16) ((held + n) % 16) k (gathered_medium b held n medium pending x) (gathered_pending held n pending x) y
        ≡ gathered_medium b held (n + k) medium pending (x ++ y)
    unfolding gathered_medium
    cut-medium b medium h =
        splice-splice medium (32768 * b) (32768 * (b + (held + n) / 16)) _ _ h (omega (arith, length_whole held n pending x hp hx))
        ∙ ap (splice medium (32768 * b)) (rw (second, first, ← take-add, whole-blocks))

-- pending bytes past those held do not count
pub stale_stream :
    (held : ℕ) (p q x : List ℕ) → take (2048 * held) p ≡ take (2048 * held) q → stream held p x ≡ stream held q x
unfolding stream
stale_stream held p q x e = ap (λ (l : List ℕ). l ++ x) e

pub stale_medium_lem :
    (b held n : ℕ) (medium p q x : List ℕ) → take (2048 * held) p ≡ take (2048 * held) q
    → gathered_medium b held n medium p x ≡ gathered_medium b held n medium q x
unfolding gathered_medium
stale_medium_lem b held n medium p q x e = rw (stale_stream held p q x e)

pub stale_pending_lem :
    (held n : ℕ) (p q x : List ℕ) → take (2048 * held) p ≡ take (2048 * held) q → gathered_pending held n p x ≡ gathered_pending held n q x
unfolding gathered_pending
stale_pending_lem held n p q x e = rw (stale_stream held p q x e)

-- one more block of zeros after those already recorded
pub fill_more :
    (m medium medium₁ : List ℕ) (b i : ℕ) → 32768 * b ≤ length m → medium ≡ splice m (32768 * b) (zeros (32768 * i))
    → medium₁ ≡ splice medium (32768 * (b + i)) (padded []) → medium₁ ≡ splice m (32768 * b) (zeros (32768 * (i + 1)))
fill_more m medium medium₁ b i h e f =
    let k : 32768 * (i + 1) ≡ 32768 * i + 32768 = omega arith in
    f
    ∙ rw (e, padded_nil, k, ← zeros_add)
    (splice-splice m (32768 * b) (32768 * (b + i)) (zeros (32768 * i)) (zeros 32768) h (omega (arith, length-zeros (32768 * i))))

pub fill_none : (m : List ℕ) (a : ℕ) → m ≡ splice m a (zeros (32768 * 0))
unfolding zeros
fill_none m a = sym (splice_nil m a)

-- a flush, from what its two steps leave
pub flushed_record_lem :
    (f : Option Flush) (b : Block) (n : ℕ) (m p medium pending : List ℕ) → f ≡ Some (recording b n) → length p ≡ 32768
    → medium ≡ splice m (32768 * b.0) (padded (take (2048 * n - 0) p)) → pending ≡ zeros (length p)
    → (medium ≡ flushed_medium f m p) × (pending ≡ flushed_pending f p)
unfolding flushed_medium flushed_pending
flushed_record_lem f b n m p medium pending e h d z =
    let k : 2048 * n - 0 ≡ 2048 * n = omega arith in
    (rw e (rw k at d), rw e (z ∙ (ap zeros h ∙ sym padded_nil)))

-- a transfer that moves nothing of medium and pending buffer
pub nothing_moved :
    (t : Transfer) (m p x : List ℕ) → OneOf (0 ∷ 1 ∷ []) (tag_of the_type t)
    → (m ≡ transferred_medium t m p x) × (p ≡ transferred_pending t p x)
unfolding transferred_medium transferred_pending
nothing_moved Nothing m p x h = (refl, refl)
nothing_moved (Send a n i k) m p x h = (refl, refl)
nothing_moved (Gather b q n) m p x h = absurd (miss (0 ∷ 1 ∷ []) 2 tt h)
nothing_moved (Fill b n) m p x h = absurd (miss (0 ∷ 1 ∷ []) 3 tt h)

-- a plan is its flush, then its transfer
pub moved_both :
    (w : Plan) (m p x m₁ p₁ m₂ p₂ : List ℕ) → m₁ ≡ flushed_medium w.flush m p → p₁ ≡ flushed_pending w.flush p
    → m₂ ≡ transferred_medium w.transfer m₁ p₁ x → p₂ ≡ transferred_pending w.transfer p₁ x
    → (m₂ ≡ moved_medium w m p x) × (p₂ ≡ moved_pending w p x)
unfolding moved_medium moved_pending
moved_both w m p x m₁ p₁ m₂ p₂ d e f g = (f ∙ rw (d, e), g ∙ rw e)
