-- A WRITE's sectors: too few to complete the block, or those that complete it, whole blocks and a rest.
use mathlib.Core.Path.{◌≡◌, refl, sym, ap, ◌∙◌}
use Prim.Native.Nat.{ℕ, ◌+◌, ◌-◌, ◌*◌, ◌/◌, ◌%◌, ◌≤◌, ◌<◌}
use native.Mathlib.Omega.{arith}
use mathlib.Core.List.{List, [], ◌++◌, append-nil}
use lib.ListN.{length, take, drop, length-append, length-drop}
use lib.Seq.{take-add, take_at, take_all, drop_at, drop-drop, take-append-add, drop-append-add, length-take-le}
use Rattle.std.proofs.lemmas.Grind.{common_steps}
use Rattle.drive.specs.Bytes.{zeros, splice, padded}
use Rattle.drive.specs.Moves.{stream, gathered_medium, gathered_pending}
use Rattle.drive.proofs.Laws.Bytes.{splice_nil, splice-take, splice-splice, padded-whole, padded-put}
use Rattle.drive.proofs.Laws.Moves.{length_rest, take-gathered-pending, cut-medium, cut-pending, stale_medium_lem, stale_pending_lem}

-- whole blocks of x, recorded from block b on: one more after k of them, where c is the next one and the rest of x is left
pub whole-more :
    (b k : ℕ) (m x c left medium medium₁ : List ℕ) → 32768 * b ≤ length m → 32768 * k ≤ length x → drop (32768 * k) x ≡ c ++ left
    → length c ≡ 32768 → medium ≡ splice m (32768 * b) (take (32768 * k) x) → medium₁ ≡ splice medium (32768 * (b + k)) (padded c)
    → (32768 * (k + 1) ≤ length x) × (left ≡ drop (32768 * (k + 1)) x) × (medium₁ ≡ splice m (32768 * b) (take (32768 * (k + 1)) x))
whole-more b k m x c left medium medium₁ hm hk e size f g =
    let j : 32768 * (k + 1) ≡ 32768 * k + 32768 = omega arith in
    let joined : take (32768 * (k + 1)) x ≡ take (32768 * k) x ++ c =
    ap (λ (n : ℕ). take n x) j
    ∙ (take-add (32768 * k) 32768 x ∙ ap (λ (l : List ℕ). take (32768 * k) x ++ l) (ap (take 32768) e ∙ take_at c left 32768 size)) in
    let rest : drop (32768 * (k + 1)) x ≡ left =
    ap (λ (n : ℕ). drop n x) j ∙ (sym (drop-drop 32768 (32768 * k) x) ∙ (ap (drop 32768) e ∙ drop_at c left 32768 size)) in (
      omega (arith, length-drop (32768 * k) x, ap length e, length-append c left, size),
      sym rest,
      g
          ∙ (ap (splice medium (32768 * (b + k))) (padded-whole c size)
          ∙ (ap (λ (l : List ℕ). splice l (32768 * (b + k)) c) f
          ∙ (splice-splice m (32768 * b) (32768 * (b + k)) (take (32768 * k) x) c hm (omega (arith, length-take-le (32768 * k) x hk))
          ∙ ap (splice m (32768 * b)) (sym joined)))),
    )

-- sectors that do not complete the block record nothing, and are pending after those held
module _ (held n : ℕ) (p x : List ℕ) (few : held + n < 16) where
  pub few-medium : (b : ℕ) (m : List ℕ) → m ≡ gathered_medium b held n m p x
  unfolding gathered_medium
  few-medium b m = let e : 32768 * ((held + n) / 16) ≡ 0 = omega arith in rw e (sym (splice_nil m (32768 * b)))

  pub few-pending :
      (q r : List ℕ) → length p ≡ 32768 → length x ≡ 2048 * n → q ≡ splice p (2048 * held) x
      → r ≡ take (2048 * held + length x) q ++ zeros (length q - (2048 * held + length x)) → r ≡ gathered_pending held n p x
  unfolding gathered_pending stream
  few-pending q r size sectors e f =
      let z : 32768 * ((held + n) / 16) ≡ 0 = omega arith in
      rw z (padded-put p x q r (2048 * held) size (omega (arith, sectors)) e f)

-- sectors of which y complete the block and z are the others
module _
    (held n k : ℕ) (p x y z : List ℕ) (hp : 2048 * held ≤ length p) (sectors : length x ≡ 2048 * n) (full : held + k ≡ 16) (within : k ≤ n)
    (first : y ≡ take (2048 * k) x) (others : z ≡ drop (2048 * k) x)
  where
    abbrev block : List ℕ
    block = take (2048 * held) p ++ y

    block-length : length block ≡ 32768
    block-length = grind (arith, common_steps)

    others-length : length z ≡ 2048 * (n - k)
    others-length = grind (arith, common_steps)

    whole-blocks : 32768 * ((held + n) / 16) ≡ length block + 32768 * (length z / 32768)
    whole-blocks = omega (arith, block-length, others-length)

    parts : stream held p x ≡ block ++ z
    unfolding stream
    parts = grind (arith, common_steps)

    pub full-medium :
        (b : ℕ) (m medium medium₁ : List ℕ) → 32768 * b ≤ length m → medium ≡ splice m (32768 * b) (padded block)
        → medium₁ ≡ splice medium (32768 * (b + 1)) (take (32768 * (length z / 32768)) z) → medium₁ ≡ gathered_medium b held n m p x
    unfolding gathered_medium
    full-medium b m medium medium₁ hm e f =
        let one : medium ≡ splice m (32768 * b) block = e ∙ ap (splice m (32768 * b)) (padded-whole block block-length) in
        f
        ∙ (ap (λ (l : List ℕ). splice l (32768 * (b + 1)) (take (32768 * (length z / 32768)) z)) one
        ∙ (splice-splice m (32768 * b) (32768 * (b + 1)) block (take (32768 * (length z / 32768)) z) hm (omega (arith, block-length))
        ∙ ap (splice m (32768 * b)) (rw (whole-blocks, parts) (sym (take-append-add block z (32768 * (length z / 32768)))))))

    pub full-pending : (q left : List ℕ) → left ≡ drop (length z - length z % 32768) z → q ≡ padded (left ++ []) → q ≡ gathered_pending held n p x
    unfolding gathered_pending
    full-pending q left e f =
        let r : length z - length z % 32768 ≡ 32768 * (length z / 32768) = omega arith in
        f
        ∙ ap padded
        (append-nil left ∙ (e ∙ rw (r, whole-blocks, parts) (sym (drop-append-add block z (32768 * (length z / 32768))))))

-- The next four are of sectors that complete the block at the most, and of the bytes of the pending sectors alone. They ask nothing of the
-- length of medium or pending buffer, but that the sectors held are there.
-- sectors that do not complete the block record nothing: as above, with the block first
pub few_medium : (b held k : ℕ) (m p x : List ℕ) → held + k < 16 → m ≡ gathered_medium b held k m p x
few_medium b held k m p x few = few-medium held k p x few b m

-- and are pending after those held: in a buffer of any length, before its end is cleared
pub few_pending :
    (held k : ℕ) (p x q : List ℕ) → 2048 * held ≤ length p → length x ≡ 2048 * k → held + k < 16 → q ≡ splice p (2048 * held) x
    → take (2048 * ((held + k) % 16)) q ≡ take (2048 * ((held + k) % 16)) (gathered_pending held k p x)
unfolding stream
few_pending held k p x q hp hx few e =
    let n : 2048 * ((held + k) % 16) ≡ 2048 * held + length x = omega arith in
    let z : 32768 * ((held + k) / 16) ≡ 0 = omega arith in
    let t : take (2048 * ((held + k) % 16)) q ≡ take (2048 * held) p ++ x = rw (n, e) (splice-take p (2048 * held) x hp) in
    let d : drop (32768 * ((held + k) / 16)) (take (2048 * held) p ++ x) ≡ take (2048 * held) p ++ x = rw z refl in
    t ∙ sym (take-gathered-pending held k p x hp hx ∙ d)

-- sectors that complete the block, and no others: it is recorded, in a medium of any length
pub full_medium :
    (b held k : ℕ) (m p x : List ℕ) → 2048 * held ≤ length p → length x ≡ 2048 * k → held + k ≡ 16
    → splice m (32768 * b) (padded (take (2048 * held) p ++ x)) ≡ gathered_medium b held k m p x
unfolding gathered_medium stream
full_medium b held k m p x hp hx full =
    let n : 32768 * ((held + k) / 16) ≡ 32768 = omega arith in
    let l : length (take (2048 * held) p ++ x) ≡ 32768 =
    length-append (take (2048 * held) p) x ∙ omega (arith, length-take-le (2048 * held) p hp) in
    ap (splice m (32768 * b)) (padded-whole (take (2048 * held) p ++ x) l ∙ rw n (sym (take_all 32768 (take (2048 * held) p ++ x) (omega arith))))

-- and none are pending: any two buffers have the same pending sectors
pub full_pending :
    (held k : ℕ) (p q : List ℕ) → held + k ≡ 16 → take (2048 * ((held + k) % 16)) p ≡ take (2048 * ((held + k) % 16)) q
full_pending held k p q full = let z : 2048 * ((held + k) % 16) ≡ 0 = omega arith in rw z refl

-- i of the sectors x are gathered: what is recorded, and which sectors are pending (the bytes past them are free)
pub record Gathered (b held i : ℕ) (m p x medium pending : List ℕ) : Type 0 where
  pub recorded : medium ≡ gathered_medium b held i m p (take (2048 * i) x)
  pub rest : take (2048 * ((held + i) % 16)) pending ≡ take (2048 * ((held + i) % 16)) (gathered_pending held i p (take (2048 * i) x))

pub gathered_none : (b held : ℕ) (m p x : List ℕ) → 2048 * held ≤ length p → held < 16 → Gathered b held 0 m p x m p
unfolding gathered_medium stream
gathered_none b held m p x hp h =
    let e : 32768 * ((held + 0) / 16) ≡ 0 = omega arith in
    let f : 2048 * ((held + 0) % 16) ≡ 2048 * held = omega arith in
    let same : take (2048 * ((held + 0) % 16)) p ≡ drop (32768 * ((held + 0) / 16)) (stream held p []) =
    rw (e, f) (sym (append-nil (take (2048 * held) p))) in
    record { recorded = rw e (sym (splice_nil m (32768 * b))); rest = same ∙ sym (take-gathered-pending held 0 p [] hp refl) }

module _
    (b held i k n : ℕ) (m p x medium pending : List ℕ) (hp : 2048 * held ≤ length p) (hx : length x ≡ 2048 * n) (hi : i + k ≤ n)
    (hm : 32768 * b ≤ length m) (g : Gathered b held i m p x medium pending)
  where
    -- the next k sectors
    abbrev next : List ℕ
    next = take (2048 * k) (drop (2048 * i) x)

    length_before : length (take (2048 * i) x) ≡ 2048 * i
    length_before = length-take-le (2048 * i) x (omega arith)

    length-next : length next ≡ 2048 * k
    length-next = length-take-le (2048 * k) (drop (2048 * i) x) (omega (arith, length-drop (2048 * i) x))

    joined : take (2048 * i) x ++ next ≡ take (2048 * (i + k)) x
    joined = let j : 2048 * (i + k) ≡ 2048 * i + 2048 * k = omega arith in rw (j, take-add)

    -- what they add, by the cut law, where z is the part of the data that is lent; of the pending bytes those of the pending sectors count
    pub gathered-more :
        (medium₁ pending₁ z : List ℕ) → z ≡ take (length x - 2048 * i) (drop (2048 * i) x)
        → medium₁ ≡ gathered_medium (b + (held + i) / 16) ((held + i) % 16) k medium pending (take (2048 * k) z)
        → take (2048 * (((held + i) % 16 + k) % 16)) pending₁
        ≡ take (2048 * (((held + i) % 16 + k) % 16)) (gathered_pending ((held + i) % 16) k pending (take (2048 * k) z))
        → Gathered b held (i + k) m p x medium₁ pending₁
    gathered-more medium₁ pending₁ z l e f =
        let w = gathered_pending held i p (take (2048 * i) x) in
        let q = (held + i) % 16 in
        let here : z ≡ drop (2048 * i) x = l ∙ take_all (length x - 2048 * i) (drop (2048 * i) x) (omega (arith, length-drop (2048 * i) x)) in
        let same : 2048 * ((held + (i + k)) % 16) ≡ 2048 * ((q + k) % 16) = omega arith in
        record {
          recorded =
              (rw here at e)
              ∙ stale_medium_lem (b + (held + i) / 16) q k medium pending w next g.rest
              ∙ rw g.recorded (cut-medium held i k p (take (2048 * i) x) next hp length_before length-next b m hm ∙ ap (gathered_medium b held (i + k) m p) joined);
          rest =
              rw same
              ((rw here at f)
              ∙ ap (take (2048 * ((q + k) % 16)))
              (stale_pending_lem q k pending w next g.rest
              ∙ cut-pending held i k p (take (2048 * i) x) next hp length_before length-next
              ∙ ap (gathered_pending held (i + k) p) joined));
        }

-- all are gathered, and zeros stand after what is pending
pub gathered_all :
    (b held n : ℕ) (m p x medium pending : List ℕ) → 2048 * held ≤ length p → length x ≡ 2048 * n → length pending ≡ 32768
    → Gathered b held n m p x medium pending
    → (medium ≡ gathered_medium b held n m p x)
    × (take (2048 * ((held + n) % 16)) pending ++ zeros (length pending - 2048 * ((held + n) % 16)) ≡ gathered_pending held n p x)
unfolding gathered_pending padded
gathered_all b held n m p x medium pending hp hx hq g =
    let all : take (2048 * n) x ≡ x = take_all (2048 * n) x (omega arith) in
    let r : take (2048 * ((held + n) % 16)) pending ≡ drop (32768 * ((held + n) / 16)) (stream held p x) =
    (rw all at g.rest) ∙ take-gathered-pending held n p x hp hx in
    let l : length pending - 2048 * ((held + n) % 16) ≡ 32768 - length (drop (32768 * ((held + n) / 16)) (stream held p x)) =
    omega (arith, length_rest held n p x hp hx) in
    (rw all at g.recorded, rw (r, l))
