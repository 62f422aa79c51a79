-- Laws of zeros, splices and padded blocks.
use mathlib.Core.Path.{◌≡◌, refl, sym, ap, ◌∙◌}
use Prim.Native.Nat.{ℕ, zero, suc, ◌+◌, ◌-◌, ◌*◌, ◌≤◌, ◌<◌}
use native.Mathlib.Numerals.{add-one}
use native.Mathlib.Nat.{not-suc-le-zero, le_of_suc-le-suc}
use native.Mathlib.Omega.{arith}
use borrow.Rule.Slice.PartMut.{put_mid, mid_of}
use borrow.Author.Fill.{fill_more}
use mathlib.Core.List.{List, [], ◌∷◌, ◌++◌, append-nil}
use lib.ListN.{length, get_or, set, take, drop, length-append, length-take, length-drop, drop_of_length-le, length-replicate, replicate-append-replicate}
use lib.Seq.{paste, take_at, take-take, take-append-le, drop-drop, drop-append-le, drop-append-add}
use Rattle.std.proofs.lemmas.List.{drop-take}
use Rattle.std.proofs.lemmas.List.Edits.{paste_all, paste-paste}
use Rattle.std.proofs.lemmas.Grind.{common_steps}
use Rattle.drive.specs.Bytes.{zeros, splice, padded}

pub length-zeros : (n : ℕ) → length (zeros n) ≡ n
unfolding zeros
length-zeros n = length-replicate n 0

pub zeros_add : (n k : ℕ) → zeros n ++ zeros k ≡ zeros (n + k)
unfolding zeros
zeros_add n k = replicate-append-replicate n k 0

pub length-splice : (m : List ℕ) (a : ℕ) (x : List ℕ) → a + length x ≤ length m → length (splice m a x) ≡ length m
unfolding splice
length-splice m a x h = grind (arith, common_steps)

pub splice_nil : (m : List ℕ) (a : ℕ) → splice m a [] ≡ m
unfolding splice
splice_nil m a = grind (arith, common_steps)

-- as the library says it
pasted : (m : List ℕ) (a : ℕ) (x : List ℕ) → splice m a x ≡ paste m a x (length x)
unfolding splice
pasted m a x = sym (paste_all m a x (length x) refl)

-- a splice right after another one
pub splice-splice :
    (m : List ℕ) (a e : ℕ) (x y : List ℕ) → a ≤ length m → a + length x ≡ e → splice (splice m a x) e y ≡ splice m a (x ++ y)
splice-splice m a e x y h q =
    rw (pasted, pasted, pasted, ← q, length-append) (paste-paste m a x y (length x) (length y) refl refl h)

-- a splice up to the end
pub splice-end : (m : List ℕ) (a : ℕ) (x : List ℕ) → length m ≤ a + length x → splice m a x ≡ take a m ++ x
unfolding splice
splice-end m a x h = grind (arith, common_steps)

-- what stands before the end of a splice
pub splice-take : (m : List ℕ) (a : ℕ) (x : List ℕ) → a ≤ length m → take (a + length x) (splice m a x) ≡ take a m ++ x
unfolding splice
splice-take m a x h = grind (arith, common_steps)

-- a part that was lent comes back: the whole is a splice
pub put-splice : (m : List ℕ) (a e : ℕ) {y x : List ℕ} → y ≡ x → a + length x ≡ e → put_mid a (e - a) m y ≡ splice m a x
unfolding splice
put-splice m a e {y} {x} h l = grind (arith, common_steps)

-- a padded block has a block's length
pub length-padded : (x : List ℕ) → length x ≤ 32768 → length (padded x) ≡ 32768
unfolding padded zeros
length-padded x h = grind (arith, common_steps)

-- nothing is missing of a whole one
pub padded-whole : (x : List ℕ) → length x ≡ 32768 → padded x ≡ x
unfolding padded zeros
padded-whole x h = rw h (append-nil x)

pub padded_nil : padded [] ≡ zeros 32768
unfolding padded
padded_nil = refl

pub take-padded : (x : List ℕ) (n : ℕ) → length x ≡ n → take n (padded x) ≡ x
unfolding padded
take-padded x n h = take_at x (zeros (32768 - length x)) n h

-- a stretch of a block's length, with zeros after what was put there
pub padded-put :
    (m x p q : List ℕ) (a : ℕ) → length m ≡ 32768 → a + length x ≤ 32768 → p ≡ splice m a x
    → q ≡ take (a + length x) p ++ zeros (length p - (a + length x)) → q ≡ padded (take a m ++ x)
unfolding padded zeros splice
padded-put m x p q a size room e f = grind (arith, common_steps)

-- a block from what stands in two places
pub padded_parts :
    (m x y p p₁ q : List ℕ) → length m ≡ 32768 → length x + length y ≤ 32768 → p ≡ splice m 0 x → p₁ ≡ splice p (length x) y
    → q ≡ take (length x + length y) p₁ ++ zeros (length p₁ - (length x + length y)) → q ≡ padded (x ++ y)
padded_parts m x y p p₁ q hm h e d f =
    let both : p₁ ≡ splice m 0 (x ++ y) = d ∙ (ap (λ (l : List ℕ). splice l (length x) y) e ∙ splice-splice m 0 (length x) x y (omega arith) (omega arith)) in
    let l : length x + length y ≡ 0 + length (x ++ y) = omega (arith, length-append x y) in
    padded-put m (x ++ y) p₁ q 0 hm (omega (arith, l)) both (rw l at f)

-- a part of a run is a part of the whole
pub run_in_run :
    (l : List ℕ) (a w b v : ℕ) → b + v ≤ w → a + b ≤ length l → take v (drop b (take w (drop a l))) ≡ take v (drop (a + b) l)
run_in_run l a w b v h k =
    let e : w ≡ b + (w - b) = omega arith in
    let room : v ≤ w - b = omega arith in
    rw (e, drop-take, take-take v (w - b) (drop b (drop a l)) room, drop-drop) refl

pub run_in_front : (l : List ℕ) (w b v : ℕ) → b + v ≤ w → b ≤ length l → take v (drop b (take w l)) ≡ take v (drop b l)
run_in_front l w b v h k =
    let e : w ≡ b + (w - b) = omega arith in
    let room : v ≤ w - b = omega arith in
    rw (e, drop-take, take-take v (w - b) (drop b l) room) refl

-- a sector of what stands in front, and of what stands after c sectors
pub sector_front :
    (l x : List ℕ) (c i : ℕ) → length l ≡ 2048 * c → i < c → take 2048 (drop (2048 * i) (l ++ x)) ≡ take 2048 (drop (2048 * i) l)
sector_front l x c i size h =
    ap (take 2048) (drop-append-le (2048 * i) l x (omega (arith, size)))
    ∙ take-append-le 2048 (drop (2048 * i) l) x (omega (arith, size, length-drop (2048 * i) l))

pub sector-after : (l x : List ℕ) (c i : ℕ) → length l ≡ 2048 * c → take 2048 (drop (2048 * (c + i)) (l ++ x)) ≡ take 2048 (drop (2048 * i) x)
sector-after l x c i size =
    let place : 2048 * (c + i) ≡ length l + 2048 * i = omega (arith, size) in
    ap (λ (n : ℕ). take 2048 (drop n (l ++ x))) place ∙ ap (take 2048) (drop-append-add l x (2048 * i))

-- one turn of a copy
copy_suc :
    (s t : List ℕ) (i : ℕ) → i < length s → i < length t → set (take i s ++ drop i t) i (get_or s i 0) ≡ take (suc i) s ++ drop (suc i) t
copy_suc [] t i h k = absurd (not-suc-le-zero h)
copy_suc (x ∷ xs) [] i h k = absurd (not-suc-le-zero k)
copy_suc (x ∷ xs) (y ∷ ys) zero h k = refl
copy_suc (x ∷ xs) (y ∷ ys) (suc i) h k = ap (λ (l : List ℕ). x ∷ l) (copy_suc xs ys i (le_of_suc-le-suc h) (le_of_suc-le-suc k))

pub copy_more :
    (s t : List ℕ) (i : ℕ) → i < length s → i < length t
    → set (take i s ++ drop i t) i (get_or s i 0) ≡ take (i + 1) s ++ drop (i + 1) t
copy_more s t i h k = rw add-one (copy_suc s t i h k)

-- one turn of the clearing
pub zeros_none : (t : List ℕ) → t ≡ zeros 0 ++ drop 0 t
unfolding zeros
zeros_none t = refl

pub zeros_more : (n : ℕ) (t : List ℕ) → n < length t → set (zeros n ++ drop n t) n 0 ≡ zeros (n + 1) ++ drop (n + 1) t
unfolding zeros
zeros_more n t h = fill_more n 0 t h

-- the end of a slice lent to be cleared
pub clear_end :
    (p z : List ℕ) (a : ℕ) → a ≤ length p → z ≡ zeros (length (mid_of a (length p - a) p))
    → put_mid a (length p - a) p z ≡ take a p ++ zeros (length p - a)
clear_end p z a h e =
    let n : length (mid_of a (length p - a) p) ≡ length p - a = simp (length-take, length-drop) (omega arith) in
    rw (e, n, drop-drop, drop_of_length-le p {i = a + (length p - a)} (omega arith), append-nil)
