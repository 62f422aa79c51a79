-- Bytes stored one after another in a lent buffer, cut where it ends.
use Prim.Native.Nat.{ℕ, ◌+◌, ◌-◌, ◌≤◌, ◌<◌, min}
use mathlib.Core.Path.{◌≡◌, refl, sym, ap, ◌∙◌}
use mathlib.Core.List.{List, [], ◌∷◌, ◌++◌, append-nil}
use mathlib.Core.Logic.{⊎_elim}
use native.Mathlib.Omega.{arith}
use native.Mathlib.Nat.{eq-zero-or-pos}
use lib.ListN.{length, take, drop, set, length-set, length-take, length-drop, take-append-drop, drop_of_length-le}
use lib.Seq.{set-append_left, set_comm, set_out, length-take-le, take_all}
use borrow.Author.Tests.{leb-true, leb-false}
use borrow.Rule.Slice.PartMut.{put_mid}
use lib.Dec.{leb}
use Rattle.features.specs.Bytes.{stored}
use Rattle.fragments.proofs.Laws.Bool.{by_cases}
use Rattle.features.proofs.Laws.Bytes.{stored_parts, stored-over, length-stored}

-- what is stored past the end is nowhere, so only what there is room for counts
pub stored_past : (l : List ℕ) (i : ℕ) (x : List ℕ) → length l ≤ i → stored l i x ≡ l
unfolding stored
stored_past l i [] h = refl
stored_past l i (b ∷ x) h = rw (set_out l i b h) (stored_past l (i + 1) x (omega arith))

pub stored_room : (l : List ℕ) (i n : ℕ) (x : List ℕ) → n ≡ min (length x) (length l - i) → stored l i (take n x) ≡ stored l i x
unfolding stored
stored_room l i n x e =
    let size : length (take n x) ≡ n = length-take-le n x (omega (arith, e)) in
    let whole : take n x ++ drop n x ≡ x = take-append-drop n x in
    let parts : stored (stored l i (take n x)) (i + n) (drop n x) ≡ stored l i x = rw (size, whole) at (stored_parts l i (take n x) (drop n x)) in
    ⊎_elim
    (λ full. let none : drop n x ≡ [] = drop_of_length-le x {i = n} (omega (arith, full)) in rw none at parts)
    (λ more. sym (stored_past (stored l i (take n x)) (i + n) (drop n x) (omega (arith, length-stored l i (take n x), more, e))) ∙ parts)
    (eq-zero-or-pos (length x - n))

-- the first four bytes last
set-stored : (l : List ℕ) (i j a : ℕ) (x : List ℕ) → j < i → set (stored l i x) j a ≡ stored (set l j a) i x
unfolding stored
set-stored l i j a [] h = refl
set-stored l i j a (b ∷ x) h =
    set-stored (set l i b) (i + 1) j a x (omega arith) ∙ ap (λ (k : List ℕ). stored k (i + 1) x) (set_comm l i j b a (λ e. omega (arith, e)))

pub stored_front :
    (l : List ℕ) (a b c d : ℕ) (x : List ℕ) → stored (stored l 4 x) 0 (a ∷ b ∷ c ∷ d ∷ []) ≡ stored l 0 (a ∷ b ∷ c ∷ d ∷ x)
unfolding stored
stored_front l a b c d x =
    rw (set-stored l 4 0 a x (omega arith), set-stored (set l 0 a) 4 1 b x (omega arith), set-stored (set (set l 0 a) 1 b) 4 2 c x (omega arith))
    (set-stored (set (set (set l 0 a) 1 b) 2 c) 4 3 d x (omega arith))

-- a list that is stored over whole is the first bytes of what is stored
pub stored-all : (l x : List ℕ) → length l ≤ length x → stored l 0 x ≡ take (length l) x
stored-all l x h =
    let n = length l in
    let size : length (take n x) ≡ n = length-take-le n x h in
    let over : stored l 0 (take n x) ≡ take n x =
    rw (append-nil l, append-nil (take n x)) at (stored-over [] l [] (take n x) (sym size)) in
    sym (stored_room l 0 n x (omega (arith, h))) ∙ over

-- what there is room for, in the place of as many that were there
stored_cut :
    (l x : List ℕ) (at from n : ℕ) → from ≡ min at (length l) → n ≡ min (length x) (length l - from) → stored l at x ≡ stored l from (take n x)
stored_cut l x at from n e h =
    by_cases (leb at (length l))
    (λ t.
    let same : from ≡ at = omega (arith, leb-true at (length l) t, e) in
    rw same (sym (stored_room l at n x (omega (arith, same, h)))))
    (λ t.
    let past = leb-false at (length l) t in
    stored_past l at x (omega (arith, past)) ∙ sym (stored_past l from (take n x) (omega (arith, past, e))))

pub stored_part :
    (l x y : List ℕ) (at from n k : ℕ) → from ≡ min at (length l) → n ≡ min (length x) (length l - from) → k ≡ n → y ≡ take n x
    → put_mid from k l y ≡ stored l at x
stored_part l x y at from n k e h same part =
    let u = take n (drop from l) in
    let r = drop n (drop from l) in
    let size : length (take from l) ≡ from = length-take-le from l (omega (arith, e)) in
    let fit : length u ≡ length (take n x) =
    omega (arith, length-take-le n (drop from l) (omega (arith, length-drop from l, h)), length-take-le n x (omega (arith, h))) in
    let parts : take from l ++ (u ++ r) ≡ l = rw (take-append-drop n (drop from l)) (take-append-drop from l) in
    rw (same, part) (sym (stored_cut l x at from n e h ∙ rw (size, parts) at (stored-over (take from l) u r (take n x) fit)))

-- what is stored into the first part of a list, and the rest after it
stored_left : (p q : List ℕ) (i : ℕ) (x : List ℕ) → i + length x ≤ length p → stored (p ++ q) i x ≡ stored p i x ++ q
unfolding stored
stored_left p q i [] h = refl
stored_left p q i (b ∷ x) h =
    rw (set-append_left p q i b (omega arith)) (stored_left (set p i b) q (i + 1) x (omega (arith, length-set p i b)))

pub stored_first : (l x : List ℕ) (n : ℕ) → n ≤ length l → stored (take n l) 0 x ++ drop n l ≡ stored l 0 (take n x)
stored_first l x n h =
    let p = take n l in
    let size : length p ≡ n = length-take-le n l h in
    let whole : p ++ drop n l ≡ l = take-append-drop n l in
    let cut : stored p 0 x ≡ stored p 0 (take n x) =
    ⊎_elim
    (λ short. ap (stored p 0) (sym (take_all n x (omega (arith, short)))))
    (λ long. sym (stored_room p 0 n x (omega (arith, long, size))))
    (eq-zero-or-pos (length x - n)) in
    let left = stored_left p (drop n l) 0 (take n x) (omega (arith, size, length-take n x)) in
    ap (λ (k : List ℕ). k ++ drop n l) cut ∙ (sym left ∙ ap (λ (k : List ℕ). stored k 0 (take n x)) whole)
