-- Bytes stored one after another, before zeros.
use Prim.Native.Nat.{ℕ, suc, ◌+◌, ◌<◌}
use mathlib.Core.Path.{◌≡◌, refl, sym, ap, ◌∙◌}
use mathlib.Core.List.{List, [], ◌∷◌, ◌++◌, append_assoc}
use native.Mathlib.Omega.{arith}
use native.Mathlib.Numerals.{add-one}
use lib.ListN.{length, take, set, get_or, length-set, length-append}
use lib.Seq.{set-append_seam, append_snoc, length-take-le, take-suc}
use Rattle.features.specs.Bytes.{stored}

-- in two parts
pub stored_parts : (l : List ℕ) (i : ℕ) (x y : List ℕ) → stored (stored l i x) (i + length x) y ≡ stored l i (x ++ y)
unfolding stored
stored_parts l i [] y = let e : i + 0 ≡ i = omega arith in ap (λ (k : ℕ). stored l k y) e
stored_parts l i (b ∷ x) y =
    let e : i + suc (length x) ≡ i + 1 + length x = omega arith in
    ap (λ (k : ℕ). stored (stored (set l i b) (i + 1) x) k y) e ∙ stored_parts (set l i b) (i + 1) x y

-- over others, as many, after those that are there
pub stored-over :
    (x u l y : List ℕ) → length u ≡ length y → stored (x ++ (u ++ l)) (length x) y ≡ x ++ (y ++ l)
unfolding stored
stored-over x [] l [] h = refl
stored-over x [] l (b ∷ y) h = absurd (omega (arith, h))
stored-over x (a ∷ u) l [] h = absurd (omega (arith, h))
stored-over x (a ∷ u) l (b ∷ y) h =
    let longer : length (x ++ (b ∷ [])) ≡ length x + 1 = length-append x (b ∷ []) in
    ap (λ (k : List ℕ). stored k (length x + 1) y) (set-append_seam x a (u ++ l) b ∙ sym (append_snoc x b (u ++ l)))
    ∙ (ap (λ (k : ℕ). stored ((x ++ (b ∷ [])) ++ (u ++ l)) k y) (sym longer)
    ∙ (stored-over (x ++ (b ∷ [])) u l y (omega (arith, h)) ∙ append_assoc x (b ∷ []) (y ++ l)))

-- four stores, and eight bytes more in two parts
pub stored_four : (l : List ℕ) (i a b c d : ℕ) → set (set (set (set l i a) (i + 1) b) (i + 2) c) (i + 3) d ≡ stored l i (a ∷ b ∷ c ∷ d ∷ [])
unfolding stored
stored_four l i a b c d =
    let two : i + 1 + 1 ≡ i + 2 = omega arith in
    let three : i + 2 + 1 ≡ i + 3 = omega arith in
    rw (two, three)

pub stored_twelve :
    (l : List ℕ) (i : ℕ) (x y z : List ℕ) {l₁ l₂ l₃ : List ℕ} → length x ≡ 4 → length y ≡ 4
    → l₁ ≡ stored l i x → l₂ ≡ stored l₁ (i + 4) y → l₃ ≡ stored l₂ (i + 8) z → l₃ ≡ stored l i (x ++ (y ++ z))
stored_twelve l i x y z hx hy e₁ e₂ e₃ =
    let b : i + 8 ≡ i + length (x ++ y) = omega (arith, length-append x y) in
    let two = e₂ ∙ (ap (λ (k : List ℕ). stored k (i + 4) y) e₁ ∙ (ap (λ (k : ℕ). stored (stored l i x) (i + k) y) (sym hx) ∙ stored_parts l i x y)) in
    e₃ ∙ (ap (λ (k : List ℕ). stored k (i + 8) z) two ∙ (ap (λ (k : ℕ). stored (stored l i (x ++ y)) k z) b ∙ (stored_parts l i (x ++ y) z ∙ ap (stored l i) (append_assoc x y z))))

-- one more
pub stored_next :
    (l : List ℕ) (i k d : ℕ) (x : List ℕ) → k < length x → set (stored l i (take k x)) (i + k) (get_or x k d) ≡ stored l i (take (k + 1) x)
unfolding stored
stored_next l i k d x h =
    let size : k ≡ length (take k x) = sym (length-take-le k x (omega arith)) in
    rw (add-one, take-suc x k d h)
    (ap (λ (n : ℕ). set (stored l i (take k x)) (i + n) (get_or x k d)) size ∙ stored_parts l i (take k x) (get_or x k d ∷ []))

pub length-stored : (l : List ℕ) (i : ℕ) (x : List ℕ) → length (stored l i x) ≡ length l
unfolding stored
length-stored l i [] = refl
length-stored l i (b ∷ x) = length-stored (set l i b) (i + 1) x ∙ length-set l i b
