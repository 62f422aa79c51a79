-- Features along the table, and those that a request asks for.
use Prim.Native.Nat.{ℕ, zero, suc, ◌+◌, ◌-◌, ◌≤◌, ◌<◌}
use mathlib.Core.Path.{◌≡◌, refl, sym, ap, ◌∙◌}
use mathlib.Core.Bool.{Bool, true, false, cond}
use mathlib.Core.List.{List, [], ◌∷◌, ◌++◌, append_assoc, append-nil}
use native.Mathlib.Omega.{arith}
use native.Mathlib.Numerals.{add-one}
use lib.ListN.{length, take, get_or, replicate, length-append}
use lib.Seq.{take-suc}
use lib.Dec.{eqb}
use borrow.Author.Tests.{le-leb, ne_eqb}
use Rattle.features.specs.Types.{Feature}
use Rattle.features.specs.declared.feature.TheConstants.{FEATURES}
use Rattle.features.specs.Feature.{feature, features, feature_at, whole_descriptor, descriptor, descriptors, is_asked, asked, numbers, Above, Rising}

-- a row of the table as the code stores it: the data have four bytes and zeros after them, or eight
pub record Row (f : Feature) : Type 0 where
  pub version : f.version ≤ 1
  pub most : f.length ≤ 8
  pub whole : whole_descriptor f ≡ descriptor f ++ replicate (8 - f.length) 0
  pub size : length (descriptor f) ≡ 4 + f.length

long : (n v x y : ℕ) → v ≤ 1 → Row (feature n v 8 x y)
long n v x y h = record { version = h; most = omega arith; whole = refl; size = refl }

short : (n v x : ℕ) → v ≤ 1 → Row (feature n v 4 x 0)
short n v x h = record { version = h; most = omega arith; whole = refl; size = refl }

-- the code's table is this one
pub table : FEATURES ≡ features
unfolding features
table = refl

unfoldable pub Rows : List Feature → Type 0
Rows [] = Unit {0}
Rows (f ∷ fs) = Row f × Rows fs

row_in : (fs : List Feature) (d : Feature) → Rows fs → (i : ℕ) → i < length fs → Row (get_or fs i d)
unfolding Rows
row_in [] d r i h = absurd (omega arith)
row_in (f ∷ fs) d r zero h = r.0
row_in (f ∷ fs) d r (suc i) h = row_in fs d r.1 i (omega arith)

within : (i : ℕ) → i < 10 → i < length features
unfolding features
within i h = h

pub rows : Rows features
unfolding features Rows
rows =
    (long _ 0 _ _ (omega arith), (long _ 0 _ _ (omega arith), (short _ 0 _ (omega arith), (short _ 0 _ (omega arith), (long _ 0 _ _ (omega arith), (short _ 0 _ (omega arith), (short _ 1 _ (omega arith), (short _ 0 _ (omega arith), (short _ 0 _ (omega arith), (short _ 0 _ (omega arith), tt))))))))))

pub row_at : (i : ℕ) → i < 10 → Row (feature_at i)
row_at i h = row_in features (feature 0 0 0 0 0) rows i (within i h)

cond_rows : (b : Bool) (f : Feature) (fs : List Feature) → Row f → Rows fs → Rows (cond b (f ∷ fs) fs)
unfolding Rows
cond_rows true f fs r w = (r, w)
cond_rows false f fs r w = w

pub rows-asked : (r s : ℕ) (fs : List Feature) → Rows fs → Rows (asked r s fs)
unfolding Rows asked
rows-asked r s [] w = tt
rows-asked r s (f ∷ fs) w = cond_rows (is_asked r s f) f (asked r s fs) w.0 (rows-asked r s fs w.1)

-- a feature that is asked for, and one that is not, after others
pub descriptors-append : (x y : List Feature) → descriptors (x ++ y) ≡ descriptors x ++ descriptors y
unfolding descriptors
descriptors-append [] y = refl
descriptors-append (f ∷ x) y = ap (λ (l : List ℕ). descriptor f ++ l) (descriptors-append x y) ∙ sym (append_assoc (descriptor f) (descriptors x) (descriptors y))

pub numbers-append : (x y : List Feature) → numbers (x ++ y) ≡ numbers x ++ numbers y
unfolding numbers
numbers-append [] y = refl
numbers-append (f ∷ x) y = ap (λ (l : List ℕ). f.number ∷ l) (numbers-append x y)

pub length-numbers : (x : List Feature) → length (numbers x) ≡ length x
unfolding numbers
length-numbers [] = refl
length-numbers (f ∷ x) = ap suc (length-numbers x)

cond_append : (b : Bool) (f : Feature) (u w : List Feature) → cond b (f ∷ (u ++ w)) (u ++ w) ≡ cond b (f ∷ u) u ++ w
cond_append true f u w = refl
cond_append false f u w = refl

asked-append : (r s : ℕ) (x y : List Feature) → asked r s (x ++ y) ≡ asked r s x ++ asked r s y
unfolding asked
asked-append r s [] y = refl
asked-append r s (f ∷ x) y = rw (asked-append r s x y) (cond_append (is_asked r s f) f (asked r s x) (asked r s y))

module _ (r s i : ℕ) (h : i < 10) where
  taken : take (i + 1) features ≡ take i features ++ (feature_at i ∷ [])
  taken = rw add-one (take-suc features i (feature 0 0 0 0 0) (within i h))

  pub asked-on : is_asked r s (feature_at i) ≡ true → asked r s (take (i + 1) features) ≡ asked r s (take i features) ++ (feature_at i ∷ [])
  unfolding asked
  asked-on e = rw (taken, asked-append r s (take i features) (feature_at i ∷ []), e)

  pub asked-off : is_asked r s (feature_at i) ≡ false → asked r s (take (i + 1) features) ≡ asked r s (take i features)
  unfolding asked
  asked-off e = rw (taken, asked-append r s (take i features) (feature_at i ∷ []), e) (append-nil (asked r s (take i features)))

-- no request asks for more than there is
cond_most : (b : Bool) (f : Feature) (x y : List Feature) → length (descriptors x) ≤ length (descriptors y) → length (descriptors (cond b (f ∷ x) x)) ≤ length (descriptors (f ∷ y))
unfolding descriptors
cond_most true f x y h = omega (arith, length-append (descriptor f) (descriptors x), length-append (descriptor f) (descriptors y))
cond_most false f x y h = omega (arith, length-append (descriptor f) (descriptors y))

pub asked_most : (r s : ℕ) (fs : List Feature) → length (descriptors (asked r s fs)) ≤ length (descriptors fs)
unfolding asked
asked_most r s [] = omega arith
asked_most r s (f ∷ fs) = cond_most (is_asked r s f) f (asked r s fs) fs (asked_most r s fs)

-- the table's numbers rise
pub features-rise : Rising features
unfolding features Rising Above
features-rise =
    (omega arith, (omega arith, (omega arith, (omega arith, (omega arith, (omega arith, (omega arith, (omega arith, (omega arith, tt)))))))))

-- in rising order a request asks for all that are above its starting number, or for none of them
pub above_from : (r s n : ℕ) (fs : List Feature) → eqb r 2 ≡ false → Above n fs → s ≤ n → asked r s fs ≡ fs
unfolding asked Above
above_from r s n [] e a h = refl
above_from r s n (f ∷ fs) e a h =
    rw (e, le-leb s f.number (omega (arith, a.0, h))) (ap (λ (x : List Feature). f ∷ x) (above_from r s f.number fs e a.1 (omega (arith, a.0, h))))

pub above_one : (r s n : ℕ) (fs : List Feature) → eqb r 2 ≡ true → Above n fs → s ≤ n → asked r s fs ≡ []
unfolding asked Above
above_one r s n [] e a h = refl
above_one r s n (f ∷ fs) e a h =
    rw (e, ne_eqb f.number s (λ q. omega (arith, a.0, h, q))) (above_one r s f.number fs e a.1 (omega (arith, a.0, h)))
