-- The code's loops along the table: what stands there after so many features.
use Prim.Native.Nat.{ℕ, suc, ◌+◌, ◌-◌, ◌*◌, ◌≤◌, ◌<◌}
use mathlib.Core.Path.{◌≡◌, refl, sym, ap, ◌∙◌}
use mathlib.Core.Bool.{true, false}
use mathlib.Core.List.{List, [], ◌∷◌, ◌++◌, append_assoc, append-nil}
use native.Mathlib.Omega.{arith}
use lib.ListN.{length, take, drop, set, replicate, length-append, replicate-append-replicate}
use lib.Seq.{set-append_seam, append_snoc, take_all, take-append-le, take-append_seam, drop-append_seam}
use borrow.Rule.Slice.PartMut.{put_mid}
use Rattle.features.specs.Types.{Feature, Listing}
use Rattle.features.specs.Bytes.{bytes16, bytes32}
use Rattle.features.specs.Feature.{profile, features, feature_at, whole_descriptor, descriptor, descriptors, is_asked, asked, selected, numbers}
use Rattle.features.specs.Configuration.{configuration_bytes, listing, asked_of}
use Rattle.std.specs.List.{filter, sum_by}
use Rattle.std.proofs.lemmas.List.Sums.{sum_by-cons}
use Rattle.features.proofs.Laws.Feature.{Rows, rows, rows-asked, row_at, descriptors-append, numbers-append, length-numbers, asked-on, asked-off, asked_most}

-- the descriptors of those that are asked for of the first i features
abbrev pub listed : ℕ → ℕ → ℕ → List ℕ
listed r s i = descriptors (asked r s (take i features))

-- how long the reply is with them
pub record Counted (r s i n : ℕ) : Type 0 where
  pub turns : i ≤ 10
  pub length : n ≡ 8 + length (listed r s i)
  pub most : n ≤ 8 + 12 * i

pub counted_start : (r s : ℕ) → Counted r s 0 8
unfolding asked descriptors
counted_start r s = record { turns = omega arith; length = refl; most = omega arith }

last : (f : Feature) → descriptors (f ∷ []) ≡ descriptor f
unfolding descriptors
last f = append-nil (descriptor f)

-- a turn of a loop, with a feature that is asked for and with one that is not
module _ (r s i : ℕ) (h : i < 10) where
  listed_more : is_asked r s (feature_at i) ≡ true → listed r s (i + 1) ≡ listed r s i ++ descriptor (feature_at i)
  listed_more e =
      ap descriptors (asked-on r s i h e)
      ∙ (descriptors-append (asked r s (take i features)) (feature_at i ∷ []) ∙ ap (λ (t : List ℕ). listed r s i ++ t) (last (feature_at i)))

  listed_same : is_asked r s (feature_at i) ≡ false → listed r s (i + 1) ≡ listed r s i
  listed_same e = ap descriptors (asked-off r s i h e)

  pub counted-on : {n : ℕ} → Counted r s i n → is_asked r s (feature_at i) ≡ true → Counted r s (i + 1) (n + (4 + (feature_at i).length))
  counted-on w e =
      let row = row_at i h in
      let x = listed r s i in
      record {
        turns = omega arith;
        length = rw (listed_more e) (omega (arith, w.length, length-append x (descriptor (feature_at i)), row.size));
        most = omega (arith, w.most, row.most);
      }

  pub counted-off : {n : ℕ} → Counted r s i n → is_asked r s (feature_at i) ≡ false → Counted r s (i + 1) n
  counted-off w e = record { turns = omega arith; length = rw (listed_same e) w.length; most = omega (arith, w.most) }

-- all of them
taken : (i : ℕ) → 10 ≤ i → take i features ≡ features
unfolding features
taken i h = take_all i features h

listed-selected : (r s i : ℕ) → 10 ≤ i → listed r s i ≡ descriptors (selected r s)
listed-selected r s i h = ap (λ (fs : List Feature). descriptors (asked r s fs)) (taken i h)

pub counted_all : (r s i n : ℕ) → Counted r s i n → 10 ≤ i → n ≡ length (configuration_bytes r s)
unfolding configuration_bytes
counted_all r s i n w h =
    let size : n ≡ 8 + length (descriptors (selected r s)) = rw (listed-selected r s i h) at w.length in
    omega (arith, size)

-- the longest reply is that with every feature
all-features : length (descriptors features) ≡ 92
unfolding features descriptors
all-features = refl

-- the sum of the lengths of the descriptors that are asked for, as the code takes it
asked_filter : (r s : ℕ) (fs : List Feature) → filter (is_asked r s) fs ≡ asked r s fs
unfolding asked
asked_filter r s [] = refl
asked_filter r s (f ∷ fs) = rw (asked_filter r s fs)

sum_long : (fs : List Feature) → Rows fs → sum_by (λ f. 4 + f.length) fs ≡ length (descriptors fs)
unfolding descriptors Rows
sum_long [] w = refl
sum_long (f ∷ fs) w =
    let rest = sum_long fs w.1 in
    sum_by-cons (λ (g : Feature). 4 + g.length) f fs ∙ omega (arith, rest, w.0.size, length-append (descriptor f) (descriptors fs))

pub descriptors_long : (r s : ℕ) → 8 + sum_by (λ f. 4 + f.length) (filter (is_asked r s) features) ≡ length (configuration_bytes r s)
unfolding configuration_bytes
descriptors_long r s =
    let size = sum_long (asked r s features) (rows-asked r s features rows) in
    rw (asked_filter r s features) (omega (arith, size))

pub descriptors_most : (r s : ℕ) → sum_by (λ f. 4 + f.length) (filter (is_asked r s) features) ≤ 92
descriptors_most r s =
    let size = sum_long (asked r s features) (rows-asked r s features rows) in
    rw (asked_filter r s features) (omega (arith, size, asked_most r s features, all-features))

-- the reply so far: a header without its length, the descriptors, zeros
abbrev pub header : List ℕ
header = 0 ∷ 0 ∷ 0 ∷ 0 ∷ 0 ∷ 0 ∷ 0 ∷ profile ∷ []

pub record Listed (r s i : ℕ) (l : List ℕ) (n : ℕ) : Type 0 where
  pub counted : Counted r s i n
  pub bytes : l ≡ header ++ (listed r s i ++ replicate (120 - length (listed r s i)) 0)

pub listed_start : (r s : ℕ) → Listed r s 0 (header ++ replicate 120 0) 8
unfolding asked descriptors
listed_start r s = record { counted = counted_start r s; bytes = refl }

-- a part written over as many
put_over : (x u l y : List ℕ) → put_mid (length x) (length u) (x ++ (u ++ l)) y ≡ x ++ (y ++ l)
put_over x u l y = rw (take-append_seam x (u ++ l), drop-append_seam x (u ++ l), drop-append_seam u l)

-- one descriptor more, over zeros
one_more :
    (x y : List ℕ) (k : ℕ) → length y + k ≡ 12 → length x ≤ 108
    → put_mid (8 + length x) 12 (header ++ (x ++ replicate (120 - length x) 0)) (y ++ replicate k 0)
    ≡ header ++ ((x ++ y) ++ replicate (120 - length (x ++ y)) 0)
one_more x y k h fits =
    let m = 108 - length x in
    let put : List ℕ = y ++ replicate {A = ℕ} k 0 in
    let front : 8 + length x ≡ length (header ++ x) = omega arith in
    let split : 120 - length x ≡ 12 + m = omega arith in
    let zeros : replicate {A = ℕ} (120 - length x) 0 ≡ replicate {A = ℕ} 12 0 ++ replicate {A = ℕ} m 0 = rw split (sym (replicate-append-replicate {A = ℕ} 12 m 0)) in
    let rest : k + m ≡ 120 - length (x ++ y) = omega (arith, length-append x y, h) in
    ap (λ (n : ℕ). put_mid n 12 (header ++ (x ++ replicate (120 - length x) 0)) put) front
    ∙ (ap (λ (l : List ℕ). put_mid (length (header ++ x)) 12 ((header ++ x) ++ l) put) zeros
    ∙ (put_over (header ++ x) (replicate 12 0) (replicate m 0) put
    ∙ ap (λ (l : List ℕ). header ++ l)
    (ap (λ (l : List ℕ). x ++ l)
    (append_assoc y (replicate k 0) (replicate m 0)
    ∙ ap (λ (l : List ℕ). y ++ l) (replicate-append-replicate {A = ℕ} k m 0 ∙ ap (λ (n : ℕ). replicate n 0) rest))
    ∙ sym (append_assoc x y (replicate (120 - length (x ++ y)) 0)))))

module _ (r s i : ℕ) {l : List ℕ} {n : ℕ} (w : Listed r s i l n) (h : i < 10) where
  pub listed-on :
      {l₁ y : List ℕ} → is_asked r s (feature_at i) ≡ true → l₁ ≡ put_mid n (n + 12 - n) l y → y ≡ whole_descriptor (feature_at i) → Listed r s (i + 1) l₁ (n + (4 + (feature_at i).length))
  listed-on {y = y} e put whole =
      let row = row_at i h in
      let x = listed r s i in
      let k = w.counted in
      let size : n + 12 - n ≡ 12 = omega arith in
      record {
        counted = counted-on r s i h k e;
        bytes =
            rw (listed_more r s i h e)
            (put
            ∙ (ap (λ (m : ℕ). put_mid n m l y) size
            ∙ (ap (put_mid n 12 l) whole
            ∙ (ap (λ (t : List ℕ). put_mid n 12 t (whole_descriptor (feature_at i))) w.bytes
            ∙ (ap (λ (m : ℕ). put_mid m 12 (header ++ (x ++ replicate (120 - length x) 0)) (whole_descriptor (feature_at i))) k.length
            ∙ (ap (put_mid (8 + length x) 12 (header ++ (x ++ replicate (120 - length x) 0))) row.whole
            ∙ one_more x (descriptor (feature_at i)) (8 - (feature_at i).length) (omega (arith, row.size, row.most)) (omega (arith, k.length, k.most))))))));
      }

  pub listed_off : is_asked r s (feature_at i) ≡ false → Listed r s (i + 1) l n
  listed_off e = record { counted = counted-off r s i h w.counted e; bytes = rw (listed_same r s i h e) w.bytes }

-- the length put in the header
headed :
    (x : List ℕ) (n : ℕ) → n ≡ 8 + length x
    → bytes32 (n - 4) ++ drop 4 (header ++ (x ++ replicate (120 - length x) 0))
    ≡ (bytes32 (4 + length x) ++ bytes16 0 ++ bytes16 profile ++ x) ++ replicate (128 - length (bytes32 (4 + length x) ++ bytes16 0 ++ bytes16 profile ++ x)) 0
headed x n e =
    let size : n - 4 ≡ 4 + length x = omega (arith, e) in
    let room : 128 - length (bytes32 (4 + length x) ++ bytes16 0 ++ bytes16 profile ++ x) ≡ 120 - length x = omega arith in
    rw (size, room)

pub listed-all :
    (r s i : ℕ) (l l₁ : List ℕ) (n : ℕ) → Listed r s i l n → 10 ≤ i → l₁ ≡ bytes32 (n - 4)
    → record { bytes = l₁ ++ drop 4 l; length = n } ≡ listing (configuration_bytes r s)
unfolding configuration_bytes
listed-all r s i l l₁ n w h put =
    let all = listed-selected r s i h in
    let size : n ≡ 8 + length (descriptors (selected r s)) = rw all at w.counted.length in
    let start : l ≡ header ++ (descriptors (selected r s) ++ replicate (120 - length (descriptors (selected r s))) 0) = rw all at w.bytes in
    let bytes = ap (λ (t : List ℕ). t ++ drop 4 l) put ∙ (ap (λ (t : List ℕ). bytes32 (n - 4) ++ drop 4 t) start ∙ headed (descriptors (selected r s)) n size) in
    rw (bytes, counted_all r s i n w.counted h)

-- those that are asked for of the first i features, their numbers and zeros
abbrev named : ℕ → ℕ → ℕ → List Feature
named r s i = asked r s (take i features)

pub record Named (r s i : ℕ) (l : List ℕ) (n : ℕ) : Type 0 where
  pub turns : i ≤ 10
  pub numbers : l ≡ numbers (named r s i) ++ replicate (10 - length (named r s i)) 0
  pub count : n ≡ length (named r s i)
  pub most : n ≤ i

pub named_start : (r s : ℕ) → Named r s 0 (replicate 10 0) 0
unfolding asked numbers
named_start r s = record { turns = omega arith; numbers = refl; count = refl; most = omega arith }

-- one number more, over a zero
one_number :
    (x : List Feature) (f : Feature) → length x < 10
    → set (numbers x ++ replicate (10 - length x) 0) (length x) f.number ≡ numbers (x ++ (f ∷ [])) ++ replicate (10 - length (x ++ (f ∷ []))) 0
unfolding numbers
one_number x f h =
    let m = 9 - length (numbers x) in
    let split : 10 - length x ≡ suc m = omega (arith, length-numbers x) in
    let size : 10 - length (x ++ (f ∷ [])) ≡ m = omega (arith, length-append x (f ∷ []), length-numbers x) in
    rw (split, size, numbers-append x (f ∷ []), ← length-numbers x)
    (set-append_seam (numbers x) 0 (replicate m 0) f.number ∙ sym (append_snoc (numbers x) f.number (replicate m 0)))

module _ (r s i : ℕ) {l : List ℕ} {n : ℕ} (w : Named r s i l n) (h : i < 10) where
  pub named-on : is_asked r s (feature_at i) ≡ true → Named r s (i + 1) (set l n (feature_at i).number) (n + 1)
  named-on e =
      let x = named r s i in
      let more : named r s (i + 1) ≡ x ++ (feature_at i ∷ []) = asked-on r s i h e in
      record {
        turns = omega arith;
        numbers =
            rw more
            (ap (λ (t : List ℕ). set t n (feature_at i).number) w.numbers
            ∙ (ap (λ (k : ℕ). set (numbers x ++ replicate (10 - length x) 0) k (feature_at i).number) w.count
            ∙ one_number x (feature_at i) (omega (arith, w.count, w.most))));
        count = rw more (omega (arith, w.count, length-append x (feature_at i ∷ [])));
        most = omega (arith, w.most);
      }

  pub named-off : is_asked r s (feature_at i) ≡ false → Named r s (i + 1) l n
  named-off e =
      let same : named r s (i + 1) ≡ named r s i = asked-off r s i h e in
      record { turns = omega arith; numbers = rw same w.numbers; count = rw same w.count; most = omega (arith, w.most) }

pub named_all : (r s i : ℕ) (l : List ℕ) (n : ℕ) → Named r s i l n → 10 ≤ i → record { numbers = l; count = n } ≡ asked_of (selected r s)
named_all r s i l n w h =
    let all : named r s i ≡ selected r s = ap (asked r s) (taken i h) in
    let e : l ≡ numbers (selected r s) ++ replicate (10 - length (selected r s)) 0 = rw all at w.numbers in
    let k : n ≡ length (selected r s) = rw all at w.count in
    rw (e, k)

pub configuration_most : (r s : ℕ) → length (configuration_bytes r s) ≤ 100
unfolding configuration_bytes
configuration_most r s = omega (arith, asked_most r s features, all-features)

-- the first bytes of a listing are its reply's
pub listing-first : (n : ℕ) (x : List ℕ) (l : Listing) → l ≡ listing x → n ≤ length x → take n l.bytes ≡ take n x
listing-first n x l e h = rw e (take-append-le n x (replicate (128 - length x) 0) h)
