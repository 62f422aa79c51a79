-- Tests joined by `&&`, taken apart and put together; a proof by the two cases of a test.
use mathlib.Core.Path.{◌≡◌, refl, sym, ◌∙◌, ap}
use mathlib.Core.Bool.{Bool, true, false, cond, ◌&&◌, ◌||◌, and-eq-true_iff, false≢true, or-true, or_assoc, or-false}

pub and_left : (a b : Bool) → (a && b) ≡ true → a ≡ true
and_left a b h = ((and-eq-true_iff a b).0 h).0

pub and_right : (a b : Bool) → (a && b) ≡ true → b ≡ true
and_right a b h = ((and-eq-true_iff a b).0 h).1

pub and_both : {a b : Bool} → a ≡ true → b ≡ true → (a && b) ≡ true
and_both {a} {b} h k = (and-eq-true_iff a b).1 (h, k)

pub and_first : (a b : Bool) → a ≡ true → (a && b) ≡ b
and_first a b h = rw h

pub and-false : (a b : Bool) → a ≡ false → (a && b) ≡ false
and-false a b h = rw h

pub and_true : (a : Bool) → (a && true) ≡ a
and_true true = refl
and_true false = refl

pub and_assoc : (a b c : Bool) → (a && (b && c)) ≡ ((a && b) && c)
and_assoc true b c = refl
and_assoc false b c = refl

-- two rows of tests joined place by place
and_pairs : (a b c d : Bool) → ((a && b) && (c && d)) ≡ ((a && c) && (b && d))
and_pairs true true c d = refl
and_pairs true false true d = refl
and_pairs true false false d = refl
and_pairs false b c d = refl

pub and_rows :
    (a b c d e f g h i j k l : Bool)
    → ((a && g) && (b && h) && (c && i) && (d && j) && (e && k) && (f && l)) ≡ ((a && b && c && d && e && f) && (g && h && i && j && k && l))
and_rows a b c d e f g h i j k l =
    let two = and_pairs a g b h in
    let three = ap (λ x. x && (c && i)) two ∙ and_pairs (a && b) (g && h) c i in
    let four = ap (λ x. x && (d && j)) three ∙ and_pairs (a && b && c) (g && h && i) d j in
    let five = ap (λ x. x && (e && k)) four ∙ and_pairs (a && b && c && d) (g && h && i && j) e k in
    ap (λ x. x && (f && l)) five ∙ and_pairs (a && b && c && d && e) (g && h && i && j && k) f l

pub by_cases {ℓ} : {P : Type ℓ} (b : Bool) → (b ≡ true → P) → (b ≡ false → P) → P
by_cases true yes-case no-case = yes-case refl
by_cases false yes-case no-case = no-case refl

-- a row of tests joined from the left, as code joins them, and from the right, as a list of tests is joined
pub or_row :
    (t a b c d e f g h i j : Bool)
    → (t || a || b || c || d || e || f || g || h || i || j) ≡ (t || (a || (b || (c || (d || (e || (f || (g || (h || (i || (j || false)))))))))))
or_row t a b c d e f g h i j = simp (or_assoc, or-false)

pub or_left : {a : Bool} (b : Bool) → a ≡ true → (a || b) ≡ true
or_left b h = rw h

pub or_right : (a : Bool) {b : Bool} → b ≡ true → (a || b) ≡ true
or_right a h = rw h (or-true a)

pub or_cases {ℓ} : {P : Type ℓ} (a b : Bool) → (a ≡ true → P) → (b ≡ true → P) → (a || b) ≡ true → P
or_cases true b left right h = left refl
or_cases false b left right h = right h

pub contradiction : {b : Bool} → b ≡ true → b ≡ false → ⊥
contradiction h k = false≢true (sym k ∙ h)

-- two tests that imply each other are the same
pub same_test : {a b : Bool} → (a ≡ true → b ≡ true) → (b ≡ true → a ≡ true) → a ≡ b
same_test {a} {b} there back =
    by_cases a (λ h. h ∙ sym (there h)) (λ h. by_cases b (λ k. absurd (contradiction (back k) h)) (λ k. h ∙ sym k))

-- a choice by a test whose outcome is known; unlike a rewrite it leaves other places of the test alone
pub cond_yes {ℓ} : {A : Type ℓ} (b : Bool) (x y : A) → b ≡ true → cond b x y ≡ x
cond_yes b x y e = rw e

pub cond_no {ℓ} : {A : Type ℓ} (b : Bool) (x y : A) → b ≡ false → cond b x y ≡ y
cond_no b x y e = rw e

-- what holds of both outcomes of a choice holds of the choice
pub cond_cases {ℓ κ} : {A : Type ℓ} (P : A → Type κ) (b : Bool) (x y : A) → (b ≡ true → P x) → (b ≡ false → P y) → P (cond b x y)
cond_cases P true x y there else = there refl
cond_cases P false x y there else = else refl

pub or_false_left : (a b : Bool) → (a || b) ≡ false → a ≡ false
or_false_left true b h = h
or_false_left false b h = refl

pub or_false_right : (a b : Bool) → (a || b) ≡ false → b ≡ false
or_false_right a b h = by_cases b (λ t. absurd (contradiction (or_right a t) h)) (λ f. f)
