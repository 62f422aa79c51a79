-- The order of two numbers, as a proof by cases, sums that are not formed, and numbers joined bit by bit.
use Prim.Native.Nat.{ℕ, suc, ◌+◌, ◌-◌, ◌≤◌, ◌<◌}
use mathlib.Core.Path.{◌≡◌}
use mathlib.Core.Bool.{◌&&◌}
use native.Mathlib.Omega.{arith}
use borrow.Author.Tests.{eq-eqb, eqb-true, eqb-false, ltb-true, ltb-false, lt-ltb}
use lib.Bits.{bit_or, or_add_and, and_le_l, and_le_r}
use lib.Dec.{eqb, ltb}
use Rattle.fragments.proofs.Laws.Bool.{and_left, and_right, and_both, by_cases, same_test}

pub below_suc : {a b : ℕ} → a < suc b → a ≤ b
below_suc h = omega arith

pub order_cases {ℓ} : {P : Type ℓ} (a b : ℕ) → (a < b → P) → (a ≡ b → P) → (b < a → P) → P
order_cases a b less same more =
    by_cases (ltb a b)
    (λ h. less (ltb-true a b h))
    (λ h.
    by_cases (eqb a b)
    (λ e. same (eqb-true a b e))
    (λ e. more (strictly (ltb-false a b h) (eqb-false a b e))))
  where
    strictly : b ≤ a → (a ≡ b → ⊥) → b < a
    strictly l n = omega arith

pub equal_cases {ℓ} : {P : Type ℓ} (a b : ℕ) → (a ≡ b → P) → ((a ≡ b → ⊥) → P) → P
equal_cases a b same other = by_cases (eqb a b) (λ e. same (eqb-true a b e)) (λ e. other (eqb-false a b e))

pub below_limit : {a b : ℕ} → a ≤ b → (a ≡ b → ⊥) → a < b
below_limit h n = omega arith

-- the test whether a run passes an end, without the sum
pub rest-passes : (a n e : ℕ) → a ≤ e → ltb (e - a) n ≡ ltb e (a + n)
rest-passes a n e h =
    same_test
    (λ t. let l = ltb-true (e - a) n t in lt-ltb e (a + n) (omega arith))
    (λ t. let l = ltb-true e (a + n) t in lt-ltb (e - a) n (omega arith))

-- numbers joined bit by bit are zero where each of them is
pub or_zero : (a b : ℕ) → eqb (bit_or a b) 0 ≡ (eqb a 0 && eqb b 0)
or_zero a b =
    same_test
    (λ t.
    let e = eqb-true (bit_or a b) 0 t in
    and_both (eq-eqb a 0 (omega (arith, or_add_and a b, and_le_r a b))) (eq-eqb b 0 (omega (arith, or_add_and a b, and_le_l a b))))
    (λ t.
    let p = eqb-true a 0 (and_left (eqb a 0) (eqb b 0) t) in
    let q = eqb-true b 0 (and_right (eqb a 0) (eqb b 0) t) in
    eq-eqb (bit_or a b) 0 (omega (arith, or_add_and a b)))
