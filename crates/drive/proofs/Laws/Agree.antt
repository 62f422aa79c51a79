-- Bytes of a splice by their index, and media that agree at some indices.
use mathlib.Core.Path.{◌≡◌, sym, ◌∙◌}
use mathlib.Core.Logic.{◌⊎◌, inl, inr, ⊎_elim}
use Prim.Native.Nat.{ℕ, ◌+◌, ◌-◌, ◌≤◌, ◌<◌}
use native.Mathlib.Decide.{dec_lt}
use native.Mathlib.Omega.{arith}
use borrow.Author.Rules.{rules}
use mathlib.Core.List.{List}
use lib.ListN.{length, get_or, take, drop}
use Rattle.std.proofs.lemmas.List.{places, same_lists}
use Rattle.drive.specs.Bytes.{splice}

module _ (m : List ℕ) (a : ℕ) (x : List ℕ) (i : ℕ) (within : a ≤ length m) where
  -- outside of the stretch nothing changes
  pub splice-before : i < a → get_or (splice m a x) i 0 ≡ get_or m i 0
  unfolding splice
  splice-before h = search (rules, places)

  pub splice-after : a + length x ≤ i → get_or (splice m a x) i 0 ≡ get_or m i 0
  unfolding splice
  splice-after h = search (rules, places)

  -- within it the medium's own bytes do not count
  pub splice-within : a ≤ i → i < a + length x → get_or (splice m a x) i 0 ≡ get_or x (i - a) 0
  unfolding splice
  splice-within h g = search (rules, places)

-- two media hold the same byte at each index of which R says so
abbrev pub Agree : (ℕ → Type 0) → List ℕ → List ℕ → Type 0
Agree R m n = (i : ℕ) → R i → get_or m i 0 ≡ get_or n i 0

-- the same stretch put into media that agree: they agree there too
pub agree_splice :
    (R S : ℕ → Type 0) (m n : List ℕ) (a : ℕ) (x : List ℕ) → a ≤ length m → a ≤ length n
    → ((i : ℕ) → S i → (i < a) ⊎ (a + length x ≤ i) → R i) → Agree R m n → Agree S (splice m a x) (splice n a x)
agree_splice R S m n a x h k outside same i r =
    elim (dec_lt i a) [
      | yes u ↦ splice-before m a x i h u ∙ (same i (outside i r (inl u)) ∙ sym (splice-before n a x i k u))
      | no u ↦ elim (dec_lt i (a + length x)) [
        | yes v ↦ splice-within m a x i h (omega arith) v ∙ sym (splice-within n a x i k (omega arith) v)
        | no v ↦
            splice-after m a x i h (omega arith) ∙ (same i (outside i r (inr (omega arith))) ∙ sym (splice-after n a x i k (omega arith)))
      ]
    ]

-- what lies outside of the stretch stays
pub kept_splice : (m : List ℕ) (a : ℕ) (x : List ℕ) (i : ℕ) → a ≤ length m → (i < a) ⊎ (a + length x ≤ i) → get_or (splice m a x) i 0 ≡ get_or m i 0
kept_splice m a x i h out = ⊎_elim (λ u. splice-before m a x i h u) (λ u. splice-after m a x i h u) out

-- media that agree in a run have the same bytes there
pub agree_run :
    (m n : List ℕ) (a k : ℕ) → a + k ≤ length m → length m ≡ length n
    → ((i : ℕ) → a ≤ i → i < a + k → get_or m i 0 ≡ get_or n i 0) → take k (drop a m) ≡ take k (drop a n)
agree_run m n a k h l same = same_lists _ _ (search (rules, places)) (λ i d g. let e = same (a + i) in grind (arith, places, e))
