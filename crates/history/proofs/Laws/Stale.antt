-- Whatever becomes of stale bytes before each command, the sequence is admissible; and every stale byte can become any.
use Prim.Native.Nat.{ℕ, suc, zero, ◌+◌, ◌*◌, ◌<◌}
use mathlib.Core.Path.{◌≡◌, refl, sym, ap, ◌∙◌}
use mathlib.Core.Bool.{Bool, true, false}
use mathlib.Core.List.{List, [], ◌∷◌, map}
use native.Mathlib.Omega.{arith}
use borrow.Author.Tests.{lt-ltb}
use lib.ListN.{length, get_or, take}
use Rattle.fragments.proofs.Laws.Bool.{cond_yes, cond_no, by_cases}
use Rattle.drive.specs.Step.{Drive, Request}
use Rattle.drive.specs.Alike.{recorded_byte, Alike}
use Rattle.history.specs.Sequence.{found, result, Admissible, Undisturbed, requests}
use Rattle.history.specs.Stale.{stirred, unchanged, pending_byte, Given, after, turn, given}

pub length-stirred : (kept : ℕ → Bool) (change : ℕ → ℕ → ℕ) (i : ℕ) (l : List ℕ) → length (stirred kept change i l) ≡ length l
unfolding stirred
length-stirred kept change i [] = refl
length-stirred kept change i (x ∷ xs) = ap suc (length-stirred kept change (i + 1) xs)

-- the byte at an index
pub stirred_kept :
    (kept : ℕ → Bool) (change : ℕ → ℕ → ℕ) (i k : ℕ) (l : List ℕ) → kept (i + k) ≡ true → get_or (stirred kept change i l) k 0 ≡ get_or l k 0
unfolding stirred
stirred_kept kept change i k [] h = refl
stirred_kept kept change i zero (x ∷ xs) h =
    let here : i + 0 ≡ i = omega arith in
    cond_yes (kept i) x (change i x) (ap kept (sym here) ∙ h)
stirred_kept kept change i (suc k) (x ∷ xs) h =
    let here : i + 1 + k ≡ i + suc k = omega arith in
    stirred_kept kept change (i + 1) k xs (ap kept here ∙ h)

pub stirred_stale :
    (kept : ℕ → Bool) (change : ℕ → ℕ → ℕ) (i k : ℕ) (l : List ℕ) → kept (i + k) ≡ false → k < length l
    → get_or (stirred kept change i l) k 0 ≡ change (i + k) (get_or l k 0)
unfolding stirred
stirred_stale kept change i k [] h less = absurd (omega (arith, less))
stirred_stale kept change i zero (x ∷ xs) h less =
    let here : i + 0 ≡ i = omega arith in
    cond_no (kept i) x (change i x) (ap kept (sym here) ∙ h) ∙ ap (λ (n : ℕ). change n x) (sym here)
stirred_stale kept change i (suc k) (x ∷ xs) h less =
    let here : i + 1 + k ≡ i + suc k = omega arith in
    stirred_stale kept change (i + 1) k xs (ap kept here ∙ h) (omega (arith, less))
    ∙ ap (λ (n : ℕ). change n (get_or xs k 0)) here

-- the first bytes, where all of them are kept
stirred_front :
    (kept : ℕ → Bool) (change : ℕ → ℕ → ℕ) (i n : ℕ) (l : List ℕ) → ((k : ℕ) → k < n → kept (i + k) ≡ true)
    → take n (stirred kept change i l) ≡ take n l
unfolding stirred
stirred_front kept change i zero l h = refl
stirred_front kept change i (suc n) [] h = refl
stirred_front kept change i (suc n) (x ∷ xs) h =
    let here : i + 0 ≡ i = omega arith in
    ap (λ (y : ℕ). y ∷ take n (stirred kept change (i + 1) xs)) (cond_yes (kept i) x (change i x) (ap kept (sym here) ∙ h 0 (omega arith)))
    ∙ ap (λ (ys : List ℕ). x ∷ ys)
    (stirred_front kept change (i + 1) n xs (λ k less. let next : i + 1 + k ≡ i + suc k = omega arith in ap kept next ∙ h (suc k) (omega (arith, less))))

-- nothing becomes of them
stirred_same : (kept : ℕ → Bool) (i : ℕ) (l : List ℕ) → stirred kept (λ i x. x) i l ≡ l
unfolding stirred
stirred_same kept i [] = refl
stirred_same kept i (x ∷ xs) =
    ap (λ (y : ℕ). y ∷ stirred kept (λ i x. x) (i + 1) xs) (by_cases (kept i) (λ t. cond_yes (kept i) x x t) (λ t. cond_no (kept i) x x t))
    ∙ ap (λ (ys : List ℕ). x ∷ ys) (stirred_same kept (i + 1) xs)

-- a command given so finds a drive that differs in stale bytes at most
pub turn_alike : (g : Given) (s : Drive) → Alike s (found (turn g s) s)
turn_alike g s =
    record {
      disc = refl;
      medium_length = sym (length-stirred (recorded_byte s.disc) g.change.medium 0 s.medium);
      pending_length = sym (length-stirred (pending_byte s) g.change.pending 0 s.pending);
      recorded =
          λ i t.
          let first : 0 + i ≡ i = omega arith in
          sym (stirred_kept (recorded_byte s.disc) g.change.medium 0 i s.medium (ap (recorded_byte s.disc) first ∙ t));
      pending =
          sym
          (stirred_front (pending_byte s) g.change.pending 0 (2048 * s.disc.pending) s.pending
          (λ k less. lt-ltb (0 + k) (2048 * s.disc.pending) (omega (arith, less))));
    }

pub given_admissible : (gs : List Given) (s : Drive) → Admissible (given gs s) s
unfolding given Admissible
given_admissible [] s = tt
given_admissible (g ∷ gs) s = (turn_alike g s, given_admissible gs (result (turn g s) s).after)

pub given-requests : (gs : List Given) (s : Drive) → requests (given gs s) ≡ map (λ (g : Given). g.request) gs
unfolding given
given-requests [] s = refl
given-requests (g ∷ gs) s = ap (λ (qs : List Request). g.request ∷ qs) (given-requests gs (result (turn g s) s).after)

-- with no change nobody disturbs it
turn-unchanged : (q : Request) (s : Drive) → found (turn (after unchanged q) s) s ≡ s
turn-unchanged q s =
    λ i. record {
      disc = s.disc;
      medium = stirred_same (recorded_byte s.disc) 0 s.medium i;
      pending = stirred_same (pending_byte s) 0 s.pending i;
    }

pub given_undisturbed : (qs : List Request) (s : Drive) → Undisturbed (given (map (after unchanged) qs) s) s
unfolding given Undisturbed
given_undisturbed [] s = tt
given_undisturbed (q ∷ qs) s = (turn-unchanged q s, given_undisturbed qs (result (turn (after unchanged q) s) s).after)
