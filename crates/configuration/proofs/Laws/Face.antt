-- The words of the C face.
use Prim.Native.Nat.{ℕ}
use mathlib.Core.Path.{◌≡◌, sym, ap, ◌∙◌}
use mathlib.Core.List.{List, [], ◌∷◌, append-nil}
use native.Mathlib.Omega.{arith}
use lib.ListN.{length, set, drop_of_length-le}
use borrow.Rule.Slice.PartMut.{put_mid}
use Rattle.std.specs.Prelude.{Some, None}
use borrow.Author.Tests.{eq-eqb, ne_eqb}
use Rattle.features.specs.Bytes.{stored}
use Rattle.features.proofs.Laws.Bytes.{stored-over}
use Rattle.configuration.specs.Types.{Reading}
use Rattle.configuration.specs.Reading.{read_reply}
use Rattle.configuration.specs.Face.{words_of, face_number, face_words, Faced}

-- two numbers and ten more, written over twelve words
pub words-written : (w x : List ℕ) (p c : ℕ) → length w ≡ 12 → put_mid 2 10 (set (set w 0 p) 1 c) x ≡ p ∷ c ∷ x
words-written [] x p c h = absurd (omega (arith, h))
words-written (a ∷ []) x p c h = absurd (omega (arith, h))
words-written (a ∷ (b ∷ u)) x p c h = rw (drop_of_length-le u {i = 10} (omega (arith, h)), append-nil x)

-- the same of the ten stored one after another
pub words-stored : (w x : List ℕ) (p c : ℕ) → length w ≡ 12 → length x ≡ 10 → stored (set (set w 0 p) 1 c) 2 x ≡ p ∷ c ∷ x
words-stored [] x p c h k = absurd (omega (arith, h))
words-stored (a ∷ []) x p c h k = absurd (omega (arith, h))
words-stored (a ∷ (b ∷ u)) x p c h k =
    ap (λ (t : List ℕ). stored (p ∷ c ∷ t) 2 x) (sym (append-nil u))
    ∙ (stored-over (p ∷ c ∷ []) u [] x (omega (arith, h, k)) ∙ ap (λ (t : List ℕ). p ∷ c ∷ t) (append-nil x))

-- the three outcomes of a call
module _ (reply words : List ℕ) where
  pub faced-room : (length words ≡ 12 → ⊥) → Faced reply words 2 words
  unfolding face_number face_words
  faced-room h = let e = ne_eqb (length words) 12 h in record { number = rw e; written = rw e }

  pub faced-refused : length words ≡ 12 → read_reply reply ≡ None → Faced reply words 1 words
  unfolding face_number face_words
  faced-refused h a = let e = eq-eqb (length words) 12 h in record { number = rw (e, a); written = rw (e, a) }

  pub faced-read : (r : Reading) (after : List ℕ) → length words ≡ 12 → read_reply reply ≡ Some r → after ≡ words_of r → Faced reply words 0 after
  unfolding face_number face_words
  faced-read r after h a w = let e = eq-eqb (length words) 12 h in record { number = rw (e, a); written = rw (e, a) w }
