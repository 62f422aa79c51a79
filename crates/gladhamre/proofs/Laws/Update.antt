-- What a change writes into an image: the words of one record in their place, and words of the head.
use mathlib.Core.Path.{◌≡◌, refl, sym, ap, ◌∙◌}
use mir.Val.{bool_byte}
use mathlib.Core.Bool.{Bool, true, false}
use mathlib.Core.List.{List, [], ◌∷◌, ◌++◌, append_assoc}
use Prim.Native.Nat.{ℕ, zero, suc, ◌+◌, ◌-◌, ◌*◌, ◌≤◌, ◌<◌}
use native.Mathlib.Omega.{arith}
use borrow.Author.Tests.{eq-eqb, ne_eqb}
use lib.ListN.{length, set, take, drop, length-set}
use lib.Seq.{take-append-add, drop-append-add, set_out}
use Rattle.fragments.specs.List.{limit}
use Rattle.fragments.proofs.Laws.Bool.{cond_yes, cond_no}
use Rattle.disc.specs.Apply.{with_entry, with_pending, with_finalized}
use Rattle.disc.specs.Records.{with_record, with_sense}
use Rattle.drive.specs.Bytes.{splice}
use Rattle.gladhamre.specs.Types.{Fragment, Disc, Sense, Entry}
use Rattle.gladhamre.specs.Image.{flag_word, record_words, list_words, head_words, encode, decode, StateWords}
use Rattle.gladhamre.specs.Update.{ImageOf}
use Rattle.gladhamre.proofs.Laws.Image.{encode-decode, length-list_of}

-- a splice past what stands first
splice-after : (a l x : List ℕ) (n k : ℕ) → length a + k ≡ n → splice (a ++ l) n x ≡ a ++ splice l k x
unfolding splice
splice-after a l x n k h =
    let m : n + length x ≡ length a + (k + length x) = omega arith in
    rw (m, ← h, take-append-add a l k, drop-append-add a l (k + length x)) (append_assoc a (take k l) (x ++ drop (k + length x) l))

-- one record changed is its six words in their place
words-set : (fs : List Fragment) (i : ℕ) (f : Fragment) → i < length fs → splice (list_words fs) (6 * i) (record_words f) ≡ list_words (set fs i f)
unfolding list_words splice
words-set [] i f h = absurd (omega arith)
words-set (g ∷ fs) zero f h = refl
words-set (g ∷ fs) (suc i) f h =
    splice-after (record_words g) (list_words fs) (record_words f) (6 * suc i) (6 * i) (omega arith)
    ∙ ap (λ (l : List ℕ). record_words g ++ l) (words-set fs i f (omega arith))

encode_record :
    (d : Disc) (n : ℕ) (f : Fragment) → (n ≡ 0 → ⊥) → n ≤ length d.fragments
    → splice (encode d) (7 + 6 * (n - 1)) (record_words f) ≡ encode (with_record d n f)
unfolding encode
encode_record d n f z h =
    splice-after (head_words d) (list_words d.fragments) (record_words f) (7 + 6 * (n - 1)) (6 * (n - 1)) (omega arith)
    ∙ ap (λ (l : List ℕ). head_words d ++ l) (words-set d.fragments (n - 1) f (omega arith))

-- an entry: put, or not put under the number 0 or one past the list
entry_none : (d : Disc) (e : Entry) → e.number ≡ 0 → with_entry d e ≡ d
unfolding with_entry
entry_none d e h = cond_yes _ _ _ (eq-eqb e.number 0 h)

entry-some : (d : Disc) (e : Entry) → (e.number ≡ 0 → ⊥) → with_entry d e ≡ with_record d e.number e.fragment
unfolding with_entry
entry-some d e h = cond_no _ _ _ (ne_eqb e.number 0 h)

entry_past : (d : Disc) (e : Entry) → length d.fragments < e.number → with_entry d e ≡ d
entry_past d e h = entry-some d e (λ z. omega arith) ∙ rw (set_out d.fragments (e.number - 1) e.fragment (omega arith))

module _ (w : List ℕ) (e : Entry) (d : Disc) (i : ImageOf w d) where
  pub none-put : e.number ≡ 0 → ImageOf w (with_entry d e)
  none-put h = rw (entry_none d e h) i

  pub past-put : limit < e.number → ImageOf w (with_entry d e)
  past-put h = rw (entry_past d e (omega (arith, i.array))) i

  pub entry-put :
      (v : List ℕ) → (e.number ≡ 0 → ⊥) → e.number ≤ limit → v ≡ splice w (7 + 6 * (e.number - 1)) (record_words e.fragment)
      → ImageOf v (with_entry d e)
  entry-put v z h p =
      record {
        words =
            p
            ∙ (ap (λ (x : List ℕ). splice x (7 + 6 * (e.number - 1)) (record_words e.fragment)) i.words
            ∙ (encode_record d e.number e.fragment z (omega (arith, i.array)) ∙ ap encode (sym (entry-some d e z))));
        array = ap (λ (x : Disc). length x.fragments) (entry-some d e z) ∙ (length-set d.fragments (e.number - 1) e.fragment ∙ i.array);
      }

-- words of the head
pub byte_flag : (b : Bool) → bool_byte b ≡ flag_word b
byte_flag true = refl
byte_flag false = refl

pub sense-put : (w : List ℕ) (s : Sense) (d : Disc) → ImageOf w d → ImageOf (set (set (set w 2 s.key) 3 s.asc) 4 s.ascq) (with_sense d s)
unfolding encode
sense-put w s d i = record { words = rw i.words; array = i.array }

pub pending_put : (w : List ℕ) (pending owner : ℕ) (d : Disc) → ImageOf w d → ImageOf (set (set w 5 pending) 6 owner) (with_pending d pending owner)
unfolding encode
pending_put w pending owner d i = record { words = rw i.words; array = i.array }

pub finalized-put : (w : List ℕ) (finalized : Bool) (d : Disc) → ImageOf w d → ImageOf (set w 1 (flag_word finalized)) (with_finalized d finalized)
unfolding encode
finalized-put w finalized d i = record { words = rw i.words; array = i.array }

-- a state's words are the image of what they stand for
pub state_image : (w : List ℕ) → StateWords w → ImageOf w (decode w)
unfolding decode
state_image w s = record { words = sym (encode-decode w s); array = length-list_of limit (drop 7 w) }
