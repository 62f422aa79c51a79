-- Records in use, and zeros after them: what the code tests of an image, and that L3 refuses whatever else there is.
use mathlib.Core.Path.{◌≡◌, refl, sym, ap, ◌∙◌}
use mathlib.Core.Bool.{Bool, true, false, cond, not, ◌&&◌}
use mathlib.Core.List.{List, [], ◌∷◌, ◌++◌}
use Prim.Native.Nat.{ℕ, zero, suc, ◌+◌, ◌-◌, ◌*◌, ◌≤◌, ◌<◌}
use native.Mathlib.Numerals.{add-one}
use native.Mathlib.Omega.{arith}
use Rattle.std.proofs.lemmas.Bool.Decides.{nat_tests}
use borrow.Author.Tests.{eq-eqb, ne_eqb, ltb-false}
use lib.Bits.{bit_or}
use Rattle.std.specs.List.{fold, position, position_or_len}
use Rattle.std.specs.Option.{unwrap_or}
use Rattle.std.specs.Simd.{first_chunks}
use lib.Dec.{eqb, ltb}
use lib.ListN.{length, get_or, take, drop, replicate, length-drop, drop_of_length-le}
use lib.Seq.{drop-cons, get_or-take, take_all}
use Rattle.fragments.specs.Fragment.{unused_record, is_reserved, is_zero}
use Rattle.fragments.specs.List.{limit, every}
use Rattle.fragments.proofs.Laws.Bool.{and_left, and_right, and_both, and-false, and_true, and_assoc, by_cases, cond_yes, cond_no}
use Rattle.fragments.proofs.Laws.Numbers.{or_zero}
use Rattle.disc.specs.Sound.{used_first, sound, allowed_state}
use Rattle.disc.proofs.Laws.Rules.{sound-tests}
use Rattle.gladhamre.specs.Types.{Fragment}
use Rattle.std.specs.Prelude.{None, Some}
use Rattle.gladhamre.specs.Image.{image_length, word, kind_of, record_of, record_fits, list_of, list_fits, head_fits, decode, is_state, records_of}
use Rattle.gladhamre.specs.Used.{record_used, used_of, used_in, all_zero, words_of, Taken}
use Rattle.gladhamre.proofs.Laws.Image.{record_at, next_record, record_after, lent_part, six_words, state-words, length-chunks, record-at}

-- the words joined by `or`
zero_from : (w : List ℕ) (a : ℕ) → eqb (fold bit_or a w) 0 ≡ (eqb a 0 && all_zero w)
unfolding all_zero
zero_from [] a = sym (and_true (eqb a 0))
zero_from (x ∷ w) a = zero_from w (bit_or a x) ∙ rw or_zero (sym (and_assoc (eqb a 0) (eqb x 0) (all_zero w)))

pub zero_fold : (w : List ℕ) → eqb (fold bit_or 0 w) 0 ≡ all_zero w
zero_fold w = zero_from w 0

-- one word more, and all: `all` joins the first i words
pub zero_more :
    (w : List ℕ) (i all : ℕ) → i < length w → all_zero w ≡ (eqb all 0 && all_zero (drop i w))
    → all_zero w ≡ (eqb (bit_or all (word w i)) 0 && all_zero (drop (i + 1) w))
unfolding all_zero
zero_more w i all h so =
    so ∙ rw (or_zero, add-one, drop-cons w i 0 h) (and_assoc (eqb all 0) (eqb (word w i) 0) (all_zero (drop (suc i) w)))

pub zero_all : (w : List ℕ) (i all : ℕ) → length w ≤ i → all_zero w ≡ (eqb all 0 && all_zero (drop i w)) → eqb all 0 ≡ all_zero w
unfolding all_zero
zero_all w i all h so = sym (so ∙ rw (drop_of_length-le w {i = i} h) (and_true (eqb all 0)))

-- the six words of a record, as the part of the image that is lent
part_used : (v : List ℕ) → record_used (take 6 v) ≡ record_used v
part_used v = rw (get_or-take 6 v 0 0 (omega arith), get_or-take 6 v 2 0 (omega arith), get_or-take 6 v 5 0 (omega arith))

pub lent-used : (w : List ℕ) (i : ℕ) → record_used (take (7 + 6 * i + 6 - (7 + 6 * i)) (drop (7 + 6 * i) w)) ≡ record_used (drop (6 * i) (drop 7 w))
lent-used w i = ap record_used (lent_part w i) ∙ part_used (drop (6 * i) (drop 7 w))

-- records counted up to index i, which is in use or is not
used_step :
    (n i : ℕ) (v : List ℕ) → i < n
    → used_of (n - i) (drop (6 * i) v) ≡ cond (record_used (drop (6 * i) v)) (suc (used_of (n - (i + 1)) (drop (6 * (i + 1)) v))) 0
unfolding used_of
used_step n i v h =
    let k : n - i ≡ suc (n - (i + 1)) = omega arith in
    rw (k, next_record v i)

module _ (n i : ℕ) (v : List ℕ) (so : used_of n v ≡ i + used_of (n - i) (drop (6 * i) v)) where
  pub used-more : i < n → record_used (drop (6 * i) v) ≡ true → used_of n v ≡ i + 1 + used_of (n - (i + 1)) (drop (6 * (i + 1)) v)
  used-more h t =
      let e : used_of (n - i) (drop (6 * i) v) ≡ suc (used_of (n - (i + 1)) (drop (6 * (i + 1)) v)) = used_step n i v h ∙ cond_yes _ _ _ t in
      omega arith

  pub used-stop : i < n → record_used (drop (6 * i) v) ≡ false → i ≡ used_of n v
  used-stop h t =
      let e : used_of (n - i) (drop (6 * i) v) ≡ 0 = used_step n i v h ∙ cond_no _ _ _ t in
      omega arith

  pub used_all : i ≡ n → i ≡ used_of n v
  unfolding used_of
  used_all h =
      let k : n - i ≡ 0 = omega arith in
      let e : used_of n v ≡ i + 0 = rw k at so in
      omega arith

-- where the first record that is not in use stands
first_unused : (n : ℕ) (v : List ℕ) → position_or_len (λ r. not (record_used r)) (first_chunks 6 n v) ≡ used_of n v
unfolding used_of
first_unused zero v = refl
first_unused (suc n) v =
    let later = first_unused n (drop 6 v) in
    by_cases (record_used v) (λ t. rw (part_used v, t) (omega arith)) (λ t. rw (part_used v, t) refl)

pub used_most : (n : ℕ) (v : List ℕ) → used_of n v ≤ n
unfolding used_of
used_most zero v = omega arith
used_most (suc n) v = let h = used_most n (drop 6 v) in grind (arith, nat_tests)

position_used :
    (n : ℕ) (v : List ℕ) (rs : List (List ℕ)) → rs ≡ first_chunks 6 n v
    → unwrap_or (position (λ r. not (record_used r)) rs) n ≡ used_of n v
position_used n v rs e =
    let p = position_or_len (λ r. not (record_used r)) rs in
    let at : p ≡ used_of n v = ap (position_or_len (λ r. not (record_used r))) e ∙ first_unused n v in
    let l : length rs ≡ n = ap length e ∙ length-chunks n v in
    by_cases (ltb p (length rs))
    (λ t. rw t at)
    (λ t. let h = ltb-false p (length rs) t in rw t (omega (arith, used_most n v)))

pub used_position : (w : List ℕ) → unwrap_or (position (λ r. not (record_used r)) (records_of w)) limit ≡ used_in w
unfolding records_of
used_position w = position_used limit (drop 7 w) (records_of w) refl

pub used-at : (n i : ℕ) (v : List ℕ) → i < used_of n v → record_used (drop (6 * i) v) ≡ true
unfolding used_of
used-at zero i v h = absurd (omega arith)
used-at (suc n) zero v h = grind (arith, nat_tests)
used-at (suc n) (suc i) v h = rw (record_after v i) (used-at n i (drop 6 v) (grind (arith, nat_tests)))

-- words that are all zero
zero_word : (w : List ℕ) (i : ℕ) → all_zero w ≡ true → word w i ≡ 0
unfolding all_zero
zero_word [] i t = refl
zero_word (x ∷ w) zero t = grind (arith, nat_tests)
zero_word (x ∷ w) (suc i) t = zero_word w i (grind (arith, nat_tests))

zero_drop : (n : ℕ) (w : List ℕ) → all_zero w ≡ true → all_zero (drop n w) ≡ true
unfolding all_zero
zero_drop zero w t = t
zero_drop (suc n) [] t = refl
zero_drop (suc n) (x ∷ w) t = zero_drop n w (and_right (eqb x 0) (all_zero w) t)

-- stand for records that are not in use
zero_fits : (n : ℕ) (v : List ℕ) → all_zero v ≡ true → list_fits n v ≡ true
unfolding list_fits
zero_fits zero v t = refl
zero_fits (suc n) v t = rw (zero_word v 0 t, zero_word v 5 t) (zero_fits n (drop 6 v) (zero_drop 6 v t))

zero_list : (n : ℕ) (v : List ℕ) → all_zero v ≡ true → list_of n v ≡ replicate n unused_record
unfolding list_of
zero_list zero v t = refl
zero_list (suc n) v t =
    rw (zero_word v 0 t, zero_word v 1 t, zero_word v 2 t, zero_word v 3 t, zero_word v 4 t, zero_word v 5 t)
    (ap (λ (l : List Fragment). unused_record ∷ l) (zero_list n (drop 6 v) (zero_drop 6 v t)))

-- records in use and zeros after them are a list
used-fits : (n : ℕ) (v : List ℕ) → all_zero (drop (6 * used_of n v) v) ≡ true → list_fits n v ≡ true
unfolding used_of list_fits
used-fits zero v z = refl
used-fits (suc n) v z =
    by_cases (record_used v)
    (λ t.
    let k : all_zero (drop (6 * suc (used_of n (drop 6 v))) v) ≡ true = rw t at z in
    let y : all_zero (drop (6 * used_of n (drop 6 v)) (drop 6 v)) ≡ true = rw (record_after v (used_of n (drop 6 v))) at k in
    and_both (and_left (record_fits v) (not (eqb (word v 2) 0)) t) (used-fits n (drop 6 v) y))
    (λ t. let k : all_zero v ≡ true = rw t at z in zero_fits (suc n) v k)

used-list :
    (n : ℕ) (v : List ℕ) → all_zero (drop (6 * used_of n v) v) ≡ true
    → list_of n v ≡ list_of (used_of n v) v ++ drop (used_of n v) (replicate n unused_record)
unfolding used_of list_of
used-list zero v z = refl
used-list (suc n) v z =
    by_cases (record_used v)
    (λ t.
    let k : all_zero (drop (6 * suc (used_of n (drop 6 v))) v) ≡ true = rw t at z in
    let y : all_zero (drop (6 * used_of n (drop 6 v)) (drop 6 v)) ≡ true = rw (record_after v (used_of n (drop 6 v))) at k in
    rw t (ap (λ (l : List Fragment). record_of v ∷ l) (used-list n (drop 6 v) y)))
    (λ t. let k : all_zero v ≡ true = rw t at z in rw t (zero_list (suc n) v k))

-- a list whose records in use come first, and are zero after those, has such words
kind_zero : (k : ℕ) → k < 2 → is_reserved (kind_of k) ≡ true → k ≡ 0
kind_zero k h r = grind (arith, nat_tests)

record_zero : (v : List ℕ) → 6 ≤ length v → record_fits v ≡ true → is_zero (record_of v) ≡ true → all_zero (drop 6 v) ≡ true → all_zero v ≡ true
unfolding all_zero
record_zero v h f e z =
    let kind = kind_zero (word v 5) in ap all_zero (six_words v h) ∙ grind (arith, nat_tests)

list_zero : (n : ℕ) (v : List ℕ) → length v ≡ 6 * n → list_fits n v ≡ true → every is_zero (list_of n v) ≡ true → all_zero v ≡ true
unfolding list_fits list_of every all_zero
list_zero zero [] h f e = refl
list_zero zero (x ∷ v) h f e = absurd (omega arith)
list_zero (suc n) v h f e =
    record_zero v (omega arith) (grind (arith, nat_tests)) (grind (arith, nat_tests))
    (list_zero n (drop 6 v) (simp length-drop (omega arith)) (grind (arith, nat_tests)) (grind (arith, nat_tests)))

used_first_zero :
    (n : ℕ) (v : List ℕ) → length v ≡ 6 * n → list_fits n v ≡ true → used_first (list_of n v) ≡ true → all_zero (drop (6 * used_of n v) v) ≡ true
unfolding used_of list_fits list_of used_first every
used_first_zero zero v h f u = list_zero zero v h f refl
used_first_zero (suc n) v h f u =
    let fits = and_left (record_fits v) (list_fits n (drop 6 v)) f in
    by_cases (eqb (word v 2) 0)
    (λ t. rw (fits, t) (list_zero (suc n) v h f (sym (cond_yes (eqb (word v 2) 0) _ _ t) ∙ u)))
    (λ t.
    rw (fits, t, record_after v (used_of n (drop 6 v)))
    (used_first_zero n (drop 6 v) (simp length-drop (omega arith)) (and_right (record_fits v) (list_fits n (drop 6 v)) f) (sym (cond_no (eqb (word v 2) 0) _ _ t) ∙ u)))

-- the words that are taken: a state's, and its list is made of the records in use
module _ (w : List ℕ) where
  rest-zero : all_zero (drop (7 + 6 * used_in w) w) ≡ all_zero (drop (6 * used_in w) (drop 7 w))
  rest-zero = ap all_zero (record_at w (used_in w))

  taken-tests :
      (n : ℕ) → words_of w ≡ Some n
      → ((eqb (length w) image_length && (head_fits w && all_zero (drop (7 + 6 * used_in w) w))) ≡ true) × (n ≡ used_in w)
  unfolding words_of
  taken-tests n e =
      let t = eqb (length w) image_length && (head_fits w && all_zero (drop (7 + 6 * used_in w) w)) in
      by_cases t
      (λ h. let same : Some (used_in w) ≡ Some n = sym (cond_yes t _ _ h) ∙ e in (h, cc))
      (λ h. let other : None ≡ Some n = sym (cond_no t _ _ h) ∙ e in absurd cc)

  module _ (n : ℕ) (e : words_of w ≡ Some n) where
    pub taken-state : is_state w ≡ true
    unfolding is_state
    taken-state =
        let tests = (taken-tests n e).0 in
        let fits = used-fits limit (drop 7 w) in
        let rest = rest-zero in grind (arith, nat_tests)

    pub taken : Taken w n
    taken =
        let t = taken-tests n e in
        record { state = state-words w taken-state; counted = t.1; zeros = grind (arith, nat_tests) }

  -- the tests of the code
  pub words-short : (length w ≡ image_length → ⊥) → words_of w ≡ None
  unfolding words_of
  words-short h = rw (ne_eqb (length w) image_length h)

  pub words-tested :
      (n : ℕ) (a b : Bool) → length w ≡ image_length → n ≡ used_in w → a ≡ head_fits w
      → b ≡ all_zero (take (image_length - (7 + 6 * n)) (drop (7 + 6 * n) w)) → cond (a && b) (Some n) None ≡ words_of w
  unfolding words_of
  words-tested n a b h e f g =
      let z = drop (7 + 6 * n) w in
      rw (g, take_all (image_length - (7 + 6 * n)) z (simp length-drop (omega arith)), f, e, eq-eqb (length w) image_length h)

  -- words that are not taken though a state's break the rule of the unused records
  pub unsound-words : words_of w ≡ None → is_state w ≡ true → allowed_state (decode w) ≡ false
  unfolding words_of is_state allowed_state decode
  unsound-words e t =
      let whole : length w ≡ image_length = grind (arith, nat_tests) in
      let fits : list_fits limit (drop 7 w) ≡ true = grind (arith, nat_tests) in
      by_cases (sound (decode w))
      (λ s.
      let z = rest-zero ∙ used_first_zero limit (drop 7 w) (simp length-drop (omega arith)) fits (sound-tests (decode w) s).first in
      let k : (eqb (length w) image_length && (head_fits w && all_zero (drop (7 + 6 * used_in w) w))) ≡ true = grind (arith, nat_tests) in
      let other : None ≡ Some (used_in w) = sym e ∙ cond_yes _ _ _ k in absurd cc)
      (λ s. and-false (sound (decode w)) _ s)

  module _ (n : ℕ) (k : Taken w n) where
    pub taken-most : n ≤ limit
    taken-most = rw k.counted (used_most limit (drop 7 w))

    pub taken-fits : (i : ℕ) → i < n → record_fits (take 6 (drop (6 * i) (drop 7 w))) ≡ true
    taken-fits i h =
        let v = drop (6 * i) (drop 7 w) in
        and_left (record_fits (take 6 v)) (not (eqb (word (take 6 v) 2) 0)) (part_used v ∙ used-at limit i (drop 7 w) (omega (arith, k.counted)))

    -- what is read of a record
    pub taken-record :
        (i : ℕ) (rs : List (List ℕ)) → rs ≡ records_of w → i < n → get_or (take n rs) i [] ≡ take 6 (drop (6 * i) (drop 7 w))
    taken-record i rs e h = ap (λ (l : List (List ℕ)). get_or (take n l) i []) e ∙ record-at w n i [] h taken-most

    -- all are read: those not in use are there already
    pub taken-list :
        (fs z : List Fragment) (i : ℕ) → i ≡ n → z ≡ replicate limit unused_record → fs ≡ list_of i (drop 7 w) ++ drop i z
        → fs ≡ list_of limit (drop 7 w)
    taken-list fs z i h u e =
        let same : i ≡ used_in w = h ∙ k.counted in
        e ∙ rw (same, u) (sym (used-list limit (drop 7 w) (sym rest-zero ∙ k.zeros)))
