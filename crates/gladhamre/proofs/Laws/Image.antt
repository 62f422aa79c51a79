-- Words written and read one by one, records one by one, and that an encoded state is read back.
use mathlib.Core.Path.{◌≡◌, refl, sym, ap, ◌∙◌}
use Prim.Native.Nat.{ℕ, zero, suc, ◌+◌, ◌-◌, ◌*◌, ◌≤◌, ◌<◌}
use native.Mathlib.Numerals.{add-one}
use native.Mathlib.Nat.{not-suc-le-zero, le_of_suc-le-suc}
use native.Mathlib.Omega.{arith}
use Rattle.std.proofs.lemmas.Bool.Decides.{nat_tests}
use mathlib.Core.Bool.{Bool, true, false, ◌&&◌}
use mathlib.Core.List.{List, [], ◌∷◌, ◌++◌, append-nil}
use lib.ListN.{length, get_or, set, take, drop, length-append, length-drop, drop_of_length-le}
use lib.Seq.{drop-cons, drop-drop, get_or-take, take_all, length-take-le, sets, sets-eq}
use lib.Dec.{eqb, ltb}
use Rattle.std.specs.List.{list_all}
use Rattle.std.specs.Simd.{first_chunks}
use Rattle.fragments.specs.Fragment.{unused_record}
use Rattle.fragments.specs.List.{limit}
use Rattle.protocol.specs.Answer.{sense}
use Rattle.drive.specs.Bytes.{splice}
use Rattle.drive.proofs.Laws.Bytes.{splice-splice, splice-end}
use Rattle.gladhamre.specs.Types.{Kind, Reserved, Appended, Fragment, Disc}
use Rattle.gladhamre.specs.Image.{image_length, flag_word, kind_word, kind_of, decode, word, record_of, record_words, list_of, list_fits, list_words, head_words, head_fits, encode, is_state, StateWords, records_of}

-- as many words stored as there are: only they are left
pub fill_all : (xs w : List ℕ) → length w ≡ length xs → sets w 0 xs ≡ xs
fill_all xs w h = sets-eq xs w 0 (omega arith) ∙ rw (drop_of_length-le w {i = 0 + length xs} (omega arith)) (append-nil xs)

-- the six words of a record, as the part of the image that is lent
pub part_record : (v : List ℕ) → record_of (take 6 v) ≡ record_of v
part_record v =
    rw (get_or-take 6 v 0 0 (omega arith), get_or-take 6 v 1 0 (omega arith), get_or-take 6 v 2 0 (omega arith), get_or-take 6 v 3 0 (omega arith), get_or-take 6 v 4 0 (omega arith), get_or-take 6 v 5 0 (omega arith))

drop-sum : (v : List ℕ) (a b c : ℕ) → b + a ≡ c → drop a (drop b v) ≡ drop c v
drop-sum v a b c h = drop-drop a b v ∙ ap (λ (n : ℕ). drop n v) h

-- the record at an index begins after the head and the records before it
pub record_at : (w : List ℕ) (i : ℕ) → drop (7 + 6 * i) w ≡ drop (6 * i) (drop 7 w)
record_at w i = sym (drop-sum w (6 * i) 7 (7 + 6 * i) refl)

pub next_record : (v : List ℕ) (i : ℕ) → drop 6 (drop (6 * i) v) ≡ drop (6 * (i + 1)) v
next_record v i = drop-sum v 6 (6 * i) (6 * (i + 1)) (omega arith)

pub record_after : (v : List ℕ) (i : ℕ) → drop (6 * suc i) v ≡ drop (6 * i) (drop 6 v)
record_after v i = sym (drop-sum v (6 * i) 6 (6 * suc i) (omega arith))

-- words one by one
pub six_words :
    (v : List ℕ) → 6 ≤ length v → v ≡ word v 0 ∷ word v 1 ∷ word v 2 ∷ word v 3 ∷ word v 4 ∷ word v 5 ∷ drop 6 v
six_words [] h = absurd (omega arith)
six_words (x₀ ∷ []) h = absurd (omega arith)
six_words (x₀ ∷ x₁ ∷ []) h = absurd (omega arith)
six_words (x₀ ∷ x₁ ∷ x₂ ∷ []) h = absurd (omega arith)
six_words (x₀ ∷ x₁ ∷ x₂ ∷ x₃ ∷ []) h = absurd (omega arith)
six_words (x₀ ∷ x₁ ∷ x₂ ∷ x₃ ∷ x₄ ∷ []) h = absurd (omega arith)
six_words (x₀ ∷ x₁ ∷ x₂ ∷ x₃ ∷ x₄ ∷ x₅ ∷ v) h = refl

-- the records as they lie in the words
pub length-chunks : (n : ℕ) (v : List ℕ) → length (first_chunks 6 n v) ≡ n
length-chunks zero v = refl
length-chunks (suc n) v = ap suc (length-chunks n (drop 6 v))

pub records-lent : (w v : List ℕ) (n : ℕ) → n ≡ limit → v ≡ drop 7 w → first_chunks 6 n v ≡ records_of w
unfolding records_of
records-lent w v n h e = ap (first_chunks 6 n) e ∙ ap (λ (m : ℕ). first_chunks 6 m (drop 7 w)) h

chunk-at : (n i : ℕ) (v d : List ℕ) → i < n → get_or (first_chunks 6 n v) i d ≡ take 6 (drop (6 * i) v)
chunk-at zero i v d h = absurd (omega arith)
chunk-at (suc n) zero v d h = refl
chunk-at (suc n) (suc i) v d h = chunk-at n i (drop 6 v) d (omega arith) ∙ ap (take 6) (sym (record_after v i))

pub record-at :
    (w : List ℕ) (n i : ℕ) (d : List ℕ) → i < n → n ≤ limit → get_or (take n (records_of w)) i d ≡ take 6 (drop (6 * i) (drop 7 w))
unfolding records_of
record-at w n i d h m = get_or-take n (records_of w) i d h ∙ chunk-at limit i (drop 7 w) d (omega arith)

-- the head as its words, and its tests in one
pub part_head : (w : List ℕ) → head_fits (take 7 w) ≡ head_fits w
part_head w =
    rw (get_or-take 7 w 1 0 (omega arith), get_or-take 7 w 2 0 (omega arith), get_or-take 7 w 3 0 (omega arith), get_or-take 7 w 4 0 (omega arith), get_or-take 7 w 5 0 (omega arith), get_or-take 7 w 6 0 (omega arith))

pub head_tests : (w : List ℕ) → length w ≡ 7 → (ltb (word w 1) 2 && list_all (λ x. ltb x 256) (take 5 (drop 2 w))) ≡ head_fits w
head_tests [] h = absurd (omega arith)
head_tests (x₀ ∷ []) h = absurd (omega arith)
head_tests (x₀ ∷ x₁ ∷ []) h = absurd (omega arith)
head_tests (x₀ ∷ x₁ ∷ x₂ ∷ []) h = absurd (omega arith)
head_tests (x₀ ∷ x₁ ∷ x₂ ∷ x₃ ∷ []) h = absurd (omega arith)
head_tests (x₀ ∷ x₁ ∷ x₂ ∷ x₃ ∷ x₄ ∷ []) h = absurd (omega arith)
head_tests (x₀ ∷ x₁ ∷ x₂ ∷ x₃ ∷ x₄ ∷ x₅ ∷ []) h = absurd (omega arith)
head_tests (x₀ ∷ x₁ ∷ x₂ ∷ x₃ ∷ x₄ ∷ x₅ ∷ x₆ ∷ v) h = grind (arith, nat_tests)

-- the head of the state that an image stands for
pub decoded :
    (w head : List ℕ) (fs : List Fragment) → head ≡ take 7 w → fs ≡ list_of limit (drop 7 w)
    → record { capacity = word head 0; finalized = eqb (word head 1) 1; sense = sense (word head 2) (word head 3) (word head 4); pending = word head 5; owner = word head 6; fragments = fs } ≡ decode w
unfolding decode
decoded w head fs e f =
    rw (e, f, get_or-take 7 w 0 0 (omega arith), get_or-take 7 w 1 0 (omega arith), get_or-take 7 w 2 0 (omega arith), get_or-take 7 w 3 0 (omega arith), get_or-take 7 w 4 0 (omega arith), get_or-take 7 w 5 0 (omega arith), get_or-take 7 w 6 0 (omega arith))

-- one turn of the reading
read_suc :
    (i : ℕ) (v : List ℕ) (z : List Fragment) → i < length z
    → set (list_of i v ++ drop i z) i (record_of (drop (6 * i) v)) ≡ list_of (suc i) v ++ drop (suc i) z
unfolding list_of
read_suc zero v [] h = absurd (not-suc-le-zero h)
read_suc zero v (y ∷ ys) h = refl
read_suc (suc i) v [] h = absurd (not-suc-le-zero h)
read_suc (suc i) v (y ∷ ys) h =
    ap (λ (l : List Fragment). record_of v ∷ l) (rw (record_after v i) (read_suc i (drop 6 v) ys (le_of_suc-le-suc h)))

pub read_more :
    (i : ℕ) (v : List ℕ) (z : List Fragment) → i < length z
    → set (list_of i v ++ drop i z) i (record_of (drop (6 * i) v)) ≡ list_of (i + 1) v ++ drop (i + 1) z
read_more i v z h = rw add-one (read_suc i v z h)

-- the words of a list
pub length-list : (fs : List Fragment) → length (list_words fs) ≡ 6 * length fs
unfolding list_words
length-list [] = refl
length-list (f ∷ fs) = omega (arith, length-list fs)

words_suc : (i : ℕ) (fs : List Fragment) (d : Fragment) → i < length fs → list_words (take i fs) ++ record_words (get_or fs i d) ≡ list_words (take (suc i) fs)
unfolding list_words
words_suc i [] d h = absurd (not-suc-le-zero h)
words_suc zero (f ∷ fs) d h = refl
words_suc (suc i) (f ∷ fs) d h = ap (λ (l : List ℕ). record_words f ++ l) (words_suc i fs d (le_of_suc-le-suc h))

pub words_more :
    (i : ℕ) (fs : List Fragment) (d : Fragment) → i < length fs → list_words (take i fs) ++ record_words (get_or fs i d) ≡ list_words (take (i + 1) fs)
words_more i fs d h = rw add-one (words_suc i fs d h)

-- the six words of a record by the place that they have in the image
pub lent_part : (w : List ℕ) (i : ℕ) → take (7 + 6 * i + 6 - (7 + 6 * i)) (drop (7 + 6 * i) w) ≡ take 6 (drop (6 * i) (drop 7 w))
lent_part w i =
    let k : 7 + 6 * i + 6 - (7 + 6 * i) ≡ 6 = omega arith in
    rw (k, record_at w i)

pub lent_record : (w : List ℕ) (i : ℕ) → record_of (take (7 + 6 * i + 6 - (7 + 6 * i)) (drop (7 + 6 * i) w)) ≡ record_of (drop (6 * i) (drop 7 w))
lent_record w i = ap record_of (lent_part w i) ∙ part_record (drop (6 * i) (drop 7 w))

-- one turn of the writing
pub write_more :
    (w words words₁ : List ℕ) (fs : List Fragment) (i : ℕ) (d : Fragment) → length w ≡ image_length → i < length fs
    → words ≡ splice w 7 (list_words (take i fs)) → words₁ ≡ splice words (7 + 6 * i) (record_words (get_or fs i d))
    → words₁ ≡ splice w 7 (list_words (take (i + 1) fs))
write_more w words words₁ fs i d hw h e f =
    let l : length (list_words (take i fs)) ≡ 6 * i = length-list (take i fs) ∙ ap (λ (n : ℕ). 6 * n) (length-take-le i fs (omega arith)) in
    f
    ∙ (ap (λ (m : List ℕ). splice m (7 + 6 * i) (record_words (get_or fs i d))) e
    ∙ (splice-splice w 7 (7 + 6 * i) (list_words (take i fs)) (record_words (get_or fs i d)) (omega arith) (omega (arith, l))
    ∙ ap (splice w 7) (words_more i fs d h)))

-- all are written
pub write-all :
    (w words : List ℕ) (fs : List Fragment) (i : ℕ) → length fs ≡ limit → i ≤ limit → limit ≤ i → words ≡ splice w 7 (list_words (take i fs))
    → words ≡ splice w 7 (list_words fs)
write-all w words fs i h l m e = e ∙ ap (λ (x : List Fragment). splice w 7 (list_words x)) (take_all i fs (omega arith))

-- head and records are the image
pub write_both :
    (w : List ℕ) (d : Disc) (head words : List ℕ) → length w ≡ image_length → length d.fragments ≡ limit → head ≡ head_words d
    → words ≡ splice (head ++ drop 7 w) 7 (list_words d.fragments) → words ≡ encode d
unfolding encode splice
write_both w d head words hw hf e f =
    let l = length-list d.fragments in
    f
    ∙ (ap (λ (h : List ℕ). splice (h ++ drop 7 w) 7 (list_words d.fragments)) e
    ∙ (splice-splice w 0 7 (head_words d) (list_words d.fragments) (omega arith) refl
    ∙ splice-end w 0 (head_words d ++ list_words d.fragments) (omega (arith, l, length-append (head_words d) (list_words d.fragments)))))

-- what an image that is a state's gives
pub state-words : (w : List ℕ) → is_state w ≡ true → StateWords w
unfolding is_state
state-words w t =
    (grind (arith, nat_tests), grind (arith, nat_tests), grind (arith, nat_tests), grind (arith, nat_tests), grind (arith, nat_tests), grind (arith, nat_tests), grind (arith, nat_tests), grind (arith, nat_tests))

-- an encoded state is read back
kind_back : (k : Kind) → kind_of (kind_word k) ≡ k
kind_back Reserved = refl
kind_back Appended = refl

flag_back : (b : Bool) → eqb (flag_word b) 1 ≡ b
flag_back true = refl
flag_back false = refl

record_back : (f : Fragment) (l : List ℕ) → record_of (record_words f ++ l) ≡ f
record_back f l =
    ap (λ (k : Kind). record { session = f.session; start = f.start; length = f.length; recorded = f.recorded; zeroed = f.zeroed; kind = k }) (kind_back f.kind)

list_back : (n : ℕ) (fs : List Fragment) → length fs ≡ n → list_of n (list_words fs) ≡ fs
unfolding list_of list_words
list_back zero [] h = refl
list_back zero (f ∷ fs) h = absurd (omega arith)
list_back (suc n) [] h = absurd (omega arith)
list_back (suc n) (f ∷ fs) h = ap (λ (g : Fragment). g ∷ list_of n (list_words fs)) (record_back f (list_words fs)) ∙ ap (λ (l : List Fragment). f ∷ l) (list_back n fs (omega arith))

pub decode-encode : (d : Disc) → length d.fragments ≡ limit → decode (encode d) ≡ d
unfolding decode encode
decode-encode d h =
    ap (λ (b : Bool). record { capacity = d.capacity; finalized = b; sense = d.sense; pending = d.pending; owner = d.owner; fragments = list_of limit (list_words d.fragments) }) (flag_back d.finalized)
    ∙ ap (λ (l : List Fragment). record { capacity = d.capacity; finalized = d.finalized; sense = d.sense; pending = d.pending; owner = d.owner; fragments = l }) (list_back limit d.fragments h)

-- and is a state's image, where each number fits its field
flag_below : (b : Bool) → flag_word b < 2
flag_below true = omega arith
flag_below false = omega arith

kind_below : (k : Kind) → kind_word k < 2
kind_below Reserved = omega arith
kind_below Appended = omega arith

pub record Bytes (d : Disc) : Type 0 where
  pub key : d.sense.key < 256
  pub asc : d.sense.asc < 256
  pub ascq : d.sense.ascq < 256
  pub pending : d.pending < 256
  pub owner : d.owner < 256
  pub sessions : (i : ℕ) → i < limit → (get_or d.fragments i unused_record).session < 256

list_fits_lem : (n : ℕ) (fs : List Fragment) → length fs ≡ n → ((i : ℕ) → i < n → (get_or fs i unused_record).session < 256) → list_fits n (list_words fs) ≡ true
unfolding list_fits list_words
list_fits_lem zero fs h s = refl
list_fits_lem (suc n) [] h s = absurd (omega arith)
list_fits_lem (suc n) (f ∷ fs) h s =
    let first = s 0 (omega arith) in
    let kind = kind_below f.kind in
    let rest = list_fits_lem n fs (omega arith) (λ i k. s (suc i) (omega arith)) in grind (arith, nat_tests)

pub encode-state : (d : Disc) → length d.fragments ≡ limit → Bytes d → is_state (encode d) ≡ true
unfolding is_state encode
encode-state d h b =
    let l : length (head_words d ++ list_words d.fragments) ≡ image_length = omega (arith, length-list d.fragments, length-append (head_words d) (list_words d.fragments)) in
    let flag = flag_below d.finalized in
    let fits = list_fits_lem limit d.fragments h b.sessions in grind (arith, nat_tests)

-- a state's words are the image of what they stand for
flag_same : (n : ℕ) → n < 2 → flag_word (eqb n 1) ≡ n
flag_same n h = grind (arith, nat_tests)

kind_same : (n : ℕ) → n < 2 → kind_word (kind_of n) ≡ n
kind_same n h = grind (arith, nat_tests)

list_same : (n : ℕ) (v : List ℕ) → length v ≡ 6 * n → list_fits n v ≡ true → list_words (list_of n v) ≡ v
unfolding list_fits list_of list_words
list_same zero [] h t = refl
list_same zero (x ∷ v) h t = absurd (omega arith)
list_same (suc n) v h t =
    let k : word v 5 < 2 = grind (arith, nat_tests) in
    let r = list_same n (drop 6 v) (simp length-drop (omega arith)) (grind (arith, nat_tests)) in
    rw (kind_same (word v 5) k, r) (sym (six_words v (omega arith)))

pub length-list_of : (n : ℕ) (v : List ℕ) → length (list_of n v) ≡ n
unfolding list_of
length-list_of zero v = refl
length-list_of (suc n) v = ap suc (length-list_of n (drop 6 v))

pub encode-decode : (w : List ℕ) → StateWords w → encode (decode w) ≡ w
unfolding encode decode
encode-decode w s =
    let r = list_same limit (drop 7 w) (simp length-drop (omega arith)) s.7 in
    let seven = six_words w (omega arith) ∙ ap (λ (l : List ℕ). word w 0 ∷ word w 1 ∷ word w 2 ∷ word w 3 ∷ word w 4 ∷ word w 5 ∷ l) (drop-cons w 6 0 (omega arith)) in
    rw (flag_same (word w 1) s.1, r) (sym seven)
