-- Bytes compared, and what is read of the replies that are possible.
use Prim.Native.Nat.{ℕ, ◌+◌, ◌≤◌, ◌<◌}
use mathlib.Core.Path.{◌≡◌, refl, sym, ap, ◌∙◌, subst}
use mathlib.Core.Bool.{Bool, true, false, cond, not, ◌&&◌, false≢true}
use mathlib.Core.List.{List, [], ◌∷◌, ◌++◌}
use mathlib.Core.Logic.{◌⊎◌, inl, inr, ⊎_elim}
use native.Mathlib.Omega.{arith}
use native.Mathlib.Numerals.{add-one}
use lib.ListN.{length, take, drop, get_or, drop_of_length-le}
use lib.Seq.{drop-cons, take-length}
use native.Mathlib.Nat.{le_refl}
use lib.Dec.{eqb, leb}
use Rattle.std.specs.Prelude.{Option, Some, None}
use Rattle.std.specs.Cmp.Lexicographic.{pointwise}
use Rattle.std.proofs.lemmas.Slice.Eq.{IsBytesEq, compares_Decides}
use borrow.Author.Tests.{eq-eqb, ne_eqb, eqb-true, leb-true}
use Rattle.features.specs.Feature.{features, descriptors, asked, selected, Above, Rising}
use Rattle.features.specs.declared.listing.Listing.{Listing}
use Rattle.features.specs.Configuration.{configuration_of, configuration_bytes, listing}
use Rattle.features.proofs.Laws.Feature.{features-rise, above_from, above_one}
use Rattle.features.proofs.Laws.Configuration.{listing-first}
use Rattle.configuration.specs.Types.{Feature, Reading}
use Rattle.configuration.specs.Reading.{reading, ends, ones, possible, same_bytes, read_among, read_reply}
use Rattle.configuration.specs.First.{first_feature}
use Rattle.configuration.specs.Theorems.{Sent}

none-some : {A : Type 0} {a : A} → ◌≡◌ {A = Option A} None (Some a) → ⊥
none-some e = cc

some_equal : {A : Type 0} {a b : A} → Some a ≡ Some b → a ≡ b
some_equal e = cc

pub by_cases : {P : Type 0} (b : Bool) → (b ≡ true → P) → (b ≡ false → P) → P
by_cases true on off = on refl
by_cases false on off = off refl

-- bytes that are the same are equal, and `==` on slices says whether they are
heads : IsBytesEq same_bytes
unfolding same_bytes
heads = record { empty = refl; shorter = λ y ys. refl; longer = λ x xs. refl; heads = λ x y xs ys. refl }

pub same_equal : (x y : List ℕ) → same_bytes x y ≡ true → x ≡ y
same_equal x y = (compares_Decides same_bytes heads x y).0

pub same_pointwise : (x y : List ℕ) → pointwise eqb x y ≡ same_bytes x y
unfolding same_bytes
same_pointwise [] [] = refl
same_pointwise [] (c ∷ y) = refl
same_pointwise (b ∷ x) [] = refl
same_pointwise (b ∷ x) (c ∷ y) = ap (λ (e : Bool). eqb b c && e) (same_pointwise x y)

-- what holds of each of some lists of features
unfoldable All : (List Feature → Type 0) → List (List Feature) → Type 0
All P [] = Unit {0}
All P (fs ∷ others) = P fs × All P others

all_left : (P : List Feature → Type 0) (x y : List (List Feature)) → All P (x ++ y) → All P x
unfolding All
all_left P [] y a = tt
all_left P (fs ∷ x) y a = (a.0, all_left P x y a.1)

all_right : (P : List Feature → Type 0) (x y : List (List Feature)) → All P (x ++ y) → All P y
unfolding All
all_right P [] y a = a
all_right P (fs ∷ x) y a = all_right P x y a.1

all_none : (P : List Feature → Type 0) (fs : List Feature) → All P (ends fs) → P []
unfolding All ends
all_none P [] a = a.0
all_none P (f ∷ fs) a = all_none P fs a.1

-- what a request asks for is possible: an end of a table that rises, or one feature of it, or none
rising_rest : (n : ℕ) (fs : List Feature) → Above n fs → Rising fs
unfolding Above Rising
rising_rest n [] a = tt
rising_rest n (f ∷ fs) a = a.1

all_from : (P : List Feature → Type 0) (r s : ℕ) (fs : List Feature) → eqb r 2 ≡ false → Rising fs → All P (ends fs) → P (asked r s fs)
unfolding All ends asked Rising
all_from P r s [] e u a = a.0
all_from P r s (f ∷ fs) e u a =
    by_cases (leb s f.number)
    (λ t. rw (e, t, above_from r s f.number fs e u (leb-true s f.number t)) a.0)
    (λ t. rw (e, t) (all_from P r s fs e (rising_rest f.number fs u) a.1))

all_one : (P : List Feature → Type 0) (r s : ℕ) (fs : List Feature) → eqb r 2 ≡ true → Rising fs → P [] → All P (ones fs) → P (asked r s fs)
unfolding All ones asked Rising
all_one P r s [] e u z a = z
all_one P r s (f ∷ fs) e u z a =
    by_cases (eqb f.number s)
    (λ t. rw (e, t, above_one r s f.number fs e u (let q = eqb-true f.number s t in omega (arith, q))) a.0)
    (λ t. rw (e, t) (all_one P r s fs e (rising_rest f.number fs u) z a.1))

all-selected : (P : List Feature → Type 0) → All P possible → (r s : ℕ) → P (selected r s)
unfolding possible
all-selected P a r s =
    let x = all_left P (ends features) (ones features) a in
    let y = all_right P (ends features) (ones features) a in
    by_cases (eqb r 2)
    (λ e. all_one P r s features e features-rise (all_none P features x) y)
    (λ e. all_from P r s features e features-rise x)

-- each of them is read as its features
read-possible : All (λ fs. read_reply (configuration_of fs) ≡ Some (reading fs)) possible
unfolding All possible ends ones features descriptors read_reply read_among same_bytes
read-possible = (refl, (refl, (refl, (refl, (refl, (refl, (refl, (refl, (refl, (refl, (refl, (refl, (refl, (refl, (refl, (refl, (refl, (refl, (refl, (refl, (refl, tt)))))))))))))))))))))

pub read_back : (r s : ℕ) → read_reply (configuration_bytes r s) ≡ Some (reading (selected r s))
unfolding configuration_bytes
read_back r s = all-selected (λ fs. read_reply (configuration_of fs) ≡ Some (reading fs)) read-possible r s

-- its first feature says which it is
first_says :
    All (λ fs. (selected 2 (first_feature (configuration_of fs)) ≡ fs) ⊎ (selected 0 (first_feature (configuration_of fs)) ≡ fs)) possible
unfolding All possible ends ones features descriptors asked
first_says = (inr refl, (inr refl, (inr refl, (inr refl, (inr refl, (inr refl, (inr refl, (inr refl, (inr refl, (inl refl, (inl refl, (inl refl, (inl refl, (inl refl, (inl refl, (inl refl, (inl refl, (inl refl, (inl refl, (inl refl, (inl refl, tt)))))))))))))))))))))

-- each is a reply that the drive sends
sent : (r s : ℕ) → r ≤ 2 → s ≤ 0xFFFF → Sent (configuration_bytes r s) (reading (selected r s))
sent r s h k = record { request_type = r; start = s; served = h; fits = k; reply = refl; told = refl }

sent-possible : All (λ fs. Sent (configuration_of fs) (reading fs)) possible
unfolding All possible ends ones features asked configuration_bytes
sent-possible = (sent 0 0x0000 (omega arith) (omega arith), (sent 0 0x0001 (omega arith) (omega arith), (sent 0 0x0002 (omega arith) (omega arith), (sent 0 0x0003 (omega arith) (omega arith), (sent 0 0x0010 (omega arith) (omega arith), (sent 0 0x001F (omega arith) (omega arith), (sent 0 0x002B (omega arith) (omega arith), (sent 0 0x0100 (omega arith) (omega arith), (sent 0 0x0105 (omega arith) (omega arith), (sent 0 0x0107 (omega arith) (omega arith), (sent 0 0xFFFF (omega arith) (omega arith), (sent 2 0x0000 (omega arith) (omega arith), (sent 2 0x0001 (omega arith) (omega arith), (sent 2 0x0002 (omega arith) (omega arith), (sent 2 0x0003 (omega arith) (omega arith), (sent 2 0x0010 (omega arith) (omega arith), (sent 2 0x001F (omega arith) (omega arith), (sent 2 0x002B (omega arith) (omega arith), (sent 2 0x0100 (omega arith) (omega arith), (sent 2 0x0105 (omega arith) (omega arith), (sent 2 0x0107 (omega arith) (omega arith), tt)))))))))))))))))))))

-- of bytes that are none of some replies nothing is read
all_map : (P Q : List Feature → Type 0) (l : List (List Feature)) → ((fs : List Feature) → P fs → Q fs) → All P l → All Q l
unfolding All
all_map P Q [] h a = tt
all_map P Q (fs ∷ l) h a = (h fs a.0, all_map P Q l h a.1)

among_none : (x : List ℕ) (l : List (List Feature)) → All (λ fs. same_bytes x (configuration_of fs) ≡ false) l → read_among x l ≡ None
unfolding All read_among
among_none x [] a = refl
among_none x (fs ∷ l) a = rw a.0 (among_none x l a.1)

-- those of which something is read are one of them
among-sent :
    (x : List ℕ) (l : List (List Feature)) → All (λ fs. Sent (configuration_of fs) (reading fs)) l → (r : Reading) → read_among x l ≡ Some r
    → Sent x r
unfolding All read_among
among-sent x [] a r e = absurd (none-some e)
among-sent x (fs ∷ l) a r e =
    by_cases (same_bytes x (configuration_of fs))
    (λ t.
    let q : reading fs ≡ r = some_equal (rw t at e) in
    subst (λ y. Sent y r) (sym (same_equal x (configuration_of fs) t)) (subst (Sent (configuration_of fs)) q a.0))
    (λ t. among-sent x l a.1 r (rw t at e))

pub only_sent : (x : List ℕ) (r : Reading) → read_reply x ≡ Some r → Sent x r
unfolding read_reply
only_sent x r e = among-sent x possible sent-possible r e

-- the code's three cases: the reply to a request, by its first feature, or neither
pub read_answer : (x : List ℕ) (r s : ℕ) → same_bytes x (configuration_bytes r s) ≡ true → read_reply x ≡ Some (reading (selected r s))
read_answer x r s t = ap read_reply (same_equal x (configuration_bytes r s) t) ∙ read_back r s

module _ (x : List ℕ) (one : same_bytes x (configuration_bytes 2 (first_feature x)) ≡ false) (all : same_bytes x (configuration_bytes 0 (first_feature x)) ≡ false) where
  -- the bytes of a reply that its first feature says are no others
  other : (r : ℕ) (fs : List Feature) → same_bytes x (configuration_bytes r (first_feature x)) ≡ false → selected r (first_feature (configuration_of fs)) ≡ fs → same_bytes x (configuration_of fs) ≡ false
  unfolding configuration_bytes
  other r fs h e =
      by_cases (same_bytes x (configuration_of fs))
      (λ t.
      let q = same_equal x (configuration_of fs) t in
      let w : selected r (first_feature x) ≡ fs = ap (λ y. selected r (first_feature y)) q ∙ e in
      absurd (false≢true (sym (rw w at h) ∙ t)))
      (λ t. t)

  pub read-neither : read_reply x ≡ None
  unfolding read_reply
  read-neither =
      among_none x possible
      (all_map _ (λ fs. same_bytes x (configuration_of fs) ≡ false) possible (λ fs h. ⊎_elim (other 2 fs one) (other 0 fs all) h) first_says)

-- what the code makes of a reply that may be the one to a request, and of the two requests in turn
abbrev pub answered : List ℕ → ℕ → ℕ → Option Reading
answered x r s = cond (same_bytes x (configuration_bytes r s)) (Some (reading (selected r s))) None

pub read-one : (x : List ℕ) → same_bytes x (configuration_bytes 2 (first_feature x)) ≡ true → answered x 2 (first_feature x) ≡ read_reply x
read-one x t = rw t (sym (read_answer x 2 (first_feature x) t))

pub read-all : (x : List ℕ) → same_bytes x (configuration_bytes 2 (first_feature x)) ≡ false → answered x 0 (first_feature x) ≡ read_reply x
read-all x f =
    by_cases (same_bytes x (configuration_bytes 0 (first_feature x)))
    (λ t. rw t (sym (read_answer x 0 (first_feature x) t)))
    (λ t. rw t (sym (read-neither x f t)))

-- the comparison from byte to byte: no user, a law by itself
module _ (x y : List ℕ) (i : ℕ) (size : length x ≡ length y) where
  split : i < length x → same_bytes (drop i x) (drop i y) ≡ (eqb (get_or x i 0) (get_or y i 0) && same_bytes (drop (i + 1) x) (drop (i + 1) y))
  unfolding same_bytes
  split h = rw (add-one, drop-cons x i 0 h, drop-cons y i 0 (omega (arith, size)))

  pub same-on : i < length x → get_or x i 0 ≡ get_or y i 0 → same_bytes (drop i x) (drop i y) ≡ same_bytes (drop (i + 1) x) (drop (i + 1) y)
  same-on h e = split h ∙ rw (eq-eqb (get_or x i 0) (get_or y i 0) e)

  pub same-off : i < length x → (get_or x i 0 ≡ get_or y i 0 → ⊥) → same_bytes (drop i x) (drop i y) ≡ false
  same-off h e = split h ∙ rw (ne_eqb (get_or x i 0) (get_or y i 0) e)

  pub same_end : length x ≤ i → same_bytes (drop i x) (drop i y) ≡ true
  unfolding same_bytes
  same_end h = rw (drop_of_length-le x {i = i} h, drop_of_length-le y {i = i} (omega (arith, size)))

-- a listing's slice is the reply, so that `!=` says whether bytes differ from that
listing_bytes : (x : List ℕ) (l : Listing) → l ≡ listing x → take l.length l.bytes ≡ x
listing_bytes x l e =
    let size : l.length ≡ length x = ap (λ (r : Listing). r.length) e in
    ap (λ (n : ℕ). take n l.bytes) size ∙ (listing-first (length x) x l e (le_refl (length x)) ∙ take-length x)

pub differs :
    (y x : List ℕ) (l : Listing) (z : List ℕ) {b : Bool} → l ≡ listing x → z ≡ take l.length l.bytes → b ≡ not (pointwise eqb y z)
    → b ≡ not (same_bytes y x)
differs y x l z e taken r = r ∙ ap not (ap (pointwise eqb y) (taken ∙ listing_bytes x l e) ∙ same_pointwise y x)

-- there are ten features at the most
few : All (λ fs. length fs ≤ 10) possible
unfolding All possible ends ones features
few = (omega arith, (omega arith, (omega arith, (omega arith, (omega arith, (omega arith, (omega arith, (omega arith, (omega arith, (omega arith, (omega arith, (omega arith, (omega arith, (omega arith, (omega arith, (omega arith, (omega arith, (omega arith, (omega arith, (omega arith, (omega arith, tt)))))))))))))))))))))

pub count_most : (x : List ℕ) (r : Reading) → read_reply x ≡ Some r → r.features.count ≤ 10
count_most x r e =
    let s = only_sent x r e in
    rw s.told (all-selected (λ fs. length fs ≤ 10) few s.request_type s.start)
