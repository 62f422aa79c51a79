-- The image of a disc state: words of 32 bits. C, finalized, key, ASC, ASCQ, pending count, its fragment, then six words a record.
use Rattle.std.specs.Prelude.{ℕ, zero, suc, ◌+◌, ◌*◌, ◌<◌, ◌≡◌, Bool, true, cond, ◌&&◌, List, [], ◌∷◌, ◌++◌, length, get_or, drop, eqb, ltb}
use Rattle.std.specs.Simd.{first_chunks}
use Rattle.fragments.specs.Address.{block}
use Rattle.protocol.specs.Answer.{sense}
use Rattle.fragments.specs.List.{limit}
use Rattle.gladhamre.specs.Types.{Kind, Reserved, Appended, Fragment, Disc}

-- seven words of the head, and six a record
abbrev pub image_length : ℕ
image_length = 7 + 6 * limit

-- 0 for no and for a reserved fragment, 1 for yes and for an appended one
abbrev pub flag_word : Bool → ℕ
flag_word b = cond b 1 0

abbrev pub kind_word : Kind → ℕ
kind_word Reserved = 0
kind_word Appended = 1

-- session, start, L, W, F, kind
abbrev pub record_words : Fragment → List ℕ
record_words f = f.session ∷ f.start.0 ∷ f.length ∷ f.recorded ∷ f.zeroed ∷ kind_word f.kind ∷ []

unfoldable pub list_words : List Fragment → List ℕ
list_words [] = []
list_words (f ∷ fs) = record_words f ++ list_words fs

abbrev pub head_words : Disc → List ℕ
head_words d =
    d.capacity ∷ flag_word d.finalized ∷ d.sense.key ∷ d.sense.asc ∷ d.sense.ascq ∷ d.pending ∷ d.owner ∷ []

-- the image of a state
unfoldable pub encode : Disc → List ℕ
encode d = head_words d ++ list_words d.fragments

-- the word at an index
abbrev pub word : List ℕ → ℕ → ℕ
word w i = get_or w i 0

-- the record that six words stand for
abbrev pub kind_of : ℕ → Kind
kind_of n = cond (eqb n 1) Appended Reserved

abbrev pub record_of : List ℕ → Fragment
record_of w =
    record {
      session = word w 0;
      start = block (word w 1);
      length = word w 2;
      recorded = word w 3;
      zeroed = word w 4;
      kind = kind_of (word w 5);
    }

-- the words of each record
unfoldable pub records_of : List ℕ → List (List ℕ)
records_of w = first_chunks 6 limit (drop 7 w)

-- n records
unfoldable pub list_of : ℕ → List ℕ → List Fragment
list_of zero w = []
list_of (suc n) w = record_of w ∷ list_of n (drop 6 w)

-- the state that an image stands for
unfoldable pub decode : List ℕ → Disc
decode w =
    record {
      capacity = word w 0;
      finalized = eqb (word w 1) 1;
      sense = sense (word w 2) (word w 3) (word w 4);
      pending = word w 5;
      owner = word w 6;
      fragments = list_of limit (drop 7 w);
    }

-- words that are a state's: an image of the right length, flags and kinds of 0 or 1, bytes below 256
abbrev pub record_fits : List ℕ → Bool
record_fits w = ltb (word w 0) 256 && ltb (word w 5) 2

unfoldable pub list_fits : ℕ → List ℕ → Bool
list_fits zero w = true
list_fits (suc n) w = record_fits w && list_fits n (drop 6 w)

abbrev pub head_fits : List ℕ → Bool
head_fits w =
    ltb (word w 1) 2 && ltb (word w 2) 256 && ltb (word w 3) 256 && ltb (word w 4) 256 && ltb (word w 5) 256 && ltb (word w 6) 256

unfoldable pub is_state : List ℕ → Bool
is_state w = eqb (length w) image_length && head_fits w && list_fits limit (drop 7 w)

-- the same as facts on numbers, which the code that reads a state asks
abbrev pub StateWords : List ℕ → Type 0
StateWords w =
    (length w ≡ image_length) × (word w 1 < 2) × (word w 2 < 256) × (word w 3 < 256) × (word w 4 < 256) × (word w 5 < 256) × (word w 6 < 256)
    × (list_fits limit (drop 7 w) ≡ true)
