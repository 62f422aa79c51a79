-- What the code tests of an image: records as far as they are in use, and the words after them as zeros. Words that it does not take are
-- refused by L3 all the same: they are no state's, or their list is not sound.
use Rattle.std.specs.Prelude.{ℕ, zero, suc, ◌+◌, ◌*◌, Bool, true, cond, not, ◌&&◌, ◌≡◌, List, [], ◌∷◌, length, drop, eqb, Option, None, Some}
use Rattle.fragments.specs.List.{limit}
use Rattle.gladhamre.specs.Image.{image_length, word, record_fits, head_fits, StateWords}

-- six words are those of a record in use
abbrev pub record_used : List ℕ → Bool
record_used w = record_fits w && not (eqb (word w 2) 0)

-- how many of n records stand before the first one that is not in use, or whose words are no record's
unfoldable pub used_of : ℕ → List ℕ → ℕ
used_of zero w = 0
used_of (suc n) w = cond (record_used w) (suc (used_of n (drop 6 w))) 0

abbrev pub used_in : List ℕ → ℕ
used_in w = used_of limit (drop 7 w)

-- every word is zero
unfoldable pub all_zero : List ℕ → Bool
all_zero [] = true
all_zero (x ∷ w) = eqb x 0 && all_zero w

-- what the words are: a state's with so many records in use and zeros alone after them, or not to be taken
unfoldable pub words_of : List ℕ → Option ℕ
words_of w = cond (eqb (length w) image_length && (head_fits w && all_zero (drop (7 + 6 * used_in w) w))) (Some (used_in w)) None

-- words that are taken, as facts, which the code that reads a state asks
pub record Taken (w : List ℕ) (used : ℕ) : Type 0 where
  pub state : StateWords w
  pub counted : used ≡ used_in w
  pub zeros : all_zero (drop (7 + 6 * used_in w) w) ≡ true
