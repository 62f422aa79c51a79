-- The reader's C face: what is read goes into words that the caller lends.
use Rattle.std.specs.Prelude.{ℕ, cond, not, ◌≡◌, List, ◌∷◌, length, eqb}
use Rattle.std.specs.Option.{is_some, unwrap_or, option_map}
use Rattle.configuration.specs.Types.{Reading}
use Rattle.configuration.specs.Reading.{read_reply}

-- the profile, the number of features, and their numbers
abbrev pub words_of : Reading → List ℕ
words_of r = r.profile ∷ r.features.count ∷ r.features.numbers

-- the number that is returned: 2 where there are not twelve words, else 1 where the reply is refused, else 0
unfoldable pub face_number : List ℕ → List ℕ → ℕ
face_number reply words = cond (not (eqb (length words) 12)) 2 (cond (is_some (read_reply reply)) 0 1)

-- and the words afterwards: those of a refused call stay
unfoldable pub face_words : List ℕ → List ℕ → List ℕ
face_words reply words = cond (eqb (face_number reply words) 0) (unwrap_or (option_map words_of (read_reply reply)) words) words

-- the promise of the C face
pub record Faced (reply words : List ℕ) (n : ℕ) (after : List ℕ) : Type 0 where
  pub number : n ≡ face_number reply words
  pub written : after ≡ face_words reply words
