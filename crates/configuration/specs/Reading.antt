-- What is read of a reply: the profile and the features in order, or nothing.
use Rattle.std.specs.Prelude.{ℕ, Bool, true, false, cond, ◌&&◌, List, [], ◌∷◌, ◌++◌, eqb, Option, None, Some}
use Rattle.features.specs.Feature.{profile, features}
use Rattle.features.specs.Configuration.{configuration_of, asked_of}
use Rattle.configuration.specs.Types.{Feature, Reading}

-- what is read of a reply with some features
abbrev pub reading : List Feature → Reading
reading fs = record { profile = profile; features = asked_of fs }

-- the features that an uncut reply can have: those from each place of the table on, none too, and each by itself
unfoldable pub ends : List Feature → List (List Feature)
ends [] = [] ∷ []
ends (f ∷ fs) = (f ∷ fs) ∷ ends fs

unfoldable pub ones : List Feature → List (List Feature)
ones [] = []
ones (f ∷ fs) = (f ∷ []) ∷ ones fs

unfoldable pub possible : List (List Feature)
possible = ends features ++ ones features

unfoldable pub same_bytes : List ℕ → List ℕ → Bool
same_bytes [] [] = true
same_bytes [] (y ∷ ys) = false
same_bytes (x ∷ xs) [] = false
same_bytes (x ∷ xs) (y ∷ ys) = eqb x y && same_bytes xs ys

-- the bytes must be the whole reply with one of these: every byte counts; else nothing is read
unfoldable pub read_among : List ℕ → List (List Feature) → Option Reading
read_among bytes [] = None
read_among bytes (fs ∷ others) = cond (same_bytes bytes (configuration_of fs)) (Some (reading fs)) (read_among bytes others)

unfoldable pub read_reply : List ℕ → Option Reading
read_reply bytes = read_among bytes possible
