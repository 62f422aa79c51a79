-- What the reader makes of single replies, computed, and what its two theorems give: a weaker one would not.
use Rattle.std.specs.Prelude.{ℕ, ◌+◌, ◌≤◌, ◌≡◌, refl, Bool, false, cond, ◌||◌, List, [], ◌∷◌, ◌++◌, map, length, take, get_or, replicate, Some}
use Rattle.std.specs.Option.{is_some}
use Rattle.std.proofs.Common.{ap}
use Rattle.features.specs.Feature.{features, descriptors, asked, numbers}
use Rattle.features.specs.Configuration.{configuration_of, configuration_bytes}
use Rattle.configuration.specs.Types.{Reading}
use Rattle.configuration.specs.Reading.{ends, ones, possible, same_bytes, read_among, read_reply}
use Rattle.configuration.specs.Theorems.{ReadBack, OnlySent}

-- what is read, by hand
abbrev told : ℕ → List ℕ → Reading
told p ns = record { profile = p; features = record { numbers = ns ++ replicate 7 0; count = length ns } }

-- the three features from 0100h on, 32 bytes
abbrev three : List ℕ
three =
    0 ∷ 0 ∷ 0 ∷ 0x1C ∷ 0 ∷ 0 ∷ 0 ∷ 0x1B
    ∷ 0x01 ∷ 0x00 ∷ 1 ∷ 4 ∷ 0 ∷ 0 ∷ 0 ∷ 0
    ∷ 0x01 ∷ 0x05 ∷ 1 ∷ 4 ∷ 0 ∷ 0 ∷ 0 ∷ 0
    ∷ 0x01 ∷ 0x07 ∷ 1 ∷ 4 ∷ 0 ∷ 0 ∷ 0 ∷ 0 ∷ []

pub read-three : read_reply three ≡ Some (told 0x001B (0x0100 ∷ 0x0105 ∷ 0x0107 ∷ []))
unfolding read_reply read_among same_bytes possible ends features descriptors numbers
read-three = refl

-- refused: cut by a byte, and a byte longer; a length that does not fit; another profile; two features in the wrong order; one that is missing
-- between others; the version of another feature; the write bit of DVD+R not set; nothing at all
abbrev refusals : List (List ℕ)
refusals =
    take 31 three
    ∷ (three ++ (0 ∷ []))
    ∷ (0 ∷ 0 ∷ 0 ∷ 0x08 ∷ 0 ∷ 0 ∷ 0 ∷ 0x1B ∷ [])
    ∷ (0 ∷ 0 ∷ 0 ∷ 0x04 ∷ 0 ∷ 0 ∷ 0 ∷ 0x10 ∷ [])
    ∷ (0 ∷ 0 ∷ 0 ∷ 0x14 ∷ 0 ∷ 0 ∷ 0 ∷ 0x1B ∷ 1 ∷ 7 ∷ 1 ∷ 4 ∷ 0 ∷ 0 ∷ 0 ∷ 0 ∷ 1 ∷ 5 ∷ 1 ∷ 4 ∷ 0 ∷ 0 ∷ 0 ∷ 0 ∷ [])
    ∷ (0 ∷ 0 ∷ 0 ∷ 0x14 ∷ 0 ∷ 0 ∷ 0 ∷ 0x1B ∷ 1 ∷ 0 ∷ 1 ∷ 4 ∷ 0 ∷ 0 ∷ 0 ∷ 0 ∷ 1 ∷ 7 ∷ 1 ∷ 4 ∷ 0 ∷ 0 ∷ 0 ∷ 0 ∷ [])
    ∷ (0 ∷ 0 ∷ 0 ∷ 0x0C ∷ 0 ∷ 0 ∷ 0 ∷ 0x1B ∷ 0 ∷ 0x2B ∷ 1 ∷ 4 ∷ 1 ∷ 0 ∷ 0 ∷ 0 ∷ [])
    ∷ (0 ∷ 0 ∷ 0 ∷ 0x0C ∷ 0 ∷ 0 ∷ 0 ∷ 0x1B ∷ 0 ∷ 0x2B ∷ 5 ∷ 4 ∷ 0 ∷ 0 ∷ 0 ∷ 0 ∷ [])
    ∷ [] ∷ []

pub refused_all : map (λ (x : List ℕ). is_some (read_reply x)) refusals ≡ replicate 9 false
unfolding read_reply read_among same_bytes possible ends ones features descriptors
refused_all = refl

-- there are twenty replies: 21 ways to make one, and 0107h by itself is also an end
unfoldable pub among : List ℕ → List (List ℕ) → Bool
among x [] = false
among x (y ∷ ys) = same_bytes x y || among x ys

unfoldable pub different : List (List ℕ) → ℕ
different [] = 0
different (x ∷ xs) = cond (among x xs) (different xs) (1 + different xs)

pub twenty : (different (map configuration_of possible) ≡ 20) × (length possible ≡ 21)
unfolding different among same_bytes possible ends ones features descriptors
twenty = (refl, refl)

-- drawn from the theorems: a reply of type 1 read back; of whatever is accepted a byte, the profile that is told, and a request that the drive
-- serves
pub drawn_back : ReadBack → read_reply (configuration_bytes 1 0x0100) ≡ Some (told 0x001B (0x0100 ∷ 0x0105 ∷ 0x0107 ∷ []))
unfolding features asked numbers
drawn_back back = back 1 0x0100

pub drawn_only : OnlySent → (x : List ℕ) (r : Reading) → read_reply x ≡ Some r → get_or x 7 0 ≡ 0x1B
unfolding configuration_bytes
drawn_only only x r e = ap (λ (y : List ℕ). get_or y 7 0) (only x r e).reply

pub drawn-told : OnlySent → (x : List ℕ) (r : Reading) → read_reply x ≡ Some r → r.profile ≡ 0x001B
drawn-told only x r e = ap (λ (q : Reading). q.profile) (only x r e).told

pub drawn-served :
    (only : OnlySent) (x : List ℕ) (r : Reading) (e : read_reply x ≡ Some r) → ((only x r e).request_type ≤ 2) × ((only x r e).start ≤ 0xFFFF)
drawn-served only x r e = ((only x r e).served, (only x r e).fits)
