-- The whole reply of GET CONFIGURATION.
use Rattle.std.specs.Prelude.{ℕ, ◌+◌, ◌-◌, List, ◌++◌, length, replicate}
use Rattle.features.specs.Types.{Feature, Listing, Asked}
use Rattle.features.specs.Bytes.{bytes16, bytes32}
use Rattle.features.specs.Feature.{profile, descriptors, selected, numbers}

-- the reply with some features: the length of all that follows it (never cut), two bytes of zeros, the current profile, and a descriptor for
-- each feature
abbrev pub configuration_of : List Feature → List ℕ
configuration_of fs = bytes32 (4 + length (descriptors fs)) ++ bytes16 0 ++ bytes16 profile ++ descriptors fs

-- the reply to a request type and a starting feature
unfoldable pub configuration_bytes : ℕ → ℕ → List ℕ
configuration_bytes request_type start = configuration_of (selected request_type start)

-- it as the code holds it, zeros after it
abbrev pub listing : List ℕ → Listing
listing x = record { bytes = x ++ replicate (128 - length x) 0; length = length x }

-- and the numbers of features, zeros after them
abbrev pub asked_of : List Feature → Asked
asked_of fs = record { numbers = numbers fs ++ replicate (10 - length fs) 0; count = length fs }
