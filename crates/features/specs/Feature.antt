-- The drive's features, as a table: those of source document 000's Table 5 and, of its Table 3, the feature DVD+R, whose version is the
-- table's and not that of the sentence under it. Fields that are left open there are zero, but for the lengths of the data, which are
-- source document 001's.
use Rattle.std.specs.Prelude.{ℕ, ◌+◌, ◌*◌, ◌<◌, Bool, cond, List, [], ◌∷◌, ◌++◌, take, get_or, eqb, leb}
use Rattle.features.specs.Types.{Feature}
use Rattle.features.specs.Bytes.{bytes16, bytes32}

-- a feature: its number, its version, and the length of its feature dependent data with those, as two numbers of four bytes
abbrev pub feature : ℕ → ℕ → ℕ → ℕ → ℕ → Feature
feature n v size x y = record { number = n; version = v; length = size; first = x; second = y }

-- the current profile: DVD+R
abbrev pub profile : ℕ
profile = 0x001B

-- every feature, in rising order of number: Profile List (DVD+R, which is current, then DVD-ROM, which 000 has
-- such a drive claim too), Core, Morphing, Removable Medium, Random Readable (PP, page present, is set), DVD Read, DVD+R (the write bit is
-- set), Power Management, Time-Out, Real-time Streaming
unfoldable pub features : List Feature
features =
    feature 0x0000 0 8 0x001B0100 0x00100000
    ∷ feature 0x0001 0 8 0x00000000 0x00000000
    ∷ feature 0x0002 0 4 0x00000000 0x00000000
    ∷ feature 0x0003 0 4 0x00000000 0x00000000
    ∷ feature 0x0010 0 8 0x00000000 0x00000100
    ∷ feature 0x001F 0 4 0x00000000 0x00000000
    ∷ feature 0x002B 1 4 0x01000000 0x00000000
    ∷ feature 0x0100 0 4 0x00000000 0x00000000
    ∷ feature 0x0105 0 4 0x00000000 0x00000000
    ∷ feature 0x0107 0 4 0x00000000 0x00000000
    ∷ []

-- the feature at a place of the table; past its end, one of zeros
abbrev pub feature_at : ℕ → Feature
feature_at i = get_or features i (feature 0 0 0 0 0)

-- a feature's descriptor: its number; its version in bits 2 to 5 and, in bit 0, that it is current; the length of the data; the data
abbrev pub whole_descriptor : Feature → List ℕ
whole_descriptor f = bytes16 f.number ++ (4 * f.version + 1) ∷ f.length ∷ bytes32 f.first ++ bytes32 f.second

abbrev pub descriptor : Feature → List ℕ
descriptor f = take (4 + f.length) (whole_descriptor f)

unfoldable pub descriptors : List Feature → List ℕ
descriptors [] = []
descriptors (f ∷ fs) = descriptor f ++ descriptors fs

-- whether a request asks for a feature: type 2 for the one with the starting number, types 0 (all) and 1 (the current ones, as all are) for
-- every one from that number on
abbrev pub is_asked : ℕ → ℕ → Feature → Bool
is_asked request_type start f = cond (eqb request_type 2) (eqb f.number start) (leb start f.number)

-- those of some features that a request asks for
unfoldable pub asked : ℕ → ℕ → List Feature → List Feature
asked request_type start [] = []
asked request_type start (f ∷ fs) = cond (is_asked request_type start f) (f ∷ asked request_type start fs) (asked request_type start fs)

abbrev pub selected : ℕ → ℕ → List Feature
selected request_type start = asked request_type start features

-- the numbers of features
unfoldable pub numbers : List Feature → List ℕ
numbers [] = []
numbers (f ∷ fs) = f.number ∷ numbers fs

-- features in rising order of number: all above a number, and by themselves
unfoldable pub Above : ℕ → List Feature → Type 0
Above n [] = Unit {0}
Above n (f ∷ fs) = (n < f.number) × Above f.number fs

unfoldable pub Rising : List Feature → Type 0
Rising [] = Unit {0}
Rising (f ∷ fs) = Above f.number fs
