-- An entry of the table of contents (source document 000, its Table 19).
use Rattle.std.specs.Prelude.{ℕ, ◌+◌, ◌/◌, ◌%◌, min, cond, List, [], ◌∷◌, eqb}
use Rattle.contents.specs.Types.{Lba}
use Rattle.features.specs.Bytes.{bytes32}

-- the address whose time is 255:59:74, the last one that three bytes hold
abbrev pub last_timed : ℕ
last_timed = 1151849

-- an address as a time: minutes, seconds, and frames of which a second has 75; address 0 has the time 00:02:00, and one past the last time
-- has that one
abbrev pub time_bytes : ℕ → List ℕ
time_bytes a = let frames = min a last_timed + 150 in 0 ∷ (frames / 4500) ∷ (frames / 75 % 60) ∷ (frames % 75) ∷ []

-- an address as a number, or with the time bit set as a time
abbrev pub address_bytes : ℕ → Lba → List ℕ
address_bytes time a = cond (eqb time 0) (bytes32 a.0) (time_bytes a.0)

-- an entry: ADR 1 and CTL 4, as source document 001 has them for data, a session's number, and an address
abbrev pub entry : ℕ → ℕ → Lba → List ℕ
entry time number a = 0 ∷ 0x14 ∷ number ∷ 0 ∷ address_bytes time a
