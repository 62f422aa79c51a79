-- Block numbers and sector addresses, and the factor 16 between them.
use Rattle.std.specs.Prelude.{ℕ, ◌+◌, ◌-◌, ◌*◌, ◌/◌, ◌%◌, min, max, Bool, ltb}
use Rattle.fragments.specs.Types.{Block, WideBlock, Lba}

-- the sectors of so many blocks, sixteen each
abbrev pub sectors_in : ℕ → ℕ
sectors_in blocks = 16 * blocks

-- the blocks that so many sectors fill, and the sectors left over
abbrev pub whole_blocks : ℕ → ℕ
whole_blocks sectors = sectors / 16

abbrev pub left_over : ℕ → ℕ
left_over sectors = sectors % 16

-- the sectors that a block lacks which has so many
abbrev pub missing : ℕ → ℕ
missing sectors = 16 - sectors

abbrev pub block : ℕ → Block
block n = record { 0 = n }

-- the same number where it may be past every disc
abbrev pub wide : Block → WideBlock
wide b = record { 0 = b.0 }

abbrev pub lba : ℕ → Lba
lba n = record { 0 = n }

-- block k begins at sector 16k
abbrev pub first_sector : Block → Lba
first_sector b = lba (sectors_in b.0)

-- n sectors from an address on go past another address
abbrev pub passes : Lba → ℕ → Lba → Bool
passes a n end = ltb end.0 (a.0 + n)

-- of n sectors from an address on, how many lie before another address
abbrev pub sectors_before : Lba → ℕ → Lba → ℕ
sectors_before a n end = min n (end.0 - a.0)

-- the address that lies further on
abbrev pub later : Lba → Lba → Lba
later a b = lba (max a.0 b.0)
