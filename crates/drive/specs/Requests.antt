-- A WRITE and a READ as requests, each of either form: 2Ah or AAh, 28h or A8h.
use Rattle.std.specs.Prelude.{ℕ, ◌*◌, ◌≤◌, ◌≡◌, length}
use Rattle.protocol.specs.Command.{decode}
use Rattle.drive.specs.Types.{Lba, Read, Write}
use Rattle.drive.specs.Step.{Request}

-- the request is a WRITE of n sectors at an address: a command block of 12 bytes, and data of 2,048 bytes a sector
pub record WriteOf (q : Request) (a : Lba) (n : ℕ) : Type 0 where
  pub cdb : length q.cdb ≡ 12
  pub command : decode q.cdb ≡ Write a n
  pub payload : length q.payload ≡ 2048 * n

-- the request is a READ of n sectors from an address on: a command block of 12 bytes, no data, and room for the reply
pub record ReadOf (q : Request) (a : Lba) (n : ℕ) : Type 0 where
  pub cdb : length q.cdb ≡ 12
  pub command : decode q.cdb ≡ Read a n
  pub payload : length q.payload ≡ 0
  pub room : 2048 * n ≤ length q.buffer
