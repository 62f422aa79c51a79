-- The two forms of the command blocks of READ and WRITE, and which WRITEs they name.
use Rattle.std.specs.Prelude.{ℕ, ◌*◌, ◌≤◌, ◌<◌, ◌≡◌, ◌⊎◌, List, [], ◌∷◌, ◌++◌, length}
use Rattle.fragments.specs.Address.{lba}
use Rattle.protocol.specs.Command.{byte_at, decode}
use Rattle.protocol.specs.Reports.{low, high, bytes32}
use Rattle.drive.specs.Step.{Request, request}
use Rattle.drive.specs.Requests.{WriteOf}
use Rattle.history.specs.Types.{Lba, Write}

-- READ (10) and WRITE (10), 28h and 2Ah, whose length has two bytes; READ (12) and WRITE (12), A8h and AAh, whose length has four
pub data Form : Type 0 where
  ten : Form
  twelve : Form

unfoldable pub read_opcode : Form → ℕ
read_opcode ten = 0x28
read_opcode twelve = 0xA8

unfoldable pub write_opcode : Form → ℕ
write_opcode ten = 0x2A
write_opcode twelve = 0xAA

-- the most sectors that a command block of the form names
unfoldable pub longest : Form → ℕ
longest ten = 65535
longest twelve = 4294967295

-- one more than the highest address that a command block of either form names
abbrev pub addresses : ℕ
addresses = 0x100000000

-- bytes 1 to 11 for an address and a length
unfoldable pub fields : Form → ℕ → ℕ → List ℕ
fields ten a n = 0 ∷ (bytes32 a ++ (0 ∷ high n ∷ low n ∷ 0 ∷ 0 ∷ 0 ∷ []))
fields twelve a n = 0 ∷ (bytes32 a ++ (bytes32 n ++ (0 ∷ 0 ∷ [])))

-- a READ and a WRITE of n sectors at an address as command blocks of twelve bytes
abbrev pub read_cdb : Form → ℕ → ℕ → List ℕ
read_cdb f a n = read_opcode f ∷ fields f a n

abbrev pub write_cdb : Form → ℕ → ℕ → List ℕ
write_cdb f a n = write_opcode f ∷ fields f a n

-- every number of a list is a byte
pub record IsBytes (b : List ℕ) : Type 0 where
  pub each : (i : ℕ) → byte_at b i < 0x100

-- and so is every number of the command blocks of requests
unfoldable pub AllBytes : List Request → Type 0
AllBytes [] = Unit {0}
AllBytes (q ∷ qs) = IsBytes q.cdb × AllBytes qs

-- a WRITE's command block has this form, and address and length are within what it names
pub record OfForm (f : Form) (b : List ℕ) (a : Lba) (n : ℕ) : Type 0 where
  pub opcode : byte_at b 0 ≡ write_opcode f
  pub address : a.0 < addresses
  pub count : n ≤ longest f

-- of command blocks of bytes:
pub record WriteForms : Type 0 where
  -- a WRITE is 2Ah of up to 65,535 sectors or AAh of up to 4,294,967,295, its address within 32 bits
  pub only : (b : List ℕ) → IsBytes b → (a : Lba) (n : ℕ) → decode b ≡ Write a n → OfForm ten b a n ⊎ OfForm twelve b a n
  -- and each of them there is, of that form
  pub each :
      (f : Form) (a n : ℕ) → a < addresses → n ≤ longest f → (x : List ℕ) → length x ≡ 2048 * n → WriteOf (request (write_cdb f a n) x []) (lba a) n
  pub form : (f : Form) (a n : ℕ) → byte_at (write_cdb f a n) 0 ≡ write_opcode f
  pub bytes : (f : Form) (a n : ℕ) → IsBytes (write_cdb f a n)
