-- Which WRITEs there are: what a command block of bytes names, and the command block of an address and a length.
use Prim.Native.Nat.{ℕ, zero, suc, ◌+◌, ◌*◌, ◌/◌, ◌%◌, ◌≤◌, ◌<◌}
use mathlib.Core.Path.{◌≡◌, refl, ap, ◌∙◌, subst}
use mathlib.Core.Logic.{◌⊎◌}
use mathlib.Core.List.{List, [], ◌∷◌, ◌++◌}
use native.Mathlib.Omega.{arith}
use lib.ListN.{length}
use Rattle.fragments.specs.Address.{lba}
use Rattle.protocol.specs.Command.{byte_at, word32, decode}
use Rattle.protocol.specs.Reports.{low, high, bytes32}
use Rattle.drive.specs.Step.{request}
use Rattle.drive.specs.Requests.{WriteOf}
use Rattle.history.specs.Types.{Lba, Command, TestUnitReady, RequestSense, Inquiry, ReadCapacity, Read, Write, SynchronizeCache, ReserveTrack, CloseTrackSession, GetConfiguration, ReadDiscInformation, ReadTrackInformation, Unlisted}
use Rattle.history.specs.Forms.{Form, ten, twelve, write_opcode, longest, addresses, fields, write_cdb, IsBytes, OfForm, WriteForms}

-- a command block that is a WRITE's has one of the two forms; nothing is said of any other command
unfoldable HasForm : List ℕ → Command → Type 0
HasForm b (Write a n) = OfForm ten b a n ⊎ OfForm twelve b a n
HasForm b TestUnitReady = Unit {0}
HasForm b (RequestSense allocation) = Unit {0}
HasForm b (Inquiry pageBit allocation) = Unit {0}
HasForm b ReadCapacity = Unit {0}
HasForm b (Read a n) = Unit {0}
HasForm b SynchronizeCache = Unit {0}
HasForm b (ReserveTrack size) = Unit {0}
HasForm b (CloseTrackSession function n) = Unit {0}
HasForm b (GetConfiguration request_type start allocation) = Unit {0}
HasForm b (ReadDiscInformation dataType allocation) = Unit {0}
HasForm b (ReadTrackInformation addressType n allocation) = Unit {0}
HasForm b Unlisted = Unit {0}

has_form : (b : List ℕ) → IsBytes b → HasForm b (decode b)
unfolding decode HasForm write_opcode longest
has_form b h = grind arith

only_forms : (b : List ℕ) → IsBytes b → (a : Lba) (n : ℕ) → decode b ≡ Write a n → OfForm ten b a n ⊎ OfForm twelve b a n
unfolding HasForm
only_forms b h a n e = subst (HasForm b) e (has_form b h)

-- a number by its four bytes
of_four : (a : ℕ) → a < addresses → 0x10000 * (0x100 * (a / 0x1000000 % 0x100) + a / 0x10000 % 0x100) + (0x100 * (a / 0x100 % 0x100) + a % 0x100) ≡ a
of_four a h = grind arith

-- a command block names its address and its length
pub write_cdb_lem :
    (f : Form) (a n : ℕ) → a < addresses → n ≤ longest f → (x : List ℕ) → length x ≡ 2048 * n → WriteOf (request (write_cdb f a n) x []) (lba a) n
unfolding decode write_opcode fields longest
write_cdb_lem ten a n near few x h =
    let count : 0x100 * (n / 0x100 % 0x100) + n % 0x100 ≡ n = omega (arith, few) in
    record {
      cdb = refl;
      command = ap (λ (k : ℕ). Write (lba k) (0x100 * high n + low n)) (of_four a near) ∙ ap (λ (k : ℕ). Write (lba a) k) count;
      payload = h;
    }
write_cdb_lem twelve a n near few x h =
    record {
      cdb = refl;
      command = ap (λ (k : ℕ). Write (lba k) (word32 (bytes32 n) 0)) (of_four a near) ∙ ap (λ (k : ℕ). Write (lba a) k) (of_four n (omega (arith, few)));
      payload = h;
    }

-- and its numbers are bytes
bytes_none : IsBytes []
bytes_none = record { each = λ i. omega arith }

bytes_more : {x : ℕ} {b : List ℕ} → x < 0x100 → IsBytes b → IsBytes (x ∷ b)
bytes_more {x} {b} h k = record { each = each }
  where
    each : (i : ℕ) → byte_at (x ∷ b) i < 0x100
    each zero = h
    each (suc i) = k.each i

four_more : (n : ℕ) {b : List ℕ} → IsBytes b → IsBytes (bytes32 n ++ b)
four_more n k = grind arith

cdb_bytes : (f : Form) (a n : ℕ) → IsBytes (write_cdb f a n)
unfolding write_opcode fields
cdb_bytes ten a n =
    bytes_more (omega arith) (bytes_more (omega arith) (four_more a (bytes_more (omega arith) (bytes_more (omega arith) (bytes_more (omega arith)
    (bytes_more (omega arith) (bytes_more (omega arith) (bytes_more (omega arith) bytes_none))))))))
cdb_bytes twelve a n =
    bytes_more (omega arith) (bytes_more (omega arith) (four_more a (four_more n (bytes_more (omega arith) (bytes_more (omega arith) bytes_none)))))

-- lengths that both forms name
pub both_name : (f : Form) (n : ℕ) → n ≤ 65535 → n ≤ longest f
unfolding longest
both_name ten n h = h
both_name twelve n h = omega (arith, h)

pub write-forms : WriteForms
write-forms = record { only = only_forms; each = write_cdb_lem; form = λ f a n. refl; bytes = cdb_bytes }
