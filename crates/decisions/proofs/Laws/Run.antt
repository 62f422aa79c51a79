-- Sectors that a buffer has and does not have; transfers that send nothing.
use Prim.Native.Nat.{ℕ, ◌+◌, ◌*◌, ◌/◌, ◌≤◌, ◌<◌}
use mathlib.Core.Path.{◌≡◌, refl}
use mathlib.Core.Bool.{true, false}
use mathlib.Core.List.{List, [], ◌∷◌}
use native.Mathlib.Omega.{arith}
use borrow.Author.Tests.{lt-ltb, le-ltb}
use lib.Dec.{ltb}
use lib.ListN.{length}
use types.Run.{OneOf, miss}
use denote.Enum.Declared.{tag_of}
use Rattle.decisions.specs.contracts.plan.Transfer as transfer
use Rattle.decisions.specs.Types.{Transfer, Nothing, Send, Gather, Fill}
use Rattle.decisions.specs.Run.{stretch, stretch_within, sent_within, pending_within}

-- what is sent of a buffer that ends before the last sector, and of one that does not
pub stretch_outside : (i n : ℕ) (bytes : List ℕ) → length bytes / 2048 < i + n → [] ≡ stretch_within i n bytes
stretch_outside i n bytes h =
    let t : ltb (length bytes) (2048 * (i + n)) ≡ true = lt-ltb (length bytes) (2048 * (i + n)) (omega (arith, h)) in
    rw t

pub stretch_inside : (i n : ℕ) (bytes : List ℕ) → i + n ≤ length bytes / 2048 → stretch i n bytes ≡ stretch_within i n bytes
stretch_inside i n bytes h =
    let t : ltb (length bytes) (2048 * (i + n)) ≡ false = le-ltb (length bytes) (2048 * (i + n)) (omega (arith, h)) in
    rw t

-- transfers that send nothing, by their places among the variants
pub no_sectors :
    (t : Transfer) (bytes : List ℕ) → OneOf (0 ∷ 2 ∷ 3 ∷ []) (tag_of transfer.the_type t)
    → (sent_within t bytes ≡ []) × (pending_within t bytes ≡ [])
unfolding sent_within pending_within
no_sectors Nothing bytes h = (refl, refl)
no_sectors (Send a n i k) bytes h = absurd (miss (0 ∷ 2 ∷ 3 ∷ []) 1 tt h)
no_sectors (Gather b p n) bytes h = (refl, refl)
no_sectors (Fill b n) bytes h = (refl, refl)
