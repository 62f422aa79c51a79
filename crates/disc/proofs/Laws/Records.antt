-- A number of the list of records.
use Prim.Native.Nat.{ℕ, ◌≤◌}
use mathlib.Core.Path.{◌≡◌}
use mathlib.Core.Bool.{true}
use native.Mathlib.Omega.{arith}
use Rattle.disc.specs.Types.{Disc}
use Rattle.disc.specs.Records.{used, is_listed}

-- a listed number is that of a record in use
pub listed-number : (d : Disc) (n : ℕ) → is_listed d n ≡ true → (1 ≤ n) × (n ≤ used d)
listed-number d n e = grind arith
