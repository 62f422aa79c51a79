-- The reports: bounds of the states, and what is free in a fragment.
use Prim.Native.Nat.{ℕ, zero, suc, ◌+◌, ◌-◌, ◌≤◌}
use mathlib.Core.Path.{◌≡◌}
use mathlib.Core.Bool.{Bool, true, false}
use native.Mathlib.Omega.{arith}
use Rattle.reporting.specs.Types.{Disc}
use Rattle.fragments.specs.Address.{first_sector}
use Rattle.fragments.specs.Fragment.{end, complete}
use Rattle.disc.specs.Records.{next_writable, used, numbered}
use Rattle.disc.specs.Rules.{Sound}
use Rattle.reporting.specs.Reports.{last_session, status_of, free_sectors}
use Rattle.disc.proofs.Laws.Sound.{writable-within}

-- a number that a contract equates with one of the states
pub last_session_most : {r : ℕ} (finalized only : Bool) → r ≡ last_session finalized only → r ≤ 3
last_session_most true only e = omega (arith, e)
last_session_most false true e = omega (arith, e)
last_session_most false false e = omega (arith, e)

pub status_most : {r : ℕ} (finalized blank : Bool) → r ≡ status_of finalized blank → r ≤ 2
status_most true blank e = omega (arith, e)
status_most false true e = omega (arith, e)
status_most false false e = omega (arith, e)

-- an incomplete fragment's next writable address is not after its end
writable_end :
    (d : Disc) (n : ℕ) → Sound d → 1 ≤ n → n ≤ used d → complete (numbered d n) ≡ false
    → (next_writable d n (numbered d n)).0 ≤ (first_sector (end (numbered d n))).0
writable_end d zero s h l e = absurd (omega arith)
writable_end d (suc i) s h l e =
    let p : suc i - 1 ≡ i = omega arith in
    rw p (omega (arith, (writable-within d s i (omega arith) (rw p at e)).1))

-- the free sectors of an incomplete fragment are those from its next writable address to its end
pub free_reaches :
    (d : Disc) (n : ℕ) → Sound d → 1 ≤ n → n ≤ used d → complete (numbered d n) ≡ false
    → (next_writable d n (numbered d n)).0 + free_sectors d n ≡ (first_sector (end (numbered d n))).0
unfolding free_sectors
free_reaches d n s h l e = rw e (omega (arith, writable_end d n s h l e))
