-- The bytes of the reports from the code's stores.
use Prim.Native.Nat.{ℕ, ◌+◌, ◌/◌, ◌%◌, ◌≤◌}
use mathlib.Core.Path.{◌≡◌}
use mathlib.Core.Bool.{Bool, true, false}
use mathlib.Core.List.{List, ◌∷◌}
use native.Mathlib.Omega.{arith}
use lib.ListN.{set, replicate}
use Rattle.fragments.specs.Address.{sectors_in}
use Rattle.protocol.specs.Types.{TrackReport}
use Rattle.protocol.specs.Reports.{low, high, when, flags_of, valid_of, track_bytes}

pub when_most : (b : Bool) (n : ℕ) → when b n ≤ n
when_most true n = omega arith
when_most false n = omega arith

-- four bytes of a number at a time
abbrev put : List ℕ → ℕ → ℕ → List ℕ
put l i n = set (set (set (set l i (n / 0x1000000 % 0x100)) (i + 1) (n / 0x10000 % 0x100)) (i + 2) (high n)) (i + 3) (low n)

pub track_stored :
    (x : TrackReport) {flags valid factor : ℕ} {l₁ l₂ l₃ l₄ l₅ l₆ l₇ l₈ : List ℕ}
    → flags ≡ flags_of x
    → valid ≡ valid_of x
    → l₁ ≡ set (set (0 ∷ 0x22 ∷ 0 ∷ 0 ∷ 0 ∷ 0x04 ∷ flags ∷ valid ∷ replicate 28 0) 2 (low x.number)) 32 (high x.number)
    → l₂ ≡ set (set l₁ 3 (low x.session)) 33 (high x.session)
    → l₃ ≡ put l₂ 8 x.start.0
    → l₄ ≡ put l₃ 12 x.next.0
    → l₅ ≡ put l₄ 16 x.free
    → factor ≡ sectors_in 1
    → l₆ ≡ put l₅ 20 factor
    → l₇ ≡ put l₆ 24 x.size
    → l₈ ≡ put l₇ 28 x.last.0
    → l₈ ≡ track_bytes x
unfolding track_bytes
track_stored x eg ev e₁ e₂ e₃ e₄ e₅ ek e₆ e₇ e₈ = rw (e₈, e₇, e₆, e₅, e₄, e₃, e₂, e₁, ek, ev, eg)
