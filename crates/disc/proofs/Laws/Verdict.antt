-- Accepted verdicts by their count.
use Prim.Native.Nat.{ℕ}
use mathlib.Core.Path.{◌≡◌, sym, ap}
use native.Mathlib.Nat.{sub_self}
use Rattle.disc.specs.Types.{Disc, Reply, Plan}
use Rattle.fragments.specs.List.{sum_recorded}
use Rattle.disc.specs.Verdict.{rise, accepted, accept}

pub accept_count :
    (before after : Disc) (r : Reply) (p : Plan) (n : ℕ) → rise before after ≡ n → accept before after r p ≡ accepted after n r p
unfolding accept
accept_count before after r p n e = ap (λ k. accepted after k r p) e

-- a command that leaves the list as it is records nothing
pub accept_same : (d : Disc) (r : Reply) (p : Plan) → accepted d 0 r p ≡ accept d d r p
accept_same d r p = sym (accept_count d d r p 0 (sub_self (sum_recorded d.fragments)))
