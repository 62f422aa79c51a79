-- READ (28h, A8h): the decision, and which sectors are sent from where.
use Rattle.std.specs.Prelude.{ℕ, zero, suc, ◌+◌, ◌-◌, Bool, true, cond, ◌&&◌, eqb, ltb}
use Rattle.commands.specs.Types.{Lba, Disc, None, Transfer, Send, Verdict, AddressOutOfRange, BlankCheck}
use Rattle.fragments.specs.Address.{lba, sectors_in, left_over}
use Rattle.disc.specs.Records.{is_recorded, is_readable}
use Rattle.decisions.specs.Plan.{no_plan, plan}
use Rattle.disc.specs.Verdict.{accept, refuse}
use Rattle.protocol.specs.Reply.{no_reply}

-- every one of n sectors from an address on is readable
unfoldable pub all_readable : Disc → Lba → ℕ → Bool
all_readable d a zero = true
all_readable d a (suc n) = is_readable d a && all_readable d (lba (a.0 + 1)) n

-- the medium's share: how many sectors from an address on are recorded, of n at most
unfoldable pub medium_share : Disc → Lba → ℕ → ℕ
medium_share d a zero = 0
medium_share d a (suc n) = cond (is_recorded d a) (1 + medium_share d (lba (a.0 + 1)) n) 0

-- of n readable sectors from an address on, the medium's share comes from the medium; the others are pending, and come from the pending
-- buffer, from the place on that the first of them has in its block
unfoldable pub sending : Disc → Lba → ℕ → Transfer
sending d a n = let m = medium_share d a n in Send a m (left_over (a.0 + m)) (n - m)

-- a length of 0 is accepted wherever it points; then the run must end within the disc, then every sector of it must be readable
unfoldable pub read : Disc → Lba → ℕ → Verdict
read d a n =
    cond (eqb n 0) (accept d d no_reply no_plan)
    (cond (ltb (sectors_in d.capacity) (a.0 + n)) (refuse d AddressOutOfRange)
    (cond (all_readable d a n) (accept d d no_reply (plan None (sending d a n)))
    (refuse d BlankCheck)))
