-- The medium's share of what an accepted READ (28h, A8h) hands out, as a part of the medium; the rest of it is pending. It is decided without the
-- lengths of data, reply and pending buffer, which the lower read never sees: a READ that is refused for those has its run here all the same.
use Rattle.std.specs.Prelude.{ℕ, ◌+◌, ◌*◌, ◌<◌, ◌≡◌, Bool, true, cond, ◌&&◌, List, [], length, eqb}
use Rattle.outcomes.specs.Types.{Lba, Disc, Read}
use Rattle.decisions.specs.Run.{sent}
use Rattle.fragments.specs.Address.{lba}
use Rattle.protocol.specs.Command.{decode}
use Rattle.disc.specs.Records.{is_recorded}
use Rattle.disc.specs.Sound.{allowed_state}
use Rattle.disc.specs.Blank.{in_range}
use Rattle.commands.specs.Judge.{perform}

-- what L1 to L3 test of command block, medium and state: twelve bytes, a capacity in range with a medium of so many whole blocks, a state
-- that is allowed
abbrev pub served : Disc → ℕ → ℕ → Bool
served d cdbLength medium_length =
    eqb cdbLength 12 && in_range d.capacity && eqb medium_length (32768 * d.capacity) && allowed_state d

-- the recorded run that a command block asks for, as a part of the medium: what its plan sends of that. No bytes where all of it is pending,
-- where it asks for none or is refused
unfoldable pub recorded_run : Disc → List ℕ → List ℕ → List ℕ
recorded_run d b medium = cond (served d (length b) (length medium)) (sent (perform d (decode b)).plan.transfer medium) []

-- the promise of the code that hands it out
pub record RunOf (d : Disc) (b medium r : List ℕ) : Type 0 where
  pub stretch : r ≡ recorded_run d b medium
  -- every sector of it is recorded
  pub recorded : (a : Lba) (n : ℕ) → decode b ≡ Read a n → (k : ℕ) → 2048 * k < length r → is_recorded d (lba (a.0 + k)) ≡ true
