-- What is sent of a reply.
use Prim.Native.Nat.{ℕ, ◌≤◌, min}
use mathlib.Core.Path.{◌≡◌}
use native.Mathlib.Omega.{arith}
use lib.ListN.{length}
use lib.Seq.{take_all}
use Rattle.features.specs.Configuration.{configuration_bytes}
use Rattle.protocol.specs.Reply.{configuration_reply, said, reply_bytes}

-- with an allocation length that is long enough GET CONFIGURATION's is sent whole
pub configuration_uncut :
    (t s n : ℕ) → length (configuration_bytes t s) ≤ n → reply_bytes (configuration_reply t s n) ≡ configuration_bytes t s
unfolding reply_bytes said
configuration_uncut t s n h = take_all (min (length (configuration_bytes t s)) n) (configuration_bytes t s) (omega (arith, h))
