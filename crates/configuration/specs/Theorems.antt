-- What holds of the reader and the drive's replies. Both are proved in proofs/Laws/Theorems.
use Rattle.std.specs.Prelude.{ℕ, ◌≤◌, ◌≡◌, List, Some}
use Rattle.features.specs.Feature.{selected}
use Rattle.features.specs.Configuration.{configuration_bytes}
use Rattle.configuration.specs.Types.{Reading}
use Rattle.configuration.specs.Reading.{reading, read_reply}

-- each uncut reply, for each request type and starting feature, is read back as its profile and its features
abbrev pub ReadBack : Type 0
ReadBack = (request_type start : ℕ) → read_reply (configuration_bytes request_type start) ≡ Some (reading (selected request_type start))

-- a reply that the drive can send, and what is read of it
pub record Sent (x : List ℕ) (r : Reading) : Type 0 where
  pub request_type : ℕ
  pub start : ℕ
  pub served : request_type ≤ 2
  pub fits : start ≤ 0xFFFF
  pub reply : x ≡ configuration_bytes request_type start
  pub told : r ≡ reading (selected request_type start)

-- and whatever something is read of is such a reply
abbrev pub OnlySent : Type 0
OnlySent = (bytes : List ℕ) (r : Reading) → read_reply bytes ≡ Some r → Sent bytes r
