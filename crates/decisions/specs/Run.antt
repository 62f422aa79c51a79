-- What a decided transfer sends: recorded sectors of the medium, then pending ones of the pending buffer.
use Rattle.std.specs.Prelude.{ℕ, ◌+◌, ◌*◌, cond, List, [], length, take, drop, ltb}
use Rattle.decisions.specs.Types.{Transfer, Nothing, Send, Gather, Fill}

-- n sectors of a buffer from its sector i on
abbrev pub stretch : ℕ → ℕ → List ℕ → List ℕ
stretch i n bytes = take (2048 * n) (drop (2048 * i) bytes)

-- the same of a buffer of any length: nothing where the sectors do not lie in it
abbrev pub stretch_within : ℕ → ℕ → List ℕ → List ℕ
stretch_within i n bytes = cond (ltb (length bytes) (2048 * (i + n))) [] (stretch i n bytes)

-- what a transfer sends of the medium
unfoldable pub sent : Transfer → List ℕ → List ℕ
sent Nothing medium = []
sent (Send a n i k) medium = stretch a.0 n medium
sent (Gather b p n) medium = []
sent (Fill b n) medium = []

-- of a medium of any length
unfoldable pub sent_within : Transfer → List ℕ → List ℕ
sent_within Nothing medium = []
sent_within (Send a n i k) medium = stretch_within a.0 n medium
sent_within (Gather b p n) medium = []
sent_within (Fill b n) medium = []

-- and of a pending buffer of any length
unfoldable pub pending_within : Transfer → List ℕ → List ℕ
pending_within Nothing pending = []
pending_within (Send a n i k) pending = stretch_within i k pending
pending_within (Gather b p n) pending = []
pending_within (Fill b n) pending = []
