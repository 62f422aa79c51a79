-- A sequence of commands, each on what the last one left. Before any command stale bytes may become anything.
use Rattle.std.specs.Prelude.{ℕ, ◌+◌, ◌*◌, true, ◌≡◌, List, [], ◌∷◌, map, length}
use Rattle.disc.specs.Blank.{in_range, blank}
use Rattle.drive.specs.Step.{Drive, drive, Request, Result, step}
use Rattle.drive.specs.Alike.{Alike}
use Rattle.history.specs.Types.{Answer, Accepted}

-- a start: the blank disc of c blocks, over a medium and a pending buffer of the right lengths that may hold any bytes
pub record Start (c : ℕ) (s : Drive) : Type 0 where
  pub range : in_range c ≡ true
  pub disc : s.disc ≡ blank c
  pub medium : length s.medium ≡ 32768 * c
  pub pending : length s.pending ≡ 32768

-- one turn: what medium and pending buffer hold when the command comes, and the command with its own command block, data and reply buffer
pub record Turn : Type 0 where
  pub medium : List ℕ
  pub pending : List ℕ
  pub request : Request

-- the drive that the command finds: the disc as the last command left it, over those bytes
abbrev pub found : Turn → Drive → Drive
found t s = drive s.disc t.medium t.pending

-- what comes of a turn
abbrev pub result : Turn → Drive → Result
result t s = step (found t s) t.request

-- the drive at the end of a sequence
unfoldable pub final : List Turn → Drive → Drive
final [] s = s
final (t ∷ ts) s = final ts (result t s).after

-- nobody writes the disc, recorded bytes or pending sectors from outside: what each command finds differs from what the last one left in
-- "stale" bytes at most
unfoldable pub Admissible : List Turn → Drive → Type 0
Admissible [] s = Unit {0}
Admissible (t ∷ ts) s = Alike s (found t s) × Admissible ts (result t s).after

-- nobody writes anything from outside
unfoldable pub Undisturbed : List Turn → Drive → Type 0
Undisturbed [] s = Unit {0}
Undisturbed (t ∷ ts) s = (found t s ≡ s) × Undisturbed ts (result t s).after

-- an "answer": acceptance or the refusal, the reply's bytes and the number of blocks recorded
pub record Told : Type 0 where
  pub answer : Answer
  pub reply : List ℕ
  pub recorded : ℕ

abbrev pub told : Result → Told
told r = record { answer = r.answer; reply = r.reply; recorded = r.recorded }

-- every command of a sequence is accepted, one after another
unfoldable pub AllAccepted : List Turn → Drive → Type 0
AllAccepted [] s = Unit {0}
AllAccepted (t ∷ ts) s = ((result t s).answer ≡ Accepted) × AllAccepted ts (result t s).after

-- the blocks that they record together
unfoldable pub blocks_of : List Turn → Drive → ℕ
blocks_of [] s = 0
blocks_of (t ∷ ts) s = (result t s).recorded + blocks_of ts (result t s).after

-- the commands of turns
abbrev pub requests : List Turn → List Request
requests ts = map (λ (t : Turn). t.request) ts
