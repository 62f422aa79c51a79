-- A replay: the disc from record to record, and what each prints.
use Rattle.std.specs.Prelude.{◌≡◌, ℕ, ◌+◌, ◌%◌, ◌^◌, ◌≤◌, Option, None, Some, List, [], ◌∷◌, length, slice_index}
use Rattle.disc.specs.Blank.{blank}
use Rattle.commands.specs.Judge.{judge_as_asked}
use Rattle.disc.specs.Records.{tail_next}
use Rattle.playback.specs.Types.{Disc, Reason, BadMark, CutShort, End, Replay, Played}
use Rattle.playback.specs.Text.{record_text, bad_text, cut_text}
use Rattle.playback.specs.Line.{line_of, text_of}

-- a blank disc of 300 blocks, and records counted from 1
abbrev pub start : Replay
start = record { disc = blank 300; number = 1 }

-- the disc after a command block, with data and a reply buffer of the lengths that it asks for
abbrev pub after : Disc → List ℕ → Disc
after d b = (judge_as_asked d b).disc

-- a record's line: the sense and the tail's next writable address are those after the command
abbrev pub line_text : Replay → List ℕ → List ℕ
line_text r b = record_text r.number (slice_index b 0) (after r.disc b).sense (tail_next (after r.disc b))

-- the replay after it; the count has 64 bits
abbrev pub onward : Replay → List ℕ → Replay
onward r b = record { disc = after r.disc b; number = (r.number + 1) % 2 ^ 64 }

unfoldable pub played : Replay → List ℕ → Played
played r b = record { line = line_of (line_text r b); replay = onward r b }

-- the last line, by why there is no record where the records end: none at the end
unfoldable pub last_text : Replay → Option Reason → List ℕ
last_text r None = []
last_text r (Some BadMark) = bad_text r.number
last_text r (Some CutShort) = cut_text r.number
last_text r (Some End) = []

-- the replay after several records
unfoldable pub replayed : Replay → List (List ℕ) → Replay
replayed r [] = r
replayed r (b ∷ bs) = replayed (onward r b) bs

-- the promise of the code that plays a record: the line, whole, and the replay after it
pub record Plays (before : Replay) (b : List ℕ) (r : Played) : Type 0 where
  pub result : r ≡ played before b
  pub fits : r.line.length ≤ length r.line.bytes
  pub text : text_of r.line ≡ line_text before b
