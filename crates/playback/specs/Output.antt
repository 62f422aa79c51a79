-- What goes out where the bytes that come in are known: the report, and what is told among the errors.
use Rattle.std.specs.Prelude.{◌≡◌, ℕ, ◌⊎◌, Bool, true, false, Option, None, Some, List, [], ◌∷◌, ◌++◌}
use Rattle.std.specs.Io.KnownBytes.{Keeps, Appends}
use Rattle.trace.specs.Record.{step_at, reason_of}
use Rattle.trace.specs.Whole.{whole_cdbs, whole_end}
use Rattle.playback.specs.Types.{Reason, BadMark, CutShort, End, Replay, Ending}
use Rattle.playback.specs.Replay.{start, last_text, replayed}
use Rattle.playback.specs.Transcript.{heading, lines, transcript}

-- why there is no record where those of some bytes end
abbrev pub end_reading : List ℕ → Option Reason
end_reading trace = reason_of (step_at trace (whole_end trace))

-- whether a trace is whole that ends so
unfoldable pub whole : Option Reason → Bool
whole None = true
whole (Some BadMark) = false
whole (Some CutShort) = false
whole (Some End) = true

-- the input cannot be read
abbrev pub unreadable : List ℕ
unreadable =
    0x74 ∷ 0x68 ∷ 0x65 ∷ 0x20 ∷ 0x69 ∷ 0x6E ∷ 0x70 ∷ 0x75 ∷ 0x74 ∷ 0x20 ∷ 0x63 ∷ 0x61 ∷ 0x6E
    ∷ 0x6E ∷ 0x6F ∷ 0x74 ∷ 0x20 ∷ 0x62 ∷ 0x65 ∷ 0x20 ∷ 0x72 ∷ 0x65 ∷ 0x61 ∷ 0x64 ∷ 0x0A ∷ []

-- where some records lead from the start: what holds of a replay whose input nobody knows
pub record Reached (r : Replay) : Type 0 where
  pub cdbs : List (List ℕ)
  pub replay : r ≡ replayed start cdbs

-- a trace that was read to its end or to its bad mark: the report is the transcript, and the last line is told
pub record Reported (trace : List ℕ) (y y' z z' : Option (List ℕ)) (r : Ending) : Type 0 where
  pub report : Appends y y' (transcript trace)
  pub errors : Appends z z' (last_text r.replay (end_reading trace))
  pub replay : r.replay ≡ replayed start (whole_cdbs trace)
  pub whole : r.whole ≡ whole (end_reading trace)

-- a trace that could not be read so far: the report has the heading and the lines of its first records, and no last line
pub record BrokenOff (trace : List ℕ) (y y' z z' : Option (List ℕ)) (r : Ending) : Type 0 where
  pub played : List (List ℕ)
  pub left : List (List ℕ)
  pub cdbs : whole_cdbs trace ≡ played ++ left
  pub report : Appends y y' (heading ++ lines start played)
  pub errors : Appends z z' unreadable ⊎ Keeps z z'
  pub replay : r.replay ≡ replayed start played
  pub whole : r.whole ≡ false
