-- All that a replay prints, and document 01's printed example.
use Rattle.std.specs.Prelude.{◌≡◌, ℕ, Some, List, [], ◌∷◌, ◌++◌, refl}
use Rattle.protocol.specs.Answer.{is_refusal_sense, allowed_sense}
use Rattle.protocol.specs.Command.{decode}
use Rattle.fragments.specs.List.{listed, some, every, find, sum_recorded}
use Rattle.disc.specs.Sound.{used_first, first_at_zero, follows_from, in_order, ends_within, recorded_within, zeroed_within, incomplete_last, tail_last, tail_or_full, pending_named, finalized_complete, sound, allowed_state}
use Rattle.disc.specs.Blank.{blank}
use Rattle.protocol.specs.Lengths.{data_length, reply_room, lengths_fit}
use Rattle.disc.specs.Verdict.{accepted, accept, refuse, refuse_link}
use Rattle.commands.specs.Flush.{flush, flush_plan, synchronize_cache}
use Rattle.commands.specs.Write.{flush_others, flush_others_plan, gather, write_to, write_found, write}
use Rattle.commands.specs.Judge.{perform, judge_command, judge}
use Rattle.trace.specs.Record.{bad_mark, reading_of, reason_of, step_of, step_at}
use Rattle.trace.specs.Whole.{cdbs, position_after, trace_of, whole_cdbs, whole_end}
use Rattle.playback.specs.Types.{BadMark, CutShort, End, Replay}
use Rattle.playback.specs.Text.{digits, next_text, words}
use Rattle.playback.specs.Replay.{start, line_text, onward, last_text, replayed}

-- n op key asc ascq next
abbrev pub heading : List ℕ
heading =
    0x6E ∷ 0x20 ∷ 0x6F ∷ 0x70 ∷ 0x20 ∷ 0x6B ∷ 0x65 ∷ 0x79 ∷ 0x20 ∷ 0x61 ∷ 0x73 ∷ 0x63
    ∷ 0x20 ∷ 0x61 ∷ 0x73 ∷ 0x63 ∷ 0x71 ∷ 0x20 ∷ 0x6E ∷ 0x65 ∷ 0x78 ∷ 0x74 ∷ 0x0A ∷ []

-- the lines of records, one after another
unfoldable pub lines : Replay → List (List ℕ) → List ℕ
lines r [] = []
lines r (b ∷ bs) = line_text r b ++ lines (onward r b) bs

-- the heading, the records' lines, and the last line by what stands where the record reader stops
unfoldable pub transcript : List ℕ → List ℕ
transcript trace =
    heading
    ++ (lines start (whole_cdbs trace) ++ last_text (replayed start (whole_cdbs trace)) (reason_of (step_at trace (whole_end trace))))

-- WRITE 0 of 20, WRITE 16 of 1, SYNCHRONIZE CACHE
abbrev pub three : List (List ℕ)
three =
    (0x2A ∷ 0 ∷ 0 ∷ 0 ∷ 0 ∷ 0 ∷ 0 ∷ 0 ∷ 20 ∷ 0 ∷ 0 ∷ 0 ∷ [])
    ∷ (0x2A ∷ 0 ∷ 0 ∷ 0 ∷ 0 ∷ 16 ∷ 0 ∷ 0 ∷ 1 ∷ 0 ∷ 0 ∷ 0 ∷ [])
    ∷ (0x35 ∷ 0 ∷ 0 ∷ 0 ∷ 0 ∷ 0 ∷ 0 ∷ 0 ∷ 0 ∷ 0 ∷ 0 ∷ 0 ∷ [])
    ∷ []

-- 1 2A 0 00 00 20, 2 2A 5 21 02 20, 3 35 0 00 00 32
abbrev pub printed_three : List ℕ
printed_three =
    0x31 ∷ 0x20 ∷ 0x32 ∷ 0x41 ∷ 0x20 ∷ 0x30 ∷ 0x20 ∷ 0x30 ∷ 0x30 ∷ 0x20 ∷ 0x30 ∷ 0x30 ∷ 0x20 ∷ 0x32 ∷ 0x30 ∷ 0x0A
    ∷ 0x32 ∷ 0x20 ∷ 0x32 ∷ 0x41 ∷ 0x20 ∷ 0x35 ∷ 0x20 ∷ 0x32 ∷ 0x31 ∷ 0x20 ∷ 0x30 ∷ 0x32 ∷ 0x20 ∷ 0x32 ∷ 0x30 ∷ 0x0A
    ∷ 0x33 ∷ 0x20 ∷ 0x33 ∷ 0x35 ∷ 0x20 ∷ 0x30 ∷ 0x20 ∷ 0x30 ∷ 0x30 ∷ 0x20 ∷ 0x30 ∷ 0x30 ∷ 0x20 ∷ 0x33 ∷ 0x32 ∷ 0x0A
    ∷ []

pub example : transcript (trace_of three) ≡ heading ++ printed_three
unfolding
    transcript lines last_text replayed digits next_text words cdbs position_after trace_of step_at step_of reading_of bad_mark
    blank judge judge_command perform decode data_length reply_room lengths_fit accepted accept refuse refuse_link
    is_refusal_sense allowed_sense listed some every find sum_recorded
    used_first first_at_zero follows_from in_order ends_within recorded_within zeroed_within incomplete_last tail_last tail_or_full pending_named
    finalized_complete sound allowed_state flush flush_plan synchronize_cache flush_others flush_others_plan gather write_to write_found write
example = refl

-- the last line before any record: 1 bad, 1 cut, or nothing at the end of an empty trace
pub last_lines :
    (last_text start (Some BadMark) ≡ (0x31 ∷ 0x20 ∷ 0x62 ∷ 0x61 ∷ 0x64 ∷ 0x0A ∷ []))
    × (last_text start (Some CutShort) ≡ (0x31 ∷ 0x20 ∷ 0x63 ∷ 0x75 ∷ 0x74 ∷ 0x0A ∷ [])) × (last_text start (Some End) ≡ [])
unfolding last_text digits words
last_lines = (refl, refl, refl)
