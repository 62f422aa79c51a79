-- What the drive decides about a command: from the disc, the command block and the lengths of data and reply buffer alone.
use Rattle.std.specs.Prelude.{ℕ, cond, not, ◌≡◌, List, length, eqb}
use Rattle.protocol.specs.Answer.{number}
use Rattle.commands.specs.Types.{Disc, Verdict, Command, TestUnitReady, RequestSense, Inquiry, ReadCapacity, Read, Write, SynchronizeCache, ReserveTrack, CloseTrackSession, GetConfiguration, ReadDiscInformation, ReadTrackInformation, Unlisted, InvalidOperationCode, CommandBlockLength, MediumSize, UnsoundState, TransferLength}
use Rattle.protocol.specs.Command.{decode}
use Rattle.disc.specs.Sound.{allowed_state}
use Rattle.disc.specs.Blank.{in_range}
use Rattle.protocol.specs.Lengths.{data_length, reply_room, lengths_fit}
use Rattle.decisions.specs.Plan.{no_plan}
use Rattle.disc.specs.Verdict.{accept, refuse, refuse_link}
use Rattle.protocol.specs.Reply.{no_reply}
use Rattle.commands.specs.Flush.{synchronize_cache}
use Rattle.commands.specs.Read.{read}
use Rattle.commands.specs.Write.{write}
use Rattle.commands.specs.Reserve.{reserve}
use Rattle.commands.specs.Close.{close}
use Rattle.reporting.specs.Identity.{inquiry, get_configuration}
use Rattle.reporting.specs.Reports.{request_sense, read_capacity, read_disc_information, read_track_information}

-- TEST UNIT READY (00h) is accepted
unfoldable pub test_unit_ready : Disc → Verdict
test_unit_ready d = accept d d no_reply no_plan

-- each listed command; an opcode that is not listed is refused
unfoldable pub perform : Disc → Command → Verdict
perform d TestUnitReady = test_unit_ready d
perform d (RequestSense allocation) = request_sense d allocation
perform d (Inquiry pageBit allocation) = inquiry d pageBit allocation
perform d ReadCapacity = read_capacity d
perform d (Read a n) = read d a n
perform d (Write a n) = write d a n
perform d SynchronizeCache = synchronize_cache d
perform d (ReserveTrack size) = reserve d size
perform d (CloseTrackSession function n) = close d function n
perform d (GetConfiguration request_type start allocation) = get_configuration d request_type start allocation
perform d (ReadDiscInformation dataType allocation) = read_disc_information d dataType allocation
perform d (ReadTrackInformation addressType n allocation) = read_track_information d addressType n allocation
perform d Unlisted = refuse d InvalidOperationCode

-- the link refusals that need no buffer, in order (L2 of the capacity, L3, L4), then the drive
unfoldable pub judge_command : Disc → Command → ℕ → ℕ → Verdict
judge_command d c dataLent replyLent =
    cond (not (in_range d.capacity)) (refuse_link d MediumSize)
    (cond (not (allowed_state d)) (refuse_link d UnsoundState)
    (cond (not (lengths_fit c dataLent replyLent)) (refuse_link d TransferLength)
    (perform d c)))

-- a command block's bytes matter by the fields that are decoded from them and no other way; one of another length is L1
unfoldable pub judge : Disc → List ℕ → ℕ → ℕ → Verdict
judge d b dataLent replyLent =
    cond (not (eqb (length b) 12)) (refuse_link d CommandBlockLength)
    (judge_command d (decode b) dataLent replyLent)

-- the promise of the code that decides
pub record Judged (d : Disc) (b : List ℕ) (dataLent replyLent : ℕ) (r : Verdict) : Type 0 where
  pub verdict : r ≡ judge d b dataLent replyLent
  pub numbered : number r.answer ≡ number (judge d b dataLent replyLent).answer

-- the decision where data and reply buffer have the lengths that the command block asks for
abbrev pub judge_as_asked : Disc → List ℕ → Verdict
judge_as_asked d b = judge d b (data_length (decode b)) (reply_room (decode b))

abbrev pub JudgedAsAsked : Disc → List ℕ → Verdict → Type 0
JudgedAsAsked d b r = Judged d b (data_length (decode b)) (reply_room (decode b)) r
