-- What the shift never shows, as one table of runs: the reports after refusals, in later sessions and of every kind of fragment, the finalized
-- disc, the largest C, and the link refusals in order; full lists are in Full. Each line has its own lengths of data and reply buffer, and what
-- it must show was worked out by hand from document 01 as document 02 amends it; `tour` says that the definitions give it.
use Rattle.std.specs.Prelude.{ℕ, ◌-◌, ◌≡◌, refl, Bool, true, false, List, [], ◌∷◌, ◌++◌, map, length, replicate}
use Rattle.protocol.specs.Reply.{said, reply_bytes}
use Rattle.protocol.specs.Answer.{sense, is_refusal_sense, allowed_sense}
use Rattle.disc.specs.Blank.{blank}
use Rattle.protocol.specs.Command.{decode}
use Rattle.fragments.specs.Fragment.{fragment, unused_record}
use Rattle.fragments.specs.List.{limit, listed, some, every, find, sum_recorded, highest_readable, first_of_session}
use Rattle.disc.specs.Sound.{used_first, first_at_zero, follows_from, in_order, ends_within, recorded_within, zeroed_within, incomplete_last, tail_last, tail_or_full, pending_named, finalized_complete, sound, allowed_state}
use Rattle.protocol.specs.Lengths.{data_length, reply_room, lengths_fit}
use Rattle.disc.specs.Verdict.{accepted, accept, refuse, refuse_link}
use Rattle.commands.specs.Flush.{flush, flush_plan, synchronize_cache}
use Rattle.commands.specs.Read.{all_readable, medium_share, sending, read}
use Rattle.commands.specs.Write.{flush_others, flush_others_plan, gather, write_to, write_found, write}
use Rattle.commands.specs.Reserve.{split_tail, reserve}
use Rattle.commands.specs.Close.{append_tail, close_incomplete, close_fragment, close_tail, open_session, close_session, finalize, close}
use Rattle.protocol.specs.Reports.{sense_bytes, disc_bytes, track_bytes}
use Rattle.reporting.specs.Reports.{request_sense, read_capacity, session_state, disc_status, read_disc_information, next_writable_or_zero, free_sectors, track_verdict, track_found, track_numbered, read_track_information}
use Rattle.commands.specs.Judge.{test_unit_ready, perform, judge_command, judge}
use Rattle.examples.specs.Shift.{Shown, shown}
use Rattle.examples.specs.Types.{Sense, Reserved, Appended, Fragment, Disc}

-- a line: the command block, how long data and reply buffer are, and what it must show
pub record Line : Type 0 where
  pub command : List ℕ
  pub payload : ℕ
  pub room : ℕ
  pub expected : Shown

-- the answer's number, the blocks recorded, the reply, the sense, the tail's next writable address or 0, the pending count, the list
abbrev pub line : List ℕ → ℕ → ℕ → ℕ → ℕ → List ℕ → Sense → ℕ → ℕ → List Fragment → Line
line b payload room a n r s t p fs =
    record {
      command = b;
      payload = payload;
      room = room;
      expected = record { answer = a; recorded = n; reply = r; sense = s; next = t; pending = p; list = fs };
    }

-- a run: the disc that it starts on, and its lines, each on what the last one left
pub record Run : Type 0 where
  pub disc : Disc
  pub lines : List Line

abbrev pub from : Disc → List Line → Run
from d ls = record { disc = d; lines = ls }

unfoldable pub played : Disc → List Line → List Shown
played d [] = []
played d (l ∷ ls) =
    let v = judge d l.command l.payload l.room in
    shown v ∷ played v.disc ls

-- a command block by its first bytes, zeros after them
abbrev pub cdb : List ℕ → List ℕ
cdb b = b ++ replicate (12 - length b) 0

-- a state by its records in use
abbrev pub state : ℕ → Bool → Sense → ℕ → ℕ → List Fragment → Disc
state c f s p o fs =
    record { capacity = c; finalized = f; sense = s; pending = p; owner = o; fragments = fs ++ replicate (limit - length fs) unused_record }

-- the lists
abbrev tail_only : List Fragment
tail_only = fragment 1 0 600 0 0 Appended ∷ []

abbrev written : List Fragment
written = fragment 1 0 600 2 0 Appended ∷ []

abbrev closed : List Fragment
closed = fragment 1 0 2 2 0 Appended ∷ fragment 1 3 597 0 0 Appended ∷ []

abbrev reserved : List Fragment
reserved = fragment 1 0 2 2 0 Appended ∷ fragment 1 3 2 0 0 Reserved ∷ fragment 1 6 594 0 0 Appended ∷ []

abbrev half_reserved : List Fragment
half_reserved = fragment 1 0 2 2 0 Appended ∷ fragment 1 3 2 1 0 Reserved ∷ fragment 1 6 594 0 0 Appended ∷ []

abbrev next_session : List Fragment
next_session = fragment 1 0 2 2 0 Appended ∷ fragment 1 3 2 2 12 Reserved ∷ fragment 2 133 467 0 0 Appended ∷ []

abbrev two_sessions : List Fragment
two_sessions = fragment 1 0 2 2 0 Appended ∷ fragment 1 3 2 2 12 Reserved ∷ fragment 2 133 1 1 15 Appended ∷ []

abbrev one_session : List Fragment
one_session = fragment 1 0 2 2 0 Appended ∷ fragment 1 3 2 2 12 Reserved ∷ []

abbrev pub three_pending : List Fragment
three_pending = fragment 1 0 4 1 0 Reserved ∷ fragment 1 5 595 0 0 Appended ∷ []

abbrev pub other_flushed : List Fragment
other_flushed = fragment 1 0 4 2 13 Reserved ∷ fragment 1 5 595 0 0 Appended ∷ []

abbrev both_filled : List Fragment
both_filled = fragment 1 0 4 4 45 Reserved ∷ fragment 1 5 595 1 15 Appended ∷ []

abbrev all_complete : List Fragment
all_complete = fragment 1 0 4 4 45 Reserved ∷ fragment 1 5 1 1 15 Appended ∷ []

abbrev sixteen_blocks : List Fragment
sixteen_blocks = fragment 1 0 300 16 0 Appended ∷ []

abbrev closed_at17 : List Fragment
closed_at17 = fragment 1 0 17 17 15 Appended ∷ fragment 1 18 282 0 0 Appended ∷ []

abbrev closed_twice : List Fragment
closed_twice = fragment 1 0 17 17 15 Appended ∷ fragment 1 18 1 1 15 Appended ∷ fragment 1 20 280 0 0 Appended ∷ []

-- with session 2 open, w blocks of it recorded; and with session 3
abbrev second_of : ℕ → List Fragment
second_of w = fragment 1 0 17 17 15 Appended ∷ fragment 1 18 1 1 15 Appended ∷ fragment 2 147 153 w 0 Appended ∷ []

abbrev third_open : List Fragment
third_open =
    fragment 1 0 17 17 15 Appended ∷ fragment 1 18 1 1 15 Appended ∷ fragment 2 147 1 1 0 Appended ∷ fragment 3 276 24 0 0 Appended ∷ []

abbrev five_pending : List Fragment
five_pending = fragment 1 0 2 1 0 Reserved ∷ fragment 1 3 597 0 0 Appended ∷ []

abbrev eleven_filled : List Fragment
eleven_filled = fragment 1 0 2 2 11 Reserved ∷ []

-- one appended fragment of c blocks, w of them recorded
abbrev pub up_to : ℕ → ℕ → List Fragment
up_to c w = fragment 1 0 c w 0 Appended ∷ []

abbrev last_block : ℕ → List Fragment
last_block w = fragment 1 0 298 298 0 Appended ∷ fragment 1 299 1 w 0 Appended ∷ []

abbrev ends299 : List Fragment
ends299 = fragment 1 0 299 299 0 Appended ∷ []

abbrev ends171 : List Fragment
ends171 = fragment 1 0 300 170 0 Appended ∷ []

abbrev opened299 : List Fragment
opened299 = fragment 1 0 171 171 1 Appended ∷ fragment 2 299 1 0 0 Appended ∷ []

abbrev ends172 : List Fragment
ends172 = fragment 1 0 300 171 0 Appended ∷ []

abbrev largest : List Fragment
largest = fragment 1 0 143444 0 0 Appended ∷ []

abbrev largest_reserved : List Fragment
largest_reserved = fragment 1 0 143442 0 0 Reserved ∷ fragment 1 143443 1 0 0 Appended ∷ []

abbrev small_list : List Fragment
small_list = fragment 1 0 255 0 0 Appended ∷ []

abbrev too_large : List Fragment
too_large = fragment 1 0 143445 0 0 Appended ∷ []

abbrev three_hundred : List Fragment
three_hundred = fragment 1 0 300 0 0 Appended ∷ []

-- the runs
abbrev first_run : List Line
first_run =
    -- WRITE 0 of 5: five sectors pending, no block recorded
    line (cdb (0x2A ∷ 0 ∷ 0 ∷ 0 ∷ 0 ∷ 0 ∷ 0 ∷ 0 ∷ 5 ∷ [])) 10240 0 0 0 [] (sense 0 0 0) 5 5 tail_only
    -- 51h: an incomplete session and disc, 4 x 1 + 1; sectors that are only pending make the tail no blank one
    ∷ line (cdb (0x51 ∷ 0 ∷ 0 ∷ 0 ∷ 0 ∷ 0 ∷ 0 ∷ 0 ∷ 34 ∷ [])) 0 34 0 0
    (0 ∷ 0x20 ∷ 5 ∷ 1 ∷ 1 ∷ 1 ∷ 1 ∷ replicate 27 0)
    (sense 0 0 0) 5 5 tail_only
    -- 52h FFh, the tail: neither reserved nor blank, W = 0, next 5, free 9,600 - 5 = 9,595
    ∷ line (cdb (0x52 ∷ 1 ∷ 0 ∷ 0 ∷ 0 ∷ 0xFF ∷ 0 ∷ 0 ∷ 36 ∷ [])) 0 36 0 0
    (0 ∷ 0x22 ∷ 1 ∷ 1 ∷ 0 ∷ 4 ∷ 1 ∷ 1 ∷ 0 ∷ 0 ∷ 0 ∷ 0 ∷ 0 ∷ 0 ∷ 0 ∷ 5 ∷ 0 ∷ 0 ∷ 0x25 ∷ 0x7B
    ∷ 0 ∷ 0 ∷ 0 ∷ 0x10 ∷ 0 ∷ 0 ∷ 0x25 ∷ 0x80 ∷ replicate 8 0)
    (sense 0 0 0) 5 5 tail_only
    -- 25h: the last pending sector, though nothing is recorded
    ∷ line (cdb (0x25 ∷ [])) 0 8 0 0 (0 ∷ 0 ∷ 0 ∷ 4 ∷ 0 ∷ 0 ∷ 8 ∷ 0 ∷ []) (sense 0 0 0) 5 5 tail_only
    -- READ 0 of 5: the five pending sectors; of 6: one too many
    ∷ line (cdb (0x28 ∷ 0 ∷ 0 ∷ 0 ∷ 0 ∷ 0 ∷ 0 ∷ 0 ∷ 5 ∷ [])) 0 10240 0 0 [] (sense 0 0 0) 5 5 tail_only
    ∷ line (cdb (0x28 ∷ 0 ∷ 0 ∷ 0 ∷ 0 ∷ 0 ∷ 0 ∷ 0 ∷ 6 ∷ [])) 0 12288 0x080000 0 [] (sense 0x8 0x00 0x00) 5 5 tail_only
    -- 03h of 18: key 8
    ∷ line (cdb (0x03 ∷ 0 ∷ 0 ∷ 0 ∷ 0x12 ∷ [])) 0 18 0 0 (0x70 ∷ 0 ∷ 8 ∷ 0 ∷ 0 ∷ 0 ∷ 0 ∷ 0x0A ∷ replicate 10 0) (sense 0 0 0) 5 5 tail_only
    -- WRITE 9 of 1: not the next writable address
    ∷ line (cdb (0x2A ∷ 0 ∷ 0 ∷ 0 ∷ 0 ∷ 9 ∷ 0 ∷ 0 ∷ 1 ∷ [])) 2048 0 0x052102 0 [] (sense 0x5 0x21 0x02) 5 5 tail_only
    -- 03h cut to the 14 bytes of byte 4, not to the 18 of byte 3: key 5, ASC 21h, ASCQ 02h
    ∷ line (cdb (0x03 ∷ 0 ∷ 0 ∷ 0x12 ∷ 0x0E ∷ [])) 0 14 0 0
    (0x70 ∷ 0 ∷ 5 ∷ 0 ∷ 0 ∷ 0 ∷ 0 ∷ 0x0A ∷ 0 ∷ 0 ∷ 0 ∷ 0 ∷ 0x21 ∷ 2 ∷ [])
    (sense 0 0 0) 5 5 tail_only
    -- 03h again: the last one cleared the sense
    ∷ line (cdb (0x03 ∷ 0 ∷ 0 ∷ 0 ∷ 0x12 ∷ [])) 0 18 0 0 (0x70 ∷ 0 ∷ 0 ∷ 0 ∷ 0 ∷ 0 ∷ 0 ∷ 0x0A ∷ replicate 10 0) (sense 0 0 0) 5 5 tail_only
    -- WRITE 5 of 27: 5 + 27 = 32 sectors are two blocks
    ∷ line (cdb (0x2A ∷ 0 ∷ 0 ∷ 0 ∷ 0 ∷ 5 ∷ 0 ∷ 0 ∷ 27 ∷ [])) 55296 0 0 2 [] (sense 0 0 0) 32 0 written
    -- 52h number 1, written: 02h + 01h; next 32, free 9,600 - 32 = 9,568, last recorded 31
    ∷ line (cdb (0x52 ∷ 1 ∷ 0 ∷ 0 ∷ 0 ∷ 1 ∷ 0 ∷ 0 ∷ 36 ∷ [])) 0 36 0 0
    (0 ∷ 0x22 ∷ 1 ∷ 1 ∷ 0 ∷ 4 ∷ 1 ∷ 3 ∷ 0 ∷ 0 ∷ 0 ∷ 0 ∷ 0 ∷ 0 ∷ 0 ∷ 0x20 ∷ 0 ∷ 0 ∷ 0x25 ∷ 0x60
    ∷ 0 ∷ 0 ∷ 0 ∷ 0x10 ∷ 0 ∷ 0 ∷ 0x25 ∷ 0x80 ∷ 0 ∷ 0 ∷ 0 ∷ 0x1F ∷ replicate 4 0)
    (sense 0 0 0) 32 0 written
    -- 25h: the last of 32 sectors
    ∷ line (cdb (0x25 ∷ [])) 0 8 0 0 (0 ∷ 0 ∷ 0 ∷ 0x1F ∷ 0 ∷ 0 ∷ 8 ∷ 0 ∷ []) (sense 0 0 0) 32 0 written
    -- 5B/001 number 1: L = 2, and a tail at block 0 + 2 + 1
    ∷ line (cdb (0x5B ∷ 0 ∷ 1 ∷ 0 ∷ 0 ∷ 1 ∷ [])) 0 0 0 0 [] (sense 0 0 0) 48 0 closed
    -- 25h: 31 still, though nothing of the last fragment is recorded
    ∷ line (cdb (0x25 ∷ [])) 0 8 0 0 (0 ∷ 0 ∷ 0 ∷ 0x1F ∷ 0 ∷ 0 ∷ 8 ∷ 0 ∷ []) (sense 0 0 0) 48 0 closed
    -- RESERVE 31 is not of whole blocks; RESERVE 32: two blocks, and a tail at 3 + 2 + 1
    ∷ line (cdb (0x53 ∷ 0 ∷ 0 ∷ 0 ∷ 0 ∷ 0 ∷ 0 ∷ 0 ∷ 31 ∷ [])) 0 0 0x052400 0 [] (sense 0x5 0x24 0x00) 48 0 closed
    ∷ line (cdb (0x53 ∷ 0 ∷ 0 ∷ 0 ∷ 0 ∷ 0 ∷ 0 ∷ 0 ∷ 32 ∷ [])) 0 0 0 0 [] (sense 0 0 0) 96 0 reserved
    -- 52h number 2: reserved and blank, 01h + 80h + 40h; next 48, free 32 of 32
    ∷ line (cdb (0x52 ∷ 1 ∷ 0 ∷ 0 ∷ 0 ∷ 2 ∷ 0 ∷ 0 ∷ 36 ∷ [])) 0 36 0 0
    (0 ∷ 0x22 ∷ 2 ∷ 1 ∷ 0 ∷ 4 ∷ 0xC1 ∷ 1 ∷ 0 ∷ 0 ∷ 0 ∷ 0x30 ∷ 0 ∷ 0 ∷ 0 ∷ 0x30 ∷ 0 ∷ 0 ∷ 0 ∷ 0x20
    ∷ 0 ∷ 0 ∷ 0 ∷ 0x10 ∷ 0 ∷ 0 ∷ 0 ∷ 0x20 ∷ replicate 8 0)
    (sense 0 0 0) 96 0 reserved
    -- WRITE 48 of 20 to it: one block, four sectors pending
    ∷ line (cdb (0x2A ∷ 0 ∷ 0 ∷ 0 ∷ 0 ∷ 0x30 ∷ 0 ∷ 0 ∷ 20 ∷ [])) 40960 0 0 1 [] (sense 0 0 0) 96 4 half_reserved
    -- 52h of address 50: W > 0 and incomplete, 02h + 01h; next 16 x 4 + 4 = 68, free 80 - 68 = 12, last recorded 63
    ∷ line (cdb (0x52 ∷ 0 ∷ 0 ∷ 0 ∷ 0 ∷ 0x32 ∷ 0 ∷ 0 ∷ 36 ∷ [])) 0 36 0 0
    (0 ∷ 0x22 ∷ 2 ∷ 1 ∷ 0 ∷ 4 ∷ 0x81 ∷ 3 ∷ 0 ∷ 0 ∷ 0 ∷ 0x30 ∷ 0 ∷ 0 ∷ 0 ∷ 0x44 ∷ 0 ∷ 0 ∷ 0 ∷ 0x0C
    ∷ 0 ∷ 0 ∷ 0 ∷ 0x10 ∷ 0 ∷ 0 ∷ 0 ∷ 0x20 ∷ 0 ∷ 0 ∷ 0 ∷ 0x3F ∷ replicate 4 0)
    (sense 0 0 0) 96 4 half_reserved
    -- 52h of address 32, in the dividing block
    ∷ line (cdb (0x52 ∷ 0 ∷ 0 ∷ 0 ∷ 0 ∷ 0x20 ∷ 0 ∷ 0 ∷ 36 ∷ [])) 0 36 0x052100 0 [] (sense 0x5 0x21 0x00) 96 4 half_reserved
    -- 52h type 2, number 4, number 0: no such type, no such fragment
    ∷ line (cdb (0x52 ∷ 2 ∷ 0 ∷ 0 ∷ 0 ∷ 1 ∷ 0 ∷ 0 ∷ 36 ∷ [])) 0 36 0x052400 0 [] (sense 0x5 0x24 0x00) 96 4 half_reserved
    ∷ line (cdb (0x52 ∷ 1 ∷ 0 ∷ 0 ∷ 0 ∷ 4 ∷ 0 ∷ 0 ∷ 36 ∷ [])) 0 36 0x052400 0 [] (sense 0x5 0x24 0x00) 96 4 half_reserved
    ∷ line (cdb (0x52 ∷ 1 ∷ 0 ∷ 0 ∷ 0 ∷ 0 ∷ 0 ∷ 0 ∷ 36 ∷ [])) 0 36 0x052400 0 [] (sense 0x5 0x24 0x00) 96 4 half_reserved
    -- 5B/010: as after the flush the reserved fragment is complete, F = 12; the blank tail goes; e = 5, session 2 at 5 + 128
    ∷ line (cdb (0x5B ∷ 0 ∷ 2 ∷ [])) 0 0 0 1 [] (sense 0 0 0) 2128 0 next_session
    -- 5B/010 again: the last session is only a blank tail, nothing is done
    ∷ line (cdb (0x5B ∷ 0 ∷ 2 ∷ [])) 0 0 0 0 [] (sense 0 0 0) 2128 0 next_session
    -- 51h: session 2, its first and last fragment is number 3; 4 x 0 + 1, the disc is not blank
    ∷ line (cdb (0x51 ∷ 0 ∷ 0 ∷ 0 ∷ 0 ∷ 0 ∷ 0 ∷ 0 ∷ 34 ∷ [])) 0 34 0 0
    (0 ∷ 0x20 ∷ 1 ∷ 1 ∷ 2 ∷ 3 ∷ 3 ∷ replicate 27 0)
    (sense 0 0 0) 2128 0 next_session
    -- 52h FFh: the blank tail in session 2, first and next 2,128, free 16 x 467 = 7,472
    ∷ line (cdb (0x52 ∷ 1 ∷ 0 ∷ 0 ∷ 0 ∷ 0xFF ∷ 0 ∷ 0 ∷ 36 ∷ [])) 0 36 0 0
    (0 ∷ 0x22 ∷ 3 ∷ 2 ∷ 0 ∷ 4 ∷ 0x41 ∷ 1 ∷ 0 ∷ 0 ∷ 8 ∷ 0x50 ∷ 0 ∷ 0 ∷ 8 ∷ 0x50 ∷ 0 ∷ 0 ∷ 0x1D ∷ 0x30
    ∷ 0 ∷ 0 ∷ 0 ∷ 0x10 ∷ 0 ∷ 0 ∷ 0x1D ∷ 0x30 ∷ replicate 8 0)
    (sense 0 0 0) 2128 0 next_session
    -- 25h: the last sector of fragment 2, 16 x 5 - 1
    ∷ line (cdb (0x25 ∷ [])) 0 8 0 0 (0 ∷ 0 ∷ 0 ∷ 0x4F ∷ 0 ∷ 0 ∷ 8 ∷ 0 ∷ []) (sense 0 0 0) 2128 0 next_session
    -- WRITE 2128 of 1, and the 51h after it: session state 1
    ∷ line (cdb (0x2A ∷ 0 ∷ 0 ∷ 0 ∷ 8 ∷ 0x50 ∷ 0 ∷ 0 ∷ 1 ∷ [])) 2048 0 0 0 [] (sense 0 0 0) 2129 1 next_session
    ∷ line (cdb (0x51 ∷ 0 ∷ 0 ∷ 0 ∷ 0 ∷ 0 ∷ 0 ∷ 0 ∷ 34 ∷ [])) 0 34 0 0
    (0 ∷ 0x20 ∷ 5 ∷ 1 ∷ 2 ∷ 3 ∷ 3 ∷ replicate 27 0)
    (sense 0 0 0) 2129 1 next_session
    -- RESERVE 17 and 16: the tail is not blank, but the size comes first
    ∷ line (cdb (0x53 ∷ 0 ∷ 0 ∷ 0 ∷ 0 ∷ 0 ∷ 0 ∷ 0 ∷ 17 ∷ [])) 0 0 0x052400 0 [] (sense 0x5 0x24 0x00) 2129 1 next_session
    ∷ line (cdb (0x53 ∷ 0 ∷ 0 ∷ 0 ∷ 0 ∷ 0 ∷ 0 ∷ 0 ∷ 16 ∷ [])) 0 0 0x057205 0 [] (sense 0x5 0x72 0x05) 2129 1 next_session
    -- 5B/111: no such function; 5B/001 number 4: unlisted
    ∷ line (cdb (0x5B ∷ 0 ∷ 7 ∷ [])) 0 0 0x052400 0 [] (sense 0x5 0x24 0x00) 2129 1 next_session
    ∷ line (cdb (0x5B ∷ 0 ∷ 1 ∷ 0 ∷ 0 ∷ 4 ∷ [])) 0 0 0x052400 0 [] (sense 0x5 0x24 0x00) 2129 1 next_session
    -- 51h of type 1
    ∷ line (cdb (0x51 ∷ 1 ∷ 0 ∷ 0 ∷ 0 ∷ 0 ∷ 0 ∷ 0 ∷ 34 ∷ [])) 0 34 0x052400 0 [] (sense 0x5 0x24 0x00) 2129 1 next_session
    -- 5B/110: the flush records a block with 15 sectors of zeros, the tail ends with it, no tail follows
    ∷ line (cdb (0x5B ∷ 0 ∷ 6 ∷ [])) 0 0 0 1 [] (sense 0 0 0) 0 0 two_sessions
    -- 51h: finalized, 4 x 3 + 2
    ∷ line (cdb (0x51 ∷ 0 ∷ 0 ∷ 0 ∷ 0 ∷ 0 ∷ 0 ∷ 0 ∷ 34 ∷ [])) 0 34 0 0
    (0 ∷ 0x20 ∷ 0x0E ∷ 1 ∷ 2 ∷ 3 ∷ 3 ∷ replicate 27 0)
    (sense 0 0 0) 0 0 two_sessions
    -- 5B/110 and 5B/010 again: nothing is done
    ∷ line (cdb (0x5B ∷ 0 ∷ 6 ∷ [])) 0 0 0 0 [] (sense 0 0 0) 0 0 two_sessions
    ∷ line (cdb (0x5B ∷ 0 ∷ 2 ∷ [])) 0 0 0 0 [] (sense 0 0 0) 0 0 two_sessions
    -- WRITE of 0 on the finalized disc is accepted, of 1 refused; so are RESERVE 0 and 33, before the size is looked at
    ∷ line (cdb (0x2A ∷ 0 ∷ 0 ∷ 0 ∷ 8 ∷ 0x60 ∷ [])) 0 0 0 0 [] (sense 0 0 0) 0 0 two_sessions
    ∷ line (cdb (0x2A ∷ 0 ∷ 0 ∷ 0 ∷ 8 ∷ 0x60 ∷ 0 ∷ 0 ∷ 1 ∷ [])) 2048 0 0x072700 0 [] (sense 0x7 0x27 0x00) 0 0 two_sessions
    ∷ line (cdb (0x53 ∷ [])) 0 0 0x072700 0 [] (sense 0x7 0x27 0x00) 0 0 two_sessions
    ∷ line (cdb (0x53 ∷ 0 ∷ 0 ∷ 0 ∷ 0 ∷ 0 ∷ 0 ∷ 0 ∷ 33 ∷ [])) 0 0 0x072700 0 [] (sense 0x7 0x27 0x00) 0 0 two_sessions
    -- 52h FFh: there is no tail
    ∷ line (cdb (0x52 ∷ 1 ∷ 0 ∷ 0 ∷ 0 ∷ 0xFF ∷ 0 ∷ 0 ∷ 36 ∷ [])) 0 36 0x052400 0 [] (sense 0x5 0x24 0x00) 0 0 two_sessions
    -- 52h number 3, complete: no next address, none free, last recorded 16 x 134 - 1 = 2,143; and 25h
    ∷ line (cdb (0x52 ∷ 1 ∷ 0 ∷ 0 ∷ 0 ∷ 3 ∷ 0 ∷ 0 ∷ 36 ∷ [])) 0 36 0 0
    (0 ∷ 0x22 ∷ 3 ∷ 2 ∷ 0 ∷ 4 ∷ 1 ∷ 2 ∷ 0 ∷ 0 ∷ 8 ∷ 0x50 ∷ 0 ∷ 0 ∷ 0 ∷ 0 ∷ 0 ∷ 0 ∷ 0 ∷ 0
    ∷ 0 ∷ 0 ∷ 0 ∷ 0x10 ∷ 0 ∷ 0 ∷ 0 ∷ 0x10 ∷ 0 ∷ 0 ∷ 8 ∷ 0x5F ∷ replicate 4 0)
    (sense 0 0 0) 0 0 two_sessions
    ∷ line (cdb (0x25 ∷ [])) 0 8 0 0 (0 ∷ 0 ∷ 8 ∷ 0x5F ∷ 0 ∷ 0 ∷ 8 ∷ 0 ∷ []) (sense 0 0 0) 0 0 two_sessions
    -- 52h number 2, reserved and complete, cut to 12 bytes
    ∷ line (cdb (0x52 ∷ 1 ∷ 0 ∷ 0 ∷ 0 ∷ 2 ∷ 0 ∷ 0 ∷ 12 ∷ [])) 0 12 0 0
    (0 ∷ 0x22 ∷ 2 ∷ 1 ∷ 0 ∷ 4 ∷ 0x81 ∷ 2 ∷ 0 ∷ 0 ∷ 0 ∷ 0x30 ∷ [])
    (sense 0 0 0) 0 0 two_sessions
    -- 00h, and an opcode that is not listed
    ∷ line (cdb (0x00 ∷ [])) 0 0 0 0 [] (sense 0 0 0) 0 0 two_sessions
    ∷ line (cdb (0xFF ∷ [])) 0 0 0x052000 0 [] (sense 0x5 0x20 0x00) 0 0 two_sessions
    ∷ []

abbrev filling_run : List Line
filling_run =
    -- WRITE 80 of 1 to the tail: the 3 sectors pending in fragment 1 are flushed first, F = 13; one is pending in the tail
    line (cdb (0x2A ∷ 0 ∷ 0 ∷ 0 ∷ 0 ∷ 0x50 ∷ 0 ∷ 0 ∷ 1 ∷ [])) 2048 0 0 1 [] (sense 0 0 0) 81 1 other_flushed
    -- 5B/001 number 1: the flush records a block of the tail, F = 15; then two blocks of fragment 1 become zeros, F = 13 + 32
    ∷ line (cdb (0x5B ∷ 0 ∷ 1 ∷ 0 ∷ 0 ∷ 1 ∷ [])) 0 0 0 3 [] (sense 0 0 0) 96 0 both_filled
    -- 5B/001 again: it is complete, nothing is done
    ∷ line (cdb (0x5B ∷ 0 ∷ 1 ∷ 0 ∷ 0 ∷ 1 ∷ [])) 0 0 0 0 [] (sense 0 0 0) 96 0 both_filled
    -- READ of its last sector and of the one after it, in the dividing block
    ∷ line (cdb (0x28 ∷ 0 ∷ 0 ∷ 0 ∷ 0 ∷ 0x3F ∷ 0 ∷ 0 ∷ 1 ∷ [])) 0 2048 0 0 [] (sense 0 0 0) 96 0 both_filled
    ∷ line (cdb (0x28 ∷ 0 ∷ 0 ∷ 0 ∷ 0 ∷ 0x40 ∷ 0 ∷ 0 ∷ 1 ∷ [])) 0 2048 0x080000 0 [] (sense 0x8 0x00 0x00) 96 0 both_filled
    -- 5B/110: the tail ends with its one block
    ∷ line (cdb (0x5B ∷ 0 ∷ 6 ∷ [])) 0 0 0 0 [] (sense 0 0 0) 0 0 all_complete
    ∷ []

abbrev fields_run : List Line
fields_run =
    -- one block each of 51h, 52h, WRITE, READ, 5B/001 and RESERVE has FFh in every byte that is not named
    -- 51h with F8h in byte 1, whose low three bits are zero, cut to 256 bytes and not to the 0 of byte 8: the blank disc, whole
    line (0x51 ∷ 0xF8 ∷ 0xFF ∷ 0xFF ∷ 0xFF ∷ 0xFF ∷ 0xFF ∷ 1 ∷ 0 ∷ 0xFF ∷ 0xFF ∷ 0xFF ∷ []) 0 34 0 0
    (0 ∷ 0x20 ∷ 0 ∷ 1 ∷ 1 ∷ 1 ∷ 1 ∷ replicate 27 0)
    (sense 0 0 0) 0 0 three_hundred
    -- 52h with FDh in byte 1: its low two bits are 1, a number
    ∷ line (0x52 ∷ 0xFD ∷ 0 ∷ 0 ∷ 0 ∷ 1 ∷ 0xFF ∷ 1 ∷ 0 ∷ 0xFF ∷ 0xFF ∷ 0xFF ∷ []) 0 36 0 0
    (0 ∷ 0x22 ∷ 1 ∷ 1 ∷ 0 ∷ 4 ∷ 0x41 ∷ 1 ∷ 0 ∷ 0 ∷ 0 ∷ 0 ∷ 0 ∷ 0 ∷ 0 ∷ 0 ∷ 0 ∷ 0 ∷ 0x12 ∷ 0xC0
    ∷ 0 ∷ 0 ∷ 0 ∷ 0x10 ∷ 0 ∷ 0 ∷ 0x12 ∷ 0xC0 ∷ replicate 8 0)
    (sense 0 0 0) 0 0 three_hundred
    -- 52h number 257 and 5B/001 number 257: unlisted, though byte 5 is 1
    ∷ line (cdb (0x52 ∷ 1 ∷ 0 ∷ 0 ∷ 1 ∷ 1 ∷ 0 ∷ 0 ∷ 36 ∷ [])) 0 36 0x052400 0 [] (sense 0x5 0x24 0x00) 0 0 three_hundred
    ∷ line (cdb (0x5B ∷ 0 ∷ 1 ∷ 0 ∷ 1 ∷ 1 ∷ [])) 0 0 0x052400 0 [] (sense 0x5 0x24 0x00) 0 0 three_hundred
    -- with 1 in the highest byte: READ 16777216 of 1 passes the disc, 52h of that address finds no fragment, RESERVE 16777232 does not fit;
    -- RESERVE 16777217 is refused for its size before that
    ∷ line (cdb (0x28 ∷ 0 ∷ 1 ∷ 0 ∷ 0 ∷ 0 ∷ 0 ∷ 0 ∷ 1 ∷ [])) 0 2048 0x052100 0 [] (sense 0x5 0x21 0x00) 0 0 three_hundred
    ∷ line (cdb (0x52 ∷ 0 ∷ 1 ∷ 0 ∷ 0 ∷ 0 ∷ 0 ∷ 0 ∷ 36 ∷ [])) 0 36 0x052100 0 [] (sense 0x5 0x21 0x00) 0 0 three_hundred
    ∷ line (cdb (0x53 ∷ 0 ∷ 0 ∷ 0 ∷ 0 ∷ 1 ∷ 0 ∷ 0 ∷ 0x10 ∷ [])) 0 0 0x056300 0 [] (sense 0x5 0x63 0x00) 0 0 three_hundred
    ∷ line (cdb (0x53 ∷ 0 ∷ 0 ∷ 0 ∷ 0 ∷ 1 ∷ 0 ∷ 0 ∷ 1 ∷ [])) 0 0 0x052400 0 [] (sense 0x5 0x24 0x00) 0 0 three_hundred
    -- WRITE 0 of 256: sixteen blocks; READ 0 of 256, and of 257, one sector too many
    ∷ line (0x2A ∷ 0xFF ∷ 0 ∷ 0 ∷ 0 ∷ 0 ∷ 0xFF ∷ 1 ∷ 0 ∷ 0xFF ∷ 0xFF ∷ 0xFF ∷ []) 524288 0 0 16 [] (sense 0 0 0) 256 0 sixteen_blocks
    ∷ line (0x28 ∷ 0xFF ∷ 0 ∷ 0 ∷ 0 ∷ 0 ∷ 0xFF ∷ 1 ∷ 0 ∷ 0xFF ∷ 0xFF ∷ 0xFF ∷ []) 0 524288 0 0 [] (sense 0 0 0) 256 0 sixteen_blocks
    ∷ line (cdb (0x28 ∷ 0 ∷ 0 ∷ 0 ∷ 0 ∷ 0 ∷ 0 ∷ 1 ∷ 1 ∷ [])) 0 526336 0x080000 0 [] (sense 0x8 0x00 0x00) 256 0 sixteen_blocks
    -- WRITE 16777472 of 1: 256 in the three low bytes is not the whole address
    ∷ line (cdb (0x2A ∷ 0 ∷ 1 ∷ 0 ∷ 1 ∷ 0 ∷ 0 ∷ 0 ∷ 1 ∷ [])) 2048 0 0x052102 0 [] (sense 0x5 0x21 0x02) 256 0 sixteen_blocks
    -- WRITE 256 of 1, then 5Bh with F9h in byte 2, 001: the flush records block 16, F = 15; L = 17, a tail at 0 + 17 + 1
    ∷ line (cdb (0x2A ∷ 0 ∷ 0 ∷ 0 ∷ 1 ∷ 0 ∷ 0 ∷ 0 ∷ 1 ∷ [])) 2048 0 0 0 [] (sense 0 0 0) 257 1 sixteen_blocks
    ∷ line (0x5B ∷ 0xFF ∷ 0xF9 ∷ 0xFF ∷ 0 ∷ 1 ∷ 0xFF ∷ 0xFF ∷ 0xFF ∷ 0xFF ∷ 0xFF ∷ 0xFF ∷ []) 0 0 0 1 [] (sense 0 0 0) 288 0 closed_at17
    -- WRITE 288 of 1: one sector pending in the tail
    ∷ line (cdb (0x2A ∷ 0 ∷ 0 ∷ 0 ∷ 1 ∷ 0x20 ∷ 0 ∷ 0 ∷ 1 ∷ [])) 2048 0 0 0 [] (sense 0 0 0) 289 1 closed_at17
    -- RESERVE 0 where the tail is not blank: its size comes first
    ∷ line (0x53 ∷ 0xFF ∷ 0xFF ∷ 0xFF ∷ 0xFF ∷ 0 ∷ 0 ∷ 0 ∷ 0 ∷ 0xFF ∷ 0xFF ∷ 0xFF ∷ []) 0 0 0x052400 0 [] (sense 0x5 0x24 0x00) 289 1 closed_at17
    -- 5B/001 number 2: with a sector pending it is not blank; the flush makes W = 1, F = 15; a tail at 18 + 1 + 1
    ∷ line (cdb (0x5B ∷ 0 ∷ 1 ∷ 0 ∷ 0 ∷ 2 ∷ [])) 0 0 0 1 [] (sense 0 0 0) 320 0 closed_twice
    -- 5B/010: the blank tail goes, e = 19, session 2 at 19 + 128
    ∷ line (cdb (0x5B ∷ 0 ∷ 2 ∷ [])) 0 0 0 0 [] (sense 0 0 0) 2352 0 (second_of 0)
    -- WRITE 2352 of 16, and 5B/010: e = 147 + 1, session 3 at 148 + 128
    ∷ line (cdb (0x2A ∷ 0 ∷ 0 ∷ 0 ∷ 9 ∷ 0x30 ∷ 0 ∷ 0 ∷ 16 ∷ [])) 32768 0 0 1 [] (sense 0 0 0) 2368 0 (second_of 1)
    ∷ line (cdb (0x5B ∷ 0 ∷ 2 ∷ [])) 0 0 0 0 [] (sense 0 0 0) 4416 0 third_open
    -- 51h: session 3, its first and last fragment is number 4
    ∷ line (cdb (0x51 ∷ 0 ∷ 0 ∷ 0 ∷ 0 ∷ 0 ∷ 0 ∷ 0 ∷ 34 ∷ [])) 0 34 0 0
    (0 ∷ 0x20 ∷ 1 ∷ 1 ∷ 3 ∷ 4 ∷ 4 ∷ replicate 27 0)
    (sense 0 0 0) 4416 0 third_open
    ∷ []

abbrev completed_run : List Line
completed_run =
    -- 5B/110: as after the flush the reserved fragment is complete, F = 16 - 5; the blank tail goes
    line (cdb (0x5B ∷ 0 ∷ 6 ∷ [])) 0 0 0 1 [] (sense 0 0 0) 0 0 eleven_filled
    ∷ []

abbrev up_to298 : List Line
up_to298 =
    -- 5B/001: a tail at 298 + 1, the last block; WRITE 4784 of 16 completes it, and then there is no tail
    line (cdb (0x5B ∷ 0 ∷ 1 ∷ 0 ∷ 0 ∷ 1 ∷ [])) 0 0 0 0 [] (sense 0 0 0) 4784 0 (last_block 0)
    ∷ line (cdb (0x2A ∷ 0 ∷ 0 ∷ 0 ∷ 0x12 ∷ 0xB0 ∷ 0 ∷ 0 ∷ 16 ∷ [])) 32768 0 0 1 [] (sense 0 0 0) 0 0 (last_block 1)
    ∷ []

abbrev up_to299 : List Line
up_to299 =
    -- 5B/001: 299 + 1 is not below 300, so no tail follows
    line (cdb (0x5B ∷ 0 ∷ 1 ∷ 0 ∷ 0 ∷ 1 ∷ [])) 0 0 0 0 [] (sense 0 0 0) 0 0 ends299
    ∷ []

abbrev empty_session : List Line
empty_session =
    -- 5B/110 where the last session is only a blank tail: it vanishes
    line (cdb (0x5B ∷ 0 ∷ 6 ∷ [])) 0 0 0 0 [] (sense 0 0 0) 0 0 one_session
    -- 51h: session 1 is the last one, with fragments 1 and 2
    ∷ line (cdb (0x51 ∷ 0 ∷ 0 ∷ 0 ∷ 0 ∷ 0 ∷ 0 ∷ 0 ∷ 34 ∷ [])) 0 34 0 0
    (0 ∷ 0x20 ∷ 0x0E ∷ 1 ∷ 1 ∷ 1 ∷ 2 ∷ replicate 27 0)
    (sense 0 0 0) 0 0 one_session
    ∷ []

abbrev on_blank : List Line
on_blank =
    -- on the blank disc: 5B/110, 5B/001 number 1, and 5B/010, which does nothing
    line (cdb (0x5B ∷ 0 ∷ 6 ∷ [])) 0 0 0x057204 0 [] (sense 0x5 0x72 0x04) 0 0 tail_only
    ∷ line (cdb (0x5B ∷ 0 ∷ 1 ∷ 0 ∷ 0 ∷ 1 ∷ [])) 0 0 0x057204 0 [] (sense 0x5 0x72 0x04) 0 0 tail_only
    ∷ line (cdb (0x5B ∷ 0 ∷ 2 ∷ [])) 0 0 0 0 [] (sense 0 0 0) 0 0 tail_only
    -- RESERVE 0, 1, 8 and 15
    ∷ line (cdb (0x53 ∷ [])) 0 0 0x052400 0 [] (sense 0x5 0x24 0x00) 0 0 tail_only
    ∷ line (cdb (0x53 ∷ 0 ∷ 0 ∷ 0 ∷ 0 ∷ 0 ∷ 0 ∷ 0 ∷ 1 ∷ [])) 0 0 0x052400 0 [] (sense 0x5 0x24 0x00) 0 0 tail_only
    ∷ line (cdb (0x53 ∷ 0 ∷ 0 ∷ 0 ∷ 0 ∷ 0 ∷ 0 ∷ 0 ∷ 8 ∷ [])) 0 0 0x052400 0 [] (sense 0x5 0x24 0x00) 0 0 tail_only
    ∷ line (cdb (0x53 ∷ 0 ∷ 0 ∷ 0 ∷ 0 ∷ 0 ∷ 0 ∷ 0 ∷ 15 ∷ [])) 0 0 0x052400 0 [] (sense 0x5 0x24 0x00) 0 0 tail_only
    ∷ []

abbrev up_to171 : List Line
up_to171 =
    -- 5B/010, e = 171 as after the flush of 15 sectors: the tail has the last block
    line (cdb (0x5B ∷ 0 ∷ 2 ∷ [])) 0 0 0 1 [] (sense 0 0 0) 4784 0 opened299
    ∷ []

abbrev up_to172 : List Line
up_to172 =
    -- 5B/010, e = 172 as after the flush of 1 sector: 172 + 129 is above 300, and nothing is flushed
    line (cdb (0x5B ∷ 0 ∷ 2 ∷ [])) 0 0 0x056300 0 [] (sense 0x5 0x63 0x00) 2737 1 ends172
    ∷ []

abbrev largest_run : List Line
largest_run =
    -- 52h number 1: 16 x 143,444 = 230540h sectors free
    line (cdb (0x52 ∷ 1 ∷ 0 ∷ 0 ∷ 0 ∷ 1 ∷ 0 ∷ 0 ∷ 36 ∷ [])) 0 36 0 0
    (0 ∷ 0x22 ∷ 1 ∷ 1 ∷ 0 ∷ 4 ∷ 0x41 ∷ 1 ∷ 0 ∷ 0 ∷ 0 ∷ 0 ∷ 0 ∷ 0 ∷ 0 ∷ 0 ∷ 0 ∷ 0x23 ∷ 5 ∷ 0x40
    ∷ 0 ∷ 0 ∷ 0 ∷ 0x10 ∷ 0 ∷ 0x23 ∷ 5 ∷ 0x40 ∷ replicate 8 0)
    (sense 0 0 0) 0 0 largest
    -- READ of the last sector, and of two from there on
    ∷ line (cdb (0x28 ∷ 0 ∷ 0 ∷ 0x23 ∷ 5 ∷ 0x3F ∷ 0 ∷ 0 ∷ 1 ∷ [])) 0 2048 0x080000 0 [] (sense 0x8 0x00 0x00) 0 0 largest
    ∷ line (cdb (0x28 ∷ 0 ∷ 0 ∷ 0x23 ∷ 5 ∷ 0x3F ∷ 0 ∷ 0 ∷ 2 ∷ [])) 0 4096 0x052100 0 [] (sense 0x5 0x21 0x00) 0 0 largest
    -- RESERVE of 16 x 143,443 sectors leaves no tail a block; 16 x 143,442 + 1 is not of whole blocks; 16 x 143,442 leaves one
    ∷ line (cdb (0x53 ∷ 0 ∷ 0 ∷ 0 ∷ 0 ∷ 0 ∷ 35 ∷ 5 ∷ 48 ∷ [])) 0 0 0x056300 0 [] (sense 0x5 0x63 0x00) 0 0 largest
    ∷ line (cdb (0x53 ∷ 0 ∷ 0 ∷ 0 ∷ 0 ∷ 0 ∷ 35 ∷ 5 ∷ 33 ∷ [])) 0 0 0x052400 0 [] (sense 0x5 0x24 0x00) 0 0 largest
    ∷ line (cdb (0x53 ∷ 0 ∷ 0 ∷ 0 ∷ 0 ∷ 0 ∷ 35 ∷ 5 ∷ 32 ∷ [])) 0 0 0 0 [] (sense 0 0 0) 2295088 0 largest_reserved
    ∷ []

abbrev wrong_all_run : List Line
wrong_all_run =
    -- a block of 11 bytes, C = 255, a finalized disc that is not complete, data of one byte: L1
    line (replicate 11 0) 1 0 1 0 [] (sense 0 0 0) 0 0 small_list
    -- the same with 12 bytes: L2
    ∷ line (cdb (0x00 ∷ [])) 1 0 2 0 [] (sense 0 0 0) 0 0 small_list
    ∷ []

abbrev wrong_state_run : List Line
wrong_state_run =
    -- C = 300: L3, before the data is looked at
    line (cdb (0x00 ∷ [])) 1 0 3 0 [] (sense 0 0 0) 0 0 three_hundred
    ∷ []

abbrev wrong_sense_run : List Line
wrong_sense_run =
    -- a sense that no refusal gives: L3
    line (cdb (0x00 ∷ [])) 1 0 3 0 [] (sense 0x5 0x21 0x01) 0 0 three_hundred
    ∷ []

abbrev lengths_run : List Line
lengths_run =
    -- a sound state: L4, before the opcode is looked at
    line (cdb (0xFF ∷ [])) 1 0 4 0 [] (sense 0 0 0) 0 0 three_hundred
    -- WRITE 9 of 1 with 2,047 bytes and with 4,096: L4; with 2,048: 5/21/02
    ∷ line (cdb (0x2A ∷ 0 ∷ 0 ∷ 0 ∷ 0 ∷ 9 ∷ 0 ∷ 0 ∷ 1 ∷ [])) 2047 0 4 0 [] (sense 0 0 0) 0 0 three_hundred
    ∷ line (cdb (0x2A ∷ 0 ∷ 0 ∷ 0 ∷ 0 ∷ 9 ∷ 0 ∷ 0 ∷ 1 ∷ [])) 4096 0 4 0 [] (sense 0 0 0) 0 0 three_hundred
    ∷ line (cdb (0x2A ∷ 0 ∷ 0 ∷ 0 ∷ 0 ∷ 9 ∷ 0 ∷ 0 ∷ 1 ∷ [])) 2048 0 0x052102 0 [] (sense 0x5 0x21 0x02) 0 0 three_hundred
    -- READ 0 of 1, 25h, 03h cut to 14, 51h and 52h with a reply buffer one byte short; the sense stays
    ∷ line (cdb (0x28 ∷ 0 ∷ 0 ∷ 0 ∷ 0 ∷ 0 ∷ 0 ∷ 0 ∷ 1 ∷ [])) 0 2047 4 0 [] (sense 0x5 0x21 0x02) 0 0 three_hundred
    ∷ line (cdb (0x25 ∷ [])) 0 7 4 0 [] (sense 0x5 0x21 0x02) 0 0 three_hundred
    ∷ line (cdb (0x03 ∷ 0 ∷ 0 ∷ 0x12 ∷ 0x0E ∷ [])) 0 13 4 0 [] (sense 0x5 0x21 0x02) 0 0 three_hundred
    ∷ line (cdb (0x51 ∷ 0 ∷ 0 ∷ 0 ∷ 0 ∷ 0 ∷ 0 ∷ 0 ∷ 34 ∷ [])) 0 33 4 0 [] (sense 0x5 0x21 0x02) 0 0 three_hundred
    ∷ line (cdb (0x52 ∷ 1 ∷ 0 ∷ 0 ∷ 0 ∷ 1 ∷ 0 ∷ 0 ∷ 36 ∷ [])) 0 35 4 0 [] (sense 0x5 0x21 0x02) 0 0 three_hundred
    -- 00h: accepted
    ∷ line (cdb (0x00 ∷ [])) 0 0 0 0 [] (sense 0 0 0) 0 0 three_hundred
    ∷ []

abbrev too_large_run : List Line
too_large_run =
    -- C = 143,445: L2
    line (cdb (0x00 ∷ [])) 0 0 2 0 [] (sense 0 0 0) 0 0 too_large
    ∷ []

abbrev pub runs : List Run
runs =
    from (blank 600) first_run ∷ from (state 600 false (sense 0 0 0) 3 1 three_pending) filling_run
    ∷ from (blank 300) fields_run ∷ from (state 600 false (sense 0 0 0) 5 1 five_pending) completed_run
    ∷ from (state 300 false (sense 0 0 0) 0 0 (up_to 300 298)) up_to298 ∷ from (state 300 false (sense 0 0 0) 0 0 (up_to 300 299)) up_to299
    ∷ from (state 600 false (sense 0 0 0) 0 0 next_session) empty_session ∷ from (blank 600) on_blank
    ∷ from (state 300 false (sense 0 0 0) 15 1 ends171) up_to171 ∷ from (state 300 false (sense 0 0 0) 1 1 ends172) up_to172
    ∷ from (blank 143444) largest_run ∷ from (state 255 true (sense 0 0 0) 0 0 small_list) wrong_all_run
    ∷ from (state 300 true (sense 0 0 0) 0 0 three_hundred) wrong_state_run
    ∷ from (state 300 false (sense 0x5 0x21 0x01) 0 0 three_hundred) wrong_sense_run ∷ from (blank 300) lengths_run ∷ from (blank 143445) too_large_run
    ∷ []

pub tour : map (λ (r : Run). played r.disc r.lines) runs ≡ map (λ (r : Run). map (λ (l : Line). l.expected) r.lines) runs
unfolding
    shown reply_bytes said played blank judge judge_command perform decode data_length reply_room lengths_fit accepted accept refuse refuse_link
    is_refusal_sense allowed_sense listed some every find sum_recorded highest_readable first_of_session
    used_first first_at_zero follows_from in_order ends_within recorded_within zeroed_within incomplete_last tail_last tail_or_full pending_named
    finalized_complete sound allowed_state
    flush flush_plan synchronize_cache all_readable medium_share sending read flush_others flush_others_plan gather write_to write_found write
    split_tail reserve append_tail close_incomplete close_fragment close_tail open_session close_session finalize close
    sense_bytes request_sense read_capacity session_state disc_status disc_bytes read_disc_information next_writable_or_zero free_sectors
    track_bytes track_verdict track_found track_numbered read_track_information test_unit_ready
tour = refl
