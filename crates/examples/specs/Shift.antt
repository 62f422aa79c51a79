-- Document 01's shift on a 300-block disc, as document 02 amends it: its starred lines as one table, in order, one run from the blank disc.
-- A line is read as its reply, its sense and the fragment list after it; `shift` says that the definitions give the table.
use Rattle.std.specs.Prelude.{ℕ, ◌≡◌, refl, cond, List, [], ◌∷◌, map, replicate}
use Rattle.examples.specs.Types.{Sense, Reserved, Appended, Fragment, Disc, Verdict}
use Rattle.protocol.specs.Reply.{said, reply_bytes}
use Rattle.protocol.specs.Answer.{sense, number, is_refusal_sense, allowed_sense}
use Rattle.protocol.specs.Command.{decode}
use Rattle.fragments.specs.Fragment.{fragment}
use Rattle.disc.specs.Records.{next_writable, records, used, last_record, has_tail}
use Rattle.fragments.specs.List.{listed, some, every, find, sum_recorded, highest_readable, first_of_session}
use Rattle.disc.specs.Sound.{used_first, first_at_zero, follows_from, in_order, ends_within, recorded_within, zeroed_within, incomplete_last, tail_last, tail_or_full, pending_named, finalized_complete, sound, allowed_state}
use Rattle.disc.specs.Blank.{blank}
use Rattle.protocol.specs.Lengths.{data_length, reply_room, lengths_fit}
use Rattle.disc.specs.Verdict.{accepted, accept, refuse, refuse_link}
use Rattle.commands.specs.Flush.{flush, flush_plan, synchronize_cache}
use Rattle.commands.specs.Read.{all_readable, medium_share, sending, read}
use Rattle.commands.specs.Write.{flush_others, flush_others_plan, gather, write_to, write_found, write}
use Rattle.commands.specs.Reserve.{split_tail, reserve}
use Rattle.commands.specs.Close.{append_tail, close_incomplete, close_fragment, close_tail, open_session, close_session, finalize, close}
use Rattle.reporting.specs.Reports.{request_sense, read_capacity, session_state, disc_status, read_disc_information, next_writable_or_zero, free_sectors, track_verdict, track_found, track_numbered, read_track_information}
use Rattle.protocol.specs.Reports.{sense_bytes, disc_bytes, track_bytes}
use Rattle.commands.specs.Judge.{test_unit_ready, perform, judge_command, judge, judge_as_asked}

-- what a command shows: the answer's number, the blocks recorded, the reply, and of the disc after it the sense, the tail's next
-- writable address (0 without a tail), the pending count and the records in use
pub record Shown : Type 0 where
  pub answer : ℕ
  pub recorded : ℕ
  pub reply : List ℕ
  pub sense : Sense
  pub next : ℕ
  pub pending : ℕ
  pub list : List Fragment

unfoldable pub shown : Verdict → Shown
shown v =
    let d = v.disc in
    record {
      answer = number v.answer;
      recorded = v.recorded;
      reply = reply_bytes v.reply;
      sense = d.sense;
      next = cond (has_tail d) (next_writable d (used d) (last_record d)).0 0;
      pending = d.pending;
      list = records d;
    }

-- each command on what the last one left, with data and a reply buffer of the lengths that it asks for
unfoldable pub run : Disc → List (List ℕ) → List Shown
run d [] = []
run d (b ∷ bs) =
    let v = judge_as_asked d b in
    shown v ∷ run v.disc bs

-- a line of the table: the command block and what it must show
pub record Line : Type 0 where
  pub command : List ℕ
  pub expected : Shown

abbrev pub line : List ℕ → ℕ → ℕ → List ℕ → Sense → ℕ → ℕ → List Fragment → Line
line b a n r s t p fs =
    record {
      command = b;
      expected = record { answer = a; recorded = n; reply = r; sense = s; next = t; pending = p; list = fs };
    }

-- the list after each change
abbrev blank_list : List Fragment
blank_list = fragment 1 0 300 0 0 Appended ∷ []

abbrev written : List Fragment
written = fragment 1 0 300 1 0 Appended ∷ []

abbrev flushed : List Fragment
flushed = fragment 1 0 300 2 12 Appended ∷ []

abbrev closed : List Fragment
closed = fragment 1 0 2 2 12 Appended ∷ fragment 1 3 297 0 0 Appended ∷ []

abbrev reserved : List Fragment
reserved = fragment 1 0 2 2 12 Appended ∷ fragment 1 3 3 0 0 Reserved ∷ fragment 1 7 293 0 0 Appended ∷ []

abbrev filled : List Fragment
filled = fragment 1 0 2 2 12 Appended ∷ fragment 1 3 3 3 0 Reserved ∷ fragment 1 7 293 0 0 Appended ∷ []

abbrev second_session : List Fragment
second_session = fragment 1 0 2 2 12 Appended ∷ fragment 1 3 3 3 0 Reserved ∷ fragment 2 134 166 0 0 Appended ∷ []

abbrev pub table : List Line
table =
    -- 51h and 52h number 1 on the blank disc
    line (0x51 ∷ 0 ∷ 0 ∷ 0 ∷ 0 ∷ 0 ∷ 0 ∷ 0 ∷ 34 ∷ 0 ∷ 0 ∷ 0 ∷ [])
    0 0 (0x00 ∷ 0x20 ∷ 0 ∷ 1 ∷ 1 ∷ 1 ∷ 1 ∷ replicate 27 0) (sense 0 0 0) 0 0 blank_list
    ∷ line (0x52 ∷ 1 ∷ 0 ∷ 0 ∷ 0 ∷ 1 ∷ 0 ∷ 0 ∷ 36 ∷ 0 ∷ 0 ∷ 0 ∷ [])
    0 0
    (0x00 ∷ 0x22 ∷ 1 ∷ 1 ∷ 0 ∷ 0x04 ∷ 0x41 ∷ 0x01 ∷ 0 ∷ 0 ∷ 0 ∷ 0 ∷ 0 ∷ 0 ∷ 0 ∷ 0 ∷ 0 ∷ 0 ∷ 0x12 ∷ 0xC0
    ∷ 0 ∷ 0 ∷ 0 ∷ 16 ∷ 0 ∷ 0 ∷ 0x12 ∷ 0xC0 ∷ replicate 8 0)
    (sense 0 0 0) 0 0 blank_list
    -- WRITE 0 of 20, WRITE 16 of 1, 35h
    ∷ line (0x2A ∷ 0 ∷ 0 ∷ 0 ∷ 0 ∷ 0 ∷ 0 ∷ 0 ∷ 20 ∷ 0 ∷ 0 ∷ 0 ∷ []) 0 1 [] (sense 0 0 0) 20 4 written
    ∷ line (0x2A ∷ 0 ∷ 0 ∷ 0 ∷ 0 ∷ 16 ∷ 0 ∷ 0 ∷ 1 ∷ 0 ∷ 0 ∷ 0 ∷ []) 0x052102 0 [] (sense 0x5 0x21 0x02) 20 4 written
    ∷ line (0x35 ∷ 0 ∷ 0 ∷ 0 ∷ 0 ∷ 0 ∷ 0 ∷ 0 ∷ 0 ∷ 0 ∷ 0 ∷ 0 ∷ []) 0 1 [] (sense 0 0 0) 32 0 flushed
    -- READ 16 of 16, 32 of 1, 4800 of 1 and of 0
    ∷ line (0x28 ∷ 0 ∷ 0 ∷ 0 ∷ 0 ∷ 16 ∷ 0 ∷ 0 ∷ 16 ∷ 0 ∷ 0 ∷ 0 ∷ []) 0 0 [] (sense 0 0 0) 32 0 flushed
    ∷ line (0x28 ∷ 0 ∷ 0 ∷ 0 ∷ 0 ∷ 32 ∷ 0 ∷ 0 ∷ 1 ∷ 0 ∷ 0 ∷ 0 ∷ []) 0x080000 0 [] (sense 0x8 0x00 0x00) 32 0 flushed
    ∷ line (0x28 ∷ 0 ∷ 0 ∷ 0 ∷ 0x12 ∷ 0xC0 ∷ 0 ∷ 0 ∷ 1 ∷ 0 ∷ 0 ∷ 0 ∷ []) 0x052100 0 [] (sense 0x5 0x21 0x00) 32 0 flushed
    ∷ line (0x28 ∷ 0 ∷ 0 ∷ 0 ∷ 0x12 ∷ 0xC0 ∷ 0 ∷ 0 ∷ 0 ∷ 0 ∷ 0 ∷ 0 ∷ []) 0 0 [] (sense 0 0 0) 32 0 flushed
    -- 5B/001 number 1, RESERVE 33 and 48, 5B/010
    ∷ line (0x5B ∷ 0 ∷ 1 ∷ 0 ∷ 0 ∷ 1 ∷ 0 ∷ 0 ∷ 0 ∷ 0 ∷ 0 ∷ 0 ∷ []) 0 0 [] (sense 0 0 0) 48 0 closed
    ∷ line (0x53 ∷ 0 ∷ 0 ∷ 0 ∷ 0 ∷ 0 ∷ 0 ∷ 0 ∷ 33 ∷ 0 ∷ 0 ∷ 0 ∷ []) 0x052400 0 [] (sense 0x5 0x24 0x00) 48 0 closed
    ∷ line (0x53 ∷ 0 ∷ 0 ∷ 0 ∷ 0 ∷ 0 ∷ 0 ∷ 0 ∷ 48 ∷ 0 ∷ 0 ∷ 0 ∷ []) 0 0 [] (sense 0 0 0) 112 0 reserved
    ∷ line (0x5B ∷ 0 ∷ 2 ∷ 0 ∷ 0 ∷ 0 ∷ 0 ∷ 0 ∷ 0 ∷ 0 ∷ 0 ∷ 0 ∷ []) 0x057203 0 [] (sense 0x5 0x72 0x03) 112 0 reserved
    -- WRITE 48 of 49 and of 48, 5B/010
    ∷ line (0x2A ∷ 0 ∷ 0 ∷ 0 ∷ 0 ∷ 48 ∷ 0 ∷ 0 ∷ 49 ∷ 0 ∷ 0 ∷ 0 ∷ []) 0x056300 0 [] (sense 0x5 0x63 0x00) 112 0 reserved
    ∷ line (0x2A ∷ 0 ∷ 0 ∷ 0 ∷ 0 ∷ 48 ∷ 0 ∷ 0 ∷ 48 ∷ 0 ∷ 0 ∷ 0 ∷ []) 0 3 [] (sense 0 0 0) 112 0 filled
    ∷ line (0x5B ∷ 0 ∷ 2 ∷ 0 ∷ 0 ∷ 0 ∷ 0 ∷ 0 ∷ 0 ∷ 0 ∷ 0 ∷ 0 ∷ []) 0 0 [] (sense 0 0 0) 2144 0 second_session
    ∷ []

pub shift : run (blank 300) (map (λ l. l.command) table) ≡ map (λ l. l.expected) table
unfolding
    shown reply_bytes said run blank judge judge_command perform decode data_length reply_room lengths_fit accepted accept refuse refuse_link
    is_refusal_sense allowed_sense listed some every find sum_recorded highest_readable first_of_session
    used_first first_at_zero follows_from in_order ends_within recorded_within zeroed_within incomplete_last tail_last tail_or_full pending_named
    finalized_complete sound allowed_state
    flush flush_plan synchronize_cache all_readable medium_share sending read flush_others flush_others_plan gather write_to write_found write
    split_tail reserve append_tail close_incomplete close_fragment close_tail open_session close_session finalize close
    sense_bytes request_sense read_capacity session_state disc_status disc_bytes read_disc_information next_writable_or_zero free_sectors
    track_bytes track_verdict track_found track_numbered read_track_information test_unit_ready
shift = refl
