-- Runs on discs whose list is full, or has one record free: what takes the last record, and what is refused without a free one. What each line
-- must show was worked out by hand from document 01 as document 02 amends it. The commands are performed past
-- the link, since its check of a full list is most of what there is to compute: `sound_starts` has it for each list that a run starts on, and
-- what a command makes of a sound list is sound by a law of `outcomes`.
use Rattle.std.specs.Prelude.{ℕ, ◌+◌, ◌-◌, ◌*◌, ◌/◌, ◌%◌, ◌≡◌, refl, true, false, List, [], ◌∷◌, ◌++◌, map, replicate}
use Rattle.protocol.specs.Reply.{said, reply_bytes}
use Rattle.protocol.specs.Answer.{sense, is_refusal_sense, allowed_sense}
use Rattle.protocol.specs.Command.{decode}
use Rattle.protocol.specs.Reports.{disc_bytes, track_bytes}
use Rattle.fragments.specs.Fragment.{fragment}
use Rattle.fragments.specs.List.{limit, listed, some, every, find, sum_recorded, first_of_session}
use Rattle.disc.specs.Sound.{used_first, first_at_zero, follows_from, in_order, ends_within, recorded_within, zeroed_within, incomplete_last, tail_last, tail_or_full, pending_named, finalized_complete, sound, allowed_state}
use Rattle.disc.specs.Verdict.{accepted, accept, refuse}
use Rattle.reporting.specs.Reports.{session_state, disc_status, read_disc_information, next_writable_or_zero, free_sectors, track_verdict, track_found, track_numbered, read_track_information}
use Rattle.commands.specs.Flush.{flush, flush_plan, synchronize_cache}
use Rattle.commands.specs.Write.{flush_others, flush_others_plan, gather, write_to, write_found, write}
use Rattle.commands.specs.Reserve.{split_tail, reserve}
use Rattle.commands.specs.Close.{append_tail, close_incomplete, close_fragment, close_tail, open_session, close_session, finalize, close}
use Rattle.commands.specs.Judge.{perform}
use Rattle.examples.specs.Types.{Reserved, Appended, Fragment, Disc}
use Rattle.examples.specs.Shift.{Line, line, Shown, shown}
use Rattle.examples.specs.States.{on, column, last_start, crowded, full_of_tail}
use Rattle.examples.specs.Tour.{cdb}

-- a number in four bytes, of which the low two are enough
abbrev wide : ℕ → List ℕ
wide n = 0 ∷ 0 ∷ (n / 256) ∷ (n % 256) ∷ []

-- WRITE of n sectors at such an address
abbrev write_at : ℕ → ℕ → List ℕ
write_at a n = cdb (0x2A ∷ 0 ∷ (wide a ++ (0 ∷ 0 ∷ n ∷ [])))

-- READ TRACK INFORMATION at such an address, and what it says of the tail of a full list
abbrev track_at : ℕ → List ℕ
track_at a = cdb (0x52 ∷ 0 ∷ (wide a ++ (0 ∷ 0 ∷ 36 ∷ [])))

abbrev tail_report : List ℕ
tail_report =
    0 ∷ 0x22 ∷ limit ∷ 1 ∷ 0 ∷ 4 ∷ 0x41 ∷ 1
    ∷ (wide (16 * last_start) ++ wide (16 * last_start) ++ wide 2080 ++ wide 16 ++ wide 2080 ++ replicate 8 0)

-- a full list: the last record reserved, with w of its two blocks recorded; and session 2 in the record of a blank tail
abbrev full_list : ℕ → List Fragment
full_list w = column (limit - 1) 0 ++ (fragment 1 last_start 2 w 0 Reserved ∷ [])

abbrev opened_list : List Fragment
opened_list = column (limit - 1) 0 ++ (fragment 2 (last_start + 127) 3 0 0 Appended ∷ [])

-- one record free, the last one a tail with w blocks recorded; a block of it reserved; and it closed, with a tail in the last record, w
-- blocks of that recorded, and that closed too
abbrev one_free : ℕ → List Fragment
one_free w = column (limit - 2) 0 ++ (fragment 1 (last_start - 2) 132 w 0 Appended ∷ [])

abbrev last_reserved : List Fragment
last_reserved = column (limit - 2) 0 ++ (fragment 1 (last_start - 2) 1 0 0 Reserved ∷ fragment 1 last_start 130 0 0 Appended ∷ [])

abbrev last_record_taken : ℕ → List Fragment
last_record_taken w = column (limit - 2) 0 ++ (fragment 1 (last_start - 2) 1 1 0 Appended ∷ fragment 1 last_start 130 w 0 Appended ∷ [])

abbrev none_free : List Fragment
none_free = column (limit - 2) 0 ++ (fragment 1 (last_start - 2) 1 1 0 Appended ∷ fragment 1 last_start 1 1 0 Appended ∷ [])

-- and a session in the last record
abbrev session_last : List Fragment
session_last = column (limit - 2) 0 ++ (fragment 1 (last_start - 2) 1 1 0 Appended ∷ fragment 2 (last_start + 127) 3 0 0 Appended ∷ [])

abbrev last_free_run : List Line
last_free_run =
    -- 5B/001 of the last but one record: one is free, and the tail after it takes that
    line (cdb (0x5B ∷ 0 ∷ 1 ∷ 0 ∷ 0 ∷ (limit - 1) ∷ [])) 0 0 [] (sense 0 0 0) (16 * last_start) 0 (last_record_taken 0)
    -- a block is written there, and 5B/001 of the last record: none is free, so no tail follows
    ∷ line (write_at (16 * last_start) 16) 0 1 [] (sense 0 0 0) (16 * last_start + 16) 0 (last_record_taken 1)
    ∷ line (cdb (0x5B ∷ 0 ∷ 1 ∷ 0 ∷ 0 ∷ limit ∷ [])) 0 0 [] (sense 0 0 0) 0 0 none_free
    -- 5B/010: a full list is kept, though e + 129 is the capacity and not above it
    ∷ line (cdb (0x5B ∷ 0 ∷ 2 ∷ [])) 0x057205 0 [] (sense 0x5 0x72 0x05) 0 0 none_free
    ∷ []

abbrev last_reserved_run : List Line
last_reserved_run =
    -- RESERVE 16 with one record free: the new tail takes it; and again, with none free
    line (cdb (0x53 ∷ 0 ∷ 0 ∷ 0 ∷ 0 ∷ 0 ∷ 0 ∷ 0 ∷ 16 ∷ [])) 0 0 [] (sense 0 0 0) (16 * last_start) 0 last_reserved
    ∷ line (cdb (0x53 ∷ 0 ∷ 0 ∷ 0 ∷ 0 ∷ 0 ∷ 0 ∷ 0 ∷ 16 ∷ [])) 0x057205 0 [] (sense 0x5 0x72 0x05) (16 * last_start) 0 last_reserved
    ∷ []

abbrev last_session_run : List Line
last_session_run =
    -- 5B/010 with one record free and a written tail: all are kept, and session 2 takes the last record, 128 blocks after the tail's end
    line (cdb (0x5B ∷ 0 ∷ 2 ∷ [])) 0 0 [] (sense 0 0 0) (16 * (last_start + 127)) 0 session_last
    ∷ []

abbrev full_run : List Line
full_run =
    -- 5B/010 and 5B/110 with all that can be wrong: a reserved fragment is incomplete, a full list is kept, e + 129 is above the capacity
    line (cdb (0x5B ∷ 0 ∷ 2 ∷ [])) 0x057203 0 [] (sense 0x5 0x72 0x03) 0 0 (full_list 1)
    ∷ line (cdb (0x5B ∷ 0 ∷ 6 ∷ [])) 0x057203 0 [] (sense 0x5 0x72 0x03) 0 0 (full_list 1)
    -- its last block is written
    ∷ line (write_at (16 * last_start + 16) 16) 0 1 [] (sense 0 0 0) 0 0 (full_list 2)
    -- 5B/010: a full list is kept
    ∷ line (cdb (0x5B ∷ 0 ∷ 2 ∷ [])) 0x057205 0 [] (sense 0x5 0x72 0x05) 0 0 (full_list 2)
    ∷ []

abbrev dropped_run : List Line
dropped_run =
    -- with a full list RESERVE 2065, which is not of whole blocks, RESERVE 2064, 129 blocks, for which there is no room either, and RESERVE 16
    line (cdb (0x53 ∷ 0 ∷ 0 ∷ 0 ∷ 0 ∷ 0 ∷ 0 ∷ 8 ∷ 0x11 ∷ [])) 0x052400 0 [] (sense 0x5 0x24 0x00) (16 * last_start) 0 full_of_tail
    ∷ line (cdb (0x53 ∷ 0 ∷ 0 ∷ 0 ∷ 0 ∷ 0 ∷ 0 ∷ 8 ∷ 0x10 ∷ [])) 0x057205 0 [] (sense 0x5 0x72 0x05) (16 * last_start) 0 full_of_tail
    ∷ line (cdb (0x53 ∷ 0 ∷ 0 ∷ 0 ∷ 0 ∷ 0 ∷ 0 ∷ 0 ∷ 16 ∷ [])) 0x057205 0 [] (sense 0x5 0x72 0x05) (16 * last_start) 0 full_of_tail
    -- 51h: the session's first and last fragment
    ∷ line (cdb (0x51 ∷ 0 ∷ 0 ∷ 0 ∷ 0 ∷ 0 ∷ 0 ∷ 0 ∷ 34 ∷ [])) 0 0
    (0 ∷ 0x20 ∷ 5 ∷ 1 ∷ 1 ∷ 1 ∷ limit ∷ replicate 27 0)
    (sense 0 0 0) (16 * last_start) 0 full_of_tail
    -- 52h of the last number: a blank tail, 16 x 130 = 2,080 sectors free; the one after it is none
    ∷ line (cdb (0x52 ∷ 1 ∷ 0 ∷ 0 ∷ 0 ∷ limit ∷ 0 ∷ 0 ∷ 36 ∷ [])) 0 0
    tail_report (sense 0 0 0) (16 * last_start) 0 full_of_tail
    ∷ line (cdb (0x52 ∷ 1 ∷ 0 ∷ 0 ∷ 0 ∷ (limit + 1) ∷ 0 ∷ 0 ∷ 36 ∷ [])) 0x052400 0 [] (sense 0x5 0x24 0x00) (16 * last_start) 0 full_of_tail
    -- 52h by address: the last sector of the disc lies in the same fragment, the one before its first in a dividing block
    ∷ line (track_at (16 * crowded - 1)) 0 0 tail_report (sense 0 0 0) (16 * last_start) 0 full_of_tail
    ∷ line (track_at (16 * last_start - 1)) 0x052100 0 [] (sense 0x5 0x21 0x00) (16 * last_start) 0 full_of_tail
    -- 5B/010, which drops the blank tail and so keeps one record fewer: session 2, 128 blocks after the last of those
    ∷ line (cdb (0x5B ∷ 0 ∷ 2 ∷ [])) 0 0 [] (sense 0 0 0) (16 * (last_start + 127)) 0 opened_list
    ∷ []

abbrev pending_run : List Line
pending_run =
    -- three sectors pending in the tail of a full list; 5B/010 would keep the tail, so it is refused, and flushes nothing
    line (write_at (16 * last_start) 3) 0 0 [] (sense 0 0 0) (16 * last_start + 3) 3 full_of_tail
    ∷ line (cdb (0x5B ∷ 0 ∷ 2 ∷ [])) 0x057205 0 [] (sense 0x5 0x72 0x05) (16 * last_start + 3) 3 full_of_tail
    ∷ []

-- a run: the list that it starts on, and its lines, each on what the last one left
pub record Run : Type 0 where
  pub list : List Fragment
  pub lines : List Line

abbrev from : List Fragment → List Line → Run
from fs ls = record { list = fs; lines = ls }

unfoldable pub performed : Disc → List Line → List Shown
performed d [] = []
performed d (l ∷ ls) =
    let v = perform d (decode l.command) in
    shown v ∷ performed v.disc ls

abbrev pub runs : List Run
runs =
    from (one_free 1) last_free_run ∷ from (one_free 0) last_reserved_run ∷ from (one_free 1) last_session_run ∷ from (full_list 1) full_run
    ∷ from full_of_tail dropped_run ∷ from full_of_tail pending_run ∷ []

-- the disc that a run starts on
abbrev pub start : Run → Disc
start r = on crowded 0 0 false r.list

pub sound_starts : map (λ (r : Run). allowed_state (start r)) runs ≡ true ∷ true ∷ true ∷ true ∷ true ∷ true ∷ []
unfolding
    allowed_state sound column listed every used_first first_at_zero follows_from in_order ends_within recorded_within zeroed_within
    incomplete_last tail_last tail_or_full pending_named finalized_complete allowed_sense is_refusal_sense
sound_starts = refl

pub full : map (λ (r : Run). performed (start r) r.lines) runs ≡ map (λ (r : Run). map (λ (l : Line). l.expected) r.lines) runs
unfolding
    shown reply_bytes said performed column perform decode accepted accept refuse listed some find sum_recorded first_of_session
    flush flush_plan synchronize_cache flush_others flush_others_plan gather write_to write_found write
    split_tail reserve append_tail close_incomplete close_fragment close_tail open_session close_session finalize close
    session_state disc_status disc_bytes read_disc_information next_writable_or_zero free_sectors track_bytes track_verdict track_found track_numbered
    read_track_information
full = refl
