-- READ (12) and WRITE (12), A8h and AAh, as a table of runs in the manner of Tour: lengths and addresses up to 2^32 - 1, sums that pass 32 bits,
-- data and reply buffers of the right and of wrong lengths, both forms in turn. What each line must show was worked out by hand; `forms` says
-- that the definitions give it.
use Rattle.std.specs.Prelude.{◌≡◌, refl, true, false, List, [], ◌∷◌, map}
use Rattle.protocol.specs.Reply.{said, reply_bytes}
use Rattle.protocol.specs.Answer.{sense, is_refusal_sense, allowed_sense}
use Rattle.disc.specs.Blank.{blank}
use Rattle.protocol.specs.Command.{decode}
use Rattle.fragments.specs.List.{listed, some, every, find, sum_recorded}
use Rattle.disc.specs.Sound.{used_first, first_at_zero, follows_from, in_order, ends_within, recorded_within, zeroed_within, incomplete_last, tail_last, tail_or_full, pending_named, finalized_complete, sound, allowed_state}
use Rattle.protocol.specs.Lengths.{data_length, reply_room, lengths_fit}
use Rattle.disc.specs.Verdict.{accepted, accept, refuse, refuse_link}
use Rattle.commands.specs.Flush.{flush, flush_plan}
use Rattle.commands.specs.Read.{all_readable, medium_share, sending, read}
use Rattle.commands.specs.Write.{flush_others, flush_others_plan, gather, write_to, write_found, write}
use Rattle.commands.specs.Judge.{perform, judge_command, judge}
use Rattle.examples.specs.Shift.{shown}
use Rattle.examples.specs.Tour.{Line, line, Run, from, played, cdb, state, three_pending, other_flushed, up_to}

-- on the blank disc of 300 blocks, until it is full
abbrev blank_run : List Line
blank_run =
    -- length 0 at the last address: accepted, whatever the disc
    line (cdb (0xAA ∷ 0 ∷ 0xFF ∷ 0xFF ∷ 0xFF ∷ 0xFF ∷ 0 ∷ 0 ∷ 0 ∷ 0 ∷ [])) 0 0 0 0 [] (sense 0 0 0) 0 0 (up_to 300 0)
    ∷ line (cdb (0xA8 ∷ 0 ∷ 0xFF ∷ 0xFF ∷ 0xFF ∷ 0xFF ∷ 0 ∷ 0 ∷ 0 ∷ 0 ∷ [])) 0 0 0 0 [] (sense 0 0 0) 0 0 (up_to 300 0)
    -- READ (12) 0 of 1: blank
    ∷ line (cdb (0xA8 ∷ 0 ∷ 0 ∷ 0 ∷ 0 ∷ 0 ∷ 0 ∷ 0 ∷ 0 ∷ 1 ∷ [])) 0 2048 0x080000 0 [] (sense 0x8 0x00 0x00) 0 0 (up_to 300 0)
    -- READ (12) 0 of 65,536 passes the 4,800 sectors, which the 256 of bytes 7 and 8 would not; its buffer a byte short is L4
    ∷ line (cdb (0xA8 ∷ 0 ∷ 0 ∷ 0 ∷ 0 ∷ 0 ∷ 0 ∷ 1 ∷ 0 ∷ 0 ∷ [])) 0 134217728 0x052100 0 [] (sense 0x5 0x21 0x00) 0 0 (up_to 300 0)
    ∷ line (cdb (0xA8 ∷ 0 ∷ 0 ∷ 0 ∷ 0 ∷ 0 ∷ 0 ∷ 1 ∷ 0 ∷ 0 ∷ [])) 0 134217727 4 0 [] (sense 0x5 0x21 0x00) 0 0 (up_to 300 0)
    -- WRITE (12) 0 of 65,536 passes the fragment; with the data of 256 sectors it is L4
    ∷ line (cdb (0xAA ∷ 0 ∷ 0 ∷ 0 ∷ 0 ∷ 0 ∷ 0 ∷ 1 ∷ 0 ∷ 0 ∷ [])) 134217728 0 0x056300 0 [] (sense 0x5 0x63 0x00) 0 0 (up_to 300 0)
    ∷ line (cdb (0xAA ∷ 0 ∷ 0 ∷ 0 ∷ 0 ∷ 0 ∷ 0 ∷ 1 ∷ 0 ∷ 0 ∷ [])) 524288 0 4 0 [] (sense 0x5 0x63 0x00) 0 0 (up_to 300 0)
    -- the longest: 2,048 x (2^32 - 1) bytes; a byte fewer is L4, and so are none and the low 32 bits of that product
    ∷ line (cdb (0xAA ∷ 0 ∷ 0 ∷ 0 ∷ 0 ∷ 0 ∷ 0xFF ∷ 0xFF ∷ 0xFF ∷ 0xFF ∷ [])) 8796093020160 0 0x056300 0 [] (sense 0x5 0x63 0x00) 0 0 (up_to 300 0)
    ∷ line (cdb (0xAA ∷ 0 ∷ 0 ∷ 0 ∷ 0 ∷ 0 ∷ 0xFF ∷ 0xFF ∷ 0xFF ∷ 0xFF ∷ [])) 8796093020159 0 4 0 [] (sense 0x5 0x63 0x00) 0 0 (up_to 300 0)
    ∷ line (cdb (0xAA ∷ 0 ∷ 0 ∷ 0 ∷ 0 ∷ 0 ∷ 0xFF ∷ 0xFF ∷ 0xFF ∷ 0xFF ∷ [])) 0 0 4 0 [] (sense 0x5 0x63 0x00) 0 0 (up_to 300 0)
    ∷ line (cdb (0xAA ∷ 0 ∷ 0 ∷ 0 ∷ 0 ∷ 0 ∷ 0xFF ∷ 0xFF ∷ 0xFF ∷ 0xFF ∷ [])) 4294965248 0 4 0 [] (sense 0x5 0x63 0x00) 0 0 (up_to 300 0)
    ∷ line (cdb (0xA8 ∷ 0 ∷ 0 ∷ 0 ∷ 0 ∷ 0 ∷ 0xFF ∷ 0xFF ∷ 0xFF ∷ 0xFF ∷ [])) 0 8796093020160 0x052100 0 [] (sense 0x5 0x21 0x00) 0 0 (up_to 300 0)
    ∷ line (cdb (0xA8 ∷ 0 ∷ 0 ∷ 0 ∷ 0 ∷ 0 ∷ 0xFF ∷ 0xFF ∷ 0xFF ∷ 0xFF ∷ [])) 0 8796093020159 4 0 [] (sense 0x5 0x21 0x00) 0 0 (up_to 300 0)
    -- address and length past 32 bits: 2^32 - 1 and 1 are 0 there, 2^32 - 16 and 32 are 16
    ∷ line (cdb (0xA8 ∷ 0 ∷ 0xFF ∷ 0xFF ∷ 0xFF ∷ 0xFF ∷ 0 ∷ 0 ∷ 0 ∷ 1 ∷ [])) 0 2048 0x052100 0 [] (sense 0x5 0x21 0x00) 0 0 (up_to 300 0)
    ∷ line (cdb (0xA8 ∷ 0 ∷ 0xFF ∷ 0xFF ∷ 0xFF ∷ 0xF0 ∷ 0 ∷ 0 ∷ 0 ∷ 0x20 ∷ [])) 0 65536 0x052100 0 [] (sense 0x5 0x21 0x00) 0 0 (up_to 300 0)
    ∷ line (cdb (0xA8 ∷ 0 ∷ 0xFF ∷ 0xFF ∷ 0xFF ∷ 0xFF ∷ 0xFF ∷ 0xFF ∷ 0xFF ∷ 0xFF ∷ [])) 0 8796093020160 0x052100 0 [] (sense 0x5 0x21 0x00) 0 0 (up_to 300 0)
    ∷ line (cdb (0xAA ∷ 0 ∷ 0xFF ∷ 0xFF ∷ 0xFF ∷ 0xFF ∷ 0 ∷ 0 ∷ 0 ∷ 1 ∷ [])) 2048 0 0x052102 0 [] (sense 0x5 0x21 0x02) 0 0 (up_to 300 0)
    ∷ line (cdb (0xAA ∷ 0 ∷ 0xFF ∷ 0xFF ∷ 0xFF ∷ 0xF0 ∷ 0 ∷ 0 ∷ 0 ∷ 0x20 ∷ [])) 65536 0 0x052102 0 [] (sense 0x5 0x21 0x02) 0 0 (up_to 300 0)
    ∷ line (cdb (0xAA ∷ 0 ∷ 0xFF ∷ 0xFF ∷ 0xFF ∷ 0xFF ∷ 0xFF ∷ 0xFF ∷ 0xFF ∷ 0xFF ∷ [])) 8796093020160 0 0x052102 0 [] (sense 0x5 0x21 0x02) 0 0 (up_to 300 0)
    -- bytes 1, 10 and 11 are not looked at: WRITE (12) 0 of 5, and its five pending sectors by READ (12); a sixth is not there
    ∷ line (0xAA ∷ 0xFF ∷ 0 ∷ 0 ∷ 0 ∷ 0 ∷ 0 ∷ 0 ∷ 0 ∷ 5 ∷ 0xFF ∷ 0xFF ∷ []) 10240 0 0 0 [] (sense 0 0 0) 5 5 (up_to 300 0)
    ∷ line (0xA8 ∷ 0xFF ∷ 0 ∷ 0 ∷ 0 ∷ 0 ∷ 0 ∷ 0 ∷ 0 ∷ 5 ∷ 0xFF ∷ 0xFF ∷ []) 0 10240 0 0 [] (sense 0 0 0) 5 5 (up_to 300 0)
    ∷ line (cdb (0xA8 ∷ 0 ∷ 0 ∷ 0 ∷ 0 ∷ 0 ∷ 0 ∷ 0 ∷ 0 ∷ 6 ∷ [])) 0 12288 0x080000 0 [] (sense 0x8 0x00 0x00) 5 5 (up_to 300 0)
    -- WRITE (12) 5 of 2^32 - 5, which ends at 0 in 32 bits; of 4,796, a sector too many
    ∷ line (cdb (0xAA ∷ 0 ∷ 0 ∷ 0 ∷ 0 ∷ 5 ∷ 0xFF ∷ 0xFF ∷ 0xFF ∷ 0xFB ∷ [])) 8796093011968 0 0x056300 0 [] (sense 0x5 0x63 0x00) 5 5 (up_to 300 0)
    ∷ line (cdb (0xAA ∷ 0 ∷ 0 ∷ 0 ∷ 0 ∷ 5 ∷ 0 ∷ 0 ∷ 0x12 ∷ 0xBC ∷ [])) 9822208 0 0x056300 0 [] (sense 0x5 0x63 0x00) 5 5 (up_to 300 0)
    -- WRITE (10) goes on where WRITE (12) ended, and WRITE (12) takes all the rest: 1 and 299 blocks
    ∷ line (cdb (0x2A ∷ 0 ∷ 0 ∷ 0 ∷ 0 ∷ 5 ∷ 0 ∷ 0 ∷ 0x0B ∷ [])) 22528 0 0 1 [] (sense 0 0 0) 16 0 (up_to 300 1)
    ∷ line (cdb (0xAA ∷ 0 ∷ 0 ∷ 0 ∷ 0 ∷ 0x10 ∷ 0 ∷ 0 ∷ 0x12 ∷ 0xB0 ∷ [])) 9797632 0 0 299 [] (sense 0 0 0) 0 0 (up_to 300 300)
    -- READ (12) of the last block, and a sector further
    ∷ line (cdb (0xA8 ∷ 0 ∷ 0 ∷ 0 ∷ 0x12 ∷ 0xB0 ∷ 0 ∷ 0 ∷ 0 ∷ 0x10 ∷ [])) 0 32768 0 0 [] (sense 0 0 0) 0 0 (up_to 300 300)
    ∷ line (cdb (0xA8 ∷ 0 ∷ 0 ∷ 0 ∷ 0x12 ∷ 0xB0 ∷ 0 ∷ 0 ∷ 0 ∷ 0x11 ∷ [])) 0 34816 0x052100 0 [] (sense 0x5 0x21 0x00) 0 0 (up_to 300 300)
    -- the fragment is complete: no address is a next writable one
    ∷ line (cdb (0xAA ∷ 0 ∷ 0 ∷ 0 ∷ 0x12 ∷ 0xC0 ∷ 0 ∷ 0 ∷ 0 ∷ 1 ∷ [])) 2048 0 0x052102 0 [] (sense 0x5 0x21 0x02) 0 0 (up_to 300 300)
    ∷ []

-- on that disc finalized
abbrev finalized_run : List Line
finalized_run =
    -- length 0 is accepted, the data is looked at first, and then the disc before the address
    line (cdb (0xAA ∷ 0 ∷ 0xFF ∷ 0xFF ∷ 0xFF ∷ 0xFF ∷ 0 ∷ 0 ∷ 0 ∷ 0 ∷ [])) 0 0 0 0 [] (sense 0 0 0) 0 0 (up_to 300 300)
    ∷ line (cdb (0xAA ∷ 0 ∷ 0 ∷ 0 ∷ 0 ∷ 0 ∷ 0 ∷ 0 ∷ 0 ∷ 1 ∷ [])) 0 0 4 0 [] (sense 0 0 0) 0 0 (up_to 300 300)
    ∷ line (cdb (0xAA ∷ 0 ∷ 0 ∷ 0 ∷ 0 ∷ 0 ∷ 0 ∷ 0 ∷ 0 ∷ 1 ∷ [])) 2048 0 0x072700 0 [] (sense 0x7 0x27 0x00) 0 0 (up_to 300 300)
    ∷ line (cdb (0xAA ∷ 0 ∷ 0xFF ∷ 0xFF ∷ 0xFF ∷ 0xFF ∷ 0xFF ∷ 0xFF ∷ 0xFF ∷ 0xFF ∷ [])) 8796093020160 0 0x072700 0 [] (sense 0x7 0x27 0x00) 0 0 (up_to 300 300)
    ∷ line (cdb (0xA8 ∷ 0 ∷ 0 ∷ 0 ∷ 0 ∷ 0 ∷ 0 ∷ 0 ∷ 0 ∷ 0x10 ∷ [])) 0 32768 0 0 [] (sense 0 0 0) 0 0 (up_to 300 300)
    ∷ []

-- with sectors pending in a reserved fragment
abbrev other_run : List Line
other_run =
    -- READ (12) over the border to the three pending sectors; WRITE (12) to the other fragment flushes them first
    line (cdb (0xA8 ∷ 0 ∷ 0 ∷ 0 ∷ 0 ∷ 0 ∷ 0 ∷ 0 ∷ 0 ∷ 0x13 ∷ [])) 0 38912 0 0 [] (sense 0 0 0) 80 3 three_pending
    ∷ line (cdb (0xAA ∷ 0 ∷ 0 ∷ 0 ∷ 0 ∷ 0x50 ∷ 0 ∷ 0 ∷ 0 ∷ 1 ∷ [])) 2048 0 0 1 [] (sense 0 0 0) 81 1 other_flushed
    ∷ []

-- on the largest disc
abbrev long_run : List Line
long_run =
    -- WRITE (12) 0 of 2,097,152, whose data has 2^32 bytes, without data
    line (cdb (0xAA ∷ 0 ∷ 0 ∷ 0 ∷ 0 ∷ 0 ∷ 0 ∷ 0x20 ∷ 0 ∷ 0 ∷ [])) 0 0 4 0 [] (sense 0 0 0) 0 0 (up_to 143444 0)
    -- WRITE (12) 0 of 65,535: 4,095 blocks and 15 sectors; of 65,536 from there: 15 + 65,536 are 4,096 blocks and 15
    ∷ line (cdb (0xAA ∷ 0 ∷ 0 ∷ 0 ∷ 0 ∷ 0 ∷ 0 ∷ 0 ∷ 0xFF ∷ 0xFF ∷ [])) 134215680 0 0 4095 [] (sense 0 0 0) 65535 15 (up_to 143444 4095)
    ∷ line (cdb (0xAA ∷ 0 ∷ 0 ∷ 0 ∷ 0xFF ∷ 0xFF ∷ 0 ∷ 1 ∷ 0 ∷ 0 ∷ [])) 134217728 0 0 4096 [] (sense 0 0 0) 131071 15 (up_to 143444 8191)
    -- the rest of the disc, 2,164,033 sectors: one more does not fit; 15 + 2,164,033 are 135,253 blocks
    ∷ line (cdb (0xAA ∷ 0 ∷ 0 ∷ 1 ∷ 0xFF ∷ 0xFF ∷ 0 ∷ 0x21 ∷ 5 ∷ 0x42 ∷ [])) 4431941632 0 0x056300 0 [] (sense 0x5 0x63 0x00) 131071 15 (up_to 143444 8191)
    ∷ line (cdb (0xAA ∷ 0 ∷ 0 ∷ 1 ∷ 0xFF ∷ 0xFF ∷ 0 ∷ 0x21 ∷ 5 ∷ 0x41 ∷ [])) 4431939584 0 0 135253 [] (sense 0 0 0) 0 0 (up_to 143444 143444)
    -- READ (12) of the last sector, and of two
    ∷ line (cdb (0xA8 ∷ 0 ∷ 0 ∷ 0x23 ∷ 5 ∷ 0x3F ∷ 0 ∷ 0 ∷ 0 ∷ 1 ∷ [])) 0 2048 0 0 [] (sense 0 0 0) 0 0 (up_to 143444 143444)
    ∷ line (cdb (0xA8 ∷ 0 ∷ 0 ∷ 0x23 ∷ 5 ∷ 0x3F ∷ 0 ∷ 0 ∷ 0 ∷ 2 ∷ [])) 0 4096 0x052100 0 [] (sense 0x5 0x21 0x00) 0 0 (up_to 143444 143444)
    ∷ []

abbrev pub runs : List Run
runs =
    from (blank 300) blank_run ∷ from (state 300 true (sense 0 0 0) 0 0 (up_to 300 300)) finalized_run
    ∷ from (state 600 false (sense 0 0 0) 3 1 three_pending) other_run ∷ from (blank 143444) long_run ∷ []

pub forms : map (λ (r : Run). played r.disc r.lines) runs ≡ map (λ (r : Run). map (λ (l : Line). l.expected) r.lines) runs
unfolding
    shown reply_bytes said played blank judge judge_command perform decode data_length reply_room lengths_fit accepted accept refuse refuse_link
    is_refusal_sense allowed_sense listed some every find sum_recorded
    used_first first_at_zero follows_from in_order ends_within recorded_within zeroed_within incomplete_last tail_last tail_or_full pending_named
    finalized_complete sound allowed_state
    flush flush_plan all_readable medium_share sending read flush_others flush_others_plan gather write_to write_found write
forms = refl
