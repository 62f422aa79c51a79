-- INQUIRY (12h) and GET CONFIGURATION (46h) as a table of runs in the manner of Tour: every byte of the whole replies, cuts, starting features,
-- request types, lengths lent, refusals. What each line must show was worked out by hand from the documents; `identities` says that the
-- definitions give it.
use Rattle.std.specs.Prelude.{ℕ, ◌≤◌, ◌≡◌, refl, true, false, List, [], ◌∷◌, ◌++◌, map, length, take, drop, eqb, Some}
use Rattle.features.specs.Feature.{features, descriptors, asked, selected}
use Rattle.features.specs.Configuration.{configuration_bytes}
use Rattle.configuration.specs.Reading.{reading, read_reply}
use Rattle.configuration.proofs.Laws.Theorems.{replies-read_back}
use Rattle.protocol.specs.Reply.{said, reply_bytes}
use Rattle.protocol.proofs.Laws.Reply.{configuration_uncut}
use Rattle.protocol.specs.Answer.{sense, is_refusal_sense, allowed_sense}
use Rattle.protocol.specs.Command.{decode}
use Rattle.protocol.specs.Inquiry.{inquiry_bytes}
use Rattle.protocol.specs.Lengths.{data_length, inquiry_room, configuration_room, reply_room, lengths_fit}
use Rattle.fragments.specs.List.{listed, some, every, find, sum_recorded}
use Rattle.disc.specs.Blank.{blank}
use Rattle.disc.specs.Sound.{used_first, first_at_zero, follows_from, in_order, ends_within, recorded_within, zeroed_within, incomplete_last, tail_last, tail_or_full, pending_named, finalized_complete, sound, allowed_state}
use Rattle.disc.specs.Verdict.{accepted, accept, refuse, refuse_link}
use Rattle.reporting.specs.Identity.{inquiry, get_configuration}
use Rattle.commands.specs.Judge.{perform, judge_command, judge}
use Rattle.examples.specs.Types.{Disc}
use Rattle.examples.specs.Shift.{shown}
use Rattle.examples.specs.Tour.{Line, line, Run, from, played, cdb, state, three_pending, up_to}

-- INQUIRY's 36 bytes: "GLADHAMR", "DVD+R LOGGER    ", "1.00"
abbrev identity : List ℕ
identity =
    5 ∷ 0x80 ∷ 0 ∷ 2 ∷ 0x1F ∷ 0 ∷ 0 ∷ 0
    ∷ 0x47 ∷ 0x4C ∷ 0x41 ∷ 0x44 ∷ 0x48 ∷ 0x41 ∷ 0x4D ∷ 0x52
    ∷ 0x44 ∷ 0x56 ∷ 0x44 ∷ 0x2B ∷ 0x52 ∷ 0x20 ∷ 0x4C ∷ 0x4F ∷ 0x47 ∷ 0x47 ∷ 0x45 ∷ 0x52 ∷ 0x20 ∷ 0x20 ∷ 0x20 ∷ 0x20
    ∷ 0x31 ∷ 0x2E ∷ 0x30 ∷ 0x30
    ∷ []

-- GET CONFIGURATION's hundred, with every feature
abbrev whole : List ℕ
whole =
    -- the header
    0 ∷ 0 ∷ 0 ∷ 0x60 ∷ 0 ∷ 0 ∷ 0 ∷ 0x1B
    -- Profile List
    ∷ 0 ∷ 0 ∷ 1 ∷ 8 ∷ 0 ∷ 0x1B ∷ 1 ∷ 0 ∷ 0 ∷ 0x10 ∷ 0 ∷ 0
    -- Core
    ∷ 0 ∷ 1 ∷ 1 ∷ 8 ∷ 0 ∷ 0 ∷ 0 ∷ 0 ∷ 0 ∷ 0 ∷ 0 ∷ 0
    -- Morphing
    ∷ 0 ∷ 2 ∷ 1 ∷ 4 ∷ 0 ∷ 0 ∷ 0 ∷ 0
    -- Removable Medium
    ∷ 0 ∷ 3 ∷ 1 ∷ 4 ∷ 0 ∷ 0 ∷ 0 ∷ 0
    -- Random Readable
    ∷ 0 ∷ 0x10 ∷ 1 ∷ 8 ∷ 0 ∷ 0 ∷ 0 ∷ 0 ∷ 0 ∷ 0 ∷ 1 ∷ 0
    -- DVD Read
    ∷ 0 ∷ 0x1F ∷ 1 ∷ 4 ∷ 0 ∷ 0 ∷ 0 ∷ 0
    -- DVD+R
    ∷ 0 ∷ 0x2B ∷ 5 ∷ 4 ∷ 1 ∷ 0 ∷ 0 ∷ 0
    -- Power Management
    ∷ 1 ∷ 0 ∷ 1 ∷ 4 ∷ 0 ∷ 0 ∷ 0 ∷ 0
    -- Time-Out
    ∷ 1 ∷ 5 ∷ 1 ∷ 4 ∷ 0 ∷ 0 ∷ 0 ∷ 0
    -- Real-time Streaming
    ∷ 1 ∷ 7 ∷ 1 ∷ 4 ∷ 0 ∷ 0 ∷ 0 ∷ 0
    ∷ []

-- the header of a shorter one, by the last byte of its length
abbrev header : ℕ → List ℕ
header n = 0 ∷ 0 ∷ 0 ∷ n ∷ 0 ∷ 0 ∷ 0 ∷ 0x1B ∷ []

-- on a blank disc
abbrev blank_run : List Line
blank_run =
    -- INQUIRY: all 36 bytes; a buffer a byte too short is L4, which leaves the sense alone
    line (cdb (0x12 ∷ 0 ∷ 0 ∷ 0 ∷ 0x24 ∷ [])) 0 36 0 0 identity (sense 0 0 0) 0 0 (up_to 300 0)
    ∷ line (cdb (0x12 ∷ 0 ∷ 0 ∷ 0 ∷ 0x24 ∷ [])) 0 35 4 0 [] (sense 0 0 0) 0 0 (up_to 300 0)
    -- with data it is L4 too
    ∷ line (cdb (0x12 ∷ 0 ∷ 0 ∷ 0 ∷ 0x24 ∷ [])) 1 36 4 0 [] (sense 0 0 0) 0 0 (up_to 300 0)
    -- cut to five bytes, and to none; a longer allocation gives no more
    ∷ line (cdb (0x12 ∷ 0 ∷ 0 ∷ 0 ∷ 5 ∷ [])) 0 5 0 0 (take 5 identity) (sense 0 0 0) 0 0 (up_to 300 0)
    ∷ line (cdb (0x12 ∷ 0 ∷ 0 ∷ 0 ∷ 0 ∷ [])) 0 0 0 0 [] (sense 0 0 0) 0 0 (up_to 300 0)
    ∷ line (cdb (0x12 ∷ 0 ∷ 0 ∷ 1 ∷ 0 ∷ [])) 0 36 0 0 identity (sense 0 0 0) 0 0 (up_to 300 0)
    -- the page bit: refused, and no room is asked for; with data it is L4
    ∷ line (cdb (0x12 ∷ 1 ∷ 0 ∷ 0 ∷ 0x24 ∷ [])) 0 0 0x052400 0 [] (sense 0x5 0x24 0x00) 0 0 (up_to 300 0)
    ∷ line (cdb (0x12 ∷ 1 ∷ 0 ∷ 0 ∷ 0x24 ∷ [])) 1 0 4 0 [] (sense 0x5 0x24 0x00) 0 0 (up_to 300 0)
    -- a page code without the bit, and the other bits of byte 1, are not looked at: accepted, and the sense is cleared
    ∷ line (cdb (0x12 ∷ 0xFE ∷ 0x80 ∷ 0 ∷ 0x24 ∷ [])) 0 36 0 0 identity (sense 0 0 0) 0 0 (up_to 300 0)
    -- GET CONFIGURATION, type 0 from 0: every feature; a byte too little room is L4
    ∷ line (cdb (0x46 ∷ 0 ∷ 0 ∷ 0 ∷ 0 ∷ 0 ∷ 0 ∷ 0 ∷ 0x64 ∷ [])) 0 100 0 0 whole (sense 0 0 0) 0 0 (up_to 300 0)
    ∷ line (cdb (0x46 ∷ 0 ∷ 0 ∷ 0 ∷ 0 ∷ 0 ∷ 0 ∷ 0 ∷ 0x64 ∷ [])) 0 99 4 0 [] (sense 0 0 0) 0 0 (up_to 300 0)
    -- cut, by a byte and to the header: its length stays that of the whole
    ∷ line (cdb (0x46 ∷ 0 ∷ 0 ∷ 0 ∷ 0 ∷ 0 ∷ 0 ∷ 0 ∷ 0x63 ∷ [])) 0 99 0 0 (take 99 whole) (sense 0 0 0) 0 0 (up_to 300 0)
    ∷ line (cdb (0x46 ∷ 0 ∷ 0 ∷ 0 ∷ 0 ∷ 0 ∷ 0 ∷ 0 ∷ 8 ∷ [])) 0 8 0 0 (0 ∷ 0 ∷ 0 ∷ 0x60 ∷ 0 ∷ 0 ∷ 0 ∷ 0x1B ∷ []) (sense 0 0 0) 0 0 (up_to 300 0)
    ∷ line (cdb (0x46 ∷ 0 ∷ 0 ∷ 0 ∷ 0 ∷ 0 ∷ 0 ∷ 0 ∷ 0 ∷ [])) 0 0 0 0 [] (sense 0 0 0) 0 0 (up_to 300 0)
    -- type 1 is the same, all being current; the highest allocation asks for no more room than there are bytes
    ∷ line (cdb (0x46 ∷ 1 ∷ 0 ∷ 0 ∷ 0 ∷ 0 ∷ 0 ∷ 0xFF ∷ 0xFF ∷ [])) 0 100 0 0 whole (sense 0 0 0) 0 0 (up_to 300 0)
    -- from 002Bh on, which is one of them, and from 002Ch on, which is none
    ∷ line (cdb (0x46 ∷ 0 ∷ 0 ∷ 0x2B ∷ 0 ∷ 0 ∷ 0 ∷ 0xFF ∷ 0xFF ∷ [])) 0 40 0 0 (header 0x24 ++ drop 68 whole) (sense 0 0 0) 0 0 (up_to 300 0)
    ∷ line (cdb (0x46 ∷ 1 ∷ 0 ∷ 0x2C ∷ 0 ∷ 0 ∷ 0 ∷ 0xFF ∷ 0xFF ∷ [])) 0 32 0 0 (header 0x1C ++ drop 76 whole) (sense 0 0 0) 0 0 (up_to 300 0)
    -- the last feature, and past it: the header alone
    ∷ line (cdb (0x46 ∷ 0 ∷ 1 ∷ 7 ∷ 0 ∷ 0 ∷ 0 ∷ 0xFF ∷ 0xFF ∷ [])) 0 16 0 0 (header 0x0C ++ drop 92 whole) (sense 0 0 0) 0 0 (up_to 300 0)
    ∷ line (cdb (0x46 ∷ 0 ∷ 1 ∷ 8 ∷ 0 ∷ 0 ∷ 0 ∷ 0xFF ∷ 0xFF ∷ [])) 0 8 0 0 (header 0x04) (sense 0 0 0) 0 0 (up_to 300 0)
    ∷ line (cdb (0x46 ∷ 1 ∷ 0xFF ∷ 0xFF ∷ 0 ∷ 0 ∷ 0 ∷ 0xFF ∷ 0xFF ∷ [])) 0 8 0 0 (header 0x04) (sense 0 0 0) 0 0 (up_to 300 0)
    -- type 2: 002Bh alone, Core alone; of a number that no feature has, the header
    ∷ line (cdb (0x46 ∷ 2 ∷ 0 ∷ 0x2B ∷ 0 ∷ 0 ∷ 0 ∷ 0xFF ∷ 0xFF ∷ [])) 0 16 0 0 (0 ∷ 0 ∷ 0 ∷ 0x0C ∷ 0 ∷ 0 ∷ 0 ∷ 0x1B ∷ 0 ∷ 0x2B ∷ 5 ∷ 4 ∷ 1 ∷ 0 ∷ 0 ∷ 0 ∷ []) (sense 0 0 0) 0 0 (up_to 300 0)
    ∷ line (cdb (0x46 ∷ 2 ∷ 0 ∷ 1 ∷ 0 ∷ 0 ∷ 0 ∷ 0xFF ∷ 0xFF ∷ [])) 0 20 0 0 (header 0x10 ++ take 12 (drop 20 whole)) (sense 0 0 0) 0 0 (up_to 300 0)
    ∷ line (cdb (0x46 ∷ 2 ∷ 0 ∷ 0x2C ∷ 0 ∷ 0 ∷ 0 ∷ 0xFF ∷ 0xFF ∷ [])) 0 8 0 0 (header 0x04) (sense 0 0 0) 0 0 (up_to 300 0)
    -- type 3: refused, and no room is asked for; with data it is L4
    ∷ line (cdb (0x46 ∷ 3 ∷ 0 ∷ 0 ∷ 0 ∷ 0 ∷ 0 ∷ 0 ∷ 0x64 ∷ [])) 0 0 0x052400 0 [] (sense 0x5 0x24 0x00) 0 0 (up_to 300 0)
    ∷ line (cdb (0x46 ∷ 3 ∷ 0 ∷ 0 ∷ 0 ∷ 0 ∷ 0 ∷ 0 ∷ 0x64 ∷ [])) 1 0 4 0 [] (sense 0x5 0x24 0x00) 0 0 (up_to 300 0)
    -- the bits above the type are not looked at
    ∷ line (cdb (0x46 ∷ 0xFC ∷ 0 ∷ 0 ∷ 0 ∷ 0 ∷ 0 ∷ 0 ∷ 0x64 ∷ [])) 0 100 0 0 whole (sense 0 0 0) 0 0 (up_to 300 0)
    ∷ line (cdb (0x46 ∷ 0xFF ∷ 0 ∷ 0 ∷ 0 ∷ 0 ∷ 0 ∷ 0 ∷ 0x64 ∷ [])) 0 100 0x052400 0 [] (sense 0x5 0x24 0x00) 0 0 (up_to 300 0)
    ∷ []

abbrev pending_run : List Line
pending_run =
    -- three sectors are pending: neither command flushes them, accepted or not
    line (cdb (0x12 ∷ 0 ∷ 0 ∷ 0 ∷ 0x24 ∷ [])) 0 36 0 0 identity (sense 0 0 0) 80 3 three_pending
    ∷ line (cdb (0x46 ∷ 0 ∷ 0 ∷ 0 ∷ 0 ∷ 0 ∷ 0 ∷ 0 ∷ 0x64 ∷ [])) 0 100 0 0 whole (sense 0 0 0) 80 3 three_pending
    ∷ line (cdb (0x12 ∷ 1 ∷ 0 ∷ 0 ∷ 0x24 ∷ [])) 0 0 0x052400 0 [] (sense 0x5 0x24 0x00) 80 3 three_pending
    ∷ line (cdb (0x46 ∷ 3 ∷ 0 ∷ 0 ∷ 0 ∷ 0 ∷ 0 ∷ 0 ∷ 0x64 ∷ [])) 0 0 0x052400 0 [] (sense 0x5 0x24 0x00) 80 3 three_pending
    ∷ []

abbrev finalized_run : List Line
finalized_run =
    -- a finalized disc: the same
    line (cdb (0x12 ∷ 0 ∷ 0 ∷ 0 ∷ 0x24 ∷ [])) 0 36 0 0 identity (sense 0 0 0) 0 0 (up_to 300 300)
    ∷ line (cdb (0x46 ∷ 1 ∷ 0 ∷ 0 ∷ 0 ∷ 0 ∷ 0 ∷ 0 ∷ 0x64 ∷ [])) 0 100 0 0 whole (sense 0 0 0) 0 0 (up_to 300 300)
    ∷ []

abbrev pub runs : List Run
runs =
    from (blank 300) blank_run ∷ from (state 600 false (sense 0x8 0x00 0x00) 3 1 three_pending) pending_run
    ∷ from (state 300 true (sense 0 0 0) 0 0 (up_to 300 300)) finalized_run ∷ []

pub identities : map (λ (r : Run). played r.disc r.lines) runs ≡ map (λ (r : Run). map (λ (l : Line). l.expected) r.lines) runs
unfolding
    shown reply_bytes said played blank judge judge_command perform decode data_length reply_room inquiry_room configuration_room lengths_fit accepted
    accept refuse refuse_link is_refusal_sense allowed_sense listed some every find sum_recorded inquiry get_configuration inquiry_bytes
    features descriptors asked configuration_bytes
    used_first first_at_zero follows_from in_order ends_within recorded_within zeroed_within incomplete_last tail_last tail_or_full pending_named
    finalized_complete sound allowed_state
identities = refl

-- whatever the disc, the uncut reply to each request type that is served, from each starting feature, is read back by the reader of
-- `configuration`: drawn from its theorem
pub served-read_back :
    (d : Disc) (t s n : ℕ) → eqb t 3 ≡ false → length (configuration_bytes t s) ≤ n
    → read_reply (reply_bytes (get_configuration d t s n).reply) ≡ Some (reading (selected t s))
unfolding get_configuration accept accepted
served-read_back d t s n e h = rw (e, configuration_uncut t s n h) (replies-read_back t s)
