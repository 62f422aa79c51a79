-- What the simple promises of the lower crates say on chosen inputs. Each value rules out the wrong answers beside it: an off by one,
-- the other direction, the neighbour's field.
use Rattle.std.specs.Prelude.{ℕ, ◌+◌, ◌-◌, ◌≡◌, refl, Bool, true, false, List, [], ◌∷◌, ◌++◌, map, length, take, replicate}
use Rattle.examples.specs.Types.{Sense, Fragment, Reserved, Appended, Disc, Option, Some, None, Accepted, Link, Drive, CommandBlockLength, MediumSize, UnsoundState, TransferLength, BlankCheck, Read, Write, RequestSense, ReadCapacity, SynchronizeCache, ReadDiscInformation, ReadTrackInformation, Keep, Settle, Reserve, Close, Grow, Effect, Nothing, Send, Gather, Fill, Entry, Decision}
use Rattle.fragments.specs.Address.{sectors_in, whole_blocks, left_over, missing, block, lba, first_sector, passes, sectors_before}
use Rattle.fragments.specs.Fragment.{fragment, unused_record, is_reserved, complete, is_tail, is_incomplete_reserved, end, next_fragment_start, next_session_start, next_after, first_unrecorded, last_recorded, last_readable_of, reserved_at, shortened_record}
use Rattle.fragments.specs.List.{limit, listed, record_numbered, last_of, holder_of, taker_of, pending_of, first_of_session, reach_at, highest_readable, some, find}
use Rattle.protocol.specs.Answer.{sense, no_sense, sense_number, refusal_sense, drive_refusals, allowed_sense, is_refusal_sense, number}
use Rattle.protocol.specs.Lengths.{data_length, reply_room, lengths_fit}
use Rattle.protocol.specs.Reply.{report, no_reply, said}
use Rattle.protocol.specs.Reports.{sense_bytes, capacity_bytes, disc_bytes, track_bytes}
use Rattle.fragments.specs.Entry.{entry, no_entry, put, over, over_last}
use Rattle.decisions.specs.Plan.{plan, no_plan}
use Rattle.decisions.specs.Decision.{accepting, refusing, refusing_link}
use Rattle.fragments.specs.Tail.{tail_entry, tail_after, tail_closed}
use Rattle.decisions.specs.Flushing.{no_flushing, closing_last}
use Rattle.decisions.specs.Run.{sent_within, pending_within}
use Rattle.disc.specs.Apply.{with_entry, affected, changed}
use Rattle.decisions.specs.Plan.{recording}

-- sixteen sectors a block: 2 blocks and 1 sector are 33 sectors; a block of 4 lacks 12, one of 17 nothing
pub conversions :
    (sectors_in 2 ∷ whole_blocks 32 ∷ whole_blocks 33 ∷ left_over 32 ∷ left_over 33 ∷ missing 4 ∷ missing 17 ∷ (first_sector (block 3)).0 ∷ [])
    ≡ (32 ∷ 2 ∷ 2 ∷ 0 ∷ 1 ∷ 12 ∷ 0 ∷ 48 ∷ [])
conversions = refl

-- a run of 2 from 30 ends at 32, one of 3 passes it; of 3 two lie before 32, of 2 both, of a run from 32 on or after it none
pub runs :
    ((passes (lba 30) 2 (lba 32) ∷ passes (lba 30) 3 (lba 32) ∷ passes (lba 33) 0 (lba 32) ∷ []) ≡ (false ∷ true ∷ true ∷ []))
    × (map (λ a. sectors_before (lba a) 3 (lba 32)) (28 ∷ 29 ∷ 30 ∷ 31 ∷ 32 ∷ 40 ∷ []) ≡ (3 ∷ 3 ∷ 2 ∷ 1 ∷ 0 ∷ 0 ∷ []))
runs = (refl, refl)

-- three fragments of two sessions: a written tail that was closed, a reserved one with two of three blocks recorded, a tail
abbrev first : Fragment
first = fragment 1 0 2 2 12 Appended

abbrev second : Fragment
second = fragment 2 130 3 2 0 Reserved

abbrev third : Fragment
third = fragment 2 134 166 0 0 Appended

abbrev list : List Fragment
list = first ∷ second ∷ third ∷ replicate (limit - 3) unused_record

-- of one record: kinds, and the numbers around it
pub kinds :
    (is_reserved Reserved ∷ is_reserved Appended ∷ complete first ∷ complete second ∷ is_tail first ∷ is_tail second ∷ is_tail third ∷ [])
    ≡ (true ∷ false ∷ true ∷ false ∷ false ∷ false ∷ true ∷ [])
kinds = refl

pub places :
    ((next_fragment_start (end first)).0 ∷ (next_session_start (end first)).0 ∷ (first_sector (end second)).0 ∷ (next_after 5 second).0
    ∷ (first_sector (first_unrecorded second)).0 ∷ (last_recorded second).0 ∷ (last_recorded third).0 ∷ (last_readable_of 5 second).0 ∷ (last_readable_of 0 second).0 ∷ (last_readable_of 5 third).0
    ∷ (last_readable_of 0 third).0 ∷ unused_record.length ∷ [])
    ≡ (3 ∷ 130 ∷ 2128 ∷ 2117 ∷ 2112 ∷ 2111 ∷ 0 ∷ 2116 ∷ 2111 ∷ 2148 ∷ 0 ∷ 0 ∷ [])
places = refl

-- of the list: three records, the third is last; sector 2127 lies in the second, 2128 in none; with 5 sectors pending in the second
-- its next writable address is 2117, without them 2112. Readable is 2111 the highest, with those 2116, with 5 in the third 2148; 111 where
-- recorded sectors lie above pending ones
abbrev pub found : Option ℕ → ℕ
found (Some n) = n
found None = 0

pub walks :
    (length (listed list) ∷ (last_of list).number ∷ (last_of list).fragment.start.0 ∷ found (holder_of list (lba 31)) ∷ found (holder_of list (lba 32))
    ∷ found (holder_of list (lba 2127)) ∷ found (holder_of list (lba 2128)) ∷ found (taker_of list 5 2 (lba 2117))
    ∷ found (taker_of list 5 2 (lba 2112)) ∷ found (taker_of list 5 2 (lba 2144)) ∷ found (taker_of list 5 2 (lba 32))
    ∷ pending_of 5 2 2 ∷ pending_of 5 2 3 ∷ first_of_session 1 1 (listed list) ∷ first_of_session 2 1 (listed list)
    ∷ first_of_session 3 1 (listed list) ∷ (highest_readable 0 0 1 (listed list)).0 ∷ (highest_readable 5 2 1 (listed list)).0
    ∷ (highest_readable 5 3 1 (listed list)).0 ∷ (highest_readable 5 1 1 (fragment 1 0 4 1 0 Reserved ∷ fragment 1 5 4 2 0 Appended ∷ [])).0
    ∷ (highest_readable 0 0 1 (third ∷ [])).0 ∷ (highest_readable 3 1 1 (third ∷ [])).0 ∷ [])
    ≡ (3 ∷ 3 ∷ 134 ∷ 1 ∷ 0 ∷ 2 ∷ 0 ∷ 2 ∷ 0 ∷ 3 ∷ 0 ∷ 5 ∷ 0 ∷ 1 ∷ 2 ∷ 4 ∷ 2111 ∷ 2116 ∷ 2148 ∷ 111 ∷ 0 ∷ 2146 ∷ [])
unfolding listed find first_of_session highest_readable
walks = refl

-- of the fragment that an address lies in, with 5 sectors pending in the second: where its recorded sectors end and where its readable ones
-- do; both 0 in a dividing block and past the list
pub reaches :
    map (λ a. (reach_at list 5 2 (lba a)).recorded.0 ∷ (reach_at list 5 2 (lba a)).readable.0 ∷ []) (0 ∷ 31 ∷ 32 ∷ 2080 ∷ 2127 ∷ 2128 ∷ 2144 ∷ 4800 ∷ [])
    ≡ ((32 ∷ 32 ∷ []) ∷ (32 ∷ 32 ∷ []) ∷ (0 ∷ 0 ∷ []) ∷ (2112 ∷ 2117 ∷ []) ∷ (2112 ∷ 2117 ∷ []) ∷ (0 ∷ 0 ∷ []) ∷ (2144 ∷ 2144 ∷ []) ∷ (0 ∷ 0 ∷ []) ∷ [])
unfolding listed find
reaches = refl

-- by number: from 1, unused ones after those in use and past the end; under 0 stands the first
pub numbers :
    map (λ n. (record_numbered list n).length) (0 ∷ 1 ∷ 2 ∷ 3 ∷ 4 ∷ limit ∷ (limit + 1) ∷ []) ≡ (2 ∷ 2 ∷ 3 ∷ 166 ∷ 0 ∷ 0 ∷ 0 ∷ [])
numbers = refl

-- one made of another: reserved in the place of the tail, and ended with its recorded blocks, the zero-filled sectors kept
pub made-records :
    (reserved_at third 10 ≡ fragment 2 134 10 0 0 Reserved)
    × (map shortened_record (fragment 1 0 300 2 12 Appended ∷ second ∷ []) ≡ (first ∷ fragment 2 130 2 2 0 Reserved ∷ []))
made-records = (refl, refl)

-- a test of some record: one of the list is reserved and incomplete, none of the first and the third
pub tests : (some is_incomplete_reserved (listed list) ∷ some is_incomplete_reserved (first ∷ third ∷ []) ∷ []) ≡ (true ∷ false ∷ [])
unfolding listed some
tests = refl

-- of an answer: its number, and the ten senses in the order of document 01's table
pub answers :
    map number (Accepted ∷ Link CommandBlockLength ∷ Link MediumSize ∷ Link UnsoundState ∷ Link TransferLength ∷ Drive BlankCheck ∷ [])
    ≡ (0 ∷ 1 ∷ 2 ∷ 3 ∷ 4 ∷ 0x080000 ∷ [])
answers = refl

pub senses :
    map (λ r. sense_number (refusal_sense r)) drive_refusals
    ≡ (0x052000 ∷ 0x072700 ∷ 0x052400 ∷ 0x052100 ∷ 0x080000 ∷ 0x052102 ∷ 0x057203 ∷ 0x057204 ∷ 0x057205 ∷ 0x056300 ∷ [])
senses = refl

-- 5/21/02 is left by a command, 5/21/01 by none
pub allowed : map allowed_sense (no_sense ∷ sense 0x5 0x21 0x02 ∷ sense 0x5 0x21 0x01 ∷ sense 0x0 0x21 0x02 ∷ []) ≡ (true ∷ true ∷ false ∷ false ∷ [])
unfolding allowed_sense is_refusal_sense
allowed = refl

-- of a command: only a WRITE brings data; a READ needs room for its sectors, a report for what its allocation length lets through
pub lengths :
    (map data_length (Write (lba 0) 3 ∷ Read (lba 0) 3 ∷ SynchronizeCache ∷ []) ≡ (6144 ∷ 0 ∷ 0 ∷ []))
    × (map reply_room
    (Read (lba 0) 3 ∷ Write (lba 0) 3 ∷ ReadCapacity ∷ RequestSense 17 ∷ RequestSense 19 ∷ ReadDiscInformation 0 40
    ∷ ReadTrackInformation 1 1 35 ∷ ReadTrackInformation 1 1 40 ∷ [])
    ≡ (6144 ∷ 0 ∷ 8 ∷ 17 ∷ 18 ∷ 34 ∷ 35 ∷ 36 ∷ []))
unfolding data_length reply_room
lengths = (refl, refl)

pub fits :
    (lengths_fit (Write (lba 0) 3) 6144 0 ∷ lengths_fit (Write (lba 0) 3) 6145 0 ∷ lengths_fit (Write (lba 0) 3) 6143 0
    ∷ lengths_fit (Read (lba 0) 3) 0 6144 ∷ lengths_fit (Read (lba 0) 3) 0 6143 ∷ lengths_fit SynchronizeCache 1 0 ∷ [])
    ≡ (true ∷ false ∷ false ∷ true ∷ false ∷ false ∷ [])
unfolding lengths_fit data_length reply_room
fits = refl

-- of a reply: 03h's first 14 bytes at an allocation of 14, and 25h's eight
pub sent :
    ((report (sense_bytes (sense 0x5 0x21 0x02)) 14).length ≡ 14)
    × (take 14 (said (report (sense_bytes (sense 0x5 0x21 0x02)) 14).content) ≡ (0x70 ∷ 0 ∷ 5 ∷ 0 ∷ 0 ∷ 0 ∷ 0 ∷ 0x0A ∷ 0 ∷ 0 ∷ 0 ∷ 0 ∷ 0x21 ∷ 2 ∷ []))
    × (capacity_bytes (lba 0x01020304) ≡ (1 ∷ 2 ∷ 3 ∷ 4 ∷ 0 ∷ 0 ∷ 8 ∷ 0 ∷ [])) × (no_reply.length ≡ 0)
unfolding sense_bytes said
sent = (refl, refl, refl, refl)

-- of the reports: the low bytes of a number and its high bytes in their places, and each address in its own
pub reported :
    (disc_bytes (record { states = 5; sessions = 0x0102; first = 0x0304; last = 0x0506 })
    ≡ (0 ∷ 0x20 ∷ 5 ∷ 1 ∷ 2 ∷ 4 ∷ 6 ∷ 0 ∷ 0 ∷ 1 ∷ 3 ∷ 5 ∷ replicate 22 0))
    × (track_bytes
    (record {
      number = 0x0102;
      session = 0x0304;
      reserved = true;
      blank = false;
      written = false;
      incomplete = true;
      start = lba 0x11;
      next = lba 0x22;
      free = 0x33;
      size = 0x44;
      last = lba 0x55;
    })
    ≡ (0 ∷ 0x22 ∷ 2 ∷ 4 ∷ 0 ∷ 4 ∷ 0x81 ∷ 1 ∷ 0 ∷ 0 ∷ 0 ∷ 0x11 ∷ 0 ∷ 0 ∷ 0 ∷ 0x22 ∷ 0 ∷ 0 ∷ 0 ∷ 0x33 ∷ 0 ∷ 0 ∷ 0 ∷ 16 ∷ 0 ∷ 0 ∷ 0 ∷ 0x44
    ∷ 0 ∷ 0 ∷ 0 ∷ 0x55 ∷ 1 ∷ 3 ∷ 0 ∷ 0 ∷ []))
unfolding disc_bytes track_bytes
reported = (refl, refl)

-- of a decision: the answer's number, the sense, the blocks recorded and the reply's length; its change and its plan. An accepted one clears
-- the sense, a refused one has its own and no reply, one refused on the link has the sense that it is given
abbrev told : Decision → List ℕ
told d = number d.answer ∷ sense_number d.change.sense ∷ d.recorded ∷ d.reply.length ∷ []

abbrev answered : List Decision
answered =
    accepting (Settle no_entry) 3 (report (capacity_bytes (lba 0)) 8) (plan (Some (recording (block 2) 5)) (Fill (block 3) 4))
    ∷ accepting Keep 0 (report (capacity_bytes (lba 0)) 7) no_plan ∷ refusing BlankCheck ∷ refusing_link (sense 0x5 0x21 0x02) UnsoundState ∷ []

pub decisions :
    (map told answered
    ≡ ((0 ∷ 0 ∷ 3 ∷ 8 ∷ []) ∷ (0 ∷ 0 ∷ 0 ∷ 7 ∷ []) ∷ (0x080000 ∷ 0x080000 ∷ 0 ∷ 0 ∷ []) ∷ (3 ∷ 0x052102 ∷ 0 ∷ 0 ∷ []) ∷ []))
    × (map (λ d. d.change.effect) answered ≡ (Settle no_entry ∷ Keep ∷ Keep ∷ Keep ∷ []))
    × (map (λ d. d.plan.flush) answered ≡ (Some (recording (block 2) 5) ∷ None ∷ None ∷ None ∷ []))
    × (map (λ d. d.plan.transfer) answered ≡ (Fill (block 3) 4 ∷ Nothing ∷ Nothing ∷ Nothing ∷ []))
unfolding accepting refusing refusing_link
decisions = (refl, refl, refl, refl)

-- of a record put under the number 2: it stands there, and what was there before under every other number; none stands under 0
pub entries :
    ((entry 2 second).number ∷ (over (entry 2 second) 2 first).start.0 ∷ (over (entry 2 second) 3 third).start.0 ∷ (over no_entry 1 first).length
    ∷ no_entry.number ∷ no_entry.fragment.length ∷ [])
    ≡ (2 ∷ 130 ∷ 134 ∷ 2 ∷ 0 ∷ 0 ∷ [])
entries = refl

-- put among the records: under 2, under 0 and past the list; and the last of them then
pub puts :
    (map (λ n. put (entry n third) list) (2 ∷ 0 ∷ (limit + 1) ∷ [])
    ≡ ((first ∷ third ∷ third ∷ replicate (limit - 3) unused_record) ∷ list ∷ list ∷ []))
    × (map (λ n. over_last (entry n first) (last_of list)) (3 ∷ 2 ∷ 0 ∷ [])
    ≡ (record { number = 3; fragment = first } ∷ record { number = 3; fragment = third } ∷ record { number = 3; fragment = third } ∷ []))
unfolding listed
puts = (refl, refl)

-- of a tail that begins: in the last block, none after it; after a record of ten blocks, none after the last record of the list, none
-- where the dividing block is the last one
pub tails_begun :
    (map (λ b. tail_entry 300 4 2 (block b)) (145 ∷ 299 ∷ 300 ∷ [])
    ≡ (entry 4 (fragment 2 145 155 0 0 Appended) ∷ entry 4 (fragment 2 299 1 0 0 Appended) ∷ no_entry ∷ []))
    × (map (λ n. tail_after 300 n (fragment 2 134 10 0 0 Reserved)) (3 ∷ (limit - 1) ∷ limit ∷ [])
    ≡ (entry 4 (fragment 2 145 155 0 0 Appended) ∷ entry limit (fragment 2 145 155 0 0 Appended) ∷ no_entry ∷ []))
    × (map (λ l. (tail_after 300 3 (fragment 2 134 l 0 0 Reserved)).number) (164 ∷ 165 ∷ []) ≡ (4 ∷ 0 ∷ []))
unfolding tail_entry tail_after
tails_begun = (refl, refl, refl)

-- of the last record closed: a blank tail is dropped, a written one ends with its block, a reserved fragment stays
abbrev closed : ℕ → Fragment → Entry
closed n f = tail_closed (record { number = n; fragment = f })

pub tails-closed :
    (closed 3 third ∷ closed 3 (fragment 2 134 166 1 0 Appended) ∷ closed 2 second ∷ [])
    ≡ (entry 3 unused_record ∷ entry 3 (fragment 2 134 1 1 0 Appended) ∷ no_entry ∷ [])
unfolding tail_closed
tails-closed = refl

-- of a flush with the last record closed after it: the flush's record, block and count, the tail closed, the one begun, the flag
pub closings :
    (closing_last (record { entry = entry 2 first; plan = Some (recording (block 132) 5); recorded = 1 }) (record { number = 3; fragment = third }) (entry 3 second) false
    ≡ accepting (Close (entry 2 first) (entry 3 unused_record) (entry 3 second) false) 1 no_reply (plan (Some (recording (block 132) 5)) Nothing))
    × (closing_last no_flushing (record { number = 2; fragment = second }) no_entry true ≡ accepting (Close no_entry no_entry no_entry true) 0 no_reply no_plan)
unfolding closing_last tail_closed
closings = (refl, refl)

-- of a run that is sent, on a medium of two sectors, 7s and then 8s: the sectors addressed, none past the end, none of a part of one, and
-- nothing for what sends nothing
abbrev two_sectors : List ℕ
two_sectors = replicate 2048 7 ++ replicate 2048 8

pub sent-runs :
    (sent_within (Send (lba 1) 1 0 0) two_sectors ≡ replicate 2048 8)
    × (map (λ t. length (sent_within t two_sectors))
    (Send (lba 0) 2 0 0 ∷ Send (lba 0) 1 0 1 ∷ Send (lba 2) 0 0 1 ∷ Send (lba 1) 2 0 0 ∷ Send (lba 2) 1 0 0 ∷ Nothing ∷ Gather (block 0) 0 1 ∷ Fill (block 0) 1 ∷ [])
    ≡ (4096 ∷ 2048 ∷ 0 ∷ 0 ∷ 0 ∷ 0 ∷ 0 ∷ 0 ∷ []))
    × (length (sent_within (Send (lba 1) 1 0 0) (take 4095 two_sectors)) ≡ 0)
unfolding sent_within
sent-runs = (refl, refl, refl)

-- and of a pending buffer of these two sectors, after those of the medium
pub sent_pending :
    (pending_within (Send (lba 9) 4 1 1) two_sectors ≡ replicate 2048 8)
    × (map (λ t. length (pending_within t two_sectors))
    (Send (lba 9) 4 0 2 ∷ Send (lba 9) 4 0 1 ∷ Send (lba 9) 4 2 0 ∷ Send (lba 9) 4 1 2 ∷ Send (lba 9) 4 2 1 ∷ Nothing ∷ Gather (block 0) 0 1 ∷ Fill (block 0) 1 ∷ [])
    ≡ (4096 ∷ 2048 ∷ 0 ∷ 0 ∷ 0 ∷ 0 ∷ 0 ∷ 0 ∷ []))
unfolding pending_within
sent_pending = (refl, refl)

-- of a change applied to a disc with 5 sectors pending in the second fragment: what each kind makes of the sense, the flag, the pending
-- sectors and the records; a record under 0 or past the list is none
abbrev pub holding : Bool → Sense → ℕ → ℕ → List Fragment → Disc
holding finalized s pending owner fs =
    record {
      capacity = 300;
      finalized = finalized;
      sense = s;
      pending = pending;
      owner = owner;
      fragments = fs ++ replicate (limit - length fs) unused_record;
    }

abbrev flushed_second : Fragment
flushed_second = fragment 2 130 3 3 11 Reserved

abbrev reserved_third : Fragment
reserved_third = fragment 2 134 10 0 0 Reserved

abbrev grown_third : Fragment
grown_third = fragment 2 134 166 1 0 Appended

abbrev tail_at145 : Fragment
tail_at145 = fragment 2 145 155 0 0 Appended

abbrev before : Disc
before = holding false (sense 0x5 0x21 0x02) 5 2 (first ∷ second ∷ third ∷ unused_record ∷ [])

abbrev after : Effect → Disc
after e = changed before (record { sense = no_sense; effect = e })

pub changes :
    map after
    (Keep ∷ Settle (entry 2 flushed_second) ∷ Settle no_entry ∷ Settle (entry (limit + 1) flushed_second)
    ∷ Reserve (entry 3 reserved_third) (entry 4 tail_at145)
    ∷ Close (entry 2 flushed_second) (entry 3 reserved_third) (entry 4 tail_at145) false
    ∷ Close (entry 2 flushed_second) (entry 3 unused_record) no_entry true
    ∷ Grow (entry 2 flushed_second) (entry 3 grown_third) 7 3 ∷ Grow no_entry (entry 2 flushed_second) 0 0 ∷ [])
    ≡ (holding false no_sense 5 2 (first ∷ second ∷ third ∷ unused_record ∷ [])
    ∷ holding false no_sense 0 0 (first ∷ flushed_second ∷ third ∷ unused_record ∷ [])
    ∷ holding false no_sense 0 0 (first ∷ second ∷ third ∷ unused_record ∷ [])
    ∷ holding false no_sense 0 0 (first ∷ second ∷ third ∷ unused_record ∷ [])
    ∷ holding false no_sense 5 2 (first ∷ second ∷ reserved_third ∷ tail_at145 ∷ [])
    ∷ holding false no_sense 0 0 (first ∷ flushed_second ∷ reserved_third ∷ tail_at145 ∷ [])
    ∷ holding true no_sense 0 0 (first ∷ flushed_second ∷ unused_record ∷ unused_record ∷ [])
    ∷ holding false no_sense 7 3 (first ∷ flushed_second ∷ grown_third ∷ unused_record ∷ [])
    ∷ holding false no_sense 0 0 (first ∷ flushed_second ∷ third ∷ unused_record ∷ []) ∷ [])
unfolding with_entry affected changed
changes = refl
