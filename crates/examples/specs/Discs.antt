-- What the simple promises about a disc say on chosen inputs: the disc that is made of a capacity, what is asked of a list, the tail's next
-- writable address, a decision applied, what is judged as asked, what the lower read serves.
use Rattle.std.specs.Prelude.{ℕ, ◌+◌, ◌≡◌, refl, true, false, List, [], ◌∷◌, map, Option, Some, None}
use Rattle.examples.specs.Types.{Lba, Disc, Fragment, Reserved, Appended, Settle, Verdict}
use Rattle.protocol.specs.Answer.{sense, no_sense, number, is_refusal_sense, allowed_sense}
use Rattle.protocol.specs.Reply.{report}
use Rattle.protocol.specs.Reports.{capacity_bytes}
use Rattle.fragments.specs.Entry.{entry}
use Rattle.decisions.specs.Plan.{no_plan}
use Rattle.decisions.specs.Decision.{accepting}
use Rattle.fragments.specs.Fragment.{fragment}
use Rattle.fragments.specs.Address.{lba}
use Rattle.fragments.specs.List.{limit, listed, last_of, first_of_session, highest_readable, find, some, every, sum_recorded}
use Rattle.disc.specs.Records.{records, used, is_listed, numbered, last_record, with_sense, pending_in, is_blank, next_writable, tail_next, at_address, writable_at, reach_around, is_recorded, is_pending, is_readable, last_readable, has_blank_tail, blank_tail_only, is_blank_disc}
use Rattle.disc.specs.Apply.{with_pending, affected, changed, decided}
use Rattle.disc.specs.Blank.{in_range, blank, made}
use Rattle.disc.specs.Sound.{used_first, first_at_zero, follows_from, in_order, ends_within, recorded_within, zeroed_within, incomplete_last, tail_last, tail_or_full, pending_named, finalized_complete, sound, allowed_state}
use Rattle.protocol.specs.Command.{decode}
use Rattle.protocol.specs.Lengths.{data_length, reply_room, lengths_fit}
use Rattle.disc.specs.Verdict.{accepted, accept, refuse, refuse_link}
use Rattle.commands.specs.Flush.{flush, flush_plan}
use Rattle.commands.specs.Read.{all_readable, read}
use Rattle.commands.specs.Write.{flush_others, flush_others_plan, gather, write_to, write_found, write}
use Rattle.commands.specs.Judge.{perform, judge_command, judge, judge_as_asked}
use Rattle.examples.specs.Values.{found, holding}
use Rattle.outcomes.specs.Run.{served}

-- 256 to 143,444 blocks are a disc; a block less or more is L2
pub capacities : map (λ c. number (made c).answer) (255 ∷ 256 ∷ 143444 ∷ 143445 ∷ []) ≡ (2 ∷ 0 ∷ 0 ∷ 2 ∷ [])
unfolding made
capacities = refl

-- of a disc: its capacity, the records in use, the blocks recorded and the sectors pending
abbrev figures : Disc → List ℕ
figures d = d.capacity ∷ used d ∷ sum_recorded d.fragments ∷ d.pending ∷ []

-- a blank disc has one record over all its blocks and none of them recorded; one that cannot be made is all zero
pub blanks :
    (figures (made 300).disc ∷ figures (made 255).disc ∷ ((last_record (made 300).disc).length ∷ []) ∷ [])
    ≡ ((300 ∷ 1 ∷ 0 ∷ 0 ∷ []) ∷ (0 ∷ 0 ∷ 0 ∷ 0 ∷ []) ∷ (300 ∷ []) ∷ [])
unfolding made blank listed sum_recorded
blanks = refl

-- a list of 300 blocks with so many sectors pending in a fragment
abbrev list_of : ℕ → ℕ → List Fragment → Disc
list_of = holding false no_sense

-- a closed fragment of two blocks, a reserved one with a block of three recorded and five sectors pending, a blank tail
abbrev listing : Disc
listing = list_of 5 2 (fragment 1 0 2 2 12 Appended ∷ fragment 1 3 3 1 0 Reserved ∷ fragment 1 7 293 0 0 Appended ∷ [])

-- by number: which are listed, where they start, what is pending in them, which are blank, their next writable addresses; then the last
-- one, the fragments that addresses lie in or can be written at, and where a session begins
pub asked_of_a_list :
    (map (is_listed listing) (0 ∷ 1 ∷ 3 ∷ 4 ∷ []) ≡ (false ∷ true ∷ true ∷ false ∷ []))
    × (map (λ n. (numbered listing n).start.0) (1 ∷ 2 ∷ 3 ∷ 4 ∷ (limit + 1) ∷ []) ≡ (0 ∷ 3 ∷ 7 ∷ 0 ∷ 0 ∷ []))
    × (map (pending_in listing) (0 ∷ 1 ∷ 2 ∷ 3 ∷ []) ≡ (0 ∷ 0 ∷ 5 ∷ 0 ∷ []))
    × (map (λ n. is_blank listing n (numbered listing n)) (1 ∷ 2 ∷ 3 ∷ []) ≡ (false ∷ false ∷ true ∷ []))
    × (is_blank listing 2 (fragment 1 3 3 0 0 Reserved) ≡ false)
    × (map (λ n. (next_writable listing n (numbered listing n)).0) (1 ∷ 2 ∷ 3 ∷ []) ≡ (32 ∷ 69 ∷ 112 ∷ []))
    × ((last_of listing.fragments).number ≡ 3)
    × (map (λ a. found (at_address listing (lba a))) (31 ∷ 32 ∷ 48 ∷ 95 ∷ 96 ∷ 112 ∷ []) ≡ (1 ∷ 0 ∷ 2 ∷ 2 ∷ 0 ∷ 3 ∷ []))
    × (map (λ a. found (writable_at listing (lba a))) (32 ∷ 64 ∷ 69 ∷ 112 ∷ []) ≡ (0 ∷ 0 ∷ 2 ∷ 3 ∷ []))
    × (map (λ s. first_of_session s 1 (records listing)) (1 ∷ 2 ∷ []) ≡ (1 ∷ 4 ∷ []))
unfolding listed find first_of_session
asked_of_a_list = (refl, refl, refl, refl, refl, refl, refl, refl, refl, refl)

-- by address: which sectors are recorded, pending, readable; the last readable one. Sectors 32 and 96 lie in dividing blocks, 112 in the
-- tail; then where the readable sectors around an address end
pub sectors_of_a_list :
    (map (λ a. is_recorded listing (lba a)) (31 ∷ 32 ∷ 48 ∷ 63 ∷ 64 ∷ 68 ∷ 69 ∷ 96 ∷ 112 ∷ [])
    ≡ (true ∷ false ∷ true ∷ true ∷ false ∷ false ∷ false ∷ false ∷ false ∷ []))
    × (map (λ a. is_pending listing (lba a)) (31 ∷ 32 ∷ 48 ∷ 63 ∷ 64 ∷ 68 ∷ 69 ∷ 96 ∷ 112 ∷ [])
    ≡ (false ∷ false ∷ false ∷ false ∷ true ∷ true ∷ false ∷ false ∷ false ∷ []))
    × (map (λ a. is_readable listing (lba a)) (31 ∷ 32 ∷ 48 ∷ 63 ∷ 64 ∷ 68 ∷ 69 ∷ 96 ∷ 112 ∷ [])
    ≡ (true ∷ false ∷ true ∷ true ∷ true ∷ true ∷ false ∷ false ∷ false ∷ []))
    × ((last_readable listing).0 ≡ 68)
    × (map (λ a. (reach_around listing (lba a)).readable.0) (0 ∷ 32 ∷ 48 ∷ 95 ∷ 96 ∷ 112 ∷ []) ≡ (32 ∷ 0 ∷ 69 ∷ 69 ∷ 0 ∷ 112 ∷ []))
unfolding listed some find highest_readable
sectors_of_a_list = (refl, refl, refl, refl, refl)

-- a blank disc, one with a block written, one with a sector pending, one with a blank tail after a fragment, one with a blank tail alone in
-- session 2, one with none there
abbrev endings : List Disc
endings =
    list_of 0 0 (fragment 1 0 300 0 0 Appended ∷ []) ∷ list_of 0 0 (fragment 1 0 300 1 0 Appended ∷ [])
    ∷ list_of 1 1 (fragment 1 0 300 0 0 Appended ∷ []) ∷ list_of 0 0 (fragment 1 0 2 2 0 Appended ∷ fragment 1 3 297 0 0 Appended ∷ [])
    ∷ list_of 0 0 (fragment 1 0 2 2 0 Appended ∷ fragment 2 130 170 0 0 Appended ∷ [])
    ∷ list_of 0 0 (fragment 1 0 300 300 0 Appended ∷ []) ∷ []

pub blank-endings :
    (map has_blank_tail endings ≡ (true ∷ false ∷ false ∷ true ∷ true ∷ false ∷ []))
    × (map blank_tail_only endings ≡ (true ∷ false ∷ false ∷ false ∷ true ∷ false ∷ []))
    × (map is_blank_disc endings ≡ (true ∷ false ∷ false ∷ false ∷ false ∷ false ∷ []))
unfolding listed first_of_session
blank-endings = (refl, refl, refl)

-- the smallest and the largest capacity are in range, a block less or more is not
pub ranges : map in_range (255 ∷ 256 ∷ 143444 ∷ 143445 ∷ []) ≡ (false ∷ true ∷ true ∷ false ∷ [])
ranges = refl

-- a blank disc may be worked on; not with a sense that no command leaves, nor with pending sectors and no fragment for them
pub states :
    map allowed_state (blank 300 ∷ with_sense (blank 300) (sense 0x5 0x21 0x02) ∷ with_sense (blank 300) (sense 0x5 0x21 0x01) ∷ with_pending (blank 300) 1 0 ∷ [])
    ≡ (true ∷ true ∷ false ∷ false ∷ [])
unfolding
    blank listed some every used_first first_at_zero follows_from in_order ends_within recorded_within zeroed_within incomplete_last tail_last
    tail_or_full pending_named finalized_complete sound allowed_state allowed_sense is_refusal_sense
states = refl

-- a decision applied: answer, count, report and plan are its own, the disc is changed by its change
abbrev told : Verdict → List ℕ
told v = number v.answer ∷ v.recorded ∷ v.reply.length ∷ v.disc.pending ∷ []

pub applied :
    told (decided listing (accepting (Settle (entry 2 (fragment 1 3 3 2 11 Reserved))) 1 (report (capacity_bytes (lba 0)) 8) no_plan))
    ≡ (0 ∷ 1 ∷ 8 ∷ 0 ∷ [])
unfolding decided changed affected accepting
applied = refl

-- the address, or 0 where there is no tail
abbrev address_of : Option Lba → ℕ
address_of (Some a) = a.0
address_of None = 0

-- after a closed fragment of two blocks a tail at block 3: blank, one block written, with five sectors pending in it and with five in
-- a reserved fragment before it; then no tail
pub tails :
    map (λ d. address_of (tail_next d))
    (list_of 0 0 (fragment 1 0 2 2 0 Appended ∷ fragment 1 3 297 0 0 Appended ∷ [])
    ∷ list_of 0 0 (fragment 1 0 2 2 0 Appended ∷ fragment 1 3 297 1 0 Appended ∷ [])
    ∷ list_of 5 2 (fragment 1 0 2 2 0 Appended ∷ fragment 1 3 297 1 0 Appended ∷ [])
    ∷ list_of 5 1 (fragment 1 0 2 1 0 Reserved ∷ fragment 1 3 297 1 0 Appended ∷ [])
    ∷ list_of 5 1 (fragment 1 0 299 1 0 Reserved ∷ []) ∷ [])
    ≡ (48 ∷ 64 ∷ 69 ∷ 64 ∷ 0 ∷ [])
unfolding listed
tails = refl

-- judged with data and room as the command block asks, no command is L4: WRITE 0 of 20 and READ 0 of 1 on a blank disc, and the same
-- without data and without room
abbrev write_twenty : List ℕ
write_twenty = 0x2A ∷ 0 ∷ 0 ∷ 0 ∷ 0 ∷ 0 ∷ 0 ∷ 0 ∷ 20 ∷ 0 ∷ 0 ∷ 0 ∷ []

abbrev read_one : List ℕ
read_one = 0x28 ∷ 0 ∷ 0 ∷ 0 ∷ 0 ∷ 0 ∷ 0 ∷ 0 ∷ 1 ∷ 0 ∷ 0 ∷ 0 ∷ []

pub asked :
    map (λ (v : Verdict). number v.answer ∷ v.recorded ∷ [])
    (judge_as_asked (blank 300) write_twenty ∷ judge_as_asked (blank 300) read_one ∷ judge (blank 300) write_twenty 0 0 ∷ judge (blank 300) read_one 0 0 ∷ [])
    ≡ ((0 ∷ 1 ∷ []) ∷ (0x080000 ∷ 0 ∷ []) ∷ (4 ∷ 0 ∷ []) ∷ (4 ∷ 0 ∷ []) ∷ [])
unfolding
    judge judge_command perform decode data_length reply_room lengths_fit accepted accept refuse refuse_link blank listed some every find
    sum_recorded used_first first_at_zero follows_from in_order ends_within recorded_within zeroed_within incomplete_last tail_last tail_or_full
    pending_named finalized_complete sound allowed_state allowed_sense is_refusal_sense flush flush_plan all_readable read flush_others
    flush_others_plan gather write_to write_found write
asked = refl

-- the lower read serves a command block of twelve bytes and a medium of exactly 300 blocks: no medium of a sector more or a block less, no
-- command block of a byte more
pub mediums :
    (served (blank 300) 12 9830400 ∷ served (blank 300) 12 9832448 ∷ served (blank 300) 12 9797632 ∷ served (blank 300) 13 9830400 ∷ [])
    ≡ (true ∷ false ∷ false ∷ false ∷ [])
unfolding
    blank listed some every used_first first_at_zero follows_from in_order ends_within recorded_within zeroed_within incomplete_last tail_last
    tail_or_full pending_named finalized_complete sound allowed_state allowed_sense is_refusal_sense
mediums = refl
