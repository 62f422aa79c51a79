-- Examples of disc states: for each rule states that break it and no other, and sound states that no command leads to.
use Rattle.std.specs.Prelude.{ℕ, zero, suc, ◌+◌, ◌-◌, ◌*◌, ◌≡◌, refl, Bool, true, false, List, [], ◌∷◌, ◌++◌, map, length, replicate, set}
use Rattle.std.proofs.Common.{arith}
use Rattle.examples.specs.Types.{Reserved, Appended, Fragment, Disc, Verdict}
use Rattle.protocol.specs.Answer.{sense, no_sense, number, is_refusal_sense, allowed_sense}
use Rattle.fragments.specs.Fragment.{fragment, unused_record}
use Rattle.fragments.specs.List.{limit, listed, some, every, sum_recorded, first_of_session}
use Rattle.disc.specs.Records.{records, used, is_listed, numbered, last_record}
use Rattle.disc.specs.Sound.{used_first, first_at_zero, follows_from, in_order, ends_within, recorded_within, zeroed_within, incomplete_last, tail_last, tail_or_full, pending_named, finalized_complete, sound, allowed_state}
use Rattle.disc.specs.Verdict.{accepted, accept, refuse}
use Rattle.disc.proofs.Laws.Rules.{sound-rules}
use Rattle.disc.proofs.Laws.Sound.{numbers-below}
use Rattle.commands.specs.Flush.{flush, flush_plan, flush_count, synchronize_cache}
use Rattle.commands.specs.Reserve.{split_tail, reserve}
use Rattle.commands.specs.Close.{append_tail, close_incomplete, close_fragment, close_tail, open_session, close_session}

-- every rule of L3 by itself, in the order of `sound`, and last the sense
unfoldable pub rules : Disc → List Bool
rules d =
    used_first d.fragments ∷ first_at_zero (records d) ∷ in_order (records d) ∷ ends_within d.capacity (records d)
    ∷ recorded_within (records d) ∷ zeroed_within (records d) ∷ incomplete_last (last_record d).session (records d)
    ∷ tail_last d.capacity (records d) ∷ tail_or_full d ∷ pending_named d ∷ finalized_complete d ∷ allowed_sense d.sense ∷ []

-- all hold but the one with this index
abbrev all_but : ℕ → List Bool
all_but k = set (replicate 12 true) k false

-- a state by its capacity, its pending count, its owner, whether it is finalized, and its records
abbrev pub on : ℕ → ℕ → ℕ → Bool → List Fragment → Disc
on c p o fin fs =
    record {
      capacity = c;
      finalized = fin;
      sense = no_sense;
      pending = p;
      owner = o;
      fragments = fs ++ replicate (limit - length fs) unused_record;
    }

-- one of 300 blocks
abbrev state : ℕ → ℕ → Bool → List Fragment → Disc
state = on 300

abbrev tail : Fragment
tail = fragment 1 0 300 0 0 Appended

-- n reserved fragments of a block each one after another, from a block on, complete
unfoldable pub column : ℕ → ℕ → List Fragment
column zero b = []
column (suc n) b = fragment 1 b 1 1 0 Reserved ∷ column n (b + 2)

-- where the last record of a full list begins after such fragments, and a disc that leaves it 130 blocks
abbrev pub last_start : ℕ
last_start = 2 * (limit - 1)

abbrev pub crowded : ℕ
crowded = last_start + 130

-- a full list whose last record is a blank tail
abbrev pub full_of_tail : List Fragment
full_of_tail = column (limit - 1) 0 ++ (fragment 1 last_start 130 0 0 Appended ∷ [])

-- a state, and the rule that it breaks
pub record Broken : Type 0 where
  pub disc : Disc
  pub rule : ℕ

abbrev breaks : ℕ → Disc → Broken
breaks k d = record { disc = d; rule = k }

abbrev pub broken_states : List Broken
broken_states =
    -- a record in use after an unused one; an unused record that is not all zero
    breaks 0 (state 0 0 false (tail ∷ unused_record ∷ fragment 1 0 1 0 0 Reserved ∷ []))
    ∷ breaks 0 (state 0 0 false (tail ∷ fragment 0 0 0 0 0 Appended ∷ []))
    -- the first record in session 2, or at block 1
    ∷ breaks 1 (state 0 0 false (fragment 2 0 300 0 0 Appended ∷ []))
    ∷ breaks 1 (state 0 0 false (fragment 1 1 299 0 0 Appended ∷ []))
    -- no dividing block, 127 blocks between sessions, a session left out
    ∷ breaks 2 (state 0 0 false (fragment 1 0 2 2 0 Appended ∷ fragment 1 2 298 0 0 Appended ∷ []))
    ∷ breaks 2 (state 0 0 false (fragment 1 0 2 2 0 Appended ∷ fragment 2 129 171 0 0 Appended ∷ []))
    ∷ breaks 2 (state 0 0 false (fragment 1 0 2 2 0 Appended ∷ fragment 3 130 170 0 0 Appended ∷ []))
    -- a fragment that ends a block past the capacity
    ∷ breaks 3 (state 0 0 false (fragment 1 0 301 301 0 Reserved ∷ []))
    -- more blocks recorded than the fragment has
    ∷ breaks 4 (state 0 0 false (fragment 1 0 2 3 0 Reserved ∷ fragment 1 3 297 0 0 Appended ∷ []))
    -- more sectors zero-filled than recorded
    ∷ breaks 5 (state 0 0 false (fragment 1 0 300 1 17 Appended ∷ []))
    -- an incomplete fragment in a session before the last one
    ∷ breaks 6 (state 0 0 false (fragment 1 0 2 1 0 Reserved ∷ fragment 2 130 170 0 0 Appended ∷ []))
    -- a tail that ends before the capacity, and one that is not last
    ∷ breaks 7 (state 0 0 false (fragment 1 0 299 0 0 Appended ∷ []))
    ∷ breaks 7 (state 0 0 false (fragment 1 0 2 1 0 Appended ∷ fragment 1 3 297 0 0 Appended ∷ []))
    -- no tail, though two blocks are left; though a record is free
    ∷ breaks 8 (state 0 0 false (fragment 1 0 298 298 0 Appended ∷ []))
    ∷ breaks 8 (on crowded 0 0 false (column (limit - 1) 0))
    -- sixteen sectors pending; pending sectors of no fragment, of one that is not listed, of one past the last record and of a complete one; a
    -- number with none pending
    ∷ breaks 9 (state 16 1 false (tail ∷ []))
    ∷ breaks 9 (state 3 0 false (tail ∷ []))
    ∷ breaks 9 (state 3 2 false (tail ∷ []))
    ∷ breaks 9 (on crowded 3 (limit + 1) false full_of_tail)
    ∷ breaks 9 (state 3 1 false (fragment 1 0 2 2 0 Appended ∷ fragment 1 3 297 0 0 Appended ∷ []))
    ∷ breaks 9 (state 0 1 false (tail ∷ []))
    -- a finalized disc with a tail
    ∷ breaks 10 (state 0 0 true (tail ∷ []))
    -- a sense that no command leaves
    ∷ breaks 11 (record { capacity = 300; finalized = false; sense = sense 5 0x21 0x01; pending = 0; owner = 0; fragments = (state 0 0 false (tail ∷ [])).fragments })
    ∷ []

pub broken_states_lem : map (λ b. rules b.disc) broken_states ≡ map (λ b. all_but b.rule) broken_states
unfolding
    rules column listed every used_first first_at_zero follows_from in_order ends_within recorded_within zeroed_within incomplete_last tail_last
    tail_or_full pending_named finalized_complete allowed_sense is_refusal_sense
broken_states_lem = refl

-- a full list whose last record is an incomplete reserved one
abbrev pub full_of_reserved : Disc
full_of_reserved = on crowded 0 0 false (column (limit - 1) 0 ++ (fragment 1 last_start 5 0 0 Reserved ∷ []))

-- an incomplete reserved last record that leaves one block, and sectors pending in it
abbrev pub reserved_to_the_end : Disc
reserved_to_the_end = state 3 1 false (fragment 1 0 299 1 0 Reserved ∷ [])

pub sound_unreached : map allowed_state (full_of_reserved ∷ reserved_to_the_end ∷ []) ≡ true ∷ true ∷ []
unfolding
    allowed_state sound column listed every used_first first_at_zero follows_from in_order ends_within recorded_within zeroed_within
    incomplete_last tail_last tail_or_full pending_named finalized_complete allowed_sense is_refusal_sense
sound_unreached = refl

-- they have their one outcome like any other state: the answer's number, the blocks recorded and the records in use of
-- CLOSE 010, RESERVE 16, CLOSE 001 of the last record and SYNCHRONIZE CACHE
unfoldable pub outcome : Verdict → List ℕ
outcome v = number v.answer ∷ v.recorded ∷ used v.disc ∷ v.disc.pending ∷ []

unfoldable pub outcomes : Disc → List (List ℕ)
outcomes d =
    outcome (close_session d) ∷ outcome (reserve d 16) ∷ outcome (close_fragment d (used d)) ∷ outcome (synchronize_cache d) ∷ []

pub outcomes-full : outcomes full_of_reserved ≡ (0x057203 ∷ 0 ∷ limit ∷ 0 ∷ []) ∷ (0x057205 ∷ 0 ∷ limit ∷ 0 ∷ []) ∷ (0x057204 ∷ 0 ∷ limit ∷ 0 ∷ []) ∷ (0 ∷ 0 ∷ limit ∷ 0 ∷ []) ∷ []
unfolding
    outcomes outcome column listed some sum_recorded first_of_session accepted accept refuse flush flush_plan flush_count synchronize_cache
    reserve split_tail append_tail close_incomplete close_fragment close_tail open_session close_session
outcomes-full = refl

pub outcomes-end : outcomes reserved_to_the_end ≡ (0x057203 ∷ 0 ∷ 1 ∷ 3 ∷ []) ∷ (0x057205 ∷ 0 ∷ 1 ∷ 3 ∷ []) ∷ (0 ∷ 298 ∷ 1 ∷ 0 ∷ []) ∷ (0 ∷ 1 ∷ 1 ∷ 0 ∷ []) ∷ []
unfolding
    outcomes outcome column listed some sum_recorded first_of_session accepted accept refuse flush flush_plan flush_count synchronize_cache
    reserve split_tail append_tail close_incomplete close_fragment close_tail open_session close_session
outcomes-end = refl

-- n sessions of one recorded block each, from a number and a block on
unfoldable pub sessions : ℕ → ℕ → ℕ → List Fragment
sessions zero s b = []
sessions (suc n) s b = fragment s b 1 1 0 Appended ∷ sessions n (s + 1) (b + 129)

-- full lists: of complete fragments; with sectors pending in the tail that is the last record; of as many sessions as fragments
abbrev pub full_of_complete : Disc
full_of_complete = on crowded 0 0 false (column limit 0)

abbrev pub pending_in_the_last : Disc
pending_in_the_last = on crowded 3 limit false full_of_tail

abbrev pub full_of_sessions : Disc
full_of_sessions = on 143444 0 0 false (sessions limit 1 0)

pub sound-full : map allowed_state (full_of_complete ∷ pending_in_the_last ∷ full_of_sessions ∷ []) ≡ true ∷ true ∷ true ∷ []
unfolding
    allowed_state sound column sessions listed every used_first first_at_zero follows_from in_order ends_within recorded_within zeroed_within
    incomplete_last tail_last tail_or_full pending_named finalized_complete allowed_sense is_refusal_sense
sound-full = refl

-- the highest number of a fragment and of a session, 160
pub highest_numbers : (used full_of_sessions ∷ (last_record full_of_sessions).session ∷ []) ≡ (160 ∷ 160 ∷ [])
unfolding sessions listed
highest_numbers = refl

-- so AAh, the lead-out in a table of contents, is no fragment's number and no session's, and FFh, the tail in 52h, is no fragment's: on every
-- disc whose list is sound
pub free_numbers :
    (d : Disc) → sound d ≡ true → (n : ℕ) → is_listed d n ≡ true
    → (n ≡ 0xAA → ⊥) × ((numbered d n).session ≡ 0xAA → ⊥) × (n ≡ 0xFF → ⊥)
free_numbers d s n l =
    let below = numbers-below d (sound-rules d s) n l in
    (λ e. omega (arith, below.0), λ e. omega (arith, below.1), λ e. omega (arith, below.0))
