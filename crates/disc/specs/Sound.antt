-- The rules of a "sound list", one definition a rule, and the states that L3 lets through. This file decides what is sound.
use Rattle.std.specs.Prelude.{ℕ, ◌+◌, Bool, true, false, not, cond, ◌&&◌, ◌||◌, List, [], ◌∷◌, length, eqb, leb, ltb}
use Rattle.disc.specs.Types.{Fragment, Disc}
use Rattle.protocol.specs.Answer.{allowed_sense}
use Rattle.fragments.specs.Address.{sectors_in}
use Rattle.fragments.specs.Fragment.{unused, is_zero, end, complete, is_tail, next_fragment_start, next_session_start}
use Rattle.fragments.specs.List.{limit, every}
use Rattle.disc.specs.Records.{records, used, is_listed, numbered, last_record, has_tail}

-- the records in use come first, and those after them are all zero
unfoldable pub used_first : List Fragment → Bool
used_first [] = true
used_first (f ∷ fs) = cond (unused f) (every is_zero (f ∷ fs)) (used_first fs)

-- there is a first record; it starts at block 0 in session 1
unfoldable pub first_at_zero : List Fragment → Bool
first_at_zero [] = false
first_at_zero (f ∷ fs) = eqb f.session 1 && eqb f.start.0 0

-- a record is in its forerunner's session, or in the next one, and starts where that lets it start
abbrev pub follows : Fragment → Fragment → Bool
follows p f =
    eqb f.session p.session && eqb f.start.0 (next_fragment_start (end p)).0
    || eqb f.session (p.session + 1) && eqb f.start.0 (next_session_start (end p)).0

unfoldable pub follows_from : Fragment → List Fragment → Bool
follows_from p [] = true
follows_from p (f ∷ fs) = follows p f && follows_from f fs

unfoldable pub in_order : List Fragment → Bool
in_order [] = true
in_order (f ∷ fs) = follows_from f fs

-- no fragment ends past the capacity
unfoldable pub ends_within : ℕ → List Fragment → Bool
ends_within capacity fs = every (λ f. leb (end f).0 capacity) fs

-- no more blocks are recorded than a fragment has
unfoldable pub recorded_within : List Fragment → Bool
recorded_within fs = every (λ f. leb f.recorded f.length) fs

-- no more sectors are zero-filled than are recorded
unfoldable pub zeroed_within : List Fragment → Bool
zeroed_within fs = every (λ f. leb f.zeroed (sectors_in f.recorded)) fs

-- an incomplete fragment is in the last session
unfoldable pub incomplete_last : ℕ → List Fragment → Bool
incomplete_last last_session fs = every (λ f. complete f || eqb f.session last_session) fs

-- a tail is the last record and reaches the capacity
unfoldable pub tail_last : ℕ → List Fragment → Bool
tail_last capacity [] = true
tail_last capacity (f ∷ fs) = cond (is_tail f) (eqb (length fs) 0 && eqb (end f).0 capacity) (tail_last capacity fs)

-- only a finalized disc, a full list or a last record that leaves no block for another one goes without a tail
unfoldable pub tail_or_full : Disc → Bool
tail_or_full d = d.finalized || has_tail d || eqb (used d) limit || leb d.capacity ((end (last_record d)).0 + 1)

-- fewer sectors are pending than a block has, and they name an incomplete record; with none pending the number is 0
unfoldable pub pending_named : Disc → Bool
pending_named d =
    cond (eqb d.pending 0) (eqb d.owner 0)
    (ltb d.pending 16 && is_listed d d.owner && not (complete (numbered d d.owner)))

-- a finalized disc has complete records alone and nothing pending
unfoldable pub finalized_complete : Disc → Bool
finalized_complete d = not d.finalized || every complete (records d) && eqb d.pending 0

-- the records are one array of as many as a disc can have, which no value of the code's type breaks
abbrev pub is_array : Disc → Bool
is_array d = eqb (length d.fragments) limit

unfoldable pub sound : Disc → Bool
sound d =
    used_first d.fragments && first_at_zero (records d) && in_order (records d) && ends_within d.capacity (records d)
    && recorded_within (records d) && zeroed_within (records d) && incomplete_last (last_record d).session (records d)
    && tail_last d.capacity (records d) && tail_or_full d && pending_named d && finalized_complete d && is_array d

-- the rule of the pending sectors as the code tests it
unfoldable pub owner_incomplete : Disc → Bool
owner_incomplete d =
    cond (eqb d.pending 0) (eqb d.owner 0)
    (cond (ltb 15 d.pending) false
    (cond (eqb d.owner 0) false
    (cond (ltb limit d.owner) false (not (complete (numbered d d.owner))))))

-- what L3 tests
unfoldable pub allowed_state : Disc → Bool
allowed_state d = sound d && allowed_sense d.sense
