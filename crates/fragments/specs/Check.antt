-- The check of the list as one walk along the records, and at the end in two parts. A law of the disc has that it is
-- the rules of a sound list, joined (`check_sound`): a reader who believes those need not believe this file.
use Rattle.std.specs.Prelude.{ℕ, ◌+◌, Bool, true, false, not, cond, ◌&&◌, ◌||◌, List, [], ◌∷◌, eqb, leb}
use Rattle.fragments.specs.Types.{Fragment}
use Rattle.fragments.specs.Address.{sectors_in}
use Rattle.fragments.specs.Fragment.{unused, is_zero, end, complete, is_tail, next_fragment_start, next_session_start}
use Rattle.fragments.specs.List.{every}

-- the rules about one record alone
unfoldable pub within : ℕ → Fragment → Bool
within capacity f = leb (end f).0 capacity && leb f.recorded f.length && leb f.zeroed (sectors_in f.recorded)

-- f may be the first record
unfoldable pub begins_list : Fragment → Bool
begins_list f = not (unused f) && eqb f.session 1 && eqb f.start.0 0

-- f may follow p; o says that a fragment of p's session is incomplete
unfoldable pub continues : Bool → Fragment → Fragment → Bool
continues o p f =
    not (is_tail p)
    && (eqb f.session p.session && eqb f.start.0 (next_fragment_start (end p)).0
    || not o && (eqb f.session (p.session + 1) && eqb f.start.0 (next_session_start (end p)).0))

-- the same flag for f
unfoldable pub open_after : Bool → Fragment → Fragment → Bool
open_after o p f = eqb f.session p.session && o || not (complete f)

-- p may be the last record; full says that no record is free
unfoldable pub ends_list : ℕ → Bool → Bool → Bool → Fragment → Bool
ends_list capacity fin full o p =
    cond fin (not o) (cond (is_tail p) (eqb (end p).0 capacity) (full || leb capacity ((end p).0 + 1)))

-- the records after p
unfoldable pub walk : ℕ → Bool → Bool → Fragment → List Fragment → Bool
walk capacity fin o p [] = ends_list capacity fin true o p
walk capacity fin o p (f ∷ fs) =
    cond (unused f) (ends_list capacity fin false o p && every is_zero (f ∷ fs))
    (within capacity f && continues o p f && walk capacity fin (open_after o p f) f fs)

unfoldable pub list_sound : ℕ → Bool → List Fragment → Bool
list_sound capacity fin [] = false
list_sound capacity fin (f ∷ fs) = begins_list f && within capacity f && walk capacity fin (not (complete f)) f fs

-- the same rules in two parts: those of the records in use, of which p is the one before, and that the rest is zero
unfoldable pub walk_in_use : ℕ → Bool → Bool → Bool → Fragment → List Fragment → Bool
walk_in_use capacity fin full o p [] = ends_list capacity fin full o p
walk_in_use capacity fin full o p (f ∷ fs) = within capacity f && continues o p f && walk_in_use capacity fin full (open_after o p f) f fs

unfoldable pub in_use_sound : ℕ → Bool → Bool → List Fragment → Bool
in_use_sound capacity fin full [] = false
in_use_sound capacity fin full (f ∷ fs) = begins_list f && within capacity f && walk_in_use capacity fin full (not (complete f)) f fs
