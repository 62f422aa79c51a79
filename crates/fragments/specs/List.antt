-- The fragment list, without the disc that has it.
use Rattle.std.specs.Prelude.{ℕ, ◌+◌, ◌-◌, Bool, true, false, cond, ◌&&◌, ◌||◌, List, [], ◌∷◌, length, get_or, eqb}
use Rattle.fragments.specs.Types.{Lba, Fragment, Option, Some, None, Entry, Reach}
use Rattle.fragments.specs.Address.{lba, first_sector, later}
use Rattle.fragments.specs.Fragment.{unused_record, unused, first_unrecorded, next_after, takes, holds, last_readable_of}

-- how many fragments a disc can have, the tail included
abbrev pub limit : ℕ
limit = 160

-- the records in use: those before the first one without a length
unfoldable pub listed : List Fragment → List Fragment
listed [] = []
listed (f ∷ fs) = cond (unused f) [] (f ∷ listed fs)

-- the record with a number; they count from 1, and past the end there are unused ones
abbrev pub record_numbered : List Fragment → ℕ → Fragment
record_numbered fs n = get_or fs (n - 1) unused_record

-- the last of those in use, whose number is how many they are
abbrev pub last_of : List Fragment → Entry
last_of fs = record { number = length (listed fs); fragment = record_numbered fs (length (listed fs)) }

-- a test that some record, or every record, of a list passes
unfoldable pub some : (Fragment → Bool) → List Fragment → Bool
some p [] = false
some p (f ∷ fs) = p f || some p fs

unfoldable pub every : (Fragment → Bool) → List Fragment → Bool
every p [] = true
every p (f ∷ fs) = p f && every p fs

-- the blocks recorded in all fragments together
unfoldable pub sum_recorded : List Fragment → ℕ
sum_recorded [] = 0
sum_recorded (f ∷ fs) = f.recorded + sum_recorded fs

-- the first record that passes a test, with its number; n is the number of the first in the list
unfoldable pub find : (ℕ → Fragment → Bool) → ℕ → List Fragment → Option ℕ
find p n [] = None
find p n (f ∷ fs) = cond (p n f) (Some n) (find p (n + 1) fs)

-- the fragment that an address lies in
abbrev pub holder_of : List Fragment → Lba → Option ℕ
holder_of fs a = find (λ n f. holds a f) 1 (listed fs)

-- the pending sectors of the fragment n, of all those pending, which belong to the fragment `owner`
abbrev pub pending_of : ℕ → ℕ → ℕ → ℕ
pending_of pending owner n = cond (eqb owner n) pending 0

-- the incomplete fragment whose next writable address it is
abbrev pub taker_of : List Fragment → ℕ → ℕ → Lba → Option ℕ
taker_of fs pending owner a = find (λ n f. takes a (pending_of pending owner n) f) 1 (listed fs)

-- no sector is readable
abbrev pub no_reach : Reach
no_reach = record { recorded = lba 0; readable = lba 0 }

-- where the recorded sectors of the fragment that an address lies in end, and where its readable ones do; both 0 where there is none
abbrev pub reach_found : List Fragment → ℕ → ℕ → Option ℕ → Reach
reach_found fs pending owner (Some n) =
    let f = record_numbered fs n in
    record { recorded = first_sector (first_unrecorded f); readable = next_after (pending_of pending owner n) f }
reach_found fs pending owner None = no_reach

abbrev pub reach_at : List Fragment → ℕ → ℕ → Lba → Reach
reach_at fs pending owner a = reach_found fs pending owner (holder_of fs a)

-- the highest readable address of any fragment of a list, or 0; n is the number of the first
unfoldable pub highest_readable : ℕ → ℕ → ℕ → List Fragment → Lba
highest_readable pending owner n [] = lba 0
highest_readable pending owner n (f ∷ fs) = later (last_readable_of (pending_of pending owner n) f) (highest_readable pending owner (n + 1) fs)

-- the number of a session's first record; n is the number of the first in the list
unfoldable pub first_of_session : ℕ → ℕ → List Fragment → ℕ
first_of_session s n [] = n
first_of_session s n (f ∷ fs) = cond (eqb f.session s) n (first_of_session s (n + 1) fs)
