-- The fragment list of a disc.
use Rattle.std.specs.Prelude.{ℕ, ◌-◌, Bool, not, cond, ◌&&◌, ◌||◌, List, length, set, eqb, leb}
use Rattle.disc.specs.Types.{Lba, Sense, Fragment, Disc, Option, Entry, Reach, Some, None}
use Rattle.fragments.specs.Fragment.{is_tail, next_after, holds_recorded, holds_pending}
use Rattle.fragments.specs.List.{listed, record_numbered, last_of, some, pending_of, holder_of, reach_at, taker_of, highest_readable, first_of_session}

-- the records in use
abbrev pub records : Disc → List Fragment
records d = listed d.fragments

-- how many they are; numbers count from 1, so this is the last one's number too
abbrev pub used : Disc → ℕ
used d = length (records d)

abbrev pub is_listed : Disc → ℕ → Bool
is_listed d n = not (eqb n 0) && leb n (used d)

-- the record with a number
abbrev pub numbered : Disc → ℕ → Fragment
numbered d n = record_numbered d.fragments n

abbrev pub last_record : Disc → Fragment
last_record d = numbered d (used d)

-- the disc with one record changed
abbrev pub with_record : Disc → ℕ → Fragment → Disc
with_record d n f =
    record {
      capacity = d.capacity;
      finalized = d.finalized;
      sense = d.sense;
      pending = d.pending;
      owner = d.owner;
      fragments = set d.fragments (n - 1) f;
    }

abbrev pub with_sense : Disc → Sense → Disc
with_sense d s =
    record {
      capacity = d.capacity;
      finalized = d.finalized;
      sense = s;
      pending = d.pending;
      owner = d.owner;
      fragments = d.fragments;
    }

-- the pending sectors of the fragment with this number
abbrev pub pending_in : Disc → ℕ → ℕ
pending_in d n = pending_of d.pending d.owner n

-- "blank": no block recorded and no sector pending in it
abbrev pub is_blank : Disc → ℕ → Fragment → Bool
is_blank d n f = eqb f.recorded 0 && eqb (pending_in d n) 0

-- the "next writable address" of an incomplete fragment: after its recorded blocks and its pending sectors
abbrev pub next_writable : Disc → ℕ → Fragment → Lba
next_writable d n f = next_after (pending_in d n) f

-- in a sound list the tail, where there is one, is the last record
abbrev pub has_tail : Disc → Bool
has_tail d = is_tail (last_record d)

abbrev pub tail_next : Disc → Option Lba
tail_next d = cond (has_tail d) (Some (next_writable d (used d) (last_record d))) None

-- the last record, with its number, is a blank tail
abbrev pub is_blank_tail : Disc → Entry → Bool
is_blank_tail d l = is_tail l.fragment && is_blank d l.number l.fragment

abbrev pub has_blank_tail : Disc → Bool
has_blank_tail d = is_blank_tail d (last_of d.fragments)

-- the fragment that an address lies in
abbrev pub at_address : Disc → Lba → Option ℕ
at_address d a = holder_of d.fragments a

-- where the recorded sectors of that fragment end, and where its readable ones do
abbrev pub reach_around : Disc → Lba → Reach
reach_around d a = reach_at d.fragments d.pending d.owner a

-- the incomplete fragment whose next writable address it is
abbrev pub writable_at : Disc → Lba → Option ℕ
writable_at d a = taker_of d.fragments d.pending d.owner a

-- a recorded sector lies in a recorded block of some fragment: it is on the medium and never changes
abbrev pub is_recorded : Disc → Lba → Bool
is_recorded d a = some (holds_recorded a) (records d)

-- a pending sector is in the pending buffer, and its block is not recorded yet
abbrev pub is_pending : Disc → Lba → Bool
is_pending d a = holds_pending a d.pending (numbered d d.owner)

-- a "readable" sector is recorded or pending
abbrev pub is_readable : Disc → Lba → Bool
is_readable d a = is_recorded d a || is_pending d a

-- the highest readable address, or 0
abbrev pub last_readable : Disc → Lba
last_readable d = highest_readable d.pending d.owner 1 (records d)

-- its session has one record, and that is a blank tail
abbrev pub is_only_tail : Disc → Entry → Bool
is_only_tail d l = is_blank_tail d l && eqb (first_of_session l.fragment.session 1 (records d)) l.number

abbrev pub blank_tail_only : Disc → Bool
blank_tail_only d = is_only_tail d (last_of d.fragments)

-- so has session 1: nothing was ever written
abbrev pub is_blank_disc : Disc → Bool
is_blank_disc d = blank_tail_only d && eqb (last_record d).session 1
