-- What the reports say of the disc: 03h REQUEST SENSE, 25h READ CAPACITY, 51h READ DISC INFORMATION, 52h READ TRACK INFORMATION.
use Rattle.std.specs.Prelude.{ℕ, ◌+◌, ◌-◌, ◌*◌, Bool, cond, not, eqb}
use Rattle.reporting.specs.Types.{Lba, Disc, Option, Some, None, DiscReport, TrackReport, Verdict, InvalidFieldInCommand, AddressOutOfRange, SessionState, Empty, Incomplete, Complete, DiscStatus, Blank, Appendable, Finalized}
use Rattle.fragments.specs.Address.{lba, sectors_in, first_sector}
use Rattle.fragments.specs.Fragment.{end, complete, is_reserved, last_recorded}
use Rattle.disc.specs.Records.{is_blank, next_writable, records, used, is_listed, numbered, last_record, has_tail, at_address, last_readable, blank_tail_only, is_blank_disc}
use Rattle.fragments.specs.List.{first_of_session}
use Rattle.protocol.specs.Lengths.{capacity_length}
use Rattle.decisions.specs.Plan.{no_plan}
use Rattle.disc.specs.Verdict.{accept, refuse}
use Rattle.protocol.specs.Reply.{report}
use Rattle.protocol.specs.Reports.{sense_bytes, capacity_bytes, disc_bytes, track_bytes}

-- REQUEST SENSE (03h) reports the sense that it finds
unfoldable pub request_sense : Disc → ℕ → Verdict
request_sense d allocation = accept d d (report (sense_bytes d.sense) allocation) no_plan

-- READ CAPACITY (25h): the last readable address, recorded or pending, or 0
unfoldable pub read_capacity : Disc → Verdict
read_capacity d = accept d d (report (capacity_bytes (last_readable d)) capacity_length) no_plan

-- READ DISC INFORMATION (51h): the state of the last session: 0 with only a blank tail, 3 on a finalized disc, else 1
abbrev pub last_session : Bool → Bool → ℕ
last_session finalized only = cond finalized 3 (cond only 0 1)

unfoldable pub session_state : Disc → ℕ
session_state d = last_session d.finalized (blank_tail_only d)

-- the disc status: 0 for a blank disc, 2 for a finalized one, else 1
abbrev pub status_of : Bool → Bool → ℕ
status_of finalized blank = cond finalized 2 (cond blank 0 1)

unfoldable pub disc_status : Disc → ℕ
disc_status d = status_of d.finalized (is_blank_disc d)

-- the numbers of the two, as the code names them
abbrev pub session_number : SessionState → ℕ
session_number Empty = 0
session_number Incomplete = 1
session_number Complete = 3

abbrev pub status_number : DiscStatus → ℕ
status_number Blank = 0
status_number Appendable = 1
status_number Finalized = 2

-- what it says: the two states, then the number of the last session, of its first and of its last fragment
abbrev pub disc_report : Disc → DiscReport
disc_report d =
    record {
      states = 4 * session_state d + disc_status d;
      sessions = (last_record d).session;
      first = first_of_session (last_record d).session 1 (records d);
      last = used d;
    }

-- data type 0 alone is served
unfoldable pub read_disc_information : Disc → ℕ → ℕ → Verdict
read_disc_information d dataType allocation =
    cond (eqb dataType 0) (accept d d (report (disc_bytes (disc_report d)) allocation) no_plan) (refuse d InvalidFieldInCommand)

-- READ TRACK INFORMATION (52h) of the fragment n: its next writable address and the sectors from there to its end, each 0 if it is complete
unfoldable pub next_writable_or_zero : Disc → ℕ → Lba
next_writable_or_zero d n = cond (complete (numbered d n)) (lba 0) (next_writable d n (numbered d n))

unfoldable pub free_sectors : Disc → ℕ → ℕ
free_sectors d n =
    cond (complete (numbered d n)) 0 ((first_sector (end (numbered d n))).0 - (next_writable d n (numbered d n)).0)

-- what it says of the fragment
abbrev pub track_report : Disc → ℕ → TrackReport
track_report d n =
    let f = numbered d n in
    record {
      number = n;
      session = f.session;
      reserved = is_reserved f.kind;
      blank = is_blank d n f;
      written = not (eqb f.recorded 0);
      incomplete = not (complete f);
      start = first_sector f.start;
      next = next_writable_or_zero d n;
      free = free_sectors d n;
      size = sectors_in f.length;
      last = last_recorded f;
    }

unfoldable pub track_verdict : Disc → ℕ → ℕ → Verdict
track_verdict d allocation n = accept d d (report (track_bytes (track_report d n)) allocation) no_plan

-- address type 0: the fragment that an address lies in
unfoldable pub track_found : Disc → ℕ → Option ℕ → Verdict
track_found d allocation (Some n) = track_verdict d allocation n
track_found d allocation None = refuse d AddressOutOfRange

-- address type 1: the fragment with a number; FFh stands for the tail
unfoldable pub track_numbered : Disc → ℕ → ℕ → Verdict
track_numbered d allocation n =
    cond (eqb n 0xFF) (cond (has_tail d) (track_verdict d allocation (used d)) (refuse d InvalidFieldInCommand))
    (cond (is_listed d n) (track_verdict d allocation n) (refuse d InvalidFieldInCommand))

-- READ TRACK INFORMATION by its address type
unfoldable pub read_track_information : Disc → ℕ → ℕ → ℕ → Verdict
read_track_information d addressType n allocation =
    cond (eqb addressType 0) (track_found d allocation (at_address d (lba n)))
    (cond (eqb addressType 1) (track_numbered d allocation n)
    (refuse d InvalidFieldInCommand))
