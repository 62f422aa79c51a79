-- CLOSE TRACK/SESSION (5Bh): 001 fragment, 010 session, 110 finalize. An accepted one flushes first, a refused one never.
use Rattle.std.specs.Prelude.{ℕ, ◌+◌, ◌-◌, Bool, true, cond, not, ◌&&◌, ◌||◌, eqb, ltb}
use Rattle.commands.specs.Types.{Kind, Reserved, Appended, Fragment, Disc, Nothing, Fill, Verdict, InvalidFieldInCommand, IncompleteTrackInSession, EmptyTrack, NoMoreReservations, EndOfUserArea}
use Rattle.fragments.specs.Address.{sectors_in}
use Rattle.fragments.specs.Fragment.{unused_record, end, first_unrecorded, complete, is_incomplete_reserved, next_fragment_start, next_session_start, tail_from, shortened_record}
use Rattle.disc.specs.Records.{is_blank, records, used, is_listed, numbered, last_record, with_record, has_tail, has_blank_tail, blank_tail_only, is_blank_disc}
use Rattle.fragments.specs.List.{limit, some}
use Rattle.decisions.specs.Plan.{no_plan, plan}
use Rattle.disc.specs.Verdict.{accept, refuse}
use Rattle.protocol.specs.Reply.{no_reply}
use Rattle.disc.specs.Apply.{with_finalized}
use Rattle.commands.specs.Flush.{flush, flush_plan}

-- every block not yet recorded is recorded as zeros
abbrev pub filled_record : Fragment → Fragment
filled_record f =
    record {
      session = f.session;
      start = f.start;
      length = f.length;
      recorded = f.length;
      zeroed = f.zeroed + sectors_in (f.length - f.recorded);
      kind = f.kind;
    }

-- a new tail after fragment n, the last one, if there is a block for it and a record
unfoldable pub append_tail : Disc → ℕ → Disc
append_tail d n =
    let f = numbered d n in
    cond (ltb (next_fragment_start (end f)).0 d.capacity && ltb n limit)
    (with_record d (n + 1) (tail_from d.capacity f.session (next_fragment_start (end f)))) d

-- 001 on an incomplete fragment of a flushed disc, by its kind; `before` is the disc before the flush
unfoldable pub close_incomplete : Disc → Disc → ℕ → Kind → Verdict
close_incomplete before d n Reserved =
    let f = numbered d n in
    accept before (with_record d n (filled_record f)) no_reply
    (plan (flush_plan before) (Fill (first_unrecorded f) (f.length - f.recorded)))
close_incomplete before d n Appended =
    accept before (append_tail (with_record d n (shortened_record (numbered d n))) n) no_reply (plan (flush_plan before) Nothing)

-- 001: the number must be listed and the fragment not blank; on a complete one the flush is all that is done
unfoldable pub close_fragment : Disc → ℕ → Verdict
close_fragment d n =
    cond (not (is_listed d n)) (refuse d InvalidFieldInCommand)
    (cond (is_blank d n (numbered d n)) (refuse d EmptyTrack)
    (cond (complete (numbered (flush d) n)) (accept d (flush d) no_reply (plan (flush_plan d) Nothing))
    (close_incomplete d (flush d) n (numbered (flush d) n).kind)))

-- some reserved fragment is incomplete
abbrev pub has_incomplete_reserved : Disc → Bool
has_incomplete_reserved d = some is_incomplete_reserved (records d)

-- the tail, if there is one, is dropped where it is blank and ends with its recorded blocks where it is not
unfoldable pub close_tail : Disc → Disc
close_tail d =
    cond (has_blank_tail d) (with_record d (used d) unused_record)
    (cond (has_tail d) (with_record d (used d) (shortened_record (last_record d))) d)

-- a tail of the next session after the last record
unfoldable pub open_session : Disc → Disc
open_session d =
    with_record d (used d + 1) (tail_from d.capacity ((last_record d).session + 1) (next_session_start (end (last_record d))))

-- 010: nothing is done on a finalized disc or where the last session is only a blank tail. Else no reserved fragment may be
-- incomplete, a record must be free and a block must be left for the new tail, all judged on the flushed list
unfoldable pub close_session : Disc → Verdict
close_session d =
    let kept = close_tail (flush d) in
    cond (d.finalized || blank_tail_only d) (accept d d no_reply no_plan)
    (cond (has_incomplete_reserved (flush d)) (refuse d IncompleteTrackInSession)
    (cond (eqb (used kept) limit) (refuse d NoMoreReservations)
    (cond (ltb d.capacity ((next_session_start (end (last_record kept))).0 + 1)) (refuse d EndOfUserArea)
    (accept d (open_session kept) no_reply (plan (flush_plan d) Nothing)))))

abbrev pub finalized : Disc → Disc
finalized d = with_finalized d true

-- 110: nothing is done on a finalized disc. Else no reserved fragment may be incomplete, as after the flush, and the disc must
-- not be blank; the tail is closed as by 010, and no session is opened
unfoldable pub finalize : Disc → Verdict
finalize d =
    cond d.finalized (accept d d no_reply no_plan)
    (cond (has_incomplete_reserved (flush d)) (refuse d IncompleteTrackInSession)
    (cond (is_blank_disc d) (refuse d EmptyTrack)
    (accept d (finalized (close_tail (flush d))) no_reply (plan (flush_plan d) Nothing))))

-- CLOSE TRACK/SESSION by its function
unfoldable pub close : Disc → ℕ → ℕ → Verdict
close d function n =
    cond (eqb function 0b001) (close_fragment d n)
    (cond (eqb function 0b010) (close_session d)
    (cond (eqb function 0b110) (finalize d)
    (refuse d InvalidFieldInCommand)))
