-- RESERVE TRACK (53h): the blank tail becomes a reserved fragment and a tail after it.
use Rattle.std.specs.Prelude.{ℕ, ◌+◌, ◌≤◌, ◌<◌, Bool, cond, not, ◌||◌, eqb, leb}
use Rattle.commands.specs.Types.{Disc, Verdict, WriteProtected, InvalidFieldInCommand, NoMoreReservations, EndOfUserArea}
use Rattle.fragments.specs.Address.{whole_blocks, left_over}
use Rattle.fragments.specs.Fragment.{end, next_fragment_start, tail_from, reserved_at}
use Rattle.fragments.specs.List.{limit}
use Rattle.disc.specs.Records.{used, last_record, with_record, has_blank_tail}
use Rattle.decisions.specs.Plan.{no_plan}
use Rattle.disc.specs.Verdict.{accept, refuse}
use Rattle.protocol.specs.Reply.{no_reply}

-- the blank tail becomes a reserved fragment of b blocks and a tail after it
unfoldable pub split_tail : Disc → ℕ → Disc
split_tail d b =
    let f = reserved_at (last_record d) b in
    with_record (with_record d (used d) f) (used d + 1) (tail_from d.capacity f.session (next_fragment_start (end f)))

-- what the code that splits asks: there is a record, one is free, and the new tail starts within the capacity
pub record Splitting (d : Disc) (b : ℕ) : Type 0 where
  pub from : 1 ≤ used d
  pub free : used d < limit
  pub start : (next_fragment_start (end (reserved_at (last_record d) b))).0 < d.capacity

-- a size that is 0 or no multiple of 16 (request (vi) of document 02)
abbrev pub invalid_size : ℕ → Bool
invalid_size size = eqb size 0 || not (eqb (left_over size) 0)

-- RESERVE TRACK with its refusals in the table's order; nothing is flushed
unfoldable pub reserve : Disc → ℕ → Verdict
reserve d size =
    cond d.finalized (refuse d WriteProtected)
    (cond (invalid_size size) (refuse d InvalidFieldInCommand)
    (cond (not (has_blank_tail d)) (refuse d NoMoreReservations)
    (cond (eqb (used d) limit) (refuse d NoMoreReservations)
    (cond (leb d.capacity (next_fragment_start (end (reserved_at (last_record d) (whole_blocks size)))).0) (refuse d EndOfUserArea)
    (accept d (split_tail d (whole_blocks size)) no_reply no_plan)))))
