-- The tail that a command begins, and what closing makes of one: records put into the list.
use Rattle.std.specs.Prelude.{ℕ, ◌+◌, cond, eqb, ltb}
use Rattle.fragments.specs.Types.{Block, Fragment, Entry}
use Rattle.fragments.specs.Fragment.{unused_record, end, is_tail, next_fragment_start, tail_from, shortened_record}
use Rattle.fragments.specs.List.{limit}
use Rattle.fragments.specs.Entry.{entry, no_entry}

-- the tail of a session from a block to the capacity, under a number, if a block is left for it
unfoldable pub tail_entry : ℕ → ℕ → ℕ → Block → Entry
tail_entry capacity n session start = cond (ltb start.0 capacity) (entry n (tail_from capacity session start)) no_entry

-- the tail after the record f under the number n, the last one, if a block is left for it and a record
unfoldable pub tail_after : ℕ → ℕ → Fragment → Entry
tail_after capacity n f = cond (ltb n limit) (tail_entry capacity (n + 1) f.session (next_fragment_start (end f))) no_entry

-- what closing makes of the last record, with nothing pending: a blank tail is dropped, a written one ends with its recorded blocks
unfoldable pub tail_closed : Entry → Entry
tail_closed l =
    cond (is_tail l.fragment)
    (cond (eqb l.fragment.recorded 0) (entry l.number unused_record) (entry l.number (shortened_record l.fragment))) no_entry
