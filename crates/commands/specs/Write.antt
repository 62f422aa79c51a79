-- WRITE (2Ah, AAh): the decision, the new list and the plan.
use Rattle.std.specs.Prelude.{ℕ, ◌+◌, ◌-◌, ◌/◌, ◌^◌, ◌≤◌, ◌<◌, ◌≡◌, false, cond, set, eqb, ltb}
use Rattle.commands.specs.Types.{Lba, Fragment, Disc, Option, Some, None, Flush, Gather, Entry, Flushing, Verdict, WriteProtected, InvalidAddressForWrite, EndOfUserArea}
use Rattle.fragments.specs.Address.{first_sector, whole_blocks, left_over}
use Rattle.fragments.specs.Fragment.{end, first_unrecorded, complete}
use Rattle.disc.specs.Records.{pending_in, next_writable, used, numbered, writable_at}
use Rattle.fragments.specs.List.{limit}
use Rattle.decisions.specs.Plan.{no_plan, plan}
use Rattle.disc.specs.Verdict.{accept, refuse}
use Rattle.protocol.specs.Reply.{no_reply}
use Rattle.commands.specs.Flush.{flush, flush_plan, flush_count, flush_entry}
use Rattle.fragments.specs.Entry.{no_entry}

-- sectors pending in another fragment are flushed first: the disc after that, and the plan for it
unfoldable pub flush_others : Disc → ℕ → Disc
flush_others d n = cond (eqb d.owner n) d (flush d)

unfoldable pub flush_others_plan : Disc → ℕ → Option Flush
flush_others_plan d n = cond (eqb d.owner n) None (flush_plan d)

unfoldable pub flush_others_count : Disc → ℕ → ℕ
flush_others_count d n = cond (eqb d.owner n) 0 (flush_count d)

-- the record that it leaves
unfoldable pub flush_others_entry : Disc → ℕ → Entry
flush_others_entry d n = cond (eqb d.owner n) no_entry (flush_entry d)

-- what the code that flushes comes to: record, plan and count
abbrev pub flushing_others : Disc → ℕ → Flushing
flushing_others d n = record { entry = flush_others_entry d n; plan = flush_others_plan d n; recorded = flush_others_count d n }

abbrev pub grown_record : ℕ → Fragment → Fragment
grown_record blocks f =
    record {
      session = f.session;
      start = f.start;
      length = f.length;
      recorded = f.recorded + blocks;
      zeroed = f.zeroed;
      kind = f.kind;
    }

-- n more sectors gather in the fragment with this number; each sixteen are recorded, the rest stays pending
unfoldable pub gather : Disc → ℕ → ℕ → Disc
gather d number n =
    let held = pending_in d number + n in
    record {
      capacity = d.capacity;
      finalized = d.finalized;
      sense = d.sense;
      pending = left_over held;
      owner = cond (eqb (left_over held) 0) 0 number;
      fragments = set d.fragments (number - 1) (grown_record (whole_blocks held) (numbered d number));
    }

-- what the code that gathers asks: the number is a record's, and its counts do not overflow
pub record Gathering (d : Disc) (number n : ℕ) : Type 0 where
  pub from : 1 ≤ number
  pub to : number ≤ limit
  pub sectors : n < 2 ^ 24
  pub pending : d.pending < 16
  pub blocks : (numbered d number).recorded + (pending_in d number + n) / 16 < 2 ^ 24

-- the address is the next writable one of the fragment with this number
pub record Writable (d : Disc) (a : Lba) (number : ℕ) : Type 0 where
  pub from : 1 ≤ number
  pub listed : number ≤ used d
  pub incomplete : complete (numbered d number) ≡ false
  pub here : a.0 ≡ (next_writable d number (numbered d number)).0

-- a WRITE of n sectors whose address is the next writable one of the fragment with this number: it must fit whole
unfoldable pub write_to : Disc → Lba → ℕ → ℕ → Verdict
write_to d a n number =
    cond (ltb (first_sector (end (numbered d number))).0 (a.0 + n)) (refuse d EndOfUserArea)
    (accept d (gather (flush_others d number) number n) no_reply
    (plan (flush_others_plan d number) (Gather (first_unrecorded (numbered d number)) (pending_in d number) n)))

unfoldable pub write_found : Disc → Lba → ℕ → Option ℕ → Verdict
write_found d a n (Some number) = write_to d a n number
write_found d a n None = refuse d InvalidAddressForWrite

-- a length of 0 is accepted wherever it points; then the refusals of WRITE in the table's order, judged on the disc as it stands
unfoldable pub write : Disc → Lba → ℕ → Verdict
write d a n =
    cond (eqb n 0) (accept d d no_reply no_plan)
    (cond d.finalized (refuse d WriteProtected)
    (write_found d a n (writable_at d a)))
