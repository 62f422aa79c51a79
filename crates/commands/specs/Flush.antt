-- The flush, and SYNCHRONIZE CACHE (35h).
use Rattle.std.specs.Prelude.{ℕ, ◌+◌, ◌-◌, cond, set, eqb}
use Rattle.commands.specs.Types.{Fragment, Disc, Flush, Option, None, Some, Nothing, Entry, Flushing, Verdict}
use Rattle.fragments.specs.Address.{missing}
use Rattle.fragments.specs.Fragment.{first_unrecorded}
use Rattle.disc.specs.Records.{numbered}
use Rattle.decisions.specs.Plan.{plan}
use Rattle.disc.specs.Verdict.{accept}
use Rattle.fragments.specs.Entry.{entry, no_entry}
use Rattle.protocol.specs.Reply.{no_reply}
use Rattle.decisions.specs.Plan.{recording}

-- the record whose pending block, n sectors of it given, is recorded with zeros for the missing ones
abbrev pub flushed_record : ℕ → Fragment → Fragment
flushed_record n f =
    record {
      session = f.session;
      start = f.start;
      length = f.length;
      recorded = f.recorded + 1;
      zeroed = f.zeroed + missing n;
      kind = f.kind;
    }

-- the disc after a "flush": the pending block is recorded; with none pending nothing happens
unfoldable pub flush : Disc → Disc
flush d =
    cond (eqb d.pending 0) d
    (record {
      capacity = d.capacity;
      finalized = d.finalized;
      sense = d.sense;
      pending = 0;
      owner = 0;
      fragments = set d.fragments (d.owner - 1) (flushed_record d.pending (numbered d d.owner));
    })

-- the same for the bytes
unfoldable pub flush_plan : Disc → Option Flush
flush_plan d = cond (eqb d.pending 0) None (Some (recording (first_unrecorded (numbered d d.owner)) d.pending))

-- and the number of blocks that it records
unfoldable pub flush_count : Disc → ℕ
flush_count d = cond (eqb d.pending 0) 0 1

-- the record that it leaves
unfoldable pub flush_entry : Disc → Entry
flush_entry d = cond (eqb d.pending 0) no_entry (entry d.owner (flushed_record d.pending (numbered d d.owner)))

-- what the code that flushes comes to: record, plan and count
abbrev pub flushing : Disc → Flushing
flushing d = record { entry = flush_entry d; plan = flush_plan d; recorded = flush_count d }

-- SYNCHRONIZE CACHE flushes and does nothing else
unfoldable pub synchronize_cache : Disc → Verdict
synchronize_cache d = accept d (flush d) no_reply (plan (flush_plan d) Nothing)
