-- A change applied to a disc, and a decision.
use Rattle.std.specs.Prelude.{ℕ, Bool, cond, eqb}
use Rattle.disc.specs.Types.{Disc, Verdict, Entry, Effect, Keep, Settle, Reserve, Close, Grow, Change, Decision}
use Rattle.disc.specs.Records.{with_record, with_sense}

-- the disc with a record put under its number; the number 0 puts none
unfoldable pub with_entry : Disc → Entry → Disc
with_entry d e = cond (eqb e.number 0) d (with_record d e.number e.fragment)

-- the disc with so many sectors pending in the fragment with this number
abbrev pub with_pending : Disc → ℕ → ℕ → Disc
with_pending d pending owner =
    record {
      capacity = d.capacity;
      finalized = d.finalized;
      sense = d.sense;
      pending = pending;
      owner = owner;
      fragments = d.fragments;
    }

-- the disc, finalized or not
abbrev pub with_finalized : Disc → Bool → Disc
with_finalized d finalized =
    record {
      capacity = d.capacity;
      finalized = finalized;
      sense = d.sense;
      pending = d.pending;
      owner = d.owner;
      fragments = d.fragments;
    }

-- the disc after a flush that leaves this record: nothing is pending then
abbrev pub settled : Disc → Entry → Disc
settled d flushed = with_pending (with_entry d flushed) 0 0

-- the disc after an effect
unfoldable pub affected : Disc → Effect → Disc
affected d Keep = d
affected d (Settle flushed) = settled d flushed
affected d (Reserve reserved tail) = with_entry (with_entry d reserved) tail
affected d (Close flushed closed tail finalized) = with_finalized (with_entry (with_entry (settled d flushed) closed) tail) finalized
affected d (Grow flushed grown pending owner) = with_pending (with_entry (with_entry d flushed) grown) pending owner

-- a change applied to a disc
unfoldable pub changed : Disc → Change → Disc
changed d c = with_sense (affected d c.effect) c.sense

-- a decision applied to a disc: the verdict that it comes to
unfoldable pub decided : Disc → Decision → Verdict
decided d r =
    record { answer = r.answer; disc = changed d r.change; reply = r.reply; recorded = r.recorded; plan = r.plan }
