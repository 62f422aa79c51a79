-- One record of the fragment list.
use Rattle.std.specs.Prelude.{ℕ, ◌+◌, ◌-◌, Bool, true, false, not, cond, ◌&&◌, eqb, leb, ltb}
use Rattle.fragments.specs.Types.{Block, Lba, Kind, Reserved, Appended, Fragment}
use Rattle.fragments.specs.Address.{block, lba, first_sector}

-- a record by session, start block, L, W, F and kind
abbrev pub fragment : ℕ → ℕ → ℕ → ℕ → ℕ → Kind → Fragment
fragment s b l w f k = record { session = s; start = block b; length = l; recorded = w; zeroed = f; kind = k }

-- a record that is not in use: all zero, reserved being the kind's zero
abbrev pub unused_record : Fragment
unused_record = fragment 0 0 0 0 0 Reserved

-- a record is in use if it has a length
abbrev pub unused : Fragment → Bool
unused f = eqb f.length 0

-- the "end": the first block after the fragment
abbrev pub end : Fragment → Block
end f = block (f.start.0 + f.length)

-- the first block not recorded
abbrev pub first_unrecorded : Fragment → Block
first_unrecorded f = block (f.start.0 + f.recorded)

-- "complete": every block is recorded
abbrev pub complete : Fragment → Bool
complete f = eqb f.recorded f.length

abbrev pub is_reserved : Kind → Bool
is_reserved Reserved = true
is_reserved Appended = false

-- every field is zero
abbrev pub is_zero : Fragment → Bool
is_zero f =
    eqb f.session 0 && eqb f.start.0 0 && eqb f.length 0 && eqb f.recorded 0 && eqb f.zeroed 0 && is_reserved f.kind

-- the "tail": an appended fragment that is incomplete
abbrev pub is_tail : Fragment → Bool
is_tail f = not (is_reserved f.kind) && not (complete f)

abbrev pub is_incomplete_reserved : Fragment → Bool
is_incomplete_reserved f = is_reserved f.kind && not (complete f)

-- the "next writable address" of an incomplete fragment with so many sectors pending in it: after those and its recorded blocks
abbrev pub next_after : ℕ → Fragment → Lba
next_after pending f = lba ((first_sector (first_unrecorded f)).0 + pending)

-- a WRITE at the address would go to the fragment: it is incomplete, and that is its next writable address
abbrev pub takes : Lba → ℕ → Fragment → Bool
takes a pending f = not (complete f) && eqb a.0 (next_after pending f).0

-- the address lies in the fragment's recorded blocks
abbrev pub holds_recorded : Lba → Fragment → Bool
holds_recorded a f = leb (first_sector f.start).0 a.0 && ltb a.0 (first_sector (first_unrecorded f)).0

-- the address is that of one of so many sectors pending in the fragment, which come after its recorded blocks
abbrev pub holds_pending : Lba → ℕ → Fragment → Bool
holds_pending a pending f = leb (first_sector (first_unrecorded f)).0 a.0 && ltb a.0 (next_after pending f).0

-- the address lies in any of its blocks
abbrev pub holds : Lba → Fragment → Bool
holds a f = leb (first_sector f.start).0 a.0 && ltb a.0 (first_sector (end f)).0

-- the fragment's last recorded sector, or 0
abbrev pub last_recorded : Fragment → Lba
last_recorded f = cond (eqb f.recorded 0) (lba 0) (lba ((first_sector (first_unrecorded f)).0 - 1))

-- its last readable one with so many sectors pending in it, or 0
abbrev pub last_readable_of : ℕ → Fragment → Lba
last_readable_of pending f = cond (eqb f.recorded 0 && eqb pending 0) (lba 0) (lba ((next_after pending f).0 - 1))

-- where the fragment after one that ends here starts: after the dividing block in the same session,
-- after Closure and Intro, 64 blocks each, in the next one
abbrev pub next_fragment_start : Block → Block
next_fragment_start e = block (e.0 + 1)

abbrev pub next_session_start : Block → Block
next_session_start e = block (e.0 + 128)

-- the tail from a block up to the capacity
abbrev pub tail_from : ℕ → ℕ → Block → Fragment
tail_from capacity s b = record { session = s; start = b; length = capacity - b.0; recorded = 0; zeroed = 0; kind = Appended }

-- the reserved fragment of b blocks in the place of the tail f
abbrev pub reserved_at : Fragment → ℕ → Fragment
reserved_at f b = record { session = f.session; start = f.start; length = b; recorded = 0; zeroed = 0; kind = Reserved }

-- the fragment ends with its recorded blocks
abbrev pub shortened_record : Fragment → Fragment
shortened_record f =
    record {
      session = f.session;
      start = f.start;
      length = f.recorded;
      recorded = f.recorded;
      zeroed = f.zeroed;
      kind = f.kind;
    }
