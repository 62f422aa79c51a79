-- What stands at a position: the mark A5h 5Ah and then twelve bytes, or why there is no record.
use Rattle.std.specs.Prelude.{ℕ, ◌+◌, Bool, cond, not, ◌&&◌, ◌||◌, Result, Ok, Err, Option, Some, None, List, length, get_or, take, drop, eqb, ltb}
use Rattle.trace.specs.Types.{Record, Reason, BadMark, CutShort, End, Stop}

-- "a mark byte that is there is wrong"
abbrev pub is_wrong : List ℕ → ℕ → ℕ → Bool
is_wrong left i mark = ltb i (length left) && not (eqb (get_or left i 0) mark)

unfoldable pub bad_mark : List ℕ → Bool
bad_mark left = is_wrong left 0 0xA5 || is_wrong left 1 0x5A

-- the command block of the record at the front
abbrev pub cdb_of : List ℕ → List ℕ
cdb_of left = take 12 (drop 2 left)

-- what stands at the front of the bytes that are left: the command block of a record, or why there is none
unfoldable pub reading_of : List ℕ → Result (List ℕ) Reason
reading_of left =
    cond (eqb (length left) 0) (Err End)
    (cond (bad_mark left) (Err BadMark)
    (cond (ltb (length left) 14) (Err CutShort)
    (Ok (cdb_of left))))

-- no record: the position stays
abbrev pub stopped : Reason → ℕ → Result Record Stop
stopped r at = Err (record { reason = r; at = at })

-- a record at the front, or none
unfoldable pub step_of : Result (List ℕ) Reason → ℕ → Result Record Stop
step_of (Ok cdb) at = Ok (record { cdb = cdb; next = at + 14 })
step_of (Err r) at = stopped r at

-- what stands at a position; nothing is left at a position past the end
unfoldable pub step_at : List ℕ → ℕ → Result Record Stop
step_at trace at = step_of (reading_of (drop at trace)) at

-- why there is no record, if so
abbrev pub reason_of : Result Record Stop → Option Reason
reason_of (Ok r) = None
reason_of (Err s) = Some s.reason
