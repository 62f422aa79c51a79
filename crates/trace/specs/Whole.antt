-- A whole trace, read record by record.
use Rattle.std.specs.Prelude.{ℕ, zero, suc, Bool, true, ◌&&◌, Result, Ok, Err, List, [], ◌∷◌, ◌++◌, length, eqb}
use Rattle.trace.specs.Types.{Record, Stop}
use Rattle.trace.specs.Record.{step_at}

-- what a record at a position gives, or else what is given without one
abbrev pub on_record : {A : Type 0} → Result Record Stop → (Record → A) → A → A
on_record (Ok r) f none = f r
on_record (Err s) f none = none

-- the command blocks of the first n records from a position on, or of as many as there are before the reader stops
unfoldable pub cdbs : ℕ → List ℕ → ℕ → List (List ℕ)
cdbs zero trace at = []
cdbs (suc n) trace at = on_record (step_at trace at) (λ r. r.cdb ∷ cdbs n trace r.next) []

-- the position after them
unfoldable pub position_after : ℕ → List ℕ → ℕ → ℕ
position_after zero trace at = at
position_after (suc n) trace at = on_record (step_at trace at) (λ r. position_after n trace r.next) at

-- every record from a position on up to the stop, and where that is; there are no more records than bytes
abbrev pub all_from : List ℕ → ℕ → List (List ℕ)
all_from trace at = cdbs (length trace) trace at

abbrev pub end_from : List ℕ → ℕ → ℕ
end_from trace at = position_after (length trace) trace at

-- those of a whole trace
abbrev pub whole_cdbs : List ℕ → List (List ℕ)
whole_cdbs trace = all_from trace 0

abbrev pub whole_end : List ℕ → ℕ
whole_end trace = end_from trace 0

-- a trace made of command blocks, each after the mark
unfoldable pub trace_of : List (List ℕ) → List ℕ
trace_of [] = []
trace_of (b ∷ bs) = 0xA5 ∷ 0x5A ∷ b ++ trace_of bs

-- command blocks have twelve bytes
unfoldable pub all_twelve : List (List ℕ) → Bool
all_twelve [] = true
all_twelve (b ∷ bs) = eqb (length b) 12 && all_twelve bs
