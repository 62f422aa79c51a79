-- A record that a command puts into the list.
use Rattle.std.specs.Prelude.{ℕ, ◌-◌, cond, List, set, eqb}
use Rattle.fragments.specs.Types.{Fragment, Entry}
use Rattle.fragments.specs.Fragment.{unused_record}

-- a record under a number, and none
abbrev pub entry : ℕ → Fragment → Entry
entry n f = record { number = n; fragment = f }

abbrev pub no_entry : Entry
no_entry = entry 0 unused_record

-- the records with one put under its number; the number 0 puts none
abbrev pub put : Entry → List Fragment → List Fragment
put e fs = cond (eqb e.number 0) fs (set fs (e.number - 1) e.fragment)

-- what stands under a number once a record is put, with another one there before
abbrev pub over : Entry → ℕ → Fragment → Fragment
over e n before = cond (eqb e.number n) e.fragment before

-- and the last record, with its number
abbrev pub over_last : Entry → Entry → Entry
over_last e l = record { number = l.number; fragment = over e l.number l.fragment }
