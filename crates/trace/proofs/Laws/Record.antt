-- What stands at a position: when it is a record, and what does not matter to it.
use Rattle.std.proofs.Common.{◌≡◌, ℕ, ◌+◌, ◌≤◌, ◌<◌, arith, List, [], length, get_or, drop, Result, Ok, Err}
use Rattle.std.proofs.lemmas.Bool.Decides.{nat_tests}
use lib.ListN.{drop_of_length-le}
use Rattle.trace.specs.Types.{Record, Reason, BadMark, End, Stop}
use Rattle.trace.specs.Record.{bad_mark, cdb_of, reading_of, step_of, stopped, step_at}

-- where nothing is left, at and past the end
pub step_none : (t : List ℕ) (at : ℕ) → drop at t ≡ [] → step_at t at ≡ stopped End at
unfolding step_at step_of reading_of
step_none t at e = rw e

pub step_end : (t : List ℕ) (at : ℕ) → length t ≤ at → step_at t at ≡ stopped End at
step_end t at h = step_none t at (drop_of_length-le t {i = at} h)

-- a record at the front: fourteen bytes or more, the first two the mark
pub record Marked (left : List ℕ) : Type 0 where
  pub long : 14 ≤ length left
  pub first : get_or left 0 0 ≡ 0xA5
  pub second : get_or left 1 0 ≡ 0x5A

pub record_marked : (left b : List ℕ) → reading_of left ≡ Ok b → Marked left × (b ≡ cdb_of left)
unfolding reading_of bad_mark
record_marked left b h =
    (record { long = grind (arith, nat_tests); first = grind (arith, nat_tests); second = grind (arith, nat_tests) }, grind (arith, nat_tests))

pub marked_record : (left : List ℕ) → Marked left → reading_of left ≡ Ok (cdb_of left)
unfolding reading_of bad_mark
marked_record left m = grind (arith, nat_tests, m.long, m.first, m.second)

-- neither a record nor a bad mark: fewer than fourteen bytes are left
pub few_left : (left : List ℕ) (r : Reason) → reading_of left ≡ Err r → (r ≡ BadMark → ⊥) → length left < 14
unfolding reading_of
few_left left r h q = grind (arith, nat_tests)

-- a step by what stands at the front
pub step_record : (f : Result (List ℕ) Reason) (at : ℕ) (r : Record) → step_of f at ≡ Ok r → (f ≡ Ok r.cdb) × (r.next ≡ at + 14)
unfolding step_of
step_record (Ok b) at r h = let e : r ≡ record { cdb = b; next = at + 14 } = cc in (rw e, rw e)
step_record (Err w) at r h = absurd (let z : ◌≡◌ {A = ℕ} 0 1 = cc in omega arith)

pub step_stop : (f : Result (List ℕ) Reason) (at : ℕ) (s : Stop) → step_of f at ≡ Err s → (f ≡ Err s.reason) × (s.at ≡ at)
unfolding step_of
step_stop (Ok b) at s h = absurd (let z : ◌≡◌ {A = ℕ} 0 1 = cc in omega arith)
step_stop (Err w) at s h = let e : s ≡ record { reason = w; at = at } = cc in (rw e, rw e)
