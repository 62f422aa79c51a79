-- A decision applied to a disc, by its kind, and a record put under its number.
use Prim.Native.Nat.{ℕ, ◌≤◌}
use mathlib.Core.Path.{◌≡◌, refl, ◌∙◌}
use native.Mathlib.Omega.{arith}
use borrow.Author.Tests.{ne_eqb}
use lib.Dec.{eqb}
use Rattle.disc.specs.Types.{Fragment, Disc, DriveRefusal, LinkRefusal, Reply, Plan, Entry, Effect, Keep}
use Rattle.disc.specs.Records.{with_record}
use Rattle.disc.specs.Verdict.{accepted, accept, refuse, refuse_link}
use Rattle.fragments.specs.Entry.{entry, no_entry, put}
use Rattle.decisions.specs.Decision.{accepting, refusing, refusing_link}
use Rattle.disc.specs.Apply.{with_entry, affected, changed, decided}
use Rattle.fragments.proofs.Laws.Bool.{by_cases, cond_no}
use Rattle.disc.proofs.Laws.Verdict.{accept_same}

-- refused and accepted decisions come to refused and accepted verdicts
pub refused_verdict : (d : Disc) (r : DriveRefusal) → decided d (refusing r) ≡ refuse d r
unfolding decided changed affected refusing refuse
refused_verdict d r = refl

pub link_verdict : (d : Disc) (r : LinkRefusal) → decided d (refusing_link d.sense r) ≡ refuse_link d r
unfolding decided changed affected refusing_link refuse_link
link_verdict d r = refl

pub accepted_verdict :
    (d : Disc) (e : Effect) (n : ℕ) (r : Reply) (p : Plan) → decided d (accepting e n r p) ≡ accepted (affected d e) n r p
unfolding decided changed accepting accepted
accepted_verdict d e n r p = refl

pub unchanged_verdict : (d : Disc) (r : Reply) (p : Plan) → decided d (accepting Keep 0 r p) ≡ accept d d r p
unfolding affected
unchanged_verdict d r p = accepted_verdict d Keep 0 r p ∙ accept_same d r p

-- all four, for the functions that decide
pub ruleset verdicts = (refused_verdict, link_verdict, accepted_verdict, unchanged_verdict)

-- a record put among the records is put into the disc
pub put-entry :
    (d : Disc) (e : Entry)
    → record { capacity = d.capacity; finalized = d.finalized; sense = d.sense; pending = d.pending; owner = d.owner; fragments = put e d.fragments } ≡ with_entry d e
unfolding with_entry
put-entry d e = by_cases (eqb e.number 0) (λ z. rw z) (λ z. rw z)

-- a record put under a number from 1, and none put
pub with_entry_lem : (d : Disc) (n : ℕ) (f : Fragment) → 1 ≤ n → with_entry d (entry n f) ≡ with_record d n f
unfolding with_entry
with_entry_lem d n f o = cond_no (eqb n 0) d (with_record d n f) (ne_eqb n 0 (λ q. omega arith))

pub no_entry_lem : (d : Disc) → with_entry d no_entry ≡ d
unfolding with_entry
no_entry_lem d = refl
