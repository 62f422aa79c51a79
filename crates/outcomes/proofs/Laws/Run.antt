-- What a READ hands out of the medium: a stretch within it, each of whose sectors is recorded.
use Prim.Native.Nat.{ℕ, ◌+◌, ◌*◌, ◌<◌, min}
use mathlib.Core.Path.{◌≡◌, refl}
use mathlib.Core.Bool.{true}
use mathlib.Core.List.{List, []}
use native.Mathlib.Omega.{arith}
use borrow.Author.Tests.{eq-eqb, le-ltb}
use lib.Dec.{eqb, ltb}
use lib.ListN.{length, drop, length-take}
use Rattle.outcomes.specs.Types.{Lba, Disc, Transfer, Command}
use Rattle.fragments.specs.Address.{lba}
use Rattle.disc.specs.Records.{is_recorded}
use Rattle.disc.specs.Sound.{allowed_state}
use Rattle.disc.specs.Blank.{in_range}
use Rattle.commands.specs.Read.{medium_share, sending, read}
use Rattle.disc.specs.Verdict.{accepted, accept, refuse, refuse_link}
use Rattle.protocol.specs.Command.{decode}
use Rattle.commands.specs.Judge.{perform, judge_command, judge, judge_as_asked}
use Rattle.commands.proofs.Laws.Judge.{allowed_ready}
use Rattle.outcomes.proofs.Laws.Outcome.{outcome_placed}
use Rattle.outcomes.proofs.Laws.Judge.{perform-outcome, asked_fit}
use Rattle.decisions.specs.Run.{stretch, sent, sent_within}
use Rattle.outcomes.specs.Run.{served, recorded_run, RunOf}
use Rattle.fragments.proofs.Laws.Bool.{by_cases, cond_no}
use Rattle.commands.proofs.Laws.Read.{share_recorded, read_cases}
use Rattle.outcomes.proofs.Laws.Plan.{Moved, nothing, sends, gathers, fills}

-- what a plan sends of the medium lies in a medium of whole blocks
pub moved_within :
    (d : Disc) (c : Command) (t : Transfer) (medium : List ℕ) → length medium ≡ 32768 * d.capacity → Moved d c t → sent_within t medium ≡ sent t medium
unfolding sent_within sent
moved_within d c t medium l nothing = refl
moved_within d c t medium l (sends a n m i k q h w) =
    cond_no (ltb (length medium) (2048 * (a.0 + m))) [] (stretch a.0 m medium)
    (le-ltb (length medium) (2048 * (a.0 + m)) (omega (arith, l, h, w.whole)))
moved_within d c t medium l (gathers a b p n q few u) = refl
moved_within d c t medium l (fills b n u) = refl

-- every sector of what it sends is recorded
pub sent_recorded :
    (d : Disc) (a : Lba) (n : ℕ) (medium : List ℕ) (k : ℕ)
    → 2048 * k < length (sent (read d a n).plan.transfer medium) → is_recorded d (lba (a.0 + k)) ≡ true
unfolding sent sending accept accepted refuse
sent_recorded d a n medium k =
    read_cases (λ v. 2048 * k < length (sent v.plan.transfer medium) → is_recorded d (lba (a.0 + k)) ≡ true) d a n
    (λ h. absurd (omega (arith, h)))
    (λ r h. absurd (omega (arith, h)))
    (λ z within t h.
    let y : 2048 * k < min (2048 * medium_share d a n) (length (drop (2048 * a.0) medium)) =
    rw (length-take (2048 * medium_share d a n) (drop (2048 * a.0) medium)) at h in
    share_recorded d a n k (omega (arith, y)))

pub run_of : (d : Disc) (b medium r : List ℕ) → r ≡ recorded_run d b medium → RunOf d b medium r
unfolding recorded_run perform
run_of d b medium r e =
    record {
      stretch = e;
      recorded =
          λ a n p k h.
          by_cases (served d (length b) (length medium))
          (λ t.
          let y : r ≡ sent (read d a n).plan.transfer medium = rw (t, p) at e in
          sent_recorded d a n medium k (rw y at h))
          (λ t. absurd (let y : r ≡ [] = rw t at e in let z : 2048 * k < 0 = rw y at h in omega arith));
    }

-- a medium of another length is served nothing
pub other_medium : (d : Disc) (b medium : List ℕ) → (length medium ≡ 32768 * d.capacity → ⊥) → [] ≡ recorded_run d b medium
unfolding recorded_run
other_medium d b medium h = grind arith

-- what is decided with the lengths that the block asks for sends the recorded run of the medium: a link refusal sends nothing
pub asked-run :
    (d : Disc) (b medium : List ℕ) → length medium ≡ 32768 * d.capacity
    → sent_within (judge_as_asked d b).plan.transfer medium ≡ recorded_run d b medium
unfolding recorded_run judge judge_command refuse_link sent_within
asked-run d b medium l =
    by_cases (eqb (length b) 12)
    (λ w.
    by_cases (in_range d.capacity)
    (λ r.
    by_cases (allowed_state d)
    (λ a.
    let c = decode b in
    let o = perform-outcome d c (allowed_ready d r a) in
    rw (w, r, a, eq-eqb _ _ l, asked_fit c) (moved_within d c (perform d c).plan.transfer medium l (outcome_placed d c (perform d c) o).moved))
    (λ a. rw (w, r, a, eq-eqb _ _ l)))
    (λ r. rw (w, r)))
    (λ w. rw w)
