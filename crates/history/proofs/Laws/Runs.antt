-- Requests given one after another with nothing changed from outside, and how sequences with changed stale bytes follow them.
use Prim.Native.Nat.{ℕ, ◌+◌, ◌/◌}
use mathlib.Core.Path.{◌≡◌, refl, sym, ap, ◌∙◌}
use mathlib.Core.Bool.{true}
use mathlib.Core.List.{List, [], ◌∷◌, ◌++◌}
use native.Mathlib.Omega.{arith}
use Rattle.fragments.specs.Address.{lba}
use Rattle.outcomes.proofs.Laws.Judge.{decided-stays}
use Rattle.drive.specs.Step.{Drive, Request, verdict_on, carried_out, step}
use Rattle.drive.specs.Alike.{recorded_byte, Alike}
use Rattle.drive.proofs.Laws.Step.{verdict_decided}
use Rattle.drive.proofs.Laws.Alike.{AlikeResults, step_alike, step_kept, alike_on}
use Rattle.history.specs.Types.{Accepted}
use Rattle.history.specs.Sequence.{Turn, found, result, final, Admissible, Undisturbed, AllAccepted, blocks_of, requests}
use Rattle.history.specs.Demand.{RecordedStays}

-- the drive after requests, whether all are accepted, and the blocks recorded
unfoldable pub runs : List Request → Drive → Drive
runs [] s = s
runs (q ∷ qs) s = runs qs (step s q).after

unfoldable pub RunAccepted : List Request → Drive → Type 0
RunAccepted [] s = Unit {0}
RunAccepted (q ∷ qs) s = ((step s q).answer ≡ Accepted) × RunAccepted qs (step s q).after

unfoldable pub run_blocks : List Request → Drive → ℕ
run_blocks [] s = 0
run_blocks (q ∷ qs) s = (step s q).recorded + run_blocks qs (step s q).after

-- a sequence from an alike drive follows them
pub record Follows (ps : List Turn) (s e : Drive) : Type 0 where
  pub to : RunAccepted (requests ps) s → AllAccepted ps e
  pub back : AllAccepted ps e → RunAccepted (requests ps) s
  pub blocks : run_blocks (requests ps) s ≡ blocks_of ps e
  pub after : Alike (runs (requests ps) s) (final ps e)

-- what a turn finds is alike to what the other drive has
turn_alike : (t : Turn) (s e : Drive) → Alike s e → Alike e (found t e) → AlikeResults (step s t.request) (result t e)
turn_alike t s e a b = step_alike s (found t e) t.request t.request (alike_on s e (found t e) a b) refl refl refl

pub runs_follow : (ps : List Turn) (s e : Drive) → Alike s e → Admissible ps e → Follows ps s e
unfolding runs RunAccepted run_blocks final Admissible AllAccepted blocks_of
runs_follow [] s e a h = record { to = λ x. tt; back = λ x. tt; blocks = refl; after = a }
runs_follow (t ∷ ps) s e a h =
    let r = turn_alike t s e a h.0 in
    let i = runs_follow ps (step s t.request).after (result t e).after r.after h.1 in
    record {
      to = λ x. (sym r.answer ∙ x.0, i.to x.1);
      back = λ x. (r.answer ∙ x.0, i.back x.1);
      blocks = omega (arith, r.recorded, i.blocks);
      after = i.after;
    }

-- a sequence that nobody disturbs is its requests
pub undisturbed_runs : (ps : List Turn) (s : Drive) → Undisturbed ps s → final ps s ≡ runs (requests ps) s
unfolding runs final Undisturbed
undisturbed_runs [] s h = refl
undisturbed_runs (t ∷ ps) s h =
    undisturbed_runs ps (result t s).after h.1
    ∙ ap (λ (x : Drive). runs (requests ps) (step x t.request).after) h.0

-- one sequence after another
pub final-append : (ts us : List Turn) (s : Drive) → final (ts ++ us) s ≡ final us (final ts s)
unfolding final
final-append [] us s = refl
final-append (t ∷ ts) us s = final-append ts us (result t s).after

pub admissible_append : (ts us : List Turn) (s : Drive) → Admissible (ts ++ us) s → Admissible ts s × Admissible us (final ts s)
unfolding final Admissible
admissible_append [] us s h = (tt, h)
admissible_append (t ∷ ts) us s h = let i = admissible_append ts us (result t s).after h.1 in ((h.0, i.0), i.1)

pub undisturbed_append : (ts us : List Turn) (s : Drive) → Undisturbed (ts ++ us) s → Undisturbed ts s × Undisturbed us (final ts s)
unfolding final Undisturbed
undisturbed_append [] us s h = (tt, h)
undisturbed_append (t ∷ ts) us s h = let i = undisturbed_append ts us (result t s).after h.1 in ((h.0, i.0), i.1)

-- what is recorded stays, over a stale change, a step and a sequence
stays_on : (s e f : Drive) → RecordedStays s e → RecordedStays e f → RecordedStays s f
stays_on s e f a b = λ i t. let x = a i t in let y = b i x.0 in (y.0, y.1 ∙ x.1)

stays_stale : (s e : Drive) → Alike s e → RecordedStays s e
stays_stale s e a = grind arith

step_recorded : (s : Drive) (q : Request) (i : ℕ) → recorded_byte s.disc i ≡ true → recorded_byte (step s q).after.disc i ≡ true
unfolding step carried_out
step_recorded s q i t = decided-stays s.disc (verdict_on s q) (lba (i / 2048)) (verdict_decided s q) t

stays_step : (s : Drive) (q : Request) → RecordedStays s (step s q).after
stays_step s q = λ i t. (step_recorded s q i t, step_kept s q i t)

pub sequence_stays : (ts : List Turn) (s : Drive) → Admissible ts s → RecordedStays s (final ts s)
unfolding final Admissible
sequence_stays [] s h = λ i t. (t, refl)
sequence_stays (t ∷ ts) s h =
    stays_on s (found t s) (final ts (result t s).after) (stays_stale s (found t s) h.0)
    (stays_on (found t s) (result t s).after (final ts (result t s).after) (stays_step (found t s) t.request)
    (sequence_stays ts (result t s).after h.1))
