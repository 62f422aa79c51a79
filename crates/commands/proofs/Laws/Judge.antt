-- What the link tests comes to, and the promise of the code that decides.
use Prim.Native.Nat.{ℕ}
use mathlib.Core.Path.{◌≡◌, ◌∙◌, ap}
use mathlib.Core.Bool.{true}
use mathlib.Core.List.{List}
use Rattle.std.specs.Prelude.{Result, Ok, Err, MatchResult}
use Rattle.commands.specs.Types.{Disc, Verdict, Decision, DriveRefusal}
use Rattle.protocol.specs.Answer.{number, allowed_sense}
use Rattle.disc.specs.Sound.{sound, allowed_state}
use Rattle.disc.specs.Blank.{in_range}
use Rattle.disc.specs.Ready.{Ready}
use Rattle.commands.specs.Judge.{judge, Judged}
use Rattle.decisions.specs.Decision.{refusing}
use Rattle.disc.specs.Apply.{decided}
use Rattle.commands.specs.Conclusion.{concluded}
use Rattle.fragments.proofs.Laws.Bool.{and_left}
use Rattle.disc.proofs.Laws.Apply.{refused_verdict}

-- a state that L3 lets through, with a capacity in range, is ready for every command
pub allowed_ready : (d : Disc) → in_range d.capacity ≡ true → allowed_state d ≡ true → Ready d
unfolding allowed_state
allowed_ready d r a = record { sound = and_left (sound d) (allowed_sense d.sense) a; range = r }

pub judged : (d : Disc) (b : List ℕ) (n m : ℕ) (r : Verdict) → r ≡ judge d b n m → Judged d b n m r
judged d b n m r e = record { verdict = e; numbered = ap (λ v. number v.answer) e }

-- a command's result as one decision, a refusal as the decision that refuses
pub concluded_decision :
    (d : Disc) (r : Result Decision DriveRefusal) (decision : Decision)
    → MatchResult r (λ x. decision ≡ x) (λ refusal. decision ≡ refusing refusal) → decided d decision ≡ concluded d r
concluded_decision d (Ok x) decision e = ap (decided d) e
concluded_decision d (Err refusal) decision e = ap (decided d) e ∙ refused_verdict d refusal
