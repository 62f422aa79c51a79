-- In a sequence with right buffers no link refusal L2 or L3 ever comes up.
use Prim.Native.Nat.{ℕ, ◌*◌}
use mathlib.Core.Path.{◌≡◌, refl}
use mathlib.Core.Bool.{true}
use mathlib.Core.Logic.{◌⊎◌}
use mathlib.Core.List.{List, [], ◌∷◌}
use borrow.Author.Tests.{eq-eqb}
use lib.ListN.{length}
use Rattle.disc.proofs.Laws.Blank.{blank-allowed, blank_capacity}
use Rattle.fragments.proofs.Laws.Bool.{and_both}
use Rattle.drive.specs.Step.{Drive, lent}
use Rattle.drive.specs.Alike.{Alike}
use Rattle.drive.proofs.Laws.Cut.{Served, served-after, served_alike, served_link}
use Rattle.history.specs.Types.{LinkRefusal, Link, CommandBlockLength, TransferLength}
use Rattle.history.specs.Sequence.{Start, Turn, found, result, final, Admissible}

-- a start lends rightly and is served, and so is every drive of an admissible sequence
pub start-lent : (c : ℕ) (s : Drive) → Start c s → lent s.disc (length s.medium) (length s.pending) ≡ true
start-lent c s h =
    rw (h.disc, blank_capacity c, h.medium, h.pending) (and_both (eq-eqb (32768 * c) (32768 * c) refl) refl)

pub start-served : (c : ℕ) (s : Drive) → Start c s → Served s
start-served c s h =
    record {
      lends = start-lent c s h;
      range = rw (h.disc, blank_capacity c) h.range;
      allowed = rw h.disc (blank-allowed c h.range);
    }

pub sequence_served : (ts : List Turn) (s : Drive) → Admissible ts s → Served s → Served (final ts s)
unfolding final Admissible
sequence_served [] s h k = k
sequence_served (t ∷ ts) s h k =
    sequence_served ts (result t s).after h.1 (served-after (found t s) t.request (served_alike s (found t s) h.0 k))

-- at every point of a sequence from a start
pub only_lengths_refused :
    (c : ℕ) (s : Drive) → Start c s → (ts : List Turn) → Admissible ts s → (t : Turn) → Alike (final ts s) (found t (final ts s))
    → (x : LinkRefusal) → (result t (final ts s)).answer ≡ Link x → (x ≡ CommandBlockLength) ⊎ (x ≡ TransferLength)
only_lengths_refused c s start ts h t a x e =
    served_link (found t (final ts s)) t.request x
    (served_alike (final ts s) (found t (final ts s)) a (sequence_served ts s h (start-served c s start))) e
