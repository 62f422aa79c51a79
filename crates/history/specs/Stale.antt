-- Stale bytes that become anything before each command: sequences in which nothing else is changed from outside.
use Rattle.std.specs.Prelude.{ℕ, ◌+◌, ◌*◌, Bool, cond, List, [], ◌∷◌, ltb}
use Rattle.drive.specs.Step.{Drive, Request}
use Rattle.drive.specs.Alike.{recorded_byte}
use Rattle.history.specs.Sequence.{Turn, result}

-- bytes from index i on: those that are kept stay, and what becomes of any other is said by its index and the byte that stood there
unfoldable pub stirred : (ℕ → Bool) → (ℕ → ℕ → ℕ) → ℕ → List ℕ → List ℕ
stirred kept change i [] = []
stirred kept change i (x ∷ xs) = cond (kept i) x (change i x) ∷ stirred kept change (i + 1) xs

-- what becomes of the stale bytes of medium and pending buffer
pub record Change : Type 0 where
  pub medium : ℕ → ℕ → ℕ
  pub pending : ℕ → ℕ → ℕ

-- nothing, and other bytes whatever stood there
abbrev pub unchanged : Change
unchanged = record { medium = λ i x. x; pending = λ i x. x }

abbrev pub leftover : (ℕ → ℕ) → (ℕ → ℕ) → Change
leftover m p = record { medium = λ i x. m i; pending = λ i x. p i }

-- byte i of the pending buffer is one of the pending sectors'
abbrev pub pending_byte : Drive → ℕ → Bool
pending_byte s i = ltb i (2048 * s.disc.pending)

-- a command, and the change before it
pub record Given : Type 0 where
  pub change : Change
  pub request : Request

abbrev pub after : Change → Request → Given
after c q = record { change = c; request = q }

-- it is given to a drive
abbrev pub turn : Given → Drive → Turn
turn g s =
    record {
      medium = stirred (recorded_byte s.disc) g.change.medium 0 s.medium;
      pending = stirred (pending_byte s) g.change.pending 0 s.pending;
      request = g.request;
    }

-- one after another
unfoldable pub given : List Given → Drive → List Turn
given [] s = []
given (g ∷ gs) s = turn g s ∷ given gs (result (turn g s) s).after
