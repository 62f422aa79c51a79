-- Demand 3: one statement about whole sequences of commands from a blank disc, refused ones included. A WRITE has either form, and a cut may
-- mix both.
use Rattle.std.specs.Prelude.{ℕ, true, ◌≡◌, List, ◌++◌, get_or}
use Rattle.drive.specs.Step.{Drive}
use Rattle.drive.specs.Alike.{recorded_byte, Alike}
use Rattle.history.specs.Types.{Accepted}
use Rattle.history.specs.Sequence.{Start, Turn, found, result, final, Admissible, Undisturbed, AllAccepted, requests}
use Rattle.history.specs.Forms.{WriteForms}
use Rattle.history.specs.Cut.{CutOf, Again, Agreeing}

-- every byte of a recorded sector of s is a recorded byte of e, and the same
abbrev pub RecordedStays : Drive → Drive → Type 0
RecordedStays s e = (i : ℕ) → recorded_byte s.disc i ≡ true → (recorded_byte e.disc i ≡ true) × (get_or e.medium i 0 ≡ get_or s.medium i 0)

-- for every capacity, every start, every sequence of turns, every cut and every change of stale bytes
pub record Demand3 : Type 0 where
  -- a. what is recorded after some commands is still recorded, with the same bytes, after all further ones
  pub stays :
      (c : ℕ) (s : Drive) → Start c s → (ts us : List Turn) → Admissible (ts ++ us) s → RecordedStays (final ts s) (final (ts ++ us) s)
  -- b. at every point a WRITE is accepted exactly when all parts of a cut of it are, one after another, stale bytes changed at will
  -- before the whole and before each part
  pub whole :
      (c : ℕ) (s : Drive) → Start c s → (ts : List Turn) → Admissible ts s → (t : Turn) (ps : List Turn)
      → Alike (final ts s) (found t (final ts s)) → Admissible ps (final ts s) → CutOf t.request (requests ps)
      → ((result t (final ts s)).answer ≡ Accepted → AllAccepted ps (final ts s))
      × (AllAccepted ps (final ts s) → (result t (final ts s)).answer ≡ Accepted)
  -- c. the same sequence again, accepted WRITEs cut, whatever stale bytes hold at the start and before each command: the other commands
  -- are answered alike, the parts record as many blocks as the whole, and at the end disc, recorded bytes and pending sectors are the same
  pub again :
      (c : ℕ) (s e : Drive) → Start c s → Start c e → (ts us : List Turn) → Admissible ts s → Admissible us e → (w : Again s ts us)
      → Agreeing s ts us w e × Alike (final ts s) (final us e)
  -- d. with the same bytes at the start and none changed from outside, the whole medium and pending buffer are the same
  pub exact :
      (c : ℕ) (s : Drive) → Start c s → (ts us : List Turn) → Undisturbed ts s → Undisturbed us s → Again s ts us → final ts s ≡ final us s
  -- e. the WRITEs and parts that command blocks of bytes name: by 2Ah up to 65,535 sectors, by AAh up to 4,294,967,295, from every address
  -- within 32 bits
  pub forms : WriteForms
