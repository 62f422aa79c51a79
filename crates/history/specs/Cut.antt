-- A WRITE cut into parts, and the same sequence again with accepted WRITEs cut.
use Rattle.std.specs.Prelude.{ℕ, ◌+◌, ◌≤◌, ◌≡◌, List, [], ◌∷◌, ◌++◌, length}
use Rattle.fragments.specs.Address.{lba}
use Rattle.drive.specs.Step.{Drive, Request}
use Rattle.drive.specs.Requests.{WriteOf}
use Rattle.history.specs.Types.{Lba, Accepted}
use Rattle.history.specs.Sequence.{Turn, result, final, told, AllAccepted, blocks_of, requests}

-- WRITEs of at least one sector that one after another bring n sectors, given by their bytes, from an address on: each begins where the
-- last ended and brings its own sectors. Each has a form of its own, 2Ah or AAh; a command block of bytes names no length and no address past
-- its form's (`WriteForms`)
pub data Parts : Lba → ℕ → List ℕ → List Request → Type 0 where
  none : (a : Lba) → Parts a 0 [] []
  part :
      (a : Lba) (k n : ℕ) (q : Request) (rest : List ℕ) (qs : List Request) → 1 ≤ k → WriteOf q a k → Parts (lba (a.0 + k)) n rest qs
      → Parts a (k + n) (q.payload ++ rest) (q ∷ qs)

-- a cut of a WRITE: two or more parts, which together are its sectors from its address on
pub record CutOf (q : Request) (qs : List Request) : Type 0 where
  pub address : Lba
  pub count : ℕ
  pub whole : WriteOf q address count
  pub several : 2 ≤ length qs
  pub parts : Parts address count q.payload qs

-- the same command given again: the same command block and data, and a reply buffer of the same length
pub record SameCommand (q u : Request) : Type 0 where
  pub cdb : q.cdb ≡ u.cdb
  pub payload : q.payload ≡ u.payload
  pub room : length q.buffer ≡ length u.buffer

-- the same sequence again, as a flat sequence: `ts` from the drive `s` on, and in place of each turn the same command, or the parts of a
-- WRITE that is accepted in `ts`
pub data Again : Drive → List Turn → List Turn → Type 0 where
  ends : (s : Drive) → Again s [] []
  same :
      (s : Drive) (t u : Turn) (ts us : List Turn) → SameCommand t.request u.request → Again (result t s).after ts us
      → Again s (t ∷ ts) (u ∷ us)
  cut :
      (s : Drive) (t : Turn) (ts ps us vs : List Turn) → (result t s).answer ≡ Accepted → CutOf t.request (requests ps)
      → Again (result t s).after ts us → vs ≡ ps ++ us → Again s (t ∷ ts) vs

-- what must agree, where the second sequence begins with the drive `e`: a command that is not cut is answered alike, and the parts of a
-- cut one are accepted and record as many blocks as the whole one
unfoldable pub Agreeing : (s : Drive) (ts us : List Turn) → Again s ts us → Drive → Type 0
Agreeing s ts us (ends x) e = Unit {0}
Agreeing s ts us (same x t u rs vs c w) e = (told (result t x) ≡ told (result u e)) × Agreeing (result t x).after rs vs w (result u e).after
Agreeing s ts us (cut x t rs ps ws vs a c w q) e =
    AllAccepted ps e × (blocks_of ps e ≡ (result t x).recorded) × Agreeing (result t x).after rs ws w (final ps e)
