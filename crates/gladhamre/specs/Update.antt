-- An image brought up to date: a change of the words is told by the change of the disc that they are the image of.
use Rattle.std.specs.Prelude.{ℕ, ◌≡◌, List, length}
use Rattle.fragments.specs.List.{limit}
use Rattle.gladhamre.specs.Types.{Disc}
use Rattle.gladhamre.specs.Image.{encode}

-- the words are the image of a disc
pub record ImageOf (w : List ℕ) (d : Disc) : Type 0 where
  pub words : w ≡ encode d
  pub array : length d.fragments ≡ limit

-- of whatever disc the words were the image, they are that of what becomes of it
abbrev pub Turned : List ℕ → List ℕ → (Disc → Disc) → Type 0
Turned before after f = (d : Disc) → ImageOf before d → ImageOf after (f d)
