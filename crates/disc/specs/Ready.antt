-- A disc that a command may work on: what L2 and L3 have tested.
use Rattle.std.specs.Prelude.{◌≡◌, true}
use Rattle.disc.specs.Types.{Disc}
use Rattle.disc.specs.Sound.{sound}
use Rattle.disc.specs.Blank.{in_range}

pub record Ready (d : Disc) : Type 0 where
  pub sound : sound d ≡ true
  pub range : in_range d.capacity ≡ true
