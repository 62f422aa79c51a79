-- Request (iii): eight looks, each at one record, find the fragment that an address lies in.
use Rattle.std.specs.Prelude.{◌≤◌, ◌≡◌, List}
use Rattle.commands.specs.Types.{Lba, Fragment, Disc}
use Rattle.search.specs.Search.{finds, seen, SameAt, sought, halving, held}
use Rattle.disc.specs.Records.{at_address}

-- what the search finds is the fragment of the definition, `at_address`; it looks at eight records at the most; and nothing but these
-- decides what it finds
pub record EightLooks (d : Disc) (a : Lba) : Type 0 where
  pub right : finds d.fragments (halving a) ≡ held d.fragments (at_address d a)
  pub few : (sought d.fragments (halving a)).looks ≤ 8
  pub alone : (gs : List Fragment) → SameAt (seen d.fragments (halving a)) d.fragments gs → finds d.fragments (halving a) ≡ finds gs (halving a)
