use Rattle.std.proofs.Common.{rules, ◌≡◌}
use Rattle.std.proofs.lemmas.Iterator.{YieldsList-from_slice}
use Rattle.std.proofs.lemmas.Iterator.Search.{all_from_yields_List}
use Rattle.std.specs.List.{list_all}
use Prim.Native.Nat.{ℕ}
use lib.Dec.{ltb}
use lib.ListN.{take, drop}
use Rattle.gladhamre.proofs.Laws.Image.{head_tests}
use Rattle.gladhamre.proofs.image.head.fits.Goals as goal

pub returns : goal.returns
returns c =
    let e : c.all.result ≡ list_all (λ (x : ℕ). ltb x 256) (take 5 (drop 2 c.args.head.now)) =
    all_from_yields_List (λ x. ltb x 256) _ _ _ c.all.ensures.ran (YieldsList-from_slice (take 5 (drop 2 c.args.head.now)) cc) (λ x b q k. search rules) in
    rw e (head_tests c.args.head.now c.told-head)
