use native.Mathlib.Omega.{arith}
use mathlib.Core.Path.{◌≡◌, ap, ◌∙◌}
use Prim.Native.Nat.{◌/◌}
use borrow.Rule.Slice.PartMut.{mid_of}
use lib.ListN.{length, drop, length-drop}
use lib.Seq.{take_all}
use Rattle.fragments.specs.List.{limit}
use Rattle.gladhamre.proofs.Laws.Image.{records-lent}
use Rattle.gladhamre.proofs.image.records_of.Goals as goal

pub returns : goal.returns
returns c =
    let w = c.args.words.now in
    let rest = mid_of 7 960 w in
    let e : rest ≡ drop 7 w = take_all 960 (drop 7 w) (simp length-drop (omega arith)) in
    let l : length rest ≡ 960 = ap length e ∙ (length-drop 7 w ∙ omega arith) in
    let n : length rest / 6 ≡ limit = omega arith in
    (c.as_chunks.ensures.front ∙ records-lent w rest (length rest / 6) n e, c.as_chunks.ensures.front_len ∙ n)
