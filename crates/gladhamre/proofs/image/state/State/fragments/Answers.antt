use mathlib.Core.Path.{◌≡◌, refl, ap}
use native.Mathlib.Omega.{arith}
use lib.ListN.{length, take, drop, replicate, length-take, length-set, length-replicate}
use lib.Seq.{length-take-le}
use Rattle.fragments.specs.Fragment.{unused_record}
use Rattle.fragments.specs.List.{limit}
use Rattle.gladhamre.specs.Image.{list_of}
use Rattle.gladhamre.proofs.Laws.Image.{part_record, read_more}
use Rattle.gladhamre.proofs.Laws.Used.{taken-most, taken-fits, taken-record, taken-list}
use Rattle.gladhamre.proofs.image.state.State.fragments.Goals as goal

pub slice_bounds-in_use-end : goal.slice_bounds-in_use-end
slice_bounds-in_use-end c = simp length-take (omega (arith, taken-most c.args.self.words.now c.args.self.used c.args.self.taken, c.records_of.ensures.1))

pub loop-i-init : goal.loop-i-init
unfolding list_of
loop-i-init c = (refl, ap (replicate limit) c.unused-unused.ensures)

pub read-requires : goal.read-requires
read-requires c =
    let w = c.args.self.words.now in
    let h = length-take c.args.self.used c.records_of.result.now in
    rw (taken-record w c.args.self.used c.args.self.taken c.loop-i.i c.records_of.result.now c.records_of.ensures.0 (omega arith)) (taken-fits w c.args.self.used c.args.self.taken c.loop-i.i (omega arith))

pub loop-i-preserved : goal.loop-i-preserved
loop-i-preserved c =
    let w = c.args.self.words.now in
    let i = c.loop-i.i in
    let most = taken-most w c.args.self.used c.args.self.taken in
    let h = length-take c.args.self.used c.records_of.result.now in
    let whole = length-replicate limit unused_record in (
      simp length-set c.loop-i.invariant.0,
      rw (c.loop-i.invariant.1, c.read.ensures, taken-record w c.args.self.used c.args.self.taken i c.records_of.result.now c.records_of.ensures.0 (omega arith), part_record) (read_more i (drop 7 w) _ (omega arith)),
    )

pub returns : goal.returns
returns c =
    let most = taken-most c.args.self.words.now c.args.self.used c.args.self.taken in
    let h : length (take c.args.self.used c.records_of.result.now) ≡ c.args.self.used = length-take-le c.args.self.used c.records_of.result.now (omega (arith, c.records_of.ensures.1)) in
    taken-list c.args.self.words.now c.args.self.used c.args.self.taken c.loop-i.fragments (replicate limit unused_record) c.loop-i.i (omega arith) refl c.loop-i.invariant.1
