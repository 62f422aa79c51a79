use Rattle.std.proofs.Common.{rules, ◌≡◌, Some}
use mathlib.Core.Path.{sym, ◌∙◌}
use Rattle.gladhamre.proofs.Laws.Used.{taken}
use Rattle.gladhamre.proofs.image.state.State.of.Goals as goal

pub invariant_of-result : goal.invariant_of-result
invariant_of-result c =
    let n : c.used.result ≡ Some c.in_ok-used.used = search rules in
    record { taken = taken c.args.words.now _ (sym c.used.ensures ∙ n) }
