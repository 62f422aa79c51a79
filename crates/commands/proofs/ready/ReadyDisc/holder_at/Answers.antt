use mathlib.Core.Path.{◌∙◌, ap}
use Rattle.commands.specs.Types.{Sought}
use Rattle.disc.proofs.Laws.Rules.{sound-rules}
use Rattle.commands.proofs.Laws.Holder.{holder-found}
use Rattle.commands.proofs.ready.ReadyDisc.holder_at.Goals as goal

pub returns : goal.returns
returns c =
    let d = c.args.self.now.disc in
    ap (λ (s : Sought). s.holder) c.halving.ensures
    ∙ holder-found d (sound-rules d c.args.self.now.ready.sound) c.args.address
