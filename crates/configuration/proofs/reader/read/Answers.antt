use borrow.Author.Rules.{rules}
use mathlib.Core.Path.{◌≡◌, sym, ◌∙◌}
use Rattle.std.specs.Prelude.{Some, None}
use Rattle.features.specs.Feature.{selected}
use Rattle.features.specs.Configuration.{configuration_bytes}
use Rattle.configuration.specs.Reading.{reading, same_bytes}
use Rattle.configuration.specs.First.{first_feature}
use Rattle.configuration.proofs.Laws.Reading.{by_cases, answered, read-one, read-all}
use Rattle.configuration.proofs.reader.read.Goals as goal

pub returns : goal.returns
returns c =
    let x = c.args.reply.now in
    let first = c.unwrap_or-first.ensures ∙ c.first_feature.ensures in
    let one : c.of-alone.result ≡ answered x 2 (first_feature x) = rw first at c.of-alone.ensures in
    by_cases (same_bytes x (configuration_bytes 2 (first_feature x)))
    (λ t.
    let some : c.of-alone.result ≡ Some (reading (selected 2 (first_feature x))) = rw t at one in
    (rw some at c.or_else.ensures) ∙ (sym some ∙ one ∙ read-one x t))
    (λ f.
    let none : c.of-alone.result ≡ None = rw f at one in
    let e = rw none at c.or_else.ensures in
    let all : c.or_else.result ≡ answered x 0 (first_feature x) = search rules in
    all ∙ read-all x f)
