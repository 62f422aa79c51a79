use mathlib.Core.Path.{sym, ◌∙◌}
use borrow.Author.Tests.{not-true, not-false}
use Rattle.features.specs.Configuration.{configuration_bytes}
use Rattle.configuration.specs.Reading.{same_bytes}
use Rattle.configuration.proofs.Laws.Reading.{differs}
use Rattle.configuration.proofs.reader.Reading.of.Goals as goal

pub returns-then-ne : goal.returns-then-ne
returns-then-ne c =
    let a = c.args in
    let x = configuration_bytes a.request_type a.start in
    let differ = differs a.reply.now x _ _ c.configuration-whole.ensures c.as_slice.ensures c.ne.ensures in
    rw (not-true (same_bytes a.reply.now x) (sym differ ∙ c.if-ne.true))

pub returns : goal.returns
returns c =
    let a = c.args in
    let x = configuration_bytes a.request_type a.start in
    let differ = differs a.reply.now x _ _ c.configuration-whole.ensures c.as_slice.ensures c.ne.ensures in
    rw (not-false (same_bytes a.reply.now x) (sym differ ∙ c.if-ne.false), c.numbers.ensures)
