use Rattle.std.proofs.Common.{◌≡◌, ◌&&◌, sym, ◌∙◌}
use Rattle.fragments.specs.Fragment.{is_reserved}
use Rattle.fragments.proofs.Laws.Check.{joined_zero}
use Rattle.fragments.proofs.fragment.Fragment.joined.Goals as goal
use Rattle.fragments.proofs.fragment.Fragment.joined.Goals.{then-is_reserved, else-is_reserved}

pub returns : goal.returns
returns c =
    let a = c.args.self.kind in
    let b = c.args.other.kind in
    let kind =
    elim c.if-is_reserved.branch as (λ _. is_reserved c.if-is_reserved.kind ≡ (is_reserved a && is_reserved b)) [
      | then-is_reserved t ↦
          let reserved = sym c.is_reserved.ensures ∙ t.if-is_reserved.true in
          rw (t.kind-is, reserved)
      | else-is_reserved t ↦
          let no = sym c.is_reserved.ensures ∙ t.if-is_reserved.false in
          rw (t.kind-is, no)
    ] in
    joined_zero c.args.self c.args.other c.if-is_reserved.kind kind
