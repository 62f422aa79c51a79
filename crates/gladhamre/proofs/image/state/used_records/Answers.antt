use Rattle.std.proofs.Common.{rules, ◌≡◌}
use Rattle.std.proofs.lemmas.Iterator.{YieldsList-from_slice}
use Rattle.std.proofs.lemmas.Iterator.Search.{position_from_yields_List}
use Rattle.std.specs.List.{position}
use mathlib.Core.Bool.{not}
use Prim.Native.Nat.{ℕ}
use mathlib.Core.List.{List}
use lib.ListN.{drop}
use Rattle.fragments.specs.List.{limit}
use Rattle.gladhamre.specs.Used.{record_used, used_in}
use Rattle.gladhamre.proofs.Laws.Used.{used_position, used_most}
use Rattle.gladhamre.proofs.image.state.used_records.Goals as goal

pub returns : goal.returns
returns c =
    let e : c.position-first_unused.result ≡ position (λ (r : List ℕ). not (record_used r)) c.records_of.result.now =
    position_from_yields_List (λ r. not (record_used r)) _ _ _ c.position-first_unused.ensures.ran (YieldsList-from_slice c.records_of.result.now cc) (λ x b q k. search rules) in
    let first : c.unwrap_or.result ≡ used_in c.args.words.now = rw (c.unwrap_or.ensures, e, c.records_of.ensures.0) (used_position c.args.words.now) in
    record { first = first; most = rw first (used_most limit (drop 7 c.args.words.now)) }
