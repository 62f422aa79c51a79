use Rattle.std.proofs.Common.{◌≡◌, ℕ, List, ◌+◌, ◌-◌, length, get_or, take, drop, length-drop, sym, ◌∙◌, ap, true, arith}
use Rattle.std.proofs.lemmas.Grind.{get_or_after_one}
use lib.Seq.{take_all}
use Rattle.fragments.specs.Types.{Fragment}
use Rattle.fragments.specs.Fragment.{unused_record}
use Rattle.fragments.specs.List.{limit}
use Rattle.fragments.specs.Check.{ends_list, walk}
use Rattle.fragments.proofs.Laws.Bool.{and_first, and-false}
use Rattle.fragments.proofs.Laws.List.{array_length}
use Rattle.fragments.proofs.Laws.Check.{list-start, walk-stop, walk-more, walk-past}
use Rattle.fragments.proofs.check.list_is_sound.Goals as goal

-- the records after the first one
abbrev others : List Fragment → List Fragment
others fs = take (length fs - 1) (drop 1 fs)

others_are : (fs : List Fragment) → others fs ≡ drop 1 fs
others_are fs = take_all _ _ (omega (arith, length-drop 1 fs))

others_at : (fs : List Fragment) (i : ℕ) → get_or (others fs) i unused_record ≡ get_or fs (i + 1) unused_record
others_at fs i =
    let e : 1 + i ≡ i + 1 = omega arith in
    ap (λ l. get_or l i unused_record) (others_are fs) ∙ (get_or_after_one fs i unused_record ∙ ap (λ n. get_or fs n unused_record) e)

pub returns-then-not-begins_list-is_within : goal.returns-then-not-begins_list-is_within
returns-then-not-begins_list-is_within c =
    let a = c.args in
    sym
    (list-start a.fragments unused_record a.capacity a.finalized c.in-len1-up.len_at_least
    ∙ and-false _ _ (rw (c.begins_list.ensures, c.is_within.ensures) at c.if-not-begins_list-is_within.true))

pub loop-index-init : goal.loop-index-init
loop-index-init c =
    let a = c.args in
    list-start a.fragments unused_record a.capacity a.finalized c.in-len1-up.len_at_least
    ∙ (and_first _ _ (rw (c.begins_list.ensures, c.is_within.ensures) at c.if-not-begins_list-is_within.false)
    ∙ rw (c.is_complete-incomplete.ensures, others_are a.fragments))

pub returns-then-f-eq0 : goal.returns-then-f-eq0
returns-then-f-eq0 c =
    let a = c.args in
    let w = c.loop-index in
    let rs = others a.fragments in
    let rest : take (length rs - w.index) (drop w.index rs) ≡ drop w.index rs = take_all _ _ (omega (arith, length-drop w.index rs)) in
    rw (c.ends_list.ensures, c.are_zero.ensures, rest)
    (sym (w.invariant ∙ walk-stop rs w.index unused_record c.loop-index-test.true a.capacity a.finalized w.incomplete _ c.if-f-eq0.true))

pub returns-then-not-is_within-continues : goal.returns-then-not-is_within-continues
returns-then-not-is_within-continues c =
    let a = c.args in
    let w = c.loop-index in
    sym
    (w.invariant
    ∙ (walk-more (others a.fragments) w.index unused_record c.loop-index-test.true a.capacity a.finalized w.incomplete _ c.if-f-eq0.false
    ∙ and-false _ _ (rw (c.is_within-in-loop-index.ensures, c.continues.ensures) at c.if-not-is_within-continues.true)))

pub loop-index-preserved : goal.loop-index-preserved
loop-index-preserved c =
    let a = c.args in
    let w = c.loop-index in
    let rs = others a.fragments in
    w.invariant
    ∙ (walk-more rs w.index unused_record c.loop-index-test.true a.capacity a.finalized w.incomplete _ c.if-f-eq0.false
    ∙ (and_first _ _ (rw (c.is_within-in-loop-index.ensures, c.continues.ensures) at c.if-not-is_within-continues.false)
    ∙ (ap (λ o. walk a.capacity a.finalized o (get_or rs w.index unused_record) (drop (w.index + 1) rs)) (sym c.leaves_open-incomplete.ensures)
    ∙ ap (λ f. walk a.capacity a.finalized c.leaves_open-incomplete.result f (drop (w.index + 1) rs)) (others_at a.fragments w.index))))

pub returns : goal.returns
returns c =
    let a = c.args in
    let w = c.loop-index in
    let l : length a.fragments ≡ limit = search array_length in
    let last : w.index ≡ 159 = omega (arith, length-drop 1 a.fragments) in
    c.ends_list-2.ensures
    ∙ (ap (λ i. ends_list a.capacity a.finalized true w.incomplete (get_or a.fragments i unused_record)) (sym last)
    ∙ sym (w.invariant ∙ walk-past (others a.fragments) w.index a.capacity a.finalized w.incomplete _ c.loop-index-test.false))
