-- Which blocks each change of the list records: exactly those of the plan.
use Prim.Native.Nat.{ℕ, ◌+◌, ◌-◌, ◌≤◌, ◌<◌}
use mathlib.Core.Path.{◌≡◌, refl, ◌∙◌, ap}
use mathlib.Core.Bool.{Bool, true, false}
use mathlib.Core.Logic.{◌⊎◌}
use mathlib.Core.List.{List}
use native.Mathlib.Omega.{arith}
use borrow.Author.Tests.{eqb-false, leb-true, le-leb, ltb-true, lt-ltb}
use lib.Dec.{eqb, leb, ltb}
use lib.ListN.{length, get_or, set}
use lib.Seq.{get_or-set_same, get_or-set_other}
use Rattle.outcomes.specs.Types.{Lba, Fragment, Disc, Flush, Option, None, Transfer, Nothing, Send, Plan}
use Rattle.fragments.specs.Fragment.{unused_record, first_unrecorded}
use Rattle.disc.specs.Records.{used, numbered}
use Rattle.disc.specs.Rules.{at, Sound}
use Rattle.disc.specs.Ready.{Ready}
use Rattle.decisions.specs.Plan.{plan, no_plan}
use Rattle.outcomes.specs.Recorded.{among, flushes, transfers, records_block}
use Rattle.commands.specs.Flush.{flushed_record, flush, flush_plan}
use Rattle.commands.specs.Write.{flush_others, flush_others_plan}
use Rattle.fragments.proofs.Laws.Bool.{and_left, and_right, and_both, by_cases}
use Rattle.fragments.proofs.Laws.Numbers.{equal_cases}
use Rattle.fragments.proofs.Laws.List.{listed_le}
use Rattle.disc.proofs.Laws.Rules.{sound-rules}
use Rattle.disc.proofs.Laws.Grow.{Grown}
use Rattle.disc.proofs.Laws.Onward.{Onward, NoBlock, Grew, same_onward, grown_onward, onward_as}
use Rattle.commands.proofs.Laws.Flush.{owner, flush_grows}

-- the blocks of a plan
abbrev pub Records : Plan → ℕ → Type 0
Records p x = records_block p x ≡ true

-- n blocks from b on, as bounds and back
pub among-from : (b n x : ℕ) → among b n x ≡ true → b ≤ x
among-from b n x t = leb-true b x (and_left (leb b x) (ltb x (b + n)) t)

pub among_below : (b n x : ℕ) → among b n x ≡ true → x < b + n
among_below b n x t = ltb-true x (b + n) (and_right (leb b x) (ltb x (b + n)) t)

pub among_between : (b n x : ℕ) → b ≤ x → x < b + n → among b n x ≡ true
among_between b n x h k = and_both (le-leb b x h) (lt-ltb x (b + n) k)

-- one record with n more blocks recorded
pub set-onward :
    (d e : Disc) (k n : ℕ) (g : Fragment) → Sound d → k < used d → Grown d e → e.fragments ≡ set d.fragments k g
    → g.start.0 ≡ (at d k).start.0 → g.recorded ≡ (at d k).recorded + n
    → Onward d e (λ x. among (first_unrecorded (at d k)).0 n x ≡ true)
set-onward d e k n g s l grown same start count =
    let fs = d.fragments in
    let slot : k < length fs = omega (arith, listed_le fs) in
    let here : at e k ≡ g = ap (λ (l : List Fragment). get_or l k unused_record) same ∙ get_or-set_same fs k g unused_record slot in
    let else : (i : ℕ) → (i ≡ k → ⊥) → at e i ≡ at d i =
    λ i q. ap (λ (l : List Fragment). get_or l i unused_record) same ∙ get_or-set_other fs k i g unused_record q in
    let b = (first_unrecorded (at d k)).0 in
    onward_as d e (Grew d e) (λ x. among b n x ≡ true)
    (λ x w.
    equal_cases w.index k
    (λ q.
    among_between b n x (rw q at w.from)
    (let below : x < (first_unrecorded (at e k)).0 = rw q at w.below in omega (arith, below, ap (λ f. f.start.0) here, ap (λ f. f.recorded) here, start, count)))
    (λ q. absurd (let f = else w.index q in omega (arith, w.from, w.below, ap (λ h. h.start.0) f, ap (λ h. h.recorded) f))))
    (λ x t.
    record {
      index = k;
      listed = l;
      from = among-from b n x t;
      below = omega (arith, among_below b n x t, ap (λ f. f.start.0) here, ap (λ f. f.recorded) here, start, count);
    })
    (grown_onward d e s grown)

-- one block
among_one : (b x : ℕ) → among b 1 x ≡ true → eqb x b ≡ true
among_one b x t = grind arith

one_among : (b x : ℕ) → eqb x b ≡ true → among b 1 x ≡ true
one_among b x t = grind arith

no_block : (d e : Disc) (P : ℕ → Bool) → ((x : ℕ) → P x ≡ false) → Onward d e NoBlock → Onward d e (λ x. P x ≡ true)
no_block d e P f o = grind arith

-- a flush records the pending block
pub flush-onward : (d : Disc) → Ready d → Onward d (flush d) (λ x. flushes (flush_plan d) x ≡ true)
unfolding flush flush_plan flushes
flush-onward d r =
    let s = sound-rules d r.sound in
    by_cases (eqb d.pending 0)
    (λ z. rw z (no_block d d (λ x. false) (λ x. refl) (same_onward d)))
    (λ z.
    let o = owner d r (eqb-false d.pending 0 z) in
    let f = numbered d d.owner in
    let w : Grown d (flush d) = flush_grows d r in
    rw z
    (onward_as d _ _ (λ x. eqb x (first_unrecorded f).0 ≡ true) (λ x t. among_one (first_unrecorded f).0 x t) (λ x t. one_among (first_unrecorded f).0 x t)
    (set-onward d _ (d.owner - 1) 1 (flushed_record d.pending f) s (omega (arith, o.number, o.listed)) (rw z at w) refl refl refl)))

pub others_onward :
    (d : Disc) (number : ℕ) → Ready d → Onward d (flush_others d number) (λ x. flushes (flush_others_plan d number) x ≡ true)
unfolding flush_others flush_others_plan flushes
others_onward d number r =
    by_cases (eqb d.owner number)
    (λ e. rw e (no_block d d (λ x. false) (λ x. refl) (same_onward d)))
    (λ e. rw e (flush-onward d r))

-- what a plan's two parts record together is what the plan records
pub flush-records : (d e : Disc) (f : Option Flush) → Onward d e (λ x. flushes f x ≡ true) → Onward d e (Records (plan f Nothing))
unfolding records_block transfers
flush-records d e f o = grind arith

pub both_record :
    (d e : Disc) (f : Option Flush) (t : Transfer) → Onward d e (λ x. (flushes f x ≡ true) ⊎ (transfers t x ≡ true)) → Onward d e (Records (plan f t))
unfolding records_block
both_record d e f t o = grind arith

pub nothing_records : (d e : Disc) → Onward d e NoBlock → Onward d e (Records no_plan)
unfolding records_block flushes transfers
nothing_records d e o = no_block d e (records_block no_plan) (λ x. refl) o

pub sent-records : (d : Disc) (a : Lba) (n i k : ℕ) → Onward d d (Records (plan None (Send a n i k)))
unfolding records_block flushes transfers
sent-records d a n i k = grind arith
