-- The pending sectors: a plan flushes those that there are, gathers after those that are left, and leaves what document 01 says.
use Prim.Native.Nat.{ℕ, ◌+◌, ◌-◌, ◌/◌, ◌%◌, ◌≤◌, ◌<◌}
use mathlib.Core.Path.{◌≡◌, refl, sym, ◌∙◌, ap}
use mathlib.Core.Bool.{true, cond}
use native.Mathlib.Omega.{arith}
use borrow.Author.Tests.{ne_eqb}
use lib.Dec.{eqb}
use lib.ListN.{length, get_or, set}
use lib.Seq.{get_or-set_same, get_or-set_other}
use Rattle.outcomes.specs.Types.{Block, Lba, Disc, None, Some, Transfer, Nothing, Send, Gather, Fill, Plan}
use Rattle.fragments.specs.Fragment.{unused_record, first_unrecorded, reserved_at}
use Rattle.disc.specs.Records.{pending_in, is_blank, used, numbered, last_record, has_tail, has_blank_tail}
use Rattle.fragments.specs.List.{limit}
use Rattle.disc.specs.Ready.{Ready}
use Rattle.decisions.specs.Plan.{plan, no_plan}
use Rattle.outcomes.specs.Recorded.{flushed_count, transferred_count, pending_block, transferred_block}
use Rattle.commands.specs.Flush.{flush_plan}
use Rattle.commands.specs.Write.{flush_others, flush_others_plan, grown_record, gather}
use Rattle.commands.specs.Reserve.{split_tail}
use Rattle.fragments.proofs.Laws.Bool.{cond_no, and_right}
use Rattle.disc.proofs.Laws.Rules.{sound-rules}
use Rattle.commands.proofs.Laws.Write.{others-pending, others-numbered, others_length}
use Rattle.outcomes.proofs.Laws.Keep.{blank_unowned}
use Rattle.commands.proofs.Laws.Flush.{owner}
use Rattle.decisions.specs.Plan.{recording}

pub record Pending (d : Disc) (p : Plan) (after : Disc) : Type 0 where
  -- a flush is of all pending sectors, to their block
  pub flushed : (b : Block) (n : ℕ) → p.flush ≡ Some (recording b n) → (n ≡ d.pending) × (b.0 ≡ pending_block d)
  -- sectors gather after those that the flush leaves, in their block
  pub gathered :
      (b : Block) (held n : ℕ) → p.transfer ≡ Gather b held n
      → (held ≡ flushed_count p.flush d.pending) × ((held ≡ 0 → ⊥) → b.0 ≡ pending_block d)
  -- how many are pending then, and where
  pub count : after.pending ≡ transferred_count p.transfer (flushed_count p.flush d.pending)
  pub place : (after.pending ≡ 0 → ⊥) → pending_block after ≡ transferred_block p.transfer (pending_block d)

-- a plan that does nothing to them
pub pending_same : (d after : Disc) → after.pending ≡ d.pending → ((after.pending ≡ 0 → ⊥) → pending_block after ≡ pending_block d) → Pending d no_plan after
unfolding flushed_count transferred_count transferred_block
pending_same d after e f = grind arith

pub pending_sent : (d : Disc) (a : Lba) (n i k : ℕ) → Pending d (plan None (Send a n i k)) d
unfolding flushed_count transferred_count transferred_block
pending_sent d a n i k = grind arith

-- the plan of a flush
pub plan-flushed : (d : Disc) (b : Block) (n : ℕ) → flush_plan d ≡ Some (recording b n) → (n ≡ d.pending) × (b.0 ≡ pending_block d)
unfolding flush_plan
plan-flushed d b n e = grind arith

pub plan_count : (d : Disc) → flushed_count (flush_plan d) d.pending ≡ 0
unfolding flush_plan flushed_count
plan_count d = grind arith

-- a flush and a transfer that gathers nothing, after which nothing is pending
pub pending_settled :
    (d after : Disc) (t : Transfer) → ((b : Block) (held n : ℕ) → t ≡ Gather b held n → ⊥) → transferred_count t 0 ≡ 0 → after.pending ≡ 0
    → Pending d (plan (flush_plan d) t) after
pending_settled d after t none count e =
    record {
      flushed = plan-flushed d;
      gathered = λ b h n q. absurd (none b h n q);
      count = e ∙ sym (ap (transferred_count t) (plan_count d) ∙ count);
      place = λ z. absurd (z e);
    }

pub pending_none : (d after : Disc) → after.pending ≡ 0 → Pending d (plan (flush_plan d) Nothing) after
unfolding transferred_count
pending_none d after e = pending_settled d after Nothing (λ b h n q. let z : ◌≡◌ {A = ℕ} 0 1 = cc in omega arith) refl e

pub pending_filled : (d after : Disc) (c : Block) (k : ℕ) → after.pending ≡ 0 → Pending d (plan (flush_plan d) (Fill c k)) after
unfolding transferred_count
pending_filled d after c k e = pending_settled d after (Fill c k) (λ b h n q. let z : ◌≡◌ {A = ℕ} 0 1 = cc in omega arith) refl e

-- a WRITE gathers after the pending sectors of its fragment
module _ (d : Disc) (number : ℕ) where
  others-flushed : (b : Block) (n : ℕ) → flush_others_plan d number ≡ Some (recording b n) → (n ≡ d.pending) × (b.0 ≡ pending_block d)
  unfolding flush_others_plan
  others-flushed b n e = grind (arith, plan-flushed)

  others-left : pending_in d number ≡ flushed_count (flush_others_plan d number) d.pending
  unfolding flush_others_plan flushed_count
  others-left = grind (arith, plan_count)

  held_place : (pending_in d number ≡ 0 → ⊥) → (first_unrecorded (numbered d number)).0 ≡ pending_block d
  held_place z = grind arith

module _ (d : Disc) (number n : ℕ) (r : Ready d) (from : 1 ≤ number) (slot : number ≤ limit) where
  gathered-count : (gather (flush_others d number) number n).pending ≡ (pending_in d number + n) % 16
  unfolding gather
  gathered-count = ap (λ k. (k + n) % 16) (others-pending d number r from)

  gathered-place :
      ((gather (flush_others d number) number n).pending ≡ 0 → ⊥)
      → pending_block (gather (flush_others d number) number n) ≡ (first_unrecorded (numbered d number)).0 + (pending_in d number + n) / 16
  unfolding gather
  gathered-place z =
      let e = flush_others d number in
      let held = pending_in e number + n in
      let own : cond (eqb (held % 16) 0) 0 number ≡ number = cond_no (eqb (held % 16) 0) 0 number (ne_eqb (held % 16) 0 z) in
      let room : number - 1 < length e.fragments = omega (arith, others_length d number, (sound-rules d r.sound).array) in
      let g = grown_record (held / 16) (numbered e number) in
      let here : get_or (set e.fragments (number - 1) g) (cond (eqb (held % 16) 0) 0 number - 1) unused_record ≡ g =
      ap (λ k. get_or (set e.fragments (number - 1) g) (k - 1) unused_record) own ∙ get_or-set_same e.fragments (number - 1) g unused_record room in
      let blocks : held / 16 ≡ (pending_in d number + n) / 16 = ap (λ k. (k + n) / 16) (others-pending d number r from) in
      ap (λ f. (first_unrecorded f).0) here ∙ omega (arith, blocks, ap (λ f. (first_unrecorded f).0) (others-numbered d number r from))

  pub pending-gathered :
      Pending d (plan (flush_others_plan d number) (Gather (first_unrecorded (numbered d number)) (pending_in d number) n)) (gather (flush_others d number) number n)
  unfolding transferred_count transferred_block
  pending-gathered =
      record {
        flushed = others-flushed d number;
        gathered =
            λ b h m q.
            let same : pending_in d number ≡ h = cc in
            let place : first_unrecorded (numbered d number) ≡ b = cc in
            (sym same ∙ others-left d number, λ z. ap (λ c. c.0) (sym place) ∙ held_place d number (λ e. z (sym same ∙ e)));
        count = gathered-count;
        place = gathered-place;
      }

-- RESERVE splits a tail that the pending sectors do not belong to
pub pending_split :
    (d : Disc) (b : ℕ) → Ready d → has_blank_tail d ≡ true → Pending d no_plan (split_tail d b)
unfolding split_tail
pending_split d b r t =
    pending_same d (split_tail d b) refl
    (λ z.
    let o = owner d r z in
    let other = blank_unowned d (used d) (last_record d) (and_right (has_tail d) (is_blank d (used d) (last_record d)) t) z in
    let k = d.owner - 1 in
    let f = reserved_at (last_record d) b in
    ap (λ g. (first_unrecorded g).0)
    (get_or-set_other (set d.fragments (used d - 1) f) (used d + 1 - 1) k _ unused_record (λ q. omega (arith, q, o.listed, o.number))
    ∙ get_or-set_other d.fragments (used d - 1) k f unused_record (λ q. other (omega (arith, q, o.number, o.listed)))))
