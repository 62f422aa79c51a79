-- A WRITE and its two parts, byte for byte.
use mathlib.Core.Path.{◌≡◌, refl, sym, ap, ◌∙◌, subst}
use mathlib.Core.Bool.{true}
use Prim.Native.Nat.{ℕ, ◌+◌, ◌*◌, ◌/◌, ◌%◌, ◌≤◌}
use native.Mathlib.Omega.{arith}
use mathlib.Core.List.{List, ◌++◌}
use lib.ListN.{length}
use mathlib.Core.Logic.{◌⊎◌}
use Rattle.drive.specs.Alike.{Alike}
use Rattle.fragments.specs.Address.{lba, block}
use Rattle.disc.specs.Blank.{in_range}
use Rattle.outcomes.specs.Lent.{FlushFits, TransferFits, Fits}
use Rattle.disc.specs.Ready.{Ready}
use Rattle.disc.specs.Sound.{allowed_state}
use Rattle.decisions.specs.Plan.{plan}
use Rattle.disc.specs.Verdict.{refuse_link}
use Rattle.commands.specs.Write.{write}
use Rattle.outcomes.proofs.Laws.Accepts.{takes-accepted, write-takes}
use Rattle.outcomes.proofs.Laws.Cut.{cut-accepted, cut-plans, parts-takes}
use Rattle.commands.proofs.Laws.Judge.{allowed_ready}
use Rattle.outcomes.proofs.Laws.Judge.{judge-writes, decided-served, decided-allowed, decided-capacity, judge_link}
use Rattle.drive.proofs.Laws.Moves.{cut-pending, cut-medium}
use Rattle.drive.proofs.Laws.Kept.{length-flushed_medium, length-flushed_pending}
use Rattle.drive.specs.Types.{Lba, Disc, Accepted, LinkRefusal, Verdict, Block, Flush, Option, None, Gather, Plan, Link, CommandBlockLength, TransferLength}
use Rattle.drive.specs.Moves.{moved_medium, moved_pending, flushed_medium, flushed_pending, transferred_medium, transferred_pending}
use Rattle.drive.specs.Step.{Drive, Request, lent, verdict_on, carried_out, step}
use Rattle.drive.specs.Requests.{WriteOf}
use Rattle.drive.proofs.Laws.Step.{verdict_decided, verdict-judge, lent_pending, judgement}
use Rattle.drive.proofs.Laws.Alike.{verdict_cases, lent-after, step_judges}

-- what the link asks of a drive: the lent lengths, the capacity's range, an allowed state
pub record Served (s : Drive) : Type 0 where
  pub lends : lent s.disc (length s.medium) (length s.pending) ≡ true
  pub range : in_range s.disc.capacity ≡ true
  pub allowed : allowed_state s.disc ≡ true

-- a WRITE with its data is then decided by the drive
pub write_verdict : (s : Drive) (q : Request) (a : Lba) (n : ℕ) → WriteOf q a n → Served s → verdict_on s q ≡ write s.disc a n
write_verdict s q a n w k =
    sym (verdict-judge s q w.cdb k.lends)
    ∙ judge-writes s.disc q.cdb (length q.payload) (length q.buffer) a n w.cdb w.command k.range k.allowed w.payload

-- an accepted command was served, and what a command leaves is served again
link_answer : (d : Disc) (x : LinkRefusal) → (refuse_link d x).answer ≡ Accepted → ⊥
unfolding refuse_link
link_answer d x e = grind arith

pub accepted-served : (s : Drive) (q : Request) → (step s q).answer ≡ Accepted → Served s
unfolding step carried_out
accepted-served s q e =
    let k = decided-served s.disc (verdict_on s q) (verdict_decided s q) e in
    verdict_cases s q
    (λ x f. absurd (link_answer s.disc x (sym (ap (λ (v : Verdict). v.answer) f) ∙ e)))
    (λ b l f. record { lends = l; range = k.0; allowed = k.1 })

step-disc : (s : Drive) (q : Request) → (step s q).after.disc ≡ (verdict_on s q).disc
unfolding step carried_out
step-disc s q = refl

pub served-after : (s : Drive) (q : Request) → Served s → Served (step s q).after
served-after s q k =
    let w = verdict_decided s q in
    record {
      lends = lent-after s q k.lends;
      range = rw (step-disc s q, decided-capacity s.disc (verdict_on s q) w) k.range;
      allowed = rw (step-disc s q) (decided-allowed s.disc (verdict_on s q) k.allowed w);
    }

-- an alike drive is served too, and of the link refusals a served one gives L1 and L4 alone
pub served_alike : (s t : Drive) → Alike s t → Served s → Served t
served_alike s t a k = grind arith

pub served_link :
    (s : Drive) (q : Request) (x : LinkRefusal) → Served s → (step s q).answer ≡ Link x → (x ≡ CommandBlockLength) ⊎ (x ≡ TransferLength)
served_link s q x k e =
    judge_link s.disc q.cdb (length q.payload) (length q.buffer) x k.range k.allowed
    (sym (step_judges s q k.lends).0 ∙ e)

-- the answer and the count of a WRITE that is served
module _ (s : Drive) (q : Request) (a : Lba) (n : ℕ) (w : WriteOf q a n) (k : Served s) where
  write-answer : (step s q).answer ≡ (write s.disc a n).answer
  unfolding step carried_out
  write-answer = ap (λ (v : Verdict). v.answer) (write_verdict s q a n w k)

  write_count : (step s q).recorded ≡ (write s.disc a n).recorded
  unfolding step carried_out
  write_count = ap (λ (v : Verdict). v.recorded) (write_verdict s q a n w k)

  write-after : (step s q).after.disc ≡ (write s.disc a n).disc
  write-after = step-disc s q ∙ ap (λ (v : Verdict). v.disc) (write_verdict s q a n w k)

  -- and the bytes, by its plan
  write-medium : (v : Plan) → (write s.disc a n).plan ≡ v → (step s q).after.medium ≡ moved_medium v s.medium s.pending q.payload
  unfolding step carried_out
  write-medium v e =
      ap (λ (u : Verdict). moved_medium u.plan s.medium s.pending q.payload) (write_verdict s q a n w k)
      ∙ ap (λ (u : Plan). moved_medium u s.medium s.pending q.payload) e

  write-pending : (v : Plan) → (write s.disc a n).plan ≡ v → (step s q).after.pending ≡ moved_pending v s.pending q.payload
  unfolding step carried_out
  write-pending v e =
      ap (λ (u : Verdict). moved_pending u.plan s.pending q.payload) (write_verdict s q a n w k)
      ∙ ap (λ (u : Plan). moved_pending u s.pending q.payload) e

  write-fits : Fits (length s.medium) (length q.payload) (length q.buffer) (write s.disc a n)
  write-fits =
      subst (λ (v : Verdict). Fits (length s.medium) (length q.payload) (length q.buffer) v)
      (verdict-judge s q w.cdb k.lends ∙ write_verdict s q a n w k) (judgement s q k.lends).fits

  write-ready : Ready s.disc
  write-ready = allowed_ready s.disc k.range k.allowed

-- the plans of two parts do what the plan of the whole does
module _
    (f : Option Flush) (b : Block) (h n k : ℕ) (m p x y : List ℕ) (hp : 2048 * h ≤ length (flushed_pending f p)) (hx : length x ≡ 2048 * n)
    (hy : length y ≡ 2048 * k)
  where
    cut-moved-pending :
        moved_pending (plan None (Gather (block (b.0 + (h + n) / 16)) ((h + n) % 16) k)) (moved_pending (plan f (Gather b h n)) p x) y
        ≡ moved_pending (plan f (Gather b h (n + k))) p (x ++ y)
    unfolding moved_pending transferred_pending flushed_pending
    cut-moved-pending = cut-pending h n k (flushed_pending f p) x y hp hx hy

    cut-moved-medium :
        32768 * b.0 ≤ length (flushed_medium f m p)
        → moved_medium (plan None (Gather (block (b.0 + (h + n) / 16)) ((h + n) % 16) k)) (moved_medium (plan f (Gather b h n)) m p x)
        (moved_pending (plan f (Gather b h n)) p x) y
        ≡ moved_medium (plan f (Gather b h (n + k))) m p (x ++ y)
    unfolding moved_medium moved_pending transferred_medium transferred_pending flushed_medium flushed_pending
    cut-moved-medium within = cut-medium h n k (flushed_pending f p) x y hp hx hy b.0 (flushed_medium f m p) within

same_drive : (s t : Drive) → s.disc ≡ t.disc → s.medium ≡ t.medium → s.pending ≡ t.pending → s ≡ t
same_drive s t disc medium pending = grind arith

-- a WRITE of n + m sectors and its parts of n and of m
module _
    (s : Drive) (q one two : Request) (a : Lba) (n m : ℕ) (w : WriteOf q a (n + m)) (w₁ : WriteOf one a n) (w₂ : WriteOf two (lba (a.0 + n)) m)
    (z : n ≡ 0 → ⊥) (y : m ≡ 0 → ⊥)
  where
    some-sectors : n + m ≡ 0 → ⊥
    some-sectors e = z (omega arith)

    -- accepted whole, both parts are accepted, one after the other
    pub whole_parts : (step s q).answer ≡ Accepted → ((step s one).answer ≡ Accepted) × ((step (step s one).after two).answer ≡ Accepted)
    whole_parts e =
        let k = accepted-served s q e in
        let r = write-ready s q a (n + m) w k in
        let t = write-takes s.disc a (n + m) some-sectors (sym (write-answer s q a (n + m) w k) ∙ e) in
        let c = cut-accepted s.disc a n m r z y t in
        let k₁ = served-after s one k in (
          write-answer s one a n w₁ k ∙ c.0,
          write-answer (step s one).after two (lba (a.0 + n)) m w₂ k₁
              ∙ (ap (λ (d : Disc). (write d (lba (a.0 + n)) m).answer) (write-after s one a n w₁ k) ∙ c.1),
        )

    -- and the other way round
    pub parts_whole : (step s one).answer ≡ Accepted → (step (step s one).after two).answer ≡ Accepted → (step s q).answer ≡ Accepted
    parts_whole e f =
        let k = accepted-served s one e in
        let r = write-ready s one a n w₁ k in
        let d = s.disc in
        let t = write-takes d a n z (sym (write-answer s one a n w₁ k) ∙ e) in
        let k₁ = served-after s one k in
        let second : (write (write d a n).disc (lba (a.0 + n)) m).answer ≡ Accepted =
        ap (λ (x : Disc). (write x (lba (a.0 + n)) m).answer) (sym (write-after s one a n w₁ k))
        ∙ (sym (write-answer (step s one).after two (lba (a.0 + n)) m w₂ k₁) ∙ f) in
        let u = write-takes (write d a n).disc (lba (a.0 + n)) m y second in
        write-answer s q a (n + m) w k ∙ takes-accepted d a (n + m) r (parts-takes d a n m r z t u)

    -- the blocks of the parts add up to those of the whole
    pub cut-recorded :
        (step s q).answer ≡ Accepted → (step s one).recorded + (step (step s one).after two).recorded ≡ (step s q).recorded
    cut-recorded e =
        let k = accepted-served s q e in
        let r = write-ready s q a (n + m) w k in
        let t = write-takes s.disc a (n + m) some-sectors (sym (write-answer s q a (n + m) w k) ∙ e) in
        let c = cut-accepted s.disc a n m r z y t in
        let k₁ = served-after s one k in
        let first = write_count s one a n w₁ k in
        let second = write_count (step s one).after two (lba (a.0 + n)) m w₂ k₁
        ∙ ap (λ (d : Disc). (write d (lba (a.0 + n)) m).recorded) (write-after s one a n w₁ k) in
        let whole = write_count s q a (n + m) w k in
        omega (arith, first, second, whole, c.3)

    -- and the drive afterwards is the same, byte for byte
    pub cut-after :
        q.payload ≡ one.payload ++ two.payload → (step s q).answer ≡ Accepted → (step (step s one).after two).after ≡ (step s q).after
    cut-after joined e =
        let d = s.disc in
        let k = accepted-served s q e in
        let r = write-ready s q a (n + m) w k in
        let t = write-takes d a (n + m) some-sectors (sym (write-answer s q a (n + m) w k) ∙ e) in
        let c = cut-accepted d a n m r z y t in
        let p = cut-plans d a n m r z y t in
        let k₁ = served-after s one k in
        let s₁ = (step s one).after in
        let between = write-after s one a n w₁ k in
        let fits = write-fits s q a (n + m) w k in
        let flush : FlushFits (length s.medium) p.flush = rw (ap (λ (x : Plan). x.flush) p.whole) at fits.flush in
        let gather : TransferFits (length s.medium) (length q.payload) (Gather p.from p.held (n + m)) =
        rw (ap (λ (x : Plan). x.transfer) p.whole) at fits.transfer in
        let lp = length-flushed_pending p.flush s.pending (lent_pending d (length s.medium) (length s.pending) k.lends) in
        let lm = length-flushed_medium p.flush s.medium s.pending (lent_pending d (length s.medium) (length s.pending) k.lends) flush in
        let disc : (step s₁ two).after.disc ≡ (step s q).after.disc =
        write-after s₁ two (lba (a.0 + n)) m w₂ k₁
        ∙ (ap (λ (x : Disc). (write x (lba (a.0 + n)) m).disc) between ∙ (c.2 ∙ sym (write-after s q a (n + m) w k))) in
        let second : (write s₁.disc (lba (a.0 + n)) m).plan ≡ plan None (Gather (block (p.from.0 + (p.held + n) / 16)) ((p.held + n) % 16) m) =
        ap (λ (x : Disc). (write x (lba (a.0 + n)) m).plan) between ∙ p.second in
        let pending₁ = write-pending s one a n w₁ k _ p.first in
        let medium₁ = write-medium s one a n w₁ k _ p.first in
        let whole = plan p.flush (Gather p.from p.held (n + m)) in
        let medium : (step s₁ two).after.medium ≡ moved_medium whole s.medium s.pending (one.payload ++ two.payload) =
        rw (write-medium s₁ two (lba (a.0 + n)) m w₂ k₁ _ second, medium₁, pending₁)
        (cut-moved-medium p.flush p.from p.held n m s.medium s.pending one.payload two.payload (omega (arith, lp, gather.0)) w₁.payload w₂.payload (omega (arith, lm, gather.3))) in
        let pending : (step s₁ two).after.pending ≡ moved_pending whole s.pending (one.payload ++ two.payload) =
        rw (write-pending s₁ two (lba (a.0 + n)) m w₂ k₁ _ second, pending₁)
        (cut-moved-pending p.flush p.from p.held n m s.medium s.pending one.payload two.payload (omega (arith, lp, gather.0)) w₁.payload w₂.payload) in
        let medium-whole = write-medium s q a (n + m) w k _ p.whole ∙ ap (moved_medium whole s.medium s.pending) joined in
        let pending-whole = write-pending s q a (n + m) w k _ p.whole ∙ ap (moved_pending whole s.pending) joined in
        same_drive _ _ disc (medium ∙ sym medium-whole) (pending ∙ sym pending-whole)
