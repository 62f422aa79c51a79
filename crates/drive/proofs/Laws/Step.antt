-- One step: which verdict it carries out, and that what the code asks for that is there.
use mathlib.Core.Path.{◌≡◌, refl, sym, ap, subst, ◌∙◌}
use mathlib.Core.Bool.{true, false, not}
use Prim.Native.Nat.{ℕ, ◌+◌, ◌*◌, ◌≤◌}
use native.Mathlib.Omega.{arith}
use borrow.Author.Tests.{eqb-true, eqb-false}
use mathlib.Core.List.{List}
use lib.Dec.{eqb}
use lib.ListN.{length}
use Rattle.protocol.specs.Answer.{number}
use Rattle.protocol.specs.Command.{decode}
use Rattle.protocol.specs.Reply.{reply_bytes}
use Rattle.commands.specs.Judge.{judge}
use Rattle.outcomes.specs.Lent.{TransferFits, RunFits, Fits}
use Rattle.disc.specs.Verdict.{refuse_link, rise}
use Rattle.disc.specs.Apply.{affected, changed, decided}
use Rattle.fragments.proofs.Laws.Bool.{cond_cases, by_cases}
use Rattle.outcomes.proofs.Laws.Judge.{Decided, on_link, judge-decided, decided-rise, decided-most, judge-block}
use Rattle.outcomes.proofs.Laws.Lent.{judge-fits}
use Rattle.std.proofs.lemmas.Grind.{common_steps}
use Rattle.drive.specs.Types.{Lba, Disc, LinkRefusal, Decision, Outcome, CommandBlockLength, MediumSize, Reply, Transfer, Nothing, Send, Gather, Fill, Verdict, Response}
use Rattle.drive.specs.Moves.{flushed_medium, flushed_pending, transferred_medium, transferred_pending, moved_medium, moved_pending}
use Rattle.drive.specs.Reply.{sent_bytes}
use Rattle.drive.specs.Step.{Drive, Request, lent, verdict_on, carried_out, step, Feasible, CarriedOut, declined, response_of, Answered, AnsweredByChange}
use Rattle.drive.proofs.Laws.Bytes.{splice_nil}

-- the lower layer's laws of a decision hold of the verdict: it is a link refusal or what the disc decides
pub verdict_decided :
    (s : Drive) (q : Request) → Decided s.disc (decode q.cdb) (length q.payload) (length q.buffer) (verdict_on s q)
unfolding verdict_on
verdict_decided s q =
    let c = decode q.cdb in
    let n = length q.payload in
    let m = length q.buffer in
    cond_cases (Decided s.disc c n m) (not (eqb (length q.cdb) 12)) _ _ (λ e. on_link CommandBlockLength)
    (λ e.
    cond_cases (Decided s.disc c n m) (not (lent s.disc (length s.medium) (length s.pending))) _ _ (λ l. on_link MediumSize)
    (λ l. judge-decided s.disc q.cdb n m))

-- the link's tests, in order
module _ (s : Drive) (q : Request) where
  pub verdict-block : (length q.cdb ≡ 12 → ⊥) → refuse_link s.disc CommandBlockLength ≡ verdict_on s q
  unfolding verdict_on
  verdict-block h = grind arith

  module _ (block : length q.cdb ≡ 12) where
    pub verdict-lent :
        lent s.disc (length s.medium) (length s.pending) ≡ false → refuse_link s.disc MediumSize ≡ verdict_on s q
    unfolding verdict_on
    verdict-lent h = grind arith

    pub verdict-judge :
        lent s.disc (length s.medium) (length s.pending) ≡ true
        → judge s.disc q.cdb (length q.payload) (length q.buffer) ≡ verdict_on s q
    unfolding verdict_on
    verdict-judge h = grind arith

    -- the medium's length, then that of the pending buffer
    pub verdict-medium : (length s.medium ≡ 32768 * s.disc.capacity → ⊥) → refuse_link s.disc MediumSize ≡ verdict_on s q
    verdict-medium h = verdict-lent (grind arith)

    pub verdict-pending :
        length s.medium ≡ 32768 * s.disc.capacity → (length s.pending ≡ 32768 → ⊥) → refuse_link s.disc MediumSize ≡ verdict_on s q
    verdict-pending e h = verdict-lent (grind arith)

-- with right buffers the disc decides alone, L1 included
pub verdict_judges :
    (s : Drive) (q : Request) → lent s.disc (length s.medium) (length s.pending) ≡ true
    → verdict_on s q ≡ judge s.disc q.cdb (length q.payload) (length q.buffer)
verdict_judges s q l =
    by_cases (eqb (length q.cdb) 12)
    (λ b. sym (verdict-judge s q (eqb-true (length q.cdb) 12 b) l))
    (λ b.
    let h = eqb-false (length q.cdb) 12 b in
    sym (verdict-block s q h) ∙ sym (judge-block s.disc q.cdb (length q.payload) (length q.buffer) h))

-- what is lent
pub both_lent : (d : Disc) (m p : ℕ) → m ≡ 32768 * d.capacity → p ≡ 32768 → lent d m p ≡ true
both_lent d m p e f = grind arith

pub lent_medium : (d : Disc) (m p : ℕ) → lent d m p ≡ true → m ≡ 32768 * d.capacity
lent_medium d m p h = grind arith

pub lent_pending : (d : Disc) (m p : ℕ) → lent d m p ≡ true → p ≡ 32768
lent_pending d m p h = grind arith

-- the reply buffer has room for what is sent
sent_room :
    (t : Transfer) (r : Reply) (medium pending : List ℕ) (m : ℕ) → RunFits m t → r.length ≤ m → length (sent_bytes t r medium pending) ≤ m
unfolding sent_bytes reply_bytes
sent_room Nothing r medium pending m g h = grind (arith, common_steps)
sent_room (Send a n i k) r medium pending m g h = grind (arith, common_steps)
sent_room (Gather b p k) r medium pending m g h = grind (arith, common_steps)
sent_room (Fill b k) r medium pending m g h = grind (arith, common_steps)

-- what the disc has decided, with all that is known of it
pub record Judgement (s : Drive) (q : Request) (v : Verdict) : Type 0 where
  pub fits : Fits (length s.medium) (length q.payload) (length q.buffer) v
  pub block : length s.pending ≡ 32768
  pub decided : Decided s.disc (decode q.cdb) (length q.payload) (length q.buffer) v

pub judgement :
    (s : Drive) (q : Request) → lent s.disc (length s.medium) (length s.pending) ≡ true
    → Judgement s q (judge s.disc q.cdb (length q.payload) (length q.buffer))
judgement s q l =
    let n = length q.payload in
    let m = length q.buffer in
    let d = s.disc in
    record {
      fits = judge-fits d q.cdb (length s.medium) n m (lent_medium d (length s.medium) (length s.pending) l);
      block = lent_pending d (length s.medium) (length s.pending) l;
      decided = judge-decided d q.cdb n m;
    }

-- a READ's sectors lie in medium and pending buffer
sent_within_lem :
    (t : Transfer) (l n p : ℕ) → TransferFits l n t → p ≡ 32768 → (a : Lba) (m i k : ℕ) → t ≡ Send a m i k
    → (2048 * (a.0 + m) ≤ l) × (2048 * (i + k) ≤ p)
sent_within_lem t l n p f block a m i k e = let w = subst (TransferFits l n) e f in (w.0, omega (arith, block, w.1))

-- what the code that carries a decision out asks is there
pub decided_feasible :
    (s : Drive) (q : Request) (d : Decision) → lent s.disc (length s.medium) (length s.pending) ≡ true
    → decided s.disc d ≡ judge s.disc q.cdb (length q.payload) (length q.buffer)
    → Feasible d.plan d.reply q.payload s.medium s.pending q.buffer
unfolding decided
decided_feasible s q d h e =
    let n = length q.payload in
    let m = length q.buffer in
    let j = judgement s q h in
    let f : Fits (length s.medium) n m (decided s.disc d) = rw e j.fits in
    record {
      sends =
          record {
            within = sent_within_lem d.plan.transfer (length s.medium) n (length s.pending) f.transfer j.block;
            room = sent_room d.plan.transfer d.reply s.medium s.pending m f.run f.report;
            report = f.report;
            whole = f.whole;
          };
      block = j.block;
      flush = f.flush;
      transfer = f.transfer;
    }

-- the response of a verdict whose reply has so many bytes
abbrev response : Verdict → ℕ → Response
response v n = record { answer = v.answer; disc = v.disc; length = n; recorded = v.recorded }

-- a verdict carried out, as response and buffers
record Carried (v : Verdict) (s : Drive) (q : Request) (r : Response) (medium pending buffer : List ℕ) : Type 0 where
  responds : r ≡ response v (length (carried_out v s q).reply)
  recorded_medium : medium ≡ (carried_out v s q).after.medium
  kept_pending : pending ≡ (carried_out v s q).after.pending
  filled_buffer : buffer ≡ (carried_out v s q).buffer

-- it keeps the whole promise, the count's rise and bound included
verdict_answered :
    (s : Drive) (q : Request) (v : Verdict) (r : Response) (medium pending buffer : List ℕ) → v ≡ verdict_on s q
    → Carried v s q r medium pending buffer → Answered s q r medium pending buffer
unfolding step carried_out
verdict_answered s q v r medium pending buffer same out =
    let w : Decided s.disc (decode q.cdb) (length q.payload) (length q.buffer) v = rw same (verdict_decided s q) in
    let e = out.responds in
    let count : r.recorded ≡ v.recorded = ap (λ x. x.recorded) e in
    let disc : r.disc ≡ v.disc = ap (λ x. x.disc) e in
    let risen : r.recorded ≡ rise s.disc r.disc = count ∙ (decided-rise s.disc v w ∙ ap (rise s.disc) (sym disc)) in
    record {
      answer = ap (λ x. x.answer) e ∙ ap (λ x. x.answer) same;
      numbered = ap (λ x. number x.answer) e ∙ ap (λ x. number x.answer) same;
      disc = disc ∙ ap (λ x. x.disc) same;
      length = ap (λ x. x.length) e ∙ ap (λ x. length (carried_out x s q).reply) same;
      recorded = count ∙ ap (λ x. x.recorded) same;
      recorded_medium = out.recorded_medium ∙ ap (λ x. (carried_out x s q).after.medium) same;
      kept_pending = out.kept_pending ∙ ap (λ x. (carried_out x s q).after.pending) same;
      filled_buffer = out.filled_buffer ∙ ap (λ x. (carried_out x s q).buffer) same;
      risen = risen;
      bounded = λ a n c. rw count (decided-most s.disc v a n c w);
    }

-- a decision carried out is served
pub decision_served :
    (s : Drive) (q : Request) (d : Decision) (r : Outcome) (medium pending buffer : List ℕ) → decided s.disc d ≡ verdict_on s q
    → CarriedOut d q.payload s.medium s.pending q.buffer r medium pending buffer → AnsweredByChange s q r medium pending buffer
unfolding decided carried_out
decision_served s q d r medium pending buffer same out =
    verdict_answered s q (decided s.disc d) (response_of s.disc r) medium pending buffer same
    (record {
      responds = ap (response_of s.disc) out.responds;
      recorded_medium = out.recorded_medium;
      kept_pending = out.kept_pending;
      filled_buffer = out.filled_buffer;
    })

-- a link refusal leaves every buffer as it is
pub declined-served :
    (s : Drive) (q : Request) (x : LinkRefusal) (r : Outcome) → refuse_link s.disc x ≡ verdict_on s q → r ≡ declined s.disc.sense x
    → AnsweredByChange s q r s.medium s.pending q.buffer
unfolding carried_out refuse_link sent_bytes reply_bytes moved_medium moved_pending transferred_medium transferred_pending flushed_medium flushed_pending changed affected
declined-served s q x r same e =
    verdict_answered s q (refuse_link s.disc x) (response_of s.disc r) s.medium s.pending q.buffer same
    (record { responds = ap (response_of s.disc) e; recorded_medium = refl; kept_pending = refl; filled_buffer = sym (splice_nil q.buffer 0) })
