-- One step: refusals change nothing but the sense, recorded bytes stay, and stale bytes decide nothing.
use mathlib.Core.Path.{◌≡◌, refl, sym, ap, ◌∙◌, subst}
use mathlib.Core.Bool.{true, false}
use mathlib.Core.Logic.{◌⊎◌, inl, inr, ⊎_elim}
use Prim.Native.Nat.{ℕ, ◌+◌, ◌-◌, ◌*◌, ◌/◌, ◌≤◌}
use native.Mathlib.Omega.{arith}
use mathlib.Core.List.{List}
use lib.ListN.{length, get_or, take, drop}
use borrow.Author.Tests.{eqb-true, eqb-false}
use lib.Dec.{eqb}
use Rattle.fragments.specs.Address.{lba}
use Rattle.protocol.specs.Answer.{refusal_sense}
use Rattle.protocol.specs.Reply.{reply_bytes}
use Rattle.commands.specs.Judge.{judge}
use Rattle.outcomes.specs.Lent.{FlushFits, TransferFits}
use Rattle.outcomes.specs.Recorded.{flushes, transfers, records_block, flushed_count}
use Rattle.disc.specs.Records.{is_recorded, with_sense}
use Rattle.disc.specs.Verdict.{refuse, refuse_link}
use Rattle.decisions.specs.Run.{stretch}
use Rattle.fragments.proofs.Laws.Bool.{by_cases, or_cases}
use Rattle.fragments.proofs.Laws.Numbers.{equal_cases}
use Rattle.outcomes.proofs.Laws.Judge.{decided-link, decided-refused, decided-recorded, decided-fresh, decided-sends, decided-pending, decided-capacity}
use Rattle.outcomes.proofs.Laws.Pending.{Pending}
use Rattle.drive.specs.Types.{Lba, Block, Disc, LinkRefusal, DriveRefusal, Link, Drive as by_drive, CommandBlockLength, MediumSize, Some, Reply, Transfer, Nothing, Send, Gather, Fill, Verdict}
use Rattle.drive.specs.Moves.{flushed_medium, flushed_pending, transferred_medium, transferred_pending, moved_medium, moved_pending}
use Rattle.drive.specs.Reply.{sent_bytes}
use Rattle.drive.specs.Step.{Drive, drive, Request, request, Result, lent, verdict_on, carried_out, step, untouched}
use Rattle.drive.specs.Alike.{recorded_byte, Alike}
use Rattle.drive.proofs.Laws.Bytes.{splice_nil, run_in_front}
use Rattle.drive.proofs.Laws.Agree.{Agree, agree_run}
use Rattle.drive.proofs.Laws.Kept.{length-flushed_medium, length-flushed_pending, length-moved-medium, length-moved-pending, moved-kept, flushed-agree, transferred-agree, flushed_sectors, transferred_sectors}
use Rattle.drive.proofs.Laws.Step.{verdict_decided, verdict-block, verdict-lent, verdict-judge, Judgement, judgement, verdict_judges}
use Rattle.decisions.specs.Plan.{recording}

-- a verdict that moves nothing leaves every buffer as it is
link_carried : (s : Drive) (q : Request) (x : LinkRefusal) → carried_out (refuse_link s.disc x) s q ≡ untouched s q (Link x) s.disc
unfolding carried_out refuse_link sent_bytes reply_bytes moved_medium moved_pending transferred_medium transferred_pending flushed_medium flushed_pending
link_carried s q x = ap (λ (b : List ℕ). record { answer = Link x; reply = _; recorded = 0; buffer = b; after = s }) (splice_nil q.buffer 0)

refuse_carried :
    (s : Drive) (q : Request) (x : DriveRefusal)
    → carried_out (refuse s.disc x) s q ≡ untouched s q (by_drive x) (with_sense s.disc (refusal_sense x))
unfolding carried_out refuse sent_bytes reply_bytes moved_medium moved_pending transferred_medium transferred_pending flushed_medium flushed_pending
refuse_carried s q x =
    ap (λ (b : List ℕ). record { answer = by_drive x; reply = _; recorded = 0; buffer = b; after = drive (with_sense s.disc (refusal_sense x)) s.medium s.pending })
    (splice_nil q.buffer 0)

-- demand 1: a link refusal changes nothing at all, a drive refusal the sense alone
pub step_link : (s : Drive) (q : Request) (x : LinkRefusal) → (step s q).answer ≡ Link x → step s q ≡ untouched s q (Link x) s.disc
unfolding step carried_out
step_link s q x e =
    ap (λ v. carried_out v s q) (decided-link s.disc (verdict_on s q) x (verdict_decided s q) e) ∙ link_carried s q x

pub step-refused :
    (s : Drive) (q : Request) (x : DriveRefusal) → (step s q).answer ≡ by_drive x
    → step s q ≡ untouched s q (by_drive x) (with_sense s.disc (refusal_sense x))
unfolding step carried_out
step-refused s q x e =
    ap (λ v. carried_out v s q) (decided-refused s.disc (verdict_on s q) x (verdict_decided s q) e) ∙ refuse_carried s q x

-- the link's tests of what is lent, as cases: a refusal, or the disc decides
pub verdict_cases :
    {P : Type 0} (s : Drive) (q : Request) → ((x : LinkRefusal) → verdict_on s q ≡ refuse_link s.disc x → P)
    → (length q.cdb ≡ 12 → lent s.disc (length s.medium) (length s.pending) ≡ true
    → verdict_on s q ≡ judge s.disc q.cdb (length q.payload) (length q.buffer) → P) → P
verdict_cases s q link judged =
    by_cases (eqb (length q.cdb) 12)
    (λ b.
    let twelve = eqb-true (length q.cdb) 12 b in
    by_cases (lent s.disc (length s.medium) (length s.pending))
    (λ l. judged twelve l (sym (verdict-judge s q twelve l)))
    (λ l. link MediumSize (sym (verdict-lent s q twelve l))))
    (λ b. link CommandBlockLength (sym (verdict-block s q (eqb-false (length q.cdb) 12 b))))

carried_outside :
    (s : Drive) (q : Request) (i : ℕ) (v : Verdict) → Judgement s q v → records_block v.plan (i / 32768) ≡ false
    → get_or (carried_out v s q).after.medium i 0 ≡ get_or s.medium i 0
unfolding carried_out
carried_outside s q i v j none =
    moved-kept v.plan s.medium s.pending q.payload j.block j.fits.flush j.fits.transfer i none

-- a step records in the blocks of its plan and nowhere else
pub step_outside :
    (s : Drive) (q : Request) (i : ℕ) → records_block (verdict_on s q).plan (i / 32768) ≡ false
    → get_or (step s q).after.medium i 0 ≡ get_or s.medium i 0
unfolding step
step_outside s q i none =
    verdict_cases s q (λ x e. ap (λ (r : Result). get_or r.after.medium i 0) (ap (λ v. carried_out v s q) e ∙ link_carried s q x))
    (λ b l e.
    let v = judge s.disc q.cdb (length q.payload) (length q.buffer) in
    let j = judgement s q l in
    ap (λ (v : Verdict). get_or (carried_out v s q).after.medium i 0) e
    ∙ carried_outside s q i v j (rw e at none))

-- and those blocks were unrecorded
pub step_fresh :
    (s : Drive) (q : Request) (i : ℕ) → records_block (verdict_on s q).plan (i / 32768) ≡ true → recorded_byte s.disc i ≡ true → ⊥
step_fresh s q i r t =
    let k : i / 2048 / 16 ≡ i / 32768 = omega arith in
    decided-fresh s.disc (verdict_on s q) (lba (i / 2048)) (verdict_decided s q) (rw (ap (records_block (verdict_on s q).plan) k) r) t

-- demand 2: what was recorded stays, byte for byte
pub step_kept :
    (s : Drive) (q : Request) (i : ℕ) → recorded_byte s.disc i ≡ true → get_or (step s q).after.medium i 0 ≡ get_or s.medium i 0
step_kept s q i t =
    step_outside s q i (by_cases (records_block (verdict_on s q).plan (i / 32768)) (λ r. absurd (step_fresh s q i r t)) (λ r. r))

-- lengths stay
carried_lengths :
    (s : Drive) (q : Request) (v : Verdict) → Judgement s q v
    → (length (carried_out v s q).after.medium ≡ length s.medium) × (length (carried_out v s q).after.pending ≡ length s.pending)
unfolding carried_out
carried_lengths s q v j = (
  length-moved-medium v.plan s.medium s.pending q.payload j.block j.fits.flush j.fits.transfer,
  length-moved-pending v.plan s.medium s.pending q.payload j.block j.fits.flush j.fits.transfer ∙ sym j.block,
)

pub step-lengths :
    (s : Drive) (q : Request)
    → (length (step s q).after.medium ≡ length s.medium) × (length (step s q).after.pending ≡ length s.pending)
unfolding step
step-lengths s q =
    verdict_cases s q
    (λ x e.
    let r = ap (λ v. carried_out v s q) e ∙ link_carried s q x in
    (ap (λ (r : Result). length r.after.medium) r, ap (λ (r : Result). length r.after.pending) r))
    (λ b l e.
    let w = carried_lengths s q (judge s.disc q.cdb (length q.payload) (length q.buffer)) (judgement s q l) in (
      ap (λ (v : Verdict). length (carried_out v s q).after.medium) e ∙ w.0,
      ap (λ (v : Verdict). length (carried_out v s q).after.pending) e ∙ w.1,
    ))

-- so what is lent rightly stays so, and with it the disc decides alone
step_capacity : (s : Drive) (q : Request) → (step s q).after.disc.capacity ≡ s.disc.capacity
unfolding step carried_out
step_capacity s q = decided-capacity s.disc (verdict_on s q) (verdict_decided s q)

lent_as : (d e : Disc) (m p : ℕ) → e.capacity ≡ d.capacity → lent d m p ≡ true → lent e m p ≡ true
lent_as d e m p c t = rw c t

pub lent-after :
    (s : Drive) (q : Request) → lent s.disc (length s.medium) (length s.pending) ≡ true
    → lent (step s q).after.disc (length (step s q).after.medium) (length (step s q).after.pending) ≡ true
lent-after s q h =
    let l = step-lengths s q in
    rw (l.0, l.1) (lent_as s.disc (step s q).after.disc (length s.medium) (length s.pending) (step_capacity s q) h)

pub step_judges :
    (s : Drive) (q : Request) → lent s.disc (length s.medium) (length s.pending) ≡ true
    → ((step s q).answer ≡ (judge s.disc q.cdb (length q.payload) (length q.buffer)).answer)
    × ((step s q).after.disc ≡ (judge s.disc q.cdb (length q.payload) (length q.buffer)).disc)
unfolding step carried_out
step_judges s q l = let e = verdict_judges s q l in (ap (λ (v : Verdict). v.answer) e, ap (λ (v : Verdict). v.disc) e)

-- recorded is what was recorded and the blocks of the plan, as a byte of the medium has it
byte_recorded :
    (s : Drive) (q : Request) (v : Verdict) (i : ℕ) → Judgement s q v → recorded_byte v.disc i ≡ true
    → (recorded_byte s.disc i ≡ true) ⊎ (records_block v.plan (i / 32768) ≡ true)
byte_recorded s q v i j t =
    let a = lba (i / 2048) in
    let k : i / 2048 / 16 ≡ i / 32768 = omega arith in
    or_cases (is_recorded s.disc a) (records_block v.plan (i / 2048 / 16)) (λ h. inl h) (λ h. inr (rw k at h))
    (sym (decided-recorded s.disc v a j.decided) ∙ t)

-- the bytes that are sent are recorded ones and those of pending sectors
sent_alike :
    (t : Transfer) (r : Reply) (m n p q : List ℕ)
    → ((a : Lba) (l i k : ℕ) → t ≡ Send a l i k → (stretch a.0 l m ≡ stretch a.0 l n) × (stretch i k p ≡ stretch i k q))
    → sent_bytes t r m p ≡ sent_bytes t r n q
unfolding sent_bytes
sent_alike Nothing r m n p q h = refl
sent_alike (Send a l i k) r m n p q h = let w = h a l i k refl in rw (w.0, w.1)
sent_alike (Gather b held l) r m n p q h = refl
sent_alike (Fill b l) r m n p q h = refl

-- sectors of two buffers that have the same first c sectors
stretch_alike :
    (p q : List ℕ) (c i k : ℕ) → 2048 * c ≤ length p → 2048 * c ≤ length q → i + k ≤ c → take (2048 * c) p ≡ take (2048 * c) q
    → stretch i k p ≡ stretch i k q
stretch_alike p q c i k hp hq h e =
    sym (part p (omega (arith, hp, h))) ∙ (ap (λ (l : List ℕ). take (2048 * k) (drop (2048 * i) l)) e ∙ part q (omega (arith, hq, h)))
  where
    part : (l : List ℕ) → 2048 * i ≤ length l → stretch i k (take (2048 * c) l) ≡ stretch i k l
    part l within = run_in_front l (2048 * c) (2048 * i) (2048 * k) (omega (arith, h)) within

-- two results that no controller can tell apart, on drives that stay alike
pub record AlikeResults (r t : Result) : Type 0 where
  pub answer : r.answer ≡ t.answer
  pub reply : r.reply ≡ t.reply
  pub recorded : r.recorded ≡ t.recorded
  pub after : Alike r.after t.after

module _
    (d : Disc) (m n p q b x r u : List ℕ) (v : Verdict) (j : Judgement (drive d m p) (request b x r) v) (hm : length m ≡ length n)
    (hp : length p ≡ length q) (same : (i : ℕ) → recorded_byte d i ≡ true → get_or m i 0 ≡ get_or n i 0)
    (held : take (2048 * d.pending) p ≡ take (2048 * d.pending) q)
  where
    other_block : length q ≡ 32768
    other_block = sym hp ∙ j.block

    pending : Pending d v.plan v.disc
    pending = decided-pending d v j.decided

    flush-sectors : (c : Block) (l : ℕ) → v.plan.flush ≡ Some (recording c l) → take (2048 * l) p ≡ take (2048 * l) q
    flush-sectors c l e = rw (pending.flushed c l e).0 held

    reply-alike : sent_bytes v.plan.transfer v.reply m p ≡ sent_bytes v.plan.transfer v.reply n q
    reply-alike =
        sent_alike v.plan.transfer v.reply m n p q
        (λ a l i k e.
        decided-sends d v a l i k j.decided e
        (λ count w.
        let fits : (2048 * (a.0 + l) ≤ length m) × (i + k ≤ 16) = rw e at j.fits.transfer in (
          agree_run m n (2048 * a.0) (2048 * l) (omega (arith, fits.0)) hm
              (λ x from below.
              same x
              (let at : a.0 + (x / 2048 - a.0) ≡ x / 2048 = omega arith in
              rw at at (w.recorded (x / 2048 - a.0) (omega arith)))),
          equal_cases k 0 (λ z. rw z)
              (λ z.
              stretch_alike p q d.pending i k (omega (arith, j.block, w.few)) (omega (arith, other_block, w.few)) (w.held z) held),
        )))

    -- the media after the flush, and then after the transfer
    flushed-alike :
        Agree (λ i. (recorded_byte d i ≡ true) ⊎ (flushes v.plan.flush (i / 32768) ≡ true)) (flushed_medium v.plan.flush m p)
        (flushed_medium v.plan.flush n q)
    flushed-alike =
        flushed-agree (λ i. recorded_byte d i ≡ true) m n p q j.block other_block hm same v.plan.flush j.fits.flush flush-sectors

    flushed-held :
        take (2048 * flushed_count v.plan.flush d.pending) (flushed_pending v.plan.flush p)
        ≡ take (2048 * flushed_count v.plan.flush d.pending) (flushed_pending v.plan.flush q)
    flushed-held = flushed_sectors v.plan.flush d.pending p q held

    flushed-length : length (flushed_medium v.plan.flush m p) ≡ length m
    flushed-length = length-flushed_medium v.plan.flush m p j.block j.fits.flush

    other-flush : FlushFits (length n) v.plan.flush
    other-flush = subst (λ (l : ℕ). FlushFits l v.plan.flush) hm j.fits.flush

    other-transfer : TransferFits (length n) (length x) v.plan.transfer
    other-transfer = subst (λ (l : ℕ). TransferFits l (length x) v.plan.transfer) hm j.fits.transfer

    medium-alike : (i : ℕ) → recorded_byte v.disc i ≡ true → get_or (moved_medium v.plan m p x) i 0 ≡ get_or (moved_medium v.plan n q x) i 0
    unfolding moved_medium records_block
    medium-alike i t =
        let f = v.plan.flush in
        let g = v.plan.transfer in
        transferred-agree (λ i. (recorded_byte d i ≡ true) ⊎ (flushes f (i / 32768) ≡ true)) (flushed_medium f m p) (flushed_medium f n q)
        (flushed_pending f p) (flushed_pending f q) (length-flushed_pending f p j.block) (length-flushed_pending f q other_block)
        (flushed-length ∙ (hm ∙ sym (length-flushed_medium f n q other_block other-flush))) flushed-alike g x
        (subst (λ (l : ℕ). TransferFits l (length x) g) (sym flushed-length) j.fits.transfer)
        (λ c h l e. rw (pending.gathered c h l e).0 flushed-held)
        i
        (⊎_elim (λ h. inl (inl h))
        (λ h. or_cases (flushes f (i / 32768)) (transfers g (i / 32768)) (λ w. inl (inr w)) (λ w. inr w) h)
        (byte_recorded (drive d m p) (request b x r) v i j t))

    sectors-alike : take (2048 * v.disc.pending) (moved_pending v.plan p x) ≡ take (2048 * v.disc.pending) (moved_pending v.plan q x)
    unfolding moved_pending
    sectors-alike =
        let f = v.plan.flush in
        rw pending.count
        (transferred_sectors v.plan.transfer (flushed_count f d.pending) (flushed_pending f p) (flushed_pending f q) x
        (λ c h l e. (pending.gathered c h l e).0) flushed-held)

    pub carried-alike : AlikeResults (carried_out v (drive d m p) (request b x r)) (carried_out v (drive d n q) (request b x u))
    unfolding carried_out
    carried-alike =
        record {
          answer = refl;
          reply = reply-alike;
          recorded = refl;
          after =
              record {
                disc = refl;
                medium_length =
                    length-moved-medium v.plan m p x j.block j.fits.flush j.fits.transfer
                    ∙ (hm ∙ sym (length-moved-medium v.plan n q x other_block other-flush other-transfer));
                pending_length =
                    length-moved-pending v.plan m p x j.block j.fits.flush j.fits.transfer
                    ∙ sym (length-moved-pending v.plan n q x other_block other-flush other-transfer);
                recorded = medium-alike;
                pending = sectors-alike;
              };
        }

module _
    (d : Disc) (m n p q b x r u : List ℕ) (hm : length m ≡ length n) (hp : length p ≡ length q) (hr : length r ≡ length u)
    (same : (i : ℕ) → recorded_byte d i ≡ true → get_or m i 0 ≡ get_or n i 0) (held : take (2048 * d.pending) p ≡ take (2048 * d.pending) q)
  where
    verdict-alike : verdict_on (drive d m p) (request b x r) ≡ verdict_on (drive d n q) (request b x u)
    unfolding verdict_on
    verdict-alike = rw (hm, hp, hr)

    untouched-alike :
        (y : LinkRefusal) → AlikeResults (untouched (drive d m p) (request b x r) (Link y) d) (untouched (drive d n q) (request b x u) (Link y) d)
    untouched-alike y = grind arith

    step-alike-plain : AlikeResults (step (drive d m p) (request b x r)) (step (drive d n q) (request b x u))
    unfolding step
    step-alike-plain =
        let s = drive d m p in
        let t = drive d n q in
        let k = request b x r in
        let l = request b x u in
        verdict_cases s k
        (λ y e.
        rw (sym verdict-alike, ap (λ v. carried_out v s k) e ∙ link_carried s k y, ap (λ v. carried_out v t l) e ∙ link_carried t l y)
        (untouched-alike y))
        (λ block w e.
        rw (sym verdict-alike, e) (carried-alike d m n p q b x r u (judge d b (length x) (length r)) (judgement s k w) hm hp same held))

-- stale bytes decide nothing: alike drives, the same command and data and reply buffers of the same length
pub step_alike :
    (s t : Drive) (q u : Request) → Alike s t → q.cdb ≡ u.cdb → q.payload ≡ u.payload → length q.buffer ≡ length u.buffer
    → AlikeResults (step s q) (step t u)
step_alike s t q u a block sectors buffer =
    let other : drive s.disc t.medium t.pending ≡ t = ap (λ (d : Disc). drive d t.medium t.pending) a.disc in
    let given : request q.cdb q.payload u.buffer ≡ u =
    ap (λ (b : List ℕ). request b q.payload u.buffer) block ∙ ap (λ (x : List ℕ). request u.cdb x u.buffer) sectors in
    subst (λ (z : Drive). AlikeResults (step s q) (step z u)) other
    (subst (λ (z : Request). AlikeResults (step s q) (step (drive s.disc t.medium t.pending) z)) given
    (step-alike-plain s.disc s.medium t.medium s.pending t.pending q.cdb q.payload q.buffer u.buffer
    a.medium_length a.pending_length buffer a.recorded
    (a.pending ∙ ap (λ (d : Disc). take (2048 * d.pending) t.pending) (sym a.disc))))

-- alike is an equivalence
pub alike_same : (s : Drive) → Alike s s
alike_same s = grind arith

pub alike_back : (s t : Drive) → Alike s t → Alike t s
alike_back s t a = grind arith

pub alike_on : (s t u : Drive) → Alike s t → Alike t u → Alike s u
alike_on s t u a b = grind arith
