-- Over a history: what is recorded and pending by it is what the state says, so stale bytes are those that document 01 means.
use Prim.Native.Nat.{ℕ, ◌-◌, ◌*◌, ◌/◌}
use mathlib.Core.Path.{◌≡◌, refl, sym, ap, ◌∙◌, subst}
use mathlib.Core.Bool.{Bool, false, ◌||◌}
use mathlib.Core.List.{List, [], ◌∷◌}
use native.Mathlib.Omega.{arith}
use Rattle.fragments.specs.Address.{lba}
use Rattle.disc.specs.Blank.{blank}
use Rattle.protocol.specs.Command.{decode}
use Rattle.disc.specs.Records.{is_recorded, is_pending}
use Rattle.outcomes.specs.Recorded.{among, records_block, flushed_count, transferred_count, pending_block}
use Rattle.fragments.proofs.Laws.Bool.{by_cases}
use Rattle.fragments.proofs.Laws.Numbers.{equal_cases}
use Rattle.disc.proofs.Laws.Blank.{blank_pending}
use Rattle.commands.proofs.Laws.Judge.{allowed_ready}
use Rattle.outcomes.proofs.Laws.Judge.{decided-performed, decided-recorded, decided-pending}
use Rattle.outcomes.proofs.Laws.Recorded.{among-from, among_below}
use Rattle.disc.proofs.Laws.Readable.{blank_unrecorded}
use Rattle.drive.specs.Alike.{Alike}
use Rattle.drive.specs.Step.{Drive, Request, Result, verdict_on, carried_out, step}
use Rattle.drive.proofs.Laws.Alike.{step_link, step-refused}
use Rattle.drive.proofs.Laws.Cut.{Served, served-after, served_alike}
use Rattle.drive.proofs.Laws.Step.{verdict_decided}
use Rattle.history.specs.Types.{Disc, Answer, Accepted, Link, Drive as by_drive, Verdict}
use Rattle.history.specs.Sequence.{Start, Turn, found, result, final, Admissible}
use Rattle.history.specs.Past.{Past, beginning, past_after, past_noted, past_from, past, StaleApart, StaleChanges, RecordedByHistory}
use Rattle.history.proofs.Laws.Served.{start-served}
use Rattle.history.proofs.Laws.Past.{Recalls, Tells, recalled-performed}

-- one command
module _ (s : Drive) (q : Request) (h : Past) (w : Served s) (m : Recalls s.disc h) where
  accepted-tells : (step s q).answer ≡ Accepted → Tells s.disc h (past_after s.disc (decode q.cdb) h) (verdict_on s q).plan
  unfolding step carried_out
  accepted-tells e =
      let d = s.disc in
      let v = verdict_on s q in
      let performed = decided-performed d v (verdict_decided s q) e in
      subst (λ (x : Verdict). Tells d h (past_after d (decode q.cdb) h) x.plan) (sym performed)
      (recalled-performed d h (allowed_ready d w.range w.allowed) m (decode q.cdb) (sym (ap (λ (x : Verdict). x.answer) performed) ∙ e))

  accepted-recalls : (step s q).answer ≡ Accepted → Recalls (step s q).after.disc (past_after s.disc (decode q.cdb) h)
  unfolding step carried_out
  accepted-recalls e =
      let d = s.disc in
      let v = verdict_on s q in
      let t = accepted-tells e in
      let p = decided-pending d v (verdict_decided s q) in
      let held : v.disc.pending ≡ (past_after d (decode q.cdb) h).held =
      p.count ∙ (ap (λ (n : ℕ). transferred_count v.plan.transfer (flushed_count v.plan.flush n)) m.held ∙ t.held) in
      record {
        recorded =
            λ a.
            decided-recorded d v (lba a) (verdict_decided s q)
            ∙ (ap (λ (x : Bool). x || records_block v.plan (a / 16)) (m.recorded a) ∙ t.recorded (a / 16));
        held = held;
        next = λ z. t.next (λ y. z (held ∙ y)) ∙ omega (arith, p.place z, held);
      }

  answer-recalls : (a : Answer) → (step s q).answer ≡ a → Recalls (step s q).after.disc (past_noted s.disc q a h)
  unfolding past_noted
  answer-recalls Accepted e = accepted-recalls e
  answer-recalls (Link x) e = subst (λ (r : Result). Recalls r.after.disc h) (sym (step_link s q x e)) m
  answer-recalls (by_drive x) e =
      subst (λ (r : Result). Recalls r.after.disc h) (sym (step-refused s q x e)) (record { recorded = m.recorded; held = m.held; next = m.next })

-- stale bytes by the state and by the history
module _ (s e : Drive) (h : Past) (m : Recalls s.disc h) where
  byte_recorded : (i : ℕ) → is_recorded s.disc (lba (i / 2048)) ≡ h.recorded (i / 32768)
  byte_recorded i = grind arith

  alike-apart : Alike s e → StaleApart h s e
  alike-apart a = grind arith

  apart-alike : StaleApart h s e → Alike s e
  apart-alike a = grind arith

-- pending sectors by the history: the last ones that it accepted
recalled_waiting : (d : Disc) (h : Past) → Recalls d h → (a : ℕ) → is_pending d (lba a) ≡ among (h.next - h.held) h.held a
recalled_waiting d h m a =
    equal_cases d.pending 0
    (λ z.
    none (16 * pending_block d) d.pending z ∙ sym (none (h.next - h.held) h.held (sym m.held ∙ z)))
    (λ z.
    let first : h.next - h.held ≡ 16 * pending_block d = omega (arith, m.next z, m.held) in
    ap (λ (b : ℕ). among (16 * pending_block d) b a) m.held ∙ ap (λ (b : ℕ). among b h.held a) (sym first))
  where
    none : (b n : ℕ) → n ≡ 0 → among b n a ≡ false
    none b n z = by_cases (among b n a) (λ t. absurd (omega (arith, z, among-from b n a t, among_below b n a t))) (λ t. t)

-- over a sequence
turn_recalls :
    (t : Turn) (s : Drive) (h : Past) → Served s → Alike s (found t s) → Recalls s.disc h
    → Recalls (result t s).after.disc (past_noted s.disc t.request (result t s).answer h)
turn_recalls t s h w a m = answer-recalls (found t s) t.request h (served_alike s (found t s) a w) m (result t s).answer refl

turn-served : (t : Turn) (s : Drive) → Served s → Alike s (found t s) → Served (result t s).after
turn-served t s w a = served-after (found t s) t.request (served_alike s (found t s) a w)

sequence_recalls : (ts : List Turn) (s : Drive) (h : Past) → Served s → Admissible ts s → Recalls s.disc h → Recalls (final ts s).disc (past_from ts s h)
unfolding final Admissible past_from
sequence_recalls [] s h w a m = m
sequence_recalls (t ∷ ts) s h w a m =
    sequence_recalls ts (result t s).after _ (turn-served t s w a.0) a.1 (turn_recalls t s h w a.0 m)

admissible_stale : (ts : List Turn) (s : Drive) (h : Past) → Served s → Recalls s.disc h → Admissible ts s → StaleChanges ts s h
unfolding Admissible StaleChanges
admissible_stale [] s h w m a = tt
admissible_stale (t ∷ ts) s h w m a = (
  alike-apart s (found t s) h m a.0,
  admissible_stale ts (result t s).after _ (turn-served t s w a.0) (turn_recalls t s h w a.0 m) a.1,
)

stale_admissible : (ts : List Turn) (s : Drive) (h : Past) → Served s → Recalls s.disc h → StaleChanges ts s h → Admissible ts s
unfolding Admissible StaleChanges
stale_admissible [] s h w m a = tt
stale_admissible (t ∷ ts) s h w m a =
    let same = apart-alike s (found t s) h m a.0 in
    (same, stale_admissible ts (result t s).after _ (turn-served t s w same) (turn_recalls t s h w same m) a.1)

-- from a start
start_recalls : (c : ℕ) (s : Drive) → Start c s → Recalls s.disc beginning
start_recalls c s start =
    subst (λ (d : Disc). Recalls d beginning) (sym start.disc)
    (record {
      recorded = λ a. by_cases (is_recorded (blank c) (lba a)) (λ t. absurd (blank_unrecorded c (lba a) t)) (λ t. t);
      held = blank_pending c;
      next = λ z. absurd (z (blank_pending c));
    })

-- the theorem
pub recorded_by_history : RecordedByHistory
recorded_by_history =
    record {
      recorded = λ c s start ts a x. (there c s start ts a).recorded x;
      pending = λ c s start ts a. (there c s start ts a).held;
      waiting = λ c s start ts a x. recalled_waiting (final ts s).disc (past ts s) (there c s start ts a) x;
      stale = λ c s start ts a. admissible_stale ts s beginning (start-served c s start) (start_recalls c s start) a;
      admissible = λ c s start ts a. stale_admissible ts s beginning (start-served c s start) (start_recalls c s start) a;
      apart = λ c s start ts a e. alike-apart (final ts s) e (past ts s) (there c s start ts a);
      alike = λ c s start ts a e. apart-alike (final ts s) e (past ts s) (there c s start ts a);
    }
  where
    there : (c : ℕ) (s : Drive) → Start c s → (ts : List Turn) → Admissible ts s → Recalls (final ts s).disc (past ts s)
    there c s start ts a = sequence_recalls ts s beginning (start-served c s start) a (start_recalls c s start)
