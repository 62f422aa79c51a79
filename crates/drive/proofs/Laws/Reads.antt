-- What a READ answers: recorded and pending sectors, and a refusal where a sector is neither.
use Prim.Native.Nat.{ℕ, ◌+◌, ◌-◌, ◌*◌, ◌≤◌, ◌<◌}
use mathlib.Core.Path.{◌≡◌, sym, ap, ◌∙◌}
use mathlib.Core.Bool.{true, false, cond}
use mathlib.Core.List.{List, ◌++◌}
use native.Mathlib.Omega.{arith}
use borrow.Author.Tests.{ltb-true, ltb-false}
use lib.Dec.{ltb}
use lib.ListN.{length, take, drop, length-drop}
use lib.Seq.{length-take-le}
use Rattle.fragments.specs.Address.{lba, sectors_in, left_over}
use Rattle.protocol.specs.Command.{decode}
use Rattle.commands.specs.Judge.{judge, perform}
use Rattle.commands.specs.Read.{all_readable, medium_share, sending, read}
use Rattle.disc.specs.Records.{is_recorded, is_readable}
use Rattle.disc.specs.Verdict.{refuse}
use Rattle.decisions.specs.Run.{stretch}
use Rattle.fragments.proofs.Laws.Bool.{by_cases, contradiction, cond_yes, cond_no}
use Rattle.disc.proofs.Laws.Rules.{sound-rules}
use Rattle.commands.proofs.Laws.Judge.{allowed_ready}
use Rattle.disc.proofs.Laws.Readable.{readable-inside}
use Rattle.commands.proofs.Laws.Read.{all_readable-at, at-all_readable, read-blank, Shared, shared}
use Rattle.outcomes.proofs.Laws.Accepts.{read-accepted, accepted-read, read_sends}
use Rattle.outcomes.proofs.Laws.Judge.{judge_reads, perform-read, decided-performed}
use Rattle.drive.specs.Types.{Lba, Read, Accepted, Drive as by_drive, BlankCheck, Transfer, Verdict}
use Rattle.drive.specs.Reply.{sent_bytes}
use Rattle.drive.specs.Step.{Drive, Request, verdict_on, carried_out, step}
use Rattle.drive.specs.Requests.{ReadOf}
use Rattle.drive.proofs.Laws.Bytes.{run_in_run, sector_front, sector-after}
use Rattle.drive.proofs.Laws.Step.{verdict_decided, verdict-judge, lent_medium, lent_pending}
use Rattle.drive.proofs.Laws.Cut.{Served, accepted-served}

-- a READ with its lengths is decided by the drive
read_verdict : (s : Drive) (q : Request) (a : Lba) (n : ℕ) → ReadOf q a n → Served s → verdict_on s q ≡ read s.disc a n
read_verdict s q a n w k =
    sym (verdict-judge s q w.cdb k.lends)
    ∙ (ap (λ (l : ℕ). judge s.disc q.cdb l (length q.buffer)) w.payload
    ∙ judge_reads s.disc q.cdb (length q.buffer) a n w.cdb w.command k.range k.allowed w.room)

-- a READ of 1 up is accepted exactly when every sector that it touches is readable; within the disc it is refused by 8/00/00 else
module _ (s : Drive) (q : Request) (a : Lba) (n : ℕ) (w : ReadOf q a n) (k : Served s) (z : n ≡ 0 → ⊥) where
  readable-within : ((i : ℕ) → i < n → is_readable s.disc (lba (a.0 + i)) ≡ true) → a.0 + n ≤ sectors_in s.disc.capacity
  readable-within h =
      let sound = sound-rules s.disc (allowed_ready s.disc k.range k.allowed).sound in
      let last = readable-inside s.disc sound (lba (a.0 + (n - 1))) (h (n - 1) (omega (arith, z))) in
      omega (arith, last, z)

  pub readable-accepted : ((i : ℕ) → i < n → is_readable s.disc (lba (a.0 + i)) ≡ true) → (step s q).answer ≡ Accepted
  unfolding step carried_out
  readable-accepted h =
      ap (λ (v : Verdict). v.answer) (read_verdict s q a n w k) ∙ read-accepted s.disc a n z (readable-within h) h

  pub blank-refused :
      a.0 + n ≤ sectors_in s.disc.capacity → (i : ℕ) → i < n → is_readable s.disc (lba (a.0 + i)) ≡ false
      → (step s q).answer ≡ by_drive BlankCheck
  unfolding step carried_out refuse
  blank-refused within i l t =
      ap (λ (v : Verdict). v.answer)
      (read_verdict s q a n w k
      ∙ read-blank s.disc a n z within
      (by_cases (all_readable s.disc a n) (λ e. absurd (contradiction (all_readable-at s.disc a n e i l) t)) (λ e. e)))

-- a sector of the drive: the medium's where it is recorded, else that of the pending buffer at its place in the block
abbrev pub sector_of : Drive → ℕ → List ℕ
sector_of s a =
    cond (is_recorded s.disc (lba a)) (take 2048 (drop (2048 * a) s.medium)) (take 2048 (drop (2048 * left_over a) s.pending))

-- an accepted READ of 1 up
module _
    (s : Drive) (q : Request) (a : Lba) (n : ℕ) (c : decode q.cdb ≡ Read a n) (e : (step s q).answer ≡ Accepted) (z : n ≡ 0 → ⊥)
  where
    served : Served s
    served = accepted-served s q e

    performed : verdict_on s q ≡ read s.disc a n
    unfolding step carried_out
    performed =
        decided-performed s.disc (verdict_on s q) (verdict_decided s q) e ∙ (ap (perform s.disc) c ∙ perform-read s.disc a n)

    answered : (read s.disc a n).answer ≡ Accepted
    unfolding step carried_out
    answered = sym (ap (λ (v : Verdict). v.answer) performed) ∙ e

    -- within the disc, every sector readable
    pub read-within : a.0 + n ≤ sectors_in s.disc.capacity
    read-within = (accepted-read s.disc a n z answered).0

    pub read-readable : (i : ℕ) → i < n → is_readable s.disc (lba (a.0 + i)) ≡ true
    read-readable = (accepted-read s.disc a n z answered).1

    abbrev share : ℕ
    share = medium_share s.disc a n

    shares : Shared s.disc a n share (left_over (a.0 + share)) (n - share)
    shares =
        shared s.disc (sound-rules s.disc (allowed_ready s.disc served.range served.allowed).sound) a n z
        (at-all_readable s.disc a n read-readable)

    -- sends the medium's sectors, then those of the pending buffer
    pub read-reply : (step s q).reply ≡ stretch a.0 share s.medium ++ stretch (left_over (a.0 + share)) (n - share) s.pending
    unfolding step carried_out sending sent_bytes
    read-reply =
        ap (λ (v : Verdict). sent_bytes v.plan.transfer v.reply s.medium s.pending) performed
        ∙ ap (λ (t : Transfer). sent_bytes t (read s.disc a n).reply s.medium s.pending) (read_sends s.disc a n answered z)

    -- each at its address
    pub read-sector : (i : ℕ) → i < n → take 2048 (drop (2048 * i) (step s q).reply) ≡ sector_of s (a.0 + i)
    read-sector i l =
        let d = s.disc in
        let w = shares in
        let m = s.medium in
        let place = left_over (a.0 + share) in
        let x = stretch a.0 share m in
        let y = stretch place (n - share) s.pending in
        let whole = lent_medium d (length m) (length s.pending) served.lends in
        let block = lent_pending d (length m) (length s.pending) served.lends in
        let within = read-within in
        let size : length x ≡ 2048 * share =
        length-take-le (2048 * share) (drop (2048 * a.0) m) (omega (arith, length-drop (2048 * a.0) m, whole, within, w.whole)) in
        ap (λ (r : List ℕ). take 2048 (drop (2048 * i) r)) read-reply
        ∙ by_cases (ltb i share)
        (λ t.
        let below = ltb-true i share t in
        let at : 2048 * a.0 + 2048 * i ≡ 2048 * (a.0 + i) = omega arith in
        sector_front x y share i size below
        ∙ (run_in_run m (2048 * a.0) (2048 * share) (2048 * i) 2048 (omega (arith, below)) (omega (arith, whole, within, l))
        ∙ (ap (λ (b : ℕ). take 2048 (drop b m)) at ∙ sym (cond_yes (is_recorded d (lba (a.0 + i))) _ _ (w.recorded i below)))))
        (λ t.
        let from = ltb-false i share t in
        let j = i - share in
        let some-held : n - share ≡ 0 → ⊥ = λ none. omega (arith, none, from, l) in
        let index : i ≡ share + j = omega (arith, from) in
        let at : 2048 * place + 2048 * j ≡ 2048 * left_over (a.0 + i) = omega (arith, from, l, w.within, w.place some-held) in
        ap (λ (b : ℕ). take 2048 (drop (2048 * b) (x ++ y))) index
        ∙ (sector-after x y share j size
        ∙ (run_in_run s.pending (2048 * place) (2048 * (n - share)) (2048 * j) 2048 (omega (arith, from, l)) (omega (arith, block, w.within, from, l))
        ∙ (ap (λ (b : ℕ). take 2048 (drop b s.pending)) at ∙ sym (cond_no (is_recorded d (lba (a.0 + i))) _ _ (w.unrecorded i from l))))))
