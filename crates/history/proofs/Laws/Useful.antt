-- Drives that are of no use are none of ours: on a blank disc WRITE 0 of 16 is accepted and records a block, the 51h after it says so, and
-- a second WRITE records another.
use Prim.Native.Nat.{ℕ}
use mathlib.Core.Path.{◌≡◌, refl, ap, ◌∙◌}
use mathlib.Core.Bool.{true}
use mathlib.Core.List.{List, ◌∷◌}
use lib.ListN.{length, replicate, length-replicate}
use Rattle.drive.proofs.Laws.Alike.{lent-after}
use Rattle.drive.proofs.Laws.Step.{verdict_judges}
use Rattle.protocol.specs.Answer.{is_refusal_sense, allowed_sense}
use Rattle.disc.specs.Blank.{blank}
use Rattle.protocol.specs.Command.{decode}
use Rattle.fragments.specs.List.{listed, some, every, find, sum_recorded, first_of_session}
use Rattle.disc.specs.Sound.{used_first, first_at_zero, follows_from, in_order, ends_within, recorded_within, zeroed_within, incomplete_last, tail_last, tail_or_full, pending_named, finalized_complete, sound, allowed_state}
use Rattle.protocol.specs.Lengths.{data_length, reply_room, lengths_fit}
use Rattle.commands.specs.Flush.{flush, flush_plan}
use Rattle.commands.specs.Write.{flush_others, flush_others_plan, gather, write_to, write_found, write}
use Rattle.reporting.specs.Reports.{session_state, disc_status, read_disc_information}
use Rattle.protocol.specs.Reports.{disc_bytes}
use Rattle.protocol.specs.Reply.{said, reply_bytes}
use Rattle.commands.specs.Judge.{perform, judge_command, judge}
use Rattle.disc.specs.Verdict.{accepted, accept}
use Rattle.drive.specs.Reply.{sent_bytes}
use Rattle.drive.specs.Step.{Drive, Request, lent, verdict_on, carried_out, step}
use Rattle.history.specs.Types.{Disc, Verdict, Accepted}
use Rattle.history.specs.Sequence.{Start}
use Rattle.history.specs.Forms.{ten, write_opcode, fields, write_cdb}
use Rattle.history.specs.Witness.{first_block, information_request, second_block}
use Rattle.history.proofs.Laws.Served.{start-lent}

-- a verdict by the disc and the lengths, as numbers
known_verdict :
    (s : Drive) (q : Request) (d : Disc) (n m : ℕ) → lent s.disc (length s.medium) (length s.pending) ≡ true → s.disc ≡ d
    → length q.payload ≡ n → length q.buffer ≡ m → verdict_on s q ≡ judge d q.cdb n m
known_verdict s q d n m l e f g =
    verdict_judges s q l
    ∙ (ap (λ (x : Disc). judge x q.cdb (length q.payload) (length q.buffer)) e
    ∙ (ap (λ (k : ℕ). judge d q.cdb k (length q.buffer)) f ∙ ap (judge d q.cdb n) g))

-- what the lower layer decides, computed: three verdicts, one on the disc that the other left
abbrev one : Verdict
one = judge (blank 300) (write_cdb ten 0 16) 32768 0

abbrev two : Verdict
two = judge one.disc information_request.cdb 0 34

abbrev three : Verdict
three = judge two.disc (write_cdb ten 16 16) 32768 0

computed :
    (one.answer ≡ Accepted) × (one.recorded ≡ 1)
    × ((m p : List ℕ) → sent_bytes two.plan.transfer two.reply m p ≡ 0x00 ∷ 0x20 ∷ 0x05 ∷ 1 ∷ 1 ∷ 1 ∷ 1 ∷ replicate 27 0)
    × (three.answer ≡ Accepted) × (three.recorded ≡ 1)
unfolding sent_bytes reply_bytes said decode write_opcode fields listed some every find sum_recorded first_of_session used_first first_at_zero follows_from in_order ends_within recorded_within zeroed_within incomplete_last tail_last tail_or_full pending_named finalized_complete sound allowed_state is_refusal_sense allowed_sense blank data_length reply_room lengths_fit accepted accept flush flush_plan flush_others flush_others_plan gather write_to write_found write session_state disc_status disc_bytes read_disc_information perform judge_command judge
computed = (refl, refl, λ m p. refl, refl, refl)

module _ (s : Drive) (start : Start 300 s) where
  first-verdict : verdict_on s first_block ≡ one
  first-verdict = known_verdict s first_block (blank 300) 32768 0 (start-lent 300 s start) start.disc (length-replicate {A = ℕ} 32768 7) refl

  -- WRITE 0 of 16 is accepted and records one block
  pub first-records : ((step s first_block).answer ≡ Accepted) × ((step s first_block).recorded ≡ 1)
  unfolding step carried_out
  first-records =
      (ap (λ (v : Verdict). v.answer) first-verdict ∙ computed.0, ap (λ (v : Verdict). v.recorded) first-verdict ∙ computed.1)

  abbrev after_first : Drive
  after_first = (step s first_block).after

  after-first-disc : after_first.disc ≡ one.disc
  unfolding step carried_out
  after-first-disc = ap (λ (v : Verdict). v.disc) first-verdict

  second-verdict : verdict_on after_first information_request ≡ two
  second-verdict =
      known_verdict after_first information_request one.disc 0 34 (lent-after s first_block (start-lent 300 s start)) after-first-disc refl
      (length-replicate {A = ℕ} 34 0)

  -- the 51h after it says so: an incomplete session on a disc that is not blank
  pub information-says : (step after_first information_request).reply ≡ 0x00 ∷ 0x20 ∷ 0x05 ∷ 1 ∷ 1 ∷ 1 ∷ 1 ∷ replicate 27 0
  unfolding step carried_out
  information-says =
      ap (λ (v : Verdict). sent_bytes v.plan.transfer v.reply after_first.medium after_first.pending) second-verdict ∙ computed.2 after_first.medium after_first.pending

  abbrev after-second : Drive
  after-second = (step after_first information_request).after

  after-second-disc : after-second.disc ≡ two.disc
  unfolding step carried_out
  after-second-disc = ap (λ (v : Verdict). v.disc) second-verdict

  -- and a second WRITE records another block
  pub second-records : ((step after-second second_block).answer ≡ Accepted) × ((step after-second second_block).recorded ≡ 1)
  unfolding step carried_out
  second-records =
      let v = known_verdict after-second second_block two.disc 32768 0
      (lent-after after_first information_request (lent-after s first_block (start-lent 300 s start))) after-second-disc (length-replicate {A = ℕ} 32768 9) refl in
      (ap (λ (x : Verdict). x.answer) v ∙ computed.3, ap (λ (x : Verdict). x.recorded) v ∙ computed.4)
