-- The accounts of two examples: document 01's first WRITE and flush, and the example sequence.
use Prim.Native.Nat.{ℕ, ◌≤◌}
use mathlib.Core.Path.{◌≡◌, refl, ap, ◌∙◌}
use mathlib.Core.Bool.{false}
use mathlib.Core.List.{List, []}
use native.Mathlib.Omega.{arith}
use Rattle.protocol.specs.Answer.{is_refusal_sense, allowed_sense}
use Rattle.fragments.specs.Address.{lba}
use Rattle.disc.specs.Blank.{blank}
use Rattle.protocol.specs.Command.{decode}
use Rattle.disc.specs.Records.{pending_in, numbered}
use Rattle.fragments.specs.List.{listed, some, every, find, sum_recorded}
use Rattle.disc.specs.Sound.{used_first, first_at_zero, follows_from, in_order, ends_within, recorded_within, zeroed_within, incomplete_last, tail_last, tail_or_full, pending_named, finalized_complete, sound, allowed_state}
use Rattle.protocol.specs.Lengths.{data_length, reply_room, lengths_fit}
use Rattle.commands.specs.Flush.{flush, flush_plan, synchronize_cache}
use Rattle.commands.specs.Read.{all_readable, read}
use Rattle.commands.specs.Write.{flush_others, flush_others_plan, gather, write_to, write_found, write}
use Rattle.commands.specs.Reserve.{split_tail, reserve}
use Rattle.commands.specs.Close.{append_tail, close_incomplete, close_fragment, close}
use Rattle.commands.specs.Judge.{perform, judge_command, judge}
use Rattle.disc.specs.Verdict.{accepted, accept, refuse, refuse_link}
use Rattle.drive.specs.Bytes.{zeros}
use Rattle.drive.specs.Step.{Drive}
use Rattle.history.specs.Types.{Disc, Write, SynchronizeCache}
use Rattle.history.specs.Sequence.{Start, final}
use Rattle.history.specs.Forms.{write_opcode, fields}
use Rattle.history.specs.Examples.{steady}
use Rattle.history.specs.Account.{Extent, sector_at, Account, opened, written, flushed, credited, account}
use Rattle.history.specs.Kept.{Keeps}
use Rattle.history.specs.Witness.{Shape, disc_after, first_run}
use Rattle.history.proofs.Laws.Served.{start-lent}
use Rattle.history.proofs.Laws.Examples.{steady_admissible}
use Rattle.history.proofs.Laws.Witness.{steady-disc, run_shapes_lem, run_shapes}
use Rattle.history.proofs.Laws.Kept.{kept_account}

-- the figures of an account: accepted, recorded, zero-filled, pending
pub record Figures (k : Account) (a r z p : ℕ) : Type 0 where
  pub accepted : k.accepted ≡ a
  pub recorded : k.recorded ≡ r
  pub zero_filled : k.zero_filled ≡ z
  pub pending : k.pending ≡ p

-- the tail of a blank disc of 300 blocks
abbrev tail : Extent
tail = record { first = 0; sectors = 4800; reserved = false }

-- WRITE 0 of 20: 16 sectors recorded, 4 pending; then 35h: 12 sectors of zeros
pub write-figures : (x : List ℕ) → Figures (credited 1 tail (Write (lba 0) 20) x opened) 20 16 0 4
unfolding credited written
write-figures x = grind arith

pub flush-figures : (x y : List ℕ) → Figures (credited 1 tail SynchronizeCache y (credited 1 tail (Write (lba 0) 20) x opened)) 20 32 12 0
unfolding credited written flushed
flush-figures x y = grind arith

-- what stands at an address then: sector 3 of the data, zeros that the drive put there, and nothing
pub write_content : (x y : List ℕ) → (credited 1 tail SynchronizeCache y (credited 1 tail (Write (lba 0) 20) x opened)).content 3 ≡ sector_at 3 x
unfolding credited written flushed
write_content x y = refl

pub flush_content : (x y : List ℕ) → (credited 1 tail SynchronizeCache y (credited 1 tail (Write (lba 0) 20) x opened)).content 25 ≡ zeros 2048
unfolding credited written flushed
flush_content x y = refl

pub no_content : (x y : List ℕ) → (credited 1 tail SynchronizeCache y (credited 1 tail (Write (lba 0) 20) x opened)).content 32 ≡ []
unfolding credited written flushed
no_content x y = refl

-- the list that the example sequence leaves, computed
abbrev left : Disc
left = disc_after run_shapes (blank 300)

computed :
    ((numbered left 1).recorded ≡ 3) × ((numbered left 1).zeroed ≡ 43) × (pending_in left 1 ≡ 0) × ((numbered left 2).recorded ≡ 2)
    × ((numbered left 2).zeroed ≡ 10) × (pending_in left 2 ≡ 0)
unfolding disc_after decode write_opcode fields listed some every find sum_recorded used_first first_at_zero follows_from in_order ends_within recorded_within zeroed_within incomplete_last tail_last tail_or_full pending_named finalized_complete sound allowed_state is_refusal_sense allowed_sense blank data_length reply_room lengths_fit accepted accept refuse refuse_link flush flush_plan all_readable read flush_others flush_others_plan gather write_to write_found write split_tail reserve append_tail close_incomplete close_fragment close synchronize_cache perform judge_command judge
computed = (refl, refl, refl, refl, refl, refl)

-- from every start of 300 blocks: the five sectors of the reserved fragment, flushed by a WRITE to the tail and then filled to its three
-- blocks; the 22 sectors of the tail, 6 of them flushed by the close
module _ (s : Drive) (start : Start 300 s) where
  left-disc : (final (steady first_run s) s).disc ≡ left
  left-disc =
      steady-disc first_run s (start-lent 300 s start)
      ∙ (ap (λ (hs : List Shape). disc_after hs s.disc) run_shapes_lem ∙ ap (disc_after run_shapes) start.disc)

  kept : (n : ℕ) → 1 ≤ n → Keeps (account n (steady first_run s) s) left n
  kept n one =
      rw left-disc at (kept_account.keeps 300 s start (steady first_run s) (steady_admissible first_run s) n one)

  pub reserved-figures : Figures (account 1 (steady first_run s) s) 5 48 43 0
  reserved-figures =
      let k = kept 1 (omega arith) in
      let c = computed in
      record {
        accepted = omega (arith, k.kept, k.within, k.recorded, k.zero_filled, k.pending, c.0, c.1, c.2);
        recorded = omega (arith, k.recorded, c.0);
        zero_filled = k.zero_filled ∙ c.1;
        pending = k.pending ∙ c.2;
      }

  pub tail-figures : Figures (account 2 (steady first_run s) s) 22 32 10 0
  tail-figures =
      let k = kept 2 (omega arith) in
      let c = computed in
      record {
        accepted = omega (arith, k.kept, k.within, k.recorded, k.zero_filled, k.pending, c.3, c.4, c.5);
        recorded = omega (arith, k.recorded, c.3);
        zero_filled = k.zero_filled ∙ c.4;
        pending = k.pending ∙ c.5;
      }
