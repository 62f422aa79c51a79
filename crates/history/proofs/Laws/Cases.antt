-- The cases, each from a statement and not from its proof: whoever weakens `Demand3`, `KeptAccount` or a word that they use loses one.
use Prim.Native.Nat.{ℕ, zero, suc, ◌+◌, ◌*◌, ◌/◌, ◌≤◌, ◌<◌}
use mathlib.Core.Path.{◌≡◌, refl, sym, ap, ◌∙◌, subst}
use mathlib.Core.Bool.{Bool, true, false, ◌||◌}
use mathlib.Core.Logic.{◌⊎◌, inl, inr}
use mathlib.Core.List.{List, [], ◌∷◌, ◌++◌, map, append-nil}
use native.Mathlib.Omega.{arith}
use borrow.Author.Tests.{leb-true, le-leb, lt-ltb}
use lib.Dec.{leb, ltb}
use lib.ListN.{length, get_or, replicate, length-replicate, length-append}
use Rattle.fragments.specs.Address.{lba}
use Rattle.protocol.specs.Answer.{is_refusal_sense, allowed_sense}
use Rattle.disc.specs.Blank.{in_range, blank}
use Rattle.fragments.proofs.Laws.Bool.{and_left, contradiction}
use Rattle.protocol.specs.Command.{decode}
use Rattle.fragments.specs.Fragment.{fragment, holds_recorded}
use Rattle.disc.specs.Records.{pending_in, records, numbered, is_recorded, is_pending, at_address}
use Rattle.fragments.specs.List.{listed, some, every, find, sum_recorded}
use Rattle.disc.specs.Sound.{used_first, first_at_zero, follows_from, in_order, ends_within, recorded_within, zeroed_within, incomplete_last, tail_last, tail_or_full, pending_named, finalized_complete, sound, allowed_state}
use Rattle.protocol.specs.Lengths.{data_length, reply_room, lengths_fit}
use Rattle.commands.specs.Flush.{flush, flush_plan, synchronize_cache}
use Rattle.commands.specs.Read.{all_readable, medium_share, sending, read}
use Rattle.commands.specs.Write.{flush_others, flush_others_plan, gather, write_to, write_found, write}
use Rattle.commands.specs.Reserve.{split_tail, reserve}
use Rattle.reporting.specs.Reports.{next_writable_or_zero, free_sectors, track_verdict, track_found, track_numbered, read_track_information}
use Rattle.protocol.specs.Reports.{track_bytes}
use Rattle.commands.specs.Judge.{perform, judge_command, judge}
use Rattle.disc.specs.Verdict.{accepted, accept, refuse}
use Rattle.outcomes.specs.Recorded.{among}
use Rattle.drive.specs.Bytes.{zeros}
use Rattle.drive.specs.Step.{Drive, Request}
use Rattle.drive.specs.Requests.{WriteOf, ReadOf}
use Rattle.drive.specs.Alike.{recorded_byte, Alike}
use Rattle.history.specs.Types.{Disc, Appended, Answer, Accepted, Drive as by_drive, DriveRefusal, BlankCheck, EndOfUserArea, LinkRefusal, CommandBlockLength, MediumSize, UnsoundState, TransferLength, Some, Read}
use Rattle.history.specs.Sequence.{Start, Turn, Told, found, requests, result, final, Admissible, Undisturbed, AllAccepted, blocks_of}
use Rattle.history.specs.Forms.{Form, ten, twelve, read_opcode, write_opcode, longest, fields, write_cdb}
use Rattle.history.specs.Cut.{Parts, none, part, CutOf, SameCommand, Again, ends, same, cut, Agreeing}
use Rattle.history.specs.Demand.{Demand3}
use Rattle.history.specs.Account.{Account, opened, extent_of, sector_at, written, flushed, credited, noted, account, content_at, recorded_at, pending_at, readable_at}
use Rattle.history.specs.Kept.{Keeps, KeptAccount}
use Rattle.history.specs.Brought.{Written, write_of, accepted_write, writes, brought_to, sole, ReadBack, brought_into, ListedKeeps, KeptAsListed}
use Rattle.history.specs.Past.{RecordedByHistory}
use Rattle.history.specs.Stale.{Change, unchanged, Given, after, turn, given}
use Rattle.history.specs.Witness.{Shape, shape, disc_after}
use Rattle.history.specs.Cases.{answers, replies, counts, Flash, blank_over, Log, first_five, next_thirteen, writing, asking, reading, reading_some, flushing, newer, older, earliest, early, TwoControllers, ByteForByte, BlockStays, reserving, in_two, Fitting, after_all, Reader, Requested, CasesOn, FirstWrite, Limits, Cases}
use Rattle.history.specs.Wide.{Portion, parts_of, total, nameable}
use Rattle.history.proofs.Laws.Forms.{write_cdb_lem, both_name}
use Rattle.history.proofs.Laws.Demand.{demand_3}
use Rattle.history.proofs.Laws.Kept.{kept_account}
use Rattle.history.proofs.Laws.ReadBack.{read_back, kept_as_listed}
use Rattle.history.proofs.Laws.Recalled.{recorded_by_history}
use Rattle.history.proofs.Laws.Stale.{turn_alike, given_admissible, given-requests, given_undisturbed}
use Rattle.history.proofs.Laws.Wide.{parts_cut, wide}
use Rattle.history.proofs.Laws.Decided.{decisions, account_by, shapes, known-answers, known-disc, known-content, known-recorded, known-waiting}

-- there is flash, and there is a log, of any byte
pub some_flash : (c x : ℕ) → Flash c
some_flash c x =
    record {
      medium = replicate (32768 * c) x;
      pending = replicate 32768 x;
      medium_length = length-replicate {A = ℕ} (32768 * c) x;
      pending_length = length-replicate {A = ℕ} 32768 x;
    }

pub some_log : ℕ → Log
some_log x =
    record {
      one = replicate 4096 x;
      two = replicate 2048 x;
      three = replicate 4096 x;
      four = replicate 6144 x;
      five = replicate 20480 x;
      six = replicate 6144 x;
      one_length = length-replicate {A = ℕ} 4096 x;
      two_length = length-replicate {A = ℕ} 2048 x;
      three_length = length-replicate {A = ℕ} 4096 x;
      four_length = length-replicate {A = ℕ} 6144 x;
      five_length = length-replicate {A = ℕ} 20480 x;
      six_length = length-replicate {A = ℕ} 6144 x;
    }

-- any flash is a start
flash_start : (c : ℕ) (f : Flash c) → in_range c ≡ true → Start c (blank_over c f)
flash_start c f range = record { range = range; disc = refl; medium = f.medium_length; pending = f.pending_length }

-- the log's WRITEs, and the cuts of them
five_length_lem : (l : Log) → length (first_five l) ≡ 10240
five_length_lem l =
    length-append l.one _ ∙ omega (arith, length-append l.two (l.three ++ []), length-append l.three [], l.one_length, l.two_length, l.three_length)

thirteen_length : (l : Log) → length (next_thirteen l) ≡ 26624
thirteen_length l = length-append l.four _ ∙ omega (arith, length-append l.five [], l.four_length, l.five_length)

written_of : (f : Form) (a n : ℕ) (x : List ℕ) → a < 256 → n < 256 → length x ≡ 2048 * n → WriteOf (writing f a n x) (lba a) n
written_of f a n x near few h = write_cdb_lem f a n (omega (arith, near)) (both_name f n (omega (arith, few))) x h

cut_in_three : (l : Log) → CutOf (writing ten 0 5 (first_five l)) (writing ten 0 2 l.one ∷ writing twelve 2 1 l.two ∷ writing ten 3 2 l.three ∷ [])
cut_in_three l =
    record {
      address = lba 0;
      count = 5;
      whole = written_of ten 0 5 (first_five l) (omega arith) (omega arith) (five_length_lem l);
      several = omega arith;
      parts =
          part (lba 0) 2 3 (writing ten 0 2 l.one) _ _ (omega arith) (written_of ten 0 2 l.one (omega arith) (omega arith) l.one_length)
          (part (lba 2) 1 2 (writing twelve 2 1 l.two) _ _ (omega arith) (written_of twelve 2 1 l.two (omega arith) (omega arith) l.two_length)
          (part (lba 3) 2 0 (writing ten 3 2 l.three) [] [] (omega arith) (written_of ten 3 2 l.three (omega arith) (omega arith) l.three_length) (none _)));
    }

cut_in_two :
    (q one two : Request) (a n m : ℕ) → WriteOf q (lba a) (n + m) → WriteOf one (lba a) n → WriteOf two (lba (a + n)) m → 1 ≤ n → 1 ≤ m
    → q.payload ≡ one.payload ++ (two.payload ++ []) → CutOf q (one ∷ two ∷ [])
cut_in_two q one two a n m w w₁ w₂ some more joined =
    record {
      address = lba a;
      count = n + m;
      whole = w;
      several = omega arith;
      parts =
          subst (λ (x : List ℕ). Parts (lba a) (n + m) x (one ∷ two ∷ [])) (sym joined)
          (part (lba a) n m one _ _ some w₁
          (subst (λ (c : ℕ). Parts (lba (a + n)) c (two.payload ++ []) (two ∷ [])) (none_more m)
          (part (lba (a + n)) m 0 two [] [] more w₂ (none _))));
    }
  where
    none_more : (m : ℕ) → m + 0 ≡ m
    none_more m = omega arith

-- the second WRITE, a WRITE (12), in two parts of the other form
cut_of_thirteen : (l : Log) → CutOf (writing twelve 5 13 (next_thirteen l)) (writing ten 5 3 l.four ∷ writing ten 8 10 l.five ∷ [])
cut_of_thirteen l =
    cut_in_two (writing twelve 5 13 (next_thirteen l)) (writing ten 5 3 l.four) (writing ten 8 10 l.five) 5 3 10
    (written_of twelve 5 13 (next_thirteen l) (omega arith) (omega arith) (thirteen_length l)) (written_of ten 5 3 l.four (omega arith) (omega arith) l.four_length)
    (written_of ten 8 10 l.five (omega arith) (omega arith) l.five_length) (omega arith) (omega arith) refl

same_again : (q u : Request) → q.cdb ≡ u.cdb → q.payload ≡ u.payload → length q.buffer ≡ length u.buffer → SameCommand q u
same_again q u b x r = record { cdb = b; payload = x; room = r }

-- the shapes of the newer controller's commands
abbrev newer_shapes : List Shape
newer_shapes =
    shape (write_cdb ten 0 5) 10240 0 ∷ shape (asking 0).cdb 0 36 ∷ shape (write_cdb twelve 5 13) 26624 0 ∷ shape (reading twelve 2 0).cdb 0 32768
    ∷ shape flushing.cdb 0 0 ∷ shape (reading ten 32 0).cdb 0 32768 ∷ shape (write_cdb ten 32 3) 6144 0 ∷ []

abbrev newer_answers : List Answer
newer_answers = replicate 5 Accepted ++ (by_drive BlankCheck ∷ Accepted ∷ [])

abbrev earliest_shapes : List Shape
earliest_shapes = shape (write_cdb ten 0 5) 10240 0 ∷ []

abbrev early_shapes : List Shape
early_shapes = shape (write_cdb ten 0 5) 10240 0 ∷ shape (asking 0).cdb 0 36 ∷ shape (write_cdb twelve 5 13) 26624 0 ∷ []

newer_shapes_lem : (s : Drive) (l : Log) (x : ℕ) (j : ℕ → Change) → shapes (given (newer l x j) s) ≡ newer_shapes
unfolding given
newer_shapes_lem s l x j =
    λ i.
    shape (write_cdb ten 0 5) (five_length_lem l i) 0 ∷ shape (asking 0).cdb 0 (length-replicate {A = ℕ} 36 x i)
    ∷ shape (write_cdb twelve 5 13) (thirteen_length l i) 0 ∷ shape (reading twelve 2 0).cdb 0 (length-replicate {A = ℕ} 32768 x i)
    ∷ shape flushing.cdb 0 0 ∷ shape (reading ten 32 0).cdb 0 (length-replicate {A = ℕ} 32768 x i) ∷ shape (write_cdb ten 32 3) (l.six_length i) 0 ∷ []

earliest_shapes_lem : (s : Drive) (l : Log) (j : ℕ → Change) → shapes (given (earliest l j) s) ≡ earliest_shapes
unfolding given
earliest_shapes_lem s l j = λ i. shape (write_cdb ten 0 5) (five_length_lem l i) 0 ∷ []

early_shapes_lem : (s : Drive) (l : Log) (x : ℕ) (j : ℕ → Change) → shapes (given (early l x j) s) ≡ early_shapes
unfolding given
early_shapes_lem s l x j =
    λ i.
    shape (write_cdb ten 0 5) (five_length_lem l i) 0 ∷ shape (asking 0).cdb 0 (length-replicate {A = ℕ} 36 x i)
    ∷ shape (write_cdb twelve 5 13) (thirteen_length l i) 0 ∷ []

-- a READ after them, and a WRITE after RESERVE 48
abbrev late_shapes : ℕ → ℕ → List Shape
late_shapes a n = newer_shapes ++ (shape (reading_some ten a n 0).cdb 0 (2048 * n) ∷ [])

abbrev whole_shapes : ℕ → ℕ → List Shape
whole_shapes p n = shape reserving.cdb 0 0 ∷ shape (write_cdb ten 0 p) n 0 ∷ []

-- the disc and the account after shapes
abbrev list_of : ℕ → List Shape → Disc
list_of c hs = disc_after hs (blank c)

abbrev account_of : ℕ → List Turn → List Shape → Account
account_of c ts hs = account_by 1 ts hs (blank c) opened

-- what is computed of them on a disc of c blocks: answers, the list with its figures, where an address lies and what stands there
record Computed (c : ℕ) : Type 0 where
  range : in_range c ≡ true
  answered : decisions newer_shapes (blank c) ≡ newer_answers
  late_answered :
      (decisions (late_shapes 0 16) (blank c) ≡ newer_answers ++ (Accepted ∷ [])) × (decisions (late_shapes 16 16) (blank c) ≡ newer_answers ++ (Accepted ∷ []))
      × (decisions (late_shapes 32 3) (blank c) ≡ newer_answers ++ (Accepted ∷ []))
  partly : decisions (whole_shapes 49 100352) (blank c) ≡ Accepted ∷ by_drive EndOfUserArea ∷ []
  wholly : decisions (whole_shapes 48 98304) (blank c) ≡ Accepted ∷ Accepted ∷ []
  newer_list : records (list_of c newer_shapes) ≡ fragment 1 0 c 2 14 Appended ∷ []
  early_list : records (list_of c early_shapes) ≡ fragment 1 0 c 1 0 Appended ∷ []
  figures : ((numbered (list_of c newer_shapes) 1).recorded ≡ 2) × ((numbered (list_of c newer_shapes) 1).zeroed ≡ 14) × (pending_in (list_of c newer_shapes) 1 ≡ 3)
  first_figures :
      ((numbered (list_of c earliest_shapes) 1).recorded ≡ 0) × ((numbered (list_of c earliest_shapes) 1).zeroed ≡ 0) × (pending_in (list_of c earliest_shapes) 1 ≡ 5)
  held : ((list_of c early_shapes).pending ≡ 2) × ((list_of c newer_shapes).pending ≡ 3)
  beyond : is_recorded (list_of c newer_shapes) (lba 32) ≡ false
  held_last : (is_pending (list_of c newer_shapes) (lba 34) ≡ true) × (is_pending (list_of c newer_shapes) (lba 35) ≡ false)
  size : (list_of c newer_shapes).capacity ≡ c
  first : (extent_of (list_of c newer_shapes) 1).first ≡ 0
  early_places :
      (at_address (list_of c early_shapes) (lba 3) ≡ Some 1) × (at_address (list_of c early_shapes) (lba 7) ≡ Some 1)
      × (at_address (list_of c early_shapes) (lba 17) ≡ Some 1)
  newer_places :
      (at_address (list_of c newer_shapes) (lba 17) ≡ Some 1) × (at_address (list_of c newer_shapes) (lba 18) ≡ Some 1)
      × (at_address (list_of c newer_shapes) (lba 31) ≡ Some 1) × (at_address (list_of c newer_shapes) (lba 32) ≡ Some 1)
      × (at_address (list_of c newer_shapes) (lba 33) ≡ Some 1) × (at_address (list_of c newer_shapes) (lba 34) ≡ Some 1)
      × (at_address (list_of c newer_shapes) (lba 35) ≡ Some 1)
  early_content :
      (s : Drive) (l : Log) (x : ℕ) (j : ℕ → Change)
      → ((account_of c (given (early l x j) s) early_shapes).content 3 ≡ sector_at 3 (first_five l))
      × ((account_of c (given (early l x j) s) early_shapes).content 7 ≡ sector_at 2 (next_thirteen l))
      × ((account_of c (given (early l x j) s) early_shapes).content 17 ≡ sector_at 12 (next_thirteen l))
  newer_content :
      (s : Drive) (l : Log) (x : ℕ) (j : ℕ → Change)
      → ((account_of c (given (newer l x j) s) newer_shapes).content 17 ≡ sector_at 12 (next_thirteen l))
      × ((account_of c (given (newer l x j) s) newer_shapes).content 18 ≡ zeros 2048)
      × ((account_of c (given (newer l x j) s) newer_shapes).content 33 ≡ sector_at 1 l.six)
  newer_figures :
      (s : Drive) (l : Log) (x : ℕ) (j : ℕ → Change)
      → ((account_of c (given (newer l x j) s) newer_shapes).recorded ≡ 32) × ((account_of c (given (newer l x j) s) newer_shapes).pending ≡ 3)

-- on the smallest disc and on the largest
computed : Computed 256 × Computed 143444
unfolding decisions disc_after account_by given noted credited written flushed split_tail reserve decode read_opcode write_opcode fields listed some every find sum_recorded used_first first_at_zero follows_from in_order ends_within recorded_within zeroed_within incomplete_last tail_last tail_or_full pending_named finalized_complete sound allowed_state is_refusal_sense allowed_sense blank data_length reply_room lengths_fit accepted accept refuse flush flush_plan synchronize_cache all_readable medium_share sending read flush_others flush_others_plan gather write_to write_found write next_writable_or_zero free_sectors track_bytes track_verdict track_found track_numbered read_track_information perform judge_command judge
computed = (
  record {
    range = refl;
    answered = refl;
    late_answered = (refl, refl, refl);
    partly = refl;
    wholly = refl;
    newer_list = refl;
    early_list = refl;
    figures = (refl, refl, refl);
    first_figures = (refl, refl, refl);
    held = (refl, refl);
    beyond = refl;
    held_last = (refl, refl);
    size = refl;
    first = refl;
    early_places = (refl, refl, refl);
    newer_places = (refl, refl, refl, refl, refl, refl, refl);
    early_content = λ s l x j. (refl, refl, refl);
    newer_content = λ s l x j. (refl, refl, refl);
    newer_figures = λ s l x j. (refl, refl);
  },
  record {
    range = refl;
    answered = refl;
    late_answered = (refl, refl, refl);
    partly = refl;
    wholly = refl;
    newer_list = refl;
    early_list = refl;
    figures = (refl, refl, refl);
    first_figures = (refl, refl, refl);
    held = (refl, refl);
    beyond = refl;
    held_last = (refl, refl);
    size = refl;
    first = refl;
    early_places = (refl, refl, refl);
    newer_places = (refl, refl, refl, refl, refl, refl, refl);
    early_content = λ s l x j. (refl, refl, refl);
    newer_content = λ s l x j. (refl, refl, refl);
    newer_figures = λ s l x j. (refl, refl);
  },
)

tail_recorded : (d : Disc) (c w z a : ℕ) → records d ≡ fragment 1 0 c w z Appended ∷ [] → a < 16 * w → is_recorded d (lba a) ≡ true
unfolding some
tail_recorded d c w z a e h =
    ap (some (holds_recorded (lba a))) e ∙ rw (le-leb (16 * 0) a (omega arith), lt-ltb a (16 * (0 + w)) (omega (arith, h)))

module _ (c : ℕ) (m : Computed c) (s : Drive) (start : Start c s) (l : Log) (x : ℕ) (j : ℕ → Change) where
  newer-answers : answers (given (newer l x j) s) s ≡ newer_answers
  newer-answers =
      known-answers c s start (given (newer l x j) s) (given_admissible (newer l x j) s) newer_shapes (newer_shapes_lem s l x j) ∙ m.answered

  newer-answer : (i : ℕ) → get_or (answers (given (newer l x j) s) s) i Accepted ≡ get_or newer_answers i Accepted
  newer-answer i = ap (λ (r : List Answer). get_or r i Accepted) newer-answers

-- the older controller's sequence is the newer one's again
module _ (s e : Drive) (l : Log) (x y : ℕ) (j k : ℕ → Change) where
  abbrev parts₁ : List Given
  parts₁ = after (k 0) (writing ten 0 2 l.one) ∷ after (k 1) (writing twelve 2 1 l.two) ∷ after (k 2) (writing ten 3 2 l.three) ∷ []

  abbrev rest₁ : List Given
  rest₁ =
      after (k 3) (asking y) ∷ after (k 4) (writing ten 5 3 l.four) ∷ after (k 5) (writing ten 8 10 l.five) ∷ after (k 6) (reading twelve 2 y)
      ∷ after (k 7) flushing ∷ after (k 8) (reading ten 32 y) ∷ after (k 9) (writing ten 32 3 l.six) ∷ []

  abbrev parts₂ : List Given
  parts₂ = after (k 4) (writing ten 5 3 l.four) ∷ after (k 5) (writing ten 8 10 l.five) ∷ []

  abbrev rest₂ : List Given
  rest₂ = after (k 6) (reading twelve 2 y) ∷ after (k 7) flushing ∷ after (k 8) (reading ten 32 y) ∷ after (k 9) (writing ten 32 3 l.six) ∷ []

  abbrev after₁ : Drive
  after₁ = final (given parts₁ e) e

  abbrev told₁ : Drive
  told₁ = (result (turn (after (k 3) (asking y)) after₁) after₁).after

  abbrev after₂ : Drive
  after₂ = final (given parts₂ told₁) told₁

  unfoldable same_log :
      get_or (answers (given (newer l x j) s) s) 0 Accepted ≡ Accepted → get_or (answers (given (newer l x j) s) s) 2 Accepted ≡ Accepted
      → Again s (given (newer l x j) s) (given (older l y k) e)
  unfolding given final answers
  same_log one two =
      cut s _ _ (given parts₁ e) (given rest₁ after₁) _ one (cut_in_three l)
      (same _ _ _ _ _ (same_again (asking x) (asking y) refl refl (length-replicate {A = ℕ} 36 x ∙ sym (length-replicate {A = ℕ} 36 y)))
      (cut _ _ _ (given parts₂ told₁) (given rest₂ after₂) _ two (cut_of_thirteen l)
      (same _ _ _ _ _ (same_again (reading twelve 2 x) (reading twelve 2 y) refl refl (length-replicate {A = ℕ} 32768 x ∙ sym (length-replicate {A = ℕ} 32768 y)))
      (same _ _ _ _ _ (same_again flushing flushing refl refl refl)
      (same _ _ _ _ _ (same_again (reading ten 32 x) (reading ten 32 y) refl refl (length-replicate {A = ℕ} 32768 x ∙ sym (length-replicate {A = ℕ} 32768 y)))
      (same _ _ _ _ _ (same_again (writing ten 32 3 l.six) (writing ten 32 3 l.six) refl refl refl) (ends _)))))
      refl))
      refl

-- demand 3 of the two of them
module _ (c : ℕ) (m : Computed c) (demand : Demand3) (f g : Flash c) (l : Log) (x y : ℕ) (j k : ℕ → Change) where
  abbrev fresh : Drive
  fresh = blank_over c f

  abbrev other : Drive
  other = blank_over c g

  abbrev newTurns : List Turn
  newTurns = given (newer l x j) fresh

  abbrev oldTurns : List Turn
  oldTurns = given (older l y k) other

  abbrev again : Again fresh newTurns oldTurns
  again = same_log fresh other l x y j k (newer-answer c m fresh (flash_start c f m.range) l x j 0) (newer-answer c m fresh (flash_start c f m.range) l x j 2)

  abbrev both : Agreeing fresh newTurns oldTurns again other × Alike (final newTurns fresh) (final oldTurns other)
  both =
      demand.again c fresh other (flash_start c f m.range) (flash_start c g m.range) newTurns oldTurns (given_admissible (newer l x j) fresh) (given_admissible (older l y k) other) again

  told-answers : answers oldTurns other ≡ replicate 8 Accepted ++ (by_drive BlankCheck ∷ Accepted ∷ [])
  unfolding given final answers Agreeing AllAccepted same_log
  told-answers =
      let w = both.0 in
      let a : (i : ℕ) → get_or (answers newTurns fresh) i Accepted ≡ get_or newer_answers i Accepted = newer-answer c m fresh (flash_start c f m.range) l x j in
      λ i.
      w.0.0 i ∷ w.0.1.0 i ∷ w.0.1.1.0 i ∷ (sym (ap (λ (t : Told). t.answer) w.2.0) ∙ a 1) i ∷ w.2.1.0.0 i ∷ w.2.1.0.1.0 i
      ∷ (sym (ap (λ (t : Told). t.answer) w.2.1.2.0) ∙ a 3) i ∷ (sym (ap (λ (t : Told). t.answer) w.2.1.2.1.0) ∙ a 4) i
      ∷ (sym (ap (λ (t : Told). t.answer) w.2.1.2.1.1.0) ∙ a 5) i ∷ (sym (ap (λ (t : Told). t.answer) w.2.1.2.1.1.1.0) ∙ a 6) i ∷ []

  told-information : get_or (replies oldTurns other) 3 [] ≡ get_or (replies newTurns fresh) 1 []
  unfolding given final replies Agreeing same_log
  told-information = sym (ap (λ (t : Told). t.reply) both.0.2.0)

  told-reading : get_or (replies oldTurns other) 6 [] ≡ get_or (replies newTurns fresh) 3 []
  unfolding given final replies Agreeing same_log
  told-reading = sym (ap (λ (t : Told). t.reply) both.0.2.1.2.0)

  told-first : get_or (counts oldTurns other) 0 0 + (get_or (counts oldTurns other) 1 0 + get_or (counts oldTurns other) 2 0) ≡ get_or (counts newTurns fresh) 0 0
  unfolding given final counts blocks_of Agreeing same_log
  told-first = omega (arith, both.0.1)

  told-second : get_or (counts oldTurns other) 4 0 + get_or (counts oldTurns other) 5 0 ≡ get_or (counts newTurns fresh) 2 0
  unfolding given final counts blocks_of Agreeing same_log
  told-second = omega (arith, both.0.2.1.1)

  told-flushed : get_or (counts oldTurns other) 7 0 ≡ get_or (counts newTurns fresh) 4 0
  unfolding given final counts Agreeing same_log
  told-flushed = sym (ap (λ (t : Told). t.recorded) both.0.2.1.2.1.0)

  newer-disc : (final newTurns fresh).disc ≡ list_of c newer_shapes
  newer-disc = known-disc c fresh (flash_start c f m.range) newTurns (given_admissible (newer l x j) fresh) newer_shapes (newer_shapes_lem fresh l x j)

  two-controllers : TwoControllers newTurns fresh oldTurns other
  two-controllers =
      let a = both.1 in
      record {
        answers = told-answers;
        information = told-information;
        reading = told-reading;
        first_parts = told-first;
        second_parts = told-second;
        flushed = told-flushed;
        disc = sym a.disc;
        recorded =
            λ i h.
            sym
            (a.recorded i
            (ap (λ (d : Disc). recorded_byte d i) newer-disc
            ∙ tail_recorded (list_of c newer_shapes) c 2 14 (i / 2048) m.newer_list (omega (arith, h))));
        pending = sym a.pending;
      }

-- with nothing changed from outside
unchanged-newer : (s : Drive) (l : Log) (x : ℕ) → Undisturbed (given (newer l x (λ i. unchanged)) s) s
unchanged-newer s l x =
    given_undisturbed
    (writing ten 0 5 (first_five l) ∷ asking x ∷ writing twelve 5 13 (next_thirteen l) ∷ reading twelve 2 x ∷ flushing ∷ reading ten 32 x ∷ writing ten 32 3 l.six ∷ []) s

unchanged-older : (s : Drive) (l : Log) (x : ℕ) → Undisturbed (given (older l x (λ i. unchanged)) s) s
unchanged-older s l x =
    given_undisturbed
    (writing ten 0 2 l.one ∷ writing twelve 2 1 l.two ∷ writing ten 3 2 l.three ∷ asking x ∷ writing ten 5 3 l.four ∷ writing ten 8 10 l.five
    ∷ reading twelve 2 x ∷ flushing ∷ reading ten 32 x ∷ writing ten 32 3 l.six ∷ []) s

byte_for_byte :
    (c : ℕ) → Computed c → Demand3 → (f : Flash c) (l : Log) (x y : ℕ)
    → ByteForByte (given (newer l x (λ i. unchanged)) (blank_over c f)) (given (older l y (λ i. unchanged)) (blank_over c f)) (blank_over c f)
byte_for_byte c m demand f l x y =
    let s = blank_over c f in
    let none : ℕ → Change = λ i. unchanged in
    let e : final (given (newer l x none) s) s ≡ final (given (older l y none) s) s =
    demand.exact c s (flash_start c f m.range) (given (newer l x none) s) (given (older l y none) s) (unchanged-newer s l x) (unchanged-older s l y)
    (same_log s s l x y none none (newer-answer c m s (flash_start c f m.range) l x none 0) (newer-answer c m s (flash_start c f m.range) l x none 2)) in
    record { medium = sym (ap (λ (d : Drive). d.medium) e); pending = sym (ap (λ (d : Drive). d.pending) e) }

-- a recorded block stays
abbrev later : Log → ℕ → (ℕ → Change) → List Given
later l x j = after (j 3) (reading twelve 2 x) ∷ after (j 4) flushing ∷ after (j 5) (reading ten 32 x) ∷ after (j 6) (writing ten 32 3 l.six) ∷ []

newer_split :
    (s : Drive) (l : Log) (x : ℕ) (j : ℕ → Change)
    → given (newer l x j) s ≡ given (early l x j) s ++ given (later l x j) (final (given (early l x j) s) s)
unfolding given final
newer_split s l x j = refl

block_stays :
    (c : ℕ) → Computed c → Demand3 → (f : Flash c) (l : Log) (x : ℕ) (j : ℕ → Change)
    → BlockStays (given (early l x j) (blank_over c f)) (given (newer l x j) (blank_over c f)) (blank_over c f)
block_stays c m demand f l x j i h =
    let s = blank_over c f in
    let ts = given (early l x j) s in
    let us = given (later l x j) (final ts s) in
    let split : given (newer l x j) s ≡ ts ++ us = newer_split s l x j in
    let whole : Admissible (ts ++ us) s = subst (λ (vs : List Turn). Admissible vs s) split (given_admissible (newer l x j) s) in
    let d : (final ts s).disc ≡ list_of c early_shapes =
    known-disc c s (flash_start c f m.range) ts (given_admissible (early l x j) s) early_shapes (early_shapes_lem s l x j) in
    let here : recorded_byte (final ts s).disc i ≡ true =
    ap (λ (d : Disc). recorded_byte d i) d ∙ tail_recorded (list_of c early_shapes) c 1 0 (i / 2048) m.early_list (omega (arith, h)) in
    let kept = demand.stays c s (flash_start c f m.range) ts us whole i here in (
      ap (λ (vs : List Turn). recorded_byte (final vs s).disc i) split ∙ kept.0,
      ap (λ (vs : List Turn). get_or (final vs s).medium i 0) split ∙ kept.1,
    )

-- a WRITE that fits in part, and one that fits whole: their parts, after RESERVE
abbrev joined : List ℕ → List ℕ → List ℕ
joined x y = x ++ (y ++ [])

joined_length : (x y : List ℕ) (n m : ℕ) → length x ≡ n → length y ≡ m → length (joined x y) ≡ n + m
joined_length x y n m h k = length-append x (y ++ []) ∙ omega (arith, length-append y [], h, k)

abbrev whole_then : List ℕ → ℕ → (ℕ → Change) → List Given
whole_then x p j = after (j 0) reserving ∷ after (j 1) (writing ten 0 p x) ∷ []

whole_shapes_lem : (s : Drive) (x : List ℕ) (p b : ℕ) (j : ℕ → Change) → length x ≡ b → shapes (given (whole_then x p j) s) ≡ whole_shapes p b
unfolding given
whole_shapes_lem s x p b j size = λ i. shape reserving.cdb 0 0 ∷ shape (write_cdb ten 0 p) (size i) 0 ∷ []

whole-answers :
    (c : ℕ) (s : Drive) → Start c s → (x : List ℕ) (p b : ℕ) (j : ℕ → Change) → length x ≡ b
    → answers (given (whole_then x p j) s) s ≡ decisions (whole_shapes p b) (blank c)
whole-answers c s start x p b j size =
    let gs = whole_then x p j in known-answers c s start (given gs s) (given_admissible gs s) (whole_shapes p b) (whole_shapes_lem s x p b j size)

module _
    (c : ℕ) (demand : Demand3) (s : Drive) (start : Start c s) (x y : List ℕ) (n p : ℕ) (j : ℕ → Change)
    (whole : CutOf (writing ten 0 p (joined x y)) (writing ten 0 40 x ∷ writing twelve 40 n y ∷ []))
  where
    abbrev one : List Given
    one = whole_then (joined x y) p j

    -- both directions of part b, as answers of the two sequences
    parts-answers :
        (get_or (answers (given one s) s) 1 Accepted ≡ Accepted → get_or (answers (given one s) s) 0 Accepted ≡ Accepted
        → answers (given (in_two x y n j) s) s ≡ replicate 3 Accepted)
        × (answers (given (in_two x y n j) s) s ≡ replicate 3 Accepted → get_or (answers (given one s) s) 1 Accepted ≡ Accepted)
    unfolding given final answers AllAccepted
    parts-answers =
        let ts = given (after (j 0) reserving ∷ []) s in
        let r = final ts s in
        let t = turn (after (j 1) (writing ten 0 p (joined x y))) r in
        let gs = after (j 1) (writing ten 0 40 x) ∷ after (j 2) (writing twelve 40 n y) ∷ [] in
        let w =
        demand.whole c s start ts (given_admissible (after (j 0) reserving ∷ []) s) t (given gs r)
        (turn_alike (after (j 1) (writing ten 0 p (joined x y))) r) (given_admissible gs r) whole in (
          λ a b. (λ i. b i ∷ (w.0 a).0 i ∷ (w.0 a).1.0 i ∷ []),
          λ a. w.1 (ap (λ (l : List Answer). get_or l 1 Accepted) a, (ap (λ (l : List Answer). get_or l 2 Accepted) a, tt)),
        )

not_accepted : (x : DriveRefusal) → by_drive x ≡ Accepted → ⊥
not_accepted x e = absurd (let z : ◌≡◌ {A = ℕ} 0 1 = cc in omega arith)

fits :
    (c : ℕ) → Computed c → Demand3 → (f : Flash c) (x y z : List ℕ) → length x ≡ 81920 → length y ≡ 18432 → length z ≡ 16384 → (j : ℕ → Change)
    → Fitting (blank_over c f) x y z j
fits c m demand f x y z one two three j =
    let s = blank_over c f in
    let start = flash_start c f m.range in
    let large = joined_length x y 81920 18432 one two in
    let small = joined_length x z 81920 16384 one three in
    let no =
    parts-answers c demand s start x y 9 49 j
    (cut_in_two (writing ten 0 49 (joined x y)) (writing ten 0 40 x) (writing twelve 40 9 y) 0 40 9 (written_of ten 0 49 (joined x y) (omega arith) (omega arith) large)
    (written_of ten 0 40 x (omega arith) (omega arith) one) (written_of twelve 40 9 y (omega arith) (omega arith) two) (omega arith) (omega arith) refl) in
    let yes =
    parts-answers c demand s start x z 8 48 j
    (cut_in_two (writing ten 0 48 (joined x z)) (writing ten 0 40 x) (writing twelve 40 8 z) 0 40 8 (written_of ten 0 48 (joined x z) (omega arith) (omega arith) small)
    (written_of ten 0 40 x (omega arith) (omega arith) one) (written_of twelve 40 8 z (omega arith) (omega arith) three) (omega arith) (omega arith) refl) in
    let refused = whole-answers c s start (joined x y) 49 100352 j large ∙ m.partly in
    let taken = whole-answers c s start (joined x z) 48 98304 j small ∙ m.wholly in
    record {
      partly = λ q. not_accepted EndOfUserArea (sym (ap (λ (l : List Answer). get_or l 1 Accepted) refused) ∙ no.1 q);
      wholly = yes.0 (ap (λ (l : List Answer). get_or l 1 Accepted) taken) (ap (λ (l : List Answer). get_or l 0 Accepted) taken);
    }

abbrev late : ℕ → ℕ → Log → ℕ → (ℕ → Change) → List Given
late a n l x j = newer l x j ++ (after (j 7) (reading_some ten a n x) ∷ [])

late_shapes_lem : (s : Drive) (a n : ℕ) (l : Log) (x : ℕ) (j : ℕ → Change) → shapes (given (late a n l x j) s) ≡ late_shapes a n
unfolding given
late_shapes_lem s a n l x j =
    λ i.
    shape (write_cdb ten 0 5) (five_length_lem l i) 0 ∷ shape (asking 0).cdb 0 (length-replicate {A = ℕ} 36 x i)
    ∷ shape (write_cdb twelve 5 13) (thirteen_length l i) 0 ∷ shape (reading twelve 2 0).cdb 0 (length-replicate {A = ℕ} 32768 x i)
    ∷ shape flushing.cdb 0 0 ∷ shape (reading ten 32 0).cdb 0 (length-replicate {A = ℕ} 32768 x i) ∷ shape (write_cdb ten 32 3) (l.six_length i) 0
    ∷ shape (reading_some ten a n 0).cdb 0 (length-replicate {A = ℕ} (2048 * n) x i) ∷ []

late_answers :
    (c : ℕ) → Computed c → (f : Flash c) (a n : ℕ) (l : Log) (x : ℕ) (j : ℕ → Change)
    → decisions (late_shapes a n) (blank c) ≡ newer_answers ++ (Accepted ∷ [])
    → get_or (answers (given (late a n l x j) (blank_over c f)) (blank_over c f)) 7 Accepted ≡ Accepted
late_answers c m f a n l x j e =
    let s = blank_over c f in
    let known = known-answers c s (flash_start c f m.range) (given (late a n l x j) s) (given_admissible (late a n l x j) s) (late_shapes a n) (late_shapes_lem s a n l x j) in
    ap (λ (r : List Answer). get_or r 7 Accepted) (known ∙ e)

-- L2 and L3 are neither L1 nor L4
abbrev OwnLength : LinkRefusal → Type 0
OwnLength q = (q ≡ CommandBlockLength) ⊎ (q ≡ TransferLength)

no_size : OwnLength MediumSize → ⊥
no_size (inl e) = absurd (let z : ◌≡◌ {A = ℕ} 0 1 = cc in omega arith)
no_size (inr e) = absurd (let z : ◌≡◌ {A = ℕ} 0 1 = cc in omega arith)

no_state : OwnLength UnsoundState → ⊥
no_state (inl e) = absurd (let z : ◌≡◌ {A = ℕ} 0 1 = cc in omega arith)
no_state (inr e) = absurd (let z : ◌≡◌ {A = ℕ} 0 1 = cc in omega arith)

-- the kept account of it
module _ (c : ℕ) (m : Computed c) (kept : KeptAccount) (f : Flash c) (l : Log) (x : ℕ) (j : ℕ → Change) where
  abbrev disc₀ : Drive
  disc₀ = blank_over c f

  abbrev start₀ : Start c disc₀
  start₀ = flash_start c f m.range

  abbrev firstTurns : List Turn
  firstTurns = given (earliest l j) disc₀

  abbrev earlyTurns : List Turn
  earlyTurns = given (early l x j) disc₀

  abbrev logTurns : List Turn
  logTurns = given (newer l x j) disc₀

  abbrev logEnd : Drive
  logEnd = final logTurns disc₀

  early-admissible : Admissible earlyTurns disc₀
  early-admissible = given_admissible (early l x j) disc₀

  log-admissible : Admissible logTurns disc₀
  log-admissible = given_admissible (newer l x j) disc₀

  read-early :
      (a : ℕ) → a < 16 → sector_at a (get_or (replies logTurns disc₀) 3 []) ≡ content_at earlyTurns disc₀ (2 + a)
  unfolding given final answers replies decode read_opcode write_opcode fields
  read-early a h =
      let r = final earlyTurns disc₀ in
      kept.back c disc₀ start₀ earlyTurns early-admissible (turn (after (j 3) (reading twelve 2 x)) r) (turn_alike (after (j 3) (reading twelve 2 x)) r) (lba 2) 16 refl
      (newer-answer c m disc₀ start₀ l x j 3) a h

  read-late :
      (a : ℕ) → a < 16 → sector_at a (after_all logTurns disc₀ (after (j 7) (reading ten 16 x))).reply ≡ content_at logTurns disc₀ (16 + a)
  unfolding given final answers replies decode read_opcode write_opcode fields
  read-late a h =
      kept.back c disc₀ start₀ logTurns log-admissible (turn (after (j 7) (reading ten 16 x)) logEnd) (turn_alike (after (j 7) (reading ten 16 x)) logEnd) (lba 16) 16 refl
      (late_answers c m f 16 16 l x j m.late_answered.1) a h

  early-known : (a : ℕ) → at_address (list_of c early_shapes) (lba a) ≡ Some 1 → content_at earlyTurns disc₀ a ≡ (account_of c earlyTurns early_shapes).content a
  early-known a e = known-content c disc₀ start₀ earlyTurns early-admissible early_shapes (early_shapes_lem disc₀ l x j) a 1 e

  log-known : (a : ℕ) → at_address (list_of c newer_shapes) (lba a) ≡ Some 1 → content_at logTurns disc₀ a ≡ (account_of c logTurns newer_shapes).content a
  log-known a e = known-content c disc₀ start₀ logTurns log-admissible newer_shapes (newer_shapes_lem disc₀ l x j) a 1 e

  log-recorded : (a : ℕ) → at_address (list_of c newer_shapes) (lba a) ≡ Some 1 → recorded_at logTurns disc₀ a ≡ ltb a 32
  log-recorded a e =
      known-recorded c disc₀ start₀ logTurns log-admissible newer_shapes (newer_shapes_lem disc₀ l x j) a 1 e
      ∙ (ap (λ (b : ℕ). ltb a (b + (account_of c logTurns newer_shapes).recorded)) m.first ∙ ap (λ (b : ℕ). ltb a (0 + b)) (m.newer_figures disc₀ l x j).0)

  log-on-medium : (a : ℕ) → at_address (list_of c newer_shapes) (lba a) ≡ Some 1 → is_recorded logEnd.disc (lba a) ≡ ltb a 32
  log-on-medium a e = kept.recorded c disc₀ start₀ logTurns log-admissible a ∙ log-recorded a e

  log-waiting : (a : ℕ) → at_address (list_of c newer_shapes) (lba a) ≡ Some 1 → pending_at logTurns disc₀ a ≡ among 32 3 a
  log-waiting a e =
      let k = account_of c logTurns newer_shapes in
      known-waiting c disc₀ start₀ logTurns log-admissible newer_shapes (newer_shapes_lem disc₀ l x j) a 1 e
      ∙ (ap (λ (b : ℕ). among (b + k.recorded) k.pending a) m.first
      ∙ (ap (λ (b : ℕ). among (0 + b) k.pending a) (m.newer_figures disc₀ l x j).0 ∙ ap (λ (b : ℕ). among 32 b a) (m.newer_figures disc₀ l x j).1))

  log-readable : (a : ℕ) → at_address (list_of c newer_shapes) (lba a) ≡ Some 1 → readable_at logTurns disc₀ a ≡ (ltb a 32 || among 32 3 a)
  log-readable a e =
      ap (λ (b : Bool). b || pending_at logTurns disc₀ a) (log-recorded a e) ∙ ap (λ (b : Bool). ltb a 32 || b) (log-waiting a e)

  some_read : (n : ℕ) → decode (reading_some ten 31 n x).cdb ≡ Read (lba 31) n → ReadOf (reading_some ten 31 n x) (lba 31) n
  unfolding fields
  some_read n e =
      let size = length-replicate {A = ℕ} (2048 * n) x in
      record { cdb = refl; command = e; payload = refl; room = omega (arith, size) }

  log-reads :
      (n : ℕ) → decode (reading_some ten 31 n x).cdb ≡ Read (lba 31) n → 1 ≤ n
      → (((i : ℕ) → i < n → readable_at logTurns disc₀ (31 + i) ≡ true) → (after_all logTurns disc₀ (after (j 7) (reading_some ten 31 n x))).answer ≡ Accepted)
      × ((after_all logTurns disc₀ (after (j 7) (reading_some ten 31 n x))).answer ≡ Accepted → (i : ℕ) → i < n → readable_at logTurns disc₀ (31 + i) ≡ true)
  log-reads n e some =
      let g = after (j 7) (reading_some ten 31 n x) in
      kept.readable c disc₀ start₀ logTurns log-admissible (turn g logEnd) (turn_alike g logEnd) (lba 31) n (some_read n e) some

  log-size : logEnd.disc.capacity ≡ c
  log-size = ap (λ (d : Disc). d.capacity) (known-disc c disc₀ start₀ logTurns log-admissible newer_shapes (newer_shapes_lem disc₀ l x j)) ∙ m.size

  up-to-last : (i : ℕ) → i < 4 → readable_at logTurns disc₀ (31 + i) ≡ true
  up-to-last zero h = log-readable 31 m.newer_places.2
  up-to-last (suc zero) h = log-readable 32 m.newer_places.3
  up-to-last (suc (suc zero)) h = log-readable 33 m.newer_places.4
  up-to-last (suc (suc (suc zero))) h = log-readable 34 m.newer_places.5
  up-to-last (suc (suc (suc (suc i)))) h = absurd (omega (arith, h))

  four-read : decode (reading_some ten 31 4 x).cdb ≡ Read (lba 31) 4
  unfolding decode read_opcode fields
  four-read = refl

  five-read : decode (reading_some ten 31 5 x).cdb ≡ Read (lba 31) 5
  unfolding decode read_opcode fields
  five-read = refl

  log-kept : Keeps (account 1 logTurns disc₀) (list_of c newer_shapes) 1
  log-kept =
      subst (λ (d : Disc). Keeps (account 1 logTurns disc₀) d 1)
      (known-disc c disc₀ start₀ logTurns log-admissible newer_shapes (newer_shapes_lem disc₀ l x j))
      (kept.keeps c disc₀ start₀ logTurns log-admissible 1 (omega arith))

  first-kept : Keeps (account 1 firstTurns disc₀) (list_of c earliest_shapes) 1
  first-kept =
      let h = given_admissible (earliest l j) disc₀ in
      subst (λ (d : Disc). Keeps (account 1 firstTurns disc₀) d 1) (known-disc c disc₀ start₀ firstTurns h earliest_shapes (earliest_shapes_lem disc₀ l j))
      (kept.keeps c disc₀ start₀ firstTurns h 1 (omega arith))

  reads : Reader l x firstTurns logTurns disc₀ (j 7)
  reads =
      let k = log-kept in
      let e = first-kept in
      let n = m.figures in
      let o = m.first_figures in
      record {
        early = read-early 1 (omega arith) ∙ (early-known 3 m.early_places.0 ∙ (m.early_content disc₀ l x j).0);
        second = read-early 5 (omega arith) ∙ (early-known 7 m.early_places.1 ∙ (m.early_content disc₀ l x j).1);
        across = read-early 15 (omega arith) ∙ (early-known 17 m.early_places.2 ∙ (m.early_content disc₀ l x j).2);
        last = read-late 1 (omega arith) ∙ (log-known 17 m.newer_places.0 ∙ (m.newer_content disc₀ l x j).0);
        zeroed = read-late 2 (omega arith) ∙ (log-known 18 m.newer_places.1 ∙ (m.newer_content disc₀ l x j).1);
        log = log-on-medium 17 m.newer_places.0;
        padding = log-on-medium 31 m.newer_places.2;
        beyond = log-on-medium 32 m.newer_places.3;
        waiting = kept.pending c disc₀ start₀ logTurns log-admissible 34 ∙ log-waiting 34 m.newer_places.5;
        ended = kept.pending c disc₀ start₀ logTurns log-admissible 35 ∙ log-waiting 35 m.newer_places.6;
        held =
            kept.held c disc₀ start₀ logTurns log-admissible 33 (log-waiting 33 m.newer_places.4)
            ∙ (log-known 33 m.newer_places.4 ∙ (m.newer_content disc₀ l x j).2);
        accepted = (log-reads 4 four-read (omega arith)).0 up-to-last;
        beyond_last = λ t. contradiction ((log-reads 5 five-read (omega arith)).1 t 4 (omega arith)) (log-readable 35 m.newer_places.6);
        refused =
            let g = after (j 7) (reading_some ten 31 5 x) in
            let least = leb-true 256 c (and_left (leb 256 c) (leb c 143444) m.range) in
            kept.blank c disc₀ start₀ logTurns log-admissible (turn g logEnd) (turn_alike g logEnd) (lba 31) 5 (some_read 5 five-read)
            (omega (arith, log-size, least)) 4 (omega arith) (log-readable 35 m.newer_places.6);
        served =
            λ r q e.
            let w = kept.lengths c disc₀ start₀ logTurns log-admissible (turn (after (j 7) r) logEnd) (turn_alike (after (j 7) r) logEnd) q e in
            (λ z. no_size (subst OwnLength z w), λ z. no_state (subst OwnLength z w));
        accepted_sectors = omega (arith, k.kept, k.within, k.recorded, k.zero_filled, k.pending, n.0, n.1, n.2);
        recorded_sectors = omega (arith, k.recorded, n.0);
        zero_sectors = k.zero_filled ∙ n.1;
        pending_sectors = k.pending ∙ n.2;
        first_sectors = omega (arith, e.kept, e.within, e.recorded, e.zero_filled, e.pending, o.0, o.1, o.2);
      }

-- the same by requests
module _ (c : ℕ) (m : Computed c) (back : ReadBack) (count : KeptAsListed) (history : RecordedByHistory) (f : Flash c) (l : Log) (x : ℕ) (j : ℕ → Change) where
  abbrev disc₁ : Drive
  disc₁ = blank_over c f

  abbrev start₁ : Start c disc₁
  start₁ = flash_start c f m.range

  abbrev turns₁ : List Turn
  turns₁ = given (newer l x j) disc₁

  abbrev end₁ : Drive
  end₁ = final turns₁ disc₁

  admissible₁ : Admissible turns₁ disc₁
  admissible₁ = given_admissible (newer l x j) disc₁

  -- the sequence around the second WRITE
  abbrev front₁ : List Given
  front₁ = after (j 0) (writing ten 0 5 (first_five l)) ∷ after (j 1) (asking x) ∷ []

  abbrev write₁ : Given
  write₁ = after (j 2) (writing twelve 5 13 (next_thirteen l))

  brought₁ : sector_at 7 (after_all turns₁ disc₁ (after (j 7) (reading ten 0 x))).reply ≡ sector_at 2 (next_thirteen l)
  unfolding given final answers replies decode read_opcode write_opcode fields
  brought₁ =
      let ts = given front₁ disc₁ in
      let w = turn write₁ (final ts disc₁) in
      let us = given (later l x j) (result w (final ts disc₁)).after in
      back.later c disc₁ start₁ ts w us admissible₁ (lba 5) 13 refl (newer-answer c m disc₁ start₁ l x j 2)
      (turn (after (j 7) (reading ten 0 x)) end₁) (turn_alike (after (j 7) (reading ten 0 x)) end₁) (lba 0) 16 refl
      (late_answers c m f 0 16 l x j m.late_answered.0) 2 7 (omega arith) (omega arith) refl

  -- the sectors of accepted WRITEs, by the answers
  bring : List Answer → List Written
  bring r =
      accepted_write (get_or r 0 Accepted) (writing ten 0 5 (first_five l)) ++ (accepted_write (get_or r 1 Accepted) (asking x)
      ++ (accepted_write (get_or r 2 Accepted) (writing twelve 5 13 (next_thirteen l)) ++ (accepted_write (get_or r 3 Accepted) (reading twelve 2 x)
      ++ (accepted_write (get_or r 4 Accepted) flushing ++ (accepted_write (get_or r 5 Accepted) (reading ten 32 x)
      ++ (accepted_write (get_or r 6 Accepted) (writing ten 32 3 l.six) ++ []))))))

  none₁ : sector_at 4 (after_all turns₁ disc₁ (after (j 7) (reading ten 16 x))).reply ≡ zeros 2048
  unfolding given final answers replies decode read_opcode write_opcode fields writes accepted_write write_of brought_to sole bring
  none₁ =
      back.back c disc₁ start₁ turns₁ admissible₁ (turn (after (j 7) (reading ten 16 x)) end₁) (turn_alike (after (j 7) (reading ten 16 x)) end₁) (lba 16) 16 refl
      (late_answers c m f 16 16 l x j m.late_answered.1) 4 (omega arith)
      ∙ ap (λ (r : List Answer). sole (brought_to 20 (bring r))) (newer-answers c m disc₁ start₁ l x j)

  -- pending sectors, by the last WRITE and by all of them
  waiting₁ : sector_at 1 (after_all turns₁ disc₁ (after (j 7) (reading_some ten 32 3 x))).reply ≡ sector_at 1 l.six
  unfolding given final answers replies decode read_opcode write_opcode fields
  waiting₁ =
      let front = front₁ ++ (write₁ ∷ after (j 3) (reading twelve 2 x) ∷ after (j 4) flushing ∷ after (j 5) (reading ten 32 x) ∷ []) in
      let ts = given front disc₁ in
      let w = turn (after (j 6) (writing ten 32 3 l.six)) (final ts disc₁) in
      let g = after (j 7) (reading_some ten 32 3 x) in
      back.later c disc₁ start₁ ts w [] admissible₁ (lba 32) 3 refl (newer-answer c m disc₁ start₁ l x j 6)
      (turn g end₁) (turn_alike g end₁) (lba 32) 3 refl (late_answers c m f 32 3 l x j m.late_answered.2) 1 1 (omega arith) (omega arith) refl

  waiting-last₁ : sector_at 2 (after_all turns₁ disc₁ (after (j 7) (reading_some ten 32 3 x))).reply ≡ sector_at 2 l.six
  unfolding given final answers replies decode read_opcode write_opcode fields writes accepted_write write_of brought_to sole bring
  waiting-last₁ =
      let g = after (j 7) (reading_some ten 32 3 x) in
      back.back c disc₁ start₁ turns₁ admissible₁ (turn g end₁) (turn_alike g end₁) (lba 32) 3 refl
      (late_answers c m f 32 3 l x j m.late_answered.2) 2 (omega arith)
      ∙ ap (λ (r : List Answer). sole (brought_to 34 (bring r))) (newer-answers c m disc₁ start₁ l x j)

  last-disc : end₁.disc ≡ list_of c newer_shapes
  last-disc = known-disc c disc₁ start₁ turns₁ admissible₁ newer_shapes (newer_shapes_lem disc₁ l x j)

  early-disc : (final (given (early l x j) disc₁) disc₁).disc ≡ list_of c early_shapes
  early-disc = known-disc c disc₁ start₁ (given (early l x j) disc₁) (given_admissible (early l x j) disc₁) early_shapes (early_shapes_lem disc₁ l x j)

  listed₁ : ListedKeeps (writes turns₁ disc₁) (list_of c newer_shapes) 1
  listed₁ =
      subst (λ (d : Disc). ListedKeeps (writes turns₁ disc₁) d 1) last-disc (count.keeps c disc₁ start₁ turns₁ admissible₁ 1 (omega arith))

  requested : Requested l x (given (early l x j) disc₁) turns₁ disc₁ (j 7)
  requested =
      let k = listed₁ in
      let n = m.figures in
      record {
        brought = brought₁;
        none = none₁;
        waiting = waiting₁;
        waiting_last = waiting-last₁;
        once = back.once c disc₁ start₁ turns₁ admissible₁ 7;
        listed =
            ap (λ (d : Disc). brought_into (extent_of d 1) (writes turns₁ disc₁)) last-disc
            ∙ omega (arith, k.kept, k.within, n.0, n.1, n.2);
        counted = sym (count.accepted c disc₁ start₁ turns₁ admissible₁ 1 (omega arith));
        held =
            sym (history.pending c disc₁ start₁ (given (early l x j) disc₁) (given_admissible (early l x j) disc₁))
            ∙ (ap (λ (d : Disc). d.pending) early-disc ∙ m.held.0);
        flushed =
            sym (history.recorded c disc₁ start₁ turns₁ admissible₁ 16)
            ∙ (ap (λ (d : Disc). is_recorded d (lba 16)) last-disc ∙ tail_recorded (list_of c newer_shapes) c 2 14 16 m.newer_list (omega arith));
        beyond =
            sym (history.recorded c disc₁ start₁ turns₁ admissible₁ 32)
            ∙ (ap (λ (d : Disc). is_recorded d (lba 32)) last-disc ∙ m.beyond);
        late =
            sym (history.pending c disc₁ start₁ turns₁ admissible₁) ∙ (ap (λ (d : Disc). d.pending) last-disc ∙ m.held.1);
        last_held =
            sym (history.waiting c disc₁ start₁ turns₁ admissible₁ 34)
            ∙ (ap (λ (d : Disc). is_pending d (lba 34)) last-disc ∙ m.held_last.0);
        past_held =
            sym (history.waiting c disc₁ start₁ turns₁ admissible₁ 35)
            ∙ (ap (λ (d : Disc). is_pending d (lba 35)) last-disc ∙ m.held_last.1);
        outside = history.stale c disc₁ start₁ turns₁ admissible₁;
        covered = history.admissible c disc₁ start₁;
        apart = history.apart c disc₁ start₁ turns₁ admissible₁;
        alike = history.alike c disc₁ start₁ turns₁ admissible₁;
      }

-- the first WRITE of any disc, in any parts
module _
    (demand : Demand3) (c : ℕ) (s e : Drive) (start : Start c s) (other : Start c e) (g : Given) (n : ℕ) (w : WriteOf g.request (lba 0) n)
    (fit : n ≤ 16 * c) (ks : List Portion) (several : 2 ≤ length ks) (sum : total ks ≡ n) (names : nameable 0 ks ≡ true) (hs : List Given)
    (asked : map (λ (h : Given). h.request) hs ≡ parts_of 0 ks g.request.payload)
  where
    taken : (result (turn g s) s).answer ≡ Accepted
    taken =
        let a = turn_alike g s in
        let found-start : Start c (found (turn g s) s) =
        record {
          range = start.range;
          disc = start.disc;
          medium = sym a.medium_length ∙ start.medium;
          pending = sym a.pending_length ∙ start.pending;
        } in
        wide.accepted c (found (turn g s) s) found-start g.request n w fit

    in_parts : (x : Drive) → CutOf g.request (requests (given hs x))
    in_parts x =
        subst (λ (qs : List Request). CutOf g.request qs) (sym (given-requests hs x ∙ asked))
        (parts_cut g.request (lba 0) n ks w several sum names)

    abbrev cut_again : Again s (turn g s ∷ []) (given hs e)
    cut_again = cut s (turn g s) [] (given hs e) [] (given hs e) taken (in_parts e) (ends _) (sym (append-nil (given hs e)))

    first-write : FirstWrite g hs s e
    unfolding final given Agreeing Admissible
    first-write =
        let r = demand.again c s e start other (turn g s ∷ []) (given hs e) (given_admissible (g ∷ []) s) (given_admissible hs e) cut_again in
        record {
          here = (demand.whole c s start [] tt (turn g s) (given hs s) (turn_alike g s) (given_admissible hs s) (in_parts s)).0 taken;
          there = r.0.0;
          blocks = r.0.1;
          disc = sym r.1.disc;
        }

-- the longest WRITEs, and what is none
limits : Demand3 → Limits
unfolding write_opcode longest fields
limits demand =
    record {
      by_ten = λ x h. demand.forms.each ten 4294967295 65535 (omega arith) (omega arith) x h;
      by_twelve = λ x h. demand.forms.each twelve 4294967295 4294967295 (omega arith) (omega arith) x h;
      of_bytes = (demand.forms.bytes ten 4294967295 65535, demand.forms.bytes twelve 4294967295 4294967295);
      opcodes = λ a n. (demand.forms.form ten a n, demand.forms.form twelve a n);
      no_longer_ten =
          λ b h o a e.
          elim (demand.forms.only b h a 65536 e) [ inl f ↦ (let n = f.count in omega arith) | inr f ↦ (let p = f.opcode in omega (arith, o, p)) ];
      no_longer =
          λ b h a e.
          elim (demand.forms.only b h a 4294967296 e) [ inl f ↦ (let n = f.count in omega arith) | inr f ↦ (let n = f.count in omega arith) ];
      no_further =
          λ b h n e.
          elim (demand.forms.only b h (lba 4294967296) n e) [ inl f ↦ (let a = f.address in omega arith) | inr f ↦ (let a = f.address in omega arith) ];
    }

-- all of them
drawn : (c : ℕ) → Computed c → Demand3 → KeptAccount → ReadBack → KeptAsListed → RecordedByHistory → CasesOn c
drawn c m demand kept back count history =
    record {
      controllers = two-controllers c m demand;
      exactly = byte_for_byte c m demand;
      stays = block_stays c m demand;
      fitting = fits c m demand;
      reader = reads c m kept;
      requested = requested c m back count history;
    }

pub cases : Cases
cases =
    record {
      limits = limits demand_3;
      smallest = drawn 256 computed.0 demand_3 kept_account read_back kept_as_listed recorded_by_history;
      largest = drawn 143444 computed.1 demand_3 kept_account read_back kept_as_listed recorded_by_history;
      everywhere = first-write demand_3;
    }
