-- The C face: its tests in order, and the promise from what each part of the code leaves.
use mathlib.Core.Path.{◌≡◌, refl, sym, ap, ◌∙◌}
use mathlib.Core.Bool.{true, false, cond}
use Prim.Native.Nat.{ℕ, ◌≤◌}
use native.Mathlib.Omega.{arith}
use Rattle.std.proofs.lemmas.Bool.Decides.{nat_tests}
use borrow.Author.Tests.{eq-eqb, ne_eqb}
use mathlib.Core.List.{List}
use lib.ListN.{length}
use Rattle.protocol.specs.Answer.{number}
use Rattle.disc.specs.Blank.{in_range, Blanked}
use Rattle.fragments.proofs.Laws.Bool.{by_cases}
use Rattle.commands.specs.Judge.{judge, judge_command}
use Rattle.disc.specs.Sound.{allowed_state}
use Rattle.drive.specs.Step.{drive, Request, lent, declined, response_of, Answered, AnsweredByChange}
use Rattle.drive.proofs.Laws.Step.{verdict-judge, declined-served}
use Rattle.drive.proofs.Laws.Alike.{step_link}
use Rattle.gladhamre.specs.Types.{Blank, Response, LinkRefusal, CommandBlockLength, MediumSize, UnsoundState, TransferLength, Answer, Accepted, Link, Drive, DriveRefusal, InvalidOperationCode, WriteProtected, InvalidFieldInCommand, AddressOutOfRange, BlankCheck, InvalidAddressForWrite, IncompleteTrackInSession, EmptyTrack, NoMoreReservations, EndOfUserArea}
use Rattle.std.specs.Prelude.{None}
use Rattle.gladhamre.specs.Image.{image_length, word, encode, decode, is_state}
use Rattle.gladhamre.specs.Used.{words_of}
use Rattle.gladhamre.specs.Face.{Lent, lent_fits, is_link, refused_face, stepped_face, face, Faced, blank_state, blank_number, BlankFaced}
use Rattle.gladhamre.proofs.Laws.Image.{state-words}
use Rattle.gladhamre.proofs.Laws.Used.{unsound-words}

-- a link refusal is told from its number
pub link_is : (x : LinkRefusal) → is_link (number (Link x)) ≡ true
link_is CommandBlockLength = refl
link_is MediumSize = refl
link_is UnsoundState = refl
link_is TransferLength = refl

pub drive_number : (x : DriveRefusal) → 5 ≤ number (Drive x)
drive_number InvalidOperationCode = omega arith
drive_number WriteProtected = omega arith
drive_number InvalidFieldInCommand = omega arith
drive_number AddressOutOfRange = omega arith
drive_number BlankCheck = omega arith
drive_number InvalidAddressForWrite = omega arith
drive_number IncompleteTrackInSession = omega arith
drive_number EmptyTrack = omega arith
drive_number NoMoreReservations = omega arith
drive_number EndOfUserArea = omega arith

pub no-link : (a : Answer) → ((x : LinkRefusal) → a ≡ Link x → ⊥) → is_link (number a) ≡ false
no-link Accepted h = refl
no-link (Link x) h = absurd (h x refl)
no-link (Drive x) h = let most = drive_number x in grind (arith, nat_tests)

pub refused_number : (a : Answer) → (a ≡ Accepted → ⊥) → number a ≡ 0 → ⊥
refused_number Accepted h e = h refl
refused_number (Link CommandBlockLength) h e = omega arith
refused_number (Link MediumSize) h e = omega arith
refused_number (Link UnsoundState) h e = omega arith
refused_number (Link TransferLength) h e = omega arith
refused_number (Drive x) h e = omega (arith, drive_number x)

-- making a blank disc
module _ (c : ℕ) (w : List ℕ) (b : Blank) (n : ℕ) (made : Blanked c b) (told : n ≡ number b.answer) where
  pub blank-whole : (state : List ℕ) → length w ≡ image_length → state ≡ encode b.disc → BlankFaced c w n state
  unfolding blank_number blank_state
  blank-whole state h e =
      let t = eq-eqb (length w) image_length h in
      record {
        numbered = rw t (told ∙ made.numbered);
        written_state = rw t (e ∙ ap (λ x. encode x.disc) made.result);
      }

  module _ (h : length w ≡ image_length → ⊥) where
    pub blank-bad : (n ≡ 0 → ⊥) → BlankFaced c w n w
    unfolding blank_number blank_state
    blank-bad z =
        let t = ne_eqb (length w) image_length h in
        by_cases (in_range c)
        (λ r. absurd (z (told ∙ (made.numbered ∙ rw r))))
        (λ r. record { numbered = rw (t, r) (told ∙ (made.numbered ∙ rw r)); written_state = rw t })

    pub blank-short : (m : ℕ) → n ≡ 0 → m ≡ number (Link UnsoundState) → BlankFaced c w m w
    unfolding blank_number blank_state
    blank-short m z e =
        let t = ne_eqb (length w) image_length h in
        by_cases (in_range c)
        (λ r. record { numbered = rw (t, r) e; written_state = rw t })
        (λ r. let k : n ≡ 2 = told ∙ (made.numbered ∙ rw r) in absurd (omega arith))

-- what is lent with an image of the right length: C in range, and the buffers that go with it
record Fitting (w : List ℕ) (m p : ℕ) : Type 0 where
  range : in_range (word w 0) ≡ true
  buffers : lent (decode w) m p ≡ true

lent_fits_lem : (w : List ℕ) (m p : ℕ) → length w ≡ image_length → lent_fits w m p ≡ true → Fitting w m p
unfolding decode
lent_fits_lem w m p whole t =
    record { range = grind (arith, nat_tests); buffers = grind (arith, nat_tests) }

-- the tests of a command, in order
module _ (l : Lent) (q : Request) where
  refused-faced : (x : LinkRefusal) (n : ℕ) → face l q ≡ refused_face l q x → n ≡ number (Link x) → Faced l q n 0 0 l.state l.medium l.pending q.buffer
  refused-faced x n e told =
      record {
        numbered = told ∙ sym (ap (λ o. o.number) e);
        counted = sym (ap (λ o. o.count) e);
        recorded_blocks = sym (ap (λ o. o.recorded) e);
        written_state = sym (ap (λ o. o.state) e);
        recorded_medium = sym (ap (λ o. o.medium) e);
        kept_pending = sym (ap (λ o. o.pending) e);
        filled_buffer = sym (ap (λ o. o.buffer) e);
      }

  pub block-faced : (n : ℕ) → (length q.cdb ≡ 12 → ⊥) → n ≡ number (Link CommandBlockLength) → Faced l q n 0 0 l.state l.medium l.pending q.buffer
  unfolding face
  block-faced n h told = refused-faced CommandBlockLength n (rw (ne_eqb (length q.cdb) 12 h)) told

  module _ (block : length q.cdb ≡ 12) where
    pub lent-faced :
        (n : ℕ) → lent_fits l.state (length l.medium) (length l.pending) ≡ false → n ≡ number (Link MediumSize)
        → Faced l q n 0 0 l.state l.medium l.pending q.buffer
    unfolding face
    lent-faced n h told = refused-faced MediumSize n (rw (eq-eqb (length q.cdb) 12 block, h)) told

    module _ (lent : lent_fits l.state (length l.medium) (length l.pending) ≡ true) where
      -- what the entry answers, and the image written unless that is a link refusal
      pub step-faced :
          (r : Response) (n count recorded : ℕ) (state medium pending buffer : List ℕ) → is_state l.state ≡ true
          → Answered (drive (decode l.state) l.medium l.pending) q r medium pending buffer → n ≡ number r.answer
          → count ≡ r.length → recorded ≡ r.recorded → state ≡ cond (is_link n) l.state (encode r.disc)
          → Faced l q n count recorded state medium pending buffer
      unfolding face stepped_face
      step-faced r n count recorded state medium pending buffer h a told c k w =
          let t = eq-eqb (length q.cdb) 12 block in
          let same = told ∙ a.numbered in
          record {
            numbered = rw (t, lent, h) same;
            counted = rw (t, lent, h) (c ∙ a.length);
            recorded_blocks = rw (t, lent, h) (k ∙ a.recorded);
            written_state = rw (t, lent, h) (w ∙ rw (same, a.disc));
            recorded_medium = rw (t, lent, h) a.recorded_medium;
            kept_pending = rw (t, lent, h) a.kept_pending;
            filled_buffer = rw (t, lent, h) a.filled_buffer;
          }

      -- a link refusal of the entry
      pub link-faced :
          (r : Response) (x : LinkRefusal) (medium pending buffer : List ℕ) → is_state l.state ≡ true
          → Answered (drive (decode l.state) l.medium l.pending) q r medium pending buffer → r.answer ≡ Link x
          → Faced l q (number (Link x)) 0 0 l.state medium pending buffer
      link-faced r x medium pending buffer h a e =
          let s = drive (decode l.state) l.medium l.pending in
          let same = step_link s q x (sym a.answer ∙ e) in
          step-faced r (number (Link x)) 0 0 l.state medium pending buffer h a (ap number (sym e))
          (sym (a.length ∙ ap (λ z. length z.reply) same)) (sym (a.recorded ∙ ap (λ z. z.recorded) same)) (rw (link_is x))

      state-faced :
          (n : ℕ) → is_state l.state ≡ false → n ≡ number (Link UnsoundState)
          → Faced l q n 0 0 l.state l.medium l.pending q.buffer
      unfolding face
      state-faced n h told = refused-faced UnsoundState n (rw (eq-eqb (length q.cdb) 12 block, lent, h)) told

      -- words that are not taken: no state's, or L3 of the entry
      unsound-served :
          length l.state ≡ image_length → allowed_state (decode l.state) ≡ false
          → AnsweredByChange (drive (decode l.state) l.medium l.pending) q (declined (decode l.state).sense UnsoundState) l.medium l.pending q.buffer
      unfolding judge judge_command decode
      unsound-served whole a =
          let w = l.state in
          let s = drive (decode w) l.medium l.pending in
          let fits = lent_fits_lem w (length l.medium) (length l.pending) whole lent in
          declined-served s q UnsoundState _
          (sym (rw (eq-eqb (length q.cdb) 12 block, fits.range, a)) ∙ verdict-judge s q block fits.buffers) refl

      pub unsound-faced :
          (n : ℕ) → words_of l.state ≡ None → n ≡ number (Link UnsoundState)
          → Faced l q n 0 0 l.state l.medium l.pending q.buffer
      unsound-faced n e told =
          by_cases (is_state l.state)
          (λ t.
          step-faced (response_of (decode l.state) (declined (decode l.state).sense UnsoundState)) n 0 0 l.state l.medium l.pending q.buffer t
          (unsound-served (state-words l.state t).0 (unsound-words l.state e t)) told refl refl (rw told))
          (λ t. state-faced n t told)
