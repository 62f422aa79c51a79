-- The functions of the C face: a state image and lent buffers in place of the disc by value.
use Rattle.std.specs.Prelude.{ℕ, ◌*◌, Bool, cond, not, ◌&&◌, ◌||◌, ◌≡◌, List, length, eqb, ltb}
use Rattle.protocol.specs.Answer.{number}
use Rattle.disc.specs.Blank.{in_range, made}
use Rattle.drive.specs.Step.{drive, Request, Result, step}
use Rattle.gladhamre.specs.Types.{LinkRefusal, CommandBlockLength, MediumSize, UnsoundState, Accepted, Link}
use Rattle.gladhamre.specs.Image.{image_length, word, encode, decode, is_state}

-- what firmware lends with a command, beside the request: the image and the two buffers
pub record Lent : Type 0 where
  pub state : List ℕ
  pub medium : List ℕ
  pub pending : List ℕ

abbrev pub lending : List ℕ → List ℕ → List ℕ → Lent
lending w m p = record { state = w; medium = m; pending = p }

-- what comes of a command: the answer's number, the reply's length, the blocks recorded, and what the buffers hold then
pub record Outcome : Type 0 where
  pub number : ℕ
  pub count : ℕ
  pub recorded : ℕ
  pub state : List ℕ
  pub medium : List ℕ
  pub pending : List ℕ
  pub buffer : List ℕ

-- a link refusal writes nothing
abbrev pub refused_face : Lent → Request → LinkRefusal → Outcome
refused_face l q r =
    record {
      number = number (Link r);
      count = 0;
      recorded = 0;
      state = l.state;
      medium = l.medium;
      pending = l.pending;
      buffer = q.buffer;
    }

-- the numbers of L1 to L4
abbrev pub is_link : ℕ → Bool
is_link n = not (eqb n 0) && ltb n 5

-- a step, with the image written unless it is a link refusal
unfoldable pub stepped_face : List ℕ → Result → Outcome
stepped_face w r =
    record {
      number = number r.answer;
      count = length r.reply;
      recorded = r.recorded;
      state = cond (is_link (number r.answer)) w (encode r.after.disc);
      medium = r.after.medium;
      pending = r.after.pending;
      buffer = r.buffer;
    }

-- L2 of an image whose C can be read: C in range, a medium of C whole blocks; and the pending buffer
abbrev pub lent_fits : List ℕ → ℕ → ℕ → Bool
lent_fits w mediumLent pendingLent =
    (eqb (length w) 0 || (in_range (word w 0) && eqb mediumLent (32768 * word w 0))) && eqb pendingLent 32768

-- L1, then L2 as far as it can be told, then L3 for words that are no state, then the step of the state
unfoldable pub face : Lent → Request → Outcome
face l q =
    cond (not (eqb (length q.cdb) 12)) (refused_face l q CommandBlockLength)
    (cond (not (lent_fits l.state (length l.medium) (length l.pending))) (refused_face l q MediumSize)
    (cond (not (is_state l.state)) (refused_face l q UnsoundState)
    (stepped_face l.state (step (drive (decode l.state) l.medium l.pending) q))))

-- the promise of the function that answers a command
pub record Faced (l : Lent) (q : Request) (n count recorded : ℕ) (state medium pending buffer : List ℕ) : Type 0 where
  pub numbered : n ≡ (face l q).number
  pub counted : count ≡ (face l q).count
  pub recorded_blocks : recorded ≡ (face l q).recorded
  pub written_state : state ≡ (face l q).state
  pub recorded_medium : medium ≡ (face l q).medium
  pub kept_pending : pending ≡ (face l q).pending
  pub filled_buffer : buffer ≡ (face l q).buffer

-- the image that `blank` leaves, and its number: the state that is made; an image of a wrong length stays, and is L3 where C is in
-- range
unfoldable pub blank_state : ℕ → List ℕ → List ℕ
blank_state c w = cond (eqb (length w) image_length) (encode (made c).disc) w

unfoldable pub blank_number : ℕ → List ℕ → ℕ
blank_number c w = cond (in_range c) (cond (eqb (length w) image_length) (number Accepted) (number (Link UnsoundState))) (number (Link MediumSize))

-- the promise of the function that makes a blank disc
pub record BlankFaced (c : ℕ) (w : List ℕ) (n : ℕ) (state : List ℕ) : Type 0 where
  pub numbered : n ≡ blank_number c w
  pub written_state : state ≡ blank_state c w
