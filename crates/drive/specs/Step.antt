-- One command: the link's tests of what is lent, the decision, and the bytes moved by its plan.
use Rattle.std.specs.Prelude.{ℕ, ◌+◌, ◌*◌, ◌/◌, ◌≤◌, Bool, cond, not, ◌&&◌, ◌≡◌, List, [], length, eqb}
use Rattle.drive.specs.Types.{Lba, Disc, Sense, Answer, Link, LinkRefusal, Reply, Plan, Keep, Decision, Verdict, Write, CommandBlockLength, MediumSize, Response, Outcome}
use Rattle.protocol.specs.Answer.{number}
use Rattle.protocol.specs.Command.{decode}
use Rattle.disc.specs.Verdict.{refuse_link, rise}
use Rattle.disc.specs.Apply.{changed}
use Rattle.commands.specs.Judge.{judge}
use Rattle.outcomes.specs.Lent.{FlushFits, TransferFits}
use Rattle.drive.specs.Bytes.{splice}
use Rattle.drive.specs.Reply.{sent_bytes, Sendable}
use Rattle.drive.specs.Moves.{moved_medium, moved_pending}

-- what the box holds from one command to the next
pub record Drive : Type 0 where
  pub disc : Disc
  pub medium : List ℕ
  pub pending : List ℕ

abbrev pub drive : Disc → List ℕ → List ℕ → Drive
drive d m p = record { disc = d; medium = m; pending = p }

-- what the cable delivers with a command: the command block, its data, and the reply buffer as it is lent
pub record Request : Type 0 where
  pub cdb : List ℕ
  pub payload : List ℕ
  pub buffer : List ℕ

abbrev pub request : List ℕ → List ℕ → List ℕ → Request
request b x r = record { cdb = b; payload = x; buffer = r }

-- what comes of it: the answer, the reply's bytes, the number of blocks recorded, the reply buffer and the drive afterwards
pub record Result : Type 0 where
  pub answer : Answer
  pub reply : List ℕ
  pub recorded : ℕ
  pub buffer : List ℕ
  pub after : Drive

-- the lent lengths that L2 tests: a medium of C whole blocks, a pending buffer of one block
abbrev pub lent : Disc → ℕ → ℕ → Bool
lent d mediumLent pendingLent = eqb mediumLent (32768 * d.capacity) && eqb pendingLent 32768

-- L1, then L2 of what is lent, then what the disc decides (the rest of L2, L3, L4 and the drive's refusals)
unfoldable pub verdict_on : Drive → Request → Verdict
verdict_on s q =
    cond (not (eqb (length q.cdb) 12)) (refuse_link s.disc CommandBlockLength)
    (cond (not (lent s.disc (length s.medium) (length s.pending))) (refuse_link s.disc MediumSize)
    (judge s.disc q.cdb (length q.payload) (length q.buffer)))

-- a verdict carried out
unfoldable pub carried_out : Verdict → Drive → Request → Result
carried_out v s q =
    let reply = sent_bytes v.plan.transfer v.reply s.medium s.pending in
    record {
      answer = v.answer;
      reply = reply;
      recorded = v.recorded;
      buffer = splice q.buffer 0 reply;
      after =
          drive v.disc (moved_medium v.plan s.medium s.pending q.payload) (moved_pending v.plan s.pending q.payload);
    }

unfoldable pub step : Drive → Request → Result
step s q = carried_out (verdict_on s q) s q

-- the result that has moved no byte: no reply, no block recorded, medium, pending buffer and reply buffer as they were
abbrev pub untouched : Drive → Request → Answer → Disc → Result
untouched s q a d =
    record { answer = a; reply = []; recorded = 0; buffer = q.buffer; after = drive d s.medium s.pending }

-- what the code that carries a decision out asks: what its plan asks of the lent buffers is there
pub record Feasible (p : Plan) (r : Reply) (payload medium pending buffer : List ℕ) : Type 0 where
  pub sends : Sendable medium pending p.transfer r (length buffer)
  pub block : length pending ≡ 32768
  pub flush : FlushFits (length medium) p.flush
  pub transfer : TransferFits (length medium) (length payload) p.transfer

-- the outcome by value: of a decision whose reply has so many bytes, and of a link refusal before any decision
abbrev pub outcome : Decision → ℕ → Outcome
outcome d n = record { answer = d.answer; change = d.change; length = n; recorded = d.recorded }

abbrev pub declined : Sense → LinkRefusal → Outcome
declined s r = record { answer = Link r; change = record { sense = s; effect = Keep }; length = 0; recorded = 0 }

-- the promise of that code: the outcome, and medium, pending buffer and reply buffer afterwards
pub record CarriedOut (d : Decision) (payload medium pending buffer : List ℕ) (r : Outcome) (medium₁ pending₁ buffer₁ : List ℕ) : Type 0 where
  pub responds : r ≡ outcome d (length (sent_bytes d.plan.transfer d.reply medium pending))
  pub recorded_medium : medium₁ ≡ moved_medium d.plan medium pending payload
  pub kept_pending : pending₁ ≡ moved_pending d.plan pending payload
  pub filled_buffer : buffer₁ ≡ splice buffer 0 (sent_bytes d.plan.transfer d.reply medium pending)

-- the promise of the code that answers a command: all of it is the step's
pub record Answered (s : Drive) (q : Request) (r : Response) (medium pending buffer : List ℕ) : Type 0 where
  pub answer : r.answer ≡ (step s q).answer
  pub numbered : number r.answer ≡ number (step s q).answer
  pub disc : r.disc ≡ (step s q).after.disc
  pub length : r.length ≡ length (step s q).reply
  pub recorded : r.recorded ≡ (step s q).recorded
  pub recorded_medium : medium ≡ (step s q).after.medium
  pub kept_pending : pending ≡ (step s q).after.pending
  pub filled_buffer : buffer ≡ (step s q).buffer
  -- the number of blocks recorded is the rise of the recorded blocks of all fragments, and for a WRITE of n at most 1 + n/16
  pub risen : r.recorded ≡ rise s.disc r.disc
  pub bounded : (a : Lba) (n : ℕ) → decode q.cdb ≡ Write a n → r.recorded ≤ 1 + n / 16

-- the response that an outcome stands for: its change applied to the disc
abbrev pub response_of : Disc → Outcome → Response
response_of d r = record { answer = r.answer; disc = changed d r.change; length = r.length; recorded = r.recorded }

-- the promise of the code that serves a command and leaves the change to its caller
abbrev pub AnsweredByChange : Drive → Request → Outcome → List ℕ → List ℕ → List ℕ → Type 0
AnsweredByChange s q r medium pending buffer = Answered s q (response_of s.disc r) medium pending buffer
