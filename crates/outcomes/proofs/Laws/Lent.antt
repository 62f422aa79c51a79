-- What the plan of a decision asks of the lent buffers is there; what a plan sends of the medium is the recorded run of its block.
use Prim.Native.Nat.{ℕ, ◌*◌, ◌^◌, ◌≤◌, ◌<◌}
use mathlib.Core.Path.{◌≡◌}
use mathlib.Core.Bool.{true}
use mathlib.Core.List.{List}
use native.Mathlib.Omega.{arith}
use borrow.Author.Tests.{eq-eqb, eqb-true, leb-true}
use lib.Dec.{eqb}
use lib.ListN.{length}
use Rattle.outcomes.specs.Types.{Lba, Disc, Flush, Option, Transfer, Send, Verdict, Command}
use Rattle.protocol.specs.Command.{decode}
use Rattle.disc.specs.Rules.{Sound}
use Rattle.disc.specs.Blank.{in_range}
use Rattle.disc.specs.Ready.{Ready}
use Rattle.protocol.specs.Lengths.{data_length, reply_room, lengths_fit}
use Rattle.protocol.specs.Reply.{said}
use Rattle.outcomes.specs.Lent.{FlushFits, TransferFits, RunFits, Fits}
use Rattle.disc.specs.Verdict.{refuse_link}
use Rattle.commands.specs.Judge.{perform, judge}
use Rattle.decisions.specs.Run.{stretch, sent}
use Rattle.outcomes.specs.Run.{served, recorded_run}
use Rattle.fragments.proofs.Laws.Bool.{and_both, and_left, and_right}
use Rattle.disc.proofs.Laws.Rules.{sound-rules}
use Rattle.outcomes.proofs.Laws.Plan.{Flushed, skips, records, Moved, nothing, sends, gathers, fills, unrecorded-inside}
use Rattle.outcomes.proofs.Laws.Outcome.{outcome_placed, outcome_room}
use Rattle.commands.proofs.Laws.Judge.{allowed_ready}
use Rattle.outcomes.proofs.Laws.Judge.{allowed-outcome, Decided, on_link, by_drive, judge-decided}

flush-fits : (d : Disc) (f : Option Flush) (m : ℕ) → Sound d → m ≡ 32768 * d.capacity → Flushed d f → FlushFits m f
flush-fits d f m s e skips = tt
flush-fits d f m s e (records b n some few u) = (some, few, omega (arith, unrecorded-inside d s b.0 1 u, e))

-- what L4 lets through
data_fits : (c : Command) (n m : ℕ) → lengths_fit c n m ≡ true → n ≡ data_length c
unfolding lengths_fit
data_fits c n m l = eqb-true _ _ (and_left (eqb n (data_length c)) _ l)

reply_fits : (c : Command) (n m : ℕ) → lengths_fit c n m ≡ true → reply_room c ≤ m
unfolding lengths_fit
reply_fits c n m l = leb-true _ _ (and_right (eqb n (data_length c)) _ l)

-- a block's number fits 32 bits
block-fits : (d : Disc) (b : ℕ) → in_range d.capacity ≡ true → b ≤ d.capacity → b < 2 ^ 32
block-fits d b r h = grind arith

transfer_fits :
    (d : Disc) (c : Command) (t : Transfer) (k n m : ℕ) → Ready d → k ≡ 32768 * d.capacity → lengths_fit c n m ≡ true → Moved d c t
    → TransferFits k n t × RunFits m t
unfolding data_length reply_room
transfer_fits d c t k n m r e l nothing = (tt, tt)
transfer_fits d c t k n m r e l (sends a x y i j q h w) =
    let room = reply_fits c n m l in
    let whole : 2048 * x ≤ m = rw q at room in
    ((omega (arith, e, h, w.whole), w.within), omega (arith, whole, w.whole))
transfer_fits d c t k n m r e l (gathers a b p x q few u) =
    let given = data_fits c n m l in
    let inside = unrecorded-inside d (sound-rules d r.sound) b.0 _ u in
    ((few, rw q at given, block-fits d _ r.range inside, omega (arith, inside, e)), tt)
transfer_fits d c t k n m r e l (fills b x u) =
    let inside = unrecorded-inside d (sound-rules d r.sound) b.0 x u in
    ((block-fits d _ r.range inside, omega (arith, inside, e)), tt)

-- what a decision asks of the lent buffers is there
pub decided-fits :
    {c : Command} {n m : ℕ} (d : Disc) (k : ℕ) (v : Verdict) → k ≡ 32768 * d.capacity → Decided d c n m v → Fits k n m v
unfolding refuse_link said
decided-fits d k v e (on_link x) = record { flush = tt; transfer = tt; run = tt; report = omega arith; whole = omega arith }
decided-fits {c} {n} {m} d k v e (by_drive r a l) =
    let o = allowed-outcome d c r a in
    let ready = allowed_ready d r a in
    let p = outcome_placed d c _ o in
    let room = outcome_room d c _ o in
    let t = transfer_fits d c (perform d c).plan.transfer k n m ready e l p.moved in
    record {
      flush = flush-fits d (perform d c).plan.flush k (sound-rules d ready.sound) e p.flushed;
      transfer = t.0;
      run = t.1;
      report = omega (arith, room.fits, reply_fits c n m l);
      whole = room.whole;
    }

pub judge-fits :
    (d : Disc) (b : List ℕ) (k n m : ℕ) → k ≡ 32768 * d.capacity → Fits k n m (judge d b n m)
judge-fits d b k n m e = decided-fits d k (judge d b n m) e (judge-decided d b n m)

-- a plan that sends is a READ's, so on a medium of whole blocks the recorded run of its block is what it sends of that
decided-run :
    {n m : ℕ} (d : Disc) (b medium : List ℕ) (a : Lba) (k i p : ℕ) (v : Verdict) → length b ≡ 12 → length medium ≡ 32768 * d.capacity
    → Decided d (decode b) n m v → v.plan.transfer ≡ Send a k i p → recorded_run d b medium ≡ stretch a.0 k medium
unfolding refuse_link recorded_run sent
decided-run d b medium a k i p v lb lm (on_link x) e = absurd (let z : ◌≡◌ {A = ℕ} 0 1 = cc in omega arith)
decided-run d b medium a k i p v lb lm (by_drive r s l) e =
    let t : served d (length b) (length medium) ≡ true =
    and_both (and_both (and_both (eq-eqb _ _ lb) r) (eq-eqb _ _ lm)) s in
    rw (t, e)

pub judge-run :
    (d : Disc) (b medium : List ℕ) (n m : ℕ) (a : Lba) (k i p : ℕ) → length b ≡ 12 → length medium ≡ 32768 * d.capacity
    → (judge d b n m).plan.transfer ≡ Send a k i p → recorded_run d b medium ≡ stretch a.0 k medium
judge-run d b medium n m a k i p lb lm e = decided-run d b medium a k i p (judge d b n m) lb lm (judge-decided d b n m) e
