-- The blocks that a plan records: inside one fragment each time, after its recorded blocks, so never recorded before.
use Prim.Native.Nat.{ℕ, ◌+◌, ◌*◌, ◌-◌, ◌/◌, ◌≤◌, ◌<◌}
use mathlib.Core.Path.{◌≡◌, refl}
use mathlib.Core.Bool.{true}
use native.Mathlib.Omega.{arith}
use borrow.Author.Tests.{eqb-false, eqb-true}
use lib.Dec.{eqb}
use Rattle.outcomes.specs.Types.{Block, Lba, Disc, Flush, Option, None, Some, Transfer, Nothing, Send, Gather, Fill, Plan, Command, Read, Write}
use Rattle.fragments.specs.Address.{first_sector, sectors_in}
use Rattle.fragments.specs.Fragment.{end, first_unrecorded}
use Rattle.disc.specs.Records.{pending_in, used, numbered, is_recorded}
use Rattle.disc.specs.Rules.{at, Sound}
use Rattle.disc.specs.Ready.{Ready}
use Rattle.decisions.specs.Plan.{no_plan, plan}
use Rattle.commands.specs.Read.{all_readable, sending}
use Rattle.commands.specs.Flush.{flush, flush_plan}
use Rattle.commands.specs.Write.{flush_others_plan, Writable}
use Rattle.outcomes.specs.Recorded.{among, flushes, transfers, records_block}
use Rattle.outcomes.proofs.Laws.Recorded.{among-from, among_below}
use Rattle.fragments.proofs.Laws.Bool.{cond_cases, contradiction, or_cases}
use Rattle.fragments.proofs.Laws.Numbers.{order_cases}
use Rattle.disc.proofs.Laws.Rules.{sound-rules}
use Rattle.disc.proofs.Laws.Sound.{starts-rise, pending-in-few}
use Rattle.disc.proofs.Laws.Readable.{recorded-cases, recorded-from, recorded-below}
use Rattle.commands.proofs.Laws.Read.{Shared, shared}
use Rattle.commands.proofs.Laws.Flush.{owner, flush_grows, flush-sound, flush-used}
use Rattle.decisions.specs.Plan.{recording}

-- k blocks from block b on lie in one fragment, after its recorded blocks
pub record Unrecorded (d : Disc) (b k : ℕ) : Type 0 where
  pub index : ℕ
  pub listed : index < used d
  pub from : (first_unrecorded (at d index)).0 ≤ b
  pub to : b + k ≤ (end (at d index)).0

module _ (d : Disc) (s : Sound d) (b k : ℕ) (u : Unrecorded d b k) where
  -- so they lie inside the medium
  pub unrecorded-inside : b + k ≤ d.capacity
  unrecorded-inside = omega (arith, u.to, s.ends u.index u.listed)

  -- and none of their sectors is recorded
  pub unrecorded-blank : (a : Lba) → 16 * b ≤ a.0 → a.0 < 16 * (b + k) → is_recorded d a ≡ true → ⊥
  unrecorded-blank a h l t =
      recorded-cases d a
      (λ j lj held.
      let i = u.index in
      let from = recorded-from a (at d j) held in
      let below = recorded-below a (at d j) held in
      order_cases i j
      (λ less. omega (arith, starts-rise d s i j less lj, from, l, u.to))
      (λ same. let here : (first_unrecorded (at d j)).0 ≤ b = rw same at u.from in omega (arith, here, below, h))
      (λ more. omega (arith, starts-rise d s j i more u.listed, s.recorded j lj, below, h, u.from)))
      t

-- the pending block, which has 1 to 15 sectors
pub data Flushed (d : Disc) : Option Flush → Type 0 where
  skips : Flushed d None
  records : (b : Block) (n : ℕ) → 1 ≤ n → n < 16 → Unrecorded d b.0 1 → Flushed d (Some (recording b n))

-- only a READ sends, readable sectors, and only a WRITE gathers, each its own
pub data Moved (d : Disc) (c : Command) : Transfer → Type 0 where
  nothing : Moved d c Nothing
  sends :
      (a : Lba) (n m i k : ℕ) → c ≡ Read a n → a.0 + n ≤ sectors_in d.capacity → Shared d a n m i k
      → Moved d c (Send a m i k)
  gathers :
      (a : Lba) (b : Block) (held n : ℕ) → c ≡ Write a n → held < 16 → Unrecorded d b.0 ((held + n) / 16) → Moved d c (Gather b held n)
  fills : (b : Block) (k : ℕ) → Unrecorded d b.0 k → Moved d c (Fill b k)

-- every block that the plan of a command records was unrecorded before
pub record Placed (d : Disc) (c : Command) (p : Plan) : Type 0 where
  pub flushed : Flushed d p.flush
  pub moved : Moved d c p.transfer

pub placed_none : (d : Disc) (c : Command) → Placed d c no_plan
placed_none d c = record { flushed = skips; moved = nothing }

pub placed_send :
    (d : Disc) (a : Lba) (n : ℕ) → Sound d → (n ≡ 0 → ⊥) → a.0 + n ≤ sectors_in d.capacity → all_readable d a n ≡ true
    → Placed d (Read a n) (plan None (sending d a n))
unfolding sending
placed_send d a n s z h t = record { flushed = skips; moved = sends a n _ _ _ refl h (shared d s a n z t) }

flush_placed : (d : Disc) → Ready d → Flushed d (flush_plan d)
unfolding flush_plan
flush_placed d r =
    cond_cases (Flushed d) (eqb d.pending 0) _ _ (λ z. skips)
    (λ z.
    let o = owner d r (eqb-false _ _ z) in
    records _ _ (some d.pending (eqb-false _ _ z)) (sound-rules d r.sound).few
    (record {
      index = d.owner - 1;
      listed = omega (arith, o.number, o.listed);
      from = omega arith;
      to = omega (arith, o.room);
    }))
  where
    some : (n : ℕ) → (n ≡ 0 → ⊥) → 1 ≤ n
    some n z = omega arith

pub placed_flush : (d : Disc) (c : Command) → Ready d → Placed d c (plan (flush_plan d) Nothing)
placed_flush d c r = record { flushed = flush_placed d r; moved = nothing }

pub placed_gather :
    (d : Disc) (a : Lba) (number n : ℕ) → Ready d → Writable d a number → a.0 + n ≤ (first_sector (end (numbered d number))).0
    → Placed d (Write a n) (plan (flush_others_plan d number) (Gather (first_unrecorded (numbered d number)) (pending_in d number) n))
unfolding flush_others_plan
placed_gather d a number n r w fits =
    record {
      flushed = cond_cases (Flushed d) (eqb d.owner number) _ _ (λ e. skips) (λ e. flush_placed d r);
      moved =
          gathers a (first_unrecorded (numbered d number)) (pending_in d number) n refl (pending-in-few d (sound-rules d r.sound) number)
          (record {
            index = number - 1;
            listed = omega (arith, w.from, w.listed);
            from = omega arith;
            to = omega (arith, w.here, fits);
          });
    }

pub placed_fill :
    (d : Disc) (c : Command) (n : ℕ) → Ready d → 1 ≤ n → n ≤ used (flush d)
    → Placed d c (plan (flush_plan d) (Fill (first_unrecorded (numbered (flush d) n)) ((numbered (flush d) n).length - (numbered (flush d) n).recorded)))
placed_fill d c n r from to =
    let g = flush_grows d r in
    let s = flush-sound d r in
    let here : n - 1 < used (flush d) = omega arith in
    record {
      flushed = flush_placed d r;
      moved =
          fills (first_unrecorded (numbered (flush d) n)) ((numbered (flush d) n).length - (numbered (flush d) n).recorded)
          (record {
            index = n - 1;
            listed = omega (arith, flush-used d r, here);
            from = omega (arith, g.start (n - 1), g.more (n - 1));
            to = omega (arith, g.start (n - 1), g.size (n - 1), s.recorded (n - 1) here);
          });
    }

-- what a plan sends is shared out so
pub moved_sends : {P : Type 0} (d : Disc) (c : Command) (a : Lba) (m i k : ℕ) → ((n : ℕ) → Shared d a n m i k → P) → Moved d c (Send a m i k) → P
moved_sends d c a m i k p (sends x n y j l q h w) = p n w

-- no block that a plan records has a recorded sector
flush_fresh : (d : Disc) (f : Option Flush) (a : Lba) → Sound d → Flushed d f → flushes f (a.0 / 16) ≡ true → is_recorded d a ≡ true → ⊥
unfolding flushes
flush_fresh d f a s skips t r = contradiction t refl
flush_fresh d f a s (records b n some few u) t r =
    let e = eqb-true (a.0 / 16) b.0 t in unrecorded-blank d s b.0 1 u a (omega (arith, e)) (omega (arith, e)) r

among_fresh : (d : Disc) (b n : ℕ) (a : Lba) → Sound d → Unrecorded d b n → among b n (a.0 / 16) ≡ true → is_recorded d a ≡ true → ⊥
among_fresh d b n a s u t r =
    unrecorded-blank d s b n u a (omega (arith, among-from b n (a.0 / 16) t)) (omega (arith, among_below b n (a.0 / 16) t)) r

transfer_fresh : (d : Disc) (c : Command) (t : Transfer) (a : Lba) → Sound d → Moved d c t → transfers t (a.0 / 16) ≡ true → is_recorded d a ≡ true → ⊥
unfolding transfers
transfer_fresh d c t a s nothing k r = contradiction k refl
transfer_fresh d c t a s (sends x n m i j q h w) k r = contradiction k refl
transfer_fresh d c t a s (gathers x b held n q few u) k r = among_fresh d b.0 ((held + n) / 16) a s u k r
transfer_fresh d c t a s (fills b n u) k r = among_fresh d b.0 n a s u k r

pub placed_fresh : (d : Disc) (c : Command) (p : Plan) (a : Lba) → Sound d → Placed d c p → records_block p (a.0 / 16) ≡ true → is_recorded d a ≡ true → ⊥
unfolding records_block
placed_fresh d c p a s w t r =
    or_cases (flushes p.flush (a.0 / 16)) (transfers p.transfer (a.0 / 16)) (λ h. flush_fresh d p.flush a s w.flushed h r)
    (λ h. transfer_fresh d c p.transfer a s w.moved h r) t
