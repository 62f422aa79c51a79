-- A flush, a WRITE and a fill on the drive, and the accounts of all fragments.
use Prim.Native.Nat.{ℕ, ◌+◌, ◌-◌, ◌*◌, ◌/◌, ◌%◌, ◌≤◌}
use mathlib.Core.Path.{◌≡◌, refl, sym, ap, ◌∙◌, subst}
use mathlib.Core.Bool.{cond}
use mathlib.Core.List.{List, ◌++◌}
use native.Mathlib.Omega.{arith}
use borrow.Author.Tests.{eq-eqb, ne_eqb}
use lib.Dec.{eqb}
use lib.ListN.{length, set, take}
use lib.Seq.{length-take-le}
use Rattle.fragments.specs.Address.{sectors_in}
use Rattle.disc.specs.Records.{pending_in, used, numbered, with_record}
use Rattle.fragments.specs.Fragment.{first_unrecorded}
use Rattle.disc.specs.Ready.{Ready}
use Rattle.disc.specs.Rules.{Sound}
use Rattle.commands.specs.Flush.{flushed_record, flush, flush_plan}
use Rattle.commands.specs.Write.{flush_others, flush_others_plan, grown_record, gather}
use Rattle.commands.specs.Close.{filled_record}
use Rattle.fragments.proofs.Laws.Bool.{by_cases, cond_yes, cond_no}
use Rattle.fragments.proofs.Laws.Numbers.{equal_cases}
use Rattle.disc.proofs.Laws.Rules.{sound-rules}
use Rattle.disc.proofs.Laws.Sound.{none_pending, other_pending, own_pending, pending-in-few}
use Rattle.commands.proofs.Laws.Flush.{owner, flush_none, flush_pending}
use Rattle.outcomes.proofs.Laws.Keep.{Room}
use Rattle.outcomes.proofs.Laws.Outcome.{gathered_list}
use Rattle.drive.specs.Bytes.{zeros, splice, padded}
use Rattle.drive.specs.Moves.{stream, gathered_medium, gathered_pending, flushed_medium, flushed_pending}
use Rattle.drive.proofs.Laws.Bytes.{length-zeros, length-padded}
use Rattle.drive.proofs.Laws.Moves.{length_whole}
use Rattle.history.specs.Types.{Fragment, Disc, None, Some}
use Rattle.history.specs.Account.{Account, Extent, extent_of, written, zeroed, missing, flushed, filled}
use Rattle.history.proofs.Laws.Regions.{Grows, grown_medium}
use Rattle.history.proofs.Laws.Account.{Holds, else-holds, zeroed-holds, written-holds, flushed_none, flushed-some}
use Rattle.decisions.specs.Plan.{recording}

-- the same by other names
pub holds_as :
    {d e : Disc} {m q p o : List ℕ} {k l : Account} (n : ℕ) → d ≡ e → m ≡ q → p ≡ o → k ≡ l → Holds d m p n k → Holds e q o n l
holds_as {d} {e} {m} {q} {p} {o} {k} {l} n a b c f h = grind arith

pub holds_at : {d : Disc} {m p : List ℕ} {k : Account} {i j : ℕ} → i ≡ j → Holds d m p i k → Holds d m p j k
holds_at {d} {m} {p} {k} e h = subst (λ (n : ℕ). Holds d m p n k) e h

-- a flush
module _ (d : Disc) (m p : List ℕ) (r : Ready d) (block : length p ≡ 32768) (medium : length m ≡ 32768 * d.capacity) where
  module _ (z : d.pending ≡ 0 → ⊥) where
    abbrev block-bytes : List ℕ
    block-bytes = padded (take (2048 * d.pending) p)

    abbrev flushed_record_lem : Fragment
    flushed_record_lem = flushed_record d.pending (numbered d d.owner)

    held-length : length (take (2048 * d.pending) p) ≡ 2048 * d.pending
    held-length = length-take-le (2048 * d.pending) p (omega (arith, block, (owner d r z).few))

    flush-list : (flush d).fragments ≡ set d.fragments (d.owner - 1) flushed_record_lem
    unfolding flush
    flush-list = rw (ne_eqb d.pending 0 z)

    flush-plan : flush_plan d ≡ Some (recording (first_unrecorded (numbered d d.owner)) d.pending)
    unfolding flush_plan
    flush-plan = rw (ne_eqb d.pending 0 z)

    flush-medium : grown_medium d d.owner m block-bytes ≡ flushed_medium (flush_plan d) m p
    unfolding flushed_medium
    flush-medium = rw flush-plan

    flush-grow : Grows d (flush d) d.owner 1 flushed_record_lem m block-bytes
    flush-grow =
        let o = owner d r z in
        record {
          sound = sound-rules d r.sound;
          from = o.number;
          to = o.listed;
          changed = flush-list;
          start = refl;
          count = refl;
          room = omega (arith, o.room);
          medium = medium;
          bytes = length-padded (take (2048 * d.pending) p) (omega (arith, held-length, o.few));
        }

    block-zeros : block-bytes ≡ take (2048 * pending_in d d.owner) p ++ zeros (2048 * (16 - d.pending))
    unfolding padded
    block-zeros =
        let own = own_pending d d.owner refl in
        let rest : 32768 - length (take (2048 * d.pending) p) ≡ 2048 * (16 - d.pending) = omega (arith, held-length) in
        ap (λ (n : ℕ). take (2048 * d.pending) p ++ zeros n) rest
        ∙ ap (λ (n : ℕ). take (2048 * n) p ++ zeros (2048 * (16 - d.pending))) (sym own)

  module _ (z : d.pending ≡ 0) where
    idle-plan : flush_plan d ≡ None
    unfolding flush_plan
    idle-plan = rw (eq-eqb d.pending 0 z)

    idle-medium : m ≡ flushed_medium (flush_plan d) m p
    unfolding flushed_medium
    idle-medium = rw idle-plan

    idle-pending : p ≡ flushed_pending (flush_plan d) p
    unfolding flushed_pending
    idle-pending = rw idle-plan

  pub flush-holds :
      (n : ℕ) (k : Account) → 1 ≤ n → Holds d m p n k
      → Holds (flush d) (flushed_medium (flush_plan d) m p) (flushed_pending (flush_plan d) p) n (flushed (extent_of d n) k)
  flush-holds n k one h =
      equal_cases d.pending 0
      (λ z.
      holds_as n (sym (flush_none d z)) (idle-medium z) (idle-pending z) (sym (flushed_none (extent_of d n) k (h.pending ∙ none_pending d n z))) h)
      (λ z.
      let after = flush_pending d in
      let few = (owner d r z).few in
      equal_cases n d.owner
      (λ e.
      let own : k.pending ≡ d.pending = h.pending ∙ own_pending d n (sym e) in
      let count : 16 - d.pending ≡ missing k = omega (arith, own, few) in
      holds_as n refl (flush-medium z) refl
      (ap (λ (c : ℕ). zeroed (extent_of d n) c k) count ∙ sym (flushed-some (extent_of d n) k (λ q. z (sym own ∙ q))))
      (holds_at (sym e)
      (zeroed-holds d (flush d) d.owner 1 (flushed_record_lem z) m (block-bytes z) p (flushed_pending (flush_plan d) p) (flush-grow z) (extent_of d n) k (16 - d.pending)
      (ap (λ (i : ℕ). 16 * (numbered d i).start.0) e) (omega (arith, block, few, own_pending d d.owner refl)) refl (omega (arith, few, own_pending d d.owner refl)) (block-zeros z) (none_pending (flush d) d.owner after)
      (holds_at e h))))
      (λ e.
      let none = other_pending d n (λ q. e (sym q)) in
      holds_as n refl (flush-medium z) refl (sym (flushed_none (extent_of d n) k (h.pending ∙ none)))
      (else-holds d (flush d) d.owner 1 (flushed_record_lem z) m (block-bytes z) p (flushed_pending (flush_plan d) p) (flush-grow z) n k one e none
      (none_pending (flush d) n after) h)))

  -- sectors pending in another fragment than number j are flushed: j's own account stays, every other is flushed
  module _ (j : ℕ) (n : ℕ) (k : Account) (one : 1 ≤ n) (h : Holds d m p n k) where
    abbrev OthersHold : Account → Type 0
    OthersHold l = Holds (flush_others d j) (flushed_medium (flush_others_plan d j) m p) (flushed_pending (flush_others_plan d j) p) n l

    own-plan : d.owner ≡ j → Holds d m p n k → OthersHold k
    unfolding flush_others flush_others_plan flushed_medium flushed_pending
    own-plan e g = rw (eq-eqb d.owner j e) g

    other-plan :
        (d.owner ≡ j → ⊥) → (l : Account) → Holds (flush d) (flushed_medium (flush_plan d) m p) (flushed_pending (flush_plan d) p) n l → OthersHold l
    unfolding flush_others flush_others_plan
    other-plan e l g = rw (ne_eqb d.owner j e) g

    pub others-own : n ≡ j → OthersHold k
    others-own e =
        equal_cases d.owner j
        (λ o. own-plan o h)
        (λ o.
        other-plan o k
        (holds_as n refl refl refl (flushed_none (extent_of d n) k (h.pending ∙ other_pending d n (λ q. o (q ∙ e)))) (flush-holds n k one h)))

    pub others-else : (n ≡ j → ⊥) → OthersHold (flushed (extent_of d n) k)
    others-else e =
        equal_cases d.owner j
        (λ o.
        subst (λ (l : Account). OthersHold l) (sym (flushed_none (extent_of d n) k (h.pending ∙ other_pending d n (λ q. e (sym q ∙ o))))) (own-plan o h))
        (λ o. other-plan o (flushed (extent_of d n) k) (flush-holds n k one h))

-- a WRITE's sectors, where nothing is pending in another fragment
module _
    (d : Disc) (m p sectors : List ℕ) (j n : ℕ) (s : Sound d) (room : Room d j n) (block : length p ≡ 32768)
    (medium : length m ≡ 32768 * d.capacity) (bytes : length sectors ≡ 2048 * n)
  where
    abbrev held : ℕ
    held = pending_in d j

    abbrev gathered-bytes : List ℕ
    gathered-bytes = take (32768 * ((held + n) / 16)) (stream held p sectors)

    abbrev gathered-record : Fragment
    gathered-record = grown_record ((held + n) / 16) (numbered d j)

    held_bytes : 2048 * held ≤ length p
    held_bytes = omega (arith, block, pending-in-few d s j)

    gather-grow : Grows d (gather d j n) j ((held + n) / 16) gathered-record m gathered-bytes
    gather-grow =
        record {
          sound = s;
          from = room.from;
          to = room.listed;
          changed = gathered_list d j n;
          start = refl;
          count = refl;
          room = omega (arith, room.fits);
          medium = medium;
          bytes = length_whole held n p sectors held_bytes bytes;
        }

    gather-medium : grown_medium d j m gathered-bytes ≡ gathered_medium (first_unrecorded (numbered d j)).0 held n m p sectors
    unfolding gathered_medium
    gather-medium = refl

    gather-own : pending_in (gather d j n) j ≡ (held + n) % 16
    unfolding gather
    gather-own =
        equal_cases ((held + n) % 16) 0
        (λ z.
        let o : cond (eqb ((held + n) % 16) 0) 0 j ≡ 0 = cond_yes (eqb ((held + n) % 16) 0) 0 j (eq-eqb ((held + n) % 16) 0 z) in
        cond_no (eqb (cond (eqb ((held + n) % 16) 0) 0 j) j) ((held + n) % 16) 0
        (ne_eqb (cond (eqb ((held + n) % 16) 0) 0 j) j (λ q. omega (arith, o, q, room.from))) ∙ sym z)
        (λ z.
        cond_yes (eqb (cond (eqb ((held + n) % 16) 0) 0 j) j) ((held + n) % 16) 0
        (eq-eqb (cond (eqb ((held + n) % 16) 0) 0 j) j (cond_no (eqb ((held + n) % 16) 0) 0 j (ne_eqb ((held + n) % 16) 0 z))))

    gather-else : (i : ℕ) → 1 ≤ i → (i ≡ j → ⊥) → pending_in (gather d j n) i ≡ 0
    unfolding gather
    gather-else i one other =
        let o = cond (eqb ((held + n) % 16) 0) 0 j in
        cond_no (eqb o i) ((held + n) % 16) 0
        (ne_eqb o i
        (λ q.
        by_cases (eqb ((held + n) % 16) 0)
        (λ t. omega (arith, one, q, cond_yes (eqb ((held + n) % 16) 0) 0 j t))
        (λ t. other (sym q ∙ cond_no (eqb ((held + n) % 16) 0) 0 j t))))

    alone : (i : ℕ) → (i ≡ j → ⊥) → pending_in d i ≡ 0
    alone i other = grind arith

    abbrev GatherHolds : ℕ → Account → Type 0
    GatherHolds i l =
        Holds (gather d j n) (gathered_medium (first_unrecorded (numbered d j)).0 held n m p sectors) (gathered_pending held n p sectors) i l

    pub gather-holds-own :
        (address : ℕ) → address ≡ 16 * ((numbered d j).start.0 + (numbered d j).recorded) + held → (k : Account) → Holds d m p j k
        → GatherHolds j (written address n sectors k)
    gather-holds-own address here k h =
        holds_as j refl gather-medium refl refl
        (written-holds d (gather d j n) j n gathered-record m p sectors gather-grow held_bytes bytes gather-own address here refl k h)

    pub gather-holds-else : (i : ℕ) (k : Account) → 1 ≤ i → (i ≡ j → ⊥) → Holds d m p i k → GatherHolds i k
    gather-holds-else i k one other h =
        holds_as i refl gather-medium refl refl
        (else-holds d (gather d j n) j ((held + n) / 16) gathered-record m gathered-bytes p (gathered_pending held n p sectors) gather-grow i k one other
        (alone i other) (gather-else i one other) h)

-- a reserved fragment is filled with zeros, with nothing pending
module _
    (d : Disc) (m p : List ℕ) (j : ℕ) (s : Sound d) (from : 1 ≤ j) (to : j ≤ used d) (none : d.pending ≡ 0)
    (medium : length m ≡ 32768 * d.capacity)
  where
    abbrev unrecorded : ℕ
    unrecorded = (numbered d j).length - (numbered d j).recorded

    fill-grow :
        Grows d (with_record d j (filled_record (numbered d j))) j unrecorded (filled_record (numbered d j)) m (zeros (32768 * unrecorded))
    fill-grow =
        let w = s.recorded (j - 1) (omega arith) in
        record {
          sound = s;
          from = from;
          to = to;
          changed = refl;
          start = refl;
          count = omega (arith, w);
          room = omega (arith, w);
          medium = medium;
          bytes = length-zeros (32768 * unrecorded);
        }

    abbrev FillHolds : ℕ → Account → Type 0
    FillHolds i l =
        Holds (with_record d j (filled_record (numbered d j))) (splice m (32768 * (first_unrecorded (numbered d j)).0) (zeros (32768 * unrecorded))) p i l

    pub fill-holds-own :
        (x : Extent) (k : Account) → x.first ≡ 16 * (numbered d j).start.0 → x.sectors ≡ sectors_in (numbered d j).length → Holds d m p j k
        → FillHolds j (filled x k)
    unfolding filled
    fill-holds-own x k first size h =
        let own = none_pending d j none in
        let count : x.sectors - k.recorded ≡ 16 * unrecorded = omega (arith, size, h.recorded) in
        let bytes : 32768 * unrecorded ≡ 2048 * (16 * unrecorded) = omega arith in
        subst (λ (c : ℕ). FillHolds j (zeroed x c k)) (sym count)
        (zeroed-holds d _ j unrecorded (filled_record (numbered d j)) m (zeros (32768 * unrecorded)) p p fill-grow x k (16 * unrecorded) first (omega (arith, own)) refl (omega (arith, own))
        (ap zeros bytes ∙ ap (λ (c : ℕ). take (2048 * c) p ++ zeros (2048 * (16 * unrecorded))) (sym own))
        (none_pending (with_record d j (filled_record (numbered d j))) j none) h)

    pub fill-holds-else : (i : ℕ) (k : Account) → 1 ≤ i → (i ≡ j → ⊥) → Holds d m p i k → FillHolds i k
    fill-holds-else i k one other h =
        else-holds d _ j unrecorded (filled_record (numbered d j)) m (zeros (32768 * unrecorded)) p p fill-grow i k one other (none_pending d i none)
        (none_pending (with_record d j (filled_record (numbered d j))) i none) h
