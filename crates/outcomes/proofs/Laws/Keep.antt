-- Every change that a command makes to the list keeps it sound.
use Rattle.std.proofs.lemmas.Bool.Decides.{nat_tests}
use Prim.Native.Nat.{ℕ, suc, ◌+◌, ◌-◌, ◌*◌, ◌/◌, ◌%◌, ◌≤◌, ◌<◌}
use mathlib.Core.Path.{◌≡◌, refl, sym, ◌∙◌, ap}
use mathlib.Core.Bool.{Bool, true, false, not, ◌&&◌}
use mathlib.Core.List.{List, [], ◌∷◌}
use mathlib.Core.Logic.{◌⊎◌, inl, inr}
use native.Mathlib.Omega.{arith}
use borrow.Author.Tests.{eq-eqb, ne_eqb, eqb-true, eqb-false, ltb-true, ltb-false, lt-ltb}
use lib.Dec.{eqb, ltb}
use lib.ListN.{length, get_or, set}
use lib.Seq.{get_or-set_same, get_or-set_other}
use Rattle.outcomes.specs.Types.{Block, Lba, Fragment, Disc}
use Rattle.fragments.specs.Address.{first_sector}
use Rattle.fragments.specs.Fragment.{unused_record, end, complete, is_tail, is_incomplete_reserved, next_fragment_start, next_session_start, tail_from, reserved_at, shortened_record}
use Rattle.disc.specs.Records.{pending_in, is_blank, records, used, numbered, last_record, with_record, has_tail, has_blank_tail, blank_tail_only}
use Rattle.fragments.specs.List.{limit, some, first_of_session}
use Rattle.disc.specs.Rules.{at, Sound}
use Rattle.disc.specs.Ready.{Ready}
use Rattle.commands.specs.Flush.{flush}
use Rattle.commands.specs.Write.{flush_others, grown_record, gather, Writable}
use Rattle.commands.specs.Reserve.{split_tail}
use Rattle.commands.specs.Close.{filled_record, append_tail, has_incomplete_reserved, close_tail, open_session, finalized}
use Rattle.fragments.proofs.Laws.Bool.{and_left, and_right, and_both, by_cases, contradiction, cond_yes, cond_no}
use Rattle.fragments.proofs.Laws.Numbers.{equal_cases, below_limit}
use Rattle.fragments.proofs.Laws.List.{listed_le, listed_at, at_some}
use Rattle.disc.proofs.Laws.Rules.{sound-rules}
use Rattle.disc.proofs.Laws.Grow.{Grown, set_grown, grown-used, grown-sound}
use Rattle.commands.proofs.Laws.Reserve.{blank_recorded}
use Rattle.commands.proofs.Laws.Flush.{owner, flush-used, flush_none, flush-records}
use Rattle.commands.proofs.Laws.Write.{others-numbered, others-pending, others_used, others_alone, place}
use Rattle.commands.proofs.Laws.Session.{kept-blank, kept-tail, kept_same, tail_written}
use Rattle.disc.proofs.Laws.Onward.{Onward, same_onward, onward-before, replace_onward, drop-onward, extend_onward, NoBlock}
use Rattle.disc.proofs.Laws.Order.{Ordered, open_sound, Replaces, replace-last, drop-last, Extends, extend-sound, extended-last, last-used, drop-used}

-- a tail from a block below the capacity is one, and reaches it
module _ (c s : ℕ) (b : Block) (h : b.0 < c) where
  pub tail-from-tail : is_tail (tail_from c s b) ≡ true
  tail-from-tail = ap not (ne_eqb 0 (c - b.0) (λ e. omega arith))

  pub tail-from-end : (end (tail_from c s b)).0 ≡ c
  tail-from-end = omega arith

-- a blank fragment has no pending sectors
pub blank_unowned : (d : Disc) (n : ℕ) (f : Fragment) → is_blank d n f ≡ true → (d.pending ≡ 0 → ⊥) → d.owner ≡ n → ⊥
blank_unowned d n f b z e = grind arith

-- the last record is the one that was put there
replaced_is :
    (d : Disc) (s : Sound d) (g : Fragment) → (g.length ≡ 0 → ⊥)
    → (used (with_record d (used d) g) ≡ used d) × (last_record (with_record d (used d) g) ≡ g)
replaced_is d s g l = grind (arith, nat_tests, last-used, listed_le, get_or-set_same)

-- RESERVE
module _
    (d : Disc) (b : ℕ) (s : Sound d) (t : has_blank_tail d ≡ true) (free : used d < limit) (size : 1 ≤ b)
    (start : (next_fragment_start (end (reserved_at (last_record d) b))).0 < d.capacity) where
  -- the reserved record, the disc with it, and the tail after it
  abbrev reserved : Fragment
  reserved = reserved_at (last_record d) b

  abbrev reservedDisc : Disc
  reservedDisc = with_record d (used d) reserved

  abbrev rest : Fragment
  rest = tail_from d.capacity reserved.session (next_fragment_start (end reserved))

  reserved-size : reserved.length ≡ 0 → ⊥
  reserved-size z = omega arith

  reserved-replaces : Replaces d reserved
  reserved-replaces = grind arith

  reserved-used : used reservedDisc ≡ used d
  reserved-used = (replaced_is d s reserved reserved-size).0

  reserved-ordered : Ordered reservedDisc
  reserved-ordered = replace-last d s reserved reserved-replaces

  reserved-extends : Extends reservedDisc rest
  reserved-extends =
      let last = (replaced_is d s reserved reserved-size).1 in
      record {
        free = omega (arith, reserved-used);
        follows = rw last (inl (refl, refl));
        ends = tail-from-end d.capacity reserved.session (next_fragment_start (end reserved)) start;
        recorded = refl;
        zeroed = refl;
        tail = tail-from-tail d.capacity reserved.session (next_fragment_start (end reserved)) start;
        tailless = ap is_tail last;
        closed = λ q. absurd (q (sym (ap (λ h. h.session) last)));
      }

  pub split-sound : d.finalized ≡ false → Sound (split_tail d b)
  unfolding split_tail
  split-sound f =
      rw (ap (λ j. with_record reservedDisc (j + 1) rest) reserved-used) at (extend-sound reservedDisc reserved-ordered rest reserved-extends f)

  pub split-onward : Onward d (split_tail d b) NoBlock
  unfolding split_tail
  split-onward =
      onward-before d reservedDisc _ NoBlock
      (replace_onward d reserved s reserved-size refl (blank_recorded d t))
      (rw (ap (λ j. with_record reservedDisc (j + 1) rest) reserved-used) at (extend_onward reservedDisc reserved-ordered rest reserved-extends))

-- CLOSE 001 of a reserved fragment
pub fill_grows : (d : Disc) (n : ℕ) → Sound d → 1 ≤ n → n ≤ used d → Grown d (with_record d n (filled_record (numbered d n)))
fill_grows d n s from to =
    let f = numbered d n in
    let w = s.recorded (n - 1) (omega arith) in
    let z = s.zeroed (n - 1) (omega arith) in
    set_grown d (with_record d n (filled_record f)) (n - 1) (filled_record f) s (omega arith) refl refl refl
    (record { session = refl; start = refl; size = refl; kind = refl; more = w; recorded = omega arith; zeroed = omega arith })

pub fill_sound : (d : Disc) (n : ℕ) → Sound d → d.pending ≡ 0 → 1 ≤ n → n ≤ used d → Sound (with_record d n (filled_record (numbered d n)))
fill_sound d n s p from to =
    grown-sound d (with_record d n (filled_record (numbered d n))) s (fill_grows d n s from to)
    s.few
    s.none
    (λ q. absurd (q p))
    (λ q. p)

-- a written tail that ends with its recorded blocks
shorten_replaces : (d : Disc) → Sound d → d.pending ≡ 0 → ((last_record d).recorded ≡ 0 → ⊥) → Replaces d (shortened_record (last_record d))
shorten_replaces d s p w = grind (arith, nat_tests)

-- CLOSE 001 of the tail
module _ (d : Disc) (s : Sound d) (p : d.pending ≡ 0) (w : (last_record d).recorded ≡ 0 → ⊥) where
  -- the disc with its tail shortened, and the record after which a new tail may start
  abbrev shortened : Disc
  shortened = with_record d (used d) (shortened_record (last_record d))

  abbrev closedTail : Fragment
  closedTail = numbered shortened (used d)

  abbrev newTail : Fragment
  newTail = tail_from d.capacity closedTail.session (next_fragment_start (end closedTail))

  shortened-used : used shortened ≡ used d
  shortened-used = (replaced_is d s (shortened_record (last_record d)) w).0

  shortened-tailless : has_tail shortened ≡ false
  shortened-tailless =
      ap is_tail (replaced_is d s (shortened_record (last_record d)) w).1 ∙ (shorten_replaces d s p w).tailless

  shorten-extends : (next_fragment_start (end closedTail)).0 < d.capacity → used d < limit → Extends shortened newTail
  shorten-extends room free =
      record {
        free = omega (arith, shortened-used);
        follows = rw (ap (λ j. numbered shortened j) shortened-used) (inl (refl, refl));
        ends = tail-from-end d.capacity closedTail.session (next_fragment_start (end closedTail)) room;
        recorded = refl;
        zeroed = refl;
        tail = tail-from-tail d.capacity closedTail.session (next_fragment_start (end closedTail)) room;
        tailless = shortened-tailless;
        closed = λ q. absurd (q (ap (λ j. (numbered shortened j).session) (sym shortened-used)));
      }

  -- room for a new tail: a block after the dividing one, and a record
  abbrev roomForTail : Bool
  roomForTail = ltb (next_fragment_start (end closedTail)).0 d.capacity && ltb (used d) limit

  shortened-ordered : Ordered shortened
  shortened-ordered = replace-last d s (shortened_record (last_record d)) (shorten_replaces d s p w)

  room-extends : roomForTail ≡ true → Extends shortened newTail
  room-extends t =
      shorten-extends
      (ltb-true _ _ (and_left (ltb (next_fragment_start (end closedTail)).0 d.capacity) (ltb (used d) limit) t))
      (ltb-true _ _ (and_right (ltb (next_fragment_start (end closedTail)).0 d.capacity) (ltb (used d) limit) t))

  pub shorten-sound : d.finalized ≡ false → Sound (append_tail shortened (used d))
  unfolding append_tail
  shorten-sound f =
      by_cases roomForTail
      (λ t. rw t (rw (ap (λ j. with_record shortened (j + 1) newTail) shortened-used) at (extend-sound shortened shortened-ordered newTail (room-extends t) f)))
      (λ t.
      rw t
      (open_sound shortened shortened-ordered f
      (λ a.
      equal_cases (used d) limit
      (λ q. inl (shortened-used ∙ q))
      (λ q.
      let few = below_limit (omega (arith, listed_le d.fragments, s.array)) q in
      by_cases (ltb (next_fragment_start (end closedTail)).0 d.capacity)
      (λ y. absurd (contradiction (and_both y (lt-ltb (used d) limit few)) t))
      (λ y.
      inr
      (let past = ltb-false (next_fragment_start (end closedTail)).0 d.capacity y in
      omega (arith, ap (λ h. (end h).0) (ap (λ j. numbered shortened j) shortened-used))))))))

  shortened-onward : Onward d shortened NoBlock
  shortened-onward = grind (arith, replace_onward)

  pub shorten-onward : Onward d (append_tail shortened (used d)) NoBlock
  unfolding append_tail
  shorten-onward =
      by_cases roomForTail
      (λ t.
      rw t
      (onward-before d shortened _ NoBlock shortened-onward
      (rw (ap (λ j. with_record shortened (j + 1) newTail) shortened-used) at (extend_onward shortened shortened-ordered newTail (room-extends t)))))
      (λ t. rw t shortened-onward)

  -- 001 opens a new tail exactly where there is room for one
  pub new-tail : has_tail (append_tail shortened (used d)) ≡ roomForTail
  unfolding append_tail
  new-tail =
      by_cases roomForTail
      (λ t.
      let x = room-extends t in
      rw t
      (ap (λ j. is_tail (last_record (with_record shortened (j + 1) newTail))) (sym shortened-used)
      ∙ (ap is_tail (extended-last shortened shortened-ordered newTail x) ∙ x.tail)))
      (λ t. rw t shortened-tailless)

-- no reserved fragment is incomplete
some_at : (p : Fragment → Bool) (fs : List Fragment) (i : ℕ) → some p fs ≡ false → i < length fs → p (get_or fs i unused_record) ≡ false
some_at p fs i e h = grind (arith, at_some)

reserved-complete : (d : Disc) (i : ℕ) → has_incomplete_reserved d ≡ false → i < used d → is_incomplete_reserved (at d i) ≡ false
reserved-complete d i e h = grind (arith, listed_at, some_at)

-- then an incomplete fragment is the tail
incomplete_tail : (f : Fragment) → is_incomplete_reserved f ≡ false → complete f ≡ false → is_tail f ≡ true
incomplete_tail f r c = grind arith

pub complete_but_tail : (d : Disc) (i : ℕ) → Sound d → has_incomplete_reserved d ≡ false → suc i < used d → complete (at d i) ≡ true
complete_but_tail d i s e h = grind (arith, incomplete_tail, reserved-complete)

-- the list with its tail closed: in order, complete throughout, without a tail
pub record Closed (k : Disc) : Type 0 where
  pub ordered : Ordered k
  pub complete : (i : ℕ) → i < used k → complete (at k i) ≡ true
  pub tailless : has_tail k ≡ false

module _ (d : Disc) (s : Sound d) (p : d.pending ≡ 0) (e : has_incomplete_reserved d ≡ false) where
  last-of-ordered : (k : Disc) → Ordered k → ((i : ℕ) → i < used k → complete (at k i) ≡ true) → Closed k
  last-of-ordered k o c = grind arith

  closed-dropped : 2 ≤ used d → Closed (with_record d (used d) unused_record)
  closed-dropped two =
      last-of-ordered (with_record d (used d) unused_record) (drop-last d s two (λ z. absurd (z p)))
      (λ i h.
      let u = drop-used d s in
      rw (get_or-set_other d.fragments (used d - 1) i unused_record unused_record (λ q. omega arith))
      (complete_but_tail d i s e (omega arith)))

  closed-replaced : ((last_record d).recorded ≡ 0 → ⊥) → Closed (with_record d (used d) (shortened_record (last_record d)))
  closed-replaced w =
      let g = shortened_record (last_record d) in
      let u = last-used d s g w in
      let slot : used d - 1 < length d.fragments = omega (arith, s.some, listed_le d.fragments) in
      last-of-ordered (with_record d (used d) g) (replace-last d s g (shorten_replaces d s p w))
      (λ i h.
      equal_cases i (used d - 1)
      (λ q.
      rw (ap (λ j. get_or (set d.fragments (used d - 1) g) j unused_record) q ∙ get_or-set_same d.fragments (used d - 1) g unused_record slot)
      (eq-eqb (last_record d).recorded (last_record d).recorded refl))
      (λ q.
      rw (get_or-set_other d.fragments (used d - 1) i g unused_record q)
      (complete_but_tail d i s e (before_last (rw u at h) q))))
    where
      before_last : {i : ℕ} → i < used d → (i ≡ used d - 1 → ⊥) → suc i < used d
      before_last h q = omega arith

  closed_same : has_tail d ≡ false → Closed d
  closed_same t = grind (arith, nat_tests, incomplete_tail, reserved-complete)

  pub close-tail-closed : (has_blank_tail d ≡ true → 2 ≤ used d) → Closed (close_tail d)
  close-tail-closed two =
      by_cases (has_blank_tail d)
      (λ b. rw (kept-blank d b) (closed-dropped (two b)))
      (λ b.
      by_cases (has_tail d)
      (λ t. rw (kept-tail d b t) (closed-replaced (tail_written d p t b)))
      (λ t. rw (kept_same d t) (closed_same t)))

pub close_tail-onward : (d : Disc) → Sound d → d.pending ≡ 0 → Onward d (close_tail d) NoBlock
close_tail-onward d s p =
    by_cases (has_blank_tail d)
    (λ b. rw (kept-blank d b) (drop-onward d s (blank_recorded d b)))
    (λ b.
    by_cases (has_tail d)
    (λ t. rw (kept-tail d b t) (replace_onward d (shortened_record (last_record d)) s (tail_written d p t b) refl refl))
    (λ t. rw (kept_same d t) (same_onward d)))

-- CLOSE 010: a tail of the next session
module _ (k : Disc) (c : Closed k) (free : used k < limit) (start : (next_session_start (end (last_record k))).0 < k.capacity) where
  abbrev sessionTail : Fragment
  sessionTail = tail_from k.capacity ((last_record k).session + 1) (next_session_start (end (last_record k)))

  session-extends : Extends k sessionTail
  session-extends = grind arith

  pub open-session-sound : k.finalized ≡ false → Sound (open_session k)
  unfolding open_session
  open-session-sound f = extend-sound k c.ordered sessionTail session-extends f

  pub open-session-onward : Onward k (open_session k) NoBlock
  unfolding open_session
  open-session-onward = extend_onward k c.ordered sessionTail session-extends

-- CLOSE 110
pub finalize-sound : (k : Disc) → Closed k → k.pending ≡ 0 → Sound (finalized k)
finalize-sound k c p = grind arith

-- the first record of its own session
first_here : (rs : List Fragment) (n : ℕ) → 1 ≤ length rs → (get_or rs 0 unused_record).session ≡ n → first_of_session n 1 rs ≡ 1
unfolding first_of_session
first_here [] n h e = absurd (omega arith)
first_here (f ∷ fs) n h e = cond_yes (eqb f.session n) _ _ (eq-eqb _ _ e)

-- the only record is a blank tail, after a flush and so before it
pub only_blank : (d : Disc) → Ready d → has_blank_tail (flush d) ≡ true → used (flush d) ≡ 1 → (blank_tail_only d ≡ true) × ((last_record d).session ≡ 1)
only_blank d r b one =
    let s = sound-rules d r.sound in
    let u : used d ≡ 1 = omega (arith, flush-used d r) in
    by_cases (eqb d.pending 0)
    (λ z.
    let same : flush d ≡ d = flush_none d (eqb-true _ _ z) in
    let first : (last_record d).session ≡ 1 = ap (λ n. (at d (n - 1)).session) u ∙ s.first_session in
    let zeroth : (get_or (records d) 0 unused_record).session ≡ (last_record d).session =
    ap (λ f. f.session) (listed_at d.fragments 0 unused_record s.some) ∙ (s.first_session ∙ sym first) in
    (and_both (rw same at b) (eq-eqb _ _ (first_here (records d) (last_record d).session s.some zeroth ∙ sym u)), first))
    (λ z.
    let n = eqb-false _ _ z in
    let o = owner d r n in
    let number : d.owner ≡ 1 = omega (arith, o.number, o.listed) in
    let last : last_record (flush d) ≡ numbered (flush d) d.owner = ap (λ k. numbered (flush d) k) (one ∙ sym number) in
    absurd (omega (arith, blank_recorded (flush d) b, ap (λ f. f.recorded) last, flush-records d r n)))

-- WRITE: more sectors in an incomplete fragment, with no other one's pending
pub record Room (d : Disc) (number n : ℕ) : Type 0 where
  pub from : 1 ≤ number
  pub listed : number ≤ used d
  pub incomplete : complete (numbered d number) ≡ false
  pub alone : (d.pending ≡ 0) ⊎ (d.owner ≡ number)
  pub fits : (numbered d number).recorded * 16 + (pending_in d number + n) ≤ (numbered d number).length * 16

pub gather_grows : (d : Disc) (number n : ℕ) → Sound d → Room d number n → Grown d (gather d number n)
unfolding gather
gather_grows d number n s m =
    let f = numbered d number in
    let blocks = (pending_in d number + n) / 16 in
    let z = s.zeroed (number - 1) (omega (arith, m.from, m.listed)) in
    set_grown d (gather d number n) (number - 1) (grown_record blocks f) s (omega (arith, m.from, m.listed)) refl refl refl
    (record {
      session = refl;
      start = refl;
      size = refl;
      kind = refl;
      more = omega arith;
      recorded = omega (arith, m.fits);
      zeroed = omega arith;
    })

-- the record after it is incomplete where sectors stay pending
gather_incomplete :
    (d : Disc) (number n : ℕ) → Sound d → Room d number n → ((pending_in d number + n) % 16 ≡ 0 → ⊥)
    → complete (numbered (gather d number n) number) ≡ false
unfolding gather
gather_incomplete d number n s m z =
    let f = numbered d number in
    let g = grown_record ((pending_in d number + n) / 16) f in
    let slot : number - 1 < length d.fragments = omega (arith, m.from, m.listed, listed_le d.fragments) in
    rw (get_or-set_same d.fragments (number - 1) g unused_record slot)
    (ne_eqb (f.recorded + (pending_in d number + n) / 16) f.length (λ q. omega (arith, m.fits)))

pub gather-sound : (d : Disc) (number n : ℕ) → Sound d → Room d number n → Sound (gather d number n)
unfolding gather
gather-sound d number n s m =
    let g = gather_grows d number n s m in
    let held = (pending_in d number + n) % 16 in
    grown-sound d (gather d number n) s g
    (omega arith)
    (λ z. cond_yes (eqb held 0) 0 number (eq-eqb _ _ z))
    (λ z.
    let same = cond_no (eqb held 0) 0 number (ne_eqb _ _ z) in
    record {
      number = rw same m.from;
      listed = rw same (omega (arith, m.listed, grown-used d (gather d number n) s g));
      incomplete = rw same (gather_incomplete d number n s m z);
    })
    (λ e. absurd (contradiction (s.closed e (number - 1) (omega (arith, m.from, m.listed))) m.incomplete))

-- an accepted WRITE finds room, other fragments' sectors flushed
pub write_room :
    (d : Disc) (a : Lba) (number n : ℕ) → Ready d → Writable d a number → a.0 + n ≤ (first_sector (end (numbered d number))).0
    → Room (flush_others d number) number n
write_room d a number n r w h =
    let same = others-numbered d number r w.from in
    let held = others-pending d number r w.from in
    let few = (place d a number r w).few in
    record {
      from = w.from;
      listed = omega (arith, w.listed, others_used d number r);
      incomplete = rw same w.incomplete;
      alone = others_alone d number;
      fits = rw (same, held) (omega (arith, w.here));
    }
