-- What each effect makes of the disc, by the definition of the command that it stands for.
use Prim.Native.Nat.{ℕ, ◌+◌, ◌-◌, ◌≤◌, ◌<◌}
use mathlib.Core.Path.{◌≡◌, sym, ◌∙◌, ap}
use mathlib.Core.Bool.{Bool, true, false, cond, ◌&&◌, and-false as and_zero}
use native.Mathlib.Omega.{arith}
use borrow.Author.Tests.{eq-eqb, ne_eqb, eqb-true, eqb-false}
use lib.Dec.{eqb, ltb}
use lib.ListN.{length}
use lib.Seq.{get_or-set_same, get_or-set_other}
use Rattle.commands.specs.Types.{Fragment, Disc, Entry, Settle, Reserve, Close, Grow}
use Rattle.fragments.specs.Address.{whole_blocks, left_over}
use Rattle.fragments.specs.Fragment.{unused_record, end, next_fragment_start, next_session_start, tail_from, reserved_at, shortened_record}
use Rattle.fragments.specs.List.{limit, last_of}
use Rattle.disc.specs.Records.{pending_in, used, numbered, last_record, with_record, has_tail, has_blank_tail}
use Rattle.disc.specs.Rules.{Sound}
use Rattle.disc.specs.Ready.{Ready}
use Rattle.fragments.specs.Entry.{entry, no_entry, put, over_last}
use Rattle.disc.specs.Apply.{with_entry, with_pending, with_finalized, settled, affected}
use Rattle.commands.specs.Flush.{flushed_record, flush, flush_entry}
use Rattle.commands.specs.Write.{flush_others, flush_others_entry, grown_record, gather}
use Rattle.commands.specs.Reserve.{split_tail}
use Rattle.commands.specs.Close.{append_tail, close_tail, open_session, finalized}
use Rattle.fragments.specs.Tail.{tail_entry, tail_after, tail_closed}
use Rattle.fragments.proofs.Laws.Bool.{and_both, by_cases}
use Rattle.fragments.proofs.Laws.List.{listed_le}
use Rattle.disc.proofs.Laws.Rules.{sound-rules}
use Rattle.disc.proofs.Laws.Sound.{none_pending}
use Rattle.disc.proofs.Laws.Apply.{with_entry_lem, no_entry_lem}
use Rattle.commands.proofs.Laws.Flush.{owner, flush-used, flush-finalized, flush_capacity, flush-sound, flush_pending}
use Rattle.commands.proofs.Laws.Write.{others-numbered, others-pending}
use Rattle.disc.proofs.Laws.Order.{drop-used, last-used}
use Rattle.commands.proofs.Laws.Session.{kept-blank, kept-tail, kept_same, kept_capacity, kept_finalized}

-- the record of a flush, put where it belongs
module _ (d : Disc) (r : Ready d) where
  pub flush-fragments : put (flush_entry d) d.fragments ≡ (flush d).fragments
  unfolding flush_entry flush
  flush-fragments =
      by_cases (eqb d.pending 0)
      (λ z. rw z)
      (λ z. let o = owner d r (eqb-false _ _ z) in rw (z, ne_eqb d.owner 0 (λ q. omega (arith, o.number))))

  pub flush-settled : settled d (flush_entry d) ≡ flush d
  unfolding with_entry flush_entry flush
  flush-settled =
      by_cases (eqb d.pending 0)
      (λ z.
      let p = eqb-true _ _ z in
      rw z (ap (λ n. with_pending d n 0) (sym p) ∙ ap (with_pending d d.pending) (sym ((sound-rules d r.sound).none p))))
      (λ z. let o = owner d r (eqb-false _ _ z) in rw (z, ne_eqb d.owner 0 (λ q. omega (arith, o.number))))

  pub flush-numbered :
      (n : ℕ) → 1 ≤ n → cond (eqb (flush_entry d).number n) (flush_entry d).fragment (numbered d n) ≡ numbered (flush d) n
  unfolding flush_entry flush
  flush-numbered n from =
      by_cases (eqb d.pending 0)
      (λ z. rw (z, ne_eqb 0 n (λ q. omega arith)))
      (λ z.
      let o = owner d r (eqb-false _ _ z) in
      let f = flushed_record d.pending (numbered d d.owner) in
      let slot : d.owner - 1 < length d.fragments = omega (arith, o.slot, o.number, (sound-rules d r.sound).array) in
      by_cases (eqb d.owner n)
      (λ e.
      let same : n - 1 ≡ d.owner - 1 = omega (arith, eqb-true d.owner n e) in
      rw (z, e, same) (sym (get_or-set_same d.fragments (d.owner - 1) f unused_record slot)))
      (λ e.
      rw (z, e) (sym (get_or-set_other d.fragments (d.owner - 1) (n - 1) f unused_record (λ q. eqb-false d.owner n e (omega (arith, o.number)))))))

  -- the last record after it
  pub last-flushed : over_last (flush_entry d) (last_of d.fragments) ≡ last_of (flush d).fragments
  last-flushed =
      let f = flush-numbered (used d) (sound-rules d r.sound).some in
      ap (λ k. record { number = used d; fragment = k }) f
      ∙ ap (λ k. record { number = k; fragment = numbered (flush d) k }) (sym (flush-used d r))

pub affected-settled : (d : Disc) → Ready d → affected d (Settle (flush_entry d)) ≡ flush d
unfolding affected
affected-settled d r = flush-settled d r

-- RESERVE: two records put
pub affected_split :
    (d : Disc) (b : ℕ) (f g : Fragment) → 1 ≤ used d → f ≡ reserved_at (last_record d) b
    → g ≡ tail_from d.capacity f.session (next_fragment_start (end f))
    → affected d (Reserve (entry (used d) f) (entry (used d + 1) g)) ≡ split_tail d b
unfolding affected split_tail
affected_split d b f g from ef eg =
    let h = reserved_at (last_record d) b in
    ap (λ e. with_entry e (entry (used d + 1) g)) (with_entry_lem d (used d) f from)
    ∙ (with_entry_lem (with_record d (used d) f) (used d + 1) g (omega arith)
    ∙ (ap (with_record (with_record d (used d) f) (used d + 1)) eg
    ∙ ap (λ x. with_record (with_record d (used d) x) (used d + 1) (tail_from d.capacity x.session (next_fragment_start (end x)))) ef))

-- the disc is finalized or not as it was
same_finalized : (d : Disc) (f : Bool) → d.finalized ≡ f → with_finalized d f ≡ d
same_finalized d f e = ap (with_finalized d) (sym e)

-- CLOSE: the flush, then two records put
affected-close :
    (d : Disc) (c t : Entry) (f : Bool) → Ready d
    → affected d (Close (flush_entry d) c t f) ≡ with_finalized (with_entry (with_entry (flush d) c) t) f
unfolding affected
affected-close d c t f r = ap (λ e. with_finalized (with_entry (with_entry e c) t) f) (flush-settled d r)

-- a fragment closed in its place
pub affected-filled :
    (d : Disc) (n : ℕ) (g : Fragment) → Ready d → 1 ≤ n
    → affected d (Close (flush_entry d) (entry n g) no_entry d.finalized) ≡ with_record (flush d) n g
affected-filled d n g r from =
    affected-close d (entry n g) no_entry d.finalized r
    ∙ (ap (λ e. with_finalized (with_entry e no_entry) d.finalized) (with_entry_lem (flush d) n g from)
    ∙ (ap (λ e. with_finalized e d.finalized) (no_entry_lem (with_record (flush d) n g))
    ∙ same_finalized (with_record (flush d) n g) d.finalized (flush-finalized d)))

-- the last one closed, with a tail after it where there is room
tail_appended :
    (d : Disc) (n : ℕ) (g : Fragment) → length d.fragments ≡ limit → 1 ≤ n → n ≤ limit
    → with_entry (with_record d n g) (tail_after d.capacity n g) ≡ append_tail (with_record d n g) n
unfolding tail_after tail_entry append_tail with_entry
tail_appended d n g l from to =
    let same : numbered (with_record d n g) n ≡ g = get_or-set_same d.fragments (n - 1) g unused_record (omega arith) in
    by_cases (ltb n limit)
    (λ f.
    by_cases (ltb (next_fragment_start (end g)).0 d.capacity)
    (λ t. rw (same, f, t, ne_eqb (n + 1) 0 (λ q. omega arith)))
    (λ t. rw (same, f, t)))
    (λ f. rw (same, f, and_zero (ltb (next_fragment_start (end g)).0 d.capacity)))

append-finalized : (d : Disc) (n : ℕ) → (append_tail d n).finalized ≡ d.finalized
unfolding append_tail
append-finalized d n =
    by_cases (ltb (next_fragment_start (end (numbered d n))).0 d.capacity && ltb n limit) (λ t. rw t) (λ t. rw t)

pub affected_shortened :
    (d : Disc) (n : ℕ) (g : Fragment) → Ready d → 1 ≤ n → n ≤ limit
    → affected d (Close (flush_entry d) (entry n g) (tail_after d.capacity n g) d.finalized) ≡ append_tail (with_record (flush d) n g) n
affected_shortened d n g r from to =
    let e = with_record (flush d) n g in
    let t = tail_appended (flush d) n g (flush-sound d r).array from to in
    affected-close d (entry n g) (tail_after d.capacity n g) d.finalized r
    ∙ (ap (λ k. with_finalized (with_entry k (tail_after d.capacity n g)) d.finalized) (with_entry_lem (flush d) n g from)
    ∙ (ap (λ c. with_finalized (with_entry e (tail_after c n g)) d.finalized) (sym (flush_capacity d))
    ∙ (ap (λ k. with_finalized k d.finalized) t
    ∙ same_finalized (append_tail e n) d.finalized (append-finalized e n ∙ flush-finalized d))))

-- the tail closed, with nothing pending: a blank one dropped, a written one shortened
module _ (d : Disc) (s : Sound d) (p : d.pending ≡ 0) where
  blank-tail : has_tail d ≡ true → eqb (last_record d).recorded 0 ≡ true → has_blank_tail d ≡ true
  blank-tail t z = and_both t (and_both z (eq-eqb _ _ (none_pending d (used d) p)))

  written-tail : eqb (last_record d).recorded 0 ≡ false → has_blank_tail d ≡ false
  written-tail z = rw z (and_zero (has_tail d))

  pub tail-closed : with_entry d (tail_closed (last_of d.fragments)) ≡ close_tail d
  unfolding tail_closed
  tail-closed =
      by_cases (has_tail d)
      (λ t.
      by_cases (eqb (last_record d).recorded 0)
      (λ z. rw (t, z) (with_entry_lem d (used d) unused_record s.some ∙ sym (kept-blank d (blank-tail t z))))
      (λ z. rw (t, z) (with_entry_lem d (used d) (shortened_record (last_record d)) s.some ∙ sym (kept-tail d (written-tail z) t))))
      (λ t. rw t (no_entry_lem d ∙ sym (kept_same d t)))

  -- the last record that is left
  pub kept-last-same : has_tail d ≡ false → last_of d.fragments ≡ last_of (close_tail d).fragments
  kept-last-same t = ap (λ k. last_of k.fragments) (sym (kept_same d t))

  slot : used d - 1 < length d.fragments
  slot = omega (arith, s.some, listed_le d.fragments)

  pub kept-last-written :
      has_tail d ≡ true → ((last_record d).recorded ≡ 0 → ⊥)
      → record { number = used d; fragment = shortened_record (last_record d) } ≡ last_of (close_tail d).fragments
  kept-last-written t w =
      let g = shortened_record (last_record d) in
      let u = last-used d s g w in
      rw (kept-tail d (written-tail (ne_eqb _ _ w)) t, u) (ap (λ f. record { number = used d; fragment = f }) (sym (get_or-set_same d.fragments (used d - 1) g unused_record slot)))

  module _ (t : has_tail d ≡ true) (z : (last_record d).recorded ≡ 0) where
    b : has_blank_tail d ≡ true
    b = blank-tail t (eq-eqb _ _ z)

    pub kept-last-none : used d - 1 ≡ 0 → record { number = 0; fragment = unused_record } ≡ last_of (close_tail d).fragments
    kept-last-none e =
        let none = get_or-set_same d.fragments (used d - 1) unused_record unused_record slot in
        rw (kept-blank d b, drop-used d s, e) (ap (λ f. record { number = 0; fragment = f }) (sym (rw e at none)))

    pub kept-last-before :
        (used d - 1 ≡ 0 → ⊥) → record { number = used d - 1; fragment = numbered d (used d - 1) } ≡ last_of (close_tail d).fragments
    kept-last-before e =
        let other = get_or-set_other d.fragments (used d - 1) (used d - 1 - 1) unused_record unused_record (λ q. omega arith) in
        rw (kept-blank d b, drop-used d s) (ap (λ f. record { number = used d - 1; fragment = f }) (sym other))

-- the tail closed after a flush, and a session opened after it or the disc finalized
module _ (d : Disc) (r : Ready d) where
  closed-flushed : with_entry (flush d) (tail_closed (last_of (flush d).fragments)) ≡ close_tail (flush d)
  closed-flushed = tail-closed (flush d) (flush-sound d r) (flush_pending d)

  pub affected-session :
      (k : ℕ) (t : Fragment)
      → k ≡ used (close_tail (flush d))
      → t ≡ tail_from d.capacity ((last_record (close_tail (flush d))).session + 1) (next_session_start (end (last_record (close_tail (flush d)))))
      → affected d (Close (flush_entry d) (tail_closed (last_of (flush d).fragments)) (entry (k + 1) t) d.finalized) ≡ open_session (close_tail (flush d))
  unfolding open_session
  affected-session k t ek et =
      let e = close_tail (flush d) in
      let c : d.capacity ≡ e.capacity = sym (kept_capacity (flush d) ∙ flush_capacity d) in
      let g = tail_from e.capacity ((last_record e).session + 1) (next_session_start (end (last_record e))) in
      let u : t ≡ g = et ∙ ap (λ n. tail_from n ((last_record e).session + 1) (next_session_start (end (last_record e)))) c in
      affected-close d (tail_closed (last_of (flush d).fragments)) (entry (k + 1) t) d.finalized r
      ∙ (ap (λ x. with_finalized (with_entry x (entry (k + 1) t)) d.finalized) closed-flushed
      ∙ (ap (λ x. with_finalized x d.finalized) (with_entry_lem e (k + 1) t (omega arith))
      ∙ (same_finalized (with_record e (k + 1) t) d.finalized (kept_finalized (flush d) ∙ flush-finalized d)
      ∙ (ap (λ n. with_record e (n + 1) t) ek ∙ ap (with_record e (used e + 1)) u))))

  pub affected-finalized :
      affected d (Close (flush_entry d) (tail_closed (last_of (flush d).fragments)) no_entry true) ≡ finalized (close_tail (flush d))
  affected-finalized =
      affected-close d (tail_closed (last_of (flush d).fragments)) no_entry true r
      ∙ (ap (λ x. with_finalized (with_entry x no_entry) true) closed-flushed ∙ ap finalized (no_entry_lem (close_tail (flush d))))

-- WRITE: a flush of other fragments, then one record grown
module _ (d : Disc) (n : ℕ) (r : Ready d) (from : 1 ≤ n) where
  others-affected : (p o : ℕ) → with_pending (with_entry d (flush_others_entry d n)) p o ≡ with_pending (flush_others d n) p o
  unfolding flush_others_entry flush_others
  others-affected p o =
      by_cases (eqb d.owner n)
      (λ e. rw e (ap (λ x. with_pending x p o) (no_entry_lem d)))
      (λ e. rw e (ap (λ x. with_pending x p o) (flush-settled d r)))

  pub affected-gathered :
      (k : ℕ)
      → affected d (Grow (flush_others_entry d n) (entry n (grown_record (whole_blocks (pending_in d n + k)) (numbered d n))) (left_over (pending_in d n + k)) (cond (eqb (left_over (pending_in d n + k)) 0) 0 n))
      ≡ gather (flush_others d n) n k
  unfolding affected gather
  affected-gathered k =
      let e = flush_others d n in
      let held = pending_in d n + k in
      let g = grown_record (whole_blocks held) (numbered d n) in
      let o = cond (eqb (left_over held) 0) 0 n in
      ap (λ x. with_pending x (left_over held) o) (with_entry_lem (with_entry d (flush_others_entry d n)) n g from)
      ∙ (ap (λ x. with_record x n g) (others-affected (left_over held) o)
      ∙ rw (others-pending d n r from, others-numbered d n r from))
