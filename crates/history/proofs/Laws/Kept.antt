-- The account and the drive over whole sequences: the kept count, and what is read is what was written.
use Prim.Native.Nat.{ℕ, suc, zero, ◌+◌, ◌-◌, ◌*◌, ◌/◌, ◌≤◌, ◌<◌}
use mathlib.Core.Path.{◌≡◌, refl, sym, ap, ◌∙◌, subst}
use mathlib.Core.Bool.{Bool, true, false, ◌||◌}
use mathlib.Core.List.{List, [], ◌∷◌, ◌++◌}
use native.Mathlib.Omega.{arith}
use borrow.Author.Tests.{leb-true, leb-false, ltb-true}
use lib.Dec.{eqb, leb, ltb}
use lib.ListN.{length, get_or, take, drop, replicate, length-drop}
use lib.Seq.{length-take-le}
use Rattle.fragments.specs.Address.{lba, first_sector, sectors_in, left_over}
use Rattle.protocol.specs.Answer.{refusal_sense}
use Rattle.disc.specs.Blank.{blank}
use Rattle.protocol.specs.Command.{decode}
use Rattle.fragments.specs.Fragment.{unused_record}
use Rattle.disc.specs.Records.{pending_in, used, numbered, with_sense, at_address, is_recorded, is_pending, is_readable}
use Rattle.fragments.specs.List.{limit}
use Rattle.disc.specs.Rules.{at, Sound}
use Rattle.outcomes.specs.Lent.{Fits}
use Rattle.outcomes.specs.Recorded.{among}
use Rattle.commands.specs.Judge.{perform}
use Rattle.fragments.proofs.Laws.Bool.{by_cases, or_right, or_cases, contradiction, cond_yes, cond_no}
use Rattle.commands.proofs.Laws.Judge.{allowed_ready}
use Rattle.outcomes.proofs.Laws.Judge.{decided-performed}
use Rattle.outcomes.proofs.Laws.Recorded.{among-from, among_below}
use Rattle.disc.proofs.Laws.Readable.{held_recorded, Located, located, located-recorded, located-pending, nowhere-unreadable, nowhere-unrecorded}
use Rattle.disc.proofs.Laws.Rules.{sound-rules}
use Rattle.disc.proofs.Laws.Sound.{pending-in-few}
use Rattle.fragments.proofs.Laws.Numbers.{equal_cases}
use Rattle.drive.specs.Alike.{Alike}
use Rattle.drive.specs.Requests.{ReadOf}
use Rattle.drive.specs.Step.{Drive, Request, Result, verdict_on, carried_out, step}
use Rattle.drive.proofs.Laws.Agree.{agree_run}
use Rattle.drive.proofs.Laws.Bytes.{run_in_run, run_in_front, sector_front, sector-after}
use Rattle.drive.proofs.Laws.Alike.{step_link, step-refused}
use Rattle.drive.proofs.Laws.Cut.{Served, served-after, served_alike}
use Rattle.drive.proofs.Laws.Reads.{readable-accepted, blank-refused, sector_of, read-readable, read-sector}
use Rattle.drive.proofs.Laws.Step.{verdict_decided, verdict_judges, lent_medium, lent_pending, judgement}
use Rattle.history.specs.Types.{Lba, Fragment, Disc, Option, Some, None, Answer, Accepted, Link, Drive as by_drive, BlankCheck, Read, Verdict}
use Rattle.history.specs.Sequence.{Start, Turn, found, result, final, Admissible}
use Rattle.history.specs.Account.{Account, opened, extent_of, credited, noted, account_from, account, sector_at, content_in, recorded_in, waits_in, content_at, recorded_at, pending_at, readable_at}
use Rattle.history.specs.Kept.{Keeps, KeptAccount}
use Rattle.history.proofs.Laws.Served.{start-served, sequence_served, only_lengths_refused}
use Rattle.history.proofs.Laws.Regions.{region, unlisted_none}
use Rattle.history.proofs.Laws.Account.{Holds, same_holds}
use Rattle.history.proofs.Laws.Credit.{noted-performed}

abbrev pub HoldsOn : Drive → ℕ → Account → Type 0
HoldsOn s n k = Holds s.disc s.medium s.pending n k

pub served-sound : (s : Drive) → Served s → Sound s.disc
served-sound s w = sound-rules s.disc (allowed_ready s.disc w.range w.allowed).sound

-- one command, by its answer
module _ (s : Drive) (q : Request) (n : ℕ) (k : Account) (w : Served s) (one : 1 ≤ n) (h : HoldsOn s n k) where
  accepted-holds : (step s q).answer ≡ Accepted → HoldsOn (step s q).after n (credited n (extent_of s.disc n) (decode q.cdb) q.payload k)
  unfolding step carried_out
  accepted-holds e =
      let d = s.disc in
      let c = decode q.cdb in
      let l = length s.medium in
      let j = judgement s q w.lends in
      let performed : verdict_on s q ≡ perform d c = decided-performed d (verdict_on s q) (verdict_decided s q) e in
      let fits : Fits l (length q.payload) (length q.buffer) (perform d c) =
      subst (λ (v : Verdict). Fits l (length q.payload) (length q.buffer) v) (sym (verdict_judges s q w.lends) ∙ performed) j.fits in
      subst (λ (v : Verdict). HoldsOn (carried_out v s q).after n (credited n (extent_of d n) c q.payload k)) (sym performed)
      (noted-performed d s.medium s.pending q.payload n k (allowed_ready d w.range w.allowed) one j.block
      (lent_medium d l (length s.pending) w.lends) h c (sym (ap (λ (v : Verdict). v.answer) performed) ∙ e) fits.flush fits.transfer)

  pub answer-holds : (a : Answer) → (step s q).answer ≡ a → HoldsOn (step s q).after n (noted n (extent_of s.disc n) q a k)
  unfolding noted
  answer-holds Accepted e = accepted-holds e
  answer-holds (Link x) e = subst (λ (r : Result). HoldsOn r.after n k) (sym (step_link s q x e)) h
  answer-holds (by_drive x) e =
      subst (λ (r : Result). HoldsOn r.after n k) (sym (step-refused s q x e))
      (same_holds s.disc (with_sense s.disc (refusal_sense x)) s.medium s.pending n k refl refl (λ z. refl) refl h)

-- stale bytes are in no account
region_alike :
    (s : Drive) (t : Turn) (n : ℕ) → Sound s.disc → Served s → 1 ≤ n → Alike s (found t s)
    → region s.disc s.medium n ≡ region s.disc t.medium n
region_alike s t n sound w one a =
    let d = s.disc in
    by_cases (leb n (used d))
    (λ l.
    let listed = leb-true n (used d) l in
    let b = (numbered d n).start.0 in
    let c = (numbered d n).recorded in
    let ends = sound.ends (n - 1) (omega arith) in
    let most = sound.recorded (n - 1) (omega arith) in
    let whole = lent_medium d (length s.medium) (length s.pending) w.lends in
    agree_run s.medium t.medium (32768 * b) (32768 * c) (omega (arith, ends, most, whole)) a.medium_length
    (λ i from below.
    a.recorded i
    (held_recorded d (lba (i / 2048))
    (record { index = n - 1; listed = omega arith; from = omega (arith, from); below = omega (arith, below) }))))
    (λ l.
    let none = unlisted_none d n sound (leb-false n (used d) l) in
    ap (λ (f : Fragment). take (32768 * f.recorded) (drop (32768 * f.start.0) s.medium)) none
    ∙ sym (ap (λ (f : Fragment). take (32768 * f.recorded) (drop (32768 * f.start.0) t.medium)) none))

pending_alike : (s : Drive) (t : Turn) (n : ℕ) → Alike s (found t s) → take (2048 * pending_in s.disc n) s.pending ≡ take (2048 * pending_in s.disc n) t.pending
pending_alike s t n a = grind arith

pub found-holds : (s : Drive) (t : Turn) (n : ℕ) (k : Account) → Served s → 1 ≤ n → Alike s (found t s) → HoldsOn s n k → HoldsOn (found t s) n k
found-holds s t n k w one a h =
    record {
      recorded = h.recorded;
      zero_filled = h.zero_filled;
      pending = h.pending;
      balance = h.balance;
      content =
          λ i l.
          h.content i l
          ∙ ap (λ (x : List ℕ). sector_at i x)
          (ap (λ (x : List ℕ). x ++ take (2048 * pending_in s.disc n) s.pending) (region_alike s t n (served-sound s w) w one a)
          ∙ ap (λ (x : List ℕ). region s.disc t.medium n ++ x) (pending_alike s t n a));
    }

-- a blank disc has nothing in any account
all-unused : (k i : ℕ) → get_or (replicate k unused_record) i unused_record ≡ unused_record
all-unused zero i = refl
all-unused (suc k) zero = refl
all-unused (suc k) (suc i) = all-unused k i

pub blank-counts : (c i : ℕ) → ((at (blank c) i).recorded ≡ 0) × ((at (blank c) i).zeroed ≡ 0)
unfolding blank
blank-counts c zero = (refl, refl)
blank-counts c (suc i) = let e = all-unused (limit - 1) i in (ap (λ (f : Fragment). f.recorded) e, ap (λ (f : Fragment). f.zeroed) e)

pub blank-held : (c n : ℕ) → pending_in (blank c) n ≡ 0
unfolding blank
blank-held c n = by_cases (eqb 0 n) (λ e. rw e) (λ e. rw e)

pub start-holds : (c : ℕ) (s : Drive) → Start c s → (n : ℕ) → HoldsOn s n opened
start-holds c s start n =
    let b = blank-counts c (n - 1) in
    let p = blank-held c n in
    subst (λ (d : Disc). Holds d s.medium s.pending n opened) (sym start.disc)
    (record {
      recorded = omega (arith, b.0);
      zero_filled = sym b.1;
      pending = sym p;
      balance = refl;
      content = λ i l. absurd (omega (arith, l));
    })

-- over a sequence
sequence_holds :
    (ts : List Turn) (s : Drive) → Admissible ts s → Served s → (n : ℕ) → 1 ≤ n → (k : Account) → HoldsOn s n k
    → HoldsOn (final ts s) n (account_from n ts s k)
unfolding final Admissible account_from
sequence_holds [] s h w n one k g = g
sequence_holds (t ∷ ts) s h w n one k g =
    let here = served_alike s (found t s) h.0 w in
    sequence_holds ts (result t s).after h.1 (served-after (found t s) t.request here) n one _
    (answer-holds (found t s) t.request n k here one (found-holds s t n k w one h.0 g) (result t s).answer refl)

-- the bytes of a fragment's recorded blocks
region_length :
    (s : Drive) (n a : ℕ) → Sound s.disc → Served s → Located s.disc a n
    → length (region s.disc s.medium n) ≡ 2048 * (16 * (numbered s.disc n).recorded)
region_length s n a sound w x =
    let f = numbered s.disc n in
    let ends = sound.ends (n - 1) (omega (arith, x.from, x.listed)) in
    let most = sound.recorded (n - 1) (omega (arith, x.from, x.listed)) in
    let whole = lent_medium s.disc (length s.medium) (length s.pending) w.lends in
    length-take-le (32768 * f.recorded) (drop (32768 * f.start.0) s.medium)
    (omega (arith, length-drop (32768 * f.start.0) s.medium, whole, ends, most)) ∙ omega arith

-- a recorded sector is what the account has at its address
content_sector :
    (s : Drive) (n a : ℕ) (k : Account) → Sound s.disc → Served s → HoldsOn s n k → Located s.disc a n
    → a < (first_sector (numbered s.disc n).start).0 + 16 * (numbered s.disc n).recorded
    → k.content a ≡ sector_at a s.medium
content_sector s n a k sound w h x below =
    let d = s.disc in
    let f = numbered d n in
    let i = a - 16 * f.start.0 in
    let ends = sound.ends (n - 1) (omega (arith, x.from, x.listed)) in
    let most = sound.recorded (n - 1) (omega (arith, x.from, x.listed)) in
    let whole = lent_medium d (length s.medium) (length s.pending) w.lends in
    let index : i < 16 * f.recorded = omega (arith, x.first, below) in
    let address : a ≡ 16 * f.start.0 + i = omega (arith, x.first) in
    let place : 32768 * f.start.0 + 2048 * i ≡ 2048 * a = omega (arith, x.first) in
    ap k.content address
    ∙ (h.content i (omega (arith, index, h.recorded))
    ∙ (sector_front (region d s.medium n) (take (2048 * pending_in d n) s.pending) (16 * f.recorded) i (region_length s n a sound w x) index
    ∙ (run_in_run s.medium (32768 * f.start.0) (32768 * f.recorded) (2048 * i) 2048 (omega (arith, index)) (omega (arith, whole, ends, most, index))
    ∙ ap (λ (b : ℕ). take 2048 (drop b s.medium)) place)))

-- and so is a pending one, at its place in the pending buffer
content_pending :
    (s : Drive) (n a : ℕ) (k : Account) → Sound s.disc → Served s → HoldsOn s n k → Located s.disc a n
    → (let e = (first_sector (numbered s.disc n).start).0 + 16 * (numbered s.disc n).recorded in among e (pending_in s.disc n) a ≡ true)
    → k.content a ≡ sector_at (left_over a) s.pending
content_pending s n a k sound w h x waits =
    let d = s.disc in
    let f = numbered d n in
    let held = pending_in d n in
    let e = (first_sector f.start).0 + 16 * f.recorded in
    let j = a - e in
    let from = among-from e held a waits in
    let below = among_below e held a waits in
    let few = pending-in-few d sound n in
    let block = lent_pending d (length s.medium) (length s.pending) w.lends in
    let address : a ≡ 16 * f.start.0 + (16 * f.recorded + j) = omega (arith, from) in
    let place : j ≡ left_over a = omega (arith, from, below, few) in
    ap k.content address
    ∙ (h.content (16 * f.recorded + j) (omega (arith, from, below, h.recorded, h.pending))
    ∙ (sector-after (region d s.medium n) (take (2048 * held) s.pending) (16 * f.recorded) j (region_length s n a sound w x)
    ∙ (run_in_front s.pending (2048 * held) (2048 * j) 2048 (omega (arith, from, below)) (omega (arith, block, from, below, few))
    ∙ ap (λ (b : ℕ). sector_at b s.pending) place)))

-- at every point of a sequence from a start
module _ (c : ℕ) (s : Drive) (start : Start c s) (ts : List Turn) (h : Admissible ts s) where
  abbrev reached : Drive
  reached = final ts s

  point-served : Served reached
  point-served = sequence_served ts s h (start-served c s start)

  point-holds : (n : ℕ) → 1 ≤ n → HoldsOn reached n (account n ts s)
  point-holds n one = sequence_holds ts s h (start-served c s start) n one opened (start-holds c s start n)

  point-sound : Sound reached.disc
  point-sound = served-sound reached point-served

  filled-most : (n : ℕ) → (numbered reached.disc n).zeroed ≤ 16 * (numbered reached.disc n).recorded
  filled-most n =
      by_cases (leb n (used reached.disc))
      (λ l. equal_cases n 0 (λ z. rw z (point-sound.zeroed 0 point-sound.some)) (λ z. point-sound.zeroed (n - 1) (listed-index (leb-true n (used reached.disc) l) z)))
      (λ l.
      let none = unlisted_none reached.disc n point-sound (leb-false n (used reached.disc) l) in
      omega (arith, ap (λ (f : Fragment). f.zeroed) none))
    where
      listed-index : {a b : ℕ} → a ≤ b → (a ≡ 0 → ⊥) → a - 1 < b
      listed-index l z = omega arith

  point-keeps : (n : ℕ) → 1 ≤ n → Keeps (account n ts s) reached.disc n
  point-keeps n one =
      let g = point-holds n one in
      let most = filled-most n in
      record {
        kept = omega (arith, g.balance, g.recorded, g.zero_filled, most);
        within = omega (arith, g.balance, g.recorded, g.zero_filled, most);
        recorded = g.recorded;
        zero_filled = g.zero_filled;
        pending = g.pending;
      }

  found-recorded : (a : ℕ) (x : Option ℕ) → at_address reached.disc (lba a) ≡ x → is_recorded reached.disc (lba a) ≡ recorded_in ts s a x
  unfolding recorded_in
  found-recorded a (Some n) e =
      let w = located reached.disc a n e in
      located-recorded reached.disc a point-sound n w
      ∙ ap (λ (k : ℕ). ltb a ((first_sector (numbered reached.disc n).start).0 + k)) (sym (point-holds n w.from).recorded)
  found-recorded a None e =
      by_cases (is_recorded reached.disc (lba a)) (λ t. absurd (nowhere-unrecorded reached.disc a point-sound e t)) (λ t. t)

  point-recorded : (a : ℕ) → is_recorded reached.disc (lba a) ≡ recorded_at ts s a
  point-recorded a = found-recorded a (at_address reached.disc (lba a)) refl

  found-pending : (a : ℕ) (x : Option ℕ) → at_address reached.disc (lba a) ≡ x → is_pending reached.disc (lba a) ≡ waits_in ts s a x
  unfolding waits_in
  found-pending a (Some n) e =
      let d = reached.disc in
      let w = located d a n e in
      let k = account n ts s in
      let h = point-holds n w.from in
      located-pending d a point-sound n w
      ∙ (ap (λ (b : ℕ). among ((first_sector (numbered d n).start).0 + b) (pending_in d n) a) (sym h.recorded)
      ∙ ap (λ (b : ℕ). among ((first_sector (numbered d n).start).0 + k.recorded) b a) (sym h.pending))
  found-pending a None e =
      by_cases (is_pending reached.disc (lba a))
      (λ t. absurd (nowhere-unreadable reached.disc a point-sound e (or_right (is_recorded reached.disc (lba a)) t))) (λ t. t)

  point-pending : (a : ℕ) → is_pending reached.disc (lba a) ≡ pending_at ts s a
  point-pending a = found-pending a (at_address reached.disc (lba a)) refl

  by-history : (a : ℕ) → is_readable reached.disc (lba a) ≡ readable_at ts s a
  by-history a =
      ap (λ (b : Bool). b || is_pending reached.disc (lba a)) (point-recorded a) ∙ ap (λ (b : Bool). recorded_at ts s a || b) (point-pending a)

  -- what a pending sector holds
  held_found :
      (a : ℕ) (x : Option ℕ) → at_address reached.disc (lba a) ≡ x → waits_in ts s a x ≡ true
      → sector_at (left_over a) reached.pending ≡ content_in ts s a x
  unfolding waits_in content_in
  held_found a (Some n) e t =
      let d = reached.disc in
      let w = located d a n e in
      sym
      (content_pending reached n a (account n ts s) point-sound point-served (point-holds n w.from) w
      (sym (located-pending d a point-sound n w) ∙ (found-pending a (Some n) e ∙ t)))
  held_found a None e t = absurd (contradiction t refl)

  -- the command that comes then
  module _ (t : Turn) (alike : Alike reached (found t reached)) where
    abbrev here : Drive
    here = found t reached

    here-served : Served here
    here-served = served_alike reached here alike point-served

    point-readable :
        (a : Lba) (n : ℕ) → ReadOf t.request a n → 1 ≤ n
        → (((i : ℕ) → i < n → readable_at ts s (a.0 + i) ≡ true) → (result t reached).answer ≡ Accepted)
        × ((result t reached).answer ≡ Accepted → (i : ℕ) → i < n → readable_at ts s (a.0 + i) ≡ true)
    point-readable a n w some =
        let q = t.request in
        let z : n ≡ 0 → ⊥ = λ none. omega (arith, none, some) in (
          λ all. readable-accepted here q a n w here-served z (λ i l. by-history (a.0 + i) ∙ all i l),
          λ accepted i l. sym (by-history (a.0 + i)) ∙ read-readable here q a n w.command accepted z i l,
        )

    point-blank :
        (a : Lba) (n : ℕ) → ReadOf t.request a n → a.0 + n ≤ sectors_in reached.disc.capacity → (i : ℕ) → i < n
        → readable_at ts s (a.0 + i) ≡ false → (result t reached).answer ≡ by_drive BlankCheck
    point-blank a n w within i l none =
        blank-refused here t.request a n w here-served (λ z. omega (arith, z, l)) within i l (by-history (a.0 + i) ∙ none)

    content-found :
        (a : ℕ) (x : Option ℕ) → at_address reached.disc (lba a) ≡ x → is_readable reached.disc (lba a) ≡ true
        → sector_of here a ≡ content_in ts s a x
    unfolding content_in
    content-found a (Some n) e r =
        let d = reached.disc in
        let w = located d a n e in
        let k = account n ts s in
        let h = found-holds reached t n k point-served w.from alike (point-holds n w.from) in
        by_cases (is_recorded d (lba a))
        (λ y.
        cond_yes (is_recorded d (lba a)) _ _ y
        ∙ sym (content_sector here n a k point-sound here-served h w (ltb-true a _ (sym (located-recorded d a point-sound n w) ∙ y))))
        (λ y.
        cond_no (is_recorded d (lba a)) _ _ y
        ∙ sym
        (content_pending here n a k point-sound here-served h w
        (sym (located-pending d a point-sound n w) ∙ or_cases (is_recorded d (lba a)) (is_pending d (lba a)) (λ x. absurd (contradiction x y)) (λ x. x) r)))
    content-found a None e r = absurd (nowhere-unreadable reached.disc a point-sound e r)

    point-back :
        (a : Lba) (n : ℕ) → decode t.request.cdb ≡ Read a n → (result t reached).answer ≡ Accepted → (i : ℕ) → i < n
        → sector_at i (result t reached).reply ≡ content_at ts s (a.0 + i)
    point-back a n e accepted i l =
        let z : n ≡ 0 → ⊥ = λ none. omega (arith, none, l) in
        read-sector here t.request a n e accepted z i l
        ∙ content-found (a.0 + i) (at_address reached.disc (lba (a.0 + i))) refl (read-readable here t.request a n e accepted z i l)

-- the theorem
pub kept_account : KeptAccount
kept_account =
    record {
      keeps = λ c s start ts h n one. point-keeps c s start ts h n one;
      recorded = λ c s start ts h a. point-recorded c s start ts h a;
      pending = λ c s start ts h a. point-pending c s start ts h a;
      held = λ c s start ts h a. held_found c s start ts h a (at_address (final ts s).disc (lba a)) refl;
      lengths = only_lengths_refused;
      readable = λ c s start ts h t alike a n w. point-readable c s start ts h t alike a n w;
      blank = λ c s start ts h t alike a n w. point-blank c s start ts h t alike a n w;
      back = λ c s start ts h t alike a n e accepted i l. point-back c s start ts h t alike a n e accepted i l;
    }
