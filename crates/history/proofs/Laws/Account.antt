-- The account of a fragment and the drive: what they agree on, and that each way of recording keeps it.
use Prim.Native.Nat.{ℕ, ◌+◌, ◌-◌, ◌*◌, ◌/◌, ◌%◌, ◌≤◌, ◌<◌}
use mathlib.Core.Path.{◌≡◌, sym, ap, ◌∙◌}
use mathlib.Core.Bool.{cond}
use mathlib.Core.List.{List, [], ◌++◌, append_assoc, append-nil}
use native.Mathlib.Omega.{arith}
use borrow.Author.Tests.{ltb-true, ltb-false}
use lib.Dec.{ltb}
use lib.ListN.{length, take, drop, take-append-drop, length-append}
use lib.Seq.{take_at, drop_at, length-take-le}
use Rattle.disc.specs.Records.{pending_in, numbered}
use Rattle.outcomes.specs.Recorded.{among}
use Rattle.fragments.proofs.Laws.Bool.{by_cases, cond_no}
use Rattle.outcomes.proofs.Laws.Recorded.{among-from, among_below}
use Rattle.drive.specs.Bytes.{zeros}
use Rattle.drive.specs.Moves.{stream, gathered_pending}
use Rattle.drive.proofs.Laws.Bytes.{length-zeros, zeros_add, sector_front, sector-after}
use Rattle.drive.proofs.Laws.Moves.{take-gathered-pending}
use Rattle.history.specs.Types.{Fragment, Disc}
use Rattle.history.specs.Account.{Extent, sector_at, Account, written, zeroed, missing, flushed}
use Rattle.history.proofs.Laws.Regions.{region, length-region, Grows, grown_medium, grown-here, grown-else, grown-region, kept-region, same_region}

-- a sector of zeros
sector-zeros : (n i : ℕ) → i < n → sector_at i (zeros (2048 * n)) ≡ zeros 2048
sector-zeros n i h =
    let rest = 2048 * n - (2048 * i + 2048) in
    let sum : 2048 * n ≡ 2048 * i + (2048 + rest) = omega arith in
    ap (λ (k : ℕ). sector_at i (zeros k)) sum
    ∙ (ap (λ (l : List ℕ). sector_at i l) (sym (zeros_add (2048 * i) (2048 + rest)))
    ∙ (ap (take 2048) (drop_at (zeros (2048 * i)) (zeros (2048 + rest)) (2048 * i) (length-zeros (2048 * i)))
    ∙ (ap (take 2048) (sym (zeros_add 2048 rest)) ∙ take_at (zeros 2048) (zeros rest) 2048 (length-zeros 2048))))

-- a choice by whether a sum lies among n numbers
inside : {A : Type 0} (b n i : ℕ) (x y : A) → i < n → cond (among b n (b + i)) x y ≡ x
inside b n i x y h = grind arith

outside : {A : Type 0} (b n a : ℕ) (x y : A) → a < b → cond (among b n a) x y ≡ y
outside b n a x y h = grind arith

-- the bytes of a fragment from its first sector on: recorded, then pending
abbrev pub bytes_of : Disc → List ℕ → List ℕ → ℕ → List ℕ
bytes_of d m p n = region d m n ++ take (2048 * pending_in d n) p

-- the figures are those of the state, they balance, and every sector is what the account has at its address
pub record Holds (d : Disc) (m p : List ℕ) (n : ℕ) (k : Account) : Type 0 where
  pub recorded : k.recorded ≡ 16 * (numbered d n).recorded
  pub zero_filled : k.zero_filled ≡ (numbered d n).zeroed
  pub pending : k.pending ≡ pending_in d n
  pub balance : k.recorded + k.pending ≡ k.accepted + k.zero_filled
  pub content : (i : ℕ) → i < k.recorded + k.pending → k.content (16 * (numbered d n).start.0 + i) ≡ sector_at i (bytes_of d m p n)

-- a list that changes without recording anything, and the same pending sectors
pub same_holds :
    (d e : Disc) (m p : List ℕ) (n : ℕ) (k : Account) → (numbered e n).recorded ≡ (numbered d n).recorded
    → (numbered e n).zeroed ≡ (numbered d n).zeroed
    → (((numbered d n).recorded + pending_in d n ≡ 0 → ⊥) → (numbered e n).start.0 ≡ (numbered d n).start.0) → pending_in e n ≡ pending_in d n
    → Holds d m p n k → Holds e m p n k
same_holds d e m p n k count fill start same h =
    record {
      recorded = h.recorded ∙ ap (λ (w : ℕ). 16 * w) (sym count);
      zero_filled = h.zero_filled ∙ sym fill;
      pending = h.pending ∙ sym same;
      balance = h.balance;
      content =
          λ i l.
          ap (λ (b : ℕ). k.content (16 * b + i)) (start (λ z. omega (arith, l, h.recorded, h.pending, z)))
          ∙ (h.content i l
          ∙ ap (λ (x : List ℕ). sector_at i x)
          (ap (λ (x : List ℕ). x ++ take (2048 * pending_in d n) p) (sym (same_region d e m n count (λ z. start (λ q. omega (arith, q, some z)))))
          ∙ ap (λ (c : ℕ). region e m n ++ take (2048 * c) p) (sym same)));
    }
  where
    some : {a : ℕ} → (a ≡ 0 → ⊥) → 1 ≤ a
    some z = omega arith

-- nothing pending: no byte of the pending buffer counts
take_none : (p : List ℕ) (c : ℕ) → c ≡ 0 → take (2048 * c) p ≡ []
take_none p c z = ap (λ (n : ℕ). take (2048 * n) p) z

-- no sector filled
pub zeroed_none :
    (d : Disc) (m p : List ℕ) (n : ℕ) (x : Extent) (k : Account) → k.pending ≡ 0 → Holds d m p n k → Holds d m p n (zeroed x 0 k)
zeroed_none d m p n x k z h =
    record {
      recorded = omega (arith, h.recorded, z);
      zero_filled = omega (arith, h.zero_filled);
      pending = sym z ∙ h.pending;
      balance = omega (arith, h.balance, z);
      content = λ i l. nothing (16 * (numbered d n).start.0 + i) ∙ h.content i (omega (arith, l));
    }
  where
    nothing : (a : ℕ) → cond (among (x.first + k.recorded + k.pending) 0 a) (zeros 2048) (k.content a) ≡ k.content a
    nothing a =
        let b = x.first + k.recorded + k.pending in
        cond_no (among b 0 a) (zeros 2048) (k.content a)
        (by_cases (among b 0 a) (λ t. absurd (let from = among-from b 0 a t in let below = among_below b 0 a t in omega arith)) (λ t. t))

-- sectors put after those of a fragment: what stood there stays, and the new ones stand after
sectors_after :
    (old : ℕ → List ℕ) (l x : List ℕ) (b c n : ℕ) (new : ℕ → List ℕ) → length l ≡ 2048 * c
    → ((i : ℕ) → i < c → old (b + i) ≡ sector_at i l) → ((i : ℕ) → i < n → new (b + c + i) ≡ sector_at i x)
    → (i : ℕ) → i < c + n → cond (among (b + c) n (b + i)) (new (b + i)) (old (b + i)) ≡ sector_at i (l ++ x)
sectors_after old l x b c n new size before after i h =
    by_cases (ltb i c)
    (λ t.
    let less = ltb-true i c t in
    outside (b + c) n (b + i) (new (b + i)) (old (b + i)) (omega arith) ∙ (before i less ∙ sym (sector_front l x c i size less)))
    (λ t.
    let most = ltb-false i c t in
    let j = i - c in
    let below : j < n = omega arith in
    let place : b + i ≡ b + c + j = omega arith in
    let index : c + j ≡ i = omega arith in
    ap (λ (a : ℕ). cond (among (b + c) n a) (new a) (old a)) place
    ∙ (inside (b + c) n j (new (b + c + j)) (old (b + c + j)) below
    ∙ (after j below ∙ (sym (sector-after l x c j size) ∙ ap (λ (a : ℕ). sector_at a (l ++ x)) index))))

-- one fragment records more
module _ (d e : Disc) (j blocks : ℕ) (g : Fragment) (m x p q : List ℕ) (w : Grows d e j blocks g m x) where
  -- every other fragment keeps its account, where nothing is pending in it
  pub else-holds :
      (n : ℕ) (k : Account) → 1 ≤ n → (n ≡ j → ⊥) → pending_in d n ≡ 0 → pending_in e n ≡ 0 → Holds d m p n k
      → Holds e (grown_medium d j m x) q n k
  else-holds n k one other before after h =
      let f = grown-else d e j blocks g m x w n one other in
      record {
        recorded = h.recorded ∙ ap (λ (r : Fragment). 16 * r.recorded) (sym f);
        zero_filled = h.zero_filled ∙ ap (λ (r : Fragment). r.zeroed) (sym f);
        pending = h.pending ∙ (before ∙ sym after);
        balance = h.balance;
        content =
            λ i l.
            ap (λ (r : Fragment). k.content (16 * r.start.0 + i)) f
            ∙ (h.content i l
            ∙ ap (λ (x : List ℕ). sector_at i x)
            (ap (λ (x : List ℕ). region d m n ++ x) (take_none p (pending_in d n) before ∙ sym (take_none q (pending_in e n) after))
            ∙ ap (λ (x : List ℕ). x ++ take (2048 * pending_in e n) q) (sym (kept-region d e j blocks g m x w n one other))));
      }

  -- the bytes of the fragment itself: pending sectors and zeros after them are recorded
  zeroed-bytes :
      (z : ℕ) → x ≡ take (2048 * pending_in d j) p ++ zeros (2048 * z) → pending_in e j ≡ 0
      → bytes_of d m p j ++ zeros (2048 * z) ≡ bytes_of e (grown_medium d j m x) q j
  zeroed-bytes z bytes after =
      append_assoc (region d m j) (take (2048 * pending_in d j) p) (zeros (2048 * z))
      ∙ (ap (λ (l : List ℕ). region d m j ++ l) (sym bytes)
      ∙ (sym (grown-region d e j blocks g m x w)
      ∙ (sym (append-nil (region e (grown_medium d j m x) j))
      ∙ ap (λ (l : List ℕ). region e (grown_medium d j m x) j ++ l) (sym (take_none q (pending_in e j) after)))))

  -- how long they are before
  length-bytes : (k : Account) → 2048 * pending_in d j ≤ length p → Holds d m p j k → length (bytes_of d m p j) ≡ 2048 * (k.recorded + k.pending)
  length-bytes k room h =
      length-append (region d m j) (take (2048 * pending_in d j) p)
      ∙ omega (arith, length-region d e j blocks g m x w, length-take-le (2048 * pending_in d j) p room, h.recorded, h.pending)

  -- the fragment itself: its pending sectors and z sectors of zeros are recorded
  pub zeroed-holds :
      (y : Extent) (k : Account) (z : ℕ) → y.first ≡ 16 * (numbered d j).start.0 → 2048 * pending_in d j ≤ length p
      → g.zeroed ≡ (numbered d j).zeroed + z → 16 * blocks ≡ pending_in d j + z → x ≡ take (2048 * pending_in d j) p ++ zeros (2048 * z)
      → pending_in e j ≡ 0 → Holds d m p j k → Holds e (grown_medium d j m x) q j (zeroed y z k)
  zeroed-holds y k z first held filled whole bytes after h =
      let f = grown-here d e j blocks g m x w in
      let c = k.recorded + k.pending in
      let b = 16 * (numbered d j).start.0 in
      let start : 16 * (numbered e j).start.0 ≡ b = omega (arith, ap (λ (r : Fragment). r.start.0) f, w.start) in
      let from : y.first + k.recorded + k.pending ≡ b + c = omega (arith, first) in
      record {
        recorded = omega (arith, h.recorded, h.pending, whole, w.count, ap (λ (r : Fragment). r.recorded) f);
        zero_filled = omega (arith, h.zero_filled, filled, ap (λ (r : Fragment). r.zeroed) f);
        pending = sym after;
        balance = omega (arith, h.balance);
        content =
            λ i l.
            ap (λ (a : ℕ). cond (among (y.first + k.recorded + k.pending) z (a + i)) (zeros 2048) (k.content (a + i))) start
            ∙ (ap (λ (a : ℕ). cond (among a z (b + i)) (zeros 2048) (k.content (b + i))) from
            ∙ (sectors_after k.content (bytes_of d m p j) (zeros (2048 * z)) b c z (λ a. zeros 2048) (length-bytes k held h) h.content
            (λ i l. sym (sector-zeros z i l)) i (omega (arith, l))
            ∙ ap (λ (l : List ℕ). sector_at i l) (zeroed-bytes z bytes after)));
      }

-- the fragment that a WRITE of n sectors goes to
module _
    (d e : Disc) (j n : ℕ) (g : Fragment) (m p sectors : List ℕ)
    (w : Grows d e j ((pending_in d j + n) / 16) g m (take (32768 * ((pending_in d j + n) / 16)) (stream (pending_in d j) p sectors)))
    (hp : 2048 * pending_in d j ≤ length p) (hx : length sectors ≡ 2048 * n) (after : pending_in e j ≡ (pending_in d j + n) % 16)
  where
    abbrev grown-blocks : ℕ
    grown-blocks = (pending_in d j + n) / 16

    abbrev recorded-now : List ℕ
    recorded-now = take (32768 * grown-blocks) (stream (pending_in d j) p sectors)

    written-bytes : bytes_of d m p j ++ sectors ≡ bytes_of e (grown_medium d j m recorded-now) (gathered_pending (pending_in d j) n p sectors) j
    unfolding stream
    written-bytes =
        let held = pending_in d j in
        let line = stream held p sectors in
        let r = region d m j in
        append_assoc r (take (2048 * held) p) sectors
        ∙ (ap (λ (l : List ℕ). r ++ l) (sym (take-append-drop (32768 * grown-blocks) line))
        ∙ (sym (append_assoc r recorded-now (drop (32768 * grown-blocks) line))
        ∙ (ap (λ (l : List ℕ). l ++ drop (32768 * grown-blocks) line) (sym (grown-region d e j grown-blocks g m recorded-now w))
        ∙ ap (λ (l : List ℕ). region e (grown_medium d j m recorded-now) j ++ l)
        (sym (take-gathered-pending held n p sectors hp hx)
        ∙ ap (λ (c : ℕ). take (2048 * c) (gathered_pending held n p sectors)) (sym after)))))

    pub written-holds :
        (address : ℕ) → address ≡ 16 * ((numbered d j).start.0 + (numbered d j).recorded) + pending_in d j → g.zeroed ≡ (numbered d j).zeroed
        → (k : Account) → Holds d m p j k
        → Holds e (grown_medium d j m recorded-now) (gathered_pending (pending_in d j) n p sectors) j (written address n sectors k)
    unfolding written
    written-holds address here same k h =
        let f = grown-here d e j grown-blocks g m recorded-now w in
        let b = 16 * (numbered d j).start.0 in
        let c = k.recorded + k.pending in
        let start : 16 * (numbered e j).start.0 ≡ b = omega (arith, ap (λ (r : Fragment). r.start.0) f, w.start) in
        let from : address ≡ b + c = omega (arith, here, h.recorded, h.pending) in
        let sum : k.pending + n ≡ pending_in d j + n = omega (arith, h.pending) in
        let whole : (k.pending + n) / 16 ≡ grown-blocks = ap (λ (c : ℕ). c / 16) sum in
        let rest : (k.pending + n) % 16 ≡ (pending_in d j + n) % 16 = ap (λ (c : ℕ). c % 16) sum in
        record {
          recorded = omega (arith, h.recorded, whole, w.count, ap (λ (r : Fragment). r.recorded) f);
          zero_filled = h.zero_filled ∙ (sym same ∙ ap (λ (r : Fragment). r.zeroed) (sym f));
          pending = rest ∙ sym after;
          balance = omega (arith, h.balance);
          content =
              λ i l.
              ap (λ (a : ℕ). cond (among address n (a + i)) (sector_at (a + i - address) sectors) (k.content (a + i))) start
              ∙ (ap (λ (a : ℕ). cond (among a n (b + i)) (sector_at (b + i - a) sectors) (k.content (b + i))) from
              ∙ (sectors_after k.content (bytes_of d m p j) sectors b c n (λ a. sector_at (a - (b + c)) sectors)
              (length-bytes d e j grown-blocks g m recorded-now p p w k hp h) h.content
              (λ i l. ap (λ (a : ℕ). sector_at a sectors) (let back : b + c + i - (b + c) ≡ i = omega arith in back)) i (omega (arith, l))
              ∙ ap (λ (l : List ℕ). sector_at i l) written-bytes));
        }

-- a flush in the account
pub flushed_none : (x : Extent) (k : Account) → k.pending ≡ 0 → flushed x k ≡ k
unfolding flushed
flushed_none x k z = grind arith

pub flushed-some : (x : Extent) (k : Account) → (k.pending ≡ 0 → ⊥) → flushed x k ≡ zeroed x (missing k) k
unfolding flushed
flushed-some x k z = grind arith
