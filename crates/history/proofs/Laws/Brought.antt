-- What accepted WRITEs brought to the addresses of a fragment: the account's content and its count of accepted sectors.
use Prim.Native.Nat.{ℕ, zero, suc, ◌+◌, ◌-◌, ◌*◌, ◌/◌, ◌≤◌, ◌<◌}
use mathlib.Core.Path.{◌≡◌, refl, sym, ap, ◌∙◌, subst}
use mathlib.Core.Bool.{true, false, cond}
use mathlib.Core.List.{List, [], ◌∷◌, ◌++◌}
use native.Mathlib.Omega.{arith}
use borrow.Author.Tests.{ltb-true, ltb-false, leb-true, leb-false}
use lib.Dec.{eqb, leb, ltb}
use lib.ListN.{length}
use Rattle.outcomes.specs.Recorded.{among}
use Rattle.disc.specs.Records.{used, numbered}
use Rattle.disc.specs.Rules.{Sound}
use Rattle.fragments.proofs.Laws.Bool.{by_cases, cond_yes, cond_no}
use Rattle.outcomes.proofs.Laws.Recorded.{among-from, among_between}
use Rattle.disc.proofs.Laws.Sound.{disjoint}
use Rattle.drive.specs.Bytes.{zeros}
use Rattle.history.specs.Types.{Fragment, Disc}
use Rattle.history.specs.Account.{Extent, Account, sector_at, zeroed, missing, flushed, filled}
use Rattle.history.specs.Brought.{Written, brought_to, brought_in}

-- WRITEs after WRITEs
pub brought_append : (a : ℕ) (ws vs : List Written) → brought_to a (ws ++ vs) ≡ brought_to a ws ++ brought_to a vs
unfolding brought_to
brought_append a [] vs = refl
brought_append a (w ∷ ws) vs =
    let i = brought_append a ws vs in
    by_cases (among w.address w.count a)
    (λ t. rw t (ap (λ (l : List (List ℕ)). sector_at (a - w.address) w.payload ∷ l) i))
    (λ t. rw t i)

-- a WRITE alone: an address that it has, and one that it has not
pub brought_one : (a : ℕ) (w : Written) → among w.address w.count a ≡ true → brought_to a (w ∷ []) ≡ sector_at (a - w.address) w.payload ∷ []
unfolding brought_to
brought_one a w t = cond_yes (among w.address w.count a) _ _ t

pub brought_none : (a : ℕ) (w : Written) → (w.address ≤ a → a < w.address + w.count → ⊥) → brought_to a (w ∷ []) ≡ []
unfolding brought_to
brought_none a w h = grind arith

-- counts over addresses
pub count_split : (a n m : ℕ) (ws : List Written) → brought_in a (n + m) ws ≡ brought_in a n ws + brought_in (a + n) m ws
unfolding brought_in
count_split a zero m ws =
    let none : 0 + m ≡ m = omega arith in
    let here : a + 0 ≡ a = omega arith in
    ap (λ (k : ℕ). brought_in a k ws) none ∙ (ap (λ (b : ℕ). brought_in b m ws) (sym here) ∙ zero-in-front (brought_in (a + 0) m ws))
  where
    zero-in-front : (x : ℕ) → x ≡ 0 + x
    zero-in-front x = omega arith
count_split a (suc n) m ws =
    let more : suc n + m ≡ suc (n + m) = omega arith in
    let next : a + 1 + n ≡ a + suc n = omega arith in
    ap (λ (k : ℕ). brought_in a k ws) more
    ∙ omega (arith, count_split (a + 1) n m ws, ap (λ (b : ℕ). brought_in b m ws) next)

pub count_none : (a n : ℕ) (ws : List Written) → ((i : ℕ) → i < n → brought_to (a + i) ws ≡ []) → brought_in a n ws ≡ 0
unfolding brought_in
count_none a zero ws h = refl
count_none a (suc n) ws h =
    let here : a + 0 ≡ a = omega arith in
    let first : length (brought_to a ws) ≡ 0 = ap (λ (b : ℕ). length (brought_to b ws)) (sym here) ∙ ap (length {A = List ℕ}) (h 0 (omega arith)) in
    omega (
      arith,
      first,
      count_none (a + 1) n ws (λ i l. let next : a + 1 + i ≡ a + suc i = omega arith in ap (λ (b : ℕ). brought_to b ws) next ∙ h (suc i) (omega (arith, l))),
    )

pub count_each : (a n : ℕ) (ws : List Written) → ((i : ℕ) → i < n → length (brought_to (a + i) ws) ≡ 1) → brought_in a n ws ≡ n
unfolding brought_in
count_each a zero ws h = refl
count_each a (suc n) ws h =
    let here : a + 0 ≡ a = omega arith in
    let first : length (brought_to a ws) ≡ 1 = ap (λ (b : ℕ). length (brought_to b ws)) (sym here) ∙ h 0 (omega arith) in
    omega (
      arith,
      first,
      count_each (a + 1) n ws
          (λ i l. let next : a + 1 + i ≡ a + suc i = omega arith in ap (λ (b : ℕ). length (brought_to b ws)) next ∙ h (suc i) (omega (arith, l))),
    )

pub count_same : (a n : ℕ) (ws vs : List Written) → ((i : ℕ) → i < n → brought_to (a + i) ws ≡ brought_to (a + i) vs) → brought_in a n ws ≡ brought_in a n vs
unfolding brought_in
count_same a zero ws vs h = refl
count_same a (suc n) ws vs h =
    let here : a + 0 ≡ a = omega arith in
    let first : length (brought_to a ws) ≡ length (brought_to a vs) =
    ap (λ (b : ℕ). length (brought_to b ws)) (sym here) ∙ (ap (length {A = List ℕ}) (h 0 (omega arith)) ∙ ap (λ (b : ℕ). length (brought_to b vs)) here) in
    let rest =
    count_same (a + 1) n ws vs
    (λ i l.
    let next : a + 1 + i ≡ a + suc i = omega arith in
    ap (λ (b : ℕ). brought_to b ws) next ∙ (h (suc i) (omega (arith, l)) ∙ ap (λ (b : ℕ). brought_to b vs) (sym next))) in
    omega (arith, first, rest)

-- an address is in one fragment at the most
pub apart :
    (d : Disc) (n m a : ℕ) → Sound d → 1 ≤ n → 1 ≤ m → 16 * (numbered d n).start.0 ≤ a
    → a < 16 * (numbered d n).start.0 + 16 * (numbered d n).length → 16 * (numbered d m).start.0 ≤ a
    → a < 16 * (numbered d m).start.0 + 16 * (numbered d m).length → n ≡ m
apart d n m a s one₁ one₂ from₁ below₁ from₂ below₂ =
    let l₁ = in_use n one₁ (omega (arith, from₁, below₁)) in
    let l₂ = in_use m one₂ (omega (arith, from₂, below₂)) in
    let same =
    disjoint d s (n - 1) (m - 1) (a / 16) (omega (arith, l₁, one₁)) (omega (arith, l₂, one₂)) (omega (arith, from₁)) (omega (arith, below₁))
    (omega (arith, from₂)) (omega (arith, below₂)) in
    omega (arith, same, one₁, one₂)
  where
    in_use : (k : ℕ) → 1 ≤ k → 1 ≤ (numbered d k).length → k ≤ used d
    in_use k one long =
        by_cases (leb k (used d)) (λ t. leb-true k (used d) t)
        (λ t.
        let none = s.unused (k - 1) (let l = leb-false k (used d) t in omega arith) in
        absurd (omega (arith, long, ap (λ (f : Fragment). f.length) none)))

-- an account that the drive's zeros are put after, as a fragment that begins at b has it
pub record Pads (b : ℕ) (k l : Account) : Type 0 where
  pub more : ℕ
  pub accepted : l.accepted ≡ k.accepted
  pub size : l.recorded + l.pending ≡ k.recorded + k.pending + more
  pub old : (i : ℕ) → i < k.recorded + k.pending → l.content (b + i) ≡ k.content (b + i)
  pub new : (i : ℕ) → i < more → l.content (b + (k.recorded + k.pending) + i) ≡ zeros 2048

pub pads_same : (b : ℕ) (k : Account) → Pads b k k
pads_same b k = grind arith

pads_zeroed : (b : ℕ) (x : Extent) (z : ℕ) (k : Account) → x.first ≡ b → Pads b k (zeroed x z k)
pads_zeroed b x z k first =
    let base : x.first + k.recorded + k.pending ≡ b + (k.recorded + k.pending) = omega (arith, first) in
    record {
      more = z;
      accepted = refl;
      size = omega arith;
      old =
          λ i h.
          ap (λ (a : ℕ). cond (among a z (b + i)) (zeros 2048) (k.content (b + i))) base
          ∙ cond_no (among (b + (k.recorded + k.pending)) z (b + i)) _ _ (before (b + (k.recorded + k.pending)) z (b + i) (omega (arith, h)));
      new =
          λ i h.
          let a = b + (k.recorded + k.pending) in
          ap (λ (c : ℕ). cond (among c z (a + i)) (zeros 2048) (k.content (a + i))) base
          ∙ cond_yes (among a z (a + i)) _ _ (among_between a z (a + i) (omega arith) (omega (arith, h)));
    }
  where
    before : (b n a : ℕ) → a < b → among b n a ≡ false
    before b n a h = by_cases (among b n a) (λ t. absurd (let from = among-from b n a t in omega arith)) (λ t. t)

pub pads_on : (b : ℕ) (k l m : Account) → Pads b k l → Pads b l m → Pads b k m
pads_on b k l m p q =
    record {
      more = p.more + q.more;
      accepted = q.accepted ∙ p.accepted;
      size = omega (arith, p.size, q.size);
      old = λ i h. q.old i (omega (arith, h, p.size)) ∙ p.old i h;
      new =
          λ i h.
          by_cases (ltb i p.more)
          (λ t.
          let less = ltb-true i p.more t in
          let place : b + (k.recorded + k.pending) + i ≡ b + (k.recorded + k.pending + i) = omega arith in
          ap m.content place
          ∙ (q.old (k.recorded + k.pending + i) (omega (arith, less, p.size)) ∙ (ap l.content (sym place) ∙ p.new i less)))
          (λ t.
          let least = ltb-false i p.more t in
          let place : b + (k.recorded + k.pending) + i ≡ b + (l.recorded + l.pending) + (i - p.more) = omega (arith, least, p.size) in
          ap m.content place ∙ q.new (i - p.more) (omega (arith, least, h)));
    }

pub pads_flushed : (b : ℕ) (x : Extent) (k : Account) → x.first ≡ b → Pads b k (flushed x k)
unfolding flushed
pads_flushed b x k first =
    by_cases (eqb k.pending 0)
    (λ t. subst (λ (l : Account). Pads b k l) (sym (cond_yes (eqb k.pending 0) k (zeroed x (missing k) k) t)) (pads_same b k))
    (λ t.
    subst (λ (l : Account). Pads b k l) (sym (cond_no (eqb k.pending 0) k (zeroed x (missing k) k) t))
    (pads_zeroed b x (missing k) k first))

pub pads_filled : (b : ℕ) (x : Extent) (k : Account) → x.first ≡ b → Pads b k (filled x k)
unfolding filled
pads_filled b x k first = pads_zeroed b x (x.sectors - k.recorded) k first
