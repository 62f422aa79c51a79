-- What is read is what was written, request by request; and the kept count of every fragment as it is listed.
use Prim.Native.Nat.{ℕ, ◌+◌, ◌-◌, ◌*◌, ◌≤◌, ◌<◌}
use mathlib.Core.Path.{◌≡◌, refl, sym, ap, ◌∙◌, subst}
use mathlib.Core.Bool.{true}
use mathlib.Core.List.{List, [], ◌∷◌, ◌++◌, append_assoc}
use native.Mathlib.Omega.{arith}
use borrow.Author.Tests.{ltb-true}
use lib.ListN.{length}
use Rattle.fragments.specs.Address.{lba}
use Rattle.protocol.specs.Command.{decode}
use Rattle.disc.specs.Records.{numbered, at_address, is_readable}
use Rattle.disc.specs.Rules.{Sound}
use Rattle.disc.proofs.Laws.Readable.{located, located-readable, nowhere-unreadable}
use Rattle.outcomes.proofs.Laws.Recorded.{among_between}
use Rattle.drive.specs.Alike.{Alike}
use Rattle.drive.specs.Step.{Drive}
use Rattle.drive.proofs.Laws.Reads.{read-readable}
use Rattle.history.specs.Types.{Lba, Option, Some, None, Accepted, Read, Write, Answer, Command}
use Rattle.history.specs.Sequence.{Start, Turn, found, result, final, Admissible}
use Rattle.history.specs.Account.{opened, extent_of, sector_at, account, content_in}
use Rattle.history.specs.Brought.{Written, write_of, accepted_write, writes, brought_to, sole, brought_in, ReadBack, brought_into, ListedKeeps, KeptAsListed}
use Rattle.history.proofs.Laws.Served.{start-served, sequence_served}
use Rattle.history.proofs.Laws.Kept.{start-holds, served-sound, kept_account}
use Rattle.history.proofs.Laws.Places.{taken, taken_within}
use Rattle.history.proofs.Laws.Brought.{brought_append, brought_one, count_split, count_none}
use Rattle.history.proofs.Laws.Traces.{base, Traced, fresh_after, sequence_traced, start_traced}

-- at every point of a sequence from a start
module _ (c : ℕ) (s : Drive) (start : Start c s) (ts : List Turn) (h : Admissible ts s) where
  abbrev there : Drive
  there = final ts s

  traced : Traced there.disc (writes ts s) (λ n. account n ts s)
  traced = sequence_traced ts s h (start-served c s start) (λ n. opened) (λ n one. start-holds c s start n) [] (start_traced c s start)

  there-sound : Sound there.disc
  there-sound = served-sound there (sequence_served ts s h (start-served c s start))

  -- the account's content of a readable address
  content-found :
      (a : ℕ) (x : Option ℕ) → at_address there.disc (lba a) ≡ x → is_readable there.disc (lba a) ≡ true
      → content_in ts s a x ≡ sole (brought_to a (writes ts s))
  unfolding content_in
  content-found a (Some n) e r =
      let d = there.disc in
      let w = located d a n e in
      let below = ltb-true a _ (sym (located-readable d a there-sound n w) ∙ r) in
      let i = a - base d n in
      let place : a ≡ base d n + i = omega (arith, w.first) in
      ap (account n ts s).content place
      ∙ ((traced.each n w.from).content i (omega (arith, w.first, below)) ∙ ap (λ (b : ℕ). sole (brought_to b (writes ts s))) (sym place))
  content-found a None e r = absurd (nowhere-unreadable there.disc a there-sound e r)

  point-back :
      (t : Turn) → Alike there (found t there) → (a : Lba) (n : ℕ) → decode t.request.cdb ≡ Read a n → (result t there).answer ≡ Accepted
      → (i : ℕ) → i < n → sector_at i (result t there).reply ≡ sole (brought_to (a.0 + i) (writes ts s))
  point-back t alike a n e accepted i l =
      kept_account.back c s start ts h t alike a n e accepted i l
      ∙ content-found (a.0 + i) (at_address there.disc (lba (a.0 + i))) refl
      (read-readable (found t there) t.request a n e accepted (λ z. omega (arith, z, l)) i l)

  -- the sectors brought to a fragment's addresses are those that its account accepted
  point-accepted : (n : ℕ) → 1 ≤ n → (account n ts s).accepted ≡ brought_into (extent_of there.disc n) (writes ts s)
  point-accepted n one =
      let d = there.disc in
      let ws = writes ts s in
      let b = base d n in
      let k = taken d n in
      let size = 16 * (numbered d n).length in
      let within = taken_within d n there-sound one in
      let whole : size ≡ k + (size - k) = omega (arith, within) in
      let beyond : brought_in (b + k) (size - k) ws ≡ 0 =
      count_none (b + k) (size - k) ws (λ i l. fresh_after d ws n there-sound one traced.fresh (b + k + i) (omega arith) (omega (arith, l, within))) in
      sym (ap (λ (m : ℕ). brought_in b m ws) whole ∙ (count_split b k (size - k) ws ∙ omega (arith, beyond, (traced.each n one).count)))

  point-keeps : (n : ℕ) → 1 ≤ n → ListedKeeps (writes ts s) there.disc n
  point-keeps n one =
      let k = kept_account.keeps c s start ts h n one in
      let a = point-accepted n one in
      record {
        kept = omega (arith, k.kept, k.within, k.recorded, k.zero_filled, k.pending, a);
        within = omega (arith, k.within, k.pending, a);
      }

-- one sequence after another
writes-append : (ts us : List Turn) (s : Drive) → writes (ts ++ us) s ≡ writes ts s ++ writes us (final ts s)
unfolding writes final
writes-append [] us s = refl
writes-append (t ∷ ts) us s =
    let first = accepted_write (result t s).answer t.request in
    ap (λ (ws : List Written). first ++ ws) (writes-append ts us (result t s).after)
    ∙ sym (append_assoc first (writes ts (result t s).after) (writes us (final ts (result t s).after)))

-- a sector that stands in a list of one at the most is the sole one
sole_of : (xs : List (List ℕ)) (y : List ℕ) (ys : List (List ℕ)) → length (xs ++ (y ∷ ys)) ≤ 1 → sole (xs ++ (y ∷ ys)) ≡ y
unfolding sole
sole_of [] y ys h = refl
sole_of (x ∷ []) y ys h = absurd (omega (arith, h))
sole_of (x ∷ (z ∷ zs)) y ys h = absurd (omega (arith, h))

-- a WRITE of the sequence, at one of its addresses
brought_there :
    (ts : List Turn) (w : Turn) (us : List Turn) (s : Drive) (a : Lba) (n i : ℕ) → decode w.request.cdb ≡ Write a n
    → (result w (final ts s)).answer ≡ Accepted → i < n
    → brought_to (a.0 + i) (writes (ts ++ (w ∷ us)) s)
    ≡ brought_to (a.0 + i) (writes ts s)
    ++ (sector_at i w.request.payload ∷ brought_to (a.0 + i) (writes us (result w (final ts s)).after))
unfolding writes accepted_write write_of
brought_there ts w us s a n i is accepted l =
    let b = a.0 + i in
    let x = w.request.payload in
    let one : Written = record { address = a.0; count = n; payload = x } in
    let rest = writes us (result w (final ts s)).after in
    let back : b - a.0 ≡ i = omega arith in
    let this : accepted_write (result w (final ts s)).answer w.request ≡ one ∷ [] =
    ap (λ (y : Answer). accepted_write y w.request) accepted ∙ ap (λ (y : Command). write_of y x) is in
    ap (brought_to b) (writes-append ts (w ∷ us) s)
    ∙ (brought_append b (writes ts s) (accepted_write (result w (final ts s)).answer w.request ++ rest)
    ∙ ap (λ (y : List (List ℕ)). brought_to b (writes ts s) ++ y)
    (ap (λ (ws : List Written). brought_to b (ws ++ rest)) this
    ∙ (brought_append b (one ∷ []) rest
    ∙ (ap (λ (y : List (List ℕ)). y ++ brought_to b rest) (brought_one b one (among_between a.0 n b (omega arith) (omega (arith, l))))
    ∙ ap (λ (j : ℕ). sector_at j x ∷ brought_to b rest) back))))

-- the theorems
pub read_back : ReadBack
read_back =
    record {
      once = λ c s start ts h a. (traced c s start ts h).once a;
      back = point-back;
      later =
          λ c s start ts w us h a n is accepted t alike b m e read i j l k same.
          let ws = writes (ts ++ (w ∷ us)) s in
          let there = brought_there ts w us s a n i is accepted l in
          let most = subst (λ (y : List (List ℕ)). length y ≤ 1) there ((traced c s start (ts ++ (w ∷ us)) h).once (a.0 + i)) in
          point-back c s start (ts ++ (w ∷ us)) h t alike b m e read j k
          ∙ (ap (λ (x : ℕ). sole (brought_to x ws)) (sym same)
          ∙ (ap sole there
          ∙ sole_of (brought_to (a.0 + i) (writes ts s)) (sector_at i w.request.payload)
          (brought_to (a.0 + i) (writes us (result w (final ts s)).after)) most));
    }

pub kept_as_listed : KeptAsListed
kept_as_listed = record { keeps = point-keeps; accepted = point-accepted }
