-- An admissible sequence with right buffers is decided by the shapes of its requests: block and lengths.
use Prim.Native.Nat.{ℕ, ◌+◌}
use mathlib.Core.Path.{◌≡◌, refl, sym, ap, ◌∙◌}
use mathlib.Core.Bool.{true}
use mathlib.Core.List.{List, [], ◌∷◌, map}
use lib.Dec.{ltb}
use lib.ListN.{length}
use Rattle.fragments.specs.Address.{lba}
use Rattle.disc.specs.Blank.{blank}
use Rattle.commands.specs.Judge.{judge}
use Rattle.disc.specs.Records.{at_address}
use Rattle.outcomes.specs.Recorded.{among}
use Rattle.drive.specs.Step.{Drive, lent}
use Rattle.drive.specs.Alike.{Alike}
use Rattle.drive.proofs.Laws.Alike.{lent-after, step_judges}
use Rattle.history.specs.Types.{Disc, Option, Some, Answer}
use Rattle.history.specs.Sequence.{Start, Turn, found, result, final, Admissible, requests}
use Rattle.history.specs.Account.{Account, opened, extent_of, noted, account_from, account, content_in, recorded_in, waits_in, content_at, recorded_at, pending_at}
use Rattle.history.specs.Witness.{Shape, shape_of, disc_after}
use Rattle.history.specs.Cases.{answers}
use Rattle.history.proofs.Laws.Served.{start-lent}

-- what is lent rightly
abbrev pub Lent : Drive → Type 0
Lent s = lent s.disc (length s.medium) (length s.pending) ≡ true

pub lent_found : (t : Turn) (s : Drive) → Alike s (found t s) → Lent s → Lent (found t s)
lent_found t s a l = rw (sym a.medium_length, sym a.pending_length) l

-- the answers by the shapes
unfoldable pub decisions : List Shape → Disc → List Answer
decisions [] d = []
decisions (h ∷ hs) d =
    let v = judge d h.cdb h.payload h.room in
    v.answer ∷ decisions hs v.disc

-- the account of a fragment by the turns' requests and their shapes
unfoldable pub account_by : ℕ → List Turn → List Shape → Disc → Account → Account
account_by n [] hs d k = k
account_by n (t ∷ ts) [] d k = k
account_by n (t ∷ ts) (h ∷ hs) d k =
    let v = judge d h.cdb h.payload h.room in
    account_by n ts hs v.disc (noted n (extent_of d n) t.request v.answer k)

abbrev pub shapes : List Turn → List Shape
shapes ts = map shape_of (requests ts)

pub decided-disc : (ts : List Turn) (s : Drive) → Lent s → Admissible ts s → (final ts s).disc ≡ disc_after (shapes ts) s.disc
unfolding final Admissible disc_after
decided-disc [] s l h = refl
decided-disc (t ∷ ts) s l h =
    let m = lent_found t s h.0 l in
    decided-disc ts (result t s).after (lent-after (found t s) t.request m) h.1
    ∙ ap (disc_after (shapes ts)) (step_judges (found t s) t.request m).1

pub decided-answers : (ts : List Turn) (s : Drive) → Lent s → Admissible ts s → answers ts s ≡ decisions (shapes ts) s.disc
unfolding answers Admissible decisions
decided-answers [] s l h = refl
decided-answers (t ∷ ts) s l h =
    let m = lent_found t s h.0 l in
    let j = step_judges (found t s) t.request m in
    ap (λ (a : Answer). a ∷ answers ts (result t s).after) j.0
    ∙ ap (λ (rest : List Answer). (judge s.disc t.request.cdb (length t.request.payload) (length t.request.buffer)).answer ∷ rest)
    (decided-answers ts (result t s).after (lent-after (found t s) t.request m) h.1 ∙ ap (decisions (shapes ts)) j.1)

pub decided-account :
    (n : ℕ) (ts : List Turn) (s : Drive) (k : Account) → Lent s → Admissible ts s → account_from n ts s k ≡ account_by n ts (shapes ts) s.disc k
unfolding account_from Admissible account_by
decided-account n [] s k l h = refl
decided-account n (t ∷ ts) s k l h =
    let m = lent_found t s h.0 l in
    let j = step_judges (found t s) t.request m in
    let v = judge s.disc t.request.cdb (length t.request.payload) (length t.request.buffer) in
    decided-account n ts (result t s).after (noted n (extent_of s.disc n) t.request (result t s).answer k)
    (lent-after (found t s) t.request m) h.1
    ∙ (ap (λ (a : Answer). account_by n ts (shapes ts) (result t s).after.disc (noted n (extent_of s.disc n) t.request a k)) j.0
    ∙ ap (λ (d : Disc). account_by n ts (shapes ts) d (noted n (extent_of s.disc n) t.request v.answer k)) j.1)

-- a sequence from a start whose shapes are known
module _ (c : ℕ) (s : Drive) (start : Start c s) (ts : List Turn) (h : Admissible ts s) (hs : List Shape) (same : shapes ts ≡ hs) where
  pub known-answers : answers ts s ≡ decisions hs (blank c)
  known-answers =
      decided-answers ts s (start-lent c s start) h
      ∙ (ap (λ (gs : List Shape). decisions gs s.disc) same ∙ ap (decisions hs) start.disc)

  pub known-disc : (final ts s).disc ≡ disc_after hs (blank c)
  known-disc =
      decided-disc ts s (start-lent c s start) h
      ∙ (ap (λ (gs : List Shape). disc_after gs s.disc) same ∙ ap (disc_after hs) start.disc)

  pub known-account : (n : ℕ) → account n ts s ≡ account_by n ts hs (blank c) opened
  known-account n =
      decided-account n ts s opened (start-lent c s start) h
      ∙ (ap (λ (gs : List Shape). account_by n ts gs s.disc opened) same ∙ ap (λ (d : Disc). account_by n ts hs d opened) start.disc)

  known-place : (a n : ℕ) → at_address (disc_after hs (blank c)) (lba a) ≡ Some n → at_address (final ts s).disc (lba a) ≡ Some n
  known-place a n e = ap (λ (d : Disc). at_address d (lba a)) known-disc ∙ e

  pub known-content :
      (a n : ℕ) → at_address (disc_after hs (blank c)) (lba a) ≡ Some n → content_at ts s a ≡ (account_by n ts hs (blank c) opened).content a
  unfolding content_in
  known-content a n e =
      ap (λ (x : Option ℕ). content_in ts s a x) (known-place a n e) ∙ ap (λ (k : Account). k.content a) (known-account n)

  pub known-recorded :
      (a n : ℕ) → at_address (disc_after hs (blank c)) (lba a) ≡ Some n
      → recorded_at ts s a ≡ ltb a ((extent_of (disc_after hs (blank c)) n).first + (account_by n ts hs (blank c) opened).recorded)
  unfolding recorded_in
  known-recorded a n e =
      ap (λ (x : Option ℕ). recorded_in ts s a x) (known-place a n e)
      ∙ (ap (λ (d : Disc). ltb a ((extent_of d n).first + (account n ts s).recorded)) known-disc
      ∙ ap (λ (k : Account). ltb a ((extent_of (disc_after hs (blank c)) n).first + k.recorded)) (known-account n))

  pub known-waiting :
      (a n : ℕ) → at_address (disc_after hs (blank c)) (lba a) ≡ Some n
      → pending_at ts s a
      ≡ among ((extent_of (disc_after hs (blank c)) n).first + (account_by n ts hs (blank c) opened).recorded) (account_by n ts hs (blank c) opened).pending a
  unfolding waits_in
  known-waiting a n e =
      ap (λ (x : Option ℕ). waits_in ts s a x) (known-place a n e)
      ∙ (ap (λ (d : Disc). among ((extent_of d n).first + (account n ts s).recorded) (account n ts s).pending a) known-disc
      ∙ ap (λ (k : Account). among ((extent_of (disc_after hs (blank c)) n).first + k.recorded) k.pending a) (known-account n))
