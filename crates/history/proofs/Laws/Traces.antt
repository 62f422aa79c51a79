-- Over a history: each fragment's account has at its addresses what accepted WRITEs brought there, and counts those sectors.
use Prim.Native.Nat.{ℕ, ◌+◌, ◌-◌, ◌*◌, ◌≤◌, ◌<◌}
use mathlib.Core.Path.{◌≡◌, refl, sym, ap, ◌∙◌, subst}
use mathlib.Core.Bool.{Bool, true, false, ◌&&◌}
use mathlib.Core.List.{List, [], ◌∷◌, ◌++◌, append-nil, append_assoc}
use native.Mathlib.Omega.{arith}
use borrow.Author.Tests.{eq-eqb, ne_eqb, ltb-true, ltb-false}
use lib.Dec.{eqb, ltb}
use lib.ListN.{length}
use Rattle.protocol.specs.Command.{decode}
use Rattle.outcomes.specs.Recorded.{among}
use Rattle.disc.specs.Records.{numbered}
use Rattle.disc.specs.Ready.{Ready}
use Rattle.disc.specs.Rules.{Sound}
use Rattle.commands.specs.Judge.{perform}
use Rattle.outcomes.proofs.Laws.Accepts.{Takes, write-takes}
use Rattle.fragments.proofs.Laws.Bool.{contradiction, by_cases, cond_yes, cond_no}
use Rattle.commands.proofs.Laws.Judge.{allowed_ready}
use Rattle.outcomes.proofs.Laws.Judge.{decided-performed}
use Rattle.fragments.proofs.Laws.Numbers.{equal_cases}
use Rattle.outcomes.proofs.Laws.Recorded.{among-from, among_below, among_between}
use Rattle.drive.specs.Step.{Drive, Request, Result, verdict_on, carried_out, step}
use Rattle.drive.proofs.Laws.Alike.{step_link, step-refused}
use Rattle.drive.proofs.Laws.Cut.{Served, served-after, served_alike}
use Rattle.drive.proofs.Laws.Step.{verdict_decided}
use Rattle.history.specs.Types.{Lba, Disc, Answer, Accepted, Link, Drive as by_drive, Verdict, Command, TestUnitReady, RequestSense, Inquiry, ReadCapacity, Read, Write, SynchronizeCache, ReserveTrack, CloseTrackSession, GetConfiguration, ReadDiscInformation, ReadTrackInformation, Unlisted}
use Rattle.history.specs.Sequence.{Start, Turn, found, result, final, Admissible}
use Rattle.history.specs.Account.{Extent, Account, opened, extent_of, written, flushed, filled, credited, noted, account_from}
use Rattle.history.specs.Brought.{Written, write_of, accepted_write, writes, brought_to, sole, brought_in}
use Rattle.history.proofs.Laws.Places.{taken, InPlace, taken_within, moved-performed}
use Rattle.history.proofs.Laws.Credit.{covers-own, covers-else}
use Rattle.history.proofs.Laws.Kept.{HoldsOn, answer-holds, found-holds, served-sound, blank-counts, blank-held}
use Rattle.history.proofs.Laws.Brought.{brought_append, brought_one, brought_none, count_split, count_none, count_each, count_same, apart, Pads, pads_same, pads_on, pads_flushed, pads_filled}

-- the first sector of the fragment with a number
abbrev pub base : Disc → ℕ → ℕ
base d n = 16 * (numbered d n).start.0

-- its account by the WRITEs of a history
pub record Traces (d : Disc) (ws : List Written) (n : ℕ) (k : Account) : Type 0 where
  pub content : (i : ℕ) → i < taken d n → k.content (base d n + i) ≡ sole (brought_to (base d n + i) ws)
  pub count : brought_in (base d n) (taken d n) ws ≡ k.accepted

-- nothing was brought to an address that is no fragment's recorded or pending sector
abbrev pub Fresh : Disc → List Written → Type 0
Fresh d ws = (a : ℕ) → ((n : ℕ) → 1 ≤ n → base d n ≤ a → a < base d n + taken d n → ⊥) → brought_to a ws ≡ []

abbrev pub Once : List Written → Type 0
Once ws = (a : ℕ) → length (brought_to a ws) ≤ 1

-- addresses after a fragment's sectors and in its blocks are fresh
pub fresh_after :
    (d : Disc) (ws : List Written) (n : ℕ) → Sound d → 1 ≤ n → Fresh d ws → (a : ℕ) → base d n + taken d n ≤ a
    → a < base d n + 16 * (numbered d n).length → brought_to a ws ≡ []
fresh_after d ws n s one f a beyond inside =
    f a
    (λ m other from below.
    let within = taken_within d m s other in
    let same : n ≡ m = apart d n m a s one other (omega (arith, beyond)) inside from (omega (arith, below, within)) in
    let there : a < base d n + taken d n = subst (λ (i : ℕ). a < base d i + taken d i) (sym same) below in
    omega (arith, there, beyond))

-- one fragment, over an accepted command that brings vs
module _
    (d e : Disc) (ws vs : List Written) (n : ℕ) (k l : Account) (s : Sound d) (one : 1 ≤ n) (p : InPlace d e n) (f : Fresh d ws)
    (before : k.recorded + k.pending ≡ taken d n) (after : l.recorded + l.pending ≡ taken e n) (tr : Traces d ws n k)
  where
    -- more sectors after those that it has
    traces-more :
        (z : ℕ) → taken e n ≡ taken d n + z → ((i : ℕ) → i < taken d n → brought_to (base d n + i) vs ≡ [])
        → ((i : ℕ) → i < taken d n → l.content (base d n + i) ≡ k.content (base d n + i))
        → ((i : ℕ) → i < z → l.content (base d n + taken d n + i) ≡ sole (brought_to (base d n + taken d n + i) vs))
        → l.accepted ≡ k.accepted + brought_in (base d n + taken d n) z vs → Traces e (ws ++ vs) n l
    traces-more z more none old new sum =
        equal_cases (taken e n) 0
        (λ q.
        let c : taken d n ≡ 0 = omega (arith, more, q) in
        let y : z ≡ 0 = omega (arith, more, q) in
        record {
          content = λ i h. absurd (omega (arith, h, q));
          count =
              no-count (base e n) (taken e n) (ws ++ vs) q
              ∙ omega (arith, sum, tr.count, no-count (base d n) (taken d n) ws c, no-count (base d n + taken d n) z vs y);
        })
        (λ q.
        let b = base d n in
        let c = taken d n in
        let start : base e n ≡ b = ap (λ (x : ℕ). 16 * x) (p.start q) in
        let fresh : (i : ℕ) → i < z → brought_to (b + c + i) ws ≡ [] =
        λ i h. fresh_after d ws n s one f (b + c + i) (omega arith) (omega (arith, h, more, p.within)) in
        let first : (i : ℕ) → i < c → brought_to (b + i) (ws ++ vs) ≡ brought_to (b + i) ws =
        λ i h. brought_append (b + i) ws vs ∙ (ap (λ (x : List (List ℕ)). brought_to (b + i) ws ++ x) (none i h) ∙ append-nil (brought_to (b + i) ws)) in
        let second : (i : ℕ) → i < z → brought_to (b + c + i) (ws ++ vs) ≡ brought_to (b + c + i) vs =
        λ i h. brought_append (b + c + i) ws vs ∙ ap (λ (x : List (List ℕ)). x ++ brought_to (b + c + i) vs) (fresh i h) in
        record {
          content =
              λ i h.
              ap (λ (x : ℕ). l.content (x + i)) start
              ∙ (by_cases (ltb i c)
              (λ t.
              let less = ltb-true i c t in
              old i less ∙ (tr.content i less ∙ ap sole (sym (first i less))))
              (λ t.
              let least = ltb-false i c t in
              let j = i - c in
              let less : j < z = omega (arith, least, h, more) in
              let place : b + i ≡ b + c + j = omega (arith, least) in
              ap l.content place ∙ (new j less ∙ (ap sole (sym (second j less)) ∙ ap (λ (x : ℕ). sole (brought_to x (ws ++ vs))) (sym place))))
              ∙ ap (λ (x : ℕ). sole (brought_to (x + i) (ws ++ vs))) (sym start));
          count =
              ap (λ (x : ℕ). brought_in x (taken e n) (ws ++ vs)) start
              ∙ (ap (λ (x : ℕ). brought_in b x (ws ++ vs)) more
              ∙ (count_split b c z (ws ++ vs)
              ∙ omega (arith, count_same b c (ws ++ vs) ws first, count_same (b + c) z (ws ++ vs) vs second, tr.count, sum)));
        })
      where
        no-count : (b c : ℕ) (xs : List Written) → c ≡ 0 → brought_in b c xs ≡ 0
        no-count b c xs z = ap (λ (x : ℕ). brought_in b x xs) z ∙ count_none b 0 xs (λ i h. absurd (omega (arith, h)))

    -- the drive's zeros, where vs brings it nothing
    traces-padded : Pads (base d n) k l → ((i : ℕ) → i < taken e n → brought_to (base d n + i) vs ≡ []) → Traces e (ws ++ vs) n l
    unfolding sole
    traces-padded q none =
        let b = base d n in
        let c = taken d n in
        let size : taken e n ≡ c + q.more = omega (arith, before, after, q.size) in
        let away : (i : ℕ) → i < q.more → brought_to (b + c + i) vs ≡ [] =
        λ i h. let place : b + c + i ≡ b + (c + i) = omega arith in ap (λ (x : ℕ). brought_to x vs) place ∙ none (c + i) (omega (arith, h, size)) in
        traces-more q.more size (λ i h. none i (omega (arith, h, size))) (λ i h. q.old i (omega (arith, h, before)))
        (λ i h.
        ap (λ (x : ℕ). l.content (b + x + i)) (sym before)
        ∙ (q.new i h ∙ ap sole (sym (away i h))))
        (omega (arith, q.accepted, count_none (b + c) q.more vs away))

abbrev writing : ℕ → ℕ → List ℕ → Written
writing a count x = record { address = a; count = count; payload = x }

-- the sectors of a WRITE to the fragment itself
traces_written :
    (d e : Disc) (ws : List Written) (n : ℕ) (k : Account) (a count : ℕ) (x : List ℕ) → Sound d → 1 ≤ n → InPlace d e n → Fresh d ws
    → k.recorded + k.pending ≡ taken d n → (written a count x k).recorded + (written a count x k).pending ≡ taken e n → Traces d ws n k
    → a ≡ base d n + taken d n → Traces e (ws ++ (writing a count x ∷ [])) n (written a count x k)
unfolding written sole
traces_written d e ws n k a count x s one p f before after tr here =
    let b = base d n in
    let c = taken d n in
    let w = writing a count x in
    let covers : (i : ℕ) → i < count → among a count (b + c + i) ≡ true = λ i h. among_between a count (b + c + i) (omega (arith, here)) (omega (arith, here, h)) in
    traces-more d e ws (w ∷ []) n k (written a count x k) s one p f before after tr count (omega (arith, before, after))
    (λ i h. brought_none (b + i) w (λ from below. omega (arith, from, here, h)))
    (λ i h.
    cond_no (among a count (b + i)) _ _
    (by_cases (among a count (b + i)) (λ t. absurd (let from = among-from a count (b + i) t in omega (arith, from, here, h))) (λ t. t)))
    (λ i h. cond_yes (among a count (b + c + i)) _ _ (covers i h) ∙ ap sole (sym (brought_one (b + c + i) w (covers i h))))
    (omega (arith, count_each (b + c) count (w ∷ []) (λ i h. ap (length {A = List ℕ}) (brought_one (b + c + i) w (covers i h)))))

-- an accepted command that is no WRITE to the fragment puts zeros after its sectors, or nothing
credited_pads :
    (n : ℕ) (x : Extent) (c : Command) (sectors : List ℕ) (k : Account) (b : ℕ) → x.first ≡ b
    → ((a : Lba) (count : ℕ) → c ≡ Write a count → (count ≡ 0 → ⊥) → among x.first x.sectors a.0 ≡ false)
    → Pads b k (credited n x c sectors k)
unfolding credited
credited_pads n x (Write a count) sectors k b first none =
    equal_cases count 0
    (λ z. subst (λ (l : Account). Pads b k l) (sym (cond_yes (eqb count 0) k _ (eq-eqb count 0 z))) (pads_same b k))
    (λ z.
    subst (λ (l : Account). Pads b k l)
    (sym
    (cond_no (eqb count 0) k _ (ne_eqb count 0 z)
    ∙ cond_no (among x.first x.sectors a.0) (written a.0 count sectors k) (flushed x k) (none a count refl z)))
    (pads_flushed b x k first))
credited_pads n x SynchronizeCache sectors k b first none = pads_flushed b x k first
credited_pads n x (CloseTrackSession function number) sectors k b first none =
    let test = eqb function 0b001 && eqb number n && x.reserved in
    by_cases test
    (λ t.
    subst (λ (l : Account). Pads b k l) (sym (cond_yes test (filled x (flushed x k)) (flushed x k) t))
    (pads_on b k (flushed x k) (filled x (flushed x k)) (pads_flushed b x k first) (pads_filled b x (flushed x k) first)))
    (λ t. subst (λ (l : Account). Pads b k l) (sym (cond_no test (filled x (flushed x k)) (flushed x k) t)) (pads_flushed b x k first))
credited_pads n x TestUnitReady sectors k b first none = pads_same b k
credited_pads n x (RequestSense allocation) sectors k b first none = pads_same b k
credited_pads n x (Inquiry pageBit allocation) sectors k b first none = pads_same b k
credited_pads n x ReadCapacity sectors k b first none = pads_same b k
credited_pads n x (Read a count) sectors k b first none = pads_same b k
credited_pads n x (ReserveTrack size) sectors k b first none = pads_same b k
credited_pads n x (GetConfiguration request_type start allocation) sectors k b first none = pads_same b k
credited_pads n x (ReadDiscInformation dataType allocation) sectors k b first none = pads_same b k
credited_pads n x (ReadTrackInformation addressType number allocation) sectors k b first none = pads_same b k
credited_pads n x Unlisted sectors k b first none = pads_same b k

-- what a command must keep
pub record Traced (d : Disc) (ws : List Written) (ks : ℕ → Account) : Type 0 where
  pub each : (n : ℕ) → 1 ≤ n → Traces d ws n (ks n)
  pub fresh : Fresh d ws
  pub once : Once ws

-- an accepted command: disc d becomes e, the accounts ks become ls
module _
    (d e : Disc) (ws : List Written) (ks ls : ℕ → Account) (s : Sound d) (p : (n : ℕ) → 1 ≤ n → InPlace d e n)
    (before : (n : ℕ) → 1 ≤ n → (ks n).recorded + (ks n).pending ≡ taken d n) (after : (n : ℕ) → 1 ≤ n → (ls n).recorded + (ls n).pending ≡ taken e n)
    (tr : Traced d ws ks)
  where
    -- what was brought before, at an address that is no fragment's sector afterwards
    fresh-onward :
        ((n : ℕ) → 1 ≤ n → taken d n ≤ taken e n) → (a : ℕ) → ((n : ℕ) → 1 ≤ n → base e n ≤ a → a < base e n + taken e n → ⊥) → brought_to a ws ≡ []
    fresh-onward grows a none = grind arith

    -- it brings nothing
    traced-none : (vs : List Written) → ((a : ℕ) → brought_to a vs ≡ []) → ((n : ℕ) → 1 ≤ n → Pads (base d n) (ks n) (ls n)) → Traced e (ws ++ vs) ls
    traced-none vs none pads =
        let same : (a : ℕ) → brought_to a (ws ++ vs) ≡ brought_to a ws =
        λ a. brought_append a ws vs ∙ (ap (λ (x : List (List ℕ)). brought_to a ws ++ x) (none a) ∙ append-nil (brought_to a ws)) in
        record {
          each =
              λ n one.
              traces-padded d e ws vs n (ks n) (ls n) s one (p n one) tr.fresh (before n one) (after n one) (tr.each n one) (pads n one)
              (λ i h. none (base d n + i));
          fresh =
              λ a h.
              same a ∙ fresh-onward (λ n one. omega (arith, before n one, after n one, (pads n one).size)) a h;
          once = λ a. subst (λ (x : List (List ℕ)). length x ≤ 1) (sym (same a)) (tr.once a);
        }

    -- it is a WRITE of one sector up to fragment j
    traced-write :
        (a : Lba) (count j : ℕ) (x : List ℕ) → 1 ≤ j → a.0 ≡ base d j + taken d j → a.0 + count ≤ base d j + 16 * (numbered d j).length
        → ls j ≡ written a.0 count x (ks j) → ((n : ℕ) → 1 ≤ n → (n ≡ j → ⊥) → Pads (base d n) (ks n) (ls n))
        → 1 ≤ count → Traced e (ws ++ (writing a.0 count x ∷ [])) ls
    unfolding written
    traced-write a count j x own here fits is pads some =
        let w = writing a.0 count x in
        let size : (ls j).recorded + (ls j).pending ≡ taken d j + count =
        ap (λ (l : Account). l.recorded + l.pending) is ∙ omega (arith, before j own) in
        let total : taken e j ≡ taken d j + count = sym (after j own) ∙ size in
        let start : base e j ≡ base d j = ap (λ (y : ℕ). 16 * y) ((p j own).start (λ z. omega (arith, z, total, some))) in
        let grows : (n : ℕ) → 1 ≤ n → taken d n ≤ taken e n =
        λ n one.
        equal_cases n j (λ q. subst (λ (i : ℕ). taken d i ≤ taken e i) (sym q) (omega (arith, total)))
        (λ q. omega (arith, before n one, after n one, (pads n one q).size)) in
        let new : (b : ℕ) → among a.0 count b ≡ true → brought_to b ws ≡ [] =
        λ b t.
        let from = among-from a.0 count b t in
        let below = among_below a.0 count b t in
        fresh_after d ws j s own tr.fresh b (omega (arith, from, here)) (omega (arith, below, fits)) in
        record {
          each =
              λ n one.
              equal_cases n j
              (λ q.
              subst (λ (i : ℕ). Traces e (ws ++ (w ∷ [])) i (ls i)) (sym q)
              (subst (λ (l : Account). Traces e (ws ++ (w ∷ [])) j l) (sym is)
              (traces_written d e ws j (ks j) a.0 count x s own (p j own) tr.fresh (before j own)
              (ap (λ (l : Account). l.recorded + l.pending) (sym is) ∙ after j own) (tr.each j own) here)))
              (λ q.
              traces-padded d e ws (w ∷ []) n (ks n) (ls n) s one (p n one) tr.fresh (before n one) (after n one) (tr.each n one) (pads n one q)
              (λ i h.
              brought_none (base d n + i) w
              (λ from below.
              q (apart d n j (base d n + i) s one own (omega arith) (omega (arith, h, (p n one).within)) (omega (arith, from, here)) (omega (arith, below, fits))))));
          fresh =
              λ b h.
              brought_append b ws (w ∷ [])
              ∙ (ap (λ (y : List (List ℕ)). y ++ brought_to b (w ∷ [])) (fresh-onward grows b h)
              ∙ brought_none b w (λ from below. h j own (omega (arith, from, here, start)) (omega (arith, below, here, start, total))));
          once =
              λ b.
              by_cases (among a.0 count b)
              (λ t.
              subst (λ (y : List (List ℕ)). length y ≤ 1)
              (sym
              (brought_append b ws (w ∷ [])
              ∙ (ap (λ (y : List (List ℕ)). y ++ brought_to b (w ∷ [])) (new b t) ∙ brought_one b w t)))
              (omega arith))
              (λ t.
              subst (λ (y : List (List ℕ)). length y ≤ 1)
              (sym
              (brought_append b ws (w ∷ [])
              ∙ (ap (λ (y : List (List ℕ)). brought_to b ws ++ y) (brought_none b w (λ from below. true-false (among_between a.0 count b from below) t))
              ∙ append-nil (brought_to b ws))))
              (tr.once b));
        }
      where
        true-false : {b : Bool} → b ≡ true → b ≡ false → ⊥
        true-false e f = contradiction e f

-- an account that holds has the fragment's sectors
holds_taken : (s : Drive) (n : ℕ) (k : Account) → HoldsOn s n k → k.recorded + k.pending ≡ taken s.disc n
holds_taken s n k h = omega (arith, h.recorded, h.pending)

is_write : Command → Bool
is_write (Write a count) = true
is_write TestUnitReady = false
is_write (RequestSense allocation) = false
is_write (Inquiry pageBit allocation) = false
is_write ReadCapacity = false
is_write (Read a count) = false
is_write SynchronizeCache = false
is_write (ReserveTrack size) = false
is_write (CloseTrackSession function number) = false
is_write (GetConfiguration request_type start allocation) = false
is_write (ReadDiscInformation dataType allocation) = false
is_write (ReadTrackInformation addressType number allocation) = false
is_write Unlisted = false

-- one command on a drive
module _
    (s : Drive) (q : Request) (w : Served s) (ks : ℕ → Account) (hold : (n : ℕ) → 1 ≤ n → HoldsOn s n (ks n)) (ws : List Written)
    (tr : Traced s.disc ws ks)
  where
    abbrev noting : Command → ℕ → Account
    noting c n = credited n (extent_of s.disc n) c q.payload (ks n)

    ready : Ready s.disc
    ready = allowed_ready s.disc w.range w.allowed

    -- it is accepted
    module _ (accepted : (step s q).answer ≡ Accepted) (c : Command) (is : decode q.cdb ≡ c) where
      performed : verdict_on s q ≡ perform s.disc c
      unfolding step carried_out
      performed = decided-performed s.disc (verdict_on s q) (verdict_decided s q) accepted ∙ ap (perform s.disc) is

      performs : (perform s.disc c).answer ≡ Accepted
      unfolding step carried_out
      performs = sym (ap (λ (v : Verdict). v.answer) performed) ∙ accepted

      command-placed : (n : ℕ) → 1 ≤ n → InPlace s.disc (step s q).after.disc n
      unfolding step carried_out
      command-placed n one =
          subst (λ (v : Verdict). InPlace s.disc v.disc n) (sym performed) (moved-performed s.disc n ready one c performs)

      command-taken : (n : ℕ) → 1 ≤ n → (noting c n).recorded + (noting c n).pending ≡ taken (step s q).after.disc n
      unfolding noted
      command-taken n one =
          subst (λ (y : Command). (noting y n).recorded + (noting y n).pending ≡ taken (step s q).after.disc n) is
          (holds_taken (step s q).after n _ (answer-holds s q n (ks n) w one (hold n one) Accepted accepted))

      abbrev Next : List Written → Type 0
      Next vs = Traced (step s q).after.disc (ws ++ vs) (noting c)

      command-none :
          (vs : List Written) → ((a : ℕ) → brought_to a vs ≡ []) → ((n : ℕ) → 1 ≤ n → Pads (base s.disc n) (ks n) (noting c n)) → Next vs
      command-none vs none pads =
          traced-none s.disc (step s q).after.disc ws ks (noting c) (served-sound s w) command-placed
          (λ n one. holds_taken s n (ks n) (hold n one)) command-taken tr vs none pads

      -- it is no WRITE
      command-plain : is_write c ≡ false → Next []
      unfolding is_write brought_to
      command-plain other =
          command-none [] (λ a. refl)
          (λ n one.
          credited_pads n (extent_of s.disc n) c q.payload (ks n) (base s.disc n) refl
          (λ a count e z. absurd (contradiction (ap is_write e) other)))

    -- it is a WRITE
    module _ (accepted : (step s q).answer ≡ Accepted) (a : Lba) (count : ℕ) (is : decode q.cdb ≡ Write a count) where
      abbrev brings : Written
      brings = writing a.0 count q.payload

      write-empty : count ≡ 0 → Traced (step s q).after.disc (ws ++ (brings ∷ [])) (noting (Write a count))
      write-empty z =
          command-none accepted (Write a count) is (brings ∷ []) (λ b. brought_none b brings (λ from below. omega (arith, from, below, z)))
          (λ n one.
          credited_pads n (extent_of s.disc n) (Write a count) q.payload (ks n) (base s.disc n) refl
          (λ b m e y. absurd (y (sym (counts e) ∙ z))))
        where
          counts : {b c : Lba} {n m : ℕ} → Write b n ≡ Write c m → n ≡ m
          counts e = cc

      write-some : (count ≡ 0 → ⊥) → Traced (step s q).after.disc (ws ++ (brings ∷ [])) (noting (Write a count))
      unfolding perform credited
      write-some z =
          let d = s.disc in
          let t : Takes d a count = write-takes d a count z (performs accepted (Write a count) is) in
          let j = t.number in
          let v = t.here in
          let x = extent_of d j in
          let own : noting (Write a count) j ≡ written a.0 count q.payload (ks j) =
          cond_no (eqb count 0) (ks j) _ (ne_eqb count 0 z)
          ∙ cond_yes (among x.first x.sectors a.0) (written a.0 count q.payload (ks j)) (flushed x (ks j)) (covers-own d a j j ready v refl) in
          traced-write d (step s q).after.disc ws ks (noting (Write a count)) (served-sound s w) (command-placed accepted (Write a count) is)
          (λ n one. holds_taken s n (ks n) (hold n one)) (command-taken accepted (Write a count) is) tr a count j q.payload v.from
          (omega (arith, v.here)) (omega (arith, t.fits)) own
          (λ n one other.
          credited_pads n (extent_of d n) (Write a count) q.payload (ks n) (base d n) refl
          (λ b m e y. subst (λ (l : Lba). among (extent_of d n).first (extent_of d n).sectors l.0 ≡ false) (address e) (covers-else d a j n ready v one other)))
          (some z)
        where
          address : {b c : Lba} {n m : ℕ} → Write b n ≡ Write c m → b ≡ c
          address e = cc

          some : {n : ℕ} → (n ≡ 0 → ⊥) → 1 ≤ n
          some y = omega arith

    accepted-traced :
        (step s q).answer ≡ Accepted → (c : Command) → decode q.cdb ≡ c
        → Traced (step s q).after.disc (ws ++ write_of c q.payload) (noting c)
    unfolding write_of is_write
    accepted-traced e (Write a count) is = equal_cases count 0 (write-empty e a count is) (write-some e a count is)
    accepted-traced e TestUnitReady is = command-plain e TestUnitReady is refl
    accepted-traced e (RequestSense allocation) is = command-plain e (RequestSense allocation) is refl
    accepted-traced e (Inquiry pageBit allocation) is = command-plain e (Inquiry pageBit allocation) is refl
    accepted-traced e ReadCapacity is = command-plain e ReadCapacity is refl
    accepted-traced e (Read a count) is = command-plain e (Read a count) is refl
    accepted-traced e SynchronizeCache is = command-plain e SynchronizeCache is refl
    accepted-traced e (ReserveTrack size) is = command-plain e (ReserveTrack size) is refl
    accepted-traced e (CloseTrackSession function number) is = command-plain e (CloseTrackSession function number) is refl
    accepted-traced e (GetConfiguration request_type start allocation) is = command-plain e (GetConfiguration request_type start allocation) is refl
    accepted-traced e (ReadDiscInformation dataType allocation) is = command-plain e (ReadDiscInformation dataType allocation) is refl
    accepted-traced e (ReadTrackInformation addressType number allocation) is =
        command-plain e (ReadTrackInformation addressType number allocation) is refl
    accepted-traced e Unlisted is = command-plain e Unlisted is refl

    -- by its answer: a refusal leaves list and sectors as they are
    answer-traced :
        (a : Answer) → (step s q).answer ≡ a
        → Traced (step s q).after.disc (ws ++ accepted_write a q) (λ n. noted n (extent_of s.disc n) q a (ks n))
    unfolding accepted_write noted
    answer-traced Accepted e = accepted-traced e (decode q.cdb) refl
    answer-traced (Link x) e =
        subst (λ (vs : List Written). Traced (step s q).after.disc vs ks) (sym (append-nil ws))
        (subst (λ (r : Result). Traced r.after.disc ws ks) (sym (step_link s q x e)) tr)
    answer-traced (by_drive x) e =
        subst (λ (vs : List Written). Traced (step s q).after.disc vs ks) (sym (append-nil ws))
        (subst (λ (r : Result). Traced r.after.disc ws ks) (sym (step-refused s q x e))
        (record {
          each = λ n one. record { content = (tr.each n one).content; count = (tr.each n one).count };
          fresh = tr.fresh;
          once = tr.once;
        }))

-- over a sequence
pub sequence_traced :
    (ts : List Turn) (s : Drive) → Admissible ts s → Served s → (ks : ℕ → Account) → ((n : ℕ) → 1 ≤ n → HoldsOn s n (ks n)) → (ws : List Written)
    → Traced s.disc ws ks → Traced (final ts s).disc (ws ++ writes ts s) (λ n. account_from n ts s (ks n))
unfolding final Admissible account_from writes
sequence_traced [] s h w ks hold ws tr = subst (λ (vs : List Written). Traced s.disc vs ks) (sym (append-nil ws)) tr
sequence_traced (t ∷ ts) s h w ks hold ws tr =
    let here = served_alike s (found t s) h.0 w in
    let q = t.request in
    let a = (result t s).answer in
    let now : (n : ℕ) → 1 ≤ n → HoldsOn (found t s) n (ks n) = λ n one. found-holds s t n (ks n) w one h.0 (hold n one) in
    subst (λ (vs : List Written). Traced (final ts (result t s).after).disc vs (λ n. account_from n (t ∷ ts) s (ks n)))
    (append_assoc ws (accepted_write a q) (writes ts (result t s).after))
    (sequence_traced ts (result t s).after h.1 (served-after (found t s) q here) (λ n. noted n (extent_of s.disc n) q a (ks n))
    (λ n one. answer-holds (found t s) q n (ks n) here one (now n one) a refl) (ws ++ accepted_write a q)
    (answer-traced (found t s) q here ks now ws tr a refl))

-- from a start
pub start_traced : (c : ℕ) (s : Drive) → Start c s → Traced s.disc [] (λ n. opened)
unfolding brought_to
start_traced c s start =
    record {
      each =
          λ n one.
          let none : taken s.disc n ≡ 0 = ap (λ (d : Disc). taken d n) start.disc ∙ omega (arith, (blank-counts c (n - 1)).0, blank-held c n) in
          record { content = λ i h. absurd (omega (arith, h, none)); count = count_none (base s.disc n) (taken s.disc n) [] (λ i h. refl) };
      fresh = λ a h. refl;
      once = λ a. omega arith;
    }
