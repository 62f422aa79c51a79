-- Wide witnesses: admissible sequences of any requests over any stale bytes, and the same again with accepted WRITEs cut in any way.
use Prim.Native.Nat.{ℕ, suc, ◌+◌, ◌-◌, ◌*◌, ◌≤◌, ◌<◌}
use mathlib.Core.Path.{◌≡◌, refl, sym, ap, ◌∙◌, subst}
use mathlib.Core.Bool.{Bool, true, false, ◌&&◌}
use mathlib.Core.Logic.{◌⊎◌, inl, inr}
use mathlib.Core.List.{List, [], ◌∷◌, ◌++◌, map}
use native.Mathlib.Omega.{arith}
use borrow.Author.Tests.{ne_eqb, leb-true, ltb-true, le-ltb}
use lib.Dec.{eqb, leb, ltb}
use lib.ListN.{length, get_or, take, drop, length-drop, take-append-drop}
use lib.Seq.{length-take-le}
use Rattle.fragments.specs.Address.{lba}
use Rattle.disc.specs.Blank.{in_range, blank}
use Rattle.protocol.specs.Command.{decode}
use Rattle.commands.specs.Write.{write}
use Rattle.outcomes.proofs.Laws.Accepts.{Takes, takes-accepted}
use Rattle.disc.proofs.Laws.Blank.{range_least, blank-allowed, blank_capacity}
use Rattle.commands.proofs.Laws.Judge.{allowed_ready}
use Rattle.disc.proofs.Laws.Rules.{sound-rules}
use Rattle.fragments.proofs.Laws.Bool.{and_left, and_right, by_cases, cond_yes, cond_no}
use Rattle.drive.specs.Bytes.{zeros}
use Rattle.drive.specs.Step.{Drive, Request, request, carried_out, step}
use Rattle.drive.specs.Alike.{recorded_byte}
use Rattle.drive.specs.Requests.{WriteOf}
use Rattle.drive.proofs.Laws.Bytes.{length-zeros}
use Rattle.drive.proofs.Laws.Cut.{write_verdict}
use Rattle.history.specs.Types.{Lba, Disc, Verdict, Answer, Accepted, Link, Drive as by_drive, Command, TestUnitReady, RequestSense, Inquiry, ReadCapacity, Read, Write, SynchronizeCache, ReserveTrack, CloseTrackSession, GetConfiguration, ReadDiscInformation, ReadTrackInformation, Unlisted}
use Rattle.history.specs.Sequence.{Start, Turn, result, final}
use Rattle.history.specs.Forms.{longest, addresses, write_cdb}
use Rattle.history.specs.Cut.{Parts, none, part, CutOf, Again, ends, same, cut}
use Rattle.history.specs.Stale.{pending_byte, Given, turn, given}
use Rattle.history.specs.Wide.{filled_by, Portion, parts_of, total, nameable, is_cut, recut_command, recut, second, Wide}
use Rattle.history.proofs.Laws.Forms.{write_cdb_lem}
use Rattle.history.proofs.Laws.Served.{start-served}
use Rattle.history.proofs.Laws.Stale.{length-stirred, stirred_stale, given_admissible, given-requests}

-- portions make parts
parts_of_lem :
    (a : ℕ) (ks : List Portion) (x : List ℕ) → nameable a ks ≡ true → length x ≡ 2048 * total ks → Parts (lba a) (total ks) x (parts_of a ks x)
unfolding parts_of total nameable
parts_of_lem a [] x t h = subst (λ (y : List ℕ). Parts (lba a) 0 y []) (sym (empty x h)) (none (lba a))
  where
    empty : (x : List ℕ) → length x ≡ 0 → x ≡ []
    empty [] h = refl
    empty (y ∷ ys) h = absurd (omega (arith, h))
parts_of_lem a (k ∷ ks) x t h =
    let n = k.sectors in
    let some-sector = leb 1 n in
    let few-sectors = leb n (longest k.form) in
    let rest-named = nameable (a + n) ks in
    let here = and_left (some-sector && few-sectors && ltb a addresses) rest-named t in
    let sized = and_left (some-sector && few-sectors) (ltb a addresses) here in
    let some = leb-true 1 n (and_left some-sector few-sectors sized) in
    let few = leb-true n (longest k.form) (and_right some-sector few-sectors sized) in
    let near = ltb-true a addresses (and_right (some-sector && few-sectors) (ltb a addresses) here) in
    let size : length (take (2048 * n) x) ≡ 2048 * n = length-take-le (2048 * n) x (omega (arith, h)) in
    let rest : length (drop (2048 * n) x) ≡ 2048 * total ks = length-drop (2048 * n) x ∙ omega (arith, h) in
    subst (λ (y : List ℕ). Parts (lba a) (n + total ks) y (parts_of a (k ∷ ks) x)) (take-append-drop (2048 * n) x)
    (part (lba a) n (total ks) (request (write_cdb k.form a n) (take (2048 * n) x) []) (drop (2048 * n) x) (parts_of (a + n) ks (drop (2048 * n) x)) some
    (write_cdb_lem k.form a n near few (take (2048 * n) x) size)
    (parts_of_lem (a + n) ks (drop (2048 * n) x) (and_right (some-sector && few-sectors && ltb a addresses) rest-named t) rest))

length_parts : (a : ℕ) (ks : List Portion) (x : List ℕ) → length (parts_of a ks x) ≡ length ks
unfolding parts_of
length_parts a [] x = refl
length_parts a (k ∷ ks) x = ap suc (length_parts (a + k.sectors) ks (drop (2048 * k.sectors) x))

-- what the test says
module _ (q : Request) (a n : ℕ) (ks : List Portion) where
  abbrev block-fits : Bool
  block-fits = eqb (length q.cdb) 12

  abbrev data_fits : Bool
  data_fits = eqb (length q.payload) (2048 * n)

  abbrev is-several : Bool
  is-several = leb 2 (length ks)

  abbrev is_whole : Bool
  is_whole = eqb (total ks) n

  record Cuts : Type 0 where
    cdb : length q.cdb ≡ 12
    payload : length q.payload ≡ 2048 * n
    several : 2 ≤ length ks
    whole : total ks ≡ n
    named : nameable a ks ≡ true

  test-cuts : is_cut q a n ks ≡ true → Cuts
  test-cuts t = grind arith

  cuts-test : Cuts → is_cut q a n ks ≡ true
  cuts-test c = grind arith

-- the parts of a command again are a cut, or there is but the command
cut_of : (q : Request) (a : Lba) (n : ℕ) (ks : List Portion) → decode q.cdb ≡ Write a n → Cuts q a.0 n ks → CutOf q (parts_of a.0 ks q.payload)
cut_of q a n ks is c =
    record {
      address = a;
      count = n;
      whole = record { cdb = c.cdb; command = is; payload = c.payload };
      several = subst (λ (k : ℕ). 2 ≤ k) (sym (length_parts a.0 ks q.payload)) c.several;
      parts =
          subst (λ (k : ℕ). Parts a k q.payload (parts_of a.0 ks q.payload)) c.whole
          (parts_of_lem a.0 ks q.payload c.named (c.payload ∙ ap (λ (k : ℕ). 2048 * k) (sym c.whole)));
    }

pub parts_cut :
    (q : Request) (a : Lba) (n : ℕ) (ks : List Portion) → WriteOf q a n → 2 ≤ length ks → total ks ≡ n → nameable a.0 ks ≡ true
    → CutOf q (parts_of a.0 ks q.payload)
parts_cut q a n ks w several whole names =
    cut_of q a n ks w.command (record { cdb = w.cdb; payload = w.payload; several = several; whole = whole; named = names })

abbrev Recut : Request → List Request → Type 0
Recut q qs = (qs ≡ q ∷ []) ⊎ (CutOf q qs)

recut_command_lem : (ks : List Portion) (q : Request) (c : Command) → decode q.cdb ≡ c → Recut q (recut_command ks q c)
unfolding recut_command
recut_command_lem ks q (Write a n) is =
    by_cases (is_cut q a.0 n ks)
    (λ t.
    inr
    (subst (λ (qs : List Request). CutOf q qs) (sym (cond_yes (is_cut q a.0 n ks) (parts_of a.0 ks q.payload) (q ∷ []) t))
    (cut_of q a n ks is (test-cuts q a.0 n ks t))))
    (λ t. inl (cond_no (is_cut q a.0 n ks) (parts_of a.0 ks q.payload) (q ∷ []) t))
recut_command_lem ks q TestUnitReady is = inl refl
recut_command_lem ks q (RequestSense allocation) is = inl refl
recut_command_lem ks q (Inquiry pageBit allocation) is = inl refl
recut_command_lem ks q ReadCapacity is = inl refl
recut_command_lem ks q (Read a n) is = inl refl
recut_command_lem ks q SynchronizeCache is = inl refl
recut_command_lem ks q (ReserveTrack size) is = inl refl
recut_command_lem ks q (CloseTrackSession function n) is = inl refl
recut_command_lem ks q (GetConfiguration request_type start allocation) is = inl refl
recut_command_lem ks q (ReadDiscInformation dataType allocation) is = inl refl
recut_command_lem ks q (ReadTrackInformation addressType n allocation) is = inl refl
recut_command_lem ks q Unlisted is = inl refl

recut_is : (a : Answer) (ks : List Portion) (q : Request) → (recut a ks q ≡ q ∷ []) ⊎ ((a ≡ Accepted) × CutOf q (recut a ks q))
unfolding recut
recut_is Accepted ks q = elim (recut_command_lem ks q (decode q.cdb) refl) [ inl e ↦ inl e | inr c ↦ inr (refl, c) ]
recut_is (Link r) ks q = inl refl
recut_is (by_drive r) ks q = inl refl

-- a sequence given in two pieces
given-append : (gs hs : List Given) (s : Drive) → given (gs ++ hs) s ≡ given gs s ++ given hs (final (given gs s) s)
unfolding given final
given-append [] hs s = refl
given-append (g ∷ gs) hs s = ap (λ (ts : List Turn). turn g s ∷ ts) (given-append gs hs (result (turn g s) s).after)

abbrev asked : List Given → List Request
asked hs = map (λ (h : Given). h.request) hs

record Split (hs : List Given) (xs ys : List Request) : Type 0 where
  front : List Given
  back : List Given
  joined : hs ≡ front ++ back
  first : asked front ≡ xs
  rest : asked back ≡ ys

cons_head : {q r : Request} {qs rs : List Request} → q ∷ qs ≡ r ∷ rs → q ≡ r
cons_head e = cc

cons_tail : {q r : Request} {qs rs : List Request} → q ∷ qs ≡ r ∷ rs → qs ≡ rs
cons_tail e = cc

split : (hs : List Given) (xs ys : List Request) → asked hs ≡ xs ++ ys → Split hs xs ys
split hs [] ys e = record { front = []; back = hs; joined = refl; first = refl; rest = e }
split [] (x ∷ xs) ys e = absurd (let z : ◌≡◌ {A = ℕ} 0 1 = cc in omega arith)
split (h ∷ hs) (x ∷ xs) ys e =
    let i = split hs xs ys (cons_tail e) in
    record {
      front = h ∷ i.front;
      back = i.back;
      joined = ap (λ (l : List Given). h ∷ l) i.joined;
      first = λ j. cons_head e j ∷ i.first j;
      rest = i.rest;
    }

nothing_asked : (hs : List Given) → asked hs ≡ [] → hs ≡ []
nothing_asked [] e = refl
nothing_asked (h ∷ hs) e = absurd (let z : ◌≡◌ {A = ℕ} 0 1 = cc in omega arith)

-- a command as it was
again_same :
    (g h : Given) (ts : List Turn) (hs : List Given) (s e : Drive) → h.request ≡ g.request
    → Again (result (turn g s) s).after ts (given hs (result (turn h e) e).after) → Again s (turn g s ∷ ts) (given (h ∷ hs) e)
unfolding given
again_same g h ts hs s e q w =
    same s (turn g s) (turn h e) ts (given hs (result (turn h e) e).after)
    (record {
      cdb = ap (λ (r : Request). r.cdb) (sym q);
      payload = ap (λ (r : Request). r.payload) (sym q);
      room = ap (λ (r : Request). length r.buffer) (sym q);
    }) w

again_one :
    (g : Given) (ts : List Turn) (fs hs : List Given) (s e : Drive) → asked fs ≡ g.request ∷ []
    → ((d : Drive) → Again (result (turn g s) s).after ts (given hs d)) → Again s (turn g s ∷ ts) (given (fs ++ hs) e)
again_one g ts [] hs s e q w = absurd (let z : ◌≡◌ {A = ℕ} 0 1 = cc in omega arith)
again_one g ts (f ∷ []) hs s e q w = again_same g f ts hs s e (cons_head q) (w (result (turn f e) e).after)
again_one g ts (f ∷ (k ∷ fs)) hs s e q w = absurd (let r = cons_tail q in let z : ◌≡◌ {A = ℕ} 0 1 = cc in omega arith)

-- the whole sequence
again_given :
    (cuts : List (List Portion)) (gs hs : List Given) (s e : Drive) → asked hs ≡ second cuts gs s → Again s (given gs s) (given hs e)
unfolding second given
again_given cuts [] hs s e q = subst (λ (l : List Given). Again s [] (given l e)) (sym (nothing_asked hs q)) (ends s)
again_given [] (g ∷ gs) hs s e q =
    let x = split hs (g.request ∷ []) (second [] gs (result (turn g s) s).after) q in
    subst (λ (l : List Given). Again s (given (g ∷ gs) s) (given l e)) (sym x.joined)
    (again_one g (given gs (result (turn g s) s).after) x.front x.back s e x.first
    (λ d. again_given [] gs x.back (result (turn g s) s).after d x.rest))
again_given (ks ∷ cuts) (g ∷ gs) hs s e q =
    let a = (result (turn g s) s).answer in
    let after = (result (turn g s) s).after in
    let x = split hs (recut a ks g.request) (second cuts gs after) q in
    subst (λ (l : List Given). Again s (given (g ∷ gs) s) (given l e)) (sym x.joined)
    (elim (recut_is a ks g.request) [
      | inl r ↦
          again_one g (given gs after) x.front x.back s e (x.first ∙ r) (λ d. again_given cuts gs x.back after d x.rest)
      | inr r ↦
          let ps = given x.front e in
          cut s (turn g s) (given gs after) ps (given x.back (final ps e)) (given (x.front ++ x.back) e) r.0
          (subst (λ (qs : List Request). CutOf g.request qs) (sym (given-requests x.front e ∙ x.first)) r.1)
          (again_given cuts gs x.back after (final ps e) x.rest) (given-append x.front x.back e)
    ])

-- a WRITE in so many parts
recut_parts :
    (q : Request) (a : Lba) (n : ℕ) (ks : List Portion) → WriteOf q a n → 2 ≤ length ks → total ks ≡ n → nameable a.0 ks ≡ true
    → length (recut Accepted ks q) ≡ length ks
unfolding recut recut_command
recut_parts q a n ks w several whole names =
    let c : Cuts q a.0 n ks = record { cdb = w.cdb; payload = w.payload; several = several; whole = whole; named = names } in
    ap (λ (x : Command). length (recut_command ks q x)) w.command
    ∙ (ap (λ (qs : List Request). length qs) (cond_yes (is_cut q a.0 n ks) (parts_of a.0 ks q.payload) (q ∷ []) (cuts-test q a.0 n ks c))
    ∙ length_parts a.0 ks q.payload)

-- bytes by their index
filled-length : (f : ℕ → ℕ) (n : ℕ) → length (filled_by f n) ≡ n
filled-length f n = length-stirred (λ i. false) (λ i x. f i) 0 (zeros n) ∙ length-zeros n

filled_byte : (f : ℕ → ℕ) (n i : ℕ) → i < n → get_or (filled_by f n) i 0 ≡ f i
filled_byte f n i h =
    let here : 0 + i ≡ i = omega arith in
    stirred_stale (λ i. false) (λ i x. f i) 0 i (zeros n) refl (omega (arith, h, length-zeros n)) ∙ ap f here

-- a blank disc takes a WRITE at 0 that fits
blank-takes : (c n : ℕ) → in_range c ≡ true → n ≤ 16 * c → Takes (blank c) (lba 0) n
unfolding blank
blank-takes c n range fits =
    let least = range_least c range in
    let s = sound-rules (blank c) (allowed_ready (blank c) range (blank-allowed c range)).sound in
    record {
      number = 1;
      here = record { from = omega arith; listed = s.some; incomplete = ne_eqb 0 (c - 0) (λ z. omega (arith, z, least)); here = refl };
      fits = omega (arith, fits);
    }

blank-accepted : (c : ℕ) (s : Drive) → Start c s → (q : Request) (n : ℕ) → WriteOf q (lba 0) n → n ≤ 16 * c → (step s q).answer ≡ Accepted
unfolding step carried_out
blank-accepted c s start q n w fits =
    let range = start.range in
    let taken : (write (blank c) (lba 0) n).answer ≡ Accepted =
    takes-accepted (blank c) (lba 0) n (allowed_ready (blank c) (ap in_range (blank_capacity c) ∙ range) (blank-allowed c range)) (blank-takes c n range fits) in
    ap (λ (v : Verdict). v.answer) (write_verdict s q (lba 0) n w (start-served c s start))
    ∙ (ap (λ (d : Disc). (write d (lba 0) n).answer) start.disc ∙ taken)

-- the theorem
pub wide : Wide
wide =
    record {
      start = λ c range m p. record { range = range; disc = refl; medium = filled-length m (32768 * c); pending = filled-length p 32768 };
      medium = λ c m p i h. filled_byte m (32768 * c) i h;
      pending = λ c m p i h. filled_byte p 32768 i h;
      admissible = given_admissible;
      stale_medium =
          λ g s i h t.
          let here : 0 + i ≡ i = omega arith in
          stirred_stale (recorded_byte s.disc) g.change.medium 0 i s.medium (ap (recorded_byte s.disc) here ∙ t) h
          ∙ ap (λ (k : ℕ). g.change.medium k (get_or s.medium i 0)) here;
      stale_pending =
          λ g s i h t.
          let here : 0 + i ≡ i = omega arith in
          stirred_stale (pending_byte s) g.change.pending 0 i s.pending (le-ltb (0 + i) (2048 * s.disc.pending) (omega (arith, t))) h
          ∙ ap (λ (k : ℕ). g.change.pending k (get_or s.pending i 0)) here;
      again = again_given;
      accepted = blank-accepted;
      cut = parts_cut;
      parts = recut_parts;
    }
