-- The fragment that an address lies in, as the search by halving finds it on a sound list, and what the commands take from it.
use Prim.Native.Nat.{ℕ, suc, ◌-◌, ◌<◌}
use mathlib.Core.Path.{◌≡◌, refl, sym, ◌∙◌, ap}
use mathlib.Core.Bool.{true, false, not}
use mathlib.Core.List.{List}
use native.Mathlib.Omega.{arith}
use borrow.Author.Tests.{le-leb, lt-ltb, eq-eqb, eqb-true, not-true}
use lib.Dec.{eqb}
use Rattle.commands.specs.Types.{Lba, Fragment, Disc, Entry, Option, Some, None}
use Rattle.fragments.specs.Address.{first_sector}
use Rattle.fragments.specs.Fragment.{end, complete, first_unrecorded, takes}
use Rattle.fragments.specs.List.{record_numbered, reach_found, no_reach}
use Rattle.fragments.specs.Entry.{entry}
use Rattle.search.specs.Search.{finds, halving, held}
use Rattle.disc.specs.Records.{pending_in, next_writable, used, numbered, at_address, writable_at}
use Rattle.disc.specs.Rules.{at, Sound}
use Rattle.disc.specs.Ready.{Ready}
use Rattle.commands.specs.Holder.{EightLooks}
use Rattle.commands.specs.Write.{Writable}
use Rattle.fragments.proofs.Laws.Bool.{and_left, and_right, and_both, contradiction}
use Rattle.search.proofs.Laws.Search.{Rising, seen_few, seen_decides, halving-finds, holder-is}
use Rattle.disc.proofs.Laws.Rules.{sound-rules}
use Rattle.disc.proofs.Laws.Sound.{starts-rise, writable-within}
use Rattle.disc.proofs.Laws.Readable.{located}
use Rattle.commands.proofs.Laws.Write.{writable_found, takes-found}

module _ (d : Disc) (s : Sound d) where
  sound-rising : Rising d.fragments
  sound-rising =
      record {
        first = λ i l. ap (λ (f : Fragment). f.length) (s.unused i l);
        apart = λ i j h l. omega (arith, starts-rise d s i j h l);
      }

  -- eight looks find it
  pub holder-found : (a : Lba) → finds d.fragments (halving a) ≡ held d.fragments (at_address d a)
  holder-found a = halving-finds d.fragments a s.array sound-rising

  -- for the reader: the right fragment, few looks, and nothing else decides
  pub eight-looks : (a : Lba) → EightLooks d a
  eight-looks a =
      record {
        right = holder-found a;
        few = seen_few 8 d.fragments (halving a);
        alone = λ gs same. seen_decides 8 d.fragments gs (halving a) same;
      }

  -- a next writable address lies in its own fragment
  writable-at : (a : Lba) (n : ℕ) → Writable d a n → at_address d a ≡ Some n
  writable-at a n w =
      let i = n - 1 in
      let l : i < used d = omega (arith, w.from, w.listed) in
      let number : suc i ≡ n = omega (arith, w.from) in
      let within = writable-within d s i l w.incomplete in
      let here : a.0 ≡ (next_writable d (suc i) (at d i)).0 = w.here ∙ ap (λ (k : ℕ). (next_writable d k (numbered d n)).0) (sym number) in
      holder-is d.fragments a sound-rising i l
      (and_both (le-leb (first_sector (at d i).start).0 a.0 (omega (arith, here, within.0))) (lt-ltb a.0 (first_sector (end (at d i))).0 (omega (arith, here, within.1))))
      ∙ ap Some (omega (arith, number))

-- what the search gives: a fragment with its record, or none
module _ (fs : List Fragment) where
  pub held_some : (x : Option ℕ) (e : Entry) → held fs x ≡ Some e → (x ≡ Some e.number) × (e.fragment ≡ record_numbered fs e.number)
  held_some (Some n) e h = let same : entry n (record_numbered fs n) ≡ e = cc in rw (← same) (refl, refl)
  held_some None e h = let z : None ≡ Some e = h in cc

  pub held_none : (x : Option ℕ) → held fs x ≡ None → x ≡ None
  held_none (Some n) h = let z : Some (entry n (record_numbered fs n)) ≡ None = h in cc
  held_none None h = refl

-- the same of a disc: its number, its record, and where it can be read to
module _ (d : Disc) (x : Option ℕ) where
  pub held_number : (e : Entry) → held d.fragments x ≡ Some e → Some e.number ≡ x
  held_number e h = sym (held_some d.fragments x e h).0

  pub held-record : (e : Entry) → held d.fragments x ≡ Some e → e.fragment ≡ numbered d e.number
  held-record e h = (held_some d.fragments x e h).1

  pub held-reaches :
      (e : Entry) → held d.fragments x ≡ Some e
      → record { recorded = first_sector (first_unrecorded e.fragment); readable = next_writable d e.number e.fragment }
      ≡ reach_found d.fragments d.pending d.owner x
  held-reaches e h = rw ((held_some d.fragments x e h).0, (held_some d.fragments x e h).1)

  pub held-reaches-none : held d.fragments x ≡ None → no_reach ≡ reach_found d.fragments d.pending d.owner x
  held-reaches-none h = rw (held_none d.fragments x h)

module _ (d : Disc) (a : Lba) where
  pub held-unwritable : held d.fragments (writable_at d a) ≡ None → None ≡ writable_at d a
  held-unwritable h = sym (held_none d.fragments (writable_at d a) h)

  -- where a WRITE goes, its next writable address is named
  pub held-writable : (e : Entry) → held d.fragments (writable_at d a) ≡ Some e → Writable d a e.number
  held-writable e h = writable_found d a e.number (held_some d.fragments (writable_at d a) e h).0

  -- a WRITE goes to the one that the address lies in, where that takes it, and else nowhere
  module _ (r : Ready d) where
    takes-here :
        (n : ℕ) → at_address d a ≡ Some n → takes a (pending_in d n) (numbered d n) ≡ true → writable_at d a ≡ Some n
    takes-here n e t =
        let w = located d a.0 n e in
        let f = numbered d n in
        takes-found d a n r
        (record {
          from = w.from;
          listed = w.listed;
          incomplete = not-true _ (and_left (not (complete f)) (eqb a.0 (next_writable d n f).0) t);
          here = eqb-true _ _ (and_right (not (complete f)) (eqb a.0 (next_writable d n f).0) t);
        })

    -- a fragment that takes the address has it
    taken : (n : ℕ) → writable_at d a ≡ Some n → (at_address d a ≡ Some n) × (takes a (pending_in d n) (numbered d n) ≡ true)
    taken n e =
        let w = writable_found d a n e in (
          writable-at d (sound-rules d r.sound) a n w,
          and_both {a = not (complete (numbered d n))} (ap not w.incomplete) (eq-eqb _ _ w.here),
        )

    pub held-takes :
        (e : Entry) → held d.fragments (at_address d a) ≡ Some e → takes a (pending_in d e.number) e.fragment ≡ true
        → Some e ≡ held d.fragments (writable_at d a)
    held-takes e h t =
        let x = held_some d.fragments (at_address d a) e h in
        rw (takes-here e.number x.0 (rw x.1 at t)) (ap (λ f. Some (entry e.number f)) x.1)

    writes-nowhere :
        (x : Option ℕ) → writable_at d a ≡ x
        → ((n : ℕ) → at_address d a ≡ Some n → takes a (pending_in d n) (numbered d n) ≡ false) → None ≡ held d.fragments x
    writes-nowhere (Some n) e f = let t = taken n e in absurd (contradiction t.1 (f n t.0))
    writes-nowhere None e f = refl

    pub held-refuses :
        (e : Entry) → held d.fragments (at_address d a) ≡ Some e → takes a (pending_in d e.number) e.fragment ≡ false
        → None ≡ held d.fragments (writable_at d a)
    held-refuses e h t =
        let x = held_some d.fragments (at_address d a) e h in
        writes-nowhere (writable_at d a) refl
        (λ n at. let same : e.number ≡ n = let z : Some e.number ≡ Some n = sym x.0 ∙ at in cc in rw (← same) (rw x.1 at t))

    pub held-nowhere : held d.fragments (at_address d a) ≡ None → None ≡ held d.fragments (writable_at d a)
    held-nowhere h =
        writes-nowhere (writable_at d a) refl
        (λ n at. let z : None ≡ Some n = sym (held_none d.fragments (at_address d a) h) ∙ at in cc)
