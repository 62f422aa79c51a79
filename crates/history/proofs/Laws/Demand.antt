-- Demand 3, proved whole.
use Prim.Native.Nat.{ℕ, ◌*◌, ◌/◌, ◌≤◌}
use mathlib.Core.Path.{◌≡◌, refl, sym, ap, ◌∙◌, subst}
use mathlib.Core.List.{List, []}
use native.Mathlib.Omega.{arith}
use lib.ListN.{take}
use Rattle.disc.proofs.Laws.Blank.{blank_pending}
use Rattle.fragments.specs.Address.{lba}
use Rattle.disc.proofs.Laws.Readable.{blank_unrecorded}
use Rattle.drive.specs.Step.{Drive, Request, Result, verdict_on, carried_out, step}
use Rattle.drive.specs.Alike.{recorded_byte, pending_sectors, Alike}
use Rattle.drive.proofs.Laws.Alike.{AlikeResults, step_alike, alike_same, alike_back, alike_on}
use Rattle.history.specs.Types.{Disc, Accepted}
use Rattle.history.specs.Sequence.{Start, Turn, found, result, final, Admissible, Undisturbed, told, requests}
use Rattle.history.specs.Cut.{CutOf, SameCommand, Again, ends, same, cut, Agreeing}
use Rattle.history.specs.Demand.{RecordedStays, Demand3}
use Rattle.history.proofs.Laws.Runs.{runs_follow, undisturbed_runs, final-append, admissible_append, undisturbed_append, sequence_stays}
use Rattle.history.proofs.Laws.Forms.{write-forms}
use Rattle.history.proofs.Laws.Parts.{Does, parts_do}

-- a blank disc has no recorded sector, and none pending: two starts are alike, whatever their bytes
pub start_alike : (c : ℕ) (s e : Drive) → Start c s → Start c e → Alike s e
start_alike c s e a b =
    let none : (x : Drive) → Start c x → pending_sectors x ≡ [] =
    λ x p. ap (λ (d : Disc). take (2048 * d.pending) x.pending) p.disc ∙ ap (λ (n : ℕ). take (2048 * n) x.pending) (blank_pending c) in
    record {
      disc = a.disc ∙ sym b.disc;
      medium_length = a.medium ∙ sym b.medium;
      pending_length = a.pending ∙ sym b.pending;
      recorded = λ i t. absurd (blank_unrecorded c (lba (i / 2048)) (ap (λ (d : Disc). recorded_byte d i) (sym a.disc) ∙ t));
      pending = none s a ∙ sym (none e b);
    }

-- the parts of a cut do what the WRITE does
cut_does : (s : Drive) (q : Request) (qs : List Request) → CutOf q qs → Does s q qs
cut_does s q qs c = parts_do s q c.address c.count q.payload qs c.whole refl (several c.several) c.parts
  where
    several : {n : ℕ} → 2 ≤ n → 1 ≤ n
    several h = omega arith

-- a turn of each sequence, from alike drives
found_alike : (t u : Turn) (s e : Drive) → Alike s e → Alike s (found t s) → Alike e (found u e) → Alike (found t s) (found u e)
found_alike t u s e a b c = grind arith

told_alike : (r t : Result) → AlikeResults r t → told r ≡ told t
told_alike r t a = grind arith

again_alike :
    (s e : Drive) (ts us : List Turn) → Alike s e → Admissible ts s → Admissible us e → (w : Again s ts us)
    → Agreeing s ts us w e × Alike (final ts s) (final us e)
unfolding final Admissible Agreeing
again_alike s e ts us a h k (ends x) = (tt, a)
again_alike s e ts us a h k (same x t u rs vs c w) =
    let r = step_alike (found t x) (found u e) t.request u.request (found_alike t u x e a h.0 k.0) c.cdb c.payload c.room in
    let i = again_alike (result t x).after (result u e).after rs vs r.after h.1 k.1 w in
    ((told_alike (result t x) (result u e) r, i.0), i.1)
again_alike s e ts us a h k (cut x t rs ps ws vs accepted c w q) =
    let y = found t x in
    let adm = admissible_append ps ws e (subst (λ (l : List Turn). Admissible l e) q k) in
    let d = cut_does y t.request (requests ps) c in
    let f = runs_follow ps y e (alike_on y x e (alike_back x y h.0) a) adm.0 in
    let done : Alike (result t x).after (final ps e) = subst (λ (z : Drive). Alike z (final ps e)) (d.after accepted) f.after in
    let i = again_alike (result t x).after (final ps e) rs ws done h.1 adm.1 w in
    let end : final ws (final ps e) ≡ final vs e = sym (ap (λ (l : List Turn). final l e) q ∙ final-append ps ws e) in (
      (f.to (d.to accepted), sym f.blocks ∙ d.blocks accepted, i.0),
      subst (λ (z : Drive). Alike (final rs (result t x).after) z) end i.1,
    )

-- with nothing changed from outside: equal drives
same_after :
    (s : Drive) (q u : Request) → SameCommand q u → (step s q).after ≡ (step s u).after
unfolding step carried_out verdict_on
same_after s q u c = rw (c.cdb, c.payload, c.room)

again_exact : (s : Drive) (ts us : List Turn) → Undisturbed ts s → Undisturbed us s → Again s ts us → final ts s ≡ final us s
unfolding final Undisturbed
again_exact s ts us h k (ends x) = refl
again_exact s ts us h k (same x t u rs vs c w) =
    let e : (result u x).after ≡ (result t x).after =
    ap (λ (z : Drive). (step z u.request).after) k.0
    ∙ (sym (same_after x t.request u.request c) ∙ ap (λ (z : Drive). (step z t.request).after) (sym h.0)) in
    again_exact (result t x).after rs vs h.1 (subst (λ (z : Drive). Undisturbed vs z) e k.1) w
    ∙ ap (final vs) (sym e)
again_exact s ts us h k (cut x t rs ps ws vs accepted c w q) =
    let und = undisturbed_append ps ws x (subst (λ (l : List Turn). Undisturbed l x) q k) in
    let d = cut_does x t.request (requests ps) c in
    let here : (step x t.request).answer ≡ Accepted = ap (λ (z : Drive). (step z t.request).answer) (sym h.0) ∙ accepted in
    let e : final ps x ≡ (result t x).after =
    undisturbed_runs ps x und.0 ∙ (d.after here ∙ ap (λ (z : Drive). (step z t.request).after) (sym h.0)) in
    again_exact (result t x).after rs ws h.1 (subst (λ (z : Drive). Undisturbed ws z) e und.1) w
    ∙ (ap (final ws) (sym e) ∙ sym (ap (λ (l : List Turn). final l x) q ∙ final-append ps ws x))

-- the theorem
pub demand_3 : Demand3
demand_3 =
    record {
      stays =
          λ c s start ts us h.
          subst (λ (z : Drive). RecordedStays (final ts s) z) (sym (final-append ts us s))
          (sequence_stays us (final ts s) (admissible_append ts us s h).1);
      whole =
          λ c s start ts h t ps a k w.
          let x = final ts s in
          let d = cut_does x t.request (requests ps) w in
          let f = runs_follow ps x x (alike_same x) k in
          let r = step_alike x (found t x) t.request t.request a refl refl refl in
          (λ e. f.to (d.to (r.answer ∙ e)), λ e. sym r.answer ∙ d.back (f.back e));
      again = λ c s e start other ts us h k w. again_alike s e ts us (start_alike c s e start other) h k w;
      exact = λ c s start ts us h k w. again_exact s ts us h k w;
      forms = write-forms;
    }
