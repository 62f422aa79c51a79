-- A WRITE and the parts of a cut of it, given one after another.
use Prim.Native.Nat.{ℕ, ◌+◌, ◌*◌, ◌≤◌}
use mathlib.Core.Path.{◌≡◌, refl, sym, ap, ◌∙◌, subst}
use mathlib.Core.List.{List, [], ◌∷◌, ◌++◌, append-nil}
use native.Mathlib.Omega.{arith}
use lib.ListN.{length, length-append}
use Rattle.fragments.specs.Address.{lba}
use Rattle.protocol.specs.Command.{decode}
use Rattle.drive.specs.Step.{Drive, Request, request, verdict_on, carried_out, step}
use Rattle.drive.specs.Requests.{WriteOf}
use Rattle.drive.proofs.Laws.Cut.{Served, write_verdict, accepted-served, whole_parts, parts_whole, cut-recorded, cut-after}
use Rattle.history.specs.Types.{Lba, Accepted, Verdict}
use Rattle.history.specs.Cut.{Parts, none, part}
use Rattle.history.proofs.Laws.Runs.{runs, RunAccepted, run_blocks}

-- a WRITE of n sectors at an address, as some request: the parts still to come are one such WRITE. The definitions read a command block as
-- a list of numbers of any size, so one number of it can hold a whole address
abbrev write_request : Lba → ℕ → List ℕ → Request
write_request a n x = request (0x2A ∷ 0 ∷ 0 ∷ 0 ∷ 0 ∷ a.0 ∷ 0 ∷ 0 ∷ n ∷ 0 ∷ 0 ∷ 0 ∷ []) x []

write-request : (a : Lba) (n : ℕ) (x : List ℕ) → length x ≡ 2048 * n → WriteOf (write_request a n x) a n
unfolding decode
write-request a n x h = grind arith

-- a request with the same fields and sectors is answered alike
module _ (s : Drive) (q u : Request) (a : Lba) (n : ℕ) (w : WriteOf q a n) (x : WriteOf u a n) (same : q.payload ≡ u.payload) where
  same-verdict : Served s → verdict_on s q ≡ verdict_on s u
  same-verdict k = write_verdict s q a n w k ∙ sym (write_verdict s u a n x k)

  same_answer : Served s → (step s q).answer ≡ (step s u).answer
  unfolding step carried_out
  same_answer k = ap (λ (v : Verdict). v.answer) (same-verdict k)

  same-recorded : Served s → (step s q).recorded ≡ (step s u).recorded
  unfolding step carried_out
  same-recorded k = ap (λ (v : Verdict). v.recorded) (same-verdict k)

  same_after : Served s → (step s q).after ≡ (step s u).after
  unfolding step carried_out
  same_after k =
      ap (λ (v : Verdict). (carried_out v s q).after) (same-verdict k)
      ∙ ap (λ (y : List ℕ). (carried_out (verdict_on s u) s (request u.cdb y u.buffer)).after) same

-- the requests, one after another, do what the one does
pub record Does (s : Drive) (q : Request) (qs : List Request) : Type 0 where
  pub to : (step s q).answer ≡ Accepted → RunAccepted qs s
  pub back : RunAccepted qs s → (step s q).answer ≡ Accepted
  pub blocks : (step s q).answer ≡ Accepted → run_blocks qs s ≡ (step s q).recorded
  pub after : (step s q).answer ≡ Accepted → runs qs s ≡ (step s q).after

does_one :
    (s : Drive) (q u : Request) (a : Lba) (n : ℕ) → WriteOf q a n → WriteOf u a n → q.payload ≡ u.payload → Does s q (u ∷ [])
unfolding runs RunAccepted run_blocks
does_one s q u a n w x same =
    record {
      to = λ e. (sym (same_answer s q u a n w x same (accepted-served s q e)) ∙ e, tt);
      back = λ e. same_answer s q u a n w x same (accepted-served s u e.0) ∙ e.0;
      blocks = λ e. omega (arith, same-recorded s q u a n w x same (accepted-served s q e));
      after = λ e. sym (same_after s q u a n w x same (accepted-served s q e));
    }

-- the first part, and then those that make up the rest
does_more :
    (s : Drive) (q one two : Request) (qs : List Request) (a : Lba) (n m : ℕ) → WriteOf q a (n + m) → WriteOf one a n
    → WriteOf two (lba (a.0 + n)) m → (n ≡ 0 → ⊥) → (m ≡ 0 → ⊥) → q.payload ≡ one.payload ++ two.payload
    → Does (step s one).after two qs → Does s q (one ∷ qs)
unfolding runs RunAccepted run_blocks
does_more s q one two qs a n m w w₁ w₂ z y joined i =
    record {
      to = λ e. let c = whole_parts s q one two a n m w w₁ w₂ z y e in (c.0, i.to c.1);
      back = λ e. parts_whole s q one two a n m w w₁ w₂ z y e.0 (i.back e.1);
      blocks =
          λ e.
          let c = whole_parts s q one two a n m w w₁ w₂ z y e in
          omega (arith, i.blocks c.1, cut-recorded s q one two a n m w w₁ w₂ z y e);
      after =
          λ e.
          let c = whole_parts s q one two a n m w w₁ w₂ z y e in
          i.after c.1 ∙ cut-after s q one two a n m w w₁ w₂ z y joined e;
    }

-- parts that are there bring sectors
some_part : (a : Lba) (n : ℕ) (x : List ℕ) (q : Request) (qs : List Request) → Parts a n x (q ∷ qs) → n ≡ 0 → ⊥
some_part a n x q qs (part b k m u rest us h w p) e = omega (arith, h, e)

parts_length : (a : Lba) (n : ℕ) (x : List ℕ) (qs : List Request) → Parts a n x qs → length x ≡ 2048 * n
parts_length a n x qs (none b) = refl
parts_length a n x qs (part b k m u rest us h w p) =
    omega (arith, length-append u.payload rest, w.payload, parts_length (lba (b.0 + k)) m rest us p)

pub parts_do :
    (s : Drive) (q : Request) (a : Lba) (n : ℕ) (x : List ℕ) (qs : List Request) → WriteOf q a n → q.payload ≡ x → 1 ≤ length qs
    → Parts a n x qs → Does s q qs
parts_do s q a n x qs w e l (none b) = absurd (omega arith)
parts_do s q a n x qs w e l (part b k m u rest [] h v (none c)) =
    let same : k + 0 ≡ k = omega arith in
    does_one s q u b k (subst (λ (j : ℕ). WriteOf q b j) same w) v (e ∙ append-nil u.payload)
parts_do s q a n x qs w e l (part b k m u rest (r ∷ rs) h v p) =
    let next = lba (b.0 + k) in
    let two = write_request next m rest in
    let made = write-request next m rest (parts_length next m rest (r ∷ rs) p) in
    does_more s q u two (r ∷ rs) b k m w v made (λ z. omega (arith, h, z)) (some_part next m rest r rs p) e
    (parts_do (step s u).after two next m rest (r ∷ rs) made refl (omega arith) p)
