-- What the vocabulary means: a cut that is one, cuts that are none, stale changes that are some and one that is none.
use Prim.Native.Nat.{ℕ, ◌+◌, ◌*◌, ◌≤◌, ◌<◌}
use mathlib.Core.Path.{◌≡◌, refl, sym, ap, ◌∙◌}
use mathlib.Core.Bool.{true, false}
use mathlib.Core.Logic.{inl, inr}
use mathlib.Core.List.{List, [], ◌∷◌, ◌++◌}
use native.Mathlib.Omega.{arith}
use lib.ListN.{length, get_or, length-replicate, length-append}
use Rattle.fragments.specs.Address.{lba}
use Rattle.protocol.specs.Command.{decode}
use Rattle.drive.specs.Step.{Drive, Request, request}
use Rattle.drive.specs.Requests.{WriteOf}
use Rattle.drive.specs.Alike.{recorded_byte, Alike}
use Rattle.drive.proofs.Laws.Alike.{alike_same}
use Rattle.history.specs.Types.{Lba, Write}
use Rattle.history.specs.Sequence.{Start, Turn, found, result, Admissible, Undisturbed}
use Rattle.history.specs.Cut.{Parts, none, part, CutOf}
use Rattle.history.specs.Forms.{Form, ten, twelve, longest, addresses, write_opcode, fields, write_cdb, IsBytes, AllBytes}
use Rattle.history.specs.Wide.{portion, parts_of, total, nameable}
use Rattle.history.specs.Examples.{whole_write, first_part, second_part, part_after_gap, part_over_first, empty_part, long_write, mixed_parts, far_write, far_parts, sector, as_left, steady}
use Rattle.history.proofs.Laws.Forms.{write_cdb_lem, both_name, write-forms}
use Rattle.history.proofs.Laws.Wide.{wide}
use Rattle.history.proofs.Laws.Demand.{start_alike}

pub whole_sectors : length (sector 7 ++ (sector 9 ++ [])) ≡ 4096
whole_sectors =
    length-append (sector 7) (sector 9 ++ [])
    ∙ omega (arith, length-replicate {A = ℕ} 2048 7, length-append (sector 9) [], length-replicate {A = ℕ} 2048 9)

one_sector : (f : Form) (a x : ℕ) → a < addresses → WriteOf (request (write_cdb f a 1) (sector x) []) (lba a) 1
one_sector f a x h = write_cdb_lem f a 1 h (both_name f 1 (omega arith)) (sector x) (length-replicate {A = ℕ} 2048 x)

-- a cut that is one, of both forms, at any address that has a next one
pub cut_in_two : (a : ℕ) → a + 1 < addresses → CutOf (whole_write a) (first_part a ∷ second_part a ∷ [])
unfolding longest
cut_in_two a h =
    record {
      address = lba a;
      count = 2;
      whole = write_cdb_lem ten a 2 (omega (arith, h)) (omega arith) (whole_write a).payload whole_sectors;
      several = omega arith;
      parts =
          part (lba a) 1 1 (first_part a) _ _ (omega arith) (one_sector ten a 7 (omega (arith, h)))
          (part (lba (a + 1)) 1 0 (second_part a) [] [] (omega arith) (one_sector twelve (a + 1) 9 h) (none _));
    }

-- a WRITE (12) of more sectors than a WRITE (10) names, in parts of both forms
pub long_cut : (x : List ℕ) → length x ≡ 2048 * 65536 → CutOf (long_write x) (parts_of 0 mixed_parts x)
unfolding total nameable longest
long_cut x h =
    wide.cut (long_write x) (lba 0) 65536 mixed_parts (write_cdb_lem twelve 0 65536 (omega arith) (omega arith) x h) (omega arith) refl refl

-- a WRITE (12) whose end is past every address: its parts need an address each, and no more
pub far_cut : (x : List ℕ) → length x ≡ 2048 * 4294967295 → CutOf (far_write x) (parts_of 0xFFFFFFFE far_parts x)
unfolding total nameable longest
far_cut x h =
    wide.cut (far_write x) (lba 0xFFFFFFFE) 4294967295 far_parts (write_cdb_lem twelve 0xFFFFFFFE 4294967295 (omega arith) (omega arith) x h) (omega arith)
    refl refl

-- WRITE (10) has no part of 65,536 sectors
pub long_part_unnamed : nameable 0 (portion ten 65536 ∷ portion ten 1 ∷ []) ≡ false
unfolding nameable longest
long_part_unnamed = refl

-- a WRITE's address and length
write_count : {a b : Lba} {n m : ℕ} → Write a n ≡ Write b m → n ≡ m
write_count e = cc

write_address : {a b : Lba} {n m : ℕ} → Write a n ≡ Write b m → a ≡ b
write_address e = cc

-- a command block of bytes names an address within 32 bits, and the parts after the first begin further on
address_of : (b : List ℕ) → IsBytes b → (a : Lba) (n : ℕ) → decode b ≡ Write a n → a.0 < addresses
address_of b h a n e = elim (write-forms.only b h a n e) [ inl f ↦ f.address | inr f ↦ f.address ]

far_parts_lem : (a : Lba) (n : ℕ) (x : List ℕ) (qs : List Request) → AllBytes qs → Parts a n x qs → addresses ≤ a.0 + 1 → 2 ≤ length qs → ⊥
unfolding AllBytes
far_parts_lem a n x qs h (none b) far several = omega (arith, several)
far_parts_lem a n x qs h (part b k m q rest [] i w p) far several = omega (arith, several)
far_parts_lem a n x qs h (part b k m q rest (r ∷ rs) i w (part c l o u more us j v p)) far several =
    omega (arith, address_of r.cdb h.1.0 (lba (b.0 + k)) l v.command, i, far)

-- a part whose address needs more than 32 bits does not exist: a WRITE at the last address has no cut into command blocks of bytes, whatever
-- its length
pub far_part_is_none : (q : Request) (n : ℕ) (qs : List Request) → WriteOf q (lba 0xFFFFFFFF) n → AllBytes qs → CutOf q qs → ⊥
far_part_is_none q n qs w h c =
    let here = write_address (sym w.command ∙ c.whole.command) in
    far_parts_lem c.address c.count q.payload qs h c.parts (omega (arith, ap (λ (z : Lba). z.0) here)) c.several

pub far_part_unnamed : nameable 0xFFFFFFFF (portion twelve 1 ∷ portion twelve 1 ∷ []) ≡ false
unfolding nameable longest
far_part_unnamed = refl

-- no part has 0 sectors, and each begins where the last ended: no gap, no overlap
parts_empty : (a b : Lba) (n : ℕ) (x : List ℕ) (q : Request) (qs : List Request) → WriteOf q a 0 → Parts b n x (q ∷ qs) → ⊥
parts_empty a b n x q qs w (part c k m u rest us h v p) = let e = write_count (sym w.command ∙ v.command) in omega (arith, e, h)

pub empty_part_is_none : (q : Request) (qs : List Request) → CutOf q (empty_part ∷ qs) → ⊥
unfolding decode write_opcode fields
empty_part_is_none q qs c =
    parts_empty (lba 0) c.address c.count q.payload empty_part qs (record { cdb = refl; command = refl; payload = refl }) c.parts

parts_joined :
    (a b c : Lba) (n m k : ℕ) (x : List ℕ) (one two : Request) (qs : List Request) → WriteOf one a n → WriteOf two b m
    → Parts c k x (one ∷ two ∷ qs) → b.0 ≡ a.0 + n
parts_joined a b c n m k x one two qs w v (part d i j u rest us h y (part f g l r rest₁ rs h₁ y₁ p)) =
    let start = write_address (sym w.command ∙ y.command) in
    let count = write_count (sym w.command ∙ y.command) in
    let next = write_address (sym v.command ∙ y₁.command) in
    omega (arith, ap (λ (z : Lba). z.0) start, count, ap (λ (z : Lba). z.0) next)

pub gap_is_none : (q : Request) (qs : List Request) → CutOf q (first_part 0 ∷ part_after_gap ∷ qs) → ⊥
gap_is_none q qs c =
    let e = parts_joined (lba 0) (lba 2) c.address 1 1 c.count q.payload (first_part 0) part_after_gap qs (one_sector ten 0 7 (omega arith)) (one_sector ten 2 9 (omega arith)) c.parts in
    omega arith

pub overlap_is_none : (q : Request) (qs : List Request) → CutOf q (first_part 0 ∷ part_over_first ∷ qs) → ⊥
overlap_is_none q qs c =
    let e = parts_joined (lba 0) (lba 0) c.address 1 1 c.count q.payload (first_part 0) part_over_first qs (one_sector ten 0 7 (omega arith)) (one_sector ten 0 9 (omega arith)) c.parts in
    omega arith

-- one part alone is no cut
pub single_is_none : (q u : Request) → CutOf q (u ∷ []) → ⊥
single_is_none q u c = let h = c.several in omega arith

-- on a blank disc every change of bytes is a stale one; a change of a recorded byte never is
pub blank_stale :
    (c : ℕ) (s : Drive) (t : Turn) → Start c s → length t.medium ≡ 32768 * c → length t.pending ≡ 32768 → Alike s (found t s)
blank_stale c s t start m p =
    start_alike c s (found t s) start (record { range = start.range; disc = start.disc; medium = m; pending = p })

pub recorded_not_stale :
    (s : Drive) (t : Turn) (i : ℕ) → recorded_byte s.disc i ≡ true → (get_or s.medium i 0 ≡ get_or t.medium i 0 → ⊥) → Alike s (found t s)
    → ⊥
recorded_not_stale s t i r other a = other (a.recorded i r)

-- whatever requests are given, they are an admissible and an undisturbed sequence
pub steady_admissible : (qs : List Request) (s : Drive) → Admissible (steady qs s) s
unfolding steady Admissible
steady_admissible [] s = tt
steady_admissible (q ∷ qs) s = (alike_same s, steady_admissible qs (result (as_left q s) s).after)

pub steady_undisturbed : (qs : List Request) (s : Drive) → Undisturbed (steady qs s) s
unfolding steady Undisturbed
steady_undisturbed [] s = tt
steady_undisturbed (q ∷ qs) s = (refl, steady_undisturbed qs (result (as_left q s) s).after)
