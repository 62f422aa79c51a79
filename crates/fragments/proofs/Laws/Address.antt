-- The later of two addresses, and the number of a block that may be past every disc.
use Prim.Native.Nat.{ℕ, max}
use mathlib.Core.Path.{◌≡◌, sym, ap, ◌∙◌}
use native.Mathlib.Omega.{arith}
use Rattle.std.proofs.lemmas.Bool.Decides.{nat_tests}
use Rattle.std.specs.Ordering.{ord_max}
use Rattle.fragments.specs.contracts.address.LbaOrd.TheImpl.{cmp-value}
use Rattle.fragments.specs.Types.{Block, WideBlock, Lba}
use Rattle.fragments.specs.Address.{lba, wide, later}

pub zero_later : (a : Lba) → later (lba 0) a ≡ a
zero_later a = ap lba (largest a.0)
  where
    largest : (n : ℕ) → max 0 n ≡ n
    largest n = omega arith

pub later_zero : (a : Lba) → later a (lba 0) ≡ a
later_zero a = ap lba (largest a.0)
  where
    largest : (n : ℕ) → max n 0 ≡ n
    largest n = omega arith

pub later-later : (a b c : Lba) → later (later a b) c ≡ later a (later b c)
later-later a b c = ap lba (largest a.0 b.0 c.0)
  where
    largest : (k m n : ℕ) → max (max k m) n ≡ max k (max m n)
    largest k m n = omega arith

-- the later of two in the order of the type
pub max-later : (a b : Lba) → ord_max cmp-value.it a b ≡ later a b
max-later a b = grind (arith, nat_tests)

-- one address more
pub later_next : (a b c all rest more : Lba) → all ≡ later a rest → rest ≡ later b more → c ≡ later a b → all ≡ later c more
later_next a b c all rest more e f g = e ∙ (ap (later a) f ∙ (sym (later-later a b more) ∙ ap (λ (x : Lba). later x more) (sym g)))

pub wide-number : {a : WideBlock} {b : Block} → a ≡ wide b → a.0 ≡ b.0
wide-number e = ap (λ x. x.0) e
