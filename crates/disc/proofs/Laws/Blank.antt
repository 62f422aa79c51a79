-- The capacities that a disc can have, what is made of one, and that the blank disc is in a state that L3 lets through.
use Prim.Native.Nat.{ℕ, ◌≤◌}
use mathlib.Core.Path.{◌≡◌, refl}
use mathlib.Core.Bool.{true, false}
use native.Mathlib.Nat.{sub-zero}
use native.Mathlib.Omega.{arith}
use lib.Dec.{leb}
use borrow.Author.Tests.{leb-true}
use Rattle.fragments.proofs.Laws.Bool.{and_left, and_right}
use lib.ListN.{set}
use Rattle.disc.specs.Types.{Appended, Accepted, Link, MediumSize}
use Rattle.fragments.specs.Address.{block}
use Rattle.protocol.specs.Answer.{no_sense, is_refusal_sense, allowed_sense}
use Rattle.fragments.specs.List.{listed, every}
use Rattle.disc.specs.Sound.{used_first, first_at_zero, follows_from, in_order, ends_within, recorded_within, zeroed_within, incomplete_last, tail_last, tail_or_full, pending_named, finalized_complete, sound, allowed_state}
use Rattle.disc.specs.Blank.{in_range, zero_state, blank, made, Blanked}

-- the two outcomes of making a blank disc: the all-zero state with a capacity and one record put in, or as it is
pub blanked :
    (c : ℕ) → in_range c ≡ true → Blanked c
    (record {
      answer = Accepted;
      disc = record {
        capacity = c;
        finalized = false;
        sense = no_sense;
        pending = 0;
        owner = 0;
        fragments =
            set zero_state.fragments 0 (record { session = 1; start = block 0; length = c; recorded = 0; zeroed = 0; kind = Appended });
      };
    })
unfolding made blank
blanked c r = record { result = rw (r, sub-zero c); numbered = rw r }

pub not_blanked : (c : ℕ) → in_range c ≡ false → Blanked c (record { answer = Link MediumSize; disc = zero_state })
unfolding made
not_blanked c r = record { result = rw r; numbered = rw r }

-- the test of the range, read back
pub range_least : (c : ℕ) → in_range c ≡ true → 256 ≤ c
range_least c r = leb-true 256 c (and_left (leb 256 c) (leb c 143444) r)

pub range_most : (c : ℕ) → in_range c ≡ true → c ≤ 143444
range_most c r = leb-true c 143444 (and_right (leb 256 c) (leb c 143444) r)

pub blank-allowed : (c : ℕ) → in_range c ≡ true → allowed_state (blank c) ≡ true
unfolding
    allowed_state sound blank listed every used_first first_at_zero follows_from in_order ends_within recorded_within zeroed_within
    incomplete_last tail_last tail_or_full pending_named finalized_complete allowed_sense is_refusal_sense
blank-allowed c r = grind arith

-- its capacity, and that nothing is pending
pub blank_capacity : (c : ℕ) → (blank c).capacity ≡ c
unfolding blank
blank_capacity c = refl

pub blank_pending : (c : ℕ) → (blank c).pending ≡ 0
unfolding blank
blank_pending c = refl
