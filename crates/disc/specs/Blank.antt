-- The blank disc and the all-zero state.
use Rattle.std.specs.Prelude.{ℕ, ◌-◌, ◌≡◌, Bool, false, cond, ◌&&◌, ◌∷◌, replicate, leb}
use Rattle.disc.specs.Types.{Disc, Blank, Accepted, Link, MediumSize}
use Rattle.protocol.specs.Answer.{number, no_sense}
use Rattle.fragments.specs.Address.{block}
use Rattle.fragments.specs.Fragment.{unused_record, tail_from}
use Rattle.fragments.specs.List.{limit}

-- the capacities that a disc can have
abbrev pub in_range : ℕ → Bool
in_range capacity = leb 256 capacity && leb capacity 143444

-- the all-zero state
abbrev pub zero_state : Disc
zero_state =
    record { capacity = 0; finalized = false; sense = no_sense; pending = 0; owner = 0; fragments = replicate limit unused_record }

-- the "blank disc": a tail over all its blocks and no sense
unfoldable pub blank : ℕ → Disc
blank c =
    record {
      capacity = c;
      finalized = false;
      sense = no_sense;
      pending = 0;
      owner = 0;
      fragments = tail_from c 1 (block 0) ∷ replicate (limit - 1) unused_record;
    }

-- what is made of a capacity: the blank disc, or L2 and the all-zero state
unfoldable pub made : ℕ → Blank
made c = cond (in_range c) (record { answer = Accepted; disc = blank c }) (record { answer = Link MediumSize; disc = zero_state })

-- the promise of the code that makes it
pub record Blanked (c : ℕ) (r : Blank) : Type 0 where
  pub result : r ≡ made c
  pub numbered : number r.answer ≡ cond (in_range c) 0 2
