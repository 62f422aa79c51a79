-- The rules of a sound list at indices, from 0 along the records, as proofs use them. Sound.antt decides: proofs/Laws/Rules has both
-- directions between it and this form, so that a reader need not believe this file.
use Rattle.std.specs.Prelude.{ℕ, suc, ◌+◌, ◌≤◌, ◌<◌, ◌≡◌, true, false, ◌⊎◌, length, get_or}
use Rattle.disc.specs.Types.{Fragment, Disc}
use Rattle.fragments.specs.Address.{sectors_in}
use Rattle.fragments.specs.Fragment.{unused_record, end, complete, is_tail, next_fragment_start, next_session_start}
use Rattle.fragments.specs.List.{limit}
use Rattle.disc.specs.Records.{used, numbered, last_record, has_tail}

-- the record at an index
abbrev pub at : Disc → ℕ → Fragment
at d i = get_or d.fragments i unused_record

-- f stands after p: in the same session, or in the next one
abbrev pub Follows : Fragment → Fragment → Type 0
Follows p f =
    ((f.session ≡ p.session) × (f.start.0 ≡ (next_fragment_start (end p)).0))
    ⊎ ((f.session ≡ p.session + 1) × (f.start.0 ≡ (next_session_start (end p)).0))

-- the pending sectors name an incomplete record
pub record Owned (d : Disc) : Type 0 where
  pub number : 1 ≤ d.owner
  pub listed : d.owner ≤ used d
  pub incomplete : complete (numbered d d.owner) ≡ false

pub record Sound (d : Disc) : Type 0 where
  -- the records are one array
  pub array : length d.fragments ≡ limit
  -- there is a record, the used ones come first, and the others are all zero
  pub some : 1 ≤ used d
  pub unused : (i : ℕ) → used d ≤ i → at d i ≡ unused_record
  -- the first record is in session 1 and starts at block 0
  pub first_session : (at d 0).session ≡ 1
  pub first_start : (at d 0).start.0 ≡ 0
  -- each next one stands after its forerunner
  pub next : (i : ℕ) → suc i < used d → Follows (at d i) (at d (suc i))
  -- no fragment ends past the capacity, records more blocks than it has or zero-fills more sectors than it records
  pub ends : (i : ℕ) → i < used d → (end (at d i)).0 ≤ d.capacity
  pub recorded : (i : ℕ) → i < used d → (at d i).recorded ≤ (at d i).length
  pub zeroed : (i : ℕ) → i < used d → (at d i).zeroed ≤ sectors_in (at d i).recorded
  -- an incomplete fragment is in the last session
  pub incomplete : (i : ℕ) → i < used d → complete (at d i) ≡ false → (at d i).session ≡ (last_record d).session
  -- a tail is last and reaches the capacity
  pub tail : (i : ℕ) → i < used d → is_tail (at d i) ≡ true → (suc i ≡ used d) × ((end (at d i)).0 ≡ d.capacity)
  -- without a tail and not finalized, no record is free or no block
  pub full :
      d.finalized ≡ false → has_tail d ≡ false → (used d ≡ limit) ⊎ (d.capacity ≤ (end (last_record d)).0 + 1)
  -- fewer sectors are pending than a block has; with none pending the number is 0, else it names an incomplete record
  pub few : d.pending < 16
  pub none : d.pending ≡ 0 → d.owner ≡ 0
  pub owned : (d.pending ≡ 0 → ⊥) → Owned d
  -- a finalized disc has complete records alone and nothing pending
  pub closed : d.finalized ≡ true → (i : ℕ) → i < used d → complete (at d i) ≡ true
  pub settled : d.finalized ≡ true → d.pending ≡ 0
