-- The search for the fragment that an address lies in, as a definition that counts its looks. That it finds what the list's own definition
-- finds, `holder_of` of `fragments`, is a law about lists whose fragments lie apart (`halving-finds`).
use Rattle.std.specs.Prelude.{ℕ, zero, suc, ◌+◌, ◌-◌, ◌/◌, ◌<◌, ◌≡◌, cond, ◌||◌, List, [], ◌∷◌, length, get_or, eqb, ltb}
use Rattle.search.specs.Types.{Lba, Fragment, Option, Some, None, Entry, Sought, Side, Left, Right, Here}
use Rattle.fragments.specs.Address.{first_sector}
use Rattle.fragments.specs.Fragment.{unused_record, unused, end}
use Rattle.fragments.specs.List.{limit, record_numbered}
use Rattle.fragments.specs.Entry.{entry}

-- what one record tells of the fragment that an address lies in: it can only stand left of the record, which is unused or starts above
-- the address, or right of it, or it is this one
abbrev pub step : Lba → Fragment → Side
step a f =
    cond (unused f || ltb a.0 (first_sector f.start).0) Left
    (cond (ltb a.0 (first_sector (end f)).0) Here Right)

-- a search that looks at n records at the most: it has ended, or it looks at the record at one index and goes on by that record alone
pub data Search : ℕ → Type 0 where
  ends : (n : ℕ) → Option Entry → Search n
  looks : (n : ℕ) → ℕ → (Fragment → Search n) → Search (suc n)

-- what a search finds in a list
unfoldable pub finds : {n : ℕ} → List Fragment → Search n → Option Entry
finds fs (ends n h) = h
finds fs (looks n i next) = finds fs (next (get_or fs i unused_record))

-- the indices of the records that it looks at there, one a look
unfoldable pub seen : {n : ℕ} → List Fragment → Search n → List ℕ
seen fs (ends n h) = []
seen fs (looks n i next) = i ∷ seen fs (next (get_or fs i unused_record))

-- two lists have the same records at these indices
abbrev pub SameAt : List ℕ → List Fragment → List Fragment → Type 0
SameAt is fs gs = (k : ℕ) → k < length is → get_or fs (get_or is k 0) unused_record ≡ get_or gs (get_or is k 0) unused_record

-- what a search comes to: what it finds, and how many records it looks at
abbrev pub sought : {n : ℕ} → List Fragment → Search n → Sought
sought fs s = record { holder = finds fs s; looks = length (seen fs s) }

-- the middle of the indices from low to before high
abbrev pub middle : ℕ → ℕ → ℕ
middle low high = low + (high - low) / 2

-- a choice by what a step says
abbrev pub by_side : {A : Type 0} → Side → A → A → A → A
by_side Left left right here = left
by_side Right left right here = right
by_side Here left right here = here

-- halving: n looks at the most, each at the middle one of the records in question, those from the index low to before high
unfoldable pub halve : (n : ℕ) → Lba → ℕ → ℕ → Search n
halve zero a low high = ends zero None
halve (suc n) a low high =
    let m = middle low high in
    cond (eqb low high) (ends (suc n) None)
    (looks n m
    (λ f. by_side (step a f) (halve n a low m) (halve n a (m + 1) high) (ends n (Some (entry (m + 1) f)))))

-- eight looks are enough for the records of a disc
abbrev pub enough : ℕ
enough = 8

-- the search among the records of a disc; its type says eight, so that another number above is refused
abbrev pub halving : Lba → Search 8
halving a = halve enough a 0 limit

-- what a search ought to find: the fragment of the list's own definition
abbrev pub held : List Fragment → Option ℕ → Option Entry
held fs (Some n) = Some (entry n (record_numbered fs n))
held fs None = None
