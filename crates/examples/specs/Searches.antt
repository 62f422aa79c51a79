-- The search for the fragment that an address lies in, computed: what it finds, and which records it looks at on the way.
use Rattle.std.specs.Prelude.{ℕ, zero, suc, ◌+◌, ◌-◌, ◌*◌, ◌≤◌, ◌≡◌, refl, true, false, List, [], ◌∷◌, ◌++◌, map, replicate, Bool, is_some}
use Rattle.examples.specs.Types.{Lba, Fragment, Appended, Reserved, Option, Some, None, Entry, Disc, Left, Right, Here}
use Rattle.fragments.specs.Address.{lba}
use Rattle.fragments.specs.Fragment.{fragment, unused_record}
use Rattle.fragments.specs.List.{limit, listed, every, holder_of}
use Rattle.search.specs.Search.{step, finds, seen, SameAt, sought, halve, enough, halving, held}
use Rattle.disc.specs.Sound.{used_first, first_at_zero, follows_from, in_order, ends_within, recorded_within, zeroed_within, incomplete_last, tail_last, tail_or_full, pending_named, finalized_complete, sound}
use Rattle.disc.proofs.Laws.Rules.{sound-rules}
use Rattle.commands.specs.Holder.{EightLooks}
use Rattle.commands.proofs.Laws.Holder.{eight-looks}
use Rattle.examples.specs.States.{on, column, last_start, full_of_tail}

-- blocks 2 and 3, so sectors 32 to 63: an address before them, the first and the last of them, the one after; and a record not in use
pub sides :
    (map (λ a. step (lba a) (fragment 1 2 2 0 0 Reserved)) (31 ∷ 32 ∷ 63 ∷ 64 ∷ []) ≡ (Left ∷ Here ∷ Here ∷ Right ∷ []))
    × (map (λ a. step (lba a) unused_record) (0 ∷ 100 ∷ []) ≡ (Left ∷ Left ∷ []))
sides = (refl, refl)

-- two fragments and a tail after Closure and Intro
abbrev three : List Fragment
three =
    fragment 1 0 2 2 0 Reserved ∷ fragment 1 3 2 2 0 Appended ∷ fragment 2 133 167 0 0 Appended ∷ replicate (limit - 3) unused_record

-- the number of what is found, and its record; 0 and an unused record where nothing is
abbrev number_of : Option Entry → ℕ
number_of (Some e) = e.number
number_of None = 0

abbrev record_of : Option Entry → Fragment
record_of (Some e) = e.fragment
record_of None = unused_record

abbrev number : List Fragment → ℕ → ℕ
number fs a = number_of (finds fs (halving (lba a)))

-- whether anything is found: an entry under 0 has the number and may have the record of nothing
abbrev is_found : List Fragment → ℕ → Bool
is_found fs a = is_some (finds fs (halving (lba a)))

-- first and last sectors, the dividing block, Closure and Intro, the end of the disc and addresses past it; the record comes with its number
pub few_records :
    (map (number three) (0 ∷ 31 ∷ 32 ∷ 47 ∷ 48 ∷ 79 ∷ 80 ∷ 1104 ∷ 2127 ∷ 2128 ∷ 4799 ∷ 4800 ∷ 0xFFFFFFFF ∷ [])
    ≡ (1 ∷ 1 ∷ 0 ∷ 0 ∷ 2 ∷ 2 ∷ 0 ∷ 0 ∷ 0 ∷ 3 ∷ 3 ∷ 0 ∷ 0 ∷ []))
    × (map (is_found three) (0 ∷ 31 ∷ 32 ∷ 47 ∷ 48 ∷ 79 ∷ 80 ∷ 1104 ∷ 2127 ∷ 2128 ∷ 4799 ∷ 4800 ∷ 0xFFFFFFFF ∷ [])
    ≡ (true ∷ true ∷ false ∷ false ∷ true ∷ true ∷ false ∷ false ∷ false ∷ true ∷ true ∷ false ∷ false ∷ []))
    × (map (λ a. (record_of (finds three (halving (lba a)))).start.0) (0 ∷ 48 ∷ 80 ∷ 4799 ∷ []) ≡ (0 ∷ 3 ∷ 0 ∷ 133 ∷ []))
    × (map (λ a. (record_of (finds three (halving (lba a)))).length) (0 ∷ 48 ∷ 80 ∷ 4799 ∷ []) ≡ (2 ∷ 2 ∷ 0 ∷ 167 ∷ []))
    × (seen three (halving (lba 0)) ≡ (80 ∷ 40 ∷ 20 ∷ 10 ∷ 5 ∷ 2 ∷ 1 ∷ 0 ∷ []))
    × (seen three (halving (lba 80)) ≡ (80 ∷ 40 ∷ 20 ∷ 10 ∷ 5 ∷ 2 ∷ 1 ∷ []))
unfolding finds seen halve
few_records = (refl, refl, refl, refl, refl, refl)

-- the numbers below n
unfoldable pub indices : ℕ → List ℕ
indices zero = []
indices (suc n) = indices n ++ (n ∷ [])

-- a full list of fragments of a block each, the last one a tail: every one at its first sector, by its index, and the dividing block after it
pub every_record :
    (map (λ i. number full_of_tail (32 * i)) (indices limit) ≡ map (λ i. i + 1) (indices limit))
    × (map (λ i. number full_of_tail (32 * i + 16)) (indices (limit - 1)) ≡ replicate (limit - 1) 0)
    × (map (λ i. is_found full_of_tail (32 * i + 16)) (indices (limit - 1)) ≡ replicate (limit - 1) false)
unfolding finds halve column indices
every_record = (refl, refl, refl)

-- the last one is found by the seventh look, and an address past its end is found nowhere after seven; the first one needs eight
pub looks_needed :
    (seen full_of_tail (halving (lba (16 * last_start))) ≡ (80 ∷ 120 ∷ 140 ∷ 150 ∷ 155 ∷ 158 ∷ 159 ∷ []))
    × (sought full_of_tail (halving (lba (16 * (last_start + 130)))) ≡ record { holder = None; looks = 7 })
    × (seen full_of_tail (halving (lba 0)) ≡ (80 ∷ 40 ∷ 20 ∷ 10 ∷ 5 ∷ 2 ∷ 1 ∷ 0 ∷ []))
    × (number_of (finds full_of_tail (halve 8 (lba 0) 0 limit)) ≡ 1) × (number_of (finds full_of_tail (halve 7 (lba 0) 0 limit)) ≡ 0)
    × (is_some (finds full_of_tail (halve 7 (lba 0) 0 limit)) ≡ false)
    × (enough ≡ 8)
unfolding finds seen halve column
looks_needed = (refl, refl, refl, refl, refl, refl, refl)

-- what the reader's statement says of a disc with those three fragments, drawn from it as a hypothesis: a weaker statement would not do
abbrev disc : Disc
disc = on 300 0 0 false (fragment 1 0 2 2 0 Reserved ∷ fragment 1 3 2 2 0 Appended ∷ fragment 2 133 167 0 0 Appended ∷ [])

pub drawn :
    (a : Lba) → EightLooks disc a
    → (finds three (halving a) ≡ held three (holder_of three a)) × ((sought three (halving a)).looks ≤ 8)
    × ((gs : List Fragment) → SameAt (seen three (halving a)) three gs → finds three (halving a) ≡ finds gs (halving a))
drawn a e = (e.right, e.few, e.alone)

-- and the disc is a sound one, so it holds of it
pub sound-disc : sound disc ≡ true
unfolding
    sound listed every used_first first_at_zero follows_from in_order ends_within recorded_within zeroed_within incomplete_last tail_last tail_or_full
    pending_named finalized_complete
sound-disc = refl

pub has_eight_looks : (a : Lba) → EightLooks disc a
has_eight_looks = eight-looks disc (sound-rules disc sound-disc)
