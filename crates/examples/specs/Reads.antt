-- Reading back what is still pending, as tables: document 02's case, a run across the border, and pending sectors of a fragment that is not the
-- last. Of each READ its answer's number, and what is sent: so many sectors of the medium from an address on, then from a place in the pending
-- buffer on so many of that. Bytes are the upper layer's; a host reads them in its own test.
use Rattle.std.specs.Prelude.{ℕ, ◌≡◌, refl, false, List, [], ◌∷◌, map}
use Rattle.examples.specs.Types.{Reserved, Appended, Disc, Nothing, Send, Transfer}
use Rattle.fragments.specs.Address.{lba}
use Rattle.fragments.specs.Fragment.{fragment}
use Rattle.fragments.specs.List.{listed, some, find, sum_recorded, highest_readable}
use Rattle.protocol.specs.Answer.{no_sense, number}
use Rattle.disc.specs.Blank.{blank}
use Rattle.disc.specs.Records.{last_readable}
use Rattle.disc.specs.Verdict.{accepted, accept, refuse}
use Rattle.commands.specs.Flush.{flush, flush_plan}
use Rattle.commands.specs.Read.{all_readable, medium_share, sending, read}
use Rattle.commands.specs.Write.{flush_others, flush_others_plan, gather, write_to, write_found, write}
use Rattle.examples.specs.Values.{holding}

-- a READ: its address, its length, the answer's number and what is sent
pub record Reading : Type 0 where
  pub address : ℕ
  pub count : ℕ
  pub answer : ℕ
  pub sent : Transfer

abbrev reading : ℕ → ℕ → ℕ → Transfer → Reading
reading a n k t = record { address = a; count = n; answer = k; sent = t }

-- a disc, its last readable address and READs of it
pub record Disclosed : Type 0 where
  pub disc : Disc
  pub last : ℕ
  pub readings : List Reading

abbrev disclosed : Disc → ℕ → List Reading → Disclosed
disclosed d a rs = record { disc = d; last = a; readings = rs }

-- what the definitions make of the same disc and READs
unfoldable pub as_read_is : Disc → Reading → Reading
as_read_is d r = let v = read d (lba r.address) r.count in reading r.address r.count (number v.answer) v.plan.transfer

unfoldable pub as_it_is : Disclosed → Disclosed
as_it_is x = disclosed x.disc (last_readable x.disc).0 (map (as_read_is x.disc) x.readings)

abbrev accepts : ℕ
accepts = 0

-- a blank disc of 300 blocks after WRITE 0 of n
abbrev after_write : ℕ → Disc
after_write n = (write (blank 300) (lba 0) n).disc

abbrev pub table : List Disclosed
table =
    -- document 02's case: 0 of 5 gives the pending sectors, 0 of 6 one too many, and the last readable address is 4
    disclosed (after_write 5) 4
    (reading 0 5 accepts (Send (lba 0) 0 0 5) ∷ reading 0 6 0x080000 Nothing ∷ reading 4 1 accepts (Send (lba 4) 0 4 1)
    ∷ reading 1 3 accepts (Send (lba 1) 0 1 3) ∷ reading 5 1 0x080000 Nothing ∷ reading 4799 2 0x052100 Nothing ∷ reading 9999 0 accepts Nothing ∷ [])
    -- nothing pending: 16 recorded sectors, and 8/00/00 past them
    ∷ disclosed (after_write 16) 15 (reading 0 16 accepts (Send (lba 0) 16 0 0) ∷ reading 15 2 0x080000 Nothing ∷ [])
    -- across the border: 16 recorded, four pending
    ∷ disclosed (after_write 20) 19
    (reading 10 10 accepts (Send (lba 10) 6 0 4) ∷ reading 0 20 accepts (Send (lba 0) 16 0 4) ∷ reading 15 2 accepts (Send (lba 15) 1 0 1)
    ∷ reading 0 16 accepts (Send (lba 0) 16 0 0) ∷ reading 10 3 accepts (Send (lba 10) 3 13 0) ∷ reading 16 4 accepts (Send (lba 16) 0 0 4)
    ∷ reading 18 2 accepts (Send (lba 18) 0 2 2) ∷ reading 10 11 0x080000 Nothing ∷ reading 16 5 0x080000 Nothing ∷ reading 20 1 0x080000 Nothing ∷ [])
    -- five sectors pending in a reserved fragment, after its one recorded block and below a tail that has a block: the last address is the tail's
    ∷ disclosed (holding false no_sense 5 1 (fragment 1 0 2 1 0 Reserved ∷ fragment 1 3 297 1 0 Appended ∷ [])) 63
    (reading 14 7 accepts (Send (lba 14) 2 0 5) ∷ reading 17 4 accepts (Send (lba 17) 0 1 4) ∷ reading 48 16 accepts (Send (lba 48) 16 0 0)
    ∷ reading 20 2 0x080000 Nothing ∷ reading 21 1 0x080000 Nothing ∷ reading 48 17 0x080000 Nothing ∷ reading 16 48 0x080000 Nothing ∷ [])
    -- and in the fragment between two others
    ∷ disclosed (holding false no_sense 15 2 (fragment 1 0 2 2 12 Appended ∷ fragment 1 3 3 1 0 Reserved ∷ fragment 1 7 293 0 0 Appended ∷ [])) 78
    (reading 0 32 accepts (Send (lba 0) 32 0 0) ∷ reading 48 31 accepts (Send (lba 48) 16 0 15) ∷ reading 78 1 accepts (Send (lba 78) 0 14 1)
    ∷ reading 78 2 0x080000 Nothing ∷ reading 31 2 0x080000 Nothing ∷ reading 31 18 0x080000 Nothing ∷ reading 112 1 0x080000 Nothing ∷ [])
    ∷ []

pub read_back : map as_it_is table ≡ table
unfolding
    as_it_is as_read_is blank listed some find sum_recorded highest_readable accepted accept refuse flush flush_plan
    all_readable medium_share sending read flush_others flush_others_plan gather write_to write_found write
read_back = refl
