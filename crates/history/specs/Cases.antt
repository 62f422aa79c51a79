-- Cases of the theorems: two controllers that send the same log, and what they and a reader see. Each is drawn from a statement
-- alone and not from its proof (proofs/Laws/Cases), so a statement that is weaker no longer gives it.
use Rattle.std.specs.Prelude.{ℕ, ◌+◌, ◌-◌, ◌*◌, ◌≤◌, ◌<◌, true, false, ◌≡◌, List, [], ◌∷◌, ◌++◌, map, length, get_or, replicate}
use Rattle.fragments.specs.Address.{lba}
use Rattle.protocol.specs.Command.{byte_at, decode}
use Rattle.disc.specs.Blank.{blank}
use Rattle.disc.specs.Records.{is_recorded, is_pending}
use Rattle.outcomes.specs.Recorded.{among}
use Rattle.drive.specs.Bytes.{zeros}
use Rattle.drive.specs.Step.{Drive, drive, Request, request, Result}
use Rattle.drive.specs.Alike.{recorded_byte, pending_sectors, Alike}
use Rattle.drive.specs.Requests.{WriteOf}
use Rattle.history.specs.Types.{Lba, Write, Answer, Accepted, Link, Drive as by_drive, BlankCheck, LinkRefusal, MediumSize, UnsoundState}
use Rattle.history.specs.Forms.{Form, ten, twelve, read_cdb, write_cdb, IsBytes}
use Rattle.history.specs.Sequence.{Start, Turn, result, final, Admissible, AllAccepted, blocks_of}
use Rattle.history.specs.Account.{extent_of, sector_at, account}
use Rattle.history.specs.Brought.{writes, brought_to, brought_into}
use Rattle.history.specs.Past.{beginning, past, StaleApart, StaleChanges}
use Rattle.history.specs.Stale.{Change, unchanged, Given, after, given, turn}
use Rattle.history.specs.Wide.{Portion, parts_of, total, nameable}

-- the answers of a sequence, its replies and its counts of blocks recorded
unfoldable pub answers : List Turn → Drive → List Answer
answers [] s = []
answers (t ∷ ts) s = (result t s).answer ∷ answers ts (result t s).after

unfoldable pub replies : List Turn → Drive → List (List ℕ)
replies [] s = []
replies (t ∷ ts) s = (result t s).reply ∷ replies ts (result t s).after

unfoldable pub counts : List Turn → Drive → List ℕ
counts [] s = []
counts (t ∷ ts) s = (result t s).recorded ∷ counts ts (result t s).after

-- a piece of flash for c blocks with its pending buffer, whatever bytes they hold, and the blank disc over it
pub record Flash (c : ℕ) : Type 0 where
  pub medium : List ℕ
  pub pending : List ℕ
  pub medium_length : length medium ≡ 32768 * c
  pub pending_length : length pending ≡ 32768

abbrev pub blank_over : (c : ℕ) → Flash c → Drive
blank_over c f = drive (blank c) f.medium f.pending

-- a log in six pieces, of 2, 1, 2, 3, 10 and 3 sectors
pub record Log : Type 0 where
  pub one : List ℕ
  pub two : List ℕ
  pub three : List ℕ
  pub four : List ℕ
  pub five : List ℕ
  pub six : List ℕ
  pub one_length : length one ≡ 4096
  pub two_length : length two ≡ 2048
  pub three_length : length three ≡ 4096
  pub four_length : length four ≡ 6144
  pub five_length : length five ≡ 20480
  pub six_length : length six ≡ 6144

abbrev pub first_five : Log → List ℕ
first_five l = l.one ++ (l.two ++ (l.three ++ []))

abbrev pub next_thirteen : Log → List ℕ
next_thirteen l = l.four ++ (l.five ++ [])

abbrev pub writing : Form → ℕ → ℕ → List ℕ → Request
writing f a n x = request (write_cdb f a n) x []

-- 52h number 1, READ of some sectors and of 16, and 35h, with a reply buffer that is full of some byte
abbrev pub asking : ℕ → Request
asking x = request (0x52 ∷ 1 ∷ 0 ∷ 0 ∷ 0 ∷ 1 ∷ 0 ∷ 0 ∷ 36 ∷ 0 ∷ 0 ∷ 0 ∷ []) [] (replicate 36 x)

abbrev pub reading_some : Form → ℕ → ℕ → ℕ → Request
reading_some f a n x = request (read_cdb f a n) [] (replicate (2048 * n) x)

abbrev pub reading : Form → ℕ → ℕ → Request
reading f a x = reading_some f a 16 x

abbrev pub flushing : Request
flushing = request (0x35 ∷ 0 ∷ 0 ∷ 0 ∷ 0 ∷ 0 ∷ 0 ∷ 0 ∷ 0 ∷ 0 ∷ 0 ∷ 0 ∷ []) [] []

-- the newer controller: WRITE 0 of 5, 52h, WRITE (12) 5 of 13, READ (12) 2 of 16, whose last two sectors are pending, 35h, READ 32 of 16,
-- which is refused, and WRITE 32 of 3. Before command i stale bytes change as j i says
abbrev pub newer : Log → ℕ → (ℕ → Change) → List Given
newer l x j =
    after (j 0) (writing ten 0 5 (first_five l)) ∷ after (j 1) (asking x) ∷ after (j 2) (writing twelve 5 13 (next_thirteen l))
    ∷ after (j 3) (reading twelve 2 x) ∷ after (j 4) flushing ∷ after (j 5) (reading ten 32 x) ∷ after (j 6) (writing ten 32 3 l.six) ∷ []

-- the older one sends the first WRITE in three, by both forms, the second in two by WRITE (10), and hands other reply buffers over
abbrev pub older : Log → ℕ → (ℕ → Change) → List Given
older l x j =
    after (j 0) (writing ten 0 2 l.one) ∷ after (j 1) (writing twelve 2 1 l.two) ∷ after (j 2) (writing ten 3 2 l.three) ∷ after (j 3) (asking x)
    ∷ after (j 4) (writing ten 5 3 l.four) ∷ after (j 5) (writing ten 8 10 l.five) ∷ after (j 6) (reading twelve 2 x) ∷ after (j 7) flushing
    ∷ after (j 8) (reading ten 32 x) ∷ after (j 9) (writing ten 32 3 l.six) ∷ []

-- the newer controller's first command, which leaves five sectors pending, and its first three, which leave two
abbrev pub earliest : Log → (ℕ → Change) → List Given
earliest l j = after (j 0) (writing ten 0 5 (first_five l)) ∷ []

abbrev pub early : Log → ℕ → (ℕ → Change) → List Given
early l x j = after (j 0) (writing ten 0 5 (first_five l)) ∷ after (j 1) (asking x) ∷ after (j 2) (writing twelve 5 13 (next_thirteen l)) ∷ []

-- the newer controller's turns ts from the drive s on, and the older one's turns us from e on: two discs, each over bytes of its own
pub record TwoControllers (ts : List Turn) (s : Drive) (us : List Turn) (e : Drive) : Type 0 where
  -- every part of a WRITE is accepted, and so is every other command but the READ that is refused to the newer one too
  pub answers : answers us e ≡ replicate 8 Accepted ++ (by_drive BlankCheck ∷ Accepted ∷ [])
  -- 52h and READ reply alike
  pub information : get_or (replies us e) 3 [] ≡ get_or (replies ts s) 1 []
  pub reading : get_or (replies us e) 6 [] ≡ get_or (replies ts s) 3 []
  -- the parts record as many blocks as the WRITEs, and 35h as many as 35h
  pub first_parts : get_or (counts us e) 0 0 + (get_or (counts us e) 1 0 + get_or (counts us e) 2 0) ≡ get_or (counts ts s) 0 0
  pub second_parts : get_or (counts us e) 4 0 + get_or (counts us e) 5 0 ≡ get_or (counts ts s) 2 0
  pub flushed : get_or (counts us e) 7 0 ≡ get_or (counts ts s) 4 0
  -- at the end: the same disc, the same bytes in the two blocks recorded, the same three pending sectors
  pub disc : (final us e).disc ≡ (final ts s).disc
  pub recorded : (i : ℕ) → i < 65536 → get_or (final us e).medium i 0 ≡ get_or (final ts s).medium i 0
  pub pending : pending_sectors (final us e) ≡ pending_sectors (final ts s)

-- from one drive with nothing changed from outside: the same medium and pending buffer, leftover bytes included
pub record ByteForByte (ts us : List Turn) (s : Drive) : Type 0 where
  pub medium : (final us s).medium ≡ (final ts s).medium
  pub pending : (final us s).pending ≡ (final ts s).pending

-- the block that the second WRITE completed: recorded at the end, with the bytes that it had then
abbrev pub BlockStays : List Turn → List Turn → Drive → Type 0
BlockStays before ts s =
    (i : ℕ) → i < 32768 → (recorded_byte (final ts s).disc i ≡ true) × (get_or (final ts s).medium i 0 ≡ get_or (final before s).medium i 0)

-- after RESERVE 48: WRITE 0 of 49 does not fit, WRITE 0 of 48 does; each in two parts, the second by WRITE (12)
abbrev pub reserving : Request
reserving = request (0x53 ∷ 0 ∷ 0 ∷ 0 ∷ 0 ∷ 0 ∷ 0 ∷ 0 ∷ 48 ∷ 0 ∷ 0 ∷ 0 ∷ []) [] []

abbrev pub in_two : List ℕ → List ℕ → ℕ → (ℕ → Change) → List Given
in_two x y n j = after (j 0) reserving ∷ after (j 1) (writing ten 0 40 x) ∷ after (j 2) (writing twelve 40 n y) ∷ []

pub record Fitting (s : Drive) (x y z : List ℕ) (j : ℕ → Change) : Type 0 where
  -- a WRITE that fits in part: not every part of it is accepted
  pub partly : answers (given (in_two x y 9 j) s) s ≡ replicate 3 Accepted → ⊥
  -- one that fits whole
  pub wholly : answers (given (in_two x z 8 j) s) s ≡ replicate 3 Accepted

-- what comes of a command after a sequence
abbrev pub after_all : List Turn → Drive → Given → Result
after_all ts s g = result (turn g (final ts s)) (final ts s)

-- what a reader finds of the log, in the newer controller's turns ts from the drive s on: READ (12) 2 of 16 before the flush, and at the end
-- READs after a change c; `first` is its first turn
pub record Reader (l : Log) (x : ℕ) (first ts : List Turn) (s : Drive) (c : Change) : Type 0 where
  -- sectors 3 and 7 are sector 3 of the first WRITE and sector 2 of the second
  pub early : sector_at 1 (get_or (replies ts s) 3 []) ≡ sector_at 3 (first_five l)
  pub second : sector_at 5 (get_or (replies ts s) 3 []) ≡ sector_at 2 (next_thirteen l)
  -- sector 17, which is pending then, is the log's last so far
  pub across : sector_at 15 (get_or (replies ts s) 3 []) ≡ sector_at 12 (next_thirteen l)
  -- after the flush sector 17 is the last one of the log, and sector 18 zeros that nobody wrote
  pub last : sector_at 1 (after_all ts s (after c (reading ten 16 x))).reply ≡ sector_at 12 (next_thirteen l)
  pub zeroed : sector_at 2 (after_all ts s (after c (reading ten 16 x))).reply ≡ zeros 2048
  -- sectors 17 and 31 are recorded, 32 is not; 34 is pending, 35 is not; 33 holds what the last WRITE brought
  pub log : is_recorded (final ts s).disc (lba 17) ≡ true
  pub padding : is_recorded (final ts s).disc (lba 31) ≡ true
  pub beyond : is_recorded (final ts s).disc (lba 32) ≡ false
  pub waiting : is_pending (final ts s).disc (lba 34) ≡ true
  pub ended : is_pending (final ts s).disc (lba 35) ≡ false
  pub held : sector_at 1 (final ts s).pending ≡ sector_at 1 l.six
  -- READ 31 of 4 is accepted, over the border and up to the last pending sector; READ 31 of 5 is not, but refused by 8/00/00
  pub accepted : (after_all ts s (after c (reading_some ten 31 4 x))).answer ≡ Accepted
  pub beyond_last : (after_all ts s (after c (reading_some ten 31 5 x))).answer ≡ Accepted → ⊥
  pub refused : (after_all ts s (after c (reading_some ten 31 5 x))).answer ≡ by_drive BlankCheck
  -- no request is refused by L2 or L3
  pub served :
      (r : Request) (q : LinkRefusal) → (after_all ts s (after c r)).answer ≡ Link q → (q ≡ MediumSize → ⊥) × (q ≡ UnsoundState → ⊥)
  -- 21 sectors accepted, 32 recorded, 14 of them zero-filled, three pending
  pub accepted_sectors : (account 1 ts s).accepted ≡ 21
  pub recorded_sectors : (account 1 ts s).recorded ≡ 32
  pub zero_sectors : (account 1 ts s).zero_filled ≡ 14
  pub pending_sectors : (account 1 ts s).pending ≡ 3
  -- five accepted by the first WRITE, though none is recorded
  pub first_sectors : (account 1 first s).accepted ≡ 5

-- the same log by its requests; `before` are the first three turns of ts
pub record Requested (l : Log) (x : ℕ) (before ts : List Turn) (s : Drive) (c : Change) : Type 0 where
  -- sector 7 is the one that the second WRITE brought there, and nobody brought anything to sector 20
  pub brought : sector_at 7 (after_all ts s (after c (reading ten 0 x))).reply ≡ sector_at 2 (next_thirteen l)
  pub none : sector_at 4 (after_all ts s (after c (reading ten 16 x))).reply ≡ zeros 2048
  -- sectors 33 and 34, which are pending, are those that the last WRITE brought there
  pub waiting : sector_at 1 (after_all ts s (after c (reading_some ten 32 3 x))).reply ≡ sector_at 1 l.six
  pub waiting_last : sector_at 2 (after_all ts s (after c (reading_some ten 32 3 x))).reply ≡ sector_at 2 l.six
  -- nobody brings a second sector to an address
  pub once : length (brought_to 7 (writes ts s)) ≤ 1
  -- 21 sectors lie in the fragment as it is listed; the account has as many
  pub listed : brought_into (extent_of (final ts s).disc 1) (writes ts s) ≡ 21
  pub counted : brought_into (extent_of (final ts s).disc 1) (writes ts s) ≡ (account 1 ts s).accepted
  -- before the flush two sectors are held; after it block 1 is recorded, block 2 is not, and three are held
  pub held : (past before s).held ≡ 2
  pub flushed : (past ts s).recorded 1 ≡ true
  pub beyond : (past ts s).recorded 2 ≡ false
  pub late : (past ts s).held ≡ 3
  -- sector 34 is the last of them, 35 is not held
  pub last_held : among ((past ts s).next - (past ts s).held) (past ts s).held 34 ≡ true
  pub past_held : among ((past ts s).next - (past ts s).held) (past ts s).held 35 ≡ false
  -- what came from outside was stale bytes alone, and every sequence of which that is so is covered
  pub outside : StaleChanges ts s beginning
  pub covered : (us : List Turn) → StaleChanges us s beginning → Admissible us s
  -- a drive is alike at the end exactly when it differs in stale bytes at most
  pub apart : (e : Drive) → Alike (final ts s) e → StaleApart (past ts s) (final ts s) e
  pub alike : (e : Drive) → StaleApart (past ts s) (final ts s) e → Alike (final ts s) e

-- on a disc of c blocks, for every flash, log, reply buffers and changes
pub record CasesOn (c : ℕ) : Type 0 where
  pub controllers :
      (f g : Flash c) (l : Log) (x y : ℕ) (j k : ℕ → Change)
      → TwoControllers (given (newer l x j) (blank_over c f)) (blank_over c f) (given (older l y k) (blank_over c g)) (blank_over c g)
  pub exactly :
      (f : Flash c) (l : Log) (x y : ℕ)
      → ByteForByte (given (newer l x (λ i. unchanged)) (blank_over c f)) (given (older l y (λ i. unchanged)) (blank_over c f)) (blank_over c f)
  pub stays :
      (f : Flash c) (l : Log) (x : ℕ) (j : ℕ → Change)
      → BlockStays (given (early l x j) (blank_over c f)) (given (newer l x j) (blank_over c f)) (blank_over c f)
  pub fitting :
      (f : Flash c) (x y z : List ℕ) → length x ≡ 81920 → length y ≡ 18432 → length z ≡ 16384 → (j : ℕ → Change) → Fitting (blank_over c f) x y z j
  pub reader :
      (f : Flash c) (l : Log) (x : ℕ) (j : ℕ → Change)
      → Reader l x (given (earliest l j) (blank_over c f)) (given (newer l x j) (blank_over c f)) (blank_over c f) (j 7)
  pub requested :
      (f : Flash c) (l : Log) (x : ℕ) (j : ℕ → Change)
      → Requested l x (given (early l x j) (blank_over c f)) (given (newer l x j) (blank_over c f)) (blank_over c f) (j 7)

-- the first WRITE of a disc, g, and its parts hs, from the drive s on and from another one: each part is accepted, and together they record as
-- many blocks as the whole and leave the same disc
pub record FirstWrite (g : Given) (hs : List Given) (s e : Drive) : Type 0 where
  pub here : AllAccepted (given hs s) s
  pub there : AllAccepted (given hs e) e
  pub blocks : blocks_of (given hs e) e ≡ (result (turn g s) s).recorded
  pub disc : (final (given hs e) e).disc ≡ (result (turn g s) s).after.disc

-- the longest WRITEs there are, at the last address: 2Ah of 65,535 sectors and AAh of 4,294,967,295
abbrev pub longest_ten : List ℕ
longest_ten = 0x2A ∷ 0 ∷ 0xFF ∷ 0xFF ∷ 0xFF ∷ 0xFF ∷ 0 ∷ 0xFF ∷ 0xFF ∷ 0 ∷ 0 ∷ 0 ∷ []

abbrev pub longest_twelve : List ℕ
longest_twelve = 0xAA ∷ 0 ∷ 0xFF ∷ 0xFF ∷ 0xFF ∷ 0xFF ∷ 0xFF ∷ 0xFF ∷ 0xFF ∷ 0xFF ∷ 0 ∷ 0 ∷ []

pub record Limits : Type 0 where
  pub by_ten : (x : List ℕ) → length x ≡ 134215680 → WriteOf (request longest_ten x []) (lba 4294967295) 65535
  pub by_twelve : (x : List ℕ) → length x ≡ 8796093020160 → WriteOf (request longest_twelve x []) (lba 4294967295) 4294967295
  pub of_bytes : IsBytes longest_ten × IsBytes longest_twelve
  pub opcodes : (a n : ℕ) → (byte_at (write_cdb ten a n) 0 ≡ 0x2A) × (byte_at (write_cdb twelve a n) 0 ≡ 0xAA)
  -- and what is none: 2Ah of 65,536 sectors, either form of 4,294,967,296, and either form at 4,294,967,296
  pub no_longer_ten : (b : List ℕ) → IsBytes b → byte_at b 0 ≡ 0x2A → (a : Lba) → decode b ≡ Write a 65536 → ⊥
  pub no_longer : (b : List ℕ) → IsBytes b → (a : Lba) → decode b ≡ Write a 4294967296 → ⊥
  pub no_further : (b : List ℕ) → IsBytes b → (n : ℕ) → decode b ≡ Write (lba 4294967296) n → ⊥

-- on the smallest disc and on the largest; and on every disc the first WRITE, of any length that fits, in parts of any forms and lengths
pub record Cases : Type 0 where
  pub limits : Limits
  pub smallest : CasesOn 256
  pub largest : CasesOn 143444
  pub everywhere :
      (c : ℕ) (s e : Drive) → Start c s → Start c e → (g : Given) (n : ℕ) → WriteOf g.request (lba 0) n → n ≤ 16 * c → (ks : List Portion) → 2 ≤ length ks
      → total ks ≡ n → nameable 0 ks ≡ true → (hs : List Given) → map (λ (h : Given). h.request) hs ≡ parts_of 0 ks g.request.payload
      → FirstWrite g hs s e
