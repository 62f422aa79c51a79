-- Wide witnesses: for every capacity and any requests, with any bytes in every stale place before each command, there are admissible
-- sequences, and second sequences with accepted WRITEs cut in any way.
use Rattle.std.specs.Prelude.{ℕ, ◌+◌, ◌*◌, ◌≤◌, ◌<◌, Bool, true, false, cond, ◌&&◌, ◌≡◌, List, [], ◌∷◌, ◌++◌, map, eqb, leb, ltb, length, get_or, take, drop}
use Rattle.fragments.specs.Address.{lba}
use Rattle.disc.specs.Blank.{in_range, blank}
use Rattle.protocol.specs.Command.{decode}
use Rattle.drive.specs.Bytes.{zeros}
use Rattle.drive.specs.Step.{Drive, drive, Request, request, step}
use Rattle.drive.specs.Alike.{recorded_byte}
use Rattle.drive.specs.Requests.{WriteOf}
use Rattle.history.specs.Types.{Lba, Answer, Accepted, Link, Drive as by_drive, Command, TestUnitReady, RequestSense, Inquiry, ReadCapacity, Read, Write, SynchronizeCache, ReserveTrack, CloseTrackSession, GetConfiguration, ReadDiscInformation, ReadTrackInformation, Unlisted}
use Rattle.history.specs.Sequence.{Start, result, Admissible}
use Rattle.history.specs.Forms.{Form, longest, addresses, write_cdb}
use Rattle.history.specs.Cut.{CutOf, Again}
use Rattle.history.specs.Stale.{stirred, Given, turn, given}

-- n bytes, each by its index
abbrev pub filled_by : (ℕ → ℕ) → ℕ → List ℕ
filled_by f n = stirred (λ i. false) (λ i x. f i) 0 (zeros n)

-- the blank disc of c blocks over any bytes
abbrev pub start_over : ℕ → (ℕ → ℕ) → (ℕ → ℕ) → Drive
start_over c m p = drive (blank c) (filled_by m (32768 * c)) (filled_by p 32768)

-- a part by the form of its command block and its number of sectors
pub record Portion : Type 0 where
  pub form : Form
  pub sectors : ℕ

abbrev pub portion : Form → ℕ → Portion
portion f n = record { form = f; sectors = n }

-- the parts of a WRITE by their portions: each begins where the last ended and brings its own sectors
unfoldable pub parts_of : ℕ → List Portion → List ℕ → List Request
parts_of a [] x = []
parts_of a (k ∷ ks) x =
    let n = k.sectors in
    request (write_cdb k.form a n) (take (2048 * n) x) [] ∷ parts_of (a + n) ks (drop (2048 * n) x)

-- how many sectors they have together
unfoldable pub total : List Portion → ℕ
total [] = 0
total (k ∷ ks) = k.sectors + total ks

-- from an address on there are such parts: each has at least one sector, and a command block of its form names its length and its address
unfoldable pub nameable : ℕ → List Portion → Bool
nameable a [] = true
nameable a (k ∷ ks) = leb 1 k.sectors && leb k.sectors (longest k.form) && ltb a addresses && nameable (a + k.sectors) ks

-- they are a cut of a WRITE of n sectors at an address: two or more, n sectors together, and nameable
abbrev pub is_cut : Request → ℕ → ℕ → List Portion → Bool
is_cut q a n ks = eqb (length q.cdb) 12 && eqb (length q.payload) (2048 * n) && leb 2 (length ks) && eqb (total ks) n && nameable a ks

-- a command again: in parts, if they are a cut of a WRITE that was accepted, else as it was
unfoldable pub recut_command : List Portion → Request → Command → List Request
recut_command ks q (Write a n) = cond (is_cut q a.0 n ks) (parts_of a.0 ks q.payload) (q ∷ [])
recut_command ks q TestUnitReady = q ∷ []
recut_command ks q (RequestSense allocation) = q ∷ []
recut_command ks q (Inquiry pageBit allocation) = q ∷ []
recut_command ks q ReadCapacity = q ∷ []
recut_command ks q (Read a n) = q ∷ []
recut_command ks q SynchronizeCache = q ∷ []
recut_command ks q (ReserveTrack size) = q ∷ []
recut_command ks q (CloseTrackSession function n) = q ∷ []
recut_command ks q (GetConfiguration request_type start allocation) = q ∷ []
recut_command ks q (ReadDiscInformation dataType allocation) = q ∷ []
recut_command ks q (ReadTrackInformation addressType n allocation) = q ∷ []
recut_command ks q Unlisted = q ∷ []

unfoldable pub recut : Answer → List Portion → Request → List Request
recut Accepted ks q = recut_command ks q (decode q.cdb)
recut (Link r) ks q = q ∷ []
recut (by_drive r) ks q = q ∷ []

-- a whole sequence again, with the portions of the parts for each command; those after the last that has portions stay
unfoldable pub second : List (List Portion) → List Given → Drive → List Request
second cuts [] s = []
second [] (g ∷ gs) s = g.request ∷ second [] gs (result (turn g s) s).after
second (ks ∷ cuts) (g ∷ gs) s = recut (result (turn g s) s).answer ks g.request ++ second cuts gs (result (turn g s) s).after

pub record Wide : Type 0 where
  -- a start of every capacity, over any bytes
  pub start : (c : ℕ) → in_range c ≡ true → (m p : ℕ → ℕ) → Start c (start_over c m p)
  pub medium : (c : ℕ) (m p : ℕ → ℕ) (i : ℕ) → i < 32768 * c → get_or (start_over c m p).medium i 0 ≡ m i
  pub pending : (c : ℕ) (m p : ℕ → ℕ) (i : ℕ) → i < 32768 → get_or (start_over c m p).pending i 0 ≡ p i
  -- any requests, with any change of stale bytes before each, are an admissible sequence
  pub admissible : (gs : List Given) (s : Drive) → Admissible (given gs s) s
  -- and every stale byte is then what the change says
  pub stale_medium :
      (g : Given) (s : Drive) (i : ℕ) → i < length s.medium → recorded_byte s.disc i ≡ false
      → get_or (turn g s).medium i 0 ≡ g.change.medium i (get_or s.medium i 0)
  pub stale_pending :
      (g : Given) (s : Drive) (i : ℕ) → i < length s.pending → 2048 * s.disc.pending ≤ i
      → get_or (turn g s).pending i 0 ≡ g.change.pending i (get_or s.pending i 0)
  -- whatever portions are asked for, those commands are the same sequence again, with any change before each and from any other drive
  pub again :
      (cuts : List (List Portion)) (gs hs : List Given) (s e : Drive) → map (λ (h : Given). h.request) hs ≡ second cuts gs s
      → Again s (given gs s) (given hs e)
  -- WRITEs of any length are accepted on a start of any capacity, so there is something to cut
  pub accepted : (c : ℕ) (s : Drive) → Start c s → (q : Request) (n : ℕ) → WriteOf q (lba 0) n → n ≤ 16 * c → (step s q).answer ≡ Accepted
  -- nameable parts, each of either form, are a cut of a WRITE of either form
  pub cut :
      (q : Request) (a : Lba) (n : ℕ) (ks : List Portion) → WriteOf q a n → 2 ≤ length ks → total ks ≡ n → nameable a.0 ks ≡ true
      → CutOf q (parts_of a.0 ks q.payload)
  -- an accepted WRITE is then in as many parts as there are portions
  pub parts :
      (q : Request) (a : Lba) (n : ℕ) (ks : List Portion) → WriteOf q a n → 2 ≤ length ks → total ks ≡ n → nameable a.0 ks ≡ true
      → length (recut Accepted ks q) ≡ length ks
