-- The bytes that a reply sends, by the kind of transfer.
use mathlib.Core.Path.{◌≡◌, refl, sym, ap, ◌∙◌}
use Prim.Native.Nat.{ℕ, ◌+◌, ◌-◌, ◌≤◌}
use native.Mathlib.Omega.{arith}
use mathlib.Core.List.{List, [], ◌∷◌, ◌++◌}
use lib.ListN.{length, take, length-append}
use Rattle.features.specs.declared.listing.Listing.{Listing}
use Rattle.features.specs.Configuration.{listing}
use Rattle.features.proofs.Laws.Configuration.{listing-first}
use lib.Seq.{length-take-le}
use Rattle.protocol.specs.Reply.{said, reply_bytes}
use types.Run.{OneOf, miss}
use denote.Enum.Declared.{tag_of}
use Rattle.decisions.specs.contracts.plan.Transfer.{the_type}
use Rattle.decisions.specs.Run.{sent_within, pending_within}
use borrow.Author.Tests.{le-ltb}
use Rattle.drive.specs.Types.{Lba, Reply, Transfer, Nothing, Send, Gather, Fill}
use Rattle.drive.specs.Bytes.{splice}
use Rattle.drive.specs.Reply.{sent_bytes, Sendable}
use Rattle.drive.proofs.Laws.Bytes.{length-splice, splice-splice}

-- the first bytes of a list, from the part of it that is lent, and those of a listing
pub first-put : (n : ℕ) (x buffer after : List ℕ) → after ≡ splice buffer 0 (take (n - 0) x) → after ≡ splice buffer 0 (take n x)
first-put n x buffer after e = let k : n - 0 ≡ n = omega arith in e ∙ ap (λ (m : ℕ). splice buffer 0 (take m x)) k

pub listing-put :
    (n : ℕ) (x : List ℕ) (l : Listing) (buffer after : List ℕ) → n ≤ length x → l ≡ listing x → after ≡ splice buffer 0 (take (n - 0) l.bytes)
    → after ≡ splice buffer 0 (take n x)
listing-put n x l buffer after h e put = first-put n l.bytes buffer after put ∙ ap (splice buffer 0) (listing-first n x l e h)

-- a report, by what it says
pub report-put :
    (r : Reply) (buffer after : List ℕ) → r.length ≤ length (said r.content)
    → after ≡ splice buffer 0 (take r.length (said r.content))
    → (r.length ≡ length (reply_bytes r)) × (after ≡ splice buffer 0 (reply_bytes r))
unfolding reply_bytes
report-put r buffer after h e = (sym (length-take-le r.length (said r.content) h), e)

-- what a READ sends is what the lower layer hands out
pub run-sent :
    (medium pending : List ℕ) (t : Transfer) (r : Reply) (m : ℕ) → Sendable medium pending t r m → (a : Lba) (n i k : ℕ) → t ≡ Send a n i k
    → sent_within t medium ++ pending_within t pending ≡ sent_bytes t r medium pending
unfolding sent_bytes sent_within pending_within
run-sent medium pending t r m s a n i k e = let w = s.within a n i k e in rw (e, le-ltb _ _ w.0, le-ltb _ _ w.1)

-- two parts copied one after another: there is room for the second one, and together they are what is sent
module _ (buffer first x y one two : List ℕ) (e : one ≡ x) (f : two ≡ y) (put : first ≡ splice buffer 0 one) (room : length (x ++ y) ≤ length buffer) where
  both-length : length one + length two ≡ length (x ++ y)
  both-length = omega (arith, ap length e, ap length f, length-append x y)

  pub second-room : length one + length two ≤ length first
  second-room =
      let size : length first ≡ length buffer = ap length put ∙ length-splice buffer 0 one (omega (arith, both-length, room)) in
      omega (arith, size, both-length, room)

  pub both-put : (after : List ℕ) → after ≡ splice first (length one) two → (length one + length two ≡ length (x ++ y)) × (after ≡ splice buffer 0 (x ++ y))
  both-put after g = (
    both-length,
    g
        ∙ (ap (λ (l : List ℕ). splice l (length one) two) put
        ∙ (splice-splice buffer 0 (length one) one two (omega arith) (omega arith)
        ∙ ap (splice buffer 0) (ap (λ (l : List ℕ). l ++ two) e ∙ ap (λ (l : List ℕ). x ++ l) f))),
  )

-- every other command sends its report
pub report-sent :
    (t : Transfer) (r : Reply) (medium pending : List ℕ) → OneOf (0 ∷ 2 ∷ 3 ∷ []) (tag_of the_type t)
    → reply_bytes r ≡ sent_bytes t r medium pending
unfolding sent_bytes
report-sent Nothing r medium pending h = refl
report-sent (Send a n i k) r medium pending h = absurd (miss (0 ∷ 2 ∷ 3 ∷ []) 1 tt h)
report-sent (Gather b p n) r medium pending h = refl
report-sent (Fill b n) r medium pending h = refl
