-- Two senses compared, the drive refusals that leave a sense as one search, and the allowed senses as one row of tests.
use mathlib.Core.Path.{◌≡◌, refl, ap, sym, ◌∙◌}
use mathlib.Core.Bool.{Bool, ◌&&◌, ◌||◌}
use mathlib.Core.List.{List, [], ◌∷◌}
use lib.Dec.{eqb}
use Rattle.std.proofs.Math.Bool.{and_assoc}
use Rattle.std.specs.List.{list_any}
use Rattle.protocol.specs.Types.{Sense, DriveRefusal, InvalidOperationCode, WriteProtected, InvalidFieldInCommand, AddressOutOfRange, BlankCheck, InvalidAddressForWrite, IncompleteTrackInSession, EmptyTrack, NoMoreReservations, EndOfUserArea}
use Rattle.protocol.specs.Answer.{no_sense, refusal_sense, same_sense, is_refusal_sense, allowed_sense}
use Rattle.fragments.proofs.Laws.Bool.{or_row}

-- what `==` says of a sense and one that a call gave
pub eq_is :
    (s : Sense) {t u : Sense} {r b : Bool} → t ≡ u → r ≡ (eqb s.key t.key && (eqb s.asc t.asc && eqb s.ascq t.ascq)) → r ≡ b
    → same_sense s u ≡ b
eq_is s {t} e is h =
    ap (same_sense s) (sym e) ∙ and_assoc (eqb s.key t.key) (eqb s.asc t.asc) (eqb s.ascq t.ascq) ∙ sym is ∙ h

pub refusal_any : (s : Sense) (l : List DriveRefusal) → list_any (λ r. same_sense s (refusal_sense r)) l ≡ is_refusal_sense s l
unfolding is_refusal_sense
refusal_any s [] = refl
refusal_any s (r ∷ rs) = ap (λ b. same_sense s (refusal_sense r) || b) (refusal_any s rs)

-- the allowed senses as one row of tests
pub allowed_row :
    (s : Sense)
    → (same_sense s no_sense
    || same_sense s (refusal_sense InvalidOperationCode)
    || same_sense s (refusal_sense WriteProtected)
    || same_sense s (refusal_sense InvalidFieldInCommand)
    || same_sense s (refusal_sense AddressOutOfRange)
    || same_sense s (refusal_sense BlankCheck)
    || same_sense s (refusal_sense InvalidAddressForWrite)
    || same_sense s (refusal_sense IncompleteTrackInSession)
    || same_sense s (refusal_sense EmptyTrack)
    || same_sense s (refusal_sense NoMoreReservations)
    || same_sense s (refusal_sense EndOfUserArea))
    ≡ allowed_sense s
unfolding allowed_sense is_refusal_sense
allowed_row s =
    or_row (same_sense s no_sense) (same_sense s (refusal_sense InvalidOperationCode)) (same_sense s (refusal_sense WriteProtected)) (same_sense s (refusal_sense InvalidFieldInCommand)) (same_sense s (refusal_sense AddressOutOfRange)) (same_sense s (refusal_sense BlankCheck)) (same_sense s (refusal_sense InvalidAddressForWrite)) (same_sense s (refusal_sense IncompleteTrackInSession)) (same_sense s (refusal_sense EmptyTrack)) (same_sense s (refusal_sense NoMoreReservations)) (same_sense s (refusal_sense EndOfUserArea))
