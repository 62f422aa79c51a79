-- The types of src/ and of the layers below by their short names.
pub use Rattle.fragments.specs.declared.fragment.Kind.{Kind}
pub use Rattle.fragments.specs.declared.fragment.Kind.TheVariants.{Reserved, Appended}
pub use Rattle.fragments.specs.declared.fragment.Fragment.{Fragment}
pub use Rattle.disc.specs.declared.state.Disc.{Disc}
pub use Rattle.protocol.specs.declared.answer.LinkRefusal.{LinkRefusal}
pub use Rattle.protocol.specs.declared.answer.LinkRefusal.TheVariants.{CommandBlockLength, MediumSize, UnsoundState, TransferLength}
pub use Rattle.protocol.specs.declared.answer.DriveRefusal.{DriveRefusal}
pub use Rattle.protocol.specs.declared.answer.DriveRefusal.TheVariants.{InvalidOperationCode, WriteProtected, InvalidFieldInCommand, AddressOutOfRange, BlankCheck, InvalidAddressForWrite, IncompleteTrackInSession, EmptyTrack, NoMoreReservations, EndOfUserArea}
pub use Rattle.protocol.specs.declared.answer.Answer.{Answer}
pub use Rattle.protocol.specs.declared.answer.Answer.TheVariants.{Accepted, Link, Drive}
pub use Rattle.fragments.specs.declared.numbered.Entry.{Entry}
pub use Rattle.protocol.specs.declared.answer.Sense.{Sense}
pub use Rattle.disc.specs.declared.blank.Blank.{Blank}
pub use Rattle.drive.specs.declared.entry.Response.{Response}
pub use Rattle.drive.specs.declared.entry.Outcome.{Outcome}
