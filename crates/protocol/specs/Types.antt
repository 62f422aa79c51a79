-- The types of src/ and of the crate below by their short names.
pub use Rattle.fragments.specs.declared.address.Lba.{Lba}
pub use Rattle.protocol.specs.declared.answer.Sense.{Sense}
pub use Rattle.protocol.specs.declared.answer.LinkRefusal.{LinkRefusal}
pub use Rattle.protocol.specs.declared.answer.LinkRefusal.TheVariants.{CommandBlockLength, MediumSize, UnsoundState, TransferLength}
pub use Rattle.protocol.specs.declared.answer.DriveRefusal.{DriveRefusal}
pub use Rattle.protocol.specs.declared.answer.DriveRefusal.TheVariants.{InvalidOperationCode, WriteProtected, InvalidFieldInCommand, AddressOutOfRange, BlankCheck, InvalidAddressForWrite, IncompleteTrackInSession, EmptyTrack, NoMoreReservations, EndOfUserArea}
pub use Rattle.protocol.specs.declared.answer.Answer.{Answer}
pub use Rattle.protocol.specs.declared.answer.Answer.TheVariants.{Accepted, Link, Drive}
pub use Rattle.protocol.specs.declared.command.Command.{Command}
pub use Rattle.protocol.specs.declared.command.Command.TheVariants.{TestUnitReady, RequestSense, Inquiry, ReadCapacity, Read, Write, SynchronizeCache, ReserveTrack, CloseTrackSession, GetConfiguration, ReadDiscInformation, ReadTrackInformation, Unlisted}
pub use Rattle.protocol.specs.declared.reply.Content.{Content}
pub use Rattle.protocol.specs.declared.reply.Content.TheVariants.{Own, Configuration}
pub use Rattle.protocol.specs.declared.reply.Reply.{Reply}
pub use Rattle.protocol.specs.declared.reports.DiscReport.{DiscReport}
pub use Rattle.protocol.specs.declared.reports.TrackReport.{TrackReport}
