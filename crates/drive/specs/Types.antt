-- The types of src/ and of the lower layer by their short names.
pub use Rattle.fragments.specs.declared.address.Block.{Block}
pub use Rattle.fragments.specs.declared.address.Lba.{Lba}
pub use Rattle.protocol.specs.declared.answer.Sense.{Sense}
pub use Rattle.protocol.specs.declared.answer.LinkRefusal.{LinkRefusal}
pub use Rattle.protocol.specs.declared.answer.LinkRefusal.TheVariants.{CommandBlockLength, MediumSize, UnsoundState, TransferLength}
pub use Rattle.protocol.specs.declared.answer.DriveRefusal.{DriveRefusal}
pub use Rattle.protocol.specs.declared.answer.DriveRefusal.TheVariants.{InvalidOperationCode, WriteProtected, InvalidFieldInCommand, AddressOutOfRange, BlankCheck, InvalidAddressForWrite, IncompleteTrackInSession, EmptyTrack, NoMoreReservations, EndOfUserArea}
pub use Rattle.protocol.specs.declared.answer.Answer.{Answer}
pub use Rattle.protocol.specs.declared.answer.Answer.TheVariants.{Accepted, Link, Drive}
pub use Rattle.protocol.specs.declared.command.Command.{Command}
pub use Rattle.protocol.specs.declared.command.Command.TheVariants.{TestUnitReady, RequestSense, Inquiry, ReadCapacity, Read, Write, SynchronizeCache, ReserveTrack, CloseTrackSession, GetConfiguration, ReadDiscInformation, ReadTrackInformation, Unlisted}
pub use Rattle.disc.specs.declared.state.Disc.{Disc}
pub use Rattle.disc.specs.declared.blank.Blank.{Blank}
pub use Rattle.protocol.specs.declared.reply.Reply.{Reply}
pub use Rattle.decisions.specs.declared.plan.Flush.{Flush}
pub use Rattle.std.specs.Prelude.{Option, Some, None}
pub use Rattle.decisions.specs.declared.plan.Transfer.{Transfer}
pub use Rattle.decisions.specs.declared.plan.Transfer.TheVariants.{Nothing, Send, Gather, Fill}
pub use Rattle.decisions.specs.declared.plan.Plan.{Plan}
pub use Rattle.disc.specs.declared.verdict.Verdict.{Verdict}
pub use Rattle.drive.specs.declared.entry.Response.{Response}
pub use Rattle.decisions.specs.declared.change.Effect.{Effect}
pub use Rattle.decisions.specs.declared.change.Effect.TheVariants.{Keep}
pub use Rattle.decisions.specs.declared.change.Change.{Change}
pub use Rattle.decisions.specs.declared.decision.Decision.{Decision}
pub use Rattle.drive.specs.declared.entry.Outcome.{Outcome}
