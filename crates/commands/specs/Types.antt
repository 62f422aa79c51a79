-- The types of the crates below by their short names.
pub use Rattle.fragments.specs.declared.address.Lba.{Lba}
pub use Rattle.protocol.specs.declared.answer.LinkRefusal.TheVariants.{CommandBlockLength, MediumSize, UnsoundState, TransferLength}
pub use Rattle.protocol.specs.declared.answer.DriveRefusal.{DriveRefusal}
pub use Rattle.protocol.specs.declared.answer.DriveRefusal.TheVariants.{InvalidOperationCode, WriteProtected, InvalidFieldInCommand, AddressOutOfRange, BlankCheck, InvalidAddressForWrite, IncompleteTrackInSession, EmptyTrack, NoMoreReservations, EndOfUserArea}
pub use Rattle.protocol.specs.declared.command.Command.{Command}
pub use Rattle.protocol.specs.declared.command.Command.TheVariants.{TestUnitReady, RequestSense, Inquiry, ReadCapacity, Read, Write, SynchronizeCache, ReserveTrack, CloseTrackSession, GetConfiguration, ReadDiscInformation, ReadTrackInformation, Unlisted}
pub use Rattle.fragments.specs.declared.fragment.Kind.{Kind}
pub use Rattle.fragments.specs.declared.fragment.Kind.TheVariants.{Reserved, Appended}
pub use Rattle.fragments.specs.declared.fragment.Fragment.{Fragment}
pub use Rattle.disc.specs.declared.state.Disc.{Disc}
pub use Rattle.std.specs.Prelude.{Option}
pub use Rattle.std.specs.Prelude.{Some, None}
pub use Rattle.fragments.specs.declared.numbered.Entry.{Entry}
pub use Rattle.search.specs.declared.search.Sought.{Sought}
pub use Rattle.decisions.specs.declared.plan.Flush.{Flush}
pub use Rattle.decisions.specs.declared.plan.Transfer.{Transfer}
pub use Rattle.decisions.specs.declared.plan.Transfer.TheVariants.{Nothing, Send, Gather, Fill}
pub use Rattle.decisions.specs.declared.decision.Decision.{Decision}
pub use Rattle.disc.specs.declared.verdict.Verdict.{Verdict}
pub use Rattle.decisions.specs.declared.flushing.Flushing.{Flushing}
pub use Rattle.decisions.specs.declared.change.Effect.TheVariants.{Keep, Settle, Reserve, Close, Grow}
