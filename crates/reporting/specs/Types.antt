-- The types of src/ and of the crates below by their short names.
pub use Rattle.fragments.specs.declared.address.Lba.{Lba}
pub use Rattle.protocol.specs.declared.answer.DriveRefusal.TheVariants.{InvalidOperationCode, WriteProtected, InvalidFieldInCommand, AddressOutOfRange, BlankCheck, InvalidAddressForWrite, IncompleteTrackInSession, EmptyTrack, NoMoreReservations, EndOfUserArea}
pub use Rattle.disc.specs.declared.state.Disc.{Disc}
pub use Rattle.std.specs.Prelude.{Option}
pub use Rattle.std.specs.Prelude.{Some, None}
pub use Rattle.protocol.specs.declared.reports.DiscReport.{DiscReport}
pub use Rattle.protocol.specs.declared.reports.TrackReport.{TrackReport}
pub use Rattle.reporting.specs.declared.disc_information.SessionState.{SessionState}
pub use Rattle.reporting.specs.declared.disc_information.SessionState.TheVariants.{Empty, Incomplete, Complete}
pub use Rattle.reporting.specs.declared.disc_information.DiscStatus.{DiscStatus}
pub use Rattle.reporting.specs.declared.disc_information.DiscStatus.TheVariants.{Blank, Appendable, Finalized}
pub use Rattle.disc.specs.declared.verdict.Verdict.{Verdict}
