-- The types of the lower layer by their short names.
pub use Rattle.protocol.specs.declared.answer.Sense.{Sense}
pub use Rattle.protocol.specs.declared.answer.LinkRefusal.TheVariants.{CommandBlockLength, MediumSize, UnsoundState, TransferLength}
pub use Rattle.protocol.specs.declared.answer.DriveRefusal.TheVariants.{BlankCheck}
pub use Rattle.protocol.specs.declared.answer.Answer.TheVariants.{Accepted, Link, Drive}
pub use Rattle.protocol.specs.declared.command.Command.TheVariants.{RequestSense, ReadCapacity, Read, Write, SynchronizeCache, ReadDiscInformation, ReadTrackInformation}
pub use Rattle.fragments.specs.declared.address.Lba.{Lba}
pub use Rattle.std.specs.Prelude.{Option}
pub use Rattle.std.specs.Prelude.{Some, None}
pub use Rattle.fragments.specs.declared.fragment.Kind.{Kind}
pub use Rattle.fragments.specs.declared.fragment.Kind.TheVariants.{Reserved, Appended}
pub use Rattle.fragments.specs.declared.fragment.Fragment.{Fragment}
pub use Rattle.decisions.specs.declared.plan.Transfer.{Transfer}
pub use Rattle.decisions.specs.declared.plan.Transfer.TheVariants.{Nothing, Send, Gather, Fill}
pub use Rattle.fragments.specs.declared.numbered.Entry.{Entry}
pub use Rattle.decisions.specs.declared.change.Effect.{Effect}
pub use Rattle.decisions.specs.declared.change.Effect.TheVariants.{Keep, Settle, Reserve, Close, Grow}
pub use Rattle.decisions.specs.declared.decision.Decision.{Decision}
pub use Rattle.disc.specs.declared.state.Disc.{Disc}
pub use Rattle.disc.specs.declared.verdict.Verdict.{Verdict}
pub use Rattle.search.specs.declared.search.Side.TheVariants.{Left, Right, Here}
