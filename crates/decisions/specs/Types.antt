-- The types of src/ and of the crates below by their short names.
pub use Rattle.fragments.specs.declared.address.Block.{Block}
pub use Rattle.fragments.specs.declared.address.Lba.{Lba}
pub use Rattle.fragments.specs.declared.fragment.Fragment.{Fragment}
pub use Rattle.fragments.specs.declared.numbered.Entry.{Entry}
pub use Rattle.protocol.specs.declared.answer.Sense.{Sense}
pub use Rattle.protocol.specs.declared.answer.LinkRefusal.{LinkRefusal}
pub use Rattle.protocol.specs.declared.answer.DriveRefusal.{DriveRefusal}
pub use Rattle.protocol.specs.declared.answer.Answer.{Answer}
pub use Rattle.protocol.specs.declared.answer.Answer.TheVariants.{Accepted, Link, Drive}
pub use Rattle.protocol.specs.declared.reply.Reply.{Reply}
pub use Rattle.decisions.specs.declared.plan.Flush.{Flush}
pub use Rattle.std.specs.Prelude.{Option, Some, None}
pub use Rattle.decisions.specs.declared.plan.Transfer.{Transfer}
pub use Rattle.decisions.specs.declared.plan.Transfer.TheVariants.{Nothing, Send, Gather, Fill}
pub use Rattle.decisions.specs.declared.plan.Plan.{Plan}
pub use Rattle.decisions.specs.declared.change.Effect.{Effect}
pub use Rattle.decisions.specs.declared.change.Effect.TheVariants.{Keep, Settle, Reserve, Close, Grow}
pub use Rattle.decisions.specs.declared.change.Change.{Change}
pub use Rattle.decisions.specs.declared.flushing.Flushing.{Flushing}
pub use Rattle.decisions.specs.declared.decision.Decision.{Decision}
