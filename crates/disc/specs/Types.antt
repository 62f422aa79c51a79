-- The types of src/ and of the crates below by their short names.
pub use Rattle.fragments.specs.declared.address.Lba.{Lba}
pub use Rattle.protocol.specs.declared.answer.Sense.{Sense}
pub use Rattle.protocol.specs.declared.answer.LinkRefusal.{LinkRefusal}
pub use Rattle.protocol.specs.declared.answer.LinkRefusal.TheVariants.{CommandBlockLength, MediumSize, UnsoundState, TransferLength}
pub use Rattle.protocol.specs.declared.answer.DriveRefusal.{DriveRefusal}
pub use Rattle.protocol.specs.declared.answer.Answer.TheVariants.{Accepted, Link, Drive}
pub use Rattle.fragments.specs.declared.fragment.Kind.{Kind}
pub use Rattle.fragments.specs.declared.fragment.Kind.TheVariants.{Reserved, Appended}
pub use Rattle.fragments.specs.declared.fragment.Fragment.{Fragment}
pub use Rattle.disc.specs.declared.state.Disc.{Disc}
pub use Rattle.std.specs.Prelude.{Option}
pub use Rattle.std.specs.Prelude.{Some, None}
pub use Rattle.fragments.specs.declared.numbered.Entry.{Entry}
pub use Rattle.fragments.specs.declared.list.Reach.{Reach}
pub use Rattle.disc.specs.declared.blank.Blank.{Blank}
pub use Rattle.protocol.specs.declared.reply.Reply.{Reply}
pub use Rattle.decisions.specs.declared.plan.Plan.{Plan}
pub use Rattle.disc.specs.declared.verdict.Verdict.{Verdict}
pub use Rattle.decisions.specs.declared.change.Effect.{Effect}
pub use Rattle.decisions.specs.declared.change.Effect.TheVariants.{Keep, Settle, Reserve, Close, Grow}
pub use Rattle.decisions.specs.declared.change.Change.{Change}
pub use Rattle.decisions.specs.declared.decision.Decision.{Decision}
