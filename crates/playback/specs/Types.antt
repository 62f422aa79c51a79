-- The types of src/ by their short names, and those of the crates below.
pub use Rattle.protocol.specs.declared.answer.Sense.{Sense}
pub use Rattle.std.specs.Prelude.{Option, Some, None}
pub use Rattle.fragments.specs.declared.address.Lba.{Lba}
pub use Rattle.playback.specs.declared.line.Line.{Line}
pub use Rattle.disc.specs.declared.state.Disc.{Disc}
pub use Rattle.trace.specs.declared.record.Record.{Record}
pub use Rattle.trace.specs.declared.record.Stop.{Stop}
pub use Rattle.trace.specs.declared.record.Reason.{Reason}
pub use Rattle.trace.specs.declared.record.Reason.TheVariants.{BadMark, CutShort, End}
pub use Rattle.playback.specs.declared.replay.Replay.{Replay}
pub use Rattle.playback.specs.declared.replay.Played.{Played}
pub use Rattle.playback.specs.declared.input.Ending.{Ending}
