-- The types of src/ by their short names.
pub use Rattle.trace.specs.declared.record.Record.{Record}
pub use Rattle.trace.specs.declared.record.Reason.{Reason}
pub use Rattle.trace.specs.declared.record.Reason.TheVariants.{BadMark, CutShort, End}
pub use Rattle.trace.specs.declared.record.Stop.{Stop}
