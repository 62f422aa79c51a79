-- The types of src/ and of the crate below by their short names.
pub use Rattle.features.specs.declared.feature.Feature.{Feature}
pub use Rattle.configuration.specs.declared.reader.Reading.{Reading}
