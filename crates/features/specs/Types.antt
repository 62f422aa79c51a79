-- The types of src/ by their short names.
pub use Rattle.features.specs.declared.feature.Feature.{Feature}
pub use Rattle.features.specs.declared.listing.Listing.{Listing}
pub use Rattle.features.specs.declared.listing.Asked.{Asked}
