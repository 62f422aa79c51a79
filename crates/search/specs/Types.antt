-- The types of src/ and of the crate below by their short names.
pub use Rattle.fragments.specs.declared.address.Lba.{Lba}
pub use Rattle.fragments.specs.declared.fragment.Fragment.{Fragment}
pub use Rattle.std.specs.Prelude.{Option}
pub use Rattle.std.specs.Prelude.{Some, None}
pub use Rattle.fragments.specs.declared.numbered.Entry.{Entry}
pub use Rattle.search.specs.declared.search.Sought.{Sought}
pub use Rattle.search.specs.declared.search.Side.{Side}
pub use Rattle.search.specs.declared.search.Side.TheVariants.{Left, Right, Here}
