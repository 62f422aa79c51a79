-- The types of the crate below and of src/ by their short names.
pub use Rattle.fragments.specs.declared.address.Lba.{Lba}
pub use Rattle.fragments.specs.declared.fragment.Fragment.{Fragment}
pub use Rattle.contents.specs.declared.closed.Sessions.{Sessions}
