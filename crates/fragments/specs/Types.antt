-- The types of src/ by their short names.
pub use Rattle.fragments.specs.declared.address.Block.{Block}
pub use Rattle.fragments.specs.declared.address.WideBlock.{WideBlock}
pub use Rattle.fragments.specs.declared.address.Lba.{Lba}
pub use Rattle.fragments.specs.declared.fragment.Kind.{Kind}
pub use Rattle.fragments.specs.declared.fragment.Kind.TheVariants.{Reserved, Appended}
pub use Rattle.fragments.specs.declared.fragment.Fragment.{Fragment}
pub use Rattle.std.specs.Prelude.{Option}
pub use Rattle.std.specs.Prelude.{Some, None}
pub use Rattle.fragments.specs.declared.numbered.Entry.{Entry}
pub use Rattle.fragments.specs.declared.list.Reach.{Reach}
