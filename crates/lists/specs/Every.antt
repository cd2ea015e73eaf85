-- Tests of the items of a list: every item passes, and some item passes.
pub use Rattle.std.specs.List.{list_all as every, list_any as any}
