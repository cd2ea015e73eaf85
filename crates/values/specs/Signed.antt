-- Equality of signed numbers.
pub use Rattle.std.proofs.lemmas.Bool.Decides.{Decides-int_eq as decides_signed}
