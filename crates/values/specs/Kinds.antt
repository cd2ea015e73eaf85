-- What readings, fixes and times of day mean, and when two mean the same.
use Rattle.std.specs.Prelude.{ℕ, ◌%◌, ◌^◌, Bool, ◌&&◌, ℤ, ◌==◌}
use Rattle.values.specs.declared.kinds.Reading.{Reading}
use Rattle.values.specs.declared.kinds.Fix.{Fix}
use Rattle.values.specs.declared.kinds.TimeOfDay.{TimeOfDay}
pub use Rattle.std.specs.Ordering.{int_eq as same_signed}

-- a reading has 32 bits: the remainder is the number itself
abbrev pub reading_means : Reading → ℕ
reading_means v = v.0 % 2 ^ 32

abbrev pub same_reading : Reading → Reading → Bool
same_reading v w = reading_means v == reading_means w

abbrev pub fix_means : Fix → ℤ × ℤ × ℤ
fix_means v = (v.latitude, v.longitude, v.height)

abbrev pub same_fix : Fix → Fix → Bool
same_fix v w = same_signed v.latitude w.latitude && same_signed v.longitude w.longitude && same_signed v.height w.height

-- the second of the day
abbrev pub time_means : TimeOfDay → ℕ
time_means v = v.0 % 86400

abbrev pub same_time : TimeOfDay → TimeOfDay → Bool
same_time v w = time_means v == time_means w
