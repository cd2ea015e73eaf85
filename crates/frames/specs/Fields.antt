-- Fields and their bytes.
use Rattle.std.specs.Prelude.{ℕ, cond, ◌==◌}
use Rattle.pages.specs.declared.Name.{Name}
use Rattle.pages.specs.declared.Source.{Source}
use Rattle.pages.specs.declared.Source.TheVariants.{Kept, Taken}
use Rattle.pages.specs.declared.LineKind.{LineKind}
use Rattle.pages.specs.declared.LineKind.TheVariants.{Take, Show}

-- 10 is the taken value, any other byte a slot
abbrev pub source_of : ℕ → Source
source_of b = cond (b == 16) Taken (Kept (record { 0 = b }))

abbrev pub source_byte : Source → ℕ
source_byte (Kept s) = s.0
source_byte Taken = 16

abbrev pub name_of : ℕ → Name
name_of b = record { 0 = b }

abbrev pub name_byte : Name → ℕ
name_byte n = n.0

-- kind 00 is a TAKE, whose third byte is 10; kind 01 is a SHOW, whose third byte is the slot shown
abbrev pub kind_of : ℕ → ℕ → LineKind
kind_of kind third = cond (kind == 0) Take (Show (record { 0 = third }))

abbrev pub kind_byte : LineKind → ℕ
kind_byte Take = 0
kind_byte (Show s) = 1

abbrev pub third_byte : LineKind → ℕ
third_byte Take = 16
third_byte (Show s) = s.0
