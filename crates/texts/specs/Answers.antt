-- Answers that are a value or the first fault.
use Rattle.std.specs.Prelude.{Bool, true, false, Ok, Err, Result}

-- the same answer, with its value by its model
abbrev pub mapped : {A B E : Type 0} → (A → B) → Result A E → Result B E
mapped f (Ok a) = Ok (f a)
mapped f (Err e) = Err e

-- goes on with the value, or keeps the first fault
abbrev pub after : {A B E : Type 0} → Result A E → (A → Result B E) → Result B E
after (Ok a) f = f a
after (Err e) f = Err e

-- a lower layer's fault whole inside the higher one's
abbrev pub lifted : {A E F : Type 0} → (E → F) → Result A E → Result A F
lifted f (Ok a) = Ok a
lifted f (Err e) = Err (f e)

-- goes on where the question gets a yes, or gives this fault
abbrev pub asked : {A E : Type 0} → Bool → E → Result A E → Result A E
asked true e r = r
asked false e r = Err e
