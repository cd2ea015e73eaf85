-- What an answer says of its questions.
use Rattle.std.proofs.Common.{◌≡◌, Bool, true, false, Ok, Err, Result, refl, ap}
use Rattle.texts.specs.Answers.{asked, after, lifted}

-- an answer that went through a question
pub asked_ok : {A E : Type 0} (b : Bool) (e : E) (r : Result A E) (x : A) → asked b e r ≡ Ok x → (b ≡ true) × (r ≡ Ok x)
asked_ok true e r x h = (refl, h)
asked_ok false e r x h = cc

-- a question that gets a yes
pub asked_yes : {A E : Type 0} (b : Bool) (e : E) (r : Result A E) → b ≡ true → asked b e r ≡ r
asked_yes b e r h = ap (λ t. asked t e r) h

-- an answer that went on with a value had that value
pub after_ok : {A B E : Type 0} (r : Result A E) (f : A → Result B E) (x : B) → after r f ≡ Ok x → (a : A) × (r ≡ Ok a) × (f a ≡ Ok x)
after_ok (Ok a) f x h = (a, refl, h)
after_ok (Err e) f x h = cc

pub lifted_ok : {A E F : Type 0} (f : E → F) (r : Result A E) (x : A) → lifted f r ≡ Ok x → r ≡ Ok x
lifted_ok f (Ok a) x h = cc
lifted_ok f (Err e) x h = cc
