-- Behaviour expressions with input, output, finite sums and identifiers, and how programs move by the rules OUT, IN, SUM and ID.
use Rattle.std.specs.Prelude.{◌≡◌, ℕ, true, false, cond, ◌⊎◌, List, [], ◌∷◌, map, length, ◌==◌}
use Rattle.pages.specs.declared.Port.{Port}
use Rattle.programs.specs.Places.{Act}

-- a value expression: a variable or a data value
pub data Expr (V : Type 0) : Type 0 where
  var : ℕ → Expr V
  val : V → Expr V

-- a?x.A, a!e.A, a finite sum, an identifier with its arguments
mutual
  pub data Behaviour (V : Type 0) : Type 0 where
    input : Port → ℕ → Behaviour V → Behaviour V
    output : Port → Expr V → Behaviour V → Behaviour V
    sum : Summands V → Behaviour V
    call : ℕ → List (Expr V) → Behaviour V

  pub data Summands (V : Type 0) : Type 0 where
    none : Summands V
    more : Behaviour V → Summands V → Summands V

-- A is a summand
abbrev pub Among : {V : Type 0} → Behaviour V → Summands V → Type 0
Among A none = ⊥
Among A (more B Bs) = (A ≡ B) ⊎ Among A Bs

abbrev pub at : {V : Type 0} → (ℕ → Expr V) → Expr V → Expr V
at e (var x) = e x
at e (val v) = val v

-- the variable x is bound: it stays
abbrev pub bind : {V : Type 0} → ℕ → (ℕ → Expr V) → ℕ → Expr V
bind x e y = cond (x == y) (var y) (e y)

-- substitution: each free variable replaced by what e has for it, a data value or itself, so that nothing is captured
abbrev mutual
  pub replace : {V : Type 0} → Behaviour V → (ℕ → Expr V) → Behaviour V
  replace (input a x A) e = input a x (replace A (bind x e))
  replace (output a d A) e = output a (at e d) (replace A e)
  replace (sum As) e = sum (replace_each As e)
  replace (call i ds) e = call i (map (at e) ds)

  pub replace_each : {V : Type 0} → Summands V → (ℕ → Expr V) → Summands V
  replace_each none e = none
  replace_each (more A As) e = more (replace A e) (replace_each As e)

-- d for x
abbrev pub one : {V : Type 0} → ℕ → V → ℕ → Expr V
one x d y = cond (x == y) (val d) (var y)

-- d1 .. dn for x1 .. xn
abbrev pub several : {V : Type 0} → List ℕ → List V → ℕ → Expr V
several [] ds y = var y
several (x ∷ xs) [] y = var y
several (x ∷ xs) (d ∷ ds) y = cond (x == y) (val d) (several xs ds y)

-- the clause that defines an identifier: its parameters and its body
pub record Clause (V : Type 0) : Type 0 where
  pub parameters : List ℕ
  pub body : Behaviour V

-- the least relation closed under the rules; an input is seen as an act that takes, an output as one that shows
pub data Step {V : Type 0} (D : ℕ → Clause V) : Behaviour V → Act V → Behaviour V → Type 0 where
  OUT : (a : Port) (d : V) (A : Behaviour V) → Step D (output a (val d) A) (record { shows = true; port = a; value = d }) A
  IN : (a : Port) (x : ℕ) (A : Behaviour V) (d : V) → Step D (input a x A) (record { shows = false; port = a; value = d }) (replace A (one x d))
  SUM : (As : Summands V) (A : Behaviour V) (μ : Act V) (B : Behaviour V) → Among A As → Step D A μ B → Step D (sum As) μ B
  ID : (i : ℕ) (ds : List V) (μ : Act V) (B : Behaviour V) → length ds ≡ length (D i).parameters →
      Step D (replace (D i).body (several (D i).parameters ds)) μ B → Step D (call i (map val ds)) μ B
