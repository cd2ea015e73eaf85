-- The law of dumps: a text is accepted exactly when it is the dump of a well-formed page, and then as that page.
use Rattle.std.specs.Prelude.{◌≡◌, ℕ, true, List, Ok, Err, Result}
use Rattle.pages.specs.Model.{PageModel}
use Rattle.pages.specs.Formed.{well_formed}
use Rattle.dump.specs.declared.faults.PageFault.{PageFault}
use Rattle.dump.specs.Reading.{read_answer}
use Rattle.dump.specs.Written.{written}

-- the text is the dump of the well-formed page p
pub record DumpOf (p : PageModel) (text : List ℕ) : Type 0 where
  pub formed : well_formed p ≡ true
  pub is : text ≡ written p

-- accepted: the text is this page's dump; refused: it is no page's
abbrev pub Exact : List ℕ → Result PageModel PageFault → Type 0
Exact text (Ok p) = DumpOf p text
Exact text (Err e) = (p : PageModel) → DumpOf p text → ⊥

-- each well-formed page has one dump: it is accepted, and any text that is read as the page is that text
abbrev pub OneDump : Type 0
OneDump = (p : PageModel) → well_formed p ≡ true → (read_answer (written p) ≡ Ok p) × ((text : List ℕ) → read_answer text ≡ Ok p → text ≡ written p)
