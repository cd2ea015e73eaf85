-- One line of a run, as the reader takes it.
use Rattle.std.proofs.Common.{◌≡◌, ℕ, ◌+◌, Bool, true, false, cond, eqb, List, [], ◌∷◌, length, Ok, Err, Result, sym, refl, ap, ◌∙◌, arith, true-eqb}
use Rattle.texts.specs.Answers.{after, lifted}
use Rattle.texts.specs.Lines.{Lines, last, ended, longer, lines_of}
use Rattle.texts.specs.Reading.{line_bytes}
use Rattle.texts.specs.declared.faults.TextFault.{TextFault}
use Rattle.pages.specs.Model.{PageModel}
use Rattle.frames.specs.declared.faults.FrameFault.{FrameFault}
use Rattle.frames.specs.declared.faults.FrameFault.TheVariants.{Text}
use Rattle.frames.specs.Model.{FrameModel}
use Rattle.frames.specs.Parsing.{frame_answer, first_frame}
use Rattle.dump.specs.declared.faults.PageFault.{PageFault}
use Rattle.dump.specs.declared.faults.PageFault.TheVariants.{Frame}
use Rattle.dump.specs.Steps.{ReaderModel, step, finish}
use Rattle.dump.specs.Reading.{run}

-- a text that is not empty has a first line, or a last piece of a byte or more
abbrev SomeLine : Lines → Type 0
SomeLine (last []) = ⊥
SomeLine (last (b ∷ l)) = Unit {0}
SomeLine (ended l ls) = Unit {0}

longer_some : (b : ℕ) (ls : Lines) → SomeLine (longer b ls)
longer_some b (last l) = tt
longer_some b (ended l ls) = tt

some_line : (t : List ℕ) → false ≡ eqb (length t) 0 → SomeLine (lines_of t)
some_line [] h = cc
some_line (b ∷ t) h = go (eqb 10 b)
  where
    go : (e : Bool) → SomeLine (cond e (ended [] (lines_of t)) (longer b (lines_of t)))
    go true = tt
    go false = longer_some b (lines_of t)

-- what a run does with the first frame and the lines after it
abbrev onward : ℕ → ReaderModel → FrameModel × Lines → Result PageModel PageFault
onward at r p = after (step at r p.0) (λ s. run (at + 1) s p.1)

by_frame : (at : ℕ) (r : ReaderModel) (ls : Lines) (x : Result FrameModel FrameFault) →
    after (lifted Frame x) (λ f. onward at r (f, ls)) ≡ after (lifted Frame (after {B = FrameModel × Lines} x (λ f. Ok (f, ls)))) (onward at r)
by_frame at r ls (Ok f) = refl
by_frame at r ls (Err e) = refl

by_bytes : (at : ℕ) (r : ReaderModel) (ls : Lines) (x : Result (List ℕ) TextFault) →
    after (lifted Frame (after (lifted Text x) (frame_answer at))) (λ f. onward at r (f, ls))
    ≡ after (lifted Frame (after (lifted Text (after {B = List ℕ × Lines} x (λ bs. Ok (bs, ls)))) (λ p. after (frame_answer at p.0) (λ f. Ok (f, p.1))))) (onward at r)
by_bytes at r ls (Ok bs) = by_frame at r ls (frame_answer at bs)
by_bytes at r ls (Err e) = refl

run_lines : (at : ℕ) (r : ReaderModel) (ls : Lines) → SomeLine ls → run at r ls ≡ after (lifted Frame (first_frame at ls)) (onward at r)
run_lines at r (last []) h = absurd h
run_lines at r (last (b ∷ l)) h = refl
run_lines at r (ended l ls) h = by_bytes at r ls (line_bytes at l)

module _ (rest : List ℕ) (at : ℕ) (r : ReaderModel) (some : false ≡ eqb (length rest) 0) where
  first_run : run at r (lines_of rest) ≡ after (lifted Frame (first_frame at (lines_of rest))) (onward at r)
  first_run = run_lines at r (lines_of rest) (some_line rest some)

  pub frame_refused : (e : FrameFault) → Err e ≡ first_frame at (lines_of rest) → ◌≡◌ {A = Result PageModel PageFault} (Err (Frame e)) (run at r (lines_of rest))
  frame_refused e is = ap (λ x. after (lifted Frame x) (onward at r)) is ∙ sym first_run

  pub step_run : (f : FrameModel) (ls : Lines) (x : Result ReaderModel PageFault) → Ok (f, ls) ≡ first_frame at (lines_of rest) → x ≡ step at r f → after x (λ s. run (at + 1) s ls) ≡ run at r (lines_of rest)
  step_run f ls x is to = ap (λ y. after y (λ s. run (at + 1) s ls)) to ∙ ap (λ y. after (lifted Frame y) (onward at r)) is ∙ sym first_run

pub run_end : (rest : List ℕ) (at : ℕ) (r : ReaderModel) → true ≡ eqb (length rest) 0 → finish at r ≡ run at r (lines_of rest)
run_end [] at r h = refl
run_end (b ∷ t) at r h = absurd (omega (arith, true-eqb (length (b ∷ t)) 0 h))
