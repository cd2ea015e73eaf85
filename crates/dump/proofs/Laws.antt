-- A text is accepted exactly when it is the dump of a well-formed page, and then as that page.
use Rattle.std.proofs.Common.{◌≡◌, ℕ, ◌≤◌, true, leb, List, length, Ok, Err, Result, sym, ap, ◌∙◌}
use Rattle.std.specs.List.{flat_map}
use Rattle.std.proofs.lemmas.Bool.{le-leb}
use Rattle.texts.specs.declared.faults.TextQuestion.TheVariants.{Length}
use Rattle.texts.specs.Answers.{after, lifted}
use Rattle.texts.specs.Lines.{lines_of}
use Rattle.texts.specs.Reading.{text_fault, short_enough}
use Rattle.texts.proofs.Asked.{asked_yes, after_ok}
use Rattle.texts.proofs.Trips.{lines_back}
use Rattle.pages.specs.Model.{PageModel}
use Rattle.pages.specs.Formed.{well_formed}
use Rattle.frames.specs.declared.faults.FrameFault.{FrameFault}
use Rattle.frames.specs.declared.faults.FrameFault.TheVariants.{Text}
use Rattle.dump.specs.declared.faults.PageFault.{PageFault}
use Rattle.dump.specs.declared.faults.PageFault.TheVariants.{Frame}
use Rattle.dump.specs.Steps.{first_reader}
use Rattle.dump.specs.Reading.{run, read_answer}
use Rattle.dump.specs.Written.{frames_of, frame_text, written}
use Rattle.dump.specs.Law.{DumpOf, Exact, OneDump}
use Rattle.dump.proofs.Feeding.{fed_as}
use Rattle.dump.proofs.Fed.{feed_page}
use Rattle.dump.proofs.Sounds.{page_plain, written_short}
use Rattle.dump.proofs.Framing.{framed, unframed}

-- the answer of a text that is short enough
pub run_answer : (text : List ℕ) (x : Unit {0}) → ◌≡◌ {A = Result (Unit {0}) FrameFault} (Ok x) (lifted Text (short_enough text)) → run 1 first_reader (lines_of text) ≡ read_answer text
run_answer text x e = ap (λ r. after (lifted Frame r) (λ _. run 1 first_reader (lines_of text))) e

short_answer : (text : List ℕ) → length text ≤ 4096 → ◌≡◌ {A = Result (Unit {0}) FrameFault} (Ok tt) (lifted Text (short_enough text))
short_answer text h = ap (lifted Text) (sym (asked_yes (leb (length text) 4096) (text_fault Length 0) (Ok tt) (le-leb (length text) 4096 h)))

pub run_dump : (text : List ℕ) (p : PageModel) → run 1 first_reader (lines_of text) ≡ Ok p → DumpOf p text
run_dump text p e =
    let f = framed 1 first_reader (lines_of text) p e in
    let g = fed_as 1 f.frames p f.all_sound f.accepted in
    record { formed = g.1; is = sym (lines_back text) ∙ f.text ∙ ap (flat_map frame_text) g.0 }

pub read_dump : (text : List ℕ) (p : PageModel) → read_answer text ≡ Ok p → DumpOf p text
read_dump text p e = run_dump text p (after_ok (lifted Frame (lifted Text (short_enough text))) (λ _. run 1 first_reader (lines_of text)) p e).2

pub read_written : (p : PageModel) → well_formed p ≡ true → read_answer (written p) ≡ Ok p
read_written p e = sym (run_answer (written p) tt (short_answer (written p) (written_short p e))) ∙ unframed (frames_of p) 1 first_reader (page_plain p e) ∙ feed_page 1 p e

pub exact : (text : List ℕ) (r : Result PageModel PageFault) → r ≡ read_answer text → Exact text r
exact text (Ok p) e = read_dump text p (sym e)
exact text (Err f) e = λ p d. cc (ap read_answer d.is, read_written p d.formed)

pub one_dump : OneDump
one_dump p e = (read_written p e, λ text h. (read_dump text p h).is)
