-- A text and the frames that its lines say.
use Rattle.std.proofs.Common.{◌≡◌, ℕ, ◌+◌, true, List, [], ◌∷◌, ◌++◌, Ok, Err, Result, sym, refl, ap, ◌∙◌, append_assoc}
use Rattle.std.specs.List.{flat_map}
use Rattle.std.proofs.lemmas.Bool.{and_parts, and_from}
use Rattle.lists.specs.Every.{every}
use Rattle.texts.specs.Answers.{after, lifted}
use Rattle.texts.specs.Digits.{hexes}
use Rattle.texts.specs.Lines.{Lines, last, ended, lines_of}
use Rattle.texts.proofs.Asked.{after_ok, lifted_ok}
use Rattle.texts.proofs.Trips.{is_byte, text_of, lines_of_line}
use Rattle.pages.specs.Model.{PageModel}
use Rattle.frames.specs.Model.{FrameModel}
use Rattle.frames.specs.Parsing.{line_frame}
use Rattle.frames.specs.Bytes.{frame_bytes, sound}
use Rattle.frames.proofs.Trips.{line_frame_of, line_frame_back}
use Rattle.dump.specs.declared.faults.PageFault.{PageFault}
use Rattle.dump.specs.declared.faults.PageFault.TheVariants.{Frame}
use Rattle.dump.specs.Steps.{ReaderModel, step}
use Rattle.dump.specs.Reading.{run}
use Rattle.dump.specs.Written.{frame_text}
use Rattle.dump.proofs.Feeding.{fed}
use Rattle.dump.proofs.Sounds.{Plain}

-- the frames that accepted lines say
pub record Framed (at : ℕ) (r : ReaderModel) (ls : Lines) (p : PageModel) : Type 0 where
  pub frames : List FrameModel
  pub text : text_of ls ≡ flat_map frame_text frames
  pub all_sound : every sound frames ≡ true
  pub accepted : fed at r frames ≡ Ok p

pub framed : (at : ℕ) (r : ReaderModel) (ls : Lines) (p : PageModel) → run at r ls ≡ Ok p → Framed at r ls p
framed at r (last []) p e = record { frames = []; text = refl; all_sound = refl; accepted = e }
framed at r (last (b ∷ l)) p e = cc
framed at r (ended l ls) p e =
    let k = after_ok (lifted Frame (line_frame at l)) (λ f. after (step at r f) (λ s. run (at + 1) s ls)) p e in
    let f = k.0 in
    let b = line_frame_back at l f (lifted_ok Frame (line_frame at l) f k.1) in
    let n = after_ok (step at r f) (λ s. run (at + 1) s ls) p k.2 in
    let more = framed (at + 1) n.0 ls p n.2 in
    record {
      frames = f ∷ more.frames;
      text =
          (λ i. sym b.0 i ++ 10 ∷ more.text i)
          ∙ sym (append_assoc (hexes (frame_bytes f)) (10 ∷ []) (flat_map frame_text more.frames));
      all_sound = and_from (sound f) _ b.1 more.all_sound;
      accepted = ap (λ x. after x (λ s. fed (at + 1) s more.frames)) n.1 ∙ more.accepted;
    }

-- after a step, each way
after_same : (x : Result ReaderModel PageFault) (F G : ReaderModel → Result PageModel PageFault) → ((s : ReaderModel) → F s ≡ G s) → after x F ≡ after x G
after_same (Ok s) F G h = h s
after_same (Err e) F G h = refl

pub unframed : (fs : List FrameModel) (at : ℕ) (r : ReaderModel) → every Plain fs ≡ true → run at r (lines_of (flat_map frame_text fs)) ≡ fed at r fs
unframed [] at r e = refl
unframed (f ∷ fs) at r e =
    let p = and_parts (Plain f) (every Plain fs) e in
    let q = and_parts (sound f) (every is_byte (frame_bytes f)) p.0 in
    ap (run at r) (lines_of_line (frame_bytes f) (flat_map frame_text fs))
    ∙ ap (λ x. after (lifted Frame x) (λ g. after (step at r g) (λ s. run (at + 1) s (lines_of (flat_map frame_text fs))))) (line_frame_of at f q.0 q.1)
    ∙ after_same (step at r f) (λ s. run (at + 1) s (lines_of (flat_map frame_text fs))) (λ s. fed (at + 1) s fs) (λ s. unframed fs (at + 1) s p.1)
