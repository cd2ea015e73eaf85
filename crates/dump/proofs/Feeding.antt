-- The page layer over a list of frames: which frames it accepts, and as which page.
use Rattle.std.proofs.Common.{◌≡◌, ℕ, zero, suc, ◌+◌, ◌-◌, Bool, true, false, cond, eqb, ltb, leb, List, [], ◌∷◌, ◌++◌, map, length, Ok, Result, sym, refl, ap, ◌∙◌, subst, append_assoc, append-nil, arith}
use Rattle.std.proofs.lemmas.Bool.Decides.{nat_tests}
use Rattle.std.proofs.lemmas.Bool.{and_parts, and_from, false≢true, ne_eqb}
use Rattle.lists.specs.Between.{between}
use Rattle.lists.specs.Every.{every}
use Rattle.texts.specs.Answers.{asked, after}
use Rattle.texts.proofs.Asked.{asked_ok}
use Rattle.pages.specs.declared.Screen.{Screen}
use Rattle.pages.specs.Model.{LineModel, PageModel}
use Rattle.pages.specs.Formed.{slots_at, line_stands, line_formed, few_slots, well_formed}
use Rattle.frames.specs.Model.{HeaderModel, FrameModel, header, screen, line}
use Rattle.frames.specs.Bytes.{sound, kind_sound}
use Rattle.dump.specs.declared.faults.PageFault.{PageFault}
use Rattle.dump.specs.declared.faults.PageQuestion.TheVariants.{Start, Line, Numbers}
use Rattle.dump.specs.declared.reader.Due.{Due}
use Rattle.dump.specs.declared.reader.Due.TheVariants.{Screens, Lines, Nothing}
use Rattle.dump.specs.Due.{after_lines, after_screens}
use Rattle.dump.specs.Steps.{ReaderModel, page_fault, first_reader, step, finish}
use Rattle.dump.specs.Written.{frames_of}

-- frames taken one after another, from the text line at on
abbrev pub fed : ℕ → ReaderModel → List FrameModel → Result PageModel PageFault
fed at r [] = finish at r
fed at r (f ∷ fs) = after (step at r f) (λ s. fed (at + 1) s fs)

abbrev pub awaiting : Due → PageModel → ReaderModel
awaiting d q = record { due = d; page = q }

-- the page with more screens and lines at the end
abbrev pub grown : PageModel → List Screen → List LineModel → PageModel
grown q ss ls = record { screens = q.screens ++ ss; lines = q.lines ++ ls; start = q.start; numbers = q.numbers }

pub grown_none : (q : PageModel) → grown q [] [] ≡ q
grown_none q = λ i. record { screens = append-nil q.screens i; lines = append-nil q.lines i; start = q.start; numbers = q.numbers }

-- the start has a number for each slot of its screen
abbrev pub Started : PageModel → Type 0
Started p = eqb (length p.numbers) (slots_at p.screens p.start) ≡ true

not_none : (n : ℕ) → eqb (suc n) 0 ≡ false
not_none n = ne_eqb (suc n) 0 (λ e. omega arith)

pub due_lines : (n : ℕ) → after_lines (suc n) ≡ Lines (suc n)
due_lines n = ap (λ t. cond t Nothing (Lines (suc n))) (not_none n)

pub due_screens : (n k : ℕ) → after_screens (suc n) k ≡ Screens (suc n) k
due_screens n k = ap (λ t. cond t (after_lines k) (Screens (suc n) k)) (not_none n)

-- a step that was accepted got a yes to its question
step_on : (b : Bool) (e : PageFault) (r : ReaderModel) (K : ReaderModel → Result PageModel PageFault) (p : PageModel) → after (asked b e (Ok r)) K ≡ Ok p → (b ≡ true) × (K r ≡ Ok p)
step_on true e r K p h = (refl, h)
step_on false e r K p h = cc

-- what was accepted while n lines were awaited
pub record LinesFed (q : PageModel) (n : ℕ) (fs : List FrameModel) (p : PageModel) : Type 0 where
  pub more : List LineModel
  pub frames : fs ≡ map line more
  pub count : length more ≡ n
  pub page : p ≡ grown q [] more
  pub formed : every (line_formed q.screens) more ≡ true
  pub started : Started q

lines_over : (at : ℕ) (q p : PageModel) → finish at (awaiting Nothing q) ≡ Ok p → LinesFed q 0 [] p
lines_over at q p e =
    let k = asked_ok (eqb (length q.numbers) (slots_at q.screens q.start)) (page_fault Numbers 1) (Ok q) p e in
    let same : q ≡ p = cc k.1 in
    record { more = []; frames = refl; count = refl; page = sym same ∙ sym (grown_none q); formed = refl; started = k.0 }

-- a line more at the front of those that follow it
lines_more : (q p : PageModel) (l : LineModel) (n : ℕ) (fs : List FrameModel) → line_formed q.screens l ≡ true
    → LinesFed (record { screens = q.screens; lines = q.lines ++ l ∷ []; start = q.start; numbers = q.numbers }) n fs p → LinesFed q (suc n) (line l ∷ fs) p
lines_more q p l n fs here r =
    record {
      more = l ∷ r.more;
      frames = ap (λ x. line l ∷ x) r.frames;
      count = ap suc r.count;
      page = r.page ∙ ap (λ x. record { screens = q.screens ++ []; lines = x; start = q.start; numbers = q.numbers }) (append_assoc q.lines (l ∷ []) r.more);
      formed = and_from (line_formed q.screens l) _ here r.formed;
      started = r.started;
    }

pub lines_fed : (fs : List FrameModel) (n at : ℕ) (q p : PageModel) → every sound fs ≡ true → fed at (awaiting (after_lines n) q) fs ≡ Ok p → LinesFed q n fs p
lines_fed [] zero at q p s e = lines_over at q p e
lines_fed [] (suc n) at q p s e = cc (due_lines n)
lines_fed (header h ∷ fs) zero at q p s e = cc
lines_fed (screen x ∷ fs) zero at q p s e = cc
lines_fed (line l ∷ fs) zero at q p s e = cc
lines_fed (header h ∷ fs) (suc n) at q p s e = cc (due_lines n)
lines_fed (screen x ∷ fs) (suc n) at q p s e = cc (due_lines n)
lines_fed (line l ∷ fs) (suc n) at q p s e =
    let q' : PageModel = record { screens = q.screens; lines = q.lines ++ l ∷ []; start = q.start; numbers = q.numbers } in
    let k = step_on (line_stands q.screens l) (page_fault Line at) (awaiting (after_lines (suc n - 1)) q') (λ r. fed (at + 1) r fs) p
    (ap (λ d. fed at (awaiting d q) (line l ∷ fs)) (sym (due_lines n)) ∙ e) in
    let two = and_parts (sound (line l)) (every sound fs) s in
    let port = (and_parts (leb l.port.0 31) _ (and_parts (kind_sound l.kind) _ two.0).1).0 in
    let less : suc n - 1 ≡ n = omega arith in
    lines_more q p l n fs (and_from (leb l.port.0 31) _ port k.0)
    (lines_fed fs n (at + 1) q' p two.1 (ap (λ m. fed (at + 1) (awaiting (after_lines m) q') fs) (sym less) ∙ k.1))

-- what was accepted while n screens were awaited, and k lines after them
pub record ScreensFed (q : PageModel) (n k : ℕ) (fs : List FrameModel) (p : PageModel) : Type 0 where
  pub more : List Screen
  pub lines : List LineModel
  pub frames : fs ≡ map screen more ++ map line lines
  pub count : length more ≡ n
  pub line_count : length lines ≡ k
  pub page : p ≡ grown q more lines
  pub few : every few_slots more ≡ true
  pub formed : every (line_formed (q.screens ++ more)) lines ≡ true
  pub started : Started (grown q more lines)

screens_over : (q p : PageModel) (k : ℕ) (fs : List FrameModel) → LinesFed q k fs p → ScreensFed q 0 k fs p
screens_over q p k fs r =
    record {
      more = [];
      lines = r.more;
      frames = r.frames;
      count = refl;
      line_count = r.count;
      page = r.page;
      few = refl;
      formed = ap (λ ss. every (line_formed ss) r.more) (append-nil q.screens) ∙ r.formed;
      started = ap (λ ss. eqb (length q.numbers) (slots_at ss q.start)) (append-nil q.screens) ∙ r.started;
    }

screens_more : (q p : PageModel) (x : Screen) (n k : ℕ) (fs : List FrameModel) → few_slots x ≡ true
    → ScreensFed (record { screens = q.screens ++ x ∷ []; lines = q.lines; start = q.start; numbers = q.numbers }) n k fs p → ScreensFed q (suc n) k (screen x ∷ fs) p
screens_more q p x n k fs here r =
    let joined = append_assoc q.screens (x ∷ []) r.more in
    record {
      more = x ∷ r.more;
      lines = r.lines;
      frames = ap (λ l. screen x ∷ l) r.frames;
      count = ap suc r.count;
      line_count = r.line_count;
      page = r.page ∙ ap (λ ss. record { screens = ss; lines = q.lines ++ r.lines; start = q.start; numbers = q.numbers }) joined;
      few = and_from (few_slots x) _ here r.few;
      formed = ap (λ ss. every (line_formed ss) r.lines) (sym joined) ∙ r.formed;
      started = ap (λ ss. eqb (length q.numbers) (slots_at ss q.start)) (sym joined) ∙ r.started;
    }

pub screens_fed : (fs : List FrameModel) (n k at : ℕ) (q p : PageModel) → every sound fs ≡ true → fed at (awaiting (after_screens n k) q) fs ≡ Ok p → ScreensFed q n k fs p
screens_fed fs zero k at q p s e = screens_over q p k fs (lines_fed fs k at q p s e)
screens_fed [] (suc n) k at q p s e = cc (due_screens n k)
screens_fed (header h ∷ fs) (suc n) k at q p s e = cc (due_screens n k)
screens_fed (line l ∷ fs) (suc n) k at q p s e = cc (due_screens n k)
screens_fed (screen x ∷ fs) (suc n) k at q p s e =
    let q' : PageModel = record { screens = q.screens ++ x ∷ []; lines = q.lines; start = q.start; numbers = q.numbers } in
    let two = and_parts (sound (screen x)) (every sound fs) s in
    let less : suc n - 1 ≡ n = omega arith in
    screens_more q p x n k fs two.0
    (screens_fed fs n k (at + 1) q' p two.1
    (ap (λ m. fed (at + 1) (awaiting (after_screens m k) q') fs) (sym less) ∙ ap (λ d. fed at (awaiting d q) (screen x ∷ fs)) (sym (due_screens n k)) ∙ e))

-- the frames of a dump are its page's, and the page is well formed
abbrev FedAs : List FrameModel → PageModel → Type 0
FedAs fs p = (fs ≡ frames_of p) × (well_formed p ≡ true)

pub some_screens : (n k : ℕ) → leb 1 n ≡ true → Screens n k ≡ after_screens n k
some_screens zero k e = absurd (false≢true e)
some_screens (suc n) k e = sym (due_screens n k)

header_fed : (at : ℕ) (h : HeaderModel) (fs : List FrameModel) (p : PageModel) → sound (header h) ≡ true → every sound fs ≡ true
    → fed at first_reader (header h ∷ fs) ≡ Ok p → FedAs (header h ∷ fs) p
header_fed at h fs p s ss e =
    let q : PageModel = record { screens = []; lines = []; start = h.start; numbers = h.numbers } in
    let k = step_on (ltb h.start h.screens) (page_fault Start at) (awaiting (Screens h.screens h.lines) q) (λ r. fed (at + 1) r fs) p e in
    let a = and_parts (between 1 32 h.screens) _ s in
    let size = and_parts (leb 1 h.screens) (leb h.screens 32) a.0 in
    let r = screens_fed fs h.screens h.lines (at + 1) q p ss
    (ap (λ d. fed (at + 1) (awaiting d q) fs) (sym (some_screens h.screens h.lines size.0)) ∙ k.1) in
    let count = r.count in
    let lines = r.line_count in
    let formed : well_formed (grown q r.more r.lines) ≡ true = grind (arith, nat_tests) in
    subst (FedAs (header h ∷ fs)) (sym r.page)
    (λ i. header (record { screens = sym count i; lines = sym lines i; start = h.start; numbers = h.numbers }) ∷ r.frames i, formed)

pub fed_as : (at : ℕ) (fs : List FrameModel) (p : PageModel) → every sound fs ≡ true → fed at first_reader fs ≡ Ok p → FedAs fs p
fed_as at [] p s e = cc
fed_as at (header h ∷ fs) p s e = let two = and_parts (sound (header h)) (every sound fs) s in header_fed at h fs p two.0 two.1 e
fed_as at (screen x ∷ fs) p s e = cc
fed_as at (line l ∷ fs) p s e = cc
