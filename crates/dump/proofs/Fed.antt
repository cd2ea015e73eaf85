-- The frames of a well-formed page are accepted, as that page.
use Rattle.std.proofs.Common.{◌≡◌, ℕ, suc, ◌+◌, ◌-◌, true, eqb, ltb, leb, List, [], ◌∷◌, ◌++◌, map, length, Ok, sym, ap, ◌∙◌, append_assoc, append-nil, arith}
use Rattle.std.proofs.lemmas.Bool.{and_parts}
use Rattle.lists.specs.Every.{every}
use Rattle.texts.specs.Answers.{after}
use Rattle.texts.proofs.Asked.{asked_yes}
use Rattle.pages.specs.declared.Screen.{Screen}
use Rattle.pages.specs.Model.{LineModel, PageModel}
use Rattle.pages.specs.Formed.{slots_at, line_stands, line_formed, well_formed}
use Rattle.frames.specs.Model.{screen, line}
use Rattle.dump.specs.declared.faults.PageQuestion.TheVariants.{Start, Line, Numbers}
use Rattle.dump.specs.declared.reader.Due.TheVariants.{Screens}
use Rattle.dump.specs.Due.{after_lines, after_screens}
use Rattle.dump.specs.Steps.{page_fault, first_reader}
use Rattle.dump.specs.Written.{frames_of}
use Rattle.dump.proofs.Sounds.{parts}
use Rattle.dump.proofs.Feeding.{fed, awaiting, grown, grown_none, due_lines, due_screens, some_screens, Started}

-- lines in their turn
feed_lines : (ls : List LineModel) (at : ℕ) (q : PageModel) → every (line_formed q.screens) ls ≡ true → Started q
    → fed at (awaiting (after_lines (length ls)) q) (map line ls) ≡ Ok (grown q [] ls)
feed_lines [] at q f s =
    asked_yes (eqb (length q.numbers) (slots_at q.screens q.start)) (page_fault Numbers 1) (Ok q) s ∙ ap Ok (sym (grown_none q))
feed_lines (l ∷ ls) at q f s =
    let q' : PageModel = record { screens = q.screens; lines = q.lines ++ l ∷ []; start = q.start; numbers = q.numbers } in
    let n = length ls in
    let p = and_parts (line_formed q.screens l) (every (line_formed q.screens) ls) f in
    let here = (and_parts (leb l.port.0 31) (line_stands q.screens l) p.0).1 in
    let less : suc n - 1 ≡ n = omega arith in
    ap (λ d. fed at (awaiting d q) (line l ∷ map line ls)) (due_lines n)
    ∙ ap (λ r. after r (λ x. fed (at + 1) x (map line ls))) (asked_yes (line_stands q.screens l) (page_fault Line at) (Ok (awaiting (after_lines (suc n - 1)) q')) here)
    ∙ ap (λ m. fed (at + 1) (awaiting (after_lines m) q') (map line ls)) less
    ∙ feed_lines ls (at + 1) q' p.1 s
    ∙ ap (λ x. Ok (record { screens = q.screens ++ []; lines = x; start = q.start; numbers = q.numbers })) (append_assoc q.lines (l ∷ []) ls)

-- screens in their turn, and the lines after them
feed_screens : (ss : List Screen) (ls : List LineModel) (at : ℕ) (q : PageModel) → every (line_formed (q.screens ++ ss)) ls ≡ true → Started (grown q ss ls)
    → fed at (awaiting (after_screens (length ss) (length ls)) q) (map screen ss ++ map line ls) ≡ Ok (grown q ss ls)
feed_screens [] ls at q f s =
    let none = append-nil q.screens in
    feed_lines ls at q (ap (λ x. every (line_formed x) ls) (sym none) ∙ f) (ap (λ x. eqb (length q.numbers) (slots_at x q.start)) (sym none) ∙ s)
feed_screens (x ∷ ss) ls at q f s =
    let q' : PageModel = record { screens = q.screens ++ x ∷ []; lines = q.lines; start = q.start; numbers = q.numbers } in
    let n = length ss in
    let less : suc n - 1 ≡ n = omega arith in
    let joined = append_assoc q.screens (x ∷ []) ss in
    ap (λ d. fed at (awaiting d q) (screen x ∷ (map screen ss ++ map line ls))) (due_screens n (length ls))
    ∙ ap (λ m. fed (at + 1) (awaiting (after_screens m (length ls)) q') (map screen ss ++ map line ls)) less
    ∙ feed_screens ss ls (at + 1) q' (ap (λ y. every (line_formed y) ls) joined ∙ f) (ap (λ y. eqb (length q.numbers) (slots_at y q.start)) joined ∙ s)
    ∙ ap (λ y. Ok (record { screens = y; lines = q.lines ++ ls; start = q.start; numbers = q.numbers })) joined

pub feed_page : (at : ℕ) (p : PageModel) → well_formed p ≡ true → fed at first_reader (frames_of p) ≡ Ok p
feed_page at p e =
    let f = parts p e in
    let q : PageModel = record { screens = []; lines = []; start = p.start; numbers = p.numbers } in
    let rest = map screen p.screens ++ map line p.lines in
    ap (λ r. after r (λ x. fed (at + 1) x rest)) (asked_yes (ltb p.start (length p.screens)) (page_fault Start at) (Ok (awaiting (Screens (length p.screens) (length p.lines)) q)) f.start)
    ∙ ap (λ d. fed (at + 1) (awaiting d q) rest) (some_screens (length p.screens) (length p.lines) f.some)
    ∙ feed_screens p.screens p.lines (at + 1) q f.lines f.count
