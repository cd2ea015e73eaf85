-- The text of a page, from the frames that its stored parts make.
use Rattle.std.proofs.Common.{◌≡◌, ℕ, ◌≤◌, List, [], ◌∷◌, ◌++◌, map, length, take, flat_map, sym, ap, ◌∙◌}
use Rattle.std.proofs.lemmas.List.{take_all, map-append, flat_map_more}
use Rattle.std.proofs.lemmas.List.Folds.{flat_map-map}
use Rattle.std.proofs.lemmas.Simd.{map-map}
use Rattle.lists.proofs.Extends.{take_join}
use Rattle.pages.specs.declared.Screen.{Screen}
use Rattle.pages.specs.declared.Line.{Line}
use Rattle.pages.specs.Model.{PageModel, line_model}
use Rattle.frames.specs.declared.Header.{Header}
use Rattle.frames.specs.declared.Frame.{Frame}
use Rattle.frames.specs.declared.Frame.TheVariants.{Header as OfHeader, Screen as OfScreen, Line as OfLine}
use Rattle.frames.specs.Model.{header_model, frame_model, header, screen, line}
use Rattle.dump.specs.Written.{header_of, frames_of, frame_text, written}

-- the frames of a stored page
abbrev pub stored : Header → List Screen → List Line → List Frame
stored h ss ls = OfHeader h ∷ (map OfScreen ss ++ map OfLine ls)

stored_frames : (p : PageModel) (h : Header) (ss : List Screen) (ls : List Line) → header_model h ≡ header_of p → ss ≡ p.screens → map line_model ls ≡ p.lines → map frame_model (stored h ss ls) ≡ frames_of p
stored_frames p h ss ls eh es el =
    ap (λ t. header (header_model h) ∷ t) (map-append frame_model (map OfScreen ss) (map OfLine ls))
    ∙ (λ i. header (eh i) ∷ ((map-map frame_model OfScreen ss ∙ ap (map screen) es) i ++ (map-map frame_model OfLine ls ∙ sym (map-map line line_model ls) ∙ ap (map line) el) i))

-- the text of frames
abbrev pub texts : List Frame → List ℕ
texts fs = flat_map (λ f. frame_text (frame_model f)) fs

pub one_more : (fs : List Frame) (f : Frame) (old new : List ℕ) → old ≡ take 4096 (texts fs) → new ≡ take 4096 (old ++ frame_text (frame_model f)) → new ≡ take 4096 (texts (fs ++ f ∷ []))
one_more fs f old new before now =
    now ∙ ap (λ l. take 4096 (l ++ frame_text (frame_model f))) before
    ∙ take_join 4096 (texts fs) (frame_text (frame_model f))
    ∙ ap (take 4096) (flat_map_more (λ g. frame_text (frame_model g)) [] fs f)

pub page_text : (p : PageModel) (fs : List Frame) (h : Header) (ss : List Screen) (ls : List Line) (out : List ℕ)
    → out ≡ take 4096 (texts fs) → fs ≡ stored h ss ls
    → header_model h ≡ header_of p → ss ≡ p.screens → map line_model ls ≡ p.lines → length (written p) ≤ 4096 → out ≡ written p
page_text p fs h ss ls out eo ef eh es el short =
    eo ∙ ap (take 4096) (ap texts ef ∙ sym (flat_map-map frame_text frame_model (stored h ss ls)) ∙ ap (flat_map frame_text) (stored_frames p h ss ls eh es el))
    ∙ take_all 4096 (written p) short
