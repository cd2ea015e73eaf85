-- The frame of bytes whose kind and number of bytes are known.
use Rattle.std.proofs.Common.{◌≡◌, ℕ, ◌-◌, ◌≤◌, Bool, true, false, cond, eqb, List, map, length, get_or, take, drop, Ok, sym, refl, ap, ◌∙◌, arith, length-drop}
use lib.ListN.{length-map}
use Rattle.std.specs.Bool.{then_some}
use Rattle.std.specs.Option.{ok_or}
use Rattle.std.proofs.lemmas.List.{take_all, take_rest}
use Rattle.std.proofs.lemmas.Bool.{le-leb, and_from}
use Rattle.lists.specs.Between.{between}
use Rattle.texts.specs.Answers.{asked, mapped, lifted}
use Rattle.pages.specs.declared.Name.{Name}
use Rattle.pages.specs.declared.Source.{Source}
use Rattle.pages.specs.declared.LineKind.{LineKind}
use Rattle.frames.specs.declared.Frame.{Frame}
use Rattle.frames.specs.declared.faults.FrameQuestion.TheVariants.{Kind, Size, Range}
use Rattle.frames.specs.Model.{FrameModel, frame_model, header, screen, line}
use Rattle.frames.specs.Fields.{source_of, name_of, kind_of}
use Rattle.frames.specs.Ranges.{in_range}
use Rattle.frames.specs.Parsing.{frame_fault, frame_of, frame_answer, ranged, sized, header_of, line_of}

pub within : (a b x : ℕ) → a ≤ x → x ≤ b → between a b x ≡ true
within a b x h k = and_from _ _ (le-leb a x h) (le-leb x b k)

-- the fields of what is left of a slice after k items, cut at n, where there are no more than n
tail_is : {A : Type 0} (of : ℕ → A) (k n : ℕ) (bs : List ℕ) → length (take (length bs - k) (drop k bs)) ≤ n → take n (map of (take (length bs - k) (drop k bs))) ≡ map of (drop k bs)
tail_is of k n bs h =
    let t = take (length bs - k) (drop k bs) in
    take_all n (map of t) (omega (arith, length-map t of)) ∙ ap (map of) (take_rest bs k)

module _ (at : ℕ) (bs : List ℕ) where
  -- the frame by the kind k
  abbrev by : ℕ → FrameModel
  by k =
      cond (eqb k 1) (header_of (get_or bs 1 0) (get_or bs 2 0) (get_or bs 3 0) (drop 4 bs))
      (cond (eqb k 2) (screen (record { slots = get_or bs 1 0 }))
      (line_of (get_or bs 1 0) (get_or bs 2 0) (get_or bs 3 0) (get_or bs 4 0) (get_or bs 5 0) (drop 6 bs)))

  pub by_kind : (k : ℕ) (f : FrameModel) → get_or bs 0 0 ≡ k → between 1 3 k ≡ true → sized k (length bs) ≡ true → f ≡ by k → ranged at bs f ≡ frame_answer at bs
  by_kind k f e known size is =
      ap (ranged at bs) (is ∙ ap by (sym e))
      ∙ ap (λ b. asked b (frame_fault Size at) (ranged at bs (frame_of bs))) (sym (ap (λ j. sized j (length bs)) e ∙ size))
      ∙ ap (λ b. asked b (frame_fault Kind at) (asked (sized (get_or bs 0 0) (length bs)) (frame_fault Size at) (ranged at bs (frame_of bs)))) (sym (ap (between 1 3) e ∙ known))

  pub header_shape : (f : FrameModel) (numbers : List Name) → get_or bs 0 0 ≡ 1 → 4 ≤ length bs → length (take (length bs - 4) (drop 4 bs)) ≤ 4
      → f ≡ header (record { screens = get_or bs 1 0; lines = get_or bs 2 0; start = get_or bs 3 0; numbers = numbers })
      → numbers ≡ take 4 (map name_of (take (length bs - 4) (drop 4 bs))) → ranged at bs f ≡ frame_answer at bs
  header_shape f numbers e low high is ns =
      by_kind 1 f e refl (within 4 8 (length bs) low (omega (arith, ap length (take_rest bs 4), length-drop 4 bs)))
      (is ∙ ap (λ l. header (record { screens = get_or bs 1 0; lines = get_or bs 2 0; start = get_or bs 3 0; numbers = l })) (ns ∙ tail_is name_of 4 4 bs high))

  pub line_shape : (f : FrameModel) (kind : LineKind) (sources : List Source) → get_or bs 0 0 ≡ 3 → 6 ≤ length bs → length (take (length bs - 6) (drop 6 bs)) ≤ 4
      → f ≡ line (record { from = get_or bs 1 0; kind = kind; port = record { 0 = get_or bs 3 0 }; next = get_or bs 5 0; sources = sources })
      → kind ≡ kind_of (get_or bs 2 0) (get_or bs 4 0) → sources ≡ take 4 (map source_of (take (length bs - 6) (drop 6 bs))) → ranged at bs f ≡ frame_answer at bs
  line_shape f kind sources e low high is k ss =
      let tail = ss ∙ tail_is source_of 6 4 bs high in
      by_kind 3 f e refl (within 6 10 (length bs) low (omega (arith, ap length (take_rest bs 6), length-drop 6 bs)))
      (is ∙ (λ i. line (record { from = get_or bs 1 0; kind = k i; port = record { 0 = get_or bs 3 0 }; next = get_or bs 5 0; sources = tail i })))

  -- a frame whose ranges are asked
  pub range_asked : (f : Frame) (b : Bool) → b ≡ in_range bs → mapped frame_model (lifted (λ q. frame_fault q at) (ok_or (then_some b f) Range)) ≡ ranged at bs (frame_model f)
  range_asked f true e = ap (λ b. asked b (frame_fault Range at) (Ok (frame_model f))) e
  range_asked f false e = ap (λ b. asked b (frame_fault Range at) (Ok (frame_model f))) e
