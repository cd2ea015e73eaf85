-- The program that a page tables moves as the page does.
use Rattle.std.proofs.Common.{◌≡◌, ℕ, zero, suc, ◌+◌, ◌<◌, Bool, true, false, ◌&&◌, eqb, ltb, leb, List, [], ◌∷◌, map, length, get_or, sym, refl, ap, ◌∙◌, subst, inl, inr, arith}
use mathlib.Core.List.{head-eq_of_cons-eq, tail-eq_of_cons-eq, nil≢cons, cons≢nil, map-map}
use lib.ListN.{length-map}
use Rattle.std.proofs.lemmas.Bool.{and_parts, eq-eqb, ne_eqb, eqb-true, ltb-true, false≢true}
use Rattle.lists.specs.Every.{every}
use Rattle.pages.specs.declared.Source.{Source}
use Rattle.pages.specs.declared.Source.TheVariants.{Kept, Taken}
use Rattle.pages.specs.declared.LineKind.{LineKind}
use Rattle.pages.specs.declared.LineKind.TheVariants.{Take, Show}
use Rattle.pages.specs.Model.{LineModel, PageModel}
use Rattle.pages.specs.Formed.{slots_at, source_stands, shown_stands, line_stands, line_formed, screens_formed, lines_formed, well_formed}
use Rattle.programs.specs.Places.{In, Place, Act, Moves, Shaped, after, carry, moved_by, shows, value_of}
use Rattle.programs.specs.Programs.{Expr, var, val, Behaviour, input, output, sum, call, Among, at, bind, replace, replace_each, one, several, Clause, Step, OUT, IN, SUM, ID}
use Rattle.programs.specs.Tables.{lines_of, numbers, source, acting, summand, summands, clauses, program, MovesExactly}
use Rattle.programs.proofs.Members.{map_same_in, of_kept, in_kept, every_in}

numbers_length : (n k : ℕ) → length (numbers n k) ≡ n
numbers_length zero k = refl
numbers_length (suc n) k = ap suc (numbers_length n (suc k))

module _ {V : Type 0} where
  -- what each form of behaviour can do
  abbrev Can : (D : ℕ → Clause V) → Behaviour V → Act V → Behaviour V → Type 0
  Can D (input a x A) μ B = (d : V) × (μ ≡ record { shows = false; port = a; value = d }) × (B ≡ replace A (one x d))
  Can D (output a e A) μ B = (d : V) × (e ≡ val d) × (μ ≡ record { shows = true; port = a; value = d }) × (B ≡ A)
  Can D (sum As) μ B = (A : Behaviour V) × Among A As × Step D A μ B
  Can D (call i es) μ B = (ds : List V) × (es ≡ map val ds) × Step D (replace (D i).body (several (D i).parameters ds)) μ B

  can : (D : ℕ → Clause V) (A : Behaviour V) (μ : Act V) (B : Behaviour V) → Step D A μ B → Can D A μ B
  can D _ _ _ (OUT a d A) = (d, refl, refl, refl)
  can D _ _ _ (IN a x A d) = (d, refl, refl)
  can D _ _ _ (SUM As A μ B i s) = (A, i, s)
  can D _ _ _ (ID i ds μ B n s) = (ds, refl, s)

  abbrev unval : V → Expr V → V
  unval d (var x) = d
  unval d (val v) = v

  vals_one : (vs ws : List V) → map {B = Expr V} val vs ≡ map val ws → vs ≡ ws
  vals_one [] [] e = refl
  vals_one [] (w ∷ ws) e = absurd (nil≢cons e)
  vals_one (v ∷ vs) [] e = absurd (cons≢nil e)
  vals_one (v ∷ vs) (w ∷ ws) e = λ i. ap (unval v) (head-eq_of_cons-eq e) i ∷ vals_one vs ws (tail-eq_of_cons-eq e) i

  -- a parameter stands for the value of its slot
  parameter : (vs : List V) (k j : ℕ) (v : V) → j < length vs → several (numbers (length vs) k) vs (k + j) ≡ val (get_or vs j v)
  parameter [] k j v h = absurd (omega arith)
  parameter (u ∷ vs) k zero v h = rw (eq-eqb k (k + 0) (omega arith)) refl
  parameter (u ∷ vs) k (suc j) v h =
      let e : k + suc j ≡ suc k + j = omega arith in
      rw (ne_eqb k (k + suc j) (λ q. omega (arith, q))) (rw e (parameter vs (suc k) j v (omega arith)))

  abbrev slots_of : List V → ℕ → Expr V
  slots_of vs = several (numbers (length vs) 0) vs

  parameter₀ : (vs : List V) (j : ℕ) (v : V) → j < length vs → slots_of vs j ≡ val (get_or vs j v)
  parameter₀ vs j v h = let e : 0 + j ≡ j = omega arith in rw e at (parameter vs 0 j v h)

  shown_source : (vs : List V) (d : V) (x : _) (s : Source) → source_stands (Show x) (length vs) s ≡ true → at (slots_of vs) (source (length vs) s) ≡ val (value_of vs d s)
  shown_source vs d x (Kept s) h = parameter₀ vs s.0 d (ltb-true s.0 (length vs) h)
  shown_source vs d x Taken h = absurd (false≢true h)

  taken_source : (vs : List V) (d : V) (s : Source) → source_stands Take (length vs) s ≡ true →
      at (one (length vs) d) (at (bind (length vs) (slots_of vs)) (source (length vs) s)) ≡ val (value_of vs d s)
  taken_source vs d (Kept s) h =
      let lt = ltb-true s.0 (length vs) h in
      rw (ne_eqb (length vs) s.0 (λ q. omega (arith, q))) (rw (parameter₀ vs s.0 d lt) refl)
  taken_source vs d Taken h = rw (eq-eqb (length vs) (length vs) refl) (rw (eq-eqb (length vs) (length vs) refl) refl)

  shown_sources : (vs : List V) (d : V) (x : _) (ss : List Source) → every (source_stands (Show x) (length vs)) ss ≡ true →
      map (at (slots_of vs)) (map (source (length vs)) ss) ≡ map val (carry vs d ss)
  shown_sources vs d x ss h =
      map-map (at (slots_of vs)) (source (length vs)) ss
      ∙ map_same_in _ _ ss (λ s i. shown_source vs d x s (every_in (source_stands (Show x) (length vs)) s ss h i)) ∙ sym (map-map val (value_of vs d) ss)

  taken_sources : (vs : List V) (d : V) (ss : List Source) → every (source_stands Take (length vs)) ss ≡ true →
      map (at (one (length vs) d)) (map (at (bind (length vs) (slots_of vs))) (map (source (length vs)) ss)) ≡ map val (carry vs d ss)
  taken_sources vs d ss h =
      ap (map (at (one (length vs) d))) (map-map (at (bind (length vs) (slots_of vs))) (source (length vs)) ss)
      ∙ map-map (at (one (length vs) d)) (λ s. at (bind (length vs) (slots_of vs)) (source (length vs) s)) ss
      ∙ map_same_in _ _ ss (λ s i. taken_source vs d s (every_in (source_stands Take (length vs)) s ss h i)) ∙ sym (map-map val (value_of vs d) ss)

  module _ (D : ℕ → Clause V) (vs : List V) (l : LineModel) where
    abbrev args : List (Expr V)
    args = map (source (length vs)) l.sources

    abbrev form : LineKind → Behaviour V
    form k = acting k (length vs) l.port (call l.next args)

    abbrev seen : Bool → V → Act V
    seen b v = record { shows = b; port = l.port; value = v }

    abbrev then : V → Behaviour V
    then v = call l.next (map val (carry vs v l.sources))

    line_step : (k : LineKind) (v : V) → every (source_stands k (length vs)) l.sources ≡ true → shown_stands k (length vs) ≡ true →
        moved_by k vs v ≡ v → Step D (replace (form k) (slots_of vs)) (seen (shows k) v) (then v)
    line_step (Show s) v fits shown mv =
        subst (λ (e : Expr V). Step D (output l.port e (call l.next (map (at (slots_of vs)) args))) (seen true v) (then v))
        (sym (parameter₀ vs s.0 v (ltb-true s.0 (length vs) shown) ∙ ap val mv))
        (subst (λ (es : List (Expr V)). Step D (output l.port (val v) (call l.next es)) (seen true v) (then v))
        (sym (shown_sources vs v s l.sources fits))
        (OUT l.port v (then v)))
    line_step Take v fits shown mv =
        subst (λ (es : List (Expr V)). Step D (replace (form Take) (slots_of vs)) (seen false v) (call l.next es))
        (taken_sources vs v l.sources fits)
        (IN l.port (length vs) (call l.next (map (at (bind (length vs) (slots_of vs))) args)) v)

    line_back : (k : LineKind) (μ : Act V) (B : Behaviour V) → every (source_stands k (length vs)) l.sources ≡ true → shown_stands k (length vs) ≡ true →
        Step D (replace (form k) (slots_of vs)) μ B →
        (shows k ≡ μ.shows) × (l.port ≡ μ.port) × (moved_by k vs μ.value ≡ μ.value) × (B ≡ then μ.value)
    line_back (Show s) μ B fits shown st =
        let (d, e, m, t) = can D _ μ B st in (
          ap (λ (a : Act V). a.shows) (sym m),
          ap (λ (a : Act V). a.port) (sym m),
          ap (unval d) (sym (parameter₀ vs s.0 μ.value (ltb-true s.0 (length vs) shown)) ∙ e) ∙ sym (ap (λ (a : Act V). a.value) m),
          t ∙ ap (call l.next) (shown_sources vs μ.value s l.sources fits),
        )
    line_back Take μ B fits shown st =
        let (d, m, t) = can D _ μ B st in (
          ap (λ (a : Act V). a.shows) (sym m),
          ap (λ (a : Act V). a.port) (sym m),
          refl,
          t ∙ ap (call l.next) (taken_sources vs d l.sources fits) ∙ ap then (sym (ap (λ (a : Act V). a.value) m)),
        )

  among_summand : (n : ℕ) (l : LineModel) (ls : List LineModel) (e : ℕ → Expr V) → In l ls → Among (replace (summand n l) e) (replace_each (summands n ls) e)
  among_summand n l [] e i = absurd i
  among_summand n l (k ∷ ls) e (inl q) = inl (ap (λ (j : LineModel). replace (summand n j) e) q)
  among_summand n l (k ∷ ls) e (inr i) = inr (among_summand n l ls e i)

  of_summands : (n : ℕ) (A : Behaviour V) (ls : List LineModel) (e : ℕ → Expr V) → Among A (replace_each (summands n ls) e) → (l : LineModel) × In l ls × (A ≡ replace (summand n l) e)
  of_summands n A [] e i = absurd i
  of_summands n A (k ∷ ls) e (inl q) = (k, inl refl, q)
  of_summands n A (k ∷ ls) e (inr i) = let (l, j, q) = of_summands n A ls e i in (l, inr j, q)

  module _ (g : PageModel) (formed : well_formed g ≡ true) (p : Place V) (shaped : Shaped g p) (μ : Act V) where
    abbrev vs : List V
    vs = p.slots

    abbrev ls : List LineModel
    ls = lines_of g p.screen

    -- the screen's clause at the values of the slots, over as many parameters as there are slots
    same_body : replace (sum (summands (length vs) ls)) (slots_of vs) ≡ replace (clauses {V = V} g p.screen).body (several (clauses {V = V} g p.screen).parameters vs)
    same_body = ap (λ (n : ℕ). replace (sum (summands {V = V} n ls)) (several (numbers n 0) vs)) shaped

    -- what a well-formed page says of a line that leaves the place
    stands : (l : LineModel) → In l g.lines → l.from ≡ p.screen →
        (shown_stands l.kind (length vs) ≡ true) × (every (source_stands l.kind (length vs)) l.sources ≡ true) × (length l.sources ≡ slots_at g.screens l.next)
    stands l i e =
        let a = and_parts (screens_formed g.screens) _ formed in
        let b = and_parts (lines_formed g.screens g.lines) _ a.1 in
        let c = and_parts (leb (length g.lines) 128) (every (line_formed g.screens) g.lines) b.0 in
        let d = and_parts (leb l.port.0 31) (line_stands g.screens l) (every_in (line_formed g.screens) l g.lines c.1 i) in
        let f = and_parts (ltb l.from (length g.screens) && ltb l.next (length g.screens)) _ d.1 in
        let s = and_parts (shown_stands l.kind (slots_at g.screens l.from)) _ f.1 in
        let t = and_parts (every (source_stands l.kind (slots_at g.screens l.from)) l.sources) (eqb (length l.sources) (slots_at g.screens l.next)) s.1 in
        let n : slots_at g.screens l.from ≡ length vs = ap (slots_at g.screens) e ∙ sym shaped in
        (subst (λ (k : ℕ). shown_stands l.kind k ≡ true) n s.0, subst (λ (k : ℕ). every (source_stands l.kind k) l.sources ≡ true) n t.0, eqb-true _ _ t.1)

    moves_step : (q : Place V) → Moves g p μ q → Step (clauses g) (program p) μ (program q) × Shaped g q
    moves_step q (l, i, from, kind, port, mv, to) =
        let (shown, fits, full) = stands l i from in (
          ID p.screen vs μ (program q) (shaped ∙ sym (numbers_length (slots_at g.screens p.screen) 0))
              (subst (λ (A : Behaviour V). Step (clauses g) A μ (program q)) same_body
              (SUM (replace_each (summands (length vs) ls) (slots_of vs)) (replace (summand (length vs) l) (slots_of vs)) μ (program q)
              (among_summand (length vs) l ls (slots_of vs) (in_kept (λ (k : LineModel). eqb k.from p.screen) l g.lines i (eq-eqb _ _ from)))
              (subst (λ (r : Place V). Step (clauses g) (replace (summand (length vs) l) (slots_of vs)) μ (program r)) (sym to)
              (subst (λ (a : Act V). Step (clauses g) (replace (summand (length vs) l) (slots_of vs)) a (program (after l vs μ.value)))
              (λ k. record { shows = kind k; port = port k; value = μ.value })
              (line_step (clauses g) vs l l.kind μ.value fits shown mv))))),
          subst (Shaped g) (sym to) (length-map l.sources (value_of vs μ.value) ∙ full),
        )

    step_moves : (B : Behaviour V) → Step (clauses g) (program p) μ B → (q : Place V) × (B ≡ program q) × Moves g p μ q
    step_moves B st =
        let (ds, e, st1) = can (clauses g) (program p) μ B st in
        let st2 : Step (clauses g) (replace (sum (summands (length vs) ls)) (slots_of vs)) μ B =
        subst (λ (A : Behaviour V). Step (clauses g) A μ B) (sym same_body)
        (subst (λ (us : List V). Step (clauses g) (replace (clauses g p.screen).body (several (clauses {V = V} g p.screen).parameters us)) μ B) (sym (vals_one vs ds e)) st1) in
        let (A, i, st3) = can (clauses g) _ μ B st2 in
        let (l, j, q) = of_summands (length vs) A ls (slots_of vs) i in
        let (il, t) = of_kept (λ (k : LineModel). eqb k.from p.screen) l g.lines j in
        let from : l.from ≡ p.screen = eqb-true _ _ t in
        let (shown, fits, full) = stands l il from in
        let (kind, port, mv, to) =
        line_back (clauses g) vs l l.kind μ B fits shown (subst (λ (C : Behaviour V). Step (clauses g) C μ B) q st3) in
        (after l vs μ.value, to, (l, il, from, kind, port, mv, refl))

pub moves_exactly : (V : Type 0) (g : PageModel) → well_formed g ≡ true → MovesExactly V g
moves_exactly V g formed p shaped μ = (moves_step g formed p shaped μ, step_moves g formed p shaped μ)
