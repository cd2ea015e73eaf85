use Rattle.std.proofs.Common.{ℕ, ◌+◌, Bool, List, sym, ◌∙◌, subst₂, eq-eqb, ne_eqb}
use Rattle.std.proofs.lemmas.Bool.{and_from, and_left, and_right}
use Rattle.settle.proofs.Turns.{UnderWay, under_given, under_passed}
use Rattle.settle.proofs.rounds.round.Goals as goal
use Rattle.settle.proofs.rounds.round.Goals.{then-counts-i-eq0+then-forced, else-counts-i-eq0, else-counts-i-eq0-via-then-counts-i-eq0+else-forced, else-counts-i-eq0-via-else-counts-i-eq0}

pub loop-i-preserved : goal.loop-i-preserved
loop-i-preserved g c =
    let m = g.M.Match.meaning c.args.game.now in
    let xs = c.args.codes.now in
    let rs = c.loop-i.counts in
    let n = c.args.n in
    let i = c.loop-i.i in
    let passed = under_passed m xs rs n i c.loop-i.given c.requires.closed c.requires.some c.loop-i.invariant c.loop-i-test.true in
    elim c.if-counts-i-eq0.branch [
      | then-counts-i-eq0+then-forced w ↦
          subst₂ (λ (r : List ℕ) (b : Bool). UnderWay m xs r n (i + 1) b) (sym w.counts-is) (sym w.given-is)
          (under_given m xs rs n i c.loop-i.given c.requires.closed c.requires.some c.loop-i.invariant c.loop-i-test.true (and_from _ _ (eq-eqb _ _ w.if-counts-i-eq0.true) (sym w.forced.ensures ∙ w.if-forced.true)))
      | else-counts-i-eq0 w ↦
          subst₂ (λ (r : List ℕ) (b : Bool). UnderWay m xs r n (i + 1) b) (sym w.counts-is) (sym w.given-is)
          (passed (elim w.else-counts-i-eq0.branch [
            | else-counts-i-eq0-via-then-counts-i-eq0+else-forced v ↦ and_right _ _ (sym v.forced.ensures ∙ v.if-forced.false)
            | else-counts-i-eq0-via-else-counts-i-eq0 v ↦ and_left _ _ (ne_eqb _ _ v.if-counts-i-eq0.false)
          ]))
    ]
