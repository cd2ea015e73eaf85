use Rattle.std.proofs.Common.{◌≡◌, ◌≤◌, length, replicate, refl, sym, ap, ◌∙◌, subst, arith, rules, length-take-le}
use borrow.Author.Tests.{tests}
use Rattle.settle.proofs.Answered.{all_clear, answered, over_full}
use Rattle.settle.specs.Outcome.{Answer}
use Rattle.settle.proofs.settle.Goals as goal

pub returns-in_default : goal.returns-in_default
returns-in_default g c =
    let m = g.M.Match.meaning c.args.game.now in
    let N = length c.args.codes.now in
    let same : N ≡ length c.args.counts.now = omega arith in
    let long : length c.list_codes.new.codes ≡ N = omega (arith, c.list_codes.auto.codes) in (
      search (rules, tests),
      record {
        many = over_full m N c.fill.new.self (c.fill.ensures.after (λ y e. e)) c.in_default.ensures;
        codes_cleared = c.fill-in_default.ensures.after (λ y e. e) ∙ ap (λ k. replicate k 0) long;
        counts_cleared = c.fill-2.ensures.after (λ y e. e) ∙ ap (λ k. replicate k 0) (sym same);
        none = refl;
      },
    )

pub all_rounds-requires : goal.all_rounds-requires
all_rounds-requires g c =
    let m = g.M.Match.meaning c.args.game.now in
    let N = length c.args.codes.now in
    let same : N ≡ length c.args.counts.now = omega arith in
    let few : N ≤ 1024 = search (rules, tests) in
    let long : length c.list_codes.new.codes ≡ N = omega (arith, c.list_codes.auto.codes) in
    all_clear m N c.in-Some.n c.fill.new.self c.list_codes.new.codes (c.fill.ensures.after (λ y e. e)) long c.in-Some.ensures
    c.fill-2.new.self (c.fill-2.ensures.after (λ y e. e) ∙ ap (λ k. replicate k 0) (sym same)) few

pub returns : goal.returns
returns g c =
    let m = g.M.Match.meaning c.args.game.now in
    let N = length c.args.codes.now in
    let same : N ≡ length c.args.counts.now = omega arith in
    let long : length c.list_codes.new.codes ≡ N = omega (arith, c.list_codes.auto.codes) in
    let n = c.in-Some.n in
    let ws = c.fill-2.new.self in
    let rl : length c.all_rounds.new.counts ≡ n = c.all_rounds.auto.counts ∙ length-take-le n ws (omega (arith, c.in-Some.ensures.fits)) in (
      search (rules, tests),
      subst (Answer m N c.list_codes.new.codes _ n) (sym c.verdict_of.ensures)
          (answered m N n c.fill.new.self c.list_codes.new.codes (c.fill.ensures.after (λ y e. e)) long c.in-Some.ensures ws c.all_rounds.new.counts (c.fill-2.ensures.after (λ y e. e) ∙ ap (λ k. replicate k 0) (sym same)) rl c.all_rounds.ensures),
    )
