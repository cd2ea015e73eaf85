use Rattle.std.proofs.Common.{◌≡◌, ℕ, eqb, Some, Ok, Err, Result, OkIff, ap, ◌∙◌}
use Rattle.std.specs.Bool.{then_some}
use Rattle.std.specs.Option.{option_map}
use Rattle.std.specs.Result.{result_ok}
use Rattle.std.proofs.lemmas.Option.{same_Some}
use Rattle.twins.specs.Codes.{code, pair_of}
use Rattle.pairs.specs.Order.{pair_of_values}
use Rattle.pairs.specs.Stored.{pair_model}
use Rattle.pairs.proofs.Standing.{answered}
use Rattle.pairs.proofs.Pair.from_code.Goals as goal

kept : {E : Type 0} (r : Result ℕ E) (P : Type 0) (v x : ℕ) → OkIff r P v → Some x ≡ result_ok r → x ≡ v
kept (Ok y) P v x h k = same_Some _ _ k ∙ h.1
kept (Err e) P v x h k = absurd (cc)

pub returns-clause-is : goal.returns-clause-is
returns-clause-is c =
    let n = c.args.code in
    let p = c.in_ok-pair.pair in
    let lefts = c.as_slice.ensures ∙ c.side_names-lefts.ensures in
    let rights = c.as_slice-2.ensures ∙ c.side_names-rights.ensures in
    let left : c.in_ok-left.left ≡ (pair_of n).left = kept _ _ _ _ c.try_from.ensures c.in_ok-left.ensures.value in
    let same : c.then_some.result ≡ then_some (eqb (code (pair_model p)) n) p = cc in
    ap (option_map pair_model) same
    ∙ answered n p (c.in_ok-pair.ensures ∙ (λ i. pair_of_values eqb (left i) (pair_of n).right (lefts i) (rights i)))
