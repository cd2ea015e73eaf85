use Rattle.std.proofs.Common.{sym, ◌∙◌, rules}
use Rattle.texts.proofs.Ends.{split_at, unsplit}
use Rattle.texts.proofs.lines.take_bytes.Goals as goal

pub returns-in_err-n-clause-is : goal.returns-in_err-n-clause-is
returns-in_err-n-clause-is c = let whole = unsplit c.args.text.now (sym c.in_err-n.ensures.ok_part ∙ c.line_end.ensures.is) in search rules

pub returns-in_err-bytes-clause-is : goal.returns-in_err-bytes-clause-is
returns-in_err-bytes-clause-is c = let cut = split_at c.args.text.now c.in_ok-n.n (sym c.in_ok-n.ensures.ok_part ∙ c.line_end.ensures.is) in search rules

pub returns-clause-is : goal.returns-clause-is
returns-clause-is c = let cut = split_at c.args.text.now c.in_ok-n.n (sym c.in_ok-n.ensures.ok_part ∙ c.line_end.ensures.is) in search rules
