use Rattle.std.proofs.Common.{◌≡◌, ◌<◌, length, get_or, take, set, sym, subst, arith, take_all}
use Rattle.std.specs.List.{slice_get}
use Rattle.games.specs.Listing.{with_new, listing}
use Rattle.games.specs.Meaning.{replies_at, replies_of}
use Rattle.settle.proofs.Growth.{reply_step, reply_full, challenge_step, challenge_full}
use Rattle.settle.proofs.Lister.{list_start, list_step, list_full, list_end, list_done, list_over}
use Rattle.settle.proofs.Replies.{reply_told}
use Rattle.settle.specs.Grown.{Grown, Grows}
use Rattle.settle.proofs.listing.list_codes.Goals as goal

pub loop-i-init : goal.loop-i-init
loop-i-init g c = (list_start (g.M.Match.meaning c.args.game.now) c.args.codes.now c.start.result c.start.ensures c.requires, omega arith)

pub returns-in_err-len : goal.returns-in_err-len
returns-in_err-len g c =
    let m = g.M.Match.meaning c.args.game.now in
    let codes = c.args.codes.now in
    let s = c.start.result in
    let cs = m.at (get_or c.loop-i.codes c.loop-i.i 0) in
    let n = c.loop-n.n in
    let k = c.loop-k.k in
    let o = slice_get cs n in
    let inside : n < length cs = rw c.count-n-end.ensures at c.loop-n-test.true in
    let number = c.replies_or-k-end.ensures in
    let reply = reply_told o k c.next.result c.unwrap_or-y.result c.next.ensures c.unwrap_or-y.ensures in
    let at_reply = reply_full c.loop-n.codes c.loop-k.codes c.loop-k.len (take c.loop-n.len c.loop-n.codes) (replies_of o) k c.unwrap_or-y.result (rw number at c.loop-k-test.true) reply c.loop-k.invariant c.loop-k.auto.codes c.in_err-len.ensures in
    let at_challenge = challenge_full c.loop-i.codes c.loop-n.codes c.loop-n.len (take c.loop-i.len c.loop-i.codes) cs n inside c.loop-n.invariant c.loop-n.auto.codes at_reply in
    let full = list_full m (set codes 0 s) c.loop-i.codes c.loop-n.codes c.loop-i.len c.loop-i.i c.loop-i.invariant.0 c.loop-i-test.true c.loop-i.auto.codes at_challenge in
    subst (Grows codes c.add.new.codes (listing m (length codes))) (sym c.from_residual.ensures) (list_over m codes s c.start.ensures full)

pub loop-k-preserved : goal.loop-k-preserved
loop-k-preserved g c =
    let m = g.M.Match.meaning c.args.game.now in
    let o = slice_get (m.at (get_or c.loop-i.codes c.loop-i.i 0)) c.loop-n.n in
    let k = c.loop-k.k in
    let number = c.replies_or-k-end.ensures in
    let reply = reply_told o k c.next.result c.unwrap_or-y.result c.next.ensures c.unwrap_or-y.ensures in
    reply_step c.loop-n.codes c.loop-k.codes c.loop-k.len (take c.loop-n.len c.loop-n.codes) (replies_of o) k c.unwrap_or-y.result (rw number at c.loop-k-test.true) reply c.loop-k.invariant c.add.new.codes c.in_ok-len.len c.in_ok-len.ensures

pub loop-n-preserved : goal.loop-n-preserved
loop-n-preserved g c =
    let m = g.M.Match.meaning c.args.game.now in
    let cs = m.at (get_or c.loop-i.codes c.loop-i.i 0) in
    let n = c.loop-n.n in
    let o = slice_get cs n in
    let inside : n < length cs = rw c.count-n-end.ensures at c.loop-n-test.true in
    let number = c.replies_or-k-end.ensures in
    let all : take c.loop-k.k (replies_of o) ≡ replies_of o = take_all c.loop-k.k (replies_of o) (rw number at c.loop-k-test.false) in
    challenge_step c.loop-i.codes c.loop-n.codes c.loop-n.len (take c.loop-i.len c.loop-i.codes) cs n inside c.loop-n.invariant c.loop-k.codes c.loop-k.len
    (subst (λ (rs : _). Grown c.loop-n.codes c.loop-k.codes c.loop-k.len (with_new (take c.loop-n.len c.loop-n.codes) rs)) all c.loop-k.invariant)

pub loop-i-preserved : goal.loop-i-preserved
loop-i-preserved g c =
    let m = g.M.Match.meaning c.args.game.now in
    let cs = m.at (get_or c.loop-i.codes c.loop-i.i 0) in
    let all : take c.loop-n.n cs ≡ cs = take_all c.loop-n.n cs (rw c.count-n-end.ensures at c.loop-n-test.false) in
    list_step m (set c.args.codes.now 0 c.start.result) c.loop-i.codes c.loop-n.codes c.loop-i.len c.loop-i.i c.loop-i.invariant.0 c.loop-i-test.true c.loop-n.len
    (subst (λ (xs : _). Grown c.loop-i.codes c.loop-n.codes c.loop-n.len (with_new (take c.loop-i.len c.loop-i.codes) (replies_at xs))) all c.loop-n.invariant)

pub returns : goal.returns
returns g c =
    let m = g.M.Match.meaning c.args.game.now in
    let codes = c.args.codes.now in
    let s = c.start.result in
    list_done m codes s c.start.ensures c.loop-i.codes c.loop-i.len
    (list_end m (set codes 0 s) c.loop-i.codes c.loop-i.len c.loop-i.i c.loop-i.auto.codes c.loop-i.invariant.0 c.loop-i.invariant.1 c.loop-i-test.false)
