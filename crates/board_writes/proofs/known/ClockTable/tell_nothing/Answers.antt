use Rattle.std.proofs.Common.{◌≡◌, ◌+◌, ◌≤◌, length, ap, subst, ◌∙◌}
use Rattle.safe_model.specs.Clocks.{greater}
use Rattle.board_writes.proofs.TellLemmas.{tells_no_more}
use Rattle.board_writes.proofs.known.ClockTable.tell_nothing.Goals as goal

pub returns : goal.returns
returns c =
    let end : c.greater-other-end.result ≡ greater (length c.numbers-ones.result.now) (c.args.first.master + 1) = c.greater-other-end.ensures ∙ ap (λ n. greater (length c.numbers-ones.result.now) (n + 1)) c.from.ensures in
    λ _.
    tells_no_more c.args.self.now c.numbers-ones.result.now c.numbers-others.result.now c.numbers-known.result.now c.args.first c.args.second c.args.then c.loop-other.other c.numbers-ones.ensures c.numbers-others.ensures c.numbers-known.ensures
    (subst (λ n. n ≤ c.loop-other.other) end c.loop-other-test.false) c.loop-other.invariant
