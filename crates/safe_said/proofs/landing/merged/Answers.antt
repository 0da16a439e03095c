use Rattle.board_writes.specs.Rows.{table_of}
use Rattle.std.proofs.Common.{sym, arith}
use Rattle.safe_said.proofs.RunLemmas.{merging_begins, own_first, other_first, merging_ends, none_left}
use Rattle.safe_said.proofs.landing.merged.Goals as goal

pub loop-ahead-init : goal.loop-ahead-init
loop-ahead-init c = merging_begins c.args.board.now (table_of c.args.table.now) c.requires.largest c.args.run.now c.args.list.now c.new-all.result.items c.requires.run c.new-all.ensures.items

pub loop-ahead-preserved-then-no_more_next : goal.loop-ahead-preserved-then-no_more_next
loop-ahead-preserved-then-no_more_next c =
    own_first c.args.board.now (table_of c.args.table.now) c.args.run.now c.args.list.now c.loop-ahead.all.items c.loop-ahead.ahead.now c.loop-ahead.behind.now c.push.new.self.items _ _ (omega (arith, c.in-len1-up.len_at_least))
    (sym c.if-no_more_next.ensures) c.in_ok-push.ensures.items c.loop-ahead.invariant

pub loop-ahead-preserved : goal.loop-ahead-preserved
loop-ahead-preserved c =
    other_first c.args.board.now (table_of c.args.table.now) c.requires.largest c.args.run.now c.args.list.now c.loop-ahead.all.items c.loop-ahead.ahead.now c.loop-ahead.behind.now c.push-in-len1-up-behind.new.self.items _ _ (omega (arith, c.in-len1-up.len_at_least)) (omega (arith, c.in-len1-up-behind.len_at_least))
    (sym c.if-no_more_next.ensures) c.in_ok-push-2.ensures.items c.loop-ahead.invariant

pub returns : goal.returns
returns c =
    merging_ends c.args.board.now (table_of c.args.table.now) c.args.run.now c.args.list.now c.loop-ahead.all.items c.loop-ahead.ahead.now c.loop-ahead.behind.now c.extend_from_slice.new.self.items (none_left c.loop-ahead.ahead.now (omega (arith, c.in_default.len_below))) c.in_ok-extend_from_slice.ensures.items c.loop-ahead.invariant
