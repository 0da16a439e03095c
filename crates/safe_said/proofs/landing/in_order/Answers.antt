use Rattle.std.proofs.Common.{◌≡◌, ◌-◌, List, drop, get_or, length, subst, ◌∙◌, arith}
use Rattle.board_writes.specs.declared.writers.write.WordWrite.{WordWrite}
use Rattle.board_writes.specs.Rows.{table_of}
use Rattle.safe_said.specs.Landing.{PutsAll, Sorts}
use Rattle.board_writes.specs.Stretches.{joined}
use Rattle.safe_said.proofs.LandingLemmas.{sorts_more}
use Rattle.safe_said.proofs.landing.in_order.Goals as goal

pub loop-behind-preserved : goal.loop-behind-preserved
loop-behind-preserved c =
    let run_is : c.as_slice-run.result.now ≡ get_or c.args.runs.now (length c.args.runs.now - 1 - c.loop-behind.behind) c.index-runs-count.result = c.as_slice-run.ensures ∙ c.index-runs-count.is in
    let puts : PutsAll c.args.board.now (table_of c.args.table.now) c.as_slice-run.result.now c.loop-behind.list.items c.in_ok-list.list.items =
    subst (λ (ws : List WordWrite). PutsAll c.args.board.now (table_of c.args.table.now) c.as_slice-run.result.now ws c.in_ok-list.list.items) c.as_slice.ensures.value c.in_ok-list.ensures in
    sorts_more c.args.board.now (table_of c.args.table.now) c.args.runs.now c.loop-behind.list.items c.in_ok-list.list.items c.loop-behind.behind c.index-runs-count.result c.loop-behind-test.true c.loop-behind.invariant
    (subst (λ (ws : List WordWrite). PutsAll c.args.board.now (table_of c.args.table.now) ws c.loop-behind.list.items c.in_ok-list.list.items) run_is puts)

pub returns : goal.returns
returns c =
    let none : length c.args.runs.now - c.loop-behind.behind ≡ 0 = omega (arith, c.loop-behind-test.false) in
    subst (λ n. Sorts c.args.board.now (table_of c.args.table.now) (joined (drop n c.args.runs.now)) c.loop-behind.list.items) none c.loop-behind.invariant
