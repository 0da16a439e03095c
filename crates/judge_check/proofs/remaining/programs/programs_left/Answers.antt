use Rattle.std.proofs.Common.{◌≡◌, ◌<◌, length, get_or, arith}
use Rattle.list_facts.specs.Lists.{total}
use Rattle.board_model.proofs.FewLemmas.{few_masters_before, master_more}
use Rattle.board_model.specs.declared.agents.Master.{Master}
use Rattle.board_model.specs.Ways.{cost_of}
use Rattle.judge_lanes.proofs.SumLemmas.{total_item}
use Rattle.judge_check.proofs.remaining.ProgramLemmas.{programs_more}
use Rattle.judge_check.proofs.remaining.programs.programs_left.Goals as goal

pub program_left-left-requires-clause-short : goal.program_left-left-requires-clause-short
program_left-left-requires-clause-short c =
    let cost = total_item (λ (master : Master). total (cost_of c.args.board.now master.bus) master.ops) c.loop-index.index c.as_slice-master-items.result.now
    c.master-item.result c.loop-index-test.true c.master-item.is in
    let costs = rw c.as_slice-master-items.ensures at cost in
    omega (arith, costs, c.requires.short)

pub loop-index-preserved : goal.loop-index-preserved
loop-index-preserved c =
    let board = c.args.board.now in
    let i = c.loop-index.index in
    let within : i < length board.masters = rw c.as_slice-master-items.ensures at c.loop-index-test.true in
    let item : c.master-item.result ≡ get_or board.masters i c.master-item.result = rw c.as_slice-master-items.ensures at c.master-item.is in
    let on_a_bus : (get_or board.masters i c.master-item.result).bus < 256 = rw (← item) c.program_left-left.ensures.on_a_bus in
    let few = few_masters_before board i c.requires.well_formed within c.loop-index.invariant.3 in (
      programs_more board c.args.kept.now board.masters i c.master-item.result c.loop-index.left c.program_left-left.result _ within item
          c.program_left-left.ensures.value c.loop-index.invariant.0,
      omega (arith, c.loop-index.invariant.1, c.program_left-left.ensures.fits),
      omega (arith, few),
      master_more board.masters i c.master-item.result within c.loop-index.invariant.3 on_a_bus,
    )
