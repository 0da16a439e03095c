use Rattle.std.proofs.Common.{◌≡◌, ℕ, ◌==◌, ◌<◌, true, false, length, get_or, Some, refl, arith, slice_get}
use Rattle.std.proofs.lemmas.Bool.Decides.{nat_tests}
use Rattle.std.proofs.lemmas.Option.{slice_get_read}
use Rattle.board_model.proofs.FewLemmas.{few_masters_before, master_more}
use Rattle.history_model.specs.Answers.{is_on}
use Rattle.run_waves.specs.Signals.{progress}
use Rattle.run_waves.proofs.PassLemmas.{flat_one, flat_none, master_on}
use Rattle.run_waves.proofs.signals.add_masters.Goals as goal
use Rattle.run_waves.proofs.signals.add_masters.Goals.{then-on-bus+in_ok-add_progress, else-on-bus}

pub overflow_cast-master : goal.overflow_cast-master
overflow_cast-master c =
    let board = c.args.board.now in
    let i = c.loop-master.master in
    let within : i < length board.masters = rw c.as_slice-agent-items.ensures at c.loop-master-test.true in
    let few = few_masters_before board i c.requires within c.loop-master.invariant.buses in
    omega (arith, few)

pub loop-master-preserved : goal.loop-master-preserved
loop-master-preserved c =
    let board = c.args.board.now in
    let i = c.loop-master.master in
    let bus = c.args.bus in
    let agent = c.agent-item.result in
    let old = c.args.signals.now.items in
    let now = c.loop-master.signals.items in
    let test = λ (master : ℕ). is_on bus (slice_get board.masters master) in
    let within : i < length board.masters = rw c.as_slice-agent-items.ensures at c.loop-master-test.true in
    let item : agent ≡ get_or board.masters i agent = rw c.as_slice-agent-items.ensures at c.agent-item.is in
    let there : slice_get board.masters i ≡ Some agent = slice_get_read board.masters (length board.masters) i agent refl within item in
    let on_a_bus : (get_or board.masters i agent).bus < 256 = rw (← item) (omega arith) in
    record {
      buses = master_more board.masters i agent within c.loop-master.invariant.buses on_a_bus;
      so_far = elim c.if-on-bus.branch [
        | then-on-bus+in_ok-add_progress w ↦
            let passes : (agent.bus == bus) ≡ true = grind (arith, nat_tests, w.if-on-bus.true) in
            flat_one progress test i old now _ (master_on bus i agent.bus board.masters agent true there refl passes) c.loop-master.invariant.so_far (rw w.signals-is w.in_ok-add_progress.ensures)
        | else-on-bus w ↦
            let fails : (agent.bus == bus) ≡ false = grind (arith, nat_tests, w.if-on-bus.false) in
            rw w.signals-is (flat_none progress test i old now (master_on bus i agent.bus board.masters agent false there refl fails) c.loop-master.invariant.so_far)
      ];
    }
