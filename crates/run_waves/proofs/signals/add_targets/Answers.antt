use Rattle.std.proofs.Common.{◌≡◌, ℕ, ◌==◌, ◌<◌, true, false, length, get_or, Some, refl, arith, slice_get}
use Rattle.std.proofs.lemmas.Bool.Decides.{nat_tests}
use Rattle.std.proofs.lemmas.Option.{slice_get_read}
use Rattle.board_model.proofs.FewLemmas.{few_targets_before, target_more}
use Rattle.run_waves.specs.Signals.{is_target_on, tokens_left}
use Rattle.run_waves.proofs.PassLemmas.{flat_one, flat_none, target_on}
use Rattle.run_waves.proofs.signals.add_targets.Goals as goal
use Rattle.run_waves.proofs.signals.add_targets.Goals.{then-on-bus+in_ok-push, else-on-bus}

pub overflow_cast-target : goal.overflow_cast-target
overflow_cast-target c =
    let board = c.args.board.now in
    let i = c.loop-target.target in
    let within : i < length board.targets = rw c.as_slice-agent-items.ensures at c.loop-target-test.true in
    let few = few_targets_before board i c.requires within c.loop-target.invariant.buses in
    omega (arith, few)

pub loop-target-preserved : goal.loop-target-preserved
loop-target-preserved c =
    let board = c.args.board.now in
    let i = c.loop-target.target in
    let bus = c.args.bus in
    let agent = c.agent-item.result in
    let old = c.args.signals.now.items in
    let now = c.loop-target.signals.items in
    let test = λ (target : ℕ). is_target_on bus (slice_get board.targets target) in
    let within : i < length board.targets = rw c.as_slice-agent-items.ensures at c.loop-target-test.true in
    let item : agent ≡ get_or board.targets i agent = rw c.as_slice-agent-items.ensures at c.agent-item.is in
    let there : slice_get board.targets i ≡ Some agent = slice_get_read board.targets (length board.targets) i agent refl within item in
    let on_a_bus : (get_or board.targets i agent).bus < 256 = rw (← item) (omega arith) in
    record {
      buses = target_more board.targets i agent within c.loop-target.invariant.buses on_a_bus;
      so_far = elim c.if-on-bus.branch [
        | then-on-bus+in_ok-push w ↦
            let passes : (agent.bus == bus) ≡ true = grind (arith, nat_tests, w.if-on-bus.true) in
            flat_one tokens_left test i old now _ (target_on bus i agent.bus board.targets agent true there refl passes) c.loop-target.invariant.so_far (rw w.signals-is w.in_ok-push.ensures.items)
        | else-on-bus w ↦
            let fails : (agent.bus == bus) ≡ false = grind (arith, nat_tests, w.if-on-bus.false) in
            rw w.signals-is (flat_none tokens_left test i old now (target_on bus i agent.bus board.targets agent false there refl fails) c.loop-target.invariant.so_far)
      ];
    }
