use Rattle.std.proofs.Common.{ap, subst, ◌≡◌, true}
use Rattle.history_model.specs.Clear.{is_clear}
use Rattle.dma_agents.specs.Said.{IsPut}
use Rattle.command_runs.proofs.devices.MadeLemmas.{made_of}
use Rattle.command_runs.proofs.devices.delivery.delivered.Goals as goal

pub returns-clause-clear : goal.returns-clause-clear
returns-clause-clear c = λ line flag there waits.
    let made = made_of c.args.tree.now _ c.requires.made in
    subst (λ board. is_clear board flag.address flag.value ≡ true) made.1.1
    (c.waited_flags_are_clear.ensures c.args.bytes.now made.0 line flag made.1.0 there waits)

pub returns-clause-puts : goal.returns-clause-puts
returns-clause-puts c = λ put there.
    let made = made_of c.args.tree.now _ c.requires.made in
    subst (λ board. IsPut board put) made.1.1 (c.puts_stand_on_the_board.ensures c.args.bytes.now made.0 put made.1.0 there)
