use Rattle.std.proofs.Common.{◌≡◌, false, sym, ap, ◌∙◌}
use Rattle.pci_command.specs.declared.command.Command.TheVariants.{MemWrite}
use Rattle.pci_command.specs.Same.{same_command}
use Rattle.board_model.specs.Requests.{command_of, is_posted}
use Rattle.dma_agents.proofs.WrittenLemmas.{no_write_noted}
use Rattle.dma_agents.proofs.written.note_op.Goals as goal

pub returns-then-not-is_posted : goal.returns-then-not-is_posted
returns-then-not-is_posted c =
    let other : same_command (command_of c.args.op.now) MemWrite ≡ false = ap is_posted (sym c.request_on-request.ensures) ∙ sym c.is_posted.ensures ∙ c.if-not-is_posted.true in
    no_write_noted c.args.op.now c.args.written.now other
