-- `master NAME on B` and its operations.
use Rattle.std.specs.Prelude.{ℕ, List, [], ◌∷◌, map, codes}
use Rattle.std.specs.Fmt.{decimal}
use Rattle.pci_command.specs.declared.command.Command.{Command}
use Rattle.pci_command.specs.declared.command.Command.TheVariants.{CfgRead as ConfigurationRead, CfgWrite as ConfigurationWrite}
use Rattle.pci_command.specs.declared.phases.Phase.{Phase}
use Rattle.board_model.specs.declared.op.Op.{Op}
use Rattle.board_model.specs.declared.op.Op.TheVariants.{Read, Write, CfgRead, CfgWrite, Poll}
use Rattle.board_model.specs.declared.agents.Master.{Master}
use Rattle.board_printer.specs.Lines.{Line}
use Rattle.board_printer.specs.Numbers.{word_text, phase_text, address_text}
use Rattle.board_printer.specs.Spaces.{command_word, poll_word}

-- `mw ADDR WORD..` and `iow ADDR WORD`
abbrev pub write_line : Command → ℕ → List Phase → Line
write_line command address phases = command_word command ∷ address_text address ∷ map phase_text phases

-- an operation, by the word of its command
abbrev pub op_line : Op → Line
op_line (Read command address) = command_word command ∷ address_text address ∷ []
op_line (Write command address phases) = write_line command address phases
op_line (CfgRead bus device register) =
    command_word ConfigurationRead ∷ decimal bus ∷ decimal device ∷ decimal register ∷ []
op_line (CfgWrite bus device register phase) =
    command_word ConfigurationWrite ∷ decimal bus ∷ decimal device ∷ decimal register ∷ phase_text phase ∷ []
op_line (Poll space address want tries) =
    poll_word space want.differs ∷ address_text address ∷ word_text want.mask ∷ word_text want.wanted ∷ decimal tries ∷ []

-- `master NAME on B`
abbrev pub master_line : Master → Line
master_line master = codes "master" ∷ master.name ∷ codes "on" ∷ decimal master.bus ∷ []

-- the line of a master, then its program
abbrev pub master_lines : Master → List Line
master_lines master = master_line master ∷ map op_line master.ops
