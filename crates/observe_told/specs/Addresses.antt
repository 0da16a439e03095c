-- What a line of a log asks, and who claims it.
use Rattle.std.specs.Prelude.{ℕ, Bool, ◌+◌, ◌*◌, ◌^◌, List, take, drop, Option, Some, None}
use Rattle.std.specs.Option.{option_map}
use Rattle.pci_command.specs.declared.command.Command.TheVariants.{MemWrite}
use Rattle.pci_command.specs.declared.phases.Phase.{Phase}
use Rattle.pci_command.specs.Command.{plain_of, space_of}
use Rattle.pci_command.specs.Same.{same_command}
use Rattle.board_model.specs.declared.bridge.Place.{Place}
use Rattle.board_model.specs.declared.bridge.Place.TheVariants.{Nobody}
use Rattle.board_model.specs.declared.board.Board.{Board}
use Rattle.board_model.specs.Claims.{claim_in_space}
use Rattle.observe_told.specs.declared.seen.Addressed.{Addressed}
use Rattle.observe_told.specs.declared.seen.Addressed.TheVariants.{Byte, Type0, Type1}
use Rattle.observe_told.specs.declared.seen.Seen.{Seen}
use Rattle.observe_told.specs.declared.seen.Log.{Log}

-- a write in memory is posted; every other request is delayed
abbrev pub is_posted_line : Seen → Bool
is_posted_line seen = same_command (plain_of seen.command) MemWrite

-- the byte address that is driven; none where no IDSEL was up
abbrev pub driven : Addressed → Option ℕ
driven (Byte address) = Some address
driven (Type0 device register) = option_map (λ number. 2 ^ 11 * number + 4 * register) device
driven (Type1 bus device register) = Some (2 ^ 16 * bus + 2 ^ 11 * device + 4 * register + 1)

-- who claims that address
abbrev pub claimed_at : Board → Seen → Option ℕ → Place
claimed_at board seen None = Nobody
claimed_at board seen (Some address) = claim_in_space board seen.bus (space_of seen.command) address

-- who claims what a line shows
abbrev pub claimant : Board → Seen → Place
claimant board seen = claimed_at board seen (driven seen.address)

-- the data phases of a line of the log
abbrev pub phases_of_line : Log → Seen → List Phase
phases_of_line log seen = take seen.count (drop seen.first log.phases)
