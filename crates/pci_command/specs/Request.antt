-- The address phases of a request: PCI Local Bus Specification 2.2, sections 3.1.1 and 3.9 (from memory).
use Rattle.std.specs.Prelude.{ℕ, ◌/◌, ◌%◌, ◌^◌, List, [], ◌∷◌, nat_lt, if◌then◌else◌}
use Rattle.pci_command.specs.declared.request.Request.{Request}
use Rattle.pci_command.specs.Command.{code_of}

-- the command and the address bits of each address phase: a Dual Address Cycle (13) with the low
-- half stands before an address of 2^32 or above
abbrev pub address_phases_of : Request → List (ℕ × ℕ)
address_phases_of request =
    if nat_lt request.address (2 ^ 32)
    then (code_of request.command, request.address) ∷ []
    else (13, request.address % 2 ^ 32) ∷ (code_of request.command, request.address / 2 ^ 32) ∷ []
