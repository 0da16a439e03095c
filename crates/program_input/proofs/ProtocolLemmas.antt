-- The text of devices on a valid board, and that of a board or of devices on one, are not refused.
use Rattle.program_input.specs.Refusals.{IsRefusing}
use Rattle.program_input.specs.Devices.{devices_refusal, RefusesDevices, IsDeviceText}
use Rattle.program_input.specs.Protocols.{protocol_refusal, RefusesProtocol, IsProtocolText}
use Rattle.program_input.proofs.RefusalLemmas.{refused_by_memory, refusal_subject}

pub devices_refusing : IsRefusing RefusesDevices IsDeviceText
devices_refusing = record {
  served = λ input status none refuses. refused_by_memory (devices_refusal input) status none refuses;
  subject = λ input status refuses. refusal_subject (devices_refusal input) status refuses;
}

pub protocol_refusing : IsRefusing RefusesProtocol IsProtocolText
protocol_refusing = record {
  served = λ input status none refuses. refused_by_memory (protocol_refusal input) status none refuses;
  subject = λ input status refuses. refusal_subject (protocol_refusal input) status refuses;
}
