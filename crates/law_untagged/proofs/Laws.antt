-- What other crates rest on besides the laws.

-- an address of a register tells the bus, the device and the register
pub use Rattle.law_untagged.proofs.SameLemmas.{Register, one_register}
