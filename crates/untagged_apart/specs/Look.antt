-- A first look at two operations, which tells of most that their requests are never the same.
use Rattle.std.specs.Prelude.{◌≡◌, ◌≢◌, ℕ, ◌<◌, Bool, true, false, Option, Some, None, ◌==◌}
use Rattle.pci_command.specs.Same.{same_request}
use Rattle.board_model.specs.declared.op.Op.{Op}
use Rattle.board_model.specs.declared.op.Op.TheVariants.{Read, Write, CfgRead, CfgWrite, Poll}
use Rattle.board_model.specs.Requests.{address_on, request_on}
use Rattle.untagged_apart.specs.declared.meet.Register.{Register}

-- on no bus do the two have one request
pub record Differ (op other : Op) : Type 0 where
  pub each : (bus : ℕ) → same_request (request_on op bus) (request_on other bus) ≡ false

-- where the look says so, they differ; else nothing is known
abbrev pub NeverSame : Bool → Op → Op → Type 0
NeverSame true op other = Unit {0}
NeverSame false op other = Differ op other

-- on no bus do they have one address
pub record OtherAddress (op other : Op) : Type 0 where
  pub each : (bus : ℕ) → (address_on op bus == address_on other bus) ≡ false

-- the same of addresses
abbrev pub AddressesDiffer : Bool → Op → Op → Type 0
AddressesDiffer true op other = OtherAddress op other
AddressesDiffer false op other = Unit {0}

-- a device has a number below 32, and 64 registers
pub record IsThere (register : Register) : Type 0 where
  pub device : register.device < 32
  pub number : register.number < 64

-- two such registers, and not one
pub record AreTwo (a b : Register) : Type 0 where
  pub first : IsThere a
  pub second : IsThere b
  pub other : a ≢ b

-- the same of registers
abbrev pub RegistersDiffer : Bool → Register → Register → Type 0
RegistersDiffer true a b = AreTwo a b
RegistersDiffer false a b = Unit {0}

-- the register of an operation in configuration space
abbrev pub register_in : Op → Option Register
register_in (Read command address) = None
register_in (Write command address phases) = None
register_in (CfgRead bus device register) = Some (record { bus = bus; device = device; number = register })
register_in (CfgWrite bus device register phase) = Some (record { bus = bus; device = device; number = register })
register_in (Poll space address want tries) = None

-- the address of any other
abbrev pub address_in : Op → ℕ
address_in (Read command address) = address
address_in (Write command address phases) = address
address_in (CfgRead bus device register) = 0
address_in (CfgWrite bus device register phase) = 0
address_in (Poll space address want tries) = address
