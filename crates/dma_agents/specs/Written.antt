-- What is written in memory, noted so that a flag is looked up: how often its value is brought to its address, where
-- more than once counts as twice, and so does a write that brings it with other dwords or does not enable all bytes there.
use Rattle.std.specs.Prelude.{◌≡◌, ℕ, Bool, ◌+◌, ◌<◌, ◌^◌, List, length, min, ◌&&◌, ◌==◌, if◌then◌else◌, unwrap_or}
use Rattle.std.specs.List.{list_any}
use Rattle.std.specs.Map.{lookup}
use Rattle.list_facts.specs.Lists.{total}
use Rattle.pci_command.specs.declared.phases.Phase.{Phase}
use Rattle.board_model.specs.declared.agents.Master.{Master}
use Rattle.board_model.specs.declared.op.Op.{Op}
use Rattle.board_model.specs.Requests.{phases_of}
use Rattle.history_model.specs.Clear.{phases_at, written_at, brings_value, is_whole}
use Rattle.dma_agents.specs.declared.written.WrittenValue.{WrittenValue}
use Rattle.dma_agents.specs.declared.written.Written.{Written}

-- What is written.

-- the weight of a data phase at the address of a flag, which is alone in its write or not
abbrev pub weighs : ℕ → Bool → Phase → ℕ
weighs value alone phase =
    if is_whole phase then (if brings_value value phase then (if alone then 1 else 2) else 0) else 2

-- of a data phase at an address, for each flag
abbrev pub phase_weighs : ℕ → Bool → Phase → ℕ → ℕ → ℕ
phase_weighs at alone phase address value = if at == address then weighs value alone phase else 0

-- of those from an address on
abbrev pub phases_weigh : ℕ → Bool → List Phase → ℕ → ℕ → ℕ
phases_weigh at alone phases address value = total (weighs value alone) (phases_at address at phases)

-- of an operation
abbrev pub op_weighs : Op → ℕ → ℕ → ℕ
op_weighs op address value = total (weighs value (length (phases_of op) == 1)) (written_at address op)

-- of these operations
abbrev pub ops_weigh : List Op → ℕ → ℕ → ℕ
ops_weigh ops address value = total (λ (op : Op). op_weighs op address value) ops

-- of these masters
abbrev pub masters_weigh : List Master → ℕ → ℕ → ℕ
masters_weigh masters address value = total (λ (master : Master). ops_weigh master.ops address value) masters

-- What is noted.

-- the same value of the same dword
abbrev pub same_value : WrittenValue → WrittenValue → Bool
same_value a b = a.address == b.address && a.value == b.value

-- the weight that is noted of a value of a dword, 0 where none is
abbrev pub weight_in : List (WrittenValue × ℕ) → WrittenValue → ℕ
weight_in noted one = unwrap_or (lookup (same_value one) noted) 0

-- the address is among these
abbrev pub is_noted : List ℕ → ℕ → Bool
is_noted noted address = list_any (λ other. address == other) noted

-- the weight that is noted of a flag, 2 where it is more
abbrev pub weight_at : Written → ℕ → ℕ → ℕ
weight_at written address value =
    if is_noted written.parts.keys address
    then 2
    else min (weight_in written.weights.entries (record { address = address; value = value })) 2

-- this weight of each flag is noted besides
pub record Noted (more : ℕ → ℕ → ℕ) (old new : Written) : Type 0 where
  pub each : (address value : ℕ) → address < 2 ^ 32 → weight_at new address value ≡ min (weight_at old address value + more address value) 2

-- what the masters write is noted, and nothing else
pub record IsWritten (masters : List Master) (written : Written) : Type 0 where
  pub each : (address value : ℕ) → address < 2 ^ 32 → weight_at written address value ≡ min (masters_weigh masters address value) 2
