-- The words of targets: what landed in a dword, and the value that it holds.
use Rattle.std.specs.Prelude.{ℕ, ◌+◌, ◌*◌, ◌/◌, List, [], ◌∷◌, ◌++◌, drop, take, Option, Some, None, ◌&&◌, ◌==◌, if◌then◌else◌, slice_get}
use Rattle.pci_command.specs.declared.command.Space.{Space}
use Rattle.pci_command.specs.declared.command.Space.TheVariants.{Mem, Io, Cfg}
use Rattle.pci_command.specs.declared.phases.Phase.{Phase}
use Rattle.pci_command.specs.declared.request.Request.{Request}
use Rattle.pci_command.specs.declared.op_id.OpId.{OpId}
use Rattle.pci_command.specs.Command.{space_of}
use Rattle.pci_command.specs.Same.{same_op, same_space}
use Rattle.board_model.specs.declared.agents.Opening.{Opening}
use Rattle.board_model.specs.declared.agents.Target.{Target as TargetAgent}
use Rattle.board_model.specs.declared.bridge.Place.{Place}
use Rattle.board_model.specs.declared.bridge.Place.TheVariants.{Target, Header, Lane, Nobody}
use Rattle.board_model.specs.declared.board.Board.{Board}
use Rattle.board_model.specs.Requests.{request_of}
use Rattle.board_model.specs.Ways.{Dword, address_in}
use Rattle.board_model.specs.device.Registers.{opening_of, write_mask_of, merge_of}
use Rattle.history_model.specs.declared.event.Step.{Step}
use Rattle.history_model.specs.declared.event.Step.TheVariants.{Land, Part, Read, Accept, Latch, Take, Stall, MasterAbort, TargetAbort}
use Rattle.history_model.specs.declared.event.Event.{Event}
use Rattle.history_model.specs.declared.event.Event.TheVariants.{Act, Arrive}

-- how many data phases of a write a disconnecting target took in one step
abbrev pub phases_parted : Step → ℕ
phases_parted Land = 0
phases_parted (Part phases) = phases
phases_parted (Read value) = 0
phases_parted Accept = 0
phases_parted Latch = 0
phases_parted (Take outcome) = 0
phases_parted Stall = 0
phases_parted MasterAbort = 0
phases_parted TargetAbort = 0

-- and of this write, by an event
abbrev pub parted_by : OpId → Event → ℕ
parted_by o (Act on by op step place) = if same_op op o then phases_parted step else 0
parted_by o (Arrive lane mark) = 0

-- how many data phases of a write went through so far
abbrev pub through : List Event → OpId → ℕ
through [] o = 0
through (e ∷ h) o = parted_by o e + through h o

-- a request without its first data phases: the address is that of the first that is left
abbrev pub without : ℕ → Request → Request
without phases request =
    record { command = request.command; address = request.address + 4 * phases; phases = drop phases request.phases }

-- the data phases of what is left of a write that a step brings into the target
abbrev pub brings : Step → List Phase → List Phase
brings Land phases = phases
brings (Part number) phases = take number phases
brings (Read value) phases = []
brings Accept phases = []
brings Latch phases = []
brings (Take outcome) phases = []
brings Stall phases = []
brings MasterAbort phases = []
brings TargetAbort phases = []

-- a data phase that landed, and the write that it belongs to
pub record Landing : Type 0 where
  pub op : OpId
  pub phase : Phase

-- of data phases from an address on, those for the dword at that address
abbrev pub landings_at : OpId → ℕ → ℕ → List Phase → List Landing
landings_at o address at [] = []
landings_at o address at (phase ∷ phases) =
    (if at == address then record { op = o; phase = phase } ∷ [] else []) ++ landings_at o address (at + 4) phases

-- of data phases in the space and from the address on, those for the dword: it is in one space only
abbrev pub landings_in : OpId → Dword → Space → ℕ → List Phase → List Landing
landings_in o word space address phases =
    if same_space space word.space then landings_at o word.address (address_in space address) phases else []

-- of a step of a write of which so many data phases went through before, where it has a request
abbrev pub landings_of : OpId → Step → ℕ → Dword → Option Request → List Landing
landings_of o step gone word None = []
landings_of o step gone word (Some request) =
    let rest = without gone request in
    landings_in o word (space_of rest.command) rest.address (brings step rest.phases)

-- of a step at a place: only at the target that the dword is in
abbrev pub landings_by : Board → List Event → ℕ → OpId → Step → Dword → Place → List Landing
landings_by board h on o step word (Target target) =
    if target == word.target then landings_of o step (through h o) word (request_of board o on) else []
landings_by board h on o step word (Header bus) = []
landings_by board h on o step word (Lane lane) = []
landings_by board h on o step word Nobody = []

-- what an event brings to the dword, after the history
abbrev pub brought : Board → List Event → Dword → Event → List Landing
brought board h word (Act on by o step place) = landings_by board h on o step word place
brought board h word (Arrive lane mark) = []

-- what landed in the dword, oldest first
abbrev pub landed : Board → List Event → Dword → List Landing
landed board [] word = []
landed board (e ∷ h) word = landed board h word ++ brought board h word e

-- the last of the opening words for the address, or 0
abbrev pub opening_word : Space → ℕ → ℕ → List Opening → ℕ
opening_word space address value [] = value
opening_word space address value (word ∷ words) =
    opening_word space address
    (if same_space word.space space && word.address == address then word.value else value) words

-- what the target holds at the address before the first event: an opening word in memory and I/O space, a
-- register of its header in configuration space
abbrev pub opens_in : Space → ℕ → TargetAgent → ℕ
opens_in Mem address target = opening_word Mem address 0 target.openings
opens_in Io address target = opening_word Io address 0 target.openings
opens_in Cfg address target = opening_of target (address / 4)

-- and where the target is there
abbrev pub opens_at : Dword → Option TargetAgent → ℕ
opens_at word None = 0
opens_at word (Some target) = opens_in word.space word.address target

-- what the dword holds before the first event
abbrev pub opens_as : Board → Dword → ℕ
opens_as board word = opens_at word (slice_get board.targets word.target)

-- which of its bits a write changes
abbrev pub mask_in : Space → ℕ → ℕ
mask_in Mem address = 0xffff_ffff
mask_in Io address = 0xffff_ffff
mask_in Cfg address = write_mask_of (address / 4)

-- what the dword holds after these landings
abbrev pub merged : Dword → ℕ → List Landing → ℕ
merged word value [] = value
merged word value (landing ∷ landings) =
    merged word (merge_of value landing.phase (mask_in word.space word.address)) landings

-- what the dword holds after the history
abbrev pub value_of : Board → List Event → Dword → ℕ
value_of board h word = merged word (opens_as board word) (landed board h word)
