-- What is kept of a target, what it answers by that, and what the answer changes.
use Rattle.std.specs.Prelude.{◌≢◌, ℕ, ◌-◌, length, Option, Some, None, nat_lt, if◌then◌else◌}
use Rattle.pci_command.specs.declared.command.Space.{Space}
use Rattle.pci_command.specs.declared.command.Space.TheVariants.{Mem, Io, Cfg}
use Rattle.pci_command.specs.declared.request.Request.{Request}
use Rattle.pci_command.specs.Command.{space_of, is_read}
use Rattle.board_model.specs.declared.agents.Target.{Target as TargetAgent}
use Rattle.board_model.specs.declared.bridge.Place.{Place}
use Rattle.board_model.specs.declared.bridge.Place.TheVariants.{Target, Header, Lane, Nobody}
use Rattle.board_model.specs.Ways.{aborts_at, address_in}
use Rattle.history_model.specs.declared.event.Step.{Step}
use Rattle.history_model.specs.declared.event.Step.TheVariants.{Land, Part as PartStep, Read, Stall as StallStep, TargetAbort}
use Rattle.history_model.specs.declared.event.Event.{Event}
use Rattle.history_model.specs.declared.event.Event.TheVariants.{Act, Arrive}
use Rattle.history_model.specs.Words.{brings}
use Rattle.bus_targets.specs.declared.access.Access.{Access}
use Rattle.bus_targets.specs.declared.access.Access.TheVariants.{Stall, Abort, Value, Part, Landed}
use Rattle.bus_targets.specs.Words.{WordsOfSpace, value_at, landed_at}

-- what is kept of a target
pub record TargetView : Type 0 where
  -- its place on the board
  pub target : ℕ
  -- the stall tokens that are left
  pub stalls : ℕ
  -- its words that operations read: in memory, in I/O and in configuration space
  pub memory : WordsOfSpace
  pub ports : WordsOfSpace
  pub registers : WordsOfSpace

-- its words of this space
abbrev pub words_in : Space → TargetView → WordsOfSpace
words_in Mem t = t.memory
words_in Io t = t.ports
words_in Cfg t = t.registers

-- a target that claims: a stall while tokens are left, an abort in an abort range, and else the access; of a write
-- with more data phases than it takes at a time it takes the first and disconnects
abbrev pub accessed_in : TargetView → Request → TargetAgent → Access
accessed_in t request agent =
    if nat_lt 0 t.stalls then Stall
    else if aborts_at agent request then Abort
    else if is_read request.command then Value (value_at (words_in (space_of request.command) t) (address_in (space_of request.command) request.address))
    else if nat_lt agent.burst (length request.phases) then Part agent.burst
    else Landed

-- where it is on the board
abbrev pub access_by : TargetView → Request → Option TargetAgent → Access
access_by t request None = Abort
access_by t request (Some agent) = accessed_in t request agent

-- the step of a run that the answer is
abbrev pub step_of : Access → Step
step_of Stall = StallStep
step_of Abort = TargetAbort
step_of (Value value) = Read value
step_of (Part phases) = PartStep phases
step_of Landed = Land

-- the words of a space after what the step brings of the request landed, from its address on
abbrev pub with_landed : Space → Request → Step → WordsOfSpace → WordsOfSpace
with_landed space request step words = record words { values = landed_at space words.addresses (address_in space request.address) (brings step request.phases) words.values }

-- the target after that
abbrev pub landed_in : TargetView → Request → Step → Space → TargetView
landed_in t request step Mem = record t { memory = with_landed Mem request step t.memory }
landed_in t request step Io = record t { ports = with_landed Io request step t.ports }
landed_in t request step Cfg = record t { registers = with_landed Cfg request step t.registers }

-- the data phases of the request that the step brings are in the words of its space
abbrev pub landed : TargetView → Request → Step → TargetView
landed t request step = landed_in t request step (space_of request.command)

-- what the answer changes: a stall uses a token, and a write lands as far as it was taken
abbrev pub after_access : TargetView → Request → Access → TargetView
after_access t request Stall = record t { stalls = t.stalls - 1 }
after_access t request Abort = t
after_access t request (Value value) = t
after_access t request (Part phases) = landed t request (PartStep phases)
after_access t request Landed = landed t request Land

-- an event that is not at the target
abbrev pub IsElsewhere : ℕ → Place → Type 0
IsElsewhere target (Target place) = place ≢ target
IsElsewhere target (Header bus) = Unit {0}
IsElsewhere target (Lane lane) = Unit {0}
IsElsewhere target Nobody = Unit {0}

-- the same of an event; an arrival is at no target
abbrev pub HappensElsewhere : ℕ → Event → Type 0
HappensElsewhere target (Act on by o step place) = IsElsewhere target place
HappensElsewhere target (Arrive lane mark) = Unit {0}
