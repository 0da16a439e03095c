-- What an event brings to a dword, and what it adds to what is noted of the writes.
use Rattle.std.specs.Prelude.{◌≡◌, ◌≤◌, ℕ, zero, suc, ◌+◌, ◌*◌, ◌^◌, Bool, true, false, min, List, [], ◌∷◌, ◌++◌, length, Option, Some, None, if◌then◌else◌}
use Rattle.pci_command.specs.declared.command.Space.{Space}
use Rattle.pci_command.specs.declared.op_id.OpId.{OpId}
use Rattle.pci_command.specs.declared.request.Request.{Request}
use Rattle.pci_command.specs.Command.{space_of}
use Rattle.board_model.specs.declared.bridge.Place.{Place}
use Rattle.board_model.specs.declared.bridge.Place.TheVariants.{Target, Header, Lane, Nobody}
use Rattle.board_model.specs.declared.board.Board.{Board}
use Rattle.board_model.specs.Requests.{request_of}
use Rattle.board_model.specs.Ways.{address_in}
use Rattle.history_model.specs.declared.event.Step.{Step}
use Rattle.history_model.specs.declared.event.Step.TheVariants.{Land, Part, Read, Accept, Latch, Take, Stall, MasterAbort, TargetAbort}
use Rattle.history_model.specs.declared.event.Event.{Event}
use Rattle.history_model.specs.declared.event.Event.TheVariants.{Act, Arrive}
use Rattle.history_model.specs.Words.{Landing, without, brings, parted_by}
use Rattle.history_model.specs.Knowledge.{is_land_of}
use Rattle.board_model.specs.declared.word.Word.{Word}
use Rattle.audit_clocks.specs.Tables.{value_of, same_word}

-- the write of a data phase that landed
abbrev pub op_of_landing : Landing → OpId
op_of_landing landing = landing.op

-- How much went through.

-- the number, 0 where there is none
abbrev pub or_zero : Option ℕ → ℕ
or_zero None = 0
or_zero (Some n) = n

-- how many data phases of the write went through
abbrev pub count_of : OpId → List (OpId × ℕ) → ℕ
count_of o gone = or_zero (value_of o gone)

-- the same, and never as many as 2 ^ 100
abbrev pub few_of : OpId → List (OpId × ℕ) → ℕ
few_of o gone = min (count_of o gone) (2 ^ 100)

-- an event may be a part of a write
pub record Parted (e : Event) (old new : List (OpId × ℕ)) : Type 0 where
  pub each : (o : OpId) → count_of o old ≤ 2 ^ 100 → count_of o new ≡ count_of o old + parted_by o e
  pub small : (o : OpId) → parted_by o e ≤ 255

-- Which data phases land.

-- of so many data phases from an address on, four bytes apart, those that land in the dword
abbrev pub hits : Word → OpId → ℕ → Space → ℕ → ℕ → List OpId
hits word o target space at zero = []
hits word o target space at (suc n) =
    hits word o target space at n ++ (if same_word (record { target = target; space = space; address = at + 4 * n }) word then o ∷ [] else [])

-- those of a step of a request, of which so many data phases went through before
abbrev pub request_hits : ℕ → OpId → Step → ℕ → Request → Word → List OpId
request_hits gone o step target request word =
    let space = space_of request.command in
    hits word o target space (address_in space (without gone request).address) (length (brings step (without gone request).phases))

-- the same where the request is there
abbrev pub found_hits : ℕ → OpId → Step → ℕ → Option Request → Word → List OpId
found_hits gone o step target None word = []
found_hits gone o step target (Some request) word = request_hits gone o step target request word

-- a step that may bring data phases
abbrev pub lands : Step → Bool
lands Land = true
lands (Part phases) = true
lands (Read value) = false
lands Accept = false
lands Latch = false
lands (Take outcome) = false
lands Stall = false
lands MasterAbort = false
lands TargetAbort = false

-- the same of a step at a place: only a target takes data phases
abbrev pub place_hits : Board → ℕ → ℕ → OpId → Step → Place → Word → List OpId
place_hits board gone on o step (Target target) word = if lands step then found_hits gone o step target (request_of board o on) word else []
place_hits board gone on o step (Header bus) word = []
place_hits board gone on o step (Lane lane) word = []
place_hits board gone on o step Nobody word = []

-- those of an event
abbrev pub event_hits : Board → List (OpId × ℕ) → Event → Word → List OpId
event_hits board gone (Act on by o step place) word = place_hits board (few_of o gone) on o step place word
event_hits board gone (Arrive lane mark) word = []

-- Which write landed whole.

-- the first place, or else the other
abbrev pub or_place : Option ℕ → Option ℕ → Option ℕ
or_place None other = other
or_place (Some place) other = Some place

-- after so many events this one may land all that was left of a write
pub record Landed (e : Event) (index : ℕ) (old new : List (OpId × ℕ)) : Type 0 where
  pub each : (o : OpId) → value_of o new ≡ or_place (value_of o old) (if is_land_of o e then Some index else None)

-- how many events there were before the write landed whole, if it did
abbrev pub whole_at : List Event → OpId → Option ℕ
whole_at [] o = None
whole_at (e ∷ h) o = or_place (whole_at h o) (if is_land_of o e then Some (length h) else None)
