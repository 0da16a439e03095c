-- What each act of a line may be, by what the acts before it have shown of the line.
use Rattle.std.specs.Prelude.{◌≡◌, ℕ, Bool, true, false, ◌+◌, ◌*◌, ◌%◌, ◌^◌, List, [], ◌∷◌, length, take, drop, Option, Some, None, ◌&&◌, ◌==◌, nat_le, nat_lt, slice_get, if◌then◌else◌}
use Rattle.std.specs.Cmp.Lexicographic.{pointwise}
use Rattle.pci_command.specs.declared.op_id.OpId.{OpId}
use Rattle.pci_command.specs.declared.op_id.Outcome.{Outcome}
use Rattle.pci_command.specs.declared.op_id.Outcome.TheVariants.{Value, Written, Aborted, Nobody as NobodyOutcome}
use Rattle.pci_command.specs.declared.phases.Phase.{Phase}
use Rattle.pci_command.specs.declared.request.Request.{Request}
use Rattle.pci_command.specs.Command.{plain_of, is_read}
use Rattle.pci_command.specs.Same.{same_command, same_phase, same_op}
use Rattle.board_model.specs.declared.bridge.Place.{Place}
use Rattle.board_model.specs.declared.bridge.Place.TheVariants.{Nobody as AtNobody}
use Rattle.board_model.specs.declared.board.Board.{Board}
use Rattle.board_model.specs.Requests.{request_of}
use Rattle.board_model.specs.Ways.{is_lane}
use Rattle.history_model.specs.declared.event.By.{By}
use Rattle.history_model.specs.declared.event.By.TheVariants.{Master as ByMaster, Lane as ByLane}
use Rattle.history_model.specs.declared.event.Step.{Step}
use Rattle.history_model.specs.declared.event.Step.TheVariants.{Land, Part, Read, Accept, Latch, Take, Stall, MasterAbort, TargetAbort as Aborts}
use Rattle.history_model.specs.declared.event.Event.{Event}
use Rattle.history_model.specs.declared.event.Event.TheVariants.{Act, Arrive}
use Rattle.observe_told.specs.declared.seen.Ending.{Ending}
use Rattle.observe_told.specs.declared.seen.Ending.TheVariants.{Done, Retry, TargetAbort, Nobody}
use Rattle.observe_told.specs.declared.seen.Who.{Who}
use Rattle.observe_told.specs.declared.seen.Who.TheVariants.{Master, Lane}
use Rattle.observe_told.specs.declared.seen.Addressed.{Addressed}
use Rattle.observe_told.specs.declared.seen.Addressed.TheVariants.{Byte, Type0, Type1}
use Rattle.observe_told.specs.declared.seen.Seen.{Seen}
use Rattle.observe_told.specs.declared.seen.Log.{Log}
use Rattle.observe_told.specs.Addresses.{claimant, phases_of_line}
use Rattle.observe_log.specs.declared.row.Row.{Row}
use Rattle.observe_log.specs.declared.row.Row.TheVariants.{Silent, Latches, Takes, Reads, ReadsFirst, Writes, Posts, Unclaimed, UnclaimedPosts}
use Rattle.observe_log.specs.declared.shown.Shown.{Shown}
use Rattle.observe_log.specs.declared.shown.Shown.TheVariants.{Dwords, Latched, Whole}
use Rattle.observe_log.specs.SeenBoards.{is_master}
use Rattle.observe_log.specs.Rows.{row_of}

-- The request of an act, and what the line asks.

-- a register of type 0: of the device, or of any where no IDSEL was up
abbrev pub is_register : Option ℕ → ℕ → ℕ → Bool
is_register (Some device) register address = address == 2 ^ 11 * device + 4 * register
is_register None register address = address % 2 ^ 11 == 4 * register

-- the dword that stands so many behind the one that the line addressed; a register stands alone
abbrev pub stands_at : Addressed → ℕ → ℕ → Bool
stands_at (Byte first) k address = address == first + 4 * k
stands_at (Type0 device register) k address = k == 0 && is_register device register address
stands_at (Type1 bus device register) k address = k == 0 && address == 2 ^ 16 * bus + 2 ^ 11 * device + 4 * register + 1

-- the command of the line, at the dword so many behind the one that it addressed
abbrev pub asks_at : Seen → ℕ → Request → Bool
asks_at seen k request =
    same_command request.command (plain_of seen.command) && stands_at seen.address k request.address

-- these data phases stand at the front of those
abbrev pub stand_in_front : List Phase → List Phase → Bool
stand_in_front phases words = nat_lt 0 (length phases) && pointwise same_phase phases (take (length phases) words)

-- all that the line asks: of a write with its data phase
abbrev pub asks : Seen → List Phase → Request → Bool
asks seen words request =
    asks_at seen 0 request && (if is_read seen.command then true else pointwise same_phase request.phases (take 1 words))

-- What the line shows.

-- Target-Abort
abbrev pub is_aborted : Ending → Bool
is_aborted Done = false
is_aborted Retry = false
is_aborted TargetAbort = true
is_aborted Nobody = false

-- the value of a data phase that is there
abbrev pub has_value : ℕ → Option Phase → Bool
has_value value None = false
has_value value (Some phase) = phase.value == value

-- how the line ended its request, which a read did with its first data phase, whatever came behind it: what was read,
-- that it was written, or that it was aborted
abbrev pub is_outcome : Seen → List Phase → Outcome → Bool
is_outcome seen words (Value value) = is_read seen.command && has_value value (slice_get words 0)
is_outcome seen words Written = if is_aborted seen.ending then false else (if is_read seen.command then false else true)
is_outcome seen words Aborted = is_aborted seen.ending && (if is_read seen.command then length words == 0 else true)
is_outcome seen words NobodyOutcome = false

-- One act more, row by row. An operation that comes next may have any data phases where nobody takes them.

-- this, if the test holds
abbrev pub provided : Bool → Shown → Option Shown
provided holds shown = if holds then Some shown else None

-- a Retry of a bridge: a Latch
abbrev pub latches : Bool → Shown → Step → Option Shown
latches asked (Dwords k) Latch = provided (asked && k == 0) Whole
latches asked (Dwords k) other = None
latches asked (Latched o) step = None
latches asked Whole step = None

-- the end of a delayed request at a bridge: a Take, before which the same operation may be latched
abbrev pub takes : Seen → List Phase → OpId → Bool → Shown → Step → Option Shown
takes seen words o asked (Dwords k) Latch = provided (asked && k == 0) (Latched o)
takes seen words o asked (Dwords k) (Take outcome) = provided (asked && k == 0 && is_outcome seen words outcome) Whole
takes seen words o asked (Dwords k) other = None
takes seen words o asked (Latched p) (Take outcome) = provided (asked && same_op p o && is_outcome seen words outcome) Whole
takes seen words o asked (Latched p) other = None
takes seen words o asked Whole step = None

-- a master's read where no bridge claims: data phase by data phase, and then an abort
abbrev pub reads : Seen → List Phase → Request → Shown → Step → Option Shown
reads seen words request (Dwords k) (Read value) =
    provided (asks_at seen k request && has_value value (slice_get words k)) (Dwords (k + 1))
reads seen words request (Dwords k) Aborts =
    provided (asks_at seen k request && is_aborted seen.ending && k == length words) Whole
reads seen words request (Dwords k) other = None
reads seen words request (Latched o) step = None
reads seen words request Whole step = None

-- a bridge's read there: its first data phase, or an abort where it has none
abbrev pub reads_first : Seen → List Phase → Bool → Shown → Step → Option Shown
reads_first seen words asked (Dwords k) (Read value) = provided (asked && k == 0 && has_value value (slice_get words 0)) Whole
reads_first seen words asked (Dwords k) Aborts =
    provided (asked && k == 0 && is_aborted seen.ending && length words == 0) Whole
reads_first seen words asked (Dwords k) other = None
reads_first seen words asked (Latched o) step = None
reads_first seen words asked Whole step = None

-- a delayed write where no bridge claims: it lands, or is aborted
abbrev pub writes : Seen → Bool → Shown → Step → Option Shown
writes seen asked (Dwords k) Land = provided (asked && k == 0 && (if is_aborted seen.ending then false else true)) Whole
writes seen asked (Dwords k) Aborts = provided (asked && k == 0 && is_aborted seen.ending) Whole
writes seen asked (Dwords k) other = None
writes seen asked (Latched o) step = None
writes seen asked Whole step = None

-- the next data phases of a posted write
abbrev pub next_piece : Seen → List Phase → Request → ℕ → Option Shown
next_piece seen words request k =
    provided (asks_at seen k request && stand_in_front request.phases (drop k words)) (Dwords (k + length request.phases))

-- one word, 0
abbrev pub zero_word : List Phase
zero_word = record { value = 0; enables = 15 } ∷ []

-- data phases of which nothing was taken: no line shows those of a master, which are told as one word, 0
abbrev pub are_lost : Who → List Phase → Bool
are_lost (Master own) phases = pointwise same_phase phases zero_word
are_lost (Lane own) phases = nat_lt 0 (length phases)

-- those of a master are one operation; a bridge may have several
abbrev pub behind_lost : Who → ℕ → Shown
behind_lost (Master own) k = Whole
behind_lost (Lane own) k = Dwords k

-- an operation of which nothing was taken
abbrev pub next_lost : Seen → Request → ℕ → Option Shown
next_lost seen request k =
    provided (asks_at seen k request && are_lost seen.who request.phases)
    (behind_lost seen.who (k + length request.phases))

-- a posted write: a bridge accepts each piece, anybody else takes it; then what is left is aborted
abbrev pub posts : Seen → List Phase → Bool → Request → Shown → Step → Option Shown
posts seen words lane request (Dwords k) Accept = if lane then next_piece seen words request k else None
posts seen words lane request (Dwords k) Land = if lane then None else next_piece seen words request k
posts seen words lane request (Dwords k) Aborts =
    if is_aborted seen.ending && nat_le (length words) k then next_lost seen request k else None
posts seen words lane request (Dwords k) other = None
posts seen words lane request (Latched o) step = None
posts seen words lane request Whole step = None

-- a delayed request that nobody claimed
abbrev pub unclaimed : Bool → Shown → Step → Option Shown
unclaimed asked (Dwords k) MasterAbort = provided (asked && k == 0) Whole
unclaimed asked (Dwords k) other = None
unclaimed asked (Latched o) step = None
unclaimed asked Whole step = None

-- a posted write that nobody claimed: operation by operation
abbrev pub unclaimed_posts : Seen → Request → Shown → Step → Option Shown
unclaimed_posts seen request (Dwords k) MasterAbort = next_lost seen request k
unclaimed_posts seen request (Dwords k) other = None
unclaimed_posts seen request (Latched o) step = None
unclaimed_posts seen request Whole step = None

-- what is shown of a line of this row behind one act more, of this operation with this request
abbrev pub goes_on : Row → Bool → Seen → List Phase → OpId → Request → Shown → Step → Option Shown
goes_on Silent lane seen words o request shown step = None
goes_on Latches lane seen words o request shown step = latches (asks seen words request) shown step
goes_on Takes lane seen words o request shown step = takes seen words o (asks seen words request) shown step
goes_on Reads lane seen words o request shown step = reads seen words request shown step
goes_on ReadsFirst lane seen words o request shown step = reads_first seen words (asks seen words request) shown step
goes_on Writes lane seen words o request shown step = writes seen (asks seen words request) shown step
goes_on Posts lane seen words o request shown step = posts seen words lane request shown step
goes_on Unclaimed lane seen words o request shown step = unclaimed (asks seen words request) shown step
goes_on UnclaimedPosts lane seen words o request shown step = unclaimed_posts seen request shown step

-- When all is shown.

-- nothing is shown yet
abbrev pub is_start : Shown → Bool
is_start (Dwords k) = k == 0
is_start (Latched o) = false
is_start Whole = false

-- all is shown
abbrev pub is_whole : Shown → Bool
is_whole (Dwords k) = false
is_whole (Latched o) = false
is_whole Whole = true

-- so many dwords, and one at least
abbrev pub has_dwords : ℕ → Shown → Bool
has_dwords most (Dwords k) = nat_lt 0 k && nat_le most k
has_dwords most (Latched o) = false
has_dwords most Whole = false

-- so many dwords, and one at least; of a master that lost the rest, that too
abbrev pub is_over_posted : Who → Bool → ℕ → Shown → Bool
is_over_posted (Master own) true most shown = is_whole shown
is_over_posted (Master own) false most shown = has_dwords most shown
is_over_posted (Lane own) lost most shown = has_dwords most shown

-- the acts of a line of this row have shown all of it
abbrev pub is_over : Row → Seen → List Phase → Shown → Bool
is_over Silent seen words shown = is_start shown
is_over Latches seen words shown = if is_start shown then true else is_whole shown
is_over Takes seen words shown = is_whole shown
is_over Reads seen words shown = if is_aborted seen.ending then is_whole shown else has_dwords (length words) shown
is_over ReadsFirst seen words shown = is_whole shown
is_over Writes seen words shown = is_whole shown
is_over Posts seen words shown = is_over_posted seen.who (is_aborted seen.ending) (length words) shown
is_over Unclaimed seen words shown = is_whole shown
is_over UnclaimedPosts seen words shown = is_over_posted seen.who true 0 shown

-- An act of a line.

-- the initiator of a line presents the operation: the master of the log or a further thread of it, or the lane
abbrev pub IsInitiator : Board → Board → Who → By → OpId → Type 0
IsInitiator seen board (Master own) ByMaster o = is_master seen board own o.master ≡ true
IsInitiator seen board (Master own) (ByLane lane) o = ⊥
IsInitiator seen board (Lane own) ByMaster o = ⊥
IsInitiator seen board (Lane own) (ByLane lane) o = lane ≡ own

-- who claims: nobody a MasterAbort, and else the claimant of the line
abbrev pub place_by : Place → Step → Place
place_by claimant Land = claimant
place_by claimant (Part phases) = claimant
place_by claimant (Read value) = claimant
place_by claimant Accept = claimant
place_by claimant Latch = claimant
place_by claimant (Take outcome) = claimant
place_by claimant Stall = claimant
place_by claimant MasterAbort = AtNobody
place_by claimant Aborts = claimant

-- an act of the line on its bus, by its initiator, at its claimant, of an operation that asks what the line asks; before it
-- the acts of the line had shown this of it, and with it they show that
pub record IsActOf (log : Log) (board : Board) (seen : Seen) (before : Shown) (on : ℕ) (by : By) (o : OpId) (step : Step) (place : Place) (shown : Shown) : Type 0 where
  pub bus : on ≡ seen.bus
  pub initiator : IsInitiator log.board board seen.who by o
  pub claimed : place ≡ place_by (claimant log.board seen) step
  pub request : Request
  pub drives : request_of board o on ≡ Some request
  pub shows : goes_on (row_of log seen) (is_lane (claimant log.board seen)) seen (phases_of_line log seen) o request before step ≡ Some shown

-- the same of an event; an arrival is no act
abbrev pub IsOf : Log → Board → Seen → Shown → Event → Shown → Type 0
IsOf log board seen before (Act on by o step place) shown = IsActOf log board seen before on by o step place shown
IsOf log board seen before (Arrive lane mark) shown = ⊥

-- one act behind the other
abbrev pub Follows : Log → Board → Seen → Shown → List Event → Shown → Type 0
Follows log board seen before [] shown = before ≡ shown
Follows log board seen before (e ∷ events) shown =
    (between : Shown) × IsOf log board seen before e between × Follows log board seen between events shown

-- these are the acts of the line, all of them and in their order
pub record AreActsOf (log : Log) (board : Board) (seen : Seen) (acts : List Event) : Type 0 where
  pub shown : Shown
  pub follows : Follows log board seen (Dwords 0) acts shown
  pub over : is_over (row_of log seen) seen (phases_of_line log seen) shown ≡ true
