-- What is noted down of origins is what the history made of them.
use Rattle.std.proofs.Common.{◌≡◌, ℕ, ◌+◌, Bool, true, false, ◌&&◌, ◌==◌, List, ◌∷◌, length, Option, Some, None, refl, sym, subst, if◌then◌else◌}
use Rattle.std.specs.List.{find}
use Rattle.std.specs.Option.{option_map}
use Rattle.pci_command.specs.declared.op_id.OpId.{OpId}
use Rattle.pci_command.specs.declared.op_id.Outcome.{Outcome}
use Rattle.pci_command.specs.declared.request.Request.{Request}
use Rattle.pci_command.specs.Command.{space_of}
use Rattle.board_model.specs.declared.board.Board.{Board}
use Rattle.board_model.specs.declared.bridge.Lane.{Lane as BridgeLane}
use Rattle.board_model.specs.declared.bridge.Place.{Place}
use Rattle.board_model.specs.declared.bridge.Place.TheVariants.{Target, Header, Lane, Nobody}
use Rattle.board_model.specs.Requests.{reads, request_of}
use Rattle.board_model.specs.Ways.{address_in}
use Rattle.history_model.specs.declared.event.By.TheVariants.{Master, Lane as ByLane}
use Rattle.history_model.specs.declared.event.Step.{Step}
use Rattle.history_model.specs.declared.event.Step.TheVariants.{Land, Part, Read, Accept, Latch, Take, Stall, MasterAbort, TargetAbort}
use Rattle.history_model.specs.declared.event.Event.{Event}
use Rattle.history_model.specs.declared.event.Event.TheVariants.{Act, Arrive}
use Rattle.history_model.specs.declared.item.Carried.{Carried}
use Rattle.history_model.specs.declared.item.Carried.TheVariants.{Post, Ask, Done, Room, Gone}
use Rattle.history_model.specs.declared.item.Slot.{Slot}
use Rattle.history_model.specs.declared.rule.Rule.TheVariants.{Untagged}
use Rattle.history_model.specs.Lanes.{is_of}
use Rattle.history_model.specs.World.{World, anyone, is_own, same_lane, lane_outcome, world_by}
use Rattle.history_model.specs.Moves.{slot_at, item_moved, moved_by}
use Rattle.history_model.specs.Knowledge.{Reading, reading_of, reading_or}
use Rattle.law_untagged.specs.Origins.{origin_in, source_of, asks_for, ends_item, origins_of, ending_reading}
use Rattle.untagged_run.specs.declared.got.Got.{Got}
use Rattle.untagged_run.specs.declared.made.EventMade.{EventMade}
use Rattle.untagged_run.specs.declared.origins.Key.{Key}
use Rattle.untagged_run.specs.Table.{Table, SameGot, KeepsOrigins, origin_at, key_of}
use Rattle.untagged_run.specs.Gots.{slot_origin, source_now, asked_slot, made_now}
use Rattle.untagged_run.specs.Course.{NotedAt, Noted}

-- the slot whose delayed request ends is that of what is found
asked_ends : (lane : BridgeLane) (o : OpId) (outcome : Option Outcome) (standing : List Carried)
    → asked_slot lane (item_moved o outcome standing) ≡ (if ends_item outcome then asked_slot lane (find (is_of o) standing) else None)
asked_ends lane o None standing = refl
asked_ends lane o (Some outcome) standing = refl

module _ (board : Board) (h : List Event) (table : Table) (event : ℕ) (keeps : KeepsOrigins board h table) (number : event ≡ length h + 1) where
  abbrev world : World
  world = world_by Untagged board h

  -- where an act has its value from
  source_same : (on : ℕ) (o : OpId) (step : Step) (place : Place)
      → SameGot (source_now board table event on o step place (slot_at board on anyone o step place world)) (source_of board h world (origins_of board h) on o step place)
  source_same on o Land place = tt
  source_same on o (Part phases) place = tt
  source_same on o (Read value) (Target target) =
      let got : Request → Got = λ request. record { event = event; word = record { target = target; space = space_of request.command; address = address_in (space_of request.command) request.address } } in
      let P : Option Request → Type 0 = λ found. SameGot (option_map got found) (reading_or (reading_of target value h found) None) in
      elim (request_of board o on) as P [ None ↦ tt | Some request ↦ record { word = refl; event = number } ]
  source_same on o (Read value) (Header bus) = tt
  source_same on o (Read value) (Lane lane) = tt
  source_same on o (Read value) Nobody = tt
  source_same on o Accept place = tt
  source_same on o Latch place = tt
  source_same on o (Take outcome) (Target target) = tt
  source_same on o (Take outcome) (Header bus) = tt
  source_same on o (Take outcome) (Lane lane) =
      let Q : Option Slot → Type 0 = λ found. SameGot (slot_origin table lane (option_map (λ (slot : Slot). slot.number) found)) (origin_in (origins_of board h) lane found) in
      elim (find (is_own board on anyone o) (world lane).held) as Q [ None ↦ tt | Some slot ↦ keeps lane slot.number ]
  source_same on o (Take outcome) Nobody = tt
  source_same on o Stall place = tt
  source_same on o MasterAbort place = tt
  source_same on o TargetAbort place = tt

  -- what the event makes, by what it finds
  abbrev makes : Event → EventMade
  makes e = made_now board table event e (moved_by Untagged board world e)

  -- what a read got that the event ends
  pub given_same : (e : Event) → SameGot (makes e).given (ending_reading board h e)
  given_same (Act on Master o step place) =
      let source : Option Got = source_now board table event on o step place (slot_at board on anyone o step place world) in
      let reading : Option Reading = source_of board h world (origins_of board h) on o step place in
      let P : Bool → Type 0 = λ b. SameGot (if b then source else None) (if b then reading else None) in
      elim (reads board o) as P [ true ↦ source_same on o step place | false ↦ tt ]
  given_same (Act on (ByLane lane) o step place) = tt
  given_same (Arrive lane mark) = tt

  -- nothing is noted down of another slot
  same_origins : (new : Table) → new ≡ table → KeepsOrigins board h new
  same_origins new is = subst (KeepsOrigins board h) (sym is) keeps

  unless_false : (lane : BridgeLane) (number : ℕ) (new : Table) (test : Bool) (reading : Option Reading) → test ≡ false → new ≡ table
      → SameGot (origin_at new (key_of lane number)) (if test then reading else origins_of board h lane number)
  unless_false lane number new test reading none is =
      let P : Bool → Type 0 = λ b. SameGot (origin_at new (key_of lane number)) (if b then reading else origins_of board h lane number) in
      subst P (sym none) (same_origins new is lane number)

  and_false : (a b : Bool) → b ≡ false → (a && b) ≡ false
  and_false true b is = is
  and_false false b is = refl

  noted_same : (from lane : BridgeLane) (number : ℕ) (ends : Bool) (found : Option Carried) (source : Option Got) (reading : Option Reading) (new : Table) → SameGot source reading
      → NotedAt (if ends then asked_slot from found else None) source table new
      → SameGot (origin_at new (key_of lane number)) (if same_lane from lane && (ends && asks_for number found) then reading else origins_of board h lane number)
  noted_same from lane number false found source reading new same noted =
      unless_false lane number new (same_lane from lane && false) reading (and_false (same_lane from lane) false refl) noted
  noted_same from lane number true None source reading new same noted =
      unless_false lane number new (same_lane from lane && false) reading (and_false (same_lane from lane) false refl) noted
  noted_same from lane number true (Some (Post op)) source reading new same noted =
      unless_false lane number new (same_lane from lane && false) reading (and_false (same_lane from lane) false refl) noted
  noted_same from lane number true (Some (Ask op slot)) source reading new same noted =
      let test : Bool = same_lane from lane && slot == number in
      let P : Bool → Type 0 = λ b. SameGot (if b then source else origin_at table (key_of lane number)) (if b then reading else origins_of board h lane number) in
      let here : P test = elim test as P [ true ↦ same | false ↦ keeps lane number ] in
      subst (λ (got : Option Got). SameGot got (if test then reading else origins_of board h lane number)) (sym (noted (key_of lane number))) here
  noted_same from lane number true (Some (Done op slot outcome)) source reading new same noted =
      unless_false lane number new (same_lane from lane && false) reading (and_false (same_lane from lane) false refl) noted
  noted_same from lane number true (Some Room) source reading new same noted =
      unless_false lane number new (same_lane from lane && false) reading (and_false (same_lane from lane) false refl) noted
  noted_same from lane number true (Some (Gone slot)) source reading new same noted =
      unless_false lane number new (same_lane from lane && false) reading (and_false (same_lane from lane) false refl) noted

  -- after an event its origin is noted down too
  pub origins_went : (e : Event) (new : Table) → Noted (makes e) table new → KeepsOrigins board (e ∷ h) new
  origins_went (Act on Master o step place) new noted = same_origins new noted
  origins_went (Act on (ByLane from) o step place) new noted = λ lane number.
      let outcome : Option Outcome = lane_outcome board from o step in
      let standing : List Carried = (world from).standing in
      let source : Option Got = source_now board table event on o step place (slot_at board on anyone o step place world) in
      noted_same from lane number (ends_item outcome) (find (is_of o) standing) source (source_of board h world (origins_of board h) on o step place) new
      (source_same on o step place) (subst (λ (slot : Option Key). NotedAt slot source table new) (asked_ends from o outcome standing) noted)
  origins_went (Arrive lane mark) new noted = same_origins new noted
