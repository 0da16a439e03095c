-- An operation that is presented is one of the board's.
use Rattle.std.proofs.Common.{◌≡◌, ℕ, ◌==◌, Bool, true, false, List, Option, Some, None, is_some, refl, sym, ap, subst, slice_get}
use Rattle.std.specs.List.{find}
use Rattle.std.proofs.lemmas.Bool.{and_parts}
use Rattle.list_facts.specs.Lists.{before}
use Rattle.list_facts.proofs.EachLemmas.{Each-find}
use Rattle.list_facts.proofs.FindLemmas.{find_passes}
use Rattle.pci_command.specs.declared.op_id.OpId.{OpId}
use Rattle.pci_command.specs.Same.{same_op}
use Rattle.board_model.specs.declared.board.Board.{Board}
use Rattle.board_model.specs.Requests.{op_of}
use Rattle.board_model.specs.Ways.{end_of}
use Rattle.history_model.specs.declared.event.By.{By}
use Rattle.history_model.specs.declared.event.By.TheVariants.{Master, Lane as ByLane}
use Rattle.history_model.specs.declared.event.Event.{Event}
use Rattle.history_model.specs.declared.item.Carried.{Carried}
use Rattle.history_model.specs.declared.item.Carried.TheVariants.{Post, Ask, Done, Room, Gone}
use Rattle.history_model.specs.Lanes.{is_of}
use Rattle.history_model.specs.World.{world_of}
use Rattle.history_model.specs.Program.{turn_of}
use Rattle.history_model.specs.Answers.{is_on, is_turn, presents_item, presents, wants}
use Rattle.history_model.specs.Runs.{Run}
use Rattle.law_lanes.specs.Kinds.{NamesOp, RightKind}
use Rattle.history_model.proofs.facts.RequestLemmas.{same_op_true}
use Rattle.law_lanes.proofs.KindLemmas.{RightKind-run}
use Rattle.history_model.proofs.facts.TurnLemmas.{turn_is_there}

-- an operation that an item names is there
named_there : (board : Board) (o other : OpId) (posted : Bool) → same_op o other ≡ true → NamesOp board posted other → is_some (op_of board o) ≡ true
named_there board o other posted same named = subst (λ (p : OpId). is_some (op_of board p) ≡ true) (sym (same_op_true o other same)) (ap is_some named.is_op)

-- the operation that a lane presents is there
item_there : (board : Board) (on : ℕ) (o : OpId) (older : List Carried) (item : Option Carried)
    → ((found : Carried) → item ≡ Some found → (is_of o found ≡ true) × RightKind board found) → presents_item board on older item ≡ true → is_some (op_of board o) ≡ true
item_there board on o older None known presented = cc
item_there board on o older (Some (Post op)) known presented = let k = known (Post op) refl in named_there board o op true k.0 k.1
item_there board on o older (Some (Ask op slot)) known presented = let k = known (Ask op slot) refl in named_there board o op false k.0 k.1
item_there board on o older (Some (Done op slot outcome)) known presented = let k = known (Done op slot outcome) refl in let fails = k.0 in cc
item_there board on o older (Some Room) known presented = let k = known Room refl in let fails = k.0 in cc
item_there board on o older (Some (Gone slot)) known presented = let k = known (Gone slot) refl in let fails = k.0 in cc

-- an operation that an initiator presents is one of the board's
pub op_there : (board : Board) (h : List Event) (on : ℕ) (by : By) (o : OpId) → Run board h → wants board h on by o ≡ true → is_some (op_of board o) ≡ true
op_there board h on Master o run wanted =
    turn_is_there board h o (and_parts (is_on on (slice_get board.masters o.master)) (is_turn o (turn_of board h o.master)) wanted).1
op_there board h on (ByLane lane) o run wanted =
    let standing : List Carried = (world_of board h lane).standing in
    let K : Carried → Type 0 = RightKind board in
    item_there board on o (before (is_of o) standing) (find (is_of o) standing)
    (λ found some. (find_passes (is_of o) standing found some, Each-find K (is_of o) standing found (RightKind-run board h lane run).1 some))
    (and_parts (end_of board lane == on) (presents board on o standing) wanted).1
