-- The next item that comes to a bus is one that it takes.
use Rattle.std.proofs.Common.{◌≡◌, ℕ, Bool, true, false, List, ◌∷◌, refl, sym, subst, ◌∙◌}
use Rattle.std.specs.List.{AllByRecursion}
use Rattle.pci_command.specs.declared.op_id.OpId.{OpId}
use Rattle.board_model.specs.declared.bridge.Lane.{Lane as BridgeLane}
use Rattle.board_model.specs.declared.board.Board.{Board}
use Rattle.board_model.specs.Requests.{request_on}
use Rattle.board_model.specs.Ways.{end_of}
use Rattle.history_model.specs.declared.event.Event.{Event}
use Rattle.history_model.specs.declared.item.Carried.{Carried}
use Rattle.history_model.specs.declared.item.Carried.TheVariants.{Post, Ask, Done, Room, Gone}
use Rattle.history_model.specs.World.{world_of}
use Rattle.history_model.specs.Local.{is_lawful_on}
use Rattle.law_lanes.specs.Kinds.{NamesOp, RightKind}
use Rattle.law_lanes.proofs.Laws.{Lawful-run, RightKind-run}
use Rattle.law_local.proofs.Laws.{lawful_known}
use Rattle.law_local.specs.phases.Pasts.{RunSoFar}
use Rattle.law_local.specs.phases.Taken.{HasRequest, HasItsKind, NextIsTaken}

-- the operation that is named has its request
request_there : (board : Board) (bus : ℕ) (posted : Bool) (o : OpId) → NamesOp board posted o → HasRequest board bus posted o
request_there board bus posted o named = let is = named.is_op in record { request = request_on named.op bus; is_request = rw is refl; kind = named.is_posted }

kind_there : (board : Board) (bus : ℕ) (item : Carried) → RightKind board item → HasItsKind board bus item
kind_there board bus (Post op) right = request_there board bus true op right
kind_there board bus (Ask op slot) right = request_there board bus false op right
kind_there board bus (Done op slot outcome) right = request_there board bus false op right
kind_there board bus Room right = tt
kind_there board bus (Gone slot) right = tt

pub next_taken : (board : Board) (sent : BridgeLane → List Carried) (h : List Event) → RunSoFar board sent h → NextIsTaken board sent h
next_taken board sent h so_far lane item rest next =
    let flight : (world_of board h lane).flight ≡ item ∷ rest = so_far.all_sent lane ∙ next in
    let run = so_far.joint.run in
    let lawful = subst (AllByRecursion (λ (i : Carried). is_lawful_on board (world_of board h) lane i ≡ true)) flight (Lawful-run board h lane run) in
    let kinds = subst (AllByRecursion (RightKind board)) flight (RightKind-run board h lane run).0 in
    (sym (lawful_known board sent h so_far.joint.joint lane item) ∙ lawful.0, kind_there board (end_of board lane) item kinds.0)
