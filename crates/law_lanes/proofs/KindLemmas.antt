-- What the items of a lane carry, in every run.
use Rattle.std.proofs.Common.{◌≡◌, ℕ, Bool, true, false, List, [], ◌∷◌, Option, Some, None, refl, sym, ap, subst, ◌∙◌}
use Rattle.std.specs.List.{find, AllByRecursion}
use Rattle.list_facts.proofs.EachLemmas.{Each-push, Each-append, Each-less, Each-find}
use Rattle.pci_command.specs.declared.op_id.OpId.{OpId}
use Rattle.pci_command.specs.declared.op_id.Outcome.{Outcome}
use Rattle.history_model.specs.declared.event.By.{By}
use Rattle.history_model.specs.declared.event.Mark.{Mark}
use Rattle.history_model.specs.declared.item.Carried.{Carried}
use Rattle.history_model.specs.declared.item.Carried.TheVariants.{Post, Ask, Done, Room, Gone}
use Rattle.pci_command.specs.declared.request.Request.{Request}
use Rattle.board_model.specs.declared.bridge.Lane.{Lane as BridgeLane}
use Rattle.board_model.specs.declared.board.Board.{Board}
use Rattle.board_model.specs.Requests.{request_of, is_posted}
use Rattle.history_model.specs.declared.event.Step.TheVariants.{Accept, Latch}
use Rattle.history_model.specs.declared.event.Event.{Event}
use Rattle.history_model.specs.World.{both, world_of}
use Rattle.history_model.specs.Runs.{Run}
use Rattle.history_model.specs.Lanes.{Both, lowest_free, is_of, is_done_for, reply_to, post_enters, ask_enters, item_ends, Effect, Stands, Credits, Frees, Drops, effect_of, takes_effect, came_off, arrives_first}
use Rattle.law_lanes.specs.Kinds.{NamesOp, RightKind}
use Rattle.history_model.proofs.facts.AnswerLemmas.{AtLane}
use Rattle.history_model.proofs.facts.RequestLemmas.{request_is_of}
use Rattle.history_model.proofs.facts.KeptLemmas.{Pair, Kept, runs_keep}

abbrev AllRight : Board → BridgeLane → Both → Type 0
AllRight board lane x = AllByRecursion (RightKind board) x.here.flight × AllByRecursion (RightKind board) x.here.standing

named_op : (board : Board) (on : ℕ) (o : OpId) (request : Request) (posted : Bool) → request_of board o on ≡ Some request → is_posted request ≡ posted → NamesOp board posted o
named_op board on o request posted is_request posts =
    let of_op = request_is_of board o on request is_request in
    record { op = of_op.op; is_op = of_op.is_op; is_posted = sym (ap is_posted of_op.is_request) ∙ posts }

accept-keeps : (board : Board) (h : List Event) (on : ℕ) (by : By) (o : OpId) (lane : BridgeLane) (x : Both) → AtLane board h on by o Accept lane → Pair (AllRight board) lane x → Pair (AllRight board) lane (post_enters o x)
accept-keeps board h on by o lane x at old =
    ((Each-push (RightKind board) x.here.flight (Post o) old.0.0 (named_op board on o at.request true at.is_request at.gives.0), old.0.1), old.1)

latch-keeps : (board : Board) (h : List Event) (on : ℕ) (by : By) (o : OpId) (lane : BridgeLane) (x : Both) → AtLane board h on by o Latch lane → Pair (AllRight board) lane x → Pair (AllRight board) lane (ask_enters by o x)
latch-keeps board h on by o lane x at old =
    ((Each-push (RightKind board) x.here.flight (Ask o (lowest_free x.here.held)) old.0.0 (named_op board on o at.request false at.is_request at.gives.0), old.0.1), old.1)

reply-right : (board : Board) (outcome : Outcome) (item : Option Carried) → ((y : Carried) → item ≡ Some y → RightKind board y) → AllByRecursion (RightKind board) (reply_to outcome item)
reply-right board outcome None right = tt
reply-right board outcome (Some (Post op)) right = (tt, tt)
reply-right board outcome (Some (Ask op slot)) right = (right (Ask op slot) refl, tt)
reply-right board outcome (Some (Done op slot given)) right = tt
reply-right board outcome (Some Room) right = tt
reply-right board outcome (Some (Gone slot)) right = tt

end-keeps : (board : Board) (lane : BridgeLane) (o : OpId) (outcome : Outcome) (x : Both) → Pair (AllRight board) lane x → Pair (AllRight board) lane (item_ends o outcome x)
end-keeps board lane o outcome x old =
    let K : Carried → Type 0 = RightKind board in
    let item : Option Carried = find (is_of o) x.here.standing in (
      (old.0.0, Each-less K (is_of o) x.here.standing old.0.1),
      (Each-append K x.back.flight (reply_to outcome item) old.1.0 (reply-right board outcome item (λ y some. Each-find K (is_of o) x.here.standing y old.0.1 some)), old.1.1),
    )

effect-keeps : (board : Board) (effect : Effect) (item : Carried) (lane : BridgeLane) (x : Both) → RightKind board item → Pair (AllRight board) lane x → Pair (AllRight board) lane (takes_effect effect item x)
effect-keeps board Stands item lane x right old = ((old.0.0, Each-push (RightKind board) x.here.standing item old.0.1 right), old.1)
effect-keeps board Credits item lane x right old = old
effect-keeps board (Frees slot) item lane x right old = old
effect-keeps board (Drops slot) item lane x right old = (old.0, (Each-push (RightKind board) x.back.flight (Gone slot) old.1.0 tt, old.1.1))

arrives_first-keeps : (board : Board) (mark : Mark) (flight : List Carried) (lane : BridgeLane) (x : Both) → x.here.flight ≡ flight → Pair (AllRight board) lane x → Pair (AllRight board) lane (arrives_first mark flight x)
arrives_first-keeps board mark [] lane x same old = old
arrives_first-keeps board mark (item ∷ rest) lane x same old =
    let named = subst (AllByRecursion (RightKind board)) same old.0.0 in
    effect-keeps board (effect_of mark item) item lane (record x { here = came_off item rest x.here }) named.0 ((named.1, old.0.1), old.1)

AllRight-kept : (board : Board) → Kept board (AllRight board)
AllRight-kept board =
    record {
      empty = λ lane. (tt, tt);
      accepts = λ h on by o lane _ _ at old. accept-keeps board h on by o lane (both (world_of board h) lane) at old;
      latches = λ h on by o lane _ _ at old. latch-keeps board h on by o lane (both (world_of board h) lane) at old;
      takes = λ lane number op slot outcome x _ old. (old.0, (old.1.0, Each-less (RightKind board) (is_done_for number) x.back.standing old.1.1));
      ends = end-keeps board;
      comes = λ lane mark x old. arrives_first-keeps board mark x.here.flight lane x refl old;
    }

pub RightKind-run : (board : Board) (h : List Event) (lane : BridgeLane) → Run board h → AllByRecursion (RightKind board) (world_of board h lane).flight × AllByRecursion (RightKind board) (world_of board h lane).standing
RightKind-run board h lane run = runs_keep board (AllRight board) (AllRight-kept board) h run lane
