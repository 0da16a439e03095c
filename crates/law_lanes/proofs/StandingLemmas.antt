-- What stands on a lane in every run.
use Rattle.std.proofs.Common.{List, [], ◌∷◌}
use Rattle.std.specs.List.{AllByRecursion}
use Rattle.list_facts.proofs.EachLemmas.{Each-push, Each-less}
use Rattle.history_model.specs.declared.event.Mark.{Mark}
use Rattle.history_model.specs.declared.item.Carried.{Carried}
use Rattle.board_model.specs.declared.bridge.Lane.{Lane as BridgeLane}
use Rattle.board_model.specs.declared.board.Board.{Board}
use Rattle.history_model.specs.declared.event.Event.{Event}
use Rattle.history_model.specs.declared.rule.Rule.{Rule}
use Rattle.history_model.specs.declared.rule.Rule.TheVariants.{Tagged}
use Rattle.history_model.specs.World.{world_of, world_by}
use Rattle.history_model.specs.Runs.{RunBy, Run}
use Rattle.history_model.specs.Lanes.{Both, is_of, is_done_for, Effect, Stands, Credits, Frees, Drops, effect_of, takes_effect, came_off, arrives_first}
use Rattle.law_lanes.specs.Standing.{CanStand}
use Rattle.law_lanes.proofs.EffectLemmas.{Fits, effect_fits}
use Rattle.history_model.proofs.facts.KeptLemmas.{Pair, KeptBy, runs_keep_by}

abbrev AllStand : BridgeLane → Both → Type 0
AllStand lane x = AllByRecursion CanStand x.here.standing

effect-keeps : (effect : Effect) (item : Carried) (lane : BridgeLane) (x : Both) → Fits effect item → Pair AllStand lane x → Pair AllStand lane (takes_effect effect item x)
effect-keeps Stands item lane x fits old = (Each-push CanStand x.here.standing item old.0 fits, old.1)
effect-keeps Credits item lane x fits old = old
effect-keeps (Frees slot) item lane x fits old = old
effect-keeps (Drops slot) item lane x fits old = old

arrives_first-keeps : (mark : Mark) (flight : List Carried) (lane : BridgeLane) (x : Both) → Pair AllStand lane x → Pair AllStand lane (arrives_first mark flight x)
arrives_first-keeps mark [] lane x old = old
arrives_first-keeps mark (item ∷ rest) lane x old = effect-keeps (effect_of mark item) item lane (record x { here = came_off item rest x.here }) (effect_fits mark item) old

AllStand-kept : (rule : Rule) (board : Board) → KeptBy rule board AllStand
AllStand-kept rule board =
    record {
      empty = λ lane. tt;
      accepts = λ h on by o lane _ _ _ old. old;
      latches = λ h on by o lane _ _ _ old. old;
      takes = λ lane number op slot outcome x _ old. (old.0, Each-less CanStand (is_done_for number) x.back.standing old.1);
      ends = λ lane o outcome x old. (Each-less CanStand (is_of o) x.here.standing old.0, old.1);
      comes = λ lane mark x old. arrives_first-keeps mark x.here.flight lane x old;
    }

pub CanStand-run_by : (rule : Rule) (board : Board) (h : List Event) (lane : BridgeLane) → RunBy rule board h → AllByRecursion CanStand (world_by rule board h lane).standing
CanStand-run_by rule board h lane run = runs_keep_by rule board AllStand (AllStand-kept rule board) h run lane

pub CanStand-run : (board : Board) (h : List Event) (lane : BridgeLane) → Run board h → AllByRecursion CanStand (world_of board h lane).standing
CanStand-run board h lane run = CanStand-run_by Tagged board h lane run
