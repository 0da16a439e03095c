-- The items of slots in every run.
use Rattle.std.proofs.Common.{List, refl, arith}
use Rattle.board_model.specs.declared.bridge.Lane.{Lane as BridgeLane}
use Rattle.board_model.specs.declared.board.Board.{Board}
use Rattle.history_model.specs.declared.event.Event.{Event}
use Rattle.history_model.specs.declared.rule.Rule.{Rule}
use Rattle.history_model.specs.declared.rule.Rule.TheVariants.{Tagged}
use Rattle.history_model.specs.World.{noted, both, world_by, world_of}
use Rattle.history_model.specs.Runs.{RunBy, Run}
use Rattle.law_lanes.specs.Slots.{Slots}
use Rattle.history_model.proofs.facts.KeptLemmas.{KeptBy, runs_keep_by}
use Rattle.law_lanes.proofs.SlotsEnterLemmas.{Slots-post_enters, Slots-post_enters_back, Slots-ask_enters, Slots-ask_enters_back}
use Rattle.law_lanes.proofs.SlotsEndLemmas.{Slots-item_ends, Slots-item_ends_back}
use Rattle.law_lanes.proofs.SlotsTakenLemmas.{Slots-slot_taken, Slots-slot_taken_back}
use Rattle.law_lanes.proofs.SlotsArriveLemmas.{Slots-arrives, Slots-arrives_back}

pub Slots-kept : (rule : Rule) (board : Board) → KeptBy rule board (λ lane x. Slots x)
Slots-kept rule board =
    record {
      empty = λ lane. record { one_place = λ weight. refl; once = λ number. omega arith; asks_flying = tt; asks_standing = tt; dones_flying = tt; dones_standing = tt };
      accepts = λ h on by o lane _ _ _ old. let x = both (world_by rule board h) lane in (Slots-post_enters o x old.0, Slots-post_enters_back o x old.1);
      latches = λ h on by o lane _ _ _ old. let x = both (world_by rule board h) lane in (Slots-ask_enters (noted rule by) o x old.0, Slots-ask_enters_back (noted rule by) o x old.1);
      takes = λ lane number op slot outcome x stands old. (Slots-slot_taken number op slot outcome x stands old.0, Slots-slot_taken_back number x old.1);
      ends = λ lane o outcome x old. (Slots-item_ends o outcome x old.0, Slots-item_ends_back o outcome x old.1);
      comes = λ lane mark x old. (Slots-arrives mark x old.0, Slots-arrives_back mark x old.1);
    }

pub Slots-run_by : (rule : Rule) (board : Board) (h : List Event) (lane : BridgeLane) → RunBy rule board h → Slots (both (world_by rule board h) lane)
Slots-run_by rule board h lane run = runs_keep_by rule board (λ lane x. Slots x) (Slots-kept rule board) h run lane

pub Slots-run : (board : Board) (h : List Event) (lane : BridgeLane) → Run board h → Slots (both (world_of board h) lane)
Slots-run board h lane run = Slots-run_by Tagged board h lane run
