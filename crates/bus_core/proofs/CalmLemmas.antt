-- An answer that is at no target: the targets and what went through in parts stay as they were.
use Rattle.std.proofs.Common.{◌≡◌, ℕ, ◌<◌, Bool, true, false, cond, List, ◌∷◌, length, None, ◌⊎◌, refl, sym, ap, subst, ◌∙◌, arith}
use Rattle.std.proofs.lemmas.List.{append-nil}
use Rattle.pci_command.specs.declared.op_id.OpId.{OpId}
use Rattle.pci_command.specs.Command.{is_read}
use Rattle.pci_command.specs.Same.{same_op}
use Rattle.board_model.specs.declared.bridge.Place.{Place}
use Rattle.board_model.specs.declared.bridge.Place.TheVariants.{Target, Header, Lane, Nobody}
use Rattle.board_model.specs.declared.board.Board.{Board}
use Rattle.board_model.specs.Ways.{lane_back}
use Rattle.history_model.specs.declared.event.By.{By}
use Rattle.history_model.specs.declared.event.Step.{Step}
use Rattle.history_model.specs.declared.event.Event.{Event}
use Rattle.history_model.specs.declared.event.Event.TheVariants.{Act}
use Rattle.history_model.specs.declared.item.Answer.{Answer}
use Rattle.history_model.specs.declared.item.Answer.TheVariants.{Gives, Retry}
use Rattle.history_model.specs.World.{World}
use Rattle.history_model.specs.Words.{phases_parted, parted_by, through}
use Rattle.history_model.specs.Answers.{answer_in}
use Rattle.bus_agents.specs.Through.{ThroughStands}
use Rattle.bus_agents.proofs.ThroughLemmas.{through_stays}
use Rattle.bus_targets.specs.State.{TargetView}
use Rattle.bus_targets.specs.Stands.{TargetStands}
use Rattle.bus_targets.proofs.EventLemmas.{stands_elsewhere}
use Rattle.bus_core.specs.port.Port.{PortStands}
use Rattle.bus_core.specs.port.Calls.{after_answer}
use Rattle.bus_core.specs.Bus.{BusView, PartsAreOfWrites, BusStands}
use Rattle.bus_core.specs.Calls.{past_after, Answered}

-- no target answers, and nothing goes through
abbrev pub IsCalm : Answer → Type 0
IsCalm (Gives step (Target t)) = ⊥
IsCalm (Gives step (Header n)) = phases_parted step ≡ 0
IsCalm (Gives step (Lane lane)) = phases_parted step ≡ 0
IsCalm (Gives step Nobody) = phases_parted step ≡ 0
IsCalm (Retry cause) = Unit {0}

pub none_parted : (bus : ℕ) (by : By) (o q : OpId) (step : Step) (place : Place) → phases_parted step ≡ 0 → parted_by q (Act bus by o step place) ≡ 0
none_parted bus by o q step place none =
    let P : Bool → Type 0 = λ b. cond b (phases_parted step) 0 ≡ 0 in
    elim (same_op o q) as P [ true ↦ none | false ↦ refl ]

pub calm_target : (board : Board) (bus : ℕ) (by : By) (o : OpId) (answer : Answer) (p : List Event) (t : TargetView) → IsCalm answer → TargetStands board p t → TargetStands board (past_after bus by o answer p) t
calm_target board bus by o (Gives step (Target n)) p t calm stands = absurd calm
calm_target board bus by o (Gives step (Header n)) p t calm stands = stands_elsewhere board p t (Act bus by o step (Header n)) tt stands
calm_target board bus by o (Gives step (Lane lane)) p t calm stands = stands_elsewhere board p t (Act bus by o step (Lane lane)) tt stands
calm_target board bus by o (Gives step Nobody) p t calm stands = stands_elsewhere board p t (Act bus by o step Nobody) tt stands
calm_target board bus by o (Retry cause) p t calm stands = stands

pub calm_through : (board : Board) (bus : ℕ) (by : By) (o : OpId) (answer : Answer) (p : List Event) (gone : List (List ℕ)) → IsCalm answer → ThroughStands board p gone → ThroughStands board (past_after bus by o answer p) gone
calm_through board bus by o (Gives step (Target n)) p gone calm stands = absurd calm
calm_through board bus by o (Gives step (Header n)) p gone calm stands = through_stays board p gone (Act bus by o step (Header n)) (λ q. none_parted bus by o q step (Header n) calm) stands
calm_through board bus by o (Gives step (Lane lane)) p gone calm stands = through_stays board p gone (Act bus by o step (Lane lane)) (λ q. none_parted bus by o q step (Lane lane) calm) stands
calm_through board bus by o (Gives step Nobody) p gone calm stands = through_stays board p gone (Act bus by o step Nobody) (λ q. none_parted bus by o q step Nobody calm) stands
calm_through board bus by o (Retry cause) p gone calm stands = stands

pub parts_stay : (board : Board) (bus : ℕ) (p : List Event) (e : Event) → ((q : OpId) → parted_by q e ≡ 0) → PartsAreOfWrites board bus p → PartsAreOfWrites board bus (e ∷ p)
parts_stay board bus p e none old q request is =
    let same : through p q ≡ through (e ∷ p) q = let n = none q in omega arith in
    subst (λ n. (n ≡ 0) ⊎ ((is_read request.command ≡ false) × (n < length request.phases))) same (old q request is)

pub calm_parts : (board : Board) (bus : ℕ) (by : By) (o : OpId) (answer : Answer) (p : List Event) → IsCalm answer → PartsAreOfWrites board bus p → PartsAreOfWrites board bus (past_after bus by o answer p)
calm_parts board bus by o (Gives step (Target n)) p calm old = absurd calm
calm_parts board bus by o (Gives step (Header n)) p calm old = parts_stay board bus p (Act bus by o step (Header n)) (λ q. none_parted bus by o q step (Header n) calm) old
calm_parts board bus by o (Gives step (Lane lane)) p calm old = parts_stay board bus p (Act bus by o step (Lane lane)) (λ q. none_parted bus by o q step (Lane lane) calm) old
calm_parts board bus by o (Gives step Nobody) p calm old = parts_stay board bus p (Act bus by o step Nobody) (λ q. none_parted bus by o q step Nobody calm) old
calm_parts board bus by o (Retry cause) p calm old = old

-- an answer that moves nothing on the lanes, and nothing on the bus
pub unmoved : (board : Board) (tags : By → OpId → ℕ) (world : World) (p : List Event) (by : By) (o : OpId) (s : BusView) (answer : Answer) → IsCalm answer → world ≡ after_answer board s.bus by o answer world
    → answer_in board world p s.bus by o ≡ answer → BusStands board tags world p s → Answered board tags world p by o s answer None s
unmoved board tags world p by o s answer calm same is stands =
    record {
      answer_is = is;
      stands = record {
        is_of = stands.is_of;
        lines = stands.lines;
        ports = λ n port there. subst (λ (w : World). PortStands board s.bus tags port w) same (stands.ports n port there);
        masters = stands.masters;
        targets = λ n t there. calm_target board s.bus by o answer p t calm (stands.targets n t there);
        through = calm_through board s.bus by o answer p s.through calm stands.through;
        parts = calm_parts board s.bus by o answer p calm stands.parts;
      };
      flights = record {
        to_bus = λ n lane there. ap (λ (w : World). (w lane).flight) (sym same);
        from_bus = λ n lane there. ap (λ (w : World). (w (lane_back lane)).flight) (sym same) ∙ sym (append-nil (world (lane_back lane)).flight);
      };
    }
