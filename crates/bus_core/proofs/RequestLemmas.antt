-- Whoever claims what is left of a request.
use Rattle.std.proofs.Common.{◌≡◌, ℕ, ◌+◌, ◌*◌, ◌^◌, ◌<◌, true, List, length, Option, Some, None, ◌⊎◌, inl, inr, refl, sym, ap, subst, ◌∙◌}
use Rattle.pci_command.specs.declared.command.Command.{Command}
use Rattle.pci_command.specs.declared.phases.Phase.{Phase}
use Rattle.pci_command.specs.declared.request.Request.{Request}
use Rattle.pci_command.specs.declared.op_id.OpId.{OpId}
use Rattle.board_model.specs.declared.bridge.Bridge.{Bridge}
use Rattle.board_model.specs.declared.bridge.Place.{Place}
use Rattle.board_model.specs.declared.bridge.Place.TheVariants.{Header, Nobody}
use Rattle.board_model.specs.declared.board.Board.{Board}
use Rattle.board_model.specs.Requests.{request_of}
use Rattle.board_model.specs.Claims.{claim}
use Rattle.board_model.specs.WellFormed.{is_well_formed}
use Rattle.history_model.specs.declared.event.By.{By}
use Rattle.history_model.specs.declared.event.Event.{Event}
use Rattle.history_model.specs.declared.event.Step.TheVariants.{MasterAbort}
use Rattle.history_model.specs.declared.item.Answer.{Answer}
use Rattle.history_model.specs.declared.item.Answer.TheVariants.{Gives}
use Rattle.history_model.specs.World.{World}
use Rattle.history_model.specs.Words.{through, without}
use Rattle.history_model.specs.Answers.{header_answer, bridge_to, answer_by, answer_to, answer_in}
use Rattle.history_model.proofs.facts.RequestLemmas.{request_is_of}
use Rattle.machine_steps.specs.Counts.{or_zero}
use Rattle.bus_agents.specs.Through.{count_in}
use Rattle.bus_core.specs.declared.given.Sent.{Sent}
use Rattle.bus_core.specs.Bus.{BusView, BusStands}
use Rattle.bus_core.specs.Calls.{Answered, BusAnswers, TurnsBack}
use Rattle.bus_core.specs.Parts.{IsRest, PlaceAnswers, PlaceTurns, RequestAnswers, RequestTurns}
use Rattle.bus_core.proofs.FitLemmas.{rest_fits}
use Rattle.bus_core.proofs.CalmLemmas.{unmoved}

-- nobody claims it
pub nobody_claims : (board : Board) (s : BusView) (line : ℕ) (o : OpId) (request rest : Request) → PlaceAnswers board s Nobody line o request rest (Gives MasterAbort Nobody) None s
nobody_claims board s line o request rest =
    record {
      answers = λ tags world p by is_line stands claimed.
          let is : answer_in board world p s.bus by o ≡ Gives MasterAbort Nobody =
          ap (answer_to board world p s.bus by o) claimed.is_request
          ∙ (ap (λ r. answer_by board world p s.bus by o r (claim board s.bus r)) (sym claimed.is_rest)
          ∙ ap (answer_by board world p s.bus by o rest) claimed.claims) in
          unmoved board tags world p by o s (Gives MasterAbort Nobody) refl refl is stands;
    }

-- the header of a bridge does
header_unmoved : (board : Board) (tags : By → OpId → ℕ) (world : World) (p : List Event) (by : By) (o : OpId) (s : BusView) (n : ℕ) (rest : Request) (found : Option Bridge) → answer_in board world p s.bus by o ≡ header_answer n rest found → BusStands board tags world p s
    → Answered board tags world p by o s (header_answer n rest found) None s
header_unmoved board tags world p by o s n rest None is stands = unmoved board tags world p by o s (header_answer n rest None) refl refl is stands
header_unmoved board tags world p by o s n rest (Some bridge) is stands = unmoved board tags world p by o s (header_answer n rest (Some bridge)) refl refl is stands

pub header_claims : (board : Board) (s : BusView) (n line : ℕ) (o : OpId) (request rest : Request) → PlaceAnswers board s (Header n) line o request rest (header_answer n rest (bridge_to board n)) None s
header_claims board s n line o request rest =
    record {
      answers = λ tags world p by is_line stands claimed.
          let is : answer_in board world p s.bus by o ≡ header_answer n rest (bridge_to board n) =
          ap (answer_to board world p s.bus by o) claimed.is_request
          ∙ (ap (λ r. answer_by board world p s.bus by o r (claim board s.bus r)) (sym claimed.is_rest)
          ∙ ap (answer_by board world p s.bus by o rest) claimed.claims) in
          header_unmoved board tags world p by o s n rest (bridge_to board n) is stands;
    }

-- what is left is that of the model
rest_is : (board : Board) (tags : By → OpId → ℕ) (world : World) (p : List Event) (o : OpId) (s : BusView) (request rest : Request) → is_well_formed board ≡ true → BusStands board tags world p s → request_of board o s.bus ≡ Some request
    → IsRest (count_in s.through o) request rest → rest ≡ without (through p o) request
rest_is board tags world p o s request rest formed stands is_request left =
    let of_op = request_is_of board o s.bus request is_request in
    let gone : count_in s.through o ≡ through p o = ap or_zero (stands.through.each o of_op.op of_op.is_op) in
    let parts : (through p o ≡ 0) ⊎ (through p o < length request.phases) =
    elim (stands.parts o request is_request) as (λ _. (through p o ≡ 0) ⊎ (through p o < length request.phases)) [ inl none ↦ inl none | inr write ↦ inr write.1 ] in
    let I : ℕ → Type 0 = λ n. IsRest n request rest in
    let is : IsRest (through p o) request rest = subst I gone left in
    let fits : request.address + 4 * through p o < 2 ^ 64 = rest_fits board o s.bus (through p o) request formed is_request is.range parts in
    let R : Command → ℕ → List Phase → Request = λ c a l. record { command = c; address = a; phases = l } in
    ap (λ c. R c rest.address rest.phases) is.command ∙ (ap (λ a. R request.command a rest.phases) (is.address fits) ∙ ap (R request.command (request.address + 4 * through p o)) is.phases)

pub request_answers : (board : Board) (s : BusView) (place : Place) (line : ℕ) (o : OpId) (request rest : Request) (answer : Answer) (over : Option Sent) (new : BusView) → is_well_formed board ≡ true
    → IsRest (count_in s.through o) request rest → claim board s.bus rest ≡ place → PlaceAnswers board s place line o request rest answer over new → RequestAnswers board s line o request answer over new
request_answers board s place line o request rest answer over new formed left claims answers =
    record {
      answers = λ tags world p by is_line stands is_request.
          answers.answers tags world p by is_line stands (record { formed = formed; is_request = is_request; is_rest = rest_is board tags world p o s request rest formed stands is_request left; claims = claims });
    }

pub request_turns : (board : Board) (s : BusView) (place : Place) (line : ℕ) (o : OpId) (request rest : Request) → is_well_formed board ≡ true
    → IsRest (count_in s.through o) request rest → claim board s.bus rest ≡ place → PlaceTurns board s place line o request rest → RequestTurns board s line o request
request_turns board s place line o request rest formed left claims turns =
    record {
      turns = λ tags world p by is_line stands is_request.
          turns.turns tags world p by is_line stands (record { formed = formed; is_request = is_request; is_rest = rest_is board tags world p o s request rest formed stands is_request left; claims = claims });
    }

-- an operation with a request, and without one
pub bus_answers : (board : Board) (s : BusView) (line : ℕ) (o : OpId) (request : Request) (answer : Answer) (over : Option Sent) (new : BusView) → request_of board o s.bus ≡ Some request → RequestAnswers board s line o request answer over new → BusAnswers board s line o answer over new
bus_answers board s line o request answer over new is answers =
    record { answers = λ tags world p by is_line stands. answers.answers tags world p by is_line stands is }

pub bus_turns : (board : Board) (s : BusView) (line : ℕ) (o : OpId) (request : Request) → request_of board o s.bus ≡ Some request → RequestTurns board s line o request → TurnsBack board s line o
bus_turns board s line o request is turns =
    record { turns = λ tags world p by is_line stands. turns.turns tags world p by is_line stands is }

pub no_request : (board : Board) (s : BusView) (line : ℕ) (o : OpId) → request_of board o s.bus ≡ None → BusAnswers board s line o (Gives MasterAbort Nobody) None s
no_request board s line o none =
    record { answers = λ tags world p by is_line stands. unmoved board tags world p by o s (Gives MasterAbort Nobody) refl refl (ap (answer_to board world p s.bus by o) none) stands }
