-- Each completion is taken by the operation that it was made for.
use Rattle.std.proofs.Common.{◌≡◌, ℕ, true, List, ◌∷◌, Option, Some, None, refl, sym, ap, subst, ◌∙◌}
use Rattle.std.specs.List.{find, AllByRecursion}
use Rattle.std.proofs.lemmas.Bool.{eqb-true}
use Rattle.list_facts.proofs.FindLemmas.{find_passes, find_agree}
use Rattle.list_facts.proofs.EachLemmas.{Each-find}
use Rattle.pci_command.specs.declared.op_id.OpId.{OpId}
use Rattle.pci_command.specs.declared.op_id.Outcome.{Outcome}
use Rattle.board_model.specs.declared.bridge.Lane.{Lane as BridgeLane}
use Rattle.board_model.specs.declared.bridge.Place.TheVariants.{Lane}
use Rattle.board_model.specs.declared.board.Board.{Board}
use Rattle.board_model.specs.Requests.{same_requests}
use Rattle.board_model.specs.Ways.{start_of, lane_back}
use Rattle.history_model.specs.declared.event.By.{By}
use Rattle.history_model.specs.declared.event.By.TheVariants.{Master, Lane as ByLane}
use Rattle.history_model.specs.declared.event.Step.TheVariants.{Take}
use Rattle.history_model.specs.declared.event.Event.{Event}
use Rattle.history_model.specs.declared.event.Event.TheVariants.{Act}
use Rattle.history_model.specs.declared.item.Carried.{Carried}
use Rattle.history_model.specs.declared.item.Carried.TheVariants.{Ask, Done}
use Rattle.history_model.specs.declared.item.Slot.{Slot}
use Rattle.history_model.specs.Lanes.{has_number, is_done_for}
use Rattle.history_model.specs.World.{World, same_initiator, is_own, world_of}
use Rattle.history_model.specs.Program.{turn_of}
use Rattle.history_model.specs.Answers.{asked, asks_same}
use Rattle.history_model.specs.Runs.{Run}
use Rattle.law_lanes.specs.Owners.{is_equal_ask, Waits, TakesItsOwn}
use Rattle.law_lanes.specs.Slots.{IsHeldFor, DoneNamed}
use Rattle.law_lanes.specs.Depths.{DifferentNumbers}
use Rattle.law_lanes.specs.Phases.{DelayedAreSingle}
use Rattle.law_lanes.specs.Kinds.{RightKind}
use Rattle.history_model.specs.Words.{through, without}
use Rattle.history_model.proofs.facts.BridgeLemmas.{same_lane_true}
use Rattle.history_model.proofs.facts.AnswerLemmas.{answered_at}
use Rattle.history_model.proofs.facts.EqualLemmas.{same_requests-congr, is_own-parts}
use Rattle.law_lanes.proofs.ClaimLemmas.{claim_starts}
use Rattle.law_lanes.proofs.SlotsRunLemmas.{Slots-run}
use Rattle.law_lanes.proofs.OneItemLemmas.{Each-found_itself}
use Rattle.law_lanes.proofs.KindLemmas.{RightKind-run}
use Rattle.law_lanes.proofs.OwnersLatchLemmas.{wants-waits}
use Rattle.law_lanes.proofs.OwnersRunLemmas.{Owners-run}

equal_ask-alike : (board : Board) (on : ℕ) (p q : OpId) → same_requests board on p q ≡ true → (other : Option OpId) → asks_same board on (Some p) other ≡ asks_same board on (Some q) other
equal_ask-alike board on p q same None = refl
equal_ask-alike board on p q same (Some r) = same_requests-congr board on p q r same

-- two operations with one request that wait at one initiator are one
waits_same : (board : Board) (turn : ℕ → Option OpId) (world : World) (on : ℕ) (a : By) (p : OpId) (b : By) (q : OpId)
    → Waits board turn world on a p → Waits board turn world on b q → same_initiator a p b q ≡ true → same_requests board on p q ≡ true → p ≡ q
waits_same board turn world on Master p Master q first second initiators requests =
    let masters : p.master ≡ q.master = eqb-true p.master q.master initiators in
    let turns : turn p.master ≡ turn q.master = ap turn masters in
    cc
waits_same board turn world on Master p (ByLane l) q first second initiators requests = cc
waits_same board turn world on (ByLane k) p Master q first second initiators requests = cc
waits_same board turn world on (ByLane k) p (ByLane l) q first second initiators requests =
    let one : k ≡ l = same_lane_true k l initiators in
    let there : find (is_equal_ask board on p) (world l).standing ≡ Some (Ask p first.number) = subst (λ (m : BridgeLane). find (is_equal_ask board on p) (world m).standing ≡ Some (Ask p first.number)) one first.first in
    let alike = find_agree (is_equal_ask board on p) (is_equal_ask board on q) (λ item. equal_ask-alike board on p q requests (asked item)) (world l).standing in
    let asks : Some (Ask p first.number) ≡ Some (Ask q second.number) = sym there ∙ alike ∙ second.first in
    cc

pub TakesItsOwn-run : (board : Board) (h : List Event) (on : ℕ) (by : By) (o : OpId) (outcome : Outcome) (lane : BridgeLane) → DifferentNumbers board → DelayedAreSingle board
    → Run board (Act on by o (Take outcome) (Lane lane) ∷ h) → TakesItsOwn board h on by o outcome lane
TakesItsOwn-run board h on by o outcome lane distinct single run =
    let world : World = world_of board h in
    let turn : ℕ → Option OpId = turn_of board h in
    let held : List Slot = (world lane).held in
    let coming : List Carried = (world (lane_back lane)).standing in
    let at = answered_at board h on by o (Take outcome) lane run.0.1 in
    let taken = at.gives.1 in
    let slot : Slot = taken.slot in
    let bus : start_of board lane ≡ on = claim_starts board on (without (through h o) at.request) lane distinct at.claims in
    let owners = Owners-run board distinct single h run.1 in
    let slots = Slots-run board h lane run.1 in
    let W : Slot → Type 0 = λ s. Waits board turn world (start_of board lane) s.by s.op in
    let F : ℕ → Type 0 = λ b. Waits board turn world b slot.by slot.op in
    let waits : Waits board turn world on slot.by slot.op = subst F bus (Each-find W (is_own board on by o) held slot (owners.waits lane) taken.is_own_slot) in
    let right : (l : BridgeLane) → AllByRecursion (RightKind board) (world l).standing = λ l. (RightKind-run board h l run.1).1 in
    let presented : Waits board turn world on by o = wants-waits board h on by o at.request right at.is_request at.gives.0 run.0.0 in
    let parts = is_own-parts board on by o slot (find_passes (is_own board on by o) held slot taken.is_own_slot) in
    let matched : slot.op ≡ o = waits_same board turn world on slot.by slot.op by o waits presented parts.0 parts.1 in
    let N : Slot → Type 0 = λ s. find (has_number s.number) held ≡ Some s in
    let itself : find (has_number slot.number) held ≡ Some slot = Each-find N (is_own board on by o) held slot (Each-found_itself held slots.once) taken.is_own_slot in
    let number : taken.number ≡ slot.number = eqb-true taken.number slot.number (find_passes (is_done_for slot.number) coming (Done taken.op taken.number outcome) taken.stands) in
    let H : ℕ → Type 0 = λ n. IsHeldFor held n taken.op in
    let for_op : IsHeldFor held slot.number taken.op = subst H number (Each-find (DoneNamed held) (is_done_for slot.number) coming (Done taken.op taken.number outcome) slots.dones_standing taken.stands) in
    let one : for_op.slot ≡ slot = let first = for_op.is_held in cc in
    let ops : for_op.slot.op ≡ slot.op = ap (λ (s : Slot). s.op) one in
    let op : taken.op ≡ o = sym for_op.is_for ∙ ops ∙ matched in
    let done : ◌≡◌ {A = Option Carried} (Some (Done taken.op taken.number outcome)) (Some (Done o slot.number outcome)) = cc in
    record { slot = slot; is_own_slot = taken.is_own_slot; is_for = matched; stands = taken.stands ∙ done }
