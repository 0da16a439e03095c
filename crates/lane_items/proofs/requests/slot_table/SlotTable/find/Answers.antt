use Rattle.std.proofs.Common.{◌≡◌, ap, ◌∙◌}
use Rattle.std.proofs.lemmas.Bool.{true≢false}
use Rattle.lane_items.specs.requests.Slots.{IsOwn, HasNoOwn}
use Rattle.lane_items.proofs.requests.SlotLemmas.{IsHeld-at, HasNoOwn-at}
use Rattle.lane_items.proofs.requests.slot_table.SlotTable.find.Goals as goal

-- the slots that the loop goes over are those that are held
all : (c : goal.Then-same_request) → c.as_slice-slot-items.result.now ≡ c.args.self.now.slots
all c = c.as_slice-slot-items.ensures.value ∙ ap (λ t. t.slots) c.self.view_is

pub returns-then-same_request-clause-held : goal.returns-then-same_request-clause-held
returns-then-same_request-clause-held c =
    rw (← all c) (IsHeld-at c.as_slice-slot-items.result.now c.loop-slot.slot-index c.slot-item.result c.loop-slot-test.true c.slot-item.is)

pub returns-then-same_request-clause-none : goal.returns-then-same_request-clause-none
returns-then-same_request-clause-none c =
    let own : IsOwn c.args.tag c.args.request.now c.slot-item.result = (c.if-slot-tag.true, c.same_request.ensures.0 c.if-same_request.true) in
    let found : HasNoOwn c.args.tag c.args.request.now c.as_slice-slot-items.result.now → ⊥ =
    λ none. HasNoOwn-at c.args.tag c.args.request.now c.as_slice-slot-items.result.now c.loop-slot.slot-index c.slot-item.result none c.loop-slot-test.true c.slot-item.is own in
    (λ never. absurd (true≢false never), λ none. absurd (found (rw (all c) none)))
