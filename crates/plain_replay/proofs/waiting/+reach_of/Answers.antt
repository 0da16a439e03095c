use Rattle.std.proofs.Common.{◌≡◌, ◌≢◌, ℕ, ◌+◌, ◌-◌, Option, Some, false, true, sym, ap, ◌∙◌}
use Rattle.board_model.specs.declared.bridge.Lane.{Lane as BridgeLane}
use Rattle.board_model.specs.declared.bridge.Place.TheVariants.{Target, Header, Nobody}
use Rattle.board_model.specs.Claims.{claim}
use Rattle.board_model.specs.Ways.{end_of}
use Rattle.history_model.specs.Left.{Reach, lane_or}
use Rattle.history_model.specs.World.{world_of}
use Rattle.history_model.specs.Runs.{history_of}
use Rattle.judge_lanes.specs.declared.remaining.Reach.{Reach as Found}
use Rattle.judge_lanes.proofs.ReachLemmas.{none, through, reach_on, reach_nowhere, reach_at, reach_through, short_none, short_through}
use Rattle.plain_replay.proofs.waiting.+reach_of.Goals as goal

pub returns-then-most-eq0 : goal.returns-then-most-eq0
returns-then-most-eq0 t c =
    let world = world_of c.args.board.now (history_of c.args.events.now) in
    let is : reach_on world c.args.op c.args.board.now c.args.found.now c.args.most c.args.on ≡ none = reach_nowhere world c.args.op c.args.board.now c.args.found.now c.args.most c.args.on c.if-most-eq0.true in
    record {
      lanes = ap (λ (r : Found). r.lanes) c.none.ensures ∙ sym (ap (λ (r : Reach). r.lanes) is);
      last = ap (λ (r : Found). r.last) c.none.ensures ∙ sym (ap (λ (r : Reach). r.last) is);
      short = short_none c.none.result.lanes c.args.most (ap (λ (r : Found). r.lanes) c.none.ensures);
    }

pub returns-then-not-holds_slot : goal.returns-then-not-holds_slot
returns-then-not-holds_slot t c =
    let world = world_of c.args.board.now (history_of c.args.events.now) in
    let some : c.args.most ≢ 0 = c.if-most-eq0.false in
    let claims = ap (claim c.args.board.now c.args.on) (sym c.request_on.ensures) ∙ sym c.in-Lane.ensures in
    let is : reach_on world c.args.op c.args.board.now c.args.found.now c.args.most c.args.on ≡ none = reach_through world c.args.op c.args.board.now c.args.found.now c.args.most c.args.on c.in-Lane.lane false some claims (sym c.if-not-holds_slot.ensures) in
    record {
      lanes = ap (λ (r : Found). r.lanes) c.none-then-not-holds_slot.ensures ∙ sym (ap (λ (r : Reach). r.lanes) is);
      last = ap (λ (r : Found). r.last) c.none-then-not-holds_slot.ensures ∙ sym (ap (λ (r : Reach). r.last) is);
      short = short_none c.none-then-not-holds_slot.result.lanes c.args.most (ap (λ (r : Found). r.lanes) c.none-then-not-holds_slot.ensures);
    }

pub returns-in-Target : goal.returns-in-Target
returns-in-Target t c =
    let world = world_of c.args.board.now (history_of c.args.events.now) in
    let some : c.args.most ≢ 0 = c.if-most-eq0.false in
    let claims = ap (claim c.args.board.now c.args.on) (sym c.request_on.ensures) ∙ sym c.in-Target.ensures in
    let is : reach_on world c.args.op c.args.board.now c.args.found.now c.args.most c.args.on ≡ none = reach_at world c.args.op c.args.board.now c.args.found.now c.args.most c.args.on (Target c.in-Target.field-0) some claims in
    record {
      lanes = ap (λ (r : Found). r.lanes) c.none-in-Target.ensures ∙ sym (ap (λ (r : Reach). r.lanes) is);
      last = ap (λ (r : Found). r.last) c.none-in-Target.ensures ∙ sym (ap (λ (r : Reach). r.last) is);
      short = short_none c.none-in-Target.result.lanes c.args.most (ap (λ (r : Found). r.lanes) c.none-in-Target.ensures);
    }

pub returns-in-Header : goal.returns-in-Header
returns-in-Header t c =
    let world = world_of c.args.board.now (history_of c.args.events.now) in
    let some : c.args.most ≢ 0 = c.if-most-eq0.false in
    let claims = ap (claim c.args.board.now c.args.on) (sym c.request_on.ensures) ∙ sym c.in-Header.ensures in
    let is : reach_on world c.args.op c.args.board.now c.args.found.now c.args.most c.args.on ≡ none = reach_at world c.args.op c.args.board.now c.args.found.now c.args.most c.args.on (Header c.in-Header.field-0) some claims in
    record {
      lanes = ap (λ (r : Found). r.lanes) c.none-in-Header.ensures ∙ sym (ap (λ (r : Reach). r.lanes) is);
      last = ap (λ (r : Found). r.last) c.none-in-Header.ensures ∙ sym (ap (λ (r : Reach). r.last) is);
      short = short_none c.none-in-Header.result.lanes c.args.most (ap (λ (r : Found). r.lanes) c.none-in-Header.ensures);
    }

pub returns-in-Nobody : goal.returns-in-Nobody
returns-in-Nobody t c =
    let world = world_of c.args.board.now (history_of c.args.events.now) in
    let some : c.args.most ≢ 0 = c.if-most-eq0.false in
    let claims = ap (claim c.args.board.now c.args.on) (sym c.request_on.ensures) ∙ sym c.in-Nobody.ensures in
    let is : reach_on world c.args.op c.args.board.now c.args.found.now c.args.most c.args.on ≡ none = reach_at world c.args.op c.args.board.now c.args.found.now c.args.most c.args.on Nobody some claims in
    record {
      lanes = ap (λ (r : Found). r.lanes) c.none-in-Nobody.ensures ∙ sym (ap (λ (r : Reach). r.lanes) is);
      last = ap (λ (r : Found). r.last) c.none-in-Nobody.ensures ∙ sym (ap (λ (r : Reach). r.last) is);
      short = short_none c.none-in-Nobody.result.lanes c.args.most (ap (λ (r : Found). r.lanes) c.none-in-Nobody.ensures);
    }

pub returns-else-not-holds_slot : goal.returns-else-not-holds_slot
returns-else-not-holds_slot t c =
    let world = world_of c.args.board.now (history_of c.args.events.now) in
    let some : c.args.most ≢ 0 = c.if-most-eq0.false in
    let claims = ap (claim c.args.board.now c.args.on) (sym c.request_on.ensures) ∙ sym c.in-Lane.ensures in
    let from = reach_on world c.args.op c.args.board.now c.args.found.now (c.args.most - 1) in
    let behind = c.reach_of-behind.ensures in
    let is : reach_on world c.args.op c.args.board.now c.args.found.now c.args.most c.args.on ≡ through c.in-Lane.lane (from (end_of c.args.board.now c.in-Lane.lane)) =
    reach_through world c.args.op c.args.board.now c.args.found.now c.args.most c.args.on c.in-Lane.lane true some claims (sym c.if-not-holds_slot.ensures) in
    record {
      lanes = ap (λ (r : Found). r.lanes) c.through.ensures ∙ ap (λ (n : ℕ). n + 1) (behind.lanes ∙ ap (λ (bus : ℕ). (from bus).lanes) c.end_of.ensures) ∙ sym (ap (λ (r : Reach). r.lanes) is);
      last = ap (λ (r : Found). r.last) c.through.ensures ∙ ap (λ (l : Option BridgeLane). Some (lane_or l c.in-Lane.lane)) (behind.last ∙ ap (λ (bus : ℕ). (from bus).last) c.end_of.ensures)
          ∙ sym (ap (λ (r : Reach). r.last) is);
      short = short_through c.through.result.lanes c.reach_of-behind.result.lanes c.args.most some (ap (λ (r : Found). r.lanes) c.through.ensures) behind.short;
    }
