-- What a port answers and presents, and the end of an item that it presented.
use Rattle.std.proofs.Common.{◌≡◌, ℕ, Bool, true, false, cond, ◌&&◌, ◌==◌, nat_lt, List, length, Option, Some, None, refl, sym, ap, subst, ◌∙◌}
use Rattle.std.specs.List.{find}
use Rattle.std.proofs.lemmas.Bool.{eq-eqb}
use Rattle.pci_command.specs.declared.request.Request.{Request}
use Rattle.pci_command.specs.declared.op_id.OpId.{OpId}
use Rattle.pci_command.specs.declared.op_id.Outcome.{Outcome}
use Rattle.pci_command.specs.Command.{is_read}
use Rattle.board_model.specs.declared.bridge.Lane.{Lane as BridgeLane}
use Rattle.board_model.specs.declared.board.Board.{Board}
use Rattle.board_model.specs.Ways.{end_of, lane_back}
use Rattle.board_model.specs.Requests.{is_posted}
use Rattle.history_model.specs.declared.event.By.{By}
use Rattle.history_model.specs.declared.event.Step.{Step}
use Rattle.history_model.specs.declared.event.Step.TheVariants.{Accept, Latch, Take}
use Rattle.history_model.specs.declared.item.Cause.{Cause}
use Rattle.history_model.specs.declared.item.Slot.{Slot as HeldSlot}
use Rattle.history_model.specs.Lanes.{LaneState, Both, item_ends}
use Rattle.history_model.specs.World.{World, is_own, slot_found, both, moved, enters}
use Rattle.history_model.specs.Answers.{lane_answer, presents}
use Rattle.history_model.proofs.facts.BridgeLemmas.{lane_back_back}
use Rattle.law_local.proofs.Laws.{moved_here, moved_back}
use Rattle.lane_items.specs.declared.item.Item.{Item}
use Rattle.lane_items.specs.declared.requests.slot_table.SlotEntry.{SlotEntry}
use Rattle.lane_items.specs.declared.completions.done_table.Done.{Done}
use Rattle.lane_items.specs.completions.Completions.{done_at}
use Rattle.bus_face.specs.declared.reply.Reply.{Reply}
use Rattle.bus_face.specs.declared.reply.Reply.TheVariants.{Accepted, Latched, Taken, Retry as Retried}
use Rattle.bus_face.specs.declared.offer.Offer.{Offer}
use Rattle.bus_face.specs.State.{FaceState}
use Rattle.bus_face.specs.Replies.{as_answer, replied, posts_reply, is_behind, is_own_entry, taken_reply, delayed_reply, reply_to, LowestReply}
use Rattle.bus_face.specs.Offers.{left_by}
use Rattle.bus_face.specs.Stands.{Stands}
use Rattle.bus_face.specs.OnLanes.{IsPresented, IsReplyOfLane, RepliesOfLanes, OffersOfLanes, turned, EndsOnLanes}
use Rattle.bus_agents.specs.marks.Marks.{MarksStand}
use Rattle.bus_core.specs.port.Port.{PortView, PortStands}
use Rattle.bus_core.specs.port.Calls.{after_answer, Replies, PortReplies, PortOffers, PortEnds}
use Rattle.bus_core.proofs.port.MoveLemmas.{pair_turned, moved_turned, moved_pair, moved_ends}

-- what a step does at the lane that claimed leaves the counts and what is in flight of the lane back
record Leaves (before after : LaneState) : Type 0 where
  pub asks : after.asks ≡ before.asks
  pub dones : after.dones ≡ before.dones
  pub flight : after.flight ≡ before.flight

enters_leaves : (board : Board) (bus : ℕ) (by : By) (o : OpId) (outcome : Outcome) (x : Both) → Leaves x.back (enters board bus by o (Take outcome) x).back
enters_leaves board bus by o outcome x =
    let P : Option HeldSlot → Type 0 = λ slot. Leaves x.back (slot_found slot x).back in
    elim (find (is_own board bus by o) x.here.held) as P [
      | None ↦ record { asks = refl; dones = refl; flight = refl }
      | Some slot ↦ record { asks = refl; dones = refl; flight = refl }
    ]

-- the lanes after a reply
record After (board : Board) (bus : ℕ) (by : By) (o : OpId) (lane : BridgeLane) (reply : Reply) (w next : World) : Type 0 where
  pub both_are : both next (lane_back lane) ≡ replied board bus by o reply (both w (lane_back lane))
  pub leaves : Leaves (w lane) (next lane)

step_after : (board : Board) (bus : ℕ) (by : By) (o : OpId) (lane : BridgeLane) (step : Step) (w : World) → Leaves (both w (lane_back lane)).back (enters board bus by o step (both w (lane_back lane))).back
    → Leaves (w lane) (moved (enters board bus by o step) (lane_back lane) w lane)
step_after board bus by o lane step w leaves =
    let k : BridgeLane = lane_back lane in
    let move : Both → Both = enters board bus by o step in
    let same : w (lane_back k) ≡ w lane = ap w (lane_back_back lane) in
    let next : moved move k w lane ≡ (move (both w k)).back = moved_ends move lane w in
    record {
      asks = ap (λ (s : LaneState). s.asks) next ∙ (leaves.asks ∙ ap (λ (s : LaneState). s.asks) same);
      dones = ap (λ (s : LaneState). s.dones) next ∙ (leaves.dones ∙ ap (λ (s : LaneState). s.dones) same);
      flight = ap (λ (s : LaneState). s.flight) next ∙ (leaves.flight ∙ ap (λ (s : LaneState). s.flight) same);
    }

reply_after : (board : Board) (bus : ℕ) (by : By) (o : OpId) (lane : BridgeLane) (reply : Reply) (w : World) → After board bus by o lane reply w (after_answer board bus by o (as_answer (lane_back lane) reply) w)
reply_after board bus by o lane Accepted w =
    record {
      both_are = moved_pair (enters board bus by o Accept) (lane_back lane) w;
      leaves = step_after board bus by o lane Accept w (record { asks = refl; dones = refl; flight = refl });
    }
reply_after board bus by o lane (Latched slot) w =
    record {
      both_are = moved_pair (enters board bus by o Latch) (lane_back lane) w;
      leaves = step_after board bus by o lane Latch w (record { asks = refl; dones = refl; flight = refl });
    }
reply_after board bus by o lane (Taken slot outcome) w =
    record {
      both_are = moved_pair (enters board bus by o (Take outcome)) (lane_back lane) w;
      leaves = step_after board bus by o lane (Take outcome) w (enters_leaves board bus by o outcome (both w (lane_back lane)));
    }
reply_after board bus by o lane (Retried cause) w = record { both_are = refl; leaves = record { asks = refl; dones = refl; flight = refl } }

replies_here : (board : Board) (bus : ℕ) (tags : By → OpId → ℕ) (world : World) (by : By) (old : PortView) (face : FaceState) (tag : ℕ) (o : OpId) (request : Request) (reply : Reply)
    → RepliesOfLanes old.face tag o request reply face → IsPresented board bus tags by o tag request → PortStands board bus tags old world
    → Replies board bus tags world by o request old.lane reply (record { lane = old.lane; face = face; marks = old.marks })
replies_here board bus tags world by old face tag o request reply replying presented stands =
    let k : BridgeLane = lane_back old.lane in
    let is : IsReplyOfLane board stands.bridge bus tags world k by o request reply face = replying.replies board stands.bridge bus tags world k by presented stands.face in
    let next : World = after_answer board bus by o (as_answer k reply) world in
    let after = reply_after board bus by o old.lane reply world in
    let M : ℕ → ℕ → Type 0 = λ a d. MarksStand board old.lane a d old.marks in
    record {
      answer = is.answer ∙ ap (lane_answer board world bus by o request k) (sym stands.is_bridge);
      stands = record {
        bridge = stands.bridge;
        is_bridge = stands.is_bridge;
        ends = stands.ends;
        face = subst (Stands board stands.bridge bus tags face) (sym after.both_are) is.stands;
        marks = subst (λ a. M a (next old.lane).dones) (sym after.leaves.asks) (subst (λ d. M (world old.lane).asks d) (sym after.leaves.dones) stands.marks);
      };
      left = after.leaves.flight;
      sent = ap (λ (x : Both). x.here.flight) after.both_are ∙ is.sent;
    }

pub port_replies : (old : PortView) (face : FaceState) (tag : ℕ) (o : OpId) (request : Request) (reply : Reply) → RepliesOfLanes old.face tag o request reply face
    → PortReplies old tag o request reply (record { lane = old.lane; face = face; marks = old.marks })
port_replies old face tag o request reply replying =
    record { replies = λ board bus tags world by presented stands. replies_here board bus tags world by old face tag o request reply replying presented stands }

-- what is offered is what the lane presents
pub port_offers : (port : PortView) (offers : List Offer) → OffersOfLanes port.face offers → PortOffers port offers
port_offers port offers on_lanes =
    record {
      wanted = λ board bus tags world p o stands.
          let there : (end_of board port.lane == bus) ≡ true = eq-eqb (end_of board port.lane) bus stands.ends in
          ap (λ b. b && presents board bus o (world port.lane).standing) there
          ∙ (ap (λ l. presents board bus o (world l).standing) (sym (lane_back_back port.lane))
          ∙ on_lanes.presented board stands.bridge bus tags (both world (lane_back port.lane)) o stands.face);
    }

-- an item that is offered ends
pub port_ends : (old : PortView) (face : FaceState) (offer : Offer) (outcome : Outcome) (back : Item) → EndsOnLanes old.face offer outcome face back
    → PortEnds old offer outcome (record { lane = old.lane; face = face; marks = old.marks }) back
port_ends old face offer outcome back ending =
    record {
      ends = λ board bus tags world stands.
          let lane : BridgeLane = old.lane in
          let x : Both = both world lane in
          let move : Both → Both = item_ends offer.op outcome in
          let before : Stands board stands.bridge bus tags old.face (turned x) = subst (Stands board stands.bridge bus tags old.face) (pair_turned lane world) stands.face in
          let here : moved move lane world lane ≡ (move x).here = moved_here move lane world in
          let M : LaneState → Type 0 = λ s. MarksStand board lane s.asks s.dones old.marks in
          record {
            stands = record {
              bridge = stands.bridge;
              is_bridge = stands.is_bridge;
              ends = stands.ends;
              face = subst (Stands board stands.bridge bus tags face) (sym (moved_turned move lane world)) (ending.stands board stands.bridge bus tags (turned x) before);
              marks = subst M (sym here) stands.marks;
            };
            left = ap (λ (s : LaneState). s.flight) here;
            sent = ap (λ (s : LaneState). s.flight) (moved_back move lane world) ∙ ending.sent board stands.bridge bus tags (turned x) before;
          };
    }

-- a reply counts no arrival
cond_arrivals : (b : Bool) (x y : Reply × FaceState) (n : ℕ) → x.1.arrivals ≡ n → y.1.arrivals ≡ n → (cond b x y).1.arrivals ≡ n
cond_arrivals true x y n one other = one
cond_arrivals false x y n one other = other

taken_arrivals : (face : FaceState) (slot : ℕ) (read : Bool) (done : Option Done) → (taken_reply face slot read done).1.arrivals ≡ face.arrivals
taken_arrivals face slot read None = refl
taken_arrivals face slot read (Some done) = cond_arrivals (read && is_behind done.arrival face.posts.posts) _ _ face.arrivals refl refl

delayed_arrivals : (face : FaceState) (number tag : ℕ) (op : OpId) (request : Request) (own : Option SlotEntry) → (delayed_reply face number tag op request own).1.arrivals ≡ face.arrivals
delayed_arrivals face number tag op request None = cond_arrivals (nat_lt (length face.slots.slots) face.slots.depth) _ _ face.arrivals refl refl
delayed_arrivals face number tag op request (Some slot) = taken_arrivals face slot.number (is_read request.command) (done_at slot.number face.dones.dones)

reply_arrivals : (face : FaceState) (number tag : ℕ) (op : OpId) (request : Request) → (reply_to face number tag op request).1.arrivals ≡ face.arrivals
reply_arrivals face number tag op request =
    cond_arrivals (is_posted request) (posts_reply face) (delayed_reply face number tag op request (find (is_own_entry tag request) face.slots.slots)) face.arrivals
    (cond_arrivals (nat_lt face.owed face.posted) _ _ face.arrivals refl refl)
    (delayed_arrivals face number tag op request (find (is_own_entry tag request) face.slots.slots))

pub replied_arrivals : (face : FaceState) (tag : ℕ) (op : OpId) (request : Request) (reply : Reply) (after : FaceState) → LowestReply face tag op request reply after → after.arrivals ≡ face.arrivals
replied_arrivals face tag op request reply after kept = ap (λ (f : FaceState). f.arrivals) kept.after_is ∙ reply_arrivals face kept.number tag op request

-- a Retry changes nothing
cond_retried : (b : Bool) (x y : Reply × FaceState) (face : FaceState) (cause : Cause) → (x.0 ≡ Retried cause → x.1 ≡ face) → (y.0 ≡ Retried cause → y.1 ≡ face) → (cond b x y).0 ≡ Retried cause → (cond b x y).1 ≡ face
cond_retried true x y face cause one other is = one is
cond_retried false x y face cause one other is = other is

taken_retried : (face : FaceState) (slot : ℕ) (read : Bool) (done : Option Done) (cause : Cause) → (taken_reply face slot read done).0 ≡ Retried cause → (taken_reply face slot read done).1 ≡ face
taken_retried face slot read None cause is = refl
taken_retried face slot read (Some done) cause is = cond_retried (read && is_behind done.arrival face.posts.posts) _ _ face cause (λ same. refl) (λ wrong. cc) is

delayed_retried : (face : FaceState) (number tag : ℕ) (op : OpId) (request : Request) (own : Option SlotEntry) (cause : Cause) → (delayed_reply face number tag op request own).0 ≡ Retried cause → (delayed_reply face number tag op request own).1 ≡ face
delayed_retried face number tag op request None cause is = cond_retried (nat_lt (length face.slots.slots) face.slots.depth) _ _ face cause (λ wrong. cc) (λ same. refl) is
delayed_retried face number tag op request (Some slot) cause is = taken_retried face slot.number (is_read request.command) (done_at slot.number face.dones.dones) cause is

reply_retried : (face : FaceState) (number tag : ℕ) (op : OpId) (request : Request) (cause : Cause) → (reply_to face number tag op request).0 ≡ Retried cause → (reply_to face number tag op request).1 ≡ face
reply_retried face number tag op request cause is =
    cond_retried (is_posted request) (posts_reply face) (delayed_reply face number tag op request (find (is_own_entry tag request) face.slots.slots)) face cause
    (cond_retried (nat_lt face.owed face.posted) _ _ face cause (λ wrong. cc) (λ same. refl))
    (delayed_retried face number tag op request (find (is_own_entry tag request) face.slots.slots) cause) is

pub replied_retried : (face : FaceState) (tag : ℕ) (op : OpId) (request : Request) (reply : Reply) (after : FaceState) (cause : Cause) → LowestReply face tag op request reply after → reply ≡ Retried cause → after ≡ face
replied_retried face tag op request reply after cause kept is = kept.after_is ∙ reply_retried face kept.number tag op request cause (sym kept.reply_is ∙ is)

-- nor does the end of an item
pub ended_arrivals : (face : FaceState) (offer : Offer) → (left_by face offer).arrivals ≡ face.arrivals
ended_arrivals face offer =
    let P : Bool → Type 0 = λ b. (left_by face (record offer { ask = b })).arrivals ≡ face.arrivals in
    elim offer.ask as P [ true ↦ refl | false ↦ refl ]
