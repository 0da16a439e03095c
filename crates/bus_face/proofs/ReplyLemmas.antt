-- The reply of half a bridge is the answer of the lane, and it then stands for what that makes of the two lanes.
use Rattle.std.proofs.Common.{◌≡◌, ℕ, ◌+◌, Bool, true, false, cond, not, ◌&&◌, ◌||◌, nat_lt, List, [], ◌∷◌, ◌++◌, length, map, Option, Some, None, refl, sym, ap, subst, ◌∙◌}
use Rattle.std.specs.List.{find, list_any, list_all, AllByRecursion}
use Rattle.std.proofs.lemmas.List.{append-nil}
use Rattle.std.specs.Option.{option_map}
use Rattle.list_facts.specs.Lists.{less, before}
use Rattle.list_facts.proofs.EachLemmas.{Each-less}
use Rattle.order_table.specs.Order.{may_pass}
use Rattle.pci_command.specs.declared.request.Request.{Request}
use Rattle.pci_command.specs.declared.op_id.OpId.{OpId}
use Rattle.pci_command.specs.Command.{is_read}
use Rattle.board_model.specs.declared.bridge.Lane.{Lane as BridgeLane}
use Rattle.board_model.specs.declared.bridge.Place.TheVariants.{Lane}
use Rattle.board_model.specs.declared.bridge.Bridge.{Bridge}
use Rattle.board_model.specs.declared.board.Board.{Board}
use Rattle.board_model.specs.Requests.{request_of, is_posted, reads}
use Rattle.history_model.specs.declared.event.By.{By}
use Rattle.history_model.specs.declared.event.Step.TheVariants.{Accept, Latch, Take}
use Rattle.history_model.specs.declared.item.Carried.{Carried}
use Rattle.history_model.specs.declared.item.Slot.{Slot as HeldSlot}
use Rattle.history_model.specs.declared.item.Answer.{Answer}
use Rattle.history_model.specs.declared.item.Answer.TheVariants.{Gives, Retry as Retries}
use Rattle.history_model.specs.declared.item.Cause.TheVariants.{Full, NoSlot, Behind}
use Rattle.history_model.specs.Lanes.{Both, is_done_for, is_post, has_number, lowest_free, slot_taken}
use Rattle.history_model.specs.declared.item.Carried.TheVariants.{Post, Ask, Done, Room, Gone}
use Rattle.history_model.specs.World.{both, is_own, slot_found}
use Rattle.history_model.specs.Answers.{request_kind, completion_kind, completion_passes, lane_answer, completion_answer, delayed_answer, posted_answer}
use Rattle.law_lanes.specs.Latched.{IsAt}
use Rattle.lane_items.specs.declared.requests.slot_table.SlotEntry.{SlotEntry}
use Rattle.lane_items.specs.requests.Slots.{IsLowestFree, without as without_slot}
use Rattle.lane_items.specs.declared.completions.done_table.Done.{Done as DoneEntry}
use Rattle.lane_items.specs.completions.Completions.{done_at, without as without_done}
use Rattle.bus_face.specs.declared.reply.Reply.{Reply}
use Rattle.bus_face.specs.declared.reply.Reply.TheVariants.{Accepted, Latched, Taken, Retry}
use Rattle.bus_face.specs.State.{FaceState}
use Rattle.bus_face.specs.Replies.{posts_reply, is_behind, is_own_entry, taken_reply, latched_reply, delayed_reply, reply_to, as_answer, replied, LowestReply}
use Rattle.bus_face.specs.Stands.{done_entries, IsEntry, AreEntries, IsTag, CanStandThere, Stands}
use Rattle.bus_face.specs.OnLanes.{sent_by, RepliesOfLanes}
use Rattle.bus_face.proofs.StandsLemmas.{item_of, done_of, done_found, behind, left_line, without_line, slots_without, slots_push, slots_length, OwnAlike, own_alike, lowest_alike}

-- the answer of the lane, by what the half bridge keeps
abbrev pub answered : FaceState → BridgeLane → Board → ℕ → By → OpId → Request → Both → Answer
answered face lane board bus by o request x =
    cond (is_posted request) (posted_answer x.here.owed face.posted lane)
    (delayed_answer board (is_read request.command) face.slots.depth lane x.here.held x.back.standing (find (is_own board bus by o) x.here.held))

-- the reply is the answer, and what is kept stands for what it does
pub record Right (face : FaceState) (lane : BridgeLane) (board : Board) (bridge : Bridge) (bus : ℕ) (tags : By → OpId → ℕ) (by : By) (o : OpId) (answer : Answer) (reply : Reply × FaceState) (x : Both) : Type 0 where
  pub is_answer : as_answer lane reply.0 ≡ answer
  pub stands : Stands board bridge bus tags reply.1 (replied board bus by o reply.0 x)
  pub sent : (replied board bus by o reply.0 x).here.flight ≡ x.here.flight ++ sent_by o reply.0

-- the completion of a write passes all that stands, that of a read all but posted writes
passes_one : (board : Board) (read : Bool) (item : Carried) → CanStandThere board item → completion_passes board read item ≡ not (read && is_post item)
passes_one board true (Post op) can = refl
passes_one board false (Post op) can = refl
passes_one board true (Ask op slot) can = let P : Bool → Type 0 = λ b. may_pass (completion_kind true) (request_kind b) ≡ true in elim (reads board op) as P [ true ↦ refl | false ↦ refl ]
passes_one board false (Ask op slot) can = let P : Bool → Type 0 = λ b. may_pass (completion_kind false) (request_kind b) ≡ true in elim (reads board op) as P [ true ↦ refl | false ↦ refl ]
passes_one board true (Done op slot outcome) can = let P : Bool → Type 0 = λ b. may_pass (completion_kind true) (completion_kind b) ≡ true in elim (reads board op) as P [ true ↦ refl | false ↦ refl ]
passes_one board false (Done op slot outcome) can = let P : Bool → Type 0 = λ b. may_pass (completion_kind false) (completion_kind b) ≡ true in elim (reads board op) as P [ true ↦ refl | false ↦ refl ]
passes_one board read Room can = absurd can.0
passes_one board read (Gone slot) can = absurd can.0

join_not : (read a b : Bool) → (not (read && a) && not (read && b)) ≡ not (read && (a || b))
join_not true true b = refl
join_not true false b = refl
join_not false a b = refl

older_pass : (board : Board) (read : Bool) (items : List Carried) → AllByRecursion (CanStandThere board) items → list_all (completion_passes board read) items ≡ not (read && list_any is_post items)
older_pass board true [] each = refl
older_pass board false [] each = refl
older_pass board read (item ∷ items) each =
    let one = passes_one board read item each.0 in
    let rest = older_pass board read items each.1 in
    rw (one, rest) (join_not read (is_post item) (list_any is_post items))

Each-before : {X : Type 0} (P : X → Type 0) (test : X → Bool) (xs : List X) → AllByRecursion P xs → AllByRecursion P (before test xs)
Each-before P test [] each = tt
Each-before P test (x ∷ xs) each =
    let Q : Bool → Type 0 = λ b. AllByRecursion P (cond b [] (x ∷ before test xs)) in
    elim (test x) as Q [ true ↦ tt | false ↦ (each.0, Each-before P test xs each.1) ]

module _ (board : Board) (bridge : Bridge) (bus : ℕ) (tags : By → OpId → ℕ) (lane : BridgeLane) where
  right_posted : (face : FaceState) (by : By) (o : OpId) (x : Both) → Stands board bridge bus tags face x → Right face lane board bridge bus tags by o (posted_answer x.here.owed face.posted lane) (posts_reply face) x
  right_posted face by o x stands =
      let Goal : ℕ → Type 0 = λ owed. Right face lane board bridge bus tags by o (posted_answer owed face.posted lane) (posts_reply face) x in
      let yes_state : Reply × FaceState = (Accepted, record face { owed = face.owed + 1 }) in
      let no_state : Reply × FaceState = (Retry Full, face) in
      let P : Bool → Type 0 = λ b. Right face lane board bridge bus tags by o (cond b (Gives Accept (Lane lane)) (Retries Full)) (cond b yes_state no_state) x in
      subst Goal (sym stands.owed) (elim (nat_lt face.owed face.posted) as P [
        | true ↦ record {
          is_answer = refl;
          sent = refl;
          stands = record {
            depths = record { posted = stands.depths.posted; posts = stands.depths.posts; asks = stands.depths.asks; slots = stands.depths.slots };
            kinds = stands.kinds;
            line = stands.line;
            items = stands.items;
            rising = stands.rising;
            posts = stands.posts;
            asks = stands.asks;
            requests = stands.requests;
            dones = stands.dones;
            slots = stands.slots;
            owed = ap (λ n. n + 1) stands.owed;
          };
        }
        | false ↦ record { is_answer = refl; stands = stands; sent = sym (append-nil x.here.flight) }
      ])

  right_latched : (face : FaceState) (number tag : ℕ) (by : By) (o : OpId) (request : Request) (x : Both) → request_of board o bus ≡ Some request → tags by o ≡ tag → IsAt board bus by o
      → ((latched_reply face number tag o request).0 ≡ Latched number → IsLowestFree number face.slots.slots) → Stands board bridge bus tags face x
      → Right face lane board bridge bus tags by o (cond (nat_lt (length x.here.held) face.slots.depth) (Gives Latch (Lane lane)) (Retries NoSlot)) (latched_reply face number tag o request) x
  right_latched face number tag by o request x is_request is_tag is_at lowest stands =
      let lengths : length x.here.held ≡ length face.slots.slots = slots_length board bus tags x.here.held face.slots.slots stands.slots in
      let Goal : ℕ → Type 0 = λ n. Right face lane board bridge bus tags by o (cond (nat_lt n face.slots.depth) (Gives Latch (Lane lane)) (Retries NoSlot)) (latched_reply face number tag o request) x in
      let yes_state : Reply × FaceState = (
        Latched number,
        record face {
          slots = record (face.slots) { slots = face.slots.slots ++ record { number = number; tag = tag; op = o; request = request } ∷ [] };
        },
      ) in
      let no_state : Reply × FaceState = (Retry NoSlot, face) in
      let P : Bool → Type 0 = λ b. ((cond b yes_state no_state).0 ≡ Latched number → IsLowestFree number face.slots.slots)
      → Right face lane board bridge bus tags by o (cond b (Gives Latch (Lane lane)) (Retries NoSlot)) (cond b yes_state no_state) x in
      subst Goal (sym lengths) ((elim (nat_lt (length face.slots.slots) face.slots.depth) as P [
        | true ↦ λ known.
            let free : lowest_free x.here.held ≡ number = lowest_alike board bus tags number x.here.held face.slots.slots stands.slots (known refl) in
            record {
              is_answer = refl;
              sent = ap (λ n. x.here.flight ++ Ask o n ∷ []) free;
              stands = record {
                depths = record { posted = stands.depths.posted; posts = stands.depths.posts; asks = stands.depths.asks; slots = stands.depths.slots };
                kinds = stands.kinds;
                line = stands.line;
                items = stands.items;
                rising = stands.rising;
                posts = stands.posts;
                asks = stands.asks;
                requests = stands.requests;
                dones = stands.dones;
                slots = slots_push board bus tags x.here.held face.slots.slots (record { number = lowest_free x.here.held; by = by; op = o }) (record { number = number; tag = tag; op = o; request = request })
                    stands.slots (record { number = free; op = refl; tag = is_tag; request = is_request; initiator = is_at });
                owed = stands.owed;
              };
            }
        | false ↦ λ _. record { is_answer = refl; stands = stands; sent = sym (append-nil x.here.flight) }
      ]) lowest)

  -- the own slot, whose completion is found, or is not
  right_taken : (face : FaceState) (by : By) (o : OpId) (read : Bool) (x : Both) (own : HeldSlot) (entry : SlotEntry) → find (is_own board bus by o) x.here.held ≡ Some own → IsEntry board bus tags own entry
      → Stands board bridge bus tags face x
      → Right face lane board bridge bus tags by o (completion_answer board read lane (before (is_done_for own.number) x.back.standing) (find (is_done_for own.number) x.back.standing))
      (taken_reply face entry.number read (done_at entry.number face.dones.dones)) x
  right_taken face by o read x own entry is_own_slot is stands =
      let n : ℕ = entry.number in
      let Answered : List Carried → ℕ → List DoneEntry → Type 0 =
      λ standing m dones. Right face lane board bridge bus tags by o (completion_answer board read lane (before (is_done_for m) standing) (find (is_done_for m) standing)) (taken_reply face n read (done_at n dones)) x in
      let items : List Carried = map item_of stands.line in
      let entries : List DoneEntry = done_entries stands.line in
      let Found : Option Carried → Option DoneEntry → Type 0 =
      λ item done. Right face lane board bridge bus tags by o (completion_answer board read lane (before (is_done_for n) items) item) (taken_reply face n read done) x in
      let P : Option DoneEntry → Type 0 = λ done. done_at n entries ≡ done → Found (option_map done_of done) done in
      let here : Found (option_map done_of (done_at n entries)) (done_at n entries) = (elim (done_at n entries) as P [
        | None ↦ λ _. record { is_answer = refl; stands = stands; sent = sym (append-nil x.here.flight) }
        | Some done ↦ λ found.
            let older : Bool = list_any is_post (before (is_done_for n) items) in
            let same : older ≡ is_behind done.arrival face.posts.posts =
            behind n 0 face.arrivals stands.line done stands.rising found ∙ ap (is_behind done.arrival) stands.posts in
            let yes_state : Reply × FaceState = (Retry Behind, face) in
            let no_state : Reply × FaceState = (
              Taken n done.outcome,
              record face {
                slots = record (face.slots) { slots = without_slot n face.slots.slots };
                dones = record (face.dones) { dones = without_done n face.dones.dones };
              },
            ) in
            let gone = left_line n 0 face.arrivals stands.line stands.rising in
            let left : Stands board bridge bus tags no_state.1 (slot_taken own.number x) = record {
              depths = record { posted = stands.depths.posted; posts = stands.depths.posts; asks = stands.depths.asks; slots = stands.depths.slots };
              kinds = Each-less (CanStandThere board) (is_done_for own.number) x.back.standing stands.kinds;
              line = without_line n stands.line;
              items = ap (λ m. less (is_done_for m) x.back.standing) is.number ∙ (ap (less (is_done_for n)) stands.items ∙ gone.items);
              rising = gone.rising;
              posts = gone.posts ∙ stands.posts;
              asks = gone.asks ∙ stands.asks;
              requests = stands.requests;
              dones = gone.dones ∙ ap (without_done n) stands.dones;
              slots = subst (λ m. AreEntries board bus tags (less (has_number m) x.here.held) (without_slot n face.slots.slots)) (sym is.number) (slots_without board bus tags n x.here.held face.slots.slots stands.slots);
              owed = stands.owed;
            } in
            let taken : Stands board bridge bus tags no_state.1 (slot_found (find (is_own board bus by o) x.here.held) x) =
            subst (λ (s : Option HeldSlot). Stands board bridge bus tags no_state.1 (slot_found s x)) (sym is_own_slot) left in
            let kept : x.here.flight ≡ (slot_found (find (is_own board bus by o) x.here.held) x).here.flight =
            subst (λ (s : Option HeldSlot). x.here.flight ≡ (slot_found s x).here.flight) (sym is_own_slot) refl in
            let kinds : AllByRecursion (CanStandThere board) items = subst (AllByRecursion (CanStandThere board)) stands.items stands.kinds in
            let passes : list_all (completion_passes board read) (before (is_done_for n) items) ≡ not (read && is_behind done.arrival face.posts.posts) =
            older_pass board read (before (is_done_for n) items) (Each-before (CanStandThere board) (is_done_for n) items kinds) ∙ ap (λ b. not (read && b)) same in
            let Q : Bool → Type 0 = λ b. Right face lane board bridge bus tags by o (cond b (Gives (Take done.outcome) (Lane lane)) (Retries Behind)) (cond (read && is_behind done.arrival face.posts.posts) yes_state no_state) x in
            let R : Bool → Type 0 = λ b. Right face lane board bridge bus tags by o (cond (not b) (Gives (Take done.outcome) (Lane lane)) (Retries Behind)) (cond b yes_state no_state) x in
            subst Q (sym passes) (elim (read && is_behind done.arrival face.posts.posts) as R [
              | true ↦ record { is_answer = refl; stands = stands; sent = sym (append-nil x.here.flight) }
              | false ↦ record { is_answer = refl; stands = taken; sent = sym kept ∙ sym (append-nil x.here.flight) }
            ])
      ]) refl in
      let at_items : Answered items n entries = subst (λ item. Found item (done_at n entries)) (sym (done_found n stands.line)) here in
      subst (λ standing. Answered standing own.number face.dones.dones) (sym stands.items)
      (subst (λ m. Answered items m face.dones.dones) (sym is.number) (subst (Answered items n) stands.dones at_items))

  right_delayed : (face : FaceState) (number tag : ℕ) (by : By) (o : OpId) (request : Request) (x : Both) (own : Option HeldSlot) (entry : Option SlotEntry)
      → find (is_own board bus by o) x.here.held ≡ own → OwnAlike board bus tags own entry
      → request_of board o bus ≡ Some request → tags by o ≡ tag → IsAt board bus by o
      → ((delayed_reply face number tag o request entry).0 ≡ Latched number → IsLowestFree number face.slots.slots) → Stands board bridge bus tags face x
      → Right face lane board bridge bus tags by o (delayed_answer board (is_read request.command) face.slots.depth lane x.here.held x.back.standing own) (delayed_reply face number tag o request entry) x
  right_delayed face number tag by o request x None None is_own_slot alike is_request is_tag is_at lowest stands = right_latched face number tag by o request x is_request is_tag is_at lowest stands
  right_delayed face number tag by o request x None (Some entry) is_own_slot alike is_request is_tag is_at lowest stands = absurd alike
  right_delayed face number tag by o request x (Some own) None is_own_slot alike is_request is_tag is_at lowest stands = absurd alike
  right_delayed face number tag by o request x (Some own) (Some entry) is_own_slot alike is_request is_tag is_at lowest stands =
      right_taken face by o (is_read request.command) x own entry is_own_slot alike stands

  pub right_reply : (face : FaceState) (number tag : ℕ) (by : By) (o : OpId) (request : Request) (x : Both)
      → request_of board o bus ≡ Some request → IsTag board bus tags by o tag → tags by o ≡ tag → IsAt board bus by o
      → ((reply_to face number tag o request).0 ≡ Latched number → IsLowestFree number face.slots.slots) → Stands board bridge bus tags face x
      → Right face lane board bridge bus tags by o (answered face lane board bus by o request x) (reply_to face number tag o request) x
  right_reply face number tag by o request x is_request is_tag tagged is_at lowest stands =
      let own : Option HeldSlot = find (is_own board bus by o) x.here.held in
      let entry : Option SlotEntry = find (is_own_entry tag request) face.slots.slots in
      let P : Bool → Type 0 = λ b. ((cond b (posts_reply face) (delayed_reply face number tag o request entry)).0 ≡ Latched number → IsLowestFree number face.slots.slots)
      → Right face lane board bridge bus tags by o
      (cond b (posted_answer x.here.owed face.posted lane) (delayed_answer board (is_read request.command) face.slots.depth lane x.here.held x.back.standing own))
      (cond b (posts_reply face) (delayed_reply face number tag o request entry)) x in
      (elim (is_posted request) as P [
        | true ↦ λ _. right_posted face by o x stands
        | false ↦ λ low. right_delayed face number tag by o request x own entry refl
            (own_alike board bus tags by o tag request x.here.held face.slots.slots is_request is_tag stands.slots) is_request tagged is_at low stands
      ]) lowest

-- the same of any two lanes that the half stands for
pub replies_of_lanes : (face : FaceState) (tag : ℕ) (o : OpId) (request : Request) (reply : Reply) (after : FaceState) → LowestReply face tag o request reply after → RepliesOfLanes face tag o request reply after
replies_of_lanes face tag o request reply after is = record {
  replies = λ board bridge bus tags world lane by presented stands.
      let x : Both = both world lane in
      let low : (reply_to face is.number tag o request).0 ≡ Latched is.number → IsLowestFree is.number face.slots.slots = λ e. is.lowest (is.reply_is ∙ e) in
      let right = right_reply board bridge bus tags lane face is.number tag by o request x presented.request_is presented.tells presented.tag_is presented.there low stands in
      let posted_depth : face.posted ≡ bridge.posted = stands.depths.posted in
      let slots_depth : face.slots.depth ≡ bridge.delayed = stands.depths.slots in
      let G : ℕ → ℕ → Answer = λ p d. cond (is_posted request) (posted_answer x.here.owed p lane)
      (delayed_answer board (is_read request.command) d lane x.here.held x.back.standing (find (is_own board bus by o) x.here.held)) in
      let answers : answered face lane board bus by o request x ≡ lane_answer board world bus by o request lane (Some bridge) =
      ap (λ p. G p face.slots.depth) posted_depth ∙ ap (G bridge.posted) slots_depth in
      let R : Reply → Type 0 = λ r. as_answer lane r ≡ answered face lane board bus by o request x in
      let S : Reply → Type 0 = λ r. Stands board bridge bus tags after (replied board bus by o r x) in
      let T : FaceState → Type 0 = λ f. Stands board bridge bus tags f (replied board bus by o (reply_to face is.number tag o request).0 x) in
      let F : Reply → Type 0 = λ r. (replied board bus by o r x).here.flight ≡ x.here.flight ++ sent_by o r in
      record {
        answer = subst R (sym is.reply_is) right.is_answer ∙ answers;
        stands = subst S (sym is.reply_is) (subst T (sym is.after_is) right.stands);
        sent = subst F (sym is.reply_is) right.sent;
      };
}
