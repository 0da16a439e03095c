-- Each move of a bus keeps its side of a bridge.
use Rattle.std.proofs.Common.{◌≡◌, ℕ, ◌+◌, ◌-◌, ◌<◌, ◌≤◌, Bool, true, false, cond, List, [], ◌∷◌, ◌++◌, length, Option, Some, None, refl, sym, ap, subst, arith, length-append}
use Rattle.std.specs.List.{find}
use Rattle.list_facts.specs.Lists.{less, total}
use Rattle.list_facts.proofs.TotalLemmas.{found, total-append, total-push, total-less}
use Rattle.list_facts.proofs.FindLemmas.{length-less}
use Rattle.pci_command.specs.declared.op_id.OpId.{OpId}
use Rattle.pci_command.specs.declared.op_id.Outcome.{Outcome}
use Rattle.board_model.specs.declared.bridge.Lane.{Lane as BridgeLane}
use Rattle.board_model.specs.declared.board.Board.{Board}
use Rattle.history_model.specs.declared.event.By.{By}
use Rattle.history_model.specs.declared.event.Event.{Event}
use Rattle.history_model.specs.declared.event.Mark.{Mark}
use Rattle.history_model.specs.declared.event.Mark.TheVariants.{Plain, Discard, Drop}
use Rattle.history_model.specs.declared.event.Step.{Step}
use Rattle.history_model.specs.declared.event.Step.TheVariants.{Land, Part, Read, Accept, Latch, Take, Stall, MasterAbort, TargetAbort}
use Rattle.history_model.specs.declared.item.Carried.{Carried}
use Rattle.history_model.specs.declared.item.Carried.TheVariants.{Post, Ask, Done, Room, Gone}
use Rattle.history_model.specs.declared.item.Slot.{Slot}
use Rattle.history_model.specs.Lanes.{Both, is_of, is_done_for, has_number, lowest_free, post_enters, ask_enters, reply_to, item_ends, slot_taken, effect_of, takes_effect, came_off, arrives_first}
use Rattle.history_model.specs.World.{World, slot_found, enters, both}
use Rattle.history_model.proofs.facts.AnswerLemmas.{AtLaneIn}
use Rattle.history_model.proofs.facts.BridgeLemmas.{flip}
use Rattle.law_lanes.specs.Credits.{post_count, room_count}
use Rattle.law_local.specs.room.Sides.{ask_count, done_count, answer_count, Side, HasDepths}

-- one at most leaves
less_length : {X : Type 0} (test : X → Bool) (xs : List X) → length xs ≤ length (less test xs) + 1
less_length test [] = omega arith
less_length test (x ∷ xs) =
    let P : Bool → Type 0 = λ b. length (x ∷ xs) ≤ length (cond b xs (x ∷ less test xs)) + 1 in
    elim (test x) as P [ true ↦ omega arith | false ↦ omega (arith, less_length test xs) ]

-- what goes back for an item: a credit for a posted write, an answer for a delayed request, and nothing else
record Replies (reply : List Carried) (item : Option Carried) : Type 0 where
  pub posts : total post_count reply ≡ 0
  pub rooms : total room_count reply ≡ found post_count item
  pub asks : total ask_count reply ≡ 0
  pub answers : total answer_count reply ≡ found ask_count item

replies : (outcome : Outcome) (item : Option Carried) → Replies (reply_to outcome item) item
replies outcome None = record { posts = refl; rooms = refl; asks = refl; answers = refl }
replies outcome (Some (Post op)) = record { posts = refl; rooms = refl; asks = refl; answers = refl }
replies outcome (Some (Ask op slot)) = record { posts = refl; rooms = refl; asks = refl; answers = refl }
replies outcome (Some (Done op slot given)) = record { posts = refl; rooms = refl; asks = refl; answers = refl }
replies outcome (Some Room) = record { posts = refl; rooms = refl; asks = refl; answers = refl }
replies outcome (Some (Gone slot)) = record { posts = refl; rooms = refl; asks = refl; answers = refl }

module _ (posted delayed : ℕ) (came : List Carried) where
  -- a posted write is accepted
  post_side : (o : OpId) (x : Both) → x.here.owed < posted → Side posted delayed came x → Side posted delayed came (post_enters o x)
  post_side o x few old =
      let flight : List Carried = x.here.flight in
      record {
        posts = omega (arith, old.posts, total-push post_count flight (Post o));
        rooms = omega (arith, old.rooms, total-push room_count flight (Post o));
        asks = omega (arith, old.asks, total-push ask_count flight (Post o));
        answers = omega (arith, old.answers, total-push answer_count flight (Post o));
        few_owed = omega (arith, few);
        few_held = old.few_held;
      }

  -- a delayed request is latched
  ask_side : (by : By) (o : OpId) (x : Both) → length x.here.held < delayed → Side posted delayed came x → Side posted delayed came (ask_enters by o x)
  ask_side by o x few old =
      let flight : List Carried = x.here.flight in
      let number : ℕ = lowest_free x.here.held in
      let slot : Slot = record { number = number; by = by; op = o } in
      let more : length (x.here.held ++ slot ∷ []) ≡ length x.here.held + 1 = omega (arith, length-append x.here.held (slot ∷ [])) in
      record {
        posts = omega (arith, old.posts, total-push post_count flight (Ask o number));
        rooms = omega (arith, old.rooms, total-push room_count flight (Ask o number));
        asks = omega (arith, old.asks, total-push ask_count flight (Ask o number), more);
        answers = omega (arith, old.answers, total-push answer_count flight (Ask o number));
        few_owed = old.few_owed;
        few_held = omega (arith, few, more);
      }

  -- a completion is taken, which stands for its slot
  take_side : (number slot : ℕ) (op : OpId) (outcome : Outcome) (x : Both) → find (is_done_for number) x.back.standing ≡ Some (Done op slot outcome) → Side posted delayed came x
      → Side posted delayed came (slot_taken number x)
  take_side number slot op outcome x stands old =
      let test : Carried → Bool = is_done_for number in
      let is : found done_count (find test x.back.standing) ≡ 1 = ap (found done_count) stands in
      record {
        posts = old.posts;
        rooms = omega (arith, old.rooms, total-less post_count test x.back.standing);
        asks = omega (arith, old.asks, total-less done_count test x.back.standing, is, less_length (has_number number) x.here.held);
        answers = omega (arith, old.answers, total-less ask_count test x.back.standing);
        few_owed = old.few_owed;
        few_held = omega (arith, old.few_held, length-less (has_number number) x.here.held);
      }

  -- an item that the lane back presented ends
  pub ends_side : (o : OpId) (outcome : Outcome) (x : Both) → Side posted delayed came (flip x) → Side posted delayed came (flip (item_ends o outcome x))
  ends_side o outcome x old =
      let item : Option Carried = find (is_of o) x.here.standing in
      let reply : List Carried = reply_to outcome item in
      let goes = replies outcome item in
      record {
        posts = omega (arith, old.posts, total-append post_count x.back.flight reply, goes.posts);
        rooms = omega (arith, old.rooms, total-append room_count x.back.flight reply, goes.rooms, total-less post_count (is_of o) x.here.standing);
        asks = omega (arith, old.asks, total-append ask_count x.back.flight reply, goes.asks, total-less done_count (is_of o) x.here.standing);
        answers = omega (arith, old.answers, total-append answer_count x.back.flight reply, goes.answers, total-less ask_count (is_of o) x.here.standing);
        few_owed = old.few_owed;
        few_held = old.few_held;
      }

  -- an item that arrived stands
  stands_side : (item : Carried) (rest : List Carried) (x : Both) → x.here.flight ≡ item ∷ rest → done_count item ≤ answer_count item → Side posted delayed came (flip x)
      → Side posted delayed came (flip (record x { here = record (came_off item rest x.here) { standing = x.here.standing ++ item ∷ [] } }))
  stands_side item rest x is done old =
      let standing : List Carried = x.here.standing in
      record {
        posts = omega (arith, old.posts, ap (total room_count) is);
        rooms = omega (arith, old.rooms, ap (total post_count) is, total-push post_count standing item);
        asks = omega (arith, old.asks, ap (total answer_count) is, total-push done_count standing item, done);
        answers = omega (arith, old.answers, ap (total ask_count) is, total-push ask_count standing item);
        few_owed = old.few_owed;
        few_held = old.few_held;
      }

  -- an item that arrived frees a slot: it is an answer
  frees_side : (item : Carried) (slot : ℕ) (rest : List Carried) (x : Both) → x.here.flight ≡ item ∷ rest → answer_count item ≡ 1 → Side posted delayed came (flip x)
      → Side posted delayed came (flip (record { here = came_off item rest x.here; back = record (x.back) { held = less (has_number slot) x.back.held } }))
  frees_side item slot rest x is answers old =
      record {
        posts = omega (arith, old.posts, ap (total room_count) is);
        rooms = omega (arith, old.rooms, ap (total post_count) is);
        asks = omega (arith, old.asks, ap (total answer_count) is, answers, less_length (has_number slot) x.back.held);
        answers = omega (arith, old.answers, ap (total ask_count) is);
        few_owed = old.few_owed;
        few_held = omega (arith, old.few_held, length-less (has_number slot) x.back.held);
      }

  -- a credit arrived
  credits_side : (rest : List Carried) (x : Both) → x.here.flight ≡ Room ∷ rest → Side posted delayed came (flip x)
      → Side posted delayed came (flip (record { here = came_off Room rest x.here; back = record (x.back) { owed = x.back.owed - 1 } }))
  credits_side rest x is old =
      record {
        posts = omega (arith, old.posts, ap (total room_count) is);
        rooms = omega (arith, old.rooms, ap (total post_count) is);
        asks = omega (arith, old.asks, ap (total answer_count) is);
        answers = omega (arith, old.answers, ap (total ask_count) is);
        few_owed = omega (arith, old.few_owed);
        few_held = old.few_held;
      }

  -- a delayed request is dropped as it arrives, and the word of it goes back
  drops_side : (o : OpId) (slot : ℕ) (rest : List Carried) (x : Both) → x.here.flight ≡ Ask o slot ∷ rest → Side posted delayed came (flip x)
      → Side posted delayed came (flip (record { here = came_off (Ask o slot) rest x.here; back = record (x.back) { flight = x.back.flight ++ Gone slot ∷ [] } }))
  drops_side o slot rest x is old =
      let flight : List Carried = x.back.flight in
      record {
        posts = omega (arith, old.posts, ap (total room_count) is, total-push post_count flight (Gone slot));
        rooms = omega (arith, old.rooms, ap (total post_count) is, total-push room_count flight (Gone slot));
        asks = omega (arith, old.asks, ap (total answer_count) is, total-push ask_count flight (Gone slot));
        answers = omega (arith, old.answers, ap (total ask_count) is, total-push answer_count flight (Gone slot));
        few_owed = old.few_owed;
        few_held = old.few_held;
      }

  -- the oldest item that comes on the lane back arrives
  item_side : (mark : Mark) (item : Carried) (rest : List Carried) (x : Both) → x.here.flight ≡ item ∷ rest → Side posted delayed came (flip x)
      → Side posted delayed came (flip (takes_effect (effect_of mark item) item (record x { here = came_off item rest x.here })))
  item_side mark (Post op) rest x is old = stands_side (Post op) rest x is (omega arith) old
  item_side Plain (Ask op slot) rest x is old = stands_side (Ask op slot) rest x is (omega arith) old
  item_side Discard (Ask op slot) rest x is old = stands_side (Ask op slot) rest x is (omega arith) old
  item_side Drop (Ask op slot) rest x is old = drops_side op slot rest x is old
  item_side Plain (Done op slot outcome) rest x is old = stands_side (Done op slot outcome) rest x is (omega arith) old
  item_side Discard (Done op slot outcome) rest x is old = frees_side (Done op slot outcome) slot rest x is refl old
  item_side Drop (Done op slot outcome) rest x is old = stands_side (Done op slot outcome) rest x is (omega arith) old
  item_side mark Room rest x is old = credits_side rest x is old
  item_side mark (Gone slot) rest x is old = frees_side (Gone slot) slot rest x is refl old

  -- so it is where something is in flight, and else nothing happens
  pub arrives_side : (mark : Mark) (flight : List Carried) (x : Both) → x.here.flight ≡ flight → Side posted delayed came (flip x) → Side posted delayed came (flip (arrives_first mark flight x))
  arrives_side mark [] x is old = old
  arrives_side mark (item ∷ rest) x is old = item_side mark item rest x is old

  -- what a step does at the lane that claimed
  pub enters_side : (board : Board) (w : World) (p : List Event) (bus : ℕ) (by : By) (o : OpId) (step : Step) (lane : BridgeLane) → HasDepths board lane posted delayed
      → AtLaneIn board w p bus by o step lane → Side posted delayed came (both w lane) → Side posted delayed came (enters board bus by o step (both w lane))
  enters_side board w p bus by o Land lane depths at old = absurd at.gives
  enters_side board w p bus by o (Part phases) lane depths at old = absurd at.gives
  enters_side board w p bus by o (Read value) lane depths at old = absurd at.gives
  enters_side board w p bus by o Accept lane depths at old =
      let most = depths at.bridge at.is_bridge in
      post_side o (both w lane) (omega (arith, at.gives.1, most.0)) old
  enters_side board w p bus by o Latch lane depths at old =
      let most = depths at.bridge at.is_bridge in
      ask_side by o (both w lane) (omega (arith, at.gives.2, most.1)) old
  enters_side board w p bus by o (Take outcome) lane depths at old =
      let taken = at.gives.1 in
      let Goal : Option Slot → Type 0 = λ own. Side posted delayed came (slot_found own (both w lane)) in
      subst Goal (sym taken.is_own_slot) (take_side taken.slot.number taken.number taken.op outcome (both w lane) taken.stands old)
  enters_side board w p bus by o Stall lane depths at old = absurd at.gives
  enters_side board w p bus by o MasterAbort lane depths at old = absurd at.gives
  enters_side board w p bus by o TargetAbort lane depths at old = absurd at.gives
