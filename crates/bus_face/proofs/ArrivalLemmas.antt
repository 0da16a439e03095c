-- An arrival at half a bridge is that of the model.
use Rattle.std.proofs.Common.{◌≡◌, ℕ, ◌+◌, ◌-◌, List, [], ◌∷◌, ◌++◌, map, Option, Some, None, IsSome, option_to_list, refl, subst, sym, ap, ◌∙◌, arith}
use Rattle.std.proofs.lemmas.List.{append-nil}
use Rattle.list_facts.specs.Lists.{less}
use Rattle.list_facts.proofs.EachLemmas.{Each-push}
use Rattle.pci_command.specs.declared.request.Request.{Request}
use Rattle.pci_command.specs.declared.op_id.OpId.{OpId}
use Rattle.pci_command.specs.declared.op_id.Outcome.{Outcome}
use Rattle.board_model.specs.declared.bridge.Bridge.{Bridge}
use Rattle.board_model.specs.declared.board.Board.{Board}
use Rattle.board_model.specs.Requests.{request_of}
use Rattle.history_model.specs.declared.event.By.{By}
use Rattle.history_model.specs.declared.event.Mark.{Mark}
use Rattle.history_model.specs.declared.event.Mark.TheVariants.{Plain, Discard, Drop}
use Rattle.history_model.specs.declared.item.Carried.{Carried}
use Rattle.history_model.specs.declared.item.Carried.TheVariants.{Post, Ask, Done, Room, Gone}
use Rattle.history_model.specs.Lanes.{Both, has_number, effect_of, takes_effect}
use Rattle.history_model.proofs.facts.BridgeLemmas.{flip}
use Rattle.lane_items.specs.declared.requests.ask_table.Ask.{Ask as AskEntry}
use Rattle.law_lanes.specs.Kinds.{RightKind}
use Rattle.bus_face.specs.State.{FaceState}
use Rattle.bus_face.specs.Arrivals.{carried, sent_back, counted, freed, asks_arrived, dones_arrived, arrived}
use Rattle.bus_face.specs.Stands.{Arrived, post_entry, ask_entry, done_entry, ask_key, post_entries, ask_entries, done_entries, Rising, HasItsRequest, CanStandThere, Stands}
use Rattle.bus_face.specs.OnLanes.{IsItsRequest, after_arrival, ArrivesOnLanes}
use Rattle.lane_items.specs.declared.item.Item.{Item}
use Rattle.bus_face.proofs.StandsLemmas.{item_of, slots_without}

map-push : {X : Type 0} {Y : Type 0} (f : X → Y) (xs : List X) (x : X) → map f (xs ++ x ∷ []) ≡ map f xs ++ f x ∷ []
map-push f [] x = refl
map-push {Y = Y} f (first ∷ later) x = ap (λ (rest : List Y). f first ∷ rest) (map-push f later x)

append-push : {X : Type 0} (xs ys zs : List X) → xs ++ ys ++ zs ≡ xs ++ (ys ++ zs)
append-push [] ys zs = refl
append-push {X = X} (x ∷ xs) ys zs = ap (λ (rest : List X). x ∷ rest) (append-push xs ys zs)

posts-push : (line : List Arrived) (one : Arrived) → post_entries (line ++ one ∷ []) ≡ post_entries line ++ post_entry one.item one.arrival
posts-push [] one = append-nil (post_entry one.item one.arrival)
posts-push (first ∷ later) one = ap (λ rest. post_entry first.item first.arrival ++ rest) (posts-push later one) ∙ sym (append-push (post_entry first.item first.arrival) (post_entries later) (post_entry one.item one.arrival))

asks-push : (line : List Arrived) (one : Arrived) → ask_entries (line ++ one ∷ []) ≡ ask_entries line ++ ask_entry one.item one.arrival
asks-push [] one = append-nil (ask_entry one.item one.arrival)
asks-push (first ∷ later) one = ap (λ rest. ask_entry first.item first.arrival ++ rest) (asks-push later one) ∙ sym (append-push (ask_entry first.item first.arrival) (ask_entries later) (ask_entry one.item one.arrival))

dones-push : (line : List Arrived) (one : Arrived) → done_entries (line ++ one ∷ []) ≡ done_entries line ++ done_entry one.item one.arrival
dones-push [] one = append-nil (done_entry one.item one.arrival)
dones-push (first ∷ later) one = ap (λ rest. done_entry first.item first.arrival ++ rest) (dones-push later one) ∙ sym (append-push (done_entry first.item first.arrival) (done_entries later) (done_entry one.item one.arrival))

rising-push : (least last : ℕ) (line : List Arrived) (item : Carried) → Rising least last line → Rising least (last + 1) (line ++ record { item = item; arrival = last } ∷ [])
rising-push least last [] item rising = (rising, omega arith)
rising-push least last (first ∷ later) item rising = (rising.0, rising-push (first.arrival + 1) last later item rising.1)

rising-more : (least last : ℕ) (line : List Arrived) → Rising least last line → Rising least (last + 1) line
rising-more least last [] rising = omega arith
rising-more least last (first ∷ later) rising = (rising.0, rising-more (first.arrival + 1) last later rising.1)

module _ (board : Board) (bridge : Bridge) (bus : ℕ) (tags : By → OpId → ℕ) where
  -- nothing stands that did not stand before
  counted_stands : (face : FaceState) (x : Both) → Stands board bridge bus tags face x → Stands board bridge bus tags (counted face) x
  counted_stands face x old = record {
    depths = record { posted = old.depths.posted; posts = old.depths.posts; asks = old.depths.asks; slots = old.depths.slots };
    kinds = old.kinds;
    line = old.line;
    items = old.items;
    rising = rising-more 0 face.arrivals old.line old.rising;
    posts = old.posts;
    asks = old.asks;
    requests = old.requests;
    dones = old.dones;
    slots = old.slots;
    owed = old.owed;
  }

  -- the slot of a completion that is discarded, or of a dropped request, is free
  freed_stands : (face : FaceState) (x : Both) (slot : ℕ) → Stands board bridge bus tags face x
      → Stands board bridge bus tags (counted (freed face slot)) (record x { here = record (x.here) { held = less (has_number slot) x.here.held } })
  freed_stands face x slot old = record {
    depths = record { posted = old.depths.posted; posts = old.depths.posts; asks = old.depths.asks; slots = old.depths.slots };
    kinds = old.kinds;
    line = old.line;
    items = old.items;
    rising = rising-more 0 face.arrivals old.line old.rising;
    posts = old.posts;
    asks = old.asks;
    requests = old.requests;
    dones = old.dones;
    slots = slots_without board bus tags slot x.here.held face.slots.slots old.slots;
    owed = old.owed;
  }

  abbrev Comes : FaceState → Both → Carried → FaceState → Type 0
  Comes face x item after = Stands board bridge bus tags after (record x { back = record (x.back) { standing = x.back.standing ++ item ∷ [] } })

  post_stands : (face : FaceState) (x : Both) (op : OpId) (request : Option Request) (mark : Mark) → CanStandThere board (Post op) → Stands board bridge bus tags face x → Comes face x (Post op) (counted (arrived face (Post op) request mark))
  post_stands face x op request mark kind old =
      let one : Arrived = record { item = Post op; arrival = face.arrivals } in
      record {
        depths = record { posted = old.depths.posted; posts = old.depths.posts; asks = old.depths.asks; slots = old.depths.slots };
        kinds = Each-push (CanStandThere board) x.back.standing one.item old.kinds kind;
        line = old.line ++ one ∷ [];
        items = ap (λ standing. standing ++ Post op ∷ []) old.items ∙ sym (map-push item_of old.line one);
        rising = rising-push 0 face.arrivals old.line (Post op) old.rising;
        posts = posts-push old.line one ∙ ap (λ posts. posts ++ record { op = op; arrival = face.arrivals } ∷ []) old.posts;
        asks = asks-push old.line one ∙ (append-nil (ask_entries old.line) ∙ old.asks);
        requests = old.requests;
        dones = dones-push old.line one ∙ (append-nil (done_entries old.line) ∙ old.dones);
        slots = old.slots;
        owed = old.owed;
      }

  ask_stands : (face : FaceState) (x : Both) (op : OpId) (slot : ℕ) (request : Request) → request_of board op bus ≡ Some request → CanStandThere board (Ask op slot) → Stands board bridge bus tags face x
      → Comes face x (Ask op slot) (counted (asks_arrived face op slot (Some request)))
  ask_stands face x op slot request is kind old =
      let one : Arrived = record { item = Ask op slot; arrival = face.arrivals } in
      let entry : AskEntry = record { op = op; slot = slot; request = request; arrival = face.arrivals } in
      record {
        depths = record { posted = old.depths.posted; posts = old.depths.posts; asks = old.depths.asks; slots = old.depths.slots };
        kinds = Each-push (CanStandThere board) x.back.standing one.item old.kinds kind;
        line = old.line ++ one ∷ [];
        items = ap (λ standing. standing ++ Ask op slot ∷ []) old.items ∙ sym (map-push item_of old.line one);
        rising = rising-push 0 face.arrivals old.line (Ask op slot) old.rising;
        posts = posts-push old.line one ∙ (append-nil (post_entries old.line) ∙ old.posts);
        asks = asks-push old.line one ∙ (ap (λ asks. asks ++ ask_key entry ∷ []) old.asks ∙ sym (map-push ask_key face.asks.asks entry));
        requests = Each-push (HasItsRequest board bus) face.asks.asks entry old.requests is;
        dones = dones-push old.line one ∙ (append-nil (done_entries old.line) ∙ old.dones);
        slots = old.slots;
        owed = old.owed;
      }

  done_stands : (face : FaceState) (x : Both) (op : OpId) (slot : ℕ) (outcome : Outcome) → CanStandThere board (Done op slot outcome) → Stands board bridge bus tags face x → Comes face x (Done op slot outcome) (counted (dones_arrived face op slot outcome))
  done_stands face x op slot outcome kind old =
      let one : Arrived = record { item = Done op slot outcome; arrival = face.arrivals } in
      record {
        depths = record { posted = old.depths.posted; posts = old.depths.posts; asks = old.depths.asks; slots = old.depths.slots };
        kinds = Each-push (CanStandThere board) x.back.standing one.item old.kinds kind;
        line = old.line ++ one ∷ [];
        items = ap (λ standing. standing ++ Done op slot outcome ∷ []) old.items ∙ sym (map-push item_of old.line one);
        rising = rising-push 0 face.arrivals old.line (Done op slot outcome) old.rising;
        posts = posts-push old.line one ∙ (append-nil (post_entries old.line) ∙ old.posts);
        asks = asks-push old.line one ∙ (append-nil (ask_entries old.line) ∙ old.asks);
        requests = old.requests;
        dones = dones-push old.line one ∙ ap (λ dones. dones ++ record { slot = slot; op = op; outcome = outcome; arrival = face.arrivals } ∷ []) old.dones;
        slots = old.slots;
        owed = old.owed;
      }

  asks_stand : (face : FaceState) (x : Both) (op : OpId) (slot : ℕ) (request : Option Request) → (request_of board op bus ≡ request) × IsSome request → CanStandThere board (Ask op slot) → Stands board bridge bus tags face x
      → Comes face x (Ask op slot) (counted (asks_arrived face op slot request))
  asks_stand face x op slot None is kind old = cc
  asks_stand face x op slot (Some request) is kind old = ask_stands face x op slot request is.0 kind old

  pub arrived_stands : (face : FaceState) (x : Both) (item : Carried) (request : Option Request) (mark : Mark) → IsItsRequest board bus item request → RightKind board item → Stands board bridge bus tags face x
      → Stands board bridge bus tags (counted (arrived face item request mark)) (flip (takes_effect (effect_of mark item) item (flip x)))
  arrived_stands face x (Post op) request mark is kind old = post_stands face x op request mark (tt, kind) old
  arrived_stands face x (Ask op slot) request Plain is kind old = asks_stand face x op slot request is (tt, kind) old
  arrived_stands face x (Ask op slot) request Discard is kind old = asks_stand face x op slot request is (tt, kind) old
  arrived_stands face x (Ask op slot) request Drop is kind old =
      let more = counted_stands face x old in
      record { depths = record { posted = more.depths.posted; posts = more.depths.posts; asks = more.depths.asks; slots = more.depths.slots }; kinds = more.kinds; line = more.line; items = more.items; rising = more.rising; posts = more.posts; asks = more.asks; requests = more.requests; dones = more.dones; slots = more.slots; owed = more.owed }
  arrived_stands face x (Done op slot outcome) request Plain is kind old = done_stands face x op slot outcome (tt, kind) old
  arrived_stands face x (Done op slot outcome) request Discard is kind old = freed_stands face x slot old
  arrived_stands face x (Done op slot outcome) request Drop is kind old = done_stands face x op slot outcome (tt, kind) old
  arrived_stands face x Room request mark is kind old =
      record {
        depths = record { posted = old.depths.posted; posts = old.depths.posts; asks = old.depths.asks; slots = old.depths.slots };
        kinds = old.kinds;
        line = old.line;
        items = old.items;
        rising = rising-more 0 face.arrivals old.line old.rising;
        posts = old.posts;
        asks = old.asks;
        requests = old.requests;
        dones = old.dones;
        slots = old.slots;
        owed = ap (λ n. n - 1) old.owed;
      }
  arrived_stands face x (Gone slot) request mark is kind old = freed_stands face x slot old

-- what goes back at once is what is sent
back_sent : (item : Carried) (mark : Mark) (stamp : ℕ) (x : Both) → (after_arrival mark item x).here.flight ≡ x.here.flight ++ map carried (option_to_list (sent_back item mark stamp))
back_sent (Post op) mark stamp x = sym (append-nil x.here.flight)
back_sent (Ask op slot) Plain stamp x = sym (append-nil x.here.flight)
back_sent (Ask op slot) Discard stamp x = sym (append-nil x.here.flight)
back_sent (Ask op slot) Drop stamp x = refl
back_sent (Done op slot outcome) Plain stamp x = sym (append-nil x.here.flight)
back_sent (Done op slot outcome) Discard stamp x = sym (append-nil x.here.flight)
back_sent (Done op slot outcome) Drop stamp x = sym (append-nil x.here.flight)
back_sent Room mark stamp x = sym (append-nil x.here.flight)
back_sent (Gone slot) mark stamp x = sym (append-nil x.here.flight)

pub arrives_on_lanes : (face : FaceState) (item : Carried) (request : Option Request) (mark : Mark) (stamp : ℕ) (after : FaceState) (back : Option Item)
    → after ≡ counted (arrived face item request mark) → back ≡ sent_back item mark stamp → ArrivesOnLanes face item request mark after back
arrives_on_lanes face item request mark stamp after back after_is back_is = record {
  stands = λ board bridge bus tags x its kind stands.
      subst (λ (f : FaceState). Stands board bridge bus tags f (after_arrival mark item x)) (sym after_is) (arrived_stands board bridge bus tags face x item request mark its kind stands);
  sent = λ x. back_sent item mark stamp x ∙ ap (λ b. x.here.flight ++ map carried (option_to_list b)) (sym back_is);
}
