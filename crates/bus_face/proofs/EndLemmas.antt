-- What half a bridge offers and ends by its tables, where it stands for two lanes.
use Rattle.std.proofs.Common.{◌≡◌, ℕ, ◌+◌, ◌<◌, ◌≤◌, Bool, true, false, cond, not, ◌&&◌, ◌||◌, nat_lt, List, [], ◌∷◌, ◌++◌, map, length, drop, Some, refl, sym, ap, subst, ◌∙◌, arith}
use Rattle.std.specs.List.{find, list_any, AllByRecursion, Contains}
use Rattle.std.proofs.lemmas.List.{append_assoc}
use Rattle.std.proofs.lemmas.Bool.Decides.{nat_tests}
use Rattle.list_facts.specs.Lists.{less}
use Rattle.list_facts.proofs.EachLemmas.{Each-append, Each-weaker, Each-less}
use Rattle.history_model.proofs.facts.RequestLemmas.{same_op_self}
use Rattle.pci_command.specs.declared.request.Request.{Request}
use Rattle.pci_command.specs.declared.op_id.OpId.{OpId}
use Rattle.pci_command.specs.declared.op_id.Outcome.{Outcome}
use Rattle.pci_command.specs.Same.{same_op, same_request}
use Rattle.board_model.specs.declared.bridge.Bridge.{Bridge}
use Rattle.board_model.specs.declared.board.Board.{Board}
use Rattle.board_model.specs.Requests.{request_of, both_same, same_requests}
use Rattle.history_model.specs.declared.event.By.{By}
use Rattle.history_model.specs.declared.item.Carried.{Carried}
use Rattle.history_model.specs.declared.item.Carried.TheVariants.{Post, Ask, Done, Room, Gone}
use Rattle.history_model.specs.Lanes.{Both, is_of, reply_to}
use Rattle.history_model.specs.Answers.{asked, asks_same, presents}
use Rattle.lane_items.specs.declared.item.Item.{Item}
use Rattle.lane_items.specs.declared.posts.posted_table.Post.{Post as PostEntry}
use Rattle.lane_items.specs.declared.requests.ask_table.Ask.{Ask as AskEntry}
use Rattle.bus_face.specs.declared.offer.Offer.{Offer}
use Rattle.bus_face.specs.State.{FaceState}
use Rattle.bus_face.specs.Arrivals.{carried}
use Rattle.bus_face.specs.Offers.{came_before, has_equal, is_offered, ask_offer, offer_where, ask_offers, post_offers, offers_of, offered_item, is_offer_of, is_ask_for, left_by, answered_with}
use Rattle.bus_face.specs.Stands.{Arrived, AskKey, ask_key, ask_entry, post_entry, post_entries, ask_entries, done_entries, Rising, HasItsRequest, CanStandThere, Stands}
use Rattle.bus_face.specs.OnLanes.{OffersOfLanes, after_end, EndsOnLanes}
use Rattle.bus_face.proofs.StandsLemmas.{item_of, rising_lower}
use Rattle.bus_face.proofs.PlaceLemmas.{Each-contained}
use Rattle.bus_face.proofs.OfferLemmas.{has_same, line_offers, delayed, HasOne, any_push, presented_of, oldest_of}

-- of entries of a line that came later, none came before its posted write
none_offered : (post : PostEntry) (later : List PostEntry) (older asks : List AskEntry) → AllByRecursion (λ (ask : AskEntry). post.arrival ≤ ask.arrival) asks → ask_offers (post ∷ later) older asks ≡ []
none_offered post later older [] from = refl
none_offered post later older (ask ∷ asks) from =
    let behind : nat_lt ask.arrival post.arrival ≡ false = let f = from.0 in grind (arith, nat_tests) in
    rw behind (none_offered post later (older ++ ask ∷ []) asks from.1)

came_step : (least last : ℕ) (item : Carried) (at : ℕ) (later : List Arrived) (asks : List AskEntry) → least ≤ at
    → ((rest : List AskEntry) → ask_entries later ≡ map ask_key rest → AllByRecursion (λ (ask : AskEntry). least ≤ ask.arrival) rest)
    → ask_entry item at ++ ask_entries later ≡ map ask_key asks → AllByRecursion (λ (ask : AskEntry). least ≤ ask.arrival) asks
came_step least last (Post op) at later asks from rest keys = rest asks keys
came_step least last (Ask op slot) at later [] from rest keys = cc
came_step least last (Ask op slot) at later (ask ∷ asks) from rest keys =
    let arrival : at ≡ ask.arrival = let key : record { op = op; slot = slot; arrival = at } ≡ ask_key ask = cc in ap (λ (k : AskKey). k.arrival) key in
    (subst (λ n. least ≤ n) arrival from, rest asks (cc))
came_step least last (Done op slot outcome) at later asks from rest keys = rest asks keys
came_step least last Room at later asks from rest keys = rest asks keys
came_step least last (Gone slot) at later asks from rest keys = rest asks keys

came_from : (least last : ℕ) (line : List Arrived) (asks : List AskEntry) → Rising least last line → ask_entries line ≡ map ask_key asks → AllByRecursion (λ (ask : AskEntry). least ≤ ask.arrival) asks
came_from least last [] [] rising keys = tt
came_from least last [] (ask ∷ asks) rising keys = cc
came_from least last (one ∷ later) asks rising keys =
    came_step least last one.item one.arrival later asks rising.0
    (λ rest e. came_from least last later rest (rising_lower least (one.arrival + 1) last later (omega (arith, rising.0)) rising.1) e) keys

-- posted writes that came later
first_step : (at least last : ℕ) (item : Carried) (arrival : ℕ) (later : List Arrived) → at < arrival → came_before at (post_entries later) ≡ true → came_before at (post_entry item arrival ++ post_entries later) ≡ true
first_step at least last (Post op) arrival later below rest = grind (arith, nat_tests)
first_step at least last (Ask op slot) arrival later below rest = rest
first_step at least last (Done op slot outcome) arrival later below rest = rest
first_step at least last Room arrival later below rest = rest
first_step at least last (Gone slot) arrival later below rest = rest

first_after : (at least last : ℕ) (line : List Arrived) → at < least → Rising least last line → came_before at (post_entries line) ≡ true
first_after at least last [] below rising = refl
first_after at least last (one ∷ later) below rising =
    first_step at least last one.item one.arrival later (omega (arith, rising.0))
    (first_after at least last later below (rising_lower least (one.arrival + 1) last later (omega (arith, rising.0)) rising.1))

or_nothing : (b : Bool) → (b || false) ≡ b
or_nothing true = refl
or_nothing false = refl

module _ (board : Board) (bus : ℕ) where
  -- the entries of older requests are equal to a request where the older items are
  abbrev AreOlder : List AskEntry → List Carried → Type 0
  AreOlder entries older = (o : OpId) (request : Request) → request_of board o bus ≡ Some request → has_equal request entries ≡ has_same board bus o older

  older_ask : (entries : List AskEntry) (older : List Carried) (ask : AskEntry) (op : OpId) (slot : ℕ) → ask.op ≡ op → HasItsRequest board bus ask → AreOlder entries older → AreOlder (entries ++ ask ∷ []) (older ++ Ask op slot ∷ [])
  older_ask entries older ask op slot ops its are o request is =
      let one : same_request request ask.request ≡ same_requests board bus o op =
      sym (ap (λ r. both_same r (request_of board op bus)) is ∙ ap (both_same (Some request)) (ap (λ p. request_of board p bus) (sym ops) ∙ its)) in
      any_push (λ (other : AskEntry). same_request request other.request) entries ask
      ∙ (ap (λ b. b || same_request request ask.request) (are o request is) ∙ (ap (λ b. has_same board bus o older || b) one ∙ sym (any_push (λ item. asks_same board bus (Some o) (asked item)) older (Ask op slot))))

  older_other : (entries : List AskEntry) (older : List Carried) (item : Carried) → ((o : OpId) → asks_same board bus (Some o) (asked item) ≡ false) → AreOlder entries older → AreOlder entries (older ++ item ∷ [])
  older_other entries older item none are o request is =
      are o request is ∙ sym (any_push (λ i. asks_same board bus (Some o) (asked i)) older item ∙ (ap (λ b. has_same board bus o older || b) (none o) ∙ or_nothing (has_same board bus o older)))

  offers_step : (last : ℕ) (item : Carried) (at : ℕ) (later : List Arrived) → Rising (at + 1) last later
      → ((entries rest : List AskEntry) (older : List Carried) → AreOlder entries older → ask_entries later ≡ map ask_key rest → AllByRecursion (HasItsRequest board bus) rest
      → ask_offers (post_entries later) entries rest ++ post_offers (post_entries later) ≡ line_offers board bus older (map item_of later))
      → (entries asks : List AskEntry) (older : List Carried) → AreOlder entries older → ask_entry item at ++ ask_entries later ≡ map ask_key asks → AllByRecursion (HasItsRequest board bus) asks
      → ask_offers (post_entry item at ++ post_entries later) entries asks ++ post_offers (post_entry item at ++ post_entries later) ≡ line_offers board bus older (item ∷ map item_of later)
  offers_step last (Post op) at later rising rest entries asks older are keys its =
      let from = came_from at last later asks (rising_lower at (at + 1) last later (omega arith) rising) keys in
      let none = none_offered (record { op = op; arrival = at }) (post_entries later) entries asks from in
      rw none refl
  offers_step last (Ask op slot) at later rising rest entries [] older are keys its = cc
  offers_step last (Ask op slot) at later rising rest entries (ask ∷ asks) older are keys its =
      let key : record { op = op; slot = slot; arrival = at } ≡ ask_key ask = cc in
      let tail : ask_entries later ≡ map ask_key asks = cc in
      let ops : ask.op ≡ op = sym (ap (λ (k : AskKey). k.op) key) in
      let offer : delayed op slot ≡ ask_offer ask = ap (λ (k : AskKey). delayed k.op k.slot) key in
      let arrival : at ≡ ask.arrival = ap (λ (k : AskKey). k.arrival) key in
      let is : request_of board op bus ≡ Some ask.request = ap (λ o. request_of board o bus) (sym ops) ∙ its.0 in
      let first : came_before ask.arrival (post_entries later) ≡ true = subst (λ n. came_before n (post_entries later) ≡ true) arrival (first_after at (at + 1) last later (omega arith) rising) in
      let offered : is_offered (post_entries later) entries ask ≡ not (has_same board bus op older) =
      ap (λ b. b && not (has_equal ask.request entries)) first ∙ ap not (are op ask.request is) in
      let more = rest (entries ++ ask ∷ []) asks (older ++ Ask op slot ∷ []) (older_ask entries older ask op slot ops its.0 are) tail its.1 in
      let here : List Offer = offer_where (is_offered (post_entries later) entries ask) (ask_offer ask) in
      append_assoc here (ask_offers (post_entries later) (entries ++ ask ∷ []) asks) (post_offers (post_entries later))
      ∙ (ap (λ (l : List Offer). here ++ l) more
      ∙ (ap (λ b. offer_where b (ask_offer ask) ++ line_offers board bus (older ++ Ask op slot ∷ []) (map item_of later)) offered
      ∙ ap (λ (o : Offer). offer_where (not (has_same board bus op older)) o ++ line_offers board bus (older ++ Ask op slot ∷ []) (map item_of later)) (sym offer)))
  offers_step last (Done op slot outcome) at later rising rest entries asks older are keys its =
      rest entries asks (older ++ Done op slot outcome ∷ []) (older_other entries older (Done op slot outcome) (λ o. refl) are) keys its
  offers_step last Room at later rising rest entries asks older are keys its = rest entries asks (older ++ Room ∷ []) (older_other entries older Room (λ o. refl) are) keys its
  offers_step last (Gone slot) at later rising rest entries asks older are keys its = rest entries asks (older ++ Gone slot ∷ []) (older_other entries older (Gone slot) (λ o. refl) are) keys its

  -- what is offered by the tables is read off the line
  offers_line : (least last : ℕ) (line : List Arrived) → Rising least last line → (entries asks : List AskEntry) (older : List Carried) → AreOlder entries older → ask_entries line ≡ map ask_key asks
      → AllByRecursion (HasItsRequest board bus) asks → ask_offers (post_entries line) entries asks ++ post_offers (post_entries line) ≡ line_offers board bus older (map item_of line)
  offers_line least last [] rising entries [] older are keys its = refl
  offers_line least last [] rising entries (ask ∷ asks) older are keys its = cc
  offers_line least last (one ∷ later) rising entries asks older are keys its =
      offers_step last one.item one.arrival later rising.1 (λ es rest os a k i. offers_line (one.arrival + 1) last later rising.1 es rest os a k i) entries asks older are keys its

  ones_step : (item : Carried) (at : ℕ) (later : List Arrived) → ((rest : List AskEntry) → ask_entries later ≡ map ask_key rest → AllByRecursion (HasItsRequest board bus) rest → AllByRecursion (HasOne board bus) (map item_of later))
      → (asks : List AskEntry) → ask_entry item at ++ ask_entries later ≡ map ask_key asks → AllByRecursion (HasItsRequest board bus) asks → HasOne board bus item × AllByRecursion (HasOne board bus) (map item_of later)
  ones_step (Post op) at later rest asks keys its = (tt, rest asks keys its)
  ones_step (Ask op slot) at later rest [] keys its = cc
  ones_step (Ask op slot) at later rest (ask ∷ asks) keys its =
      let key : record { op = op; slot = slot; arrival = at } ≡ ask_key ask = cc in
      let tail : ask_entries later ≡ map ask_key asks = cc in
      ((ask.request, ap (λ (k : AskKey). request_of board k.op bus) key ∙ its.0), rest asks tail its.1)
  ones_step (Done op slot outcome) at later rest asks keys its = (tt, rest asks keys its)
  ones_step Room at later rest asks keys its = (tt, rest asks keys its)
  ones_step (Gone slot) at later rest asks keys its = (tt, rest asks keys its)

  ones_line : (line : List Arrived) (asks : List AskEntry) → ask_entries line ≡ map ask_key asks → AllByRecursion (HasItsRequest board bus) asks → AllByRecursion (HasOne board bus) (map item_of line)
  ones_line [] asks keys its = tt
  ones_line (one ∷ later) asks keys its = ones_step one.item one.arrival later (λ rest k i. ones_line later rest k i) asks keys its

  offers_are : (bridge : Bridge) (tags : By → OpId → ℕ) (face : FaceState) (x : Both) → Stands board bridge bus tags face x → offers_of face ≡ line_offers board bus [] x.back.standing
  offers_are bridge tags face x stands =
      let nothing : AreOlder [] [] = λ o request is. refl in
      let whole = offers_line 0 face.arrivals stands.line stands.rising [] face.asks.asks [] nothing stands.asks stands.requests in
      ap (λ posts. ask_offers posts [] face.asks.asks ++ post_offers posts) (sym stands.posts) ∙ (whole ∙ ap (line_offers board bus []) (sym stands.items))

  ones_are : (bridge : Bridge) (tags : By → OpId → ℕ) (face : FaceState) (x : Both) → Stands board bridge bus tags face x → AllByRecursion (HasOne board bus) x.back.standing
  ones_are bridge tags face x stands = subst (AllByRecursion (HasOne board bus)) (sym stands.items) (ones_line stands.line face.asks.asks stands.asks stands.requests)

  pub are_presented : (bridge : Bridge) (tags : By → OpId → ℕ) (face : FaceState) (x : Both) (o : OpId) → Stands board bridge bus tags face x → presents board bus o x.back.standing ≡ list_any (is_offer_of o) (offers_of face)
  are_presented bridge tags face x o stands =
      presented_of board bus o [] x.back.standing tt stands.kinds (ones_are bridge tags face x stands) ∙ ap (list_any (is_offer_of o)) (sym (offers_are bridge tags face x stands))

  pub are_oldest : (bridge : Bridge) (tags : By → OpId → ℕ) (face : FaceState) (x : Both) → Stands board bridge bus tags face x
      → AllByRecursion (λ offer. find (is_of offer.op) x.back.standing ≡ Some (offered_item offer)) (offers_of face)
  are_oldest bridge tags face x stands =
      let all = oldest_of board bus [] x.back.standing tt tt stands.kinds (ones_are bridge tags face x stands) in
      let found = Each-weaker (λ (offer : Offer). (list_any (is_of offer.op) [] ≡ false) × (find (is_of offer.op) x.back.standing ≡ Some (offered_item offer)))
      (λ (offer : Offer). find (is_of offer.op) x.back.standing ≡ Some (offered_item offer)) (λ offer old. old.1) (line_offers board bus [] x.back.standing) all in
      subst (AllByRecursion (λ (offer : Offer). find (is_of offer.op) x.back.standing ≡ Some (offered_item offer))) (sym (offers_are bridge tags face x stands)) found

pub offers_on_lanes : (face : FaceState) (offers : List Offer) → offers ≡ offers_of face → OffersOfLanes face offers
offers_on_lanes face offers is = record {
  presented = λ board bridge bus tags x o stands. are_presented board bus bridge tags face x o stands ∙ ap (list_any (is_offer_of o)) (sym is);
  oldest = λ board bridge bus tags x stands.
      subst (AllByRecursion (λ (offer : Offer). find (is_of offer.op) x.back.standing ≡ Some (offered_item offer))) (sym is) (are_oldest board bus bridge tags face x stands);
}

-- the oldest item of an operation leaves the line
abbrev less_line : OpId → List Arrived → List Arrived
less_line o line = less (λ (one : Arrived). is_of o one.item) line

less_items : (o : OpId) (line : List Arrived) → less (is_of o) (map item_of line) ≡ map item_of (less_line o line)
less_items o [] = refl
less_items o (one ∷ later) =
    let P : Bool → Type 0 = λ b. cond b (map item_of later) (one.item ∷ less (is_of o) (map item_of later)) ≡ map item_of (cond b later (one ∷ less_line o later)) in
    elim (is_of o one.item) as P [ true ↦ refl | false ↦ ap (λ (l : List Carried). one.item ∷ l) (less_items o later) ]

less_rising : (o : OpId) (least last : ℕ) (line : List Arrived) → Rising least last line → Rising least last (less_line o line)
less_rising o least last [] rising = rising
less_rising o least last (one ∷ later) rising =
    let P : Bool → Type 0 = λ b. Rising least last (cond b later (one ∷ less_line o later)) in
    elim (is_of o one.item) as P [
      | true ↦ rising_lower least (one.arrival + 1) last later (omega (arith, rising.0)) rising.1
      | false ↦ (rising.0, less_rising o (one.arrival + 1) last later rising.1)
    ]

-- a delayed request left
record LeftAsk (o : OpId) (line : List Arrived) (asks : List AskEntry) : Type 0 where
  posts : post_entries (less_line o line) ≡ post_entries line
  keys : ask_entries (less_line o line) ≡ map ask_key (less (is_ask_for o) asks)
  dones : done_entries (less_line o line) ≡ done_entries line

ask_step : (o q : OpId) (slot : ℕ) (item : Carried) (at : ℕ) (later : List Arrived)
    → ((rest : List AskEntry) → ask_entries later ≡ map ask_key rest → find (is_of o) (map item_of later) ≡ Some (Ask q slot) → LeftAsk o later rest)
    → (asks : List AskEntry) → ask_entry item at ++ ask_entries later ≡ map ask_key asks → find (is_of o) (item ∷ map item_of later) ≡ Some (Ask q slot) → LeftAsk o (record { item = item; arrival = at } ∷ later) asks
ask_step o q slot (Post p) at later rest asks keys found =
    let P : Bool → Type 0 = λ b. same_op o p ≡ b → cond b (Some (Post p)) (find (is_of o) (map item_of later)) ≡ Some (Ask q slot) → LeftAsk o (record { item = Post p; arrival = at } ∷ later) asks in
    (elim (same_op o p) as P [
      | true ↦ λ _ e. cc
      | false ↦ λ other e.
          let more = rest asks keys e in
          record { posts = rw (other, more.posts) refl; keys = rw other more.keys; dones = rw other more.dones }
    ]) refl found
ask_step o q slot (Ask p n) at later rest [] keys found = cc
ask_step o q slot (Ask p n) at later rest (ask ∷ asks) keys found =
    let key : record { op = p; slot = n; arrival = at } ≡ ask_key ask = cc in
    let tail : ask_entries later ≡ map ask_key asks = cc in
    let same : same_op o ask.op ≡ same_op o p = ap (λ (k : AskKey). same_op o k.op) (sym key) in
    let P : Bool → Type 0 = λ b. same_op o p ≡ b → cond b (Some (Ask p n)) (find (is_of o) (map item_of later)) ≡ Some (Ask q slot) → LeftAsk o (record { item = Ask p n; arrival = at } ∷ later) (ask ∷ asks) in
    (elim (same_op o p) as P [
      | true ↦ λ is e. let its = same ∙ is in record { posts = rw is refl; keys = rw (is, its) tail; dones = rw is refl }
      | false ↦ λ other e.
          let its = same ∙ other in
          let more = rest asks tail e in
          record { posts = rw other more.posts; keys = rw (other, its, more.keys) (ap (λ (k : AskKey). k ∷ map ask_key (less (is_ask_for o) asks)) key); dones = rw other more.dones }
    ]) refl found
ask_step o q slot (Done p n outcome) at later rest asks keys found =
    let more = rest asks keys found in
    record { posts = more.posts; keys = more.keys; dones = ap (λ l. record { slot = n; op = p; outcome = outcome; arrival = at } ∷ l) more.dones }
ask_step o q slot Room at later rest asks keys found = let more = rest asks keys found in record { posts = more.posts; keys = more.keys; dones = more.dones }
ask_step o q slot (Gone n) at later rest asks keys found = let more = rest asks keys found in record { posts = more.posts; keys = more.keys; dones = more.dones }

ask_left : (o q : OpId) (slot : ℕ) (line : List Arrived) (asks : List AskEntry) → ask_entries line ≡ map ask_key asks → find (is_of o) (map item_of line) ≡ Some (Ask q slot) → LeftAsk o line asks
ask_left o q slot [] asks keys found = cc
ask_left o q slot (one ∷ later) asks keys found = ask_step o q slot one.item one.arrival later (λ rest k f. ask_left o q slot later rest k f) asks keys found

-- the posted write that came first is of the operation
Heads : OpId → List PostEntry → Type 0
Heads o [] = ⊥
Heads o (post ∷ later) = same_op o post.op ≡ true

-- it left
record LeftPost (o : OpId) (line : List Arrived) : Type 0 where
  posts : post_entries (less_line o line) ≡ drop 1 (post_entries line)
  keys : ask_entries (less_line o line) ≡ ask_entries line
  dones : done_entries (less_line o line) ≡ done_entries line

post_step : (o q : OpId) (item : Carried) (at : ℕ) (later : List Arrived) → (Heads o (post_entries later) → find (is_of o) (map item_of later) ≡ Some (Post q) → LeftPost o later)
    → Heads o (post_entry item at ++ post_entries later) → find (is_of o) (item ∷ map item_of later) ≡ Some (Post q) → LeftPost o (record { item = item; arrival = at } ∷ later)
unfolding Heads
post_step o q (Post p) at later rest heads found = record { posts = rw heads refl; keys = rw heads refl; dones = rw heads refl }
post_step o q (Ask p n) at later rest heads found =
    let P : Bool → Type 0 = λ b. same_op o p ≡ b → cond b (Some (Ask p n)) (find (is_of o) (map item_of later)) ≡ Some (Post q) → LeftPost o (record { item = Ask p n; arrival = at } ∷ later) in
    (elim (same_op o p) as P [
      | true ↦ λ _ e. cc
      | false ↦ λ other e.
          let more = rest heads e in
          record { posts = rw other more.posts; keys = rw (other, more.keys) refl; dones = rw other more.dones }
    ]) refl found
post_step o q (Done p n outcome) at later rest heads found =
    let more = rest heads found in
    record { posts = more.posts; keys = more.keys; dones = ap (λ l. record { slot = n; op = p; outcome = outcome; arrival = at } ∷ l) more.dones }
post_step o q Room at later rest heads found = let more = rest heads found in record { posts = more.posts; keys = more.keys; dones = more.dones }
post_step o q (Gone n) at later rest heads found = let more = rest heads found in record { posts = more.posts; keys = more.keys; dones = more.dones }

post_left : (o q : OpId) (line : List Arrived) → Heads o (post_entries line) → find (is_of o) (map item_of line) ≡ Some (Post q) → LeftPost o line
post_left o q [] heads found = cc
post_left o q (one ∷ later) heads found = post_step o q one.item one.arrival later (λ h f. post_left o q later h f) heads found

-- an offer that is no delayed request is of the posted write that came first
abbrev HeadsWhere : Bool → OpId → List PostEntry → Type 0
HeadsWhere true o posts = Unit {0}
HeadsWhere false o posts = Heads o posts

asks_where : (posts first : List PostEntry) (older asks : List AskEntry) → AllByRecursion (λ (offer : Offer). HeadsWhere offer.ask offer.op posts) (ask_offers first older asks)
asks_where posts first older [] = tt
asks_where posts first older (ask ∷ asks) =
    let rest = asks_where posts first (older ++ ask ∷ []) asks in
    let P : Bool → Type 0 = λ b. AllByRecursion (λ (offer : Offer). HeadsWhere offer.ask offer.op posts) (offer_where b (ask_offer ask) ++ ask_offers first (older ++ ask ∷ []) asks) in
    elim (is_offered first older ask) as P [ true ↦ (tt, rest) | false ↦ rest ]

posts_where : (posts : List PostEntry) → AllByRecursion (λ (offer : Offer). HeadsWhere offer.ask offer.op posts) (post_offers posts)
unfolding Heads
posts_where [] = tt
posts_where (post ∷ later) = (same_op_self post.op, tt)

offers_where : (face : FaceState) → AllByRecursion (λ (offer : Offer). HeadsWhere offer.ask offer.op face.posts.posts) (offers_of face)
offers_where face =
    Each-append (λ (offer : Offer). HeadsWhere offer.ask offer.op face.posts.posts) (ask_offers face.posts.posts [] face.asks.asks) (post_offers face.posts.posts)
    (asks_where face.posts.posts face.posts.posts [] face.asks.asks) (posts_where face.posts.posts)

-- where the first posted write is of an operation there is one
some_post : (o : OpId) (posts : List PostEntry) → Heads o posts → 0 < length posts
unfolding Heads
some_post o [] heads = absurd heads
some_post o (post ∷ later) heads = omega arith

pub post_there : (face : FaceState) (offer : Offer) → Contains (offers_of face) offer → offer.ask ≡ false → 0 < length face.posts.posts
post_there face offer contained is =
    let heads = Each-contained (λ (other : Offer). HeadsWhere other.ask other.op face.posts.posts) (offers_of face) offer (offers_where face) contained in
    some_post offer.op face.posts.posts (subst (λ b. HeadsWhere b offer.op face.posts.posts) is heads)

module _ (board : Board) (bridge : Bridge) (bus : ℕ) (tags : By → OpId → ℕ) where
  ended_stands : (face : FaceState) (x : Both) (o : OpId) (ask : Bool) (slot : ℕ) (outcome : Outcome) → find (is_of o) x.back.standing ≡ Some (offered_item (record { op = o; ask = ask; slot = slot }))
      → HeadsWhere ask o face.posts.posts → Stands board bridge bus tags face x → Stands board bridge bus tags (left_by face (record { op = o; ask = ask; slot = slot })) (after_end o outcome x)
  ended_stands face x o true slot outcome found heads old =
      let here = ask_left o o slot old.line face.asks.asks old.asks (sym (ap (find (is_of o)) old.items) ∙ found) in
      record {
        depths = record { posted = old.depths.posted; posts = old.depths.posts; asks = old.depths.asks; slots = old.depths.slots };
        kinds = Each-less (CanStandThere board) (is_of o) x.back.standing old.kinds;
        line = less_line o old.line;
        items = ap (less (is_of o)) old.items ∙ less_items o old.line;
        rising = less_rising o 0 face.arrivals old.line old.rising;
        posts = here.posts ∙ old.posts;
        asks = here.keys;
        requests = Each-less (HasItsRequest board bus) (is_ask_for o) face.asks.asks old.requests;
        dones = here.dones ∙ old.dones;
        slots = old.slots;
        owed = old.owed;
      }
  ended_stands face x o false slot outcome found heads old =
      let here = post_left o o old.line (subst (Heads o) (sym old.posts) heads) (sym (ap (find (is_of o)) old.items) ∙ found) in
      record {
        depths = record { posted = old.depths.posted; posts = old.depths.posts; asks = old.depths.asks; slots = old.depths.slots };
        kinds = Each-less (CanStandThere board) (is_of o) x.back.standing old.kinds;
        line = less_line o old.line;
        items = ap (less (is_of o)) old.items ∙ less_items o old.line;
        rising = less_rising o 0 face.arrivals old.line old.rising;
        posts = here.posts ∙ ap (drop 1) old.posts;
        asks = here.keys ∙ old.asks;
        requests = old.requests;
        dones = here.dones ∙ old.dones;
        slots = old.slots;
        owed = old.owed;
      }

ended_sent : (x : Both) (o : OpId) (ask : Bool) (slot : ℕ) (outcome : Outcome) (stamp : ℕ) → find (is_of o) x.back.standing ≡ Some (offered_item (record { op = o; ask = ask; slot = slot }))
    → (after_end o outcome x).here.flight ≡ x.here.flight ++ carried (answered_with (record { op = o; ask = ask; slot = slot }) outcome stamp) ∷ []
ended_sent x o true slot outcome stamp found = ap (λ item. x.here.flight ++ reply_to outcome item) found
ended_sent x o false slot outcome stamp found = ap (λ item. x.here.flight ++ reply_to outcome item) found

pub ends_on_lanes : (face : FaceState) (offer : Offer) (outcome : Outcome) (stamp : ℕ) (after : FaceState) (back : Item) → Contains (offers_of face) offer → after ≡ left_by face offer → back ≡ answered_with offer outcome stamp
    → EndsOnLanes face offer outcome after back
ends_on_lanes face offer outcome stamp after back contained after_is back_is =
    let heads = Each-contained (λ (other : Offer). HeadsWhere other.ask other.op face.posts.posts) (offers_of face) offer (offers_where face) contained in
    record {
      stands = λ board bridge bus tags x stands.
          let found = Each-contained (λ (other : Offer). find (is_of other.op) x.back.standing ≡ Some (offered_item other)) (offers_of face) offer (are_oldest board bus bridge tags face x stands) contained in
          subst (λ (f : FaceState). Stands board bridge bus tags f (after_end offer.op outcome x)) (sym after_is) (ended_stands board bridge bus tags face x offer.op offer.ask offer.slot outcome found heads stands);
      sent = λ board bridge bus tags x stands.
          let found = Each-contained (λ (other : Offer). find (is_of other.op) x.back.standing ≡ Some (offered_item other)) (offers_of face) offer (are_oldest board bus bridge tags face x stands) contained in
          ended_sent x offer.op offer.ask offer.slot outcome stamp found ∙ ap (λ (i : Item). x.here.flight ++ carried i ∷ []) (sym back_is);
    }
