-- Of two runs after which the lanes carry the same: where nothing is in flight after the second, what is allowed after the
-- first is allowed after the second. The slots of dropped requests and discarded completions are free there.
use Rattle.std.proofs.Common.{◌≡◌, ℕ, ◌+◌, ◌≤◌, Bool, true, false, ◌&&◌, ◌==◌, cond, nat_lt, List, [], ◌∷◌, ◌++◌, append-nil, length, Option, Some, None, refl, sym, ap, subst, ◌∙◌, arith}
use Rattle.std.proofs.lemmas.Bool.Decides.{nat_tests}
use Rattle.std.proofs.lemmas.Bool.{and_parts}
use Rattle.std.specs.List.{find, list_any, list_all}
use Rattle.list_facts.specs.Lists.{before, total}
use Rattle.list_facts.proofs.FindLemmas.{find_passes, find-append_found, find-none_any}
use Rattle.list_facts.proofs.EachLemmas.{Each-find}
use Rattle.list_facts.proofs.AnyLemmas.{found_any, found_fails}
use Rattle.list_facts.proofs.TotalLemmas.{total-append, total-alike}
use Rattle.pci_command.specs.declared.request.Request.{Request}
use Rattle.pci_command.specs.declared.op_id.OpId.{OpId}
use Rattle.pci_command.specs.declared.op_id.Outcome.{Outcome}
use Rattle.pci_command.specs.Command.{is_read}
use Rattle.board_model.specs.declared.bridge.Bridge.{Bridge}
use Rattle.board_model.specs.declared.bridge.Lane.{Lane as BridgeLane}
use Rattle.board_model.specs.declared.bridge.Place.{Place}
use Rattle.board_model.specs.declared.bridge.Place.TheVariants.{Target, Header, Lane, Nobody}
use Rattle.board_model.specs.declared.board.Board.{Board}
use Rattle.board_model.specs.Requests.{request_of, is_posted}
use Rattle.board_model.specs.Claims.{claim}
use Rattle.board_model.specs.Ways.{lane_back, start_of, end_of}
use Rattle.history_model.specs.declared.event.By.{By}
use Rattle.history_model.specs.declared.event.By.TheVariants.{Master, Lane as ByLane}
use Rattle.history_model.specs.declared.event.Step.{Step}
use Rattle.history_model.specs.declared.event.Step.TheVariants.{Latch, Take}
use Rattle.history_model.specs.declared.event.Event.{Event}
use Rattle.history_model.specs.declared.item.Carried.{Carried}
use Rattle.history_model.specs.declared.item.Carried.TheVariants.{Post, Ask, Done, Room, Gone}
use Rattle.history_model.specs.declared.item.Slot.{Slot}
use Rattle.history_model.specs.declared.item.Answer.TheVariants.{Gives, Retry}
use Rattle.history_model.specs.declared.item.Cause.TheVariants.{NoSlot, Behind}
use Rattle.history_model.specs.declared.rule.Rule.{Rule}
use Rattle.history_model.specs.Lanes.{LaneState, asks_in, dones_in, is_of, is_done_for}
use Rattle.history_model.specs.World.{World, both, is_own, world_by}
use Rattle.history_model.specs.Words.{through, without}
use Rattle.history_model.specs.Answers.{kind_of, asked, goes_before_by, presents_item_by, presents_by, completion_passes, completion_answer, delayed_answer, posted_answer, lane_answer, bridge_to, answer_by, answer_to, answer_in, wants_in_by}
use Rattle.history_model.specs.Runs.{names, RunBy}
use Rattle.history_model.specs.Local.{is_ask_of, is_gone_of}
use Rattle.history_model.specs.Left.{is_slot_of}
use Rattle.history_model.proofs.facts.RequestLemmas.{same_op_self}
use Rattle.law_lanes.specs.Slots.{slot_weight, ask_weight, done_weight, gone_weight, IsHeldFor, AskNamed, DoneNamed, ItemOf, ask_flies, ask_stands, done_flies, done_stands, gone_flies, HasOneItem}
use Rattle.law_lanes.specs.Owners.{own_count}
use Rattle.law_lanes.specs.Credits.{post_count, room_count}
use Rattle.law_lanes.proofs.Laws.{Slots-run_by, HasOneItem-each, claim_starts}
use Rattle.law_lanes.proofs.CreditsLemmas.{Credits-run_by}
use Rattle.law_lanes.specs.Depths.{DifferentNumbers}
use Rattle.law_early.proofs.OneOwnLemmas.{one_each}
use Rattle.law_early.specs.Early.{NothingFlies}
use Rattle.law_early.proofs.ListLemmas.{before-append_found}
use Rattle.law_early.proofs.CargoLemmas.{bare, bares, bare_one, NoNumber, is_of-bare, is_done_of, is_done_of-bare, find-bares, before-bares, stays, stay, cargo, AllAlike}
use Rattle.law_early.proofs.OneSlotLemmas.{agree_find, agree_before, only_found, cargo_any, cargo_stands, is_ask_for, is_ask_for-bare, HeldFor, ask_held, done_held, any_held, FindsOwn, Mine, TakesSlot, mine_by, named, dones_agree}
use Rattle.law_early.proofs.StandLemmas.{item_more, posted_more}

-- What is presented looks at no number.

all-bares : (f : Carried → Bool) → NoNumber f → (xs : List Carried) → list_all f (bares xs) ≡ list_all f xs
all-bares f none [] = refl
all-bares f none (x ∷ xs) = let here = none x in let later = all-bares f none xs in cc

kind-bare : (board : Board) (item : Carried) → kind_of board (bare item) ≡ kind_of board item
kind-bare board (Post op) = refl
kind-bare board (Ask op slot) = refl
kind-bare board (Done op slot outcome) = refl
kind-bare board Room = refl
kind-bare board (Gone slot) = refl

asked-bare : (item : Carried) → asked (bare item) ≡ asked item
asked-bare (Post op) = refl
asked-bare (Ask op slot) = refl
asked-bare (Done op slot outcome) = refl
asked-bare Room = refl
asked-bare (Gone slot) = refl

goes-bare : (rule : Rule) (board : Board) (on : ℕ) (item older : Carried) → goes_before_by rule board on (bare item) (bare older) ≡ goes_before_by rule board on item older
goes-bare rule board on item older =
    let a = kind-bare board item in
    let b = kind-bare board older in
    let c = asked-bare item in
    let d = asked-bare older in
    cc

all-goes : (rule : Rule) (board : Board) (on : ℕ) (item : Carried) (xs : List Carried) → list_all (goes_before_by rule board on (bare item)) (bares xs) ≡ list_all (goes_before_by rule board on item) xs
all-goes rule board on item [] = refl
all-goes rule board on item (x ∷ xs) = let here = goes-bare rule board on item x in let later = all-goes rule board on item xs in cc

item-bare : (rule : Rule) (board : Board) (on : ℕ) (older : List Carried) (found : Option Carried) → presents_item_by rule board on (bares older) (bare_one found) ≡ presents_item_by rule board on older found
item-bare rule board on older None = refl
item-bare rule board on older (Some item) = all-goes rule board on item older

presents-bare : (rule : Rule) (board : Board) (on : ℕ) (o : OpId) (standing : List Carried) → presents_by rule board on o (bares standing) ≡ presents_by rule board on o standing
presents-bare rule board on o standing =
    let P : List Carried → Option Carried → Bool = presents_item_by rule board on in
    ap (λ older. P older (find (is_of o) (bares standing))) (before-bares (is_of o) (is_of-bare o) standing)
    ∙ (ap (P (bares (before (is_of o) standing))) (find-bares (is_of o) (is_of-bare o) standing) ∙ item-bare rule board on (before (is_of o) standing) (find (is_of o) standing))

-- Weights that look at no number.

abbrev Weighs : (Carried → ℕ) → Type 0
Weighs w = (item : Carried) → w (bare item) ≡ w item

total-bares : (w : Carried → ℕ) → Weighs w → (xs : List Carried) → total w (bares xs) ≡ total w xs
total-bares w none [] = refl
total-bares w none (x ∷ xs) = let here = none x in let later = total-bares w none xs in omega (arith, here, later)

stays_le : (board : Board) (lane : BridgeLane) (asks dones : ℕ) (w : Carried → ℕ) → Weighs w → (item : Carried) → total w (stays board lane asks dones item) ≤ w item
stays_le board lane asks dones w none (Post op) = omega arith
stays_le board lane asks dones w none (Ask op slot) =
    let same = none (Ask op slot) in
    let P : Bool → Type 0 = λ b. total w (cond b [] (Ask op 0 ∷ [])) ≤ w (Ask op slot) in
    elim (list_any (names lane (asks + 1)) board.drops) as P [ true ↦ omega arith | false ↦ omega (arith, same) ]
stays_le board lane asks dones w none (Done op slot outcome) =
    let same = none (Done op slot outcome) in
    let P : Bool → Type 0 = λ b. total w (cond b [] (Done op 0 outcome ∷ [])) ≤ w (Done op slot outcome) in
    elim (list_any (names lane (dones + 1)) board.discards) as P [ true ↦ omega arith | false ↦ omega (arith, same) ]
stays_le board lane asks dones w none Room = omega arith
stays_le board lane asks dones w none (Gone slot) = omega arith

stay_le : (board : Board) (lane : BridgeLane) (w : Carried → ℕ) → Weighs w → (xs : List Carried) (asks dones : ℕ) → total w (stay board lane asks dones xs) ≤ total w xs
stay_le board lane w none [] asks dones = omega arith
stay_le board lane w none (item ∷ rest) asks dones =
    let here = stays_le board lane asks dones w none item in
    let later = stay_le board lane w none rest (asks + asks_in item) (dones + dones_in item) in
    let sum = total-append w (stays board lane asks dones item) (stay board lane (asks + asks_in item) (dones + dones_in item) rest) in
    omega (arith, here, later, sum)

cargo_weighs : (board : Board) (lane : BridgeLane) (w : Carried → ℕ) → Weighs w → (s : LaneState) → total w (cargo board lane s) ≡ total w s.standing + total w (stay board lane s.asks s.dones s.flight)
cargo_weighs board lane w none s =
    total-append w (bares s.standing) (stay board lane s.asks s.dones s.flight) ∙ ap (λ n. n + total w (stay board lane s.asks s.dones s.flight)) (total-bares w none s.standing)

abbrev one : ℕ → ℕ
one number = 1

asks_weigh : Weighs (ask_weight one)
asks_weigh (Post op) = refl
asks_weigh (Ask op slot) = refl
asks_weigh (Done op slot outcome) = refl
asks_weigh Room = refl
asks_weigh (Gone slot) = refl

dones_weigh : Weighs (done_weight one)
dones_weigh (Post op) = refl
dones_weigh (Ask op slot) = refl
dones_weigh (Done op slot outcome) = refl
dones_weigh Room = refl
dones_weigh (Gone slot) = refl

posts_weigh : Weighs post_count
posts_weigh (Post op) = refl
posts_weigh (Ask op slot) = refl
posts_weigh (Done op slot outcome) = refl
posts_weigh Room = refl
posts_weigh (Gone slot) = refl

-- where nothing is in flight, it carries what stands
pub landed_cargo : (board : Board) (lane : BridgeLane) (s : LaneState) → s.flight ≡ [] → bares s.standing ≡ cargo board lane s
landed_cargo board lane s none = sym (ap (λ f. bares s.standing ++ stay board lane s.asks s.dones f) none ∙ append-nil (bares s.standing))

-- a completion is given
record Completes (board : Board) (read : Bool) (lane : BridgeLane) (older : List Carried) (step : Step) (place : Place) : Type 0 where
  pub outcome : Outcome
  pub is_take : step ≡ Take outcome
  pub is_lane : place ≡ Lane lane
  pub passes : list_all (completion_passes board read) older ≡ true

completes : (board : Board) (read : Bool) (lane : BridgeLane) (older : List Carried) (found : Option Carried) (step : Step) (place : Place) → completion_answer board read lane older found ≡ Gives step place → Completes board read lane older step place
completes board read lane older None step place gives = cc
completes board read lane older (Some (Post op)) step place gives = cc
completes board read lane older (Some (Ask op slot)) step place gives = cc
completes board read lane older (Some (Done op slot outcome)) step place gives =
    let P : Bool → Type 0 = λ b. list_all (completion_passes board read) older ≡ b → cond b (Gives (Take outcome) (Lane lane)) (Retry Behind) ≡ Gives step place → Completes board read lane older step place in
    (elim (list_all (completion_passes board read) older) as P [ true ↦ λ all e. record { outcome = outcome; is_take = cc; is_lane = cc; passes = all } | false ↦ λ _ e. cc ]) refl gives
completes board read lane older (Some Room) step place gives = cc
completes board read lane older (Some (Gone slot)) step place gives = cc

latch_more : (held less depth : ℕ) (lane : BridgeLane) (step : Step) (place : Place) → less ≤ held → cond (nat_lt held depth) (Gives Latch (Lane lane)) (Retry NoSlot) ≡ Gives step place → cond (nat_lt less depth) (Gives Latch (Lane lane)) (Retry NoSlot) ≡ Gives step place
latch_more held less depth lane step place fewer gives =
    let P : Bool → Type 0 = λ b. nat_lt held depth ≡ b → cond b (Gives Latch (Lane lane)) (Retry NoSlot) ≡ Gives step place → cond (nat_lt less depth) (Gives Latch (Lane lane)) (Retry NoSlot) ≡ Gives step place in
    (elim (nat_lt held depth) as P [
      | true ↦ λ below e. let under : nat_lt less depth ≡ true = grind (arith, nat_tests) in ap (λ b. cond b (Gives Latch (Lane lane)) (Retry NoSlot)) under ∙ e
      | false ↦ λ _ e. cc
    ]) refl gives

bare_done : (item : Carried) (o : OpId) (outcome : Outcome) → bare item ≡ Done o 0 outcome → (number : ℕ) × (item ≡ Done o number outcome)
bare_done (Post op) o outcome is = cc
bare_done (Ask op slot) o outcome is = cc
bare_done (Done op slot given) o outcome is = (slot, cc)
bare_done Room o outcome is = cc
bare_done (Gone slot) o outcome is = cc

bare_found : (found : Option Carried) (o : OpId) (outcome : Outcome) → bare_one found ≡ Some (Done o 0 outcome) → (number : ℕ) × (found ≡ Some (Done o number outcome))
bare_found None o outcome is = cc
bare_found (Some item) o outcome is =
    let same : bare item ≡ Done o 0 outcome = cc in
    let at = bare_done item o outcome same in
    (at.0, ap (λ i. Some i) at.1)

-- on each lane of two worlds an operation has one slot, held for the same initiator
pub record Ones (x y : World) : Type 0 where
  pub first : (lane : BridgeLane) → FindsOwn (x lane).held
  pub second : (lane : BridgeLane) → FindsOwn (y lane).held
  pub names : (lane : BridgeLane) (o : OpId) (s t : Slot) → Mine (x lane).held o s → Mine (y lane).held o t → t.by ≡ s.by

module _ (rule : Rule) (board : Board) (distinct : DifferentNumbers board) (h k : List Event) (run : RunBy rule board h) (other : RunBy rule board k)
    (alike : AllAlike board (world_by rule board h) (world_by rule board k)) (landed : NothingFlies rule board k) (ones : Ones (world_by rule board h) (world_by rule board k)) where
  abbrev X : World
  X = world_by rule board h

  abbrev Y : World
  Y = world_by rule board k

  -- more stands
  more_stands : (lane : BridgeLane) → bares (Y lane).standing ≡ bares (X lane).standing ++ stay board lane (X lane).asks (X lane).dones (X lane).flight
  more_stands lane = landed_cargo board lane (Y lane) (landed lane) ∙ sym (alike lane).items

  pub wants_alike : (g : List Event) (on : ℕ) (by : By) (o : OpId) → wants_in_by rule board (X) g on by o ≡ true → wants_in_by rule board (Y) g on by o ≡ true
  wants_alike g on Master o wanted = wanted
  wants_alike g on (ByLane lane) o wanted =
      let x : LaneState = X lane in
      let y : LaneState = Y lane in
      let parts = and_parts (end_of board lane == on) (presents_by rule board on o x.standing) wanted in
      let before_it : presents_by rule board on o (bares x.standing) ≡ true = presents-bare rule board on o x.standing ∙ parts.1 in
      let presented = item_more rule board on o (bares x.standing) (bares y.standing) (stay board lane x.asks x.dones x.flight) (find (is_of o) (bares x.standing)) (more_stands lane) refl before_it in
      ap (λ b. b && presents_by rule board on o y.standing) parts.0 ∙ (sym (presents-bare rule board on o y.standing) ∙ presented)

  -- The slot of an operation is held for one initiator.

  same_own : (on : ℕ) (by : By) (p : OpId) (lane : BridgeLane) (o : OpId) (s t : Slot) → Mine (X lane).held o s → Mine (Y lane).held o t → is_own board on by p t ≡ is_own board on by p s
  same_own on by p lane o s t a b =
      let I : By → OpId → Bool = λ c q. is_own board on by p (record { number = 0; by = c; op = q }) in
      ap (λ c. I c t.op) (ones.names lane o s t a b) ∙ ap (λ q. I s.by q) (b.is_for ∙ sym a.is_for)

  -- An operation that has a slot after the second run has one after the first.

  asks_too : (lane : BridgeLane) (o : OpId) → list_any (is_ask_for o) (Y lane).standing ≡ true → HeldFor (X lane).held o
  asks_too lane o is =
      let x : LaneState = X lane in
      let slots = Slots-run_by rule board h lane run in
      let carries : list_any (is_ask_for o) (cargo board lane x) ≡ true = ap (list_any (is_ask_for o)) (alike lane).items ∙ cargo_stands board lane (is_ask_for o) (is_ask_for-bare o) (Y lane) is in
      any_held x.held o (AskNamed x.held) (is_ask_for o) (ask_held x.held o) x.standing x.flight slots.asks_standing slots.asks_flying (cargo_any board lane (is_ask_for o) (is_ask_for-bare o) x carries)

  dones_too : (lane : BridgeLane) (o : OpId) → list_any (is_done_of o) (Y (lane_back lane)).standing ≡ true → HeldFor (X lane).held o
  dones_too lane o is =
      let x : LaneState = X (lane_back lane) in
      let held : List Slot = (X lane).held in
      let slots = Slots-run_by rule board h lane run in
      let carries : list_any (is_done_of o) (cargo board (lane_back lane) x) ≡ true =
      ap (list_any (is_done_of o)) (alike (lane_back lane)).items ∙ cargo_stands board (lane_back lane) (is_done_of o) (is_done_of-bare o) (Y (lane_back lane)) is in
      any_held held o (DoneNamed held) (is_done_of o) (done_held held o) x.standing x.flight slots.dones_standing slots.dones_flying (cargo_any board (lane_back lane) (is_done_of o) (is_done_of-bare o) x carries)

  held_too : (lane : BridgeLane) (t : Slot) → ItemOf t (both (Y) lane) → HeldFor (X lane).held t.op
  held_too lane t (ask_flies is) = let none = ap (find (is_ask_of t.number)) (landed lane) in cc
  held_too lane t (ask_stands is) = asks_too lane t.op (found_any (is_ask_of t.number) (is_ask_for t.op) (Y lane).standing (Ask t.op t.number) is (same_op_self t.op))
  held_too lane t (done_flies outcome is) = let none = ap (find (is_done_for t.number)) (landed (lane_back lane)) in cc
  held_too lane t (done_stands outcome is) = dones_too lane t.op (found_any (is_done_for t.number) (is_done_of t.op) (Y (lane_back lane)).standing (Done t.op t.number outcome) is (same_op_self t.op))
  held_too lane t (gone_flies is) = let none = ap (find (is_gone_of t.number)) (landed (lane_back lane)) in cc

  none_own : (on : ℕ) (by : By) (o : OpId) (lane : BridgeLane) → find (is_own board on by o) (X lane).held ≡ None → find (is_own board on by o) (Y lane).held ≡ None
  none_own on by o lane none =
      let test : Slot → Bool = is_own board on by o in
      let P : Option Slot → Type 0 = λ f. find test (Y lane).held ≡ f → f ≡ None in
      (elim (find test (Y lane).held) as P [
        | None ↦ λ _. refl
        | Some t ↦ λ is.
            let slots = Slots-run_by rule board k lane other in
            let item = Each-find (HasOneItem (both Y lane)) test (Y lane).held t (HasOneItem-each (both Y lane) slots) is in
            let own = mine_by (both Y lane) slots (ones.second lane) t.op test t is refl in
            let held = held_too lane t item.somewhere in
            let mine = named (both X lane) (Slots-run_by rule board h lane run) (ones.first lane) t.op held.number held.is in
            let passes : test t ≡ true = find_passes test (Y lane).held t is in
            let same : test t ≡ test mine.slot = same_own on by o lane t.op mine.slot t mine.own own in
            let fails : test mine.slot ≡ false = found_fails (is_slot_of t.op) test (X lane).held mine.slot mine.own.found (find-none_any test (X lane).held none) in
            cc
      ]) refl

  -- No more slots are held.
  fewer_held : (lane : BridgeLane) → length (Y lane).held ≤ length (X lane).held
  fewer_held lane =
      let back : BridgeLane = lane_back lane in
      let x : LaneState = X lane in
      let y : LaneState = Y lane in
      let xb : LaneState = X back in
      let yb : LaneState = Y back in
      let hx = (Slots-run_by rule board h lane run).one_place one in
      let hy = (Slots-run_by rule board k lane other).one_place one in
      let lx = total-alike (slot_weight one) 1 (λ s. refl) x.held in
      let ly = total-alike (slot_weight one) 1 (λ s. refl) y.held in
      let asks : total (ask_weight one) (cargo board lane x) ≡ total (ask_weight one) (cargo board lane y) = ap (total (ask_weight one)) (alike lane).items in
      let dones : total (done_weight one) (cargo board back xb) ≡ total (done_weight one) (cargo board back yb) = ap (total (done_weight one)) (alike back).items in
      let no_asks : total (ask_weight one) y.flight ≡ 0 = ap (total (ask_weight one)) (landed lane) in
      let no_dones : total (done_weight one) yb.flight ≡ 0 = ap (total (done_weight one)) (landed back) in
      let no_words : total (gone_weight one) yb.flight ≡ 0 = ap (total (gone_weight one)) (landed back) in
      let ax = cargo_weighs board lane (ask_weight one) asks_weigh x in
      let ay = cargo_weighs board lane (ask_weight one) asks_weigh y in
      let dx = cargo_weighs board back (done_weight one) dones_weigh xb in
      let dy = cargo_weighs board back (done_weight one) dones_weigh yb in
      let sx = stay_le board lane (ask_weight one) asks_weigh x.flight x.asks x.dones in
      let tx = stay_le board back (done_weight one) dones_weigh xb.flight xb.asks xb.dones in
      omega (arith, hx, hy, lx, ly, asks, dones, no_asks, no_dones, no_words, ax, ay, dx, dy, sx, tx)

  -- No more posted writes are owed.
  less_owed : (lane : BridgeLane) → (Y lane).owed ≤ (X lane).owed
  less_owed lane =
      let x : LaneState = X lane in
      let y : LaneState = Y lane in
      let owes = (Credits-run_by rule board h lane run).owed in
      let owes_early = (Credits-run_by rule board k lane other).owed in
      let same : total post_count (cargo board lane x) ≡ total post_count (cargo board lane y) = ap (total post_count) (alike lane).items in
      let none : total post_count y.flight ≡ 0 = ap (total post_count) (landed lane) in
      let no_room : total room_count (Y (lane_back lane)).flight ≡ 0 = ap (total room_count) (landed (lane_back lane)) in
      let px = cargo_weighs board lane post_count posts_weigh x in
      let py = cargo_weighs board lane post_count posts_weigh y in
      let sx = stay_le board lane post_count posts_weigh x.flight x.asks x.dones in
      omega (arith, owes, owes_early, same, none, no_room, px, py, sx)

  -- A completion that is given after the first run is given after the second.
  pub record Given (on : ℕ) (by : By) (o : OpId) (lane : BridgeLane) (slot : Slot) (outcome : Outcome) : Type 0 where
    pub taken : TakesSlot board Y on by o outcome lane
    pub is_for : taken.slot.op ≡ slot.op
    pub older : bares (before (is_done_for taken.slot.number) (Y (lane_back lane)).standing) ≡ bares (before (is_done_for slot.number) (X (lane_back lane)).standing)

  pub given : (on : ℕ) (by : By) (o : OpId) (outcome : Outcome) (lane : BridgeLane) → start_of board lane ≡ on → (takes : TakesSlot board X on by o outcome lane) → Given on by o lane takes.slot outcome
  given on by o outcome lane starts takes =
      let back : BridgeLane = lane_back lane in
      let xs : List Carried = (X back).standing in
      let ys : List Carried = (Y back).standing in
      let held : List Slot = (Y lane).held in
      let more : List Carried = stay board back (X back).asks (X back).dones (X back).flight in
      let op : OpId = takes.slot.op in
      let test : Carried → Bool = is_done_of op in
      let own_test : Slot → Bool = is_own board on by o in
      let slots_x = Slots-run_by rule board h lane run in
      let slots_y = Slots-run_by rule board k lane other in
      let own_x = mine_by (both X lane) slots_x (ones.first lane) op own_test takes.slot takes.is_own_slot refl in
      let agree_x = dones_agree (both X lane) slots_x (ones.first lane) op takes.slot own_x in
      let first_x : find test xs ≡ Some (Done op takes.slot.number outcome) = sym (agree_find (is_done_for takes.slot.number) test xs agree_x) ∙ takes.stands in
      let bare_x : find test (bares xs) ≡ Some (Done op 0 outcome) = find-bares test (is_done_of-bare op) xs ∙ ap bare_one first_x in
      let bare_y : find test (bares ys) ≡ Some (Done op 0 outcome) = ap (find test) (more_stands back) ∙ find-append_found test (bares xs) more (Done op 0 outcome) bare_x in
      let at = bare_found (find test ys) op outcome (sym (find-bares test (is_done_of-bare op) ys) ∙ bare_y) in
      let is_for : IsHeldFor held at.0 op = Each-find (DoneNamed held) test ys (Done op at.0 outcome) slots_y.dones_standing at.1 in
      let mine = named (both Y lane) slots_y (ones.second lane) op at.0 is_for in
      let agree_y = dones_agree (both Y lane) slots_y (ones.second lane) op mine.slot mine.own in
      let passes : own_test mine.slot ≡ true = same_own on by o lane op takes.slot mine.slot own_x mine.own ∙ find_passes own_test (X lane).held takes.slot takes.is_own_slot in
      let each = one_each rule board distinct k lane other in
      let once : total (own_count board on by o) held ≤ 1 = subst (λ b. total (own_count board b by o) held ≤ 1) starts (each.one_own by o) in
      let number : Done op at.0 outcome ≡ Done mine.slot.op mine.slot.number outcome = ap (λ n. Done op n outcome) (sym mine.is_number) ∙ ap (λ p. Done p mine.slot.number outcome) (sym mine.own.is_for) in
      let stands : find (is_done_for mine.slot.number) ys ≡ Some (Done mine.slot.op mine.slot.number outcome) = agree_find (is_done_for mine.slot.number) test ys agree_y ∙ (at.1 ∙ ap (λ i. Some i) number) in
      let older_x : before test (bares xs) ≡ bares (before (is_done_for takes.slot.number) xs) = before-bares test (is_done_of-bare op) xs ∙ sym (ap bares (agree_before (is_done_for takes.slot.number) test xs agree_x)) in
      let older_y : bares (before (is_done_for mine.slot.number) ys) ≡ before test (bares ys) = ap bares (agree_before (is_done_for mine.slot.number) test ys agree_y) ∙ sym (before-bares test (is_done_of-bare op) ys) in
      let older : before test (bares ys) ≡ before test (bares xs) = ap (before test) (more_stands back) ∙ before-append_found test (bares xs) more (Done op 0 outcome) bare_x in
      record {
        taken = record { slot = mine.slot; is_own_slot = only_found own_test (is_slot_of op) held mine.slot once mine.own.found passes; stands = stands };
        is_for = mine.own.is_for;
        older = older_y ∙ (older ∙ older_x);
      }

  -- How an operation is answered, of which what is taken after the first run is its own.
  module _ (on : ℕ) (by : By) (o : OpId) (step : Step) (place : Place) (takes : (outcome : Outcome) (lane : BridgeLane) → step ≡ Take outcome → place ≡ Lane lane → TakesSlot board X on by o outcome lane) where
    taken_answer : (read : Bool) (lane : BridgeLane) (slot : Slot) → start_of board lane ≡ on → find (is_own board on by o) (X lane).held ≡ Some slot
        → Completes board read lane (before (is_done_for slot.number) (X (lane_back lane)).standing) step place → (depth : ℕ)
        → delayed_answer board read depth lane (Y lane).held (Y (lane_back lane)).standing (find (is_own board on by o) (Y lane).held) ≡ Gives step place
    taken_answer read lane slot starts is c depth =
        let ys : List Carried = (Y (lane_back lane)).standing in
        let own = takes c.outcome lane c.is_take c.is_lane in
        let first = own.is_own_slot in
        let slots : slot ≡ own.slot = cc in
        let there = given on by o c.outcome lane starts own in
        let pass : Carried → Bool = completion_passes board read in
        let older : List Carried = before (is_done_for there.taken.slot.number) ys in
        let bare_pass : NoNumber pass = λ item. let kinds = kind-bare board item in cc in
        let passes_x : list_all pass (before (is_done_for own.slot.number) (X (lane_back lane)).standing) ≡ true =
        subst (λ (s : Slot). list_all pass (before (is_done_for s.number) (X (lane_back lane)).standing) ≡ true) slots c.passes in
        let passes : list_all pass older ≡ true =
        sym (all-bares pass bare_pass older) ∙ (ap (list_all pass) there.older ∙ (all-bares pass bare_pass (before (is_done_for own.slot.number) (X (lane_back lane)).standing) ∙ passes_x)) in
        let steps : Gives (Take c.outcome) (Lane lane) ≡ Gives step place = let a = c.is_take in let b = c.is_lane in cc in
        ap (delayed_answer board read depth lane (Y lane).held ys) there.taken.is_own_slot
        ∙ (ap (completion_answer board read lane older) there.taken.stands ∙ (ap (λ b. cond b (Gives (Take c.outcome) (Lane lane)) (Retry Behind)) passes ∙ steps))

    delayed_alike : (read : Bool) (depth : ℕ) (lane : BridgeLane) → start_of board lane ≡ on → (own : Option Slot) → find (is_own board on by o) (X lane).held ≡ own
        → delayed_answer board read depth lane (X lane).held (X (lane_back lane)).standing own ≡ Gives step place
        → delayed_answer board read depth lane (Y lane).held (Y (lane_back lane)).standing (find (is_own board on by o) (Y lane).held) ≡ Gives step place
    delayed_alike read depth lane starts None is gives =
        ap (delayed_answer board read depth lane (Y lane).held (Y (lane_back lane)).standing) (none_own on by o lane is)
        ∙ latch_more (length (X lane).held) (length (Y lane).held) depth lane step place (fewer_held lane) gives
    delayed_alike read depth lane starts (Some slot) is gives =
        let coming : List Carried = (X (lane_back lane)).standing in
        taken_answer read lane slot starts is (completes board read lane (before (is_done_for slot.number) coming) (find (is_done_for slot.number) coming) step place gives) depth

    face_alike : (request : Request) (lane : BridgeLane) (bridge : Bridge) → start_of board lane ≡ on → (posted : Bool)
        → cond posted (posted_answer (X lane).owed bridge.posted lane)
        (delayed_answer board (is_read request.command) bridge.delayed lane (X lane).held (X (lane_back lane)).standing (find (is_own board on by o) (X lane).held)) ≡ Gives step place
        → cond posted (posted_answer (Y lane).owed bridge.posted lane)
        (delayed_answer board (is_read request.command) bridge.delayed lane (Y lane).held (Y (lane_back lane)).standing (find (is_own board on by o) (Y lane).held)) ≡ Gives step place
    face_alike request lane bridge starts true gives = posted_more (X lane).owed (Y lane).owed bridge.posted lane step place (less_owed lane) gives
    face_alike request lane bridge starts false gives = delayed_alike (is_read request.command) bridge.delayed lane starts (find (is_own board on by o) (X lane).held) refl gives

    lane_alike : (request : Request) (lane : BridgeLane) (found : Option Bridge) → start_of board lane ≡ on
        → lane_answer board (X) on by o request lane found ≡ Gives step place → lane_answer board (Y) on by o request lane found ≡ Gives step place
    lane_alike request lane None starts gives = gives
    lane_alike request lane (Some bridge) starts gives = face_alike request lane bridge starts (is_posted request) gives

    by_alike : (g : List Event) (rest : Request) (claims : Place) → claim board on rest ≡ claims
        → answer_by board (X) g on by o rest claims ≡ Gives step place → answer_by board (Y) g on by o rest claims ≡ Gives step place
    by_alike g rest (Target target) is gives = gives
    by_alike g rest (Header bus) is gives = gives
    by_alike g rest (Lane lane) is gives = lane_alike rest lane (bridge_to board lane.bus) (claim_starts board on rest lane distinct is) gives
    by_alike g rest Nobody is gives = gives

    to_alike : (g : List Event) (found : Option Request) → answer_to board (X) g on by o found ≡ Gives step place → answer_to board (Y) g on by o found ≡ Gives step place
    to_alike g None gives = gives
    to_alike g (Some request) gives = by_alike g (without (through g o) request) (claim board on (without (through g o) request)) refl gives

    pub answer_alike : (g : List Event) → answer_in board (X) g on by o ≡ Gives step place → answer_in board (Y) g on by o ≡ Gives step place
    answer_alike g gives = to_alike g (request_of board o on) gives
