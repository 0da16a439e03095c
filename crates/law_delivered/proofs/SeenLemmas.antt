-- A poll that was met by the value of a clear flag has read the flag after it was raised.
use Rattle.std.proofs.Common.{◌≡◌, ◌≢◌, ℕ, zero, suc, ◌+◌, ◌≤◌, Bool, true, false, ◌&&◌, ◌||◌, not, ◌==◌, eqb, cond, filter, List, [], ◌∷◌, length, Option, Some, None, is_some, refl, sym, ap, subst, ◌∙◌, arith, slice_get}
use Rattle.std.specs.List.{list_any, position_from}
use Rattle.std.proofs.lemmas.Bool.Decides.{nat_tests}
use Rattle.pci_command.specs.declared.command.Command.TheVariants.{MemWrite}
use Rattle.pci_command.specs.declared.command.Space.TheVariants.{Mem}
use Rattle.pci_command.specs.declared.request.Request.{Request}
use Rattle.pci_command.specs.declared.op_id.OpId.{OpId}
use Rattle.pci_command.specs.declared.op_id.Outcome.{Outcome}
use Rattle.pci_command.specs.Command.{is_read}
use Rattle.board_model.specs.Wants.{exactly}
use Rattle.board_model.specs.declared.agents.Master.{Master as MasterAgent}
use Rattle.board_model.specs.declared.agents.Target.{Target as TargetAgent}
use Rattle.board_model.specs.declared.bridge.Lane.{Lane as BridgeLane}
use Rattle.board_model.specs.declared.bridge.Place.{Place}
use Rattle.board_model.specs.declared.bridge.Place.TheVariants.{Target, Header, Lane, Nobody}
use Rattle.board_model.specs.declared.op.Op.{Op}
use Rattle.board_model.specs.declared.op.Op.TheVariants.{Write, Poll}
use Rattle.board_model.specs.declared.board.Board.{Board}
use Rattle.board_model.specs.Requests.{op_of, command_of, reads, reads_in, request_on}
use Rattle.board_model.specs.Claims.{range_holds, claim_by_address, claim_in_space}
use Rattle.board_model.specs.Ways.{Dword, Route, route_by, route_within, route_of, end_of, words_at, words_by, dwords_of}
use Rattle.board_model.specs.Valid.{is_bus, IsValid}
use Rattle.history_model.specs.declared.event.Event.{Event}
use Rattle.history_model.specs.Words.{opens_in, value_of}
use Rattle.history_model.specs.Knowledge.{value_of_ending, ends_as, has_ended, or_else, given_value, up_to_end, Reading, reading_in, got, words_on, words_named}
use Rattle.history_model.specs.Runs.{Run}
use Rattle.std.proofs.lemmas.Bool.{and_parts, not-true}
use Rattle.law_fresh.proofs.reads.Laws.{master_there, returned_got, always_got}
use Rattle.law_fresh.proofs.Laws.{At, found_at, target_on, Front, front_run, front_front, front_end, read_by}
use Rattle.history_model.specs.Clear.{is_value, holds, opens_otherwise}
use Rattle.law_delivered.specs.Delivered.{is_met}
use Rattle.law_delivered.proofs.EndLemmas.{ending, one_end, target_bus, master_bus_there}
use Rattle.law_delivered.proofs.NamedLemmas.{target_or}
use Rattle.law_delivered.proofs.left.HeldLemmas.{reading_held}

-- The poll has the way of a write to its address.

module _ (board : Board) (address value tries : ℕ) where
  abbrev poll : Op
  poll = Poll Mem address (exactly value) tries

  abbrev probe : Op
  probe = Write MemWrite address []

  same_by : (a b : BridgeLane → Route) (on : ℕ) (place : Place) → ((lane : BridgeLane) → a lane ≡ b lane) → route_by a on place ≡ route_by b on place
  same_by a b on (Target target) same = refl
  same_by a b on (Header bus) same = refl
  same_by a b on Nobody same = refl
  same_by a b on (Lane lane) same = ap (λ (rest : Route). record { lanes = lane ∷ rest.lanes; bus = rest.bus; owner = rest.owner }) (same lane)

  same_route : (n on : ℕ) → route_within n board poll on ≡ route_within n board probe on
  same_route zero on = refl
  same_route (suc n) on =
      same_by (λ lane. route_within n board poll (end_of board lane)) (λ lane. route_within n board probe (end_of board lane)) on (claim_in_space board on Mem address)
      (λ lane. same_route n (end_of board lane))

  -- so it ends at the target that claims it on some bus
  pub poll_end : (valid : IsValid board) (on other target : ℕ) → is_bus board on ≡ true → is_bus board other ≡ true → claim_in_space board on Mem address ≡ Target target → ending (route_of board poll other) ≡ (on, Target target)
  poll_end valid on other target here there claims =
      ap ending (same_route (length board.bridges) other) ∙ one_end board valid probe refl on other target here there claims

-- One target holds the address.

record One (board : Board) (address value : ℕ) : Type 0 where
  target : TargetAgent
  only : filter (holds address) board.targets ≡ target ∷ []
  no_abort : list_any (range_holds Mem address) target.aborts ≡ false
  opens : is_value value (opens_in Mem address target) ≡ false

one_target : (board : Board) (address value : ℕ) → opens_otherwise address value (filter (holds address) board.targets) ≡ true → One board address value
one_target board address value is =
    let P : List TargetAgent → Type 0 = λ found. filter (holds address) board.targets ≡ found → opens_otherwise address value found ≡ true → One board address value in
    (elim (filter (holds address) board.targets) as P [
      | [] ↦ λ _ f. cc
      | target ∷ targets ↦ of_first target targets
    ]) refl is
  where
    of_first : (target : TargetAgent) (targets : List TargetAgent) → filter (holds address) board.targets ≡ target ∷ targets → opens_otherwise address value (target ∷ targets) ≡ true → One board address value
    of_first target [] only opens =
        let parts = and_parts (not (list_any (range_holds Mem address) target.aborts)) (not (is_value value (opens_in Mem address target))) opens in
        record { target = target; only = only; no_abort = not-true _ parts.0; opens = not-true _ parts.1 }
    of_first target (other ∷ targets) only opens = cc

-- what is at a place and passes is among what the filter leaves
filter_any : {X : Type 0} (test : X → Bool) (xs : List X) (place : ℕ) (x : X) → slice_get xs place ≡ Some x → test x ≡ true → (rest : List X) → filter test xs ≡ rest → length rest ≤ 1 → (y : X) → (ys : List X) → rest ≡ y ∷ ys → x ≡ y
filter_any test [] place x is passes rest same few y ys first = cc
filter_any {X} test (z ∷ zs) zero x is passes rest same few y ys first =
    let one : z ≡ x = cc in
    let here : test z ≡ true = subst (λ a. test a ≡ true) (sym one) passes in
    let F : Bool → Type 0 = λ b. cond b (z ∷ filter test zs) (filter test zs) ≡ y ∷ ys in
    let there : F true = subst F here (same ∙ first) in
    let head : z ≡ y = cc in
    sym one ∙ head
filter_any {X} test (z ∷ zs) (suc place) x is passes rest same few y ys first =
    let P : Bool → Type 0 = λ b. cond b (z ∷ filter test zs) (filter test zs) ≡ rest → x ≡ y in
    (elim (test z) as P [
      | true ↦ λ two.
          let some = filter_some test zs place x is passes in
          let long : length rest ≡ suc (length (filter test zs)) = ap length (sym two) in
          absurd (omega (arith, long, some, few))
      | false ↦ λ later. filter_any test zs place x is passes rest later few y ys first
    ]) same
  where
    filter_some : (f : X → Bool) (list : List X) (p : ℕ) (a : X) → slice_get list p ≡ Some a → f a ≡ true → 1 ≤ length (filter f list)
    filter_some f [] p a is passes = cc
    filter_some f (b ∷ bs) zero a is passes =
        let one : b ≡ a = cc in
        let here : f b ≡ true = subst (λ c. f c ≡ true) (sym one) passes in
        let F : Bool → Type 0 = λ t. 1 ≤ length (cond t (b ∷ filter f bs) (filter f bs)) in
        let there : F true = omega arith in
        subst F (sym here) there
    filter_some f (b ∷ bs) (suc p) a is passes =
        let more = filter_some f bs p a is passes in
        let F : Bool → Type 0 = λ t. 1 ≤ length (cond t (b ∷ filter f bs) (filter f bs)) in
        elim (f b) as F [ true ↦ omega arith | false ↦ more ]

-- what a filter leaves is at a place
kept_at : {X : Type 0} (test : X → Bool) (xs : List X) (y : X) (ys : List X) → filter test xs ≡ y ∷ ys → (place : ℕ) × (slice_get xs place ≡ Some y) × (test y ≡ true)
kept_at test [] y ys is = cc
kept_at {X} test (x ∷ xs) y ys is =
    let P : Bool → Type 0 = λ b. test x ≡ b → cond b (x ∷ filter test xs) (filter test xs) ≡ y ∷ ys → (place : ℕ) × (slice_get (x ∷ xs) place ≡ Some y) × (test y ≡ true) in
    (elim (test x) as P [
      | true ↦ λ passes e. let one : x ≡ y = cc in (0, ap Some one, subst (λ a. test a ≡ true) one passes)
      | false ↦ λ _ e. let later = kept_at test xs y ys e in (suc later.0, later.1, later.2)
    ]) refl is

-- what passes at a place is found
found_from : {X : Type 0} (test : X → Bool) (from : ℕ) (xs : List X) (place : ℕ) (x : X) → slice_get xs place ≡ Some x → test x ≡ true → (at : ℕ) × (position_from test from xs ≡ Some at)
found_from test from [] place x is passes = cc
found_from {X} test from (y ∷ ys) zero x is passes =
    let one : y ≡ x = cc in
    let here : test y ≡ true = ap test one ∙ passes in
    let F : Bool → Type 0 = λ b. (at : ℕ) × (cond b (Some from) (position_from test (from + 1) ys) ≡ Some at) in
    let there : F true = (from, refl) in
    subst F (sym here) there
found_from {X} test from (y ∷ ys) (suc place) x is passes =
    let F : Bool → Type 0 = λ b. (at : ℕ) × (cond b (Some from) (position_from test (from + 1) ys) ≡ Some at) in
    elim (test y) as F [ true ↦ (from, refl) | false ↦ found_from test (from + 1) ys place x is passes ]

-- The target that holds the address claims there.
pub record Owner (board : Board) (address value : ℕ) : Type 0 where
  pub place : ℕ
  pub agent : TargetAgent
  pub is_agent : slice_get board.targets place ≡ Some agent
  pub there : is_bus board agent.bus ≡ true
  pub claims : claim_in_space board agent.bus Mem address ≡ Target place
  pub no_abort : list_any (range_holds Mem address) agent.aborts ≡ false
  pub opens : is_value value (opens_in Mem address agent) ≡ false

pub owner_of : (board : Board) (address value : ℕ) → IsValid board → opens_otherwise address value (filter (holds address) board.targets) ≡ true → Owner board address value
owner_of board address value valid is =
    let one = one_target board address value is in
    let at = kept_at (holds address) board.targets one.target [] one.only in
    let bus : ℕ = one.target.bus in
    let test : TargetAgent → Bool = λ (target : TargetAgent). target.bus == bus && list_any (range_holds Mem address) target.ranges in
    let self : eqb bus bus ≡ true = grind (arith, nat_tests) in
    let passes : test one.target ≡ true = rw (self, at.2) refl in
    let found = found_from test 0 board.targets at.0 one.target at.1 passes in
    let there : At test board.targets 0 found.0 = found_at test 0 board.targets found.0 found.1 in
    let index : there.index ≡ found.0 = let e = there.is_at in omega arith in
    let is_agent : slice_get board.targets found.0 ≡ Some there.one = subst (λ i. slice_get board.targets i ≡ Some there.one) index there.is in
    let parts = and_parts (there.one.bus == bus) (holds address there.one) there.passes in
    let same : there.one ≡ one.target = filter_any (holds address) board.targets found.0 there.one is_agent parts.1 (one.target ∷ []) one.only (omega arith) one.target [] refl in
    let agent_is : slice_get board.targets found.0 ≡ Some one.target = is_agent ∙ ap Some same in
    let F : Option ℕ → Type 0 = λ place. claim_by_address board bus Mem address place ≡ Target found.0 in
    let claims : F (Some found.0) = refl in
    record {
      place = found.0;
      agent = one.target;
      is_agent = agent_is;
      there = target_bus board valid found.0 one.target agent_is;
      claims = subst F (sym found.1) claims;
      no_abort = one.no_abort;
      opens = one.opens;
    }

-- what a value in the end says of its operation
given_ended : (h : List Event) (r : OpId) (value : ℕ) → given_value h r ≡ Some value → has_ended h r ≡ true
given_ended [] r value is = cc
given_ended (e ∷ h) r value is =
    let P : Option Outcome → Type 0 = λ given. ends_as r e ≡ given → or_else (value_of_ending given) (given_value h r) ≡ Some value → (is_some given || has_ended h r) ≡ true in
    (elim (ends_as r e) as P [
      | None ↦ λ _ older. given_ended h r value older
      | Some outcome ↦ λ _ _. refl
    ]) refl is

met_given : (value : ℕ) (given : Option ℕ) → is_met value given ≡ true → (word : ℕ) × (given ≡ Some word) × (is_value value word ≡ true)
met_given value None is = cc
met_given value (Some word) is = (word, refl, is)

module _ (board : Board) (valid : IsValid board) (p : OpId) (address value tries : ℕ) (is_op : op_of board p ≡ Some (Poll Mem address (exactly value) tries)) (owner : Owner board address value) where
  abbrev op : Op
  op = Poll Mem address (exactly value) tries

  abbrev pub flag : Dword
  flag = record { target = owner.place; space = Mem; address = address }

  master : (m : MasterAgent) × (slice_get board.masters p.master ≡ Some m)
  master = master_there board p op is_op

  route_ends : ending (route_of board op master.0.bus) ≡ (owner.agent.bus, Target owner.place)
  route_ends = poll_end board address value tries valid owner.agent.bus master.0.bus owner.place owner.there (master_bus_there board valid p.master master.0 master.1) owner.claims

  -- it has a word
  some_words : words_named board p ≢ []
  some_words none =
      let F : Option Op → Option MasterAgent → Type 0 = λ found agent. words_on board found agent ≡ [] in
      let of_op : F (Some op) (slice_get board.masters p.master) = subst (λ found. F found (slice_get board.masters p.master)) is_op none in
      let of_master : F (Some op) (Some master.0) = subst (F (Some op)) master.1 of_op in
      let G : ℕ × Place → Type 0 = λ pair. words_by board (request_on op pair.0) pair.1 ≡ [] in
      let there : G (owner.agent.bus, Target owner.place) = subst G route_ends of_master in
      let request : Request = request_on op owner.agent.bus in
      let H : Option TargetAgent → Type 0 = λ found. words_at owner.place request found ≡ [] in
      let at : H (Some owner.agent) = subst H owner.is_agent there in
      let J : Bool → Type 0 = λ b. cond b [] (dwords_of owner.place request) ≡ [] in
      let some : J false = subst J owner.no_abort at in
      cc

  -- what a read event of it read
  pub record Shown (reading : Reading) : Type 0 where
    pub word : reading.word ≡ flag
    pub held : reading.value ≡ value_of board reading.before flag

  event_shown : (before : List Event) (e : Event) (reading : Reading) → Run board (e ∷ before) → reading_in board before p e ≡ Some reading → Shown reading
  event_shown before e reading run is =
      let read : is_read (command_of op) ≡ true = refl in
      let some = reading_held board valid p op is_op read before e reading run is in
      let request : Request = request_on op some.on in
      let agent = target_on board some.on request some.place some.here.claims in
      let bus_there : is_bus board some.on ≡ true = subst (λ n. is_bus board n ≡ true) agent.2 (target_bus board valid some.place agent.0 agent.1) in
      let ends = poll_end board address value tries valid some.on master.0.bus some.place bus_there (master_bus_there board valid p.master master.0 master.1) some.here.claims in
      let pairs : (some.on, Target some.place) ≡ (owner.agent.bus, Target owner.place) = sym ends ∙ route_ends in
      let places : Target some.place ≡ Target owner.place = ap (λ (pair : ℕ × Place). pair.1) pairs in
      let one : some.place ≡ owner.place = ap (target_or 0) places in
      let word_at : ℕ → Dword = λ n. record { target = n; space = Mem; address = address } in
      let word : reading.word ≡ flag = some.here.word ∙ ap word_at one in
      record { word = word; held = some.here.held ∙ ap (value_of board reading.before) word }

  -- what the poll that was met got: the flag, with the value
  pub record Met (h : List Event) : Type 0 where
    pub reading : Reading
    pub is_got : got board h p ≡ Some reading
    pub front : Front reading.before h
    pub word : reading.word ≡ flag
    pub has : is_value value (value_of board reading.before flag) ≡ true
    pub ended_it : has_ended h p ≡ true

  pub met : (h : List Event) → Run board h → is_met value (given_value h p) ≡ true → Met h
  met h run is =
      let given = met_given value (given_value h p) is in
      let ended_it : has_ended h p ≡ true = given_ended h p given.0 given.1 in
      let reads_it : reads board p ≡ true = ap reads_in is_op in
      let some : is_some (got board h p) ≡ true = always_got board h p valid run reads_it some_words ended_it in
      let P : Option Reading → Type 0 = λ found. got board h p ≡ found → is_some found ≡ true → Met h in
      (elim (got board h p) as P [
        | None ↦ λ _ f. cc
        | Some reading ↦ λ is_got _.
            let upto : List Event = up_to_end p h in
            let read = read_by board p upto p reading is_got in
            let front_e : Front (read.event ∷ reading.before) h = front_front (read.event ∷ reading.before) upto h read.front (front_end p h) in
            let front : Front reading.before h = front_front reading.before (read.event ∷ reading.before) h (record { later = read.event ∷ []; is = refl }) front_e in
            let run_e : Run board (read.event ∷ reading.before) = front_run board (read.event ∷ reading.before) h front_e run in
            let shown = event_shown reading.before read.event reading run_e read.is_reading in
            let returned = returned_got board h p reading valid run is_got in
            let values : Some given.0 ≡ Some reading.value = sym given.1 ∙ returned in
            let one : given.0 ≡ reading.value = cc in
            record { reading = reading; is_got = is_got; front = front; word = shown.word; has = subst (λ n. is_value value n ≡ true) (one ∙ shown.held) given.2; ended_it = ended_it }
      ]) refl some
