-- What a lane carries where lines of the board drop requests and discard completions: what stands, and behind it what is
-- in flight and will stand, whatever the numbers of the slots. Lanes that carry the same do so after the same move.
use Rattle.std.proofs.Common.{◌≡◌, ℕ, ◌+◌, Bool, true, false, cond, List, [], ◌∷◌, ◌++◌, Option, Some, None, refl, sym, ap, subst, ◌∙◌, arith}
use Rattle.std.proofs.lemmas.List.{append_assoc}
use Rattle.std.specs.List.{find, list_any}
use Rattle.list_facts.specs.Lists.{less, before, total}
use Rattle.list_facts.proofs.FindLemmas.{find-append_found}
use Rattle.list_facts.proofs.TotalLemmas.{total-append}
use Rattle.pci_command.specs.declared.op_id.OpId.{OpId}
use Rattle.pci_command.specs.declared.op_id.Outcome.{Outcome}
use Rattle.pci_command.specs.Same.{same_op}
use Rattle.board_model.specs.declared.bridge.Lane.{Lane as BridgeLane}
use Rattle.board_model.specs.declared.board.Board.{Board}
use Rattle.board_model.specs.Ways.{lane_back}
use Rattle.history_model.specs.declared.event.By.{By}
use Rattle.history_model.specs.declared.item.Carried.{Carried}
use Rattle.history_model.specs.declared.item.Carried.TheVariants.{Post, Ask, Done, Room, Gone}
use Rattle.history_model.specs.Lanes.{LaneState, Both, is_of, is_done_for, lowest_free, asks_in, dones_in, reply_to, post_enters, ask_enters, item_ends, slot_taken}
use Rattle.history_model.specs.World.{World, same_lane, both, moved}
use Rattle.history_model.specs.Runs.{names}
use Rattle.history_model.proofs.facts.BridgeLemmas.{same_lane_true}
use Rattle.law_early.proofs.ListLemmas.{less-append_found}
use Rattle.law_early.proofs.StandLemmas.{Finds}

-- an item without the number of its slot
abbrev pub bare : Carried → Carried
bare (Post op) = Post op
bare (Ask op slot) = Ask op 0
bare (Done op slot outcome) = Done op 0 outcome
bare Room = Room
bare (Gone slot) = Gone 0

abbrev pub bares : List Carried → List Carried
bares [] = []
bares (item ∷ rest) = bare item ∷ bares rest

abbrev pub bare_one : Option Carried → Option Carried
bare_one None = None
bare_one (Some item) = Some (bare item)

-- what stands of an item in flight once it has arrived, where so many requests and completions arrived before it
abbrev pub stays : Board → BridgeLane → ℕ → ℕ → Carried → List Carried
stays board lane asks dones (Post op) = Post op ∷ []
stays board lane asks dones (Ask op slot) = cond (list_any (names lane (asks + 1)) board.drops) [] (Ask op 0 ∷ [])
stays board lane asks dones (Done op slot outcome) = cond (list_any (names lane (dones + 1)) board.discards) [] (Done op 0 outcome ∷ [])
stays board lane asks dones Room = []
stays board lane asks dones (Gone slot) = []

abbrev pub stay : Board → BridgeLane → ℕ → ℕ → List Carried → List Carried
stay board lane asks dones [] = []
stay board lane asks dones (item ∷ rest) = stays board lane asks dones item ++ stay board lane (asks + asks_in item) (dones + dones_in item) rest

abbrev pub asks_sent : LaneState → ℕ
asks_sent s = s.asks + total asks_in s.flight

abbrev pub dones_sent : LaneState → ℕ
dones_sent s = s.dones + total dones_in s.flight

abbrev pub cargo : Board → BridgeLane → LaneState → List Carried
cargo board lane s = bares s.standing ++ stay board lane s.asks s.dones s.flight

-- lanes that carry the same, and to which so many requests and completions were sent
pub record Alike (board : Board) (lane : BridgeLane) (x y : LaneState) : Type 0 where
  pub items : cargo board lane x ≡ cargo board lane y
  pub asks : asks_sent x ≡ asks_sent y
  pub dones : dones_sent x ≡ dones_sent y

abbrev pub AllAlike : Board → World → World → Type 0
AllAlike board x y = (l : BridgeLane) → Alike board l (x l) (y l)

pub alike-self : (board : Board) (lane : BridgeLane) (x : LaneState) → Alike board lane x x
alike-self board lane x = record { items = refl; asks = refl; dones = refl }

pub alike-then : (board : Board) (lane : BridgeLane) (x y z : LaneState) → Alike board lane x y → Alike board lane y z → Alike board lane x z
alike-then board lane x y z first second = record { items = first.items ∙ second.items; asks = first.asks ∙ second.asks; dones = first.dones ∙ second.dones }

pub alike-back : (board : Board) (lane : BridgeLane) (x y : LaneState) → Alike board lane x y → Alike board lane y x
alike-back board lane x y same = record { items = sym same.items; asks = sym same.asks; dones = sym same.dones }

-- a test that looks at no number
abbrev pub NoNumber : (Carried → Bool) → Type 0
NoNumber test = (item : Carried) → test (bare item) ≡ test item

pub is_of-bare : (o : OpId) → NoNumber (is_of o)
is_of-bare o (Post op) = refl
is_of-bare o (Ask op slot) = refl
is_of-bare o (Done op slot outcome) = refl
is_of-bare o Room = refl
is_of-bare o (Gone slot) = refl

-- the completion of the operation
abbrev pub is_done_of : OpId → Carried → Bool
is_done_of o (Post op) = false
is_done_of o (Ask op slot) = false
is_done_of o (Done op slot outcome) = same_op o op
is_done_of o Room = false
is_done_of o (Gone slot) = false

pub is_done_of-bare : (o : OpId) → NoNumber (is_done_of o)
is_done_of-bare o (Post op) = refl
is_done_of-bare o (Ask op slot) = refl
is_done_of-bare o (Done op slot outcome) = refl
is_done_of-bare o Room = refl
is_done_of-bare o (Gone slot) = refl

pub find-bares : (test : Carried → Bool) → NoNumber test → (xs : List Carried) → find test (bares xs) ≡ bare_one (find test xs)
find-bares test same [] = refl
find-bares test same (x ∷ xs) =
    let later = find-bares test same xs in
    let P : Bool → Type 0 = λ b. cond b (Some (bare x)) (find test (bares xs)) ≡ bare_one (cond b (Some x) (find test xs)) in
    let here : P (test x) = elim (test x) as P [ true ↦ refl | false ↦ later ] in
    ap (λ b. cond b (Some (bare x)) (find test (bares xs))) (same x) ∙ here

pub before-bares : (test : Carried → Bool) → NoNumber test → (xs : List Carried) → before test (bares xs) ≡ bares (before test xs)
before-bares test same [] = refl
before-bares test same (x ∷ xs) =
    let later = before-bares test same xs in
    let P : Bool → Type 0 = λ b. cond b [] (bare x ∷ before test (bares xs)) ≡ bares (cond b [] (x ∷ before test xs)) in
    let here : P (test x) = elim (test x) as P [ true ↦ refl | false ↦ ap (λ l. bare x ∷ l) later ] in
    ap (λ b. cond b [] (bare x ∷ before test (bares xs))) (same x) ∙ here

pub less-bares : (test : Carried → Bool) → NoNumber test → (xs : List Carried) → less test (bares xs) ≡ bares (less test xs)
less-bares test same [] = refl
less-bares test same (x ∷ xs) =
    let later = less-bares test same xs in
    let P : Bool → Type 0 = λ b. cond b (bares xs) (bare x ∷ less test (bares xs)) ≡ bares (cond b xs (x ∷ less test xs)) in
    let here : P (test x) = elim (test x) as P [ true ↦ refl | false ↦ ap (λ l. bare x ∷ l) later ] in
    ap (λ b. cond b (bares xs) (bare x ∷ less test (bares xs))) (same x) ∙ here

pub bares-append : (xs ys : List Carried) → bares (xs ++ ys) ≡ bares xs ++ bares ys
bares-append [] ys = refl
bares-append (x ∷ xs) ys = ap (λ l. bare x ∷ l) (bares-append xs ys)

-- Of what is in flight.
module _ (board : Board) (lane : BridgeLane) where
  pub stay-append : (asks dones : ℕ) (xs ys : List Carried) → stay board lane asks dones (xs ++ ys) ≡ stay board lane asks dones xs ++ stay board lane (asks + total asks_in xs) (dones + total dones_in xs) ys
  stay-append asks dones [] ys =
      let a : asks ≡ asks + 0 = omega arith in
      let d : dones ≡ dones + 0 = omega arith in
      ap (λ n. stay board lane n dones ys) a ∙ ap (λ n. stay board lane (asks + 0) n ys) d
  stay-append asks dones (x ∷ xs) ys =
      let a : (asks + asks_in x) + total asks_in xs ≡ asks + (asks_in x + total asks_in xs) = omega arith in
      let d : (dones + dones_in x) + total dones_in xs ≡ dones + (dones_in x + total dones_in xs) = omega arith in
      let here : List Carried = stays board lane asks dones x in
      let rest : List Carried = stay board lane (asks + asks_in x) (dones + dones_in x) xs in
      ap (λ l. here ++ l) (stay-append (asks + asks_in x) (dones + dones_in x) xs ys)
      ∙ (ap (λ n. here ++ (rest ++ stay board lane n ((dones + dones_in x) + total dones_in xs) ys)) a
      ∙ (ap (λ n. here ++ (rest ++ stay board lane (asks + (asks_in x + total asks_in xs)) n ys)) d
      ∙ sym (append_assoc here rest (stay board lane (asks + (asks_in x + total asks_in xs)) (dones + (dones_in x + total dones_in xs)) ys))))

  pub stay-bares : (asks dones : ℕ) (xs : List Carried) → stay board lane asks dones (bares xs) ≡ stay board lane asks dones xs
  stay-bares asks dones [] = refl
  stay-bares asks dones (Post op ∷ xs) = ap (λ l. stays board lane asks dones (Post op) ++ l) (stay-bares (asks + 0) (dones + 0) xs)
  stay-bares asks dones (Ask op slot ∷ xs) = ap (λ l. stays board lane asks dones (Ask op slot) ++ l) (stay-bares (asks + 1) (dones + 0) xs)
  stay-bares asks dones (Done op slot outcome ∷ xs) = ap (λ l. stays board lane asks dones (Done op slot outcome) ++ l) (stay-bares (asks + 0) (dones + 1) xs)
  stay-bares asks dones (Room ∷ xs) = stay-bares (asks + 0) (dones + 0) xs
  stay-bares asks dones (Gone slot ∷ xs) = stay-bares (asks + 0) (dones + 0) xs

asks-bares : (xs : List Carried) → total asks_in (bares xs) ≡ total asks_in xs
asks-bares [] = refl
asks-bares (Post op ∷ xs) = let more = asks-bares xs in omega (arith, more)
asks-bares (Ask op slot ∷ xs) = let more = asks-bares xs in omega (arith, more)
asks-bares (Done op slot outcome ∷ xs) = let more = asks-bares xs in omega (arith, more)
asks-bares (Room ∷ xs) = let more = asks-bares xs in omega (arith, more)
asks-bares (Gone slot ∷ xs) = let more = asks-bares xs in omega (arith, more)

dones-bares : (xs : List Carried) → total dones_in (bares xs) ≡ total dones_in xs
dones-bares [] = refl
dones-bares (Post op ∷ xs) = let more = dones-bares xs in omega (arith, more)
dones-bares (Ask op slot ∷ xs) = let more = dones-bares xs in omega (arith, more)
dones-bares (Done op slot outcome ∷ xs) = let more = dones-bares xs in omega (arith, more)
dones-bares (Room ∷ xs) = let more = dones-bares xs in omega (arith, more)
dones-bares (Gone slot ∷ xs) = let more = dones-bares xs in omega (arith, more)

module _ (board : Board) (lane : BridgeLane) where
  -- more is put in flight
  pub cargo-more : (s : LaneState) (more : List Carried) → cargo board lane (record s { flight = s.flight ++ more }) ≡ cargo board lane s ++ stay board lane (asks_sent s) (dones_sent s) more
  cargo-more s more =
      ap (λ l. bares s.standing ++ l) (stay-append board lane s.asks s.dones s.flight more)
      ∙ sym (append_assoc (bares s.standing) (stay board lane s.asks s.dones s.flight) (stay board lane (asks_sent s) (dones_sent s) more))

  pub more_alike : (x y : LaneState) (more others : List Carried) → Alike board lane x y → bares more ≡ bares others → Alike board lane (record x { flight = x.flight ++ more }) (record y { flight = y.flight ++ others })
  more_alike x y more others same bare_same =
      let S : ℕ → ℕ → List Carried → List Carried = λ a d l. stay board lane a d l in
      let ax : ℕ = asks_sent x in
      let dx : ℕ = dones_sent x in
      let ay : ℕ = asks_sent y in
      let dy : ℕ = dones_sent y in
      let sent : S ax dx more ≡ S ay dy others =
      ap (λ n. S n dx more) same.asks ∙ (ap (λ n. S ay n more) same.dones ∙ (sym (stay-bares board lane ay dy more) ∙ (ap (S ay dy) bare_same ∙ stay-bares board lane ay dy others))) in
      let many_asks : total asks_in more ≡ total asks_in others = sym (asks-bares more) ∙ (ap (total asks_in) bare_same ∙ asks-bares others) in
      let many_dones : total dones_in more ≡ total dones_in others = sym (dones-bares more) ∙ (ap (total dones_in) bare_same ∙ dones-bares others) in
      let asks = same.asks in
      let dones = same.dones in
      let a = total-append asks_in x.flight more in
      let b = total-append asks_in y.flight others in
      let c = total-append dones_in x.flight more in
      let d = total-append dones_in y.flight others in
      record {
        items = cargo-more x more ∙ (ap (λ l. l ++ S ax dx more) same.items ∙ (ap (λ l. cargo board lane y ++ l) sent ∙ sym (cargo-more y others)));
        asks = omega (arith, asks, many_asks, a, b);
        dones = omega (arith, dones, many_dones, c, d);
      }

  -- one is taken away by a test
  bares_found : (test : Carried → Bool) → NoNumber test → (s : LaneState) → (finds : Finds test s.standing) → find test (bares s.standing) ≡ Some (bare finds.item)
  bares_found test none s finds = find-bares test none s.standing ∙ ap bare_one finds.is

  bares_less : (test : Carried → Bool) → NoNumber test → (s : LaneState) → Finds test s.standing → bares (less test s.standing) ++ stay board lane s.asks s.dones s.flight ≡ less test (cargo board lane s)
  bares_less test none s finds =
      ap (λ l. l ++ stay board lane s.asks s.dones s.flight) (sym (less-bares test none s.standing))
      ∙ sym (less-append_found test (bares s.standing) (stay board lane s.asks s.dones s.flight) (bare finds.item) (bares_found test none s finds))

  pub less_alike : (test : Carried → Bool) → NoNumber test → (x y : LaneState) → Finds test x.standing → Finds test y.standing → Alike board lane x y
      → Alike board lane (record x { standing = less test x.standing }) (record y { standing = less test y.standing })
  less_alike test none x y fx fy same =
      record { items = bares_less test none x fx ∙ (ap (less test) same.items ∙ sym (bares_less test none y fy)); asks = same.asks; dones = same.dones }

  -- the same is found
  pub cargo_found : (test : Carried → Bool) → NoNumber test → (s : LaneState) → (finds : Finds test s.standing) → find test (cargo board lane s) ≡ bare_one (find test s.standing)
  cargo_found test none s finds =
      find-append_found test (bares s.standing) (stay board lane s.asks s.dones s.flight) (bare finds.item) (bares_found test none s finds) ∙ ap bare_one (sym finds.is)

  pub found_alike : (test : Carried → Bool) → NoNumber test → (x y : LaneState) → Finds test x.standing → Finds test y.standing → Alike board lane x y → bare_one (find test x.standing) ≡ bare_one (find test y.standing)
  found_alike test none x y fx fy same = sym (cargo_found test none x fx) ∙ (ap (find test) same.items ∙ cargo_found test none y fy)

-- both lanes of a bridge
pub record AlikeBoth (board : Board) (lane : BridgeLane) (x y : Both) : Type 0 where
  pub here : Alike board lane x.here y.here
  pub back : Alike board (lane_back lane) x.back y.back

reply_self : (outcome : Outcome) (a : Option Carried) → bares (reply_to outcome a) ≡ bares (reply_to outcome (bare_one a))
reply_self outcome None = refl
reply_self outcome (Some (Post op)) = refl
reply_self outcome (Some (Ask op slot)) = refl
reply_self outcome (Some (Done op slot given)) = refl
reply_self outcome (Some Room) = refl
reply_self outcome (Some (Gone slot)) = refl

reply_bare : (outcome : Outcome) (a b : Option Carried) → bare_one a ≡ bare_one b → bares (reply_to outcome a) ≡ bares (reply_to outcome b)
reply_bare outcome a b same = reply_self outcome a ∙ (ap (λ i. bares (reply_to outcome i)) same ∙ sym (reply_self outcome b))

module _ (board : Board) (lane : BridgeLane) (x y : Both) (same : AlikeBoth board lane x y) where
  pub post_alike : (o : OpId) → AlikeBoth board lane (post_enters o x) (post_enters o y)
  post_alike o =
      let more = more_alike board lane x.here y.here (Post o ∷ []) (Post o ∷ []) same.here refl in
      record { here = record { items = more.items; asks = more.asks; dones = more.dones }; back = same.back }

  pub ask_alike : (by : By) (o : OpId) → AlikeBoth board lane (ask_enters by o x) (ask_enters by o y)
  ask_alike by o =
      let more = more_alike board lane x.here y.here (Ask o (lowest_free x.here.held) ∷ []) (Ask o (lowest_free y.here.held) ∷ []) same.here refl in
      record { here = record { items = more.items; asks = more.asks; dones = more.dones }; back = same.back }

  pub ends_alike : (o : OpId) (outcome : Outcome) → Finds (is_of o) x.here.standing → Finds (is_of o) y.here.standing → AlikeBoth board lane (item_ends o outcome x) (item_ends o outcome y)
  ends_alike o outcome fx fy =
      let found = found_alike board lane (is_of o) (is_of-bare o) x.here y.here fx fy same.here in
      let more = more_alike board (lane_back lane) x.back y.back (reply_to outcome (find (is_of o) x.here.standing)) (reply_to outcome (find (is_of o) y.here.standing)) same.back
      (reply_bare outcome (find (is_of o) x.here.standing) (find (is_of o) y.here.standing) found) in
      let fewer = less_alike board lane (is_of o) (is_of-bare o) x.here y.here fx fy same.here in
      record { here = record { items = fewer.items; asks = fewer.asks; dones = fewer.dones }; back = record { items = more.items; asks = more.asks; dones = more.dones } }

  -- of each the completion for a slot that is the first one of the operation
  pub taken_alike : (o : OpId) (n m : ℕ) → Finds (is_done_of o) x.back.standing → Finds (is_done_of o) y.back.standing
      → less (is_done_for n) x.back.standing ≡ less (is_done_of o) x.back.standing → less (is_done_for m) y.back.standing ≡ less (is_done_of o) y.back.standing
      → AlikeBoth board lane (slot_taken n x) (slot_taken m y)
  taken_alike o n m fx fy ex ey =
      let fewer = less_alike board (lane_back lane) (is_done_of o) (is_done_of-bare o) x.back y.back fx fy same.back in
      let B : LaneState → List Carried → List Carried = λ s l. bares l ++ stay board (lane_back lane) s.asks s.dones s.flight in
      record {
        here = record { items = same.here.items; asks = same.here.asks; dones = same.here.dones };
        back = record { items = ap (B x.back) ex ∙ (fewer.items ∙ ap (B y.back) (sym ey)); asks = fewer.asks; dones = fewer.dones };
      }

-- so on all lanes, after moves of one bridge
pub moved_alike : (board : Board) (move other : Both → Both) (lane : BridgeLane) (x y : World) → AllAlike board x y → AlikeBoth board lane (move (both x lane)) (other (both y lane)) → AllAlike board (moved move lane x) (moved other lane y)
moved_alike board move other lane x y all same l =
    let a : Both = move (both x lane) in
    let b : Both = other (both y lane) in
    let c : Bool = same_lane l (lane_back lane) in
    let Q : Bool → Type 0 = λ t. same_lane l lane ≡ t → Alike board l (cond t a.here (cond c a.back (x l))) (cond t b.here (cond c b.back (y l))) in
    let R : Bool → Type 0 = λ t. c ≡ t → Alike board l (cond t a.back (x l)) (cond t b.back (y l)) in
    (elim (same_lane l lane) as Q [
      | true ↦ λ is. subst (λ k. Alike board k a.here b.here) (sym (same_lane_true l lane is)) same.here
      | false ↦ λ _. (elim c as R [ true ↦ λ is. subst (λ k. Alike board k a.back b.back) (sym (same_lane_true l (lane_back lane) is)) same.back | false ↦ λ _. all l ]) refl
    ]) refl
