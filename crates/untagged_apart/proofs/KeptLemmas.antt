-- Operations gone through, one more.
use Rattle.std.proofs.Common.{◌≡◌, ◌≢◌, ℕ, zero, suc, ◌+◌, ◌<◌, ◌≤◌, Bool, true, false, not, ◌&&◌, ◌||◌, ◌==◌, cond, eqb, eqb-true, append-nil, nat_lt, List, [], ◌∷◌, ◌++◌, length, Option, Some, None, refl, sym, ap, subst, ◌∙◌, arith, slice_get}
use Rattle.std.specs.List.{list_any, list_all}
use Rattle.std.specs.Map.{lookup}
use Rattle.std.specs.Option.{option_and_then}
use Rattle.std.proofs.lemmas.Bool.{and_parts}
use Rattle.std.proofs.lemmas.Bool.Decides.{nat_tests}
use Rattle.pci_command.specs.declared.command.Command.TheVariants.{MemWrite}
use Rattle.pci_command.specs.declared.op_id.OpId.{OpId}
use Rattle.pci_command.specs.declared.request.Request.{Request}
use Rattle.pci_command.specs.Command.{space_of}
use Rattle.pci_command.specs.Same.{same_command, same_request}
use Rattle.board_model.specs.declared.agents.Master.{Master}
use Rattle.board_model.specs.declared.bridge.Lane.{Lane as BridgeLane}
use Rattle.board_model.specs.declared.bridge.Place.{Place}
use Rattle.board_model.specs.declared.bridge.Place.TheVariants.{Target, Header, Lane, Nobody}
use Rattle.board_model.specs.declared.op.Op.{Op}
use Rattle.board_model.specs.declared.board.Board.{Board}
use Rattle.board_model.specs.Requests.{tries_of, op_of, command_of, address_on, request_on, same_requests}
use Rattle.board_model.specs.Claims.{claim}
use Rattle.board_model.specs.Ways.{Route, route_by, route_within, route_of, way, start_of, end_of}
use Rattle.board_model.specs.Valid.{some_two}
use Rattle.board_model.specs.WellFormed.{is_well_formed, is_well_formed_op, is_well_formed_master}
use Rattle.board_model.proofs.Laws.{WellFormed-parts, Master-parts, op_tries, op_formed}
use Rattle.machine_steps.proofs.SameLemmas.{request_decides}
use Rattle.history_model.specs.World.{same_lane}
use Rattle.law_untagged.specs.ApartTest.{delayed_way, meets_on, ops_meet, masters_meet, is_apart}
use Rattle.law_untagged.proofs.SameLemmas.{same_everywhere}
use Rattle.untagged_apart.specs.declared.kept.Spot.{Spot}
use Rattle.untagged_apart.specs.Look.{Differ}
use Rattle.untagged_apart.specs.Kept.{spots_in, kept_at, Keeps, At, same_in, same_at, represents, meets_in, meets_at, meets_earlier, is_before, Gone}
use Rattle.untagged_apart.proofs.LookLemmas.{none_met, posted_way}

-- Lists.

-- an element that passes one test, and what another test says of it
pub record Found {X : Type 0} (f g : X → Bool) (b : Bool) : Type 0 where
  pub element : X
  pub first : f element ≡ true
  pub second : g element ≡ b

pub found_all : {X : Type 0} (f g : X → Bool) (xs : List X) → list_any f xs ≡ true → list_all g xs ≡ true → Found f g true
found_all f g [] some all = cc
found_all f g (x ∷ xs) some all =
    let parts = and_parts (g x) (list_all g xs) all in
    let P : Bool → Type 0 = λ b. f x ≡ b → (b || list_any f xs) ≡ true → Found f g true in
    (elim (f x) as P [
      | true ↦ λ passes _. record { element = x; first = passes; second = parts.0 }
      | false ↦ λ _ later. found_all f g xs later parts.1
    ]) refl some

pub found_none : {X : Type 0} (f g : X → Bool) (xs : List X) → list_any f xs ≡ true → list_any g xs ≡ false → Found f g false
found_none f g [] some none = cc
found_none {X} f g (x ∷ xs) some none =
    let P : Bool → Bool → Type 0 = λ b c. f x ≡ b → g x ≡ c → (b || list_any f xs) ≡ true → (c || list_any g xs) ≡ false → Found f g false in
    (elim (f x) as (λ b. P b (g x)) [
      | true ↦ elim (g x) as (P true) [
        | true ↦ λ passes fails _ e. cc
        | false ↦ λ passes fails _ _. record { element = x; first = passes; second = fails }
      ]
      | false ↦ elim (g x) as (P false) [
        | true ↦ λ passes fails _ e. cc
        | false ↦ λ passes fails later none_later. found_none f g xs later none_later
      ]
    ]) refl refl some none

pub any_more : {X : Type 0} (f : X → Bool) (xs ys : List X) → list_any f (xs ++ ys) ≡ (list_any f xs || list_any f ys)
any_more f [] ys = refl
any_more f (x ∷ xs) ys =
    let P : Bool → Type 0 = λ b. (b || list_any f (xs ++ ys)) ≡ ((b || list_any f xs) || list_any f ys) in
    elim (f x) as P [ true ↦ refl | false ↦ any_more f xs ys ]

pub all_more : {X : Type 0} (f : X → Bool) (xs ys : List X) → list_all f xs ≡ true → list_all f ys ≡ true → list_all f (xs ++ ys) ≡ true
all_more f [] ys all more = more
all_more f (x ∷ xs) ys all more =
    let parts = and_parts (f x) (list_all f xs) all in
    let here : f x ≡ true = parts.0 in
    rw here (all_more f xs ys parts.1 more)

pub all_weaker : {X : Type 0} (f g : X → Bool) (xs : List X) → ((x : X) → f x ≡ true → g x ≡ true) → list_all f xs ≡ true → list_all g xs ≡ true
all_weaker f g [] so all = refl
all_weaker f g (x ∷ xs) so all =
    let parts = and_parts (f x) (list_all f xs) all in
    let here : g x ≡ true = so x parts.0 in
    rw here (all_weaker f g xs so parts.1)

every : {X : Type 0} (test : X → Bool) (xs : List X) (place : ℕ) (x : X) → list_all test xs ≡ true → slice_get xs place ≡ Some x → test x ≡ true
every test [] place x all found = cc
every {X = X} test (y ∷ ys) zero x all found =
    let same : y ≡ x = cc in
    let P : X → Type 0 = λ z. test z ≡ true in
    subst P same (and_parts (test y) (list_all test ys) all).0
every test (y ∷ ys) (suc place) x all found = every test ys place x (and_parts (test y) (list_all test ys) all).1 found

pub or_left : (a b : Bool) → a ≡ true → (a || b) ≡ true
or_left a b is = rw is refl

-- Operations that ask for the same.

-- on each bus
abbrev pub Alike : Op → Op → Type 0
Alike a b = (x : ℕ) → request_on a x ≡ request_on b x

module _ (board : Board) where
  within_alike : (a b : Op) → Alike a b → (n on : ℕ) → route_within n board a on ≡ route_within n board b on
  within_alike a b same zero on = ap (λ (request : Request). record { lanes = []; bus = on; owner = claim board on request }) (same on)
  within_alike a b same (suc n) on =
      let claims : claim board on (request_on a on) ≡ claim board on (request_on b on) = ap (claim board on) (same on) in
      let P : Place → Type 0 = λ place. route_by (λ lane. route_within n board a (end_of board lane)) on place ≡ route_by (λ lane. route_within n board b (end_of board lane)) on place in
      let each : P (claim board on (request_on b on)) =
      (elim (claim board on (request_on b on)) as P [
        | Target target ↦ refl
        | Header bus ↦ refl
        | Lane lane ↦ ap (λ (route : Route). record { lanes = lane ∷ route.lanes; bus = route.bus; owner = route.owner }) (within_alike a b same n (end_of board lane))
        | Nobody ↦ refl
      ]) in
      ap (route_by (λ lane. route_within n board a (end_of board lane)) on) claims ∙ each

  delayed_alike : (a b : Op) → Alike a b → (on : ℕ) → delayed_way board on a ≡ delayed_way board on b
  delayed_alike a b same on =
      let commands : command_of a ≡ command_of b = ap (λ (request : Request). request.command) (same on) in
      let ways : way board a on ≡ way board b on = ap (λ (route : Route). route.lanes) (within_alike a b same (length board.bridges) on) in
      ap (λ c. cond (same_command c MemWrite) [] (way board a on)) commands ∙ ap (λ lanes. cond (same_command (command_of b) MemWrite) [] lanes) ways

  any_agree : (f g : BridgeLane → Bool) (lanes : List BridgeLane) → ((lane : BridgeLane) → f lane ≡ g lane) → list_any f lanes ≡ list_any g lanes
  any_agree f g [] same = refl
  any_agree f g (lane ∷ lanes) same = ap (λ b. b || list_any f lanes) (same lane) ∙ ap (λ b. g lane || b) (any_agree f g lanes same)

  pub first_alike : (a b : Op) (on : ℕ) (other_on : ℕ) (other : Op) → Alike a b → ops_meet board on a other_on other ≡ ops_meet board on b other_on other
  first_alike a b on other_on other same =
      any_agree (meets_on board a other_on other) (meets_on board b other_on other) (delayed_way board on a)
      (λ lane. ap (λ request. list_any (same_lane lane) (delayed_way board other_on other) && same_request request (request_on other (start_of board lane))) (same (start_of board lane)))
      ∙ ap (list_any (meets_on board b other_on other)) (delayed_alike a b same on)

  pub second_alike : (a b : Op) (on : ℕ) (other_on : ℕ) (other : Op) → Alike a b → ops_meet board other_on other on a ≡ ops_meet board other_on other on b
  second_alike a b on other_on other same =
      any_agree (meets_on board other on a) (meets_on board other on b) (delayed_way board other_on other)
      (λ lane.
      ap (λ lanes. list_any (same_lane lane) lanes && same_request (request_on other (start_of board lane)) (request_on a (start_of board lane))) (delayed_alike a b same on)
      ∙ ap (λ request. list_any (same_lane lane) (delayed_way board on b) && same_request (request_on other (start_of board lane)) request) (same (start_of board lane)))

  -- a posted one meets none
  pub posted_first : (a : Op) (on other_on : ℕ) (other : Op) → same_command (command_of a) MemWrite ≡ true → ops_meet board on a other_on other ≡ false
  posted_first a on other_on other posted = rw posted refl

  pub posted_second : (a : Op) (on other_on : ℕ) (other : Op) → same_command (command_of a) MemWrite ≡ true → ops_meet board other_on other on a ≡ false
  posted_second a on other_on other posted =
      any_agree (meets_on board other on a) (λ lane. false) (delayed_way board other_on other) (λ lane. rw posted refl) ∙ none (delayed_way board other_on other)
    where
      none : (lanes : List BridgeLane) → list_any (λ lane. false) lanes ≡ false
      none [] = refl
      none (lane ∷ lanes) = none lanes

-- Operations that stand on a board.

id_of : Spot → OpId
id_of spot = record { master = spot.master; index = spot.index; attempt = 0 }

module _ (board : Board) (formed : is_well_formed board ≡ true) where
  at_op : (s : Spot) (on : ℕ) (op : Op) → At board s on op → op_of board (id_of s) ≡ Some op
  unfolding id_of
  at_op s on op at =
      let masters = (WellFormed-parts board formed).masters in
      let well = every is_well_formed_op at.master.ops s.index op (Master-parts at.master (every is_well_formed_master board.masters s.master at.master masters at.is_master)).ops at.is_op in
      let tried = (op_tries op well).from in
      let first_try : nat_lt 0 (tries_of op) ≡ true = grind (arith, nat_tests) in
      let is_master = at.is_master in
      let is_op = at.is_op in
      rw (is_master, is_op, first_try) refl

  requests_are : (s t : Spot) (on other_on : ℕ) (a b : Op) (x : ℕ) → At board s on a → At board t other_on b → same_requests board x (id_of s) (id_of t) ≡ same_request (request_on a x) (request_on b x)
  requests_are s t on other_on a b x at other_at =
      let is = at_op s on a at in
      let is_other = at_op t other_on b other_at in
      rw (is, is_other) refl

  everywhere : (s t : Spot) (on other_on : ℕ) (a b : Op) (x y : ℕ) → At board s on a → At board t other_on b → same_request (request_on a x) (request_on b x) ≡ true → same_request (request_on a y) (request_on b y) ≡ true
  everywhere s t on other_on a b x y at other_at same =
      sym (requests_are s t on other_on a b y at other_at)
      ∙ same_everywhere board (id_of s) (id_of t) x y (λ q op is. op_formed board q op formed is) (requests_are s t on other_on a b x at other_at ∙ same)

  pub alike : (s t : Spot) (on other_on : ℕ) (a b : Op) → At board s on a → At board t other_on b → same_request (request_on a 0) (request_on b 0) ≡ true → Alike a b
  alike s t on other_on a b at other_at same = λ x. (request_decides (request_on a x) (request_on b x)).0 (everywhere s t on other_on a b 0 x at other_at same)

  -- with other addresses on bus 0 they never meet
  pub far : (s t : Spot) (on other_on : ℕ) (a b : Op) → At board s on a → At board t other_on b → address_on a 0 ≢ address_on b 0 → ops_meet board on a other_on b ≡ false
  far s t on other_on a b at other_at apart =
      let differ : Differ a b = record {
        each = λ x.
            let P : Bool → Type 0 = λ c. same_request (request_on a x) (request_on b x) ≡ c → c ≡ false in
            (elim (same_request (request_on a x) (request_on b x)) as P [
              | true ↦ λ same.
                  let one : request_on a 0 ≡ request_on b 0 = (request_decides (request_on a 0) (request_on b 0)).0 (everywhere s t on other_on a b x 0 at other_at same) in
                  absurd (apart (ap (λ (request : Request). request.address) one))
              | false ↦ λ _. refl
            ]) refl;
      } in
      none_met board a other_on b (delayed_way board on a) differ

-- the rows of a table, after one was taken out and put back with one more
pub keeps_back : (address : ℕ) (spot : Spot) (old mid new : List (ℕ × List Spot)) (found : Option (List Spot)) (row longer : List Spot)
    → found ≡ lookup (λ other. address == other) old → row ≡ spots_in found → longer ≡ row ++ spot ∷ []
    → ((q : ℕ) → lookup (λ other. q == other) mid ≡ cond (address == q) None (lookup (λ other. q == other) old))
    → ((q : ℕ) → lookup (λ other. q == other) new ≡ cond (address == q) (Some longer) (lookup (λ other. q == other) mid))
    → Keeps address spot old new
keeps_back address spot old mid new found row longer found_is row_is longer_is out back =
    record {
      each = λ q.
          let was : Option (List Spot) = lookup (λ other. q == other) old in
          let both : lookup (λ other. q == other) new ≡ cond (address == q) (Some longer) (cond (address == q) None was) =
          back q ∙ ap (λ found. cond (address == q) (Some longer) found) (out q) in
          let P : Bool → Type 0 = λ b. (address == q) ≡ b → spots_in (cond b (Some longer) (cond b None was)) ≡ spots_in was ++ cond b (spot ∷ []) [] in
          ap spots_in both
          ∙ (elim (address == q) as P [
            | true ↦ λ same.
                let one : address ≡ q = eqb-true address q same in
                let found_q : found ≡ was = found_is ∙ ap (λ n. lookup (λ other. n == other) old) one in
                longer_is ∙ ap (λ xs. xs ++ spot ∷ []) (row_is ∙ ap spots_in found_q)
            | false ↦ λ _. sym (append-nil (spots_in was))
          ]) refl;
    }
