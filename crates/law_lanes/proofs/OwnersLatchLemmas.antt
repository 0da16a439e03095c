-- Who presents a delayed request waits for it.
use Rattle.std.proofs.Common.{◌≡◌, ℕ, ◌+◌, ◌≤◌, Bool, true, false, not, ◌==◌, cond, List, [], ◌∷◌, ◌++◌, Option, Some, None, refl, sym, ap, subst, arith}
use Rattle.std.specs.List.{find, list_any, list_all, AllByRecursion}
use Rattle.list_facts.specs.Lists.{total, before}
use Rattle.list_facts.proofs.TotalLemmas.{found, total-push}
use Rattle.list_facts.proofs.FindLemmas.{find_passes}
use Rattle.list_facts.proofs.EachLemmas.{Each-find}
use Rattle.pci_command.specs.declared.request.Request.{Request}
use Rattle.pci_command.specs.declared.op_id.OpId.{OpId}
use Rattle.board_model.specs.declared.bridge.Lane.{Lane as BridgeLane}
use Rattle.board_model.specs.declared.board.Board.{Board}
use Rattle.board_model.specs.Requests.{request_of, is_posted, same_requests}
use Rattle.board_model.specs.Ways.{end_of}
use Rattle.history_model.specs.declared.event.By.{By}
use Rattle.history_model.specs.declared.event.By.TheVariants.{Master, Lane as ByLane}
use Rattle.history_model.specs.declared.event.Event.{Event}
use Rattle.history_model.specs.declared.item.Carried.{Carried}
use Rattle.history_model.specs.declared.item.Carried.TheVariants.{Post, Ask, Done, Room, Gone}
use Rattle.history_model.specs.declared.item.Slot.{Slot}
use Rattle.history_model.specs.Lanes.{is_of}
use Rattle.history_model.specs.World.{same_initiator, is_own, world_of}
use Rattle.history_model.specs.Program.{turn_of}
use Rattle.history_model.specs.Answers.{asked, asks_same, goes_before, presents, presents_item, wants}
use Rattle.law_lanes.specs.Owners.{is_equal_ask, StandsFirst, Waits, own_count}
use Rattle.law_lanes.specs.Kinds.{NamesOp, RightKind}
use Rattle.history_model.proofs.facts.RequestLemmas.{same_op_true, request_is_of}
use Rattle.history_model.proofs.facts.EqualLemmas.{same_requests-self, is_own-parts, is_own-alike}
use Rattle.list_facts.proofs.FoundLemmas.{find_first}
use Rattle.history_model.proofs.facts.WantsLemmas.{wants-turn}
use Rattle.std.proofs.lemmas.Bool.{and_parts}

-- an item that goes before another has not the same request
goes_before_apart : (board : Board) (on : ℕ) (o : OpId) (number : ℕ) (older : Carried) → goes_before board on (Ask o number) older ≡ true → is_equal_ask board on o older ≡ false
goes_before_apart board on o number older goes =
    let same : Bool = asks_same board on (Some o) (asked older) in
    let P : Bool → Type 0 = λ b. not b ≡ true → b ≡ false in
    let parts = and_parts _ (not same) goes in
    (elim same as P [ true ↦ λ e. cc | false ↦ λ _. refl ]) parts.1

none_before : (board : Board) (on : ℕ) (o : OpId) (number : ℕ) (older : List Carried) → list_all (goes_before board on (Ask o number)) older ≡ true → list_any (is_equal_ask board on o) older ≡ false
none_before board on o number [] all = refl
none_before board on o number (item ∷ older) all =
    let parts = and_parts (goes_before board on (Ask o number) item) (list_all (goes_before board on (Ask o number)) older) all in
    let here = goes_before_apart board on o number item parts.0 in
    rw here (none_before board on o number older parts.1)

-- the item of a delayed operation is its delayed request
item_presented : (board : Board) (on : ℕ) (o : OpId) (request : Request) (standing : List Carried) (item : Option Carried)
    → request_of board o on ≡ Some request → is_posted request ≡ false → AllByRecursion (RightKind board) standing
    → find (is_of o) standing ≡ item → presents_item board on (before (is_of o) standing) item ≡ true → StandsFirst board on o standing
item_presented board on o request standing None is_request delayed right found presented = cc
item_presented board on o request standing (Some (Post op)) is_request delayed right found presented =
    let same : o ≡ op = same_op_true o op (find_passes (is_of o) standing (Post op) found) in
    let names : NamesOp board true op = Each-find (RightKind board) (is_of o) standing (Post op) right found in
    let of_op = request_is_of board o on request is_request in
    let one : of_op.op ≡ names.op = let first = of_op.is_op in let second = names.is_op in cc in
    let posted = names.is_posted in
    let request_posted = ap is_posted of_op.is_request in
    absurd (let e : true ≡ false = cc in let f : true ≡ false → ⊥ = λ e. cc in f e)
item_presented board on o request standing (Some (Ask op number)) is_request delayed right found presented =
    let same : o ≡ op = same_op_true o op (find_passes (is_of o) standing (Ask op number) found) in
    let F : OpId → Type 0 = λ p. presents_item board on (before (is_of o) standing) (Some (Ask p number)) ≡ true in
    let G : OpId → Type 0 = λ p. find (is_of o) standing ≡ Some (Ask p number) in
    let none = none_before board on o number (before (is_of o) standing) (subst F (sym same) presented) in
    let self = same_requests-self board on o request is_request in
    record { number = number; first = find_first (is_of o) (is_equal_ask board on o) standing (Ask o number) (subst G (sym same) found) self none }
item_presented board on o request standing (Some (Done op slot outcome)) is_request delayed right found presented =
    let e : false ≡ true = find_passes (is_of o) standing (Done op slot outcome) found in cc
item_presented board on o request standing (Some Room) is_request delayed right found presented =
    let e : false ≡ true = find_passes (is_of o) standing Room found in cc
item_presented board on o request standing (Some (Gone slot)) is_request delayed right found presented =
    let e : false ≡ true = find_passes (is_of o) standing (Gone slot) found in cc

-- who presents a delayed operation, waits for it
pub wants-waits : (board : Board) (h : List Event) (on : ℕ) (by : By) (o : OpId) (request : Request)
    → ((lane : BridgeLane) → AllByRecursion (RightKind board) (world_of board h lane).standing)
    → request_of board o on ≡ Some request → is_posted request ≡ false → wants board h on by o ≡ true → Waits board (turn_of board h) (world_of board h) on by o
wants-waits board h on Master o request right is_request delayed wanted =
    wants-turn board h on o wanted
wants-waits board h on (ByLane lane) o request right is_request delayed wanted =
    let standing : List Carried = (world_of board h lane).standing in
    item_presented board on o request standing (find (is_of o) standing) is_request delayed (right lane) refl
    (and_parts (end_of board lane == on) (presents board on o standing) wanted).1

-- where no slot is the own one of a latch, each initiator has one own slot after it
one_own-none : (board : Board) (on : ℕ) (by : By) (o : OpId) (held : List Slot) → find (is_own board on by o) held ≡ None → total (own_count board on by o) held ≡ 0
one_own-none board on by o [] none = refl
one_own-none board on by o (slot ∷ held) none =
    let P : Bool → Type 0 = λ b. cond b (Some slot) (find (is_own board on by o) held) ≡ None → cond b 1 0 + total (own_count board on by o) held ≡ 0 in
    (elim (is_own board on by o slot) as P [ true ↦ λ e. cc | false ↦ λ e. omega (arith, one_own-none board on by o held e) ]) none

own_count-alike : (board : Board) (on : ℕ) (a : By) (p : OpId) (b : By) (q : OpId) (held : List Slot) → same_initiator a p b q ≡ true → same_requests board on p q ≡ true → total (own_count board on a p) held ≡ total (own_count board on b q) held
own_count-alike board on a p b q [] initiators requests = refl
own_count-alike board on a p b q (slot ∷ held) initiators requests =
    let here = is_own-alike board on a p b q initiators requests slot in
    let counts : own_count board on a p slot ≡ own_count board on b q slot = ap (λ (b : Bool). cond b 1 0) here in
    omega (arith, own_count-alike board on a p b q held initiators requests)

pub one_own-push : (board : Board) (on : ℕ) (held : List Slot) (slot : Slot) → find (is_own board on slot.by slot.op) held ≡ None → ((by : By) (o : OpId) → total (own_count board on by o) held ≤ 1)
    → (by : By) (o : OpId) → total (own_count board on by o) (held ++ slot ∷ []) ≤ 1
one_own-push board on held slot none one by o =
    let count : Slot → ℕ = own_count board on by o in
    let sum : total count (held ++ slot ∷ []) ≡ total count held + count slot = total-push count held slot in
    let P : Bool → Type 0 = λ b. is_own board on by o slot ≡ b → total count held + cond b 1 0 ≤ 1 in
    let at : total count held + count slot ≤ 1 = (elim (is_own board on by o slot) as P [
      | true ↦ λ own.
          let parts = is_own-parts board on by o slot own in
          omega (arith, own_count-alike board on slot.by slot.op by o held parts.0 parts.1, one_own-none board on slot.by slot.op held none)
      | false ↦ λ _. omega (arith, one by o)
    ]) refl in
    omega arith
