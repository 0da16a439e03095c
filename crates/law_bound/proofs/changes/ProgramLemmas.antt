-- What is left of a master's program where one of its operations ends.
use Rattle.std.proofs.Common.{◌≡◌, ℕ, zero, suc, ◌+◌, ◌*◌, ◌-◌, ◌/◌, ◌≤◌, ◌<◌, Bool, true, false, ◌==◌, cond, eqb, nat_lt, List, [], ◌∷◌, length, drop, Option, Some, None, is_some, refl, sym, ap, subst, ◌∙◌, arith, slice_get, option_and_then}
use Rattle.std.specs.List.{list_any}
use Rattle.std.proofs.Math.Nat.{div-mul-le_self}
use Rattle.std.proofs.lemmas.Nat.{le-div}
use Rattle.std.proofs.lemmas.Option.{cond_some}
use Rattle.std.proofs.lemmas.Bool.{eqb-true}
use Rattle.std.proofs.lemmas.Bool.Decides.{nat_tests}
use Rattle.list_facts.specs.Lists.{total}
use Rattle.pci_command.specs.declared.request.Request.{Request}
use Rattle.pci_command.specs.declared.op_id.OpId.{OpId}
use Rattle.pci_command.specs.declared.op_id.Outcome.{Outcome}
use Rattle.pci_command.specs.Same.{same_op}
use Rattle.board_model.specs.declared.agents.Master.{Master as MasterAgent}
use Rattle.board_model.specs.declared.agents.Target.{Target as TargetAgent}
use Rattle.board_model.specs.declared.bridge.Lane.{Lane as BridgeLane}
use Rattle.board_model.specs.declared.bridge.Place.{Place}
use Rattle.board_model.specs.declared.bridge.Place.TheVariants.{Target, Header, Lane, Nobody}
use Rattle.board_model.specs.declared.op.Op.{Op}
use Rattle.board_model.specs.declared.op.Op.TheVariants.{Read as ReadOp, Write, CfgRead, CfgWrite, Poll}
use Rattle.board_model.specs.declared.board.Board.{Board}
use Rattle.board_model.specs.Requests.{op_of, phases_of, tries_of, request_on, is_posted}
use Rattle.board_model.specs.Ways.{route_of, way, aborts_at, pieces_in, pieces_at, pieces_by, pieces_of, cost_of_try, cost_of}
use Rattle.board_model.specs.Valid.{IsValid}
use Rattle.history_model.specs.declared.event.Event.{Event}
use Rattle.history_model.specs.World.{World, world_of}
use Rattle.history_model.specs.Program.{Ending, ended, present, next_op, next_try, meets, follows_op, follows_in, follows, turn_after, turn_of}
use Rattle.history_model.specs.Words.{through}
use Rattle.history_model.specs.Left.{is_slot_of, delayed_left, op_left, turn_left, program_left}
use Rattle.law_bound.proofs.changes.ActLemmas.{some_burst}

-- a master's turn is one of its own operations
abbrev IsMasters : ℕ → Option OpId → Type 0
IsMasters master None = Unit {0}
IsMasters master (Some o) = o.master ≡ master

-- an operation of the master that is presented if it is there
present_masters : (board : Board) (master : ℕ) (o : OpId) → o.master ≡ master → IsMasters master (present board o)
present_masters board master o is =
    let P : Bool → Type 0 = λ b. IsMasters master (cond b (Some o) None) in
    elim (is_some (op_of board o)) as P [ true ↦ is | false ↦ tt ]

-- what follows an operation of the master
follows_masters : (board : Board) (master : ℕ) (o : OpId) (outcome : Outcome) (op : Option Op) → o.master ≡ master → IsMasters master (follows_in board o outcome op)
follows_masters board master o outcome None is = tt
follows_masters board master o outcome (Some (ReadOp command address)) is = present_masters board master _ is
follows_masters board master o outcome (Some (Write command address phases)) is = present_masters board master _ is
follows_masters board master o outcome (Some (CfgRead bus device register)) is = present_masters board master _ is
follows_masters board master o outcome (Some (CfgWrite bus device register phase)) is = present_masters board master _ is
follows_masters board master o outcome (Some (Poll space address want tries)) is =
    let P : Bool → Type 0 = λ b. IsMasters master (cond b (next_op board o) (next_try board o)) in
    elim (meets want outcome) as P [ true ↦ present_masters board master _ is | false ↦ present_masters board master _ is ]

-- the turn after one more event
after_masters : (board : Board) (master : ℕ) (turn : Option OpId) (ending : Option Ending) → IsMasters master turn → IsMasters master (turn_after board master turn ending)
after_masters board master turn None old = old
after_masters board master turn (Some ending) old =
    let P : Bool → Type 0 = λ b. eqb ending.op.master master ≡ b → IsMasters master (cond b (follows board ending) turn) in
    (elim (ending.op.master == master) as P [ true ↦ λ is. follows_masters board master ending.op ending.outcome (op_of board ending.op) (eqb-true ending.op.master master is) | false ↦ λ _. old ]) refl

-- the turn after a history
turn_masters : (board : Board) (h : List Event) (master : ℕ) → IsMasters master (turn_of board h master)
turn_masters board [] master = present_masters board master _ refl
turn_masters board (e ∷ h) master = after_masters board master (turn_of board h master) (ended e) (turn_masters board h master)

-- the operation that is a master's turn is its own
pub turn_master : (board : Board) (h : List Event) (master : ℕ) (o : OpId) → turn_of board h master ≡ Some o → o.master ≡ master
turn_master board h master o is = subst (IsMasters master) is (turn_masters board h master)

-- an operation stands in its master's program, and has this try
pub record Entry (o : OpId) (op : Op) (master : MasterAgent) : Type 0 where
  pub there : slice_get master.ops o.index ≡ Some op
  pub tries : o.attempt < tries_of op

-- so does each operation that is there
pub entry_of : (board : Board) (o : OpId) (op : Op) (master : MasterAgent) → op_of board o ≡ Some op → slice_get board.masters o.master ≡ Some master → Entry o op master
entry_of board o op master is_op is_master =
    let here : Op → Option Op = λ p. cond (nat_lt o.attempt (tries_of p)) (Some p) None in
    let F : Option MasterAgent → Type 0 = λ found. option_and_then here (option_and_then (λ (m : MasterAgent). slice_get m.ops o.index) found) ≡ Some op in
    let known : option_and_then here (slice_get master.ops o.index) ≡ Some op = subst F is_master is_op in
    let Q : Option Op → Type 0 = λ found. slice_get master.ops o.index ≡ found → option_and_then here found ≡ Some op → Entry o op master in
    (elim (slice_get master.ops o.index) as Q [
      | None ↦ λ _ e. cc
      | Some p ↦ λ is e.
          let parts = cond_some (nat_lt o.attempt (tries_of p)) p op e in
          let same : p ≡ op = parts.1 in
          let tried : nat_lt o.attempt (tries_of p) ≡ true = parts.0 in
          let below : o.attempt < tries_of p = grind (arith, nat_tests) in
          record { there = is ∙ ap Some same; tries = subst (λ q. o.attempt < tries_of q) same below }
    ]) refl known

-- the elements from a place on are the one there and those behind it
total_from : {X : Type 0} (weight : X → ℕ) (xs : List X) (i : ℕ) (x : X) → slice_get xs i ≡ Some x → total weight (drop i xs) ≡ weight x + total weight (drop (suc i) xs)
total_from weight [] i x is = cc
total_from weight (y ∷ xs) zero x is = let same : y ≡ x = cc in ap (λ z. weight z + total weight xs) same
total_from weight (y ∷ xs) (suc i) x is = total_from weight xs i x is

-- a product in parts
product : (tries gone cost : ℕ) → gone < tries → cost + (tries - (gone + 1)) * cost ≡ (tries - gone) * cost
product tries gone cost below =
    let one : tries - gone ≡ (tries - (gone + 1)) + 1 = omega arith in
    rw one (omega arith)

-- a quotient grows with what is divided
quotient : (burst a b : ℕ) → 1 ≤ burst → a ≤ b → a / burst ≤ b / burst
quotient burst a b some below = let within = div-mul-le_self a burst in le-div (a / burst) b burst (omega arith) (omega arith)

module _ (board : Board) (valid : IsValid board) where
  -- fewer data phases reach a target in no more pieces
  pieces_at_le : (request : Request) (place a b : ℕ) (found : Option TargetAgent) → slice_get board.targets place ≡ found → a ≤ b → pieces_at request a found ≤ pieces_at request b found
  pieces_at_le request place a b None is below = omega arith
  pieces_at_le request place a b (Some target) is below =
      let P : Bool → Type 0 = λ t. cond t 1 (pieces_in target.burst a) ≤ cond t 1 (pieces_in target.burst b) in
      elim (aborts_at target request) as P [ true ↦ omega arith | false ↦ quotient target.burst (a + (target.burst - 1)) (b + (target.burst - 1)) (some_burst board place target valid is) (omega arith) ]

  -- and the end of a way
  pieces_by_le : (request : Request) (a b : ℕ) (place : Place) → a ≤ b → pieces_by board request a place ≤ pieces_by board request b place
  pieces_by_le request a b (Target place) below = pieces_at_le request place a b (slice_get board.targets place) refl below
  pieces_by_le request a b (Header bus) below = omega arith
  pieces_by_le request a b (Lane lane) below = omega arith
  pieces_by_le request a b Nobody below = omega arith

  -- from any bus
  pieces_le : (op : Op) (on a b : ℕ) → a ≤ b → pieces_of board op on a ≤ pieces_of board op on b
  pieces_le op on a b below = let route = route_of board op on in pieces_by_le (request_on op route.bus) a b route.owner below

  -- where no slot is held for an operation, it has its whole way before it
  fresh : (world : World) (o : OpId) (lanes : List BridgeLane) → ((lane : BridgeLane) → list_any (is_slot_of o) (world lane).held ≡ false) → delayed_left world o lanes ≡ 4 * length lanes + 1
  fresh world o [] none = refl
  fresh world o (lane ∷ lanes) none = let gone = none lane in rw gone refl

  -- an operation that comes up costs no more than its tries
  comes_up : (h : List Event) (on : ℕ) (o : OpId) (op : Op) → o.attempt < tries_of op → ((lane : BridgeLane) → list_any (is_slot_of o) (world_of board h lane).held ≡ false)
      → op_left board h on o op ≤ (tries_of op - o.attempt) * cost_of_try board on op
  comes_up h on o op tried none =
      let request : Request = request_on op on in
      let long : ℕ = length (way board op on) in
      let posted : ℕ = 3 * long + pieces_of board op on (length request.phases) in
      let law_posted : ℕ = 3 * long + pieces_of board op on (length (phases_of op) - through h o) in
      let delayed : ℕ = 4 * long + 1 in
      let law_delayed : ℕ = delayed_left (world_of board h) o (way board op on) in
      let tries : ℕ = tries_of op in
      let P : Bool → Type 0 = λ b. cond b law_posted (law_delayed + (tries - (o.attempt + 1)) * cond b posted delayed) ≤ (tries - o.attempt) * cond b posted delayed in
      elim (is_posted request) as P [
        | true ↦ omega (arith, pieces_le op on (length (phases_of op) - through h o) (length request.phases) (omega arith), product tries o.attempt posted tried)
        | false ↦ omega (arith, fresh (world_of board h) o (way board op on) none, product tries o.attempt delayed tried)
      ]

  -- the next operation, or the next try, costs no more than what was behind the operation that ended
  module _ (h : List Event) (o : OpId) (op : Op) (master : MasterAgent) (is_op : op_of board o ≡ Some op) (is_master : slice_get board.masters o.master ≡ Some master)
      (none : (q : OpId) → q.master ≡ o.master → same_op o q ≡ false → (lane : BridgeLane) → list_any (is_slot_of q) (world_of board h lane).held ≡ false) where
    -- the further tries, and the operations behind
    abbrev pub behind : ℕ
    behind = (tries_of op - (o.attempt + 1)) * cost_of_try board master.bus op + total (cost_of board master.bus) (drop (o.index + 1) master.ops)

    -- one of these comes up
    comes_next : (q : OpId) → q.master ≡ o.master → same_op o q ≡ false
        → ((p : Op) → Entry q p master → (tries_of p - q.attempt) * cost_of_try board master.bus p + total (cost_of board master.bus) (drop (q.index + 1) master.ops) ≤ behind)
        → program_left board h master (present board q) ≤ behind
    comes_next q of_master other within =
        let is_master_too : slice_get board.masters q.master ≡ Some master = ap (slice_get board.masters) of_master ∙ is_master in
        let P : Option Op → Type 0 = λ found. op_of board q ≡ found → program_left board h master (cond (is_some found) (Some q) None) ≤ behind in
        (elim (op_of board q) as P [
          | None ↦ λ _. omega arith
          | Some p ↦ λ is.
              let entry = entry_of board q p master is is_master_too in
              let up = comes_up h master.bus q p entry.tries (none q of_master other) in
              let F : Option Op → Type 0 = λ found. turn_left board h master.bus q found + total (cost_of board master.bus) (drop (q.index + 1) master.ops) ≤ behind in
              let there : F (Some p) = omega (arith, up, within p entry) in
              subst F (sym is) there
        ]) refl

    -- the next operation
    next_op_left : program_left board h master (next_op board o) ≤ behind
    next_op_left =
        let q : OpId = record { master = o.master; index = o.index + 1; attempt = 0 } in
        let other : same_op o q ≡ false = grind (arith, nat_tests) in
        comes_next q refl other
        (λ p entry.
        let from = total_from (cost_of board master.bus) master.ops (o.index + 1) p entry.there in
        let next : suc (o.index + 1) ≡ o.index + 1 + 1 = omega arith in
        let moved : total (cost_of board master.bus) (drop (o.index + 1) master.ops) ≡ cost_of board master.bus p + total (cost_of board master.bus) (drop (o.index + 1 + 1) master.ops) =
        subst (λ n. total (cost_of board master.bus) (drop (o.index + 1) master.ops) ≡ cost_of board master.bus p + total (cost_of board master.bus) (drop n master.ops)) next from in
        let whole : tries_of p - 0 ≡ tries_of p = omega arith in
        rw whole (omega arith))

    -- the next try
    next_try_left : program_left board h master (next_try board o) ≤ behind
    next_try_left =
        let q : OpId = record { master = o.master; index = o.index; attempt = o.attempt + 1 } in
        let other : same_op o q ≡ false = grind (arith, nat_tests) in
        let entry_o = entry_of board o op master is_op is_master in
        comes_next q refl other
        (λ p entry.
        let first = entry_o.there in
        let second = entry.there in
        let same : p ≡ op = cc in
        rw same (omega arith))

    -- what follows the operation that ended
    pub follows_left : (outcome : Outcome) → program_left board h master (follows board (record { op = o; outcome = outcome })) ≤ behind
    follows_left outcome =
        let F : Option Op → Type 0 = λ found. program_left board h master (follows_in board o outcome found) ≤ behind in
        let P : Op → Type 0 = λ p. program_left board h master (follows_op board o outcome p) ≤ behind in
        let there : P op =
        elim op as P [
          | ReadOp command address ↦ next_op_left
          | Write command address phases ↦ next_op_left
          | CfgRead bus device register ↦ next_op_left
          | CfgWrite bus device register phase ↦ next_op_left
          | Poll space address want tries ↦
              let Q : Bool → Type 0 = λ b. program_left board h master (cond b (next_op board o) (next_try board o)) ≤ behind in
              elim (meets want outcome) as Q [ true ↦ next_op_left | false ↦ next_try_left ]
        ] in
        subst F (sym is_op) there
