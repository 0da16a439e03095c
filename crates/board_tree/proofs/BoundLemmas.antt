-- The bound of a decodable board is small.
use Rattle.std.proofs.Common.{◌≡◌, ℕ, ◌+◌, ◌*◌, ◌-◌, ◌<◌, ◌≤◌, ◌^◌, zero, suc, true, false, List, [], ◌∷◌, length, Option, Some, None, slice_get, arith, if◌then◌else◌}
use Rattle.std.specs.List.{list_all}
use Rattle.std.proofs.Math.Nat.{mul-le-mul_left, mul-le-mul_right, div-zero, div-le_of_le-mul}
use Rattle.std.proofs.lemmas.Bool.{and_parts}
use Rattle.list_facts.specs.Lists.{total, greatest}
use Rattle.pci_command.specs.declared.request.Request.{Request}
use Rattle.board_model.specs.declared.agents.Target.{Target as TargetAgent}
use Rattle.board_model.specs.declared.agents.Master.{Master}
use Rattle.board_model.specs.declared.bridge.Lane.{Lane as BridgeLane}
use Rattle.board_model.specs.declared.bridge.Place.{Place}
use Rattle.board_model.specs.declared.bridge.Place.TheVariants.{Target, Header, Lane, Nobody}
use Rattle.board_model.specs.declared.op.Op.{Op}
use Rattle.board_model.specs.declared.board.Board.{Board}
use Rattle.board_model.specs.Limits.{most_bridges, most_plans}
use Rattle.board_model.specs.WellFormed.{is_well_formed_op, is_well_formed_master, is_well_formed_target, operations_in, is_well_formed}
use Rattle.board_model.specs.Requests.{phases_of, request_on, tries_of, is_posted}
use Rattle.board_model.specs.Claims.{claim}
use Rattle.board_model.specs.Ways.{Route, route_by, route_within, route_of, way, end_of, aborts_at, pieces_in, pieces_at, pieces_by, pieces_of, cost_of_try, cost_of, longest_way, bound_of}
use Rattle.board_tree.specs.Decodable.{IsDecodable}
use Rattle.board_model.proofs.Laws.{WellFormed-parts, Target-parts, Master-parts, op_phases}

-- A way takes at most as many lanes as the board has bridges.

lanes_by : (onwards : BridgeLane → Route) (on n : ℕ) (place : Place) → ((lane : BridgeLane) → length (onwards lane).lanes ≤ n) → length (route_by onwards on place).lanes ≤ suc n
lanes_by onwards on n (Target target) short = omega arith
lanes_by onwards on n (Header bus) short = omega arith
lanes_by onwards on n (Lane lane) short = omega (arith, short lane)
lanes_by onwards on n Nobody short = omega arith

lanes_within : (n : ℕ) (board : Board) (op : Op) (on : ℕ) → length (route_within n board op on).lanes ≤ n
lanes_within zero board op on = omega arith
lanes_within (suc n) board op on =
    lanes_by (λ lane. route_within n board op (end_of board lane)) on n (claim board on (request_on op on))
    (λ lane. lanes_within n board op (end_of board lane))

way_short : (board : Board) (op : Op) (on : ℕ) → IsDecodable board → length (way board op on) ≤ most_bridges
way_short board op on decodable = omega (arith, lanes_within (length board.bridges) board op on, decodable.few_bridges)

-- A write reaches its target in at most one piece more than it has data phases.

pieces_in-le : (burst phases : ℕ) → pieces_in burst phases ≤ phases + 1
pieces_in-le zero phases = omega (arith, div-zero (phases + (0 - 1)))
pieces_in-le (suc burst) phases = div-le_of_le-mul (suc burst) (omega arith)

pieces_at-le : (request : Request) (phases : ℕ) (target : Option TargetAgent) → pieces_at request phases target ≤ phases + 1
pieces_at-le request phases None = omega arith
pieces_at-le request phases (Some target) =
    elim (aborts_at target request) as (λ b. (if b then 1 else pieces_in target.burst phases) ≤ phases + 1) [
      | true ↦ omega arith
      | false ↦ pieces_in-le target.burst phases
    ]

pieces_by-le : (board : Board) (request : Request) (phases : ℕ) (place : Place) → pieces_by board request phases place ≤ phases + 1
pieces_by-le board request phases (Target target) = pieces_at-le request phases (slice_get board.targets target)
pieces_by-le board request phases (Header bus) = omega arith
pieces_by-le board request phases (Lane lane) = omega arith
pieces_by-le board request phases Nobody = omega arith

-- So no try costs more than 125.

try_small : (board : Board) (on : ℕ) (op : Op) → IsDecodable board → is_well_formed_op op ≡ true → cost_of_try board on op ≤ 125
try_small board on op decodable formed =
    let lanes = way_short board op on decodable in
    let phases = (op_phases op formed).to in
    let route = route_of board op on in
    let pieces = pieces_by-le board (request_on op route.bus) (length (phases_of op)) route.owner in
    elim (is_posted (request_on op on)) as
    (λ b. (if b then 3 * length (way board op on) + pieces_of board op on (length (phases_of op)) else 4 * length (way board op on) + 1) ≤ 125) [
      | true ↦ omega (arith, lanes, phases, pieces)
      | false ↦ omega (arith, lanes)
    ]

ops_small : (board : Board) (on : ℕ) (ops : List Op) → IsDecodable board → list_all is_well_formed_op ops ≡ true → total (cost_of board on) ops ≤ 125 * total tries_of ops
ops_small board on [] decodable formed = omega arith
ops_small board on (op ∷ ops) decodable formed =
    let here = mul-le-mul_left (tries_of op) (try_small board on op decodable (and_parts _ _ formed).0) in
    omega (arith, here, ops_small board on ops decodable (and_parts _ _ formed).1)

abbrev cost_of_all : Board → List Master → ℕ
cost_of_all board masters = total (λ (master : Master). total (cost_of board master.bus) master.ops) masters

more_costs : (cost costs tries later : ℕ) → cost ≤ 125 * tries → costs ≤ 125 * later → cost + costs ≤ 125 * (tries + later)
more_costs cost costs tries later here there = omega arith

masters_small : (board : Board) (masters : List Master) → IsDecodable board → list_all is_well_formed_master masters ≡ true → cost_of_all board masters ≤ 125 * operations_in masters
masters_small board [] decodable formed = omega arith
masters_small board (master ∷ masters) decodable formed =
    more_costs _ _ (total tries_of master.ops) (operations_in masters) (ops_small board master.bus master.ops decodable (Master-parts master (and_parts _ _ formed).0).ops)
    (masters_small board masters decodable (and_parts _ _ formed).1)

-- Stall tokens, and ways that are gone once more.

stalls_small : (targets : List TargetAgent) → list_all is_well_formed_target targets ≡ true → total (λ (target : TargetAgent). target.stalls) targets ≤ 1000000 * length targets
stalls_small [] formed = omega arith
stalls_small (target ∷ targets) formed =
    let parts = and_parts (is_well_formed_target target) (list_all is_well_formed_target targets) formed in
    omega (arith, (Target-parts target parts.0).stalls, stalls_small targets parts.1)

greatest_small : {X : Type 0} (weight : X → ℕ) (most : ℕ) → ((x : X) → weight x ≤ most) → (xs : List X) → greatest weight xs ≤ most
greatest_small weight most small [] = omega arith
greatest_small weight most small (x ∷ xs) = omega (arith, small x, greatest_small weight most small xs)

longest_small : (board : Board) → IsDecodable board → longest_way board ≤ most_bridges
longest_small board decodable =
    greatest_small (λ (master : Master). greatest (λ op. length (way board op master.bus)) master.ops) most_bridges
    (λ master. greatest_small (λ op. length (way board op master.bus)) most_bridges (λ op. way_short board op master.bus decodable) master.ops) board.masters

product_small : (longest discards : ℕ) → longest ≤ most_bridges → discards ≤ most_plans → 4 * longest * discards ≤ 4 * most_bridges * most_plans
product_small longest discards short few =
    let product = mul-le-mul_right discards short in omega (arith, product, few)

pub bound_of-small : (board : Board) → is_well_formed board ≡ true → IsDecodable board → bound_of board < 2 ^ 64
bound_of-small board formed decodable =
    let form = WellFormed-parts board formed in
    let costs = masters_small board board.masters decodable form.masters in
    let stalls = stalls_small board.targets form.targets in
    let again = product_small (longest_way board) (length board.discards) (longest_small board decodable) form.discards_fit in
    omega (arith, costs, form.operations, stalls, decodable.few_targets, again, form.drops_fit)
