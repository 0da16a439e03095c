-- Before the first event everything is left.
use Rattle.std.proofs.Common.{◌≡◌, ℕ, ◌+◌, ◌*◌, ◌-◌, ◌<◌, zero, suc, Bool, true, false, nat_lt, List, [], ◌∷◌, length, Some, None, slice_get, refl, arith, if◌then◌else◌}
use Rattle.std.specs.List.{list_all, AllByRecursion}
use Rattle.std.proofs.lemmas.Bool.{and_parts}
use Rattle.std.proofs.lemmas.Bool.Decides.{nat_tests}
use Rattle.list_facts.specs.Lists.{total}
use Rattle.list_facts.proofs.TotalLemmas.{total-zero}
use Rattle.pci_command.specs.declared.command.Space.{Space}
use Rattle.pci_command.specs.declared.command.Space.TheVariants.{Mem, Io, Cfg}
use Rattle.pci_command.specs.declared.op_id.OpId.{OpId}
use Rattle.board_model.specs.declared.op.Want.{Want}
use Rattle.board_model.specs.declared.agents.Target.{Target as TargetAgent}
use Rattle.board_model.specs.declared.agents.Master.{Master as MasterAgent}
use Rattle.board_model.specs.declared.bridge.Lane.{Lane as BridgeLane}
use Rattle.board_model.specs.declared.op.Op.{Op}
use Rattle.board_model.specs.declared.op.Op.TheVariants.{Read, Write, CfgRead, CfgWrite, Poll}
use Rattle.board_model.specs.declared.board.Board.{Board}
use Rattle.board_model.specs.declared.board.Planned.{Planned}
use Rattle.board_model.specs.WellFormed.{is_well_formed, is_well_formed_op, is_well_formed_master, is_well_formed_plan}
use Rattle.board_model.specs.Requests.{op_of, phases_of, request_on, tries_of, is_posted}
use Rattle.board_model.specs.Ways.{way, pieces_of, cost_of, longest_way, bound_of}
use Rattle.history_model.specs.World.{world_of}
use Rattle.history_model.specs.Program.{turn_of}
use Rattle.history_model.specs.Left.{bridge_left, delayed_left, op_left, program_left, programs_left, stalls_left, discard_left, drop_left, left_of}
use Rattle.law_bound.specs.Begins.{IsTried, Begins}
use Rattle.board_model.proofs.Laws.{WellFormed-parts, Master-parts, Within-parts, op_tries}

-- A posted write is tried once, and of a delayed request no lane holds a slot.

posted_space : (space : Space) (address : ℕ) (want : Want) (tries on : ℕ) → is_posted (request_on (Poll space address want tries) on) ≡ true → tries ≡ 1
posted_space Mem address want tries on posted = cc
posted_space Io address want tries on posted = cc
posted_space Cfg address want tries on posted = cc

posted_once : (op : Op) (on : ℕ) → is_posted (request_on op on) ≡ true → tries_of op ≡ 1
posted_once (Read command address) on posted = refl
posted_once (Write command address phases) on posted = refl
posted_once (CfgRead bus device register) on posted = refl
posted_once (CfgWrite bus device register phase) on posted = refl
posted_once (Poll space address want tries) on posted = posted_space space address want tries on posted

none_held : (board : Board) (o : OpId) (lanes : List BridgeLane) → delayed_left (world_of board []) o lanes ≡ 4 * length lanes + 1
none_held board o [] = refl
none_held board o (lane ∷ lanes) = refl

less_none : (n : ℕ) → n - 0 ≡ n
less_none n = omega arith

one_of : (tries cost : ℕ) → tries ≡ 1 → cost ≡ tries * cost
one_of tries cost one = rw one (omega arith)

all_tries : (tries cost : ℕ) → 0 < tries → cost + (tries - 1) * cost ≡ tries * cost
all_tries zero cost tried = absurd (omega arith)
all_tries (suc n) cost tried = let e : suc n - 1 ≡ n = omega arith in rw e (omega arith)

first_try : (board : Board) (on : ℕ) (o : OpId) (op : Op) → o.attempt ≡ 0 → 0 < tries_of op → op_left board [] on o op ≡ cost_of board on op
first_try board on o op first tried =
    let long : ℕ = length (way board op on) in
    let P : Bool → Type 0 = λ b. is_posted (request_on op on) ≡ b →
    (if b then 3 * long + pieces_of board op on (length (phases_of op) - 0)
    else delayed_left (world_of board []) o (way board op on) + (tries_of op - (o.attempt + 1)) * (if b then 3 * long + pieces_of board op on (length (phases_of op)) else 4 * long + 1))
    ≡ tries_of op * (if b then 3 * long + pieces_of board op on (length (phases_of op)) else 4 * long + 1) in
    (elim (is_posted (request_on op on)) as P [
      | true ↦ λ posted. rw (less_none (length (phases_of op))) (one_of (tries_of op) (3 * long + pieces_of board op on (length (phases_of op))) (posted_once op on posted))
      | false ↦ λ delayed. rw (none_held board o (way board op on), first) (all_tries (tries_of op) (4 * long + 1) tried)
    ]) refl

-- The programs.

abbrev first_of : ℕ → OpId
first_of index = record { master = index; index = 0; attempt = 0 }

program_begins : (board : Board) (master : MasterAgent) (index : ℕ) (ops : List Op) → slice_get board.masters index ≡ Some master → master.ops ≡ ops → IsTried ops
    → program_left board [] master (turn_of board [] index) ≡ total (cost_of board master.bus) ops
program_begins board master index [] there same tried =
    let none : op_of board (first_of index) ≡ None = rw (there, same) refl in
    rw none refl
program_begins board master index (op ∷ ops) there same tried =
    let positive : nat_lt 0 (tries_of op) ≡ true = grind (arith, nat_tests) in
    let some : op_of board (first_of index) ≡ Some op = rw (there, same, positive) refl in
    let cost : op_left board [] master.bus (first_of index) op ≡ cost_of board master.bus op = first_try board master.bus (first_of index) op refl tried in
    rw (some, some, same) (omega (arith, cost))

abbrev cost_of_program : Board → MasterAgent → ℕ
cost_of_program board master = total (cost_of board master.bus) master.ops

programs_begin : (board : Board) (index : ℕ) (masters : List MasterAgent) → ((k : ℕ) → slice_get board.masters (index + k) ≡ slice_get masters k)
    → AllByRecursion (λ (master : MasterAgent). IsTried master.ops) masters → programs_left board [] index masters ≡ total (cost_of_program board) masters
programs_begin board index [] there tried = refl
programs_begin board index (master ∷ masters) there tried =
    let here : index + 0 ≡ index = omega arith in
    let first : slice_get board.masters index ≡ Some master = rw here at (there 0) in
    let behind : (k : ℕ) → slice_get board.masters ((index + 1) + k) ≡ slice_get masters k = λ k.
    let e : (index + 1) + k ≡ index + suc k = omega arith in rw e (there (suc k)) in
    omega (arith, program_begins board master index master.ops first refl tried.0, programs_begin board (index + 1) masters behind tried.1)

-- Stall tokens, discards and drops.

stalls_begin : (index : ℕ) (targets : List TargetAgent) → stalls_left [] index targets ≡ total (λ (target : TargetAgent). target.stalls) targets
stalls_begin index [] = refl
stalls_begin index (target ∷ targets) = omega (arith, stalls_begin (index + 1) targets)

counts : (n cost : ℕ) → 0 < n → (if nat_lt 0 n then cost else 0) ≡ cost
counts n cost positive = let test : nat_lt 0 n ≡ true = grind (arith, nat_tests) in rw test refl

discards_begin : (board : Board) (lines : List Planned) → AllByRecursion (λ (planned : Planned). 0 < planned.count) lines
    → total (discard_left board (world_of board [])) lines ≡ 4 * longest_way board * length lines
discards_begin board [] counted = omega arith
discards_begin board (planned ∷ lines) counted =
    omega (arith, counts planned.count (4 * longest_way board) counted.0, discards_begin board lines counted.1)

drops_begin : (board : Board) (lines : List Planned) → AllByRecursion (λ (planned : Planned). 0 < planned.count) lines
    → total (drop_left (world_of board [])) lines ≡ 3 * length lines
drops_begin board [] counted = refl
drops_begin board (planned ∷ lines) counted = omega (arith, counts planned.count 3 counted.0, drops_begin board lines counted.1)

pub left-begins : (board : Board) → Begins board → left_of board [] ≡ bound_of board
left-begins board begins =
    omega (
      arith,
      programs_begin board 0 board.masters (λ k. let e : 0 + k ≡ k = omega arith in rw e refl) begins.tried,
      total-zero (bridge_left board []) (λ _. refl) board.bridges,
      stalls_begin 0 board.targets,
      discards_begin board board.discards begins.discards,
      drops_begin board board.drops begins.drops,
    )

-- A well-formed board begins so.

ops_tried : (ops : List Op) → list_all is_well_formed_op ops ≡ true → IsTried ops
ops_tried [] formed = tt
ops_tried (op ∷ ops) formed = (op_tries op (and_parts _ _ formed).0).from

masters_tried : (masters : List MasterAgent) → list_all is_well_formed_master masters ≡ true → AllByRecursion (λ (master : MasterAgent). IsTried master.ops) masters
masters_tried [] formed = tt
masters_tried (master ∷ masters) formed =
    (ops_tried master.ops (Master-parts master (and_parts _ _ formed).0).ops, masters_tried masters (and_parts _ _ formed).1)

lines_count : (lines : List Planned) → list_all is_well_formed_plan lines ≡ true → AllByRecursion (λ (planned : Planned). 0 < planned.count) lines
lines_count [] formed = tt
lines_count (planned ∷ lines) formed =
    (omega (arith, (Within-parts 1 1000000 planned.count (and_parts _ _ formed).0).from), lines_count lines (and_parts _ _ formed).1)

pub Begins-formed : (board : Board) → is_well_formed board ≡ true → Begins board
Begins-formed board formed =
    let form = WellFormed-parts board formed in
    record {
      tried = masters_tried board.masters form.masters;
      discards = lines_count board.discards form.discards;
      drops = lines_count board.drops form.drops;
    }
