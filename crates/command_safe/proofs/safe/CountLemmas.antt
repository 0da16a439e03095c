-- How many lines there are of each kind, and that they are few.
use Rattle.std.proofs.Common.{◌≡◌, ℕ, suc, ◌+◌, ◌^◌, ◌<◌, ◌≤◌, Bool, true, false, List, [], ◌∷◌, length, map, Option, Some, None, refl, sym, ap, ◌∙◌, arith}
use Rattle.std.specs.Prelude.{count_by, filter, if◌then◌else◌}
use Rattle.std.specs.List.{list_all}
use Rattle.std.proofs.lemmas.Bool.{and_parts}
use Rattle.std.proofs.lemmas.List.{length-append, length-map}
use Rattle.std.proofs.lemmas.List.Sums.{length-filter}
use Rattle.list_facts.specs.Lists.{total}
use Rattle.pci_command.specs.declared.op_id.OpId.{OpId}
use Rattle.board_model.specs.declared.op.Op.{Op}
use Rattle.board_model.specs.declared.agents.Master.{Master}
use Rattle.board_model.specs.declared.board.Board.{Board}
use Rattle.board_model.specs.Requests.{tries_of}
use Rattle.board_model.specs.WellFormed.{is_well_formed_op, is_well_formed_master, operations_in}
use Rattle.board_model.specs.Valid.{IsValid}
use Rattle.board_model.proofs.Laws.{WellFormed-parts, Master-parts, op_tries}
use Rattle.safe_model.specs.Ops.{ops_from, ops_by}
use Rattle.safe_model.specs.Clocks.{Table}
use Rattle.safe_model.specs.said.Said.{Said, said_of}
use Rattle.safe_said.specs.AllSaid.{lines_of, said_among, all_said, line}
use Rattle.safe_said.specs.declared.verdict.OpSaid.{OpSaid}

length-filter-map : {X Y : Type 0} (p : Y → Bool) (f : X → Y) (xs : List X) → length (filter p (map f xs)) ≡ length (filter (λ x. p (f x)) xs)
length-filter-map p f [] = refl
length-filter-map p f (x ∷ xs) =
    let rest = length-filter-map p f xs in
    let P : Bool → Type 0 = λ b. length (if b then f x ∷ filter p (map f xs) else filter p (map f xs)) ≡ length (if b then x ∷ filter (λ y. p (f y)) xs else filter (λ y. p (f y)) xs) in
    elim (p (f x)) as P [ true ↦ ap suc rest | false ↦ rest ]

-- a count of what a map makes
pub count_by_map : {X Y : Type 0} (p : Y → Bool) (f : X → Y) (xs : List X) → count_by p (map f xs) ≡ count_by (λ x. p (f x)) xs
count_by_map p f xs = sym (length-filter p (map f xs)) ∙ length-filter-map p f xs ∙ length-filter (λ x. p (f x)) xs

each_tried : (ops : List Op) → list_all is_well_formed_op ops ≡ true → length ops ≤ total tries_of ops
each_tried [] formed = omega arith
each_tried (op ∷ ops) formed =
    let parts = and_parts (is_well_formed_op op) (list_all is_well_formed_op ops) formed in
    omega (arith, (op_tries op parts.0).from, each_tried ops parts.1)

length-ops_from : (master index : ℕ) (ops : List Op) → length (ops_from master index ops) ≡ length ops
length-ops_from master index [] = refl
length-ops_from master index (op ∷ ops) = ap suc (length-ops_from master (index + 1) ops)

length-ops_by : (master : ℕ) (masters : List Master) → list_all is_well_formed_master masters ≡ true → length (ops_by master masters) ≤ operations_in masters
length-ops_by master [] formed = omega arith
length-ops_by master (first ∷ masters) formed =
    let parts = and_parts (is_well_formed_master first) (list_all is_well_formed_master masters) formed in
    let here = each_tried first.ops (Master-parts first parts.0).ops in
    omega (
      arith,
      length-append (ops_from master 0 first.ops) (ops_by (master + 1) masters),
      length-ops_from master 0 first.ops,
      here,
      length-ops_by (master + 1) masters parts.1,
    )

one_line : (o : OpId) (said : Option Said) → length (lines_of o said) ≤ 1
one_line o None = omega arith
one_line o (Some said) = omega arith

length-said_among : (board : Board) (table : Table) (ops : List OpId) → length (said_among board table ops) ≤ length ops
length-said_among board table [] = omega arith
length-said_among board table (o ∷ ops) =
    omega (
      arith,
      length-append (lines_of o (said_of board table o)) (said_among board table ops),
      one_line o (said_of board table o),
      length-said_among board table ops,
    )

-- a board has at most 65,536 operations
pub said_few : (board : Board) (table : Table) (said : List OpSaid) → IsValid board → map line said ≡ all_said board table → length said < 2 ^ 32
said_few board table said valid is =
    let formed = WellFormed-parts board valid.well_formed in
    omega (
      arith,
      length-map said line,
      ap length is,
      length-said_among board table (ops_by 0 board.masters),
      length-ops_by 0 board.masters formed.masters,
      formed.operations,
    )
