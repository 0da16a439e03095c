-- The joined board of a valid board is valid, and its bound is not higher.
use Rattle.std.proofs.Common.{◌≡◌, ℕ, ◌+◌, ◌*◌, ◌≤◌, Bool, true, false, cond, not, ◌||◌, ◌==◌, nat_le, nat_lt, List, [], ◌∷◌, map, length, refl, ap, ◌∙◌, arith}
use Rattle.std.specs.List.{fold, count_by, list_all, list_any, AllByRecursion}
use Rattle.std.proofs.Math.Nat.{mul-le-mul_right}
use Rattle.std.proofs.lemmas.Bool.{and_from, or_parts, or_from}
use Rattle.std.proofs.lemmas.Bool.Decides.{nat_tests}
use Rattle.list_facts.specs.Lists.{total, greatest}
use Rattle.list_facts.proofs.EachLemmas.{Each-weaker}
use Rattle.list_facts.proofs.TestLemmas.{Each-list_all}
use Rattle.list_facts.proofs.AnyLemmas.{total_same}
use Rattle.board_model.specs.Limits.{most_agents, most_ops}
use Rattle.board_model.specs.declared.agents.Target.{Target as TargetAgent}
use Rattle.board_model.specs.declared.agents.Master.{Master}
use Rattle.board_model.specs.declared.bridge.Bridge.{Bridge}
use Rattle.board_model.specs.declared.op.Op.{Op}
use Rattle.board_model.specs.declared.board.Board.{Board}
use Rattle.board_model.specs.declared.board.Planned.{Planned}
use Rattle.board_model.specs.Requests.{request_on, tries_of, is_posted}
use Rattle.board_model.specs.Ways.{Route, way, pieces_by, cost_of, bound_of}
use Rattle.board_model.specs.WellFormed.{is_well_formed_bridge, is_well_formed_target, is_well_formed_master, is_master_named, are_masters_named_apart, are_targets_named_apart, agents_on, AreFew, operations_in, is_well_formed, IsWellFormed}
use Rattle.board_model.specs.Valid.{has_bridge_to, is_bus, lacks_a_bus, is_header_write, writes_a_header, IsValid}
use Rattle.board_model.proofs.Laws.{Master-parts, Master-from, WellFormed-parts, WellFormed-from}
use Rattle.write_combining.specs.Combined.{combined_ops, combined_master, combined}
use Rattle.write_combining.proofs.RouteLemmas.{route_combined}
use Rattle.write_combining.proofs.ProgramLemmas.{long, Smaller, Smaller-ops}

-- Tests and sums of a list of masters, each with a program joined.

any_map : {X : Type 0} (test other : X → Bool) (f : X → X) → ((x : X) → test (f x) ≡ other x) → (xs : List X) → list_any test (map f xs) ≡ list_any other xs
any_map test other f same [] = refl
any_map test other f same (x ∷ xs) = let here = same x in let later = any_map test other f same xs in cc

all_map : {X : Type 0} (test other : X → Bool) (f : X → X) → ((x : X) → test (f x) ≡ other x) → (xs : List X) → list_all test (map f xs) ≡ list_all other xs
all_map test other f same [] = refl
all_map test other f same (x ∷ xs) = let here = same x in let later = all_map test other f same xs in cc

all_same : {X : Type 0} (test other : X → Bool) → ((x : X) → test x ≡ other x) → (xs : List X) → list_all test xs ≡ list_all other xs
all_same test other same [] = refl
all_same test other same (x ∷ xs) = let here = same x in let later = all_same test other same xs in cc

fold_map : {X Y : Type 0} (g : Y → X → Y) (f : X → X) → ((y : Y) (x : X) → g y (f x) ≡ g y x) → (xs : List X) (y : Y) → fold g y (map f xs) ≡ fold g y xs
fold_map g f same [] y = refl
fold_map g f same (x ∷ xs) y = fold_map g f same xs (g y (f x)) ∙ ap (λ z. fold g z xs) (same y x)

-- Names and buses of masters stay.

module _ (board : Board) where
  masters_apart : (masters : List Master) → are_masters_named_apart (map (combined_master board) masters) ≡ are_masters_named_apart masters
  masters_apart [] = refl
  masters_apart (master ∷ masters) =
      let here : list_any (is_master_named master.name) (map (combined_master board) masters) ≡ list_any (is_master_named master.name) masters =
      any_map (is_master_named master.name) (is_master_named master.name) (combined_master board) (λ m. refl) masters in
      let later = masters_apart masters in
      cc

  targets_apart : (masters : List Master) (targets : List TargetAgent) → are_targets_named_apart (map (combined_master board) masters) targets ≡ are_targets_named_apart masters targets
  targets_apart masters [] = refl
  targets_apart masters (target ∷ targets) =
      let here : list_any (is_master_named target.name) (map (combined_master board) masters) ≡ list_any (is_master_named target.name) masters =
      any_map (is_master_named target.name) (is_master_named target.name) (combined_master board) (λ m. refl) masters in
      let later = targets_apart masters targets in
      cc

  agents_same : (bus : ℕ) → agents_on (combined board) bus ≡ agents_on board bus
  agents_same bus =
      ap (λ n. count_by (λ (target : TargetAgent). target.bus == bus) board.targets + n)
      (fold_map (λ (a : ℕ) (m : Master). a + cond (m.bus == bus) 1 0) (combined_master board) (λ a m. refl) board.masters 0)

  AreFew-combined : AreFew board → AreFew (combined board)
  AreFew-combined few =
      record {
        bridges = few.bridges;
        targets =
            all_same (λ (target : TargetAgent). nat_le (agents_on (combined board) target.bus) most_agents) (λ (target : TargetAgent). nat_le (agents_on board target.bus) most_agents) (λ target. ap (λ n. nat_le n 8) (agents_same target.bus)) board.targets
            ∙ few.targets;
        masters =
            all_map (λ (master : Master). nat_le (agents_on (combined board) master.bus) most_agents) (λ (master : Master). nat_le (agents_on board master.bus) most_agents) (combined_master board) (λ master. ap (λ n. nat_le n 8) (agents_same master.bus)) board.masters
            ∙ few.masters;
      }

  buses_same : lacks_a_bus (combined board) ≡ lacks_a_bus board
  buses_same =
      let masters : list_any (λ (master : Master). not (is_bus board master.bus)) (map (combined_master board) board.masters) ≡ list_any (λ (master : Master). not (is_bus board master.bus)) board.masters =
      any_map (λ (master : Master). not (is_bus board master.bus)) (λ (master : Master). not (is_bus board master.bus)) (combined_master board) (λ m. refl) board.masters in
      ap (λ x. list_any (λ (bridge : Bridge). not (is_bus board bridge.parent)) board.bridges
      || list_any (λ (target : TargetAgent). not (is_bus board target.bus)) board.targets
      || x
      || list_any (λ (planned : Planned). not (has_bridge_to board planned.bus)) board.discards
      || list_any (λ (planned : Planned). not (has_bridge_to board planned.bus)) board.drops) masters

-- Costs do not depend on the masters.

cost_by : Board → ℕ → Op → Route → ℕ
cost_by board on op r =
    tries_of op * cond (is_posted (request_on op on))
    (3 * length r.lanes + pieces_by board (request_on op r.bus) (length (request_on op on).phases) r.owner)
    (4 * length r.lanes + 1)

cost_combined : (board : Board) (on : ℕ) (op : Op) → cost_of (combined board) on op ≡ cost_of board on op
unfolding cost_by
cost_combined board on op = ap (cost_by board on op) (route_combined board op on)

long_combined : (board : Board) (on : ℕ) (op : Op) → long (combined board) on op ≡ long board on op
long_combined board on op = ap (λ (r : Route). length r.lanes) (route_combined board op on)

greatest_same : {X : Type 0} (f g : X → ℕ) → ((x : X) → f x ≡ g x) → (xs : List X) → greatest f xs ≡ greatest g xs
greatest_same f g same [] = refl
greatest_same f g same (x ∷ xs) = omega (arith, same x, greatest_same f g same xs)

-- where each element of a list weighs no more after a change, they do so together
total_fewer : {X : Type 0} (f g : X → ℕ) (h : X → X) (xs : List X) → AllByRecursion (λ x. f (h x) ≤ g x) xs → total f (map h xs) ≤ total g xs
total_fewer f g h [] each = omega arith
total_fewer f g h (x ∷ xs) each = omega (arith, each.0, total_fewer f g h xs each.1)

greatest_fewer : {X : Type 0} (f g : X → ℕ) (h : X → X) (xs : List X) → AllByRecursion (λ x. f (h x) ≤ g x) xs → greatest f (map h xs) ≤ greatest g xs
greatest_fewer f g h [] each = omega arith
greatest_fewer f g h (x ∷ xs) each = omega (arith, each.0, greatest_fewer f g h xs each.1)

all_yes : {X : Type 0} (test : X → Bool) (h : X → X) (xs : List X) → AllByRecursion (λ x. test (h x) ≡ true) xs → list_all test (map h xs) ≡ true
all_yes test h [] each = refl
all_yes test h (x ∷ xs) each = and_from _ _ each.0 (all_yes test h xs each.1)

any_no : {X : Type 0} (test other : X → Bool) (h : X → X) (xs : List X) → AllByRecursion (λ x. other x ≡ false → test (h x) ≡ false) xs → list_any other xs ≡ false → list_any test (map h xs) ≡ false
any_no test other h [] each none = refl
any_no test other h (x ∷ xs) each none =
    let parts = or_parts (other x) (list_any other xs) none in or_from _ _ (each.0 parts.0) (any_no test other h xs each.1 parts.1)

-- The masters of a well-formed board, each with a program joined.

-- a joined program in its master
pub record SmallerMaster (board : Board) (master : Master) : Type 0 where
  pub few : length master.ops ≤ most_ops
  pub smaller : Smaller board master.bus master.ops (combined_ops board master.ops)

Each-smaller : (board : Board) → list_all is_well_formed_bridge board.bridges ≡ true → list_all is_well_formed_target board.targets ≡ true → list_all is_well_formed_master board.masters ≡ true
    → AllByRecursion (SmallerMaster board) board.masters
Each-smaller board bridges targets masters =
    Each-weaker (λ (master : Master). is_well_formed_master master ≡ true) (SmallerMaster board)
    (λ master formed.
    let was = Master-parts master formed in
    record { few = was.few; smaller = Smaller-ops board bridges targets master.bus master.ops was.ops })
    board.masters (Each-list_all is_well_formed_master board.masters masters)

master_formed : (board : Board) (master : Master) → SmallerMaster board master → is_well_formed_master (combined_master board master) ≡ true
master_formed board master one =
    Master-from (combined_master board master) (record { few = omega (arith, one.few, one.smaller.shorter); ops = one.smaller.formed })

-- what a program costs on the joined board
abbrev costs_on : Board → Master → ℕ
costs_on board master = total (cost_of board master.bus) master.ops

abbrev longest_on : Board → Master → ℕ
longest_on board master = greatest (λ op. length (way board op master.bus)) master.ops

master_cost : (board : Board) (master : Master) → SmallerMaster board master → costs_on (combined board) (combined_master board master) ≤ costs_on board master
master_cost board master one =
    let same : total (cost_of (combined board) master.bus) (combined_ops board master.ops) ≡ total (cost_of board master.bus) (combined_ops board master.ops) =
    total_same (cost_of (combined board) master.bus) (cost_of board master.bus) (cost_combined board master.bus) (combined_ops board master.ops) in
    omega (arith, same, one.smaller.cost)

master_longest : (board : Board) (master : Master) → SmallerMaster board master → longest_on (combined board) (combined_master board master) ≤ longest_on board master
master_longest board master one =
    let same : greatest (long (combined board) master.bus) (combined_ops board master.ops) ≡ greatest (long board master.bus) (combined_ops board master.ops) =
    greatest_same (long (combined board) master.bus) (long board master.bus) (long_combined board master.bus) (combined_ops board master.ops) in
    let below : greatest (long board master.bus) (combined_ops board master.ops) ≤ greatest (long board master.bus) master.ops = one.smaller.longest in
    omega (arith, same, below)

-- the parts of the bound
bounds_add : (costs costs' stalls longest longest' discards drops : ℕ) → costs' ≤ costs → longest' ≤ longest → costs' + stalls + 4 * longest' * discards + 3 * drops ≤ costs + stalls + 4 * longest * discards + 3 * drops
bounds_add costs costs' stalls longest longest' discards drops cost long =
    let four : 4 * longest' ≤ 4 * longest = omega (arith, long) in
    let product : 4 * longest' * discards ≤ 4 * longest * discards = mul-le-mul_right discards four in
    omega (arith, cost, product)

module _ (board : Board) (each : AllByRecursion (SmallerMaster board) board.masters) where
  masters_formed : list_all is_well_formed_master (map (combined_master board) board.masters) ≡ true
  masters_formed =
      all_yes is_well_formed_master (combined_master board) board.masters
      (Each-weaker (SmallerMaster board) (λ (m : Master). is_well_formed_master (combined_master board m) ≡ true) (master_formed board) board.masters each)

  fewer_tries : operations_in (map (combined_master board) board.masters) ≤ operations_in board.masters
  fewer_tries =
      total_fewer (λ (m : Master). total tries_of m.ops) (λ (m : Master). total tries_of m.ops) (combined_master board) board.masters
      (Each-weaker (SmallerMaster board) (λ (m : Master). total tries_of (combined_ops board m.ops) ≤ total tries_of m.ops) (λ m one. one.smaller.tries) board.masters each)

  pub bound_combined : bound_of (combined board) ≤ bound_of board
  bound_combined =
      let costs : total (costs_on (combined board)) (map (combined_master board) board.masters) ≤ total (costs_on board) board.masters =
      total_fewer (costs_on (combined board)) (costs_on board) (combined_master board) board.masters
      (Each-weaker (SmallerMaster board) (λ (m : Master). costs_on (combined board) (combined_master board m) ≤ costs_on board m) (master_cost board) board.masters each) in
      let longest : greatest (longest_on (combined board)) (map (combined_master board) board.masters) ≤ greatest (longest_on board) board.masters =
      greatest_fewer (longest_on (combined board)) (longest_on board) (combined_master board) board.masters
      (Each-weaker (SmallerMaster board) (λ (m : Master). longest_on (combined board) (combined_master board m) ≤ longest_on board m) (master_longest board) board.masters each) in
      bounds_add (total (costs_on board) board.masters) (total (costs_on (combined board)) (map (combined_master board) board.masters))
      (total (λ (target : TargetAgent). target.stalls) board.targets)
      (greatest (longest_on board) board.masters) (greatest (longest_on (combined board)) (map (combined_master board) board.masters))
      (length board.discards) (length board.drops) costs longest

  headers_none : writes_a_header board ≡ false → writes_a_header (combined board) ≡ false
  headers_none none =
      any_no (λ (m : Master). list_any (is_header_write board) m.ops) (λ (m : Master). list_any (is_header_write board) m.ops) (combined_master board) board.masters
      (Each-weaker (SmallerMaster board) (λ (m : Master). list_any (is_header_write board) m.ops ≡ false → list_any (is_header_write board) (combined_ops board m.ops) ≡ false) (λ m one. one.smaller.headers) board.masters each) none

formed_combined : (board : Board) → is_well_formed board ≡ true → AllByRecursion (SmallerMaster board) board.masters → is_well_formed (combined board) ≡ true
formed_combined board formed each =
    let was : IsWellFormed board = WellFormed-parts board formed in
    let tries = was.operations in
    let fewer = fewer_tries board each in
    WellFormed-from (combined board)
    (record {
      bridges_fit = was.bridges_fit;
      bridges = was.bridges;
      numbered_apart = was.numbered_apart;
      targets = was.targets;
      masters = masters_formed board each;
      few = AreFew-combined board was.few;
      targets_named_apart = targets_apart board board.masters board.targets ∙ was.targets_named_apart;
      masters_named_apart = masters_apart board board.masters ∙ was.masters_named_apart;
      operations = omega (arith, fewer, tries);
      discards_fit = was.discards_fit;
      discards = was.discards;
      drops_fit = was.drops_fit;
      drops = was.drops;
    })

pub record ValidCombined (board : Board) : Type 0 where
  pub valid : IsValid (combined board)
  pub bound : bound_of (combined board) ≤ bound_of board

not_long : (n m most : ℕ) → n ≤ m → nat_lt most m ≡ false → nat_lt most n ≡ false
not_long n m most below is = grind (arith, nat_tests)

pub ValidCombined-valid : (board : Board) → IsValid board → ValidCombined board
ValidCombined-valid board valid =
    let was : IsWellFormed board = WellFormed-parts board valid.well_formed in
    let each = Each-smaller board was.bridges was.targets was.masters in
    let bound = bound_combined board each in
    let valid' : IsValid (combined board) =
    record {
      well_formed = formed_combined board valid.well_formed each;
      buses = buses_same board ∙ valid.buses;
      tree = valid.tree;
      windows = valid.windows;
      reach = valid.reach;
      ranges_beside_windows = valid.ranges_beside_windows;
      ranges = valid.ranges;
      devices = valid.devices;
      headers = headers_none board each valid.headers;
      bound = not_long (bound_of (combined board)) (bound_of board) 500000 bound valid.bound;
    } in
    record { valid = valid'; bound = bound }
