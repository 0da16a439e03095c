-- A joined write costs no more than the two.
use Rattle.std.proofs.Common.{◌≡◌, ℕ, zero, suc, ◌+◌, ◌-◌, ◌*◌, ◌/◌, ◌<◌, ◌≤◌, ◌⊎◌, inl, inr, Bool, true, false, cond, List, length, Option, Some, None, refl, sym, ap, subst, arith, slice_get}
use Rattle.std.specs.List.{list_all}
use Rattle.std.proofs.Math.Nat.{div-mul-le_self, div-zero, lt-div-mul-add, add-mul}
use Rattle.std.proofs.lemmas.Nat.{le-div, div_below}
use Rattle.std.proofs.lemmas.Bool.{and_parts, eqb-true}
use Rattle.list_facts.proofs.TestLemmas.{list_all-get}
use Rattle.pci_command.specs.declared.command.Command.{Command}
use Rattle.pci_command.specs.declared.command.Command.TheVariants.{IoRead, IoWrite, MemRead, MemWrite, CfgRead as ConfigurationRead, CfgWrite as ConfigurationWrite, MemReadMultiple, MemReadLine, MemWriteInvalidate}
use Rattle.pci_command.specs.declared.phases.Phase.{Phase}
use Rattle.pci_command.specs.declared.request.Request.{Request}
use Rattle.board_model.specs.declared.agents.Target.{Target as TargetAgent}
use Rattle.board_model.specs.declared.bridge.Place.{Place}
use Rattle.board_model.specs.declared.bridge.Place.TheVariants.{Target, Header, Lane, Nobody}
use Rattle.board_model.specs.declared.op.Op.{Op}
use Rattle.board_model.specs.declared.op.Op.TheVariants.{Read, Write, CfgRead, CfgWrite, Poll}
use Rattle.board_model.specs.declared.board.Board.{Board}
use Rattle.board_model.specs.Requests.{request_on}
use Rattle.board_model.specs.Ways.{Route, route_of, way, aborts_at, pieces_in, pieces_at, pieces_by, cost_of}
use Rattle.board_model.specs.WellFormed.{is_well_formed_bridge, is_well_formed_target, is_well_formed_op}
use Rattle.write_combining.specs.Writes.{MemoryWrite, write_by, memory_write, op_of_write}
use Rattle.history_model.proofs.facts.BlockLemmas.{SameBlock, aborts_alike}
use Rattle.write_combining.proofs.JoinLemmas.{Combines, Merges, Joins}
use Rattle.write_combining.proofs.FormLemmas.{Formed, Formed-op, InBlock, InBlock-burst, long_combined, long_merged}
use Rattle.write_combining.proofs.RouteLemmas.{route_alike}

-- pieces of a target that takes so many data phases at a time
pub pieces_in_le : (burst m n : ℕ) → m ≤ n → pieces_in burst m ≤ pieces_in burst n
pieces_in_le zero m n below = omega (arith, div-zero (m + (0 - 1)), div-zero (n + (0 - 1)))
pieces_in_le (suc b) m n below =
    le-div ((m + (suc b - 1)) / suc b) (n + (suc b - 1)) (suc b) (omega arith) (omega (arith, below, div-mul-le_self (m + (suc b - 1)) (suc b)))

-- as many times the burst as there are pieces hold all data phases
pieces_hold : (b n : ℕ) → n ≤ pieces_in (suc b) n * suc b
pieces_hold b n =
    let above : n + (suc b - 1) < (n + (suc b - 1)) / suc b * suc b + suc b = lt-div-mul-add (omega arith) in
    omega (arith, above)

pub pieces_in_sum : (burst m n : ℕ) → pieces_in burst (m + n) ≤ pieces_in burst m + pieces_in burst n
pieces_in_sum zero m n = omega (arith, div-zero (m + n + (0 - 1)))
pieces_in_sum (suc b) m n =
    let x : ℕ = pieces_in (suc b) m in
    let y : ℕ = pieces_in (suc b) n in
    let first : m ≤ x * suc b = pieces_hold b m in
    let second : n ≤ y * suc b = pieces_hold b n in
    let sum : (x + y) * suc b ≡ x * suc b + y * suc b = add-mul x y (suc b) in
    let more : (x + y + 1) * suc b ≡ (x + y) * suc b + 1 * suc b = add-mul (x + y) 1 (suc b) in
    let below : pieces_in (suc b) (m + n) < x + y + 1 = div_below (m + n + (suc b - 1)) (suc b) (x + y + 1) (omega arith) (omega (arith, first, second, sum, more)) in
    omega (arith, below)

-- by the target that takes them
at_le : (request : Request) (m n : ℕ) (found : Option TargetAgent) → m ≤ n → pieces_at request m found ≤ pieces_at request n found
at_le request m n None below = omega arith
at_le request m n (Some target) below =
    let P : Bool → Type 0 = λ b. cond b 1 (pieces_in target.burst m) ≤ cond b 1 (pieces_in target.burst n) in
    elim (aborts_at target request) as P [ true ↦ omega arith | false ↦ pieces_in_le target.burst m n below ]

at_sum : (request : Request) (m n : ℕ) (found : Option TargetAgent) → pieces_at request (m + n) found ≤ pieces_at request m found + pieces_at request n found
at_sum request m n None = omega arith
at_sum request m n (Some target) =
    let P : Bool → Type 0 = λ b. cond b 1 (pieces_in target.burst (m + n)) ≤ cond b 1 (pieces_in target.burst m) + cond b 1 (pieces_in target.burst n) in
    elim (aborts_at target request) as P [ true ↦ omega arith | false ↦ pieces_in_sum target.burst m n ]

-- by whom the way ends at
by_le : (board : Board) (request : Request) (m n : ℕ) (place : Place) → m ≤ n → pieces_by board request m place ≤ pieces_by board request n place
by_le board request m n (Target place) below = at_le request m n (slice_get board.targets place) below
by_le board request m n (Header bus) below = omega arith
by_le board request m n (Lane lane) below = omega arith
by_le board request m n Nobody below = omega arith

by_sum : (board : Board) (request : Request) (m n : ℕ) (place : Place) → pieces_by board request (m + n) place ≤ pieces_by board request m place + pieces_by board request n place
by_sum board request m n (Target place) = at_sum request m n (slice_get board.targets place)
by_sum board request m n (Header bus) = omega arith
by_sum board request m n (Lane lane) = omega arith
by_sum board request m n Nobody = omega arith

-- the pieces of two writes to one block
by_alike : (board : Board) (a b : MemoryWrite) (bus n : ℕ) (place : Place) → list_all is_well_formed_target board.targets ≡ true → SameBlock a.address b.address
    → pieces_by board (request_on (op_of_write a) bus) n place ≡ pieces_by board (request_on (op_of_write b) bus) n place
by_alike board a b bus n (Target place) targets same =
    let P : Option TargetAgent → Type 0 = λ found. slice_get board.targets place ≡ found → pieces_at (request_on (op_of_write a) bus) n found ≡ pieces_at (request_on (op_of_write b) bus) n found in
    (elim (slice_get board.targets place) as P [
      | None ↦ λ _. refl
      | Some target ↦ λ is.
          let formed = list_all-get is_well_formed_target board.targets place target targets is in
          ap (λ x. cond x 1 (pieces_in target.burst n)) (aborts_alike target a.address b.address same formed)
    ]) refl
by_alike board a b bus n (Header bridge) targets same = refl
by_alike board a b bus n (Lane lane) targets same = refl
by_alike board a b bus n Nobody targets same = refl

-- the cost of a write, by the way and the owner of another one to its block
cost_at : (board : Board) (a b : MemoryWrite) (on : ℕ) → list_all is_well_formed_bridge board.bridges ≡ true → list_all is_well_formed_target board.targets ≡ true → SameBlock a.address b.address
    → cost_of board on (op_of_write a) ≡ 3 * length (route_of board (op_of_write b) on).lanes + pieces_by board (request_on (op_of_write b) (route_of board (op_of_write b) on).bus) (length a.phases) (route_of board (op_of_write b) on).owner
cost_at board a b on bridges targets same =
    let F : Route → ℕ = λ r. 3 * length r.lanes + pieces_by board (request_on (op_of_write a) r.bus) (length a.phases) r.owner in
    let r : Route = route_of board (op_of_write b) on in
    let moved : F (route_of board (op_of_write a) on) ≡ F r = ap F (route_alike board a b bridges targets same on) in
    let one : cost_of board on (op_of_write a) ≡ F (route_of board (op_of_write a) on) = omega arith in
    let pieces = by_alike board a b r.bus (length a.phases) r.owner targets same in
    omega (arith, one, moved, pieces)

-- two writes that are joined, and the joined one, are to one block
same_self : (a b : ℕ) → a ≡ b → SameBlock a b
same_self a b is = record { block = b / 64; a_from = omega (arith, is); a_to = omega (arith, is); b_from = omega arith; b_to = omega arith }

same_later : (a b n : ℕ) → InBlock a n → a ≤ b → b + 4 ≤ a + 4 * n → SameBlock b a
same_later a b n block from to =
    record { block = a / 64; a_from = omega (arith, from); a_to = omega (arith, to, block.inside); b_from = omega arith; b_to = omega arith }

-- where the later of two joined writes begins, and how long the joined one is
record Fits (earlier later write : MemoryWrite) : Type 0 where
  first : SameBlock write.address earlier.address
  second : SameBlock later.address earlier.address
  short : length write.phases ≤ length earlier.phases + length later.phases

Fits-joined : (board : Board) (earlier later write : MemoryWrite) → Combines earlier later write ⊎ Merges board earlier later write → Formed earlier → Formed later → Fits earlier later write
Fits-joined board earlier later write (inl how) e l =
    let may = and_parts _ _ how.may in
    let block : InBlock earlier.address (length earlier.phases + length later.phases) = InBlock-burst earlier.address (length earlier.phases + length later.phases) may.1 in
    let other = InBlock-burst later.address (length later.phases) l.burst in
    let follows : later.address ≡ earlier.address + 4 * length earlier.phases = eqb-true _ _ may.0 in
    let long = long_combined earlier later write how in
    record {
      first = same_self write.address earlier.address (ap (λ (w : MemoryWrite). w.address) how.is);
      second = same_later earlier.address later.address (length earlier.phases + length later.phases) block (omega (arith, follows)) (omega (arith, follows, other.some));
      short = omega (arith, long);
    }
Fits-joined board earlier later write (inr how) e l =
    let block : InBlock earlier.address (length earlier.phases) = InBlock-burst earlier.address (length earlier.phases) e.burst in
    let may = and_parts _ _ (and_parts _ _ (and_parts _ _ how.may).0).0 in
    let shares : later.address + 4 ≡ earlier.address + 4 * length earlier.phases = eqb-true _ _ may.0 in
    let long = long_merged board earlier later write how in
    record {
      first = same_self write.address earlier.address (ap (λ (w : MemoryWrite). w.address) how.is);
      second = same_later earlier.address later.address (length earlier.phases) block (omega (arith, shares, block.some)) (omega (arith, shares));
      short = omega (arith, long);
    }

-- the joined write goes the way of the earlier one, and costs no more than both
pub record Cheaper (board : Board) (on : ℕ) (p q joined : Op) : Type 0 where
  pub way_is : way board joined on ≡ way board p on
  pub cost : cost_of board on joined ≤ cost_of board on p + cost_of board on q

cheaper_writes : (board : Board) (on : ℕ) (earlier later write : MemoryWrite) → list_all is_well_formed_bridge board.bridges ≡ true → list_all is_well_formed_target board.targets ≡ true
    → Fits earlier later write → Cheaper board on (op_of_write earlier) (op_of_write later) (op_of_write write)
cheaper_writes board on earlier later write bridges targets fits =
    let r : Route = route_of board (op_of_write earlier) on in
    let request : Request = request_on (op_of_write earlier) r.bus in
    let w = cost_at board write earlier on bridges targets fits.first in
    let e = cost_at board earlier earlier on bridges targets (same_self earlier.address earlier.address refl) in
    let l = cost_at board later earlier on bridges targets fits.second in
    let less : pieces_by board request (length write.phases) r.owner ≤ pieces_by board request (length earlier.phases + length later.phases) r.owner = by_le board request (length write.phases) (length earlier.phases + length later.phases) r.owner fits.short in
    let sum = by_sum board request (length earlier.phases) (length later.phases) r.owner in
    record {
      way_is = ap (λ (x : Route). x.lanes) (route_alike board write earlier bridges targets fits.first on);
      cost = omega (arith, w, e, l, less, sum);
    }

-- an operation that is a memory write
of_command : (command : Command) (address : ℕ) (phases : List Phase) (write : MemoryWrite) → write_by command address phases ≡ Some write → Write command address phases ≡ op_of_write write
of_command MemWrite address phases write some =
    let same : record { address = address; phases = phases } ≡ write = cc in ap op_of_write same
of_command IoRead address phases write some = cc
of_command IoWrite address phases write some = cc
of_command MemRead address phases write some = cc
of_command ConfigurationRead address phases write some = cc
of_command ConfigurationWrite address phases write some = cc
of_command MemReadMultiple address phases write some = cc
of_command MemReadLine address phases write some = cc
of_command MemWriteInvalidate address phases write some = cc

pub op_is : (op : Op) (write : MemoryWrite) → memory_write op ≡ Some write → op ≡ op_of_write write
op_is (Read command address) write some = cc
op_is (Write command address phases) write some = of_command command address phases write some
op_is (CfgRead bus device register) write some = cc
op_is (CfgWrite bus device register phase) write some = cc
op_is (Poll space address want tries) write some = cc

pub Cheaper-joined : (board : Board) (on : ℕ) (p q joined : Op) → list_all is_well_formed_bridge board.bridges ≡ true → list_all is_well_formed_target board.targets ≡ true
    → Joins board p q joined → is_well_formed_op p ≡ true → is_well_formed_op q ≡ true → Cheaper board on p q joined
Cheaper-joined board on p q joined bridges targets joins p_formed q_formed =
    let e : Formed joins.earlier = Formed-op p joins.earlier joins.p_is p_formed in
    let l : Formed joins.later = Formed-op q joins.later joins.q_is q_formed in
    let fits = Fits-joined board joins.earlier joins.later joins.write joins.how e l in
    let writes = cheaper_writes board on joins.earlier joins.later joins.write bridges targets fits in
    let one = subst (λ x. Cheaper board on x (op_of_write joins.later) (op_of_write joins.write)) (sym (op_is p joins.earlier joins.p_is)) writes in
    let two = subst (λ x. Cheaper board on p x (op_of_write joins.write)) (sym (op_is q joins.later joins.q_is)) one in
    subst (λ x. Cheaper board on p q x) (sym joins.joined_is) two
