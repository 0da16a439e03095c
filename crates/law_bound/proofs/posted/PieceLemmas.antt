-- In how many pieces what is left of a write reaches the end of its way.
use Rattle.std.proofs.Common.{◌≡◌, ℕ, zero, suc, ◌+◌, ◌-◌, ◌/◌, ◌≤◌, Bool, true, false, cond, Option, Some, None, refl, arith, slice_get}
use Rattle.std.specs.List.{AllByRecursion}
use Rattle.std.proofs.Math.Nat.{div-mul-le_self, div-zero}
use Rattle.std.proofs.lemmas.Nat.{le-div}
use Rattle.pci_command.specs.declared.request.Request.{Request}
use Rattle.board_model.specs.declared.agents.Target.{Target as TargetAgent}
use Rattle.board_model.specs.declared.bridge.Place.{Place}
use Rattle.board_model.specs.declared.bridge.Place.TheVariants.{Target, Header, Lane, Nobody}
use Rattle.board_model.specs.declared.op.Op.{Op}
use Rattle.board_model.specs.declared.board.Board.{Board}
use Rattle.board_model.specs.Requests.{request_on}
use Rattle.board_model.specs.Ways.{Route, route_of, aborts_at, pieces_in, pieces_at, pieces_by, pieces_of}
use Rattle.list_facts.proofs.EachLemmas.{Each-slice_get}

-- fewer data phases are no more pieces
pub pieces_in_le : (burst m n : ℕ) → m ≤ n → pieces_in burst m ≤ pieces_in burst n
pieces_in_le zero m n below = omega (arith, div-zero (m + (0 - 1)), div-zero (n + (0 - 1)))
pieces_in_le (suc b) m n below =
    le-div ((m + (suc b - 1)) / suc b) (n + (suc b - 1)) (suc b) (omega arith) (omega (arith, below, div-mul-le_self (m + (suc b - 1)) (suc b)))

-- some data phase is some piece
pub pieces_in_one : (burst n : ℕ) → 1 ≤ burst → 1 ≤ n → 1 ≤ pieces_in burst n
pieces_in_one burst n takes some = le-div 1 (n + (burst - 1)) burst (omega (arith, takes)) (omega (arith, takes, some))

-- without the data phases of one piece there is one piece less
pub pieces_in_falls : (burst n : ℕ) → 1 ≤ burst → burst ≤ n → pieces_in burst (n - burst) + 1 ≤ pieces_in burst n
pieces_in_falls burst n takes enough =
    let rest : ℕ = ((n - burst) + (burst - 1)) / burst in
    le-div (rest + 1) (n + (burst - 1)) burst (omega (arith, takes)) (omega (arith, takes, enough, div-mul-le_self ((n - burst) + (burst - 1)) burst))

-- each target takes something at a time
abbrev pub AllTake : Board → Type 0
AllTake board = AllByRecursion (λ (target : TargetAgent). 1 ≤ target.burst) board.targets

-- by the target that takes it
at_le : (request : Request) (m n : ℕ) (found : Option TargetAgent) → m ≤ n → pieces_at request m found ≤ pieces_at request n found
at_le request m n None below = omega arith
at_le request m n (Some target) below =
    let P : Bool → Type 0 = λ b. cond b 1 (pieces_in target.burst m) ≤ cond b 1 (pieces_in target.burst n) in
    elim (aborts_at target request) as P [ true ↦ omega arith | false ↦ pieces_in_le target.burst m n below ]

-- by whom it ends at
by_le : (board : Board) (request : Request) (m n : ℕ) (place : Place) → m ≤ n → pieces_by board request m place ≤ pieces_by board request n place
by_le board request m n (Target place) below = at_le request m n (slice_get board.targets place) below
by_le board request m n (Header bus) below = omega arith
by_le board request m n (Lane lane) below = omega arith
by_le board request m n Nobody below = omega arith

-- what is left of a write has no more pieces than more of it
pub pieces_of_le : (board : Board) (op : Op) (on m n : ℕ) → m ≤ n → pieces_of board op on m ≤ pieces_of board op on n
pieces_of_le board op on m n below =
    let route : Route = route_of board op on in
    by_le board (request_on op route.bus) m n route.owner below

-- by the target that takes it
at_one : (request : Request) (n : ℕ) (target : TargetAgent) → 1 ≤ target.burst → 1 ≤ n → 1 ≤ pieces_at request n (Some target)
at_one request n target takes some =
    let P : Bool → Type 0 = λ b. 1 ≤ cond b 1 (pieces_in target.burst n) in
    elim (aborts_at target request) as P [ true ↦ omega arith | false ↦ pieces_in_one target.burst n takes some ]

-- by whom it ends at
by_one : (board : Board) (request : Request) (n : ℕ) (place : Place) → AllTake board → 1 ≤ n → 1 ≤ pieces_by board request n place
by_one board request n (Target place) take some =
    let P : Option TargetAgent → Type 0 = λ found. slice_get board.targets place ≡ found → 1 ≤ pieces_at request n found in
    (elim (slice_get board.targets place) as P [
      | None ↦ λ _. omega arith
      | Some target ↦ λ is. at_one request n target (Each-slice_get (λ (t : TargetAgent). 1 ≤ t.burst) board.targets place target take is) some
    ]) refl
by_one board request n (Header bus) take some = omega arith
by_one board request n (Lane lane) take some = omega arith
by_one board request n Nobody take some = omega arith

-- some data phase that is left is some piece
pub pieces_of_one : (board : Board) (op : Op) (on n : ℕ) → AllTake board → 1 ≤ n → 1 ≤ pieces_of board op on n
pieces_of_one board op on n take some =
    let route : Route = route_of board op on in
    by_one board (request_on op route.bus) n route.owner take some
