-- Names of operations, the operation that a request is of, and what claims the whole of it.
use Rattle.std.proofs.Common.{◌≡◌, ℕ, true, Option, Some, None, refl, sym, arith, ◌+◌, ◌*◌, ap, ◌∙◌}
use Rattle.std.specs.Option.{option_map}
use Rattle.std.proofs.lemmas.Bool.Decides.{nat_tests}
use Rattle.pci_command.specs.declared.request.Request.{Request}
use Rattle.pci_command.specs.declared.op_id.OpId.{OpId}
use Rattle.pci_command.specs.Same.{same_op}
use Rattle.board_model.specs.declared.op.Op.{Op}
use Rattle.board_model.specs.declared.board.Board.{Board}
use Rattle.board_model.specs.Requests.{op_of, request_on, request_of}
use Rattle.pci_command.specs.Command.{space_of}
use Rattle.board_model.specs.declared.bridge.Place.{Place}
use Rattle.board_model.specs.Claims.{claim_in_space, claim}
use Rattle.history_model.specs.Words.{without}

-- names of operations that test the same are one name
pub same_op_true : (a b : OpId) → same_op a b ≡ true → a ≡ b
same_op_true a b same =
    let rebuilt : ℕ → ℕ → ℕ → OpId = λ master index attempt. record { master = master; index = index; attempt = attempt } in
    let masters : a.master ≡ b.master = grind (arith, nat_tests) in
    let indices : a.index ≡ b.index = grind (arith, nat_tests) in
    let attempts : a.attempt ≡ b.attempt = grind (arith, nat_tests) in
    let joined : rebuilt a.master a.index a.attempt ≡ rebuilt b.master b.index b.attempt = cc in
    joined

pub same_op_self : (a : OpId) → same_op a a ≡ true
same_op_self a = grind (arith, nat_tests)

-- a request is that of the operation
pub record IsOf (board : Board) (o : OpId) (on : ℕ) (request : Request) : Type 0 where
  pub op : Op
  pub is_op : op_of board o ≡ Some op
  pub is_request : request ≡ request_on op on

pub request_is_of : (board : Board) (o : OpId) (on : ℕ) (request : Request) → request_of board o on ≡ Some request → IsOf board o on request
request_is_of board o on request some =
    let P : Option Op → Type 0 = λ found. op_of board o ≡ found → option_map (λ op. request_on op on) found ≡ Some request → IsOf board o on request in
    (elim (op_of board o) as P [
      | None ↦ λ _ e. cc
      | Some op ↦ λ is e. record { op = op; is_op = is; is_request = let same : request_on op on ≡ request = cc in sym same }
    ]) refl some

-- a request of which nothing went through is claimed as a whole
pub claim_whole : (board : Board) (on : ℕ) (request : Request) (k : ℕ) (place : Place) → k ≡ 0 → claim board on (without k request) ≡ place → claim board on request ≡ place
claim_whole board on request k place none claims =
    let whole : request.address ≡ request.address + 4 * k = omega arith in
    ap (claim_in_space board on (space_of request.command)) whole ∙ claims
