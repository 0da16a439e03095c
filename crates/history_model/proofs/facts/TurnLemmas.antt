-- An operation that is a master's turn is there.
use Rattle.std.proofs.Common.{◌≡◌, ℕ, ◌==◌, Bool, true, false, cond, List, [], ◌∷◌, Option, Some, None, is_some, refl, subst}
use Rattle.pci_command.specs.declared.op_id.OpId.{OpId}
use Rattle.pci_command.specs.declared.op_id.Outcome.{Outcome}
use Rattle.board_model.specs.declared.op.Op.{Op}
use Rattle.board_model.specs.declared.op.Op.TheVariants.{Read as ReadOp, Write, CfgRead, CfgWrite, Poll}
use Rattle.board_model.specs.declared.board.Board.{Board}
use Rattle.board_model.specs.Requests.{op_of}
use Rattle.history_model.specs.declared.event.Event.{Event}
use Rattle.history_model.specs.Program.{Ending, ended, present, next_op, next_try, meets, follows_in, follows, turn_after, turn_of}
use Rattle.history_model.specs.Answers.{is_turn}
use Rattle.history_model.proofs.facts.RequestLemmas.{same_op_true}

-- an operation that is named is there
abbrev IsNamed : Board → Option OpId → Type 0
IsNamed board None = Unit {0}
IsNamed board (Some o) = is_some (op_of board o) ≡ true

-- what is presented only where it is there
present_named : (board : Board) (o : OpId) → IsNamed board (present board o)
present_named board o =
    let P : Bool → Type 0 = λ b. is_some (op_of board o) ≡ b → IsNamed board (cond b (Some o) None) in
    (elim (is_some (op_of board o)) as P [ true ↦ λ there. there | false ↦ λ _. tt ]) refl

-- what follows an operation that ended
follows_named : (board : Board) (o : OpId) (outcome : Outcome) (op : Option Op) → IsNamed board (follows_in board o outcome op)
follows_named board o outcome None = tt
follows_named board o outcome (Some (ReadOp command address)) = present_named board _
follows_named board o outcome (Some (Write command address phases)) = present_named board _
follows_named board o outcome (Some (CfgRead bus device register)) = present_named board _
follows_named board o outcome (Some (CfgWrite bus device register phase)) = present_named board _
follows_named board o outcome (Some (Poll space address want tries)) =
    let P : Bool → Type 0 = λ b. IsNamed board (cond b (next_op board o) (next_try board o)) in
    elim (meets want outcome) as P [ true ↦ present_named board _ | false ↦ present_named board _ ]

-- the turn after one more event
after_named : (board : Board) (master : ℕ) (turn : Option OpId) (ending : Option Ending) → IsNamed board turn → IsNamed board (turn_after board master turn ending)
after_named board master turn None named = named
after_named board master turn (Some ending) named =
    let P : Bool → Type 0 = λ b. IsNamed board (cond b (follows board ending) turn) in
    elim (ending.op.master == master) as P [ true ↦ follows_named board ending.op ending.outcome (op_of board ending.op) | false ↦ named ]

-- the turn after a history
turn_named : (board : Board) (h : List Event) (master : ℕ) → IsNamed board (turn_of board h master)
turn_named board [] master = present_named board _
turn_named board (e ∷ h) master = after_named board master (turn_of board h master) (ended e) (turn_named board h master)

-- what tests as a turn that is named is there
turn_there : (board : Board) (o : OpId) (turn : Option OpId) → IsNamed board turn → is_turn o turn ≡ true → is_some (op_of board o) ≡ true
turn_there board o None named is = cc
turn_there board o (Some other) named is = subst (λ p. is_some (op_of board p) ≡ true) (same_op_true other o is) named

-- an operation that is its master's turn is there
pub turn_is_there : (board : Board) (h : List Event) (o : OpId) → is_turn o (turn_of board h o.master) ≡ true → is_some (op_of board o) ≡ true
turn_is_there board h o is = turn_there board o (turn_of board h o.master) (turn_named board h o.master) is
