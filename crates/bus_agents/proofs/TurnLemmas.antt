-- The turn of a master after one more event.
use Rattle.std.proofs.Common.{◌≡◌, ℕ, Bool, true, false, ◌==◌, cond, List, [], ◌∷◌, Option, Some, None, is_some, refl, sym, ap, subst, ◌∙◌, arith, if◌then◌else◌}
use Rattle.std.proofs.lemmas.Bool.Decides.{nat_tests}
use Rattle.pci_command.specs.declared.op_id.OpId.{OpId}
use Rattle.pci_command.specs.declared.op_id.Outcome.{Outcome}
use Rattle.board_model.specs.declared.bridge.Place.{Place}
use Rattle.board_model.specs.declared.op.Op.{Op}
use Rattle.board_model.specs.declared.op.Op.TheVariants.{Read as ReadOp, Write, CfgRead, CfgWrite, Poll}
use Rattle.board_model.specs.declared.board.Board.{Board}
use Rattle.board_model.specs.Requests.{op_of}
use Rattle.history_model.specs.declared.event.By.TheVariants.{Master}
use Rattle.history_model.specs.declared.event.Step.{Step}
use Rattle.history_model.specs.declared.event.Event.{Event}
use Rattle.history_model.specs.declared.event.Event.TheVariants.{Act}
use Rattle.history_model.specs.Program.{Ending, ending_of, ended, master_outcome, present, next_op, next_try, meets, follows_in, follows, turn_after, turn_of}
use Rattle.bus_agents.specs.Turns.{MasterView, MasterStands, IsOfOther, turn_behind}

-- a master's turn is one of its own operations
abbrev IsMasters : ℕ → Option OpId → Type 0
IsMasters master None = Unit {0}
IsMasters master (Some o) = o.master ≡ master

present_masters : (board : Board) (master : ℕ) (o : OpId) → o.master ≡ master → IsMasters master (present board o)
present_masters board master o is =
    let P : Bool → Type 0 = λ b. IsMasters master (cond b (Some o) None) in
    elim (is_some (op_of board o)) as P [ true ↦ is | false ↦ tt ]

follows_masters : (board : Board) (master : ℕ) (o : OpId) (outcome : Outcome) (op : Option Op) → o.master ≡ master → IsMasters master (follows_in board o outcome op)
follows_masters board master o outcome None is = tt
follows_masters board master o outcome (Some (ReadOp command address)) is = present_masters board master _ is
follows_masters board master o outcome (Some (Write command address phases)) is = present_masters board master _ is
follows_masters board master o outcome (Some (CfgRead bus device register)) is = present_masters board master _ is
follows_masters board master o outcome (Some (CfgWrite bus device register phase)) is = present_masters board master _ is
follows_masters board master o outcome (Some (Poll space address want tries)) is =
    let P : Bool → Type 0 = λ b. IsMasters master (cond b (next_op board o) (next_try board o)) in
    elim (meets want outcome) as P [ true ↦ present_masters board master _ is | false ↦ present_masters board master _ is ]

after_masters : (board : Board) (master : ℕ) (turn : Option OpId) (ending : Option Ending) → IsMasters master turn → IsMasters master (turn_after board master turn ending)
after_masters board master turn None old = old
after_masters board master turn (Some ending) old =
    let P : Bool → Type 0 = λ b. (ending.op.master == master) ≡ b → IsMasters master (cond b (follows board ending) turn) in
    (elim (ending.op.master == master) as P [
      | true ↦ λ is. let own : ending.op.master ≡ master = grind (arith, nat_tests, is) in follows_masters board master ending.op ending.outcome (op_of board ending.op) own
      | false ↦ λ _. old
    ]) refl

turn_masters : (board : Board) (p : List Event) (master : ℕ) → IsMasters master (turn_of board p master)
turn_masters board [] master = present_masters board master _ refl
turn_masters board (e ∷ p) master = after_masters board master (turn_of board p master) (ended e) (turn_masters board p master)

-- the operation that was the turn ended
pub ends_turn : (board : Board) (p : List Event) (m : MasterView) (outcome : Outcome) (on : ℕ) (o : OpId) (step : Step) (place : Place) → MasterStands board p m → m.turn ≡ Some o → master_outcome step ≡ Some outcome
    → turn_behind board outcome m.turn ≡ turn_of board (Act on Master o step place ∷ p) m.master
ends_turn board p m outcome on o step place stands turn out =
    let ending : Ending = record { op = o; outcome = outcome } in
    let was : Option OpId = turn_of board p m.master in
    let own : o.master ≡ m.master = subst (IsMasters m.master) (sym stands.turn ∙ turn) (turn_masters board p m.master) in
    let same : (o.master == m.master) ≡ true = grind (arith, nat_tests, own) in
    let by_ending : turn_after board m.master was (Some ending) ≡ follows board ending = ap (λ (b : Bool). if b then follows board ending else was) same in
    let by_step : turn_after board m.master was (ending_of o (master_outcome step)) ≡ turn_after board m.master was (Some ending) = ap (λ (x : Option Outcome). turn_after board m.master was (ending_of o x)) out in
    ap (turn_behind board outcome) turn ∙ sym (by_step ∙ by_ending)

-- what ended is another master's
pub turn_stays : (board : Board) (master : ℕ) (turn : Option OpId) (ending : Option Ending) → IsOfOther master ending → turn_after board master turn ending ≡ turn
turn_stays board master turn None other = refl
turn_stays board master turn (Some ending) other =
    let differs : (ending.op.master == master) ≡ false = grind (arith, nat_tests, other) in
    ap (λ (b : Bool). if b then follows board ending else turn) differs
