-- Who presents an operation, when it is a master.
use Rattle.std.proofs.Common.{◌≡◌, ℕ, true, List, Option, Some, None, sym, ap, slice_get, ◌∙◌, eqb-true}
use Rattle.pci_command.specs.declared.op_id.OpId.{OpId}
use Rattle.board_model.specs.declared.board.Board.{Board}
use Rattle.history_model.specs.declared.event.By.TheVariants.{Master}
use Rattle.history_model.specs.declared.event.Event.{Event}
use Rattle.history_model.specs.Program.{turn_of}
use Rattle.history_model.specs.Answers.{is_on, is_turn, wants}
use Rattle.history_model.proofs.facts.RequestLemmas.{same_op_true}
use Rattle.board_model.specs.declared.agents.Master.{Master as MasterAgent}
use Rattle.std.proofs.lemmas.Bool.{and_parts}

turn_is : (o : OpId) (turn : Option OpId) → is_turn o turn ≡ true → turn ≡ Some o
turn_is o None is = cc
turn_is o (Some p) is = ap Some (same_op_true p o is)

-- the turn of a master that presents
pub wants-turn : (board : Board) (h : List Event) (on : ℕ) (o : OpId) → wants board h on Master o ≡ true → turn_of board h o.master ≡ Some o
wants-turn board h on o wanted = turn_is o (turn_of board h o.master) (and_parts (is_on on (slice_get board.masters o.master)) (is_turn o (turn_of board h o.master)) wanted).1

-- who is on the bus
pub master_bus : (on : ℕ) (found : Option MasterAgent) (master : MasterAgent) → found ≡ Some master → is_on on found ≡ true → on ≡ master.bus
master_bus on None master is there = cc
master_bus on (Some other) master is there =
    let same : other ≡ master = cc in
    sym (eqb-true other.bus on there) ∙ ap (λ (m : MasterAgent). m.bus) same
