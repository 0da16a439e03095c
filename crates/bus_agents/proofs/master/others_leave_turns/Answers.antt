use Rattle.std.proofs.Common.{◌∙◌, sym}
use Rattle.history_model.specs.Program.{turn_of, ended}
use Rattle.bus_agents.proofs.TurnLemmas.{turn_stays}
use Rattle.bus_agents.proofs.master.others_leave_turns.Goals as goal

pub returns : goal.returns
returns c = λ board p m e other stands. record { turn = stands.turn ∙ sym (turn_stays board m.master (turn_of board p m.master) (ended e) other) }
