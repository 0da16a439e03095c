-- What is kept before the first event.
use Rattle.std.specs.Prelude.{◌≡◌, ℕ, List, [], length, Option, map}
use Rattle.pci_command.specs.declared.op_id.OpId.{OpId}
use Rattle.board_model.specs.declared.agents.Master.{Master as MasterAgent}
use Rattle.board_model.specs.declared.agents.Target.{Target as TargetAgent}
use Rattle.board_model.specs.declared.bridge.Bridge.{Bridge}
use Rattle.board_model.specs.declared.board.Board.{Board}
use Rattle.history_model.specs.Lanes.{Both, empty_lane}
use Rattle.history_model.specs.Program.{turn_of}
use Rattle.machine_steps.specs.Counts.{none_of_any}
use Rattle.judge_state.specs.State.{turn_in}
use Rattle.judge_state.specs.Words.{WordState, WordsKnown, KnowsReads}

-- the turn of each master is the first operation of its program, where it has one
pub record TurnsAtFirst (board : Board) (turns : List (Option OpId)) : Type 0 where
  pub each : (master : ℕ) → turn_in turns master ≡ turn_of board [] master
  pub masters : length turns ≡ length board.masters

-- nothing is on the lanes of a bridge
abbrev pub nothing_on : Bridge → Both
nothing_on bridge = record { here = empty_lane; back = empty_lane }

-- nor on those of any
abbrev pub lanes_at_first : Board → List Both
lanes_at_first board = map nothing_on board.bridges

-- each target has all of its stall tokens
abbrev pub tokens_at_first : Board → List ℕ
tokens_at_first board = map (λ (target : TargetAgent). target.stalls) board.targets

-- no data phase of any program's operations went through
abbrev pub gone_at_first : Board → List (List ℕ)
gone_at_first board = map (λ (master : MasterAgent). none_of_any master.ops) board.masters

-- each word that a program reads is kept, as it opens
pub record WordsAtFirst (board : Board) (k : WordState) : Type 0 where
  pub known : WordsKnown board k
  pub reads : KnowsReads board k.places
