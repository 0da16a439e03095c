-- What is counted beside a draft: the names of its targets and masters, how many of these are on each bus, and its
-- operations.
use Rattle.std.specs.Prelude.{◌≡◌, ℕ, Bool, true, ◌+◌, ◌<◌, ◌≤◌, List, Option, Some, None, ◌==◌, nat_le, if◌then◌else◌, slice_index, string_bytes}
use Rattle.std.specs.Str.{bytes_eq}
use Rattle.std.specs.HashSet.{contains_text}
use Rattle.board_model.specs.Limits.{most_agents, most_tries}
use Rattle.board_model.specs.declared.board.Board.{Board}
use Rattle.board_model.specs.WellFormed.{agents_on, operations_in}
use Rattle.text_faults.specs.declared.board_line.LineFault.{LineFault}
use Rattle.text_faults.specs.declared.board_line.LineFault.TheVariants.{NameUsed, OverLimit}
use Rattle.board_statements.specs.declared.statement.Statement.{Statement}
use Rattle.board_statements.specs.declared.statement.Statement.TheVariants.{NewBridge, NewHeader, NewTarget, Identifies, Stalls, Bursts, Claims, Aborts, Opens, NewMaster, Does, Discards, Drops}
use Rattle.board_parser.specs.declared.draft.counts.Counts.{Counts}
use Rattle.board_parser.specs.declared.draft.counts.Agent.{Agent}
use Rattle.board_parser.specs.draft.Targets.{is_name_used}

-- the counts are those of the board
pub record IsCountOf (counts : Counts) (board : Board) : Type 0 where
  pub names : (name : List ℕ) → contains_text counts.names name ≡ is_name_used board name
  pub agents : (bus : ℕ) → bus < 256 → slice_index counts.agents bus ≡ agents_on board bus
  pub few_agents : (bus : ℕ) → agents_on board bus ≤ most_agents
  pub operations : counts.operations ≡ operations_in board.masters
  pub few_operations : counts.operations ≤ most_tries

-- the fault of one more target or master, by the counts
abbrev pub fault_in : Counts → List ℕ → ℕ → Option LineFault
fault_in counts name bus =
    if contains_text counts.names name then Some NameUsed
    else if nat_le most_agents (slice_index counts.agents bus) then Some OverLimit
    else None

-- the name and the bus of the target or master that a statement adds
abbrev pub agent_in : Statement → Option (List ℕ × ℕ)
agent_in (NewBridge bridge) = None
agent_in (NewHeader device bytes posted delayed) = None
agent_in (NewTarget name bus device) = Some (name, bus)
agent_in (Identifies vendor model) = None
agent_in (Stalls tokens) = None
agent_in (Bursts phases) = None
agent_in (Claims range) = None
agent_in (Aborts range) = None
agent_in (Opens opening) = None
agent_in (NewMaster name bus) = Some (name, bus)
agent_in (Does op too_many) = None
agent_in (Discards planned) = None
agent_in (Drops planned) = None

-- a target or master, by what is counted of it
abbrev pub name_and_bus : Option Agent → Option (List ℕ × ℕ)
name_and_bus None = None
name_and_bus (Some agent) = Some (string_bytes agent.name, agent.bus)

-- the name is that agent's, or was used before
abbrev pub used_with : Option (List ℕ × ℕ) → List ℕ → Bool → Bool
used_with None name before = before
used_with (Some agent) name before = if bytes_eq agent.0 name then true else before

-- 1 where the agent is on the bus
abbrev pub more_on : Option (List ℕ × ℕ) → ℕ → ℕ
more_on None bus = 0
more_on (Some agent) bus = if agent.1 == bus then 1 else 0

-- the counts after that agent and so many operations
pub record IsGrown (old new : Counts) (agent : Option (List ℕ × ℕ)) (tries : ℕ) : Type 0 where
  pub names : (name : List ℕ) → contains_text new.names name ≡ used_with agent name (contains_text old.names name)
  pub agents : (bus : ℕ) → bus < 256 → slice_index new.agents bus ≡ slice_index old.agents bus + more_on agent bus
  pub operations : new.operations ≡ old.operations + tries
