-- What the lines of a device text say, one after another, and what of it stands on a board.
use Rattle.std.specs.Prelude.{◌≡◌, ℕ, List, [], ◌∷◌, ◌++◌, Option, Some, None, Result, Ok, Err, codes, drop, flat_map, ◌&&◌, if◌then◌else◌}
use Rattle.std.specs.List.{list_all, Any}
use Rattle.board_model.specs.declared.agents.Master.{Master}
use Rattle.board_model.specs.declared.op.Op.{Op}
use Rattle.board_model.specs.declared.board.Board.{Board}
use Rattle.board_text.specs.Lines.{lines_of}
use Rattle.text_faults.specs.declared.device.DeviceFault.{DeviceFault}
use Rattle.dma_agents.specs.declared.line.DeviceLine.{DeviceLine}
use Rattle.dma_agents.specs.declared.put.Put.{Put}
use Rattle.dma_agents.specs.Put.{bytes_of, bytes_put}
use Rattle.dma_agents.specs.Made.{is_line, is_blank, said_by, until_devices}

-- a line with words says one thing
abbrev pub one_said : Result (Option DeviceLine) DeviceFault → List DeviceLine
one_said (Ok (Some line)) = line ∷ []
one_said (Ok None) = []
one_said (Err fault) = []

-- what lines say up to `end`, the last with words
abbrev pub said_in : List (List ℕ) → List DeviceLine
said_in [] = []
said_in (line ∷ lines) =
    if is_line (codes "end" ∷ []) line && list_all is_blank lines then [] else one_said (said_by line) ++ said_in lines

-- what those behind the line `devices` say
abbrev pub said_behind : Option (List (List ℕ) × List (List ℕ)) → List DeviceLine
said_behind None = []
said_behind (Some parts) = said_in parts.1

-- what the lines of devices of a text say, in their order
abbrev pub device_lines : List ℕ → List DeviceLine
device_lines text = said_behind (until_devices (drop 1 (lines_of text)))

-- the master has writes, one after another, whose enabled bytes are those of the put, each once and in order
pub record HasPut (put : Put) (master : Master) : Type 0 where
  pub before : List Op
  pub writes : List Op
  pub after : List Op
  pub stand : master.ops ≡ before ++ (writes ++ after)
  pub bytes : flat_map bytes_of writes ≡ bytes_put put

-- a master of the board has them
abbrev pub IsPut : Board → Put → Type 0
IsPut board put = Any (HasPut put) board.masters
