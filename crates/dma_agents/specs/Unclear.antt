-- Why a flag is not clear: of the conditions of `is_clear`, in their order, the first that does not hold, and what of
-- the board is in its way.
use Rattle.std.specs.Prelude.{ℕ, Bool, ◌+◌, List, [], ◌∷◌, ◌++◌, length, Option, Some, None, not, ◌&&◌, ◌==◌, position, if◌then◌else◌}
use Rattle.std.specs.List.{list_all, list_any}
use Rattle.pci_command.specs.declared.command.Space.TheVariants.{Mem}
use Rattle.board_model.specs.declared.agents.Master.{Master}
use Rattle.board_model.specs.declared.agents.Target.{Target}
use Rattle.board_model.specs.declared.op.Op.{Op}
use Rattle.board_model.specs.declared.board.Board.{Board}
use Rattle.board_model.specs.Requests.{phases_of}
use Rattle.board_model.specs.Claims.{range_holds}
use Rattle.history_model.specs.Words.{opens_in}
use Rattle.history_model.specs.Clear.{is_value, written_at, rings, is_whole, holds}
use Rattle.dma_agents.specs.declared.line.Flag.{Flag}
use Rattle.dma_agents.specs.declared.unclear.OpPlace.{OpPlace}
use Rattle.dma_agents.specs.declared.unclear.Sought.{Sought}
use Rattle.dma_agents.specs.declared.unclear.Sought.TheVariants.{Part, More, Value}
use Rattle.dma_agents.specs.declared.unclear.Unclear.{Unclear}
use Rattle.dma_agents.specs.declared.unclear.Unclear.TheVariants.{NoTarget, TwoTargets, Aborts, OpensSo, WritesPart, WritesMore, NobodyWrites, TwoWrite}

-- an operation writes at the address: with some byte not enabled; the value, with other dwords; the value
abbrev pub is_sought : Sought → Flag → Op → Bool
is_sought Part flag op = not (list_all is_whole (written_at flag.address op))
is_sought More flag op = not (rings flag.address flag.value op == 0) && not (length (phases_of op) == 1)
is_sought Value flag op = not (rings flag.address flag.value op == 0)

-- where such operations stand, in the program of this master from this one on
abbrev pub places_in : (Op → Bool) → ℕ → ℕ → List Op → List OpPlace
places_in test master index [] = []
places_in test master index (op ∷ ops) =
    (if test op then record { master = master; index = index } ∷ [] else []) ++ places_in test master (index + 1) ops

-- and in the programs of these masters, the first of which has this number
abbrev pub places : (Op → Bool) → ℕ → List Master → List OpPlace
places test number [] = []
places test number (master ∷ masters) = places_in test number 0 master.ops ++ places test (number + 1) masters

-- by the writes of the value: none, or two, since one alone would be clear
abbrev pub by_value : List OpPlace → Unclear
by_value [] = NobodyWrites
by_value (first ∷ []) = TwoWrite first first
by_value (first ∷ second ∷ more) = TwoWrite first second

-- by those that write more, and those that write a part
abbrev pub by_more : Board → Flag → List OpPlace → Unclear
by_more board flag [] = by_value (places (is_sought Value flag) 0 board.masters)
by_more board flag (first ∷ more) = WritesMore first

-- the writes of a part come first
abbrev pub by_part : Board → Flag → List OpPlace → Unclear
by_part board flag [] = by_more board flag (places (is_sought More flag) 0 board.masters)
by_part board flag (first ∷ more) = WritesPart first

-- by what is written there
abbrev pub by_writes : Board → Flag → Unclear
by_writes board flag = by_part board flag (places (is_sought Part flag) 0 board.masters)

-- by the target that has the address: its first abort range there, and how the dword opens
abbrev pub by_aborts : Board → Flag → ℕ → Target → Option ℕ → Unclear
by_aborts board flag number target (Some range) = Aborts number range
by_aborts board flag number target None =
    if is_value flag.value (opens_in Mem flag.address target) then OpensSo else by_writes board flag

-- by the first target that has the address, of this number, where no other has it
abbrev pub by_holder : Board → Flag → ℕ → Target → List Target → Unclear
by_holder board flag number target others =
    if list_any (holds flag.address) others
    then TwoTargets
    else by_aborts board flag number target (position (range_holds Mem flag.address) target.aborts)

-- by these targets, the first of which has this number
abbrev pub by_targets : Board → Flag → ℕ → List Target → Unclear
by_targets board flag number [] = NoTarget
by_targets board flag number (target ∷ others) =
    if holds flag.address target
    then by_holder board flag number target others
    else by_targets board flag (number + 1) others

-- why a flag is not clear, where it is not
abbrev pub why_unclear : Board → Flag → Unclear
why_unclear board flag = by_targets board flag 0 board.targets
