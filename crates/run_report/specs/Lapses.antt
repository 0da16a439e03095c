-- What came to nothing in a run: writes that no target took, and polls that spent their tries.
use Rattle.std.specs.Prelude.{ℕ, Bool, ◌-◌, List, [], ◌∷◌, ◌++◌, length, Option, Some, None, codes, ◌==◌, ◌&&◌, if◌then◌else◌, slice_get}
use Rattle.std.specs.List.{find, filter_map, flat_map, range_with_len}
use Rattle.std.specs.Option.{option_map}
use Rattle.std.specs.Fmt.{decimal}
use Rattle.pci_command.specs.declared.op_id.OpId.{OpId}
use Rattle.pci_command.specs.declared.op_id.Outcome.{Outcome}
use Rattle.board_model.specs.declared.op.Want.{Want}
use Rattle.board_model.specs.declared.agents.Master.{Master as MasterAgent}
use Rattle.board_model.specs.declared.op.Op.{Op}
use Rattle.board_model.specs.declared.op.Op.TheVariants.{Read as ReadOp, Write, CfgRead, CfgWrite, Poll}
use Rattle.board_model.specs.declared.board.Board.{Board}
use Rattle.board_model.specs.Requests.{op_of}
use Rattle.history_model.specs.declared.event.By.{By}
use Rattle.history_model.specs.declared.event.By.TheVariants.{Master, Lane}
use Rattle.history_model.specs.declared.event.Step.{Step}
use Rattle.history_model.specs.declared.event.Step.TheVariants.{Land, Part, Read, Accept, Latch, Take, Stall, MasterAbort, TargetAbort}
use Rattle.history_model.specs.declared.event.Event.{Event}
use Rattle.history_model.specs.declared.event.Event.TheVariants.{Act, Arrive}
use Rattle.history_model.specs.Program.{master_outcome, meets}
use Rattle.history_model.specs.Runs.{history_of}
use Rattle.run_report.specs.Report.{report_of}
use Rattle.run_report.specs.declared.lapses.Lapse.{Lapse}
use Rattle.run_report.specs.declared.lapses.Lapse.TheVariants.{Nobody, Abort, Spent}
use Rattle.run_report.specs.declared.lapses.Lapsed.{Lapsed}

-- a write is lost where nobody claims it, or its target aborts it, wherever its way ends
abbrev pub lost_by : Step → Option Lapse
lost_by Land = None
lost_by (Part phases) = None
lost_by (Read value) = None
lost_by Accept = None
lost_by Latch = None
lost_by (Take outcome) = None
lost_by Stall = None
lost_by MasterAbort = Some Nobody
lost_by TargetAbort = Some Abort

-- a try of a poll that ended so: spent where that does not meet it
abbrev pub spent_after : Want → ℕ → Option Outcome → Option Lapse
spent_after want tries None = None
spent_after want tries (Some outcome) = if meets want outcome then None else Some (Spent tries)

-- the same by the step with which a try ended, if it ended it
abbrev pub spent_by : Want → ℕ → Step → Option Lapse
spent_by want tries step = spent_after want tries (master_outcome step)

-- the same of the last try, which ends at its master
abbrev pub last_by : OpId → By → Want → ℕ → Step → Option Lapse
last_by o (Lane lane) want tries step = None
last_by o Master want tries step = if o.attempt == tries - 1 then spent_by want tries step else None

-- what an act says of its operation
abbrev pub lapse_of : OpId → By → Step → Option Op → Option Lapse
lapse_of o by step None = None
lapse_of o by step (Some (ReadOp command address)) = None
lapse_of o by step (Some (Write command address phases)) = lost_by step
lapse_of o by step (Some (CfgRead bus device register)) = None
lapse_of o by step (Some (CfgWrite bus device register phase)) = lost_by step
lapse_of o by step (Some (Poll space address want tries)) = last_by o by want tries step

-- what an event tells, with its operation
abbrev pub lapse_told : Board → Event → Option Lapsed
lapse_told board (Act on by o step place) = option_map (λ lapse. record { op = o; lapse = lapse }) (lapse_of o by step (op_of board o))
lapse_told board (Arrive lane mark) = None

-- it tells of an operation of this master
abbrev pub is_by : ℕ → Lapsed → Bool
is_by place lapsed = lapsed.op.master == place

-- and of this index
abbrev pub is_of : ℕ → ℕ → Lapsed → Bool
is_of place index lapsed = lapsed.op.master == place && lapsed.op.index == index

-- ` lost nobody`, ` lost abort`, ` spent TRIES`
abbrev pub lapse_words : Lapse → List ℕ
lapse_words Nobody = codes " lost nobody"
lapse_words Abort = codes " lost abort"
lapse_words (Spent tries) = codes " spent " ++ decimal tries

-- `NAME.INDEX` and that, where there is something to tell of the operation
abbrev pub lapse_line : List ℕ → ℕ → Option Lapsed → List ℕ
lapse_line name index None = []
lapse_line name index (Some lapsed) = name ++ 46 ∷ (decimal index ++ (lapse_words lapsed.lapse ++ 10 ∷ []))

-- the lines of a program, by index
abbrev pub program_lapses : List Lapsed → ℕ → Option MasterAgent → List ℕ
program_lapses lapses place None = []
program_lapses lapses place (Some master) =
    flat_map (λ index. lapse_line master.name index (find (is_of place index) lapses)) (range_with_len 0 (length master.ops))

-- the lines of all, by master
abbrev pub lapses_text : Board → List Lapsed → List ℕ
lapses_text board lapses =
    flat_map (λ place. program_lapses lapses place (slice_get board.masters place)) (range_with_len 0 (length board.masters))

-- the counts of a run, and behind them its lost writes and spent polls
abbrev pub whole_report : Board → List Event → List ℕ
whole_report board events = report_of board (history_of events) ++ lapses_text board (filter_map (lapse_told board) events)
