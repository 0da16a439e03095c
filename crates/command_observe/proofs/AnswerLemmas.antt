-- What was read of a log, and found out of what was written, is what is told of both.
use Rattle.std.proofs.Common.{◌≡◌, ◌<◌, ◌≤◌, ◌^◌, ℕ, List, length, arith, Option, Some, None, Result, Ok, Err, sym, ap, subst, ◌∙◌}
use Rattle.std.specs.Prelude.{IsTrue, IfOk, IfErr}
use Rattle.std.specs.Option.{option_map}
use Rattle.board_model.specs.declared.board.Board.{Board}
use Rattle.board_model.specs.WellFormed.{is_well_formed}
use Rattle.board_model.specs.Valid.{IsValid}
use Rattle.history_model.specs.declared.event.Event.{Event}
use Rattle.law_early.specs.Early.{acts_of}
use Rattle.text_faults.specs.declared.or_no_memory.OrNoMemory.{OrNoMemory}
use Rattle.text_faults.specs.declared.or_no_memory.OrNoMemory.TheVariants as ors
use Rattle.observe_log.specs.Told.{AreToldBy, Tells as IsToldOf}
use Rattle.observe_told.specs.declared.seen.Log.{Log}
use Rattle.observe_log.specs.declared.fault.LogFault.{LogFault}
use Rattle.observe_log.specs.declared.fault.LogFault.TheVariants as faults
use Rattle.observe_log.specs.Logs.{log_read, Tells, TellsBoardOf}
use Rattle.program_status.specs.declared.status.Status.{Status}
use Rattle.program_status.specs.declared.status.Status.TheVariants.{NoMemory, BadBoard, BadLog, NotTold, TooMuch}
use Rattle.program_status.specs.declared.answered.Answered.{Answered}
use Rattle.program_status.specs.declared.status.BoardFault.{BoardFault}
use Rattle.program_status.specs.declared.status.BoardFault.TheVariants.{Line}
use Rattle.program_status.specs.declared.log.LogRefusal.{LogRefusal}
use Rattle.program_status.specs.declared.log.LogExcess.{LogExcess}
use Rattle.program_input.specs.Refusals.{tree_fault}
use Rattle.program_input.specs.Boards.{RefusesTree, IsTreeOf}
use Rattle.program_input.specs.Traces.{ReadsTree}
use Rattle.program_input.specs.declared.trace.TreeTrace.{TreeTrace}
use Rattle.trace_reader.specs.Traces.{trace_read}
use Rattle.command_observe.specs.declared.reading.TreeLog.{TreeLog}
use Rattle.command_observe.specs.declared.telling.RunOfLog.{RunOfLog}
use Rattle.command_observe.specs.declared.drafting.Untold.{Untold}
use Rattle.command_observe.specs.declared.drafting.Untold.TheVariants as untolds
use Rattle.observe_told.specs.declared.woven.Woven.{Woven}
use Rattle.observe_told.specs.Woven.{events_of, IsWhole}
use Rattle.observe_order.proofs.ActsLemmas.{same_acts}
use Rattle.observe_order.specs.declared.judging.ActsVerdict.{ActsVerdict}
use Rattle.observe_order.specs.declared.judging.ActsVerdict.TheVariants.{IsRun, Refused}
use Rattle.command_observe.specs.Logs.{log_refusal, log_reading_refusal, RefusesLog, IsLogText, ReadsLog, TellsFault}
use Rattle.command_observe.specs.Answers.{RefusesObserve, AnswersObserve, AnswersActs, TellsRun, TellsActs}
use Rattle.command_observe.specs.Judging.{untold_status, IsUntold, ending_of, IsRunOf, IsJudged, HoldsActs}

-- a fault of the text is told as it is read
pub fault_refuses : (input : List ℕ) (fault : OrNoMemory LogFault) (status : Status) → Tells {A = Log} (Err fault) (log_read input) → TellsFault fault status → RefusesLog input status
fault_refuses input (ors.Fault (faults.Log line word fault)) status reads told =
    let same : log_refusal input ≡ Some (BadLog line fault) = ap log_reading_refusal reads in
    subst (λ s. RefusesLog input s) (sym told) same
fault_refuses input (ors.Fault (faults.Board line fault)) status reads told =
    let same : log_refusal input ≡ Some (BadBoard line (Line fault)) = ap log_reading_refusal reads in
    subst (λ s. RefusesLog input s) (sym told) same
fault_refuses input ors.NoMemory status reads told = subst (λ s. RefusesLog input s) (sym told) tt

-- a fault of the tree is told with line 0
pub tree_refuses : (input : List ℕ) (log : Log) (status : Status) → log_read input ≡ Ok log → RefusesTree log.board status → RefusesLog input status
tree_refuses input log status reads refuses =
    let same : log_refusal input ≡ Some (BadBoard 0 refuses.fault) = ap log_reading_refusal reads ∙ ap (option_map (BadBoard 0)) refuses.fault_is in
    subst (λ s. RefusesLog input s) (sym refuses.told) same

-- nor is there another board where a log was read
pub no_board_refuses : (input : List ℕ) (log : Log) (fault : OrNoMemory LogFault) (status : Status) → log_read input ≡ Ok log → TellsBoardOf (Err fault) (log_read input)
    → TellsFault fault status → RefusesLog input status
no_board_refuses input log (ors.Fault fault) status is reads told = fault_refuses input (ors.Fault fault) status reads told
no_board_refuses input log ors.NoMemory status is reads told = fault_refuses input ors.NoMemory status reads told

same_board : (board : Board) (log : Log) (read : Result Log LogFault) → read ≡ Ok log → TellsBoardOf (Ok board) read → board ≡ log.board
same_board board log (Ok other) is tells = cc
same_board board log (Err fault) is tells = cc

-- the tree of the board that was read again is that of the log
pub is_log_tree : (input : List ℕ) (board tree : Board) (log : Log) → log_read input ≡ Ok log → TellsBoardOf (Ok board) (log_read input) → IsTreeOf board tree
    → IsTreeOf log.board tree
is_log_tree input board tree log is tells of_board = subst (λ b. IsTreeOf b tree) (same_board board log (log_read input) is tells) of_board

pub log_tree_refuses : (input : List ℕ) (board : Board) (log : Log) (status : Status) → log_read input ≡ Ok log → TellsBoardOf (Ok board) (log_read input)
    → RefusesTree board status → RefusesLog input status
log_tree_refuses input board log status is tells refuses =
    tree_refuses input log status is (subst (λ b. RefusesTree b status) (same_board board log (log_read input) is tells) refuses)

-- a log with the tree of its board
pub reads_log : (input : List ℕ) (tree : Board) (log : Log) → log_read input ≡ Ok log → IsTreeOf log.board tree → IsTrue (is_well_formed log.board)
    → ReadsLog input (record { tree = tree; log = log })
reads_log input tree log reads is formed = record { reads = reads; faultless = is.faultless; formed = formed }

-- no text is refused by how a log is refused that is read

no_tree_told : (fault : Option BoardFault) (line : ℕ) (refusal : LogRefusal) → option_map (BadBoard 0) fault ≡ Some (NotTold line refusal) → ⊥
no_tree_told None line refusal is = cc
no_tree_told (Some fault) line refusal is = cc

no_told : (read : Result Log LogFault) (line : ℕ) (refusal : LogRefusal) → log_reading_refusal read ≡ Some (NotTold line refusal) → ⊥
no_told (Ok log) line refusal is = no_tree_told (tree_fault log.board) line refusal is
no_told (Err (faults.Log at word fault)) line refusal is = cc
no_told (Err (faults.Board at fault)) line refusal is = cc

no_tree_much : (fault : Option BoardFault) (line : ℕ) (excess : LogExcess) → option_map (BadBoard 0) fault ≡ Some (TooMuch line excess) → ⊥
no_tree_much None line excess is = cc
no_tree_much (Some fault) line excess is = cc

no_much : (read : Result Log LogFault) (line : ℕ) (excess : LogExcess) → log_reading_refusal read ≡ Some (TooMuch line excess) → ⊥
no_much (Ok log) line excess is = no_tree_much (tree_fault log.board) line excess is
no_much (Err (faults.Log at word fault)) line excess is = cc
no_much (Err (faults.Board at fault)) line excess is = cc

-- what is no log of a valid board is refused so
pub read_refuses : (input : List ℕ) (status : Status) → RefusesLog input status → RefusesObserve input status
read_refuses input (NotTold line refusal) refuses = absurd (no_told (log_read input) line refusal refuses)
read_refuses input (TooMuch line excess) refuses = absurd (no_much (log_read input) line excess refuses)
read_refuses input status refuses = refuses

pub is_untold : (untold : Untold) (status : Status) → status ≡ untold_status untold → IsUntold status
is_untold (untolds.NotTold line refusal) status is = subst IsUntold (sym is) tt
is_untold (untolds.TooMuch line excess) status is = subst IsUntold (sym is) tt
is_untold untolds.NoMemory status is = subst IsUntold (sym is) tt

of_log : (input : List ℕ) (status : Status) → IsLogText input → IsUntold status → RefusesObserve input status
of_log input (NotTold line refusal) is untold = is
of_log input (TooMuch line excess) is untold = is
of_log input NoMemory is untold = tt
of_log input status is untold = absurd untold

-- a log of which nothing is written is refused so
pub untold_refuses : {A : Type 0} (input : List ℕ) (read : TreeLog) (found : Result A Status) → ReadsLog input read → IfErr found IsUntold → IfErr found (RefusesObserve input)
untold_refuses input read (Ok value) reads untold = tt
untold_refuses input read (Err status) reads untold = of_log input status (record { log = read.log; reads = reads.reads; tree = reads.faultless }) untold

-- what is read as the run tells it
tells_run : (log : Log) (found : RunOfLog) (text : List ℕ) → IsRunOf log found → IsValid found.tree → trace_read text ≡ Ok (found.tree, events_of found.run) → TellsRun log text
tells_run log found text is valid read =
    record {
      board = found.tree;
      events = events_of found.run;
      read_back = read;
      valid = valid;
      run = is.still.run;
      told = is.told;
      still = is.still.landed;
    }

pub tells : {A : Type 0} (log : Log) (found : RunOfLog) (written : Result A Status) (items : A → List ℕ) → IsRunOf log found → IsValid found.tree
    → IfOk written (λ text. trace_read (items text) ≡ Ok (found.tree, events_of found.run)) → IfOk written (λ text. TellsRun log (items text))
tells log found (Ok text) items is valid read = tells_run log found (items text) is valid read
tells log found (Err status) items is valid read = tt

-- for want of memory nothing is told
pub none_told : {A : Type 0} (written : Result A Status) → IfErr written (λ status. status ≡ NoMemory) → IfErr written IsUntold
none_told (Ok text) is = tt
none_told (Err status) is = subst IsUntold (sym is) tt

-- what tells the log answers the input
pub observes : {A : Type 0} (input : List ℕ) (read : TreeLog) (written : Result A Status) (items : A → List ℕ) → ReadsLog input read
    → IfOk written (λ text. TellsRun read.log (items text)) → IfOk written (λ text. AnswersObserve input (items text))
observes input read (Ok text) items reads tells = record { log = read.log; reads = reads.reads; writes = tells }
observes input read (Err status) items reads tells = tt

-- a run has few events
pub few_events : (events : List Event) (count : ℕ) → length events ≤ count → count ≤ 4294967295 → length events < 2 ^ 32
few_events events count bounded few = omega (arith, bounded, few)

-- its acts are told, where those are that stand apart
pub told_woven : (log : Log) (board : Board) (woven : Woven) → IsWhole woven → IsToldOf log board (acts_of woven.acts.items) → IsToldOf log board (acts_of (events_of woven))
told_woven log board woven whole told = subst (IsToldOf log board) (sym (same_acts woven whole)) told

pub acts_told : (input : List ℕ) (read : TreeLog) (found : Result Answered Status) → ReadsLog input read
    → IfOk found (λ answer. TellsActs read.log answer.text.items answer.ending) → IfOk found (λ answer. AnswersActs input answer.text.items answer.ending)
acts_told input read (Ok answer) reads tells = record { log = read.log; reads = reads.reads; writes = tells }
acts_told input read (Err status) reads tells = tt

-- what was read again is what was written

verdict_tells : (log : Log) (text : List ℕ) (read : TreeTrace) (verdict : ActsVerdict) → ReadsTree text read → IsJudged log read verdict → (line : ℕ) → TellsActs log text (ending_of line verdict)
verdict_tells log text read IsRun reads is line =
    record { board = read.tree; events = read.events; read_back = reads.reads.read; valid = reads.valid; told = is.told; ends = is.judged }
verdict_tells log text read (Refused event why) reads is line =
    record { board = read.tree; events = read.events; read_back = reads.reads.read; valid = reads.valid; told = is.told; ends = is.judged }

pub holds_verdict : {E : Type 0} (log : Log) (text : List ℕ) (read : TreeTrace) (found : Result ActsVerdict E) → ReadsTree text read → IfOk found (IsJudged log read) → IfOk found (HoldsActs log text)
holds_verdict log text read (Ok verdict) reads is = λ line. verdict_tells log text read verdict reads is line
holds_verdict log text read (Err untold) reads is = tt

-- the ending tells the verdict, of whichever line
pub ends_by : (log : Log) (text : List ℕ) (verdict : ActsVerdict) (ending : Status) → HoldsActs log text verdict → ((line : ℕ) × (ending ≡ ending_of line verdict)) → TellsActs log text ending
ends_by log text verdict ending holds is = subst (λ s. TellsActs log text s) (sym is.1) (holds is.0)

-- acts that are told of lines
pub told_by : (log : Log) (board : Board) (events : List Event) (lines : List ℕ) → AreToldBy log board (acts_of events) lines → IsToldOf log board (acts_of events)
told_by log board events lines told = record { lines = lines; told = told }
