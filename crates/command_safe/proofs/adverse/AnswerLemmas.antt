-- What is answered of a tree is answered of its text.
use Rattle.std.proofs.Common.{◌≡◌, ℕ, Bool, true, false, cond, List, Option, Some, None, Result, Ok, Err, refl, sym, subst}
use Rattle.std.specs.Prelude.{IfErr}
use Rattle.std.specs.Option.{option_map, option_and_then}
use Rattle.pci_command.specs.declared.op_id.OpId.{OpId}
use Rattle.board_model.specs.declared.board.Board.{Board}
use Rattle.board_model.specs.Valid.{IsValid}
use Rattle.text_faults.specs.declared.board_line.LineFault.{LineFault}
use Rattle.dma_agents.specs.declared.fault.MakeFault.{MakeFault}
use Rattle.dma_agents.specs.declared.fault.MakeFault.TheVariants as faults
use Rattle.dma_agents.specs.Made.{Made, made_read, begins_devices}
use Rattle.board_parser.specs.Boards.{board_read}
use Rattle.history_model.specs.Knowledge.{is_write}
use Rattle.program_input.specs.Refusals.{tree_fault, reading_refusal}
use Rattle.program_input.specs.Devices.{making_refusal}
use Rattle.program_input.specs.Protocols.{ReadsAs, ReadsProtocol, RefusesProtocol}
use Rattle.program_status.specs.declared.status.Status.{Status}
use Rattle.program_status.specs.declared.status.Status.TheVariants.{BadBoard, NotShown}
use Rattle.program_status.specs.declared.status.BoardFault.{BoardFault}
use Rattle.trace_reader.specs.lines.Words.{only_where}
use Rattle.judge_adverse.specs.declared.run.Pair.{Pair}
use Rattle.judge_adverse.specs.Runs.{reads_word, IsPair}
use Rattle.judge_adverse.specs.Operation.{operation_of}
use Rattle.command_safe.specs.adverse.Answers.{NamesPair, ShowsPair, ShowsAdverse, HidesPair, HidesAs, AnswersAdverse, RefusesAdverse}
use Rattle.command_safe.specs.adverse.Answers.IsHidden.{waits}

-- the board that is read is valid
valid_by : (devices : Bool) (input : List ℕ) (board : Board) → ReadsAs devices input board → IsValid board
valid_by true input board reads = reads.valid
valid_by false input board reads = reads.valid

valid_read : (input : List ℕ) (board : Board) → ReadsProtocol input board → IsValid board
valid_read input board reads = valid_by (begins_devices input) input board reads

-- what is named passes its test
passes : (test : OpId → Bool) (found : Option OpId) (o : OpId) → option_and_then (λ p. only_where (test p) (Some p)) found ≡ Some o → test o ≡ true
passes test None o is = cc
passes test (Some p) o is =
    let P : Bool → Type 0 = λ b. test p ≡ b → cond b (Some p) None ≡ Some o → test o ≡ true in
    (elim (test p) as P [
      | true ↦ λ passed e. (let same : p ≡ o = cc in subst (λ (q : OpId). test q ≡ true) same passed)
      | false ↦ λ _ e. cc
    ]) refl is

pub named_pair : (board : Board) (read write : List ℕ) (pair : Pair) → NamesPair board read write pair → IsPair board pair
named_pair board read write pair named =
    record {
      reads = passes (reads_word board) (operation_of board read) pair.read named.reads;
      writes = passes (is_write board) (operation_of board write) pair.write named.writes;
    }

-- what is said of a pair is said of the words that name it
pub shows_named : (board : Board) (read write text : List ℕ) (pair : Pair) → NamesPair board read write pair → ShowsPair board pair text → ShowsAdverse board read write text
shows_named board read write text pair named shows = record { pair = pair; named = named; shows = shows }

pub hides_named : (board : Board) (read write : List ℕ) (pair : Pair) (status : Status) → NamesPair board read write pair → HidesPair board pair status → HidesAs board read write status
hides_named board read write pair NotShown named hides = waits pair named hides
hides_named board read write pair status named hides = hides

-- what is said of a tree is said of its text
pub answers_read : (input read write text : List ℕ) (board : Board) → ReadsProtocol input board → ShowsAdverse board read write text → AnswersAdverse read write input text
answers_read input read write text board reads shows = record { board = board; reads = reads; valid = valid_read input board reads; shows = shows }

pub refuses_read : (input read write : List ℕ) (board : Board) (status : Status) → ReadsProtocol input board → HidesAs board read write status → RefusesAdverse read write input status
refuses_read input read write board NotShown reads hides = record { board = board; reads = reads; valid = valid_read input board reads; hidden = hides }
refuses_read input read write board status reads hides = subst (λ (s : Status). RefusesProtocol input s) (sym hides) tt

-- no text is refused since nothing is shown
no_tree : (fault : Option BoardFault) → option_map (BadBoard 0) fault ≡ Some NotShown → ⊥
no_tree None is = cc
no_tree (Some fault) is = cc

no_board : (read : Result Board (ℕ × LineFault)) → reading_refusal read ≡ Some NotShown → ⊥
no_board (Err fault) is = cc
no_board (Ok board) is = no_tree (tree_fault board) is

no_devices : (read : Result Made MakeFault) → making_refusal read ≡ Some NotShown → ⊥
no_devices (Err (faults.Board line fault)) is = cc
no_devices (Err (faults.Device line fault)) is = cc
no_devices (Err (faults.NotClear line flag why)) is = cc
no_devices (Ok made) is = no_tree (tree_fault made.board) is

no_text : (devices : Bool) (input : List ℕ) → cond devices (making_refusal (made_read input)) (reading_refusal (board_read input)) ≡ Some NotShown → ⊥
no_text true input is = no_devices (made_read input) is
no_text false input is = no_board (board_read input) is

-- so a text that is refused is refused by this word too
pub refuses_text : (input read write : List ℕ) (status : Status) → RefusesProtocol input status → RefusesAdverse read write input status
refuses_text input read write NotShown refuses = absurd (no_text (begins_devices input) input refuses)
refuses_text input read write status refuses = refuses

-- what follows from a status follows from that of a result
pub err_weaker : {A : Type 0} (r : Result A Status) (P Q : Status → Type 0) → ((status : Status) → P status → Q status) → IfErr r P → IfErr r Q
err_weaker (Ok a) P Q weaker is = tt
err_weaker (Err status) P Q weaker is = weaker status is
