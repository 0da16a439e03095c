-- What was read of what `lspci` wrote, and what was written of it.
use Rattle.std.proofs.Common.{◌≡◌, ◌≤◌, ◌^◌, ℕ, List, length, Result, Ok, Err, inl, inr, ap, sym, subst}
use Rattle.std.specs.Prelude.{IfOk, IfErr}
use Rattle.board_model.specs.declared.board.Board.{Board}
use Rattle.import_text.specs.declared.function.Function.{Function}
use Rattle.import_text.specs.Functions.{functions_read}
use Rattle.import_bridges.specs.Functions.{first_root}
use Rattle.import_board.specs.Machine.{IsMachine}
use Rattle.program_status.specs.declared.status.Status.{Status}
use Rattle.program_status.specs.declared.status.Status.TheVariants.{NoMemory}
use Rattle.program_input.specs.Boards.{ReadsBoard}
use Rattle.program_input.specs.Refusals.{RefusesBy}
use Rattle.command_boards.specs.import.Answers.{AnswersImport, TellsMachine, RefusesImport, IsUntold, given_up, fault_told, machine_refusal}

-- the two causes
pub no_memory_untold : (status : Status) → status ≡ NoMemory → IsUntold status
no_memory_untold status is = inl is

pub given_up_untold : (status : Status) → status ≡ given_up → IsUntold status
given_up_untold status is = inr is

-- why nothing is written
pub ruleset of_untold = (no_memory_untold, given_up_untold)

-- the text that is written is that which was read and judged
pub tells_machine : (functions : List Function) (read text : List ℕ) (board judged : Board) → text ≡ read → judged ≡ board → ReadsBoard read board → length read ≤ 2 ^ 20
    → IsMachine (first_root functions) functions judged → TellsMachine functions text
tells_machine functions read text board judged same is reads within machine =
    record {
      board = board;
      read = subst (λ (l : List ℕ). ReadsBoard l board) (sym same) reads;
      within = subst (λ (l : List ℕ). length l ≤ 2 ^ 20) (sym same) within;
      machine = subst (λ (b : Board). IsMachine (first_root functions) functions b) is machine;
    }

-- what a text that is written wants
pub ruleset of_text = (no_memory_untold, given_up_untold, tells_machine)

-- what has a fault is refused by it
pub read_refuses : (input : List ℕ) (status : Status) → RefusesBy (machine_refusal input) status → RefusesImport input status
read_refuses input status refuses = inl refuses

-- the board of the functions that were read answers the input
pub answers : {A : Type 0} (input : List ℕ) (functions : List Function) (written : Result A Status) (items : A → List ℕ) → functions_read input ≡ Ok functions
    → IfOk written (λ text. TellsMachine functions (items text)) → IfOk written (λ text. AnswersImport input (items text))
answers input functions (Ok text) items told tells =
    record { board = tells.board; read = tells.read; within = tells.within; functions = functions; told = told; machine = tells.machine }
answers input functions (Err status) items told tells = tt

untold : (input : List ℕ) (functions : List Function) (status : Status) → functions_read input ≡ Ok functions → IsUntold status → RefusesImport input status
untold input functions status told (inl memory) = inl (subst (λ (s : Status). RefusesBy (machine_refusal input) s) (sym memory) tt)
untold input functions status told (inr is) = inr (record { faultless = ap fault_told told; told = is })

-- functions that were read are refused for want of memory, or given up
pub untold_refuses : {A : Type 0} (input : List ℕ) (functions : List Function) (written : Result A Status) → functions_read input ≡ Ok functions → IfErr written IsUntold → IfErr written (RefusesImport input)
untold_refuses input functions (Ok text) told is = tt
untold_refuses input functions (Err status) told is = untold input functions status told is
