-- A text of which a run is shown is not refused.
use Rattle.std.proofs.Common.{◌≡◌, ℕ, Bool, true, false, List, Some, None, Result, Ok, Err, ◌⊎◌, inr, ⊎_elim, refl, sym, subst, ◌∙◌}
use Rattle.pci_command.specs.declared.op_id.OpId.{OpId}
use Rattle.board_model.specs.declared.board.Board.{Board}
use Rattle.dma_agents.specs.declared.fault.MakeFault.{MakeFault}
use Rattle.dma_agents.specs.Made.{Made, IsMade, made_read, begins_devices}
use Rattle.program_input.specs.Refusals.{IsRefusing}
use Rattle.program_input.specs.Protocols.{ReadsAs, ReadsProtocol}
use Rattle.program_input.proofs.ProtocolLemmas.{protocol_refusing}
use Rattle.program_status.specs.Subjects.{subject_of}
use Rattle.program_status.specs.Subjects.Subject.{Memory, Input}
use Rattle.program_status.specs.declared.status.Status.{Status}
use Rattle.program_status.specs.declared.status.Status.TheVariants.{NoMemory, NotShown}
use Rattle.judge_adverse.specs.declared.run.Pair.{Pair}
use Rattle.judge_adverse.specs.Operation.{read_of, write_of}
use Rattle.judge_adverse.specs.Runs.{MayWait, GoesOnElse}
use Rattle.command_safe.specs.adverse.Answers.{NamesPair, IsHidden, IsShowable, RefusesAdverse}
use Rattle.command_safe.specs.adverse.Answers.IsHidden.{no_pair, waits}

same_made : (a b : Board) (read : Result Made MakeFault) → IsMade a read → IsMade b read → a ≡ b
same_made a b (Ok made) first second = sym first ∙ second
same_made a b (Err fault) first second = absurd first

same_by : (devices : Bool) (input : List ℕ) (a b : Board) → ReadsAs devices input a → ReadsAs devices input b → a ≡ b
same_by true input a b first second = same_made a b (made_read input) first.made second.made
same_by false input a b first second = let same : Ok a ≡ Ok b = sym first.read ∙ second.read in cc

-- a text is of one board
same_board : (input : List ℕ) (a b : Board) → ReadsProtocol input a → ReadsProtocol input b → a ≡ b
same_board input a b first second = same_by (begins_devices input) input a b first second

-- a board of which the run goes on has nothing hidden
not_hidden : (board : Board) (read write : List ℕ) (pair : Pair) → NamesPair board read write pair → GoesOnElse board pair.read pair.write → IsHidden board read write → ⊥
not_hidden board read write pair named goes (no_pair none) =
    ⊎_elim {C = ⊥}
    (λ (no : read_of board read ≡ None). (let e : Some pair.read ≡ None = sym named.reads ∙ no in cc))
    (λ (no : write_of board write ≡ None). (let e : Some pair.write ≡ None = sym named.writes ∙ no in cc)) none
not_hidden board read write pair named goes (waits other others waiting) =
    let r : Some pair.read ≡ Some other.read = sym named.reads ∙ others.reads in
    let w : Some pair.write ≡ Some other.write = sym named.writes ∙ others.writes in
    let r_is : other.read ≡ pair.read = cc in
    let w_is : other.write ≡ pair.write = cc in
    let here : MayWait board pair.read pair.write = subst (λ (o : OpId). MayWait board o pair.write) r_is (subst (λ (o : OpId). MayWait board other.read o) w_is waiting) in
    let next = goes here.0 here.1.run here.1.not_ended in
    let e : true ≡ false = sym (here.1.nothing_else next.0 next.1.0) ∙ next.1.1 in
    cc

-- it is refused only for want of memory
showable_is_answered : (read write input : List ℕ) (status : Status) → IsShowable read write input → RefusesAdverse read write input status → status ≡ NoMemory
showable_is_answered read write input NotShown showable refuses =
    let same : refuses.board ≡ showable.board = same_board input refuses.board showable.board refuses.reads showable.reads in
    absurd (not_hidden showable.board read write showable.pair showable.named showable.goes_on (subst (λ (b : Board). IsHidden b read write) same refuses.hidden))
showable_is_answered read write input status showable refuses = protocol_refusing.served input status showable.is_text refuses

-- a refusal speaks of memory or of the input
adverse_subject : (read write input : List ℕ) (status : Status) → RefusesAdverse read write input status → (subject_of status ≡ Memory) ⊎ (subject_of status ≡ Input)
adverse_subject read write input NotShown refuses = inr refl
adverse_subject read write input status refuses = protocol_refusing.subject input status refuses

pub adverse_refusing : (read write : List ℕ) → IsRefusing (λ input status. RefusesAdverse read write input status) (λ input. IsShowable read write input)
adverse_refusing read write = record { served = λ input status showable refuses. showable_is_answered read write input status showable refuses; subject = λ input status refuses. adverse_subject read write input status refuses }
