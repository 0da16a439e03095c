-- A statement that was read is one that its words saw to.
use Rattle.std.proofs.Common.{subst, ◌≡◌, ℕ, Bool, true, false, cond, List, refl}
use Rattle.std.specs.Prelude.{Result, Ok, Err, codes}
use Rattle.std.specs.Str.{bytes_eq}
use Rattle.pci_command.specs.declared.command.Command.TheVariants.{IoRead, MemRead, MemWrite, MemReadMultiple, MemReadLine, MemWriteInvalidate}
use Rattle.pci_command.specs.declared.command.Space.TheVariants.{Mem, Io}
use Rattle.pci_command.specs.Command.{space_of}
use Rattle.board_model.specs.WellFormed.{read_space, write_space}
use Rattle.board_parser.specs.draft.Formed.{is_target_space, is_formed}
use Rattle.text_faults.specs.declared.board_line.LineFault.{LineFault}
use Rattle.text_faults.specs.declared.board_line.LineFault.TheVariants.{WrongWord}
use Rattle.board_statements.specs.declared.keyword.LineForm.{LineForm}
use Rattle.board_statements.specs.declared.keyword.LineForm.TheVariants.{Bridge, Header, Target, Id, Stall, Burst, Range, Abort, Word, Master, Reads, WritesBurst, WritesPort, ReadsRegister, WritesRegister, Polls, Discard, Drop}
use Rattle.board_statements.specs.declared.statement.Statement.{Statement}
use Rattle.board_statements.specs.Words.{one_word}
use Rattle.board_statements.specs.Keywords.{line_form}
use Rattle.board_statements.specs.Statements.{behind_word, statement_form, statement_of}
use Rattle.board_parser.proofs.ReaderLemmas.{on-ok, word-ok, yields-whole}
use Rattle.board_parser.proofs.FormLemmas.{is_space_of, bridge-formed, header-formed, target-formed, id-formed, stall-formed, burst-formed, claim-formed, abort-formed, opening-formed, master-formed, read-formed, burst_write-formed, port_write-formed, register_read-formed, register_write-formed, poll-formed, discard-formed, drop-formed}

-- the command of the form reads or writes in a space of targets
abbrev is_served : LineForm → Bool
is_served Bridge = true
is_served Header = true
is_served Target = true
is_served Id = true
is_served Stall = true
is_served Burst = true
is_served Range = true
is_served Abort = true
is_served Word = true
is_served Master = true
is_served (Reads command) = is_space_of (read_space command) (space_of command)
is_served (WritesBurst command) = is_space_of (write_space command) Mem
is_served WritesPort = true
is_served ReadsRegister = true
is_served WritesRegister = true
is_served (Polls space differs) = is_target_space space
is_served Discard = true
is_served Drop = true

-- each form that the answer can be is served
record AllServed (answer : Result LineForm LineFault) : Type 0 where
  at : (found : LineForm) → answer ≡ Ok found → is_served found ≡ true

case-served : (test : Bool) (form : LineForm) (later : Result LineForm LineFault) → is_served form ≡ true → AllServed later → (found : LineForm) → cond test (Ok form) later ≡ Ok found → is_served found ≡ true
case-served true form later served others found h = let is : form ≡ found = cc in let P : LineForm → Type 0 = λ f. is_served f ≡ true in subst P is served
case-served false form later served others found h = others.at found h

kept : (test : Bool) (form : LineForm) (later : Result LineForm LineFault) → is_served form ≡ true → AllServed later → AllServed (cond test (Ok form) later)
kept test form later served others = record { at = case-served test form later served others }

none_served : (fault : LineFault) → AllServed (Err fault)
none_served fault = record { at = λ found h. absurd (cc) }

all-served : (word : List ℕ) → AllServed (line_form word)
unfolding line_form
all-served word =
    kept (bytes_eq word (codes "bridge")) Bridge _ refl (
    kept (bytes_eq word (codes "header")) Header _ refl (
    kept (bytes_eq word (codes "target")) Target _ refl (
    kept (bytes_eq word (codes "id")) Id _ refl (
    kept (bytes_eq word (codes "stall")) Stall _ refl (
    kept (bytes_eq word (codes "burst")) Burst _ refl (
    kept (bytes_eq word (codes "range")) Range _ refl (
    kept (bytes_eq word (codes "abort")) Abort _ refl (
    kept (bytes_eq word (codes "word")) Word _ refl (
    kept (bytes_eq word (codes "master")) Master _ refl (
    kept (bytes_eq word (codes "mr")) (Reads MemRead) _ refl (
    kept (bytes_eq word (codes "mrl")) (Reads MemReadLine) _ refl (
    kept (bytes_eq word (codes "mrm")) (Reads MemReadMultiple) _ refl (
    kept (bytes_eq word (codes "ior")) (Reads IoRead) _ refl (
    kept (bytes_eq word (codes "mw")) (WritesBurst MemWrite) _ refl (
    kept (bytes_eq word (codes "mwi")) (WritesBurst MemWriteInvalidate) _ refl (
    kept (bytes_eq word (codes "iow")) WritesPort _ refl (
    kept (bytes_eq word (codes "cfr")) ReadsRegister _ refl (
    kept (bytes_eq word (codes "cfw")) WritesRegister _ refl (
    kept (bytes_eq word (codes "poll")) (Polls Mem false) _ refl (
    kept (bytes_eq word (codes "iopoll")) (Polls Io false) _ refl (
    kept (bytes_eq word (codes "pollnot")) (Polls Mem true) _ refl (
    kept (bytes_eq word (codes "iopollnot")) (Polls Io true) _ refl (
    kept (bytes_eq word (codes "discard")) Discard _ refl (
    kept (bytes_eq word (codes "drop")) Drop _ refl (
    none_served WrongWord)))))))))))))))))))))))))

behind-formed : (wide : Bool) (form : LineForm) → is_served form ≡ true → (words : List (List ℕ)) (read : Statement × List (List ℕ)) → behind_word wide form words ≡ Ok read → is_formed (read.0) ≡ true
unfolding behind_word
behind-formed wide Bridge served words read h = bridge-formed wide words read h
behind-formed wide Header served words read h = header-formed words read h
behind-formed wide Target served words read h = target-formed words read h
behind-formed wide Id served words read h = id-formed words read h
behind-formed wide Stall served words read h = stall-formed words read h
behind-formed wide Burst served words read h = burst-formed words read h
behind-formed wide Range served words read h = claim-formed wide words read h
behind-formed wide Abort served words read h = abort-formed wide words read h
behind-formed wide Word served words read h = opening-formed wide words read h
behind-formed wide Master served words read h = master-formed words read h
behind-formed wide (Reads command) served words read h = read-formed wide command served words read h
behind-formed wide (WritesBurst command) served words read h = burst_write-formed wide command served words read h
behind-formed wide WritesPort served words read h = port_write-formed words read h
behind-formed wide ReadsRegister served words read h = register_read-formed words read h
behind-formed wide WritesRegister served words read h = register_write-formed words read h
behind-formed wide (Polls space differs) served words read h = poll-formed wide space differs served words read h
behind-formed wide Discard served words read h = discard-formed words read h
behind-formed wide Drop served words read h = drop-formed words read h

line-formed : (wide : Bool) (words : List (List ℕ)) (read : Statement × List (List ℕ)) → statement_form wide words ≡ Ok read → is_formed (read.0) ≡ true
unfolding statement_form
line-formed wide words read h =
    let form = on-ok (one_word line_form words) _ read h in
    behind-formed wide (form.0.0) (word-ok line_form (λ f. is_served f ≡ true) (λ word. (all-served word).at) words form.0 form.1.0) (form.0.1) read form.1.1

pub statement-formed : (wide : Bool) (words : List (List ℕ)) (statement : Statement) → statement_of wide words ≡ Ok statement → is_formed statement ≡ true
unfolding statement_of
statement-formed wide words statement h = yields-whole (statement_form wide words) (λ s. is_formed s ≡ true) (line-formed wide words) statement h
