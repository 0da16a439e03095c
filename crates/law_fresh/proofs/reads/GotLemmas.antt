-- What a read got is what it returned, and a read of a word that ended got something.
use Rattle.std.proofs.Common.{◌≡◌, ◌≢◌, ℕ, Bool, true, false, ◌||◌, cond, List, [], ◌∷◌, Option, Some, None, is_some, refl, sym, ap, subst, ◌∙◌, slice_get}
use Rattle.pci_command.specs.declared.op_id.OpId.{OpId}
use Rattle.pci_command.specs.declared.op_id.Outcome.{Outcome}
use Rattle.pci_command.specs.declared.op_id.Outcome.TheVariants.{Value, Written, Aborted, Nobody as NobodyClaimed}
use Rattle.pci_command.specs.Command.{is_read}
use Rattle.board_model.specs.declared.agents.Master.{Master as MasterAgent}
use Rattle.board_model.specs.declared.op.Op.{Op}
use Rattle.board_model.specs.declared.board.Board.{Board}
use Rattle.board_model.specs.Requests.{command_of, op_of, reads, reads_in}
use Rattle.board_model.specs.Valid.{IsValid}
use Rattle.history_model.specs.declared.event.Event.{Event}
use Rattle.history_model.specs.Knowledge.{Reading, value_of_ending, ends_as, ends_with, has_ended, or_else, given_value, up_to_end, last_reading, got, words_on, words_named}
use Rattle.history_model.specs.Runs.{Run}
use Rattle.law_fresh.proofs.reads.WordLemmas.{word_of, no_words}
use Rattle.law_fresh.proofs.reads.FitLemmas.{Good}
use Rattle.law_fresh.proofs.reads.ReadLemmas.{ends_good}
use Rattle.law_fresh.proofs.reads.OtherLemmas.{no_reading}

-- the history up to an end is one of a run
run_to_end : (board : Board) (r : OpId) (h : List Event) → Run board h → Run board (up_to_end r h)
run_to_end board r [] run = run
run_to_end board r (e ∷ h) run =
    let P : Bool → Type 0 = λ b. Run board (cond b (e ∷ h) (up_to_end r h)) in
    elim (is_some (ends_with r e)) as P [ true ↦ run | false ↦ run_to_end board r h run.1 ]

-- an operation that is no read got nothing
got_nothing : (board : Board) (h : List Event) (r : OpId) → reads board r ≡ false → Run board h → got board h r ≡ None
got_nothing board h r other run = no_reading board r (up_to_end r h) other (run_to_end board r h run)

-- an outcome other than a value says that there is no word
good_not : (X : Type 0) (word : Bool) (last : Option Reading) (outcome : Outcome) → word ≡ true → value_of_ending (Some outcome) ≡ None → Good word last outcome → X
good_not X word None outcome has none good = let e : true ≡ false = sym has ∙ good in cc
good_not X word (Some reading) (Value value) has none good = cc
good_not X word (Some reading) Written has none good = absurd good
good_not X word (Some reading) Aborted has none good = absurd good
good_not X word (Some reading) NobodyClaimed has none good = absurd good

-- a value was read where there is a word
good_some : (word : Bool) (last : Option Reading) (outcome : Outcome) → word ≡ true → Good word last outcome → is_some last ≡ true
good_some word None outcome has good = let e : true ≡ false = sym has ∙ good in cc
good_some word (Some reading) outcome has good = refl

-- a value that says what was read last
good_value : (word : Bool) (last : Option Reading) (reading : Reading) (value : ℕ) → last ≡ Some reading → Good word last (Value value) → value ≡ reading.value
good_value word last reading value is good = subst (λ l. Good word l (Value value)) is good

module _ (board : Board) (valid : IsValid board) (o : OpId) (op : Op) (is_op : op_of board o ≡ Some op) (read : is_read (command_of op) ≡ true) (master : MasterAgent) (is_master : slice_get board.masters o.master ≡ Some master) where
  -- whether it has a word
  abbrev has_word : Bool
  has_word = word_of board op master.bus

  -- it returned what it got, where an event ended it with this outcome and it did so before
  returned_by : (e : Event) (h : List Event) (reading : Reading) (outcome : Outcome) → Good has_word (last_reading board o (e ∷ h)) outcome → (got board h o ≡ Some reading → given_value h o ≡ Some reading.value)
      → last_reading board o (cond (is_some (value_of_ending (Some outcome))) (e ∷ h) (up_to_end o h)) ≡ Some reading → or_else (value_of_ending (Some outcome)) (given_value h o) ≡ Some reading.value
  returned_by e h reading (Value value) good older is = ap Some (good_value has_word (last_reading board o (e ∷ h)) reading value is good)
  returned_by e h reading Written good older is = older is
  returned_by e h reading Aborted good older is = older is
  returned_by e h reading NobodyClaimed good older is = older is

  -- it returned what it got
  read_returned : (h : List Event) (reading : Reading) → Run board h → got board h o ≡ Some reading → given_value h o ≡ Some reading.value
  read_returned [] reading run is = cc
  read_returned (e ∷ h) reading run is =
      let older : got board h o ≡ Some reading → given_value h o ≡ Some reading.value = read_returned h reading run.1 in
      let P : Option Outcome → Type 0 = λ y. ends_as o e ≡ y → last_reading board o (cond (is_some (value_of_ending y)) (e ∷ h) (up_to_end o h)) ≡ Some reading → or_else (value_of_ending y) (given_value h o) ≡ Some reading.value in
      (elim (ends_as o e) as P [
        | None ↦ λ _ is. older is
        | Some outcome ↦ λ ends is. returned_by e h reading outcome (ends_good board valid o op is_op read master is_master e h run outcome ends) older is
      ]) refl is

  -- it got something, where it has a word and an event ended it with this outcome
  got_by : (e : Event) (h : List Event) (outcome : Outcome) → has_word ≡ true → Good has_word (last_reading board o (e ∷ h)) outcome → is_some (last_reading board o (cond (is_some (value_of_ending (Some outcome))) (e ∷ h) (up_to_end o h))) ≡ true
  got_by e h (Value value) has good = good_some has_word (last_reading board o (e ∷ h)) (Value value) has good
  got_by e h Written has good = good_not _ has_word (last_reading board o (e ∷ h)) Written has refl good
  got_by e h Aborted has good = good_not _ has_word (last_reading board o (e ∷ h)) Aborted has refl good
  got_by e h NobodyClaimed has good = good_not _ has_word (last_reading board o (e ∷ h)) NobodyClaimed has refl good

  -- where it has a word and ended it got something
  read_got : (h : List Event) → Run board h → has_word ≡ true → has_ended h o ≡ true → is_some (got board h o) ≡ true
  read_got [] run has ended = cc
  read_got (e ∷ h) run has ended =
      let P : Option Outcome → Type 0 = λ y. ends_as o e ≡ y → (is_some y || has_ended h o) ≡ true → is_some (last_reading board o (cond (is_some (value_of_ending y)) (e ∷ h) (up_to_end o h))) ≡ true in
      (elim (ends_as o e) as P [
        | None ↦ λ _ later. read_got h run.1 has later
        | Some outcome ↦ λ ends _. got_by e h outcome has (ends_good board valid o op is_op read master is_master e h run outcome ends)
      ]) refl ended

  -- where it names a word it has one
  names_word : words_named board o ≢ [] → has_word ≡ true
  names_word some =
      let P : Bool → Type 0 = λ b. has_word ≡ b → b ≡ true in
      (elim has_word as P [
        | true ↦ λ _. refl
        | false ↦ λ none.
            let F : Option Op → Type 0 = λ found. words_on board found (slice_get board.masters o.master) ≡ [] in
            let G : Option MasterAgent → Type 0 = λ found. words_on board (Some op) found ≡ [] in
            let empty : G (Some master) = no_words board op master.bus none in
            let named : F (Some op) = subst G (sym is_master) empty in
            absurd (some (subst F (sym is_op) named))
      ]) refl

-- the master of an operation that is there
pub master_there : (board : Board) (o : OpId) (op : Op) → op_of board o ≡ Some op → (master : MasterAgent) × (slice_get board.masters o.master ≡ Some master)
master_there board o op is_op =
    let here : Option MasterAgent → Type 0 = λ found. slice_get board.masters o.master ≡ found → (master : MasterAgent) × (slice_get board.masters o.master ≡ Some master) in
    (elim (slice_get board.masters o.master) as here [
      | None ↦ λ none. let gone : op_of board o ≡ None = rw none refl in cc
      | Some master ↦ λ is. (master, is)
    ]) refl

-- what an operation is: no read, or a read of a master
pub read_or_not : (board : Board) (X : Type 0) (o : OpId) → (reads board o ≡ false → X)
    → ((op : Op) → op_of board o ≡ Some op → is_read (command_of op) ≡ true → (master : MasterAgent) → slice_get board.masters o.master ≡ Some master → X) → X
read_or_not board X o is_other is_read_of =
    let P : Option Op → Type 0 = λ found. op_of board o ≡ found → X in
    let Q : Op → Bool → Type 0 = λ op b. is_read (command_of op) ≡ b → X in
    (elim (op_of board o) as P [
      | None ↦ λ none. is_other (ap reads_in none)
      | Some op ↦ λ is. (elim (is_read (command_of op)) as (Q op) [
        | true ↦ λ read. let there = master_there board o op is in is_read_of op is read there.0 there.1
        | false ↦ λ other. is_other (ap reads_in is ∙ other)
      ]) refl
    ]) refl

-- every operation returned what it got
pub returned_got : (board : Board) (h : List Event) (r : OpId) (reading : Reading) → IsValid board → Run board h → got board h r ≡ Some reading → given_value h r ≡ Some reading.value
returned_got board h r reading valid run is =
    read_or_not board (given_value h r ≡ Some reading.value) r
    (λ other. let none = got_nothing board h r other run in cc)
    (λ op is_op read master is_master. read_returned board valid r op is_op read master is_master h reading run is)

-- every read of a word that ended got something
pub always_got : (board : Board) (h : List Event) (r : OpId) → IsValid board → Run board h → reads board r ≡ true → words_named board r ≢ [] → has_ended h r ≡ true → is_some (got board h r) ≡ true
always_got board h r valid run reads_it some ended =
    read_or_not board (is_some (got board h r) ≡ true) r
    (λ other. let e : true ≡ false = sym reads_it ∙ other in cc)
    (λ op is_op read master is_master. read_got board valid r op is_op read master is_master h run (names_word board valid r op is_op read master is_master some) ended)
