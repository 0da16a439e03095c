-- A read that has a word reads it.
use Rattle.std.proofs.Common.{◌≡◌, ℕ, Bool, true, false, cond, List, [], ◌∷◌, Option, Some, None, sym, ap, ◌∙◌, slice_get}
use Rattle.pci_command.specs.declared.phases.Phase.{Phase}
use Rattle.pci_command.specs.declared.request.Request.{Request}
use Rattle.pci_command.specs.declared.op_id.OpId.{OpId}
use Rattle.pci_command.specs.Command.{space_of}
use Rattle.board_model.specs.declared.agents.Master.{Master as MasterAgent}
use Rattle.board_model.specs.declared.agents.Target.{Target as TargetAgent}
use Rattle.board_model.specs.declared.bridge.Place.{Place}
use Rattle.board_model.specs.declared.bridge.Place.TheVariants.{Target}
use Rattle.board_model.specs.declared.op.Op.{Op}
use Rattle.board_model.specs.declared.board.Board.{Board}
use Rattle.board_model.specs.Requests.{op_of, command_of, request_on}
use Rattle.board_model.specs.Ways.{Dword, route_of, address_in, aborts_at, words_at, words_by, words_of, dwords_from, dwords_of}
use Rattle.board_model.specs.Valid.{IsValid}
use Rattle.history_model.specs.declared.event.Event.{Event}
use Rattle.history_model.specs.Knowledge.{Reading, words_on, words_named}
use Rattle.law_fresh.proofs.reads.Laws.{master_there, not_posted}
use Rattle.law_delivered.proofs.EndLemmas.{ending}
use Rattle.law_delivered.proofs.NamedLemmas.{ending_there}
use Rattle.law_delivered.proofs.left.LeftLemmas.{ReadAt}

-- the words of an operation whose way ends at a target
pub words_end : (board : Board) (o : OpId) (op : Op) (master : MasterAgent) → op_of board o ≡ Some op → slice_get board.masters o.master ≡ Some master → (on place : ℕ) → ending (route_of board op master.bus) ≡ (on, Target place)
    → words_named board o ≡ words_at place (request_on op on) (slice_get board.targets place)
words_end board o op master is_op is_master on place ends =
    let of_op : words_named board o ≡ words_on board (Some op) (slice_get board.masters o.master) = ap (λ found. words_on board found (slice_get board.masters o.master)) is_op in
    let of_master : words_on board (Some op) (slice_get board.masters o.master) ≡ words_of board op master.bus = ap (words_on board (Some op)) is_master in
    let at_end : words_of board op master.bus ≡ words_at place (request_on op on) (slice_get board.targets place) = ap (λ (pair : ℕ × Place). words_by board (request_on op pair.0) pair.1) ends in
    of_op ∙ of_master ∙ at_end

first_word : (place : ℕ) (request : Request) (found : Option TargetAgent) (word : Dword) (rest : List Dword) → words_at place request found ≡ word ∷ rest
    → word ≡ record { target = place; space = space_of request.command; address = address_in (space_of request.command) request.address }
first_word place request None word rest is = cc
first_word place request (Some target) word rest is =
    let here : Dword = record { target = place; space = space_of request.command; address = address_in (space_of request.command) request.address } in
    let P : Bool → Type 0 = λ b. cond b [] (dwords_of place request) ≡ word ∷ rest → word ≡ here in
    let Q : List Phase → Type 0 = λ phases. dwords_from place (space_of request.command) (address_in (space_of request.command) request.address) phases ≡ word ∷ rest → word ≡ here in
    (elim (aborts_at target request) as P [
      | true ↦ λ e. cc
      | false ↦ (elim request.phases as Q [ [] ↦ λ e. cc | phase ∷ phases ↦ λ e. let same : here ≡ word = cc in sym same ])
    ]) is

-- the way of what read ends where it read
pub read_ends : (board : Board) (h : List Event) (r : OpId) (reading : Reading) → (valid : IsValid board) → (at : ReadAt board h r reading) → (master : MasterAgent) → slice_get board.masters r.master ≡ Some master
    → ending (route_of board at.op master.bus) ≡ (at.some.on, Target at.some.place)
read_ends board h r reading valid at master is_master =
    ending_there board valid reading.before at.run.1 r at.op master at.is_op is_master at.some.on at.some.by at.some.place (not_posted (command_of at.op) at.read) at.some.wanted at.some.here.claims

-- a read that has a word read it
pub read_word : (board : Board) (h : List Event) (r : OpId) (reading : Reading) (word : Dword) (rest : List Dword) → IsValid board → ReadAt board h r reading → words_named board r ≡ word ∷ rest → reading.word ≡ word
read_word board h r reading word rest valid at named =
    let there = master_there board r at.op at.is_op in
    let ends = read_ends board h r reading valid at there.0 there.1 in
    let words = words_end board r at.op there.0 at.is_op there.1 at.some.on at.some.place ends in
    at.some.here.word ∙ sym (first_word at.some.place (request_on at.op at.some.on) (slice_get board.targets at.some.place) word rest (sym words ∙ named))
