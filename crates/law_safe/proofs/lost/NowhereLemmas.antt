-- A read or a poll that is said to read nowhere names no word, so it reads none.
use Rattle.std.proofs.Common.{◌≡◌, ◌≤◌, ℕ, Bool, true, false, not, cond, List, [], ◌∷◌, length, Option, Some, None, refl, sym, ap, subst, ◌∙◌, arith, slice_get}
use Rattle.std.specs.List.{list_any}
use Rattle.pci_command.specs.declared.command.Space.{Space}
use Rattle.pci_command.specs.declared.phases.Phase.{Phase}
use Rattle.pci_command.specs.declared.request.Request.{Request}
use Rattle.pci_command.specs.declared.op_id.OpId.{OpId}
use Rattle.pci_command.specs.Command.{space_of}
use Rattle.board_model.specs.declared.op.Want.{Want}
use Rattle.board_model.specs.declared.agents.Target.{Target as TargetAgent}
use Rattle.board_model.specs.declared.bridge.Place.{Place}
use Rattle.board_model.specs.declared.bridge.Place.TheVariants.{Target, Header, Lane, Nobody}
use Rattle.board_model.specs.declared.op.Op.{Op}
use Rattle.board_model.specs.declared.op.Op.TheVariants.{Read, Write, CfgRead, CfgWrite, Poll}
use Rattle.board_model.specs.declared.board.Board.{Board}
use Rattle.board_model.specs.Requests.{op_of, phases_of, request_on}
use Rattle.board_model.specs.Ways.{Dword, Route, route_of, address_in, aborts_at, dwords_from, dwords_of, words_at, words_by, words_of}
use Rattle.board_model.specs.Valid.{IsValid}
use Rattle.board_model.proofs.Laws.{op_phases, op_formed}
use Rattle.history_model.specs.declared.event.Event.{Event}
use Rattle.history_model.specs.Knowledge.{Reading, last_reading, words_on, words_named}
use Rattle.history_model.specs.Runs.{Run}
use Rattle.law_fresh.proofs.reads.Laws.{read_or_not, no_reading, HasWord, Known-run, word_at, word_by, word_of}
use Rattle.safe_model.specs.Raisers.{phases_in}
use Rattle.safe_model.specs.Clocks.{Table, at_place}
use Rattle.safe_model.specs.largest.Tests.{is_reached, Wish, wish_in, wish_of, is_told, raisers}
use Rattle.safe_model.specs.said.Said.{vain, loose, nowhere, said_lost, owner_of, first_beside, said_beside, said_of_read, said_of_write, said_of_poll, said_as, said_of}
use Rattle.safe_model.proofs.said.ApartLemmas.{InRow, in_row}
use Rattle.law_safe.proofs.said.SaidLemmas.{row_single, first_words}

-- What is said to read nowhere names no word.

module _ (board : Board) (table : Table) (r : OpId) (aborted : Bool) where
  beside_nowhere : (here : Dword) (found : Option OpId) → said_beside board table here r found ≡ nowhere aborted → (X : Type 0) → X
  beside_nowhere here None e X = cc
  beside_nowhere here (Some x) e X = cc

  read_nowhere : (op : Op) (words : List Dword) → words_named board r ≡ words → said_of_read board table r op words ≡ Some (nowhere aborted) → words_named board r ≡ []
  read_nowhere op [] is e = is
  read_nowhere op (here ∷ words) is e =
      let same : said_beside board table here r (first_beside board table here r) ≡ nowhere aborted = cc in
      beside_nowhere here (first_beside board table here r) same (words_named board r ≡ [])

  lost_nowhere : (place : Place) → said_lost place ≡ Some (nowhere aborted) → (X : Type 0) → X
  lost_nowhere (Target target) e X = cc
  lost_nowhere (Header bus) e X = cc
  lost_nowhere (Lane lane) e X = cc
  lost_nowhere Nobody e X = cc

  write_nowhere : (op : Op) (words : List Dword) → said_of_write board r op words ≡ Some (nowhere aborted) → (X : Type 0) → X
  write_nowhere op [] e X = lost_nowhere (owner_of board r op (slice_get board.masters r.master)) e X
  write_nowhere op (here ∷ words) e X = cc

  poll_some : (op : Op) (wish : Wish) → said_of_poll board table r op (Some wish) ≡ Some (nowhere aborted) → (X : Type 0) → X
  poll_some op wish e X =
      let some : Bool = list_any (is_reached board table) (raisers board table r wish) in
      let Q : Bool → Type 0 = λ b. cond b None (Some vain) ≡ Some (nowhere aborted) → X in
      let P : Bool → Type 0 = λ b. cond b (cond some None (Some vain)) (Some loose) ≡ Some (nowhere aborted) → X in
      (elim (is_told board table r (Some wish)) as P [
        | true ↦ elim some as Q [ true ↦ λ f. cc | false ↦ λ f. cc ]
        | false ↦ λ f. cc
      ]) e

  -- a poll that has a word has a wish
  poll_nowhere : (space : Space) (address : ℕ) (want : Want) (tries : ℕ) → op_of board r ≡ Some (Poll space address want tries) → (found : Option Wish) → wish_of board r ≡ found
      → said_of_poll board table r (Poll space address want tries) found ≡ Some (nowhere aborted) → words_named board r ≡ []
  poll_nowhere space address want tries is_op (Some wish) is e = poll_some (Poll space address want tries) wish e (words_named board r ≡ [])
  poll_nowhere space address want tries is_op None is e = by_words (words_named board r) refl
    where
      by_words : (words : List Dword) → words_named board r ≡ words → words_named board r ≡ []
      by_words [] named = named
      by_words (word ∷ words) named =
          let phase : Phase = record { value = 0; enables = 15 } in
          let row : InRow (word ∷ words) (phase ∷ []) = subst (InRow (word ∷ words)) (ap phases_in is_op) (subst (λ ws. InRow ws (phases_in (op_of board r))) named (in_row board r)) in
          let one : words_named board r ≡ word ∷ [] = named ∙ ap (λ ws. word ∷ ws) (row_single phase word words row) in
          let wish : Wish = record { word = word; want = want } in
          let there : wish_of board r ≡ Some wish = ap (λ ws. wish_in ws (op_of board r)) one ∙ ap (wish_in (word ∷ [])) is_op in
          let no : ◌≡◌ {A = Option Wish} (Some wish) None = sym there ∙ is in
          cc

  as_nowhere : (found : Option Op) → op_of board r ≡ found → said_as board table r found ≡ Some (nowhere aborted) → words_named board r ≡ []
  as_nowhere None is e = cc
  as_nowhere (Some (Read command address)) is e = read_nowhere (Read command address) (words_named board r) refl e
  as_nowhere (Some (Write command address phases)) is e = write_nowhere (Write command address phases) (words_named board r) e (words_named board r ≡ [])
  as_nowhere (Some (CfgRead bus device register)) is e = read_nowhere (CfgRead bus device register) (words_named board r) refl e
  as_nowhere (Some (CfgWrite bus device register phase)) is e = write_nowhere (CfgWrite bus device register phase) (words_named board r) e (words_named board r ≡ [])
  as_nowhere (Some (Poll space address want tries)) is e = poll_nowhere space address want tries is (wish_of board r) refl e

  nowhere_names : said_of board table r ≡ Some (nowhere aborted) → words_named board r ≡ []
  nowhere_names e =
      let P : Bool → Type 0 = λ b. cond b (said_as board table r (op_of board r)) None ≡ Some (nowhere aborted) → words_named board r ≡ [] in
      (elim (is_reached board table r) as P [ true ↦ λ f. as_nowhere (op_of board r) refl f | false ↦ λ f. cc ]) e

-- What names no word reads none.

words_at_some : (place : ℕ) (request : Request) (found : Option TargetAgent) → 1 ≤ length request.phases → word_at request found ≡ true
    → words_at place request found ≡ [] → (X : Type 0) → X
words_at_some place request None some has none X = cc
words_at_some place request (Some target) some has none X =
    let space : Space = space_of request.command in
    let address : ℕ = address_in space request.address in
    let Q : List Phase → Type 0 = λ phases. 1 ≤ length phases → dwords_from place space address phases ≡ [] → X in
    let P : Bool → Type 0 = λ b. not b ≡ true → cond b [] (dwords_of place request) ≡ [] → X in
    (elim (aborts_at target request) as P [
      | true ↦ λ e _. cc
      | false ↦ λ _. (elim request.phases as Q [ [] ↦ λ few _. absurd (omega (arith, few)) | phase ∷ phases ↦ λ _ e. cc ]) some
    ]) has none

words_by_some : (board : Board) (request : Request) (place : Place) → 1 ≤ length request.phases → word_by board request place ≡ true
    → words_by board request place ≡ [] → (X : Type 0) → X
words_by_some board request (Target place) some has none X = words_at_some place request (slice_get board.targets place) some has none X
words_by_some board request (Header bus) some has none X = cc
words_by_some board request (Lane lane) some has none X = cc
words_by_some board request Nobody some has none X = cc

nameless_reads : (board : Board) (h : List Event) (r : OpId) → IsValid board → Run board h → words_named board r ≡ [] → last_reading board r h ≡ None
nameless_reads board h r valid run none =
    read_or_not board (last_reading board r h ≡ None) r
    (λ other. no_reading board r h other run)
    (λ op is_op read master is_master.
    let known = Known-run board valid r op is_op read master is_master h run in
    let route : Route = route_of board op master.bus in
    let named : words_named board r ≡ words_of board op master.bus = ap (λ found. words_on board found (slice_get board.masters r.master)) is_op ∙ ap (words_on board (Some op)) is_master in
    let some : 1 ≤ length (phases_of op) = (op_phases op (op_formed board r op valid.well_formed is_op)).from in
    let P : Option Reading → Type 0 = λ last. last_reading board r h ≡ last → HasWord (word_of board op master.bus) last → last ≡ None in
    (elim (last_reading board r h) as P [
      | None ↦ λ _ _. refl
      | Some reading ↦ λ _ has. words_by_some board (request_on op route.bus) route.owner some has (sym named ∙ none) (Some reading ≡ None)
    ]) refl known.has)

pub nowhere_reads : (board : Board) (table : Table) (h : List Event) (r : OpId) (aborted : Bool) → IsValid board → Run board h
    → said_of board table (at_place r.master r.index) ≡ Some (nowhere aborted) → last_reading board r h ≡ None
nowhere_reads board table h r aborted valid run said =
    let none : words_named board (at_place r.master r.index) ≡ [] = nowhere_names board table (at_place r.master r.index) aborted said in
    let P : Option Op → Type 0 = λ found. op_of board r ≡ found → words_named board r ≡ [] in
    let nameless : words_named board r ≡ [] = (elim (op_of board r) as P [
      | None ↦ λ is. ap (λ found. words_on board found (slice_get board.masters r.master)) is
      | Some op ↦ λ is. first_words board r op is ∙ none
    ]) refl in
    nameless_reads board h r valid run nameless
