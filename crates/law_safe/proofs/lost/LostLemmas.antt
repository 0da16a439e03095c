-- A write that is said to be lost names no word, so it lands in none; and a read or a poll that is said to read nowhere
-- names none, so it reads none.
use Rattle.std.proofs.Common.{◌≡◌, Bool, true, false, cond, List, [], ◌∷◌, Option, Some, None, Contains, refl, subst, arith, slice_get, ⊎_elim}
use Rattle.std.specs.List.{list_any}
use Rattle.pci_command.specs.declared.phases.Phase.{Phase}
use Rattle.pci_command.specs.declared.op_id.OpId.{OpId}
use Rattle.board_model.specs.declared.op.Op.{Op}
use Rattle.board_model.specs.declared.op.Op.TheVariants.{Read, Write, CfgRead, CfgWrite, Poll}
use Rattle.board_model.specs.declared.board.Board.{Board}
use Rattle.board_model.specs.Requests.{op_of}
use Rattle.board_model.specs.Ways.{Dword}
use Rattle.board_model.specs.Valid.{IsValid}
use Rattle.history_model.specs.declared.event.Event.{Event}
use Rattle.history_model.specs.Words.{Landing, landed}
use Rattle.history_model.specs.Knowledge.{is_landing_of, is_write, words_named}
use Rattle.history_model.specs.Runs.{Run}
use Rattle.list_facts.proofs.AnyLemmas.{any_some}
use Rattle.list_facts.proofs.EachLemmas.{Each-find}
use Rattle.list_facts.proofs.FindLemmas.{find_passes}
use Rattle.history_model.proofs.facts.RequestLemmas.{same_op_true}
use Rattle.safe_model.specs.Raisers.{phases_to}
use Rattle.safe_model.specs.Clocks.{Table}
use Rattle.safe_model.specs.largest.Tests.{is_reached, Wish, wish_of, is_told, raisers}
use Rattle.safe_model.specs.said.Said.{vain, loose, lost, nowhere, owner_of, first_beside, said_beside, said_of_read, said_of_write, said_of_poll, said_as, said_of}
use Rattle.law_safe.proofs.before.WrittenLemmas.{Written, written}
use Rattle.law_safe.proofs.before.LastLemmas.{names_word}
use Rattle.law_safe.proofs.said.SaidLemmas.{nowhere_is, nowhere_or_loose}

-- What is said to be lost names no word.

module _ (board : Board) (table : Table) (w : OpId) (aborted : Bool) where
  beside_lost : (here : Dword) (found : Option OpId) → said_beside board table here w found ≡ lost aborted → (X : Type 0) → X
  beside_lost here None e X = cc
  beside_lost here (Some x) e X = cc

  read_lost : (op : Op) (words : List Dword) → said_of_read board table w op words ≡ Some (lost aborted) → (X : Type 0) → X
  read_lost op [] e X =
      let it = nowhere_is (owner_of board w op (slice_get board.masters w.master)) (lost aborted) e in
      let no : lost aborted ≡ nowhere it.0 = it.1 in
      cc
  read_lost op (here ∷ words) e X =
      let same : said_beside board table here w (first_beside board table here w) ≡ lost aborted = cc in
      beside_lost here (first_beside board table here w) same X

  poll_lost : (op : Op) (found : Option Wish) → said_of_poll board table w op found ≡ Some (lost aborted) → (X : Type 0) → X
  poll_lost op None e X =
      ⊎_elim {C = X}
      (λ (no : lost aborted ≡ loose). cc)
      (λ (it : (ends : Bool) × (lost aborted ≡ nowhere ends)). let no : lost aborted ≡ nowhere it.0 = it.1 in cc)
      (nowhere_or_loose (owner_of board w op (slice_get board.masters w.master)) (lost aborted) e)
  poll_lost op (Some wish) e X =
      let some : Bool = list_any (is_reached board table) (raisers board table w wish) in
      let Q : Bool → Type 0 = λ b. cond b None (Some vain) ≡ Some (lost aborted) → X in
      let P : Bool → Type 0 = λ b. cond b (cond some None (Some vain)) (Some loose) ≡ Some (lost aborted) → X in
      (elim (is_told board table w (Some wish)) as P [
        | true ↦ elim some as Q [ true ↦ λ f. cc | false ↦ λ f. cc ]
        | false ↦ λ f. cc
      ]) e

  write_lost : (op : Op) (words : List Dword) → words_named board w ≡ words → said_of_write board w op words ≡ Some (lost aborted) → words_named board w ≡ []
  write_lost op [] is e = is
  write_lost op (here ∷ words) is e = cc

  as_lost : (found : Option Op) → said_as board table w found ≡ Some (lost aborted) → words_named board w ≡ []
  as_lost None e = cc
  as_lost (Some (Read command address)) e = read_lost (Read command address) (words_named board w) e (words_named board w ≡ [])
  as_lost (Some (Write command address phases)) e = write_lost (Write command address phases) (words_named board w) refl e
  as_lost (Some (CfgRead bus device register)) e = read_lost (CfgRead bus device register) (words_named board w) e (words_named board w ≡ [])
  as_lost (Some (CfgWrite bus device register phase)) e = write_lost (CfgWrite bus device register phase) (words_named board w) refl e
  as_lost (Some (Poll space address want tries)) e = poll_lost (Poll space address want tries) (wish_of board w) e (words_named board w ≡ [])

  pub lost_names : said_of board table w ≡ Some (lost aborted) → words_named board w ≡ []
  lost_names e =
      let P : Bool → Type 0 = λ b. cond b (said_as board table w (op_of board w)) None ≡ Some (lost aborted) → words_named board w ≡ [] in
      (elim (is_reached board table w) as P [ true ↦ λ f. as_lost (op_of board w) f | false ↦ λ f. cc ]) e

-- What names no word lands in none.

none_contained : (word : Dword) → Contains [] word → (X : Type 0) → X
none_contained word is X = absurd (let below = is.1 in omega (arith, below))

pub nameless_lands : (board : Board) (h : List Event) (w : OpId) (word : Dword) → IsValid board → Run board h → words_named board w ≡ []
    → list_any (is_landing_of w) (landed board h word) ≡ false
nameless_lands board h w word valid run none =
    let landings : List Landing = landed board h word in
    let P : Bool → Type 0 = λ b. list_any (is_landing_of w) landings ≡ b → b ≡ false in
    (elim (list_any (is_landing_of w) landings) as P [
      | false ↦ λ _. refl
      | true ↦ λ lands.
          let some = any_some (is_landing_of w) landings lands in
          let one : some.0.op ≡ w = same_op_true some.0.op w (find_passes (is_landing_of w) landings some.0 some.1) in
          let is : Written board word some.0 = Each-find (Written board word) (is_landing_of w) landings some.0 (written board valid word h run) some.1 in
          let writes : is_write board w ≡ true = subst (λ o. is_write board o ≡ true) one is.writes in
          let brings : list_any (λ (q : Phase). true) (phases_to board word w) ≡ true =
          subst (λ o. list_any (λ (q : Phase). true) (phases_to board word o) ≡ true) one (is.is_one (λ q. true) refl) in
          let named : Contains (words_named board w) word = names_word board word w writes (λ nothing. (
          let F : List Phase → Type 0 = λ ps. list_any (λ (q : Phase). true) ps ≡ true in
          let here : F [] = subst F nothing brings in
          cc)) in
          none_contained word (subst (λ ws. Contains ws word) none named) (true ≡ false)
    ]) refl

pub lost_lands : (board : Board) (table : Table) (h : List Event) (w : OpId) (aborted : Bool) (word : Dword) → IsValid board → Run board h
    → said_of board table w ≡ Some (lost aborted) → list_any (is_landing_of w) (landed board h word) ≡ false
lost_lands board table h w aborted word valid run said = nameless_lands board h w word valid run (lost_names board table w aborted said)
