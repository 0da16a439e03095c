-- The masters of operations of a valid board have places.
use Rattle.std.proofs.Common.{◌≡◌, ℕ, zero, suc, ◌<◌, Option, Some, None, is_some, sym, slice_get, true, List, [], ◌∷◌, length, refl, subst, arith}
use Rattle.pci_command.specs.declared.op_id.OpId.{OpId}
use Rattle.board_model.specs.declared.op.Op.{Op}
use Rattle.board_model.specs.declared.board.Board.{Board}
use Rattle.board_model.specs.Requests.{op_of}
use Rattle.board_model.specs.Valid.{IsValid}
use Rattle.board_model.proofs.form_laws.Laws.{few_masters}
use Rattle.history_model.specs.declared.event.Event.{Event}
use Rattle.history_model.specs.declared.rule.Rule.TheVariants.{Tagged}
use Rattle.history_model.specs.Program.{Ending, ended, turn_of}
use Rattle.history_model.specs.Answers.{is_turn}
use Rattle.history_model.specs.Runs.{Run}
use Rattle.history_model.proofs.facts.RequestLemmas.{same_op_self}
use Rattle.history_model.proofs.facts.TurnLemmas.{turn_is_there}
use Rattle.law_fresh.proofs.reads.Laws.{master_there}
use Rattle.law_fresh.proofs.Laws.{ends_turn}

-- the number of a master that is there
below : {X : Type 0} (xs : List X) (i : ℕ) (x : X) → slice_get xs i ≡ Some x → i < length xs
below [] i x is = cc
below (y ∷ xs) zero x is = omega arith
below (y ∷ xs) (suc i) x is = let rest = below xs i x is in omega (arith, rest)

pub master_number : (board : Board) (o : OpId) → is_some (op_of board o) ≡ true → o.master < length board.masters
master_number board o there =
    let P : Option Op → Type 0 = λ found. op_of board o ≡ found → is_some found ≡ true → o.master < length board.masters in
    (elim (op_of board o) as P [
      | None ↦ λ _ f. cc
      | Some op ↦ λ is _. let master = master_there board o op is in below board.masters o.master master.0 master.1
    ]) refl there

pub has_place : (board : Board) (o : OpId) → IsValid board → is_some (op_of board o) ≡ true → o.master < 256
has_place board o valid there = let number = master_number board o there in omega (arith, number, few_masters board valid)

-- an operation that an event ends is there
pub ended_there : (board : Board) (e : Event) (h : List Event) (ending : Ending) → Run board (e ∷ h) → ended e ≡ Some ending → is_some (op_of board ending.op) ≡ true
ended_there board e h ending run is =
    let turn : turn_of board h ending.op.master ≡ Some ending.op = ends_turn Tagged board e h ending run is in
    let self : is_turn ending.op (Some ending.op) ≡ true = same_op_self ending.op in
    turn_is_there board h ending.op (subst (λ found. is_turn ending.op found ≡ true) (sym turn) self)
