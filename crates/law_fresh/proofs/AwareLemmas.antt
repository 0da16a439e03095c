-- What an operation that began knows of a write it knows ever after, and nothing more.
use Rattle.std.proofs.Common.{◌≡◌, ℕ, Bool, true, false, ◌&&◌, ◌==◌, cond, eqb-true, List, ◌∷◌, Option, Some, None, is_some, refl, sym, subst, ◌∙◌}
use Rattle.pci_command.specs.declared.op_id.OpId.{OpId}
use Rattle.board_model.specs.declared.board.Board.{Board}
use Rattle.history_model.specs.declared.event.Event.{Event}
use Rattle.history_model.specs.declared.rule.Rule.TheVariants.{Tagged}
use Rattle.history_model.specs.Program.{Ending, ended, turn_of}
use Rattle.history_model.specs.Knowledge.{stands_after}
use Rattle.history_model.specs.Runs.{Run}
use Rattle.std.proofs.lemmas.Bool.{and_parts}
use Rattle.law_fresh.specs.Aware.{Aware, is_behind, knows, brings, first_known, taught_after, aware_of}
use Rattle.law_fresh.proofs.BehindLemmas.{Begun, ends_turn}

-- what an ending brings to a master
pub record Brought (master : ℕ) (w : OpId) (taught : OpId → Bool) (ending : Ending) (first : OpId) : Type 0 where
  pub is_first : first ≡ ending.op
  pub of_master : ending.op.master ≡ master
  pub brings_it : brings w (taught ending.op) ending ≡ true

-- where a master knew nothing of the write, and an ending has it know, it is one of these
pub first_brought : (master : ℕ) (w : OpId) (taught : OpId → Bool) (ending : Ending) (first : OpId) → first_known None master w taught (Some ending) ≡ Some first → Brought master w taught ending first
first_brought master w taught ending first is =
    let test : Bool = brings w (taught ending.op) ending in
    let P : Bool → Type 0 = λ b. (ending.op.master == master && test) ≡ b → cond b (Some ending.op) None ≡ Some first → Brought master w taught ending first in
    (elim (ending.op.master == master && test) as P [
      | true ↦ λ both e.
          let parts = and_parts (ending.op.master == master) test both in
          let same : ending.op ≡ first = cc in
          record { is_first = sym same; of_master = eqb-true ending.op.master master parts.0; brings_it = parts.1 }
      | false ↦ λ _ e. cc
    ]) refl is

-- where an operation that began knows of the write after an event, it knew before
pub knew : (board : Board) (w : OpId) (e : Event) (h : List Event) (q : OpId) → Run board (e ∷ h) → Begun board h q → knows (aware_of board w (e ∷ h)) q ≡ true → knows (aware_of board w h) q ≡ true
knew board w e h q run begun is =
    let aware : Aware = aware_of board w h in
    let taught : OpId → Bool = taught_after board w aware h e in
    let P : Option OpId → Type 0 = λ since. is_behind (first_known since q.master w taught (ended e)) q ≡ true → is_behind since q ≡ true in
    let Q : Option Ending → Type 0 = λ ending. ended e ≡ ending → is_behind (first_known None q.master w taught ending) q ≡ true → false ≡ true in
    let R : Ending → Option OpId → Type 0 = λ ending first. first_known None q.master w taught (Some ending) ≡ first → ended e ≡ Some ending → is_behind first q ≡ true → false ≡ true in
    (elim (aware.since q.master) as P [
      | None ↦ λ now. (elim (ended e) as Q [
        | None ↦ λ _ f. f
        | Some ending ↦ λ ends f. (elim (first_known None q.master w taught (Some ending)) as (R ending) [
          | None ↦ λ _ _ g. g
          | Some first ↦ λ some ends g.
              let brought = first_brought q.master w taught ending first some in
              let turn : turn_of board h q.master ≡ Some ending.op = subst (λ m. turn_of board h m ≡ Some ending.op) brought.of_master (ends_turn Tagged board e h ending run ends) in
              let none : stands_after ending.op q ≡ false = begun ending.op turn in
              let behind : stands_after ending.op q ≡ true = subst (λ p. stands_after p q ≡ true) brought.is_first g in
              sym none ∙ behind
        ]) refl ends f
      ]) refl now
      | Some p ↦ λ now. now
    ]) is

-- what a master knows it knows ever after
pub since_kept : (board : Board) (w : OpId) (e : Event) (h : List Event) (master : ℕ) (p : OpId) → (aware_of board w h).since master ≡ Some p → (aware_of board w (e ∷ h)).since master ≡ Some p
since_kept board w e h master p is = rw is refl

pub knows_kept : (board : Board) (w : OpId) (e : Event) (h : List Event) (q : OpId) → knows (aware_of board w h) q ≡ true → knows (aware_of board w (e ∷ h)) q ≡ true
knows_kept board w e h q is =
    let aware : Aware = aware_of board w h in
    let taught : OpId → Bool = taught_after board w aware h e in
    let P : Option OpId → Type 0 = λ since. is_behind since q ≡ true → is_behind (first_known since q.master w taught (ended e)) q ≡ true in
    (elim (aware.since q.master) as P [ None ↦ λ f. cc | Some p ↦ λ f. f ]) is

-- an operation that knows has a master that knows
pub master_knows : (aware : Aware) (q : OpId) → knows aware q ≡ true → is_some (aware.since q.master) ≡ true
master_knows aware q is =
    let P : Option OpId → Type 0 = λ since. is_behind since q ≡ true → is_some since ≡ true in
    (elim (aware.since q.master) as P [ None ↦ λ f. cc | Some p ↦ λ f. refl ]) is
