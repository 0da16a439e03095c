-- A board that was joined is joined to itself.
use Rattle.std.proofs.Common.{◌≡◌, true, Option, List, [], ◌∷◌, map, Some, None, refl, ap, ◌∙◌}
use Rattle.std.specs.List.{list_all}
use Rattle.std.proofs.lemmas.Bool.{and_parts}
use Rattle.board_model.specs.declared.agents.Master.{Master}
use Rattle.board_model.specs.declared.op.Op.{Op}
use Rattle.board_model.specs.declared.board.Board.{Board}
use Rattle.board_model.specs.WellFormed.{is_well_formed_master}
use Rattle.board_model.specs.Valid.{IsValid}
use Rattle.board_model.proofs.Laws.{Master-parts, WellFormed-parts}
use Rattle.write_combining.specs.Joins.{join_of}
use Rattle.write_combining.specs.Combined.{taken_in, combined_from, combined_ops, combined_master, combined}
use Rattle.write_combining.proofs.NeighbourLemmas.{NoneJoin, NoneJoin-ops}

-- where no two neighbours can be joined, nothing is
from_none : (board : Board) (p : Op) (ops : List Op) → NoneJoin board (p ∷ ops) → combined_from board p ops ≡ p ∷ ops
unfolding NoneJoin
from_none board p [] none = refl
from_none board p (q ∷ ops) none =
    ap (taken_in (λ next. combined_from board next ops) p q) none.0 ∙ ap (λ xs. p ∷ xs) (from_none board q ops none.1)

ops_none : (board : Board) (ops : List Op) → NoneJoin board ops → combined_ops board ops ≡ ops
ops_none board [] none = refl
ops_none board (op ∷ ops) none = from_none board op ops none

from_same : (board : Board) (hand : Op) (ops : List Op) → combined_from (combined board) hand ops ≡ combined_from board hand ops
from_same board hand [] = refl
from_same board hand (op ∷ ops) =
    let P : Option Op → Type 0 = λ found. taken_in (λ next. combined_from (combined board) next ops) hand op found ≡ taken_in (λ next. combined_from board next ops) hand op found in
    elim (join_of board hand op) as P [
      | None ↦ ap (λ xs. hand ∷ xs) (from_same board op ops)
      | Some joined ↦ from_same board joined ops
    ]

ops_same : (board : Board) (ops : List Op) → combined_ops (combined board) ops ≡ combined_ops board ops
ops_same board [] = refl
ops_same board (op ∷ ops) = from_same board op ops

masters_twice : (board : Board) (masters : List Master) → list_all is_well_formed_master masters ≡ true
    → map (combined_master (combined board)) (map (combined_master board) masters) ≡ map (combined_master board) masters
masters_twice board [] all = refl
masters_twice board (master ∷ masters) all =
    let parts = and_parts (is_well_formed_master master) (list_all is_well_formed_master masters) all in
    let formed = (Master-parts master parts.0).ops in
    let ops : combined_ops (combined board) (combined_ops board master.ops) ≡ combined_ops board master.ops =
    ops_same board (combined_ops board master.ops) ∙ ops_none board (combined_ops board master.ops) (NoneJoin-ops board master.ops formed) in
    let here : combined_master (combined board) (combined_master board master) ≡ combined_master board master =
    ap (λ xs. record master { ops = xs }) ops in
    let later = masters_twice board masters parts.1 in
    ap (λ m. m ∷ map (combined_master (combined board)) (map (combined_master board) masters)) here ∙ ap (λ ms. combined_master board master ∷ ms) later

pub combined_twice : (board : Board) → IsValid board → combined (combined board) ≡ combined board
combined_twice board valid =
    ap (λ ms. record board { masters = ms }) (masters_twice board board.masters (WellFormed-parts board valid.well_formed).masters)
