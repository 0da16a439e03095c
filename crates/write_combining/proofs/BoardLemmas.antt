-- What joining the programs of a valid board keeps.
use Rattle.std.proofs.Common.{◌≡◌, ℕ, List, [], ◌∷◌, map, true, refl, Some}
use Rattle.std.specs.List.{list_all, AllZip}
use Rattle.std.proofs.lemmas.Bool.{and_parts}
use Rattle.board_model.specs.declared.agents.Master.{Master}
use Rattle.board_model.specs.declared.op.Op.{Op}
use Rattle.board_model.specs.declared.board.Board.{Board}
use Rattle.board_model.specs.WellFormed.{is_well_formed_op, is_well_formed_master}
use Rattle.board_model.specs.Valid.{IsValid}
use Rattle.board_model.proofs.Laws.{Master-parts, WellFormed-parts}
use Rattle.write_combining.specs.Bytes.{others_of, run_at, dwords_of}
use Rattle.write_combining.specs.Combined.{combined_ops, combined_master, combined}
use Rattle.write_combining.specs.Kept.{KeepsPair, KeepsBytes, KeepsProgram, KeepsMaster, KeepsBoard}
use Rattle.write_combining.specs.Joins.{join_of}
use Rattle.write_combining.proofs.JoinLemmas.{Joins-some}
use Rattle.write_combining.proofs.PairLemmas.{Moves-joined}
use Rattle.write_combining.proofs.KeptLemmas.{KeepsBytes-moves, Moves-self}
use Rattle.write_combining.proofs.RunLemmas.{others_from, Same-from}
use Rattle.write_combining.proofs.NeighbourLemmas.{IsJoined-ops}
use Rattle.write_combining.proofs.ValidLemmas.{ValidCombined-valid}

others_same : (board : Board) (ops : List Op) → others_of (combined_ops board ops) ≡ others_of ops
others_same board [] = refl
others_same board (op ∷ ops) = others_from board op ops

writes_same : (board : Board) (ops : List Op) (k : ℕ) → KeepsBytes (dwords_of (run_at k ops)) (dwords_of (run_at k (combined_ops board ops)))
writes_same board [] k = KeepsBytes-moves [] [] (Moves-self [])
writes_same board (op ∷ ops) k = KeepsBytes-moves (dwords_of (run_at k (op ∷ ops))) (dwords_of (run_at k (combined_ops board (op ∷ ops)))) (Same-from board op ops k)

pub KeepsProgram-ops : (board : Board) (ops : List Op) → list_all is_well_formed_op ops ≡ true → KeepsProgram board ops (combined_ops board ops)
KeepsProgram-ops board ops all =
    record { others = others_same board ops; writes = writes_same board ops; joined = IsJoined-ops board ops all }

KeepsMasters-all : (board : Board) (masters : List Master) → list_all is_well_formed_master masters ≡ true → AllZip (KeepsMaster board) masters (map (combined_master board) masters)
KeepsMasters-all board [] all = tt
KeepsMasters-all board (master ∷ masters) all =
    let parts = and_parts (is_well_formed_master master) (list_all is_well_formed_master masters) all in
    (record { name = refl; bus = refl; program = KeepsProgram-ops board master.ops (Master-parts master parts.0).ops }, KeepsMasters-all board masters parts.1)

pub KeepsBoard-valid : (board : Board) → IsValid board → KeepsBoard board (combined board)
KeepsBoard-valid board valid =
    let both = ValidCombined-valid board valid in
    record {
      bridges = refl;
      targets = refl;
      discards = refl;
      drops = refl;
      masters = KeepsMasters-all board board.masters (WellFormed-parts board valid.well_formed).masters;
      valid = both.valid;
      bound = both.bound;
    }

pub KeepsPair-joined : (board : Board) (p q joined : Op) → join_of board p q ≡ Some joined → KeepsPair p q joined
KeepsPair-joined board p q joined some =
    KeepsBytes-moves (dwords_of (p ∷ q ∷ [])) (dwords_of (joined ∷ [])) (Moves-joined board p q joined [] (Joins-some board p q joined some))
