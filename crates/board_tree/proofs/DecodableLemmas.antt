-- A board in form whose buses are there is decodable.
use Rattle.std.proofs.Common.{◌≡◌, ◌<◌, true, false, List, [], ◌∷◌, arith, All}
use Rattle.std.specs.List.{list_all}
use Rattle.std.proofs.lemmas.Bool.{and_parts}
use Rattle.std.proofs.lemmas.List.Elements.{All-cons}
use Rattle.board_model.specs.declared.agents.Target.{Target}
use Rattle.board_model.specs.declared.board.Board.{Board}
use Rattle.board_model.specs.WellFormed.{is_well_formed_target, is_well_formed}
use Rattle.board_model.specs.Valid.{lacks_a_bus, IsValid}
use Rattle.board_tree.specs.Decodable.{IsDecodable}
use Rattle.board_model.proofs.FewLemmas.{few_targets}
use Rattle.board_model.proofs.Laws.{WellFormed-parts, Target-parts}

bursts_taken : (targets : List Target) → list_all is_well_formed_target targets ≡ true → All (λ (target : Target). 0 < target.burst) targets
bursts_taken [] formed = λ k d within. absurd (omega arith)
bursts_taken (target ∷ targets) formed =
    All-cons (λ (target : Target). 0 < target.burst) target targets (Target-parts target (and_parts _ _ formed).0).burst.from
    (bursts_taken targets (and_parts _ _ formed).1)

pub IsDecodable-formed : (board : Board) → is_well_formed board ≡ true → lacks_a_bus board ≡ false → IsDecodable board
IsDecodable-formed board formed buses =
    let form = WellFormed-parts board formed in
    record {
      formed = formed;
      few_bridges = form.bridges_fit;
      few_targets = omega (arith, form.bridges_fit, few_targets board form.few buses);
      bursts = bursts_taken board.targets form.targets;
    }

pub IsDecodable-valid : (board : Board) → IsValid board → IsDecodable board
IsDecodable-valid board valid = IsDecodable-formed board valid.well_formed valid.buses
