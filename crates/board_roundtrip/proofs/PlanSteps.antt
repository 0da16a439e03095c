-- The lines of discards and drops.
use Rattle.std.proofs.Common.{◌≡◌, Bool, false, [], ◌∷◌, ◌++◌, length, Ok, refl, ap, ◌∙◌, arith}
use Rattle.std.specs.Prelude.{codes, nat_le}
use Rattle.std.specs.List.{AllByRecursion}
use Rattle.std.proofs.lemmas.Bool.{lt-leb}
use Rattle.board_model.specs.Limits.{most_plans}
use Rattle.board_model.specs.declared.board.Board.{Board}
use Rattle.board_model.specs.WellFormed.{is_well_formed_plan, IsWellFormed}
use Rattle.board_printer.specs.Boards.{planned_line}
use Rattle.board_statements.specs.declared.statement.Statement.TheVariants.{Discards, Drops}
use Rattle.board_model.specs.Fits.{PlannedFits}
use Rattle.board_roundtrip.proofs.lines.Laws.{discard_law, drop_law}
use Rattle.board_parser.specs.draft.Drafts.{board_of, draft_of}
use Rattle.board_parser.specs.draft.Plans.{add_discard, add_drop}
use Rattle.board_roundtrip.proofs.LeadLemmas.{Steps, leads-line}
use Rattle.board_roundtrip.proofs.PlaceLemmas.{each_of, all_of, length_of}
use Rattle.board_roundtrip.proofs.StateLemmas.{so_far, Of, skip}

pub discard_step : (wide : Bool) (board : Board) → IsWellFormed board → AllByRecursion PlannedFits board.discards
    → Steps (λ planned. planned_line (codes "discard") planned ∷ []) (λ done. Of wide (so_far board.bridges board.targets board.masters done [])) board.discards
discard_step wide board parts fits done planned rest is =
    let before = so_far board.bridges board.targets board.masters done [] in
    let after = so_far board.bridges board.targets board.masters (done ++ planned ∷ []) [] in
    let all = length_of done planned rest board.discards is in
    let most = parts.discards_fit in
    let few : nat_le most_plans (length done) ≡ false = lt-leb _ _ (omega (arith, all, most)) in
    let added : add_discard wide before planned ≡ Ok (draft_of wide after) = skip _ _ _ few in
    leads-line wide (planned_line (codes "discard") planned) (Discards planned) (Of wide before) (Of wide after)
    (discard_law wide planned (each_of PlannedFits done planned rest board.discards is fits) (all_of is_well_formed_plan done planned rest board.discards is parts.discards))
    (λ draft of. record {
      next = draft_of wide after;
      width = of.width;
      is = ap (λ (w : Bool). add_discard w (board_of draft) planned) of.width ∙ ap (λ (b : Board). add_discard wide b planned) of.is ∙ added;
      holds = record { width = refl; is = refl };
    })

pub drop_step : (wide : Bool) (board : Board) → IsWellFormed board → AllByRecursion PlannedFits board.drops
    → Steps (λ planned. planned_line (codes "drop") planned ∷ []) (λ done. Of wide (so_far board.bridges board.targets board.masters board.discards done)) board.drops
drop_step wide board parts fits done planned rest is =
    let before = so_far board.bridges board.targets board.masters board.discards done in
    let after = so_far board.bridges board.targets board.masters board.discards (done ++ planned ∷ []) in
    let all = length_of done planned rest board.drops is in
    let most = parts.drops_fit in
    let few : nat_le most_plans (length done) ≡ false = lt-leb _ _ (omega (arith, all, most)) in
    let added : add_drop wide before planned ≡ Ok (draft_of wide after) = skip _ _ _ few in
    leads-line wide (planned_line (codes "drop") planned) (Drops planned) (Of wide before) (Of wide after)
    (drop_law wide planned (each_of PlannedFits done planned rest board.drops is fits) (all_of is_well_formed_plan done planned rest board.drops is parts.drops))
    (λ draft of. record {
      next = draft_of wide after;
      width = of.width;
      is = ap (λ (w : Bool). add_drop w (board_of draft) planned) of.width ∙ ap (λ (b : Board). add_drop wide b planned) of.is ∙ added;
      holds = record { width = refl; is = refl };
    })
