-- The lines of bridges lead from no bridge to all of them.
use Rattle.std.proofs.Common.{◌≡◌, ℕ, ◌+◌, ◌^◌, ◌≤◌, Bool, true, false, ◌||◌, [], ◌∷◌, ◌++◌, length, Option, Some, None, Ok, refl, ap, ◌∙◌, arith}
use Rattle.std.specs.Prelude.{◌==◌, nat_le}
use Rattle.std.specs.List.{list_all, list_any, AllByRecursion}
use Rattle.std.proofs.lemmas.Bool.{and_from, or_from, not_from_true, lt-leb, le-leb, leb-true, eq-eqb}
use Rattle.board_model.specs.Limits.{most_bridges, most_children}
use Rattle.board_model.specs.declared.bridge.Window.{Window}
use Rattle.board_model.specs.declared.bridge.Bridge.{Bridge}
use Rattle.board_model.specs.declared.board.Board.{Board}
use Rattle.board_model.specs.WellFormed.{is_window, is_well_formed_bridge, has_bus, children_on, IsWellFormed}
use Rattle.board_printer.specs.Bridges.{bridge_line}
use Rattle.board_printer.specs.Boards.{is_short_bridge}
use Rattle.board_statements.specs.declared.statement.Statement.TheVariants.{NewBridge}
use Rattle.board_model.specs.Fits.{BridgeFits}
use Rattle.board_roundtrip.proofs.lines.Laws.{bridge_law}
use Rattle.board_parser.specs.draft.Drafts.{board_of, draft_of}
use Rattle.board_parser.specs.draft.Bridges.{is_whole, are_windows_whole, is_ordered, are_windows_ordered, add_bridge}
use Rattle.board_roundtrip.proofs.LeadLemmas.{Steps, leads-line}
use Rattle.board_roundtrip.proofs.PlaceLemmas.{each_of, all_of, may_of, length_of, count_of, numbered_of}
use Rattle.board_roundtrip.proofs.StateLemmas.{so_far, Of, skip}
use Rattle.board_model.proofs.Laws.{Window-parts, Bridge-parts}

window_by : (unit end : ℕ) (window : Option Window) → is_window unit end window ≡ true → (is_whole unit window ≡ true) × (is_ordered window ≡ true)
window_by unit end None h = (refl, refl)
window_by unit end (Some window) h =
    let is = Window-parts unit end window h in
    (and_from _ _ is.base is.limit, le-leb _ _ is.ordered)

bridge_adds : (wide : Bool) (board : Board) (bridge : Bridge) → is_well_formed_bridge bridge ≡ true → list_any (has_bus bridge.bus) board.bridges ≡ false
    → length board.bridges + 1 ≤ most_bridges → children_on board bridge.parent + 1 ≤ most_children → add_bridge wide board bridge ≡ Ok (draft_of wide (record board { bridges = board.bridges ++ bridge ∷ [] }))
bridge_adds wide board bridge formed apart fewer room =
    let f = Bridge-parts bridge formed in
    let mem = window_by (2 ^ 20) (2 ^ 32) bridge.mem f.mem in
    let pref = window_by (2 ^ 20) (2 ^ 64) bridge.pref f.pref in
    let io = window_by (2 ^ 12) (2 ^ 32) bridge.io f.io in
    let whole : are_windows_whole bridge ≡ true = and_from _ _ (and_from _ _ mem.0 pref.0) io.0 in
    let ordered : are_windows_ordered bridge ≡ true = and_from _ _ (and_from _ _ mem.1 pref.1) io.1 in
    let few : nat_le most_bridges (length board.bridges) ≡ false = lt-leb _ _ (omega arith) in
    let free : nat_le most_children (children_on board bridge.parent) ≡ false = lt-leb _ _ (omega arith) in
    skip _ _ _ (not_from_true _ whole) ∙ skip _ _ _ (not_from_true _ ordered) ∙ skip _ _ _ apart ∙ skip _ _ _ (or_from _ _ few free)

pub bridge_step : (wide : Bool) (board : Board) → IsWellFormed board → AllByRecursion BridgeFits board.bridges → (wide || list_all is_short_bridge board.bridges) ≡ true
    → Steps (λ bridge. bridge_line bridge ∷ []) (λ done. Of wide (so_far done [] [] [] [])) board.bridges
bridge_step wide board parts fits may done bridge rest is =
    let formed = all_of is_well_formed_bridge done bridge rest board.bridges is parts.bridges in
    let before = so_far done [] [] [] [] in
    let after = so_far (done ++ bridge ∷ []) [] [] [] [] in
    let all = length_of done bridge rest board.bridges is in
    let most = parts.bridges_fit in
    let below = leb-true _ _ (all_of (λ (b : Bridge). nat_le (children_on board b.parent) most_children) done bridge rest board.bridges is parts.few.bridges) in
    let beside = count_of (λ (b : Bridge). b.parent == bridge.parent) done bridge rest board.bridges is (eq-eqb _ _ refl) in
    let fewer : length done + 1 ≤ most_bridges = omega (arith, all, most) in
    let room : children_on before bridge.parent + 1 ≤ most_children = omega (arith, below, beside) in
    let added = bridge_adds wide before bridge formed (numbered_of done bridge rest board.bridges is parts.numbered_apart) fewer room in
    leads-line wide (bridge_line bridge) (NewBridge bridge) (Of wide before) (Of wide after)
    (bridge_law wide bridge (each_of BridgeFits done bridge rest board.bridges is fits) formed (may_of wide is_short_bridge done bridge rest board.bridges is may))
    (λ draft of. record {
      next = draft_of wide after;
      width = of.width;
      is = ap (λ (w : Bool). add_bridge w (board_of draft) bridge) of.width ∙ ap (λ (b : Board). add_bridge wide b bridge) of.is ∙ added;
      holds = record { width = refl; is = refl };
    })
