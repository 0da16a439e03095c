-- The lines of targets lead from no target to all of them.
use Rattle.std.proofs.Common.{◌≡◌, ℕ, ◌+◌, ◌≤◌, Bool, true, false, cond, ◌||◌, List, [], ◌∷◌, ◌++◌, map, Option, Some, None, refl, ap, ◌∙◌, arith}
use Rattle.std.specs.Prelude.{codes, ◌==◌, nat_le}
use Rattle.std.specs.List.{list_all, list_any, AllByRecursion}
use Rattle.std.proofs.lemmas.Bool.{or_from, lt-leb, leb-true, eq-eqb}
use Rattle.board_model.specs.Limits.{most_agents, most_dwords}
use Rattle.board_model.specs.declared.agents.Target.{Target}
use Rattle.board_model.specs.declared.board.Board.{Board}
use Rattle.board_model.specs.WellFormed.{IsWellFormed, is_well_formed_target, is_target_named, is_master_named, agents_on}
use Rattle.board_printer.specs.Targets.{target_line, id_lines, stall_lines, burst_lines, range_line, opening_line, target_lines}
use Rattle.board_printer.specs.Boards.{is_short_range, is_short_target}
use Rattle.text_faults.specs.declared.board_line.LineFault.{LineFault}
use Rattle.board_statements.specs.declared.statement.Statement.TheVariants.{NewTarget}
use Rattle.board_roundtrip.proofs.lines.TargetTexts.{first_may, second_may}
use Rattle.board_roundtrip.proofs.lines.Laws.{target_law}
use Rattle.board_parser.specs.declared.draft.draft.Draft.{Draft}
use Rattle.board_parser.specs.declared.draft.draft.AgentPlace.TheVariants.{OfTarget}
use Rattle.board_parser.specs.draft.Drafts.{board_of}
use Rattle.board_parser.specs.draft.Targets.{is_name_used, agent_fault, unless, new_target, add_target}
use Rattle.board_model.specs.Fits.{DetailsFit}
use Rattle.board_roundtrip.proofs.LeadLemmas.{Leads, Steps, leads-append, leads-to, leads-map, leads-line}
use Rattle.board_roundtrip.proofs.PlaceLemmas.{each_of, all_of, may_of, count_of, targets_of}
use Rattle.board_roundtrip.proofs.StateLemmas.{so_far, Of, holding}
use Rattle.board_roundtrip.proofs.DetailSteps.{part_of, Has, id_leads, stall_leads, burst_leads, range_step, abort_step, opening_step}
use Rattle.board_model.proofs.Laws.{Target-parts}

pass : (test : Bool) (fault : LineFault) (step : Option LineFault) → test ≡ false → cond test (Some fault) step ≡ step
pass true fault step h = absurd (cc)
pass false fault step h = refl

pub no_agent_fault : (board : Board) (name : List ℕ) (bus : ℕ) → list_any (is_target_named name) board.targets ≡ false → list_any (is_master_named name) board.masters ≡ false
    → agents_on board bus + 1 ≤ most_agents → agent_fault board name bus ≡ None
no_agent_fault board name bus targets masters room =
    let unused : is_name_used board name ≡ false = or_from _ _ targets masters in
    let free : nat_le most_agents (agents_on board bus) ≡ false = lt-leb _ _ (omega arith) in
    pass _ _ _ unused ∙ pass _ _ _ free

begins : (wide : Bool) (board : Board) (target : Target) → DetailsFit target → is_well_formed_target target ≡ true → agent_fault board target.name target.bus ≡ None
    → Leads (Of wide board) (target_line target ∷ []) (Has wide board (part_of target 0x1234 1 0 most_dwords [] [] []))
begins wide board target fits formed none =
    let first = new_target target.name target.bus target.device in
    leads-line wide (target_line target) (NewTarget target.name target.bus target.device) (Of wide board) (Has wide board first) (target_law wide target fits.begins formed)
    (λ draft of. record {
      next = holding wide board (OfTarget first);
      width = of.width;
      is = ap (λ (w : Bool). add_target w (board_of draft) target.name target.bus target.device) of.width
          ∙ ap (λ (b : Board). add_target wide b target.name target.bus target.device) of.is
          ∙ ap (λ (fault : Option LineFault). unless fault (holding wide board (OfTarget first))) none;
      holds = refl;
    })

abbrev with_target : Board → Target → Board
with_target board target = record board { targets = board.targets ++ target ∷ [] }

target_leads : (wide : Bool) (board : Board) (target : Target) → DetailsFit target → is_well_formed_target target ≡ true → (wide || is_short_target target) ≡ true → agent_fault board target.name target.bus ≡ None
    → Leads (Of wide board) (target_lines target) (Of wide (with_target board target))
target_leads wide board target fits formed may none =
    let parts = Target-parts target formed in
    let may_ranges = first_may wide (list_all is_short_range target.ranges) _ may in
    let rest = second_may wide (list_all is_short_range target.ranges) _ may in
    let may_aborts = first_may wide (list_all is_short_range target.aborts) _ rest in
    let may_openings = second_may wide (list_all is_short_range target.aborts) _ rest in
    let p0 = Has wide board (part_of target 0x1234 1 0 most_dwords [] [] []) in
    let p1 = Has wide board (part_of target target.vendor target.model 0 most_dwords [] [] []) in
    let p2 = Has wide board (part_of target target.vendor target.model target.stalls most_dwords [] [] []) in
    let p3 = Has wide board (part_of target target.vendor target.model target.stalls target.burst [] [] []) in
    let p4 = Has wide board (part_of target target.vendor target.model target.stalls target.burst target.ranges [] []) in
    let p5 = Has wide board (part_of target target.vendor target.model target.stalls target.burst target.ranges target.aborts []) in
    let p6 = Has wide board (part_of target target.vendor target.model target.stalls target.burst target.ranges target.aborts target.openings) in
    let ranges = map (range_line (codes "range")) target.ranges in
    let aborts = map (range_line (codes "abort")) target.aborts in
    let openings = map opening_line target.openings in
    let from_aborts = leads-append p4 p5 p6 aborts openings
    (leads-map (range_line (codes "abort")) (λ done. Has wide board (part_of target target.vendor target.model target.stalls target.burst target.ranges done [])) target.aborts (abort_step wide board target parts fits.aborts may_aborts))
    (leads-map opening_line (λ done. Has wide board (part_of target target.vendor target.model target.stalls target.burst target.ranges target.aborts done)) target.openings (opening_step wide board target parts fits.openings may_openings)) in
    let from_ranges = leads-append p3 p4 p6 ranges (aborts ++ openings)
    (leads-map (range_line (codes "range")) (λ done. Has wide board (part_of target target.vendor target.model target.stalls target.burst done [] [])) target.ranges (range_step wide board target parts fits.ranges may_ranges)) from_aborts in
    let from_burst = leads-append p2 p3 p6 (burst_lines target.burst) (ranges ++ (aborts ++ openings)) (burst_leads wide board target parts) from_ranges in
    let from_stalls = leads-append p1 p2 p6 (stall_lines target.stalls) (burst_lines target.burst ++ (ranges ++ (aborts ++ openings))) (stall_leads wide board target parts) from_burst in
    let from_id = leads-append p0 p1 p6 (id_lines target) (stall_lines target.stalls ++ (burst_lines target.burst ++ (ranges ++ (aborts ++ openings)))) (id_leads wide board target fits.vendor fits.model) from_stalls in
    let whole = leads-append (Of wide board) p0 p6 (target_line target ∷ []) (id_lines target ++ (stall_lines target.stalls ++ (burst_lines target.burst ++ (ranges ++ (aborts ++ openings))))) (begins wide board target fits formed none) from_id in
    leads-to (Of wide board) p6 (Of wide (with_target board target)) (target_lines target) whole
    (λ draft is. record { width = ap (λ (d : Draft). d.wide) is; is = ap board_of is })

pub target_step : (wide : Bool) (board : Board) → IsWellFormed board → AllByRecursion DetailsFit board.targets → (wide || list_all is_short_target board.targets) ≡ true
    → Steps target_lines (λ done. Of wide (so_far board.bridges done [] [] [])) board.targets
target_step wide board parts fits may done target rest is =
    let formed = all_of is_well_formed_target done target rest board.targets is parts.targets in
    let below = leb-true _ _ (all_of (λ (t : Target). nat_le (agents_on board t.bus) most_agents) done target rest board.targets is parts.few.targets) in
    let beside = count_of (λ (t : Target). t.bus == target.bus) done target rest board.targets is (eq-eqb _ _ refl) in
    let before = so_far board.bridges done [] [] [] in
    let room : agents_on before target.bus + 1 ≤ most_agents = omega (arith, below, beside) in
    target_leads wide before target (each_of DetailsFit done target rest board.targets is fits) formed (may_of wide is_short_target done target rest board.targets is may)
    (no_agent_fault before target.name target.bus (targets_of board.masters done target rest board.targets is parts.targets_named_apart) refl room)
