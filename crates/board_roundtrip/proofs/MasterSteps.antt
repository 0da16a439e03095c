-- The lines of masters lead from no master to all of them.
use Rattle.std.proofs.Common.{◌≡◌, ◌+◌, ◌≤◌, Bool, true, false, ◌||◌, List, [], ◌∷◌, ◌++◌, length, map, Option, None, Result, Ok, refl, ap, ◌∙◌, arith}
use Rattle.std.specs.Prelude.{◌==◌, nat_le}
use Rattle.std.specs.List.{list_all, AllByRecursion}
use Rattle.std.proofs.lemmas.Bool.{leb-true, eq-eqb}
use Rattle.list_facts.specs.Lists.{total}
use Rattle.list_facts.proofs.TotalLemmas.{total-push}
use Rattle.board_model.specs.Limits.{most_agents, most_ops, most_tries}
use Rattle.board_model.specs.declared.op.Op.{Op}
use Rattle.board_model.specs.declared.agents.Master.{Master}
use Rattle.board_model.specs.declared.board.Board.{Board}
use Rattle.board_model.specs.Requests.{tries_of}
use Rattle.board_model.specs.WellFormed.{is_well_formed_op, is_well_formed_master, agents_on, operations_in, IsWellFormed}
use Rattle.board_printer.specs.Masters.{op_line, master_line, master_lines}
use Rattle.board_printer.specs.Boards.{is_short_op}
use Rattle.text_faults.specs.declared.board_line.LineFault.{LineFault}
use Rattle.board_statements.specs.declared.statement.Statement.TheVariants.{NewMaster, Does}
use Rattle.board_model.specs.Fits.{OpFits}
use Rattle.board_roundtrip.proofs.lines.Laws.{master_law, op_law}
use Rattle.board_parser.specs.declared.draft.draft.Draft.{Draft}
use Rattle.board_parser.specs.declared.draft.draft.AgentPlace.TheVariants.{OfMaster}
use Rattle.board_parser.specs.draft.Steps.{◌>>=◌}
use Rattle.board_parser.specs.draft.Drafts.{board_of}
use Rattle.board_parser.specs.draft.Targets.{agent_fault, unless}
use Rattle.board_parser.specs.draft.Masters.{add_op, add_master, does}
use Rattle.board_parser.specs.draft.Add.{add}
use Rattle.board_model.specs.Fits.{ProgramFits}
use Rattle.board_roundtrip.proofs.LeadLemmas.{Leads, Steps, leads-append, leads-to, leads-map, leads-line}
use Rattle.board_roundtrip.proofs.PlaceLemmas.{each_of, all_of, may_of, length_of, count_of, total_of, masters_of, beside_of}
use Rattle.board_roundtrip.proofs.StateLemmas.{so_far, Of, holding, Is}
use Rattle.board_roundtrip.proofs.OpSteps.{op_adds}
use Rattle.board_roundtrip.proofs.TargetSteps.{no_agent_fault}
use Rattle.board_model.proofs.Laws.{Master-parts}

-- the master with so many of its operations
abbrev program_of : Master → List Op → Master
program_of master ops = record { name = master.name; bus = master.bus; ops = ops }

-- a draft whose owner is that master
abbrev Runs : Bool → Board → Master → Draft → Type 0
Runs wide board master = Is (holding wide board (OfMaster master))

begins : (wide : Bool) (board : Board) (master : Master) → ProgramFits master → agent_fault board master.name master.bus ≡ None → Leads (Of wide board) (master_line master ∷ []) (Runs wide board (program_of master []))
begins wide board master fits none =
    let first = program_of master [] in
    leads-line wide (master_line master) (NewMaster master.name master.bus) (Of wide board) (Runs wide board first) (master_law wide master fits.begins)
    (λ draft of. record {
      next = holding wide board (OfMaster first);
      width = of.width;
      is = ap (λ (w : Bool). add_master w (board_of draft) master.name master.bus) of.width
          ∙ ap (λ (b : Board). add_master wide b master.name master.bus) of.is
          ∙ ap (λ (fault : Option LineFault). unless fault (holding wide board (OfMaster first))) none;
      holds = refl;
    })

op_step : (wide : Bool) (board : Board) (master : Master) → AllByRecursion OpFits master.ops → is_well_formed_master master ≡ true
    → operations_in board.masters + total tries_of master.ops ≤ most_tries → (wide || list_all is_short_op master.ops) ≡ true
    → Steps (λ op. op_line op ∷ []) (λ done. Runs wide board (program_of master done)) master.ops
op_step wide board master fits formed fewer may done op rest is =
    let before = program_of master done in
    let after = program_of master (done ++ op ∷ []) in
    let parts = Master-parts master formed in
    let good = all_of is_well_formed_op done op rest master.ops is parts.ops in
    let most = parts.few in
    let all = length_of done op rest master.ops is in
    let few : length done + 1 ≤ most_ops = omega (arith, most, all) in
    let count = operations_in (board.masters ++ before ∷ []) in
    let so : count ≡ operations_in board.masters + total tries_of done = total-push (λ (m : Master). total tries_of m.ops) board.masters before in
    let sum = total_of tries_of done op rest master.ops is in
    let within : count + tries_of op ≤ most_tries = omega (arith, fewer, so, sum) in
    let added : add_op count op false before ≡ Ok after = op_adds count op before good few within in
    let did : does (holding wide board (OfMaster before)) op false ≡ Ok (holding wide board (OfMaster after)) =
    ap (λ (r : Result Master LineFault). r >>= (λ m. Ok (holding wide board (OfMaster m)))) added in
    leads-line wide (op_line op) (Does op false) (Runs wide board before) (Runs wide board after)
    (op_law wide op (each_of OpFits done op rest master.ops is fits) good (may_of wide is_short_op done op rest master.ops is may))
    (λ draft same. record {
      next = holding wide board (OfMaster after);
      width = ap (λ (d : Draft). d.wide) same;
      is = ap (λ (d : Draft). add d (Does op false)) same ∙ did;
      holds = refl;
    })

abbrev with_master : Board → Master → Board
with_master board master = record board { masters = board.masters ++ master ∷ [] }

master_leads : (wide : Bool) (board : Board) (master : Master) → ProgramFits master → is_well_formed_master master ≡ true
    → operations_in board.masters + total tries_of master.ops ≤ most_tries → (wide || list_all is_short_op master.ops) ≡ true → agent_fault board master.name master.bus ≡ None
    → Leads (Of wide board) (master_lines master) (Of wide (with_master board master))
master_leads wide board master fits formed fewer may none =
    let ops = leads-map op_line (λ done. Runs wide board (program_of master done)) master.ops (op_step wide board master fits.ops formed fewer may) in
    let whole = leads-append (Of wide board) (Runs wide board (program_of master [])) (Runs wide board master) (master_line master ∷ []) (map op_line master.ops) (begins wide board master fits none) ops in
    leads-to (Of wide board) (Runs wide board master) (Of wide (with_master board master)) (master_lines master) whole
    (λ draft is. record { width = ap (λ (d : Draft). d.wide) is; is = ap board_of is })

pub master_step : (wide : Bool) (board : Board) → IsWellFormed board → AllByRecursion ProgramFits board.masters → (wide || list_all (λ (master : Master). list_all is_short_op master.ops) board.masters) ≡ true
    → Steps master_lines (λ done. Of wide (so_far board.bridges board.targets done [] [])) board.masters
master_step wide board parts fits may done master rest is =
    let formed = all_of is_well_formed_master done master rest board.masters is parts.masters in
    let below = leb-true _ _ (all_of (λ (m : Master). nat_le (agents_on board m.bus) most_agents) done master rest board.masters is parts.few.masters) in
    let beside = count_of (λ (m : Master). m.bus == master.bus) done master rest board.masters is (eq-eqb _ _ refl) in
    let before = so_far board.bridges board.targets done [] [] in
    let room : agents_on before master.bus + 1 ≤ most_agents = omega (arith, below, beside) in
    let sum = total_of (λ (m : Master). total tries_of m.ops) done master rest board.masters is in
    let most = parts.operations in
    let fewer : operations_in done + total tries_of master.ops ≤ most_tries = omega (arith, sum, most) in
    master_leads wide before master (each_of ProgramFits done master rest board.masters is fits) formed fewer (may_of wide (λ (m : Master). list_all is_short_op m.ops) done master rest board.masters is may)
    (no_agent_fault before master.name master.bus (beside_of board.targets done master rest board.masters is parts.targets_named_apart) (masters_of done master rest board.masters is parts.masters_named_apart) room)
