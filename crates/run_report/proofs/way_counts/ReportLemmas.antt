-- The report of a complete run is the one of the way counts.
use Rattle.std.proofs.Common.{◌≡◌, ℕ, ◌+◌, ◌*◌, ◌-◌, ◌/◌, ◌≤◌, zero, suc, ◌==◌, ◌&&◌, Bool, true, false, cond, List, [], ◌∷◌, ◌++◌, length, Option, Some, None, refl, ap, ◌∙◌, arith, slice_get, eqb-true}
use Rattle.std.specs.List.{list_all}
use Rattle.std.proofs.lemmas.Bool.{and_parts}
use Rattle.std.proofs.lemmas.List.Sums.{sum_by-cons}
use Rattle.list_facts.specs.Lists.{total}
use Rattle.list_facts.proofs.TestLemmas.{list_all-get}
use Rattle.list_facts.proofs.TotalLemmas.{total-alike}
use Rattle.pci_command.specs.declared.request.Request.{Request}
use Rattle.board_model.specs.declared.agents.Master.{Master as MasterAgent}
use Rattle.board_model.specs.declared.bridge.Place.{Place}
use Rattle.board_model.specs.declared.bridge.Place.TheVariants.{Target, Header, Lane, Nobody}
use Rattle.board_model.specs.declared.op.Op.{Op}
use Rattle.board_model.specs.declared.board.Planned.{Planned}
use Rattle.board_model.specs.Requests.{phases_of, request_on, tries_of, is_posted}
use Rattle.board_model.specs.WellFormed.{is_well_formed_op, is_well_formed_master}
use Rattle.board_model.proofs.Laws.{WellFormed-parts, Master-parts, op_phases}
use Rattle.board_model.specs.declared.agents.Target.{Target as TargetAgent}
use Rattle.board_model.specs.declared.board.Board.{Board}
use Rattle.board_model.specs.Valid.{IsValid}
use Rattle.board_model.specs.Ways.{Route, route_of, aborts_at, pieces_in, pieces_at, pieces_by, pieces_of, cost_of_try, cost_of, longest_way, bound_of}
use Rattle.board_printer.specs.Lines.{line_text}
use Rattle.history_model.specs.declared.event.Event.{Event}
use Rattle.history_model.specs.Local.{bus_of}
use Rattle.run_report.specs.declared.tallies.CountedKind.{CountedKind}
use Rattle.run_report.specs.Counts.{kind_of, column, is_counted, count_of}
use Rattle.run_report.specs.Report.{operations_of, size_line, length_line, report_with, report_of}
use Rattle.run_report.proofs.LineLemmas.{buses_same}
use Rattle.run_report.specs.way_counts.Plain.{is_ready, is_no_poll, is_straight, IsSteady}
use Rattle.run_report.specs.way_counts.WayCounts.{Weight, one_of, lane_weight, way_weight, ways_weight, way_counts, way_report}
use Rattle.run_report.specs.way_counts.Weighed.{weigh}
use Rattle.run_report.proofs.way_counts.ProgramLemmas.{once}

-- a count is a weight
pub counts_weigh : (board : Board) (bus : ℕ) (kind : CountedKind) (h : List Event) → count_of board h bus kind ≡ weigh board (one_of bus kind) h
counts_weigh board bus kind [] = refl
counts_weigh board bus kind (e ∷ h) =
    let same : Bool = column (kind_of e) == column kind in
    let P : Bool → Type 0 = λ on. ◌≡◌ {A = ℕ} (cond (on && same) 1 0) (cond on (cond same 1 0) 0) in
    let here : ◌≡◌ {A = ℕ} (cond (is_counted board bus kind e) 1 0) (one_of bus kind (bus_of board e) (kind_of e)) = elim (bus_of board e == bus) as P [ true ↦ refl | false ↦ refl ] in
    omega (arith, sum_by-cons (λ (x : Event). cond (is_counted board bus kind x) 1 0) e h, here, counts_weigh board bus kind h)

-- and so is the number of events
pub long_weighs : (board : Board) (h : List Event) → length h ≡ weigh board (λ _ _. 1) h
long_weighs board [] = refl
long_weighs board (e ∷ h) = omega (arith, long_weighs board h)

-- Each operation costs what it counts along its way.

-- a whole block goes through in one piece
one_piece : (n : ℕ) → 1 ≤ n → n ≤ 8 → (n + (8 - 1)) / 8 ≡ 1
one_piece zero some few = absurd (omega (arith, some))
one_piece (suc zero) some few = refl
one_piece (suc (suc zero)) some few = refl
one_piece (suc (suc (suc zero))) some few = refl
one_piece (suc (suc (suc (suc zero)))) some few = refl
one_piece (suc (suc (suc (suc (suc zero))))) some few = refl
one_piece (suc (suc (suc (suc (suc (suc zero)))))) some few = refl
one_piece (suc (suc (suc (suc (suc (suc (suc zero))))))) some few = refl
one_piece (suc (suc (suc (suc (suc (suc (suc (suc zero)))))))) some few = refl
one_piece (suc (suc (suc (suc (suc (suc (suc (suc (suc n))))))))) some few = absurd (omega (arith, few))

abbrev ones : Weight
ones = λ _ _. 1

module _ (board : Board) (steady : IsSteady board) where
  pieces_at_one : (place : ℕ) (request : Request) (n : ℕ) (found : Option TargetAgent) → slice_get board.targets place ≡ found → 1 ≤ n → n ≤ 8 → pieces_at request n found ≡ 1
  pieces_at_one place request n None is some few = refl
  pieces_at_one place request n (Some target) is some few =
      let ready : is_ready target ≡ true = list_all-get is_ready board.targets place target steady.targets is in
      let all : target.burst ≡ 8 = eqb-true target.burst 8 (and_parts (target.stalls == 0) (target.burst == 8) ready).1 in
      let P : Bool → Type 0 = λ b. cond b 1 (pieces_in target.burst n) ≡ 1 in
      elim (aborts_at target request) as P [ true ↦ refl | false ↦ ap (λ burst. pieces_in burst n) all ∙ one_piece n some few ]

  pieces_one : (request : Request) (n : ℕ) (place : Place) → 1 ≤ n → n ≤ 8 → pieces_by board request n place ≡ 1
  pieces_one request n (Target place) some few = pieces_at_one place request n (slice_get board.targets place) refl some few
  pieces_one request n (Header bus) some few = refl
  pieces_one request n (Lane lane) some few = refl
  pieces_one request n Nobody some few = refl

  -- of one try
  try_costs : (on : ℕ) (op : Op) → is_well_formed_op op ≡ true → way_weight board ones on op ≡ cost_of_try board on op
  try_costs on op formed =
      let route : Route = route_of board op on in
      let long : ℕ = length route.lanes in
      let phases = op_phases op formed in
      let pieces : pieces_of board op on (length (phases_of op)) ≡ 1 = pieces_one (request_on op route.bus) (length (phases_of op)) route.owner phases.from phases.to in
      let P : Bool → Type 0 = λ posted. total (lane_weight board ones posted) route.lanes + 1 ≡ cond posted (3 * long + pieces_of board op on (length (phases_of op))) (4 * long + 1) in
      elim (is_posted (request_on op on)) as P [
        | true ↦ omega (arith, pieces, total-alike (lane_weight board ones true) 3 (λ lane. refl) route.lanes)
        | false ↦ omega (arith, total-alike (lane_weight board ones false) 4 (λ lane. refl) route.lanes)
      ]

  -- of all operations of a program, each tried once
  ops_cost : (on : ℕ) (ops : List Op) → list_all is_well_formed_op ops ≡ true → list_all is_no_poll ops ≡ true → total (way_weight board ones on) ops ≡ total (cost_of board on) ops
  ops_cost on [] formed straight = refl
  ops_cost on (op ∷ ops) formed straight =
      let forms = and_parts (is_well_formed_op op) (list_all is_well_formed_op ops) formed in
      let polls = and_parts (is_no_poll op) (list_all is_no_poll ops) straight in
      let one : tries_of op * cost_of_try board on op ≡ 1 * cost_of_try board on op = ap (λ n. n * cost_of_try board on op) (once op polls.0) in
      omega (arith, one, try_costs on op forms.0, ops_cost on ops forms.1 polls.1)

  masters_cost : (masters : List MasterAgent) → list_all is_well_formed_master masters ≡ true → list_all is_straight masters ≡ true
      → total (λ (master : MasterAgent). total (way_weight board ones master.bus) master.ops) masters ≡ total (λ (master : MasterAgent). total (cost_of board master.bus) master.ops) masters
  masters_cost [] formed straight = refl
  masters_cost (master ∷ masters) formed straight =
      let forms = and_parts (is_well_formed_master master) (list_all is_well_formed_master masters) formed in
      let polls = and_parts (is_straight master) (list_all is_straight masters) straight in
      omega (arith, ops_cost master.bus master.ops (Master-parts master forms.0).ops polls.0, masters_cost masters forms.1 polls.1)

  no_stalls : (targets : List TargetAgent) → list_all is_ready targets ≡ true → total (λ (target : TargetAgent). target.stalls) targets ≡ 0
  no_stalls [] ready = refl
  no_stalls (target ∷ targets) ready =
      let parts = and_parts (is_ready target) (list_all is_ready targets) ready in
      omega (arith, eqb-true target.stalls 0 (and_parts (target.stalls == 0) (target.burst == 8) parts.0).0, no_stalls targets parts.1)

  -- so the board's bound is what all operations count
  pub bound_weighs : IsValid board → ways_weight board ones ≡ bound_of board
  bound_weighs valid =
      let formed = WellFormed-parts board valid.well_formed in
      let none : 4 * longest_way board * length board.discards ≡ 4 * longest_way board * 0 = ap (λ (l : List Planned). 4 * longest_way board * length l) steady.discards in
      let nothing : 4 * longest_way board * 0 ≡ 0 = omega arith in
      let drops : 3 * length board.drops ≡ 0 = ap (λ (l : List Planned). 3 * length l) steady.drops in
      omega (arith, masters_cost board.masters formed.masters steady.masters, no_stalls board.targets steady.targets, none, nothing, drops)

-- as many events as the bound, and the same counts
pub complete_long : (board : Board) (h : List Event) → ((weight : Weight) → weigh board weight h ≡ ways_weight board weight) → IsValid board → IsSteady board → length h ≡ bound_of board
complete_long board h weighs valid steady = long_weighs board h ∙ weighs (λ _ _. 1) ∙ bound_weighs board steady valid

reports_same : (board : Board) (events : ℕ) (c d : ℕ → CountedKind → ℕ) → ((bus : ℕ) (kind : CountedKind) → c bus kind ≡ d bus kind) → report_with board events c ≡ report_with board events d
reports_same board events c d same =
    ap (λ (t : List ℕ). line_text (size_line (length board.bridges + 1) (length board.masters) (operations_of board)) ++ (line_text (length_line events (bound_of board)) ++ t))
    (buses_same board c d (λ bus kind _. same bus kind))

pub complete_report : (board : Board) (h : List Event) → ((weight : Weight) → weigh board weight h ≡ ways_weight board weight) → IsValid board → IsSteady board → report_of board h ≡ way_report board
complete_report board h weighs valid steady =
    ap (λ n. report_with board n (count_of board h)) (complete_long board h weighs valid steady)
    ∙ reports_same board (bound_of board) (count_of board h) (way_counts board) (λ bus kind. counts_weigh board bus kind h ∙ weighs (one_of bus kind))
