-- The counts of a run's report add up to the number of its events.
use Rattle.std.proofs.Common.{◌≡◌, ◌≢◌, ℕ, zero, suc, ◌+◌, ◌<◌, ◌≤◌, ◌==◌, ◌&&◌, Bool, true, false, cond, List, [], ◌∷◌, length, Option, Some, None, refl, ap, subst, ◌∙◌, arith, eqb-true, slice_get}
use Rattle.std.specs.List.{filter, range_with_len}
use Rattle.std.proofs.lemmas.Bool.{eqb-false}
use Rattle.std.proofs.lemmas.Bool.Decides.{nat_tests}
use Rattle.std.proofs.lemmas.List.Sums.{sum_by-cons}
use Rattle.list_facts.specs.Lists.{total}
use Rattle.list_facts.proofs.AnyLemmas.{total_same}
use Rattle.list_facts.proofs.TotalLemmas.{total-zero, total-plus}
use Rattle.board_model.specs.declared.bridge.Bridge.{Bridge}
use Rattle.board_model.specs.declared.bridge.Lane.{Lane as BridgeLane}
use Rattle.board_model.specs.declared.board.Board.{Board}
use Rattle.board_model.specs.Fits.{BoardFits}
use Rattle.board_model.specs.Ways.{end_of}
use Rattle.board_model.specs.Valid.{is_bus, IsValid}
use Rattle.history_model.specs.declared.event.By.TheVariants.{Master, Lane}
use Rattle.history_model.specs.declared.event.Event.{Event}
use Rattle.history_model.specs.declared.event.Event.TheVariants.{Act, Arrive as Arrives}
use Rattle.history_model.specs.Lanes.{LaneState, empty_lane}
use Rattle.history_model.specs.Answers.{bridge_to, presents}
use Rattle.history_model.specs.Local.{bus_of}
use Rattle.history_model.specs.Runs.{Run, Allowed, mark_of_first}
use Rattle.law_lanes.proofs.progress.Laws.{no_bridge_empty}
use Rattle.law_lanes.proofs.progress.NextNoneLemmas.{IsOnBoard-found}
use Rattle.law_lanes.proofs.progress.NextWantLemmas.{master_bus, master_wants, lane_wants}
use Rattle.law_local.proofs.phases.BusLemmas.{end_is_bus, master_is_there}
use Rattle.run_report.specs.declared.tallies.CountedKind.{CountedKind}
use Rattle.run_report.specs.declared.tallies.CountedKind.TheVariants.{Land, Read, Accept, Latch, Take, Stall, MasterAbort, TargetAbort, Arrive}
use Rattle.run_report.specs.Counts.{column, kind_of, kinds, is_counted, count_of}
use Rattle.run_report.specs.Report.{buses_of}

-- Each event is on a bus of the board.

record IsThere (board : Board) (bus : ℕ) : Type 0 where
  there : is_bus board bus ≡ true
  below : bus < 256

-- a lane of a bridge ends on one
lane_there : (board : Board) (lane : BridgeLane) (found : Option Bridge) → IsValid board → BoardFits board → bridge_to board lane.bus ≡ found → (found ≡ None → ⊥) → IsThere board (end_of board lane)
lane_there board lane None valid fits is some = absurd (some refl)
lane_there board lane (Some bridge) valid fits is some =
    record { there = end_is_bus board valid.buses lane bridge is; below = (IsOnBoard-found board lane bridge fits is).end }

-- on a lane of no bridge nothing is presented, and nothing arrives
event_there : (board : Board) (h : List Event) (e : Event) → IsValid board → BoardFits board → Run board h → Allowed board h e → IsThere board (bus_of board e)
event_there board h (Act on Master o step place) valid fits run allowed =
    let at = (master_wants board h on o allowed.0).0 in
    record { there = master_is_there board valid.buses o.master on (slice_get board.masters o.master) refl at; below = master_bus on board.masters o.master fits.masters at }
event_there board h (Act on (Lane lane) o step place) valid fits run allowed =
    let wanted = lane_wants board h on lane o allowed.0 in
    let some : bridge_to board lane.bus ≡ None → ⊥ =
    λ (none : bridge_to board lane.bus ≡ None). (let nothing : presents board on o empty_lane.standing ≡ true =
    subst (λ (state : LaneState). presents board on o state.standing ≡ true) (no_bridge_empty board h lane run none) wanted.1 in
    absurd cc) in
    subst (IsThere board) wanted.0 (lane_there board lane (bridge_to board lane.bus) valid fits refl some)
event_there board h (Arrives lane mark) valid fits run allowed =
    let some : bridge_to board lane.bus ≡ None → ⊥ =
    λ (none : bridge_to board lane.bus ≡ None). (let nothing : mark_of_first board lane empty_lane empty_lane.flight ≡ Some mark =
    subst (λ (state : LaneState). mark_of_first board lane state state.flight ≡ Some mark) (no_bridge_empty board h lane run none) allowed in
    absurd cc) in
    lane_there board lane (bridge_to board lane.bus) valid fits refl some

-- It counts once.

abbrev one : Bool → ℕ
one counts = cond counts 1 0

-- among the kinds
one_kind : (on : Bool) (kind : CountedKind) → total (λ (k : CountedKind). one (on && (column kind == column k))) kinds ≡ one on
one_kind false kind = refl
one_kind true Land = refl
one_kind true Read = refl
one_kind true Accept = refl
one_kind true Latch = refl
one_kind true Take = refl
one_kind true Stall = refl
one_kind true MasterAbort = refl
one_kind true TargetAbort = refl
one_kind true Arrive = refl

-- a bus below all these numbers is none of them
no_bus : (test : ℕ → Bool) (bus a n : ℕ) → bus < a → total (λ b. one (bus == b)) (filter test (range_with_len a n)) ≡ 0
no_bus test bus a zero below = refl
no_bus test bus a (suc n) below =
    let rest : List ℕ = filter test (range_with_len (a + 1) n) in
    let none : total (λ b. one (bus == b)) rest ≡ 0 = no_bus test bus (a + 1) n (omega arith) in
    let apart : (bus == a) ≡ false = grind (arith, nat_tests) in
    let P : Bool → Type 0 = λ passes. total (λ b. one (bus == b)) (cond passes (a ∷ rest) rest) ≡ 0 in
    elim (test a) as P [ true ↦ omega (arith, ap one apart, none) | false ↦ none ]

-- a bus that passes is one of the numbers that do
one_bus : (test : ℕ → Bool) (bus a n : ℕ) → a ≤ bus → bus < a + n → test bus ≡ true → total (λ b. one (bus == b)) (filter test (range_with_len a n)) ≡ 1
one_bus test bus a zero from below passes = absurd (omega arith)
one_bus test bus a (suc n) from below passes =
    let rest : List ℕ = filter test (range_with_len (a + 1) n) in
    let P : Bool → Type 0 = λ same. (bus == a) ≡ same → total (λ b. one (bus == b)) (cond (test a) (a ∷ rest) rest) ≡ 1 in
    (elim (bus == a) as P [
      | true ↦ λ same.
          let here : test a ≡ true = subst (λ b. test b ≡ true) (eqb-true bus a same) passes in
          let none : total (λ b. one (bus == b)) rest ≡ 0 = no_bus test bus (a + 1) n (let is : bus ≡ a = eqb-true bus a same in omega arith) in
          ap (λ (b : Bool). total (λ x. one (bus == x)) (cond b (a ∷ rest) rest)) here ∙ omega (arith, ap one same, none)
      | false ↦ λ apart.
          let other : bus ≢ a = eqb-false bus a apart in
          let later : total (λ b. one (bus == b)) rest ≡ 1 = one_bus test bus (a + 1) n (omega arith) (omega arith) passes in
          let Q : Bool → Type 0 = λ b. total (λ x. one (bus == x)) (cond b (a ∷ rest) rest) ≡ 1 in
          elim (test a) as Q [ true ↦ omega (arith, ap one apart, later) | false ↦ later ]
    ]) refl

-- over buses among which each bus of the board is once
adds_over : (board : Board) (buses : List ℕ) → ((bus : ℕ) → IsThere board bus → total (λ b. one (bus == b)) buses ≡ 1) → IsValid board → BoardFits board
    → (h : List Event) → Run board h → total (λ bus. total (count_of board h bus) kinds) buses ≡ length h
adds_over board buses once valid fits [] run = total-zero (λ bus. total (count_of board [] bus) kinds) (λ bus. refl) buses
adds_over board buses once valid fits (e ∷ h) run =
    let here : ℕ → ℕ = λ bus. total (λ (kind : CountedKind). one (is_counted board bus kind e)) kinds in
    let before : ℕ → ℕ = λ bus. total (count_of board h bus) kinds in
    let now : ℕ → ℕ = λ bus. total (count_of board (e ∷ h) bus) kinds in
    let more : (bus : ℕ) → now bus ≡ here bus + before bus =
    λ (bus : ℕ). total-plus (λ (kind : CountedKind). one (is_counted board bus kind e)) (count_of board h bus) (count_of board (e ∷ h) bus)
    (λ (kind : CountedKind). sum_by-cons (λ (x : Event). cond (is_counted board bus kind x) 1 0) e h) kinds in
    let new : total here buses ≡ 1 =
    total_same here (λ bus. one (bus_of board e == bus)) (λ bus. one_kind (bus_of board e == bus) (kind_of e)) buses ∙ once (bus_of board e) (event_there board h e valid fits run.1 run.0) in
    omega (arith, total-plus here before now more buses, new, adds_over board buses once valid fits h run.1)

pub adds_up : (board : Board) (h : List Event) → IsValid board → BoardFits board → Run board h → total (λ bus. total (count_of board h bus) kinds) (buses_of board) ≡ length h
adds_up board h valid fits run =
    adds_over board (buses_of board) (λ bus is. one_bus (is_bus board) bus 0 256 (omega arith) (let below : bus < 256 = is.below in omega arith) is.there) valid fits h run
