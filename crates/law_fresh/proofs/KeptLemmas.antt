-- A bus that is covered stays so, where it is covered where the write ends.
use Rattle.std.proofs.Common.{◌≡◌, ℕ, Bool, true, ◌||◌, List, [], ◌∷◌, Option, Some, None, is_some, refl, sym, ap, subst}
use Rattle.std.specs.List.{list_any}
use Rattle.std.proofs.lemmas.Bool.{or_left, or_right}
use Rattle.pci_command.specs.declared.op_id.OpId.{OpId}
use Rattle.pci_command.specs.declared.op_id.Outcome.{Outcome}
use Rattle.pci_command.specs.Same.{same_op}
use Rattle.board_model.specs.declared.bridge.Lane.{Lane as BridgeLane}
use Rattle.board_model.specs.declared.bridge.Place.{Place}
use Rattle.board_model.specs.declared.op.Op.{Op}
use Rattle.board_model.specs.declared.board.Board.{Board}
use Rattle.board_model.specs.Ways.{way, end_of}
use Rattle.board_model.specs.form_laws.Trees.{IsTree}
use Rattle.history_model.specs.declared.event.By.{By}
use Rattle.history_model.specs.declared.event.By.TheVariants.{Master, Lane as ByLane}
use Rattle.history_model.specs.declared.event.Step.{Step}
use Rattle.history_model.specs.declared.event.Event.{Event}
use Rattle.history_model.specs.declared.event.Event.TheVariants.{Act, Arrive}
use Rattle.history_model.specs.declared.rule.Rule.TheVariants.{Tagged}
use Rattle.history_model.specs.World.{World, at_place, lane_outcome, leaves, world_of}
use Rattle.history_model.specs.Program.{master_outcome}
use Rattle.history_model.specs.Knowledge.{is_land_of, has_landed}
use Rattle.history_model.specs.Runs.{Run}
use Rattle.law_fresh.specs.Cover.{is_on_lane, covered_by, covered}
use Rattle.law_fresh.proofs.ListLemmas.{or_either}
use Rattle.law_fresh.proofs.OnLaneLemmas.{place_on, leaves_on, arrives_on}
use Rattle.law_fresh.proofs.InformedLemmas.{step_ends}
use Rattle.law_fresh.proofs.NamedLemmas.{presented_at}
use Rattle.history_model.proofs.facts.RequestLemmas.{same_op_true}
use Rattle.history_model.proofs.facts.PathLemmas.{way_cons}

module _ (board : Board) (tree : IsTree board) (w : OpId) (op : Op) where
  -- the write ends for who presents it, and the bus is covered
  abbrev pub EndsCovered : List Event → Type 0
  EndsCovered h = (on : ℕ) (by : By) (step : Step) (place : Place) (outcome : Outcome) → Run board (Act on by w step place ∷ h) → master_outcome step ≡ Some outcome → covered board w op (Act on by w step place ∷ h) on ≡ true

  module _ (h : List Event) (ends : EndsCovered h) where
    -- the write stays on its lane, or the end of the lane is covered
    left_on : (on : ℕ) (o : OpId) (step : Step) (place : Place) (k : BridgeLane) (run : Run board (Act on (ByLane k) o step place ∷ h)) (l : BridgeLane) (outcome : Option Outcome) → lane_outcome board k o step ≡ outcome → is_on_lane w (world_of board h) l ≡ true
        → (is_on_lane w (leaves k o outcome (at_place board on (ByLane k) o step place (world_of board h))) l || covered board w op (Act on (ByLane k) o step place ∷ h) (end_of board l)) ≡ true
    left_on on o step place k run l None is there =
        let mid : World = at_place board on (ByLane k) o step place (world_of board h) in
        or_left (is_on_lane w mid l) (covered board w op (Act on (ByLane k) o step place ∷ h) (end_of board l)) (place_on w (world_of board h) board on (ByLane k) o step place l there)
    left_on on o step place k run l (Some outcome) is there =
        let e : Event = Act on (ByLane k) o step place in
        let mid : World = at_place board on (ByLane k) o step place (world_of board h) in
        let lost : BridgeLane → Bool = λ l. covered board w op (e ∷ h) (end_of board l) in
        let given = step_ends board k o step (ap is_some is) in
        let at_end = presented_at Tagged board h on k o run.0.0 in
        let gone : same_op o w ≡ true → lost k ≡ true =
        λ same.
        let one : o ≡ w = same_op_true o w same in
        let F : OpId → Type 0 = λ p. Run board (Act on (ByLane k) p step place ∷ h) → covered board w op (Act on (ByLane k) p step place ∷ h) on ≡ true in
        let by_w : F w = λ r. ends on (ByLane k) step place given.0 r given.1 in
        subst (λ n. covered board w op (e ∷ h) n ≡ true) (sym at_end.0) (subst F (sym one) by_w run) in
        leaves_on w mid lost k o outcome gone l (place_on w (world_of board h) board on (ByLane k) o step place l there)

    stays_on : (e : Event) (run : Run board (e ∷ h)) (l : BridgeLane) → is_on_lane w (world_of board h) l ≡ true → (is_on_lane w (world_of board (e ∷ h)) l || covered board w op (e ∷ h) (end_of board l)) ≡ true
    stays_on (Act on Master o step place) run l there =
        let e : Event = Act on Master o step place in
        or_left (is_on_lane w (world_of board (e ∷ h)) l) (covered board w op (e ∷ h) (end_of board l)) (place_on w (world_of board h) board on Master o step place l there)
    stays_on (Act on (ByLane k) o step place) run l there = left_on on o step place k run l (lane_outcome board k o step) refl there
    stays_on (Arrive lane mark) run l there =
        let e : Event = Arrive lane mark in
        or_left (is_on_lane w (world_of board (e ∷ h)) l) (covered board w op (e ∷ h) (end_of board l)) (arrives_on w (world_of board h) lane mark l there)

    -- of the lanes of a way
    way_covered : (e : Event) (run : Run board (e ∷ h)) (lanes : List BridgeLane) (on : ℕ) → lanes ≡ way board op on → list_any (is_on_lane w (world_of board h)) lanes ≡ true → covered_by w (has_landed (e ∷ h) w) (world_of board (e ∷ h)) lanes ≡ true
    way_covered e run [] on is there = cc
    way_covered e run (first ∷ lanes) on is there =
        let goes = way_cons board op on first lanes tree is in
        let now : World = world_of board (e ∷ h) in
        let landed : Bool = has_landed (e ∷ h) w in
        let here : Bool = is_on_lane w now first in
        let rest : Bool = list_any (is_on_lane w now) lanes in
        let Goal : Type 0 = (landed || (here || rest)) ≡ true in
        let of_rest : (landed || rest) ≡ true → Goal = λ some. or_either Goal landed rest (λ f. or_left landed (here || rest) f) (λ f. or_right landed (here || rest) (or_right here rest f)) some in
        or_either Goal (is_on_lane w (world_of board h) first) (list_any (is_on_lane w (world_of board h)) lanes)
        (λ on_first.
        or_either Goal here (covered board w op (e ∷ h) (end_of board first))
        (λ f. or_right landed (here || rest) (or_left here rest f))
        (λ f. of_rest (subst (λ ls. covered_by w landed now ls ≡ true) (sym goes.later) f))
        (stays_on e run first on_first))
        (λ on_later. of_rest (way_covered e run lanes (end_of board first) goes.later on_later))
        there

    -- a bus that is covered stays so
    pub kept_covered : (e : Event) (on : ℕ) → Run board (e ∷ h) → covered board w op h on ≡ true → covered board w op (e ∷ h) on ≡ true
    kept_covered e on run is =
        or_either (covered board w op (e ∷ h) on ≡ true) (has_landed h w) (list_any (is_on_lane w (world_of board h)) (way board op on))
        (λ landed. or_left (has_landed (e ∷ h) w) (list_any (is_on_lane w (world_of board (e ∷ h))) (way board op on)) (or_right (is_land_of w e) (has_landed h w) landed))
        (λ there. way_covered e run (way board op on) on refl there)
        is
