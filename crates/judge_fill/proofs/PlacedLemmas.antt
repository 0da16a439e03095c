-- A run of the acts so far, with all arrivals behind each; and an act that is not allowed after it is in no run.
use Rattle.std.proofs.Common.{◌≡◌, ℕ, suc, ◌+◌, ◌<◌, ◌≤◌, List, [], ◌∷◌, ◌++◌, length, take, drop, get_or, Err, Some, refl, sym, ap, subst, ◌∙◌, arith}
use Rattle.std.proofs.lemmas.List.{take-append-drop, length-take-le, length-reverse}
use Rattle.std.proofs.Math.Seq.{drop-cons}
use Rattle.pci_command.specs.declared.op_id.OpId.{OpId}
use Rattle.board_model.specs.declared.board.Board.{Board}
use Rattle.board_model.specs.declared.bridge.Lane.{Lane as BridgeLane}
use Rattle.board_model.specs.declared.bridge.Place.{Place}
use Rattle.board_model.specs.Ways.{bound_of}
use Rattle.board_model.specs.Valid.{IsValid}
use Rattle.history_model.specs.declared.event.By.{By}
use Rattle.history_model.specs.declared.event.Mark.{Mark}
use Rattle.history_model.specs.declared.event.Step.{Step}
use Rattle.history_model.specs.declared.event.Event.{Event}
use Rattle.history_model.specs.declared.event.Event.TheVariants.{Act, Arrive}
use Rattle.history_model.specs.declared.why.Why.{Why}
use Rattle.history_model.specs.declared.rule.Rule.TheVariants.{Tagged}
use Rattle.history_model.specs.Runs.{Run, Allowed, history_of}
use Rattle.machine_steps.specs.Verdicts.{Holds}
use Rattle.machine_steps.proofs.VerdictLemmas.{allowed_exactly}
use Rattle.judge_lanes.proofs.RoomLemmas.{history_more}
use Rattle.law_early.specs.Early.{acts_of}
use Rattle.law_early.proofs.Laws.{lined_any_order, lined_complete_any}
use Rattle.judge_next.specs.declared.course.Course.{Course}
use Rattle.judge_fill.specs.Filling.{PlacedEarly, Fills, ActRefused}
use Rattle.judge_fill.specs.Arriving.{Arrived}

-- before the first event
pub placed_none : (board : Board) (whole : List Event) → whole ≡ [] → PlacedEarly board [] whole
placed_none board whole none =
    let start : PlacedEarly board [] [] = record { run = tt; same_acts = refl; early = tt; landed = λ lane. refl } in
    subst (PlacedEarly board []) (sym none) start

-- an arrival that was read is left away
pub placed_arrival : (board : Board) (events whole : List Event) (i : ℕ) (d : Event) (lane : BridgeLane) (mark : Mark) → i < length events → get_or events i d ≡ Arrive lane mark
    → PlacedEarly board (take i events) whole → PlacedEarly board (take (i + 1) events) whole
placed_arrival board events whole i d lane mark within is placed =
    let more = history_more events i d within in
    let acts : acts_of (get_or events i d ∷ history_of (take i events)) ≡ acts_of (history_of (take i events)) =
    subst (λ e. acts_of (e ∷ history_of (take i events)) ≡ acts_of (history_of (take i events))) (sym is) refl in
    record { run = placed.run; same_acts = placed.same_acts ∙ sym (ap acts_of more ∙ acts); early = placed.early; landed = placed.landed }

-- an act, with the arrivals behind it
pub placed_act : (board : Board) (events whole longer : List Event) (i : ℕ) (d : Event) (on : ℕ) (by : By) (o : OpId) (step : Step) (place : Place) (course : Course)
    → i < length events → get_or events i d ≡ Act on by o step place → PlacedEarly board (take i events) whole → Arrived board (get_or events i d ∷ history_of whole) longer course
    → PlacedEarly board (take (i + 1) events) longer
placed_act board events whole longer i d on by o step place course within is placed arrived =
    let e : Event = Act on by o step place in
    let there : Arrived board (e ∷ history_of whole) longer course = subst (λ a. Arrived board (a ∷ history_of whole) longer course) is arrived in
    let more : history_of (take (i + 1) events) ≡ e ∷ history_of (take i events) = history_more events i d within ∙ ap (λ (a : Event). a ∷ history_of (take i events)) is in
    record {
      run = there.arriving.course_is.stands.run;
      same_acts = there.arriving.same_acts ∙ (ap (λ (a : List Event). e ∷ a) placed.same_acts ∙ sym (ap acts_of more));
      early = there.arriving.early (placed.landed, placed.early);
      landed = there.landed;
    }

-- the front of a run whose acts are the later part of its acts
record Front (board : Board) (acts : List Event) : Type 0 where
  h : List Event
  run : Run board h
  same : acts_of h ≡ acts

front : (board : Board) (h later acts : List Event) → Run board h → acts_of h ≡ later ++ acts → Front board acts
front board h [] acts run same = record { h = h; run = run; same = same }
front board [] (a ∷ later) acts run same = cc
front board (Act on by o step place ∷ h) (a ∷ later) acts run same = let rest : acts_of h ≡ later ++ acts = cc in front board h later acts run.1 rest
front board (Arrive lane mark ∷ h) (a ∷ later) acts run same = front board h (a ∷ later) acts run.1 same

-- what is refused is not allowed
refused_not : (board : Board) (h : List Event) (e : Event) (why : Why) → Holds board h e (Some why) → Allowed board h e → ⊥
refused_not board h e why cause allowed =
    let exact = allowed_exactly board h e (Err why) cause in
    let no = exact.1 allowed in
    absurd cc

-- an act that is not allowed after such a run
pub act_refused : (board : Board) (events whole : List Event) (i : ℕ) (d : Event) (on : ℕ) (by : By) (o : OpId) (step : Step) (place : Place) (why : Why) → IsValid board
    → i < length events → get_or events i d ≡ Act on by o step place → PlacedEarly board (take i events) whole → Holds board (history_of whole) (get_or events i d) (Some why)
    → ActRefused board events (i + 1) why
act_refused board events whole i d on by o step place why valid within is placed cause =
    let before : List Event = take i events in
    let act : Event = get_or events i d in
    record {
      before = before;
      act = act;
      after = drop (suc i) events;
      split = sym (take-append-drop i events) ∙ ap (λ (l : List Event). before ++ l) (drop-cons events i d within);
      number_is = ap (λ (n : ℕ). n + 1) (sym (length-take-le i events (omega arith)));
      is_act = subst (λ e. acts_of (e ∷ []) ≡ e ∷ []) (sym is) refl;
      filled = whole;
      placed = placed;
      cause = cause;
      no_run = λ h later run same.
          let there : Front board (act ∷ acts_of (history_of before)) = front board h later (act ∷ acts_of (history_of before)) run same in
          let acts : acts_of there.h ≡ act ∷ acts_of (history_of whole) = there.same ∙ ap (λ (a : List Event). act ∷ a) (sym placed.same_acts) in
          refused_not board (history_of whole) act why cause (lined_any_order Tagged board valid there.h (history_of whole) act there.run placed.run placed.landed acts);
    }

-- a run of all acts
pub fills : (board : Board) (events whole : List Event) → IsValid board → length (history_of whole) ≤ bound_of board → PlacedEarly board events whole → Fills board events whole
fills board events whole valid bounded placed =
    record {
      placed = placed;
      bound = subst (λ n. n ≤ bound_of board) (length-reverse whole) bounded;
      complete = λ h run same complete. lined_complete_any board valid h (history_of whole) run placed.run placed.landed (same ∙ sym placed.same_acts) complete;
    }
