-- The first arrival of a run, and that nothing is in flight where there is none.
use Rattle.std.proofs.Common.{◌≡◌, ◌+◌, ◌<◌, ◌≤◌, List, [], ◌∷◌, ◌++◌, Some, refl, sym, ap, subst, ◌∙◌, arith}
use Rattle.std.proofs.lemmas.List.{reverse-append}
use Rattle.board_model.specs.declared.bridge.Lane.{Lane as BridgeLane}
use Rattle.board_model.specs.declared.board.Board.{Board}
use Rattle.history_model.specs.declared.event.Mark.{Mark}
use Rattle.history_model.specs.declared.event.Event.{Event}
use Rattle.history_model.specs.declared.event.Event.TheVariants.{Act, Arrive}
use Rattle.history_model.specs.declared.item.Carried.{Carried}
use Rattle.history_model.specs.declared.rule.Rule.TheVariants.{Tagged}
use Rattle.history_model.specs.Lanes.{LaneState}
use Rattle.history_model.specs.World.{world_of}
use Rattle.history_model.specs.Left.{left_of}
use Rattle.history_model.specs.Runs.{Allowed, mark_of, mark_of_first, history_of}
use Rattle.history_model.specs.Next.{first_arrival, first_act, next_of}
use Rattle.law_lanes.proofs.progress.NextFirstLemmas.{or_some}
use Rattle.law_early.specs.Early.{acts_of, NothingFlies}
use Rattle.judge_next.specs.declared.course.Course.{Course}
use Rattle.judge_next.specs.Course.{IsCourse, IsArrival}
use Rattle.judge_fill.specs.Filling.{IsEarly}
use Rattle.judge_fill.specs.Arriving.{Arriving, ArrivedNext}

-- the last event of a trace is the newest of its history
pub history_push : (events : List Event) (e : Event) → history_of (events ++ e ∷ []) ≡ e ∷ history_of events
history_push events e = reverse-append events (e ∷ [])

-- where no arrival is allowed nothing is in flight

nothing_in : (board : Board) (lane : BridgeLane) (state : LaneState) (flight : List Carried) → ((mark : Mark) → mark_of_first board lane state flight ≡ Some mark → ⊥) → flight ≡ []
nothing_in board lane state [] none = refl
nothing_in board lane state (item ∷ rest) none = absurd (none (mark_of board lane state item) refl)

pub nothing_flies : (board : Board) (h : List Event) → ((lane : BridgeLane) (mark : Mark) → Allowed board h (Arrive lane mark) → ⊥) → NothingFlies Tagged board h
nothing_flies board h none lane = nothing_in board lane (world_of board h lane) (world_of board h lane).flight (none lane)

-- A run goes on by its first arrival.

pub arrived_next : (board : Board) (h : List Event) (e : Event) (course : Course) → Some e ≡ first_arrival board h → IsArrival e → IsCourse board (e ∷ h) course
    → left_of board (e ∷ h) + 1 ≤ left_of board h → ArrivedNext board h course e
arrived_next board h (Act on by o step place) course first arrives goes lowers = absurd arrives
arrived_next board h (Arrive lane mark) course first arrives goes lowers =
    record { lane = lane; mark = mark; is = refl; next = or_some (first_arrival board h) (first_act board h) (Arrive lane mark) (sym first); course_is = goes; lowers = lowers }

-- Arrivals so far.

pub arriving_none : (board : Board) (whole : List Event) (course : Course) → IsCourse board (history_of whole) course → Arriving board (history_of whole) whole course
arriving_none board whole course goes = record { course_is = goes; same_acts = refl; early = λ early. early }

arrival_more : (board : Board) (h : List Event) (e : Event) (lane : BridgeLane) (mark : Mark) → e ≡ Arrive lane mark → next_of board h ≡ Some e → IsEarly board h → (acts_of (e ∷ h) ≡ acts_of h) × IsEarly board (e ∷ h)
arrival_more board h (Act on by o step place) lane mark is next early = cc
arrival_more board h (Arrive on other) lane mark is next early = (refl, (next, early))

pub arriving_more : (board : Board) (h whole longer : List Event) (e : Event) (course later : Course) → longer ≡ whole ++ e ∷ []
    → Arriving board h whole course → ArrivedNext board (history_of whole) later e → Arriving board h longer later
arriving_more board h whole longer e course later is arriving next =
    let same : history_of longer ≡ e ∷ history_of whole = ap history_of is ∙ history_push whole e in
    let acts : acts_of (e ∷ history_of whole) ≡ acts_of (history_of whole) = subst (λ a. acts_of (a ∷ history_of whole) ≡ acts_of (history_of whole)) (sym next.is) refl in
    record {
      course_is = subst (λ g. IsCourse board g later) (sym same) next.course_is;
      same_acts = ap acts_of same ∙ (acts ∙ arriving.same_acts);
      early = λ early. subst (IsEarly board) (sym same) (arrival_more board (history_of whole) e next.lane next.mark next.is next.next (arriving.early early)).1;
    }

-- less is left
pub left_fell : (board : Board) (whole longer : List Event) (e : Event) → longer ≡ whole ++ e ∷ []
    → left_of board (e ∷ history_of whole) + 1 ≤ left_of board (history_of whole) → left_of board (history_of longer) < left_of board (history_of whole)
left_fell board whole longer e is falls =
    let same : history_of longer ≡ e ∷ history_of whole = ap history_of is ∙ history_push whole e in
    let fewer : left_of board (e ∷ history_of whole) < left_of board (history_of whole) = omega (arith, falls) in
    subst (λ (h : List Event). left_of board h < left_of board (history_of whole)) (sym same) fewer
