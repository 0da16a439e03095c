-- Event by event: the journeys so far, and what is kept of the run.
use Rattle.std.proofs.Common.{◌≡◌, ℕ, ◌+◌, ◌<◌, ◌≤◌, List, ◌∷◌, length, take, get_or, sym, ap, subst, ◌∙◌, arith}
use Rattle.std.proofs.lemmas.List.{length-reverse, length-take-le, take_all}
use Rattle.board_model.specs.declared.board.Board.{Board}
use Rattle.history_model.specs.declared.event.Event.{Event}
use Rattle.history_model.specs.World.{World, world_of}
use Rattle.history_model.specs.Runs.{Run, Allowed, history_of}
use Rattle.judge_lanes.proofs.RoomLemmas.{history_more, run_front}
use Rattle.judge_state.specs.State.{KeptState}
use Rattle.judge_state.specs.Stands.{StandsFor}
use Rattle.draw_items.specs.declared.journey.Journey.{Journey}
use Rattle.draw_journeys.specs.Journeys.{ShowsRun}
use Rattle.draw_journeys.specs.Steps.{next, journeys_by}
use Rattle.draw_journeys.proofs.RunLemmas.{shows_run}

-- so far, of a run
pub record SoFar (board : Board) (events : List Event) (i : ℕ) (js : List Journey) (kept : KeptState) : Type 0 where
  pub stands : StandsFor board (history_of (take i events)) kept
  pub journeys_are : js ≡ journeys_by board (history_of (take i events))

-- the next event is allowed
pub allowed_next : (board : Board) (events : List Event) (i : ℕ) (d : Event) → Run board (history_of events) → i < length events → Allowed board (history_of (take i events)) (get_or events i d)
allowed_next board events i d run within = (subst (Run board) (history_more events i d within) (run_front board events (i + 1) run)).0

pub so_far_next : (board : Board) (events : List Event) (i n : ℕ) (d : Event) (js new : List Journey) (kept after : KeptState) → i < length events → n ≡ i + 1 → SoFar board events i js kept
    → new ≡ next board (world_of board (history_of (take i events))) n (get_or events i d) js → StandsFor board (get_or events i d ∷ history_of (take i events)) after → SoFar board events (i + 1) new after
so_far_next board events i n d js new kept after within number so is stands =
    let e : Event = get_or events i d in
    let h : List Event = history_of (take i events) in
    let world : World = world_of board h in
    let long : length h ≡ i = length-reverse (take i events) ∙ length-take-le i events (omega (arith, within)) in
    let count : n ≡ length h + 1 = omega (arith, long, number) in
    let more : history_of (take (i + 1) events) ≡ e ∷ h = history_more events i d within in
    record {
      stands = subst (λ (g : List Event). StandsFor board g after) (sym more) stands;
      journeys_are = is ∙ ap (λ (k : ℕ). next board world k e js) count ∙ ap (λ (l : List Journey). next board world (length h + 1) e l) so.journeys_are ∙ ap (λ (g : List Event). journeys_by board g) (sym more);
    }

-- of all events
pub so_far_is : (board : Board) (events : List Event) (i : ℕ) (js : List Journey) (kept : KeptState) → length events ≤ i → SoFar board events i js kept → js ≡ journeys_by board (history_of events)
so_far_is board events i js kept past so = so.journeys_are ∙ ap (λ (es : List Event). journeys_by board (history_of es)) (take_all i events past)

pub so_far_all : (board : Board) (events : List Event) (i : ℕ) (js : List Journey) (kept : KeptState) → length events ≤ i → SoFar board events i js kept → ShowsRun board events js
so_far_all board events i js kept past so = subst (ShowsRun board events) (sym (so_far_is board events i js kept past so)) (shows_run board events)
