-- The journeys of a history show, at each moment of it, what the machine has on each lane.
use Rattle.std.proofs.Common.{◌≡◌, ℕ, ◌+◌, ◌<◌, ◌≤◌, zero, suc, List, [], ◌∷◌, length, take, get_or, reverse, refl, sym, ap, subst, ◌∙◌, arith, inl, inr}
use Rattle.std.proofs.lemmas.Bool.{cases_lt}
use Rattle.std.proofs.lemmas.List.{length-reverse, length-take-le, take_all, take_more, reverse-append}
use Rattle.board_model.specs.declared.bridge.Lane.{Lane as BridgeLane}
use Rattle.board_model.specs.declared.bridge.Place.TheVariants.{Nobody}
use Rattle.board_model.specs.declared.board.Board.{Board}
use Rattle.history_model.specs.declared.event.By.TheVariants.{Master}
use Rattle.history_model.specs.declared.event.Step.TheVariants.{Land}
use Rattle.history_model.specs.declared.event.Event.{Event}
use Rattle.history_model.specs.declared.event.Event.TheVariants.{Act}
use Rattle.history_model.specs.World.{world_of}
use Rattle.history_model.specs.Runs.{history_of}
use Rattle.draw_items.specs.declared.journey.Journey.{Journey}
use Rattle.draw_journeys.specs.Journeys.{ShowsRun}
use Rattle.draw_journeys.specs.Steps.{next, journeys_by}
use Rattle.draw_journeys.proofs.SeenLemmas.{Seen, on_lane}
use Rattle.draw_journeys.proofs.KeepLemmas.{Ordered, Within, Saw, sees_at, next_keeps, order_keeps, past_keeps, within_keeps, within_more, sees_now}
use Rattle.draw_journeys.proofs.AgreeLemmas.{Agrees, agree_next}

-- one more event of a trace is the newest of its history
history_more : (events : List Event) (i : ℕ) (d : Event) → i < length events → history_of (take (i + 1) events) ≡ get_or events i d ∷ history_of (take i events)
history_more events i d within =
    ap (λ (xs : List Event). reverse xs) (take_more events i d within) ∙ reverse-append (take i events) (get_or events i d ∷ [])

-- after the first k events
record ShowsFirst (board : Board) (events : List Event) (k : ℕ) (js : List Journey) : Type 0 where
  order : Ordered js
  within : Within k js
  agrees : Agrees (world_of board (history_of (take k events))) js
  past : (m : ℕ) (l : BridgeLane) → m ≤ k → sees_at m l js ≡ on_lane (world_of board (history_of (take m events)) l)

-- the journeys of the first k events
abbrev first_journeys : Board → List Event → ℕ → List Journey
first_journeys board events k = journeys_by board (history_of (take k events))

some_event : Event
some_event = Act 0 Master (record { master = 0; index = 0; attempt = 0 }) Land Nobody

shows_more : (board : Board) (events : List Event) (k : ℕ) → k < length events → ShowsFirst board events k (first_journeys board events k) → ShowsFirst board events (k + 1) (first_journeys board events (k + 1))
shows_more board events k within shows =
    let e : Event = get_or events k some_event in
    let h : List Event = history_of (take k events) in
    let n : ℕ = length h + 1 in
    let js : List Journey = journeys_by board h in
    let new : List Journey = next board (world_of board h) n e js in
    let long : length h ≡ k = length-reverse (take k events) ∙ length-take-le k events (omega (arith, within)) in
    let number : n ≡ k + 1 = omega (arith, long) in
    let some : 0 < n = omega arith in
    let more : history_of (take (k + 1) events) ≡ e ∷ h = history_more events k some_event within in
    let old : Within n js = subst (λ (i : ℕ). Within i js) (sym number) (within_more k js shows.within) in
    let inside : Within n new = next_keeps board (world_of board h) n (Within n) (within_keeps n) e js old in
    let agrees : Agrees (world_of board (e ∷ h)) new = agree_next board (world_of board h) n e js some shows.order shows.agrees in
    let past : (m : ℕ) (l : BridgeLane) → m ≤ k → sees_at m l new ≡ on_lane (world_of board (history_of (take m events)) l) = λ m l before.
    next_keeps board (world_of board h) n (Saw m l (on_lane (world_of board (history_of (take m events)) l))) (past_keeps m n l _ (omega (arith, before, number))) e js (shows.past m l before) in
    let now : (l : BridgeLane) → sees_at (k + 1) l new ≡ on_lane (world_of board (history_of (take (k + 1) events)) l) = λ l.
    ap (λ (i : ℕ). sees_at i l new) (sym number) ∙ sees_now n l new inside ∙ agrees l ∙ ap (λ (g : List Event). on_lane (world_of board g l)) (sym more) in
    subst (λ (g : List Event). ShowsFirst board events (k + 1) (journeys_by board g)) (sym more) (record {
      order = next_keeps board (world_of board h) n Ordered (order_keeps n some) e js shows.order;
      within = subst (λ (i : ℕ). Within i new) number inside;
      agrees = subst (λ (g : List Event). Agrees (world_of board g) new) (sym more) agrees;
      past = λ m l before. elim (cases_lt m (k + 1)) as (λ _. sees_at m l new ≡ on_lane (world_of board (history_of (take m events)) l)) [
        | inl below ↦ past m l (omega (arith, below))
        | inr above ↦
            let last : m ≡ k + 1 = omega (arith, above, before) in
            subst (λ (i : ℕ). sees_at i l new ≡ on_lane (world_of board (history_of (take i events)) l)) (sym last) (now l)
      ];
    })

shows_first : (board : Board) (events : List Event) (k : ℕ) → k ≤ length events → ShowsFirst board events k (first_journeys board events k)
shows_first board events zero within = record {
  order = λ l. tt;
  within = tt;
  agrees = λ l. refl;
  past = λ m l before.
      let none : m ≡ 0 = omega (arith, before) in
      subst (λ (i : ℕ). sees_at i l [] ≡ on_lane (world_of board (history_of (take i events)) l)) (sym none) refl;
}
shows_first board events (suc k) within =
    let e : k + 1 ≡ suc k = omega arith in
    subst (λ (i : ℕ). ShowsFirst board events i (first_journeys board events i)) e (shows_more board events k (omega (arith, within)) (shows_first board events k (omega (arith, within))))

-- the theorem: of all events, whoever allowed them
pub shows_run : (board : Board) (events : List Event) → ShowsRun board events (journeys_by board (history_of events))
shows_run board events =
    let all : take (length events) events ≡ events = take_all (length events) events (omega arith) in
    let whole : ShowsFirst board events (length events) (journeys_by board (history_of events)) =
    subst (λ (es : List Event). ShowsFirst board events (length events) (journeys_by board (history_of es))) all (shows_first board events (length events) (omega arith)) in
    record {
      flight = λ n l before. ap (λ (s : Seen). s.flight) (whole.past n l before);
      standing = λ n l before. ap (λ (s : Seen). s.standing) (whole.past n l before);
      ends = whole.within;
    }
