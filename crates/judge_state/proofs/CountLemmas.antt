-- After one more event what is kept of turns and tokens is what the history made.
use Rattle.std.proofs.Common.{◌≡◌, ◌≢◌, ℕ, Bool, true, false, ◌+◌, ◌-◌, ◌<◌, ◌==◌, length, List, ◌∷◌, Option, None, Some, refl, sym, ap, subst, ◌∙◌, arith, if◌then◌else◌, inl, inr}
use Rattle.std.specs.Prelude.{slice_get}
use Rattle.std.proofs.lemmas.Bool.Decides.{nat_tests}
use Rattle.std.proofs.lemmas.Option.{slice_get_cases}
use Rattle.pci_command.specs.declared.op_id.OpId.{OpId}
use Rattle.pci_command.specs.declared.op_id.Outcome.{Outcome}
use Rattle.board_model.specs.declared.board.Board.{Board}
use Rattle.board_model.specs.declared.agents.Target.{Target as TargetAgent}
use Rattle.board_model.specs.declared.bridge.Place.{Place}
use Rattle.board_model.specs.declared.bridge.Place.TheVariants.{Target, Header, Lane, Nobody}
use Rattle.history_model.specs.declared.event.By.TheVariants.{Master, Lane as ByLane}
use Rattle.history_model.specs.declared.event.Step.{Step}
use Rattle.history_model.specs.declared.event.Step.TheVariants.{Land, Part, Read, Accept, Latch, Take, Stall, MasterAbort, TargetAbort}
use Rattle.history_model.specs.declared.event.Event.{Event}
use Rattle.history_model.specs.declared.event.Event.TheVariants.{Act, Arrive}
use Rattle.history_model.specs.Program.{turn_of, turn_after, ended, ending_of, master_outcome}
use Rattle.history_model.specs.Answers.{stalls_used, stalls_in}
use Rattle.judge_state.specs.State.{turn_in, flat, turns_next, token_used, tokens_by, tokens_next}
use Rattle.list_facts.specs.Lists.{changed_at}
use Rattle.judge_state.proofs.PlaceLemmas.{changed_same, changed_other}

-- the turn of another master stays
other_turn : (board : Board) (master : ℕ) (turn : Option OpId) (o : OpId) (step : Step) → (o.master == master) ≡ false → turn_after board master turn (ending_of o (master_outcome step)) ≡ turn
other_turn board master turn o step differ =
    let P : Option Outcome → Type 0 = λ outcome. turn_after board master turn (ending_of o outcome) ≡ turn in
    elim (master_outcome step) as P [ None ↦ refl | Some outcome ↦ rw differ ]

pub turns_went : (board : Board) (h : List Event) (e : Event) (turns : List (Option OpId)) → ((m : ℕ) → turn_in turns m ≡ turn_of board h m) →
    ((on : ℕ) (o : OpId) (step : Step) (place : Place) → e ≡ Act on Master o step place → o.master < length turns) → (master : ℕ) → turn_in (turns_next board e turns) master ≡ turn_of board (e ∷ h) master
turns_went board h (Act on (ByLane lane) o step place) turns were there master = were master
turns_went board h (Arrive lane mark) turns were there master = were master
turns_went board h (Act on Master o step place) turns were there master =
    let e : Event = Act on Master o step place in
    let f : Option OpId → Option OpId = λ turn. turn_after board o.master turn (ended e) in
    let within : o.master < length turns = there on o step place refl in
    let P : Bool → Type 0 = λ b. (o.master == master) ≡ b → turn_in (changed_at f turns (Some o.master)) master ≡ turn_after board master (turn_of board h master) (ended e) in
    (elim (o.master == master) as P [
      | true ↦ λ same.
          let is : o.master ≡ master = grind (arith, nat_tests) in
          let Q : ℕ → Type 0 = λ m. turn_in (changed_at f turns (Some o.master)) m ≡ turn_after board m (turn_of board h m) (ended e) in
          subst Q is (elim (slice_get_cases turns o.master).1 as (λ _. Q o.master) [
            | inl found ↦
                let was : found.0 ≡ turn_of board h o.master = sym (ap flat found.2) ∙ were o.master in
                ap flat (changed_same f turns o.master found.0 found.2) ∙ ap f was
            | inr past ↦ absurd (omega (arith, past.0))
          ])
      | false ↦ λ differ.
          let apart : master ≢ o.master = λ is. (let yes : (o.master == master) ≡ true = grind (arith, nat_tests) in absurd (cc)) in
          ap flat (changed_other f turns o.master master apart) ∙ were master ∙ sym (other_turn board master (turn_of board h master) o step differ)
    ]) refl

none_used : (target : TargetAgent) (used : ℕ) (tokens : List ℕ) (place : ℕ) → slice_get tokens place ≡ Some (target.stalls - used) → slice_get tokens place ≡ Some (target.stalls - (0 + used))
none_used target used tokens place is = is ∙ ap (λ (n : ℕ). Some (target.stalls - n)) (omega arith)

stalled : (target : TargetAgent) (used : ℕ) (tokens : List ℕ) (at place : ℕ) → slice_get tokens place ≡ Some (target.stalls - used) →
    slice_get (token_used tokens at) place ≡ Some (target.stalls - ((if at == place then 1 else 0) + used))
stalled target used tokens at place is =
    let f : ℕ → ℕ = λ n. n - 1 in
    let P : Bool → Type 0 = λ b. (at == place) ≡ b → slice_get (changed_at f tokens (Some at)) place ≡ Some (target.stalls - ((if b then 1 else 0) + used)) in
    (elim (at == place) as P [
      | true ↦ λ same.
          let one : place ≡ at = grind (arith, nat_tests) in
          let there : slice_get tokens at ≡ Some (target.stalls - used) = subst (λ (n : ℕ). slice_get tokens n ≡ Some (target.stalls - used)) one is in
          rw one (changed_same f tokens at (target.stalls - used) there ∙ ap (λ (n : ℕ). Some n) (omega arith))
      | false ↦ λ differ.
          let apart : place ≢ at = λ one. (let yes : (at == place) ≡ true = grind (arith, nat_tests) in absurd (cc)) in
          changed_other f tokens at place apart ∙ none_used target used tokens place is
    ]) refl

pub tokens_went : (h : List Event) (e : Event) (tokens : List ℕ) (place : ℕ) (target : TargetAgent) → slice_get tokens place ≡ Some (target.stalls - stalls_used h place) →
    slice_get (tokens_next e tokens) place ≡ Some (target.stalls - stalls_used (e ∷ h) place)
tokens_went h (Arrive lane mark) tokens place target is = none_used target (stalls_used h place) tokens place is
tokens_went h (Act on by o step at) tokens place target is = of_step step at where
  of_step : (step : Step) (at : Place) → slice_get (tokens_by tokens step at) place ≡ Some (target.stalls - (stalls_in place at step + stalls_used h place))
  of_step Land at = none_used target (stalls_used h place) tokens place is
  of_step (Part phases) at = none_used target (stalls_used h place) tokens place is
  of_step (Read value) at = none_used target (stalls_used h place) tokens place is
  of_step Accept at = none_used target (stalls_used h place) tokens place is
  of_step Latch at = none_used target (stalls_used h place) tokens place is
  of_step (Take outcome) at = none_used target (stalls_used h place) tokens place is
  of_step MasterAbort at = none_used target (stalls_used h place) tokens place is
  of_step TargetAbort at = none_used target (stalls_used h place) tokens place is
  of_step Stall (Target t) = stalled target (stalls_used h place) tokens t place is
  of_step Stall (Header bus) = none_used target (stalls_used h place) tokens place is
  of_step Stall (Lane lane) = none_used target (stalls_used h place) tokens place is
  of_step Stall Nobody = none_used target (stalls_used h place) tokens place is
