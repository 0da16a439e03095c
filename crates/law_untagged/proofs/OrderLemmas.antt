-- Fronts of a run on bridges that keep no local master, and that an operation ends once.
use Rattle.std.proofs.Common.{◌≡◌, true, false, List, [], ◌∷◌, ◌++◌, Option, Some, None, is_some, refl, sym, subst, ◌∙◌}
use Rattle.pci_command.specs.declared.op_id.OpId.{OpId}
use Rattle.pci_command.specs.declared.op_id.Outcome.{Outcome}
use Rattle.board_model.specs.declared.board.Board.{Board}
use Rattle.history_model.specs.declared.event.Event.{Event}
use Rattle.history_model.specs.declared.rule.Rule.TheVariants.{Untagged}
use Rattle.history_model.specs.Program.{ended, turn_of}
use Rattle.history_model.specs.Knowledge.{ends_as, has_ended, stands_after}
use Rattle.law_fresh.proofs.Laws.{behind_self, IsBehind, Begun, ends_turn, Begun-kept, event_behind, ended_behind, ends_as_ended, Front, or_either}
use Rattle.law_untagged.specs.Untagged.{UntaggedRun}

-- Fronts.

pub run_along : (board : Board) (later h : List Event) → UntaggedRun board (later ++ h) → UntaggedRun board h
run_along board [] h run = run
run_along board (e ∷ later) h run = run_along board later h run.1

-- the run before, as `front_run` has it of bridges that keep them
pub run_front : (board : Board) (before h : List Event) → Front before h → UntaggedRun board h → UntaggedRun board before
run_front board before h front run = run_along board front.later before (subst (UntaggedRun board) (sym front.is) run)

begun_along : (board : Board) (later before : List Event) (q : OpId) → UntaggedRun board (later ++ before) → Begun board before q → Begun board (later ++ before) q
begun_along board [] before q run begun = begun
begun_along board (e ∷ later) before q run begun = Begun-kept Untagged board e (later ++ before) q run (begun_along board later before q run.1 begun)

pub front_begun : (board : Board) (before h : List Event) (q : OpId) → Front before h → UntaggedRun board h → Begun board before q → Begun board h q
front_begun board before h q front run begun =
    subst (λ g. Begun board g q) front.is (begun_along board front.later before q (subst (UntaggedRun board) (sym front.is) run) begun)

-- Ends.

-- an event that ends the operation
pub record Ends (p : OpId) (e : Event) : Type 0 where
  pub outcome : Outcome
  pub is : ended e ≡ Some (record { op = p; outcome = outcome })

pub ends_some : (p : OpId) (e : Event) → is_some (ends_as p e) ≡ true → Ends p e
ends_some p e some =
    let P : Option Outcome → Type 0 = λ given. ends_as p e ≡ given → is_some given ≡ true → Ends p e in
    (elim (ends_as p e) as P [ None ↦ λ _ f. cc | Some outcome ↦ λ is _. record { outcome = outcome; is = ends_as_ended p e outcome is } ]) refl some

-- what ended is never a turn again
pub has_ended_behind : (board : Board) (h : List Event) (p : OpId) → UntaggedRun board h → has_ended h p ≡ true → IsBehind p (turn_of board h p.master)
has_ended_behind board [] p run is = cc
has_ended_behind board (e ∷ h) p run is =
    or_either (IsBehind p (turn_of board (e ∷ h) p.master)) (is_some (ends_as p e)) (has_ended h p)
    (λ here. let ends = ends_some p e here in ended_behind board e h (record { op = p; outcome = ends.outcome }) ends.is)
    (λ older. event_behind Untagged board e h p p.master run (has_ended_behind board h p run.1 older)) is

pub ends_once : (board : Board) (e : Event) (h : List Event) (p : OpId) → UntaggedRun board (e ∷ h) → has_ended h p ≡ true → is_some (ends_as p e) ≡ true → ⊥
ends_once board e h p run old again =
    let ends = ends_some p e again in
    let turn : turn_of board h p.master ≡ Some p = ends_turn Untagged board e h (record { op = p; outcome = ends.outcome }) run ends.is in
    let behind : stands_after p p ≡ true = subst (IsBehind p) turn (has_ended_behind board h p run.1 old) in
    let e : true ≡ false = sym behind ∙ behind_self p in
    cc
