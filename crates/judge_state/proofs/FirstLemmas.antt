-- What is kept before the first event stands for no events.
use Rattle.std.proofs.Common.{◌≡◌, ℕ, ◌+◌, ◌-◌, ◌<◌, ◌≤◌, length, List, [], ◌∷◌, ◌++◌, Option, None, Some, refl, sym, ap, ◌∙◌, arith, inl, inr, slice_get, below_more}
use Rattle.std.specs.Option.{option_map}
use Rattle.std.proofs.lemmas.Option.{slice_get-map, slice_get_past}
use Rattle.circular_buffer.proofs.Places.{slice_get-append_left, slice_get-append_right, below_or_not}
use Rattle.pci_command.specs.declared.op_id.OpId.{OpId}
use Rattle.board_model.specs.declared.agents.Master.{Master as MasterAgent}
use Rattle.board_model.specs.declared.agents.Target.{Target as TargetAgent}
use Rattle.board_model.specs.declared.op.Op.{Op}
use Rattle.board_model.specs.declared.board.Board.{Board}
use Rattle.board_model.specs.Valid.{IsValid}
use Rattle.board_model.proofs.Laws.{op_there}
use Rattle.history_model.specs.declared.rule.Rule.{Rule}
use Rattle.history_model.specs.Program.{turn_of}
use Rattle.law_lanes.proofs.Laws.{WellFormed-single}
use Rattle.judge_state.specs.State.{KeptState, turn_in}
use Rattle.judge_state.specs.Stands.{StandsForBy}
use Rattle.judge_state.specs.First.{TurnsAtFirst, WordsAtFirst, nothing_on, lanes_at_first, tokens_at_first, gone_at_first}
use Rattle.machine_steps.specs.Counts.{none_of_any}
use Rattle.judge_state.proofs.PlaceLemmas.{place_has}
use Rattle.judge_state.proofs.CoverLemmas.{covers_all}

-- the turns of the masters so far, and of one more
abbrev pub TurnsBelow : Board → ℕ → List (Option OpId) → Type 0
TurnsBelow board n turns = (master : ℕ) → master < n → slice_get turns master ≡ Some (turn_of board [] master)

pub turns_more : (board : Board) (n : ℕ) (turns more : List (Option OpId)) → length turns ≡ n → TurnsBelow board n turns → more ≡ turns ++ turn_of board [] n ∷ [] → TurnsBelow board (n + 1) more
turns_more board n turns more so_far below is =
    let P : ℕ → Type 0 = λ master. slice_get more master ≡ Some (turn_of board [] master) in
    below_more P n
    (λ master within. rw is (slice_get-append_left turns (turn_of board [] n ∷ []) master (omega (arith, so_far, within)) ∙ below master within))
    (rw is (slice_get-append_right turns (turn_of board [] n ∷ []) n 0 (omega (arith, so_far))))

no_turn : (board : Board) (master : ℕ) → length board.masters ≤ master → turn_of board [] master ≡ None
no_turn board master past =
    let none : slice_get board.masters master ≡ None = slice_get_past board.masters master past in
    rw none refl

pub turns_first : (board : Board) (turns : List (Option OpId)) → length turns ≡ length board.masters → TurnsBelow board (length turns) turns → TurnsAtFirst board turns
turns_first board turns all below =
    record {
      each = λ master.
          elim (below_or_not master (length turns)) as (λ _. turn_in turns master ≡ turn_of board [] master) [
            | inl within ↦ rw (below master within) refl
            | inr past ↦
                let none : slice_get turns master ≡ None = slice_get_past turns master past in
                rw none (sym (no_turn board master (omega (arith, all, past))))
          ];
      masters = all;
    }

-- each part stands for no events, so all do
pub stands_first : (rule : Rule) (board : Board) (k : KeptState) → k.rule ≡ rule → IsValid board → TurnsAtFirst board k.turns → k.lanes ≡ lanes_at_first board → k.tokens ≡ tokens_at_first board → k.gone ≡ gone_at_first board
    → WordsAtFirst board (record { places = k.places; values = k.values }) → StandsForBy rule board [] k
stands_first rule board k rule_is valid turns lanes tokens gone words =
    record {
      rule_is = rule_is;
      run = tt;
      turns = turns.each;
      masters = turns.masters;
      lanes = λ bus place at.
          let there = place_has board bus place at in
          rw lanes (slice_get-map nothing_on board.bridges place ∙ ap (option_map nothing_on) there.1);
      tokens = λ place target at.
          let stalls : TargetAgent → ℕ = λ (t : TargetAgent). t.stalls in
          let none : target.stalls ≡ target.stalls - 0 = omega arith in
          rw tokens (slice_get-map stalls board.targets place ∙ ap (option_map stalls) at ∙ ap (λ (n : ℕ). Some n) none);
      gone = λ o op is.
          let there = op_there board o op is in
          let counts : MasterAgent → List ℕ = λ (m : MasterAgent). none_of_any m.ops in
          let count : Op → ℕ = λ (one : Op). 0 in
          let row : slice_get k.gone o.master ≡ Some (none_of_any there.master.ops) = rw gone (slice_get-map counts board.masters o.master ∙ ap (option_map counts) there.is_master) in
          rw row (slice_get-map count there.master.ops o.index ∙ ap (option_map count) there.is_op);
      words = words.known.opens;
      apart = words.known.apart;
      covers = covers_all rule board k.places valid (WellFormed-single board valid.well_formed) words.reads;
    }
