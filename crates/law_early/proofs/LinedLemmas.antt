-- On every valid board, whatever lines drop requests and discard completions: the acts of a run, with early arrivals, are
-- a run.
use Rattle.std.proofs.Common.{◌≡◌, ℕ, true, false, List, [], ◌∷◌, ◌++◌, append-nil, refl, sym, ap, subst, ◌∙◌}
use Rattle.list_facts.proofs.EachLemmas.{Each-weaker}
use Rattle.pci_command.specs.declared.op_id.OpId.{OpId}
use Rattle.pci_command.specs.declared.op_id.Outcome.{Outcome}
use Rattle.board_model.specs.declared.bridge.Bridge.{Bridge}
use Rattle.board_model.specs.declared.bridge.Lane.{Lane as BridgeLane}
use Rattle.board_model.specs.declared.bridge.Place.{Place}
use Rattle.board_model.specs.declared.bridge.Place.TheVariants.{Lane}
use Rattle.board_model.specs.declared.board.Board.{Board}
use Rattle.board_model.specs.Ways.{Dword, start_of}
use Rattle.board_model.specs.Valid.{IsValid}
use Rattle.history_model.specs.declared.event.By.{By}
use Rattle.history_model.specs.declared.event.Step.{Step}
use Rattle.history_model.specs.declared.event.Step.TheVariants.{Take}
use Rattle.history_model.specs.declared.event.Event.{Event}
use Rattle.history_model.specs.declared.event.Event.TheVariants.{Act, Arrive}
use Rattle.history_model.specs.declared.item.Carried.{Carried}
use Rattle.history_model.specs.declared.item.Answer.TheVariants.{Gives}
use Rattle.history_model.specs.declared.rule.Rule.{Rule}
use Rattle.history_model.specs.declared.rule.Rule.TheVariants.{Tagged}
use Rattle.history_model.specs.Lanes.{LaneState}
use Rattle.history_model.specs.World.{World, noted, world_by, world_of}
use Rattle.history_model.specs.Program.{turn_of}
use Rattle.history_model.specs.Words.{through, without, value_of}
use Rattle.history_model.specs.Answers.{wants_in_by, answer_in}
use Rattle.history_model.specs.Runs.{AllowedBy, RunBy, Run, IsIdle, Complete}
use Rattle.law_lanes.specs.Depths.{DifferentNumbers}
use Rattle.law_lanes.proofs.Laws.{Slots-run_by, claim_starts, WellFormed-numbers}
use Rattle.history_model.proofs.facts.AnswerLemmas.{answered_in}
use Rattle.law_early.specs.Early.{acts_of, all_arrive, filled, NothingFlies, RunsEarly}
use Rattle.law_early.proofs.ActLemmas.{turn_acts, value_acts, answer_acts, wants_acts}
use Rattle.law_early.proofs.CargoLemmas.{bares, stay, cargo, Alike, AllAlike, alike-self, alike-then, alike-back}
use Rattle.law_early.proofs.CargoMoveLemmas.{TakesFirst, TakesAt, act_alike}
use Rattle.law_early.proofs.CargoArriveLemmas.{arrive_alike}
use Rattle.law_early.proofs.OneSlotLemmas.{TakesSlot, takes_first, takes_slot}
use Rattle.law_early.proofs.CargoAheadLemmas.{landed_cargo, wants_alike, given, answer_alike}
use Rattle.law_early.proofs.OnesLemmas.{ones_of}
use Rattle.law_early.proofs.FillLemmas.{KeptByArrivals, all_keep, all_empty}

-- a run of the same acts, after which the lanes carry the same
pub record Kin (rule : Rule) (board : Board) (h k : List Event) : Type 0 where
  pub run : RunBy rule board k
  pub same_acts : acts_of k ≡ acts_of h
  pub alike : AllAlike board (world_by rule board h) (world_by rule board k)

-- after which nothing is in flight
pub record LandedKin (rule : Rule) (board : Board) (h k : List Event) : Type 0 where
  pub kin : Kin rule board h k
  pub landed : NothingFlies rule board k

kin_kept : (rule : Rule) (board : Board) (h : List Event) → KeptByArrivals rule board (Kin rule board h)
kin_kept rule board h k lane mark next kin =
    let W : World = world_by rule board k in
    let here = arrive_alike board W lane mark next in
    record {
      run = (next, kin.run);
      same_acts = kin.same_acts;
      alike = λ l. alike-then board l (world_by rule board h l) (W l) (world_by rule board (Arrive lane mark ∷ k) l) (kin.alike l) (here l);
    }

all_kin : (rule : Rule) (board : Board) (h k : List Event) → Kin rule board h k → LandedKin rule board h (all_arrive rule board k)
all_kin rule board h k kin = record { kin = all_keep rule board (Kin rule board h) (kin_kept rule board h) k kin; landed = λ l. all_empty rule board k l kin.run }

no_bares : (xs : List Carried) → bares xs ≡ [] → xs ≡ []
no_bares [] none = refl
no_bares (x ∷ xs) none = cc

module _ (rule : Rule) (board : Board) (valid : IsValid board) where
  distinct : DifferentNumbers board
  distinct = WellFormed-numbers board valid.well_formed

  -- an act takes the completion of its own slot
  takes : (h k : List Event) (run : RunBy rule board h) (other : RunBy rule board k) (on : ℕ) (by : By) (o : OpId) (step : Step) (place : Place) → answer_in board (world_by rule board h) h on by o ≡ Gives step place
      → (outcome : Outcome) (lane : BridgeLane) → step ≡ Take outcome → place ≡ Lane lane → TakesSlot board (world_by rule board h) on by o outcome lane
  takes h k run other on by o step place gives outcome lane is_take is_lane =
      let taken : answer_in board (world_by rule board h) h on by o ≡ Gives (Take outcome) (Lane lane) = let a = is_take in let b = is_lane in cc in
      takes_slot board (world_by rule board h) h on by o outcome lane (Slots-run_by rule board h lane run) ((ones_of board valid rule h k run other).first lane) taken

  -- after both runs that of the same operation
  both_take : (h k : List Event) (run : RunBy rule board h) (other : RunBy rule board k) → AllAlike board (world_by rule board h) (world_by rule board k) → NothingFlies rule board k
      → (on : ℕ) (by : By) (o : OpId) (step : Step) (place : Place) → answer_in board (world_by rule board h) h on by o ≡ Gives step place → TakesAt board (world_by rule board h) (world_by rule board k) on by o step place
  both_take h k run other alike landed on by o step place gives outcome lane is_take is_lane =
      let X : World = world_by rule board h in
      let Y : World = world_by rule board k in
      let ones = ones_of board valid rule h k run other in
      let taken : answer_in board X h on by o ≡ Gives (Take outcome) (Lane lane) = let a = is_take in let b = is_lane in cc in
      let at = answered_in board X h on by o (Take outcome) lane taken in
      let starts : start_of board lane ≡ on = claim_starts board on (without (through h o) at.request) lane distinct at.claims in
      let first = takes h k run other on by o step place gives outcome lane is_take is_lane in
      let second = given rule board distinct h k run other alike landed ones on by o outcome lane starts first in
      let there = takes_first board Y on by o outcome lane (Slots-run_by rule board k lane other) (ones.second lane) second.taken in
      record {
        op = first.slot.op;
        one = takes_first board X on by o outcome lane (Slots-run_by rule board h lane run) (ones.first lane) first;
        other = subst (λ p. TakesFirst board Y on by o lane p) second.is_for there;
      }

  -- An act that is allowed after the run is allowed.
  module _ (h k : List Event) (early : LandedKin rule board h k) where
    allowed_too : (on : ℕ) (by : By) (o : OpId) (step : Step) (place : Place) → RunBy rule board (Act on by o step place ∷ h) → AllowedBy rule board k (Act on by o step place)
    allowed_too on by o step place run =
        let X : World = world_by rule board h in
        let Y : World = world_by rule board k in
        let kin = early.kin in
        let ones = ones_of board valid rule h k run.1 kin.run in
        let wanted : wants_in_by rule board X (acts_of k) on by o ≡ true = ap (λ a. wants_in_by rule board X a on by o) kin.same_acts ∙ (sym (wants_acts rule board X h on by o) ∙ run.0.0) in
        let gives : answer_in board X (acts_of k) on (noted rule by) o ≡ Gives step place = ap (λ a. answer_in board X a on (noted rule by) o) kin.same_acts ∙ (sym (answer_acts board X h on (noted rule by) o) ∙ run.0.1) in (
          wants_acts rule board Y k on by o ∙ wants_alike rule board distinct h k run.1 kin.run kin.alike early.landed ones (acts_of k) on by o wanted,
          answer_acts board Y k on (noted rule by) o ∙ answer_alike rule board distinct h k run.1 kin.run kin.alike early.landed ones on (noted rule by) o step place (takes h k run.1 kin.run on (noted rule by) o step place run.0.1) (acts_of k) gives,
        )

    act_too : (on : ℕ) (by : By) (o : OpId) (step : Step) (place : Place) → RunBy rule board (Act on by o step place ∷ h) → Kin rule board (Act on by o step place ∷ h) (Act on by o step place ∷ k)
    act_too on by o step place run =
        let allowed = allowed_too on by o step place run in
        let next : RunBy rule board (Act on by o step place ∷ k) = (allowed, early.kin.run) in
        record {
          run = next;
          same_acts = ap (λ a. Act on by o step place ∷ a) early.kin.same_acts;
          alike = act_alike rule board (world_by rule board h) (world_by rule board k) h k on by o step place run.0.0 allowed.0 (both_take h k run.1 early.kin.run early.kin.alike early.landed on (noted rule by) o step place run.0.1) early.kin.alike;
        }

  -- The acts of a run with early arrivals.
  landed_early : (h : List Event) → RunBy rule board h → LandedKin rule board h (filled rule board (acts_of h))
  landed_early [] run = record { kin = record { run = tt; same_acts = refl; alike = λ l. alike-self board l (world_by rule board [] l) }; landed = λ l. refl }
  landed_early (Act on by o step place ∷ h) run =
      let k : List Event = filled rule board (acts_of h) in
      all_kin rule board (Act on by o step place ∷ h) (Act on by o step place ∷ k) (act_too h k (landed_early h run.1) on by o step place run)
  landed_early (Arrive lane mark ∷ h) run =
      let k : List Event = filled rule board (acts_of h) in
      let early = landed_early h run.1 in
      let W : World = world_by rule board h in
      let V : World = world_by rule board (Arrive lane mark ∷ h) in
      let arrived = arrive_alike board W lane mark run.0 in
      record {
        kin = record {
          run = early.kin.run;
          same_acts = early.kin.same_acts;
          alike = λ l. alike-then board l (V l) (W l) (world_by rule board k l) (alike-back board l (W l) (V l) (arrived l)) (early.kin.alike l);
        };
        landed = early.landed;
      }

  pub lined_runs : (h : List Event) → RunBy rule board h → RunsEarly rule board (acts_of h)
  lined_runs h run = let early = landed_early h run in record { run = early.kin.run; same_acts = early.kin.same_acts; landed = early.landed }

  -- The order in which the lanes are seen to makes no difference: runs of the same acts leave the lanes carrying the same.
  acts_alike : (h k : List Event) → RunBy rule board h → RunBy rule board k → acts_of h ≡ acts_of k → AllAlike board (world_by rule board h) (world_by rule board k)
  acts_alike h k run other same l =
      let W : List Event → LaneState = λ a. world_by rule board (filled rule board a) l in
      let there : Alike board l (world_by rule board h l) (W (acts_of k)) = subst (λ a. Alike board l (world_by rule board h l) (W a)) same ((landed_early h run).kin.alike l) in
      alike-then board l (world_by rule board h l) (W (acts_of k)) (world_by rule board k l) there (alike-back board l (world_by rule board k l) (W (acts_of k)) ((landed_early k other).kin.alike l))

  -- So an act that is in a run behind these acts is allowed after any run of them after which nothing is in flight.
  pub lined_any_order : (h k : List Event) (act : Event) → RunBy rule board h → RunBy rule board k → NothingFlies rule board k → acts_of h ≡ act ∷ acts_of k → AllowedBy rule board k act
  lined_any_order [] k act run other landed same = cc
  lined_any_order (Act on by o step place ∷ h) k act run other landed same =
      let first : Act on by o step place ≡ act = cc in
      let rest : acts_of h ≡ acts_of k = cc in
      let early : LandedKin rule board h k = record { kin = record { run = other; same_acts = sym rest; alike = acts_alike h k run.1 other rest }; landed = landed } in
      subst (λ e. AllowedBy rule board k e) first (allowed_too h k early on by o step place run)
  lined_any_order (Arrive lane mark ∷ h) k act run other landed same = lined_any_order h k act run.1 other landed same

  pub lined_refused : (h : List Event) (act : Event) (acts : List Event) → RunBy rule board h → acts_of h ≡ act ∷ acts → AllowedBy rule board (filled rule board acts) act
  lined_refused [] act acts run same = cc
  lined_refused (Act on by o step place ∷ h) act acts run same =
      let first : Act on by o step place ≡ act = cc in
      let rest : acts_of h ≡ acts = cc in
      let allowed : AllowedBy rule board (filled rule board (acts_of h)) (Act on by o step place) = allowed_too h (filled rule board (acts_of h)) (landed_early h run.1) on by o step place run in
      subst (λ e. AllowedBy rule board (filled rule board acts) e) first (subst (λ a. AllowedBy rule board (filled rule board a) (Act on by o step place)) rest allowed)
  lined_refused (Arrive lane mark ∷ h) act acts run same = lined_refused h act acts run.1 same

  -- Whose turn it is and what the words hold is the same.
  pub lined_turns : (h : List Event) (master : ℕ) → RunBy rule board h → turn_of board (filled rule board (acts_of h)) master ≡ turn_of board h master
  lined_turns h master run =
      turn_acts board (filled rule board (acts_of h)) master ∙ (ap (λ a. turn_of board a master) (landed_early h run).kin.same_acts ∙ sym (turn_acts board h master))

  pub lined_words : (h : List Event) (word : Dword) → RunBy rule board h → value_of board (filled rule board (acts_of h)) word ≡ value_of board h word
  lined_words h word run =
      value_acts board (filled rule board (acts_of h)) word ∙ (ap (λ a. value_of board a word) (landed_early h run).kin.same_acts ∙ sym (value_acts board h word))

-- A complete run stays complete.
lane_idle : (board : Board) (h k : List Event) → LandedKin Tagged board h k → (l : BridgeLane) → IsIdle (world_of board h l) → IsIdle (world_of board k l)
lane_idle board h k early l idle =
    let x : LaneState = world_of board h l in
    let y : LaneState = world_of board k l in
    let none : cargo board l x ≡ [] = ap (λ f. bares x.standing ++ stay board l x.asks x.dones f) idle.0 ∙ (append-nil (bares x.standing) ∙ ap bares idle.1) in
    (early.landed l, no_bares y.standing (landed_cargo board l y (early.landed l) ∙ (sym (early.kin.alike l).items ∙ none)))

-- so does any run of the same acts after which nothing is in flight
pub lined_complete_any : (board : Board) → IsValid board → (h k : List Event) → Run board h → Run board k → NothingFlies Tagged board k → acts_of h ≡ acts_of k → Complete board h → Complete board k
lined_complete_any board valid h k run other landed same complete =
    let early : LandedKin Tagged board h k = record { kin = record { run = other; same_acts = sym same; alike = acts_alike Tagged board valid h k run other same }; landed = landed } in
    let idle_at : (l : BridgeLane) → IsIdle (world_of board h l) → IsIdle (world_of board k l) = lane_idle board h k early in
    let Idle : List Event → Bridge → Type 0 = λ g bridge. IsIdle (world_of board g (record { bus = bridge.bus; up = false })) × IsIdle (world_of board g (record { bus = bridge.bus; up = true })) in
    record {
      ended = λ master there. turn_acts board k master ∙ (ap (λ a. turn_of board a master) (sym same) ∙ (sym (turn_acts board h master) ∙ complete.ended master there));
      idle = Each-weaker (Idle h) (Idle k) (λ bridge idle. (idle_at (record { bus = bridge.bus; up = false }) idle.0, idle_at (record { bus = bridge.bus; up = true }) idle.1)) board.bridges complete.idle;
    }

pub lined_complete : (board : Board) → IsValid board → (h : List Event) → Run board h → Complete board h → Complete board (filled Tagged board (acts_of h))
lined_complete board valid h run complete =
    let early = lined_runs Tagged board valid h run in
    lined_complete_any board valid h (filled Tagged board (acts_of h)) run early.run early.landed (sym early.same_acts) complete
