-- A write with a word that ended has landed once the run is complete: it was covered from then on, and no lane has it.
use Rattle.std.proofs.Common.{◌≡◌, ◌≢◌, ℕ, Bool, true, false, not, ◌||◌, List, [], ◌∷◌, ◌++◌, Option, Some, None, is_some, refl, sym, ap, subst, ◌∙◌, slice_get}
use Rattle.std.specs.List.{list_any}
use Rattle.std.proofs.lemmas.Bool.{eqb-true, and_parts}
use Rattle.pci_command.specs.declared.op_id.OpId.{OpId}
use Rattle.pci_command.specs.declared.op_id.Outcome.{Outcome}
use Rattle.board_model.specs.declared.bridge.Bridge.{Bridge}
use Rattle.board_model.specs.declared.bridge.Lane.{Lane as BridgeLane}
use Rattle.board_model.specs.declared.op.Op.{Op}
use Rattle.board_model.specs.declared.board.Board.{Board}
use Rattle.board_model.specs.Requests.{op_of, reads}
use Rattle.board_model.specs.Ways.{way}
use Rattle.board_model.specs.Valid.{IsValid}
use Rattle.board_model.specs.WellFormed.{has_bus}
use Rattle.history_model.specs.declared.event.By.TheVariants.{Master, Lane as ByLane}
use Rattle.history_model.specs.declared.event.Event.{Event}
use Rattle.history_model.specs.declared.event.Event.TheVariants.{Act, Arrive}
use Rattle.history_model.specs.declared.item.Carried.{Carried}
use Rattle.history_model.specs.World.{world_of}
use Rattle.history_model.specs.Answers.{bridge_to}
use Rattle.history_model.specs.Program.{Ending, ended, ending_of, master_outcome}
use Rattle.history_model.specs.Knowledge.{ends_as, has_ended, has_landed, is_write, words_on, words_named}
use Rattle.history_model.specs.Runs.{Run, IsIdle, Complete}
use Rattle.list_facts.proofs.EachLemmas.{Each-find}
use Rattle.list_facts.proofs.FindLemmas.{find_passes}
use Rattle.law_lanes.proofs.progress.ArrivalLemmas.{no_bridge_empty}
use Rattle.law_fresh.specs.Cover.{is_post_of, is_on_lane, covered}
use Rattle.law_fresh.proofs.SourceLemmas.{Covers}
use Rattle.law_fresh.proofs.SinceLemmas.{ends_as_ended}
use Rattle.law_fresh.proofs.FreshLemmas.{write_covers}
use Rattle.law_fresh.proofs.reads.Laws.{master_there, word_of, no_words}

-- the operation of an ending
ends_one : (o w : OpId) (given outcome : Outcome) → ◌≡◌ {A = Option Ending} (Some (record { op = o; outcome = given })) (Some (record { op = w; outcome = outcome })) → o ≡ w
ends_one o w given outcome is =
    let a : Ending = record { op = o; outcome = given } in
    let b : Ending = record { op = w; outcome = outcome } in
    let same : a ≡ b = cc in
    ap (λ (ending : Ending). ending.op) same

module _ (board : Board) (w : OpId) (op : Op) (covers : Covers board w op) where
  abbrev IsCovered : List Event → Type 0
  IsCovered h = (on : ℕ) × (covered board w op h on ≡ true)

  -- an event that ended it covers its bus
  end_covers : (e : Event) (h : List Event) (outcome : Outcome) → Run board (e ∷ h) → ended e ≡ Some (record { op = w; outcome = outcome }) → IsCovered (e ∷ h)
  end_covers (Arrive lane mark) h outcome run ends = cc
  end_covers (Act on (ByLane lane) o step place) h outcome run ends = cc
  end_covers (Act on Master o step place) h outcome run ends =
      let P : Option Outcome → Type 0 = λ given. master_outcome step ≡ given → ending_of o given ≡ Some (record { op = w; outcome = outcome })
      → IsCovered (Act on Master o step place ∷ h) in
      (elim (master_outcome step) as P [
        | None ↦ λ _ f. cc
        | Some given ↦ λ is f.
            let one : o ≡ w = ends_one o w given outcome f in
            let F : OpId → Type 0 = λ q. Run board (Act on Master q step place ∷ h) → IsCovered (Act on Master q step place ∷ h) in
            let of_w : F w = λ r. (on, covers.ends h on Master step place given r is) in
            subst F (sym one) of_w run
      ]) refl ends

  -- so from its end on some bus is
  ended_covered : (h : List Event) → Run board h → has_ended h w ≡ true → IsCovered h
  ended_covered [] run is = cc
  ended_covered (e ∷ h) run is =
      let P : Option Outcome → Type 0 = λ found. ends_as w e ≡ found → (is_some found || has_ended h w) ≡ true → IsCovered (e ∷ h) in
      (elim (ends_as w e) as P [
        | None ↦ λ _ older. let was = ended_covered h run.1 older in (was.0, covers.kept e h was.0 run was.1)
        | Some outcome ↦ λ ends _. end_covers e h outcome run (ends_as_ended w e outcome ends)
      ]) refl is

-- where a run is complete every lane is idle
complete_idle : (board : Board) (h : List Event) → Run board h → Complete board h → (lane : BridgeLane) → IsIdle (world_of board h lane)
complete_idle board h run complete lane =
    let Idle : ℕ → Bool → Type 0 = λ bus up. IsIdle (world_of board h (record { bus = bus; up = up })) in
    let F : Bridge → Type 0 = λ bridge. Idle bridge.bus false × Idle bridge.bus true in
    let P : Option Bridge → Type 0 = λ found. bridge_to board lane.bus ≡ found → IsIdle (world_of board h lane) in
    (elim (bridge_to board lane.bus) as P [
      | None ↦ λ none. subst IsIdle (sym (no_bridge_empty board h lane run none)) (refl, refl)
      | Some bridge ↦ λ found.
          let each : F bridge = Each-find F (has_bus lane.bus) board.bridges bridge complete.idle found in
          let same : bridge.bus ≡ lane.bus = eqb-true bridge.bus lane.bus (find_passes (has_bus lane.bus) board.bridges bridge found) in
          let Q : Bool → Type 0 = λ up. Idle lane.bus up in
          elim lane.up as Q [ true ↦ subst (λ (bus : ℕ). Idle bus true) same each.1 | false ↦ subst (λ (bus : ℕ). Idle bus false) same each.0 ]
    ]) refl

-- so no lane has the write
nowhere_on : (board : Board) (h : List Event) (w : OpId) → Run board h → Complete board h → (lanes : List BridgeLane) → list_any (is_on_lane w (world_of board h)) lanes ≡ false
nowhere_on board h w run complete [] = refl
nowhere_on board h w run complete (lane ∷ lanes) =
    let idle = complete_idle board h run complete lane in
    let F : List Carried → List Carried → Type 0 = λ standing flight. list_any (is_post_of w) (standing ++ flight) ≡ false in
    let none : is_on_lane w (world_of board h) lane ≡ false = subst (λ standing. F standing (world_of board h lane).flight) (sym idle.1) (subst (F []) (sym idle.0) refl) in
    rw (none, nowhere_on board h w run complete lanes) refl

covered_landed : (board : Board) (h : List Event) (w : OpId) (op : Op) (on : ℕ) → Run board h → Complete board h → covered board w op h on ≡ true → has_landed h w ≡ true
covered_landed board h w op on run complete is =
    let none : list_any (is_on_lane w (world_of board h)) (way board op on) ≡ false = nowhere_on board h w run complete (way board op on) in
    let F : Bool → Type 0 = λ b. (has_landed h w || b) ≡ true in
    let P : Bool → Type 0 = λ b. (b || false) ≡ true → b ≡ true in
    (elim (has_landed h w) as P [ true ↦ λ _. refl | false ↦ λ e. cc ]) (subst F none is)

pub ended_landed : (board : Board) (h : List Event) (w : OpId) → IsValid board → Run board h → Complete board h → is_write board w ≡ true → words_named board w ≢ []
    → has_ended h w ≡ true → has_landed h w ≡ true
ended_landed board h w valid run complete writes some ends =
    let parts = and_parts (is_some (op_of board w)) _ writes in
    let no_read : reads board w ≡ false = (
    let N : Bool → Type 0 = λ b. not b ≡ true → b ≡ false in
    (elim (reads board w) as N [ true ↦ λ e. cc | false ↦ λ _. refl ]) parts.1) in
    let P : Option Op → Type 0 = λ found. op_of board w ≡ found → is_some found ≡ true → has_landed h w ≡ true in
    (elim (op_of board w) as P [
      | None ↦ λ _ f. cc
      | Some op ↦ λ is_op _.
          let there = master_there board w op is_op in
          let Q : Bool → Type 0 = λ b. word_of board op there.0.bus ≡ b → has_landed h w ≡ true in
          (elim (word_of board op there.0.bus) as Q [
            | true ↦ λ word.
                let covers = write_covers board valid w op there.0 is_op there.1 no_read word in
                let is = ended_covered board w op covers h run ends in
                covered_landed board h w op is.0 run complete is.1
            | false ↦ λ none.
                let empty : words_named board w ≡ [] =
                ap (λ found. words_on board found (slice_get board.masters w.master)) is_op ∙ ap (words_on board (Some op)) there.1 ∙ no_words board op there.0.bus none in
                absurd (some empty)
          ]) refl
    ]) refl parts.0
