-- What comes after the operation behind a write lands after the write has ended.
use Rattle.std.proofs.Common.{◌≡◌, ℕ, ◌<◌, Bool, true, false, List, [], ◌∷◌, Some, is_some, refl, sym, ap, subst, ◌∙◌, arith, ◌⊎◌, ⊎_elim}
use Rattle.std.specs.List.{list_any}
use Rattle.std.proofs.lemmas.Bool.Decides.{nat_tests}
use Rattle.pci_command.specs.declared.command.Command.TheVariants.{MemWrite}
use Rattle.pci_command.specs.declared.op_id.OpId.{OpId}
use Rattle.pci_command.specs.declared.op_id.Outcome.{Outcome}
use Rattle.pci_command.specs.Same.{same_op, same_command}
use Rattle.board_model.specs.declared.op.Op.{Op}
use Rattle.board_model.specs.declared.board.Board.{Board}
use Rattle.board_model.specs.Requests.{op_of, command_of}
use Rattle.board_model.specs.Ways.{Dword}
use Rattle.board_model.specs.Valid.{IsValid}
use Rattle.history_model.specs.declared.event.By.{By}
use Rattle.history_model.specs.declared.event.By.TheVariants.{Master, Lane as ByLane}
use Rattle.history_model.specs.declared.event.Event.{Event}
use Rattle.history_model.specs.declared.event.Event.TheVariants.{Act, Arrive}
use Rattle.history_model.specs.declared.rule.Rule.TheVariants.{Tagged}
use Rattle.history_model.specs.Lanes.{has_number}
use Rattle.history_model.specs.Program.{ended, turn_of}
use Rattle.history_model.specs.Answers.{wants}
use Rattle.history_model.specs.Words.{landed}
use Rattle.history_model.specs.Knowledge.{Reading, ends_as, has_ended, got, is_land_step, is_land_of, has_landed, is_landing_of, stands_after, is_write}
use Rattle.history_model.specs.Runs.{Run}
use Rattle.law_lanes.specs.order.Order.{is_posted_in, is_posted_op}
use Rattle.law_lanes.specs.order.One.{ends_at_master}
use Rattle.law_lanes.proofs.order.Laws.{turn_not_ended}
use Rattle.std.proofs.lemmas.Bool.{and_parts, or_right}
use Rattle.history_model.proofs.facts.RequestLemmas.{same_op_true}
use Rattle.history_model.proofs.facts.WantsLemmas.{wants-turn}
use Rattle.law_bound.proofs.reach.Laws.{own_by, stands_of, asked_at, passed_at}
use Rattle.law_fresh.proofs.BackLemmas.{ended_front}
use Rattle.law_fresh.proofs.Laws.{ends_turn, Front, front_run, or_either}
use Rattle.law_delivered.proofs.RaisedLemmas.{landed_ended, ended_before}
use Rattle.law_fresh.proofs.Laws.{write_op, own_ended}
use Rattle.safe_model.specs.Clocks.{Table, IsConsistent, IsBefore, behind}
use Rattle.law_safe.proofs.before.OrderLemmas.{Passes, Sound, write_known}
use Rattle.law_safe.proofs.writes.OnceLemmas.{any_times}

-- what is presented of a delayed operation is its master's turn
pub presented_turn : (board : Board) (valid : IsValid board) (h : List Event) (on : ℕ) (by : By) (o : OpId) (op : Op) → op_of board o ≡ Some op → same_command (command_of op) MemWrite ≡ false → Run board h → wants board h on by o ≡ true → turn_of board h o.master ≡ Some o
presented_turn board valid h on Master o op is_op delayed run wanted = wants-turn board h on o wanted
presented_turn board valid h on (ByLane k) o op is_op delayed run wanted =
    let asked = asked_at board h on k o op run is_op delayed wanted in
    let here = passed_at board h k o asked.0 run asked.1 in
    let own = own_by board valid h run k o (has_number here.number) here.held.slot here.held.is_held here.held.is_for in
    (stands_of board valid h run k o op here.held.slot is_op own).is_turn

-- an operation whose turn it is has not ended
pub turn_no_end : (board : Board) (h : List Event) (o : OpId) → Run board h → turn_of board h o.master ≡ Some o → has_ended h o ≡ true → (X : Type 0) → X
turn_no_end board h o run turn old X =
    let none = turn_not_ended board h o run turn in
    let some = any_times (ends_at_master o) h old in
    absurd (omega (arith, none, some))

module _ (board : Board) (valid : IsValid board) (a : OpId) (writes : is_write board a ≡ true) where
  abbrev Done : List Event → OpId → Type 0
  Done h q = has_ended h a ≡ true

  -- where a later operation is the turn it ended
  turn_done : (h : List Event) (f : OpId) → Run board h → turn_of board h f.master ≡ Some f → f.master ≡ a.master → a.index < f.index → has_ended h a ≡ true
  turn_done h f run turn masters below =
      let other : same_op f a ≡ false = grind (arith, nat_tests) in
      own_ended board a (write_op board a writes) h f run turn masters (omega (arith, below)) other

  -- where a later write has landed it ended
  delayed_done : (h : List Event) (f : OpId) (op : Op) → op_of board f ≡ Some op → same_command (command_of op) MemWrite ≡ false → f.master ≡ a.master → a.index < f.index → Run board h → has_landed h f ≡ true → has_ended h a ≡ true
  delayed_done [] f op is_op delayed masters below run lands = cc
  delayed_done (Act on by o step place ∷ h) f op is_op delayed masters below run lands =
      let e : Event = Act on by o step place in
      or_right (is_some (ends_as a e)) (has_ended h a)
      (or_either (has_ended h a ≡ true) (is_land_of f e) (has_landed h f)
      (λ here.
      let one : o ≡ f = same_op_true o f (and_parts (same_op o f) (is_land_step step) here).0 in
      let R : OpId → Type 0 = λ q. Run board (Act on by q step place ∷ h) in
      let run_f : R f = subst R one run in
      turn_done h f run.1 (presented_turn board valid h on by f op is_op delayed run.1 run_f.0.0) masters below)
      (λ older. delayed_done h f op is_op delayed masters below run.1 older) lands)
  delayed_done (Arrive lane mark ∷ h) f op is_op delayed masters below run lands =
      or_right false (has_ended h a) (delayed_done h f op is_op delayed masters below run.1 lands)

  landed_done : (h : List Event) (f : OpId) → is_write board f ≡ true → f.master ≡ a.master → a.index < f.index → Run board h → has_landed h f ≡ true → has_ended h a ≡ true
  landed_done h f f_writes masters below run lands =
      let P : Bool → Type 0 = λ b. is_posted_op board f ≡ b → has_ended h a ≡ true in
      (elim (is_posted_op board f) as P [
        | true ↦ λ posted. ended_before board h a f writes run (landed_ended board h f posted run lands) (sym masters) below
        | false ↦ λ none.
            let write = write_op board f f_writes in
            delayed_done h f write.op write.is_op (sym (ap is_posted_in write.is_op) ∙ none) masters below run lands
      ]) refl

  own_done : (e : Event) (h : List Event) (p q : OpId) (outcome : Outcome) → Run board (e ∷ h) → ended e ≡ Some (record { op = p; outcome = outcome }) → is_some (op_of board p) ≡ true → p.master ≡ (behind a).master → p.index ≡ (behind a).index → p.master ≡ q.master → stands_after p q ≡ true → Done (e ∷ h) q
  own_done e h p q outcome run ends there masters indices others after =
      let turn : turn_of board h p.master ≡ Some p = ends_turn Tagged board e h (record { op = p; outcome = outcome }) run ends in
      let below : a.index < p.index = omega (arith, indices) in
      or_right (is_some (ends_as a e)) (has_ended h a) (turn_done h p run.1 turn masters below)

  seen_done : (e : Event) (h : List Event) (p q : OpId) (reading : Reading) (f : OpId) → Run board (e ∷ h) → got board (e ∷ h) p ≡ Some reading → is_write board f ≡ true
      → list_any (is_landing_of f) (landed board reading.before reading.word) ≡ true → has_landed reading.before f ≡ true → Front reading.before h
      → ((f.master ≡ (behind a).master) × (f.index ≡ (behind a).index)) ⊎ Done reading.before f → p.master ≡ q.master → stands_after p q ≡ true → Done (e ∷ h) q
  seen_done e h p q reading f run is_got f_writes lands whole front known others after =
      let run_b = front_run board reading.before h front run.1 in
      let old : has_ended reading.before a ≡ true =
      ⊎_elim {C = has_ended reading.before a ≡ true}
      (λ (same : (f.master ≡ (behind a).master) × (f.index ≡ (behind a).index)). let is = same.1 in landed_done reading.before f f_writes same.0 (omega (arith, is)) run_b whole)
      (λ (it : Done reading.before f). it) known in
      or_right (is_some (ends_as a e)) (has_ended h a) (ended_front a reading.before h front old)

  done_passes : Passes board (behind a) Done
  done_passes = record {
    kept = λ e h q run is. or_right (is_some (ends_as a e)) (has_ended h a) is;
    later = λ h p q masters after is. is;
    own = own_done;
    seen = seen_done;
  }

  -- so where what comes after the operation behind it has landed
  pub write_done : (table : Table) → IsConsistent board table → (h : List Event) (b : OpId) (word : Dword) → Run board h → Sound board table h → list_any (is_landing_of b) (landed board h word) ≡ true → IsBefore board table (behind a) b → has_ended h a ≡ true
  write_done table consistent h b word run sound lands is_before = write_known board valid table consistent (behind a) Done done_passes h b word run sound lands is_before
