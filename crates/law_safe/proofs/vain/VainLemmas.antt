-- An operation that comes before itself is never the turn: it would have been before, and there is a first time.
use Rattle.std.proofs.Common.{◌≡◌, ℕ, ◌<◌, Bool, true, false, List, [], ◌∷◌, ◌++◌, Some, is_some, refl, sym, subst, ◌⊎◌, inl, inr, ⊎_elim}
use Rattle.std.specs.List.{list_any}
use Rattle.pci_command.specs.declared.op_id.OpId.{OpId}
use Rattle.pci_command.specs.declared.op_id.Outcome.{Outcome}
use Rattle.board_model.specs.declared.op.Want.{Want}
use Rattle.board_model.specs.declared.bridge.Place.{Place}
use Rattle.board_model.specs.declared.board.Board.{Board}
use Rattle.board_model.specs.Requests.{op_of}
use Rattle.board_model.specs.Ways.{Dword}
use Rattle.board_model.specs.Valid.{IsValid}
use Rattle.history_model.specs.declared.event.By.{By}
use Rattle.history_model.specs.declared.event.Step.{Step}
use Rattle.history_model.specs.declared.event.Event.{Event}
use Rattle.history_model.specs.declared.event.Event.TheVariants.{Act}
use Rattle.history_model.specs.declared.rule.Rule.TheVariants.{Tagged}
use Rattle.history_model.specs.Program.{ended, meets, turn_of}
use Rattle.history_model.specs.Words.{landed}
use Rattle.history_model.specs.Knowledge.{Reading, got, has_landed, is_landing_of, stands_after, is_write}
use Rattle.history_model.specs.Runs.{Run}
use Rattle.list_facts.proofs.AnyLemmas.{any_some}
use Rattle.list_facts.proofs.EachLemmas.{Each-find}
use Rattle.list_facts.proofs.FindLemmas.{find_passes}
use Rattle.history_model.proofs.facts.RequestLemmas.{same_op_true}
use Rattle.law_fresh.proofs.Laws.{ends_turn, Front, front_run}
use Rattle.safe_model.specs.Clocks.{Table, known_by, raised, LeftOut, IsConsistent, IsBefore}
use Rattle.law_safe.proofs.before.HeldLemmas.{Held, presented, held_first, held_after}
use Rattle.law_safe.proofs.before.OrderLemmas.{Passes, turn_known}
use Rattle.law_safe.proofs.before.SoundLemmas.{Sound-run}
use Rattle.safe_model.specs.Vain.{IsVain}

module _ (board : Board) (valid : IsValid board) (table : Table) (consistent : IsConsistent board table) (c : OpId) where
  -- it is the turn of a try of the operation
  abbrev pub TurnIs : List Event → Type 0
  TurnIs h = (q : OpId) × (turn_of board h q.master ≡ Some q) × (q.master ≡ c.master) × (q.index ≡ c.index)

  -- or it was
  abbrev pub Was : List Event → Type 0
  Was [] = TurnIs []
  Was (e ∷ h) = TurnIs (e ∷ h) ⊎ Was h

  -- it was before the last event
  abbrev pub WasBefore : List Event → OpId → Type 0
  WasBefore [] q = ⊥
  WasBefore (e ∷ h) q = Was h

  was_now : (h : List Event) → TurnIs h → Was h
  was_now [] turn = turn
  was_now (e ∷ h) turn = inl turn

  before_was : (h : List Event) (q : OpId) → WasBefore h q → Was h
  before_was [] q was = absurd was
  before_was (e ∷ h) q was = inr was

  before_other : (h : List Event) (p q : OpId) → WasBefore h p → WasBefore h q
  before_other [] p q was = was
  before_other (e ∷ h) p q was = was

  was_more : (later before : List Event) → Was before → Was (later ++ before)
  was_more [] before was = was
  was_more (e ∷ later) before was = inr (was_more later before was)

  was_front : (before h : List Event) → Front before h → Was before → Was h
  was_front before h front was = subst Was front.is (was_more front.later before was)

  -- where a try of it is on a lane, is presented or landed, it was the turn
  abbrev Begins : List Event → OpId → Type 0
  Begins h q = q.master ≡ c.master → q.index ≡ c.index → Was h

  begins_kept : (e : Event) (h : List Event) (q : OpId) → Run board (e ∷ h) → Begins h q → Begins (e ∷ h) q
  begins_kept e h q run old = λ masters indices. inr (old masters indices)

  begins_turn : (h : List Event) (q : OpId) → turn_of board h q.master ≡ Some q → Begins h q
  begins_turn h q is = λ masters indices. was_now h (q, is, masters, indices)

  Begins-run : (h : List Event) → Run board h → Held board Begins begins_kept h
  Begins-run [] run = held_first board Begins begins_kept (begins_turn [])
  Begins-run (e ∷ h) run = held_after board Begins begins_kept e h run (Begins-run h run.1) (begins_turn (e ∷ h))

  landed_was : (h : List Event) (f : OpId) (word : Dword) → Run board h → list_any (is_landing_of f) (landed board h word) ≡ true → f.master ≡ c.master → f.index ≡ c.index → Was h
  landed_was h f word run lands masters indices =
      let some = any_some (is_landing_of f) (landed board h word) lands in
      let one : some.0.op ≡ f = same_op_true some.0.op f (find_passes (is_landing_of f) (landed board h word) some.0 some.1) in
      (subst (Begins h) one (Each-find (λ l. Begins h l.op) (is_landing_of f) (landed board h word) some.0 ((Begins-run h run).landings word) some.1)) masters indices

  own_was : (e : Event) (h : List Event) (p q : OpId) (outcome : Outcome) → Run board (e ∷ h) → ended e ≡ Some (record { op = p; outcome = outcome }) → is_some (op_of board p) ≡ true → p.master ≡ c.master → p.index ≡ c.index → p.master ≡ q.master → stands_after p q ≡ true → WasBefore (e ∷ h) q
  own_was e h p q outcome run ends there masters indices others behind = was_now h (p, ends_turn Tagged board e h (record { op = p; outcome = outcome }) run ends, masters, indices)

  seen_was : (e : Event) (h : List Event) (p q : OpId) (reading : Reading) (f : OpId) → Run board (e ∷ h) → got board (e ∷ h) p ≡ Some reading → is_write board f ≡ true
      → list_any (is_landing_of f) (landed board reading.before reading.word) ≡ true → has_landed reading.before f ≡ true → Front reading.before h
      → ((f.master ≡ c.master) × (f.index ≡ c.index)) ⊎ WasBefore reading.before f → p.master ≡ q.master → stands_after p q ≡ true → WasBefore (e ∷ h) q
  seen_was e h p q reading f run is_got f_writes lands whole front known others behind =
      let run_b = front_run board reading.before h front run.1 in
      was_front reading.before h front (⊎_elim {C = Was reading.before}
      (λ (same : (f.master ≡ c.master) × (f.index ≡ c.index)). landed_was reading.before f reading.word run_b lands same.0 same.1)
      (λ (old : WasBefore reading.before f). before_was reading.before f old) known)

  was_passes : Passes board c WasBefore
  was_passes = record {
    kept = λ e h q run is. before_was h q is;
    later = λ h p q masters behind is. before_other h p q is;
    own = own_was;
    seen = seen_was;
  }

  -- where it comes before itself it was the turn before it was
  turn_older : IsBefore board table c c → (h : List Event) → Run board h → (turn : TurnIs h) → WasBefore h turn.0
  turn_older unreached h run turn =
      let F : ℕ → ℕ → Type 0 = λ m i. c.index < raised (known_by board table m i) m i c.master in
      let below : F turn.0.master turn.0.index = subst (λ m. F m turn.0.index) (sym turn.2) (subst (F c.master) (sym turn.3) unreached) in
      turn_known board valid table consistent c WasBefore was_passes h turn.0 run (Sound-run board valid table consistent h run) turn.1 below

  -- so it never was
  pub never_was : IsBefore board table c c → (h : List Event) → Run board h → Was h → ⊥
  never_was unreached [] run was = turn_older unreached [] run was
  never_was unreached (e ∷ h) run was =
      ⊎_elim {C = ⊥} (λ (now : TurnIs (e ∷ h)). never_was unreached h run.1 (turn_older unreached (e ∷ h) run now)) (λ (old : Was h). never_was unreached h run.1 old) was

  pub no_event : IsBefore board table c c → (h : List Event) (on : ℕ) (by : By) (step : Step) (place : Place) → Run board (Act on by c step place ∷ h) → ⊥
  no_event unreached h on by step place run = never_was unreached h run.1 (presented board Begins begins_kept h on by c (Begins-run h run.1) run.0.0 refl refl)

  pub no_landing : IsBefore board table c c → (h : List Event) (word : Dword) → Run board h → list_any (is_landing_of c) (landed board h word) ≡ true → ⊥
  no_landing unreached h word run lands = never_was unreached h run (landed_was h c word run lands refl refl)

pub never_met : (board : Board) (valid : IsValid board) (table : Table) (consistent : IsConsistent board table) (e : Event) (h : List Event) (p : OpId) (want : Want) (outcome : Outcome) → IsVain board table p want → Run board (e ∷ h) → ended e ≡ Some (record { op = p; outcome = outcome })
    → meets want outcome ≡ false
never_met board valid table consistent e h p want outcome vain run ends =
    let P : Bool → Type 0 = λ b. meets want outcome ≡ b → b ≡ false in
    (elim (meets want outcome) as P [
      | false ↦ λ _. refl
      | true ↦ λ is_met.
          let it = (Sound-run board valid table consistent (e ∷ h) run).0 p want vain.awaits outcome ends is_met vain.word vain.firm vain.opens in
          let f : OpId = it.raised.last.op in
          let run_b : Run board it.met.reading.before = front_run board it.met.reading.before h it.met.before run.1 in
          absurd (⊎_elim {C = ⊥} (λ (left : LeftOut board table p vain.word f). it.stays left) (λ (unreached : IsBefore board table f f). no_landing board valid table consistent f unreached it.met.reading.before vain.word run_b it.raised.lands) (vain.raisers f it.raised.raises))
    ]) refl
