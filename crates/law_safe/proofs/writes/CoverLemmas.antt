-- A write that is told to another has landed where the other lands in a word of it.
use Rattle.std.proofs.Common.{◌≡◌, ℕ, Bool, true, false, eqb, eqb-true, cond, List, [], ◌∷◌, ◌++◌, append_assoc, length, Option, Some, Contains, refl, sym, ap, subst, ◌∙◌, slice_get}
use Rattle.std.specs.List.{list_any}
use Rattle.pci_command.specs.declared.op_id.OpId.{OpId}
use Rattle.pci_command.specs.Same.{same_op}
use Rattle.board_model.specs.declared.agents.Master.{Master as MasterAgent}
use Rattle.board_model.specs.declared.agents.Target.{Target as TargetAgent}
use Rattle.board_model.specs.declared.bridge.Place.{Place}
use Rattle.board_model.specs.declared.bridge.Place.TheVariants.{Target, Header, Lane, Nobody}
use Rattle.board_model.specs.declared.op.Op.{Op}
use Rattle.board_model.specs.declared.board.Board.{Board}
use Rattle.board_model.specs.Requests.{request_on, request_of, reads, reads_in}
use Rattle.board_model.specs.Claims.{claim}
use Rattle.board_model.specs.Ways.{Dword, Route, route_of, words_of}
use Rattle.board_model.specs.Valid.{IsValid}
use Rattle.history_model.specs.declared.event.By.{By}
use Rattle.history_model.specs.declared.event.Step.{Step}
use Rattle.history_model.specs.declared.event.Event.{Event}
use Rattle.history_model.specs.declared.event.Event.TheVariants.{Act, Arrive}
use Rattle.history_model.specs.declared.rule.Rule.TheVariants.{Tagged}
use Rattle.history_model.specs.Words.{through, landings_of, landings_by, brought}
use Rattle.history_model.specs.Knowledge.{up_to_end, has_landed, is_landing_of, is_write, Told, words_on, words_named}
use Rattle.history_model.specs.Runs.{Run}
use Rattle.law_fresh.specs.Aware.{knows, aware_of}
use Rattle.law_fresh.specs.Cover.{covered}
use Rattle.law_fresh.proofs.SourceLemmas.{Covers, source}
use Rattle.law_fresh.proofs.BegunLemmas.{Begun-wanted}
use Rattle.law_fresh.proofs.FreshLemmas.{route_claims, word_owner, landed_there, write_covers, some_words}
use Rattle.law_fresh.proofs.TargetLemmas.{target_on, answers_on}
use Rattle.law_fresh.proofs.InformedLemmas.{Informed-run}
use Rattle.law_fresh.proofs.ToldLemmas.{taught_reads, told_knows}
use Rattle.law_fresh.proofs.Laws.{Front, front_run, front_end, knew_before, or_either, IsOf, brought_of}
use Rattle.history_model.proofs.facts.RequestLemmas.{same_op_true}
use Rattle.list_facts.proofs.AnyLemmas.{any_some}
use Rattle.list_facts.proofs.EachLemmas.{Each-find}
use Rattle.list_facts.proofs.FindLemmas.{find_passes}
use Rattle.law_fresh.proofs.reads.Laws.{master_there}
use Rattle.law_fresh.proofs.Laws.{WriteOp, write_op}

-- what an event brings is of the operation that it names
pub brought_is : (board : Board) (h : List Event) (on : ℕ) (by : By) (o x : OpId) (step : Step) (place : Place) (word : Dword) → list_any (is_landing_of x) (landings_by board h on o step word place) ≡ true → o ≡ x
brought_is board h on by o x step place word lands =
    let some = any_some (is_landing_of x) (landings_by board h on o step word place) lands in
    let of_o : some.0.op ≡ o = Each-find (IsOf o) (is_landing_of x) (landings_by board h on o step word place) some.0 (brought_of board h on o step word place) some.1 in
    let of_x : some.0.op ≡ x = same_op_true some.0.op x (find_passes (is_landing_of x) (landings_by board h on o step word place) some.0 some.1) in
    sym of_o ∙ of_x

-- and comes from the target of the word
brought_on : (board : Board) (h : List Event) (on : ℕ) (by : By) (o x : OpId) (step : Step) (place : Place) (word : Dword) → Run board (Act on by o step place ∷ h) → list_any (is_landing_of x) (landings_by board h on o step word place) ≡ true
    → (agent : TargetAgent) × (slice_get board.targets word.target ≡ Some agent) × (agent.bus ≡ on)
brought_on board h on by o x step (Target place) word run lands =
    let P : Bool → Type 0 = λ b. eqb place word.target ≡ b → list_any (is_landing_of x) (cond b (landings_of o step (through h o) word (request_of board o on)) []) ≡ true → (agent : TargetAgent) × (slice_get board.targets word.target ≡ Some agent) × (agent.bus ≡ on) in
    (elim (eqb place word.target) as P [
      | true ↦ λ same _.
          let there = answers_on board h on by o step place run.0.1 in
          (there.0, subst (λ n. slice_get board.targets n ≡ Some there.0) (eqb-true place word.target same) there.1, there.2)
      | false ↦ λ _ f. cc
    ]) refl lands
brought_on board h on by o x step (Header bus) word run lands = cc
brought_on board h on by o x step (Lane lane) word run lands = cc
brought_on board h on by o x step Nobody word run lands = cc

module _ (board : Board) (valid : IsValid board) (w : OpId) (writes : is_write board w ≡ true) (word : Dword) (named : Contains (words_named board w) word) where
  write : WriteOp board w
  write = write_op board w writes

  abbrev op : Op
  op = write.op

  agent : (m : MasterAgent) × (slice_get board.masters w.master ≡ Some m)
  agent = master_there board w op write.is_op

  abbrev route : Route
  route = route_of board op agent.0.bus

  words : Contains (words_of board op agent.0.bus) word
  words =
      let F : Option Op → Option MasterAgent → Type 0 = λ found a. Contains (words_on board found a) word in
      let of_op : F (Some op) (slice_get board.masters w.master) = subst (λ found. F found (slice_get board.masters w.master)) write.is_op named in
      subst (F (Some op)) agent.1 of_op

  claims : claim board route.bus (request_on op route.bus) ≡ Target word.target
  claims = route_claims (length board.bridges) board op agent.0.bus ∙ word_owner board (request_on op route.bus) route.owner word words

  covers_it : Covers board w op
  covers_it = write_covers board valid w op agent.0 write.is_op agent.1 (ap reads_in write.is_op ∙ write.writes) (some_words board op agent.0.bus word words)

  -- who knows of it lands in the word after it has landed
  act_after : (h : List Event) (on : ℕ) (by : By) (x : OpId) (step : Step) (place : Place) → Run board (Act on by x step place ∷ h) → same_op x w ≡ false → knows (aware_of board w h) x ≡ true
      → list_any (is_landing_of x) (landings_by board h on x step word place) ≡ true → has_landed h w ≡ true
  act_after h on by x step place run other known lands =
      let informed = Informed-run board valid w op covers_it h run.1 in
      let sure : covered board w op h on ≡ true = source board w op h on by x informed run.0.0 other known in
      let here = brought_on board h on by x x step place word run lands in
      let there = target_on board route.bus (request_on op route.bus) word.target claims in
      let agents : Some here.0 ≡ Some there.0 = sym here.1 ∙ there.1 in
      let one_agent : here.0 ≡ there.0 = cc in
      let bus : on ≡ route.bus = sym here.2 ∙ ap (λ (a : TargetAgent). a.bus) one_agent ∙ there.2 in
      landed_there board valid w op covers_it (ap reads_in write.is_op ∙ write.writes) route.bus h word.target claims (subst (λ n. covered board w op h n ≡ true) bus sure)

  -- who was told of it lands in the word after it has landed
  pub event_after : (h all : List Event) (e : Event) (x : OpId) → Run board all → Front (e ∷ h) all → Told board all w x → reads board x ≡ false → same_op x w ≡ false → list_any (is_landing_of x) (brought board h word e) ≡ true → has_landed h w ≡ true
  event_after h all (Arrive lane mark) x run_all front told other_read other lands = cc
  event_after h all (Act on by o step place) x run_all front told other_read other lands =
      let e : Event = Act on by o step place in
      let run : Run board (e ∷ h) = front_run board (e ∷ h) all front run_all in
      let before : Front h all = record { later = front.later ++ e ∷ []; is = append_assoc front.later (e ∷ []) h ∙ front.is } in
      let one : o ≡ x = brought_is board h on by o x step place word lands in
      let R : OpId → Type 0 = λ q. Run board (Act on by q step place ∷ h) in
      let L : OpId → Type 0 = λ q. list_any (is_landing_of x) (landings_by board h on q step word place) ≡ true in
      let run_x : R x = subst R one run in
      let lands_x : L x = subst L one lands in
      let upto : List Event = up_to_end x all in
      let known : knows (aware_of board w all) x ≡ true =
      or_either (knows (aware_of board w all) x ≡ true) (knows (aware_of board w all) x) ((aware_of board w upto).taught x)
      (λ it. it)
      (λ taught.
      let reads_it = taught_reads board w upto x (front_run board upto all (front_end x all) run_all) taught in
      let f : true ≡ false = sym reads_it ∙ other_read in
      cc)
      (told_knows board w all run_all x told.1) in
      let known_then : knows (aware_of board w h) x ≡ true = knew_before board w x h all before run_all (Begun-wanted Tagged board h on by x run_x.1 run_x.0.0) known in
      act_after h on by x step place run_x other known_then lands_x
