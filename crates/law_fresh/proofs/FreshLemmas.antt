-- A read that was told of a write reads a word of it after it has landed.
use Rattle.std.proofs.Common.{◌≡◌, ℕ, zero, suc, ◌+◌, Bool, true, false, ◌&&◌, ◌||◌, not, cond, List, [], ◌∷◌, length, Option, Some, None, is_some, Contains, refl, sym, ap, subst, ◌∙◌, slice_get}
use Rattle.std.specs.List.{list_any, AllByRecursion}
use Rattle.list_facts.proofs.FindLemmas.{find_passes}
use Rattle.pci_command.specs.declared.command.Command.TheVariants.{MemWrite}
use Rattle.pci_command.specs.declared.command.Space.{Space}
use Rattle.pci_command.specs.declared.phases.Phase.{Phase}
use Rattle.pci_command.specs.declared.request.Request.{Request}
use Rattle.pci_command.specs.declared.op_id.OpId.{OpId}
use Rattle.pci_command.specs.Command.{space_of, is_read}
use Rattle.pci_command.specs.Same.{same_op, same_command}
use Rattle.board_model.specs.declared.agents.Master.{Master as MasterAgent}
use Rattle.board_model.specs.declared.agents.Target.{Target as TargetAgent}
use Rattle.board_model.specs.declared.bridge.Lane.{Lane as BridgeLane}
use Rattle.board_model.specs.declared.bridge.Place.{Place}
use Rattle.board_model.specs.declared.bridge.Place.TheVariants.{Target, Header, Lane, Nobody}
use Rattle.board_model.specs.declared.op.Op.{Op}
use Rattle.board_model.specs.declared.board.Board.{Board}
use Rattle.board_model.specs.Requests.{op_of, command_of, request_on, request_of, reads, reads_in}
use Rattle.board_model.specs.Claims.{claim}
use Rattle.board_model.specs.Ways.{Dword, Route, address_in, end_of, route_by, route_within, route_of, dwords_from, dwords_of, words_at, words_by, words_of, aborts_at}
use Rattle.board_model.specs.Valid.{IsValid}
use Rattle.history_model.specs.declared.event.By.{By}
use Rattle.history_model.specs.declared.event.Step.{Step}
use Rattle.history_model.specs.declared.event.Step.TheVariants.{Land, Part, Read, Accept, Latch, Take, Stall, MasterAbort, TargetAbort}
use Rattle.history_model.specs.declared.event.Event.{Event}
use Rattle.history_model.specs.declared.event.Event.TheVariants.{Act, Arrive}
use Rattle.history_model.specs.declared.rule.Rule.TheVariants.{Tagged}
use Rattle.history_model.specs.World.{world_of}
use Rattle.history_model.specs.Words.{Landing, landed}
use Rattle.history_model.specs.Knowledge.{Reading, reading_of, reading_by, reading_in, up_to_end, got, has_landed, is_landing_of, Chain, Told, words_on, words_named, Fresh}
use Rattle.history_model.specs.Answers.{wants}
use Rattle.history_model.specs.Runs.{Run}
use Rattle.law_lanes.specs.order.Order.{is_posted_in, is_posted_op}
use Rattle.std.proofs.lemmas.Bool.{and_parts}
use Rattle.std.proofs.Math.Bool.{or-false}
use Rattle.law_fresh.specs.Aware.{Aware, knows, shows, shown, aware_of}
use Rattle.law_fresh.specs.Cover.{is_on_lane, covered}
use Rattle.law_fresh.proofs.ListLemmas.{or_either, each_contains}
use Rattle.law_fresh.proofs.BegunLemmas.{Begun-wanted}
use Rattle.law_fresh.proofs.SourceLemmas.{Covers, source}
use Rattle.law_fresh.proofs.TargetLemmas.{target_on, answers_on}
use Rattle.law_fresh.proofs.InformedLemmas.{Informed-run}
use Rattle.law_fresh.proofs.PostedLemmas.{posted_covers}
use Rattle.law_fresh.proofs.DelayedLemmas.{delayed_covers}
use Rattle.law_fresh.proofs.ToldLemmas.{Front, front_run, front_front, front_end, knew_before, read_by, told_knows}
use Rattle.board_model.proofs.form_laws.Laws.{IsTree-valid}
use Rattle.history_model.proofs.facts.RequestLemmas.{same_op_true, same_op_self}
use Rattle.law_lanes.proofs.order.Laws.{empty_way}
use Rattle.history_model.proofs.facts.PostedLemmas.{IsTarget}
use Rattle.list_facts.proofs.AnyLemmas.{any_some, found_any}
use Rattle.law_fresh.proofs.reads.Laws.{no_reading, master_there, returned_got, always_got, word_of, no_words}

-- The words of a write are at one target, on the bus where its way ends.

pub route_claims : (n : ℕ) (board : Board) (op : Op) (on : ℕ) → let route = route_within n board op on in claim board route.bus (request_on op route.bus) ≡ route.owner
route_claims zero board op on = refl
route_claims (suc n) board op on =
    let onwards : BridgeLane → Route = λ lane. route_within n board op (end_of board lane) in
    let Goal : Route → Type 0 = λ route. claim board route.bus (request_on op route.bus) ≡ route.owner in
    let P : Place → Type 0 = λ place. claim board on (request_on op on) ≡ place → Goal (route_by onwards on place) in
    (elim (claim board on (request_on op on)) as P [
      | Target target ↦ λ is. is
      | Header bus ↦ λ is. is
      | Lane lane ↦ λ is. route_claims n board op (end_of board lane)
      | Nobody ↦ λ is. is
    ]) refl

pub dwords_at : (place : ℕ) (space : Space) (address : ℕ) (phases : List Phase) → AllByRecursion (λ (d : Dword). d.target ≡ place) (dwords_from place space address phases)
dwords_at place space address [] = tt
dwords_at place space address (phase ∷ phases) = (refl, dwords_at place space (address + 4) phases)

pub words_target : (place : ℕ) (request : Request) (found : Option TargetAgent) → AllByRecursion (λ (d : Dword). d.target ≡ place) (words_at place request found)
words_target place request None = tt
words_target place request (Some target) =
    let P : Bool → Type 0 = λ b. AllByRecursion (λ (d : Dword). d.target ≡ place) (cond b [] (dwords_of place request)) in
    elim (aborts_at target request) as P [ true ↦ tt | false ↦ dwords_at place (space_of request.command) (address_in (space_of request.command) request.address) request.phases ]

pub word_owner : (board : Board) (request : Request) (owner : Place) (word : Dword) → Contains (words_by board request owner) word → owner ≡ Target word.target
word_owner board request (Target place) word is =
    ap Target (sym (each_contains (λ (d : Dword). d.target ≡ place) (words_at place request (slice_get board.targets place)) word (words_target place request (slice_get board.targets place)) is.0 is.1 is.2))
word_owner board request (Header bus) word is = each_contains (λ (d : Dword). Header bus ≡ Target d.target) [] word tt is.0 is.1 is.2
word_owner board request (Lane lane) word is = each_contains (λ (d : Dword). Lane lane ≡ Target d.target) [] word tt is.0 is.1 is.2
word_owner board request Nobody word is = each_contains (λ (d : Dword). Nobody ≡ Target d.target) [] word tt is.0 is.1 is.2

-- Who read, and on which bus.

record ReadsOn (board : Board) (before : List Event) (r : OpId) (word : Dword) : Type 0 where
  on : ℕ
  by : By
  wanted : wants board before on by r ≡ true
  agent : TargetAgent
  is_agent : slice_get board.targets word.target ≡ Some agent
  bus : agent.bus ≡ on

reads_of : (board : Board) (before : List Event) (on : ℕ) (by : By) (r : OpId) (value target : ℕ) (request : Option Request) (reading : Reading) → Run board (Act on by r (Read value) (Target target) ∷ before) → reading_of target value before request ≡ Some reading → ReadsOn board before r reading.word
reads_of board before on by r value target None reading run is = cc
reads_of board before on by r value target (Some request) reading run is =
    let there = answers_on board before on by r (Read value) target run.0.1 in
    let same : ℕ = target in
    let target_or : Option Reading → ℕ = λ found. elim found [ None ↦ target | Some other ↦ other.word.target ] in
    let places : target ≡ reading.word.target = ap target_or is in
    record { on = on; by = by; wanted = run.0.0; agent = there.0; is_agent = subst (λ n. slice_get board.targets n ≡ Some there.0) places there.1; bus = there.2 }

reads_by : (board : Board) (before : List Event) (on : ℕ) (by : By) (r : OpId) (step : Step) (place : Place) (reading : Reading) → Run board (Act on by r step place ∷ before) → reading_by board before on r step place ≡ Some reading → ReadsOn board before r reading.word
reads_by board before on by r Land place reading run is = cc
reads_by board before on by r (Part phases) place reading run is = cc
reads_by board before on by r (Read value) (Target target) reading run is = reads_of board before on by r value target (request_of board r on) reading run is
reads_by board before on by r (Read value) (Header bus) reading run is = cc
reads_by board before on by r (Read value) (Lane lane) reading run is = cc
reads_by board before on by r (Read value) Nobody reading run is = cc
reads_by board before on by r Accept place reading run is = cc
reads_by board before on by r Latch place reading run is = cc
reads_by board before on by r (Take outcome) place reading run is = cc
reads_by board before on by r Stall place reading run is = cc
reads_by board before on by r MasterAbort place reading run is = cc
reads_by board before on by r TargetAbort place reading run is = cc

reads_on : (board : Board) (before : List Event) (e : Event) (r : OpId) (reading : Reading) → Run board (e ∷ before) → reading_in board before r e ≡ Some reading → ReadsOn board before r reading.word
reads_on board before (Act on by o step place) r reading run is =
    let P : Bool → Type 0 = λ b. same_op o r ≡ b → cond b (reading_by board before on o step place) None ≡ Some reading → ReadsOn board before r reading.word in
    (elim (same_op o r) as P [
      | true ↦ λ same f.
          let one : o ≡ r = same_op_true o r same in
          let F : OpId → Type 0 = λ p. Run board (Act on by p step place ∷ before) → reading_by board before on p step place ≡ Some reading → ReadsOn board before r reading.word in
          let here : F r = λ run_r is_r. reads_by board before on by r step place reading run_r is_r in
          subst F (sym one) here run f
      | false ↦ λ _ f. cc
    ]) refl is
reads_on board before (Arrive lane mark) r reading run is = cc

module _ (board : Board) (valid : IsValid board) (w : OpId) (op : Op) (covers : Covers board w op) (writes : reads board w ≡ false) (on : ℕ) where
  -- where its target claims the write, it is covered only where it has landed
  pub landed_there : (h : List Event) (target : ℕ) → claim board on (request_on op on) ≡ Target target → covered board w op h on ≡ true → has_landed h w ≡ true
  landed_there h target claims is =
      let ends : IsTarget (claim board on (request_on op on)) = subst IsTarget (sym claims) tt in
      let empty = empty_way board op on (IsTree-valid board valid) ends in
      let F : List BridgeLane → Type 0 = λ lanes. (has_landed h w || list_any (is_on_lane w (world_of board h)) lanes) ≡ true in
      let there : F [] = subst F empty is in
      sym (or-false (has_landed h w)) ∙ there

  -- the read read the word after the write had landed
  read_landed : (h : List Event) (r : OpId) (reading : Reading) → Run board h → claim board on (request_on op on) ≡ Target reading.word.target → got board h r ≡ Some reading → Chain board h w r → has_landed reading.before w ≡ true
  read_landed h r reading run claims got_it chain =
      let upto : List Event = up_to_end r h in
      let before : List Event = reading.before in
      let read = read_by board w upto r reading got_it in
      let front_e : Front (read.event ∷ before) h = front_front (read.event ∷ before) upto h read.front (front_end r h) in
      let front : Front before h = front_front before (read.event ∷ before) h (record { later = read.event ∷ []; is = refl }) front_e in
      let run_e : Run board (read.event ∷ before) = front_run board (read.event ∷ before) h front_e run in
      let informed = Informed-run board valid w op covers before run_e.1 in
      let on_bus = target_on board on (request_on op on) reading.word.target claims in
      let known = told_knows board w h run r chain in
      let Goal : Type 0 = has_landed before w ≡ true in
      or_either Goal (knows (aware_of board w h) r) ((aware_of board w upto).taught r)
      (λ knows_it.
      let at = reads_on board before read.event r reading run_e read.is_reading in
      let known_then : knows (aware_of board w before) r ≡ true = knew_before board w r before h front run (Begun-wanted Tagged board before at.on at.by r run_e.1 at.wanted) knows_it in
      let P : Bool → Type 0 = λ b. same_op r w ≡ b → b ≡ false in
      let other : same_op r w ≡ false = (elim (same_op r w) as P [
        | true ↦ λ same.
            let is_w : r ≡ w = same_op_true r w same in
            let writes_r : reads board r ≡ false = subst (λ p. reads board p ≡ false) (sym is_w) writes in
            let none = no_reading board r upto writes_r (front_run board upto h (front_end r h) run) in
            let e : ◌≡◌ {A = Option Reading} None (Some reading) = sym none ∙ got_it in
            cc
        | false ↦ λ _. refl
      ]) refl in
      let sure : covered board w op before at.on ≡ true = source board w op before at.on at.by r informed at.wanted other known_then in
      let agents : Some at.agent ≡ Some on_bus.0 = sym at.is_agent ∙ on_bus.1 in
      let one_agent : at.agent ≡ on_bus.0 = cc in
      let bus : at.on ≡ on = sym at.bus ∙ ap (λ (a : TargetAgent). a.bus) one_agent ∙ on_bus.2 in
      landed_there before reading.word.target claims (subst (λ n. covered board w op before n ≡ true) bus sure))
      (λ taught.
      let aware : Aware = aware_of board w before in
      let seen : shown board w aware before reading.word ≡ true = sym read.taught ∙ taught in
      let some = any_some (shows w aware before) (landed board before reading.word) seen in
      let landing : Landing = some.0 in
      let parts = and_parts (has_landed before landing.op) (same_op landing.op w || knows aware landing.op) (find_passes (shows w aware before) (landed board before reading.word) landing some.1) in
      let lands : list_any (is_landing_of landing.op) (landed board before reading.word) ≡ true = found_any (shows w aware before) (is_landing_of landing.op) (landed board before reading.word) landing some.1 (same_op_self landing.op) in
      let Q : Bool → Type 0 = λ b. same_op landing.op w ≡ b → (b || knows aware landing.op) ≡ true → Goal in
      (elim (same_op landing.op w) as Q [
        | true ↦ λ same _. subst (λ p. has_landed before p ≡ true) (same_op_true landing.op w same) parts.0
        | false ↦ λ other knows_it.
            landed_there before reading.word.target claims (subst (λ n. covered board w op before n ≡ true) on_bus.2 (informed.landings reading.word landing.op on_bus.0 on_bus.1 other lands knows_it))
      ]) refl parts.1)
      known

-- a write with a word is covered
pub write_covers : (board : Board) (valid : IsValid board) (w : OpId) (op : Op) (master : MasterAgent) → op_of board w ≡ Some op → slice_get board.masters w.master ≡ Some master → reads board w ≡ false → word_of board op master.bus ≡ true → Covers board w op
write_covers board valid w op master is_op is_master writes word =
    let P : Bool → Type 0 = λ b. is_posted_op board w ≡ b → Covers board w op in
    (elim (is_posted_op board w) as P [
      | true ↦ λ posted. posted_covers board valid w op is_op posted master is_master word
      | false ↦ λ other.
          let is_write_op : is_read (command_of op) ≡ false = sym (ap reads_in is_op) ∙ writes in
          let delayed : same_command (command_of op) MemWrite ≡ false = sym (ap is_posted_in is_op) ∙ other in
          delayed_covers board valid w op is_op is_write_op delayed master is_master word
    ]) refl

-- what is contained in a list is in no empty one
pub some_words : (board : Board) (op : Op) (on : ℕ) (word : Dword) → Contains (words_of board op on) word → word_of board op on ≡ true
some_words board op on word is =
    let P : Bool → Type 0 = λ b. word_of board op on ≡ b → b ≡ true in
    (elim (word_of board op on) as P [
      | true ↦ λ _. refl
      | false ↦ λ none.
          let F : List Dword → Type 0 = λ words. Contains words word in
          let nothing : F [] = subst F (no_words board op on none) is in
          each_contains (λ (_ : Dword). false ≡ true) [] word tt nothing.0 nothing.1 nothing.2
    ]) refl

-- every read that was told of a write, and read a word of it, read after it had landed
pub informed_read : (board : Board) (h : List Event) (w r : OpId) (reading : Reading) → IsValid board → Run board h → Told board h w r → got board h r ≡ Some reading → Contains (words_named board w) reading.word → has_landed reading.before w ≡ true
informed_read board h w r reading valid run told got_it named =
    let Goal : Type 0 = has_landed reading.before w ≡ true in
    let P : Option Op → Type 0 = λ found. op_of board w ≡ found → (is_some found && not (reads board w)) ≡ true → Goal in
    (elim (op_of board w) as P [
      | None ↦ λ _ f. cc
      | Some op ↦ λ is_op f.
          let there = master_there board w op is_op in
          let master : MasterAgent = there.0 in
          let Q : Bool → Type 0 = λ b. not b ≡ true → b ≡ false in
          let writes : reads board w ≡ false = (elim (reads board w) as Q [ true ↦ λ e. cc | false ↦ λ _. refl ]) f in
          let F : Option Op → Option MasterAgent → Type 0 = λ found agent. Contains (words_on board found agent) reading.word in
          let of_op : F (Some op) (slice_get board.masters w.master) = subst (λ found. F found (slice_get board.masters w.master)) is_op named in
          let of_master : F (Some op) (Some master) = subst (F (Some op)) there.1 of_op in
          let words : Contains (words_of board op master.bus) reading.word = of_master in
          let route : Route = route_of board op master.bus in
          let owner : route.owner ≡ Target reading.word.target = word_owner board (request_on op route.bus) route.owner reading.word words in
          let claims : claim board route.bus (request_on op route.bus) ≡ Target reading.word.target = route_claims (length board.bridges) board op master.bus ∙ owner in
          let covers = write_covers board valid w op master is_op there.1 writes (some_words board op master.bus reading.word words) in
          read_landed board valid w op covers writes route.bus h r reading run claims got_it told.1
    ]) refl told.0

-- every run of every valid board is fresh
pub Fresh-run : (board : Board) (h : List Event) → IsValid board → Run board h → Fresh board h
Fresh-run board h valid run =
    record {
      informed = λ w r reading told got_it named. informed_read board h w r reading valid run told got_it named;
      returned = λ r reading is. returned_got board h r reading valid run is;
      always_read = λ r reads_it some ended. always_got board h r valid run reads_it some ended;
    }
