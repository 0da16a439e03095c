-- A flag that was raised landed whole, and before it all writes of its program ended that stand before it.
use Rattle.std.proofs.Common.{◌≡◌, ℕ, ◌+◌, ◌*◌, ◌<◌, Bool, true, false, ◌&&◌, ◌||◌, ◌==◌, eqb, cond, List, [], ◌∷◌, ◌++◌, length, drop, Option, Some, None, is_some, refl, sym, ap, subst, ◌∙◌, arith, ◌⊎◌, inl, inr, ⊎_elim}
use Rattle.std.specs.List.{list_any, AllByRecursion}
use Rattle.std.proofs.lemmas.List.{length-drop}
use Rattle.std.proofs.lemmas.Bool.Decides.{nat_tests}
use Rattle.pci_command.specs.declared.phases.Phase.{Phase}
use Rattle.pci_command.specs.declared.request.Request.{Request}
use Rattle.pci_command.specs.declared.op_id.OpId.{OpId}
use Rattle.pci_command.specs.declared.op_id.Outcome.{Outcome}
use Rattle.pci_command.specs.Command.{space_of}
use Rattle.pci_command.specs.Same.{same_op, same_space}
use Rattle.board_model.specs.declared.bridge.Lane.{Lane as BridgeLane}
use Rattle.board_model.specs.declared.bridge.Place.{Place}
use Rattle.board_model.specs.declared.bridge.Place.TheVariants.{Target, Header, Lane, Nobody}
use Rattle.board_model.specs.declared.op.Op.{Op}
use Rattle.board_model.specs.declared.board.Board.{Board}
use Rattle.board_model.specs.Requests.{op_of, phases_of, request_on, request_of, is_posted}
use Rattle.board_model.specs.Ways.{Dword, address_in, end_of}
use Rattle.history_model.specs.declared.event.By.{By}
use Rattle.history_model.specs.declared.event.By.TheVariants.{Master, Lane as ByLane}
use Rattle.history_model.specs.declared.event.Step.{Step}
use Rattle.history_model.specs.declared.event.Step.TheVariants.{Land, Part, Read, Accept, Latch, Take, Stall, MasterAbort, TargetAbort}
use Rattle.history_model.specs.declared.event.Event.{Event}
use Rattle.history_model.specs.declared.event.Event.TheVariants.{Act, Arrive}
use Rattle.history_model.specs.declared.item.Carried.{Carried}
use Rattle.history_model.specs.declared.rule.Rule.TheVariants.{Tagged}
use Rattle.history_model.specs.World.{world_of}
use Rattle.history_model.specs.Answers.{wants, presents}
use Rattle.history_model.specs.Program.{turn_of}
use Rattle.history_model.specs.Words.{through, brings, landings_at, landings_of, landings_by, brought, landed}
use Rattle.history_model.specs.Knowledge.{ends_as, has_ended, is_land_step, is_land_of, has_landed, is_landing_of, is_write}
use Rattle.history_model.specs.Runs.{Run}
use Rattle.law_lanes.specs.order.Masters.{accepts_from_master, MastersWrite}
use Rattle.law_lanes.specs.order.Order.{is_posted_in, is_posted_op}
use Rattle.std.proofs.lemmas.Bool.{and_parts, or_left, or_right}
use Rattle.std.proofs.lemmas.List.Folds.{list_any-append}
use Rattle.history_model.proofs.facts.RequestLemmas.{same_op_true, same_op_self}
use Rattle.law_lanes.proofs.Laws.{RightKind-run}
use Rattle.law_lanes.proofs.order.Laws.{write_lands, standing_owned, posts-less_first}
use Rattle.law_fresh.proofs.Laws.{ends_turn, or_either, ends_as_ended}
use Rattle.law_fresh.proofs.Laws.{write_op, own_ended}

-- What is brought of other operations, or of no data phases.

pub no_landing : (o n : OpId) (address at : ℕ) (phases : List Phase) → same_op o n ≡ false → list_any (is_landing_of n) (landings_at o address at phases) ≡ false
no_landing o n address at [] other = refl
no_landing o n address at (phase ∷ phases) other =
    let later = no_landing o n address (at + 4) phases other in
    let P : Bool → Type 0 = λ b. list_any (is_landing_of n) (cond b (record { op = o; phase = phase } ∷ []) [] ++ landings_at o address (at + 4) phases) ≡ false in
    elim (eqb at address) as P [ true ↦ (rw (other, later) refl) | false ↦ later ]

-- no landing of it, of another operation or of no data phases
pub request_none : (o n : OpId) (step : Step) (gone : ℕ) (word : Dword) (found : Option Request) → ((phases : List Phase) → (same_op o n ≡ false) ⊎ (brings step phases ≡ [])) → list_any (is_landing_of n) (landings_of o step gone word found) ≡ false
request_none o n step gone word None none = refl
request_none o n step gone word (Some request) none =
    let space = space_of request.command in
    let left : List Phase = brings step (drop gone request.phases) in
    let start : ℕ = address_in space (request.address + 4 * gone) in
    let P : Bool → Type 0 = λ b. list_any (is_landing_of n) (cond b (landings_at o word.address start left) []) ≡ false in
    let F : List Phase → Type 0 = λ ps. list_any (is_landing_of n) (landings_at o word.address start ps) ≡ false in
    let empty : F [] = refl in
    elim (same_space space word.space) as P [
      | true ↦ ⊎_elim {C = F left} (λ other. no_landing o n word.address start left other) (λ nothing. subst F (sym nothing) empty) (none (drop gone request.phases))
      | false ↦ refl
    ]

pub place_none : (board : Board) (h : List Event) (on : ℕ) (o n : OpId) (step : Step) (word : Dword) (place : Place) → ((phases : List Phase) → (same_op o n ≡ false) ⊎ (brings step phases ≡ [])) → list_any (is_landing_of n) (landings_by board h on o step word place) ≡ false
place_none board h on o n step word (Target target) none =
    let P : Bool → Type 0 = λ b. list_any (is_landing_of n) (cond b (landings_of o step (through h o) word (request_of board o on)) []) ≡ false in
    elim (eqb target word.target) as P [ true ↦ request_none o n step (through h o) word (request_of board o on) none | false ↦ refl ]
place_none board h on o n step word (Header bus) none = refl
place_none board h on o n step word (Lane lane) none = refl
place_none board h on o n step word Nobody none = refl

-- a part of it brings nothing to the word
abbrev pub PartsBringNothing : Board → OpId → Dword → Type 0
PartsBringNothing board n word =
    (h : List Event) (on : ℕ) (by : By) (number : ℕ) (at : Place) → Run board (Act on by n (Part number) at ∷ h) → list_any (is_landing_of n) (landings_by board h on n (Part number) word at) ≡ false

module _ (board : Board) (n : OpId) (word : Dword) (parts : PartsBringNothing board n word) where
  not_both : (X : Type 0) (b : Bool) → b ≡ true → b ≡ false → X
  not_both X b is none = let e : true ≡ false = sym is ∙ none in cc

  step_landed : (h : List Event) (on : ℕ) (by : By) (step : Step) (at : Place) → Run board (Act on by n step at ∷ h) → list_any (is_landing_of n) (landings_by board h on n step word at) ≡ true → is_land_step step ≡ true
  step_landed h on by Land at run some = refl
  step_landed h on by (Part number) at run some = not_both _ _ some (parts h on by number at run)
  step_landed h on by (Read value) at run some = not_both _ _ some (place_none board h on n n (Read value) word at (λ phases. inr refl))
  step_landed h on by Accept at run some = not_both _ _ some (place_none board h on n n Accept word at (λ phases. inr refl))
  step_landed h on by Latch at run some = not_both _ _ some (place_none board h on n n Latch word at (λ phases. inr refl))
  step_landed h on by (Take outcome) at run some = not_both _ _ some (place_none board h on n n (Take outcome) word at (λ phases. inr refl))
  step_landed h on by Stall at run some = not_both _ _ some (place_none board h on n n Stall word at (λ phases. inr refl))
  step_landed h on by MasterAbort at run some = not_both _ _ some (place_none board h on n n MasterAbort word at (λ phases. inr refl))
  step_landed h on by TargetAbort at run some = not_both _ _ some (place_none board h on n n TargetAbort word at (λ phases. inr refl))

  event_landed : (h : List Event) (e : Event) → Run board (e ∷ h) → list_any (is_landing_of n) (brought board h word e) ≡ true → is_land_of n e ≡ true
  event_landed h (Act on by o step at) run some =
      let P : Bool → Type 0 = λ b. same_op o n ≡ b → (b && is_land_step step) ≡ true in
      (elim (same_op o n) as P [
        | true ↦ λ same.
            let one : o ≡ n = same_op_true o n same in
            let R : OpId → Type 0 = λ q. Run board (Act on by q step at ∷ h) in
            let S : OpId → Type 0 = λ q. list_any (is_landing_of n) (landings_by board h on q step word at) ≡ true in
            step_landed h on by step at (subst R one run) (subst S one some)
        | false ↦ λ other. not_both _ _ some (place_none board h on o n step word at (λ phases. inl other))
      ]) refl
  event_landed h (Arrive lane mark) run some = cc

  -- so where a data phase of it landed there, it landed whole
  pub whole_landed : (h : List Event) → Run board h → list_any (is_landing_of n) (landed board h word) ≡ true → has_landed h n ≡ true
  whole_landed [] run some = cc
  whole_landed (e ∷ h) run some =
      or_either (has_landed (e ∷ h) n ≡ true) (list_any (is_landing_of n) (landed board h word)) (list_any (is_landing_of n) (brought board h word e))
      (λ old. or_right (is_land_of n e) (has_landed h n) (whole_landed h run.1 old))
      (λ new. or_left (is_land_of n e) (has_landed h n) (event_landed h e run new))
      (sym (list_any-append (is_landing_of n) (landed board h word) (brought board h word e)) ∙ some)

-- A write of one data phase does not land in parts.

module _ (board : Board) (n : OpId) (op : Op) (is_op : op_of board n ≡ Some op) (posted : is_posted_op board n ≡ true) (alone : length (phases_of op) ≡ 1) where
  alone_parts : (word : Dword) → PartsBringNothing board n word
  alone_parts word h on by number at run =
      let request : Request = request_on op on in
      let requested : request_of board n on ≡ Some request = rw is_op refl in
      let write : is_posted request ≡ true = sym (ap is_posted_in is_op) ∙ posted in
      let lands = write_lands board h on by n request (Part number) at requested write run.0.1 in
      let long = length-drop (through h n) (phases_of op) in
      let none : number ≡ 0 = omega (arith, lands.1, long, alone) in
      let F : ℕ → Type 0 = λ k. list_any (is_landing_of n) (landings_by board h on n (Part k) word at) ≡ false in
      let in_none : F 0 = place_none board h on n n (Part 0) word at (λ phases. inr refl) in
      subst F (sym none) in_none

  -- so where a data phase of it landed, it landed whole
  pub alone_landed : (h : List Event) (word : Dword) → Run board h → list_any (is_landing_of n) (landed board h word) ≡ true → has_landed h n ≡ true
  alone_landed h word run some = whole_landed board n word (alone_parts word) h run some

-- A posted write that landed ended at its master.

accept_ends : (o : OpId) (e : Event) → accepts_from_master o e ≡ true → is_some (ends_as o e) ≡ true
accept_ends o (Act on Master p Accept place) is = rw is refl
accept_ends o (Act on Master p Land place) is = cc
accept_ends o (Act on Master p (Part phases) place) is = cc
accept_ends o (Act on Master p (Read value) place) is = cc
accept_ends o (Act on Master p Latch place) is = cc
accept_ends o (Act on Master p (Take outcome) place) is = cc
accept_ends o (Act on Master p Stall place) is = cc
accept_ends o (Act on Master p MasterAbort place) is = cc
accept_ends o (Act on Master p TargetAbort place) is = cc
accept_ends o (Act on (ByLane lane) p step place) is = cc
accept_ends o (Arrive lane mark) is = cc

accepted_ended : (h : List Event) (o : OpId) → list_any (accepts_from_master o) h ≡ true → has_ended h o ≡ true
accepted_ended [] o some = cc
accepted_ended (e ∷ h) o some =
    or_either (has_ended (e ∷ h) o ≡ true) (accepts_from_master o e) (list_any (accepts_from_master o) h)
    (λ here. or_left (is_some (ends_as o e)) (has_ended h o) (accept_ends o e here))
    (λ older. or_right (is_some (ends_as o e)) (has_ended h o) (accepted_ended h o older)) some

-- a posted write that a lane presents ended at its master
presented_ended : (board : Board) (h : List Event) (on : ℕ) (k : BridgeLane) (o : OpId) → is_posted_op board o ≡ true → Run board h → wants board h on (ByLane k) o ≡ true → has_ended h o ≡ true
presented_ended board h on k o posted run wanted =
    let standing : List Carried = (world_of board h k).standing in
    let presented : presents board on o standing ≡ true = (and_parts (end_of board k == on) (presents board on o standing) wanted).1 in
    let first = posts-less_first board on o standing posted (RightKind-run board h k run).1 presented in
    let each = standing_owned board h k run in
    let Each : List OpId → Type 0 = AllByRecursion (MastersWrite board h) in
    let mine = subst Each first each in
    accepted_ended h o mine.0.is_accepted

land_ended : (board : Board) (h : List Event) (on : ℕ) (by : By) (n : OpId) (step : Step) (at : Place) → is_posted_op board n ≡ true → Run board (Act on by n step at ∷ h) → is_land_step step ≡ true → has_ended (Act on by n step at ∷ h) n ≡ true
land_ended board h on Master n Land at posted run lands = let self = same_op_self n in rw self refl
land_ended board h on (ByLane k) n step at posted run lands = presented_ended board h on k n posted run.1 run.0.0
land_ended board h on Master n (Part number) at posted run lands = cc
land_ended board h on Master n (Read value) at posted run lands = cc
land_ended board h on Master n Accept at posted run lands = cc
land_ended board h on Master n Latch at posted run lands = cc
land_ended board h on Master n (Take outcome) at posted run lands = cc
land_ended board h on Master n Stall at posted run lands = cc
land_ended board h on Master n MasterAbort at posted run lands = cc
land_ended board h on Master n TargetAbort at posted run lands = cc

pub landed_ended : (board : Board) (h : List Event) (n : OpId) → is_posted_op board n ≡ true → Run board h → has_landed h n ≡ true → has_ended h n ≡ true
landed_ended board [] n posted run lands = cc
landed_ended board (Act on by o step at ∷ h) n posted run lands =
    let e : Event = Act on by o step at in
    or_either (has_ended (e ∷ h) n ≡ true) (is_land_of n e) (has_landed h n)
    (λ here.
    let parts = and_parts (same_op o n) (is_land_step step) here in
    let one : o ≡ n = same_op_true o n parts.0 in
    let R : OpId → Type 0 = λ q. Run board (Act on by q step at ∷ h) in
    let G : OpId → Type 0 = λ q. has_ended (Act on by q step at ∷ h) n ≡ true in
    let it : G n = land_ended board h on by n step at posted (subst R one run) parts.1 in
    subst G (sym one) it)
    (λ old. or_right (is_some (ends_as n e)) (has_ended h n) (landed_ended board h n posted run.1 old)) lands
landed_ended board (Arrive lane mark ∷ h) n posted run lands = or_right false (has_ended h n) (landed_ended board h n posted run.1 lands)

-- Where an operation ended, each write before it in its program ended.

pub ended_before : (board : Board) (h : List Event) (w n : OpId) → is_write board w ≡ true → Run board h → has_ended h n ≡ true → w.master ≡ n.master → w.index < n.index → has_ended h w ≡ true
ended_before board [] w n writes run ended_it masters before = cc
ended_before board (e ∷ h) w n writes run ended_it masters before =
    let P : Option Outcome → Type 0 = λ given. ends_as n e ≡ given → (is_some given || has_ended h n) ≡ true → has_ended (e ∷ h) w ≡ true in
    (elim (ends_as n e) as P [
      | None ↦ λ _ older. or_right (is_some (ends_as w e)) (has_ended h w) (ended_before board h w n writes run.1 older masters before)
      | Some outcome ↦ λ ends _.
          let turn : turn_of board h n.master ≡ Some n = ends_turn Tagged board e h (record { op = n; outcome = outcome }) run (ends_as_ended n e outcome ends) in
          let other : same_op n w ≡ false = grind (arith, nat_tests) in
          let old = own_ended board w (write_op board w writes) h n run.1 turn (sym masters) (omega (arith, before)) other in
          or_right (is_some (ends_as w e)) (has_ended h w) old
    ]) refl ended_it
