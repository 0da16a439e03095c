-- What an operation knew as its master presented it stays, once a data phase of it could land.
use Rattle.std.proofs.Common.{◌≡◌, ℕ, ◌+◌, Bool, true, false, cond, eqb, eqb-true, List, [], ◌∷◌, Option, Some, None, is_some, refl, sym, ap, subst, ◌∙◌, arith}
use Rattle.std.proofs.lemmas.Bool.Decides.{nat_tests}
use Rattle.pci_command.specs.declared.op_id.OpId.{OpId}
use Rattle.pci_command.specs.declared.op_id.Outcome.{Outcome}
use Rattle.pci_command.specs.Same.{same_op}
use Rattle.board_model.specs.declared.bridge.Place.{Place}
use Rattle.board_model.specs.declared.board.Board.{Board}
use Rattle.board_model.specs.declared.op.Op.{Op}
use Rattle.board_model.specs.declared.op.Op.TheVariants.{Read as ReadOp, Write, CfgRead, CfgWrite, Poll}
use Rattle.board_model.specs.Requests.{op_of}
use Rattle.history_model.specs.declared.event.By.{By}
use Rattle.history_model.specs.declared.event.By.TheVariants.{Master, Lane as ByLane}
use Rattle.history_model.specs.declared.event.Step.{Step}
use Rattle.history_model.specs.declared.event.Event.{Event}
use Rattle.history_model.specs.declared.event.Event.TheVariants.{Act, Arrive}
use Rattle.history_model.specs.declared.rule.Rule.TheVariants.{Tagged}
use Rattle.history_model.specs.World.{world_of}
use Rattle.history_model.specs.Program.{ending_of, master_outcome, present, next_op, next_try, meets, follows_in, follows, turn_after, turn_of}
use Rattle.history_model.specs.Knowledge.{stands_after, is_land_of, is_land_step, has_landed}
use Rattle.history_model.specs.Runs.{Run}
use Rattle.history_model.proofs.facts.WantsLemmas.{wants-turn}
use Rattle.history_model.proofs.facts.RequestLemmas.{same_op_true, same_op_self}
use Rattle.std.proofs.lemmas.Bool.{and_parts}
use Rattle.law_fresh.proofs.Laws.{Begun, Begun-turn, Begun-kept, WorldHas, or_either, Names, Entry, items_after, presents_named}
use Rattle.law_audit.specs.Clocks.{Clocks, known_after, taught_after, clocks_of}

-- What follows an operation stands behind it.

abbrev After : OpId → Option OpId → Type 0
After o None = Unit {0}
After o (Some t) = stands_after o t ≡ true

present_after : (board : Board) (o t : OpId) → stands_after o t ≡ true → After o (present board t)
present_after board o t is =
    let P : Bool → Type 0 = λ b. After o (cond b (Some t) None) in
    elim (is_some (op_of board t)) as P [ true ↦ is | false ↦ tt ]

next_after : (board : Board) (o : OpId) → After o (next_op board o)
next_after board o = present_after board o (record { master = o.master; index = o.index + 1; attempt = 0 }) (grind (arith, nat_tests))

try_after : (board : Board) (o : OpId) → After o (next_try board o)
try_after board o = present_after board o (record { master = o.master; index = o.index; attempt = o.attempt + 1 }) (grind (arith, nat_tests))

follows_after : (board : Board) (o : OpId) (outcome : Outcome) (found : Option Op) → After o (follows_in board o outcome found)
follows_after board o outcome None = tt
follows_after board o outcome (Some (ReadOp command address)) = next_after board o
follows_after board o outcome (Some (Write command address phases)) = next_after board o
follows_after board o outcome (Some (CfgRead bus device register)) = next_after board o
follows_after board o outcome (Some (CfgWrite bus device register phase)) = next_after board o
follows_after board o outcome (Some (Poll space address want tries)) =
    let P : Bool → Type 0 = λ b. After o (cond b (next_op board o) (next_try board o)) in
    elim (meets want outcome) as P [ true ↦ next_after board o | false ↦ try_after board o ]

module _ (board : Board) where
  -- an operation that its master presented, and that is no turn any more or knows what its master knows
  record Settled (h : List Event) (q : OpId) : Type 0 where
    begun : Begun board h q
    start : turn_of board h q.master ≡ Some q → (author : ℕ) → (clocks_of board h).start q author ≡ (clocks_of board h).known q.master author

  -- after its master presented it, or another of its operations ended
  ending_settled : (h : List Event) (o : OpId) (outcome : Option Outcome) (taught : OpId → ℕ → ℕ) (q : OpId) (author : ℕ) → turn_of board h o.master ≡ Some o → Begun board h q
      → (same_op o q ≡ false → turn_of board h q.master ≡ Some q → (clocks_of board h).start q author ≡ (clocks_of board h).known q.master author)
      → turn_after board q.master (turn_of board h q.master) (ending_of o outcome) ≡ Some q
      → cond (same_op o q) ((clocks_of board h).known o.master) ((clocks_of board h).start q) author ≡ known_after q.master ((clocks_of board h).known q.master) taught (ending_of o outcome) author
  ending_settled h o None taught q author is_turn begun old turn =
      let clocks : Clocks = clocks_of board h in
      let P : Bool → Type 0 = λ b. same_op o q ≡ b → cond b (clocks.known o.master) (clocks.start q) author ≡ clocks.known q.master author in
      (elim (same_op o q) as P [
        | true ↦ λ same. let one : o ≡ q = same_op_true o q same in ap (λ (p : OpId). clocks.known p.master author) one
        | false ↦ λ other. old other turn
      ]) refl
  ending_settled h o (Some outcome) taught q author is_turn begun old turn =
      let clocks : Clocks = clocks_of board h in
      let next : Option OpId = follows board (record { op = o; outcome = outcome }) in
      let X : Bool → Type 0 = λ b. cond (same_op o q) (clocks.known o.master) (clocks.start q) author ≡ known_after q.master (clocks.known q.master) taught (ending_of o (Some outcome)) author in
      let P : Bool → Type 0 = λ b. eqb o.master q.master ≡ b → cond b next (turn_of board h q.master) ≡ Some q → X b in
      (elim (eqb o.master q.master) as P [
        | true ↦ λ same f.
            let masters : o.master ≡ q.master = eqb-true o.master q.master same in
            let was : turn_of board h q.master ≡ Some o = ap (turn_of board h) (sym masters) ∙ is_turn in
            let first : stands_after o q ≡ false = begun o was in
            let behind : After o next = follows_after board o outcome (op_of board o) in
            let second : stands_after o q ≡ true = subst (After o) f behind in
            let e : true ≡ false = sym second ∙ first in
            cc
        | false ↦ λ apart f.
            let differ : same_op o q ≡ false = rw apart refl in
            let known : known_after q.master (clocks.known q.master) taught (ending_of o (Some outcome)) author ≡ clocks.known q.master author = rw apart refl in
            let start : cond (same_op o q) (clocks.known o.master) (clocks.start q) author ≡ clocks.start q author = rw differ refl in
            start ∙ old differ f ∙ sym known
      ]) refl turn

  act_settled : (on : ℕ) (by : By) (o : OpId) (step : Step) (place : Place) (h : List Event) (q : OpId) → Run board (Act on by o step place ∷ h) → Settled h q → Settled (Act on by o step place ∷ h) q
  act_settled on Master o step place h q run old =
      let e : Event = Act on Master o step place in
      record {
        begun = Begun-kept Tagged board e h q run old.begun;
        start = λ turn author. ending_settled h o (master_outcome step) (taught_after board (clocks_of board h) h e) q author (wants-turn board h on o run.0.0) old.begun (λ _ was. old.start was author) turn;
      }
  act_settled on (ByLane k) o step place h q run old = record { begun = Begun-kept Tagged board (Act on (ByLane k) o step place) h q run old.begun; start = λ turn author. old.start turn author }

  kept : (e : Event) (h : List Event) → Run board (e ∷ h) → (q : OpId) → Settled h q → Settled (e ∷ h) q
  kept (Act on by o step place) h run q old = act_settled on by o step place h q run old
  kept (Arrive lane mark) h run q old = record { begun = Begun-kept Tagged board (Arrive lane mark) h q run old.begun; start = λ turn author. old.start turn author }

  entry : (e : Event) (h : List Event) → Run board (e ∷ h) → Entry (Settled (e ∷ h)) e
  entry (Act on Master o step place) h run =
      let e : Event = Act on Master o step place in
      let turn : turn_of board h o.master ≡ Some o = wants-turn board h on o run.0.0 in
      let begun : Begun board h o = Begun-turn board h o turn in
      let self : same_op o o ≡ true = same_op_self o in
      record {
        begun = Begun-kept Tagged board e h o run begun;
        start = λ next author. ending_settled h o (master_outcome step) (taught_after board (clocks_of board h) h e) o author turn begun (λ other _. let f : true ≡ false = sym self ∙ other in cc) next;
      }
  entry (Act on (ByLane k) o step place) h run = tt
  entry (Arrive lane mark) h run = tt

  items_settled : (h : List Event) → Run board h → WorldHas (Names (Settled h)) (world_of board h)
  items_settled [] run = λ lane. (tt, tt)
  items_settled (e ∷ h) run = items_after Tagged board h (Settled h) (Settled (e ∷ h)) (kept e h run) (items_settled h run.1) e run (entry e h run)

  lands_settled : (e : Event) (h : List Event) (w : OpId) → Run board (e ∷ h) → is_land_of w e ≡ true → Settled (e ∷ h) w
  lands_settled (Act on by o step place) h w run is =
      let e : Event = Act on by o step place in
      let named : Settled (e ∷ h) o = presents_named Tagged board h (Settled h) (Settled (e ∷ h)) (kept e h run) (items_settled h run.1) on by o step place run (entry e h run) in
      let same : same_op o w ≡ true = (and_parts (same_op o w) (is_land_step step) is).0 in
      subst (Settled (e ∷ h)) (same_op_true o w same) named
  lands_settled (Arrive lane mark) h w run is = cc

  landed_settled : (h : List Event) (w : OpId) → Run board h → has_landed h w ≡ true → Settled h w
  landed_settled [] w run is = cc
  landed_settled (e ∷ h) w run is =
      or_either (Settled (e ∷ h) w) (is_land_of w e) (has_landed h w)
      (λ now. lands_settled e h w run now)
      (λ before. kept e h run w (landed_settled h w run.1 before)) is

-- the start of a write that landed stays
pub start_stays : (board : Board) (e : Event) (h : List Event) (w : OpId) (author : ℕ) → Run board (e ∷ h) → has_landed h w ≡ true → (clocks_of board (e ∷ h)).start w author ≡ (clocks_of board h).start w author
start_stays board (Act on Master o step place) h w author run is =
    let clocks : Clocks = clocks_of board h in
    let P : Bool → Type 0 = λ b. same_op o w ≡ b → cond b (clocks.known o.master) (clocks.start w) author ≡ clocks.start w author in
    (elim (same_op o w) as P [
      | true ↦ λ same.
          let one : o ≡ w = same_op_true o w same in
          let turn : turn_of board h w.master ≡ Some w = subst (λ (p : OpId). turn_of board h p.master ≡ Some p) one (wants-turn board h on o run.0.0) in
          ap (λ (p : OpId). clocks.known p.master author) one ∙ sym ((landed_settled board h w run.1 is).start turn author)
      | false ↦ λ _. refl
    ]) refl
start_stays board (Act on (ByLane k) o step place) h w author run is = refl
start_stays board (Arrive lane mark) h w author run is = refl
