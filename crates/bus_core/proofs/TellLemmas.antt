-- A master is told how its operation was answered.
use Rattle.std.proofs.Common.{◌≡◌, ◌≢◌, ℕ, ◌+◌, Bool, true, false, cond, ◌==◌, ◌&&◌, is_some, List, [], ◌∷◌, ◌++◌, map, Option, Some, None, refl, sym, ap, subst, ◌∙◌, slice_get}
use Rattle.std.proofs.lemmas.Bool.{eqb-true}
use Rattle.std.proofs.lemmas.List.{append-nil}
use Rattle.pci_command.specs.declared.op_id.OpId.{OpId}
use Rattle.pci_command.specs.declared.op_id.Outcome.{Outcome}
use Rattle.board_model.specs.Limits.{most_ports}
use Rattle.board_model.specs.declared.bridge.Place.{Place}
use Rattle.board_model.specs.declared.op.Op.{Op}
use Rattle.board_model.specs.declared.op.Op.TheVariants.{Read as ReadOp, Write, CfgRead, CfgWrite, Poll}
use Rattle.board_model.specs.declared.board.Board.{Board}
use Rattle.board_model.specs.Requests.{op_of}
use Rattle.board_model.specs.Ways.{lane_back}
use Rattle.history_model.specs.declared.event.By.{By}
use Rattle.history_model.specs.declared.event.By.TheVariants.{Master}
use Rattle.history_model.specs.declared.event.Step.{Step}
use Rattle.history_model.specs.declared.event.Event.{Event}
use Rattle.history_model.specs.declared.event.Event.TheVariants.{Act}
use Rattle.history_model.specs.declared.item.Answer.TheVariants.{Gives, Retry}
use Rattle.history_model.specs.declared.item.Cause.{Cause}
use Rattle.history_model.specs.World.{World}
use Rattle.history_model.specs.Program.{Ending, master_outcome, ending_of, ended, present, next_op, next_try, meets, follows_in, follows, turn_after, turn_of}
use Rattle.history_model.specs.Answers.{is_turn, wants_in}
use Rattle.history_model.proofs.facts.RequestLemmas.{same_op_self}
use Rattle.bus_face.specs.Arrivals.{carried}
use Rattle.bus_agents.specs.Turns.{MasterView, MasterStands, IsOfOther}
use Rattle.bus_agents.proofs.TurnLemmas.{turn_stays}
use Rattle.bus_core.specs.declared.given.Sent.{Sent}
use Rattle.bus_core.specs.Bus.{BusView, Shape, shape_of, IsOf, AreLines, BusStands}
use Rattle.bus_core.specs.Calls.{items_at, IsLine, BusAnswers, TurnsBack}
use Rattle.bus_core.specs.Places.{EndsTurnAt, TellsMaster}
use Rattle.bus_core.specs.Serves.{BusPresents, BusTurnsBack}
use Rattle.bus_core.proofs.ListLemmas.{one_map, one_each, get_map}

-- a turn is of its own master
present_master : (board : Board) (q o : OpId) → present board q ≡ Some o → o.master ≡ q.master
present_master board q o is =
    let P : Bool → Type 0 = λ b. cond b (Some q) None ≡ Some o → o.master ≡ q.master in
    (elim (is_some (op_of board q)) as P [ true ↦ λ e. let same : q ≡ o = cc in ap (λ (r : OpId). r.master) (sym same) | false ↦ λ e. cc ]) is

follows_master : (board : Board) (q : OpId) (outcome : Outcome) (op : Option Op) (o : OpId) → follows_in board q outcome op ≡ Some o → o.master ≡ q.master
follows_master board q outcome None o is = cc
follows_master board q outcome (Some (ReadOp command address)) o is = present_master board (record { master = q.master; index = q.index + 1; attempt = 0 }) o is
follows_master board q outcome (Some (Write command address phases)) o is = present_master board (record { master = q.master; index = q.index + 1; attempt = 0 }) o is
follows_master board q outcome (Some (CfgRead bus device register)) o is = present_master board (record { master = q.master; index = q.index + 1; attempt = 0 }) o is
follows_master board q outcome (Some (CfgWrite bus device register phase)) o is = present_master board (record { master = q.master; index = q.index + 1; attempt = 0 }) o is
follows_master board q outcome (Some (Poll space address want tries)) o is =
    let P : Bool → Type 0 = λ b. cond b (next_op board q) (next_try board q) ≡ Some o → o.master ≡ q.master in
    (elim (meets want outcome) as P [
      | true ↦ λ e. present_master board (record { master = q.master; index = q.index + 1; attempt = 0 }) o e
      | false ↦ λ e. present_master board (record { master = q.master; index = q.index; attempt = q.attempt + 1 }) o e
    ]) is

after_master : (board : Board) (master : ℕ) (turn : Option OpId) (ending : Option Ending) (o : OpId) → ((q : OpId) → turn ≡ Some q → q.master ≡ master) → turn_after board master turn ending ≡ Some o → o.master ≡ master
after_master board master turn None o before is = before o is
after_master board master turn (Some ending) o before is =
    let P : Bool → Type 0 = λ b. (ending.op.master == master) ≡ b → cond b (follows board ending) turn ≡ Some o → o.master ≡ master in
    (elim (ending.op.master == master) as P [
      | true ↦ λ same e. follows_master board ending.op ending.outcome (op_of board ending.op) o e ∙ eqb-true ending.op.master master same
      | false ↦ λ _ e. before o e
    ]) refl is

pub turn_master : (board : Board) (p : List Event) (master : ℕ) (o : OpId) → turn_of board p master ≡ Some o → o.master ≡ master
turn_master board [] master o is = present_master board (record { master = master; index = 0; attempt = 0 }) o is
turn_master board (e ∷ p) master o is = after_master board master (turn_of board p master) (ended e) o (λ q. turn_master board p master q) is

-- an act of another master
other_stands : (board : Board) (p : List Event) (on : ℕ) (o : OpId) (step : Step) (at : Place) (m : MasterView) → IsOfOther m.master (ending_of o (master_outcome step)) → MasterStands board p m → MasterStands board (Act on Master o step at ∷ p) m
other_stands board p on o step at m other stands =
    record { turn = stands.turn ∙ sym (turn_stays board m.master (turn_of board p m.master) (ending_of o (master_outcome step)) other) }

pub told : (board : Board) (place : ℕ) (step : Step) (outcome : Outcome) (old new : List MasterView) → master_outcome step ≡ Some outcome → EndsTurnAt board place old outcome new → TellsMaster board place step old new
told board place step outcome old new is ends =
    record {
      numbers = one_map (λ (m : MasterView). m.master) place old new ends.before ends.after ends.one ends.master;
      tells = λ p on o at told there turn own apart stands.
          let both = sym there ∙ ends.one.was in
          let same : told ≡ ends.before = cc in
          let turn_before : ends.before.turn ≡ Some o = ap (λ (m : MasterView). m.turn) (sym same) ∙ turn in
          one_each (λ _ m. MasterStands board (Act on Master o step at ∷ p) m) place old new ends.before ends.after ends.one
          (ends.ends.stands p on o step at (stands place ends.before ends.one.was) turn_before is)
          (λ n m differ was.
          let other : o.master ≢ m.master = λ e. apart n m differ was (sym own ∙ e) in
          let I : Option Outcome → Type 0 = λ found. IsOfOther m.master (ending_of o found) in
          other_stands board p on o step at m (subst I (sym is) other) (stands n m was));
    }

pub not_told : (board : Board) (place : ℕ) (step : Step) (masters : List MasterView) → master_outcome step ≡ None → TellsMaster board place step masters masters
not_told board place step masters is =
    record {
      numbers = refl;
      tells = λ p on o at told there turn own apart stands n m was.
          let I : Option Outcome → Type 0 = λ found. IsOfOther m.master (ending_of o found) in
          other_stands board p on o step at m (subst I (sym is) tt) (stands n m was);
    }

-- A master that presents its turn.
module _ (board : Board) (old : BusView) (place : ℕ) (master : MasterView) (o : OpId) (there : slice_get old.masters place ≡ Some master) (turn : master.turn ≡ Some o)
    (tags : By → OpId → ℕ) (world : World) (p : List Event) (stands : BusStands board tags world p old) where
  own_master : o.master ≡ master.master
  own_master = turn_master board p master.master o (sym (stands.masters place master there).turn ∙ turn)

  has_place : slice_get (shape_of old).masters place ≡ Some o.master
  has_place = get_map (λ (m : MasterView). m.master) old.masters place master there ∙ ap Some (sym own_master)

  pub master_line : IsLine board old.bus tags Master o (most_ports + place)
  master_line =
      let line = stands.lines.masters place o has_place in
      record { line_is = line.0; tells = line.1; there = stands.is_of.masters_on place o.master has_place }

  pub master_wants : wants_in board world p old.bus Master o ≡ true
  master_wants =
      let is : turn_of board p o.master ≡ Some o = ap (turn_of board p) own_master ∙ (sym (stands.masters place master there).turn ∙ turn) in
      ap (λ b. b && is_turn o (turn_of board p o.master)) (stands.is_of.masters_on place o.master has_place) ∙ (ap (is_turn o) is ∙ same_op_self o)

  pub master_apart : (n : ℕ) (m : MasterView) → n ≢ place → slice_get old.masters n ≡ Some m → master.master ≢ m.master
  master_apart n m differ is same =
      differ (stands.is_of.masters_apart n place master.master (get_map (λ (x : MasterView). x.master) old.masters n m is ∙ ap Some (sym same)) (get_map (λ (x : MasterView). x.master) old.masters place master there))

pub master_turns : (board : Board) (old : BusView) (place : ℕ) (master : MasterView) (o : OpId) → slice_get old.masters place ≡ Some master
    → master.turn ≡ Some o → TurnsBack board old (most_ports + place) o → BusTurnsBack board Master o old
master_turns board old place master o there turn turns =
    record {
      wanted = λ tags world p stands. master_wants board old place master o there turn tags world p stands;
      turns = λ tags world p stands. turns.turns tags world p Master (master_line board old place master o there turn tags world p stands) stands;
    }

pub master_retried : (board : Board) (old new : BusView) (place : ℕ) (master : MasterView) (o : OpId) (cause : Cause) (over : Option Sent)
    → slice_get old.masters place ≡ Some master → master.turn ≡ Some o → BusAnswers board old (most_ports + place) o (Retry cause) over new
    → BusPresents board Master o old (Retry cause) None None new
master_retried board old new place master o cause over there turn answers =
    record {
      presents = λ tags world p stands.
          let done = answers.answers tags world p Master (master_line board old place master o there turn tags world p stands) stands in
          record {
            wanted = master_wants board old place master o there turn tags world p stands;
            answer_is = done.answer_is;
            stands = done.stands;
            flights = record { to_bus = λ n lane is. refl; from_bus = λ n lane is. sym (append-nil (world (lane_back lane)).flight) };
          };
    }

pub master_did : (board : Board) (old mid : BusView) (masters : List MasterView) (place : ℕ) (master : MasterView) (o : OpId) (step : Step) (at : Place) (over : Option Sent) → slice_get old.masters place ≡ Some master → master.turn ≡ Some o
    → BusAnswers board old (most_ports + place) o (Gives step at) over mid → mid.masters ≡ old.masters → TellsMaster board place step mid.masters masters
    → BusPresents board Master o old (Gives step at) over None (record mid { masters = masters })
master_did board old mid masters place master o step at over there turn answers same tells =
    record {
      presents = λ tags world p stands.
          let done = answers.answers tags world p Master (master_line board old place master o there turn tags world p stands) stands in
          let S : List ℕ → Shape = λ l. record { bus = mid.bus; lanes = (shape_of mid).lanes; masters = l; targets = (shape_of mid).targets } in
          let old_tells = subst (λ (ms : List MasterView). TellsMaster board place step ms masters) same tells in
          record {
            wanted = master_wants board old place master o there turn tags world p stands;
            answer_is = done.answer_is;
            stands = record {
              is_of = subst (λ l. IsOf board (S l)) (sym tells.numbers) done.stands.is_of;
              lines = subst (λ l. AreLines board tags (S l)) (sym tells.numbers) done.stands.lines;
              ports = done.stands.ports;
              masters = old_tells.tells p old.bus o at master there turn (own_master board old place master o there turn tags world p stands) (master_apart board old place master o there turn tags world p stands) stands.masters;
              targets = done.stands.targets;
              through = done.stands.through;
              parts = done.stands.parts;
            };
            flights = record {
              to_bus = done.flights.to_bus;
              from_bus = λ n lane is. done.flights.from_bus n lane is ∙ ap (λ q. (world (lane_back lane)).flight ++ map carried q) (sym (append-nil (items_at over n)));
            };
          };
    }
