-- Operations that have an act, act by act, and the turns of their masters.
use Rattle.std.proofs.Common.{◌≡◌, ℕ, ◌+◌, ◌*◌, ◌<◌, ◌≤◌, Bool, true, false, eqb, ◌&&◌, List, length, map, get_or, Option, Some, None, inl, inr, sym, ap, subst, ◌∙◌, arith}
use Rattle.std.specs.List.{slice_get}
use Rattle.std.proofs.Math.ListN.{set}
use Rattle.std.proofs.lemmas.Bool.{cases_eq}
use Rattle.std.proofs.lemmas.Bool.Decides.{nat_tests}
use Rattle.std.specs.Option.{option_map}
use Rattle.std.proofs.lemmas.Option.{slice_get_within, slice_get-map, get_or_from_slice_get}
use Rattle.std.proofs.lemmas.Grind.{get_or-set_at}
use Rattle.std.proofs.lemmas.List.{get_or-set_other}
use Rattle.pci_command.specs.declared.op_id.OpId.{OpId}
use Rattle.board_model.specs.declared.agents.Master.{Master}
use Rattle.board_model.specs.declared.bridge.Lane.{Lane}
use Rattle.board_model.specs.declared.bridge.Place.{Place}
use Rattle.history_model.specs.declared.event.Mark.{Mark}
use Rattle.history_model.specs.declared.event.By.TheVariants.{Master as ByMaster, Lane as ByLane}
use Rattle.history_model.specs.declared.event.Step.{Step}
use Rattle.history_model.specs.declared.event.Event.{Event}
use Rattle.history_model.specs.declared.event.Event.TheVariants.{Act, Arrive}
use Rattle.observe_log.specs.Told.{presents, is_latch, latches_one, InTurn, IsBegun}
use Rattle.observe_log.specs.Checks.{AreNone, TakesTurn, turn_behind, GoesOn, AreBegun, AllBegin}
use Rattle.observe_log.specs.Loops.{BeginSo}
use Rattle.observe_log.proofs.FollowLemmas.{get_set_same, get_set_other}

-- a turn behind an act is one or two more than the operations before it are over
turn_least : (latches : Bool) (index : ℕ) → 2 * index + 1 ≤ turn_behind latches index
turn_least true index = omega arith
turn_least false index = omega arith

turn_most : (latches : Bool) (index : ℕ) → turn_behind latches index ≤ 2 * index + 2
turn_most true index = omega arith
turn_most false index = omega arith

-- an act that no master presents
pub goes_none : (act : Event) (turns : List ℕ) → ((master index : ℕ) → presents master index act ≡ true → ⊥) → GoesOn act turns turns
goes_none act turns none = record {
  more = λ master index n at below. inl (n, at, below);
  within = λ master. omega arith;
  last = λ master index presented. absurd (none master index presented);
}

pub goes_lane : (on : ℕ) (lane : Lane) (o : OpId) (step : Step) (place : Place) (turns : List ℕ) → GoesOn (Act on (ByLane lane) o step place) turns turns
goes_lane on lane o step place turns = goes_none (Act on (ByLane lane) o step place) turns (λ master index presented. cc)

pub goes_arrival : (lane : Lane) (mark : Mark) (turns : List ℕ) → GoesOn (Arrive lane mark) turns turns
goes_arrival lane mark turns = goes_none (Arrive lane mark) turns (λ master index presented. cc)

presents_master : (own master other index : ℕ) → (eqb own master && eqb other index) ≡ true → own ≡ master
presents_master own master other index presented = grind (arith, nat_tests)

presents_index : (own master other index : ℕ) → (eqb own master && eqb other index) ≡ true → other ≡ index
presents_index own master other index presented = grind (arith, nat_tests)

presents_own : (own master other index : ℕ) → master ≡ own → index ≡ other → (eqb own master && eqb other index) ≡ true
presents_own own master other index one two = grind (arith, nat_tests)

-- an act by which a master takes its turn
pub goes_turn : (on : ℕ) (o : OpId) (step : Step) (place : Place) (before turns : List ℕ) → TakesTurn o (is_latch step) before turns → GoesOn (Act on ByMaster o step place) before turns
goes_turn on o step place before turns takes =
    let inside : o.master < length before = slice_get_within before o.master takes.turn takes.was in
    let before_is : get_or before o.master 0 ≡ takes.turn = get_or_from_slice_get before o.master takes.turn 0 takes.was in
    let least = turn_least (is_latch step) o.index in
    let most = turn_most (is_latch step) o.index in
    let low = takes.open_or_next.0 in
    let high = takes.open_or_next.1 in
    subst (λ (l : List ℕ). GoesOn (Act on ByMaster o step place) before l) (sym takes.put)
    (record {
      more = λ master index n at below.
          elim (cases_eq master o.master) [
            | inl same ↦
                let put : slice_get (set before o.master (turn_behind (is_latch step) o.index)) master ≡ Some (turn_behind (is_latch step) o.index) =
                ap (slice_get (set before o.master (turn_behind (is_latch step) o.index))) same ∙ get_set_same before o.master (turn_behind (is_latch step) o.index) inside in
                let now : n ≡ turn_behind (is_latch step) o.index = cc in
                let was : slice_get before master ≡ Some takes.turn = ap (slice_get before) same ∙ takes.was in
                elim (cases_eq index o.index) [
                  | inl here ↦ inr (presents_own o.master master o.index index same here)
                  | inr other ↦ inl (takes.turn, was, omega (arith, now, least, most, low, high, below, other))
                ]
            | inr other ↦ inl (n, sym (get_set_other before o.master master (turn_behind (is_latch step) o.index) other) ∙ at, below)
          ];
      within = λ master.
          elim (cases_eq master o.master) [
            | inl same ↦
                let put : get_or (set before o.master (turn_behind (is_latch step) o.index)) master 0 ≡ turn_behind (is_latch step) o.index =
                get_or-set_at before o.master master (turn_behind (is_latch step) o.index) 0 same inside in
                let was : get_or before master 0 ≡ takes.turn = ap (λ (m : ℕ). get_or before m 0) same ∙ before_is in
                omega (arith, put, was, least, high)
            | inr other ↦
                let kept = get_or-set_other before o.master master (turn_behind (is_latch step) o.index) 0 other in
                omega (arith, kept)
          ];
      last = λ master index presented.
          let same : o.master ≡ master = presents_master o.master master o.index index presented in
          let one : o.index ≡ index = presents_index o.master master o.index index presented in
          let put : get_or (set before o.master (turn_behind (is_latch step) o.index)) master 0 ≡ turn_behind (is_latch step) o.index =
          get_or-set_at before o.master master (turn_behind (is_latch step) o.index) 0 (sym same) inside in
          let was : get_or before master 0 ≡ takes.turn = ap (λ (m : ℕ). get_or before m 0) (sym same) ∙ before_is in
          let behind : turn_behind (is_latch step) index ≡ turn_behind (is_latch step) o.index = ap (turn_behind (is_latch step)) (sym one) in
          (omega (arith, was, one, high), omega (arith, put, behind));
    })

-- from turns to operations
in_turn_of : (earlier : Event) (i index : ℕ) → turn_behind (latches_one earlier) i ≤ 2 * index + 1 → InTurn earlier i index
in_turn_of earlier i index below = record {
  upto = let least = turn_least (latches_one earlier) i in omega (arith, least, below);
  over = λ ended. let two : turn_behind (latches_one earlier) i ≡ 2 * i + 2 = ap (λ (b : Bool). turn_behind b i) ended in omega (arith, two, below);
}

-- one act more
pub begun_more : (acts : List Event) (count : ℕ) (act : Event) (before turns : List ℕ) → slice_get acts count ≡ Some act → GoesOn act before turns
    → AreBegun acts count before → AreBegun acts (count + 1) turns
begun_more acts count act before turns there goes old = record {
  first = λ master index n at below.
      elim (goes.more master index n at below) [
        | inl earlier ↦
            let was = old.first master index earlier.0 earlier.1 earlier.2 in
            record { place = was.place; before = omega (arith, was.before); act = was.act; there = was.there; presented = was.presented }
        | inr this ↦ record { place = count; before = omega arith; act = act; there = there; presented = this }
      ];
  most = λ k master index earlier within is presented.
      elim (cases_eq k count) [
        | inl same ↦
            let here : slice_get acts count ≡ Some earlier = ap (slice_get acts) (sym same) ∙ is in
            let one : act ≡ earlier = cc in
            let this : presents master index act ≡ true = ap (presents master index) one ∙ presented in
            let last = (goes.last master index this).1 in
            let behind : turn_behind (latches_one earlier) index ≡ turn_behind (latches_one act) index = ap (λ (e : Event). turn_behind (latches_one e) index) (sym one) in
            omega (arith, last, behind)
        | inr other ↦
            let was = old.most k master index earlier (omega arith) is presented in
            let more = goes.within master in
            omega (arith, was, more)
      ];
  in_turn = λ j k master i index earlier later before_k within j_is k_is presented_i presented.
      elim (cases_eq k count) [
        | inl same ↦
            let here : slice_get acts count ≡ Some later = ap (slice_get acts) (sym same) ∙ k_is in
            let one : act ≡ later = cc in
            let this : presents master index act ≡ true = ap (presents master index) one ∙ presented in
            let open_or_next = (goes.last master index this).0 in
            let was = old.most j master i earlier (omega arith) j_is presented_i in
            in_turn_of earlier i index (omega (arith, open_or_next, was))
        | inr other ↦ old.in_turn j k master i index earlier later before_k (omega arith) j_is k_is presented_i presented
      ];
}

pub begun_none : (acts : List Event) (turns : List ℕ) → AreNone turns → AreBegun acts 0 turns
begun_none acts turns none = record {
  first = λ master index n at below. let nothing = none.none master n at in absurd (omega (arith, nothing, below));
  most = λ k master index act within is presented. absurd (omega arith);
  in_turn = λ j k master i index earlier later before within j_is k_is presented_i presented. absurd (omega arith);
}

-- a list of zeros
pub zeros : {X : Type 0} (xs : List X) → AreNone (map (λ _. 0) xs)
zeros {X} xs = record {
  none = λ master n at.
      let mapped = slice_get-map {A = X} (λ _. 0) xs master in
      let P : Option X → Type 0 = λ found. option_map (λ _. 0) found ≡ Some n → n ≡ 0 in
      (elim (slice_get xs master) as P [ None ↦ λ none. absurd cc | Some x ↦ λ some. cc ]) (sym mapped ∙ at);
}

-- all operations of all masters are begun
pub all_begun : (acts : List Event) (count : ℕ) (masters : List Master) (turns : List ℕ) → AreBegun acts count turns → AllBegin masters turns
    → (master index : ℕ) (agent : Master) → slice_get masters master ≡ Some agent → index < length agent.ops → IsBegun acts count master index
all_begun acts count masters turns counted all master index agent there inside =
    let own = all.all master agent there in
    counted.first master index own.0 own.1 (omega (arith, own.2, inside))

-- and in turn
pub all_in_turn : (acts : List Event) (turns : List ℕ) → AreBegun acts (length acts) turns
    → (j k master i index : ℕ) (earlier later : Event) → j < k → slice_get acts j ≡ Some earlier → slice_get acts k ≡ Some later
    → presents master i earlier ≡ true → presents master index later ≡ true → InTurn earlier i index
all_in_turn acts turns counted j k master i index earlier later before j_is k_is presented_i presented =
    counted.in_turn j k master i index earlier later before (slice_get_within acts k later k_is) j_is k_is presented_i presented

-- the masters, one more
pub begin_none : (masters : List Master) (turns : List ℕ) → BeginSo masters turns 0
begin_none masters turns = record { all = λ master agent within there. absurd (omega arith) }

pub begin_next : (masters : List Master) (turns : List ℕ) (k : ℕ) (agent : Master) (n : ℕ) → slice_get masters k ≡ Some agent → slice_get turns k ≡ Some n → 2 * length agent.ops ≤ n + 1
    → BeginSo masters turns k → BeginSo masters turns (k + 1)
begin_next masters turns k agent n there at few old = record {
  all = λ master other within is.
      elim (cases_eq master k) [
        | inl same ↦
            let here : slice_get masters k ≡ Some other = ap (slice_get masters) (sym same) ∙ is in
            let one : agent ≡ other = cc in
            let here_n : slice_get turns master ≡ Some n = ap (slice_get turns) same ∙ at in
            let ops : length agent.ops ≡ length other.ops = ap (λ (m : Master). length m.ops) one in
            (n, here_n, omega (arith, few, ops))
        | inr apart ↦ old.all master other (omega (arith, within, apart)) is
      ];
}

pub begin_all : (masters : List Master) (turns : List ℕ) (k : ℕ) → length masters ≤ k → BeginSo masters turns k → AllBegin masters turns
begin_all masters turns k most old = record {
  all = λ master agent there. old.all master agent (let within = slice_get_within masters master agent there in omega (arith, within, most)) there;
}

-- what the search may use
pub ruleset goes_steps = (goes_turn, goes_lane, goes_arrival)

pub ruleset begun_steps = (begun_none, begun_more)

pub ruleset begin_steps = (begin_none, begin_next, begin_all)
