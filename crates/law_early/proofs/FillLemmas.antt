-- What each arrival keeps is kept by all, and after all of them nothing is in flight.
use Rattle.std.proofs.Common.{◌≡◌, ℕ, zero, suc, ◌==◌, eqb, Bool, true, false, ◌||◌, ◌&&◌, cond, List, [], ◌∷◌, length, Option, Some, None, refl, sym, ap, subst, arith}
use Rattle.std.proofs.lemmas.Bool.Decides.{nat_tests}
use Rattle.std.specs.List.{find, list_any}
use Rattle.board_model.specs.declared.bridge.Bridge.{Bridge}
use Rattle.board_model.specs.declared.bridge.Lane.{Lane as BridgeLane}
use Rattle.board_model.specs.declared.board.Board.{Board}
use Rattle.history_model.specs.declared.event.Mark.{Mark}
use Rattle.history_model.specs.declared.event.Event.{Event}
use Rattle.history_model.specs.declared.event.Event.TheVariants.{Arrive}
use Rattle.history_model.specs.declared.item.Carried.{Carried}
use Rattle.history_model.specs.Lanes.{Both, empty_lane, item_ends, slot_taken, arrives}
use Rattle.history_model.specs.declared.rule.Rule.{Rule}
use Rattle.history_model.specs.World.{same_direction, same_lane, both, world_by}
use Rattle.history_model.specs.Answers.{bridge_to}
use Rattle.history_model.specs.Runs.{next_mark_in, RunBy}
use Rattle.history_model.proofs.facts.BridgeLemmas.{same_lane_true, flip}
use Rattle.history_model.proofs.facts.KeptLemmas.{KeptBy, runs_keep_by}
use Rattle.law_early.specs.Early.{acts_of, AllArrive, lanes_of_bridges, arrival_with, one_arrives, so_many_arrive, lane_arrives, lanes_arrive, all_arrive}
use Rattle.law_early.proofs.LandLemmas.{is_sent, OnlyWords, next_flies, none_flies, arrive_here, arrive_words, arrive_empty}

-- each arrival that is next keeps it
abbrev pub KeptByArrivals : Rule → Board → (List Event → Type 0) → Type 0
KeptByArrivals rule board P = (k : List Event) (lane : BridgeLane) (mark : Mark) → next_mark_in board (world_by rule board k) lane ≡ Some mark → P k → P (Arrive lane mark ∷ k)

module _ (rule : Rule) (board : Board) (P : List Event → Type 0) (kept : KeptByArrivals rule board P) where
  one_keeps : (lane : BridgeLane) (k : List Event) → P k → P (one_arrives rule board lane k)
  one_keeps lane k old =
      let Q : Option Mark → Type 0 = λ m. next_mark_in board (world_by rule board k) lane ≡ m → P (arrival_with lane k m) in
      (elim (next_mark_in board (world_by rule board k) lane) as Q [ None ↦ λ _. old | Some mark ↦ λ next. kept k lane mark next old ]) refl

  so_many_keep : (n : ℕ) (lane : BridgeLane) (k : List Event) → P k → P (so_many_arrive n rule board lane k)
  so_many_keep zero lane k old = old
  so_many_keep (suc n) lane k old = so_many_keep n lane (one_arrives rule board lane k) (one_keeps lane k old)

  pub lanes_keep : (lanes : List BridgeLane) (k : List Event) → P k → P (lanes_arrive rule board lanes k)
  lanes_keep [] k old = old
  lanes_keep (lane ∷ lanes) k old =
      lanes_keep lanes (lane_arrives rule board lane k) (so_many_keep (length (world_by rule board k lane).flight) lane k old)

  pub all_keep : (k : List Event) → P k → P (all_arrive rule board k)
  all_keep k old =
      let lanes : List BridgeLane = lanes_of_bridges board.bridges in
      lanes_keep lanes (lanes_arrive rule board lanes k) (lanes_keep lanes k old)

-- a run with one more arrival is a run
pub run_kept : (rule : Rule) (board : Board) → KeptByArrivals rule board (RunBy rule board)
run_kept rule board k lane mark next run = (next, run)

-- nothing is on the lanes of no bridge
empty_pair : Both
empty_pair = record { here = empty_lane; back = empty_lane }

abbrev IsBare : Board → BridgeLane → Both → Type 0
IsBare board lane x = bridge_to board lane.bus ≡ None → x ≡ empty_pair

bare_kept : (rule : Rule) (board : Board) → KeptBy rule board (IsBare board)
unfolding empty_pair
bare_kept rule board =
    record {
      empty = λ lane none. refl;
      accepts = λ h on by o lane _ _ at old. let is = at.is_bridge in (λ none. cc, λ none. cc);
      latches = λ h on by o lane _ _ at old. let is = at.is_bridge in (λ none. cc, λ none. cc);
      takes = λ lane number op slot outcome x stands old. (λ none. ap (slot_taken number) (old.0 none), λ none. ap (λ z. flip (slot_taken number z)) (old.0 none));
      ends = λ lane o outcome x old. (λ none. ap (item_ends o outcome) (old.0 none), λ none. ap (λ z. flip (item_ends o outcome z)) (old.0 none));
      comes = λ lane mark x old. (λ none. ap (arrives mark) (old.0 none), λ none. ap (λ z. flip (arrives mark z)) (old.0 none));
    }

no_bridge : (rule : Rule) (board : Board) (h : List Event) (lane : BridgeLane) → RunBy rule board h → bridge_to board lane.bus ≡ None → both (world_by rule board h) lane ≡ record { here = empty_lane; back = empty_lane }
unfolding empty_pair
no_bridge rule board h lane run none = runs_keep_by rule board (IsBare board) (bare_kept rule board) h run lane none

none_left : (flight : List Carried) → length flight ≡ 0 → flight ≡ []
none_left [] is = refl
none_left (item ∷ rest) is = absurd (omega (arith, is))

module _ (rule : Rule) (board : Board) where
  -- one less
  one_less : (n : ℕ) (lane : BridgeLane) (k : List Event) → length (world_by rule board k lane).flight ≡ suc n → length (world_by rule board (one_arrives rule board lane k) lane).flight ≡ n
  one_less n lane k is =
      let W = world_by rule board k in
      let Q : Option Mark → Type 0 = λ m. next_mark_in board W lane ≡ m → length (world_by rule board (arrival_with lane k m) lane).flight ≡ n in
      (elim (next_mark_in board W lane) as Q [
        | None ↦ λ none.
            let empty : length (W lane).flight ≡ 0 = ap (λ (f : List Carried). length f) (none_flies board lane (W lane) (W lane).flight none) in
            absurd (omega (arith, is, empty))
        | Some mark ↦ λ next.
            let flies = next_flies board W lane mark next in
            let rest = ap (λ (f : List Carried). length f) (arrive_here board W lane mark flies) in
            let whole = ap (λ (f : List Carried). length f) flies.flies in
            omega (arith, rest, whole, is)
      ]) refl

  -- after as many arrivals as are in flight none is
  so_many_empty : (n : ℕ) (lane : BridgeLane) (k : List Event) → length (world_by rule board k lane).flight ≡ n → (world_by rule board (so_many_arrive n rule board lane k) lane).flight ≡ []
  so_many_empty zero lane k is = none_left (world_by rule board k lane).flight is
  so_many_empty (suc n) lane k is = so_many_empty n lane (one_arrives rule board lane k) (one_less n lane k is)

  -- what holds of a lane on which nothing is in flight, and is kept by each arrival, holds after the round of each of its lanes; `O` holds all along
  module _ (O : List Event → Type 0) (P : BridgeLane → List Event → Type 0) (o_kept : KeptByArrivals rule board O) (kept : (l : BridgeLane) → KeptByArrivals rule board (λ k. O k × P l k))
      (begins : (l : BridgeLane) (k : List Event) → (world_by rule board k l).flight ≡ [] → P l k) where
    round : (lanes : List BridgeLane) (l : BridgeLane) (k : List Event) → O k → list_any (same_lane l) lanes ≡ true → O (lanes_arrive rule board lanes k) × P l (lanes_arrive rule board lanes k)
    round [] l k o is = cc
    round (lane ∷ lanes) l k o is =
        let n : ℕ = length (world_by rule board k lane).flight in
        let next : List Event = lane_arrives rule board lane k in
        let o_next : O next = so_many_keep rule board O o_kept n lane k o in
        let done : P lane next = begins lane next (so_many_empty n lane k refl) in
        let Q : Bool → Type 0 = λ b. same_lane l lane ≡ b → (b || list_any (same_lane l) lanes) ≡ true → O (lanes_arrive rule board lanes next) × P l (lanes_arrive rule board lanes next) in
        (elim (same_lane l lane) as Q [
          | true ↦ λ same _. lanes_keep rule board (λ k. O k × P l k) (kept l) lanes next (o_next, subst (λ m. P m next) (sym (same_lane_true l lane same)) done)
          | false ↦ λ _ later. round lanes l next o_next later
        ]) refl is

  -- first round: only words are left
  abbrev Words : BridgeLane → List Event → Type 0
  Words l k = OnlyWords (world_by rule board k l).flight

  words_kept : (l : BridgeLane) → KeptByArrivals rule board (λ k. RunBy rule board k × Words l k)
  words_kept l k lane mark next old =
      ((next, old.0), arrive_words board (world_by rule board k) lane mark (next_flies board (world_by rule board k) lane mark next) l old.1)

  words_begin : (l : BridgeLane) (k : List Event) → (world_by rule board k l).flight ≡ [] → Words l k
  words_begin l k empty = ap (list_any is_sent) empty

  -- second round: nothing is left
  abbrev Calm : List Event → Type 0
  Calm k = RunBy rule board k × ((l : BridgeLane) → Words l k)

  calm_kept : KeptByArrivals rule board Calm
  calm_kept k lane mark next old =
      ((next, old.0), λ l. arrive_words board (world_by rule board k) lane mark (next_flies board (world_by rule board k) lane mark next) l (old.1 l))

  abbrev Empty : BridgeLane → List Event → Type 0
  Empty l k = (world_by rule board k l).flight ≡ []

  empty_kept : (l : BridgeLane) → KeptByArrivals rule board (λ k. Calm k × Empty l k)
  empty_kept l k lane mark next old =
      (calm_kept k lane mark next old.0, arrive_empty board (world_by rule board k) lane mark (next_flies board (world_by rule board k) lane mark next) (old.0.1 lane) l old.1)

  -- the lanes of a bridge are among them
  lane_here : (bus other : ℕ) (up rest : Bool) → eqb bus other ≡ true → ((eqb bus other && same_direction up false) || ((eqb bus other && same_direction up true) || rest)) ≡ true
  lane_here bus other false rest is = rw is refl
  lane_here bus other true rest is = rw is refl

  lane_later : (first second rest : Bool) → rest ≡ true → (first || (second || rest)) ≡ true
  lane_later true second rest is = refl
  lane_later false true rest is = refl
  lane_later false false rest is = is

  bridge_in : (l : BridgeLane) (bridges : List Bridge) (bridge : Bridge) → find (λ (b : Bridge). b.bus == l.bus) bridges ≡ Some bridge → list_any (same_lane l) (lanes_of_bridges bridges) ≡ true
  bridge_in l [] bridge is = cc
  bridge_in l (b ∷ bridges) bridge is =
      let rest : Bool = list_any (same_lane l) (lanes_of_bridges bridges) in
      let Goal : Type 0 = list_any (same_lane l) (lanes_of_bridges (b ∷ bridges)) ≡ true in
      let P : Bool → Type 0 = λ t. eqb b.bus l.bus ≡ t → cond t (Some b) (find (λ (b : Bridge). b.bus == l.bus) bridges) ≡ Some bridge → Goal in
      (elim (eqb b.bus l.bus) as P [
        | true ↦ λ same _. let back : eqb l.bus b.bus ≡ true = grind (arith, nat_tests) in lane_here l.bus b.bus l.up rest back
        | false ↦ λ _ e. lane_later (same_lane l (record { bus = b.bus; up = false })) (same_lane l (record { bus = b.bus; up = true })) rest (bridge_in l bridges bridge e)
      ]) refl is

  -- a lane is one of a bridge, or nothing is in flight on it
  by_bridge : (P : BridgeLane → List Event → Type 0) (l : BridgeLane) (k : List Event) → RunBy rule board k → ((world_by rule board k l).flight ≡ [] → P l k)
      → (list_any (same_lane l) (lanes_of_bridges board.bridges) ≡ true → P l k) → P l k
  by_bridge P l k run none one =
      let Q : Option Bridge → Type 0 = λ b. bridge_to board l.bus ≡ b → P l k in
      (elim (bridge_to board l.bus) as Q [
        | None ↦ λ is. none (ap (λ (x : Both). x.here.flight) (no_bridge rule board k l run is))
        | Some bridge ↦ λ is. one (bridge_in l board.bridges bridge is)
      ]) refl

  pub all_empty : (k : List Event) (l : BridgeLane) → RunBy rule board k → (world_by rule board (all_arrive rule board k) l).flight ≡ []
  all_empty k l run =
      let lanes : List BridgeLane = lanes_of_bridges board.bridges in
      let once : List Event = lanes_arrive rule board lanes k in
      let once_run : RunBy rule board once = lanes_keep rule board (RunBy rule board) (run_kept rule board) lanes k run in
      let calm : Calm once = (once_run, λ m. by_bridge Words m once once_run (words_begin m once) (λ is. (round (RunBy rule board) Words (run_kept rule board) words_kept words_begin lanes m k run is).1)) in
      let twice_run : RunBy rule board (all_arrive rule board k) = all_keep rule board (RunBy rule board) (run_kept rule board) k run in
      by_bridge Empty l (all_arrive rule board k) twice_run (λ e. e) (λ is. (round Calm Empty calm_kept empty_kept (λ m g e. e) lanes l once calm is).1)

  -- all arrivals after a run, on any board
  pub all_arrived : (h : List Event) → RunBy rule board h → AllArrive rule board h
  all_arrived h run =
      record {
        run = all_keep rule board (RunBy rule board) (run_kept rule board) h run;
        same_acts = all_keep rule board (λ k. acts_of k ≡ acts_of h) (λ k lane mark next same. same) h refl;
        landed = λ l. all_empty h l run;
      }
