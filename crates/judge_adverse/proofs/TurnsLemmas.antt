-- Where no arrival is allowed and each initiator rests, nothing may come next.
use Rattle.std.proofs.Common.{◌≡◌, cond, ℕ, ◌<◌, ◌≤◌, Bool, true, false, eqb, eq-eqb, List, [], ◌∷◌, length, Option, Some, None, refl, sym, ap, subst, ◌∙◌, ◌+◌, slice_get, ⊎_elim, arith}
use Rattle.std.specs.Prelude.{IfSome, IfNone}
use Rattle.std.specs.List.{AllByRecursion}
use Rattle.std.specs.Option.{option_or}
use Rattle.std.proofs.lemmas.Bool.{and_from, cases_lt}
use Rattle.std.proofs.lemmas.Option.{slice_get_within}
use Rattle.pci_command.specs.declared.op_id.OpId.{OpId}
use Rattle.board_model.specs.declared.bridge.Lane.{Lane as BridgeLane}
use Rattle.board_model.specs.declared.bridge.Place.{Place}
use Rattle.board_model.specs.declared.board.Board.{Board}
use Rattle.board_model.specs.Fits.{BoardFits}
use Rattle.board_model.specs.Valid.{has_bridge_to}
use Rattle.board_model.specs.Ways.{end_of}
use Rattle.history_model.specs.declared.event.By.TheVariants.{Master, Lane as ByLane}
use Rattle.history_model.specs.declared.event.Mark.{Mark}
use Rattle.history_model.specs.declared.event.Step.{Step}
use Rattle.history_model.specs.declared.event.Event.{Event}
use Rattle.history_model.specs.declared.event.Event.TheVariants.{Act, Arrive}
use Rattle.history_model.specs.declared.item.Answer.{Answer}
use Rattle.history_model.specs.declared.item.Answer.TheVariants.{Gives, Retry}
use Rattle.history_model.specs.declared.item.Carried.{Carried}
use Rattle.history_model.specs.declared.item.Carried.TheVariants.{Post, Ask, Done, Room, Gone}
use Rattle.history_model.specs.Answers.{wants, answer}
use Rattle.history_model.specs.Next.{ends_on, first_in, act_given, act_of, act_of_item, act_of_lane, act_of_turn}
use Rattle.history_model.specs.Program.{turn_of}
use Rattle.history_model.specs.World.{world_of}
use Rattle.history_model.specs.Runs.{Run, Allowed}
use Rattle.law_lanes.proofs.progress.NextWantLemmas.{at_master, master_bus, master_wants}
use Rattle.law_delivered.specs.Laws.{LawsOfRun}
use Rattle.judge_next.specs.declared.course.Course.{Course}
use Rattle.judge_next.specs.Course.{IsCourse, IsArrival}
use Rattle.judge_next.proofs.AllowedLemmas.{acts_on_board}
use Rattle.judge_next.proofs.EachLineLemmas.{lane_holds, master_holds}
use Rattle.judge_adverse.specs.declared.ring.Initiator.{Initiator}
use Rattle.judge_adverse.specs.declared.ring.Initiator.TheVariants.{Lane as LaneOn, Master as MasterOn}
use Rattle.judge_adverse.specs.declared.ring.Ring.{Ring}
use Rattle.judge_adverse.specs.Turns.{ring_below, IsRing, IsSameRing, IsWoken, is_passed_over, act_of_initiator, Idles, MayCome, NothingMayCome, Rests, AllRest, WentOnBy, GoesOnBy}
use Rattle.judge_adverse.proofs.RingLemmas.{each_placed, lanes_on, masters_on}

module _ (board : Board) (h : List Event) (held : Option OpId) (run : Run board h) (fits : BoardFits board) where
  abbrev Resting : Initiator → Type 0
  Resting = Rests board h held

  pub nothing_comes : ((lane : BridgeLane) (mark : Mark) → Allowed board h (Arrive lane mark) → ⊥) → AllByRecursion Resting (ring_below 256 board) → NothingMayCome board h held
  nothing_comes still rest (Arrive lane mark) allowed = absurd (still lane mark allowed)
  nothing_comes still rest (Act on Master o step place) allowed =
      let wanted = master_wants board h on o allowed.0 in
      let below : on < 256 = master_bus on board.masters o.master fits.masters wanted.0 in
      let each = masters_on Resting board on rest below in
      let there : o.master < length board.masters = at_master on board.masters o.master wanted.0 in
      let here : Resting (MasterOn on o.master) = master_holds (λ (m : ℕ). Resting (MasterOn on m)) (length board.masters) o.master board on each there wanted.0 in
      here o step place refl allowed
  nothing_comes still rest (Act on (ByLane lane) o step place) allowed =
      let on_board = acts_on_board board h run fits on lane o step place allowed in
      let below : on < 256 = subst (λ (b : ℕ). b < 256) on_board.0 on_board.1.end in
      let same : eqb (end_of board lane) on ≡ true = eq-eqb (end_of board lane) on on_board.0 in
      let ends : ends_on board on lane ≡ true = and_from (has_bridge_to board lane.bus) (eqb (end_of board lane) on) on_board.1.there same in
      let each = lanes_on Resting board on rest below in
      let here : Resting (LaneOn on lane) = lane_holds (λ (l : BridgeLane). Resting (LaneOn on l)) board on lane each ends on_board.1.bus in
      absurd (here o step place allowed)

  -- where the look round the ring finds nothing
  pub look_is_vain : (initiators : List Initiator) (found : Option Event) → initiators ≡ ring_below 256 board → ((lane : BridgeLane) (mark : Mark) → Allowed board h (Arrive lane mark) → ⊥)
      → IfNone found ((k : ℕ) (initiator : Initiator) → slice_get initiators k ≡ Some initiator → Rests board h held initiator) → IfNone found (NothingMayCome board h held)
  look_is_vain initiators None all still rest = nothing_comes still (subst (AllByRecursion Resting) all (each_placed Resting initiators rest))
  look_is_vain initiators (Some e) all still rest = tt

-- What comes is not passed over.

-- an arrival is not
pub arrival_not_passed : (held : Option OpId) (e : Event) → IsArrival e → is_passed_over held e ≡ false
arrival_not_passed None e is = refl
arrival_not_passed (Some w) (Act on by o step place) is = absurd is
arrival_not_passed (Some w) (Arrive lane mark) is = refl

pub arrivals_may : (board : Board) (h : List Event) (held : Option OpId) (found : Option Event) → IfSome found IsArrival → IfSome found (Allowed board h) → IfSome found (MayCome board h held)
arrivals_may board h held None arrives allowed = tt
arrivals_may board h held (Some e) arrives allowed = (allowed, arrival_not_passed held e arrives)

module _ (board : Board) (h : List Event) (held : Option OpId) where
  lane_act_not_passed : (other : Option OpId) (on : ℕ) (lane : BridgeLane) (o : OpId) (step : Step) (place : Place) → is_passed_over other (Act on (ByLane lane) o step place) ≡ false
  lane_act_not_passed None on lane o step place = refl
  lane_act_not_passed (Some w) on lane o step place = refl

  abbrev NotPassed : Event → Type 0
  NotPassed e = is_passed_over held e ≡ false

  given_not_passed : (on : ℕ) (lane : BridgeLane) (o : OpId) (wanted : Bool) (given : Answer) → IfSome (cond wanted (act_given on (ByLane lane) o given) None) NotPassed
  given_not_passed on lane o true (Gives step place) = lane_act_not_passed held on lane o step place
  given_not_passed on lane o true (Retry cause) = tt
  given_not_passed on lane o false given = tt

  item_not_passed : (on : ℕ) (lane : BridgeLane) (item : Carried) → IfSome (act_of_item board h on lane item) NotPassed
  item_not_passed on lane (Post o) = given_not_passed on lane o (wants board h on (ByLane lane) o) (answer board h on (ByLane lane) o)
  item_not_passed on lane (Ask o slot) = given_not_passed on lane o (wants board h on (ByLane lane) o) (answer board h on (ByLane lane) o)
  item_not_passed on lane (Done o slot outcome) = tt
  item_not_passed on lane Room = tt
  item_not_passed on lane (Gone slot) = tt

  items_not_passed : (on : ℕ) (lane : BridgeLane) (xs : List Carried) → IfSome (first_in (act_of_item board h on lane) xs) NotPassed
  items_not_passed on lane [] = tt
  items_not_passed on lane (x ∷ xs) =
      let P : Option Event → Type 0 = λ found. IfSome found NotPassed → IfSome (option_or found (first_in (act_of_item board h on lane) xs)) NotPassed in
      (elim (act_of_item board h on lane x) as P [ None ↦ λ _. items_not_passed on lane xs | Some e ↦ λ is. is ]) (item_not_passed on lane x)

  -- a master has one act at most
  master_one : (on master : ℕ) (e : Event) → act_of_turn board h on (turn_of board h master) ≡ Some e → (o : OpId) (step : Step) (place : Place) → o.master ≡ master → Allowed board h (Act on Master o step place)
      → Act on Master o step place ≡ e
  master_one on master e found o step place its is =
      let turn : turn_of board h master ≡ Some o = subst (λ (m : ℕ). turn_of board h m ≡ Some o) its (master_wants board h on o is.0).1 in
      let act : act_of board h on Master o ≡ Some e = subst (λ (t : Option OpId). act_of_turn board h on t ≡ Some e) turn found in
      let asked : act_given on Master o (answer board h on Master o) ≡ Some e = subst (λ (b : Bool). cond b (act_given on Master o (answer board h on Master o)) None ≡ Some e) is.0 act in
      let given : act_given on Master o (Gives step place) ≡ Some e = subst (λ (a : Answer). act_given on Master o a ≡ Some e) is.1 asked in
      let one : Some (Act on Master o step place) ≡ Some e = given in
      cc

  -- so where that is passed over the master rests
  passed_rests : (on master : ℕ) (e : Event) → Some e ≡ act_of_turn board h on (turn_of board h master) → is_passed_over held e ≡ true → Rests board h held (MasterOn on master)
  passed_rests on master e found passed o step place its is =
      subst (λ (one : Event). is_passed_over held one ≡ true) (sym (master_one on master e (sym found) o step place its is)) passed

  -- and where it has none
  none_rests : (on master : ℕ) → ((o : OpId) (step : Step) (place : Place) → o.master ≡ master → Allowed board h (Act on Master o step place) → ⊥) → Rests board h held (MasterOn on master)
  none_rests on master none o step place its is = absurd (none o step place its is)

  -- an initiator that has no act rests
  pub idle_rests : (initiator : Initiator) → Idles board h initiator → Rests board h held initiator
  idle_rests (LaneOn bus lane) idles = idles
  idle_rests (MasterOn bus master) idles = none_rests bus master idles

  -- and so does one whose act is passed over, which is a master
  pub passed_over_rests : (initiator : Initiator) (e : Event) → Some e ≡ act_of_initiator board h initiator → is_passed_over held e ≡ true → Rests board h held initiator
  passed_over_rests (LaneOn bus lane) e found passed =
      let not : is_passed_over held e ≡ false = subst (λ (some : Option Event). IfSome some NotPassed) (sym found) (items_not_passed bus lane (world_of board h lane).standing) in
      absurd cc
  passed_over_rests (MasterOn bus master) e found passed = passed_rests bus master e found passed

  -- an act that is not passed over may come
  pub comes_may : (e : Event) (found : Option Event) → Allowed board h e → IfSome found (λ it. (it ≡ e) × (is_passed_over held e ≡ false)) → IfSome found (MayCome board h held)
  comes_may e None allowed comes = tt
  comes_may e (Some it) allowed comes = subst (MayCome board h held) (sym comes.0) (allowed, comes.1)

  -- all rest, where those from a place on do, and those before it
  pub all_rest : (initiators : List Initiator) (place : ℕ) → ((k : ℕ) (initiator : Initiator) → place ≤ k → k < length initiators → slice_get initiators k ≡ Some initiator → Rests board h held initiator)
      → ((k : ℕ) (initiator : Initiator) → 0 ≤ k → k < place → slice_get initiators k ≡ Some initiator → Rests board h held initiator) → AllRest board h held initiators
  all_rest initiators place later before k initiator there =
      ⊎_elim {C = Rests board h held initiator} (λ (less : k < place). before k initiator (omega arith) less there)
      (λ (not_less : place ≤ k). later k initiator not_less (slice_get_within initiators k initiator there) there)
      (cases_lt k place)

  -- Going on.

  -- the run went on by an event that may come
  pub went_on : (course : Course) (e : Event) → Run board h → LawsOfRun board h → MayCome board h held e → IsCourse board (e ∷ h) course → WentOnBy board h held course e
  went_on course e run laws may course_is = record { may = may; course_is = course_is; lowers = omega (arith, laws.falls (e ∷ []) (may.0, run)) }

-- The ring.

-- the ring is as it was after one more step
pub same_after : (old mid new : Ring) → IsSameRing old mid → IsSameRing mid new → IsSameRing old new
same_after old mid new first second =
    record { initiators = second.initiators ∙ first.initiators; place = second.place ∙ first.place; flags = second.flags ∙ first.flags }

-- so it is a ring still, also where another initiator comes next
pub same_is_ring : (board : Board) (old new : Ring) → IsRing board old → IsSameRing old new → IsRing board new
same_is_ring board old new is same = record {
  all = same.initiators ∙ is.all;
  flags = same.flags ∙ (is.flags ∙ sym (ap length same.initiators));
  within = let many = ap length same.initiators in let place = same.place in let within = is.within in omega (arith, many, place, within);
}

pub moved_is_ring : (board : Board) (old new : Ring) (place : ℕ) → IsRing board old → IsSameRing old new → place < length old.initiators.items → IsRing board (record new { place = place + 1 })
moved_is_ring board old new place is same within = record {
  all = same.initiators ∙ is.all;
  flags = same.flags ∙ (is.flags ∙ sym (ap length same.initiators));
  within = let many = ap length same.initiators in omega (arith, many, within);
}

-- and where initiators are woken
pub woken_is_ring : (board : Board) (bus : ℕ) (old new : Ring) → IsRing board old → new.initiators.items ≡ old.initiators.items → new.place ≡ old.place
    → IsWoken bus old.initiators.items old.idle.items new.idle.items → IsRing board new
woken_is_ring board bus old new is same place woken = same_is_ring board old new is (record { initiators = same; place = place; flags = woken.many })

pub same_at_first : (ring : Ring) → IsSameRing ring ring
same_at_first ring = record { initiators = refl; place = refl; flags = refl }

-- Where there is none.

pub none_then : (found : Option Event) (P : Type 0) → found ≡ None → P → IfNone found P
none_then None P none p = p
none_then (Some e) P none p = tt

pub none_holds : (found : Option Event) (P : Event → Type 0) → found ≡ None → IfSome found P
none_holds None P none = tt
none_holds (Some e) P none = cc

-- what follows where there is none is so
pub none_gives : {X : Type 0} (found : Option X) (P : Type 0) → found ≡ None → IfNone found P → P
none_gives None P none p = p
none_gives (Some e) P none p = cc

pub none_weaker : {X : Type 0} (found : Option X) (P Q : Type 0) → (P → Q) → IfNone found P → IfNone found Q
none_weaker None P Q f p = f p
none_weaker (Some e) P Q f p = tt

pub stopped : (board : Board) (h : List Event) (held : Option OpId) (course : Course) (found : Option Event) → found ≡ None → NothingMayCome board h held → LawsOfRun board h → GoesOnBy board h held course found
stopped board h held course None none nothing laws = (nothing, laws)
stopped board h held course (Some e) none nothing laws = cc
