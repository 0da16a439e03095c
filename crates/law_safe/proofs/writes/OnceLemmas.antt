-- A posted write that has landed brings nothing more.
use Rattle.std.proofs.Common.{◌≡◌, ℕ, ◌+◌, ◌≤◌, Bool, true, false, ◌||◌, ◌==◌, eqb-true, cond, List, [], ◌∷◌, sym, subst, arith}
use Rattle.std.specs.List.{list_any}
use Rattle.list_facts.specs.Lists.{less, total}
use Rattle.history_model.specs.Lanes.{is_of}
use Rattle.pci_command.specs.declared.op_id.OpId.{OpId}
use Rattle.pci_command.specs.Same.{same_op}
use Rattle.board_model.specs.declared.bridge.Bridge.{Bridge}
use Rattle.board_model.specs.declared.bridge.Lane.{Lane as BridgeLane}
use Rattle.board_model.specs.declared.board.Board.{Board}
use Rattle.board_model.specs.Ways.{Dword, end_of}
use Rattle.board_model.specs.Valid.{IsValid}
use Rattle.history_model.specs.declared.event.By.{By}
use Rattle.history_model.specs.declared.event.By.TheVariants.{Master, Lane as ByLane}
use Rattle.history_model.specs.declared.event.Step.TheVariants.{Land, Part, Read, Accept, Latch, Take, Stall, MasterAbort, TargetAbort}
use Rattle.history_model.specs.declared.event.Event.{Event}
use Rattle.history_model.specs.declared.event.Event.TheVariants.{Act, Arrive}
use Rattle.history_model.specs.declared.item.Carried.{Carried}
use Rattle.history_model.specs.World.{world_of}
use Rattle.history_model.specs.Answers.{wants, presents}
use Rattle.history_model.specs.Words.{brought}
use Rattle.history_model.specs.Knowledge.{is_land_of, has_landed, is_landing_of}
use Rattle.history_model.specs.Runs.{Run}
use Rattle.law_lanes.specs.order.Order.{posts, is_posted_op}
use Rattle.law_lanes.specs.order.One.{times, ends_at_master, lands_from_master, lands_from_lane, one_of, on_lane, both_lanes, on_lanes}
use Rattle.std.proofs.lemmas.Bool.{and_parts}
use Rattle.list_facts.proofs.EachLemmas.{Each-find, Each-within}
use Rattle.list_facts.proofs.FindLemmas.{find_passes}
use Rattle.history_model.proofs.facts.RequestLemmas.{same_op_self}
use Rattle.history_model.proofs.facts.WantsLemmas.{wants-turn}
use Rattle.law_lanes.proofs.Laws.{RightKind-run, WellFormed-numbers}
use Rattle.law_lanes.proofs.order.Laws.{OnePost-run, turn_not_ended, posts-less_first}
use Rattle.law_fresh.proofs.InformedLemmas.{lane_bridge}
use Rattle.law_fresh.proofs.Laws.{or_either}
use Rattle.law_delivered.proofs.RaisedLemmas.{landed_ended}
use Rattle.law_safe.proofs.writes.CoverLemmas.{brought_is}

abbrev bit : Bool → ℕ
bit b = cond b 1 0

pub any_times : (test : Event → Bool) (h : List Event) → list_any test h ≡ true → 1 ≤ times test h
any_times test [] some = cc
any_times test (e ∷ h) some =
    let P : Bool → Type 0 = λ b. (b || list_any test h) ≡ true → 1 ≤ cond b 1 0 + times test h in
    (elim (test e) as P [ true ↦ λ _. omega arith | false ↦ λ more. omega (arith, any_times test h more) ]) some

land_bits : (w : OpId) (e : Event) → is_land_of w e ≡ true → 1 ≤ bit (lands_from_master w e) + bit (lands_from_lane w e)
land_bits w (Act on Master p Land place) is = let same = (and_parts (same_op p w) true is).0 in rw same (omega arith)
land_bits w (Act on (ByLane lane) p Land place) is = let same = (and_parts (same_op p w) true is).0 in rw same (omega arith)
land_bits w (Act on by p (Part phases) place) is = let none = (and_parts (same_op p w) false is).1 in cc
land_bits w (Act on by p (Read value) place) is = let none = (and_parts (same_op p w) false is).1 in cc
land_bits w (Act on by p Accept place) is = let none = (and_parts (same_op p w) false is).1 in cc
land_bits w (Act on by p Latch place) is = let none = (and_parts (same_op p w) false is).1 in cc
land_bits w (Act on by p (Take outcome) place) is = let none = (and_parts (same_op p w) false is).1 in cc
land_bits w (Act on by p Stall place) is = let none = (and_parts (same_op p w) false is).1 in cc
land_bits w (Act on by p MasterAbort place) is = let none = (and_parts (same_op p w) false is).1 in cc
land_bits w (Act on by p TargetAbort place) is = let none = (and_parts (same_op p w) false is).1 in cc
land_bits w (Arrive lane mark) is = cc

landed_times : (w : OpId) (h : List Event) → has_landed h w ≡ true → 1 ≤ times (lands_from_master w) h + times (lands_from_lane w) h
landed_times w [] is = cc
landed_times w (e ∷ h) is =
    or_either (1 ≤ times (lands_from_master w) (e ∷ h) + times (lands_from_lane w) (e ∷ h)) (is_land_of w e) (has_landed h w)
    (λ here. let now = land_bits w e here in omega (arith, now))
    (λ older. let old = landed_times w h older in omega (arith, old)) is

-- a lane on which it stands counts one
one_lane : (bus : ℕ) (up : Bool) (count : BridgeLane → ℕ) → count (record { bus = bus; up = up }) ≤ count (record { bus = bus; up = false }) + count (record { bus = bus; up = true })
one_lane bus true count = omega arith
one_lane bus false count = omega arith

stands_counted : (board : Board) (h : List Event) (on : ℕ) (k : BridgeLane) (w : OpId) → is_posted_op board w ≡ true → Run board h → wants board h on (ByLane k) w ≡ true → 1 ≤ on_lanes board h w
stands_counted board h on k w posted run wanted =
    let standing : List Carried = (world_of board h k).standing in
    let presented : presents board on w standing ≡ true = (and_parts (end_of board k == on) (presents board on w standing) wanted).1 in
    let first = posts-less_first board on w standing posted (RightKind-run board h k run).1 presented in
    let self = same_op_self w in
    let count : BridgeLane → ℕ = λ lane. on_lane w (world_of board h lane) in
    let F : List OpId → Type 0 = λ ps. 1 ≤ total (one_of w) ps + total (one_of w) (posts (world_of board h k).flight) in
    let G : Bool → Type 0 = λ b. 1 ≤ cond b 1 0 + total (one_of w) (posts (less (is_of w) standing)) + total (one_of w) (posts (world_of board h k).flight) in
    let g : G true = omega arith in
    let at_first : 1 ≤ count k = subst F (sym first) (subst G (sym self) g) in
    let bridge = lane_bridge board h on k w run wanted in
    let test : Bridge → Bool = λ b. b.bus == k.bus in
    let number : bridge.0.bus ≡ k.bus = eqb-true bridge.0.bus k.bus (find_passes test board.bridges bridge.0 bridge.1) in
    let within = Each-find (λ x. (weight : Bridge → ℕ) → weight x ≤ total weight board.bridges) test board.bridges bridge.0 (Each-within board.bridges) bridge.1 (both_lanes count) in
    let here : count k ≤ both_lanes count bridge.0 =
    subst (λ n. count k ≤ count (record { bus = n; up = false }) + count (record { bus = n; up = true })) (sym number) (one_lane k.bus k.up count) in
    omega (arith, at_first, here, within)

by_once : (board : Board) (valid : IsValid board) (h : List Event) (on : ℕ) (by : By) (w : OpId) → is_posted_op board w ≡ true → Run board h → wants board h on by w ≡ true → has_landed h w ≡ true → (X : Type 0) → X
by_once board valid h on Master w posted run wanted lands X =
    let turn = wants-turn board h on w wanted in
    let none = turn_not_ended board h w run turn in
    let some = any_times (ends_at_master w) h (landed_ended board h w posted run lands) in
    absurd (omega (arith, none, some))
by_once board valid h on (ByLane k) w posted run wanted lands X =
    let one = OnePost-run board h w (WellFormed-numbers board valid.well_formed) posted run in
    let stands = stands_counted board h on k w posted run wanted in
    let some = landed_times w h lands in
    let somewhere = one.somewhere in
    let once = one.once in
    absurd (omega (arith, stands, some, somewhere, once))

-- so no event brings more of it
pub posted_once : (board : Board) (valid : IsValid board) (h : List Event) (e : Event) (w : OpId) (word : Dword) → is_posted_op board w ≡ true → Run board (e ∷ h) → has_landed h w ≡ true → list_any (is_landing_of w) (brought board h word e) ≡ true → (X : Type 0) → X
posted_once board valid h (Act on by o step place) w word posted run lands brings_it X =
    let one : o ≡ w = brought_is board h on by o w step place word brings_it in
    let R : OpId → Type 0 = λ q. Run board (Act on by q step place ∷ h) in
    let run_w : R w = subst R one run in
    by_once board valid h on by w posted run_w.1 run_w.0.0 lands X
posted_once board valid h (Arrive lane mark) w word posted run lands brings_it X = cc
