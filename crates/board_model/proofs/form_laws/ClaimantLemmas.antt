-- Of all who would claim a request on a bus of a valid board there is at most one.
use Rattle.std.proofs.Common.{◌≡◌, ℕ, ◌≤◌, Bool, true, false, cond, eqb, leb, not, ◌&&◌, ◌||◌, List, [], ◌∷◌, ◌++◌, length, map, filter, Option, Some, None, option_to_list, refl, subst, ⊎_elim, arith, eqb-true}
use Rattle.std.specs.List.{find, list_any, position_from}
use Rattle.std.proofs.lemmas.Bool.{and_parts, and_from, or_parts, or_cases}
use Rattle.std.proofs.lemmas.Bool.Decides.{nat_tests}
use Rattle.list_facts.proofs.FindLemmas.{find_passes}
use Rattle.list_facts.proofs.EachLemmas.{Each-find}
use Rattle.list_facts.proofs.TestLemmas.{Each-list_all, Each-list_any}
use Rattle.pci_command.specs.declared.command.Space.{Space}
use Rattle.pci_command.specs.declared.command.Space.TheVariants.{Mem, Io, Cfg}
use Rattle.pci_command.specs.declared.request.Request.{Request}
use Rattle.pci_command.specs.Command.{space_of}
use Rattle.board_model.specs.declared.agents.Range.{Range}
use Rattle.board_model.specs.declared.agents.Target.{Target as TargetAgent}
use Rattle.board_model.specs.declared.bridge.Window.{Window}
use Rattle.board_model.specs.declared.bridge.Bridge.{Bridge}
use Rattle.board_model.specs.declared.bridge.Place.{Place}
use Rattle.board_model.specs.declared.bridge.Place.TheVariants.{Target, Header, Lane, Nobody}
use Rattle.board_model.specs.declared.board.Board.{Board}
use Rattle.board_model.specs.Claims.{range_holds, window_holds, bridge_holds, decodes_down, claim_upwards, claim_by_bridge, claim_by_address, claim_by_header, claim_by_device, claim_by_bus, is_type_0, device_in, bus_in, claim_in_configuration, claim_in_space, claim}
use Rattle.board_model.specs.WellFormed.{has_bus, are_numbered_apart}
use Rattle.board_model.specs.Valid.{some_two, are_beside, is_numbered, is_nested, bridges_meet, own_covers, is_reached, window_is_reached, windows_are_reached, last_of, ranges_are_reached, child_meets, targets_meet, ranges_meet, targets_share_a_device, bridges_share_a_device, is_device_of, IsValid}
use Rattle.board_model.specs.form_laws.Claimants.{decodes, decodes_up, is_target_device, is_bridge_device, leads_to, targets_from, lanes_down_that, headers_that, claimants_by_address, claimants_in_configuration, claimants_in, claimants, one_of, OneClaimant}
use Rattle.board_model.proofs.form_laws.StepLemmas.{own_of}
use Rattle.board_model.proofs.form_laws.OneLemmas.{Found, found_any, found_place, filter_none, filter_one, target_list, targets_one}
use Rattle.board_model.proofs.form_laws.SpanLemmas.{Inside, inside_window, Holds, Holds-range, bridge-covers, bridges-meet, targets-meet, child-meets}
use Rattle.board_model.proofs.Laws.{WellFormed-parts}

-- where no element passes one test, none passes a narrower one
none_narrower : {X : Type 0} (wide narrow : X → Bool) → ((x : X) → wide x ≡ false → narrow x ≡ false) → (xs : List X) → list_any wide xs ≡ false → list_any narrow xs ≡ false
none_narrower wide narrow fails [] none = refl
none_narrower wide narrow fails (x ∷ xs) none =
    let parts = or_parts (wide x) (list_any wide xs) none in
    rw (fails x parts.0) (none_narrower wide narrow fails xs parts.1)

not_false : (b : Bool) → not b ≡ false → b ≡ true
not_false true e = refl
not_false false e = cc

not_true : (b : Bool) → not b ≡ true → b ≡ false
not_true true e = cc
not_true false e = refl

-- the claimants as they are found

abbrev down_list : Option Bridge → List Place
down_list None = []
down_list (Some child) = Lane (record { bus = child.bus; up = false }) ∷ []

abbrev header_list : Option Bridge → List Place
header_list None = []
header_list (Some bridge) = Header bridge.bus ∷ []

abbrev up_list : ℕ → Space → ℕ → Option Bridge → List Place
up_list bus space address None = []
up_list bus space address (Some own) = cond (bridge_holds space address own) [] (Lane (record { bus = bus; up = true }) ∷ [])

down_one : (pair : Bridge → Bridge → Bool) (test : Bridge → Bool) → ((x y : Bridge) → test x ≡ true → test y ≡ true → pair x y ≡ true)
    → (board : Board) → some_two pair board.bridges ≡ false → lanes_down_that test board ≡ down_list (find test board.bridges)
down_one pair test meet board apart =
    let P : Option Bridge → Type 0 = λ found. map (λ (bridge : Bridge). Lane (record { bus = bridge.bus; up = false })) (option_to_list found) ≡ down_list found in
    rw (filter_one pair test meet board.bridges apart) (elim (find test board.bridges) as P [ None ↦ refl | Some child ↦ refl ])

header_one : (pair : Bridge → Bridge → Bool) (test : Bridge → Bool) → ((x y : Bridge) → test x ≡ true → test y ≡ true → pair x y ≡ true)
    → (board : Board) → some_two pair board.bridges ≡ false → headers_that test board ≡ header_list (find test board.bridges)
header_one pair test meet board apart =
    let P : Option Bridge → Type 0 = λ found. map (λ (bridge : Bridge). Header bridge.bus) (option_to_list found) ≡ header_list found in
    rw (filter_one pair test meet board.bridges apart) (elim (find test board.bridges) as P [ None ↦ refl | Some bridge ↦ refl ])

-- the bridge above the bus is the one with its number
abbrev lane_up : Bridge → Place
lane_up bridge = Lane (record { bus = bridge.bus; up = true })

up_one : (bus : ℕ) (space : Space) (address : ℕ) (bridges : List Bridge) → are_numbered_apart bridges ≡ true → map lane_up (filter (decodes_up bus space address) bridges) ≡ up_list bus space address (find (has_bus bus) bridges)
up_one bus space address [] apart = refl
up_one bus space address (b ∷ bridges) apart =
    let parts = and_parts (not (list_any (has_bus b.bus) bridges)) (are_numbered_apart bridges) apart in
    let rest : List Bridge = filter (decodes_up bus space address) bridges in
    let P : Bool → Type 0 = λ same. eqb b.bus bus ≡ same → map lane_up (cond (same && not (bridge_holds space address b)) (b ∷ rest) rest) ≡ up_list bus space address (cond same (Some b) (find (has_bus bus) bridges)) in
    (elim (eqb b.bus bus) as P [
      | true ↦ λ same.
          let number : b.bus ≡ bus = eqb-true b.bus bus same in
          let none : list_any (has_bus b.bus) bridges ≡ false = not_true (list_any (has_bus b.bus) bridges) parts.0 in
          let none_here : list_any (has_bus bus) bridges ≡ false = subst (λ n. list_any (has_bus n) bridges ≡ false) number none in
          let empty : rest ≡ [] = filter_none (decodes_up bus space address) bridges
          (none_narrower (has_bus bus) (decodes_up bus space address) (λ x fails. rw fails refl) bridges none_here) in
          let Q : Bool → Type 0 = λ holds. map lane_up (cond (not holds) (b ∷ rest) rest) ≡ cond holds [] (Lane (record { bus = bus; up = true }) ∷ []) in
          elim (bridge_holds space address b) as Q [
            | true ↦ rw empty refl
            | false ↦ rw (empty, number) refl
          ]
      | false ↦ λ other. up_one bus space address bridges parts.1
    ]) refl

-- a bridge above that covers what holds the address does not go up
up_covered : (bus : ℕ) (space : Space) (address base limit : ℕ) (own : Option Bridge) → Inside address base limit → own_covers space base limit own ≡ true → up_list bus space address own ≡ []
up_covered bus space address base limit None inside covers = refl
up_covered bus space address base limit (Some own) inside covers = rw (bridge-covers space address base limit own inside covers) refl

module _ (board : Board) (valid : IsValid board) where
  apart : are_numbered_apart board.bridges ≡ true
  apart = (WellFormed-parts board valid.well_formed).numbered_apart

  -- a range of a target on the bus, and a window of a bridge below it, lie in a window of the bridge above
  target_up : (bus : ℕ) (space : Space) (address : ℕ) → Found (decodes bus space address) board.targets → up_list bus space address (own_of board bus) ≡ []
  target_up bus space address found =
      let target : TargetAgent = found.one in
      let passes : decodes bus space address target ≡ true = find_passes (decodes bus space address) board.targets target found.is in
      let parts = and_parts (eqb target.bus bus) (list_any (range_holds space address) target.ranges) passes in
      let on_bus : target.bus ≡ bus = eqb-true target.bus bus parts.0 in
      let held : Found (range_holds space address) target.ranges = found_any (range_holds space address) target.ranges parts.1 in
      let range : Range = held.one in
      let holds : Holds space address range = Holds-range space address range (find_passes (range_holds space address) target.ranges range held.is) in
      let unreached : TargetAgent → Bool = λ t. not (ranges_are_reached board t) in
      let fault = or_parts (list_any unreached board.targets) (list_any (λ (bridge : Bridge). not (windows_are_reached board bridge)) board.bridges) valid.reach in
      let all : ranges_are_reached board target ≡ true =
      not_false (ranges_are_reached board target) (Each-find (λ t. unreached t ≡ false) (decodes bus space address) board.targets target (Each-list_any unreached board.targets fault.0) found.is) in
      let reached : Range → Bool = λ r. is_reached board target.bus r.space r.base (last_of r) in
      let own_here : reached range ≡ true = Each-find (λ r. reached r ≡ true) (range_holds space address) target.ranges range (Each-list_all reached target.ranges all) held.is in
      let in_space : is_reached board target.bus space range.base (last_of range) ≡ true = subst (λ s. is_reached board target.bus s range.base (last_of range) ≡ true) holds.in_space own_here in
      let covered : is_reached board bus space range.base (last_of range) ≡ true = subst (λ n. is_reached board n space range.base (last_of range) ≡ true) on_bus in_space in
      up_covered bus space address range.base (last_of range) (own_of board bus) holds.inside covered

  window_up : (bus : ℕ) (space : Space) (address : ℕ) (window : Option Window) → window_holds address window ≡ true → window_is_reached board bus space window ≡ true → up_list bus space address (own_of board bus) ≡ []
  window_up bus space address None holds reached = cc
  window_up bus space address (Some window) holds reached = up_covered bus space address window.base window.limit (own_of board bus) (inside_window address window holds) reached

  bridge_up : (bus : ℕ) (space : Space) (address : ℕ) (child : Bridge) → child.parent ≡ bus → bridge_holds space address child ≡ true → windows_are_reached board child ≡ true → up_list bus space address (own_of board bus) ≡ []
  bridge_up bus space address child parent holds reached = by_space space holds
    where
      here : (s : Space) (window : Option Window) → window_is_reached board child.parent s window ≡ true → window_is_reached board bus s window ≡ true
      here s window reached_there = subst (λ n. window_is_reached board n s window ≡ true) parent reached_there

      by_space : (s : Space) → bridge_holds s address child ≡ true → up_list bus s address (own_of board bus) ≡ []
      by_space Mem in_window =
          let mem : Bool = window_is_reached board child.parent Mem child.mem in
          let pref : Bool = window_is_reached board child.parent Mem child.pref in
          let first = and_parts (mem && pref) (window_is_reached board child.parent Io child.io) reached in
          let second = and_parts mem pref first.0 in
          ⊎_elim {C = up_list bus Mem address (own_of board bus) ≡ []}
          (λ in_mem. window_up bus Mem address child.mem in_mem (here Mem child.mem second.0))
          (λ in_pref. window_up bus Mem address child.pref in_pref (here Mem child.pref second.1))
          (or_cases (window_holds address child.mem) (window_holds address child.pref) in_window)
      by_space Io in_window =
          let first = and_parts (window_is_reached board child.parent Mem child.mem && window_is_reached board child.parent Mem child.pref) (window_is_reached board child.parent Io child.io) reached in
          window_up bus Io address child.io in_window (here Io child.io first.1)
      by_space Cfg in_window = cc

  child_up : (bus : ℕ) (space : Space) (address : ℕ) (child : Bridge) → find (decodes_down bus space address) board.bridges ≡ Some child → up_list bus space address (own_of board bus) ≡ []
  child_up bus space address child is =
      let passes : decodes_down bus space address child ≡ true = find_passes (decodes_down bus space address) board.bridges child is in
      let parts = and_parts (eqb child.parent bus) (bridge_holds space address child) passes in
      let unreached : Bridge → Bool = λ b. not (windows_are_reached board b) in
      let fault = or_parts (list_any (λ (target : TargetAgent). not (ranges_are_reached board target)) board.targets) (list_any unreached board.bridges) valid.reach in
      let reached : windows_are_reached board child ≡ true =
      not_false (windows_are_reached board child) (Each-find (λ b. unreached b ≡ false) (decodes_down bus space address) board.bridges child (Each-list_any unreached board.bridges fault.1) is) in
      bridge_up bus space address child (eqb-true child.parent bus parts.0) parts.1 reached

  -- no range of a target on the bus meets a window of a bridge below it
  target_down : (bus : ℕ) (space : Space) (address : ℕ) (child : Bridge) → Found (decodes bus space address) board.targets → find (decodes_down bus space address) board.bridges ≡ Some child → ⊥
  target_down bus space address child found is =
      let target : TargetAgent = found.one in
      let test : TargetAgent → Bool = λ t. list_any (child_meets t) board.bridges in
      let none : list_any (child_meets target) board.bridges ≡ false =
      Each-find (λ t. test t ≡ false) (decodes bus space address) board.targets target (Each-list_any test board.targets valid.ranges_beside_windows) found.is in
      let clear : child_meets target child ≡ false =
      Each-find (λ b. child_meets target b ≡ false) (decodes_down bus space address) board.bridges child (Each-list_any (child_meets target) board.bridges none) is in
      let meets : child_meets target child ≡ true =
      child-meets bus space address target child (find_passes (decodes bus space address) board.targets target found.is) (find_passes (decodes_down bus space address) board.bridges child is) in
      cc

-- one list and one claim
record One (places : List Place) (claimed : Place) : Type 0 where
  at_most_one : length places ≤ 1
  is_claim : claimed ≡ one_of places

none_claims : One [] Nobody
none_claims = record { at_most_one = omega arith; is_claim = refl }

one_claims : (place : Place) → One (place ∷ []) place
one_claims place = record { at_most_one = omega arith; is_claim = refl }

module _ (board : Board) (valid : IsValid board) (bus : ℕ) (space : Space) (address : ℕ) where
  up_only : (own : Option Bridge) → One (up_list bus space address own) (claim_upwards bus space address own)
  up_only None = none_claims
  up_only (Some own) =
      let up : Place = Lane (record { bus = bus; up = true }) in
      let P : Bool → Type 0 = λ holds. One (cond holds [] (up ∷ [])) (cond holds Nobody up) in
      elim (bridge_holds space address own) as P [ true ↦ none_claims | false ↦ one_claims up ]

  by_child : (child : Option Bridge) → find (decodes_down bus space address) board.bridges ≡ child
      → One (down_list child ++ up_list bus space address (own_of board bus)) (claim_by_bridge board bus space address child)
  by_child None is = up_only (own_of board bus)
  by_child (Some child) is = rw (child_up board valid bus space address child is) (one_claims (Lane (record { bus = child.bus; up = false })))

  by_target : (target : Option ℕ) → position_from (decodes bus space address) 0 board.targets ≡ target
      → One (target_list target ++ down_list (find (decodes_down bus space address) board.bridges) ++ up_list bus space address (own_of board bus)) (claim_by_address board bus space address target)
  by_target None is = by_child (find (decodes_down bus space address) board.bridges) refl
  by_target (Some target) is =
      let found : Found (decodes bus space address) board.targets = found_place (decodes bus space address) 0 board.targets target is in
      let P : Option Bridge → Type 0 = λ child. find (decodes_down bus space address) board.bridges ≡ child
      → One (Target target ∷ down_list child ++ up_list bus space address (own_of board bus)) (Target target) in
      (elim (find (decodes_down bus space address) board.bridges) as P [
        | None ↦ λ none. rw (target_up board valid bus space address found) (one_claims (Target target))
        | Some child ↦ λ some. absurd (target_down board valid bus space address child found some)
      ]) refl

  one_by_address : One (claimants_by_address board bus space address) (claim_by_address board bus space address (position_from (decodes bus space address) 0 board.targets))
  one_by_address =
      let ranges = or_parts (some_two targets_meet board.targets) (list_any (λ (target : TargetAgent). some_two ranges_meet target.ranges) board.targets) valid.ranges in
      let targets = targets_one targets_meet (decodes bus space address) (targets-meet bus space address) 0 board.targets ranges.0 in
      let down = down_one bridges_meet (decodes_down bus space address) (bridges-meet bus space address) board valid.windows in
      let up = up_one bus space address board.bridges (apart board valid) in
      rw (targets, down, up) (by_target (position_from (decodes bus space address) 0 board.targets) refl)

-- two bridges behind which one bus lies
lead-beside : (bus named : ℕ) (a b : Bridge) → leads_to bus named a ≡ true → leads_to bus named b ≡ true → are_beside a b ≡ true
lead-beside bus named a b to_a to_b =
    let p = and_parts (eqb a.parent bus && leb a.bus named) (leb named a.last) to_a in
    let q = and_parts (eqb b.parent bus && leb b.bus named) (leb named b.last) to_b in
    let r = and_parts (eqb a.parent bus) (leb a.bus named) p.0 in
    let s = and_parts (eqb b.parent bus) (leb b.bus named) q.0 in
    let parent : eqb a.parent b.parent ≡ true = grind (arith, nat_tests) in
    let first : leb a.bus b.last ≡ true = grind (arith, nat_tests) in
    let second : leb b.bus a.last ≡ true = grind (arith, nat_tests) in
    and_from _ _ (and_from _ _ parent first) second

-- two numbers on one bus
both_equal : (a b c d bus device : ℕ) → (eqb a bus && eqb b device) ≡ true → (eqb c bus && eqb d device) ≡ true → (eqb a c && eqb b d) ≡ true
both_equal a b c d bus device first second =
    let p = and_parts (eqb a bus) (eqb b device) first in
    let q = and_parts (eqb c bus) (eqb d device) second in
    let one : eqb a c ≡ true = grind (arith, nat_tests) in
    let two : eqb b d ≡ true = grind (arith, nat_tests) in
    and_from _ _ one two

module _ (board : Board) (valid : IsValid board) (bus : ℕ) where
  by_header : (found : Option Bridge) → One (header_list found) (claim_by_header found)
  by_header None = none_claims
  by_header (Some bridge) = one_claims (Header bridge.bus)

  by_device : (device : ℕ) (target : Option ℕ) → position_from (is_target_device bus device) 0 board.targets ≡ target
      → list_any (λ (t : TargetAgent). list_any (is_device_of t) board.bridges) board.targets ≡ false
      → One (target_list target ++ header_list (find (is_bridge_device bus device) board.bridges)) (claim_by_device board bus device target)
  by_device device None is clear = by_header (find (is_bridge_device bus device) board.bridges)
  by_device device (Some target) is clear =
      let found : Found (is_target_device bus device) board.targets = found_place (is_target_device bus device) 0 board.targets target is in
      let t : TargetAgent = found.one in
      let test : TargetAgent → Bool = λ x. list_any (is_device_of x) board.bridges in
      let none : list_any (is_device_of t) board.bridges ≡ false =
      Each-find (λ x. test x ≡ false) (is_target_device bus device) board.targets t (Each-list_any test board.targets clear) found.is in
      let P : Option Bridge → Type 0 = λ header. find (is_bridge_device bus device) board.bridges ≡ header → One (Target target ∷ header_list header) (Target target) in
      (elim (find (is_bridge_device bus device) board.bridges) as P [
        | None ↦ λ _. one_claims (Target target)
        | Some bridge ↦ λ some.
            let apart : is_device_of t bridge ≡ false = Each-find (λ b. is_device_of t b ≡ false) (is_bridge_device bus device) board.bridges bridge (Each-list_any (is_device_of t) board.bridges none) some in
            let meets : is_device_of t bridge ≡ true =
            both_equal bridge.parent bridge.device t.bus t.device bus device
            (find_passes (is_bridge_device bus device) board.bridges bridge some) (find_passes (is_target_device bus device) board.targets t found.is) in
            cc
      ]) refl

  by_bus : (found : Option Bridge) → One (down_list found) (claim_by_bus found)
  by_bus None = none_claims
  by_bus (Some bridge) = one_claims (Lane (record { bus = bridge.bus; up = false }))

  type_0 : (device : ℕ) → One (targets_from (is_target_device bus device) 0 board.targets ++ headers_that (is_bridge_device bus device) board)
      (claim_by_device board bus device (position_from (is_target_device bus device) 0 board.targets))
  type_0 device =
      let both : Bool = some_two targets_share_a_device board.targets || some_two bridges_share_a_device board.bridges in
      let beside = list_any (λ (t : TargetAgent). list_any (is_device_of t) board.bridges) board.targets in
      let first = or_parts both beside valid.devices in
      let second = or_parts (some_two targets_share_a_device board.targets) (some_two bridges_share_a_device board.bridges) first.0 in
      let targets = targets_one targets_share_a_device (is_target_device bus device)
      (λ a b of_a of_b. both_equal a.bus a.device b.bus b.device bus device of_a of_b) 0 board.targets second.0 in
      let headers = header_one bridges_share_a_device (is_bridge_device bus device)
      (λ a b of_a of_b. both_equal a.parent a.device b.parent b.device bus device of_a of_b) board second.1 in
      rw (targets, headers) (by_device device (position_from (is_target_device bus device) 0 board.targets) refl first.1)

  type_1 : (named : ℕ) → One (lanes_down_that (leads_to bus named) board) (claim_by_bus (find (leads_to bus named) board.bridges))
  type_1 named =
      let fault = or_parts (list_any (λ (bridge : Bridge). not (is_numbered bridge) || not (is_nested board bridge)) board.bridges) (some_two are_beside board.bridges) valid.tree in
      rw (down_one are_beside (leads_to bus named) (lead-beside bus named) board fault.1) (by_bus (find (leads_to bus named) board.bridges))

  one_in_configuration : (address : ℕ) → One (claimants_in_configuration board bus address) (claim_in_configuration board bus address)
  one_in_configuration address =
      let device : ℕ = device_in address in
      let named : ℕ = bus_in address in
      let P : Bool → Type 0 = λ zero.
      One (cond zero (targets_from (is_target_device bus device) 0 board.targets ++ headers_that (is_bridge_device bus device) board) (lanes_down_that (leads_to bus named) board))
      (cond zero (claim_by_device board bus device (position_from (is_target_device bus device) 0 board.targets)) (claim_by_bus (find (leads_to bus named) board.bridges))) in
      elim (is_type_0 address) as P [ true ↦ type_0 device | false ↦ type_1 named ]

  one_in : (space : Space) (address : ℕ) → One (claimants_in board bus space address) (claim_in_space board bus space address)
  one_in Mem address = one_by_address board valid bus Mem address
  one_in Io address = one_by_address board valid bus Io address
  one_in Cfg address = one_in_configuration address

  pub OneClaimant-valid : (request : Request) → OneClaimant board bus request
  OneClaimant-valid request =
      let one : One (claimants board bus request) (claim board bus request) = one_in (space_of request.command) request.address in
      record { at_most_one = one.at_most_one; is_claim = one.is_claim }
