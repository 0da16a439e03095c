-- Across each bridge the way of a memory request goes, in one direction or in the other.
use Rattle.std.proofs.Common.{◌≡◌, ℕ, suc, ◌+◌, ◌≤◌, Bool, true, false, ◌||◌, ◌==◌, cond, eqb, eqb-true, filter, map, List, [], ◌∷◌, ◌++◌, append_assoc, length, length-append, Some, refl, sym, ap, subst, ◌∙◌, arith, ◌⊎◌, inl, inr, ⊎_elim}
use Rattle.std.specs.List.{find, list_any}
use Rattle.std.proofs.lemmas.Bool.Decides.{nat_tests}
use Rattle.std.proofs.lemmas.Bool.{or_left, or_right}
use Rattle.list_facts.proofs.FindLemmas.{find_passes}
use Rattle.pci_command.specs.declared.command.Command.TheVariants.{MemWrite}
use Rattle.pci_command.specs.declared.command.Space.{Space}
use Rattle.pci_command.specs.declared.command.Space.TheVariants.{Mem}
use Rattle.pci_command.specs.declared.request.Request.{Request}
use Rattle.pci_command.specs.declared.op_id.OpId.{OpId}
use Rattle.pci_command.specs.Command.{space_of}
use Rattle.pci_command.specs.Same.{same_command}
use Rattle.board_model.specs.declared.bridge.Bridge.{Bridge}
use Rattle.board_model.specs.declared.bridge.Lane.{Lane as BridgeLane}
use Rattle.board_model.specs.declared.bridge.Place.{Place}
use Rattle.board_model.specs.declared.bridge.Place.TheVariants.{Lane}
use Rattle.board_model.specs.declared.op.Op.{Op}
use Rattle.board_model.specs.declared.op.Op.TheVariants.{Read as ReadOp, Write, CfgRead, CfgWrite, Poll}
use Rattle.board_model.specs.declared.board.Board.{Board}
use Rattle.board_model.specs.Requests.{command_of, request_on}
use Rattle.board_model.specs.Claims.{bridge_holds, decodes_down, claim}
use Rattle.board_model.specs.Ways.{primary_in, primary_of, way, end_of, start_of}
use Rattle.board_model.specs.Valid.{IsValid}
use Rattle.board_model.specs.form_laws.Claimants.{decodes, decodes_up, targets_that, lanes_down_that, lanes_up_that, claimants_by_address, claimants_in, claimants, one_of}
use Rattle.history_model.specs.declared.event.Event.{Event}
use Rattle.history_model.specs.World.{world_of}
use Rattle.history_model.specs.Answers.{bridge_to}
use Rattle.history_model.specs.Knowledge.{has_landed}
use Rattle.law_fresh.specs.Cover.{is_on_lane, covered}
use Rattle.law_fresh.proofs.ListLemmas.{or_either}
use Rattle.board_model.proofs.form_laws.Laws.{OneClaimant-valid, IsTree-valid}
use Rattle.history_model.proofs.facts.PostedLemmas.{write_not_read}
use Rattle.history_model.proofs.facts.PathLemmas.{way_goes}

-- an element of a list, with what stands before and behind it
record Among {X : Type 0} (x : X) (xs : List X) : Type 0 where
  first : List X
  rest : List X
  is : xs ≡ first ++ x ∷ rest

among_left : {X : Type 0} (x : X) (xs ys : List X) → Among x xs → Among x (xs ++ ys)
among_left x xs ys there = record { first = there.first; rest = there.rest ++ ys; is = ap (λ zs. zs ++ ys) there.is ∙ append_assoc there.first (x ∷ there.rest) ys }

among_right : {X : Type 0} (x : X) (xs ys : List X) → Among x ys → Among x (xs ++ ys)
among_right x xs ys there = record { first = xs ++ there.first; rest = there.rest; is = ap (λ zs. xs ++ zs) there.is ∙ sym (append_assoc xs there.first (x ∷ there.rest)) }

among_behind : {X : Type 0} (x y : X) (xs : List X) → Among x xs → Among x (y ∷ xs)
among_behind x y xs there = record { first = y ∷ there.first; rest = there.rest; is = ap (λ zs. y ∷ zs) there.is }

-- what is found, and passes another test, is among what the other leaves
among_filter : {X : Type 0} {Y : Type 0} (f : X → Y) (found test : X → Bool) (xs : List X) (x : X) → find found xs ≡ Some x → test x ≡ true → Among (f x) (map f (filter test xs))
among_filter f found test [] x some passes = cc
among_filter {X} {Y} f found test (y ∷ xs) x some passes =
    let P : Bool → Type 0 = λ b. cond b (Some y) (find found xs) ≡ Some x → Among (f x) (map f (filter test (y ∷ xs))) in
    let Q : Bool → Type 0 = λ b. Among (f x) (map f (filter test xs)) → Among (f x) (map f (cond b (y ∷ filter test xs) (filter test xs))) in
    (elim (found y) as P [
      | true ↦ λ e.
          let same : y ≡ x = cc in
          let here : test y ≡ true = subst (λ z. test z ≡ true) (sym same) passes in
          rw here (record { first = []; rest = map f (filter test xs); is = ap (λ z. f z ∷ map f (filter test xs)) same })
      | false ↦ λ e. (elim (test y) as Q [ true ↦ λ later. among_behind (f x) (f y) (map f (filter test xs)) later | false ↦ λ later. later ]) (among_filter f found test xs x e passes)
    ]) some

-- where a list has at most one element, one of it is that one
only_one : (place : Place) (places first : List Place) (rest : List Place) → places ≡ first ++ place ∷ rest → length places ≤ 1 → one_of places ≡ place
only_one place places [] rest is few = ap one_of is
only_one place places (other ∷ first) rest is few =
    let long : length places ≡ suc (length (first ++ place ∷ rest)) = ap length is in
    let both : length (first ++ place ∷ rest) ≡ length first + suc (length rest) = length-append first (place ∷ rest) in
    absurd (omega (arith, long, both, few))

-- a memory request has one address on all buses
pub same_on : (op : Op) (on other : ℕ) → same_command (command_of op) MemWrite ≡ true → request_on op on ≡ request_on op other
same_on (ReadOp command address) on other posted = refl
same_on (Write command address phases) on other posted = refl
same_on (CfgRead bus device register) on other posted = cc
same_on (CfgWrite bus device register phase) on other posted = cc
same_on (Poll space address want tries) on other posted = refl

module _ (board : Board) (valid : IsValid board) (op : Op) (posted : same_command (command_of op) MemWrite ≡ true) where
  in_memory : (on : ℕ) → space_of (request_on op on).command ≡ Mem
  in_memory on = (write_not_read (command_of op) posted).1

  -- what is among all claimants claims
  claims_it : (on : ℕ) (place : Place) → Among place (claimants_by_address board on Mem (request_on op on).address) → claim board on (request_on op on) ≡ place
  claims_it on place among =
      let request : Request = request_on op on in
      let one = OneClaimant-valid board valid on request in
      let F : Space → Type 0 = λ space. Among place (claimants_in board on space request.address) in
      let there : Among place (claimants board on request) = subst F (sym (in_memory on)) among in
      one.is_claim ∙ only_one place (claimants board on request) there.first there.rest there.is one.at_most_one

  module _ (bus : ℕ) (bridge : Bridge) (is_bridge : bridge_to board bus ≡ Some bridge) where
    number : bridge.bus ≡ bus
    number = eqb-true bridge.bus bus (find_passes (λ (b : Bridge). b.bus == bus) board.bridges bridge is_bridge)

    pub parent : primary_of board bus ≡ bridge.parent
    parent = ap primary_in is_bridge

    pub goes_down : (address : ℕ) → bridge_holds Mem address bridge ≡ true → address ≡ (request_on op bridge.parent).address → claim board bridge.parent (request_on op bridge.parent) ≡ Lane (record { bus = bus; up = false })
    goes_down address holds same =
        let test : Bridge → Bool = decodes_down bridge.parent Mem address in
        let self : eqb bridge.parent bridge.parent ≡ true = grind (arith, nat_tests) in
        let passes : test bridge ≡ true = rw (self, holds) in
        let lane : Bridge → Place = λ b. Lane (record { bus = b.bus; up = false }) in
        let among : Among (lane bridge) (lanes_down_that test board) = among_filter lane (λ (b : Bridge). b.bus == bus) test board.bridges bridge is_bridge passes in
        let targets = targets_that (decodes bridge.parent Mem address) board in
        let ups = lanes_up_that (decodes_up bridge.parent Mem address) board in
        let all : Among (lane bridge) (claimants_by_address board bridge.parent Mem address) = among_left (lane bridge) (targets ++ lanes_down_that test board) ups (among_right (lane bridge) targets (lanes_down_that test board) among) in
        let F : ℕ → Type 0 = λ a. Among (lane bridge) (claimants_by_address board bridge.parent Mem a) in
        claims_it bridge.parent (lane bridge) (subst F same all) ∙ ap (λ n. Lane (record { bus = n; up = false })) number

    pub goes_up : (address : ℕ) → bridge_holds Mem address bridge ≡ false → address ≡ (request_on op bus).address → claim board bus (request_on op bus) ≡ Lane (record { bus = bus; up = true })
    goes_up address outside same =
        let test : Bridge → Bool = decodes_up bus Mem address in
        let self : eqb bridge.bus bus ≡ true = find_passes (λ (b : Bridge). b.bus == bus) board.bridges bridge is_bridge in
        let passes : test bridge ≡ true = rw (self, outside) in
        let lane : Bridge → Place = λ b. Lane (record { bus = b.bus; up = true }) in
        let among : Among (lane bridge) (lanes_up_that test board) = among_filter lane (λ (b : Bridge). b.bus == bus) test board.bridges bridge is_bridge passes in
        let targets = targets_that (decodes bus Mem address) board in
        let downs = lanes_down_that (decodes_down bus Mem address) board in
        let all : Among (lane bridge) (claimants_by_address board bus Mem address) = among_right (lane bridge) (targets ++ downs) (lanes_up_that test board) among in
        let F : ℕ → Type 0 = λ a. Among (lane bridge) (claimants_by_address board bus Mem a) in
        claims_it bus (lane bridge) (subst F same all) ∙ ap (λ n. Lane (record { bus = n; up = true })) number

    abbrev down : BridgeLane
    down = record { bus = bus; up = false }

    abbrev up : BridgeLane
    up = record { bus = bus; up = true }

    -- the way from the bus above the bridge goes down, or the way from the bus below it goes up
    pub either_way : (way board op (primary_of board bus) ≡ down ∷ way board op bus) ⊎ (way board op bus ≡ up ∷ way board op (primary_of board bus))
    either_way =
        let tree = IsTree-valid board valid in
        let address : ℕ = (request_on op bus).address in
        let there : address ≡ (request_on op bridge.parent).address = ap (λ (r : Request). r.address) (same_on op bus bridge.parent posted) in
        let P : Bool → Type 0 = λ b. bridge_holds Mem address bridge ≡ b → (way board op (primary_of board bus) ≡ down ∷ way board op bus) ⊎ (way board op bus ≡ up ∷ way board op (primary_of board bus)) in
        (elim (bridge_holds Mem address bridge) as P [
          | true ↦ λ holds.
              let claims : claim board (primary_of board bus) (request_on op (primary_of board bus)) ≡ Lane down = subst (λ n. claim board n (request_on op n) ≡ Lane down) (sym parent) (goes_down address holds there) in
              inl (way_goes board op (primary_of board bus) down tree claims)
          | false ↦ λ outside. inr (way_goes board op bus up tree (goes_up address outside refl))
        ]) refl

  -- so a bus that is covered covers the one across a bridge, or the posted write is on the lane
  pub crosses_covered : (w : OpId) (h : List Event) (lane : BridgeLane) (bridge : Bridge) → bridge_to board lane.bus ≡ Some bridge → covered board w op h (start_of board lane) ≡ true
      → (covered board w op h (end_of board lane) || is_on_lane w (world_of board h) lane) ≡ true
  crosses_covered w h lane bridge is_bridge is =
      let bus : ℕ = lane.bus in
      let landed : Bool = has_landed h w in
      let on_lane : BridgeLane → Bool = is_on_lane w (world_of board h) in
      let at : ℕ → Bool = covered board w op h in
      -- the way from one side goes over a lane, and then from the other side
      let over : (here there : ℕ) (over : BridgeLane) → way board op here ≡ over ∷ way board op there → at here ≡ true → (at there || on_lane over) ≡ true =
      λ here there over goes covers.
      let Goal : Type 0 = (at there || on_lane over) ≡ true in
      let parts : (landed || (on_lane over || list_any on_lane (way board op there))) ≡ true = subst (λ ls. (landed || list_any on_lane ls) ≡ true) goes covers in
      or_either Goal landed (on_lane over || list_any on_lane (way board op there))
      (λ f. or_left (at there) (on_lane over) (or_left landed (list_any on_lane (way board op there)) f))
      (λ f. or_either Goal (on_lane over) (list_any on_lane (way board op there)) (λ g. or_right (at there) (on_lane over) g) (λ g. or_left (at there) (on_lane over) (or_right landed (list_any on_lane (way board op there)) g)) f)
      parts in
      let back : (here there : ℕ) (over : BridgeLane) → way board op there ≡ over ∷ way board op here → at here ≡ true → at there ≡ true =
      λ here there over goes covers.
      let more : (landed || (on_lane over || list_any on_lane (way board op here))) ≡ true =
      or_either ((landed || (on_lane over || list_any on_lane (way board op here))) ≡ true) landed (list_any on_lane (way board op here))
      (λ f. or_left landed (on_lane over || list_any on_lane (way board op here)) f)
      (λ f. or_right landed (on_lane over || list_any on_lane (way board op here)) (or_right (on_lane over) (list_any on_lane (way board op here)) f)) covers in
      subst (λ ls. (landed || list_any on_lane ls) ≡ true) (sym goes) more in
      let P : Bool → Type 0 = λ up. at (start_of board (record { bus = bus; up = up })) ≡ true → (at (end_of board (record { bus = bus; up = up })) || on_lane (record { bus = bus; up = up })) ≡ true in
      let one : P lane.up = elim lane.up as P [
        | false ↦ λ covers. ⊎_elim {C = (at bus || on_lane (record { bus = bus; up = false })) ≡ true}
            (λ goes. over (primary_of board bus) bus (record { bus = bus; up = false }) goes covers)
            (λ goes. or_left (at bus) (on_lane (record { bus = bus; up = false })) (back (primary_of board bus) bus (record { bus = bus; up = true }) goes covers))
            (either_way bus bridge is_bridge)
        | true ↦ λ covers. ⊎_elim {C = (at (primary_of board bus) || on_lane (record { bus = bus; up = true })) ≡ true}
            (λ goes. or_left (at (primary_of board bus)) (on_lane (record { bus = bus; up = true })) (back bus (primary_of board bus) (record { bus = bus; up = false }) goes covers))
            (λ goes. over bus (primary_of board bus) (record { bus = bus; up = true }) goes covers)
            (either_way bus bridge is_bridge)
      ] in
      one is
