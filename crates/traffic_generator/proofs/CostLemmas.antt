-- What the operations of a round cost: a write goes over the lanes of its way and lands in one piece, a read goes there
-- and back.
use Rattle.std.proofs.Common.{◌≡◌, ℕ, ◌+◌, ◌*◌, ◌%◌, ◌<◌, ◌≤◌, zero, suc, Bool, true, false, ◌&&◌, ◌==◌, List, [], length, refl, ap, subst, ◌∙◌, arith, nat_lt}
use Rattle.std.proofs.Math.Nat.{mul-suc}
use Rattle.std.proofs.lemmas.Bool.{and_parts, ltb-true, ltb-false, eqb-true}
use Rattle.list_facts.specs.Lists.{total}
use Rattle.list_facts.proofs.TotalLemmas.{total-append}
use Rattle.pci_command.specs.declared.command.Command.TheVariants.{MemRead, MemWrite}
use Rattle.pci_command.specs.declared.phases.Phase.{Phase}
use Rattle.pci_command.specs.declared.request.Request.{Request}
use Rattle.board_model.specs.declared.agents.Master.{Master}
use Rattle.board_model.specs.declared.bridge.Place.{Place}
use Rattle.board_model.specs.declared.bridge.Place.TheVariants.{Target, Header, Lane, Nobody}
use Rattle.board_model.specs.declared.op.Op.TheVariants.{Read, Write}
use Rattle.board_model.specs.declared.board.Board.{Board}
use Rattle.board_model.specs.Requests.{request_on}
use Rattle.board_model.specs.Ways.{Route, route_of, pieces_in, pieces_by, cost_of}
use Rattle.traffic_generator.specs.Draws.{draw, drawn, words}
use Rattle.traffic_generator.specs.Generated.{words_in, written, round, round_drawn, program, generated_bridges, generated_targets}

-- the tree with any masters
abbrev pub tree_with : List Master → Board
tree_with masters = record { bridges = generated_bridges; targets = generated_targets; masters = masters; discards = []; drops = [] }

-- A test of each block of a range.

abbrev all_below : (ℕ → Bool) → ℕ → Bool
all_below test zero = true
all_below test (suc n) = test n && all_below test n

below : (test : ℕ → Bool) (n k : ℕ) → all_below test n ≡ true → k < n → test k ≡ true
below test zero k all less = absurd (omega (arith, less))
below test (suc n) k all less =
    let parts = and_parts (test n) (all_below test n) all in
    let P : Bool → Type 0 = λ b. nat_lt k n ≡ b → test k ≡ true in
    (elim (nat_lt k n) as P [
      | true ↦ λ e. below test n k parts.1 (ltb-true k n e)
      | false ↦ λ e. let same : n ≡ k = omega (arith, less, ltb-false k n e) in subst (λ x. test x ≡ true) same parts.0
    ]) refl

-- One operation.

abbrev is_target : ℕ → Place → Bool
is_target place (Target target) = target == place
is_target place (Header bus) = false
is_target place (Lane lane) = false
is_target place Nobody = false

target_is : (place : ℕ) (owner : Place) → is_target place owner ≡ true → owner ≡ Target place
target_is place (Target target) same = ap Target (eqb-true target place same)
target_is place (Header bus) same = cc
target_is place (Lane lane) same = cc
target_is place Nobody same = cc

-- the way of a write takes so many lanes, and ends at the target
abbrev ends_at : List Master → List Phase → ℕ → ℕ → ℕ → ℕ → Bool
ends_at masters phases on lanes place address =
    let r : Route = route_of (tree_with masters) (Write MemWrite address phases) on in length r.lanes == lanes && is_target place r.owner

abbrev write_cost_by : Board → ℕ → List Phase → Route → ℕ
write_cost_by board address phases r = 1 * (3 * length r.lanes + pieces_by board (request_on (Write MemWrite address phases) r.bus) (length phases) r.owner)

-- a target takes a write in one piece
abbrev TakesAll : List Master → ℕ → Type 0
TakesAll masters place = (request : Request) (n : ℕ) → pieces_by (tree_with masters) request n (Target place) ≡ pieces_in 8 n

one_piece : (n : ℕ) → 1 ≤ n → n ≤ 8 → pieces_in 8 n ≡ 1
one_piece n some few = omega (arith, some, few)

write_by : (masters : List Master) (address lanes place : ℕ) (phases : List Phase) (r : Route) → TakesAll masters place → length r.lanes ≡ lanes → r.owner ≡ Target place → 1 ≤ length phases → length phases ≤ 8
    → write_cost_by (tree_with masters) address phases r ≡ 3 * lanes + 1
write_by masters address lanes place phases r takes long owner some few =
    let q : Request = request_on (Write MemWrite address phases) r.bus in
    let piece : pieces_by (tree_with masters) q (length phases) r.owner ≡ 1 =
    ap (λ p. pieces_by (tree_with masters) q (length phases) p) owner ∙ takes q (length phases) ∙ one_piece (length phases) some few in
    omega (arith, long, piece)

write_cost : (masters : List Master) (phases : List Phase) (on lanes place address : ℕ) → TakesAll masters place → ends_at masters phases on lanes place address ≡ true → 1 ≤ length phases → length phases ≤ 8
    → cost_of (tree_with masters) on (Write MemWrite address phases) ≡ 3 * lanes + 1
write_cost masters phases on lanes place address takes ends some few =
    let r : Route = route_of (tree_with masters) (Write MemWrite address phases) on in
    let parts = and_parts (length r.lanes == lanes) (is_target place r.owner) ends in
    write_by masters address lanes place phases r takes (eqb-true (length r.lanes) lanes parts.0) (target_is place r.owner parts.1) some few

-- A round, and a program.

pub words_long : (count state : ℕ) → length (words count state) ≡ count
words_long zero state = refl
words_long (suc count) state = omega (arith, words_long count (drawn (drawn state)))

pub words_some : (state : ℕ) → 1 ≤ length (words (words_in state) (drawn (drawn state)))
words_some state = omega (arith, words_long (words_in state) (drawn (drawn state)))

pub words_few : (state : ℕ) → length (words (words_in state) (drawn (drawn state))) ≤ 8
words_few state =
    let long : length (words (words_in state) (drawn (drawn state))) ≡ words_in state = words_long (words_in state) (drawn (drawn state)) in
    let few : words_in state ≤ 8 = omega arith in
    omega (arith, long, few)

small : (n : ℕ) → n % 64 < 64
small n = omega arith

sum_of_three : (w r o lanes others : ℕ) → w ≡ 3 * lanes + 1 → r ≡ 4 * lanes + 1 → o ≡ 4 * others + 1 → w + (r + (o + 0)) ≡ 7 * lanes + 4 * others + 3
sum_of_three w r o lanes others first second third = omega (arith, first, second, third)

more : (here later each rounds : ℕ) → here ≡ each → later ≡ each * rounds → here + later ≡ each * suc rounds
more here later each rounds first second = omega (arith, first, second, mul-suc each rounds)

-- a master writes over so many lanes to the one target, and reads over as many to the other
record Costs (masters : List Master) (on first second lanes place others : ℕ) : Type 0 where
  takes : TakesAll masters place
  writes : (phases : List Phase) → all_below (λ k. ends_at masters phases on lanes place (first + 64 * k)) 64 ≡ true
  reads : all_below (λ k. cost_of (tree_with masters) on (Read MemRead (first + 64 * k)) == 4 * lanes + 1) 64 ≡ true
  looks : all_below (λ k. cost_of (tree_with masters) on (Read MemRead (second + 64 * k)) == 4 * others + 1) 64 ≡ true

module _ (masters : List Master) (on first second lanes place others : ℕ) (costs : Costs masters on first second lanes place others) where
  round_cost : (state : ℕ) → total (cost_of (tree_with masters) on) (round first second state) ≡ 7 * lanes + 4 * others + 3
  round_cost state =
      let k : ℕ = draw state % 64 in
      let l : ℕ = draw (written state) % 64 in
      let phases : List Phase = words (words_in state) (drawn (drawn state)) in
      let w : cost_of (tree_with masters) on (Write MemWrite (first + 64 * k) phases) ≡ 3 * lanes + 1 =
      write_cost masters phases on lanes place (first + 64 * k) costs.takes (below (λ n. ends_at masters phases on lanes place (first + 64 * n)) 64 k (costs.writes phases) (small (draw state))) (words_some state) (words_few state) in
      let r : cost_of (tree_with masters) on (Read MemRead (first + 64 * k)) ≡ 4 * lanes + 1 =
      eqb-true (cost_of (tree_with masters) on (Read MemRead (first + 64 * k))) (4 * lanes + 1) (below (λ n. cost_of (tree_with masters) on (Read MemRead (first + 64 * n)) == 4 * lanes + 1) 64 k costs.reads (small (draw state))) in
      let o : cost_of (tree_with masters) on (Read MemRead (second + 64 * l)) ≡ 4 * others + 1 =
      eqb-true (cost_of (tree_with masters) on (Read MemRead (second + 64 * l))) (4 * others + 1) (below (λ n. cost_of (tree_with masters) on (Read MemRead (second + 64 * n)) == 4 * others + 1) 64 l costs.looks (small (draw (written state)))) in
      sum_of_three (cost_of (tree_with masters) on (Write MemWrite (first + 64 * k) phases)) (cost_of (tree_with masters) on (Read MemRead (first + 64 * k))) (cost_of (tree_with masters) on (Read MemRead (second + 64 * l))) lanes others w r o

  program_cost : (each : ℕ) → 7 * lanes + 4 * others + 3 ≡ each → (rounds state : ℕ) → total (cost_of (tree_with masters) on) (program first second rounds state) ≡ each * rounds
  program_cost each is zero state = omega arith
  program_cost each is (suc rounds) state =
      let here = round_cost state in
      let later = program_cost each is rounds (round_drawn state) in
      let both = total-append (cost_of (tree_with masters) on) (round first second state) (program first second rounds (round_drawn state)) in
      both ∙ more (total (cost_of (tree_with masters) on) (round first second state)) (total (cost_of (tree_with masters) on) (program first second rounds (round_drawn state))) each rounds (here ∙ is) later

-- The three masters: on bus 0 to the targets on buses 2 and 4, on bus 2 to those on buses 4 and 0, on bus 4 to those on
-- buses 0 and 2.

module _ (masters : List Master) where
  first_costs : Costs masters 0 0x80100000 0x90100000 2 1 2
  first_costs = record { takes = λ request n. refl; writes = λ phases. refl; reads = refl; looks = refl }

  second_costs : Costs masters 2 0x90100000 0x10000000 4 2 2
  second_costs = record { takes = λ request n. refl; writes = λ phases. refl; reads = refl; looks = refl }

  third_costs : Costs masters 4 0x10000000 0x80100000 2 0 4
  third_costs = record { takes = λ request n. refl; writes = λ phases. refl; reads = refl; looks = refl }

  pub first_cost : (rounds state : ℕ) → total (cost_of (tree_with masters) 0) (program 0x80100000 0x90100000 rounds state) ≡ 25 * rounds
  first_cost rounds state = program_cost masters 0 0x80100000 0x90100000 2 1 2 first_costs 25 (omega arith) rounds state

  pub second_cost : (rounds state : ℕ) → total (cost_of (tree_with masters) 2) (program 0x90100000 0x10000000 rounds state) ≡ 39 * rounds
  second_cost rounds state = program_cost masters 2 0x90100000 0x10000000 4 2 2 second_costs 39 (omega arith) rounds state

  pub third_cost : (rounds state : ℕ) → total (cost_of (tree_with masters) 4) (program 0x10000000 0x80100000 rounds state) ≡ 33 * rounds
  third_cost rounds state = program_cost masters 4 0x10000000 0x80100000 2 0 4 third_costs 33 (omega arith) rounds state
