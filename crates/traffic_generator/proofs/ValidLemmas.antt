-- The board of at most 300 rounds is valid: its tree has no fault, and whatever is drawn, its operations are well formed.
use Rattle.std.proofs.Common.{◌≡◌, ℕ, ◌+◌, ◌*◌, ◌%◌, ◌≤◌, zero, suc, true, false, nat_lt, List, length, codes, refl, ◌∙◌, arith, eq-eqb, le-leb}
use Rattle.std.specs.List.{list_all, list_any}
use Rattle.std.proofs.lemmas.Bool.{and_from, or_from}
use Rattle.std.proofs.lemmas.Bool.Decides.{nat_tests}
use Rattle.list_facts.specs.Lists.{total}
use Rattle.pci_command.specs.declared.command.Command.TheVariants.{MemRead, MemWrite}
use Rattle.pci_command.specs.declared.phases.Phase.{Phase}
use Rattle.board_model.specs.declared.agents.Master.{Master}
use Rattle.board_model.specs.declared.op.Op.TheVariants.{Read, Write}
use Rattle.board_model.specs.declared.board.Board.{Board}
use Rattle.board_model.specs.Requests.{tries_of}
use Rattle.board_model.specs.Ways.{longest_way, cost_of, bound_of}
use Rattle.board_model.specs.WellFormed.{is_well_formed_phase, is_well_formed_op, is_well_formed_master, is_well_formed}
use Rattle.board_model.specs.Valid.{is_header_write, IsValid}
use Rattle.board_model.proofs.Laws.{Master-from, WellFormed-from}
use Rattle.traffic_generator.specs.Draws.{draw, drawn, words}
use Rattle.traffic_generator.specs.Generated.{words_in, written, round_drawn, program, program_drawn, generated_masters, generated}
use Rattle.traffic_generator.proofs.CostLemmas.{words_some, words_few, first_cost, second_cost, third_cost}

-- The operations of a program.

words_formed : (count state : ℕ) → list_all is_well_formed_phase (words count state) ≡ true
words_formed zero state = refl
words_formed (suc count) state = words_formed count (drawn (drawn state))

dword : (base k : ℕ) → base % 64 ≡ 0 → (base + 64 * k) % 4 ≡ 0
dword base k whole = omega (arith, whole)

in_block : (base k n : ℕ) → base % 64 ≡ 0 → n ≤ 8 → (base + 64 * k) % 64 + 4 * n ≤ 64
in_block base k n whole few = omega (arith, whole, few)

read_formed : (base k : ℕ) → base % 64 ≡ 0 → is_well_formed_op (Read MemRead (base + 64 * k)) ≡ true
read_formed base k whole = eq-eqb ((base + 64 * k) % 4) 0 (dword base k whole)

write_formed : (base k : ℕ) (phases : List Phase) → base % 64 ≡ 0 → 1 ≤ length phases → length phases ≤ 8 → list_all is_well_formed_phase phases ≡ true → is_well_formed_op (Write MemWrite (base + 64 * k) phases) ≡ true
write_formed base k phases whole some few enables =
    and_from _ _
    (and_from _ _ (eq-eqb ((base + 64 * k) % 4) 0 (dword base k whole))
    (and_from _ _ (and_from _ _ (le-leb 1 (length phases) some) (le-leb (length phases) 8 few)) (le-leb ((base + 64 * k) % 64 + 4 * length phases) 64 (in_block base k (length phases) whole few))))
    enables

module _ (first second : ℕ) where
  formed : first % 64 ≡ 0 → second % 64 ≡ 0 → (rounds state : ℕ) → list_all is_well_formed_op (program first second rounds state) ≡ true
  formed whole other zero state = refl
  formed whole other (suc rounds) state =
      and_from _ _ (write_formed first (draw state % 64) (words (words_in state) (drawn (drawn state))) whole (words_some state) (words_few state) (words_formed (words_in state) (drawn (drawn state))))
      (and_from _ _ (read_formed first (draw state % 64) whole)
      (and_from _ _ (read_formed second (draw (written state) % 64) other) (formed whole other rounds (round_drawn state))))

  long : (rounds state : ℕ) → length (program first second rounds state) ≡ 3 * rounds
  long zero state = refl
  long (suc rounds) state = omega (arith, long rounds (round_drawn state))

  tries : (rounds state : ℕ) → total tries_of (program first second rounds state) ≡ 3 * rounds
  tries zero state = refl
  tries (suc rounds) state = omega (arith, tries rounds (round_drawn state))

  no_header : (board : Board) (rounds state : ℕ) → list_any (is_header_write board) (program first second rounds state) ≡ false
  no_header board zero state = refl
  no_header board (suc rounds) state = no_header board rounds (round_drawn state)

  master_formed : (name : List ℕ) (bus : ℕ) → first % 64 ≡ 0 → second % 64 ≡ 0 → (rounds state : ℕ) → rounds ≤ 300
      → is_well_formed_master (record { name = name; bus = bus; ops = program first second rounds state }) ≡ true
  master_formed name bus whole other rounds state few =
      let n = long rounds state in
      Master-from (record { name = name; bus = bus; ops = program first second rounds state })
      (record { few = omega (arith, n, few); ops = formed whole other rounds state })

-- The board.

well_formed : (rounds : ℕ) → rounds ≤ 300 → is_well_formed (generated rounds) ≡ true
unfolding generated
well_formed rounds few =
    let second : ℕ = program_drawn rounds rounds in
    let third : ℕ = program_drawn rounds second in
    let one = tries 0x80100000 0x90100000 rounds rounds in
    let two = tries 0x90100000 0x10000000 rounds second in
    let three = tries 0x10000000 0x80100000 rounds third in
    WellFormed-from (generated rounds)
    (record {
      bridges_fit = omega arith;
      bridges = refl;
      numbered_apart = refl;
      targets = refl;
      masters =
          and_from _ _ (master_formed 0x80100000 0x90100000 (codes "m0") 0 refl refl rounds rounds few)
          (and_from _ _ (master_formed 0x90100000 0x10000000 (codes "m2") 2 refl refl rounds second few)
          (and_from _ _ (master_formed 0x10000000 0x80100000 (codes "m4") 4 refl refl rounds third few) refl));
      few = record { bridges = refl; targets = refl; masters = refl };
      targets_named_apart = refl;
      masters_named_apart = refl;
      operations = omega (arith, one, two, three, few);
      discards_fit = omega arith;
      discards = refl;
      drops_fit = omega arith;
      drops = refl;
    })

bound_sum : (a b c longest : ℕ) → a + (b + (c + 0)) + 0 + 4 * longest * 0 + 3 * 0 ≡ a + b + c
bound_sum a b c longest = omega arith

add_up : (rounds a b c : ℕ) → a ≡ 25 * rounds → b ≡ 39 * rounds → c ≡ 33 * rounds → a + b + c ≡ 97 * rounds
add_up rounds a b c first second third = omega (arith, first, second, third)

pub bound_is : (rounds : ℕ) → bound_of (generated rounds) ≡ 97 * rounds
unfolding generated
bound_is rounds =
    let second : ℕ = program_drawn rounds rounds in
    let third : ℕ = program_drawn rounds second in
    let masters : List Master = generated_masters rounds rounds in
    bound_sum (total (cost_of (generated rounds) 0) (program 0x80100000 0x90100000 rounds rounds)) (total (cost_of (generated rounds) 2) (program 0x90100000 0x10000000 rounds second)) (total (cost_of (generated rounds) 4) (program 0x10000000 0x80100000 rounds third)) (longest_way (generated rounds))
    ∙ add_up rounds (total (cost_of (generated rounds) 0) (program 0x80100000 0x90100000 rounds rounds)) (total (cost_of (generated rounds) 2) (program 0x90100000 0x10000000 rounds second)) (total (cost_of (generated rounds) 4) (program 0x10000000 0x80100000 rounds third))
    (first_cost masters rounds rounds) (second_cost masters rounds second) (third_cost masters rounds third)

not_above : (most n : ℕ) → n ≤ most → nat_lt most n ≡ false
not_above most n within = grind (arith, nat_tests)

pub IsValid-generated : (rounds : ℕ) → rounds ≤ 300 → IsValid (generated rounds)
unfolding generated
IsValid-generated rounds few =
    let second : ℕ = program_drawn rounds rounds in
    let third : ℕ = program_drawn rounds second in
    let bound = bound_is rounds in
    record {
      well_formed = well_formed rounds few;
      buses = refl;
      tree = refl;
      windows = refl;
      reach = refl;
      ranges_beside_windows = refl;
      ranges = refl;
      devices = refl;
      headers =
          or_from _ _ (no_header 0x80100000 0x90100000 (generated rounds) rounds rounds)
          (or_from _ _ (no_header 0x90100000 0x10000000 (generated rounds) rounds second)
          (or_from _ _ (no_header 0x10000000 0x80100000 (generated rounds) rounds third) refl));
      bound = not_above 500000 (bound_of (generated rounds)) (omega (arith, bound, few));
    }
