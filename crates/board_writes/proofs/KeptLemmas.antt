-- What is kept of the polls of a board, and the numbers of a poll, one by one.
use Rattle.std.proofs.Common.{◌≡◌, ℕ, suc, ◌+◌, ◌-◌, ◌%◌, ◌^◌, ◌<◌, ◌≤◌, Bool, true, false, nat_lt, cond, List, [], ◌∷◌, ◌++◌, length, get_or, drop, slice_get, bit_and, bit_or, Option, Some, None, refl, sym, ap, subst, ◌∙◌, arith}
use Rattle.std.specs.Option.{option_map_or, option_and_then}
use Rattle.std.proofs.Math.ListN.{get_or-eq_default}
use Rattle.std.proofs.Math.Seq.{drop-cons}
use Rattle.std.proofs.lemmas.Bool.Decides.{nat_tests}
use Rattle.std.proofs.lemmas.Nat.{and_le_r, and_comm, and_mask}
use Rattle.std.specs.Int.Bits.{and_zero_l, or_zero_l}
use Rattle.std.proofs.lemmas.Option.{slice_get_past, slice_get-get_or}
use Rattle.pci_command.specs.declared.phases.Phase.{Phase}
use Rattle.pci_command.specs.declared.op_id.OpId.{OpId}
use Rattle.board_model.specs.declared.op.Op.{Op}
use Rattle.board_model.specs.declared.agents.Master.{Master}
use Rattle.board_model.specs.declared.board.Board.{Board}
use Rattle.board_model.specs.Requests.{op_of, tries_of}
use Rattle.board_model.specs.device.Registers.{enabled_bits, merge_of}
use Rattle.history_model.specs.Knowledge.{words_on}
use Rattle.safe_model.specs.Clocks.{at_place, greater}
use Rattle.safe_model.specs.largest.Tests.{wish_in, wish_of, program_of}
use Rattle.board_writes.specs.declared.writers.write.WordWrite.{WordWrite}
use Rattle.board_writes.specs.Rows.{ProgramRows, ops_at}
use Rattle.board_writes.specs.Looks.{clock_past, known_to, most_in}
use Rattle.board_writes.specs.Polls.{PollFacts, IsPollOrNone, poll_at, KnowsPolls, KnowsProgram, AreMost}
use Rattle.board_writes.proofs.StartLemmas.{FilledTo, filled_none, filled_next}
use Rattle.board_writes.proofs.RaiserLemmas.{known_falls}

-- The bits that a data phase writes.

-- what all ones leave where there were zeros
pub ones_left : (phase ones : Phase) (result : ℕ) → ones.value ≡ 0xffff_ffff → ones.enables ≡ phase.enables → result ≡ merge_of 0 ones 0xffff_ffff → result ≡ bit_and (enabled_bits phase.enables) 0xffff_ffff
ones_left phase ones result value enables is =
    let taken : ℕ = bit_and (enabled_bits phase.enables) 0xffff_ffff in
    let most : taken ≤ 0xffff_ffff = and_le_r (enabled_bits phase.enables) 0xffff_ffff in
    let low : bit_and taken 0xffff_ffff ≡ taken % 2 ^ 32 = and_mask taken 32 in
    let all : bit_and 0xffff_ffff taken ≡ taken = and_comm 0xffff_ffff taken ∙ low ∙ omega (arith, most) in
    is
    ∙ ap (λ e. bit_or (bit_and 0 (0xffff_ffff - bit_and (enabled_bits e) 0xffff_ffff)) (bit_and ones.value (bit_and (enabled_bits e) 0xffff_ffff))) enables
    ∙ ap (λ v. bit_or (bit_and 0 (0xffff_ffff - taken)) (bit_and v taken)) value
    ∙ ap (λ n. bit_or n (bit_and 0xffff_ffff taken)) (and_zero_l (0xffff_ffff - taken))
    ∙ or_zero_l (bit_and 0xffff_ffff taken)
    ∙ all

-- Polls of a program.

abbrev pub poll_kept : Board → ℕ → ℕ → Option PollFacts → Type 0
poll_kept board master index found = IsPollOrNone board (at_place master index) found

pub polls_none : (board : Board) (master : ℕ) → FilledTo (poll_kept board master) [] 0
polls_none board master = filled_none (poll_kept board master)

pub polls_next : (board : Board) (master place : ℕ) (polls : List (Option PollFacts)) (found : Option PollFacts) → FilledTo (poll_kept board master) polls place → IsPollOrNone board (record { master = master; index = place; attempt = 0 }) found
    → FilledTo (poll_kept board master) (polls ++ found ∷ []) (place + 1)
polls_next board master place polls found filled is = filled_next (poll_kept board master) polls place found filled is

pub polls_all : (board : Board) (master place : ℕ) (ops : List Op) (polls : List (Option PollFacts)) → length ops ≤ place → place ≤ length ops → FilledTo (poll_kept board master) polls place → KnowsProgram board master (length ops) polls
polls_all board master place ops polls past within filled =
    let all : place ≡ length ops = omega (arith, past, within) in
    record { are = filled.are ∙ all; each = λ index below. filled.each index None (omega (arith, below, past)) }

pub ruleset polls_filled = (polls_none, polls_next, polls_all)

-- Polls of a board.

-- past the end of a program no poll waits
past_waits : (board : Board) (master index : ℕ) → length (ops_at board master) ≤ index → wish_of board (at_place master index) ≡ None
past_waits board master index past =
    let P : Option Master → Type 0 = λ found. length (option_map_or (λ (agent : Master). agent.ops) found []) ≤ index → option_and_then (λ (agent : Master). slice_get agent.ops index) found ≡ None in
    let missing : option_and_then (λ (agent : Master). slice_get agent.ops index) (slice_get board.masters master) ≡ None =
    (elim (slice_get board.masters master) as P [ None ↦ λ _. refl | Some agent ↦ λ beyond. slice_get_past agent.ops index beyond ]) past in
    let none : op_of board (at_place master index) ≡ None = ap (option_and_then (λ op. cond (nat_lt 0 (tries_of op)) (Some op) None)) missing in
    ap (λ found. wish_in (words_on board found (slice_get board.masters master)) found) none

abbrev pub program_kept : Board → ℕ → List (Option PollFacts) → Type 0
program_kept board master polls = KnowsProgram board master (length (ops_at board master)) polls

pub programs_none : (board : Board) → FilledTo (program_kept board) [] 0
programs_none board = filled_none (program_kept board)

pub programs_next : (board : Board) (programs : List (List (Option PollFacts))) (number : ℕ) (master : Master) (polls : List (Option PollFacts)) → number < length board.masters → master ≡ get_or board.masters number master → FilledTo (program_kept board) programs number → KnowsProgram board number (length master.ops) polls
    → FilledTo (program_kept board) (programs ++ polls ∷ []) (number + 1)
programs_next board programs number master polls within is filled knows =
    let there : slice_get board.masters number ≡ Some master = slice_get-get_or board.masters number master within ∙ ap (λ (m : Master). Some m) (sym is) in
    let ops : ops_at board number ≡ master.ops = ap (λ (found : Option Master). option_map_or (λ (m : Master). m.ops) found []) there in
    filled_next (program_kept board) programs number polls filled (subst (λ (os : List Op). KnowsProgram board number (length os) polls) (sym ops) knows)

pub programs_all : (board : Board) (programs : List (List (Option PollFacts))) (number : ℕ) → length board.masters ≤ number → FilledTo (program_kept board) programs number → KnowsPolls board programs
programs_all board programs number past filled =
    record {
      each = λ master index.
          let Q : Option PollFacts → Type 0 = λ found. IsPollOrNone board (at_place master index) found in
          let P : Bool → Type 0 = λ b. nat_lt master number ≡ b → Q (get_or (get_or programs master []) index None) in
          (elim (nat_lt master number) as P [
            | true ↦ λ lt.
                let knows : program_kept board master (get_or programs master []) = filled.each master [] (grind (arith, nat_tests)) in
                let count : ℕ = length (ops_at board master) in
                let R : Bool → Type 0 = λ b. nat_lt index count ≡ b → Q (get_or (get_or programs master []) index None) in
                (elim (nat_lt index count) as R [
                  | true ↦ λ inside. knows.each index (grind (arith, nat_tests))
                  | false ↦ λ outside.
                      let beyond : count ≤ index = grind (arith, nat_tests) in
                      let are = knows.are in
                      let none : get_or (get_or programs master []) index None ≡ None = get_or-eq_default (get_or programs master []) None (omega (arith, beyond, are)) in
                      subst Q (sym none) (past_waits board master index beyond)
                ]) refl
            | false ↦ λ ge.
                let beyond : number ≤ master = grind (arith, nat_tests) in
                let are = filled.are in
                let none : get_or programs master [] ≡ [] = get_or-eq_default programs [] (omega (arith, beyond, are)) in
                let no_ops : ops_at board master ≡ [] = ap (λ (found : Option Master). option_map_or (λ (m : Master). m.ops) found []) (slice_get_past board.masters master (omega (arith, beyond, past))) in
                let few : length (ops_at board master) ≤ index = subst (λ (os : List Op). length os ≤ index) (sym no_ops) (omega arith) in
                subst (λ polls. Q (get_or polls index None)) (sym none) (past_waits board master index few)
          ]) refl;
    }

pub ruleset programs_filled = (programs_none, programs_next, programs_all)

first_try : (o : OpId) → o.attempt ≡ 0 → at_place o.master o.index ≡ o
first_try o first = ap (λ (n : ℕ). record { master = o.master; index = o.index; attempt = n }) (sym first)

-- what is kept of an operation by its first try
pub found_poll : (board : Board) (programs : List (List (Option PollFacts))) (o : OpId) → o.attempt ≡ 0 → KnowsPolls board programs → IsPollOrNone board o (poll_at programs o)
found_poll board programs o first knows = subst (λ (p : OpId). IsPollOrNone board p (poll_at programs p)) (first_try o first) (knows.each o.master o.index)

-- The numbers of a poll.

module _ (rows : List ProgramRows) where
  pub least_next : (raisers : List WordWrite) (i other least now next : ℕ) (f : WordWrite) → i < length raisers → f ≡ get_or raisers i f → next ≡ cond (nat_lt (clock_past rows f.op other) now) (clock_past rows f.op other) now
      → known_to rows (drop i raisers) now other ≡ least → known_to rows (drop (i + 1) raisers) next other ≡ least
  least_next raisers i other all now next f within is next_is so_far =
      let more : i + 1 ≡ suc i = omega arith in
      let parts : drop i raisers ≡ f ∷ drop (suc i) raisers = drop-cons raisers i f within ∙ ap (λ w. w ∷ drop (suc i) raisers) (sym is) in
      ap (λ n. known_to rows (drop n raisers) next other) more
      ∙ ap (λ n. known_to rows (drop (suc i) raisers) n other) next_is
      ∙ sym (ap (λ ws. known_to rows ws now other) parts)
      ∙ so_far

abbrev pub number_kept : Board → List ProgramRows → OpId → Bool → List WordWrite → ℕ → ℕ → Type 0
number_kept board rows p told raisers other number = number ≡ most_in rows p raisers (cond told (program_of board other) 0) other

pub most_none : (board : Board) (rows : List ProgramRows) (p : OpId) (told : Bool) (raisers : List WordWrite) → FilledTo (number_kept board rows p told raisers) [] 0
most_none board rows p told raisers = filled_none (number_kept board rows p told raisers)

pub most_next : (board : Board) (rows : List ProgramRows) (p : OpId) (told : Bool) (raisers : List WordWrite) (numbers : List ℕ) (other : ℕ) (master : Master) (most number : ℕ) → other < length board.masters → master ≡ get_or board.masters other master → FilledTo (number_kept board rows p told raisers) numbers other
    → most ≡ cond told (length master.ops) 0 → number ≡ most_in rows p raisers most other → FilledTo (number_kept board rows p told raisers) (numbers ++ number ∷ []) (other + 1)
most_next board rows p told raisers numbers other master most number within is filled most_is number_is =
    let there : slice_get board.masters other ≡ Some master = slice_get-get_or board.masters other master within ∙ ap (λ (m : Master). Some m) (sym is) in
    let program : program_of board other ≡ length master.ops = ap (λ (found : Option Master). option_map_or (λ (m : Master). length m.ops) found 0) there in
    filled_next (number_kept board rows p told raisers) numbers other number filled
    (number_is ∙ ap (λ n. most_in rows p raisers n other) (most_is ∙ ap (λ n. cond told n 0) (sym program)))

pub most_all : (board : Board) (rows : List ProgramRows) (p : OpId) (told : Bool) (raisers : List WordWrite) (numbers : List ℕ) (other : ℕ) → length board.masters ≤ other → other ≤ length board.masters → FilledTo (number_kept board rows p told raisers) numbers other → AreMost board rows p told raisers numbers
most_all board rows p told raisers numbers other past within filled =
    let all : other ≡ length board.masters = omega (arith, past, within) in
    record { all = filled.are ∙ all; each = λ author below. filled.each author 0 (omega (arith, below, past)) }

pub ruleset most_filled = (most_none, most_next, most_all)

-- What is known anyway.

greater_known : (known n : ℕ) → n ≤ known → known ≡ greater known n
greater_known known n low = grind (arith, nat_tests)

-- once raisers know no more, the others are passed over
pub known_enough : (rows : List ProgramRows) (raisers : List WordWrite) (known most other : ℕ) → most ≤ known → known ≡ greater known (known_to rows raisers most other)
known_enough rows raisers known most other low =
    let falls = known_falls rows raisers most other in
    greater_known known (known_to rows raisers most other) (omega (arith, low, falls))
