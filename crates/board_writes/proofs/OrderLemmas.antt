-- By the largest table what is known rises along programs, and who comes after an operation comes after all that it does.
use Rattle.std.proofs.Common.{◌≡◌, ℕ, zero, suc, ◌+◌, ◌-◌, ◌≤◌, Bool, true, false, cond, List, refl, sym, ap, subst, ◌∙◌, arith, ◌<◌}
use Rattle.pci_command.specs.declared.op_id.OpId.{OpId}
use Rattle.board_model.specs.declared.board.Board.{Board}
use Rattle.board_model.specs.Requests.{op_of}
use Rattle.safe_model.specs.Clocks.{Table, is_poll, at_place, known_by, clock_of}
use Rattle.board_writes.specs.Rows.{ProgramRows, rows_of, table_of, known_at, known_in, KeepsPolls, Rises, RisesIn}
use Rattle.safe_model.specs.largest.Largest.{IsLargest}
use Rattle.safe_model.proofs.largest.Laws.{largest_rises, clocks_closed}
use Rattle.board_writes.proofs.KnownLemmas.{known_behind, clock_looks}
use Rattle.std.proofs.lemmas.Bool.{ltb-true}
use Rattle.board_writes.specs.Looks.{clock_in, ClosedIn, IsOrdered}

module _ (board : Board) (table : Table) (master other : ℕ) (rises : (index : ℕ) → is_poll (op_of board (at_place master index)) ≡ true → known_by board table master index other ≤ table master index other) where
  known_once : (index : ℕ) → known_by board table master index other ≤ known_by board table master (suc index) other
  known_once index =
      let P : Bool → Type 0 = λ b. is_poll (op_of board (at_place master index)) ≡ b
      → known_by board table master index other ≤ cond b (table master index) (known_by board table master index) other in
      (elim (is_poll (op_of board (at_place master index))) as P [ true ↦ λ is. rises index is | false ↦ λ _. omega arith ]) refl

  known_more : (early more late : ℕ) → late ≡ early + more → known_by board table master early other ≤ known_by board table master late other
  known_more early zero late is =
      let same : early ≡ late = omega (arith, is) in
      subst (λ n. known_by board table master early other ≤ known_by board table master n other) same (omega arith)
  known_more early (suc more) late is =
      let last : suc (early + more) ≡ late = omega (arith, is) in
      let so_far = known_more early more (early + more) refl in
      let once = known_once (early + more) in
      subst (λ n. known_by board table master early other ≤ known_by board table master n other) last (omega (arith, so_far, once))

  known_later : (early late : ℕ) → early ≤ late → known_by board table master early other ≤ known_by board table master late other
  known_later early late within = known_more early (late - early) late (omega (arith, within))

pub rises_in : (board : Board) (programs : List ProgramRows) → KeepsPolls board programs → Rises board programs → RisesIn programs
rises_in board programs keeps rises master early late other within =
    let same : (index : ℕ) → known_in programs master index other ≡ known_by board (table_of programs) master index other = λ index.
    ap (λ n. known_at (rows_of programs master) n other) (keeps.last_is master index) ∙ sym (known_behind board programs master other index) in
    let one = same early in
    let two = same late in
    let later = known_later board (table_of programs) master other (λ index is. rises.polls master index other is) early late within in
    omega (arith, one, two, later)

-- so it does in the largest table
pub seen_rises : (board : Board) (programs : List ProgramRows) → KeepsPolls board programs → IsLargest board (table_of programs) → RisesIn programs
seen_rises board programs keeps is_largest = rises_in board programs keeps (record { polls = λ master index other is. largest_rises board (table_of programs) is_largest master index is other })

pub rows_closed : (board : Board) (programs : List ProgramRows) → KeepsPolls board programs
    → ((x p : OpId) → x.index < clock_of board (table_of programs) p x.master → (other : ℕ) → clock_of board (table_of programs) x other ≤ clock_of board (table_of programs) p other) → ClosedIn programs
rows_closed board programs keeps counts x p before other =
    let own = clock_looks board programs p x.master (clock_in programs p x.master) keeps refl in
    let one = clock_looks board programs x other (clock_in programs x other) keeps refl in
    let two = clock_looks board programs p other (clock_in programs p other) keeps refl in
    let less = ltb-true x.index (clock_in programs p x.master) before in
    let more = counts x p (omega (arith, own, less)) other in
    omega (arith, one, two, more)

-- so it is in the largest table
seen_closed : (board : Board) (programs : List ProgramRows) → KeepsPolls board programs → IsLargest board (table_of programs) → ClosedIn programs
seen_closed board programs keeps is_largest = rows_closed board programs keeps (λ x p below other. clocks_closed board (table_of programs) is_largest x p below other)

pub seen_ordered : (board : Board) (programs : List ProgramRows) → KeepsPolls board programs → IsLargest board (table_of programs) → IsOrdered programs
seen_ordered board programs keeps is_largest = record { rises = seen_rises board programs keeps is_largest; closed = seen_closed board programs keeps is_largest }
