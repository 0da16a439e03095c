-- What is known behind the last poll before an operation is what its row says.
use Rattle.std.proofs.Common.{◌≡◌, ℕ, zero, suc, ◌+◌, ◌==◌, Bool, true, false, cond, List, refl, sym, ap, ◌∙◌}
use Rattle.pci_command.specs.declared.op_id.OpId.{OpId}
use Rattle.board_model.specs.declared.board.Board.{Board}
use Rattle.board_model.specs.Requests.{op_of}
use Rattle.safe_model.specs.Clocks.{is_poll, at_place, greater, known_by, clock_of, clock_with}
use Rattle.board_writes.specs.Rows.{ProgramRows, rows_of, table_of, known_at, known_in, last_of, raised_at, KeepsPolls}
use Rattle.board_writes.specs.Looks.{clock_in, clock_past}

module _ (board : Board) (programs : List ProgramRows) (master other : ℕ) where
  -- by the last poll that is kept
  pub known_behind : (index : ℕ) → known_by board (table_of programs) master index other ≡ known_at (rows_of programs master) (last_of board master index) other
  known_behind zero = refl
  known_behind (suc index) =
      let P : Bool → Type 0 = λ b. cond b (table_of programs master index) (known_by board (table_of programs) master index) other ≡ known_at (rows_of programs master) (cond b (suc index) (last_of board master index)) other in
      elim (is_poll (op_of board (at_place master index))) as P [ true ↦ refl | false ↦ known_behind index ]

-- so its clock is
pub clock_is : (board : Board) (programs : List ProgramRows) (o : OpId) (other known result : ℕ) → KeepsPolls board programs → known ≡ known_in programs o.master o.index other → result ≡ raised_at known o other
    → result ≡ clock_of board (table_of programs) o other
clock_is board programs o other known result keeps known_is is =
    let same : known ≡ known_by board (table_of programs) o.master o.index other =
    known_is ∙ ap (λ n. known_at (rows_of programs o.master) n other) (keeps.last_is o.master o.index) ∙ sym (known_behind board programs o.master other o.index) in
    is ∙ ap (λ n. raised_at n o other) same

-- as the rows have it
pub clock_looks : (board : Board) (programs : List ProgramRows) (o : OpId) (other result : ℕ) → KeepsPolls board programs → result ≡ clock_in programs o other → result ≡ clock_of board (table_of programs) o other
clock_looks board programs o other result keeps is = clock_is board programs o other (known_in programs o.master o.index other) result keeps refl is

pub past_looks : (board : Board) (programs : List ProgramRows) (o : OpId) (other : ℕ) → KeepsPolls board programs → clock_past programs o other ≡ clock_with board (table_of programs) o other
past_looks board programs o other keeps =
    let same : known_in programs o.master o.index other ≡ known_by board (table_of programs) o.master o.index other =
    ap (λ n. known_at (rows_of programs o.master) n other) (keeps.last_is o.master o.index) ∙ sym (known_behind board programs o.master other o.index) in
    ap (λ n. cond (other == o.master) (greater n (o.index + 1)) n) same
