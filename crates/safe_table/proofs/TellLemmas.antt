-- A poll behind which no more is known than before it stays as it is.
use Rattle.std.proofs.Common.{◌≡◌, ℕ, zero, suc, ◌+◌, ◌<◌, ◌≤◌, false, List, [], ◌∷◌, ◌++◌, length, refl, subst, arith}
use Rattle.std.proofs.lemmas.Bool.Decides.{nat_tests}
use Rattle.pci_command.specs.declared.op_id.OpId.{OpId}
use Rattle.board_model.specs.declared.board.Board.{Board}
use Rattle.safe_model.specs.Clocks.{Table, clock_of, greater}
use Rattle.safe_model.specs.largest.Tests.{most_known, told_to, wish_of}
use Rattle.board_writes.specs.Rows.{number, ProgramRows, table_of, rows_of, lesser, KeepsPolls}
use Rattle.board_writes.specs.Falls.{row_in}
use Rattle.board_writes.specs.Looks.{clock_in}
use Rattle.safe_table.specs.Bounds.{LowersPoll}
use Rattle.board_writes.proofs.StartLemmas.{FilledTo, filled_none, filled_next}
use Rattle.board_writes.proofs.KnownLemmas.{clock_looks}

made : (f : ℕ → ℕ) (count : ℕ) → (numbers : List ℕ) × FilledTo (λ i n. n ≡ f i) numbers count
made f zero = ([], filled_none (λ i n. n ≡ f i))
made f (suc count) =
    let so_far = made f count in
    let more : count + 1 ≡ suc count = omega arith in
    (so_far.0 ++ f count ∷ [], subst (FilledTo (λ i n. n ≡ f i) (so_far.0 ++ f count ∷ [])) more (filled_next (λ i n. n ≡ f i) so_far.0 count (f count) so_far.1 refl))

lesser_low : (a b : ℕ) → a ≤ b → a ≡ lesser a b
lesser_low a b low = grind (arith, nat_tests)

greater_first : (a b : ℕ) → a ≤ greater a b
greater_first a b = grind (arith, nat_tests)

pub stays_low : (board : Board) (p : OpId) (programs : List ProgramRows) → KeepsPolls board programs → ((other : ℕ) → table_of programs p.master p.index other ≤ clock_in programs p other) → LowersPoll board p programs programs false
stays_low board p programs keeps low =
    let table : Table = table_of programs in
    let most : ℕ → ℕ = λ other. most_known board table p other in
    let filled = made most (length board.masters) in
    let row : List ℕ = row_in (rows_of programs p.master) p.index in
    let known : (other : ℕ) → number row other ≤ most other = λ other.
    let here = low other in
    let clock : clock_in programs p other ≡ clock_of board table p other = clock_looks board programs p other (clock_in programs p other) keeps refl in
    let more = greater_first (clock_of board table p other) (told_to board table p (wish_of board p) other) in
    omega (arith, here, clock, more) in
    record {
      numbers = filled.0;
      most = record { all = filled.1.are; each = λ other below. filled.1.each other 0 below };
      lowers = record {
        here = record {
          each = λ other below.
              let is : number filled.0 other ≡ most other = filled.1.each other 0 (subst (λ n. other < n) filled.1.are below) in
              let here = known other in
              lesser_low (number row other) (number filled.0 other) (omega (arith, is, here));
          rest = λ other past. refl;
          some = λ never. cc;
          none = λ _. refl;
        };
        elsewhere = λ master index _. refl;
        lasts = λ master index. refl;
        some = λ never. cc;
        none = λ _. refl;
      };
    }
