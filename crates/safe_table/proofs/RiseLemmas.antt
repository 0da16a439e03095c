-- What is known rises along a program.
use Rattle.std.proofs.Common.{◌≡◌, ℕ, zero, suc, ◌-◌, ◌≤◌, Bool, true, false, ◌&&◌, ◌==◌, cond, eqb, eqb-true, List, refl, sym, ap, subst, ◌∙◌, arith}
use Rattle.std.proofs.lemmas.Bool.{and_parts}
use Rattle.std.proofs.lemmas.Bool.Decides.{nat_tests}
use Rattle.pci_command.specs.declared.op_id.OpId.{OpId}
use Rattle.board_model.specs.declared.board.Board.{Board}
use Rattle.board_model.specs.Requests.{op_of}
use Rattle.safe_model.specs.Clocks.{Table, is_poll, at_place, known_by, greater, clock_of}
use Rattle.safe_model.specs.largest.Tests.{wish_of, told_to, most_known}
use Rattle.board_writes.specs.Rows.{number, ProgramRows, table_of, everything, KnowsAll, Rises, RisesIn}
use Rattle.safe_table.specs.Bounds.{BoundsAll}
use Rattle.board_writes.proofs.OrderLemmas.{rises_in}

-- To begin with.

module _ (board : Board) (programs : List ProgramRows) (knows : KnowsAll board programs) (master other : ℕ) where
  -- what is known behind a poll is everything
  poll_knows : (index : ℕ) → is_poll (op_of board (at_place master index)) ≡ true → table_of programs master index other ≡ number (everything board) other
  poll_knows index is = knows.all master index other ∙ ap (λ b. cond b (number (everything board) other) 0) is

  -- and never more
  most_begins : (index : ℕ) → known_by board (table_of programs) master index other ≤ number (everything board) other
  most_begins zero = omega arith
  most_begins (suc index) =
      let P : Bool → Type 0 = λ b. is_poll (op_of board (at_place master index)) ≡ b
      → cond b (table_of programs master index) (known_by board (table_of programs) master index) other ≤ number (everything board) other in
      (elim (is_poll (op_of board (at_place master index))) as P [
        | true ↦ λ is. let all = poll_knows index is in omega (arith, all)
        | false ↦ λ _. most_begins index
      ]) refl

pub starts_rising : (board : Board) (programs : List ProgramRows) → KnowsAll board programs → Rises board programs
starts_rising board programs knows = record {
  polls = λ master index other is.
      let all = poll_knows board programs knows master other index is in
      let most = most_begins board programs knows master other index in
      omega (arith, all, most);
}

-- Numbers that fall.

greater_first : (a b : ℕ) → a ≤ greater a b
greater_first a b = grind (arith, nat_tests)

-- what may be known behind a poll at most is no less than what is known before it
pub known_most : (board : Board) (table : Table) (p : OpId) (other : ℕ) → known_by board table p.master p.index other ≤ most_known board table p other
known_most board table p other =
    let known : ℕ = known_by board table p.master p.index other in
    let P : Bool → Type 0 = λ b. known ≤ cond b (greater known p.index) known in
    let clock : known ≤ clock_of board table p other = elim (other == p.master) as P [ true ↦ greater_first known p.index | false ↦ omega arith ] in
    let most = greater_first (clock_of board table p other) (told_to board table p (wish_of board p) other) in
    omega (arith, clock, most)

-- what is known falls with the numbers
pub known_less : (board : Board) (old new : Table) (master other : ℕ) → ((index : ℕ) → new master index other ≤ old master index other)
    → (index : ℕ) → known_by board new master index other ≤ known_by board old master index other
known_less board old new master other less zero = omega arith
known_less board old new master other less (suc index) =
    let P : Bool → Type 0 = λ b. cond b (new master index) (known_by board new master index) other ≤ cond b (old master index) (known_by board old master index) other in
    elim (is_poll (op_of board (at_place master index))) as P [ true ↦ less index | false ↦ known_less board old new master other less index ]

-- where only the numbers of one poll fell, and not below what is known before it
pub rises_on : (board : Board) (old new : Table) (o : OpId) → ((master index other : ℕ) → new master index other ≤ old master index other)
    → ((master index other : ℕ) → (eqb master o.master && eqb index o.index) ≡ false → new master index other ≡ old master index other)
    → ((other : ℕ) → known_by board old o.master o.index other ≤ new o.master o.index other)
    → ((master index other : ℕ) → is_poll (op_of board (at_place master index)) ≡ true → known_by board old master index other ≤ old master index other)
    → (master index other : ℕ) → is_poll (op_of board (at_place master index)) ≡ true → known_by board new master index other ≤ new master index other
rises_on board old new o less elsewhere here rises master index other is =
    let fell = known_less board old new master other (λ i. less master i other) index in
    let G : ℕ → ℕ → Type 0 = λ m i. known_by board old m i other ≤ new m i other in
    let P : Bool → Type 0 = λ b. (eqb master o.master && eqb index o.index) ≡ b → G master index in
    let kept : G master index = (elim (eqb master o.master && eqb index o.index) as P [
      | true ↦ λ at.
          let two = and_parts (eqb master o.master) (eqb index o.index) at in
          let one : o.master ≡ master = sym (eqb-true master o.master two.0) in
          let place : o.index ≡ index = sym (eqb-true index o.index two.1) in
          subst (λ m. G m index) one (subst (λ i. G o.master i) place (here other))
      | false ↦ λ far.
          let same = elsewhere master index other far in
          let before = rises master index other is in
          omega (arith, same, before)
    ]) refl in
    omega (arith, fell, kept)

pub bounds_rise : (board : Board) (programs : List ProgramRows) → BoundsAll board programs → RisesIn programs
bounds_rise board programs bounds = rises_in board programs bounds.polls bounds.rises
