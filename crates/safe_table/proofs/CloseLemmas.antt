-- Who comes after an operation comes after all that it does: so it is to begin with, and it stays so as numbers fall.
use Rattle.std.proofs.Common.{◌≡◌, ℕ, zero, suc, ◌+◌, ◌<◌, ◌≤◌, Bool, true, false, ◌&&◌, cond, eqb, eqb-true, nat_lt, List, [], ◌∷◌, map, Option, None, Some, refl, sym, subst, arith, ◌⊎◌, inl, inr, ⊎_elim}
use Rattle.std.proofs.lemmas.Bool.{and_parts}
use Rattle.std.proofs.lemmas.Bool.Decides.{nat_tests}
use Rattle.pci_command.specs.declared.op_id.OpId.{OpId}
use Rattle.board_model.specs.declared.board.Board.{Board}
use Rattle.board_model.specs.Requests.{op_of}
use Rattle.safe_model.specs.Clocks.{Clock, Table, is_poll, at_place, known_by, greater, raised, clock_of, clock_with}
use Rattle.safe_model.specs.largest.Tests.{Wish, wish_of, is_told, raisers, least, program_of, known_by_all, told_to, most_known}
use Rattle.safe_model.specs.largest.Largest.{IsWithin}
use Rattle.safe_model.proofs.largest.Laws.{Rises, clock_rises}
use Rattle.board_writes.specs.Rows.{ProgramRows, table_of, KeepsPolls}
use Rattle.board_writes.specs.Looks.{ClosedIn, IsOrdered}
use Rattle.safe_table.specs.Bounds.{BoundsAll}
use Rattle.safe_table.proofs.RiseLemmas.{known_less, bounds_rise}
use Rattle.board_writes.proofs.OrderLemmas.{rows_closed}

-- Numbers.

greater_first : (a b : ℕ) → a ≤ greater a b
greater_first a b = grind (arith, nat_tests)

greater_second : (a b : ℕ) → b ≤ greater a b
greater_second a b = grind (arith, nat_tests)

greater_least : (a b n : ℕ) → a ≤ n → b ≤ n → greater a b ≤ n
greater_least a b n first second =
    let P : Bool → Type 0 = λ t. cond t b a ≤ n in
    elim (nat_lt a b) as P [ true ↦ second | false ↦ first ]

below_greater : (n a b : ℕ) → n < greater a b → (n < a) ⊎ (n < b)
below_greater n a b below =
    let P : Bool → Type 0 = λ t. n < cond t b a → (n < a) ⊎ (n < b) in
    (elim (nat_lt a b) as P [ true ↦ λ less. inr less | false ↦ λ less. inl less ]) below

lesser_first : (a most : ℕ) → cond (nat_lt a most) a most ≤ a
lesser_first a most = grind (arith, nat_tests)

lesser_second : (a most : ℕ) → cond (nat_lt a most) a most ≤ most
lesser_second a most = grind (arith, nat_tests)

below_lesser : (n a most : ℕ) → n ≤ a → n ≤ most → n ≤ cond (nat_lt a most) a most
below_lesser n a most first second =
    let P : Bool → Type 0 = λ t. n ≤ cond t a most in
    elim (nat_lt a most) as P [ true ↦ first | false ↦ second ]

least_falls : (most : ℕ) (numbers : List ℕ) → least most numbers ≤ most
least_falls most [] = omega arith
least_falls most (n ∷ numbers) =
    let here = lesser_second n most in
    let later = least_falls (cond (nat_lt n most) n most) numbers in
    omega (arith, here, later)

-- Raised clocks.

raised_more : (clock : Clock) (master count other : ℕ) → clock other ≤ raised clock master count other
raised_more clock master count other =
    let P : Bool → Type 0 = λ b. clock other ≤ cond b (greater (clock other) count) (clock other) in
    elim (eqb other master) as P [ true ↦ greater_first (clock other) count | false ↦ omega arith ]

-- a place below it is below the clock, or is of the master and below the count
raised_cases : (clock : Clock) (master count other place : ℕ) → place < raised clock master count other → (place < clock other) ⊎ ((other ≡ master) × (place < count))
raised_cases clock master count other place below =
    let Goal : Type 0 = (place < clock other) ⊎ ((other ≡ master) × (place < count)) in
    let P : Bool → Type 0 = λ b. eqb other master ≡ b → place < cond b (greater (clock other) count) (clock other) → Goal in
    (elim (eqb other master) as P [
      | true ↦ λ same less.
          ⊎_elim {C = Goal} (λ (first : place < clock other). inl first) (λ (second : place < count). inr (eqb-true other master same, second)) (below_greater place (clock other) count less)
      | false ↦ λ _ less. inl less
    ]) refl below

-- raised clocks rise with the clock and the count
raised_rises : (s t : Clock) (master few many other : ℕ) → few ≤ many → s other ≤ t other → raised s master few other ≤ raised t master many other
raised_rises s t master few many other counts clocks =
    let P : Bool → Type 0 = λ b. cond b (greater (s other) few) (s other) ≤ cond b (greater (t other) many) (t other) in
    let first = greater_first (t other) many in
    let second = greater_second (t other) many in
    elim (eqb other master) as P [
      | true ↦ greater_least (s other) few (greater (t other) many) (omega (arith, clocks, first)) (omega (arith, counts, second))
      | false ↦ clocks
    ]

raised_most : (clock : Clock) (master count other most : ℕ) → clock other ≤ most → (other ≡ master → count ≤ most) → raised clock master count other ≤ most
raised_most clock master count other most below counts =
    let P : Bool → Type 0 = λ b. eqb other master ≡ b → cond b (greater (clock other) count) (clock other) ≤ most in
    (elim (eqb other master) as P [
      | true ↦ λ same. greater_least (clock other) count most below (counts (eqb-true other master same))
      | false ↦ λ _. below
    ]) refl

-- Operations that are there count no more than there is.

known_within : (board : Board) (table : Table) → IsWithin board table → (master index other : ℕ) → known_by board table master index other ≤ program_of board other
known_within board table within master zero other = omega arith
known_within board table within master (suc index) other =
    let P : Bool → Type 0 = λ b. cond b (table master index) (known_by board table master index) other ≤ program_of board other in
    elim (is_poll (op_of board (at_place master index))) as P [ true ↦ within master index other | false ↦ known_within board table within master index other ]

pub clock_within : (board : Board) (table : Table) → IsWithin board table → (q : OpId) (other : ℕ) → q.index < program_of board q.master → clock_of board table q other ≤ program_of board other
clock_within board table within q other below =
    raised_most (known_by board table q.master q.index) q.master q.index other (program_of board other) (known_within board table within q.master q.index other)
    (λ same. subst (λ m. q.index ≤ program_of board m) (sym same) (omega (arith, below)))

-- By a table.

-- a poll behind which an operation is known knows all that the operation comes after
abbrev pub Closing : Board → Table → Type 0
Closing board table =
    (master index : ℕ) → is_poll (op_of board (at_place master index)) ≡ true → (q : OpId) → q.index < table master index q.master → (other : ℕ) → clock_of board table q other ≤ table master index other

module _ (board : Board) (table : Table) (rises : Rises board table) (closes : Closing board table) (q : OpId) (other : ℕ) where
  -- so does what is known behind the last poll
  known_counts : (master index : ℕ) → q.index < known_by board table master index q.master → clock_of board table q other ≤ known_by board table master index other
  known_counts master zero below = absurd (omega (arith, below))
  known_counts master (suc index) below =
      let P : Bool → Type 0 = λ b. is_poll (op_of board (at_place master index)) ≡ b → q.index < cond b (table master index) (known_by board table master index) q.master → clock_of board table q other ≤ cond b (table master index) (known_by board table master index) other in
      (elim (is_poll (op_of board (at_place master index))) as P [
        | true ↦ λ is less. closes master index is q less other
        | false ↦ λ _ less. known_counts master index less
      ]) refl below

  -- each operation
  pub clock_counts : (c : OpId) → q.index < clock_of board table c q.master → clock_of board table q other ≤ clock_of board table c other
  clock_counts c below =
      ⊎_elim {C = clock_of board table q other ≤ clock_of board table c other}
      (λ (known : q.index < known_by board table c.master c.index q.master).
      let here = known_counts c.master c.index known in
      let more = raised_more (known_by board table c.master c.index) c.master c.index other in
      omega (arith, here, more))
      (λ (own : (q.master ≡ c.master) × (q.index < c.index)). let less = own.1 in clock_rises board table rises q c own.0 (omega (arith, less)) other)
      (raised_cases (known_by board table c.master c.index) c.master c.index q.master q.index below)

  -- and each with itself
  with_counts : (f : OpId) → q.index < clock_with board table f q.master → clock_of board table q other ≤ clock_with board table f other
  with_counts f below =
      let known : Clock = known_by board table f.master f.index in
      ⊎_elim {C = clock_of board table q other ≤ clock_with board table f other}
      (λ (before : q.index < known q.master).
      let here = known_counts f.master f.index before in
      let more = raised_more known f.master (f.index + 1) other in
      omega (arith, here, more))
      (λ (own : (q.master ≡ f.master) × (q.index < f.index + 1)).
      let less = own.1 in
      let first = clock_rises board table rises q f own.0 (omega (arith, less)) other in
      let second = raised_rises known known f.master f.index (f.index + 1) other (omega arith) (omega arith) in
      omega (arith, first, second))
      (raised_cases known f.master (f.index + 1) q.master q.index below)

  -- so what all of some count
  all_count : (fs : List OpId) (most limit : ℕ) → q.index < least most (map (λ f. clock_with board table f q.master) fs) → clock_of board table q other ≤ limit → clock_of board table q other ≤ least limit (map (λ f. clock_with board table f other) fs)
  all_count [] most limit below low = low
  all_count (f ∷ fs) most limit below low =
      let own : ℕ = clock_with board table f q.master in
      let there : ℕ = clock_with board table f other in
      let first = lesser_first own most in
      let later = least_falls (cond (nat_lt own most) own most) (map (λ g. clock_with board table g q.master) fs) in
      let counted = with_counts f (omega (arith, below, first, later)) in
      all_count fs (cond (nat_lt own most) own most) (cond (nat_lt there limit) there limit) below (below_lesser (clock_of board table q other) there limit counted low)

  -- and what may be known behind a poll at most
  told_counts : (p : OpId) (found : Option Wish) → clock_of board table q other ≤ program_of board other → q.index < told_to board table p found q.master → clock_of board table q other ≤ told_to board table p found other
  told_counts p None low below = absurd (omega (arith, below))
  told_counts p (Some wish) low below =
      let fs : List OpId = raisers board table p wish in
      let P : Bool → Type 0 = λ b. q.index < cond b (known_by_all board table fs q.master) 0 → clock_of board table q other ≤ cond b (known_by_all board table fs other) 0 in
      (elim (is_told board table p (Some wish)) as P [
        | true ↦ λ less. all_count fs (program_of board q.master) (program_of board other) less low
        | false ↦ λ less. absurd (omega (arith, less))
      ]) below

  most_counts : (p : OpId) → clock_of board table q other ≤ program_of board other → q.index < most_known board table p q.master → clock_of board table q other ≤ most_known board table p other
  most_counts p low below =
      let clock : ℕ = clock_of board table p other in
      let told : ℕ = told_to board table p (wish_of board p) other in
      ⊎_elim {C = clock_of board table q other ≤ most_known board table p other}
      (λ (before : q.index < clock_of board table p q.master). let here = clock_counts p before in let more = greater_first clock told in omega (arith, here, more))
      (λ (behind : q.index < told_to board table p (wish_of board p) q.master). let here = told_counts p (wish_of board p) low behind in let more = greater_second clock told in omega (arith, here, more))
      (below_greater q.index (clock_of board table p q.master) (told_to board table p (wish_of board p) q.master) below)

-- Where the numbers of one poll fell to what may be known behind it at most.

clock_less : (board : Board) (old new : Table) → ((master index other : ℕ) → new master index other ≤ old master index other) → (q : OpId) (other : ℕ) → clock_of board new q other ≤ clock_of board old q other
clock_less board old new less q other =
    raised_rises (known_by board new q.master q.index) (known_by board old q.master q.index) q.master q.index q.index other (omega arith) (known_less board old new q.master other (λ i. less q.master i other) q.index)

pub closes_on : (board : Board) (old new : Table) (o : OpId) → Rises board old → Closing board old → IsWithin board old → is_poll (op_of board (at_place o.master o.index)) ≡ true
    → ((master index other : ℕ) → new master index other ≤ old master index other)
    → ((master index other : ℕ) → (eqb master o.master && eqb index o.index) ≡ false → new master index other ≡ old master index other)
    → ((place other : ℕ) → place < new o.master o.index other → place < most_known board old o other)
    → ((count other : ℕ) → count ≤ old o.master o.index other → count ≤ most_known board old o other → count ≤ new o.master o.index other)
    → Closing board new
closes_on board old new o rises closes within is_p less elsewhere few many master index is q below other =
    let fell = clock_less board old new less q other in
    let G : ℕ → ℕ → Type 0 = λ m i. q.index < new m i q.master → clock_of board old q other ≤ new m i other in
    let here : G o.master o.index = λ counts.
    let fewer = less o.master o.index q.master in
    let there = within o.master o.index q.master in
    let in_old = closes o.master o.index is_p q (omega (arith, counts, fewer)) other in
    let low = clock_within board old within q other (omega (arith, counts, fewer, there)) in
    many (clock_of board old q other) other in_old (most_counts board old rises closes q other o low (few q.index q.master counts)) in
    let P : Bool → Type 0 = λ b. (eqb master o.master && eqb index o.index) ≡ b → G master index in
    let all : G master index = (elim (eqb master o.master && eqb index o.index) as P [
      | true ↦ λ at.
          let two = and_parts (eqb master o.master) (eqb index o.index) at in
          let one : o.master ≡ master = sym (eqb-true master o.master two.0) in
          let place : o.index ≡ index = sym (eqb-true index o.index two.1) in
          subst (λ m. G m index) one (subst (λ i. G o.master i) place here)
      | false ↦ λ far counts.
          let same = elsewhere master index other far in
          let own = elsewhere master index q.master far in
          let before = closes master index is q (omega (arith, counts, own)) other in
          omega (arith, same, before)
    ]) refl in
    let kept = all below in
    omega (arith, fell, kept)

-- As the rows have it.

closed_in : (board : Board) (programs : List ProgramRows) → KeepsPolls board programs → Rises board (table_of programs) → Closing board (table_of programs) → ClosedIn programs
closed_in board programs keeps rises closes = rows_closed board programs keeps (λ x p below other. clock_counts board (table_of programs) rises closes x other p below)

-- What the looks at a table rest on.

pub bounds_ordered : (board : Board) (programs : List ProgramRows) → BoundsAll board programs → IsOrdered programs
bounds_ordered board programs bounds = record {
  rises = bounds_rise board programs bounds;
  closed = closed_in board programs bounds.polls (λ master index is other. bounds.rises.polls master index other is) bounds.closes.polls;
}
