-- By the largest table what is known rises along a program, and who counts an operation counts all that it comes after.
use Rattle.std.proofs.Common.{◌≡◌, ℕ, zero, suc, ◌+◌, ◌<◌, ◌≤◌, Bool, true, false, eqb, eqb-true, eq-eqb, cond, nat_lt, length, Option, Some, refl, sym, subst, ◌∙◌, arith, ◌⊎◌, inl, inr, ⊎_elim}
use Rattle.std.specs.Option.{option_map_or}
use Rattle.std.proofs.lemmas.Bool.Decides.{nat_tests}
use Rattle.std.proofs.lemmas.Option.{slice_get_within}
use Rattle.pci_command.specs.declared.op_id.OpId.{OpId}
use Rattle.board_model.specs.declared.op.Want.{Want}
use Rattle.board_model.specs.declared.agents.Master.{Master}
use Rattle.board_model.specs.declared.op.Op.{Op}
use Rattle.board_model.specs.declared.board.Board.{Board}
use Rattle.board_model.specs.Requests.{op_of}
use Rattle.board_model.proofs.Laws.{op_there}
use Rattle.safe_model.specs.Clocks.{Clock, Table, is_poll, at_place, known_by, greater, raised, clock_of, clock_with, IsBefore, LandsNoMore, lands_once, stands_before, had_ended, LeftOut, RaiserKnows, RaisersKnow, IsKnown, Awaits, IsConsistent, greater_of}
use Rattle.safe_model.specs.largest.Tests.{program_of, wish_of, told_to, most_known}
use Rattle.safe_model.specs.largest.Largest.{IsWithin, IsLargest}
use Rattle.safe_model.proofs.tables.TableLemmas.{AtMost, greater_first, greater_second, greater_least, known_more, clock_more, left_more, opens_more, is_known_more}
use Rattle.safe_model.proofs.largest.ConsistentLemmas.{first_try}

-- Numbers of a raised clock.

-- what a raised clock says of a master
raised_own : (clock : Clock) (master count : ℕ) → raised clock master count master ≡ greater (clock master) count
raised_own clock master count =
    let P : Bool → Type 0 = λ b. cond b (greater (clock master) count) (clock master) ≡ greater (clock master) count in
    let same : eqb master master ≡ true = eq-eqb master master refl in
    let here : P true = refl in
    subst P (sym same) here

raised_least : (clock : Clock) (master count other : ℕ) → clock other ≤ raised clock master count other
raised_least clock master count other =
    let P : Bool → Type 0 = λ b. clock other ≤ cond b (greater (clock other) count) (clock other) in
    elim (eqb other master) as P [ true ↦ greater_first (clock other) count | false ↦ omega arith ]

-- a place below it is below the clock, or is of the master and below the count
raised_cases : (clock : Clock) (master count other place : ℕ) → place < raised clock master count other → (place < clock other) ⊎ ((other ≡ master) × (place < count))
raised_cases clock master count other place below =
    let Goal : Type 0 = (place < clock other) ⊎ ((other ≡ master) × (place < count)) in
    let P : Bool → Type 0 = λ b. eqb other master ≡ b → place < cond b (greater (clock other) count) (clock other) → Goal in
    (elim (eqb other master) as P [
      | true ↦ λ same less.
          let Q : Bool → Type 0 = λ t. place < cond t count (clock other) → Goal in
          (elim (nat_lt (clock other) count) as Q [ true ↦ λ second. inr (eqb-true other master same, second) | false ↦ λ first. inl first ]) less
      | false ↦ λ _ less. inl less
    ]) refl below

-- raised clocks rise with the clock and the count
raised_rises : (s t : Clock) (master few many other : ℕ) → few ≤ many → s other ≤ t other → raised s master few other ≤ raised t master many other
raised_rises s t master few many other counts clocks =
    let P : Bool → Type 0 = λ b. cond b (greater (s other) few) (s other) ≤ cond b (greater (t other) many) (t other) in
    let first = greater_first (t other) many in
    let second = greater_second (t other) many in
    elim (eqb other master) as P [
      | true ↦ greater_least (s other) few (greater (t other) many) (omega (arith, clocks, first)) (omega (arith, counts, second))
      | false ↦ clocks
    ]

raised_most : (clock : Clock) (master count other most : ℕ) → clock other ≤ most → (other ≡ master → count ≤ most) → raised clock master count other ≤ most
raised_most clock master count other most below counts =
    let P : Bool → Type 0 = λ b. eqb other master ≡ b → cond b (greater (clock other) count) (clock other) ≤ most in
    (elim (eqb other master) as P [
      | true ↦ λ same. greater_least (clock other) count most below (counts (eqb-true other master same))
      | false ↦ λ _. below
    ]) refl

-- Operations that are there.

-- an operation that is there stands in the program of its master
pub op_within : (board : Board) (o : OpId) (op : Op) → op_of board o ≡ Some op → o.index < program_of board o.master
op_within board o op is =
    let there = op_there board o op is in
    let below = slice_get_within there.master.ops o.index op there.is_op in
    subst (λ (found : Option Master). o.index < option_map_or (λ (agent : Master). length agent.ops) found 0) (sym there.is_master) below

-- What is known behind the last poll.

module _ (board : Board) (table : Table) where
  pub known_within : IsWithin board table → (master index other : ℕ) → known_by board table master index other ≤ program_of board other
  known_within within master zero other = omega arith
  known_within within master (suc index) other =
      let P : Bool → Type 0 = λ b. cond b (table master index) (known_by board table master index) other ≤ program_of board other in
      elim (is_poll (op_of board (at_place master index))) as P [ true ↦ within master index other | false ↦ known_within within master index other ]

-- where each row that counts a place of a master has so much by the other table, so has what is known
module _ (board : Board) (s t : Table) (to place : ℕ) (most : Clock) (rows : (master index : ℕ) → is_poll (op_of board (at_place master index)) ≡ true → place < s master index to → (other : ℕ) → most other ≤ t master index other) where
  pub known_spreads : (master index : ℕ) → place < known_by board s master index to → (other : ℕ) → most other ≤ known_by board t master index other
  known_spreads master zero below other = absurd (omega (arith, below))
  known_spreads master (suc index) below other =
      let Q : Bool → Type 0 = λ b. is_poll (op_of board (at_place master index)) ≡ b → place < cond b (s master index) (known_by board s master index) to → most other ≤ cond b (t master index) (known_by board t master index) other in
      (elim (is_poll (op_of board (at_place master index))) as Q [
        | true ↦ λ is less. rows master index is less other
        | false ↦ λ _ less. known_spreads master index less other
      ]) refl below

-- Along a program.

-- each poll has what is known before it
abbrev pub Rises : Board → Table → Type 0
Rises board table = (master index : ℕ) → is_poll (op_of board (at_place master index)) ≡ true → (other : ℕ) → known_by board table master index other ≤ table master index other

module _ (board : Board) (table : Table) (rises : Rises board table) where
  known_step : (master index other : ℕ) → known_by board table master index other ≤ known_by board table master (suc index) other
  known_step master index other =
      let Q : Bool → Type 0 = λ b. is_poll (op_of board (at_place master index)) ≡ b → known_by board table master index other ≤ cond b (table master index) (known_by board table master index) other in
      (elim (is_poll (op_of board (at_place master index))) as Q [ true ↦ λ is. rises master index is other | false ↦ λ _. omega arith ]) refl

  pub known_rises : (master few many other : ℕ) → few ≤ many → known_by board table master few other ≤ known_by board table master many other
  known_rises master few zero other most =
      let none : few ≡ 0 = omega (arith, most) in
      subst (λ n. known_by board table master n other ≤ known_by board table master 0 other) (sym none) (omega arith)
  known_rises master few (suc many) other most =
      let Goal : Type 0 = known_by board table master few other ≤ known_by board table master (suc many) other in
      let P : Bool → Type 0 = λ b. nat_lt many few ≡ b → Goal in
      (elim (nat_lt many few) as P [
        | true ↦ λ above.
            let less : many < few = grind (arith, nat_tests) in
            let same : few ≡ suc many = omega (arith, less, most) in
            subst (λ n. known_by board table master n other ≤ known_by board table master (suc many) other) (sym same) (omega arith)
        | false ↦ λ below.
            let less : few ≤ many = grind (arith, nat_tests) in
            let first = known_rises master few many other less in
            let step = known_step master many other in
            omega (arith, first, step)
      ]) refl

  -- what is known rises along a program
  pub rows_rise : (p q : OpId) → is_poll (op_of board p) ≡ true → is_poll (op_of board q) ≡ true → p.master ≡ q.master → p.index < q.index → (other : ℕ) → table p.master p.index other ≤ table q.master q.index other
  rows_rise p q is_p is_q masters below other =
      let is_first : is_poll (op_of board (at_place p.master p.index)) ≡ true = first_try board p is_p in
      let Q : Bool → Type 0 = λ b. table p.master p.index other ≤ cond b (table p.master p.index) (known_by board table p.master p.index) other in
      let at : Q true = omega arith in
      let behind_it : table p.master p.index other ≤ known_by board table p.master (suc p.index) other = subst Q (sym is_first) at in
      let later = known_rises p.master (suc p.index) q.index other (omega (arith, below)) in
      let all : table p.master p.index other ≤ known_by board table p.master q.index other = omega (arith, behind_it, later) in
      let moved : table p.master p.index other ≤ known_by board table q.master q.index other = subst (λ m. table p.master p.index other ≤ known_by board table m q.index other) masters all in
      let last = rises q.master q.index (first_try board q is_q) other in
      omega (arith, moved, last)

  -- and so do clocks
  pub clock_rises : (p q : OpId) → p.master ≡ q.master → p.index ≤ q.index → (other : ℕ) → clock_of board table p other ≤ clock_of board table q other
  clock_rises p q masters most other =
      let here = raised_rises (known_by board table p.master p.index) (known_by board table p.master q.index) p.master p.index q.index other most (known_rises p.master p.index q.index other most) in
      subst (λ m. clock_of board table p other ≤ raised (known_by board table m q.index) m q.index other) masters here

-- the greatest table rises, and so does one in which a number falls to what may be known at most
pub top_rises : (board : Board) → Rises board (λ master index other. program_of board other)
top_rises board master index is other = known_within board (λ m i o. program_of board o) (λ m i o. omega arith) master index other

pub lowered_rises : (board : Board) (s t : Table) → Rises board s → AtMost board t s
    → ((master index : ℕ) → is_poll (op_of board (at_place master index)) ≡ true → (other : ℕ) → (s master index other ≤ t master index other) ⊎ (most_known board s (at_place master index) other ≤ t master index other)) → Rises board t
lowered_rises board s t rises less lowered master index is other =
    let below = known_more board t s less master index other in
    ⊎_elim {C = known_by board t master index other ≤ t master index other}
    (λ (kept : s master index other ≤ t master index other). let here = rises master index is other in omega (arith, below, kept, here))
    (λ (most : most_known board s (at_place master index) other ≤ t master index other).
    let o : OpId = at_place master index in
    let first : known_by board s master index other ≤ clock_of board s o other = raised_least (known_by board s master index) master index other in
    let second : clock_of board s o other ≤ most_known board s o other = greater_first (clock_of board s o other) (told_to board s o (wish_of board o) other) in
    omega (arith, below, most, first, second))
    (lowered master index is other)

module _ (board : Board) (table : Table) (is_largest : IsLargest board table) where
  abbrev pub Known : Table
  Known = λ master index other. known_by board table master index other

  -- each row, or what is known before it
  abbrev pub Risen : Table
  Risen = greater_of table Known

  risen_more : AtMost board table Risen
  risen_more master index is other = greater_first (table master index other) (Known master index other)

  risen_consistent : IsConsistent board Risen
  risen_consistent p want awaits other =
      let here : ℕ = table p.master p.index other in
      let there : ℕ = Known p.master p.index other in
      let P : Bool → Type 0 = λ t. cond t there here ≡ greater here there → IsKnown board Risen p want other in
      (elim (nat_lt here there) as P [
        | true ↦ λ is.
            let first = raised_least (known_by board table p.master p.index) p.master p.index other in
            let second = clock_more board table Risen risen_more p other in
            inl (omega (arith, is, first, second))
        | false ↦ λ is. is_known_more board table Risen risen_more p want other (omega (arith, is)) (is_largest.consistent p want awaits other)
      ]) refl

  risen_within : IsWithin board Risen
  risen_within master index other = greater_least (table master index other) (Known master index other) (program_of board other) (is_largest.within master index other) (known_within board table is_largest.within master index other)

  -- so the largest table rises
  pub largest_rises : Rises board table
  largest_rises master index is other =
      let most = is_largest.largest Risen risen_consistent risen_within (at_place master index) is other in
      let more = greater_second (table master index other) (Known master index other) in
      omega (arith, most, more)

-- What is counted with an operation.

-- a table in which each row that counts a place of a master has so much besides
module _ (board : Board) (table : Table) (is_largest : IsLargest board table) (to place : ℕ) (most : Clock) where
  abbrev pub Changed : Table
  Changed = λ master index other. cond (nat_lt place (table master index to)) (greater (table master index other) (most other)) (table master index other)

  pub changed_more : AtMost board table Changed
  changed_more master index is other =
      let P : Bool → Type 0 = λ b. table master index other ≤ cond b (greater (table master index other) (most other)) (table master index other) in
      elim (nat_lt place (table master index to)) as P [ true ↦ greater_first (table master index other) (most other) | false ↦ omega arith ]

  pub changed_counts : (master index : ℕ) → is_poll (op_of board (at_place master index)) ≡ true → place < table master index to → (other : ℕ) → most other ≤ Changed master index other
  changed_counts master index is below other =
      let P : Bool → Type 0 = λ b. most other ≤ cond b (greater (table master index other) (most other)) (table master index other) in
      let counts : nat_lt place (table master index to) ≡ true = grind (arith, nat_tests) in
      subst P (sym counts) (greater_second (table master index other) (most other))

  changed_cases : (master index other : ℕ) → (Changed master index other ≤ table master index other) ⊎ ((place < table master index to) × (Changed master index other ≤ most other))
  changed_cases master index other =
      let n : ℕ = table master index other in
      let P : Bool → Type 0 = λ b. nat_lt place (table master index to) ≡ b → (cond b (greater n (most other)) n ≤ n) ⊎ ((place < table master index to) × (cond b (greater n (most other)) n ≤ most other)) in
      (elim (nat_lt place (table master index to)) as P [
        | true ↦ λ counts.
            let below : place < table master index to = grind (arith, nat_tests) in
            let Q : Bool → Type 0 = λ b. (cond b (most other) n ≤ n) ⊎ ((place < table master index to) × (cond b (most other) n ≤ most other)) in
            elim (nat_lt n (most other)) as Q [ true ↦ inr (below, omega arith) | false ↦ inl (omega arith) ]
        | false ↦ λ _. inl (omega arith)
      ]) refl

  -- where the operations behind the place in its own program have so much, and there is so much
  module _ (own_of : (index : ℕ) → place < index → (other : ℕ) → most other ≤ raised (known_by board Changed to index) to index other)
      (own_with : (index : ℕ) → place ≤ index → (other : ℕ) → most other ≤ raised (known_by board Changed to index) to (index + 1) other)
      (limited : place < program_of board to → (other : ℕ) → most other ≤ program_of board other) where
    spread_of : (c : OpId) → place < clock_of board table c to → (other : ℕ) → most other ≤ clock_of board Changed c other
    spread_of c below other =
        ⊎_elim {C = most other ≤ clock_of board Changed c other}
        (λ (known : place < known_by board table c.master c.index to).
        let here = known_spreads board table Changed to place most changed_counts c.master c.index known other in
        let more = raised_least (known_by board Changed c.master c.index) c.master c.index other in
        omega (arith, here, more))
        (λ (own : (to ≡ c.master) × (place < c.index)). subst (λ m. most other ≤ raised (known_by board Changed m c.index) m c.index other) own.0 (own_of c.index own.1 other))
        (raised_cases (known_by board table c.master c.index) c.master c.index to place below)

    spread_with : (c : OpId) → place < clock_with board table c to → (other : ℕ) → most other ≤ clock_with board Changed c other
    spread_with c below other =
        ⊎_elim {C = most other ≤ clock_with board Changed c other}
        (λ (known : place < known_by board table c.master c.index to).
        let here = known_spreads board table Changed to place most changed_counts c.master c.index known other in
        let more = raised_least (known_by board Changed c.master c.index) c.master (c.index + 1) other in
        omega (arith, here, more))
        (λ (own : (to ≡ c.master) × (place < c.index + 1)).
        let up_to : place ≤ c.index = let less = own.1 in omega (arith, less) in
        subst (λ m. most other ≤ raised (known_by board Changed m c.index) m (c.index + 1) other) own.0 (own_with c.index up_to other))
        (raised_cases (known_by board table c.master c.index) c.master (c.index + 1) to place below)

    changed_known : (p : OpId) (want : Want) → Awaits board p want → (other : ℕ) → place < table p.master p.index to → Changed p.master p.index other ≤ most other → IsKnown board Changed p want other
    changed_known p want awaits other counts few =
        ⊎_elim {C = IsKnown board Changed p want other}
        (λ (own : table p.master p.index to ≤ clock_of board table p to).
        let here = spread_of p (omega (arith, own, counts)) other in
        inl (omega (arith, here, few)))
        (λ (firm : RaisersKnow board table p want to).
        inr (
          firm.0,
          firm.1,
          opens_more board table Changed changed_more p want firm.0 firm.2,
          λ f raises.
              ⊎_elim {C = RaiserKnows board Changed p firm.0 other f}
              (λ (left : LeftOut board table p firm.0 f). inl (left_more board table Changed changed_more p firm.0 f left))
              (λ (knows : table p.master p.index to ≤ clock_with board table f to).
              let here = spread_with f (omega (arith, knows, counts)) other in
              inr (omega (arith, here, few)))
              (firm.3 f raises),
        ))
        (is_largest.consistent p want awaits to)

    changed_consistent : IsConsistent board Changed
    changed_consistent p want awaits other =
        ⊎_elim {C = IsKnown board Changed p want other}
        (λ (same : Changed p.master p.index other ≤ table p.master p.index other). is_known_more board table Changed changed_more p want other same (is_largest.consistent p want awaits other))
        (λ (more : (place < table p.master p.index to) × (Changed p.master p.index other ≤ most other)). changed_known p want awaits other more.0 more.1)
        (changed_cases p.master p.index other)

    changed_within : IsWithin board Changed
    changed_within master index other =
        ⊎_elim {C = Changed master index other ≤ program_of board other}
        (λ (same : Changed master index other ≤ table master index other). let most = is_largest.within master index other in omega (arith, same, most))
        (λ (more : (place < table master index to) × (Changed master index other ≤ most other)).
        let counts = more.0 in
        let few = more.1 in
        let top = is_largest.within master index to in
        let limit = limited (omega (arith, counts, top)) other in
        omega (arith, few, limit))
        (changed_cases master index other)

    -- a poll that counts the place has so much
    pub row_has : (p : OpId) → is_poll (op_of board p) ≡ true → place < table p.master p.index to → (other : ℕ) → most other ≤ table p.master p.index other
    row_has p is counts other =
        let top = is_largest.largest Changed changed_consistent changed_within p is other in
        let more = changed_counts p.master p.index (first_try board p is) counts other in
        omega (arith, top, more)

-- Who counts an operation counts what it comes after.

module _ (board : Board) (table : Table) (is_largest : IsLargest board table) (q : OpId) where
  own_clock : (index : ℕ) → q.index ≤ index → (other : ℕ) → clock_of board table q other ≤ raised (known_by board (Changed board table is_largest q.master q.index (clock_of board table q)) q.master index) q.master index other
  own_clock index most other =
      let o : OpId = at_place q.master index in
      let first = clock_rises board table (largest_rises board table is_largest) q o refl most other in
      let second = clock_more board table (Changed board table is_largest q.master q.index (clock_of board table q)) (changed_more board table is_largest q.master q.index (clock_of board table q)) o other in
      omega (arith, first, second)

  own_clock_with : (index : ℕ) → q.index ≤ index → (other : ℕ) → clock_of board table q other ≤ raised (known_by board (Changed board table is_largest q.master q.index (clock_of board table q)) q.master index) q.master (index + 1) other
  own_clock_with index most other =
      let known : Clock = known_by board (Changed board table is_largest q.master q.index (clock_of board table q)) q.master index in
      let first = own_clock index most other in
      let second = raised_rises known known q.master index (index + 1) other (omega arith) (omega arith) in
      omega (arith, first, second)

  clock_limited : q.index < program_of board q.master → (other : ℕ) → clock_of board table q other ≤ program_of board other
  clock_limited below other =
      raised_most (known_by board table q.master q.index) q.master q.index other (program_of board other) (known_within board table is_largest.within q.master q.index other)
      (λ same. subst (λ m. q.index ≤ program_of board m) (sym same) (omega (arith, below)))

  -- a poll that counts an operation knows all that the operation comes after
  pub largest_is_closed : (p : OpId) → is_poll (op_of board p) ≡ true → q.index < table p.master p.index q.master → (other : ℕ) → clock_of board table q other ≤ table p.master p.index other
  largest_is_closed p is counts other =
      row_has board table is_largest q.master q.index (clock_of board table q) (λ index below o. own_clock index (omega (arith, below)) o) own_clock_with clock_limited p is counts other

  -- and so does each operation that it comes before
  pub clocks_closed : (c : OpId) → IsBefore board table q c → (other : ℕ) → clock_of board table q other ≤ clock_of board table c other
  clocks_closed c below other =
      ⊎_elim {C = clock_of board table q other ≤ clock_of board table c other}
      (λ (known : q.index < known_by board table c.master c.index q.master).
      let here = known_spreads board table table q.master q.index (clock_of board table q) (λ master index is counts o. largest_is_closed (at_place master index) is counts o) c.master c.index known other in
      let more = raised_least (known_by board table c.master c.index) c.master c.index other in
      omega (arith, here, more))
      (λ (own : (q.master ≡ c.master) × (q.index < c.index)). let less = own.1 in clock_rises board table (largest_rises board table is_largest) q c own.0 (omega (arith, less)) other)
      (raised_cases (known_by board table c.master c.index) c.master c.index q.master q.index below)

-- An operation that comes before itself.

module _ (board : Board) (table : Table) (is_largest : IsLargest board table) (q : OpId) (unreached : IsBefore board table q q) where
  abbrev pub All : Table
  All = Changed board table is_largest q.master q.index (program_of board)

  -- it is known behind a poll before it
  known_own : q.index < known_by board table q.master q.index q.master
  known_own =
      ⊎_elim {C = q.index < known_by board table q.master q.index q.master}
      (λ (known : q.index < known_by board table q.master q.index q.master). known)
      (λ (own : (q.master ≡ q.master) × (q.index < q.index)). let less = own.1 in omega (arith, less))
      (raised_cases (known_by board table q.master q.index) q.master q.index q.master q.index unreached)

  known_later : (index : ℕ) → q.index ≤ index → q.index < known_by board table q.master index q.master
  known_later index most =
      let first = known_own in
      let more = known_rises board table (largest_rises board table is_largest) q.master q.index index q.master most in
      omega (arith, first, more)

  own_all : (index count : ℕ) → q.index ≤ index → (other : ℕ) → program_of board other ≤ raised (known_by board All q.master index) q.master count other
  own_all index count most other =
      let here = known_spreads board table All q.master q.index (program_of board) (changed_counts board table is_largest q.master q.index (program_of board)) q.master index (known_later index most) other in
      let more = raised_least (known_by board All q.master index) q.master count other in
      omega (arith, here, more)

  all_row : (p : OpId) → is_poll (op_of board p) ≡ true → q.index < table p.master p.index q.master → (other : ℕ) → program_of board other ≤ table p.master p.index other
  all_row p is counts other =
      row_has board table is_largest q.master q.index (program_of board) (λ index below o. own_all index index (omega (arith, below)) o) (λ index most o. own_all index (index + 1) most o) (λ _ o. omega arith) p is counts other

  -- it comes behind everything
  pub knows_all : (other : ℕ) → program_of board other ≤ clock_of board table q other
  knows_all other =
      let here = known_spreads board table table q.master q.index (program_of board) (λ master index is counts o. all_row (at_place master index) is counts o) q.master q.index known_own other in
      let more = raised_least (known_by board table q.master q.index) q.master q.index other in
      omega (arith, here, more)

-- What lands no more.

-- where a lands no more once b does, and b once c does, a lands no more once c does
pub no_more_through : (board : Board) (table : Table) → IsLargest board table → (a b c : OpId) → LandsNoMore board table a b → LandsNoMore board table b c → LandsNoMore board table a c
no_more_through board table is_largest a b c first second = by_first first
  where
    -- what comes after b counts what b counts
    clock_behind : (master : ℕ) → clock_of board table b master ≤ clock_of board table c master
    clock_behind master = by_second second
      where
        by_second : LandsNoMore board table b c → clock_of board table b master ≤ clock_of board table c master
        by_second (lands_once posted is) = clocks_closed board table is_largest b c is master
        by_second (stands_before masters below) = clock_rises board table (largest_rises board table is_largest) b c masters (omega (arith, below)) master
        by_second (had_ended is) = let less : b.index + 1 < clock_of board table c b.master = is in let below : b.index < clock_of board table c b.master = omega (arith, less) in clocks_closed board table is_largest b c below master

    -- a operation that stands before b in its program comes with the one behind it before what comes after b
    by_stand : a.master ≡ b.master → a.index < b.index → LandsNoMore board table b c → LandsNoMore board table a c
    by_stand masters below (lands_once posted is) =
        let less : b.index < clock_of board table c b.master = is in
        let moved : b.index < clock_of board table c a.master = subst (λ m. b.index < clock_of board table c m) (sym masters) less in
        let done : a.index + 1 < clock_of board table c a.master = omega (arith, below, moved) in
        had_ended done
    by_stand masters below (stands_before others more) = stands_before (masters ∙ others) (omega (arith, below, more))
    by_stand masters below (had_ended is) =
        let less : b.index + 1 < clock_of board table c b.master = is in
        let moved : b.index + 1 < clock_of board table c a.master = subst (λ m. b.index + 1 < clock_of board table c m) (sym masters) less in
        let done : a.index + 1 < clock_of board table c a.master = omega (arith, below, moved) in
        had_ended done

    by_first : LandsNoMore board table a b → LandsNoMore board table a c
    by_first (lands_once posted is) =
        let less : a.index < clock_of board table b a.master = is in
        let most = clock_behind a.master in
        let below : a.index < clock_of board table c a.master = omega (arith, less, most) in
        lands_once posted below
    by_first (stands_before masters below) = by_stand masters below second
    by_first (had_ended is) =
        let less : a.index + 1 < clock_of board table b a.master = is in
        let most = clock_behind a.master in
        let below : a.index + 1 < clock_of board table c a.master = omega (arith, less, most) in
        had_ended below
