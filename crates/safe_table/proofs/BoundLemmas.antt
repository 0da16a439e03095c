-- From the top a table falls to the largest consistent one.
use Rattle.std.proofs.Common.{◌≡◌, ℕ, zero, suc, ◌+◌, ◌<◌, ◌≤◌, Bool, true, false, ◌&&◌, ◌||◌, cond, eqb, eqb-true, nat_lt, List, [], ◌∷◌, map, length, slice_get, Contains, Option, Some, None, refl, sym, ap, subst, ◌∙◌, arith}
use Rattle.std.specs.Option.{option_map_or}
use Rattle.std.proofs.lemmas.Bool.{and_parts}
use Rattle.std.proofs.lemmas.Bool.Decides.{nat_tests}
use Rattle.std.proofs.lemmas.Option.{slice_get-get_or, get_or_from_slice_get, slice_get_within, slice_get_past}
use Rattle.pci_command.specs.declared.op_id.OpId.{OpId}
use Rattle.board_model.specs.declared.op.Op.{Op}
use Rattle.board_model.specs.declared.agents.Master.{Master}
use Rattle.board_model.specs.declared.board.Board.{Board}
use Rattle.board_model.specs.Requests.{op_of, tries_of}
use Rattle.board_model.proofs.Laws.{op_there}
use Rattle.history_model.specs.Knowledge.{words_on}
use Rattle.safe_model.specs.Clocks.{Table, is_poll, at_place, greater, known_by, clock_of, IsConsistent}
use Rattle.safe_model.specs.largest.Tests.{program_of, Wish, wish_in, wish_of, told_to, most_known}
use Rattle.safe_model.specs.largest.Largest.{IsWithin}
use Rattle.safe_model.proofs.largest.Laws.{stays_above, passes_largest}
use Rattle.board_writes.specs.Rows.{number, ProgramRows, rows_of, table_of, lesser, everything, KnowsAll, Rises, Closes}
use Rattle.board_writes.specs.Falls.{row_in, sum_all, LowersTo}
use Rattle.board_writes.specs.Most.{IsMost}
use Rattle.board_writes.specs.Listed.{ListsPolls}
use Rattle.safe_table.specs.Bounds.{BoundsAll, Fell, Passes, LowersPoll, LowersPolls, Largest}
use Rattle.board_writes.proofs.FallLemmas.{lesser_most, below_lesser}
use Rattle.safe_table.proofs.RiseLemmas.{starts_rising, known_most, rises_on}
use Rattle.safe_table.proofs.CloseLemmas.{clock_within, closes_on}

-- To begin with.

-- how many operations the program of a master has
program_is : (masters : List Master) (other : ℕ) → number (map (λ (m : Master). length m.ops) masters) other ≡ option_map_or (λ (agent : Master). length agent.ops) (slice_get masters other) 0
program_is [] other = refl
program_is (m ∷ masters) zero = refl
program_is (m ∷ masters) (suc other) = program_is masters other

starts_within : (board : Board) (programs : List ProgramRows) → KnowsAll board programs → IsWithin board (table_of programs)
starts_within board programs knows master index other =
    let P : Bool → Type 0 = λ b. cond b (number (everything board) other) 0 ≤ program_of board other in
    let is = program_is board.masters other in
    let some : number (everything board) other ≤ program_of board other = omega (arith, is) in
    subst (λ n. n ≤ program_of board other) (sym (knows.all master index other))
    (elim (is_poll (op_of board (at_place master index))) as P [ true ↦ some | false ↦ omega arith ])

module _ (board : Board) (programs : List ProgramRows) (knows : KnowsAll board programs) where
  starts_all : (master index other : ℕ) → is_poll (op_of board (at_place master index)) ≡ true → table_of programs master index other ≡ number (everything board) other
  starts_all master index other is = knows.all master index other ∙ ap (λ b. cond b (number (everything board) other) 0) is

  starts_closing : Closes board programs
  starts_closing = record {
    polls = λ master index is q below other.
        let there = starts_within board programs knows master index q.master in
        let all = starts_all master index other is in
        let same = program_is board.masters other in
        let low = clock_within board (table_of programs) (starts_within board programs knows) q other (omega (arith, below, there)) in
        omega (arith, all, same, low);
  }

  pub starts_bound : BoundsAll board programs
  starts_bound = record {
    polls = knows.polls;
    rises = starts_rising board programs knows;
    closes = starts_closing;
    within = starts_within board programs knows;
    above = λ t consistent within master index is other.
        let all = starts_all master index other is in
        let most = within master index other in
        let same = program_is board.masters other in
        omega (arith, all, most, same);
  }

-- One poll.

lesser_second : (a b : ℕ) → lesser a b ≤ b
lesser_second a b =
    let P : Bool → Type 0 = λ t. nat_lt b a ≡ t → cond t b a ≤ b in
    (elim (nat_lt b a) as P [
      | true ↦ λ _. omega arith
      | false ↦ λ is. let more : a ≤ b = grind (arith, nat_tests) in omega (arith, more)
    ]) refl

-- no number rises
module _ (o : OpId) (most : List ℕ) (old new : List ProgramRows) (fell : Bool) (lowers : LowersTo o most old new fell) where
  row_less : (other : ℕ) → table_of new o.master o.index other ≤ table_of old o.master o.index other
  row_less other =
      let P : Bool → Type 0 = λ b. nat_lt other (length most) ≡ b → table_of new o.master o.index other ≤ table_of old o.master o.index other in
      (elim (nat_lt other (length most)) as P [
        | true ↦ λ lt.
            let is = lowers.here.each other (grind (arith, nat_tests)) in
            let less = lesser_most (table_of old o.master o.index other) (number most other) in
            omega (arith, is, less)
        | false ↦ λ ge.
            let same = lowers.here.rest other (grind (arith, nat_tests)) in
            omega (arith, same)
      ]) refl

  pub lowers_less : (master index other : ℕ) → table_of new master index other ≤ table_of old master index other
  lowers_less master index other =
      let G : ℕ → ℕ → Type 0 = λ m i. table_of new m i other ≤ table_of old m i other in
      let P : Bool → Type 0 = λ b. (eqb master o.master && eqb index o.index) ≡ b → G master index in
      (elim (eqb master o.master && eqb index o.index) as P [
        | true ↦ λ at.
            let two = and_parts (eqb master o.master) (eqb index o.index) at in
            let one : o.master ≡ master = sym (eqb-true master o.master two.0) in
            let place : o.index ≡ index = sym (eqb-true index o.index two.1) in
            subst (λ m. G m index) one (subst (λ i. G o.master i) place (row_less other))
        | false ↦ λ far. let same = ap (λ row. number row other) (lowers.elsewhere master index far) in omega (arith, same)
      ]) refl

  pub lowers_fell : Fell old new fell
  lowers_fell = record { some = lowers.some; none = lowers.none }

  module _ (board : Board) (bounds : BoundsAll board old) (is_p : is_poll (op_of board (at_place o.master o.index)) ≡ true) (is_o : is_poll (op_of board o) ≡ true) (is_most : IsMost board (table_of old) o most) where
    program_none : (other : ℕ) → length board.masters ≤ other → program_of board other ≡ 0
    program_none other beyond = ap (λ (found : Option Master). option_map_or (λ (agent : Master). length agent.ops) found 0) (slice_get_past board.masters other beyond)

    -- what was known before it is known behind it
    row_kept : (other : ℕ) → known_by board (table_of old) o.master o.index other ≤ table_of new o.master o.index other
    row_kept other =
        let before = bounds.rises.polls o.master o.index other is_p in
        let P : Bool → Type 0 = λ b. nat_lt other (length most) ≡ b → known_by board (table_of old) o.master o.index other ≤ table_of new o.master o.index other in
        (elim (nat_lt other (length most)) as P [
          | true ↦ λ lt.
              let inside : other < length most = grind (arith, nat_tests) in
              let many = is_most.all in
              let is = lowers.here.each other inside in
              let number_is = is_most.each other (omega (arith, inside, many)) in
              let most_of = known_most board (table_of old) o other in
              let low = below_lesser (known_by board (table_of old) o.master o.index other) (table_of old o.master o.index other) (number most other) before (omega (arith, number_is, most_of)) in
              omega (arith, is, low)
          | false ↦ λ ge.
              let same = lowers.here.rest other (grind (arith, nat_tests)) in
              omega (arith, same, before)
        ]) refl

    row_above : (t : Table) → IsConsistent board t → IsWithin board t → (other : ℕ) → t o.master o.index other ≤ table_of new o.master o.index other
    row_above t consistent within other =
        let before = bounds.above t consistent within o.master o.index is_p other in
        let P : Bool → Type 0 = λ b. nat_lt other (length most) ≡ b → t o.master o.index other ≤ table_of new o.master o.index other in
        (elim (nat_lt other (length most)) as P [
          | true ↦ λ lt.
              let inside : other < length most = grind (arith, nat_tests) in
              let many = is_most.all in
              let is = lowers.here.each other inside in
              let number_is = is_most.each other (omega (arith, inside, many)) in
              let stays = stays_above board t (table_of old) consistent within (λ m i poll author. bounds.above t consistent within m i poll author) o is_o other in
              let low = below_lesser (t o.master o.index other) (table_of old o.master o.index other) (number most other) before (omega (arith, number_is, stays)) in
              omega (arith, is, low)
          | false ↦ λ ge.
              let same = lowers.here.rest other (grind (arith, nat_tests)) in
              omega (arith, same, before)
        ]) refl

    -- before a poll no number rose, and behind it none fell below what is known before it
    lowers_rising : Rises board new
    lowers_rising =
        record {
          polls = rises_on board (table_of old) (table_of new) o lowers_less (λ master index other far. ap (λ row. number row other) (lowers.elsewhere master index far)) row_kept bounds.rises.polls;
        }

    -- and who counted an operation with all that it comes after still does
    row_few : (place other : ℕ) → place < table_of new o.master o.index other → place < most_known board (table_of old) o other
    row_few place other counts =
        let P : Bool → Type 0 = λ b. nat_lt other (length most) ≡ b → place < most_known board (table_of old) o other in
        (elim (nat_lt other (length most)) as P [
          | true ↦ λ lt.
              let inside : other < length most = grind (arith, nat_tests) in
              let many = is_most.all in
              let is = lowers.here.each other inside in
              let number_is = is_most.each other (omega (arith, inside, many)) in
              let low = lesser_second (table_of old o.master o.index other) (number most other) in
              omega (arith, counts, is, number_is, low)
          | false ↦ λ ge.
              let beyond : length most ≤ other = grind (arith, nat_tests) in
              let many = is_most.all in
              let same = lowers.here.rest other beyond in
              let within = bounds.within o.master o.index other in
              let nothing = program_none other (omega (arith, beyond, many)) in
              absurd (omega (arith, counts, same, within, nothing))
        ]) refl

    row_many : (count other : ℕ) → count ≤ table_of old o.master o.index other → count ≤ most_known board (table_of old) o other → count ≤ table_of new o.master o.index other
    row_many count other before known =
        let P : Bool → Type 0 = λ b. nat_lt other (length most) ≡ b → count ≤ table_of new o.master o.index other in
        (elim (nat_lt other (length most)) as P [
          | true ↦ λ lt.
              let inside : other < length most = grind (arith, nat_tests) in
              let many = is_most.all in
              let is = lowers.here.each other inside in
              let number_is = is_most.each other (omega (arith, inside, many)) in
              let low = below_lesser count (table_of old o.master o.index other) (number most other) before (omega (arith, number_is, known)) in
              omega (arith, is, low)
          | false ↦ λ ge.
              let same = lowers.here.rest other (grind (arith, nat_tests)) in
              omega (arith, same, before)
        ]) refl

    lowers_closing : Closes board new
    lowers_closing = record {
      polls =
          closes_on board (table_of old) (table_of new) o (λ master index is other. bounds.rises.polls master index other is) bounds.closes.polls bounds.within is_p lowers_less
          (λ master index other far. ap (λ row. number row other) (lowers.elsewhere master index far)) row_few row_many;
    }

    pub lowers_bound : BoundsAll board new
    lowers_bound =
        record {
          polls = record { last_is = λ master index. lowers.lasts master index ∙ bounds.polls.last_is master index };
          rises = lowers_rising;
          closes = lowers_closing;
          within = λ master index other. let less = lowers_less master index other in let most_of = bounds.within master index other in omega (arith, less, most_of);
          above = λ t consistent within master index is other.
              let G : ℕ → ℕ → Type 0 = λ m i. t m i other ≤ table_of new m i other in
              let P : Bool → Type 0 = λ b. (eqb master o.master && eqb index o.index) ≡ b → G master index in
              (elim (eqb master o.master && eqb index o.index) as P [
                | true ↦ λ at.
                    let two = and_parts (eqb master o.master) (eqb index o.index) at in
                    let one : o.master ≡ master = sym (eqb-true master o.master two.0) in
                    let place : o.index ≡ index = sym (eqb-true index o.index two.1) in
                    subst (λ m. G m index) one (subst (λ i. G o.master i) place (row_above t consistent within other))
                | false ↦ λ far.
                    let same = ap (λ row. number row other) (lowers.elsewhere master index far) in
                    let before = bounds.above t consistent within master index is other in
                    omega (arith, same, before)
              ]) refl;
        }

    -- where none fell, it has at most what may be known
    pub lowers_passes : fell ≡ false → Passes board (table_of old) o
    lowers_passes none other =
        let kept : number (row_in (rows_of new o.master) o.index) other ≡ table_of old o.master o.index other = ap (λ row. number row other) (lowers.here.none none) in
        let P : Bool → Type 0 = λ b. nat_lt other (length most) ≡ b → table_of old o.master o.index other ≤ most_known board (table_of old) o other in
        (elim (nat_lt other (length most)) as P [
          | true ↦ λ lt.
              let inside : other < length most = grind (arith, nat_tests) in
              let many = is_most.all in
              let is = lowers.here.each other inside in
              let number_is = is_most.each other (omega (arith, inside, many)) in
              let low = lesser_second (table_of old o.master o.index other) (number most other) in
              omega (arith, is, kept, number_is, low)
          | false ↦ λ ge.
              let beyond : length most ≤ other = grind (arith, nat_tests) in
              let many = is_most.all in
              let within = bounds.within o.master o.index other in
              let nothing = program_none other (omega (arith, beyond, many)) in
              omega (arith, within, nothing)
        ]) refl

-- Each try of a poll.

first_op : (board : Board) (p : OpId) (op : Op) → op_of board p ≡ Some op → op_of board (at_place p.master p.index) ≡ Some op
first_op board p op is =
    let there = op_there board p op is in
    let tried = there.tried in
    let some : nat_lt 0 (tries_of op) ≡ true = grind (arith, nat_tests) in
    let is_master : slice_get board.masters p.master ≡ Some there.master = there.is_master in
    let is_op : slice_get there.master.ops p.index ≡ Some op = there.is_op in
    rw (is_master, is_op, some) refl

same_op_there : (board : Board) (p : OpId) → is_poll (op_of board p) ≡ true → op_of board (at_place p.master p.index) ≡ op_of board p
same_op_there board p is =
    let P : Option Op → Type 0 = λ found. op_of board p ≡ found → is_poll found ≡ true → op_of board (at_place p.master p.index) ≡ found in
    (elim (op_of board p) as P [
      | None ↦ λ _ e. cc
      | Some op ↦ λ there _. first_op board p op there
    ]) refl is

first_poll : (board : Board) (p : OpId) → is_poll (op_of board p) ≡ true → is_poll (op_of board (at_place p.master p.index)) ≡ true
first_poll board p is = ap is_poll (same_op_there board p is) ∙ is

same_told : (board : Board) (table : Table) (p : OpId) (found : Option Wish) (other : ℕ) → told_to board table (at_place p.master p.index) found other ≡ told_to board table p found other
same_told board table p None other = refl
same_told board table p (Some wish) other = refl

same_most : (board : Board) (table : Table) (p : OpId) (other : ℕ) → is_poll (op_of board p) ≡ true → most_known board table (at_place p.master p.index) other ≡ most_known board table p other
same_most board table p other is =
    let op : op_of board (at_place p.master p.index) ≡ op_of board p = same_op_there board p is in
    let wish : wish_of board (at_place p.master p.index) ≡ wish_of board p = ap (λ found. wish_in (words_on board found (slice_get board.masters p.master)) found) op in
    ap (λ found. greater (clock_of board table p other) (told_to board table (at_place p.master p.index) found other)) wish
    ∙ ap (λ n. greater (clock_of board table p other) n) (same_told board table p (wish_of board p) other)

-- All polls.

pub polls_none : (board : Board) (ops : List OpId) (programs : List ProgramRows) → BoundsAll board programs → LowersPolls board ops 0 programs programs false
polls_none board ops programs bounds = record { bounds = bounds; passes = λ _ k below. absurd (omega (arith, below)) }

pub polls_all : (board : Board) (ops : List OpId) (count : ℕ) (old new : List ProgramRows) (fell : Bool) → length ops ≤ count → count ≤ length ops → LowersPolls board ops count old new fell → LowersPolls board ops (length ops) old new fell
polls_all board ops count old new fell past within lowered =
    let same : count ≡ length ops = omega (arith, past, within) in
    subst (λ n. LowersPolls board ops n old new fell) same lowered

pub fell_none : (programs : List ProgramRows) → Fell programs programs false
fell_none programs = record { some = λ e. cc; none = λ _. refl }

pub fell_next : (old mid new : List ProgramRows) (fell here : Bool) → Fell old mid fell → Fell mid new here → Fell old new (fell || here)
fell_next old mid new true here first second =
    let lost = first.some refl in
    record {
      some = λ _.
          let P : Bool → Type 0 = λ b. here ≡ b → sum_all new < sum_all old in
          (elim here as P [
            | true ↦ λ e. let more = second.some e in omega (arith, lost, more)
            | false ↦ λ e. let same = ap sum_all (second.none e) in omega (arith, lost, same)
          ]) refl;
      none = λ e. cc;
    }
fell_next old mid new false here first second =
    record {
      some = λ e. let more = second.some e in let same = ap sum_all (first.none refl) in omega (arith, more, same);
      none = λ e. second.none e ∙ first.none refl;
    }

either_none : (a b : Bool) → (a || b) ≡ false → (a ≡ false) × (b ≡ false)
either_none true b e = cc
either_none false b e = (refl, e)

pub listed_at : (ops : List OpId) (k : ℕ) (o : OpId) → slice_get ops k ≡ Some o → Contains ops o
listed_at ops k o is = (k, slice_get_within ops k o is, get_or_from_slice_get ops k o o is)

pub polls_next : (board : Board) (ops : List OpId) (count : ℕ) (p : OpId) (old mid new : List ProgramRows) (fell here : Bool)
    → slice_get ops count ≡ Some p → ListsPolls board ops → Fell old mid fell → LowersPolls board ops count old mid fell → LowersPoll board p mid new here → LowersPolls board ops (count + 1) old new (fell || here)
polls_next board ops count p old mid new fell here at lists falls lowered step =
    let is_p : is_poll (op_of board p) ≡ true = lists.are p (listed_at ops count p at) in
    record {
      bounds = lowers_bound p step.numbers mid new here step.lowers board lowered.bounds (first_poll board p is_p) is_p step.most;
      passes = λ none k below q at_k other.
          let two = either_none fell here none in
          let P : Bool → Type 0 = λ b. nat_lt k count ≡ b → table_of old q.master q.index other ≤ most_known board (table_of old) q other in
          (elim (nat_lt k count) as P [
            | true ↦ λ lt. lowered.passes two.0 k (grind (arith, nat_tests)) q at_k other
            | false ↦ λ ge.
                let past : count ≤ k = grind (arith, nat_tests) in
                let last : k ≡ count = omega (arith, past, below) in
                let both : ◌≡◌ {A = Option OpId} (Some p) (Some q) = sym at ∙ ap (λ i. slice_get ops i) (sym last) ∙ at_k in
                let same : p ≡ q = cc in
                let here_passes : Passes board (table_of mid) p = lowers_passes p step.numbers mid new here step.lowers board lowered.bounds (first_poll board p is_p) is_p step.most two.1 in
                subst (λ (t : List ProgramRows). table_of t q.master q.index other ≤ most_known board (table_of t) q other) (falls.none two.0)
                (subst (λ (o : OpId). table_of mid o.master o.index other ≤ most_known board (table_of mid) o other) same (here_passes other))
          ]) refl;
    }

-- where no number of them fell, the table is the largest
pub none_fell : (board : Board) (ops : List OpId) (old new : List ProgramRows) (fell : Bool) → fell ≡ false → ListsPolls board ops → Fell old new fell → LowersPolls board ops (length ops) old new fell → Largest board new
none_fell board ops old new fell none lists falls lowered =
    let same : new ≡ old = falls.none none in
    let bounds : BoundsAll board old = subst (BoundsAll board) same lowered.bounds in
    let passes : (p : OpId) → is_poll (op_of board p) ≡ true → (other : ℕ) → table_of old p.master p.index other ≤ most_known board (table_of old) p other = λ p is other.
    let first : OpId = at_place p.master p.index in
    let listed = lists.all p.master p.index (first_poll board p is) in
    let at : slice_get ops listed.0 ≡ Some first = slice_get-get_or ops listed.0 first listed.1 ∙ ap (λ (o : OpId). Some o) listed.2 in
    subst (λ n. table_of old p.master p.index other ≤ n) (same_most board (table_of old) p other is) (lowered.passes none listed.0 listed.1 first at other) in
    subst (Largest board) (sym same)
    (record {
      largest = passes_largest board (table_of old) bounds.within passes (λ t consistent within m i is other. bounds.above t consistent within m i is other);
      polls = bounds.polls;
    })

-- Along the fronts.

pub fell_more : (old mid new : List ProgramRows) (fell : Bool) → Fell old mid fell → Fell mid new true → Fell old new true
fell_more old mid new true first second =
    record { some = λ _. let lost = first.some refl in let more = second.some refl in omega (arith, lost, more); none = λ e. cc }
fell_more old mid new false first second =
    record { some = λ _. let same = ap sum_all (first.none refl) in let more = second.some refl in omega (arith, same, more); none = λ e. cc }

pub fell_still : (old mid new : List ProgramRows) (fell : Bool) → Fell old mid fell → Fell mid new false → Fell old new fell
fell_still old mid new fell first second = subst (λ t. Fell old t fell) (sym (second.none refl)) first

pub poll_bound : (board : Board) (ops : List OpId) (p : OpId) (old new : List ProgramRows) (fell : Bool) → Contains ops p → ListsPolls board ops → BoundsAll board old → LowersPoll board p old new fell → BoundsAll board new
poll_bound board ops p old new fell among lists bounds step =
    let is_p : is_poll (op_of board p) ≡ true = lists.are p among in
    lowers_bound p step.numbers old new fell step.lowers board bounds (first_poll board p is_p) is_p step.most

-- what the passes over all polls want
pub ruleset to_begin = (polls_none, fell_none, polls_all)
