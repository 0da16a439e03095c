-- What ended, and what is left of the programs, make up what all operations count.
use Rattle.std.proofs.Common.{◌≡◌, ℕ, zero, suc, ◌+◌, ◌<◌, eqb, true, false, cond, nat_lt, List, [], ◌∷◌, drop, length, Option, Some, None, is_some, refl, sym, ap, subst, ◌∙◌, arith, slice_get}
use Rattle.std.specs.Option.{option_and_then}
use Rattle.std.proofs.lemmas.Bool.{and_parts}
use Rattle.std.proofs.lemmas.Bool.Decides.{nat_tests}
use Rattle.list_facts.specs.Lists.{total}
use Rattle.list_facts.proofs.TestLemmas.{list_all-get}
use Rattle.pci_command.specs.declared.op_id.OpId.{OpId}
use Rattle.pci_command.specs.declared.op_id.Outcome.{Outcome}
use Rattle.board_model.specs.declared.agents.Master.{Master as MasterAgent}
use Rattle.board_model.specs.declared.op.Op.{Op}
use Rattle.board_model.specs.declared.op.Op.TheVariants.{Read as ReadOp, Write, CfgRead, CfgWrite, Poll}
use Rattle.board_model.specs.declared.board.Board.{Board}
use Rattle.board_model.specs.Requests.{op_of, tries_of}
use Rattle.board_model.proofs.Laws.{op_there}
use Rattle.history_model.specs.declared.event.By.TheVariants.{Master}
use Rattle.history_model.specs.declared.event.Step.{Step}
use Rattle.history_model.specs.declared.event.Event.{Event}
use Rattle.history_model.specs.Program.{master_outcome, ending_of, present, next_op, follows_op, follows_in, follows, turn_after, turn_of}
use Rattle.history_model.specs.Answers.{is_on, is_turn, wants}
use Rattle.history_model.proofs.facts.WantsLemmas.{wants-turn, master_bus}
use Rattle.run_report.specs.way_counts.Plain.{is_no_poll, is_straight, IsSteady}
use Rattle.run_report.specs.way_counts.WayCounts.{Weight, way_weight}
use Rattle.run_report.proofs.way_counts.Weights.{from_bus}
use Rattle.run_report.proofs.way_counts.StepLemmas.{as_ended}

-- what the operations from a turn on count
abbrev pub turn_weight : Board → Weight → MasterAgent → Option OpId → ℕ
turn_weight board weight master None = 0
turn_weight board weight master (Some o) = total (way_weight board weight master.bus) (drop o.index master.ops)

-- a sum over the masters from a place on
abbrev pub from : (ℕ → MasterAgent → ℕ) → ℕ → List MasterAgent → ℕ
from f place [] = 0
from f place (master ∷ masters) = f place master + from f (place + 1) masters

-- what is left of all programs
abbrev pub rests : Board → Weight → List Event → ℕ
rests board weight h = from (λ place master. turn_weight board weight master (turn_of board h place)) 0 board.masters

from-behind : (f g : ℕ → MasterAgent → ℕ) (one : ℕ) → ((place : ℕ) (m : MasterAgent) → eqb one place ≡ false → f place m ≡ g place m) → (place : ℕ) (ms : List MasterAgent) → one < place → from f place ms ≡ from g place ms
from-behind f g one same place [] behind = refl
from-behind f g one same place (m ∷ ms) behind =
    let apart : eqb one place ≡ false = grind (arith, nat_tests) in
    omega (arith, same place m apart, from-behind f g one same (place + 1) ms (omega (arith, behind)))

-- where one of them falls by so much and no other changes, the sum falls by so much
from-one : (f g : ℕ → MasterAgent → ℕ) (one : ℕ) (y : MasterAgent) (much : ℕ) → ((place : ℕ) (m : MasterAgent) → eqb one place ≡ false → f place m ≡ g place m) → f one y + much ≡ g one y
    → (place : ℕ) (ms : List MasterAgent) (more : ℕ) → place + more ≡ one → slice_get ms more ≡ Some y → from f place ms + much ≡ from g place ms
from-one f g one y much same falls place [] more at is = cc
from-one f g one y much same falls place (m ∷ ms) zero at is =
    let this : y ≡ m = cc in
    let here : place ≡ one = omega (arith, at) in
    let first : f place m + much ≡ g place m = subst (λ n. f n m + much ≡ g n m) (sym here) (subst (λ z. f one z + much ≡ g one z) this falls) in
    omega (arith, first, from-behind f g one same (place + 1) ms (omega (arith, here)))
from-one f g one y much same falls place (m ∷ ms) (suc more) at is =
    let apart : eqb one place ≡ false = grind (arith, nat_tests) in
    omega (arith, same place m apart, from-one f g one y much same falls (place + 1) ms more (omega (arith, at)) is)

from-same : (f g : ℕ → MasterAgent → ℕ) → ((place : ℕ) (m : MasterAgent) → f place m ≡ g place m) → (place : ℕ) (ms : List MasterAgent) → from f place ms ≡ from g place ms
from-same f g same place [] = refl
from-same f g same place (m ∷ ms) = omega (arith, same place m, from-same f g same (place + 1) ms)

-- where none has anything, as many as there are
pub from-none : (f : ℕ → MasterAgent → ℕ) (place : ℕ) (ms : List MasterAgent) → ((i : ℕ) (m : MasterAgent) → i < place + length ms → f i m ≡ 0) → from f place ms ≡ 0
from-none f place [] none = refl
from-none f place (m ∷ ms) none = omega (arith, none place m (omega arith), from-none f (place + 1) ms (λ i n below. none i n (omega (arith, below))))

-- from a place on there is nothing, or what is there and what is behind it
drop_none : (w : Op → ℕ) (xs : List Op) (i : ℕ) → slice_get xs i ≡ None → total w (drop i xs) ≡ 0
drop_none w [] zero none = refl
drop_none w [] (suc i) none = refl
drop_none w (x ∷ xs) zero none = cc
drop_none w (x ∷ xs) (suc i) none = drop_none w xs i none

drop_some : (w : Op → ℕ) (xs : List Op) (i : ℕ) (x : Op) → slice_get xs i ≡ Some x → total w (drop i xs) ≡ w x + total w (drop (suc i) xs)
drop_some w [] i x is = cc
drop_some w (y ∷ xs) zero x is = let same : y ≡ x = cc in ap (λ z. w z + total w xs) same
drop_some w (y ∷ xs) (suc i) x is = drop_some w xs i x is

-- what is no poll is tried once
pub once : (op : Op) → is_no_poll op ≡ true → tries_of op ≡ 1
once (ReadOp command address) no_poll = refl
once (Write command address phases) no_poll = refl
once (CfgRead bus device register) no_poll = refl
once (CfgWrite bus device register phase) no_poll = refl
once (Poll space address want tries) no_poll = cc

-- and behind it comes the next operation
follows_next : (board : Board) (o : OpId) (outcome : Outcome) (op : Op) → is_no_poll op ≡ true → follows_op board o outcome op ≡ next_op board o
follows_next board o outcome (ReadOp command address) no_poll = refl
follows_next board o outcome (Write command address phases) no_poll = refl
follows_next board o outcome (CfgRead bus device register) no_poll = refl
follows_next board o outcome (CfgWrite bus device register phase) no_poll = refl
follows_next board o outcome (Poll space address want tries) no_poll = cc

module _ (board : Board) (steady : IsSteady board) (weight : Weight) where
  straight : (i : ℕ) (master : MasterAgent) → slice_get board.masters i ≡ Some master → (j : ℕ) (op : Op) → slice_get master.ops j ≡ Some op → is_no_poll op ≡ true
  straight i master is j op is_op = list_all-get is_no_poll master.ops j op (list_all-get is_straight board.masters i master steady.masters is) is_op

  -- an operation that is presented, where it is there, has all behind it
  present_weight : (q : OpId) (master : MasterAgent) → slice_get board.masters q.master ≡ Some master → q.attempt ≡ 0 → turn_weight board weight master (present board q) ≡ total (way_weight board weight master.bus) (drop q.index master.ops)
  present_weight q master is first =
      let W : Op → ℕ = way_weight board weight master.bus in
      let here : Op → Option Op = λ op. cond (nat_lt q.attempt (tries_of op)) (Some op) None in
      let named : op_of board q ≡ option_and_then here (slice_get master.ops q.index) = ap (λ (found : Option MasterAgent). option_and_then here (option_and_then (λ (m : MasterAgent). slice_get m.ops q.index) found)) is in
      let T : Option Op → Type 0 = λ found. turn_weight board weight master (cond (is_some found) (Some q) None) ≡ total W (drop q.index master.ops) in
      let P : Option Op → Type 0 = λ found. slice_get master.ops q.index ≡ found → T (option_and_then here found) in
      subst T (sym named) ((elim (slice_get master.ops q.index) as P [
        | None ↦ λ none. sym (drop_none W master.ops q.index none)
        | Some op ↦ λ there.
            let one : tries_of op ≡ 1 = once op (straight q.master master is q.index op there) in
            let tried : nat_lt q.attempt (tries_of op) ≡ true = grind (arith, nat_tests) in
            subst (λ b. T (cond b (Some op) None)) (sym tried) refl
      ]) refl)

  -- the operation that ended is taken off
  ends_weight : (h : List Event) (on : ℕ) (o : OpId) (outcome : Outcome) (op : Op) (master : MasterAgent) → op_of board o ≡ Some op → slice_get board.masters o.master ≡ Some master → slice_get master.ops o.index ≡ Some op → on ≡ master.bus
      → turn_weight board weight master (follows board (record { op = o; outcome = outcome })) + from_bus board weight on o ≡ turn_weight board weight master (Some o)
  ends_weight h on o outcome op master is_op is_master there bus =
      let W : Op → ℕ = way_weight board weight master.bus in
      let q : OpId = record { master = o.master; index = o.index + 1; attempt = 0 } in
      let no_poll : is_no_poll op ≡ true = straight o.master master is_master o.index op there in
      let next : follows board (record { op = o; outcome = outcome }) ≡ next_op board o = ap (follows_in board o outcome) is_op ∙ follows_next board o outcome op no_poll in
      let behind : turn_weight board weight master (next_op board o) ≡ total W (drop (o.index + 1) master.ops) = present_weight q master is_master refl in
      let one : o.index + 1 ≡ suc o.index = omega arith in
      let here : from_bus board weight on o ≡ W op = (rw is_op refl) ∙ ap (λ n. way_weight board weight n op) bus in
      omega (arith, ap (turn_weight board weight master) next, behind, ap (λ n. total W (drop n master.ops)) one, here, drop_some W master.ops o.index op there)

  -- at first all is left
  pub first_from : (place : ℕ) (ms : List MasterAgent) → ((i : ℕ) → slice_get ms i ≡ slice_get board.masters (place + i)) → from (λ i master. turn_weight board weight master (turn_of board [] i)) place ms ≡ total (λ (master : MasterAgent). total (way_weight board weight master.bus) master.ops) ms
  first_from place [] same = refl
  first_from place (m ∷ ms) same =
      let zeroth : place + 0 ≡ place = omega arith in
      let is : slice_get board.masters place ≡ Some m = ap (slice_get board.masters) (sym zeroth) ∙ sym (same 0) in
      let first = present_weight (record { master = place; index = 0; attempt = 0 }) m is refl in
      let later : (i : ℕ) → slice_get ms i ≡ slice_get board.masters (place + 1 + i) = λ i.
      let next : place + suc i ≡ place + 1 + i = omega arith in
      same (suc i) ∙ ap (slice_get board.masters) next in
      omega (arith, first, first_from (place + 1) ms later)

  -- an operation that ends at its master
  pub act_rests : (h : List Event) (on : ℕ) (o : OpId) (step : Step) (ends : Option Outcome) → master_outcome step ≡ ends → wants board h on Master o ≡ true → (op : Op) → op_of board o ≡ Some op
      → from (λ i master. turn_weight board weight master (turn_after board i (turn_of board h i) (ending_of o ends))) 0 board.masters + as_ended board weight on o ends ≡ rests board weight h
  act_rests h on o step None is wanted op is_op = omega arith
  act_rests h on o step (Some outcome) is wanted op is_op =
      let there = op_there board o op is_op in
      let turn : turn_of board h o.master ≡ Some o = wants-turn board h on o wanted in
      let at : is_on on (slice_get board.masters o.master) ≡ true = (and_parts (is_on on (slice_get board.masters o.master)) (is_turn o (turn_of board h o.master)) wanted).0 in
      let bus : on ≡ there.master.bus = master_bus on (slice_get board.masters o.master) there.master there.is_master at in
      let F : ℕ → MasterAgent → ℕ = λ i master. turn_weight board weight master (turn_after board i (turn_of board h i) (ending_of o (Some outcome))) in
      let G : ℕ → MasterAgent → ℕ = λ i master. turn_weight board weight master (turn_of board h i) in
      let other : (i : ℕ) (m : MasterAgent) → eqb o.master i ≡ false → F i m ≡ G i m = λ i m apart. ap (λ b. turn_weight board weight m (cond b (follows board (record { op = o; outcome = outcome })) (turn_of board h i))) apart in
      let self : eqb o.master o.master ≡ true = grind (arith, nat_tests) in
      let fell = ends_weight h on o outcome op there.master is_op there.is_master there.is_op bus in
      let here : F o.master there.master ≡ turn_weight board weight there.master (follows board (record { op = o; outcome = outcome })) = ap (λ b. turn_weight board weight there.master (cond b (follows board (record { op = o; outcome = outcome })) (turn_of board h o.master))) self in
      let before : G o.master there.master ≡ turn_weight board weight there.master (Some o) = ap (turn_weight board weight there.master) turn in
      from-one F G o.master there.master (from_bus board weight on o) other (omega (arith, here, before, fell)) 0 board.masters o.master (omega arith) there.is_master
