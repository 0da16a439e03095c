-- An author's earlier writes ended before its later operations began.
use Rattle.std.proofs.Common.{◌≡◌, ℕ, ◌+◌, ◌<◌, ◌≤◌, Bool, true, false, ◌&&◌, not, ◌==◌, cond, eqb, eqb-true, nat_lt, List, [], ◌∷◌, Option, Some, None, is_some, refl, sym, ap, subst, ◌∙◌, arith, slice_get}
use Rattle.std.proofs.lemmas.Bool.Decides.{nat_tests}
use Rattle.pci_command.specs.declared.command.Space.{Space}
use Rattle.pci_command.specs.declared.command.Space.TheVariants.{Mem, Io, Cfg}
use Rattle.pci_command.specs.declared.op_id.OpId.{OpId}
use Rattle.pci_command.specs.declared.op_id.Outcome.{Outcome}
use Rattle.pci_command.specs.Same.{same_op}
use Rattle.pci_command.specs.Command.{is_read}
use Rattle.board_model.specs.declared.op.Op.{Op}
use Rattle.board_model.specs.declared.op.Op.TheVariants.{Read as ReadOp, Write, CfgRead, CfgWrite, Poll}
use Rattle.board_model.specs.declared.board.Board.{Board}
use Rattle.board_model.specs.Requests.{op_of, tries_of, command_of, read_in, reads_in}
use Rattle.history_model.specs.declared.event.Event.{Event}
use Rattle.history_model.specs.declared.rule.Rule.TheVariants.{Tagged}
use Rattle.history_model.specs.declared.rule.Rule.{Rule}
use Rattle.history_model.specs.Program.{Ending, ended, present, next_op, next_try, meets, follows_in, follows, turn_after, turn_of}
use Rattle.history_model.specs.Knowledge.{outcome_in, ends_as, has_ended, is_write}
use Rattle.history_model.specs.Runs.{Run, RunBy}
use Rattle.history_model.proofs.facts.RequestLemmas.{same_op_self}
use Rattle.law_bound.proofs.changes.Laws.{entry_of}
use Rattle.law_fresh.proofs.reads.Laws.{master_there}
use Rattle.law_fresh.proofs.BehindLemmas.{ends_turn}
use Rattle.std.proofs.lemmas.Bool.{or_left, or_right}

-- a write has one try
pub record WriteOp (board : Board) (w : OpId) : Type 0 where
  pub op : Op
  pub is_op : op_of board w ≡ Some op
  pub writes : is_read (command_of op) ≡ false

poll_reads : (space : Space) → is_read (read_in space) ≡ true
poll_reads Mem = refl
poll_reads Io = refl
poll_reads Cfg = refl

pub write_tries : (op : Op) → is_read (command_of op) ≡ false → tries_of op ≡ 1
write_tries (ReadOp command address) writes = refl
write_tries (Write command address phases) writes = refl
write_tries (CfgRead bus device register) writes = refl
write_tries (CfgWrite bus device register phase) writes = refl
write_tries (Poll space address want tries) writes = let e : true ≡ false = sym (poll_reads space) ∙ writes in cc

pub write_op : (board : Board) (w : OpId) → is_write board w ≡ true → WriteOp board w
write_op board w is =
    let P : Option Op → Type 0 = λ found. op_of board w ≡ found → (is_some found && not (reads_in found)) ≡ true → WriteOp board w in
    let Q : Op → Bool → Type 0 = λ op b. is_read (command_of op) ≡ b → not b ≡ true → op_of board w ≡ Some op → WriteOp board w in
    (elim (op_of board w) as P [
      | None ↦ λ _ f. cc
      | Some op ↦ λ is_op f. (elim (is_read (command_of op)) as (Q op) [
        | true ↦ λ _ g _. cc
        | false ↦ λ writes _ is_it. record { op = op; is_op = is_it; writes = writes }
      ]) refl f is_op
    ]) refl is

-- an operation at the place of a write is that write
pub same_place : (board : Board) (w o : OpId) → WriteOp board w → is_some (op_of board o) ≡ true → o.master ≡ w.master → o.index ≡ w.index → o ≡ w
same_place board w o write there masters indices =
    let built : ℕ → ℕ → ℕ → OpId = λ master index attempt. record { master = master; index = index; attempt = attempt } in
    let P : Option Op → Type 0 = λ found. op_of board o ≡ found → is_some found ≡ true → o ≡ w in
    (elim (op_of board o) as P [
      | None ↦ λ _ f. cc
      | Some op ↦ λ is_op _.
          let agent = master_there board o op is_op in
          let mine = entry_of board o op agent.0 is_op agent.1 in
          let its_agent : slice_get board.masters w.master ≡ Some agent.0 = subst (λ n. slice_get board.masters n ≡ Some agent.0) masters agent.1 in
          let its = entry_of board w write.op agent.0 write.is_op its_agent in
          let there_too : slice_get agent.0.ops w.index ≡ Some op = subst (λ n. slice_get agent.0.ops n ≡ Some op) indices mine.there in
          let ops : Some op ≡ Some write.op = sym there_too ∙ its.there in
          let one_op : op ≡ write.op = cc in
          let tries : tries_of write.op ≡ 1 = write_tries write.op write.writes in
          let my_tries : tries_of op ≡ 1 = ap tries_of one_op ∙ tries in
          let below : o.attempt < 1 = subst (λ n. o.attempt < n) my_tries mine.tries in
          let its_below : w.attempt < 1 = subst (λ n. w.attempt < n) tries its.tries in
          let attempts : o.attempt ≡ w.attempt = omega (arith, below, its_below) in
          ap (λ n. built n o.index o.attempt) masters ∙ ap (λ n. built w.master n o.attempt) indices ∙ ap (built w.master w.index) attempts
    ]) refl there

-- The turn is there, and its index grows by one at most.

abbrev There : Board → Option OpId → Type 0
There board None = Unit {0}
There board (Some t) = is_some (op_of board t) ≡ true

present_there : (board : Board) (o : OpId) → There board (present board o)
present_there board o =
    let P : Bool → Type 0 = λ b. is_some (op_of board o) ≡ b → There board (cond b (Some o) None) in
    (elim (is_some (op_of board o)) as P [ true ↦ λ is. is | false ↦ λ _. tt ]) refl

follows_there : (board : Board) (o : OpId) (outcome : Outcome) (found : Option Op) → There board (follows_in board o outcome found)
follows_there board o outcome None = tt
follows_there board o outcome (Some (ReadOp command address)) = present_there board _
follows_there board o outcome (Some (Write command address phases)) = present_there board _
follows_there board o outcome (Some (CfgRead bus device register)) = present_there board _
follows_there board o outcome (Some (CfgWrite bus device register phase)) = present_there board _
follows_there board o outcome (Some (Poll space address want tries)) =
    let P : Bool → Type 0 = λ b. There board (cond b (next_op board o) (next_try board o)) in
    elim (meets want outcome) as P [ true ↦ present_there board _ | false ↦ present_there board _ ]

after_there : (board : Board) (master : ℕ) (turn : Option OpId) (ending : Option Ending) → There board turn → There board (turn_after board master turn ending)
after_there board master turn None old = old
after_there board master turn (Some ending) old =
    let P : Bool → Type 0 = λ b. There board (cond b (follows board ending) turn) in
    elim (ending.op.master == master) as P [ true ↦ follows_there board ending.op ending.outcome (op_of board ending.op) | false ↦ old ]

turn_there : (board : Board) (h : List Event) (master : ℕ) → There board (turn_of board h master)
turn_there board [] master = present_there board _
turn_there board (e ∷ h) master = after_there board master (turn_of board h master) (ended e) (turn_there board h master)

pub turn_is_there : (board : Board) (h : List Event) (o : OpId) → turn_of board h o.master ≡ Some o → is_some (op_of board o) ≡ true
turn_is_there board h o is = subst (There board) is (turn_there board h o.master)

abbrev Near : OpId → Option OpId → Type 0
Near o None = Unit {0}
Near o (Some t) = t.index ≤ o.index + 1

present_near : (board : Board) (o t : OpId) → t.index ≤ o.index + 1 → Near o (present board t)
present_near board o t near =
    let P : Bool → Type 0 = λ b. Near o (cond b (Some t) None) in
    elim (is_some (op_of board t)) as P [ true ↦ near | false ↦ tt ]

next_near : (board : Board) (o : OpId) → Near o (next_op board o)
next_near board o = present_near board o (record { master = o.master; index = o.index + 1; attempt = 0 }) (omega arith)

try_near : (board : Board) (o : OpId) → Near o (next_try board o)
try_near board o = present_near board o (record { master = o.master; index = o.index; attempt = o.attempt + 1 }) (omega arith)

follows_near : (board : Board) (o : OpId) (outcome : Outcome) (found : Option Op) → Near o (follows_in board o outcome found)
follows_near board o outcome None = tt
follows_near board o outcome (Some (ReadOp command address)) = next_near board o
follows_near board o outcome (Some (Write command address phases)) = next_near board o
follows_near board o outcome (Some (CfgRead bus device register)) = next_near board o
follows_near board o outcome (Some (CfgWrite bus device register phase)) = next_near board o
follows_near board o outcome (Some (Poll space address want tries)) =
    let P : Bool → Type 0 = λ b. Near o (cond b (next_op board o) (next_try board o)) in
    elim (meets want outcome) as P [ true ↦ next_near board o | false ↦ try_near board o ]

-- Writes before the turn ended.

-- each ending is of its master's turn
abbrev pub TurnsEnd : Board → List Event → Type 0
TurnsEnd board [] = Unit {0}
TurnsEnd board (e ∷ h) = ((ending : Ending) → ended e ≡ Some ending → turn_of board h ending.op.master ≡ Some ending.op) × TurnsEnd board h

module _ (board : Board) (w : OpId) (write : WriteOp board w) where
  abbrev Before : List Event → Option OpId → Type 0
  Before h None = Unit {0}
  Before h (Some t) = w.index < t.index → has_ended h w ≡ true

  near_before : (h : List Event) (o : OpId) (next : Option OpId) → Near o next → (w.index ≤ o.index → has_ended h w ≡ true) → Before h next
  near_before h o None near older = tt
  near_before h o (Some t) near older = λ below. older (omega (arith, near, below))

  later_before : (h now : List Event) → (has_ended h w ≡ true → has_ended now w ≡ true) → (t : Option OpId) → Before h t → Before now t
  later_before h now more None old = tt
  later_before h now more (Some t) old = λ below. more (old below)

  -- the turn after an event that ended one of its master's operations, or none
  ending_before : (h : List Event) (found : Option Ending) (turn : ℕ → Option OpId) (now : List Event) → ((ending : Ending) → found ≡ Some ending → (turn ending.op.master ≡ Some ending.op) × (is_some (op_of board ending.op) ≡ true)) → (has_ended h w ≡ true → has_ended now w ≡ true)
      → (is_some (outcome_in w found) ≡ true → has_ended now w ≡ true) → Before h (turn w.master) → Before now (turn_after board w.master (turn w.master) found)
  ending_before h None turn now ends more here old = later_before h now more (turn w.master) old
  ending_before h (Some ending) turn now ends more here old =
      let o : OpId = ending.op in
      let next : Option OpId = follows board ending in
      let its = ends ending refl in
      let P : Bool → Type 0 = λ b. eqb o.master w.master ≡ b → Before now (cond b next (turn w.master)) in
      (elim (eqb o.master w.master) as P [
        | true ↦ λ same.
            let masters : o.master ≡ w.master = eqb-true o.master w.master same in
            let was : turn w.master ≡ Some o = ap turn (sym masters) ∙ its.0 in
            let of_o : w.index < o.index → has_ended h w ≡ true = subst (Before h) was old in
            near_before now o next (follows_near board o ending.outcome (op_of board o))
            (λ at_most.
            let Q : Bool → Type 0 = λ b. nat_lt w.index o.index ≡ b → has_ended now w ≡ true in
            (elim (nat_lt w.index o.index) as Q [
              | true ↦ λ below. let below_it : w.index < o.index = grind (arith, nat_tests) in more (of_o below_it)
              | false ↦ λ none.
                  let at_least : o.index ≤ w.index = grind (arith, nat_tests) in
                  let indices : o.index ≡ w.index = omega (arith, at_most, at_least) in
                  let one_op : o ≡ w = same_place board w o write its.1 masters indices in
                  let self : same_op o w ≡ true = subst (λ p. same_op o p ≡ true) one_op (same_op_self o) in
                  here (rw self refl)
            ]) refl)
        | false ↦ λ _. later_before h now more (turn w.master) old
      ]) refl

  Before-turn : (h : List Event) → TurnsEnd board h → Before h (turn_of board h w.master)
  Before-turn [] ends =
      let first : OpId = record { master = w.master; index = 0; attempt = 0 } in
      let P : Bool → Type 0 = λ b. Before [] (cond b (Some first) None) in
      elim (is_some (op_of board first)) as P [ true ↦ λ below. absurd (omega (arith, below)) | false ↦ tt ]
  Before-turn (e ∷ h) ends =
      ending_before h (ended e) (turn_of board h) (e ∷ h) (λ ending is. let turn = ends.0 ending is in (turn, turn_is_there board h ending.op turn))
      (λ old. or_right (is_some (ends_as w e)) (has_ended h w) old) (λ now. or_left (is_some (ends_as w e)) (has_ended h w) now) (Before-turn h ends.1)

  -- where an operation is its master's turn, the write is it, or ended, or does not stand before it
  pub turns_ended : (h : List Event) (o : OpId) → TurnsEnd board h → turn_of board h o.master ≡ Some o → o.master ≡ w.master → w.index < o.index + 1 → same_op o w ≡ false → has_ended h w ≡ true
  turns_ended h o ends turn masters at_most other =
      let Q : Bool → Type 0 = λ b. nat_lt w.index o.index ≡ b → has_ended h w ≡ true in
      let was : turn_of board h w.master ≡ Some o = subst (λ n. turn_of board h n ≡ Some o) masters turn in
      let before : w.index < o.index → has_ended h w ≡ true = subst (Before h) was (Before-turn h ends) in
      (elim (nat_lt w.index o.index) as Q [
        | true ↦ λ below. let below_it : w.index < o.index = grind (arith, nat_tests) in before below_it
        | false ↦ λ none.
            let at_least : o.index ≤ w.index = grind (arith, nat_tests) in
            let indices : o.index ≡ w.index = omega (arith, at_most, at_least) in
            let one_op : o ≡ w = same_place board w o write (turn_is_there board h o turn) masters indices in
            let self : same_op o w ≡ true = subst (λ p. same_op o p ≡ true) one_op (same_op_self o) in
            let e : true ≡ false = sym self ∙ other in
            cc
      ]) refl

-- so it is in a run
pub run_turns : (rule : Rule) (board : Board) (h : List Event) → RunBy rule board h → TurnsEnd board h
run_turns rule board [] run = tt
run_turns rule board (e ∷ h) run = (λ ending is. ends_turn rule board e h ending run is, run_turns rule board h run.1)

pub own_ended : (board : Board) (w : OpId) → WriteOp board w → (h : List Event) (o : OpId) → Run board h → turn_of board h o.master ≡ Some o → o.master ≡ w.master → w.index < o.index + 1 → same_op o w ≡ false → has_ended h w ≡ true
own_ended board w write h o run turn masters at_most other = turns_ended board w write h o (run_turns Tagged board h run) turn masters at_most other
