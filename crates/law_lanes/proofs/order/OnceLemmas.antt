-- Each operation ends at most once at its master: the turn goes on and never comes back.
use Rattle.std.proofs.Common.{◌≡◌, ℕ, zero, suc, ◌+◌, ◌<◌, ◌≤◌, Bool, true, false, cond, eqb, List, [], ◌∷◌, Option, Some, None, is_some, refl, sym, ap, subst, ◌∙◌, arith}
use Rattle.std.proofs.lemmas.Bool.Decides.{nat_tests}
use Rattle.pci_command.specs.declared.op_id.OpId.{OpId}
use Rattle.pci_command.specs.declared.op_id.Outcome.{Outcome}
use Rattle.pci_command.specs.Same.{same_op}
use Rattle.board_model.specs.declared.op.Op.{Op}
use Rattle.board_model.specs.declared.op.Op.TheVariants.{Read as ReadOp, Write, CfgRead, CfgWrite, Poll}
use Rattle.board_model.specs.declared.board.Board.{Board}
use Rattle.board_model.specs.Requests.{op_of}
use Rattle.history_model.specs.declared.event.By.TheVariants.{Master, Lane as ByLane}
use Rattle.history_model.specs.declared.event.Event.{Event}
use Rattle.history_model.specs.declared.event.Event.TheVariants.{Act, Arrive}
use Rattle.history_model.specs.Program.{ending_of, master_outcome, present, next_op, next_try, meets, follows_op, follows_in, follows, turn_after, turn_of}
use Rattle.history_model.specs.Knowledge.{outcome_in}
use Rattle.history_model.specs.Runs.{Run}
use Rattle.history_model.proofs.facts.RequestLemmas.{same_op_true}
use Rattle.history_model.proofs.facts.WantsLemmas.{wants-turn}
use Rattle.law_lanes.specs.order.One.{times, ends_at_master}

-- a name of a later operation of the program, or of a later try of the same
record After (o p : OpId) : Type 0 where
  index : o.index ≤ p.index
  attempt : p.index ≤ o.index → o.attempt < p.attempt

-- the same, or the operation itself
record NotBefore (o p : OpId) : Type 0 where
  index : o.index ≤ p.index
  attempt : p.index ≤ o.index → o.attempt ≤ p.attempt

abbrev IsLater : OpId → Option OpId → Type 0
IsLater o None = Unit {0}
IsLater o (Some turn) = After o turn

present_later : (board : Board) (o p : OpId) → After o p → IsLater o (present board p)
present_later board o p after =
    let P : Bool → Type 0 = λ b. IsLater o (cond b (Some p) None) in
    elim (is_some (op_of board p)) as P [ true ↦ after | false ↦ tt ]

next_op_later : (board : Board) (o p : OpId) → NotBefore o p → IsLater o (next_op board p)
next_op_later board o p is =
    let next : OpId = record { master = p.master; index = p.index + 1; attempt = 0 } in
    present_later board o next record { index = omega (arith, is.index); attempt = λ low. absurd (omega (arith, low, is.index)) }

next_try_later : (board : Board) (o p : OpId) → NotBefore o p → IsLater o (next_try board p)
next_try_later board o p is =
    let next : OpId = record { master = p.master; index = p.index; attempt = p.attempt + 1 } in
    present_later board o next record { index = is.index; attempt = λ low. omega (arith, is.attempt low) }

op_later : (board : Board) (o p : OpId) (outcome : Outcome) (op : Op) → NotBefore o p → IsLater o (follows_op board p outcome op)
op_later board o p outcome (ReadOp command address) is = next_op_later board o p is
op_later board o p outcome (Write command address phases) is = next_op_later board o p is
op_later board o p outcome (CfgRead bus device register) is = next_op_later board o p is
op_later board o p outcome (CfgWrite bus device register phase) is = next_op_later board o p is
op_later board o p outcome (Poll space address want tries) is =
    let P : Bool → Type 0 = λ b. IsLater o (cond b (next_op board p) (next_try board p)) in
    elim (meets want outcome) as P [ true ↦ next_op_later board o p is | false ↦ next_try_later board o p is ]

follows_later : (board : Board) (o p : OpId) (outcome : Outcome) → NotBefore o p → IsLater o (follows board (record { op = p; outcome = outcome }))
follows_later board o p outcome is =
    let P : Option Op → Type 0 = λ op. IsLater o (follows_in board p outcome op) in
    elim (op_of board p) as P [ None ↦ tt | Some op ↦ op_later board o p outcome op is ]

-- what is known of an operation: it ended at most once, and where it did a later one is the turn
record Ends (count : ℕ) (o : OpId) (turn : Option OpId) : Type 0 where
  once : count ≤ 1
  later : 1 ≤ count → IsLater o turn

-- an operation that is the turn did not end
turn_fresh : (count : ℕ) (o : OpId) → Ends count o (Some o) → count ≡ 0
turn_fresh zero o is = refl
turn_fresh (suc more) o is =
    let after : After o o = is.later (omega arith) in
    absurd (omega (arith, after.attempt (omega arith)))

-- the turn of the operation's master after the ending of one that was a turn
ending_ends : (board : Board) (count : ℕ) (o p : OpId) (outcome : Outcome) (turn : ℕ → Option OpId) → turn p.master ≡ Some p → Ends count o (turn o.master)
    → Ends (cond (is_some (cond (same_op p o) (Some outcome) None)) 1 0 + count) o (cond (eqb p.master o.master) (follows board (record { op = p; outcome = outcome })) (turn o.master))
ending_ends board count o p outcome turn is_turn old =
    let next : Option OpId = follows board (record { op = p; outcome = outcome }) in
    let P : Bool → Type 0 = λ b. same_op p o ≡ b → Ends (cond (is_some (cond b (Some outcome) None)) 1 0 + count) o (cond (eqb p.master o.master) next (turn o.master)) in
    let Q : Bool → Type 0 = λ b. eqb p.master o.master ≡ b → Ends (0 + count) o (cond b next (turn o.master)) in
    (elim (same_op p o) as P [
      | true ↦ λ same.
          let one : p ≡ o = same_op_true p o same in
          let master : eqb o.master o.master ≡ true = grind (arith, nat_tests) in
          let was : turn o.master ≡ Some o = subst (λ q. turn q.master ≡ Some q) one is_turn in
          let none : count ≡ 0 = turn_fresh count o (subst (Ends count o) was old) in
          let after : IsLater o (follows board (record { op = o; outcome = outcome })) = follows_later board o o outcome record { index = omega arith; attempt = λ _. omega arith } in
          let F : OpId → Type 0 = λ q. Ends (1 + count) o (cond (eqb q.master o.master) (follows board (record { op = q; outcome = outcome })) (turn o.master)) in
          let here : F o = rw master record { once = omega arith; later = λ _. after } in
          subst F (sym one) here
      | false ↦ λ _. (elim (eqb p.master o.master) as Q [
        | true ↦ λ same.
            let masters : p.master ≡ o.master = grind (arith, nat_tests) in
            let was : turn o.master ≡ Some p = ap turn (sym masters) ∙ is_turn in
            let of_p : Ends count o (Some p) = subst (Ends count o) was old in
            record {
              once = omega (arith, old.once);
              later = λ some.
                  let after : After o p = of_p.later (omega (arith, some)) in
                  follows_later board o p outcome record { index = after.index; attempt = λ low. omega (arith, after.attempt low) };
            }
        | false ↦ λ _. record { once = omega (arith, old.once); later = λ some. old.later (omega (arith, some)) }
      ]) refl
    ]) refl

same_ends : (count : ℕ) (o : OpId) (turn : Option OpId) → Ends count o turn → Ends (0 + count) o turn
same_ends count o turn old = record { once = omega (arith, old.once); later = λ some. old.later (omega (arith, some)) }

master_ends : (board : Board) (count : ℕ) (o p : OpId) (outcome : Option Outcome) (turn : ℕ → Option OpId) → turn p.master ≡ Some p → Ends count o (turn o.master)
    → Ends (cond (is_some (outcome_in o (ending_of p outcome))) 1 0 + count) o (turn_after board o.master (turn o.master) (ending_of p outcome))
master_ends board count o p None turn is_turn old = same_ends count o (turn o.master) old
master_ends board count o p (Some outcome) turn is_turn old = ending_ends board count o p outcome turn is_turn old

Ends-run : (board : Board) (h : List Event) (o : OpId) → Run board h → Ends (times (ends_at_master o) h) o (turn_of board h o.master)
Ends-run board [] o run = record { once = omega arith; later = λ some. absurd (omega (arith, some)) }
Ends-run board (Act on Master p step place ∷ h) o run =
    master_ends board (times (ends_at_master o) h) o p (master_outcome step) (turn_of board h) (wants-turn board h on p run.0.0) (Ends-run board h o run.1)
Ends-run board (Act on (ByLane lane) p step place ∷ h) o run = same_ends (times (ends_at_master o) h) o (turn_of board h o.master) (Ends-run board h o run.1)
Ends-run board (Arrive lane mark ∷ h) o run = same_ends (times (ends_at_master o) h) o (turn_of board h o.master) (Ends-run board h o run.1)

pub ends_once : (board : Board) (h : List Event) (o : OpId) → Run board h → times (ends_at_master o) h ≤ 1
ends_once board h o run = (Ends-run board h o run).once

pub turn_not_ended : (board : Board) (h : List Event) (o : OpId) → Run board h → turn_of board h o.master ≡ Some o → times (ends_at_master o) h ≡ 0
turn_not_ended board h o run is_turn = turn_fresh (times (ends_at_master o) h) o (subst (Ends (times (ends_at_master o) h) o) is_turn (Ends-run board h o run))
