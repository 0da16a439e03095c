-- The order of a program: the turn goes on, and what is its turn or ended does not stand behind it.
use Rattle.std.proofs.Common.{◌≡◌, ℕ, ◌+◌, Bool, true, false, cond, eqb, List, ◌∷◌, Option, Some, None, is_some, refl, sym, ap, subst, ◌∙◌, arith, eqb-true}
use Rattle.std.proofs.lemmas.Bool.Decides.{nat_tests}
use Rattle.pci_command.specs.declared.op_id.OpId.{OpId}
use Rattle.pci_command.specs.declared.op_id.Outcome.{Outcome}
use Rattle.board_model.specs.declared.op.Op.{Op}
use Rattle.board_model.specs.declared.op.Op.TheVariants.{Read as ReadOp, Write, CfgRead, CfgWrite, Poll}
use Rattle.board_model.specs.declared.board.Board.{Board}
use Rattle.board_model.specs.Requests.{op_of}
use Rattle.history_model.specs.declared.event.By.TheVariants.{Master, Lane as ByLane}
use Rattle.history_model.specs.declared.event.Event.{Event}
use Rattle.history_model.specs.declared.event.Event.TheVariants.{Act, Arrive}
use Rattle.history_model.specs.declared.rule.Rule.{Rule}
use Rattle.history_model.specs.Knowledge.{stands_after}
use Rattle.history_model.specs.Runs.{RunBy}
use Rattle.history_model.specs.Program.{Ending, ending_of, ended, master_outcome, present, next_op, next_try, meets, follows_op, follows_in, follows, turn_after, turn_of}
use Rattle.history_model.proofs.facts.WantsLemmas.{wants-turn}

pub behind_self : (p : OpId) → stands_after p p ≡ false
behind_self p = grind (arith, nat_tests)

pub behind_next : (p t q : OpId) → stands_after p t ≡ true → stands_after t q ≡ true → stands_after p q ≡ true
behind_next p t q first second = grind (arith, nat_tests)

-- behind an operation
abbrev pub IsBehind : OpId → Option OpId → Type 0
IsBehind p None = Unit {0}
IsBehind p (Some t) = stands_after p t ≡ true

present_behind : (board : Board) (p t : OpId) → stands_after p t ≡ true → IsBehind p (present board t)
present_behind board p t is =
    let P : Bool → Type 0 = λ b. IsBehind p (cond b (Some t) None) in
    elim (is_some (op_of board t)) as P [ true ↦ is | false ↦ tt ]

next_op_behind : (board : Board) (p : OpId) → IsBehind p (next_op board p)
next_op_behind board p = present_behind board p (record { master = p.master; index = p.index + 1; attempt = 0 }) (grind (arith, nat_tests))

next_try_behind : (board : Board) (p : OpId) → IsBehind p (next_try board p)
next_try_behind board p = present_behind board p (record { master = p.master; index = p.index; attempt = p.attempt + 1 }) (grind (arith, nat_tests))

op_behind : (board : Board) (p : OpId) (outcome : Outcome) (op : Op) → IsBehind p (follows_op board p outcome op)
op_behind board p outcome (ReadOp command address) = next_op_behind board p
op_behind board p outcome (Write command address phases) = next_op_behind board p
op_behind board p outcome (CfgRead bus device register) = next_op_behind board p
op_behind board p outcome (CfgWrite bus device register phase) = next_op_behind board p
op_behind board p outcome (Poll space address want tries) =
    let P : Bool → Type 0 = λ b. IsBehind p (cond b (next_op board p) (next_try board p)) in
    elim (meets want outcome) as P [ true ↦ next_op_behind board p | false ↦ next_try_behind board p ]

pub follows_behind : (board : Board) (p : OpId) (outcome : Outcome) → IsBehind p (follows board (record { op = p; outcome = outcome }))
follows_behind board p outcome =
    let P : Option Op → Type 0 = λ op. IsBehind p (follows_in board p outcome op) in
    elim (op_of board p) as P [ None ↦ tt | Some op ↦ op_behind board p outcome op ]

-- an operation that is its master's turn, or stands before it in the program
abbrev pub Begun : Board → List Event → OpId → Type 0
Begun board h q = (t : OpId) → turn_of board h q.master ≡ Some t → stands_after t q ≡ false

pub Begun-turn : (board : Board) (h : List Event) (q : OpId) → turn_of board h q.master ≡ Some q → Begun board h q
Begun-turn board h q turn t is = let same : q ≡ t = cc in subst (λ p. stands_after p q ≡ false) same (behind_self q)

-- what does not stand behind a turn does not stand behind what follows it
not_behind : (p t q : OpId) → stands_after p t ≡ true → stands_after p q ≡ false → stands_after t q ≡ false
not_behind p t q first none =
    let P : Bool → Type 0 = λ b. stands_after t q ≡ b → b ≡ false in
    (elim (stands_after t q) as P [
      | true ↦ λ is. let e : true ≡ false = sym (behind_next p t q first is) ∙ none in cc
      | false ↦ λ _. refl
    ]) refl

follows_begun : (p q : OpId) (next : Option OpId) → IsBehind p next → stands_after p q ≡ false → (t : OpId) → next ≡ Some t → stands_after t q ≡ false
follows_begun p q None behind none t is = cc
follows_begun p q (Some next) behind none t is = let same : next ≡ t = cc in not_behind p t q (subst (λ n. stands_after p n ≡ true) same behind) none

-- what is its master's turn as an event ends it
pub ends_turn : (rule : Rule) (board : Board) (e : Event) (h : List Event) (ending : Ending) → RunBy rule board (e ∷ h) → ended e ≡ Some ending → turn_of board h ending.op.master ≡ Some ending.op
ends_turn rule board (Act on Master o step place) h ending run is =
    let P : Option Outcome → Type 0 = λ given. ending_of o given ≡ Some ending → turn_of board h ending.op.master ≡ Some ending.op in
    (elim (master_outcome step) as P [
      | None ↦ λ f. cc
      | Some outcome ↦ λ f.
          let G : OpId → Type 0 = λ p. turn_of board h p.master ≡ Some p in
          let same : o ≡ ending.op = ap op_or_self f in
          subst G same (wants-turn board h on o run.0.0)
    ]) is
  where
    op_or_self : Option Ending → OpId
    op_or_self None = o
    op_or_self (Some other) = other.op
ends_turn rule board (Act on (ByLane lane) o step place) h ending run is = cc
ends_turn rule board (Arrive lane mark) h ending run is = cc

-- the turn of a master whose turn was ended, and of any other
ending_begun : (board : Board) (turn : ℕ → Option OpId) (found : Option Ending) (q : OpId) → ((ending : Ending) → found ≡ Some ending → turn ending.op.master ≡ Some ending.op)
    → ((t : OpId) → turn q.master ≡ Some t → stands_after t q ≡ false) → (t : OpId) → turn_after board q.master (turn q.master) found ≡ Some t → stands_after t q ≡ false
ending_begun board turn None q ends old t is = old t is
ending_begun board turn (Some ending) q ends old t is =
    let p : OpId = ending.op in
    let next : Option OpId = follows board ending in
    let P : Bool → Type 0 = λ b. eqb p.master q.master ≡ b → cond b next (turn q.master) ≡ Some t → stands_after t q ≡ false in
    (elim (eqb p.master q.master) as P [
      | true ↦ λ same e.
          let masters : p.master ≡ q.master = eqb-true p.master q.master same in
          let was : turn q.master ≡ Some p = ap turn (sym masters) ∙ ends ending refl in
          follows_begun p q next (follows_behind board p ending.outcome) (old p was) t e
      | false ↦ λ _ e. old t e
    ]) refl is

-- an operation that began has begun ever after
pub Begun-kept : (rule : Rule) (board : Board) (e : Event) (h : List Event) (q : OpId) → RunBy rule board (e ∷ h) → Begun board h q → Begun board (e ∷ h) q
Begun-kept rule board e h q run old = ending_begun board (turn_of board h) (ended e) q (λ ending is. ends_turn rule board e h ending run is) old

-- what stands before another stands before all that follows it
behind_more : (p : OpId) (q : OpId) (next : Option OpId) → stands_after p q ≡ true → IsBehind q next → IsBehind p next
behind_more p q None first behind = tt
behind_more p q (Some t) first behind = behind_next p q t first behind

-- what stands before a turn stands before what comes behind it
ending_behind : (board : Board) (p : OpId) (master : ℕ) (found : Option Ending) (turn : ℕ → Option OpId) → ((ending : Ending) → found ≡ Some ending → turn ending.op.master ≡ Some ending.op)
    → IsBehind p (turn master) → IsBehind p (turn_after board master (turn master) found)
ending_behind board p master None turn ends old = old
ending_behind board p master (Some ending) turn ends old =
    let o : OpId = ending.op in
    let next : Option OpId = follows board ending in
    let P : Bool → Type 0 = λ b. eqb o.master master ≡ b → IsBehind p (cond b next (turn master)) in
    (elim (eqb o.master master) as P [
      | true ↦ λ same.
          let masters : o.master ≡ master = eqb-true o.master master same in
          let was : turn master ≡ Some o = ap turn (sym masters) ∙ ends ending refl in
          behind_more p o next (subst (IsBehind p) was old) (follows_behind board o ending.outcome)
      | false ↦ λ _. old
    ]) refl

pub event_behind : (rule : Rule) (board : Board) (e : Event) (h : List Event) (p : OpId) (master : ℕ) → RunBy rule board (e ∷ h) → IsBehind p (turn_of board h master) → IsBehind p (turn_of board (e ∷ h) master)
event_behind rule board e h p master run old = ending_behind board p master (ended e) (turn_of board h) (λ ending is. ends_turn rule board e h ending run is) old

-- the turn after an ending stands behind what ended
pub ended_behind : (board : Board) (e : Event) (h : List Event) (ending : Ending) → ended e ≡ Some ending → IsBehind ending.op (turn_of board (e ∷ h) ending.op.master)
ended_behind board e h ending is =
    let F : Option Ending → Type 0 = λ found. IsBehind ending.op (turn_after board ending.op.master (turn_of board h ending.op.master) found) in
    let self : eqb ending.op.master ending.op.master ≡ true = grind (arith, nat_tests) in
    let there : F (Some ending) = rw self (follows_behind board ending.op ending.outcome) in
    subst F (sym is) there
