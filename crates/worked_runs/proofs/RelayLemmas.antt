-- Along the relay nothing is told to the first master, which reads nothing.
use Rattle.std.proofs.Common.{◌≡◌, ℕ, zero, suc, ◌≤◌, Bool, true, false, cond, eqb, List, [], ◌∷◌, Some, None, refl, ap, arith}
use Rattle.std.specs.List.{AllByRecursion}
use Rattle.std.proofs.lemmas.Bool.Decides.{nat_tests}
use Rattle.pci_command.specs.declared.op_id.OpId.{OpId}
use Rattle.pci_command.specs.declared.op_id.Outcome.TheVariants.{Written}
use Rattle.pci_command.specs.Same.{same_op}
use Rattle.history_model.specs.declared.event.Event.{Event}
use Rattle.history_model.specs.Knowledge.{ends_with, value_of_ending, up_to_end, last_reading, got, saw_in, saw, later, tells, Chain, one, more}
use Rattle.history_model.specs.Runs.{history_of}
use Rattle.worked_runs.specs.Relay.{relay_board, relay_events}

abbrev history : List Event
history = history_of relay_events

-- an operation of the first master
abbrev first : ℕ → ℕ → OpId
first index attempt = record { master = 0; index = index; attempt = attempt }

-- where no event ends a read with a value, nothing is up to such an end
none_ends : (r : OpId) (h : List Event) → AllByRecursion (λ e. ends_with r e ≡ None) h → up_to_end r h ≡ []
none_ends r [] none = refl
none_ends r (e ∷ h) none = rw none.0 (none_ends r h none.1)

-- a write that ended has no value
no_value : (same : Bool) → value_of_ending (cond same (Some Written) None) ≡ None
no_value true = refl
no_value false = refl

first_gets_none : (index attempt : ℕ) → got relay_board history (first index attempt) ≡ None
first_gets_none index attempt =
    let r : OpId = first index attempt in
    let data_write = no_value (same_op (first 0 0) r) in
    let flag_write = no_value (same_op (first 1 0) r) in
    let none : AllByRecursion (λ e. ends_with r e ≡ None) history = (refl, (refl, (refl, (refl, (refl, (flag_write, (refl, (refl, (data_write, tt))))))))) in
    ap (last_reading relay_board r) (none_ends r history none)

-- what is told by an operation of another master is no operation of the first
step_on : (p : OpId) (master index attempt : ℕ) → tells relay_board history p (record { master = master; index = index; attempt = attempt }) ≡ true → 1 ≤ p.master → 1 ≤ master
step_on p zero index attempt told other =
    let q : OpId = first index attempt in
    let unseen : saw relay_board history q p ≡ false = ap (saw_in relay_board p) (first_gets_none index attempt) in
    let apart : eqb p.master 0 ≡ false = grind (arith, nat_tests) in
    let not_later : later relay_board history p q ≡ false = rw apart refl in
    let untold : tells relay_board history p q ≡ false = rw not_later unseen in
    cc
step_on p (suc master) index attempt told other = omega arith

pub stays_on : (p q : OpId) → Chain relay_board history p q → 1 ≤ p.master → 1 ≤ q.master
stays_on _ _ (one p q told) other = step_on p q.master q.index q.attempt told other
stays_on _ _ (more p q r told chain) other = stays_on q r chain (step_on p q.master q.index q.attempt told other)
