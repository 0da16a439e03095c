-- A read was told of a write exactly where its master's numbers, as of the read's end, reach it.
use Rattle.std.proofs.Common.{◌≡◌, Bool, true, false, ◌||◌, not, cond, eqb, List, [], ◌∷◌, ◌++◌, Option, Some, None, is_some, refl, sym, ap, subst, ◌∙◌, arith}
use Rattle.std.proofs.lemmas.Bool.{and_parts}
use Rattle.std.proofs.lemmas.Bool.Decides.{nat_tests}
use Rattle.pci_command.specs.declared.op_id.OpId.{OpId}
use Rattle.pci_command.specs.Same.{same_op}
use Rattle.board_model.specs.declared.board.Board.{Board}
use Rattle.board_model.specs.Requests.{op_of, reads}
use Rattle.history_model.specs.declared.event.Event.{Event}
use Rattle.history_model.specs.declared.rule.Rule.TheVariants.{Untagged}
use Rattle.history_model.specs.Program.{Ending, ended, turn_of}
use Rattle.history_model.specs.Knowledge.{outcome_in, ends_as, Reading, is_write}
use Rattle.history_model.proofs.facts.RequestLemmas.{same_op_true, same_op_self}
use Rattle.law_untagged.specs.Untagged.{UntaggedRun}
use Rattle.law_untagged.specs.Origins.{ending_reading, untagged_got}
use Rattle.law_untagged.specs.Heard.{Since, knows, heard, first_known, untagged_since, untagged_was_told}
use Rattle.law_untagged.proofs.HeardLemmas.{ending_front, got_reads}
use Rattle.law_untagged.proofs.ToldLemmas.{got_along}
use Rattle.law_audit.specs.Clocks.{reaches}
use Rattle.law_fresh.proofs.Laws.{write_op, turn_is_there, Begun, Begun-turn, ends_turn, Front, front_self, front_more, front_front}
use Rattle.law_untagged.specs.clocks.Clocks.{clocks_of}
use Rattle.law_untagged.proofs.clocks.ClockLemmas.{Law, Law-run, turn_knows, knows_same, heard_same}
use Rattle.law_untagged.proofs.OrderLemmas.{run_along}

-- the ending of an operation is one of it
pub ends_it : (e : Event) (ending : Ending) → ended e ≡ Some ending → is_some (ends_as ending.op e) ≡ true
ends_it e ending is =
    let self = same_op_self ending.op in
    ap (λ (found : Option Ending). is_some (outcome_in ending.op found)) is ∙ rw self refl

pub told_reaches : (board : Board) (later : List Event) (e : Event) (h : List Event) (ending : Ending) (reading : Reading) (w : OpId) → UntaggedRun board (later ++ e ∷ h) → is_write board w ≡ true → ended e ≡ Some ending → ending_reading board h e ≡ Some reading
    → untagged_was_told board (later ++ e ∷ h) w ending.op ≡ reaches ((clocks_of board (e ∷ h)).known ending.op.master) w
told_reaches board later e h ending reading w run writes ends read =
    let whole : List Event = later ++ e ∷ h in
    let r : OpId = ending.op in
    let now : Since = untagged_since board w whole in
    let then_ : Since = untagged_since board w h in
    let run_then : UntaggedRun board (e ∷ h) = run_along board later (e ∷ h) run in
    let front : Front h whole = front_front h (e ∷ h) whole (front_more h h e (front_self h)) (record { later = later; is = refl }) in
    let turn : turn_of board h r.master ≡ Some r = ends_turn Untagged board e h ending run_then ends in
    let begun : Begun board h r = Begun-turn board h r turn in
    let law : Law board w (write_op board w writes) (e ∷ h) = Law-run board w (write_op board w writes) (e ∷ h) run_then in
    let got : untagged_got board whole r ≡ Some reading = got_along board r e h later run (ends_it e ending ends) ∙ read in
    let reads_it : reads board r ≡ true = got_reads board whole r reading got in
    let there : is_some (op_of board r) ≡ true = turn_is_there board h r turn in
    let known : knows now r ≡ is_some (then_ r.master) = knows_same board w (write_op board w writes) h whole r front run begun ∙ turn_knows board w (write_op board w writes) h r run_then.1 turn in
    let heard_it : heard board w now (untagged_got board whole r) ≡ heard board w then_ (ending_reading board h e) =
    ap (heard board w now) got ∙ (heard_same board w (write_op board w writes) h whole reading front (ending_front board h e reading read) run ∙ ap (heard board w then_) (sym read)) in
    let other : same_op r w ≡ false = not_same (same_op r w) (λ same. read_writes reads_it (same_op_true r w same)) in
    let mine : eqb r.master r.master ≡ true = grind (arith, nat_tests) in
    let F : Option OpId → Option Ending → Type 0 = λ since found. (is_some since || heard board w then_ (ending_reading board h e)) ≡ is_some (first_known since r.master w (heard board w then_ (ending_reading board h e)) found) in
    let S : Option OpId → Type 0 = λ since. F since (Some ending) in
    let first : F (then_ r.master) (Some ending) = elim (then_ r.master) as S [
      | None ↦ rw (mine, other) (found_some (heard board w then_ (ending_reading board h e)))
      | Some p ↦ refl
    ] in
    let last : F (then_ r.master) (ended e) = subst (F (then_ r.master)) (sym ends) first in
    let left : untagged_was_told board whole w r ≡ (knows now r || heard board w now (untagged_got board whole r)) = rw (writes, there) refl in
    left ∙ (ap (λ b. b || heard board w now (untagged_got board whole r)) known ∙ (ap (λ b. is_some (then_ r.master) || b) heard_it ∙ (last ∙ law.known r.master)))
  where
    not_same : (b : Bool) → (b ≡ true → ⊥) → b ≡ false
    not_same true never = absurd (never refl)
    not_same false never = refl

    read_writes : reads board ending.op ≡ true → ending.op ≡ w → ⊥
    read_writes reads_it same =
        let also : reads board w ≡ true = subst (λ p. reads board p ≡ true) same reads_it in
        let parts = and_parts (is_some (op_of board w)) (not (reads board w)) writes in
        let other : not true ≡ true = subst (λ b. not b ≡ true) also parts.1 in
        cc

    found_some : (b : Bool) → b ≡ is_some (cond b (Some ending.op) None)
    found_some true = refl
    found_some false = refl
