-- A delayed write lands only as its master's turn: no more once a later operation of its program has landed.
use Rattle.std.proofs.Common.{◌≡◌, ◌<◌, Bool, true, false, List, [], ◌∷◌, Some, refl, sym, subst, ◌∙◌, arith}
use Rattle.std.specs.List.{list_any}
use Rattle.std.proofs.lemmas.Bool.Decides.{nat_tests}
use Rattle.pci_command.specs.declared.command.Command.TheVariants.{MemWrite}
use Rattle.pci_command.specs.declared.op_id.OpId.{OpId}
use Rattle.pci_command.specs.Same.{same_op, same_command}
use Rattle.board_model.specs.declared.op.Op.{Op}
use Rattle.board_model.specs.declared.board.Board.{Board}
use Rattle.board_model.specs.Requests.{op_of, command_of}
use Rattle.board_model.specs.Ways.{Dword}
use Rattle.board_model.specs.Valid.{IsValid}
use Rattle.history_model.specs.declared.event.Event.{Event}
use Rattle.history_model.specs.declared.event.Event.TheVariants.{Act, Arrive}
use Rattle.history_model.specs.declared.rule.Rule.TheVariants.{Tagged}
use Rattle.history_model.specs.Program.{turn_of}
use Rattle.history_model.specs.Words.{brought, landed}
use Rattle.history_model.specs.Knowledge.{has_ended, is_landing_of, stands_after}
use Rattle.history_model.specs.Runs.{Run}
use Rattle.list_facts.proofs.AnyLemmas.{any_some}
use Rattle.list_facts.proofs.EachLemmas.{Each-find}
use Rattle.list_facts.proofs.FindLemmas.{find_passes}
use Rattle.history_model.proofs.facts.RequestLemmas.{same_op_true, same_op_self}
use Rattle.law_fresh.proofs.Laws.{Begun, LandingBegun, LandingsBegun-run}
use Rattle.law_safe.proofs.before.EndedLemmas.{presented_turn, turn_no_end}
use Rattle.law_safe.specs.writes.InOrder.{NoneBehind}
use Rattle.law_safe.proofs.writes.CoverLemmas.{brought_is}
use Rattle.law_safe.proofs.writes.InOrderLemmas.{none_sure, none_yet, none_append}

module _ (board : Board) (valid : IsValid board) (a b : OpId) (op : Op) (is_op : op_of board a ≡ Some op) (delayed : same_command (command_of op) MemWrite ≡ false) (other : same_op b a ≡ false) (word : Dword)
    (S : List Event → Type 0) (less : (e : Event) (h : List Event) → S (e ∷ h) → S h) (stops : (h : List Event) → Run board h → S h → list_any (is_landing_of b) (landed board h word) ≡ true → turn_of board h a.master ≡ Some a → (X : Type 0) → X) where
  brought_turn : (h : List Event) (e : Event) → Run board (e ∷ h) → list_any (is_landing_of a) (brought board h word e) ≡ true → turn_of board h a.master ≡ Some a
  brought_turn h (Act on by o step place) run lands =
      let one : o ≡ a = brought_is board h on by o a step place word lands in
      let R : OpId → Type 0 = λ q. Run board (Act on by q step place ∷ h) in
      let run_a : R a = subst R one run in
      presented_turn board valid h on by a op is_op delayed run_a.1 run_a.0.0
  brought_turn h (Arrive lane mark) run lands = cc

  not_behind : (h : List Event) (e : Event) → Run board (e ∷ h) → S h → list_any (is_landing_of a) (brought board h word e) ≡ true → list_any (is_landing_of b) (landed board h word) ≡ true → (X : Type 0) → X
  not_behind h e run s brings_a lands_b X = stops h run.1 s lands_b (brought_turn h e run brings_a) X

  not_both : (h : List Event) (e : Event) → list_any (is_landing_of a) (brought board h word e) ≡ true → list_any (is_landing_of b) (brought board h word e) ≡ true → (X : Type 0) → X
  not_both h (Act on by o step place) brings_a brings_b X =
      let one : o ≡ a = brought_is board h on by o a step place word brings_a in
      let two : o ≡ b = brought_is board h on by o b step place word brings_b in
      let same : b ≡ a = sym two ∙ one in
      let self : same_op b a ≡ true = subst (λ q. same_op b q ≡ true) same (same_op_self b) in
      let f : true ≡ false = sym self ∙ other in
      cc
  not_both h (Arrive lane mark) brings_a brings_b X = cc

  pub turns_last : (h : List Event) → Run board h → S h → NoneBehind a b false (landed board h word)
  turns_last [] run s = tt
  turns_last (e ∷ h) run s =
      let old = landed board h word in
      let new = brought board h word e in
      let Goal : Type 0 = NoneBehind a b (list_any (is_landing_of b) old) new in
      let P : Bool → Type 0 = λ t. list_any (is_landing_of a) new ≡ t → Goal in
      let Q : Bool → Type 0 = λ t. list_any (is_landing_of b) old ≡ t → list_any (is_landing_of a) new ≡ true → NoneBehind a b t new in
      let R : Bool → Type 0 = λ t. list_any (is_landing_of b) new ≡ t → list_any (is_landing_of a) new ≡ true → NoneBehind a b false new in
      let then : Goal = (elim (list_any (is_landing_of a) new) as P [
        | false ↦ λ none. none_sure a b (list_any (is_landing_of b) old) new none
        | true ↦ λ brings_a. (elim (list_any (is_landing_of b) old) as Q [
          | true ↦ λ seen again. not_behind h e run (less e h s) again seen (NoneBehind a b true new)
          | false ↦ λ _ again. (elim (list_any (is_landing_of b) new) as R [
            | true ↦ λ brings_b brings_it. not_both h e brings_it brings_b (NoneBehind a b false new)
            | false ↦ λ none _. none_yet a b new none
          ]) refl again
        ]) refl brings_a
      ]) refl in
      none_append a b false old new (turns_last h run.1 (less e h s)) then

-- so it is where the other is a later operation of its program
pub program_last : (board : Board) (valid : IsValid board) (a b : OpId) (op : Op) → op_of board a ≡ Some op → same_command (command_of op) MemWrite ≡ false → same_op b a ≡ false → a.master ≡ b.master → a.index < b.index → (word : Dword) (h : List Event) → Run board h → NoneBehind a b false (landed board h word)
program_last board valid a b op is_op delayed other masters below word h run = turns_last board valid a b op is_op delayed other word (λ _. Unit {0}) (λ e g s. tt) stops h run tt
  where
    stops : (g : List Event) → Run board g → Unit {0} → list_any (is_landing_of b) (landed board g word) ≡ true → turn_of board g a.master ≡ Some a → (X : Type 0) → X
    stops g run_g s lands_b is_turn X =
        let turn : turn_of board g b.master ≡ Some a = subst (λ m. turn_of board g m ≡ Some a) masters is_turn in
        let some = any_some (is_landing_of b) (landed board g word) lands_b in
        let one : some.0.op ≡ b = same_op_true some.0.op b (find_passes (is_landing_of b) (landed board g word) some.0 some.1) in
        let begun : Begun board g b = subst (Begun board g) one (Each-find (LandingBegun board g) (is_landing_of b) (landed board g word) some.0 (LandingsBegun-run Tagged board g word run_g) some.1) in
        let none : stands_after a b ≡ false = begun a turn in
        let after : stands_after a b ≡ true = grind (arith, nat_tests) in
        let e : true ≡ false = sym after ∙ none in
        cc

-- and where it had ended when the other landed, by what holds of the histories
pub ended_last : (board : Board) (valid : IsValid board) (a b : OpId) (op : Op) → op_of board a ≡ Some op → same_command (command_of op) MemWrite ≡ false → same_op b a ≡ false → (word : Dword) → (S : List Event → Type 0) → ((e : Event) (g : List Event) → S (e ∷ g) → S g)
    → ((g : List Event) → Run board g → S g → list_any (is_landing_of b) (landed board g word) ≡ true → has_ended g a ≡ true) → (h : List Event) → Run board h → S h → NoneBehind a b false (landed board h word)
ended_last board valid a b op is_op delayed other word S less ends h run s =
    turns_last board valid a b op is_op delayed other word S less (λ g run_g s_g lands_b is_turn X. turn_no_end board g a run_g is_turn (ends g run_g s_g lands_b) X) h run s
