-- Of two writes of a word, one lands no more once the other does: so it is not the last to land there.
use Rattle.std.proofs.Common.{◌≡◌, ◌≢◌, suc, ◌<◌, Bool, true, false, ◌||◌, not, cond, List, [], ◌∷◌, ◌++◌, is_some, Contains, refl, sym, ap, subst, ◌∙◌, arith}
use Rattle.std.specs.List.{list_any}
use Rattle.pci_command.specs.declared.command.Command.TheVariants.{MemWrite}
use Rattle.pci_command.specs.declared.phases.Phase.{Phase}
use Rattle.pci_command.specs.declared.op_id.OpId.{OpId}
use Rattle.pci_command.specs.Same.{same_op, same_command}
use Rattle.board_model.specs.declared.board.Board.{Board}
use Rattle.board_model.specs.Requests.{op_of, command_of, reads}
use Rattle.board_model.specs.Ways.{Dword}
use Rattle.board_model.specs.Valid.{IsValid}
use Rattle.history_model.specs.declared.event.Event.{Event}
use Rattle.history_model.specs.Words.{Landing, landed}
use Rattle.history_model.specs.Knowledge.{is_landing_of, is_write, words_named, Told}
use Rattle.history_model.specs.Runs.{Run}
use Rattle.law_lanes.specs.order.Order.{is_posted_in, is_posted_op}
use Rattle.std.proofs.lemmas.Bool.{and_parts}
use Rattle.std.proofs.lemmas.List.Folds.{list_any-append}
use Rattle.std.proofs.Math.Bool.{or-false}
use Rattle.history_model.proofs.facts.RequestLemmas.{same_op_true, same_op_self}
use Rattle.law_fresh.proofs.Laws.{write_op}
use Rattle.law_safe.specs.writes.InOrder.{NoneBehind}
use Rattle.law_safe.proofs.writes.InOrderLemmas.{or_more, told_last}
use Rattle.safe_model.specs.Raisers.{same_dword, phases_for, phases_in, phases_to}
use Rattle.safe_model.specs.Clocks.{Table, known_by, IsConsistent, IsBefore, behind, LandsNoMore, lands_once, stands_before, had_ended}
use Rattle.law_safe.proofs.before.OrderLemmas.{below_own, Sound}
use Rattle.law_safe.proofs.before.BeforeLemmas.{write_told}
use Rattle.law_safe.proofs.before.EndedLemmas.{write_done}
use Rattle.law_safe.proofs.before.ProgramLemmas.{program_last, ended_last}
use Rattle.safe_model.proofs.WordLemmas.{same_dword_true}

-- Words and data phases.

contains_word : (word : Dword) (words : List Dword) (phases : List Phase) → phases_for word words phases ≢ [] → Contains words word
contains_word word [] phases some = absurd (some refl)
contains_word word (first ∷ words) [] some = absurd (some refl)
contains_word word (first ∷ words) (phase ∷ phases) some =
    let P : Bool → Type 0 = λ b. same_dword first word ≡ b → (cond b (phase ∷ []) [] ++ phases_for word words phases) ≢ [] → Contains (first ∷ words) word in
    (elim (same_dword first word) as P [
      | true ↦ λ same _. (0, omega arith, same_dword_true first word same)
      | false ↦ λ _ later. let rest = contains_word word words phases later in (suc rest.0, omega (arith, rest.1), rest.2)
    ]) refl some

pub names_word : (board : Board) (word : Dword) (w : OpId) → is_write board w ≡ true → phases_to board word w ≢ [] → Contains (words_named board w) word
names_word board word w writes some =
    let F : Bool → Type 0 = λ b. cond b (phases_for word (words_named board w) (phases_in (op_of board w))) [] ≢ [] in
    let here : F true = subst F writes some in
    contains_word word (words_named board w) (phases_in (op_of board w)) here

pub writes_not : (board : Board) (w : OpId) → is_write board w ≡ true → reads board w ≡ false
writes_not board w is =
    let parts = and_parts (is_some (op_of board w)) (not (reads board w)) is in
    let P : Bool → Type 0 = λ b. not b ≡ true → b ≡ false in
    (elim (reads board w) as P [ true ↦ λ e. cc | false ↦ λ _. refl ]) parts.1

-- Of two writes of the word one lands no more once the other does, which has landed.
module _ (board : Board) (valid : IsValid board) (table : Table) (consistent : IsConsistent board table) (h : List Event) (run : Run board h) (sound : Sound board table h) (word : Dword) (a b : OpId)
    (a_writes : is_write board a ≡ true) (names_it : Contains (words_named board a) word) (b_writes : is_write board b ≡ true) (b_lands : list_any (is_landing_of b) (landed board h word) ≡ true) (other : same_op b a ≡ false) where
  by_posted : is_posted_op board a ≡ true → IsBefore board table a b → NoneBehind a b false (landed board h word)
  by_posted posted is_before =
      let told : Told board h a b = write_told board valid a a_writes table consistent h b word run sound b_lands b_writes is_before in
      told_last board h a b word valid run told other (writes_not board b b_writes) names_it posted

  by_program : a.master ≡ b.master → a.index < b.index → NoneBehind a b false (landed board h word)
  by_program masters below =
      let P : Bool → Type 0 = λ t. is_posted_op board a ≡ t → NoneBehind a b false (landed board h word) in
      (elim (is_posted_op board a) as P [
        | true ↦ λ posted. by_posted posted (below_own (known_by board table b.master b.index) b.master b.index a.master a.index masters below)
        | false ↦ λ none.
            let write = write_op board a a_writes in
            let delayed : same_command (command_of write.op) MemWrite ≡ false = sym (ap is_posted_in write.is_op) ∙ none in
            program_last board valid a b write.op write.is_op delayed other masters below word h run
      ]) refl

  by_end : IsBefore board table (behind a) b → NoneBehind a b false (landed board h word)
  by_end is_before =
      let P : Bool → Type 0 = λ t. is_posted_op board a ≡ t → NoneBehind a b false (landed board h word) in
      (elim (is_posted_op board a) as P [
        | true ↦ λ posted. by_posted posted (omega (arith, is_before))
        | false ↦ λ none.
            let write = write_op board a a_writes in
            let delayed : same_command (command_of write.op) MemWrite ≡ false = sym (ap is_posted_in write.is_op) ∙ none in
            ended_last board valid a b write.op write.is_op delayed other word (Sound board table) (λ e g s. s.1) (λ g run_g s lands_b. write_done board valid a a_writes table consistent g b word run_g s lands_b is_before) h run sound
      ]) refl

  pub none_behind : LandsNoMore board table a b → NoneBehind a b false (landed board h word)
  none_behind (lands_once is_posted is_before) = by_posted is_posted is_before
  none_behind (stands_before masters below) = by_program masters below
  none_behind (had_ended is_before) = by_end is_before

-- What lands last.

-- before the last landing of one there is none of the other
none_earlier : (f x : OpId) (before : Bool) (earlier : List Landing) (last : Landing) → is_landing_of f last ≡ true → NoneBehind f x before (earlier ++ last ∷ []) → (before || list_any (is_landing_of x) earlier) ≡ false
none_earlier f x before [] last is none = or-false before ∙ none.0 is
none_earlier f x before (landing ∷ earlier) last is none =
    sym (or_more before (is_landing_of x landing) (list_any (is_landing_of x) earlier)) ∙ none_earlier f x (before || is_landing_of x landing) earlier last is none.1

-- so where the last landing is of it, the other has not landed
pub last_alone : (f x : OpId) (earlier : List Landing) (last : Landing) → last.op ≡ f → same_op x f ≡ false → NoneBehind f x false (earlier ++ last ∷ []) → list_any (is_landing_of x) (earlier ++ last ∷ []) ≡ true → (X : Type 0) → X
last_alone f x earlier last is_of other none some X =
    let is : is_landing_of f last ≡ true = subst (λ o. same_op o f ≡ true) (sym is_of) (same_op_self f) in
    let nothing : list_any (is_landing_of x) earlier ≡ false = none_earlier f x false earlier last is none in
    let P : Bool → Type 0 = λ b. is_landing_of x last ≡ b → (list_any (is_landing_of x) earlier || (b || false)) ≡ true → X in
    let split : (list_any (is_landing_of x) earlier || (is_landing_of x last || false)) ≡ true = sym (list_any-append (is_landing_of x) earlier (last ∷ [])) ∙ some in
    (elim (is_landing_of x last) as P [
      | true ↦ λ same _.
          let one : f ≡ x = sym is_of ∙ same_op_true last.op x same in
          let self : same_op x f ≡ true = subst (λ o. same_op x o ≡ true) (sym one) (same_op_self x) in
          let e : true ≡ false = sym self ∙ other in
          cc
      | false ↦ λ _ g.
          let here : (false || (false || false)) ≡ true = subst (λ b. (b || (false || false)) ≡ true) nothing g in
          cc
    ]) refl split
