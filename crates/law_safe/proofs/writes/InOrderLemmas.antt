-- The landings of a write that was told of another stand behind those of the other.
use Rattle.std.proofs.Common.{◌≡◌, Bool, true, false, ◌||◌, List, [], ◌∷◌, ◌++◌, append_assoc, Contains, refl, sym, subst, ◌∙◌}
use Rattle.std.specs.List.{list_any}
use Rattle.pci_command.specs.declared.op_id.OpId.{OpId}
use Rattle.pci_command.specs.Same.{same_op}
use Rattle.board_model.specs.declared.board.Board.{Board}
use Rattle.board_model.specs.Requests.{reads}
use Rattle.board_model.specs.Ways.{Dword}
use Rattle.board_model.specs.Valid.{IsValid}
use Rattle.history_model.specs.declared.event.Event.{Event}
use Rattle.history_model.specs.Words.{Landing, brought, landed}
use Rattle.history_model.specs.Knowledge.{is_land_of, has_landed, is_landing_of, Told, words_named}
use Rattle.history_model.specs.Runs.{Run}
use Rattle.law_lanes.specs.order.Order.{is_posted_op}
use Rattle.std.proofs.lemmas.Bool.{or_right}
use Rattle.std.proofs.lemmas.List.Folds.{list_any-append}
use Rattle.law_fresh.proofs.Laws.{Front, front_run, or_either}
use Rattle.law_delivered.proofs.Laws.{named_lands}
use Rattle.law_safe.specs.writes.InOrder.{StandsBehind, NoneBehind}
use Rattle.law_safe.proofs.writes.CoverLemmas.{event_after}
use Rattle.law_safe.proofs.writes.OnceLemmas.{posted_once}

-- Walks over landings.

-- where one was before these, or none is of `x`
stands_sure : (w x : OpId) (landings : List Landing) → StandsBehind w x true landings
stands_sure w x [] = tt
stands_sure w x (landing ∷ landings) = (λ _. refl, stands_sure w x landings)

stands_none : (w x : OpId) (before : Bool) (landings : List Landing) → list_any (is_landing_of x) landings ≡ false → StandsBehind w x before landings
stands_none w x before [] none = tt
stands_none w x before (landing ∷ landings) none =
    let P : Bool → Type 0 = λ b. (b || list_any (is_landing_of x) landings) ≡ false → (b ≡ true → before ≡ true) × StandsBehind w x (before || is_landing_of w landing) landings in
    (elim (is_landing_of x landing) as P [
      | true ↦ λ e. cc
      | false ↦ λ e. (λ f. cc, stands_none w x (before || is_landing_of w landing) landings e)
    ]) none

pub none_sure : (w x : OpId) (before : Bool) (landings : List Landing) → list_any (is_landing_of w) landings ≡ false → NoneBehind w x before landings
none_sure w x before [] none = tt
none_sure w x before (landing ∷ landings) none =
    let P : Bool → Type 0 = λ b. (b || list_any (is_landing_of w) landings) ≡ false → (b ≡ true → before ≡ false) × NoneBehind w x (before || is_landing_of x landing) landings in
    (elim (is_landing_of w landing) as P [
      | true ↦ λ e. cc
      | false ↦ λ e. (λ f. cc, none_sure w x (before || is_landing_of x landing) landings e)
    ]) none

pub none_yet : (w x : OpId) (landings : List Landing) → list_any (is_landing_of x) landings ≡ false → NoneBehind w x false landings
none_yet w x [] none = tt
none_yet w x (landing ∷ landings) none =
    let P : Bool → Type 0 = λ b. (b || list_any (is_landing_of x) landings) ≡ false → (is_landing_of w landing ≡ true → false ≡ false) × NoneBehind w x b landings in
    (elim (is_landing_of x landing) as P [
      | true ↦ λ e. cc
      | false ↦ λ e. (λ _. refl, none_yet w x landings e)
    ]) none

pub or_more : (a b c : Bool) → ((a || b) || c) ≡ (a || (b || c))
or_more true b c = refl
or_more false b c = refl

stands_append : (w x : OpId) (before : Bool) (xs ys : List Landing) → StandsBehind w x before xs → StandsBehind w x (before || list_any (is_landing_of w) xs) ys → StandsBehind w x before (xs ++ ys)
stands_append w x before [] ys first then =
    let P : Bool → Type 0 = λ b. StandsBehind w x (b || false) ys → StandsBehind w x b ys in
    (elim before as P [ true ↦ λ f. f | false ↦ λ f. f ]) then
stands_append w x before (landing ∷ xs) ys first then =
    (first.0, stands_append w x (before || is_landing_of w landing) xs ys first.1 (subst (λ b. StandsBehind w x b ys) (sym (or_more before (is_landing_of w landing) (list_any (is_landing_of w) xs))) then))

pub none_append : (w x : OpId) (before : Bool) (xs ys : List Landing) → NoneBehind w x before xs → NoneBehind w x (before || list_any (is_landing_of x) xs) ys → NoneBehind w x before (xs ++ ys)
none_append w x before [] ys first then =
    let P : Bool → Type 0 = λ b. NoneBehind w x (b || false) ys → NoneBehind w x b ys in
    (elim before as P [ true ↦ λ f. f | false ↦ λ f. f ]) then
none_append w x before (landing ∷ xs) ys first then =
    (first.0, none_append w x (before || is_landing_of x landing) xs ys first.1 (subst (λ b. NoneBehind w x b ys) (sym (or_more before (is_landing_of x landing) (list_any (is_landing_of x) xs))) then))

module _ (board : Board) (all : List Event) (w x : OpId) (word : Dword) (valid : IsValid board) (run_all : Run board all) (told : Told board all w x) (other : same_op x w ≡ false) (other_read : reads board x ≡ false) (named : Contains (words_named board w) word) where
  less_front : (e : Event) (h : List Event) → Front (e ∷ h) all → Front h all
  less_front e h front = record { later = front.later ++ e ∷ []; is = append_assoc front.later (e ∷ []) h ∙ front.is }

  -- where the other has landed in the word the write has landed
  after : (h : List Event) → Front h all → list_any (is_landing_of x) (landed board h word) ≡ true → has_landed h w ≡ true
  after [] front lands = cc
  after (e ∷ h) front lands =
      or_right (is_land_of w e) (has_landed h w)
      (or_either (has_landed h w ≡ true) (list_any (is_landing_of x) (landed board h word)) (list_any (is_landing_of x) (brought board h word e))
      (λ old. after h (less_front e h front) old)
      (λ new. event_after board valid w told.0 word named h all e x run_all front told other_read other new)
      (sym (list_any-append (is_landing_of x) (landed board h word) (brought board h word e)) ∙ lands))

  firsts : (h : List Event) → Front h all → StandsBehind w x false (landed board h word)
  firsts [] front = tt
  firsts (e ∷ h) front =
      let old = landed board h word in
      let new = brought board h word e in
      let run : Run board (e ∷ h) = front_run board (e ∷ h) all front run_all in
      let P : Bool → Type 0 = λ b. list_any (is_landing_of x) new ≡ b → StandsBehind w x (list_any (is_landing_of w) old) new in
      let then : StandsBehind w x (list_any (is_landing_of w) old) new = (elim (list_any (is_landing_of x) new) as P [
        | true ↦ λ lands.
            let whole = event_after board valid w told.0 word named h all e x run_all front told other_read other lands in
            let some : list_any (is_landing_of w) old ≡ true = named_lands board h w word valid run.1 told.0 named whole in
            subst (λ b. StandsBehind w x b new) (sym some) (stands_sure w x new)
        | false ↦ λ none. stands_none w x (list_any (is_landing_of w) old) new none
      ]) refl in
      stands_append w x false old new (firsts h (less_front e h front)) then

  lasts : is_posted_op board w ≡ true → (h : List Event) → Front h all → NoneBehind w x false (landed board h word)
  lasts posted [] front = tt
  lasts posted (e ∷ h) front =
      let old = landed board h word in
      let new = brought board h word e in
      let run : Run board (e ∷ h) = front_run board (e ∷ h) all front run_all in
      let Goal : Type 0 = NoneBehind w x (list_any (is_landing_of x) old) new in
      let P : Bool → Type 0 = λ b. list_any (is_landing_of w) new ≡ b → Goal in
      let Q : Bool → Type 0 = λ b. list_any (is_landing_of x) old ≡ b → list_any (is_landing_of w) new ≡ true → NoneBehind w x b new in
      let R : Bool → Type 0 = λ b. list_any (is_landing_of x) new ≡ b → list_any (is_landing_of w) new ≡ true → NoneBehind w x false new in
      let then : Goal = (elim (list_any (is_landing_of w) new) as P [
        | false ↦ λ none. none_sure w x (list_any (is_landing_of x) old) new none
        | true ↦ λ brings_w. (elim (list_any (is_landing_of x) old) as Q [
          | true ↦ λ seen again. posted_once board valid h e w word posted run (after h (less_front e h front) seen) again (NoneBehind w x true new)
          | false ↦ λ _ again. (elim (list_any (is_landing_of x) new) as R [
            | true ↦ λ brings_x brings_it.
                let whole = event_after board valid w told.0 word named h all e x run_all front told other_read other brings_x in
                posted_once board valid h e w word posted run whole brings_it (NoneBehind w x false new)
            | false ↦ λ none _. none_yet w x new none
          ]) refl again
        ]) refl brings_w
      ]) refl in
      none_append w x false old new (lasts posted h (less_front e h front)) then

pub told_first : (board : Board) (h : List Event) (w x : OpId) (word : Dword) → IsValid board → Run board h → Told board h w x → same_op x w ≡ false → reads board x ≡ false → Contains (words_named board w) word → StandsBehind w x false (landed board h word)
told_first board h w x word valid run told other writes named = firsts board h w x word valid run told other writes named h (record { later = []; is = refl })

pub told_last : (board : Board) (h : List Event) (w x : OpId) (word : Dword) → IsValid board → Run board h → Told board h w x → same_op x w ≡ false → reads board x ≡ false → Contains (words_named board w) word → is_posted_op board w ≡ true → NoneBehind w x false (landed board h word)
told_last board h w x word valid run told other writes named posted = lasts board h w x word valid run told other writes named posted h (record { later = []; is = refl })
