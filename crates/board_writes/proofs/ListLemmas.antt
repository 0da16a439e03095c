-- The polls of a board are listed, program by program.
use Rattle.std.proofs.Common.{◌≡◌, ℕ, ◌+◌, ◌<◌, ◌≤◌, Bool, true, false, nat_lt, List, [], ◌∷◌, ◌++◌, length, slice_get, Contains, Option, Some, None, refl, sym, ap, subst, ◌∙◌, arith, ⊎_elim, ◌⊎◌, inl, inr}
use Rattle.std.specs.Option.{option_map_or}
use Rattle.std.proofs.lemmas.Bool.Decides.{nat_tests}
use Rattle.std.proofs.lemmas.List.Elements.{Contains-append_left, Contains-push, Contains-push_cases}
use Rattle.std.proofs.lemmas.Option.{slice_get_past, slice_get_within}
use Rattle.list_facts.proofs.TestLemmas.{list_all-get}
use Rattle.pci_command.specs.declared.op_id.OpId.{OpId}
use Rattle.board_model.specs.Limits.{most_ops}
use Rattle.board_model.specs.declared.op.Op.{Op}
use Rattle.board_model.specs.declared.agents.Master.{Master}
use Rattle.board_model.specs.declared.board.Board.{Board}
use Rattle.board_model.specs.Requests.{op_of}
use Rattle.board_model.specs.Valid.{IsValid}
use Rattle.board_model.specs.WellFormed.{is_well_formed_master}
use Rattle.board_model.proofs.Laws.{Master-parts, WellFormed-parts}
use Rattle.safe_model.specs.Clocks.{is_poll, at_place}
use Rattle.board_writes.specs.Rows.{ops_at, is_tried, is_tried_at}
use Rattle.board_writes.specs.Listed.{ListsPolls, IsAmong, AddsPolls}
use Rattle.board_writes.proofs.StartLemmas.{tried_is}

-- a program has at most 1,024 operations
pub few_at : (board : Board) (number : ℕ) (agent : Master) → IsValid board → slice_get board.masters number ≡ Some agent → length agent.ops ≤ most_ops
few_at board number agent valid there =
    (Master-parts agent (list_all-get is_well_formed_master board.masters number agent (WellFormed-parts board valid.well_formed).masters there)).few

-- A program.

pub adds_none : (master : ℕ) (program : List Op) (ops : List OpId) → AddsPolls master program 0 ops ops
adds_none master program ops =
    record {
      kept = λ o among. among;
      added = λ o among. let below = among.1 in absurd (omega (arith, below));
      only = λ o among. inl among;
    }

next_place : (count i : ℕ) → i < count + 1 → (i < count) ⊎ (i ≡ count)
next_place count i below =
    let P : Bool → Type 0 = λ t. nat_lt i count ≡ t → (i < count) ⊎ (i ≡ count) in
    (elim (nat_lt i count) as P [
      | true ↦ λ lt. inl (grind (arith, nat_tests))
      | false ↦ λ ge. let past : count ≤ i = grind (arith, nat_tests) in inr (omega (arith, below, past))
    ]) refl

module _ (master : ℕ) (program : List Op) (place : ℕ) (op : Op) (old now : List OpId) (at : slice_get program place ≡ Some op) (adds : AddsPolls master program place old now) where
  earlier : (o : OpId) → IsAmong master program place o → IsAmong master program (place + 1) o
  earlier o among = let below = among.1 in (among.0, omega (arith, below), among.2, among.3)

  pub adds_poll : is_tried op ≡ true → AddsPolls master program (place + 1) old (now ++ at_place master place ∷ [])
  adds_poll tried =
      let poll : OpId = at_place master place in
      record {
        kept = λ o among. Contains-append_left now (poll ∷ []) o (adds.kept o among);
        added = λ o among. ⊎_elim {C = Contains (now ++ poll ∷ []) o}
            (λ (before : among.0 < place). Contains-append_left now (poll ∷ []) o (adds.added o (among.0, before, among.2, among.3)))
            (λ (here : among.0 ≡ place).
            let same : poll ≡ o = ap (at_place master) (sym here) ∙ among.3 in
            subst (λ q. Contains (now ++ poll ∷ []) q) same (Contains-push now poll))
            (next_place place among.0 among.1);
        only = λ o among. ⊎_elim {C = Contains old o ⊎ IsAmong master program (place + 1) o}
            (λ (before : Contains now o). ⊎_elim {C = Contains old o ⊎ IsAmong master program (place + 1) o}
            (λ (older : Contains old o). inl older)
            (λ (found : IsAmong master program place o). inr (earlier o found))
            (adds.only o before))
            (λ (here : poll ≡ o). inr (place, omega arith, ap is_tried_at at ∙ tried, here))
            (Contains-push_cases now poll o among);
      }

  pub adds_other : is_tried op ≡ false → AddsPolls master program (place + 1) old now
  adds_other none =
      record {
        kept = adds.kept;
        added = λ o among. ⊎_elim {C = Contains now o}
            (λ (before : among.0 < place). adds.added o (among.0, before, among.2, among.3))
            (λ (here : among.0 ≡ place).
            let tried : is_tried_at (slice_get program place) ≡ true = subst (λ i. is_tried_at (slice_get program i) ≡ true) here among.2 in
            let not_tried : is_tried_at (slice_get program place) ≡ false = ap is_tried_at at ∙ none in
            cc)
            (next_place place among.0 among.1);
        only = λ o among. ⊎_elim {C = Contains old o ⊎ IsAmong master program (place + 1) o}
            (λ (older : Contains old o). inl older)
            (λ (found : IsAmong master program place o). inr (earlier o found))
            (adds.only o among);
      }

pub adds_all : (master : ℕ) (program : List Op) (place : ℕ) (old now : List OpId) → length program ≤ place → place ≤ length program → AddsPolls master program place old now → AddsPolls master program (length program) old now
adds_all master program place old now past within adds =
    let same : place ≡ length program = omega (arith, past, within) in
    subst (λ n. AddsPolls master program n old now) same adds

-- All programs.

-- the polls of the first so many masters are listed
pub record ListsTo (board : Board) (ops : List OpId) (number : ℕ) : Type 0 where
  pub are : (o : OpId) → Contains ops o → is_poll (op_of board o) ≡ true
  pub first : (o : OpId) → Contains ops o → o.attempt ≡ 0
  pub all : (master index : ℕ) → master < number → is_poll (op_of board (at_place master index)) ≡ true → Contains ops (at_place master index)

pub lists_none : (board : Board) (ops : List OpId) → ops ≡ [] → ListsTo board ops 0
lists_none board ops none =
    subst (λ os. ListsTo board os 0) (sym none)
    (record {
      are = λ o among. let below = among.1 in absurd (omega (arith, below));
      first = λ o among. let below = among.1 in absurd (omega (arith, below));
      all = λ master index below. absurd (omega (arith, below));
    })

there_within : (program : List Op) (index : ℕ) → is_tried_at (slice_get program index) ≡ true → index < length program
there_within program index is =
    let P : Option Op → Type 0 = λ found. slice_get program index ≡ found → is_tried_at found ≡ true → index < length program in
    (elim (slice_get program index) as P [
      | None ↦ λ _ e. cc
      | Some op ↦ λ there _. slice_get_within program index op there
    ]) refl is

pub lists_next : (board : Board) (number : ℕ) (agent : Master) (old new : List OpId) → slice_get board.masters number ≡ Some agent → ListsTo board old number → AddsPolls number agent.ops (length agent.ops) old new → ListsTo board new (number + 1)
lists_next board number agent old new there lists adds =
    let ops : ops_at board number ≡ agent.ops = ap (λ (found : Option Master). option_map_or (λ (m : Master). m.ops) found []) there in
    let tried : (index : ℕ) → is_poll (op_of board (at_place number index)) ≡ is_tried_at (slice_get agent.ops index) = λ index.
    tried_is board number index ∙ ap (λ os. is_tried_at (slice_get os index)) ops in
    record {
      are = λ o among. ⊎_elim {C = is_poll (op_of board o) ≡ true}
          (λ (older : Contains old o). lists.are o older)
          (λ (found : IsAmong number agent.ops (length agent.ops) o). subst (λ q. is_poll (op_of board q) ≡ true) found.3 (tried found.0 ∙ found.2))
          (adds.only o among);
      first = λ o among. ⊎_elim {C = o.attempt ≡ 0}
          (λ (older : Contains old o). lists.first o older)
          (λ (found : IsAmong number agent.ops (length agent.ops) o). sym (ap (λ (q : OpId). q.attempt) found.3))
          (adds.only o among);
      all = λ master index below is. ⊎_elim {C = Contains new (at_place master index)}
          (λ (earlier_master : master < number). adds.kept (at_place master index) (lists.all master index earlier_master is))
          (λ (here : master ≡ number).
          let is_here : is_tried_at (slice_get agent.ops index) ≡ true = sym (tried index) ∙ subst (λ m. is_poll (op_of board (at_place m index)) ≡ true) here is in
          adds.added (at_place master index) (index, there_within agent.ops index is_here, is_here, ap (λ m. at_place m index) (sym here)))
          (next_place number master below);
    }

pub lists_all : (board : Board) (ops : List OpId) (number : ℕ) → length board.masters ≤ number → ListsTo board ops number → ListsPolls board ops
lists_all board ops number past lists =
    record {
      are = lists.are;
      first = lists.first;
      all = λ master index is.
          let P : Bool → Type 0 = λ b. nat_lt master number ≡ b → Contains ops (at_place master index) in
          (elim (nat_lt master number) as P [
            | true ↦ λ lt. lists.all master index (grind (arith, nat_tests)) is
            | false ↦ λ ge.
                let beyond : number ≤ master = grind (arith, nat_tests) in
                let none : ops_at board master ≡ [] = ap (λ (found : Option Master). option_map_or (λ (m : Master). m.ops) found []) (slice_get_past board.masters master (omega (arith, beyond, past))) in
                let is_here : is_tried_at (slice_get (ops_at board master) index) ≡ true = sym (tried_is board master index) ∙ is in
                let nothing : is_tried_at (slice_get (ops_at board master) index) ≡ false = ap (λ os. is_tried_at (slice_get os index)) none in
                cc
          ]) refl;
    }

-- What each function wants.

pub ruleset of_program = (adds_none, adds_all)

pub ruleset of_board = (lists_none, lists_all)
