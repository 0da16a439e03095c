-- What is noted down stands for one event more.
use Rattle.std.proofs.Common.{◌≡◌, ◌<◌, ◌≤◌, ℕ, zero, suc, ◌+◌, ◌-◌, max, Bool, true, false, ◌&&◌, ◌==◌, cond, eqb, eqb-true, nat_lt, length, map, replicate, slice_get, List, [], ◌∷◌, ◌++◌, Option, Some, None, is_some, refl, sym, ap, subst, ◌∙◌, arith, length-append}
use Rattle.std.specs.Option.{option_map}
use Rattle.std.proofs.Math.ListN.{get_or-map, get_or-append, get_or-eq_default}
use Rattle.std.proofs.Math.Seq.{get_or-append_right}
use Rattle.std.proofs.lemmas.List.{length-replicate, get_or-replicate}
use Rattle.std.proofs.lemmas.Option.{slice_get_past, slice_get-get_or, slice_get_within}
use Rattle.std.proofs.lemmas.Bool.Decides.{nat_tests}
use Rattle.pci_command.specs.declared.op_id.OpId.{OpId}
use Rattle.pci_command.specs.Same.{same_op}
use Rattle.board_model.specs.declared.board.Board.{Board}
use Rattle.board_model.specs.declared.bridge.Place.{Place}
use Rattle.board_model.specs.Requests.{op_of}
use Rattle.board_model.specs.Valid.{IsValid}
use Rattle.history_model.specs.declared.event.By.TheVariants.{Master, Lane as ByLane}
use Rattle.history_model.specs.declared.event.Step.{Step}
use Rattle.history_model.specs.declared.event.Event.{Event}
use Rattle.history_model.specs.declared.event.Event.TheVariants.{Act, Arrive}
use Rattle.history_model.specs.declared.rule.Rule.TheVariants.{Tagged}
use Rattle.history_model.specs.Program.{Ending, ended, turn_of}
use Rattle.history_model.specs.Knowledge.{value_in, is_write}
use Rattle.history_model.specs.Runs.{Run}
use Rattle.history_model.proofs.facts.WantsLemmas.{wants-turn}
use Rattle.law_fresh.proofs.Laws.{turn_is_there}
use Rattle.law_fresh.proofs.reads.Laws.{master_there}
use Rattle.law_fresh.specs.Aware.{brings, first_known, aware_of}
use Rattle.law_fresh.proofs.Laws.{ends_turn}
use Rattle.law_audit.specs.Clocks.{Clocks, clocks_of, known_after, value_tells}
use Rattle.law_audit.proofs.ClockLemmas.{known_reaches}
use Rattle.audit_clocks.specs.Rows.{number, own, row, reached}
use Rattle.audit_clocks.specs.Tables.{value_of, numbers_of, list_in}
use Rattle.audit_clocks.specs.Clocks.{ClockState, Presented, Ended, known_at, since_at, told_at}
use Rattle.audit_text.specs.declared.readings.Reading.{Reading}
use Rattle.audit_landings.proofs.Laws.{landings_first, same_stand}
use Rattle.audit_text.specs.Notes.{Notes, no_notes, Presents, EndsSo, Ends, ended_of, Happens}
use Rattle.audit_text.specs.Stands.{StandsFor}
use Rattle.audit_text.proofs.ReadLemmas.{AfterRead, event_read, event_got}

-- an operation that is there has a master
pub master_within : (board : Board) (o : OpId) → is_some (op_of board o) ≡ true → o.master < length board.masters
master_within board o there =
    let P : Option Rattle.board_model.specs.declared.op.Op.Op → Type 0 = λ found. op_of board o ≡ found → is_some found ≡ true → o.master < length board.masters in
    (elim (op_of board o) as P [
      | None ↦ λ _ f. cc
      | Some op ↦ λ is _. let master = master_there board o op is in slice_get_within board.masters o.master master.0 master.1
    ]) refl there

pub write_within : (board : Board) (w : OpId) → is_write board w ≡ true → w.master < length board.masters
write_within board w is = master_within board w (Rattle.std.proofs.lemmas.Bool.and_parts (is_some (op_of board w)) _ is).0

-- a row that reaches a count
reached_length : (o : OpId) (count : ℕ) (old : List OpId) → length (reached o count old) ≡ max (length old) count
reached_length o count old =
    length-append old (replicate (count - length old) o) ∙ ap (λ n. length old + n) (length-replicate (count - length old) o) ∙ omega arith

reached_front : (o : OpId) (count i : ℕ) (old : List OpId) → i < length old → slice_get (reached o count old) i ≡ slice_get old i
reached_front o count i old within =
    let more : List OpId = replicate (count - length old) o in
    let longer : i < length (old ++ more) = rw (length-append old more) (omega (arith, within)) in
    slice_get-get_or (old ++ more) i o longer ∙ ap Some (get_or-append old more o i within) ∙ sym (slice_get-get_or old i o within)

reached_new : (o : OpId) (count i : ℕ) (old : List OpId) → length old ≤ i → i < count → slice_get (reached o count old) i ≡ Some o
reached_new o count i old behind within =
    let more : List OpId = replicate (count - length old) o in
    let longer : i < length (old ++ more) = rw (length-append old more, length-replicate (count - length old) o) (omega (arith, behind, within)) in
    slice_get-get_or (old ++ more) i o longer
    ∙ ap Some (get_or-append_right old more i o behind ∙ get_or-replicate (count - length old) (i - length old) o o (omega (arith, behind, within)))

module _ (board : Board) (valid : IsValid board) (h : List Event) (notes : Notes) (stands : StandsFor board h notes) where
  abbrev M : ℕ
  M = length board.masters

  -- who presents
  record AfterStart (e : Event) (old new : ClockState) : Type 0 where
    known : new.known ≡ old.known
    taught : new.taught ≡ old.taught
    starts : (o : OpId) (author : ℕ) → author < M → number (numbers_of o new.starts) author ≡ (clocks_of board (e ∷ h)).start o author

  master_presents : (on : ℕ) (p : OpId) (step : Step) (place : Place) (old new : ClockState) → Run board (Act on Master p step place ∷ h) → old.known ≡ notes.clocks.known → old.starts ≡ notes.clocks.starts
      → Presented p old new → AfterStart (Act on Master p step place) old new
  master_presents on p step place old new run same_known same_starts so =
      let turn : turn_of board h p.master ≡ Some p = wants-turn board h on p run.0.0 in
      let within : p.master < M = master_within board p (turn_is_there board h p turn) in
      let inside : p.master < length old.known = subst (λ (k : List (List (List OpId))). p.master < length k) (sym same_known) (subst (λ n. p.master < n) (sym stands.masters) within) in
      let clocks : Clocks = clocks_of board h in
      record {
        known = so.known;
        taught = so.taught;
        starts = λ o author below.
            let mine : List (List OpId) = known_at old.known p.master in
            let Q : Bool → Type 0 = λ b. number (list_in (cond b (Some (map length mine)) (value_of o old.starts))) author ≡ (cond b (clocks.known p.master) (clocks.start o)) author in
            ap (λ found. number (list_in found) author) ((so.starts inside).each o)
            ∙ (elim (same_op p o) as Q [
              | true ↦ get_or-map (λ (xs : List OpId). length xs) mine author [] ∙ ap (λ (k : List (List (List OpId))). length (row (known_at k p.master) author)) same_known ∙ stands.known p.master author within below
              | false ↦ ap (λ (s : List (OpId × List ℕ)). number (numbers_of o s) author) same_starts ∙ stands.starts o author below
            ]);
      }

  nobody_presents : (e : Event) (old new : ClockState) → ((o : OpId) (author : ℕ) → (clocks_of board (e ∷ h)).start o author ≡ (clocks_of board h).start o author) → old.starts ≡ notes.clocks.starts → new ≡ old → AfterStart e old new
  nobody_presents e old new still same_starts same =
      record {
        known = ap (λ (c : ClockState). c.known) same;
        taught = ap (λ (c : ClockState). c.taught) same;
        starts = λ o author below. ap (λ (c : ClockState). number (numbers_of o c.starts) author) same ∙ ap (λ (s : List (OpId × List ℕ)). number (numbers_of o s) author) same_starts ∙ stands.starts o author below ∙ sym (still o author);
      }

  event_starts : (e : Event) (old new : ClockState) → Run board (e ∷ h) → old.known ≡ notes.clocks.known → old.starts ≡ notes.clocks.starts → Presents e old new → AfterStart e old new
  event_starts (Act on Master p step place) old new run same_known same_starts so = master_presents on p step place old new run same_known same_starts so
  event_starts (Act on (ByLane lane) p step place) old new run same_known same_starts so = nobody_presents (Act on (ByLane lane) p step place) old new (λ o author. refl) same_starts so
  event_starts (Arrive lane mark) old new run same_known same_starts so = nobody_presents (Arrive lane mark) old new (λ o author. refl) same_starts so

  -- what ends
  record AfterEnd (e : Event) (new : ClockState) : Type 0 where
    masters : length new.known ≡ M
    authors : (master : ℕ) → master < M → length (known_at new.known master) ≡ M
    known : (master author : ℕ) → master < M → author < M → length (row (known_at new.known master) author) ≡ (clocks_of board (e ∷ h)).known master author
    since : (w : OpId) (master : ℕ) → is_write board w ≡ true → since_at new.known master w ≡ (aware_of board w (e ∷ h)).since master
    starts : (o : OpId) (author : ℕ) → author < M → number (numbers_of o new.starts) author ≡ (clocks_of board (e ∷ h)).start o author
    taught : (o : OpId) (author : ℕ) → author < M → number (numbers_of o new.taught) author ≡ (clocks_of board (e ∷ h)).taught o author

  first_none : (since : Option OpId) (master : ℕ) (w : OpId) (taught : OpId → Bool) → first_known since master w taught None ≡ since
  first_none None master w taught = refl
  first_none (Some p) master w taught = refl

  first_other : (since : Option OpId) (master : ℕ) (w : OpId) (taught : OpId → Bool) (ending : Ending) → (ending.op.master == master) ≡ false → first_known since master w taught (Some ending) ≡ since
  first_other (Some p) master w taught ending other = refl
  first_other None master w taught ending other = rw other refl

  first_there : (since : Option OpId) (master : ℕ) (w : OpId) (taught : OpId → Bool) (ending : Ending) → since ≡ None → is_some (first_known since master w taught (Some ending)) ≡ true → first_known since master w taught (Some ending) ≡ Some ending.op
  first_there (Some p) master w taught ending none is = cc
  first_there None master w taught ending none is =
      let P : Bool → Type 0 = λ b. is_some (cond b (Some ending.op) None) ≡ true → cond b (Some ending.op) None ≡ Some ending.op in
      (elim (ending.op.master == master && brings w (taught ending.op) ending) as P [ true ↦ λ _. refl | false ↦ λ f. cc ]) is

  none_is : (found : Option OpId) → is_some found ≡ false → found ≡ None
  none_is None is = refl
  none_is (Some p) is = cc

  no_number : (author : ℕ) → number [] author ≡ 0
  no_number zero = refl
  no_number (suc n) = refl

  nothing_ends : (e : Event) (old new : ClockState) → ended e ≡ None → old.known ≡ notes.clocks.known
      → ((o : OpId) (author : ℕ) → author < M → number (numbers_of o old.starts) author ≡ (clocks_of board (e ∷ h)).start o author)
      → ((o : OpId) (author : ℕ) → author < M → number (numbers_of o old.taught) author ≡ (clocks_of board (e ∷ h)).taught o author)
      → new ≡ old → AfterEnd e new
  nothing_ends e old new none same_known starts taught same =
      let known : new.known ≡ notes.clocks.known = ap (λ (c : ClockState). c.known) same ∙ same_known in
      let clocks : Clocks = clocks_of board h in
      let taught_next : OpId → ℕ → ℕ = (clocks_of board (e ∷ h)).taught in
      record {
        masters = ap (λ (k : List (List (List OpId))). length k) known ∙ stands.masters;
        authors = λ master within. ap (λ (k : List (List (List OpId))). length (known_at k master)) known ∙ stands.authors master within;
        known = λ master author within below.
            ap (λ (k : List (List (List OpId))). length (row (known_at k master) author)) known ∙ stands.known master author within below
            ∙ sym (ap (λ found. known_after master (clocks.known master) taught_next found author) none);
        since = λ w master is.
            ap (λ (k : List (List (List OpId))). since_at k master w) known ∙ stands.since w master is
            ∙ sym (ap (λ found. first_known ((aware_of board w h).since master) master w (aware_of board w (e ∷ h)).taught found) none ∙ first_none ((aware_of board w h).since master) master w (aware_of board w (e ∷ h)).taught);
        starts = λ o author below. ap (λ (c : ClockState). number (numbers_of o c.starts) author) same ∙ starts o author below;
        taught = λ o author below. ap (λ (c : ClockState). number (numbers_of o c.taught) author) same ∙ taught o author below;
      }

  module _ (e : Event) (ending : Ending) (old new : ClockState) (run : Run board (e ∷ h)) (is : ended e ≡ Some ending) (same_known : old.known ≡ notes.clocks.known)
      (taught : (o : OpId) (author : ℕ) → author < M → number (numbers_of o old.taught) author ≡ (clocks_of board (e ∷ h)).taught o author)
      (so : Ended ending.op (is_some (value_in ending.outcome)) old new) where
    abbrev mine : ℕ
    mine = ending.op.master

    abbrev told : ℕ → ℕ
    told author = number (list_in (told_at old.taught ending.op (is_some (value_in ending.outcome)))) author

    mine_within : mine < M
    mine_within = master_within board ending.op (turn_is_there board h ending.op (ends_turn Tagged board e h ending run is))

    told_is : (author : ℕ) → author < M → told author ≡ value_tells ending.outcome ((clocks_of board (e ∷ h)).taught ending.op author)
    told_is author below =
        let P : Bool → Type 0 = λ b. number (list_in (cond b (value_of ending.op old.taught) None)) author ≡ cond b ((clocks_of board (e ∷ h)).taught ending.op author) 0 in
        elim (is_some (value_in ending.outcome)) as P [ true ↦ taught ending.op author below | false ↦ no_number author ]

    -- the row of the master whose operation ended
    row_is : (author : ℕ) → author < M → row (known_at new.known mine) author ≡ reached ending.op (max (told author) (own ending.op author)) (row (known_at notes.clocks.known mine) author)
    row_is author below =
        let inside : mine < length old.known = subst (λ (k : List (List (List OpId))). mine < length k) (sym same_known) (subst (λ n. mine < n) (sym stands.masters) mine_within) in
        let beside : author < length (known_at old.known mine) =
        subst (λ (k : List (List (List OpId))). author < length (known_at k mine)) (sym same_known) (subst (λ n. author < n) (sym (stands.authors mine mine_within)) below) in
        so.learns.known author inside beside ∙ ap (λ (k : List (List (List OpId))). reached ending.op (max (told author) (own ending.op author)) (row (known_at k mine) author)) same_known

    length_is : (author : ℕ) → author < M → length (row (known_at new.known mine) author) ≡ (clocks_of board (e ∷ h)).known mine author
    length_is author below =
        let clocks : Clocks = clocks_of board h in
        let k : ℕ = clocks.known mine author in
        let v : ℕ = value_tells ending.outcome ((clocks_of board (e ∷ h)).taught ending.op author) in
        let n : ℕ = own ending.op author in
        let self : eqb mine mine ≡ true = grind (arith, nat_tests) in
        let assoc : max k (max v n) ≡ max (max k v) n = omega arith in
        ap (λ xs. length xs) (row_is author below)
        ∙ reached_length ending.op (max (told author) n) (row (known_at notes.clocks.known mine) author)
        ∙ ap (λ m. max m (max (told author) n)) (stands.known mine author mine_within below)
        ∙ ap (λ m. max k (max m n)) (told_is author below)
        ∙ assoc
        ∙ sym (ap (λ found. known_after mine (clocks.known mine) (clocks_of board (e ∷ h)).taught found author) is ∙ rw self refl)

    other_master : (master : ℕ) → (mine == master) ≡ false → known_at new.known master ≡ known_at notes.clocks.known master
    other_master master other = so.learns.others master other ∙ ap (λ (k : List (List (List OpId))). known_at k master) same_known

    known_is : (master author : ℕ) → master < M → author < M → length (row (known_at new.known master) author) ≡ (clocks_of board (e ∷ h)).known master author
    known_is master author within below =
        let clocks : Clocks = clocks_of board h in
        let P : Bool → Type 0 = λ b. eqb mine master ≡ b → length (row (known_at new.known master) author) ≡ (clocks_of board (e ∷ h)).known master author in
        (elim (eqb mine master) as P [
          | true ↦ λ same. subst (λ m. length (row (known_at new.known m) author) ≡ (clocks_of board (e ∷ h)).known m author) (eqb-true mine master same) (length_is author below)
          | false ↦ λ other.
              ap (λ rows. length (row rows author)) (other_master master other) ∙ stands.known master author within below
              ∙ sym (ap (λ found. known_after master (clocks.known master) (clocks_of board (e ∷ h)).taught found author) is ∙ rw other refl)
        ]) refl

    since_mine : (w : OpId) → is_write board w ≡ true → since_at new.known mine w ≡ (aware_of board w (e ∷ h)).since mine
    since_mine w writes =
        let below : w.master < M = write_within board w writes in
        let since : Option OpId = (aware_of board w h).since mine in
        let next : Option OpId = (aware_of board w (e ∷ h)).since mine in
        let taught_w : OpId → Bool = (aware_of board w (e ∷ h)).taught in
        let old_row : List OpId = row (known_at notes.clocks.known mine) w.master in
        let count : ℕ = max (told w.master) (own ending.op w.master) in
        let next_is : next ≡ first_known since mine w taught_w (Some ending) = ap (λ found. first_known since mine w taught_w found) is in
        let was : slice_get old_row w.index ≡ since = stands.since w mine writes in
        let new_row : since_at new.known mine w ≡ slice_get (reached ending.op count old_row) w.index = ap (λ xs. slice_get xs w.index) (row_is w.master below) in
        let law : is_some next ≡ nat_lt w.index (length (reached ending.op count old_row)) =
        known_reaches board valid (e ∷ h) w mine run writes ∙ ap (λ n. nat_lt w.index n) (sym (length_is w.master below) ∙ ap (λ xs. length xs) (row_is w.master below)) in
        let P : Bool → Type 0 = λ b. nat_lt w.index (length old_row) ≡ b → slice_get (reached ending.op count old_row) w.index ≡ next in
        new_row ∙ (elim (nat_lt w.index (length old_row)) as P [
          | true ↦ λ inside.
              let lower : w.index < length old_row = grind (arith, nat_tests) in
              let kept : slice_get (reached ending.op count old_row) w.index ≡ since = reached_front ending.op count w.index old_row lower ∙ was in
              let Q : Option OpId → Type 0 = λ found. since ≡ found → slice_get old_row w.index ≡ found → first_known found mine w taught_w (Some ending) ≡ found in
              let there : first_known since mine w taught_w (Some ending) ≡ since = (elim since as Q [
                | Some p ↦ λ _ _. refl
                | None ↦ λ _ none. let some = slice_get-get_or old_row w.index w lower in cc
              ]) refl was in
              kept ∙ sym (next_is ∙ there)
          | false ↦ λ outside.
              let behind : length old_row ≤ w.index = grind (arith, nat_tests) in
              let none : since ≡ None = sym was ∙ slice_get_past old_row w.index behind in
              let Q : Bool → Type 0 = λ b. nat_lt w.index (length (reached ending.op count old_row)) ≡ b → slice_get (reached ending.op count old_row) w.index ≡ next in
              (elim (nat_lt w.index (length (reached ending.op count old_row))) as Q [
                | true ↦ λ reaches_it.
                    let lower : w.index < length (reached ending.op count old_row) = grind (arith, nat_tests) in
                    let within_count : w.index < count = omega (arith, lower, reached_length ending.op count old_row, behind) in
                    let some : is_some (first_known since mine w taught_w (Some ending)) ≡ true = sym (ap is_some next_is) ∙ law ∙ reaches_it in
                    reached_new ending.op count w.index old_row behind within_count ∙ sym (next_is ∙ first_there since mine w taught_w ending none some)
                | false ↦ λ past.
                    let beyond : length (reached ending.op count old_row) ≤ w.index = grind (arith, nat_tests) in
                    slice_get_past (reached ending.op count old_row) w.index beyond ∙ sym (none_is next (law ∙ past))
              ]) refl
        ]) refl

    since_is : (w : OpId) (master : ℕ) → is_write board w ≡ true → since_at new.known master w ≡ (aware_of board w (e ∷ h)).since master
    since_is w master writes =
        let P : Bool → Type 0 = λ b. eqb mine master ≡ b → since_at new.known master w ≡ (aware_of board w (e ∷ h)).since master in
        (elim (eqb mine master) as P [
          | true ↦ λ same. subst (λ m. since_at new.known m w ≡ (aware_of board w (e ∷ h)).since m) (eqb-true mine master same) (since_mine w writes)
          | false ↦ λ other.
              ap (λ rows. slice_get (row rows w.master) w.index) (other_master master other) ∙ stands.since w master writes
              ∙ sym (ap (λ found. first_known ((aware_of board w h).since master) master w (aware_of board w (e ∷ h)).taught found) is ∙ first_other ((aware_of board w h).since master) master w (aware_of board w (e ∷ h)).taught ending other)
        ]) refl

    ending_after : ((o : OpId) (author : ℕ) → author < M → number (numbers_of o old.starts) author ≡ (clocks_of board (e ∷ h)).start o author) → AfterEnd e new
    ending_after starts =
        record {
          masters = so.learns.masters ∙ ap (λ (k : List (List (List OpId))). length k) same_known ∙ stands.masters;
          authors = λ master within.
              let P : Bool → Type 0 = λ b. eqb mine master ≡ b → length (known_at new.known master) ≡ M in
              (elim (eqb mine master) as P [
                | true ↦ λ same.
                    subst (λ m. length (known_at new.known m) ≡ M) (eqb-true mine master same)
                    (so.learns.authors ∙ ap (λ (k : List (List (List OpId))). length (known_at k mine)) same_known ∙ stands.authors mine mine_within)
                | false ↦ λ other. ap (λ rows. length rows) (other_master master other) ∙ stands.authors master within
              ]) refl;
          known = known_is;
          since = since_is;
          starts = λ o author below. ap (λ (s : List (OpId × List ℕ)). number (numbers_of o s) author) so.starts ∙ starts o author below;
          taught = λ o author below. ap (λ (s : List (OpId × List ℕ)). number (numbers_of o s) author) so.taught ∙ taught o author below;
        }

  event_ends : (e : Event) (old new : ClockState) (readings : List (OpId × Reading)) (gots : List (OpId × Option Reading)) → Run board (e ∷ h) → old.known ≡ notes.clocks.known
      → ((o : OpId) (author : ℕ) → author < M → number (numbers_of o old.starts) author ≡ (clocks_of board (e ∷ h)).start o author)
      → ((o : OpId) (author : ℕ) → author < M → number (numbers_of o old.taught) author ≡ (clocks_of board (e ∷ h)).taught o author)
      → Ends (option_map ended_of (ended e)) readings old new notes.gots gots → AfterEnd e new
  event_ends e old new readings gots run same_known starts taught ends =
      let P : Option Ending → Type 0 = λ found. ended e ≡ found → Ends (option_map ended_of found) readings old new notes.gots gots → AfterEnd e new in
      (elim (ended e) as P [
        | None ↦ λ none f. nothing_ends e old new none same_known starts taught f.0
        | Some ending ↦ λ is f. let so : EndsSo (ended_of ending) readings old new notes.gots gots = f in ending_after e ending old new run is same_known taught so.ended starts
      ]) refl ends

  happened : (e : Event) (new : Notes) → Run board (e ∷ h) → Happens board (length h) e notes new → StandsFor board (e ∷ h) new
  happened e new run happens =
      let read : AfterRead board e h notes.clocks happens.read new.readings = event_read board h notes stands e happens.read new.readings happens.reads in
      let start : AfterStart e happens.read happens.presented = event_starts e happens.read happens.presented run read.known read.starts happens.presents in
      let taught : (o : OpId) (author : ℕ) → author < M → number (numbers_of o happens.presented.taught) author ≡ (clocks_of board (e ∷ h)).taught o author =
      λ o author below. ap (λ (s : List (OpId × List ℕ)). number (numbers_of o s) author) start.taught ∙ read.taught o author below in
      let end : AfterEnd e new.clocks = event_ends e happens.presented new.clocks new.readings new.gots run (start.known ∙ read.known) start.starts taught happens.ends in
      record {
        landings = happens.happened.stands h refl (same_stand board h notes.landings happens.looked happens.same stands.landings);
        readings = read.readings_are;
        gots = event_got board h notes stands e happens.presented new.clocks new.readings new.gots read.readings_are happens.ends;
        masters = end.masters;
        authors = end.authors;
        known = end.known;
        starts = end.starts;
        taught = end.taught;
        since = end.since;
      }

  pub stands_next : (e : Event) (index : ℕ) (new : Notes) → Run board (e ∷ h) → index ≡ length h → Happens board index e notes new → StandsFor board (e ∷ h) new
  stands_next e index new run is happens = happened e new run (subst (λ n. Happens board n e notes new) is happens)

-- before the first event
pub stands_first : (board : Board) (notes : Notes) → notes ≡ no_notes (length board.masters) → StandsFor board [] notes
stands_first board notes is =
    let M : ℕ = length board.masters in
    let none : List (List OpId) = replicate M [] in
    let rows : (master : ℕ) → master < M → known_at (replicate M none) master ≡ none = λ master within. get_or-replicate M master none [] within in
    subst (StandsFor board []) (sym is) (record {
      landings = landings_first board;
      readings = λ o. refl;
      gots = λ o. refl;
      masters = length-replicate M none;
      authors = λ master within. ap (λ xs. length xs) (rows master within) ∙ length-replicate M [];
      known = λ master author within below. ap (λ xs. length (row xs author)) (rows master within) ∙ ap (λ xs. length xs) (get_or-replicate M author [] [] below);
      starts = λ o author below. no_counts author;
      taught = λ o author below. no_counts author;
      since = λ w master writes.
          let P : Bool → Type 0 = λ b. nat_lt master M ≡ b → since_at (replicate M none) master w ≡ None in
          let inside : w.master < M = write_within board w writes in
          (elim (nat_lt master M) as P [
            | true ↦ λ below.
                let within : master < M = grind (arith, nat_tests) in
                ap (λ xs. slice_get (row xs w.master) w.index) (rows master within) ∙ ap (λ xs. slice_get xs w.index) (get_or-replicate M w.master [] [] inside)
            | false ↦ λ past.
                let beyond : M ≤ master = grind (arith, nat_tests) in
                ap (λ xs. slice_get (row xs w.master) w.index) (past_end (replicate M none) master (rw (length-replicate M none) beyond)) ∙ ap (λ xs. slice_get xs w.index) (no_row w.master)
          ]) refl;
    })
  where
    no_counts : (author : ℕ) → number [] author ≡ 0
    no_counts zero = refl
    no_counts (suc n) = refl

    no_row : (author : ℕ) → row [] author ≡ []
    no_row zero = refl
    no_row (suc n) = refl

    past_end : (xs : List (List (List OpId))) (i : ℕ) → length xs ≤ i → known_at xs i ≡ []
    past_end xs i beyond = get_or-eq_default xs [] beyond
