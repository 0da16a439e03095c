-- Each read whose master knew of a write of its word before is found.
use Rattle.std.proofs.Common.{◌≡◌, ℕ, true, false, List, [], ◌∷◌, ◌++◌, map, reverse, Option, Some, None, is_some, Contains, refl, sym, ap, subst, ◌∙◌}
use Rattle.std.specs.List.{find, list_any}
use Rattle.std.proofs.lemmas.List.Elements.{Contains-append_left, Contains-push}
use Rattle.list_facts.proofs.AnyLemmas.{any_some}
use Rattle.list_facts.proofs.EachLemmas.{Each-find}
use Rattle.list_facts.proofs.FindLemmas.{find_passes}
use Rattle.pci_command.specs.declared.op_id.OpId.{OpId}
use Rattle.pci_command.specs.declared.op_id.Outcome.{Outcome}
use Rattle.pci_command.specs.declared.op_id.Outcome.TheVariants.{Value, Written, Aborted, Nobody}
use Rattle.board_model.specs.declared.board.Board.{Board}
use Rattle.board_model.specs.Valid.{IsValid}
use Rattle.history_model.specs.declared.event.Event.{Event}
use Rattle.history_model.specs.Program.{ended}
use Rattle.history_model.specs.Words.{Landing, landed}
use Rattle.history_model.specs.Knowledge.{value_in, value_of_ending, ends_as, ends_with, Reading, got, has_landed, is_landing_of, words_named}
use Rattle.history_model.specs.Runs.{Run}
use Rattle.history_model.proofs.facts.RequestLemmas.{same_op_true}
use Rattle.law_fresh.specs.Aware.{knows, aware_of}
use Rattle.law_fresh.specs.Told.{was_told}
use Rattle.law_fresh.proofs.Laws.{Fresh-run, known_told, ends_as_ended, Front, front_run}
use Rattle.law_delivered.proofs.Laws.{named_lands}
use Rattle.law_audit.specs.Chains.{op_in}
use Rattle.law_audit.specs.Audit.{is_known_by, finding_of, findings_by, findings_in}
use Rattle.law_audit.specs.Sound.{Knew, reads_found, AreAll}
use Rattle.law_audit.proofs.LaterLemmas.{GotAt, got_at, got_front, split_later}
use Rattle.law_audit.proofs.KnewLemmas.{knew_knows}
use Rattle.law_audit.proofs.OnceLemmas.{read_of, reads_in, reads_more}
use Rattle.law_audit.proofs.SoundLemmas.{none_last, knew_now}

-- what ends with a value ends so
valued : (outcome : Outcome) → is_some (value_in outcome) ≡ true → (value : ℕ) × (outcome ≡ Value value)
valued (Value value) is = (value, refl)
valued Written is = cc
valued Aborted is = cc
valued Nobody is = cc

ends_value : (r : OpId) (e : Event) → is_some (ends_with r e) ≡ true → (value : ℕ) × (ended e ≡ Some (record { op = r; outcome = Value value }))
ends_value r e is =
    let P : Option Outcome → Type 0 = λ given. ends_as r e ≡ given → is_some (value_of_ending given) ≡ true → (value : ℕ) × (ended e ≡ Some (record { op = r; outcome = Value value })) in
    (elim (ends_as r e) as P [
      | None ↦ λ _ f. cc
      | Some outcome ↦ λ some f.
          let value = valued outcome f in
          let F : Outcome → Type 0 = λ given. ended e ≡ Some (record { op = r; outcome = given }) in
          (value.0, subst F value.1 (ends_as_ended r e outcome some))
    ]) refl is

-- what was found is found ever after
reads_kept : (board : Board) (later g : List Event) (r : OpId) → Contains (reads_found board g) r → Contains (reads_found board (later ++ g)) r
reads_kept board [] g r is = is
reads_kept board (e ∷ later) g r is =
    let h : List Event = later ++ g in
    subst (λ rs. Contains rs r) (sym (reads_more board e h)) (Contains-append_left (reads_found board h) (reads_in board h e) r (reads_kept board later g r is))

module _ (board : Board) (valid : IsValid board) (h : List Event) (run : Run board h) (w r : OpId) (reading : Reading) (knew : Knew board h w r) (is_got : got board h r ≡ Some reading) (named : Contains (words_named board w) reading.word) where
  abbrev landings : List Landing
  landings = landed board reading.before reading.word

  -- the write had landed in the word
  had_landed : list_any (is_landing_of w) landings ≡ true
  had_landed =
      let writes = knew.writes in
      let there = (split_later board h knew.by r knew.before).there in
      let known = knew_knows board valid h run w r knew in
      let told : was_told board h w r ≡ true = rw (writes, there, known) refl in
      let whole : has_landed reading.before w ≡ true = (Fresh-run board h valid run).informed w r reading (known_told board w h run r told) is_got named in
      let front : Front reading.before h = got_front board h r reading is_got in
      named_lands board reading.before w reading.word valid (front_run board reading.before h front run) writes named whole

  module _ (at : GotAt board h r reading) where
    abbrev now : List Event
    now = at.event ∷ at.before

    got_now : got board now r ≡ Some reading
    got_now = let ends = at.ends in let last = at.is_last in rw ends last

    -- a landing of which the read knew
    some_known : (landing : Landing) × (find (is_known_by board now r) (reverse landings) ≡ Some landing)
    some_known =
        let ends = ends_value r at.event at.ends in
        let some = any_some (is_landing_of w) landings had_landed in
        let landing : Landing = some.0 in
        let of_w : landing.op ≡ w = same_op_true landing.op w (find_passes (is_landing_of w) landings landing some.1) in
        let known : is_known_by board now r landing ≡ true = subst (λ o. knows (aware_of board o now) r ≡ true) (sym of_w) (knew_now board valid h run at.event at.before at.front r ends.0 ends.1 w knew) in
        let P : Option Landing → Type 0 = λ found. find (is_known_by board now r) (reverse landings) ≡ found → (l : Landing) × (find (is_known_by board now r) (reverse landings) ≡ Some l) in
        (elim (find (is_known_by board now r) (reverse landings)) as P [
          | None ↦ λ none.
              let fails : is_known_by board now r landing ≡ false = Each-find (λ l. is_known_by board now r l ≡ false) (is_landing_of w) landings landing (none_last (is_known_by board now r) landings none) some.1 in
              let clash : true ≡ false = sym known ∙ fails in
              cc
          | Some l ↦ λ is. (l, is)
        ]) refl

    reads_now : reads_in board at.before at.event ≡ r ∷ []
    reads_now =
        let ends = ends_value r at.event at.ends in
        let known = some_known in
        let of_landing : map read_of (finding_of board now r reading (op_in (find (is_known_by board now r) (reverse landings)))) ≡ r ∷ [] =
        ap (λ found. map read_of (finding_of board now r reading (op_in found))) known.1 in
        let of_reading : map read_of (findings_by board now r (got board now r)) ≡ r ∷ [] =
        ap (λ found. map read_of (findings_by board now r found)) got_now ∙ of_landing in
        ap (λ found. map read_of (findings_in board now found)) ends.1 ∙ of_reading

    found_now : Contains (reads_found board now) r
    found_now =
        let all : reads_found board now ≡ reads_found board at.before ++ r ∷ [] = reads_more board at.event at.before ∙ ap (λ rs. reads_found board at.before ++ rs) reads_now in
        subst (λ rs. Contains rs r) (sym all) (Contains-push (reads_found board at.before) r)

    found_later : Contains (reads_found board h) r
    found_later = subst (λ k. Contains (reads_found board k) r) at.front.is (reads_kept board at.front.later now r found_now)

  found_it : Contains (reads_found board h) r
  found_it = found_later (got_at board h r reading is_got)

pub all_found : (board : Board) (h : List Event) → IsValid board → Run board h → AreAll board h
all_found board h valid run = λ w r reading knew is_got named. found_it board valid h run w r reading knew is_got named
