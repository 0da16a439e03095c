-- A course goes on by an event, and knows the next one.
use Rattle.std.proofs.Common.{◌≡◌, ◌≢◌, ℕ, Bool, true, false, eqb, List, ◌∷◌, Some, None, Result, Ok, Err, refl, sym, subst, ◌∙◌, slice_get}
use Rattle.std.proofs.lemmas.Bool.{eqb-true, eqb-false}
use Rattle.std.proofs.Math.ListN.{set}
use Rattle.board_model.specs.declared.board.Board.{Board}
use Rattle.board_model.specs.Valid.{IsValid}
use Rattle.history_model.specs.declared.event.Event.{Event}
use Rattle.std.specs.Prelude.{OnOk}
use Rattle.machine_steps.specs.Verdicts.{Holds, cause_in}
use Rattle.machine_steps.proofs.VerdictLemmas.{allowed_exactly}
use Rattle.history_model.specs.declared.why.Why.{Why}
use Rattle.history_model.specs.Runs.{Allowed}
use Rattle.history_model.specs.Local.{bus_of}
use Rattle.law_local.proofs.Laws.{other_stays}
use Rattle.judge_state.specs.State.{KeptState}
use Rattle.judge_state.specs.Stands.{StandsFor}
use Rattle.judge_next.specs.Now.{act_on_now}
use Rattle.judge_next.specs.Course.{KnowsQuiet}
use Rattle.judge_next.proofs.SameLemmas.{act_on_same}
use Rattle.judge_next.proofs.StillLemmas.{act_on_stays}
use Rattle.circular_buffer.proofs.Places.{slice_get-set_other}

-- after an event on another bus there is no act where there was none
pub still_quiet : (board : Board) (h : List Event) (e : Event) (k later : KeptState) (bus : ℕ) → IsValid board
    → StandsFor board h k → StandsFor board (e ∷ h) later
    → bus_of board e ≢ bus → act_on_now board k bus ≡ None → act_on_now board later bus ≡ None
still_quiet board h e k later bus valid stands stands_later apart none =
    act_on_same board (e ∷ h) later stands_later bus
    ∙ (act_on_stays board bus h (e ∷ h) (other_stays board h e bus valid stands_later.run apart)
    ∙ (sym (act_on_same board h k stands bus) ∙ none))

-- so what is known of the other buses stays
pub quiet_stays : (board : Board) (h : List Event) (e : Event) (k later : KeptState) (quiet rest : List Bool) → IsValid board
    → StandsFor board h k → StandsFor board (e ∷ h) later
    → KnowsQuiet board k quiet → ((bus : ℕ) → slice_get rest bus ≡ Some true → (bus_of board e ≢ bus) × (slice_get quiet bus ≡ Some true))
    → KnowsQuiet board later rest
quiet_stays board h e k later quiet rest valid stands stands_later known fewer bus is =
    let f = fewer bus is in
    still_quiet board h e k later bus valid stands stands_later f.0 (known bus f.1)

-- a bus on which there is no act may be known to be quiet
pub hushed : (board : Board) (k : KeptState) (quiet : List Bool) (place : ℕ) → KnowsQuiet board k quiet → act_on_now board k place ≡ None → KnowsQuiet board k (set quiet place true)
hushed board k quiet place known none bus is =
    let P : Bool → Type 0 = λ b. eqb bus place ≡ b → act_on_now board k bus ≡ None in
    (elim (eqb bus place) as P [
      | true ↦ λ same. subst (λ (n : ℕ). act_on_now board k n ≡ None) (sym (eqb-true bus place same)) none
      | false ↦ λ differ. known bus (sym (slice_get-set_other quiet place bus true (eqb-false bus place differ)) ∙ is)
    ]) refl

-- what is allowed is not refused
pub allowed_is_ok : (board : Board) (h : List Event) (e : Event) (r : Result (Unit {0}) Why) (P : Type 0) → Allowed board h e → Holds board h e (cause_in r) → OnOk r P → P
allowed_is_ok board h e (Ok value) P allowed holds done = done
allowed_is_ok board h e (Err why) P allowed holds done =
    let exact = allowed_exactly board h e (Err why) holds in
    let no = exact.1 allowed in
    absurd cc
