-- What is known of initiators that have no act: until something is done on their bus they have none.
use Rattle.std.proofs.Common.{◌≡◌, ◌≢◌, ◌+◌, ◌==◌, ℕ, zero, suc, ◌<◌, Bool, true, false, List, [], ◌∷◌, length, Some, refl, sym, ap, subst, ◌∙◌, slice_get, ⊎_elim, arith, if◌then◌else◌}
use Rattle.std.proofs.lemmas.Bool.{eqb-true, eqb-false}
use Rattle.std.proofs.lemmas.List.{length-set}
use Rattle.std.proofs.Math.ListN.{set}
use Rattle.pci_command.specs.declared.op_id.OpId.{OpId}
use Rattle.board_model.specs.declared.bridge.Place.{Place}
use Rattle.board_model.specs.declared.board.Board.{Board}
use Rattle.history_model.specs.declared.event.By.{By}
use Rattle.history_model.specs.declared.event.By.TheVariants.{Master, Lane as ByLane}
use Rattle.history_model.specs.declared.event.Step.{Step}
use Rattle.history_model.specs.declared.event.Event.{Event}
use Rattle.history_model.specs.declared.event.Event.TheVariants.{Act}
use Rattle.history_model.specs.Answers.{wants}
use Rattle.history_model.specs.Local.{bus_of}
use Rattle.history_model.specs.Runs.{Allowed}
use Rattle.law_lanes.proofs.progress.NextFirstLemmas.{below_or}
use Rattle.law_local.specs.Stays.{Stays}
use Rattle.judge_next.proofs.RowLemmas.{stood_before}
use Rattle.judge_adverse.specs.declared.ring.Initiator.{Initiator}
use Rattle.judge_adverse.specs.declared.ring.Initiator.TheVariants.{Lane as LaneOn, Master as MasterOn}
use Rattle.judge_adverse.specs.declared.ring.Ring.{Ring}
use Rattle.judge_adverse.specs.Turns.{bus_on, Idles, KnowsIdle, IsWoken}

-- Another bus.

-- what is allowed on a bus that stayed as it was, was allowed before
allowed_before : (board : Board) (h later : List Event) (bus : ℕ) (by : By) (o : OpId) (step : Step) (place : Place) → Stays board bus h later
    → Allowed board later (Act bus by o step place) → Allowed board h (Act bus by o step place)
allowed_before board h later bus by o step place stays allowed =
    let wanted : wants board h bus by o ≡ true = sym (stays.wanted by o) ∙ allowed.0 in
    (wanted, sym (stays.answered by o wanted) ∙ allowed.1)

-- so an initiator that has no act has none after an event on another bus
idle_stays : (board : Board) (h later : List Event) (initiator : Initiator) → Stays board (bus_on initiator) h later → Idles board h initiator → Idles board later initiator
idle_stays board h later (LaneOn bus lane) stays idles =
    λ o step place allowed. idles o step place (allowed_before board h later bus (ByLane lane) o step place stays allowed)
idle_stays board h later (MasterOn bus master) stays idles =
    λ o step place its allowed. idles o step place its (allowed_before board h later bus Master o step place stays allowed)

-- what is known of those that are not woken stays
pub woken_knows : (board : Board) (h : List Event) (e : Event) (old new : Ring) → ((bus : ℕ) → bus_of board e ≢ bus → Stays board bus h (e ∷ h)) → KnowsIdle board h old
    → new.initiators.items ≡ old.initiators.items → IsWoken (bus_of board e) old.initiators.items old.idle.items new.idle.items → KnowsIdle board (e ∷ h) new
woken_knows board h e old new stays known same woken k initiator is there =
    let was : slice_get old.initiators.items k ≡ Some initiator = subst (λ (xs : List Initiator). slice_get xs k ≡ Some initiator) same there in
    let apart : bus_of board e ≢ bus_on initiator = λ one. woken.others k initiator is was (sym one) in
    idle_stays board h (e ∷ h) initiator (stays (bus_on initiator) apart) (known k initiator (woken.fewer k is) was)

-- Flags.

-- a flag beside one that changes
set_other : (flags : List Bool) (place k : ℕ) (flag : Bool) → k ≢ place → slice_get (set flags place flag) k ≡ slice_get flags k
set_other [] place k flag apart = refl
set_other (b ∷ flags) zero zero flag apart = absurd (apart refl)
set_other (b ∷ flags) zero (suc k) flag apart = refl
set_other (b ∷ flags) (suc place) zero flag apart = refl
set_other (b ∷ flags) (suc place) (suc k) flag apart = set_other flags place k flag (λ same. apart (ap suc same))

-- one more is known to idle
pub hushed_knows : (board : Board) (h : List Event) (old new : Ring) (place : ℕ) (here : Initiator) → KnowsIdle board h old → new.initiators.items ≡ old.initiators.items
    → new.idle.items ≡ set old.idle.items place true → slice_get old.initiators.items place ≡ Some here → Idles board h here → KnowsIdle board h new
hushed_knows board h old new place here known same flags at idles k initiator is there =
    let was : slice_get old.initiators.items k ≡ Some initiator = subst (λ (xs : List Initiator). slice_get xs k ≡ Some initiator) same there in
    let up : slice_get (set old.idle.items place true) k ≡ Some true = subst (λ (xs : List Bool). slice_get xs k ≡ Some true) flags is in
    let P : Bool → Type 0 = λ b. (k == place) ≡ b → Idles board h initiator in
    (elim (k == place) as P [
      | true ↦ λ one.
          let found : slice_get old.initiators.items place ≡ Some initiator = subst (λ (n : ℕ). slice_get old.initiators.items n ≡ Some initiator) (eqb-true k place one) was in
          let same_one : here ≡ initiator = let both : Some here ≡ Some initiator = sym at ∙ found in cc in
          subst (Idles board h) same_one idles
      | false ↦ λ differ. known k initiator (sym (set_other old.idle.items place k true (eqb-false k place differ)) ∙ up) was
    ]) refl

-- those on the bus of the first so many initiators are woken
pub record WokenSoFar (bus : ℕ) (initiators : List Initiator) (old new : List Bool) (many : ℕ) : Type 0 where
  pub same_many : length new ≡ length old
  pub fewer : (k : ℕ) → slice_get new k ≡ Some true → slice_get old k ≡ Some true
  pub others : (k : ℕ) (initiator : Initiator) → k < many → slice_get new k ≡ Some true → slice_get initiators k ≡ Some initiator → bus_on initiator ≢ bus

-- one more
pub woken_more : (bus : ℕ) (initiators : List Initiator) (old mid new : List Bool) (place : ℕ) (here : Initiator) → WokenSoFar bus initiators old mid place → slice_get initiators place ≡ Some here
    → new ≡ (if bus_on here == bus then set mid place false else mid) → WokenSoFar bus initiators old new (place + 1)
woken_more bus initiators old mid new place here so at is =
    let P : Bool → Type 0 = λ b. (bus_on here == bus) ≡ b → new ≡ (if b then set mid place false else mid) → WokenSoFar bus initiators old new (place + 1) in
    (elim (bus_on here == bus) as P [
      | true ↦ λ _ set_is.
          let stood : (k : ℕ) → slice_get new k ≡ Some true → (place ≢ k) × (slice_get mid k ≡ Some true) =
          λ k up. stood_before mid place k (subst (λ (xs : List Bool). slice_get xs k ≡ Some true) set_is up) in
          record {
            same_many = ap length set_is ∙ (length-set mid place false ∙ so.same_many);
            fewer = λ k up. so.fewer k (stood k up).1;
            others = λ k initiator below up there.
                let apart : place ≢ k = (stood k up).0 in
                so.others k initiator (omega (arith, below, apart)) (stood k up).1 there;
          }
      | false ↦ λ differ same.
          let up_before : (k : ℕ) → slice_get new k ≡ Some true → slice_get mid k ≡ Some true = λ k up. subst (λ (xs : List Bool). slice_get xs k ≡ Some true) same up in
          record {
            same_many = ap length same ∙ so.same_many;
            fewer = λ k up. so.fewer k (up_before k up);
            others = λ k initiator below up there.
                ⊎_elim {C = bus_on initiator ≢ bus}
                (λ (less : k < place). so.others k initiator less (up_before k up) there)
                (λ (one : k ≡ place).
                let found : slice_get initiators place ≡ Some initiator = subst (λ (n : ℕ). slice_get initiators n ≡ Some initiator) one there in
                let same_one : here ≡ initiator = let both : Some here ≡ Some initiator = sym at ∙ found in cc in
                subst (λ (x : Initiator). bus_on x ≢ bus) same_one (eqb-false (bus_on here) bus differ))
                (below_or k place (let next : place + 1 ≡ suc place = omega arith in subst (λ (n : ℕ). k < n) next below));
          }
    ]) refl is

-- before the first
pub woken_none : (bus : ℕ) (initiators : List Initiator) (flags : List Bool) → WokenSoFar bus initiators flags flags 0
woken_none bus initiators flags = record { same_many = refl; fewer = λ k up. up; others = λ k initiator below up there. absurd (omega (arith, below)) }
