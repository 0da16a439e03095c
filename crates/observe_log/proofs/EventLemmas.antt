-- The acts among events, with their places.
use Rattle.std.proofs.Common.{◌≡◌, ℕ, zero, suc, ◌+◌, ◌<◌, true, false, List, [], ◌∷◌, length, drop, get_or, Some, refl, sym, ap, ◌∙◌, arith}
use Rattle.std.specs.List.{slice_get}
use Rattle.std.proofs.Math.Seq.{drop-cons}
use Rattle.std.proofs.lemmas.Option.{slice_get_within}
use Rattle.history_model.specs.declared.event.Event.{Event}
use Rattle.history_model.specs.declared.event.Event.TheVariants.{Act, Arrive}
use Rattle.law_early.specs.Early.{acts_of}
use Rattle.observe_log.specs.Told.{presents, IsBegun}
use Rattle.observe_log.specs.Checks.{is_act, AreBegun}

-- what is left of a list, by its first element
pub drop_one : {X : Type 0} (xs : List X) (i : ℕ) (d : X) → i < length xs → drop i xs ≡ get_or xs i d ∷ drop (i + 1) xs
drop_one xs i d within =
    let more : i + 1 ≡ suc i = omega arith in
    drop-cons xs i d within ∙ ap (λ (m : ℕ). get_or xs i d ∷ drop m xs) (sym more)

-- an arrival in front is passed over, and an act is the first one
pub acts_skip : (event : Event) (events : List Event) → is_act event ≡ false → acts_of (event ∷ events) ≡ acts_of events
acts_skip (Act on by o step place) events arrives = cc
acts_skip (Arrive lane mark) events arrives = refl

pub acts_keep : (event : Event) (events : List Event) → is_act event ≡ true → acts_of (event ∷ events) ≡ event ∷ acts_of events
acts_keep (Act on by o step place) events is = refl
acts_keep (Arrive lane mark) events is = cc

-- the place of an act among the events
place_of : (events : List Event) (k : ℕ) (act : Event) → slice_get (acts_of events) k ≡ Some act → (m : ℕ) × (slice_get events m ≡ Some act)
place_of [] k act there = absurd cc
place_of (Act on by o step place ∷ events) zero act there = (0, there)
place_of (Act on by o step place ∷ events) (suc k) act there = let found = place_of events k act there in (suc found.0, found.1)
place_of (Arrive lane mark ∷ events) k act there = let found = place_of events k act there in (suc found.0, found.1)

-- and of two, one behind the other
places_of : (events : List Event) (j k : ℕ) (earlier later : Event) → j < k → slice_get (acts_of events) j ≡ Some earlier → slice_get (acts_of events) k ≡ Some later
    → (m : ℕ) × (n : ℕ) × (m < n) × (slice_get events m ≡ Some earlier) × (slice_get events n ≡ Some later)
places_of [] j k earlier later before earlier_is later_is = absurd cc
places_of (Act on by o step place ∷ events) j zero earlier later before earlier_is later_is = absurd (omega arith)
places_of (Act on by o step place ∷ events) zero (suc k) earlier later before earlier_is later_is =
    let found = place_of events k later later_is in (0, suc found.0, omega arith, earlier_is, found.1)
places_of (Act on by o step place ∷ events) (suc j) (suc k) earlier later before earlier_is later_is =
    let found = places_of events j k earlier later (omega arith) earlier_is later_is in
    let behind : found.0 < found.1 = found.2 in
    (suc found.0, suc found.1, omega (arith, behind), found.3, found.4)
places_of (Arrive lane mark ∷ events) j k earlier later before earlier_is later_is =
    let found = places_of events j k earlier later before earlier_is later_is in
    let behind : found.0 < found.1 = found.2 in
    (suc found.0, suc found.1, omega (arith, behind), found.3, found.4)

-- the place of an event that is one among the acts
act_place : (events : List Event) (m : ℕ) (act : Event) → slice_get events m ≡ Some act → is_act act ≡ true → (k : ℕ) × (slice_get (acts_of events) k ≡ Some act)
act_place [] m act there is = absurd cc
act_place (Act on by o step place ∷ events) zero act there is = (0, there)
act_place (Act on by o step place ∷ events) (suc m) act there is = let found = act_place events m act there is in (suc found.0, found.1)
act_place (Arrive lane mark ∷ events) zero act there is = absurd cc
act_place (Arrive lane mark ∷ events) (suc m) act there is = act_place events m act there is

-- no master presents by an arrival
presents_by_act : (master index : ℕ) (event : Event) → presents master index event ≡ true → is_act event ≡ true
presents_by_act master index (Act on by o step place) presented = refl
presents_by_act master index (Arrive lane mark) presented = cc

-- operations that have an act among events have it among their acts, one after the other
pub begun_acts : (events : List Event) (turns : List ℕ) → AreBegun events (length events) turns → AreBegun (acts_of events) (length (acts_of events)) turns
begun_acts events turns begun = record {
  first = λ master index n at below.
      let was : IsBegun events (length events) master index = begun.first master index n at below in
      let found = act_place events was.place was.act was.there (presents_by_act master index was.act was.presented) in
      record { place = found.0; before = slice_get_within (acts_of events) found.0 was.act found.1; act = was.act; there = found.1; presented = was.presented };
  most = λ k master index act within is presented.
      let found = place_of events k act is in
      begun.most found.0 master index act (slice_get_within events found.0 act found.1) found.1 presented;
  in_turn = λ j k master i index earlier later before within j_is k_is presented_i presented.
      let found = places_of events j k earlier later before j_is k_is in
      begun.in_turn found.0 found.1 master i index earlier later found.2 (slice_get_within events found.1 later found.4) found.3 found.4 presented_i presented;
}
