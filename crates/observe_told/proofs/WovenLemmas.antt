-- One event more of a run whose arrivals stand apart.
use Rattle.std.proofs.Common.{◌≡◌, ◌≤◌, ◌<◌, ◌+◌, ℕ, suc, List, [], ◌∷◌, ◌++◌, length, drop, get_or, refl, sym, ap, subst, ◌∙◌, arith}
use Rattle.std.proofs.lemmas.List.{reverse-append, length-append, append-nil, append_assoc, drop_all}
use Rattle.std.proofs.Math.Seq.{drop-cons}
use Rattle.board_model.specs.declared.bridge.Lane.{Lane as BridgeLane}
use Rattle.history_model.specs.declared.event.Mark.{Mark}
use Rattle.history_model.specs.declared.event.Event.{Event}
use Rattle.history_model.specs.declared.event.Event.TheVariants.{Arrive}
use Rattle.history_model.specs.Runs.{history_of}
use Rattle.observe_told.specs.declared.woven.Strand.{Strand}
use Rattle.observe_told.specs.declared.woven.Strand.TheVariants as strands
use Rattle.observe_told.specs.declared.woven.Woven.{Woven}
use Rattle.observe_told.specs.Woven.{weave, events_of, acts_among, IsWhole, GoesOn}

-- an act is the last one

weave_act : (rest : List Strand) (acts : List Event) (act : Event) → acts_among rest ≡ length acts → weave (rest ++ strands.Act ∷ []) (acts ++ act ∷ []) ≡ weave rest acts ++ act ∷ []
weave_act [] [] act same = refl
weave_act [] (other ∷ acts) act same = absurd (omega (arith, same))
weave_act (strands.Act ∷ rest) [] act same = absurd (omega (arith, same))
weave_act (strands.Act ∷ rest) (other ∷ acts) act same = let e : acts_among rest ≡ length acts = omega (arith, same) in ap (λ (l : List Event). other ∷ l) (weave_act rest acts act e)
weave_act (strands.Arrive lane mark ∷ rest) acts act same = ap (λ (l : List Event). Arrive lane mark ∷ l) (weave_act rest acts act same)

among_act : (rest : List Strand) → acts_among (rest ++ strands.Act ∷ []) ≡ acts_among rest + 1
among_act [] = refl
among_act (strands.Act ∷ rest) = let e = among_act rest in omega (arith, e)
among_act (strands.Arrive lane mark ∷ rest) = among_act rest

-- an arrival is the last one

weave_arrival : (rest : List Strand) (acts : List Event) (lane : BridgeLane) (mark : Mark) → acts_among rest ≡ length acts
    → weave (rest ++ strands.Arrive lane mark ∷ []) acts ≡ weave rest acts ++ Arrive lane mark ∷ []
weave_arrival [] acts lane mark same = refl
weave_arrival (strands.Act ∷ rest) [] lane mark same = absurd (omega (arith, same))
weave_arrival (strands.Act ∷ rest) (other ∷ acts) lane mark same = let e : acts_among rest ≡ length acts = omega (arith, same) in ap (λ (l : List Event). other ∷ l) (weave_arrival rest acts lane mark e)
weave_arrival (strands.Arrive at by ∷ rest) acts lane mark same = ap (λ (l : List Event). Arrive at by ∷ l) (weave_arrival rest acts lane mark same)

among_arrival : (rest : List Strand) (lane : BridgeLane) (mark : Mark) → acts_among (rest ++ strands.Arrive lane mark ∷ []) ≡ acts_among rest
among_arrival [] lane mark = refl
among_arrival (strands.Act ∷ rest) lane mark = let e = among_arrival rest lane mark in omega (arith, e)
among_arrival (strands.Arrive at by ∷ rest) lane mark = among_arrival rest lane mark

-- the last event is the newest of the history
history_push : (events : List Event) (e : Event) → history_of (events ++ e ∷ []) ≡ e ∷ history_of events
history_push events e = reverse-append events (e ∷ [])

pub act_goes_on : (act : Event) (before after : Woven) → after.acts.items ≡ before.acts.items ++ act ∷ [] → after.strands.items ≡ before.strands.items ++ strands.Act ∷ [] → GoesOn act before after
act_goes_on act before after acts_are strands_are = λ whole.
    let length_is = ap length acts_are ∙ length-append before.acts.items (act ∷ []) in
    let among_is = ap acts_among strands_are ∙ among_act before.strands.items in
    let woven : events_of after ≡ events_of before ++ act ∷ [] = rw (strands_are, acts_are) (weave_act before.strands.items before.acts.items act whole) in
    record {
      whole = among_is ∙ (ap (λ n. n + 1) whole ∙ sym length_is);
      more = ap history_of woven ∙ history_push (events_of before) act;
    }

pub arrival_goes_on : (lane : BridgeLane) (mark : Mark) (before after : Woven) → after.acts.items ≡ before.acts.items → after.strands.items ≡ before.strands.items ++ strands.Arrive lane mark ∷ []
    → GoesOn (Arrive lane mark) before after
arrival_goes_on lane mark before after acts_are strands_are = λ whole.
    let among_is = ap acts_among strands_are ∙ among_arrival before.strands.items lane mark in
    let woven : events_of after ≡ events_of before ++ Arrive lane mark ∷ [] = rw (strands_are, acts_are) (weave_arrival before.strands.items before.acts.items lane mark whole) in
    record {
      whole = among_is ∙ (whole ∙ sym (ap length acts_are));
      more = ap history_of woven ∙ history_push (events_of before) (Arrive lane mark);
    }

-- there are no more events than places

few_woven : (rest : List Strand) (acts : List Event) → length (weave rest acts) ≤ length rest
few_woven [] acts = omega arith
few_woven (strands.Act ∷ rest) [] = omega arith
few_woven (strands.Act ∷ rest) (act ∷ acts) = let e = few_woven rest acts in omega (arith, e)
few_woven (strands.Arrive lane mark ∷ rest) acts = let e = few_woven rest acts in omega (arith, e)

pub events_few : (woven : Woven) → length (events_of woven) ≤ length woven.strands.items
events_few woven = few_woven woven.strands.items woven.acts.items

-- The events one after the other.

-- an arrival comes next
arrival_next : (rest : List Strand) (acts : List Event) (i : ℕ) (d : Strand) (lane : BridgeLane) (mark : Mark) → i < length rest → get_or rest i d ≡ strands.Arrive lane mark
    → weave (drop i rest) acts ≡ Arrive lane mark ∷ weave (drop (suc i) rest) acts
arrival_next rest acts i d lane mark within is =
    ap (λ (l : List Strand). weave l acts) (drop-cons rest i d within ∙ ap (λ (s : Strand). s ∷ drop (suc i) rest) is)

-- an act comes next
act_next : (rest : List Strand) (acts : List Event) (i a : ℕ) (d : Strand) (act e : Event) → i < length rest → get_or rest i d ≡ strands.Act → a < length acts → act ≡ get_or acts a e
    → weave (drop i rest) (drop a acts) ≡ act ∷ weave (drop (suc i) rest) (drop (suc a) acts)
act_next rest acts i a d act e within is there act_is =
    let acts_are : drop a acts ≡ act ∷ drop (suc a) acts = drop-cons acts a e there ∙ ap (λ (x : Event). x ∷ drop (suc a) acts) (sym act_is) in
    ap (λ (l : List Strand). weave l (drop a acts)) (drop-cons rest i d within ∙ ap (λ (s : Strand). s ∷ drop (suc i) rest) is)
    ∙ ap (λ (l : List Event). weave (strands.Act ∷ drop (suc i) rest) l) acts_are

-- one event more
more_events : (front rest all : List Event) (e : Event) (longer : List Event) (behind : List Event) → longer ≡ front ++ e ∷ [] → rest ≡ e ∷ behind → front ++ rest ≡ all → longer ++ behind ≡ all
more_events front rest all e longer behind is rest_is same =
    ap (λ (l : List Event). l ++ behind) is ∙ (append_assoc front (e ∷ []) behind ∙ (ap (λ (l : List Event). front ++ l) (sym rest_is) ∙ same))

pub more_arrivals : (front acts longer all : List Event) (rest : List Strand) (i : ℕ) (d : Strand) (lane : BridgeLane) (mark : Mark) → i < length rest → get_or rest i d ≡ strands.Arrive lane mark
    → longer ≡ front ++ Arrive lane mark ∷ [] → front ++ weave (drop i rest) acts ≡ all → longer ++ weave (drop (i + 1) rest) acts ≡ all
more_arrivals front acts longer all rest i d lane mark within is longer_is same =
    let next : suc i ≡ i + 1 = omega arith in
    subst (λ n. longer ++ weave (drop n rest) acts ≡ all) next (more_events front (weave (drop i rest) acts) all (Arrive lane mark) longer (weave (drop (suc i) rest) acts) longer_is (arrival_next rest acts i d lane mark within is) same)

pub more_acts : (front acts items longer all : List Event) (rest : List Strand) (i a : ℕ) (d : Strand) (act e : Event) → i < length rest → get_or rest i d ≡ strands.Act
    → items ≡ acts → a < length items → act ≡ get_or items a e → longer ≡ front ++ act ∷ [] → front ++ weave (drop i rest) (drop a acts) ≡ all
    → longer ++ weave (drop (i + 1) rest) (drop (a + 1) acts) ≡ all
more_acts front acts items longer all rest i a d act e within is items_are there act_is longer_is same =
    let next : suc i ≡ i + 1 = omega arith in
    let next_act : suc a ≡ a + 1 = omega arith in
    subst (λ n. longer ++ weave (drop n rest) (drop (a + 1) acts) ≡ all) next (subst (λ n. longer ++ weave (drop (suc i) rest) (drop n acts) ≡ all) next_act (more_events front (weave (drop i rest) (drop a acts)) all act longer (weave (drop (suc i) rest) (drop (suc a) acts)) longer_is
    (act_next rest acts i a d act e within is (subst (λ (l : List Event). a < length l) items_are there) (subst (λ (l : List Event). act ≡ get_or l a e) items_are act_is)) same))

-- none comes next
pub no_more : (front acts all : List Event) (rest : List Strand) (i : ℕ) → length rest ≤ i → front ++ weave (drop i rest) acts ≡ all → front ≡ all
no_more front acts all rest i past same =
    sym (append-nil front) ∙ (ap (λ (l : List Strand). front ++ weave l acts) (sym (drop_all i rest past)) ∙ same)

pub no_act : (front acts all : List Event) (rest : List Strand) (i a : ℕ) (d : Strand) → i < length rest → get_or rest i d ≡ strands.Act → length acts ≤ a
    → front ++ weave (drop i rest) (drop a acts) ≡ all → front ≡ all
no_act front acts all rest i a d within is past same =
    let none : weave (drop i rest) (drop a acts) ≡ [] =
    ap (λ (l : List Strand). weave l (drop a acts)) (drop-cons rest i d within ∙ ap (λ (s : Strand). s ∷ drop (suc i) rest) is)
    ∙ ap (λ (l : List Event). weave (strands.Act ∷ drop (suc i) rest) l) (drop_all a acts past) in
    sym (append-nil front) ∙ (ap (λ (l : List Event). front ++ l) (sym none) ∙ same)
