-- An item is received, and arrives or stops the segment.
use Rattle.std.proofs.Common.{◌≡◌, ◌≢◌, ℕ, ◌+◌, ◌^◌, ◌<◌, ◌≤◌, max, Bool, true, false, cond, ◌==◌, ◌&&◌, nat_lt, List, [], ◌∷◌, ◌++◌, map, length, option_to_list, Option, Some, None, inl, inr, refl, sym, ap, subst, ◌∙◌, arith, slice_get}
use Rattle.std.proofs.lemmas.Bool.{eqb-true, eqb-false, eq-eqb}
use Rattle.std.proofs.lemmas.Bool.Decides.{nat_tests}
use Rattle.std.proofs.lemmas.Option.{slice_get_within}
use Rattle.std.proofs.lemmas.List.{append-nil, length-append}
use Rattle.board_model.specs.declared.bridge.Lane.{Lane as BridgeLane}
use Rattle.board_model.specs.declared.board.Board.{Board}
use Rattle.board_model.specs.Valid.{IsValid}
use Rattle.board_model.specs.Ways.{end_of, lane_back}
use Rattle.history_model.specs.declared.event.Mark.{Mark}
use Rattle.history_model.specs.declared.event.Event.{Event}
use Rattle.history_model.specs.declared.event.Event.TheVariants.{Arrive}
use Rattle.history_model.specs.declared.event.Stamped.{Stamped}
use Rattle.history_model.specs.World.{World}
use Rattle.law_local.specs.Stamps.{events_of}
use Rattle.lane_items.specs.declared.item.Item.{Item}
use Rattle.bus_face.specs.Arrivals.{carried}
use Rattle.bus_core.specs.port.Port.{PortView}
use Rattle.bus_core.specs.Bus.{BusView, Shape, shape_of}
use Rattle.bus_core.specs.Calls.{stamp_of, items_at}
use Rattle.bus_core.specs.Serves.{is_taken_on, HasStamp, BusArrives}
use Rattle.bus_core.proofs.ListLemmas.{get_map}
use Rattle.bus_segment.specs.Segment.{SegmentGoes, Keeps as KeepsPast, all_carried, lanes_known}
use Rattle.bus_segment.specs.Ends.{EndAfter, ReceivesOne, sent_at}
use Rattle.bus_segment.specs.Turn.{Sends, StopsAt, Does, Keeps, IsArrived, IsNotArrived, Takes}
use Rattle.bus_segment.proofs.ActLemmas.{arrival_goes}
use Rattle.bus_segment.proofs.EndLemmas.{end_still}
use Rattle.bus_segment.proofs.DoesLemmas.{same_past, there_at}

pub took : {End : Type 0} (had sent got : End → List Item) (kept : End → ℕ) (paired : End → End → Type 0) (board : Board) (place : ℕ) (item : Item) (old new : BusView) (stamp later new_stamp : ℕ) (stopped : Bool) (lane : BridgeLane) (mark : Mark) (back : Option Item)
    (ends after : List End) (events kept_events : List Stamped) → slice_get (shape_of old).lanes place ≡ Some lane → BusArrives board place old item mark back new → HasStamp later back → later ≡ max stamp (stamp_of item + 1)
    → Keeps had sent got kept paired lane place later (record { mark = mark; back = back }) stamp ends events new_stamp after kept_events stopped
    → Takes had sent got kept paired board place item (record { bus = old; stamp = stamp; stopped = false }) ends events (record { bus = new; stamp = new_stamp; stopped = stopped }) after kept_events
took had sent got kept paired board place item old new stamp later new_stamp false lane mark back ends after events kept_events there arrives stamped later_is done =
    let same : new_stamp ≡ later = done.stamp in
    inl (record {
      lane = lane;
      there = there;
      mark = mark;
      back = sent_at place back;
      back_item = back;
      back_is = refl;
      arrives = arrives;
      stamped = subst (λ n. HasStamp n back) (sym same) stamped;
      stamp_is = same ∙ later_is;
      goes_on = refl;
      event = done.event ∙ ap (λ n. events ++ record { stamp = n; event = Arrive lane mark } ∷ []) (sym same);
      sends = done.sends;
    })
took had sent got kept paired board place item old new stamp later new_stamp true lane mark None ends after events kept_events there arrives stamped later_is done = absurd done.full
took had sent got kept paired board place item old new stamp later new_stamp true lane mark (Some back) ends after events kept_events there arrives stamped later_is done =
    inr (record {
      same_ends = done.same_ends;
      same_events = done.same_events;
      same_stamp = done.same_stamp;
      stops = refl;
      cause = inr (inr (mark, back, arrives, done.full));
    })

-- a stamp that has none above it
late_refused : (taken : Bool) (stamp : ℕ) → 2 ^ 31 ≤ stamp → (taken && nat_lt stamp (2 ^ 31)) ≡ false
late_refused true stamp late = grind (arith, nat_tests)
late_refused false stamp late = refl

-- Received and taken.
module _ {End : Type 0} (had sent got : End → List Item) (kept : End → ℕ) (paired : End → End → Type 0) (board : Board) (place : ℕ) (item : Item) (old new : BusView) (stamp new_stamp : ℕ) (stopped : Bool) (ends mid after : List End) (events kept_events : List Stamped)
    (shape : shape_of new ≡ shape_of old) (received : ReceivesOne had sent got kept paired place ends (Some item) mid) where
  abbrev Received : Type 0
  Received = Does had sent got kept paired board (record { bus = old; stamp = stamp; stopped = false }) (record { bus = new; stamp = new_stamp; stopped = stopped }) ends after events kept_events

  -- what an end received, by its place
  mid_end : (n : ℕ) (end middle : End) → slice_get ends n ≡ Some end → slice_get mid n ≡ Some middle → EndAfter had sent got paired end middle (cond (place == n) (item ∷ []) []) None []
  mid_end n end middle was is =
      let P : Bool → Type 0 = λ b. (place == n) ≡ b → EndAfter had sent got paired end middle (cond b (item ∷ []) []) None [] in
      (elim (place == n) as P [
        | true ↦ λ here.
            let number : place ≡ n = eqb-true place n here in
            let first : slice_get ends place ≡ Some end = subst (λ m. slice_get ends m ≡ Some end) (sym number) was in
            let last : slice_get mid place ≡ Some middle = subst (λ m. slice_get mid m ≡ Some middle) (sym number) is in
            let both = sym first ∙ received.one.was in
            let then = sym last ∙ received.one.is in
            let one : end ≡ received.before = cc in
            let other : middle ≡ received.after = cc in
            let E : End → End → Type 0 = λ a b. EndAfter had sent got paired a b (item ∷ []) None [] in
            subst (λ a. E a middle) (sym one) (subst (λ b. E received.before b) (sym other) (record {
              got_is = received.got_is ∙ sym (append-nil (got received.before ++ item ∷ []));
              sent_is = received.sent_is ∙ sym (append-nil (sent received.before));
              had_is = received.had_is;
              pairs = received.pairs;
            }))
        | false ↦ λ differ.
            let apart : n ≢ place = λ e. eqb-false place n differ (sym e) in
            let both = sym was ∙ (sym (received.one.others n apart) ∙ is) in
            let same : end ≡ middle = cc in
            subst (λ (e : End). EndAfter had sent got paired end e [] None []) same (end_still had sent got paired end)
      ]) refl

  end_joined : (a b c : End) (first : List Item) (puts : List Item) → EndAfter had sent got paired a b first None [] → EndAfter had sent got paired b c [] None puts → EndAfter had sent got paired a c first None puts
  end_joined a b c first puts one two =
      let same : (got b ++ []) ++ [] ≡ got b = append-nil (got b ++ []) ∙ append-nil (got b) in
      let kept_sent : sent b ≡ sent a = one.sent_is ∙ append-nil (sent a) in
      record {
        got_is = two.got_is ∙ (same ∙ one.got_is);
        sent_is = two.sent_is ∙ ap (λ l. l ++ puts) kept_sent;
        had_is = two.had_is ∙ one.had_is;
        pairs = record { as_first = λ other is. two.pairs.as_first other (one.pairs.as_first other is); as_second = λ other is. two.pairs.as_second other (one.pairs.as_second other is) };
      }

  sent_back : (back : Option Item) (n : ℕ) → items_at (sent_at place back) n ≡ cond (place == n) (option_to_list back) []
  sent_back None n =
      let nothing : List Item = [] in
      let P : Bool → Type 0 = λ b. nothing ≡ cond b nothing nothing in
      elim (place == n) as P [ true ↦ refl | false ↦ refl ]
  sent_back (Some back) n = refl

  -- it arrives
  pub received_arrives : IsValid board → IsArrived had sent got paired board place item (record { bus = old; stamp = stamp; stopped = false }) mid events (record { bus = new; stamp = new_stamp; stopped = stopped }) after kept_events → Received
  received_arrives valid done =
      let e : Event = Arrive done.lane done.mark in
      record {
        later = record { stamp = new_stamp; event = e } ∷ [];
        received = λ n. cond (place == n) (item ∷ []) [];
        refused = λ n. None;
        puts = λ n. cond (place == n) (option_to_list done.back_item) [];
        goes = subst (λ b. SegmentGoes board (record { bus = old; stamp = stamp; stopped = false }) (record { bus = new; stamp = new_stamp; stopped = b })
            (record { stamp = new_stamp; event = e } ∷ []) (λ n. cond (place == n) (item ∷ []) []) (λ n. cond (place == n) (option_to_list done.back_item) [])) (sym done.goes_on)
            (arrival_goes board place done.lane item done.mark done.back_item old new stamp new_stamp valid done.there done.arrives shape (omega (arith, done.stamp_is)) (omega (arith, done.stamp_is)) done.stamped);
        recorded = done.event;
        many = done.sends.many ∙ received.many;
        at_ends = λ n end end_after was is.
            let within : n < length mid = let f = slice_get_within ends n end was in let m = received.many in omega arith in
            let middle = there_at mid n within in
            let puts : items_at done.back n ≡ cond (place == n) (option_to_list done.back_item) [] = ap (λ b. items_at b n) done.back_is ∙ sent_back done.back_item n in
            subst (λ l. EndAfter had sent got paired end end_after (cond (place == n) (item ∷ []) []) None l) puts
            (end_joined end middle.0 end_after (cond (place == n) (item ∷ []) []) (items_at done.back n) (mid_end n end middle.0 was middle.1) (done.sends.each n middle.0 end_after middle.1 is));
        none_refused = λ on n. refl;
        stops = λ on off. let goes_on = done.goes_on in cc;
      }

  -- what was refused, by its place
  refused_end : (n : ℕ) (end middle : End) → slice_get ends n ≡ Some end → slice_get mid n ≡ Some middle → EndAfter had sent got paired end middle [] (cond (place == n) (Some item) None) []
  refused_end n end middle was is =
      let one = mid_end n end middle was is in
      let P : Bool → Type 0 = λ b. EndAfter had sent got paired end middle (cond b (item ∷ []) []) None [] → EndAfter had sent got paired end middle [] (cond b (Some item) None) [] in
      (elim (place == n) as P [
        | true ↦ λ x. record { got_is = x.got_is ∙ (append-nil (got end ++ item ∷ []) ∙ ap (λ l. l ++ item ∷ []) (sym (append-nil (got end)))); sent_is = x.sent_is; had_is = x.had_is; pairs = x.pairs }
        | false ↦ λ x. x
      ]) one

  -- it does not
  pub received_stops : length ends ≡ length old.ports → IsNotArrived kept board place item (record { bus = old; stamp = stamp; stopped = false }) mid events (record { bus = new; stamp = new_stamp; stopped = stopped }) after kept_events → Received
  received_stops paired_up done =
      let within : place < length old.ports = let f = slice_get_within ends place received.before received.one.was in omega arith in
      let port = there_at old.ports place within in
      let lane : BridgeLane = port.0.lane in
      let was : slice_get (shape_of old).lanes place ≡ Some lane = get_map (λ (x : PortView). x.lane) old.ports place port.0 port.1 in
      let is : slice_get (shape_of new).lanes place ≡ Some lane = ap (λ (s : Shape). slice_get s.lanes place) shape ∙ was in
      let bus : old.bus ≡ new.bus = sym (ap (λ (s : Shape). s.bus) shape) in
      let there : slice_get after place ≡ Some received.after = ap (λ l. slice_get l place) done.same_ends ∙ received.one.is in
      let self : (place == place) ≡ true = eq-eqb place place refl in
      let refusal : cond (place == place) (Some item) None ≡ Some item = ap (λ b. cond b (Some item) None) self in
      let G : ℕ → Bool → Type 0 = λ t b. SegmentGoes board (record { bus = old; stamp = stamp; stopped = false }) (record { bus = new; stamp = t; stopped = b }) [] (λ n. []) (λ n. []) in
      let goes : G new_stamp stopped = subst (λ t. G t stopped) (sym done.same_stamp) (subst (λ b. G stamp b) (sym done.stops) (same_past board old new stamp true shape (λ on. cc))) in
      record {
        later = [];
        received = λ n. [];
        refused = λ n. cond (place == n) (Some item) None;
        puts = λ n. [];
        goes = goes;
        recorded = done.same_events ∙ sym (append-nil events);
        many = ap length done.same_ends ∙ received.many;
        at_ends = λ n end end_after first last. refused_end n end end_after first (ap (λ l. slice_get l n) (sym done.same_ends) ∙ last);
        none_refused = λ on n. let off = done.stops in cc;
        stops = λ on off came p rest put past.
            let w : World = lanes_known board came p in
            let keeping : KeepsPast board w p old = past.keeps refl in
            let next : (w lane).flight ≡ carried item ∷ map carried (rest place) =
            (past.ports place lane was).left ∙ ap (λ r. map carried (option_to_list r ++ rest place)) refusal in
            let C : Option Item → Type 0 = λ r. StopsAt board new.bus came p lane r (kept received.after) in
            let found : C (Some item) = elim done.cause as (λ _. C (Some item)) [
              | inl late ↦ record { cause = inl (late_refused (is_taken_on board new.bus w lane (carried item)) (stamp_of item) late) }
              | inr other ↦ elim other as (λ _. C (Some item)) [
                | inl refuses ↦ record { cause = inl (ap (λ b. b && nat_lt (stamp_of item) (2 ^ 31)) (subst (λ b. is_taken_on board b w lane (carried item) ≡ false) bus (refuses.refuses keeping.tags w (events_of p) lane was keeping.stands))) }
                | inr full ↦
                    let arrives = full.2.arrives keeping.tags w (events_of p) (map carried (rest place)) lane was keeping.stands next in
                    let both = sym full.3.1 ∙ received.one.is in
                    let same : full.3.0 ≡ received.after = cc in
                    let e : Event = Arrive lane full.0 in
                    let ends_here : end_of board lane ≡ new.bus = (keeping.stands.ports place port.0 port.1).ends ∙ bus in
                    let grown = arrives.from_bus place lane was ∙ ap (λ b. (w (lane_back lane)).flight ++ cond b (carried full.1 ∷ []) []) self in
                    let more : length (w (lane_back lane)).flight < length (lanes_known board came (record { stamp = stamp; event = e } ∷ p) (lane_back lane)).flight =
                    omega (arith, ap length grown, length-append (w (lane_back lane)).flight (carried full.1 ∷ [])) in
                    let sends : Sends board new.bus (all_carried came) (events_of p) lane e = record { here = ends_here; allowed = arrives.marked; puts = more } in
                    record { cause = inr (inr (ap kept (sym same) ∙ full.3.2, (e, sends))) }
              ]
            ] in
            (place, lane, received.after, is, there, subst C (sym refusal) found);
      }

  pub received_does : IsValid board → length ends ≡ length old.ports → Takes had sent got kept paired board place item (record { bus = old; stamp = stamp; stopped = false }) mid events (record { bus = new; stamp = new_stamp; stopped = stopped }) after kept_events → Received
  received_does valid paired_up takes = elim takes as (λ _. Received) [ inl done ↦ received_arrives valid done | inr done ↦ received_stops paired_up done ]

-- Nothing came.
pub received_nothing : {End : Type 0} (had sent got : End → List Item) (kept : End → ℕ) (paired : End → End → Type 0) (board : Board) (place : ℕ) (bus : BusView) (stamp : ℕ) (stopped : Bool) (ends mid : List End) (events : List Stamped) → stopped ≡ false
    → ReceivesOne had sent got kept paired place ends None mid
    → Does had sent got kept paired board (record { bus = bus; stamp = stamp; stopped = false }) (record { bus = bus; stamp = stamp; stopped = stopped }) ends mid events events
received_nothing {End} had sent got kept paired board place bus stamp stopped ends mid events goes_on received =
    let G : Bool → Type 0 = λ b. SegmentGoes board (record { bus = bus; stamp = stamp; stopped = false }) (record { bus = bus; stamp = stamp; stopped = b }) [] (λ n. []) (λ n. []) in
    record {
      later = [];
      received = λ n. [];
      refused = λ n. None;
      puts = λ n. [];
      goes = subst G (sym goes_on) (same_past board bus bus stamp false refl (λ on tags world p stands. stands));
      recorded = sym (append-nil events);
      many = received.many;
      at_ends = λ n end end_after was is.
          let P : Bool → Type 0 = λ b. (n == place) ≡ b → EndAfter had sent got paired end end_after [] None [] in
          (elim (n == place) as P [
            | true ↦ λ here.
                let number : n ≡ place = eqb-true n place here in
                let first : slice_get ends place ≡ Some end = subst (λ m. slice_get ends m ≡ Some end) number was in
                let last : slice_get mid place ≡ Some end_after = subst (λ m. slice_get mid m ≡ Some end_after) number is in
                let both = sym first ∙ received.one.was in
                let then = sym last ∙ received.one.is in
                let one : end ≡ received.before = cc in
                let other : end_after ≡ received.after = cc in
                let E : End → End → Type 0 = λ a b. EndAfter had sent got paired a b [] None [] in
                subst (λ a. E a end_after) (sym one) (subst (λ b. E received.before b) (sym other) (record {
                  got_is = received.got_is ∙ sym (append-nil (got received.before ++ []));
                  sent_is = received.sent_is ∙ sym (append-nil (sent received.before));
                  had_is = received.had_is;
                  pairs = received.pairs;
                }))
            | false ↦ λ differ.
                let both = sym was ∙ (sym (received.one.others n (eqb-false n place differ)) ∙ is) in
                let same : end ≡ end_after = cc in
                subst (λ (e : End). EndAfter had sent got paired end e [] None []) same (end_still had sent got paired end)
          ]) refl;
      none_refused = λ on n. refl;
      stops = λ on off. cc;
    }
