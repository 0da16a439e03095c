-- How far stamps and counts get in a step of a turn.
use Rattle.std.proofs.Common.{◌≡◌, ℕ, ◌+◌, ◌<◌, ◌≤◌, max, Bool, true, false, cond, ◌==◌, nat_lt, List, [], ◌∷◌, ◌++◌, length, Option, Some, None, inl, inr, refl, sym, ap, subst, ◌∙◌, arith, slice_get}
use Rattle.std.specs.List.{AllByRecursion}
use Rattle.std.proofs.lemmas.Bool.{eqb-true, eqb-false, ltb-true, ltb-false}
use Rattle.std.proofs.lemmas.Option.{slice_get_within}
use Rattle.std.proofs.lemmas.List.{append-nil, length-append}
use Rattle.board_model.specs.declared.board.Board.{Board}
use Rattle.history_model.specs.declared.event.Stamped.{Stamped}
use Rattle.lane_items.specs.declared.item.Item.{Item}
use Rattle.lane_items.specs.Lane.{in_hand}
use Rattle.bus_core.specs.declared.given.Sent.{Sent}
use Rattle.bus_core.specs.declared.given.Acted.{Acted}
use Rattle.bus_core.specs.declared.given.Served.{Served}
use Rattle.bus_core.specs.declared.given.Served.TheVariants.{Nothing, Retried, TurnsBack as Back, Did}
use Rattle.bus_core.specs.Calls.{stamp_of, items_at, IsStamped}
use Rattle.bus_core.specs.Serves.{HasStamp, SendsStamped}
use Rattle.bus_segment.specs.Segment.{SegmentView}
use Rattle.bus_segment.specs.Ends.{SendsBoth, ReceivesOne, sent_at}
use Rattle.bus_segment.specs.Turn.{Records, Finishes, IsArrived, IsNotArrived, Takes}
use Rattle.bus_segment.specs.Steps.{AllItems, StampsRise, NothingCame}
use Rattle.bus_segment.proofs.DoesLemmas.{there_at}

-- the stamp of an item is among these numbers, and the next number is
abbrev In : (ℕ → Bool) → Item → Type 0
In among item = among (stamp_of item) ≡ true

abbrev NextIn : (ℕ → Bool) → Item → Type 0
NextIn among item = among (stamp_of item + 1) ≡ true

-- the greater of two numbers is one of them
greater_in : (among : ℕ → Bool) (a b : ℕ) → among a ≡ true → among b ≡ true → among (max a b) ≡ true
greater_in among a b one other =
    let P : Bool → Type 0 = λ c. nat_lt a b ≡ c → among (max a b) ≡ true in
    (elim (nat_lt a b) as P [
      | true ↦ λ is. let less = ltb-true a b is in let same : max a b ≡ b = omega (arith, less) in ap among same ∙ other
      | false ↦ λ is. let more = ltb-false a b is in let same : max a b ≡ a = omega (arith, more) in ap among same ∙ one
    ]) refl

pub all_joined : {X : Type 0} (P : X → Type 0) (xs ys : List X) → AllByRecursion P xs → AllByRecursion P ys → AllByRecursion P (xs ++ ys)
all_joined P [] ys one other = other
all_joined P (x ∷ xs) ys one other = (one.0, all_joined P xs ys one.1 other)

pub all_front : {X : Type 0} (P : X → Type 0) (xs ys : List X) → AllByRecursion P (xs ++ ys) → AllByRecursion P xs
all_front P [] ys all = tt
all_front P (x ∷ xs) ys all = (all.0, all_front P xs ys all.1)

pub all_back : {X : Type 0} (P : X → Type 0) (xs ys : List X) → AllByRecursion P (xs ++ ys) → AllByRecursion P ys
all_back P [] ys all = all
all_back P (x ∷ xs) ys all = all_back P xs ys all.1

-- what is sent with a stamp
sent_in : (stamp : ℕ) (among : ℕ → Bool) (sent : Option Sent) (n : ℕ) → among stamp ≡ true → IsStamped stamp sent → AllByRecursion (In among) (items_at sent n)
sent_in stamp among None n has is = tt
sent_in stamp among (Some sent) n has is =
    let within : In among sent.item = ap among is ∙ has in
    let P : Bool → Type 0 = λ b. AllByRecursion (In among) (cond b (sent.item ∷ []) []) in
    elim (sent.place == n) as P [ true ↦ (within, tt) | false ↦ tt ]

back_is_stamped : (stamp place : ℕ) (back : Option Item) → HasStamp stamp back → IsStamped stamp (sent_at place back)
back_is_stamped stamp place None is = tt
back_is_stamped stamp place (Some item) is = is

module _ {End : Type 0} (had sent got : End → List Item) (kept : End → ℕ) (paired : End → End → Type 0) where
  -- nothing was sent
  pub stamps_stay : (stamp : ℕ) (ends after : List End) → after ≡ ends → StampsRise sent got stamp stamp ends after
  stamps_stay stamp ends after same = record { rise = λ among le below up. (le, subst (AllItems sent (In among)) (sym same) up) }

  -- these were sent
  both_stamps : (stamp : ℕ) (ends after : List End) (over back : Option Sent) → SendsBoth had sent got paired ends over back after → IsStamped stamp over → IsStamped stamp back → StampsRise sent got stamp stamp ends after
  both_stamps stamp ends after over back sends over_stamp back_stamp =
      record {
        rise = λ among le below up. (
          le,
          λ n end is.
              let within : n < length ends = let f = slice_get_within after n end is in let m = sends.many in omega arith in
              let first = there_at ends n within in
              let one = sends.each n first.0 end first.1 is in
              let more : AllByRecursion (In among) (items_at over n ++ items_at back n) = all_joined (In among) (items_at over n) (items_at back n) (sent_in stamp among over n le over_stamp) (sent_in stamp among back n le back_stamp) in
              subst (λ l. AllByRecursion (In among) l) (sym one.sent_is) (all_joined (In among) (sent first.0) (items_at over n ++ items_at back n) (up n first.0 first.1) more),
        );
      }

  records_stamps : (acted : Acted) (stamp : ℕ) (ends after : List End) (events all : List Stamped) (stopped : Bool) → Records had sent got kept paired acted stamp ends after events all stopped → IsStamped stamp acted.over × IsStamped stamp acted.back
      → StampsRise sent got stamp stamp ends after
  records_stamps acted stamp ends after events all false done stamped = both_stamps stamp ends after acted.over acted.back done.sends stamped.0 stamped.1
  records_stamps acted stamp ends after events all true done stamped = stamps_stay stamp ends after done.same_ends

  pub finishes_stamps : (presented : Served) (stamp : ℕ) (ends after : List End) (events all : List Stamped) (stopped : Bool) → Finishes had sent got kept paired presented stamp ends after events all stopped → SendsStamped stamp presented
      → StampsRise sent got stamp stamp ends after
  finishes_stamps Nothing stamp ends after events all stopped done stamped = stamps_stay stamp ends after done.0
  finishes_stamps Retried stamp ends after events all stopped done stamped = stamps_stay stamp ends after done.0
  finishes_stamps Back stamp ends after events all stopped done stamped = stamps_stay stamp ends after done.0
  finishes_stamps (Did acted) stamp ends after events all stopped done stamped = records_stamps acted stamp ends after events all stopped done stamped

  -- at most one event
  records_most : (acted : Acted) (stamp : ℕ) (ends after : List End) (events all : List Stamped) (stopped : Bool) → Records had sent got kept paired acted stamp ends after events all stopped → length all ≤ length events + 1
  records_most acted stamp ends after events all false done = let many = ap length done.event in let l = length-append events (record { stamp = stamp; event = acted.event } ∷ []) in omega arith
  records_most acted stamp ends after events all true done = let many = ap length done.same_events in omega arith

  pub finishes_most : (presented : Served) (stamp : ℕ) (ends after : List End) (events all : List Stamped) (stopped : Bool) → Finishes had sent got kept paired presented stamp ends after events all stopped → length all ≤ length events + 1
  finishes_most Nothing stamp ends after events all stopped done = let many = ap length done.1 in omega arith
  finishes_most Retried stamp ends after events all stopped done = let many = ap length done.1 in omega arith
  finishes_most Back stamp ends after events all stopped done = let many = ap length done.1 in omega arith
  finishes_most (Did acted) stamp ends after events all stopped done = records_most acted stamp ends after events all stopped done

  -- Received.
  module _ (place : ℕ) (ends mid : List End) where
    -- the same end, or that which received
    other_end : (item : Option Item) → ReceivesOne had sent got kept paired place ends item mid → (n : ℕ) (end middle : End) → slice_get ends n ≡ Some end → slice_get mid n ≡ Some middle → sent middle ≡ sent end
    other_end item received n end middle was is =
        let P : Bool → Type 0 = λ b. (n == place) ≡ b → sent middle ≡ sent end in
        (elim (n == place) as P [
          | true ↦ λ here.
              let number : n ≡ place = eqb-true n place here in
              let first : slice_get ends place ≡ Some end = subst (λ m. slice_get ends m ≡ Some end) number was in
              let last : slice_get mid place ≡ Some middle = subst (λ m. slice_get mid m ≡ Some middle) number is in
              let both = sym first ∙ received.one.was in
              let then = sym last ∙ received.one.is in
              let one : end ≡ received.before = cc in
              let other : middle ≡ received.after = cc in
              ap sent other ∙ (received.sent_is ∙ ap sent (sym one))
          | false ↦ λ apart.
              let both = sym was ∙ (sym (received.one.others n (eqb-false n place apart)) ∙ is) in
              let same : end ≡ middle = cc in
              ap sent (sym same)
        ]) refl

    -- what was received changes nothing that was sent
    mid_in : (item : Option Item) (among : ℕ → Bool) → ReceivesOne had sent got kept paired place ends item mid → AllItems sent (In among) ends → AllItems sent (In among) mid
    mid_in item among received up =
        λ n middle is.
        let within : n < length ends = let f = slice_get_within mid n middle is in let m = received.many in omega arith in
        let first = there_at ends n within in
        subst (λ l. AllByRecursion (In among) l) (sym (other_end item received n first.0 middle first.1 is)) (up n first.0 first.1)

    pub nothing_stamps : (stamp : ℕ) → ReceivesOne had sent got kept paired place ends None mid → StampsRise sent got stamp stamp ends mid
    nothing_stamps stamp received = record { rise = λ among le below up. (le, mid_in None among received up) }

    pub nothing_came : ReceivesOne had sent got kept paired place ends None mid → NothingCame had got place ends mid
    nothing_came received =
        record {
          nothing = λ end is.
              let both = sym is ∙ received.one.is in
              let same : end ≡ received.after = cc in
              let gone : got received.after ≡ got received.before = received.got_is ∙ append-nil (got received.before) in
              let H : List Item → List Item → Type 0 = λ h g. in_hand h g ≡ [] in
              subst (λ e. in_hand (had e) (got e) ≡ []) (sym same) (subst (λ h. H h (got received.after)) (sym received.had_is) (subst (λ g. H (had received.before) g) (sym gone) received.none));
          others = received.one.others;
        }

    module _ (item : Item) (board : Board) (old new : SegmentView) (after : List End) (events all : List Stamped) (received : ReceivesOne had sent got kept paired place ends (Some item) mid) where
      arrived_stamps : IsArrived had sent got paired board place item old mid events new after all → StampsRise sent got old.stamp new.stamp ends after
      arrived_stamps done =
          record {
            rise = λ among le below up.
                let within : place < length after = let f = slice_get_within mid place received.after received.one.is in let m = done.sends.many in omega arith in
                let last = there_at after place within in
                let end_after = done.sends.each place received.after last.0 received.one.is last.1 in
                let gone : got last.0 ≡ got received.before ++ item ∷ [] = end_after.got_is ∙ (append-nil (got received.after ++ []) ∙ (append-nil (got received.after) ∙ received.got_is)) in
                let all_below : AllByRecursion (NextIn among) (got received.before ++ item ∷ []) = subst (λ l. AllByRecursion (NextIn among) l) gone (below place last.0 last.1) in
                let item_next : among (stamp_of item + 1) ≡ true = (all_back (NextIn among) (got received.before) (item ∷ []) all_below).0 in
                let reached : among new.stamp ≡ true = ap among done.stamp_is ∙ greater_in among old.stamp (stamp_of item + 1) le item_next in (
                  reached,
                  λ n end is.
                      let there : n < length mid = let f = slice_get_within after n end is in let m = done.sends.many in omega arith in
                      let first = there_at mid n there in
                      let one = done.sends.each n first.0 end first.1 is in
                      let stamped : IsStamped new.stamp done.back = subst (λ b. IsStamped new.stamp b) (sym done.back_is) (back_is_stamped new.stamp place done.back_item done.stamped) in
                      subst (λ l. AllByRecursion (In among) l) (sym one.sent_is)
                      (all_joined (In among) (sent first.0) (items_at done.back n) (mid_in (Some item) among received up n first.0 first.1) (sent_in new.stamp among done.back n reached stamped)),
                );
          }

      stopped_stamps : IsNotArrived kept board place item old mid events new after all → StampsRise sent got old.stamp new.stamp ends after
      stopped_stamps done =
          record {
            rise = λ among le below up. (ap among done.same_stamp ∙ le, subst (AllItems sent (In among)) (sym done.same_ends) (mid_in (Some item) among received up));
          }

      pub takes_stamps : Takes had sent got kept paired board place item old mid events new after all → StampsRise sent got old.stamp new.stamp ends after
      takes_stamps takes = elim takes as (λ _. StampsRise sent got old.stamp new.stamp ends after) [ inl done ↦ arrived_stamps done | inr done ↦ stopped_stamps done ]

      pub takes_most : Takes had sent got kept paired board place item old mid events new after all → length all ≤ length events + 1
      takes_most takes = elim takes as (λ _. length all ≤ length events + 1) [
        | inl done ↦ let many = ap length done.event in omega (arith, length-append {A = Stamped})
        | inr done ↦ let many = ap length done.same_events in omega arith
      ]

      pub takes_recorded : Takes had sent got kept paired board place item old mid events new after all → new.stopped ≡ false → length all ≡ length events + 1
      takes_recorded takes on = elim takes as (λ _. length all ≡ length events + 1) [
        | inl done ↦ let many = ap length done.event in omega (arith, length-append {A = Stamped})
        | inr done ↦ let off = done.stops in cc
      ]
