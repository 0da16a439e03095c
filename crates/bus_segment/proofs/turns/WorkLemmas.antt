-- What is done step by step, and counts of arrivals.
use Rattle.std.proofs.Common.{◌≡◌, ℕ, ◌+◌, ◌<◌, ◌≤◌, Bool, true, false, ◌==◌, List, ◌++◌, length, reverse, option_to_list, Some, refl, sym, ap, subst, ◌∙◌, arith, slice_get}
use Rattle.std.specs.List.{AllByRecursion}
use Rattle.std.proofs.lemmas.Bool.{eqb-true, eqb-false}
use Rattle.std.proofs.lemmas.Option.{slice_get_within}
use Rattle.std.proofs.lemmas.List.{length-append}
use Rattle.pci_command.specs.declared.op_id.OpId.{OpId}
use Rattle.board_model.specs.declared.board.Board.{Board}
use Rattle.history_model.specs.declared.event.By.{By}
use Rattle.history_model.specs.declared.event.Stamped.{Stamped}
use Rattle.lane_items.specs.declared.item.Item.{Item}
use Rattle.bus_core.specs.Bus.{BusView, arrivals_at}
use Rattle.bus_core.specs.Calls.{stamp_of}
use Rattle.bus_core.specs.Serves.{OneMoreAt}
use Rattle.bus_segment.specs.Segment.{SegmentView}
use Rattle.bus_segment.specs.Turn.{Does}
use Rattle.bus_segment.specs.Steps.{AllItems, StampsRise, ArrivedUpTo, GetsRetry}
use Rattle.bus_segment.proofs.Laws.{does_none, does_further, all_front, there_at}
use Rattle.bus_segment.specs.turns.Works.{Works}

-- Arrivals.

pub none_arrived : (most n : ℕ) (old new : BusView) → most ≤ n → new ≡ old → ArrivedUpTo most old → ArrivedUpTo n new
none_arrived most n old new le same old_up = record { up_to = λ k count is. let was = old_up.up_to k count (ap (λ (s : BusView). slice_get (arrivals_at s) k) (sym same) ∙ is) in omega arith }

pub same_arrived : (most n : ℕ) (old new : BusView) → most ≤ n → arrivals_at new ≡ arrivals_at old → ArrivedUpTo most old → ArrivedUpTo n new
same_arrived most n old new le same old_up = record { up_to = λ k count is. let was = old_up.up_to k count (ap (λ l. slice_get l k) (sym same) ∙ is) in omega arith }

pub one_arrived : (place most n : ℕ) (old new : BusView) → n ≡ most + 1 → OneMoreAt place (arrivals_at old) (arrivals_at new) → ArrivedUpTo most old → ArrivedUpTo n new
one_arrived place most n old new more one old_up =
    record {
      up_to = λ k count is.
          let before : one.before ≤ most = old_up.up_to place one.before one.one.was in
          let P : Bool → Type 0 = λ b. (k == place) ≡ b → count ≤ n in
          (elim (k == place) as P [
            | true ↦ λ here.
                let number : k ≡ place = eqb-true k place here in
                let at : slice_get (arrivals_at new) place ≡ Some count = subst (λ m. slice_get (arrivals_at new) m ≡ Some count) number is in
                let both = sym one.one.is ∙ at in
                let same : one.before + 1 ≡ count = cc in
                omega arith
            | false ↦ λ apart. let was = old_up.up_to k count (sym (one.one.others k (eqb-false k place apart)) ∙ is) in omega arith
          ]) refl;
    }

-- Nothing is done.

-- what gets a Retry after nothing was done would have got one before
pub retry_before : (board : Board) (a b : BusView) (by : By) (o : OpId) → b ≡ a → GetsRetry board b by o → GetsRetry board a by o
retry_before board a b by o same retry = subst (λ s. GetsRetry board s by o) same retry

module _ {End : Type 0} (had sent got : End → List Item) (kept : End → ℕ) (paired : End → End → Type 0) (board : Board) where
  stamps_none : (stamp : ℕ) (ends : List End) → StampsRise sent got stamp stamp ends ends
  stamps_none stamp ends = record { rise = λ among has next up. (has, up) }

  -- items got by then were got by later
  got_before : (old new : SegmentView) (ends after : List End) (events all : List Stamped) → Does had sent got kept paired board old new ends after events all → (P : Item → Type 0) → AllItems got P after → AllItems got P ends
  got_before old new ends after events all does P all_after =
      λ n end is.
      let within : n < length after = let f = slice_get_within ends n end is in let m = does.many in omega arith in
      let later = there_at after n within in
      let one = does.at_ends n end later.0 is later.1 in
      let whole : AllByRecursion P ((got end ++ does.received n) ++ option_to_list (does.refused n)) = subst (λ l. AllByRecursion P l) one.got_is (all_after n later.0 later.1) in
      all_front P (got end) (does.received n) (all_front P (got end ++ does.received n) (option_to_list (does.refused n)) whole)

  pub stamps_further : (old mid new : SegmentView) (ends between after : List End) (some all : List Stamped) → StampsRise sent got old.stamp mid.stamp ends between → Does had sent got kept paired board mid new between after some all
      → StampsRise sent got mid.stamp new.stamp between after → StampsRise sent got old.stamp new.stamp ends after
  stamps_further old mid new ends between after some all one does two =
      record {
        rise = λ among has next up.
            let first = one.rise among has (got_before mid new between after some all does (λ item. among (stamp_of item + 1) ≡ true) next) up in
            two.rise among first.0 next first.1;
      }

  pub does_grows : (old new : SegmentView) (ends after : List End) (events all : List Stamped) → Does had sent got kept paired board old new ends after events all → length events ≤ length all
  does_grows old new ends after events all does = let many = ap length does.recorded in omega (arith, length-append events (reverse does.later))

  pub works_none : (most : ℕ) (s : SegmentView) (ends : List End) (events : List Stamped) → Works had sent got kept paired board most s s ends ends events events
  works_none most s ends events =
      record {
        does = does_none had sent got kept paired board s ends events;
        shape = refl;
        stamps = stamps_none s.stamp ends;
        counts = λ on up. up;
        grows = omega arith;
        most = omega arith;
      }

  pub works_further : (first second : ℕ) (old mid new : SegmentView) (ends between after : List End) (events some all : List Stamped) → old.stopped ≡ false → mid.stopped ≡ false
      → Works had sent got kept paired board first old mid ends between events some → Works had sent got kept paired board second mid new between after some all
      → Works had sent got kept paired board (first + second) old new ends after events all
  works_further first second old mid new ends between after events some all began goes_on one two =
      record {
        does = does_further had sent got kept paired board old mid new ends between after events some all began goes_on one.does two.does;
        shape = two.shape ∙ one.shape;
        stamps = stamps_further old mid new ends between after some all one.stamps two.does two.stamps;
        counts = λ on up. two.counts on (one.counts goes_on up);
        grows = omega (arith, one.grows, two.grows);
        most = omega (arith, one.most, two.most);
      }

  pub works_within : (most least : ℕ) (old new : SegmentView) (ends after : List End) (events all : List Stamped) → length all ≤ length events + least → Works had sent got kept paired board most old new ends after events all
      → Works had sent got kept paired board least old new ends after events all
  works_within most least old new ends after events all within works =
      record { does = works.does; shape = works.shape; stamps = works.stamps; counts = works.counts; grows = works.grows; most = within }
