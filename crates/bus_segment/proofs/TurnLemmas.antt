-- What is done step by step is done in one turn.
use Rattle.std.proofs.Common.{◌≡◌, ℕ, ◌<◌, true, false, List, [], ◌++◌, length, reverse, option_to_list, Option, None, refl, sym, ap, subst, ◌∙◌, arith}
use Rattle.std.proofs.lemmas.Option.{slice_get_within}
use Rattle.std.proofs.lemmas.List.{append-nil, append_assoc, reverse-append}
use Rattle.board_model.specs.declared.board.Board.{Board}
use Rattle.history_model.specs.declared.event.Stamped.{Stamped}
use Rattle.lane_items.specs.declared.item.Item.{Item}
use Rattle.bus_segment.specs.Segment.{SegmentView, SegmentPast}
use Rattle.bus_segment.specs.Ends.{EndAfter}
use Rattle.bus_segment.specs.Turn.{StopsAt, Does}
use Rattle.bus_segment.proofs.GoLemmas.{past_as, segment_none, segment_further}
use Rattle.bus_segment.proofs.EndLemmas.{end_still}
use Rattle.bus_segment.proofs.DoesLemmas.{there_at}

module _ {End : Type 0} (had sent got : End → List Item) (kept : End → ℕ) (paired : End → End → Type 0) (board : Board) where
  -- no step
  pub does_none : (s : SegmentView) (ends : List End) (events : List Stamped) → Does had sent got kept paired board s s ends ends events events
  does_none s ends events =
      record {
        later = [];
        received = λ n. [];
        refused = λ n. None;
        puts = λ n. [];
        goes = segment_none board s;
        recorded = sym (append-nil events);
        many = refl;
        at_ends = λ n end after was is.
            let both = sym was ∙ is in
            let same : end ≡ after = cc in
            subst (λ (e : End). EndAfter had sent got paired end e [] None []) same (end_still had sent got paired end);
        none_refused = λ on n. refl;
        stops = λ on off. let wrong : true ≡ false = sym off ∙ on in cc;
      }

  end_more : (a b c : End) (first more : List Item) (refused : Option Item) (puts others : List Item) → EndAfter had sent got paired a b first None puts → EndAfter had sent got paired b c more refused others
      → EndAfter had sent got paired a c (first ++ more) refused (puts ++ others)
  end_more a b c first more refused puts others one two =
      let before : got b ≡ got a ++ first = one.got_is ∙ append-nil (got a ++ first) in
      record {
        got_is = two.got_is ∙ ap (λ l. l ++ option_to_list refused) (ap (λ l. l ++ more) before ∙ append_assoc (got a) first more);
        sent_is = two.sent_is ∙ (ap (λ l. l ++ others) one.sent_is ∙ append_assoc (sent a) puts others);
        had_is = two.had_is ∙ one.had_is;
        pairs = record { as_first = λ other is. two.pairs.as_first other (one.pairs.as_first other is); as_second = λ other is. two.pairs.as_second other (one.pairs.as_second other is) };
      }

  -- one more step, while the segment goes on
  pub does_further : (old mid new : SegmentView) (ends between after : List End) (events some all : List Stamped) → old.stopped ≡ false → mid.stopped ≡ false
      → Does had sent got kept paired board old mid ends between events some → Does had sent got kept paired board mid new between after some all
      → Does had sent got kept paired board old new ends after events all
  does_further old mid new ends between after events some all began goes_on one two =
      record {
        later = two.later ++ one.later;
        received = λ n. one.received n ++ two.received n;
        refused = two.refused;
        puts = λ n. one.puts n ++ two.puts n;
        goes = segment_further board old mid new one.later two.later one.received two.received one.puts two.puts one.goes two.goes;
        recorded = two.recorded
            ∙ (ap (λ l. l ++ reverse two.later) one.recorded
            ∙ (append_assoc events (reverse one.later) (reverse two.later)
            ∙ ap (λ l. events ++ l) (sym (reverse-append two.later one.later))));
        many = two.many ∙ one.many;
        at_ends = λ n end end_after was is.
            let within : n < length between = let f = slice_get_within ends n end was in let m = one.many in omega arith in
            let middle = there_at between n within in
            let first : EndAfter had sent got paired end middle.0 (one.received n) None (one.puts n) =
            subst (λ r. EndAfter had sent got paired end middle.0 (one.received n) r (one.puts n)) (one.none_refused goes_on n) (one.at_ends n end middle.0 was middle.1) in
            end_more end middle.0 end_after (one.received n) (two.received n) (two.refused n) (one.puts n) (two.puts n) first (two.at_ends n middle.0 end_after middle.1 is);
        none_refused = two.none_refused;
        stops = λ on off came p rest put past.
            let left : ℕ → List Item = λ n. two.received n ++ (option_to_list (two.refused n) ++ rest n) in
            let began_past = past_as board came p old (λ n. (one.received n ++ two.received n) ++ (option_to_list (two.refused n) ++ rest n)) (λ n. one.received n ++ left n) put put
            (λ n. append_assoc (one.received n) (two.received n) (option_to_list (two.refused n) ++ rest n)) (λ n. refl) past in
            let half : SegmentPast board came (one.later ++ p) mid left (λ n. put n ++ one.puts n) = one.goes.goes came p left put began_past in
            let found = two.stops goes_on off came (one.later ++ p) rest (λ n. put n ++ one.puts n) half in
            let P : List Stamped → Type 0 = λ q. StopsAt board new.bus.bus came q found.1 (two.refused found.0) (kept found.2) in
            (found.0, found.1, found.2, found.3, found.4, subst P (sym (append_assoc two.later one.later p)) found.5);
      }
