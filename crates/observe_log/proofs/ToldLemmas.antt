-- What the passes over acts and lines find out makes acts that are told by a log.
use Rattle.std.proofs.Common.{◌≡◌, ℕ, ◌<◌, List, length, map, get_or, Some, ap, ◌∙◌, arith}
use Rattle.std.specs.List.{slice_get}
use Rattle.std.specs.Option.{option_map}
use Rattle.std.proofs.lemmas.List.{length-map}
use Rattle.std.proofs.lemmas.Option.{slice_get-get_or, slice_get-map, slice_get_within}
use Rattle.board_model.specs.declared.board.Board.{Board}
use Rattle.history_model.specs.declared.event.Event.{Event}
use Rattle.law_early.specs.Early.{acts_of}
use Rattle.observe_told.specs.declared.seen.Seen.{Seen}
use Rattle.observe_told.specs.declared.seen.Log.{Log}
use Rattle.observe_log.specs.declared.shown.Shown.{Shown}
use Rattle.observe_log.specs.declared.shown.Shown.TheVariants.{Dwords}
use Rattle.observe_log.specs.SeenBoards.{IsSeenBoard}
use Rattle.observe_log.specs.Told.{AreToldBy}
use Rattle.observe_log.specs.Checks.{AllFollow, AllOver, AllInOrder, AreBegun, AllBegin}
use Rattle.observe_log.proofs.EventLemmas.{begun_acts}
use Rattle.observe_log.proofs.BegunLemmas.{all_begun, all_in_turn}

pub told_from : (log : Log) (board : Board) (events : List Event) (lines : List ℕ) (before shown : List Shown) (turns : List ℕ)
    → IsSeenBoard log.board board → before ≡ map (λ _. Dwords 0) log.lines
    → AllFollow log board (acts_of events) lines before shown → AllOver log shown → AllInOrder log.lines lines
    → AreBegun events (length events) turns → AllBegin board.masters turns
    → AreToldBy log board (acts_of events) lines
told_from log board events lines before shown turns board_is nothing follow over ordered counted all = record {
  board_is = board_is;
  beside = follow.beside;
  of_lines = follow.of_lines;
  each_line = λ n seen there.
      let within : n < length log.lines = slice_get_within log.lines n seen there in
      let long : length before ≡ length log.lines = ap length nothing ∙ length-map log.lines _ in
      let inside : n < length shown = omega (arith, within, long, follow.each) in
      let last : slice_get shown n ≡ Some (get_or shown n (Dwords 0)) = slice_get-get_or shown n (Dwords 0) inside in
      let first : slice_get before n ≡ Some (Dwords 0) =
      ap (λ (l : List Shown). slice_get l n) nothing ∙ slice_get-map {A = Seen} (λ _. Dwords 0) log.lines n ∙ ap (option_map (λ _. Dwords 0)) there in
      record {
        shown = get_or shown n (Dwords 0);
        follows = follow.follow n seen (Dwords 0) (get_or shown n (Dwords 0)) there first last;
        over = over.over n seen (get_or shown n (Dwords 0)) there last;
      };
  order = ordered.order;
  turns = all_in_turn (acts_of events) turns (begun_acts events turns counted);
  programs = all_begun (acts_of events) (length (acts_of events)) board.masters turns (begun_acts events turns counted) all;
}
