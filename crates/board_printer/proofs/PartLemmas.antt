-- The texts of a bridge's options, of a target and of a board, part by part.
use Rattle.std.proofs.Common.{◌≡◌, List, ◌++◌, [], ◌∷◌, map, codes, refl}
use Rattle.board_model.specs.declared.bridge.Bridge.{Bridge}
use Rattle.board_model.specs.declared.agents.Target.{Target}
use Rattle.board_printer.specs.Lines.{Line, spaced, line_text, text_of}
use Rattle.board_printer.specs.Bridges.{window_words, depth_words, mode_words, option_words}
use Rattle.board_printer.specs.Targets.{target_line, id_lines, stall_lines, burst_lines, range_line, opening_line, target_lines}
use Rattle.board_printer.proofs.LineLemmas.{spaced-append, text_of-append}

pub spaced_options : (bridge : Bridge) → spaced (option_words bridge) []
    ≡ spaced (window_words (codes "mem") bridge.mem) [] ++ (spaced (window_words (codes "pref") bridge.pref) [] ++ (spaced (window_words (codes "io") bridge.io) []
    ++ (spaced (depth_words (codes "posted") bridge.posted) [] ++ (spaced (depth_words (codes "delayed") bridge.delayed) [] ++ spaced (mode_words bridge.mode) []))))
spaced_options bridge = rw (spaced-append, spaced-append, spaced-append, spaced-append, spaced-append) refl

seven : (first : Line) (b c d e f g : List Line) → text_of (first ∷ (b ++ (c ++ (d ++ (e ++ (f ++ g))))))
    ≡ line_text first ++ (text_of b ++ (text_of c ++ (text_of d ++ (text_of e ++ (text_of f ++ text_of g)))))
seven first b c d e f g = rw (text_of-append b, text_of-append c, text_of-append d, text_of-append e, text_of-append f) refl

pub text_of_target : (target : Target) → text_of (target_lines target)
    ≡ line_text (target_line target) ++ (text_of (id_lines target) ++ (text_of (stall_lines target.stalls) ++ (text_of (burst_lines target.burst)
    ++ (text_of (map (range_line (codes "range")) target.ranges)
    ++ (text_of (map (range_line (codes "abort")) target.aborts)
    ++ text_of (map opening_line target.openings))))))
text_of_target target =
    seven (target_line target) (id_lines target) (stall_lines target.stalls) (burst_lines target.burst)
    (map (range_line (codes "range")) target.ranges) (map (range_line (codes "abort")) target.aborts) (map opening_line target.openings)
