use Rattle.std.proofs.Common.{◌≡◌, ◌++◌, ℕ, List, sym, ap, subst, ◌∙◌, arith, append_assoc, string_bytes}
use Rattle.std.specs.List.{flat_map, range_with_len}
use Rattle.board_outline.specs.Outline.{place_text, outline_text}
use Rattle.board_outline.proofs.RangeLemmas.{text_more}
use Rattle.board_outline.proofs.buses.print_buses.Goals as goal

pub loop-bus-preserved : goal.loop-bus-preserved
loop-bus-preserved c =
    let part : ℕ → List ℕ = place_text c.args.board.now in
    let front : List ℕ = flat_map part (range_with_len 0 c.loop-bus.bus) in
    c.in_ok-print_place.ensures
    ∙ ap (λ (t : List ℕ). t ++ part c.loop-bus.bus) c.loop-bus.invariant
    ∙ append_assoc (string_bytes c.args.text.now) front (part c.loop-bus.bus)
    ∙ ap (λ (t : List ℕ). string_bytes c.args.text.now ++ t) (sym (text_more part c.loop-bus.bus))

pub returns : goal.returns
unfolding outline_text
returns c = let end : c.loop-bus.bus ≡ 256 = omega (arith, c.loop-bus.auto.bus-end, c.loop-bus-test.false) in
    subst (λ n. string_bytes c.loop-bus.text ≡ string_bytes c.args.text.now ++ flat_map (place_text c.args.board.now) (range_with_len 0 n)) end c.loop-bus.invariant
