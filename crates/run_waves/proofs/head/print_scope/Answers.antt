use Rattle.std.proofs.Common.{[], ◌∷◌, ◌++◌, List, codes, length, ap, ◌∙◌, string_bytes}
use Rattle.std.proofs.lemmas.Result.{IfOk-weaker}
use Rattle.board_printer.specs.Lines.{text_of}
use Rattle.run_waves.specs.declared.signal.Signal.{Signal}
use Rattle.run_waves.specs.Signals.{signals_on}
use Rattle.run_waves.specs.Dump.{var_lines, scope_title}
use Rattle.run_waves.proofs.HeadLemmas.{scope_text, drop_front}
use Rattle.run_waves.proofs.head.print_scope.Goals as goal

pub returns-clause-text : goal.returns-clause-text
returns-clause-text c =
    let board = c.args.board.now in
    let bus = c.args.bus in
    let first = c.len-first.result in
    let before = c.args.signals.now.items in
    let on = signals_on board bus in
    let count = c.len-first.ensures ∙ c.args.signals.now.ok.0 in
    let all = c.as_slice.ensures.value ∙ c.in_ok-add_bus.ensures in
    let rest = drop_front before on c.as_slice.result.now first count all in
    let vars = ap (λ (l : List Signal). string_bytes c.print_title.new.text ++ text_of (var_lines board first l)) rest in
    let number = ap (λ n. string_bytes c.print_title.new.text ++ text_of (var_lines board n on)) count in
    IfOk-weaker _ _ _
    (λ _ ended. scope_text (scope_title bus) (var_lines board (length before) on) (codes "$upscope" ∷ codes "$end" ∷ []) (string_bytes c.args.text.now) (string_bytes c.print_title.new.text) (string_bytes c.print_vars.new.text) (string_bytes c.writeln.new.self)
    c.in_ok-print_title.ensures (c.in_ok-print_vars.ensures ∙ vars ∙ number) ended)
    c.writeln.ensures.bytes
