use Rattle.std.proofs.Common.{◌≡◌, ℕ, ◌++◌, [], List, sym, subst, ◌∙◌, arith, string_bytes, append-nil}
use Rattle.std.specs.List.{flat_map}
use Rattle.board_model.specs.Valid.{is_bus}
use Rattle.board_printer.specs.Lines.{text_of}
use Rattle.run_waves.specs.declared.signal.Signal.{Signal}
use Rattle.run_waves.specs.Signals.{signals_on, signals_of}
use Rattle.run_waves.specs.Dump.{scopes, all_scopes}
use Rattle.run_waves.proofs.PassLemmas.{flat_one, flat_none}
use Rattle.run_waves.proofs.HeadLemmas.{buses_to, scope_one, scope_none}
use Rattle.run_waves.proofs.head.print_scopes.Goals as goal
use Rattle.run_waves.proofs.head.print_scopes.Goals.{then-is_bus+in_ok-print_scope, else-is_bus}

pub loop-bus-init : goal.loop-bus-init
loop-bus-init c = record { signals = c.requires.none; text = sym (append-nil (string_bytes c.args.text.now)) }

pub loop-bus-preserved : goal.loop-bus-preserved
loop-bus-preserved c =
    let board = c.args.board.now in
    let n = c.loop-bus.bus in
    let was = c.loop-bus.signals.items in
    let text = string_bytes c.loop-bus.text in
    let none : List Signal = [] in
    elim c.if-is_bus.branch [
      | then-is_bus+in_ok-print_scope w ↦
          let there = sym c.is_bus.ensures ∙ w.if-is_bus.true in
          record {
            signals = rw w.signals-is (flat_one (signals_on board) (is_bus board) n none was _ there c.loop-bus.invariant.signals w.in_ok-print_scope.ensures.signals);
            text = rw w.text-is (scope_one board n (string_bytes c.args.text.now) text _ was there c.loop-bus.invariant.signals c.loop-bus.invariant.text w.in_ok-print_scope.ensures.text);
          }
      | else-is_bus w ↦
          let no = sym c.is_bus.ensures ∙ w.if-is_bus.false in
          record {
            signals = rw w.signals-is (flat_none (signals_on board) (is_bus board) n none was no c.loop-bus.invariant.signals);
            text = rw w.text-is (scope_none board n (string_bytes c.args.text.now) text no c.loop-bus.invariant.text);
          }
    ]

pub returns-clause-text : goal.returns-clause-text
unfolding all_scopes
returns-clause-text c =
    let end : c.loop-bus.bus ≡ 256 = omega (arith, c.loop-bus.auto.bus-end, c.loop-bus-test.false) in
    subst (λ (n : ℕ). string_bytes c.loop-bus.text ≡ string_bytes c.args.text.now ++ text_of (scopes c.args.board.now 0 (buses_to c.args.board.now n))) end c.loop-bus.invariant.text

pub returns-clause-signals : goal.returns-clause-signals
unfolding signals_of
returns-clause-signals c =
    let end : c.loop-bus.bus ≡ 256 = omega (arith, c.loop-bus.auto.bus-end, c.loop-bus-test.false) in
    subst (λ (n : ℕ). c.loop-bus.signals.items ≡ flat_map (signals_on c.args.board.now) (buses_to c.args.board.now n)) end c.loop-bus.invariant.signals
