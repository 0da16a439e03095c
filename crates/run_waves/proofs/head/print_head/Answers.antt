use Rattle.std.proofs.Common.{[], ◌∷◌, codes, string_bytes}
use Rattle.run_waves.specs.Dump.{all_scopes}
use Rattle.run_waves.proofs.HeadLemmas.{head_text}
use Rattle.run_waves.proofs.head.print_head.Goals as goal

pub returns-clause-text : goal.returns-clause-text
returns-clause-text c =
    head_text (codes "$version" ∷ codes "pcitree" ∷ codes "$end" ∷ []) (codes "$timescale" ∷ codes "1" ∷ codes "ns" ∷ codes "$end" ∷ []) (all_scopes c.args.board.now) (codes "$enddefinitions" ∷ codes "$end" ∷ [])
    (string_bytes c.args.text.now) (string_bytes c.writeln.new.self) (string_bytes c.writeln-2.new.self) (string_bytes c.print_scopes.new.text) (string_bytes c.writeln-3.new.self)
    c.in_ok-writeln.ensures.bytes c.in_ok-writeln-2.ensures.bytes c.in_ok-print_scopes.ensures.text c.in_ok-writeln-3.ensures.bytes
