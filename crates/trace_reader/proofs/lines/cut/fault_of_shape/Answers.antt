use Rattle.std.proofs.Common.{sym, ◌∙◌}
use Rattle.trace_reader.specs.lines.Lines.{pieces_of}
use Rattle.trace_reader.proofs.lines.ShapeLemmas.{end_misshapen, kind_misshapen, kind_missing}
use Rattle.trace_reader.proofs.lines.cut.fault_of_shape.Goals as goal

pub returns-then-begins_end : goal.returns-then-begins_end
returns-then-begins_end c = λ board. end_misshapen board (pieces_of c.args.line.now) c.requires (sym c.begins_end.ensures ∙ c.if-begins_end.true)

pub returns-then-has_kind : goal.returns-then-has_kind
returns-then-has_kind c = λ board. kind_misshapen board (pieces_of c.args.line.now) c.requires (sym c.begins_end.ensures ∙ c.if-begins_end.false) (sym c.has_kind.ensures ∙ c.if-has_kind.true)

pub returns : goal.returns
returns c = λ board. kind_missing board (pieces_of c.args.line.now) (sym c.begins_end.ensures ∙ c.if-begins_end.false) (sym c.has_kind.ensures ∙ c.if-has_kind.false)
