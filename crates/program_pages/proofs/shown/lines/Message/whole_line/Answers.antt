use Rattle.std.proofs.Common.{◌∙◌}
use Rattle.std.specs.Prelude.{is_ok}
use Rattle.program_pages.proofs.shown.ShownLemmas.{either_shown}
use Rattle.program_pages.proofs.shown.lines.Message.whole_line.Goals as goal

-- the line was put behind the others, or there was no memory and they are as they were
pub invariant_of-self-2 : goal.invariant_of-self-2
invariant_of-self-2 c =
    either_shown (is_ok c.extend_from_slice.result) c.self.inside.text.items c.args.text.now c.as_slice.result.now c.extend_from_slice.new.self.items
    c.self.invariant (c.as_slice.ensures.value ∙ c.in_ok-line.ensures) c.extend_from_slice.ensures.items
