use Rattle.std.proofs.Common.{◌≡◌, ◌++◌, drop}
use Rattle.observe_told.specs.Woven.{weave}
use Rattle.observe_told.proofs.woven.Woven.events.Given as goal

-- those that come next stand behind the events so far
abbrev pub invariant-loop-strand : goal.invariant-loop-strand
invariant-loop-strand l =
    l.events.items ++ weave (drop l.strand-index l.strand-items) (drop l.acts l.self.acts.items) ≡ weave l.strand-items l.self.acts.items
