use Rattle.std.proofs.Common.{◌≡◌, drop}
use Rattle.untagged_check.specs.index.Entries.{first_in}
use Rattle.untagged_check.proofs.index.authors.first_in.Given as goal

-- none of the masters so far has one
abbrev pub invariant-loop-author : goal.invariant-loop-author
invariant-loop-author l = first_in l.events l.bounds l.authors ≡ first_in l.events l.bounds (drop l.author-index l.authors)
