use Rattle.std.proofs.Common.{◌≡◌, take}
use Rattle.std.specs.List.{find}
use Rattle.history_model.specs.Words.{landed}
use Rattle.history_model.specs.Runs.{history_of}
use Rattle.law_audit.specs.Chains.{op_in}
use Rattle.plain_audit.specs.Places.{dword, shows_by}
use Rattle.plain_audit.proofs.landings.first_shown.Given as goal

-- the first among what landed so far
abbrev pub invariant-loop-index : goal.invariant-loop-index
invariant-loop-index l =
    l.shown ≡ op_in (find (shows_by l.places.write l.places.since (history_of l.before)) (landed l.board (history_of (take l.index l.before)) (dword l.word)))
