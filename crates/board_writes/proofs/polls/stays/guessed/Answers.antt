use Rattle.std.proofs.Common.{[], ◌∷◌, true, refl, subst}
use Rattle.std.proofs.lemmas.Option.{IfSome_then}
use Rattle.board_writes.specs.Stretches.{joined}
use Rattle.board_writes.specs.Looks.{TellAlike}
use Rattle.board_writes.proofs.StretchLemmas.{stretch_at}
use Rattle.board_writes.proofs.StayLemmas.{told_ended, among_at}
use Rattle.board_writes.proofs.RaisingLemmas.{among_joined, staying_joined}
use Rattle.board_writes.proofs.polls.stays.guessed.Goals as goal

pub staying_in-requires-clause-run : goal.staying_in-requires-clause-run
staying_in-requires-clause-run c = stretch_at c.runs.result.now c.guess.result c.in-Some.these.now c.in-Some.these.now c.in-Some.ensures.lookup.3.0 c.in-Some.ensures.lookup.1 refl c.runs.ensures.each

pub staying_in-requires-clause-among : goal.staying_in-requires-clause-among
staying_in-requires-clause-among c =
    among_at (joined c.runs-in-Some.result.now) c.runs.result.now c.guess.result c.in-Some.these.now c.in-Some.these.now c.in-Some.ensures.lookup.3.0 c.in-Some.ensures.lookup.1 refl
    (among_joined c.args.awaited c.args.writes.now c.args.raising.now c.runs-in-Some.result.now c.runs.result.now c.runs-in-Some.ensures.all c.runs.ensures.all c.requires.raising)

pub returns-in-Some : goal.returns-in-Some
returns-in-Some c =
    IfSome_then c.staying_in.result c.staying_in.ensures
    (λ last puts.
    subst (TellAlike c.args.table.now c.args.poll (last ∷ []))
    (staying_joined c.args.awaited c.args.writes.now c.args.raising.now c.runs-in-Some.result.now c.runs.result.now c.runs-in-Some.ensures.all c.runs.ensures.all c.requires.raising c.args.table.now c.args.poll)
    (told_ended c.args.table.now c.requires.ordered c.args.poll c.args.awaited (joined c.runs-in-Some.result.now) c.runs.result.now c.guess.result c.in-Some.these.now c.in-Some.these.now [] (last ∷ []) true c.in-Some.ensures.lookup.3.0 c.in-Some.ensures.lookup.1 refl puts refl))
