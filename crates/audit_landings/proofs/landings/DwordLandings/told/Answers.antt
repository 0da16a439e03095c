use Rattle.std.proofs.Common.{subst, sym, ◌∙◌}
use Rattle.audit_clocks.specs.Tables.{writes_in}
use Rattle.audit_landings.specs.Told.{Tells, ToldsFor, ToldOf, IsTold}
use Rattle.audit_landings.specs.Notes.{LandingNotes}
use Rattle.audit_landings.proofs.TellLemmas.{found_stands, put_stands, tells_same}
use Rattle.audit_landings.proofs.landings.DwordLandings.told.Goals as goal

pub told_further-requires : goal.told_further-requires
told_further-requires c =
    let its = c.self.inside in
    let stand : ToldsFor c.args.masters its.whole c.args.starts.now its.landed its.tolds =
    subst (λ (notes : LandingNotes). ToldsFor c.args.masters notes.whole c.args.starts.now notes.landed notes.tolds) (sym c.self.view_is) c.requires in
    subst (λ xs. ToldOf its.whole c.args.starts.now xs c.in_ok-old.old) (sym c.of.ensures)
    (found_stands c.args.masters its.whole c.args.starts.now its.landed its.tolds c.args.word c.take-found.result c.in_ok-old.old stand c.take-found.ensures.found c.in_ok-old.ensures).stands

pub returns-clause-tells : goal.returns-clause-tells
returns-clause-tells c =
    let its = c.self.inside in
    let stand : ToldsFor c.args.masters its.whole c.args.starts.now its.landed its.tolds =
    subst (λ (notes : LandingNotes). ToldsFor c.args.masters notes.whole c.args.starts.now notes.landed notes.tolds) (sym c.self.view_is) c.requires in
    let was = found_stands c.args.masters its.whole c.args.starts.now its.landed its.tolds c.args.word c.take-found.result c.in_ok-old.old stand c.take-found.ensures.found c.in_ok-old.ensures in
    subst (λ (notes : LandingNotes). Tells c.args.masters notes.whole c.args.starts.now (writes_in c.args.word notes.landed) c.in_ok-numbers.numbers) c.self.view_is
    (tells_same _ c.args.masters its.whole c.args.starts.now c.of.result.now (writes_in c.args.word its.landed) c.in_ok-next.next.numbers c.in_ok-numbers.numbers c.in_ok-next.ensures.tells was.authors c.of.ensures c.in_ok-numbers.ensures)

pub returns-clause-stand : goal.returns-clause-stand
returns-clause-stand c =
    let its = c.self.inside in
    let stand : ToldsFor c.args.masters its.whole c.args.starts.now its.landed its.tolds =
    subst (λ (notes : LandingNotes). ToldsFor c.args.masters notes.whole c.args.starts.now notes.landed notes.tolds) (sym c.self.view_is) c.requires in
    let was = found_stands c.args.masters its.whole c.args.starts.now its.landed its.tolds c.args.word c.take-found.result c.in_ok-old.old stand c.take-found.ensures.found c.in_ok-old.ensures in
    let is_told : IsTold c.args.masters its.whole c.args.starts.now (writes_in c.args.word its.landed) c.in_ok-next.next =
    record {
      authors = c.in_ok-next.ensures.tells.authors ∙ was.authors;
      stands = subst (λ xs. ToldOf its.whole c.args.starts.now xs c.in_ok-next.next) c.of.ensures c.in_ok-next.ensures.stands;
    } in
    put_stands c.args.masters its.whole c.args.starts.now its.landed its.tolds c.take-found.new.self c.put.new.self c.args.word c.in_ok-next.next stand c.take-found.ensures.others c.in_ok-put.ensures is_told
