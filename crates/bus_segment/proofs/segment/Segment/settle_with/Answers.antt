use Rattle.std.proofs.Common.{◌≡◌, ℕ, List, length, drop, take, ◌++◌, sym, ap, subst, ◌∙◌, arith}
use Rattle.std.proofs.Math.Seq.{take-append_seam}
use Rattle.bus_segment.specs.Settle.{SettlesAt}
use Rattle.bus_segment.proofs.segment.Segment.settle_with.Goals as goal

-- a list of as many is written over the old one
written_over : {X : Type 0} (old new : List X) (n : ℕ) → n ≡ length new → new ≡ take n (new ++ drop (length new) old)
written_over old new n many = sym (ap (λ k. take k (new ++ drop (length new) old)) many ∙ take-append_seam new (drop (length new) old))

pub returns-clause-settles : goal.returns-clause-settles
returns-clause-settles g c =
    let E = g.L.LaneEnd in
    let here = c.args.self.now.ends in
    let there = c.args.other.now.ends in
    let here_now = c.settle_ends.new.here in
    let there_now = c.settle_ends.new.there in
    let here_many : here.len ≡ length here_now = omega (arith, c.settle_ends.ensures.here_many, c.as_mut_slice.ensures.len) in
    let there_many : there.len ≡ length there_now = omega (arith, c.settle_ends.ensures.there_many, c.as_mut_slice-2.ensures.len) in
    let now = c.settle_ends.ensures in
    let from_here = subst (λ old. SettlesAt E.had E.sent E.got E.kept E.paired old c.args.place c.as_mut_slice-2.result.now c.args.other_place here_now there_now) c.as_mut_slice.ensures.value now in
    let from_both = subst (λ old. SettlesAt E.had E.sent E.got E.kept E.paired here.items c.args.place old c.args.other_place here_now there_now) c.as_mut_slice-2.ensures.value from_here in
    let to_here = subst (λ new. SettlesAt E.had E.sent E.got E.kept E.paired here.items c.args.place there.items c.args.other_place new there_now) (written_over here.items here_now here.len here_many) from_both in
    subst (λ new. SettlesAt E.had E.sent E.got E.kept E.paired here.items c.args.place there.items c.args.other_place (take here.len (here_now ++ drop (length here_now) here.items)) new) (written_over there.items there_now there.len there_many) to_here
