use Rattle.std.proofs.Common.{◌≡◌, ◌+◌, ◌<◌, ℕ, length, List, sym, ap, subst, ◌∙◌}
use Rattle.bus_agents.specs.Through.{count_in, added}
use Rattle.bus_agents.proofs.ThroughLemmas.{bytes_added, written}
use Rattle.bus_agents.proofs.through.Through.add.Goals as goal

pub invariant_of-self : goal.invariant_of-self
invariant_of-self c =
    let old : List (List ℕ) = c.self.inside.gone.items in
    let new : List (List ℕ) = c.add_at.new.gone in
    let value : c.as_mut_slice.result.now ≡ old = c.as_mut_slice.ensures.value in
    let same_length : length new ≡ length old = c.add_at.auto.gone ∙ ap (λ (l : List (List ℕ)). length l) value in
    let whole : length old ≡ c.self.inside.gone.len = ap (λ (l : List (List ℕ)). length l) (sym value) ∙ c.as_mut_slice.ensures.len in
    let is : new ≡ added c.args.op c.args.phases old = c.add_at.ensures ∙ ap (added c.args.op c.args.phases) value in
    let fits : count_in old c.args.op + c.args.phases < 256 = subst (λ (g : List (List ℕ)). count_in g c.args.op + c.args.phases < 256) (sym c.self.view_is) c.requires in
    bytes_added old _ c.args.op c.args.phases c.self.invariant fits (written c.self.inside.gone.len new old same_length whole ∙ is)
