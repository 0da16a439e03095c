use Rattle.std.proofs.Common.{◌<◌, length, sym, ap, subst, ◌∙◌}
use Rattle.history_model.specs.Runs.{history_of}
use Rattle.draw_told.proofs.ToldLemmas.{told_all}
use Rattle.draw_told.proofs.told.told_by.Goals as goal

pub returns : goal.returns
returns c = λ board events ends landed found_is count_is.
    let h = history_of events in
    told_all board events c.args.found c.as_slice.result.now c.as_slice-2.result.now c.as_slice-3.result.now c.in_ok-spans.spans.items c.as_slice-4.result.now c.in_ok-loud.loud c.in_ok-keys.keys.items
    found_is c.as_slice.ensures c.as_slice-2.ensures c.as_slice-3.ensures
    (c.in_ok-spans.ensures.told board h ends landed) c.in_ok-loud.ensures c.as_slice-4.ensures.value
    (λ given n above within. c.in_ok-keys.ensures board h ends given n above (subst (λ many. n < many) (sym count_is) within))

pub keys_of-requires : goal.keys_of-requires
keys_of-requires c =
    ap length c.as_slice-3.ensures ∙ sym (ap length c.as_slice.ensures) ∙ sym c.in_ok-spans.ensures.many ∙ sym (ap length c.as_slice-4.ensures.value)
