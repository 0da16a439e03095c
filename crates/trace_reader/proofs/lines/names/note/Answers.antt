use Rattle.std.proofs.Common.{◌≡◌, false, ap, sym, ◌∙◌}
use Rattle.std.specs.Prelude.{is_some}
use Rattle.std.proofs.lemmas.Map.Text.{btree_map_updates_str}
use Rattle.trace_reader.specs.lines.Names.{place_of}
use Rattle.trace_reader.proofs.lines.NameLemmas.{name_is_new}
use Rattle.trace_reader.proofs.lines.names.note.Goals as goal

pub returns : goal.returns
returns c =
    let new : is_some (place_of c.args.places.now c.args.name.now) ≡ false = ap is_some (sym c.place_of.ensures) ∙ sym c.is_some.ensures ∙ c.if-is_some.false in
    λ word. btree_map_updates_str c.args.name.now c.args.places.now c.insert.new.self _ c.in_ok-insert.ensures.updates word ∙ name_is_new (place_of c.args.places.now) c.args.name.now word c.args.place new
