use Rattle.std.proofs.Common.{◌≡◌, ◌^◌, ◌<◌, List, length, map, refl, sym, ap, subst, ◌∙◌}
use Rattle.law_untagged.specs.ApartTest.{is_apart}
use Rattle.safe_model.specs.Clocks.{at_place}
use Rattle.safe_model.specs.said.Said.{safe, lost, nowhere, vain}
use Rattle.board_writes.specs.Rows.{table_of}
use Rattle.safe_said.specs.AllSaid.{Line as OpVerdict, line, all_said}
use Rattle.safe_said.specs.declared.verdict.OpSaid.{OpSaid}
use Rattle.command_safe.specs.safe.Counts.{counts_of, ending_of}
use Rattle.command_safe.specs.safe.Lines.{lines_of}
use Rattle.command_safe.proofs.safe.CountLemmas.{said_few}
use Rattle.command_safe.proofs.safe.ListedLemmas.{listed}
use Rattle.command_safe.proofs.safe.SaysLemmas.{of_both}
use Rattle.command_safe.proofs.safe.answer.said_by_table.Goals as goal

pub text_of-requires : goal.text_of-requires
text_of-requires c =
    let P : List OpSaid → Type 0 = λ said. length said < 2 ^ 32 in
    subst P (sym c.as_slice.ensures.value) (said_few c.args.tree.now (table_of c.args.made.now.table) c.in-Ok.said.items c.board-valid.ensures.valid c.in-Ok.ensures)

pub returns-in-Ok-clause-ok : goal.returns-in-Ok-clause-ok
returns-in-Ok-clause-ok c =
    let board = c.args.tree.now in
    let table = table_of c.args.made.now.table in
    let valid = c.board-valid.ensures.valid in
    let largest = c.requires.largest in
    let is : map line c.as_slice.result.now ≡ all_said board table = ap (map line) c.as_slice.ensures.value ∙ c.in-Ok.ensures in
    of_both
    c.text_of.result
    _
    _
    _
    c.text_of.ensures.written
    c.text_of.ensures.ends
    (λ answer written ends. record {
      valid = valid;
      table = table;
      largest = largest;
      said = all_said board table;
      exact = refl;
      written = written ∙ ap (λ (said : List OpVerdict). lines_of board said (is_apart board)) is;
      ends = ends ∙ ap (λ (said : List OpVerdict). ending_of (counts_of said)) is;
      returns = λ h r word value says run. c.said_safe_returns.ensures board table h r word value valid largest (listed board table r (safe word value) says) run;
      lost = λ h w aborted word says run. c.lost_never_lands.ensures board table h w aborted word valid run (listed board table w (lost aborted) says);
      nowhere = λ h r aborted says run. c.nowhere_never_reads.ensures board table h r aborted valid run (listed board table (at_place r.master r.index) (nowhere aborted) says);
      vain = λ e h p want outcome says awaits run. c.said_vain_is_not_met.ensures board table e h p want outcome valid largest (listed board table (at_place p.master p.index) vain says) awaits run;
      writes = λ h w writes_it some run complete ends_it. c.ended_writes_land.ensures board h w valid run complete writes_it some ends_it;
      unreached = λ h o on by step place not_reached run. c.unreached_is_never_done.ensures board table h o on by step place valid largest not_reached run;
      alike = λ apart h. c.apart_runs_are_alike.ensures board h valid ((c.apart_is_tested.ensures board valid).0 apart);
    })
