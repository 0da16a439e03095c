use Rattle.std.proofs.Common.{◌≡◌, List, [], ◌∷◌, ◌++◌, ap, arith, ◌∙◌}
use Rattle.std.proofs.lemmas.Result.{err_from_is_err_and}
use Rattle.pci_command.specs.declared.phases.Phase.{Phase}
use Rattle.board_statements.proofs.BurstLemmas.{begins, fails_first, leaves}
use Rattle.board_statements.proofs.masters.burst_words.Goals as goal

pub returns-in_err-data_word : goal.returns-in_err-data_word
returns-in_err-data_word c =
    let p = err_from_is_err_and c.from_residual.result c.from_residual.ensures.1 in
    rw (p.1, p.2) (fails_first c.args.words.now _ c.in_err-data_word.ensures)

pub loop-words-init : goal.loop-words-init
loop-words-init c =
    let phase = c.in_ok-data_word.field-0 in
    let first : c.push.new.self ≡ phase ∷ [] = c.push.ensures ∙ ap (λ (phases : List Phase). phases ++ phase ∷ []) c.new-phases.ensures in
    record {
      few = rw first (omega arith);
      kept = rw first (begins phase c.args.words.now c.data_word.new.self c.in_ok-data_word.ensures);
    }

pub loop-words-preserved : goal.loop-words-preserved
loop-words-preserved c = record {
  few = c.loop-words.invariant.few;
  kept =
      let most = c.loop-words.invariant.few in
      let last = c.if-len-lt-MOST_DWORDS.false in
      let size = c.len.ensures.value in
      leaves _ _ _ _ _ _ c.in_ok-phase.ensures (omega arith) c.loop-words.invariant.kept;
}
