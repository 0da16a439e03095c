use Rattle.law_local.proofs.ApartLemmas.{IsFit-valid}
use Rattle.law_local.proofs.EndLemmas.{lawful_known}
use Rattle.law_local.proofs.TransferLemmas.{wants_local}
use Rattle.law_local.proofs.AnswerLemmas.{answer_local}
use Rattle.law_local.proofs.answers_are_local.Goals as goal

pub returns : goal.returns
returns c = record {
  wanted = λ board sent h joint bus by o. wants_local board sent h bus joint.joint joint.run by o;
  answered = λ board sent h valid joint bus by o wanted. answer_local board (IsFit-valid board valid) sent h bus joint.joint joint.run by o wanted;
  tested = λ board sent h joint lane item. lawful_known board sent h joint.joint lane item;
}
