use Rattle.law_fresh.proofs.BackLemmas.{known_told, told_known}
use Rattle.law_fresh.proofs.told_is_known.Goals as goal

pub returns : goal.returns
returns c =
    record {
      known = λ board h w r valid run told. told_known board w h run r told;
      told = λ board h w r valid run known. known_told board w h run r known;
    }
